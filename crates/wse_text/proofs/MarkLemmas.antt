-- Marks on a line, put on a walk along it.
use Rattle.std.proofs.Common.{◌≡◌, ℕ, ◌+◌, ◌-◌, ◌≤◌, false, List, ◌++◌, drop, subst, ap, ◌∙◌, arith}
use Rattle.std.specs.Char.{encode_utf8, len_utf8}
use Rattle.std.specs.Str.{IsCharBoundary, IsUtf8}
use Rattle.std.proofs.lemmas.Bool.Decides.{nat_tests}
use Rattle.std.proofs.lemmas.Str.{len_utf8_bounds}
use Rattle.wse_path.specs.declared.position.Encoding.{Encoding}
use Rattle.wse_path.specs.declared.position.Encoding.TheVariants.{Utf8, Utf16, Utf32}
use Rattle.wse_text.specs.declared.index.Mark.{Mark}
use Rattle.wse_text.specs.Index.{IsMark}
use Rattle.wse_text.specs.Place.{ends_line, units_of, line_at, place_on_line}
use Rattle.wse_text.proofs.WalkLemmas.{IsWalk, goes_on}

-- A code point has no more units than bytes.
pub units_within : (enc : Encoding) (c : ℕ) → units_of enc c ≤ len_utf8 c
units_within Utf8 c = omega arith
units_within Utf16 c = grind (arith, nat_tests)
units_within Utf32 c = (len_utf8_bounds c).0

-- Walks from `start` with any number of characters that isn't below `units` stand at `place`, with `rest` before them.
pub record IsPassed (text : List ℕ) (enc : Encoding) (start place units : ℕ) (rest : List ℕ) : Type 0 where
  pub walk : (character : ℕ) → units ≤ character → IsWalk text enc start character place (character - units) rest
  pub few : units ≤ place

module _ {text : List ℕ} {enc : Encoding} {start : ℕ} where
  pub IsPassed-start : (rest : List ℕ) → IsCharBoundary text start → rest ≡ drop start text → IsPassed text enc start start 0 rest
  IsPassed-start rest boundary behind = record {
    walk = λ character low. record {
      boundary = boundary;
      behind = behind;
      same = ap (place_on_line enc start (line_at text start)) {x = character - 0} {y = character} (omega arith);
    };
    few = omega arith;
  }

  module _ {place units : ℕ} {rest : List ℕ} (passed : IsPassed text enc start place units rest) where
    pub IsPassed-boundary : IsCharBoundary text place
    IsPassed-boundary = (passed.walk units (omega arith)).boundary

    -- There a mark may be put.
    pub IsMark-passed : IsMark text enc (record { start = start; place = place; units = units })
    IsMark-passed = record { boundary = IsPassed-boundary; same = λ character low. (passed.walk character low).same }

    -- One code point more.
    pub IsPassed-more : IsUtf8 text → (c : ℕ) (more : List ℕ) → rest ≡ encode_utf8 c ++ more → ends_line c ≡ false → IsPassed text enc start (place + len_utf8 c) (units + units_of enc c) more
    IsPassed-more utf8 c more next on = record {
      walk = λ character low.
          let left : character - units - units_of enc c ≡ character - (units + units_of enc c) = omega arith in
          subst (λ left. IsWalk text enc start character (place + len_utf8 c) left more) left (goes_on (passed.walk character (omega arith)) utf8 c more next on (omega arith));
      few = let few = passed.few in let within = units_within enc c in omega arith;
    }

-- From a mark of the line the character lies where it lies from the line's start.
pub place_from_mark : (text : List ℕ) (enc : Encoding) (mark : Mark) (start character : ℕ) → IsMark text enc mark → mark.start ≡ start → mark.units ≤ character → place_on_line enc mark.place (line_at text mark.place) (character - mark.units) ≡ place_on_line enc start (line_at text start) character
place_from_mark text enc mark start character is same low =
    is.same character low ∙ ap (λ s. place_on_line enc s (line_at text s) character) same
