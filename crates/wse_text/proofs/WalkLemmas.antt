-- A walk along a line, one code point after another.
use Rattle.std.proofs.Common.{◌≡◌, ℕ, ◌+◌, ◌-◌, ◌<◌, ◌≤◌, true, false, List, [], ◌∷◌, ◌++◌, length, drop, Ok, Err, sym, ap, ◌∙◌, arith}
use Rattle.std.specs.Char.{encode_utf8, len_utf8}
use Rattle.std.specs.Str.{IsCharBoundary, IsUtf8}
use Rattle.std.proofs.lemmas.Str.{IsCharBoundary-past_char, IsUtf8-drop, drop_past_char}
use Rattle.wse_path.specs.declared.position.Encoding.{Encoding}
use Rattle.wse_text.specs.Place.{ends_line, units_of, line_at, place_on_line}
use Rattle.wse_text.proofs.LineLemmas.{line_at_text_end, line_at_line_end, line_at-cons}
use Rattle.wse_text.proofs.UnitLemmas.{place_on_line-nil, place_on_line-zero, place_on_line-inside, place_on_line-cons}

-- The walk from `start` with `character` units stands at `place`, with `left` of them and `rest` of the text before it.
pub record IsWalk (text : List ℕ) (enc : Encoding) (start character place left : ℕ) (rest : List ℕ) : Type 0 where
  pub boundary : IsCharBoundary text place
  pub behind : rest ≡ drop place text
  pub same : place_on_line enc place (line_at text place) left ≡ place_on_line enc start (line_at text start) character

module _ {text : List ℕ} {enc : Encoding} {start character place left : ℕ} {rest : List ℕ} (walk : IsWalk text enc start character place left rest) where
  pub ends_with_units : left ≡ 0 → Ok place ≡ place_on_line enc start (line_at text start) character
  ends_with_units none = sym (ap (place_on_line enc place (line_at text place)) none ∙ place_on_line-zero enc place (line_at text place)) ∙ walk.same

  ends_with_line : line_at text place ≡ [] → Ok place ≡ place_on_line enc start (line_at text start) character
  ends_with_line end = sym (ap (λ points. place_on_line enc place points left) end ∙ place_on_line-nil enc place left) ∙ walk.same

  pub ends_with_text : length rest ≡ 0 → Ok place ≡ place_on_line enc start (line_at text start) character
  ends_with_text end = ends_with_line (line_at_text_end text place (ap length (sym walk.behind) ∙ end))

  module _ (utf8 : IsUtf8 text) (c : ℕ) (more : List ℕ) (next : rest ≡ encode_utf8 c ++ more) where
    at_next : drop place text ≡ encode_utf8 c ++ more
    at_next = sym walk.behind ∙ next

    pub ends_at_line_end : ends_line c ≡ true → Ok place ≡ place_on_line enc start (line_at text start) character
    ends_at_line_end end = ends_with_line (line_at_line_end text more place c utf8 walk.boundary at_next end)

    points : ends_line c ≡ false → line_at text place ≡ c ∷ line_at text (place + len_utf8 c)
    points on = line_at-cons text more place c utf8 walk.boundary at_next on

    pub ends_inside : ends_line c ≡ false → (left ≡ 0 → ⊥) → left < units_of enc c → Err (record { char_start = place }) ≡ place_on_line enc start (line_at text start) character
    ends_inside on some low =
        sym (ap (λ cs. place_on_line enc place cs left) (points on) ∙ place_on_line-inside enc place c (line_at text (place + len_utf8 c)) left (omega arith) low) ∙ walk.same

    pub goes_on : ends_line c ≡ false → units_of enc c ≤ left → IsWalk text enc start character (place + len_utf8 c) (left - units_of enc c) more
    goes_on on low = record {
      boundary = IsCharBoundary-past_char text more place c walk.boundary.0 (IsUtf8-drop text place utf8 walk.boundary) at_next;
      behind = sym (drop_past_char text more place c at_next);
      same = sym (ap (λ cs. place_on_line enc place cs left) (points on) ∙ place_on_line-cons enc place c (line_at text (place + len_utf8 c)) left low) ∙ walk.same;
    }
