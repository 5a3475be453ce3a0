use Rattle.std.proofs.Common.{◌≡◌, ◌∷◌, ◌++◌, [], IfSome, Option, inr, length, map, sym, ap, subst, ◌∙◌, All, List, get_or, take, ℕ, ◌+◌, ◌<◌}
use Rattle.std.proofs.lemmas.List.{map-append, take_more}
use Rattle.std.proofs.lemmas.List.Elements.{All-push}
use Rattle.wse_edits.specs.Range.{IsRangeOf, live_range}
use Rattle.wse_edits.specs.declared.range.TextRange.{TextRange}
use Rattle.wse_edits.proofs.InsideLemmas.{inside_of-first, inside_of-none, IsClearBefore-more}
use Rattle.wse_edits.proofs.range.ranges_of.Goals as goal

map-more : {X Y : Type 0} (f : X → Y) (xs : List X) (i : ℕ) (x : X) → i < length xs → x ≡ get_or xs i x → map f (take (i + 1) xs) ≡ map f (take i xs) ++ f x ∷ []
map-more f xs i x low is = ap (map f) (take_more xs i x low) ∙ map-append f (take i xs) (get_or xs i x ∷ []) ∙ ap (λ y. map f (take i xs) ++ f y ∷ []) (sym is)

pub returns-in-Err-clause-err : goal.returns-in-Err-clause-err
returns-in-Err-clause-err c =
    inr (inside_of-first c.args.text.now c.args.enc c.args.edits.now c.loop-number.number c.index-edits-number.result c.in-Err.inside c.loop-number-test.true c.loop-number.invariant.clear c.index-edits-number.is c.in-Err.ensures.err)

pub loop-number-preserved : goal.loop-number-preserved
loop-number-preserved c =
    let lies : Option TextRange → Type 0 = λ range. IfSome range (IsRangeOf c.args.text.now) in
    let pushed = c.in_ok-push-in-Ok.ensures.items in
    record {
      value =
          pushed
          ∙ (λ k. c.loop-number.invariant.value k ++ c.in-Ok.ensures.value k ∷ [])
          ∙ sym (map-more (live_range c.args.text.now c.args.enc) c.args.edits.now c.loop-number.number c.index-edits-number.result c.loop-number-test.true c.index-edits-number.is);
      within = subst (All lies) (sym pushed) (All-push lies c.loop-number.ranges.items c.in-Ok.range c.loop-number.invariant.within c.in-Ok.ensures.within);
      clear = IsClearBefore-more c.args.text.now c.args.enc c.args.edits.now c.loop-number.number c.index-edits-number.result c.loop-number-test.true c.loop-number.invariant.clear c.index-edits-number.is c.in-Ok.ensures.ok;
    }

pub returns-clause-ok : goal.returns-clause-ok
returns-clause-ok c = inside_of-none c.args.text.now c.args.enc c.args.edits.now c.loop-number.number c.loop-number-test.false c.loop-number.invariant.clear
