use Rattle.std.proofs.Common.{◌≡◌, ℕ, List, Option, ◌-◌, position, drop, take, length, sym, ap, subst, ◌∙◌}
use Rattle.std.proofs.lemmas.List.{take_rest}
use Rattle.wse_io.specs.Lines.{is_line_end}
use Rattle.wse_io.specs.Held.{IsSearched}
use Rattle.wse_io.proofs.HeldLemmas.{searched_found, searched_none}
use Rattle.wse_io.proofs.held.Held.line_end.Goals as goal

-- The part of a slice from a place on is searched.
rest_of : (bytes items : List ℕ) (at : ℕ) (found : Option ℕ) → bytes ≡ items → found ≡ position is_line_end (take (length bytes - at) (drop at bytes)) → position is_line_end (drop at items) ≡ found
rest_of bytes items at found same is = ap (λ l. position is_line_end (drop at l)) (sym same) ∙ ap (position is_line_end) (sym (take_rest bytes at)) ∙ sym is

pub invariant_of-self : goal.invariant_of-self
invariant_of-self c =
    let old = c.self.inside in
    (searched_found old.bytes.items old.start old.searched c.self.invariant c.in-Some.at (rest_of _ _ old.searched _ c.deref.ensures.value c.first_line_end.ensures ∙ c.in-Some.is)).0

pub invariant_of-self-in-None : goal.invariant_of-self-in-None
invariant_of-self-in-None c =
    let old = c.self.inside in
    let is : length old.bytes.items ≡ c.len-self-inside.result = ap length (sym c.deref.ensures.value) ∙ c.deref.ensures.len ∙ sym c.len-self-inside.ensures in
    subst (IsSearched old.bytes.items old.start) is (searched_none old.bytes.items old.start old.searched c.self.invariant (rest_of _ _ old.searched _ c.deref.ensures.value c.first_line_end.ensures ∙ c.in-None.is)).0

pub returns-in-Some-clause-place : goal.returns-in-Some-clause-place
returns-in-Some-clause-place c =
    let old = c.self.inside in
    sym ((searched_found old.bytes.items old.start old.searched c.self.invariant c.in-Some.at (rest_of _ _ old.searched _ c.deref.ensures.value c.first_line_end.ensures ∙ c.in-Some.is)).1) ∙ ap (position is_line_end) c.self.view_is

pub returns-in-None-clause-place : goal.returns-in-None-clause-place
returns-in-None-clause-place c =
    let old = c.self.inside in
    sym ((searched_none old.bytes.items old.start old.searched c.self.invariant (rest_of _ _ old.searched _ c.deref.ensures.value c.first_line_end.ensures ∙ c.in-None.is)).1) ∙ ap (position is_line_end) c.self.view_is
