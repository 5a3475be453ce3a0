-- What is prepared is what the effects leave.
use Rattle.std.proofs.Common.{◌≡◌, ◌≢◌, ℕ, ◌+◌, ◌<◌, ◌≤◌, true, false, List, [], length, Option, Some, None, sym, ap, subst, ◌∙◌, arith}
use Rattle.std.specs.List.{All, AllByRecursion}
use Rattle.std.specs.FinMap.{is_sorted}
use Rattle.std.proofs.lemmas.List.Elements.{All-from_recursion}
use Rattle.wse_path.specs.Path.{Path}
use Rattle.wse_path.specs.Order.{path_cmp, is_named}
use Rattle.wse_path.specs.Versions.{Numbers, VersionsState, version_of, bumped_by}
use Rattle.wse_path.proofs.VersionLemmas.{IsSmall}
use Rattle.wse_element.specs.declared.effect.Effect.{Effect}
use Rattle.wse_element.specs.Record.{Record}
use Rattle.wse_element.specs.State.{StacksState}
use Rattle.wse_element.specs.Effects.{begun, left_by}
use Rattle.wse_element.proofs.FoldLemmas.{serial_stays}
use Rattle.wse_stacks.specs.declared.prepared.Prepared.{Prepared}
use Rattle.wse_stacks.specs.Draft.{DraftState, next_drafts, first_stop, begun_draft}
use Rattle.wse_element.specs.Laws.{PushesParts}
use Rattle.wse_stacks.specs.Stacks.{IsHistory}
use Rattle.wse_stacks.specs.Turns.{look, AreNoted, Turned}
use Rattle.wse_stacks.specs.Prepared.{IsPrepared, IsPreparedIfAny, AreStacks}
use Rattle.wse_stacks.proofs.DraftLemmas.{IsKept, kept_each, bounded_each, state_after_all, id_bounds}
use Rattle.wse_stacks.proofs.LookLemmas.{look_each}
use Rattle.wse_stacks.proofs.TurnLemmas.{turned_as_noted, turned_counted, counted_more, small_bumps}

-- a history that is begun
kept_begun : (h : StacksState) → IsHistory h → IsKept (begun h)
kept_begun h history =
    let bounds = id_bounds h history.bounded in
    record { parts = history.parts; linked = history.linked; positive = let p : 1 ≤ h.next_id = bounds.positive in (let q : 0 < h.next_id = omega arith in q) }

-- all that was found about the effects
pub record Found (h : StacksState) (effects : List Effect) (d : DraftState) (noted : Numbers) : Type 0 where
  pub history : IsHistory h
  pub some : effects ≢ []
  pub goes : first_stop (begun_draft h) effects ≡ None
  pub parts : AllByRecursion PushesParts effects
  pub draft : d ≡ next_drafts (begun_draft h) effects
  pub rises : is_sorted path_cmp noted ≡ true
  pub marks : AreNoted h.records d.state.records d.touched noted

left : (h : StacksState) (effects : List Effect) (d : DraftState) → d ≡ next_drafts (begun_draft h) effects → d.state ≡ left_by effects h
left h effects d e = ap (λ (x : DraftState). x.state) e ∙ state_after_all (begun_draft h) effects

history_left : (h : StacksState) (effects : List Effect) (d : DraftState) (ns : Numbers) → Found h effects d ns → IsHistory (left_by effects h)
history_left h effects d ns found =
    let kept = kept_each (begun_draft h) effects found.parts found.goes (kept_begun h found.history) in
    let bounded = bounded_each (begun_draft h) effects found.some found.goes in
    subst (λ s. IsHistory s) (state_after_all (begun_draft h) effects) (record { parts = kept.parts; linked = kept.linked; bounded = bounded })

looks_same : (h : StacksState) (effects : List Effect) (d : DraftState) (ns : Numbers) → Found h effects d ns → (p : Path) → is_named d.touched p ≡ false → look d.state.records p ≡ look h.records p
looks_same h effects d ns found p none =
    ap (λ (x : DraftState). look x.state.records p) found.draft
    ∙ look_each (begun_draft h) effects p found.parts found.goes (kept_begun h found.history) (subst (λ (x : DraftState). is_named x.touched p ≡ false) found.draft none)

pub is_prepared : (h : StacksState) (effects : List Effect) (d : DraftState) (ns : Numbers) (p : Prepared) → Found h effects d ns → p.effects ≡ effects → p.records ≡ d.state.records → p.next_id ≡ d.state.next_id → p.turned.items ≡ ns → IsPrepared h p
is_prepared h effects d ns p found same records next_id turned =
    let is = left h effects d found.draft in
    let serial = sym (ap (λ (s : StacksState). s.serial) is ∙ serial_stays (begun h) effects) in
    let there = turned_as_noted h.records d.state.records d.touched ns found.marks (looks_same h effects d ns found) in
    record {
      state = (λ i. record { records = records i; next_id = next_id i; serial = serial i }) ∙ is ∙ ap (λ es. left_by es h) (sym same);
      history = subst (λ es. IsHistory (left_by es h)) (sym same) (history_left h effects d ns found);
      rises = ap (is_sorted path_cmp) turned ∙ found.rises;
      ones = subst (λ (es : Numbers). AllByRecursion (λ e. e.1 ≡ 1) es) (sym turned) found.marks.ones;
      turns = subst (λ (es : Numbers). Turned h.records p.records (λ _. 0) (version_of es)) (sym turned) (subst (λ (rs : List Record). Turned h.records rs (λ _. 0) (version_of ns)) (sym records) there);
    }

-- ---- what is done then

pub small : (h : StacksState) (v : VersionsState) (p : Prepared) → IsHistory h → ((q : Path) → version_of v.entries q ≤ h.serial) → IsPrepared h p → All (IsSmall v.entries) p.turned.items
small h v p history counted is =
    let bounds = id_bounds h history.bounded in
    All-from_recursion (IsSmall v.entries) p.turned.items (small_bumps p.turned.items v.entries h.serial bounds.serial is.ones counted)

pub are_stacks_then : (h : StacksState) (v new : VersionsState) (p : Prepared) → ((q : Path) → version_of v.entries q ≤ h.serial) → IsPrepared h p → new.entries ≡ bumped_by p.turned.items v.entries → AreStacks (record { records = p.records; next_id = p.next_id; serial = h.serial + 1 }) new None
are_stacks_then h v new p counted is entries = record {
  history = subst (λ s. IsHistory s) (sym is.state) is.history;
  counted = λ q. subst (λ (es : Numbers). version_of es q ≤ h.serial + 1) (sym entries) (counted_more p.turned.items v.entries h.serial q is.rises is.ones (counted q));
  ready = tt;
}

pub turned_then : (h : StacksState) (v new : VersionsState) (p : Prepared) → IsPrepared h p → new.entries ≡ bumped_by p.turned.items v.entries → Turned h.records p.records (version_of v.entries) (version_of new.entries)
turned_then h v new p is entries = subst (λ (es : Numbers). Turned h.records p.records (version_of v.entries) (version_of es)) (sym entries) (turned_counted h.records p.records p.turned.items v.entries is.rises is.turns)

pub ready_of : (h : StacksState) (spare : ℕ) (o : Option Prepared) (p : Prepared) → o ≡ Some p → IsPreparedIfAny h spare o → IsPrepared h p × (length p.turned.items ≤ spare)
ready_of h spare o p e ready = subst (λ x. IsPreparedIfAny h spare x) e ready

-- stacks of which nothing turned and nothing is prepared
pub fresh : (h : StacksState) (v : VersionsState) → IsHistory h → v.entries ≡ [] → AreStacks h v None
fresh h v history none = record {
  history = history;
  counted = λ q. subst (λ (es : Numbers). version_of es q ≤ h.serial) (sym none) (let z : 0 ≤ h.serial = omega arith in z);
  ready = tt;
}
