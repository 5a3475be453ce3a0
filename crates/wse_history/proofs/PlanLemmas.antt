-- The plan of an edit is what its outcome records, and may be recorded.
use Rattle.std.proofs.Common.{◌≡◌, ◌≢◌, inl, inr, ℕ, ◌+◌, ◌-◌, ◌*◌, ◌^◌, ◌≤◌, Bool, true, false, cond, List, [], ◌∷◌, ◌++◌, map, length, nat_eq, Option, Some, None, refl, sym, ap, subst, ◌∙◌, append_assoc, arith}
use Rattle.std.specs.Prelude.{filter, if◌then◌else◌}
use Rattle.std.specs.List.{All, AllByRecursion}
use Rattle.std.specs.Option.{option_or, option_map_or}
use Rattle.std.specs.FinMap.{is_sorted}
use Rattle.std.proofs.lemmas.Bool.{false≢true, eqb-true}
use Rattle.std.proofs.lemmas.List.Elements.{recursion_from_All, All-from_recursion}
use Rattle.wse_path.specs.Path.{Path}
use Rattle.wse_path.specs.Order.{path_cmp}
use Rattle.wse_path.specs.PathMap.{capped}
use Rattle.wse_path.specs.Tree.{Entries, content}
use Rattle.wse_path.specs.Changes.{is_same, changes_between, contents_of, LeadToTree}
use Rattle.wse_path.specs.Versions.{Numbers, version_of, known, bumped, bumped_by}
use Rattle.wse_path.specs.declared.change.Change.{Change}
use Rattle.wse_path.specs.declared.change.Numbered.{Numbered}
use Rattle.wse_path.specs.declared.edit.Edit.{Edit}
use Rattle.wse_path.specs.declared.limits.Hit.{Hit}
use Rattle.wse_path.specs.declared.limits.Limits.{Limits}
use Rattle.wse_path.specs.declared.limits.Which.TheVariants.{Known, Weight, Serial}
use Rattle.wse_path.proofs.ChangeLemmas.{AllTrue}
use Rattle.wse_path.proofs.GatheredLemmas.{no_changes, is_same_itself}
use Rattle.wse_path.proofs.LeadLemmas.{lead_true}
use Rattle.wse_element.specs.declared.state.PartState.TheVariants.{Incompatible}
use Rattle.wse_element.specs.declared.effect.Effect.{Effect}
use Rattle.wse_element.specs.declared.effect.Effect.TheVariants.{Push, MoveBack, MoveForward, Split, Drop, Invalidate, Bump, Set}
use Rattle.wse_element.specs.Record.{Record, AreParts}
use Rattle.wse_element.specs.Weight.{weight}
use Rattle.wse_element.specs.State.{State, stacks_of, kept_of}
use Rattle.wse_element.specs.Effects.{begun, left_by, versions_after_each, state_after}
use Rattle.wse_element.specs.Applicable.{has_future}
use Rattle.wse_stacks.specs.Image.{IsSmall}
use Rattle.wse_apply.specs.Limit.{hit_above, limit_hit}
use Rattle.wse_apply.specs.declared.performed.Performed.{Performed}
use Rattle.wse_codec.specs.Allowed.{IsSpellableEffect}
use Rattle.wse_history.specs.declared.answer.Answer.{Answer}
use Rattle.wse_history.specs.declared.answer.Answer.TheVariants as answers
use Rattle.wse_history.specs.declared.planned.Planned.{Planned}
use Rattle.wse_history.specs.Outcome.{Outcome, stays, records, is_some_of, numbered}
use Rattle.wse_history.specs.Edits.{part_of, push_of, edit_effects, edit_hit, performed_outcome}
use Rattle.wse_history.specs.History.{HasNoZero, IsHistory}
use Rattle.wse_history.specs.Planning.{PlansAsOutcome, bumps_in, MayRecord}
use Rattle.wse_history.specs.Done.{pairs_of, AreRises, IsDoneWithin, raised, with_versions}
use Rattle.wse_history.specs.Written.{IsWrittenEffect}
use Rattle.wse_history.specs.Plans.{drops_at, element_of, left_alone, recorded_as}
use Rattle.wse_element.proofs.FoldLemmas.{serial_stays}
use Rattle.wse_element.proofs.NumberLemmas.{bounded_parts, version_low}
use Rattle.wse_history.proofs.DropLemmas.{drops}
use Rattle.wse_history.proofs.MadeLemmas.{paths_of, parts_made}
use Rattle.wse_history.proofs.BumpLemmas.{bumps}
use Rattle.wse_history.proofs.EditLemmas.{edits_come}
use Rattle.wse_history.proofs.SpelledLemmas.{edits_spell}
use Rattle.wse_history.proofs.AllowedLemmas.{allowed}
use Rattle.wse_history.proofs.RaisedLemmas.{apart_rising, bumped_is, numbered_is, no_zero_put, rises_small}

-- ---- drops

-- the drops of those that have a future, one after the other
pub drops_are : (records : List Record) (cs : List Change) → drops_at records cs ≡ drops (filter (has_future records) (paths_of cs))
drops_are records [] = refl
drops_are records (c ∷ cs) =
    let left = filter (has_future records) (paths_of cs) in
    elim (has_future records c.path) as (λ b. (if b then Drop c.path Incompatible ∷ [] else []) ++ drops_at records cs ≡ drops (cond b (c.path ∷ left) left)) [
      | true ↦ ap (λ es. Drop c.path Incompatible ∷ es) (drops_are records cs)
      | false ↦ drops_are records cs
    ]

-- the three lists one behind the other
pub effects_are : (s : State) (edit : Edit) (done : Performed) (first second third : List Effect) → first ≡ drops_at s.records done.changes
    → second ≡ first ++ push_of s edit done.changes → third ≡ second ++ bumps done.bumps → third ≡ edit_effects s edit done
effects_are s edit done first second third a b c =
    c ∙ ap (λ es. es ++ bumps done.bumps) (b ∙ ap (λ es. es ++ push_of s edit done.changes) (a ∙ drops_are s.records done.changes))
    ∙ append_assoc (drops (filter (has_future s.records) (paths_of done.changes))) (push_of s edit done.changes) (bumps done.bumps)

pub none_of : {X : Type 0} (xs : List X) → nat_eq (length xs) 0 ≡ true → xs ≡ []
none_of [] e = refl
none_of (x ∷ xs) e = absurd (omega (arith, eqb-true (length (x ∷ xs)) 0 e))

pub some_of : {X : Type 0} (xs : List X) → nat_eq (length xs) 0 ≡ false → xs ≢ []
some_of xs e is = false≢true (sym e ∙ ap (λ (ys : List _). nat_eq (length ys) 0) is)

-- there are effects, or none
pub no_effects : (now effects : List Effect) → now ≡ effects → nat_eq (length now) 0 ≡ true → effects ≡ []
no_effects now effects is e = sym is ∙ none_of now e

pub some_effects : (now effects : List Effect) → now ≡ effects → nat_eq (length now) 0 ≡ false → effects ≢ []
some_effects now effects is e none = some_of now e (is ∙ none)

-- ---- versions

bumps_behind : (qs : List Path) (es : List Effect) → bumps_in (drops qs ++ es) ≡ bumps_in es
bumps_behind [] es = refl
bumps_behind (q ∷ qs) es = bumps_behind qs es

bumps_pushed : (s : State) (edit : Edit) (cs : List Change) (es : List Effect) → bumps_in (push_of s edit cs ++ es) ≡ bumps_in es
bumps_pushed s edit [] es = refl
bumps_pushed s edit (c ∷ cs) es = refl

bumps_all : (bs : List Numbered) → bumps_in (bumps bs) ≡ pairs_of bs
bumps_all [] = refl
bumps_all (b ∷ bs) = ap (λ ps. (b.path, b.number) ∷ ps) (bumps_all bs)

pub bumps_are : (s : State) (edit : Edit) (done : Performed) → bumps_in (edit_effects s edit done) ≡ pairs_of done.bumps
bumps_are s edit done =
    bumps_behind (filter (has_future s.records) (paths_of done.changes)) (push_of s edit done.changes ++ bumps done.bumps)
    ∙ bumps_pushed s edit done.changes (bumps done.bumps)
    ∙ bumps_all done.bumps

pub bumped_each : (vs : Numbers) (effects : List Effect) → versions_after_each vs effects ≡ bumped_by (bumps_in effects) vs
bumped_each vs [] = refl
bumped_each vs (Push r ∷ es) = bumped_each vs es
bumped_each vs (MoveBack id ∷ es) = bumped_each vs es
bumped_each vs (MoveForward id ∷ es) = bumped_each vs es
bumped_each vs (Split id first ∷ es) = bumped_each vs es
bumped_each vs (Drop p reason ∷ es) = bumped_each vs es
bumped_each vs (Invalidate p ∷ es) = bumped_each vs es
bumped_each vs (Bump p by ∷ es) = bumped_each (bumped vs p by) es
bumped_each vs (Set p bytes ∷ es) = bumped_each vs es

one_at_least : (n m : ℕ) → (m ≡ 1) → 1 ≤ n + m
one_at_least n m e = omega (arith, e)

two_at_least : (n m : ℕ) → (m ≡ 2) → 1 ≤ n + m
two_at_least n m e = omega (arith, e)

-- no version that is told is 0, whatever rises by one or two
pub told_each : (vs : Numbers) (effects : List Effect) → AllByRecursion IsSpellableEffect effects → HasNoZero vs → HasNoZero (versions_after_each vs effects)
told_each vs [] s h = h
told_each vs (Push r ∷ es) s h = told_each vs es s.1 h
told_each vs (MoveBack id ∷ es) s h = told_each vs es s.1 h
told_each vs (MoveForward id ∷ es) s h = told_each vs es s.1 h
told_each vs (Split id first ∷ es) s h = told_each vs es s.1 h
told_each vs (Drop p reason ∷ es) s h = told_each vs es s.1 h
told_each vs (Invalidate p ∷ es) s h = told_each vs es s.1 h
told_each vs (Set p bytes ∷ es) s h = told_each vs es s.1 h
told_each vs (Bump p by ∷ es) s h = told_each (bumped vs p by) es s.1 (no_zero_put vs p (version_of vs p + by) (some s.0) h)
  where
    some : IsSpellableEffect (Bump p by) → 1 ≤ version_of vs p + by
    some (inl e) = one_at_least (version_of vs p) by e
    some (inr e) = two_at_least (version_of vs p) by e

module _ (s : State) (edit : Edit) (done : Performed) (sorted : is_sorted path_cmp (pairs_of done.bumps) ≡ true) where
  bumped_are : (state_after s (edit_effects s edit done)).versions ≡ bumped_by (pairs_of done.bumps) s.versions
  bumped_are = bumped_each s.versions (edit_effects s edit done) ∙ ap (λ ps. bumped_by ps s.versions) (bumps_are s edit done)

  pub versions_are : (state_after s (edit_effects s edit done)).versions ≡ with_versions (raised s.versions done.bumps) s.versions
  versions_are = bumped_are ∙ bumped_is s.versions done.bumps sorted

  numbered_raised : (bs : List Numbered) (vs : Numbers) → numbered (record s { versions = vs }) (map (λ b. b.path) bs) ≡ map {B = Numbered} (λ (b : Numbered). record { path = b.path; number = version_of vs b.path }) bs
  numbered_raised [] vs = refl
  numbered_raised (b ∷ bs) vs = ap (λ ns. record { path = b.path; number = version_of vs b.path } ∷ ns) (numbered_raised bs vs)

  pub raised_are : raised s.versions done.bumps ≡ numbered (state_after s (edit_effects s edit done)) (map (λ b. b.path) done.bumps)
  raised_are = sym
      (numbered_raised done.bumps (state_after s (edit_effects s edit done)).versions
      ∙ ap (λ vs. map {B = Numbered} (λ (b : Numbered). record { path = b.path; number = version_of vs b.path }) done.bumps) bumped_are
      ∙ numbered_is s.versions done.bumps (apart_rising done.bumps sorted))

-- ---- what is recorded may come

pub may_record : (limits : Limits) (s : State) (edit : Edit) (done : Performed) → IsHistory s limits → IsDoneWithin limits s.files done → All IsWrittenEffect (edit_effects s edit done)
    → edit_effects s edit done ≢ [] → edit_hit limits (state_after s (edit_effects s edit done)) ≡ None → (changed : List Numbered)
    → MayRecord limits s (recorded_as s.next_id done (edit_effects s edit done) changed).plan
may_record limits s edit done history d written some none changed =
    let right = edits_come limits s edit done (record { linked = history.linked; parts = history.parts }) history.within d.is some none in
    let spells = edits_spell limits s edit done history.linked history.within d.is none some in
    record {
      spells = spells;
      comes = record {
        some = allowed (edit_effects s edit done) written spells;
        applicable = right.applicable;
        old_tree = history.linked.tree;
        new_tree = right.linked.tree;
        changes = d.is.lead.between ∙ ap (changes_between s.files) (sym right.files);
      };
      rises = ap (is_sorted path_cmp) (bumps_are s edit done) ∙ d.is.sorted;
      next = record {
        linked = right.linked;
        parts = right.parts;
        told = told_each s.versions (edit_effects s edit done) (recursion_from_All IsSpellableEffect (edit_effects s edit done) spells.each) history.told;
        within = history.within;
        fits = ap (limit_hit limits) right.files ∙ d.fits;
      };
    }

-- ---- it is the outcome

pub some_is : {X : Type 0} (xs : List X) → xs ≢ [] → is_some_of xs ≡ true
some_is [] some = absurd (some refl)
some_is (x ∷ xs) some = refl

abbrev chosen : Bool → Option Hit → List Effect → (Hit → Answer) → (made other : Answer) → Outcome
chosen some hit effects refused made other = if some then option_map_or (λ h. stays (refused h)) hit (records effects made) else stays other

module _ (limits : Limits) (s : State) (edit : Edit) (done : Performed) where
  abbrev effects : List Effect
  effects = edit_effects s edit done

  abbrev next : State
  next = state_after s effects

  abbrev refused : Hit → Answer
  refused hit = answers.Edit [] None None (Some hit) done.skipped

  abbrev made : Answer
  made = answers.Edit (numbered next (map (λ b. b.path) done.bumps)) (element_of s.next_id done.changes) done.failed None done.skipped

  abbrev other : Answer
  other = answers.Edit [] None done.failed None done.skipped

  abbrev pub Plans : Planned → Type 0
  Plans planned = PlansAsOutcome s (performed_outcome limits s edit done) planned

  plans_by : (some : Bool) (hit : Option Hit) (planned : Planned) → is_some_of effects ≡ some → edit_hit limits next ≡ hit → PlansAsOutcome s (chosen some hit effects refused made other) planned → Plans planned
  plans_by some hit planned e f = subst (λ b. PlansAsOutcome s (chosen b hit effects refused made other) planned → Plans planned) e
      (subst (λ o. PlansAsOutcome s (chosen (is_some_of effects) o effects refused made other) planned → Plans planned) f (λ plans. plans))

  alone : (answer : Answer) → PlansAsOutcome s (stays answer) (record { plan = record { effects = []; changes = [] }; locks = None; answer = answer })
  alone answer = record { plan = record { effects = refl; changes = sym (no_changes s.files) }; locks = refl; answer = refl }

  pub plans_none : effects ≡ [] → Plans (left_alone done.failed None done.skipped)
  plans_none e = plans_by false (edit_hit limits next) (left_alone done.failed None done.skipped) (ap is_some_of e) refl (alone other)

  pub plans_refused : effects ≢ [] → (hit : Hit) → edit_hit limits next ≡ Some hit → Plans (left_alone None (Some hit) done.skipped)
  plans_refused some hit e = plans_by true (Some hit) (left_alone None (Some hit) done.skipped) (some_is effects some) e (alone (refused hit))

  pub plans_recorded : effects ≢ [] → edit_hit limits next ≡ None → IsDoneWithin limits s.files done → done.changes ≡ changes_between s.files next.files
      → Plans (recorded_as s.next_id done effects (raised s.versions done.bumps))
  plans_recorded some e d changes =
      plans_by true None (recorded_as s.next_id done effects (raised s.versions done.bumps)) (some_is effects some) e
      (record {
        plan = record {
          effects = refl;
          changes = changes ∙ sym (ap (λ b. changes_between s.files (if b then next else s).files) (some_is effects some));
        };
        locks = refl;
        answer = ap (λ changed. answers.Edit changed (element_of s.next_id done.changes) done.failed None done.skipped) (raised_are s edit done d.is.sorted);
      })

-- ---- numbers

few_enough : (v serial : ℕ) → v ≤ 2 * serial + 1 → serial ≤ 2 ^ 30 - 1 → v + 2 ≤ 2 ^ 32 - 1
few_enough v serial l few = omega (arith, l, few)

-- no version passes what its type holds
pub small_rises : (limits : Limits) (s : State) → IsHistory s limits → (bs : List Numbered) → AreRises bs → All (λ b. version_of s.versions b.path + b.number ≤ 2 ^ 32 - 1) bs
small_rises limits s history bs rises =
    rises_small (2 ^ 32 - 1) s.versions bs
    (λ q. few_enough (version_of s.versions q) s.serial (version_low (2 * s.serial + 1) s.versions q history.linked.kept.versions) (bounded_parts (stacks_of (kept_of s)) history.linked.kept.bounded).serial)
    rises

-- the hit of the numbers that are counted along
pub hit_is : (limits : Limits) (s : State) (effects : List Effect) (changed : List Numbered) (serial knows weighs : ℕ) → serial ≡ s.serial + 1
    → (state_after s effects).versions ≡ with_versions changed s.versions → knows ≡ known (with_versions changed s.versions)
    → weighs ≡ capped (weight (left_by effects (stacks_of (kept_of s))).records)
    → option_or (hit_above Serial limits.serial serial) (option_or (hit_above Known limits.known knows) (hit_above Weight limits.weight weighs)) ≡ edit_hit limits (state_after s effects)
hit_is limits s effects changed serial knows weighs a b c d =
    let first : serial ≡ (state_after s effects).serial = a ∙ sym (serial_stays (begun (stacks_of (kept_of s))) effects) in
    let second : knows ≡ known (state_after s effects).versions = c ∙ ap known (sym b) in
    λ i. option_or (hit_above Serial limits.serial (first i)) (option_or (hit_above Known limits.known (second i)) (hit_above Weight limits.weight (d i)))

-- ---- what a change says of its path

differ_at : (files new : Entries) (cs : List Change) → AllTrue files new cs → AllByRecursion (λ (c : Change). c.before ≢ c.after) cs
differ_at files new [] are = tt
differ_at files new (c ∷ cs) are = (
  (λ e.
      let same : content files c.path ≡ content new c.path = sym are.0.before ∙ e ∙ are.0.after in
      false≢true (sym are.0.differs ∙ ap (is_same (content files c.path)) (sym same) ∙ is_same_itself (content files c.path))),
  differ_at files new cs are.1,
)

pub differ : (files : Entries) (cs : List Change) → LeadToTree files cs → All (λ (c : Change). c.before ≢ c.after) cs
differ files cs lead = All-from_recursion (λ (c : Change). c.before ≢ c.after) cs (differ_at files lead.new cs (lead_true files cs lead))

-- an element has parts, where something changed
pub parts_are : (cs : List Change) → cs ≢ [] → is_sorted path_cmp (contents_of cs) ≡ true → AreParts (map part_of cs)
parts_are [] some sorted = absurd (some refl)
parts_are (c ∷ cs) some sorted = parts_made c cs sorted

-- ---- no split

module _ (s : State) (edit : Edit) where
  small_bumps : (bs : List Numbered) → AllByRecursion IsSmall (bumps bs)
  small_bumps [] = tt
  small_bumps (b ∷ bs) = (tt, small_bumps bs)

  small_push : (cs : List Change) (bs : List Numbered) → AllByRecursion IsSmall (push_of s edit cs ++ bumps bs)
  small_push [] bs = small_bumps bs
  small_push (c ∷ cs) bs = (tt, small_bumps bs)

  small_all : (qs : List Path) (cs : List Change) (bs : List Numbered) → AllByRecursion IsSmall (drops qs ++ (push_of s edit cs ++ bumps bs))
  small_all [] cs bs = small_push cs bs
  small_all (q ∷ qs) cs bs = (tt, small_all qs cs bs)

  pub small_effects : (done : Performed) → All IsSmall (edit_effects s edit done)
  small_effects done = All-from_recursion IsSmall (edit_effects s edit done) (small_all (filter (has_future s.records) (paths_of done.changes)) done.changes done.bumps)
