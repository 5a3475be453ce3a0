-- The effects of an edit that passes no limit may come, one after the other.
use Rattle.std.proofs.Common.{◌≡◌, ◌≢◌, ℕ, ◌+◌, ◌-◌, ◌*◌, ◌^◌, ◌<◌, ◌≤◌, min, Bool, true, false, cond, List, [], ◌∷◌, ◌++◌, map, Option, Some, None, refl, sym, ap, subst, ◌∙◌, arith}
use Rattle.std.specs.Prelude.{filter, nat_le, nat_lt, sum_by}
use Rattle.std.specs.List.{AllByRecursion}
use Rattle.std.specs.Option.{option_or}
use Rattle.std.specs.FinMap.{is_sorted}
use Rattle.std.proofs.lemmas.Bool.{and_from, leb-true, le-leb, ltb-false}
use Rattle.wse_path.specs.Path.{Path}
use Rattle.wse_path.specs.Order.{path_cmp}
use Rattle.wse_path.specs.Tree.{Entries, set_files, IsTree}
use Rattle.wse_path.specs.Changes.{contents_of}
use Rattle.wse_path.specs.Limits.{standard}
use Rattle.wse_path.specs.Versions.{Numbers, version_of, known}
use Rattle.wse_path.specs.declared.change.Change.{Change}
use Rattle.wse_path.specs.declared.change.Numbered.{Numbered}
use Rattle.wse_path.specs.declared.edit.Edit.{Edit}
use Rattle.wse_path.specs.declared.limits.Limits.{Limits}
use Rattle.wse_path.specs.declared.limits.Which.{Which}
use Rattle.wse_path.specs.declared.limits.Which.TheVariants.{Known, Weight, Serial}
use Rattle.wse_path.proofs.EntryLemmas.{and_parts}
use Rattle.wse_path.proofs.LeadLemmas.{lead_true, lead_rises, lead_set}
use Rattle.wse_element.specs.declared.state.PartState.TheVariants.{Incompatible}
use Rattle.wse_element.specs.declared.effect.Effect.{Effect}
use Rattle.wse_element.specs.declared.effect.Effect.TheVariants.{Push, Drop, Bump}
use Rattle.wse_element.specs.Stacks.{past}
use Rattle.wse_element.specs.State.{StacksState, State, stacks_of, kept_of}
use Rattle.wse_element.specs.Effects.{after, after_each, begun, new_contents, files_after_each, versions_after_each, state_after}
use Rattle.wse_element.specs.Weight.{part_weight, record_weight, weight}
use Rattle.wse_element.specs.Linked.{IsStateLinked}
use Rattle.wse_element.specs.Applicable.{has_future, may_push, first_refused_of_kept}
use Rattle.wse_element.specs.Numbers.{is_bounded, are_versions_bounded, is_known_bounded}
use Rattle.wse_element.proofs.ListLemmas.{filter_passes, list_all_weaker}
use Rattle.wse_apply.specs.Limit.{hit_by, hit_above, are_within}
use Rattle.wse_apply.specs.declared.performed.Performed.{Performed}
use Rattle.wse_element.specs.Laws.{PushesParts, Raises}
use Rattle.wse_history.specs.Limits.{serial_hit, known_hit, weight_hit}
use Rattle.wse_history.specs.Edits.{part_of, made, push_of, edit_effects, edit_hit}
use Rattle.wse_history.specs.Done.{AreRises, IsDone}
use Rattle.wse_history.proofs.Edited.{IsStart, IsRight}
use Rattle.wse_element.proofs.FoldLemmas.{serial_stays, parts_each, state_stays, after_behind, versions_behind}
use Rattle.wse_history.proofs.ComeLemmas.{AllCome, SetOnce, none_refused, come_behind}
use Rattle.std.proofs.lemmas.List.Sums.{sum_by-cons, sum_by-append}
use Rattle.wse_history.proofs.CountLemmas.{counts, total, total_within}
use Rattle.wse_element.proofs.NumberLemmas.{Bounded, bounded_parts, bounded_from, version_low}
use Rattle.wse_history.proofs.DropLemmas.{drops, dropped_each, after_drops, next_drops, serial_drops, versions_drops, past_drops, none_left, once_filter, drops_come, bounded_drops}
use Rattle.wse_history.proofs.MadeLemmas.{paths_of, made_comes, parts_made, contents_made}
use Rattle.wse_history.proofs.BumpLemmas.{bumps, once_sorted, low_all, bumps_come, after_bumps}

-- ---- limits

or_none : {X : Type 0} (o p : Option X) → option_or o p ≡ None → (o ≡ None) × (p ≡ None)
or_none None p h = (refl, h)
or_none (Some x) p h = cc

not_above : (which : Which) (limit number : ℕ) → hit_above which limit number ≡ None → number ≤ limit
not_above which limit number h =
    elim (nat_lt limit number) as (λ b. nat_lt limit number ≡ b → cond b (Some (hit_by which number)) None ≡ None → number ≤ limit) [
      | true ↦ λ t e. cc
      | false ↦ λ t e. ltb-false limit number t
    ] refl h

-- the numbers of a state that passes no limit
record IsLimited (s : State) : Type 0 where
  serial : s.serial ≤ 2 ^ 30 - 1
  knows : known s.versions ≤ 2 ^ 29
  weighs : weight s.records ≤ 2 ^ 29

less_than : (a b c : ℕ) → a ≤ b → b ≤ c → a ≤ c
less_than a b c g h = omega (arith, g, h)

same_number : (n : ℕ) → n ≤ n
same_number n = omega arith

uncapped : (n limit : ℕ) → min n (2 ^ 64 - 1) ≤ limit → limit ≤ 2 ^ 29 → n ≤ 2 ^ 29
uncapped n limit g h = omega (arith, g, h)

pub few_serial : (limits : Limits) (s : State) → are_within limits standard ≡ true → serial_hit limits s ≡ None → s.serial ≤ 2 ^ 30 - 1
few_serial limits s within none = less_than _ _ _ (not_above Serial limits.serial s.serial none) (leb-true limits.serial 1073741823 (and_parts _ _ within).1)

limited : (limits : Limits) (s : State) → are_within limits standard ≡ true → edit_hit limits s ≡ None → IsLimited s
limited limits s within none =
    let last = and_parts _ _ within in
    let next = and_parts _ _ last.0 in
    let third = and_parts _ _ next.0 in
    let first = or_none (serial_hit limits s) (option_or (known_hit limits s) (weight_hit limits s)) none in
    let rest = or_none (known_hit limits s) (weight_hit limits s) first.1 in
    record {
      serial = less_than _ _ _ (not_above Serial limits.serial s.serial first.0) (leb-true limits.serial 1073741823 last.1);
      knows = less_than _ _ _ (not_above Known limits.known (known s.versions) rest.0) (leb-true limits.known 536870912 third.1);
      weighs = uncapped (weight s.records) limits.weight (not_above Weight limits.weight (min (weight s.records) (2 ^ 64 - 1)) rest.1) (leb-true limits.weight 536870912 next.1);
    }

-- ---- the new record

module _ (s : State) (edit : Edit) where
  push_comes : (serial : ℕ) (h : StacksState) (vs : Numbers) (cs : List Change) → may_push h (made s edit cs) ≡ true → Bounded h → h.next_id + 1 ≤ 1 + h.serial * 2 ^ 32
      → weight (after_each h (push_of s edit cs)).records ≤ 2 ^ 29 → are_versions_bounded serial vs ≡ true → is_known_bounded vs ≡ true → AllCome serial h vs (push_of s edit cs)
  push_comes serial h vs [] may b room weighs numbers knows = tt
  push_comes serial h vs (c ∷ cs) may b room weighs numbers knows =
      let next = after h (Push (made s edit (c ∷ cs))) in (
        and_from (may_push h (made s edit (c ∷ cs))) (is_bounded next) may (bounded_from next (record { serial = b.serial; some = one_more h.next_id; ids = room; weight = weighs })),
        and_from (are_versions_bounded serial vs) (is_known_bounded vs) numbers knows,
        tt,
      )
    where
      one_more : (n : ℕ) → 1 ≤ n + 1
      one_more n = omega arith

  bounded_push : (h : StacksState) (cs : List Change) → Bounded h → h.next_id + 1 ≤ 1 + h.serial * 2 ^ 32 → weight (after_each h (push_of s edit cs)).records ≤ 2 ^ 29 → Bounded (after_each h (push_of s edit cs))
  bounded_push h [] b room weighs = b
  bounded_push h (c ∷ cs) b room weighs = record { serial = b.serial; some = one_more h.next_id; ids = room; weight = weighs }
    where
      one_more : (n : ℕ) → 1 ≤ n + 1
      one_more n = omega arith

  versions_push : (vs : Numbers) (cs : List Change) → versions_after_each vs (push_of s edit cs) ≡ vs
  versions_push vs [] = refl
  versions_push vs (c ∷ cs) = refl

  push_weighs : (h : StacksState) (cs : List Change) → weight (after_each h (push_of s edit cs)).records ≤ 2 ^ 29 → sum_by (part_weight edit.label) (map part_of cs) ≤ 2 ^ 29
  push_weighs h [] weighs = omega arith
  push_weighs h (c ∷ cs) weighs =
      let r = made s edit (c ∷ cs) in
      let a = sum_by-append record_weight h.records (r ∷ []) in
      let b = sum_by-cons record_weight r [] in
      omega (arith, weighs, a, b)

  -- one effect sets the tree
  once_bumps : (already : Bool) (bs : List Numbered) → SetOnce already (bumps bs)
  once_bumps already [] = tt
  once_bumps true (b ∷ bs) = (refl, once_bumps true bs)
  once_bumps false (b ∷ bs) = (refl, once_bumps false bs)

  once_push : (cs : List Change) (bs : List Numbered) → SetOnce false (push_of s edit cs ++ bumps bs)
  once_push [] bs = once_bumps false bs
  once_push (c ∷ cs) bs = (refl, once_bumps true bs)

  once_all : (qs : List Path) (cs : List Change) (bs : List Numbered) → SetOnce false (drops qs ++ (push_of s edit cs ++ bumps bs))
  once_all [] cs bs = once_push cs bs
  once_all (q ∷ qs) cs bs = (refl, once_all qs cs bs)

  -- its parts
  parts_bumps : (bs : List Numbered) → AllByRecursion PushesParts (bumps bs)
  parts_bumps [] = tt
  parts_bumps (b ∷ bs) = (tt, parts_bumps bs)

  parts_push : (cs : List Change) (bs : List Numbered) → is_sorted path_cmp (contents_of cs) ≡ true → AllByRecursion PushesParts (push_of s edit cs ++ bumps bs)
  parts_push [] bs sorted = parts_bumps bs
  parts_push (c ∷ cs) bs sorted = (parts_made c cs sorted, parts_bumps bs)

  parts_all : (qs : List Path) (cs : List Change) (bs : List Numbered) → is_sorted path_cmp (contents_of cs) ≡ true → AllByRecursion PushesParts (drops qs ++ (push_of s edit cs ++ bumps bs))
  parts_all [] cs bs sorted = parts_push cs bs sorted
  parts_all (q ∷ qs) cs bs sorted = (tt, parts_all qs cs bs sorted)

  -- its versions rise
  raises_bumps : (bs : List Numbered) → AreRises bs → AllByRecursion Raises (bumps bs)
  raises_bumps [] rises = tt
  raises_bumps (b ∷ bs) rises = ((let one = rises.0.0 in let some : 0 < b.number = omega (arith, one) in some), raises_bumps bs rises.1)

  raises_push : (cs : List Change) (bs : List Numbered) → AreRises bs → AllByRecursion Raises (push_of s edit cs ++ bumps bs)
  raises_push [] bs rises = raises_bumps bs rises
  raises_push (c ∷ cs) bs rises = (tt, raises_bumps bs rises)

  raises_all : (qs : List Path) (cs : List Change) (bs : List Numbered) → AreRises bs → AllByRecursion Raises (drops qs ++ (push_of s edit cs ++ bumps bs))
  raises_all [] cs bs rises = raises_push cs bs rises
  raises_all (q ∷ qs) cs bs rises = (tt, raises_all qs cs bs rises)

  -- the files
  files_bumps : (h : StacksState) (bs : List Numbered) (files : Entries) → files_after_each h (bumps bs) files ≡ files
  files_bumps h [] files = refl
  files_bumps h (b ∷ bs) files = files_bumps (after h (Bump b.path b.number)) bs files

  files_push : (h : StacksState) (cs : List Change) (bs : List Numbered) (files : Entries) → files_after_each h (push_of s edit cs ++ bumps bs) files ≡ set_files (contents_of cs) files
  files_push h [] bs files = files_bumps h bs files
  files_push h (c ∷ cs) bs files =
      files_bumps (after h (Push (made s edit (c ∷ cs)))) bs (set_files (new_contents (made s edit (c ∷ cs))) files)
      ∙ ap (λ sets. set_files sets files) (contents_made (c ∷ cs))

  files_all : (h : StacksState) (qs : List Path) (cs : List Change) (bs : List Numbered) (files : Entries) → files_after_each h (drops qs ++ (push_of s edit cs ++ bumps bs)) files ≡ set_files (contents_of cs) files
  files_all h [] cs bs files = files_push h cs bs files
  files_all h (q ∷ qs) cs bs files = files_all (after h (Drop q Incompatible)) qs cs bs files

-- ---- all effects

wider_top : (m n : ℕ) → m ≤ 2 * n + 1 → m ≤ 2 * (n + 1) + 1
wider_top m n l = omega (arith, l)

two_below : (m n : ℕ) → m ≤ 2 * n + 1 → m + 2 ≤ 2 * (n + 1) + 1
two_below m n l = omega (arith, l)

pub wider : (serial : ℕ) (vs : Numbers) → are_versions_bounded serial vs ≡ true → are_versions_bounded (serial + 1) vs ≡ true
wider serial vs h =
    list_all_weaker (λ e. nat_le e.1 (2 * serial + 1)) (λ e. nat_le e.1 (2 * (serial + 1) + 1)) (λ e t. le-leb e.1 (2 * (serial + 1) + 1) (wider_top e.1 serial (leb-true e.1 (2 * serial + 1) t))) vs h

pub more_ids : (n serial : ℕ) → n ≤ 1 + serial * 2 ^ 32 → n ≤ 1 + (serial + 1) * 2 ^ 32
more_ids n serial l = omega (arith, l)

room_for_one : (n m serial top : ℕ) → m ≡ n → top ≡ serial + 1 → n ≤ 1 + serial * 2 ^ 32 → m + 1 ≤ 1 + top * 2 ^ 32
room_for_one n m serial top e f l = omega (arith, e, f, l)

module _ (limits : Limits) (s : State) (edit : Edit) (done : Performed) (start : IsStateLinked s) (within : are_within limits standard ≡ true) (d : IsDone s.files done)
    (none : edit_hit limits (state_after s (edit_effects s edit done)) ≡ None) where
  abbrev qs : List Path
  qs = filter (has_future s.records) (paths_of done.changes)

  abbrev effects : List Effect
  effects = edit_effects s edit done

  abbrev pushed : List Effect
  pushed = push_of s edit done.changes

  abbrev first : StacksState
  first = begun (stacks_of (kept_of s))

  abbrev dropped : StacksState
  dropped = after_each first (drops qs)

  new_limited : IsLimited (state_after s effects)
  new_limited = limited limits (state_after s effects) within none

  bounds : Bounded (stacks_of (kept_of s))
  bounds = bounded_parts (stacks_of (kept_of s)) start.kept.bounded

  few : s.serial + 1 ≤ 2 ^ 30 - 1
  few = subst (λ n. n ≤ 2 ^ 30 - 1) (serial_stays first effects) new_limited.serial

  first_bounded : Bounded first
  first_bounded = record { serial = few; some = bounds.some; ids = more_ids s.next_id s.serial bounds.ids; weight = bounds.weight }

  numbers : are_versions_bounded (s.serial + 1) s.versions ≡ true
  numbers = wider s.serial s.versions start.kept.versions

  once : AllCome (s.serial + 1) first s.versions (drops qs)
  once = drops_come (s.serial + 1) first s.versions qs (once_filter (has_future s.records) (paths_of done.changes) (once_sorted (λ (c : Change). c.path) (λ (c : Change). c.after) done.changes (lead_rises s.files done.changes d.lead)))
      (filter_passes (has_future s.records) (paths_of done.changes)) first_bounded numbers start.kept.known

  left : dropped.records ≡ dropped_each s.records qs
  left = after_drops first qs

  may : may_push dropped (made s edit done.changes) ≡ true
  may = made_comes dropped s edit d.lead.new done.changes (next_drops first qs)
      (λ p. ap (λ rs. past rs p) left ∙ past_drops s.records qs p)
      (λ p among. ap (λ rs. has_future rs p) left ∙ none_left s.records (paths_of done.changes) p among)
      d.lead.old d.lead.tree (lead_true s.files done.changes d.lead) start.each

  room : dropped.next_id + 1 ≤ 1 + dropped.serial * 2 ^ 32
  room = room_for_one s.next_id dropped.next_id s.serial dropped.serial (next_drops first qs) (serial_drops first qs) bounds.ids

  last_is : (after_each first effects).records ≡ (after_each dropped pushed).records
  last_is =
      ap (λ (h : StacksState). h.records) (after_behind first (drops qs) (pushed ++ bumps done.bumps) ∙ after_behind dropped pushed (bumps done.bumps))
      ∙ after_bumps (after_each dropped pushed) done.bumps

  weighs : weight (after_each dropped pushed).records ≤ 2 ^ 29
  weighs = subst (λ rs. weight rs ≤ 2 ^ 29) last_is new_limited.weighs

  versions_are : versions_after_each s.versions effects ≡ versions_after_each s.versions (bumps done.bumps)
  versions_are =
      versions_behind s.versions (drops qs) (pushed ++ bumps done.bumps)
      ∙ ap (λ vs. versions_after_each vs (pushed ++ bumps done.bumps)) (versions_drops s.versions qs)
      ∙ versions_behind s.versions pushed (bumps done.bumps)
      ∙ ap (λ vs. versions_after_each vs (bumps done.bumps)) (versions_push s edit s.versions done.changes)

  -- what the new record counts for, and the paths whose versions rise
  pub made_weighs : sum_by (part_weight edit.label) (map part_of done.changes) ≤ 2 ^ 29
  made_weighs = push_weighs s edit dropped done.changes weighs

  pub bumps_known : total done.bumps ≤ 2 ^ 29
  bumps_known =
      less_than _ _ _ (total_within s.versions done.bumps (once_sorted (λ (b : Numbered). b.path) (λ (b : Numbered). b.number) done.bumps d.sorted))
      (uncapped (sum_by counts (versions_after_each s.versions (bumps done.bumps))) (2 ^ 29) (subst (λ vs. known vs ≤ 2 ^ 29) versions_are new_limited.knows) (same_number (2 ^ 29)))

  dropped_bounded : Bounded dropped
  dropped_bounded = bounded_drops first qs first_bounded

  push_too : AllCome (s.serial + 1) dropped s.versions pushed
  push_too = push_comes s edit (s.serial + 1) dropped s.versions done.changes may dropped_bounded room weighs numbers start.kept.known

  bumps_too : AllCome (s.serial + 1) (after_each dropped pushed) s.versions (bumps done.bumps)
  bumps_too = bumps_come (s.serial + 1) (after_each dropped pushed) s.versions done.bumps
      (once_sorted (λ (b : Numbered). b.path) (λ (b : Numbered). b.number) done.bumps d.sorted) d.rises
      (bounded_push s edit dropped done.changes dropped_bounded room weighs) few numbers
      (low_all (2 * (s.serial + 1) + 1) s.versions done.bumps (λ p. two_below (version_of s.versions p) s.serial (version_low (2 * s.serial + 1) s.versions p start.kept.versions)))
      (subst (λ vs. known vs ≤ 2 ^ 29) versions_are new_limited.knows)

  all_come : AllCome (s.serial + 1) first s.versions effects
  all_come =
      come_behind (s.serial + 1) first s.versions (drops qs) (pushed ++ bumps done.bumps) once
      (subst (λ vs. AllCome (s.serial + 1) dropped vs (pushed ++ bumps done.bumps)) (sym (versions_drops s.versions qs))
      (come_behind (s.serial + 1) dropped s.versions pushed (bumps done.bumps) push_too
      (subst (λ vs. AllCome (s.serial + 1) (after_each dropped pushed) vs (bumps done.bumps)) (sym (versions_push s edit s.versions done.changes)) bumps_too)))

  pub applicable : first_refused_of_kept (kept_of s) effects ≡ None
  applicable = none_refused (kept_of s) effects (once_all s edit qs done.changes done.bumps) all_come

  pub files_are : (state_after s effects).files ≡ d.lead.new
  files_are = files_all s edit (stacks_of (kept_of s)) qs done.changes done.bumps s.files ∙ lead_set s.files done.changes d.lead

-- the files that the effects leave are those that the edit made
pub made_files : (s : State) (edit : Edit) (done : Performed) (d : IsDone s.files done) → (state_after s (edit_effects s edit done)).files ≡ d.lead.new
made_files s edit done d =
    files_all s edit (stacks_of (kept_of s)) (filter (has_future s.records) (paths_of done.changes)) done.changes done.bumps s.files
    ∙ lead_set s.files done.changes d.lead

-- the effects may come, and leave a linked state whose files are those that the edit made
pub edits_come : (limits : Limits) (s : State) (edit : Edit) (done : Performed) → IsStart s → are_within limits standard ≡ true → (d : IsDone s.files done)
    → edit_effects s edit done ≢ [] → edit_hit limits (state_after s (edit_effects s edit done)) ≡ None → IsRight s (edit_effects s edit done) d.lead.new
edits_come limits s edit done start within d some none =
    let applies = applicable limits s edit done start.linked within d none in
    let files = files_are limits s edit done start.linked within d none in
    record {
      applicable = applies;
      linked = state_stays s (edit_effects s edit done) start.parts
          (parts_all s edit (filter (has_future s.records) (paths_of done.changes)) done.changes done.bumps (lead_rises s.files done.changes d.lead))
          (raises_all s edit (filter (has_future s.records) (paths_of done.changes)) done.changes done.bumps d.rises) some applies
          start.linked (subst IsTree (sym files) d.lead.tree);
      parts = parts_each (begun (stacks_of (kept_of s))) (edit_effects s edit done) start.parts
          (parts_all s edit (filter (has_future s.records) (paths_of done.changes)) done.changes done.bumps (lead_rises s.files done.changes d.lead));
      files = files;
    }
