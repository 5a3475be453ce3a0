-- Whether changes may be made, by the changes and by the trees.
use Rattle.std.proofs.Common.{◌≡◌, ℕ, ◌-◌, ◌^◌, ◌≤◌, ◌<◌, min, true, false, cond, List, Option, Some, None, Ok, Err, refl, sym, ap, subst, ◌∙◌, arith, lit<}
use Rattle.std.specs.Prelude.{nat_lt, sum_by, length}
use Rattle.std.specs.Option.{option_or, option_map}
use Rattle.std.proofs.lemmas.Bool.{ltb-false, leb-true, and_parts}
use Rattle.wse_path.specs.Limits.{standard}
use Rattle.wse_path.specs.Tree.{Entries, total_bytes, HasRoom, IsTree}
use Rattle.wse_path.specs.Changes.{changes_between, LeadToTree, erased, stored}
use Rattle.wse_path.specs.declared.change.Change.{Change}
use Rattle.wse_path.specs.declared.limits.Limits.{Limits}
use Rattle.wse_path.specs.declared.limits.Which.{Which}
use Rattle.wse_path.specs.declared.limits.Which.TheVariants.{Files, FileBytes, TreeBytes}
use Rattle.wse_path.proofs.LeadLemmas.{room_to_store_next, finished}
use Rattle.wse_apply.specs.Limit.{limit_hit, hit_by, hit_above, file_count, first_above, are_within}
use Rattle.wse_apply.specs.Setting.{SettingState}
use Rattle.wse_apply.specs.Sizes.{sizes_of, plus, minus, size_before, size_after, hit_after}
use Rattle.wse_apply.specs.Stop.{stop, stop_by, unless, changed_to, locked_by, held_among}
use Rattle.wse_apply.specs.Draft.{LeadTo, AreSmall, FindRoom}
use Rattle.wse_apply.specs.declared.reason.Reason.{Reason}
use Rattle.wse_apply.specs.declared.reason.Reason.TheVariants.{Limit}
use Rattle.wse_apply.specs.declared.sizes.Sizes.{Sizes}
use Rattle.wse_apply.proofs.SizeLemmas.{files_account, bytes_account, first_changed, changed_capped}

or_none : {X : Type 0} (o p : Option X) → option_or o p ≡ None → (o ≡ None) × (p ≡ None)
or_none None p h = (refl, h)
or_none (Some x) p h = cc

map_none : {X Y : Type 0} (f : X → Y) (o : Option X) → option_map f o ≡ None → o ≡ None
map_none f None h = refl
map_none f (Some x) h = cc

not_above : (which : Which) (limit number : ℕ) → hit_above which limit number ≡ None → number ≤ limit
not_above which limit number h =
    elim (nat_lt limit number) as (λ b. nat_lt limit number ≡ b → cond b (Some (hit_by which number)) None ≡ None → number ≤ limit) [
      | true ↦ λ t e. cc
      | false ↦ λ t e. ltb-false limit number t
    ] refl h

pub record NoHit (limits : Limits) (files : Entries) : Type 0 where
  pub first : first_above limits.file_bytes files ≡ None
  pub count : file_count files ≤ limits.files
  pub bytes : total_bytes files ≤ limits.tree_bytes

pub no_hit : (limits : Limits) (files : Entries) → limit_hit limits files ≡ None → NoHit limits files
no_hit limits files h =
    let count = hit_above Files limits.files (file_count files) in
    let bytes = hit_above TreeBytes limits.tree_bytes (total_bytes files) in
    let one = or_none (option_map (hit_by FileBytes) (first_above limits.file_bytes files)) (option_or count bytes) h in
    let two = or_none count bytes one.1 in
    record {
      first = map_none (hit_by FileBytes) (first_above limits.file_bytes files) one.0;
      count = not_above Files limits.files (file_count files) two.0;
      bytes = not_above TreeBytes limits.tree_bytes (total_bytes files) two.1;
    }

pub record Within (limits : Limits) : Type 0 where
  pub files : limits.files ≤ 65536
  pub tree_bytes : limits.tree_bytes ≤ 268435456

within_parts : (limits : Limits) → are_within limits standard ≡ true → Within limits
within_parts limits h =
    let five = and_parts _ _ h in
    let four = and_parts _ _ five.0 in
    let three = and_parts _ _ four.0 in
    let two = and_parts _ _ three.0 in
    let one = and_parts _ _ two.0 in
    record { files = leb-true limits.files 65536 one.0; tree_bytes = leb-true limits.tree_bytes 268435456 two.1 }

below_end : (n limit top : ℕ) → min n (2 ^ 64 - 1) ≤ limit → limit ≤ top → top < 2 ^ 64 - 1 → n ≤ 2 ^ 64 - 1
below_end n limit top a b c = omega arith

-- the size after the changes is that of the new files
pub sizes_changed : (setting : SettingState) (sizes : Sizes) (files new : Entries) (cs : List Change) → AreSmall setting sizes files → IsTree files → LeadTo files cs new → plus (minus sizes (size_before cs)) (size_after cs) ≡ sizes_of new
sizes_changed setting sizes files new cs small tree lead =
    let none = no_hit setting.limits files small.fits in
    let within = within_parts setting.limits small.limits in
    let count = below_end (length files) setting.limits.files 65536 none.count within.files (lit< tt) in
    let bytes = below_end (sum_by (λ e. length e.1) files) setting.limits.tree_bytes 268435456 none.bytes within.tree_bytes (lit< tt) in
    ap (λ s. plus (minus s (size_before cs)) (size_after cs)) small.sizes_are
    ∙ (λ i. record {
      files = changed_capped _ _ _ _ (files_account files new cs tree.rises lead.tree.rises lead.between) count i;
      bytes = changed_capped _ _ _ _ (bytes_account files new cs tree.rises lead.tree.rises lead.between) bytes i;
    })

-- so the limit that is hit is that of the new files
pub hit_is : (setting : SettingState) (sizes : Sizes) (files new : Entries) (cs : List Change) → AreSmall setting sizes files → IsTree files → LeadTo files cs new → hit_after setting.limits (plus (minus sizes (size_before cs)) (size_after cs)) cs ≡ limit_hit setting.limits new
hit_is setting sizes files new cs small tree lead =
    let none = no_hit setting.limits files small.fits in
    ap (λ s. hit_after setting.limits s cs) (sizes_changed setting sizes files new cs small tree lead)
    ∙ ap (λ o. option_or (option_map (hit_by FileBytes) o) (option_or (hit_above Files setting.limits.files (file_count new)) (hit_above TreeBytes setting.limits.tree_bytes (total_bytes new))))
    (sym (first_changed setting.limits.file_bytes files new cs tree.rises lead.tree.rises lead.between none.first))

-- and what stops the changes is what stops the new files
pub stop_is : (setting : SettingState) (sizes : Sizes) (files new : Entries) (cs : List Change) → AreSmall setting sizes files → IsTree files → LeadTo files cs new → stop_by setting (plus (minus sizes (size_before cs)) (size_after cs)) cs ≡ stop setting files new
stop_is setting sizes files new cs small tree lead =
    ap (λ o. option_or (locked_by (held_among setting.locks setting.by cs)) (option_map Limit o)) (hit_is setting sizes files new cs small tree lead)
    ∙ ap (λ l. option_or (locked_by (held_among setting.locks setting.by l)) (option_map Limit (limit_hit setting.limits new))) lead.between

pub refused_by : (setting : SettingState) (files new : Entries) (why : Reason) → stop setting files new ≡ Some why → changed_to setting files new ≡ Err why
refused_by setting files new why e = ap (λ o. unless o (Ok new)) e

pub passed_by : (setting : SettingState) (files new : Entries) → stop setting files new ≡ None → changed_to setting files new ≡ Ok new
passed_by setting files new e = ap (λ o. unless o (Ok new)) e

pub fits_then : (setting : SettingState) (files new : Entries) → stop setting files new ≡ None → limit_hit setting.limits new ≡ None
fits_then setting files new e =
    map_none Limit (limit_hit setting.limits new)
    (or_none (locked_by (held_among setting.locks setting.by (changes_between files new))) (option_map Limit (limit_hit setting.limits new)) e).1

-- two trees to which the same changes lead are one
pub same_lead : (files new : Entries) (cs : List Change) (lead : LeadToTree files cs) → LeadTo files cs new → stored cs (erased cs files) ≡ new
same_lead files new cs lead to = finished files cs (record { old = lead.old; new = new; tree = to.tree; between = to.between })

pub find_room : (files mid : Entries) (cs : List Change) → LeadToTree files cs → mid ≡ erased cs files → FindRoom cs mid
find_room files mid cs lead is before c rest bytes split after =
    subst (λ m. HasRoom (stored before m) c.path) (sym is)
    (room_to_store_next files (stored before (erased cs files)) cs before c rest bytes lead split after refl)

-- ---- changes that are tried

abbrev pub size_then : Sizes → List Change → Sizes
size_then sizes cs = plus (minus sizes (size_before cs)) (size_after cs)

stopped : (setting : SettingState) (sizes after : Sizes) (files new : Entries) (cs : List Change) (r o : Option Reason) → AreSmall setting sizes files → IsTree files → after ≡ size_then sizes cs → r ≡ stop_by setting after cs → r ≡ o → LeadTo files cs new → stop setting files new ≡ o
stopped setting sizes after files new cs r o small tree e is value lead =
    sym (stop_is setting sizes files new cs small tree lead) ∙ ap (λ s. stop_by setting s cs) (sym e) ∙ sym is ∙ value

pub tried_refused : (setting : SettingState) (sizes after : Sizes) (files : Entries) (cs : List Change) (r : Option Reason) (why : Reason) → AreSmall setting sizes files → IsTree files → after ≡ size_then sizes cs → r ≡ stop_by setting after cs → r ≡ Some why → (new : Entries) → LeadTo files cs new → changed_to setting files new ≡ Err why
tried_refused setting sizes after files cs r why small tree e is value new lead = refused_by setting files new why (stopped setting sizes after files new cs r (Some why) small tree e is value lead)

pub tried_done : (setting : SettingState) (sizes after : Sizes) (files now : Entries) (cs : List Change) (r : Option Reason) → AreSmall setting sizes files → IsTree files → after ≡ size_then sizes cs → r ≡ stop_by setting after cs → r ≡ None → ((new : Entries) → LeadTo files cs new → now ≡ new) → (new : Entries) → LeadTo files cs new → changed_to setting files new ≡ Ok now
tried_done setting sizes after files now cs r small tree e is value made new lead =
    passed_by setting files new (stopped setting sizes after files new cs r None small tree e is value lead) ∙ ap (λ x. Ok x) (sym (made new lead))

pub tried_small : (setting : SettingState) (sizes after : Sizes) (files now : Entries) (cs : List Change) (r : Option Reason) → AreSmall setting sizes files → LeadToTree files cs → after ≡ size_then sizes cs → r ≡ stop_by setting after cs → r ≡ None → ((new : Entries) → LeadTo files cs new → now ≡ new) → AreSmall setting after now
tried_small setting sizes after files now cs r small lead e is value made =
    let to : LeadTo files cs lead.new = record { tree = lead.tree; between = lead.between } in
    subst (AreSmall setting after) (sym (made lead.new to)) (record {
      limits = small.limits;
      fits = fits_then setting files lead.new (stopped setting sizes after files lead.new cs r None small lead.old e is value to);
      sizes_are = e ∙ sizes_changed setting sizes files lead.new cs small lead.old to;
    })
