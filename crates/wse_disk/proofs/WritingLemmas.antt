-- Writes of paths that change leave the others.
use Rattle.std.proofs.Common.{◌≡◌, inl, inr, ℕ, ◌+◌, ◌<◌, true, false, List, [], ◌∷◌, ◌++◌, length, take, get_or, Option, Some, None, is_some, refl, sym, ◌∙◌, ap, subst}
use Rattle.std.specs.Prelude.{Result, Ok, Err, OnOk, is_none}
use Rattle.std.specs.List.{list_any}
use Rattle.std.specs.Ordering.{eq_by_cmp}
use Rattle.std.proofs.lemmas.Bool.{or_parts, or_from, false_from_ne_true, both_ways}
use Rattle.std.proofs.lemmas.List.{take_more}
use Rattle.wse_path.specs.Order.{path_cmp}
use Rattle.wse_path.specs.Path.{Path}
use Rattle.wse_path.specs.Tree.{Entries}
use Rattle.wse_path.specs.Changes.{is_changed, erased, erased_at, stored, stored_at}
use Rattle.wse_path.specs.declared.change.Change.{Change}
use Rattle.wse_path.proofs.TreeLemmas.{same_path}
use Rattle.wse_path.proofs.ChangeLemmas.{erased_more, stored_more, changed_at}
use Rattle.wse_path.proofs.LeadLemmas.{room_to_erase, room_to_store}
use Rattle.wse_disk.specs.declared.area.Area.{Area}
use Rattle.wse_disk.specs.Reading.{Reading, Write, Stores, Erases, Patches, with_files, applied, names, is_in}
use Rattle.wse_disk.specs.Image.{IsImage}
use Rattle.wse_disk.specs.Standing.{Standing, WriteLeaves}
use Rattle.wse_disk.specs.Told.{MayLeave, IsSynced, ReadsAnImage, reading_of}
use Rattle.wse_disk.specs.Calls.{Told, TellsWrite, TellsSync, HasRoomFor}
use Rattle.wse_disk.specs.Changes.{ChangesOnly, LeadsToTree, LeadsFromErased, HasErased, HasStored, HasChanged, AllOf, AreUnderway, takes_away, puts}
use Rattle.wse_disk.specs.LeavesOnly.{LeavesOnly}
use Rattle.wse_disk.proofs.Moments.{one_call, no_call, joined, wrote_goes, synced_goes}
use Rattle.wse_disk.proofs.ImageLemmas.{synced_images, synced_reads}

not_one : (cs : List Change) (p q : Path) → is_changed cs p ≡ false → is_changed cs q ≡ true → eq_by_cmp path_cmp p q ≡ false
not_one cs p q none one = false_from_ne_true _ (λ same. both_ways (is_changed cs q) (subst (λ (x : Path). is_changed cs x ≡ false) (same_path p q same) none) one)

none_named : (cs : List Change) (ws : List Write) (p : Path) → AllOf cs ws → is_changed cs p ≡ false → list_any (names p) ws ≡ false
none_named cs [] p all none = refl
none_named cs (Stores q bytes ∷ ws) p all none = or_from (names p (Stores q bytes)) (list_any (names p) ws) (not_one cs p q none all.0) (none_named cs ws p all.1 none)
none_named cs (Erases q ∷ ws) p all none = or_from (names p (Erases q)) (list_any (names p) ws) (not_one cs p q none all.0) (none_named cs ws p all.1 none)
none_named cs (Patches a place bytes ∷ ws) p all none = absurd all

no_area : (cs : List Change) (ws : List Write) (a : Area) → AllOf cs ws → list_any (is_in a) ws ≡ false
no_area cs [] a all = refl
no_area cs (Stores q bytes ∷ ws) a all = no_area cs ws a all.1
no_area cs (Erases q ∷ ws) a all = no_area cs ws a all.1
no_area cs (Patches b place bytes ∷ ws) a all = absurd all

changes_only : (cs : List Change) (base : Reading) (ws : List Write) (image : Reading) → AllOf cs ws → IsImage base ws image → ChangesOnly cs base image
changes_only cs base ws image all is = record {
  files = record { tree = is.tree; others = λ q none. is.kept q (none_named cs ws q all none) };
  areas = λ a. (is.areas a).same (no_area cs ws a all);
}

all_last : (cs : List Change) (ws : List Write) (w : Write) → AllOf cs ws → AllOf cs (w ∷ []) → AllOf cs (ws ++ w ∷ [])
all_last cs [] w all one = one
all_last cs (Stores p bytes ∷ ws) w all one = (all.0, all_last cs ws w all.1 one)
all_last cs (Erases p ∷ ws) w all one = (all.0, all_last cs ws w all.1 one)
all_last cs (Patches a place bytes ∷ ws) w all one = absurd all

abbrev Only : List Change → Standing → Standing → Type 0
Only cs s t = (t.pending.base ≡ s.reading) × AllOf cs t.pending.writes

may_only : (cs : List Change) (start now : Option Standing) → Told (Only cs) start now → (image : Reading) → MayLeave now image → ChangesOnly cs (reading_of start) image
may_only cs start None only image may = absurd may
may_only cs None (Some t) only image may = absurd only
may_only cs (Some s) (Some t) only image may = subst (λ (b : Reading). ChangesOnly cs b image) only.0 (changes_only cs t.pending.base t.pending.writes image only.1 may)

start_only : (cs : List Change) (start : Option Standing) → IsSynced start → Told (Only cs) start start
start_only cs None synced = tt
start_only cs (Some s) synced = (synced.0, subst (AllOf cs) (sym synced.1) tt)

-- Nothing was written yet.
pub begins : (cs : List Change) (start : Option Standing) → IsSynced start → AreUnderway cs start start
begins cs start synced =
    let only = start_only cs start synced in
    record { only = only; leaves = no_call start start (ChangesOnly cs (reading_of start)) refl (may_only cs start start only) }

writes_only : {T E : Type 0} (cs : List Change) (w : Write) (result : Result T E) (s t u : Standing) → AllOf cs (w ∷ []) → Only cs s t → WriteLeaves w result t u → Only cs s u
writes_only cs w (Ok x) s t u one only done = (ap (λ (v : Standing). v.pending.base) done ∙ only.0, subst (λ (v : Standing). AllOf cs v.pending.writes) (sym done) (all_last cs t.pending.writes w only.1 one))
writes_only cs w (Err e) s t u one only (inl same) = (ap (λ (v : Standing). v.pending.base) same ∙ only.0, subst (λ (v : Standing). AllOf cs v.pending.writes) (sym same) only.1)
writes_only cs w (Err e) s t u one only (inr counts) = (ap (λ (v : Standing). v.pending.base) counts.1 ∙ only.0, subst (λ (v : Standing). AllOf cs v.pending.writes) (sym counts.1) (all_last cs t.pending.writes w only.1 one))

told_only : {T E : Type 0} (cs : List Change) (w : Write) (result : Result T E) (start now new : Option Standing) → AllOf cs (w ∷ []) → Told (Only cs) start now → TellsWrite w now new result → Told (Only cs) start new
told_only cs w result None None None one only wrote = tt
told_only cs w result None None (Some u) one only wrote = absurd wrote
told_only cs w result None (Some t) new one only wrote = absurd only
told_only cs w result (Some s) None new one only wrote = absurd only
told_only cs w result (Some s) (Some t) None one only wrote = absurd wrote
told_only cs w result (Some s) (Some t) (Some u) one only wrote = writes_only cs w result s t u one only wrote

-- One write more.
pub one_more : {T E : Type 0} (cs : List Change) (w : Write) (start now new : Option Standing) (result : Result T E) → AllOf cs (w ∷ []) → TellsWrite w now new result → AreUnderway cs start now → AreUnderway cs start new
one_more cs w start now new result one wrote writing =
    let only = told_only cs w result start now new one writing.only wrote in
    let P = ChangesOnly cs (reading_of start) in
    record { only = only; leaves = joined start now new P writing.leaves (one_call now new P (wrote_goes w now new result wrote) (may_only cs start now writing.only) (may_only cs start new only)) }

-- And then a sync.
pub then_synced : {T E : Type 0} (cs : List Change) (start now new : Option Standing) (result : Result T E) → ReadsAnImage now → TellsSync now new result → AreUnderway cs start now → LeavesOnly start new (ChangesOnly cs (reading_of start))
then_synced cs start now new result stays synced writing =
    let P = ChangesOnly cs (reading_of start) in
    joined start now new P writing.leaves (one_call now new P (synced_goes now new result synced) (may_only cs start now writing.only) (λ image may. may_only cs start now writing.only image (synced_images now new result stays synced image may)))

-- What one call did, behind what the calls before it did.
abbrev Read : (Entries → Entries) → Option Standing → Option Standing → Type 0
Read f old new = Told (λ s t. t.reading ≡ with_files (f s.reading.files) s.reading) old new

pub read_none : (f : Entries → Entries) (old : Option Standing) → ((es : Entries) → f es ≡ es) → Read f old old
read_none f None same = tt
read_none f (Some s) same = sym (ap (λ (es : Entries). with_files es s.reading) (same s.reading.files))

pub read_then : (f g h : Entries → Entries) (old mid new : Option Standing) → ((es : Entries) → g (f es) ≡ h es) → Read f old mid → Read g mid new → Read h old new
read_then f g h None None None same first next = tt
read_then f g h None None (Some u) same first next = absurd next
read_then f g h None (Some t) new same first next = absurd first
read_then f g h (Some s) None new same first next = absurd first
read_then f g h (Some s) (Some t) None same first next = absurd next
read_then f g h (Some s) (Some t) (Some u) same first next =
    next ∙ ap (λ (r : Reading). with_files (g r.files) r) first ∙ ap (λ (es : Entries). with_files es s.reading) (same s.reading.files)

pub read_synced : {T E : Type 0} (f : Entries → Entries) (old mid new : Option Standing) (result : Result T E) → Read f old mid → TellsSync mid new result → Read f old new
read_synced f old mid new result first synced = go old mid new first (synced_reads mid new result synced)
  where
    go : (old mid new : Option Standing) → Read f old mid → Told (λ s t. t.reading ≡ s.reading) mid new → Read f old new
    go None None None first same = tt
    go None None (Some u) first same = absurd same
    go None (Some t) new first same = absurd first
    go (Some s) None new first same = absurd first
    go (Some s) (Some t) None first same = absurd same
    go (Some s) (Some t) (Some u) first same = same ∙ first

on_any : {T E : Type 0} (r : Result T E) (P : Type 0) → P → OnOk r P
on_any (Ok x) P p = p
on_any (Err e) P p = tt

pub read_synced_ok : {T E : Type 0} (f : Entries → Entries) (old mid new : Option Standing) (result : Result T E) → Read f old mid → TellsSync mid new result → OnOk result (Read f old new)
read_synced_ok f old mid new result first synced = on_any result (Read f old new) (read_synced f old mid new result first synced)

wrote_read : {T E : Type 0} (w : Write) (f : Entries → Entries) (old new : Option Standing) (result : Result T E) → ((r : Reading) → applied w r ≡ with_files (f r.files) r) → TellsWrite w old new result → OnOk result (Read f old new)
wrote_read w f None None (Ok x) is wrote = tt
wrote_read w f None (Some u) (Ok x) is wrote = absurd wrote
wrote_read w f (Some s) None (Ok x) is wrote = absurd wrote
wrote_read w f (Some s) (Some u) (Ok x) is wrote = ap (λ (v : Standing). v.reading) wrote ∙ is s.reading
wrote_read w f old new (Err e) is wrote = tt

-- One change's erase, or none.
pub erase_read : {T E : Type 0} (p : Path) (after : Option (List ℕ)) (old new : Option Standing) (result : Result T E) → after ≡ None → TellsWrite (Erases p) old new result → OnOk result (Read (erased_at p after) old new)
erase_read p after old new result none wrote = subst (λ (o : Option (List ℕ)). OnOk result (Read (erased_at p o) old new)) (sym none) (wrote_read (Erases p) (erased_at p None) old new result (λ r. refl) wrote)

pub store_read : {T E : Type 0} (p : Path) (bytes : List ℕ) (after : Option (List ℕ)) (old new : Option Standing) (result : Result T E) → after ≡ Some bytes → TellsWrite (Stores p bytes) old new result → OnOk result (Read (stored_at p after) old new)
store_read p bytes after old new result some wrote = subst (λ (o : Option (List ℕ)). OnOk result (Read (stored_at p o) old new)) (sym some) (wrote_read (Stores p bytes) (stored_at p (Some bytes)) old new result (λ r. refl) wrote)

pub erase_none : (p : Path) (bytes : List ℕ) (after : Option (List ℕ)) (told : Option Standing) → after ≡ Some bytes → Read (erased_at p after) told told
erase_none p bytes after told some = read_none (erased_at p after) told (λ es. ap (λ (o : Option (List ℕ)). erased_at p o es) some)

pub store_none : (p : Path) (after : Option (List ℕ)) (told : Option Standing) → after ≡ None → Read (stored_at p after) told told
store_none p after told none = read_none (stored_at p after) told (λ es. ap (λ (o : Option (List ℕ)). stored_at p o es) none)

-- Room for the next erase.
pub erase_room : (cs : List Change) (i : ℕ) (d : Change) (old now : Option Standing) → LeadsToTree old cs → i < length cs → Read (erased (take i cs)) old now → (get_or cs i d).after ≡ None → HasRoomFor now (get_or cs i d).path
erase_room cs i d old None lead lt read gone = tt
erase_room cs i d None (Some t) lead lt read gone = absurd read
erase_room cs i d (Some s) (Some t) lead lt read gone = room_to_erase s.reading.files t.reading.files cs i d lead lt gone (ap (λ (r : Reading). r.files) read)

pub store_room : (cs : List Change) (i : ℕ) (d : Change) (bytes : List ℕ) (old now : Option Standing) → LeadsFromErased old cs → i < length cs → Read (stored (take i cs)) old now → (get_or cs i d).after ≡ Some bytes → HasRoomFor now (get_or cs i d).path
store_room cs i d bytes old None lead lt read put = tt
store_room cs i d bytes None (Some t) lead lt read put = absurd read
store_room cs i d bytes (Some s) (Some t) lead lt read put =
    room_to_store lead.0 t.reading.files cs i d bytes lead.1 lt put (ap (λ (r : Reading). r.files) read ∙ ap (stored (take i cs)) lead.2)

pub erase_more : (cs : List Change) (i : ℕ) (c : Change) (old now new : Option Standing) → i < length cs → c ≡ get_or cs i c → Read (erased (take i cs)) old now → Read (erased_at c.path c.after) now new → Read (erased (take (i + 1) cs)) old new
erase_more cs i c old now new lt is before one =
    read_then (erased (take i cs)) (erased_at c.path c.after) (erased (take (i + 1) cs)) old now new
    (λ es. sym (erased_more (take i cs) c es) ∙ ap (λ (l : List Change). erased l es) (ap (λ (x : Change). take i cs ++ x ∷ []) is ∙ sym (take_more cs i c lt))) before one

pub store_more : (cs : List Change) (i : ℕ) (c : Change) (old now new : Option Standing) → i < length cs → c ≡ get_or cs i c → Read (stored (take i cs)) old now → Read (stored_at c.path c.after) now new → Read (stored (take (i + 1) cs)) old new
store_more cs i c old now new lt is before one =
    read_then (stored (take i cs)) (stored_at c.path c.after) (stored (take (i + 1) cs)) old now new
    (λ es. sym (stored_more (take i cs) c es) ∙ ap (λ (l : List Change). stored l es) (ap (λ (x : Change). take i cs ++ x ∷ []) is ∙ sym (take_more cs i c lt))) before one

pub changed_here : (cs : List Change) (i : ℕ) (c : Change) → i < length cs → c ≡ get_or cs i c → is_changed cs c.path ≡ true
changed_here cs i c lt is = ap (λ (x : Change). is_changed cs x.path) is ∙ changed_at cs i c lt

none_taken : (cs : List Change) (es : Entries) → takes_away cs ≡ false → erased cs es ≡ es
none_taken [] es h = refl
none_taken (c ∷ cs) es h =
    let parts = or_parts (is_none c.after) (takes_away cs) h in
    elim c.after as (λ o. is_none o ≡ false → erased cs (erased_at c.path o es) ≡ es) [
      | None ↦ λ n. cc
      | Some b ↦ λ n. none_taken cs es parts.1
    ] parts.0

none_put : (cs : List Change) (es : Entries) → puts cs ≡ false → stored cs es ≡ es
none_put [] es h = refl
none_put (c ∷ cs) es h =
    let parts = or_parts (is_some c.after) (puts cs) h in
    elim c.after as (λ o. is_some o ≡ false → stored cs (stored_at c.path o es) ≡ es) [
      | None ↦ λ n. none_put cs es parts.1
      | Some b ↦ λ n. cc
    ] parts.0

-- Nothing is taken away, or put.
pub none_erased : (cs : List Change) (told : Option Standing) → takes_away cs ≡ false → HasErased cs told told
none_erased cs told h = read_none (erased cs) told (λ es. none_taken cs es h)

pub none_stored : (cs : List Change) (told : Option Standing) → puts cs ≡ false → HasStored cs told told
none_stored cs told h = read_none (stored cs) told (λ es. none_put cs es h)

pub nothing_done : (cs : List Change) (told : Option Standing) → IsSynced told → LeavesOnly told told (ChangesOnly cs (reading_of told))
nothing_done cs told synced = (begins cs told synced).leaves

-- What was erased leads on.
pub leads_on : (cs : List Change) (old mid : Option Standing) → LeadsToTree old cs → HasErased cs old mid → LeadsFromErased mid cs
leads_on cs old None lead erased_all = tt
leads_on cs None (Some t) lead erased_all = absurd erased_all
leads_on cs (Some s) (Some t) lead erased_all = (s.reading.files, lead, ap (λ (r : Reading). r.files) erased_all)

pub both_done : {T E : Type 0} (cs : List Change) (old mid new : Option Standing) (result : Result T E) → HasErased cs old mid → OnOk result (HasStored cs mid new) → OnOk result (HasChanged cs old new)
both_done cs old mid new (Ok x) first next = read_then (erased cs) (stored cs) (λ es. stored cs (erased cs es)) old mid new (λ es. refl) first next
both_done cs old mid new (Err e) first next = tt
