-- A new store.
use Rattle.std.proofs.Common.{◌≡◌, inl, ℕ, ◌+◌, ◌<◌, Bool, true, List, [], ◌∷◌, ◌++◌, length, map, drop, Option, Some, None, Result, Ok, refl, sym, ap, subst, ◌∙◌, append_assoc, append-nil, arith}
use Rattle.std.proofs.lemmas.List.Elements.{All-nil, All-cons}
use Rattle.wse_path.specs.Tree.{Entries}
use Rattle.wse_path.specs.declared.limits.Limits.{Limits}
use Rattle.wse_path.specs.declared.limits.Hit.{Hit}
use Rattle.wse_element.specs.Linked.{IsKeptLinked}
use Rattle.wse_element.specs.Numbers.{are_versions_bounded, are_some}
use Rattle.wse_element.specs.State.{kept_of}
use Rattle.wse_codec.specs.declared.snapshot.Snapshot.{Snapshot}
use Rattle.wse_codec.specs.Allowed.{numbers_of}
use Rattle.wse_codec.specs.Pieces.{placed}
use Rattle.wse_codec.specs.Reading.{read_snapshot}
use Rattle.wse_codec.specs.Spelling.{state_bytes}
use Rattle.wse_codec.proofs.StateLemmas.{state_again}
use Rattle.wse_disk.specs.declared.area.Area.TheVariants.{Switch, LogA}
use Rattle.wse_disk.specs.Reading.{Reading, with_area, patched}
use Rattle.wse_disk.specs.Reading.Write.{Patches}
use Rattle.wse_disk.specs.Standing.{Standing, after_whole_sync}
use Rattle.wse_disk.specs.Told.{MayLeave, ReadsAnImage}
use Rattle.wse_disk.specs.Calls.{Told, HasApplied, IsPatchable}
use Rattle.wse_disk.proofs.Moments.{one_call, synced_goes}
use Rattle.wse_disk.proofs.ImageLemmas.{synced_images}
use Rattle.wse_log.specs.Grammar.{HasShortBody, IsSettled, header, framed, front, ClosedAt, IsJournal}
use Rattle.wse_log.specs.Writing.{settled, next_gate, fresh_journal}
use Rattle.wse_txn.specs.Replay.{Replayed, Leaves, GivesBehind, GivesFirst, kept_in}
use Rattle.wse_txn.specs.Stands.{StandsFor}
use Rattle.wse_recover.specs.Start.{fresh}
use Rattle.wse_recover.specs.First.{first_versions, first_state, SpellsNew, SpellsNewStore}
use Rattle.wse_recover.specs.Measure.{TellsHit}
use Rattle.wse_recover.specs.Untouched.{IsUntouched}
use Rattle.wse_recover.specs.Init.{HasMade, RefusesTree, RefusesMaking}
use Rattle.wse_recover.specs.declared.fault.Unmade.{Unmade}
use Rattle.wse_recover.specs.declared.fault.Unmade.TheVariants as unmade

-- What is told after a sync that succeeded.
abbrev pub HasSynced : Option Standing → Option Standing → Type 0
HasSynced old new = Told (λ s t. t ≡ after_whole_sync s) old new

-- ---- the new journal

numbers_first : (files : Entries) → numbers_of (first_versions files) ≡ map (λ e. (e.0, 1)) files
numbers_first [] = refl
numbers_first (e ∷ files) = ap (λ ns. (e.0, 1) ∷ ns) (numbers_first files)

first_bounded : (files : Entries) → are_versions_bounded 0 (numbers_of (first_versions files)) ≡ true
first_bounded [] = refl
first_bounded (e ∷ files) = first_bounded files

first_some : (files : Entries) → are_some (numbers_of (first_versions files)) ≡ true
first_some [] = refl
first_some (e ∷ files) = first_some files

begins : (body rest : List ℕ) → fresh_journal body ++ rest ≡ front (settled body ∷ []) ++ 0 ∷ rest
unfolding front
begins body rest =
    let one = framed (settled body) in
    append_assoc header (one ++ 0 ∷ []) rest ∙ ap (λ l. header ++ l) (append_assoc one (0 ∷ []) rest)
    ∙ sym (append_assoc header one (0 ∷ rest)) ∙ ap (λ l. (header ++ l) ++ 0 ∷ rest) (sym (append-nil one))

module _ (files : Entries) (bytes : List ℕ) (is : SpellsNew files bytes) where
  abbrev body : List ℕ
  body = state_bytes (first_state files)

  journal : (rest : List ℕ) → IsJournal (bytes ++ rest) (settled body ∷ []) (length (front (settled body ∷ [])))
  journal rest = record {
    order = record {
      short = All-cons HasShortBody (settled body) [] is.short (All-nil HasShortBody);
      first = All-cons IsSettled (settled body) [] refl (All-nil IsSettled);
      followed = All-nil IsSettled;
    };
    ends = record {
      some = λ e. cc;
      byte = 0;
      rest = rest;
      closed = λ e. omega (arith, e);
      spelled = ap (λ l. l ++ rest) is.spelled ∙ begins body rest;
      place = refl;
    };
  }

  linked : IsKeptLinked (kept_in (first_state files))
  linked = record {
    records = record { different = refl; numbered = refl; live = refl; apart = refl; each = λ p. record { done_first = refl; invalid_first = refl; meet = refl } };
    rise = is.allowed.versions.rise;
    some = first_some files;
    bounded = refl;
    versions = first_bounded files;
    known = is.known;
  }

  read : read_snapshot body ≡ Ok (first_state files)
  read = ap (placed body) (state_again (first_state files) is.allowed)

  gives_first : (gate : ℕ) → GivesFirst (read_snapshot body) (λ left. GivesBehind left (next_gate 8 body) [] (ClosedAt gate) (Leaves (record { kept = kept_of (fresh files); sets = [] }))) (Leaves (record { kept = kept_of (fresh files); sets = [] }))
  gives_first gate =
      let given = Leaves (record { kept = kept_of (fresh files); sets = [] }) in
      subst (λ (o : Result Snapshot ℕ). GivesFirst o (λ (left : Replayed). GivesBehind left (next_gate 8 body) [] (ClosedAt gate) given) given) (sym read)
      (inl (linked, (λ i. Leaves (record { kept = record { versions = sym (numbers_first files) i; records = []; next_id = 1; serial = 0 }; sets = [] }))))

  abbrev with_log : Reading → Reading
  with_log r = with_area LogA (patched 0 bytes r.log_a) r

  abbrev with_both : Reading → Reading
  with_both r = with_area Switch (patched 0 (0 ∷ []) (with_log r).switch) (with_log r)

  stands : (r : Reading) → r.files ≡ files → StandsFor (fresh files) (with_both r)
  stands r same = record {
    records = settled body ∷ [];
    gate = length (front (settled body ∷ []));
    journal = journal (drop (0 + length bytes) r.log_a);
    sets = [];
    gives = gives_first (length (front (settled body ∷ [])));
    files = sym same;
  }

-- What the two writes leave.
pub has_made : (old start mid new : Option Standing) (bytes : List ℕ) → HasSynced old start → SpellsNewStore start bytes → HasApplied (Patches LogA 0 bytes) start mid → HasApplied (Patches Switch 0 (0 ∷ [])) mid new → HasMade old new
has_made None None None None bytes after spelled log switch = tt
has_made None None None (Some v) bytes after spelled log switch = absurd switch
has_made None None (Some u) new bytes after spelled log switch = absurd log
has_made None (Some t) mid new bytes after spelled log switch = absurd after
has_made (Some s) None mid new bytes after spelled log switch = absurd after
has_made (Some s) (Some t) None new bytes after spelled log switch = absurd log
has_made (Some s) (Some t) (Some u) None bytes after spelled log switch = absurd switch
has_made (Some s) (Some t) (Some u) (Some v) bytes after spelled log switch =
    let same : t.reading.files ≡ s.reading.files = ap (λ (w : Standing). w.reading.files) after in
    let whole : v.reading ≡ with_both t.reading.files bytes spelled t.reading = switch ∙ ap (λ (r : Reading). with_area Switch (patched 0 (0 ∷ []) r.switch) r) log in (
      ap (λ (r : Reading). r.files) whole ∙ same,
      subst (λ (f : Entries). StandsFor (fresh f) v.reading) same (subst (λ (r : Reading). StandsFor (fresh t.reading.files) r) (sym whole) (stands t.reading.files bytes spelled t.reading refl)),
    )

pub first_patchable : (told : Option Standing) (bytes : List ℕ) → 0 < length bytes → IsPatchable told LogA 0 bytes
first_patchable None bytes some = tt
first_patchable (Some s) bytes some = (some, omega arith)

pub switch_patchable : (told : Option Standing) → IsPatchable told Switch 0 (0 ∷ [])
switch_patchable None = tt
switch_patchable (Some s) = (omega arith, omega arith)

-- ---- a sync alone

pub synced_untouched : (old new : Option Standing) → ReadsAnImage old → HasSynced old new → IsUntouched old new
synced_untouched old new image after =
    let result : Result Bool Bool = Ok true in
    record {
      reading = same old new after;
      leaves = one_call old new (MayLeave old) (synced_goes old new result after) (λ c may. may) (λ c may. synced_images old new result image after c may);
    }
  where
    same : (old new : Option Standing) → HasSynced old new → Told (λ s t. t.reading ≡ s.reading) old new
    same None None after = tt
    same None (Some t) after = absurd after
    same (Some s) None after = absurd after
    same (Some s) (Some t) after = ap (λ (w : Standing). w.reading) after

-- The limits are tried on the same tree.
pub hit_before : (old start : Option Standing) (limits : Limits) (hit : Option Hit) → HasSynced old start → TellsHit start limits hit → TellsHit old limits hit
hit_before None start limits hit after tells = tt
hit_before (Some s) None limits hit after tells = absurd after
hit_before (Some s) (Some t) limits hit after tells = subst (λ (w : Standing). TellsHit (Some w) limits hit) after tells

pub refuses : (old start : Option Standing) (limits : Limits) (why : Unmade) → ReadsAnImage old → HasSynced old start → RefusesTree start limits why → RefusesMaking old start limits why
refuses old start limits unmade.Disk image after tells = tt
refuses old start limits (unmade.TooBig hit) image after tells = (hit_before old start limits (Some hit) after tells, synced_untouched old start image after)
refuses old start limits unmade.Memory image after tells = synced_untouched old start image after
