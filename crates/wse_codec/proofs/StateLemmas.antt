-- Versions and states: what is read is spelled so, and what is spelled so is read. So no two states share a spelling.
use Rattle.std.proofs.Common.{◌≡◌, ◌≢◌, ℕ, ◌^◌, ◌<◌, eqb, List, [], ◌∷◌, ◌++◌, length, Option, None, option_map, Ok, refl, sym, ap, subst, ◌∙◌, append_assoc, append-nil, arith}
use Rattle.std.specs.Int.{w32, w64, to_be_bytes}
use Rattle.std.proofs.lemmas.Bool.{eqb-true}
use Rattle.wse_path.specs.Path.{Path}
use Rattle.wse_path.specs.declared.change.Numbered.{Numbered}
use Rattle.wse_codec.specs.declared.snapshot.Snapshot.{Snapshot}
use Rattle.wse_codec.specs.Spelling.{path_bytes, version_bytes, versions_bytes, elements_bytes, state_bytes}
use Rattle.wse_codec.specs.Allowed.{IsAllowedVersion, AreAllowedVersions, IsAllowedState}
use Rattle.wse_codec.specs.Pieces.{◌>>=◌, where_allowed, number_at, count_at, whole}
use Rattle.wse_codec.specs.Reading.{version_behind, versions_at, elements_at, snapshot_at}
use Rattle.wse_codec.proofs.FieldLemmas.{IsBytes, IsPiece, Takes, then_takes, step, guarded, whole_ok, ok_is, ruled, byte, number32, number64, count}
use Rattle.wse_codec.proofs.RowLemmas.{Each, counted, all_from_each, each_from_all, both_each, weaker_each, Behind, rise_from_each, each_from_rise}
use Rattle.wse_codec.proofs.PathLemmas.{path_after}
use Rattle.wse_codec.proofs.PartLemmas.{elements}
use Rattle.wse_codec.proofs.RecordLemmas.{all_taken}

abbrev version_path : Numbered → Path
version_path version = version.path

abbrev version_number : Numbered → ℕ
version_number version = version.number

abbrev IsVersionBehind : Option Numbered → Numbered → Type 0
IsVersionBehind before version = IsAllowedVersion version × Behind version_path before version

version_takes : (before : Option Numbered) (bytes : List ℕ) (x : Numbered × List ℕ) → IsBytes bytes → version_behind before bytes ≡ Ok x
    → Takes bytes (version_bytes x.0) x.1 × IsVersionBehind before x.0
unfolding version_behind version_bytes
version_takes before bytes x fits e =
    let a = step (path_after (option_map version_path before)) bytes (λ path. count_at path.1 >>= λ number. Ok (record { path = path.0; number = number.0 }, number.1)) x fits e in
    let b = step count a.rest (λ number. Ok (record { path = a.value; number = number.0 }, number.1)) x a.took.rest_fits a.goes_on in
    let both = then_takes a.took b.took in
    let made : Numbered = record { path = a.value; number = b.value } in
    let some : b.value ≢ 0 = λ none. absurd (omega (arith, none, b.allowed.0)) in
    subst (λ (y : Numbered × List ℕ). Takes bytes (version_bytes y.0) y.1 × IsVersionBehind before y.0) (ok_is (made, b.rest) x b.goes_on)
    (both, (record { path = a.allowed.0; some = some; fits = b.allowed.1 }, a.allowed.1))

version_again : (before : Option Numbered) (version : Numbered) (rest : List ℕ) → IsVersionBehind before version → version_behind before (version_bytes version ++ rest) ≡ Ok (version, rest)
unfolding version_behind version_bytes
version_again before version rest h =
    let tail : List ℕ = to_be_bytes w32 version.number ++ rest in
    let some : version.number ≢ 0 = h.0.some in
    let first = (path_after (option_map version_path before)).again version.path tail (h.0.path, h.1) in
    let second = count.again version.number rest (omega (arith, some), h.0.fits) in
    ap (version_behind before) (append_assoc (path_bytes version.path) (to_be_bytes w32 version.number) rest) ∙ rw (first, second) refl

version : (before : Option Numbered) → IsPiece (version_behind before) version_bytes (IsVersionBehind before)
version before = record { takes = version_takes before; again = version_again before }

abbrev ReadVersions : List Numbered → Type 0
ReadVersions versions = (length versions < 2 ^ 32) × Each IsVersionBehind None versions

versions_to : (versions : List Numbered) → ReadVersions versions → AreAllowedVersions versions
versions_to versions h = record {
  count = h.0;
  rise = rise_from_each version_path version_number None versions (weaker_each IsVersionBehind (Behind version_path) (λ before v p. p.1) None versions h.1);
  each = all_from_each IsVersionBehind IsAllowedVersion (λ before v p. p.0) None versions h.1;
}

versions_from : (versions : List Numbered) → AreAllowedVersions versions → ReadVersions versions
versions_from versions h = (
  h.count,
  both_each (λ before v. IsAllowedVersion v) (Behind version_path) IsVersionBehind (λ before v p q. (p, q)) None versions
      (each_from_all IsAllowedVersion (λ before v. IsAllowedVersion v) (λ before v p. p) None versions h.each)
      (each_from_rise version_path version_number versions h.rise),
)

pub versions : IsPiece versions_at versions_bytes AreAllowedVersions
unfolding versions_at versions_bytes
versions = ruled AreAllowedVersions (counted number32 version) versions_to versions_from

pub state_takes : (bytes : List ℕ) (s : Snapshot) → IsBytes bytes → snapshot_at bytes ≡ Ok s → IsAllowedState s × (bytes ≡ state_bytes s)
unfolding snapshot_at state_bytes
state_takes bytes s fits e =
    let a = step byte bytes (λ kind. where_allowed (eqb kind.0 0) bytes kind >>= λ known. number_at w64 known.1 >>= λ serial. number_at w64 serial.1 >>= λ next_id. versions_at next_id.1 >>= λ versions. elements_at versions.1 >>= λ elements. whole (record { serial = serial.0; next_id = next_id.0; versions = versions.0; elements = elements.0 }, elements.1)) s fits e in
    let g = guarded (eqb a.value 0) bytes (a.value, a.rest) (λ known. number_at w64 known.1 >>= λ serial. number_at w64 serial.1 >>= λ next_id. versions_at next_id.1 >>= λ versions. elements_at versions.1 >>= λ elements. whole (record { serial = serial.0; next_id = next_id.0; versions = versions.0; elements = elements.0 }, elements.1)) s a.goes_on in
    let b = step number64 a.rest (λ serial. number_at w64 serial.1 >>= λ next_id. versions_at next_id.1 >>= λ versions. elements_at versions.1 >>= λ elements. whole (record { serial = serial.0; next_id = next_id.0; versions = versions.0; elements = elements.0 }, elements.1)) s a.took.rest_fits g.1 in
    let c = step number64 b.rest (λ next_id. versions_at next_id.1 >>= λ versions. elements_at versions.1 >>= λ elements. whole (record { serial = b.value; next_id = next_id.0; versions = versions.0; elements = elements.0 }, elements.1)) s b.took.rest_fits b.goes_on in
    let d = step versions c.rest (λ versions. elements_at versions.1 >>= λ elements. whole (record { serial = b.value; next_id = c.value; versions = versions.0; elements = elements.0 }, elements.1)) s c.took.rest_fits c.goes_on in
    let f = step elements d.rest (λ elements. whole (record { serial = b.value; next_id = c.value; versions = d.value; elements = elements.0 }, elements.1)) s d.took.rest_fits d.goes_on in
    let made : Snapshot = record { serial = b.value; next_id = c.value; versions = d.value; elements = f.value } in
    let h = whole_ok made s f.rest f.goes_on in
    let both = then_takes a.took (then_takes b.took (then_takes c.took (then_takes d.took f.took))) in
    let tail : List ℕ = to_be_bytes w64 b.value ++ (to_be_bytes w64 c.value ++ (versions_bytes d.value ++ elements_bytes f.value)) in
    let spelled : bytes ≡ a.value ∷ tail = all_taken bytes (a.value ∷ tail) f.rest both h.0 in
    let whole : bytes ≡ state_bytes made = spelled ∙ ap (λ (k : ℕ). k ∷ tail) (eqb-true a.value 0 g.0) in
    let allowed : IsAllowedState made = record { serial = b.allowed; next_id = c.allowed; versions = d.allowed; elements = f.allowed } in
    subst (λ (w : Snapshot). IsAllowedState w × (bytes ≡ state_bytes w)) h.1 (allowed, whole)

pub state_again : (s : Snapshot) → IsAllowedState s → snapshot_at (state_bytes s) ≡ Ok s
unfolding snapshot_at state_bytes
state_again s h =
    let behind_versions : List ℕ = elements_bytes s.elements in
    let behind_ids : List ℕ = versions_bytes s.versions ++ behind_versions in
    let behind_serial : List ℕ = to_be_bytes w64 s.next_id ++ behind_ids in
    let first = byte.again 0 (to_be_bytes w64 s.serial ++ behind_serial) tt in
    let second = number64.again s.serial behind_serial h.serial in
    let third = number64.again s.next_id behind_ids h.next_id in
    let fourth = versions.again s.versions behind_versions h.versions in
    let last : elements_at behind_versions ≡ Ok (s.elements, []) = ap elements_at (sym (append-nil behind_versions)) ∙ elements.again s.elements [] h.elements in
    rw (first, second, third, fourth, last) refl

pub one_state : (a b : Snapshot) → IsAllowedState a → IsAllowedState b → state_bytes a ≡ state_bytes b → a ≡ b
one_state a b p q same = ok_is a b (sym (state_again a p) ∙ ap snapshot_at same ∙ state_again b q)
