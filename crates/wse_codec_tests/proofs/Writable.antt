-- What was read may be written again, and so may the first state.
use Rattle.std.proofs.Common.{◌≡◌, ℕ, ◌≤◌, List, [], length, ap, refl, arith}
use Rattle.std.specs.Prelude.{◌≢◌}
use Rattle.std.proofs.lemmas.List.Elements.{All-nil}
use Rattle.wse_path.specs.declared.change.Numbered.{Numbered}
use Rattle.wse_element.specs.declared.effect.Effect.{Effect}
use Rattle.wse_codec.specs.declared.snapshot.Snapshot.{Snapshot}
use Rattle.wse_codec.specs.Spelling.{record_bytes, state_bytes, versions_bytes, elements_bytes}
use Rattle.wse_codec.specs.Allowed.{IsAllowedRecord, IsAllowedState, IsSpellable, IsSpellableState}
use Rattle.wse_codec.proofs.SpellableLemmas.{spellable, state_spellable}

pub writable : (body : List ℕ) (effects : List Effect) → length body ≤ 2000 → IsAllowedRecord effects → body ≡ record_bytes effects → IsSpellable effects
writable body effects short h e = spellable effects h (omega (arith, short, ap length e))

pub state_writable : (body : List ℕ) (s : Snapshot) → length body ≤ 2000 → IsAllowedState s → body ≡ state_bytes s → IsSpellableState s
state_writable body s short h e = state_spellable s h (omega (arith, short, ap length e))

-- The first state of a store.
abbrev first : Snapshot
first = record { serial = 0; next_id = 1; versions = []; elements = [] }

first_length : length (state_bytes first) ≡ 25
unfolding state_bytes versions_bytes elements_bytes
first_length = refl

pub first_writable : IsSpellableState first
first_writable = record { rise = refl; some = All-nil (λ (version : Numbered). version.number ≢ 0); short = omega (arith, first_length) }
