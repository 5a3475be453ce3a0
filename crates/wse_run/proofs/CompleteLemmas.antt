-- A run that can't but be done.
use Rattle.std.proofs.Common.{◌≡◌, ◌⊎◌, inl, inr, ⊎_elim, ℕ, ◌+◌, ◌≤◌, true, false, List, ◌++◌, length, Option, Some, refl, sym, ap, subst, ◌∙◌, arith, length-append}
use Rattle.std.specs.Prelude.{Bool}
use Rattle.url.specs.Parts.{Parts}
use Rattle.wse_path.specs.declared.limits.Limits.{Limits}
use Rattle.wse_path.specs.declared.limits.Hit.{Hit}
use Rattle.wse_disk.specs.Standing.{Standing}
use Rattle.wse_disk.specs.Told.{WhereTold}
use Rattle.wse_io.specs.Stream.{Takes}
use Rattle.wse_txn.specs.Stands.{IsNoStore}
use Rattle.wse_txn.proofs.OneState.{stands_for_one}
use Rattle.wse_stream.specs.Runs.{HasCauses}
use Rattle.wse_stream.specs.Scene.{Scene, Faults}
use Rattle.wse_recover.specs.Open.{IsInTheWay, DiffersFirstAt, IsTooBig, AdoptsTooMuch}
use Rattle.wse_run.specs.Complete.{IsOpenable, IsCalm, IsDoneOrStarved}
use Rattle.wse_run.specs.End.{ending_of}
use Rattle.wse_run.specs.Refusal.{IsPassed, IsInDispute}
use Rattle.wse_run.specs.Run.{RunsStore, Served, Refused, Failed, Starved}
use Rattle.wse_run.specs.declared.end.RunEnd.{RunEnd}
use Rattle.wse_run.specs.declared.end.RunEnd.TheVariants.{Done, Read, Write, Disk, Memory, NotAStore, TooBig, InputLimit, Differs}

-- more bytes can't be taken than there are
too_many : (max_input : ℕ) (old new : Option (List ℕ)) (all taken : List ℕ) → old ≡ Some all → length all ≤ max_input → Takes old new taken → length taken ≡ max_input + 1 → ⊥
too_many max_input old new all taken is short takes many =
    let some = subst (λ (o : Option (List ℕ)). Takes o new taken) is takes in
    omega (arith, short, many, ap length some.2 ∙ length-append taken some.0)

module _ (root : Parts) (adopt : Bool) (limits : Limits) (max_input : ℕ) (before now : Scene) (s : Standing) (told : before.disk.told ≡ Some s) (open' : IsOpenable adopt limits s.reading) where
  told_here : (P : Standing → Type 0) → WhereTold before.disk.told P → P s
  told_here P h = subst (λ (t : Option Standing). WhereTold t P) told h

  no_store : (at : ℕ) → WhereTold before.disk.told (λ d. IsNoStore d.reading at) → ⊥
  no_store at h = stands_for_one.never open'.is_store.0 s.reading at open'.is_store.1 (told_here (λ d. IsNoStore d.reading at) h)

  passes_none : (hit : Hit) → IsPassed adopt limits before.disk.told now.disk.told hit → ⊥
  passes_none hit h =
      ⊎_elim (λ big. open'.fits hit big) (λ more. open'.adopts more.0 hit more.1)
      (told_here (λ d. IsTooBig limits hit d.reading ⊎ ((adopt ≡ true) × AdoptsTooMuch limits hit d.reading)) h.0)

  no_dispute : (p : List (List ℕ)) → IsInDispute adopt before.disk.told now.disk.told p → ⊥
  no_dispute p (inl way) = open'.is_clear p (told_here (λ d. IsInTheWay d.reading p) way.0)
  no_dispute p (inr other) = open'.agrees other.0 p (told_here (λ d. DiffersFirstAt p d.reading) other.1)

  module _ (counts counts' : Faults) (calm : IsCalm max_input before.left counts counts') where
    pub complete : (end : RunEnd) → HasCauses (ending_of end) counts counts' → RunsStore root adopt limits max_input before now end → IsDoneOrStarved end
    complete Done causes run = inl refl
    complete Read causes run = absurd (calm.source causes.source.1)
    complete Write causes run = absurd (calm.sink causes.sink.1)
    complete Disk causes run = absurd (calm.disk causes.disk.1)
    complete Memory causes run = inr refl
    complete (NotAStore at) causes (Served opened first begins r work is) = absurd is
    complete (NotAStore at) causes (Refused unread why) = absurd (no_store at why.0)
    complete (NotAStore at) causes (Failed unread is) = cc
    complete (NotAStore at) causes (Starved unread is) = cc
    complete (TooBig hit) causes (Served opened first begins r work is) = absurd is
    complete (TooBig hit) causes (Refused unread why) = absurd (passes_none hit why)
    complete (TooBig hit) causes (Failed unread is) = cc
    complete (TooBig hit) causes (Starved unread is) = cc
    complete (InputLimit limit) causes (Served opened first begins r work is) =
        absurd (too_many max_input before.left now.left calm.short.0 r.taken calm.short.1 calm.short.2 r.takes (r.passed refl).0)
    complete (InputLimit limit) causes (Refused unread why) = absurd why
    complete (InputLimit limit) causes (Failed unread is) = cc
    complete (InputLimit limit) causes (Starved unread is) = cc
    complete (Differs p) causes (Served opened first begins r work is) = absurd is
    complete (Differs p) causes (Refused unread why) = absurd (no_dispute p why)
    complete (Differs p) causes (Failed unread is) = cc
    complete (Differs p) causes (Starved unread is) = cc
