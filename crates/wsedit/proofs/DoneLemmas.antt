-- What is done, by what the words ask for.
use Rattle.std.proofs.Common.{◌≡◌, ◌⊎◌, inl, inr, ⊎_elim, ℕ, List, Option, Some, None, refl, sym, ap, subst, ◌∙◌, arith}
use Rattle.std.specs.Prelude.{Bool, false}
use Rattle.url.specs.Parts.{Parts}
use Rattle.wse_path.specs.Causes.{Rose}
use Rattle.wse_path.specs.declared.limits.Limits.{Limits}
use Rattle.wse_path.specs.declared.limits.Hit.{Hit}
use Rattle.wse_disk.specs.Standing.{Standing}
use Rattle.wse_disk.specs.Told.{MayLeave, CountsMoments}
use Rattle.wse_disk.specs.Calls.{Told}
use Rattle.wse_disk.proofs.Moments.{no_call}
use Rattle.wse_stream.specs.Causes.{CountsFault}
use Rattle.wse_stream.specs.Runs.{Ending, HasCauses}
use Rattle.wse_stream.specs.Scene.{Scene, Faults, faults}
use Rattle.wse_recover.specs.Measure.{TellsHit}
use Rattle.wse_recover.specs.Start.{start_hit}
use Rattle.wse_recover.specs.Untouched.{IsUntouched}
use Rattle.wse_words.specs.Words.{Asked, Init, Run, Show}
use Rattle.wse_words.specs.Read.{asked_of}
use Rattle.wse_words.specs.declared.words.Words.{Words as ReadWords}
use Rattle.wse_words.specs.declared.words.Words.TheVariants as words
use Rattle.wse_words.specs.declared.words.Places.{Places}
use Rattle.wse_words.specs.declared.options.Options.{Options}
use Rattle.wse_run.specs.Complete.{IsOpenable, IsCalm}
use Rattle.wse_run.specs.End.{ending_of}
use Rattle.wse_run.specs.Run.{RunsStore, Starved}
use Rattle.wse_run.specs.declared.end.RunEnd.{RunEnd}
use Rattle.wse_run.specs.declared.end.RunEnd.TheVariants.{Done, Read, Write, Disk, Memory, NotAStore, TooBig, InputLimit, Differs}
use Rattle.wse_run.proofs.CompleteLemmas.{complete}
use Rattle.wse_run.proofs.OpeningLemmas.{untouched}
use Rattle.wsedit.specs.Making.{HasMadeOr, MakesStore}
use Rattle.wsedit.specs.Program.{Does}
use Rattle.wsedit.specs.Showing.{ShowsStore}
use Rattle.wsedit.specs.Status.{code_of, code_of_end, ending_by}
use Rattle.wsedit.specs.declared.status.Status.{Status}
use Rattle.wsedit.specs.declared.status.Status.TheVariants.{Words, Ran}
use Rattle.wsedit.proofs.ShowingLemmas.{leaves_untouched, done_or_starved}
use Rattle.wsedit.proofs.StatusLemmas.{ending_code}

reads_itself : (told : Option Standing) → Told (λ s t. t.reading ≡ s.reading) told told
reads_itself None = tt
reads_itself (Some s) = refl

-- a disk that no call was made of is untouched
untouched_disk : (told : Option Standing) → IsUntouched told told
untouched_disk told = record { reading = reads_itself told; leaves = no_call told told (MayLeave told) refl (λ c may. may) }

-- there was no memory for the words
pub no_memory : (limits : Limits) (before : Scene) (asked : Asked) → CountsMoments before.disk.told before.disk.moment → Does limits before before asked (Ran Memory)
no_memory limits before (Init tree store) counts = record { source = refl; sink = refl; later = omega arith; made = untouched_disk before.disk.told }
no_memory limits before (Run tree store root adopt max_input) counts =
    Starved (untouched root limits max_input before.left before.pieces false before.disk.moment before.disk.told before.disk.moment before.disk.told counts (omega arith) refl) refl
no_memory limits before (Show tree store) counts =
    record { source = refl; shows = record { later = omega arith; images = leaves_untouched before.disk.moment before.disk.told before.disk.moment before.disk.told counts refl; shown = refl } }

-- the causes by the number
pub causes_by : (end : RunEnd) (before now : Faults) → HasCauses (ending_of end) before now → HasCauses (ending_by (code_of_end end)) before now
causes_by end before now causes = subst (λ (e : Ending). HasCauses e before now) (sym (ending_code end)) causes

-- the causes where a store is made
pub made_causes : (limits : Limits) (old new : Option Standing) (end : RunEnd) (source sink before now : ℕ) → HasMadeOr limits old new end → CountsFault (ending_of end).disk before now
    → HasCauses (ending_of end) (faults source sink before) (faults source sink now)
made_causes limits old new Done source sink before now made rose = record { source = refl; sink = refl; disk = rose }
made_causes limits old new Read source sink before now made rose = absurd made
made_causes limits old new Write source sink before now made rose = absurd made
made_causes limits old new Disk source sink before now made rose = record { source = refl; sink = refl; disk = rose }
made_causes limits old new Memory source sink before now made rose = record { source = refl; sink = refl; disk = rose }
made_causes limits old new (NotAStore at) source sink before now made rose = absurd made
made_causes limits old new (TooBig hit) source sink before now made rose = record { source = refl; sink = refl; disk = rose }
made_causes limits old new (InputLimit limit) source sink before now made rose = absurd made
made_causes limits old new (Differs p) source sink before now made rose = absurd made

-- what the words ask for, by what was read of them
pub makes_words : (limits : Limits) (before now : Scene) (given : ReadWords) (places : Places) (end : RunEnd) → given ≡ words.Init places → MakesStore limits before now end → Does limits before now (asked_of given) (Ran end)
makes_words limits before now given places end is made = subst (λ (w : ReadWords). Does limits before now (asked_of w) (Ran end)) (sym is) made

pub runs_words : (limits : Limits) (before now : Scene) (given : ReadWords) (places : Places) (root : Parts) (o : Options) (end : RunEnd) → given ≡ words.Run places root o → RunsStore root o.adopt limits o.max_input before now end
    → Does limits before now (asked_of given) (Ran end)
runs_words limits before now given places root o end is runs = subst (λ (w : ReadWords). Does limits before now (asked_of w) (Ran end)) (sym is) runs

pub shows_words : (limits : Limits) (before now : Scene) (given : ReadWords) (places : Places) (end : RunEnd) → given ≡ words.Show places → ShowsStore limits before now end → Does limits before now (asked_of given) (Ran end)
shows_words limits before now given places end is shows = subst (λ (w : ReadWords). Does limits before now (asked_of w) (Ran end)) (sym is) shows

asked_is : (a b : Asked) → ◌≡◌ {A = Option Asked} (Some a) (Some b) → a ≡ b
asked_is a b e = cc

-- what was asked for is what the words ask for
pub does_asked : (limits : Limits) (before now : Scene) (status : Status) (given asked : Asked) (by : Option Asked) → Some given ≡ by → by ≡ Some asked → Does limits before now given status → Does limits before now asked status
does_asked limits before now status given asked by read is does = subst (λ (a : Asked). Does limits before now a status) (asked_is given asked (read ∙ is)) does

none_some : (o : Option Hit) (hit : Hit) → o ≡ None → o ≡ Some hit → ⊥
none_some None hit e h = cc
none_some (Some x) hit e h = cc

-- a run that can't but be done, by its status
pub done_by : (limits : Limits) (before now : Scene) (counts counts' : Faults) (tree store : List ℕ) (root : Parts) (adopt : Bool) (max_input : ℕ) (end : Status) (s : Standing) → before.disk.told ≡ Some s → IsOpenable adopt limits s.reading
    → IsCalm max_input before.left counts counts' → HasCauses (ending_by (code_of end)) counts counts' → Does limits before now (Run tree store root adopt max_input) end → (code_of end ≡ 0) ⊎ (code_of end ≡ 6)
done_by limits before now counts counts' tree store root adopt max_input Words s told is calm causes does = absurd does
done_by limits before now counts counts' tree store root adopt max_input (Ran end) s told is calm causes does =
    ⊎_elim (λ done. inl (ap code_of_end done)) (λ starved. inr (ap code_of_end starved))
    (complete root adopt limits max_input before now s told is counts counts' calm end (subst (λ (e : Ending). HasCauses e counts counts') (ending_code end) causes) does)

-- a store that can't but be made
pub made_by : (limits : Limits) (before now : Scene) (counts counts' : Faults) (tree store : List ℕ) (end : Status) (s : Standing) → before.disk.told ≡ Some s → start_hit limits s.reading.files ≡ None
    → (Rose counts.disk counts'.disk → ⊥) → HasCauses (ending_by (code_of end)) counts counts' → Does limits before now (Init tree store) end → (code_of end ≡ 0) ⊎ (code_of end ≡ 6)
made_by limits before now counts counts' tree store Words s told fits calm causes does = absurd does
made_by limits before now counts counts' tree store (Ran Done) s told fits calm causes does = inl refl
made_by limits before now counts counts' tree store (Ran Read) s told fits calm causes does = absurd does.made
made_by limits before now counts counts' tree store (Ran Write) s told fits calm causes does = absurd does.made
made_by limits before now counts counts' tree store (Ran Disk) s told fits calm causes does = absurd (calm causes.disk.1)
made_by limits before now counts counts' tree store (Ran Memory) s told fits calm causes does = inr refl
made_by limits before now counts counts' tree store (Ran (NotAStore at)) s told fits calm causes does = absurd does.made
made_by limits before now counts counts' tree store (Ran (TooBig hit)) s told fits calm causes does =
    let hits : start_hit limits s.reading.files ≡ Some hit = subst (λ (t : Option Standing). TellsHit t limits (Some hit)) told does.made.0 in absurd (none_some _ hit fits hits)
made_by limits before now counts counts' tree store (Ran (InputLimit limit)) s told fits calm causes does = absurd does.made
made_by limits before now counts counts' tree store (Ran (Differs p)) s told fits calm causes does = absurd does.made

-- a store that can't but be shown
pub shown_by : (limits : Limits) (before now : Scene) (counts counts' : Faults) (tree store : List ℕ) (end : Status) (s : Standing) → before.disk.told ≡ Some s → IsOpenable false limits s.reading
    → (Rose counts.sink counts'.sink → ⊥) → (Rose counts.disk counts'.disk → ⊥) → HasCauses (ending_by (code_of end)) counts counts' → Does limits before now (Show tree store) end → (code_of end ≡ 0) ⊎ (code_of end ≡ 6)
shown_by limits before now counts counts' tree store Words s told is out calm causes does = absurd does
shown_by limits before now counts counts' tree store (Ran end) s told is out calm causes does =
    ⊎_elim (λ done. inl (ap code_of_end done)) (λ starved. inr (ap code_of_end starved))
    (done_or_starved limits before.disk now.disk s told is before.pieces now.pieces counts counts' end out calm (subst (λ (e : Ending). HasCauses e counts counts') (ending_code end) causes) does.shows.shown)
