-- A run from a later moment of a disk that tells the same is one from an earlier.
use Rattle.std.proofs.Common.{◌≡◌, ℕ, ◌≤◌, List, Option, Some, None, refl, sym, subst, ◌∙◌, arith}
use Rattle.std.specs.Prelude.{Bool}
use Rattle.url.specs.Parts.{Parts}
use Rattle.wse_path.specs.declared.limits.Limits.{Limits}
use Rattle.wse_disk.specs.Standing.{Standing}
use Rattle.wse_disk.specs.Told.{CountsMoments}
use Rattle.wse_io.specs.Stream.{Piece}
use Rattle.wse_io.proofs.StreamLemmas.{within_wider}
use Rattle.wse_stream.specs.Scene.{Scene, scene}
use Rattle.wse_run.specs.Run.{RunsStore, Served, Refused, Failed, Starved}
use Rattle.wse_run.specs.declared.end.RunEnd.{RunEnd}
use Rattle.wse_run.proofs.OpeningLemmas.{disk_told}

module _ (root : Parts) (adopt : Bool) (limits : Limits) (max_input : ℕ) (left : Option (List ℕ)) (pieces : Option (List Piece)) (now : Scene) (end : RunEnd) where
  untold : (old mid : ℕ) → old ≤ mid → RunsStore root adopt limits max_input (scene left pieces (disk_told mid None)) now end → RunsStore root adopt limits max_input (scene left pieces (disk_told old None)) now end
  untold old mid le (Served opened first begins r work is) =
      Served opened first begins (record {
        is_opened = tt;
        taken = r.taken;
        over = r.over;
        added = r.added;
        takes = r.takes;
        is_over = r.is_over;
        adds = r.adds;
        later = omega (arith, le, r.later);
        output = r.output;
        times = within_wider _ _ _ _ r.added le (omega arith) r.times;
        done = r.done;
        read = r.read;
        passed = r.passed;
        only_passed = r.only_passed;
        never_more = r.never_more;
        moments = λ t. absurd t;
      }) work is
  untold old mid le (Refused unread why) = Refused (record { source = unread.source; sink = unread.sink; later = omega (arith, le, unread.later); images = λ t. absurd t }) why
  untold old mid le (Failed unread is) = Failed (record { source = unread.source; sink = unread.sink; later = omega (arith, le, unread.later); images = λ t. absurd t }) is
  untold old mid le (Starved unread is) = Starved (record { source = unread.source; sink = unread.sink; later = omega (arith, le, unread.later); images = λ t. absurd t }) is

  by_told : (old mid : ℕ) (told : Option Standing) → old ≤ mid → CountsMoments told old → CountsMoments told mid
      → RunsStore root adopt limits max_input (scene left pieces (disk_told mid told)) now end → RunsStore root adopt limits max_input (scene left pieces (disk_told old told)) now end
  by_told old mid None le counts counts' run = untold old mid le run
  by_told old mid (Some s) le counts counts' run =
      subst (λ (m : ℕ). RunsStore root adopt limits max_input (scene left pieces (disk_told m (Some s))) now end) (counts' ∙ sym counts) run

  pub runs_earlier : (old mid : ℕ) (told mid_told : Option Standing) → old ≤ mid → mid_told ≡ told → CountsMoments told old → CountsMoments mid_told mid
      → RunsStore root adopt limits max_input (scene left pieces (disk_told mid mid_told)) now end → RunsStore root adopt limits max_input (scene left pieces (disk_told old told)) now end
  runs_earlier old mid told mid_told le same counts counts' run =
      by_told old mid told le counts (subst (λ (t : Option Standing). CountsMoments t mid) same counts')
      (subst (λ (t : Option Standing). RunsStore root adopt limits max_input (scene left pieces (disk_told mid t)) now end) same run)
