-- A run behind an opening.
use Rattle.std.proofs.Common.{◌≡◌, ◌⊎◌, inl, inr, ⊎_elim, ℕ, ◌≤◌, List, [], Option, arith}
use Rattle.wse_disk.specs.Reading.{Reading}
use Rattle.wse_disk.specs.Told.{WhereTold, CountsMoments}
use Rattle.wse_io.specs.Stream.{Piece}
use Rattle.wse_io.proofs.StreamLemmas.{within_wider}
use Rattle.wse_stream.specs.Emitted.{emitted_by}
use Rattle.wse_stream.specs.Machine.{Machine}
use Rattle.wse_stream.specs.Rests.{Stretches, StaysTold}
use Rattle.wse_stream.specs.Run.{HoldsFront}
use Rattle.wse_stream.specs.Scene.{DiskAt, Scene, scene}
use Rattle.wse_stream.specs.Runs.{Ending, Runs, lines_of}
use Rattle.wse_stream.specs.Opened.{RunsFrom, IsEarlier}
use Rattle.wse_stream.proofs.PieceLemmas.{by_order, none_by}
use Rattle.wse_stream.proofs.MomentLemmas.{stretch_since}
use Rattle.wse_stream.proofs.RunLemmas.{holds_nothing, within_none}

module _ {S : Type 0} (m : Machine S) (opened first : S) (left : Option (List ℕ)) (pieces : Option (List Piece)) where
  -- what opening may leave: what was at the start, or the opened state, or the first one
  abbrev pub Leaves : DiskAt → Reading → Type 0
  Leaves start c = IsEarlier m opened start c ⊎ m.stands first c

  pub runs_from : (max_input : ℕ) (start middle : DiskAt) (now : Scene) (ending : Ending) → CountsMoments start.told start.moment → start.moment ≤ middle.moment → WhereTold start.told (λ d. m.stands opened d.reading)
      → Stretches start.told middle.told (Leaves start) → StaysTold start.told middle.told → Runs m first max_input (scene left pieces middle) now ending → RunsFrom m opened first max_input (scene left pieces start) now ending
  runs_from max_input start middle now ending counts later is stretch still r = record {
    is_opened = is;
    taken = r.taken;
    over = r.over;
    added = r.added;
    takes = r.takes;
    is_over = r.is_over;
    adds = r.adds;
    later = omega (arith, later, r.ran.later);
    output = r.ran.output;
    times = within_wider _ _ _ _ r.added later (omega arith) r.ran.times;
    done = r.done;
    read = r.read;
    passed = r.passed;
    only_passed = r.only_passed;
    never_more = r.never_more;
    moments = λ told t c le left'. by_order (HoldsFront m 1 first (lines_of max_input r.taken r.over) (emitted_by t r.added) c ⊎ ((emitted_by t r.added ≡ []) × IsEarlier m opened start c)) t middle.moment
        (λ lt. let none = none_by t _ _ r.added lt r.ran.times in
        ⊎_elim
        (λ before. opening t c none (stretch_since start.told middle.told start.moment t (Leaves start) c counts told stretch le before))
        (λ within. inl (holds_nothing m 1 first _ _ c none within))
        (r.ran.earlier (still told) t c (omega (arith, lt)) left'))
        (λ ge. inl (r.ran.since (still told) t c ge left'));
  }
    where
      opening : (t : ℕ) (c : Reading) → emitted_by t r.added ≡ [] → Leaves start c → HoldsFront m 1 first (lines_of max_input r.taken r.over) (emitted_by t r.added) c ⊎ ((emitted_by t r.added ≡ []) × IsEarlier m opened start c)
      opening t c none (inl earlier) = inr (none, earlier)
      opening t c none (inr stands) = inl (holds_nothing m 1 first _ _ c none (within_none m first _ c stands))
