-- How a run ends.
use Rattle.std.proofs.Common.{◌≡◌, ◌≢◌, ⊎_elim, ℕ, ◌+◌, ◌≤◌, Bool, true, List, [], ◌∷◌, ◌++◌, length, take, Option, IfSome, Result, Ok, Err, refl, sym, ap, subst, ◌∙◌, arith}
use Rattle.wse_io.specs.Stream.{Piece, Adds, bytes_of}
use Rattle.wse_io.specs.Lines.{lines}
use Rattle.wse_io.specs.Reader.{Reader, Hands, Given, IsAfter, is_over}
use Rattle.wse_io.specs.declared.lines.Ahead.TheVariants.{Open, Over, Failed}
use Rattle.wse_io.specs.declared.lines.Line.{Line}
use Rattle.wse_io.specs.declared.lines.Line.TheVariants.{End}
use Rattle.wse_io.specs.declared.lines.LineFault.{LineFault}
use Rattle.wse_io.specs.declared.lines.LineFault.TheVariants as line_faults
use Rattle.wse_io.proofs.StreamLemmas.{takes_more, adds_more}
use Rattle.wse_path.specs.Causes.{Rose}
use Rattle.wse_stream.specs.Machine.{Machine, transcript, state_after}
use Rattle.wse_stream.specs.Causes.{CountsFault}
use Rattle.wse_stream.specs.Scene.{DiskAt, Faults, scene}
use Rattle.wse_stream.specs.Run.{Ran}
use Rattle.wse_stream.specs.Rests.{Rests}
use Rattle.wse_stream.specs.Runs.{Runs, HasCauses}
use Rattle.wse_server.specs.Serving.{ending_of, end_of_lines, end_of_one, is_disk_fault, is_write_fault}
use Rattle.wse_server.specs.declared.serving.ServeFault.{ServeFault}
use Rattle.wse_server.specs.declared.serving.ServeFault.TheVariants as one_faults
use Rattle.wse_server.specs.declared.serving.ServeEnd.{ServeEnd}
use Rattle.wse_server.specs.declared.serving.ServeEnd.TheVariants.{Done}
use Rattle.wse_stream.proofs.RunLemmas.{ran_more}
use Rattle.wse_stream.proofs.Reading.{Reads, IsHanded, got, over_is, nothing_got, still_over, lines_then, lines_now, counted, reads_more}
use Rattle.wse_stream.proofs.Answering.{Answers, ran_over, all_done}
use Rattle.wse_server.proofs.Says.{Whole, whole_fault, whole_one, runs_by}

-- what comes behind the lines after a fault
pub failed_ahead : (f : LineFault) (bytes : List ℕ) (new : Reader) → Given (Err f) bytes new → new.ahead ≡ Failed f
failed_ahead line_faults.Read bytes new g = g.0
failed_ahead (line_faults.InputLimit n) bytes new g = g.0
failed_ahead line_faults.Memory bytes new g = g.0

-- the count of the source at an end by a fault of the reader, where it was as at the start before
pub source_cause : (f : LineFault) (old mid new : ℕ) → mid ≡ old → mid ≤ new → (f ≢ line_faults.Read → new ≡ mid) → (f ≡ line_faults.Read → Rose old new) → CountsFault (ending_of (end_of_lines f)).read old new
source_cause line_faults.Read old mid new same later kept rose = (omega (arith, same, later), rose refl)
source_cause (line_faults.InputLimit n) old mid new same later kept rose = kept (λ e. cc) ∙ same
source_cause line_faults.Memory old mid new same later kept rose = kept (λ e. cc) ∙ same

-- the cause of such an end
pub lines_cause : (f : LineFault) (before now : Faults) → CountsFault (ending_of (end_of_lines f)).read before.source now.source → now.sink ≡ before.sink → now.disk ≡ before.disk
    → HasCauses (ending_of (end_of_lines f)) before now
lines_cause line_faults.Read before now source sink disk = record { source = source; sink = sink; disk = disk }
lines_cause (line_faults.InputLimit n) before now source sink disk = record { source = source; sink = sink; disk = disk }
lines_cause line_faults.Memory before now source sink disk = record { source = source; sink = sink; disk = disk }

-- the cause of an end by a line that failed
pub one_cause : {D : Type 0} (R : Type 0) (fault : ServeFault D) (before now : Faults) → now.source ≡ before.source → CountsFault (is_write_fault {D = D} {R = R} (Err fault)) before.sink now.sink
    → CountsFault (is_disk_fault {D = D} {R = R} (Err fault)) before.disk now.disk → HasCauses (ending_of (end_of_one fault)) before now
one_cause R (one_faults.Write disk) before now source sink there = record { source = source; sink = sink; disk = there }
one_cause R (one_faults.Disk disk) before now source sink there = record { source = source; sink = sink; disk = there }
one_cause R (one_faults.Memory disk) before now source sink there = record { source = source; sink = sink; disk = there }

module _ {S : Type 0} (m : Machine S) (left_old left_now left_new : Option (List ℕ)) (pieces_old pieces_now : Option (List Piece)) (before here now : DiskAt) (end : ServeEnd)
    (s u : S) (n max_input : ℕ) (r r' : Reader) (taken read : List ℕ) (done : List (List ℕ)) (ps : List Piece)
    (reads : Reads left_old left_now r taken done) (answers : Answers m pieces_old pieces_now before here s u n done ps) (is_limit : r.max_input ≡ max_input) where
  -- the run at this end
  abbrev pub AtEnd : Type 0
  AtEnd = Runs m s max_input (scene left_old pieces_old before) (scene left_new pieces_now now) (ending_of end)

  abbrev pub all_lines : Bool → List (List ℕ)
  all_lines over = lines (take r.max_input (taken ++ read)) over

  abbrev pub Answered : Bool → Type 0
  Answered over = bytes_of ps ≡ transcript m 1 s (all_lines over)

  abbrev pub RestsAt : Bool → DiskAt → Type 0
  RestsAt over disk = Rests disk.told (m.stands (state_after m s (all_lines over)))

  at_end : (over : Bool) (result : Result Line LineFault) → Hands left_now left_new r r' read result → now ≡ here → (over ≡ true → IfSome left_new (λ rest. rest ≡ []))
      → all_lines over ≡ done ++ lines (r.held ++ got r read) over → Whole end r.max_input (length (taken ++ read)) over (Answered over) (RestsAt over now) → AtEnd
  at_end over result h same ended all whole =
      let ran : Ran m before now 1 s done ps = subst (λ d. Ran m before d 1 s done ps) (sym same) answers.ran in
      let runs = runs_by m s r.max_input (scene left_old pieces_old before) (scene left_new pieces_now now) end (taken ++ read) over ps
      (takes_more _ _ _ taken read reads.takes h.takes) ended answers.adds
      (ran_over m before now s done _ _ ps ran all)
      whole in
      subst (λ l. Runs m s l (scene left_old pieces_old before) (scene left_new pieces_now now) (ending_of end)) is_limit runs

  -- the reader failed
  pub fault_ends : (fault : LineFault) → Hands left_now left_new r r' read (Err fault) → now ≡ here → end ≡ end_of_lines fault → AtEnd
  fault_ends fault h same is_end =
      let over = is_over r.ahead in
      let all = lines_then left_old left_now left_new r r' taken read done reads over (λ o. (nothing_got left_now left_new r r' read (Err fault) h o, o)) in
      at_end over (Err fault) h same (still_over left_old left_now left_new r r' taken read done reads (Err fault) h) all
      (subst (λ e. Whole e r.max_input (length (taken ++ read)) over (Answered over) (RestsAt over now)) (sym is_end)
      (whole_fault fault r.max_input (length (taken ++ read)) over (r.held ++ got r read) r' (Answered over) (RestsAt over now) h.given h.after
      (counted left_old left_now left_new r r' taken read done reads (Err fault) h)
      (subst (λ t. t ≤ r.max_input + 1) (counted left_old left_now left_new r r' taken read done reads (Err fault) h) h.within)
      (settled fault h)
      (λ none. answers.whole ∙ ap (transcript m 1 s) (sym (all_done done _ _ all none)))))
    where
      settled : (f : LineFault) → Hands left_now left_new r r' read (Err f) → is_over r.ahead ≡ true → r'.ahead ≡ Failed line_faults.Memory
      settled f g o =
          let was = over_is r.ahead o in
          let failed = failed_ahead f _ _ g.given in
          ⊎_elim (λ stays. cc) (λ e. cc) (g.settled (λ e. cc)).1

  -- the input is at its end
  pub done_ends : Hands left_now left_new r r' read (Ok End) → now ≡ here → end ≡ Done → AtEnd
  done_ends h same is_end =
      let all = lines_then left_old left_now left_new r r' taken read done reads true (λ o. (nothing_got left_now left_new r r' read (Ok End) h o, refl)) in
      let is_done = all_done done _ _ all h.given.2 in
      let count = counted left_old left_now left_new r r' taken read done reads (Ok End) h in
      let within : r'.taken ≤ r.max_input = subst (λ a. IsAfter a r.max_input r'.taken) h.given.0 h.after in
      at_end true (Ok End) h same (λ _. ended_at h) all
      (subst (λ e. Whole e r.max_input (length (taken ++ read)) true (Answered true) (RestsAt true now)) (sym is_end) (
        subst (λ k. k ≤ r.max_input) count within,
        refl,
        answers.whole ∙ ap (transcript m 1 s) (sym is_done),
        subst (λ (d : DiskAt). Rests d.told (m.stands (state_after m s (all_lines true)))) (sym same) (subst (λ w. Rests here.told (m.stands w)) (answers.state ∙ ap (state_after m s) (sym is_done)) answers.rests),
      ))
    where
      ended_at : Hands left_now left_new r r' read (Ok End) → IfSome left_new (λ rest. rest ≡ [])
      ended_at g = elim (r.ahead) as (λ x. r.ahead ≡ x → IfSome left_new (λ rest. rest ≡ [])) [
        | Open ↦ λ is. g.ended is g.given.0
        | Over ↦ λ is. still_over left_old left_now left_new r r' taken read done reads (Ok End) g (ap is_over is)
        | Failed fault ↦ λ is. absurd (⊎_elim (λ stays. let e = sym is ∙ sym stays ∙ g.given.0 in cc) (λ e. cc) (g.settled (λ e. let x = sym is ∙ e in cc)).1)
      ] refl

  -- a line failed
  pub one_ends : {D : Type 0} (pieces_new : Option (List Piece)) (handed : Line) (line : List ℕ) (fault : ServeFault D) (there : DiskAt) (qs : List Piece) → Hands left_now left_new r r' read (Ok handed)
      → IsHanded handed line (r.held ++ got r read) r' → Adds pieces_now pieces_new qs
      → Ran m here there n u (line ∷ []) qs → now ≡ there → end ≡ end_of_one fault
      → Runs m s max_input (scene left_old pieces_old before) (scene left_new pieces_new now) (ending_of end)
  one_ends pieces_new handed line fault there qs h is adds ran same is_end =
      let reads' = reads_more left_old left_now left_new r r' taken read done handed line reads h is in
      let all = lines_now left_old left_new r' (taken ++ read) (done ++ line ∷ []) reads' in
      let joined = ran_more m before here there 1 n s u done (line ∷ []) ps qs answers.still answers.ran answers.whole answers.number answers.state ran in
      let ran_now : Ran m before now 1 s (done ++ line ∷ []) (ps ++ qs) = subst (λ d. Ran m before d 1 s (done ++ line ∷ []) (ps ++ qs)) (sym same) joined in
      let over = is_over r'.ahead in
      let ls = lines (take r'.max_input (taken ++ read)) over in
      let runs = runs_by m s r'.max_input (scene left_old pieces_old before) (scene left_new pieces_new now) end (taken ++ read) over (ps ++ qs)
      reads'.takes (λ o. reads'.over (over_is r'.ahead o)) (adds_more _ _ _ ps qs answers.adds adds)
      (ran_over m before now s (done ++ line ∷ []) _ _ (ps ++ qs) ran_now all)
      (subst (λ e. Whole e r'.max_input (length (taken ++ read)) over (bytes_of (ps ++ qs) ≡ transcript m 1 s ls) (Rests now.told (m.stands (state_after m s ls)))) (sym is_end)
      (whole_one fault r'.max_input _ _ _ _ (let w = h.within in let k = counted left_old left_now left_new r r' taken read done reads (Ok handed) h in omega (arith, h.limit)))) in
      subst (λ l. Runs m s l (scene left_old pieces_old before) (scene left_new pieces_new now) (ending_of end)) (h.limit ∙ is_limit) runs
