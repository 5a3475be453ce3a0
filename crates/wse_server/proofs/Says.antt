-- What an end says of the bytes that were taken.
use Rattle.std.proofs.Common.{◌≡◌, ◌⊎◌, inl, inr, ℕ, ◌+◌, ◌≤◌, Bool, true, false, List, [], length, Err, refl, sym, subst, ◌∙◌, arith}
use Rattle.wse_io.specs.Stream.{Piece, Adds, Takes, bytes_of}
use Rattle.std.specs.Prelude.{IfSome}
use Rattle.wse_io.specs.Lines.{lines}
use Rattle.wse_io.specs.Reader.{Reader, Given, IsAfter}
use Rattle.wse_io.specs.declared.lines.Ahead.TheVariants.{Failed}
use Rattle.wse_io.specs.declared.lines.LineFault.{LineFault}
use Rattle.wse_io.specs.declared.lines.LineFault.TheVariants as line_faults
use Rattle.wse_stream.specs.Machine.{Machine, transcript, state_after}
use Rattle.wse_stream.specs.Scene.{Scene}
use Rattle.wse_stream.specs.Rests.{Rests}
use Rattle.wse_stream.specs.Run.{Ran}
use Rattle.wse_stream.specs.Runs.{Ending, Runs, lines_of}
use Rattle.wse_server.specs.Serving.{ending_of, end_of_lines, end_of_one}
use Rattle.wse_server.specs.declared.serving.ServeFault.{ServeFault}
use Rattle.wse_server.specs.declared.serving.ServeFault.TheVariants as faults
use Rattle.wse_server.specs.declared.serving.ServeEnd.{ServeEnd}
use Rattle.wse_server.specs.declared.serving.ServeEnd.TheVariants.{Done, Read, Write, Disk, Memory, InputLimit}

-- how many bytes were taken at an end, and whether the input was over; at three of the ends all that was taken is answered
abbrev pub Whole : ServeEnd → ℕ → ℕ → Bool → Type 0 → Type 0 → Type 0
Whole Done max_input taken over answered rests = (taken ≤ max_input) × (over ≡ true) × answered × rests
Whole Read max_input taken over answered rests = (taken ≤ max_input) × (over ≡ false) × answered
Whole (InputLimit n) max_input taken over answered rests = (taken ≡ max_input + 1) × (over ≡ false) × answered
Whole Write max_input taken over answered rests = taken ≤ max_input + 1
Whole Disk max_input taken over answered rests = taken ≤ max_input + 1
Whole Memory max_input taken over answered rests = taken ≤ max_input + 1

-- the same by the ending
pub record Says (ending : Ending) (max_input taken : ℕ) (over : Bool) (answered rests : Type 0) : Type 0 where
  pub done : ending.done ≡ true → (taken ≤ max_input) × (over ≡ true) × answered × rests
  pub read : ending.read ≡ true → (taken ≤ max_input) × (over ≡ false) × answered
  pub passed : ending.passed ≡ true → (taken ≡ max_input + 1) × (over ≡ false) × answered
  pub only_passed : taken ≡ max_input + 1 → (ending.passed ≡ true) ⊎ (ending.write ≡ true) ⊎ (ending.disk ≡ true) ⊎ (ending.memory ≡ true)
  pub never_more : taken ≤ max_input + 1

pub says : (end : ServeEnd) (max_input taken : ℕ) (over : Bool) (answered rests : Type 0) → Whole end max_input taken over answered rests → Says (ending_of end) max_input taken over answered rests
says Done max_input taken over answered rests h = record { done = λ s. h; read = λ s. cc; passed = λ s. cc; only_passed = λ t. absurd (let le = h.0 in omega arith); never_more = let le = h.0 in omega arith }
says Read max_input taken over answered rests h = record { done = λ s. cc; read = λ s. h; passed = λ s. cc; only_passed = λ t. absurd (let le = h.0 in omega arith); never_more = let le = h.0 in omega arith }
says (InputLimit n) max_input taken over answered rests h = record { done = λ s. cc; read = λ s. cc; passed = λ s. h; only_passed = λ t. inl refl; never_more = let le = h.0 in omega arith }
says Write max_input taken over answered rests h = record { done = λ s. cc; read = λ s. cc; passed = λ s. cc; only_passed = λ t. inr (inl refl); never_more = h }
says Disk max_input taken over answered rests h = record { done = λ s. cc; read = λ s. cc; passed = λ s. cc; only_passed = λ t. inr (inr (inl refl)); never_more = h }
says Memory max_input taken over answered rests h = record { done = λ s. cc; read = λ s. cc; passed = λ s. cc; only_passed = λ t. inr (inr (inr refl)); never_more = h }

-- what a fault of the reader says of the bytes
pub whole_fault : (fault : LineFault) (max_input taken : ℕ) (over : Bool) (bytes : List ℕ) (new : Reader) (answered rests : Type 0) → Given (Err fault) bytes new → IsAfter new.ahead max_input new.taken → new.taken ≡ taken → taken ≤ max_input + 1
    → (over ≡ true → new.ahead ≡ Failed line_faults.Memory) → (lines bytes over ≡ [] → answered) → Whole (end_of_lines fault) max_input taken over answered rests
whole_fault line_faults.Memory max_input taken over bytes new answered rests g after is within settled f = within
whole_fault line_faults.Read max_input taken true bytes new answered rests g after is within settled f = let e = settled refl in let x = g.0 in cc
whole_fault line_faults.Read max_input taken false bytes new answered rests g after is within settled f =
    let le : new.taken ≤ max_input = subst (λ a. IsAfter a max_input new.taken) g.0 after in
    (subst (λ t. t ≤ max_input) is le, refl, f g.2)
whole_fault (line_faults.InputLimit n) max_input taken true bytes new answered rests g after is within settled f = let e = settled refl in let x = g.0 in cc
whole_fault (line_faults.InputLimit n) max_input taken false bytes new answered rests g after is within settled f =
    let past : (new.taken ≡ max_input + 1) × (n ≡ new.taken) = subst (λ a. IsAfter a max_input new.taken) g.0 after in
    (sym is ∙ past.0, refl, f g.2)

pub whole_one : {D : Type 0} (fault : ServeFault D) (max_input taken : ℕ) (over : Bool) (answered rests : Type 0) → taken ≤ max_input + 1 → Whole (end_of_one fault) max_input taken over answered rests
whole_one (faults.Write disk) max_input taken over answered rests h = h
whole_one (faults.Disk disk) max_input taken over answered rests h = h
whole_one (faults.Memory disk) max_input taken over answered rests h = h

-- a run over what was taken
unfoldable pub runs_by : {S : Type 0} (m : Machine S) (s : S) (max_input : ℕ) (before now : Scene) (end : ServeEnd) (taken : List ℕ) (over : Bool) (added : List Piece)
    → Takes before.left now.left taken → (over ≡ true → IfSome now.left (λ rest. rest ≡ [])) → Adds before.pieces now.pieces added
    → Ran m before.disk now.disk 1 s (lines_of max_input taken over) added
    → Whole end max_input (length taken) over (bytes_of added ≡ transcript m 1 s (lines_of max_input taken over)) (Rests now.disk.told (m.stands (state_after m s (lines_of max_input taken over))))
    → Runs m s max_input before now (ending_of end)
runs_by m s max_input before now end taken over added takes is_over adds ran whole =
    let by = says end max_input (length taken) over (bytes_of added ≡ transcript m 1 s (lines_of max_input taken over)) (Rests now.disk.told (m.stands (state_after m s (lines_of max_input taken over)))) whole in
    record {
      taken = taken;
      over = over;
      added = added;
      takes = takes;
      is_over = is_over;
      adds = adds;
      ran = ran;
      done = by.done;
      read = by.read;
      passed = by.passed;
      only_passed = by.only_passed;
      never_more = by.never_more;
    }
