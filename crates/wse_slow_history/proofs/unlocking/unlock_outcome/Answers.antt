use Rattle.std.proofs.Common.{◌≡◌, Bool, List, Some, length, get_or, not, refl, sym, ap, ◌∙◌}
use Rattle.std.specs.Prelude.{position}
use Rattle.std.proofs.lemmas.Option.{slice_get_read}
use Rattle.wse_path.specs.Path.{Path}
use Rattle.wse_locks.specs.Locks.{holds}
use Rattle.wse_history.specs.Unlocking.{unlock_outcome}
use Rattle.wse_history.proofs.ShareLemmas.{found_some, unlock_freed, unlock_refused}
use Rattle.wse_slow_history.specs.Slow.{state_of}
use Rattle.wse_slow_history.proofs.unlocking.unlock_outcome.Goals as goal

pub returns-in-Ok : goal.returns-in-Ok
returns-in-Ok c =
    let s = state_of c.args.state.now in
    c.locks_as.ensures
    ∙ unlock_freed s c.args.by c.as_slice.result.now c.in_ok-locks.locks c.free.new.self c.in_ok-locks.ensures c.in-Ok.ensures.own c.in-Ok.ensures.freed
    ∙ ap (unlock_outcome s c.args.by) c.as_slice.ensures

pub returns-in_ok-file-in-Err : goal.returns-in_ok-file-in-Err
returns-in_ok-file-in-Err c =
    let s = state_of c.args.state.now in
    let files = c.args.files.now in
    let i = c.in-Err.why.index in
    let file = c.index-as_slice-why.result in
    let test : Path → Bool = λ p. not (holds c.in_ok-locks.locks.entries c.args.by p) in
    let at : position test files ≡ Some i = ap (λ (fs : List Path). position test fs) (sym c.as_slice.ensures) ∙ c.in-Err.ensures.not_held in
    let here = slice_get_read files (length files) i file refl (found_some test files i at).within (c.index-as_slice-why.is ∙ ap (λ (fs : List Path). get_or fs i file) c.as_slice-in-Err.ensures) in
    c.stays.ensures
    ∙ unlock_refused s c.args.by files c.in_ok-locks.locks i c.in_ok-file-in-Err.file c.in_ok-locks.ensures at (here ∙ ap Some (sym c.in_ok-file-in-Err.ensures))
