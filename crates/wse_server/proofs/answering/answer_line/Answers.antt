use Rattle.std.proofs.Common.{◌⊎◌, inl, refl, sym, subst}
use Rattle.wse_disk.specs.Reading.{Reading}
use Rattle.wse_disk.proofs.Moments.{no_call}
use Rattle.wse_stream.specs.Rests.{Stretches}
use Rattle.wse_stream.proofs.MomentLemmas.{rests_leave}
use Rattle.wse_server.proofs.answering.answer_line.Goals as goal

-- the disk isn't called
pub returns-in-TooLong-clause-images : goal.returns-in-TooLong-clause-images
returns-in-TooLong-clause-images g c = λ bytes told.
    let m = g.R.Server.machine (g.R.Server.setting_of c.args.server) in
    let s = g.R.Server.state_of c.args.server in
    let at = g.D.Disk.told (g.R.Server.disk_of c.args.server) in
    let P : Reading → Type 0 = λ i. m.stands s i ⊎ m.stands (m.after s bytes) i in
    let images : Stretches at at P = λ tells. no_call at at P refl (λ i may. inl (rests_leave at (m.stands s) c.answer_too_long.ensures.rests i may)) in
    subst (λ d. Stretches at (g.D.Disk.told d) P) (sym c.answer_too_long.ensures.disk) images
