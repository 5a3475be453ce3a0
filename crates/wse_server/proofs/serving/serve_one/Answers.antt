use Rattle.std.proofs.Common.{◌≡◌, ◌⊎◌, ◌≤◌, ◌∷◌, [], refl, sym, subst, ◌∙◌}
use Rattle.wse_io.specs.Stream.{IsPrefix, AllAt, bytes_of}
use Rattle.wse_io.proofs.StreamLemmas.{adds_none}
use Rattle.wse_stream.specs.Machine.{transcript}
use Rattle.wse_stream.specs.Scene.{disk_at}
use Rattle.wse_stream.specs.Rests.{Rests, Stretches}
use Rattle.wse_stream.specs.Run.{Ran}
use Rattle.wse_stream.proofs.Transcript.{transcript-one}
use Rattle.wse_stream.proofs.RunLemmas.{ran_silent, ran_emitted}
use Rattle.wse_server.specs.Serving.{fault_disk}
use Rattle.wse_server.proofs.serving.serve_one.Goals as goal

-- the line stopped
pub returns-in-Err-clause-run : goal.returns-in-Err-clause-run
returns-in-Err-clause-run g c = λ line told.
    let m = g.R.Server.machine (g.R.Server.setting_of c.args.server) in
    let s = g.R.Server.state_of c.args.server in
    let before = g.R.Server.disk_of c.args.server in
    let at = disk_at g.D.Disk.moment_of g.D.Disk.told in
    let same = sym c.into_fault.ensures.disk in
    let later = subst (λ d. g.D.Disk.moment_of before ≤ g.D.Disk.moment_of d) same c.in-Err.ensures.later in
    let images = subst (λ d. Stretches (g.D.Disk.told before) (g.D.Disk.told d) (λ i. m.stands s i ⊎ m.stands (m.after s line) i)) same (c.in-Err.ensures.images line told) in
    ([], adds_none _ _ refl, ran_silent m (at before) (at (fault_disk c.into_fault.result)) c.args.n s line (g.met.D.Disk.counts_moments before) later images, tt)

-- the answer was emitted
pub returns-in-Ok-emit_all-clause-run : goal.returns-in-Ok-emit_all-clause-run
returns-in-Ok-emit_all-clause-run g c = λ line told.
    let m = g.R.Server.machine (g.R.Server.setting_of c.args.server) in
    let s = g.R.Server.state_of c.args.server in
    let before = g.R.Server.disk_of c.args.server in
    let at = disk_at g.D.Disk.moment_of g.D.Disk.told in
    let server = c.in-Ok.done.0 in
    let now = g.R.Server.disk_of server in
    let out = c.in-Ok-emit_all.ensures.added in
    let all : c.as_slice.result.now ≡ transcript m c.args.n s (line ∷ []) = c.as_slice.ensures.value ∙ c.in-Ok.ensures.text line told ∙ sym (transcript-one m c.args.n s line) in
    let front = subst (λ t. IsPrefix (bytes_of out.0) t) all out.3 in
    let moments = subst (λ d. AllAt (g.D.Disk.moment_of d) out.0) c.disk.ensures.disk out.2 in
    let here = subst (λ k. Rests (g.D.Disk.told now) ((g.R.Server.machine k).stands (g.R.Server.state_of server))) c.in-Ok.ensures.same c.disk.ensures.rests in
    let rests = subst (λ u. Rests (g.D.Disk.told now) (m.stands u)) (c.in-Ok.ensures.state line told) here in
    (out.0, out.1, ran_emitted m (at before) (at now) c.args.n s line out.0 (g.met.D.Disk.counts_moments before) (g.met.D.Disk.counts_moments now) c.in-Ok.ensures.later (c.in-Ok.ensures.images line told) rests moments front, out.4 ∙ all)

-- a front of it was
pub returns-clause-run : goal.returns-clause-run
returns-clause-run g c = λ line told.
    let m = g.R.Server.machine (g.R.Server.setting_of c.args.server) in
    let s = g.R.Server.state_of c.args.server in
    let before = g.R.Server.disk_of c.args.server in
    let at = disk_at g.D.Disk.moment_of g.D.Disk.told in
    let server = c.in-Ok.done.0 in
    let now = g.R.Server.disk_of server in
    let out = c.in-Err-emit_all.ensures.added in
    let all : c.as_slice.result.now ≡ transcript m c.args.n s (line ∷ []) = c.as_slice.ensures.value ∙ c.in-Ok.ensures.text line told ∙ sym (transcript-one m c.args.n s line) in
    let front = subst (λ t. IsPrefix (bytes_of out.0) t) all out.3 in
    let moments = subst (λ d. AllAt (g.D.Disk.moment_of d) out.0) c.disk.ensures.disk out.2 in
    let here = subst (λ k. Rests (g.D.Disk.told now) ((g.R.Server.machine k).stands (g.R.Server.state_of server))) c.in-Ok.ensures.same c.disk.ensures.rests in
    let rests = subst (λ u. Rests (g.D.Disk.told now) (m.stands u)) (c.in-Ok.ensures.state line told) here in
    let ran = ran_emitted m (at before) (at now) c.args.n s line out.0 (g.met.D.Disk.counts_moments before) (g.met.D.Disk.counts_moments now) c.in-Ok.ensures.later (c.in-Ok.ensures.images line told) rests moments front in
    (out.0, out.1, subst (λ d. Ran m (at before) (at d) c.args.n s (line ∷ []) out.0) (sym c.into_disk.ensures) ran, tt)
