use Rattle.std.proofs.Common.{◌∷◌, ◌++◌, [], Err, refl, sym, ap, subst, ◌∙◌, arith}
use Rattle.wse_io.specs.Reader.{IsFit}
use Rattle.wse_io.specs.declared.lines.Ahead.TheVariants.{Failed}
use Rattle.wse_stream.specs.Machine.{transcript}
use Rattle.wse_stream.specs.Causes.{CountsFault}
use Rattle.wse_stream.specs.Scene.{disk_at, faults}
use Rattle.wse_stream.specs.Run.{Ran}
use Rattle.wse_stream.specs.Rests.{Rests}
use Rattle.wse_stream.specs.Runs.{HasCauses}
use Rattle.wse_stream.proofs.CauseLemmas.{rose_either}
use Rattle.wse_stream.proofs.Reading.{handed_line, reads_none, reads_more, reads_less}
use Rattle.wse_stream.proofs.Answering.{answers_none, answers_more}
use Rattle.wse_server.specs.Serving.{ending_of, is_disk_fault, is_write_fault, end_of_one, fault_disk}
use Rattle.wse_server.proofs.EndLemmas.{fault_ends, done_ends, one_ends, source_cause, lines_cause, one_cause, failed_ahead}
use Rattle.wse_server.proofs.serving.serve.Goals as goal

pub loop-line-init : goal.loop-line-init
loop-line-init g c =
    let made = c.new-lines.ensures in
    record {
      max_line = made.line;
      max_input = made.limit;
      within = omega (arith, made.taken);
      source = refl;
      fault = λ e. let open_yet = made.open in cc;
      sink = refl;
      disk = refl;
      same = refl;
      so_far = (
        [],
        [],
        [],
        reads_none _ c.new-lines.result made.taken made.held made.open,
        answers_none (g.R.Server.machine (g.R.Server.setting_of c.args.server)) _ (disk_at g.D.Disk.moment_of g.D.Disk.told (g.R.Server.disk_of c.args.server)) (g.R.Server.state_of c.args.server)
            (g.met.D.Disk.counts_moments (g.R.Server.disk_of c.args.server)) c.disk.ensures.rests,
      );
    }

-- the reader failed
pub returns-in-Err-clause-run : goal.returns-in-Err-clause-run
returns-in-Err-clause-run g c =
    let inv = c.loop-line.invariant in
    let so = inv.so_far in
    let h = c.in-Err.ensures.hands in
    let at = disk_at g.D.Disk.moment_of g.D.Disk.told in
    fault_ends (g.R.Server.machine (g.R.Server.setting_of c.args.server)) _ _ _ _ _ (at (g.R.Server.disk_of c.args.server)) (at (g.R.Server.disk_of c.loop-line.server)) (at c.into_disk.result) c.end_of.result
    (g.R.Server.state_of c.args.server) (g.R.Server.state_of c.loop-line.server) c.loop-line.n c.args.max_input c.loop-line.lines c.next.new.self so.0 h.0 so.1 so.2 so.3 so.4 inv.max_input
    c.in-Err.fault h.1 (ap at c.into_disk.ensures) c.end_of.ensures

pub returns-in-Err-clause-causes : goal.returns-in-Err-clause-causes
returns-in-Err-clause-causes g c =
    let inv = c.loop-line.invariant in
    let h = c.in-Err.ensures.hands in
    let disk = ap g.D.Disk.faults c.into_disk.ensures ∙ inv.disk in
    subst (λ e. HasCauses (ending_of e) (faults (g.S.Source.faults c.args.source.now) (g.K.Sink.faults c.args.out.now) (g.D.Disk.faults (g.R.Server.disk_of c.args.server))) (faults (g.S.Source.faults c.next.new.source) (g.K.Sink.faults c.loop-line.out) (g.D.Disk.faults c.into_disk.result))) (sym c.end_of.ensures)
    (lines_cause c.in-Err.fault _ _
    (source_cause c.in-Err.fault _ _ _ inv.source c.in-Err.ensures.later (λ other. c.in-Err.ensures.kept (λ e. other (cc)))
    (λ e. rose_either _ _ _ _ (omega (arith, inv.source)) c.in-Err.ensures.later inv.fault (c.in-Err.ensures.cause (failed_ahead c.in-Err.fault _ _ h.1.given ∙ ap Failed e))))
    inv.sink disk)

-- the input is at its end
pub returns-in-End-clause-run : goal.returns-in-End-clause-run
returns-in-End-clause-run g c =
    let inv = c.loop-line.invariant in
    let so = inv.so_far in
    let h = rw c.in-End.is at c.in-Ok.ensures.hands in
    let at = disk_at g.D.Disk.moment_of g.D.Disk.told in
    done_ends (g.R.Server.machine (g.R.Server.setting_of c.args.server)) _ _ _ _ _ (at (g.R.Server.disk_of c.args.server)) (at (g.R.Server.disk_of c.loop-line.server)) (at c.into_disk-in-End.result) _
    (g.R.Server.state_of c.args.server) (g.R.Server.state_of c.loop-line.server) c.loop-line.n c.args.max_input c.loop-line.lines c.next.new.self so.0 h.0 so.1 so.2 so.3 so.4 inv.max_input
    h.1 (ap at c.into_disk-in-End.ensures) refl

-- a line failed
pub returns-in-Err-serve_one-clause-run : goal.returns-in-Err-serve_one-clause-run
returns-in-Err-serve_one-clause-run g c =
    let inv = c.loop-line.invariant in
    let so = inv.so_far in
    let m = g.R.Server.machine (g.R.Server.setting_of c.args.server) in
    let hands = c.in-Ok.ensures.hands in
    let h = hands.1 in
    let given = handed_line c.in-Ok.line _ _ c.in_default.not-End h.given in
    let x = given.0 in
    let one = c.in-Err-serve_one.ensures.run x given.1.tells in
    let at = disk_at g.D.Disk.moment_of g.D.Disk.told in
    let u = g.R.Server.state_of c.loop-line.server in
    let here = at (g.R.Server.disk_of c.loop-line.server) in
    let there = at (fault_disk c.in-Err-serve_one.fault) in
    let ran : Ran m here there c.loop-line.n u (x ∷ []) one.0 = subst (λ k. Ran (g.R.Server.machine k) here there c.loop-line.n u (x ∷ []) one.0) inv.same one.2 in
    one_ends m _ _ _ _ _ (at (g.R.Server.disk_of c.args.server)) here (at c.into_served.result.disk) c.into_served.result.end
    (g.R.Server.state_of c.args.server) u c.loop-line.n c.args.max_input c.loop-line.lines c.next.new.self so.0 hands.0 so.1 so.2 so.3 so.4 inv.max_input
    _ c.in-Ok.line x c.in-Err-serve_one.fault there one.0 h given.1 one.1 ran (ap at c.into_served.ensures.disk) c.into_served.ensures.end

pub returns-in-Err-serve_one-clause-causes : goal.returns-in-Err-serve_one-clause-causes
returns-in-Err-serve_one-clause-causes g c =
    let inv = c.loop-line.invariant in
    let cause = c.in-Err-serve_one.ensures.cause in
    let fault = c.in-Err-serve_one.fault in
    let before = faults (g.S.Source.faults c.args.source.now) (g.K.Sink.faults c.args.out.now) (g.D.Disk.faults (g.R.Server.disk_of c.args.server)) in
    let now = λ (disk : g.row.D.Denot). faults (g.S.Source.faults c.next.new.source) (g.K.Sink.faults c.serve_one.new.out) (g.D.Disk.faults disk) in
    subst (λ e. HasCauses (ending_of e) before (now c.into_served.result.disk)) (sym c.into_served.ensures.end)
    (subst (λ d. HasCauses (ending_of (end_of_one fault)) before (now d)) (sym c.into_served.ensures.disk)
    (one_cause (g.row.R.Denot) fault before (now (fault_disk fault)) (c.in-Ok.ensures.kept (λ e. cc) ∙ inv.source)
    (subst (λ n. CountsFault (is_write_fault {D = g.row.D.Denot} {R = g.row.R.Denot} (Err fault)) n (g.K.Sink.faults c.serve_one.new.out)) inv.sink cause.sink)
    (subst (λ n. CountsFault (is_disk_fault {D = g.row.D.Denot} {R = g.row.R.Denot} (Err fault)) n (g.D.Disk.faults (fault_disk fault))) inv.disk cause.disk)))

pub loop-line-preserved : goal.loop-line-preserved
loop-line-preserved g c =
    let inv = c.loop-line.invariant in
    let so = inv.so_far in
    let m = g.R.Server.machine (g.R.Server.setting_of c.args.server) in
    let hands = c.in-Ok.ensures.hands in
    let h = hands.1 in
    let given = handed_line c.in-Ok.line _ _ c.in_default.not-End h.given in
    let x = given.0 in
    let one = c.in-Ok-serve_one.ensures.run x given.1.tells in
    let at = disk_at g.D.Disk.moment_of g.D.Disk.told in
    let n = c.loop-line.n in
    let u = g.R.Server.state_of c.loop-line.server in
    let v = g.R.Server.state_of c.in-Ok-serve_one.server in
    let here = at (g.R.Server.disk_of c.loop-line.server) in
    let there = at (g.R.Server.disk_of c.in-Ok-serve_one.server) in
    let same = c.in-Ok-serve_one.ensures.same ∙ inv.same in
    record {
      max_line = hands.1.line ∙ inv.max_line;
      max_input = hands.1.limit ∙ inv.max_input;
      within = omega (arith, h.within, inv.max_input);
      source = c.in-Ok.ensures.kept (λ e. cc) ∙ inv.source;
      fault = λ e. rose_either _ _ _ _ (omega (arith, inv.source)) c.in-Ok.ensures.later inv.fault (c.in-Ok.ensures.cause e);
      sink = c.in-Ok-serve_one.ensures.cause.sink ∙ inv.sink;
      disk = c.in-Ok-serve_one.ensures.cause.disk ∙ inv.disk;
      same = same;
      so_far = (
        so.0 ++ hands.0,
        so.1 ++ x ∷ [],
        so.2 ++ one.0,
        reads_more _ _ _ c.loop-line.lines c.next.new.self so.0 hands.0 so.1 c.in-Ok.line x so.3 h given.1,
        answers_more m _ _ _ (at (g.R.Server.disk_of c.args.server)) here there
            (g.R.Server.state_of c.args.server) u v n so.1 x so.2 one.0 so.4 one.1
            (subst (λ k. Ran (g.R.Server.machine k) here there n u (x ∷ []) one.0) inv.same one.2)
            (one.3 ∙ ap (λ k. transcript (g.R.Server.machine k) n u (x ∷ [])) inv.same)
            (c.in-Ok-serve_one.ensures.next x given.1.tells ∙ ap (λ k. (g.R.Server.machine k).after u x) inv.same)
            (subst (λ k. Rests there.told ((g.R.Server.machine k).stands v)) same c.in-Ok-serve_one.ensures.rests)
            c.in-Ok-serve_one.ensures.told,
      );
    }

pub loop-line-smaller : goal.loop-line-smaller
loop-line-smaller g c =
    let hands = c.in-Ok.ensures.hands in
    let given = handed_line c.in-Ok.line _ _ c.in_default.not-End hands.1.given in
    reads_less _ _ c.loop-line.lines c.next.new.self c.args.max_input hands.0 given.0 c.in-Ok.line c.loop-line.invariant.max_input hands.1 given.1

pub serve_one-requires : goal.serve_one-requires
serve_one-requires g c =
    let h = c.in-Ok.ensures.hands.1 in
    let given = handed_line c.in-Ok.line _ _ c.in_default.not-End h.given in
    subst (λ most. IsFit most c.in-Ok.line) (h.line ∙ c.loop-line.invariant.max_line) given.1.fit
