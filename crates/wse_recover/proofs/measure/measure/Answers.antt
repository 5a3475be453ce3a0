use Rattle.std.proofs.Common.{◌+◌, ℕ, Option, refl, sym, subst, ◌∙◌, arith}
use Rattle.wse_disk.specs.Standing.{Standing}
use Rattle.wse_recover.specs.Measure.{ReadsBytes}
use Rattle.wse_recover.proofs.MeasureLemmas.{BytesLeft, none_asked, next_asked, file_hit}
use Rattle.wse_recover.proofs.measure.measure.Goals as goal

pub loop-path-init : goal.loop-path-init
loop-path-init g c = record {
  same = refl;
  later = omega arith;
  faults = refl;
  fits = omega arith;
  left = none_asked (g.D.Disk.told c.args.disk.now) c.args.limits.now c.args.paths.now c.requires.names (omega arith) (omega arith);
}

pub returns-then-bytes-limits-clause-hit : goal.returns-then-bytes-limits-clause-hit
returns-then-bytes-limits-clause-hit g c =
    let inv = c.loop-path.invariant in
    let told = g.D.Disk.told c.args.disk.now in
    file_hit told c.args.limits.now c.args.paths.now c.loop-path.total c.loop-path.path-index c.path-item.result c.in_ok-bytes.bytes
    (g.met.D.Disk.reads_an_image c.args.disk.now) c.requires.names c.loop-path-test.true c.path-item.is
    (subst (λ (t : Option Standing). ReadsBytes t c.path-item.result c.in_ok-bytes.bytes) inv.same c.in_ok-bytes.ensures.reads) inv.left c.if-bytes-limits.true

pub loop-path-preserved : goal.loop-path-preserved
loop-path-preserved g c =
    let inv = c.loop-path.invariant in
    let told = g.D.Disk.told c.args.disk.now in
    let i = c.loop-path.path-index in
    record {
      same = c.in_ok-bytes.ensures.same ∙ inv.same;
      later = omega (arith, inv.later, c.in_ok-bytes.ensures.later);
      faults = c.in_ok-bytes.ensures.cause.kept ∙ inv.faults;
      fits = omega (arith, c.saturating_add-total.ensures);
      left = subst (λ (n : ℕ). BytesLeft told c.args.limits.now n (i + 1)) (sym c.saturating_add-total.ensures)
          (next_asked told c.args.limits.now c.args.paths.now c.loop-path.total i c.path-item.result c.in_ok-bytes.bytes
          (g.met.D.Disk.reads_an_image c.args.disk.now) c.requires.names c.loop-path-test.true c.path-item.is
          (subst (λ (t : Option Standing). ReadsBytes t c.path-item.result c.in_ok-bytes.bytes) inv.same c.in_ok-bytes.ensures.reads) inv.left c.if-bytes-limits.false);
    }
