use Rattle.std.proofs.Common.{refl, sym, ap, subst, ◌∙◌, arith}
use Rattle.wse_path.specs.declared.change.Change.{Change}
use Rattle.wse_disk.specs.Calls.{HasRoomFor}
use Rattle.wse_disk.proofs.WritingLemmas.{read_none, store_room, store_more, changed_here}
use Rattle.wse_disk.specs.Changes.{storing}
use Rattle.wse_disk.proofs.OrderLemmas.{stored_here}
use Rattle.wse_disk.proofs.changes.store_all.Goals as goal

pub loop-change-init : goal.loop-change-init
loop-change-init g c = record {
  done = read_none _ (g.D.Disk.told c.args.disk.now) (λ es. refl);
  writing = λ start writing. writing;
  kept = λ start kept. kept;
  later = omega arith;
  faults = refl;
}

pub store_one-requires : goal.store_one-requires
store_one-requires g c = λ bytes put.
    let cs = c.args.changes.now in
    let i = c.loop-change.change-index in
    subst (λ (x : Change). HasRoomFor (g.D.Disk.told c.loop-change.disk) x.path) (sym c.change-item.is)
    (store_room cs i c.change-item.result bytes (g.D.Disk.told c.args.disk.now) (g.D.Disk.told c.loop-change.disk) c.requires c.loop-change-test.true c.loop-change.invariant.done (ap (λ (x : Change). x.after) (sym c.change-item.is) ∙ put))

pub loop-change-preserved : goal.loop-change-preserved
loop-change-preserved g c =
    let inv = c.loop-change.invariant in
    let cs = c.args.changes.now in
    let i = c.loop-change.change-index in
    record {
      done = store_more cs i c.change-item.result (g.D.Disk.told c.args.disk.now) (g.D.Disk.told c.loop-change.disk) (g.D.Disk.told c.store_one.new.disk) c.loop-change-test.true c.change-item.is inv.done c.in_ok-store_one.ensures.stored;
      writing = λ start writing. c.store_one.ensures.writing (storing cs) start (λ bytes put. stored_here cs i c.change-item.result bytes put c.loop-change-test.true c.change-item.is) (inv.writing start writing);
      kept = λ start kept. c.store_one.ensures.kept cs start (changed_here cs i c.change-item.result c.loop-change-test.true c.change-item.is) (inv.kept start kept);
      later = omega (arith, inv.later, c.store_one.ensures.later);
      faults = c.in_ok-store_one.ensures.cause.kept ∙ inv.faults;
    }

pub returns-in_err-store_one-clause-writing : goal.returns-in_err-store_one-clause-writing
returns-in_err-store_one-clause-writing g c = λ start writing.
    c.store_one.ensures.writing (storing c.args.changes.now) start (λ bytes put. stored_here c.args.changes.now c.loop-change.change-index c.change-item.result bytes put c.loop-change-test.true c.change-item.is) (c.loop-change.invariant.writing start writing)

pub returns-in_err-store_one-clause-kept : goal.returns-in_err-store_one-clause-kept
returns-in_err-store_one-clause-kept g c = λ start kept.
    c.store_one.ensures.kept c.args.changes.now start (changed_here c.args.changes.now c.loop-change.change-index c.change-item.result c.loop-change-test.true c.change-item.is) (c.loop-change.invariant.kept start kept)
