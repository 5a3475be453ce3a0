use Rattle.std.proofs.Common.{Some, sym, ap, ◌∙◌}
use Rattle.wse_disk.specs.Reading.Write.{Stores}
use Rattle.wse_disk.proofs.WritingLemmas.{one_more, store_read, store_none}
use Rattle.wse_disk.proofs.KeptLemmas.{one_kept}
use Rattle.wse_disk.proofs.changes.store_one.Goals as goal

pub returns-in-Some-clause-stored : goal.returns-in-Some-clause-stored
returns-in-Some-clause-stored g c = store_read c.args.change.now.path c.as_slice.result.now c.args.change.now.after (g.D.Disk.told c.args.disk.now) (g.D.Disk.told c.store.new.self) c.store.result (c.in-Some.is ∙ ap Some (sym c.as_slice.ensures)) c.store.ensures.writes

pub returns-in-None-clause-stored : goal.returns-in-None-clause-stored
returns-in-None-clause-stored g c = store_none c.args.change.now.path c.args.change.now.after (g.D.Disk.told c.args.disk.now) c.in-None.is

pub returns-in-Some-clause-writing : goal.returns-in-Some-clause-writing
returns-in-Some-clause-writing g c = λ changes start is writing. one_more changes (Stores c.args.change.now.path c.as_slice.result.now) start (g.D.Disk.told c.args.disk.now) (g.D.Disk.told c.store.new.self) c.store.result (is c.as_slice.result.now (c.in-Some.is ∙ ap Some (sym c.as_slice.ensures)), tt) c.store.ensures.writes writing

pub returns-in-Some-clause-kept : goal.returns-in-Some-clause-kept
returns-in-Some-clause-kept g c = λ changes start is kept. one_kept changes (Stores c.args.change.now.path c.as_slice.result.now) start (g.D.Disk.told c.args.disk.now) (g.D.Disk.told c.store.new.self) c.store.result (is, tt) (g.met.D.Disk.reads_an_image c.store.new.self) c.store.ensures.writes kept
