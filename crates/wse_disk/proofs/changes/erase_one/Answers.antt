use Rattle.wse_disk.specs.Reading.Write.{Erases}
use Rattle.wse_disk.proofs.WritingLemmas.{one_more, erase_read, erase_none}
use Rattle.wse_disk.proofs.KeptLemmas.{one_kept}
use Rattle.wse_disk.proofs.changes.erase_one.Goals as goal

pub returns-in-Some-clause-erased : goal.returns-in-Some-clause-erased
returns-in-Some-clause-erased g c = erase_none c.args.change.now.path c.in-Some.field-0 c.args.change.now.after (g.D.Disk.told c.args.disk.now) c.in-Some.is

pub returns-in-None-clause-erased : goal.returns-in-None-clause-erased
returns-in-None-clause-erased g c = erase_read c.args.change.now.path c.args.change.now.after (g.D.Disk.told c.args.disk.now) (g.D.Disk.told c.erase.new.self) c.erase.result c.in-None.is c.erase.ensures.writes

pub returns-in-None-clause-writing : goal.returns-in-None-clause-writing
returns-in-None-clause-writing g c = λ changes start is writing. one_more changes (Erases c.args.change.now.path) start (g.D.Disk.told c.args.disk.now) (g.D.Disk.told c.erase.new.self) c.erase.result (is c.in-None.is, tt) c.erase.ensures.writes writing

pub returns-in-None-clause-kept : goal.returns-in-None-clause-kept
returns-in-None-clause-kept g c = λ changes start is kept. one_kept changes (Erases c.args.change.now.path) start (g.D.Disk.told c.args.disk.now) (g.D.Disk.told c.erase.new.self) c.erase.result (is, tt) (g.met.D.Disk.reads_an_image c.erase.new.self) c.erase.ensures.writes kept
