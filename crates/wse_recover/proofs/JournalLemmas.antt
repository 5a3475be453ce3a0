-- The chosen journal, from its first record and the rest.
use Rattle.std.proofs.Common.{◌≡◌, Option, Some, None, Ok, Err, sym, ap, subst, ◌∙◌}
use Rattle.wse_disk.specs.declared.area.Area.{Area}
use Rattle.wse_disk.specs.Reading.{area_of}
use Rattle.wse_disk.specs.Standing.{Standing}
use Rattle.wse_element.specs.State.{Kept}
use Rattle.wse_log.specs.Grammar.{ClosedAt, Reads}
use Rattle.wse_recover.specs.declared.fault.ReplayFault.{ReplayFault}
use Rattle.wse_recover.specs.declared.fault.ReplayFault.TheVariants as faults
use Rattle.wse_recover.specs.declared.first_record.Begun.{Begun}
use Rattle.wse_recover.specs.declared.read.Journal.{Journal}
use Rattle.wse_recover.specs.declared.replay.Replay.{Replay}
use Rattle.wse_recover.specs.Held.{held}
use Rattle.wse_recover.specs.declared.unsettled.Unsettled.{Unsettled}
use Rattle.wse_recover.specs.Unsettled.{IsLast}
use Rattle.wse_recover.specs.Choose.{ReadsChosen}
use Rattle.wse_recover.specs.FirstRecord.{GivesFirstRead}
use Rattle.wse_recover.specs.Loop.{GivesEnd}
use Rattle.wse_recover.specs.Journal.{GivesJournal}

pub journal_read : (told : Option Standing) (area : Area) (begun : Begun) (end : Replay) (journal : Journal) → ReadsChosen told area → GivesFirstRead told area (Ok begun)
    → GivesEnd told area begun.next (held begun.stacks begun.versions) (held journal.stacks journal.versions) (Ok end) → end.gate ≡ journal.gate → end.last ≡ journal.last → GivesJournal told (Ok journal)
journal_read None area begun end journal chosen first rest gate last = tt
journal_read (Some s) area begun end journal chosen first rest gate last = λ records ending reads.
    let done = rest (λ rs en rd. first rs en rd) records ending (subst (λ (a : Area). Reads (area_of a s.reading) records ending) (sym chosen) reads) in
    (done.0 ∙ ap ClosedAt gate, (done.1.0, done.1.1, done.1.2, subst (λ (o : Option Unsettled). IsLast records done.1.0 o) last done.1.3))

pub first_fails : (told : Option Standing) (area : Area) (fault : ReplayFault) → ReadsChosen told area → GivesFirstRead told area (Err fault) → GivesJournal told (Err fault)
first_fails None area fault chosen first = tt
first_fails (Some s) area (faults.NotAStore at) chosen first = λ records ending reads. first records ending (subst (λ (a : Area). Reads (area_of a s.reading) records ending) (sym chosen) reads)
first_fails (Some s) area faults.Disk chosen first = λ records ending reads. tt
first_fails (Some s) area faults.Memory chosen first = λ records ending reads. tt

pub rest_fails : (told : Option Standing) (area : Area) (begun : Begun) (new : Kept) (fault : ReplayFault) → ReadsChosen told area → GivesFirstRead told area (Ok begun)
    → GivesEnd told area begun.next (held begun.stacks begun.versions) new (Err fault) → GivesJournal told (Err fault)
rest_fails None area begun new fault chosen first rest = tt
rest_fails (Some s) area begun new (faults.NotAStore at) chosen first rest = λ records ending reads.
    rest (λ rs en rd. first rs en rd) records ending (subst (λ (a : Area). Reads (area_of a s.reading) records ending) (sym chosen) reads)
rest_fails (Some s) area begun new faults.Disk chosen first rest = λ records ending reads. tt
rest_fails (Some s) area begun new faults.Memory chosen first rest = λ records ending reads. tt

pub disk_fails : (told : Option Standing) → GivesJournal told (Err faults.Disk)
disk_fails None = tt
disk_fails (Some s) = λ records ending reads. tt
