use Rattle.std.proofs.Common.{◌≡◌, ◌⊎◌, inl, inr, ◌<◌, ◌≤◌, arith}
use Rattle.std.proofs.lemmas.List.{length-take-le}
use Rattle.wse_log.proofs.Finds.{finds_header}
use Rattle.wse_log.proofs.header.header_fault.Goals as goal
use Rattle.wse_log.proofs.header.header_fault.Goals.{then-len-lt8, else-len-lt8}

pub returns-clause-reads : goal.returns-clause-reads
returns-clause-reads g c =
    let sizes : ((c.args.len < 8) × (c.if-len-lt8.count ≡ c.args.len)) ⊎ ((8 ≤ c.args.len) × (c.if-len-lt8.count ≡ 8)) =
    elim c.if-len-lt8.branch [ then-len-lt8 w ↦ inl (w.if-len-lt8.true, w.count-is) | else-len-lt8 w ↦ inr (w.if-len-lt8.false, w.count-is) ] in
    let reads = c.in_ok-area_read.ensures.reads in
    finds_header (g.D.Disk.told c.args.disk.now) c.args.area c.args.len c.if-len-lt8.count _ c.area_read.new.into c.fault_in.result c.requires sizes (length-take-le c.if-len-lt8.count _ (omega arith)) reads c.fault_in.ensures.none c.fault_in.ensures.some
