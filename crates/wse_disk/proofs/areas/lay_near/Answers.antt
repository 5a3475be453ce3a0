use Rattle.std.proofs.Common.{sym, ◌∙◌, ap, length, arith}
use Rattle.wse_disk.specs.Reading.{patched}
use Rattle.wse_disk.proofs.LayLemmas.{laid_near}
use Rattle.wse_disk.proofs.areas.lay_near.Goals as goal

pub returns-clause-ok : goal.returns-clause-ok
returns-clause-ok c =
    let longer = c.extend_from_slice.new.self in
    laid_near c.args.at c.min-over.result longer.len c.args.bytes.now c.args.area.now.items longer.items c.overwrite.new.bytes (omega (arith, c.requires)) (omega (arith, c.min-over.ensures, c.len.ensures)) c.in_ok-extend_from_slice.ensures.items
    (sym c.deref_mut.ensures.len ∙ ap length c.deref_mut.ensures.value)
    (c.overwrite.ensures ∙ ap (patched c.args.at _) c.deref_mut.ensures.value)
