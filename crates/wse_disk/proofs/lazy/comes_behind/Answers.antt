use Rattle.std.proofs.Common.{sym, ap, ◌∙◌}
use Rattle.std.specs.Ordering.{is_lt}
use Rattle.wse_disk.proofs.LazyLemmas.{before_last}
use Rattle.wse_disk.proofs.lazy.comes_behind.Goals as goal

pub returns-in-Some : goal.returns-in-Some
returns-in-Some c = λ behind.
    before_last c.args.changes.now c.args.path.now c.in-Some.last.now c.requires (sym c.in-Some.ensures.value) (ap is_lt (sym c.cmp.ensures) ∙ sym c.is_lt.ensures ∙ behind)
