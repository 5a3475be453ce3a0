use Rattle.std.proofs.Common.{◌∙◌, ap}
use Rattle.wse_path.specs.Tree.{Entries}
use Rattle.wse_disk.specs.Replay.{held}
use Rattle.wse_disk.proofs.draft.Draft.of.Goals as goal

pub returns : goal.returns
returns c = c.in_ok-areas.ensures _ ∙ ap (λ (es : Entries). held es c.args.areas.now) c.in_ok-files.ensures
