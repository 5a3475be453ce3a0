use Rattle.std.proofs.Common.{◌∙◌}
use Rattle.wse_path.proofs.PutLemmas.{insert_is_put}
use Rattle.wse_overlay.proofs.difference.set.Goals as goal

pub returns : goal.returns
returns c = c.in_ok-insert.ensures.entries ∙ insert_is_put c.args.all.now.entries c.args.path c.args.content
