use Rattle.std.proofs.Common.{◌≡◌, rules}
use Rattle.wse_path.specs.Tree.{same_files}
use Rattle.wse_path.proofs.EqLemmas.{same_files-Decides}
use Rattle.wse_path.proofs.tree.TreePartialEq.eq.Goals as goal

pub returns-clause-same : goal.returns-clause-same
returns-clause-same c =
    let is : c.eq.result ≡ same_files c.args.self.now.files c.args.other.now.files = search rules in
    same_files-Decides _ _ _ is
