use Rattle.std.proofs.Common.{◌≡◌, rules}
use Rattle.wse_path.specs.Versions.{same_entries}
use Rattle.wse_path.proofs.EqLemmas.{same_entries-Decides}
use Rattle.wse_path.proofs.versions.VersionsPartialEq.eq.Goals as goal

pub returns-clause-same : goal.returns-clause-same
returns-clause-same c =
    let is : c.eq.result ≡ same_entries c.args.self.now.entries c.args.other.now.entries = search rules in
    same_entries-Decides _ _ _ is
