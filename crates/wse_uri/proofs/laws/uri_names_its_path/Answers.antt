use Rattle.wse_uri.proofs.LawLemmas.{uri_names_its_path}
use Rattle.wse_uri.proofs.laws.uri_names_its_path.Goals as goal

pub returns : goal.returns
returns c = uri_names_its_path
