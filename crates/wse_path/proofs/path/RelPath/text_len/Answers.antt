use Rattle.wse_path.proofs.PathLemmas.{all_short, path_facts}
use Rattle.wse_path.proofs.path.RelPath.text_len.Goals as goal

pub text_bytes-requires-clause-short : goal.text_bytes-requires-clause-short
text_bytes-requires-clause-short c = rw c.deref.ensures.value (all_short c.self.inside.segments.items (path_facts c.self.inside.segments.items c.self.invariant).good)
