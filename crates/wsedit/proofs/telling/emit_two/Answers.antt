use Rattle.std.proofs.Common.{◌++◌, subst, ◌∙◌}
use Rattle.std.proofs.lemmas.Result.{on_ok_weaker}
use Rattle.wse_io.specs.Stream.{IsPrefix, bytes_of}
use Rattle.wse_io.proofs.StreamLemmas.{prefix_of}
use Rattle.wsedit.proofs.StatusLemmas.{told_behind, told_whole}
use Rattle.wsedit.proofs.telling.emit_two.Goals as goal

pub returns-in_default-clause-told : goal.returns-in_default-clause-told
returns-in_default-clause-told g c =
    let a = c.in_default.ensures.added in
    (a.0, a.1, prefix_of (bytes_of a.0) c.args.first.now c.args.second.now (subst (λ t. IsPrefix (bytes_of a.0) t) c.as_bytes.ensures.value a.3), tt)

pub returns-clause-told : goal.returns-clause-told
returns-clause-told g c =
    let a = c.in-Ok.ensures.added in
    let b = c.emit_all-2.ensures.added in
    let last = c.as_bytes-2.ensures.value in
    let told = told_behind _ _ _ a.0 b.0 c.args.first.now c.args.second.now a.1 (a.4 ∙ c.as_bytes.ensures.value) b.1 (subst (λ t. IsPrefix (bytes_of b.0) t) last b.3) in
    (a.0 ++ b.0, told.0, told.1, on_ok_weaker c.emit_all-2.result (λ whole. told_whole a.0 b.0 c.args.first.now c.args.second.now (a.4 ∙ c.as_bytes.ensures.value) (whole ∙ last)) b.4)
