use Rattle.std.proofs.Common.{◌++◌, ap, subst, ◌∙◌}
use Rattle.std.specs.Prelude.{codes}
use Rattle.std.proofs.lemmas.Result.{on_ok_weaker}
use Rattle.wse_path.specs.Path.{text_of}
use Rattle.wse_io.specs.Stream.{IsPrefix, bytes_of}
use Rattle.wse_io.proofs.StreamLemmas.{prefix_of}
use Rattle.wsedit.proofs.StatusLemmas.{told_behind, told_whole}
use Rattle.wsedit.proofs.telling.emit_path.Goals as goal

pub returns-in_default-clause-told : goal.returns-in_default-clause-told
returns-in_default-clause-told g c =
    let a = c.in_default.ensures.added in
    (a.0, a.1, prefix_of (bytes_of a.0) c.args.before.now (text_of c.args.path.now ++ codes "\n") (subst (λ t. IsPrefix (bytes_of a.0) t) c.as_bytes.ensures.value a.3), tt)

pub returns-in_default-emit_joined-clause-told : goal.returns-in_default-emit_joined-clause-told
returns-in_default-emit_joined-clause-told g c =
    let a = c.in-Ok.ensures.added in
    let b = c.in_default-emit_joined.ensures.told in
    let text = ap text_of c.segments.ensures in
    let front = prefix_of (bytes_of b.0) (text_of c.args.path.now) (codes "\n") (subst (λ t. IsPrefix (bytes_of b.0) t) text b.2) in
    let told = told_behind _ _ _ a.0 b.0 c.args.before.now (text_of c.args.path.now ++ codes "\n") a.1 (a.4 ∙ c.as_bytes.ensures.value) b.1 front in
    (a.0 ++ b.0, told.0, told.1, tt)

pub returns-clause-told : goal.returns-clause-told
returns-clause-told g c =
    let a = c.in-Ok.ensures.added in
    let b = c.in-Ok-emit_joined.ensures.told in
    let d = c.emit_all-2.ensures.added in
    let text = ap text_of c.segments.ensures in
    let inner = told_behind _ _ _ b.0 d.0 (text_of c.args.path.now) (codes "\n") b.1 (b.3 ∙ text) d.1 d.3 in
    let told = told_behind _ _ _ a.0 (b.0 ++ d.0) c.args.before.now (text_of c.args.path.now ++ codes "\n") a.1 (a.4 ∙ c.as_bytes.ensures.value) inner.0 inner.1 in (
      a.0 ++ (b.0 ++ d.0),
      told.0,
      told.1,
      on_ok_weaker c.emit_all-2.result (λ whole. told_whole a.0 (b.0 ++ d.0) c.args.before.now (text_of c.args.path.now ++ codes "\n") (a.4 ∙ c.as_bytes.ensures.value) (told_whole b.0 d.0 (text_of c.args.path.now) (codes "\n") (b.3 ∙ text) whole)) d.4,
    )
