use Rattle.std.proofs.Common.{ap, ◌∙◌}
use Rattle.wse_element.specs.State.{State}
use Rattle.wse_show.specs.Show.{show_text}
use Rattle.wsedit.proofs.ShowingLemmas.{emitted_of}
use Rattle.wsedit.proofs.showing.emit_store.Goals as goal

pub returns-in-Ok-clause-emitted : goal.returns-in-Ok-clause-emitted
returns-in-Ok-clause-emitted g c =
    let engine = c.args.engine.now in
    emitted_of (show_text engine.state) _ (g.D.Disk.moment_of engine.disk) _ _ _ c.emit_text.result
    (c.as_slice.ensures ∙ c.in-Ok.ensures ∙ ap (λ (s : State). show_text s) c.history.ensures.state) (ap g.D.Disk.moment_of c.disk.ensures.disk) c.emit_text.ensures.emitted
