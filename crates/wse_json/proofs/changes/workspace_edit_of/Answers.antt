use Rattle.std.proofs.Common.{◌≡◌, ap, ◌∙◌, subst}
use mathlib.Core.Path.{fun_ext}
use Rattle.std.specs.BTreeSet.{contains_text}
use Rattle.serde_json.specs.View.{view}
use Rattle.wse_json.specs.Commands.{workspace_edit_of}
use Rattle.wse_json.specs.Members.{is_among}
use Rattle.wse_json.specs.Shapes.{Gives}
use Rattle.wse_json.proofs.changes.workspace_edit_of.Goals as goal

pub returns : goal.returns
returns c =
    let set = c.in_ok-confirmed.confirmed in
    let same : contains_text set ≡ is_among c.args.confirmed.now =
    fun_ext (λ text. c.in_ok-confirmed.ensures text ∙ ap (λ texts. is_among texts text) c.as_slice.ensures) in
    subst (λ confirmed. Gives (workspace_edit_of c.args.root.now confirmed (view c.args.edit.now)) c.checked_operations.result) same c.checked_operations.ensures
