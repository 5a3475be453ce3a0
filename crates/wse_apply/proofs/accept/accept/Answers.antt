use Rattle.std.proofs.Common.{List, ap, ◌∙◌}
use Rattle.wse_path.specs.declared.change.Change.{Change}
use Rattle.wse_apply.specs.Stop.{stop_by}
use Rattle.wse_apply.proofs.StopLemmas.{tried_refused, tried_done, tried_small, size_then}
use Rattle.wse_apply.proofs.accept.accept.Goals as goal

pub returns-in-Some-clause-refused : goal.returns-in-Some-clause-refused
returns-in-Some-clause-refused c = λ new lead.
    let cs = c.args.changes in
    let after = c.changed-after.ensures ∙ ap (λ (l : List Change). size_then c.args.sizes l) c.as_slice.ensures in
    let is = c.in_ok-stop.ensures ∙ ap (λ (l : List Change). stop_by c.args.setting.now c.changed-after.result l) c.as_slice-2.ensures in
    tried_refused c.args.setting.now c.args.sizes c.changed-after.result c.args.overlay.now.files cs c.in_ok-stop.stop c.in-Some.reason c.requires.small c.args.overlay.now.is_tree after is c.in-Some.is new lead

pub returns-clause-done : goal.returns-clause-done
returns-clause-done c = λ new lead.
    let cs = c.args.changes in
    let after = c.changed-after.ensures ∙ ap (λ (l : List Change). size_then c.args.sizes l) c.as_slice.ensures in
    let is = c.in_ok-stop.ensures ∙ ap (λ (l : List Change). stop_by c.args.setting.now c.changed-after.result l) c.as_slice-2.ensures in
    tried_done c.args.setting.now c.args.sizes c.changed-after.result c.args.overlay.now.files c.make.new.overlay.files cs c.in_ok-stop.stop c.requires.small c.args.overlay.now.is_tree after is c.in-None.is c.in_ok-make.ensures.files new lead

pub returns-clause-small : goal.returns-clause-small
returns-clause-small c =
    let cs = c.args.changes in
    let after = c.changed-after.ensures ∙ ap (λ (l : List Change). size_then c.args.sizes l) c.as_slice.ensures in
    let is = c.in_ok-stop.ensures ∙ ap (λ (l : List Change). stop_by c.args.setting.now c.changed-after.result l) c.as_slice-2.ensures in
    tried_small c.args.setting.now c.args.sizes c.changed-after.result c.args.overlay.now.files c.make.new.overlay.files cs c.in_ok-stop.stop c.requires.small c.requires.lead after is c.in-None.is c.in_ok-make.ensures.files
