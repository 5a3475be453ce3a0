use Rattle.std.proofs.Common.{◌++◌, ◌∷◌, [], List, take, sym, ap, subst, ◌∙◌}
use Rattle.std.proofs.lemmas.List.{take_more}
use Rattle.wse_path.specs.Path.{Path}
use Rattle.wse_path.specs.Versions.{Numbers}
use Rattle.wse_stacks.specs.Turns.{AreNoted}
use Rattle.wse_stacks.proofs.TurnLemmas.{noted_none, noted_more}
use Rattle.wse_stacks.proofs.turned.turned.Goals as goal

pub loop-path-init : goal.loop-path-init
loop-path-init c = subst (λ (es : Numbers). AreNoted c.args.old.now c.args.new.now [] es) (sym c.new-noted.ensures) (noted_none c.args.old.now c.args.new.now)

pub loop-path-preserved : goal.loop-path-preserved
loop-path-preserved c =
    let old = c.args.old.now in
    let new = c.args.new.now in
    let i = c.loop-path.path-index in
    let paths = c.args.paths.now in
    let path = c.path-item.result in
    subst (λ (ps : List Path). AreNoted old new ps c.note.new.noted.entries) (ap (λ (p : Path). take i paths ++ p ∷ []) c.path-item.is ∙ sym (take_more paths i path c.loop-path-test.true))
    (noted_more old new (take i paths) path c.loop-path.noted.entries c.note.new.noted.entries c.loop-path.invariant c.in_ok-note.ensures)
