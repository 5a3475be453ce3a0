use Rattle.std.proofs.Common.{◌∷◌, sym, ap, ◌∙◌}
use Rattle.std.specs.List.{flat_map}
use Rattle.std.proofs.lemmas.Iterator.{YieldsList-from_chars}
use Rattle.std.proofs.lemmas.Iterator.Consumers.{YieldsList-end}
use Rattle.std.proofs.lemmas.List.Folds.{flat_map-map}
use Rattle.wse_json.specs.Shapes.{escaped, to_member}
use Rattle.wse_json.proofs.pointer.to_member.Goals as goal

pub returns : goal.returns
unfolding to_member
returns c =
    let all = YieldsList-end (YieldsList-from_chars c.args.name.now c.utf8.name cc) c.loop-character.yielded _ c.loop-character.yielded_by _ _ c.in-None.is c.next.ensures.steps in
    c.loop-character.invariant
    ∙ ap (λ text. 47 ∷ text) (sym (flat_map-map escaped (λ character. character) c.loop-character.yielded) ∙ ap (flat_map escaped) all.0)
