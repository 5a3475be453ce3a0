use Rattle.std.proofs.Common.{Result, Ok, Err, OnOk, ◌∙◌}
use Rattle.wse_stacks.proofs.ImageLemmas.{images_are, no_push, no_push_parts}
use Rattle.wse_stacks.proofs.image.enact.Goals as goal

on_ok : {X E : Type 0} (r : Result X E) (P Q : Type 0) → OnOk r P → (P → Q) → OnOk r Q
on_ok (Ok x) P Q h f = f h
on_ok (Err e) P Q h f = tt

always_ok : {X E : Type 0} (r : Result X E) (P : Type 0) → P → OnOk r P
always_ok (Ok x) P h = h
always_ok (Err e) P h = tt

pub returns-in_default-clause-after : goal.returns-in_default-clause-after
returns-in_default-clause-after c = on_ok c.pass.result _ _ c.pass.ensures (λ e. e ∙ images_are c.args.records.now c.args.effect.now (no_push c.args.effect.now c.in_default.not-Push))

pub returns-in_default-clause-parts : goal.returns-in_default-clause-parts
returns-in_default-clause-parts c = always_ok c.pass.result _ (no_push_parts c.args.effect.now c.in_default.not-Push)
