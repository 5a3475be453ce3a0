use Rattle.std.proofs.Common.{◌≡◌, ℕ, take, sym, ap, subst, ◌∙◌}
use Rattle.wse_disk.specs.Reading.{Reading}
use Rattle.wse_disk.specs.Replay.{held, drafted, pending_at}
use Rattle.wse_disk.specs.Chosen.{IsChosen, IsPicked}
use Rattle.wse_disk.specs.MemState.{MemState, standing, reading}
use Rattle.wse_disk.proofs.PickLemmas.{base_of_moment, picked_at, none_kept, all_kept, uncalled_rests}
use Rattle.wse_disk.proofs.mem.MemDisk.image_at.Goals as goal

pub image_after-requires : goal.image_after-requires
image_after-requires c =
    let d = c.args.self.now in
    let calls = take c.args.moment c.deref.result.now in
    let calls_is : calls ≡ take c.args.moment d.calls = ap (take c.args.moment) (c.deref.ensures.value ∙ ap (λ (e : MemState). e.calls) c.self.view_is) in
    base_of_moment d c.args.moment (drafted c.in_ok-start.start) calls c.requires c.in_ok-start.ensures calls_is

pub returns-clause-image : goal.returns-clause-image
returns-clause-image c =
    let d = c.args.self.now in
    let p = pending_at (standing d) c.args.moment in
    let calls = take c.args.moment c.deref.result.now in
    let calls_is : calls ≡ take c.args.moment d.calls = ap (take c.args.moment) (c.deref.ensures.value ∙ ap (λ (e : MemState). e.calls) c.self.view_is) in
    let it = c.in_ok-tree.field-0 in
    let whole = picked_at c.args.choice d c.args.moment (drafted c.in_ok-start.start) (held it.tree.files it.areas) calls c.requires c.in_ok-start.ensures calls_is c.in_ok-tree.ensures in
    let same : reading c.of.result ≡ held it.tree.files it.areas = cc (c.of.ensures.reading) in
    let picks = subst (λ (r : Reading). IsPicked c.args.choice p r) (sym same) whole in
    picks.left

pub returns-clause-chosen : goal.returns-clause-chosen
returns-clause-chosen c =
    let d = c.args.self.now in
    let p = pending_at (standing d) c.args.moment in
    let calls = take c.args.moment c.deref.result.now in
    let calls_is : calls ≡ take c.args.moment d.calls = ap (take c.args.moment) (c.deref.ensures.value ∙ ap (λ (e : MemState). e.calls) c.self.view_is) in
    let it = c.in_ok-tree.field-0 in
    let whole = picked_at c.args.choice d c.args.moment (drafted c.in_ok-start.start) (held it.tree.files it.areas) calls c.requires c.in_ok-start.ensures calls_is c.in_ok-tree.ensures in
    let same : reading c.of.result ≡ held it.tree.files it.areas = cc (c.of.ensures.reading) in
    let picks = subst (λ (r : Reading). IsPicked c.args.choice p r) (sym same) whole in
    picks.chosen

pub returns-clause-none : goal.returns-clause-none
returns-clause-none c = λ zero.
    let d = c.args.self.now in
    let p = pending_at (standing d) c.args.moment in
    let calls = take c.args.moment c.deref.result.now in
    let calls_is : calls ≡ take c.args.moment d.calls = ap (take c.args.moment) (c.deref.ensures.value ∙ ap (λ (e : MemState). e.calls) c.self.view_is) in
    let it = c.in_ok-tree.field-0 in
    let whole = picked_at c.args.choice d c.args.moment (drafted c.in_ok-start.start) (held it.tree.files it.areas) calls c.requires c.in_ok-start.ensures calls_is c.in_ok-tree.ensures in
    let same : reading c.of.result ≡ held it.tree.files it.areas = cc (c.of.ensures.reading) in
    let picks = subst (λ (r : Reading). IsPicked c.args.choice p r) (sym same) whole in
    none_kept p (reading c.of.result) (d.sound.bases c.args.moment) (subst (λ (n : ℕ). IsChosen n p (reading c.of.result)) zero picks.chosen)

pub returns-clause-all : goal.returns-clause-all
returns-clause-all c = λ one.
    let d = c.args.self.now in
    let p = pending_at (standing d) c.args.moment in
    let calls = take c.args.moment c.deref.result.now in
    let calls_is : calls ≡ take c.args.moment d.calls = ap (take c.args.moment) (c.deref.ensures.value ∙ ap (λ (e : MemState). e.calls) c.self.view_is) in
    let it = c.in_ok-tree.field-0 in
    let whole = picked_at c.args.choice d c.args.moment (drafted c.in_ok-start.start) (held it.tree.files it.areas) calls c.requires c.in_ok-start.ensures calls_is c.in_ok-tree.ensures in
    let same : reading c.of.result ≡ held it.tree.files it.areas = cc (c.of.ensures.reading) in
    let picks = subst (λ (r : Reading). IsPicked c.args.choice p r) (sym same) whole in
    all_kept p (reading c.of.result) (subst (λ (n : ℕ). IsChosen n p (reading c.of.result)) one picks.chosen)

pub returns-clause-rests : goal.returns-clause-rests
returns-clause-rests c = uncalled_rests c.of.result c.of.ensures.calls
