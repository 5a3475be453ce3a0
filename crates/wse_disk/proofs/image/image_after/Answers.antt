use Rattle.std.proofs.Common.{◌≡◌, ◌-◌, List, length, take, drop, sym, ap, subst, ◌∙◌}
use Rattle.std.proofs.lemmas.List.{take_rest}
use Rattle.std.proofs.lemmas.Result.{IfOk-weaker}
use Rattle.wse_path.specs.Tree.{IsTree}
use Rattle.wse_disk.specs.Reading.{Reading}
use Rattle.wse_disk.specs.Standing.{Pending, fresh}
use Rattle.wse_disk.specs.Replay.{drafted, replay}
use Rattle.wse_disk.specs.Chosen.{left_from}
use Rattle.wse_disk.specs.Runs.{writes_of}
use Rattle.wse_disk.specs.declared.call.Call.{Call}
use Rattle.wse_disk.proofs.ReplayLemmas.{pending_is}
use Rattle.wse_disk.proofs.PickLemmas.{picked}
use Rattle.wse_disk.proofs.image.image_after.Goals as goal

pub pick-requires : goal.pick-requires
pick-requires c =
    let cs = c.args.calls.now in
    let n = c.count_synced-count.result in
    let base = drafted c.redo_all.new.self in
    let is : (replay (fresh (drafted c.args.start)) cs).pending ≡ record { base = base; writes = writes_of (drop n cs) } =
    pending_is (drafted c.args.start) cs n c.count_synced-count.ensures.within c.count_synced-count.ensures.last c.count_synced-count.ensures.behind
    ∙ ap (λ (b : Reading). record { base = b; writes = writes_of (drop n cs) }) (sym c.in_ok-redo_all.ensures) in
    subst (λ (p : Pending). IsTree p.base.files) is c.requires

pub returns : goal.returns
returns c =
    let cs = c.args.calls.now in
    let n = c.count_synced-count.result in
    let base = drafted c.redo_all.new.self in
    let is : (replay (fresh (drafted c.args.start)) cs).pending ≡ record { base = base; writes = writes_of (drop n cs) } =
    pending_is (drafted c.args.start) cs n c.count_synced-count.ensures.within c.count_synced-count.ensures.last c.count_synced-count.ensures.behind
    ∙ ap (λ (b : Reading). record { base = b; writes = writes_of (drop n cs) }) (sym c.in_ok-redo_all.ensures) in
    let left_is = c.in_ok-leave_all.ensures
    ∙ ap (λ (r : Reading). left_from c.args.choice 0 r (writes_of (take (length cs - n) (drop n cs)))) c.in_ok-left.ensures
    ∙ ap (λ (l : List Call). left_from c.args.choice 0 base (writes_of l)) (take_rest cs n) in
    let tree : IsTree base.files = subst (λ (p : Pending). IsTree p.base.files) is c.requires in
    IfOk-weaker c.pick.result _ _ (λ whole picks. picked c.args.choice (replay (fresh (drafted c.args.start)) cs).pending base (drafted c.leave_all.new.self) _ (writes_of (drop n cs)) is left_is tree picks) c.pick.ensures
