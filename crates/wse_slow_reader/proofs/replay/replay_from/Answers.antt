use Rattle.std.proofs.Common.{◌+◌, ◌∷◌, ℕ, List, length, sym, ap, subst, ◌∙◌, arith}
use Rattle.wse_slow_reader.specs.declared.given.Given.{Given}
use Rattle.wse_slow_reader.specs.declared.given.Given.TheVariants.{Leaves, NoStore}
use Rattle.wse_slow_reader.specs.Split.{end_of}
use Rattle.wse_slow_reader.specs.Given.{IsFirst, IsGiven, IsGivenBehind}
use Rattle.wse_slow_reader.proofs.OptionLemmas.{ok_map}
use Rattle.wse_slow_reader.proofs.GivenLemmas.{bounded_first, gives_no_first, given_from}
use Rattle.wse_slow_reader.proofs.SplitLemmas.{length_cons}
use Rattle.wse_slow_reader.proofs.replay.replay_from.Goals as goal

pub first_left-requires : goal.first_left-requires
first_left-requires c = omega (arith, c.requires, length_cons c.args.first.now c.args.others.now, ap length c.body-body.ensures)

pub replay_on-requires-clause-bounded : goal.replay_on-requires-clause-bounded
replay_on-requires-clause-bounded c =
    bounded_first c.body-body.result.now c.in-Leaves.left (subst (λ (g : Given). IsFirst c.body-body.result.now g) c.in-Leaves.is c.in_ok-left.ensures)

pub replay_on-requires-clause-room : goal.replay_on-requires-clause-room
replay_on-requires-clause-room c = omega (arith, c.requires, length_cons c.args.first.now c.args.others.now, ap length c.body-body.ensures)

pub returns-in-Leaves : goal.returns-in-Leaves
returns-in-Leaves c =
    let first = c.args.first.now in
    let others = c.args.others.now in
    let ending = end_of c.args.ending in
    let left = c.in-Leaves.left in
    let gate = 14 + length c.body-body.result.now in
    let read = subst (λ (g : Given). IsFirst c.body-body.result.now g) c.in-Leaves.is c.in_ok-left.ensures in
    let is = subst (λ (b : List ℕ). IsFirst b (Leaves left)) c.body-body.ensures read in
    ok_map (IsGivenBehind left gate others ending) (IsGiven (first ∷ others) ending) c.replay_on.result
    (λ given h. given_from first others ending left gate given is (ap (λ (b : List ℕ). 14 + length b) c.body-body.ensures) h) c.replay_on.ensures

pub returns-in-NoStore : goal.returns-in-NoStore
returns-in-NoStore c =
    let at = c.in-NoStore.at in
    let read = subst (λ (g : Given). IsFirst c.body-body.result.now g) c.in-NoStore.is c.in_ok-left.ensures in
    gives_no_first c.args.first.now c.args.others.now (end_of c.args.ending) at (subst (λ (b : List ℕ). IsFirst b (NoStore at)) c.body-body.ensures read)
