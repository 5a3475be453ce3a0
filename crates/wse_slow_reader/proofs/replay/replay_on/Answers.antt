use Rattle.std.proofs.Common.{◌+◌, ℕ, List, length, drop, sym, ap, subst, ◌∙◌, arith}
use Rattle.wse_slow_reader.specs.declared.piece.Ending.{Ending}
use Rattle.wse_slow_reader.specs.declared.given.Given.{Given}
use Rattle.wse_slow_reader.specs.declared.given.Given.TheVariants.{Leaves, NoStore}
use Rattle.wse_slow_reader.specs.Split.{end_of}
use Rattle.wse_slow_reader.specs.Given.{IsNext, IsGivenBehind}
use Rattle.wse_slow_reader.proofs.GivenLemmas.{GoesFrom, goes_more, goes_no_more, goes_closed, goes_broken, length_more}
use Rattle.wse_slow_reader.proofs.replay.replay_on.Goals as goal

pub next_left-requires-clause-room : goal.next_left-requires-clause-room
next_left-requires-clause-room c =
    let i = c.loop-raw.raw-index in
    let r = c.raw-item.result in
    let more = length_more c.args.begun c.args.place c.args.records.now (end_of c.args.ending) c.loop-raw.left c.loop-raw.gate i r c.loop-raw-test.true c.raw-item.is in
    omega (arith, c.requires.room, c.loop-raw.invariant.room, more, ap length c.body-body.ensures)

pub loop-raw-preserved : goal.loop-raw-preserved
loop-raw-preserved c =
    let inv = c.loop-raw.invariant in
    let begun = c.args.begun in
    let place = c.args.place in
    let records = c.args.records.now in
    let ending = end_of c.args.ending in
    let now = c.loop-raw.left in
    let gate = c.loop-raw.gate in
    let i = c.loop-raw.raw-index in
    let r = c.raw-item.result in
    let next = c.in-Leaves.next in
    let bytes = ap (λ (b : List ℕ). length b) c.body-body.ensures in
    let read = subst (λ (g : Given). IsNext now.kept gate c.body-body.result.now g) c.in-Leaves.is c.in_ok-next.ensures in
    let is = subst (λ (b : List ℕ). IsNext now.kept gate b (Leaves next)) c.body-body.ensures read in
    let more = length_more begun place records ending now gate i r c.loop-raw-test.true c.raw-item.is in
    record {
      goes = goes_more begun place records ending now gate i r next (gate + (6 + length c.body-body.result.now)) c.loop-raw-test.true c.raw-item.is (omega (arith, bytes)) is inv.goes;
      bounded = is.4;
      room = omega (arith, inv.room, more, bytes);
    }

pub returns-in-NoStore : goal.returns-in-NoStore
returns-in-NoStore c =
    let now = c.loop-raw.left in
    let gate = c.loop-raw.gate in
    let at = c.in-NoStore.at in
    let read = subst (λ (g : Given). IsNext now.kept gate c.body-body.result.now g) c.in-NoStore.is c.in_ok-next.ensures in
    let is = subst (λ (b : List ℕ). IsNext now.kept gate b (NoStore at)) c.body-body.ensures read in
    goes_no_more c.args.begun c.args.place c.args.records.now (end_of c.args.ending) now gate c.loop-raw.raw-index c.raw-item.result at c.loop-raw-test.true c.raw-item.is is c.loop-raw.invariant.goes

pub returns-in-Closed : goal.returns-in-Closed
returns-in-Closed c =
    let begun = c.args.begun in
    let place = c.args.place in
    let records = c.args.records.now in
    let now = c.loop-raw.left in
    let gate = c.loop-raw.gate in
    let i = c.loop-raw.raw-index in
    let goes = subst (λ (e : Ending). GoesFrom begun place records (end_of e) now gate (drop i records)) c.in-Closed.is c.loop-raw.invariant.goes in
    subst (λ (e : Ending). IsGivenBehind begun place records (end_of e) (Leaves now)) (sym c.in-Closed.is) (goes_closed begun place records now gate i _ (omega (arith, c.loop-raw-test.false)) goes)

pub returns-in-Broken : goal.returns-in-Broken
returns-in-Broken c =
    let begun = c.args.begun in
    let place = c.args.place in
    let records = c.args.records.now in
    let now = c.loop-raw.left in
    let gate = c.loop-raw.gate in
    let i = c.loop-raw.raw-index in
    let at = c.in-Broken.at in
    let goes = subst (λ (e : Ending). GoesFrom begun place records (end_of e) now gate (drop i records)) c.in-Broken.is c.loop-raw.invariant.goes in
    subst (λ (e : Ending). IsGivenBehind begun place records (end_of e) (NoStore at)) (sym c.in-Broken.is) (goes_broken begun place records now gate i at (omega (arith, c.loop-raw-test.false)) goes)
