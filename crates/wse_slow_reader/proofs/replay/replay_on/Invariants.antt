use Rattle.std.proofs.Common.{◌≡◌, ◌+◌, true, drop}
use Rattle.wse_element.specs.State.{stacks_of}
use Rattle.wse_element.specs.Numbers.{is_bounded}
use Rattle.wse_slow_reader.specs.Split.{end_of, length_of}
use Rattle.wse_slow_reader.proofs.GivenLemmas.{GoesFrom}
use Rattle.wse_slow_reader.proofs.replay.replay_on.Given as goal

abbrev pub invariant-loop-raw : goal.invariant-loop-raw
invariant-loop-raw l = record {
  goes : GoesFrom l.fn.begun l.fn.place l.records (end_of l.ending) l.left l.gate (drop l.raw-index l.records);
  bounded : is_bounded (stacks_of l.left.kept) ≡ true;
  room : l.gate + length_of (drop l.raw-index l.records) ≡ l.fn.place + length_of l.records;
}
