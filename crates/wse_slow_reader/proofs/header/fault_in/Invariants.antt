use Rattle.std.proofs.Common.{◌≡◌, ◌≤◌, length, take}
use Rattle.wse_log.specs.Grammar.{header}
use Rattle.wse_slow_reader.proofs.header.fault_in.Given as goal

abbrev pub invariant-loop-place : goal.invariant-loop-place
invariant-loop-place l = record { same : take l.place l.bytes ≡ take l.place header; within : l.place ≤ length l.bytes }
