use Rattle.std.proofs.Common.{All, drop, take}
use Rattle.std.specs.Str.{IsUtf8}
use Rattle.wse_splice.proofs.SpliceLemmas.{IsMadeUpTo}
use Rattle.wse_splice.proofs.splice.apply.Given as goal

abbrev pub invariant-loop-splice : goal.invariant-loop-splice
invariant-loop-splice l = record {
  made : IsMadeUpTo l.text l.splices l.done (drop l.splice-index l.splices) l.after.items;
  texts : All (λ s. IsUtf8 s.text) (take l.splice-index l.splices);
}
