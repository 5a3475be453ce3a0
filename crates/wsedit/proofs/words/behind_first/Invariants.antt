use Rattle.std.proofs.Common.{◌≡◌, ◌++◌, drop}
use Rattle.wsedit.proofs.words.behind_first.Given as goal

abbrev pub invariant-loop-word : goal.invariant-loop-word
invariant-loop-word l = l.behind.items ++ l.word-iterator.rest.items ≡ drop 1 l.fn.words.rest.items
