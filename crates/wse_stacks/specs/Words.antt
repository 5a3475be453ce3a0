-- Why elements or effects are refused, in words. This project's own rule.
use Rattle.std.specs.Prelude.{ℕ, List, ◌++◌, codes, decimal}
use Rattle.wse_stacks.specs.declared.refused.StacksRefused.{StacksRefused}
use Rattle.wse_stacks.specs.declared.refused.StacksRefused.TheVariants as stacks
use Rattle.wse_stacks.specs.declared.refused.ReserveRefused.{ReserveRefused}
use Rattle.wse_stacks.specs.declared.refused.ReserveRefused.TheVariants as reserve

abbrev pub stacks_text : StacksRefused → List ℕ
stacks_text (stacks.NotLinked index) = codes "not linked at element " ++ decimal index
stacks_text stacks.Memory = codes "out of memory"

abbrev pub reserve_text : ReserveRefused → List ℕ
reserve_text (reserve.NotApplicable index) = codes "effect " ++ (decimal index ++ codes " is not applicable")
reserve_text reserve.Memory = codes "out of memory"
