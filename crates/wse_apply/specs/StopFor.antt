-- A refusal of a resource operation as a reason, or as want of memory.
use Rattle.wse_resource.specs.declared.refused.OpRefused.{OpRefused}
use Rattle.wse_resource.specs.declared.refused.OpRefused.TheVariants.{Memory}
use Rattle.wse_apply.specs.declared.reason.Reason.TheVariants.{Op}
use Rattle.wse_apply.specs.declared.stop.Stop.{Stop}
use Rattle.wse_apply.specs.declared.stop.Stop.TheVariants as stop

abbrev pub stop_for : OpRefused → Stop
stop_for Memory = stop.Memory
stop_for why = stop.Refused (Op why)
