-- Want of memory is no reason why an operation of an edit fails.
use Rattle.std.specs.Prelude.{ℕ, Bool, true, false, Option, Some, None}
use Rattle.wse_resource.specs.declared.refused.OpRefused.TheVariants as ops
use Rattle.wse_apply.specs.declared.reason.Reason.{Reason}
use Rattle.wse_apply.specs.declared.reason.Reason.TheVariants.{Op}

-- The reason is that there was no memory.
abbrev pub is_want_of_memory : Reason → Bool
is_want_of_memory (Op ops.Memory) = true
is_want_of_memory why = false

-- An operation fails, and the reason is that there was no memory.
abbrev pub fails_for_memory : Option (ℕ × Reason) → Bool
fails_for_memory None = false
fails_for_memory (Some failed) = is_want_of_memory failed.1
