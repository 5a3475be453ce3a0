-- What the public readers answer.
use Rattle.std.specs.Prelude.{◌≡◌, ℕ, ◌-◌, ◌≤◌, List, length, Result, Ok, Err}
use Rattle.wse_codec.specs.declared.refused.RecordRefused.{RecordRefused}
use Rattle.wse_codec.specs.declared.refused.RecordRefused.TheVariants as refused
use Rattle.wse_codec.specs.declared.unread.Unread.{Unread}
use Rattle.wse_codec.specs.declared.unread.Unread.TheVariants as unread

-- The value or the place that reading gives. Nothing is said where there was no memory.
abbrev pub IsReading : {V : Type 0} → Result V RecordRefused → Result V ℕ → Type 0
IsReading (Ok v) read = read ≡ Ok v
IsReading (Err refused.Memory) read = Unit {0}
IsReading (Err (refused.NotARecord at)) read = read ≡ Err at

-- The place of a refusal is one of the bytes' places, or the one behind them.
abbrev pub IsWithin : List ℕ → RecordRefused → Type 0
IsWithin body refused.Memory = Unit {0}
IsWithin body (refused.NotARecord at) = at ≤ length body

-- The refusal, with its place counted from the front of the bytes.
abbrev pub refusal_in : List ℕ → Unread → RecordRefused
refusal_in body unread.Memory = refused.Memory
refusal_in body (unread.Wrong left) = refused.NotARecord (length body - left)
