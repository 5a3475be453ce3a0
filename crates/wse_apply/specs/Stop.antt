-- What keeps a tree from becoming another: locks that others hold at paths whose content changes, and then a limit.
-- This project's own rule.
use Rattle.std.specs.Prelude.{ℕ, List, [], ◌∷◌, map, filter, Option, Some, None, option_map, Result, Ok, Err}
use Rattle.std.specs.Option.{option_or}
use Rattle.wse_path.specs.Path.{Path}
use Rattle.wse_path.specs.Tree.{Entries}
use Rattle.wse_path.specs.Changes.{changes_between}
use Rattle.wse_path.specs.declared.change.Change.{Change}
use Rattle.wse_locks.specs.Locks.{Holders, is_held}
use Rattle.wse_apply.specs.Setting.{SettingState}
use Rattle.wse_apply.specs.Limit.{limit_hit}
use Rattle.wse_apply.specs.Sizes.{hit_after}
use Rattle.wse_apply.specs.declared.sizes.Sizes.{Sizes}
use Rattle.wse_apply.specs.declared.reason.Reason.{Reason}
use Rattle.wse_apply.specs.declared.reason.Reason.TheVariants.{Locked, Limit}

-- The changed paths that another participant holds, in path order.
abbrev pub held_among : Holders → ℕ → List Change → List Path
held_among locks by changes = filter (is_held locks by) (map (λ c. c.path) changes)

abbrev pub locked_by : List Path → Option Reason
locked_by [] = None
locked_by (p ∷ ps) = Some (Locked (p ∷ ps))

-- Why these files may not become the new ones.
abbrev pub stop : SettingState → Entries → Entries → Option Reason
stop setting files new =
    option_or (locked_by (held_among setting.locks setting.by (changes_between files new)))
    (option_map Limit (limit_hit setting.limits new))

-- The same by the changes and the size of all files after them.
abbrev pub stop_by : SettingState → Sizes → List Change → Option Reason
stop_by setting sizes changes =
    option_or (locked_by (held_among setting.locks setting.by changes)) (option_map Limit (hit_after setting.limits sizes changes))

abbrev pub unless : Option Reason → Result Entries Reason → Result Entries Reason
unless None next = next
unless (Some why) next = Err why

-- The new files, unless something keeps the files from becoming them.
abbrev pub changed_to : SettingState → Entries → Entries → Result Entries Reason
changed_to setting files new = unless (stop setting files new) (Ok new)
