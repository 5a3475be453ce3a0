-- What may be done at a place, by what stands there. All of this is this project's own rule.
use Rattle.std.specs.Prelude.{Bool, true, false, Option, Some, None}
use Rattle.wse_dir.specs.declared.kinds.Kind.{Kind}
use Rattle.wse_dir.specs.declared.kinds.Kind.TheVariants.{Absent, File, Folder, Link, Other}
use Rattle.wse_dir.specs.declared.kinds.Room.{Room}
use Rattle.wse_dir.specs.declared.kinds.Room.TheVariants.{New, Written, InTheWay, Refused}

-- No path goes through a link.
abbrev pub lets_through : Kind → Bool
lets_through Absent = true
lets_through File = true
lets_through Folder = true
lets_through Link = false
lets_through Other = true

-- A path of the tree has a file there, or none. A folder is no file. Links and devices are refused.
abbrev pub file_in_tree : Kind → Option Bool
file_in_tree Absent = Some false
file_in_tree File = Some true
file_in_tree Folder = Some false
file_in_tree Link = None
file_in_tree Other = None

-- An area has a file there, or none. All else is refused.
abbrev pub file_in_store : Kind → Option Bool
file_in_store Absent = Some false
file_in_store File = Some true
file_in_store Folder = None
file_in_store Link = None
file_in_store Other = None

-- What a store finds there.
abbrev pub room_in_tree : Kind → Room
room_in_tree Absent = New
room_in_tree File = Written
room_in_tree Folder = InTheWay
room_in_tree Link = Refused
room_in_tree Other = Refused
