-- Objects while their members come.
use Rattle.serde_json.specs.Data.{Members}
use Rattle.serde_json.specs.View.{members_view}
use Rattle.wse_show.specs.declared.object.Object.{Object}

-- The members so far.
abbrev pub members_in : Object → Members
members_in o = members_view o.members.entries
