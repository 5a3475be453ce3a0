use Rattle.std.proofs.Common.{◌≡◌, take}
use Rattle.serde_json.specs.Data.{no_members}
use Rattle.serde_json.specs.View.{members_view}
use Rattle.wse_reply.specs.Values.{put_versions}
use Rattle.wse_reply.proofs.values.versions_value.Given as goal

abbrev pub invariant-loop-one : goal.invariant-loop-one
invariant-loop-one l = members_view l.members.entries ≡ put_versions (take l.one-index l.changed) no_members
