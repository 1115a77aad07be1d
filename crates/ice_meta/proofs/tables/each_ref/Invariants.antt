use Rattle.std.proofs.Common.{◌≡◌, []}
use Rattle.serde_json.specs.View.{members_view}
use Rattle.ice_meta.specs.Tables.{each_ref}
use Rattle.ice_meta.proofs.tables.each_ref.Given as goal

abbrev pub invariant-refs : goal.invariant-refs
invariant-refs l = each_ref (members_view l.name-iterator) l.refs ≡ each_ref (members_view l.members.entries) []
