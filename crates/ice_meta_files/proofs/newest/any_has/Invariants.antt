use Rattle.std.proofs.Common.{◌≡◌, drop}
use Rattle.std.specs.List.{list_any}
use Rattle.ice_meta_files.specs.Newest.{has_number}
use Rattle.ice_meta_files.proofs.newest.any_has.Given as goal

-- none so far
abbrev pub invariant-names : goal.invariant-names
invariant-names l = list_any (has_number l.number) (drop l.name-index l.names) ≡ list_any (has_number l.number) l.names
