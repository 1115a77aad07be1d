use Rattle.std.proofs.Common.{◌≡◌, filter, map, take}
use Rattle.ice_meta_files.specs.Newest.{has_number}
use Rattle.ice_meta_files.proofs.newest.all_of.Given as goal

-- those so far
abbrev pub invariant-names : goal.invariant-names
invariant-names l = map (λ x. x.now) l.found.items ≡ filter (has_number l.number) (take l.name-index l.names)
