use Rattle.std.proofs.Common.{◌≡◌, drop}
use Rattle.ice_meta_files.specs.Newest.{highest, highest_from}
use Rattle.ice_meta_files.proofs.newest.highest.Given as goal

-- the highest so far, and what is left
abbrev pub invariant-names : goal.invariant-names
invariant-names l = highest_from l.best (drop l.name-index l.names) ≡ highest l.names
