use Rattle.std.proofs.Common.{◌≡◌, ◌++◌, ◌<◌, ◌^◌, ℕ, suc}
use Rattle.avro_file.specs.Writing.{groups_of}
use Rattle.avro_file.proofs.encode.push_groups.Given as goal

-- what is written, and the groups that are still to come
abbrev pub invariant-groups : goal.invariant-groups
invariant-groups l = (turns : ℕ) × (l.rest < 128 ^ suc turns) × (l.bytes.items ++ groups_of (suc turns) l.rest
    ≡ l.initial.bytes.items ++ groups_of 10 l.number)

abbrev pub decreases-groups : goal.decreases-groups
decreases-groups l = l.rest
