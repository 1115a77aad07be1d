use Rattle.std.proofs.Common.{◌-◌, arith}
use Rattle.std.proofs.lemmas.Nat.{and_le_r}
use Rattle.path_arena.proofs.index.bucket_of.Goals as goal

pub returns-clause-within : goal.returns-clause-within
returns-clause-within c = omega (arith, c.requires, and_le_r c.args.hash (c.args.buckets - 1))
