use Rattle.std.proofs.Common.{◌≡◌, drop}
use Rattle.path_arena.specs.Hashing.{hash_bytes}
use Rattle.path_arena.proofs.hash.mix_bytes.Given as goal

abbrev pub invariant-loop-byte : goal.invariant-loop-byte
invariant-loop-byte l = hash_bytes l.hash (drop l.byte-index l.bytes) ≡ hash_bytes l.fn.seed l.bytes
