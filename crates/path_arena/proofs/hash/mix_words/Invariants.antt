use Rattle.std.proofs.Common.{◌≡◌, length}
use Rattle.path_arena.specs.Hashing.{hash_words}
use Rattle.path_arena.proofs.hash.mix_words.Given as goal

abbrev pub invariant-loop-word : goal.invariant-loop-word
invariant-loop-word l = hash_words l.hash l.rest ≡ hash_words l.fn.seed l.bytes

abbrev pub decreases-loop-word : goal.decreases-loop-word
decreases-loop-word l = length l.rest
