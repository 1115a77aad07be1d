use Rattle.std.proofs.Common.{sym, ap, ◌∙◌}
use Rattle.std.specs.Int.{w64, from_le_bytes}
use Rattle.path_arena.specs.Hashing.{mixed, hash_words}
use Rattle.path_arena.proofs.Hashes.{words_step}
use Rattle.path_arena.proofs.hash.mix_words.Goals as goal

pub loop-word-preserved : goal.loop-word-preserved
loop-word-preserved c =
    let w = c.in-Some.ensures.cases in let h = c.loop-word.hash in
    let read = c.from_le_bytes.ensures ∙ ap (from_le_bytes w64) w.same in
    (λ i. hash_words ((c.mix-hash.ensures ∙ ap (mixed h) read) i) (c.split_at.ensures.back i))
    ∙ sym (words_step h c.loop-word.rest.now w.enough) ∙ c.loop-word.invariant
