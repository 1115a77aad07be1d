use Rattle.std.proofs.Common.{◌∙◌}
use Rattle.ice_transform.proofs.Words.{words_step}
use Rattle.ice_transform.proofs.murmur.body.Goals as goal

pub words-preserved : goal.words-preserved
words-preserved c =
    words_step _ _ _ _ c.in-len4-up.len_at_least c.word.ensures c.mix-hash.ensures ∙ c.words.invariant
