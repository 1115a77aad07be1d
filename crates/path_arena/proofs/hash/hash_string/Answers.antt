use Rattle.std.proofs.Common.{ℕ, ◌/◌, length, ap, ◌∙◌}
use Rattle.path_arena.specs.Hashing.{mixed, hash_of}
use Rattle.path_arena.proofs.hash.hash_string.Goals as goal

pub returns : goal.returns
unfolding hash_of
returns c =
    let long = length c.args.bytes.now in let seed : ℕ = 14695981039346656037 in
    let counted = c.mix-hash.ensures ∙ ap (λ h. mixed h long) c.mix_words.ensures in
    ap (λ (h : ℕ). h / 4294967296) (c.mix.ensures ∙ ap (λ h. mixed h seed) counted)
