use Rattle.std.proofs.Common.{◌≡◌, drop, map}
use Rattle.icescan_words.proofs.heard.are_texts.Given as goal

-- where what is left is the same, all is
abbrev pub invariant-words : goal.invariant-words
invariant-words l =
    map (λ s. s.now) (drop l.i l.words) ≡ drop l.i l.texts → map (λ s. s.now) l.words ≡ l.texts
