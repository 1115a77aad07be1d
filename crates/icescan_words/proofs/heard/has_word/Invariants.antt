use Rattle.std.proofs.Common.{◌≡◌, drop, map, string_bytes, bytes_eq}
use Rattle.std.specs.List.{list_any}
use Rattle.icescan_words.proofs.heard.has_word.Given as goal

-- no word so far is this one
abbrev pub invariant-loop-word : goal.invariant-loop-word
invariant-loop-word l = list_any (λ word. bytes_eq word l.wanted) (map string_bytes (drop l.word-index l.words))
    ≡ list_any (λ word. bytes_eq word l.wanted) (map string_bytes l.words)
