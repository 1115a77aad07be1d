use Rattle.std.proofs.Common.{◌≡◌, ◌++◌, drop, if◌then◌else◌, map, string_bytes}
use Rattle.icescan_words.specs.Heard.{plain_from, plain_words}
use Rattle.icescan_words.proofs.heard.plain_words.Given as goal

-- the plain words so far, and those of what is left
abbrev pub invariant-loop-word : goal.invariant-loop-word
invariant-loop-word l =
    let left = map string_bytes (drop l.word-index l.words) in
    map (λ s. s.now) l.plain.items ++ (if l.is_path then left else plain_from l.is_value left)
    ≡ plain_words (map string_bytes l.words)
