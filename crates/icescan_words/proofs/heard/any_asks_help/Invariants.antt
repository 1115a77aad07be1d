use Rattle.std.proofs.Common.{◌≡◌, drop, map, string_bytes}
use Rattle.std.specs.List.{list_any}
use Rattle.icescan_words.specs.Heard.{asks_help}
use Rattle.icescan_words.proofs.heard.any_asks_help.Given as goal

-- no word so far asks for it
abbrev pub invariant-loop-word : goal.invariant-loop-word
invariant-loop-word l =
    list_any asks_help (map string_bytes (drop l.word-index l.words)) ≡ list_any asks_help (map string_bytes l.words)
