use Rattle.std.proofs.Common.{◌≡◌, drop, map, string_bytes}
use Rattle.icescan_words.specs.Heard.{option_in}
use Rattle.icescan_words.proofs.heard.option_in.Given as goal

-- the words so far do not give it
abbrev pub invariant-loop-i : goal.invariant-loop-i
invariant-loop-i l =
    option_in (map string_bytes (drop l.i l.words)) l.name ≡ option_in (map string_bytes l.words) l.name
