use Rattle.std.proofs.Common.{◌≡◌, ◌++◌, length, option_map}
use Rattle.icescan_print.specs.Escaping.{unescaped}
use Rattle.icescan_print.proofs.unescaping.unescape.Given as goal

-- the text stands for the bytes so far and those of the rest
abbrev pub invariant-loop-byte : goal.invariant-loop-byte
invariant-loop-byte l = unescaped l.text ≡ option_map (λ more. l.bytes.items ++ more) (unescaped l.rest)

abbrev pub decreases-loop-byte : goal.decreases-loop-byte
decreases-loop-byte l = length l.rest
