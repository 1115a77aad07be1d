use Rattle.std.proofs.Common.{◌≡◌, ◌*◌, take, drop}
use Rattle.hex.specs.Hex.{decode_pairs}
use Rattle.hex.proofs.Pairs.{prepend}
use Rattle.icescan_files.proofs.digits.fill.Given as goal

abbrev pub invariant-bytes : goal.invariant-bytes
invariant-bytes l =
    decode_pairs 0 l.digits ≡ prepend (take l.at l.room) (decode_pairs (2 * l.at) (drop (2 * l.at) l.digits))
