use Rattle.std.proofs.Common.{◌≡◌, take}
use Rattle.std.specs.List.{list_all}
use Rattle.hex.specs.Hex.{is_hex_digit}
use Rattle.icescan_files.proofs.digits.are_digits.Given as goal

abbrev pub invariant-bytes : goal.invariant-bytes
invariant-bytes l = l.all ≡ list_all is_hex_digit (take l.byte-index l.bytes)
