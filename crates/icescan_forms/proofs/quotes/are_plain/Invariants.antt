use Rattle.std.proofs.Common.{◌≡◌, take, true}
use Rattle.json.specs.Print.{escape}
use Rattle.icescan_forms.proofs.quotes.are_plain.Given as goal

-- where all were plain the bytes so far stand as they are
abbrev pub invariant-bytes : goal.invariant-bytes
invariant-bytes l = record {
  plain : l.plain ≡ true → escape (take l.i l.bytes) ≡ take l.i l.bytes;
}
