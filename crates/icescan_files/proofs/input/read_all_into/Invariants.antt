use Rattle.std.proofs.Common.{◌≤◌, ◌*◌, length, take, vec_items, vec_len}
use Rattle.std.specs.Io.KnownBytes.{Consumes}
use Rattle.icescan_files.proofs.input.read_all_into.Given as goal

abbrev pub invariant-loop-turn : goal.invariant-loop-turn
invariant-loop-turn g l = record {
  taken : Consumes (g.R.Read.remaining l.fn.reader) (g.R.Read.remaining l.reader) (take l.filled l.bytes.items);
  within : l.filled ≤ vec_len l.bytes;
  few : l.filled ≤ l.turn * 65536;
}
