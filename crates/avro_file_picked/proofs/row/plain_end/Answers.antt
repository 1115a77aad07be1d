use Rattle.std.proofs.Common.{Some, ◌+◌}
use Rattle.avro_file.proofs.Leaves.{tree-Null, tree-Int, tree-Long}
use Rattle.avro_file.proofs.Places.{null_somewhere, int_somewhere, long_somewhere, short_int, short_long}
use Rattle.avro_file_picked.proofs.row.plain_end.Goals as goal

pub returns-in-Null : goal.returns-in-Null
returns-in-Null c = rw (c.in-Null.is, tree-Null) (null_somewhere c.args.bytes.now c.args.at c.args.left.now c.requires)

pub returns-in-Int : goal.returns-in-Int
returns-in-Int c = rw (c.in-Int.is, tree-Int) (int_somewhere c.args.bytes.now c.args.at (Some (c.args.at + 1))
    (short_int c.args.bytes.now c.args.at c.if-at-bytes.true c.if-bytes-at-lt128.true) c.args.left.now)

pub returns-in-Long : goal.returns-in-Long
returns-in-Long c = rw (c.in-Long.is, tree-Long) (long_somewhere c.args.bytes.now c.args.at (Some (c.args.at + 1))
    (short_long c.args.bytes.now c.args.at c.if-at-bytes-2.true c.if-bytes-at-lt128-2.true)
    c.args.left.now)
