use Rattle.avro_file.proofs.Leaves.{tree-Null, tree-Boolean, tree-Int, tree-Long, tree-Float, tree-Double, tree-Bytes}
use Rattle.avro_file.proofs.Leaves.{tree-String, tree-Fixed, tree-Enum}
use Rattle.avro_file.proofs.Places.{null_somewhere, boolean_somewhere, int_somewhere, long_somewhere, float_somewhere}
use Rattle.avro_file.proofs.Places.{double_somewhere, octets_somewhere, string_somewhere, fixed_somewhere}
use Rattle.avro_file.proofs.Places.{symbols_somewhere}
use Rattle.avro_file.proofs.quick.leaf_end.Goals as goal

pub returns-in-Null : goal.returns-in-Null
returns-in-Null c = λ left. rw (c.in-Null.is, tree-Null) (null_somewhere c.args.bytes.now c.args.at left c.requires)

pub returns-in-Boolean : goal.returns-in-Boolean
returns-in-Boolean c = rw (c.in-Boolean.is, tree-Boolean) (boolean_somewhere c.args.bytes.now c.args.at
    c.boolean_end.result c.boolean_end.ensures)

pub returns-in-Int : goal.returns-in-Int
returns-in-Int c = rw (c.in-Int.is, tree-Int) (int_somewhere c.args.bytes.now c.args.at c.int_end.result
    c.int_end.ensures)

pub returns-in-Long : goal.returns-in-Long
returns-in-Long c = rw (c.in-Long.is, tree-Long) (long_somewhere c.args.bytes.now c.args.at c.long_end.result
    c.long_end.ensures)

pub returns-in-Float : goal.returns-in-Float
returns-in-Float c = rw (c.in-Float.is, tree-Float) (float_somewhere c.args.bytes.now c.args.at c.run_end.result
    c.run_end.ensures)

pub returns-in-Double : goal.returns-in-Double
returns-in-Double c = rw (c.in-Double.is, tree-Double) (double_somewhere c.args.bytes.now c.args.at
    c.run_end-in-Double.result c.run_end-in-Double.ensures)

pub returns-in-Bytes : goal.returns-in-Bytes
returns-in-Bytes c = rw (c.in-Bytes.is, tree-Bytes c.in-Bytes.field-0) (octets_somewhere c.in-Bytes.field-0
    c.args.bytes.now c.args.at c.bytes_end.result c.bytes_end.ensures)

pub returns-in-String : goal.returns-in-String
returns-in-String c = rw (c.in-String.is, tree-String) (string_somewhere c.args.bytes.now c.args.at c.text_end.result
    c.text_end.ensures)

pub returns-in-Fixed : goal.returns-in-Fixed
returns-in-Fixed c = rw (c.in-Fixed.is, tree-Fixed c.in-Fixed.len c.in-Fixed.field-1) (fixed_somewhere c.in-Fixed.len
    c.in-Fixed.field-1 c.args.bytes.now c.args.at c.run_end-in-Fixed.result
    (rw c.from.ensures at c.run_end-in-Fixed.ensures))

pub returns-in-Enum : goal.returns-in-Enum
returns-in-Enum c = rw (c.in-Enum.is, tree-Enum c.in-Enum.count) (symbols_somewhere c.in-Enum.count c.args.bytes.now
    c.args.at c.symbol_end.result c.symbol_end.ensures)
