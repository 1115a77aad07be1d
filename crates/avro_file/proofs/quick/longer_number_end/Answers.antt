use Rattle.std.proofs.Common.{arith}
use Rattle.avro_file_parts.proofs.NumberPlaces.{no_groups, one_more}
use Rattle.avro_file.proofs.Places.{long_ends, int_ends, tenth_ends}
use Rattle.avro_file.proofs.quick.longer_number_end.Goals as goal

pub groups-init : goal.groups-init
groups-init c = no_groups c.args.bytes.now c.args.at c.requires

pub groups-preserved : goal.groups-preserved
groups-preserved c = one_more c.args.bytes.now c.args.at c.groups.counter c.groups.here c.groups.invariant
    c.groups-test.true c.if-here-bytes.false (omega (arith, c.type_inv.bytes c.groups.here))
    (omega (arith, c.if-bytes-here-lt128.false))

pub returns-then-bytes-here-lt128-clause-long : goal.returns-then-bytes-here-lt128-clause-long
returns-then-bytes-here-lt128-clause-long c = long_ends c.args.bytes.now c.args.at c.groups.counter c.groups.here
    c.groups.invariant c.groups-test.true c.if-here-bytes.false c.if-bytes-here-lt128.true

pub returns-then-bytes-here-lt128-clause-int : goal.returns-then-bytes-here-lt128-clause-int
returns-then-bytes-here-lt128-clause-int c =
    λ near. int_ends c.args.bytes.now c.args.at c.groups.counter c.groups.here c.groups.invariant
    (omega (arith, near, c.groups.invariant.place)) c.if-here-bytes.false c.if-bytes-here-lt128.true

pub returns-then-bytes-here-lt2-clause-long : goal.returns-then-bytes-here-lt2-clause-long
returns-then-bytes-here-lt2-clause-long c = tenth_ends c.args.bytes.now c.args.at c.groups.counter c.groups.here
    c.groups.invariant c.groups-test.false c.if-here-bytes-2.true c.if-bytes-here-lt2.true

pub returns-then-bytes-here-lt2-clause-int : goal.returns-then-bytes-here-lt2-clause-int
returns-then-bytes-here-lt2-clause-int c = λ near. absurd
    (omega (arith, near, c.groups.invariant.place, c.groups-test.false))
