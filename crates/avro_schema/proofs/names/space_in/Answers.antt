use Rattle.std.proofs.Common.{◌≡◌, suc, ◌-◌, ◌+◌, ◌<◌, length, ◌∙◌, rules, arith}
use Rattle.avro_schema.proofs.Walks.{dotted_step, dotted_end, space_there, no_space}
use Rattle.avro_schema.proofs.names.space_in.Goals as goal

pub bytes-init : goal.bytes-init
bytes-init c = (omega arith, dotted_end c.args.name.now _ (omega arith))

pub returns-then-name-end-eq46 : goal.returns-then-name-end-eq46
returns-then-name-end-eq46 c =
    let k : suc (c.bytes.end - 1) ≡ c.bytes.end = omega (arith, c.bytes-test.true) in
    space_there c.args.name.now (c.bytes.end - 1) (omega (arith, c.bytes.invariant.0, c.bytes-test.true))
    c.if-name-end-eq46.true (rw k c.bytes.invariant.1)

pub bytes-preserved : goal.bytes-preserved
bytes-preserved c =
    let k : c.bytes.end - 1 + 1 ≡ c.bytes.end = omega (arith, c.bytes-test.true) in
    let lt : c.bytes.end - 1 < length c.args.name.now = omega (arith, c.bytes.invariant.0, c.bytes-test.true) in (
      omega (arith, c.bytes.invariant.0),
      dotted_step c.args.name.now (c.bytes.end - 1) lt ∙ rw (k, c.bytes.invariant.1)
          (search (rules, c.if-name-end-eq46.false)),
    )

pub returns : goal.returns
returns c =
    let z : c.bytes.end ≡ 0 = omega (arith, c.bytes-test.false) in
    no_space c.args.name.now (rw z at c.bytes.invariant.1)
