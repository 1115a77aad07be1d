use Rattle.std.proofs.Common.{◌≡◌, suc, ◌-◌, ◌+◌, ◌<◌, length, drop, ◌∙◌, rules, arith, length-drop}
use Rattle.std.proofs.lemmas.List.{take_all}
use Rattle.avro_schema.specs.Names.{last_of}
use Rattle.avro_schema.proofs.Walks.{dotted_step, dotted_end, last_there, no_last}
use Rattle.avro_schema.proofs.full_name.last_in.Goals as goal

pub bytes-init : goal.bytes-init
bytes-init c = (omega arith, dotted_end c.args.name.now _ (omega arith))

pub returns-then-name-start-eq46 : goal.returns-then-name-start-eq46
returns-then-name-start-eq46 c =
    let k : suc (c.bytes.start - 1) ≡ c.bytes.start = omega (arith, c.bytes-test.true) in
    let e : drop (suc (c.bytes.start - 1)) c.args.name.now ≡ last_of c.args.name.now =
    last_there c.args.name.now (c.bytes.start - 1) (omega (arith, c.bytes.invariant.0, c.bytes-test.true))
    c.if-name-start-eq46.true (rw k c.bytes.invariant.1) in
    take_all _ _ (omega (arith, length-drop c.bytes.start c.args.name.now)) ∙ rw k at e

pub bytes-preserved : goal.bytes-preserved
bytes-preserved c =
    let k : c.bytes.start - 1 + 1 ≡ c.bytes.start = omega (arith, c.bytes-test.true) in
    let lt : c.bytes.start - 1 < length c.args.name.now = omega (arith, c.bytes.invariant.0, c.bytes-test.true) in (
      omega (arith, c.bytes.invariant.0),
      dotted_step c.args.name.now (c.bytes.start - 1) lt ∙ rw (k, c.bytes.invariant.1)
          (search (rules, c.if-name-start-eq46.false)),
    )

pub returns : goal.returns
returns c =
    let z : c.bytes.start ≡ 0 = omega (arith, c.bytes-test.false) in
    no_last c.args.name.now (rw z at c.bytes.invariant.1)
