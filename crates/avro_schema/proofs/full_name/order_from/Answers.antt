use Rattle.std.proofs.Common.{◌<◌, refl, sym, ◌∙◌, length, drop, ◌+◌, arith}
use Rattle.std.specs.Ordering.{nat_cmp}
use Rattle.std.specs.Cmp.Lexicographic.{slice_cmp}
use Rattle.avro_schema.specs.Joined.{joined}
use Rattle.avro_schema.proofs.Parts.{next, decides, defers, ends}
use Rattle.avro_schema.proofs.full_name.order_from.Goals as goal

pub bytes-init : goal.bytes-init
bytes-init c = (
  omega (
    arith,
    c.min-both.ensures,
    c.length_of-first.ensures,
    c.length_of-second.ensures,
    c.requires.0,
    c.requires.1,
  ),
  refl,
)

pub returns-then-is_ne : goal.returns-then-is_ne
returns-then-is_ne c =
    let xs = joined c.args.left.now in
    let ys = joined c.args.right.now in
    let i = c.bytes.index in
    let a : i < length xs = omega (
      arith,
      c.bytes-test.true,
      c.min-both.ensures,
      c.length_of-first.ensures,
      c.length_of-second.ensures,
    ) in
    let b : i < length ys = omega (
      arith,
      c.bytes-test.true,
      c.min-both.ensures,
      c.length_of-first.ensures,
      c.length_of-second.ensures,
    ) in
    let turn = next xs ys i c.cmp-found.result a b (c.cmp-found.ensures ∙ (λ j. nat_cmp (c.byte_at.ensures j)
    (c.byte_at-in-bytes.ensures j))) in
    sym (decides c.cmp-found.result (slice_cmp nat_cmp (drop (i + 1) xs) (drop (i + 1) ys))
    (sym c.is_ne.ensures ∙ c.if-is_ne.true)) ∙ sym turn ∙ c.bytes.invariant.1

pub bytes-preserved : goal.bytes-preserved
bytes-preserved c =
    let xs = joined c.args.left.now in
    let ys = joined c.args.right.now in
    let i = c.bytes.index in
    let a : i < length xs = omega (
      arith,
      c.bytes-test.true,
      c.min-both.ensures,
      c.length_of-first.ensures,
      c.length_of-second.ensures,
    ) in
    let b : i < length ys = omega (
      arith,
      c.bytes-test.true,
      c.min-both.ensures,
      c.length_of-first.ensures,
      c.length_of-second.ensures,
    ) in
    let turn = next xs ys i c.cmp-found.result a b (c.cmp-found.ensures ∙ (λ j. nat_cmp (c.byte_at.ensures j)
    (c.byte_at-in-bytes.ensures j))) in (
      omega (arith, c.bytes-test.true),
      sym (defers c.cmp-found.result (slice_cmp nat_cmp (drop (i + 1) xs)
          (drop (i + 1) ys)) (sym c.is_ne.ensures ∙ c.if-is_ne.false)) ∙ sym turn ∙ c.bytes.invariant.1,
    )

pub returns : goal.returns
returns c =
    let xs = joined c.args.left.now in
    let ys = joined c.args.right.now in
    ends xs ys c.bytes.index c.cmp.result (c.cmp.ensures ∙ (λ j. nat_cmp (c.length_of-first.ensures j)
    (c.length_of-second.ensures j)))
    (omega (
      arith,
      c.bytes-test.false,
      c.bytes.invariant.0,
      c.min-both.ensures,
      c.length_of-first.ensures,
      c.length_of-second.ensures,
    ))
    ∙ c.bytes.invariant.1
