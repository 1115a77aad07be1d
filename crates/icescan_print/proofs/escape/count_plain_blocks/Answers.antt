use Rattle.std.proofs.Common.{◌≡◌, ◌+◌, ◌-◌, ℕ, take, drop, List, refl, arith}
use Rattle.std.proofs.Math.Seq.{take-add}
use Rattle.std.proofs.lemmas.Grind.{flat_map-append}
use Rattle.icescan_print.specs.Escaping.{escaped_byte, escaped}
use Rattle.icescan_print.proofs.escape.count_plain_blocks.Goals as goal

-- plain bytes after plain bytes
further : (bytes : List ℕ) (n more : ℕ) → escaped (take n bytes) ≡ take n bytes
    → escaped (take more (drop n bytes)) ≡ take more (drop n bytes)
    → escaped (take (n + more) bytes) ≡ take (n + more) bytes
further bytes n more before after = rw (
  take-add n more bytes,
  flat_map-append escaped_byte (take n bytes)
      (take more (drop n bytes)),
  before,
  after,
) refl

pub loop-count-preserved : goal.loop-count-preserved
loop-count-preserved c =
    let n : ℕ = c.loop-count.count in
    let sixteen : n + 16 - n ≡ 16 = omega arith in
    record {
      within = omega (arith, c.loop-count-test.true, c.loop-count.invariant.within);
      plain = further c.args.bytes.now n 16 c.loop-count.invariant.plain
          (rw sixteen at (c.has_escaped.ensures c.if-not-has_escaped.true));
    }
