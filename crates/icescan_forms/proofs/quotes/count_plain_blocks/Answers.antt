use Rattle.std.proofs.Common.{◌≡◌, ◌+◌, ◌-◌, ℕ, take, drop, List, refl, arith}
use Rattle.std.proofs.Math.Seq.{take-add}
use Rattle.json.specs.Print.{escape}
use Rattle.icescan_forms.proofs.Escapes.{escape_append}
use Rattle.icescan_forms.proofs.quotes.count_plain_blocks.Goals as goal

-- plain bytes after plain bytes
further : (bytes : List ℕ) (n more : ℕ) → escape (take n bytes) ≡ take n bytes
    → escape (take more (drop n bytes)) ≡ take more (drop n bytes)
    → escape (take (n + more) bytes) ≡ take (n + more) bytes
further bytes n more before after =
    rw (take-add n more bytes, escape_append (take n bytes) (take more (drop n bytes)), before, after) refl

pub loop-count-preserved : goal.loop-count-preserved
loop-count-preserved c =
    let n : ℕ = c.loop-count.count in
    let sixteen : n + 16 - n ≡ 16 = omega arith in
    record {
      within = omega (arith, c.loop-count-test.true, c.loop-count.invariant.within);
      plain = further c.args.bytes.now n 16 c.loop-count.invariant.plain
          (rw sixteen at (c.are_plain.ensures c.if-are_plain.true));
    }
