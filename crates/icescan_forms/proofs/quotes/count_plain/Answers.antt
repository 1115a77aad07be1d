use Rattle.std.proofs.Common.{arith, rules, ◌<◌, ◌≡◌, get_or, length, true}
use Rattle.json.specs.Run.{is_plain}
use Rattle.icescan_forms.proofs.Escapes.{plain_more}
use Rattle.icescan_forms.proofs.quotes.count_plain.Goals as goal

pub loop-count-preserved : goal.loop-count-preserved
loop-count-preserved c =
    let l : c.loop-count.count < length c.args.bytes.now = omega arith in
    let plain : is_plain (get_or c.args.bytes.now c.loop-count.count 0) ≡ true = search rules in
    record {
      within = omega arith;
      plain = plain_more c.args.bytes.now c.loop-count.count l plain c.loop-count.invariant.plain;
    }
