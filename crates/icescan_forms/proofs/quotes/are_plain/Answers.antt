use Rattle.std.proofs.Common.{◌≡◌, ◌&&◌, Bool, true, false, refl, arith, rules, get_or}
use Rattle.json.specs.Run.{is_plain}
use Rattle.icescan_forms.proofs.Escapes.{plain_more}
use Rattle.icescan_forms.proofs.quotes.are_plain.Goals as goal

both_true : (a b : Bool) → (a && b) ≡ true → (a ≡ true) × (b ≡ true)
both_true true b h = (refl, h)
both_true false b h = absurd cc

pub bytes-preserved : goal.bytes-preserved
bytes-preserved c = record {
  plain = λ h.
      let both = both_true c.bytes.plain c.is_plain-plain.result h in
      let here : c.is_plain-plain.result ≡ true = both.1 in
      let plain : is_plain (get_or c.args.bytes.now c.bytes.i 0) ≡ true = search rules in
      plain_more c.args.bytes.now c.bytes.i (omega arith) plain (c.bytes.invariant.plain both.0);
}
