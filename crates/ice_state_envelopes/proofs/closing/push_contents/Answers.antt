use Rattle.std.proofs.Common.{length, map, arith}
use Rattle.std.proofs.lemmas.Result.{IfOk-weaker}
use Rattle.ice_state_envelopes.specs.Envelopes.{shown}
use Rattle.ice_state_envelopes.proofs.Put.{contents_put}
use Rattle.ice_state_envelopes.proofs.closing.push_contents.Goals as goal

pub returns : goal.returns
returns c = IfOk-weaker c.push_sections.result _ _ (λ all puts. contents_put c.args.scan.now c.args.rows
    (length c.args.sections.now) (map shown c.args.sections.now) c.args.bytes.items c.in_ok-bytes.bytes.items
    c.in_ok-bytes-2.bytes.items c.in_ok-bytes-3.bytes.items all.items
    (omega (arith, c.fits-scan, c.told-scan)) c.requires
    c.in_ok-bytes.ensures c.in_ok-bytes-2.ensures c.in_ok-bytes-3.ensures puts) c.push_sections.ensures
