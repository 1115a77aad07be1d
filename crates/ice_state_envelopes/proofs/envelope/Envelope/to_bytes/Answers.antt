use Rattle.std.proofs.Common.{◌≡◌, ℕ, List, ◌++◌, Ok, ap, ◌∙◌}
use Rattle.std.proofs.lemmas.Result.{IfOk-weaker}
use Rattle.sha2.specs.Sha256.{sha256}
use Rattle.ice_state_envelopes.specs.Envelopes.{Parts, contents_at, this_version}
use Rattle.ice_state_envelopes.proofs.Put.{parts_again}
use Rattle.ice_state_envelopes.proofs.envelope.Envelope.to_bytes.Goals as goal

pub returns : goal.returns
returns c =
    let put = c.in_ok-bytes-2.ensures in
    let here : contents_at put.0 ≡ Ok c.args.self.now =
    (rw c.deref.ensures.value at put.2) ∙ ap (λ (p : Parts). Ok p) c.self.view_is in
    let begun : c.in_ok-bytes-2.bytes.items ≡ this_version ++ put.0 =
    put.1 ∙ ap (λ (t : List ℕ). t ++ put.0)
    (c.in_ok-bytes.ensures ∙ ap (λ (t : List ℕ). t ++ this_version) c.new.ensures.items) in
    IfOk-weaker c.with_digest.result _ _ (λ all is. parts_again put.0 all.items c.args.self.now here
    (is ∙ ap (λ (t : List ℕ). t ++ sha256 t) begun)) c.with_digest.ensures
