use Rattle.std.proofs.Common.{◌≡◌, ◌∙◌, ◌++◌, ◌+◌, [], ◌∷◌, suc, List, Some, None, add-one, ap, arith, get_or}
use Rattle.std.proofs.Common.{length, subst, sym}
use Rattle.ice_state_envelopes.specs.Envelopes.{Part, Parts, Rise}
use Rattle.ice_state_envelopes.proofs.Rising.{rise_wider}
use Rattle.ice_state_bytes.proofs.Bodies.{at_none, sections_more, sections_same}
use Rattle.ice_state_bytes.proofs.writing.enveloped.Goals.{in-Some+in_ok-push, in_default}
use Rattle.ice_state_bytes.proofs.writing.enveloped.Goals as goal

pub rows-preserved : goal.rows-preserved
rows-preserved c =
    let bodies = c.args.bodies.now in
    let i = c.rows.i in
    let name = c.args.name.now in
    let at : get_or bodies i None ≡ c.index-bodies-i.result =
    at_none bodies i c.index-bodies-i.result c.rows-test.true c.index-bodies-i.is in
    let made : List Part → Parts = λ ps. record { scan = name; rows = length bodies; sections = ps } in
    elim c.match-bodies-i.branch [
      | in-Some+in_ok-push w ↦
          let body = w.as_slice.result.now in
          let here : get_or bodies i None ≡ Some body = at ∙ w.in-Some.is ∙ ap Some (sym w.as_slice.ensures) in
          let same : suc i ≡ i + 1 = sym (add-one i) in
          record {
            is = w.envelope-is ∙ w.in_ok-push.ensures.ok
                ∙ ap (λ (p : Parts). record p { sections = p.sections ++ (i, body) ∷ [] }) c.rows.invariant.is
                ∙ ap made (sym (sections_more bodies i body c.rows-test.true here));
            rise = subst (λ (p : Parts). Rise 0 (i + 1) p.sections) (sym w.envelope-is)
                (subst (λ n. Rise 0 n w.push.new.self.sections) same w.in_ok-push.ensures.rise);
          }
      | in_default w ↦ record {
        is = w.envelope-is ∙ c.rows.invariant.is
            ∙ ap made (sym (sections_same bodies i c.rows-test.true (at ∙ w.in_default.is)));
        rise = subst (λ (p : Parts). Rise 0 (i + 1) p.sections) (sym w.envelope-is)
            (rise_wider 0 i (i + 1) c.rows.envelope.sections (omega arith) c.rows.invariant.rise);
      }
    ]
