use Rattle.std.proofs.Common.{◌∙◌, [], ap, None, replicate, sym, subst, List, ℕ, Option, refl}
use Rattle.ice_state_bytes.specs.Bodies.{AreSaid, sections_of}
use Rattle.ice_state_bytes.specs.States.{with_sections}
use Rattle.ice_state_bytes.proofs.Bodies.{bodies_say, said_length}
use Rattle.ice_state_bytes.proofs.States.{parts_read}
use Rattle.ice_state_bytes.proofs.writing.state_bytes.Goals as goal

pub returns-clause-read : goal.returns-clause-read
returns-clause-read c =
    let scan = c.args.scan.now in
    let state = c.args.state.now in
    let bodies = c.deref.result.now in
    let all : AreSaid scan 0 state bodies =
    subst (λ (bs : List (Option (List ℕ))). AreSaid scan 0 state bs) (sym c.deref.ensures.value)
    c.in_ok-bodies.ensures.said in
    let say = bodies_say scan state bodies [] 0 refl all in
    let from = ap (λ n. with_sections scan (replicate n None) (sections_of 0 bodies)) c.requires in
    parts_read scan c.args.name.now c.in_ok-enveloped.field-0.items _ state c.in_ok-enveloped.ensures (record {
      named = refl;
      counted = said_length scan 0 state bodies all ∙ c.requires;
      said = sym from ∙ say;
    })
