use Rattle.std.proofs.Common.{◌≡◌, ◌++◌, ◌∷◌, [], map}
use Rattle.std.proofs.lemmas.Result.{err_from_is_err_and}
use Rattle.std.proofs.lemmas.List.{map_push}
use Rattle.ice_state_envelopes.specs.Envelopes.{shown, sections_at, whole}
use Rattle.ice_state_envelopes.proofs.Loop.{goes_on, ends, is_done}
use Rattle.ice_state_envelopes.proofs.opening.sections_of.Goals as goal

pub returns-in_err-section : goal.returns-in_err-section
returns-in_err-section c =
    let p = err_from_is_err_and c.from_residual.result c.from_residual.ensures.1 in
    rw (p.1, p.2) (λ other. ends (map shown c.sections.sections.items) c.args.count c.sections.counter
    c.sections.rest.now c.in_err-section.field-0.0 (whole (sections_at c.args.count c.args.bytes.now))
    c.sections-test.true c.in_err-section.ensures c.sections.invariant)

pub sections-preserved : goal.sections-preserved
sections-preserved c =
    let s = c.in_ok-section.section in
    let e : map shown c.push.new.self.items ≡ map shown c.sections.sections.items ++ shown s ∷ [] =
    rw c.in_ok-push.ensures.items (map_push _ c.sections.sections.items s) in
    rw e (goes_on (map shown c.sections.sections.items) c.args.count c.sections.counter c.sections.rest.now (shown s)
    c.in_ok-section.after.now (whole (sections_at c.args.count c.args.bytes.now)) c.sections-test.true
    c.in_ok-section.ensures c.sections.invariant)

pub returns : goal.returns
returns c = is_done (map shown c.sections.sections.items) c.args.count c.sections.counter c.sections.rest.now
    (whole (sections_at c.args.count c.args.bytes.now)) c.sections-test.false c.sections.invariant
