use Rattle.std.proofs.lemmas.Result.{err_from_is_err_and}
use Rattle.ice_state_bytes.proofs.Steps.{below_end, none_read}
use Rattle.ice_state_bytes.proofs.reading.state_of_sections.Goals as goal

pub put_section-requires-clause-row : goal.put_section-requires-clause-row
put_section-requires-clause-row c =
    below_end 0 _ c.args.sections.now c.sections.section-index _ c.requires c.sections-test.true

pub returns-in_err-put_section-clause-exact : goal.returns-in_err-put_section-clause-exact
returns-in_err-put_section-clause-exact c =
    let p = err_from_is_err_and c.from_residual-in_err-put_section.result
    c.from_residual-in_err-put_section.ensures.1 in
    rw (p.1, p.2) (λ other. none_read c.args.scan.now c.args.sections.now c.sections.section-index _ c.sections.state
    c.in_err-put_section.field-0.0 _ c.sections-test.true (c.in_err-put_section.ensures.exact other)
    c.sections.invariant.rest)
