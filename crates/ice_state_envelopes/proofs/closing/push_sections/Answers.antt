use Rattle.ice_state_envelopes.proofs.Put.{one_put, all_put}
use Rattle.ice_state_envelopes.proofs.closing.push_sections.Goals as goal

pub sections-preserved : goal.sections-preserved
sections-preserved c = one_put c.args.sections.now c.sections.section-index _ c.args.bytes.items c.sections.bytes.items
    c.in_ok-bytes.bytes.items c.sections-test.true c.in_ok-bytes.ensures c.sections.invariant

pub returns : goal.returns
returns c = all_put c.args.sections.now c.sections.section-index c.args.bytes.items c.sections.bytes.items
    c.sections-test.false c.sections.invariant
