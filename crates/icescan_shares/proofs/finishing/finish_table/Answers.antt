use Rattle.icescan_shares.proofs.finishing.finish_table.Goals as goal

pub returns : goal.returns
returns g c = record {
  given = record {
    name = c.in_ok-name.field-0.name;
    scan = c.in_ok-name.field-0.scan;
    of_request = c.in_ok-name.ensures.given;
    content = c.in_ok-state.state;
    of_states = c.in_ok-state.ensures.given;
    is = c.in_ok-into_plan.ensures.outcome;
  };
}
