use Rattle.icescan_audit_findings.proofs.ColumnsTold.{bounds_at, counts_at}
use Rattle.icescan_audit_findings.proofs.columns.file_said.Goals as goal

pub returns : goal.returns
returns c =
    let ids = c.args.ids.now in
    let bounds = c.args.bounds.now in
    record {
      values_at = c.in_ok-last_said.ensures.0;
      nulls_at = c.in_ok-last_said-2.ensures.0;
      lower_at = c.in_ok-last_said-3.ensures.0;
      upper_at = c.in_ok-last_said-4.ensures.0;
      values = counts_at ids c.in_ok-last_said.field-0.items c.pairs.result.now bounds.value_counts c.pairs.ensures
          c.in_ok-last_said.ensures.1;
      nulls = counts_at ids c.in_ok-last_said-2.field-0.items c.pairs-2.result.now bounds.null_counts c.pairs-2.ensures
          c.in_ok-last_said-2.ensures.1;
      lower = bounds_at ids c.in_ok-last_said-3.field-0.items c.pairs-3.result.now bounds.lower_bounds
          c.pairs-3.ensures c.in_ok-last_said-3.ensures.1;
      upper = bounds_at ids c.in_ok-last_said-4.field-0.items c.pairs-4.result.now bounds.upper_bounds
          c.pairs-4.ensures c.in_ok-last_said-4.ensures.1;
    }
