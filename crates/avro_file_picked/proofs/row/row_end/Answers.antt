use Rattle.std.proofs.Common.{◌∙◌}
use Rattle.avro_schema.specs.View.{tree}
use Rattle.std.proofs.Common.{arith}
use Rattle.avro_file.specs.Blocks.{max_items}
use Rattle.avro_file_picked.proofs.Rows.{row_on, row_done}
use Rattle.avro_file_picked.proofs.row.row_end.Goals as goal

pub steps-preserved : goal.steps-preserved
steps-preserved c =
    let i = c.steps.invariant in
    let e = c.in_ok-here.ensures in (
      e.0,
      row_on (λ s. tree s.schema) c.args.steps.now c.steps.i c.index-steps-i.result c.steps.starts c.args.bytes.now
          max_items c.steps.here c.steps.left c.in_ok-here.here c.passed_end.new.left c.steps-test.true
          c.index-steps-i.is (omega (arith, c.steps-test.true, c.steps.auto.starts, c.requires)) i.1 e,
    )

pub returns : goal.returns
returns c = let i = c.steps.invariant in (
  i.0,
  c.steps.left,
  row_done (λ s. tree s.schema) c.args.steps.now c.steps.i c.steps.starts c.args.bytes.now max_items c.steps.here
      c.steps.left c.steps-test.false (c.steps.auto.starts ∙ c.requires) i.1,
)
