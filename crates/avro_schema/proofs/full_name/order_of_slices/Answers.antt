use Rattle.std.proofs.Common.{sym, ◌∙◌}
use Rattle.avro_schema.proofs.Parts.{past_same}
use Rattle.avro_schema.proofs.full_name.order_of_slices.Goals as goal

pub blocks-2-preserved : goal.blocks-2-preserved
blocks-2-preserved c = past_same 1024 c.blocks-2.first.now c.blocks-2.second.now c.blocks-2-test.true
    c.if-second-ge1024.true (sym c.eq.ensures ∙ c.if-eq.true) ∙ c.blocks-2.invariant
