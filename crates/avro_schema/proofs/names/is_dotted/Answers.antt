use Rattle.std.proofs.Common.{sym, ◌∙◌, refl, rules}
use Rattle.avro_schema.proofs.Walks.{dotted_step, dotted_end}
use Rattle.avro_schema.proofs.names.is_dotted.Goals as goal

pub returns-then-byte-eq46 : goal.returns-then-byte-eq46
returns-then-byte-eq46 c = sym (sym c.bytes.invariant ∙ dotted_step c.args.name.now c.bytes.byte-index c.bytes-test.true
    ∙ rw c.if-byte-eq46.true refl)

pub bytes-preserved : goal.bytes-preserved
bytes-preserved c = sym (sym c.bytes.invariant ∙ dotted_step c.args.name.now c.bytes.byte-index c.bytes-test.true ∙
    search (rules, c.if-byte-eq46.false))

pub returns : goal.returns
returns c = sym (dotted_end c.args.name.now c.bytes.byte-index c.bytes-test.false) ∙ c.bytes.invariant
