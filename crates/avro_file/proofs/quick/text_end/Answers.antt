use Rattle.std.proofs.lemmas.Str.{IsUtf8-from_ascii}
use Rattle.avro_file.proofs.Places.{text_ends}
use Rattle.avro_file.proofs.quick.text_end.Goals as goal

pub returns-in-Ok : goal.returns-in-Ok
returns-in-Ok c = text_ends c.args.bytes.now c.args.at _ c.run_within-start.result.1 (c.run_within-start.ensures
    c.if-end-eq0.false).1 c.in-Ok.ensures.cases.1

pub returns-then-is_ascii_run : goal.returns-then-is_ascii_run
returns-then-is_ascii_run c = text_ends c.args.bytes.now c.args.at _ c.run_within-start.result.1
    (c.run_within-start.ensures c.if-end-eq0.false).1 (IsUtf8-from_ascii _ (c.is_ascii_run.ensures
    c.if-is_ascii_run.true))
