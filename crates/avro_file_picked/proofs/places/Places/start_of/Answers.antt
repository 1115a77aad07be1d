use Rattle.std.proofs.Common.{sym, ◌∙◌, arith}
use Rattle.avro_file_picked.proofs.Placed.{place_there, place_behind}
use Rattle.avro_file_picked.proofs.places.Places.start_of.Goals as goal

pub returns-then-step-len : goal.returns-then-step-len
returns-then-step-len c = c.index.ensures ∙ sym (place_there c.args.self.now.starts.items c.args.end c.args.step
    c.index.result.now (omega (arith, c.if-step-len.true, c.len.ensures, c.args.self.now.starts.ok)))

pub returns-else-step-len : goal.returns-else-step-len
returns-else-step-len c = sym (place_behind c.args.self.now.starts.items c.args.end c.args.step
    (omega (arith, c.if-step-len.false, c.len.ensures, c.args.self.now.starts.ok)))
