use Rattle.std.proofs.Common.{ap}
use Rattle.avro_schema.specs.View.{tree}
use Rattle.avro_file.specs.Value.{Value}
use Rattle.avro_file.proofs.Steps.{ok_is}
use Rattle.avro_file_parts.specs.Parts.{Position}
use Rattle.std.proofs.Common.{◌∙◌, sym}
use Rattle.avro_file_picked.proofs.Values.{stood}
use Rattle.avro_file_picked.proofs.found.Found.datum.Goals as goal

pub returns-in-Ok : goal.returns-in-Ok
returns-in-Ok c = λ v is.
    let read = stood (tree c.args.self.schema.now) c.args.self.bytes.now v is in
    ap (λ (y : Value × Position). y.0) (ok_is _ _ (sym c.in-Ok.ensures ∙ read.1))
