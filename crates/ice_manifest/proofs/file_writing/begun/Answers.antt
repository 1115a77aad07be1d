use Rattle.std.proofs.Common.{◌∙◌, ap}
use Rattle.avro_schema.specs.Texts.{schema_of}
use Rattle.avro_file.specs.Property.{shown_properties}
use Rattle.ice_manifest.proofs.WrittenFiles.{of_tree, never_refused}
use Rattle.ice_manifest.proofs.file_writing.begun.Goals as goal

pub returns-in-Ok-clause-given : goal.returns-in-Ok-clause-given
returns-in-Ok-clause-given c = λ t named.
    let b = c.in-Ok.ensures.begun in
    let same = c.as_bytes.ensures.value in
    of_tree c.in-Ok.writer c.as_bytes.result.now c.args.schema.now (shown_properties c.args.metadata.now) b.0 t b.1
    (ap schema_of same ∙ named) same b.2

pub unreachable-requires : goal.unreachable-requires
unreachable-requires c = never_refused c.as_bytes.result.now c.requires.named.0 c.in-Err.fault
    (ap schema_of c.as_bytes.ensures.value ∙ c.requires.named.1) (c.in-Err.ensures.refused c.in_default.not-Memory)
