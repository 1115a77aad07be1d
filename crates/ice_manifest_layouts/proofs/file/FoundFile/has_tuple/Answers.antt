use Rattle.std.proofs.Common.{pos, sym, ap, ◌∙◌}
use Rattle.avro_schema.specs.View.{tree}
use Rattle.avro_file_picked.specs.Finding.{is_structure}
use Rattle.ice_manifest_fields.specs.Fields.{at}
use Rattle.ice_manifest_layouts.specs.Seen.{file_seen}
use Rattle.ice_manifest_layouts.proofs.Shown.{record_there}
use Rattle.ice_manifest_layouts.proofs.file.FoundFile.has_tuple.Goals as goal

pub returns-in-Some : goal.returns-in-Some
returns-in-Some c = c.is_record.ensures ∙ ap (λ s. is_structure (tree s)) c.schema.ensures
    ∙ record_there c.in-Some.found (at (pos 102) (file_seen c.args.self.now)) c.in-Some.ensures
