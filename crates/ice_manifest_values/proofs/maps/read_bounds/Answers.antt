use Rattle.std.proofs.Common.{Option, Some, subst}
use Rattle.avro_schema.specs.declared.schema.Schema.{Schema}
use Rattle.avro_schema.specs.View.{tree}
use Rattle.avro_file.specs.declared.pairs.Second.TheVariants.{Bytes}
use Rattle.avro_file_picked.specs.declared.found.Found.{Found}
use Rattle.avro_file_picked.specs.Finding.{IsMet}
use Rattle.ice_manifest_values.specs.MapsRead.{ListsPairs}
use Rattle.ice_manifest_values.proofs.maps.read_bounds.Goals as goal

pub returns-in_ok-pairs-in-Some : goal.returns-in_ok-pairs-in-Some
returns-in_ok-pairs-in-Some c = λ met is leads.
    let m : IsMet (Some c.in-Some.found) met = subst (λ (o : Option Found). IsMet o met) c.in-Some.is is in
    let lists = subst (λ (s : Schema). ListsPairs c.args.map Bytes (tree s)) c.schema.ensures
    (c.lists_bytes.ensures c.if-lists_bytes.true) in
    c.in_ok-pairs-in-Some.ensures c.args.map met lists m
