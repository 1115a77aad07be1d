use Rattle.std.proofs.Common.{◌≡◌, ℕ, suc, List, length, Ok, sym, subst}
use Rattle.std.proofs.lemmas.List.Elements.{All-same}
use Rattle.avro_schema.specs.Tree.{long}
use Rattle.avro_file_parts.specs.Place.{position_of}
use Rattle.avro_file.specs.View.{long_pairs}
use Rattle.avro_file.specs.Reading.{datum_at, blocks_at}
use Rattle.avro_file.specs.Pairs.{pair}
use Rattle.ice_manifest_fields.specs.Places.{IsKey}
use Rattle.ice_manifest_values.proofs.ListedPairs.{front, longs_met}
use Rattle.ice_manifest_values.proofs.listed.listed_longs.Goals as goal

pub returns-in-Ok : goal.returns-in-Ok
returns-in-Ok c = λ map met lists is.
    let pairs = c.in-Ok.pairs in
    let keys = All-same IsKey pairs.items _ (sym c.as_slice.ensures.value) c.see_keys.ensures in
    let got = subst (λ (bytes : List ℕ). blocks_at (datum_at (pair long)) (suc (length bytes)) (front bytes)
    ≡ Ok (long_pairs pairs.items, position_of c.in-Ok.field-0-1)) c.bytes.ensures c.in-Ok.ensures in
    longs_met map c.args.found met pairs.items (position_of c.in-Ok.field-0-1) lists is got keys
