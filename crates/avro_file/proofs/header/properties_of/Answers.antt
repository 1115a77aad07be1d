use Rattle.std.proofs.Common.{◌≡◌, List, ◌∷◌, [], ◌++◌, Ok}
use Rattle.std.proofs.lemmas.Result.{err_from_is_err_and}
use Rattle.avro_file_parts.specs.Place.{position_of}
use Rattle.avro_file.specs.Where.{wanted_of}
use Rattle.avro_file_parts.specs.Parts.{string_at}
use Rattle.avro_file.specs.Header.{Property, property_at}
use Rattle.avro_file.proofs.Loop.{values_on, values_fail, values_done}
use Rattle.avro_file.proofs.Properties.{wanted_on, key_fails, bytes_fail, property_read, wanted_fails, wanted_found}
use Rattle.avro_file.proofs.header.properties_of.Goals as goal

pub returns-in_err-key : goal.returns-in_err-key
returns-in_err-key c =
    let p = err_from_is_err_and c.from_residual.result c.from_residual.ensures.1 in
    let i = c.properties.invariant in
    rw (p.1, p.2) (wanted_fails c.in_err-key.field-0.0 (wanted_of c.args.wanted) _ (values_fail c.in_err-key.field-0.0
    property_at i.0 c.args.count c.properties.counter (position_of c.properties.here) _ c.properties-test.true
    (key_fails c.in_err-key.field-0.0 (position_of c.properties.here) c.in_err-key.ensures) i.2))

pub returns-in_err-value : goal.returns-in_err-value
returns-in_err-value c =
    let p = err_from_is_err_and c.from_residual-in_err-value.result c.from_residual-in_err-value.ensures.1 in
    let i = c.properties.invariant in
    rw (p.1, p.2) (wanted_fails c.in_err-value.field-0.0 (wanted_of c.args.wanted) _
    (values_fail c.in_err-value.field-0.0 property_at i.0 c.args.count c.properties.counter
    (position_of c.properties.here) _ c.properties-test.true (bytes_fail c.in_err-value.field-0.0
    (position_of c.properties.here) _ _ c.in_ok-key.ensures c.in_err-value.ensures) i.2))

pub properties-preserved : goal.properties-preserved
properties-preserved c =
    let i = c.properties.invariant in
    let here = c.properties.here in
    let key : string_at here.bytes.now ≡ Ok (c.as_bytes.result.now, c.in_ok-key.rest.now) = rw c.as_bytes.ensures.value
    c.in_ok-key.ensures in
    let one = property_read (position_of here) _ _ _ _ key c.in_ok-value.ensures in
    let more : List Property = (c.as_bytes.result.now, c.in_ok-value.value.now) ∷ [] in (
      i.0 ++ more,
      wanted_on (wanted_of c.args.wanted) (wanted_of c.properties.so_far) _ i.0 more i.1
          c.with_property-so_far.ensures,
      values_on property_at i.0 c.args.count c.properties.counter (position_of here) _
          _ _ c.properties-test.true one i.2,
    )

pub returns : goal.returns
returns c =
    let i = c.properties.invariant in
    wanted_found (wanted_of c.args.wanted) (wanted_of c.properties.so_far) i.0 _ (position_of c.properties.here)
    (values_done property_at i.0 c.args.count c.properties.counter (position_of c.properties.here) _
    c.properties-test.false i.2) i.1
