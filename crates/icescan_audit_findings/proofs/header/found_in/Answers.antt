use Rattle.std.proofs.Common.{◌≡◌, List, ◌∷◌, [], ◌++◌, Ok}
use Rattle.std.specs.Option.{option_copied}
use Rattle.std.proofs.lemmas.Result.{err_from_is_err_and}
use Rattle.avro_file_parts.specs.Place.{position_of}
use Rattle.avro_file_parts.specs.Parts.{string_at}
use Rattle.avro_file.specs.Header.{Property, property_at}
use Rattle.avro_file.proofs.Loop.{values_on, values_fail, values_done}
use Rattle.avro_file.proofs.Properties.{key_fails, bytes_fail, property_read}
use Rattle.icescan_audit_findings.proofs.Keyed.{found_fails, found_is, under_on}
use Rattle.icescan_audit_findings.proofs.header.found_in.Goals as goal

pub returns-in_err-name : goal.returns-in_err-name
returns-in_err-name c =
    let p = err_from_is_err_and c.from_residual.result c.from_residual.ensures.1 in
    let i = c.properties.invariant in
    rw (p.1, p.2) (found_fails c.in_err-name.field-0.0 c.args.key.now (option_copied c.args.found) _
    (values_fail c.in_err-name.field-0.0 property_at i.0 c.args.count c.properties.counter
    (position_of c.properties.here) _ c.properties-test.true
    (key_fails c.in_err-name.field-0.0 (position_of c.properties.here) c.in_err-name.ensures) i.2))

pub returns-in_err-value : goal.returns-in_err-value
returns-in_err-value c =
    let p = err_from_is_err_and c.from_residual-in_err-value.result c.from_residual-in_err-value.ensures.1 in
    let i = c.properties.invariant in
    rw (p.1, p.2) (found_fails c.in_err-value.field-0.0 c.args.key.now (option_copied c.args.found) _
    (values_fail c.in_err-value.field-0.0 property_at i.0 c.args.count c.properties.counter
    (position_of c.properties.here) _ c.properties-test.true (bytes_fail c.in_err-value.field-0.0
    (position_of c.properties.here) _ _ c.in_ok-name.ensures c.in_err-value.ensures) i.2))

pub properties-preserved : goal.properties-preserved
properties-preserved c =
    let i = c.properties.invariant in
    let here = c.properties.here in
    let name : string_at here.bytes.now ≡ Ok (c.as_bytes.result.now, c.in_ok-name.rest.now) = rw
    c.as_bytes.ensures.value c.in_ok-name.ensures in
    let one = property_read (position_of here) _ _ _ _ name c.in_ok-value.ensures in
    let more : List Property = (c.as_bytes.result.now, c.in_ok-value.value.now) ∷ [] in (
      i.0 ++ more,
      under_on c.args.key.now (option_copied c.args.found) (option_copied c.properties.so_far) _ i.0 more i.1
          c.with_property-so_far.ensures,
      values_on property_at i.0 c.args.count c.properties.counter (position_of here) _
          _ _ c.properties-test.true one i.2,
    )

pub returns : goal.returns
returns c =
    let i = c.properties.invariant in
    found_is c.args.key.now (option_copied c.args.found) (option_copied c.properties.so_far) i.0 _
    (position_of c.properties.here) (values_done property_at i.0 c.args.count c.properties.counter
    (position_of c.properties.here) _ c.properties-test.false i.2) i.1
