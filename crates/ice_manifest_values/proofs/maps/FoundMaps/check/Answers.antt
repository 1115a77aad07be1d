use Rattle.std.proofs.Common.{◌≡◌, Result, Ok, Err, ap}
use Rattle.contract_words.specs.Outcome.{◌>>=◌}
use Rattle.ice_manifest_fields.specs.declared.fault.FieldFault.{FieldFault}
use Rattle.ice_manifest_fields.specs.declared.fault.ManifestFault.{ManifestFault}
use Rattle.ice_manifest_fields.specs.ColumnMaps.{upper_bounds}
use Rattle.ice_manifest_fields.specs.Fields.{there}
use Rattle.ice_manifest_fields.specs.Naming.{in_manifest}
use Rattle.ice_manifest_values.specs.Met.{bounds_in, columns_met, Checks}
use Rattle.ice_manifest_values.proofs.maps.FoundMaps.check.Goals as goal

-- what is made of the last that was read
last_checked : {A B : Type 0} (done : Result (Unit {0}) ManifestFault) (read : Result A FieldFault) (make : A → B)
    → Checks done read → Checks done (read >>= λ x. Ok (make x))
last_checked {A} {B} (Ok u) read make is = (make is.0, ap (λ (r : Result A FieldFault). r >>= λ x. Ok (make x)) is.1)
last_checked {A} {B} (Err e) (Ok x) make is = λ other. absurd (cc (is other))
last_checked {A} {B} (Err e) (Err f) make is = λ other.
    let told_so = is other in
    let same : in_manifest.of_field f ≡ e = cc in
    ap Err same

pub returns : goal.returns
unfolding columns_met
returns c = λ met are.
    let values = c.in_ok-check_counts.ensures met.values are.values are.guided.values in
    let nulls = c.in_ok-check_counts-2.ensures met.nulls are.nulls are.guided.nulls in
    let lower = c.in_ok-check_bounds.ensures met.lower are.lower are.guided.lower in
    rw (values.1, nulls.1, lower.1)
    (last_checked c.check_bounds-2.result (bounds_in upper_bounds (there met.upper)) _
    (c.check_bounds-2.ensures met.upper are.upper are.guided.upper))
