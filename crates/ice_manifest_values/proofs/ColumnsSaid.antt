-- What the maps of columns say one after the other, by what each of them does.
use Rattle.std.proofs.Common.{◌≡◌, List, Result, Ok, Err, refl, ap, ◌∙◌}
use Rattle.contract_words.specs.Outcome.{◌>>=◌}
use Rattle.ice_value.specs.Columns.{ColumnCount, ColumnBound}
use Rattle.ice_value.specs.declared.file_bounds.FileBounds.{FileBounds}
use Rattle.ice_manifest_fields.specs.declared.fault.FieldFault.{FieldFault}
use Rattle.ice_manifest_fields.specs.declared.fault.ManifestFault.{ManifestFault}
use Rattle.ice_manifest_fields.specs.ColumnMaps.{value_counts, null_value_counts, lower_bounds, upper_bounds}
use Rattle.ice_manifest_fields.specs.Fields.{there}
use Rattle.ice_manifest_fields.specs.Naming.{Naming, in_manifest, told}
use Rattle.ice_manifest_fields.proofs.Joining.{told_ok}
use Rattle.ice_manifest_values.specs.Met.{MapsMet, counts_in, bounds_in, columns_met}

then_read : {A B E : Type 0} (named : Naming E) (r : Result A FieldFault) (f : A → Result B FieldFault) (x : A)
    → told named r ≡ Ok x → told named (r >>= f) ≡ told named (f x)
then_read {A} named r f x is = ap (λ (s : Result A FieldFault). told named (s >>= f)) (told_ok named r x is)

then_at_fault : {A B E : Type 0} (named : Naming E) (r : Result A FieldFault) (f : A → Result B FieldFault) (e : E)
    → told named r ≡ Err e → told named (r >>= f) ≡ Err e
then_at_fault named (Ok y) f e is = absurd cc
then_at_fault named (Err g) f e is = let same : named.of_field g ≡ e = cc in rw same refl

abbrev with_upper : List ColumnCount → List ColumnCount → List ColumnBound → List ColumnBound
    → Result FileBounds FieldFault
with_upper v n l u = Ok (record { value_counts = v; null_counts = n; lower_bounds = l; upper_bounds = u })

abbrev with_lower : MapsMet → List ColumnCount → List ColumnCount → List ColumnBound → Result FileBounds FieldFault
with_lower met v n l = bounds_in upper_bounds (there met.upper) >>= with_upper v n l

abbrev with_nulls : MapsMet → List ColumnCount → List ColumnCount → Result FileBounds FieldFault
with_nulls met v n = bounds_in lower_bounds (there met.lower) >>= with_lower met v n

abbrev with_values : MapsMet → List ColumnCount → Result FileBounds FieldFault
with_values met v = counts_in null_value_counts (there met.nulls) >>= with_nulls met v

values_read : (met : MapsMet) (v : List ColumnCount)
    → told in_manifest (counts_in value_counts (there met.values)) ≡ Ok v
    → told in_manifest (columns_met met) ≡ told in_manifest (with_values met v)
unfolding columns_met
values_read met v a = then_read in_manifest (counts_in value_counts (there met.values)) (with_values met) v a

nulls_read : (met : MapsMet) (v n : List ColumnCount)
    → told in_manifest (counts_in value_counts (there met.values)) ≡ Ok v
    → told in_manifest (counts_in null_value_counts (there met.nulls)) ≡ Ok n
    → told in_manifest (columns_met met) ≡ told in_manifest (with_nulls met v n)
nulls_read met v n a b = values_read met v a
    ∙ then_read in_manifest (counts_in null_value_counts (there met.nulls)) (with_nulls met v) n b

lower_read : (met : MapsMet) (v n : List ColumnCount) (l : List ColumnBound)
    → told in_manifest (counts_in value_counts (there met.values)) ≡ Ok v
    → told in_manifest (counts_in null_value_counts (there met.nulls)) ≡ Ok n
    → told in_manifest (bounds_in lower_bounds (there met.lower)) ≡ Ok l
    → told in_manifest (columns_met met) ≡ told in_manifest (with_lower met v n l)
lower_read met v n l a b c = nulls_read met v n a b
    ∙ then_read in_manifest (bounds_in lower_bounds (there met.lower)) (with_lower met v n) l c

pub columns_read : (met : MapsMet) (v n : List ColumnCount) (l u : List ColumnBound)
    → told in_manifest (counts_in value_counts (there met.values)) ≡ Ok v
    → told in_manifest (counts_in null_value_counts (there met.nulls)) ≡ Ok n
    → told in_manifest (bounds_in lower_bounds (there met.lower)) ≡ Ok l
    → told in_manifest (bounds_in upper_bounds (there met.upper)) ≡ Ok u
    → told in_manifest (columns_met met)
    ≡ Ok (record { value_counts = v; null_counts = n; lower_bounds = l; upper_bounds = u })
columns_read met v n l u a b c d = lower_read met v n l a b c
    ∙ then_read in_manifest (bounds_in upper_bounds (there met.upper)) (with_upper v n l) u d

pub nulls_at_fault : (met : MapsMet) (v : List ColumnCount) (e : ManifestFault)
    → told in_manifest (counts_in value_counts (there met.values)) ≡ Ok v
    → told in_manifest (counts_in null_value_counts (there met.nulls)) ≡ Err e
    → told in_manifest (columns_met met) ≡ Err e
nulls_at_fault met v e a b = values_read met v a
    ∙ then_at_fault in_manifest (counts_in null_value_counts (there met.nulls)) (with_nulls met v) e b

pub lower_at_fault : (met : MapsMet) (v n : List ColumnCount) (e : ManifestFault)
    → told in_manifest (counts_in value_counts (there met.values)) ≡ Ok v
    → told in_manifest (counts_in null_value_counts (there met.nulls)) ≡ Ok n
    → told in_manifest (bounds_in lower_bounds (there met.lower)) ≡ Err e
    → told in_manifest (columns_met met) ≡ Err e
lower_at_fault met v n e a b c = nulls_read met v n a b
    ∙ then_at_fault in_manifest (bounds_in lower_bounds (there met.lower)) (with_lower met v n) e c

pub upper_at_fault : (met : MapsMet) (v n : List ColumnCount) (l : List ColumnBound) (e : ManifestFault)
    → told in_manifest (counts_in value_counts (there met.values)) ≡ Ok v
    → told in_manifest (counts_in null_value_counts (there met.nulls)) ≡ Ok n
    → told in_manifest (bounds_in lower_bounds (there met.lower)) ≡ Ok l
    → told in_manifest (bounds_in upper_bounds (there met.upper)) ≡ Err e
    → told in_manifest (columns_met met) ≡ Err e
upper_at_fault met v n l e a b c d = lower_read met v n l a b c
    ∙ then_at_fault in_manifest (bounds_in upper_bounds (there met.upper)) (with_upper v n l) e d
