-- What a pair of a map of columns says, by what stands at its two fields.
use Rattle.std.proofs.Common.{◌≡◌, ℕ, ℤ, List, Result, Ok, Err, ap, ◌∙◌}
use Rattle.contract_words.specs.Outcome.{◌>>=◌}
use Rattle.avro_file.specs.Picking.{Typed}
use Rattle.ice_value.specs.Columns.{ColumnCount, ColumnBound}
use Rattle.ice_manifest_fields.specs.declared.fault.FieldFault.{FieldFault}
use Rattle.ice_manifest_fields.specs.declared.columns.ColumnMap.{ColumnMap}
use Rattle.ice_manifest_fields.specs.Fields.{int_at, long_at}
use Rattle.ice_manifest_fields.specs.Maps.{count_in, bytes_at, bound_in}

abbrev counted : ℤ → ℤ → Result ColumnCount FieldFault
counted k n = Ok (record { column = k; count = n })

abbrev count_behind : ColumnMap → Typed → ℤ → Result ColumnCount FieldFault
count_behind m x k = long_at m.said x >>= counted k

pub count_made : (m : ColumnMap) (x : Typed) (k n : ℤ) → Ok k ≡ int_at m.key x → Ok n ≡ long_at m.said x
    → Ok (record { column = k; count = n }) ≡ count_in m x
unfolding count_in
count_made m x k n key said = ap (λ (r : Result ℤ FieldFault). r >>= counted k) said
    ∙ ap (λ (r : Result ℤ FieldFault). r >>= count_behind m x) key

pub count_without_column : (m : ColumnMap) (x : Typed) (f : FieldFault) → Err f ≡ int_at m.key x → Err f ≡ count_in m x
unfolding count_in
count_without_column m x f key = ap (λ (r : Result ℤ FieldFault). r >>= count_behind m x) key

pub count_without_number : (m : ColumnMap) (x : Typed) (k : ℤ) (f : FieldFault) → Ok k ≡ int_at m.key x
    → Err f ≡ long_at m.said x → Err f ≡ count_in m x
unfolding count_in
count_without_number m x k f key said = ap (λ (r : Result ℤ FieldFault). r >>= counted k) said
    ∙ ap (λ (r : Result ℤ FieldFault). r >>= count_behind m x) key

abbrev bounded : ℤ → List ℕ → Result ColumnBound FieldFault
bounded k bs = Ok (record { column = k; bytes = bs })

abbrev bound_behind : ColumnMap → Typed → ℤ → Result ColumnBound FieldFault
bound_behind m x k = bytes_at m.said x >>= bounded k

pub bound_made : (m : ColumnMap) (x : Typed) (k : ℤ) (bs : List ℕ) → Ok k ≡ int_at m.key x → Ok bs ≡ bytes_at m.said x
    → Ok (record { column = k; bytes = bs }) ≡ bound_in m x
unfolding bound_in
bound_made m x k bs key said = ap (λ (r : Result (List ℕ) FieldFault). r >>= bounded k) said
    ∙ ap (λ (r : Result ℤ FieldFault). r >>= bound_behind m x) key

pub bound_without_column : (m : ColumnMap) (x : Typed) (f : FieldFault) → Err f ≡ int_at m.key x → Err f ≡ bound_in m x
unfolding bound_in
bound_without_column m x f key = ap (λ (r : Result ℤ FieldFault). r >>= bound_behind m x) key

pub bound_without_bytes : (m : ColumnMap) (x : Typed) (k : ℤ) (f : FieldFault) → Ok k ≡ int_at m.key x
    → Err f ≡ bytes_at m.said x → Err f ≡ bound_in m x
unfolding bound_in
bound_without_bytes m x k f key said = ap (λ (r : Result (List ℕ) FieldFault). r >>= bounded k) said
    ∙ ap (λ (r : Result ℤ FieldFault). r >>= bound_behind m x) key
