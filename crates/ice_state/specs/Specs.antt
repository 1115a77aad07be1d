-- The partition spec of an id: Apache Iceberg table spec, version 2, "Partition Specs".
use Rattle.std.specs.Prelude.{ℤ, Bool, List, Option}
use Rattle.std.specs.List.{find}
use Rattle.std.specs.Ordering.{int_eq, int_cmp, is_lt}
use Rattle.contract_words.specs.Sorting.{sorted}
use Rattle.ice_meta.specs.declared.spec.Spec.{Spec}

-- the first spec of this id
abbrev pub spec_of : List Spec → ℤ → Option Spec
spec_of specs id = find (λ spec. int_eq spec.id id) specs

-- in the order of their ids
abbrev pub id_before : Spec → Spec → Bool
id_before a b = is_lt (int_cmp a.id b.id)

abbrev pub by_id : List Spec → List Spec
by_id specs = sorted id_before specs
