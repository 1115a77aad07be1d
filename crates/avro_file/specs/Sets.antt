-- A text names a tree in one way: trees and faults can be told apart.
use Rattle.std.specs.Prelude.{◌≡◌, ℕ, zero, suc, ℤ, ◌⊎◌, refl}
use mathlib.Core.Logic.{inl, inr}
use Rattle.std.specs.Coded.{Coded, Coded-set, code_by, coded_ℕ, coded_ℤ, coded⊎, coded_option}
use Rattle.avro_schema.specs.declared.fault.SchemaFault.{SchemaFault}
use Rattle.avro_schema.specs.declared.fault.SchemaFault.TheVariants.{NotJson, UnknownType, UnknownName, Recursive}
use Rattle.avro_schema.specs.declared.fault.SchemaFault.TheVariants.{TooBig, FieldTwice, Memory, NameTwice}
use Rattle.avro_schema.specs.declared.schema.ArrayKind.{ArrayKind}
use Rattle.avro_schema.specs.declared.schema.ArrayKind.TheVariants as of_array
use Rattle.avro_schema.specs.declared.schema.BytesKind.{BytesKind}
use Rattle.avro_schema.specs.declared.schema.BytesKind.TheVariants as of_bytes
use Rattle.avro_schema.specs.Tree.{Tree, Tree-set}

abbrev number_of_bytes : BytesKind → ℕ
number_of_bytes of_bytes.Plain = 0
number_of_bytes of_bytes.Decimal = 1

abbrev bytes_of_number : ℕ → BytesKind
bytes_of_number zero = of_bytes.Plain
bytes_of_number (suc n) = of_bytes.Decimal

same_bytes : (k : BytesKind) → bytes_of_number (number_of_bytes k) ≡ k
same_bytes of_bytes.Plain = refl
same_bytes of_bytes.Decimal = refl

coded_bytes : Coded BytesKind
coded_bytes = code_by ℕ coded_ℕ number_of_bytes bytes_of_number same_bytes

abbrev number_of_array : ArrayKind → ℕ
number_of_array of_array.List = 0
number_of_array of_array.Map = 1

abbrev array_of_number : ℕ → ArrayKind
array_of_number zero = of_array.List
array_of_number (suc n) = of_array.Map

same_array : (k : ArrayKind) → array_of_number (number_of_array k) ≡ k
same_array of_array.List = refl
same_array of_array.Map = refl

coded_array : Coded ArrayKind
coded_array = code_by ℕ coded_ℕ number_of_array array_of_number same_array

-- an id, or the number of another fault
abbrev number_of_fault : SchemaFault → ℤ ⊎ ℕ
number_of_fault (FieldTwice id) = inl id
number_of_fault NotJson = inr 0
number_of_fault UnknownType = inr 1
number_of_fault UnknownName = inr 2
number_of_fault Recursive = inr 3
number_of_fault TooBig = inr 4
number_of_fault Memory = inr 5
number_of_fault NameTwice = inr 6

abbrev fault_of_number : ℤ ⊎ ℕ → SchemaFault
fault_of_number (inl id) = FieldTwice id
fault_of_number (inr zero) = NotJson
fault_of_number (inr (suc zero)) = UnknownType
fault_of_number (inr (suc (suc zero))) = UnknownName
fault_of_number (inr (suc (suc (suc zero)))) = Recursive
fault_of_number (inr (suc (suc (suc (suc zero))))) = TooBig
fault_of_number (inr (suc (suc (suc (suc (suc zero)))))) = Memory
fault_of_number (inr (suc (suc (suc (suc (suc (suc n))))))) = NameTwice

same_fault : (f : SchemaFault) → fault_of_number (number_of_fault f) ≡ f
same_fault (FieldTwice id) = refl
same_fault NotJson = refl
same_fault UnknownType = refl
same_fault UnknownName = refl
same_fault Recursive = refl
same_fault TooBig = refl
same_fault Memory = refl
same_fault NameTwice = refl

coded_fault : Coded SchemaFault
coded_fault = code_by (ℤ ⊎ ℕ) (coded⊎ coded_ℤ coded_ℕ) number_of_fault fault_of_number same_fault

pub fault_set : IsSet SchemaFault
fault_set = Coded-set coded_fault

pub tree_set : IsSet Tree
tree_set =
    Tree-set (Coded-set coded_bytes) (Coded-set coded_ℕ) (Coded-set (coded_option coded_ℤ)) (Coded-set coded_array)
