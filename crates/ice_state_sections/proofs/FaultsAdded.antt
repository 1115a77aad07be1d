-- Faults that are put read back.
use Rattle.std.proofs.Common.{◌≡◌, ℕ, List, Ok, refl}
use Rattle.avro_schema.specs.declared.fault.SchemaFault.{SchemaFault}
use Rattle.avro_file.specs.declared.fault.AvroFault.{AvroFault}
use Rattle.ice_manifest_fields.specs.declared.fault.ManifestFault.{ManifestFault}
use Rattle.ice_state_sections.specs.Parts.{Read, number}
use Rattle.ice_state_sections.specs.Faults.{schema_fault, schema_fault_of, file_fault, file_fault_of, fault, fault_of}
use Rattle.ice_state_sections.specs.Written.{Adds}
use Rattle.ice_state_sections.proofs.Added.{kind_alone, kind_with}

pub schema_alone : (code : ℕ) (f : SchemaFault) (a b : List ℕ) → ((s : List ℕ) → schema_fault_of code s ≡ Ok (f, s))
    → Adds number code a b → Adds schema_fault f a b
unfolding schema_fault
schema_alone code f a b k p = kind_alone schema_fault schema_fault_of code f a b (λ s. refl) k p

pub schema_with : {A : Type 0} (code : ℕ) (read : List ℕ → Read A) (x : A) (f : SchemaFault) (a b c : List ℕ)
    → ((s rest : List ℕ) → read s ≡ Ok (x, rest) → schema_fault_of code s ≡ Ok (f, rest))
    → Adds number code a b → Adds read x b c → Adds schema_fault f a c
unfolding schema_fault
schema_with code read x f a b c k p q = kind_with schema_fault schema_fault_of code read x f a b c (λ s. refl) k p q

pub file_alone : (code : ℕ) (f : AvroFault) (a b : List ℕ) → ((s : List ℕ) → file_fault_of code s ≡ Ok (f, s))
    → Adds number code a b → Adds file_fault f a b
unfolding file_fault
file_alone code f a b k p = kind_alone file_fault file_fault_of code f a b (λ s. refl) k p

pub file_with : {A : Type 0} (code : ℕ) (read : List ℕ → Read A) (x : A) (f : AvroFault) (a b c : List ℕ)
    → ((s rest : List ℕ) → read s ≡ Ok (x, rest) → file_fault_of code s ≡ Ok (f, rest))
    → Adds number code a b → Adds read x b c → Adds file_fault f a c
unfolding file_fault
file_with code read x f a b c k p q = kind_with file_fault file_fault_of code read x f a b c (λ s. refl) k p q

pub fault_alone : (code : ℕ) (f : ManifestFault) (a b : List ℕ) → ((s : List ℕ) → fault_of code s ≡ Ok (f, s))
    → Adds number code a b → Adds fault f a b
unfolding fault
fault_alone code f a b k p = kind_alone fault fault_of code f a b (λ s. refl) k p

pub fault_with : {A : Type 0} (code : ℕ) (read : List ℕ → Read A) (x : A) (f : ManifestFault) (a b c : List ℕ)
    → ((s rest : List ℕ) → read s ≡ Ok (x, rest) → fault_of code s ≡ Ok (f, rest))
    → Adds number code a b → Adds read x b c → Adds fault f a c
unfolding fault
fault_with code read x f a b c k p q = kind_with fault fault_of code read x f a b c (λ s. refl) k p q
