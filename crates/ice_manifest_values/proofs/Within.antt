-- What stands at the front of bytes, and within it.
use Rattle.std.proofs.Common.{◌≡◌, ◌<◌, ◌≤◌, ◌<ℤ◌, ℕ, ℤ, pos, true, false, List, [], length, get_or, Some, None, Ok}
use Rattle.std.proofs.Common.{Err, rules, refl, sym, ap, ◌∙◌, arith}
use Rattle.avro_schema.specs.declared.schema.Schema.{Schema, Null, the_lemmas}
use Rattle.avro_schema.specs.Tree.{Tree, structure, Fields}
use Rattle.avro_schema.specs.View.{tree}
use Rattle.avro_file_parts.specs.Number.{long_at}
use Rattle.avro_file_parts.specs.Parts.{Position}
use Rattle.avro_file.specs.Value.{Value}
use Rattle.avro_file.specs.Reading.{branch_at}
use Rattle.avro_file.specs.Blocks.{max_items, StandsAt}
use Rattle.avro_file.specs.Picking.{pick}
use Rattle.avro_file.proofs.Views.{branch_trees, branch_there}
use Rattle.avro_file_picked.specs.Finding.{branches_in, has_null_only, is_structure, within}
use Rattle.avro_file_picked.proofs.Values.{structure_taken, chosen_taken, stands, stood}
use Rattle.avro_file_picked.proofs.FieldPaths.{null_at_end, present_at_end, pick_chosen, branch_chosen}
use Rattle.avro_file_picked.proofs.FieldPaths.{chosen_read, union_of_branches}
use Rattle.avro_file_picked.proofs.FieldPaths.{number_fails, negative_fails, past_fails}
use Rattle.avro_file_parts.specs.declared.refusal.Refusal.{Refusal}
use Rattle.ice_manifest_fields.specs.Fields.{there, record_of}
use Rattle.ice_manifest_values.proofs.Shown.{none_there}

pub other_null : (s : Schema) → (s ≡ Null → ⊥) → has_null_only (tree s) ≡ false
other_null Null n = absurd (n refl)
other_null s n = search (rules, the_lemmas)

pub nothing_there : (t : Tree) (bytes : List ℕ) (v : Value) → has_null_only t ≡ true → StandsAt t bytes v
    → there (within [] (t, v)) ≡ None
nothing_there t bytes v is at =
    let read = stood t bytes v at in
    none_there (within [] (t, v)) (null_at_end t (record { bytes = bytes; left = max_items }) read.0 v is read.1)

pub something_there : (t : Tree) (bytes : List ℕ) (v : Value) → has_null_only t ≡ false → StandsAt t bytes v
    → there (within [] (t, v)) ≡ Some (t, v)
something_there t bytes v is at =
    let read = stood t bytes v at in
    ap there (present_at_end t (record { bytes = bytes; left = max_items }) read.0 v is read.1)

-- ---- unions

pub number_never_fails : (t : Tree) (ss : List Schema) (bytes : List ℕ) (v : Value) (f : Refusal)
    → branches_in t ≡ Some (branch_trees ss) → long_at bytes ≡ Err f → StandsAt t bytes v → ⊥
number_never_fails t ss bytes v f is number at =
    let read = stood t bytes v at in
    number_fails t (branch_trees ss) (record { bytes = bytes; left = max_items }) read.0 v f is number read.1

pub never_negative : (t : Tree) (ss : List Schema) (bytes rest : List ℕ) (v : Value) (z : ℤ)
    → branches_in t ≡ Some (branch_trees ss) → long_at bytes ≡ Ok (z, rest) → z <ℤ pos 0 → StandsAt t bytes v → ⊥
never_negative t ss bytes rest v z is number negative at =
    let read = stood t bytes v at in
    let chosen = chosen_read t (branch_trees ss) (record { bytes = bytes; left = max_items }) read.0 v z rest is
    number read.1 in
    negative_fails (branch_at (branch_trees ss)) z (record { bytes = rest; left = max_items }) read.0 v negative chosen

pub never_past : (t : Tree) (ss : List Schema) (n : ℕ) (bytes rest : List ℕ) (v : Value)
    → branches_in t ≡ Some (branch_trees ss) → long_at bytes ≡ Ok (pos n, rest) → length ss ≤ n → StandsAt t bytes v → ⊥
never_past t ss n bytes rest v is number le at =
    let read = stood t bytes v at in
    let chosen = chosen_read t (branch_trees ss) (record { bytes = bytes; left = max_items }) read.0 v (pos n) rest is
    number read.1 in
    past_fails ss n (record { bytes = rest; left = max_items }) read.0 v le chosen

-- the value of the branch that a union chose
pub chosen_there : (t : Tree) (ss : List Schema) (n : ℕ) (d : Schema) (bytes rest : List ℕ) (v : Value)
    → branches_in t ≡ Some (branch_trees ss) → n < length ss → long_at bytes ≡ Ok (pos n, rest) → StandsAt t bytes v
    → (w : Value) × StandsAt (tree (get_or ss n d)) rest w × (pick [] (t, v) ≡ within [] (tree (get_or ss n d), w))
chosen_there t ss n d bytes rest v is lt number at =
    let read = stood t bytes v at in
    let behind : Position = record { bytes = rest; left = max_items } in
    let chosen = chosen_read t (branch_trees ss) (record { bytes = bytes; left = max_items }) read.0 v (pos n) rest is
    number read.1 in
    let taken = chosen_taken (branch_at (branch_trees ss)) n behind v read.0 chosen in
    let one = sym (branch_there ss n d behind lt) ∙ taken.1 in
    let picked = pick_chosen [] (branch_trees ss) n v (tree (get_or ss n d)) taken.0 taken.2
    (branch_chosen ss n d taken.0 lt) in (
      taken.0,
      stands (tree (get_or ss n d)) behind taken.0 read.0 (omega arith) one,
      ap (λ (u : Tree). pick [] (u, v)) (union_of_branches t (branch_trees ss) is) ∙ picked,
    )

-- ---- records

pub other_record : (s : Schema) → is_structure (tree s) ≡ false → (v : Value) → record_of (Some (tree s, v)) ≡ None
other_record s is v = no_record (tree s) v is where
  no_record : (t : Tree) (w : Value) → is_structure t ≡ false → record_of (Some (t, w)) ≡ None
  no_record (structure fs) w is = absurd cc
  no_record t w is = search rules

pub record_there : (fs : Fields) (bytes : List ℕ) (v : Value) → StandsAt (structure fs) bytes v
    → record_of (Some (structure fs, v)) ≡ Some (structure fs, v)
record_there fs bytes v at =
    let read = stood (structure fs) bytes v at in
    let taken = structure_taken fs (record { bytes = bytes; left = max_items }) v read.0 read.1 in
    rw taken.2 refl
