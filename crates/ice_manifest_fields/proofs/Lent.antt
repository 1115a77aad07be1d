-- Pairs that are lent as they lie.
use Rattle.std.proofs.Common.{◌≡◌, nat_eq, ℕ, ◌+◌, ℤ, Bool, true, false, ◌&&◌, List, [], ◌∷◌, ◌++◌, map, Option, Some}
use Rattle.std.proofs.Common.{None, Result, Ok, cond, refl, ap, ◌∙◌, arith, Bor}
use Rattle.std.proofs.lemmas.Bool.{eqb-true}
use Rattle.std.proofs.lemmas.List.{map_push}
use Rattle.std.proofs.lemmas.List.Elements.{All-weaker, recursion_from_All}
use Rattle.std.specs.List.{All, AllByRecursion}
use Rattle.std.specs.Ordering.{int_eq}
use Rattle.std.specs.Option.{option_eq}
use Rattle.avro_schema.specs.Tree as trees
use Rattle.avro_schema.specs.Tree.{Tree, null, boolean, int, long, float, double, octets, string, fixed, symbols}
use Rattle.avro_schema.specs.Tree.{structure, array, union, Fields, no_fields, field}
use Rattle.avro_file.specs.Value.{Value, Values, value, no_values, small, whole, run, values_of}
use Rattle.avro_file.specs.View.{pair_with, long_pairs, bytes_pairs}
use Rattle.avro_file.specs.Picking.{Typed, field_value, bare}
use Rattle.ice_value.specs.Pairs.{count_said, counts_said, bound_said, bounds_said}
use Rattle.ice_manifest_fields.specs.declared.columns.ColumnMap.{ColumnMap}
use Rattle.ice_manifest_fields.specs.Each.{each}
use Rattle.ice_manifest_fields.specs.Fields.{there, at, items_as, int_at}
use Rattle.ice_manifest_fields.specs.Maps.{count_in, count_of, bound_in, bound_of}
use Rattle.ice_manifest_fields.specs.Places.{place_from, place_of, lies_as_pairs, IsKey}
use Rattle.ice_manifest_fields.proofs.Steps.{beyond}

pub counts_pushed : (new old : List (ℤ × ℤ)) (p : ℤ × ℤ) → new ≡ old ++ p ∷ []
    → counts_said new ≡ counts_said old ++ count_said p ∷ []
counts_pushed new old p h = ap counts_said h ∙ map_push count_said old p

pub bounds_pushed : (new old : List (ℤ × Bor (List ℕ))) (p : ℤ × Bor (List ℕ)) → new ≡ old ++ p ∷ []
    → bounds_said new ≡ bounds_said old ++ bound_said p ∷ []
bounds_pushed new old p h = ap bounds_said h ∙ map_push bound_said old p

-- ---- where the fields of a pair stand

first_value : (n : ℕ) (id : ℤ) (fs : Fields) (v : Value) (vs : Values) → place_from n id fs ≡ Some n
    → (t : Tree) × (field_value id fs (value v vs) ≡ Some (t, v))
unfolding place_from
first_value n id no_fields v vs h = absurd cc
first_value n id (field own t fs) v vs h =
    let P : (b : Bool) → cond b (Some n) (place_from (n + 1) id fs) ≡ Some n
    → (t2 : Tree) × (cond b (Some (t, v)) (field_value id fs vs) ≡ Some (t2, v)) =
    λ b. elim b as (λ b2. cond b2 (Some n) (place_from (n + 1) id fs) ≡ Some n
    → (t2 : Tree) × (cond b2 (Some (t, v)) (field_value id fs vs) ≡ Some (t2, v))) [
      | true ↦ λ g. (t, refl)
      | false ↦ λ g. let past = beyond (n + 1) id fs n g in absurd (omega (arith, past))
    ] in
    P (option_eq int_eq own (Some id)) h

second_value : (id : ℤ) (fs : Fields) (v w : Value) (vs : Values) → place_of id fs ≡ Some 1
    → (t : Tree) × (field_value id fs (value v (value w vs)) ≡ Some (t, w))
unfolding place_from
second_value id no_fields v w vs h = absurd cc
second_value id (field own t fs) v w vs h =
    let P : (b : Bool) → cond b (Some 0) (place_from 1 id fs) ≡ Some 1
    → (t2 : Tree) × (cond b (Some (t, v)) (field_value id fs (value w vs)) ≡ Some (t2, w)) =
    λ b. elim b as (λ b2. cond b2 (Some 0) (place_from 1 id fs) ≡ Some 1
    → (t2 : Tree) × (cond b2 (Some (t, v)) (field_value id fs (value w vs)) ≡ Some (t2, w))) [
      | true ↦ λ g. absurd cc
      | false ↦ λ g. first_value 1 id fs w vs g
    ] in
    P (option_eq int_eq own (Some id)) h

bare_small : (t : Tree) (z : ℤ) → bare (t, small z) ≡ Some (t, small z)
bare_small null z = refl
bare_small boolean z = refl
bare_small int z = refl
bare_small long z = refl
bare_small float z = refl
bare_small double z = refl
bare_small (octets k) z = refl
bare_small string z = refl
bare_small (fixed n k) z = refl
bare_small (symbols n) z = refl
bare_small (structure fs) z = refl
bare_small (array t id k) z = refl
bare_small (trees.map t) z = refl
bare_small (union bs) z = refl

bare_whole : (t : Tree) (z : ℤ) → bare (t, whole z) ≡ Some (t, whole z)
bare_whole null z = refl
bare_whole boolean z = refl
bare_whole int z = refl
bare_whole long z = refl
bare_whole float z = refl
bare_whole double z = refl
bare_whole (octets k) z = refl
bare_whole string z = refl
bare_whole (fixed n k) z = refl
bare_whole (symbols n) z = refl
bare_whole (structure fs) z = refl
bare_whole (array t id k) z = refl
bare_whole (trees.map t) z = refl
bare_whole (union bs) z = refl

bare_run : (t : Tree) (bs : List ℕ) → bare (t, run bs) ≡ Some (t, run bs)
bare_run null bs = refl
bare_run boolean bs = refl
bare_run int bs = refl
bare_run long bs = refl
bare_run float bs = refl
bare_run double bs = refl
bare_run (octets k) bs = refl
bare_run string bs = refl
bare_run (fixed n k) bs = refl
bare_run (symbols n) bs = refl
bare_run (structure fs) bs = refl
bare_run (array t id k) bs = refl
bare_run (trees.map t) bs = refl
bare_run (union ts) bs = refl

-- the key, and what is said
key_at : (id : ℤ) (fs : Fields) (z : ℤ) (v : Value) → place_of id fs ≡ Some 0
    → (t : Tree) × (there (at id (structure fs, pair_with z v)) ≡ Some (t, small z))
key_at id fs z v h = let found = first_value 0 id fs (small z) (value v no_values) h in
    (found.0, rw (found.1, bare_small found.0 z) refl)

whole_at : (id : ℤ) (fs : Fields) (z n : ℤ) → place_of id fs ≡ Some 1
    → (t : Tree) × (there (at id (structure fs, pair_with z (whole n))) ≡ Some (t, whole n))
whole_at id fs z n h = let found = second_value id fs (small z) (whole n) no_values h in
    (found.0, rw (found.1, bare_whole found.0 n) refl)

run_at : (id : ℤ) (fs : Fields) (z : ℤ) (bs : List ℕ) → place_of id fs ≡ Some 1
    → (t : Tree) × (there (at id (structure fs, pair_with z (run bs))) ≡ Some (t, run bs))
run_at id fs z bs h = let found = second_value id fs (small z) (run bs) no_values h in
    (found.0, rw (found.1, bare_run found.0 bs) refl)

-- ---- what such pairs say

count_lent : (m : ColumnMap) (fs : Fields) (p : ℤ × ℤ) → place_of m.key fs ≡ Some 0 → place_of m.said fs ≡ Some 1
    → IsKey p → count_of m (structure fs, pair_with p.0 (whole p.1)) ≡ Ok (count_said p)
unfolding count_of count_in int_at
count_lent m fs p first second key =
    let k = key_at m.key fs p.0 (whole p.1) first in
    let n = whole_at m.said fs p.0 p.1 second in
    rw (k.1, key m.key, n.1) refl

bound_lent : (m : ColumnMap) (fs : Fields) (p : ℤ × Bor (List ℕ)) → place_of m.key fs ≡ Some 0
    → place_of m.said fs ≡ Some 1 → IsKey p → bound_of m (structure fs, pair_with p.0 (run p.1.now)) ≡ Ok (bound_said p)
unfolding bound_of bound_in int_at
bound_lent m fs p first second key =
    let k = key_at m.key fs p.0 (run p.1.now) first in
    let n = run_at m.said fs p.0 p.1.now second in
    rw (k.1, key m.key, n.1) refl

each_lent : {A X E : Type 0} (make : A → Value) (said : A → X) (says : Typed → Result X E) (t : Tree) → (xs : List A)
    → AllByRecursion (λ x. says (t, make x) ≡ Ok (said x)) xs
    → each says (items_as t (values_of (map make xs))) ≡ Ok (map said xs)
unfolding each
each_lent {A} {X} {E} make said says t [] h = refl
each_lent {A} {X} {E} make said says t (x ∷ xs) h = rw (h.0, each_lent make said says t xs h.1) refl

both : (a b : Bool) → (a && b) ≡ true → (a ≡ true) × (b ≡ true)
both true true h = (refl, refl)
both true false h = absurd cc
both false b h = absurd cc

stands_at : (place : Option ℕ) (n : ℕ) → option_eq nat_eq place (Some n) ≡ true → place ≡ Some n
stands_at None n h = absurd cc
stands_at (Some k) n h = ap Some (eqb-true k n h)

lies : (m : ColumnMap) (t : Tree) → lies_as_pairs m t ≡ true
    → (fs : Fields) × (t ≡ structure fs) × (place_of m.key fs ≡ Some 0) × (place_of m.said fs ≡ Some 1)
lies m (structure fs) h =
    let k = both (option_eq nat_eq (place_of m.key fs) (Some 0)) (option_eq nat_eq (place_of m.said fs) (Some 1)) h in
    (fs, refl, stands_at (place_of m.key fs) 0 k.0, stands_at (place_of m.said fs) 1 k.1)
lies m null h = absurd cc
lies m boolean h = absurd cc
lies m int h = absurd cc
lies m long h = absurd cc
lies m float h = absurd cc
lies m double h = absurd cc
lies m (octets k) h = absurd cc
lies m string h = absurd cc
lies m (fixed n k) h = absurd cc
lies m (symbols n) h = absurd cc
lies m (array t id k) h = absurd cc
lies m (trees.map t) h = absurd cc
lies m (union bs) h = absurd cc

pub counts_lent : (m : ColumnMap) (t : Tree) (pairs : List (ℤ × ℤ)) → lies_as_pairs m t ≡ true → All IsKey pairs
    → each (count_of m) (items_as t (values_of (long_pairs pairs))) ≡ Ok (counts_said pairs)
counts_lent m t pairs h keys =
    let s = lies m t h in
    rw (s.1)
    (each_lent (λ (p : ℤ × ℤ). pair_with p.0 (whole p.1)) count_said (count_of m) (structure s.0) pairs
    (recursion_from_All _ pairs (All-weaker IsKey _ (λ p key. count_lent m s.0 p s.2 s.3 key) pairs keys)))

pub bounds_lent : (m : ColumnMap) (t : Tree) (pairs : List (ℤ × Bor (List ℕ))) → lies_as_pairs m t ≡ true
    → All IsKey pairs → each (bound_of m) (items_as t (values_of (bytes_pairs pairs))) ≡ Ok (bounds_said pairs)
bounds_lent m t pairs h keys =
    let s = lies m t h in
    rw (s.1)
    (each_lent (λ (p : ℤ × Bor (List ℕ)). pair_with p.0 (run p.1.now)) bound_said (bound_of m) (structure s.0) pairs
    (recursion_from_All _ pairs (All-weaker IsKey _ (λ p key. bound_lent m s.0 p s.2 s.3 key) pairs keys)))
