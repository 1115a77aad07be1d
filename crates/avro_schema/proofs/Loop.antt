-- Reading items one after the other, as the loops do.
use Rattle.std.proofs.Common.{◌≡◌, ◌≢◌, ℕ, zero, suc, ◌+◌, ◌≤◌, ◌<◌, ◌-◌, true, nat_lt, List, [], ◌∷◌, ◌++◌, length}
use Rattle.std.proofs.Common.{get_or, drop, Ok, Err, refl, sym, ◌∙◌, add-one, drop-cons, arith, rules}
use Rattle.std.proofs.Math.ListN.{drop_of_length-le}
use Rattle.serde_json.specs.declared.value.Value.{Value}
use Rattle.serde_json.specs.Data.{Data}
use Rattle.serde_json.specs.View.{view, items_view}
use Rattle.avro_schema.specs.declared.fault.SchemaFault.{SchemaFault}
use Rattle.avro_schema.specs.declared.fault.SchemaFault.TheVariants.{TooBig, Memory}
use Rattle.avro_schema.specs.declared.reading.Role.{Role}
use Rattle.avro_schema.specs.Reading.{Seen, Read, each_at, node_at, tree_at}

pub each_on : {A : Type 0} (read : List A → Data → Seen → Read A) (front : List A) (vs : List Value) (i : ℕ) (v : Value)
    (s : Seen) (x : A) (q : Seen) (total : Read (List A)) → i < length vs → v ≡ get_or vs i v
    → read front (view v) s ≡ Ok (x, q)
    → each_at read front (items_view (drop i vs)) s ≡ total
    → each_at read (front ++ x ∷ []) (items_view (drop (i + 1) vs)) q ≡ total
unfolding each_at
each_on {A} read front vs i v s x q total lt is h so_far =
    let k : drop i vs ≡ v ∷ drop (i + 1) vs = drop-cons vs i v lt ∙ rw (← is, add-one) refl in
    let one : each_at read front (items_view (drop i vs)) s ≡ each_at read (front ++ x ∷ [])
    (items_view (drop (i + 1) vs)) q = rw (k, h) refl in
    sym one ∙ so_far

pub each_fails : {A : Type 0} (g : SchemaFault) (read : List A → Data → Seen → Read A) (front : List A)
    (vs : List Value) (i : ℕ) (v : Value) (s : Seen) (total : Read (List A)) → i < length vs → v ≡ get_or vs i v
    → (g ≢ Memory → read front (view v) s ≡ Err g)
    → each_at read front (items_view (drop i vs)) s ≡ total → g ≢ Memory → total ≡ Err g
unfolding each_at
each_fails {A} g read front vs i v s total lt is h so_far ne =
    let k : drop i vs ≡ v ∷ drop (i + 1) vs = drop-cons vs i v lt ∙ rw (← is, add-one) refl in
    let one : each_at read front (items_view (drop i vs)) s ≡ Err g = rw (k, h ne) refl in
    sym so_far ∙ one

pub each_done : {A : Type 0} (read : List A → Data → Seen → Read A) (front : List A) (vs : List Value) (i : ℕ)
    (s : Seen) (total : Read (List A)) → length vs ≤ i → each_at read front (items_view (drop i vs)) s ≡ total
    → total ≡ Ok (front, s)
unfolding each_at
each_done {A} read front vs i s total le so_far =
    let k : drop i vs ≡ [] = drop_of_length-le vs le in
    let one : each_at read front (items_view (drop i vs)) s ≡ Ok (front, s) = rw k refl in
    sym so_far ∙ one

pub one_more : (n : ℕ) (at : Role) (space : List ℕ) (d : Data) (s : Seen) → 0 < n → 0 < s.left
    → tree_at n at space d s ≡ node_at (tree_at (n - 1)) (n - 1) at space d (record s { left = s.left - 1 })
unfolding tree_at
one_more zero at space d s some left = absurd (omega arith)
one_more (suc n) at space d s some left = let e : nat_lt 0 s.left ≡ true = search (rules, left) in let k : suc n - 1
    ≡ n = omega arith in rw (e, k) refl

pub no_level : (n : ℕ) (at : Role) (space : List ℕ) (d : Data) (s : Seen) → n ≡ 0 → tree_at n at space d s ≡ Err TooBig
unfolding tree_at
no_level zero at space d s none = refl
no_level (suc n) at space d s none = absurd (omega arith)

pub none_left : (n : ℕ) (at : Role) (space : List ℕ) (d : Data) (s : Seen) → s.left ≡ 0
    → tree_at n at space d s ≡ Err TooBig
unfolding tree_at
none_left zero at space d s none = refl
none_left (suc n) at space d s none = rw none refl
