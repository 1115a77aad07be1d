-- What the steps of writing a value leave.
use Rattle.std.proofs.Common.{◌≡◌, ℕ, zero, suc, ◌+◌, ◌-◌, ◌*◌, ◌/◌, ◌%◌, ◌^◌, ◌<◌, ◌≤◌, pos, ℤ, List, [], ◌∷◌, ◌++◌}
use Rattle.std.proofs.Common.{length, get_or, drop, replicate, refl, sym, ap, ◌∙◌, append_assoc, add-one, map}
use Rattle.std.proofs.Common.{drop-cons, arith, rules}
use Rattle.std.proofs.Common.{Vec, Box, Global}
use Rattle.std.proofs.lemmas.List.{append-nil, length-replicate}
use Rattle.std.proofs.lemmas.Bool.{lt-ltb, le-ltb}
use Rattle.std.proofs.Math.Nat.{pow-suc}
use Rattle.std.proofs.Math.ListN.{drop_of_length-le}
use denote.Ref.{Bor}
use Rattle.avro_file.specs.declared.datum.Datum as datum
use Rattle.avro_file.specs.declared.datum.Datum.{Datum}
use Rattle.avro_file.specs.declared.datum.ItemCount.{ItemCount}
use Rattle.avro_file.specs.Value.{Value, items, values_of, entries_of}
use Rattle.avro_file.specs.View.{view, views, entry_views, pair_with, long_pairs, bytes_pairs}
use Rattle.avro_file.specs.Writing.{groups_of, long_bytes, run_bytes, block_bytes, written, all_written}
use Rattle.avro_file.specs.Writing.{entries_written}
use Rattle.avro_file.proofs.Views.{view-Union, view-Map}
use Rattle.avro_file.proofs.Paired.{view-LongPairs, view-BytesPairs, view-Repeated, long_pairs_len, bytes_pairs_len}
use Rattle.avro_file.proofs.Taken.{values_len-values_of, entries_len-entries_of}

-- ---- numbers

pub divided : (n t : ℕ) → n < 128 ^ suc (suc t) → n / 128 < 128 ^ suc t
divided n t lt = let p : 128 ^ suc (suc t) ≡ 128 ^ suc t * 128 = pow-suc 128 (suc t) in omega (arith, lt, p)

pub one_group : (n : ℕ) → n < 128 ^ suc 0 → n < 128
one_group n lt = omega (arith, lt)

pub record GroupsGoOn (rest : ℕ) (front total : List ℕ) : Type 0 where
  pub turns : ℕ
  pub fits : rest / 128 < 128 ^ suc turns
  pub so_far : (front ++ (rest % 128 + 128) ∷ []) ++ groups_of (suc turns) (rest / 128) ≡ total

groups_next : (t rest : ℕ) → 128 ≤ rest → groups_of (suc t) rest ≡ (rest % 128 + 128) ∷ groups_of t (rest / 128)
unfolding groups_of
groups_next t rest le = rw (le-ltb _ _ le) refl

pub groups_on : (t rest : ℕ) (front total : List ℕ) → 128 ≤ rest → rest < 128 ^ suc t
    → front ++ groups_of (suc t) rest ≡ total → GroupsGoOn rest front total
groups_on zero rest front total le lt so_far = absurd (omega (arith, le, one_group rest lt))
groups_on (suc t) rest front total le lt so_far = record {
  turns = t;
  fits = divided rest t lt;
  so_far = append_assoc front ((rest % 128 + 128) ∷ []) (groups_of (suc t) (rest / 128)) ∙ ap (λ (s : List ℕ). front ++
      s) (sym (groups_next (suc t) rest le)) ∙ so_far;
}

pub groups_end : (t rest : ℕ) → rest < 128 → groups_of (suc t) rest ≡ rest ∷ []
unfolding groups_of
groups_end t rest lt = rw (lt-ltb _ _ lt) refl

pub ten_groups : (n : ℕ) → n < 2 ^ 64 → n < 128 ^ suc 9
ten_groups n lt = omega (arith, lt)

-- ---- values that hold others

pub view-Array : (v : Vec Datum Global) → view (datum.Array v) ≡ items (values_of (views v.items))
view-Array v = search (rules, datum.the_lemmas)

views_len : (ds : List Datum) → length (views ds) ≡ length ds
views_len [] = refl
views_len (d ∷ ds) = ap suc (views_len ds)

entry_views_len : (es : List (Bor (List ℕ) × Datum)) → length (entry_views es) ≡ length es
entry_views_len [] = refl
entry_views_len (e ∷ es) = ap suc (entry_views_len es)

pub array_written : (v : Vec Datum Global) → written (view (datum.Array v)) ≡ block_bytes (length v.items)
    (all_written (values_of (views v.items)))
unfolding written
array_written v = rw (view-Array v, values_len-values_of (views v.items), views_len v.items) refl

pub map_written : (v : Vec (Bor (List ℕ) × Datum) Global) → written (view (datum.Map v)) ≡ block_bytes (length v.items)
    (entries_written (entries_of (entry_views v.items)))
unfolding written
map_written v = rw (view-Map v, entries_len-entries_of (entry_views v.items), entry_views_len v.items) refl

pub union_written : (n : ℕ) (b : Box Datum Global) → written (view (datum.Union n b)) ≡ long_bytes (pos n) ++ written
    (view b.value)
unfolding written
union_written n b = rw (view-Union n b) refl

-- values that are made of what a loop goes over
made_next : {A : Type 0} (make : A → Value) (xs : List A) (i : ℕ) (x : A) → i < length xs → x ≡ get_or xs i x
    → all_written (values_of (map make (drop i xs))) ≡ written (make x) ++ all_written
    (values_of (map make (drop (i + 1) xs)))
unfolding all_written
made_next {A} make xs i x lt is =
    let k : drop i xs ≡ x ∷ drop (i + 1) xs = drop-cons xs i x lt ∙ rw (← is, add-one) refl in
    rw k refl

pub made_on : {A : Type 0} (make : A → Value) (xs : List A) (i : ℕ) (x : A) (old new total : List ℕ) → i < length xs
    → x ≡ get_or xs i x → new ≡ old ++ written (make x)
    → old ++ all_written (values_of (map make (drop i xs))) ≡ total
    → new ++ all_written (values_of (map make (drop (i + 1) xs))) ≡ total
made_on {A} make xs i x old new total lt is e so_far =
    let rest = all_written (values_of (map make (drop (i + 1) xs))) in
    ap (λ (s : List ℕ). s ++ rest) e ∙ append_assoc old (written (make x)) rest ∙ ap (λ (s : List ℕ). old ++ s)
    (sym (made_next make xs i x lt is)) ∙ so_far

pub made_over : {A : Type 0} (make : A → Value) (xs : List A) (i : ℕ) → length xs ≤ i
    → all_written (values_of (map make (drop i xs))) ≡ []
unfolding all_written
made_over {A} make xs i le = let k : drop i xs ≡ [] = drop_of_length-le xs le in rw k refl

any_default : {A : Type 0} (xs : List A) (i : ℕ) (d e : A) → i < length xs → get_or xs i d ≡ get_or xs i e
any_default {A} [] i d e lt = absurd (omega arith)
any_default {A} (x ∷ xs) zero d e lt = refl
any_default {A} (x ∷ xs) (suc i) d e lt = any_default xs i d e (omega arith)

pub copied_on : {A : Type 0} (make : A → Value) (xs : List A) (i : ℕ) (d : A) (old new total : List ℕ) → i < length xs
    → new ≡ old ++ written (make (get_or xs i d))
    → old ++ all_written (values_of (map make (drop i xs))) ≡ total
    → new ++ all_written (values_of (map make (drop (i + 1) xs))) ≡ total
copied_on {A} make xs i d old new total lt e so_far = made_on make xs i (get_or xs i d) old new total lt
    (any_default xs i d (get_or xs i d) lt) e so_far

-- ---- pairs

pub long_pairs_written : (v : Vec (ℤ × ℤ) Global) → written (view (datum.LongPairs v)) ≡ block_bytes (length v.items)
    (all_written (values_of (long_pairs v.items)))
unfolding written
long_pairs_written v = rw (view-LongPairs v, values_len-values_of (long_pairs v.items), long_pairs_len v.items) refl

pub bytes_pairs_written : (v : Vec (ℤ × Bor (List ℕ)) Global)
    → written (view (datum.BytesPairs v)) ≡ block_bytes (length v.items) (all_written (values_of (bytes_pairs v.items)))
unfolding written
bytes_pairs_written v = rw (view-BytesPairs v, values_len-values_of (bytes_pairs v.items), bytes_pairs_len v.items) refl

pub pair_written : (k : ℤ) (v : Value) (old : List ℕ)
    → old ++ written (pair_with k v) ≡ (old ++ long_bytes k) ++ written v
unfolding written
pair_written k v old = ap (λ (s : List ℕ). old ++ (long_bytes k ++ s)) (append-nil (written v)) ∙ sym
    (append_assoc old (long_bytes k) (written v))

-- ---- so many times one value

pub repeated_written : (n : ItemCount) (b : Box Datum Global) → written (view (datum.Repeated n b))
    ≡ block_bytes n.number (all_written (values_of (replicate n.number (view b.value))))
unfolding written
repeated_written n b = rw (
  view-Repeated n b,
  values_len-values_of (replicate n.number (view b.value)),
  length-replicate
      n.number (view b.value),
) refl

pub times_on : (v : Value) (n i : ℕ) (old new total : List ℕ) → i < n → new ≡ old ++ written v
    → old ++ all_written (values_of (replicate (n - i) v)) ≡ total
    → new ++ all_written (values_of (replicate (n - (i + 1)) v)) ≡ total
unfolding all_written
times_on v n i old new total lt e so_far =
    let k : n - i ≡ suc (n - (i + 1)) = omega arith in
    let rest = all_written (values_of (replicate (n - (i + 1)) v)) in
    let one : old ++ all_written (values_of (replicate (n - i) v)) ≡ old ++ (written v ++ rest) = rw k refl in
    ap (λ (s : List ℕ). s ++ rest) e ∙ append_assoc old (written v) rest ∙ sym one ∙ so_far

pub times_over : (v : Value) (n i : ℕ) (old total : List ℕ) → n ≤ i
    → old ++ all_written (values_of (replicate (n - i) v)) ≡ total → old ≡ total
unfolding all_written
times_over v n i old total le so_far =
    let k : n - i ≡ 0 = omega arith in
    let one : old ++ all_written (values_of (replicate (n - i) v)) ≡ old = rw k (append-nil old) in
    sym one ∙ so_far

-- ---- keys and values

pairs_next : (es : List (Bor (List ℕ) × Datum)) (i : ℕ) (e : Bor (List ℕ) × Datum) → i < length es → e ≡ get_or es i e
    → entries_written (entries_of (entry_views (drop i es))) ≡ (run_bytes (e.0.now) ++ written (view e.1)) ++
    entries_written (entries_of (entry_views (drop (i + 1) es)))
unfolding entries_written
pairs_next es i e lt is =
    let k : drop i es ≡ e ∷ drop (i + 1) es = drop-cons es i e lt ∙ rw (← is, add-one) refl in
    rw k refl

pub pairs_on : (es : List (Bor (List ℕ) × Datum)) (i : ℕ) (e : Bor (List ℕ) × Datum) (key old mid new total : List ℕ)
    → i < length es → e ≡ get_or es i e → key ≡ e.0.now → mid ≡ old ++ run_bytes key → new ≡ mid ++ written (view e.1)
    → old ++ entries_written (entries_of (entry_views (drop i es))) ≡ total
    → new ++ entries_written (entries_of (entry_views (drop (i + 1) es))) ≡ total
pairs_on es i e key old mid new total lt is k f g so_far =
    let rest = entries_written (entries_of (entry_views (drop (i + 1) es))) in
    let here : new ≡ old ++ (run_bytes (e.0.now) ++ written (view e.1)) = g ∙ ap (λ (s : List ℕ). s ++ written
    (view e.1)) (f ∙ ap (λ (s : List ℕ). old ++ run_bytes s) k) ∙ append_assoc old (run_bytes (e.0.now))
    (written (view e.1)) in
    ap (λ (s : List ℕ). s ++ rest) here ∙ append_assoc old (run_bytes (e.0.now) ++ written (view e.1)) rest ∙ ap
    (λ (s : List ℕ). old ++ s) (sym (pairs_next es i e lt is)) ∙ so_far

pub pairs_over : (es : List (Bor (List ℕ) × Datum)) (i : ℕ) → length es ≤ i
    → entries_written (entries_of (entry_views (drop i es))) ≡ []
unfolding entries_written
pairs_over es i le = let k : drop i es ≡ [] = drop_of_length-le es le in rw k refl
