-- What the states of a scan's workers took.
use Rattle.std.proofs.Common.{◌≡◌, ℕ, zero, suc, ◌<◌, ◌≤◌, Bool, true, false, List, [], ◌∷◌, length, replicate, refl}
use Rattle.std.proofs.Common.{sym, ◌∙◌, ap, subst, arith, Option, Some, None}
use Rattle.std.specs.Prelude.{◌||◌, ◌≢◌, is_some, option_map, slice_get, slice_index_or, slice_set, IfOk, Result, Ok}
use Rattle.std.specs.Prelude.{Err}
use Rattle.std.proofs.lemmas.List.{get_or-set_other, map-set}
use Rattle.std.proofs.lemmas.List.{length-replicate, length-map}
use Rattle.std.proofs.lemmas.List.Elements.{All-set}
use Rattle.std.proofs.lemmas.Option.{slice_get-map, slice_get_past, slice_get_read}
use Rattle.std.specs.List.{All}
use Rattle.ice_manifest_reading.specs.declared.row.Row.{Row}
use Rattle.ice_state.specs.Readings.{Reading}
use Rattle.ice_state.specs.Contents.{Content, IsOf, World, add, content, no_row, or_else, took, took_at}
use Rattle.ice_state.specs.Joins.{either, join}
use Rattle.ice_state.specs.Scans.{Scanned}
use Rattle.ice_catalog.specs.Taken.{IsStateOf, IsTaken, rows_of, set_of, sets_of}

-- nothing taken
pub rows_none : (n : ℕ) → rows_of (replicate n None) ≡ replicate n false
rows_none zero = refl
rows_none (suc n) = ap (λ bs. false ∷ bs) (rows_none n)

-- a row more
some_or_else : (s : Option Reading) (r : Reading) → is_some (or_else s (Some r)) ≡ true
some_or_else None r = refl
some_or_else (Some q) r = refl

rows_at : (scan : Scanned) (c : Content) (rows : List Row) (i : ℕ) (bytes : List ℕ) → length c ≡ length rows
    → rows_of (took_at scan c rows i bytes) ≡ slice_set (rows_of c) i true
rows_at scan [] rows i bytes same = refl
rows_at scan (s ∷ ss) [] i bytes same = absurd (omega (arith, same))
rows_at scan (s ∷ ss) (row ∷ rows) zero bytes same = ap (λ b. b ∷ rows_of ss) (some_or_else s _)
rows_at scan (s ∷ ss) (row ∷ rows) (suc i) bytes same = ap (λ bs. is_some s ∷ bs) (rows_at scan ss rows i bytes
    (omega (arith, same)))

pub rows_took : (scan : Scanned) (c : Content) (i : ℕ) (bytes : List ℕ) → IsOf scan c
    → rows_of (took scan c i bytes) ≡ add (rows_of c) i
rows_took scan c i bytes same = rows_at scan c scan.wanted i bytes same

-- the rows of both
or_some : (c d : Option Reading) → is_some (or_else c d) ≡ (is_some c || is_some d)
or_some None d = refl
or_some (Some r) d = refl

pub rows_join : (c d : Content) → rows_of (join c d) ≡ either (rows_of c) (rows_of d)
rows_join [] d = refl
rows_join (c ∷ cs) [] = refl
rows_join (c ∷ cs) (d ∷ ds) = λ i. or_some c d i ∷ rows_join cs ds i

-- sets
or_false : (b : Bool) → (b || false) ≡ b
or_false true = refl
or_false false = refl

or_same : (b : Bool) → (b || b) ≡ b
or_same true = refl
or_same false = refl

pub either_none : (n : ℕ) (bs : List Bool) → length bs ≡ n → either bs (replicate n false) ≡ bs
either_none zero [] same = refl
either_none (suc n) [] same = absurd (omega (arith, same))
either_none zero (b ∷ bs) same = absurd (omega (arith, same))
either_none (suc n) (b ∷ bs) same = λ i. or_false b i ∷ either_none n bs (omega (arith, same)) i

pub either_same : (bs : List Bool) → either bs bs ≡ bs
either_same [] = refl
either_same (b ∷ bs) = λ i. or_same b i ∷ either_same bs i

-- ---- a worker's state

pub all_ok : {T E : Type 0} (r : Result T E) (P Q R S : T → Type 0) → ((x : T) → P x → Q x → R x → S x) → IfOk r P
    → IfOk r Q → IfOk r R → IfOk r S
all_ok (Ok x) P Q R S f p q r = f x p q r
all_ok (Err e) P Q R S f p q r = tt

pub taken_empty : (world : World) (scan : Scanned) (c : Content) → IsOf scan c → c ≡ replicate (length scan.wanted) None
    → c ≡ content world scan (no_row scan) → IsTaken world scan (Some c)
taken_empty world scan c of none is = (
  of,
  is ∙ ap (content world scan)
      (sym (ap rows_of none ∙ rows_none (length scan.wanted))),
)

-- ---- the states of all workers

set_same : {A : Type 0} (i : ℕ) (xs : List A) (x : A) → slice_get xs i ≡ Some x → slice_set xs i x ≡ xs
set_same zero [] x e = refl
set_same zero (y ∷ ys) x e = ap (λ z. z ∷ ys) cc
set_same (suc i) [] x e = refl
set_same (suc i) (y ∷ ys) x e = ap (λ zs. y ∷ zs) (set_same i ys x e)

set_twice : {A : Type 0} (i : ℕ) (xs : List A) (x y : A) → slice_set (slice_set xs i x) i y ≡ slice_set xs i y
set_twice zero [] x y = refl
set_twice zero (z ∷ zs) x y = refl
set_twice (suc i) [] x y = refl
set_twice (suc i) (z ∷ zs) x y = ap (λ ws. z ∷ ws) (set_twice i zs x y)

same_some : {A : Type 0} (x y : A) → Some x ≡ Some y → x ≡ y
same_some x y e = cc

-- a state that was moved out, and moved back as another
pub sets_put : (scan : Scanned) (states : List (Option Content)) (i : ℕ) (x y : Option Content)
    → sets_of scan (slice_set (slice_set states i x) i y) ≡ slice_set (sets_of scan states) i (set_of scan y)
sets_put scan states i x y = ap (sets_of scan) (set_twice i states x y) ∙ map-set (set_of scan) states i y

-- the set of the state that was read
pub set_at : (scan : Scanned) (states : List (Option Content)) (i : ℕ) (x : Option Content) → i < length states
    → x ≡ slice_index_or states i x → slice_get (sets_of scan states) i ≡ Some (set_of scan x)
set_at scan states i x within read = slice_get-map (set_of scan) states i ∙ ap (option_map (set_of scan))
    (slice_get_read states (length states) i x refl within read)

pub set_read : (scan : Scanned) (states : List (Option Content)) (i : ℕ) (x : Option Content) (set : List Bool)
    → i < length states → x ≡ slice_index_or states i x → slice_get (sets_of scan states) i ≡ Some set
    → set_of scan x ≡ set
set_read scan states i x set within read is = same_some (set_of scan x) set (sym (set_at scan states i x within read) ∙
    is)

-- the same, where another one was moved out
pub set_read_apart : (scan : Scanned) (states : List (Option Content)) (i j : ℕ) (x d : Option Content)
    (set : List Bool) → (j ≢ i) → j < length states → x ≡ slice_index_or (slice_set states i d) j x
    → slice_get (sets_of scan states) j ≡ Some set → set_of scan x ≡ set
set_read_apart scan states i j x d set apart within read is = set_read scan states j x set within
    (read ∙ get_or-set_other states i j d x apart) is

pub merge_itself : (sets : List (List Bool)) (i j : ℕ) (set other : List Bool) → i ≡ j → slice_get sets i ≡ Some set
    → slice_get sets j ≡ Some other → sets ≡ slice_set sets i (either set other)
merge_itself sets i j set other same is also =
    let one : set ≡ other = same_some set other (sym is ∙ (ap (slice_get sets) same ∙ also)) in
    sym (ap (λ o. slice_set sets i (either set o)) (sym one) ∙ (ap (slice_set sets i) (either_same set) ∙ set_same i
    sets set is))

-- what holds of all states holds of the one that was read
pub state_read : (P : Option Content → Type 0) (states : List (Option Content)) (i : ℕ) (x : Option Content)
    → All P states → i < length states → x ≡ slice_index_or states i x → P x
state_read P states i x all within read = subst P (sym read) (all i x within)

-- and of all states where one was moved out, and one moved back of which it holds
pub taken_put : (P : Option Content → Type 0) (states : List (Option Content)) (i : ℕ) (x y : Option Content)
    → All P states → P y → All P (slice_set (slice_set states i x) i y)
taken_put P states i x y all holds = subst (All P) (sym (set_twice i states x y)) (All-set P states i y holds all)

-- there is a set for each state, and no other
pub set_found : (scan : Scanned) (states : List (Option Content)) (i : ℕ) → i < length states
    → (set : List Bool) × (slice_get (sets_of scan states) i ≡ Some set)
set_found scan [] i within = absurd (omega (arith, within))
set_found scan (x ∷ xs) zero within = (set_of scan x, refl)
set_found scan (x ∷ xs) (suc i) within = set_found scan xs i (omega (arith, within))

pub no_set : (scan : Scanned) (states : List (Option Content)) (i : ℕ) → length states ≤ i
    → slice_get (sets_of scan states) i ≡ None
no_set scan states i past = slice_get-map (set_of scan) states i ∙ ap (option_map (set_of scan))
    (slice_get_past states i past)

-- a set has a flag for each wanted row
pub set_length : (scan : Scanned) (x : Option Content) → IsStateOf scan x → length (set_of scan x) ≡ length scan.wanted
set_length scan None is = length-replicate (length scan.wanted) false
set_length scan (Some c) is = length-map c is_some ∙ is

-- another worker that took nothing adds nothing
pub merge_none : (scan : Scanned) (x : Option Content) (set other : List Bool) → IsStateOf scan x → set_of scan x ≡ set
    → no_row scan ≡ other → set_of scan x ≡ either set other
merge_none scan x set other of is none = is ∙ sym (ap (either set) (sym none) ∙ either_none (length scan.wanted) set
    (ap length (sym is) ∙ set_length scan x of))
