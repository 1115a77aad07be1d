-- Trees of takes and merges, and the sets of rows that they take.
use Rattle.std.proofs.Common.{◌≡◌, ◌<◌, ◌==◌, ℕ, zero, suc, List, [], ◌∷◌, refl, sym, ap, ◌∙◌, Bool, true, false, ◌||◌}
use Rattle.std.proofs.Common.{length, get_or, arith, replicate}
use Rattle.std.proofs.lemmas.Bool.Decides.{nat_tests}
use Rattle.std.proofs.lemmas.List.{ext_get_or}
use Rattle.ice_manifest_reading.specs.declared.row.Row.{Row}
use Rattle.ice_state.specs.Contents.{Content, World, content, add, took}
use Rattle.ice_state.specs.Joins.{join, either}
use Rattle.ice_state.specs.Runs.{Run, empty, take, merge, IsIn, takes, taken, TakeTheSame, after}
use Rattle.ice_state.specs.Scans.{Scanned}
use Rattle.ice_state.proofs.Contents.{took-content, none-content}
use Rattle.ice_state.proofs.Joins.{join-content}

-- the content is that of the world and the rows taken
pub after-content : (world : World) (scan : Scanned) (run : Run) → IsIn world scan run
    → after scan run ≡ content world scan (taken scan run)
after-content world scan empty is = none-content world scan scan.wanted
after-content world scan (take run i bytes) is = ap (λ (c : Content). took scan c i bytes) (after-content world scan run
    is.0) ∙ took-content world scan (taken scan run) scan.wanted i bytes is.1
after-content world scan (merge run other) is =
    ap (λ (c : Content). join c (after scan other)) (after-content world scan run is.0) ∙ ap
    (λ (c : Content). join (content world scan (taken scan run)) c) (after-content world scan other is.1)
    ∙ join-content world scan (taken scan run) (taken scan other) scan.wanted

length-add : (ts : List Bool) (i : ℕ) → length (add ts i) ≡ length ts
length-add [] i = refl
length-add (t ∷ ts) zero = refl
length-add (t ∷ ts) (suc i) = ap suc (length-add ts i)

length-either : (ts us : List Bool) → length ts ≡ length us → length (either ts us) ≡ length ts
length-either [] [] h = refl
length-either [] (u ∷ us) h = absurd (omega arith)
length-either (t ∷ ts) [] h = refl
length-either (t ∷ ts) (u ∷ us) h = ap suc (length-either ts us (omega arith))

length-no : (rows : List Row) → length (replicate (length rows) false) ≡ length rows
length-no [] = refl
length-no (row ∷ rows) = ap suc (length-no rows)

pub length-taken : (scan : Scanned) (run : Run) → length (taken scan run) ≡ length scan.wanted
length-taken scan empty = length-no scan.wanted
length-taken scan (take run i bytes) = length-add (taken scan run) i ∙ length-taken scan run
length-taken scan (merge run other) = length-either (taken scan run) (taken scan other) (length-taken scan run ∙ sym
    (length-taken scan other)) ∙ length-taken scan run

or_true : (a : Bool) → (a || true) ≡ true
or_true true = refl
or_true false = refl

or_false : (a : Bool) → (a || false) ≡ a
or_false true = refl
or_false false = refl

zero-eq-suc : (k : ℕ) → (0 == suc k) ≡ false
zero-eq-suc k = grind (arith, nat_tests)

suc-eq-zero : (k : ℕ) → (suc k == 0) ≡ false
suc-eq-zero k = grind (arith, nat_tests)

suc-eq-suc : (i k : ℕ) → (suc i == suc k) ≡ (i == k)
suc-eq-suc i k = grind (arith, nat_tests)

-- a row is in the set with one more where it was, or where it is that one
add-at : (ts : List Bool) (i k : ℕ) → k < length ts → get_or (add ts i) k false ≡ (get_or ts k false || (i == k))
add-at [] i k l = absurd (omega arith)
add-at (t ∷ ts) zero zero l = sym (or_true t)
add-at (t ∷ ts) zero (suc k) l = sym (ap (λ b. get_or ts k false || b) (zero-eq-suc k) ∙ or_false (get_or ts k false))
add-at (t ∷ ts) (suc i) zero l = sym (ap (λ b. t || b) (suc-eq-zero i) ∙ or_false t)
add-at (t ∷ ts) (suc i) (suc k) l = add-at ts i k (omega arith) ∙ sym (ap (λ b. get_or ts k false || b)
    (suc-eq-suc i k))

either-at : (ts us : List Bool) (k : ℕ) → length ts ≡ length us
    → get_or (either ts us) k false ≡ (get_or ts k false || get_or us k false)
either-at [] [] k h = refl
either-at [] (u ∷ us) k h = absurd (omega arith)
either-at (t ∷ ts) [] k h = absurd (omega arith)
either-at (t ∷ ts) (u ∷ us) zero h = refl
either-at (t ∷ ts) (u ∷ us) (suc k) h = either-at ts us k (omega arith)

none-at : (rows : List Row) (k : ℕ) → get_or (replicate (length rows) false) k false ≡ false
none-at [] k = refl
none-at (row ∷ rows) zero = refl
none-at (row ∷ rows) (suc k) = none-at rows k

-- a row is in the set where it was taken
pub taken-at : (scan : Scanned) (run : Run) (k : ℕ) → k < length scan.wanted
    → get_or (taken scan run) k false ≡ takes run k
taken-at scan empty k l = none-at scan.wanted k
taken-at scan (take run i bytes) k l =
    let l' : k < length (taken scan run) = omega (arith, length-taken scan run) in
    add-at (taken scan run) i k l' ∙ ap (λ b. b || (i == k)) (taken-at scan run k l)
taken-at scan (merge run other) k l =
    either-at (taken scan run) (taken scan other) k (length-taken scan run ∙ sym (length-taken scan other))
    ∙ ap (λ b. b || get_or (taken scan other) k false) (taken-at scan run k l) ∙ ap (λ b. takes run k || b)
    (taken-at scan other k l)

-- trees that take the same rows end in one set
same_rows : (scan : Scanned) (run other : Run) → TakeTheSame run other → taken scan run ≡ taken scan other
same_rows scan run other same =
    ext_get_or false (taken scan run) (taken scan other) (length-taken scan run ∙ sym (length-taken scan other))
    (λ k l.
    let l' : k < length scan.wanted = omega (arith, length-taken scan run) in
    taken-at scan run k l' ∙ same k ∙ sym (taken-at scan other k l'))

pub same_content : (world : World) (scan : Scanned) (run other : Run) → IsIn world scan run → IsIn world scan other
    → TakeTheSame run other → after scan run ≡ after scan other
same_content world scan run other is is' same =
    after-content world scan run is ∙ ap (λ ts. content world scan ts) (same_rows scan run other same) ∙ sym
    (after-content world scan other is')
