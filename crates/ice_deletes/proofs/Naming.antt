-- Which file a number names, for callers that merge indexes.
use Rattle.std.proofs.Common.{◌≡◌, ℕ, zero, suc, ◌≢◌, List, [], ◌∷◌, sym, ap, ◌∙◌, slice_index, arith}
use Rattle.std.specs.List.{All, AllPairs, enumerate_from}
use Rattle.std.specs.List.Sorted.{IsPermutation}
use Rattle.std.proofs.lemmas.List.Elements.{All-contains, All-filter}
use Rattle.std.proofs.lemmas.List.Sorted.{All-permutation}
use Rattle.ice_value.specs.Applying.{DeleteKey}
use Rattle.ice_deletes.specs.Found.{numbered_deletes}
use Rattle.ice_deletes.specs.Unions.{renumbered, Agree}
use Rattle.ice_deletes.proofs.Endings.{of_renumbered}

-- what holds of numbered files holds in the index that is built of them
pub built_all : (P : ℕ × DeleteKey → Type 0) (files : List DeleteKey) (index : List (ℕ × DeleteKey))
    → IsPermutation (numbered_deletes files) index → All P (enumerate_from 0 files) → All P index
built_all P files index same all =
    All-permutation P (numbered_deletes files) index same (All-filter _ P (enumerate_from 0 files) all)

-- indexes agree where each number names the same file in both
pub agree_by : (to : List ℕ) (files others : List (ℕ × DeleteKey)) (here there : ℕ → DeleteKey)
    → All (λ e. e.1 ≡ here e.0) files → All (λ e. e.1 ≡ there e.0) others
    → All (λ e. there e.0 ≡ here (slice_index to e.0)) others → Agree files (renumbered to others)
agree_by to files others here there first second moved n d e a b =
    let r = of_renumbered to others (n, e) b in
    let one : d ≡ here n = All-contains (λ x. x.1 ≡ here x.0) files (n, d) first a in
    let two : r.0.1 ≡ there r.0.0 = All-contains (λ x. x.1 ≡ there x.0) others r.0 second r.1 in
    let three : there r.0.0 ≡ here (slice_index to r.0.0) =
    All-contains (λ x. there x.0 ≡ here (slice_index to x.0)) others r.0 moved r.1 in
    let number : slice_index to r.0.0 ≡ n = ap (λ (x : ℕ × DeleteKey). x.0) r.2 in
    let file : r.0.1 ≡ e = ap (λ (x : ℕ × DeleteKey). x.1) r.2 in
    one ∙ sym (ap here number) ∙ sym three ∙ sym two ∙ file

-- two numbers that differ
pub two_differ : (a b : ℕ) → a ≢ b → AllPairs (λ n m. n ≢ m) (a ∷ b ∷ [])
two_differ a b ne zero (suc zero) d less low = ne
two_differ a b ne zero zero d less low = absurd (omega arith)
two_differ a b ne zero (suc (suc j)) d less low = absurd (omega arith)
two_differ a b ne (suc i) zero d less low = absurd (omega arith)
two_differ a b ne (suc i) (suc zero) d less low = absurd (omega arith)
two_differ a b ne (suc i) (suc (suc j)) d less low = absurd (omega arith)
