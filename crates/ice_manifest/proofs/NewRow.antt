-- Adding up the records of the files of a new manifest.
use Rattle.std.proofs.Common.{◌≡◌, ℕ, suc, ◌+◌, ◌<◌, ℤ, List, [], ◌∷◌, length, get_or, drop}
use Rattle.std.proofs.Common.{refl, sym, ap, ◌∙◌, arith}
use Rattle.std.specs.Prelude.{◌+ℤ◌}
use Rattle.std.proofs.lemmas.Int.{ints}
use denote.Ref.{Bor}
use Rattle.ice_manifest.specs.declared.new_file.NewFile.{NewFile}
use Rattle.ice_manifest.specs.Adding.{lent}
use Rattle.ice_manifest.specs.NewRows.{records_in}
use Rattle.ice_manifest.proofs.WrittenItems.{step_of}

pub as_many : (fs : List (Bor NewFile)) → length (lent fs) ≡ length fs
as_many [] = refl
as_many (f ∷ fs) = ap suc (as_many fs)

assoc : (a b c : ℤ) → (a +ℤ b) +ℤ c ≡ a +ℤ (b +ℤ c)
assoc a b c = omega (arith, ints)

pub records_on : (fs : List (Bor NewFile)) (i : ℕ) (f : Bor NewFile) (total next all : ℤ) → i < length fs
    → f ≡ get_or fs i f → next ≡ total +ℤ f.now.record_count → total +ℤ records_in (lent (drop i fs)) ≡ all
    → next +ℤ records_in (lent (drop (i + 1) fs)) ≡ all
records_on fs i f total next all lt is more so_far =
    let rest = records_in (lent (drop (i + 1) fs)) in
    ap (λ (z : ℤ). z +ℤ rest) more ∙ assoc total f.now.record_count rest ∙ ap (λ gs. total +ℤ records_in (lent gs))
    (sym (step_of fs i f lt is)) ∙ so_far
