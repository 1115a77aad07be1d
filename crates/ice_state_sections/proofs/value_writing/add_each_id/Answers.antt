use Rattle.std.proofs.Common.{◌≡◌, ◌<◌, ℕ, zero, suc, ℤ, List, [], ◌∷◌, length, get_or, pos, refl, arith, w32, rules}
use Rattle.ice_state_sections.specs.Parts.{int}
use Rattle.ice_state_sections.proofs.Added.{none_yet, goes_further, goes_all, again}
use Rattle.ice_state_sections.proofs.value_writing.add_each_id.Goals as goal

-- within the list it does not matter what is given behind it
any_default : (xs : List ℤ) (i : ℕ) (d e : ℤ) → i < length xs → get_or xs i d ≡ get_or xs i e
any_default [] i d e lt = absurd (omega arith)
any_default (x ∷ xs) zero d e lt = refl
any_default (x ∷ xs) (suc i) d e lt = any_default xs i d e (omega arith)

pub ids-init : goal.ids-init
ids-init c = none_yet (λ _. int) _

pub ids-preserved : goal.ids-preserved
ids-preserved c =
    let xs = c.args.ids.now in
    let i = c.ids.id-index in
    let x = get_or xs i (pos 0) in
    goes_further (λ _. int) xs i x _ _ _ c.ids-test.true (any_default xs i (pos 0) x c.ids-test.true) c.ids.invariant
    (again w32 int x _ _ (search rules) c.in_ok-bytes.ensures)

pub returns : goal.returns
returns c = goes_all (λ _. int) c.args.ids.now c.ids.id-index _ _ c.ids-test.false c.ids.invariant
