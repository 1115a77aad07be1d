-- What tuples fit.
use Rattle.std.proofs.Common.{◌≡◌, ◌≢◌, suc, Bool, true, false, ◌&&◌, List, [], ◌∷◌, length, refl, ap}
use Rattle.ice_value.specs.declared.cell.Cell.{Cell}
use Rattle.ice_catalog_versions.specs.declared.tuples.Allowed.{Allowed}
use Rattle.ice_catalog_versions.specs.Tuples.{allows, fit}

and_false : (b c : Bool) → c ≡ false → (b && c) ≡ false
and_false true c h = h
and_false false c h = refl

-- another number of cells doesn't fit
pub fit_not : (allowed : List Allowed) (cells : List Cell) → length allowed ≢ length cells → fit allowed cells ≡ false
fit_not [] [] h = absurd (h refl)
fit_not [] (c ∷ cells) h = refl
fit_not (a ∷ allowed) [] h = refl
fit_not (a ∷ allowed) (c ∷ cells) h = and_false (allows a c) (fit allowed cells)
    (fit_not allowed cells (λ e. h (ap suc e)))
