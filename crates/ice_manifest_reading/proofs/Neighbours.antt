-- Rows and their neighbours.
use Rattle.std.proofs.Common.{◌≡◌, ℕ, ◌+◌, ◌≤◌, ◌<◌, Bool, List, [], ◌∷◌, length, get_or, drop, Some, None, cond, refl}
use Rattle.std.proofs.Common.{◌∙◌}
use Rattle.std.specs.Str.{bytes_eq}
use Rattle.std.specs.List.{dedup, dedup_from}
use Rattle.std.specs.List.Retain.{IsFiltered, DiffersFromLast}
use Rattle.std.proofs.lemmas.List.Filters.{dedup_is}
use Rattle.ice_manifest_fields.proofs.Steps.{step_of, end_of}
use Rattle.ice_manifest_reading.specs.declared.row.Row.{Row}
use Rattle.ice_manifest_reading.specs.Lists.{twice_after}

-- ---- rows in their order

pub twice_here : (last : Row) (rows : List Row) (i : ℕ) (r : Row) → i < length rows → r ≡ get_or rows i r
    → twice_after last (drop i rows) ≡ cond (bytes_eq r.path last.path) (Some r.path)
    (twice_after r (drop (i + 1) rows))
unfolding twice_after
twice_here last rows i r lt is = rw (step_of rows i r lt is) refl

pub twice_end : (last : Row) (rows : List Row) (i : ℕ) → length rows ≤ i → twice_after last (drop i rows) ≡ None
unfolding twice_after
twice_end last rows i le = rw (end_of rows i le) refl

-- ---- equal neighbours

dedup_from_alike : (E F : Row → Row → Bool) (k : Row) (xs : List Row) → ((x y : Row) → E x y ≡ F x y)
    → dedup_from E k xs ≡ dedup_from F k xs
dedup_from_alike E F k [] h = refl
dedup_from_alike E F k (x ∷ xs) h = rw (h x k, dedup_from_alike E F k xs h, dedup_from_alike E F x xs h) refl

dedup_alike : (E F : Row → Row → Bool) (xs : List Row) → ((x y : Row) → E x y ≡ F x y) → dedup E xs ≡ dedup F xs
dedup_alike E F [] h = refl
dedup_alike E F (x ∷ xs) h = dedup_from_alike E F x xs h

-- what dedup leaves, by a test that answers as the type's own
pub deduped : (E F : Row → Row → Bool) (xs ys : List Row) → IsFiltered (DiffersFromLast E) [] xs ys
    → ((x y : Row) → E x y ≡ F x y) → ys ≡ dedup F xs
deduped E F xs ys h alike = dedup_is E xs ys h ∙ dedup_alike E F xs alike
