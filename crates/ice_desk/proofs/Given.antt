-- Contents that were read from what reads gave.
use Rattle.std.proofs.Common.{◌≡◌, ◌<◌, ℕ, zero, suc, List, [], ◌∷◌, length, get_or, replicate, refl, subst}
use Rattle.std.proofs.Common.{Option, Some, None, arith}
use Rattle.ice_manifest_reading.specs.declared.row.Row.{Row}
use Rattle.ice_state.specs.Contents.{Content, took_at}
use Rattle.ice_state.specs.Joins.{join}
use Rattle.ice_state.specs.Scans.{Scanned}
use Rattle.ice_state.specs.Readings.{Reading}
use Rattle.ice_desk.specs.Given.{AreSlotsGiven, Giving, IsSlotGiven}

-- where nothing was taken
pub none_given : (gives : Giving) (scan : Scanned) (rows : List Row) (n : ℕ)
    → AreSlotsGiven gives scan rows (replicate n None)
none_given gives scan [] n = tt
none_given gives scan (row ∷ rows) zero = tt
none_given gives scan (row ∷ rows) (suc n) = (tt, none_given gives scan rows n)

-- one more manifest, from the bytes that a read of its path gave
pub took_given : (gives : Giving) (scan : Scanned) (c : Content) (rows : List Row) (i : ℕ) (row : Row) (bytes : List ℕ)
    → i < length rows → row ≡ get_or rows i row → gives row.path (Some bytes)
    → AreSlotsGiven gives scan rows c → AreSlotsGiven gives scan rows (took_at scan c rows i bytes)
took_given gives scan c [] i row bytes l e g h = absurd (omega arith)
took_given gives scan [] (r ∷ rs) i row bytes l e g h = tt
took_given gives scan (Some x ∷ ss) (r ∷ rs) zero row bytes l e g h = h
took_given gives scan (None ∷ ss) (r ∷ rs) zero row bytes l e g h = (
  (bytes, subst (λ (q : Row). gives q.path (Some bytes)) e g, refl),
  h.1,
)
took_given gives scan (s ∷ ss) (r ∷ rs) (suc i) row bytes l e g h = (
  h.0,
  took_given gives scan ss rs i row bytes (omega arith) e g h.1,
)

-- what either took
pub join_given : (gives : Giving) (scan : Scanned) (rows : List Row) (c d : Content) → AreSlotsGiven gives scan rows c
    → AreSlotsGiven gives scan rows d → AreSlotsGiven gives scan rows (join c d)
join_given gives scan rows [] d h k = k
join_given gives scan rows (x ∷ xs) [] h k = h
join_given gives scan [] (x ∷ xs) (y ∷ ys) h k = tt
join_given gives scan (r ∷ rs) (Some x ∷ xs) (y ∷ ys) h k = (h.0, join_given gives scan rs xs ys h.1 k.1)
join_given gives scan (r ∷ rs) (None ∷ xs) (y ∷ ys) h k = (k.0, join_given gives scan rs xs ys h.1 k.1)

-- reads that may give more
slot_more : (gives more : Giving) → ((path : List ℕ) (found : Option (List ℕ)) → gives path found → more path found)
    → (scan : Scanned) (row : Row) (s : Option Reading) → IsSlotGiven gives scan row s → IsSlotGiven more scan row s
slot_more gives more wider scan row None h = tt
slot_more gives more wider scan row (Some reading) h = (h.0, wider row.path _ h.1, h.2)

pub more_given : (gives more : Giving) → ((path : List ℕ) (found : Option (List ℕ)) → gives path found
    → more path found)
    → (scan : Scanned) (rows : List Row) (c : Content) → AreSlotsGiven gives scan rows c
    → AreSlotsGiven more scan rows c
more_given gives more wider scan [] c h = tt
more_given gives more wider scan (row ∷ rows) [] h = tt
more_given gives more wider scan (row ∷ rows) (s ∷ ss) h = (
  slot_more gives more wider scan row s h.0,
  more_given gives more wider scan rows ss h.1,
)
