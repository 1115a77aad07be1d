-- Each row is in one of the shares.
use Rattle.std.proofs.Common.{◌≡◌, ◌<◌, ◌≤◌, ◌+◌, ◌*◌, ◌/◌, ℕ, zero, suc, ℤ, pos, negsuc, List, [], ◌∷◌, length, drop}
use Rattle.std.proofs.Common.{get_or, refl, ap, ◌∙◌, add-one, arith, drop-cons}
use Rattle.std.specs.Prelude.{slice_index_or}
use Rattle.std.proofs.Math.Nat.{div-lt_iff_lt-mul}
use Rattle.std.proofs.lemmas.List.{length-map}
use Rattle.ice_manifest_reading.specs.declared.row.Row.{Row}
use Rattle.icescan_shares.specs.Shares.{are_in_share, share_of, shares_from, shares_of, total_weight, weight, weight_of}
use Rattle.icescan_text.specs.declared.share.Share.{Share}

pub some_weight : (z : ℤ) → 0 < weight_of z
some_weight (pos n) = grind arith
some_weight (negsuc n) = omega arith

pub many_shares : (count total before : ℕ) (rows : List Row) → length (shares_from count total before rows)
    ≡ length rows
many_shares count total before [] = refl
many_shares count total before (row ∷ rows) = ap suc (many_shares count total (before + weight row) rows)

-- each of the rows has a mark
pub marks_each : (share : Share) (rows : List Row) → length (are_in_share share rows) ≡ length rows
marks_each share rows =
    length-map (shares_of share.count rows) _ ∙ many_shares share.count (total_weight rows) 0 rows

share_in : (count total before : ℕ) → 0 < count → before < total
    → (0 < share_of count total before) × (share_of count total before ≤ count)
share_in count total before some below =
    let l : count * before < count * total = grind arith in
    let q : count * before / total < count = (div-lt_iff_lt-mul (omega (arith, below))).1 l in
    (omega arith, omega (arith, q))

pub shares_in : (count total before : ℕ) (rows : List Row) (i : ℕ) → 0 < count → before + total_weight rows ≡ total
    → i < length rows
    → (0 < slice_index_or (shares_from count total before rows) i 0)
    × (slice_index_or (shares_from count total before rows) i 0 ≤ count)
shares_in count total before [] i some is l = absurd (omega arith)
shares_in count total before (row ∷ rows) zero some is l =
    share_in count total before some (omega (arith, some_weight row.length, is))
shares_in count total before (row ∷ rows) (suc i) some is l =
    shares_in count total (before + weight row) rows i some (omega (arith, is)) (omega (arith, l))

row_step : (rows : List Row) (i : ℕ) (row : Row) → i < length rows → row ≡ get_or rows i row
    → drop i rows ≡ row ∷ drop (i + 1) rows
row_step rows i row l is = drop-cons rows i row l ∙ rw (← is, add-one) refl

-- the rows from one on weigh as it and the rows behind it
pub weight_step : (rows : List Row) (i : ℕ) (row : Row) → i < length rows → row ≡ get_or rows i row
    → total_weight (drop i rows) ≡ weight row + total_weight (drop (i + 1) rows)
weight_step rows i row l is = ap total_weight (row_step rows i row l is)

pub shares_step : (count total before : ℕ) (rows : List Row) (i : ℕ) (row : Row) → i < length rows
    → row ≡ get_or rows i row
    → shares_from count total before (drop i rows)
    ≡ share_of count total before ∷ shares_from count total (before + weight row) (drop (i + 1) rows)
shares_step count total before rows i row l is =
    ap (shares_from count total before) (row_step rows i row l is)
