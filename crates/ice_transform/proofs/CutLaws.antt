-- Cut texts.
use Rattle.std.proofs.Common.{◌≡◌, ℕ, zero, suc, ◌+◌, ◌-◌, ◌<◌, List, [], ◌∷◌, ◌++◌, length, take, drop, get_or, refl}
use Rattle.std.proofs.Common.{arith, sym, append_assoc}
use Rattle.std.proofs.Math.Seq.{take-suc, drop-cons}
use Rattle.std.proofs.lemmas.List.{append-nil}
use Rattle.std.specs.Str.{continuation_len}
use Rattle.ice_transform.specs.Cuts.{points_from}

-- a step that takes a byte
took : (s : List ℕ) (at l k : ℕ) (next : List ℕ) → at < length s
    → points_from l k (get_or s at 0 ∷ drop (suc at) s) ≡ get_or s at 0 ∷ next →
    take at s ++ points_from l k (drop at s) ≡ take (at + 1) s ++ next
took s at l k next h e =
    let d = drop-cons s at 0 h in
    let t = take-suc s at 0 h in
    let o : at + 1 ≡ suc at = omega arith in
    rw (d, e, o, t) (sym (append_assoc (take at s) (get_or s at 0 ∷ []) next))

pub open_step : (s : List ℕ) (at l k : ℕ) → at < length s → 0 < k
    → take at s ++ points_from l k (drop at s) ≡ take (at + 1) s ++ points_from l (k - 1) (drop (at + 1) s)
open_step s at l zero h z = absurd (omega arith)
open_step s at l (suc k) h z =
    let o : at + 1 ≡ suc at = omega arith in
    let p : suc k - 1 ≡ k = omega arith in
    rw (p) (took s at l (suc k) (points_from l k (drop (at + 1) s)) h (rw o refl))

pub lead_step : (s : List ℕ) (at l k : ℕ) → at < length s → k ≡ 0 → 0 < l
    → take at s ++ points_from l k (drop at s) ≡ take (at + 1) s ++ points_from (l - 1)
    (continuation_len (get_or s at 0)) (drop (at + 1) s)
lead_step s at zero k h none z = absurd (omega arith)
lead_step s at (suc l) k h none z =
    let o : at + 1 ≡ suc at = omega arith in
    let p : suc l - 1 ≡ l = omega arith in
    rw (p, none) (took s at (suc l) 0 (points_from l (continuation_len (get_or s at 0)) (drop (at + 1) s)) h
    (rw o refl))

none_left : (s : List ℕ) → points_from 0 0 s ≡ []
none_left [] = refl
none_left (b ∷ s) = refl

pub stop_step : (s : List ℕ) (at l k : ℕ) → k ≡ 0 → l ≡ 0 → take at s ++ points_from l k (drop at s) ≡ take at s
stop_step s at l k e f = rw (e, f, none_left (drop at s)) (append-nil (take at s))
