-- Numbers by places in the bytes.
use Rattle.std.proofs.Common.{◌≡◌, ℕ, ◌+◌, ◌-◌, ◌*◌, ◌^◌, ◌<◌, ◌≤◌, List, ◌∷◌, length, get_or, take, drop, Ok, Err}
use Rattle.std.proofs.Common.{refl}
use Rattle.std.proofs.Common.{ap, ◌∙◌, add-one, drop-cons, arith}
use Rattle.std.proofs.lemmas.List.{length-drop}
use Rattle.std.proofs.Math.Seq.{drop-drop, take-length}
use Rattle.std.proofs.Math.Nat.{pow-le-pow_right}
use Rattle.avro_file_parts.specs.Number.{groups_at, number_at}
use Rattle.avro_file_parts.proofs.Groups.{with_low, goes_on, ends_small, place_grows, low_stays}

-- the byte at a place, and those behind it
pub at_place : (bytes : List ℕ) (at : ℕ) → at < length bytes → drop at bytes ≡ get_or bytes at 0 ∷ drop (at + 1) bytes
at_place bytes at lt = drop-cons bytes at 0 lt ∙ rw add-one refl

pub drop_drop : (n m : ℕ) (bytes : List ℕ) → drop n (drop m bytes) ≡ drop (m + n) bytes
drop_drop n m bytes = drop-drop n m bytes ∙ ap (λ (k : ℕ). drop k bytes) (omega arith)

-- the groups up to a place were read, and are so much
pub record GroupsUpTo (bytes : List ℕ) (at i here : ℕ) : Type 0 where
  pub low : ℕ
  pub below : low < 128 ^ i
  pub most : i ≤ 9
  pub place : here ≡ at + i
  pub inside : here ≤ length bytes
  pub so_far : with_low low (128 ^ i) (groups_at (10 - i) (drop here bytes)) ≡ groups_at 10 (drop at bytes)

pub no_groups : (bytes : List ℕ) (at : ℕ) → at ≤ length bytes → GroupsUpTo bytes at 0 at
no_groups bytes at le = record {
  low = 0;
  below = omega arith;
  most = omega arith;
  place = omega arith;
  inside = le;
  so_far = none (groups_at 10 (drop at bytes));
} where
  none : (read : _) → with_low 0 (128 ^ 0) read ≡ read
  none (Ok x) = ap (λ (n : ℕ). Ok (n, x.1)) (omega arith)
  none (Err e) = refl

pub one_more : (bytes : List ℕ) (at i here : ℕ) → GroupsUpTo bytes at i here → i < 9 → here < length bytes
    → get_or bytes here 0 < 256 → 128 ≤ get_or bytes here 0 → GroupsUpTo bytes at (i + 1) (here + 1)
one_more bytes at i here g lt there byte le =
    let k = place_grows (128 ^ i) i refl in
    let on = goes_on g.low (128 ^ i) i (get_or bytes here 0) (drop (here + 1) bytes) (groups_at 10 (drop at bytes))
    (omega (arith, lt)) le (rw (at_place bytes here there) at g.so_far) in
    record {
      low = g.low + 128 ^ i * (get_or bytes here 0 - 128);
      below = rw (← k) (low_stays g.low (128 ^ i) (get_or bytes here 0 - 128) g.below (omega arith));
      most = omega arith;
      place = omega (arith, g.place);
      inside = omega arith;
      so_far = rw (← k) on;
    }

-- the last group fits
pub last_fits : (low i b : ℕ) (k : ℕ) → low < 128 ^ i → b < 128 → i < k → low + 128 ^ i * b < 128 ^ k
last_fits low i b k lt small le =
    let some : 0 < 128 = omega arith in
    let h : 128 ^ (i + 1) ≤ 128 ^ k = pow-le-pow_right {n = 128} some {i = i + 1} {j = k} (omega (arith, le)) in
    omega (arith, low_stays low (128 ^ i) b lt small, place_grows (128 ^ i) i refl, h)

pub found : (bytes : List ℕ) (at i here : ℕ) (g : GroupsUpTo bytes at i here) → here < length bytes
    → get_or bytes here 0 < 128 → g.low + 128 ^ i * get_or bytes here 0 < 2 ^ 64
    → number_at (2 ^ 64) (drop at bytes) ≡ Ok (g.low + 128 ^ i * get_or bytes here 0, drop (here + 1) bytes)
found bytes at i here g there small fits = ends_small g.low (128 ^ i) i (get_or bytes here 0) (drop (here + 1) bytes)
    (drop at bytes) (omega (arith, g.most)) small fits (rw (at_place bytes here there) at g.so_far)

pub one_group : (bytes : List ℕ) (at : ℕ) → at < length bytes → get_or bytes at 0 < 128
    → number_at (2 ^ 64) (drop at bytes) ≡ Ok (get_or bytes at 0, drop (at + 1) bytes)
one_group bytes at lt small =
    let none = no_groups bytes at (omega (arith, lt)) in
    found bytes at 0 at none lt small (omega (arith, small)) ∙ ap (λ (n : ℕ). Ok (n, drop (at + 1) bytes)) (omega arith)

pub to_end : (bytes : List ℕ) (at : ℕ) → take (length bytes - at) (drop at bytes) ≡ drop at bytes
to_end bytes at = rw (← length-drop at bytes) (take-length (drop at bytes))
