-- What is counted, verdict by verdict.
use mir.Val.{bool_byte}
use Rattle.std.proofs.Common.{◌≡◌, ℕ, ◌+◌, ◌<◌, ◌≤◌, Bool, true, false, cond, List, [], ◌∷◌, ◌++◌, length, drop, filter}
use Rattle.std.proofs.Common.{take}
use Rattle.std.proofs.Common.{get_or, ◌∙◌, refl, sym, ap, add-one, arith}
use Rattle.std.specs.Prelude.{ℤ, pos, ◌*◌, ◌^◌, ◌+ℤ◌, ◌-ℤ◌, ◌≤ℤ◌}
use Rattle.std.proofs.Math.IntN.{+ℤ_assoc}
use Rattle.std.proofs.Math.ListN.{drop_of_length-le}
use Rattle.std.proofs.Math.Seq.{drop-cons, take-suc}
use Rattle.std.proofs.lemmas.Int.{ints}
use Rattle.std.proofs.lemmas.List.{length-append, take_all}
use Rattle.std.proofs.lemmas.List.Elements.{filter-append}
use Rattle.icescan_explain.specs.Counting.{bytes_in, bytes_left, counts_of, counts_with, how_many, is_counted}
use Rattle.icescan_explain.specs.declared.counts.Cause.{Cause}
use Rattle.icescan_explain.specs.declared.counts.Cause.TheVariants.{Kept, Partition, Bounds}
use Rattle.icescan_explain.specs.declared.counts.Counts.{Counts}
use Rattle.icescan_explain.specs.declared.verdict.Subject.{Subject}
use Rattle.icescan_explain.specs.declared.verdict.Verdict.{Verdict}

step_of : (xs : List Verdict) (i : ℕ) (x : Verdict) → i < length xs → x ≡ get_or xs i x
    → drop i xs ≡ x ∷ drop (i + 1) xs
step_of xs i x lt is = drop-cons xs i x lt ∙ rw (← is, add-one) refl

pub bytes_more : (s : Subject) (vs : List Verdict) (i : ℕ) (v : Verdict) (bytes all : ℤ) → i < length vs
    → v ≡ get_or vs i v → bytes +ℤ bytes_left s (drop i vs) ≡ all
    → (bytes +ℤ bytes_in s v) +ℤ bytes_left s (drop (i + 1) vs) ≡ all
bytes_more s vs i v bytes all lt is h =
    +ℤ_assoc bytes (bytes_in s v) (bytes_left s (drop (i + 1) vs))
    ∙ (rw (step_of vs i v lt is) at h)

-- ---- how many

one : (b : Bool) (v : Verdict) → length (cond b (v ∷ []) []) ≡ cond b 1 0
one true v = refl
one false v = refl

pub byte_at_most : (b : Bool) → bool_byte b ≤ 1
byte_at_most true = omega arith
byte_at_most false = omega arith

-- a flag as a number
pub flag_is : (b : Bool) → bool_byte b ≡ cond b 1 0
flag_is true = refl
flag_is false = refl

flag_at_most : (b : Bool) → cond b 1 0 ≤ 1
flag_at_most true = omega arith
flag_at_most false = omega arith

-- one more verdict
many_more : (s : Subject) (cause : Cause) (vs : List Verdict) (i : ℕ) (v : Verdict) (n : ℕ) → i < length vs
    → v ≡ get_or vs i v → n ≡ how_many s cause (take i vs)
    → n + cond (is_counted s cause v) 1 0 ≡ how_many s cause (take (i + 1) vs)
many_more s cause vs i v n lt is h =
    let test : Verdict → Bool = is_counted s cause in
    let more : take (i + 1) vs ≡ take i vs ++ v ∷ [] = ap (λ k. take k vs) (add-one i) ∙ take-suc vs i v lt
    ∙ ap (λ x. take i vs ++ x ∷ []) (sym is) in
    sym (ap (how_many s cause) more ∙ ap length (filter-append test (take i vs) (v ∷ []))
    ∙ length-append (filter test (take i vs)) (cond (test v) (v ∷ []) [])
    ∙ ap (λ k. how_many s cause (take i vs) + k) (one (test v) v) ∙ ap (λ k. k + cond (test v) 1 0) (sym h))

-- What was counted of the first so many verdicts. Their bytes and those of the others are all bytes; each verdict has
-- fewer than 2 ^ 63, also below 0.
pub record AreCounts (s : Subject) (vs : List Verdict) (i : ℕ) (c : Counts) : Type 0 where
  pub kept : c.kept ≡ how_many s Kept (take i vs)
  pub few_kept : c.kept ≤ i
  pub partition : c.by_partition ≡ how_many s Partition (take i vs)
  pub few_partition : c.by_partition ≤ i
  pub bounds : c.by_bounds ≡ how_many s Bounds (take i vs)
  pub few_bounds : c.by_bounds ≤ i
  pub told : c.bytes +ℤ bytes_left s (drop i vs) ≡ bytes_left s vs
  pub low : (pos 0 -ℤ pos (i * 2 ^ 63)) ≤ℤ c.bytes
  pub high : c.bytes ≤ℤ pos (i * 2 ^ 63)

-- nothing yet
pub counted_none : (s : Subject) (vs : List Verdict)
    → AreCounts s vs 0 (record { kept = 0; by_partition = 0; by_bounds = 0; bytes = pos 0 })
counted_none s vs = record {
  kept = refl;
  few_kept = omega arith;
  partition = refl;
  few_partition = omega arith;
  bounds = refl;
  few_bounds = omega arith;
  told = omega (arith, ints);
  low = omega (arith, ints);
  high = omega (arith, ints);
}

-- a verdict more
pub counted_more : (s : Subject) (vs : List Verdict) (i : ℕ) (v : Verdict) (c d : Counts) → i < length vs
    → v ≡ get_or vs i v → AreCounts s vs i c → d ≡ counts_with s v c
    → (c.bytes -ℤ pos (2 ^ 63)) ≤ℤ d.bytes → d.bytes ≤ℤ (c.bytes +ℤ pos (2 ^ 63)) → AreCounts s vs (i + 1) d
counted_more s vs i v c d lt is so with low high =
    let kept : d.kept ≡ c.kept + cond (is_counted s Kept v) 1 0 = ap (λ (x : Counts). x.kept) with in
    let partition : d.by_partition ≡ c.by_partition + cond (is_counted s Partition v) 1 0 =
    ap (λ (x : Counts). x.by_partition) with in
    let bounds : d.by_bounds ≡ c.by_bounds + cond (is_counted s Bounds v) 1 0 =
    ap (λ (x : Counts). x.by_bounds) with in
    let bytes : d.bytes ≡ c.bytes +ℤ bytes_in s v = ap (λ (x : Counts). x.bytes) with in
    record {
      kept = kept ∙ many_more s Kept vs i v c.kept lt is so.kept;
      few_kept = omega (arith, kept, flag_at_most (is_counted s Kept v), so.few_kept);
      partition = partition ∙ many_more s Partition vs i v c.by_partition lt is so.partition;
      few_partition = omega (arith, partition, flag_at_most (is_counted s Partition v), so.few_partition);
      bounds = bounds ∙ many_more s Bounds vs i v c.by_bounds lt is so.bounds;
      few_bounds = omega (arith, bounds, flag_at_most (is_counted s Bounds v), so.few_bounds);
      told = ap (λ z. z +ℤ bytes_left s (drop (i + 1) vs)) bytes
          ∙ bytes_more s vs i v c.bytes (bytes_left s vs) lt is so.told;
      low = omega (arith, ints, low, so.low);
      high = omega (arith, ints, high, so.high);
    }

abbrev made : ℕ → ℕ → ℕ → ℤ → Counts
made kept partition bounds bytes = record { kept = kept; by_partition = partition; by_bounds = bounds; bytes = bytes }

-- all verdicts
pub counted_all : (s : Subject) (vs : List Verdict) (i : ℕ) (c : Counts) → length vs ≤ i → AreCounts s vs i c
    → c ≡ counts_of s vs
counted_all s vs i c all so =
    let whole = take_all i vs all in
    let left : drop i vs ≡ [] = drop_of_length-le vs all in
    let kept : c.kept ≡ how_many s Kept vs = so.kept ∙ ap (how_many s Kept) whole in
    let partition : c.by_partition ≡ how_many s Partition vs = so.partition ∙ ap (how_many s Partition) whole in
    let bounds : c.by_bounds ≡ how_many s Bounds vs = so.bounds ∙ ap (how_many s Bounds) whole in
    let none : bytes_left s (drop i vs) ≡ pos 0 = ap (bytes_left s) left in
    let bytes : c.bytes ≡ bytes_left s vs = omega (arith, ints, none, so.told) in
    let all_same : made c.kept c.by_partition c.by_bounds c.bytes ≡ made (how_many s Kept vs) (how_many s Partition vs)
    (how_many s Bounds vs) (bytes_left s vs) = rw (kept, partition, bounds, bytes) refl in
    all_same
