-- Segments of entries, and what stands in them.
use Rattle.std.proofs.Common.{◌≡◌, ◌<◌, ◌+◌, ◌++◌, ℕ, zero, suc, [], ◌∷◌, refl, ap, ◌∙◌, length, slice_set, arith}
use Rattle.std.proofs.lemmas.List.{length-append}
use Rattle.ice_state_entries.specs.Kept.{Kept, Keeps as KeepsIn}
use Rattle.ice_state.specs.Segments.{Segmented, segment_at, Keeps}

keeps_refl_in : (kept : Kept) → KeepsIn kept kept
keeps_refl_in kept = λ n here. (here, refl)

pub keeps-refl : (kept : Segmented) → Keeps kept kept
keeps-refl kept = λ n here. (here, keeps_refl_in (segment_at kept n))

pub keeps-trans : (a b c : Segmented) → Keeps a b → Keeps b c → Keeps a c
keeps-trans a b c first next = λ n here.
    let one = first n here in
    let two = next n one.0 in (
      two.0,
      λ m at.
          let x = one.1 m at in
          let y = two.1 m x.0 in
          (y.0, y.1 ∙ x.1),
    )

-- segments that are put behind leave the first ones as they are
pub segment_first : (firsts kept : Segmented) (n : ℕ) → n < length firsts
    → segment_at (firsts ++ kept) n ≡ segment_at firsts n
segment_first [] kept n l = absurd (omega arith)
segment_first (x ∷ xs) kept zero l = refl
segment_first (x ∷ xs) kept (suc n) l = segment_first xs kept n (omega arith)

pub length-both : (firsts kept : Segmented) → length (firsts ++ kept) ≡ length firsts + length kept
length-both firsts kept = length-append firsts kept

pub keeps_firsts : (firsts kept : Segmented) → Keeps firsts (firsts ++ kept)
keeps_firsts firsts kept = λ n here.
    (omega (arith, here, length-both firsts kept), λ m at. rw (segment_first firsts kept n here) (at, refl))

-- those that are put behind so many stand so much further on
pub segment_behind : (firsts kept : Segmented) (n : ℕ)
    → segment_at (firsts ++ kept) (length firsts + n) ≡ segment_at kept n
segment_behind [] kept n =
    let same : 0 + n ≡ n = omega arith in
    ap (segment_at kept) same
segment_behind (x ∷ xs) kept n =
    let one : suc (length xs) + n ≡ suc (length xs + n) = omega arith in
    ap (segment_at (x ∷ xs ++ kept)) one ∙ segment_behind xs kept n

-- only the first segment changes
pub keeps_rest : (kept : Segmented) (one : Kept) → KeepsIn (segment_at kept 0) one → Keeps kept (slice_set kept 0 one)
keeps_rest [] one keeps n here = absurd (omega (arith, here))
keeps_rest (x ∷ xs) one keeps zero here = (here, keeps)
keeps_rest (x ∷ xs) one keeps (suc n) here = (here, keeps_refl_in (segment_at xs n))

pub first_set : (kept : Segmented) (one : Kept) → 0 < length kept → segment_at (slice_set kept 0 one) 0 ≡ one
first_set [] one some = absurd (omega (arith, some))
first_set (x ∷ xs) one some = refl

pub same_set : (kept : Segmented) (one : Kept) → one ≡ segment_at kept 0 → slice_set kept 0 one ≡ kept
same_set [] one same = refl
same_set (x ∷ xs) one same = ap (λ k. k ∷ xs) same
