-- Segments of which one changes.
use Rattle.std.proofs.Common.{◌≡◌, ◌<◌, ◌++◌, ℕ, zero, suc, [], ◌∷◌, List, refl, ap, length, slice_set}
use Rattle.std.proofs.Common.{arith}
use Rattle.ice_manifest_reading.specs.declared.entry.Entry.{Entry}
use Rattle.ice_state_entries.specs.declared.entries.EntryNumber.{EntryNumber}
use Rattle.ice_state_entries.specs.Kept.{Kept, Keeps as KeepsIn, AreKept, IsKept, entries_at, entry_at}
use Rattle.ice_state_entries.proofs.Keeping.{AreAdded, one_added}
use Rattle.ice_state.specs.Segments.{Segmented, segment_at, Keeps}

same_kept : (kept : Kept) → KeepsIn kept kept
same_kept kept = λ n here. (here, refl)

-- the others keep what they kept
pub keeps_others : (kept : Segmented) (k : ℕ) (one : Kept) → KeepsIn (segment_at kept k) one
    → Keeps kept (slice_set kept k one)
keeps_others [] k one keeps n here = absurd (omega (arith, here))
keeps_others (x ∷ xs) zero one keeps zero here = (here, keeps)
keeps_others (x ∷ xs) zero one keeps (suc n) here = (here, same_kept (segment_at xs n))
keeps_others (x ∷ xs) (suc k) one keeps zero here = (omega arith, same_kept x)
keeps_others (x ∷ xs) (suc k) one keeps (suc n) here =
    let rest = keeps_others xs k one keeps n (omega (arith, here)) in
    (omega (arith, rest.0), rest.1)

pub changed_at : (kept : Segmented) (k : ℕ) (one : Kept) → k < length kept
    → segment_at (slice_set kept k one) k ≡ one
changed_at [] k one some = absurd (omega (arith, some))
changed_at (x ∷ xs) zero one some = refl
changed_at (x ∷ xs) (suc k) one some = changed_at xs k one (omega (arith, some))

pub unchanged : (kept : Segmented) (k : ℕ) (one : Kept) → one ≡ segment_at kept k → slice_set kept k one ≡ kept
unchanged [] k one same = refl
unchanged (x ∷ xs) zero one same = ap (λ k. k ∷ xs) same
unchanged (x ∷ xs) (suc k) one same = ap (λ ks. x ∷ ks) (unchanged xs k one same)

-- one more entry was put behind those that were put before
pub record OneMore (old new : Kept) (numbers : List EntryNumber) (n : EntryNumber) (e : Entry) : Type 0 where
  pub kept : AreKept new (numbers ++ n ∷ [])
  pub entries : entries_at new (numbers ++ n ∷ []) ≡ entries_at old numbers ++ e ∷ []

pub one_more : (old new : Kept) (numbers : List EntryNumber) (n : EntryNumber) (e : Entry) → KeepsIn old new
    → AreKept old numbers → IsKept new n → entry_at new n ≡ e → OneMore old new numbers n e
one_more old new numbers n e keeps kept here same =
    let before : AreAdded old old numbers (entries_at old numbers) =
    record { keeps = same_kept old; kept = kept; same = refl } in
    let all = one_added old old new numbers (entries_at old numbers) n e before keeps here same in
    record { kept = all.kept; entries = all.same }
