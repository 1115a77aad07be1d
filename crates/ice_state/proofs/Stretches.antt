-- Files at places, and stretches of them that are alike.
use Rattle.std.proofs.Common.{◌≡◌, ◌<◌, ◌+◌, ◌++◌, ℕ, zero, suc, List, [], ◌∷◌, sym, ap, refl, subst, arith, length}
use Rattle.std.proofs.Common.{get_or}
use Rattle.std.proofs.Common.{◌⊎◌, inl, inr}
use Rattle.std.proofs.lemmas.List.{get_or-map}
use Rattle.ice_manifest_reading.specs.declared.entry.Entry.{Entry}
use Rattle.ice_state_entries.specs.Alike.{AreAlike}
use Rattle.ice_state_entries.specs.Kept.{no_entry}
use Rattle.ice_state.specs.declared.kept.segments.FileNumber.{FileNumber}
use Rattle.ice_state.specs.Segments.{AreKept, IsKept, Segmented, entry_at, entries_at}
use Rattle.ice_state.specs.SharedPlaces.{AreBeside}
use Rattle.ice_state.specs.Stretches.{AreLikeFirst, IsStretch}

-- ---- files at places

pub number_kept : (kept : Segmented) (ns : List FileNumber) (i : ℕ) (d : FileNumber) → AreKept kept ns → i < length ns
    → IsKept kept (get_or ns i d)
number_kept kept [] i d all l = absurd (omega arith)
number_kept kept (n ∷ ns) zero d all l = all.0
number_kept kept (n ∷ ns) (suc i) d all l = number_kept kept ns i d all.1 (omega arith)

-- the entry of the file at a place
pub file_entry : (kept : Segmented) (ns : List FileNumber) (i : ℕ) (d : FileNumber) → i < length ns
    → entry_at kept (get_or ns i d) ≡ get_or (entries_at kept ns) i no_entry
file_entry kept ns i d l = sym (get_or-map (entry_at kept) ns i d no_entry l)

-- ---- one file more

pub kept_more : (kept : Segmented) (ns : List FileNumber) (n : FileNumber) → AreKept kept ns → IsKept kept n
    → AreKept kept (ns ++ n ∷ [])
kept_more kept [] n all one = (one, tt)
kept_more kept (m ∷ ms) n all one = (all.0, kept_more kept ms n all.1 one)

-- one more that is alike
one_alike : (es : List Entry) (first next : ℕ) → AreAlike (get_or es first no_entry) (get_or es next no_entry)
    → AreLikeFirst es first next → AreLikeFirst es first (next + 1)
one_alike es first next here all = λ i after before.
    elim (split i next (omega (arith, before))) [
      | inl less ↦ all i after less
      | inr same ↦ subst (λ n. AreAlike (get_or es first no_entry) (get_or es n no_entry)) (sym same) here
    ]
  where
    split : (i n : ℕ) → i < suc n → (i < n) ⊎ (i ≡ n)
    split zero zero l = inr refl
    split zero (suc n) l = inl (omega arith)
    split (suc i) zero l = absurd (omega arith)
    split (suc i) (suc n) l = elim
        (split i n (omega arith)) [ inl less ↦ inl (omega arith) | inr same ↦ inr (ap suc same) ]

-- ---- stretches that are looked for

-- a file alone, and one more that is like it
pub stretch_of_one : (kept : Segmented) (files : List FileNumber) (first : ℕ) → first < length files
    → IsStretch kept files first (first + 1)
stretch_of_one kept files first l = record {
  after = omega arith;
  within = omega (arith, l);
  alike = λ i after before. absurd (omega (arith, after, before));
}

pub stretch_more : (kept : Segmented) (files : List FileNumber) (first end : ℕ) (d : FileNumber)
    → IsStretch kept files first end → end < length files
    → AreAlike (entry_at kept (get_or files first d)) (entry_at kept (get_or files end d))
    → IsStretch kept files first (end + 1)
stretch_more kept files first end d is l near =
    let here = file_entry kept files first d (omega (arith, is.after, l)) in
    let there = file_entry kept files end d l in
    record {
      after = omega (arith, is.after);
      within = omega (arith, l);
      alike = one_alike (entries_at kept files) first end
          (subst (AreAlike (get_or (entries_at kept files) first no_entry)) there
          (subst (λ (x : Entry). AreAlike x (entry_at kept (get_or files end d))) here near)) is.alike;
    }

-- those that are alike are neighbours
pub alike_beside : (files : List Entry) (first end : ℕ) → AreLikeFirst files first end → AreBeside files first end
alike_beside files first end all = λ i low high.
    let like = all i low high in record { spec = like.spec; tuple = like.tuple; number = like.number }
