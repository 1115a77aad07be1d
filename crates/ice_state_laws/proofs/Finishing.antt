-- What a state finishes with that took every wanted row, and which row is missing where it didn't.
use Rattle.std.proofs.Common.{◌≡◌, inl, inr, ◌<◌, ℕ, ℤ, zero, suc, List, [], ◌∷◌, ◌++◌, refl, sym, ap, ◌∙◌, Bool, true}
use Rattle.std.proofs.Common.{false, filter, arith, subst, length, Option, Some, None, option_map, Ok, Err}
use Rattle.std.specs.List.{Contains, AllByRecursion, flat_map, slice_get}
use Rattle.contract_words.proofs.Sorted.{Rises, irreflexive, sorted_rises, sorted_ties, unique}
use Rattle.ice_meta.specs.declared.spec.Spec.{Spec}
use Rattle.ice_manifest_reading.specs.declared.entry.Live.{Live}
use Rattle.ice_manifest_reading.specs.declared.row.Row.{Row}
use Rattle.ice_manifest_reading.specs.Manifests.{entries}
use Rattle.ice_state.specs.declared.fault.FinishFault.{FinishFault}
use Rattle.ice_state.specs.declared.fault.FinishFault.TheVariants as faults
use Rattle.ice_state.specs.Readings.{Good, Bad}
use Rattle.ice_state.specs.Contents.{Content, World, IsOf, live_by, manifest_of, reading, reading_of, slot_of, slots_of}
use Rattle.ice_state.specs.Contents.{content, is_row_taken}
use Rattle.ice_state.specs.Lines.{OwnedLine}
use Rattle.ice_state.specs.Outcomes.{missing, missing_at, bad, bad_at, entries_in, kept_in, by_path, twice, plan_over}
use Rattle.ice_state.specs.Outcomes.{first_or, faults_of, outcome, outcome_of}
use Rattle.ice_state.specs.Pruning.{Pruner, pruner_of, kept, IsOpen}
use Rattle.ice_state.specs.Scans.{Scanned, pruner, by_row_path, row_before}
use Rattle.ice_state.specs.Snapshots.{live, live_or_none, fault_or_none, bad_row, plan_of_rows, plan_of_snapshot}
use Rattle.ice_state.specs.Specs.{spec_of}
use Rattle.ice_state.proofs.Elements.{all_at}
use Rattle.ice_state.proofs.Filters.{filter_all}
use Rattle.ice_state.proofs.Scans.{row_order}
use Rattle.ice_state_laws.specs.Finishing.{IsLeastUntaken, TookAll}
use Rattle.ice_state_laws.proofs.Entries.{kept-append, one_path}
use Rattle.ice_state_laws.proofs.Lists.{at_head, all_in, both_none, none_or_first}
use Rattle.ice_state_laws.proofs.Refusals.{first_or_ok, first_or_err, first_of_both, first_twice, IsTwice}
use Rattle.ice_state_laws.proofs.Snapshots.{Prunes, SameEntries, over_kept}

-- ---- rows that weren't taken

abbrev Untaken : List Row → Content → Row → Type 0
Untaken rows slots row = (i : ℕ) × (slice_get rows i ≡ Some row) × (is_row_taken slots i ≡ false)

is_there : (rows : List Row) (i : ℕ) (row : Row) → slice_get rows i ≡ Some row → Contains rows row
is_there [] i row h = cc
is_there (r ∷ rows) zero row h = let e : r ≡ row = cc in subst (λ (x : Row). Contains (r ∷ rows) x) e (at_head r rows)
is_there (r ∷ rows) (suc i) row h = let m = is_there rows i row h in (suc m.0, omega (arith, m.1), m.2)

-- what is told of the first row that is missing: none that stands before it is missing
abbrev IsFirstMissing : List Row → Content → FinishFault → Type 0
IsFirstMissing rows slots g = (row : Row) × Untaken rows slots row × (faults.Missing row.path ≡ g)
    × ((other : Row) → Untaken rows slots other → row_before other row ≡ false)

first_missing : (rows : List Row) (slots : Content) (g : FinishFault) (gs : List FinishFault)
    → Rises row_before row_order rows → length slots ≡ length rows → missing rows slots ≡ g ∷ gs
    → IsFirstMissing rows slots g
first_missing [] slots g gs r l h = cc
first_missing (row ∷ rows) [] g gs r l h = absurd (omega (arith, l))
first_missing (row ∷ rows) (None ∷ slots) g gs r l h = (
  row,
  (0, refl, refl),
  cc,
  λ (other : Row) u. all_at (λ (y : Row). row_before y row ≡ false) (row ∷ rows) other
      (irreflexive row_before row_order row, r.0) (is_there (row ∷ rows) u.0 other u.1),
)
first_missing (row ∷ rows) (Some taken ∷ slots) g gs r l h =
    let m = first_missing rows slots g gs r.1 (omega (arith, l)) h in (
      m.0,
      (suc m.1.0, m.1.1, m.1.2),
      m.2,
      λ (other : Row) u. behind m.0 other u.0 u.1 u.2 m.3,
    ) where
      behind : (first other : Row) (i : ℕ) → slice_get (row ∷ rows) i ≡ Some other
          → is_row_taken (Some taken ∷ slots) i ≡ false
          → ((y : Row) → Untaken rows slots y → row_before y first ≡ false) → row_before other first ≡ false
      behind first other zero e t least = cc
      behind first other (suc i) e t least = least other (i, e, t)

-- where none is missing each was taken, and the other way round
all_taken : (rows : List Row) (slots : Content) → length slots ≡ length rows → missing rows slots ≡ [] → (i : ℕ)
    → i < length rows → is_row_taken slots i ≡ true
all_taken [] slots l h i k = absurd (omega (arith, k))
all_taken (row ∷ rows) [] l h i k = absurd (omega (arith, l))
all_taken (row ∷ rows) (None ∷ slots) l h i k = cc
all_taken (row ∷ rows) (Some taken ∷ slots) l h zero k = refl
all_taken (row ∷ rows) (Some taken ∷ slots) l h (suc i) k = all_taken rows slots (omega (arith, l)) h i
    (omega (arith, k))

none_missing : (rows : List Row) (slots : Content) → length slots ≡ length rows
    → ((i : ℕ) → i < length rows → is_row_taken slots i ≡ true) → missing rows slots ≡ []
none_missing [] slots l h = refl
none_missing (row ∷ rows) [] l h = absurd (omega (arith, l))
none_missing (row ∷ rows) (None ∷ slots) l h = let no = h 0 (omega arith) in cc
none_missing (row ∷ rows) (Some taken ∷ slots) l h = none_missing rows slots (omega (arith, l))
    (λ i k. h (suc i) (omega (arith, k)))

is_below : (rows : List Row) (i : ℕ) (row : Row) → slice_get rows i ≡ Some row → i < length rows
is_below [] i row h = cc
is_below (r ∷ rows) zero row h = omega arith
is_below (r ∷ rows) (suc i) row h = omega (arith, is_below rows i row h)

-- ---- what no bad row tells

abbrev IsBadFault : FinishFault → Type 0
IsBadFault (faults.Bad path fault) = Unit {0}
IsBadFault _ = ⊥

bad_only : (rows : List Row) (slots : Content) → AllByRecursion IsBadFault (bad rows slots)
bad_only [] slots = tt
bad_only (row ∷ rows) [] = tt
bad_only (row ∷ rows) (None ∷ slots) = bad_only rows slots
bad_only (row ∷ rows) (Some (Good entries) ∷ slots) = bad_only rows slots
bad_only (row ∷ rows) (Some (Bad fault) ∷ slots) = (tt, bad_only rows slots)

abbrev IsMissing : FinishFault → Type 0
IsMissing (faults.Missing path) = Unit {0}
IsMissing _ = ⊥

not_bad : (g : FinishFault) → IsMissing g → IsBadFault g → ⊥
not_bad (faults.Missing path) h k = k
not_bad (faults.Bad path fault) h k = h
not_bad (faults.PathTwice path) h k = k
not_bad faults.Memory h k = k

not_twice : (g : FinishFault) → IsMissing g → IsTwice g → ⊥
not_twice (faults.Missing path) h k = k
not_twice (faults.Bad path fault) h k = k
not_twice (faults.PathTwice path) h k = h
not_twice faults.Memory h k = k

-- ---- the least row that wasn't taken

pub took_all : (scan : Scanned) (c : Content) → IsOf scan c → (plan : List OwnedLine) → outcome scan c ≡ Ok plan
    → TookAll scan c
took_all scan c of plan h =
    let none = (first_or_ok (faults_of scan.wanted c) (plan_over (by_path (kept_in c)) (by_path (kept_in c)))
    plan h).0 in
    let front = (both_none (missing scan.wanted c ++ bad scan.wanted c) (twice (by_path (kept_in c))) none).0 in
    all_taken scan.wanted c of (both_none (missing scan.wanted c) (bad scan.wanted c) front).0

module _ (scan : Scanned) (c : Content) (of : IsOf scan c) (rises : Rises row_before row_order scan.wanted) where
  abbrev made : List OwnedLine
  made = plan_over (by_path (kept_in c)) (by_path (kept_in c))

  least_of : (g : FinishFault) (gs : List FinishFault) → missing scan.wanted c ≡ g ∷ gs → IsFirstMissing scan.wanted c g
  least_of g gs h = first_missing scan.wanted c g gs rises of h

  is_missing : (path : List ℕ) (fs : List FinishFault) → faults_of scan.wanted c ≡ faults.Missing path ∷ fs
      → (gs : List FinishFault) × (missing scan.wanted c ≡ faults.Missing path ∷ gs)
  is_missing path fs h =
      elim (first_of_both (missing scan.wanted c ++ bad scan.wanted c) (twice (by_path (kept_in c)))
      (faults.Missing path)
      fs h) as (λ _. (gs : List FinishFault) × (missing scan.wanted c ≡ faults.Missing path ∷ gs)) [
        | inr (none, t) ↦ absurd (not_twice (faults.Missing path) tt
            (first_twice (by_path (kept_in c)) (faults.Missing path) fs t))
        | inl (hs, k) ↦
            elim (first_of_both (missing scan.wanted c) (bad scan.wanted c) (faults.Missing path) hs k) as
            (λ _. (gs : List FinishFault) × (missing scan.wanted c ≡ faults.Missing path ∷ gs)) [
              | inl m ↦ m
              | inr (none, b) ↦ absurd (not_bad (faults.Missing path) tt
                  (subst (AllByRecursion IsBadFault) b (bad_only scan.wanted c)).0)
            ]
      ]

  pub to_missing : (path : List ℕ) → outcome scan c ≡ Err (faults.Missing path) → IsLeastUntaken scan c path
  to_missing path h =
      let e = first_or_err (faults_of scan.wanted c) made (faults.Missing path) h in
      let m = is_missing path e.0 e.1 in
      let f = least_of (faults.Missing path) m.0 m.1 in
      let same : f.0.path ≡ path = cc in
      (f.0, f.1, same, f.3)

  pub from_missing : (path : List ℕ) → IsLeastUntaken scan c path → outcome scan c ≡ Err (faults.Missing path)
  from_missing path (row, u, at, least) =
      elim (none_or_first (missing scan.wanted c)) as (λ _. outcome scan c ≡ Err (faults.Missing path)) [
        | inl none ↦
            (let taken = all_taken scan.wanted c of none u.0 (is_below scan.wanted u.0 row u.1) in cc)
        | inr (g, gs, e) ↦
            let f = least_of g gs e in
            let same : f.0.path ≡ path = one_path f.0.path row.path (least f.0 f.1) (f.3 row u) ∙ at in
            ap (λ (fs : List FinishFault). first_or ((fs ++ bad scan.wanted c) ++ twice (by_path (kept_in c))) made) e
            ∙ ap Err (sym f.2 ∙ ap faults.Missing same)
      ]

-- ---- the outcome of all wanted rows

module _ (world : World) (scan : Scanned) where
  -- a row that was taken gives what it has in the world
  given : (row : Row) (o : Option (List ℕ)) → missing_at row (option_map (reading_of scan row) o) ≡ []
      → (bad_at row (option_map (reading_of scan row) o) ≡ fault_or_none row
      (option_map (manifest_of scan.specs row) o))
      × (entries_in (option_map (reading_of scan row) o) ≡ kept (pruner scan)
      (live_or_none (option_map (manifest_of scan.specs row) o)))
  given row None h = cc
  given row (Some bytes) h = elim (manifest_of scan.specs row bytes) as
      (λ m. (bad_at row (Some (reading (pruner scan) m)) ≡ fault_or_none row (Some m))
      × (entries_in (Some (reading (pruner scan) m)) ≡ kept (pruner scan) (live_or_none (Some m))))
      [ Ok found ↦ (refl, refl) | Err fault ↦ (refl, refl) ]

  given_slot : (t : Bool) (row : Row) → missing_at row (slot_of world scan t row) ≡ []
      → (bad_at row (slot_of world scan t row) ≡ bad_row world scan.specs row)
      × (entries_in (slot_of world scan t row) ≡ kept (pruner scan) (live world scan.specs row))
  given_slot true row h = given row (world row.path) h
  given_slot false row h = cc

  given_slots : (ts : List Bool) (rows : List Row) → length (slots_of world scan ts rows) ≡ length rows
      → missing rows (slots_of world scan ts rows) ≡ []
      → (bad rows (slots_of world scan ts rows) ≡ flat_map (bad_row world scan.specs) rows)
      × (kept_in (slots_of world scan ts rows) ≡ kept (pruner scan) (flat_map (live world scan.specs) rows))
  given_slots [] [] l h = (refl, refl)
  given_slots [] (row ∷ rows) l h = absurd (omega (arith, l))
  given_slots (t ∷ ts) [] l h = (refl, refl)
  given_slots (t ∷ ts) (row ∷ rows) l h =
      let n = both_none (missing_at row (slot_of world scan t row)) (missing rows (slots_of world scan ts rows)) h in
      let one = given_slot t row n.0 in
      let more = given_slots ts rows (omega (arith, l)) n.1 in (
        rw (one.0, more.0) refl,
        rw (one.1, more.1) (sym (kept-append (pruner scan) (live world scan.specs row)
            (flat_map (live world scan.specs) rows))),
      )

sorted_stays : (rows : List Row) → Rises row_before row_order rows → by_row_path rows ≡ rows
sorted_stays rows r = unique row_before row_order (by_row_path rows) rows (sorted_rises row_before row_order rows) r
    (λ x. sorted_ties row_before row_order x rows)

flat_map-same : {X Y : Type 0} (f g : X → List Y) → ((x : X) → f x ≡ g x) → (xs : List X)
    → flat_map f xs ≡ flat_map g xs
flat_map-same f g same [] = refl
flat_map-same f g same (x ∷ xs) = rw (same x, flat_map-same f g same xs) refl

-- by specs in which each id finds the same
module _ (world : World) (specs other : List Spec) (same : (id : ℤ) → spec_of specs id ≡ spec_of other id) where
  manifest_same : (row : Row) (bytes : List ℕ) → manifest_of specs row bytes ≡ manifest_of other row bytes
  manifest_same row bytes = ap (λ o. live_by o row bytes) (same row.spec_id)

  pub live_same : (row : Row) → live world specs row ≡ live world other row
  live_same row = elim (world row.path) as (λ o. live_or_none (option_map (manifest_of specs row) o) ≡ live_or_none
      (option_map (manifest_of other row) o)) [
        | None ↦ refl
        | Some bytes ↦ ap (λ m. live_or_none (Some m)) (manifest_same row bytes)
      ]

  bad_same : (row : Row) → bad_row world specs row ≡ bad_row world other row
  bad_same row = elim (world row.path) as (λ o. fault_or_none row (option_map (manifest_of specs row) o) ≡ fault_or_none
      row (option_map (manifest_of other row) o)) [
        | None ↦ refl
        | Some bytes ↦ ap (λ m. fault_or_none row (Some m)) (manifest_same row bytes)
      ]

  plan_same : (p : Pruner) (rows : List Row) → plan_of_rows p world specs rows ≡ plan_of_rows p world other rows
  plan_same p rows = rw (
    flat_map-same (live world specs) (live world other) live_same rows,
    flat_map-same (bad_row world specs) (bad_row world other) bad_same (filter p.wants rows),
  ) refl

module _ (same : SameEntries) (prunes : Prunes) (world : World) (scan : Scanned) (specs : List Spec)
    (opens : IsOpen specs (pruner_of scan.filter specs)) (specs_are : (id : ℤ)
    → spec_of scan.specs id ≡ spec_of specs id)
    (pruner_is : pruner scan ≡ pruner_of scan.filter specs) (rises : Rises row_before row_order scan.wanted)
    (wanted : (row : Row) → Contains scan.wanted row → (pruner scan).wants row ≡ true) where
  abbrev p : Pruner
  p = pruner_of scan.filter specs

  wants_all : filter p.wants scan.wanted ≡ scan.wanted
  wants_all = filter_all p.wants scan.wanted (all_in (λ (row : Row). p.wants row ≡ true) scan.wanted
      (λ row c. ap (λ (q : Pruner). q.wants row) (sym pruner_is) ∙ wanted row c))

  of_wanted : (ts : List Bool) → IsOf scan (content world scan ts) → missing scan.wanted (content world scan ts) ≡ []
      → outcome_of scan.wanted (content world scan ts) ≡ plan_of_rows p world specs scan.wanted
  of_wanted ts of none =
      let g = given_slots world scan ts scan.wanted of none in
      let k : kept_in (content world scan ts) ≡ kept p (flat_map (live world specs) scan.wanted) =
      g.1 ∙ ap (λ (q : Pruner). kept q (flat_map (live world scan.specs) scan.wanted)) pruner_is
      ∙ ap (λ (ls : List Live). kept p ls) (flat_map-same (live world scan.specs) (live world specs)
      (live_same world scan.specs specs specs_are) scan.wanted) in
      let b : bad scan.wanted (content world scan ts) ≡ flat_map (bad_row world specs) (filter p.wants scan.wanted) =
      g.0 ∙ flat_map-same (bad_row world scan.specs) (bad_row world specs)
      (bad_same world scan.specs specs specs_are) scan.wanted
      ∙ ap (flat_map (bad_row world specs)) (sym wants_all) in
      rw (none, b, k, over_kept same prunes p world specs scan.wanted opens) refl

  pub finished : (ts : List Bool) → IsOf scan (content world scan ts) → TookAll scan (content world scan ts)
      → outcome scan (content world scan ts) ≡ plan_of_snapshot p world specs scan.wanted
  finished ts of took =
      of_wanted ts of (none_missing scan.wanted (content world scan ts) of took)
      ∙ ap (plan_of_rows p world specs) (sym (sorted_stays scan.wanted rises))
