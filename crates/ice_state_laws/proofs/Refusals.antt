-- Which rows are bad, and the first of them.
use Rattle.std.proofs.Common.{◌≡◌, ◌⊎◌, inl, inr, ℕ, List, [], ◌∷◌, ◌++◌, refl, sym, ap, ◌∙◌, Bool, true, false, cond}
use Rattle.std.proofs.Common.{filter, subst, Option, Some, None, option_map, Result, Ok, Err}
use Rattle.std.specs.List.{Contains, AllByRecursion, flat_map}
use Rattle.std.specs.Str.{bytes_eq}
use Rattle.contract_words.proofs.Sorted.{Rises, irreflexive}
use Rattle.ice_meta.specs.declared.spec.Spec.{Spec}
use Rattle.ice_manifest_reading.specs.declared.entry.Entry.{Entry}
use Rattle.ice_manifest_reading.specs.declared.entry.Live.{Live}
use Rattle.ice_manifest_fields.specs.declared.fault.ManifestFault.{ManifestFault}
use Rattle.ice_manifest_reading.specs.declared.row.Row.{Row}
use Rattle.ice_state.specs.declared.fault.FinishFault.{FinishFault}
use Rattle.ice_state.specs.declared.fault.FinishFault.TheVariants as faults
use Rattle.ice_state.specs.Contents.{World, manifest_of}
use Rattle.ice_state.specs.Lines.{OwnedLine}
use Rattle.ice_state.specs.Outcomes.{first_or, twice}
use Rattle.ice_state.specs.Pruning.{Pruner}
use Rattle.ice_state.specs.Scans.{by_row_path, row_before}
use Rattle.ice_state.specs.Snapshots.{fault_or_none, bad_row}
use Rattle.ice_state.proofs.Elements.{contains_more, filtered, refiltered, all_at, sorted_contains, contains_sorted}
use Rattle.ice_state.proofs.Scans.{row_order}
use Rattle.ice_state_laws.specs.Plans.{IsBad, NoneIsBad}
use Rattle.ice_state_laws.proofs.Lists.{at_head, in_none, first_or_behind, in_flat, from_flat, none_in}

-- ---- the first fault, or the plan

pub first_or_ok : (fs : List FinishFault) (made plan : List OwnedLine) → first_or fs made ≡ Ok plan
    → (fs ≡ []) × (made ≡ plan)
first_or_ok [] made plan h = (refl, cc)
first_or_ok (f ∷ fs) made plan h = cc

pub first_or_err : (fs : List FinishFault) (made : List OwnedLine) (g : FinishFault) → first_or fs made ≡ Err g
    → (gs : List FinishFault) × (fs ≡ g ∷ gs)
first_or_err [] made g h = cc
first_or_err (f ∷ fs) made g h = let e : f ≡ g = cc in (fs, ap (λ x. x ∷ fs) e)

-- the first of two lists of faults
pub first_of_both : (fs gs : List FinishFault) (g : FinishFault) (rest : List FinishFault) → fs ++ gs ≡ g ∷ rest
    → ((hs : List FinishFault) × (fs ≡ g ∷ hs)) ⊎ ((fs ≡ []) × (gs ≡ g ∷ rest))
first_of_both [] gs g rest h = inr (refl, h)
first_of_both (f ∷ fs) gs g rest h = let e : f ≡ g = cc in inl (fs, ap (λ x. x ∷ fs) e)

-- ---- paths that stand twice

abbrev pub IsTwice : FinishFault → Type 0
IsTwice (faults.PathTwice path) = Unit {0}
IsTwice _ = ⊥

pub twice_only : (xs : List Entry) → AllByRecursion IsTwice (twice xs)
twice_only [] = tt
twice_only (x ∷ []) = tt
twice_only (x ∷ y ∷ ys) = elim (bytes_eq x.file.path y.file.path) as (λ v. AllByRecursion IsTwice
    (cond v (faults.PathTwice x.file.path ∷ twice (y ∷ ys)) (twice (y ∷ ys)))) [
      | true ↦ (tt, twice_only (y ∷ ys))
      | false ↦ twice_only (y ∷ ys)
    ]

pub first_twice : (xs : List Entry) (g : FinishFault) (gs : List FinishFault) → twice xs ≡ g ∷ gs → IsTwice g
first_twice xs g gs h = (subst (AllByRecursion IsTwice) h (twice_only xs)).0

pub path_of_twice : (g : FinishFault) → IsTwice g → (path : List ℕ) × (g ≡ faults.PathTwice path)
path_of_twice (faults.PathTwice path) h = (path, refl)
path_of_twice (faults.Missing path) h = absurd h
path_of_twice (faults.Bad path fault) h = absurd h
path_of_twice faults.Memory h = absurd h

-- ---- bad rows

module _ (world : World) (specs : List Spec) where
  in_bad : (row : Row) (fault : ManifestFault) → IsBad world specs row fault
      → bad_row world specs row ≡ faults.Bad row.path fault ∷ []
  in_bad row fault (bytes, here, bad) =
      ap (λ (o : Option (List ℕ)). fault_or_none row (option_map (manifest_of specs row) o)) here
      ∙ ap (λ (m : Result (List Live) ManifestFault). fault_or_none row (Some m)) bad

  from_manifest : (row : Row) (bytes : List ℕ) (m : Result (List Live) ManifestFault) (g : FinishFault)
      → manifest_of specs row bytes ≡ m → Contains (fault_or_none row (Some m)) g
      → (fault : ManifestFault) × (manifest_of specs row bytes ≡ Err fault) × (faults.Bad row.path fault ≡ g)
  from_manifest row bytes (Ok found) g e c = absurd (in_none g c)
  from_manifest row bytes (Err fault) g e c = elim (first_or_behind (faults.Bad row.path fault) g [] c) as
      (λ _. (f : ManifestFault) × (manifest_of specs row bytes ≡ Err f) × (faults.Bad row.path f ≡ g)) [
        | inl k ↦ (fault, e, k)
        | inr n ↦ absurd (in_none g n)
      ]

  from_bytes : (row : Row) (o : Option (List ℕ)) (g : FinishFault) → world row.path ≡ o
      → Contains (fault_or_none row (option_map (manifest_of specs row) o)) g
      → (fault : ManifestFault) × IsBad world specs row fault × (faults.Bad row.path fault ≡ g)
  from_bytes row None g e c = absurd (in_none g c)
  from_bytes row (Some bytes) g e c = let m = from_manifest row bytes (manifest_of specs row bytes) g refl c in
      (m.0, (bytes, e, m.1), m.2)

  from_bad : (row : Row) (g : FinishFault) → Contains (bad_row world specs row) g
      → (fault : ManifestFault) × IsBad world specs row fault × (faults.Bad row.path fault ≡ g)
  from_bad row g c = from_bytes row (world row.path) g refl c

  -- a row is bad with one fault
  pub one_fault : (row : Row) (fault other : ManifestFault) → IsBad world specs row fault → IsBad world specs row other
      → fault ≡ other
  one_fault row fault other h k =
      let e : faults.Bad row.path fault ∷ [] ≡ faults.Bad row.path other ∷ [] = sym (in_bad row fault h)
      ∙ in_bad row other
      k in
      cc

  module _ (p : Pruner) where
    abbrev pub bads : List Row → List FinishFault
    bads rows = flat_map (bad_row world specs) (filter p.wants rows)

    bad_among : (rows : List Row) (row : Row) (fault : ManifestFault) → Contains rows row → p.wants row ≡ true
        → IsBad world specs row fault → Contains (bads rows) (faults.Bad row.path fault)
    bad_among rows row fault c w h = in_flat (bad_row world specs) (filter p.wants rows) row (faults.Bad row.path fault)
        (refiltered p.wants rows row c w)
        (subst (λ (fs : List FinishFault). Contains fs (faults.Bad row.path fault)) (sym (in_bad row fault h))
        (at_head (faults.Bad row.path fault) []))

    among_bad : (rows : List Row) (g : FinishFault) → Contains (bads rows) g
        → (row : Row) × (fault : ManifestFault) × Contains rows row × (p.wants row ≡ true)
        × IsBad world specs row fault × (faults.Bad row.path fault ≡ g)
    among_bad rows g c =
        let r = from_flat (bad_row world specs) (filter p.wants rows) g c in
        let f = filtered p.wants rows r.0 r.1 in
        let b = from_bad r.0 g r.2 in
        (r.0, b.0, f.0, f.1, b.1, b.2)

    pub good_from : (rows : List Row) → bads (by_row_path rows) ≡ [] → NoneIsBad p world specs rows
    good_from rows e = λ row fault c w h. in_none (faults.Bad row.path fault)
        (subst (λ (fs : List FinishFault). Contains fs (faults.Bad row.path fault)) e
        (bad_among (by_row_path rows) row fault (contains_sorted row_before rows row c) w h))

    pub from_good : (rows : List Row) → NoneIsBad p world specs rows → bads (by_row_path rows) ≡ []
    from_good rows good = none_in (bads (by_row_path rows)) (λ g c.
        let b = among_bad (by_row_path rows) g c in
        good b.0 b.1 (sorted_contains row_before rows b.0 b.2) b.3 b.4)

    -- what is told of the first of rows that rise: no bad wanted row stands before it
    abbrev pub IsFirstBad : List Row → FinishFault → Type 0
    IsFirstBad rows g = (row : Row) × (fault : ManifestFault) × Contains rows row × (p.wants row ≡ true)
        × IsBad world specs row fault × (faults.Bad row.path fault ≡ g)
        × ((other : Row) (its : ManifestFault) → Contains rows other → p.wants other ≡ true
        → IsBad world specs other its → row_before other row ≡ false)

    first_here : (row : Row) (rows : List Row) (g : FinishFault) → Rises row_before row_order (row ∷ rows)
        → p.wants row ≡ true → Contains (bad_row world specs row) g → IsFirstBad (row ∷ rows) g
    first_here row rows g r w c =
        let b = from_bad row g c in (
          row,
          b.0,
          at_head row rows,
          w,
          b.1,
          b.2,
          λ other its d v h. all_at (λ (y : Row). row_before y row ≡ false) (row ∷ rows) other
              (irreflexive row_before row_order row, r.0) d,
        )

    later : (row : Row) (rows : List Row) (g : FinishFault)
        → ((fault : ManifestFault) → p.wants row ≡ true → IsBad world specs row fault → ⊥)
        → IsFirstBad rows g → IsFirstBad (row ∷ rows) g
    later row rows g good (first, fault, c, w, h, e, least) = (
      first,
      fault,
      contains_more row first rows c,
      w,
      h,
      e,
      λ other its d v k. elim (first_or_behind row other rows d) as (λ _. row_before other first ≡ false) [
        | inl same ↦ absurd (good its (subst (λ (y : Row). p.wants y ≡ true) (sym same) v)
            (subst (λ (y : Row). IsBad world specs y its) (sym same) k))
        | inr m ↦ least other its m v k
      ],
    )

    here_or_later : (row : Row) (rows : List Row) (g : FinishFault) (gs fs : List FinishFault)
        → Rises row_before row_order (row ∷ rows) → p.wants row ≡ true → bad_row world specs row ≡ fs
        → fs ++ bads rows ≡ g ∷ gs → (bads rows ≡ g ∷ gs → IsFirstBad rows g) → IsFirstBad (row ∷ rows) g
    here_or_later row rows g gs [] r w e h rest = later row rows g (λ fault v k.
        let n : [] ≡ faults.Bad row.path fault ∷ [] = sym e ∙ in_bad row fault k in
        cc) (rest h)
    here_or_later row rows g gs (f ∷ fs) r w e h rest =
        let same : f ≡ g = cc in
        first_here row rows g r w (subst (λ (xs : List FinishFault). Contains xs g) (sym e)
        (subst (λ (x : FinishFault). Contains (x ∷ fs) g) (sym same) (at_head g fs)))

    pub first_bad : (rows : List Row) (g : FinishFault) (gs : List FinishFault) → Rises row_before row_order rows
        → bads rows ≡ g ∷ gs → IsFirstBad rows g
    first_bad [] g gs r h = cc
    first_bad (row ∷ rows) g gs r h =
        let P : (b : Bool) → p.wants row ≡ b
        → flat_map (bad_row world specs) (cond b (row ∷ filter p.wants rows) (filter p.wants rows)) ≡ g ∷ gs
        → IsFirstBad (row ∷ rows) g =
        λ b. elim b as (λ v. p.wants row ≡ v
        → flat_map (bad_row world specs) (cond v (row ∷ filter p.wants rows) (filter p.wants rows)) ≡ g ∷ gs
        → IsFirstBad (row ∷ rows) g) [
          | true ↦ λ w k. here_or_later row rows g gs (bad_row world specs row) r w refl k
              (λ e. first_bad rows g gs r.1 e)
          | false ↦ λ w k. later row rows g (λ fault v b. let no : true ≡ false = sym v ∙ w in cc)
              (first_bad rows g gs r.1 k)
        ] in
        P (p.wants row) refl h
