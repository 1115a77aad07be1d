-- Where only some columns are looked at, nothing is wrong with those between them.
use Rattle.std.proofs.Common.{◌≡◌, ◌⊎◌, inl, inr, ⊎_elim, ◌∙◌, ℕ, zero, suc, ◌+◌, ◌-◌, ◌<◌, ◌≤◌, ℤ, Bool, ◌&&◌, ◌||◌}
use Rattle.std.proofs.Common.{List, [], ◌∷◌, ◌++◌, length, get_or, take, pos, refl, ap, sym, subst, Option, None, Some}
use Rattle.std.proofs.Common.{arith, true, false, Bor}
use Rattle.std.specs.List.{Contains}
use Rattle.std.specs.List.Sorted.{IsNonDecreasing, IsPermutation}
use Rattle.std.specs.Ordering.{int_eq}
use Rattle.std.proofs.lemmas.Bool.{cases_lt}
use Rattle.std.proofs.lemmas.Bool.Decides.{Decides-int_eq}
use Rattle.std.proofs.lemmas.Grind.{flat_map-append}
use Rattle.std.proofs.lemmas.List.{append-nil, get_or_default, take_all, take_more}
use Rattle.std.proofs.lemmas.List.Elements.{Contains-append_left, Contains-push}
use Rattle.std.proofs.lemmas.List.Sorted.{Contains-permutation}
use Rattle.ice_project.specs.Files.{same_count}
use Rattle.ice_value.specs.Columns.{bound_of, count_of}
use Rattle.ice_value.specs.Pairs.{bounds_said, counts_said, last_of}
use Rattle.ice_value.specs.declared.file_bounds.FileBounds.{FileBounds}
use Rattle.icescan_audit_findings.specs.ColumnFlaws.{column_flaws, columns_flaws, cross, has_bound}
use Rattle.icescan_audit_findings.specs.ColumnFlaws.{has_bounds_of_nulls, has_excess_nulls, has_negative_counts}
use Rattle.icescan_audit_findings.specs.ColumnFlaws.{is_less_than_none, is_more}
use Rattle.icescan_audit_findings.specs.Flaws.{flaw_where}
use Rattle.icescan_audit_findings.specs.Ids.{AreRising}
use Rattle.icescan_audit_findings.specs.Places.{FindsEach, HasFlawed, HasPlaces, HasPlacesOf}
use Rattle.icescan_audit_findings.specs.declared.basis.TypedColumn.{TypedColumn}
use Rattle.icescan_audit_findings.specs.declared.finding.ColumnFlaw.TheVariants.{BoundsOfNulls, NegativeCounts}
use Rattle.icescan_audit_findings.specs.declared.finding.Flaw.{Flaw}
use Rattle.icescan_audit_findings.specs.declared.finding.Flaw.TheVariants.{BoundsCross, ExcessNulls, OfColumn}
use Rattle.icescan_audit_findings.proofs.AmongPairs.{said_at}
use Rattle.icescan_audit_findings.proofs.ColumnsTold.{bound_told, count_told, flaws_more}
use Rattle.icescan_audit_findings.proofs.LastSaid.{last_more}
use Rattle.icescan_audit_findings.proofs.Little.{no_low}

uncounted : (id : ℤ) (values nulls : Option ℤ) (bound : Bool) → values ≡ None → nulls ≡ None
    → flaw_where (is_more nulls values) (ExcessNulls id)
    ++ (flaw_where (is_less_than_none values || is_less_than_none nulls) (OfColumn NegativeCounts id)
    ++ flaw_where (same_count values nulls && bound) (OfColumn BoundsOfNulls id)) ≡ []
uncounted id values nulls bound e f = rw (e, f) refl

-- of a column without counts and a lower bound nothing is wrong
pub unsaid : (file : FileBounds) (c : TypedColumn) → count_of c.id file.value_counts ≡ None
    → count_of c.id file.null_counts ≡ None → bound_of c.id file.lower_bounds ≡ None → column_flaws file c ≡ []
unsaid file c values nulls low =
    ap (λ b. flaw_where b (BoundsCross c.id) ++ (flaw_where (has_excess_nulls file c.id) (ExcessNulls c.id)
    ++ (flaw_where (has_negative_counts file c.id) (OfColumn NegativeCounts c.id)
    ++ flaw_where (has_bounds_of_nulls file c.id) (OfColumn BoundsOfNulls c.id))))
    (ap (λ l. cross c.column_type l (bound_of c.id file.upper_bounds)) low
    ∙ no_low c.column_type (bound_of c.id file.upper_bounds))
    ∙ uncounted c.id (count_of c.id file.value_counts) (count_of c.id file.null_counts) (has_bound file c.id) values nulls

abbrev pub none : TypedColumn
none = record { id = pos 0; column_type = None }

-- the places so far are in front of this one
abbrev pub ArePassed : List TypedColumn → List ℕ → ℕ → ℕ → Type 0
ArePassed cs places i from = (j : ℕ) → j < i → get_or places j 0 < length cs → get_or places j 0 < from

below_or_at : (k i : ℕ) → k < i + 1 → (k < i) ⊎ (k ≡ i)
below_or_at k i h = grind arith

module _ (cs : List TypedColumn) (places : List ℕ) (i from p : ℕ) (before : ArePassed cs places i from)
    (is : p ≡ get_or places i 0) where
  -- a place that is passed over, and one that is looked at
  pub skip_passed : (p < from) ⊎ (length cs ≤ p) → ArePassed cs places (i + 1) from
  skip_passed why = λ j less low. ⊎_elim
      (λ earlier. before j earlier low)
      (λ here. let same : get_or places j 0 ≡ p = ap (λ n. get_or places n 0) here ∙ sym is in
      ⊎_elim (λ front. omega (arith, same, front)) (λ high. absurd (omega (arith, same, high, low))) why)
      (below_or_at j i less)

  pub take_passed : from ≤ p → ArePassed cs places (i + 1) (p + 1)
  take_passed behind = λ j less low. ⊎_elim
      (λ earlier. let front : get_or places j 0 < from = before j earlier low in omega (arith, front, behind))
      (λ here. let same : get_or places j 0 ≡ p = ap (λ n. get_or places n 0) here ∙ sym is in omega (arith, same))
      (below_or_at j i less)

module _ (file : FileBounds) (cs : List TypedColumn) where
  -- columns with which nothing is wrong add nothing
  passed : (i n : ℕ) → i + n ≤ length cs
      → ((k : ℕ) → i ≤ k → k < i + n → column_flaws file (get_or cs k none) ≡ [])
      → columns_flaws file (take (i + n) cs) ≡ columns_flaws file (take i cs)
  passed i zero low h = let same : i + zero ≡ i = omega arith in ap (λ k. columns_flaws file (take k cs)) same
  passed i (suc n) low h =
      let more : i + suc n ≡ i + n + 1 = omega arith in
      let c = get_or cs (i + n) none in
      ap (λ k. columns_flaws file (take k cs)) more
      ∙ ap (columns_flaws file) (take_more cs (i + n) none (omega arith))
      ∙ flat_map-append (column_flaws file) (take (i + n) cs) (c ∷ [])
      ∙ ap (λ (ls : List Flaw). columns_flaws file (take (i + n) cs) ++ ls)
      (append-nil (column_flaws file c) ∙ h (i + n) (omega arith) (omega arith))
      ∙ append-nil (columns_flaws file (take (i + n) cs))
      ∙ passed i n (omega arith) (λ k from to. h k from (omega arith))

  pub all_passed : (i j : ℕ) → i ≤ j → j ≤ length cs
      → ((k : ℕ) → i ≤ k → k < j → column_flaws file (get_or cs k none) ≡ [])
      → columns_flaws file (take j cs) ≡ columns_flaws file (take i cs)
  all_passed i j less low h =
      let same : j ≡ i + (j - i) = omega arith in
      ap (λ k. columns_flaws file (take k cs)) same
      ∙ passed i (j - i) (omega arith) (λ k from to. h k from (omega arith))

  module _ (places : List ℕ) (flawed : HasFlawed file cs places) where
    -- nothing is wrong with a column that is behind those that were passed and in front of those that come
    between : (i from : ℕ) → ArePassed cs places i from → (k : ℕ) → k < length cs → from ≤ k
        → ((j : ℕ) → i ≤ j → j < length places → k < get_or places j 0)
        → column_flaws file (get_or cs k none) ≡ []
    between i from before k low behind after = flawed k none low (λ at. ⊎_elim
        (λ earlier. let there = at_place at in
        let below : get_or places at.0 0 < from = before at.0 earlier (subst (λ n. n < length cs) (sym there) low) in
        absurd (omega (arith, below, there, behind)))
        (λ later. let there = at_place at in
        let above : k < get_or places at.0 0 = after at.0 later at.1 in
        absurd (omega (arith, above, there)))
        (cases_lt at.0 i))
      where
        at_place : (at : Contains places k) → get_or places at.0 0 ≡ k
        at_place at = get_or_default places at.0 0 k at.1 ∙ at.2

    -- one more place
    pub place_more : (i from p : ℕ) (old mid new : List Flaw) → IsNonDecreasing places → i < length places
        → p ≡ get_or places i 0 → from ≤ p → p < length cs → ArePassed cs places i from
        → mid ≡ old ++ columns_flaws file (take from cs)
        → new ≡ mid ++ column_flaws file (get_or cs p none)
        → new ≡ old ++ columns_flaws file (take (p + 1) cs)
    place_more i from p old mid new sorted low is behind there before kept put =
        let after : (k : ℕ) → k < p → (j : ℕ) → i ≤ j → j < length places → k < get_or places j 0 = λ k less j more at.
        let least : get_or places i 0 ≤ get_or places j 0 = sorted i j 0 more at in
        omega (arith, less, least, is) in
        let same : columns_flaws file (take p cs) ≡ columns_flaws file (take from cs) = all_passed from p behind
        (omega arith) (λ k front less. between i from before k (omega arith) front (after k less)) in
        flaws_more file cs p none old mid new there (kept ∙ ap (λ (ls : List Flaw). old ++ ls) (sym same)) put

    -- the last place
    pub places_end : (i from : ℕ) (old mid : List Flaw) → length places ≤ i → from ≤ length cs → ArePassed cs places i from
        → mid ≡ old ++ columns_flaws file (take from cs) → mid ≡ old ++ columns_flaws file cs
    places_end i from old mid all low before kept =
        let same : columns_flaws file (take (length cs) cs) ≡ columns_flaws file (take from cs) = all_passed from
        (length cs) low (omega arith) (λ k front less. between i from before k less front
        (λ j more at. absurd (omega (arith, more, at, all)))) in
        kept ∙ ap (λ (ls : List Flaw). old ++ ls)
        (sym same ∙ ap (columns_flaws file) (take_all (length cs) cs (omega arith)))

-- ---- the places

-- one more column beside its place
pub numbered_more : (cs : List TypedColumn) (places : List (ℤ × ℕ)) (i : ℕ) (p : ℤ × ℕ) → i < length cs
    → ((k : ℕ) (d : TypedColumn) → k < i → Contains places ((get_or cs k d).id, k))
    → p ≡ ((get_or cs i none).id, i)
    → (k : ℕ) (d : TypedColumn) → k < i + 1 → Contains (places ++ p ∷ []) ((get_or cs k d).id, k)
numbered_more cs places i p low kept is k d less = ⊎_elim
    (λ earlier. Contains-append_left places (p ∷ []) ((get_or cs k d).id, k) (kept k d earlier))
    (λ here.
    let same : p ≡ ((get_or cs k d).id, k) = is
    ∙ ap (λ (c : TypedColumn). (c.id, i)) (get_or_default cs i none d low)
    ∙ ap (λ n. ((get_or cs n d).id, n)) (sym here) in
    subst (Contains (places ++ p ∷ [])) same (Contains-push places p))
    (below_or_at k i less)

pub finds_each : (cs : List TypedColumn) (places : List (ℤ × ℕ)) → AreRising places → HasPlaces cs places
    → FindsEach cs places
finds_each cs places rising has k d low =
    let at = has k d low in
    let id = (get_or cs k d).id in
    said_at places id rising at.0 (id, k) at.1 (ap (λ (q : ℤ × ℕ). q.0) at.2)
    ∙ ap (λ (q : ℤ × ℕ). Some q.1) at.2

module _ {T : Type 0} (index : List (ℤ × ℕ)) where
  pub still : (pairs : List (ℤ × T)) (found more : List ℕ) → ((k : ℕ) → Contains found k → Contains more k)
      → HasPlacesOf index pairs found → HasPlacesOf index pairs more
  still pairs found more kept told id k there = ⊎_elim (λ none. inl none) (λ at. inr (kept k at)) (told id k there)

  module _ (pairs : List (ℤ × T)) (i : ℕ) (p : ℤ × T) (low : i < length pairs) (is : p ≡ get_or pairs i p)
      (found : List ℕ) (told : HasPlacesOf index (take i pairs) found) where
    -- a pair of another id
    other_told : (more : List ℕ) → ((k : ℕ) → Contains found k → Contains more k) → (id : ℤ) (k : ℕ)
        → int_eq p.0 id ≡ false → last_of id index ≡ Some k
        → (last_of id (take (i + 1) pairs) ≡ None) ⊎ Contains more k
    other_told more kept id k e there = ⊎_elim
        (λ none. inl (last_more id pairs i p false low is e ∙ none))
        (λ at. inr (kept k at))
        (told id k there)

    pub place_told : (place : ℕ) → Some place ≡ last_of p.0 index
        → HasPlacesOf index (take (i + 1) pairs) (found ++ place ∷ [])
    place_told place at id k there = go (int_eq p.0 id) refl where
      go : (b : Bool) → int_eq p.0 id ≡ b
          → (last_of id (take (i + 1) pairs) ≡ None) ⊎ Contains (found ++ place ∷ []) k
      go true e =
          let same : Some place ≡ Some k = at ∙ ap (λ (z : ℤ). last_of z index) ((Decides-int_eq p.0 id).0 e) ∙ there in
          let one : place ≡ k = cc in
          inr (subst (Contains (found ++ place ∷ [])) one (Contains-push found place))
      go false e = other_told (found ++ place ∷ []) (Contains-append_left found (place ∷ [])) id k e there

    pub place_untold : None ≡ last_of p.0 index → HasPlacesOf index (take (i + 1) pairs) found
    place_untold at id k there = go (int_eq p.0 id) refl where
      go : (b : Bool) → int_eq p.0 id ≡ b → (last_of id (take (i + 1) pairs) ≡ None) ⊎ Contains found k
      go true e =
          let same : None ≡ Some k = at ∙ ap (λ (z : ℤ). last_of z index) ((Decides-int_eq p.0 id).0 e) ∙ there in
          absurd cc
      go false e = other_told found (λ k h. h) id k e there

  -- pairs say nothing of a column at no place
  unmentioned : (pairs : List (ℤ × T)) (found : List ℕ) (id : ℤ) (k : ℕ) → HasPlacesOf index pairs found
      → last_of id index ≡ Some k → (Contains found k → ⊥) → last_of id pairs ≡ None
  unmentioned pairs found id k told at absent = ⊎_elim (λ none. none) (λ there. absurd (absent there)) (told id k at)

module _ (file : FileBounds) (cs : List TypedColumn) (index : List (ℤ × ℕ)) (values nulls : List (ℤ × ℤ))
    (lows : List (ℤ × Bor (List ℕ))) (found sorted : List ℕ) where
  pub all_flawed : FindsEach cs index → counts_said values ≡ file.value_counts → counts_said nulls ≡ file.null_counts
      → bounds_said lows ≡ file.lower_bounds → HasPlacesOf index values found → HasPlacesOf index nulls found
      → HasPlacesOf index lows found → IsPermutation found sorted → HasFlawed file cs sorted
  all_flawed finds of_values of_nulls of_lows told_values told_nulls told_lows same k d low absent =
      let c = get_or cs k d in
      let at = finds k d low in
      let gone : Contains found k → ⊥ = λ there. absent (Contains-permutation found sorted k same there) in
      unsaid file c
      (sym (count_told c.id None values file.value_counts of_values
      (sym (unmentioned index values found c.id k told_values at gone))))
      (sym (count_told c.id None nulls file.null_counts of_nulls
      (sym (unmentioned index nulls found c.id k told_nulls at gone))))
      (sym (bound_told c.id None lows file.lower_bounds of_lows
      (sym (unmentioned index lows found c.id k told_lows at gone))))
