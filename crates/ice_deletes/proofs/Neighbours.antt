-- What names no data file applies to all neighbours or to none.
use Rattle.std.proofs.Common.{◌≡◌, ◌==◌, ◌≤◌, ℕ, ℤ, Bool, true, false, not, ◌&&◌, List, ◌++◌, map, filter, cond}
use Rattle.std.proofs.Common.{refl, ap, sym, subst, ◌∙◌, arith, Option, Some, None, is_none}
use Rattle.std.specs.List.{Contains, count_by}
use Rattle.std.specs.List.Sorted.{IsPermutation}
use Rattle.std.proofs.lemmas.List.{map-append}
use Rattle.std.proofs.lemmas.List.Elements.{filter_agree}
use Rattle.std.proofs.lemmas.List.Sorted.{Contains-permutation, IsPermutation-append, IsPermutation-map}
use Rattle.std.proofs.lemmas.List.Sorted.{IsPermutation-sym, IsPermutation-trans, sum_by-IsPermutation}
use Rattle.ice_value.specs.declared.cell.Cell.{Cell}
use Rattle.ice_value.specs.declared.file_content.FileContent.{FileContent}
use Rattle.ice_value.specs.declared.file_content.FileContent.TheVariants.{Data, PositionDeletes, EqualityDeletes}
use Rattle.ice_value.specs.Applying.{DataKey, DeleteKey, applies, applies_as}
use Rattle.ice_deletes.specs.declared.finder.Last.{Last}
use Rattle.ice_deletes.specs.declared.group.Group.{Group}
use Rattle.ice_deletes.specs.declared.group.Group.TheVariants.{Positions, Referenced, Equalities, Everywhere}
use Rattle.ice_deletes.specs.declared.index.Hits.{Hits}
use Rattle.ice_deletes.specs.Found.{data_key, holds, is_content, lent, numbers_where, AppliesAt}
use Rattle.ice_deletes.specs.Groups.{is_in}
use Rattle.ice_deletes.specs.Indexes.{AreDistinct}
use Rattle.ice_deletes.specs.Neighbours.{AreHits, WereFound, neighbour, numbers_for}
use Rattle.ice_deletes.proofs.Lists.{filter-filter}
use Rattle.ice_deletes.proofs.Parts.{by_group, of_file}
use Rattle.ice_deletes.proofs.Slices.{all_four, lent_applies, lent_once}

module _ (spec_id : ℤ) (tuple : List Cell) (number : ℕ) (p q : List ℕ) where
  abbrev pub at : List ℕ → DataKey
  at path = data_key spec_id tuple number path

  agree : (g : Group) → ((d : DeleteKey) → (is_in g d && applies (at p) d) ≡ (is_in g d && applies (at q) d))
      → (files : List (ℕ × DeleteKey)) → numbers_for g (at p) files ≡ numbers_for g (at q) files
  agree g h files = ap (map (λ e. e.0)) (filter_agree _ _ (λ e. h e.1) files)

  pub positions_agree : (files : List (ℕ × DeleteKey))
      → numbers_for Positions (at p) files ≡ numbers_for Positions (at q) files
  positions_agree = agree Positions (λ d. go d.content d.referenced d) where
    go : (K : FileContent) (r : Option (List ℕ)) (d : DeleteKey)
        → ((is_content PositionDeletes K && is_none r) && applies_as K (at p)
        (record d { content = K; referenced = r }))
        ≡ ((is_content PositionDeletes K && is_none r) && applies_as K (at q)
        (record d { content = K; referenced = r }))
    go Data r d = refl
    go PositionDeletes None d = refl
    go PositionDeletes (Some r) d = refl
    go EqualityDeletes r d = refl

  pub equalities_agree : (files : List (ℕ × DeleteKey))
      → numbers_for Equalities (at p) files ≡ numbers_for Equalities (at q) files
  equalities_agree = agree Equalities (λ d. go d.content d) where
    go : (K : FileContent) (d : DeleteKey)
        → ((is_content EqualityDeletes K && not d.unpartitioned) && applies_as K (at p) d)
        ≡ ((is_content EqualityDeletes K && not d.unpartitioned) && applies_as K (at q) d)
    go Data d = refl
    go PositionDeletes d = refl
    go EqualityDeletes d = refl

  pub everywhere_agree : (files : List (ℕ × DeleteKey))
      → numbers_for Everywhere (at p) files ≡ numbers_for Everywhere (at q) files
  everywhere_agree = agree Everywhere (λ d. go d.content d) where
    go : (K : FileContent) (d : DeleteKey)
        → ((is_content EqualityDeletes K && d.unpartitioned) && applies_as K (at p) d)
        ≡ ((is_content EqualityDeletes K && d.unpartitioned) && applies_as K (at q) d)
    go Data d = refl
    go PositionDeletes d = refl
    go EqualityDeletes d = refl

carried : (ms ns old new : List ℕ) → ms ≡ ns → old ≡ new → IsPermutation ms old → IsPermutation ns new
carried ms ns old new e f p =
    let P : List ℕ → Type 0 = λ ks. IsPermutation ks new in
    let Q : List ℕ → Type 0 = λ ks. IsPermutation ms ks in
    subst P e (subst Q f p)

-- what was found for a neighbour, but for what names the data file
pub found_again : (files : List (ℕ × DeleteKey)) (spec_id : ℤ) (tuple : List Cell) (number : ℕ) (p path : List ℕ)
    (found hits : Hits) → AreHits (data_key spec_id tuple number p) files found
    → hits.positions.now ≡ found.positions.now
    → IsPermutation (numbers_for Referenced (data_key spec_id tuple number path) files) hits.referenced.now
    → hits.equalities.now ≡ found.equalities.now → hits.everywhere.now ≡ found.everywhere.now
    → AreHits (data_key spec_id tuple number path) files hits
found_again files spec_id tuple number p path found hits were positions referenced equalities everywhere = record {
  positions = carried _ _ _ _ (positions_agree spec_id tuple number p path files) (sym positions) were.positions;
  referenced = referenced;
  equalities = carried _ _ _ _ (equalities_agree spec_id tuple number p path files) (sym equalities) were.equalities;
  everywhere = carried _ _ _ _ (everywhere_agree spec_id tuple number p path files) (sym everywhere) were.everywhere;
}

-- what was found for a data file before that is a neighbour
pub found_before : (files : List (ℕ × DeleteKey)) (l : Last) (spec_id : ℤ) (tuple : List Cell) (number : ℕ)
    → WereFound files l → l.spec_id ≡ spec_id → l.tuple.now ≡ tuple → l.sequence_number ≡ number
    → (path : List ℕ) × AreHits (data_key spec_id tuple number path) files l.hits
found_before files l spec_id tuple number (path, found) spec same of_number =
    let key : neighbour l path ≡ data_key spec_id tuple number path = cc in
    let P : DataKey → Type 0 = λ x. AreHits x files l.hits in
    (path, subst P key found)

-- the same where the spec was read back
pub of_spec : (files : List (ℕ × DeleteKey)) (s spec_id : ℤ) (tuple : List Cell) (number : ℕ) (path : List ℕ)
    (hits : Hits) → s ≡ spec_id → AreHits (data_key s tuple number path) files hits
    → AreHits (data_key spec_id tuple number path) files hits
of_spec files s spec_id tuple number path hits same found =
    let P : ℤ → Type 0 = λ t. AreHits (data_key t tuple number path) files hits in subst P same found

swapped : (a b : Bool) → (a && b) ≡ (b && a)
swapped true true = refl
swapped true false = refl
swapped false true = refl
swapped false false = refl

no_data : (x : DataKey) (d : DeleteKey) → (applies x d && not (holds Data d)) ≡ applies x d
no_data x d = go d.content where
  go : (K : FileContent) → (applies_as K x d && not (is_content Data K)) ≡ applies_as K x d
  go Data = refl
  go PositionDeletes = swapped (applies_as PositionDeletes x d) true
  go EqualityDeletes = swapped (applies_as EqualityDeletes x d) true

-- what is found is what applies
module _ (x : DataKey) (files : List (ℕ × DeleteKey)) (hits : Hits) (found : AreHits x files hits) where
  abbrev number_of : ℕ × DeleteKey → ℕ
  number_of e = e.0

  abbrev apply : List (ℕ × DeleteKey)
  apply = filter (of_file (applies x)) files

  of_group : (g : Group) → map number_of (filter (of_file (is_in g)) apply) ≡ numbers_for g x files
  of_group g = ap (map number_of) (filter-filter (of_file (applies x)) (of_file (is_in g)) files
      ∙ filter_agree _ _ (λ e. swapped (applies x e.1) (is_in g e.1)) files)

  all_apply : filter (of_file (λ d. not (holds Data d))) apply ≡ apply
  all_apply = filter-filter (of_file (applies x)) (of_file (λ d. not (holds Data d))) files
      ∙ filter_agree _ _ (λ e. no_data x e.1) files

  abbrev groups : List ℕ
  groups = numbers_for Positions x files ++ numbers_for Referenced x files ++ numbers_for Equalities x files
      ++ numbers_for Everywhere x files

  by_groups : IsPermutation (numbers_where (applies x) files) groups
  by_groups =
      let a = filter (of_file (is_in Positions)) apply in
      let b = filter (of_file (is_in Referenced)) apply in
      let c = filter (of_file (is_in Equalities)) apply in
      let d = filter (of_file (is_in Everywhere)) apply in
      let split : map number_of (a ++ b ++ c ++ d) ≡ groups =
      map-append number_of (a ++ b ++ c) d
      ∙ ap (λ l. l ++ map number_of d) (map-append number_of (a ++ b) c
      ∙ ap (λ l. l ++ map number_of c) (map-append number_of a b))
      ∙ all_four _ _ _ _ _ _ _ _ (of_group Positions) (of_group Referenced) (of_group Equalities)
      (of_group Everywhere) in
      let P : List ℕ → Type 0 = λ ns. IsPermutation (numbers_where (applies x) files) ns in
      let Q : List (ℕ × DeleteKey) → Type 0 = λ es. IsPermutation es (a ++ b ++ c ++ d) in
      subst P split (IsPermutation-map number_of apply (a ++ b ++ c ++ d) (subst Q all_apply (by_group apply)))

  all_lent : IsPermutation (numbers_where (applies x) files) (lent hits)
  all_lent = IsPermutation-trans (numbers_where (applies x) files) groups (lent hits) by_groups
      (IsPermutation-append _ _ _ _ (IsPermutation-append _ _ _ _ (IsPermutation-append _ _ _ _ found.positions
      found.referenced) found.equalities) found.everywhere)

  pub hits_apply : (n : ℕ) → (Contains (lent hits) n → AppliesAt files x n)
      × (AppliesAt files x n → Contains (lent hits) n)
  hits_apply n =
      let numbers = numbers_where (applies x) files in (
        λ c. (lent_applies files x n).0 (Contains-permutation (lent hits) numbers n
            (IsPermutation-sym numbers (lent hits) all_lent) c),
        λ a. Contains-permutation numbers (lent hits) n all_lent ((lent_applies files x n).1 a),
      )

  pub hits_once : AreDistinct files → (n : ℕ) → count_by (λ m. m == n) (lent hits) ≤ 1
  hits_once distinct n =
      let one : ℕ → ℕ = λ m. cond (m == n) 1 0 in
      let same : count_by (λ m. m == n) (lent hits) ≡ count_by (λ m. m == n) (numbers_where (applies x) files) =
      sum_by-IsPermutation one (numbers_where (applies x) files) (lent hits) all_lent in
      let once = lent_once files x distinct n in
      omega arith
