-- The numbers of the delete files of each kind that apply, by what an index lends.
use Rattle.std.proofs.Common.{◌≡◌, ℕ, Bool, true, false, not, ◌&&◌, List, [], ◌∷◌, ◌++◌, map, filter, refl, ap, subst}
use Rattle.std.proofs.Common.{◌∙◌}
use Rattle.std.proofs.Common.{is_none, is_some}
use Rattle.std.specs.List.{enumerate_from}
use Rattle.std.specs.List.Sorted.{IsPermutation}
use Rattle.std.proofs.lemmas.List.{map-append}
use Rattle.std.proofs.lemmas.List.Elements.{filter_agree}
use Rattle.std.proofs.lemmas.List.Sorted.{IsPermutation-append, IsPermutation-map, IsPermutation-trans}
use Rattle.ice_value.specs.declared.file_content.FileContent.{FileContent}
use Rattle.ice_value.specs.declared.file_content.FileContent.TheVariants.{Data, PositionDeletes, EqualityDeletes}
use Rattle.ice_value.specs.Applying.{DataKey, DeleteKey, applies}
use Rattle.ice_manifest_reading.specs.declared.entry.Entry.{Entry}
use Rattle.ice_deletes.proofs.Lists.{filter-filter}
use Rattle.ice_deletes.proofs.Parts.{parted}
use Rattle.ice_deletes.specs.declared.group.Group.TheVariants.{Positions, Referenced, Equalities, Everywhere}
use Rattle.ice_deletes.specs.Found.{is_content, holds, numbers_where, numbered_deletes}
use Rattle.ice_deletes.specs.Groups.{is_in}
use Rattle.ice_state.specs.Applying.{data_key_of}
use Rattle.ice_state.specs.Parts.{ascending, numbers_of, places_of}
use Rattle.ice_state.proofs.Ascending.{index_ascends}

abbrev of_file : (DeleteKey → Bool) → ℕ × DeleteKey → Bool
of_file p e = p e.1

abbrev number_of : ℕ × DeleteKey → ℕ
number_of e = e.0

-- the numbers of those that pass one test, by a second one
numbers_parted : (p u q r : DeleteKey → Bool) → ((k : DeleteKey) → (p k && u k) ≡ q k)
    → ((k : DeleteKey) → (p k && not (u k)) ≡ r k) → (index : List (ℕ × DeleteKey))
    → IsPermutation (numbers_where p index) (numbers_where q index ++ numbers_where r index)
numbers_parted p u q r both one index =
    let split = parted (of_file p) (of_file u) (of_file q) (of_file r) (λ e. both e.1) (λ e. one e.1) index in
    let P : List ℕ → Type 0 = λ ns. IsPermutation (numbers_where p index) ns in
    subst P (map-append number_of (filter (of_file q) index) (filter (of_file r) index))
    (IsPermutation-map number_of (filter (of_file p) index) (filter (of_file q) index ++ filter (of_file r) index)
    split)

moved : (a b c : Bool) → ((a && b) && c) ≡ ((a && c) && b)
moved true true true = refl
moved true true false = refl
moved true false true = refl
moved true false false = refl
moved false b c = refl

moved_twice : (a b c : Bool) → ((a && b) && not (not c)) ≡ ((a && c) && b)
moved_twice a b true = moved a b true
moved_twice a b false = moved a b false

-- those that name no data file, and those that name one
pub both_positions : (index : List (ℕ × DeleteKey)) (x : DataKey) (some others : List ℕ)
    → IsPermutation (numbers_where (λ d. is_in Positions d && applies x d) index) some
    → IsPermutation (numbers_where (λ d. is_in Referenced d && applies x d) index) others
    → IsPermutation (numbers_of PositionDeletes index x) (some ++ others)
both_positions index x some others first rest =
    IsPermutation-trans (numbers_of PositionDeletes index x)
    (numbers_where (λ d. is_in Positions d && applies x d) index
    ++ numbers_where (λ d. is_in Referenced d && applies x d) index) (some ++ others)
    (numbers_parted (λ d. holds PositionDeletes d && applies x d) (λ d. is_none d.referenced)
    (λ d. is_in Positions d && applies x d) (λ d. is_in Referenced d && applies x d)
    (λ d. moved (holds PositionDeletes d) (applies x d) (is_none d.referenced))
    (λ d. moved_twice (holds PositionDeletes d) (applies x d) (is_some d.referenced)) index)
    (IsPermutation-append (numbers_where (λ d. is_in Positions d && applies x d) index) some
    (numbers_where (λ d. is_in Referenced d && applies x d) index) others first rest)

-- those of specs that partition something, and those of others
pub both_equalities : (index : List (ℕ × DeleteKey)) (x : DataKey) (some others : List ℕ)
    → IsPermutation (numbers_where (λ d. is_in Equalities d && applies x d) index) some
    → IsPermutation (numbers_where (λ d. is_in Everywhere d && applies x d) index) others
    → IsPermutation (numbers_of EqualityDeletes index x) (some ++ others)
both_equalities index x some others first rest =
    IsPermutation-trans (numbers_of EqualityDeletes index x)
    (numbers_where (λ d. is_in Equalities d && applies x d) index
    ++ numbers_where (λ d. is_in Everywhere d && applies x d) index) (some ++ others)
    (numbers_parted (λ d. holds EqualityDeletes d && applies x d) (λ d. not d.unpartitioned)
    (λ d. is_in Equalities d && applies x d) (λ d. is_in Everywhere d && applies x d)
    (λ d. moved (holds EqualityDeletes d) (applies x d) (not d.unpartitioned))
    (λ d. moved_twice (holds EqualityDeletes d) (applies x d) d.unpartitioned) index)
    (IsPermutation-append (numbers_where (λ d. is_in Equalities d && applies x d) index) some
    (numbers_where (λ d. is_in Everywhere d && applies x d) index) others first rest)

-- an index of the delete files among some files gives the numbers that all of them give
pub numbers_by_place : (K : FileContent) → ((d : DeleteKey) → (not (holds Data d) && holds K d) ≡ holds K d)
    → (files : List DeleteKey) (index : List (ℕ × DeleteKey)) → IsPermutation (numbered_deletes files) index
    → (x : DataKey) → ascending (numbers_of K index x) ≡ ascending (numbers_of K (enumerate_from 0 files) x)
numbers_by_place K says files index same x =
    let p = λ (d : DeleteKey). holds K d && applies x d in
    let nd = λ (d : DeleteKey). not (holds Data d) in
    let es = enumerate_from 0 files in
    let kept : filter (of_file p) (numbered_deletes files) ≡ filter (of_file p) es =
    filter-filter (of_file nd) (of_file p) es
    ∙ filter_agree (λ (e : ℕ × DeleteKey). of_file nd e && of_file p e) (of_file p)
    (λ e. regroup (nd e.1) (holds K e.1) (applies x e.1) (says e.1)) es in
    index_ascends p (numbered_deletes files) index same
    ∙ ap (λ fs. ascending (map number_of fs)) kept
  where
    regroup : (a b c : Bool) → (a && b) ≡ b → (a && (b && c)) ≡ (b && c)
    regroup true b c h = refl
    regroup false true c h = absurd cc
    regroup false false c h = refl

positions_stay : (d : DeleteKey) → (not (holds Data d) && holds PositionDeletes d) ≡ holds PositionDeletes d
positions_stay d = go d.content where
  go : (K : FileContent) → (not (is_content Data K) && is_content PositionDeletes K) ≡ is_content PositionDeletes K
  go Data = refl
  go PositionDeletes = refl
  go EqualityDeletes = refl

equalities_stay : (d : DeleteKey) → (not (holds Data d) && holds EqualityDeletes d) ≡ holds EqualityDeletes d
equalities_stay d = go d.content where
  go : (K : FileContent) → (not (is_content Data K) && is_content EqualityDeletes K) ≡ is_content EqualityDeletes K
  go Data = refl
  go PositionDeletes = refl
  go EqualityDeletes = refl

-- the places that an index of files gives are those that the files give by their own places
pub all_by_place : (files : List DeleteKey) (index : List (ℕ × DeleteKey))
    → IsPermutation (numbered_deletes files) index → (xs : List Entry)
    → map (λ x. places_of index (data_key_of x)) xs ≡ map (λ x. places_of (enumerate_from 0 files) (data_key_of x)) xs
all_by_place files index same [] = refl
all_by_place files index same (x ∷ xs) = rw (
  numbers_by_place PositionDeletes positions_stay files index same (data_key_of x),
  numbers_by_place EqualityDeletes equalities_stay files index same (data_key_of x),
  all_by_place files index same xs,
) refl
