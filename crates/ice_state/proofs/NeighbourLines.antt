-- The same delete files apply to neighbours, where none names a data file.
use Rattle.std.proofs.Common.{◌≡◌, ◌<◌, ◌&&◌, ◌||◌, ◌∙◌, ◌++◌, ◌-◌, ℕ, ℤ, zero, suc, Bool, true, false, List, [], ◌∷◌}
use Rattle.std.proofs.Common.{filter, map, cond}
use Rattle.std.proofs.Common.{refl, sym, ap, arith, Option, Some, None, is_some, length, get_or, take, replicate}
use Rattle.std.proofs.Common.{◌+◌, ◌≤◌, inl, inr, eq-or-lt_of_le, add-zero, append_assoc}
use Rattle.std.proofs.lemmas.List.{append-nil}
use Rattle.std.specs.List.{list_any}
use Rattle.ice_value.specs.declared.cell.Cell.{Cell}
use Rattle.ice_value.specs.declared.file_content.FileContent.{FileContent}
use Rattle.ice_value.specs.declared.file_content.FileContent.TheVariants.{Data, PositionDeletes, EqualityDeletes}
use Rattle.ice_value.specs.Applying.{DataKey, DeleteKey, applies, applies_as}
use Rattle.ice_deletes.specs.declared.group.Group.TheVariants.{Referenced}
use Rattle.ice_deletes.specs.Found.{data_key, holds, is_content}
use Rattle.ice_deletes.specs.Groups.{is_in}
use Rattle.ice_deletes.specs.Unions.{renumbered}
use Rattle.ice_manifest_reading.specs.declared.entry.Entry.{Entry}
use Rattle.ice_state_entries.specs.Kept.{AreNeighbours, no_entry}
use Rattle.ice_state.specs.declared.kept.segments.FileNumber.{FileNumber}
use Rattle.ice_state.specs.Applying.{data_key_of}
use Rattle.ice_state.specs.Parts.{ascending, places_of}
use Rattle.ice_state.specs.PlaceLists.{LinePlaces}
use Rattle.ice_state.specs.Segments.{Segmented, entry_at, entries_at}
use Rattle.ice_state.specs.SharedPlaces.{AreBeside, line_in}

abbrev names_one : ℕ × DeleteKey → Bool
names_one e = is_in Referenced e.1

neither : (a b : Bool) → (a || b) ≡ false → (a ≡ false) × (b ≡ false)
neither true b h = (cc, cc)
neither false b h = (refl, h)

none_renumbered : (ranks : List ℕ) (es : List (ℕ × DeleteKey)) → list_any names_one (renumbered ranks es)
    ≡ list_any names_one es
none_renumbered ranks [] = refl
none_renumbered ranks (e ∷ es) = ap (λ b. names_one e || b) (none_renumbered ranks es)

module _ (spec_id : ℤ) (tuple : List Cell) (number : ℕ) (p q : List ℕ) where
  abbrev at : List ℕ → DataKey
  at path = data_key spec_id tuple number path

  alike : (d : DeleteKey) → is_in Referenced d ≡ false → applies (at p) d ≡ applies (at q) d
  alike d h = go d.content d.referenced h where
    go : (K : FileContent) (r : Option (List ℕ)) → (is_content PositionDeletes K && is_some r) ≡ false
        → applies_as K (at p) (record d { referenced = r }) ≡ applies_as K (at q) (record d { referenced = r })
    go Data r h = refl
    go PositionDeletes None h = refl
    go PositionDeletes (Some path) h = cc
    go EqualityDeletes r h = refl

  same_apply : (K : FileContent) (es : List (ℕ × DeleteKey)) → list_any names_one es ≡ false
      → filter (λ (e : ℕ × DeleteKey). holds K e.1 && applies (at p) e.1) es
      ≡ filter (λ (e : ℕ × DeleteKey). holds K e.1 && applies (at q) e.1) es
  same_apply K [] h = refl
  same_apply K (e ∷ es) h =
      let none = neither (names_one e) (list_any names_one es) h in
      let one = alike e.1 none.0 in
      let rest = same_apply K es none.1 in
      λ i. cond (holds K e.1 && one i) (e ∷ rest i) (rest i)

  same_places : (es : List (ℕ × DeleteKey)) → list_any names_one es ≡ false
      → places_of es (at p) ≡ places_of es (at q)
  same_places es h =
      let numbers : List (ℕ × DeleteKey) → List ℕ = λ fs. map (λ (e : ℕ × DeleteKey). e.0) fs in
      let positions = same_apply PositionDeletes es h in
      let equalities = same_apply EqualityDeletes es h in
      λ i. record { positions = ascending (numbers (positions i)); equalities = ascending (numbers (equalities i)) }

neighbour_places : (ranks : List ℕ) (index : List (ℕ × DeleteKey)) (a b : Entry) → list_any names_one index ≡ false
    → AreNeighbours a b
    → places_of (renumbered ranks index) (data_key_of a) ≡ places_of (renumbered ranks index) (data_key_of b)
neighbour_places ranks index a b none near =
    let key : data_key a.spec_id a.file.tuple a.sequence_number b.file.path ≡ data_key_of b =
    λ i. data_key (near.spec i) (near.tuple i) (near.number i) b.file.path in
    same_places a.spec_id a.file.tuple a.sequence_number a.file.path b.file.path (renumbered ranks index)
    (none_renumbered ranks index ∙ none)
    ∙ ap (places_of (renumbered ranks index)) key

-- the line of the file at a place
pub line_at_place : (f : Entry → LinePlaces) (kept : Segmented) (ns : List FileNumber) (many i : ℕ) → i < many
    → i < length ns → line_in (map f (entries_at kept (take many ns))) i ≡ f (get_or (entries_at kept ns) i no_entry)
line_at_place f kept [] many i l m = absurd (omega arith)
line_at_place f kept (n ∷ ns) zero i l m = absurd (omega arith)
line_at_place f kept (n ∷ ns) (suc many) zero l m = refl
line_at_place f kept (n ∷ ns) (suc many) (suc i) l m = line_at_place f kept ns many i (omega arith) (omega arith)

-- the line of the file at a place, put last
one_more : (f : Entry → LinePlaces) (kept : Segmented) (ns : List FileNumber) (i : ℕ) (d : FileNumber) → i < length ns
    → map f (entries_at kept (take (suc i) ns))
    ≡ map f (entries_at kept (take i ns)) ++ f (entry_at kept (get_or ns i d)) ∷ []
one_more f kept [] i d l = absurd (omega arith)
one_more f kept (n ∷ ns) zero d l = refl
one_more f kept (n ∷ ns) (suc i) d l = ap (λ ls. f (entry_at kept n) ∷ ls) (one_more f kept ns i d (omega arith))

one_file : (kept : Segmented) (ns : List FileNumber) (i : ℕ) (d : FileNumber) → i < length ns
    → entry_at kept (get_or ns i d) ≡ get_or (entries_at kept ns) i no_entry
one_file kept [] i d l = absurd (omega arith)
one_file kept (n ∷ ns) zero d l = refl
one_file kept (n ∷ ns) (suc i) d l = one_file kept ns i d (omega arith)

some_file : (ns : List FileNumber) → 0 < length ns → FileNumber
some_file [] l = absurd (omega arith)
some_file (n ∷ ns) l = n

module _ (ranks : List ℕ) (index : List (ℕ × DeleteKey)) (kept : Segmented) (ns : List FileNumber) where
  abbrev f : Entry → LinePlaces
  f x = places_of (renumbered ranks index) (data_key_of x)

  -- so many more files have one line
  many_more : (line : LinePlaces) (many i : ℕ) → i + many ≤ length ns
      → ((k : ℕ) → i ≤ k → k < i + many → f (get_or (entries_at kept ns) k no_entry) ≡ line)
      → map f (entries_at kept (take i ns)) ++ replicate many line ≡ map f (entries_at kept (take (i + many) ns))
  many_more line zero i l all = append-nil (map f (entries_at kept (take i ns)))
      ∙ ap (λ (n : ℕ). map f (entries_at kept (take n ns))) (sym (add-zero i))
  many_more line (suc many) i l all =
      let d = some_file ns (omega (arith, l)) in
      let here : f (entry_at kept (get_or ns i d)) ≡ line =
      ap f (one_file kept ns i d (omega (arith, l))) ∙ all i (omega arith) (omega arith) in
      let one : map f (entries_at kept (take (suc i) ns)) ≡ map f (entries_at kept (take i ns)) ++ line ∷ [] =
      one_more f kept ns i d (omega (arith, l)) ∙ ap (λ x. map f (entries_at kept (take i ns)) ++ x ∷ []) here in
      let step : suc i + many ≡ i + suc many = omega arith in
      sym (append_assoc (map f (entries_at kept (take i ns))) (line ∷ []) (replicate many line))
      ∙ ap (λ ls. ls ++ replicate many line) (sym one)
      ∙ many_more line many (suc i) (omega (arith, l)) (λ k a b. all k (omega arith) (omega (arith, b)))
      ∙ ap (λ (n : ℕ). map f (entries_at kept (take n ns))) step

  module _ (i : ℕ) (l : i < length ns) (lines more : List LinePlaces)
      (are : lines ≡ map f (entries_at kept (take i ns))) where
    -- the line of one more file
    pub looked_up_more : (d : FileNumber) (x : Entry) → x ≡ entry_at kept (get_or ns i d) → more ≡ lines ++ f x ∷ []
        → more ≡ map f (entries_at kept (take (suc i) ns))
    looked_up_more d x is pushed = pushed ∙ (λ k. are k ++ f (is k) ∷ []) ∙ sym (one_more f kept ns i d l)

    -- and that of its neighbours
    pub stretch : (d : FileNumber) (x : Entry) → x ≡ entry_at kept (get_or ns i d) → more ≡ lines ++ f x ∷ []
        → list_any names_one index ≡ false → (next : ℕ) → i < next → next ≤ length ns
        → AreBeside (entries_at kept ns) i next
        → more ++ replicate (next - i - 1) (line_in more i) ≡ map f (entries_at kept (take next ns))
    stretch d x is pushed none next after within beside =
        let files = entries_at kept ns in
        let m = looked_up_more d x is pushed in
        let many : ℕ = next - i - 1 in
        let line : line_in more i ≡ f (get_or files i no_entry) =
        ap (λ ls. line_in ls i) m ∙ line_at_place f kept ns (suc i) i (omega arith) l in
        let e : suc i + many ≡ next = omega (arith, after) in
        (λ k. m k ++ replicate many (line k))
        ∙ many_more (f (get_or files i no_entry)) many (suc i) (omega (arith, e, within)) (λ k a b.
        sym (neighbour_places ranks index (get_or files i no_entry) (get_or files k no_entry) none
        (beside k (omega (arith, a)) (omega (arith, b, e)))))
        ∙ ap (λ (n : ℕ). map f (entries_at kept (take n ns))) e

  -- those of files that are like one before them
  pub stretch_again : (i : ℕ) (lines : List LinePlaces) → lines ≡ map f (entries_at kept (take i ns)) → (j next : ℕ)
      → j < i → AreNeighbours (get_or (entries_at kept ns) j no_entry) (get_or (entries_at kept ns) i no_entry)
      → list_any names_one index ≡ false → i < next → next ≤ length ns → AreBeside (entries_at kept ns) i next
      → lines ++ replicate (next - i) (line_in lines j) ≡ map f (entries_at kept (take next ns))
  stretch_again i lines are j next before near none after within beside =
      let files = entries_at kept ns in
      let one : Entry = get_or files j no_entry in
      let line : line_in lines j ≡ f one =
      ap (λ ls. line_in ls j) are ∙ line_at_place f kept ns i j before (omega (arith, before, after, within)) in
      let here : f (get_or files i no_entry) ≡ f one =
      sym (neighbour_places ranks index one (get_or files i no_entry) none near) in
      let e : i + (next - i) ≡ next = omega (arith, after) in
      (λ k. are k ++ replicate (next - i) (line k))
      ∙ many_more (f one) (next - i) i (omega (arith, e, within)) (λ k low high.
      elim (eq-or-lt_of_le low) as (λ _. f (get_or files k no_entry) ≡ f one) [
        | inl same ↦ ap (λ n. f (get_or files n no_entry)) (sym same) ∙ here
        | inr less ↦ sym (neighbour_places ranks index (get_or files i no_entry) (get_or files k no_entry) none
            (beside k less (omega (arith, high, e)))) ∙ here
      ])
      ∙ ap (λ (n : ℕ). map f (entries_at kept (take n ns))) e
