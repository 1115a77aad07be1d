-- Within the limits are just the values that a field's summary covers.
use Rattle.std.proofs.Common.{◌≡◌, ℕ, ◌&&◌, Bool, true, false, List, [], ◌∷◌, length, map, Option, None, Some}
use Rattle.std.proofs.Common.{arith, refl, cond, ◌==◌, ap, sym, ◌∙◌, eq-eqb, eqb-true}
use Rattle.std.proofs.lemmas.List.{length-map}
use Rattle.std.specs.Option.{option_and_then}
use Rattle.std.proofs.lemmas.Bool.{and_parts}
use Rattle.ice_value.specs.Cells.{is_at_most}
use Rattle.ice_value.specs.declared.cell.Cell.{Cell}
use Rattle.ice_value.specs.declared.column_type.ColumnType.{ColumnType}
use Rattle.ice_value.specs.declared.file_bounds.Summary.{Summary}
use Rattle.ice_filter.specs.Rows.{is_null}
use Rattle.ice_meta.specs.declared.spec.PartitionField.{PartitionField}
use Rattle.ice_meta.specs.declared.spec.Spec.{Spec}
use Rattle.ice_project.specs.Fields.{field_of, fields_of}
use Rattle.ice_project.specs.Limits.{limit, LiesIn}
use Rattle.ice_project.specs.Summaries.{AreSummariesOf, IsCovered, IsSummaryOf, type_of_values}
use Rattle.icescan_audit_findings.specs.Coverage.{allows, is_above, is_below, limits_in, limits_of, outside, row_limits}
use Rattle.icescan_audit_findings.specs.Coverage.{unless_allowed}

-- ---- one bound

above_at : (low : Option Cell) (p b : Cell) → low ≡ Some b → is_above low p ≡ true → is_at_most b p ≡ true
above_at None p b e h = absurd cc
above_at (Some c) p b e h = let same : c ≡ b = cc in rw (← same) h

below_at : (high : Option Cell) (p b : Cell) → high ≡ Some b → is_below high p ≡ true → is_at_most p b ≡ true
below_at None p b e h = absurd cc
below_at (Some c) p b e h = let same : c ≡ b = cc in rw (← same) h

above_back : (low : Option Cell) (p : Cell) → ((b : Cell) → low ≡ Some b → is_at_most b p ≡ true)
    → is_above low p ≡ true
above_back None p h = refl
above_back (Some b) p h = h b refl

below_back : (high : Option Cell) (p : Cell) → ((b : Cell) → high ≡ Some b → is_at_most p b ≡ true)
    → is_below high p ≡ true
below_back None p h = refl
below_back (Some b) p h = h b refl

-- ---- both bounds, by the type of the field's values

abbrev read : Option ColumnType → Option (List ℕ) → Option Cell
read t bytes = option_and_then (λ r. limit r bytes) t

within : (t : Option ColumnType) (low high : Option (List ℕ)) (p : Cell)
    → (is_above (read t low) p && is_below (read t high) p) ≡ true
    → (r : ColumnType) → t ≡ Some r → LiesIn (limit r low) (limit r high) p
within None low high p h r e = absurd cc
within (Some t) low high p h r e =
    let same : t ≡ r = cc in
    let parts = and_parts (is_above (limit t low) p) (is_below (limit t high) p) h in
    rw (← same) (record {
      above = λ b is. above_at (limit t low) p b is parts.0;
      below = λ b is. below_at (limit t high) p b is parts.1;
    })

both : (a b : Bool) → a ≡ true → b ≡ true → (a && b) ≡ true
both a b h k = rw (h, k) refl

within_back : (t : Option ColumnType) (low high : Option (List ℕ)) (p : Cell)
    → ((r : ColumnType) → t ≡ Some r → LiesIn (limit r low) (limit r high) p)
    → (is_above (read t low) p && is_below (read t high) p) ≡ true
within_back None low high p h = refl
within_back (Some t) low high p h =
    let lies = h t refl in
    both (is_above (limit t low) p) (is_below (limit t high) p) (above_back (limit t low) p lies.above)
    (below_back (limit t high) p lies.below)

-- ---- one value

allowed_by : (n null inside : Bool) → cond n null inside ≡ true
    → (n ≡ true → null ≡ true) × (n ≡ false → inside ≡ true)
allowed_by true null inside h = (λ _. h, λ e. absurd cc)
allowed_by false null inside h = (λ e. absurd cc, λ _. h)

allowed_back : (n null inside : Bool) → (n ≡ true → null ≡ true) → (n ≡ false → inside ≡ true)
    → cond n null inside ≡ true
allowed_back true null inside h k = h refl
allowed_back false null inside h k = k refl

pub covers : (f : PartitionField) (s : Summary) (p : Cell) → allows (limits_of f s) p ≡ true
    → IsSummaryOf (field_of f) s p
covers f s p h =
    let parts = allowed_by (is_null p) s.contains_null
    (is_above (read (type_of_values (field_of f)) s.lower) p && is_below (read (type_of_values (field_of f)) s.upper) p)
    h in
    record {
      null = parts.0;
      present = λ n. within (type_of_values (field_of f)) s.lower s.upper p (parts.1 n);
    }

pub covers_back : (f : PartitionField) (s : Summary) (p : Cell) → IsSummaryOf (field_of f) s p
    → allows (limits_of f s) p ≡ true
covers_back f s p h =
    allowed_back (is_null p) s.contains_null
    (is_above (read (type_of_values (field_of f)) s.lower) p && is_below (read (type_of_values (field_of f)) s.upper) p)
    h.null (λ n. within_back (type_of_values (field_of f)) s.lower s.upper p (h.present n))

-- ---- all values

empty_parts : (b : Bool) (name : List ℕ) (names : List (List ℕ)) → unless_allowed b name names ≡ []
    → (b ≡ true) × (names ≡ [])
empty_parts true name names h = (refl, h)
empty_parts false name names h = absurd cc

empty_back : (b : Bool) (name : List ℕ) (names : List (List ℕ)) → b ≡ true → names ≡ []
    → unless_allowed b name names ≡ []
empty_back true name names h k = k
empty_back false name names h k = absurd cc

all_covered : (fs : List PartitionField) (ss : List Summary) (ps : List Cell) → length ss ≡ length fs
    → length ps ≡ length fs → outside (limits_in fs ss) ps ≡ [] → AreSummariesOf (map field_of fs) ss ps
all_covered [] ss ps a b h = tt
all_covered (f ∷ fs) [] ps a b h = absurd (omega arith)
all_covered (f ∷ fs) (s ∷ ss) [] a b h = absurd (omega arith)
all_covered (f ∷ fs) (s ∷ ss) (p ∷ ps) a b h =
    let parts = empty_parts (allows (limits_of f s) p) f.name (outside (limits_in fs ss) ps) h in
    (covers f s p parts.0, all_covered fs ss ps (omega arith) (omega arith) parts.1)

all_covered_back : (fs : List PartitionField) (ss : List Summary) (ps : List Cell)
    → AreSummariesOf (map field_of fs) ss ps → outside (limits_in fs ss) ps ≡ []
all_covered_back [] ss ps h = refl
all_covered_back (f ∷ fs) [] ps h = absurd h
all_covered_back (f ∷ fs) (s ∷ ss) [] h = absurd h
all_covered_back (f ∷ fs) (s ∷ ss) (p ∷ ps) h = empty_back (allows (limits_of f s) p) f.name
    (outside (limits_in fs ss) ps) (covers_back f s p h.0) (all_covered_back fs ss ps h.1)

-- ---- the row of a manifest

as_many : (spec : Spec) → length (fields_of spec) ≡ length spec.fields
as_many spec = simp length-map

-- as many values as fields, and none of them outside of the limits: the row's summaries cover them
pub covered_by : (spec : Spec) (ss : List Summary) (ps : List Cell) → length ps ≡ length spec.fields
    → outside (row_limits spec (Some ss)) ps ≡ [] → IsCovered (fields_of spec) ss ps
covered_by spec ss ps full h = λ same.
    let eq : length ss ≡ length spec.fields = same ∙ as_many spec in
    all_covered spec.fields ss ps eq full
    (ap (λ b. outside (cond b (limits_in spec.fields ss) []) ps) (sym (eq-eqb (length ss) (length spec.fields) eq)) ∙ h)

-- values that the row's summaries cover are not outside of the limits
pub none_by : (spec : Spec) (ss : List Summary) (ps : List Cell) → IsCovered (fields_of spec) ss ps
    → outside (row_limits spec (Some ss)) ps ≡ []
none_by spec ss ps h = go (length ss == length spec.fields) refl where
  go : (b : Bool) → (length ss == length spec.fields) ≡ b → outside (cond b (limits_in spec.fields ss) []) ps ≡ []
  go true e = all_covered_back spec.fields ss ps
      (h (eqb-true (length ss) (length spec.fields) e ∙ sym (as_many spec)))
  go false e = refl
