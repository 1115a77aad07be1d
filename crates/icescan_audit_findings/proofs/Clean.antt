-- Where no finding on a manifest is a fault, its live files are honest as far as metadata tell.
use Rattle.std.proofs.Common.{◌≡◌, ℤ, Bool, true, false, not, ◌&&◌, ◌||◌, cond, List, [], ◌∷◌, ◌++◌, map}
use Rattle.std.proofs.Common.{refl, sym, ap, ◌∙◌, subst, arith, Option, Some, None, suc}
use Rattle.std.specs.List.{AllByRecursion, Contains}
use Rattle.std.proofs.lemmas.Bool.{and_parts}
use Rattle.std.proofs.lemmas.List.Elements.{Contains-append_left, Contains-append_right}
use Rattle.ice_filter.specs.Rows.{is_null}
use Rattle.ice_value.specs.Columns.{count_of}
use Rattle.ice_value.specs.declared.cell.Cell.{Cell}
use Rattle.ice_value.specs.declared.cell.Cell.TheVariants.{Null, Bool as Flag, Whole, Text, Bytes}
use Rattle.ice_value.specs.declared.column_type.ColumnType.{ColumnType}
use Rattle.ice_value.specs.declared.file_bounds.FileBounds.{FileBounds}
use Rattle.ice_transform.specs.Values.{value_of}
use Rattle.ice_transform.specs.declared.transform.Transform.{Transform}
use Rattle.ice_transform.specs.declared.transform.Transform.TheVariants.{Identity}
use Rattle.ice_manifest_reading.specs.declared.entry.Live.{Live}
use Rattle.ice_manifest_reading.specs.declared.row.Row.{Row}
use Rattle.ice_manifest_reading.specs.declared.tally.Tallies.{Tallies}
use Rattle.ice_meta.specs.declared.spec.Spec.{Spec}
use Rattle.ice_project.specs.Files.{lower_limit, upper_limit}
use Rattle.ice_project.specs.Limits.{LiesIn}
use Rattle.icescan_audit_findings.specs.declared.basis.Basis.{Basis}
use Rattle.icescan_audit_findings.specs.declared.basis.TypedColumn.{TypedColumn}
use Rattle.icescan_audit_findings.specs.declared.fields.SourceField.{SourceField}
use Rattle.icescan_audit_findings.specs.declared.finding.ColumnFlaw.TheVariants.{BoundsOfNulls, NegativeCounts}
use Rattle.icescan_audit_findings.specs.declared.finding.FieldFlaw.TheVariants.{OtherNulls, OutsideBounds, Unbounded}
use Rattle.icescan_audit_findings.specs.declared.finding.Finding.{Finding}
use Rattle.icescan_audit_findings.specs.declared.finding.Flaw.{Flaw}
use Rattle.icescan_audit_findings.specs.declared.finding.Flaw.TheVariants.{BoundsCross, ExcessNulls, OfColumn, OfField}
use Rattle.icescan_audit_findings.specs.declared.limits.FieldLimits.{FieldLimits}
use Rattle.icescan_audit_findings.specs.ColumnFlaws.{bounds_cross, column_flaws, columns_flaws, has_bound}
use Rattle.icescan_audit_findings.specs.ColumnFlaws.{has_bounds_of_nulls, has_excess_nulls, has_negative_counts}
use Rattle.icescan_audit_findings.specs.Counting.{count_flaws}
use Rattle.icescan_audit_findings.specs.Coverage.{is_above, is_below, row_limits, unbounded}
use Rattle.icescan_audit_findings.specs.EntryFlaws.{entry_flaws}
use Rattle.icescan_audit_findings.specs.FieldFlaws.{are_one, differ, field_flaws, fields_flaws, flaws_as, has_nulls}
use Rattle.icescan_audit_findings.specs.FieldFlaws.{has_other_nulls, has_values, is_outside_bounds, sources_of}
use Rattle.icescan_audit_findings.specs.FieldFlaws.{value_at}
use Rattle.icescan_audit_findings.specs.Findings.{entry_findings, finding_of, flaws_beside, flaws_by, live_findings}
use Rattle.icescan_audit_findings.specs.Findings.{live_flaws, manifest_finding, manifest_findings}
use Rattle.icescan_audit_findings.specs.Flaws.{flaw_where}
use Rattle.icescan_audit_findings.specs.Honesty.{AreHonestValues, IsHonestByMetadata, IsHonestColumn, IsHonestValue}
use Rattle.icescan_audit_findings.specs.Telling.{faults, is_fault}
use Rattle.ice_value.specs.Cells.{is_at_most}
use Rattle.icescan_audit_findings.proofs.Honest.{OfIdentity, of_column, of_null, of_present}
use Rattle.icescan_audit_findings.proofs.Members.{at_head, in_flat, in_map, in_none}
use Rattle.icescan_audit_findings.proofs.Miscounts.{in_filter}

-- ---- lists of flaws of which none is a fault

abbrev IsClean : List Flaw → Type 0
IsClean flaws = (f : Flaw) → Contains flaws f → is_fault f ≡ true → ⊥

front : (xs ys : List Flaw) → IsClean (xs ++ ys) → IsClean xs
front xs ys h f c e = h f (Contains-append_left xs ys f c) e

back : (xs ys : List Flaw) → IsClean (xs ++ ys) → IsClean ys
back xs ys h f c e = h f (Contains-append_right xs ys f c) e

not_found : (b : Bool) (flaw : Flaw) → is_fault flaw ≡ true → IsClean (flaw_where b flaw) → b ≡ false
not_found true flaw e h = absurd (h flaw (at_head flaw []) e)
not_found false flaw e h = refl

-- ---- a column

module _ (file : FileBounds) (c : TypedColumn) (clean : IsClean (column_flaws file c)) where
  abbrev crossing : List Flaw
  crossing = flaw_where (bounds_cross file c) (BoundsCross c.id)

  abbrev excess : List Flaw
  excess = flaw_where (has_excess_nulls file c.id) (ExcessNulls c.id)

  abbrev negative : List Flaw
  negative = flaw_where (has_negative_counts file c.id) (OfColumn NegativeCounts c.id)

  abbrev of_nulls : List Flaw
  of_nulls = flaw_where (has_bounds_of_nulls file c.id) (OfColumn BoundsOfNulls c.id)

  no_crossing : bounds_cross file c ≡ false
  unfolding is_fault
  no_crossing = not_found (bounds_cross file c) (BoundsCross c.id) refl
      (front crossing (excess ++ (negative ++ of_nulls)) clean)

  behind_crossing : IsClean (excess ++ (negative ++ of_nulls))
  behind_crossing = back crossing (excess ++ (negative ++ of_nulls)) clean

  no_excess : has_excess_nulls file c.id ≡ false
  unfolding is_fault
  no_excess = not_found (has_excess_nulls file c.id) (ExcessNulls c.id) refl
      (front excess (negative ++ of_nulls) behind_crossing)

  no_negative : has_negative_counts file c.id ≡ false
  unfolding is_fault
  no_negative = not_found (has_negative_counts file c.id) (OfColumn NegativeCounts c.id) refl
      (front negative of_nulls (back excess (negative ++ of_nulls) behind_crossing))

  honest_column : IsHonestColumn file c
  honest_column t is =
      let past = ap (λ (o : Option ColumnType). bounds_cross file (record { id = c.id; column_type = o })) (sym is)
      ∙ no_crossing in
      of_column file t c.id no_negative no_excess past

columns_honest : (file : FileBounds) (columns : List TypedColumn) → IsClean (columns_flaws file columns)
    → AllByRecursion (IsHonestColumn file) columns
columns_honest file [] h = tt
columns_honest file (c ∷ cs) h = (
  honest_column file c (front (column_flaws file c) (columns_flaws file cs) h),
  columns_honest file cs (back (column_flaws file c) (columns_flaws file cs) h),
)

clean_column : (file : FileBounds) (columns : List TypedColumn) (c : TypedColumn) → Contains columns c
    → IsClean (columns_flaws file columns) → IsClean (column_flaws file c)
clean_column file columns c is h f there e = h f (in_flat (column_flaws file) columns c f is there) e

-- ---- a value of an identity field

identity_is : (t : ColumnType) (b : Cell) → value_of Identity t b ≡ Some b
identity_is t Null = refl
identity_is t (Flag b) = refl
identity_is t (Whole z) = refl
identity_is t (Text s) = refl
identity_is t (Bytes bs) = refl

of_bound : (t : ColumnType) (o : Option Cell) → value_at Identity t o ≡ o
of_bound t None = refl
of_bound t (Some b) = identity_is t b

above_at : (low : Option Cell) (p : Cell) → is_above low p ≡ true → (b : Cell) → low ≡ Some b → is_at_most b p ≡ true
above_at None p h b e = absurd cc
above_at (Some a) p h b e = let same : a ≡ b = cc in rw (← same) h

below_at : (high : Option Cell) (p : Cell) → is_below high p ≡ true → (b : Cell) → high ≡ Some b → is_at_most p b ≡ true
below_at None p h b e = absurd cc
below_at (Some a) p h b e = let same : a ≡ b = cc in rw (← same) h

lies : (low high : Option Cell) (p : Cell) → not (is_above low p && is_below high p) ≡ false → LiesIn low high p
lies low high p h =
    let parts = and_parts (is_above low p) (is_below high p) (yes (is_above low p && is_below high p) h) in
    record { above = above_at low p parts.0; below = below_at high p parts.1 }
  where
    yes : (b : Bool) → not b ≡ false → b ≡ true
    yes true e = refl
    yes false e = absurd cc

no_first : (a b : Bool) → (a || b) ≡ false → a ≡ false
no_first true b h = absurd cc
no_first false b h = refl

module _ (file : FileBounds) (t : ColumnType) (column : ℤ)
    (negative : has_negative_counts file column ≡ false) where
  by_null : (p : Cell) (n : Bool) → is_null p ≡ n → cond n (has_values file column) (has_nulls file column) ≡ false
      → not n && ((true || are_one (lower_limit file t column) (upper_limit file t column))
      && not (is_above (value_at Identity t (lower_limit file t column)) p
      && is_below (value_at Identity t (upper_limit file t column)) p)) ≡ false
      → OfIdentity file t column p
  by_null p true is nulls outside = of_null file t column p is negative
      (no_first (differ (count_of column file.value_counts) (count_of column file.null_counts)) (has_bound file column)
      nulls)
  by_null p false is nulls outside =
      let low = lower_limit file t column in
      let high = upper_limit file t column in
      let inside : not (is_above low p && is_below high p) ≡ false =
      ap (λ (o : Option Cell × Option Cell). not (is_above o.0 p && is_below o.1 p))
      (pair (sym (of_bound t low)) (sym (of_bound t high))) ∙ outside in
      of_present file t column p is negative nulls (lies low high p inside)
    where
      pair : {a b x y : Option Cell} → a ≡ x → b ≡ y
          → ◌≡◌ {A = Option Cell × Option Cell} (a, b) (x, y)
      pair e f = rw (e, f) refl

module _ (columns : List TypedColumn) (file : FileBounds) (clean : IsClean (columns_flaws file columns)) where
  value_honest : (f : SourceField) (p : Cell) → IsClean (field_flaws file f p) → IsHonestValue columns file f p
  unfolding is_fault
  value_honest f p h c t is_column id_is type_is identity =
      let negative : has_negative_counts file f.column ≡ false =
      subst (λ (i : ℤ). has_negative_counts file i ≡ false) id_is
      (no_negative file c (clean_column file columns c is_column clean)) in
      let flaws : IsClean (flaws_as file f (Some t) p) =
      subst (λ (o : Option ColumnType). IsClean (flaws_as file f o p)) type_is h in
      let other = flaw_where (has_other_nulls file f.column p) (OfField OtherNulls f.name) in
      let outside = flaw_where (is_outside_bounds file f.transform t f.column p) (OfField OutsideBounds f.name) in
      let no_other = not_found (has_other_nulls file f.column p) (OfField OtherNulls f.name) refl
      (front other outside flaws) in
      let no_outside = not_found (is_outside_bounds file f.transform t f.column p) (OfField OutsideBounds f.name) refl
      (back other outside flaws) in
      let inside : is_outside_bounds file Identity t f.column p ≡ false =
      subst (λ (g : Transform). is_outside_bounds file g t f.column p ≡ false) identity no_outside in
      by_null file t f.column negative p (is_null p) refl no_other inside

  values_honest : (fs : List SourceField) (tuple : List Cell) → IsClean (fields_flaws file fs tuple)
      → AreHonestValues columns file fs tuple
  values_honest [] tuple h = tt
  values_honest (f ∷ fs) [] h = tt
  values_honest (f ∷ fs) (p ∷ tuple) h = (
    value_honest f p (front (field_flaws file f p) (fields_flaws file fs tuple) h),
    values_honest fs tuple (back (field_flaws file f p) (fields_flaws file fs tuple) h),
  )

-- ---- the live files of a manifest

each : (P : Live → Type 0) (ls : List Live) → ((l : Live) → Contains ls l → P l) → AllByRecursion P ls
each P [] h = tt
each P (l ∷ ls) h = (h l (0, omega arith, refl), each P ls (λ x c. h x (suc c.0, omega arith, c.2)))

module _ (basis : Basis) (row : Row) (limits : List FieldLimits) (l : Live)
    (clean : IsClean (live_flaws basis row limits l)) where
  abbrev columns : List Flaw
  columns = columns_flaws l.bounds basis.typed

  abbrev beside : List Flaw
  beside = flaws_beside row limits (sources_of basis row) l.entry l.bounds

  behind : IsClean (columns ++ beside)
  behind = back (flaws_by basis row limits l.entry) (columns ++ beside) clean

  abbrev names : List Flaw
  names = map (OfField Unbounded) (unbounded limits l.entry.file.tuple)

  abbrev fields : List Flaw
  fields = fields_flaws l.bounds (sources_of basis row) l.entry.file.tuple

  live_honest : IsHonestByMetadata basis row l
  live_honest = (
    columns_honest l.bounds basis.typed (front columns beside behind),
    values_honest basis.typed l.bounds (front columns beside behind) (sources_of basis row) l.entry.file.tuple
        (front fields (entry_flaws row l.entry)
        (back names (fields ++ entry_flaws row l.entry) (back columns beside behind))),
  )

pub manifest_honest : (basis : Basis) (row : Row) (spec : Spec) (tallies : Tallies) (lives : List Live)
    → ((x : Finding) → Contains (manifest_findings basis row spec tallies lives) x → is_fault x.flaw ≡ true → ⊥)
    → AllByRecursion (IsHonestByMetadata basis row) lives
manifest_honest basis row spec tallies lives none =
    let limits = row_limits spec row.partitions in
    each (IsHonestByMetadata basis row) lives (λ l is. live_honest basis row limits l (λ f c e.
    none (finding_of row l.entry f) (Contains-append_right (map (manifest_finding row) (count_flaws row tallies))
    (live_findings basis row spec lives) (finding_of row l.entry f)
    (in_flat (entry_findings basis row limits) lives l (finding_of row l.entry f) is
    (in_map (finding_of row l.entry) (live_flaws basis row limits l) f c))) e))

-- findings of which none is a fault
pub none_at_fault : (xs : List Finding) → faults xs ≡ [] → (x : Finding) → Contains xs x → is_fault x.flaw ≡ true → ⊥
none_at_fault xs h x c e = in_none x (subst (λ ys. Contains ys x) h
    (in_filter (λ (y : Finding). is_fault y.flaw) xs x c e))
