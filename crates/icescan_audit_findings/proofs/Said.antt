-- Findings on what a manifest says of the columns of a file stand just where it says so.
use Rattle.std.proofs.Common.{◌≡◌, inl, inr, ℕ, ℤ, Bool, true, false, nat_lt, List, [], ◌∷◌, ◌++◌, map, refl, sym, ap}
use Rattle.std.proofs.Common.{◌∙◌, subst, Option, Some, None}
use Rattle.std.specs.List.{Contains}
use Rattle.std.proofs.lemmas.List.Elements.{Contains-append_left, Contains-append_right, Contains-append_cases}
use Rattle.ice_value.specs.declared.file_bounds.FileBounds.{FileBounds}
use Rattle.ice_value.specs.declared.file_content.FileContent.{FileContent}
use Rattle.ice_value.specs.declared.file_content.FileContent.TheVariants.{Data, PositionDeletes, EqualityDeletes}
use Rattle.ice_manifest_reading.specs.declared.entry.Entry.{Entry}
use Rattle.ice_manifest_reading.specs.declared.entry.Live.{Live}
use Rattle.ice_manifest_reading.specs.declared.row.Row.{Row}
use Rattle.ice_manifest_reading.specs.declared.tally.Tallies.{Tallies}
use Rattle.ice_meta.specs.declared.spec.Spec.{Spec}
use Rattle.icescan_audit_findings.specs.declared.basis.Basis.{Basis}
use Rattle.icescan_audit_findings.specs.declared.basis.TypedColumn.{TypedColumn}
use Rattle.icescan_audit_findings.specs.declared.finding.Finding.{Finding}
use Rattle.icescan_audit_findings.specs.declared.finding.Flaw.{Flaw}
use Rattle.icescan_audit_findings.specs.declared.finding.Flaw.TheVariants.{Uncovered, BelowLeast, AboveLast, NoColumn}
use Rattle.icescan_audit_findings.specs.declared.finding.Flaw.TheVariants.{BoundsCross, ExcessNulls}
use Rattle.icescan_audit_findings.specs.declared.finding.Flaw.TheVariants.{OfColumn, OfEntry, OfField}
use Rattle.icescan_audit_findings.specs.declared.finding.ColumnFlaw.TheVariants.{BoundsOfNulls, NegativeCounts}
use Rattle.icescan_audit_findings.specs.declared.finding.EntryFlaw.{EntryFlaw}
use Rattle.icescan_audit_findings.specs.declared.finding.EntryFlaw.TheVariants.{AboveManifest, NegativeSize}
use Rattle.icescan_audit_findings.specs.declared.finding.EntryFlaw.TheVariants.{NoEqualityIds, UnknownFormat}
use Rattle.icescan_audit_findings.specs.declared.finding.FieldFlaw.TheVariants.{OtherNulls, OutsideBounds, Unbounded}
use Rattle.icescan_audit_findings.specs.declared.fields.SourceField.{SourceField}
use Rattle.ice_value.specs.declared.cell.Cell.{Cell}
use Rattle.ice_value.specs.declared.column_type.ColumnType.{ColumnType}
use Rattle.icescan_audit_findings.specs.declared.limits.FieldLimits.{FieldLimits}
use Rattle.icescan_audit_findings.specs.ColumnFlaws.{bounds_cross, column_flaws, columns_flaws, has_bounds_of_nulls}
use Rattle.icescan_audit_findings.specs.ColumnFlaws.{has_excess_nulls, has_negative_counts}
use Rattle.icescan_audit_findings.specs.EntryFlaws.{entry_flaw, entry_flaws, has_flaw}
use Rattle.icescan_audit_findings.specs.FieldFlaws.{field_flaws, fields_flaws, flaws_as, has_other_nulls}
use Rattle.icescan_audit_findings.specs.FieldFlaws.{is_outside_bounds, sources_of}
use Rattle.icescan_audit_findings.specs.Counting.{count_flaws}
use Rattle.icescan_audit_findings.specs.Coverage.{outside, row_limits, unbounded}
use Rattle.icescan_audit_findings.specs.Examining.{finding_at}
use Rattle.icescan_audit_findings.specs.Findings.{entry_findings, finding_of, flaws_by, live_findings, live_flaws}
use Rattle.icescan_audit_findings.specs.Findings.{flaws_beside, manifest_finding}
use Rattle.icescan_audit_findings.specs.Findings.{manifest_findings, missing, missing_columns, missing_in}
use Rattle.icescan_audit_findings.specs.Flaws.{flaw_where}
use Rattle.icescan_audit_findings.specs.Telling.{IsSaid}
use Rattle.icescan_audit_findings.proofs.Members.{at_head, first_or_behind, from_flat, from_map, in_flat, in_map}
use Rattle.icescan_audit_findings.proofs.Members.{in_none}

-- ---- the flaws of an entry are others

abbrev is_said : Flaw → Bool
is_said (BoundsCross id) = true
is_said (ExcessNulls id) = true
is_said (OfColumn flaw id) = true
is_said _ = false

one_where : (b : Bool) (flaw f : Flaw) → Contains (flaw_where b flaw) f → (b ≡ true) × (flaw ≡ f)
one_where true flaw f c = elim (first_or_behind flaw f [] c) as (λ _. (true ≡ true) × (flaw ≡ f)) [
  | inl e ↦ (refl, e)
  | inr m ↦ absurd (in_none f m)
]
one_where false flaw f c = absurd (in_none f c)

where_one : (b : Bool) (flaw : Flaw) → b ≡ true → Contains (flaw_where b flaw) flaw
where_one true flaw h = at_head flaw []
where_one false flaw h = absurd cc

other_where : (b : Bool) (flaw f : Flaw) → is_said flaw ≡ false → Contains (flaw_where b flaw) f → is_said f ≡ false
other_where b flaw f h c = sym (ap is_said (one_where b flaw f c).1) ∙ h

other_missing : (content : FileContent) (columns ids : List ℤ) (f : Flaw) → Contains (missing_in content columns ids) f
    → is_said f ≡ false
other_missing Data columns ids f c = absurd (in_none f c)
other_missing PositionDeletes columns ids f c = absurd (in_none f c)
other_missing EqualityDeletes columns ids f c = sym (ap is_said (from_map NoColumn (missing columns ids) f c).2)

module _ (basis : Basis) (row : Row) (limits : List FieldLimits) (x : Entry) where
  abbrev below : List Flaw
  below = flaw_where (nat_lt x.sequence_number row.min_sequence_number) BelowLeast

  abbrev above : List Flaw
  above = flaw_where (nat_lt basis.last x.sequence_number) AboveLast

  other_flaws : (f : Flaw) → Contains (flaws_by basis row limits x) f → is_said f ≡ false
  other_flaws f c =
      elim (Contains-append_cases (map Uncovered (outside limits x.file.tuple))
      (below ++ (above ++ missing_columns basis x)) f c) as (λ _. is_said f ≡ false) [
        | inl m ↦ sym (ap is_said (from_map Uncovered (outside limits x.file.tuple) f m).2)
        | inr m ↦ elim (Contains-append_cases below (above ++ missing_columns basis x) f m) as
            (λ _. is_said f ≡ false) [
              | inl k ↦ other_where (nat_lt x.sequence_number row.min_sequence_number) BelowLeast f refl k
              | inr k ↦ elim (Contains-append_cases above (missing_columns basis x) f k) as (λ _. is_said f ≡ false) [
                | inl i ↦ other_where (nat_lt basis.last x.sequence_number) AboveLast f refl i
                | inr i ↦ other_missing x.file.content basis.columns x.file.equality_ids f i
              ]
            ]
      ]

-- ---- the flaws beside those of columns are others

other_names : (names : List (List ℕ)) (f : Flaw) → Contains (map (OfField Unbounded) names) f → is_said f ≡ false
other_names names f c = sym (ap is_said (from_map (OfField Unbounded) names f c).2)

other_field : (file : FileBounds) (g : SourceField) (t : Option ColumnType) (p : Cell) (f : Flaw)
    → Contains (flaws_as file g t p) f → is_said f ≡ false
other_field file g None p f c = absurd (in_none f c)
other_field file g (Some t) p f c =
    let nulls = has_other_nulls file g.column p in
    let outside = is_outside_bounds file g.transform t g.column p in
    elim (Contains-append_cases (flaw_where nulls (OfField OtherNulls g.name))
    (flaw_where outside (OfField OutsideBounds g.name)) f c) as (λ _. is_said f ≡ false) [
      | inl m ↦ other_where nulls (OfField OtherNulls g.name) f refl m
      | inr m ↦ other_where outside (OfField OutsideBounds g.name) f refl m
    ]

other_fields : (file : FileBounds) (gs : List SourceField) (tuple : List Cell) (f : Flaw)
    → Contains (fields_flaws file gs tuple) f → is_said f ≡ false
other_fields file [] tuple f c = absurd (in_none f c)
other_fields file (g ∷ gs) [] f c = absurd (in_none f c)
other_fields file (g ∷ gs) (p ∷ tuple) f c =
    elim (Contains-append_cases (field_flaws file g p) (fields_flaws file gs tuple) f c) as (λ _. is_said f ≡ false) [
      | inl m ↦ other_field file g g.column_type p f m
      | inr m ↦ other_fields file gs tuple f m
    ]

module _ (row : Row) (x : Entry) where
  of_itself : (flaw : EntryFlaw) (f : Flaw) → Contains (entry_flaw flaw row x) f → is_said f ≡ false
  of_itself flaw f c = other_where (has_flaw flaw row x) (OfEntry flaw) f refl c

  of_entry : (f : Flaw) → Contains (entry_flaws row x) f → is_said f ≡ false
  of_entry f c =
      let last = entry_flaw UnknownFormat row x in
      let two = entry_flaw NegativeSize row x ++ last in
      elim (Contains-append_cases (entry_flaw AboveManifest row x) (entry_flaw NoEqualityIds row x ++ two) f c) as
      (λ _. is_said f ≡ false) [
        | inl m ↦ of_itself AboveManifest f m
        | inr m ↦ elim (Contains-append_cases (entry_flaw NoEqualityIds row x) two f m) as (λ _. is_said f ≡ false) [
          | inl k ↦ of_itself NoEqualityIds f k
          | inr k ↦ elim (Contains-append_cases (entry_flaw NegativeSize row x) last f k) as (λ _. is_said f ≡ false) [
            | inl i ↦ of_itself NegativeSize f i
            | inr i ↦ of_itself UnknownFormat f i
          ]
        ]
      ]

  other_beside : (limits : List FieldLimits) (gs : List SourceField) (file : FileBounds) (f : Flaw)
      → Contains (flaws_beside row limits gs x file) f → is_said f ≡ false
  other_beside limits gs file f c =
      let names = unbounded limits x.file.tuple in
      let fields = fields_flaws file gs x.file.tuple in
      elim (Contains-append_cases (map (OfField Unbounded) names) (fields ++ entry_flaws row x) f c) as
      (λ _. is_said f ≡ false) [
        | inl m ↦ other_names names f m
        | inr m ↦ elim (Contains-append_cases fields (entry_flaws row x) f m) as (λ _. is_said f ≡ false) [
          | inl k ↦ other_fields file gs x.file.tuple f k
          | inr k ↦ of_entry f k
        ]
      ]

-- ---- the flaws of a column

-- which of four flaws was found
abbrev four : Bool → Bool → Bool → Bool → ℤ → List Flaw
four cross nulls negative of_nulls id = flaw_where cross (BoundsCross id) ++ (flaw_where nulls (ExcessNulls id)
    ++ (flaw_where negative (OfColumn NegativeCounts id) ++ flaw_where of_nulls (OfColumn BoundsOfNulls id)))

abbrev is_flaw_of : Flaw → Bool → Bool → Bool → Bool → ℤ → Bool
is_flaw_of (BoundsCross i) cross nulls negative of_nulls id = cross
is_flaw_of (ExcessNulls i) cross nulls negative of_nulls id = nulls
is_flaw_of (OfColumn NegativeCounts i) cross nulls negative of_nulls id = negative
is_flaw_of (OfColumn BoundsOfNulls i) cross nulls negative of_nulls id = of_nulls
is_flaw_of _ cross nulls negative of_nulls id = false

-- the column that a flaw is about
abbrev column_of : Flaw → ℤ → ℤ
column_of (BoundsCross i) id = i
column_of (ExcessNulls i) id = i
column_of (OfColumn flaw i) id = i
column_of _ id = id

module _ (cross nulls negative of_nulls : Bool) (here : ℤ) where
  abbrev Holds : Flaw → Type 0
  Holds f = (is_flaw_of f cross nulls negative of_nulls here ≡ true) × (here ≡ column_of f here)

  in_four : (f : Flaw) → Contains (four cross nulls negative of_nulls here) f → Holds f
  in_four f c =
      let last = flaw_where of_nulls (OfColumn BoundsOfNulls here) in
      let two = flaw_where negative (OfColumn NegativeCounts here) ++ last in
      elim (Contains-append_cases (flaw_where cross (BoundsCross here)) (flaw_where nulls (ExcessNulls here) ++ two) f c)
      as (λ _. Holds f) [
        | inl m ↦ let r = one_where cross (BoundsCross here) f m in subst Holds r.1 (r.0, refl)
        | inr m ↦ elim (Contains-append_cases (flaw_where nulls (ExcessNulls here)) two f m) as (λ _. Holds f) [
          | inl k ↦ let r = one_where nulls (ExcessNulls here) f k in subst Holds r.1 (r.0, refl)
          | inr k ↦ elim (Contains-append_cases (flaw_where negative (OfColumn NegativeCounts here)) last f k) as
              (λ _. Holds f) [
                | inl i ↦ let r = one_where negative (OfColumn NegativeCounts here) f i in subst Holds r.1 (r.0, refl)
                | inr i ↦ let r = one_where of_nulls (OfColumn BoundsOfNulls here) f i in subst Holds r.1 (r.0, refl)
              ]
        ]
      ]

-- ---- a flaw of columns, which stands just where this holds

module _ (flaw : ℤ → Flaw) (holds : FileBounds → TypedColumn → Bool) (said : (id : ℤ) → is_said (flaw id) ≡ true)
    (told : (file : FileBounds) (c : TypedColumn) (id : ℤ) → Contains (column_flaws file c) (flaw id)
    → (holds file c ≡ true) × (c.id ≡ id))
    (tells : (file : FileBounds) (c : TypedColumn) → holds file c ≡ true → Contains (column_flaws file c) (flaw c.id))
    (basis : Basis) (row : Row) (spec : Spec) (tallies : Tallies) (lives : List Live) (path : List ℕ) (id : ℤ) where
  abbrev finding : Finding
  finding = finding_at row path (flaw id)

  abbrev limits_here : List FieldLimits
  limits_here = row_limits spec row.partitions

  abbrev beside_here : Live → List Flaw
  beside_here l = flaws_beside row limits_here (sources_of basis row) l.entry l.bounds

  of_columns : (l : Live) → Contains (live_flaws basis row limits_here l) (flaw id)
      → Contains (columns_flaws l.bounds basis.typed) (flaw id)
  of_columns l c =
      let columns = columns_flaws l.bounds basis.typed in
      elim (Contains-append_cases (flaws_by basis row limits_here l.entry) (columns ++ beside_here l) (flaw id) c) as
      (λ _. Contains columns (flaw id)) [
        | inl m ↦ let other : true ≡ false = sym (said id) ∙ other_flaws basis row limits_here l.entry (flaw id) m in
            absurd cc
        | inr m ↦ elim (Contains-append_cases columns (beside_here l) (flaw id) m) as (λ _. Contains columns (flaw id)) [
          | inl k ↦ k
          | inr k ↦ let other : true ≡ false = sym (said id)
              ∙ other_beside row l.entry limits_here (sources_of basis row) l.bounds (flaw id) k in
              absurd cc
        ]
      ]

  of_live : (l : Live) → Contains lives l → Contains (entry_findings basis row limits_here l) finding
      → IsSaid holds basis.typed lives path id
  of_live l is_live c =
      let found = from_map (finding_of row l.entry) (live_flaws basis row limits_here l) finding c in
      let flaw_is : found.0 ≡ flaw id = ap (λ (x : Finding). x.flaw) found.2 in
      let file_is : Some l.entry.file.path ≡ Some path = ap (λ (x : Finding). x.file) found.2 in
      let column = from_flat (column_flaws l.bounds) basis.typed (flaw id) (of_columns l
      (subst (λ f. Contains (live_flaws basis row limits_here l) f) flaw_is found.1)) in
      let here = told l.bounds column.0 id column.2 in
      record {
        live = l;
        column = column.0;
        is_live = is_live;
        is_column = column.1;
        path_is = cc;
        id_is = here.1;
        is_true = here.0;
      }

  pub from_finding : Contains (manifest_findings basis row spec tallies lives) finding
      → IsSaid holds basis.typed lives path id
  from_finding c =
      elim (Contains-append_cases (map (manifest_finding row) (count_flaws row tallies))
      (live_findings basis row spec lives) finding c) as (λ _. IsSaid holds basis.typed lives path id) [
        | inl m ↦ let r = from_map (manifest_finding row) (count_flaws row tallies) finding m in
            let none : ◌≡◌ {A = Option (List ℕ)} None (Some path) = ap (λ (x : Finding). x.file) r.2 in absurd cc
        | inr m ↦ let r = from_flat (entry_findings basis row limits_here) lives finding m in of_live r.0 r.1 r.2
      ]

  pub to_finding : IsSaid holds basis.typed lives path id
      → Contains (manifest_findings basis row spec tallies lives) finding
  to_finding s =
      let l = s.live in
      let c = s.column in
      let one = in_flat (column_flaws l.bounds) basis.typed c (flaw c.id) s.is_column (tells l.bounds c s.is_true) in
      let all = Contains-append_right (flaws_by basis row limits_here l.entry)
      (columns_flaws l.bounds basis.typed ++ beside_here l) (flaw c.id)
      (Contains-append_left (columns_flaws l.bounds basis.typed) (beside_here l) (flaw c.id) one) in
      let found = in_map (finding_of row l.entry) (live_flaws basis row limits_here l) (flaw c.id) all in
      let same : finding_of row l.entry (flaw c.id) ≡ finding = rw (s.path_is, s.id_is) refl in
      let here = in_flat (entry_findings basis row limits_here) lives l (finding_of row l.entry (flaw c.id)) s.is_live
      found in
      Contains-append_right (map (manifest_finding row) (count_flaws row tallies))
      (live_findings basis row spec lives) finding
      (subst (λ f. Contains (live_findings basis row spec lives) f) same here)

-- ---- the four flaws

in_column : (file : FileBounds) (c : TypedColumn) (f : Flaw) → Contains (column_flaws file c) f
    → Holds (bounds_cross file c) (has_excess_nulls file c.id) (has_negative_counts file c.id)
    (has_bounds_of_nulls file c.id) c.id f
in_column file c f h = in_four (bounds_cross file c) (has_excess_nulls file c.id) (has_negative_counts file c.id)
    (has_bounds_of_nulls file c.id) c.id f h

abbrev crossing : FileBounds → TypedColumn → List Flaw
crossing file c = flaw_where (bounds_cross file c) (BoundsCross c.id)

abbrev excess : FileBounds → TypedColumn → List Flaw
excess file c = flaw_where (has_excess_nulls file c.id) (ExcessNulls c.id)

abbrev negative : FileBounds → TypedColumn → List Flaw
negative file c = flaw_where (has_negative_counts file c.id) (OfColumn NegativeCounts c.id)

abbrev of_nulls : FileBounds → TypedColumn → List Flaw
of_nulls file c = flaw_where (has_bounds_of_nulls file c.id) (OfColumn BoundsOfNulls c.id)

pub cross_told : (file : FileBounds) (c : TypedColumn) (id : ℤ) → Contains (column_flaws file c) (BoundsCross id)
    → (bounds_cross file c ≡ true) × (c.id ≡ id)
cross_told file c id h = in_column file c (BoundsCross id) h

pub cross_tells : (file : FileBounds) (c : TypedColumn) → bounds_cross file c ≡ true
    → Contains (column_flaws file c) (BoundsCross c.id)
cross_tells file c h =
    Contains-append_left (crossing file c) (excess file c ++ (negative file c ++ of_nulls file c)) (BoundsCross c.id)
    (where_one (bounds_cross file c) (BoundsCross c.id) h)

-- what holds of a column's id
abbrev pub of_id : (FileBounds → ℤ → Bool) → FileBounds → TypedColumn → Bool
of_id holds file c = holds file c.id

pub nulls_told : (file : FileBounds) (c : TypedColumn) (id : ℤ) → Contains (column_flaws file c) (ExcessNulls id)
    → (of_id has_excess_nulls file c ≡ true) × (c.id ≡ id)
nulls_told file c id h = in_column file c (ExcessNulls id) h

pub nulls_tells : (file : FileBounds) (c : TypedColumn) → of_id has_excess_nulls file c ≡ true
    → Contains (column_flaws file c) (ExcessNulls c.id)
nulls_tells file c h =
    Contains-append_right (crossing file c) (excess file c ++ (negative file c ++ of_nulls file c)) (ExcessNulls c.id)
    (Contains-append_left (excess file c) (negative file c ++ of_nulls file c) (ExcessNulls c.id)
    (where_one (has_excess_nulls file c.id) (ExcessNulls c.id) h))

pub negative_told : (file : FileBounds) (c : TypedColumn) (id : ℤ)
    → Contains (column_flaws file c) (OfColumn NegativeCounts id)
    → (of_id has_negative_counts file c ≡ true) × (c.id ≡ id)
negative_told file c id h = in_column file c (OfColumn NegativeCounts id) h

pub negative_tells : (file : FileBounds) (c : TypedColumn) → of_id has_negative_counts file c ≡ true
    → Contains (column_flaws file c) (OfColumn NegativeCounts c.id)
negative_tells file c h =
    let flaw = OfColumn NegativeCounts c.id in
    Contains-append_right (crossing file c) (excess file c ++ (negative file c ++ of_nulls file c)) flaw
    (Contains-append_right (excess file c) (negative file c ++ of_nulls file c) flaw
    (Contains-append_left (negative file c) (of_nulls file c) flaw
    (where_one (has_negative_counts file c.id) flaw h)))

pub of_nulls_told : (file : FileBounds) (c : TypedColumn) (id : ℤ)
    → Contains (column_flaws file c) (OfColumn BoundsOfNulls id)
    → (of_id has_bounds_of_nulls file c ≡ true) × (c.id ≡ id)
of_nulls_told file c id h = in_column file c (OfColumn BoundsOfNulls id) h

pub of_nulls_tells : (file : FileBounds) (c : TypedColumn) → of_id has_bounds_of_nulls file c ≡ true
    → Contains (column_flaws file c) (OfColumn BoundsOfNulls c.id)
of_nulls_tells file c h =
    let flaw = OfColumn BoundsOfNulls c.id in
    Contains-append_right (crossing file c) (excess file c ++ (negative file c ++ of_nulls file c)) flaw
    (Contains-append_right (excess file c) (negative file c ++ of_nulls file c) flaw
    (Contains-append_right (negative file c) (of_nulls file c) flaw
    (where_one (has_bounds_of_nulls file c.id) flaw h)))
