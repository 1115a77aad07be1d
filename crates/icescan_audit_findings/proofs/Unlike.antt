-- Which flaws of a live entry a finding can be of, by a test that holds of no others.
use Rattle.std.proofs.Common.{◌≡◌, inl, inr, ℕ, ℤ, Bool, true, false, nat_lt, List, [], ◌∷◌, ◌++◌, map, refl, sym, ap}
use Rattle.std.proofs.Common.{◌∙◌, subst, Option, Some, None, cond}
use Rattle.std.specs.List.{Contains}
use Rattle.std.proofs.lemmas.List.Elements.{Contains-append_left, Contains-append_right, Contains-append_cases}
use Rattle.ice_value.specs.declared.cell.Cell.{Cell}
use Rattle.ice_value.specs.declared.column_type.ColumnType.{ColumnType}
use Rattle.ice_value.specs.declared.file_bounds.FileBounds.{FileBounds}
use Rattle.ice_value.specs.declared.file_content.FileContent.{FileContent}
use Rattle.ice_value.specs.declared.file_content.FileContent.TheVariants.{Data, PositionDeletes, EqualityDeletes}
use Rattle.ice_manifest_reading.specs.declared.entry.Entry.{Entry}
use Rattle.ice_manifest_reading.specs.declared.entry.Live.{Live}
use Rattle.ice_manifest_reading.specs.declared.row.Row.{Row}
use Rattle.ice_manifest_reading.specs.declared.tally.Tallies.{Tallies}
use Rattle.ice_meta.specs.declared.spec.Spec.{Spec}
use Rattle.icescan_audit_findings.specs.declared.basis.Basis.{Basis}
use Rattle.icescan_audit_findings.specs.declared.basis.TypedColumn.{TypedColumn}
use Rattle.icescan_audit_findings.specs.declared.fields.SourceField.{SourceField}
use Rattle.icescan_audit_findings.specs.declared.finding.EntryFlaw.{EntryFlaw}
use Rattle.icescan_audit_findings.specs.declared.finding.EntryFlaw.TheVariants.{AboveManifest, NegativeSize}
use Rattle.icescan_audit_findings.specs.declared.finding.EntryFlaw.TheVariants.{NoEqualityIds, UnknownFormat}
use Rattle.icescan_audit_findings.specs.declared.finding.FieldFlaw.TheVariants.{OtherNulls, OutsideBounds, Unbounded}
use Rattle.icescan_audit_findings.specs.declared.finding.Finding.{Finding}
use Rattle.icescan_audit_findings.specs.declared.finding.Flaw.{Flaw}
use Rattle.icescan_audit_findings.specs.declared.finding.Flaw.TheVariants.{Uncovered, BelowLeast, AboveLast, NoColumn}
use Rattle.icescan_audit_findings.specs.declared.finding.Flaw.TheVariants.{BoundsCross, ExcessNulls}
use Rattle.icescan_audit_findings.specs.declared.finding.Flaw.TheVariants.{OfColumn, OfEntry, OfField, OfRow}
use Rattle.icescan_audit_findings.specs.declared.finding.ColumnFlaw.TheVariants.{BoundsOfNulls, NegativeCounts}
use Rattle.icescan_audit_findings.specs.declared.finding.RowFlaw.{RowFlaw}
use Rattle.icescan_audit_findings.specs.declared.finding.RowFlaw.TheVariants.{AboveSnapshot, OtherContent, OtherLength}
use Rattle.icescan_audit_findings.specs.declared.finding.RowFlaw.TheVariants.{OtherSpec, OtherSummaries}
use Rattle.icescan_audit_findings.specs.declared.limits.FieldLimits.{FieldLimits}
use Rattle.icescan_audit_findings.specs.ColumnFlaws.{bounds_cross, column_flaws, columns_flaws, has_bounds_of_nulls}
use Rattle.icescan_audit_findings.specs.ColumnFlaws.{has_excess_nulls, has_negative_counts}
use Rattle.icescan_audit_findings.specs.Counting.{count_flaws}
use Rattle.icescan_audit_findings.specs.Coverage.{outside, row_limits, unbounded}
use Rattle.icescan_audit_findings.specs.EntryFlaws.{entry_flaw, entry_flaws, has_flaw}
use Rattle.icescan_audit_findings.specs.Examining.{finding_at}
use Rattle.icescan_audit_findings.specs.FieldFlaws.{field_flaws, fields_flaws, flaws_as, has_other_nulls}
use Rattle.icescan_audit_findings.specs.FieldFlaws.{is_outside_bounds, sources_of}
use Rattle.icescan_audit_findings.specs.Findings.{entry_findings, finding_of, flaws_by, live_findings}
use Rattle.icescan_audit_findings.specs.Findings.{live_flaws, manifest_finding, manifest_findings, missing}
use Rattle.icescan_audit_findings.specs.Findings.{missing_columns, missing_in}
use Rattle.icescan_audit_findings.specs.Flaws.{flaw_where}
use Rattle.icescan_audit_findings.specs.RowFlaws.{has_row_flaw, row_finding, row_findings}
use Rattle.icescan_audit_findings.specs.Telling.{HasEntry}
use Rattle.icescan_audit_findings.proofs.Members.{at_head, first_or_behind, from_flat, from_map, in_flat, in_map}
use Rattle.icescan_audit_findings.proofs.Members.{in_none}

where_is : (b : Bool) (flaw f : Flaw) → Contains (flaw_where b flaw) f → (b ≡ true) × (flaw ≡ f)
where_is true flaw f c = elim (first_or_behind flaw f [] c) as (λ _. (true ≡ true) × (flaw ≡ f)) [
  | inl e ↦ (refl, e)
  | inr m ↦ absurd (in_none f m)
]
where_is false flaw f c = absurd (in_none f c)

is_where : (b : Bool) (flaw : Flaw) → b ≡ true → Contains (flaw_where b flaw) flaw
is_where true flaw h = at_head flaw []
is_where false flaw h = absurd cc

-- ---- flaws that are not of an entry itself

abbrev of_entry : Flaw → Bool
of_entry (OfEntry flaw) = true
of_entry _ = false

abbrev AreUnlike : List Flaw → Type 0
AreUnlike flaws = (f : Flaw) → Contains flaws f → of_entry f ≡ false

one_unlike : (b : Bool) (flaw : Flaw) → of_entry flaw ≡ false → AreUnlike (flaw_where b flaw)
one_unlike b flaw h f c = sym (ap of_entry (where_is b flaw f c).1) ∙ h

both_unlike : (xs ys : List Flaw) → AreUnlike xs → AreUnlike ys → AreUnlike (xs ++ ys)
both_unlike xs ys h k f c = elim (Contains-append_cases xs ys f c) as (λ _. of_entry f ≡ false) [
  | inl m ↦ h f m
  | inr m ↦ k f m
]

mapped_unlike : {X : Type 0} (make : X → Flaw) → ((x : X) → of_entry (make x) ≡ false) → (xs : List X)
    → AreUnlike (map make xs)
mapped_unlike make h xs f c = let r = from_map make xs f c in sym (ap of_entry r.2) ∙ h r.0

missing_unlike : (content : FileContent) (columns ids : List ℤ) → AreUnlike (missing_in content columns ids)
missing_unlike Data columns ids f c = absurd (in_none f c)
missing_unlike PositionDeletes columns ids f c = absurd (in_none f c)
missing_unlike EqualityDeletes columns ids f c = mapped_unlike NoColumn (λ _. refl) (missing columns ids) f c

first_unlike : (basis : Basis) (row : Row) (limits : List FieldLimits) (x : Entry)
    → AreUnlike (flaws_by basis row limits x)
first_unlike basis row limits x =
    let names = outside limits x.file.tuple in
    let below = nat_lt x.sequence_number row.min_sequence_number in
    let above = nat_lt basis.last x.sequence_number in
    let gone = missing_columns basis x in
    both_unlike (map Uncovered names) (flaw_where below BelowLeast ++ (flaw_where above AboveLast ++ gone))
    (mapped_unlike Uncovered (λ _. refl) names)
    (both_unlike (flaw_where below BelowLeast) (flaw_where above AboveLast ++ gone) (one_unlike below BelowLeast refl)
    (both_unlike (flaw_where above AboveLast) gone (one_unlike above AboveLast refl)
    (missing_unlike x.file.content basis.columns x.file.equality_ids)))

column_unlike : (file : FileBounds) (column : TypedColumn) → AreUnlike (column_flaws file column)
column_unlike file column =
    let cross = flaw_where (bounds_cross file column) (BoundsCross column.id) in
    let excess = flaw_where (has_excess_nulls file column.id) (ExcessNulls column.id) in
    let negative = flaw_where (has_negative_counts file column.id) (OfColumn NegativeCounts column.id) in
    let of_nulls = flaw_where (has_bounds_of_nulls file column.id) (OfColumn BoundsOfNulls column.id) in
    both_unlike cross (excess ++ (negative ++ of_nulls))
    (one_unlike (bounds_cross file column) (BoundsCross column.id) refl)
    (both_unlike excess (negative ++ of_nulls)
    (one_unlike (has_excess_nulls file column.id) (ExcessNulls column.id) refl)
    (both_unlike negative of_nulls
    (one_unlike (has_negative_counts file column.id) (OfColumn NegativeCounts column.id) refl)
    (one_unlike (has_bounds_of_nulls file column.id) (OfColumn BoundsOfNulls column.id) refl)))

columns_unlike : (file : FileBounds) (columns : List TypedColumn) → AreUnlike (columns_flaws file columns)
columns_unlike file columns f c =
    let r = from_flat (column_flaws file) columns f c in column_unlike file r.0 f r.2

field_unlike : (file : FileBounds) (g : SourceField) (t : Option ColumnType) (p : Cell)
    → AreUnlike (flaws_as file g t p)
field_unlike file g None p = λ f c. absurd (in_none f c)
field_unlike file g (Some t) p =
    both_unlike (flaw_where (has_other_nulls file g.column p) (OfField OtherNulls g.name))
    (flaw_where (is_outside_bounds file g.transform t g.column p) (OfField OutsideBounds g.name))
    (one_unlike (has_other_nulls file g.column p) (OfField OtherNulls g.name) refl)
    (one_unlike (is_outside_bounds file g.transform t g.column p) (OfField OutsideBounds g.name) refl)

fields_unlike : (file : FileBounds) (gs : List SourceField) (tuple : List Cell)
    → AreUnlike (fields_flaws file gs tuple)
fields_unlike file [] tuple = λ f c. absurd (in_none f c)
fields_unlike file (g ∷ gs) [] = λ f c. absurd (in_none f c)
fields_unlike file (g ∷ gs) (p ∷ tuple) = both_unlike (field_flaws file g p) (fields_flaws file gs tuple)
    (field_unlike file g g.column_type p) (fields_unlike file gs tuple)

-- ---- the flaws of an entry itself

module _ (row : Row) (x : Entry) where
  abbrev after_ids : List Flaw
  after_ids = entry_flaw NegativeSize row x ++ entry_flaw UnknownFormat row x

  abbrev Holds : Flaw → Type 0
  Holds f = (flaw : EntryFlaw) → f ≡ OfEntry flaw → has_flaw flaw row x ≡ true

  one_holds : (kind : EntryFlaw) (f : Flaw) → Contains (entry_flaw kind row x) f → Holds f
  one_holds kind f c flaw is =
      let r = where_is (has_flaw kind row x) (OfEntry kind) f c in
      let same : OfEntry kind ≡ OfEntry flaw = r.1 ∙ is in
      let e : kind ≡ flaw = cc in
      subst (λ (k : EntryFlaw). has_flaw k row x ≡ true) e r.0

  has_one : (f : Flaw) → Contains (entry_flaws row x) f → Holds f
  has_one f c =
      elim (Contains-append_cases (entry_flaw AboveManifest row x) (entry_flaw NoEqualityIds row x ++ after_ids) f c) as
      (λ _. Holds f) [
        | inl m ↦ one_holds AboveManifest f m
        | inr m ↦ elim (Contains-append_cases (entry_flaw NoEqualityIds row x) after_ids f m) as (λ _. Holds f) [
          | inl k ↦ one_holds NoEqualityIds f k
          | inr k ↦ elim (Contains-append_cases (entry_flaw NegativeSize row x) (entry_flaw UnknownFormat row x) f k) as
              (λ _. Holds f) [
                | inl i ↦ one_holds NegativeSize f i
                | inr i ↦ one_holds UnknownFormat f i
              ]
        ]
      ]

  is_one : (flaw : EntryFlaw) → has_flaw flaw row x ≡ true → Contains (entry_flaws row x) (OfEntry flaw)
  is_one AboveManifest h =
      let f = OfEntry AboveManifest in
      Contains-append_left (entry_flaw AboveManifest row x) (entry_flaw NoEqualityIds row x ++ after_ids) f
      (is_where (has_flaw AboveManifest row x) f h)
  is_one NoEqualityIds h =
      let f = OfEntry NoEqualityIds in
      Contains-append_right (entry_flaw AboveManifest row x) (entry_flaw NoEqualityIds row x ++ after_ids) f
      (Contains-append_left (entry_flaw NoEqualityIds row x) after_ids f (is_where (has_flaw NoEqualityIds row x) f h))
  is_one NegativeSize h =
      let f = OfEntry NegativeSize in
      Contains-append_right (entry_flaw AboveManifest row x) (entry_flaw NoEqualityIds row x ++ after_ids) f
      (Contains-append_right (entry_flaw NoEqualityIds row x) after_ids f
      (Contains-append_left (entry_flaw NegativeSize row x) (entry_flaw UnknownFormat row x) f
      (is_where (has_flaw NegativeSize row x) f h)))
  is_one UnknownFormat h =
      let f = OfEntry UnknownFormat in
      Contains-append_right (entry_flaw AboveManifest row x) (entry_flaw NoEqualityIds row x ++ after_ids) f
      (Contains-append_right (entry_flaw NoEqualityIds row x) after_ids f
      (Contains-append_right (entry_flaw NegativeSize row x) (entry_flaw UnknownFormat row x) f
      (is_where (has_flaw UnknownFormat row x) f h)))

-- ---- the findings on a manifest

module _ (basis : Basis) (row : Row) (spec : Spec) (tallies : Tallies) (lives : List Live) (path : List ℕ)
    (flaw : EntryFlaw) where
  abbrev finding : Finding
  finding = finding_at row path (OfEntry flaw)

  abbrev limits : List FieldLimits
  limits = row_limits spec row.partitions

  abbrev names : Live → List Flaw
  names l = map (OfField Unbounded) (unbounded limits l.entry.file.tuple)

  abbrev fields : Live → List Flaw
  fields l = fields_flaws l.bounds (sources_of basis row) l.entry.file.tuple

  abbrev columns : Live → List Flaw
  columns l = columns_flaws l.bounds basis.typed

  abbrev itself : Live → List Flaw
  itself l = entry_flaws row l.entry

  only_itself : (l : Live) → Contains (live_flaws basis row limits l) (OfEntry flaw)
      → Contains (itself l) (OfEntry flaw)
  only_itself l c =
      let f = OfEntry flaw in
      elim (Contains-append_cases (flaws_by basis row limits l.entry) (columns l ++ (names l ++ (fields l ++ itself l)))
      f c) as (λ _. Contains (itself l) f) [
        | inl m ↦ let no : true ≡ false = first_unlike basis row limits l.entry f m in absurd cc
        | inr m ↦ elim (Contains-append_cases (columns l) (names l ++ (fields l ++ itself l)) f m) as
            (λ _. Contains (itself l) f) [
              | inl k ↦ let no : true ≡ false = columns_unlike l.bounds basis.typed f k in absurd cc
              | inr k ↦ elim (Contains-append_cases (names l) (fields l ++ itself l) f k) as
                  (λ _. Contains (itself l) f) [
                    | inl i ↦ let no : true ≡ false = mapped_unlike (OfField Unbounded) (λ _. refl)
                        (unbounded limits l.entry.file.tuple) f i in absurd cc
                    | inr i ↦ elim (Contains-append_cases (fields l) (itself l) f i) as (λ _. Contains (itself l) f) [
                      | inl j ↦ let no : true ≡ false = fields_unlike l.bounds (sources_of basis row) l.entry.file.tuple f j in
                          absurd cc
                      | inr j ↦ j
                    ]
                  ]
            ]
      ]

  in_live : (l : Live) → Contains (itself l) (OfEntry flaw) → Contains (live_flaws basis row limits l) (OfEntry flaw)
  in_live l c =
      let f = OfEntry flaw in
      Contains-append_right (flaws_by basis row limits l.entry) (columns l ++ (names l ++ (fields l ++ itself l))) f
      (Contains-append_right (columns l) (names l ++ (fields l ++ itself l)) f
      (Contains-append_right (names l) (fields l ++ itself l) f (Contains-append_right (fields l) (itself l) f c)))

  of_live : (l : Live) → Contains lives l → Contains (entry_findings basis row limits l) finding
      → HasEntry (has_flaw flaw row) lives path
  of_live l is_live c =
      let found = from_map (finding_of row l.entry) (live_flaws basis row limits l) finding c in
      let flaw_is : found.0 ≡ OfEntry flaw = ap (λ (x : Finding). x.flaw) found.2 in
      let file_is : Some l.entry.file.path ≡ Some path = ap (λ (x : Finding). x.file) found.2 in
      let here = only_itself l (subst (λ f. Contains (live_flaws basis row limits l) f) flaw_is found.1) in
      record {
        live = l;
        is_live = is_live;
        path_is = cc;
        is_true = has_one row l.entry (OfEntry flaw) here flaw refl;
      }

  pub from_finding : Contains (manifest_findings basis row spec tallies lives) finding
      → HasEntry (has_flaw flaw row) lives path
  from_finding c =
      elim (Contains-append_cases (map (manifest_finding row) (count_flaws row tallies))
      (live_findings basis row spec lives) finding c) as (λ _. HasEntry (has_flaw flaw row) lives path) [
        | inl m ↦ let r = from_map (manifest_finding row) (count_flaws row tallies) finding m in
            let none : ◌≡◌ {A = Option (List ℕ)} None (Some path) = ap (λ (x : Finding). x.file) r.2 in absurd cc
        | inr m ↦ let r = from_flat (entry_findings basis row limits) lives finding m in of_live r.0 r.1 r.2
      ]

  pub to_finding : HasEntry (has_flaw flaw row) lives path
      → Contains (manifest_findings basis row spec tallies lives) finding
  to_finding s =
      let l = s.live in
      let flaw_there = in_live l (is_one row l.entry flaw s.is_true) in
      let found = in_map (finding_of row l.entry) (live_flaws basis row limits l) (OfEntry flaw) flaw_there in
      let same : finding_of row l.entry (OfEntry flaw) ≡ finding = rw s.path_is refl in
      let here = in_flat (entry_findings basis row limits) lives l (finding_of row l.entry (OfEntry flaw)) s.is_live
      found in
      Contains-append_right (map (manifest_finding row) (count_flaws row tallies))
      (live_findings basis row spec lives) finding
      (subst (λ f. Contains (live_findings basis row spec lives) f) same here)

-- ---- the findings on a row

module _ (basis : Basis) (row : Row) (file : List ℕ) where
  row_at : (b : Bool) (kind flaw : RowFlaw)
      → Contains (cond b (manifest_finding row (OfRow kind) ∷ []) []) (manifest_finding row (OfRow flaw))
      → (b ≡ true) × (kind ≡ flaw)
  row_at true kind flaw c = elim (first_or_behind (manifest_finding row (OfRow kind))
      (manifest_finding row (OfRow flaw)) [] c) as (λ _. (true ≡ true) × (kind ≡ flaw)) [
        | inl e ↦ (let same : OfRow kind ≡ OfRow flaw = ap (λ (x : Finding). x.flaw) e in (refl, cc))
        | inr m ↦ absurd (in_none (manifest_finding row (OfRow flaw)) m)
      ]
  row_at false kind flaw c = absurd (in_none (manifest_finding row (OfRow flaw)) c)

  at_row : (b : Bool) (flaw : RowFlaw) → b ≡ true
      → Contains (cond b (manifest_finding row (OfRow flaw) ∷ []) []) (manifest_finding row (OfRow flaw))
  at_row true flaw h = at_head (manifest_finding row (OfRow flaw)) []
  at_row false flaw h = absurd cc

  one_row : (kind flaw : RowFlaw) → Contains (row_finding kind basis row file) (manifest_finding row (OfRow flaw))
      → has_row_flaw flaw basis row file ≡ true
  one_row kind flaw c =
      let r = row_at (has_row_flaw kind basis row file) kind flaw c in
      subst (λ (k : RowFlaw). has_row_flaw k basis row file ≡ true) r.1 r.0

  abbrev two : List Finding
  two = row_finding OtherSummaries basis row file ++ row_finding AboveSnapshot basis row file

  abbrev three : List Finding
  three = row_finding OtherLength basis row file ++ two

  abbrev four : List Finding
  four = row_finding OtherContent basis row file ++ three

  pub from_rows : (flaw : RowFlaw) → Contains (row_findings basis row file) (manifest_finding row (OfRow flaw))
      → has_row_flaw flaw basis row file ≡ true
  from_rows flaw c =
      let f = manifest_finding row (OfRow flaw) in
      elim (Contains-append_cases (row_finding OtherSpec basis row file) four f c) as
      (λ _. has_row_flaw flaw basis row file ≡ true) [
        | inl m ↦ one_row OtherSpec flaw m
        | inr m ↦ elim (Contains-append_cases (row_finding OtherContent basis row file) three f m) as
            (λ _. has_row_flaw flaw basis row file ≡ true) [
              | inl k ↦ one_row OtherContent flaw k
              | inr k ↦ elim (Contains-append_cases (row_finding OtherLength basis row file) two f k) as
                  (λ _. has_row_flaw flaw basis row file ≡ true) [
                    | inl i ↦ one_row OtherLength flaw i
                    | inr i ↦ elim (Contains-append_cases (row_finding OtherSummaries basis row file)
                        (row_finding AboveSnapshot basis row file) f i) as (λ _. has_row_flaw flaw basis row file ≡ true) [
                          | inl j ↦ one_row OtherSummaries flaw j
                          | inr j ↦ one_row AboveSnapshot flaw j
                        ]
                  ]
            ]
      ]

  pub to_rows : (flaw : RowFlaw) → has_row_flaw flaw basis row file ≡ true
      → Contains (row_findings basis row file) (manifest_finding row (OfRow flaw))
  to_rows OtherSpec h =
      let f = manifest_finding row (OfRow OtherSpec) in
      Contains-append_left (row_finding OtherSpec basis row file) four f
      (at_row (has_row_flaw OtherSpec basis row file) OtherSpec h)
  to_rows OtherContent h =
      let f = manifest_finding row (OfRow OtherContent) in
      Contains-append_right (row_finding OtherSpec basis row file) four f
      (Contains-append_left (row_finding OtherContent basis row file) three f
      (at_row (has_row_flaw OtherContent basis row file) OtherContent h))
  to_rows OtherLength h =
      let f = manifest_finding row (OfRow OtherLength) in
      Contains-append_right (row_finding OtherSpec basis row file) four f
      (Contains-append_right (row_finding OtherContent basis row file) three f
      (Contains-append_left (row_finding OtherLength basis row file) two f
      (at_row (has_row_flaw OtherLength basis row file) OtherLength h)))
  to_rows OtherSummaries h =
      let f = manifest_finding row (OfRow OtherSummaries) in
      Contains-append_right (row_finding OtherSpec basis row file) four f
      (Contains-append_right (row_finding OtherContent basis row file) three f
      (Contains-append_right (row_finding OtherLength basis row file) two f
      (Contains-append_left (row_finding OtherSummaries basis row file) (row_finding AboveSnapshot basis row file) f
      (at_row (has_row_flaw OtherSummaries basis row file) OtherSummaries h))))
  to_rows AboveSnapshot h =
      let f = manifest_finding row (OfRow AboveSnapshot) in
      Contains-append_right (row_finding OtherSpec basis row file) four f
      (Contains-append_right (row_finding OtherContent basis row file) three f
      (Contains-append_right (row_finding OtherLength basis row file) two f
      (Contains-append_right (row_finding OtherSummaries basis row file) (row_finding AboveSnapshot basis row file) f
      (at_row (has_row_flaw AboveSnapshot basis row file) AboveSnapshot h))))
