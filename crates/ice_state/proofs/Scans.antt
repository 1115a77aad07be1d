-- Lemmas on scans.
use Rattle.std.proofs.Common.{◌≡◌, ◌<◌, ℕ, ℤ, zero, suc, List, [], ◌∷◌, refl, sym, ap, ◌∙◌, Bool, true, false, length}
use Rattle.std.proofs.Common.{get_or, arith, cond, filter, is_none, Option, Ok, Err, subst}
use Rattle.std.specs.List.{slice_get}
use Rattle.std.specs.Option.{option_and_then}
use Rattle.std.specs.Cmp.{IsStrictWeakOrder}
use Rattle.std.proofs.lemmas.Cmp.{nat_list_cmp_total}
use Rattle.std.proofs.lemmas.List.Sorted.{ranks_by}
use Rattle.std.proofs.Math.Path.{fun_ext}
use Rattle.ice_filter.specs.declared.bound.BoundPredicate.{BoundPredicate}
use Rattle.ice_filter.specs.declared.parts.Part.{Part}
use Rattle.ice_project.specs.Files.{file_may}
use Rattle.ice_project.specs.Tuples.{part_meets}
use Rattle.ice_meta.specs.declared.spec.Spec.{Spec}
use Rattle.ice_manifest_reading.specs.declared.row.Row.{Row}
use Rattle.ice_state.specs.declared.fault.ScanFault.{ScanFault}
use Rattle.ice_state.specs.Parts.{NamesFirst}
use Rattle.ice_state.specs.Pruning.{Pruner, by_projection, summaries_allow, pruner_of}
use Rattle.ice_state.specs.Scans.{Scanned, pruner, row_before, by_row_path, without_spec, AllHaveSpec, wanted_rows}
use Rattle.ice_state.specs.Scans.{unless_missing, scan_with, scan_of, IsScanOf}
use Rattle.ice_state.specs.Specs.{spec_of, by_id}
use Rattle.ice_state.proofs.Specs.{spec_of-by_id}

pub row_order : IsStrictWeakOrder row_before
row_order = ranks_by nat_list_cmp_total (λ (a : Row). a.path)

-- the spec of a row
pub spec_at-row : (specs : List Spec) (rows : List Row) (i : ℕ) (row : Row) → i < length rows → row ≡ get_or rows i row
    → option_and_then (λ (r : Row). spec_of specs r.spec_id) (slice_get rows i) ≡ spec_of specs row.spec_id
spec_at-row specs [] i row l h = absurd (omega arith)
spec_at-row specs (r ∷ rs) zero row l h = ap (λ (q : Row). spec_of specs q.spec_id) (sym h)
spec_at-row specs (r ∷ rs) (suc i) row l h = spec_at-row specs rs i row (omega arith) h

-- where each row has a spec, this one has
pub has_spec : (specs : List Spec) (rows : List Row) (i : ℕ) (row : Row) → i < length rows → row ≡ get_or rows i row
    → without_spec specs rows ≡ [] → is_none (spec_of specs row.spec_id) ≡ false
has_spec specs [] i row l h k = absurd (omega arith)
has_spec specs (r ∷ rs) zero row l h k =
    let P : (b : Bool) → cond b (r ∷ without_spec specs rs) (without_spec specs rs) ≡ [] → b ≡ false =
    λ b. elim b as (λ v. cond v (r ∷ without_spec specs rs) (without_spec specs rs) ≡ [] → v ≡ false)
    [ true ↦ λ e. cc | false ↦ λ e. refl ] in
    ap (λ (q : Row). is_none (spec_of specs q.spec_id)) h ∙ P (is_none (spec_of specs r.spec_id)) k
has_spec specs (r ∷ rs) (suc i) row l h k =
    let P : (b : Bool) → cond b (r ∷ without_spec specs rs) (without_spec specs rs) ≡ [] → without_spec specs rs ≡ [] =
    λ b. elim b as (λ v. cond v (r ∷ without_spec specs rs) (without_spec specs rs) ≡ [] → without_spec specs rs ≡ [])
    [ true ↦ λ e. cc | false ↦ λ e. e ] in
    has_spec specs rs i row (omega arith) h (P (is_none (spec_of specs r.spec_id)) k)

-- the rows without a spec are the same by the sorted specs
pub without-by_id : (specs : List Spec) (rows : List Row) → without_spec (by_id specs) rows ≡ without_spec specs rows
without-by_id specs [] = refl
without-by_id specs (row ∷ rows) =
    rw (spec_of-by_id specs row.spec_id) (ap (λ rs. cond (is_none (spec_of specs row.spec_id)) (row ∷ rs) rs)
    (without-by_id specs rows))

-- rows that are left out lack no spec
none_without : (specs : List Spec) (p : Row → Bool) (rows : List Row) → without_spec specs rows ≡ []
    → without_spec specs (filter p rows) ≡ []
none_without specs p [] h = refl
none_without specs p (row ∷ rows) h =
    let split : (b : Bool) → cond b (row ∷ without_spec specs rows) (without_spec specs rows) ≡ []
    → (b ≡ false) × (without_spec specs rows ≡ []) =
    λ b. elim b as (λ v. cond v (row ∷ without_spec specs rows) (without_spec specs rows) ≡ []
    → (v ≡ false) × (without_spec specs rows ≡ [])) [ true ↦ λ e. cc | false ↦ λ e. (refl, e) ] in
    let both = split (is_none (spec_of specs row.spec_id)) h in
    elim (p row) as (λ v. without_spec specs (cond v (row ∷ filter p rows) (filter p rows)) ≡ []) [
      | true ↦ ap (λ b. cond b (row ∷ without_spec specs (filter p rows)) (without_spec specs (filter p rows))) both.0 ∙
          none_without specs p rows both.1
      | false ↦ none_without specs p rows both.1
    ]

pub wanted_known : (specs : List Spec) (p : Row → Bool) (rows : List Row) → without_spec specs rows ≡ []
    → AllHaveSpec specs (filter p rows)
wanted_known specs p rows h = none_without specs p rows h

-- what is kept depends on the spec of each id alone
abbrev pruner_from : List (Part BoundPredicate) → (ℤ → Option Spec) → Pruner
pruner_from parts found =
    record {
      meets = λ id tuple. by_projection parts (λ part. part_meets part tuple) (found id);
      bounds = file_may parts;
      wants = λ row. by_projection parts (λ part. summaries_allow part row.partitions) (found row.spec_id);
    }

pub pruner-by_id : (parts : List (Part BoundPredicate)) (specs : List Spec)
    → pruner_of parts (by_id specs) ≡ pruner_of parts specs
pruner-by_id parts specs = ap (pruner_from parts) (fun_ext (spec_of-by_id specs))

-- where each row has a spec, the scan has the wanted rows
pub scan_of-sorted : (rows found : List Row) (specs ids : List Spec) (parts given : List (Part BoundPredicate))
    (wanted : List Row) → found ≡ by_row_path rows → ids ≡ by_id specs → given ≡ parts → without_spec ids found ≡ []
    → wanted ≡ wanted_rows (pruner_of given ids) found →
    scan_of rows specs parts ≡ Ok (record { wanted = wanted; specs = ids; filter = given })
scan_of-sorted rows found specs ids parts given wanted sorted' by same none is =
    let none' : without_spec specs (by_row_path rows) ≡ [] = sym (without-by_id specs (by_row_path rows)) ∙ ap
    (λ rs. without_spec (by_id specs) rs) (sym sorted') ∙ ap (λ ss. without_spec ss found) (sym by) ∙ none in
    let keeps : pruner_of given ids ≡ pruner_of parts specs = ap (λ ss. pruner_of given ss) by ∙ pruner-by_id given
    specs ∙ ap (λ ps. pruner_of ps specs) same in
    let wants : wanted_rows (pruner_of parts specs) (by_row_path rows) ≡ wanted =
    ap (λ rs. wanted_rows (pruner_of parts specs) rs) (sym sorted') ∙ ap (λ p. wanted_rows p found) (sym keeps) ∙ sym
    is in
    ap (λ (rs : List Row). unless_missing rs (scan_with rows specs parts)) none'
    ∙ ap (λ (ws : List Row). Ok (record { wanted = ws; specs = by_id specs; filter = parts })) wants
    ∙ ap (λ (ss : List Spec). Ok (record { wanted = wanted; specs = ss; filter = parts })) (sym by)
    ∙ ap (λ (ps : List (Part BoundPredicate)). Ok (record { wanted = wanted; specs = ids; filter = ps })) (sym same)

first_missing : (f : ScanFault) (xs : List Row) (scan : Scanned) → NamesFirst f xs → unless_missing xs scan ≡ Err f
first_missing f [] scan h = absurd h
first_missing f (row ∷ rows) scan h = ap Err (sym h)

-- where a row has none, there is no scan
pub scan_of-missing : (rows found : List Row) (specs ids : List Spec) (parts : List (Part BoundPredicate))
    (f : ScanFault)
    → found ≡ by_row_path rows → ids ≡ by_id specs → NamesFirst f (without_spec ids found)
    → scan_of rows specs parts ≡ Err f
scan_of-missing rows found specs ids parts f sorted' by first =
    let same : without_spec ids found ≡ without_spec specs (by_row_path rows) = ap (λ ss. without_spec ss found) by ∙ ap
    (λ rs. without_spec (by_id specs) rs) sorted' ∙ without-by_id specs (by_row_path rows) in
    first_missing f (without_spec specs (by_row_path rows)) _ (subst (NamesFirst f) same first)

-- what a scan is that there is
pub scan_made : (rows : List Row) (specs : List Spec) (parts : List (Part BoundPredicate)) (scan : Scanned)
    → scan_of rows specs parts ≡ Ok scan → (without_spec specs (by_row_path rows) ≡ []) × (scan_with rows specs parts
    ≡ scan)
scan_made rows specs parts scan h =
    let made : Scanned = scan_with rows specs parts in
    let P : (xs : List Row) → unless_missing xs made ≡ Ok scan → (xs ≡ []) × (made ≡ scan) =
    λ xs. elim xs as (λ v. unless_missing v made ≡ Ok scan → (v ≡ []) × (made ≡ scan)) [
      | [] ↦ λ e. (refl, cc)
      | row ∷
          rest ↦ λ e. cc
    ] in
    P (without_spec specs (by_row_path rows)) h

pub scan_is : (rows : List Row) (specs : List Spec) (scan : Scanned) → IsScanOf rows specs scan
    → (without_spec specs (by_row_path rows) ≡ []) × (scan_with rows specs scan.filter ≡ scan)
scan_is rows specs scan h = scan_made rows specs scan.filter scan h

-- the scan that was made is one of its own filter
pub made : (rows : List Row) (specs : List Spec) (parts : List (Part BoundPredicate)) (scan : Scanned)
    → scan_of rows specs parts ≡ Ok scan → (scan.filter ≡ parts) × IsScanOf rows specs scan
made rows specs parts scan h =
    let same : parts ≡ scan.filter = ap (λ (s : Scanned). s.filter) (scan_made rows specs parts scan h).1 in
    (sym same, subst (λ (ps : List (Part BoundPredicate)). scan_of rows specs ps ≡ Ok scan) same h)

-- it keeps the same by the sorted specs
pub same_pruner : (rows : List Row) (specs : List Spec) (scan : Scanned) → IsScanOf rows specs scan
    → pruner scan ≡ pruner_of scan.filter specs
same_pruner rows specs scan h =
    ap (λ (ss : List Spec). pruner_of scan.filter ss)
    (sym (ap (λ (s : Scanned). s.specs) (scan_is rows specs scan h).1)) ∙ pruner-by_id scan.filter specs
