-- The data files that are told as kept are those of the plan.
use Rattle.std.proofs.Common.{◌≡◌, ℕ, Bool, true, false, ◌&&◌, cond, List, [], ◌∷◌, ◌++◌, filter, map, length}
use Rattle.std.proofs.Common.{Option, None, Some, replicate, refl, sym, ap, ◌∙◌, subst}
use Rattle.std.specs.Prelude.{Ok, Err, option_map}
use Rattle.std.specs.List.{AllByRecursion, flat_map}
use Rattle.std.specs.List.Sorted.{IsPermutation}
use Rattle.std.proofs.lemmas.List.{map-append}
use Rattle.std.proofs.lemmas.List.Elements.{filter-append}
use Rattle.std.proofs.lemmas.List.Sorted.{IsPermutation-map}
use Rattle.icescan_explain.specs.Asking.{ice_filter_tests, spec_tests}
use Rattle.icescan_explain.specs.Fates.{file_fate, file_verdict, is_kept, row_fate, row_verdict, subject_of}
use Rattle.icescan_explain.specs.declared.tests.FilterTests.{FilterTests}
use Rattle.icescan_explain.specs.declared.tests.SpecTests.{SpecTests}
use Rattle.icescan_explain.specs.declared.verdict.Subject.TheVariants as subject
use Rattle.icescan_explain.specs.declared.verdict.Verdict.{Verdict}
use Rattle.icescan_explain.proofs.Scanned.{file_kept, row_kept}
use Rattle.ice_filter.specs.declared.bound.BoundPredicate.{BoundPredicate}
use Rattle.ice_filter.specs.declared.parts.Part.{Part}
use Rattle.ice_manifest_reading.specs.Manifests.{entries, live_of}
use Rattle.ice_manifest_reading.specs.declared.entry.Entry.{Entry}
use Rattle.ice_manifest_reading.specs.declared.entry.Live.{Live}
use Rattle.ice_manifest_reading.specs.declared.row.Row.{Row}
use Rattle.ice_meta.specs.declared.spec.Spec.{Spec}
use Rattle.ice_state.specs.Contents.{Content, World, content, every_row, live_by, manifest_of, reading, reading_of}
use Rattle.ice_state.specs.Contents.{slots_of}
use Rattle.ice_state.specs.Lines.{OwnedLine}
use Rattle.ice_state.specs.Outcomes.{by_path, entries_in, first_or, kept_in, line_of, outcome, path_before, plan_over}
use Rattle.ice_state.specs.Pruning.{Pruner, holds, keeps, kept, pruner_of, same_content}
use Rattle.ice_state.specs.Scans.{Scanned, by_row_path, pruner, scan_of, wanted_rows}
use Rattle.ice_state.specs.Snapshots.{live, live_or_none}
use Rattle.ice_state.specs.Specs.{by_id, spec_of}
use Rattle.ice_state.specs.declared.fault.FinishFault.{FinishFault}
use Rattle.ice_state.proofs.OfSpecs.{live_of_row}
use Rattle.ice_state.proofs.Permuted.{filter_moved}
use Rattle.ice_state.proofs.Pruned.{order}
use Rattle.ice_state.proofs.Scans.{made, same_pruner, scan_is}
use Rattle.ice_state.proofs.SortedAlike.{sorted_moves}
use Rattle.ice_state.proofs.Specs.{spec_of-by_id}
use Rattle.ice_value.specs.declared.file_content.FileContent.{FileContent}
use Rattle.ice_value.specs.declared.file_content.FileContent.TheVariants.{Data, PositionDeletes, EqualityDeletes}
use Rattle.icescan_explain.specs.Counting.{same_subject}
use Rattle.icescan_explain.specs.RowsTold.{files_told, lives_at, row_told, rows_told, told_by}
use Rattle.icescan_explain.specs.Told.{paths_kept, paths_of_data, paths_planned}
use Rattle.icescan_explain.proofs.Wanted.{of_id}

abbrev pub path_of : Entry → List ℕ
path_of x = x.file.path

-- ---- verdicts that are told

pub both_kept : (vs ws : List Verdict) → paths_kept (vs ++ ws) ≡ paths_kept vs ++ paths_kept ws
both_kept vs ws =
    let test : Verdict → Bool = λ (v : Verdict). same_subject v.subject subject.Data && is_kept v.fate in
    ap (map (λ (v : Verdict). v.path)) (filter-append test vs ws)
    ∙ map-append (λ (v : Verdict). v.path) (filter test vs) (filter test ws)

pub both_data : (xs ys : List Entry) → paths_of_data (xs ++ ys) ≡ paths_of_data xs ++ paths_of_data ys
both_data xs ys = ap (map path_of) (filter-append (holds Data) xs ys)
    ∙ map-append path_of (filter (holds Data) xs) (filter (holds Data) ys)

same_data : (c : FileContent) → same_subject (subject_of c) subject.Data ≡ same_content c Data
same_data Data = refl
same_data PositionDeletes = refl
same_data EqualityDeletes = refl

module _ (specs : List Spec) (filters : List (Part BoundPredicate)) (columns : List (List ℕ)) where
  abbrev p : Pruner
  p = pruner_of filters specs

  abbrev tests : FilterTests
  tests = ice_filter_tests specs filters columns

  module _ (row : Row) (spec : Spec) (is : spec_of specs row.spec_id ≡ Some spec) where
    abbrev by : SpecTests
    by = spec_tests filters spec

    one_file : (l : Live) (ls : List Live) (d k : Bool) → holds Data l.entry ≡ d → keeps p l ≡ k
        → (rest : List Verdict)
        → map (λ (w : Verdict). w.path) rest ≡ paths_of_data (entries (filter (keeps p) ls))
        → map (λ (w : Verdict). w.path) (cond (d && k) (file_verdict tests by l ∷ rest) rest)
        ≡ paths_of_data (entries (cond k (l ∷ filter (keeps p) ls) (filter (keeps p) ls)))
    one_file l ls true true e f rest h = rw e (ap (λ ps. l.entry.file.path ∷ ps) h)
    one_file l ls true false e f rest h = h
    one_file l ls false true e f rest h = rw e h
    one_file l ls false false e f rest h = h

    files_kept : (ls : List Live) → AllByRecursion (λ (l : Live). l.entry.spec_id ≡ row.spec_id) ls
        → paths_kept (map (file_verdict tests by) ls) ≡ paths_of_data (kept p ls)
    files_kept [] all = refl
    files_kept (l ∷ ls) all =
        let found : spec_of specs l.entry.spec_id ≡ Some spec = ap (spec_of specs) all.0 ∙ is in
        let kind = same_data l.entry.file.content in
        let fate = file_kept specs filters spec columns l found in
        let rest : List Verdict =
        filter (λ (v : Verdict). same_subject v.subject subject.Data && is_kept v.fate) (map (file_verdict tests by) ls)
        in
        ap (λ t. map (λ (w : Verdict). w.path) (cond t (file_verdict tests by l ∷ rest) rest))
        (ap (λ t. t && is_kept (file_fate tests by l)) kind ∙ ap (λ t. holds Data l.entry && t) fate)
        ∙ one_file l ls (holds Data l.entry) (keeps p l) refl refl rest (files_kept ls all.1)

    lives_are : (world : World) → lives_at world by row ≡ live world specs row
    lives_are world = go (world row.path) where
      go : (o : Option (List ℕ)) → live_or_none (option_map (live_of row spec) o)
          ≡ live_or_none (option_map (manifest_of specs row) o)
      go None = refl
      go (Some bytes) = rw is refl

    told_kept : (world : World) → paths_kept (told_by tests world row (Some by))
        ≡ cond (p.wants row) (paths_of_data (kept p (live world specs row))) []
    told_kept world = go (p.wants row) (row_kept specs filters spec row is) where
      go : (b : Bool) → is_kept (row_fate by row) ≡ b → paths_kept (row_verdict by row ∷ files_told tests world by row)
          ≡ cond b (paths_of_data (kept p (live world specs row))) []
      go true e = rw e (subst (λ (ls : List Live). paths_kept (map (file_verdict tests by) ls)
          ≡ paths_of_data (kept p (live world specs row))) (sym (lives_are world))
          (files_kept (live world specs row) (live_of_row world specs row)))
      go false e = rw e refl

  pub row_told_kept : (world : World) (row : Row) (o : Option Spec) → spec_of specs row.spec_id ≡ o
      → paths_kept (told_by tests world row (option_map (spec_tests filters) o))
      ≡ cond (p.wants row) (paths_of_data (kept p (live world specs row))) []
  row_told_kept world row None e = rw e refl
  row_told_kept world row (Some spec) e = told_kept row spec e world

  -- of rows
  abbrev kept_of : World → List Row → List Entry
  kept_of world rows = flat_map (λ (row : Row). kept p (live world specs row)) rows

  with_row : (world : World) (row : Row) (rows : List Row) (b : Bool)
      → paths_kept (rows_told tests world rows) ≡ paths_of_data (kept_of world (wanted_rows p rows))
      → cond b (paths_of_data (kept p (live world specs row))) [] ++ paths_kept (rows_told tests world rows)
      ≡ paths_of_data (kept_of world (cond b (row ∷ wanted_rows p rows) (wanted_rows p rows)))
  with_row world row rows true rest =
      ap (λ (ps : List (List ℕ)). paths_of_data (kept p (live world specs row)) ++ ps) rest
      ∙ sym (both_data (kept p (live world specs row)) (kept_of world (wanted_rows p rows)))
  with_row world row rows false rest = rest

  pub rows_kept : (world : World) (rows : List Row)
      → paths_kept (rows_told tests world rows) ≡ paths_of_data (kept_of world (wanted_rows p rows))
  rows_kept world [] = refl
  rows_kept world (row ∷ rows) =
      both_kept (row_told tests world row) (rows_told tests world rows)
      ∙ ap (λ (ps : List (List ℕ)). ps ++ paths_kept (rows_told tests world rows))
      (ap (λ (o : Option SpecTests). paths_kept (told_by tests world row o)) (of_id specs filters columns row.spec_id)
      ∙ row_told_kept world row (spec_of specs row.spec_id) refl)
      ∙ with_row world row rows (p.wants row) (rows_kept world rows)

-- ---- the plan

pub kept_slot : (scan : Scanned) (row : Row) (bytes : Option (List ℕ))
    → entries_in (option_map (reading_of scan row) bytes) ≡ kept (pruner scan)
    (live_or_none (option_map (manifest_of scan.specs row) bytes))
kept_slot scan row None = refl
kept_slot scan row (Some bytes) = elim (manifest_of scan.specs row bytes) as
    (λ m. entries_in (Some (reading (pruner scan) m)) ≡ kept (pruner scan) (live_or_none (Some m)))
    [ Ok found ↦ refl | Err fault ↦ refl ]

kept_every : (world : World) (scan : Scanned) (rows : List Row)
    → kept_in (slots_of world scan (replicate (length rows) true) rows)
    ≡ flat_map (λ (row : Row). kept (pruner scan) (live world scan.specs row)) rows
kept_every world scan [] = refl
kept_every world scan (row ∷ rows) = rw (kept_slot scan row (world row.path), kept_every world scan rows) refl

pub live_by_id : (world : World) (specs : List Spec) (row : Row) → live world (by_id specs) row ≡ live world specs row
live_by_id world specs row = go (world row.path) where
  go : (o : Option (List ℕ)) → live_or_none (option_map (manifest_of (by_id specs) row) o)
      ≡ live_or_none (option_map (manifest_of specs row) o)
  go None = refl
  go (Some bytes) = ap (λ o. live_or_none (Some (live_by o row bytes))) (spec_of-by_id specs row.spec_id)

same_kept : (p : Pruner) (world : World) (specs : List Spec) (rows : List Row)
    → flat_map (λ (row : Row). kept p (live world (by_id specs) row)) rows
    ≡ flat_map (λ (row : Row). kept p (live world specs row)) rows
same_kept p world specs [] = refl
same_kept p world specs (row ∷ rows) = rw (live_by_id world specs row, same_kept p world specs rows) refl

planned_paths : (deletes xs : List Entry) → map (λ (l : OwnedLine). l.file.file.path) (map (line_of deletes) xs)
    ≡ map path_of xs
planned_paths deletes [] = refl
planned_paths deletes (x ∷ xs) = ap (λ (ps : List (List ℕ)). x.file.path ∷ ps) (planned_paths deletes xs)

first_is : (fs : List FinishFault) (made plan : List OwnedLine) → first_or fs made ≡ Ok plan → made ≡ plan
first_is [] made plan h = cc
first_is (f ∷ fs) made plan h = absurd cc

-- the data files of a plan are those that the content keeps
pub planned_are : (scan : Scanned) (c : Content) (plan : List OwnedLine) → outcome scan c ≡ Ok plan
    → IsPermutation (paths_of_data (kept_in c)) (paths_planned plan)
planned_are scan c plan h =
    let all : List Entry = kept_in c in
    let lines : plan_over (by_path all) (by_path all) ≡ plan = first_is _ _ plan h in
    let planned : paths_of_data (by_path all) ≡ paths_planned plan =
    sym (planned_paths (by_path all) (filter (holds Data) (by_path all))) ∙ ap paths_planned lines in
    let moved = IsPermutation-map path_of (filter (holds Data) all) (filter (holds Data) (by_path all))
    (filter_moved (holds Data) all (by_path all) (sorted_moves path_before order all)) in
    let P : List (List ℕ) → List (List ℕ) → Type 0 = λ us vs. IsPermutation us vs in
    subst (λ vs. P (paths_of_data all) vs) planned moved

pub same_files : (world : World) (specs : List Spec) (filters : List (Part BoundPredicate)) (columns : List (List ℕ))
    (rows : List Row) (scan : Scanned) (plan : List OwnedLine) → scan_of rows specs filters ≡ Ok scan
    → outcome scan (content world scan (every_row scan)) ≡ Ok plan
    → IsPermutation (paths_kept (rows_told (ice_filter_tests specs filters columns) world (by_row_path rows)))
    (paths_planned plan)
same_files world specs filters columns rows scan plan is h =
    let m = made rows specs filters scan is in
    let p = pruner_of filters specs in
    let own : pruner scan ≡ p = same_pruner rows specs scan m.1 ∙ ap (λ ps. pruner_of ps specs) m.0 in
    let same = (scan_is rows specs scan m.1).1 in
    let ids : by_id specs ≡ scan.specs = ap (λ (s : Scanned). s.specs) same in
    let w : wanted_rows p (by_row_path rows) ≡ scan.wanted =
    ap (λ ps. wanted_rows (pruner_of ps specs) (by_row_path rows)) (sym m.0) ∙ ap (λ (s : Scanned). s.wanted) same in
    let all : List Entry = kept_in (content world scan (every_row scan)) in
    let told : paths_kept (rows_told (ice_filter_tests specs filters columns) world (by_row_path rows))
    ≡ paths_of_data all =
    rows_kept specs filters columns world (by_row_path rows)
    ∙ ap (λ (rs : List Row). paths_of_data (flat_map (λ (row : Row). kept p (live world specs row)) rs)) w
    ∙ ap paths_of_data (sym (same_kept p world specs scan.wanted)
    ∙ ap (λ (ss : List Spec). flat_map (λ (row : Row). kept p (live world ss row)) scan.wanted) ids
    ∙ ap (λ (q : Pruner). flat_map (λ (row : Row). kept q (live world scan.specs row)) scan.wanted) (sym own)
    ∙ sym (kept_every world scan scan.wanted)) in
    subst (λ us. IsPermutation us (paths_planned plan)) (sym told)
    (planned_are scan (content world scan (every_row scan)) plan h)
