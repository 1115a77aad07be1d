-- Where reads give what a world has.
use Rattle.std.proofs.Common.{◌≡◌, ℕ, List, [], ◌∷◌, Option, Some, None, is_some, option_map, true, length, replicate}
use Rattle.std.proofs.Common.{arith, refl, sym, ap, ◌∙◌}
use Rattle.std.specs.FinMap.{empty}
use Rattle.std.specs.Prelude.{Result, Ok, Err}
use Rattle.contract_words.specs.Outcome.{◌>>=◌}
use Rattle.ice_catalog_changes.specs.declared.change.Commit.{Commit}
use Rattle.ice_catalog_versions.specs.declared.world.World.{World as Kept}
use Rattle.ice_catalog_versions.specs.Histories.{openable}
use Rattle.ice_desk.specs.Given.{AreOf, AreSlotsGiven, Giving}
use Rattle.ice_desk.specs.Wanted.{untaken}
use Rattle.ice_filter.specs.declared.bound.BoundPredicate.{BoundPredicate}
use Rattle.ice_filter.specs.declared.parts.Part.{Part}
use Rattle.ice_manifest_reading.specs.declared.row.Row.{Row}
use Rattle.ice_meta.specs.declared.fault.MetaFault.{MetaFault}
use Rattle.ice_meta.specs.declared.metadata.Target.TheVariants.{Main}
use Rattle.ice_meta.specs.declared.spec.Spec.{Spec}
use Rattle.ice_meta.specs.Targets.{Described, list_of}
use Rattle.ice_state.specs.Contents.{Content, HasEach, World, content, every_row, reading_of, slot_of, slots_of}
use Rattle.ice_state.specs.Lines.{OwnedLine}
use Rattle.ice_state.specs.Outcomes.{outcome}
use Rattle.ice_state.specs.Readings.{Reading}
use Rattle.ice_state.specs.Scans.{Scanned}
use Rattle.icescan_commits.proofs.Commits.{asked_is, change_is}
use Rattle.icescan_requests.proofs.Plans.{plan_there}
use Rattle.icescan_commits.specs.Commits.{Commitment, base_files, base_of, commitment, commitment_from, commitment_on}
use Rattle.icescan_commits.specs.Commits.{keep_all, keep_found, manifests_in}
use Rattle.icescan_commits.specs.GivenCommits.{IsBaseGiven, IsCommitmentOfGiven, WereKept}
use Rattle.icescan_requests.specs.GivenPlans.{IsPlanOfGiven, IsPlanOfGivenAt, IsRowsPlanOfGiven}
use Rattle.icescan_requests.specs.Plans.{answer_at, answer_by, over_wanted_rows, rows_plan, wanted_answer}
use Rattle.icescan_text.proofs.Steps.{each_present, found_in}
use Rattle.icescan_text.specs.Reads.{AreRowsGiven, file_in, rows_at, rows_in}
use Rattle.icescan_text.specs.Workers.{by_workers}
use Rattle.icescan_text.specs.declared.fault.RunFault.{RunFault}
use Rattle.icescan_text.specs.declared.request.CommitRequest.{CommitRequest}
use Rattle.icescan_text.specs.declared.request.Request.{Request}

module _ (gives : Giving) (world : World) (are : AreOf gives world) where
  -- what was taken of each row is what the world's bytes give
  slots_are : (scan : Scanned) (rows : List Row) (c : Content) → length c ≡ length rows → untaken c rows ≡ []
      → AreSlotsGiven gives scan rows c → c ≡ slots_of world scan (replicate (length rows) true) rows
  slots_are scan [] [] e none h = refl
  slots_are scan [] (s ∷ ss) e none h = absurd cc
  slots_are scan (row ∷ rows) [] e none h = absurd cc
  slots_are scan (row ∷ rows) (None ∷ ss) e none h = absurd cc
  slots_are scan (row ∷ rows) (Some reading ∷ ss) e none h =
      let has : world row.path ≡ Some h.0.0 = are row.path _ h.0.1 in
      let slot : Some reading ≡ slot_of world scan true row = ap Some h.0.2
      ∙ sym (ap (option_map (reading_of scan row)) has) in
      let rest = slots_are scan rows ss (omega (arith, e)) none h.1 in
      ap (λ (s : Option Reading). s ∷ ss) slot ∙ ap (λ (cs : Content). slot_of world scan true row ∷ cs) rest

  each_there : (scan : Scanned) (rows : List Row) (c : Content) → length c ≡ length rows → untaken c rows ≡ []
      → AreSlotsGiven gives scan rows c → HasEach world rows
  each_there scan [] c e none h = tt
  each_there scan (row ∷ rows) [] e none h = absurd cc
  each_there scan (row ∷ rows) (None ∷ ss) e none h = absurd cc
  each_there scan (row ∷ rows) (Some reading ∷ ss) e none h = (
    ap is_some (are row.path _ h.0.1),
    each_there scan rows ss (omega (arith, e)) none h.1,
  )

  pub rows_planned : (specs : List Spec) (filter : List (Part BoundPredicate)) (rows : List Row) (plan : List OwnedLine)
      → IsRowsPlanOfGiven gives specs filter rows plan
      → rows_plan over_wanted_rows world specs filter rows ≡ Ok plan
  rows_planned specs filter rows plan h =
      let same : h.content ≡ content world h.scan (every_row h.scan) = slots_are h.scan h.scan.wanted h.content
      h.of_scan h.whole h.given in
      plan_there (λ _. ⊥) ⊥ world specs filter rows h.scan h.scan_is (each_present world h.scan.wanted
      (each_there h.scan h.scan.wanted h.content h.of_scan h.whole h.given)) plan
      (ap (outcome h.scan) (sym same) ∙ h.is)

  pub rows_listed : (list : List ℕ) (rows : List Row) → AreRowsGiven gives list rows → rows_at world list ≡ Ok rows
  unfolding rows_at
  rows_listed list rows h = rw (found_in world list h.0 (are list _ h.1)) h.2

  pub table_planned : (metadata : List ℕ) (request : Request) (plan : List OwnedLine)
      → IsPlanOfGiven gives metadata request plan → wanted_answer world metadata request ≡ Ok plan
  unfolding answer_by
  table_planned metadata request plan h = rw (h.asked, rows_listed h.selection.list h.rows h.listed)
      (rows_planned h.selection.specs h.selection.filter.parts h.rows plan h.planned)

  pub file_planned : (path : List ℕ) (request : Request) (workers : ℕ) (plan : List OwnedLine)
      → IsPlanOfGivenAt gives path request plan
      → answer_at over_wanted_rows world path request workers ≡ by_workers workers (Ok plan)
  unfolding answer_at
  file_planned path request workers plan h = ap (by_workers workers)
      (ap (λ (found : Result (List ℕ) RunFault). found >>= λ metadata. wanted_answer world metadata request)
      (found_in world path h.metadata (are path _ h.read))
      ∙ table_planned h.metadata request plan h.planned)

  -- ---- commits

  kept_are : (paths : List (List ℕ)) (kept kept' : Kept) → WereKept gives paths kept kept'
      → kept' ≡ keep_all world paths kept
  kept_are [] kept kept' h = h
  kept_are (path ∷ paths) kept kept' h =
      kept_are paths (keep_found path h.0 kept) kept' h.2
      ∙ ap (λ found. keep_all world paths (keep_found path found kept)) (sym (are path h.0 h.1))

  base_is : (read : Result (List ℕ) MetaFault) (kept : Kept) → IsBaseGiven gives read kept
      → kept ≡ base_files world read
  unfolding base_files
  base_is (Err fault) kept h = h
  base_is (Ok list) kept h =
      kept_are (manifests_in h.0) (keep_found list h.0 empty) kept h.2
      ∙ ap (λ found. keep_all world (manifests_in found) (keep_found list found empty)) (sym (are list h.0 h.1))

  on_base : (bytes : List ℕ) (commit : Commit) (m : Described) → openable bytes ≡ Ok m
      → commitment_from world bytes commit ≡ commitment_on (base_of world m) commit
  unfolding commitment_from
  on_base bytes commit m is = rw is refl

  pub committed : (request : CommitRequest) (c : Commitment) → IsCommitmentOfGiven gives request c
      → commitment world request ≡ Ok c
  committed request c h =
      let f : List ℕ → Type 0 = λ _. ⊥ in
      let has = found_in world request.metadata h.bytes (are request.metadata _ h.read) in
      let text = found_in world request.change h.asked.0 (are request.change _ h.asked.1) in
      let change = change_is f world request h.asked.0 text h.change h.asked.2 in
      let commit : Commit = record { change = h.change; ids = request.ids } in
      let m = h.committed.metadata in
      let base = base_is (list_of Main m.table) h.committed.kept h.committed.base in
      asked_is f world request h.bytes has h.change change
      ∙ on_base h.bytes commit m h.committed.opens
      ∙ ap (λ kept. commitment_on (record { metadata = m; world = kept }) commit) (sym base)
      ∙ h.committed.is
