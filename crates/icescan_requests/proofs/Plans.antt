-- The steps of a plan under a filter, why each of them may end the run, and when the wanted rows have the whole plan.
use Rattle.std.proofs.Common.{◌≡◌, ◌≢◌, ◌⊎◌, inl, inr, ℕ, List, [], ◌∷◌, length, replicate, refl, sym, ap, subst, ◌∙◌}
use Rattle.std.proofs.Common.{Option, None}
use Rattle.std.specs.Prelude.{Result, Ok, Err, OnOk, IfErr, IsErrOf, ◌<◌, ◌≤◌}
use Rattle.std.proofs.lemmas.Result.{IfErr-weaker, on_ok_weaker}
use Rattle.contract_words.specs.Outcome.{◌>>=◌}
use Rattle.ice_desk.specs.declared.fault.WantedFault.{WantedFault}
use Rattle.ice_desk.specs.declared.fault.WantedFault.TheVariants as wanted
use Rattle.ice_desk.specs.Wanted.{MayStop, paths_of, reads_of as wanted_reads}
use Rattle.ice_desk.specs.Worlds.{EndsAt}
use Rattle.ice_filter.specs.declared.bound.BoundPredicate.{BoundPredicate}
use Rattle.ice_filter.specs.declared.parts.Part.{Part}
use Rattle.ice_manifest_reading.specs.declared.row.Row.{Row}
use Rattle.ice_meta.specs.declared.spec.Spec.{Spec}
use Rattle.ice_state.specs.declared.fault.FinishFault.{FinishFault}
use Rattle.ice_state.specs.declared.fault.FinishFault.TheVariants as finish
use Rattle.ice_state.specs.declared.fault.ScanFault.{ScanFault}
use Rattle.ice_state.specs.declared.fault.ScanFault.TheVariants as scan
use Rattle.ice_state.specs.Contents.{World, content, every_row}
use Rattle.ice_state.specs.Covering.{AreCovered, HasSoundSummaries}
use Rattle.ice_state.specs.Lines.{OwnedLine}
use Rattle.ice_state.specs.Pruning.{IsOpen, pruner_of}
use Rattle.ice_state.specs.Scans.{Scanned, scan_of}
use Rattle.ice_state.specs.Snapshots.{plan_of_snapshot}
use Rattle.ice_state.proofs.Scans.{made}
use Rattle.ice_state.proofs.Snapshots.{of_snapshot}
use Rattle.icescan_text.specs.declared.fault.RunFault.{RunFault}
use Rattle.icescan_text.specs.declared.fault.RunFault.TheVariants as run
use Rattle.icescan_text.specs.declared.request.Request.{Request}
use Rattle.icescan_print.specs.PlanTexts.{plan_text}
use Rattle.icescan_print.specs.Written.{Appends, AppendsFront}
use Rattle.icescan_requests.specs.declared.selected_rows.SelectedRows.{SelectedRows}
use Rattle.icescan_requests.specs.declared.selection.Selection.{Selection}
use Rattle.icescan_text.specs.Faults.{of_finish, of_scan, of_wanted}
use Rattle.icescan_text.specs.Reads.{MayEnd, all_present, as_run, file_in, rows_at, rows_in}
use Rattle.icescan_requests.specs.ListPlans.{wanted_of}
use Rattle.icescan_requests.specs.Plans.{Answers, Ending, TellsTheTruth, TellsTheTruthAt, WritesAPlan, answer_at}
use Rattle.icescan_requests.specs.Plans.{answer_by, list_of, manifests, manifests_of, over_all_rows, over_wanted_rows}
use Rattle.icescan_requests.specs.Plans.{reads, reads_at, reads_behind, reads_of, rows_plan, scan_in, selected_rows}
use Rattle.icescan_requests.specs.Selections.{IsOfRequest, selected}
use Rattle.icescan_text.specs.Workers.{by_workers}
use Rattle.icescan_text.proofs.Steps.{fails_later, finish_ends, first_ends, has_each, may_write, more_reads, only_first}
use Rattle.icescan_text.proofs.Steps.{same_next, scan_ends, step, stops_end, then_ends, two_end, untaken_all}
use Rattle.icescan_text.proofs.Enough.{enough, not_enough}

-- a refusal of the request itself comes before any read
pub request_ends : {A : Type 0} (read : Result A RunFault) (r : List ℕ → Type 0) (w : Type 0) (e : RunFault)
    → IsOfRequest e → (e ≢ run.Memory → read ≡ Err e) → MayEnd read r w e
request_ends read r w run.Memory is h = tt
request_ends read r w (run.Metadata f) is h = h (λ m. cc)
request_ends read r w (run.Filter f) is h = h (λ m. cc)
request_ends read r w (run.Device path) is h = absurd is
request_ends read r w run.Write is h = absurd is
request_ends read r w run.Input is h = absurd is
request_ends read r w (run.Words t) is h = absurd is
request_ends read r w (run.Bundle n) is h = absurd is
request_ends read r w (run.Absent path) is h = absurd is
request_ends read r w (run.List f) is h = absurd is
request_ends read r w (run.Scan f) is h = absurd is
request_ends read r w (run.Finish f) is h = absurd is
request_ends read r w (run.Drill f) is h = absurd is
request_ends read r w (run.Locate f) is h = absurd is
request_ends read r w (run.State path flaw) is h = absurd is
request_ends read r w (run.Lineage f) is h = absurd is
request_ends read r w (run.Change f) is h = absurd is
request_ends read r w (run.Prepare f) is h = absurd is
request_ends read r w (run.Conflict path) is h = absurd is
request_ends read r w run.Workers is h = absurd is

-- the same answer, and more reads that may fail
pub answers_as : (read other : Result (List OwnedLine) RunFault) (r s : List ℕ → Type 0) (w : Type 0)
    (result : Result Unit RunFault) (o o' : Option (List ℕ)) → other ≡ read → ((path : List ℕ) → r path → s path)
    → Answers read r w result o o' → Answers other s w result o o'
answers_as read other r s w result o o' same more h =
    subst (λ a. Answers a s w result o o') (sym same)
    (record {
      written = h.written;
      refused = IfErr-weaker result _ _ (λ e m. more_reads read r s w e more m) h.refused;
      front = h.front;
    })

-- a refusal is an answer
pub refused_answers : (read : Result (List OwnedLine) RunFault) (r : List ℕ → Type 0) (w : Type 0) (e : RunFault)
    (o o' : Option (List ℕ)) → MayEnd read r w e → (e ≢ run.Write) → Answers read r w (Err e) o o'
refused_answers read r w e o o' h not_write = record
    { written = tt; refused = h; front = λ is. let q : e ≡ run.Write = cc in absurd (not_write q) }

-- ---- the rows of a list

file_there : (found : Result (List ℕ) RunFault) (rows : List Row) → (found >>= rows_in) ≡ Ok rows → (bytes : List ℕ)
    × (found ≡ Ok bytes)
file_there (Ok bytes) rows h = (bytes, refl)
file_there (Err e) rows h = absurd cc

pub list_there : (world : World) (path : List ℕ) (rows : List Row) → rows_at world path ≡ Ok rows → (bytes : List ℕ)
    × (file_in world path ≡ Ok bytes)
unfolding rows_at
list_there world path rows h = file_there (file_in world path) rows h

-- ---- the plan of the rows

module _ (f : List ℕ → Type 0) (w : Type 0) (world : World) (specs : List Spec) (filter : List (Part BoundPredicate))
    (rows : List Row) where
  abbrev stops : List ℕ → Type 0
  stops = EndsAt world f (manifests specs filter rows)

  abbrev plan : Result (List OwnedLine) RunFault
  plan = rows_plan over_wanted_rows world specs filter rows

  pub no_scan : (e : ScanFault) → (e ≢ scan.Memory → scan_of rows specs filter ≡ Err e)
      → MayEnd plan stops w (of_scan e)
  unfolding rows_plan
  no_scan e h = first_ends stops w stops (scan_in specs filter rows) _ (of_scan e) (λ p m. m)
      (scan_ends stops ⊥ (scan_of rows specs filter) e h)

  module _ (scanned : Scanned) (is : scan_of rows specs filter ≡ Ok scanned) where
    scan_is : scan_in specs filter rows ≡ Ok scanned
    scan_is = ap (as_run of_scan) is

    behind : (p : List ℕ) → EndsAt world f (paths_of scanned.wanted) p → stops p
    unfolding manifests
    behind p h = subst (λ s. EndsAt world f (wanted_of s) p) (sym scan_is) h

    pub not_taken : (e : WantedFault)
        → MayStop world f (wanted_reads scanned (replicate (length scanned.wanted) None)) e
        → MayEnd plan stops w (of_wanted e)
    unfolding rows_plan
    not_taken e h =
        then_ends stops w (scan_in specs filter rows) _ scanned (of_wanted e) scan_is
        (first_ends stops w (EndsAt world f (paths_of scanned.wanted)) (all_present world scanned.wanted) _
        (of_wanted e) behind
        (stops_end world f scanned.wanted e
        (subst (λ rows. MayStop world f (paths_of rows) e) (untaken_all scanned.wanted) h)))

    module _ (present : all_present world scanned.wanted ≡ Ok tt) where
      plan_is : plan ≡ as_run of_finish (over_wanted_rows world specs filter rows scanned)
      unfolding rows_plan
      plan_is = rw (scan_is, present) refl

      pub no_plan : (e : FinishFault) → (e ≢ finish.Memory → over_wanted_rows world specs filter rows scanned ≡ Err e)
          → MayEnd plan stops w (of_finish e)
      no_plan e h = subst (λ a. MayEnd a stops w (of_finish e)) (sym plan_is)
          (finish_ends stops w (over_wanted_rows world specs filter rows scanned) e h)

      pub plan_there : (lines : List OwnedLine) → over_wanted_rows world specs filter rows scanned ≡ Ok lines → plan
          ≡ Ok lines
      plan_there lines h = plan_is ∙ ap (as_run of_finish) h

-- ---- the rows that a request selects

list_first : (f : List ℕ → Type 0) (world : World) (found : Result Selection RunFault) (p : List ℕ)
    → EndsAt world f (list_of found) p → EndsAt world f (reads_of world found) p
list_first f world (Ok s) p h = only_first world f s.list (manifests_of s (rows_at world s.list)) p h
list_first f world (Err e) p h = absurd h

module _ (f : List ℕ → Type 0) (world : World) (metadata : List ℕ) (request : Request) where
  abbrev stops_at : List ℕ → Type 0
  stops_at = EndsAt world f (reads world metadata request)

  abbrev stops_listed : List ℕ → Type 0
  stops_listed = EndsAt world f (list_of (selected metadata request))

  -- the list is read first
  pub reads_list : (p : List ℕ) → stops_listed p → stops_at p
  unfolding reads
  reads_list p h = list_first f world (selected metadata request) p h

  pub not_asked : (e : RunFault) → IsOfRequest e → (e ≢ run.Memory → selected metadata request ≡ Err e)
      → MayEnd (selected_rows world metadata request) stops_listed ⊥ e
  unfolding selected_rows
  not_asked e own h =
      first_ends stops_listed ⊥ (λ _. ⊥) (selected metadata request) _ e (λ p m. absurd m)
      (request_ends (selected metadata request) (λ _. ⊥) ⊥ e own h)

  module _ (selection : Selection) (is : selected metadata request ≡ Ok selection) where
    reads_are : reads world metadata request ≡ selection.list ∷ manifests_of selection (rows_at world selection.list)
    unfolding reads
    reads_are = ap (reads_of world) is

    pub no_list : (e : RunFault) → MayEnd (rows_at world selection.list) (EndsAt world f (selection.list ∷ [])) ⊥ e
        → MayEnd (selected_rows world metadata request) stops_listed ⊥ e
    unfolding selected_rows
    no_list e h =
        then_ends stops_listed ⊥ (selected metadata request) _ selection e is
        (first_ends stops_listed ⊥ (EndsAt world f (selection.list ∷ [])) (rows_at world selection.list) _ e
        (λ p m. subst (λ found. EndsAt world f (list_of found) p) (sym is) m) h)

    module _ (rows : List Row) (has : rows_at world selection.list ≡ Ok rows) where
      pub rows_selected : selected_rows world metadata request
          ≡ Ok (record { rows = rows; specs = selection.specs; filter = selection.filter })
      unfolding selected_rows
      rows_selected = rw (is, has) refl

      pub reads_manifests : (p : List ℕ) → EndsAt world f (manifests selection.specs selection.filter.parts rows) p
          → stops_at p
      reads_manifests p h =
          let bytes = list_there world selection.list rows has in
          let later = fails_later world f selection.list bytes.0 (manifests selection.specs selection.filter.parts rows)
          p bytes.1 h in
          subst (λ paths. EndsAt world f paths p) (sym reads_are)
          (subst (λ found. EndsAt world f (selection.list ∷ manifests_of selection found) p) (sym has) later)

-- the selection and the rows that were found
pub record AreFound (world : World) (metadata : List ℕ) (request : Request) (found : SelectedRows) : Type 0 where
  pub selection : Selection
  pub asked : selected metadata request ≡ Ok selection
  pub rows : List Row
  pub listed : rows_at world selection.list ≡ Ok rows
  pub is : ◌≡◌ {A = SelectedRows} (record { rows = rows; specs = selection.specs; filter = selection.filter }) found

pub are_found : (world : World) (metadata : List ℕ) (request : Request) (found : SelectedRows)
    → selected_rows world metadata request ≡ Ok found → AreFound world metadata request found
unfolding selected_rows
are_found world metadata request found h =
    let one = step (selected metadata request) _ found h in
    let two = step (rows_at world one.0.list) _ found one.2 in
    record { selection = one.0; asked = one.1; rows = two.0; listed = two.1; is = cc two.2 }

-- ---- the plan that a request asks for

-- where the selected rows are not found, there is no plan
pub no_rows_found : (f : List ℕ → Type 0) (world : World) (metadata : List ℕ) (request : Request) (e : RunFault)
    → MayEnd (selected_rows world metadata request) (EndsAt world f (list_of (selected metadata request))) ⊥ e
    → MayEnd (answer_by over_wanted_rows world metadata request) (EndsAt world f (reads world metadata request)) ⊥ e
unfolding answer_by selected_rows
no_rows_found f world metadata request e h =
    two_end (EndsAt world f (reads world metadata request)) (selected metadata request) (λ s. rows_at world s.list)
    (λ s rows. record { rows = rows; specs = s.specs; filter = s.filter })
    (λ s rows. rows_plan over_wanted_rows world s.specs s.filter.parts rows) e
    (more_reads (selected_rows world metadata request) (EndsAt world f (list_of (selected metadata request)))
    (EndsAt world f (reads world metadata request)) ⊥ e (reads_list f world metadata request) h)

module _ (f : List ℕ → Type 0) (world : World) (metadata : List ℕ) (request : Request) (found : SelectedRows)
    (has : selected_rows world metadata request ≡ Ok found) where
  pub answer_there : answer_by over_wanted_rows world metadata request
      ≡ rows_plan over_wanted_rows world found.specs found.filter.parts found.rows
  unfolding answer_by
  answer_there =
      let there = are_found world metadata request found has in
      subst (λ (s : SelectedRows). answer_by over_wanted_rows world metadata request
      ≡ rows_plan over_wanted_rows world s.specs s.filter.parts s.rows) there.is (rw (there.asked, there.listed) refl)

  pub reads_selected : (p : List ℕ) → EndsAt world f (manifests found.specs found.filter.parts found.rows) p
      → EndsAt world f (reads world metadata request) p
  reads_selected =
      let there = are_found world metadata request found has in
      subst (λ (s : SelectedRows). (p : List ℕ) → EndsAt world f (manifests s.specs s.filter.parts s.rows) p
      → EndsAt world f (reads world metadata request) p) there.is
      (reads_manifests f world metadata request there.selection there.asked there.rows there.listed)

  pub no_plan_found : (e : RunFault)
      → MayEnd (rows_plan over_wanted_rows world found.specs found.filter.parts found.rows)
      (EndsAt world f (manifests found.specs found.filter.parts found.rows)) ⊥ e
      → MayEnd (answer_by over_wanted_rows world metadata request) (EndsAt world f (reads world metadata request)) ⊥ e
  no_plan_found e h =
      subst (λ a. MayEnd a (EndsAt world f (reads world metadata request)) ⊥ e) (sym answer_there)
      (more_reads (rows_plan over_wanted_rows world found.specs found.filter.parts found.rows)
      (EndsAt world f (manifests found.specs found.filter.parts found.rows))
      (EndsAt world f (reads world metadata request)) ⊥ e reads_selected h)

-- ---- the metadata of a file

module _ (f : List ℕ → Type 0) (world : World) (path : List ℕ) (request : Request) (workers : ℕ) (some : 0 < workers)
    (few : workers ≤ 64) where
  abbrev stops_in_file : List ℕ → Type 0
  stops_in_file = EndsAt world f (reads_at world path request)

  answer_in : answer_at over_wanted_rows world path request workers
      ≡ (file_in world path >>= λ metadata. answer_by over_wanted_rows world metadata request)
  unfolding answer_at
  answer_in = enough workers _ some few

  pub no_metadata : (e : RunFault) → MayEnd (file_in world path) (EndsAt world f (path ∷ [])) ⊥ e
      → MayEnd (answer_at over_wanted_rows world path request workers) stops_in_file ⊥ e
  unfolding reads_at
  no_metadata e h =
      subst (λ a. MayEnd a stops_in_file ⊥ e) (sym answer_in)
      (first_ends stops_in_file ⊥ (EndsAt world f (path ∷ [])) (file_in world path) _ e
      (λ p m. only_first world f path (reads_behind world request (file_in world path)) p m) h)

  module _ (metadata : List ℕ) (has : file_in world path ≡ Ok metadata) where
    pub answer_behind : answer_at over_wanted_rows world path request workers
        ≡ answer_by over_wanted_rows world metadata request
    answer_behind = answer_in ∙ rw has refl

    reads_of_plan : (p : List ℕ) → EndsAt world f (reads world metadata request) p → stops_in_file p
    unfolding reads_at
    reads_of_plan p h =
        subst (λ found. EndsAt world f (path ∷ reads_behind world request found) p) (sym has)
        (fails_later world f path metadata (reads world metadata request) p has h)

    pub no_plan_behind : (e : RunFault)
        → MayEnd (answer_by over_wanted_rows world metadata request) (EndsAt world f (reads world metadata request)) ⊥ e
        → MayEnd (answer_at over_wanted_rows world path request workers) stops_in_file ⊥ e
    no_plan_behind e h =
        subst (λ a. MayEnd a stops_in_file ⊥ e) (sym answer_behind)
        (more_reads (answer_by over_wanted_rows world metadata request) (EndsAt world f (reads world metadata request))
        stops_in_file ⊥ e reads_of_plan h)

-- ---- the plan of the wanted rows is that of all rows

by_presence : (present : Result Unit RunFault) (a b : Result (List OwnedLine) RunFault) → (present ≡ Ok tt → a ≡ b)
    → (present >>= λ _. a) ≡ (present >>= λ _. b)
by_presence (Ok tt) a b h = h refl
by_presence (Err e) a b h = refl

module _ (opens : (parts : List (Part BoundPredicate)) (specs : List Spec) → IsOpen specs (pruner_of parts specs))
    (sound : (parts : List (Part BoundPredicate)) (specs : List Spec) → HasSoundSummaries specs (pruner_of parts specs))
  where
    by_scan : (world : World) (specs : List Spec) (filter : List (Part BoundPredicate)) (rows : List Row)
        (found : Result Scanned ScanFault) → scan_of rows specs filter ≡ found → AreCovered world specs rows
        → (as_run of_scan found >>= λ s. all_present world s.wanted >>= λ _. as_run of_finish
        (over_wanted_rows world specs filter rows s))
        ≡ (as_run of_scan found >>= λ s. all_present world s.wanted >>= λ _. as_run of_finish
        (over_all_rows world specs filter rows s))
    by_scan world specs filter rows (Err e) is covered = refl
    by_scan world specs filter rows (Ok s) is covered =
        let m = made rows specs filter s is in
        by_presence (all_present world s.wanted) _ _ (λ p.
        ap (as_run of_finish)
        (of_snapshot opens sound world s rows specs (content world s (every_row s)) m.1 covered
        (has_each world s.wanted p) refl
        ∙ ap (λ parts. plan_of_snapshot (pruner_of parts specs) world specs rows) m.0))

    pub same_plan : (world : World) (specs : List Spec) (filter : List (Part BoundPredicate)) (rows : List Row)
        → AreCovered world specs rows → rows_plan over_wanted_rows world specs filter rows
        ≡ rows_plan over_all_rows world specs filter rows
    unfolding rows_plan
    same_plan world specs filter rows covered = by_scan world specs filter rows (scan_of rows specs filter) refl covered

    by_rows : (world : World) (selection : Selection) (found : Result (List Row) RunFault)
        → ((rows : List Row) → found ≡ Ok rows → AreCovered world selection.specs rows)
        → (found >>= λ rows. rows_plan over_wanted_rows world selection.specs selection.filter.parts rows)
        ≡ (found >>= λ rows. rows_plan over_all_rows world selection.specs selection.filter.parts rows)
    by_rows world selection (Err e) covered = refl
    by_rows world selection (Ok rows) covered = same_plan world selection.specs selection.filter.parts rows
        (covered rows refl)

    by_selection : (world : World) (found : Result Selection RunFault)
        → ((selection : Selection) (rows : List Row) → found ≡ Ok selection → rows_at world selection.list ≡ Ok rows
        → AreCovered world selection.specs rows)
        → (found >>= λ selection. rows_at world selection.list >>= λ rows. rows_plan over_wanted_rows world
        selection.specs selection.filter.parts rows)
        ≡ (found >>= λ selection. rows_at world selection.list >>= λ rows. rows_plan over_all_rows world selection.specs
        selection.filter.parts rows)
    by_selection world (Err e) truth = refl
    by_selection world (Ok selection) truth = by_rows world selection (rows_at world selection.list)
        (λ rows has. truth selection rows refl has)

    pub same_answer : (world : World) (metadata : List ℕ) (request : Request) → TellsTheTruth world metadata request
        → answer_by over_wanted_rows world metadata request ≡ answer_by over_all_rows world metadata request
    unfolding answer_by
    same_answer world metadata request truth = by_selection world (selected metadata request) truth

-- the same of the metadata in a file
pub same_answer_at : ((world : World) (metadata : List ℕ) (request : Request) → TellsTheTruth world metadata request
    → answer_by over_wanted_rows world metadata request ≡ answer_by over_all_rows world metadata request)
    → (world : World) (path : List ℕ) (request : Request) (workers : ℕ) → TellsTheTruthAt world path request
    → answer_at over_all_rows world path request workers ≡ answer_at over_wanted_rows world path request workers
unfolding answer_at
same_answer_at same world path request workers truth =
    ap (λ read. by_workers workers read) (same_next (file_in world path)
    (λ metadata. answer_by over_all_rows world metadata request)
    (λ metadata. answer_by over_wanted_rows world metadata request)
    (λ metadata has. sym (same world metadata request (truth metadata has))))

-- ---- no refusal of these is a failed write

pub scan_is_no_write : (e : ScanFault) → of_scan e ≢ run.Write
scan_is_no_write scan.Memory h = absurd cc
scan_is_no_write (scan.NoSuchSpec id) h = absurd cc

pub wanted_is_no_write : (e : WantedFault) → of_wanted e ≢ run.Write
wanted_is_no_write (wanted.Absent path) h = absurd cc
wanted_is_no_write (wanted.Device path) h = absurd cc
wanted_is_no_write wanted.Memory h = absurd cc

pub finish_is_no_write : (e : FinishFault) → of_finish e ≢ run.Write
finish_is_no_write finish.Memory h = absurd cc
finish_is_no_write (finish.Missing path) h = absurd cc
finish_is_no_write (finish.Bad path e) h = absurd cc
finish_is_no_write (finish.PathTwice path) h = absurd cc

pub request_is_no_write : (e : RunFault) → IsOfRequest e → e ≢ run.Write
request_is_no_write e own is = subst IsOfRequest is own

-- ---- what is written

-- a refusal before the first write
pub refused_plan : (read : Result (List OwnedLine) RunFault) (r : List ℕ → Type 0) (w : Type 0) (e : RunFault)
    (o o' : Option (List ℕ)) → MayEnd read r ⊥ e → (e ≢ run.Write) → Answers read r w (Err e) o o'
refused_plan read r w e o o' h not_write = refused_answers read r w e o o' (may_write r w read e h) not_write

-- a number of workers that there may not be
pub no_workers : (workers : ℕ) (read : Result (List OwnedLine) RunFault) (r : List ℕ → Type 0) (w : Type 0)
    (e : RunFault)
    (o o' : Option (List ℕ)) → (e ≡ run.Workers) × ((workers ≡ 0) ⊎ (64 < workers))
    → Answers (by_workers workers read) r w (Err e) o o'
no_workers workers read r w e o o' h =
    subst (λ x. Answers (by_workers workers read) r w (Err x) o o') (sym h.0)
    (refused_plan (by_workers workers read) r w run.Workers o o' (not_enough workers read h.1) (λ is. absurd cc))

pub no_workers_at : (ending : Ending) (world : World) (path : List ℕ) (request : Request) (workers : ℕ)
    (r : List ℕ → Type 0) (w : Type 0) (e : RunFault) (o o' : Option (List ℕ))
    → (e ≡ run.Workers) × ((workers ≡ 0) ⊎ (64 < workers))
    → Answers (answer_at ending world path request workers) r w (Err e) o o'
unfolding answer_at
no_workers_at ending world path request workers r w e o o' h = no_workers workers _ r w e o o' h

pub writes_whoever_works : (result : Result Unit RunFault) → IfErr result (λ e. (e ≡ run.Memory) ⊎ (e ≡ run.Write))
    → IsErrOf result run.Workers → ⊥
writes_whoever_works (Ok u) causes is = absurd cc
writes_whoever_works (Err e) (inl memory) is = absurd cc
writes_whoever_works (Err e) (inr write) is = absurd cc

-- writing ends for want of memory, or where it may fail
pub write_ends : (result : Result Unit RunFault) (read : Result (List OwnedLine) RunFault) (r : List ℕ → Type 0)
    (w : Type 0) → IfErr result (λ e. (e ≡ run.Memory) ⊎ (e ≡ run.Write)) → (IsErrOf result run.Write → w)
    → IfErr result (MayEnd read r w)
write_ends (Ok u) read r w causes fails = tt
write_ends (Err e) read r w (inl is) fails = subst (MayEnd read r w) (sym is) tt
write_ends (Err e) read r w (inr is) fails = subst (MayEnd read r w) (sym is) (fails (ap Err is))

-- what writing the text of a plan gives
module _ (plan : List OwnedLine) (result : Result Unit RunFault) (o o' : Option (List ℕ))
    (all : OnOk result (Appends o o' (plan_text plan)))
    (front : IsErrOf result run.Write → AppendsFront o o' (plan_text plan)) where
  pub written_plan : (read : Result (List OwnedLine) RunFault) (r : List ℕ → Type 0) (w : Type 0) → read ≡ Ok plan
      → IfErr result (λ e. (e ≡ run.Memory) ⊎ (e ≡ run.Write)) → (IsErrOf result run.Write → w)
      → Answers read r w result o o'
  written_plan read r w is causes fails = record {
    written = on_ok_weaker result (λ text. (plan, is, text)) all;
    refused = write_ends result read r w causes fails;
    front = λ failed. (plan, is, front failed);
  }

  pub writes_plan : WritesAPlan result o o'
  writes_plan = record {
    all = on_ok_weaker result (λ text. (plan, text)) all;
    front = λ failed. (plan, front failed);
  }

pub writes_no_plan : (e : RunFault) (o o' : Option (List ℕ)) → (e ≢ run.Write) → WritesAPlan (Err e) o o'
writes_no_plan e o o' not_write =
    record { all = tt; front = λ is. let q : e ≡ run.Write = cc in absurd (not_write q) }
