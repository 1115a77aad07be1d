-- The steps of an answer that there is.
use Rattle.std.proofs.Common.{◌≡◌, ℕ, suc, true, List, [], ◌∷◌, length, replicate, refl, sym, ap, ◌∙◌}
use Rattle.std.proofs.Common.{Option, Some, None, Result, Ok, Err}
use Rattle.contract_words.specs.Outcome.{◌>>=◌}
use Rattle.ice_filter.specs.Rows as table
use Rattle.ice_filter.specs.Rows.{row_meets}
use Rattle.ice_filter.specs.declared.bound.BoundPredicate.{BoundPredicate}
use Rattle.ice_filter.specs.declared.predicate.Predicate.{Predicate}
use Rattle.ice_filter.specs.declared.parts.Part.{Part}
use Rattle.ice_filter.proofs.Answering.{bound_means}
use Rattle.ice_meta.specs.Targets.{bound_specs, list_of}
use Rattle.ice_meta.specs.declared.metadata.Target.{Target}
use Rattle.ice_meta.specs.declared.schema.Schema.{Schema}
use Rattle.ice_meta.specs.declared.spec.Spec.{Spec}
use Rattle.ice_meta.specs.declared.table.Table.{Table}
use Rattle.ice_manifest_reading.specs.declared.row.Row.{Row}
use Rattle.ice_state.specs.Contents.{World, IsOf, content, every_row, slots_of}
use Rattle.ice_state.specs.Lines.{OwnedLine}
use Rattle.ice_state.specs.Scans.{Scanned, scan_of}
use Rattle.icescan_text.specs.declared.fault.RunFault.{RunFault}
use Rattle.icescan_text.specs.Faults.{of_filter, of_finish, of_meta, of_scan}
use Rattle.icescan_text.specs.Reads.{all_present, as_run, schema_of}
use Rattle.icescan_requests.specs.Plans.{Ending, answer_by, rows_plan, scan_in}
use Rattle.icescan_requests.specs.Selections.{bound_in, selected, selected_by}
use Rattle.icescan_text.specs.declared.request.Request.{Request}
use Rattle.icescan_requests.specs.declared.selection.Selection.{Selection}
use Rattle.icescan_answer_laws.specs.Asked.{IsAsked, IsRead, meets}

-- what was read first, and what came of it
then_read : {A B E : Type 0} (first : Result A E) (next : A → Result B E) (y : B) → (first >>= next) ≡ Ok y
    → (x : A) × (first ≡ Ok x) × (next x ≡ Ok y)
then_read (Ok x) next y h = (x, refl, h)
then_read (Err e) next y h = cc

as_read : {A E : Type 0} (of : E → RunFault) (read : Result A E) (x : A) → as_run of read ≡ Ok x → read ≡ Ok x
as_read of (Ok y) x h = let e : y ≡ x = cc in ap Ok e
as_read of (Err e) x h = cc

-- ---- the plan of an answer

pub rows_of_answer : (ending : Ending) (world : World) (metadata : List ℕ) (request : Request) (selection : Selection)
    (rows : List Row) (plan : List OwnedLine) → IsAsked world metadata request selection rows
    → answer_by ending world metadata request ≡ Ok plan
    → rows_plan ending world selection.specs selection.filter.parts rows ≡ Ok plan
unfolding answer_by
rows_of_answer ending world metadata request selection rows plan (is, has) h =
    let e : answer_by ending world metadata request ≡ rows_plan ending world selection.specs
    selection.filter.parts rows =
    rw (is, has) refl in
    sym e ∙ h

pub plan_of_rows : (ending : Ending) (world : World) (specs : List Spec) (filter : List (Part BoundPredicate))
    (rows : List Row) (plan : List OwnedLine) → rows_plan ending world specs filter rows ≡ Ok plan
    → (scan : Scanned) × (scan_of rows specs filter ≡ Ok scan) × (ending world specs filter rows scan ≡ Ok plan)
unfolding rows_plan
plan_of_rows ending world specs filter rows plan h =
    let end : Scanned → Result (List OwnedLine) RunFault = λ s. as_run of_finish (ending world specs filter rows s) in
    let s = then_read (scan_in specs filter rows) (λ s. all_present world s.wanted >>= λ _. end s) plan h in
    let p = then_read (all_present world s.0.wanted) (λ _. end s.0) plan s.2 in (
      s.0,
      as_read of_scan (scan_of rows specs filter) s.0 s.1,
      as_read of_finish (ending world specs filter rows s.0) plan p.2,
    )

slots_each : (world : World) (scan : Scanned) (rows : List Row)
    → length (slots_of world scan (replicate (length rows) true) rows) ≡ length rows
slots_each world scan [] = refl
slots_each world scan (row ∷ rows) = ap suc (slots_each world scan rows)

pub is_of : (world : World) (scan : Scanned) → IsOf scan (content world scan (every_row scan))
is_of world scan = slots_each world scan scan.wanted

-- ---- the filter of a request

same_bound : (schema : Schema) (parts : Option (List (Part Predicate))) (bound : List (Part BoundPredicate))
    (row : table.Row)
    → bound_in schema parts ≡ Ok bound → row_meets bound row ≡ meets schema parts row
same_bound schema None bound row h = let e : [] ≡ bound = cc in ap
    (λ (ps : List (Part BoundPredicate)). row_meets ps row)
    (sym e)
same_bound schema (Some parts) bound row h = bound_means schema parts bound h row

of_snapshot : (table' : Table) (target : Target) (parts : Option (List (Part Predicate))) (schema : Schema)
    (selection : Selection) (row : table.Row) → selected_by table' target parts ≡ Ok selection
    → schema_of target table' ≡ Ok schema → row_meets selection.filter.parts row ≡ meets schema parts row
unfolding selected_by
of_snapshot table' target parts schema selection row h is =
    let made : List ℕ → Schema → List (Part BoundPredicate) → Result Selection RunFault = λ list s filter.
    Ok (record { list = list; specs = bound_specs s table'; filter = record { parts = filter } }) in
    let l = then_read (as_run of_meta (list_of target table'))
    (λ list. as_run of_meta (schema_of target table') >>= λ s.
    as_run of_filter (bound_in s parts) >>= made list s) selection h in
    let s = then_read (as_run of_meta (schema_of target table'))
    (λ s. as_run of_filter (bound_in s parts) >>= made l.0 s)
    selection l.2 in
    let f = then_read (as_run of_filter (bound_in s.0 parts)) (made l.0 s.0) selection s.2 in
    let same : Ok s.0 ≡ Ok schema = sym (as_read of_meta (schema_of target table') s.0 s.1) ∙ is in
    let one : s.0 ≡ schema = cc in
    let bound : bound_in s.0 parts ≡ Ok f.0 = as_read of_filter (bound_in s.0 parts) f.0 f.1 in
    let whole : record { list = l.0; specs = bound_specs s.0 table'; filter = record { parts = f.0 } } ≡ selection =
    cc in
    ap (λ (x : Selection). row_meets x.filter.parts row) (sym whole)
    ∙ same_bound s.0 parts f.0 row bound ∙ ap (λ (x : Schema). meets x parts row) one

pub means_its_text : (metadata : List ℕ) (request : Request) (selection : Selection) (schema : Schema)
    (parts : Option (List (Part Predicate))) (row : table.Row) → selected metadata request ≡ Ok selection
    → IsRead metadata request schema parts → row_meets selection.filter.parts row ≡ meets schema parts row
unfolding selected
means_its_text metadata request selection schema parts row h (d, described, read, is) =
    let e : selected metadata request ≡ selected_by d.table request.target parts = rw (described, read) refl in
    of_snapshot d.table request.target parts schema selection row (sym e ∙ h) is
