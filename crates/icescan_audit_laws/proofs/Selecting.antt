-- What is audited of a table is what a plan of it reads, whatever its filter.
use Rattle.std.proofs.Common.{◌≡◌, ℕ, List, [], sym, ap, subst, ◌∙◌, Option, None}
use Rattle.std.specs.Prelude.{Result, Ok, Err}
use Rattle.contract_words.specs.Outcome.{◌>>=◌}
use Rattle.ice_filter.specs.declared.bound.BoundPredicate.{BoundPredicate}
use Rattle.ice_filter.specs.declared.predicate.Predicate.{Predicate}
use Rattle.ice_filter.specs.declared.parts.Part.{Part}
use Rattle.ice_meta.specs.declared.metadata.Target.{Target}
use Rattle.ice_meta.specs.declared.schema.Schema.{Schema}
use Rattle.ice_meta.specs.declared.spec.Spec.{Spec}
use Rattle.ice_meta.specs.declared.table.Table.{Table}
use Rattle.ice_meta.specs.Targets.{Described, bound_specs, list_of, metadata_of, resolved}
use Rattle.icescan_text.specs.Faults.{of_filter, of_meta}
use Rattle.icescan_text.specs.Reads.{as_run, rows_at, schema_of}
use Rattle.icescan_text.specs.declared.fault.RunFault.{RunFault}
use Rattle.icescan_text.specs.declared.request.Request.{Request}
use Rattle.icescan_requests.specs.Selections.{bound_in, parts_in, selected, selected_by}
use Rattle.icescan_requests.specs.declared.selection.Selection.{Selection}
use Rattle.icescan_requests.specs.Plans.{TellsTheTruth}
use Rattle.ice_state.specs.Contents.{World}
use Rattle.ice_state.specs.Covering.{AreCovered}
use Rattle.icescan_audit.specs.Premises.{HasTrueSummaries}
use Rattle.icescan_audit.specs.Subjects.{basis_of, subject_in, subject_of}
use Rattle.icescan_audit.specs.Summaries.{totals_under}
use Rattle.icescan_audit_findings.specs.declared.totals.SaidTotal.{SaidTotal}
use Rattle.serde_json.specs.Data.{Data}
use Rattle.icescan_audit.specs.declared.subject.Subject.{Subject}

-- the list and the specs are the same
abbrev pub IsSame : Subject → Selection → Type 0
IsSame subject selection = (selection.list ≡ subject.list) × (selection.specs ≡ subject.basis.specs)

-- ---- by the parts of the metadata

abbrev given : {A : Type 0} → A → Result A RunFault
given x = Ok x

abbrev subject_from : Table → Target → List SaidTotal → Result (List ℕ) RunFault → Result Schema RunFault
    → Result Subject RunFault
subject_from table target said list schema =
    list >>= λ l. schema >>= λ s. Ok (record { list = l; basis = basis_of s table target; said = said })

abbrev selection_from : Table → Result (List ℕ) RunFault → Result Schema RunFault
    → (Schema → Result (List (Part BoundPredicate)) RunFault) → Result Selection RunFault
selection_from table list schema bound = list >>= λ l. schema >>= λ s. bound s >>= λ f.
    Ok (record { list = l; specs = bound_specs s table; filter = record { parts = f } })

bound_same : (table : Table) (target : Target) (said : List SaidTotal) (l : List ℕ) (s : Schema)
    (f : Result (List (Part BoundPredicate)) RunFault) (selection : Selection) (subject : Subject)
    → (f >>= λ parts. Ok (record { list = l; specs = bound_specs s table; filter = record { parts = parts } }))
    ≡ Ok selection
    → given (record { list = l; basis = basis_of s table target; said = said }) ≡ Ok subject → IsSame subject selection
bound_same table target said l s (Err e) selection subject h k = absurd cc
bound_same table target said l s (Ok parts) selection subject h k =
    let here : record { list = l; specs = bound_specs s table; filter = record { parts = parts } } ≡ selection = cc in
    let there : record { list = l; basis = basis_of s table target; said = said } ≡ subject = cc in (
      sym (ap (λ (x : Selection). x.list) here) ∙ ap (λ (x : Subject). x.list) there,
      sym (ap (λ (x : Selection). x.specs) here) ∙ ap (λ (x : Subject). x.basis.specs) there,
    )

same_from : (table : Table) (target : Target) (said : List SaidTotal) (list : Result (List ℕ) RunFault)
    (schema : Result Schema RunFault)
    (bound : Schema → Result (List (Part BoundPredicate)) RunFault) (selection : Selection) (subject : Subject)
    → selection_from table list schema bound ≡ Ok selection → subject_from table target said list schema ≡ Ok subject
    → IsSame subject selection
same_from table target said (Err e) schema bound selection subject h k = absurd cc
same_from table target said (Ok l) (Err e) bound selection subject h k = absurd cc
same_from table target said (Ok l) (Ok s) bound selection subject h k =
    bound_same table target said l s (bound s) selection subject h k

same_parts : (json : Data) (table : Table) (target : Target) (parts : Option (List (Part Predicate))) (selection : Selection)
    (subject : Subject) → selected_by table target parts ≡ Ok selection → subject_in json table target ≡ Ok subject
    → IsSame subject selection
unfolding selected_by subject_in
same_parts json table target parts selection subject h k =
    same_from table target (totals_under (resolved target table) json) (as_run of_meta (list_of target table))
    (as_run of_meta (schema_of target table))
    (λ s. as_run of_filter (bound_in s parts)) selection subject h k

by_parts : (json : Data) (table : Table) (target : Target) (parts : Result (Option (List (Part Predicate))) RunFault)
    (selection : Selection) (subject : Subject) → (parts >>= λ p. selected_by table target p) ≡ Ok selection
    → subject_in json table target ≡ Ok subject → IsSame subject selection
by_parts json table target (Err e) selection subject h k = absurd cc
by_parts json table target (Ok parts) selection subject h k = same_parts json table target parts selection subject h k

by_metadata : (described : Result Described RunFault) (request : Request) (selection : Selection) (subject : Subject)
    → (described >>= λ d. as_run of_filter (parts_in request.filter) >>= λ p. selected_by d.table request.target p)
    ≡ Ok selection → (described >>= λ d. subject_in d.json d.table request.target) ≡ Ok subject → IsSame subject selection
by_metadata (Err e) request selection subject h k = absurd cc
by_metadata (Ok d) request selection subject h k =
    by_parts d.json d.table request.target (as_run of_filter (parts_in request.filter)) selection subject h k

-- a plan reads the list and the specs that are audited
pub same_selection : (metadata : List ℕ) (request : Request) (selection : Selection) (subject : Subject)
    → selected metadata request ≡ Ok selection → subject_of metadata request.target ≡ Ok subject
    → IsSame subject selection
unfolding selected subject_of
same_selection metadata request selection subject h k =
    by_metadata (as_run of_meta (metadata_of metadata)) request selection subject h k

-- ---- a plan without a filter

abbrev unfiltered : Subject → Selection
unfiltered subject = record { list = subject.list; specs = subject.basis.specs; filter = record { parts = [] } }

unfiltered_from : (table : Table) (target : Target) (said : List SaidTotal) (list : Result (List ℕ) RunFault)
    (schema : Result Schema RunFault)
    (subject : Subject)
    → subject_from table target said list schema ≡ Ok subject
    → selection_from table list schema (λ s. Ok []) ≡ Ok (unfiltered subject)
unfiltered_from table target said (Err e) schema subject h = absurd cc
unfiltered_from table target said (Ok l) (Err e) subject h = absurd cc
unfiltered_from table target said (Ok l) (Ok s) subject h =
    let there : record { list = l; basis = basis_of s table target; said = said } ≡ subject = cc in
    ap (λ (x : Subject). given (unfiltered x)) there

unfiltered_by : (json : Data) (table : Table) (target : Target) (subject : Subject) → subject_in json table target ≡ Ok subject
    → selected_by table target None ≡ Ok (unfiltered subject)
unfolding selected_by subject_in
unfiltered_by json table target subject h = unfiltered_from table target (totals_under (resolved target table) json)
    (as_run of_meta (list_of target table))
    (as_run of_meta (schema_of target table)) subject h

unfiltered_in : (described : Result Described RunFault) (target : Target) (subject : Subject)
    → (described >>= λ d. subject_in d.json d.table target) ≡ Ok subject
    → (described >>= λ d. selected_by d.table target None) ≡ Ok (unfiltered subject)
unfiltered_in (Err e) target subject h = absurd cc
unfiltered_in (Ok d) target subject h = unfiltered_by d.json d.table target subject h

-- a plan without a filter reads what is audited
pub unfiltered_selection : (metadata : List ℕ) (target : Target) (subject : Subject)
    → subject_of metadata target ≡ Ok subject
    → selected metadata (record { target = target; filter = None }) ≡ Ok (unfiltered subject)
unfolding selected subject_of
unfiltered_selection metadata target subject h =
    unfiltered_in (as_run of_meta (metadata_of metadata)) target subject h

-- ---- the premise of a plan

pub truth_for : (world : World) (metadata : List ℕ) (target : Target) (text : Option (List ℕ)) (subject : Subject)
    → subject_of metadata target ≡ Ok subject → HasTrueSummaries world metadata target
    → TellsTheTruth world metadata (record { target = target; filter = text })
truth_for world metadata target text subject is h = λ selection rows asked has.
    let same = same_selection metadata (record { target = target; filter = text }) selection subject asked is in
    let there : rows_at world subject.list ≡ Ok rows = ap (rows_at world) (sym same.0) ∙ has in
    subst (λ (ss : List Spec). AreCovered world ss rows) (sym same.1) (h subject rows is there)

pub true_from : (world : World) (metadata : List ℕ) (target : Target)
    → TellsTheTruth world metadata (record { target = target; filter = None }) → HasTrueSummaries world metadata target
true_from world metadata target tells = λ subject rows is has.
    tells (unfiltered subject) rows (unfiltered_selection metadata target subject is) has
