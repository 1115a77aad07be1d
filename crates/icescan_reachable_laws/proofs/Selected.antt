-- The manifest list that a request selects is that of a snapshot of the metadata.
use Rattle.std.proofs.Common.{◌≡◌, Bool, true, false, cond, List, [], ◌∷◌, Option, Some, None, ℕ, sym, ap, ◌∙◌}
use Rattle.std.proofs.Common.{Result, Ok, Err}
use Rattle.std.specs.List.{Contains, find}
use Rattle.std.specs.Ordering.{int_eq}
use Rattle.ice_filter.specs.declared.parts.Part.{Part}
use Rattle.ice_filter.specs.declared.predicate.Predicate.{Predicate}
use Rattle.ice_manifest_reading.proofs.Guards.{went_on}
use Rattle.ice_manifest_reading.proofs.Sets.{here, later}
use Rattle.ice_meta.specs.Members.{asked}
use Rattle.ice_meta.specs.Targets.{Described, bound_specs, list_of, metadata_of, snapshot_with, target_id}
use Rattle.ice_meta.specs.declared.fault.Member.TheVariants as member
use Rattle.ice_meta.specs.declared.fault.MetaFault.{MetaFault}
use Rattle.ice_meta.specs.declared.fault.MetaFault.TheVariants.{Missing, NoSuchSnapshot}
use Rattle.ice_meta.specs.declared.metadata.Target.{Target}
use Rattle.ice_meta.specs.declared.snapshot.Snapshot.{Snapshot}
use Rattle.ice_meta.specs.declared.table.Table.{Table}
use Rattle.icescan_requests.specs.Selections.{bound_in, parts_in, selected, selected_by}
use Rattle.icescan_requests.specs.declared.selection.Selection.{Selection}
use Rattle.icescan_text.specs.Faults.{of_filter, of_meta}
use Rattle.icescan_text.specs.Reads.{as_run, schema_of}
use Rattle.icescan_text.specs.declared.fault.RunFault.{RunFault}
use Rattle.icescan_text.specs.declared.request.Request.{Request}

as_read : {A E : Type 0} (of : E → RunFault) (read : Result A E) (x : A) → as_run of read ≡ Ok x → read ≡ Ok x
as_read of (Ok y) x h = let e : y ≡ x = cc in ap Ok e
as_read of (Err e) x h = cc

asked_is : {A : Type 0} (fault : MetaFault) (found : Option A) (x : A) → asked fault found ≡ Ok x → found ≡ Some x
asked_is fault None x h = absurd cc
asked_is fault (Some y) x h = let e : y ≡ x = cc in ap Some e

found_in : {X : Type 0} (test : X → Bool) (xs : List X) (x : X) → find test xs ≡ Some x → Contains xs x
found_in test [] x h = absurd cc
found_in {X} test (y ∷ ys) x h =
    let P : (b : Bool) → cond b (Some y) (find test ys) ≡ Some x → Contains (y ∷ ys) x =
    λ b. elim b as (λ v. cond v (Some y) (find test ys) ≡ Some x → Contains (y ∷ ys) x) [
      | true ↦ λ g. (let e : y ≡ x = cc in here y ys x e)
      | false ↦ λ g. later y ys x (found_in test ys x g)
    ] in
    P (test y) h

-- the list is that of a snapshot of the table
abbrev pub IsListed : Table → List ℕ → Type 0
IsListed t list = (snapshot : Snapshot) × Contains t.snapshots snapshot × (snapshot.manifest_list ≡ Some list)

list_listed : (target : Target) (t : Table) (list : List ℕ) → list_of target t ≡ Ok list → IsListed t list
unfolding list_of
list_listed target t list h =
    let id = went_on (target_id target t) _ list h in
    let snapshot = went_on (asked NoSuchSnapshot (snapshot_with id.0 t)) _ list id.2 in
    let is = asked_is NoSuchSnapshot (snapshot_with id.0 t) snapshot.0 snapshot.1 in (
      snapshot.0,
      found_in (λ (s : Snapshot). int_eq s.id id.0) t.snapshots snapshot.0 is,
      asked_is (Missing member.ManifestList) snapshot.0.manifest_list list snapshot.2,
    )

of_snapshot : (t : Table) (target : Target) (parts : Option (List (Part Predicate))) (selection : Selection)
    → selected_by t target parts ≡ Ok selection → list_of target t ≡ Ok selection.list
unfolding selected_by
of_snapshot t target parts selection h =
    let list = went_on (as_run of_meta (list_of target t)) _ selection h in
    let schema = went_on (as_run of_meta (schema_of target t)) _ selection list.2 in
    let bound = went_on (as_run of_filter (bound_in schema.0 parts)) _ selection schema.2 in
    let is : record { list = list.0; specs = bound_specs schema.0 t; filter = record { parts = bound.0 } } ≡ selection =
    cc in
    as_read of_meta (list_of target t) list.0 list.1 ∙ ap (λ (s : Selection). Ok s.list) is

pub selected_listed : (bytes : List ℕ) (metadata : Described) (request : Request) (selection : Selection)
    → metadata_of bytes ≡ Ok metadata → selected bytes request ≡ Ok selection
    → IsListed metadata.table selection.list
unfolding selected
selected_listed bytes metadata request selection says h =
    let described = went_on (as_run of_meta (metadata_of bytes)) _ selection h in
    let parts = went_on (as_run of_filter (parts_in request.filter)) _ selection described.2 in
    let read = as_read of_meta (metadata_of bytes) described.0 described.1 in
    let same : Ok described.0 ≡ Ok metadata = sym read ∙ says in
    let one : described.0 ≡ metadata = cc in
    let list = of_snapshot described.0.table request.target parts.0 selection parts.2 in
    list_listed request.target metadata.table selection.list
    (ap (λ (d : Described). list_of request.target d.table) (sym one) ∙ list)
