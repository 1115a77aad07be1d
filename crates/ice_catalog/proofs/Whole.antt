-- A pinned scan whose every wanted row is taken.
use Rattle.std.proofs.Common.{◌≡◌, ℕ, zero, suc, Bool, true, false, List, [], ◌∷◌, length, replicate, refl, sym, ◌∙◌}
use Rattle.std.proofs.Common.{ap, subst}
use Rattle.std.specs.Prelude.{cond, is_some, option_map, slice_get, slice_set, Option, Some, None, Result, Ok, Err}
use Rattle.std.specs.FinMap.{get}
use Rattle.std.specs.List.{All}
use Rattle.std.specs.Option.{option_and_then}
use Rattle.std.specs.Result.{result_ok}
use Rattle.std.proofs.lemmas.List.Elements.{All-replicate, All-set}
use Rattle.std.proofs.lemmas.Option.{get_or_from_slice_get, slice_get_within}
use Rattle.ice_filter.specs.declared.bound.BoundPredicate.{BoundPredicate}
use Rattle.ice_filter.specs.declared.predicate.Predicate.{Predicate}
use Rattle.ice_filter.specs.declared.parts.Part.{Part}
use Rattle.ice_manifest_reading.specs.declared.row.Row.{Row}
use Rattle.ice_meta.specs.declared.schema.Schema.{Schema}
use Rattle.ice_state.specs.Contents.{World, HasEach, add, content, every_row, no_row}
use Rattle.ice_state.specs.Covering.{AreCovered, HasSoundSummaries}
use Rattle.ice_state.specs.Joins.{either}
use Rattle.ice_state.specs.Outcomes.{outcome}
use Rattle.ice_state.specs.Pruning.{IsOpen, pruner_of}
use Rattle.ice_state.specs.Scans.{Scanned, IsScanOf, scan_of as scan_of_rows}
use Rattle.ice_state.specs.Snapshots.{plan_of_snapshot}
use Rattle.ice_state.specs.declared.fault.ScanFault.{ScanFault}
use Rattle.ice_state.proofs.Scans.{made}
use Rattle.ice_state.proofs.Snapshots.{of_snapshot}
use Rattle.ice_catalog.specs.declared.event.Event.{Event}
use Rattle.ice_catalog.specs.declared.event.Event.TheVariants as on
use Rattle.ice_catalog.specs.Apart.{Reads, TellsTheTruth, TookEvery, alone, is_of, pin_after, plan_reply, specs_of}
use Rattle.ice_catalog_versions.specs.Histories.{History, state_of}
use Rattle.ice_catalog.specs.Machines.{Machine, PinnedScan, begun, event, finish_at, finished, machine_after, merge_by}
use Rattle.ice_catalog.specs.Machines.{pin, pinned_on, take_by, took_row, world_in, world_of}
use Rattle.ice_catalog.specs.Pins.{as_pin, of_scan, scan_in}
use Rattle.ice_catalog_versions.specs.States.{State}
use Rattle.ice_catalog.proofs.Apart.{after_apart, get_last}
use Rattle.ice_catalog.proofs.Steps.{finishes}

-- ---- the files have the manifest of each row of a set

abbrev HasSet : World → List Row → List Bool → Type 0
HasSet world [] ts = Unit {0}
HasSet world (row ∷ rows) [] = Unit {0}
HasSet world (row ∷ rows) (true ∷ ts) = (is_some (world row.path) ≡ true) × HasSet world rows ts
HasSet world (row ∷ rows) (false ∷ ts) = HasSet world rows ts

has_none : (world : World) (rows : List Row) (n : ℕ) → HasSet world rows (replicate n false)
has_none world [] n = tt
has_none world (row ∷ rows) zero = tt
has_none world (row ∷ rows) (suc n) = has_none world rows n

there : (world : World) (row r : Row) (bytes : List ℕ) → Some r ≡ Some row → world row.path ≡ Some bytes
    → is_some (world r.path) ≡ true
there world row r bytes one is = let same : r ≡ row = cc in ap (λ (q : Row). is_some (world q.path)) same ∙ ap is_some
    is

has_add : (world : World) (rows : List Row) (ts : List Bool) (i : ℕ) (row : Row) (bytes : List ℕ)
    → slice_get rows i ≡ Some row → world row.path ≡ Some bytes → HasSet world rows ts
    → HasSet world rows (slice_set ts i true)
has_add world [] ts i row bytes at is has = tt
has_add world (r ∷ rows) [] i row bytes at is has = tt
has_add world (r ∷ rows) (true ∷ ts) zero row bytes at is has = has
has_add world (r ∷ rows) (false ∷ ts) zero row bytes at is has = (there world row r bytes at is, has)
has_add world (r ∷ rows) (true ∷ ts) (suc i) row bytes at is has = (
  has.0,
  has_add world rows ts i row bytes at is
      has.1,
)
has_add world (r ∷ rows) (false ∷ ts) (suc i) row bytes at is has = has_add world rows ts i row bytes at is has

has_either : (world : World) (rows : List Row) (ts us : List Bool) → HasSet world rows ts → HasSet world rows us
    → HasSet world rows (either ts us)
has_either world [] ts us t u = tt
has_either world (row ∷ rows) [] us t u = u
has_either world (row ∷ rows) (true ∷ ts) [] t u = t
has_either world (row ∷ rows) (false ∷ ts) [] t u = t
has_either world (row ∷ rows) (true ∷ ts) (true ∷ us) t u = (t.0, has_either world rows ts us t.1 u.1)
has_either world (row ∷ rows) (true ∷ ts) (false ∷ us) t u = (t.0, has_either world rows ts us t.1 u)
has_either world (row ∷ rows) (false ∷ ts) (true ∷ us) t u = (u.0, has_either world rows ts us t u.1)
has_either world (row ∷ rows) (false ∷ ts) (false ∷ us) t u = has_either world rows ts us t u

has_every : (world : World) (rows : List Row) → HasSet world rows (replicate (length rows) true) → HasEach world rows
has_every world [] has = tt
has_every world (row ∷ rows) has = (has.0, has_every world rows has.1)

-- ---- what a scan keeps

abbrev Sound : PinnedScan → Type 0
Sound p = All (HasSet (world_of p.history) p.scan.wanted) p.workers

of_one : {A : Type 0} (P : A → Type 0) (xs : List A) (i : ℕ) (x : A) → All P xs → slice_get xs i ≡ Some x → P x
of_one P xs i x all at = subst P (get_or_from_slice_get xs i x x at) (all i x (slice_get_within xs i x at))

-- the scan is of the same history, reads the same, and its workers took what is there
abbrev Keeps : PinnedScan → Option PinnedScan → Type 0
Keeps q None = ⊥
Keeps q (Some p) = (p.history ≡ q.history) × (p.scan ≡ q.scan) × Sound p

module _ (q p : PinnedScan) (keeps : Keeps q (Some p)) where
  took : (w i : ℕ) (set : List Bool) (row : Row) (found : Option (List ℕ)) → slice_get p.workers w ≡ Some set
      → slice_get p.scan.wanted i ≡ Some row → world_of p.history row.path ≡ found
      → Keeps q (Some (took_row p w i set row found).1)
  took w i set row None worker at is = keeps
  took w i set row (Some bytes) worker at is =
      let P = HasSet (world_of p.history) p.scan.wanted in (
        keeps.0,
        keeps.1,
        All-set P p.workers w (add set i) (has_add (world_of p.history) p.scan.wanted set i row bytes
            at is (of_one P p.workers w set keeps.2 worker)) keeps.2,
      )

  takes_by : (w i : ℕ) (set : Option (List Bool)) (row : Option Row) → slice_get p.workers w ≡ set
      → slice_get p.scan.wanted i ≡ row → Keeps q (Some (take_by p w i set row).1)
  takes_by w i None row worker at = keeps
  takes_by w i (Some set) None worker at = keeps
  takes_by w i (Some set) (Some row) worker at = took w i set row (world_of p.history row.path) worker at refl

  merges_by : (into from : ℕ) (set other : Option (List Bool)) → slice_get p.workers into ≡ set
      → slice_get p.workers from ≡ other → Keeps q (Some (merge_by p into set other).1)
  merges_by into from None other is also = keeps
  merges_by into from (Some set) None is also = keeps
  merges_by into from (Some set) (Some other) is also =
      let P = HasSet (world_of p.history) p.scan.wanted in (
        keeps.0,
        keeps.1,
        All-set P p.workers into (either set other) (has_either (world_of p.history) p.scan.wanted set
            other (of_one P p.workers into set keeps.2 is) (of_one P p.workers from other keeps.2 also)) keeps.2,
      )

  one : (e : Event) → Keeps q (alone (Some p) e).1
  one (on.Pin filter) = keeps
  one (on.Commit base change ids) = keeps
  one (on.Take k w i) = takes_by w i (slice_get p.workers w) (slice_get p.scan.wanted i) refl refl
  one (on.Merge k into from) = merges_by into from (slice_get p.workers into) (slice_get p.workers from) refl refl
  one (on.Finish k w) = keeps

step : (q : PinnedScan) (s : Option PinnedScan) (e : Event) → Keeps q s → Keeps q (alone s e).1
step q None e keeps = absurd keeps
step q (Some p) e keeps = one q p keeps e

all_steps : (q : PinnedScan) (k : ℕ) (s : Option PinnedScan) (es : List Event) → Keeps q s → Keeps q (pin_after k s es)
all_steps q k s [] keeps = keeps
all_steps q k s (e ∷ es) keeps =
    elim (is_of k e) as (λ b. Keeps q (cond b (pin_after k (alone s e).1 es) (pin_after k s es))) [
      | true ↦ all_steps q k (alone s e).1 es (step q s e keeps)
      | false ↦ all_steps q k s es keeps
    ]

begins : (h : History) (scan : Scanned) → Keeps (begun h scan) (Some (begun h scan))
begins h scan = (
  refl,
  refl,
  All-replicate (HasSet (world_of h) scan.wanted) 64 (no_row scan)
      (has_none (world_of h) scan.wanted (length scan.wanted)),
)

-- an unpinned one stays so
unpinned : (e : Event) → (alone None e).1 ≡ None
unpinned (on.Pin filter) = refl
unpinned (on.Commit base change ids) = refl
unpinned (on.Take k w i) = refl
unpinned (on.Merge k into from) = refl
unpinned (on.Finish k w) = refl

stays : (k : ℕ) (es : List Event) → pin_after k None es ≡ None
stays k [] = refl
stays k (e ∷ es) =
    elim (is_of k e) as (λ b. cond b (pin_after k (alone None e).1 es) (pin_after k None es) ≡ None) [
      | true ↦ ap (λ s. pin_after k s es) (unpinned e) ∙ stays k es
      | false ↦ stays k es
    ]

-- ---- what is pinned

pub scans : (state : State) (filter : List (Part Predicate)) (schema : Schema) (rows : List Row)
    (parts : List (Part BoundPredicate)) → Reads state filter schema rows parts
    → scan_in state filter ≡ as_pin of_scan (scan_of_rows rows (specs_of state schema) parts)
unfolding scan_in
scans state filter schema rows parts reads = rw (reads.listed, reads.current, reads.bound) refl

same_some : {A : Type 0} (x y : A) → Some x ≡ Some y → x ≡ y
same_some x y e = cc

-- what the law of filters says
module _ (opens : (parts : List (Part BoundPredicate)) (specs : _) → IsOpen specs (pruner_of parts specs))
    (sound : (parts : List (Part BoundPredicate)) (specs : _) → HasSoundSummaries specs (pruner_of parts specs)) where
  module _ (h : History) (state : State) (filter : List (Part Predicate)) (schema : Schema) (rows : List Row)
      (parts : List (Part BoundPredicate)) (leaves : state_of h ≡ Some state)
      (reads : Reads state filter schema rows parts)
      (truth : TellsTheTruth state schema rows) where
    found : (r : Result Scanned ScanFault) → scan_of_rows rows (specs_of state schema) parts ≡ r
        → pinned_on h filter ≡ option_map (begun h) (result_ok (as_pin of_scan r))
    found r is =
        ap (λ o. option_map (begun h) (option_and_then (λ (s : State). result_ok (scan_in s filter)) o)) leaves
        ∙ ap (λ p. option_map (begun h) (result_ok p)) (scans state filter schema rows parts reads ∙ ap (as_pin of_scan)
        is)

    plan : (scan : Scanned) (p : PinnedScan) → scan_of_rows rows (specs_of state schema) parts ≡ Ok scan
        → Keeps (begun h scan) (Some p) → HasEach (world_of p.history) p.scan.wanted →
        outcome p.scan (content (world_of p.history) p.scan (every_row p.scan)) ≡ plan_of_snapshot
        (pruner_of parts (specs_of state schema)) (get state.world) (specs_of state schema) rows
    plan scan p is keeps has =
        let specs = specs_of state schema in
        let own = made rows specs parts scan is in
        let files : world_of p.history ≡ get state.world = ap world_of keeps.0 ∙ ap world_in leaves in
        let of : IsScanOf rows specs p.scan = subst (IsScanOf rows specs) (sym keeps.1) own.1 in
        let told : AreCovered (world_of p.history) specs rows = subst (λ (v : World). AreCovered v specs rows)
        (sym files) truth in
        of_snapshot opens sound (world_of p.history) p.scan rows specs (content (world_of p.history) p.scan
        (every_row p.scan)) of told has refl
        ∙ (ap (λ (s : Scanned). plan_of_snapshot (pruner_of s.filter specs) (world_of p.history) specs rows) keeps.1
        ∙ (ap (λ (ps : List (Part BoundPredicate)). plan_of_snapshot (pruner_of ps specs)
        (world_of p.history) specs rows)
        own.0
        ∙ ap (λ (v : World). plan_of_snapshot (pruner_of parts specs) v specs rows) files))

    ends : (k : ℕ) (es : List Event) (w : ℕ) (p : PinnedScan) → pin_after k (pinned_on h filter) es ≡ Some p
        → slice_get p.workers w ≡ Some (every_row p.scan) → (r : Result Scanned ScanFault)
        → scan_of_rows rows (specs_of state schema) parts ≡ r →
        finished (outcome p.scan (content (world_of p.history) p.scan (every_row p.scan))) ≡ plan_reply state schema
        rows parts
    ends k es w p is took (Err e) none = let not : None ≡ Some p = sym (stays k es) ∙ (ap (λ s. pin_after k s es)
        (sym (found (Err e) none)) ∙ is) in absurd cc
    ends k es w p is took (Ok scan) made =
        let keeps : Keeps (begun h scan) (Some p) =
        subst (Keeps (begun h scan)) (ap (λ s. pin_after k s es) (sym (found (Ok scan) made)) ∙ is)
        (all_steps (begun h scan) k (Some (begun h scan)) es (begins h scan)) in
        let has = has_every (world_of p.history) p.scan.wanted (of_one (HasSet (world_of p.history) p.scan.wanted)
        p.workers w (every_row p.scan) keeps.2 took) in
        ap finished (plan scan p made keeps has)

  pub whole : (m : Machine) (state : State) (filter : List (Part Predicate)) (schema : Schema) (rows : List Row)
      (parts : List (Part BoundPredicate)) (es : List Event) (w : ℕ) →
      state_of m.history ≡ Some state → Reads state filter schema rows parts → TellsTheTruth state schema rows
      → TookEvery (machine_after (pin m filter).1 es) (length m.pins) w →
      (event (machine_after (pin m filter).1 es) (on.Finish (length m.pins) w)).0 ≡ plan_reply state schema rows parts
  whole m state filter schema rows parts es w leaves reads truth every =
      let k = length m.pins in
      let p = every.0 in
      let after = after_apart (pin m filter).1 k (pinned_on m.history filter) es
      (get_last m.pins (pinned_on m.history filter)) in
      let is : pin_after k (pinned_on m.history filter) es ≡ Some p = same_some _ _ (sym after ∙ every.1) in
      ap (λ o. finish_at o w) every.1
      ∙ (finishes p w (every_row p.scan) every.2
      ∙ ends m.history state filter schema rows parts leaves reads truth k es w p is every.2
      (scan_of_rows rows (specs_of state schema) parts) refl)
