-- What a pin replies to its own events, whatever comes between; and what a pinned scan reads.
use Rattle.std.specs.Prelude.{◌≡◌, ◌==◌, ℕ, Bool, false, cond, List, [], ◌∷◌, ◌++◌, length, Option, Some, Ok, slice_get}
use Rattle.std.specs.FinMap.{get}
use Rattle.ice_filter.specs.Binding.{bound_parts}
use Rattle.ice_filter.specs.declared.bound.BoundPredicate.{BoundPredicate}
use Rattle.ice_filter.specs.declared.predicate.Predicate.{Predicate}
use Rattle.ice_filter.specs.declared.parts.Part.{Part}
use Rattle.ice_manifest_reading.specs.declared.row.Row.{Row}
use Rattle.ice_meta.specs.Targets.{bound_specs, schema_for}
use Rattle.ice_meta.specs.declared.metadata.Target.TheVariants.{Main}
use Rattle.ice_meta.specs.declared.schema.Schema.{Schema}
use Rattle.ice_meta.specs.declared.spec.Spec.{Spec}
use Rattle.ice_state.specs.Contents.{every_row}
use Rattle.ice_state.specs.Covering.{AreCovered}
use Rattle.ice_state.specs.Pruning.{pruner_of}
use Rattle.ice_state.specs.Snapshots.{plan_of_snapshot}
use Rattle.ice_catalog.specs.declared.event.Event.{Event}
use Rattle.ice_catalog.specs.declared.event.Event.TheVariants as on
use Rattle.ice_catalog.specs.declared.event.Reply.{Reply}
use Rattle.ice_catalog.specs.declared.event.Reply.TheVariants as reply
use Rattle.ice_catalog_versions.specs.Covered.{BeganCovered}
use Rattle.ice_catalog_versions.specs.Histories.{History, state_of}
use Rattle.ice_catalog.specs.Machines.{Machine, PinnedScan, finish_in, finished, in_scan, merge, take}
use Rattle.ice_catalog.specs.Machines.{machine_after, pin, started}
use Rattle.ice_catalog.specs.Pins.{rows_in}
use Rattle.ice_catalog_versions.specs.States.{State}

-- ---- a pin alone

-- the event is a step of the pin k
abbrev pub is_of : ℕ → Event → Bool
is_of k (on.Pin filter) = false
is_of k (on.Commit base change ids) = false
is_of k (on.Take pin w i) = pin == k
is_of k (on.Merge pin into from) = pin == k
is_of k (on.Finish pin w) = pin == k

-- what a pin replies to a step of its own, and what it is afterwards
abbrev pub alone : Option PinnedScan → Event → Reply × Option PinnedScan
alone s (on.Pin filter) = (reply.NoSuch, s)
alone s (on.Commit base change ids) = (reply.NoSuch, s)
alone s (on.Take pin w i) = in_scan (λ p. take p w i) s
alone s (on.Merge pin into from) = in_scan (λ p. merge p into from) s
alone s (on.Finish pin w) = (finish_in s w, s)

-- the replies of the pin k, from what was pinned and its own steps alone
abbrev pub pin_replies : ℕ → Option PinnedScan → List Event → List Reply
pin_replies k s [] = []
pin_replies k s (e ∷ es) = cond (is_of k e) ((alone s e).0 ∷ pin_replies k (alone s e).1 es) (pin_replies k s es)

-- the pin after them
abbrev pub pin_after : ℕ → Option PinnedScan → List Event → Option PinnedScan
pin_after k s [] = s
pin_after k s (e ∷ es) = cond (is_of k e) (pin_after k (alone s e).1 es) (pin_after k s es)

-- of the replies to these events those to the steps of the pin k
abbrev pub replies_of_pin : ℕ → List Event → List Reply → List Reply
replies_of_pin k [] rs = []
replies_of_pin k (e ∷ es) [] = []
replies_of_pin k (e ∷ es) (r ∷ rs) = cond (is_of k e) (r ∷ replies_of_pin k es rs) (replies_of_pin k es rs)

-- ---- what a pinned scan reads

-- a version's current snapshot has these rows, and its current schema makes these parts of the filter
pub record Reads (state : State) (filter : List (Part Predicate)) (schema : Schema) (rows : List Row)
    (parts : List (Part BoundPredicate)) : Type 0 where
  pub listed : rows_in state ≡ Ok rows
  pub current : schema_for Main state.metadata.table ≡ Some schema
  pub bound : bound_parts schema filter ≡ Ok parts

-- by which specs
abbrev pub specs_of : State → Schema → List Spec
specs_of state schema = bound_specs schema state.metadata.table

-- the summaries of the rows tell the truth
abbrev pub TellsTheTruth : State → Schema → List Row → Type 0
TellsTheTruth state schema rows = AreCovered (get state.world) (specs_of state schema) rows

-- the plan of the snapshot, over all its rows
abbrev pub plan_reply : State → Schema → List Row → List (Part BoundPredicate) → Reply
plan_reply state schema rows parts =
    let specs = specs_of state schema in
    finished (plan_of_snapshot (pruner_of parts specs) (get state.world) specs rows)

-- the worker of the pin k took every wanted row
abbrev pub TookEvery : Machine → ℕ → ℕ → Type 0
TookEvery m k w = (p : PinnedScan) × (slice_get m.pins k ≡ Some (Some p))
    × (slice_get p.workers w ≡ Some (every_row p.scan))

-- ---- what is told of pinned scans

-- Whatever comes before, between and after: a worker that took every wanted row of its scan finishes with the plan of
-- the snapshot that was the current one at the scan's `Pin` event, where the opening's rows are covered and the files
-- of each commit until then were new.
abbrev pub TellsPinnedPlans : History → List Event → List Reply → Type 0
TellsPinnedPlans h events replies =
    (before between rest : List Event) (filter : List (Part Predicate)) (w : ℕ)
    (state : State) (schema : Schema) (rows : List Row) (parts : List (Part BoundPredicate)) →
    let m = machine_after (started h) before in
    events ≡ before ++ on.Pin filter ∷ between ++ on.Finish (length m.pins) w ∷ rest
    → BeganCovered m.history → state_of m.history ≡ Some state → Reads state filter schema rows parts
    → TookEvery (machine_after (pin m filter).1 between) (length m.pins) w
    → slice_get replies (length (before ++ on.Pin filter ∷ between)) ≡ Some (plan_reply state schema rows parts)
