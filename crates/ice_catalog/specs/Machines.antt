-- The machine of scans and commits: what it replies to each event, and what it is after it. A scan reads the version
-- that was the newest when it was pinned, whatever is committed meanwhile (Apache Iceberg table spec, version 2,
-- "Optimistic Concurrency").
use Rattle.std.specs.Prelude.{◌==◌, ℕ, Bool, cond, List, [], ◌∷◌, ◌++◌, length, replicate, slice_get, slice_set, Result}
use Rattle.std.specs.Prelude.{Ok, Err, Option, Some, None}
use Rattle.std.specs.FinMap.{get}
use Rattle.std.specs.Option.{option_map, option_and_then, unwrap_or}
use Rattle.std.specs.Result.{result_ok}
use Rattle.ice_filter.specs.declared.predicate.Predicate.{Predicate}
use Rattle.ice_filter.specs.declared.parts.Part.{Part}
use Rattle.ice_manifest_reading.specs.declared.row.Row.{Row}
use Rattle.ice_state.specs.Contents.{World, add, content, no_row}
use Rattle.ice_state.specs.Joins.{either}
use Rattle.ice_state.specs.Lines.{OwnedLine}
use Rattle.ice_state.specs.Outcomes.{outcome}
use Rattle.ice_state.specs.Scans.{Scanned}
use Rattle.ice_state.specs.declared.fault.FinishFault.{FinishFault}
use Rattle.ice_catalog_changes.specs.declared.change.Commit.{Commit}
use Rattle.ice_catalog.specs.declared.event.Event.{Event}
use Rattle.ice_catalog.specs.declared.event.Event.TheVariants as on
use Rattle.ice_catalog.specs.declared.event.Reply.{Reply}
use Rattle.ice_catalog.specs.declared.event.Reply.TheVariants as reply
use Rattle.ice_catalog_changes.specs.declared.fault.PrepareFault.{PrepareFault}
use Rattle.ice_catalog_versions.specs.declared.receipt.Receipt.{Receipt}
use Rattle.ice_catalog_versions.specs.Histories.{History, Step, state_of, after, prepared_on}
use Rattle.ice_catalog.specs.Pins.{scan_in}
use Rattle.ice_catalog_versions.specs.States.{State}

-- ---- a pinned scan

-- a scan of the version with this history, and for each of its workers the set of the wanted rows that it took
pub record PinnedScan : Type 0 where
  pub history : History
  pub scan : Scanned
  pub workers : List (List Bool)

-- the files of a version
abbrev pub world_in : Option State → World
world_in None = λ path. None
world_in (Some state) = get state.world

abbrev pub world_of : History → World
world_of h = world_in (state_of h)

-- the scan of a version under a filter: nothing where there is no current snapshot, where its list is absent or
-- refused, or where binding the filter or the scan is refused
abbrev pub scan_of : History → List (Part Predicate) → Option Scanned
scan_of h filter = option_and_then (λ state. result_ok (scan_in state filter)) (state_of h)

-- with 64 workers that took no row
abbrev pub begun : History → Scanned → PinnedScan
begun h scan = record { history = h; scan = scan; workers = replicate 64 (no_row scan) }

abbrev pub pinned_on : History → List (Part Predicate) → Option PinnedScan
pinned_on h filter = option_map (begun h) (scan_of h filter)

abbrev pub with_worker : PinnedScan → ℕ → List Bool → PinnedScan
with_worker p w set = record { history = p.history; scan = p.scan; workers = slice_set p.workers w set }

-- a worker takes the wanted row i, where the version has its manifest
abbrev pub took_row : PinnedScan → ℕ → ℕ → List Bool → Row → Option (List ℕ) → Reply × PinnedScan
took_row p w i set row None = (reply.Absent row.path, p)
took_row p w i set row (Some bytes) = (reply.Taken, with_worker p w (add set i))

abbrev pub take_by : PinnedScan → ℕ → ℕ → Option (List Bool) → Option Row → Reply × PinnedScan
take_by p w i None row = (reply.NoSuch, p)
take_by p w i (Some set) None = (reply.NoSuch, p)
take_by p w i (Some set) (Some row) = took_row p w i set row (world_of p.history row.path)

abbrev pub take : PinnedScan → ℕ → ℕ → Reply × PinnedScan
take p w i = take_by p w i (slice_get p.workers w) (slice_get p.scan.wanted i)

-- a worker takes over what another one took
abbrev pub merge_by : PinnedScan → ℕ → Option (List Bool) → Option (List Bool) → Reply × PinnedScan
merge_by p into None other = (reply.NoSuch, p)
merge_by p into (Some set) None = (reply.NoSuch, p)
merge_by p into (Some set) (Some other) = (reply.Merged, with_worker p into (either set other))

abbrev pub merge : PinnedScan → ℕ → ℕ → Reply × PinnedScan
merge p into from = merge_by p into (slice_get p.workers into) (slice_get p.workers from)

-- what a worker finishes with: the outcome of what the rows that it took contain in the version's files
abbrev pub finished : Result (List OwnedLine) FinishFault → Reply
finished (Ok plan) = reply.Planned plan
finished (Err fault) = reply.Unfinished fault

abbrev pub finish_by : PinnedScan → Option (List Bool) → Reply
finish_by p None = reply.NoSuch
finish_by p (Some set) = finished (outcome p.scan (content (world_of p.history) p.scan set))

abbrev pub finish : PinnedScan → ℕ → Reply
finish p w = finish_by p (slice_get p.workers w)

-- ---- the machine

-- the history of the newest version, and what was pinned, in the order of the events; nothing for an unpinned one
pub record Machine : Type 0 where
  pub history : History
  pub pins : List (Option PinnedScan)

-- before the first event
abbrev pub started : History → Machine
started h = record { history = h; pins = [] }

-- a scan is pinned to the newest version
abbrev pub pinned : ℕ → Option PinnedScan → Reply
pinned k None = reply.Unpinned k
pinned k (Some p) = reply.Pinned k

abbrev pub pin : Machine → List (Part Predicate) → Reply × Machine
pin m filter =
    let found = pinned_on m.history filter in
    (pinned (length m.pins) found, record { history = m.history; pins = m.pins ++ found ∷ [] })

-- a commit is made on the newest version alone
abbrev pub receipt_of : Step → Receipt
receipt_of s = record {
  number = length (after s.base s.commit).journal;
  snapshot = s.commit.ids.snapshot;
  sequence =
      unwrap_or (option_map (λ state. state.metadata.table.last_sequence_number) (state_of (after s.base s.commit))) 0;
}

abbrev pub committed : Machine → Commit → Result Step PrepareFault → Reply × Machine
committed m c (Ok s) = (reply.Committed (receipt_of s), record { history = after m.history c; pins = m.pins })
committed m c (Err fault) = (reply.NotPrepared fault, m)

abbrev pub commit : Machine → ℕ → Commit → Reply × Machine
commit m base c = cond (base == length m.history.journal) (committed m c (prepared_on m.history c))
    (reply.Conflict (length m.history.journal), m)

-- a step of a scan, where there is one
abbrev pub in_scan : (PinnedScan → Reply × PinnedScan) → Option PinnedScan → Reply × Option PinnedScan
in_scan f None = (reply.NoSuch, None)
in_scan f (Some p) = ((f p).0, Some (f p).1)

-- a step of the pin k, where it was made
abbrev pub at_pin : Machine → ℕ → (PinnedScan → Reply × PinnedScan) → Option (Option PinnedScan) → Reply × Machine
at_pin m k f None = (reply.NoSuch, m)
at_pin m k f (Some scan) =
    ((in_scan f scan).0, record { history = m.history; pins = slice_set m.pins k (in_scan f scan).1 })

-- finishing leaves the pin as it is
abbrev pub finish_in : Option PinnedScan → ℕ → Reply
finish_in None w = reply.NoSuch
finish_in (Some p) w = finish p w

abbrev pub finish_at : Option (Option PinnedScan) → ℕ → Reply
finish_at None w = reply.NoSuch
finish_at (Some scan) w = finish_in scan w

-- one event: its reply, and the machine after it
abbrev pub event : Machine → Event → Reply × Machine
event m (on.Pin filter) = pin m filter
event m (on.Commit base change ids) = commit m base (record { change = change; ids = ids })
event m (on.Take k w i) = at_pin m k (λ p. take p w i) (slice_get m.pins k)
event m (on.Merge k into from) = at_pin m k (λ p. merge p into from) (slice_get m.pins k)
event m (on.Finish k w) = (finish_at (slice_get m.pins k) w, m)

-- the replies to events in order
abbrev pub replies_to : Machine → List Event → List Reply
replies_to m [] = []
replies_to m (e ∷ es) = (event m e).0 ∷ replies_to (event m e).1 es

-- the machine after them
abbrev pub machine_after : Machine → List Event → Machine
machine_after m [] = m
machine_after m (e ∷ es) = machine_after (event m e).1 es
