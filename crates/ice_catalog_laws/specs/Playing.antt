-- How workers of a scan do in the machine what states have done elsewhere: by events one after the other.
use Rattle.std.specs.Prelude.{◌≡◌, ◌⊎◌, ℕ, ◌+◌, ◌%◌, ◌<◌, ◌≤◌, true, Bool, false, List, [], ◌∷◌, ◌++◌, length}
use Rattle.std.specs.Prelude.{map, Some, slice_get, slice_set}
use Rattle.std.specs.List.{AllByRecursion}
use Rattle.ice_catalog.specs.Machines.{Machine, PinnedScan, machine_after, replies_to}
use Rattle.ice_catalog.specs.declared.event.Event.{Event}
use Rattle.ice_catalog.specs.declared.event.Event.TheVariants as on
use Rattle.ice_catalog.specs.declared.event.Reply.{Reply}
use Rattle.ice_catalog.specs.declared.event.Reply.TheVariants as reply
use Rattle.ice_desk.specs.Seats.{limit_of}
use Rattle.ice_desk.specs.Tickets.{times}
use Rattle.ice_desk.specs.declared.desk.Desk.{Desk}
use Rattle.ice_state.specs.Contents.{Content, no_row}
use Rattle.ice_state.specs.Runs.{Run, empty, take, merge, takes as has_row}
use Rattle.ice_state.specs.Scans.{Scanned}
use Rattle.ice_catalog_laws.specs.Workers.{IsPut, nothing_taken, states_of}

-- ---- one worker

-- the worker w of the pin k takes these wanted rows in turn
abbrev pub takes : ℕ → ℕ → List ℕ → List Event
takes k w rows = map (λ i. on.Take k w i) rows

-- the row is that of one of these tickets of the desk
abbrev pub IsOfTicket : Desk → List ℕ → ℕ → Type 0
IsOfTicket desk tickets i = (t : ℕ) × (0 < times t tickets) × (t < limit_of desk) × (t % desk.manifests ≡ i)

-- The worker w of the pin k can take some rows in turn, each of which is so. Each take is replied `Taken`, and in the
-- end its state is this one, and nothing else is changed.
pub record ComesByTakes (m : Machine) (k w : ℕ) (p : PinnedScan) (so : ℕ → Type 0) (c : Content) : Type 0 where
  pub rows : List ℕ
  pub each : AllByRecursion so rows
  pub taken : AllByRecursion (λ r. r ≡ reply.Taken) (replies_to m (takes k w rows))
  pub put : IsPut m (machine_after m (takes k w rows)) k w p c

-- ---- trees

-- on how many states a tree of takes and merges is
abbrev pub states : Run → ℕ
states empty = 1
states (take run i bytes) = states run
states (merge run other) = states run + states other

-- The tree as events: its state is that of the worker w of the pin k, and the states that are merged into it are those
-- of the workers behind.
abbrev pub events_of : ℕ → ℕ → Run → List Event
events_of k w empty = []
events_of k w (take run i bytes) = events_of k w run ++ on.Take k w i ∷ []
events_of k w (merge run other) =
    events_of k w run ++ (events_of k (w + states run) other ++ on.Merge k w (w + states run) ∷ [])

-- what the step asks for is done
abbrev pub is_done : Reply → Bool
is_done reply.Taken = true
is_done reply.Merged = true
is_done (reply.Pinned k) = false
is_done (reply.Unpinned k) = false
is_done (reply.Conflict number) = false
is_done (reply.NotPrepared fault) = false
is_done (reply.Committed receipt) = false
is_done (reply.Absent path) = false
is_done (reply.Planned plan) = false
is_done (reply.Unfinished fault) = false
is_done reply.NoSuch = false

-- n workers of a scan, from w on, took nothing
abbrev pub AreFresh : PinnedScan → ℕ → ℕ → Type 0
AreFresh p w n = (v : ℕ) → w ≤ v → v < w + n → slice_get (states_of p) v ≡ Some (nothing_taken p.scan)

-- From one machine to the other the states of n workers of the pin k, which is this scan, were changed, from the worker
-- w on, and nothing else; the state of w is this one.
pub record IsPlayed (m after : Machine) (k w n : ℕ) (p : PinnedScan) (c : Content) : Type 0 where
  pub now : PinnedScan
  pub newest : after.history ≡ m.history
  pub pins : after.pins ≡ slice_set m.pins k (Some now)
  pub version : now.history ≡ p.history
  pub scan : now.scan ≡ p.scan
  pub state : slice_get (states_of now) w ≡ Some c
  pub others : (v : ℕ) → (v < w) ⊎ (w + n ≤ v) → slice_get (states_of now) v ≡ slice_get (states_of p) v

-- n workers of a scan, from w on, have the set of no row
abbrev pub HaveNoRow : PinnedScan → ℕ → ℕ → Type 0
HaveNoRow p w n = (v : ℕ) → w ≤ v → v < w + n → slice_get p.workers v ≡ Some (no_row p.scan)

-- the tree takes every wanted row
abbrev pub TakesEvery : Scanned → Run → Type 0
TakesEvery scan run = (i : ℕ) → i < length scan.wanted → has_row run i ≡ true
