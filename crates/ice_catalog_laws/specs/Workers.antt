-- What the workers of pinned scans have: states into which manifests are read.
use Rattle.std.specs.Prelude.{◌≡◌, ℕ, Bool, true, false, List, [], ◌∷◌, ◌++◌, length, map, replicate, Some, None}
use Rattle.std.specs.Prelude.{slice_get, slice_set}
use Rattle.ice_catalog.specs.Machines.{Machine, PinnedScan, world_of}
use Rattle.ice_catalog.specs.declared.event.Reply.{Reply}
use Rattle.ice_catalog.specs.declared.event.Reply.TheVariants as reply
use Rattle.ice_manifest_reading.specs.declared.row.Row.{Row}
use Rattle.ice_state.specs.Contents.{Content, HasBytes, content}
use Rattle.ice_state.specs.Scans.{Scanned}

-- the state of each worker of a scan: what the manifests that it took give, of the scanned version's files
abbrev pub states_of : PinnedScan → List Content
states_of p = map (content (world_of p.history) p.scan) p.workers

-- the state in which no manifest is taken
abbrev pub nothing_taken : Scanned → Content
nothing_taken scan = replicate (length scan.wanted) None

-- the pin k is this scan, and its worker w has this state
pub record HasState (m : Machine) (k w : ℕ) (p : PinnedScan) (c : Content) : Type 0 where
  pub pinned : slice_get m.pins k ≡ Some (Some p)
  pub state : slice_get (states_of p) w ≡ Some c

-- the scanned version has the manifest of the wanted row i, with these bytes
abbrev pub HasManifest : PinnedScan → ℕ → List ℕ → Type 0
HasManifest p i bytes = HasBytes (world_of p.history) p.scan i bytes

-- there is such a worker, and the manifest of such a wanted row
abbrev pub CanTake : Machine → ℕ → ℕ → ℕ → Type 0
CanTake m k w i = (p : PinnedScan) × (c : Content) × (bytes : List ℕ) × HasState m k w p c × HasManifest p i bytes

-- there is such a worker, and such a wanted row, but its manifest is not there
pub record Lacks (m : Machine) (k w i : ℕ) (path : List ℕ) : Type 0 where
  pub scan : PinnedScan
  pub state : Content
  pub row : Row
  pub worker : HasState m k w scan state
  pub wanted : slice_get scan.scan.wanted i ≡ Some row
  pub at : row.path ≡ path
  pub absent : world_of scan.history path ≡ None

-- there are two such workers
abbrev pub CanMerge : Machine → ℕ → ℕ → ℕ → Type 0
CanMerge m k into from =
    (p : PinnedScan) × (c : Content) × (d : Content) × HasState m k into p c × HasState m k from p d

-- From one machine to the other one thing changed: the worker w of the pin k, which is this scan, has this state.
pub record IsPut (m n : Machine) (k w : ℕ) (p : PinnedScan) (c : Content) : Type 0 where
  pub now : PinnedScan
  pub newest : n.history ≡ m.history
  pub pins : n.pins ≡ slice_set m.pins k (Some now)
  pub version : now.history ≡ p.history
  pub scan : now.scan ≡ p.scan
  pub states : states_of now ≡ slice_set (states_of p) w c

-- From one machine to the other one thing changed: there is one pin more, a scan of the newest version, and none of its
-- 64 workers took anything.
pub record Begins (m n : Machine) (scan : Scanned) : Type 0 where
  pub now : PinnedScan
  pub newest : n.history ≡ m.history
  pub pins : n.pins ≡ m.pins ++ Some now ∷ []
  pub version : now.history ≡ m.history
  pub reads : now.scan ≡ scan
  pub states : states_of now ≡ replicate 64 (nothing_taken scan)

-- the reply says that the machine is another one than before
abbrev pub tells_a_change : Reply → Bool
tells_a_change (reply.Pinned k) = true
tells_a_change (reply.Unpinned k) = true
tells_a_change (reply.Conflict number) = false
tells_a_change (reply.NotPrepared fault) = false
tells_a_change (reply.Committed receipt) = true
tells_a_change reply.Taken = true
tells_a_change (reply.Absent path) = false
tells_a_change reply.Merged = true
tells_a_change (reply.Planned plan) = false
tells_a_change (reply.Unfinished fault) = false
tells_a_change reply.NoSuch = false
