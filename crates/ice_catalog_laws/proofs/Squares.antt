-- What events do to the states of workers.
use Rattle.std.proofs.Common.{◌≡◌, ℕ, zero, suc, Bool, true, false, List, [], ◌∷◌, ◌++◌, length, map, replicate, refl}
use Rattle.std.proofs.Common.{sym, ◌∙◌, ap, subst, Option, Some, None}
use Rattle.std.specs.Prelude.{◌==◌, cond, ◌↔◌, option_map, slice_get, slice_set, Result, Ok, Err}
use Rattle.std.proofs.lemmas.List.{map-set}
use Rattle.std.proofs.lemmas.Option.{slice_get-map}
use Rattle.ice_catalog.proofs.Steps.{finishes, merges, takes}
use Rattle.ice_catalog.specs.Machines.{Machine, PinnedScan, at_pin, begun, commit, committed, event, finish_at}
use Rattle.ice_catalog.specs.Machines.{finished, merge, merge_by, pinned, pinned_on, scan_of, take, take_by, took_row}
use Rattle.ice_catalog.specs.Machines.{with_worker, world_of}
use Rattle.ice_catalog.specs.declared.event.Event.{Event}
use Rattle.ice_catalog.specs.declared.event.Event.TheVariants as on
use Rattle.ice_catalog.specs.declared.event.Reply.{Reply}
use Rattle.ice_catalog.specs.declared.event.Reply.TheVariants as reply
use Rattle.ice_filter.specs.declared.predicate.Predicate.{Predicate}
use Rattle.ice_filter.specs.declared.parts.Part.{Part}
use Rattle.ice_manifest_reading.specs.declared.row.Row.{Row}
use Rattle.ice_state.proofs.Contents.{none-content, took-content}
use Rattle.ice_state.proofs.Joins.{join-content}
use Rattle.ice_state.specs.Contents.{Content, HasBytesAt, World, add, content, no_row, took}
use Rattle.ice_state.specs.Joins.{either, join}
use Rattle.ice_state.specs.Outcomes.{outcome}
use Rattle.ice_state.specs.Scans.{Scanned}
use Rattle.ice_catalog_versions.specs.Histories.{Step, prepared_on}
use Rattle.ice_catalog_changes.specs.declared.change.Commit.{Commit}
use Rattle.ice_catalog_changes.specs.declared.fault.PrepareFault.{PrepareFault}
use Rattle.ice_catalog_laws.specs.Workers.{Begins, CanMerge, CanTake, HasManifest, HasState, IsPut, Lacks}
use Rattle.ice_catalog_laws.specs.Workers.{states_of, tells_a_change}

-- ---- lists

pub set_same : {A : Type 0} (i : ℕ) (xs : List A) (x : A) → slice_get xs i ≡ Some x → slice_set xs i x ≡ xs
set_same zero [] x e = refl
set_same zero (y ∷ ys) x e = ap (λ z. z ∷ ys) cc
set_same (suc i) [] x e = refl
set_same (suc i) (y ∷ ys) x e = ap (λ zs. y ∷ zs) (set_same i ys x e)

map_replicate : {A B : Type 0} (f : A → B) (n : ℕ) (x : A) → map f (replicate n x) ≡ replicate n (f x)
map_replicate f zero x = refl
map_replicate f (suc n) x = ap (λ ys. f x ∷ ys) (map_replicate f n x)

-- ---- states and sets

module _ (p : PinnedScan) where
  abbrev of_set : List Bool → Content
  of_set = content (world_of p.history) p.scan

  found_set : (w : ℕ) (c : Content) (o : Option (List Bool)) → slice_get p.workers w ≡ o → option_map of_set o ≡ Some c
      → (set : List Bool) × (slice_get p.workers w ≡ Some set) × (of_set set ≡ c)
  found_set w c None at is = absurd cc
  found_set w c (Some set) at is = (set, at, cc)

  -- a worker that has a state has a set
  pub set_of_state : (w : ℕ) (c : Content) → slice_get (states_of p) w ≡ Some c
      → (set : List Bool) × (slice_get p.workers w ≡ Some set) × (of_set set ≡ c)
  set_of_state w c is =
      found_set w c (slice_get p.workers w) refl (sym (slice_get-map of_set p.workers w) ∙ is)

  pub state_of_set : (w : ℕ) (set : List Bool) → slice_get p.workers w ≡ Some set
      → slice_get (states_of p) w ≡ Some (of_set set)
  state_of_set w set is = slice_get-map of_set p.workers w ∙ ap (option_map of_set) is

-- the row of a manifest
pub row_of : (world : World) (rows : List Row) (i : ℕ) (bytes : List ℕ) → HasBytesAt world rows i bytes
    → (row : Row) × (slice_get rows i ≡ Some row) × (world row.path ≡ Some bytes)
row_of world [] i bytes has = absurd has
row_of world (row ∷ rows) zero bytes has = (row, refl, has)
row_of world (row ∷ rows) (suc i) bytes has = row_of world rows i bytes has

bytes_of : (world : World) (rows : List Row) (i : ℕ) (row : Row) (bytes : List ℕ) → slice_get rows i ≡ Some row
    → world row.path ≡ Some bytes → HasBytesAt world rows i bytes
bytes_of world [] i row bytes at is = absurd cc
bytes_of world (r ∷ rows) zero row bytes at is = let one : r ≡ row = cc in ap (λ (q : Row). world q.path) one ∙ is
bytes_of world (r ∷ rows) (suc i) row bytes at is = bytes_of world rows i row bytes at is

-- ---- a step of a scan that was pinned

abbrev pub with_pin : Machine → ℕ → Reply × PinnedScan → Reply × Machine
with_pin m k r = (r.0, record { history = m.history; pins = slice_set m.pins k (Some r.1) })

pub steps : (m : Machine) (k : ℕ) (p : PinnedScan) (f : PinnedScan → Reply × PinnedScan) (r : Reply × PinnedScan)
    → slice_get m.pins k ≡ Some (Some p) → f p ≡ r → at_pin m k f (slice_get m.pins k) ≡ with_pin m k r
steps m k p f r at is = ap (at_pin m k f) at ∙ ap (with_pin m k) is

puts : (m : Machine) (k w : ℕ) (p : PinnedScan) (set : List Bool) (c : Content) (r : Reply) (e : Reply × Machine)
    → e ≡ with_pin m k (r, with_worker p w set) → content (world_of p.history) p.scan set ≡ c → IsPut m e.1 k w p c
puts m k w p set c r e is same =
    let one : IsPut m (with_pin m k (r, with_worker p w set)).1 k w p c = record {
      now = with_worker p w set;
      newest = refl;
      pins = refl;
      version = refl;
      scan = refl;
      states = map-set (content (world_of p.history) p.scan) p.workers w set ∙ ap (slice_set (states_of p) w) same;
    } in subst (λ (x : Reply × Machine). IsPut m x.1 k w p c) (sym is) one

-- ---- takes

module _ (m : Machine) (k w i : ℕ) where
  takes_it : (p : PinnedScan) (c : Content) (bytes : List ℕ) → HasState m k w p c → HasManifest p i bytes
      → (set : List Bool) × (content (world_of p.history) p.scan set ≡ c)
      × (event m (on.Take k w i) ≡ with_pin m k (reply.Taken, with_worker p w (add set i)))
  takes_it p c bytes has there =
      let set = set_of_state p w c has.state in
      let row = row_of (world_of p.history) p.scan.wanted i bytes there in (
        set.0,
        set.2,
        steps m k p (λ q. take q w i) (reply.Taken, with_worker p w (add set.0 i)) has.pinned
            (takes p w i set.0 row.0 bytes set.1 row.1 row.2),
      )

  pub take_state : (p : PinnedScan) (c : Content) (bytes : List ℕ) → HasState m k w p c → HasManifest p i bytes
      → IsPut m (event m (on.Take k w i)).1 k w p (took p.scan c i bytes)
  take_state p c bytes has there =
      let it = takes_it p c bytes has there in
      let world = world_of p.history in
      puts m k w p (add it.0 i) (took p.scan c i bytes) reply.Taken (event m (on.Take k w i)) it.2
      (sym (took-content world p.scan it.0 p.scan.wanted i bytes there) ∙ ap (λ d. took p.scan d i bytes) it.1)

  taken_there : CanTake m k w i → (event m (on.Take k w i)).0 ≡ reply.Taken
  taken_there can = ap (λ (x : Reply × Machine). x.0) (takes_it can.0 can.1 can.2 can.3 can.4).2

  module _ (p : PinnedScan) (at : slice_get m.pins k ≡ Some (Some p)) (set : List Bool)
      (worker : slice_get p.workers w ≡ Some set) where
    has_state : HasState m k w p (content (world_of p.history) p.scan set)
    has_state = record { pinned = at; state = state_of_set p w set worker }

    can_row : (row : Row) (o : Option (List ℕ)) → slice_get p.scan.wanted i ≡ Some row → world_of p.history row.path ≡ o
        → (took_row p w i set row o).0 ≡ reply.Taken → CanTake m k w i
    can_row row None one is h = absurd cc
    can_row row (Some bytes) one is h = (
      p,
      content (world_of p.history) p.scan set,
      bytes,
      has_state,
      bytes_of (world_of p.history) p.scan.wanted i row bytes one is,
    )

    can_wanted : (o : Option Row) → slice_get p.scan.wanted i ≡ o → (take_by p w i (Some set) o).0 ≡ reply.Taken
        → CanTake m k w i
    can_wanted None one h = absurd cc
    can_wanted (Some row) one h = can_row row (world_of p.history row.path) one refl h

    lacks_row : (path : List ℕ) (row : Row) (o : Option (List ℕ)) → slice_get p.scan.wanted i ≡ Some row
        → world_of p.history row.path ≡ o → (took_row p w i set row o).0 ≡ reply.Absent path → Lacks m k w i path
    lacks_row path row (Some bytes) one is h = absurd cc
    lacks_row path row None one is h =
        let same : row.path ≡ path = cc in
        record {
          scan = p;
          state = content (world_of p.history) p.scan set;
          row = row;
          worker = has_state;
          wanted = one;
          at = same;
          absent = ap (world_of p.history) (sym same) ∙ is;
        }

    lacks_wanted : (path : List ℕ) (o : Option Row) → slice_get p.scan.wanted i ≡ o
        → (take_by p w i (Some set) o).0 ≡ reply.Absent path → Lacks m k w i path
    lacks_wanted path None one h = absurd cc
    lacks_wanted path (Some row) one h = lacks_row path row (world_of p.history row.path) one refl h

  can_set : (p : PinnedScan) (o : Option (List Bool)) → slice_get m.pins k ≡ Some (Some p) → slice_get p.workers w ≡ o
      → (take_by p w i o (slice_get p.scan.wanted i)).0 ≡ reply.Taken → CanTake m k w i
  can_set p None at worker h = absurd cc
  can_set p (Some set) at worker h = can_wanted p at set worker (slice_get p.scan.wanted i) refl h

  can_take : (o : Option (Option PinnedScan)) → slice_get m.pins k ≡ o
      → (at_pin m k (λ p. take p w i) o).0 ≡ reply.Taken → CanTake m k w i
  can_take None at h = absurd cc
  can_take (Some None) at h = absurd cc
  can_take (Some (Some p)) at h = can_set p (slice_get p.workers w) at refl h

  lacks_set : (path : List ℕ) (p : PinnedScan) (o : Option (List Bool)) → slice_get m.pins k ≡ Some (Some p)
      → slice_get p.workers w ≡ o → (take_by p w i o (slice_get p.scan.wanted i)).0 ≡ reply.Absent path
      → Lacks m k w i path
  lacks_set path p None at worker h = absurd cc
  lacks_set path p (Some set) at worker h = lacks_wanted p at set worker path (slice_get p.scan.wanted i) refl h

  lacks : (path : List ℕ) (o : Option (Option PinnedScan)) → slice_get m.pins k ≡ o
      → (at_pin m k (λ p. take p w i) o).0 ≡ reply.Absent path → Lacks m k w i path
  lacks path None at h = absurd cc
  lacks path (Some None) at h = absurd cc
  lacks path (Some (Some p)) at h = lacks_set path p (slice_get p.workers w) at refl h

  absent_there : (path : List ℕ) → Lacks m k w i path → (event m (on.Take k w i)).0 ≡ reply.Absent path
  absent_there path lack =
      let p = lack.scan in
      let set = set_of_state p w lack.state lack.worker.state in
      ap (λ o. (at_pin m k (λ q. take q w i) o).0) lack.worker.pinned
      ∙ (ap (λ o. (take_by p w i o (slice_get p.scan.wanted i)).0) set.1
      ∙ (ap (λ o. (take_by p w i (Some set.0) o).0) lack.wanted
      ∙ (ap (λ o. (took_row p w i set.0 lack.row o).0) (ap (world_of p.history) lack.at ∙ lack.absent)
      ∙ ap (λ path. reply.Absent path) lack.at)))

-- ---- merges

module _ (m : Machine) (k into from : ℕ) where
  merges_them : (p : PinnedScan) (c d : Content) → HasState m k into p c → HasState m k from p d
      → (set : List Bool) × (other : List Bool) × (content (world_of p.history) p.scan set ≡ c)
      × (content (world_of p.history) p.scan other ≡ d)
      × (event m (on.Merge k into from) ≡ with_pin m k (reply.Merged, with_worker p into (either set other)))
  merges_them p c d has also =
      let set = set_of_state p into c has.state in
      let other = set_of_state p from d also.state in (
        set.0,
        other.0,
        set.2,
        other.2,
        steps m k p (λ q. merge q into from) (reply.Merged, with_worker p into (either set.0 other.0)) has.pinned
            (merges p into from set.0 other.0 set.1 other.1),
      )

  pub merge_state : (p : PinnedScan) (c d : Content) → HasState m k into p c → HasState m k from p d
      → IsPut m (event m (on.Merge k into from)).1 k into p (join c d)
  merge_state p c d has also =
      let it = merges_them p c d has also in
      let world = world_of p.history in
      puts m k into p (either it.0 it.1) (join c d) reply.Merged (event m (on.Merge k into from)) it.4
      (sym (join-content world p.scan it.0 it.1 p.scan.wanted)
      ∙ (ap (λ x. join x (content world p.scan it.1)) it.2 ∙ ap (join c) it.3))

  merged_there : CanMerge m k into from → (event m (on.Merge k into from)).0 ≡ reply.Merged
  merged_there can = ap (λ (x : Reply × Machine). x.0)
      (merges_them can.0 can.1 can.2 can.3 can.4).4

  can_both : (p : PinnedScan) (o other : Option (List Bool)) → slice_get m.pins k ≡ Some (Some p)
      → slice_get p.workers into ≡ o → slice_get p.workers from ≡ other → (merge_by p into o other).0 ≡ reply.Merged
      → CanMerge m k into from
  can_both p None other at is also h = absurd cc
  can_both p (Some set) None at is also h = absurd cc
  can_both p (Some set) (Some other) at is also h = (
    p,
    content (world_of p.history) p.scan set,
    content (world_of p.history) p.scan other,
    record { pinned = at; state = state_of_set p into set is },
    record { pinned = at; state = state_of_set p from other also },
  )

  can_merge : (o : Option (Option PinnedScan)) → slice_get m.pins k ≡ o
      → (at_pin m k (λ p. merge p into from) o).0 ≡ reply.Merged → CanMerge m k into from
  can_merge None at h = absurd cc
  can_merge (Some None) at h = absurd cc
  can_merge (Some (Some p)) at h = can_both p (slice_get p.workers into) (slice_get p.workers from) at refl refl h

-- ---- finishing

pub finish_outcome : (m : Machine) (k w : ℕ) (p : PinnedScan) (c : Content) → HasState m k w p c
    → event m (on.Finish k w) ≡ (finished (outcome p.scan c), m)
finish_outcome m k w p c has =
    let set = set_of_state p w c has.state in
    ap (λ o. (finish_at o w, m)) has.pinned
    ∙ (ap (λ r. (r, m)) (finishes p w set.0 set.1) ∙ ap (λ d. (finished (outcome p.scan d), m)) set.2)

-- ---- pins

module _ (m : Machine) (filter : List (Part Predicate)) where
  abbrev pinned_as : Option Scanned → Reply × Machine
  pinned_as o = (
    pinned (length m.pins) (option_map (begun m.history) o),
    record { history = m.history; pins = m.pins ++ option_map (begun m.history) o ∷ [] },
  )

  pins_of : (o : Option Scanned) → scan_of m.history filter ≡ o → event m (on.Pin filter) ≡ pinned_as o
  pins_of o is = ap pinned_as is

  pub begins : (scan : Scanned) → scan_of m.history filter ≡ Some scan → Begins m (event m (on.Pin filter)).1 scan
  begins scan is =
      let world = world_of m.history in
      let one : Begins m (pinned_as (Some scan)).1 scan = record {
        now = begun m.history scan;
        newest = refl;
        pins = refl;
        version = refl;
        reads = refl;
        states = map_replicate (content world scan) 64 (no_row scan) ∙ ap (replicate 64)
            (sym (none-content world scan scan.wanted));
      } in subst (λ (x : Reply × Machine). Begins m x.1 scan) (sym (pins_of (Some scan) is)) one

  pinned_there : (k : ℕ) → (k ≡ length m.pins) × ((scan : Scanned) × (scan_of m.history filter ≡ Some scan))
      → (event m (on.Pin filter)).0 ≡ reply.Pinned k
  pinned_there k there = ap (λ (x : Reply × Machine). x.0) (pins_of (Some there.1.0) there.1.1) ∙ ap
      (λ n. reply.Pinned n) (sym there.0)

  pinned_by : (k : ℕ) (o : Option Scanned) → scan_of m.history filter ≡ o → (pinned_as o).0 ≡ reply.Pinned k
      → (k ≡ length m.pins) × ((scan : Scanned) × (scan_of m.history filter ≡ Some scan))
  pinned_by k None is h = absurd cc
  pinned_by k (Some scan) is h = (cc, (scan, is))

-- ---- what changes nothing

module _ (m : Machine) where
  abbrev Stays : Reply × Machine → Type 0
  Stays e = tells_a_change e.0 ≡ false → e.1 ≡ m

  same_pin : (k : ℕ) (s : Option PinnedScan) → slice_get m.pins k ≡ Some s
      → record { history = m.history; pins = slice_set m.pins k s } ≡ m
  same_pin k s at = ap (λ ps. record { history = m.history; pins = ps }) (set_same k m.pins s at)

  module _ (k : ℕ) (p : PinnedScan) (at : slice_get m.pins k ≡ Some (Some p)) where
    abbrev StaysBy : Reply × PinnedScan → Type 0
    StaysBy r = Stays (with_pin m k r)

    stays_row : (w i : ℕ) (set : List Bool) (row : Row) (o : Option (List ℕ)) → StaysBy (took_row p w i set row o)
    stays_row w i set row None h = same_pin k (Some p) at
    stays_row w i set row (Some bytes) h = absurd cc

    stays_take : (w i : ℕ) (o : Option (List Bool)) (row : Option Row) → StaysBy (take_by p w i o row)
    stays_take w i None row h = same_pin k (Some p) at
    stays_take w i (Some set) None h = same_pin k (Some p) at
    stays_take w i (Some set) (Some row) h = stays_row w i set row (world_of p.history row.path) h

    stays_merge : (into : ℕ) (o other : Option (List Bool)) → StaysBy (merge_by p into o other)
    stays_merge into None other h = same_pin k (Some p) at
    stays_merge into (Some set) None h = same_pin k (Some p) at
    stays_merge into (Some set) (Some other) h = absurd cc

  stays_at : (k : ℕ) (f : PinnedScan → Reply × PinnedScan) (o : Option (Option PinnedScan)) → slice_get m.pins k ≡ o
      → ((p : PinnedScan) → slice_get m.pins k ≡ Some (Some p) → Stays (with_pin m k (f p)))
      → Stays (at_pin m k f o)
  stays_at k f None at each h = refl
  stays_at k f (Some None) at each h = same_pin k None at
  stays_at k f (Some (Some p)) at each h = each p at h

  stays_pinned : (o : Option PinnedScan) → tells_a_change (pinned (length m.pins) o) ≡ false → (n : Machine) → n ≡ m
  stays_pinned None h = absurd cc
  stays_pinned (Some p) h = absurd cc

  stays_committed : (c : Commit) (r : Result Step PrepareFault) → Stays (committed m c r)
  stays_committed c (Ok s) h = absurd cc
  stays_committed c (Err fault) h = refl

  stays_commit : (base : ℕ) (c : Commit) → Stays (commit m base c)
  stays_commit base c = elim (base == length m.history.journal) as
      (λ b. Stays (cond b (committed m c (prepared_on m.history c)) (reply.Conflict (length m.history.journal), m))) [
        | true ↦ stays_committed c (prepared_on m.history c)
        | false ↦ λ h. refl
      ]

  pub stays : (e : Event) → Stays (event m e)
  stays (on.Pin filter) h = stays_pinned (pinned_on m.history filter) h (event m (on.Pin filter)).1
  stays (on.Commit base change ids) h = stays_commit base (record { change = change; ids = ids }) h
  stays (on.Take k w i) h = stays_at k (λ p. take p w i) (slice_get m.pins k) refl
      (λ p at. stays_take k p at w i (slice_get p.workers w) (slice_get p.scan.wanted i)) h
  stays (on.Merge k into from) h = stays_at k (λ p. merge p into from) (slice_get m.pins k) refl
      (λ p at. stays_merge k p at into (slice_get p.workers into) (slice_get p.workers from)) h
  stays (on.Finish k w) h = refl

-- ---- both ways

pub taken_where : (m : Machine) (k w i : ℕ) → ((event m (on.Take k w i)).0 ≡ reply.Taken ↔ CanTake m k w i)
taken_where m k w i = (can_take m k w i (slice_get m.pins k) refl, taken_there m k w i)

pub absent_where : (m : Machine) (k w i : ℕ) (path : List ℕ)
    → ((event m (on.Take k w i)).0 ≡ reply.Absent path ↔ Lacks m k w i path)
absent_where m k w i path = (lacks m k w i path (slice_get m.pins k) refl, absent_there m k w i path)

pub merged_where : (m : Machine) (k into from : ℕ)
    → ((event m (on.Merge k into from)).0 ≡ reply.Merged ↔ CanMerge m k into from)
merged_where m k into from = (can_merge m k into from (slice_get m.pins k) refl, merged_there m k into from)

pub pinned_where : (m : Machine) (filter : List (Part Predicate)) (k : ℕ)
    → ((event m (on.Pin filter)).0 ≡ reply.Pinned k
    ↔ ((k ≡ length m.pins) × ((scan : Scanned) × (scan_of m.history filter ≡ Some scan))))
pinned_where m filter k = (pinned_by m filter k (scan_of m.history filter) refl, pinned_there m filter k)
