-- The machine's history and replies after a front of the events.
use Rattle.std.proofs.Common.{◌≡◌, ℕ, true, false, List, [], ◌∷◌, ◌++◌, length, refl}
use Rattle.std.specs.Prelude.{◌==◌, cond, Option, Some, None, Result, Ok, Err, slice_get}
use Rattle.ice_catalog_changes.specs.declared.change.Commit.{Commit}
use Rattle.ice_catalog.specs.declared.event.Event.{Event}
use Rattle.ice_catalog.specs.declared.event.Event.TheVariants as on
use Rattle.ice_catalog.specs.declared.event.Reply.{Reply}
use Rattle.ice_catalog.specs.declared.event.Reply.TheVariants as reply
use Rattle.ice_catalog_changes.specs.declared.fault.PrepareFault.{PrepareFault}
use Rattle.ice_catalog_versions.specs.Histories.{Step, after, prepared_on}
use Rattle.ice_catalog_versions.specs.Live.{IsGrown}
use Rattle.ice_catalog.specs.Machines.{Machine, PinnedScan, at_pin, commit, committed, event, machine_after, merge}
use Rattle.ice_catalog.specs.Machines.{replies_to, take}
use Rattle.ice_catalog_versions.proofs.Grown.{grown_before}

-- ---- the machine's history, which only commits make longer

before_committed : (m : Machine) (c : Commit) (r : Result Step PrepareFault) → IsGrown (committed m c r).1.history
    → IsGrown m.history
before_committed m c (Ok s) all = grown_before m.history c all
before_committed m c (Err f) all = all

before_commit : (m : Machine) (base : ℕ) (c : Commit) → IsGrown (commit m base c).1.history → IsGrown m.history
before_commit m base c = elim (base == length m.history.journal) as
    (λ b. IsGrown (cond b (committed m c (prepared_on m.history c)) (
      reply.Conflict (length m.history.journal),
      m,
    )).1.history → IsGrown m.history) [
      | true ↦ before_committed m c (prepared_on m.history c)
      | false ↦ λ all. all
    ]

before_step : (m : Machine) (k : ℕ) (f : PinnedScan → Reply × PinnedScan) (o : Option (Option PinnedScan))
    → IsGrown (at_pin m k f o).1.history → IsGrown m.history
before_step m k f None all = all
before_step m k f (Some s) all = all

before_event : (m : Machine) (e : Event) → IsGrown (event m e).1.history → IsGrown m.history
before_event m (on.Pin filter) all = all
before_event m (on.Commit base change ids) all = before_commit m base (record { change = change; ids = ids }) all
before_event m (on.Take k w i) all = before_step m k (λ p. take p w i) (slice_get m.pins k) all
before_event m (on.Merge k into from) all = before_step m k (λ p. merge p into from) (slice_get m.pins k) all
before_event m (on.Finish k w) all = all

before_events : (m : Machine) (es : List Event) → IsGrown (machine_after m es).history → IsGrown m.history
before_events m [] all = all
before_events m (e ∷ es) all = before_event m e (before_events (event m e).1 es all)

-- so it is after each front of the events, where it is after all
pub grown_midway : (m : Machine) (front rest : List Event) → IsGrown (machine_after m (front ++ rest)).history
    → IsGrown (machine_after m front).history
grown_midway m [] rest all = before_events m rest all
grown_midway m (e ∷ front) rest all = grown_midway (event m e).1 front rest all

-- ---- the replies

pub machine_midway : (m : Machine) (front rest : List Event)
    → machine_after m (front ++ rest) ≡ machine_after (machine_after m front) rest
machine_midway m [] rest = refl
machine_midway m (e ∷ front) rest = machine_midway (event m e).1 front rest

pub reply_at : (m : Machine) (front rest : List Event) (e : Event)
    → slice_get (replies_to m (front ++ e ∷ rest)) (length front) ≡ Some (event (machine_after m front) e).0
reply_at m [] rest e = refl
reply_at m (x ∷ front) rest e = reply_at (event m x).1 front rest e
