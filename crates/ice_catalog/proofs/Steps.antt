-- The steps of a pinned scan, where what they look for is there.
use Rattle.std.proofs.Common.{◌≡◌, ℕ, zero, suc, Bool, List, [], ◌∷◌, ◌∙◌, ap, Option, Some, None}
use Rattle.std.specs.Prelude.{option_map, slice_get}
use Rattle.std.specs.FinMap.{get}
use Rattle.ice_manifest_reading.specs.declared.row.Row.{Row}
use Rattle.ice_state.specs.Contents.{World, HasBytesAt, add, content}
use Rattle.ice_state.specs.Joins.{either}
use Rattle.ice_state.specs.Outcomes.{outcome}
use Rattle.ice_catalog_versions.specs.Histories.{History, state_of}
use Rattle.ice_catalog.specs.Machines.{PinnedScan, finish, finish_by, finished, merge, merge_by, take, take_by}
use Rattle.ice_catalog.specs.Machines.{took_row, with_worker, world_in, world_of}
use Rattle.ice_catalog_versions.specs.States.{State}
use Rattle.ice_catalog.specs.declared.event.Reply.TheVariants as reply
use Rattle.ice_catalog_versions.specs.declared.world.World as files

same_world : (state : Option State) (w : files.World) → option_map (λ s. s.world) state ≡ Some w → (path : List ℕ)
    → world_in state path ≡ get w path
same_world None w is = cc
same_world (Some s) w is = λ path. let one : s.world ≡ w = cc in ap (λ v. get v path) one

-- the files of a version
pub world_is : (h : History) (w : files.World) → option_map (λ s. s.world) (state_of h) ≡ Some w → (path : List ℕ)
    → world_of h path ≡ get w path
world_is h w is path = same_world (state_of h) w is path

pub has_bytes : (world : World) (rows : List Row) (i : ℕ) (row : Row) (bytes : List ℕ) → slice_get rows i ≡ Some row
    → world row.path ≡ Some bytes → HasBytesAt world rows i bytes
has_bytes world [] i row bytes at is = cc
has_bytes world (r ∷ rows) zero row bytes at is = let one : r ≡ row = cc in ap (λ (q : Row). world q.path) one ∙ is
has_bytes world (r ∷ rows) (suc i) row bytes at is = has_bytes world rows i row bytes at is

pub takes : (p : PinnedScan) (w i : ℕ) (set : List Bool) (row : Row) (bytes : List ℕ) → slice_get p.workers w ≡ Some set
    → slice_get p.scan.wanted i ≡ Some row → world_of p.history row.path ≡ Some bytes →
    take p w i ≡ (reply.Taken, with_worker p w (add set i))
takes p w i set row bytes worker at has =
    ap (λ o. take_by p w i o (slice_get p.scan.wanted i)) worker ∙ (ap (take_by p w i (Some set)) at ∙ ap
    (took_row p w i set row) has)

pub merges : (p : PinnedScan) (into from : ℕ) (set other : List Bool) → slice_get p.workers into ≡ Some set
    → slice_get p.workers from ≡ Some other →
    merge p into from ≡ (reply.Merged, with_worker p into (either set other))
merges p into from set other is also = ap (λ o. merge_by p into o (slice_get p.workers from)) is ∙ ap
    (merge_by p into (Some set)) also

pub finishes : (p : PinnedScan) (w : ℕ) (set : List Bool) → slice_get p.workers w ≡ Some set
    → finish p w ≡ finished (outcome p.scan (content (world_of p.history) p.scan set))
finishes p w set is = ap (finish_by p) is
