-- What a commit does on a disk: its files are placed, and then its metadata.
use Rattle.std.proofs.Common.{◌≡◌, ℕ, List, [], ◌∷◌, ◌++◌, Option, refl, subst}
use Rattle.ice_catalog_changes.specs.NewFiles.{Added}
use Rattle.icescan_commits.specs.Commits.{Commitment, IsBeaten, IsCommitPlaced, IsTextOf, StopsCommit, in_order}
use Rattle.icescan_files.specs.Disks.{ArePlaced, Event, Extends, IsPlacedAt, Names, NotPlacedAt, StopsPlacing}
use Rattle.icescan_files.specs.declared.store.StoreFault.{StoreFault}
use Rattle.icescan_files.specs.declared.store.StoreFault.TheVariants as store
use Rattle.icescan_files.proofs.Placed.{extends_as, extends_then, not_placed_at_as, placed_at_as, placed_last}
use Rattle.icescan_files.proofs.Placed.{stops_before, stops_next}

module _ (names : Names) (c : Commitment) (out bytes : List ℕ) (files : Added) (same : files ≡ c.added)
    (text : IsTextOf c.metadata bytes) (a b : Option (List Event)) where
  -- a file before the metadata is not placed
  pub file_stops : (fault : StoreFault) → Extends a b (StopsPlacing names files fault)
      → Extends a b (StopsCommit names c out fault)
  file_stops fault h =
      extends_as a b (StopsPlacing names files fault) (StopsCommit names c out fault) h (λ m p. (
        bytes,
        text,
        stops_before names c.added ((out, bytes) ∷ []) fault m (subst (λ l. StopsPlacing names l fault m) same p),
      ))

  module _ (names' : Names) (is : (path name aside : List ℕ) → names' path name aside → names path name aside)
      (d : Option (List Event)) (placed : Extends a b (ArePlaced names files)) where
    -- all files, and then the metadata
    pub commit_placed : Extends b d (IsPlacedAt names' out bytes) → Extends a d (IsCommitPlaced names c out)
    commit_placed h =
        extends_then a b d (ArePlaced names files) (IsPlacedAt names' out bytes) (IsCommitPlaced names c out) placed h
        (λ m n p q. (
          bytes,
          text,
          placed_last names c.added (out, bytes) m n (subst (λ l. ArePlaced names l m) same p)
              (placed_at_as names names' is out bytes n q),
        ))

    -- the metadata is not placed
    pub metadata_stops : (fault : StoreFault) → Extends b d (NotPlacedAt names' out bytes fault)
        → Extends a d (StopsCommit names c out fault)
    metadata_stops fault h =
        extends_then a b d (ArePlaced names files) (NotPlacedAt names' out bytes fault) (StopsCommit names c out fault)
        placed h (λ m n p q. (
          bytes,
          text,
          stops_next names c.added (out, bytes) [] fault m n (subst (λ l. ArePlaced names l m) same p)
              (not_placed_at_as names names' is out bytes fault n q),
        ))

    pub beaten : Extends b d (NotPlacedAt names' out bytes store.There) → Extends a d (IsBeaten names c out)
    beaten h =
        extends_then a b d (ArePlaced names files) (NotPlacedAt names' out bytes store.There) (IsBeaten names c out)
        placed h (λ m n p q. (
          bytes,
          text,
          m,
          n,
          subst (λ l. ArePlaced names l m) same p,
          not_placed_at_as names names' is out bytes store.There n q,
          refl,
        ))
