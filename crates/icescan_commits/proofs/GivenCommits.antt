-- Commits of bytes that reads gave.
use Rattle.std.proofs.Common.{◌≡◌, ℕ, List, Option, sym, subst}
use Rattle.std.specs.Prelude.{Result, Ok, Err}
use Rattle.std.specs.FinMap.{empty}
use Rattle.ice_catalog_changes.specs.declared.change.Commit.{Commit}
use Rattle.ice_catalog_versions.specs.declared.opening.Opening.{Opening}
use Rattle.ice_catalog_versions.specs.declared.world.World.{World as Kept}
use Rattle.ice_catalog_versions.specs.Histories.{History, Step, openable, opened, prepared_on}
use Rattle.ice_desk.specs.Given.{Giving}
use Rattle.ice_meta.specs.declared.fault.MetaFault.{MetaFault}
use Rattle.ice_meta.specs.declared.metadata.Target.TheVariants.{Main}
use Rattle.ice_meta.specs.Targets.{Described, list_of}
use Rattle.icescan_commits.specs.Commits.{Commitment, Writes, keep_found, manifests_in}
use Rattle.icescan_commits.specs.GivenCommits.{IsBaseGiven, IsCommitOfGiven, WereKept}
use Rattle.icescan_commits.proofs.Commits.{made_by, version_is}

-- the files of a base, by what was read and kept of them
pub base_given : (gives : Giving) (read : Result (List ℕ) MetaFault) (list : List ℕ) → read ≡ Ok list
    → (first kept : Kept) (found : Option (List ℕ)) → gives list found → first ≡ keep_found list found empty
    → WereKept gives (manifests_in found) first kept → IsBaseGiven gives read kept
base_given gives read list is first kept found given one rest =
    subst (λ r. IsBaseGiven gives r kept) (sym is)
    (found, given, subst (λ k. WereKept gives (manifests_in found) k kept) one rest)

pub no_base_given : (gives : Giving) (read : Result (List ℕ) MetaFault) (e : MetaFault) → read ≡ Err e → (kept : Kept)
    → kept ≡ empty → IsBaseGiven gives read kept
no_base_given gives read e is kept none = subst (λ r. IsBaseGiven gives r kept) (sym is) none

-- a commit that was prepared on a version which was just opened
pub committed_given : (gives : Giving) (bytes : List ℕ) (commit : Commit) (m : Described) → openable bytes ≡ Ok m
    → (kept : Kept) → IsBaseGiven gives (list_of Main m.table) kept → (v : History)
    → opened (record { bytes = bytes; world = kept }) ≡ Ok v → (p : Step) → prepared_on v commit ≡ Ok p
    → (x : Commitment) × IsCommitOfGiven gives bytes commit x × Writes p x
committed_given gives bytes commit m is kept base v opens p h =
    let o : Opening = record { bytes = bytes; world = kept } in
    let made = made_by o m is commit p (rw (version_is o m is commit v opens) at h) in (
      made.0,
      record { metadata = m; opens = is; kept = kept; base = base; is = made.1 },
      made.2,
    )
