-- What a prepared commit puts in a store.
use Rattle.std.proofs.Common.{◌≡◌, ◌≢◌, false, ℕ, List}
use Rattle.std.proofs.Common.{Option, Some, inl, inr, refl, sym, ap, subst, ◌∙◌}
use Rattle.std.specs.Prelude.{option_map, Ok}
use Rattle.ice_catalog_changes.specs.NewFiles.{Added}
use Rattle.ice_catalog_versions.specs.Histories.{History, Step, added_on, after, state_of}
use Rattle.ice_catalog_versions.specs.States.{State}
use Rattle.ice_meta.specs.Targets.{Described, metadata_of}
use Rattle.serde_json.specs.Written.{compact_text, has_float}
use Rattle.icescan_files.specs.Bundles.{File}
use Rattle.icescan_commits.specs.Commits.{Commitment, IsTextOf, MayNotPut, Writes}
use Rattle.icescan_files.specs.Stores.{MayHave, StopsAt, WereFree, each_free}
use Rattle.icescan_files.proofs.Stored.{free_at}
use Rattle.icescan_files.specs.declared.store.StoreFault.TheVariants as store
use Rattle.icescan_text.specs.declared.fault.RunFault.{RunFault}
use Rattle.icescan_text.specs.declared.fault.RunFault.TheVariants as run

-- the files that a prepared commit adds are those of what it writes
pub added_is : (p : Step) (c : Commitment) (files : Added) → Writes p c → added_on p.base p.commit ≡ Some files
    → files ≡ c.added
added_is p c files writes is = let same : Some files ≡ Some c.added = sym is ∙ writes.added in cc

-- the table after a prepared commit is that of what it writes
pub table_is : (p : Step) (c : Commitment) (v : History) (m : Described) → Writes p c → v ≡ after p.base p.commit
    → option_map (λ (s : State). s.metadata) (state_of v) ≡ Some m → m.table ≡ c.metadata.table
table_is p c v m writes is said =
    let same : Some m ≡ Some c.metadata = sym (rw is at said) ∙ writes.metadata in
    let metadata : m ≡ c.metadata = cc in
    ap (λ (d : Described). d.table) metadata

-- the text of the metadata after a prepared commit is that of what it writes
pub text_is : (p : Step) (c : Commitment) (v : History) (m : Described) (bytes : List ℕ) → Writes p c
    → v ≡ after p.base p.commit
    → option_map (λ (s : State). s.metadata) (state_of v) ≡ Some m → metadata_of bytes ≡ Ok m
    → (has_float m.json ≡ false → bytes ≡ compact_text m.json) → IsTextOf c.metadata bytes
text_is p c v m bytes writes is said reads compact =
    let same : Some m ≡ Some c.metadata = sym (rw is at said) ∙ writes.metadata in
    let metadata : m ≡ c.metadata = cc in
    subst (λ d. IsTextOf d bytes) metadata (record { reads = reads; compact = compact })

not_blocked : (c : Commitment) (old : List File) (new : Option (List File)) → each_free old c.added
    → StopsAt (Some old) new ⊥ c.added store.There → ⊥
not_blocked c old new free b =
    let none = free_at old c.added b.count b.file free b.next in
    let stands : MayHave new b.file.0 = b.cause in
    let there = rw b.puts at stands in
    let both = rw none at there in
    absurd cc

-- Where no path that is added is taken, a store that can't fail refuses the metadata alone, whose path is.
pub told_as_taken : (c : Commitment) (out : List ℕ) (old : List File) (new : Option (List File)) (fault : RunFault)
    → WereFree (Some old) c.added → MayNotPut c out (Some old) new ⊥ fault → fault ≢ run.Memory
    → (fault ≡ run.Conflict out) × MayHave new out
told_as_taken c out old new run.Write free (inl h) other = absurd h
told_as_taken c out old new run.Write free (inr blocked) other = absurd (not_blocked c old new free blocked)
told_as_taken c out old new (run.Conflict path) free taken other = (ap run.Conflict taken.place, taken.there)
told_as_taken c out old new run.Memory free h other = absurd (other refl)
told_as_taken c out old new run.Input free h other = absurd h
told_as_taken c out old new (run.Words t) free h other = absurd h
told_as_taken c out old new (run.Bundle n) free h other = absurd h
told_as_taken c out old new (run.Absent path) free h other = absurd h
told_as_taken c out old new (run.Device path) free h other = absurd h
told_as_taken c out old new (run.List m) free h other = absurd h
told_as_taken c out old new (run.Scan m) free h other = absurd h
told_as_taken c out old new (run.Finish m) free h other = absurd h
told_as_taken c out old new (run.Filter m) free h other = absurd h
told_as_taken c out old new (run.Metadata m) free h other = absurd h
told_as_taken c out old new (run.Change m) free h other = absurd h
told_as_taken c out old new (run.Prepare m) free h other = absurd h
told_as_taken c out old new (run.Drill m) free h other = absurd h
told_as_taken c out old new (run.Locate m) free h other = absurd h
told_as_taken c out old new (run.State path flaw) free h other = absurd h
told_as_taken c out old new (run.Lineage m) free h other = absurd h
told_as_taken c out old new run.Workers free h other = absurd h
