-- Versions: an opening, and the journal of the commits since.
use Rattle.std.specs.Prelude.{◌≡◌, ℕ, ◌-◌, ℤ, List, [], ◌∷◌, ◌++◌, length, take, Result, Ok, Err, Option, Some, None}
use Rattle.std.specs.Option.{option_map}
use Rattle.std.specs.Result.{result_ok}
use Rattle.contract_words.specs.Outcome.{◌>>=◌}
use Rattle.ice_meta.specs.declared.fault.MetaFault.{MetaFault}
use Rattle.ice_meta.specs.declared.fault.MetaFault.TheVariants.{NoSnapshot}
use Rattle.ice_meta.specs.declared.metadata.Target.TheVariants.{Main}
use Rattle.ice_meta.specs.Targets.{Described, metadata_of, resolved}
use Rattle.ice_catalog_changes.specs.declared.change.Commit.{Commit}
use Rattle.ice_catalog_changes.specs.declared.fault.PrepareFault.{PrepareFault}
use Rattle.ice_catalog_changes.specs.declared.fault.PrepareFault.TheVariants.{Memory}
use Rattle.ice_catalog_changes.specs.NewFiles.{Added}
use Rattle.ice_catalog_versions.specs.declared.opening.Opening.{Opening}
use Rattle.ice_catalog_versions.specs.declared.receipt.Receipt.{Receipt}
use Rattle.ice_catalog_versions.specs.declared.world.World.{World}
use Rattle.ice_catalog_versions.specs.Adding.{added}
use Rattle.ice_catalog_versions.specs.Applying.{apply}
use Rattle.ice_catalog_versions.specs.States.{State}

-- what was handed to `open`, and the commits since, the oldest first
pub record History : Type 0 where
  pub opening : Opening
  pub journal : List Commit

-- ---- the opening

-- A table need not have a current snapshot, but one that it names has to be there, with its list.
abbrev pub settled : Result ℤ MetaFault → Described → Result Described MetaFault
settled (Ok id) m = Ok m
settled (Err NoSnapshot) m = Ok m
settled (Err fault) m = Err fault

-- the metadata on which a version can be opened, or the first fault
abbrev pub openable : List ℕ → Result Described MetaFault
openable bytes = metadata_of bytes >>= λ m. settled (resolved Main m.table) m

-- a history with no commits, or why a version can't be opened
abbrev pub opened : Opening → Result History MetaFault
opened o = openable o.bytes >>= λ _. Ok (record { opening = o; journal = [] })

abbrev pub start : Opening → Option State
start o = option_map (λ m. record { metadata = m; world = o.world }) (result_ok (openable o.bytes))

-- ---- the journal

abbrev pub step : Option State → Commit → Option State
step None c = None
step (Some s) c = result_ok (apply s c)

abbrev pub replay : Option State → List Commit → Option State
replay s [] = s
replay s (c ∷ cs) = replay (step s c) cs

-- what a history leaves; nothing where one of its commits is refused
unfoldable pub state_of : History → Option State
state_of h = replay (start h.opening) h.journal

-- it leaves this metadata and these files
abbrev pub Leaves : History → Described → World → Type 0
Leaves h m w = state_of h ≡ Some (record { metadata = m; world = w })

-- one more commit would leave these
abbrev pub StepsTo : History → Commit → Described → World → Type 0
StepsTo h c m w = step (state_of h) c ≡ Some (record { metadata = m; world = w })

-- one more commit
abbrev pub after : History → Commit → History
after h c = record { opening = h.opening; journal = h.journal ++ c ∷ [] }

-- all commits but the last
abbrev pub before : History → History
before h = record { opening = h.opening; journal = take (length h.journal - 1) h.journal }

-- ---- one commit

-- a commit that is prepared on a base
pub record Step : Type 0 where
  pub base : History
  pub commit : Commit

-- The commit is prepared on a history that leaves this state, or is refused there. No version has a history that leaves
-- nothing.
abbrev pub prepared_from : Option State → History → Commit → Result Step PrepareFault
prepared_from None h c = Err Memory
prepared_from (Some s) h c = apply s c >>= λ _. Ok (record { base = h; commit = c })

abbrev pub prepared_on : History → Commit → Result Step PrepareFault
prepared_on h c = prepared_from (state_of h) h c

-- the files that it adds
abbrev pub added_on : History → Commit → Option Added
added_on h c = option_map (λ s. added s c) (state_of h)

-- a history of which the commit is the last, and the files that it adds
abbrev pub EndsWith : History → Commit → Added → Type 0
EndsWith h c files = (h ≡ after (before h) c) × (added_on (before h) c ≡ Some files)

-- the last sequence number that a history leaves
abbrev pub sequence_of : History → Option ℕ
sequence_of h = option_map (λ s. s.metadata.table.last_sequence_number) (state_of h)

-- its number, its snapshot and its sequence number
pub record IsReceiptOf (r : Receipt) (p : Step) : Type 0 where
  pub number : r.number ≡ length (after p.base p.commit).journal
  pub snapshot : r.snapshot ≡ p.commit.ids.snapshot
  pub sequence : sequence_of (after p.base p.commit) ≡ Some r.sequence
