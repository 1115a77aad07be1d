-- What a run does with the files that stores below folders have.
use Rattle.std.specs.Prelude.{◌≡◌, ℕ, List, Option, IfErr, IfSome, OnErr, OnOk, Result, Ok, Err}
use Rattle.ice_state.specs.Contents.{World}
use Rattle.icescan_files.specs.Bundles.{File}
use Rattle.icescan_commits.specs.Commits.{Commitment, IsLeft, Made, MayEndCommit, commitment}
use Rattle.icescan_commits.specs.GivenCommits.{CommitsOfGiven}
use Rattle.icescan_text.specs.declared.fault.RunFault.{RunFault}
use Rattle.icescan_text.specs.declared.request.CommitRequest.{CommitRequest}
use Rattle.icescan_words.specs.declared.command.Source.TheVariants as source
use Rattle.icescan_words.specs.declared.command.Command.{Command}
use Rattle.icescan_words.specs.declared.command.Command.TheVariants as command
use Rattle.icescan_commands.specs.Reading.{GivingBelow, given_at}
use Rattle.icescan_commands.specs.Sources.{Below, MayFailBelow, world_at}

-- the files that the store below each folder has, by the prefix that it stands for, where they are reported
abbrev pub Stored : Type 0
Stored = List ℕ → List ℕ → Option (List File)

-- whether putting a file below a folder, with a prefix, may fail
abbrev pub MayFailToPut : Type 1
MayFailToPut = List ℕ → List ℕ → Type 0

-- A commit to a table in a folder that reports these files: it was made, or its fault is theirs, or a read, a put or a
-- write failed that may fail; then the store has what it had, or what a refused commit leaves.
pub record Commits (world : World) (read_may_fail : List ℕ → Type 0) (request : CommitRequest)
    (put_may_fail write_may_fail : Type 0) (result : Result Unit RunFault) (files files' : Option (List File))
    (output output' : Option (List ℕ)) : Type 0 where
  pub made : OnOk result ((c : Commitment) × (commitment world request ≡ Ok c)
      × Made c request files files' output output')
  pub refused : IfErr result (MayEndCommit (commitment world request) read_may_fail request.out files files'
      put_may_fail write_may_fail)
  pub unchanged : (fault : RunFault) → commitment world request ≡ Err fault → files' ≡ files
  pub left : (c : Commitment) → commitment world request ≡ Ok c → OnErr result (IsLeft c request.out files files')

-- What a command does with stores, where the files that it reads are reported: a commit to a table in a folder puts its
-- files below it; no other command puts a file.
abbrev pub IsStored : Command → Below → MayFailBelow → Stored → MayFailToPut → Type 0 → Result Unit RunFault → Stored
    → Option (List File) → Option (List ℕ) → Option (List ℕ) → Type 0
IsStored (command.Commit (source.Folder place) request) below may_fail stored put_may_fail write_may_fail result stored'
    files' output output' = IfSome (world_at below place) (λ world. Commits world
    (may_fail place.folder place.prefix) request (put_may_fail place.folder place.prefix) write_may_fail result
    (stored place.folder place.prefix) files' output output')
IsStored (command.Commit source.Bundle request) below may_fail stored put_may_fail write_may_fail result stored'
    files' output output' = stored' ≡ stored
IsStored _ below may_fail stored put_may_fail write_may_fail result stored' files' output output' = stored' ≡ stored

-- the same of words that were read, or refused
abbrev pub IsStoredBy : Result Command RunFault → Below → MayFailBelow → Stored → MayFailToPut → Type 0
    → Result Unit RunFault → Stored → Option (List File) → Option (List ℕ) → Option (List ℕ) → Type 0
IsStoredBy (Ok asked) below may_fail stored put_may_fail write_may_fail result stored' files' output output' =
    IsStored asked below may_fail stored put_may_fail write_may_fail result stored' files' output output'
IsStoredBy (Err fault) below may_fail stored put_may_fail write_may_fail result stored' files' output output' =
    stored' ≡ stored

-- What a commit to a table in a folder does with the files of its store, by what reads below the folder gave: also
-- where files change from one read to the next.
abbrev pub IsStoredOfGiven : Command → GivingBelow → Stored → Result Unit RunFault → Option (List File)
    → Option (List ℕ) → Option (List ℕ) → Type 0
IsStoredOfGiven (command.Commit (source.Folder place) request) below stored result files' output output' =
    CommitsOfGiven (given_at below place) request result (stored place.folder place.prefix) files' output output'
IsStoredOfGiven _ below stored result files' output output' = Unit {0}

-- the same of words that were read
abbrev pub IsStoredOfGivenBy : Result Command RunFault → GivingBelow → Stored → Result Unit RunFault
    → Option (List File) → Option (List ℕ) → Option (List ℕ) → Type 0
IsStoredOfGivenBy (Ok asked) below stored result files' output output' =
    IsStoredOfGiven asked below stored result files' output output'
IsStoredOfGivenBy (Err fault) below stored result files' output output' = Unit {0}
