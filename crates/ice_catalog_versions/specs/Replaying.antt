-- What replaying a journal comes to.
use Rattle.std.specs.Prelude.{◌≡◌, true, List, ◌++◌, Option}
use Rattle.std.specs.Option.{is_some}
use Rattle.ice_catalog_changes.specs.declared.change.Commit.{Commit}
use Rattle.ice_catalog_versions.specs.Histories.{History, step, replay, state_of, after, before}
use Rattle.ice_catalog_versions.specs.States.{State}

-- one more commit is one more step
abbrev pub AddsAStep : Type 0
AddsAStep = (h : History) (c : Commit) → state_of (after h c) ≡ step (state_of h) c

-- what leaves a state after a commit left one before it
abbrev pub HasEarlier : Type 0
HasEarlier = (h : History) (c : Commit) → is_some (state_of (after h c)) ≡ true → is_some (state_of h) ≡ true

-- a journal may be replayed in two parts
abbrev pub IsInParts : Type 0
IsInParts = (s : Option State) (cs ds : List Commit) → replay s (cs ++ ds) ≡ replay (replay s cs) ds

-- what was committed last can be taken off again
abbrev pub IsTakenOff : Type 0
IsTakenOff = (h : History) (c : Commit) → before (after h c) ≡ h
