-- What filling in comes to.
use Rattle.std.specs.Prelude.{◌≡◌, ◌≢◌, ℕ, List}
use Rattle.serde_json.specs.Data.{Data}
use Rattle.serde_json.specs.Find.{get}
use Rattle.ice_meta_json.specs.Upgraded.{snapshots, sequence_number, numbered, filled, IsFilled}

-- then no snapshot leaves out its number
abbrev pub FillsAll : Type 0
FillsAll = (d : Data) → IsFilled (filled d)

-- twice is once
abbrev pub FillsOnce : Type 0
FillsOnce = (d : Data) → filled (filled d) ≡ filled d

-- a document whose snapshots all have their number stays as it is
abbrev pub KeepsFilled : Type 0
KeepsFilled = (d : Data) → IsFilled d → filled d ≡ d

-- each other member of the document stays
abbrev pub KeepsOtherMembers : Type 0
KeepsOtherMembers = (d : Data) (name : List ℕ) → name ≢ snapshots → get name (filled d) ≡ get name d

-- and each other member of a snapshot
abbrev pub KeepsOfSnapshots : Type 0
KeepsOfSnapshots = (d : Data) (name : List ℕ) → name ≢ sequence_number → get name (numbered d) ≡ get name d
