-- Where new files are put: what a store has, where it tells its files, and what is put there.
use Rattle.std.specs.Prelude.{◌≡◌, true, ℕ, ◌≤◌, List, [], ◌∷◌, ◌++◌, length, map, take, slice_get, Option, Some, None}
use Rattle.std.specs.Prelude.{is_some}
use Rattle.ice_catalog_changes.specs.NewFiles.{Added}
use Rattle.icescan_files.specs.Bundles.{File, bytes_at}
use Rattle.icescan_files.specs.declared.store.StoreFault.{StoreFault}
use Rattle.icescan_files.specs.declared.store.StoreFault.TheVariants as store

-- a file stands at the path
abbrev pub MayHave : Option (List File) → List ℕ → Type 0
MayHave None path = Unit {0}
MayHave (Some files) path = is_some (bytes_at files path) ≡ true

-- none stands there
abbrev pub MayLack : Option (List File) → List ℕ → Type 0
MayLack None path = Unit {0}
MayLack (Some files) path = bytes_at files path ≡ None

-- a file follows those that were there
abbrev pub Puts : Option (List File) → Option (List File) → List ℕ → List ℕ → Type 0
Puts None new path bytes = Unit {0}
Puts (Some old) new path bytes = new ≡ Some (old ++ record { path = path; bytes = bytes } ∷ [])

abbrev pub file_of : List ℕ × List ℕ → File
file_of f = record { path = f.0; bytes = f.1 }

-- these files, in their order, follow those that were there
abbrev pub PutsAll : Option (List File) → Option (List File) → Added → Type 0
PutsAll None new added = Unit {0}
PutsAll (Some old) new added = new ≡ Some (old ++ map file_of added)

-- when the turn of each of these files came, none stood at its path
abbrev pub each_free : List File → Added → Type 0
each_free files [] = Unit {0}
each_free files (f ∷ added) = (bytes_at files f.0 ≡ None) × each_free (files ++ file_of f ∷ []) added

abbrev pub WereFree : Option (List File) → Added → Type 0
WereFree None added = Unit {0}
WereFree (Some files) added = each_free files added

-- a front of them does
pub record PutsFront (old new : Option (List File)) (added : Added) : Type 0 where
  pub count : ℕ
  pub within : count ≤ length added
  pub puts : PutsAll old new (take count added)

-- why a file is not put: another stands at its path, the store may fail, or memory ran out
abbrev pub MayRefuse : Option (List File) → Type 0 → List ℕ → StoreFault → Type 0
MayRefuse files may_fail path store.There = MayHave files path
MayRefuse files may_fail path store.Failed = may_fail
MayRefuse files may_fail path store.Memory = Unit {0}

-- Files were put up to one that was refused.
pub record StopsAt (old new : Option (List File)) (may_fail : Type 0) (added : Added)
    (fault : StoreFault) : Type 0 where
  pub count : ℕ
  pub file : List ℕ × List ℕ
  pub next : slice_get added count ≡ Some file
  pub puts : PutsAll old new (take count added)
  pub cause : MayRefuse new may_fail file.0 fault
