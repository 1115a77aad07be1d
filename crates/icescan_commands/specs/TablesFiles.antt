-- The files of a table: those of a bundle, or those below a folder.
use Rattle.std.specs.Prelude.{◌≡◌, ℕ, List, Option, Some}
use Rattle.ice_state.specs.Contents.{World}
use Rattle.icescan_commands.specs.declared.table_files.TableFiles.{TableFiles}
use Rattle.icescan_commands.specs.declared.table_files.TableFiles.TheVariants as table
use Rattle.icescan_files.specs.Bundles.{bytes_at}

-- a bundle has its bytes at each path; a folder's files have what they report
abbrev pub world_of : {F : Type 0} → (F → Option World) → TableFiles F → Option World
world_of below (table.Bundle files) = Some (λ path. bytes_at files path)
world_of below (table.Folder files) = below files

-- a read gives what a bundle has, or what a folder's files give
abbrev pub gives_of : {F : Type 0} → (F → List ℕ → Option (List ℕ) → Type 0) → TableFiles F → List ℕ
    → Option (List ℕ) → Type 0
gives_of below (table.Bundle files) path found = bytes_at files path ≡ found
gives_of below (table.Folder files) path found = below files path found

-- a bundle is read without a fault
abbrev pub may_fail_of : {F : Type 0} → (F → List ℕ → Type 0) → TableFiles F → List ℕ → Type 0
may_fail_of below (table.Bundle files) path = ⊥
may_fail_of below (table.Folder files) path = below files path
