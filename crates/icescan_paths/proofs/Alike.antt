-- What a file is depends on which paths are known alone.
use Rattle.std.proofs.Common.{◌≡◌, ◌||◌, ℕ, List, [], ◌∷◌, ◌++◌, Some, None, ap, if◌then◌else◌, refl, ◌∙◌}
use Rattle.std.specs.Prelude.{nat_le}
use Rattle.icescan_paths.specs.Paths.{has}
use Rattle.icescan_paths.specs.Spelling.{plain}
use Rattle.icescan_paths.specs.Strays.{kind_of, stray_where, strays_beside}
use Rattle.icescan_paths.specs.declared.aged.AgedFile.{AgedFile}
use Rattle.icescan_paths.specs.declared.aged.Stray.{Stray}
use Rattle.icescan_paths.specs.declared.aged.StrayKind.TheVariants as kind

module _ (paths others plains plains' : List (List ℕ)) (same : (path : List ℕ) → has paths path ≡ has others path)
    (alike : (path : List ℕ) → has plains path ≡ has plains' path) (older : ℕ) where
  kind_same : (file : AgedFile) → kind_of paths plains older file ≡ kind_of others plains' older file
  kind_same file =
      ap (λ known. if known then None
      else if has plains (plain file.path) || nat_le file.age_ms older then Some kind.Doubtful
      else Some kind.Orphan) (same file.path)
      ∙ ap (λ spelled. if has others file.path then None
      else if spelled || nat_le file.age_ms older then Some kind.Doubtful
      else Some kind.Orphan) (alike (plain file.path))

  pub beside_same : (files : List AgedFile)
      → strays_beside paths plains older files ≡ strays_beside others plains' older files
  beside_same [] = refl
  beside_same (file ∷ files) =
      ap (λ found. stray_where found file.path ++ strays_beside paths plains older files) (kind_same file)
      ∙ ap (λ (rest : List Stray). stray_where (kind_of others plains' older file) file.path ++ rest)
      (beside_same files)
