-- Which lines stay apart depends on which paths are there alone.
use Rattle.std.proofs.Common.{◌≡◌, ℕ, List, [], ◌∷◌, ◌++◌, ap, refl, ◌∙◌}
use Rattle.icescan_parts.specs.Alone.{path_of, without_paths}
use Rattle.icescan_parts.specs.Gone.{unless}
use Rattle.icescan_paths.specs.Paths.{has}

pub without_same : (paths others : List (List ℕ)) → ((path : List ℕ) → has paths path ≡ has others path)
    → (lines : List (List ℕ)) → without_paths paths lines ≡ without_paths others lines
without_same paths others same [] = refl
without_same paths others same (line ∷ lines) =
    ap (λ found. unless found line ++ without_paths paths lines) (same (path_of line))
    ∙ ap (λ rest. unless (has others (path_of line)) line ++ rest) (without_same paths others same lines)
