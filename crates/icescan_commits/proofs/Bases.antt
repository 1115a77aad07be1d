-- The files of the table that a commit is made on.
use Rattle.std.proofs.Common.{◌≡◌, ℕ, List, cond, Option, Some, None, refl, ap, ◌∙◌}
use Rattle.std.specs.Prelude.{Result, Ok, Err}
use Rattle.std.specs.Cmp.{eq_by_cmp_equiv}
use Rattle.std.specs.Cmp.Lexicographic.{slice_cmp, nat_list_cmp_total}
use Rattle.std.specs.FinMap.{empty, get, get-empty, get-insert}
use Rattle.std.specs.Ordering.{nat_cmp}
use Rattle.ice_meta.specs.declared.fault.MetaFault.{MetaFault}
use Rattle.ice_state.specs.Contents.{World}
use Rattle.icescan_commits.specs.Commits.{base_files, keep_all, keep_found, manifests_in}

-- a table without a list
pub no_list : (world : World) (read : Result (List ℕ) MetaFault) (e : MetaFault) → read ≡ Err e
    → base_files world read ≡ empty
unfolding base_files
no_list world read e h = rw h refl

-- a table with one
pub with_list : (world : World) (read : Result (List ℕ) MetaFault) (list : List ℕ) → read ≡ Ok list
    → base_files world read ≡ keep_all world (manifests_in (world list)) (keep_found list (world list) empty)
unfolding base_files
with_list world read list h = rw h refl

-- what was kept of a file is what was found of it
pub kept_is_found : (path : List ℕ) (found : Option (List ℕ)) → get (keep_found path found empty) path ≡ found
kept_is_found path None = get-empty (slice_cmp nat_cmp) path
kept_is_found path (Some bytes) =
    get-insert nat_list_cmp_total empty path bytes path
    ∙ ap (λ same. cond same (Some bytes) (get (empty {R = slice_cmp nat_cmp}) path))
    ((eq_by_cmp_equiv nat_list_cmp_total).refl path)
