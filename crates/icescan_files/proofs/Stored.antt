-- Files that were put in a store.
use Rattle.std.proofs.Common.{◌≡◌, ◌+◌, ℕ, zero, suc, List, [], ◌∷◌, ◌++◌, length, map, take}
use Rattle.std.proofs.Common.{Option, Some, None, sym, ap, subst, ◌∙◌, arith, append_assoc}
use Rattle.std.specs.Prelude.{slice_get}
use Rattle.std.proofs.Math.Seq.{take-length, take-suc}
use Rattle.std.proofs.lemmas.List.{append-nil, map-append}
use Rattle.std.proofs.lemmas.Option.{get_or_from_slice_get, slice_get_within}
use Rattle.ice_catalog_changes.specs.NewFiles.{Added}
use Rattle.icescan_files.specs.Bundles.{File, bytes_at}
use Rattle.icescan_files.specs.Stores.{MayLack, Puts, PutsAll, PutsFront, WereFree, each_free}
use Rattle.icescan_files.specs.Stores.{file_of}
use Rattle.icescan_files.specs.declared.store.StoreFault.TheVariants as store

-- all files are a front
pub all_front : (old new : Option (List File)) (added : Added) → PutsAll old new added → PutsFront old new added
all_front old new added puts =
    record { count = length added; within = omega arith; puts = rw (take-length added) puts }

free_last : (files : List File) (added : Added) (f : List ℕ × List ℕ) → each_free files added
    → bytes_at (files ++ map file_of added) f.0 ≡ None → each_free files (added ++ f ∷ [])
free_last files [] f free lacks = (ap (λ fs. bytes_at fs f.0) (sym (append-nil files)) ∙ lacks, tt)
free_last files (g ∷ added) f free lacks =
    let regrouped = ap (λ fs. bytes_at fs f.0) (append_assoc files (file_of g ∷ []) (map file_of added)) in
    (free.0, free_last (files ++ file_of g ∷ []) added f free.1 (regrouped ∙ lacks))

-- Where each path was free and the next is, each of both was.
pub free_next : (old mid : Option (List File)) (added : Added) (f : List ℕ × List ℕ) → PutsAll old mid added
    → WereFree old added → MayLack mid f.0 → WereFree old (added ++ f ∷ [])
free_next None mid added f puts free lacks = tt
free_next (Some files) mid added f puts free lacks = free_last files added f free (rw puts at lacks)

-- Where these were put and the next was, both were.
pub puts_next : (old mid new : Option (List File)) (added : Added) (f : List ℕ × List ℕ) → PutsAll old mid added
    → Puts mid new f.0 f.1 → PutsAll old new (added ++ f ∷ [])
puts_next None mid new added f puts next = tt
puts_next (Some files) mid new added f puts next =
    let after : new ≡ Some ((files ++ map file_of added) ++ file_of f ∷ []) = rw puts at next in
    let grouped : (files ++ map file_of added) ++ file_of f ∷ [] ≡ files ++ map file_of (added ++ f ∷ []) =
    append_assoc files (map file_of added) (file_of f ∷ [])
    ∙ ap (λ l. files ++ l) (sym (map-append file_of added (f ∷ []))) in
    after ∙ ap Some grouped

-- the front of a list and its next element
pub take_next : (added : Added) (n : ℕ) (f : List ℕ × List ℕ) → slice_get added n ≡ Some f
    → take (n + 1) added ≡ take n added ++ f ∷ []
take_next added n f at =
    let one : n + 1 ≡ suc n = omega arith in
    ap (λ m. take m added) one
    ∙ take-suc added n f (slice_get_within added n f at)
    ∙ ap (λ x. take n added ++ x ∷ []) (get_or_from_slice_get added n f f at)

-- the turn of each file found none at its path
pub free_at : (files : List File) (added : Added) (n : ℕ) (f : List ℕ × List ℕ) → each_free files added
    → slice_get added n ≡ Some f → bytes_at (files ++ map file_of (take n added)) f.0 ≡ None
free_at files [] n f free at = absurd cc
free_at files (g ∷ added) zero f free at =
    let same : g ≡ f = cc in
    let first : bytes_at files f.0 ≡ None = subst (λ h. bytes_at files h.0 ≡ None) same free.0 in
    ap (λ fs. bytes_at fs f.0) (append-nil files) ∙ first
free_at files (g ∷ added) (suc n) f free at =
    let regrouped = ap (λ fs. bytes_at fs f.0) (append_assoc files (file_of g ∷ []) (map file_of (take n added))) in
    sym regrouped ∙ free_at (files ++ file_of g ∷ []) added n f free.1 at
