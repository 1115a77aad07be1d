-- The delete files among entries of which no two share a path, in the order of their paths.
use Rattle.std.proofs.Common.{◌≡◌, ◌≤◌, Bool, true, false, not, ◌&&◌, List, [], refl, subst, arith, length, filter}
use Rattle.std.specs.List.Sorted.{IsPermutation, ties}
use Rattle.std.specs.Str.{bytes_eq}
use Rattle.contract_words.proofs.Sorted.{Rises, sorted_rises}
use Rattle.ice_manifest_reading.specs.declared.entry.Entry.{Entry}
use Rattle.ice_deletes.proofs.Lists.{filter-filter}
use Rattle.ice_state.specs.Outcomes.{by_path, path_before, twice}
use Rattle.ice_state.specs.Parts.{holds_deletes}
use Rattle.ice_state.proofs.Filters.{and_true}
use Rattle.ice_state.proofs.Sharing.{none_shared, one_path, order}
use Rattle.ice_state.proofs.SortedAlike.{fewer, filter_alike, sorted_moves, sorted_twice}

pub by_path_moves : (xs : List Entry) → IsPermutation xs (by_path xs)
by_path_moves xs = sorted_moves path_before order xs

pub by_path_twice : (xs : List Entry) → by_path (by_path xs) ≡ by_path xs
by_path_twice xs = sorted_twice path_before order xs

pub not_true : (b : Bool) → not b ≡ true → b ≡ false
not_true true h = cc
not_true false h = refl

pub tied_path : (w x : Entry) → ties path_before w x ≡ true → bytes_eq x.file.path w.file.path ≡ true
tied_path w x h =
    let both = and_true (not (path_before w x)) (not (path_before x w)) h in
    one_path x.file.path w.file.path (not_true (path_before x w) both.1) (not_true (path_before w x) both.0)

module _ (all : List Entry) (sorted : by_path all ≡ all) (once : twice all ≡ []) where
  few_tied : (p : Entry → Bool) (w : Entry) → length (filter (ties path_before w) (filter p all)) ≤ 1
  few_tied p w =
      let rises = subst (λ (xs : List Entry). Rises path_before order xs) sorted (sorted_rises path_before order all) in
      let most = none_shared all w.file.path rises once in
      let less = fewer (λ (x : Entry). p x && ties path_before w x) (λ x. bytes_eq x.file.path w.file.path)
      (λ x h. tied_path w x (and_true (p x) (ties path_before w x) h).1) all in
      rw (filter-filter p (ties path_before w) all) (omega arith)

  pub deletes_in_order : (ys : List Entry) → IsPermutation (filter holds_deletes all) ys
      → by_path ys ≡ filter holds_deletes all
  deletes_in_order ys same = filter_alike path_before order holds_deletes all ys sorted same (few_tied holds_deletes)
