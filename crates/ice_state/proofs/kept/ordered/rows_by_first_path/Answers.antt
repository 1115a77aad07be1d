use Rattle.std.proofs.Common.{◌≡◌, length, map, subst, sym, List, ℕ}
use Rattle.std.specs.List.{range_with_len}
use Rattle.std.specs.List.Sorted.{IsPermutation}
use Rattle.std.proofs.lemmas.Result.{IfOk-weaker}
use Rattle.ice_state.specs.Placed.{place_of}
use Rattle.ice_state.proofs.kept.ordered.rows_by_first_path.Goals as goal

pub returns : goal.returns
returns c =
    let sorted = c.sort_by_path.new.placed.items in
    let all = subst (λ (ps : List ℕ). IsPermutation ps (map place_of sorted)) c.in_ok-placed.ensures
    c.in_ok-sort_by_path.ensures.same in
    let Rows : List ℕ → Type 0 = IsPermutation (range_with_len 0 (length c.args.slots.now)) in
    IfOk-weaker c.places_of.result (λ places. places ≡ map place_of c.deref.result.now) Rows
    (λ places is. subst Rows (sym is) (rw c.deref.ensures.value all)) c.places_of.ensures
