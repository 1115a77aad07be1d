-- Records with their paths.
use Rattle.std.proofs.Common.{◌≡◌, ℕ, zero, suc, ◌<◌, List, [], ◌∷◌, ◌++◌, length, slice_index_or, refl, sym}
use Rattle.std.proofs.Common.{ap, ◌∙◌, arith, length-append}
use Rattle.std.specs.List.{AllByRecursion}
use Rattle.std.proofs.Math.ListN.{get_or-append}
use Rattle.std.proofs.lemmas.List.{length-map, get_or-map}
use Rattle.path_arena.specs.Arena.{string, Distinct}
use Rattle.ice_state_entries.specs.declared.table.Clash.{Clash}
use Rattle.ice_state_entries.specs.Own.{Own, Row}
use Rattle.ice_state_entries.specs.Tables.{with_paths, with_their_paths, IsKnown, IsTable, no_row, Rows}
use Rattle.ice_state_entries.specs.Tables.{HasOwnPaths, HasKnownPaths}
use Rattle.ice_state_entries.proofs.Lists.{all_at, all_push, all_weaker, map_same}

pub length-with_paths : (ps : List (List ℕ)) (rs : List Own) → length ps ≡ length rs →
    length (with_paths ps rs) ≡ length rs
length-with_paths [] [] many = refl
length-with_paths [] (r ∷ rs) many = absurd (omega arith)
length-with_paths (p ∷ ps) [] many = absurd (omega arith)
length-with_paths (p ∷ ps) (r ∷ rs) many = ap suc (length-with_paths ps rs (omega arith))

pub with_paths-at : (ps : List (List ℕ)) (rs : List Own) (n : ℕ) (d : Own) → length ps ≡ length rs →
    n < length rs → slice_index_or (with_paths ps rs) n no_row ≡ (string ps n, slice_index_or rs n d)
with_paths-at [] [] n d many lt = absurd (omega arith)
with_paths-at [] (r ∷ rs) n d many lt = absurd (omega arith)
with_paths-at (p ∷ ps) [] n d many lt = absurd (omega arith)
with_paths-at (p ∷ ps) (r ∷ rs) zero d many lt = refl
with_paths-at (p ∷ ps) (r ∷ rs) (suc n) d many lt = with_paths-at ps rs n d (omega arith) (omega arith)

pub with_paths-push : (ps : List (List ℕ)) (rs : List Own) (p : List ℕ) (r : Own) → length ps ≡ length rs →
    with_paths (ps ++ p ∷ []) (rs ++ r ∷ []) ≡ with_paths ps rs ++ (p, r) ∷ []
with_paths-push [] [] p r many = refl
with_paths-push [] (s ∷ rs) p r many = absurd (omega arith)
with_paths-push (q ∷ ps) [] p r many = absurd (omega arith)
with_paths-push (q ∷ ps) (s ∷ rs) p r many = ap (λ rows. (q, s) ∷ rows) (with_paths-push ps rs p r (omega arith))

-- a new path is that of no further record
pub with_their_paths-new : (ps : List (List ℕ)) (p : List ℕ) (cs : List Clash) →
    AllByRecursion (IsKnown ps) cs → with_their_paths (ps ++ p ∷ []) cs ≡ with_their_paths ps cs
with_their_paths-new ps p cs known =
    let row : List (List ℕ) → Clash → Row = λ ss c. (string ss c.path, c.own) in
    map_same (row (ps ++ p ∷ [])) (row ps) (IsKnown ps) (λ c lt i. (get_or-append ps (p ∷ []) [] c.path lt i, c.own))
    cs known

pub is_table-new : (ps : List (List ℕ)) (rs : List Own) (cs : List Clash) (p : List ℕ) (r : Own) →
    IsTable ps rs cs → IsTable (ps ++ p ∷ []) (rs ++ r ∷ []) cs
is_table-new ps rs cs p r t = record {
  as_many = omega (arith, t.as_many, length-append ps (p ∷ []), length-append rs (r ∷ []));
  known =
      let more = length-append ps (p ∷ []) in
      all_weaker (IsKnown ps) (IsKnown (ps ++ p ∷ [])) (λ c lt. omega (arith, lt, more)) cs t.known;
}

pub is_table-known : (ps : List (List ℕ)) (rs : List Own) (cs : List Clash) (c : Clash) → IsTable ps rs cs →
    c.path < length ps → IsTable ps rs (cs ++ c ∷ [])
is_table-known ps rs cs c t lt = record {
  as_many = t.as_many;
  known = all_push (IsKnown ps) cs c t.known lt;
}

-- the rows of a table
abbrev rows_of : List (List ℕ) → List Own → List Clash → Rows
rows_of ps rs cs = record { records = with_paths ps rs; clashes = with_their_paths ps cs }

pub own_paths : (ps : List (List ℕ)) (rs : List Own) (cs : List Clash) → length ps ≡ length rs → Distinct ps →
    HasOwnPaths (rows_of ps rs cs)
own_paths ps rs cs many distinct m n lt within same =
    let count = length-with_paths ps rs many in
    let first = with_paths-at ps rs m no_row.1 many (omega (arith, lt, within, count)) in
    let later = with_paths-at ps rs n no_row.1 many (omega (arith, within, count)) in
    distinct m n lt (omega (arith, within, count, many))
    (sym (ap (λ (row : Row). row.0) first) ∙ same ∙ ap (λ (row : Row). row.0) later)

pub known_paths : (ps : List (List ℕ)) (rs : List Own) (cs : List Clash) → IsTable ps rs cs →
    HasKnownPaths (rows_of ps rs cs)
known_paths ps rs cs t n within =
    let row : Clash → Row = λ c. (string ps c.path, c.own) in
    let none : Clash = record { path = 0; own = no_row.1 } in
    let clash = slice_index_or cs n none in
    let here : n < length cs = omega (arith, within, length-map cs row) in
    let lt : clash.path < length ps = all_at (IsKnown ps) cs n none t.known here in
    let at = with_paths-at ps rs clash.path no_row.1 t.as_many (omega (arith, lt, t.as_many)) in (
      clash.path,
      omega (arith, lt, t.as_many, length-with_paths ps rs t.as_many),
      ap (λ (r : Row). r.0) at ∙ sym (ap (λ (r : Row). r.0) (get_or-map row cs n none no_row here)),
    )
