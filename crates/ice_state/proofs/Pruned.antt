-- What is pruned applies to nothing that is kept.
use Rattle.std.proofs.Common.{◌≡◌, List, [], ◌∷◌, ◌++◌, refl, sym, ap, ◌∙◌, Bool, true, false, map, filter, cond, ◌&&◌}
use Rattle.std.proofs.Common.{subst, inl, inr}
use Rattle.std.specs.List.{flat_map, AllByRecursion}
use Rattle.std.specs.Cmp.{IsStrictWeakOrder}
use Rattle.std.specs.Ordering.{int_eq}
use Rattle.std.proofs.lemmas.Cmp.{nat_list_cmp_total}
use Rattle.std.proofs.lemmas.List.Sorted.{ranks_by}
use Rattle.std.proofs.lemmas.Bool.Decides.{Decides-int_eq}
use Rattle.contract_words.proofs.Sorted.{filter-sorted}
use Rattle.ice_meta.specs.declared.spec.Spec.{Spec}
use Rattle.ice_manifest_reading.specs.declared.entry.Entry.{Entry}
use Rattle.ice_manifest_reading.specs.declared.entry.Live.{Live}
use Rattle.ice_manifest_reading.specs.Manifests.{entries}
use Rattle.ice_value.specs.declared.file_content.FileContent.{FileContent}
use Rattle.ice_value.specs.declared.file_content.FileContent.TheVariants.{Data, PositionDeletes, EqualityDeletes}
use Rattle.ice_manifest_reading.specs.declared.row.Row.{Row}
use Rattle.ice_value.specs.Applying.{applies_as, same_partition}
use Rattle.ice_value.specs.Cells.{same_tuple}
use Rattle.ice_state.specs.Applying.{applies, data_key_of, delete_key_of}
use Rattle.ice_state.specs.Outcomes.{by_path, path_before, line_of, plan_over}
use Rattle.ice_state.specs.Contents.{World}
use Rattle.ice_state.specs.Pruning.{Pruner, holds, keeps, kept, SaysItsSpec, IsOpen}
use Rattle.ice_state.specs.Snapshots.{live, AreKeptWanted, kept_of_wanted}
use Rattle.ice_state.proofs.Filters.{or_true, and_true, all_unit, filter_rows, append_all, passes, filter_all}
use Rattle.ice_state.proofs.Filters.{all_sorted}
use Rattle.ice_state.proofs.OfSpecs.{live_says}
use Rattle.ice_value.specs.Equality.{tuple_decides}

-- whether the projection keeps the entry
abbrev meets : Pruner → Entry → Bool
meets p x = p.meets x.spec_id x.file.tuple

-- a delete file that applies to what the projection keeps is kept
pub kept_together : (specs : List Spec) (p : Pruner) → IsOpen specs p → (x : Entry) (l : Live)
    → SaysItsSpec specs l.entry → meets p x ≡ true → applies x l.entry ≡ true → keeps p l ≡ true
kept_together specs p open' x l says met a =
    let d = l.entry in
    let part : same_partition (data_key_of x) (delete_key_of d) ≡ true → p.meets d.spec_id d.file.tuple ≡ true =
    λ s.
    let b = and_true (int_eq x.spec_id d.spec_id) (same_tuple x.file.tuple d.file.tuple) s in
    let ids : x.spec_id ≡ d.spec_id = (Decides-int_eq x.spec_id d.spec_id).0 b.0 in
    let tuples : x.file.tuple ≡ d.file.tuple = (tuple_decides x.file.tuple d.file.tuple).0 b.1 in
    cc in
    let P : (K : FileContent) → d.file.content ≡ K → applies_as K (data_key_of x) (delete_key_of d) ≡ true
    → keeps p l ≡ true =
    λ K. elim K as (λ v. d.file.content ≡ v → applies_as v (data_key_of x) (delete_key_of d) ≡ true
    → keeps p l ≡ true) [
      | Data ↦ λ e t. cc
      | PositionDeletes ↦ λ e t.
          let m : p.meets d.spec_id d.file.tuple ≡ true = part (and_true _ _ (and_true _ _ t).0).1 in
          rw (e, m) refl
      | EqualityDeletes ↦ λ e t.
          let m : p.meets d.spec_id d.file.tuple ≡ true = elim (or_true _ _ (and_true _ _ t).1) [
            | inl s ↦ part s
            | inr u
                ↦ open' x d says u met
          ] in
          rw (e, m) refl
    ] in
    P d.file.content refl a

pub order : IsStrictWeakOrder path_before
order = ranks_by nat_list_cmp_total (λ (a : Entry). a.file.path)

-- ---- live entries and their entries

entries-append : (xs ys : List Live) → entries (xs ++ ys) ≡ entries xs ++ entries ys
entries-append [] ys = refl
entries-append (x ∷ xs) ys = ap (λ zs. x.entry ∷ zs) (entries-append xs ys)

entries-flat : (g : Row → List Live) (rows : List Row) → entries (flat_map g rows) ≡ flat_map (λ row. entries (g row))
    rows
entries-flat g [] = refl
entries-flat g (row ∷ rows) = entries-append (g row) (flat_map g rows) ∙ ap (λ zs. entries (g row) ++ zs)
    (entries-flat g rows)

filter-entries : (q : Entry → Bool) (xs : List Live) → filter q (entries xs) ≡ entries (filter (λ l. q l.entry) xs)
filter-entries q [] = refl
filter-entries q (x ∷ xs) =
    elim (q x.entry) as (λ v. cond v (x.entry ∷ filter q (entries xs)) (filter q (entries xs)) ≡ entries
    (cond v (x ∷ filter (λ (l : Live). q l.entry) xs) (filter (λ (l : Live). q l.entry) xs))) [
      | true ↦ ap (λ zs. x.entry ∷ zs) (filter-entries q xs)
      | false ↦ filter-entries q xs
    ]

-- the live entries that are kept of the wanted rows
abbrev kept_live : Pruner → (Row → List Live) → List Row → List Live
kept_live p live rows = flat_map (λ row. filter (keeps p) (live row)) (filter p.wants rows)

kept_is : (p : Pruner) (live : Row → List Live) (rows : List Row)
    → kept_of_wanted p live rows ≡ entries (kept_live p live rows)
kept_is p live rows = sym (entries-flat (λ (row : Row). filter (keeps p) (live row)) (filter p.wants rows))

kept_pass : (p : Pruner) (live : Row → List Live) (rows : List Row)
    → AllByRecursion (λ l. keeps p l ≡ true) (flat_map (λ row. filter (keeps p) (live row)) rows)
kept_pass p live [] = tt
kept_pass p live (row ∷ rows) = append_all _ (filter (keeps p) (live row)) _ (passes (keeps p) (live row))
    (kept_pass p live rows)

meets_pass : (p : Pruner) (xs : List Live) → AllByRecursion (λ l. keeps p l ≡ true) xs
    → AllByRecursion (λ x. meets p x ≡ true) (entries xs)
meets_pass p [] all = tt
meets_pass p (x ∷ xs) all = ((and_true _ _ all.0).0, meets_pass p xs all.1)

map_agree : {X Y : Type 0} (f g : X → Y) (k t : X → Bool) → ((x : X) → k x ≡ true → f x ≡ g x) → (xs : List X)
    → AllByRecursion (λ x. k x ≡ true) xs → map f (filter t xs) ≡ map g (filter t xs)
map_agree f g k t h [] all = refl
map_agree f g k t h (x ∷ xs) all =
    elim (t x) as (λ v. map f (cond v (x ∷ filter t xs) (filter t xs))
    ≡ map g (cond v (x ∷ filter t xs) (filter t xs))) [
      | true ↦ rw (h x all.0, map_agree f g k t h xs all.1) refl
      | false ↦ map_agree f g k t h xs all.1
    ]

-- the kept entries of all rows are those of the wanted rows
pub kept_wanted : (p : Pruner) (live : Row → List Live) (rows : List Row) → AreKeptWanted p live rows
    → kept p (flat_map live rows) ≡ kept_of_wanted p live rows
kept_wanted p live rows covered =
    ap entries (filter_rows (λ _. Unit {0}) (keeps p) (keeps p) (λ x _ h. h) live p.wants (λ r. all_unit (live r)) rows
    covered ∙ filter_all (keeps p) (kept_live p live rows) (kept_pass p live (filter p.wants rows)))
    ∙ sym (kept_is p live rows)

pub pruned : (p : Pruner) (world : World) (specs : List Spec) (rows : List Row) → IsOpen specs p
    → AreKeptWanted p (live world specs) rows →
    plan_over (by_path (entries (flat_map (live world specs) rows)))
    (by_path (kept_of_wanted p (live world specs) rows)) ≡ plan_over
    (by_path (kept_of_wanted p (live world specs) rows)) (by_path (kept_of_wanted p (live world specs) rows))
pruned p world specs rows open' covered =
    let lives = live world specs in
    let found = kept_of_wanted p lives rows in
    let some : AllByRecursion (λ (x : Entry). meets p x ≡ true) found =
    subst (AllByRecursion (λ (x : Entry). meets p x ≡ true)) (sym (kept_is p lives rows))
    (meets_pass p (kept_live p lives rows) (kept_pass p lives (filter p.wants rows))) in
    let all : AllByRecursion (λ (x : Entry). meets p x ≡ true) (by_path found) = all_sorted path_before
    (λ (x : Entry). meets p x ≡ true) found some in
    let hits : (K : FileContent) (x : Entry) → meets p x ≡ true
    → filter (λ d. holds K d && applies x d) (by_path (entries (flat_map lives rows))) ≡ filter
    (λ d. holds K d && applies x d) (by_path found) =
    λ K x k.
    let q = λ (d : Entry). holds K d && applies x d in
    filter-sorted path_before order q (entries (flat_map lives rows))
    ∙ ap by_path
    (filter-entries q (flat_map lives rows)
    ∙ ap entries (filter_rows (λ (l : Live). SaysItsSpec specs l.entry) (λ (l : Live). q l.entry) (keeps p)
    (λ l says h. kept_together specs p open' x l says k (and_true _ _ h).1) lives p.wants (live_says world specs)
    rows covered)
    ∙ sym (filter-entries q (kept_live p lives rows))
    ∙ ap (filter q) (sym (kept_is p lives rows)))
    ∙ sym (filter-sorted path_before order q found) in
    map_agree (line_of (by_path (entries (flat_map lives rows)))) (line_of (by_path found)) (meets p) (holds Data)
    (λ x k. rw (hits PositionDeletes x k, hits EqualityDeletes x k) refl) (by_path found) all
