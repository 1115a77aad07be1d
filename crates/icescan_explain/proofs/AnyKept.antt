-- Over any files: the data files that are told as kept are those that the state keeps.
use Rattle.std.proofs.Common.{◌≡◌, ◌<◌, ℕ, zero, suc, ◌+◌, ◌-◌, Bool, true, false, cond, List, [], ◌∷◌, ◌++◌, length}
use Rattle.std.proofs.Common.{take, drop}
use Rattle.std.proofs.Common.{Option, None, Some, replicate, refl, sym, ap, ◌∙◌, subst, arith, add-one, append-nil}
use Rattle.std.specs.Prelude.{slice_get, Ok}
use Rattle.std.proofs.lemmas.List.{append_assoc, take-append-drop}
use Rattle.std.proofs.lemmas.Option.{slice_get_within}
use Rattle.icescan_explain.specs.Asking.{ice_filter_tests}
use Rattle.icescan_explain.specs.declared.tests.FilterTests.{FilterTests}
use Rattle.icescan_explain.specs.declared.tests.SpecTests.{SpecTests}
use Rattle.icescan_explain.specs.declared.verdict.Verdict.{Verdict}
use Rattle.ice_filter.specs.declared.bound.BoundPredicate.{BoundPredicate}
use Rattle.ice_filter.specs.declared.parts.Part.{Part}
use Rattle.ice_manifest_reading.specs.declared.entry.Entry.{Entry}
use Rattle.ice_manifest_reading.specs.declared.row.Row.{Row}
use Rattle.ice_meta.specs.declared.spec.Spec.{Spec}
use Rattle.ice_state.specs.Contents.{Content, World, reading_of, took, took_at}
use Rattle.ice_state.specs.Outcomes.{entries_in, kept_in}
use Rattle.ice_state.specs.Pruning.{Pruner, kept, pruner_of}
use Rattle.ice_state.specs.Scans.{Scanned, pruner, scan_of}
use Rattle.ice_state.specs.Snapshots.{live}
use Rattle.ice_state.specs.Specs.{by_id, spec_of}
use Rattle.ice_state.proofs.Scans.{made, same_pruner, scan_is}
use Rattle.icescan_explain.specs.RowsTold.{IsScanFor, is_wanted, row_told, told_by}
use Rattle.icescan_explain.specs.Told.{paths_kept, paths_of_data}
use Rattle.icescan_explain.proofs.Kept.{both_data, both_kept, kept_slot, live_by_id, row_told_kept}
use Rattle.icescan_explain.proofs.Wanted.{of_id, wanted_is}

-- nothing was taken of the last n rows
abbrev pub untaken : ℕ → Content
untaken n = replicate n None

both_in : (cs ds : Content) → kept_in (cs ++ ds) ≡ kept_in cs ++ kept_in ds
both_in [] ds = refl
both_in (c ∷ cs) ds = ap (λ (xs : List Entry). entries_in c ++ xs) (both_in cs ds)
    ∙ sym (append_assoc (entries_in c) (kept_in cs) (kept_in ds))

pub none_in : (n : ℕ) → kept_in (untaken n) ≡ []
none_in zero = refl
none_in (suc n) = none_in n

module _ (scan : Scanned) (row : Row) (bytes : List ℕ) where
  -- the next row is taken
  took_next : (rows : List Row) (cs : Content) (n : ℕ) (rest : Content) → drop n cs ≡ None ∷ rest
      → slice_get rows n ≡ Some row
      → took_at scan cs rows n bytes ≡ take n cs ++ Some (reading_of scan row bytes) ∷ rest
  took_next rows [] zero rest h is = absurd cc
  took_next rows [] (suc n) rest h is = absurd cc
  took_next [] (c ∷ cs) n rest h is = absurd cc
  took_next (r ∷ rows) (None ∷ cs) zero rest h is = cc
  took_next (r ∷ rows) (Some x ∷ cs) zero rest h is = absurd cc
  took_next (r ∷ rows) (c ∷ cs) (suc n) rest h is = ap (λ (ds : Content). c ∷ ds) (took_next rows cs n rest h is)

  took_past : (rows : List Row) (cs : Content) (n : ℕ) (rest : Content) → drop n cs ≡ None ∷ rest
      → slice_get rows n ≡ Some row → drop (suc n) (took_at scan cs rows n bytes) ≡ rest
  took_past rows [] zero rest h is = absurd cc
  took_past rows [] (suc n) rest h is = absurd cc
  took_past [] (c ∷ cs) n rest h is = absurd cc
  took_past (r ∷ rows) (None ∷ cs) zero rest h is = cc
  took_past (r ∷ rows) (Some x ∷ cs) zero rest h is = absurd cc
  took_past (r ∷ rows) (c ∷ cs) (suc n) rest h is = took_past rows cs n rest h is

  module _ (cs : Content) (n : ℕ) (is : slice_get scan.wanted n ≡ Some row)
      (none : drop n cs ≡ untaken (length scan.wanted - n)) where
    abbrev left : ℕ
    left = length scan.wanted - (n + 1)

    next : drop n cs ≡ None ∷ untaken left
    next =
        let within : n < length scan.wanted = slice_get_within scan.wanted n row is in
        let more : length scan.wanted - n ≡ suc (length scan.wanted - (n + 1)) = omega (arith, within) in
        none ∙ ap untaken more

    now : took scan cs n bytes ≡ take n cs ++ Some (reading_of scan row bytes) ∷ untaken left
    now = took_next scan.wanted cs n (untaken left) next is

    pub taken_more : kept_in (took scan cs n bytes) ≡ kept_in cs ++ entries_in (Some (reading_of scan row bytes))
    taken_more =
        let front : List Entry = kept_in (take n cs) in
        let read : List Entry = entries_in (Some (reading_of scan row bytes)) in
        let old : kept_in cs ≡ front =
        ap kept_in (sym (take-append-drop n cs) ∙ ap (λ (ds : Content). take n cs ++ ds) next)
        ∙ both_in (take n cs) (None ∷ untaken left) ∙ ap (λ (xs : List Entry). front ++ xs) (none_in left)
        ∙ append-nil front in
        ap kept_in now ∙ both_in (take n cs) (Some (reading_of scan row bytes) ∷ untaken left)
        ∙ ap (λ (xs : List Entry). front ++ (read ++ xs)) (none_in left)
        ∙ ap (λ (xs : List Entry). front ++ xs) (append-nil read) ∙ ap (λ (xs : List Entry). xs ++ read) (sym old)

    pub untaken_more : drop (n + 1) (took scan cs n bytes) ≡ untaken (length scan.wanted - (n + 1))
    untaken_more = ap (λ k. drop k (took scan cs n bytes)) (add-one n)
        ∙ took_past scan.wanted cs n (untaken left) next is

-- ---- what is told of a row

module _ (rows : List Row) (specs : List Spec) (filters : List (Part BoundPredicate)) (columns : List (List ℕ))
    (scan : Scanned) (is : scan_of rows specs filters ≡ Ok scan) (row : Row) (bytes : List ℕ) where
  abbrev given : World
  given = λ path. Some bytes

  abbrev tests : FilterTests
  tests = ice_filter_tests specs filters columns

  own : pruner scan ≡ pruner_of filters specs
  own = let m = made rows specs filters scan is in same_pruner rows specs scan m.1
      ∙ ap (λ ps. pruner_of ps specs) m.0

  ids : by_id specs ≡ scan.specs
  ids = ap (λ (s : Scanned). s.specs) (scan_is rows specs scan (made rows specs filters scan is).1).1

  read_is : entries_in (Some (reading_of scan row bytes)) ≡ kept (pruner_of filters specs) (live given specs row)
  read_is =
      kept_slot scan row (Some bytes)
      ∙ ap (λ (p : Pruner). kept p (live given scan.specs row)) own
      ∙ ap (λ (ss : List Spec). kept (pruner_of filters specs) (live given ss row)) (sym ids)
      ∙ ap (kept (pruner_of filters specs)) (live_by_id given specs row)

  pub told_kept : paths_kept (row_told tests given row)
      ≡ cond (is_wanted tests row) (paths_of_data (entries_in (Some (reading_of scan row bytes)))) []
  told_kept =
      ap (λ (o : Option SpecTests). paths_kept (told_by tests given row o)) (of_id specs filters columns row.spec_id)
      ∙ row_told_kept specs filters columns given row (spec_of specs row.spec_id) refl
      ∙ ap (λ b. cond b (paths_of_data (kept (pruner_of filters specs) (live given specs row))) [])
      (sym (wanted_is specs filters columns row))
      ∙ ap (λ (xs : List Entry). cond (is_wanted tests row) (paths_of_data xs) []) (sym read_is)

-- ---- one more row

pub kept_more : (tests : FilterTests) (scan : Scanned) (row : Row) (bytes : List ℕ) (n : ℕ) (vs : List Verdict)
    (cs : Content) → IsScanFor tests scan → (is_wanted tests row ≡ true → slice_get scan.wanted n ≡ Some row)
    → drop n cs ≡ untaken (length scan.wanted - n) → paths_kept vs ≡ paths_of_data (kept_in cs)
    → paths_kept (vs ++ row_told tests (λ path. Some bytes) row)
    ≡ paths_of_data (kept_in (cond (is_wanted tests row) (took scan cs n bytes) cs))
kept_more tests scan row bytes n vs cs for at none same =
    both_kept vs (row_told tests (λ path. Some bytes) row)
    ∙ ap (λ (ps : List (List ℕ)). ps ++ paths_kept (row_told tests (λ path. Some bytes) row)) same
    ∙ ap (λ (ps : List (List ℕ)). paths_of_data (kept_in cs) ++ ps) told
    ∙ go (is_wanted tests row) refl where
      read : List Entry
      read = entries_in (Some (reading_of scan row bytes))

      told : paths_kept (row_told tests (λ path. Some bytes) row) ≡ cond (is_wanted tests row) (paths_of_data read) []
      told = subst (λ (t : FilterTests). paths_kept (row_told t (λ path. Some bytes) row)
          ≡ cond (is_wanted t row) (paths_of_data read) []) (sym for.3.1)
          (told_kept for.0 for.1 for.2 for.3.0 scan for.4 row bytes)

      go : (b : Bool) → is_wanted tests row ≡ b → paths_of_data (kept_in cs) ++ cond b (paths_of_data read) []
          ≡ paths_of_data (kept_in (cond b (took scan cs n bytes) cs))
      go true e = sym (both_data (kept_in cs) read)
          ∙ ap paths_of_data (sym (taken_more scan row bytes cs n (at e) none))
      go false e = append-nil (paths_of_data (kept_in cs))

pub none_more : (scan : Scanned) (row : Row) (bytes : List ℕ) (n : ℕ) (cs : Content) (wanted : Bool)
    → (wanted ≡ true → slice_get scan.wanted n ≡ Some row)
    → drop n cs ≡ untaken (length scan.wanted - n)
    → drop (cond wanted (n + 1) n) (cond wanted (took scan cs n bytes) cs)
    ≡ untaken (length scan.wanted - cond wanted (n + 1) n)
none_more scan row bytes n cs true at none = untaken_more scan row bytes cs n (at refl) none
none_more scan row bytes n cs false at none = none
