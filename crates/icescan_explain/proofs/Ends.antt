-- Why telling of rows ends, and what was read until then.
use Rattle.std.proofs.Common.{◌≡◌, inl, inr, ℕ, suc, ◌+◌, ◌<◌, ◌≤◌, Bool, true, false, cond, List, [], ◌∷◌, ◌++◌}
use Rattle.std.proofs.Common.{length, drop, take, get_or, filter, map, replicate, Option, None, Some, refl, sym, ap}
use Rattle.std.proofs.Common.{◌∙◌, subst}
use Rattle.std.proofs.Common.{arith, add-one, append-nil, length-drop, zero, nat_lt}
use Rattle.std.proofs.lemmas.Bool.{ltb-true, ltb-false}
use Rattle.std.proofs.lemmas.List.{append_assoc, drop_more}
use Rattle.std.proofs.lemmas.Option.{slice_get-get_or}
use Rattle.ice_manifest_fields.proofs.Steps.{end_of}
use Rattle.std.specs.Prelude.{Ok, slice_get}
use Rattle.ice_desk.specs.Wanted.{paths_of}
use Rattle.ice_desk.specs.Worlds.{EndsAt}
use Rattle.ice_manifest_reading.specs.declared.row.Row.{Row}
use Rattle.ice_state.specs.Contents.{World, add}
use Rattle.icescan_text.specs.Reads.{MayEnd, all_present, file_in}
use Rattle.icescan_text.specs.declared.fault.RunFault.{RunFault}
use Rattle.icescan_text.specs.declared.fault.RunFault.TheVariants as run
use Rattle.icescan_text.proofs.Steps.{fails_later, first_ends, more_reads, only_first, then_ends}
use Rattle.ice_desk.proofs.Taking.{filled, filled_more}
use Rattle.icescan_explain.specs.declared.tests.FilterTests.{FilterTests}
use Rattle.icescan_explain.specs.Asking.{tests_of}
use Rattle.icescan_explain.specs.Fates.{file_verdict, is_kept, row_fate, row_verdict}
use Rattle.icescan_explain.specs.declared.tests.SpecTests.{SpecTests}
use Rattle.icescan_explain.specs.declared.verdict.Verdict.{Verdict}
use Rattle.icescan_explain.specs.RowsTold.{MayEndRow, files_told, is_wanted, is_wanted_by, lives_at, row_told}
use Rattle.icescan_explain.specs.RowsTold.{rows_told, told_by}

-- ---- rows that have to be there

module _ (f : List ℕ → Type 0) (world : World) (row : Row) (rows : List Row) where
  pub row_ends : (e : RunFault) → MayEnd (file_in world row.path) (EndsAt world f (row.path ∷ [])) ⊥ e
      → MayEnd (all_present world (row ∷ rows)) (EndsAt world f (paths_of (row ∷ rows))) ⊥ e
  unfolding all_present
  row_ends e h = first_ends (EndsAt world f (paths_of (row ∷ rows))) ⊥ (EndsAt world f (row.path ∷ []))
      (file_in world row.path) _ e (λ p m. only_first world f row.path (paths_of rows) p m) h

  pub later_ends : (bytes : List ℕ) (e : RunFault) → file_in world row.path ≡ Ok bytes
      → MayEnd (all_present world rows) (EndsAt world f (paths_of rows)) ⊥ e
      → MayEnd (all_present world (row ∷ rows)) (EndsAt world f (paths_of (row ∷ rows))) ⊥ e
  unfolding all_present
  later_ends bytes e has h =
      let step : MayEnd (all_present world rows) (EndsAt world f (paths_of (row ∷ rows))) ⊥ e =
      more_reads (all_present world rows) (EndsAt world f (paths_of rows)) (EndsAt world f (paths_of (row ∷ rows))) ⊥ e
      (λ p m. fails_later world f row.path bytes (paths_of rows) p has m) h in
      then_ends (EndsAt world f (paths_of (row ∷ rows))) ⊥ (file_in world row.path) _ bytes e has step

pub there_more : (world : World) (row : Row) (rows : List Row) (bytes : List ℕ) → file_in world row.path ≡ Ok bytes
    → all_present world rows ≡ Ok tt → all_present world (row ∷ rows) ≡ Ok tt
unfolding all_present
there_more world row rows bytes has h = rw (has, h) refl

-- ---- the wanted rows among all

first_of_rest : {A : Type 0} (all : List A) (at : ℕ) (x : A) (xs : List A) → drop at all ≡ x ∷ xs
    → (slice_get all at ≡ Some x) × (drop (at + 1) all ≡ xs)
first_of_rest {A} all at x xs h = go (nat_lt at (length all)) refl where
  go : (b : Bool) → nat_lt at (length all) ≡ b → (slice_get all at ≡ Some x) × (drop (at + 1) all ≡ xs)
  go true e =
      let lt : at < length all = ltb-true at (length all) e in
      let same : get_or all at x ∷ drop (at + 1) all ≡ x ∷ xs = sym (drop_more all at x lt) ∙ h in
      let first : get_or all at x ≡ x = cc in
      (slice_get-get_or all at x lt ∙ ap Some first, cc)
  go false e =
      let past : length all ≤ at = ltb-false at (length all) e in
      let none : [] ≡ x ∷ xs = sym (end_of all at past) ∙ h in absurd cc

module _ (p : Row → Bool) (wanted rows : List Row) (i next : ℕ) (row : Row)
    (rest : drop next wanted ≡ filter p (drop i rows)) (step : drop i rows ≡ row ∷ drop (i + 1) rows) where
  at_row : drop next wanted ≡ cond (p row) (row ∷ filter p (drop (i + 1) rows)) (filter p (drop (i + 1) rows))
  at_row = rest ∙ ap (filter p) step

  pub is_next : p row ≡ true → slice_get wanted next ≡ Some row
  is_next e = (first_of_rest wanted next row (filter p (drop (i + 1) rows)) (rw e at at_row)).0

  pub starts : p row ≡ true → drop next wanted ≡ row ∷ drop (next + 1) wanted
  starts e =
      let here : drop next wanted ≡ row ∷ filter p (drop (i + 1) rows) = rw e at at_row in
      here ∙ ap (λ (rs : List Row). row ∷ rs)
      (sym (first_of_rest wanted next row (filter p (drop (i + 1) rows)) here).1)

  pub rest_more : drop (cond (p row) (next + 1) next) wanted ≡ filter p (drop (i + 1) rows)
  rest_more = go (p row) refl where
    go : (b : Bool) → p row ≡ b → drop (cond b (next + 1) next) wanted ≡ filter p (drop (i + 1) rows)
    go true e = (first_of_rest wanted next row (filter p (drop (i + 1) rows)) (rw e at at_row)).1
    go false e = rw e at at_row

-- ---- one more row

module _ (f : List ℕ → Type 0) (world : World) (tests : FilterTests) (wanted : List Row) (next : ℕ) (row : Row)
    (starts : is_wanted tests row ≡ true → drop next wanted ≡ row ∷ drop (next + 1) wanted) where
  abbrev Ends : List Row → RunFault → Type 0
  Ends rows e = MayEnd (all_present world rows) (EndsAt world f (paths_of rows)) ⊥ e

  memory : (e : RunFault) → e ≡ run.Memory → (rows : List Row) → Ends rows e
  memory e is rows = subst (λ x. Ends rows x) (sym is) tt

  -- telling of the row ends it
  pub ends_here : (e : RunFault) → MayEndRow tests world f row e → Ends (drop next wanted) e
  ends_here e (inl is) = memory e is (drop next wanted)
  ends_here e (inr h) = subst (λ rows. Ends rows e) (sym (starts h.0))
      (row_ends f world row (drop (next + 1) wanted) e h.1)

  -- telling of a later one does
  pub ends_later : (is_wanted tests row ≡ true → (bytes : List ℕ) × (file_in world row.path ≡ Ok bytes))
      → (e : RunFault) → Ends (drop (cond (is_wanted tests row) (next + 1) next) wanted) e → Ends (drop next wanted) e
  ends_later there e = go (is_wanted tests row) refl where
    go : (b : Bool) → is_wanted tests row ≡ b → Ends (drop (cond b (next + 1) next) wanted) e
        → Ends (drop next wanted) e
    go true is h =
        let bytes = there is in
        subst (λ rows. Ends rows e) (sym (starts is))
        (later_ends f world row (drop (next + 1) wanted) bytes.0 e bytes.1 h)
    go false is h = h

  pub present_later : (is_wanted tests row ≡ true → (bytes : List ℕ) × (file_in world row.path ≡ Ok bytes))
      → all_present world (drop (cond (is_wanted tests row) (next + 1) next) wanted) ≡ Ok tt
      → all_present world (drop next wanted) ≡ Ok tt
  present_later there = go (is_wanted tests row) refl where
    go : (b : Bool) → is_wanted tests row ≡ b → all_present world (drop (cond b (next + 1) next) wanted) ≡ Ok tt
        → all_present world (drop next wanted) ≡ Ok tt
    go true is h =
        let bytes = there is in
        ap (all_present world) (starts is) ∙ there_more world row (drop (next + 1) wanted) bytes.0 bytes.1 h
    go false is h = h

  -- the set of the rows that were taken
  pub set_more : (ts : List Bool) → length ts ≡ length wanted
      → (is_wanted tests row ≡ true → next < length wanted)
      → cond (is_wanted tests row) (add (filled ts next) next) (filled ts next)
      ≡ filled ts (cond (is_wanted tests row) (next + 1) next)
  set_more ts flags within = go (is_wanted tests row) refl where
    go : (b : Bool) → is_wanted tests row ≡ b
        → cond b (add (filled ts next) next) (filled ts next) ≡ filled ts (cond b (next + 1) next)
    go true is = filled_more ts next (omega (arith, flags, within is)) ∙ ap (filled ts) (sym (add-one next))
    go false is = refl

-- ---- what is told of a row

module _ (tests : FilterTests) (world : World) (row : Row) where
  pub none_told : tests_of tests row.spec_id ≡ None → row_told tests world row ≡ []
  none_told h = ap (told_by tests world row) h

  pub none_wanted : tests_of tests row.spec_id ≡ None → is_wanted tests row ≡ false
  none_wanted h = ap (λ (o : Option SpecTests). is_wanted_by o row) h

  module _ (of_spec : SpecTests) (h : tests_of tests row.spec_id ≡ Some of_spec) where
    pub wanted_as : is_wanted tests row ≡ is_kept (row_fate of_spec row)
    wanted_as = ap (λ (o : Option SpecTests). is_wanted_by o row) h

    told_as : row_told tests world row ≡ row_verdict of_spec row ∷ files_told tests world of_spec row
    told_as = ap (told_by tests world row) h

    pub told_alone : is_kept (row_fate of_spec row) ≡ false → row_told tests world row ≡ row_verdict of_spec row ∷ []
    told_alone e = told_as ∙ rw e refl

    pub told_with_files : is_kept (row_fate of_spec row) ≡ true
        → row_told tests world row
        ≡ row_verdict of_spec row ∷ map (file_verdict tests of_spec) (lives_at world of_spec row)
    told_with_files e = told_as ∙ rw e refl

-- ---- all rows

filled_past : (n k : ℕ) → n ≤ k → filled (replicate n false) k ≡ replicate n true
filled_past zero k few = refl
filled_past (suc n) zero few = absurd (omega (arith, few))
filled_past (suc n) (suc k) few = ap (λ ts. true ∷ ts) (filled_past n k (omega (arith, few)))

pub all_taken : (wanted : List Row) (next : ℕ) → drop next wanted ≡ []
    → filled (replicate (length wanted) false) next ≡ replicate (length wanted) true
all_taken wanted next none =
    let gone : length (drop next wanted) ≡ 0 = ap length none in
    filled_past (length wanted) next (omega (arith, length-drop next wanted, gone))

pub flags : (n : ℕ) → length (replicate n false) ≡ n
flags zero = refl
flags (suc n) = ap suc (flags n)

-- ---- what is told of the rows so far

pub told_more : (tests : FilterTests) (world : World) (rows : List Row) (i : ℕ) (row : Row)
    → slice_get rows i ≡ Some row
    → rows_told tests world (take (i + 1) rows) ≡ rows_told tests world (take i rows) ++ row_told tests world row
told_more tests world [] i row is = absurd cc
told_more tests world (r ∷ rows) zero row is =
    let same : r ≡ row = cc in append-nil (row_told tests world r) ∙ ap (row_told tests world) same
told_more tests world (r ∷ rows) (suc i) row is =
    let later : suc i + 1 ≡ suc (i + 1) = omega arith in
    ap (λ n. rows_told tests world (take n (r ∷ rows))) later
    ∙ ap (λ (vs : List Verdict). row_told tests world r ++ vs) (told_more tests world rows i row is)
    ∙ sym (append_assoc (row_told tests world r) (rows_told tests world (take i rows)) (row_told tests world row))

pub no_later : (b : Bool) (next i : ℕ) → next ≤ i → cond b (next + 1) next ≤ i + 1
no_later true next i few = omega (arith, few)
no_later false next i few = omega (arith, few)

pub none_present : (world : World) → all_present world [] ≡ Ok tt
unfolding all_present
none_present world = refl
