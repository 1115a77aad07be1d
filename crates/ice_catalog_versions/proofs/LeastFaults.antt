-- The first reason that stands tells the least fault.
use Rattle.std.proofs.Common.{◌≡◌, inl, inr, ◌<◌, ◌≤◌, ◌+◌, ℕ, suc, ℤ, true, List, [], ◌∷◌, length, refl, sym, ap, ◌∙◌}
use Rattle.std.proofs.Common.{subst, arith}
use Rattle.std.specs.Prelude.{◌<ℤ◌, Option, None, Some, option_map, Ok, Err, Result}
use Rattle.std.specs.Cmp.{int_ranks}
use Rattle.std.specs.Cmp.Lexicographic.{slice_cmp}
use Rattle.std.specs.Ordering.{MatchOrdering, int_cmp, is_lt, nat_cmp, ordering_reverse}
use Rattle.std.specs.declared.cmp.Ordering.{Ordering}
use Rattle.std.specs.declared.cmp.Ordering.TheVariants.{Less, Equal, Greater}
use Rattle.std.proofs.lemmas.Bool.{cases_lt}
use Rattle.std.proofs.lemmas.Cmp.{nat_list_cmp_total}
use Rattle.std.proofs.lemmas.Map.Lookups.{exact_bytes}
use Rattle.ice_meta.specs.Logs.{newest_time}
use Rattle.ice_catalog_changes.specs.declared.change.Commit.{Commit}
use Rattle.ice_catalog_changes.specs.declared.fault.PrepareFault.{PrepareFault}
use Rattle.ice_catalog_changes.specs.declared.fault.PrepareFault.TheVariants as fault
use Rattle.ice_catalog_versions.specs.Bases.{table_specs}
use Rattle.ice_catalog_versions.specs.Histories.{History, Step, prepared_on, state_of}
use Rattle.ice_catalog_versions.specs.LeastFaults.{HasFault, IsBefore, IsLeast, NamesLess, PreparesWhereNoneIsThere}
use Rattle.ice_catalog_versions.specs.LeastFaults.{rank}
use Rattle.ice_catalog_versions.specs.LeastFaults.{TellsTheLeast}
use Rattle.ice_catalog_versions.specs.Refusals.{bad_file, base_bad, empty, first_reason, no_such_spec, out_of_order}
use Rattle.ice_catalog_versions.specs.Refusals.{path_before, path_taken, path_twice, reasons, refusal, sequence_end}
use Rattle.ice_catalog_versions.specs.Refusals.{snapshot_taken, sorted_paths, too_many_rows, wrong_tuple}
use Rattle.ice_catalog_versions.specs.States.{State}
use Rattle.ice_catalog_versions.proofs.FaultKinds.{Finds, IsPathBefore, a_snapshot, an_end, bad_finds, base_finds}
use Rattle.ice_catalog_versions.proofs.FaultKinds.{double_finds}
use Rattle.ice_catalog_versions.proofs.FaultKinds.{earlier, few, many, no_end, no_snapshot, none_empty, not_earlier}
use Rattle.ice_catalog_versions.proofs.FaultKinds.{some_empty}
use Rattle.ice_catalog_versions.proofs.FaultKinds.{taken_finds, unknown_finds, wrong_finds}
use Rattle.ice_catalog_versions.proofs.LiveAfter.{some_is}
use Rattle.ice_catalog_versions.proofs.Replays.{prepared_done, prepared_refused}

-- ---- the kinds of faults

is_empty : (g : PrepareFault) → rank g ≡ 0 → g ≡ fault.Empty
is_empty fault.Empty e = refl
is_empty _ e = absurd (omega (arith, e))

is_snapshot_taken : (g : PrepareFault) → rank g ≡ 1 → g ≡ fault.SnapshotTaken
is_snapshot_taken fault.SnapshotTaken e = refl
is_snapshot_taken _ e = absurd (omega (arith, e))

is_sequence_end : (g : PrepareFault) → rank g ≡ 2 → g ≡ fault.SequenceEnd
is_sequence_end fault.SequenceEnd e = refl
is_sequence_end _ e = absurd (omega (arith, e))

is_path_twice : (g : PrepareFault) → rank g ≡ 3 → (path : List ℕ) × (g ≡ fault.PathTwice path)
is_path_twice (fault.PathTwice path) e = (path, refl)
is_path_twice _ e = absurd (omega (arith, e))

is_bad_file : (g : PrepareFault) → rank g ≡ 4 → (path : List ℕ) × (g ≡ fault.BadFile path)
is_bad_file (fault.BadFile path) e = (path, refl)
is_bad_file _ e = absurd (omega (arith, e))

is_no_such_spec : (g : PrepareFault) → rank g ≡ 5 → (id : ℤ) × (g ≡ fault.NoSuchSpec id)
is_no_such_spec (fault.NoSuchSpec id) e = (id, refl)
is_no_such_spec _ e = absurd (omega (arith, e))

is_wrong_tuple : (g : PrepareFault) → rank g ≡ 6 → (path : List ℕ) × (g ≡ fault.WrongTuple path)
is_wrong_tuple (fault.WrongTuple path) e = (path, refl)
is_wrong_tuple _ e = absurd (omega (arith, e))

is_base_bad : (g : PrepareFault) → rank g ≡ 7 → (path : List ℕ) × (g ≡ fault.BaseBad path)
is_base_bad (fault.BaseBad path) e = (path, refl)
is_base_bad _ e = absurd (omega (arith, e))

is_path_taken : (g : PrepareFault) → rank g ≡ 8 → (path : List ℕ) × (g ≡ fault.PathTaken path)
is_path_taken (fault.PathTaken path) e = (path, refl)
is_path_taken _ e = absurd (omega (arith, e))

is_too_many_rows : (g : PrepareFault) → rank g ≡ 9 → g ≡ fault.TooManyRows
is_too_many_rows fault.TooManyRows e = refl
is_too_many_rows _ e = absurd (omega (arith, e))

is_out_of_order : (g : PrepareFault) → rank g ≡ 10 → g ≡ fault.OutOfOrder
is_out_of_order fault.OutOfOrder e = refl
is_out_of_order _ e = absurd (omega (arith, e))

one_kind : (f g : PrepareFault) → NamesLess f g → rank f ≡ rank g
one_kind (fault.PathTwice a) (fault.PathTwice b) h = refl
one_kind (fault.BadFile a) (fault.BadFile b) h = refl
one_kind (fault.NoSuchSpec a) (fault.NoSuchSpec b) h = refl
one_kind (fault.WrongTuple a) (fault.WrongTuple b) h = refl
one_kind (fault.BaseBad a) (fault.BaseBad b) h = refl
one_kind (fault.PathTaken a) (fault.PathTaken b) h = refl
one_kind _ _ h = absurd h

-- that memory runs out is no fault of a commit
known : (s : State) (c : Commit) (g : PrepareFault) → HasFault s c g → rank g < 11
known s c fault.Empty h = omega arith
known s c fault.SnapshotTaken h = omega arith
known s c fault.SequenceEnd h = omega arith
known s c (fault.PathTwice path) h = omega arith
known s c (fault.BadFile path) h = omega arith
known s c (fault.NoSuchSpec id) h = omega arith
known s c (fault.WrongTuple path) h = omega arith
known s c (fault.BaseBad path) h = omega arith
known s c (fault.PathTaken path) h = omega arith
known s c fault.TooManyRows h = omega arith
known s c fault.OutOfOrder h = omega arith
known s c fault.Memory h = absurd h

-- ---- two faults of which none is before the other

same_path : (p q : List ℕ) → (path_before p q ≡ true → ⊥) → (path_before q p ≡ true → ⊥) → p ≡ q
same_path p q h k = at (slice_cmp nat_cmp p q) refl where
  at : (o : Ordering) → slice_cmp nat_cmp p q ≡ o → p ≡ q
  at Less e = absurd (h (ap is_lt e))
  at Equal e = exact_bytes p q e
  at Greater e = absurd (k (ap is_lt (nat_list_cmp_total.antisymm q p ∙ ap ordering_reverse e)))

same_id : (a b : ℤ) → (a <ℤ b → ⊥) → (b <ℤ a → ⊥) → a ≡ b
same_id a b h k = at (int_cmp a b) (int_ranks a b) where
  at : (o : Ordering) → MatchOrdering o (a <ℤ b) (a ≡ b) (b <ℤ a) → a ≡ b
  at Less m = absurd (h m)
  at Equal m = m
  at Greater m = absurd (k m)

of_one_kind : (f g : PrepareFault) → rank f ≡ rank g → (NamesLess f g → ⊥) → (NamesLess g f → ⊥) → f ≡ g
of_one_kind fault.Empty fault.Empty e h k = refl
of_one_kind fault.SnapshotTaken fault.SnapshotTaken e h k = refl
of_one_kind fault.SequenceEnd fault.SequenceEnd e h k = refl
of_one_kind (fault.PathTwice a) (fault.PathTwice b) e h k = ap (λ (x : List ℕ). fault.PathTwice x) (same_path a b h k)
of_one_kind (fault.BadFile a) (fault.BadFile b) e h k = ap (λ (x : List ℕ). fault.BadFile x) (same_path a b h k)
of_one_kind (fault.NoSuchSpec a) (fault.NoSuchSpec b) e h k = ap (λ (x : ℤ). fault.NoSuchSpec x) (same_id a b h k)
of_one_kind (fault.WrongTuple a) (fault.WrongTuple b) e h k =
    ap (λ (x : List ℕ). fault.WrongTuple x) (same_path a b h k)
of_one_kind (fault.BaseBad a) (fault.BaseBad b) e h k = ap (λ (x : List ℕ). fault.BaseBad x) (same_path a b h k)
of_one_kind (fault.PathTaken a) (fault.PathTaken b) e h k = ap (λ (x : List ℕ). fault.PathTaken x) (same_path a b h k)
of_one_kind fault.TooManyRows fault.TooManyRows e h k = refl
of_one_kind fault.OutOfOrder fault.OutOfOrder e h k = refl
of_one_kind fault.Memory fault.Memory e h k = refl
of_one_kind _ _ e h k = absurd (omega (arith, e))

same_rank : (m n : ℕ) → (m < n → ⊥) → (n < m → ⊥) → m ≡ n
same_rank m n h k = elim (cases_lt m n) as (λ _. m ≡ n) [
  | inl less ↦ absurd (h less)
  | inr le ↦ elim (cases_lt n m) as (λ _. m ≡ n) [ inl more ↦ absurd (k more) | inr ge ↦ omega (arith, le, ge) ]
]

same_fault : (f g : PrepareFault) → (IsBefore f g → ⊥) → (IsBefore g f → ⊥) → f ≡ g
same_fault f g h k = of_one_kind f g (same_rank (rank f) (rank g) (λ less. h (inl less)) (λ less. k (inl less)))
    (λ less. h (inr less)) (λ less. k (inr less))

-- ---- what a reason tells

-- Where it doesn't stand, the commit has no fault of this kind. Where it stands, the commit has what it tells, and
-- nothing less of the kind.
abbrev Answers : State → Commit → ℕ → Option PrepareFault → Type 0
Answers s c kind reason = (reason ≡ None → (g : PrepareFault) → rank g ≡ kind → HasFault s c g → ⊥)
    × ((f : PrepareFault) → reason ≡ Some f → (rank f ≡ kind) × HasFault s c f
    × ((g : PrepareFault) → HasFault s c g → NamesLess g f → ⊥))

module _ (s : State) (c : Commit) where
  of_names : {X : Type 0} (made : X → PrepareFault) (IsLess : X → X → Type 0) (kind : ℕ) (found : Option X)
      → ((x : X) → rank (made x) ≡ kind) → ((g : PrepareFault) → rank g ≡ kind → (x : X) × (g ≡ made x))
      → ((x y : X) → NamesLess (made x) (made y) → IsLess x y) → Finds IsLess (λ x. HasFault s c (made x)) found
      → Answers s c kind (option_map made found)
  of_names made IsLess kind None ranked shape less finds = (
    λ e g is has. let x = shape g is in finds.0 refl x.0 (subst (HasFault s c) x.1 has),
    λ f e. absurd cc,
  )
  of_names made IsLess kind (Some x) ranked shape less finds = (
    λ e. absurd cc,
    λ f e.
        let told = some_is (made x) f e in
        let r = finds.1 x refl in (
          ap rank (sym told) ∙ ranked x,
          subst (HasFault s c) told r.0,
          λ g has names.
              let before : NamesLess g (made x) = subst (NamesLess g) (sym told) names in
              let y = shape g (one_kind g (made x) before ∙ ranked x) in
              r.1 y.0 (subst (HasFault s c) y.1 has) (less y.0 x (subst (λ (d : PrepareFault). NamesLess d (made x)) y.1
              before)),
        ),
  )

  of_one : (only : PrepareFault) (kind : ℕ) (reason : Option PrepareFault) → rank only ≡ kind
      → ((g : PrepareFault) → rank g ≡ kind → g ≡ only) → (NamesLess only only → ⊥)
      → (reason ≡ None → HasFault s c only → ⊥)
      → ((g : PrepareFault) → reason ≡ Some g → (g ≡ only) × HasFault s c only) → Answers s c kind reason
  of_one only kind reason ranked shape nameless absent present = (
    λ e g is has. absent e (subst (HasFault s c) (shape g is) has),
    λ f e.
        let told = present f e in (
          ap rank told.0 ∙ ranked,
          subst (HasFault s c) (sym told.0) told.1,
          λ g has names.
              let before : NamesLess g only = subst (NamesLess g) told.0 names in
              nameless (subst (λ (d : PrepareFault). NamesLess d only) (shape g (one_kind g only before ∙ ranked))
              before),
        ),
  )

  -- the reasons are for the kinds from this one on
  abbrev AllAnswer : ℕ → List (Option PrepareFault) → Type 0
  AllAnswer kind [] = Unit {0}
  AllAnswer kind (reason ∷ rest) = Answers s c kind reason × AllAnswer (suc kind) rest

  answers_empty : Answers s c 0 (empty c.change.files c.change.deletes)
  answers_empty = of_one fault.Empty 0 _ refl is_empty (λ h. h) (none_empty c.change.files c.change.deletes)
      (some_empty c.change.files c.change.deletes)

  answers_taken : Answers s c 1 (snapshot_taken s.metadata.table c.ids.snapshot)
  answers_taken = of_one fault.SnapshotTaken 1 _ refl is_snapshot_taken (λ h. h)
      (no_snapshot s.metadata.table c.ids.snapshot) (a_snapshot s.metadata.table c.ids.snapshot)

  answers_end : Answers s c 2 (sequence_end s.metadata.table)
  answers_end = of_one fault.SequenceEnd 2 _ refl is_sequence_end (λ h. h) (no_end s.metadata.table)
      (an_end s.metadata.table)

  answers_twice : Answers s c 3 (path_twice c.change)
  answers_twice = of_names (λ (p : List ℕ). fault.PathTwice p) IsPathBefore 3 _ (λ p. refl) is_path_twice (λ p q h. h)
      (double_finds c.change)

  answers_bad : Answers s c 4 (bad_file c.change)
  answers_bad = of_names (λ (p : List ℕ). fault.BadFile p) IsPathBefore 4 _ (λ p. refl) is_bad_file (λ p q h. h)
      (bad_finds c.change)

  answers_unknown : Answers s c 5 (no_such_spec (table_specs s.metadata.table) c.change)
  answers_unknown = of_names (λ (z : ℤ). fault.NoSuchSpec z) (λ (a : ℤ) (b : ℤ). a <ℤ b) 5 _ (λ z. refl) is_no_such_spec
      (λ a b h. h) (unknown_finds (table_specs s.metadata.table) c.change)

  answers_wrong : Answers s c 6 (wrong_tuple (table_specs s.metadata.table) c.change)
  answers_wrong = of_names (λ (p : List ℕ). fault.WrongTuple p) IsPathBefore 6 _ (λ p. refl) is_wrong_tuple
      (λ p q h. h) (wrong_finds (table_specs s.metadata.table) c.change)

  answers_base : Answers s c 7 (base_bad s.world s.metadata.table)
  answers_base = of_names (λ (p : List ℕ). fault.BaseBad p) IsPathBefore 7 _ (λ p. refl) is_base_bad (λ p q h. h)
      (base_finds s)

  answers_live : Answers s c 8 (path_taken s.world s.metadata.table (sorted_paths c.change))
  answers_live = of_names (λ (p : List ℕ). fault.PathTaken p) IsPathBefore 8 _ (λ p. refl) is_path_taken (λ p q h. h)
      (taken_finds s c.change)

  answers_many : Answers s c 9 (too_many_rows s.world s.metadata.table c.change)
  answers_many = of_one fault.TooManyRows 9 _ refl is_too_many_rows (λ h. h) (few s c) (many s c)

  answers_time : Answers s c 10 (out_of_order (newest_time s.metadata.json) c.ids.now_ms)
  answers_time = of_one fault.OutOfOrder 10 _ refl is_out_of_order (λ h. h)
      (not_earlier (newest_time s.metadata.json) c.ids.now_ms) (earlier (newest_time s.metadata.json) c.ids.now_ms)

  all_answer : AllAnswer 0 (reasons s c)
  all_answer = (
    answers_empty,
    (
      answers_taken,
      (
        answers_end,
        (
          answers_twice,
          (
            answers_bad,
            (
              answers_unknown,
              (
                answers_wrong,
                (
                  answers_base,
                  (answers_live, (answers_many, (answers_time, tt))),
                ),
              ),
            ),
          ),
        ),
      ),
    ),
  )

  -- ---- the first that stands

  -- the commit has this fault, and none before it from this kind on
  abbrev IsLeastFrom : ℕ → PrepareFault → Type 0
  IsLeastFrom kind f = (kind ≤ rank f) × HasFault s c f
      × ((g : PrepareFault) → HasFault s c g → kind ≤ rank g → IsBefore g f → ⊥)

  later_least : (kind : ℕ) (f : PrepareFault) → ((g : PrepareFault) → rank g ≡ kind → HasFault s c g → ⊥)
      → IsLeastFrom (suc kind) f → IsLeastFrom kind f
  later_least kind f none rest =
      let up = rest.0 in (
        omega (arith, up),
        rest.1,
        λ g has from before. elim (cases_lt kind (rank g)) as (λ _. ⊥) [
          | inl less ↦ rest.2 g has (omega (arith, less)) before
          | inr le ↦ none g (omega (arith, from, le)) has
        ],
      )

  first_least : (kind : ℕ) (rs : List (Option PrepareFault)) (f : PrepareFault) → AllAnswer kind rs
      → first_reason rs ≡ Some f → IsLeastFrom kind f
  first_least kind [] f all e = absurd cc
  first_least kind (None ∷ rs) f all e = later_least kind f (all.0.0 refl) (first_least (suc kind) rs f all.1 e)
  first_least kind (Some r ∷ rs) f all e =
      let told = all.0.1 f e in
      let here = told.0 in (
        omega (arith, here),
        told.1,
        λ g has from before. elim before as (λ _. ⊥) [
          | inl less ↦ omega (arith, less, from, here)
          | inr names ↦ told.2 g has names
        ],
      )

  none_has : (kind : ℕ) (rs : List (Option PrepareFault)) → AllAnswer kind rs → first_reason rs ≡ None
      → (g : PrepareFault) → HasFault s c g → kind ≤ rank g → rank g < kind + length rs → ⊥
  none_has kind [] all e g has from to = omega (arith, from, to)
  none_has kind (None ∷ rs) all e g has from to = elim (cases_lt kind (rank g)) as (λ _. ⊥) [
    | inl less ↦ none_has (suc kind) rs all.1 e g has (omega (arith, less)) (omega (arith, to))
    | inr le ↦ all.0.0 refl g (omega (arith, from, le)) has
  ]
  none_has kind (Some r ∷ rs) all e g has from to = absurd cc

  none_there : refusal s c ≡ None → (g : PrepareFault) → HasFault s c g → ⊥
  unfolding refusal
  none_there e g has =
      let below = known s c g has in
      none_has 0 (reasons s c) all_answer e g has (omega arith) (omega (arith, below))

  least_told : (f : PrepareFault) → refusal s c ≡ Some f → IsLeast s c f
  unfolding refusal
  least_told f e =
      let r = first_least 0 (reasons s c) f all_answer e in
      (r.1, λ g has before. r.2 g has (omega arith) before)

  least_is_told : (f : PrepareFault) → IsLeast s c f → refusal s c ≡ Some f
  least_is_told f least = at (refusal s c) refl where
    at : (o : Option PrepareFault) → refusal s c ≡ o → refusal s c ≡ Some f
    at None e = absurd (none_there e f least.0)
    at (Some g) e =
        let told = least_told g e in
        e ∙ ap Some (same_fault g f (λ before. least.1 g told.0 before) (λ before. told.1 f least.0 before))

  not_refused : ((f : PrepareFault) → HasFault s c f → ⊥) → refusal s c ≡ None
  not_refused none = at (refusal s c) refl where
    at : (o : Option PrepareFault) → refusal s c ≡ o → refusal s c ≡ None
    at None e = e
    at (Some g) e = absurd (none g (least_told g e).0)

-- ---- preparing

module _ (h : History) (s : State) (is : state_of h ≡ Some s) (c : Commit) where
  abbrev Answer : Type 0
  Answer = Result Step PrepareFault

  abbrev made : Answer
  made = Ok (record { base = h; commit = c })

  refused : (f : PrepareFault) → prepared_on h c ≡ Err f → refusal s c ≡ Some f
  refused f e = at (refusal s c) refl where
    at : (o : Option PrepareFault) → refusal s c ≡ o → refusal s c ≡ Some f
    at None none = let no : ◌≡◌ {A = Answer} made (Err f) = sym (prepared_done h s is c none) ∙ e in absurd cc
    at (Some g) some =
        let both : ◌≡◌ {A = Answer} (Err g) (Err f) = sym (prepared_refused h s is c g some) ∙ e in
        let told : g ≡ f = cc in
        some ∙ ap Some told

  prepared : prepared_on h c ≡ made → refusal s c ≡ None
  prepared e = at (refusal s c) refl where
    at : (o : Option PrepareFault) → refusal s c ≡ o → refusal s c ≡ None
    at None none = none
    at (Some g) some =
        let no : ◌≡◌ {A = Answer} (Err g) made = sym (prepared_refused h s is c g some) ∙ e in absurd cc

pub tells_the_least : TellsTheLeast
tells_the_least h s c f is = (
  λ e. least_told s c f (refused h s is c f e),
  λ least. prepared_refused h s is c f (least_is_told s c f least),
)

pub prepares_where_none_is_there : PreparesWhereNoneIsThere
prepares_where_none_is_there h s c is = (
  λ e. none_there s c (prepared h s is c e),
  λ none. prepared_done h s is c (not_refused s c none),
)
