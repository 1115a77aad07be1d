-- What is told of neighbouring rows of a scan, and of others behind them.
use Rattle.std.proofs.Common.{◌≡◌, ◌<◌, ◌≤◌, ◌+◌, ◌-◌, inl, inr, ⊎_elim, ℕ, zero, suc, Bool, true, false, ◌||◌, cond}
use Rattle.std.proofs.Common.{List, [], ◌∷◌, ◌++◌, length, drop, filter, Option, None, Some, replicate, refl, sym, ap, ◌∙◌}
use Rattle.std.proofs.Common.{subst, arith, add-one, append-nil, get_or, length-drop, take}
use Rattle.std.specs.Prelude.{Result, Ok, Err, slice_get}
use mir.Val.{bool_byte}
use Rattle.std.proofs.Math.Seq.{drop-append_seam, drop-nil, take-append_seam, take-suc}
use Rattle.std.proofs.lemmas.Bool.{cases_lt}
use Rattle.std.proofs.lemmas.List.{append_assoc, drop-drop, length-append}
use Rattle.std.proofs.lemmas.List.Elements.{filter-append}
use Rattle.std.proofs.lemmas.Grind.{flat_map-append}
use Rattle.contract_words.specs.Outcome.{◌>>=◌}
use Rattle.ice_desk.proofs.Given.{join_given}
use Rattle.ice_desk.proofs.Taking.{below_or_at, none_untaken, taken_before, taken_here}
use Rattle.ice_desk.specs.Given.{AreSlotsGiven, Giving}
use Rattle.ice_desk.specs.Wanted.{paths_of, untaken as untaken_rows}
use Rattle.ice_desk.specs.Worlds.{EndsAt}
use Rattle.ice_manifest_reading.specs.declared.entry.Entry.{Entry}
use Rattle.ice_manifest_reading.specs.declared.row.Row.{Row}
use Rattle.ice_state.proofs.Joins.{join-content}
use Rattle.ice_state.specs.Contents.{Content, World, add, content, every_row, is_row_taken, took, took_at}
use Rattle.ice_state.specs.Joins.{either, join}
use Rattle.ice_state.specs.Outcomes.{entries_in, kept_in}
use Rattle.ice_state.specs.Scans.{Scanned}
use Rattle.icescan_text.proofs.Steps.{first_ends, step}
use Rattle.icescan_text.specs.Reads.{MayEnd, all_present, file_in}
use Rattle.icescan_text.specs.declared.fault.RunFault.{RunFault}
use Rattle.icescan_explain.specs.RowsTold.{AreToldOf, is_wanted, row_told, rows_told}
use Rattle.icescan_explain.specs.Told.{paths_kept, paths_of_data}
use Rattle.icescan_explain.specs.ToldRanges.{AreWantedFrom, TellsRows, between, count_of, wanted_of}
use Rattle.icescan_explain.specs.declared.by_workers.ToldRows.{ToldRows}
use Rattle.icescan_explain.specs.declared.tests.FilterTests.{FilterTests}
use Rattle.icescan_explain.specs.declared.verdict.Verdict.{Verdict}
use Rattle.icescan_explain.proofs.AnyKept.{none_in, untaken}
use Rattle.icescan_explain.proofs.Ends.{later_ends}
use Rattle.icescan_explain.proofs.Kept.{both_data, both_kept}

-- ---- where the wanted rows stand

drop_none : (rows : List Row) → drop 0 rows ≡ rows
drop_none [] = refl
drop_none (row ∷ rows) = refl

get_front : (xs ys : List Row) (k : ℕ) (row : Row) → slice_get xs k ≡ Some row → slice_get (xs ++ ys) k ≡ Some row
get_front [] ys k row h = absurd cc
get_front (x ∷ xs) ys zero row h = h
get_front (x ∷ xs) ys (suc k) row h = get_front xs ys k row h

get_behind : (rows : List Row) (n k at : ℕ) (row : Row) → at ≡ n + k → slice_get (drop n rows) k ≡ Some row
    → slice_get rows at ≡ Some row
get_behind [] n k at row e h =
    let none : None ≡ Some row = ap (λ (rs : List Row). slice_get rs k) (sym (drop-nil n)) ∙ h in absurd cc
get_behind (r ∷ rows) zero k at row e h = let same : at ≡ k = omega (arith, e) in
    ap (slice_get (r ∷ rows)) same ∙ h
get_behind (r ∷ rows) (suc n) k zero row e h = absurd (omega (arith, e))
get_behind (r ∷ rows) (suc n) k (suc at) row e h = get_behind rows n k at row (omega (arith, e)) h

module _ (tests : FilterTests) (scan : Scanned) where
  -- from the scan's first row on
  pub from_start : (rows : List Row) → scan.wanted ≡ filter (is_wanted tests) rows → AreWantedFrom tests scan 0 rows
  from_start rows h = (
    [],
    drop_none scan.wanted ∙ h ∙ sym (append-nil (wanted_of tests rows)),
    omega arith,
  )

  module _ (first : ℕ) (xs ys : List Row) (h : AreWantedFrom tests scan first (xs ++ ys)) where
    in_both : drop first scan.wanted ≡ wanted_of tests xs ++ (wanted_of tests ys ++ h.0)
    in_both = h.1 ∙ ap (λ (rs : List Row). rs ++ h.0) (filter-append (is_wanted tests) xs ys)
        ∙ append_assoc (wanted_of tests xs) (wanted_of tests ys) h.0

    pub front_wanted : AreWantedFrom tests scan first xs
    front_wanted = (wanted_of tests ys ++ h.0, in_both, h.2)

    pub behind_wanted : AreWantedFrom tests scan (first + count_of tests xs) ys
    behind_wanted =
        let xs_wanted = wanted_of tests xs in
        let rest : List Row = wanted_of tests ys ++ h.0 in
        let long : length (drop first scan.wanted) ≡ length xs_wanted + length rest =
        ap length in_both ∙ length-append xs_wanted rest in (
          h.0,
          sym (drop-drop (length xs_wanted) first scan.wanted) ∙ ap (drop (length xs_wanted)) in_both
              ∙ drop-append_seam xs_wanted rest,
          omega (arith, long, length-drop first scan.wanted, h.2),
        )

  -- the wanted row that is the next one
  pub row_at : (first : ℕ) (rows : List Row) → AreWantedFrom tests scan first rows → (k at : ℕ) (row : Row)
      → at ≡ first + k → slice_get (wanted_of tests rows) k ≡ Some row → slice_get scan.wanted at ≡ Some row
  row_at first rows h k at row e is = get_behind scan.wanted first k at row e
      (ap (λ (rs : List Row). slice_get rs k) h.1 ∙ get_front (wanted_of tests rows) h.0 k row is)

pub range_within : (tests : FilterTests) (scan : Scanned) (first : ℕ) (rows : List Row)
    → AreWantedFrom tests scan first rows → first + count_of tests rows ≤ length scan.wanted
range_within tests scan first rows h =
    let long : length (drop first scan.wanted) ≡ count_of tests rows + length h.0 =
    ap length h.1 ∙ length-append (wanted_of tests rows) h.0 in
    omega (arith, long, length-drop first scan.wanted, h.2)

-- no more of them are wanted than there are
pub few_wanted : (tests : FilterTests) (rows : List Row) → count_of tests rows ≤ length rows
few_wanted tests [] = omega arith
few_wanted tests (row ∷ rows) = go (is_wanted tests row) (few_wanted tests rows) where
  go : (b : Bool) → count_of tests rows ≤ length rows
      → length (cond b (row ∷ wanted_of tests rows) (wanted_of tests rows)) ≤ length (row ∷ rows)
  go true few = omega (arith, few)
  go false few = omega (arith, few)

-- those of two parts
pub count_parts : (tests : FilterTests) (xs ys : List Row) → count_of tests (xs ++ ys)
    ≡ count_of tests xs + count_of tests ys
count_parts tests xs ys =
    ap length (filter-append (is_wanted tests) xs ys) ∙ length-append (wanted_of tests xs) (wanted_of tests ys)

-- the first of two parts
pub front_is : (rows xs ys : List Row) (n : ℕ) → rows ≡ xs ++ ys → length xs ≡ n → take n rows ≡ xs
front_is rows xs ys n both long =
    rw (both, ← long) (take-append_seam xs ys)

one_row : (b : Bool) (row : Row) → length (cond b (row ∷ []) []) ≡ bool_byte b
one_row true row = refl
one_row false row = refl

-- one more row
pub count_more : (tests : FilterTests) (rows : List Row) (i : ℕ) (row : Row) (n : ℕ) → i < length rows
    → row ≡ get_or rows i row → n ≡ count_of tests (take i rows)
    → n + bool_byte (is_wanted tests row) ≡ count_of tests (take (i + 1) rows)
count_more tests rows i row n lt is h =
    let test : Row → Bool = is_wanted tests in
    let more : take (i + 1) rows ≡ take i rows ++ row ∷ [] = ap (λ k. take k rows) (add-one i) ∙ take-suc rows i row lt
    ∙ ap (λ x. take i rows ++ x ∷ []) (sym is) in
    sym (ap (count_of tests) more ∙ ap length (filter-append test (take i rows) (row ∷ []))
    ∙ length-append (filter test (take i rows)) (cond (test row) (row ∷ []) [])
    ∙ ap (λ k. count_of tests (take i rows) + k) (one_row (test row) row) ∙ ap (λ k. k + bool_byte (test row)) (sym h))

-- ---- the set of the rows that were taken

none_or_none : (a b c : ℕ) → c ≡ a + b → replicate a false ++ replicate b false ≡ replicate c false
none_or_none zero b c e = ap (λ n. replicate n false) (omega (arith, e))
none_or_none (suc a) b zero e = absurd (omega (arith, e))
none_or_none (suc a) b (suc c) e = ap (λ ts. false ∷ ts) (none_or_none a b c (omega (arith, e)))

pub none_between : (first n : ℕ) → first ≤ n → between first 0 (n - (first + 0)) ≡ replicate n false
none_between first n within = none_or_none first (n - (first + 0)) n (omega (arith, within))

pub all_between : (n : ℕ) → between 0 n (n - (0 + n)) ≡ replicate n true
all_between n =
    let none : n - (0 + n) ≡ 0 = omega arith in
    ap (λ k. replicate n true ++ replicate k false) none ∙ append-nil (replicate n true)

one_more : (a b c at : ℕ) → at ≡ a + b → add (between a b (suc c)) at ≡ between a (suc b) c
one_more zero zero c zero e = refl
one_more zero zero c (suc at) e = absurd (omega (arith, e))
one_more zero (suc b) c zero e = absurd (omega (arith, e))
one_more zero (suc b) c (suc at) e = ap (λ ts. true ∷ ts) (one_more zero b c at (omega (arith, e)))
one_more (suc a) b c zero e = absurd (omega (arith, e))
one_more (suc a) b c (suc at) e = ap (λ ts. false ∷ ts) (one_more a b c at (omega (arith, e)))

pub set_between : (first k n at : ℕ) (b : Bool) → at ≡ first + k → (b ≡ true → at < n)
    → cond b (add (between first k (n - (first + k))) at) (between first k (n - (first + k)))
    ≡ between first (cond b (k + 1) k) (n - (first + cond b (k + 1) k))
set_between first k n at true e within =
    let lt : at < n = within refl in
    let more : n - (first + k) ≡ suc (n - (first + (k + 1))) = omega (arith, e, lt) in
    ap (λ r. add (between first k r) at) more ∙ one_more first k (n - (first + (k + 1))) at e
    ∙ ap (λ m. between first m (n - (first + (k + 1)))) (sym (add-one k))
set_between first k n at false e within = refl

or_none : (k : ℕ) (us : List Bool) → length us ≡ k → either (replicate k false) us ≡ us
or_none zero us e = refl
or_none (suc k) [] e = absurd (omega (arith, e))
or_none (suc k) (u ∷ us) e = ap (λ ts. u ∷ ts) (or_none k us (omega (arith, e)))

long_range : (b c : ℕ) → length (replicate b true ++ replicate c false) ≡ b + c
long_range zero zero = refl
long_range zero (suc c) = ap suc (long_range zero c) ∙ omega arith
long_range (suc b) c = ap suc (long_range b c) ∙ omega arith

either_range : (a b c d r at : ℕ) → r ≡ c + d → at ≡ a + b
    → either (between a b r) (between at c d) ≡ between a (b + c) d
either_range zero zero c d r zero e f =
    let same : c ≡ zero + c = omega arith in
    ap (λ n. either (replicate n false) (between 0 c d)) e ∙ or_none (c + d) (between 0 c d) (long_range c d)
    ∙ ap (λ n. between 0 n d) same
either_range zero zero c d r (suc at) e f = absurd (omega (arith, f))
either_range zero (suc b) c d r zero e f = absurd (omega (arith, f))
either_range zero (suc b) c d r (suc at) e f =
    let same : suc (b + c) ≡ suc b + c = omega arith in
    ap (λ ts. true ∷ ts) (either_range zero b c d r at e (omega (arith, f))) ∙ ap (λ n. between 0 n d) same
either_range (suc a) b c d r zero e f = absurd (omega (arith, f))
either_range (suc a) b c d r (suc at) e f = ap (λ ts. false ∷ ts) (either_range a b c d r at e (omega (arith, f)))

-- ---- which rows a state has

pub none_taken : (n j : ℕ) → is_row_taken (untaken n) j ≡ false
none_taken zero zero = refl
none_taken zero (suc j) = refl
none_taken (suc n) zero = refl
none_taken (suc n) (suc j) = none_taken n j

all_none : (c : Content) → ((j : ℕ) → is_row_taken c j ≡ false) → c ≡ untaken (length c)
all_none [] h = refl
all_none (Some r ∷ c) h = let no : true ≡ false = h 0 in absurd cc
all_none (None ∷ c) h = ap (λ (ds : Content). None ∷ ds) (all_none c (λ j. h (suc j)))

pub none_behind : (c : Content) (n : ℕ) → ((j : ℕ) → n ≤ j → is_row_taken c j ≡ false)
    → drop n c ≡ untaken (length c - n)
none_behind [] n h = let none : 0 ≡ 0 - n = omega arith in drop-nil n ∙ ap untaken none
none_behind (s ∷ c) zero h =
    let same : length (s ∷ c) ≡ length (s ∷ c) - 0 = omega arith in
    all_none (s ∷ c) (λ j. h j (omega arith)) ∙ ap untaken same
none_behind (s ∷ c) (suc n) h =
    let same : length c - n ≡ length (s ∷ c) - suc n = omega arith in
    none_behind c n (λ j l. h (suc j) (omega (arith, l))) ∙ ap untaken same

took_elsewhere : (scan : Scanned) (c : Content) (rows : List Row) (i j : ℕ) (bytes : List ℕ)
    → (j ≡ i → ⊥) → is_row_taken c j ≡ false → is_row_taken (took_at scan c rows i bytes) j ≡ false
took_elsewhere scan [] rows i j bytes n h = h
took_elsewhere scan (s ∷ ss) [] i j bytes n h = h
took_elsewhere scan (s ∷ ss) (row ∷ rows) zero zero bytes n h = absurd (n refl)
took_elsewhere scan (s ∷ ss) (row ∷ rows) zero (suc j) bytes n h = h
took_elsewhere scan (s ∷ ss) (row ∷ rows) (suc i) zero bytes n h = h
took_elsewhere scan (s ∷ ss) (row ∷ rows) (suc i) (suc j) bytes n h =
    took_elsewhere scan ss rows i j bytes (λ e. n (ap suc e)) h

module _ (scan : Scanned) (c : Content) (first n : ℕ) (bytes : List ℕ) where
  pub each_more : (b : Bool) → length c ≡ length scan.wanted → (b ≡ true → n < length scan.wanted)
      → ((j : ℕ) → first ≤ j → j < n → is_row_taken c j ≡ true)
      → (j : ℕ) → first ≤ j → j < cond b (n + 1) n → is_row_taken (cond b (took scan c n bytes) c) j ≡ true
  each_more false of_scan within each j f l = each j f l
  each_more true of_scan within each j f l = ⊎_elim
      (λ below. taken_before scan c scan.wanted n j bytes (each j f below))
      (λ e. ap (is_row_taken (took scan c n bytes)) e
      ∙ taken_here scan c scan.wanted n bytes of_scan (omega (arith, within refl, of_scan)))
      (below_or_at j n l)

  pub none_more_before : (b : Bool) → first ≤ n → ((j : ℕ) → j < first → is_row_taken c j ≡ false)
      → (j : ℕ) → j < first → is_row_taken (cond b (took scan c n bytes) c) j ≡ false
  none_more_before false from before j l = before j l
  none_more_before true from before j l =
      took_elsewhere scan c scan.wanted n j bytes (λ e. omega (arith, e, l, from)) (before j l)

  pub none_more_behind : (b : Bool) → ((j : ℕ) → n ≤ j → is_row_taken c j ≡ false)
      → (j : ℕ) → cond b (n + 1) n ≤ j → is_row_taken (cond b (took scan c n bytes) c) j ≡ false
  none_more_behind false behind j l = behind j l
  none_more_behind true behind j l =
      took_elsewhere scan c scan.wanted n j bytes (λ e. omega (arith, e, l)) (behind j (omega (arith, l)))

pub next_place : (b : Bool) (first k at : ℕ) → at ≡ first + k → cond b (at + 1) at ≡ first + cond b (k + 1) k
next_place true first k at e = omega (arith, e)
next_place false first k at e = e

pub next_within : (b : Bool) (k n : ℕ) → k ≤ n → (b ≡ true → k < n) → cond b (k + 1) k ≤ n
next_within true k n le lt = let l : k < n = lt refl in omega (arith, l)
next_within false k n le lt = le

-- ---- two states of neighbouring ranges

joined_long : (a b : Content) → length a ≡ length b → length (join a b) ≡ length b
joined_long [] [] e = refl
joined_long [] (d ∷ b) e = absurd (omega (arith, e))
joined_long (s ∷ a) [] e = absurd (omega (arith, e))
joined_long (s ∷ a) (d ∷ b) e = ap suc (joined_long a b (omega (arith, e)))

joined_at : (a b : Content) (j : ℕ) → length a ≡ length b
    → is_row_taken (join a b) j ≡ (is_row_taken a j || is_row_taken b j)
joined_at [] [] zero e = refl
joined_at [] [] (suc j) e = refl
joined_at [] (d ∷ b) j e = absurd (omega (arith, e))
joined_at (s ∷ a) [] j e = absurd (omega (arith, e))
joined_at (Some r ∷ a) (d ∷ b) zero e = refl
joined_at (None ∷ a) (d ∷ b) zero e = refl
joined_at (s ∷ a) (d ∷ b) (suc j) e = joined_at a b j (omega (arith, e))

joined_kept : (a b : Content) (k : ℕ) → length a ≡ length b → ((j : ℕ) → j < k → is_row_taken b j ≡ false)
    → ((j : ℕ) → k ≤ j → is_row_taken a j ≡ false) → kept_in (join a b) ≡ kept_in a ++ kept_in b
joined_kept [] [] k e before behind = refl
joined_kept [] (d ∷ b) k e before behind = absurd (omega (arith, e))
joined_kept (s ∷ a) [] k e before behind = absurd (omega (arith, e))
joined_kept (Some r ∷ a) (d ∷ b) zero e before behind =
    let no : true ≡ false = behind 0 (omega arith) in absurd cc
joined_kept (None ∷ a) (d ∷ b) zero e before behind =
    let later : (j : ℕ) → is_row_taken a j ≡ false = λ j. behind (suc j) (omega arith) in
    let none : kept_in a ≡ [] = ap kept_in (all_none a later) ∙ none_in (length a) in
    let rest = joined_kept a b 0 (omega (arith, e)) (λ j l. absurd (omega (arith, l))) (λ j l. later j) in
    ap (λ (xs : List Entry). entries_in d ++ xs) (rest ∙ ap (λ (xs : List Entry). xs ++ kept_in b) none)
    ∙ sym (ap (λ (xs : List Entry). xs ++ (entries_in d ++ kept_in b)) none)
joined_kept (s ∷ a) (Some q ∷ b) (suc k) e before behind =
    let no : true ≡ false = before 0 (omega arith) in absurd cc
joined_kept (None ∷ a) (None ∷ b) (suc k) e before behind = joined_kept a b k (omega (arith, e))
    (λ j l. before (suc j) (omega (arith, l))) (λ j l. behind (suc j) (omega (arith, l)))
joined_kept (Some r ∷ a) (None ∷ b) (suc k) e before behind =
    let rest = joined_kept a b k (omega (arith, e))
    (λ j l. before (suc j) (omega (arith, l))) (λ j l. behind (suc j) (omega (arith, l))) in
    ap (λ (xs : List Entry). entries_in (Some r) ++ xs) rest
    ∙ sym (append_assoc (entries_in (Some r)) (kept_in a) (kept_in b))

-- ---- what was told of both

both_told : (gives : Giving) (tests : FilterTests) (xs ys : List Row) (a b : List Verdict)
    → AreToldOf gives tests xs a → AreToldOf gives tests ys b → AreToldOf gives tests (xs ++ ys) (a ++ b)
both_told gives tests [] ys a b h k =
    subst (AreToldOf gives tests ys) (sym (ap (λ (vs : List Verdict). vs ++ b) h)) k
both_told gives tests (row ∷ xs) ys a b h k = (
  h.0,
  h.1 ++ b,
  h.2,
  both_told gives tests xs ys h.1 b h.3 k,
  ap (λ (vs : List Verdict). vs ++ b) h.4 ∙ append_assoc h.0 h.1 b,
)

in_turn : {A : Type 0} (read : Result A RunFault) (next last : Result Unit RunFault)
    → (read >>= λ _. (next >>= λ _. last)) ≡ ((read >>= λ _. next) >>= λ _. last)
in_turn (Ok x) next last = refl
in_turn (Err e) next last = refl

module _ (world : World) where
  parted : (xs ys : List Row) → all_present world (xs ++ ys) ≡ (all_present world xs >>= λ _. all_present world ys)
  unfolding all_present
  parted [] ys = refl
  parted (row ∷ xs) ys = ap (λ (found : Result Unit RunFault). file_in world row.path >>= λ _. found) (parted xs ys)
      ∙ in_turn (file_in world row.path) (all_present world xs) (all_present world ys)

  both_present : (xs ys : List Row) → all_present world xs ≡ Ok tt → all_present world ys ≡ Ok tt
      → all_present world (xs ++ ys) ≡ Ok tt
  both_present xs ys is has = parted xs ys ∙ rw (is, has) refl

  module _ (f : List ℕ → Type 0) where
    in_first : (xs ys : List Row) (path : List ℕ) → EndsAt world f (paths_of xs) path
        → EndsAt world f (paths_of (xs ++ ys)) path
    in_first [] ys path h = absurd h
    in_first (row ∷ xs) ys path (inl h) = inl h
    in_first (row ∷ xs) ys path (inr h) = inr (h.0, in_first xs ys path h.1)

    first_ends_both : (xs ys : List Row) (e : RunFault)
        → MayEnd (all_present world xs) (EndsAt world f (paths_of xs)) ⊥ e
        → MayEnd (all_present world (xs ++ ys)) (EndsAt world f (paths_of (xs ++ ys))) ⊥ e
    first_ends_both xs ys e h =
        subst (λ found. MayEnd found (EndsAt world f (paths_of (xs ++ ys))) ⊥ e) (sym (parted xs ys))
        (first_ends (EndsAt world f (paths_of (xs ++ ys))) ⊥ (EndsAt world f (paths_of xs))
        (all_present world xs) _ e (in_first xs ys) h)

    others_end_both : (xs ys : List Row) (e : RunFault) → all_present world xs ≡ Ok tt
        → MayEnd (all_present world ys) (EndsAt world f (paths_of ys)) ⊥ e
        → MayEnd (all_present world (xs ++ ys)) (EndsAt world f (paths_of (xs ++ ys))) ⊥ e
    unfolding all_present
    others_end_both [] ys e is h = h
    others_end_both (row ∷ xs) ys e is h =
        let one = step (file_in world row.path) _ tt is in
        later_ends f world row (xs ++ ys) one.0 e one.1 (others_end_both xs ys e one.2 h)

-- ---- the answers for both

module _ (told : Option World) (f : List ℕ → Type 0) (gives : Giving) (tests : FilterTests) (scan : Scanned)
    (first : ℕ) (rows xs ys : List Row) (whole : rows ≡ xs ++ ys) where
  wanted_both : wanted_of tests rows ≡ wanted_of tests xs ++ wanted_of tests ys
  wanted_both = ap (wanted_of tests) whole ∙ filter-append (is_wanted tests) xs ys

  count_both : count_of tests rows ≡ count_of tests xs + count_of tests ys
  count_both = ap (count_of tests) whole ∙ count_parts tests xs ys

  abbrev Ends : World → List Row → RunFault → Type 0
  Ends world wanted e = MayEnd (all_present world wanted) (EndsAt world f (paths_of wanted)) ⊥ e

  pub refused_first : (e : RunFault) → TellsRows told f gives tests scan first xs (Err e)
      → TellsRows told f gives tests scan first rows (Err e)
  refused_first e r = record {
    all = tt;
    refused = λ world is. subst (λ (wanted : List Row). Ends world wanted e) (sym wanted_both)
        (first_ends_both world f (wanted_of tests xs) (wanted_of tests ys) e (r.refused world is));
    absent = r.absent;
    device = r.device;
    write = r.write;
  }

  pub refused_behind : (at : ℕ) (a : ToldRows) (e : RunFault) → TellsRows told f gives tests scan first xs (Ok a)
      → TellsRows told f gives tests scan at ys (Err e) → TellsRows told f gives tests scan first rows (Err e)
  refused_behind at a e one r = record {
    all = tt;
    refused = λ world is. subst (λ (wanted : List Row). Ends world wanted e) (sym wanted_both)
        (others_end_both world f (wanted_of tests xs) (wanted_of tests ys) e (one.all.present world is)
        (r.refused world is));
    absent = r.absent;
    device = r.device;
    write = r.write;
  }

  pub told_both : (at : ℕ) → at ≡ first + count_of tests xs → first + count_of tests rows ≤ length scan.wanted
      → (a b x : ToldRows) → x.state ≡ join a.state b.state → x.verdicts ≡ a.verdicts ++ b.verdicts
      → TellsRows told f gives tests scan first xs (Ok a) → TellsRows told f gives tests scan at ys (Ok b)
      → TellsRows told f gives tests scan first rows (Ok x)
  told_both at e within a b x state verdicts one two =
      let p = one.all in
      let q = two.all in
      let n = length scan.wanted in
      let same : length a.state ≡ length b.state = p.of_scan ∙ sym q.of_scan in
      let sum = count_both in
      let taken_at : (j : ℕ) → is_row_taken x.state j ≡ (is_row_taken a.state j || is_row_taken b.state j) =
      λ j. ap (λ (c : Content). is_row_taken c j) state ∙ joined_at a.state b.state j same in
      record {
        all = record {
          of_scan = ap length state ∙ joined_long a.state b.state same ∙ q.of_scan;
          each = λ j from l. taken_at j ∙ ⊎_elim
              (λ below. rw (p.each j from below) refl)
              (λ past. ap (λ t. is_row_taken a.state j || t)
              (q.each j (omega (arith, past, e)) (omega (arith, l, sum, e))) ∙ or_true (is_row_taken a.state j))
              (cases_lt j (first + count_of tests xs));
          before = λ j l. taken_at j ∙ rw (p.before j l, q.before j (omega (arith, l, e))) refl;
          behind = λ j l. taken_at j
              ∙ rw (p.behind j (omega (arith, l, sum)), q.behind j (omega (arith, l, sum, e))) refl;
          told = λ world is. verdicts ∙ ap (λ (vs : List Verdict). vs ++ b.verdicts) (p.told world is)
              ∙ ap (λ (vs : List Verdict). rows_told tests world xs ++ vs) (q.told world is)
              ∙ sym (flat_map-append (row_told tests world) xs ys) ∙ ap (rows_told tests world) (sym whole);
          taken = λ world is. state
              ∙ ap (λ (c : Content). join c b.state) (p.taken world is)
              ∙ ap (join (content world scan
              (between first (count_of tests xs) (n - (first + count_of tests xs))))) (q.taken world is)
              ∙ join-content world scan (between first (count_of tests xs) (n - (first + count_of tests xs)))
              (between at (count_of tests ys) (n - (at + count_of tests ys))) scan.wanted
              ∙ ap (content world scan) (either_range first (count_of tests xs) (count_of tests ys)
              (n - (at + count_of tests ys)) (n - (first + count_of tests xs)) at
              (omega (arith, e, sum, within)) e)
              ∙ ap (λ k. content world scan (between first k (n - (at + count_of tests ys)))) (sym sum)
              ∙ ap (λ k. content world scan (between first (count_of tests rows) k)) (omega (arith, e, sum));
          present = λ world is. ap (all_present world) wanted_both
              ∙ both_present world (wanted_of tests xs) (wanted_of tests ys) (p.present world is) (q.present world is);
          read = subst (AreToldOf gives tests rows) (sym verdicts)
              (subst (λ (rs : List Row). AreToldOf gives tests rs (a.verdicts ++ b.verdicts)) (sym whole)
              (both_told gives tests xs ys a.verdicts b.verdicts p.read q.read));
          kept = ap paths_kept verdicts ∙ both_kept a.verdicts b.verdicts
              ∙ ap (λ (ps : List (List ℕ)). ps ++ paths_kept b.verdicts) p.kept
              ∙ ap (λ (ps : List (List ℕ)). paths_of_data (kept_in a.state) ++ ps) q.kept
              ∙ sym (both_data (kept_in a.state) (kept_in b.state))
              ∙ ap paths_of_data (sym (ap kept_in state
              ∙ joined_kept a.state b.state at same (λ j l. q.before j l)
              (λ j l. p.behind j (omega (arith, l, e)))));
          given = subst (λ (c : Content). AreGivenIn c) (sym state)
              (join_given gives scan scan.wanted a.state b.state p.given q.given);
        };
        refused = λ world is. tt;
        absent = λ path is. absurd cc;
        device = λ path is. absurd cc;
        write = λ is. absurd cc;
      }
    where
      AreGivenIn : Content → Type 0
      AreGivenIn c = AreSlotsGiven gives scan scan.wanted c

      or_true : (b : Bool) → (b || true) ≡ true
      or_true true = refl
      or_true false = refl

-- ---- all rows

module _ (tests : FilterTests) (world : World) (scan : Scanned) (rows : List Row)
    (wants : scan.wanted ≡ filter (is_wanted tests) rows) where
  pub whole_content : content world scan
      (between 0 (count_of tests rows) (length scan.wanted - (0 + count_of tests rows)))
      ≡ content world scan (every_row scan)
  whole_content = ap (λ n. content world scan (between 0 n (length scan.wanted - (0 + n)))) (sym (ap length wants))
      ∙ ap (content world scan) (all_between (length scan.wanted))

pub whole_taken : (tests : FilterTests) (scan : Scanned) (rows : List Row)
    → scan.wanted ≡ filter (is_wanted tests) rows → (c : Content) → length c ≡ length scan.wanted
    → ((j : ℕ) → 0 ≤ j → j < 0 + count_of tests rows → is_row_taken c j ≡ true) → untaken_rows c scan.wanted ≡ []
whole_taken tests scan rows wants c of_scan each =
    none_untaken c scan.wanted of_scan
    (λ j l. each j (omega arith) (omega (arith, l, ap length wants)))
