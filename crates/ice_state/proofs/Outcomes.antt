-- Lemmas on outcomes.
use Rattle.std.proofs.Common.{◌≡◌, ◌<◌, ◌≤◌, ℕ, zero, suc, List, [], ◌∷◌, refl, sym, ap, ◌∙◌, false, length, get_or}
use Rattle.std.proofs.Common.{◌++◌, append_assoc, ◌≢◌, Ok, Err, true, arith, drop, Option, Some, None, is_none}
use Rattle.ice_manifest_reading.specs.declared.entry.Entry.{Entry}
use Rattle.ice_manifest_reading.specs.declared.row.Row.{Row}
use Rattle.ice_state.specs.Readings.{Reading}
use Rattle.ice_state.specs.Readings.{Good, Bad}
use Rattle.ice_state.specs.Contents.{Content}
use Rattle.ice_state.specs.Lines.{OwnedLine}
use Rattle.ice_state.specs.Outcomes.{missing, bad, twice, kept_in, by_path, plan_over, first_or, outcome_of}
use Rattle.ice_state.specs.declared.fault.FinishFault.{FinishFault}
use Rattle.ice_manifest_fields.specs.declared.fault.ManifestFault.{ManifestFault}
use Rattle.ice_state.specs.declared.fault.FinishFault.TheVariants as faults
use Rattle.ice_state.specs.Parts.{fault_of, IsFirst, Stops}
use Rattle.ice_state.proofs.Gains.{behind-nothing}

-- a row that was taken isn't missing
pub missing_step : (rows : List Row) (slots : Content) (i : ℕ) (s : Option Reading) → i < length rows → i < length slots
    → s ≡ get_or slots i s → is_none s ≡ false → missing (drop (suc i) rows) (drop (suc i) slots) ≡ missing
    (drop i rows) (drop i slots)
missing_step [] slots i s l m h k = absurd (omega arith)
missing_step (row ∷ rows) [] i s l m h k = absurd (omega arith)
missing_step (row ∷ rows) (None ∷ slots) zero s l m h k = cc
missing_step (row ∷ rows) (Some r ∷ slots) zero s l m h k = refl
missing_step (row ∷ rows) (t ∷ slots) (suc i) s l m h k = missing_step rows slots i s (omega arith) (omega arith) h k

-- one that wasn't is the first of those that follow
pub missing_first : (rows : List Row) (slots : Content) (i : ℕ) (row : Row) (s : Option Reading) → i < length rows
    → i < length slots → row ≡ get_or rows i row → s ≡ get_or slots i s → is_none s ≡ true
    → IsFirst (faults.Missing row.path) (missing (drop i rows) (drop i slots))
missing_first [] slots i row s l m at h k = absurd (omega arith)
missing_first (r ∷ rs) [] i row s l m at h k = absurd (omega arith)
missing_first (r ∷ rs) (None ∷ slots) zero row s l m at h k = ap (λ (x : Row). faults.Missing x.path) at
missing_first (r ∷ rs) (Some t ∷ slots) zero row s l m at h k = cc
missing_first (r ∷ rs) (t ∷ slots) (suc i) row s l m at h k = missing_first rs slots i row s (omega arith) (omega arith)
    at h k

pub missing_end : (rows : List Row) (slots : Content) (i : ℕ) → length rows ≤ i → missing (drop i rows) slots ≡ []
missing_end [] slots zero l = refl
missing_end [] slots (suc i) l = refl
missing_end (r ∷ rs) slots zero l = absurd (omega arith)
missing_end (r ∷ rs) slots (suc i) l = missing_end rs slots i (omega arith)

-- a row that is good isn't bad
pub bad_step : (rows : List Row) (slots : Content) (i : ℕ) (s : Option Reading) → i < length rows → i < length slots
    → s ≡ get_or slots i s → fault_of s ≡ None → bad (drop (suc i) rows) (drop (suc i) slots) ≡ bad (drop i rows)
    (drop i slots)
bad_step [] slots i s l m h k = absurd (omega arith)
bad_step (row ∷ rows) [] i s l m h k = absurd (omega arith)
bad_step (row ∷ rows) (None ∷ slots) zero s l m h k = refl
bad_step (row ∷ rows) (Some (Good entries) ∷ slots) zero s l m h k = refl
bad_step (row ∷ rows) (Some (Bad f) ∷ slots) zero s l m h k = let e : Some f ≡ None = sym (ap fault_of h) ∙ k in cc
bad_step (row ∷ rows) (t ∷ slots) (suc i) s l m h k = bad_step rows slots i s (omega arith) (omega arith) h k

-- one that isn't is the first of those that follow
pub bad_first : (rows : List Row) (slots : Content) (i : ℕ) (row : Row) (s : Option Reading) (f : ManifestFault)
    → i < length rows → i < length slots → row ≡ get_or rows i row → s ≡ get_or slots i s → fault_of s ≡ Some f
    → IsFirst (faults.Bad row.path f) (bad (drop i rows) (drop i slots))
bad_first [] slots i row s f l m at h k = absurd (omega arith)
bad_first (r ∷ rs) [] i row s f l m at h k = absurd (omega arith)
bad_first (r ∷ rs) (None ∷ slots) zero row s f l m at h k = let e : None ≡ Some f = sym (ap fault_of h) ∙ k in cc
bad_first (r ∷ rs) (Some (Good entries) ∷ slots) zero row s f l m at h k =
    let e : None ≡ Some f = sym (ap fault_of h) ∙ k in cc
bad_first (r ∷ rs) (Some (Bad g) ∷ slots) zero row s f l m at h k =
    let e : Some g ≡ Some f = sym (ap fault_of h) ∙ k in
    let same : f ≡ g = cc in
    ap (λ (x : Row). faults.Bad x.path f) at ∙ ap (λ (x : ManifestFault). faults.Bad r.path x) same
bad_first (r ∷ rs) (t ∷ slots) (suc i) row s f l m at h k = bad_first rs slots i row s f (omega arith) (omega arith) at
    h k

pub bad_end : (rows : List Row) (slots : Content) (i : ℕ) → length rows ≤ i → bad (drop i rows) slots ≡ []
bad_end [] slots zero l = refl
bad_end [] slots (suc i) l = refl
bad_end (r ∷ rs) slots zero l = absurd (omega arith)
bad_end (r ∷ rs) slots (suc i) l = bad_end rs slots i (omega arith)

-- one entry or none shares no path
pub twice_short : (xs : List Entry) → length xs ≤ 1 → twice xs ≡ []
twice_short [] h = refl
twice_short (x ∷ []) h = refl
twice_short (x ∷ y ∷ ys) h = absurd (omega arith)

-- ---- the first fault

-- the first of faults that stand before others
pub stopped : (f : FinishFault) (fs gs : List FinishFault) (plan : List OwnedLine) → Stops f fs → f ≢ faults.Memory
    → first_or (fs ++ gs) plan ≡ Err f
stopped faults.Memory fs gs plan h other = absurd (other refl)
stopped (faults.Missing p) [] gs plan h other = absurd h
stopped (faults.Missing p) (g ∷ fs) gs plan h other = ap Err (sym h)
stopped (faults.Bad p e) [] gs plan h other = absurd h
stopped (faults.Bad p e) (g ∷ fs) gs plan h other = ap Err (sym h)
stopped (faults.PathTwice p) [] gs plan h other = absurd h
stopped (faults.PathTwice p) (g ∷ fs) gs plan h other = ap Err (sym h)

module _ (rows : List Row) (c : Content) where
  abbrev entries : List Entry
  entries = by_path (kept_in c)

  abbrev planned : List OwnedLine
  planned = plan_over entries entries

  regrouped : outcome_of rows c ≡ first_or (missing rows c ++ (bad rows c ++ twice entries)) planned
  regrouped = ap (λ (fs : List FinishFault). first_or fs planned)
      (append_assoc (missing rows c) (bad rows c) (twice entries))

  pub stopped_missing : (f : FinishFault) → Stops f (missing rows c) → f ≢ faults.Memory → outcome_of rows c ≡ Err f
  stopped_missing f h other = regrouped ∙ stopped f (missing rows c) (bad rows c ++ twice entries) planned h other

  none_missing : missing rows c ≡ [] → outcome_of rows c ≡ first_or (bad rows c ++ twice entries) planned
  none_missing none = regrouped
      ∙ ap (λ (ms : List FinishFault). first_or (ms ++ (bad rows c ++ twice entries)) planned) none

  pub stopped_bad : (f : FinishFault) → missing rows c ≡ [] → Stops f (bad rows c) → f ≢ faults.Memory
      → outcome_of rows c ≡ Err f
  stopped_bad f none h other = none_missing none ∙ stopped f (bad rows c) (twice entries) planned h other

  all_good : missing rows c ≡ [] → bad rows c ≡ [] → outcome_of rows c ≡ first_or (twice entries) planned
  all_good none good = none_missing none
      ∙ ap (λ (bs : List FinishFault). first_or (bs ++ twice entries) planned) good

  pub stopped_twice : (f : FinishFault) (xs : List Entry) → missing rows c ≡ [] → bad rows c ≡ [] → xs ≡ entries
      → Stops f (twice xs) → f ≢ faults.Memory → outcome_of rows c ≡ Err f
  stopped_twice f xs none good same h other =
      all_good none good
      ∙ ap (λ (ys : List Entry). first_or (twice ys) planned) (sym same)
      ∙ ap (λ (fs : List FinishFault). first_or fs planned) (sym (behind-nothing (twice xs) [] refl))
      ∙ stopped f (twice xs) [] planned h other

  pub finished : (xs : List Entry) (lines : List OwnedLine) → missing rows c ≡ [] → bad rows c ≡ [] → xs ≡ entries
      → twice xs ≡ [] → lines ≡ plan_over xs xs → outcome_of rows c ≡ Ok lines
  finished xs lines none good same once is =
      all_good none good
      ∙ ap (λ (ys : List Entry). first_or (twice ys) (plan_over ys ys)) (sym same)
      ∙ ap (λ (fs : List FinishFault). first_or fs (plan_over xs xs)) once
      ∙ ap (λ (ls : List OwnedLine). Ok ls) (sym is)
