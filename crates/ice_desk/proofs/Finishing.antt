-- Finishing what workers took and the caller took after them.
use Rattle.std.proofs.Common.{◌≡◌, ◌≢◌, inl, inr, ℕ, Bool, true, false, List, [], ◌∷◌, ◌++◌, length, Option, Some, None}
use Rattle.std.proofs.Common.{is_some, option_map, Result, Err, sym, refl, ap, ◌∙◌, if◌then◌else◌}
use Rattle.std.specs.List.{AllByRecursion}
use Rattle.std.specs.Str.{bytes_eq}
use Rattle.ice_manifest_reading.specs.declared.entry.Entry.{Entry}
use Rattle.ice_manifest_reading.specs.declared.row.Row.{Row}
use Rattle.ice_state.specs.declared.fault.FinishFault.{FinishFault}
use Rattle.ice_state.specs.declared.fault.FinishFault.TheVariants as finish
use Rattle.ice_state.specs.Readings.{Good, Bad}
use Rattle.ice_state.specs.Contents.{Content, World, HasEach, reading_of, slots_of}
use Rattle.ice_state.specs.Lines.{OwnedLine}
use Rattle.ice_state.specs.Outcomes.{bad, first_or, missing, outcome, twice, by_path, kept_in}
use Rattle.ice_state.specs.Scans.{Scanned}
use Rattle.ice_desk.specs.declared.fault.PlanFault.TheVariants as plan
use Rattle.ice_desk.specs.declared.fault.WantedFault.{WantedFault}
use Rattle.ice_desk.specs.declared.fault.WantedFault.TheVariants as wanted
use Rattle.ice_desk.specs.Faults.{of_finish, of_wanted}
use Rattle.ice_desk.specs.Plans.{GivesPlan, IfFinished, MayStopPlan}
use Rattle.ice_desk.specs.Wanted.{IsContentOf, MayStop, paths_of, untaken}
use Rattle.ice_desk.specs.Worlds.{EndsAt}

-- ---- what workers took is there

present_one : (world : World) (scan : Scanned) (found : Option (List ℕ)) (row : Row) (rows : List Row) (ss : Content)
    → world row.path ≡ found
    → HasEach world (untaken (option_map (reading_of scan row) found ∷ ss) (row ∷ rows))
    → (is_some (world row.path) ≡ true) × HasEach world (untaken ss rows)
present_one world scan (Some bytes) row rows ss is h = (ap is_some is, h)
present_one world scan None row rows ss is h = h

present_all : (world : World) (scan : Scanned) (ts : List Bool) (rows : List Row) → length ts ≡ length rows
    → HasEach world (untaken (slots_of world scan ts rows) rows) → HasEach world rows
present_all world scan [] [] e h = tt
present_all world scan [] (row ∷ rows) e h = absurd cc
present_all world scan (t ∷ ts) [] e h = tt
present_all world scan (true ∷ ts) (row ∷ rows) e h =
    let k = present_one world scan (world row.path) row rows (slots_of world scan ts rows) refl h in
    (k.0, present_all world scan ts rows (let d : length ts ≡ length rows = cc in d) k.1)
present_all world scan (false ∷ ts) (row ∷ rows) e h = (
  h.0,
  present_all world scan ts rows (let d : length ts ≡ length
      rows = cc in d) h.1,
)

-- where those that were not taken are there, all are
pub each_present : (world : World) (scan : Scanned) (c : Content) (ts : List Bool) → IsContentOf world scan c ts
    → HasEach world (untaken c scan.wanted) → HasEach world scan.wanted
each_present world scan c ts is h = present_all world scan ts scan.wanted is.flags (rw is.is at h)

-- ---- where the reading of those that were not taken stops

ends_one : (world : World) (so : List ℕ → Type 0) (scan : Scanned) (found : Option (List ℕ)) (row : Row)
    (rows : List Row) (ss : Content) (path : List ℕ) → world row.path ≡ found
    → (EndsAt world so (paths_of (untaken ss rows)) path → EndsAt world so (paths_of rows) path)
    → EndsAt world so (paths_of (untaken (option_map (reading_of scan row) found ∷ ss) (row ∷ rows))) path
    → EndsAt world so (paths_of (row ∷ rows)) path
ends_one world so scan (Some bytes) row rows ss path is later h = inr (ap is_some is, later h)
ends_one world so scan None row rows ss path is later (inl h) = inl h
ends_one world so scan None row rows ss path is later (inr h) = inr (h.0, later h.1)

ends_all : (world : World) (so : List ℕ → Type 0) (scan : Scanned) (ts : List Bool) (rows : List Row) (path : List ℕ)
    → EndsAt world so (paths_of (untaken (slots_of world scan ts rows) rows)) path
    → EndsAt world so (paths_of rows) path
ends_all world so scan [] rows path h = absurd h
ends_all world so scan (t ∷ ts) [] path h = absurd h
ends_all world so scan (true ∷ ts) (row ∷ rows) path h = ends_one world so scan (world row.path) row rows
    (slots_of world scan ts rows) path refl (ends_all world so scan ts rows path) h
ends_all world so scan (false ∷ ts) (row ∷ rows) path (inl h) = inl h
ends_all world so scan (false ∷ ts) (row ∷ rows) path (inr h) = inr (h.0, ends_all world so scan ts rows path h.1)

pub stops : (world : World) (may_fail : List ℕ → Type 0) (scan : Scanned) (c : Content) (ts : List Bool)
    (e : WantedFault) → IsContentOf world scan c ts
    → MayStop world may_fail (paths_of (untaken c scan.wanted)) e
    → MayStopPlan world may_fail (paths_of scan.wanted) (of_wanted e)
stops world may_fail scan c ts (wanted.Absent path) is h = ends_all world (λ p. world p ≡ None) scan ts scan.wanted path
    (rw is.is at h)
stops world may_fail scan c ts (wanted.Device path) is h = ends_all world may_fail scan ts scan.wanted path
    (rw is.is at h)
stops world may_fail scan c ts wanted.Memory is h = tt

-- ---- a fault of finishing

pub finished_by : (X : Type 0) (fault : FinishFault) (fact : Type 0) → fact
    → IfFinished {X = X} (Err (of_finish fault)) fact
finished_by X (finish.Missing path) fact is = is
finished_by X (finish.Bad path e) fact is = is
finished_by X (finish.PathTwice path) fact is = is
finished_by X finish.Memory fact is = tt

pub gives_fault : {X : Type 0} (view : X → List OwnedLine) (fault : FinishFault) (read : Result (List OwnedLine)
    FinishFault)
    → (fault ≢ finish.Memory → read ≡ Err fault) → GivesPlan view (Err (of_finish fault)) read
gives_fault view (finish.Missing path) read is = is (λ m. cc)
gives_fault view (finish.Bad path e) read is = is (λ m. cc)
gives_fault view (finish.PathTwice path) read is = is (λ m. cc)
gives_fault view finish.Memory read is = tt

-- ---- it is never that a manifest is missing

abbrev is_missing : FinishFault → Bool
is_missing (finish.Missing path) = true
is_missing (finish.Bad path e) = false
is_missing (finish.PathTwice path) = false
is_missing finish.Memory = false

abbrev NoneMissing : List FinishFault → Type 0
NoneMissing fs = AllByRecursion (λ f. is_missing f ≡ false) fs

none_of_both : (fs gs : List FinishFault) → NoneMissing fs → NoneMissing gs → NoneMissing (fs ++ gs)
none_of_both [] gs h k = k
none_of_both (f ∷ fs) gs h k = (h.0, none_of_both fs gs h.1 k)

no_missing : (rows : List Row) (c : Content) → untaken c rows ≡ [] → missing rows c ≡ []
no_missing [] c h = refl
no_missing (row ∷ rows) [] h = refl
no_missing (row ∷ rows) (None ∷ ss) h = absurd cc
no_missing (row ∷ rows) (Some r ∷ ss) h = no_missing rows ss h

none_bad : (rows : List Row) (c : Content) → NoneMissing (bad rows c)
none_bad [] c = tt
none_bad (row ∷ rows) [] = tt
none_bad (row ∷ rows) (None ∷ ss) = none_bad rows ss
none_bad (row ∷ rows) (Some (Good entries) ∷ ss) = none_bad rows ss
none_bad (row ∷ rows) (Some (Bad e) ∷ ss) = (refl, none_bad rows ss)

none_in_either : (b : Bool) (path : List ℕ) (fs : List FinishFault) → NoneMissing fs
    → NoneMissing (if b then finish.PathTwice path ∷ fs else fs)
none_in_either true path fs h = (refl, h)
none_in_either false path fs h = h

none_twice : (xs : List Entry) → NoneMissing (twice xs)
none_twice [] = tt
none_twice (x ∷ []) = tt
none_twice (x ∷ y ∷ ys) = none_in_either (bytes_eq x.file.path y.file.path) x.file.path (twice (y ∷ ys))
    (none_twice (y ∷ ys))

not_first : (fs : List FinishFault) (lines : List OwnedLine) (path : List ℕ) → NoneMissing fs
    → first_or fs lines ≡ Err (finish.Missing path) → ⊥
not_first [] lines path h e = absurd cc
not_first (f ∷ fs) lines path h e = let same : f ≡ finish.Missing path = cc in let no : true ≡ false =
    sym (ap is_missing same) ∙ h.0 in absurd cc

pub never_missing : (scan : Scanned) (c : Content) (path : List ℕ) → untaken c scan.wanted ≡ []
    → outcome scan c ≡ Err (finish.Missing path) → ⊥
never_missing scan c path none is =
    not_first (bad scan.wanted c ++ twice (by_path (kept_in c))) _ path (none_of_both _ _ (none_bad scan.wanted c)
    (none_twice (by_path (kept_in c)))) (rw (no_missing scan.wanted c none) at is)

pub of_missing : (fault : FinishFault) (path : List ℕ) → of_finish fault ≡ plan.Finish (finish.Missing path)
    → fault ≡ finish.Missing path
of_missing (finish.Missing p) path is = cc
of_missing (finish.Bad p e) path is = absurd cc
of_missing (finish.PathTwice p) path is = absurd cc
of_missing finish.Memory path is = absurd cc
