-- The steps of a plan, and why each of them may end the run.
use Rattle.std.proofs.Common.{◌≡◌, ◌≢◌, ◌⊎◌, ℕ, zero, suc, false, List, [], ◌∷◌, length, replicate, refl, sym, ap}
use Rattle.std.proofs.Common.{subst, ◌∙◌, true, Option, Some, None, is_some, inl, inr}
use Rattle.std.specs.Prelude.{Result, Ok, Err}
use Rattle.contract_words.specs.Outcome.{◌>>=◌}
use Rattle.ice_desk.specs.declared.fault.WantedFault.{WantedFault}
use Rattle.ice_desk.specs.declared.fault.WantedFault.TheVariants as wanted
use Rattle.ice_desk.specs.Wanted.{IsContentOf, MayStop, paths_of, untaken}
use Rattle.ice_desk.specs.Worlds.{EndsAt, EndsAtAbsent}
use Rattle.ice_state.specs.Contents.{Content, HasEach, World, content, no_row}
use Rattle.ice_manifest_fields.specs.declared.fault.ListFault.{ListFault}
use Rattle.ice_manifest_fields.specs.declared.fault.ListFault.TheVariants as list
use Rattle.ice_manifest_reading.specs.declared.row.Row.{Row}
use Rattle.ice_manifest_reading.specs.Lists.{rows_of}
use Rattle.ice_state.specs.declared.fault.ScanFault.{ScanFault}
use Rattle.ice_state.specs.declared.fault.ScanFault.TheVariants as scan
use Rattle.ice_state.specs.declared.fault.FinishFault.{FinishFault}
use Rattle.ice_state.specs.declared.fault.FinishFault.TheVariants as finish
use Rattle.ice_state.specs.Scans.{Scanned}
use Rattle.icescan_text.specs.declared.fault.RunFault.{RunFault}
use Rattle.icescan_text.specs.declared.fault.RunFault.TheVariants as run
use Rattle.icescan_text.specs.Faults.{of_finish, of_list, of_scan, of_wanted}
use Rattle.icescan_text.specs.Reads.{MayEnd, all_present, as_run, file_in, or_absent, rows_at, rows_in}

module _ (r : List ℕ → Type 0) (w : Type 0) where
  -- a step's fault is the run's
  pub first_ends : {A B : Type 0} (s : List ℕ → Type 0) (read : Result A RunFault) (next : A → Result B RunFault)
      (e : RunFault) → ((path : List ℕ) → s path → r path) → MayEnd read s ⊥ e → MayEnd (read >>= next) r w e
  first_ends s read next run.Memory stops h = tt
  first_ends s read next (run.Device path) stops h = stops path h
  first_ends s read next run.Write stops h = absurd h
  first_ends s read next (run.Words t) stops h = ap (λ x. x >>= next) h
  first_ends s read next run.Input stops h = ap (λ x. x >>= next) h
  first_ends s read next (run.Bundle n) stops h = ap (λ x. x >>= next) h
  first_ends s read next (run.Absent path) stops h = ap (λ x. x >>= next) h
  first_ends s read next (run.List f) stops h = ap (λ x. x >>= next) h
  first_ends s read next (run.Scan f) stops h = ap (λ x. x >>= next) h
  first_ends s read next (run.Finish f) stops h = ap (λ x. x >>= next) h
  first_ends s read next (run.Metadata f) stops h = ap (λ x. x >>= next) h
  first_ends s read next (run.Filter f) stops h = ap (λ x. x >>= next) h
  first_ends s read next (run.Drill f) stops h = ap (λ x. x >>= next) h
  first_ends s read next (run.Locate f) stops h = ap (λ x. x >>= next) h
  first_ends s read next (run.State path flaw) stops h = ap (λ x. x >>= next) h
  first_ends s read next (run.Lineage f) stops h = ap (λ x. x >>= next) h
  first_ends s read next (run.Change f) stops h = ap (λ x. x >>= next) h
  first_ends s read next (run.Prepare f) stops h = ap (λ x. x >>= next) h
  first_ends s read next (run.Conflict path) stops h = ap (λ x. x >>= next) h
  first_ends s read next run.Workers stops h = ap (λ x. x >>= next) h

  pub list_ends : {A : Type 0} (read : Result A ListFault) (f : ListFault) → (f ≢ list.Memory → read ≡ Err f)
      → MayEnd (as_run of_list read) r w (of_list f)
  list_ends read list.Memory h = tt
  list_ends read (list.Avro e) h = ap (as_run of_list) (h (λ m. cc))
  list_ends read (list.MissingField id) h = ap (as_run of_list) (h (λ m. cc))
  list_ends read (list.WrongFieldType id) h = ap (as_run of_list) (h (λ m. cc))
  list_ends read (list.OutOfRange id) h = ap (as_run of_list) (h (λ m. cc))
  list_ends read list.BadContent h = ap (as_run of_list) (h (λ m. cc))
  list_ends read (list.ManifestTwice path) h = ap (as_run of_list) (h (λ m. cc))
  list_ends read list.TooManyRows h = ap (as_run of_list) (h (λ m. cc))

  pub scan_ends : {A : Type 0} (read : Result A ScanFault) (f : ScanFault) → (f ≢ scan.Memory → read ≡ Err f)
      → MayEnd (as_run of_scan read) r w (of_scan f)
  scan_ends read scan.Memory h = tt
  scan_ends read (scan.NoSuchSpec id) h = ap (as_run of_scan) (h (λ m. cc))

  pub finish_ends : {A : Type 0} (read : Result A FinishFault) (f : FinishFault) → (f ≢ finish.Memory → read ≡ Err f)
      → MayEnd (as_run of_finish read) r w (of_finish f)
  finish_ends read finish.Memory h = tt
  finish_ends read (finish.Missing path) h = ap (as_run of_finish) (h (λ m. cc))
  finish_ends read (finish.Bad path e) h = ap (as_run of_finish) (h (λ m. cc))
  finish_ends read (finish.PathTwice path) h = ap (as_run of_finish) (h (λ m. cc))

  -- where a step gave its value, the next one's fault is the run's
  pub then_ends : {A B : Type 0} (read : Result A RunFault) (next : A → Result B RunFault) (x : A) (e : RunFault) → read
      ≡ Ok x → MayEnd (next x) r w e → MayEnd (read >>= next) r w e
  then_ends read next x e is h = subst (λ s. MayEnd (s >>= next) r w e) (sym is) h

-- more reads may fail
pub more_reads : {A : Type 0} (read : Result A RunFault) (r s : List ℕ → Type 0) (w : Type 0) (e : RunFault)
    → ((path : List ℕ) → r path → s path) → MayEnd read r w e → MayEnd read s w e
more_reads read r s w run.Memory more h = tt
more_reads read r s w (run.Device path) more h = more path h
more_reads read r s w run.Write more h = h
more_reads read r s w run.Input more h = h
more_reads read r s w (run.Words t) more h = h
more_reads read r s w (run.Bundle n) more h = h
more_reads read r s w (run.Absent path) more h = h
more_reads read r s w (run.List f) more h = h
more_reads read r s w (run.Scan f) more h = h
more_reads read r s w (run.Finish f) more h = h
more_reads read r s w (run.Metadata f) more h = h
more_reads read r s w (run.Filter f) more h = h
more_reads read r s w (run.Drill f) more h = h
more_reads read r s w (run.Locate f) more h = h
more_reads read r s w (run.State path flaw) more h = h
more_reads read r s w (run.Lineage f) more h = h
more_reads read r s w (run.Change f) more h = h
more_reads read r s w (run.Prepare f) more h = h
more_reads read r s w (run.Conflict path) more h = h
more_reads read r s w run.Workers more h = h

same_read : {A : Type 0} (x : Result A RunFault) → (x >>= λ a. Ok a) ≡ x
same_read (Ok a) = refl
same_read (Err e) = refl

-- a write may fail
pub may_write : {A : Type 0} (r : List ℕ → Type 0) (w : Type 0) (read : Result A RunFault) (e : RunFault)
    → MayEnd read r ⊥ e → MayEnd read r w e
may_write r w read e h = subst (λ x. MayEnd x r w e) (same_read read) (first_ends r w r read (λ a. Ok a) e (λ p m. m) h)

-- what ends a step, of whose value something is kept, ends it before that
pub ends_before : {A B : Type 0} (r : List ℕ → Type 0) (read : Result A RunFault) (keep : A → B) (e : RunFault)
    → MayEnd (read >>= λ a. Ok (keep a)) r ⊥ e → MayEnd read r ⊥ e
ends_before {A} {B} r (Ok a) keep e h = first_ends r ⊥ {A = B} r (Ok (keep a)) (λ _. Ok a) e (λ p m. m) h
ends_before {A} {B} r (Err x) keep e h = first_ends r ⊥ {A = B} r (Err x) (λ _. Err x) e (λ p m. m) h

-- what ends two steps, of whose values something is made, ends them before that
pub two_end : {A B C D : Type 0} (r : List ℕ → Type 0) (first : Result A RunFault) (second : A → Result B RunFault)
    (make : A → B → C) (next : A → B → Result D RunFault) (e : RunFault)
    → MayEnd (first >>= λ a. second a >>= λ b. Ok (make a b)) r ⊥ e
    → MayEnd (first >>= λ a. second a >>= λ b. next a b) r ⊥ e
two_end {C = C} {D = D} r (Err x) second make next e h =
    first_ends r ⊥ {A = C} {B = D} r (Err x) (λ _. Err x) e (λ p m. m) h
two_end {B = B} {C = C} {D = D} r (Ok a) second make next e h = second_ends (second a) h
  where
    second_ends : (found : Result B RunFault) → MayEnd (found >>= λ b. Ok (make a b)) r ⊥ e
        → MayEnd (found >>= λ b. next a b) r ⊥ e
    second_ends (Err x) h = first_ends r ⊥ {A = C} {B = D} r (Err x) (λ _. Err x) e (λ p m. m) h
    second_ends (Ok b) h = first_ends r ⊥ {A = C} {B = D} r (Ok (make a b)) (λ _. next a b) e (λ p m. m) h

-- a step that gave a value, and what followed it
pub step : {A B : Type 0} (first : Result A RunFault) (next : A → Result B RunFault) (y : B) → (first >>= next) ≡ Ok y
    → (x : A) × (first ≡ Ok x) × (next x ≡ Ok y)
step (Ok x) next y h = (x, refl, h)
step (Err e) next y h = absurd cc

-- what follows a step need only be the same where the step gave a value
pub same_next : {A B : Type 0} (first : Result A RunFault) (a b : A → Result B RunFault)
    → ((x : A) → first ≡ Ok x → a x ≡ b x) → (first >>= a) ≡ (first >>= b)
same_next (Ok x) a b h = h x refl
same_next (Err e) a b h = refl

-- a file that is there
pub found_in : (world : World) (path bytes : List ℕ) → world path ≡ Some bytes → file_in world path ≡ Ok bytes
unfolding file_in
found_in world path bytes h = ap (or_absent path) h

pub absent_in : (world : World) (path : List ℕ) → world path ≡ None → file_in world path ≡ Err (run.Absent path)
unfolding file_in
absent_in world path h = ap (or_absent path) h

here : (path : List ℕ) (o : Option (List ℕ)) (bytes : List ℕ) → or_absent path o ≡ Ok bytes → o ≡ Some bytes
here path None bytes h = absurd cc
here path (Some x) bytes h = cc

pub bytes_in : (world : World) (path bytes : List ℕ) → file_in world path ≡ Ok bytes → world path ≡ Some bytes
unfolding file_in
bytes_in world path bytes h = here path (world path) bytes h

step_present : (world : World) (path : List ℕ) (found : Option (List ℕ)) (rest : Result Unit RunFault)
    → (or_absent path found >>= λ _. rest) ≡ Ok tt → (is_some found ≡ true) × (rest ≡ Ok tt)
step_present world path None rest h = absurd cc
step_present world path (Some x) rest h = (refl, h)

is_present : (world : World) (path : List ℕ) (found : Option (List ℕ)) (rest : Result Unit RunFault) → is_some found
    ≡ true → rest ≡ Ok tt → (or_absent path found >>= λ _. rest) ≡ Ok tt
is_present world path None rest h k = absurd cc
is_present world path (Some x) rest h k = k

-- where each is present, the world has each
pub has_each : (world : World) (rows : List Row) → all_present world rows ≡ Ok tt → HasEach world rows
unfolding all_present file_in
has_each world [] h = tt
has_each world (row ∷ rows) h = let p = step_present world row.path (world row.path) (all_present world rows)
    h in (p.0, has_each world rows p.1)

pub each_present : (world : World) (rows : List Row) → HasEach world rows → all_present world rows ≡ Ok tt
unfolding all_present file_in
each_present world [] h = refl
each_present world (row ∷ rows) h = is_present world row.path (world row.path) (all_present world rows) h.0
    (each_present world rows h.1)

-- a state in which no row was taken lacks all rows
pub untaken_all : (rows : List Row) → untaken (replicate (length rows) None) rows ≡ rows
untaken_all [] = refl
untaken_all (row ∷ rows) = ap (λ (rest : List Row). row ∷ rest) (untaken_all rows)

-- a state in which no row was taken has the content of no row
pub nothing_taken : (world : World) (made : Scanned) (c : Content) → c ≡ content world made (no_row made)
    → IsContentOf world made c (no_row made)
nothing_taken world made c h = record { flags = flags (length made.wanted); is = h }
  where
    flags : (n : ℕ) → length (replicate n false) ≡ n
    flags zero = refl
    flags (suc n) = ap suc (flags n)

absent_next : (world : World) (next path : List ℕ) (found : Option (List ℕ)) (rest : Result Unit RunFault)
    → ((path ≡ next) × (found ≡ None)) ⊎ ((is_some found ≡ true) × (rest ≡ Err (run.Absent path)))
    → (or_absent next found >>= λ _. rest) ≡ Err (run.Absent path)
absent_next world next path None rest (inl h) = ap (λ p. Err (run.Absent p)) (sym h.0)
absent_next world next path None rest (inr h) = absurd cc
absent_next world next path (Some x) rest (inl h) = absurd cc
absent_next world next path (Some x) rest (inr h) = h.1

-- the first that is absent is the fault
absent_of : (world : World) (rows : List Row) (path : List ℕ) → EndsAtAbsent world (paths_of rows) path
    → all_present world rows ≡ Err (run.Absent path)
unfolding all_present file_in
absent_of world [] path h = absurd h
absent_of world (row ∷ rows) path (inl h) = absent_next world row.path path (world row.path) (all_present world rows)
    (inl (h.0, ap world (sym h.0) ∙ h.1))
absent_of world (row ∷ rows) path (inr h) = absent_next world row.path path (world row.path) (all_present world rows)
    (inr (h.0, absent_of world rows path h.1))

-- where the first of these reads fails
pub only_first : (world : World) (f : List ℕ → Type 0) (next : List ℕ) (paths : List (List ℕ)) (path : List ℕ)
    → EndsAt world f (next ∷ []) path → EndsAt world f (next ∷ paths) path
only_first world f next paths path (inl h) = inl h
only_first world f next paths path (inr h) = absurd h.1

pub fails_here : (world : World) (f : List ℕ → Type 0) (path : List ℕ) → f path → EndsAt world f (path ∷ []) path
fails_here world f path h = inl (refl, h)

-- where a later one fails
pub fails_later : (world : World) (f : List ℕ → Type 0) (next bytes : List ℕ) (paths : List (List ℕ)) (path : List ℕ)
    → file_in world next ≡ Ok bytes → EndsAt world f paths path → EndsAt world f (next ∷ paths) path
fails_later world f next bytes paths path has h = inr (ap is_some (bytes_in world next bytes has), h)

-- reads that never fail
pub never_fails : (world : World) (paths : List (List ℕ)) (path : List ℕ) → EndsAt world (λ _. ⊥) paths path → ⊥
never_fails world [] path h = h
never_fails world (next ∷ paths) path (inl h) = h.1
never_fails world (next ∷ paths) path (inr h) = never_fails world paths path h.1

module _ (world : World) (f : List ℕ → Type 0) where
  pub stops_end : (rows : List Row) (e : WantedFault) → MayStop world f (paths_of rows) e
      → MayEnd (all_present world rows) (EndsAt world f (paths_of rows)) ⊥ (of_wanted e)
  stops_end rows (wanted.Absent path) h = absent_of world rows path h
  stops_end rows (wanted.Device path) h = h
  stops_end rows wanted.Memory h = tt

-- the rows that a list's bytes have
pub rows_read : (bytes : List ℕ) (rows : List Row) → rows_of bytes ≡ Ok rows → rows_in bytes ≡ Ok rows
unfolding rows_in
rows_read bytes rows is = ap (as_run of_list) is

-- the rows of a list
module _ (f : List ℕ → Type 0) (world : World) (path : List ℕ) where
  pub no_file : (e : RunFault) → MayEnd (file_in world path) (EndsAt world f (path ∷ [])) ⊥ e
      → MayEnd (rows_at world path) (EndsAt world f (path ∷ [])) ⊥ e
  unfolding rows_at
  no_file e h = first_ends (EndsAt world f (path ∷ [])) ⊥ (EndsAt world f (path ∷ [])) (file_in world path) rows_in e
      (λ p m. m) h

  pub no_rows : (bytes : List ℕ) → file_in world path ≡ Ok bytes → (e : ListFault)
      → (e ≢ list.Memory → rows_of bytes ≡ Err e)
      → MayEnd (rows_at world path) (EndsAt world f (path ∷ [])) ⊥ (of_list e)
  unfolding rows_at rows_in
  no_rows bytes has e h = then_ends (EndsAt world f (path ∷ [])) ⊥ (file_in world path) rows_in bytes (of_list e) has
      (list_ends (EndsAt world f (path ∷ [])) ⊥ (rows_of bytes) e h)

  pub rows_there : (bytes : List ℕ) (rows : List Row) → file_in world path ≡ Ok bytes → rows_of bytes ≡ Ok rows
      → rows_at world path ≡ Ok rows
  unfolding rows_at rows_in
  rows_there bytes rows has is = rw has (ap (as_run of_list) is)
