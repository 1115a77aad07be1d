-- The plan of a version in parts, and looking for a file in a plan.
use Rattle.std.proofs.Common.{◌≡◌, ◌≢◌, ◌+◌, ◌-◌, ◌*◌, ◌<◌, ⊎_elim, arith, subst, ℕ, zero, suc, List, [], ◌∷◌, Option}
use Rattle.std.proofs.Common.{Some, None, refl, sym, ap, ◌∙◌}
use Rattle.std.proofs.Math.Nat.{add-mul}
use Rattle.std.proofs.lemmas.Bool.{cases_lt}
use Rattle.std.proofs.lemmas.List.{take_all}
use Rattle.std.proofs.lemmas.List.Sums.{sum_by-take-drop}
use Rattle.std.specs.Prelude.{Bool, true, false, ◌||◌, slice_get, sum, take, drop, length, Ok, Err, ◌≤◌}
use Rattle.std.specs.Prelude.{IfOk, OnOk, Result, vec_len}
use Rattle.std.specs.Global.{Vec}
use Rattle.std.specs.FinMap as map
use Rattle.std.specs.List.{list_any}
use Rattle.std.specs.Option.{option_map}
use Rattle.ice_catalog_versions.specs.Histories.{History, state_of}
use Rattle.ice_catalog_versions.specs.States.{State}
use Rattle.ice_catalog_changes.specs.declared.fault.PrepareFault.{PrepareFault}
use Rattle.ice_catalog_changes.specs.declared.fault.PrepareFault.TheVariants as prepare
use Rattle.ice_manifest_reading.specs.declared.row.Row.{Row}
use Rattle.ice_meta.specs.declared.fault.Member.TheVariants as member
use Rattle.ice_meta.specs.declared.fault.MetaFault.{MetaFault}
use Rattle.ice_meta.specs.declared.fault.MetaFault.TheVariants as meta
use Rattle.ice_meta.specs.declared.metadata.Target.TheVariants.{Main}
use Rattle.ice_meta.specs.declared.schema.Schema.{Schema}
use Rattle.ice_meta.specs.Members.{asked}
use Rattle.ice_meta.specs.Targets.{Described, bound_specs, list_of, schema_for}
use Rattle.ice_state.specs.Contents.{content, every_row}
use Rattle.ice_state.specs.Lines.{OwnedLine}
use Rattle.ice_state.specs.Outcomes.{outcome}
use Rattle.ice_state.specs.Scans.{Scanned, scan_of}
use Rattle.icescan_drill.specs.Drills.{EachSawItsFiles, HasEachFile, HaveDrilled, SawItsFiles, file_path, has_file}
use Rattle.icescan_drill.specs.Drills.{plan_of_state, scan_of_state, sequence_of}
use Rattle.icescan_text.specs.Faults.{of_finish, of_meta, of_prepare, of_scan}
use Rattle.icescan_text.specs.declared.fault.RunFault.TheVariants as run
use Rattle.icescan_text.specs.Reads.{all_present, as_run, rows_at}

-- the scan of a version, where each part of it is there
pub scan_there : (s : State) (list : List ℕ) (schema : Schema) (rows : List Row) (scan : Scanned)
    → list_of Main s.metadata.table ≡ Ok list → schema_for Main s.metadata.table ≡ Some schema
    → rows_at (λ path. map.get s.world path) list ≡ Ok rows
    → scan_of rows (bound_specs schema s.metadata.table) [] ≡ Ok scan → scan_of_state s ≡ Ok scan
unfolding scan_of_state
scan_there s list schema rows scan a b c d =
    rw (
      ap (as_run of_meta) a,
      ap (λ o. as_run of_meta (asked (meta.Dangling member.CurrentSchemaId) o)) b,
      c,
      ap
          (as_run of_scan) d,
    ) refl

-- its plan, where the manifests are there
pub plan_there : (s : State) (scan : Scanned) (plan : List OwnedLine) → scan_of_state s ≡ Ok scan
    → all_present (λ path. map.get s.world path) scan.wanted ≡ Ok tt
    → outcome scan (content (λ path. map.get s.world path) scan (every_row scan)) ≡ Ok plan
    → plan_of_state s ≡ Ok plan
unfolding plan_of_state
plan_there s scan plan a b c = rw (a, b, ap (as_run of_finish) c) refl

or_true : (b : Bool) → (b || true) ≡ true
or_true true = refl
or_true false = refl

neither : (a b : Bool) → (a || b) ≡ false → (a ≡ false) × (b ≡ false)
neither true b h = absurd cc
neither false b h = (refl, h)

-- one that passes
pub any_here : {X : Type 0} (p : X → Bool) (xs : List X) (i : ℕ) (x : X) → slice_get xs i ≡ Some x → p x ≡ true
    → list_any p xs ≡ true
any_here p [] i x h q = absurd cc
any_here p (y ∷ ys) zero x h q = let e : y ≡ x = cc in rw (e, q) refl
any_here p (y ∷ ys) (suc i) x h q = rw (any_here p ys i x h q) (or_true (p y))

-- none of the first passes, nor does one more
pub none_next : {X : Type 0} (p : X → Bool) (xs : List X) (i : ℕ) (x : X) → slice_get xs i ≡ Some x
    → list_any p (take i xs) ≡ false → p x ≡ false → list_any p (take (suc i) xs) ≡ false
none_next p [] i x h k q = absurd cc
none_next p (y ∷ ys) zero x h k q = let e : y ≡ x = cc in rw (e, q) refl
none_next p (y ∷ ys) (suc i) x h k q =
    let n = neither (p y) (list_any p (take i ys)) k in rw (n.0) (none_next p ys i x h n.1 q)

-- none passes
pub none_at_all : {X : Type 0} (p : X → Bool) (xs : List X) (i : ℕ) → length xs ≤ i
    → list_any p (take i xs) ≡ false → list_any p xs ≡ false
none_at_all p xs i low k = ap (list_any p) (sym (take_all i xs low)) ∙ k

-- the file of one more commit
pub more_files : (plan : List OwnedLine) (thread commits : ℕ) → HasEachFile plan thread commits
    → has_file plan (file_path thread commits) ≡ true → HasEachFile plan thread (commits + 1)
more_files plan thread commits each last commit below =
    ⊎_elim (λ earlier. each commit earlier)
    (λ no. let e : commits ≡ commit = omega (arith, below, no) in subst (λ (k : ℕ). has_file plan (file_path thread k)
    ≡ true) e last)
    (cases_lt commit commits)

-- one thread alone
pub saw_alone : (first len commits : ℕ) → len ≡ 1 → SawItsFiles first commits → EachSawItsFiles first len commits
saw_alone first len commits one saw =
    λ i below. let same : first ≡ first + i = omega (arith, one, below) in subst (λ (k : ℕ). SawItsFiles k commits) same
    saw

-- two parts of the threads, one behind the other
pub saw_both : (first next m r len commits : ℕ) → next ≡ first + m → m + r ≡ len → EachSawItsFiles first m commits
    → EachSawItsFiles next r commits → EachSawItsFiles first len commits
saw_both first next m r len commits is_next is_len front back =
    λ i below. ⊎_elim (λ earlier. front i earlier)
    (λ later. let same : next + (i - m) ≡ first + i = omega (arith, is_next, later) in
    let within : i - m < r = omega (arith, is_len, later, below) in
    subst (λ (k : ℕ). SawItsFiles k commits) same (back (i - m) within))
    (cases_lt i m)

-- the seat of one thread alone
pub drilled_alone : {E : Type 0} (r : Result (Vec ℕ) E) (first commits : ℕ) (before : Vec ℕ) → vec_len before ≡ 1
    → IfOk r (λ after. vec_len after ≡ vec_len before)
    → IfOk r (λ after. sum after.items ≡ sum before.items + commits) → OnOk r (SawItsFiles first commits)
    → IfOk r (λ after. HaveDrilled first commits before after)
drilled_alone (Ok after) first commits before one count made saw =
    let each : vec_len before * commits ≡ commits = rw one (omega arith) in
    (count, omega (arith, made, each), saw_alone first (vec_len before) commits one saw)
drilled_alone (Err fault) first commits before one count made saw = tt

-- ---- no refusal of these is a failed write

pub meta_is_no_write : (e : MetaFault) → of_meta e ≢ run.Write
meta_is_no_write meta.NotJson h = absurd cc
meta_is_no_write (meta.Version n) h = absurd cc
meta_is_no_write (meta.Missing m) h = absurd cc
meta_is_no_write (meta.WrongKind m) h = absurd cc
meta_is_no_write (meta.UnknownType t) h = absurd cc
meta_is_no_write meta.NoSuchRef h = absurd cc
meta_is_no_write meta.NoSuchSnapshot h = absurd cc
meta_is_no_write meta.NoSnapshot h = absurd cc
meta_is_no_write (meta.IdTwice n) h = absurd cc
meta_is_no_write meta.Memory h = absurd cc
meta_is_no_write (meta.Dangling m) h = absurd cc
meta_is_no_write meta.TooBig h = absurd cc

pub prepare_is_no_write : (e : PrepareFault) → of_prepare e ≢ run.Write
prepare_is_no_write prepare.SnapshotTaken h = absurd cc
prepare_is_no_write (prepare.PathTaken path) h = absurd cc
prepare_is_no_write (prepare.PathTwice path) h = absurd cc
prepare_is_no_write prepare.Empty h = absurd cc
prepare_is_no_write (prepare.NoSuchSpec id) h = absurd cc
prepare_is_no_write (prepare.WrongTuple path) h = absurd cc
prepare_is_no_write prepare.SequenceEnd h = absurd cc
prepare_is_no_write (prepare.BaseBad path) h = absurd cc
prepare_is_no_write prepare.Memory h = absurd cc
prepare_is_no_write (prepare.BadFile path) h = absurd cc
prepare_is_no_write prepare.TooManyRows h = absurd cc
prepare_is_no_write prepare.OutOfOrder h = absurd cc

-- two parts of the seats that made the same number of commits each
pub counted_by_both : (xs front back : List ℕ) (n m r len k a b all : ℕ) → front ≡ take n xs → back ≡ drop n xs
    → m + r ≡ len → a ≡ sum front + m * k → b ≡ sum back + r * k → all ≡ a + b → all ≡ sum xs + len * k
counted_by_both xs front back n m r len k a b all is_front is_back is_len is_a is_b is_all =
    let parts : sum front + sum back ≡ sum xs = rw (is_front, is_back) (sum_by-take-drop (λ x. x) xs n) in
    let each : len * k ≡ m * k + r * k = rw (← is_len) (add-mul m r k) in
    omega (arith, parts, each, is_a, is_b, is_all)

of_metadata : (o : Option State) (m : Described) → option_map (λ (s : State). s.metadata) o ≡ Some m
    → option_map (λ (s : State). s.metadata.table.last_sequence_number) o ≡ Some m.table.last_sequence_number
of_metadata None m h = absurd cc
of_metadata (Some s) m h = let e : s.metadata ≡ m = cc in ap (λ (d : Described). Some d.table.last_sequence_number) e

-- the last sequence number of a version is that of its metadata
pub sequence_there : (h : History) (m : Described) → option_map (λ (s : State). s.metadata) (state_of h) ≡ Some m
    → sequence_of h ≡ Some m.table.last_sequence_number
sequence_there h m is = of_metadata (state_of h) m is
