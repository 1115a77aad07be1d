-- The plan of some of a snapshot's rows: what it has of the plan of all, where all manifests of delete files are among
-- them; and what it lacks, where another snapshot has the same rows.
use Rattle.std.proofs.Common.{◌≡◌, ◌≤◌, ◌<◌, ◌+◌, ℕ, Bool, true, false, not, List, [], ◌∷◌, ◌++◌, map, filter, cond}
use Rattle.std.proofs.Common.{arith, refl, sym, ap, subst, ◌∙◌, inl, inr, length, length-append, Option, Some, None}
use Rattle.std.proofs.Common.{option_map, Ok, Err}
use Rattle.std.specs.Prelude.{Result}
use Rattle.std.specs.List.{AllByRecursion, Contains, flat_map}
use Rattle.std.specs.List.Sorted.{IsStrictlySortedBy}
use Rattle.std.specs.Cmp.Lexicographic.{slice_cmp}
use Rattle.std.specs.Ordering.{nat_cmp}
use Rattle.std.specs.Str.{bytes_eq}
use Rattle.std.specs.declared.cmp.Ordering.TheVariants.{Less}
use Rattle.std.proofs.lemmas.List.Elements.{filter-append}
use Rattle.std.proofs.lemmas.Slice.Eq.{bytes_eq-Decides}
use Rattle.ice_value.specs.declared.file_content.FileContent.{FileContent}
use Rattle.ice_value.specs.declared.file_content.FileContent.TheVariants.{Data, PositionDeletes, EqualityDeletes}
use Rattle.ice_manifest_fields.specs.declared.fault.ManifestFault.{ManifestFault}
use Rattle.ice_manifest_reading.specs.declared.entry.Entry.{Entry}
use Rattle.ice_manifest_reading.specs.declared.entry.Live.{Live}
use Rattle.ice_manifest_reading.specs.declared.row.ManifestContent.{ManifestContent}
use Rattle.ice_manifest_reading.specs.declared.row.ManifestContent.TheVariants as manifest
use Rattle.ice_manifest_reading.specs.declared.row.Row.{Row}
use Rattle.ice_manifest_reading.specs.Laws.{FitsItsRow, MayHold}
use Rattle.ice_manifest_reading.specs.Manifests.{live_of}
use Rattle.ice_meta.specs.declared.spec.Spec.{Spec}
use Rattle.ice_state.specs.Contents.{World, live_by, manifest_of}
use Rattle.ice_state.specs.Lines.{OwnedLine}
use Rattle.ice_state.specs.Pruning.{Pruner, keeps, kept}
use Rattle.ice_state.specs.Shares.{count_at}
use Rattle.ice_state.specs.Snapshots.{live, live_or_none}
use Rattle.ice_state.specs.Specs.{spec_of}
use Rattle.ice_state.proofs.Elements.{contains_more, filtered, refiltered}
use Rattle.ice_state.proofs.Sharing.{count_more}
use Rattle.ice_state_laws.specs.Plans.{AreByPath, HasLine, IsDeleteOf, IsKeptFile, IsPlan}
use Rattle.ice_state_laws.proofs.Entries.{data_kept, from_kept, in_kept, kept-append, live_from_flat, live_in_flat}
use Rattle.ice_state_laws.proofs.Lists.{Rise, at_head, first_or_behind, head_less, in_none, one_list, rise_filter}
use Rattle.ice_state_laws.proofs.Lists.{rise_less}
use Rattle.icescan_changes.specs.Changes.{line_changes, line_path, lines_told}
use Rattle.icescan_changes.proofs.Telling.{line_itself}
use Rattle.icescan_changes.specs.Meanings.{IsByPath}
use Rattle.icescan_changes.specs.Walks.{Above}
use Rattle.icescan_changes.specs.declared.changes.Change.TheVariants as change
use Rattle.icescan_changes_laws.specs.Shared.{AreShared, HasDeletesOf, MayLeaveOut}
use Rattle.icescan_changes_laws.proofs.LeavingOut.{are_in, kept_or_not, left_out}

left_or_not : (b : Bool) → (b ≡ true → ⊥) → b ≡ false
left_or_not true h = absurd (h refl)
left_or_not false h = refl

-- ---- what live entries hold

module _ (fits : FitsItsRow) (world : World) (specs : List Spec) (row : Row) (l : Live) where
  held : (spec : Spec) (bytes : List ℕ) (found : Result (List Live) ManifestFault) → live_of row spec bytes ≡ found
      → Contains (live_or_none (Some found)) l → MayHold row.content l.entry.file.content
  held spec bytes (Ok found) is c = fits row spec bytes found l is c
  held spec bytes (Err fault) is c = absurd (in_none l c)

  held_by : (spec : Option Spec) (bytes : List ℕ) → Contains (live_or_none (Some (live_by spec row bytes))) l
      → MayHold row.content l.entry.file.content
  held_by None bytes c = absurd (in_none l c)
  held_by (Some spec) bytes c = held spec bytes (live_of row spec bytes) refl c

  held_in : (bytes : Option (List ℕ)) → Contains (live_or_none (option_map (manifest_of specs row) bytes)) l
      → MayHold row.content l.entry.file.content
  held_in None c = absurd (in_none l c)
  held_in (Some bytes) c = held_by (spec_of specs row.spec_id) bytes c

  pub live_fits : Contains (live world specs row) l → MayHold row.content l.entry.file.content
  live_fits c = held_in (world row.path) c

of_data : (m : ManifestContent) (c : FileContent) → m ≡ manifest.Data → MayHold m c → c ≡ Data
of_data manifest.Data c e h = h
of_data manifest.Deletes c e h = absurd cc

of_deletes : (m : ManifestContent) (c : FileContent) → (c ≡ Data → ⊥) → MayHold m c → m ≡ manifest.Deletes
of_deletes manifest.Data c not_data h = absurd (not_data h)
of_deletes manifest.Deletes c not_data h = refl

-- ---- how many kept entries have a path

pub counted : (xs : List Entry) (x : Entry) → Contains xs x → 0 < count_at xs x.file.path
counted [] x c = absurd (in_none x c)
counted (y ∷ ys) x c = elim (first_or_behind y x ys c) as (λ _. 0 < count_at (y ∷ ys) x.file.path) [
  | inl e ↦ subst (λ (z : Entry). 0 < count_at (y ∷ ys) z.file.path) e (rw (itself y) (omega arith))
  | inr m ↦ omega (arith, counted ys x m, count_more y ys x.file.path)
] where
  itself : (y : Entry) → bytes_eq y.file.path y.file.path ≡ true
  itself y = (bytes_eq-Decides y.file.path y.file.path).1 refl

count-append : (xs ys : List Entry) (q : List ℕ) → count_at (xs ++ ys) q ≡ count_at xs q + count_at ys q
count-append xs ys q = ap length (filter-append (λ (x : Entry). bytes_eq x.file.path q) xs ys) ∙ length-append
    (filter (λ (x : Entry). bytes_eq x.file.path q) xs) (filter (λ (x : Entry). bytes_eq x.file.path q) ys)

-- whether a row is left out
abbrev drops : (Row → Bool) → Row → Bool
drops own row = not (own row)

module _ (p : Pruner) (world : World) (specs : List Spec) where
  abbrev pub kept_of : List Row → List Entry
  kept_of rows = kept p (flat_map (live world specs) rows)

  module _ (q : List ℕ) where
    number-more : (row : Row) (rows : List Row)
        → count_at (kept_of (row ∷ rows)) q ≡ count_at (kept p (live world specs row)) q + count_at (kept_of rows) q
    number-more row rows = ap (λ xs. count_at xs q) (kept-append p (live world specs row)
        (flat_map (live world specs) rows)) ∙ count-append (kept p (live world specs row)) (kept_of rows) q

    number_apart : (own : Row → Bool) (rows : List Row)
        → count_at (kept_of rows) q
        ≡ count_at (kept_of (filter own rows)) q + count_at (kept_of (filter (drops own) rows)) q
    number_apart own [] = refl
    number_apart own (row ∷ rows) =
        let us = filter own rows in
        let vs = filter (drops own) rows in
        elim (own row) as (λ v. count_at (kept_of (row ∷ rows)) q
        ≡ count_at (kept_of (cond v (row ∷ us) us)) q + count_at (kept_of (cond (not v) (row ∷ vs) vs)) q) [
          | true ↦ omega (arith, number-more row rows, number-more row us, number_apart own rows)
          | false ↦ omega (arith, number-more row rows, number-more row vs, number_apart own rows)
        ]

  in_number : (rows : List Row) (row : Row) (l : Live) → Contains rows row → Contains (live world specs row) l
      → keeps p l ≡ true → 0 < count_at (kept_of rows) l.entry.file.path
  in_number rows row l c d k = counted (kept_of rows) l.entry
      (in_kept p (flat_map (live world specs) rows) l (live_in_flat world specs rows l (row, c, d)) k)

  -- of two rows of which one is kept and the other left out, no two kept entries have one path where each path is there
  -- once
  pub not_both : (own : Row → Bool) (rows : List Row)
      → ((q : List ℕ) → count_at (kept_of rows) q ≤ 1) → (r s : Row) (l m : Live)
      → Contains rows r → own r ≡ true → Contains (live world specs r) l → keeps p l ≡ true
      → Contains rows s → own s ≡ false → Contains (live world specs s) m → keeps p m ≡ true
      → m.entry.file.path ≡ l.entry.file.path → ⊥
  not_both own rows once r s l m c t d k c' t' d' k' e =
      let q = l.entry.file.path in
      let one = in_number (filter own rows) r l (refiltered own rows r c t) d k in
      let other = in_number (filter (drops own) rows) s m (refiltered (drops own) rows s c' (ap not t')) d' k' in
      let more = subst (λ path. 0 < count_at (kept_of (filter (drops own) rows)) path) e other in
      omega (arith, once q, number_apart q own rows, one, more)

-- ---- lines

same_line : (a b : OwnedLine) → a.file ≡ b.file → a.positions ≡ b.positions → a.equalities ≡ b.equalities → a ≡ b
same_line a b e f g =
    ap (λ (x : Entry). record { file = x; positions = a.positions; equalities = a.equalities }) e
    ∙ ap (λ (xs : List Entry). record { file = b.file; positions = xs; equalities = a.equalities }) f
    ∙ ap (λ (xs : List Entry). record { file = b.file; positions = b.positions; equalities = xs }) g

map_paths : (plan : List OwnedLine) → map (λ (x : Entry). x.file.path) (map (λ (l : OwnedLine). l.file) plan)
    ≡ map line_path plan
map_paths [] = refl
map_paths (l ∷ ls) = ap (λ (ps : List (List ℕ)). l.file.file.path ∷ ps) (map_paths ls)

lines_rise : (plan : List OwnedLine) → AreByPath (map (λ (l : OwnedLine). l.file) plan) → Rise line_path plan
lines_rise plan h = subst (λ (ps : List (List ℕ)). IsStrictlySortedBy (slice_cmp nat_cmp) ps) (map_paths plan) h

rising_files : (plan : List OwnedLine) → Rise line_path plan → AreByPath (map (λ (l : OwnedLine). l.file) plan)
rising_files plan h =
    subst (λ (ps : List (List ℕ)). IsStrictlySortedBy (slice_cmp nat_cmp) ps) (sym (map_paths plan)) h

stands_above : (p : List ℕ) (plan : List OwnedLine)
    → AllByRecursion (λ q. slice_cmp nat_cmp p q ≡ Less) (map line_path plan)
    → Above line_path change.Removed change.Added lines_told p plan
stands_above p [] h = tt
stands_above p (l ∷ ls) h = (h.0, stands_above p ls h.1)

risen : (plan : List OwnedLine) → Rise line_path plan → IsByPath plan
risen [] r = tt
risen (l ∷ ls) r = (stands_above (line_path l) ls (head_less line_path l ls r), risen ls (rise_less line_path l ls r))

pub plan_rises : (p : Pruner) (world : World) (specs : List Spec) (rows : List Row) (plan : List OwnedLine)
    → IsPlan p world specs rows plan → IsByPath plan
plan_rises p world specs rows plan is = risen plan (lines_rise plan is.by_path)

-- ---- the plan of some of the rows

module _ (fits : FitsItsRow) (p : Pruner) (world : World) (specs : List Spec) (own : Row → Bool)
    (keep : List ℕ → Bool) where
  -- what is kept of a row that is left out has a path that is left out
  abbrev pub Leaves : List Row → Type 0
  Leaves rows = (row : Row) (l : Live) → Contains rows row → own row ≡ false → Contains (live world specs row) l
      → keeps p l ≡ true → keep l.entry.file.path ≡ false

  -- and each path that is left out is of such
  abbrev pub IsLeft : List Row → Type 0
  IsLeft rows = (q : List ℕ) → keep q ≡ false → (row : Row) × (l : Live) × Contains rows row × (own row ≡ false)
      × Contains (live world specs row) l × (keeps p l ≡ true) × (l.entry.file.path ≡ q)

  -- of rows of deletes nothing is left out
  abbrev pub LeavesData : List Row → Type 0
  LeavesData rows = (row : Row) → Contains rows row → own row ≡ false → row.content ≡ manifest.Data

  abbrev keeps_line : OwnedLine → Bool
  keeps_line line = keep (line_path line)

  of_kept : (x : Entry) (l : Live) → l.entry ≡ x → x.file.content ≡ Data → p.meets x.spec_id x.file.tuple ≡ true
      → p.bounds l.bounds ≡ true → keeps p l ≡ true
  of_kept x l e held meets bounds =
      data_kept p l (subst (λ (y : Entry). p.meets y.spec_id y.file.tuple ≡ true) (sym e) meets) bounds

  module _ (rows : List Row) (plan : List OwnedLine) (is : IsPlan p world specs rows plan) (leaves : Leaves rows)
      (left : IsLeft rows) where
    -- what is kept of a row that stays has a path that stays
    pub stays : (row : Row) (l : Live) → Contains rows row → own row ≡ true → Contains (live world specs row) l
        → keeps p l ≡ true → keep l.entry.file.path ≡ true
    stays row l c t d k = kept_or_not (keep l.entry.file.path) (λ out.
        let o = left l.entry.file.path out in
        not_both p world specs own rows is.apart row o.0 l o.1 c t d k o.2 o.3 o.4 o.5 o.6)

    to_own : (x : Entry) → HasLine (filter keeps_line plan) x → IsKeptFile p world specs (filter own rows) x
    to_own x h =
        let f = filtered keeps_line plan h.0 h.1 in
        let k = (is.files x).0 (h.0, f.0, h.2) in
        let row = k.1.0 in
        let kept_it = of_kept x k.0 k.2 k.3 k.4 k.5 in
        let path : h.0.file.file.path ≡ k.0.entry.file.path = ap (λ (y : Entry). y.file.path) (h.2 ∙ sym k.2) in
        let stay : keep k.0.entry.file.path ≡ true = sym (ap keep path) ∙ f.1 in
        let here : own row ≡ true = kept_or_not (own row) (λ out.
        let clash : true ≡ false = sym stay ∙ leaves row k.0 k.1.1 out k.1.2 kept_it in absurd cc) in
        (k.0, (row, refiltered own rows row k.1.1 here, k.1.2), k.2, k.3, k.4, k.5)

    from_own : (x : Entry) → IsKeptFile p world specs (filter own rows) x → HasLine (filter keeps_line plan) x
    from_own x k =
        let row = k.1.0 in
        let f = filtered own rows row k.1.1 in
        let h = (is.files x).1 (k.0, (row, f.0, k.1.2), k.2, k.3, k.4, k.5) in
        let stay = stays row k.0 f.0 f.1 k.1.2 (of_kept x k.0 k.2 k.3 k.4 k.5) in
        let path : k.0.entry.file.path ≡ h.0.file.file.path = ap (λ (y : Entry). y.file.path) (k.2 ∙ sym h.2) in
        (h.0, refiltered keeps_line plan h.0 h.1 (sym (ap keep path) ∙ stay), h.2)

    module _ (leaves_data : LeavesData rows) (content : FileContent) (not_data : content ≡ Data → ⊥) where
      narrowed : (x d : Entry) → IsDeleteOf content world specs rows x d
          → IsDeleteOf content world specs (filter own rows) x d
      narrowed x d k =
          let row = k.1.0 in
          let here : own row ≡ true = kept_or_not (own row) (λ out.
          let is_data = of_data row.content k.0.entry.file.content (leaves_data row k.1.1 out)
          (live_fits fits world specs row k.0 k.1.2) in
          not_data (sym k.3 ∙ sym (ap (λ (y : Entry). y.file.content) k.2) ∙ is_data)) in
          (k.0, (row, refiltered own rows row k.1.1 here, k.1.2), k.2, k.3, k.4)

      widened : (x d : Entry) → IsDeleteOf content world specs (filter own rows) x d
          → IsDeleteOf content world specs rows x d
      widened x d k = (k.0, (k.1.0, (filtered own rows k.1.0 k.1.1).0, k.1.2), k.2, k.3, k.4)

    pub part : LeavesData rows → IsPlan p world specs (filter own rows) (filter keeps_line plan)
    part leaves_data =
        let of_plan : (line : OwnedLine) → Contains (filter keeps_line plan) line → Contains plan line =
        λ line c. (filtered keeps_line plan line c).0 in
        record {
          good = λ row fault c wants bad. is.good row fault (filtered own rows row c).0 wants bad;
          apart = λ q. omega (arith, is.apart q, number_apart p world specs q own rows);
          files = λ x. (to_own x, from_own x);
          positions = λ line d c. (
            λ m. narrowed leaves_data PositionDeletes (λ e. cc) line.file d
                ((is.positions line d (of_plan line c)).0 m),
            λ k. (is.positions line d (of_plan line c)).1
                (widened leaves_data PositionDeletes (λ e. cc) line.file d k),
          );
          equalities = λ line d c. (
            λ m. narrowed leaves_data EqualityDeletes (λ e. cc) line.file d
                ((is.equalities line d (of_plan line c)).0 m),
            λ k. (is.equalities line d (of_plan line c)).1
                (widened leaves_data EqualityDeletes (λ e. cc) line.file d k),
          );
          by_path = rising_files (filter keeps_line plan)
              (rise_filter line_path keeps_line plan (lines_rise plan is.by_path));
          positions_by_path = λ line c. is.positions_by_path line (of_plan line c);
          equalities_by_path = λ line c. is.equalities_by_path line (of_plan line c);
        }

    -- ---- what is left out, in another plan

    module _ (others : List Row) (other : List OwnedLine) (its : IsPlan p world specs others other)
        (shared : AreShared own rows others) (deletes : HasDeletesOf others rows)
        (back : HasDeletesOf rows others) where
      moved : (content : FileContent) → (content ≡ Data → ⊥) → (from to : List Row) → HasDeletesOf to from
          → (x d : Entry) → IsDeleteOf content world specs from x d → IsDeleteOf content world specs to x d
      moved content not_data from to has x d k =
          let row = k.1.0 in
          let no_data : k.0.entry.file.content ≡ Data → ⊥ =
          λ e. not_data (sym k.3 ∙ sym (ap (λ (y : Entry). y.file.content) k.2) ∙ e) in
          let is_deletes = of_deletes row.content k.0.entry.file.content no_data
          (live_fits fits world specs row k.0 k.1.2) in
          (k.0, (row, has row k.1.1 is_deletes, k.1.2), k.2, k.3, k.4)

      module _ (line twin : OwnedLine) (c : Contains plan line) (d : Contains other twin)
          (same : twin.file ≡ line.file) where
        one_line : twin ≡ line
        one_line =
            let down = λ (content : FileContent) (not_data : content ≡ Data → ⊥) (x : Entry)
            (k : IsDeleteOf content world specs others twin.file x).
            moved content not_data others rows back line.file x
            (subst (λ (y : Entry). IsDeleteOf content world specs others y x) same k) in
            let up = λ (content : FileContent) (not_data : content ≡ Data → ⊥) (x : Entry)
            (k : IsDeleteOf content world specs rows line.file x).
            subst (λ (y : Entry). IsDeleteOf content world specs others y x) (sym same)
            (moved content not_data rows others deletes line.file x k) in
            same_line twin line same
            (one_list (λ (x : Entry). x.file.path) twin.positions line.positions (its.positions_by_path twin d)
            (is.positions_by_path line c)
            (λ x m. (is.positions line x c).1 (down PositionDeletes (λ e. cc) x ((its.positions twin x d).0 m)))
            (λ x m. (its.positions twin x d).1 (up PositionDeletes (λ e. cc) x ((is.positions line x c).0 m))))
            (one_list (λ (x : Entry). x.file.path) twin.equalities line.equalities (its.equalities_by_path twin d)
            (is.equalities_by_path line c)
            (λ x m. (is.equalities line x c).1 (down EqualityDeletes (λ e. cc) x ((its.equalities twin x d).0 m)))
            (λ x m. (its.equalities twin x d).1 (up EqualityDeletes (λ e. cc) x ((is.equalities line x c).0 m))))

      pub is_in_other : (line : OwnedLine) → Contains plan line → keep (line_path line) ≡ false
          → Contains other line
      is_in_other line c out =
          let k = (is.files line.file).0 (line, c, refl) in
          let row = k.1.0 in
          let path : k.0.entry.file.path ≡ line_path line = ap (λ (y : Entry). y.file.path) k.2 in
          let gone : own row ≡ false = left_or_not (own row) (λ t.
          let clash : true ≡ false = sym (stays row k.0 k.1.1 t k.1.2 (of_kept line.file k.0 k.2 k.3 k.4 k.5))
          ∙ ap keep path ∙ out in absurd cc) in
          let h = (its.files line.file).1
          (k.0, (row, (shared row k.1.1 gone).1, k.1.2), k.2, k.3, k.4, k.5) in
          subst (λ (l : OwnedLine). Contains other l) (one_line line h.0 c h.1 h.2) h.1

-- ---- two snapshots

or_more : (b t : Bool) → t ≡ true → cond b true t ≡ true
or_more true t h = refl
or_more false t h = h

not_false : (b : Bool) → not b ≡ false → b ≡ true
not_false true h = refl
not_false false h = absurd cc

not_true : (b : Bool) → not b ≡ true → b ≡ false
not_true true h = absurd cc
not_true false h = refl

-- whether one of the entries has the path
abbrev has : List Entry → List ℕ → Bool
has [] q = false
has (x ∷ xs) q = cond (bytes_eq x.file.path q) true (has xs q)

has_it : (xs : List Entry) (x : Entry) → Contains xs x → has xs x.file.path ≡ true
has_it [] x c = absurd (in_none x c)
has_it (y ∷ ys) x c = elim (first_or_behind y x ys c) as (λ _. has (y ∷ ys) x.file.path ≡ true) [
  | inl e ↦ subst (λ (z : Entry). has (y ∷ ys) z.file.path ≡ true) e
      (rw ((bytes_eq-Decides y.file.path y.file.path).1 refl) refl)
  | inr m ↦ or_more (bytes_eq y.file.path x.file.path) (has ys x.file.path) (has_it ys x m)
]

it_has : (xs : List Entry) (q : List ℕ) → has xs q ≡ true → (x : Entry) × Contains xs x × (x.file.path ≡ q)
it_has [] q h = absurd cc
it_has (x ∷ xs) q h = cases (it_has xs q) (bytes_eq x.file.path q) refl where
  cases : (has xs q ≡ true → (y : Entry) × Contains xs y × (y.file.path ≡ q)) → (t : Bool)
      → bytes_eq x.file.path q ≡ t → (y : Entry) × Contains (x ∷ xs) y × (y.file.path ≡ q)
  cases next true is = (x, at_head x xs, (bytes_eq-Decides x.file.path q).0 is)
  cases next false is = let rest = next (rw is at h) in (rest.0, contains_more x rest.0 xs rest.1, rest.2)

module _ (fits : FitsItsRow) (p : Pruner) (world : World) (specs : List Spec) (own : Row → Bool)
    (before after : List Row) (may : MayLeaveOut own before after) where
  abbrev left_entries : List Entry
  left_entries = kept_of p world specs (filter (drops own) before)

  -- whether a path stays
  abbrev pub keep : List ℕ → Bool
  keep q = not (has left_entries q)

  leaves_by : (rows : List Row) → ((row : Row) → Contains rows row → own row ≡ false → Contains before row)
      → Leaves fits p world specs own keep rows
  leaves_by rows sub = λ row l c gone d k.
      let among = live_in_flat world specs (filter (drops own) before) l
      (row, refiltered (drops own) before row (sub row c gone) (ap not gone), d) in
      ap not (has_it left_entries l.entry
      (in_kept p (flat_map (live world specs) (filter (drops own) before)) l among k))

  left_by : (rows : List Row) → ((row : Row) → Contains before row → own row ≡ false → Contains rows row)
      → IsLeft fits p world specs own keep rows
  left_by rows sub = λ q gone.
      let found = it_has left_entries q (not_false (has left_entries q) gone) in
      let said = from_kept p (flat_map (live world specs) (filter (drops own) before)) found.0 found.1 in
      let row = live_from_flat world specs (filter (drops own) before) said.0 said.1 in
      let there = filtered (drops own) before row.0 row.1 in
      let is_out = not_true (own row.0) there.1 in (
        row.0,
        said.0,
        sub row.0 there.0 is_out,
        is_out,
        row.2,
        said.2,
        ap (λ (x : Entry). x.file.path) said.3 ∙ found.2,
      )

  leaves_before : Leaves fits p world specs own keep before
  leaves_before = leaves_by before (λ row c gone. c)

  left_before : IsLeft fits p world specs own keep before
  left_before = left_by before (λ row c gone. c)

  leaves_after : Leaves fits p world specs own keep after
  leaves_after = leaves_by after (λ row c gone. (may.of_later row c gone).1)

  left_after : IsLeft fits p world specs own keep after
  left_after = left_by after (λ row c gone. (may.of_earlier row c gone).1)

  abbrev pub keeps_path : OwnedLine → Bool
  keeps_path line = keep (line_path line)

  module _ (earlier later : List OwnedLine) (was : IsPlan p world specs before earlier)
      (is : IsPlan p world specs after later) where
    pub first_is : IsPlan p world specs (filter own before) (filter keeps_path earlier)
    first_is = part fits p world specs own keep before earlier was leaves_before left_before
        (λ row c gone. (may.of_earlier row c gone).0)

    pub second_is : IsPlan p world specs (filter own after) (filter keeps_path later)
    second_is = part fits p world specs own keep after later is leaves_after left_after
        (λ row c gone. (may.of_later row c gone).0)

    pub nothing_changes : line_changes (filter keeps_path earlier) (filter keeps_path later)
        ≡ line_changes earlier later
    nothing_changes =
        let by_path : (x y : OwnedLine) → line_path x ≡ line_path y → keeps_path x ≡ keeps_path y =
        λ x y e. ap keep e in
        left_out line_path change.Removed change.Added lines_told keeps_path by_path line_itself earlier later
        (plan_rises p world specs before earlier was) (plan_rises p world specs after later is)
        (are_in line_path change.Removed change.Added lines_told keeps_path by_path line_itself earlier later
        (is_in_other fits p world specs own keep before earlier was leaves_before left_before after later is
        may.of_earlier may.deletes may.deletes_back))
        (are_in line_path change.Removed change.Added lines_told keeps_path by_path line_itself later earlier
        (is_in_other fits p world specs own keep after later is leaves_after left_after before earlier was
        may.of_later may.deletes_back may.deletes))
