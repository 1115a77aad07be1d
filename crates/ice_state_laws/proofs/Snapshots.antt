-- The plan of a snapshot is what the words of rows and live entries say, and so is each reason why there is none.
use Rattle.std.proofs.Common.{◌≡◌, ◌⊎◌, inl, inr, ◌≤◌, ℕ, List, [], ◌∷◌, ◌++◌, refl, sym, ap, ◌∙◌, true}
use Rattle.std.proofs.Common.{map, filter, arith, subst, Ok, Err, ◌&&◌}
use Rattle.std.specs.List.{Contains, flat_map}
use Rattle.std.specs.List.Sorted.{IsStrictlySortedBy}
use Rattle.std.specs.Cmp.Lexicographic.{slice_cmp}
use Rattle.std.specs.Ordering.{nat_cmp}
use Rattle.contract_words.proofs.Sorted.{Rises, sorted_rises}
use Rattle.ice_value.specs.declared.file_content.FileContent.TheVariants.{Data, PositionDeletes, EqualityDeletes}
use Rattle.ice_meta.specs.declared.spec.Spec.{Spec}
use Rattle.ice_manifest_reading.specs.declared.entry.Entry.{Entry}
use Rattle.ice_manifest_reading.specs.declared.entry.Live.{Live}
use Rattle.ice_manifest_fields.specs.declared.fault.ManifestFault.{ManifestFault}
use Rattle.ice_manifest_reading.specs.declared.row.Row.{Row}
use Rattle.ice_manifest_reading.specs.Laws.{HasEachPathOnce}
use Rattle.ice_manifest_reading.specs.Manifests.{entries}
use Rattle.ice_state.specs.declared.fault.FinishFault.{FinishFault}
use Rattle.ice_state.specs.declared.fault.FinishFault.TheVariants as faults
use Rattle.ice_state.specs.Applying.{applies}
use Rattle.ice_state.specs.Contents.{World}
use Rattle.ice_state.specs.Lines.{OwnedLine}
use Rattle.ice_state.specs.Outcomes.{by_path, path_before, twice, line_of, plan_over, first_or}
use Rattle.ice_state.specs.Pruning.{Pruner, holds, keeps, kept, IsOpen}
use Rattle.ice_state.specs.Scans.{by_row_path, row_before}
use Rattle.ice_state.specs.Shares.{IsLeastShared, count_at}
use Rattle.ice_state.specs.Snapshots.{live, AreKeptWanted, kept_of_wanted, plan_of_snapshot}
use Rattle.ice_state.proofs.Elements.{filtered, refiltered, sorted_contains, contains_sorted}
use Rattle.ice_state.proofs.Planned.{files_of, positions_of, equalities_of}
use Rattle.ice_state.proofs.Scans.{row_order}
use Rattle.ice_state.proofs.Sharing.{order, none_shared, least_shared, count-by_path}
use Rattle.ice_state_laws.specs.Plans.{AreByPath, IsLive, IsKeptFile, IsDeleteOf, HasLine, IsBad, NoneIsBad, IsPlan}
use Rattle.ice_state_laws.specs.Plans.{IsLeastBad, IsPathTwice}
use Rattle.ice_state_laws.proofs.Entries.{from_kept, in_kept, holds_data, data_holds, kept_data, data_kept}
use Rattle.ice_state_laws.proofs.Entries.{live_in_flat}
use Rattle.ice_state_laws.proofs.Entries.{live_from_flat, live_sorted, sorted_live, number-sorted, rise_apart, one_path}
use Rattle.ice_state_laws.proofs.Lists.{in_map, from_map, both_none, none_or_first, Rise, rise_filter, one_list}
use Rattle.ice_state_laws.proofs.Refusals.{first_or_ok, first_or_err, first_of_both, first_twice, path_of_twice}
use Rattle.ice_state_laws.proofs.Refusals.{one_fault, bads, good_from, from_good, IsFirstBad, first_bad}

-- what the law of pruning says of the plan over kept entries
abbrev pub Prunes : Type 0
Prunes = (p : Pruner) (world : World) (specs : List Spec) (rows : List Row) → IsOpen specs p
    → AreKeptWanted p (live world specs) rows →
    plan_over (by_path (entries (flat_map (live world specs) rows)))
    (by_path (kept_of_wanted p (live world specs) rows)) ≡ plan_over
    (by_path (kept_of_wanted p (live world specs) rows)) (by_path (kept_of_wanted p (live world specs) rows))

abbrev pub SameEntries : Type 0
SameEntries = (p : Pruner) (live : Row → List Live) (rows : List Row) → AreKeptWanted p live rows
    → kept p (flat_map live rows) ≡ kept_of_wanted p live rows

-- ---- deletes that apply to what is kept are kept

-- the same tests, and every row is wanted
abbrev of_all : Pruner → Pruner
of_all p = record { meets = p.meets; bounds = p.bounds; wants = λ row. true }

all_wanted : (p : Pruner) (found : Row → List Live) (rows : List Row) → AreKeptWanted (of_all p) found rows
all_wanted p found [] = tt
all_wanted p found (row ∷ rows) = (λ h. refl, all_wanted p found rows)

pub over_kept : SameEntries → Prunes → (p : Pruner) (world : World) (specs : List Spec) (rows : List Row)
    → IsOpen specs p
    → plan_over (by_path (entries (flat_map (live world specs) rows)))
    (by_path (kept p (flat_map (live world specs) rows)))
    ≡ plan_over (by_path (kept p (flat_map (live world specs) rows)))
    (by_path (kept p (flat_map (live world specs) rows)))
over_kept same prunes p world specs rows opens =
    let found = flat_map (live world specs) rows in
    let e : kept p found ≡ kept_of_wanted (of_all p) (live world specs) rows = same (of_all p) (live world specs) rows
    (all_wanted p (live world specs) rows) in
    subst (λ (xs : List Entry). plan_over (by_path (entries found)) (by_path xs) ≡ plan_over (by_path xs) (by_path xs))
    (sym e) (prunes (of_all p) world specs rows opens (all_wanted p (live world specs) rows))

-- ---- one plan

same_line : (a b : OwnedLine) → a.file ≡ b.file → a.positions ≡ b.positions → a.equalities ≡ b.equalities → a ≡ b
same_line a b e f g =
    ap (λ (x : Entry). record { file = x; positions = a.positions; equalities = a.equalities }) e
    ∙ ap (λ (xs : List Entry). record { file = b.file; positions = xs; equalities = a.equalities }) f
    ∙ ap (λ (xs : List Entry). record { file = b.file; positions = b.positions; equalities = xs }) g

map_paths : (plan : List OwnedLine) → map (λ (x : Entry). x.file.path) (map (λ (l : OwnedLine). l.file) plan) ≡ map
    (λ (l : OwnedLine). l.file.file.path) plan
map_paths [] = refl
map_paths (l ∷ ls) = ap (λ (ps : List (List ℕ)). l.file.file.path ∷ ps) (map_paths ls)

lines_rise : (plan : List OwnedLine) → AreByPath (map (λ (l : OwnedLine). l.file) plan)
    → Rise (λ (l : OwnedLine). l.file.file.path) plan
lines_rise plan h = subst (λ (ps : List (List ℕ)). IsStrictlySortedBy (slice_cmp nat_cmp) ps) (map_paths plan) h

module _ (p : Pruner) (world : World) (specs : List Spec) (rows : List Row) where
  -- each line of one plan is one of the other
  lines_in : (plan other : List OwnedLine) → IsPlan p world specs rows plan → IsPlan p world specs rows other
      → (line : OwnedLine) → Contains plan line → Contains other line
  lines_in plan other is its line c =
      let found : HasLine other line.file = (its.files line.file).1 ((is.files line.file).0 (line, c, refl)) in
      let twin = found.0 in
      let same : twin.file ≡ line.file = found.2 in
      let ps : twin.positions ≡ line.positions = one_list (λ (d : Entry). d.file.path) twin.positions line.positions
      (its.positions_by_path twin found.1) (is.positions_by_path line c)
      (λ d m. (is.positions line d c).1 (subst (λ (x : Entry). IsDeleteOf PositionDeletes world specs rows x d) same
      ((its.positions twin d found.1).0 m)))
      (λ d m. (its.positions twin d found.1).1 (subst (λ (x : Entry). IsDeleteOf PositionDeletes world specs rows x d)
      (sym same) ((is.positions line d c).0 m))) in
      let es : twin.equalities ≡ line.equalities = one_list (λ (d : Entry). d.file.path) twin.equalities line.equalities
      (its.equalities_by_path twin found.1) (is.equalities_by_path line c)
      (λ d m. (is.equalities line d c).1 (subst (λ (x : Entry). IsDeleteOf EqualityDeletes world specs rows x d) same
      ((its.equalities twin d found.1).0 m)))
      (λ d m. (its.equalities twin d found.1).1 (subst (λ (x : Entry). IsDeleteOf EqualityDeletes world specs rows x d)
      (sym same) ((is.equalities line d c).0 m))) in
      subst (λ (l : OwnedLine). Contains other l) (same_line twin line same ps es) found.1

  pub one_plan : (plan other : List OwnedLine) → IsPlan p world specs rows plan → IsPlan p world specs rows other
      → plan ≡ other
  one_plan plan other is its = one_list (λ (line : OwnedLine). line.file.file.path) plan other
      (lines_rise plan is.by_path) (lines_rise other its.by_path)
      (lines_in plan other is its) (lines_in other plan its is)

  -- ---- what the definition has

  abbrev found : List Live
  found = flat_map (live world specs) (by_row_path rows)

  abbrev ks : List Entry
  ks = by_path (kept p found)

  abbrev made : List OwnedLine
  made = plan_over (by_path (entries found)) ks

  from_ks : (x : Entry) → Contains ks x → (l : Live) × IsLive world specs rows l × (keeps p l ≡ true) × (l.entry ≡ x)
  from_ks x c =
      let k = from_kept p found x (sorted_contains path_before (kept p found) x c) in
      (k.0, sorted_live world specs rows k.0 (live_from_flat world specs (by_row_path rows) k.0 k.1), k.2, k.3)

  in_found : (l : Live) → IsLive world specs rows l → Contains found l
  in_found l h = live_in_flat world specs (by_row_path rows) l (live_sorted world specs rows l h)

  in_ks : (l : Live) → IsLive world specs rows l → keeps p l ≡ true → Contains ks l.entry
  in_ks l h k = contains_sorted path_before (kept p found) l.entry (in_kept p found l (in_found l h) k)

  from_all : (d : Entry) → Contains (by_path (entries found)) d
      → (l : Live) × IsLive world specs rows l × (l.entry ≡ d)
  from_all d c =
      let m = from_map (λ (l : Live). l.entry) found d (sorted_contains path_before (entries found) d c) in
      (m.0, sorted_live world specs rows m.0 (live_from_flat world specs (by_row_path rows) m.0 m.1), m.2)

  in_all : (d : Entry) (l : Live) → IsLive world specs rows l → l.entry ≡ d → Contains (by_path (entries found)) d
  in_all d l h e = contains_sorted path_before (entries found) d (subst (λ (x : Entry). Contains (entries found) x) e
      (in_map (λ (m : Live). m.entry) found l (in_found l h)))

  ks_rise : Rises path_before order ks
  ks_rise = sorted_rises path_before order (kept p found)

  count_is : (q : List ℕ) → count_at ks q ≡ count_at (kept p (flat_map (live world specs) rows)) q
  count_is q = count-by_path (kept p found) q ∙ number-sorted p (live world specs) q rows

  to_line : (l : Live) → IsLive world specs rows l → l.entry.file.content ≡ Data
      → p.meets l.entry.spec_id l.entry.file.tuple ≡ true → p.bounds l.bounds ≡ true → HasLine made l.entry
  to_line l h d m b =
      let k = in_ks l h (data_kept p l m b) in
      let f = refiltered (holds Data) ks l.entry k (data_holds l.entry d) in
      from_map (λ (line : OwnedLine). line.file) made l.entry (subst (λ (xs : List Entry). Contains xs l.entry)
      (sym (files_of (by_path (entries found)) ks)) f)

  from_line : (x : Entry) → HasLine made x → IsKeptFile p world specs rows x
  from_line x (line, c, e) =
      let m = subst (λ (xs : List Entry). Contains xs line.file) (files_of (by_path (entries found)) ks)
      (in_map (λ (l : OwnedLine). l.file) made line c) in
      let f = filtered (holds Data) ks line.file m in
      let k = from_ks line.file f.0 in
      let d : line.file.file.content ≡ Data = holds_data line.file f.1 in
      let b = kept_data p k.0 (subst (λ (y : Entry). y.file.content ≡ Data) (sym k.3) d) k.2 in
      subst (λ (y : Entry). IsKeptFile p world specs rows y) e (
        k.0,
        k.1,
        k.3,
        d,
        subst (λ (y : Entry). p.meets y.spec_id y.file.tuple ≡ true) k.3 b.0,
        b.1,
      )

  module _ (over : made ≡ plan_over ks ks) where
    -- what stands in a line of the plan over the kept entries
    in_line : (line : OwnedLine) → Contains made line → (x : Entry) × (line_of ks x ≡ line)
    in_line line c =
        let m = from_map (line_of ks) (filter (holds Data) ks) line
        (subst (λ (ls : List OwnedLine). Contains ls line) over
        c) in
        (m.0, m.2)

    plan_is : bads world specs p (by_row_path rows) ≡ [] → twice ks ≡ [] → IsPlan p world specs rows made
    plan_is good once =
        let apart : (q : List ℕ) → count_at ks q ≤ 1 = λ q. none_shared ks q ks_rise once in
        let up = rise_apart ks ks_rise apart in
        record {
          good = good_from world specs p rows good;
          apart = λ q. omega (arith, apart q, count_is q);
          files = λ x. (
            from_line x,
            λ (l, h, e, d, m, b). subst (λ (y : Entry). HasLine made y) e (to_line l h
                (subst (λ (y : Entry). y.file.content ≡ Data) (sym e) d)
                (subst (λ (y : Entry). p.meets y.spec_id y.file.tuple ≡ true) (sym e) m) b),
          );
          positions = λ line d c.
              let both = positions_of (by_path (entries found)) ks line d c in (
                λ m. let r = both.0 m in let f = from_all d r.0 in (f.0, f.1, f.2, r.1.0, r.1.1),
                λ (l, h, e, k, a). both.1 (in_all d l h e, (k, a)),
              );
          equalities = λ line d c.
              let both = equalities_of (by_path (entries found)) ks line d c in (
                λ m. let r = both.0 m in let f = from_all d r.0 in (f.0, f.1, f.2, r.1.0, r.1.1),
                λ (l, h, e, k, a). both.1 (in_all d l h e, (k, a)),
              );
          by_path = subst (λ (xs : List Entry). IsStrictlySortedBy (slice_cmp nat_cmp)
              (map (λ (x : Entry). x.file.path) xs))
              (sym (files_of (by_path (entries found)) ks))
              (rise_filter (λ (x : Entry). x.file.path) (holds Data) ks up);
          positions_by_path = λ line c.
              let m = in_line line c in
              subst (λ (l : OwnedLine). IsStrictlySortedBy (slice_cmp nat_cmp)
              (map (λ (x : Entry). x.file.path) l.positions))
              m.1 (rise_filter (λ (x : Entry). x.file.path) (λ (d : Entry). holds PositionDeletes d && applies m.0 d) ks
              up);
          equalities_by_path = λ line c.
              let m = in_line line c in
              subst (λ (l : OwnedLine). IsStrictlySortedBy (slice_cmp nat_cmp)
              (map (λ (x : Entry). x.file.path) l.equalities))
              m.1 (rise_filter (λ (x : Entry). x.file.path) (λ (d : Entry). holds EqualityDeletes d && applies m.0 d) ks
              up);
        }

    abbrev all_faults : List FinishFault
    all_faults = bads world specs p (by_row_path rows) ++ twice ks

    pub to_plan : (plan : List OwnedLine) → plan_of_snapshot p world specs rows ≡ Ok plan
        → IsPlan p world specs rows plan
    to_plan plan h =
        let o = first_or_ok all_faults made plan h in
        let n = both_none (bads world specs p (by_row_path rows)) (twice ks) o.0 in
        subst (IsPlan p world specs rows) o.1 (plan_is n.0 n.1)

    -- the first path that neighbours share is shared by two
    shared_of : (g : FinishFault) (gs : List FinishFault) → twice ks ≡ g ∷ gs
        → (path : List ℕ) × (g ≡ faults.PathTwice path) × IsLeastShared (kept p (flat_map (live world specs) rows)) path
    shared_of g gs h =
        let t = path_of_twice g (first_twice ks g gs h) in
        let l = least_shared ks t.0 gs ks_rise (h ∙ ap (λ (f : FinishFault). f ∷ gs) t.1) in (
          t.0,
          t.1,
          record {
            shared = omega (arith, l.0, count_is t.0);
            least = λ q k. l.1 q (omega (arith, k, count_is q));
          },
        )

    once_where : ((q : List ℕ) → count_at (kept p (flat_map (live world specs) rows)) q ≤ 1) → twice ks ≡ []
    once_where apart = elim (none_or_first (twice ks)) as (λ _. twice ks ≡ []) [
      | inl e ↦ e
      | inr (g, gs, e) ↦
          (let s = shared_of g gs e in absurd (omega (arith, s.2.shared, apart s.0)))
    ]

    made_where : bads world specs p (by_row_path rows) ≡ [] → twice ks ≡ []
        → plan_of_snapshot p world specs rows ≡ Ok made
    made_where good once =
        ap (λ (fs : List FinishFault). first_or (fs ++ twice ks) made) good
        ∙ ap (λ (fs : List FinishFault). first_or fs made) once

    pub from_plan : (plan : List OwnedLine) → IsPlan p world specs rows plan
        → plan_of_snapshot p world specs rows ≡ Ok plan
    from_plan plan is =
        let good = from_good world specs p rows is.good in
        let once = once_where is.apart in
        made_where good once ∙ ap Ok (one_plan made plan (plan_is good once) is)

    -- ---- why there is none

    -- a fault is that of the first bad row, or no row is bad and it is the first path that stands twice
    pub what_is_told : (g : FinishFault) → plan_of_snapshot p world specs rows ≡ Err g
        → IsFirstBad world specs p (by_row_path rows) g
        ⊎ (NoneIsBad p world specs rows
        × ((path : List ℕ) × (g ≡ faults.PathTwice path) × IsLeastShared (kept p (flat_map (live world specs) rows))
        path))
    what_is_told g h =
        let e = first_or_err all_faults made g h in
        elim (first_of_both (bads world specs p (by_row_path rows)) (twice ks) g e.0 e.1) as
        (λ _. IsFirstBad world specs p (by_row_path rows) g
        ⊎ (NoneIsBad p world specs rows
        × ((path : List ℕ) × (g ≡ faults.PathTwice path) × IsLeastShared (kept p (flat_map (live world specs) rows))
        path))) [
          | inl (hs, k) ↦ inl (first_bad world specs p (by_row_path rows) g hs
              (sorted_rises row_before row_order rows) k)
          | inr (k, t) ↦ inr (good_from world specs p rows k, shared_of g e.0 t)
        ]

    pub to_bad : (path : List ℕ) (fault : ManifestFault)
        → plan_of_snapshot p world specs rows ≡ Err (faults.Bad path fault) → IsLeastBad p world specs rows path fault
    to_bad path fault h =
        elim (what_is_told (faults.Bad path fault) h) as (λ _. IsLeastBad p world specs rows path fault) [
          | inl (row, its, c, w, b, e, least) ↦
              let same : its ≡ fault = cc in
              let at : row.path ≡ path = cc in (
                row,
                sorted_contains row_before rows row c,
                w,
                subst (λ (f : ManifestFault). IsBad world specs row f) same b,
                at,
                λ other f d v k. least other f (contains_sorted row_before rows other d) v k,
              )
          | inr (good, (q, e, s)) ↦ cc
        ]

    told_where : (row : Row) (fault : ManifestFault) → Contains rows row → p.wants row ≡ true
        → IsBad world specs row fault
        → (g : FinishFault) × (plan_of_snapshot p world specs rows ≡ Err g)
        × IsFirstBad world specs p (by_row_path rows) g
    told_where row fault c w b =
        elim (none_or_first (bads world specs p (by_row_path rows))) as (λ _. (g : FinishFault)
        × (plan_of_snapshot p world specs rows ≡ Err g) × IsFirstBad world specs p (by_row_path rows) g) [
          | inl e ↦ absurd (good_from world specs p rows e row fault c w b)
          | inr (g, gs, e) ↦ (
            g,
            ap (λ (fs : List FinishFault). first_or (fs ++ twice ks) made) e,
            first_bad world specs p (by_row_path rows) g gs (sorted_rises row_before row_order rows) e,
          )
        ]

    pub from_least_bad : HasEachPathOnce rows → (path : List ℕ) (fault : ManifestFault)
        → IsLeastBad p world specs rows path fault → plan_of_snapshot p world specs rows ≡ Err (faults.Bad path fault)
    from_least_bad own path fault (row, c, w, b, e, least) =
        let t = told_where row fault c w b in
        let f = t.2 in
        let first : Row = f.0 in
        let its : ManifestFault = f.1 in
        let d = sorted_contains row_before rows first f.2 in
        let paths : first.path ≡ row.path = one_path first.path row.path
        (least first its d f.3 f.4) (f.6 row fault (contains_sorted row_before rows row c) w b) in
        let same : first ≡ row = own first row d c paths in
        let faulty : its ≡ fault = one_fault world specs row its fault
        (subst (λ (r : Row). IsBad world specs r its) same f.4) b in
        t.1 ∙ ap Err (sym f.5 ∙ ap (λ (q : List ℕ). faults.Bad q its) (paths ∙ e)
        ∙ ap (λ (k : ManifestFault). faults.Bad path k) faulty)

    pub to_twice : (path : List ℕ) → plan_of_snapshot p world specs rows ≡ Err (faults.PathTwice path)
        → IsPathTwice p world specs rows path
    to_twice path h = elim (what_is_told (faults.PathTwice path) h) as (λ _. IsPathTwice p world specs rows path) [
      | inl (row, its, c, w, b, e, least) ↦ cc
      | inr (good, (q, e, s)) ↦ (let same : q ≡ path = cc in (
        good,
        subst (IsLeastShared (kept p (flat_map (live world specs) rows))) same
            s,
      ))
    ]

    pub from_twice : (path : List ℕ) → IsPathTwice p world specs rows path
        → plan_of_snapshot p world specs rows ≡ Err (faults.PathTwice path)
    from_twice path (good, s) =
        let none = from_good world specs p rows good in
        elim (none_or_first (twice ks)) as (λ _. plan_of_snapshot p world specs rows ≡ Err (faults.PathTwice path)) [
          | inl e ↦ absurd (omega (arith, s.shared, count_is path, none_shared ks path ks_rise e))
          | inr (g, gs, e) ↦
              let t = shared_of g gs e in
              let same : t.0 ≡ path = one_path t.0 path (s.least t.0 t.2.shared)
              (t.2.least path s.shared) in
              ap (λ (fs : List FinishFault). first_or (fs ++ twice ks) made) none
              ∙ ap (λ (fs : List FinishFault). first_or fs made) e
              ∙ ap Err (t.1 ∙ ap faults.PathTwice same)
        ]
