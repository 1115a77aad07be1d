-- What is live and what is kept, and paths that kept entries share.
use Rattle.std.proofs.Common.{◌≡◌, ◌<◌, ◌≤◌, ◌+◌, ℕ, suc, List, [], ◌∷◌, ◌++◌, refl, sym, ap, ◌∙◌, Bool, true}
use Rattle.std.proofs.Common.{false, map, filter, cond, arith, length, length-append, not, ◌&&◌, ◌||◌, Ordering, is_lt}
use Rattle.std.specs.List.{Contains, AllByRecursion, flat_map}
use Rattle.std.specs.Cmp.Lexicographic.{slice_cmp}
use Rattle.std.specs.Ordering.{nat_cmp, ordering_reverse}
use Rattle.std.specs.declared.cmp.Ordering.TheVariants.{Less, Equal, Greater}
use Rattle.std.specs.Str.{bytes_eq}
use Rattle.std.proofs.lemmas.Cmp.{nat_list_cmp_total}
use Rattle.std.proofs.lemmas.List.Elements.{filter-append}
use Rattle.std.proofs.lemmas.Map.Text.{is_eq-slice_cmp}
use Rattle.std.proofs.lemmas.Slice.Eq.{bytes_eq-Decides}
use Rattle.contract_words.specs.Sorting.{put}
use Rattle.contract_words.proofs.Sorted.{Rises}
use Rattle.ice_value.specs.declared.file_content.FileContent.{FileContent}
use Rattle.ice_value.specs.declared.file_content.FileContent.TheVariants.{Data, PositionDeletes, EqualityDeletes}
use Rattle.ice_meta.specs.declared.spec.Spec.{Spec}
use Rattle.ice_manifest_reading.specs.declared.entry.Entry.{Entry}
use Rattle.ice_manifest_reading.specs.declared.entry.Live.{Live}
use Rattle.ice_manifest_reading.specs.declared.row.Row.{Row}
use Rattle.ice_manifest_reading.specs.Manifests.{entries}
use Rattle.ice_state.specs.Contents.{World}
use Rattle.ice_state.specs.Outcomes.{path_before}
use Rattle.ice_state.specs.Pruning.{Pruner, holds, same_content, keeps, kept}
use Rattle.ice_state.specs.Scans.{by_row_path, row_before}
use Rattle.ice_state.specs.Shares.{count_at}
use Rattle.ice_state.specs.Snapshots.{live}
use Rattle.ice_state.proofs.Elements.{filtered, refiltered, sorted_contains, contains_sorted}
use Rattle.ice_state.proofs.Filters.{and_true}
use Rattle.ice_state.proofs.Sharing.{order}
use Rattle.ice_state_laws.specs.Plans.{IsLive}
use Rattle.ice_state_laws.proofs.Lists.{in_map, from_map, in_flat, from_flat, Rise, rise_more, rise_none}

-- ---- what is kept

-- an entry is kept where one that is live says it
pub from_kept : (p : Pruner) (found : List Live) (x : Entry) → Contains (kept p found) x
    → (l : Live) × Contains found l × (keeps p l ≡ true) × (l.entry ≡ x)
from_kept p found x c =
    let m = from_map (λ (l : Live). l.entry) (filter (keeps p) found) x c in
    let f = filtered (keeps p) found m.0 m.1 in
    (m.0, f.0, f.1, m.2)

pub in_kept : (p : Pruner) (found : List Live) (l : Live) → Contains found l → keeps p l ≡ true
    → Contains (kept p found) l.entry
in_kept p found l c k = in_map (λ (m : Live). m.entry) (filter (keeps p) found) l (refiltered (keeps p) found l c k)

pub data_holds : (x : Entry) → x.file.content ≡ Data → holds Data x ≡ true
data_holds x h = rw h refl

is_data : (c : FileContent) → same_content c Data ≡ true → c ≡ Data
is_data Data h = refl
is_data PositionDeletes h = cc
is_data EqualityDeletes h = cc

pub holds_data : (x : Entry) → holds Data x ≡ true → x.file.content ≡ Data
holds_data x h = is_data x.file.content h

bounds_of : (h b : Bool) → h ≡ true → (not h || b) ≡ true → b ≡ true
bounds_of true b e k = k
bounds_of false b e k = cc

of_bounds : (h b : Bool) → b ≡ true → (not h || b) ≡ true
of_bounds true b e = e
of_bounds false b e = refl

both : (a b : Bool) → a ≡ true → b ≡ true → (a && b) ≡ true
both true b h k = k
both false b h k = cc

-- a data file is kept by its partition values and its bounds
pub kept_data : (p : Pruner) (l : Live) → l.entry.file.content ≡ Data → keeps p l ≡ true
    → (p.meets l.entry.spec_id l.entry.file.tuple ≡ true) × (p.bounds l.bounds ≡ true)
kept_data p l d k =
    let b = and_true (p.meets l.entry.spec_id l.entry.file.tuple) (not (holds Data l.entry) || p.bounds l.bounds) k in
    (b.0, bounds_of (holds Data l.entry) (p.bounds l.bounds) (data_holds l.entry d) b.1)

pub data_kept : (p : Pruner) (l : Live) → p.meets l.entry.spec_id l.entry.file.tuple ≡ true → p.bounds l.bounds ≡ true
    → keeps p l ≡ true
data_kept p l m b = both (p.meets l.entry.spec_id l.entry.file.tuple) (not (holds Data l.entry) || p.bounds l.bounds) m
    (of_bounds (holds Data l.entry) (p.bounds l.bounds) b)

-- ---- live entries of rows in whatever order

pub live_in_flat : (world : World) (specs : List Spec) (rows : List Row) (l : Live) → IsLive world specs rows l
    → Contains (flat_map (live world specs) rows) l
live_in_flat world specs rows l (row, c, d) = in_flat (live world specs) rows row l c d

pub live_from_flat : (world : World) (specs : List Spec) (rows : List Row) (l : Live)
    → Contains (flat_map (live world specs) rows) l → IsLive world specs rows l
live_from_flat world specs rows l c = from_flat (live world specs) rows l c

pub live_sorted : (world : World) (specs : List Spec) (rows : List Row) (l : Live) → IsLive world specs rows l
    → IsLive world specs (by_row_path rows) l
live_sorted world specs rows l (row, c, d) = (row, contains_sorted row_before rows row c, d)

pub sorted_live : (world : World) (specs : List Spec) (rows : List Row) (l : Live)
    → IsLive world specs (by_row_path rows) l → IsLive world specs rows l
sorted_live world specs rows l (row, c, d) = (row, sorted_contains row_before rows row c, d)

-- ---- how many kept entries have a path, of rows in whatever order

count-append : (xs ys : List Entry) (q : List ℕ) → count_at (xs ++ ys) q ≡ count_at xs q + count_at ys q
count-append xs ys q = ap length (filter-append (λ (x : Entry). bytes_eq x.file.path q) xs ys) ∙ length-append
    (filter (λ (x : Entry). bytes_eq x.file.path q) xs) (filter (λ (x : Entry). bytes_eq x.file.path q) ys)

pub kept-append : (p : Pruner) (xs ys : List Live) → kept p (xs ++ ys) ≡ kept p xs ++ kept p ys
kept-append p [] ys = refl
kept-append p (x ∷ xs) ys = elim (keeps p x) as (λ v. entries (cond v (x ∷ filter (keeps p) (xs ++ ys))
    (filter (keeps p) (xs ++ ys))) ≡ entries (cond v (x ∷ filter (keeps p) xs) (filter (keeps p) xs)) ++ kept p ys) [
      | true ↦ ap (λ zs. x.entry ∷ zs) (kept-append p xs ys)
      | false ↦ kept-append p xs ys
    ]

module _ (p : Pruner) (found : Row → List Live) (q : List ℕ) where
  abbrev number : List Row → ℕ
  number rows = count_at (kept p (flat_map found rows)) q

  number-more : (row : Row) (rows : List Row) → number (row ∷ rows) ≡ count_at (kept p (found row)) q + number rows
  number-more row rows = ap (λ xs. count_at xs q) (kept-append p (found row) (flat_map found rows)) ∙ count-append
      (kept p (found row)) (kept p (flat_map found rows)) q

  number-put : (row : Row) (rows : List Row) → number (put row_before row rows) ≡ number (row ∷ rows)
  number-put row [] = refl
  number-put row (other ∷ rows) =
      elim (row_before other row) as (λ v. number (cond v (other ∷ put row_before row rows)
      (row ∷ other ∷ rows)) ≡ number
      (row ∷ other ∷ rows)) [
        | true ↦ omega (
          arith,
          number-more other (put row_before row rows),
          number-put row rows,
          number-more row rows,
          number-more row (other ∷ rows),
          number-more other rows,
        )
        | false ↦ refl
      ]

  pub number-sorted : (rows : List Row) → number (by_row_path rows) ≡ number rows
  number-sorted [] = refl
  number-sorted (row ∷ rows) = omega (
    arith,
    number-put row (by_row_path rows),
    number-more row (by_row_path rows),
    number-sorted rows,
    number-more row rows,
  )

-- ---- entries of which no two share a path

has_own : (x : Entry) → bytes_eq x.file.path x.file.path ≡ true
has_own x = (bytes_eq-Decides x.file.path x.file.path).1 refl

count-itself : (x : Entry) (xs : List Entry) → count_at (x ∷ xs) x.file.path ≡ suc (count_at xs x.file.path)
count-itself x xs = rw (has_own x) refl

count_more : (x : Entry) (xs : List Entry) (q : List ℕ) → count_at xs q ≤ count_at (x ∷ xs) q
count_more x xs q = elim (bytes_eq x.file.path q) as (λ v. count_at xs q ≤ length
    (cond v (x ∷ filter (λ (w : Entry). bytes_eq w.file.path q) xs) (filter (λ (w : Entry). bytes_eq w.file.path q)
    xs))) [ true ↦ omega arith | false ↦ omega arith ]

-- of paths that differ, of which the second isn't before the first, the first is less
is_less : (a b : List ℕ) → is_lt (slice_cmp nat_cmp b a) ≡ false → bytes_eq b a ≡ false → slice_cmp nat_cmp a b ≡ Less
is_less a b h d =
    let P : (o : Ordering) → slice_cmp nat_cmp b a ≡ o → slice_cmp nat_cmp a b ≡ Less =
    λ o. elim o as (λ v. slice_cmp nat_cmp b a ≡ v → slice_cmp nat_cmp a b ≡ Less) [
      | Less ↦ λ e. let t : true ≡ false = sym (ap is_lt e) ∙ h in cc
      | Equal ↦ λ e. let t = is_eq-slice_cmp b a in let u : true ≡ false = rw e at t ∙ d in cc
      | Greater ↦ λ e. nat_list_cmp_total.antisymm a b ∙ ap ordering_reverse e
    ] in
    P (slice_cmp nat_cmp b a) refl

-- paths of which neither is before the other are one
pub one_path : (a b : List ℕ) → is_lt (slice_cmp nat_cmp a b) ≡ false → is_lt (slice_cmp nat_cmp b a) ≡ false → a ≡ b
one_path a b h k =
    let P : (c : Bool) → bytes_eq b a ≡ c → a ≡ b =
    λ c. elim c as (λ v. bytes_eq b a ≡ v → a ≡ b) [
      | true ↦ λ t. sym ((bytes_eq-Decides b a).0 t)
      | false ↦ λ f. let l : Less ≡ slice_cmp nat_cmp a b = sym (is_less a b k f) in
          let no : true ≡ false = ap is_lt l ∙ h in cc
    ] in
    P (bytes_eq b a) refl

none_before : (x : Entry) (ys : List Entry) → AllByRecursion (λ y. path_before y x ≡ false) ys
    → count_at ys x.file.path < 1
    → AllByRecursion (λ q. slice_cmp nat_cmp x.file.path q ≡ Less) (map (λ (y : Entry). y.file.path) ys)
none_before x [] all c = tt
none_before x (y ∷ ys) all c =
    let differ : (b : Bool) → bytes_eq y.file.path x.file.path ≡ b → bytes_eq y.file.path x.file.path ≡ false =
    λ b. elim b as (λ v. bytes_eq y.file.path x.file.path ≡ v → bytes_eq y.file.path x.file.path ≡ false) [
      | true ↦ λ t. absurd (let n : count_at (y ∷ ys) x.file.path ≡ suc (count_at ys x.file.path) = rw t refl in omega
          (arith, n, c))
      | false ↦ λ f. f
    ] in (
      is_less x.file.path y.file.path all.0 (differ (bytes_eq y.file.path x.file.path) refl),
      none_before x ys all.1 (omega (arith, c, count_more y ys x.file.path)),
    )

pub rise_apart : (xs : List Entry) → Rises path_before order xs → ((q : List ℕ) → count_at xs q ≤ 1)
    → Rise (λ (x : Entry). x.file.path) xs
rise_apart [] r h = rise_none (λ (x : Entry). x.file.path)
rise_apart (x ∷ xs) r h = rise_more (λ (y : Entry). y.file.path) x xs
    (none_before x xs r.0 (omega (arith, h x.file.path, count-itself x xs)))
    (rise_apart xs r.1 (λ q. omega (arith, h q, count_more x xs q)))
