-- What is kept stays under its number.
use Rattle.std.proofs.Common.{◌≡◌, ℕ, ◌+◌, ◌<◌, List, [], ◌∷◌, ◌++◌, length, slice_index_or, refl, sym, ap, ◌∙◌}
use Rattle.std.proofs.Common.{subst, arith, add-one, length-append, inl, inr}
use Rattle.std.specs.Prelude.{take, Result, Ok, Err, IfOk, OnErr}
use Rattle.std.proofs.Math.ListN.{get_or-append}
use Rattle.std.proofs.Math.Seq.{get_or-append_seam, take-suc}
use Rattle.std.proofs.lemmas.List.{length-map, get_or-map, map-append}
use Rattle.ice_manifest_reading.specs.declared.entry.Entry.{Entry}
use Rattle.ice_state_entries.specs.declared.entries.EntryNumber.{EntryNumber}
use Rattle.ice_state_entries.specs.declared.entries.EntryNumber.TheVariants.{Record as First, Clash as Further}
use Rattle.ice_state_entries.specs.declared.record.Shared.{Shared}
use Rattle.ice_state_entries.specs.Kept.{Kept, IsKept, AreKept, entry_at, entries_at, Keeps, no_entry, HasEachPathOnce}
use Rattle.ice_state_entries.specs.Kept.{HasKnownPaths}
use Rattle.ice_state_entries.specs.Keeping.{kept_of, HasAllOf}
use Rattle.ice_state_entries.specs.Own.{Row}
use Rattle.ice_state_entries.specs.Sharing.{entry_in, HasShared, IsWithin, KeepsShared}
use Rattle.ice_state_entries.specs.Tables.{Rows, IsIn, row_at, no_row, Has, Puts, HasOwnPaths}
use Rattle.ice_state_entries.specs.Tables.{HasKnownPaths as KnownRows}
use Rattle.ice_state_entries.proofs.Lists.{all_at, all_push, all_weaker, map_same}
use Rattle.ice_state_entries.proofs.Growing.{entry_in-keeps, entries-keep, all_within-keeps}

pub in_rows : (s : Shared) (rows : Rows) (n : EntryNumber) → IsKept (kept_of s rows) n → IsIn rows n
in_rows s rows (First n) kept = omega (arith, kept, length-map rows.records (entry_in s))
in_rows s rows (Further n) kept = omega (arith, kept, length-map rows.clashes (entry_in s))

pub is_kept : (s : Shared) (rows : Rows) (n : EntryNumber) → IsIn rows n → IsKept (kept_of s rows) n
is_kept s rows (First n) within = omega (arith, within, length-map rows.records (entry_in s))
is_kept s rows (Further n) within = omega (arith, within, length-map rows.clashes (entry_in s))

-- the entry of a number is that of its row
pub entry_at-row : (s : Shared) (rows : Rows) (n : EntryNumber) → IsIn rows n →
    entry_at (kept_of s rows) n ≡ entry_in s (row_at rows n)
entry_at-row s rows (First n) within = get_or-map (entry_in s) rows.records n no_row no_entry within
entry_at-row s rows (Further n) within = get_or-map (entry_in s) rows.clashes n no_row no_entry within

pub row_within : (s : Shared) (rows : Rows) (n : EntryNumber) → HasAllOf s rows → IsIn rows n →
    IsWithin s (row_at rows n).1
row_within s rows (First n) all within = all_at (HasShared s) rows.records n no_row all.0 within
row_within s rows (Further n) all within = all_at (HasShared s) rows.clashes n no_row all.1 within

pub has_all-keeps : (s t : Shared) (rows : Rows) → KeepsShared s t → HasAllOf s rows → HasAllOf t rows
has_all-keeps s t rows keeps all = (
  all_within-keeps s t rows.records keeps all.0,
  all_within-keeps s t rows.clashes keeps all.1,
)

pub kept_of-keeps : (s t : Shared) (rows : Rows) → KeepsShared s t → HasAllOf s rows → kept_of t rows ≡ kept_of s rows
kept_of-keeps s t rows keeps all = λ i. record {
  records = entries-keep s t rows.records keeps all.0 i;
  clashes = entries-keep s t rows.clashes keeps all.1 i;
}

has_all-puts : (s : Shared) (rows : Rows) (number : EntryNumber) (row : Row) (new : Rows) →
    Puts rows number row new → HasAllOf s rows → IsWithin s row.1 → HasAllOf s new
has_all-puts s rows (First n) row new puts all within =
    subst (HasAllOf s) (sym puts.1) (all_push (HasShared s) rows.records row all.0 within, all.1)
has_all-puts s rows (Further n) row new puts all within =
    subst (HasAllOf s) (sym puts.1) (all.0, all_push (HasShared s) rows.clashes row all.1 within)

pub has_all-put : (s : Shared) (rows : Rows) (number : EntryNumber) (row : Row) (new : Rows) →
    Has rows number row new → HasAllOf s rows → IsWithin s row.1 → HasAllOf s new
has_all-put s rows number row new has all within = elim has [
  | inl there ↦ subst (HasAllOf s) (sym there.2) all
  | inr puts ↦ has_all-puts s rows number row new puts all within
]

-- the row of a number
abbrev IsRowAt : Rows → EntryNumber → Row → Type 0
IsRowAt rows n row = IsIn rows n × (row_at rows n ≡ row)

push_keeps : (rows : List Row) (row : Row) (n : ℕ) → n < length rows →
    (n < length (rows ++ row ∷ [])) × (slice_index_or (rows ++ row ∷ []) n no_row ≡ slice_index_or rows n no_row)
push_keeps rows row n within =
    (omega (arith, within, length-append rows (row ∷ [])), get_or-append rows (row ∷ []) no_row n within)

pushed_last : (rows : List Row) (row : Row) (n : ℕ) → n ≡ length rows →
    (n < length (rows ++ row ∷ [])) × (slice_index_or (rows ++ row ∷ []) n no_row ≡ row)
pushed_last rows row n last = (
  omega (arith, last, length-append rows (row ∷ [])),
  ap (λ m. slice_index_or (rows ++ row ∷ []) m no_row) last ∙ get_or-append_seam rows row [] no_row,
)

-- what was in is in still, and the new row too
stays_put : (rows : Rows) (number : EntryNumber) (row : Row) (new : Rows) → Puts rows number row new →
    (n : EntryNumber) → IsIn rows n → IsRowAt new n (row_at rows n)
stays_put rows (First k) row new puts (First n) within =
    subst (λ (r : Rows). IsRowAt r (First n) (row_at rows (First n))) (sym puts.1)
    (push_keeps rows.records row n within)
stays_put rows (First k) row new puts (Further n) within =
    subst (λ (r : Rows). IsRowAt r (Further n) (row_at rows (Further n))) (sym puts.1) (within, refl)
stays_put rows (Further k) row new puts (First n) within =
    subst (λ (r : Rows). IsRowAt r (First n) (row_at rows (First n))) (sym puts.1) (within, refl)
stays_put rows (Further k) row new puts (Further n) within =
    subst (λ (r : Rows). IsRowAt r (Further n) (row_at rows (Further n))) (sym puts.1)
    (push_keeps rows.clashes row n within)

stays : (rows : Rows) (number : EntryNumber) (row : Row) (new : Rows) → Has rows number row new →
    (n : EntryNumber) → IsIn rows n → IsRowAt new n (row_at rows n)
stays rows number row new has n within = elim has [
  | inl there ↦ subst (λ (r : Rows). IsRowAt r n (row_at rows n)) (sym there.2) (within, refl)
  | inr puts ↦ stays_put rows number row new puts n within
]

last_in : (rows : Rows) (number : EntryNumber) (row : Row) (new : Rows) → Puts rows number row new →
    IsRowAt new number row
last_in rows (First k) row new puts =
    subst (λ (r : Rows). IsRowAt r (First k) row) (sym puts.1) (pushed_last rows.records row k puts.0)
last_in rows (Further k) row new puts =
    subst (λ (r : Rows). IsRowAt r (Further k) row) (sym puts.1) (pushed_last rows.clashes row k puts.0)

pub put_in : (rows : Rows) (number : EntryNumber) (row : Row) (new : Rows) → Has rows number row new →
    IsRowAt new number row
put_in rows number row new has = elim has [
  | inl there ↦ subst (λ (r : Rows). IsRowAt r number row) (sym there.2) (there.0, there.1)
  | inr puts ↦ last_in rows number row new puts
]

pub keeps_same : (a b : Kept) → b ≡ a → Keeps a b
keeps_same a b same n kept = (subst (λ (k : Kept). IsKept k n) (sym same) kept, ap (λ (k : Kept). entry_at k n) same)

pub keeps_grown : (s t : Shared) (rows : Rows) → KeepsShared s t → HasAllOf s rows →
    Keeps (kept_of s rows) (kept_of t rows)
keeps_grown s t rows keeps all = keeps_same (kept_of s rows) (kept_of t rows) (kept_of-keeps s t rows keeps all)

pub keeps_put : (s t : Shared) (rows : Rows) (number : EntryNumber) (row : Row) (new : Rows) →
    KeepsShared s t → HasAllOf s rows → Has rows number row new → Keeps (kept_of s rows) (kept_of t new)
keeps_put s t rows number row new keeps all puts n kept =
    let within = in_rows s rows n kept in
    let still = stays rows number row new puts n within in (
      is_kept t new n still.0,
      entry_at-row t new n still.0 ∙ ap (entry_in t) still.1
          ∙ entry_in-keeps s t (row_at rows n) keeps (row_within s rows n all within)
          ∙ sym (entry_at-row s rows n within),
    )

pub put_kept : (t : Shared) (rows : Rows) (number : EntryNumber) (row : Row) (new : Rows) →
    Has rows number row new → IsKept (kept_of t new) number × (entry_at (kept_of t new) number ≡ entry_in t row)
put_kept t rows number row new puts =
    let here = put_in rows number row new puts in
    (is_kept t new number here.0, entry_at-row t new number here.0 ∙ ap (entry_in t) here.1)

pub keeps_further : (a b c : Kept) → Keeps a b → Keeps b c → Keeps a c
keeps_further a b c first later n kept = ((later n (first n kept).0).0, (later n (first n kept).0).1 ∙ (first n kept).1)

pub all_kept : (a b : Kept) (ns : List EntryNumber) → Keeps a b → AreKept a ns → AreKept b ns
all_kept a b ns keeps all = all_weaker (IsKept a) (IsKept b) (λ n kept. (keeps n kept).0) ns all

pub entries_kept : (a b : Kept) (ns : List EntryNumber) → Keeps a b → AreKept a ns → entries_at b ns ≡ entries_at a ns
entries_kept a b ns keeps all = map_same (entry_at b) (entry_at a) (IsKept a) (λ n kept. (keeps n kept).1) ns all

pub paths_once : (s : Shared) (rows : Rows) → HasOwnPaths rows → HasEachPathOnce (kept_of s rows)
paths_once s rows own m n lt within same =
    let count = length-map rows.records (entry_in s) in
    let first = entry_at-row s rows (First m) (omega (arith, lt, within, count)) in
    let later = entry_at-row s rows (First n) (omega (arith, within, count)) in
    own m n lt (omega (arith, within, count))
    (sym (ap (λ (e : Entry). e.file.path) first) ∙ same ∙ ap (λ (e : Entry). e.file.path) later)

pub paths_known : (s : Shared) (rows : Rows) → KnownRows rows → HasKnownPaths (kept_of s rows)
paths_known s rows known n within =
    let here : n < length rows.clashes = omega (arith, within, length-map rows.clashes (entry_in s)) in
    let record1 = known n here in (
      record1.0,
      omega (arith, record1.1, length-map rows.records (entry_in s)),
      ap (λ (e : Entry). e.file.path) (entry_at-row s rows (First record1.0) record1.1) ∙ record1.2
          ∙ sym (ap (λ (e : Entry). e.file.path) (entry_at-row s rows (Further n) here)),
    )

-- a row is put, or memory is refused
pub put_or_refused : {E : Type 0} (s t : Shared) (rows new : Rows) (row : Row) (r : Result EntryNumber E) →
    KeepsShared s t → HasAllOf s rows → IsWithin t row.1 → IfOk r (λ number. Has rows number row new) →
    OnErr r (new ≡ rows) → HasAllOf t new × Keeps (kept_of s rows) (kept_of t new)
put_or_refused s t rows new row (Ok number) keeps all within puts same = (
  has_all-put t rows number row new puts (has_all-keeps s t rows keeps all) within,
  keeps_put s t rows number row new keeps all puts,
)
put_or_refused s t rows new row (Err e) keeps all within puts same = (
  subst (HasAllOf t) (sym same) (has_all-keeps s t rows keeps all),
  subst (λ (rows' : Rows). Keeps (kept_of s rows) (kept_of t rows')) (sym same) (keeps_grown s t rows keeps all),
)

-- these entries were added under these numbers, and no other was forgotten
pub record AreAdded (old new : Kept) (numbers : List EntryNumber) (entries : List Entry) : Type 0 where
  pub keeps : Keeps old new
  pub kept : AreKept new numbers
  pub same : entries_at new numbers ≡ entries

pub none_added : (kept : Kept) → AreAdded kept kept [] []
none_added kept = record { keeps = keeps_same kept kept refl; kept = tt; same = refl }

pub one_added : (old mid new : Kept) (ns : List EntryNumber) (es : List Entry) (n : EntryNumber) (e : Entry) →
    AreAdded old mid ns es → Keeps mid new → IsKept new n → entry_at new n ≡ e →
    AreAdded old new (ns ++ n ∷ []) (es ++ e ∷ [])
one_added old mid new ns es n e added keeps kept same = record {
  keeps = keeps_further old mid new added.keeps keeps;
  kept = all_push (IsKept new) ns n (all_kept mid new ns keeps added.kept) kept;
  same =
      let before = entries_kept mid new ns keeps added.kept ∙ added.same in
      map-append (entry_at new) ns (n ∷ []) ∙ (λ i. before i ++ same i ∷ []);
}

one_more : {X : Type 0} (xs : List X) (k : ℕ) (d : X) → k < length xs →
    take (k + 1) xs ≡ take k xs ++ slice_index_or xs k d ∷ []
one_more xs k d lt = rw add-one (take-suc xs k d lt)

pub one_read : (old mid new : Kept) (views : List Entry) (k : ℕ) (ns pushed : List EntryNumber) (n : EntryNumber)
    (e : Entry) → AreAdded old mid ns (take k views) → Keeps mid new → IsKept new n → entry_at new n ≡ e →
    k < length views → e ≡ slice_index_or views k e → pushed ≡ ns ++ n ∷ [] →
    AreAdded old new pushed (take (k + 1) views)
one_read old mid new views k ns pushed n e added keeps kept same lt at items =
    let all = one_added old mid new ns (take k views) n e added keeps kept same in
    let more : take k views ++ e ∷ [] ≡ take (k + 1) views =
    (λ i. take k views ++ at i ∷ []) ∙ sym (one_more views k e lt) in
    subst (λ (p : List EntryNumber × List Entry). AreAdded old new p.0 p.1) (λ i. (sym items i, more i)) all

pub one_kept : (old mid new others : Kept) (numbers : List EntryNumber) (k : ℕ) (d : EntryNumber)
    (ns pushed : List EntryNumber) (n : EntryNumber) → AreAdded old mid ns (entries_at others (take k numbers)) →
    Keeps mid new → IsKept new n → entry_at new n ≡ entry_at others (slice_index_or numbers k d) →
    k < length numbers → pushed ≡ ns ++ n ∷ [] → AreAdded old new pushed (entries_at others (take (k + 1) numbers))
one_kept old mid new others numbers k d ns pushed n added keeps kept same lt items =
    let number = slice_index_or numbers k d in let before = take k numbers in
    let all = one_added old mid new ns (entries_at others before) n (entry_at others number) added keeps kept same in
    let more : entries_at others before ++ entry_at others number ∷ [] ≡ entries_at others (take (k + 1) numbers) =
    sym (ap (entries_at others) (one_more numbers k d lt) ∙ map-append (entry_at others) before (number ∷ [])) in
    subst (λ (p : List EntryNumber × List Entry). AreAdded old new p.0 p.1) (λ i. (sym items i, more i)) all
