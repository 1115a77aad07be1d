-- Taking the rows that were not taken, in turn.
use Rattle.std.proofs.Common.{◌≡◌, ◌+◌, ◌<◌, ◌≤◌, ◌⊎◌, ⊎_elim, inl, inr, ℕ, zero, suc, Bool, true, false, List, [], ◌∷◌}
use Rattle.std.proofs.Common.{refl, sym, ap, ◌∙◌, length, get_or, replicate, drop, arith, Some, None, is_some}
use Rattle.std.proofs.lemmas.Bool.{cases_lt}
use Rattle.ice_manifest_reading.specs.declared.row.Row.{Row}
use Rattle.ice_state.specs.Contents.{Content, World, add, content, every_row, is_row_taken, slot_of, slots_of, took_at}
use Rattle.ice_state.specs.Contents.{HasBytesAt, HasEach}
use Rattle.ice_state.specs.Scans.{Scanned}
use Rattle.ice_desk.specs.declared.fault.WantedFault.{WantedFault}
use Rattle.ice_desk.specs.declared.fault.WantedFault.TheVariants.{Absent, Device, Memory}
use Rattle.ice_desk.specs.Wanted.{IsContentOf, MayStop, untaken}
use Rattle.ice_desk.specs.Worlds.{EndsAt}

-- the set with the first k rows too
abbrev pub filled : List Bool → ℕ → List Bool
filled [] k = []
filled (t ∷ ts) zero = t ∷ ts
filled (t ∷ ts) (suc k) = true ∷ filled ts k

pub filled_none : (ts : List Bool) → filled ts 0 ≡ ts
filled_none [] = refl
filled_none (t ∷ ts) = refl

pub filled_length : (ts : List Bool) (k : ℕ) → length (filled ts k) ≡ length ts
filled_length [] k = refl
filled_length (t ∷ ts) zero = refl
filled_length (t ∷ ts) (suc k) = ap suc (filled_length ts k)

pub filled_all : (ts : List Bool) (n : ℕ) → length ts ≡ n → filled ts n ≡ replicate n true
filled_all [] zero h = refl
filled_all [] (suc n) h = absurd cc
filled_all (t ∷ ts) zero h = absurd cc
filled_all (t ∷ ts) (suc n) h = let e : length ts ≡ n = cc in ap (λ us. true ∷ us) (filled_all ts n e)

pub filled_more : (ts : List Bool) (k : ℕ) → k < length ts → add (filled ts k) k ≡ filled ts (suc k)
filled_more [] k l = absurd (omega arith)
filled_more (t ∷ []) zero l = refl
filled_more (t ∷ u ∷ ts) zero l = refl
filled_more (t ∷ ts) (suc k) l = ap (λ us. true ∷ us) (filled_more ts k (omega arith))

-- a row that was taken is in the set
pub added_again : (world : World) (scan : Scanned) (ts : List Bool) (rows : List Row) (i : ℕ)
    → is_row_taken (slots_of world scan ts rows) i ≡ true → slots_of world scan (add ts i) rows ≡ slots_of world scan ts
    rows
added_again world scan [] rows i h = absurd cc
added_again world scan (t ∷ ts) [] i h = absurd cc
added_again world scan (true ∷ ts) (row ∷ rows) zero h = refl
added_again world scan (false ∷ ts) (row ∷ rows) zero h = absurd cc
added_again world scan (t ∷ ts) (row ∷ rows) (suc i) h = ap (λ ss. slot_of world scan t row ∷ ss)
    (added_again world scan ts rows i h)

-- what stands behind a row is left as it is
pub took_behind : (scan : Scanned) (c : Content) (rows : List Row) (i : ℕ) (bytes : List ℕ)
    → drop (suc i) (took_at scan c rows i bytes) ≡ drop (suc i) c
took_behind scan [] rows i bytes = refl
took_behind scan (s ∷ ss) [] i bytes = refl
took_behind scan (s ∷ ss) (row ∷ rows) zero bytes = refl
took_behind scan (s ∷ ss) (row ∷ rows) (suc i) bytes = took_behind scan ss rows i bytes

none_left : (i : ℕ) → drop i (let c : Content = [] in c) ≡ []
none_left zero = refl
none_left (suc i) = refl

untaken_none : (c : Content) → untaken c [] ≡ []
untaken_none [] = refl
untaken_none (s ∷ ss) = refl

pub behind_more : (a b : Content) (i : ℕ) → drop i a ≡ drop i b → drop (suc i) a ≡ drop (suc i) b
behind_more [] [] i h = refl
behind_more [] (y ∷ ys) zero h = absurd cc
behind_more [] (y ∷ ys) (suc i) h = behind_more [] ys i (none_left i ∙ h)
behind_more (x ∷ xs) [] zero h = absurd cc
behind_more (x ∷ xs) [] (suc i) h = behind_more xs [] i (h ∙ sym (none_left i))
behind_more (x ∷ xs) (y ∷ ys) zero h = cc
behind_more (x ∷ xs) (y ∷ ys) (suc i) h = behind_more xs ys i h

pub same_taken : (a b : Content) (i : ℕ) → drop i a ≡ drop i b → is_row_taken a i ≡ is_row_taken b i
same_taken [] [] i h = refl
same_taken [] (y ∷ ys) zero h = absurd cc
same_taken [] (y ∷ ys) (suc i) h = same_taken [] ys i (none_left i ∙ h)
same_taken (x ∷ xs) [] zero h = absurd cc
same_taken (x ∷ xs) [] (suc i) h = same_taken xs [] i (h ∙ sym (none_left i))
same_taken (x ∷ xs) (y ∷ ys) zero h = let e : x ≡ y = cc in ap is_some e
same_taken (x ∷ xs) (y ∷ ys) (suc i) h = same_taken xs ys i h

-- a row that was taken is not read; another is read next
pub skips : (c : Content) (rows : List Row) (i : ℕ) → is_row_taken c i ≡ true
    → untaken (drop i c) (drop i rows) ≡ untaken (drop (suc i) c) (drop (suc i) rows)
skips [] rows i h = absurd cc
skips (Some r ∷ ss) [] zero h = sym (untaken_none ss)
skips (Some r ∷ ss) (row ∷ rows) zero h = refl
skips (None ∷ ss) rows zero h = absurd cc
skips (s ∷ ss) [] (suc i) h = untaken_none (drop i ss) ∙ sym (untaken_none (drop (suc i) ss))
skips (s ∷ ss) (row ∷ rows) (suc i) h = skips ss rows i h

pub reads_next : (c : Content) (rows : List Row) (i : ℕ) (row : Row) → length c ≡ length rows → i < length rows
    → row ≡ get_or rows i row → is_row_taken c i ≡ false
    → untaken (drop i c) (drop i rows) ≡ row ∷ untaken (drop (suc i) c) (drop (suc i) rows)
reads_next c [] i row e l h t = absurd (omega arith)
reads_next [] (r ∷ rows) i row e l h t = absurd cc
reads_next (Some x ∷ ss) (r ∷ rows) zero row e l h t = absurd cc
reads_next (None ∷ ss) (r ∷ rows) zero row e l h t = ap (λ q. q ∷ untaken ss rows) (sym h)
reads_next (s ∷ ss) (r ∷ rows) (suc i) row e l h t = let k : length ss ≡ length rows = cc in reads_next ss rows i row k
    (omega arith) h t

pub reads_none : (c : Content) (rows : List Row) (i : ℕ) → length rows ≤ i → untaken (drop i c) (drop i rows) ≡ []
reads_none [] [] zero l = refl
reads_none (s ∷ ss) [] zero l = refl
reads_none [] (r ∷ rows) zero l = absurd (omega arith)
reads_none (s ∷ ss) (r ∷ rows) zero l = absurd (omega arith)
reads_none [] [] (suc i) l = refl
reads_none (s ∷ ss) [] (suc i) l = untaken_none (drop i ss)
reads_none [] (r ∷ rows) (suc i) l = refl
reads_none (s ∷ ss) (r ∷ rows) (suc i) l = reads_none ss rows i (omega arith)

-- where no row is left, none is left from a row on
pub none_from : (c : Content) (rows : List Row) (i : ℕ) → untaken c rows ≡ [] → untaken (drop i c) (drop i rows) ≡ []
none_from c rows zero h = h
none_from [] [] (suc i) h = refl
none_from [] (r ∷ rows) (suc i) h = refl
none_from (s ∷ ss) [] (suc i) h = untaken_none (drop i ss)
none_from (Some x ∷ ss) (r ∷ rows) (suc i) h = none_from ss rows i h
none_from (None ∷ ss) (r ∷ rows) (suc i) h = absurd cc

-- where none is left, no row is read
pub no_read : (c : Content) (rows : List Row) (i : ℕ) (row : Row) → length c ≡ length rows → i < length rows
    → row ≡ get_or rows i row → is_row_taken c i ≡ false → untaken c rows ≡ [] → ⊥
no_read c rows i row e l h t none =
    let next : row ∷ untaken (drop (suc i) c) (drop (suc i) rows) ≡ [] =
    sym (reads_next c rows i row e l h t) ∙ none_from c rows i none in
    absurd cc

-- the bytes at the path of the row that stands at i
pub has_bytes : (world : World) (rows : List Row) (i : ℕ) (row : Row) (bytes : List ℕ) → i < length rows
    → row ≡ get_or rows i row → world row.path ≡ Some bytes → HasBytesAt world rows i bytes
has_bytes world [] i row bytes l h b = absurd (omega arith)
has_bytes world (r ∷ rs) zero row bytes l h b = ap (λ (q : Row). world q.path) (sym h) ∙ b
has_bytes world (r ∷ rs) (suc i) row bytes l h b = has_bytes world rs i row bytes (omega arith) h b

-- where a later read ends
pub ends_later : (world : World) (so : List ℕ → Type 0) (next bytes : List ℕ) (paths : List (List ℕ)) (path : List ℕ)
    → world next ≡ Some bytes → EndsAt world so paths path → EndsAt world so (next ∷ paths) path
ends_later world so next bytes paths path has h = inr (ap is_some has, h)

pub ends_first : (world : World) (so : List ℕ → Type 0) (next : List ℕ) (paths : List (List ℕ)) (path : List ℕ)
    → EndsAt world so (next ∷ []) path → EndsAt world so (next ∷ paths) path
ends_first world so next paths path (inl h) = inl h
ends_first world so next paths path (inr h) = absurd h.1

module _ (world : World) (may_fail : List ℕ → Type 0) where
  pub stops_later : (next bytes : List ℕ) (paths : List (List ℕ)) (e : WantedFault) → world next ≡ Some bytes
      → MayStop world may_fail paths e → MayStop world may_fail (next ∷ paths) e
  stops_later next bytes paths (Absent path) has h = inr (ap is_some has, h)
  stops_later next bytes paths (Device path) has h = inr (ap is_some has, h)
  stops_later next bytes paths Memory has h = tt

  pub stops_first : (next : List ℕ) (paths : List (List ℕ)) (e : WantedFault) → MayStop world may_fail (next ∷ []) e
      → MayStop world may_fail (next ∷ paths) e
  stops_first next paths (Absent path) h = ends_first world _ next paths path h
  stops_first next paths (Device path) h = ends_first world may_fail next paths path h
  stops_first next paths Memory h = tt

  pub stops_absent : (path : List ℕ) → world path ≡ None → MayStop world may_fail (path ∷ []) (Absent path)
  stops_absent path h = inl (refl, h)

  pub stops_device : (path : List ℕ) → may_fail path → MayStop world may_fail (path ∷ []) (Device path)
  stops_device path h = inl (refl, h)

pub has_next : (world : World) (row : Row) (rows : List Row) (bytes : List ℕ) → world row.path ≡ Some bytes
    → HasEach world rows → HasEach world (row ∷ rows)
has_next world row rows bytes has h = (ap is_some has, h)

-- the set that begins with the first rows
pub begins : (world : World) (scan : Scanned) (c : Content) (ts : List Bool) → IsContentOf world scan c ts
    → c ≡ content world scan (filled ts 0)
begins world scan c ts h = h.is ∙ ap (λ us. content world scan us) (sym (filled_none ts))

pub goes_on : (world : World) (scan : Scanned) (c : Content) (ts : List Bool) (k : ℕ) → k < length ts
    → c ≡ content world scan (add (filled ts k) k) → c ≡ content world scan (filled ts (suc k))
goes_on world scan c ts k l h = h ∙ ap (λ us. content world scan us) (filled_more ts k l)

pub again : (world : World) (scan : Scanned) (c : Content) (ts : List Bool) (k : ℕ) → is_row_taken c k ≡ true
    → c ≡ content world scan (filled ts k) → c ≡ content world scan (add (filled ts k) k)
again world scan c ts k t h = h ∙ sym (added_again world scan (filled ts k) scan.wanted k (ap (λ s. is_row_taken s k)
    (sym h) ∙ t))

pub ends : (world : World) (scan : Scanned) (c : Content) (ts : List Bool) → length ts ≡ length scan.wanted
    → c ≡ content world scan (filled ts (length scan.wanted)) → IsContentOf world scan c (every_row scan)
ends world scan c ts e h = record {
  flags = every_length (length scan.wanted);
  is = h ∙ ap (λ us. content world scan us)
      (filled_all ts (length scan.wanted) e);
}
  where
    every_length : (n : ℕ) → length (replicate n true) ≡ n
    every_length zero = refl
    every_length (suc n) = ap suc (every_length n)

-- a row that was taken, and one that is taken

pub took_length : (scan : Scanned) (c : Content) (rows : List Row) (i : ℕ) (bytes : List ℕ)
    → length (took_at scan c rows i bytes) ≡ length c
took_length scan [] rows i bytes = refl
took_length scan (s ∷ ss) [] i bytes = refl
took_length scan (s ∷ ss) (row ∷ rows) zero bytes = refl
took_length scan (s ∷ ss) (row ∷ rows) (suc i) bytes = ap suc (took_length scan ss rows i bytes)

pub taken_here : (scan : Scanned) (c : Content) (rows : List Row) (i : ℕ) (bytes : List ℕ) → length c ≡ length rows
    → i < length c → is_row_taken (took_at scan c rows i bytes) i ≡ true
taken_here scan [] rows i bytes e l = absurd (omega arith)
taken_here scan (s ∷ ss) [] i bytes e l = absurd cc
taken_here scan (Some r ∷ ss) (row ∷ rows) zero bytes e l = refl
taken_here scan (None ∷ ss) (row ∷ rows) zero bytes e l = refl
taken_here scan (s ∷ ss) (row ∷ rows) (suc i) bytes e l = let k : length ss ≡ length rows = cc in
    taken_here scan ss rows i bytes k (omega arith)

pub taken_before : (scan : Scanned) (c : Content) (rows : List Row) (i j : ℕ) (bytes : List ℕ) → is_row_taken c j ≡ true
    → is_row_taken (took_at scan c rows i bytes) j ≡ true
taken_before scan [] rows i j bytes h = h
taken_before scan (s ∷ ss) [] i j bytes h = h
taken_before scan (Some r ∷ ss) (row ∷ rows) zero zero bytes h = refl
taken_before scan (None ∷ ss) (row ∷ rows) zero zero bytes h = refl
taken_before scan (s ∷ ss) (row ∷ rows) zero (suc j) bytes h = h
taken_before scan (s ∷ ss) (row ∷ rows) (suc i) zero bytes h = h
taken_before scan (s ∷ ss) (row ∷ rows) (suc i) (suc j) bytes h = taken_before scan ss rows i j bytes h

pub below_or_at : (j i : ℕ) → j < i + 1 → (j < i) ⊎ (j ≡ i)
below_or_at j i l = ⊎_elim (λ below. inl below) (λ le. inr (omega (arith, l, le))) (cases_lt j i)

-- where each row was taken, none is left
pub none_untaken : (c : Content) (rows : List Row) → length c ≡ length rows
    → ((j : ℕ) → j < length rows → is_row_taken c j ≡ true) → untaken c rows ≡ []
none_untaken [] rows e h = refl
none_untaken (s ∷ ss) [] e h = refl
none_untaken (Some r ∷ ss) (row ∷ rows) e h = none_untaken ss rows (omega (arith, e))
    (λ j l. h (suc j) (omega (arith, l)))
none_untaken (None ∷ ss) (row ∷ rows) e h = let f : false ≡ true = h 0 (omega arith) in absurd cc
