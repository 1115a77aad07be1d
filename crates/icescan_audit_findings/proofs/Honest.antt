-- Where nothing is at fault, there are values that a file may have.
use Rattle.std.proofs.Common.{◌≡◌, ◌+◌, ◌-◌, ◌≤◌, ℕ, zero, suc, ℤ, pos, negsuc, Bool, true, false, not}
use Rattle.std.proofs.Common.{◌||◌, cond, List, [], ◌∷◌, length, refl, sym, ap, ◌∙◌, arith}
use Rattle.std.proofs.Common.{Option, Some, None, Decides}
use Rattle.std.specs.List.{AllByRecursion}
use Rattle.std.specs.Option.{option_map, option_and_then}
use Rattle.std.specs.Ordering.{int_eq, is_gt, is_le, is_some_and}
use Rattle.std.specs.Str.{is_utf8}
use Rattle.std.specs.declared.cmp.Ordering.{Ordering}
use Rattle.std.specs.declared.cmp.Ordering.TheVariants.{Less, Equal, Greater}
use Rattle.std.proofs.lemmas.Bool.{ltb-false}
use Rattle.std.specs.Prelude.{int_lt}
use Rattle.std.proofs.lemmas.Bool.Decides.{Decides-int_eq}
use Rattle.ice_filter.specs.Rows.{is_null}
use Rattle.ice_value.specs.Bounds.{cell_in, flag_in, int_in, long_in, sized_in, widened_in}
use Rattle.ice_value.specs.Cells.{AreOfOneKind, cell_cmp, order}
use Rattle.ice_value.specs.Columns.{bound_of, count_of}
use Rattle.ice_value.specs.declared.cell.Cell.{Cell}
use Rattle.ice_value.specs.declared.cell.Cell.TheVariants.{Null, Bool as Flag, Whole, Text, Bytes}
use Rattle.ice_value.specs.declared.column_type.ColumnType.{ColumnType}
use Rattle.ice_value.specs.declared.column_type.ColumnType.TheVariants.{Boolean, Int, Long, Float, Double, Decimal, Date}
use Rattle.ice_value.specs.declared.column_type.ColumnType.TheVariants.{Time, Timestamp, Timestamptz, String, Uuid}
use Rattle.ice_value.specs.declared.column_type.ColumnType.TheVariants.{Fixed, Binary}
use Rattle.ice_value.specs.declared.file_bounds.FileBounds.{FileBounds}
use Rattle.ice_value.proofs.Orders.{of_one_kind, up_to_itself}
use Rattle.ice_transform.specs.Definitions.{IsValueOf}
use Rattle.ice_transform.specs.declared.transform.Transform.TheVariants.{Identity}
use Rattle.ice_project.specs.Files.{lower_limit, null_count, upper_limit}
use Rattle.ice_project.specs.Limits.{LiesIn, is_uuid, limit}
use Rattle.icescan_audit_findings.specs.ColumnFlaws.{is_less_than_none, is_more, is_past}
use Rattle.icescan_audit_findings.specs.FieldFlaws.{differ, is_other_than_none}
use Rattle.icescan_audit_findings.specs.Honesty.{MayHave}

-- ---- values of nulls and of one cell

-- so many nulls, and then this cell so many times
abbrev made : ℕ → ℕ → Cell → List Cell
made zero zero v = []
made zero (suc m) v = v ∷ made zero m v
made (suc k) m v = Null ∷ made k m v

one_more : (a b c : ℕ) → a ≡ b → suc b ≡ c → suc a ≡ c
one_more a b c h k = ap (λ n. suc n) h ∙ k

many : (k m : ℕ) (v : Cell) → length (made k m v) ≡ k + m
many zero zero v = refl
many zero (suc m) v = one_more (length (made zero m v)) (zero + m) (zero + suc m) (many zero m v) (omega arith)
many (suc k) m v = one_more (length (made k m v)) (k + m) (suc k + m) (many k m v) (omega arith)

counted_in : (b : Bool) (n k : ℕ) → b ≡ false → n ≡ k → cond b 1 0 + n ≡ k
counted_in true n k e h = absurd cc
counted_in false n k e h = omega (arith, h)

one_null : (n k : ℕ) → n ≡ k → 1 + n ≡ suc k
one_null n k h = omega (arith, h)

many_nulls : (k m : ℕ) (v : Cell) → is_null v ≡ false → null_count (made k m v) ≡ k
many_nulls zero zero v h = refl
many_nulls zero (suc m) v h = counted_in (is_null v) (null_count (made zero m v)) zero h (many_nulls zero m v h)
many_nulls (suc k) m v h = one_null (null_count (made k m v)) k (many_nulls k m v h)

no_copies : (k : ℕ) (v : Cell) → null_count (made k 0 v) ≡ k
no_copies zero v = refl
no_copies (suc k) v = one_null (null_count (made k 0 v)) k (no_copies k v)

none_made : (k m : ℕ) (v : Cell) → made k m v ≡ [] → k + m ≡ 0
none_made zero zero v h = refl
none_made zero (suc m) v h = absurd cc
none_made (suc k) m v h = absurd cc

bounded : (low high : Option Cell) (k m : ℕ) (v : Cell) → LiesIn low high v
    → AllByRecursion (λ (c : Cell). is_null c ≡ false → LiesIn low high c) (made k m v)
bounded low high zero zero v h = tt
bounded low high zero (suc m) v h = (λ _. h, bounded low high zero m v h)
bounded low high (suc k) m v h = (λ e. absurd cc, bounded low high k m v h)

bounded_nulls : (low high : Option Cell) (k : ℕ) (v : Cell)
    → AllByRecursion (λ (c : Cell). is_null c ≡ false → LiesIn low high c) (made k 0 v)
bounded_nulls low high zero v = tt
bounded_nulls low high (suc k) v = (λ e. absurd cc, bounded_nulls low high k v)

-- ---- a value between bounds

whole_is : (o : Option ℤ) (u : Cell) → option_map Whole o ≡ Some u → (z : ℤ) × (u ≡ Whole z)
whole_is None u h = absurd cc
whole_is (Some z) u h = (z, let e : Whole z ≡ u = cc in sym e)

flag_is : (o : Option Bool) (u : Cell) → option_map Flag o ≡ Some u → (b : Bool) × (u ≡ Flag b)
flag_is None u h = absurd cc
flag_is (Some b) u h = (b, let e : Flag b ≡ u = cc in sym e)

bytes_are : (o : Option (List ℕ)) (u : Cell) → option_map Bytes o ≡ Some u → (bs : List ℕ) × (u ≡ Bytes bs)
bytes_are None u h = absurd cc
bytes_are (Some bs) u h = (bs, let e : Bytes bs ≡ u = cc in sym e)

text_is : (b : Bool) (bs : List ℕ) (u : Cell) → cond b (Some (Text bs)) None ≡ Some u → u ≡ Text bs
text_is true bs u h = let e : Text bs ≡ u = cc in sym e
text_is false bs u h = absurd cc

wholes : (a b : Option ℤ) (u w : Cell) → option_map Whole a ≡ Some u → option_map Whole b ≡ Some w → AreOfOneKind u w
wholes a b u w h k = let x = whole_is a u h in let y = whole_is b w k in rw (x.1, y.1) tt

strings : (a b : Option (List ℕ)) (u w : Cell) → option_map Bytes a ≡ Some u → option_map Bytes b ≡ Some w
    → AreOfOneKind u w
strings a b u w h k = let x = bytes_are a u h in let y = bytes_are b w k in rw (x.1, y.1) tt

-- two values of a type are of one kind
one_kind : (t : ColumnType) (x y : List ℕ) (u w : Cell) → cell_in t x ≡ Some u → cell_in t y ≡ Some w
    → AreOfOneKind u w
one_kind Boolean x y u w h k =
    let a = flag_is (flag_in x) u h in let b = flag_is (flag_in y) w k in rw (a.1, b.1) tt
one_kind Int x y u w h k = wholes (int_in x) (int_in y) u w h k
one_kind Date x y u w h k = wholes (int_in x) (int_in y) u w h k
one_kind Long x y u w h k = wholes (widened_in x) (widened_in y) u w h k
one_kind Time x y u w h k = wholes (long_in x) (long_in y) u w h k
one_kind Timestamp x y u w h k = wholes (long_in x) (long_in y) u w h k
one_kind Timestamptz x y u w h k = wholes (long_in x) (long_in y) u w h k
one_kind String x y u w h k = rw (text_is (is_utf8 x) x u h, text_is (is_utf8 y) y w k) tt
one_kind Uuid x y u w h k = strings (sized_in 16 x) (sized_in 16 y) u w h k
one_kind (Fixed size) x y u w h k = strings (sized_in size x) (sized_in size y) u w h k
one_kind Binary x y u w h k =
    let a : Bytes x ≡ u = cc in let b : Bytes y ≡ w = cc in rw (← a, ← b) tt
one_kind Float x y u w h k = absurd cc
one_kind Double x y u w h k = absurd cc
one_kind (Decimal precision scale) x y u w h k = absurd cc

read_is : (b : Bool) (t : ColumnType) (bytes : Option (List ℕ)) (u : Cell)
    → cond b None (option_and_then (cell_in t) bytes) ≡ Some u → (x : List ℕ) × (cell_in t x ≡ Some u)
read_is true t bytes u h = absurd cc
read_is false t None u h = absurd cc
read_is false t (Some x) u h = (x, h)

limits_alike : (t : ColumnType) (a b : Option (List ℕ)) (u w : Cell) → limit t a ≡ Some u → limit t b ≡ Some w
    → AreOfOneKind u w
limits_alike t a b u w h k =
    let x = read_is (is_uuid t) t a u h in let y = read_is (is_uuid t) t b w k in
    one_kind t x.0 y.0 u w x.1 y.1

present : (u : Cell) → AreOfOneKind u u → is_null u ≡ false
present Null h = absurd h
present (Flag b) h = refl
present (Whole z) h = refl
present (Text s) h = refl
present (Bytes bs) h = refl

up_to : (o : Option Ordering) (c : Ordering) → o ≡ Some c → is_some_and is_gt o ≡ false → is_some_and is_le o ≡ true
up_to o Less h k = rw h refl
up_to o Equal h k = rw h refl
up_to o Greater h k = let gt : true ≡ false = sym (ap (is_some_and is_gt) h) ∙ k in absurd cc

-- a value between two bounds that do not cross
between : (low high : Option Cell) → ((u w : Cell) → low ≡ Some u → low ≡ Some w → AreOfOneKind u w)
    → ((u w : Cell) → high ≡ Some u → high ≡ Some w → AreOfOneKind u w)
    → ((u w : Cell) → low ≡ Some u → high ≡ Some w → AreOfOneKind u w) → is_past low high ≡ false
    → (v : Cell) × (is_null v ≡ false) × LiesIn low high v
between None None a b c h = (Flag true, refl, record { above = λ x e. absurd cc; below = λ x e. absurd cc })
between None (Some w) a b c h = (
  w,
  present w (b w w refl refl),
  record {
    above = λ x e. absurd cc;
    below = λ x e. let same : w ≡ x = cc in rw (← same) (up_to_itself w (b w w refl refl));
  },
)
between (Some u) None a b c h = (
  u,
  present u (a u u refl refl),
  record {
    above = λ x e. let same : u ≡ x = cc in rw (← same) (up_to_itself u (a u u refl refl));
    below = λ x e. absurd cc;
  },
)
between (Some u) (Some w) a b c h = (
  u,
  present u (a u u refl refl),
  record {
    above = λ x e. let same : u ≡ x = cc in rw (← same) (up_to_itself u (a u u refl refl));
    below = λ x e. let same : w ≡ x = cc in
        rw (← same) (up_to (order u w) (cell_cmp u w) (of_one_kind u w (c u w refl refl)) h);
  },
)

-- ---- numbers of values

-- so many nulls and so many others are what the counts say, and there are none only where these say so
record Fits (values nulls : Option ℤ) (k m : ℕ) : Type 0 where
  all_are : (n : ℤ) → values ≡ Some n → n ≡ pos (k + m)
  nulls_are : (n : ℤ) → nulls ≡ Some n → n ≡ pos k
  some : k + m ≡ 0 → values ≡ Some (pos 0)

number_is : (a b : ℕ) (n : ℤ) → Some (pos a) ≡ Some n → a ≡ b → n ≡ pos b
number_is a b n e h = let same : pos a ≡ n = cc in sym same ∙ ap pos h

no_number : (n : ℕ) → n ≡ 0 → ◌≡◌ {A = Option ℤ} (Some (pos n)) (Some (pos 0))
no_number n h = ap (λ (i : ℕ). Some (pos i)) h

zero_number : (z : ℤ) → not (int_eq z (pos 0)) ≡ false → z ≡ pos 0
zero_number z h = go (int_eq z (pos 0)) (Decides-int_eq z (pos 0)) h where
  go : (b : Bool) → Decides b (z ≡ pos 0) → not b ≡ false → z ≡ pos 0
  go true d e = d.0 refl
  go false d e = absurd cc

same_number : (y z : ℤ) → not (int_eq y z) ≡ false → y ≡ z
same_number y z h = go (int_eq y z) (Decides-int_eq y z) h where
  go : (b : Bool) → Decides b (y ≡ z) → not b ≡ false → y ≡ z
  go true d e = d.0 refl
  go false d e = absurd cc

other_number : (n : ℕ) → int_eq (pos n) (pos 0) ≡ false → n ≡ 0 → ⊥
other_number n h e = let is : int_eq (pos n) (pos 0) ≡ true = rw e refl in let no : true ≡ false = sym is ∙ h in absurd cc

no_second : (a b : Bool) → (a || b) ≡ false → b ≡ false
no_second true b h = absurd cc
no_second false b h = h

few : (n k : ℕ) → int_lt (pos n) (pos k) ≡ false → k ≤ n
few n k f = ltb-false n k f

-- nulls and others
numbers : (values nulls : Option ℤ) → (is_less_than_none values || is_less_than_none nulls) ≡ false
    → is_more nulls values ≡ false → (k : ℕ) × (m : ℕ) × Fits values nulls k m
numbers None None h e = (
  0,
  1,
  record {
    all_are = λ n q. absurd cc;
    nulls_are = λ n q. absurd cc;
    some = λ q. absurd (omega (arith, q));
  },
)
numbers None (Some (pos k)) h e = (
  k,
  1,
  record {
    all_are = λ n q. absurd cc;
    nulls_are = λ n q. number_is k k n q refl;
    some = λ q. absurd (omega (arith, q));
  },
)
numbers None (Some (negsuc k)) h e = absurd cc
numbers (Some (pos n)) None h e = (
  0,
  n,
  record {
    all_are = λ z q. number_is n (0 + n) z q (omega arith);
    nulls_are = λ z q. absurd cc;
    some = λ q. no_number n (omega (arith, q));
  },
)
numbers (Some (negsuc n)) None h e = absurd cc
numbers (Some (pos n)) (Some (pos k)) h e =
    let le : k ≤ n = few n k e in (
      k,
      n - k,
      record {
        all_are = λ z q. number_is n (k + (n - k)) z q (omega (arith, le));
        nulls_are = λ z q. number_is k k z q refl;
        some = λ q. no_number n (omega (arith, le, q));
      },
    )
numbers (Some (pos n)) (Some (negsuc k)) h e =
    let no : true ≡ false = no_second (int_lt (pos n) (pos 0)) true h in absurd cc
numbers (Some (negsuc n)) (Some z) h e = absurd cc

-- others alone
full : (values nulls : Option ℤ) → (is_less_than_none values || is_less_than_none nulls) ≡ false
    → is_other_than_none nulls ≡ false → (m : ℕ) × Fits values nulls 0 m
full None None h e = (
  1,
  record {
    all_are = λ n q. absurd cc;
    nulls_are = λ n q. absurd cc;
    some = λ q. absurd (omega (arith, q));
  },
)
full None (Some z) h e = (
  1,
  record {
    all_are = λ n q. absurd cc;
    nulls_are = λ n q. let same : z ≡ n = cc in sym same ∙ zero_number z e;
    some = λ q. absurd (omega (arith, q));
  },
)
full (Some (negsuc n)) nulls h e = absurd cc
full (Some (pos n)) None h e = (
  n,
  record {
    all_are = λ z q. number_is n (0 + n) z q (omega arith);
    nulls_are = λ z q. absurd cc;
    some = λ q. no_number n (omega (arith, q));
  },
)
full (Some (pos n)) (Some z) h e = (
  n,
  record {
    all_are = λ y q. number_is n (0 + n) y q (omega arith);
    nulls_are = λ y q. let same : z ≡ y = cc in sym same ∙ zero_number z e;
    some = λ q. no_number n (omega (arith, q));
  },
)

-- nulls alone
empty : (values nulls : Option ℤ) → (is_less_than_none values || is_less_than_none nulls) ≡ false
    → differ values nulls ≡ false → (k : ℕ) × Fits values nulls k 0
empty None None h e = (
  1,
  record {
    all_are = λ n q. absurd cc;
    nulls_are = λ n q. absurd cc;
    some = λ q. absurd (omega (arith, q));
  },
)
empty None (Some (pos k)) h e = (
  k,
  record {
    all_are = λ n q. absurd cc;
    nulls_are = λ n q. number_is k k n q refl;
    some = λ q. absurd (other_number k e (omega (arith, q)));
  },
)
empty None (Some (negsuc k)) h e = absurd cc
empty (Some (negsuc n)) nulls h e = absurd cc
empty (Some (pos n)) None h e = (
  n,
  record {
    all_are = λ z q. number_is n (n + 0) z q (omega arith);
    nulls_are = λ z q. absurd cc;
    some = λ q. no_number n (omega (arith, q));
  },
)
empty (Some (pos n)) (Some z) h e = (
  n,
  record {
    all_are = λ y q. number_is n (n + 0) y q (omega arith);
    nulls_are = λ y q. let same : z ≡ y = cc in sym same ∙ sym (same_number (pos n) z e);
    some = λ q. no_number n (omega (arith, q));
  },
)

-- ---- a column

module _ (file : FileBounds) (t : ColumnType) (column : ℤ) where
  abbrev pub values : Option ℤ
  values = count_of column file.value_counts

  abbrev pub nulls : Option ℤ
  nulls = count_of column file.null_counts

  abbrev pub low : Option Cell
  low = lower_limit file t column

  abbrev pub high : Option Cell
  high = upper_limit file t column

  has : (k m : ℕ) (v : Cell) → Fits values nulls k m → null_count (made k m v) ≡ k
      → AllByRecursion (λ (c : Cell). is_null c ≡ false → LiesIn low high c) (made k m v)
      → MayHave file t column (made k m v)
  has k m v fits null_are within = record {
    column_is = record {
      counted = λ n e. fits.all_are n e ∙ ap pos (sym (many k m v));
      nulls_counted = λ n e. fits.nulls_are n e ∙ ap pos (sym null_are);
      bounded = within;
    };
    some = λ e. fits.some (none_made k m v e);
  }

  pub of_column : (is_less_than_none values || is_less_than_none nulls) ≡ false → is_more nulls values ≡ false
      → is_past low high ≡ false → (cells : List Cell) × MayHave file t column cells
  of_column h e past =
      let lows = bound_of column file.lower_bounds in
      let highs = bound_of column file.upper_bounds in
      let v = between low high (λ u w a b. limits_alike t lows lows u w a b)
      (λ u w a b. limits_alike t highs highs u w a b) (λ u w a b. limits_alike t lows highs u w a b) past in
      let n = numbers values nulls h e in
      (made n.0 n.1 v.0, has n.0 n.1 v.0 n.2 (many_nulls n.0 n.1 v.0 v.1) (bounded low high n.0 n.1 v.0 v.2))

  all_same : (m : ℕ) (p : Cell) → is_null p ≡ false → AllByRecursion (λ x. IsValueOf Identity t x p) (made 0 m p)
  all_same zero p h = tt
  all_same (suc m) p h = (itself p h, all_same m p h)
    where
      itself : (q : Cell) → is_null q ≡ false → IsValueOf Identity t q q
      itself Null e = absurd cc
      itself (Flag b) e = (refl, refl)
      itself (Whole z) e = (refl, refl)
      itself (Text s) e = (refl, refl)
      itself (Bytes bs) e = (refl, refl)

  all_null : (k : ℕ) (p : Cell) → is_null p ≡ true → AllByRecursion (λ x. IsValueOf Identity t x p) (made k 0 p)
  all_null zero p h = tt
  all_null (suc k) p h = (nothing p h, all_null k p h)
    where
      nothing : (q : Cell) → is_null q ≡ true → q ≡ Null
      nothing Null e = refl
      nothing (Flag b) e = absurd cc
      nothing (Whole z) e = absurd cc
      nothing (Text s) e = absurd cc
      nothing (Bytes bs) e = absurd cc

  abbrev pub OfIdentity : Cell → Type 0
  OfIdentity p = (cells : List Cell) × MayHave file t column cells
      × AllByRecursion (λ x. IsValueOf Identity t x p) cells

  pub of_present : (p : Cell) → is_null p ≡ false → (is_less_than_none values || is_less_than_none nulls) ≡ false
      → is_other_than_none nulls ≡ false → LiesIn low high p → OfIdentity p
  of_present p present_is h e lies =
      let m = full values nulls h e in (
        made 0 m.0 p,
        has 0 m.0 p m.1 (many_nulls 0 m.0 p present_is) (bounded low high 0 m.0 p lies),
        all_same m.0 p present_is,
      )

  pub of_null : (p : Cell) → is_null p ≡ true → (is_less_than_none values || is_less_than_none nulls) ≡ false
      → differ values nulls ≡ false → OfIdentity p
  of_null p null_is h e =
      let k = empty values nulls h e in
      (made k.0 0 p, has k.0 0 p k.1 (no_copies k.0 p) (bounded_nulls low high k.0 p), all_null k.0 p null_is)
