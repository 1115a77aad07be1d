-- The texts of transforms are read as they are written.
use Rattle.std.proofs.Common.{◌≡◌, ℕ, ◌+◌, ◌-◌, ◌*◌, ◌/◌, ◌%◌, ◌^◌, ◌<◌, ◌≤◌, ◌==◌, Bool, true, false, ◌&&◌, ◌||◌, cond}
use Rattle.std.proofs.Common.{List, [], ◌∷◌, ◌++◌, length, drop, get_or, codes, Option, None, Some, refl, ap, arith}
use Rattle.std.proofs.Common.{sym, ◌∙◌, nat_eq, nat_lt, is_some, append_assoc, subst}
use Rattle.std.specs.Option.{option_and_then}
use Rattle.std.specs.List.{starts_with}
use Rattle.std.specs.Fmt.{decimal}
use Rattle.std.proofs.lemmas.Fmt.{decimal_step, decimal_digit, decimal_by_steps, decimal_nonempty, first_decimal}
use Rattle.std.proofs.Math.Bridge.{le_prop}
use Rattle.std.proofs.lemmas.Bool.Decides.{nat_tests, Decides-eqb}
use Rattle.ice_transform.specs.Parameters.{parameter_if}
use Rattle.ice_transform.specs.Names.{with_digit, number_after, parameter_before_bracket, parameter_in, is_plain_name}
use Rattle.ice_transform.specs.Names.{is_name, IsNamed, name_of, IsOfText}
use Rattle.ice_transform.specs.declared.parameter.Parameter.{Parameter}
use Rattle.ice_transform.specs.declared.transform.Transform.{Transform}
use Rattle.ice_transform.specs.declared.transform.Transform.TheVariants.{Identity, Bucket, Truncate, Year, Month, Day}
use Rattle.ice_transform.specs.declared.transform.Transform.TheVariants.{Hour, Void, Unknown}

below : (a b : ℕ) → nat_lt a b ≡ true → a < b
below a b h = grind (arith, nat_tests)

is_below : (a b : ℕ) → a < b → nat_lt a b ≡ true
is_below a b h = grind (arith, nat_tests)

is_other : (a b : ℕ) → b < a → (a == b) ≡ false
is_other a b h = grind (arith, nat_tests)

-- what is known of a digit that was read
abbrev IsDigitAfter : ℕ → ℕ → ℕ → Type 0
IsDigitAfter n b m = (47 < b) × (b < 58) × (m ≡ n * 10 + (b - 48)) × (m < 0x1_0000_0000)

digit_read : (n b m : ℕ) → with_digit n b ≡ Some m → IsDigitAfter n b m
digit_read n b m h = go (nat_lt 47 b) refl (nat_lt b 58) refl (nat_lt (n * 10 + (b - 48)) 0x1_0000_0000) refl h where
  go : (x : Bool) → nat_lt 47 b ≡ x → (y : Bool) → nat_lt b 58 ≡ y → (z : Bool)
      → nat_lt (n * 10 + (b - 48)) 0x1_0000_0000 ≡ z → cond (x && y && z) (Some (n * 10 + (b - 48))) None ≡ Some m
      → IsDigitAfter n b m
  go true p true q true r e = let same : n * 10 + (b - 48) ≡ m = cc in (
    below 47 b p,
    below b 58 q,
    sym same,
    rw same at
        (below _ _ r),
  )
  go true p true q false r e = absurd cc
  go true p false q z r e = absurd cc
  go false p y q z r e = absurd cc

digit_back : (n d : ℕ) → d < 10 → n * 10 + d < 0x1_0000_0000 → with_digit n (48 + d) ≡ Some (n * 10 + d)
digit_back n d l small = go (48 + d) (omega arith) (omega arith) (omega arith) where
  go : (b : ℕ) → 47 < b → b < 58 → b - 48 ≡ d → with_digit n b ≡ Some (n * 10 + d)
  go b low high same =
      let x = is_below 47 b low in
      let y = is_below b 58 high in
      let z = is_below (n * 10 + d) 0x1_0000_0000 small in
      rw (same, x, y, z) refl

-- one more digit, written
front : (n b k : ℕ) (rest : List ℕ) → 0 < n → IsDigitAfter n b k → decimal n ++ (b ∷ rest) ≡ decimal k ++ rest
front n b k rest some (low, high, e, small) =
    let step = decimal_step k (omega arith) (omega arith) in
    let tens : n ≡ k / 10 = omega arith in
    let ones : b ≡ 48 + k % 10 = omega arith in
    ap (λ d. decimal n ++ (d ∷ rest)) ones ∙ ap (λ q. decimal q ++ ((48 + k % 10) ∷ rest)) tens
    ∙ sym (append_assoc (decimal (k / 10)) ((48 + k % 10) ∷ []) rest) ∙ ap (λ x. x ++ rest) (sym step)

-- digits that were read are those that are written
written_after : (n : ℕ) (bs : List ℕ) (m : ℕ) → 0 < n → number_after n bs ≡ Some m
    → decimal n ++ bs ≡ decimal m ++ (93 ∷ [])
written_after n [] m some h = absurd cc
written_after n (b ∷ []) m some h = go (b == 93) refl h where
  go : (x : Bool) → (b == 93) ≡ x → cond x (Some n) None ≡ Some m → decimal n ++ (b ∷ []) ≡ decimal m ++ (93 ∷ [])
  go true p e =
      let is = (Decides-eqb b 93).0 p in
      let same : n ≡ m = cc in
      rw (is, same) refl
  go false p e = absurd cc
written_after n (b ∷ c ∷ bs) m some h = go (with_digit n b) refl h (λ k. written_after k (c ∷ bs) m) where
  go : (o : Option ℕ) → with_digit n b ≡ o → option_and_then (λ k. number_after k (c ∷ bs)) o ≡ Some m
      → ((k : ℕ) → 0 < k → number_after k (c ∷ bs) ≡ Some m → decimal k ++ (c ∷ bs) ≡ decimal m ++ (93 ∷ [])) →
      decimal n ++ (b ∷ c ∷ bs) ≡ decimal m ++ (93 ∷ [])
  go None p e after = absurd cc
  go (Some k) p e after =
      let d = digit_read n b k p in
      front n b k (c ∷ bs) some d ∙ after k (omega (arith, d.2)) e

parameter_is : (k m : ℕ) → parameter_if k ≡ Some m → (k ≡ m) × (0 < k)
parameter_is k m h = go (nat_lt 0 k) refl (nat_lt k 0x8000_0000) h where
  go : (x : Bool) → nat_lt 0 k ≡ x → (y : Bool) → cond (x && y) (Some k) None ≡ Some m → (k ≡ m) × (0 < k)
  go true p true e = (cc, below 0 k p)
  go true p false e = absurd cc
  go false p y e = absurd cc

found : (o : Option ℕ) (m : ℕ) → option_and_then parameter_if o ≡ Some m → (o ≡ Some m) × (0 < m)
found None m h = absurd cc
found (Some k) m h = let s = parameter_is k m h in (ap Some s.0, rw s.0 at s.1)

-- the number of a transform is read from the digits that are written for it
written_parameter : (bs : List ℕ) (m : ℕ) → parameter_before_bracket bs ≡ Some m → bs ≡ decimal m ++ (93 ∷ [])
written_parameter [] m h = absurd cc
written_parameter (b ∷ bs) m h = go (b == 48) refl h where
  rest : (bs : List ℕ) → (b == 48) ≡ false → number_after 0 (b ∷ bs) ≡ Some m → 0 < m → b ∷ bs ≡ decimal m ++ (93 ∷ [])
  rest [] p e some = last (b == 93) e where
    last : (x : Bool) → cond x (Some 0) None ≡ Some m → b ∷ [] ≡ decimal m ++ (93 ∷ [])
    last true f = let is : 0 ≡ m = cc in absurd (omega arith)
    last false f = absurd cc
  rest (c ∷ cs) p e some = more (with_digit 0 b) refl e where
    more : (o : Option ℕ) → with_digit 0 b ≡ o → option_and_then (λ k. number_after k (c ∷ cs)) o ≡ Some m
        → b ∷ c ∷ cs ≡ decimal m ++ (93 ∷ [])
    more None q f = absurd cc
    more (Some k) q f =
        let (low, high, is, small) = digit_read 0 b k q in
        let other : b ≡ 48 → ⊥ = λ e. let z = (Decides-eqb b 48).1 e in cc in
        let glyph : 48 + k ≡ b = omega arith in
        ap (λ x. x ∷ c ∷ cs) (sym glyph) ∙ ap (λ x. x ++ (c ∷ cs)) (sym (decimal_digit k (omega arith))) ∙ written_after
        k (c ∷ cs) m (omega (arith, other)) f

  go : (x : Bool) → (b == 48) ≡ x → cond x None (option_and_then parameter_if (number_after 0 (b ∷ bs))) ≡ Some m
      → b ∷ bs ≡ decimal m ++ (93 ∷ [])
  go true p e = absurd cc
  go false p e = let s = found (number_after 0 (b ∷ bs)) m e in rest bs p s.0 s.1

and_parts : (a b : Bool) → (a && b) ≡ true → (a ≡ true) × (b ≡ true)
and_parts true b h = (refl, h)
and_parts false b h = absurd cc

begins : (start text : List ℕ) → starts_with nat_eq text start ≡ true → text ≡ start ++ drop (length start) text
begins [] text h = refl
begins (x ∷ xs) [] h = absurd cc
begins (x ∷ xs) (y ∷ ys) h =
    let p = and_parts (nat_eq x y) (starts_with nat_eq ys xs) h in
    ap (λ z. z ∷ ys) (sym ((Decides-eqb x y).0 p.0)) ∙ ap (λ zs. x ∷ zs) (begins xs ys p.1)

written_in : (start text : List ℕ) (m : ℕ) → parameter_in start text ≡ Some m → start ++ (decimal m ++ (93 ∷ [])) ≡ text
written_in start text m h = go (starts_with nat_eq text start) refl h where
  go : (x : Bool) → starts_with nat_eq text start ≡ x → cond x (parameter_before_bracket (drop (length start) text))
      None ≡ Some m → start ++ (decimal m ++ (93 ∷ [])) ≡ text
  go true p e = sym (begins start text p ∙ ap (λ x. start ++ x) (written_parameter (drop (length start) text) m e))
  go false p e = absurd cc

-- what was read is written as the text that it was read from
pub written_back : (f : Transform) (text : List ℕ) → IsNamed f text → name_of f ≡ text
written_back Identity text h = sym h
written_back (Bucket buckets) text h = written_in (codes "bucket[") text buckets.number h
written_back (Truncate width) text h = written_in (codes "truncate[") text width.number h
written_back Year text h = sym h
written_back Month text h = sym h
written_back Day text h = sym h
written_back Hour text h = sym h
written_back Void text h = sym h
written_back (Unknown kept) text h = h.0

-- the digits of n are read as n, whatever follows
abbrev ReadsOn : ℕ → List ℕ → Type 0
ReadsOn n ds = n < 0x1_0000_0000 → (c : ℕ) (bs : List ℕ) → number_after 0 (ds ++ (c ∷ bs)) ≡ number_after n (c ∷ bs)

reads_on : (n : ℕ) → n < 2 ^ 64 → ReadsOn n (decimal n)
reads_on = decimal_by_steps ReadsOn one more where
  one : (m : ℕ) → m < 10 → ReadsOn m ((48 + m) ∷ [])
  one m l small c bs = ap (option_and_then (λ k. number_after k (c ∷ bs))) (digit_back 0 m l (omega arith) ∙ ap Some
      (omega arith))

  more : (m : ℕ) (ds : List ℕ) → 10 ≤ m → ReadsOn (m / 10) ds → ReadsOn m (ds ++ ((48 + m % 10) ∷ []))
  more m ds l r small c bs =
      let whole : m / 10 * 10 + m % 10 ≡ m = omega arith in
      ap (number_after 0) (append_assoc ds ((48 + m % 10) ∷ []) (c ∷ bs)) ∙ r (omega arith) (48 + m % 10) (c ∷ bs)
      ∙ ap (option_and_then (λ k. number_after k (c ∷ bs))) (digit_back (m / 10) (m % 10) (omega arith) (omega arith) ∙
      ap Some whole)

is_parameter : (n : ℕ) → 0 < n → n < 0x8000_0000 → parameter_if n ≡ Some n
is_parameter n some small =
    let x = is_below 0 n some in
    let y = is_below n 0x8000_0000 small in
    rw (x, y) refl

parameter_back : (n : ℕ) → 0 < n → n < 0x8000_0000 → parameter_before_bracket (decimal n ++ (93 ∷ [])) ≡ Some n
parameter_back n some small = go (decimal n) (decimal_nonempty n (omega arith)) (first_decimal n some (omega arith))
    (reads_on n (omega arith) (omega arith) 93 []) where
      go : (ds : List ℕ) → 0 < length ds → 48 < get_or ds 0 0 → number_after 0 (ds ++ (93 ∷ [])) ≡ Some n
          → parameter_before_bracket (ds ++ (93 ∷ [])) ≡ Some n
      go [] l h e = absurd (omega arith)
      go (b ∷ ds) l h e = let other = is_other b 48 h in rw other (ap (option_and_then parameter_if) e ∙ is_parameter n
          some
          small)

-- what is written of a transform is read as that transform
pub read_back : (f : Transform) → IsOfText f → IsNamed f (name_of f)
read_back Identity h = refl
read_back (Bucket buckets) h = parameter_back buckets.number buckets.positive buckets.below
read_back (Truncate width) h = parameter_back width.number width.positive width.below
read_back Year h = refl
read_back Month h = refl
read_back Day h = refl
read_back Hour h = refl
read_back Void h = refl
read_back (Unknown kept) h = (refl, h)

-- the first letter of a known transform's text
abbrev letter_of : Transform → ℕ
letter_of Identity = 105
letter_of (Bucket buckets) = 98
letter_of (Truncate width) = 116
letter_of Year = 121
letter_of Month = 109
letter_of Day = 100
letter_of Hour = 104
letter_of Void = 118
letter_of (Unknown kept) = 0

abbrev letter_in : List ℕ → ℕ
letter_in text = cond (is_name text) (get_or text 0 0) 0

second : (a b c : Bool) → b ≡ true → (a || b || c) ≡ true
second true b c h = refl
second false b c h = rw h refl

third : (a b c : Bool) → c ≡ true → (a || b || c) ≡ true
third true b c h = refl
third false true c h = refl
third false false c h = h

letter_is : (f : Transform) (text : List ℕ) → IsNamed f text → letter_of f ≡ letter_in text
letter_is Identity text h = sym (ap letter_in h)
letter_is (Bucket buckets) text h =
    let known = second (is_plain_name text) (is_some (parameter_in (codes "bucket[") text))
    (is_some (parameter_in (codes "truncate[") text)) (ap is_some h) in
    sym (ap (λ b. cond b (get_or text 0 0) 0) known ∙ ap (λ t. get_or t 0 0)
    (sym (written_in (codes "bucket[") text buckets.number h)))
letter_is (Truncate width) text h =
    let known = third (is_plain_name text) (is_some (parameter_in (codes "bucket[") text))
    (is_some (parameter_in (codes "truncate[") text)) (ap is_some h) in
    sym (ap (λ b. cond b (get_or text 0 0) 0) known ∙ ap (λ t. get_or t 0 0)
    (sym (written_in (codes "truncate[") text width.number h)))
letter_is Year text h = sym (ap letter_in h)
letter_is Month text h = sym (ap letter_in h)
letter_is Day text h = sym (ap letter_in h)
letter_is Hour text h = sym (ap letter_in h)
letter_is Void text h = sym (ap letter_in h)
letter_is (Unknown kept) text h = sym (ap (λ b. cond b (get_or text 0 0) 0) h.1)

number_same : (m n : ℕ) (o : Option ℕ) → o ≡ Some m → o ≡ Some n → m ≡ n
number_same m n o e f = cc

same_parameter : (a b : Parameter) → a.number ≡ b.number → a ≡ b
same_parameter a b e = subst (λ n. (some : 0 < n) (small : n < 0x8000_0000) → a ≡ record {
  number = n;
  positive = some;
  below = small;
}) e same b.positive b.below where
  same : (some : 0 < a.number) (small : a.number < 0x8000_0000)
      → a ≡ record { number = a.number; positive = some; below = small }
  same some small =
      let positive_prop : IsProp (0 < a.number) = le_prop in
      let below_prop : IsProp (a.number < 0x8000_0000) = le_prop in
      λ i. record { number = a.number; positive = positive_prop a.positive some i; below = below_prop a.below small i }

-- a text names one transform
pub one_transform : (f g : Transform) (text : List ℕ) → IsNamed f text → IsNamed g text → f ≡ g
one_transform f g text h k = go f g h k (letter_is f text h ∙ sym (letter_is g text k)) where
  go : (f g : Transform) → IsNamed f text → IsNamed g text → letter_of f ≡ letter_of g → f ≡ g
  go Identity Identity h k e = refl
  go (Bucket a) (Bucket b) h k e = ap Bucket (same_parameter a b (number_same a.number b.number
      (parameter_in (codes "bucket[") text) h k))
  go (Truncate a) (Truncate b) h k e = ap Truncate (same_parameter a b (number_same a.number b.number
      (parameter_in (codes "truncate[") text) h k))
  go Year Year h k e = refl
  go Month Month h k e = refl
  go Day Day h k e = refl
  go Hour Hour h k e = refl
  go Void Void h k e = refl
  go (Unknown a) (Unknown b) h k e = ap Unknown (h.0 ∙ sym k.0)
  go _ _ h k e = absurd (omega (arith, e))
