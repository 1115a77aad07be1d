-- Bytes in hexadecimal digits.
use Rattle.std.proofs.Common.{◌≡◌, ℕ, ◌+◌, ◌*◌, ◌<◌, ◌==◌, ◌&&◌, Bool, true, false, List, [], ◌∷◌, ◌++◌, length, Option}
use Rattle.std.proofs.Common.{Some, None, refl, sym, ap, ◌∙◌, append_assoc, arith}
use Rattle.std.specs.Prelude.{codes}
use Rattle.std.specs.Char.{digit_value}
use Rattle.std.proofs.lemmas.Bool.{eqb-true, and_parts}
use Rattle.std.proofs.lemmas.Bool.Decides.{nat_tests}
use Rattle.std.proofs.lemmas.List.{append-nil, length-append}
use Rattle.ice_filter.specs.declared.token.Token.TheVariants as token
use Rattle.ice_filter.specs.Lexing.{is_hex, nibble, hex_from, as_bytes, front_at}
use Rattle.ice_filter_laws.specs.Spelling.{WritesBytes}
use Rattle.ice_filter_laws.proofs.Reading.{Reading, IsFound}
use Rattle.ice_filter_laws.proofs.Marks.{no_byte, stops_at_once}

hex_digit : (d : ℕ) → digit_value d < 16 → ((d == 39) ≡ false) × (is_hex d ≡ true) × (nibble d ≡ digit_value d)
hex_digit d h = (grind (arith, nat_tests), grind (arith, nat_tests), grind (arith, nat_tests))

is_hex_digit : (d : ℕ) → is_hex d ≡ true → (digit_value d < 16) × (nibble d ≡ digit_value d)
is_hex_digit d h = (grind (arith, nat_tests), grind (arith, nat_tests))

-- ---- from bytes to their digits

hex_end : (found : List ℕ) (n : ℕ) (bs : List ℕ) → hex_from found n (39 ∷ bs) ≡ Some (found, n + 1)
unfolding hex_from
hex_end found n [] = refl
hex_end found n (b ∷ bs) = refl

pair : (found : List ℕ) (n x y : ℕ) (bs : List ℕ) → (x == 39) ≡ false → is_hex x ≡ true → is_hex y ≡ true
    → hex_from found n (x ∷ y ∷ bs) ≡ hex_from (found ++ (nibble x * 16 + nibble y) ∷ []) (n + 2) bs
unfolding hex_from
pair found n x y bs h k l = rw (h, k, l) refl

hex_read : (found : List ℕ) (n : ℕ) (digits bytes rest : List ℕ) → WritesBytes digits bytes
    → hex_from found n (digits ++ 39 ∷ rest) ≡ Some (found ++ bytes, n + (length digits + 1))
hex_read found n [] [] rest h = hex_end found n rest ∙ rw (append-nil found) refl
hex_read found n [] (b ∷ bs) rest h = absurd h
hex_read found n (x ∷ []) bytes rest h = absurd h
hex_read found n (x ∷ y ∷ digits) [] rest h = absurd h
hex_read found n (x ∷ y ∷ digits) (b ∷ bs) rest h =
    let high = hex_digit x h.0.1.0 in
    let low = hex_digit y h.0.1.1.0 in
    let value : nibble x * 16 + nibble y ≡ b = rw (high.2, low.2, h.1) (omega arith) in
    let count : n + 2 + (length digits + 1) ≡ n + (length (x ∷ y ∷ digits) + 1) = omega arith in
    pair found n x y (digits ++ 39 ∷ rest) high.0 high.1 low.1 ∙ rw value (hex_read (found ++ b ∷ []) (n + 2) digits bs
    rest h.2 ∙ rw (append_assoc found (b ∷ []) bs, count) refl)

bytes_front : (digits bytes rest : List ℕ) → WritesBytes digits bytes
    → front_at 120 (120 ∷ 39 ∷ ((digits ++ 39 ∷ []) ++ rest))
    ≡ (token.Bytes bytes, length (120 ∷ 39 ∷ (digits ++ 39 ∷ [])))
unfolding front_at
bytes_front digits bytes rest h =
    let count : 2 + (length digits + 1) ≡ length (120 ∷ 39 ∷ (digits ++ 39 ∷ [])) =
    omega (arith, length-append digits (39 ∷ [])) in
    rw (append_assoc digits (39 ∷ []) rest, hex_read [] 2 digits bytes rest h, count) refl

pub bytes_reading : (digits bytes : List ℕ) → WritesBytes digits bytes
    → Reading no_byte (codes "x'" ++ (digits ++ codes "'")) (token.Bytes bytes)
bytes_reading digits bytes h = record {
  read = λ rest s.
      let e = bytes_front digits bytes rest h in
      (refl, ap (λ x. x.1) e, λ f. ap (λ x. x.0) e);
  longer = λ next rest e. absurd (cc);
}

-- ---- from digits to the bytes

record AreHex (found : List ℕ) (n : ℕ) (bs : List ℕ) (x : List ℕ × ℕ) : Type 0 where
  digits : List ℕ
  bytes : List ℕ
  rest : List ℕ
  split : bs ≡ digits ++ 39 ∷ rest
  written : WritesBytes digits bytes
  whole : x.0 ≡ found ++ bytes
  size : x.1 ≡ n + (length digits + 1)

ends_with : (found : List ℕ) (n b : ℕ) (bs : List ℕ) (x : List ℕ × ℕ) → (b == 39) ≡ true
    → Some (found, n + 1) ≡ Some x → AreHex found n (b ∷ bs) x
ends_with found n b bs x e h =
    let same : (found, n + 1) ≡ x = cc in
    record {
      digits = [];
      bytes = [];
      rest = bs;
      split = ap (λ z. z ∷ bs) (eqb-true b 39 e);
      written = tt;
      whole = sym (ap (λ z. z.0) same) ∙ sym (append-nil found);
      size = sym (ap (λ z. z.1) same) ∙ omega arith;
    }

pair_more : (found : List ℕ) (n b c : ℕ) (bs : List ℕ) (x : List ℕ × ℕ) → is_hex b ≡ true → is_hex c ≡ true
    → AreHex (found ++ (nibble b * 16 + nibble c) ∷ []) (n + 2) bs x → AreHex found n (b ∷ c ∷ bs) x
pair_more found n b c bs x h k r =
    let high = is_hex_digit b h in
    let low = is_hex_digit c k in
    record {
      digits = b ∷ c ∷ r.digits;
      bytes = (nibble b * 16 + nibble c) ∷ r.bytes;
      rest = r.rest;
      split = ap (λ z. b ∷ c ∷ z) r.split;
      written = ((omega arith, (high.0, (low.0, tt))), rw (high.1, low.1) (omega arith), r.written);
      whole = r.whole ∙ append_assoc found ((nibble b * 16 + nibble c) ∷ []) r.bytes;
      size = r.size ∙ omega arith;
    }

one_by : (found : List ℕ) (n b : ℕ) (x : List ℕ × ℕ) (t : Bool) → (b == 39) ≡ t
    → hex_from found n (b ∷ []) ≡ Some x → AreHex found n (b ∷ []) x
unfolding hex_from
one_by found n b x true e h = ends_with found n b [] x e (rw e at h)
one_by found n b x false e h = let absent : None ≡ Some x = rw e at h in absurd (cc)

two_by : (found : List ℕ) (n b c : ℕ) (bs : List ℕ) (x : List ℕ × ℕ) (t u : Bool) → (b == 39) ≡ t
    → (is_hex b && is_hex c) ≡ u
    → ((k : ℕ) (front : List ℕ) → hex_from front k bs ≡ Some x → AreHex front k bs x)
    → hex_from found n (b ∷ c ∷ bs) ≡ Some x → AreHex found n (b ∷ c ∷ bs) x
unfolding hex_from
two_by found n b c bs x true u e f behind h = ends_with found n b (c ∷ bs) x e (rw e at h)
two_by found n b c bs x false true e f behind h =
    let both = and_parts (is_hex b) (is_hex c) f in
    pair_more found n b c bs x both.0 both.1
    (behind (n + 2) (found ++ (nibble b * 16 + nibble c) ∷ []) (rw (e, f) at h))
two_by found n b c bs x false false e f behind h = let absent : None ≡ Some x = rw (e, f) at h in absurd (cc)

are_hex : (found : List ℕ) (n : ℕ) (bs : List ℕ) (x : List ℕ × ℕ) → hex_from found n bs ≡ Some x → AreHex found n bs x
unfolding hex_from
are_hex found n [] x h = absurd (cc)
are_hex found n (b ∷ []) x h = one_by found n b x (b == 39) refl h
are_hex found n (b ∷ c ∷ bs) x h = two_by found n b c bs x (b == 39) (is_hex b && is_hex c) refl refl
    (λ k front e. are_hex front k bs x e) h

abbrev ReadBytes : List ℕ → List ℕ × ℕ → Type 0
ReadBytes bs x = (digits rest : List ℕ) × WritesBytes digits x.0
    × (120 ∷ 39 ∷ bs ≡ (codes "x'" ++ (digits ++ codes "'")) ++ rest)
    × (x.1 ≡ length (codes "x'" ++ (digits ++ codes "'")))

bytes_of : (bs digits bytes rest : List ℕ) (x : List ℕ × ℕ) → bs ≡ digits ++ 39 ∷ rest → WritesBytes digits bytes
    → x.0 ≡ bytes → x.1 ≡ 2 + (length digits + 1) → ReadBytes bs x
bytes_of bs digits bytes rest x split written whole size =
    let count : 2 + (length digits + 1) ≡ length (codes "x'" ++ (digits ++ codes "'")) =
    omega (arith, length-append digits (39 ∷ [])) in (
      digits,
      rest,
      rw whole written,
      rw (append_assoc digits (39 ∷ []) rest) (ap (λ z. 120 ∷ 39 ∷ z) split),
      size ∙ count,
    )

read_bytes : (bs : List ℕ) (x : List ℕ × ℕ) → hex_from [] 2 bs ≡ Some x → ReadBytes bs x
read_bytes bs x h =
    let r = are_hex [] 2 bs x h in
    bytes_of bs r.digits r.bytes r.rest x r.split r.written r.whole r.size

bytes_by : (bs : List ℕ) (r : Option (List ℕ × ℕ)) → hex_from [] 2 bs ≡ r
    → ((as_bytes r).0 ≡ token.Bad → ⊥) → IsFound (120 ∷ 39 ∷ bs) (as_bytes r)
bytes_by bs None h good = absurd (good refl)
bytes_by bs (Some x) h good =
    let r = read_bytes bs x h in
    record {
      spelling = codes "x'" ++ (r.0 ++ codes "'");
      rest = r.1;
      split = r.3;
      size = r.4;
      spelled = (r.0, r.2, refl);
      fits = tt;
      on = no_byte;
      reading = bytes_reading r.0 x.0 r.2;
      stops = stops_at_once r.1;
    }

pub bytes_found : (bs : List ℕ) → ((as_bytes (hex_from [] 2 bs)).0 ≡ token.Bad → ⊥)
    → IsFound (120 ∷ 39 ∷ bs) (as_bytes (hex_from [] 2 bs))
bytes_found bs good = bytes_by bs (hex_from [] 2 bs) refl good
