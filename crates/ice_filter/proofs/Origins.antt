-- What the tokens of a text hold.
use Rattle.std.proofs.Common.{◌≡◌, ℕ, ℤ, pos, zero, suc, ◌+◌, ◌-◌, ◌*◌, ◌<◌, ◌≤◌, ◌==◌, ◌-ℤ◌, Bool, true, false, cond}
use Rattle.std.proofs.Common.{◌&&◌, ◌||◌, nat_lt, List, [], ◌∷◌, ◌++◌, take, drop, Option, None, Some, refl, sym, ap}
use Rattle.std.proofs.Common.{subst, ◌∙◌, arith}
use Rattle.std.proofs.lemmas.Bool.{ltb-true, ltb-false}
use Rattle.std.specs.Prelude.{codes}
use Rattle.std.specs.Str.{is_utf8, bytes_eq}
use Rattle.ice_filter.specs.declared.token.Token.{Token}
use Rattle.ice_filter.specs.declared.token.Token.TheVariants as token
use Rattle.ice_filter.specs.declared.token.Comparison.TheVariants as sign
use Rattle.ice_filter.specs.Lexing.{Sized, is_separator, is_digit, is_letter, is_hex, nibble, is_name_byte, is_equals}
use Rattle.ice_filter.specs.Lexing.{second_is, run_from, text_in, named, word_of, word_at, magnitude_from, number_of}
use Rattle.ice_filter.specs.Lexing.{digits_at, quoted_from, hex_from, sized_text, text_of, quoted, as_text, as_name}
use Rattle.ice_filter.specs.Lexing.{as_bytes, mark_at, begins_hex, begins_minus, front_at}
use Rattle.ice_filter.proofs.Lexed.{lexed, and_parts}
use Rattle.ice_filter.proofs.Spelled.{AllBytes, IsLong, IsRead, negated}

-- the token holds neither a name nor a literal of bytes or of a number
abbrev holds_nothing : Token → Bool
holds_nothing (token.Name n) = false
holds_nothing (token.Text x) = false
holds_nothing (token.Number z) = false
holds_nothing (token.Bytes b) = false
holds_nothing _ = true

contradicts : {P : Type 0} (t u : Token) → holds_nothing t ≡ true → holds_nothing u ≡ false → t ≡ u → P
contradicts t u h k e = let no : true ≡ false = sym h ∙ ap holds_nothing e ∙ k in absurd (cc)

nothing : (t : Token) → holds_nothing t ≡ true → IsRead t
nothing t h = record {
  name = λ n e. contradicts t (token.Name n) h refl e;
  text = λ x e. contradicts t (token.Text x) h refl e;
  number = λ z e. contradicts t (token.Number z) h refl e;
  bytes = λ b e. contradicts t (token.Bytes b) h refl e;
}

name_read : (n : List ℕ) → is_utf8 n ≡ true → IsRead (token.Name n)
name_read n h = record {
  name = λ m e. let same : n ≡ m = cc in rw same at h;
  text = λ x e. absurd (cc);
  number = λ z e. absurd (cc);
  bytes = λ b e. absurd (cc);
}

text_read : (n : List ℕ) → is_utf8 n ≡ true → IsRead (token.Text n)
text_read n h = record {
  name = λ m e. absurd (cc);
  text = λ m e. let same : n ≡ m = cc in rw same at h;
  number = λ z e. absurd (cc);
  bytes = λ b e. absurd (cc);
}

number_read : (z : ℤ) → IsLong z → IsRead (token.Number z)
number_read z h = record {
  name = λ m e. absurd (cc);
  text = λ x e. absurd (cc);
  number = λ y e. let same : z ≡ y = cc in subst IsLong same h;
  bytes = λ b e. absurd (cc);
}

bytes_read : (b : List ℕ) → AllBytes b → IsRead (token.Bytes b)
bytes_read b h = record {
  name = λ m e. absurd (cc);
  text = λ x e. absurd (cc);
  number = λ z e. absurd (cc);
  bytes = λ c e. let same : b ≡ c = cc in subst AllBytes same h;
}

either_token : (t : Bool) (x y : Token) → IsRead x → IsRead y → IsRead (cond t x y)
either_token true x y h k = h
either_token false x y h k = k

either_sized : (t : Bool) (x y : Sized) → IsRead x.0 → IsRead y.0 → IsRead (cond t x y).0
either_sized true x y h k = h
either_sized false x y h k = k

nothing_sized : (t : Bool) (x y : Sized) → holds_nothing x.0 ≡ true → holds_nothing y.0 ≡ true
    → holds_nothing (cond t x y).0 ≡ true
nothing_sized true x y h k = h
nothing_sized false x y h k = k

-- ---- names and words

abbrev IsSomeText : Option (List ℕ) → Type 0
IsSomeText None = Unit {0}
IsSomeText (Some x) = is_utf8 x ≡ true

text_if : (bs : List ℕ) (t : Bool) → is_utf8 bs ≡ t → IsSomeText (cond t (Some bs) None)
text_if bs true e = e
text_if bs false e = tt

named_read : (o : Option (List ℕ)) → IsSomeText o → IsRead (named o)
named_read None h = nothing token.Bad refl
named_read (Some n) h = name_read n h

word_read : (name : List ℕ) → IsRead (word_of name)
unfolding word_of
word_read name =
    let t : List ℕ → Bool = λ w. bytes_eq name w in
    let a : Token = named (text_in name) in
    let b : Token = cond (t (codes "false")) (token.Truth false) a in
    let c : Token = cond (t (codes "true")) (token.Truth true) b in
    let d : Token = cond (t (codes "with")) token.With c in
    let e : Token = cond (t (codes "starts")) token.Starts d in
    let f : Token = cond (t (codes "null")) token.Null e in
    let g : Token = cond (t (codes "is")) token.Is f in
    let h : Token = cond (t (codes "in")) token.In g in
    let i : Token = cond (t (codes "not")) token.Not h in
    let j : Token = cond (t (codes "or")) token.Or i in
    either_token (t (codes "and")) token.And j (nothing token.And refl) (
    either_token (t (codes "or")) token.Or i (nothing token.Or refl) (
    either_token (t (codes "not")) token.Not h (nothing token.Not refl) (
    either_token (t (codes "in")) token.In g (nothing token.In refl) (
    either_token (t (codes "is")) token.Is f (nothing token.Is refl) (
    either_token (t (codes "null")) token.Null e (nothing token.Null refl) (
    either_token (t (codes "starts")) token.Starts d (nothing token.Starts refl) (
    either_token (t (codes "with")) token.With c (nothing token.With refl) (
    either_token (t (codes "true")) (token.Truth true) b (nothing (token.Truth true) refl) (
    either_token (t (codes "false")) (token.Truth false) a (nothing (token.Truth false) refl) (
    named_read (text_in name) (text_if name (is_utf8 name) refl)))))))))))

-- ---- numbers

minus_long : (n : ℕ) → n ≤ 0x8000_0000_0000_0000 → IsLong (pos 0 -ℤ pos n)
minus_long zero h = omega arith
minus_long (suc n) h = subst IsLong (sym (negated n)) h

minus_if : (n : ℕ) (t : Bool) → nat_lt 0x8000_0000_0000_0000 n ≡ t
    → IsRead (cond t token.Bad (token.Number (pos 0 -ℤ pos n)))
minus_if n true e = nothing token.Bad refl
minus_if n false e = number_read (pos 0 -ℤ pos n) (minus_long n (ltb-false 0x8000_0000_0000_0000 n e))

plus_if : (n : ℕ) (t : Bool) → nat_lt n 0x8000_0000_0000_0000 ≡ t → IsRead (cond t (token.Number (pos n)) token.Bad)
plus_if n true e = number_read (pos n) (ltb-true n 0x8000_0000_0000_0000 e)
plus_if n false e = nothing token.Bad refl

number_of_read : (minus : Bool) (o : Option ℕ) → IsRead (number_of minus o)
number_of_read true None = nothing token.Bad refl
number_of_read false None = nothing token.Bad refl
number_of_read true (Some n) = minus_if n (nat_lt 0x8000_0000_0000_0000 n) refl
number_of_read false (Some n) = plus_if n (nat_lt n 0x8000_0000_0000_0000) refl

-- ---- quotes

sized_read : (n : ℕ) (o : Option (List ℕ)) → IsSomeText o
    → IsRead (as_text (sized_text n o)).0 × IsRead (as_name (sized_text n o)).0
sized_read n None h = (nothing token.Bad refl, nothing token.Bad refl)
sized_read n (Some x) h = (text_read x h, name_read x h)

quoted_read : (o : Option (List ℕ × ℕ)) → IsRead (as_text (text_of o)).0 × IsRead (as_name (text_of o)).0
quoted_read None = (nothing token.Bad refl, nothing token.Bad refl)
quoted_read (Some x) = sized_read x.1 (text_in x.0) (text_if x.0 (is_utf8 x.0) refl)

-- ---- bytes

abbrev IsSomeBytes : Option (List ℕ × ℕ) → Type 0
IsSomeBytes None = Unit {0}
IsSomeBytes (Some x) = AllBytes x.0

nibble_low : (b : ℕ) (t u : Bool) → nat_lt b 58 ≡ t → nat_lt b 71 ≡ u → b < 103
    → cond t (b - 48) (cond u (b - 55) (b - 87)) < 16
nibble_low b true u e f h = let l = ltb-true b 58 e in omega arith
nibble_low b false true e f h = let l = ltb-true b 71 f in omega arith
nibble_low b false false e f h = omega arith

hex_below : (b : ℕ) (x y z : Bool) → nat_lt b 58 ≡ x → nat_lt b 103 ≡ y → nat_lt b 71 ≡ z → (p q r : Bool)
    → ((p && x) || (q && y) || (r && z)) ≡ true → b < 103
hex_below b true y z e f g p q r h = let l = ltb-true b 58 e in omega arith
hex_below b false true z e f g p q r h = ltb-true b 103 f
hex_below b false false true e f g p q r h = let l = ltb-true b 71 g in omega arith
hex_below b false false false e f g true true true h = absurd (cc)
hex_below b false false false e f g true true false h = absurd (cc)
hex_below b false false false e f g true false true h = absurd (cc)
hex_below b false false false e f g true false false h = absurd (cc)
hex_below b false false false e f g false true true h = absurd (cc)
hex_below b false false false e f g false true false h = absurd (cc)
hex_below b false false false e f g false false true h = absurd (cc)
hex_below b false false false e f g false false false h = absurd (cc)

nibble_small : (b : ℕ) → is_hex b ≡ true → nibble b < 16
nibble_small b h = nibble_low b (nat_lt b 58) (nat_lt b 71) refl refl (hex_below b (nat_lt b 58) (nat_lt b 103)
    (nat_lt b 71) refl refl refl (nat_lt 47 b) (nat_lt 96 b) (nat_lt 64 b) h)

all_more : (bs : List ℕ) (b : ℕ) → AllBytes bs → b < 256 → AllBytes (bs ++ b ∷ [])
all_more [] b h k = (k, tt)
all_more (x ∷ xs) b h k = (h.0, all_more xs b h.1 k)

end_if : (found : List ℕ) (n : ℕ) (t : Bool) → AllBytes found → IsSomeBytes (cond t (Some (found, n)) None)
end_if found n true h = h
end_if found n false h = tt

pair_if : (found : List ℕ) (n : ℕ) (t : Bool) (o : Option (List ℕ × ℕ)) → AllBytes found → IsSomeBytes o
    → IsSomeBytes (cond t (Some (found, n)) o)
pair_if found n true o h k = h
pair_if found n false o h k = k

digits_if : (t : Bool) (o : Option (List ℕ × ℕ)) → (t ≡ true → IsSomeBytes o) → IsSomeBytes (cond t o None)
digits_if true o h = h refl
digits_if false o h = tt

hex_from_read : (found : List ℕ) (n : ℕ) (bs : List ℕ) → AllBytes found → IsSomeBytes (hex_from found n bs)
unfolding hex_from
hex_from_read found n [] h = tt
hex_from_read found n (b ∷ []) h = end_if found (n + 1) (b == 39) h
hex_from_read found n (b ∷ c ∷ bs) h =
    let value : ℕ = nibble b * 16 + nibble c in
    let next : Option (List ℕ × ℕ) = hex_from (found ++ value ∷ []) (n + 2) bs in
    pair_if found (n + 1) (b == 39) (cond (is_hex b && is_hex c) next None) h
    (digits_if (is_hex b && is_hex c) next (λ e.
    let both = and_parts (is_hex b) (is_hex c) e in
    let high = nibble_small b both.0 in
    let low = nibble_small c both.1 in
    hex_from_read (found ++ value ∷ []) (n + 2) bs (all_more found value h (omega arith))))

bytes_of_read : (o : Option (List ℕ × ℕ)) → IsSomeBytes o → IsRead (as_bytes o).0
bytes_of_read None h = nothing token.Bad refl
bytes_of_read (Some x) h = bytes_read x.0 h

-- ---- tokens

mark_read : (b : ℕ) (bytes : List ℕ) → IsRead (mark_at b bytes).0
unfolding mark_at
mark_read b bytes =
    let e : Bool = second_is is_equals bytes in
    let l : Sized = cond e (token.Sign sign.AtMost, 2) (token.Sign sign.Less, 1) in
    let g : Sized = cond e (token.Sign sign.AtLeast, 2) (token.Sign sign.Greater, 1) in
    let i : Sized = cond (b == 33 && e) (token.Sign sign.NotEqual, 2) (token.Bad, 1) in
    let j : Sized = cond (b == 62) g i in
    let k : Sized = cond (b == 60) l j in
    let m : Sized = cond (b == 61) (token.Sign sign.Equal, 1) k in
    let n : Sized = cond (b == 46) (token.Dot, 1) m in
    let o : Sized = cond (b == 44) (token.Comma, 1) n in
    let p : Sized = cond (b == 41) (token.Close, 1) o in
    nothing (cond (b == 40) (token.Open, 1) p).0 (
    nothing_sized (b == 40) (token.Open, 1) p refl (
    nothing_sized (b == 41) (token.Close, 1) o refl (
    nothing_sized (b == 44) (token.Comma, 1) n refl (
    nothing_sized (b == 46) (token.Dot, 1) m refl (
    nothing_sized (b == 61) (token.Sign sign.Equal, 1) k refl (
    nothing_sized (b == 60) l j (nothing_sized e (token.Sign sign.AtMost, 2) (token.Sign sign.Less, 1) refl refl) (
    nothing_sized (b == 62) g i (nothing_sized e (token.Sign sign.AtLeast, 2) (token.Sign sign.Greater, 1) refl refl) (
    nothing_sized (b == 33 && e) (token.Sign sign.NotEqual, 2) (token.Bad, 1) refl refl))))))))

front_read : (b : ℕ) (bytes : List ℕ) → IsRead (front_at b bytes).0
unfolding front_at
front_read b bytes =
    let m : Sized = mark_at b bytes in
    let n : Sized = as_name (quoted 34 (drop 1 bytes)) in
    let t : Sized = as_text (quoted 39 (drop 1 bytes)) in
    let i : Sized = cond (b == 34) n m in
    let j : Sized = cond (b == 39) t i in
    let k : Sized = cond (begins_minus b bytes) (digits_at true 1 (drop 1 bytes)) j in
    let l : Sized = cond (is_digit b) (digits_at false 0 bytes) k in
    let w : Sized = cond (is_letter b) (word_at bytes) l in
    let x : Sized = as_bytes (hex_from [] 2 (drop 2 bytes)) in
    either_sized (begins_hex b bytes) x w (bytes_of_read (hex_from [] 2 (drop 2 bytes))
    (hex_from_read [] 2 (drop 2 bytes) tt)) (
    either_sized (is_letter b) (word_at bytes) l (word_read (take (run_from is_name_byte 0 bytes) bytes)) (
    either_sized (is_digit b) (digits_at false 0 bytes) k
    (number_of_read false (magnitude_from 0 (take (run_from is_digit 0 bytes) bytes))) (
    either_sized (begins_minus b bytes) (digits_at true 1 (drop 1 bytes)) j
    (number_of_read true (magnitude_from 0 (take (run_from is_digit 0 (drop 1 bytes)) (drop 1 bytes)))) (
    either_sized (b == 39) t i (quoted_read (quoted_from 39 [] 1 (drop 1 bytes))).0 (
    either_sized (b == 34) n m (quoted_read (quoted_from 34 [] 1 (drop 1 bytes))).1 (mark_read b bytes))))))

abbrev pub AllRead : List Token → Type 0
AllRead [] = Unit {0}
AllRead (t ∷ ts) = IsRead t × AllRead ts

all_if : (t : Bool) (xs ys : List Token) → AllRead xs → AllRead ys → AllRead (cond t xs ys)
all_if true xs ys h k = h
all_if false xs ys h k = k

-- the tokens of any bytes
pub lexed_read : (n : ℕ) (bs : List ℕ) → AllRead (lexed n bs)
unfolding lexed
lexed_read zero [] = tt
lexed_read (suc n) [] = tt
lexed_read (suc n) (b ∷ bs) = lexed_read n bs
lexed_read zero (b ∷ bs) =
    let f : Sized = front_at b (b ∷ bs) in
    all_if (is_separator b) (lexed 0 bs) (f.0 ∷ lexed (f.1 - 1) bs) (lexed_read 0 bs) (
      front_read b (b ∷ bs),
      lexed_read
          (f.1 - 1) bs,
    )
