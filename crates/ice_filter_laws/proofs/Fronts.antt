-- The token in front of bytes is the one that stands there.
use Rattle.std.proofs.Common.{◌≡◌, ℕ, ◌==◌, Bool, true, false, List, [], ◌∷◌, ◌++◌, length, drop, Some}
use Rattle.std.proofs.Common.{refl, sym, ap, subst, ◌∙◌, inl, inr, arith}
use Rattle.std.specs.Prelude.{codes}
use Rattle.std.proofs.lemmas.Bool.{eqb-true, and_parts, false_from_ne_true}
use Rattle.std.proofs.lemmas.List.{append-nil, length-append}
use Rattle.ice_filter.specs.declared.token.Comparison.TheVariants.{Less, AtMost, Greater, AtLeast, Equal, NotEqual}
use Rattle.ice_filter.specs.declared.token.Token.{Token}
use Rattle.ice_filter.specs.declared.token.Token.TheVariants as token
use Rattle.ice_filter.specs.Lexing.{Sized, is_separator, is_letter, is_digit, is_quote, is_equals, hex_from, digits_at}
use Rattle.ice_filter.specs.Lexing.{begins_hex, begins_minus, as_bytes, word_of, front_at}
use Rattle.ice_filter_laws.specs.Spelling.{Spells, Fits}
use Rattle.ice_filter_laws.specs.Lying.{GoesOn, Stands}
use Rattle.ice_filter_laws.proofs.Passing.{Stops}
use Rattle.ice_filter_laws.proofs.Reading.{IsRead, Reading, IsFound, IsFoundIfGood}
use Rattle.ice_filter_laws.proofs.Marks.{no_byte, mark_found, open_read, close_read, comma_read, dot_read, equal_read}
use Rattle.ice_filter_laws.proofs.Marks.{not_equal_read, at_most_read, at_least_read, less_read, greater_read}
use Rattle.ice_filter_laws.proofs.Words.{more_of, IsWord, keyword_reading, plain_reading, word_found}
use Rattle.ice_filter_laws.proofs.Numbers.{number_reading, positive_found, negative_found}
use Rattle.ice_filter_laws.proofs.Quotes.{is_quote_of, text_reading, name_reading, text_found, name_found}
use Rattle.ice_filter_laws.proofs.Hex.{bytes_reading, bytes_found}

-- ---- what is spelled is read

abbrev Known : List ℕ → Token → Type 0
Known s t = (on : ℕ → Bool) × Reading on s t

fixed : (w s : List ℕ) (t : Token) (on : ℕ → Bool) → Reading on w t → Some w ≡ Some s → Known s t
fixed w s t on r e = let same : w ≡ s = cc in (on, subst (λ z. Reading on z t) same r)

word : (w s : List ℕ) (t : Token) → IsWord w → word_of w ≡ t → Some w ≡ Some s → Known s t
word w s t h k e = fixed w s t (more_of w) (keyword_reading w t h k) e

known : (s : List ℕ) (t : Token) → Spells s t → Known s t
unfolding word_of
known s token.Open e = fixed (codes "(") s token.Open no_byte open_read e
known s token.Close e = fixed (codes ")") s token.Close no_byte close_read e
known s token.Comma e = fixed (codes ",") s token.Comma no_byte comma_read e
known s token.Dot e = fixed (codes ".") s token.Dot no_byte dot_read e
known s (token.Sign Less) e = fixed (codes "<") s (token.Sign Less) is_equals less_read e
known s (token.Sign AtMost) e = fixed (codes "<=") s (token.Sign AtMost) no_byte at_most_read e
known s (token.Sign Greater) e = fixed (codes ">") s (token.Sign Greater) is_equals greater_read e
known s (token.Sign AtLeast) e = fixed (codes ">=") s (token.Sign AtLeast) no_byte at_least_read e
known s (token.Sign Equal) e = fixed (codes "=") s (token.Sign Equal) no_byte equal_read e
known s (token.Sign NotEqual) e = fixed (codes "!=") s (token.Sign NotEqual) no_byte not_equal_read e
known s token.And e = word (codes "and") s token.And (refl, (refl, (refl, tt))) refl e
known s token.Or e = word (codes "or") s token.Or (refl, (refl, tt)) refl e
known s token.Not e = word (codes "not") s token.Not (refl, (refl, (refl, tt))) refl e
known s token.In e = word (codes "in") s token.In (refl, (refl, tt)) refl e
known s token.Is e = word (codes "is") s token.Is (refl, (refl, tt)) refl e
known s token.Null e = word (codes "null") s token.Null (refl, (refl, (refl, (refl, tt)))) refl e
known s token.Starts e = word (codes "starts") s token.Starts (refl, (refl, (refl, (refl, (refl, (refl, tt)))))) refl e
known s token.With e = word (codes "with") s token.With (refl, (refl, (refl, (refl, tt)))) refl e
known s (token.Truth true) e = word (codes "true") s (token.Truth true) (refl, (refl, (refl, (refl, tt)))) refl e
known s (token.Truth false) e =
    word (codes "false") s (token.Truth false) (refl, (refl, (refl, (refl, (refl, tt))))) refl e
known s (token.Number z) e = (is_digit, number_reading s z e)
known s (token.Text text) e = (is_quote_of 39, rw e.1 (text_reading text e.0))
known s (token.Bytes bs) e = (no_byte, rw e.2 (bytes_reading e.0 bs e.1))
known s (token.Name name) (inl e) = (more_of name, rw e.1 (plain_reading name e.0))
known s (token.Name name) (inr e) = (is_quote_of 34, rw e.1 (name_reading name e.0))
known s token.Bad e = absurd (cc)

stops : (s rest : List ℕ) (t : Token) (k : Known s t) → (GoesOn s rest → ⊥) → Stops k.0 rest
stops s [] t k h = tt
stops s (c ∷ cs) t k h = false_from_ne_true (k.0 c) (λ e. h (k.1.longer c cs e))

-- the token stands in front, and its spelling begins with no blank
pub record IsInFront (s : List ℕ) (t : Token) (rest : List ℕ) : Type 0 where
  pub first : ℕ
  pub more : List ℕ
  pub split : s ≡ first ∷ more
  pub no_blank : is_separator first ≡ false
  pub front : front_at first (s ++ rest) ≡ (t, length s)

in_front : (s : List ℕ) (t : Token) (rest : List ℕ) → Fits t → IsRead s t rest → IsInFront s t rest
in_front [] t rest f h = absurd h
in_front (b ∷ bs) t rest f h =
    let sized : Token → ℕ → Sized = λ t k. (t, k) in
    let front = front_at b (b ∷ (bs ++ rest)) in
    record {
      first = b;
      more = bs;
      split = refl;
      no_blank = h.0;
      front = ap (λ (k : ℕ). sized front.0 k) h.1 ∙ ap (λ (t : Token). sized t (length (b ∷ bs))) (h.2 f);
    }

pub stands_in_front : (s : List ℕ) (t : Token) (rest : List ℕ) → Stands s t rest → IsInFront s t rest
stands_in_front s t rest h =
    let k = known s t h.spelled in
    in_front s t rest h.fits (k.1.read rest (stops s rest t k h.whole))

-- ---- what is read is spelled

two_sizes : (s back : List ℕ) (c : ℕ) (t u : Token) → IsRead s t (c ∷ back) → IsRead (s ++ c ∷ back) u [] → ⊥
two_sizes [] back c t u h k = h
two_sizes (b ∷ bs) back c t u h k =
    let same : front_at b (b ∷ ((bs ++ c ∷ back) ++ [])) ≡ front_at b (b ∷ (bs ++ c ∷ back)) =
    ap (λ z. front_at b (b ∷ z)) (append-nil (bs ++ c ∷ back)) in
    let sizes : length (b ∷ bs) ≡ length (b ∷ (bs ++ c ∷ back)) =
    sym h.1 ∙ sym (ap (λ z. z.1) same) ∙ k.1 in
    absurd (omega (arith, sizes, length-append bs (c ∷ back)))

not_longer : (s rest : List ℕ) (t : Token) (on : ℕ → Bool) → Reading on s t → Stops on rest → GoesOn s rest → ⊥
not_longer s [] t on r h g = g
not_longer s (c ∷ cs) t on r h (back, u, spelled) =
    two_sizes s back c t u (r.read (c ∷ back) h) ((known (s ++ c ∷ back) u spelled).1.read [] tt)

pub found_stands : (bytes : List ℕ) (x : Sized) (f : IsFound bytes x) → Stands f.spelling x.0 f.rest
found_stands bytes x f = record {
  spelled = f.spelled;
  fits = f.fits;
  whole = not_longer f.spelling f.rest x.0 f.on f.reading f.stops;
}

hex_case : (b : ℕ) (bs : List ℕ) → begins_hex b (b ∷ bs) ≡ true
    → IsFoundIfGood (b ∷ bs) (as_bytes (hex_from [] 2 (drop 2 (b ∷ bs))))
hex_case b [] e good = let h = and_parts (b == 120) false e in absurd (cc)
hex_case b (c ∷ cs) e good =
    let h = and_parts (b == 120) (is_quote c) e in
    rw (eqb-true b 120 h.0, eqb-true c 39 h.1) (bytes_found cs good)

minus_case : (b : ℕ) (bs : List ℕ) → begins_minus b (b ∷ bs) ≡ true
    → IsFoundIfGood (b ∷ bs) (digits_at true 1 (drop 1 (b ∷ bs)))
minus_case b [] e good = let h = and_parts (b == 45) false e in absurd (cc)
minus_case b (d ∷ ds) e good =
    let h = and_parts (b == 45) (is_digit d) e in
    rw (eqb-true b 45 h.0) (negative_found d ds h.1 good)

front_by : (b : ℕ) (bs : List ℕ) (t u v w x y : Bool) → begins_hex b (b ∷ bs) ≡ t → is_letter b ≡ u → is_digit b ≡ v
    → begins_minus b (b ∷ bs) ≡ w → (b == 39) ≡ x → (b == 34) ≡ y → IsFoundIfGood (b ∷ bs) (front_at b (b ∷ bs))
unfolding front_at
front_by b bs true u v w x y et eu ev ew ex ey good = rw et (hex_case b bs et (rw et at good))
front_by b bs false true v w x y et eu ev ew ex ey good = rw (et, eu) (word_found b bs eu et)
front_by b bs false false true w x y et eu ev ew ex ey good =
    rw (et, eu, ev) (positive_found b bs ev (rw (et, eu, ev) at good))
front_by b bs false false false true x y et eu ev ew ex ey good =
    rw (et, eu, ev, ew) (minus_case b bs ew (rw (et, eu, ev, ew) at good))
front_by b bs false false false false true y et eu ev ew ex ey good =
    rw (et, eu, ev, ew, ex) (rw (eqb-true b 39 ex) (text_found bs (rw (et, eu, ev, ew, ex) at good)))
front_by b bs false false false false false true et eu ev ew ex ey good =
    rw (et, eu, ev, ew, ex, ey) (rw (eqb-true b 34 ey) (name_found bs (rw (et, eu, ev, ew, ex, ey) at good)))
front_by b bs false false false false false false et eu ev ew ex ey good =
    rw (et, eu, ev, ew, ex, ey) (mark_found b bs (rw (et, eu, ev, ew, ex, ey) at good))

pub front_found : (b : ℕ) (bs : List ℕ) → IsFoundIfGood (b ∷ bs) (front_at b (b ∷ bs))
front_found b bs = front_by b bs (begins_hex b (b ∷ bs)) (is_letter b) (is_digit b) (begins_minus b (b ∷ bs)) (b == 39)
    (b == 34) refl refl refl refl refl refl
