-- Texts and names in quotes.
use Rattle.std.proofs.Common.{◌≡◌, ℕ, suc, ◌+◌, ◌<◌, ◌==◌, Bool, true, false, List, [], ◌∷◌, ◌++◌, length, Option, Some}
use Rattle.std.proofs.Common.{None, refl, sym, ap, ◌∙◌, inr, append_assoc, arith}
use Rattle.std.specs.Str.{IsUtf8, is_utf8}
use Rattle.std.proofs.lemmas.Bool.{eq-eqb, eqb-true}
use Rattle.std.proofs.lemmas.List.{append-nil, length-append}
use Rattle.std.proofs.lemmas.Str.{IsUtf8-append, IsUtf8-from_ascii, IsUtf8-from_is_utf8, is_utf8-from_IsUtf8}
use Rattle.std.proofs.lemmas.Str.Ascii.{IsAscii-nil, IsAscii-cons}
use Rattle.ice_filter.specs.declared.token.Token.TheVariants as token
use Rattle.ice_filter.specs.Lexing.{quoted_from, quoted, text_of, as_text, as_name, front_at}
use Rattle.ice_filter.specs.Texts.{doubled, in_quotes}
use Rattle.ice_filter_laws.proofs.Passing.{Stops}
use Rattle.ice_filter_laws.proofs.Reading.{Reading, IsFound}

abbrev pub is_quote_of : ℕ → ℕ → Bool
is_quote_of q b = b == q

-- ---- from a text to its quotes

closing : (q n : ℕ) (text rest : List ℕ) → Stops (is_quote_of q) rest
    → quoted_from q text n (q ∷ rest) ≡ Some (text, n + 1)
unfolding quoted_from
closing q n text [] h = rw (eq-eqb q q refl) refl
closing q n text (c ∷ cs) h = rw (eq-eqb q q refl, h) refl

plain : (q n b : ℕ) (text bs : List ℕ) → (b == q) ≡ false
    → quoted_from q text n (b ∷ bs) ≡ quoted_from q (text ++ b ∷ []) (n + 1) bs
unfolding quoted_from
plain q n b text [] h = rw h refl
plain q n b text (c ∷ bs) h = rw h refl

twice : (q n : ℕ) (text bs : List ℕ) → quoted_from q text n (q ∷ q ∷ bs) ≡ quoted_from q (text ++ q ∷ []) (n + 2) bs
unfolding quoted_from
twice q n text bs = rw (eq-eqb q q refl) refl

abbrev Read : ℕ → List ℕ → ℕ → List ℕ → ℕ → Option (List ℕ × ℕ)
Read q text n bs m = Some (text ++ bs, n + (m + 1))

undoubled_more : (q n b : ℕ) (text bs rest : List ℕ) (t : Bool) → (b == q) ≡ t
    → ((k : ℕ) (front : List ℕ) → quoted_from q front k (doubled q bs ++ q ∷ rest) ≡ Read q front k bs
    (length (doubled q bs)))
    → quoted_from q text n (doubled q (b ∷ bs) ++ q ∷ rest) ≡ Read q text n (b ∷ bs) (length (doubled q (b ∷ bs)))
unfolding doubled
undoubled_more q n b text bs rest true e later =
    let same : b ≡ q = eqb-true b q e in
    let count : n + 2 + (length (doubled q bs) + 1) ≡ n + (suc (suc (length (doubled q bs))) + 1) = omega arith in
    rw e (twice q n text (doubled q bs ++ q ∷ rest) ∙ later (n + 2) (text ++ q ∷ []) ∙ rw (
      append_assoc text (q ∷ []) bs,
      count,
      same,
    ) refl)
undoubled_more q n b text bs rest false e later =
    let count : n + 1 + (length (doubled q bs) + 1) ≡ n + (suc (length (doubled q bs)) + 1) = omega arith in
    rw e (plain q n b text (doubled q bs ++ q ∷ rest) e ∙ later (n + 1) (text ++ b ∷ []) ∙ rw
    (append_assoc text (b ∷ []) bs, count) refl)

undoubled : (q n : ℕ) (text bs rest : List ℕ) → Stops (is_quote_of q) rest
    → quoted_from q text n (doubled q bs ++ q ∷ rest) ≡ Read q text n bs (length (doubled q bs))
unfolding doubled
undoubled q n text [] rest h = closing q n text rest h ∙ rw (append-nil text) refl
undoubled q n text (b ∷ bs) rest h =
    undoubled_more q n b text bs rest (b == q) refl (λ k front. undoubled q k front bs rest h)

-- what stands between the quotes, and how many bytes
between : (q : ℕ) (text rest : List ℕ) → Stops (is_quote_of q) rest → is_utf8 text ≡ true
    → quoted q ((doubled q text ++ q ∷ []) ++ rest) ≡ Some (text, suc (length (doubled q text ++ q ∷ [])))
between q text rest h utf =
    let count : 1 + (length (doubled q text) + 1) ≡ suc (length (doubled q text ++ q ∷ [])) =
    omega (arith, length-append (doubled q text) (q ∷ [])) in
    rw (append_assoc (doubled q text) (q ∷ []) rest, undoubled q 1 [] text rest h, utf, count) refl

doubled_and : (q : ℕ) (text : List ℕ) (t : Bool) (b : ℕ) → (b == q) ≡ t
    → doubled q (text ++ q ∷ []) ≡ doubled q text ++ q ∷ q ∷ []
    → doubled q (b ∷ (text ++ q ∷ [])) ≡ doubled q (b ∷ text) ++ q ∷ q ∷ []
unfolding doubled
doubled_and q text true b e h = rw (e, h) refl
doubled_and q text false b e h = rw (e, h) refl

doubled_last : (q : ℕ) (text : List ℕ) → doubled q (text ++ q ∷ []) ≡ doubled q text ++ q ∷ q ∷ []
unfolding doubled
doubled_last q [] = rw (eq-eqb q q refl) refl
doubled_last q (b ∷ bs) = doubled_and q bs (b == q) b refl (doubled_last q bs)

-- a text in quotes with two quotes more is the text with one more
quotes_go_on : (q next : ℕ) (text : List ℕ) → (next == q) ≡ true
    → in_quotes q text ++ next ∷ q ∷ [] ≡ in_quotes q (text ++ q ∷ [])
quotes_go_on q next text e = rw (
  eqb-true next q e,
  doubled_last q text,
  append_assoc (doubled q text) (q ∷ []) (q ∷ q ∷ []),
  append_assoc (doubled q text) (q ∷ q ∷ []) (q ∷ []),
) refl

utf8_and : (q : ℕ) (text : List ℕ) → q < 128 → IsUtf8 text → IsUtf8 (text ++ q ∷ [])
utf8_and q text small h =
    IsUtf8-append text (q ∷ []) h (IsUtf8-from_ascii (q ∷ []) (IsAscii-cons q [] small IsAscii-nil))

pub text_reading : (text : List ℕ) → IsUtf8 text → Reading (is_quote_of 39) (in_quotes 39 text) (token.Text text)
unfolding front_at
text_reading text h = record {
  read = λ rest s.
      let e : front_at 39 (in_quotes 39 text ++ rest) ≡ (token.Text text, length (in_quotes 39 text)) = rw
      (between 39 text rest s (is_utf8-from_IsUtf8 text h)) refl in
      (refl, ap (λ x. x.1) e, λ f. ap (λ x. x.0) e);
  longer = λ next rest e.
      (39 ∷ [], token.Text (text ++ 39 ∷ []), (utf8_and 39 text (omega arith) h, quotes_go_on 39 next text e));
}

pub name_reading : (text : List ℕ) → IsUtf8 text → Reading (is_quote_of 34) (in_quotes 34 text) (token.Name text)
unfolding front_at
name_reading text h = record {
  read = λ rest s.
      let e : front_at 34 (in_quotes 34 text ++ rest) ≡ (token.Name text, length (in_quotes 34 text)) = rw
      (between 34 text rest s (is_utf8-from_IsUtf8 text h)) refl in
      (refl, ap (λ x. x.1) e, λ f. ap (λ x. x.0) e);
  longer = λ next rest e.
      (34 ∷ [], token.Name (text ++ 34 ∷ []), inr (utf8_and 34 text (omega arith) h, quotes_go_on 34 next text e));
}

-- ---- from quotes to the text

record IsQuoted (q : ℕ) (text : List ℕ) (n : ℕ) (bs : List ℕ) (x : List ℕ × ℕ) : Type 0 where
  inside : List ℕ
  rest : List ℕ
  split : bs ≡ doubled q inside ++ q ∷ rest
  whole : x.0 ≡ text ++ inside
  size : x.1 ≡ n + (length (doubled q inside) + 1)
  stops : Stops (is_quote_of q) rest

ends_with : (q n b : ℕ) (text bs : List ℕ) (x : List ℕ × ℕ) → (b == q) ≡ true → Stops (is_quote_of q) bs
    → Some (text, n + 1) ≡ Some x → IsQuoted q text n (b ∷ bs) x
unfolding doubled
ends_with q n b text bs x e s h =
    let same : (text, n + 1) ≡ x = cc in
    record {
      inside = [];
      rest = bs;
      split = ap (λ z. z ∷ bs) (eqb-true b q e);
      whole = sym (ap (λ z. z.0) same) ∙ sym (append-nil text);
      size = sym (ap (λ z. z.1) same) ∙ omega arith;
      stops = s;
    }

one_more : (q n b c : ℕ) (text bs : List ℕ) (x : List ℕ × ℕ) → (b == q) ≡ true → (c == q) ≡ true
    → IsQuoted q (text ++ q ∷ []) (n + 2) bs x → IsQuoted q text n (b ∷ c ∷ bs) x
unfolding doubled
one_more q n b c text bs x e f h =
    let first : b ≡ q = eqb-true b q e in
    let second : c ≡ q = eqb-true c q f in
    record {
      inside = q ∷ h.inside;
      rest = h.rest;
      split = rw (eq-eqb q q refl, first, second) (ap (λ z. q ∷ q ∷ z) h.split);
      whole = h.whole ∙ append_assoc text (q ∷ []) h.inside;
      size = rw (eq-eqb q q refl) (h.size ∙ omega arith);
      stops = h.stops;
    }

byte_more : (q n b : ℕ) (text bs : List ℕ) (x : List ℕ × ℕ) → (b == q) ≡ false
    → IsQuoted q (text ++ b ∷ []) (n + 1) bs x → IsQuoted q text n (b ∷ bs) x
unfolding doubled
byte_more q n b text bs x e h = record {
  inside = b ∷ h.inside;
  rest = h.rest;
  split = rw e (ap (λ z. b ∷ z) h.split);
  whole = h.whole ∙ append_assoc text (b ∷ []) h.inside;
  size = rw e (h.size ∙ omega arith);
  stops = h.stops;
}

one_by : (q n b : ℕ) (text : List ℕ) (x : List ℕ × ℕ) (t : Bool) → (b == q) ≡ t
    → quoted_from q text n (b ∷ []) ≡ Some x → IsQuoted q text n (b ∷ []) x
unfolding quoted_from
one_by q n b text x true e h = ends_with q n b text [] x e tt (rw e at h)
one_by q n b text x false e h = let absent : None ≡ Some x = rw e at h in absurd (cc)

two_by : (q n b c : ℕ) (text bs : List ℕ) (x : List ℕ × ℕ) (t u : Bool) → (b == q) ≡ t → (c == q) ≡ u
    → ((k : ℕ) (front : List ℕ) → quoted_from q front k bs ≡ Some x → IsQuoted q front k bs x)
    → ((k : ℕ) (front : List ℕ) → quoted_from q front k (c ∷ bs) ≡ Some x → IsQuoted q front k (c ∷ bs) x)
    → quoted_from q text n (b ∷ c ∷ bs) ≡ Some x → IsQuoted q text n (b ∷ c ∷ bs) x
unfolding quoted_from
two_by q n b c text bs x true true e f behind later h =
    one_more q n b c text bs x e f (behind (n + 2) (text ++ q ∷ []) (rw (e, f) at h))
two_by q n b c text bs x true false e f behind later h = ends_with q n b text (c ∷ bs) x e f (rw (e, f) at h)
two_by q n b c text bs x false u e f behind later h =
    byte_more q n b text (c ∷ bs) x e (later (n + 1) (text ++ b ∷ []) (rw e at h))

is_quoted : (q n : ℕ) (text bs : List ℕ) (x : List ℕ × ℕ) → quoted_from q text n bs ≡ Some x
    → IsQuoted q text n bs x
unfolding quoted_from
is_quoted q n text [] x h = absurd (cc)
is_quoted q n text (b ∷ []) x h = one_by q n b text x (b == q) refl h
is_quoted q n text (b ∷ c ∷ bs) x h = two_by q n b c text bs x (b == q) (c == q) refl refl
    (λ k front e. is_quoted q k front bs x e) (λ k front e. is_quoted q k front (c ∷ bs) x e) h

abbrev ReadWhole : ℕ → List ℕ → List ℕ × ℕ → Type 0
ReadWhole q bs x = (rest : List ℕ) × (q ∷ bs ≡ in_quotes q x.0 ++ rest) × (x.1 ≡ length (in_quotes q x.0))
    × Stops (is_quote_of q) rest

whole_of : (q : ℕ) (bs inside rest : List ℕ) (x : List ℕ × ℕ) → bs ≡ doubled q inside ++ q ∷ rest → x.0 ≡ inside
    → x.1 ≡ 1 + (length (doubled q inside) + 1) → Stops (is_quote_of q) rest → ReadWhole q bs x
whole_of q bs inside rest x split whole size stops =
    let count : 1 + (length (doubled q inside) + 1) ≡ length (in_quotes q inside) =
    omega (arith, length-append (doubled q inside) (q ∷ [])) in (
      rest,
      rw (whole, append_assoc (doubled q inside) (q ∷ []) rest) (ap (λ z. q ∷ z) split),
      rw whole (size ∙ count),
      stops,
    )

read_whole : (q : ℕ) (bs : List ℕ) (x : List ℕ × ℕ) → quoted_from q [] 1 bs ≡ Some x → ReadWhole q bs x
read_whole q bs x h =
    let r = is_quoted q 1 [] bs x h in
    whole_of q bs r.inside r.rest x r.split r.whole r.size r.stops

text_utf : (bs : List ℕ) (x : List ℕ × ℕ) (t : Bool) → is_utf8 x.0 ≡ t → quoted_from 39 [] 1 bs ≡ Some x
    → ((as_text (text_of (Some x))).0 ≡ token.Bad → ⊥) → IsFound (39 ∷ bs) (as_text (text_of (Some x)))
text_utf bs x false e h good = absurd (good (rw e refl))
text_utf bs x true e h good =
    let r = read_whole 39 bs x h in
    let utf = IsUtf8-from_is_utf8 x.0 e in
    rw e (record {
      spelling = in_quotes 39 x.0;
      rest = r.0;
      split = r.1;
      size = r.2;
      spelled = (utf, refl);
      fits = tt;
      on = is_quote_of 39;
      reading = text_reading x.0 utf;
      stops = r.3;
    })

text_by : (bs : List ℕ) (r : Option (List ℕ × ℕ)) → quoted_from 39 [] 1 bs ≡ r
    → ((as_text (text_of r)).0 ≡ token.Bad → ⊥) → IsFound (39 ∷ bs) (as_text (text_of r))
text_by bs None h good = absurd (good refl)
text_by bs (Some x) h good = text_utf bs x (is_utf8 x.0) refl h good

pub text_found : (bs : List ℕ) → ((as_text (quoted 39 bs)).0 ≡ token.Bad → ⊥)
    → IsFound (39 ∷ bs) (as_text (quoted 39 bs))
text_found bs good = text_by bs (quoted_from 39 [] 1 bs) refl good

name_utf : (bs : List ℕ) (x : List ℕ × ℕ) (t : Bool) → is_utf8 x.0 ≡ t → quoted_from 34 [] 1 bs ≡ Some x
    → ((as_name (text_of (Some x))).0 ≡ token.Bad → ⊥) → IsFound (34 ∷ bs) (as_name (text_of (Some x)))
name_utf bs x false e h good = absurd (good (rw e refl))
name_utf bs x true e h good =
    let r = read_whole 34 bs x h in
    let utf = IsUtf8-from_is_utf8 x.0 e in
    rw e (record {
      spelling = in_quotes 34 x.0;
      rest = r.0;
      split = r.1;
      size = r.2;
      spelled = inr (utf, refl);
      fits = tt;
      on = is_quote_of 34;
      reading = name_reading x.0 utf;
      stops = r.3;
    })

name_by : (bs : List ℕ) (r : Option (List ℕ × ℕ)) → quoted_from 34 [] 1 bs ≡ r
    → ((as_name (text_of r)).0 ≡ token.Bad → ⊥) → IsFound (34 ∷ bs) (as_name (text_of r))
name_by bs None h good = absurd (good refl)
name_by bs (Some x) h good = name_utf bs x (is_utf8 x.0) refl h good

pub name_found : (bs : List ℕ) → ((as_name (quoted 34 bs)).0 ≡ token.Bad → ⊥)
    → IsFound (34 ∷ bs) (as_name (quoted 34 bs))
name_found bs good = name_by bs (quoted_from 34 [] 1 bs) refl good
