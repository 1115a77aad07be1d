-- What the bytes of a filter's text are as tokens.
use Rattle.std.proofs.Common.{◌≡◌, ℕ, zero, suc, ◌+◌, ◌-◌, ◌==◌, Bool, true, false, not, cond, ◌&&◌, ◌||◌, List, []}
use Rattle.std.proofs.Common.{◌∷◌, ◌++◌, length, Option, Some, refl, sym, ◌∙◌, append_assoc, arith}
use Rattle.std.specs.Prelude.{codes}
use Rattle.std.proofs.lemmas.Bool.{eq-eqb, eqb-true}
use Rattle.std.proofs.lemmas.List.{append-nil, length-append}
use Rattle.std.specs.Str.{bytes_eq, is_utf8}
use Rattle.ice_filter.specs.declared.token.Token.{Token}
use Rattle.ice_filter.specs.declared.token.Token.TheVariants as token
use Rattle.ice_filter.specs.Lexing.{is_separator, is_name_byte, run_from, word_of, quoted_from, quoted, front_at}
use Rattle.ice_filter.specs.Lexing.{tokens_from}
use Rattle.ice_filter.specs.Grammar.{words}
use Rattle.ice_filter.specs.Texts.{doubled, in_quotes, is_word}

-- the tokens without their offsets
unfoldable pub lexed : ℕ → List ℕ → List Token
lexed skip [] = []
lexed (suc n) (b ∷ bs) = lexed n bs
lexed zero (b ∷ bs) = cond (is_separator b) (lexed 0 bs) ((front_at b (b ∷ bs)).0 ∷ lexed ((front_at b (b ∷ bs)).1 - 1)
    bs)

words_if : (t : Bool) (xs ys : List (ℕ × Token)) → words (cond t xs ys) ≡ cond t (words xs) (words ys)
words_if true xs ys = refl
words_if false xs ys = refl

pub words_lexed : (at n : ℕ) (bs : List ℕ) → words (tokens_from at n bs) ≡ lexed n bs
unfolding lexed tokens_from
words_lexed at zero [] = refl
words_lexed at (suc n) [] = refl
words_lexed at (suc n) (b ∷ bs) = words_lexed (at + 1) n bs
words_lexed at zero (b ∷ bs) =
    let f = front_at b (b ∷ bs) in
    words_if (is_separator b) (tokens_from (at + 1) 0 bs) ((at, f.0) ∷ tokens_from (at + 1) (f.1 - 1) bs)
    ∙ rw (words_lexed (at + 1) 0 bs, words_lexed (at + 1) (f.1 - 1) bs) refl

past : (t rest : List ℕ) → lexed (length t) (t ++ rest) ≡ lexed 0 rest
unfolding lexed
past [] rest = refl
past (b ∷ t) rest = past t rest

-- a token in front, which takes the byte and those behind it
pub token_front : (b : ℕ) (bs rest : List ℕ) (t : Token) → is_separator b ≡ false
    → front_at b (b ∷ (bs ++ rest)) ≡ (t, suc (length bs)) → lexed 0 (b ∷ (bs ++ rest)) ≡ t ∷ lexed 0 rest
unfolding lexed
token_front b bs rest t h e =
    let less : suc (length bs) - 1 ≡ length bs = omega arith in
    rw (h, e, less, past bs rest) refl

-- ---- where a token ends

-- what may follow a name, a number or a word: nothing, a blank, or a mark
pub data Stop : Type 0 where
  end : Stop
  blank : List ℕ → Stop
  close : List ℕ → Stop
  comma : List ℕ → Stop
  dot : List ℕ → Stop

abbrev pub after : Stop → List ℕ
after end = []
after (blank bs) = 32 ∷ bs
after (close bs) = 41 ∷ bs
after (comma bs) = 44 ∷ bs
after (dot bs) = 46 ∷ bs

-- the bytes are these tokens, where a stop follows
abbrev pub Lexes : List ℕ → List Token → Type 0
Lexes bs ts = (s : Stop) → lexed 0 (bs ++ after s) ≡ ts ++ lexed 0 (after s)

-- the bytes are these tokens, whatever follows
abbrev pub LexesAlways : List ℕ → List Token → Type 0
LexesAlways bs ts = (rest : List ℕ) → lexed 0 (bs ++ rest) ≡ ts ++ lexed 0 rest

-- the bytes, and a stop behind them, are a stop
abbrev pub IsStop : List ℕ → Type 0
IsStop bs = (s : Stop) → (r : Stop) × (bs ++ after s ≡ after r)

pub lexes_more : (a b : List ℕ) (ts us : List Token) → Lexes a ts → IsStop b → Lexes b us → Lexes (a ++ b) (ts ++ us)
lexes_more a b ts us h k l s =
    rw (append_assoc a b (after s), append_assoc ts us (lexed 0 (after s)), (k s).1, h (k s).0, ← (k s).1, l s) refl

pub lexes_behind : (a b : List ℕ) (ts us : List Token) → LexesAlways a ts → Lexes b us → Lexes (a ++ b) (ts ++ us)
lexes_behind a b ts us h l s = rw (
  append_assoc a b (after s),
  append_assoc ts us (lexed 0 (after s)),
  h (b ++ after s),
  l s,
) refl

pub lexes_always : (a : List ℕ) (ts : List Token) → LexesAlways a ts → Lexes a ts
lexes_always a ts h s = h (after s)

-- ---- quotes

-- no stop is this byte
abbrev pub IsApart : ℕ → Type 0
IsApart q = ((32 == q) ≡ false) × ((41 == q) ≡ false) × ((44 == q) ≡ false) × ((46 == q) ≡ false)

plain : (q n b : ℕ) (text bs : List ℕ) → (b == q) ≡ false
    → quoted_from q text n (b ∷ bs) ≡ quoted_from q (text ++ b ∷ []) (n + 1) bs
unfolding quoted_from
plain q n b text [] h = rw h refl
plain q n b text (c ∷ bs) h = rw h refl

closing : (q n : ℕ) (text : List ℕ) (s : Stop) → IsApart q → quoted_from q text n (q ∷ after s) ≡ Some (text, n + 1)
unfolding quoted_from
closing q n text end h = rw (eq-eqb q q refl) refl
closing q n text (blank bs) h = rw (eq-eqb q q refl, h.0) refl
closing q n text (close bs) h = rw (eq-eqb q q refl, h.1) refl
closing q n text (comma bs) h = rw (eq-eqb q q refl, h.2) refl
closing q n text (dot bs) h = rw (eq-eqb q q refl, h.3) refl

twice : (q n : ℕ) (text bs : List ℕ) → quoted_from q text n (q ∷ q ∷ bs) ≡ quoted_from q (text ++ q ∷ []) (n + 2) bs
unfolding quoted_from
twice q n text bs = rw (eq-eqb q q refl) refl

abbrev Read : ℕ → List ℕ → ℕ → List ℕ → ℕ → Option (List ℕ × ℕ)
Read q text n bs m = Some (text ++ bs, n + (m + 1))

undoubled_more : (q n b : ℕ) (text bs : List ℕ) (s : Stop) (t : Bool) → (b == q) ≡ t
    → ((k : ℕ) (front : List ℕ) → quoted_from q front k (doubled q bs ++ q ∷ after s) ≡ Read q front k bs
    (length (doubled q bs)))
    → quoted_from q text n (doubled q (b ∷ bs) ++ q ∷ after s) ≡ Read q text n (b ∷ bs) (length (doubled q (b ∷ bs)))
unfolding doubled
undoubled_more q n b text bs s true e later =
    let is : b ≡ q = eqb-true b q e in
    let count : n + 2 + (length (doubled q bs) + 1) ≡ n + (suc (suc (length (doubled q bs))) + 1) = omega arith in
    rw e (twice q n text (doubled q bs ++ q ∷ after s) ∙ later (n + 2) (text ++ q ∷ []) ∙ rw (
      append_assoc text (q ∷ [])
          bs,
      count,
      is,
    ) refl)
undoubled_more q n b text bs s false e later =
    let count : n + 1 + (length (doubled q bs) + 1) ≡ n + (suc (length (doubled q bs)) + 1) = omega arith in
    rw e (plain q n b text (doubled q bs ++ q ∷ after s) e ∙ later (n + 1) (text ++ b ∷ []) ∙ rw
    (append_assoc text (b ∷ []) bs, count) refl)

undoubled : (q n : ℕ) (text bs : List ℕ) (s : Stop) → IsApart q
    → quoted_from q text n (doubled q bs ++ q ∷ after s) ≡ Read q text n bs (length (doubled q bs))
unfolding doubled
undoubled q n text [] s h = closing q n text s h ∙ rw (append-nil text) refl
undoubled q n text (b ∷ bs) s h = undoubled_more q n b text bs s (b == q) refl (λ k front. undoubled q k front bs s h)

-- what stands between the quotes, and how many bytes
between : (q : ℕ) (bs : List ℕ) (s : Stop) → IsApart q → is_utf8 bs ≡ true
    → quoted q ((doubled q bs ++ q ∷ []) ++ after s) ≡ Some (bs, suc (length (doubled q bs ++ q ∷ [])))
between q bs s h utf =
    let count : 1 + (length (doubled q bs) + 1) ≡ suc (length (doubled q bs ++ q ∷ [])) =
    omega (arith, length-append (doubled q bs) (q ∷ [])) in
    rw (append_assoc (doubled q bs) (q ∷ []) (after s), undoubled q 1 [] bs s h, utf, count) refl

pub text_lexed : (bs : List ℕ) → is_utf8 bs ≡ true → Lexes (in_quotes 39 bs) (token.Text bs ∷ [])
unfolding front_at
text_lexed bs utf s = token_front 39 (doubled 39 bs ++ 39 ∷ []) (after s) (token.Text bs) refl
    (rw (between 39 bs s (refl, refl, refl, refl) utf) refl)

pub quoted_name : (bs : List ℕ) → is_utf8 bs ≡ true → Lexes (in_quotes 34 bs) (token.Name bs ∷ [])
unfolding front_at
quoted_name bs utf s = token_front 34 (doubled 34 bs ++ 34 ∷ []) (after s) (token.Name bs) refl
    (rw (between 34 bs s (refl, refl, refl, refl) utf) refl)

-- ---- names

pub and_parts : (a b : Bool) → (a && b) ≡ true → (a ≡ true) × (b ≡ true)
and_parts true b h = (refl, h)
and_parts false b h = absurd (cc)

or_parts : (a b : Bool) → (a || b) ≡ false → (a ≡ false) × (b ≡ false)
or_parts true b h = absurd (cc)
or_parts false b h = (refl, h)

pub not_false : (b : Bool) → not b ≡ true → b ≡ false
not_false true h = absurd (cc)
not_false false h = refl

over_one : (p : ℕ → Bool) (n x : ℕ) (xs rest : List ℕ) (t : Bool) → p x ≡ t
    → (run_from p (n + 1) xs ≡ n + 1 + length xs → run_from p (n + 1) (xs ++ rest) ≡ run_from p (n + 1 + length xs)
    rest)
    → run_from p n (x ∷ xs) ≡ n + suc (length xs) → run_from p n (x ∷ (xs ++ rest)) ≡ run_from p (n + suc (length xs))
    rest
unfolding run_from
over_one p n x xs rest true e later h =
    let same : n + 1 + length xs ≡ n + suc (length xs) = omega arith in
    rw e (later (rw e at h ∙ sym same) ∙ rw same refl)
over_one p n x xs rest false e later h = let no : n ≡ n + suc (length xs) = rw e at h in absurd (omega arith)

-- a run goes on behind bytes that all pass
pub run_over : (p : ℕ → Bool) (n : ℕ) (xs rest : List ℕ) → run_from p n xs ≡ n + length xs
    → run_from p n (xs ++ rest) ≡ run_from p (n + length xs) rest
unfolding run_from
run_over p n [] rest h = let e : n + 0 ≡ n = omega arith in rw e refl
run_over p n (x ∷ xs) rest h = over_one p n x xs rest (p x) refl (run_over p (n + 1) xs rest) h

-- none of ten
abbrev None_of : Bool → Bool → Bool → Bool → Bool → Bool → Bool → Bool → Bool → Bool → Type 0
None_of a b c d e f g h i j = ((a ≡ false) × (b ≡ false) × (c ≡ false) × (d ≡ false) × (e ≡ false)) ×
    ((f ≡ false) × (g ≡ false) × (h ≡ false) × (i ≡ false) × (j ≡ false))

none_of : (a b c d e f g h i j : Bool) → (a || b || c || d || e || f || g || h || i || j) ≡ false
    → None_of a b c d e f g h i j
none_of a b c d e f g h i j x =
    let k = or_parts (a || b || c || d || e || f || g || h || i) j x in
    let l = or_parts (a || b || c || d || e || f || g || h) i k.0 in
    let m = or_parts (a || b || c || d || e || f || g) h l.0 in
    let n = or_parts (a || b || c || d || e || f) g m.0 in
    let o = or_parts (a || b || c || d || e) f n.0 in
    let p = or_parts (a || b || c || d) e o.0 in
    let q = or_parts (a || b || c) d p.0 in
    let r = or_parts (a || b) c q.0 in
    let s = or_parts a b r.0 in
    ((s.0, s.1, r.1, q.1, p.1), (o.1, n.1, m.1, l.1, k.1))

pub word_is : (name : List ℕ) → is_word name ≡ false → is_utf8 name ≡ true → word_of name ≡ token.Name name
unfolding is_word word_of
word_is name h utf =
    let t : List ℕ → Bool = λ w. bytes_eq name w in
    let no = none_of (t (codes "and")) (t (codes "or")) (t (codes "not")) (t (codes "in")) (t (codes "is"))
    (t (codes "null")) (t (codes "starts")) (t (codes "with")) (t (codes "true")) (t (codes "false")) h in
    rw (no.0.0, no.0.1, no.0.2, no.0.3, no.0.4, no.1.0, no.1.1, no.1.2, no.1.3, no.1.4, utf) refl

run_stops : (n : ℕ) (s : Stop) → run_from is_name_byte n (after s) ≡ n
unfolding run_from
run_stops n end = refl
run_stops n (blank bs) = refl
run_stops n (close bs) = refl
run_stops n (comma bs) = refl
run_stops n (dot bs) = refl

pub whole : (name : List ℕ) (s : Stop) → run_from is_name_byte 0 name ≡ length name
    → run_from is_name_byte 0 (name ++ after s) ≡ length name
whole name s h = run_over is_name_byte 0 name (after s) (h ∙ omega arith) ∙ run_stops (0 + length name) s ∙ omega arith
