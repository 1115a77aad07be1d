-- Words and plain names.
use Rattle.std.proofs.Common.{◌≡◌, ℕ, ◌+◌, ◌<◌, ◌==◌, ◌&&◌, ◌||◌, Bool, true, false, List, [], ◌∷◌}
use Rattle.std.proofs.Common.{◌++◌, length, Some, refl, sym, ap, subst, ◌∙◌, inl, inr, arith}
use Rattle.std.specs.Char.{is_ascii_alphanumeric, is_ascii_digit}
use Rattle.std.specs.Prelude.{codes, slice_index, All}
use Rattle.std.specs.Str.{bytes_eq, is_utf8, IsAscii}
use Rattle.std.proofs.lemmas.Bool.{eqb-true, and_parts, or_parts, or_from, and_right}
use Rattle.std.proofs.lemmas.Bool.Decides.{nat_tests}
use Rattle.std.proofs.lemmas.List.Elements.{All-nil, All-cons, All-head, All-tail}
use Rattle.std.proofs.lemmas.Slice.Eq.{bytes_eq-Decides}
use Rattle.std.proofs.lemmas.Str.{is_utf8-from_IsUtf8, IsUtf8-from_ascii}
use Rattle.std.proofs.lemmas.Str.Ascii.{IsAscii-nil, IsAscii-cons}
use Rattle.std.proofs.Math.Seq.{take-append_seam}
use Rattle.ice_filter.specs.declared.token.Comparison.TheVariants.{Less, AtMost, Greater, AtLeast, Equal, NotEqual}
use Rattle.ice_filter.specs.declared.token.Token.{Token}
use Rattle.ice_filter.specs.declared.token.Token.TheVariants as token
use Rattle.ice_filter.specs.Lexing.{is_separator, is_letter, is_name_byte, is_quote, run_from, word_of, word_at}
use Rattle.ice_filter.specs.Lexing.{begins_hex, front_at}
use Rattle.ice_filter_laws.specs.Spelling.{Spells, Fits, spelling_of, IsPlain, IsNameByte}
use Rattle.ice_filter_laws.specs.Lying.{GoesOn}
use Rattle.ice_filter_laws.proofs.Passing.{AllPass, Stops, run_is, run_of, all_pass_append}
use Rattle.ice_filter_laws.proofs.Reading.{IsRead, Reading, IsFound}

letter_no_separator : (b : ℕ) → is_letter b ≡ true → is_separator b ≡ false
letter_no_separator b h = grind (arith, nat_tests)

letter_no_mark : (b q : ℕ) → is_letter q ≡ false → is_letter b ≡ true → b ≡ q → ⊥
letter_no_mark b q other h e =
    let k : true ≡ false = sym h ∙ ap is_letter e ∙ other in
    absurd (cc)

name_byte_no_quote : (b : ℕ) → is_name_byte b ≡ true → is_quote b ≡ false
name_byte_no_quote b h = grind (arith, nat_tests)

name_byte_ascii : (b : ℕ) → is_name_byte b ≡ true → b < 128
name_byte_ascii b h = grind (arith, nat_tests)

letter_name_byte : (b : ℕ) → is_letter b ≡ true → is_name_byte b ≡ true
letter_name_byte b h = rw h refl

names_ascii : (bs : List ℕ) → AllPass is_name_byte bs → IsAscii bs
names_ascii [] h = IsAscii-nil
names_ascii (b ∷ bs) h = IsAscii-cons b bs (name_byte_ascii b h.0) (names_ascii bs h.1)

-- a letter, and then letters and digits
abbrev pub IsWord : List ℕ → Type 0
IsWord [] = ⊥
IsWord (b ∷ bs) = (is_letter b ≡ true) × AllPass is_name_byte bs

word_bytes : (s : List ℕ) → IsWord s → AllPass is_name_byte s
word_bytes [] h = absurd h
word_bytes (b ∷ bs) h = (letter_name_byte b h.0, h.1)

word_utf8 : (s : List ℕ) → IsWord s → is_utf8 s ≡ true
word_utf8 s h = is_utf8-from_IsUtf8 s (IsUtf8-from_ascii s (names_ascii s (word_bytes s h)))

-- ---- which token a word is

no_mark : (q : ℕ) (qs s : List ℕ) → is_letter q ≡ false → IsWord s → Some (q ∷ qs) ≡ Some s → ⊥
no_mark q qs [] other h e = absurd h
no_mark q qs (b ∷ bs) other h e = let same : b ≡ q = cc in letter_no_mark b q other h.0 same

abbrev IsNo : List ℕ → List ℕ → Type 0
IsNo s w = s ≡ w → ⊥

no_some : (w s : List ℕ) → IsNo s w → Some w ≡ Some s → ⊥
no_some w s other e = other (cc)

free_of : (s : List ℕ) → IsWord s → IsNo s (codes "and") → IsNo s (codes "or") → IsNo s (codes "not")
    → IsNo s (codes "in") → IsNo s (codes "is") → IsNo s (codes "null") → IsNo s (codes "starts")
    → IsNo s (codes "with") → IsNo s (codes "true") → IsNo s (codes "false") → (t : Token) → spelling_of t ≡ Some s → ⊥
free_of s h a o n i j u v w x y token.Open e = no_mark 40 [] s refl h e
free_of s h a o n i j u v w x y token.Close e = no_mark 41 [] s refl h e
free_of s h a o n i j u v w x y token.Comma e = no_mark 44 [] s refl h e
free_of s h a o n i j u v w x y token.Dot e = no_mark 46 [] s refl h e
free_of s h a o n i j u v w x y (token.Sign Less) e = no_mark 60 [] s refl h e
free_of s h a o n i j u v w x y (token.Sign AtMost) e = no_mark 60 (61 ∷ []) s refl h e
free_of s h a o n i j u v w x y (token.Sign Greater) e = no_mark 62 [] s refl h e
free_of s h a o n i j u v w x y (token.Sign AtLeast) e = no_mark 62 (61 ∷ []) s refl h e
free_of s h a o n i j u v w x y (token.Sign Equal) e = no_mark 61 [] s refl h e
free_of s h a o n i j u v w x y (token.Sign NotEqual) e = no_mark 33 (61 ∷ []) s refl h e
free_of s h a o n i j u v w x y token.And e = no_some (codes "and") s a e
free_of s h a o n i j u v w x y token.Or e = no_some (codes "or") s o e
free_of s h a o n i j u v w x y token.Not e = no_some (codes "not") s n e
free_of s h a o n i j u v w x y token.In e = no_some (codes "in") s i e
free_of s h a o n i j u v w x y token.Is e = no_some (codes "is") s j e
free_of s h a o n i j u v w x y token.Null e = no_some (codes "null") s u e
free_of s h a o n i j u v w x y token.Starts e = no_some (codes "starts") s v e
free_of s h a o n i j u v w x y token.With e = no_some (codes "with") s w e
free_of s h a o n i j u v w x y (token.Truth true) e = no_some (codes "true") s x e
free_of s h a o n i j u v w x y (token.Truth false) e = no_some (codes "false") s y e
free_of s h a o n i j u v w x y (token.Number z) e = absurd (cc)
free_of s h a o n i j u v w x y (token.Text z) e = absurd (cc)
free_of s h a o n i j u v w x y (token.Bytes z) e = absurd (cc)
free_of s h a o n i j u v w x y (token.Name z) e = absurd (cc)
free_of s h a o n i j u v w x y token.Bad e = absurd (cc)

-- the word spells its token, which fits; where it is no word of the language the token is its name
record IsToken (s : List ℕ) (t : Token) : Type 0 where
  spelled : Spells s t
  fits : Fits t
  named : ((k : Token) → spelling_of k ≡ Some s → ⊥) → t ≡ token.Name s

keyword : (s w : List ℕ) (t : Token) → Fits t → spelling_of t ≡ Some w → (Some w ≡ Some s → Spells s t)
    → bytes_eq s w ≡ true → IsToken s t
keyword s w t f e spells h =
    let same : Some w ≡ Some s = ap Some (sym ((bytes_eq-Decides s w).0 h)) in
    record { spelled = spells same; fits = f; named = λ free. absurd (free t (e ∙ same)) }

differs : (s w : List ℕ) → bytes_eq s w ≡ false → IsNo s w
differs s w h e = let k : true ≡ false = sym ((bytes_eq-Decides s w).1 e) ∙ h in absurd (cc)

first_is : (s : List ℕ) → IsWord s → 0 < length s
first_is [] h = absurd h
first_is (b ∷ bs) h = omega arith

name_byte_by : (b : ℕ) (t : Bool) → is_ascii_alphanumeric b ≡ t → is_name_byte b ≡ true → IsNameByte b
name_byte_by b true e h = inl e
name_byte_by b false e h = inr (grind (arith, nat_tests))

name_byte_is : (b : ℕ) → is_name_byte b ≡ true → IsNameByte b
name_byte_is b h = name_byte_by b (is_ascii_alphanumeric b) refl h

is_name_byte_of : (b : ℕ) → IsNameByte b → is_name_byte b ≡ true
is_name_byte_of b (inl h) = grind (arith, nat_tests)
is_name_byte_of b (inr h) = rw h refl

letter_no_digit : (b : ℕ) → is_letter b ≡ true → is_ascii_digit b ≡ false
letter_no_digit b h = grind (arith, nat_tests)

letter_is : (b : ℕ) → is_name_byte b ≡ true → is_ascii_digit b ≡ false → is_letter b ≡ true
letter_is b h k = grind (arith, nat_tests)

all_name_bytes : (bs : List ℕ) → AllPass is_name_byte bs → All IsNameByte bs
all_name_bytes [] h = All-nil IsNameByte
all_name_bytes (b ∷ bs) h = All-cons IsNameByte b bs (name_byte_is b h.0) (all_name_bytes bs h.1)

all_pass_names : (bs : List ℕ) → All IsNameByte bs → AllPass is_name_byte bs
all_pass_names [] h = tt
all_pass_names (b ∷ bs) h =
    (is_name_byte_of b (All-head IsNameByte b bs h), all_pass_names bs (All-tail IsNameByte b bs h))

no_digit_first : (s : List ℕ) → IsWord s → is_ascii_digit (slice_index s 0) ≡ false
no_digit_first [] h = absurd h
no_digit_first (b ∷ bs) h = letter_no_digit b h.0

plain_word : (s : List ℕ) → IsPlain s → IsWord s
plain_word [] h = absurd (omega (arith, h.some))
plain_word (b ∷ bs) h =
    let all = all_pass_names (b ∷ bs) h.letters in
    (letter_is b all.0 h.first, all.1)

plain_name : (s : List ℕ) → IsWord s → ((t : Token) → spelling_of t ≡ Some s → ⊥) → IsToken s (token.Name s)
plain_name s h free = record {
  spelled = inl (
    record {
      some = first_is s h;
      letters = all_name_bytes s (word_bytes s h);
      first = no_digit_first s h;
      free = free;
    },
    refl,
  );
  fits = tt;
  named = λ f. refl;
}

word_by : (s : List ℕ) (a o n i j u v w x y : Bool) → IsWord s → bytes_eq s (codes "and") ≡ a
    → bytes_eq s (codes "or") ≡ o → bytes_eq s (codes "not") ≡ n → bytes_eq s (codes "in") ≡ i
    → bytes_eq s (codes "is") ≡ j → bytes_eq s (codes "null") ≡ u → bytes_eq s (codes "starts") ≡ v
    → bytes_eq s (codes "with") ≡ w → bytes_eq s (codes "true") ≡ x → bytes_eq s (codes "false") ≡ y
    → IsToken s (word_of s)
unfolding word_of
word_by s true o n i j u v w x y h ea eo en ei ej eu ev ew ex ey =
    rw ea (keyword s (codes "and") token.And tt refl (λ e. e) ea)
word_by s false true n i j u v w x y h ea eo en ei ej eu ev ew ex ey =
    rw (ea, eo) (keyword s (codes "or") token.Or tt refl (λ e. e) eo)
word_by s false false true i j u v w x y h ea eo en ei ej eu ev ew ex ey =
    rw (ea, eo, en) (keyword s (codes "not") token.Not tt refl (λ e. e) en)
word_by s false false false true j u v w x y h ea eo en ei ej eu ev ew ex ey =
    rw (ea, eo, en, ei) (keyword s (codes "in") token.In tt refl (λ e. e) ei)
word_by s false false false false true u v w x y h ea eo en ei ej eu ev ew ex ey =
    rw (ea, eo, en, ei, ej) (keyword s (codes "is") token.Is tt refl (λ e. e) ej)
word_by s false false false false false true v w x y h ea eo en ei ej eu ev ew ex ey =
    rw (ea, eo, en, ei, ej, eu) (keyword s (codes "null") token.Null tt refl (λ e. e) eu)
word_by s false false false false false false true w x y h ea eo en ei ej eu ev ew ex ey =
    rw (ea, eo, en, ei, ej, eu, ev) (keyword s (codes "starts") token.Starts tt refl (λ e. e) ev)
word_by s false false false false false false false true x y h ea eo en ei ej eu ev ew ex ey =
    rw (ea, eo, en, ei, ej, eu, ev, ew) (keyword s (codes "with") token.With tt refl (λ e. e) ew)
word_by s false false false false false false false false true y h ea eo en ei ej eu ev ew ex ey =
    rw (ea, eo, en, ei, ej, eu, ev, ew, ex) (keyword s (codes "true") (token.Truth true) tt refl (λ e. e) ex)
word_by s false false false false false false false false false true h ea eo en ei ej eu ev ew ex ey =
    rw (ea, eo, en, ei, ej, eu, ev, ew, ex, ey) (keyword s (codes "false") (token.Truth false) tt refl (λ e. e) ey)
word_by s false false false false false false false false false false h ea eo en ei ej eu ev ew ex ey =
    rw (ea, eo, en, ei, ej, eu, ev, ew, ex, ey, word_utf8 s h) (plain_name s h (free_of s h (differs s (codes "and") ea)
    (differs s (codes "or") eo) (differs s (codes "not") en) (differs s (codes "in") ei) (differs s (codes "is") ej)
    (differs s (codes "null") eu) (differs s (codes "starts") ev) (differs s (codes "with") ew)
    (differs s (codes "true") ex) (differs s (codes "false") ey)))

word_token : (s : List ℕ) → IsWord s → IsToken s (word_of s)
word_token s h = word_by s (bytes_eq s (codes "and")) (bytes_eq s (codes "or")) (bytes_eq s (codes "not"))
    (bytes_eq s (codes "in")) (bytes_eq s (codes "is")) (bytes_eq s (codes "null")) (bytes_eq s (codes "starts"))
    (bytes_eq s (codes "with")) (bytes_eq s (codes "true")) (bytes_eq s (codes "false")) h refl refl refl refl refl refl
    refl refl refl refl

-- ---- how a word is read

-- an x, which a quote makes bytes
abbrev is_x : List ℕ → Bool
is_x [] = false
is_x (b ∷ []) = b == 120
is_x (b ∷ c ∷ cs) = false

abbrev pub more_of : List ℕ → ℕ → Bool
more_of s next = is_name_byte next || is_x s && is_quote next

no_name_byte : (s : List ℕ) (rest : List ℕ) → Stops (more_of s) rest → Stops is_name_byte rest
no_name_byte s [] h = tt
no_name_byte s (c ∷ cs) h = (or_parts (is_name_byte c) (is_x s && is_quote c) h).0

no_hex : (b : ℕ) (bs rest : List ℕ) → IsWord (b ∷ bs) → Stops (more_of (b ∷ bs)) rest
    → begins_hex b (b ∷ (bs ++ rest)) ≡ false
no_hex b [] [] h k = and_right (b == 120) false refl
no_hex b [] (c ∷ cs) h k = (or_parts (is_name_byte c) (b == 120 && is_quote c) k).1
no_hex b (c ∷ cs) rest h k = and_right (b == 120) (is_quote c) (name_byte_no_quote c h.1.0)

word_size : (s rest : List ℕ) → IsWord s → Stops is_name_byte rest → word_at (s ++ rest) ≡ (word_of s, length s)
word_size s rest h k =
    let count : 0 + length s ≡ length s = omega arith in
    let run : run_from is_name_byte 0 (s ++ rest) ≡ length s =
    run_is is_name_byte 0 s rest (word_bytes s h) k ∙ count in
    rw (run, take-append_seam s rest) refl

word_front : (b : ℕ) (bs rest : List ℕ) → IsWord (b ∷ bs) → Stops (more_of (b ∷ bs)) rest
    → front_at b (b ∷ (bs ++ rest)) ≡ (word_of (b ∷ bs), length (b ∷ bs))
unfolding front_at
word_front b bs rest h k =
    rw (no_hex b bs rest h k, h.0) (word_size (b ∷ bs) rest h (no_name_byte (b ∷ bs) rest k))

word_read : (s rest : List ℕ) → IsWord s → Stops (more_of s) rest → IsRead s (word_of s) rest
word_read [] rest h k = absurd h
word_read (b ∷ bs) rest h k =
    let e = word_front b bs rest h k in
    (letter_no_separator b h.0, ap (λ x. x.1) e, λ f. ap (λ x. x.0) e)

word_and : (s : List ℕ) (c : ℕ) → IsWord s → is_name_byte c ≡ true → IsWord (s ++ c ∷ [])
word_and [] c h k = absurd h
word_and (b ∷ bs) c h k = (h.0, all_pass_append is_name_byte bs (c ∷ []) h.1 (k, tt))

x_is : (s : List ℕ) → is_x s ≡ true → s ≡ 120 ∷ []
x_is [] e = absurd (cc)
x_is (b ∷ []) e = ap (λ x. x ∷ []) (eqb-true b 120 e)
x_is (b ∷ c ∷ cs) e = absurd (cc)

hex_begins : (s : List ℕ) (c : ℕ) (rest : List ℕ) → s ≡ 120 ∷ [] → c ≡ 39 → GoesOn s (c ∷ rest)
hex_begins s c rest e f = (39 ∷ [], token.Bytes [], ([], tt, rw (e, f) refl))

word_longer : (s : List ℕ) (c : ℕ) (rest : List ℕ) (t : Bool) → IsWord s → is_name_byte c ≡ t
    → (t || is_x s && is_quote c) ≡ true → GoesOn s (c ∷ rest)
word_longer s c rest true h e k = ([], word_of (s ++ c ∷ []), (word_token (s ++ c ∷ []) (word_and s c h e)).spelled)
word_longer s c rest false h e k =
    let both = and_parts (is_x s) (is_quote c) k in
    hex_begins s c rest (x_is s both.0) (eqb-true c 39 both.1)

word_reading : (s : List ℕ) → IsWord s → Reading (more_of s) s (word_of s)
word_reading s h = record {
  read = λ rest k. word_read s rest h k;
  longer = λ next rest e. word_longer s next rest (is_name_byte next) h refl e;
}

-- a plain name is read as itself
pub plain_reading : (name : List ℕ) → IsPlain name → Reading (more_of name) name (token.Name name)
plain_reading name h =
    let w = plain_word name h in
    let e : word_of name ≡ token.Name name = (word_token name w).named h.free in
    subst (λ t. Reading (more_of name) name t) e (word_reading name w)

-- a word of the language is read as its token
pub keyword_reading : (w : List ℕ) (t : Token) → IsWord w → word_of w ≡ t → Reading (more_of w) w t
keyword_reading w t h e = subst (λ x. Reading (more_of w) w x) e (word_reading w h)

-- ---- what is found

found_stops : (b : ℕ) (bs rest : List ℕ) → Stops is_name_byte rest → begins_hex b (b ∷ (bs ++ rest)) ≡ false
    → Stops (more_of (b ∷ bs)) rest
found_stops b bs [] h k = tt
found_stops b [] (c ∷ cs) h k = or_from (is_name_byte c) (b == 120 && is_quote c) h k
found_stops b (d ∷ ds) (c ∷ cs) h k = or_from (is_name_byte c) false h refl

pub word_found : (b : ℕ) (bs : List ℕ) → is_letter b ≡ true → begins_hex b (b ∷ bs) ≡ false
    → IsFound (b ∷ bs) (word_at (b ∷ bs))
word_found b bs h k =
    let r = run_of is_name_byte bs in
    let w : IsWord (b ∷ r.0) = (h, r.3) in
    let e : b ∷ bs ≡ b ∷ (r.0 ++ r.1) = ap (λ x. b ∷ x) r.2 in
    let size : word_at (b ∷ bs) ≡ (word_of (b ∷ r.0), length (b ∷ r.0)) = rw e (word_size (b ∷ r.0) r.1 w r.4) in
    let t = word_token (b ∷ r.0) w in
    subst (λ x. IsFound (b ∷ bs) x) (sym size) (record {
      spelling = b ∷ r.0;
      rest = r.1;
      split = e;
      size = refl;
      spelled = t.spelled;
      fits = t.fits;
      on = more_of (b ∷ r.0);
      reading = word_reading (b ∷ r.0) w;
      stops = found_stops b r.0 r.1 r.4 (sym (ap (λ xs. begins_hex b xs) e) ∙ k);
    })
