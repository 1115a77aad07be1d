-- The tokens of a text lie in it, and tokens that lie in it are its tokens.
use Rattle.std.proofs.Common.{◌≡◌, ◌≢◌, ℕ, zero, suc, ◌+◌, ◌-◌, ◌<◌, ◌≤◌, Bool, true, false, List, [], ◌∷◌, ◌++◌}
use Rattle.std.proofs.Common.{length, drop, refl, sym, ap, subst, ◌∙◌, ◌⊎◌, inl, inr, arith}
use Rattle.std.specs.Prelude.{All}
use Rattle.std.proofs.Math.Seq.{drop-append_seam}
use Rattle.std.proofs.lemmas.Bool.Decides.{nat_tests}
use Rattle.std.proofs.lemmas.List.{append-nil, length-append}
use Rattle.std.proofs.lemmas.List.Elements.{All-nil, All-cons, All-head, All-tail}
use Rattle.ice_filter.specs.declared.token.Token.{Token}
use Rattle.ice_filter.specs.declared.token.Token.TheVariants as token
use Rattle.ice_filter.specs.Lexing.{is_separator, front_at, tokens_from, tokens_of}
use Rattle.ice_filter_laws.specs.Spelling.{Spells}
use Rattle.ice_filter_laws.specs.Lying.{IsBlank, Stands, AreBlanksTo, Lie, AreGood, NoneBegins, IsBadAt}
use Rattle.ice_filter_laws.proofs.Reading.{IsRead, IsFound}
use Rattle.ice_filter_laws.proofs.Fronts.{IsInFront, stands_in_front, found_stands, front_found}

is_blank : (b : ℕ) → is_separator b ≡ true → IsBlank b
is_blank b h = grind (arith, nat_tests)

blank_is : (b : ℕ) → IsBlank b → is_separator b ≡ true
blank_is b (inl h) = rw h refl
blank_is b (inr (inl h)) = rw h refl
blank_is b (inr (inr (inl h))) = rw h refl
blank_is b (inr (inr (inr h))) = rw h refl

not_blank : (b : ℕ) → is_separator b ≡ false → IsBlank b → ⊥
not_blank b h k = let both : true ≡ false = sym (blank_is b k) ∙ h in absurd (cc)

no_separator : (b : ℕ) (t : Bool) → is_separator b ≡ t → (IsBlank b → ⊥) → is_separator b ≡ false
no_separator b true e h = absurd (h (is_blank b e))
no_separator b false e h = e

spelled_good : (s : List ℕ) (t : Token) → Spells s t → t ≡ token.Bad → ⊥
spelled_good s t h e = let bad : Spells s token.Bad = subst (λ k. Spells s k) e h in absurd (cc)

-- ---- from how they lie to the tokens

past : (at : ℕ) (s rest : List ℕ) → tokens_from at (length s) (s ++ rest) ≡ tokens_from (at + length s) 0 rest
unfolding tokens_from
past at [] rest = let e : at + 0 ≡ at = omega arith in rw e refl
past at (b ∷ s) rest = let e : at + 1 + length s ≡ at + length (b ∷ s) = omega arith in past (at + 1) s rest ∙ rw e refl

past_blanks : (at : ℕ) (blanks rest : List ℕ) → All IsBlank blanks
    → tokens_from at 0 (blanks ++ rest) ≡ tokens_from (at + length blanks) 0 rest
unfolding tokens_from
past_blanks at [] rest h = let e : at + 0 ≡ at = omega arith in rw e refl
past_blanks at (b ∷ bs) rest h =
    let e : at + 1 + length bs ≡ at + length (b ∷ bs) = omega arith in
    rw (blank_is b (All-head IsBlank b bs h)) (past_blanks (at + 1) bs rest (All-tail IsBlank b bs h) ∙ rw e refl)

past_byte : (at b : ℕ) (bs rest : List ℕ) (t : Token) → is_separator b ≡ false
    → front_at b (b ∷ (bs ++ rest)) ≡ (t, length (b ∷ bs))
    → tokens_from at 0 (b ∷ (bs ++ rest)) ≡ (at, t) ∷ tokens_from (at + length (b ∷ bs)) 0 rest
unfolding tokens_from
past_byte at b bs rest t h e =
    let less : length (b ∷ bs) - 1 ≡ length bs = omega arith in
    let count : at + 1 + length bs ≡ at + length (b ∷ bs) = omega arith in
    rw (h, e, less) (ap (λ ts. (at, t) ∷ ts) (past (at + 1) bs rest ∙ rw count refl))

past_spelling : (at : ℕ) (s rest : List ℕ) (t : Token) → IsInFront s t rest
    → tokens_from at 0 (s ++ rest) ≡ (at, t) ∷ tokens_from (at + length s) 0 rest
past_spelling at [] rest t h = let e = h.split in absurd (cc)
past_spelling at (b ∷ bs) rest t h =
    let e = h.split in
    let same : h.first ≡ b = cc in
    past_byte at b bs rest t (rw same at h.no_blank) (rw same at h.front)

past_to : (at : ℕ) (bytes : List ℕ) (end : ℕ) (rest : List ℕ) → AreBlanksTo at bytes end rest
    → tokens_from at 0 bytes ≡ tokens_from end 0 rest
past_to at bytes end rest h = rw (h.2, h.3) (past_blanks at h.0 rest h.1)

pub lie_read : (xs : List (ℕ × Token)) (at : ℕ) (bytes : List ℕ) (end : ℕ) (rest : List ℕ)
    → Lie xs at bytes end rest → tokens_from at 0 bytes ≡ xs ++ tokens_from end 0 rest
lie_read [] at bytes end rest h = past_to at bytes end rest h
lie_read (x ∷ xs) at bytes end rest (spelling, behind, blanks, stands, lie) =
    past_to at bytes x.0 (spelling ++ behind) blanks
    ∙ past_spelling x.0 spelling behind x.1 (stands_in_front spelling x.1 behind stands)
    ∙ ap (λ ts. x ∷ ts) (lie_read xs (x.0 + length spelling) behind end rest lie)

abbrev IsGood : ℕ × Token → Type 0
IsGood x = x.1 ≢ token.Bad

pub lie_good : (xs : List (ℕ × Token)) (at : ℕ) (bytes : List ℕ) (end : ℕ) (rest : List ℕ)
    → Lie xs at bytes end rest → AreGood xs
lie_good [] at bytes end rest h = All-nil IsGood
lie_good (x ∷ xs) at bytes end rest (spelling, behind, blanks, stands, lie) =
    All-cons IsGood x xs (spelled_good spelling x.1 stands.spelled)
    (lie_good xs (x.0 + length spelling) behind end rest lie)

-- ---- from the tokens to how they lie

-- what the tokens from here on begin with: nothing, where the bytes end; or what is read of the bytes in front
abbrev Ends : List (ℕ × Token) → ℕ → List ℕ → ℕ → Type 0
Ends [] end rest finish = (rest ≡ []) × (end ≡ finish)
Ends (x ∷ xs) end rest finish = (end ≡ x.0) × ((b : ℕ) × (bs : List ℕ) × (rest ≡ b ∷ bs) × (is_separator b ≡ false)
    × (x.1 ≡ (front_at b (b ∷ bs)).0))

record Reaches (front back : List (ℕ × Token)) (at : ℕ) (bytes : List ℕ) (finish : ℕ) : Type 0 where
  end : ℕ
  rest : List ℕ
  lie : Lie front at bytes end rest
  ends : Ends back end rest finish

at_once : (at : ℕ) (bytes : List ℕ) → AreBlanksTo at bytes at bytes
at_once at bytes = ([], All-nil IsBlank, refl, omega arith)

blank_to : (at b : ℕ) (bytes : List ℕ) (end : ℕ) (rest : List ℕ) → is_separator b ≡ true
    → AreBlanksTo (at + 1) bytes end rest → AreBlanksTo at (b ∷ bytes) end rest
blank_to at b bytes end rest e h = (
  b ∷ h.0,
  All-cons IsBlank b h.0 (is_blank b e) h.1,
  ap (λ z. b ∷ z) h.2,
  h.3 ∙ omega arith,
)

blank_more : (xs : List (ℕ × Token)) (at b : ℕ) (bytes : List ℕ) (end : ℕ) (rest : List ℕ) → is_separator b ≡ true
    → Lie xs (at + 1) bytes end rest → Lie xs at (b ∷ bytes) end rest
blank_more [] at b bytes end rest e h = blank_to at b bytes end rest e h
blank_more (x ∷ xs) at b bytes end rest e (spelling, behind, blanks, stands, lie) =
    (spelling, behind, blank_to at b bytes x.0 (spelling ++ behind) e blanks, stands, lie)

-- the bytes of a spelling that is found are its first and those behind it
taken : (b : ℕ) (bs spelling rest : List ℕ) (t : Token) (n : ℕ) → b ∷ bs ≡ spelling ++ rest → n ≡ length spelling
    → IsRead spelling t rest → (n - 1 ≤ length bs) × (drop (n - 1) bs ≡ rest) × (0 < n)
taken b bs [] rest t n split size read = absurd read
taken b bs (c ∷ cs) rest t n split size read =
    let same : bs ≡ cs ++ rest = cc in
    let count : n - 1 ≡ length cs = omega arith in
    (omega (arith, ap length same, length-append cs rest), rw (count, same) (drop-append_seam cs rest), omega arith)

abbrev Reaching : List ℕ → Type 0
Reaching bs = (at skip : ℕ) (front back : List (ℕ × Token)) → skip ≤ length bs → AreGood front
    → tokens_from at skip bs ≡ front ++ back → Reaches front back (at + skip) (drop skip bs) (at + length bs)

blank_first : (at b : ℕ) (bs : List ℕ) (front back : List (ℕ × Token)) → is_separator b ≡ true
    → Reaches front back (at + 1 + 0) bs (at + 1 + length bs)
    → Reaches front back (at + 0) (b ∷ bs) (at + length (b ∷ bs))
blank_first at b bs front back e h =
    let here : at + 0 ≡ at = omega arith in
    let there : at + 1 + 0 ≡ at + 1 = omega arith in
    let finish : at + 1 + length bs ≡ at + length (b ∷ bs) = omega arith in
    record {
      end = h.end;
      rest = h.rest;
      lie = rw here (blank_more front at b bs h.end h.rest e (rw there at h.lie));
      ends = subst (λ n. Ends back h.end h.rest n) finish h.ends;
    }

none_first : (at b : ℕ) (bs : List ℕ) (back : List (ℕ × Token)) (more : List (ℕ × Token)) → is_separator b ≡ false
    → (at, (front_at b (b ∷ bs)).0) ∷ more ≡ back → Reaches [] back (at + 0) (b ∷ bs) (at + length (b ∷ bs))
none_first at b bs [] more e h = absurd (cc)
none_first at b bs (x ∷ xs) more e h =
    let t = (front_at b (b ∷ bs)).0 in
    let same : (at, t) ≡ x = cc in
    let here : at + 0 ≡ at = omega arith in
    record {
      end = at;
      rest = b ∷ bs;
      lie = rw here (at_once at (b ∷ bs));
      ends = (ap (λ z. z.0) same, (b, bs, refl, e, sym (ap (λ z. z.1) same)));
    }

token_first : (at b : ℕ) (bs : List ℕ) (x : ℕ × Token) (front back : List (ℕ × Token))
    → (at, (front_at b (b ∷ bs)).0) ≡ x → (f : IsFound (b ∷ bs) (front_at b (b ∷ bs)))
    → Reaches front back (at + 1 + ((front_at b (b ∷ bs)).1 - 1)) (drop ((front_at b (b ∷ bs)).1 - 1) bs)
    (at + 1 + length bs) → Reaches (x ∷ front) back (at + 0) (b ∷ bs) (at + length (b ∷ bs))
token_first at b bs x front back same f h =
    let n = (front_at b (b ∷ bs)).1 in
    let t = (front_at b (b ∷ bs)).0 in
    let k = taken b bs f.spelling f.rest t n f.split f.size (f.reading.read f.rest f.stops) in
    let place : at ≡ x.0 = ap (λ z. z.0) same in
    let here : at + 0 ≡ at = omega arith in
    let size : n ≡ length f.spelling = f.size in
    let some : 0 < n = k.2 in
    let there : at + 1 + (n - 1) ≡ x.0 + length f.spelling = omega arith in
    let finish : at + 1 + length bs ≡ at + length (b ∷ bs) = omega arith in
    record {
      end = h.end;
      rest = h.rest;
      lie = (
        f.spelling,
        f.rest,
        ([], All-nil IsBlank, f.split, omega arith),
        subst (λ (u : Token). Stands f.spelling u f.rest) (ap (λ z. z.1) same) (found_stands (b ∷ bs)
            (front_at b (b ∷ bs)) f),
        rw (there, k.1) at h.lie,
      );
      ends = subst (λ n. Ends back h.end h.rest n) finish h.ends;
    }

byte_by : (at b : ℕ) (bs : List ℕ) (front back : List (ℕ × Token)) (t : Bool) → is_separator b ≡ t → AreGood front
    → Reaching bs → tokens_from at 0 (b ∷ bs) ≡ front ++ back
    → Reaches front back (at + 0) (b ∷ bs) (at + length (b ∷ bs))
unfolding tokens_from
byte_by at b bs front back true e good later h =
    blank_first at b bs front back e (later (at + 1) 0 front back (omega arith) good (rw e at h))
byte_by at b bs [] back false e good later h =
    none_first at b bs back (tokens_from (at + 1) ((front_at b (b ∷ bs)).1 - 1) bs) e (rw e at h)
byte_by at b bs (x ∷ front) back false e good later h =
    let f = front_at b (b ∷ bs) in
    let more = tokens_from (at + 1) (f.1 - 1) bs in
    let read : (at, f.0) ∷ more ≡ x ∷ (front ++ back) = rw e at h in
    let same : (at, f.0) ≡ x = cc in
    let rest : more ≡ front ++ back = cc in
    let first : x.1 ≢ token.Bad = All-head IsGood x front good in
    let found : IsFound (b ∷ bs) f = front_found b bs (λ bad. first (sym (ap (λ z. z.1) same) ∙ bad)) in
    let k = taken b bs found.spelling found.rest f.0 f.1 found.split found.size
    (found.reading.read found.rest found.stops) in
    token_first at b bs x front back same found (later (at + 1) (f.1 - 1) front back k.0 (All-tail IsGood x front good)
    rest)

reaching : (bs : List ℕ) → Reaching bs
unfolding tokens_from
reaching [] at zero [] [] le good h =
    record { end = at + 0; rest = []; lie = at_once (at + 0) []; ends = (refl, refl) }
reaching [] at zero [] (y ∷ ys) le good h = absurd (cc)
reaching [] at zero (x ∷ xs) back le good h = absurd (cc)
reaching [] at (suc n) front back le good h = absurd (omega arith)
reaching (b ∷ bs) at (suc n) front back le good h =
    let here : at + 1 + n ≡ at + suc n = omega arith in
    let finish : at + 1 + length bs ≡ at + length (b ∷ bs) = omega arith in
    let r = reaching bs (at + 1) n front back (omega arith) good h in
    record {
      end = r.end;
      rest = r.rest;
      lie = subst (λ k. Lie front k (drop n bs) r.end r.rest) here r.lie;
      ends = subst (λ k. Ends back r.end r.rest k) finish r.ends;
    }
reaching (b ∷ bs) at zero front back le good h =
    byte_by at b bs front back (is_separator b) refl good (reaching bs) h

-- ---- the laws

pub good_lie : (text : List ℕ) (tokens : List (ℕ × Token)) → (tokens_of text ≡ tokens) × AreGood tokens
    → Lie tokens 0 text (length text) []
good_lie text tokens h =
    let r = reaching text 0 0 tokens [] (omega arith) h.1 (h.0 ∙ sym (append-nil tokens)) in
    let finish : 0 + length text ≡ length text = omega arith in
    let end : r.end ≡ length text = r.ends.1 ∙ finish in
    let lie : Lie tokens 0 text r.end r.rest = r.lie in
    subst (λ k. Lie tokens 0 text k []) end (subst (λ z. Lie tokens 0 text r.end z) r.ends.0 lie)

pub lie_tokens : (text : List ℕ) (tokens : List (ℕ × Token)) → Lie tokens 0 text (length text) []
    → (tokens_of text ≡ tokens) × AreGood tokens
unfolding tokens_from
lie_tokens text tokens h =
    (lie_read tokens 0 text (length text) [] h ∙ append-nil tokens, lie_good tokens 0 text (length text) [] h)

pub bad_or_good : (t : Token) → (t ≡ token.Bad) ⊎ (t ≡ token.Bad → ⊥)
bad_or_good token.Bad = inl refl
bad_or_good token.Open = inr (λ e. absurd (cc))
bad_or_good token.Close = inr (λ e. absurd (cc))
bad_or_good token.Comma = inr (λ e. absurd (cc))
bad_or_good token.Dot = inr (λ e. absurd (cc))
bad_or_good (token.Sign s) = inr (λ e. absurd (cc))
bad_or_good token.And = inr (λ e. absurd (cc))
bad_or_good token.Or = inr (λ e. absurd (cc))
bad_or_good token.Not = inr (λ e. absurd (cc))
bad_or_good token.In = inr (λ e. absurd (cc))
bad_or_good token.Is = inr (λ e. absurd (cc))
bad_or_good token.Null = inr (λ e. absurd (cc))
bad_or_good token.Starts = inr (λ e. absurd (cc))
bad_or_good token.With = inr (λ e. absurd (cc))
bad_or_good (token.Truth b) = inr (λ e. absurd (cc))
bad_or_good (token.Number z) = inr (λ e. absurd (cc))
bad_or_good (token.Text t) = inr (λ e. absurd (cc))
bad_or_good (token.Bytes b) = inr (λ e. absurd (cc))
bad_or_good (token.Name n) = inr (λ e. absurd (cc))

-- where a spelling stands, what is in front is its token
front_is : (b : ℕ) (bs spelling rest : List ℕ) (t : Token) → b ∷ bs ≡ spelling ++ rest → IsInFront spelling t rest
    → (front_at b (b ∷ bs)).0 ≡ t
front_is b bs [] rest t e h = let none = h.split in absurd (cc)
front_is b bs (c ∷ cs) rest t e h =
    let split = h.split in
    let first : h.first ≡ b = cc in
    let bytes : b ∷ bs ≡ (c ∷ cs) ++ rest = e in
    let front : front_at b ((c ∷ cs) ++ rest) ≡ (t, length (c ∷ cs)) = rw first at h.front in
    ap (λ z. (front_at b z).0) bytes ∙ ap (λ z. z.0) front

none_stands : (b : ℕ) (bs spelling rest : List ℕ) (t : Token) → token.Bad ≡ (front_at b (b ∷ bs)).0
    → b ∷ bs ≡ spelling ++ rest → Stands spelling t rest → ⊥
none_stands b bs spelling rest t bad e h =
    let is : (front_at b (b ∷ bs)).0 ≡ t = front_is b bs spelling rest t e (stands_in_front spelling t rest h) in
    spelled_good spelling t h.spelled (sym is ∙ sym bad)

pub bad_begins_none : (text : List ℕ) (before : List (ℕ × Token)) (at : ℕ) → IsBadAt at before text
    → (rest : List ℕ) × Lie before 0 text at rest × NoneBegins rest
bad_begins_none text before at (behind, e, good) =
    let r = reaching text 0 0 before ((at, token.Bad) ∷ behind) (omega arith) good e in
    let lie : Lie before 0 text r.end r.rest = r.lie in
    let b = r.ends.1.0 in
    let bs = r.ends.1.1 in (
      r.rest,
      subst (λ k. Lie before 0 text k r.rest) r.ends.0 lie,
      record {
        first = b;
        more = bs;
        split = r.ends.1.2;
        no_blank = not_blank b r.ends.1.3;
        none = λ spelling t rest split h. none_stands b bs spelling rest t r.ends.1.4 (sym r.ends.1.2 ∙ split) h;
      },
    )

first_bad : (at b : ℕ) (bs : List ℕ) → is_separator b ≡ false → (front_at b (b ∷ bs)).0 ≡ token.Bad
    → tokens_from at 0 (b ∷ bs) ≡ (at, token.Bad) ∷ tokens_from (at + 1) ((front_at b (b ∷ bs)).1 - 1) bs
unfolding tokens_from
first_bad at b bs h bad = rw (h, bad) refl

is_bad : (b : ℕ) (bs : List ℕ) → ((spelling : List ℕ) (t : Token) (rest : List ℕ) → b ∷ bs ≡ spelling ++ rest
    → Stands spelling t rest → ⊥)
    → ((front_at b (b ∷ bs)).0 ≡ token.Bad) ⊎ ((front_at b (b ∷ bs)).0 ≡ token.Bad → ⊥)
    → (front_at b (b ∷ bs)).0 ≡ token.Bad
is_bad b bs none (inl h) = h
is_bad b bs none (inr h) =
    let f = front_found b bs h in
    absurd (none f.spelling (front_at b (b ∷ bs)).0 f.rest f.split (found_stands (b ∷ bs) (front_at b (b ∷ bs)) f))

pub none_begins_bad : (text : List ℕ) (before : List (ℕ × Token)) (at : ℕ) (rest : List ℕ)
    → Lie before 0 text at rest → NoneBegins rest → IsBadAt at before text
none_begins_bad text before at rest lie h =
    let b = h.first in
    let bs = h.more in
    let f = front_at b (b ∷ bs) in
    let bad : f.0 ≡ token.Bad = is_bad b bs (λ spelling t r e s. h.none spelling t r (h.split ∙ e) s)
    (bad_or_good f.0) in
    let first = first_bad at b bs (no_separator b (is_separator b) refl h.no_blank) bad in (
      tokens_from (at + 1) (f.1 - 1) bs,
      lie_read before 0 text at rest lie ∙ ap (λ z. before ++ z) (ap (λ z. tokens_from at 0 z) h.split ∙ first),
      lie_good before 0 text at rest lie,
    )

-- a token behind others stands behind them
abbrev pub IsBehind : List (ℕ × Token) → ℕ → List ℕ → Token → List ℕ → Type 0
IsBehind before at text t rest = Lie before 0 text at rest
    × ((spelling back : List ℕ) × (rest ≡ spelling ++ back) × Stands spelling t back)

pub token_stands : (text : List ℕ) (before behind : List (ℕ × Token)) (at : ℕ) (t : Token)
    → tokens_of text ≡ before ++ (at, t) ∷ behind → AreGood before → (t ≡ token.Bad → ⊥)
    → (rest : List ℕ) × IsBehind before at text t rest
token_stands text before behind at t e good fine =
    let r = reaching text 0 0 before ((at, t) ∷ behind) (omega arith) good e in
    let lie : Lie before 0 text r.end r.rest = r.lie in
    let b = r.ends.1.0 in
    let bs = r.ends.1.1 in
    let is : t ≡ (front_at b (b ∷ bs)).0 = r.ends.1.4 in
    let f = front_found b bs (λ bad. fine (is ∙ bad)) in (
      r.rest,
      (
        subst (λ k. Lie before 0 text k r.rest) r.ends.0 lie,
        (
          f.spelling,
          f.rest,
          r.ends.1.2 ∙ f.split,
          subst (λ (u : Token). Stands f.spelling u f.rest) (sym is) (found_stands (b ∷ bs) (front_at b (b ∷ bs)) f),
        ),
      ),
    )

pub stands_token : (text : List ℕ) (before : List (ℕ × Token)) (at : ℕ) (t : Token) (rest : List ℕ)
    → IsBehind before at text t rest
    → (behind : List (ℕ × Token)) × (tokens_of text ≡ before ++ (at, t) ∷ behind)
stands_token text before at t rest (lie, (spelling, back, split, stands)) = (
  tokens_from (at + length spelling) 0 back,
  lie_read before 0 text at rest lie ∙ ap (λ z. before ++ z) (ap (λ z. tokens_from at 0 z) split
      ∙ past_spelling at spelling back t (stands_in_front spelling t back stands)),
)

blanks_end : (at : ℕ) (bytes : List ℕ) (end : ℕ) (rest : List ℕ) → AreBlanksTo at bytes end rest
    → end + length rest ≡ at + length bytes
blanks_end at bytes end rest h = omega (arith, h.3, ap length h.2, length-append h.0 rest)

pub lie_end : (xs : List (ℕ × Token)) (at : ℕ) (bytes : List ℕ) (end : ℕ) (rest : List ℕ)
    → Lie xs at bytes end rest → end + length rest ≡ at + length bytes
lie_end [] at bytes end rest h = blanks_end at bytes end rest h
lie_end (x ∷ xs) at bytes end rest (spelling, behind, blanks, stands, lie) = omega (
  arith,
  blanks_end at bytes x.0 (spelling ++ behind) blanks,
  length-append spelling behind,
  lie_end xs (x.0 + length spelling) behind end rest lie,
)
