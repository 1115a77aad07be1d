-- Names of a filter's text as tokens.
use Rattle.std.proofs.Common.{◌≡◌, ℕ, suc, ◌+◌, ◌==◌, Bool, true, false, cond, ◌&&◌, ◌||◌, not, List, [], ◌∷◌, ◌++◌}
use Rattle.std.proofs.Common.{length, take, refl, sym, ap, ◌∙◌, arith}
use Rattle.std.proofs.lemmas.Bool.{eqb-true}
use Rattle.std.proofs.Math.Seq.{take-append_seam}
use Rattle.std.specs.Str.{is_utf8}
use Rattle.ice_filter.specs.declared.token.Token.TheVariants as token
use Rattle.ice_filter.specs.Lexing.{is_separator, is_letter, is_name_byte, run_from, second_is, is_quote, front_at}
use Rattle.ice_filter.specs.Texts.{is_word, is_bare, name_text, in_quotes}
use Rattle.ice_filter.proofs.Lexed.{token_front, Stop, end, blank, close, comma, dot, after, Lexes, and_parts}
use Rattle.ice_filter.proofs.Lexed.{not_false, whole, word_is, quoted_name}
use Rattle.ice_filter.proofs.Pieced.{other, is_false}

or_elim : {P : Type 0} (a b : Bool) → (a ≡ true → P) → (b ≡ true → P) → (a || b) ≡ true → P
or_elim true b f g h = f refl
or_elim false b f g h = g h

and_no : (a : Bool) → (a && false) ≡ false
and_no true = refl
and_no false = refl

no_letter : (b q : ℕ) → is_letter q ≡ false → is_letter b ≡ true → (b == q) ≡ true → ⊥
no_letter b q other_byte h e =
    let same : is_letter b ≡ is_letter q = ap is_letter (eqb-true b q e) in
    let k : true ≡ false = sym h ∙ same ∙ other_byte in
    absurd (cc)

letter_no_separator : (b : ℕ) → is_letter b ≡ true → is_separator b ≡ false
letter_no_separator b h =
    is_false (is_separator b) (or_elim (b == 32 || b == 9 || b == 10) (b == 13)
    (or_elim (b == 32 || b == 9) (b == 10) (or_elim (b == 32) (b == 9) (no_letter b 32 refl h) (no_letter b 9 refl h))
    (no_letter b 10 refl h))
    (no_letter b 13 refl h))

passes : (p : ℕ → Bool) (b c : ℕ) (cs : List ℕ) (t u : Bool) → p b ≡ t → p c ≡ u
    → run_from p 0 (b ∷ c ∷ cs) ≡ suc (suc (length cs)) → u ≡ true
unfolding run_from
passes p b c cs t true e f h = refl
passes p b c cs true false e f h = let no : 0 + 1 ≡ suc (suc (length cs)) = rw (e, f) at h in absurd (omega arith)
passes p b c cs false false e f h = let no : 0 ≡ suc (suc (length cs)) = rw e at h in absurd (omega arith)

no_quote : (c : ℕ) → is_name_byte c ≡ true → (c == 39) ≡ false
no_quote c h = other c 39 (λ e. let same : is_name_byte c ≡ is_name_byte 39 = ap is_name_byte e in
    let no : true ≡ false = sym h ∙ same in absurd (cc))

second : (b : ℕ) (bs : List ℕ) (s : Stop) → run_from is_name_byte 0 (b ∷ bs) ≡ suc (length bs)
    → second_is is_quote (b ∷ (bs ++ after s)) ≡ false
second b [] end h = refl
second b [] (blank bs) h = refl
second b [] (close bs) h = refl
second b [] (comma bs) h = refl
second b [] (dot bs) h = refl
second b (c ∷ cs) s h = no_quote c (passes is_name_byte b c cs (is_name_byte b) (is_name_byte c) refl refl h)

bare_name : (name : List ℕ) → is_bare name ≡ true → is_utf8 name ≡ true → Lexes name (token.Name name ∷ [])
unfolding front_at
bare_name [] h utf s = absurd (cc)
bare_name (b ∷ bs) h utf s =
    let e = and_parts (is_letter b && run_from is_name_byte 0 (b ∷ bs) == length (b ∷ bs)) (not (is_word (b ∷ bs))) h in
    let f = and_parts (is_letter b) (run_from is_name_byte 0 (b ∷ bs) == length (b ∷ bs)) e.0 in
    let run : run_from is_name_byte 0 (b ∷ bs) ≡ suc (length bs) = eqb-true (run_from is_name_byte 0 (b ∷ bs))
    (length (b ∷ bs)) f.1 in
    let size : run_from is_name_byte 0 (b ∷ (bs ++ after s)) ≡ suc (length bs) = whole (b ∷ bs) s run in
    let word = word_is (b ∷ bs) (not_false (is_word (b ∷ bs)) e.1) utf in
    let text : take (suc (length bs)) (b ∷ (bs ++ after s)) ≡ b ∷ bs = take-append_seam (b ∷ bs) (after s) in
    token_front b bs (after s) (token.Name (b ∷ bs)) (letter_no_separator b f.0)
    (rw (second b bs s run, and_no (b == 120), f.0, size, text, word) refl)

name_by : (name : List ℕ) (t : Bool) → is_bare name ≡ t → is_utf8 name ≡ true
    → Lexes (cond t name (in_quotes 34 name)) (token.Name name ∷ [])
name_by name true e utf = bare_name name e utf
name_by name false e utf = quoted_name name utf

pub name_lexed : (name : List ℕ) → is_utf8 name ≡ true → Lexes (name_text name) (token.Name name ∷ [])
name_lexed name utf = name_by name (is_bare name) refl utf
