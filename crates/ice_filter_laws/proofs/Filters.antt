-- What a text is read as, by the spellings in it.
use Rattle.std.proofs.Common.{◌≡◌, ◌≢◌, ℕ, Bool, true, false, List, [], ◌∷◌, ◌++◌, length, Result, Ok}
use Rattle.std.proofs.Common.{Err, refl, sym, ap, subst, ◌∙◌, ◌⊎◌, inl, inr, append_assoc, arith}
use Rattle.std.specs.Prelude.{flat_map}
use Rattle.std.proofs.lemmas.List.{append-nil}
use Rattle.std.proofs.lemmas.List.Elements.{All-nil, All-cons}
use Rattle.ice_filter.specs.declared.fault.FilterFault.{FilterFault}
use Rattle.ice_filter.specs.declared.fault.FilterFault.TheVariants as fault
use Rattle.ice_filter.specs.declared.predicate.Predicate.{Predicate}
use Rattle.ice_filter.specs.declared.predicate.Literal.{Literal}
use Rattle.ice_filter.specs.declared.predicate.Literal.TheVariants as literal
use Rattle.ice_filter.specs.declared.predicate.Question.{Question}
use Rattle.ice_filter.specs.declared.predicate.Question.TheVariants as question
use Rattle.ice_filter.specs.declared.token.Token.{Token}
use Rattle.ice_filter.specs.declared.token.Token.TheVariants as token
use Rattle.ice_filter.specs.Grammar.{Written, truth, predicate, group, both, either, tokens_in, column_tokens}
use Rattle.ice_filter.specs.Grammar.{question_tokens, choices_tokens, literal_token, in_tokens, dotted, listed, words}
use Rattle.ice_filter.specs.Grammar.{Says, Begins, IsMisplaced, EndsEarly, PassesLimit, limits}
use Rattle.ice_filter.specs.Lexing.{tokens_of}
use Rattle.ice_filter.specs.Parsing.{IsReadAs, filter_of}
use Rattle.ice_filter.specs.Trees.{Tree}
use Rattle.ice_filter.proofs.Shapes.{text_reads}
use Rattle.ice_filter.proofs.Unique.{one_reading}
use Rattle.ice_filter_laws.specs.Lying.{Lie, AreGood}
use Rattle.ice_filter_laws.specs.Filters.{Writes, BeginsTo, IsStuck, StopsAt, Overflows}
use Rattle.ice_filter_laws.proofs.Lying.{good_lie, lie_tokens, bad_begins_none, none_begins_bad, bad_or_good}
use Rattle.ice_filter_laws.proofs.Lying.{token_stands, stands_token, lie_end}

-- ---- the tokens of filters are good

abbrev IsFine : Token → Type 0
IsFine t = t ≢ token.Bad

abbrev AreFine : List Token → Type 0
AreFine [] = Unit {0}
AreFine (t ∷ ts) = IsFine t × AreFine ts

fine_both : (ts us : List Token) → AreFine ts → AreFine us → AreFine (ts ++ us)
fine_both [] us h k = k
fine_both (t ∷ ts) us h k = (h.0, fine_both ts us h.1 k)

fine_front : (ts us : List Token) → AreFine (ts ++ us) → AreFine ts
fine_front [] us h = tt
fine_front (t ∷ ts) us h = (h.0, fine_front ts us h.1)

fine_back : (ts us : List Token) → AreFine (ts ++ us) → AreFine us
fine_back [] us h = h
fine_back (t ∷ ts) us h = fine_back ts us h.1

names_fine : (ns : List (List ℕ)) → AreFine (flat_map dotted ns)
names_fine [] = tt
names_fine (n ∷ ns) = (λ e. absurd (cc), (λ e. absurd (cc), names_fine ns))

literal_fine : (l : Literal) → IsFine (literal_token l)
literal_fine (literal.Truth b) = λ e. absurd (cc)
literal_fine (literal.Number z) = λ e. absurd (cc)
literal_fine (literal.Text t) = λ e. absurd (cc)
literal_fine (literal.Bytes b) = λ e. absurd (cc)

literals_fine : (ls : List Literal) → AreFine (flat_map listed ls)
literals_fine [] = tt
literals_fine (l ∷ ls) = (λ e. absurd (cc), (literal_fine l, literals_fine ls))

in_fine : (negated : Bool) → AreFine (in_tokens negated)
in_fine false = (λ e. absurd (cc), tt)
in_fine true = (λ e. absurd (cc), (λ e. absurd (cc), tt))

question_fine : (q : Question) → AreFine (question_tokens q)
question_fine (question.Compare sign l) = (λ e. absurd (cc), (literal_fine l, tt))
question_fine (question.Among negated c) = fine_both (in_tokens negated)
    (token.Open ∷ (choices_tokens c ++ token.Close ∷ [])) (in_fine negated) (
      λ e. absurd (cc),
      fine_both
          (choices_tokens c) (token.Close ∷ []) (literal_fine c.first, literals_fine c.more) (λ e. absurd (cc), tt),
    )
question_fine question.Missing = (λ e. absurd (cc), (λ e. absurd (cc), tt))
question_fine question.Present = (λ e. absurd (cc), (λ e. absurd (cc), (λ e. absurd (cc), tt)))
question_fine (question.Begins l) = (λ e. absurd (cc), (λ e. absurd (cc), (literal_fine l, tt)))

filter_fine : (w : Written) → AreFine (tokens_in w)
filter_fine (truth b) = (λ e. absurd (cc), tt)
filter_fine (predicate l) = fine_both (column_tokens l.column) (question_tokens l.question)
    (λ e. absurd (cc), names_fine l.column.more) (question_fine l.question)
filter_fine (group w) =
    (λ e. absurd (cc), fine_both (tokens_in w) (token.Close ∷ []) (filter_fine w) (λ e. absurd (cc), tt))
filter_fine (both v w) = fine_both (tokens_in v) (token.And ∷ tokens_in w) (filter_fine v)
    (λ e. absurd (cc), filter_fine w)
filter_fine (either v w) = fine_both (tokens_in v) (token.Or ∷ tokens_in w) (filter_fine v)
    (λ e. absurd (cc), filter_fine w)

begins_fine : (ts : List Token) → Begins ts → AreFine ts
begins_fine ts (rest, w, says) = fine_front ts rest (subst AreFine (sym says.spelled) (filter_fine w))

says_begins : (ts : List Token) (w : Written) → Says ts w → Begins ts
says_begins ts w h = ([], w, record { stands = h.stands; spelled = append-nil ts ∙ h.spelled })

fine_good : (xs : List (ℕ × Token)) → AreFine (words xs) → AreGood xs
fine_good [] h = All-nil (λ x. x.1 ≢ token.Bad)
fine_good (x ∷ xs) h = All-cons (λ x. x.1 ≢ token.Bad) x xs h.0 (fine_good xs h.1)

begins_good : (xs : List (ℕ × Token)) → Begins (words xs) → AreGood xs
begins_good xs h = fine_good xs (begins_fine (words xs) h)

no_bad : (ts : List Token) → Begins (ts ++ token.Bad ∷ []) → ⊥
no_bad ts h = (fine_back ts (token.Bad ∷ []) (begins_fine (ts ++ token.Bad ∷ []) h)).0 refl

-- ---- what is read is what stands there

is_read : (text : List ℕ) (r : Result (Tree Predicate) FilterFault) → filter_of text ≡ r → IsReadAs text r
is_read text r e = subst (λ q. IsReadAs text q) e (text_reads text)

read_is : (text : List ℕ) (r : Result (Tree Predicate) FilterFault) → IsReadAs text r → filter_of text ≡ r
read_is text r h = one_reading limits (length text) (tokens_of text) (filter_of text) r (text_reads text) h

pub written : (text : List ℕ) (f : Tree Predicate) → filter_of text ≡ Ok f → Writes text f
written text f e =
    let h = is_read text (Ok f) e in
    let good = begins_good (tokens_of text) (says_begins (words (tokens_of text)) h.0 h.1.0) in (
      tokens_of text,
      h.0,
      good_lie text (tokens_of text) (refl, good),
      h.1.0,
      h.1.1,
      h.1.2,
    )

pub writes : (text : List ℕ) (f : Tree Predicate) → Writes text f → filter_of text ≡ Ok f
writes text f (tokens, w, lie, says, within, is) =
    let e : tokens_of text ≡ tokens = (lie_tokens text tokens lie).0 in
    read_is text (Ok f) (w, (subst (λ z. Says (words z) w) (sym e) says, within, is))

-- a token that is misplaced, or none
misplaced_by : (text : List ℕ) (at : ℕ) (h : IsMisplaced limits (tokens_of text) at)
    → (h.next ≡ token.Bad) ⊎ (h.next ≡ token.Bad → ⊥) → StopsAt text at
misplaced_by text at h (inl bad) =
    let split : tokens_of text ≡ h.front ++ (at, token.Bad) ∷ h.rest =
    h.split ∙ ap (λ (t : Token). h.front ++ (at, t) ∷ h.rest) bad in
    let r = bad_begins_none text h.front at (h.rest, split, begins_good h.front h.begins) in
    (h.front, r.0, record { lie = r.1; begins = h.begins; fits = h.fits }, inr (inl r.2))
misplaced_by text at h (inr good) =
    let r = token_stands text h.front h.rest at h.next h.split (begins_good h.front h.begins) good in (
      h.front,
      r.0,
      record { lie = r.1.0; begins = h.begins; fits = h.fits },
      inr (inr (h.next, r.1.1, h.misplaced)),
    )

stops_by : (text : List ℕ) (at : ℕ) → IsReadAs text (Err (fault.Syntax at)) → StopsAt text at
stops_by text at (inl h) = misplaced_by text at h (bad_or_good h.next)
stops_by text at (inr h) =
    let lie = good_lie text (tokens_of text) (refl, begins_good (tokens_of text) h.1.begins) in (
      tokens_of text,
      [],
      record {
        lie = subst (λ k. Lie (tokens_of text) 0 text k []) (sym h.0) lie;
        begins = h.1.begins;
        fits = h.1.fits;
      },
      inl (refl, h.1.unfinished),
    )

pub refused : (text : List ℕ) (at : ℕ) → filter_of text ≡ Err (fault.Syntax at) → StopsAt text at
refused text at e = stops_by text at (is_read text (Err (fault.Syntax at)) e)

ends_early : (text : List ℕ) (before : List (ℕ × Token)) (at : ℕ) → BeginsTo text before at []
    → ((w : Written) → Says (words before) w → ⊥) → (at ≡ length text) × EndsEarly limits (tokens_of text)
ends_early text before at h none =
    let end : at ≡ length text = omega (arith, lie_end before 0 text at [] h.lie) in
    let lie : Lie before 0 text (length text) [] = subst (λ k. Lie before 0 text k []) end h.lie in
    let e : tokens_of text ≡ before = (lie_tokens text before lie).0 in
    let early : EndsEarly limits before = record { fits = h.fits; begins = h.begins; unfinished = none } in
    (end, subst (λ z. EndsEarly limits z) (sym e) early)

stuck_by : (text : List ℕ) (before : List (ℕ × Token)) (at : ℕ) (rest : List ℕ) → BeginsTo text before at rest
    → IsStuck (words before) rest → IsReadAs text (Err (fault.Syntax at))
stuck_by text before at rest h (inl (e, none)) =
    inr (ends_early text before at (subst (λ z. BeginsTo text before at z) e h) none)
stuck_by text before at rest h (inr (inl none)) =
    let r = none_begins_bad text before at rest h.lie none in
    inl (record {
      front = before;
      next = token.Bad;
      rest = r.0;
      split = r.1;
      fits = h.fits;
      begins = h.begins;
      misplaced = no_bad (words before);
    })
stuck_by text before at rest h (inr (inr (t, next, apart))) =
    let r = stands_token text before at t rest (h.lie, next) in
    inl (record {
      front = before;
      next = t;
      rest = r.0;
      split = r.1;
      fits = h.fits;
      begins = h.begins;
      misplaced = apart;
    })

pub refuses : (text : List ℕ) (at : ℕ) → StopsAt text at → filter_of text ≡ Err (fault.Syntax at)
refuses text at (before, rest, h, stuck) =
    read_is text (Err (fault.Syntax at)) (stuck_by text before at rest h stuck)

fine_next : (ts : List Token) (t : Token) → Begins (ts ++ t ∷ []) → t ≡ token.Bad → ⊥
fine_next ts t h bad = (fine_back ts (t ∷ []) (begins_fine (ts ++ t ∷ []) h)).0 bad

begins_front : (ts : List Token) (t : Token) → Begins (ts ++ t ∷ []) → Begins ts
begins_front ts t (rest, w, says) = (
  t ∷ rest,
  w,
  record { stands = says.stands; spelled = sym (append_assoc ts (t ∷ []) rest) ∙ says.spelled },
)

pub overflowed : (text : List ℕ) → filter_of text ≡ Err fault.TooBig → Overflows text
overflowed text e =
    let h = is_read text (Err fault.TooBig) e in
    let begins = begins_front (words h.front) h.next h.begins in
    let r = token_stands text h.front h.rest h.at h.next h.split (begins_good h.front begins)
    (fine_next (words h.front) h.next h.begins) in (
      h.front,
      h.at,
      r.0,
      h.next,
      record { lie = r.1.0; begins = begins; fits = h.fits },
      r.1.1,
      h.begins,
      h.over,
    )

pub overflows : (text : List ℕ) → Overflows text → filter_of text ≡ Err fault.TooBig
overflows text (before, at, rest, t, h, next, begins, over) =
    let r = stands_token text before at t rest (h.lie, next) in
    let passes : PassesLimit limits (tokens_of text) = record {
      front = before;
      at = at;
      next = t;
      rest = r.0;
      split = r.1;
      fits = h.fits;
      begins = begins;
      over = over;
    } in
    read_is text (Err fault.TooBig) passes

other_by : (text : List ℕ) (e : FilterFault) → IsReadAs text (Err e)
    → ((at : ℕ) × (e ≡ fault.Syntax at)) ⊎ (e ≡ fault.TooBig)
other_by text (fault.Syntax at) h = inl (at, refl)
other_by text fault.TooBig h = inr refl
other_by text fault.NoSuchColumn h = absurd h
other_by text fault.WrongLiteral h = absurd h
other_by text fault.NotComparable h = absurd h
other_by text fault.Memory h = absurd h

pub nothing_else : (text : List ℕ) (e : FilterFault) → filter_of text ≡ Err e
    → ((at : ℕ) × (e ≡ fault.Syntax at)) ⊎ (e ≡ fault.TooBig)
nothing_else text e h = other_by text e (is_read text (Err e) h)
