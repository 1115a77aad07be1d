-- What reading gives in the words of the grammar: a filter, or where the tokens stop being one.
use Rattle.std.proofs.Common.{◌≡◌, ◌≢◌, ℕ, ◌+◌, ◌-◌, ◌<◌, ◌≤◌, Bool, true, false, nat_lt, List, [], ◌∷◌, ◌++◌, length}
use Rattle.std.proofs.Common.{Result, Ok, Err, inl, inr, refl, sym, ◌∙◌, ap, append_assoc, arith, rules}
use Rattle.std.proofs.lemmas.List.{append-nil}
use Rattle.contract_words.specs.Outcome.{◌>>=◌}
use Rattle.ice_filter.specs.declared.fault.FilterFault.{FilterFault}
use Rattle.ice_filter.specs.declared.fault.FilterFault.TheVariants.{Syntax, TooBig}
use Rattle.ice_filter.specs.declared.token.Token.{Token}
use Rattle.ice_filter.specs.declared.token.Token.TheVariants as token
use Rattle.ice_filter.specs.declared.token.Comparison.{Comparison}
use Rattle.ice_filter.specs.declared.predicate.Predicate.{Predicate}
use Rattle.ice_filter.specs.declared.predicate.Column.{Column}
use Rattle.ice_filter.specs.declared.predicate.Choices.{Choices}
use Rattle.ice_filter.specs.declared.predicate.Question.{Question}
use Rattle.ice_filter.specs.declared.predicate.Question.TheVariants as question
use Rattle.ice_filter.specs.declared.predicate.Literal.TheVariants as literal
use Rattle.ice_filter.specs.declared.predicate.Partial.{Partial}
use Rattle.ice_filter.specs.declared.predicate.Partial.TheVariants as partial
use Rattle.ice_filter.specs.declared.parser.Pending.{Pending}
use Rattle.ice_filter.specs.declared.parser.Place.{Place}
use Rattle.ice_filter.specs.declared.parser.Place.TheVariants.{Wants, After, Inside}
use Rattle.ice_filter.specs.Grammar.{
  Written,
  truth,
  predicate,
  group,
  both,
  either,
  Says,
  predicates_in,
  IsShort,
  IsShallow,
}
use Rattle.ice_filter.specs.Grammar.{IsWithin, Limits, Begins, BeginsWithin, IsInLimits, EndsEarly, Reads, words}
use Rattle.ice_filter.specs.Parsing.{State, literal_of, behind_column, behind_dot, compared, behind_not, behind_in}
use Rattle.ice_filter.specs.Parsing.{chosen, behind_listed, chosen_too, behind_is, behind_is_not, behind_starts, begun}
use Rattle.ice_filter.specs.Parsing.{
  predicate_step,
  joined,
  joined_and,
  opened,
  began,
  held,
  at_unit,
  closed,
  after_unit,
}
use Rattle.ice_filter.specs.Parsing.{moved, step, step_at, ended, finish, outcome, start, none}
use Rattle.ice_filter.specs.Parsing as parsing
use Rattle.ice_filter.specs.Rebuilding.{Reading, top, put, read_tokens, place_tokens, Placed, predicates_of, Good}
use Rattle.ice_filter.proofs.Complete.{Walks, Behind, ends, join, filter_walk}
use Rattle.ice_filter.proofs.Sound.{StepAdds, step_adds, starts_good, finish_says}
use Rattle.ice_filter.proofs.Steps.{IsUp, IsMore, Told, IsPlaceWithin, step_told}

-- ---- walks

good_place : (most g : ℕ) (place : Place) (p : Pending) (ps : List Pending) (ts : List Written)
    → Placed most g place p ps ts → IsPlaceWithin most place
good_place most g Wants p ps ts h = tt
good_place most g After p ps ts h = tt
good_place most g (Inside (partial.Comma c b ls)) p ps ts h = h.1
good_place most g (Inside _) p ps ts h = tt

-- a step under larger limits and at another offset
told : (m n : Limits) (at other : ℕ) (s : Reading) (t : Token) → IsUp m n → Good m s
    → Told m n at other t (step put m at s t) (step put n other s t)
told m n at other s t up h = step_told m n at other s t up (omega (arith, h.open_left)) h.few (good_place m.literals h.g
    s.place s.now s.outer s.read h.placed)

ok_told : (m n : Limits) (at other : ℕ) (s q : Reading) (t : Token) → IsUp m n → Good m s → step put m at s t ≡ Ok q
    → step put n other s t ≡ Ok q
ok_told m n at other s q t up h e = let x : Told m n at other t (Ok q) (step put n other s t) =
    rw e at (told m n at other s t up h) in x

same_limits : (m : Limits) → IsUp m m
same_limits m = record { predicates = omega arith; groups = omega arith; literals = omega arith }

ok_is : (x y : Reading) (r : Result Reading FilterFault) → r ≡ Ok x → r ≡ Ok y → x ≡ y
ok_is x y r e f = cc

-- walking keeps what is good
walk_good : (m : Limits) (ts : List Token) (s q : Reading) → 0 < m.literals → Good m s → Walks m s ts q
    → (read_tokens q ≡ read_tokens s ++ ts) × Good m q
walk_good m [] s q some h w = (rw w (sym (append-nil (read_tokens q))), rw w at h)
walk_good m (t ∷ ts) s q some h w =
    let x : StepAdds m (read_tokens s) t (Ok w.0) = rw (w.1 0) at (step_adds m 0 s t some h) in
    let later = walk_good m ts w.0 q some x.1 w.2 in
    (later.0 ∙ ap (λ (r : List Token). r ++ ts) x.0 ∙ append_assoc (read_tokens s) (t ∷ []) ts, later.1)

-- two walks from one state go the same way
pub apart : (m : Limits) (ts us : List Token) (s p q : Reading) → Walks m s ts p → Walks m s (ts ++ us) q
    → Walks m p us q
apart m [] us s p q v w = rw v at w
apart m (t ∷ ts) us s p q v w =
    let same : v.0 ≡ w.0 = ok_is v.0 w.0 (step put m 0 s t) (v.1 0) (w.1 0) in
    let rest : Walks m v.0 (ts ++ us) q = rw (sym same) at w.2 in
    apart m ts us v.0 p q v.2 rest

-- a walk under larger limits
pub walk_up : (m n : Limits) (ts : List Token) (s q : Reading) → 0 < m.literals → IsUp m n → Good m s → Walks m s ts q
    → Walks n s ts q
walk_up m n [] s q some up h w = w
walk_up m n (t ∷ ts) s q some up h w =
    let x : StepAdds m (read_tokens s) t (Ok w.0) = rw (w.1 0) at (step_adds m 0 s t some h) in
    (w.0, λ at. ok_told m n 0 at s w.0 t up h (w.1 0), walk_up m n ts w.0 q some up x.1 w.2)

-- ---- a filter that the tokens begin

abbrev Finished : Reading → Type 0
Finished q = (q.place ≡ After) × (q.outer ≡ [])

-- reading may go on from here to the end of a filter
abbrev Ends : Limits → Reading → Type 0
Ends m s = (rest : List Token) × (q : Reading) × (Walks m s rest q × Finished q)

-- the tokens in front of those that end
further : (m : Limits) (s p : Reading) (ts : List Token) → Walks m s ts p → Ends m p → Ends m s
further m s p ts w e = (ts ++ e.0, e.1, (join m s p e.1 ts e.0 w e.2.0, e.2.1))

step_on : (m : Limits) (s p : Reading) (t : Token) → ((at : ℕ) → step put m at s t ≡ Ok p) → Ends m p → Ends m s
step_on m s p t h e = further m s p (t ∷ []) (p, h, refl) e

-- all that is open is closed
closes : (m : Limits) (p : Pending) (ps : List Pending) (ts : List Written) (n : ℕ)
    → Ends m (record { place = After; now = p; outer = ps; read = ts; predicates = n })
unfolding step step_at after_unit closed
closes m p [] ts n = (
  [],
  record { place = After; now = p; outer = []; read = ts; predicates = n },
  (refl, (refl, refl)),
)
closes m p (q ∷ ps) ts n =
    step_on m (record { place = After; now = p; outer = q ∷ ps; read = ts; predicates = n }) (record {
      place = After;
      now = q;
      outer = ps;
      read = put (joined put p ts) parsing.group;
      predicates = n;
    }) token.Close (λ at. refl)
    (closes m q ps (put (joined put p ts) parsing.group) n)

abbrev In : Reading → Partial → Reading
In s p = record s { place = Inside p }

ends_with : (m : Limits) (s : Reading) (l : Predicate)
    → Ends m (record s { place = After; read = put s.read (parsing.predicate l) })
ends_with m s l = closes m s.now s.outer (put s.read (parsing.predicate l)) s.predicates

null_ends : (m : Limits) (s : Reading) (c : Column) → Ends m (In s (partial.Is c))
unfolding step step_at predicate_step behind_is moved held
null_ends m s c = step_on m (In s (partial.Is c)) (record s {
  place = After;
  read = put s.read (parsing.predicate (record { column = c; question = question.Missing }));
}) token.Null (λ at. refl)
    (ends_with m s (record { column = c; question = question.Missing }))

not_null_ends : (m : Limits) (s : Reading) (c : Column) → Ends m (In s (partial.IsNot c))
unfolding step step_at predicate_step behind_is_not moved held
not_null_ends m s c = step_on m (In s (partial.IsNot c)) (record s {
  place = After;
  read = put s.read (parsing.predicate (record { column = c; question = question.Present }));
}) token.Null (λ at. refl)
    (ends_with m s (record { column = c; question = question.Present }))

column_ends : (m : Limits) (s : Reading) (c : Column) → Ends m (In s (partial.Column c))
unfolding step step_at predicate_step behind_column moved
column_ends m s c = step_on m (In s (partial.Column c)) (In s (partial.Is c)) token.Is (λ at. refl) (null_ends m s c)

dot_ends : (m : Limits) (s : Reading) (c : Column) → Ends m (In s (partial.Dot c))
unfolding step step_at predicate_step behind_dot moved
dot_ends m s c = step_on m (In s (partial.Dot c)) (In s (partial.Column (record c { more = c.more ++ [] ∷ [] })))
    (token.Name []) (λ at. refl) (column_ends m s (record c { more = c.more ++ [] ∷ [] }))

sign_ends : (m : Limits) (s : Reading) (c : Column) (sign : Comparison) → Ends m (In s (partial.Sign c sign))
unfolding step step_at predicate_step compared moved held literal_of
sign_ends m s c sign = step_on m (In s (partial.Sign c sign)) (record s {
  place = After;
  read = put s.read (parsing.predicate (record { column = c; question = question.Compare sign (literal.Truth true) }));
})
    (token.Truth true) (λ at. refl) (ends_with m s (record {
      column = c;
      question = question.Compare sign
          (literal.Truth true);
    }))

listed_ends : (m : Limits) (s : Reading) (c : Column) (b : Bool) (ls : Choices) → Ends m (In s (partial.Listed c b ls))
unfolding step step_at predicate_step behind_listed moved held
listed_ends m s c b ls = step_on m (In s (partial.Listed c b ls)) (record s {
  place = After;
  read = put s.read (parsing.predicate (record { column = c; question = question.Among b ls }));
}) token.Close (λ at. refl)
    (ends_with m s (record { column = c; question = question.Among b ls }))

one_choice : Choices
one_choice = record { first = literal.Truth true; more = [] }

open_ends : (m : Limits) (s : Reading) (c : Column) (b : Bool) → Ends m (In s (partial.Open c b))
unfolding step step_at predicate_step chosen moved literal_of one_choice
open_ends m s c b = step_on m (In s (partial.Open c b)) (In s (partial.Listed c b one_choice)) (token.Truth true)
    (λ at. refl) (listed_ends m s c b one_choice)

in_ends : (m : Limits) (s : Reading) (c : Column) (b : Bool) → Ends m (In s (partial.In c b))
unfolding step step_at predicate_step behind_in moved
in_ends m s c b = step_on m (In s (partial.In c b)) (In s (partial.Open c b)) token.Open (λ at. refl)
    (open_ends m s c b)

not_ends : (m : Limits) (s : Reading) (c : Column) → Ends m (In s (partial.Not c))
unfolding step step_at predicate_step behind_not moved
not_ends m s c = step_on m (In s (partial.Not c)) (In s (partial.In c true)) token.In (λ at. refl) (in_ends m s c true)

comma_ends : (m : Limits) (s : Reading) (c : Column) (b : Bool) (ls : Choices)
    → nat_lt (length ls.more + 1) m.literals ≡ true → Ends m (In s (partial.Comma c b ls))
unfolding step step_at predicate_step chosen_too moved literal_of
comma_ends m s c b ls e = step_on m (In s (partial.Comma c b ls))
    (In s (partial.Listed c b (record ls { more = ls.more ++ literal.Truth true ∷ [] }))) (token.Truth true)
    (λ at. rw e refl) (listed_ends m s c b (record ls { more = ls.more ++ literal.Truth true ∷ [] }))

with_ends : (m : Limits) (s : Reading) (c : Column) → Ends m (In s (partial.With c))
unfolding step step_at predicate_step begun moved held literal_of
with_ends m s c = step_on m (In s (partial.With c)) (record s {
  place = After;
  read = put s.read (parsing.predicate (record { column = c; question = question.Begins (literal.Truth true) }));
})
    (token.Truth true) (λ at. refl) (ends_with m s (record {
      column = c;
      question = question.Begins (literal.Truth true);
    }))

starts_ends : (m : Limits) (s : Reading) (c : Column) → Ends m (In s (partial.Starts c))
unfolding step step_at predicate_step behind_starts moved
starts_ends m s c = step_on m (In s (partial.Starts c)) (In s (partial.With c)) token.With (λ at. refl)
    (with_ends m s c)

-- a list that waits for a literal may have one more
abbrev HasRoom : Limits → Place → Type 0
HasRoom m (Inside (partial.Comma c b ls)) = nat_lt (length ls.more + 1) m.literals ≡ true
HasRoom m _ = Unit {0}

wants_ends : (m : Limits) (s : Reading) → Ends m (record s { place = Wants })
unfolding step step_at at_unit held
wants_ends m s = step_on m (record s { place = Wants }) (record s {
  place = After;
  read = put s.read (parsing.truth true);
}) (token.Truth true) (λ at. refl)
    (closes m s.now s.outer (put s.read (parsing.truth true)) s.predicates)

ends_at : (m : Limits) (s : Reading) (place : Place) → HasRoom m place → Ends m (record s { place = place })
ends_at m s Wants h = wants_ends m s
ends_at m s After h = closes m s.now s.outer s.read s.predicates
ends_at m s (Inside (partial.Column c)) h = column_ends m s c
ends_at m s (Inside (partial.Dot c)) h = dot_ends m s c
ends_at m s (Inside (partial.Sign c sign)) h = sign_ends m s c sign
ends_at m s (Inside (partial.Not c)) h = not_ends m s c
ends_at m s (Inside (partial.In c b)) h = in_ends m s c b
ends_at m s (Inside (partial.Open c b)) h = open_ends m s c b
ends_at m s (Inside (partial.Listed c b ls)) h = listed_ends m s c b ls
ends_at m s (Inside (partial.Comma c b ls)) h = comma_ends m s c b ls h
ends_at m s (Inside (partial.Is c)) h = null_ends m s c
ends_at m s (Inside (partial.IsNot c)) h = not_null_ends m s c
ends_at m s (Inside (partial.Starts c)) h = starts_ends m s c
ends_at m s (Inside (partial.With c)) h = with_ends m s c

-- what was read begins a filter within the limits
begins_within : (m : Limits) (s : Reading) → 0 < m.literals → Good m s → HasRoom m s.place
    → BeginsWithin m (read_tokens s)
begins_within m s some h has =
    let e : Ends m s = ends_at m s s.place has in
    let g = walk_good m e.0 s e.1 some h e.2.0 in
    let says = finish_says m e.1 e.2.1.0 e.2.1.1 g.1 in
    let t : Written = top (joined put e.1.now e.1.read) in
    (e.0, t, (record { stands = says.0.stands; spelled = sym g.0 ∙ says.0.spelled }, says.1))

comma_begins : (m : Limits) (s : Reading) (c : Column) (b : Bool) (ls : Choices)
    → s.place ≡ Inside (partial.Comma c b ls) → 0 < m.literals → Good m s → (has : Bool)
    → nat_lt (length ls.more + 1) m.literals ≡ has → IsInLimits m (read_tokens s)
comma_begins m s c b ls p some h true e = inl (begins_within m s some h (rw p e))
comma_begins m s c b ls p some h false e =
    let before : Reading = record s { place = Inside (partial.Listed c b ls) } in
    let placed : Placed m.literals h.g (Inside (partial.Comma c b ls)) s.now s.outer s.read = rw p at h.placed in
    let counted : 1 + predicates_of s.read ≡ s.predicates = rw p at h.counted in
    let good : Good m before = record {
      g = h.g;
      open_left = h.open_left;
      placed = placed;
      counted = counted;
      few = h.few;
    } in
    let read : read_tokens s ≡ place_tokens (Inside (partial.Comma c b ls)) s.now s.outer s.read = rw p refl in
    let split : place_tokens (Inside (partial.Comma c b ls)) s.now s.outer s.read ≡ read_tokens before ++ token.Comma ∷
    [] = simp append_assoc in
    inr (read_tokens before, (read ∙ split, begins_within m before some good tt))

pub begins_at : (m : Limits) (s : Reading) (place : Place) → s.place ≡ place → 0 < m.literals → Good m s
    → IsInLimits m (read_tokens s)
begins_at m s (Inside (partial.Comma c b ls)) p some h =
    comma_begins m s c b ls p some h (nat_lt (length ls.more + 1) m.literals) refl
begins_at m s _ p some h = inl (begins_within m s some h (rw p tt))

-- ---- where reading stops

-- limits that let the filter in, not smaller than others
height : Written → ℕ
height (truth b) = 0
height (predicate l) = 0
height (group t) = height t + 1
height (both s t) = height s + height t
height (either s t) = height s + height t

longest_list : Question → ℕ
longest_list (question.Among b ls) = length ls.more + 1
longest_list _ = 0

longest : Written → ℕ
longest (truth b) = 0
longest (predicate l) = longest_list l.question
longest (group t) = longest t
longest (both s t) = longest s + longest t
longest (either s t) = longest s + longest t

short_more : (q : Question) (k l : ℕ) → k ≤ l → IsShort k q → IsShort l q
short_more (question.Among b ls) k l le h = omega (arith, h, le)
short_more _ k l le h = tt

pub shallow_more : (t : Written) (d e k l : ℕ) → d ≤ e → k ≤ l → IsShallow d k t → IsShallow e l t
shallow_more (truth b) d e k l le lo h = tt
shallow_more (predicate x) d e k l le lo h = short_more x.question k l lo h
shallow_more (group t) d e k l le lo h = (
  omega (arith, h.0),
  shallow_more t (d - 1) (e - 1) k l (omega (arith, le)) lo
      h.1,
)
shallow_more (both s t) d e k l le lo h = (shallow_more s d e k l le lo h.0, shallow_more t d e k l le lo h.1)
shallow_more (either s t) d e k l le lo h = (shallow_more s d e k l le lo h.0, shallow_more t d e k l le lo h.1)

short_list : (q : Question) → IsShort (longest_list q) q
unfolding longest_list
short_list (question.Among b ls) = let lt : length ls.more < length ls.more + 1 = omega arith in lt
short_list _ = tt

shallow_enough : (t : Written) → IsShallow (height t) (longest t) t
unfolding height longest
shallow_enough (truth b) = tt
shallow_enough (predicate x) = short_list x.question
shallow_enough (group t) = let e : height t + 1 - 1 ≡ height t = omega arith in (omega arith, rw e (shallow_enough t))
shallow_enough (both s t) = (
  shallow_more s (height s) (height s + height t) (longest s) (longest s + longest t)
      (omega arith) (omega arith) (shallow_enough s),
  shallow_more t (height t) (height s + height t) (longest t)
      (longest s + longest t) (omega arith) (omega arith) (shallow_enough t),
)
shallow_enough (either s t) = (
  shallow_more s (height s) (height s + height t) (longest s) (longest s + longest t)
      (omega arith) (omega arith) (shallow_enough s),
  shallow_more t (height t) (height s + height t) (longest t)
      (longest s + longest t) (omega arith) (omega arith) (shallow_enough t),
)

pub roomy : Limits → Written → Limits
roomy m t = record {
  predicates = m.predicates + predicates_in t;
  groups = m.groups + height t;
  literals =
      m.literals + longest t;
}

pub roomy_up : (m : Limits) (t : Written) → IsUp m (roomy m t)
unfolding roomy
roomy_up m t = record { predicates = omega arith; groups = omega arith; literals = omega arith }

pub roomy_within : (m : Limits) (t : Written) → IsWithin (roomy m t) t
unfolding roomy
roomy_within m t = record {
  few = omega arith;
  shallow = shallow_more t (height t) (m.groups + height t) (longest t)
      (m.literals + longest t) (omega arith) (omega arith) (shallow_enough t);
}

-- a filter's walk goes through the state to which its front leads
passes : (m : Limits) (s : Reading) (front rest : List Token) (t : Written) → Walks m (start []) front s
    → Says (front ++ rest) t → IsWithin m t → Walks m s rest (Behind (ends t none []) [] (predicates_in t))
passes m s front rest t w says within =
    let all : Walks m (start []) (front ++ rest) (Behind (ends t none []) [] (predicates_in t)) = rw says.spelled
    (filter_walk m t says.stands within) in
    apart m front rest (start []) s (Behind (ends t none []) [] (predicates_in t)) w all

no_step : (m : Limits) (at : ℕ) (s q : Reading) (t : Token) (e : FilterFault) → step put m at s t ≡ Err e
    → step put m at s t ≡ Ok q → ⊥
no_step m at s q t e h k = absurd cc

snoc_last : {A : Type 0} (xs ys : List A) (x y : A) → xs ++ x ∷ [] ≡ ys ++ y ∷ [] → x ≡ y
snoc_last [] [] x y e = cc
snoc_last [] (b ∷ []) x y e = absurd cc
snoc_last [] (b ∷ c ∷ ys) x y e = absurd cc
snoc_last (a ∷ []) [] x y e = absurd cc
snoc_last (a ∷ c ∷ xs) [] x y e = absurd cc
snoc_last (a ∷ xs) (b ∷ ys) x y e = let tails : xs ++ x ∷ [] ≡ ys ++ y ∷ [] = cc in snoc_last xs ys x y tails

-- what is refused where it stands begins no filter
pub misplaced : (m : Limits) (at a : ℕ) (s : Reading) (t : Token) → 0 < m.literals → Good m s
    → Walks m (start []) (read_tokens s) s → step put m at s t ≡ Err (Syntax a) → Begins (read_tokens s ++ t ∷ []) → ⊥
misplaced m at a s t some h w e b =
    let n : Limits = roomy m b.1 in
    let up : IsUp m n = roomy_up m b.1 in
    let says : Says (read_tokens s ++ (t ∷ b.0)) b.1 = record {
      stands = b.2.stands;
      spelled = sym (append_assoc (read_tokens s) (t ∷ []) b.0) ∙ b.2.spelled;
    } in
    let walk : Walks n s (t ∷ b.0) (Behind (ends b.1 none []) [] (predicates_in b.1)) = passes n s (read_tokens s)
    (t ∷ b.0)
    b.1 (walk_up m n (read_tokens s) (start []) s some up (starts_good m) w) says (roomy_within m b.1) in
    let x : Told m n at at t (Err (Syntax a)) (step put n at s t) = rw e at (told m n at at s t up h) in
    no_step n at s walk.0 t (Syntax at) x.1 (walk.1 at)

big_no_comma : (m n : Limits) (at other : ℕ) (t : Token) (r q : Result Reading FilterFault) → Told m n at other t r q
    → r ≡ Err TooBig → t ≢ token.Comma
big_no_comma m n at other t r q h e = let x : Told m n at other t (Err TooBig) q = rw e at h in x.0

big_goes : (m n : Limits) (at other : ℕ) (t : Token) (r q : Result Reading FilterFault) → Told m n at other t r q
    → r ≡ Err TooBig → IsMore m n → (z : Reading) × (q ≡ Ok z)
big_goes m n at other t r q h e more = let x : Told m n at other t (Err TooBig) q = rw e at h in x.1 more

told_is : (m n : Limits) (at other : ℕ) (t : Token) (r q : Result Reading FilterFault) (f : FilterFault)
    → Told m n at other t r q → r ≡ Err f → Told m n at other t (Err f) q
told_is m n at other t r q f h e = rw e at h

syntax_at : (m n : Limits) (at other a : ℕ) (t : Token) (r q : Result Reading FilterFault) → Told m n at other t r q
    → r ≡ Err (Syntax a) → a ≡ at
syntax_at m n at other a t r q h e = let x : Told m n at other t (Err (Syntax a)) q = rw e at h in x.0

-- what is too big begins no filter within the limits
pub over : (m : Limits) (at : ℕ) (s : Reading) (t : Token) → 0 < m.literals → Good m s
    → Walks m (start []) (read_tokens s) s → step put m at s t ≡ Err TooBig → IsInLimits m (read_tokens s ++ t ∷ []) → ⊥
over m at s t some h w e (inl b) =
    let says : Says (read_tokens s ++ (t ∷ b.0)) b.1 = record {
      stands = b.2.0.stands;
      spelled = sym (append_assoc (read_tokens s) (t ∷ []) b.0) ∙ b.2.0.spelled;
    } in
    let walk : Walks m s (t ∷ b.0) (Behind (ends b.1 none []) [] (predicates_in b.1)) = passes m s (read_tokens s)
    (t ∷ b.0)
    b.1 w says b.2.1 in
    no_step m at s walk.0 t TooBig e (walk.1 at)
over m at s t some h w e (inr b) =
    big_no_comma m m at at t (step put m at s t) (step put m at s t) (told m m at at s t (same_limits m) h) e
    (snoc_last (read_tokens s) b.0 t token.Comma b.1.0)

-- limits with room for one more of each
abbrev bigger : Limits → Limits
bigger m = record { predicates = m.predicates + 1; groups = m.groups + 1; literals = m.literals + 1 }

bigger_up : (m : Limits) → IsUp m (bigger m)
bigger_up m = record { predicates = omega arith; groups = omega arith; literals = omega arith }

bigger_more : (m : Limits) → IsMore m (bigger m)
bigger_more m = record { predicates = omega arith; groups = omega arith; literals = omega arith }

up_good : (m n : Limits) (s : Reading) → 0 < m.literals → 0 < n.literals → IsUp m n → Good m s
    → Walks m (start []) (read_tokens s) s → Good n s
up_good m n s some more up h w = (walk_good n (read_tokens s) (start []) s more (starts_good n)
    (walk_up m n (read_tokens s) (start []) s some up (starts_good m) w)).1

has_room : (m : Limits) (place : Place) → IsPlaceWithin m.literals place → HasRoom (bigger m) place
has_room m Wants h = tt
has_room m After h = tt
has_room m (Inside (partial.Comma c b ls)) h = let lt : length ls.more + 1 < m.literals + 1 = omega (arith, h) in
    search (rules, lt)
has_room m (Inside _) h = tt

forget : (m : Limits) (front : List Token) → BeginsWithin m front → Begins front
forget m front b = (b.0, b.1, b.2.0)

-- what was read begins a filter
begins_any : (m : Limits) (s : Reading) → 0 < m.literals → Good m s → Walks m (start []) (read_tokens s) s
    → Begins (read_tokens s)
begins_any m s some h w =
    forget (bigger m) (read_tokens s) (begins_within (bigger m) s (omega (arith, some)) (up_good m (bigger m) s some
    (omega (arith, some)) (bigger_up m) h w) (has_room m s.place (good_place m.literals h.g s.place s.now s.outer
    s.read h.placed)))

walk_one : (m : Limits) (s q : Reading) (t : Token) (at : ℕ) → Good m s → Walks m (start []) (read_tokens s) s
    → step put m at s t ≡ Ok q → read_tokens q ≡ read_tokens s ++ t ∷ [] → Walks m (start []) (read_tokens q) q
walk_one m s q t at h w e r =
    let both : Walks m (start []) (read_tokens s ++ t ∷ []) q = join m (start []) s q (read_tokens s) (t ∷ []) w
    (q, (λ other. ok_told m m at other s q t (same_limits m) h e), refl) in
    rw r both

-- with what is too big the tokens still begin a filter
big_begins : (m : Limits) (at : ℕ) (s : Reading) (t : Token) → 0 < m.literals → Good m s
    → Walks m (start []) (read_tokens s) s → step put m at s t ≡ Err TooBig → Begins (read_tokens s ++ t ∷ [])
big_begins m at s t some h w e =
    let n : Limits = bigger m in
    let some_more : 0 < n.literals = omega (arith, some) in
    let good : Good n s = up_good m n s some some_more (bigger_up m) h w in
    let walk : Walks n (start []) (read_tokens s) s = walk_up m n (read_tokens s) (start []) s some (bigger_up m)
    (starts_good m) w in
    let z = big_goes m n at at t (step put m at s t) (step put n at s t) (told m n at at s t (bigger_up m) h) e
    (bigger_more m) in
    let x : StepAdds n (read_tokens s) t (Ok z.0) = rw z.1 at (step_adds n at s t some_more good) in
    rw x.0 at (begins_any n z.0 some_more x.1 (walk_one n s z.0 t at good walk z.1 x.0))

-- ---- the whole

words_snoc : (fs : List (ℕ × Token)) (x : ℕ × Token) → words (fs ++ x ∷ []) ≡ words fs ++ x.1 ∷ []
words_snoc [] x = refl
words_snoc (f ∷ fs) x = ap (λ (r : List Token). f.1 ∷ r) (words_snoc fs x)

-- what is read, as it is written, or why not
abbrev pub ReadsWritten : Limits → ℕ → List (ℕ × Token) → Result (List Written) FilterFault → Type 0
ReadsWritten m end tokens (Ok ts) = Says (words tokens) (top ts) × IsWithin m (top ts)
ReadsWritten m end tokens (Err e) = Reads m end tokens (Err e)

-- what the parser has read of the tokens
record Reached (m : Limits) (fs : List (ℕ × Token)) (s : Reading) : Type 0 where
  good : Good m s
  walk : Walks m (start []) (read_tokens s) s
  read : read_tokens s ≡ words fs

unfinished : (m : Limits) (fs : List (ℕ × Token)) (s : Reading) → 0 < m.literals → Reached m fs s
    → (s.place ≡ After → s.outer ≡ [] → ⊥) → EndsEarly m fs
unfinished m fs s some h open_still = record {
  fits = rw h.read at (begins_at m s s.place refl some h.good);
  begins = rw h.read at (begins_any m s some h.good h.walk);
  unfinished = λ t says.
      let n : Limits = roomy m t in
      let k : Says (read_tokens s ++ []) t = record {
        stands = says.stands;
        spelled = append-nil (read_tokens s) ∙
            h.read ∙ says.spelled;
      } in
      let same : s ≡ Behind (ends t none []) [] (predicates_in t) = passes n s (read_tokens s) [] t
      (walk_up m n (read_tokens s) (start []) s some (roomy_up m t) (starts_good m) h.walk) k (roomy_within m t) in
      open_still (ap (λ (x : Reading). x.place) same) (ap (λ (x : Reading). x.outer) same);
}

ended_reads : (m : Limits) (end : ℕ) (fs : List (ℕ × Token)) (s : Reading) → 0 < m.literals → Reached m fs s
    → (place : Place) (ps : List Pending) → s.place ≡ place → s.outer ≡ ps
    → ReadsWritten m end fs (ended put end s place ps)
unfolding ended
ended_reads m end fs s some h After [] p o =
    let x = finish_says m s p o h.good in
    (record { stands = x.0.stands; spelled = sym h.read ∙ x.0.spelled }, x.1)
ended_reads m end fs s some h Wants ps p o = inr (refl, unfinished m fs s some h (λ q r. absurd cc))
ended_reads m end fs s some h (Inside l) ps p o = inr (refl, unfinished m fs s some h (λ q r. absurd cc))
ended_reads m end fs s some h After (b ∷ ps) p o = inr (refl, unfinished m fs s some h (λ q r. absurd cc))

Later : Limits → ℕ → List (ℕ × Token) → Type 0
Later m end ts = (fs : List (ℕ × Token)) (s : Reading) → Reached m fs s
    → ReadsWritten m end (fs ++ ts) (outcome put m end s ts)

next_reads : (m : Limits) (end : ℕ) (fs : List (ℕ × Token)) (s : Reading) (x : ℕ × Token) (ts : List (ℕ × Token))
    → 0 < m.literals → Reached m fs s → Later m end ts
    → (r : Result Reading FilterFault) → step put m x.0 s x.1 ≡ r → StepAdds m (read_tokens s) x.1 r
    → ReadsWritten m end (fs ++ x ∷ ts) (r >>= λ next. outcome put m end next ts)
unfolding Later
next_reads m end fs s x ts some h later (Ok q) e a =
    let read : read_tokens q ≡ words (fs ++ x ∷ []) = a.0 ∙ ap (λ (r : List Token). r ++ x.1 ∷ []) h.read ∙ sym
    (words_snoc fs x) in
    let all : ReadsWritten m end ((fs ++ x ∷ []) ++ ts) (outcome put m end q ts) = later (fs ++ x ∷ []) q
    (record { good = a.1; walk = walk_one m s q x.1 x.0 h.good h.walk e a.0; read = read }) in
    rw (append_assoc fs (x ∷ []) ts) at all
next_reads m end fs s x ts some h later (Err (Syntax b)) e a =
    let same : b ≡ x.0 = syntax_at m m x.0 x.0 b x.1 (step put m x.0 s x.1) (step put m x.0 s x.1)
    (told m m x.0 x.0 s x.1 (same_limits m) h.good) e in
    inl (record {
      front = fs;
      next = x.1;
      rest = ts;
      split = rw same refl;
      fits = rw h.read at (begins_at m s s.place refl some h.good);
      begins = rw h.read at (begins_any m s some h.good h.walk);
      misplaced = λ b2. misplaced m x.0 b s x.1 some h.good h.walk e (rw h.read b2);
    })
next_reads m end fs s x ts some h later (Err TooBig) e a =
    record {
      front = fs;
      at = x.0;
      next = x.1;
      rest = ts;
      split = refl;
      fits = rw h.read at (begins_at m s s.place refl some h.good);
      begins = rw h.read at (big_begins m x.0 s x.1 some h.good h.walk e);
      over = λ b. over m x.0 s x.1 some h.good h.walk e (rw h.read b);
    }
next_reads m end fs s x ts some h later (Err f) e a =
    absurd (told_is m m x.0 x.0 x.1 (step put m x.0 s x.1) (step put m x.0 s x.1) f
    (told m m x.0 x.0 s x.1 (same_limits m) h.good) e)

reads_later : (m : Limits) (end : ℕ) → 0 < m.literals → (ts : List (ℕ × Token)) → Later m end ts
unfolding Later outcome finish
reads_later m end some [] fs s h = rw (append-nil fs) (ended_reads m end fs s some h s.place s.outer refl refl)
reads_later m end some (x ∷ ts) fs s h = next_reads m end fs s x ts some h (reads_later m end some ts)
    (step put m x.0 s x.1) refl (step_adds m x.0 s x.1 some h.good)

pub reads_written : (m : Limits) (end : ℕ) (ts : List (ℕ × Token)) → 0 < m.literals
    → ReadsWritten m end ts (outcome put m end (start []) ts)
unfolding Later
reads_written m end ts some = reads_later m end some ts [] (start []) (record {
  good = starts_good m;
  walk = refl;
  read = refl;
})
