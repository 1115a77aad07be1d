-- What is read from left to right is in the grammar: each token is the next one of what was read.
use Rattle.std.proofs.Common.{◌≡◌, ℕ, ◌+◌, ◌-◌, ◌<◌, ◌≤◌, Bool, true, false, cond, nat_lt, List, [], ◌∷◌, ◌++◌, length}
use Rattle.std.proofs.Common.{flat_map, Option, None, Some, Result, Ok, Err, refl, sym, ◌∙◌, ap, append_assoc, arith}
use Rattle.std.proofs.Common.{rules}
use Rattle.std.proofs.lemmas.Grind.{flat_map-append}
use Rattle.std.proofs.lemmas.List.{append-nil, length-append}
use Rattle.ice_filter.specs.declared.fault.FilterFault.{FilterFault}
use Rattle.ice_filter.specs.declared.fault.FilterFault.TheVariants.{TooBig}
use Rattle.ice_filter.specs.declared.token.Token.{Token}
use Rattle.ice_filter.specs.declared.token.Token.TheVariants as token
use Rattle.ice_filter.specs.declared.token.Comparison.{Comparison}
use Rattle.ice_filter.specs.declared.predicate.Column.{Column}
use Rattle.ice_filter.specs.declared.predicate.Choices.{Choices}
use Rattle.ice_filter.specs.declared.predicate.Literal.{Literal}
use Rattle.ice_filter.specs.declared.predicate.Literal.TheVariants as literal
use Rattle.ice_filter.specs.declared.predicate.Partial.{Partial}
use Rattle.ice_filter.specs.declared.predicate.Partial.TheVariants as partial
use Rattle.ice_filter.specs.declared.predicate.Progress.TheVariants as progress
use Rattle.ice_filter.specs.declared.parser.Pending.{Pending}
use Rattle.ice_filter.specs.declared.parser.Place.{Place}
use Rattle.ice_filter.specs.declared.parser.Place.TheVariants.{Wants, After, Inside}
use Rattle.ice_filter.specs.Grammar.{Written, truth, predicate, group, both, either, Limits, Level, unit, conj, filter}
use Rattle.ice_filter.specs.Grammar.{IsShort, IsWithin, predicates_in, tokens_in, predicate_tokens, column_tokens}
use Rattle.ice_filter.specs.Grammar.{choices_tokens, literal_token, in_tokens, dotted, listed, Says}
use Rattle.ice_filter.specs.Rebuilding.{Reading, top, below, put, partial_tokens, past, rest, operand, front, outside}
use Rattle.ice_filter.specs.Rebuilding.{fronts, read_tokens, place_tokens, Fits, FrontsFit, IsShortSoFar, HasTop}
use Rattle.ice_filter.specs.Rebuilding.{Placed, predicates_at, predicates_of, Good}
use Rattle.ice_filter.specs.Parsing.{State, Read, literal_of, behind_column, behind_dot, compared, behind_not}
use Rattle.ice_filter.specs.Parsing.{behind_in, chosen, behind_listed, chosen_too, behind_is, behind_is_not}
use Rattle.ice_filter.specs.Parsing.{
  behind_starts,
  begun,
  predicate_step,
  joined,
  joined_and,
  opened,
  began,
  held,
  anded,
}
use Rattle.ice_filter.specs.Parsing.{ored, at_unit, closed, after_unit, moved, step, step_at, ended, finish, outcome}
use Rattle.ice_filter.specs.Parsing.{start, none, Act}
use Rattle.ice_filter.specs.Parsing as parsing

-- ---- a predicate

-- the tokens of what a token made of a predicate are those before, and the token
abbrev pub Adds : List Token → Token → Read → Type 0
Adds before t (Ok (progress.Going p)) = partial_tokens p ≡ before ++ t ∷ []
Adds before t (Ok (progress.Done l)) = predicate_tokens l ≡ before ++ t ∷ []
Adds before t (Err e) = Unit {0}

is_literal : (t : Token) (l : Literal) → literal_of t ≡ Some l → literal_token l ≡ t
unfolding literal_of
is_literal (token.Truth b) l h = let e : literal.Truth b ≡ l = cc in rw (← e) refl
is_literal (token.Number n) l h = let e : literal.Number n ≡ l = cc in rw (← e) refl
is_literal (token.Text n) l h = let e : literal.Text n ≡ l = cc in rw (← e) refl
is_literal (token.Bytes n) l h = let e : literal.Bytes n ≡ l = cc in rw (← e) refl
is_literal _ l h = cc

-- the literal of a token
abbrev Of : Token → Option Literal → Type 0
Of t o = (l : Literal) → o ≡ Some l → literal_token l ≡ t

column_adds : (at : ℕ) (c : Column) (t : Token) → Adds (column_tokens c) t (behind_column at c t)
unfolding behind_column
column_adds at c token.Dot = refl
column_adds at c (token.Sign s) = refl
column_adds at c token.Not = refl
column_adds at c token.In = refl
column_adds at c token.Is = refl
column_adds at c token.Starts = refl
column_adds at c _ = tt

dot_adds : (at : ℕ) (c : Column) (t : Token) → Adds (column_tokens c ++ token.Dot ∷ []) t (behind_dot at c t)
unfolding behind_dot
dot_adds at c (token.Name n) = ap (λ ts. token.Name c.first ∷ ts) (flat_map-append dotted c.more (n ∷ []) ∙ sym
    (append_assoc (flat_map dotted c.more) (token.Dot ∷ []) (token.Name n ∷ [])))
dot_adds at c _ = tt

compared_adds : (at : ℕ) (c : Column) (sign : Comparison) (t : Token) (o : Option Literal) → Of t o
    → Adds (column_tokens c ++ token.Sign sign ∷ []) t (compared at c sign o)
unfolding compared
compared_adds at c sign t None h = tt
compared_adds at c sign t (Some l) h = rw (h l refl) (sym (append_assoc (column_tokens c) (token.Sign sign ∷ [])
    (t ∷ [])))

not_adds : (at : ℕ) (c : Column) (t : Token) → Adds (column_tokens c ++ token.Not ∷ []) t (behind_not at c t)
unfolding behind_not
not_adds at c token.In = sym (append_assoc (column_tokens c) (token.Not ∷ []) (token.In ∷ []))
not_adds at c _ = tt

in_adds : (at : ℕ) (c : Column) (n : Bool) (t : Token) → Adds (column_tokens c ++ in_tokens n) t (behind_in at c n t)
unfolding behind_in
in_adds at c n token.Open = sym (append_assoc (column_tokens c) (in_tokens n) (token.Open ∷ []))
in_adds at c n _ = tt

chosen_adds : (at : ℕ) (c : Column) (n : Bool) (t : Token) (o : Option Literal) → Of t o
    → Adds (column_tokens c ++ (in_tokens n ++ token.Open ∷ [])) t (chosen at c n o)
unfolding chosen
chosen_adds at c n t None h = tt
chosen_adds at c n t (Some l) h = rw (h l refl) (simp append_assoc)

listed_adds : (at : ℕ) (c : Column) (n : Bool) (ls : Choices) (t : Token)
    → Adds (column_tokens c ++ (in_tokens n ++ token.Open ∷ choices_tokens ls)) t (behind_listed at c n ls t)
unfolding behind_listed
listed_adds at c n ls token.Comma = simp append_assoc
listed_adds at c n ls token.Close = simp append_assoc
listed_adds at c n ls _ = tt

within : (before : List Token) (t : Token) (p : Partial) (b : Bool) → partial_tokens p ≡ before ++ t ∷ []
    → Adds before t (cond b (Ok (progress.Going p)) (Err TooBig))
within before t p true h = h
within before t p false h = tt

more_listed : (ls : Choices) (l : Literal) → choices_tokens (record ls { more = ls.more ++ l ∷ [] }) ≡ choices_tokens ls
    ++ token.Comma ∷ literal_token l ∷ []
more_listed ls l = ap (λ ts. literal_token ls.first ∷ ts) (flat_map-append listed ls.more (l ∷ []))

chosen_too_adds : (most at : ℕ) (c : Column) (n : Bool) (ls : Choices) (t : Token) (o : Option Literal) → Of t o
    → Adds (column_tokens c ++ (in_tokens n ++ token.Open ∷ (choices_tokens ls ++ token.Comma ∷ []))) t
    (chosen_too most at c n ls o)
unfolding chosen_too
chosen_too_adds most at c n ls t None h = tt
chosen_too_adds most at c n ls t (Some l) h =
    within (column_tokens c ++ (in_tokens n ++ token.Open ∷ (choices_tokens ls ++ token.Comma ∷ []))) t
    (partial.Listed c n (record ls { more = ls.more ++ l ∷ [] })) (nat_lt (length ls.more + 1) most)
    (rw (more_listed ls l, h l refl) (simp append_assoc))

is_adds : (at : ℕ) (c : Column) (t : Token) → Adds (column_tokens c ++ token.Is ∷ []) t (behind_is at c t)
unfolding behind_is
is_adds at c token.Null = sym (append_assoc (column_tokens c) (token.Is ∷ []) (token.Null ∷ []))
is_adds at c token.Not = sym (append_assoc (column_tokens c) (token.Is ∷ []) (token.Not ∷ []))
is_adds at c _ = tt

is_not_adds : (at : ℕ) (c : Column) (t : Token)
    → Adds (column_tokens c ++ token.Is ∷ token.Not ∷ []) t (behind_is_not at c t)
unfolding behind_is_not
is_not_adds at c token.Null = sym (append_assoc (column_tokens c) (token.Is ∷ token.Not ∷ []) (token.Null ∷ []))
is_not_adds at c _ = tt

starts_adds : (at : ℕ) (c : Column) (t : Token) → Adds (column_tokens c ++ token.Starts ∷ []) t (behind_starts at c t)
unfolding behind_starts
starts_adds at c token.With = sym (append_assoc (column_tokens c) (token.Starts ∷ []) (token.With ∷ []))
starts_adds at c _ = tt

begun_adds : (at : ℕ) (c : Column) (t : Token) (o : Option Literal) → Of t o
    → Adds (column_tokens c ++ token.Starts ∷ token.With ∷ []) t (begun at c o)
unfolding begun
begun_adds at c t None h = tt
begun_adds at c t (Some l) h = rw (h l refl) (sym (append_assoc (column_tokens c) (token.Starts ∷ token.With ∷ [])
    (t ∷ [])))

pub predicate_adds : (most at : ℕ) (p : Partial) (t : Token) → Adds (partial_tokens p) t (predicate_step most at p t)
unfolding predicate_step
predicate_adds most at (partial.Column c) t = column_adds at c t
predicate_adds most at (partial.Dot c) t = dot_adds at c t
predicate_adds most at (partial.Sign c sign) t = compared_adds at c sign t (literal_of t) (is_literal t)
predicate_adds most at (partial.Not c) t = not_adds at c t
predicate_adds most at (partial.In c n) t = in_adds at c n t
predicate_adds most at (partial.Open c n) t = chosen_adds at c n t (literal_of t) (is_literal t)
predicate_adds most at (partial.Listed c n ls) t = listed_adds at c n ls t
predicate_adds most at (partial.Comma c n ls) t = chosen_too_adds most at c n ls t (literal_of t) (is_literal t)
predicate_adds most at (partial.Is c) t = is_adds at c t
predicate_adds most at (partial.IsNot c) t = is_not_adds at c t
predicate_adds most at (partial.Starts c) t = starts_adds at c t
predicate_adds most at (partial.With c) t = begun_adds at c t (literal_of t) (is_literal t)

-- ---- the lists of a predicate

abbrev IsShortAfter : ℕ → Read → Type 0
IsShortAfter most (Ok (progress.Going p)) = IsShortSoFar most p
IsShortAfter most (Ok (progress.Done l)) = IsShort most l.question
IsShortAfter most (Err e) = Unit {0}

column_short : (most at : ℕ) (c : Column) (t : Token) → IsShortAfter most (behind_column at c t)
unfolding behind_column
column_short most at c token.Dot = tt
column_short most at c (token.Sign s) = tt
column_short most at c token.Not = tt
column_short most at c token.In = tt
column_short most at c token.Is = tt
column_short most at c token.Starts = tt
column_short most at c _ = tt

dot_short : (most at : ℕ) (c : Column) (t : Token) → IsShortAfter most (behind_dot at c t)
unfolding behind_dot
dot_short most at c (token.Name n) = tt
dot_short most at c _ = tt

compared_short : (most at : ℕ) (c : Column) (sign : Comparison) (o : Option Literal)
    → IsShortAfter most (compared at c sign o)
unfolding compared
compared_short most at c sign None = tt
compared_short most at c sign (Some l) = tt

not_short : (most at : ℕ) (c : Column) (t : Token) → IsShortAfter most (behind_not at c t)
unfolding behind_not
not_short most at c token.In = tt
not_short most at c _ = tt

in_short : (most at : ℕ) (c : Column) (n : Bool) (t : Token) → IsShortAfter most (behind_in at c n t)
unfolding behind_in
in_short most at c n token.Open = tt
in_short most at c n _ = tt

chosen_short : (most at : ℕ) (c : Column) (n : Bool) (o : Option Literal) → 0 < most
    → IsShortAfter most (chosen at c n o)
unfolding chosen
chosen_short most at c n None some = tt
chosen_short most at c n (Some l) some = some

listed_short : (most at : ℕ) (c : Column) (n : Bool) (ls : Choices) (t : Token) → length ls.more < most
    → IsShortAfter most (behind_listed at c n ls t)
unfolding behind_listed
listed_short most at c n ls token.Comma h = h
listed_short most at c n ls token.Close h = h
listed_short most at c n ls _ h = tt

short_if : (most : ℕ) (p : Partial) (b : Bool) → (b ≡ true → IsShortSoFar most p)
    → IsShortAfter most (cond b (Ok (progress.Going p)) (Err TooBig))
short_if most p true h = h refl
short_if most p false h = tt

chosen_too_short : (most at : ℕ) (c : Column) (n : Bool) (ls : Choices) (o : Option Literal)
    → IsShortAfter most (chosen_too most at c n ls o)
unfolding chosen_too
chosen_too_short most at c n ls None = tt
chosen_too_short most at c n ls (Some l) =
    short_if most (partial.Listed c n (record ls { more = ls.more ++ l ∷ [] })) (nat_lt (length ls.more + 1) most)
    (λ e. let lt : length ls.more + 1 < most = search (rules, e) in rw (length-append ls.more (l ∷ [])) lt)

is_short : (most at : ℕ) (c : Column) (t : Token) → IsShortAfter most (behind_is at c t)
unfolding behind_is
is_short most at c token.Null = tt
is_short most at c token.Not = tt
is_short most at c _ = tt

is_not_short : (most at : ℕ) (c : Column) (t : Token) → IsShortAfter most (behind_is_not at c t)
unfolding behind_is_not
is_not_short most at c token.Null = tt
is_not_short most at c _ = tt

starts_short : (most at : ℕ) (c : Column) (t : Token) → IsShortAfter most (behind_starts at c t)
unfolding behind_starts
starts_short most at c token.With = tt
starts_short most at c _ = tt

begun_short : (most at : ℕ) (c : Column) (o : Option Literal) → IsShortAfter most (begun at c o)
unfolding begun
begun_short most at c None = tt
begun_short most at c (Some l) = tt

predicate_short : (most at : ℕ) (p : Partial) (t : Token) → 0 < most → IsShortSoFar most p
    → IsShortAfter most (predicate_step most at p t)
unfolding predicate_step
predicate_short most at (partial.Column c) t some h = column_short most at c t
predicate_short most at (partial.Dot c) t some h = dot_short most at c t
predicate_short most at (partial.Sign c sign) t some h = compared_short most at c sign (literal_of t)
predicate_short most at (partial.Not c) t some h = not_short most at c t
predicate_short most at (partial.In c n) t some h = in_short most at c n t
predicate_short most at (partial.Open c n) t some h = chosen_short most at c n (literal_of t) some
predicate_short most at (partial.Listed c n ls) t some h = listed_short most at c n ls t h
predicate_short most at (partial.Comma c n ls) t some h = chosen_too_short most at c n ls (literal_of t)
predicate_short most at (partial.Is c) t some h = is_short most at c t
predicate_short most at (partial.IsNot c) t some h = is_not_short most at c t
predicate_short most at (partial.Starts c) t some h = starts_short most at c t
predicate_short most at (partial.With c) t some h = begun_short most at c (literal_of t)

-- ---- a filter

as_conj : (most g : ℕ) (t : Written) → Fits most g unit t → Fits most g conj t
as_conj most g (truth b) h = h
as_conj most g (predicate l) h = h
as_conj most g (group t) h = h
as_conj most g (both s t) h = absurd h.0
as_conj most g (either s t) h = absurd h.0

as_filter : (most g : ℕ) (t : Written) → Fits most g conj t → Fits most g filter t
as_filter most g (truth b) h = h
as_filter most g (predicate l) h = h
as_filter most g (group t) h = h
as_filter most g (both s t) h = h
as_filter most g (either s t) h = absurd h.0

-- the tokens of what a token made of a state are those before, and the token
abbrev pub StepAdds : Limits → List Token → Token → Result Reading FilterFault → Type 0
StepAdds m before t (Ok q) = (read_tokens q ≡ before ++ t ∷ []) × Good m q
StepAdds m before t (Err e) = Unit {0}

allowed : (m : Limits) (before : List Token) (t : Token) (q : Reading) (b : Bool)
    → (b ≡ true → StepAdds m before t (Ok q)) → StepAdds m before t (cond b (Ok q) (Err TooBig))
allowed m before t q true h = h refl
allowed m before t q false h = tt

less : (a n : ℕ) → nat_lt a n ≡ true → a < n
less a n e = search (rules, e)

open_adds : (m : Limits) (s : Reading) (g : ℕ) → g + length s.outer ≡ m.groups
    → FrontsFit m.literals g s.now s.outer s.read → predicates_of s.read ≡ s.predicates → s.predicates ≤ m.predicates
    → StepAdds m (fronts s.now s.outer s.read) token.Open (opened m s)
unfolding opened
open_adds m s g room h k few =
    allowed m (fronts s.now s.outer s.read) token.Open (record {
      place = Wants;
      now = none;
      outer = s.now ∷ s.outer;
      read = s.read;
      predicates = s.predicates;
    }) (nat_lt (length s.outer) m.groups)
    (λ e. let lt : length s.outer < m.groups = less (length s.outer) m.groups e in
    let back : g - 1 + 1 ≡ g = omega (arith, lt, room) in (
      append-nil (fronts s.now s.outer s.read ++ token.Open ∷ []),
      record {
        g = g - 1;
        open_left = omega (arith, lt, room);
        placed = (rw back (h.0, h.1), (tt, tt));
        counted = omega (arith, k);
        few = few;
      },
    ))

begin_adds : (m : Limits) (s : Reading) (n : List ℕ) (g : ℕ) → g + length s.outer ≡ m.groups
    → FrontsFit m.literals g s.now s.outer s.read → predicates_of s.read ≡ s.predicates
    → StepAdds m (fronts s.now s.outer s.read) (token.Name n) (began m s n)
unfolding began
begin_adds m s n g room h k =
    allowed m (fronts s.now s.outer s.read) (token.Name n)
    (record s { place = Inside (partial.Column (record { first = n; more = [] })); predicates = s.predicates + 1 })
    (nat_lt s.predicates m.predicates)
    (λ e. let lt : s.predicates < m.predicates = less s.predicates m.predicates e in
    (refl, record { g = g; open_left = room; placed = (h, tt); counted = omega (arith, k); few = omega (arith, lt) }))

unit_adds : (m : Limits) (at : ℕ) (s : Reading) (t : Token) (g : ℕ) → g + length s.outer ≡ m.groups
    → FrontsFit m.literals g s.now s.outer s.read → predicates_of s.read ≡ s.predicates → s.predicates ≤ m.predicates
    → StepAdds m (fronts s.now s.outer s.read) t (at_unit put m at s t)
unfolding at_unit held
unit_adds m at s token.Open g room h k few = open_adds m s g room h k few
unit_adds m at s (token.Truth b) g room h k few =
    (refl, record { g = g; open_left = room; placed = (h, (tt, tt), tt); counted = omega (arith, k); few = few })
unit_adds m at s (token.Name n) g room h k few = begin_adds m s n g room h k
unit_adds m at s _ g room h k few = tt

-- the operands once those of `and` have ended: the last one is all that was read of them
abbrev pub Ends : (most g : ℕ) (p q : Pending) (ps : List Pending) (ts js : List Written) (l : Level) → Type 0
Ends most g p q ps ts js l = (fronts q ps (below js) ++ tokens_in (top js) ≡ fronts p ps (below ts) ++ tokens_in
    (top ts)) × FrontsFit most g q ps (below js) × Fits most g l (top js)

and_ends : (most g : ℕ) (e b : Bool) (ps : List Pending) (ts : List Written)
    → FrontsFit most g (record { either = e; both = b }) ps (below ts) → Fits most g unit (top ts)
    → Ends most g (record { either = e; both = b }) (record { either = e; both = false }) ps ts
    (joined_and put (record { either = e; both = b }) ts) conj
unfolding joined_and
and_ends most g e false ps ts h k = (refl, h, as_conj most g (top ts) k)
and_ends most g e true ps ts h k = (
  simp (append_assoc, append-nil),
  (h.0, (h.1.0, tt)),
  ((h.1.1.0, k.0), (h.1.1.1, k.1)),
)

pub or_ends : (most g : ℕ) (e b : Bool) (ps : List Pending) (ts : List Written)
    → FrontsFit most g (record { either = e; both = b }) ps (below ts) → Fits most g unit (top ts)
    → Ends most g (record { either = e; both = b }) none ps ts (joined put (record { either = e; both = b }) ts) filter
unfolding joined
or_ends most g false b ps ts h k =
    let r = and_ends most g false b ps ts h k in
    (r.0, r.1, as_filter most g (top (joined_and put (record { either = false; both = b }) ts)) r.2)
or_ends most g true b ps ts h k =
    let r = and_ends most g true b ps ts h k in
    ((simp (append_assoc, append-nil)) ∙ r.0, (r.1.0, (tt, tt)), ((r.1.1.0.0, r.2.0), (r.1.1.0.1, r.2.1)))

both_predicates : (b : Bool) (ts : List Written) → predicates_of (cond b (put ts parsing.both) ts) ≡ predicates_of ts
both_predicates false ts = refl
both_predicates true [] = refl
both_predicates true (t ∷ []) = omega arith
both_predicates true (t ∷ u ∷ ts) = omega arith

either_predicates : (b : Bool) (ts : List Written)
    → predicates_of (cond b (put ts parsing.either) ts) ≡ predicates_of ts
either_predicates false ts = refl
either_predicates true [] = refl
either_predicates true (t ∷ []) = omega arith
either_predicates true (t ∷ u ∷ ts) = omega arith

and_predicates : (p : Pending) (ts : List Written) → predicates_of (joined_and put p ts) ≡ predicates_of ts
unfolding joined_and
and_predicates p ts = both_predicates p.both ts

or_predicates : (p : Pending) (ts : List Written) → predicates_of (joined put p ts) ≡ predicates_of ts
unfolding joined
or_predicates p ts = either_predicates p.either (joined_and put p ts) ∙ and_predicates p ts

top_predicates : (ts : List Written) → predicates_in (top ts) + predicates_of (below ts) ≡ predicates_of ts
top_predicates [] = refl
top_predicates (t ∷ ts) = refl

regroup_close : (o f t : List Token) → (o ++ f) ++ (token.Open ∷ (t ++ token.Close ∷ []))
    ≡ ((((o ++ f) ++ token.Open ∷ []) ++ []) ++ t) ++ token.Close ∷ []
regroup_close o f t = simp (append_assoc, append-nil)

regroup_and : (o f t : List Token) → o ++ (f ++ (t ++ token.And ∷ [])) ≡ ((o ++ (f ++ [])) ++ t) ++ token.And ∷ []
regroup_and o f t = simp (append_assoc, append-nil)

regroup_or : (o t : List Token) → o ++ ((t ++ token.Or ∷ []) ++ []) ≡ ((o ++ []) ++ t) ++ token.Or ∷ []
regroup_or o t = simp (append_assoc, append-nil)

both_top : (b : Bool) (ts : List Written) → HasTop ts → HasTop (cond b (put ts parsing.both) ts)
both_top false ts h = h
both_top true ts h = tt

either_top : (b : Bool) (ts : List Written) → HasTop ts → HasTop (cond b (put ts parsing.either) ts)
either_top false ts h = h
either_top true ts h = tt

or_top : (p : Pending) (ts : List Written) → HasTop ts → HasTop (joined put p ts)
unfolding joined joined_and
or_top p ts h = either_top p.either (cond p.both (put ts parsing.both) ts) (both_top p.both ts h)

grouped : (ts : List Written) → HasTop ts → put ts parsing.group ≡ group (top ts) ∷ below ts
grouped [] h = absurd h
grouped (t ∷ ts) h = refl

closed_adds : (m : Limits) (at : ℕ) (s : Reading) (g : ℕ) (ps : List Pending) → g + length ps ≡ m.groups
    → Ends m.literals g s.now none ps s.read (joined put s.now s.read) filter → HasTop s.read
    → predicates_of s.read ≡ s.predicates → s.predicates ≤ m.predicates
    → StepAdds m (fronts s.now ps (below s.read) ++ tokens_in (top s.read)) token.Close (closed put at s ps)
unfolding closed
closed_adds m at s g [] room h has k few = tt
closed_adds m at s g (p ∷ ps) room h has k few =
    let js = joined put s.now s.read in
    let same : predicates_in (top js) + predicates_of (below js) ≡ s.predicates = top_predicates js
    ∙ or_predicates s.now s.read ∙ k in
    let e : g + 1 - 1 ≡ g = omega arith in
    rw (grouped js (or_top s.now s.read has)) (
      regroup_close (outside ps (rest p (below js))) (front p (below js)) (tokens_in (top js)) ∙ ap
          (λ (x : List Token). x ++ token.Close ∷ []) h.0,
      record {
        g = g + 1;
        open_left = omega (arith, room);
        placed = (h.1.0, (h.2.0, (omega arith, rw e h.2.1)), tt);
        counted = omega (arith, same);
        few = few;
      },
    )

after_adds : (m : Limits) (at : ℕ) (s : Reading) (t : Token) (g : ℕ) → g + length s.outer ≡ m.groups
    → FrontsFit m.literals g s.now s.outer (below s.read) → Fits m.literals g unit (top s.read) → HasTop s.read
    → predicates_of s.read ≡ s.predicates → s.predicates ≤ m.predicates
    → StepAdds m (fronts s.now s.outer (below s.read) ++ tokens_in (top s.read)) t (after_unit put at s t)
unfolding after_unit anded ored
after_adds m at s token.And g room h k has c few =
    let r = and_ends m.literals g s.now.either s.now.both s.outer s.read h k in
    let js = joined_and put s.now s.read in
    let same : predicates_of js ≡ s.predicates = and_predicates s.now s.read ∙ c in (
      regroup_and (outside s.outer (past s.now.either (below js))) (operand s.now.either (below js) token.Or)
          (tokens_in (top js)) ∙ ap (λ (x : List Token). x ++ token.And ∷ []) r.0,
      record {
        g = g;
        open_left = room;
        placed = (r.1.0, (r.1.1.0, r.2));
        counted = omega (arith, same);
        few = few;
      },
    )
after_adds m at s token.Or g room h k has c few =
    let r = or_ends m.literals g s.now.either s.now.both s.outer s.read h k in
    let js = joined put s.now s.read in
    let same : predicates_of js ≡ s.predicates = or_predicates s.now s.read ∙ c in (
      regroup_or (outside s.outer (below js)) (tokens_in (top js)) ∙ ap (λ (x : List Token). x ++ token.Or ∷ []) r.0,
      record {
        g = g;
        open_left = room;
        placed = (r.1.0, (r.2, tt));
        counted = omega (arith, same);
        few = few;
      },
    )
after_adds m at s token.Close g room h k has c few = closed_adds m at s g s.outer room
    (or_ends m.literals g s.now.either s.now.both s.outer s.read h k) has c few
after_adds m at s _ g room h k has c few = tt

inside_adds : (m : Limits) (s : Reading) (before : List Token) (t : Token) (r : Read) (g : ℕ)
    → g + length s.outer ≡ m.groups → FrontsFit m.literals g s.now s.outer s.read
    → 1 + predicates_of s.read ≡ s.predicates
    → s.predicates ≤ m.predicates → Adds before t r → IsShortAfter m.literals r
    → StepAdds m (fronts s.now s.outer s.read ++ before) t (moved put s r)
unfolding moved held
inside_adds m s before t (Ok (progress.Going p)) g room h c few k short = (
  rw k (sym (append_assoc (fronts s.now s.outer s.read) before (t ∷ []))),
  record {
    g = g;
    open_left = room;
    placed = (h, short);
    counted = c;
    few = few;
  },
)
inside_adds m s before t (Ok (progress.Done l)) g room h c few k short = (
  rw k (sym (append_assoc (fronts s.now s.outer s.read) before (t ∷ []))),
  record {
    g = g;
    open_left = room;
    placed = (h, (tt, short), tt);
    counted = omega (arith, c);
    few = few;
  },
)
inside_adds m s before t (Err e) g room h c few k short = tt

at_adds : (m : Limits) (at : ℕ) (s : Reading) (place : Place) (t : Token) (g : ℕ) → 0 < m.literals
    → g + length s.outer ≡ m.groups → Placed m.literals g place s.now s.outer s.read
    → predicates_at place + predicates_of s.read ≡ s.predicates → s.predicates ≤ m.predicates
    → StepAdds m (place_tokens place s.now s.outer s.read) t (step_at put m at s place t)
unfolding step_at
at_adds m at s Wants t g some room h c few = unit_adds m at s t g room h (omega (arith, c)) few
at_adds m at s After t g some room h c few = after_adds m at s t g room h.0 h.1 h.2 (omega (arith, c)) few
at_adds m at s (Inside p) t g some room h c few =
    inside_adds m (record s { place = Wants }) (partial_tokens p) t (predicate_step m.literals at p t) g room h.0 c few
    (predicate_adds m.literals at p t) (predicate_short m.literals at p t some h.1)

pub step_adds : (m : Limits) (at : ℕ) (s : Reading) (t : Token) → 0 < m.literals → Good m s
    → StepAdds m (read_tokens s) t (step put m at s t)
unfolding step
step_adds m at s t some h = at_adds m at s s.place t h.g some h.open_left h.placed h.counted h.few

pub starts_good : (m : Limits) → Good m (start [])
starts_good m = record {
  g = m.groups;
  open_left = omega arith;
  placed = (tt, (tt, tt));
  counted = refl;
  few = omega arith;
}

-- what is read where the tokens end
pub finish_says : (m : Limits) (s : Reading) → s.place ≡ After → s.outer ≡ [] → Good m s
    → Says (read_tokens s) (top (joined put s.now s.read)) × IsWithin m (top (joined put s.now s.read))
finish_says m s p o h =
    let js = joined put s.now s.read in
    let at : Placed m.literals h.g After s.now [] s.read = rw (p, o) at h.placed in
    let r = or_ends m.literals h.g s.now.either s.now.both [] s.read at.0 at.1 in
    let all : h.g ≡ m.groups = let l : h.g + length s.outer ≡ m.groups = h.open_left in let k : h.g + 0 ≡ m.groups =
    rw o at l in omega (arith, k) in
    let c : 0 + predicates_of s.read ≡ s.predicates = rw p at h.counted in
    let told : place_tokens After s.now [] s.read ≡ read_tokens s = rw (p, o) refl in
    let same : predicates_in (top js) + predicates_of (below js) ≡ predicates_of s.read =
    top_predicates js ∙ or_predicates s.now s.read in (
      record { stands = r.2.0; spelled = sym told ∙ sym r.0 },
      record {
        few = omega (arith, same, c, h.few);
        shallow = rw all at r.2.1;
      },
    )
