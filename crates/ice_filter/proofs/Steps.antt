-- Reading under larger limits, and at other offsets, takes the same steps.
use Rattle.std.proofs.Common.{◌≡◌, ◌≢◌, ℕ, ◌+◌, ◌<◌, ◌≤◌, Bool, true, false, cond, nat_lt, List, [], ◌∷◌, ◌++◌, length}
use Rattle.std.proofs.Common.{Option, None, Some, Result, Ok, Err, refl, arith, rules}
use Rattle.ice_filter.specs.declared.fault.FilterFault.{FilterFault}
use Rattle.ice_filter.specs.declared.fault.FilterFault.TheVariants.{Syntax, TooBig}
use Rattle.ice_filter.specs.declared.token.Token.{Token}
use Rattle.ice_filter.specs.declared.token.Token.TheVariants as token
use Rattle.ice_filter.specs.declared.token.Comparison.{Comparison}
use Rattle.ice_filter.specs.declared.predicate.Column.{Column}
use Rattle.ice_filter.specs.declared.predicate.Choices.{Choices}
use Rattle.ice_filter.specs.declared.predicate.Literal.{Literal}
use Rattle.ice_filter.specs.declared.predicate.Partial.{Partial}
use Rattle.ice_filter.specs.declared.predicate.Partial.TheVariants as partial
use Rattle.ice_filter.specs.declared.predicate.Progress.{Progress}
use Rattle.ice_filter.specs.declared.predicate.Progress.TheVariants as progress
use Rattle.ice_filter.specs.declared.parser.Pending.{Pending}
use Rattle.ice_filter.specs.declared.parser.Place.{Place}
use Rattle.ice_filter.specs.declared.parser.Place.TheVariants.{Wants, After, Inside}
use Rattle.ice_filter.specs.Grammar.{Limits}
use Rattle.ice_filter.specs.Rebuilding.{Reading, put}
use Rattle.ice_filter.specs.Parsing.{Act, State, Read, literal_of, behind_column, behind_dot, compared, behind_not}
use Rattle.ice_filter.specs.Parsing.{behind_in, chosen, behind_listed, chosen_too, behind_is, behind_is_not}
use Rattle.ice_filter.specs.Parsing.{
  behind_starts,
  begun,
  predicate_step,
  opened,
  began,
  held,
  anded,
  ored,
  at_unit,
  closed,
}
use Rattle.ice_filter.specs.Parsing.{after_unit, moved, step, step_at, none}
use Rattle.ice_filter.specs.Parsing as parsing

-- the second limits are not smaller, larger
pub record IsUp (m n : Limits) : Type 0 where
  pub predicates : m.predicates ≤ n.predicates
  pub groups : m.groups ≤ n.groups
  pub literals : m.literals ≤ n.literals

pub record IsMore (m n : Limits) : Type 0 where
  pub predicates : m.predicates < n.predicates
  pub groups : m.groups < n.groups
  pub literals : m.literals < n.literals

-- what a step under limits m at an offset tells of the same step under limits n at another
abbrev pub Told : {A : Type 0} → (m n : Limits) (at other : ℕ) (t : Token) → Result A FilterFault → Result A FilterFault
    → Type 0
Told m n at other t (Ok q) r = r ≡ Ok q
Told m n at other t (Err (Syntax a)) r = (a ≡ at) × (r ≡ Err (Syntax other))
Told {A} m n at other t (Err TooBig) r = (t ≢ token.Comma) × (IsMore m n → (q : A) × (r ≡ Ok q))
Told m n at other t (Err _) r = ⊥

room : (a n : ℕ) → a < n → nat_lt a n ≡ true
room a n h = search (rules, h)

less : (a n : ℕ) → nat_lt a n ≡ true → a < n
less a n e = search (rules, e)

least : (a n : ℕ) → nat_lt a n ≡ false → n ≤ a
least a n e = search (rules, e)

-- a test against a limit
limited : {A : Type 0} → (m n : Limits) (at other : ℕ) (t : Token) (q : A) (a k l : ℕ) → t ≢ token.Comma → k ≤ l
    → (IsMore m n → k < l) → a ≤ k → (b : Bool) → nat_lt a k ≡ b
    → Told m n at other t (cond b (Ok q) (Err TooBig)) (cond (nat_lt a l) (Ok q) (Err TooBig))
limited m n at other t q a k l ne le lt within true e = let k2 : nat_lt a l ≡ true =
    room a l (omega (arith, less a k e)) in rw k2 refl
limited m n at other t q a k l ne le lt within false e =
    (ne, λ more. (q, let k2 : nat_lt a l ≡ true = room a l (omega (arith, lt more)) in rw k2 refl))

no_comma : (t : Token) (l : Literal) → literal_of t ≡ Some l → t ≢ token.Comma
unfolding literal_of
no_comma token.Comma l h = absurd cc
no_comma (token.Truth b) l h = λ e. absurd cc
no_comma (token.Number b) l h = λ e. absurd cc
no_comma (token.Text b) l h = λ e. absurd cc
no_comma (token.Bytes b) l h = λ e. absurd cc
no_comma _ l h = absurd cc

column_told : (m n : Limits) (at other : ℕ) (c : Column) (t : Token)
    → Told m n at other t (behind_column at c t) (behind_column other c t)
unfolding behind_column
column_told m n at other c token.Dot = refl
column_told m n at other c (token.Sign s) = refl
column_told m n at other c token.Not = refl
column_told m n at other c token.In = refl
column_told m n at other c token.Is = refl
column_told m n at other c token.Starts = refl
column_told m n at other c _ = (refl, refl)

dot_told : (m n : Limits) (at other : ℕ) (c : Column) (t : Token)
    → Told m n at other t (behind_dot at c t) (behind_dot other c t)
unfolding behind_dot
dot_told m n at other c (token.Name x) = refl
dot_told m n at other c _ = (refl, refl)

compared_told : (m n : Limits) (at other : ℕ) (c : Column) (sign : Comparison) (t : Token) (o : Option Literal)
    → Told m n at other t (compared at c sign o) (compared other c sign o)
unfolding compared
compared_told m n at other c sign t None = (refl, refl)
compared_told m n at other c sign t (Some l) = refl

not_told : (m n : Limits) (at other : ℕ) (c : Column) (t : Token)
    → Told m n at other t (behind_not at c t) (behind_not other c t)
unfolding behind_not
not_told m n at other c token.In = refl
not_told m n at other c _ = (refl, refl)

in_told : (m n : Limits) (at other : ℕ) (c : Column) (b : Bool) (t : Token)
    → Told m n at other t (behind_in at c b t) (behind_in other c b t)
unfolding behind_in
in_told m n at other c b token.Open = refl
in_told m n at other c b _ = (refl, refl)

chosen_told : (m n : Limits) (at other : ℕ) (c : Column) (b : Bool) (t : Token) (o : Option Literal)
    → Told m n at other t (chosen at c b o) (chosen other c b o)
unfolding chosen
chosen_told m n at other c b t None = (refl, refl)
chosen_told m n at other c b t (Some l) = refl

listed_told : (m n : Limits) (at other : ℕ) (c : Column) (b : Bool) (ls : Choices) (t : Token)
    → Told m n at other t (behind_listed at c b ls t) (behind_listed other c b ls t)
unfolding behind_listed
listed_told m n at other c b ls token.Comma = refl
listed_told m n at other c b ls token.Close = refl
listed_told m n at other c b ls _ = (refl, refl)

is_told : (m n : Limits) (at other : ℕ) (c : Column) (t : Token)
    → Told m n at other t (behind_is at c t) (behind_is other c t)
unfolding behind_is
is_told m n at other c token.Null = refl
is_told m n at other c token.Not = refl
is_told m n at other c _ = (refl, refl)

is_not_told : (m n : Limits) (at other : ℕ) (c : Column) (t : Token)
    → Told m n at other t (behind_is_not at c t) (behind_is_not other c t)
unfolding behind_is_not
is_not_told m n at other c token.Null = refl
is_not_told m n at other c _ = (refl, refl)

starts_told : (m n : Limits) (at other : ℕ) (c : Column) (t : Token)
    → Told m n at other t (behind_starts at c t) (behind_starts other c t)
unfolding behind_starts
starts_told m n at other c token.With = refl
starts_told m n at other c _ = (refl, refl)

begun_told : (m n : Limits) (at other : ℕ) (c : Column) (t : Token) (o : Option Literal)
    → Told m n at other t (begun at c o) (begun other c o)
unfolding begun
begun_told m n at other c t None = (refl, refl)
begun_told m n at other c t (Some l) = refl

-- a list that is within the limits so far
abbrev pub IsListWithin : ℕ → Partial → Type 0
IsListWithin most (partial.Comma c b ls) = length ls.more < most
IsListWithin most _ = Unit {0}

chosen_too_told : (m n : Limits) (at other : ℕ) (c : Column) (b : Bool) (ls : Choices) (t : Token) (o : Option Literal)
    → IsUp m n → literal_of t ≡ o → length ls.more < m.literals
    → Told m n at other t (chosen_too m.literals at c b ls o) (chosen_too n.literals other c b ls o)
unfolding chosen_too
chosen_too_told m n at other c b ls t None up e short = (refl, refl)
chosen_too_told m n at other c b ls t (Some l) up e short =
    limited m n at other t (progress.Going (partial.Listed c b (record ls { more = ls.more ++ l ∷ [] })))
    (length ls.more + 1) m.literals n.literals (no_comma t l e) up.literals (λ x. x.literals) (omega (arith, short))
    (nat_lt (length ls.more + 1) m.literals) refl

predicate_told : (m n : Limits) (at other : ℕ) (p : Partial) (t : Token) → IsUp m n → IsListWithin m.literals p
    → Told m n at other t (predicate_step m.literals at p t) (predicate_step n.literals other p t)
unfolding predicate_step
predicate_told m n at other (partial.Column c) t up h = column_told m n at other c t
predicate_told m n at other (partial.Dot c) t up h = dot_told m n at other c t
predicate_told m n at other (partial.Sign c sign) t up h = compared_told m n at other c sign t (literal_of t)
predicate_told m n at other (partial.Not c) t up h = not_told m n at other c t
predicate_told m n at other (partial.In c b) t up h = in_told m n at other c b t
predicate_told m n at other (partial.Open c b) t up h = chosen_told m n at other c b t (literal_of t)
predicate_told m n at other (partial.Listed c b ls) t up h = listed_told m n at other c b ls t
predicate_told m n at other (partial.Comma c b ls) t up h = chosen_too_told m n at other c b ls t
    (literal_of t) up refl h
predicate_told m n at other (partial.Is c) t up h = is_told m n at other c t
predicate_told m n at other (partial.IsNot c) t up h = is_not_told m n at other c t
predicate_told m n at other (partial.Starts c) t up h = starts_told m n at other c t
predicate_told m n at other (partial.With c) t up h = begun_told m n at other c t (literal_of t)

moved_ok : (s : Reading) (q : Read) (x : Progress) → q ≡ Ok x → (z : Reading) × (moved put s q ≡ Ok z)
unfolding moved held
moved_ok s q (progress.Going p) e = (record s { place = Inside p }, rw e refl)
moved_ok s q (progress.Done l) e = (record s { place = After; read = put s.read (parsing.predicate l) }, rw e refl)

moved_told : (m n : Limits) (at other : ℕ) (t : Token) (s : Reading) (r q : Read) → Told m n at other t r q
    → Told m n at other t (moved put s r) (moved put s q)
unfolding moved held
moved_told m n at other t s (Ok (progress.Going p)) q h = rw h refl
moved_told m n at other t s (Ok (progress.Done l)) q h = rw h refl
moved_told m n at other t s (Err (Syntax a)) q h = (h.0, rw h.1 refl)
moved_told m n at other t s (Err TooBig) q h = (h.0, λ more. let x = h.1 more in moved_ok s q x.0 x.1)
moved_told m n at other t s (Err _) q h = absurd h

open_no_comma : token.Open ≢ token.Comma
open_no_comma e = absurd cc

name_no_comma : (n : List ℕ) → token.Name n ≢ token.Comma
name_no_comma n e = absurd cc

unit_told : (m n : Limits) (at other : ℕ) (s : Reading) (t : Token) → IsUp m n → length s.outer ≤ m.groups
    → s.predicates ≤ m.predicates → Told m n at other t (at_unit put m at s t) (at_unit put n other s t)
unfolding at_unit opened began held
unit_told m n at other s token.Open up deep few =
    limited m n at other token.Open (record {
      place = Wants;
      now = none;
      outer = s.now ∷ s.outer;
      read = s.read;
      predicates = s.predicates;
    }) (length s.outer) m.groups n.groups open_no_comma up.groups (λ x. x.groups) deep
    (nat_lt (length s.outer) m.groups) refl
unit_told m n at other s (token.Truth b) up deep few = refl
unit_told m n at other s (token.Name x) up deep few =
    limited m n at other (token.Name x) (record s {
      place = Inside (partial.Column (record { first = x; more = [] }));
      predicates = s.predicates + 1;
    }) s.predicates m.predicates n.predicates (name_no_comma x) up.predicates (λ y. y.predicates) few
    (nat_lt s.predicates m.predicates) refl
unit_told m n at other s _ up deep few = (refl, refl)

closed_told : (m n : Limits) (at other : ℕ) (s : Reading) (ps : List Pending)
    → Told m n at other token.Close (closed put at s ps) (closed put other s ps)
unfolding closed
closed_told m n at other s [] = (refl, refl)
closed_told m n at other s (p ∷ ps) = refl

after_told : (m n : Limits) (at other : ℕ) (s : Reading) (t : Token)
    → Told m n at other t (after_unit put at s t) (after_unit put other s t)
unfolding after_unit anded ored
after_told m n at other s token.And = refl
after_told m n at other s token.Or = refl
after_told m n at other s token.Close = closed_told m n at other s s.outer
after_told m n at other s _ = (refl, refl)

abbrev pub IsPlaceWithin : ℕ → Place → Type 0
IsPlaceWithin most (Inside p) = IsListWithin most p
IsPlaceWithin most _ = Unit {0}

at_told : (m n : Limits) (at other : ℕ) (s : Reading) (place : Place) (t : Token) → IsUp m n → length s.outer ≤ m.groups
    → s.predicates ≤ m.predicates → IsPlaceWithin m.literals place
    → Told m n at other t (step_at put m at s place t) (step_at put n other s place t)
unfolding step_at
at_told m n at other s Wants t up deep few h = unit_told m n at other s t up deep few
at_told m n at other s After t up deep few h = after_told m n at other s t
at_told m n at other s (Inside p) t up deep few h = moved_told m n at other t (record s { place = Wants })
    (predicate_step m.literals at p t) (predicate_step n.literals other p t) (predicate_told m n at other p t up h)

pub step_told : (m n : Limits) (at other : ℕ) (s : Reading) (t : Token) → IsUp m n → length s.outer ≤ m.groups
    → s.predicates ≤ m.predicates → IsPlaceWithin m.literals s.place
    → Told m n at other t (step put m at s t) (step put n other s t)
unfolding step
step_told m n at other s t up deep few h = at_told m n at other s s.place t up deep few h
