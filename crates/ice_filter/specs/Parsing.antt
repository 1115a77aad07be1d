-- What a text's tokens give, one after the other.
use Rattle.std.specs.Prelude.{ℕ, ◌+◌, Bool, true, false, List, [], ◌∷◌, ◌++◌, length, Option, None, Some, Result, Ok}
use Rattle.std.specs.Prelude.{Err, if◌then◌else◌, nat_lt}
use Rattle.contract_words.specs.Outcome.{◌>>=◌}
use Rattle.ice_filter.specs.declared.fault.FilterFault.{FilterFault}
use Rattle.ice_filter.specs.declared.fault.FilterFault.TheVariants.{Syntax, TooBig}
use Rattle.ice_filter.specs.declared.token.Token.{Token}
use Rattle.ice_filter.specs.declared.token.Token.TheVariants as token
use Rattle.ice_filter.specs.declared.token.Comparison.{Comparison}
use Rattle.ice_filter.specs.declared.predicate.Predicate.{Predicate}
use Rattle.ice_filter.specs.declared.predicate.Column.{Column}
use Rattle.ice_filter.specs.declared.predicate.Choices.{Choices}
use Rattle.ice_filter.specs.declared.predicate.Literal.{Literal}
use Rattle.ice_filter.specs.declared.predicate.Literal.TheVariants as literal
use Rattle.ice_filter.specs.declared.predicate.Question.TheVariants as question
use Rattle.ice_filter.specs.declared.predicate.Partial.{Partial}
use Rattle.ice_filter.specs.declared.predicate.Partial.TheVariants as partial
use Rattle.ice_filter.specs.declared.predicate.Progress.{Progress}
use Rattle.ice_filter.specs.declared.predicate.Progress.TheVariants as progress
use Rattle.ice_filter.specs.declared.parts.Part.{Part}
use Rattle.ice_filter.specs.declared.parts.Part.TheVariants as part
use Rattle.ice_filter.specs.declared.parser.Pending.{Pending}
use Rattle.ice_filter.specs.declared.parser.Place.{Place}
use Rattle.ice_filter.specs.declared.parser.Place.TheVariants.{Wants, After, Inside}
use Rattle.ice_filter.specs.Trees.{Tree, tree_of, truth_part}
use Rattle.ice_filter.specs.Grammar.{Limits, limits, Reads}
use Rattle.ice_filter.specs.Lexing.{tokens_of}

-- ---- a predicate

abbrev pub Read : Type 0
Read = Result Progress FilterFault

unfoldable pub literal_of : Token → Option Literal
literal_of (token.Truth b) = Some (literal.Truth b)
literal_of (token.Number n) = Some (literal.Number n)
literal_of (token.Text t) = Some (literal.Text t)
literal_of (token.Bytes b) = Some (literal.Bytes b)
literal_of _ = None

abbrev pub going : Partial → Read
going p = Ok (progress.Going p)

unfoldable pub behind_column : ℕ → Column → Token → Read
behind_column at c token.Dot = going (partial.Dot c)
behind_column at c (token.Sign sign) = going (partial.Sign c sign)
behind_column at c token.Not = going (partial.Not c)
behind_column at c token.In = going (partial.In c false)
behind_column at c token.Is = going (partial.Is c)
behind_column at c token.Starts = going (partial.Starts c)
behind_column at c _ = Err (Syntax at)

unfoldable pub behind_dot : ℕ → Column → Token → Read
behind_dot at c (token.Name n) = going (partial.Column (record c { more = c.more ++ n ∷ [] }))
behind_dot at c _ = Err (Syntax at)

unfoldable pub compared : ℕ → Column → Comparison → Option Literal → Read
compared at c sign None = Err (Syntax at)
compared at c sign (Some l) = Ok (progress.Done (record { column = c; question = question.Compare sign l }))

unfoldable pub behind_not : ℕ → Column → Token → Read
behind_not at c token.In = going (partial.In c true)
behind_not at c _ = Err (Syntax at)

unfoldable pub behind_in : ℕ → Column → Bool → Token → Read
behind_in at c negated token.Open = going (partial.Open c negated)
behind_in at c negated _ = Err (Syntax at)

unfoldable pub chosen : ℕ → Column → Bool → Option Literal → Read
chosen at c negated None = Err (Syntax at)
chosen at c negated (Some l) = going (partial.Listed c negated (record { first = l; more = [] }))

unfoldable pub behind_listed : ℕ → Column → Bool → Choices → Token → Read
behind_listed at c negated ls token.Comma = going (partial.Comma c negated ls)
behind_listed at c negated ls token.Close =
    Ok (progress.Done (record { column = c; question = question.Among negated ls }))
behind_listed at c negated ls _ = Err (Syntax at)

-- a list of most literals takes no further one
unfoldable pub chosen_too : ℕ → ℕ → Column → Bool → Choices → Option Literal → Read
chosen_too most at c negated ls None = Err (Syntax at)
chosen_too most at c negated ls (Some l) =
    if nat_lt (length ls.more + 1) most then going (partial.Listed c negated (record ls { more = ls.more ++ l ∷ [] }))
    else Err TooBig

unfoldable pub behind_is : ℕ → Column → Token → Read
behind_is at c token.Null = Ok (progress.Done (record { column = c; question = question.Missing }))
behind_is at c token.Not = going (partial.IsNot c)
behind_is at c _ = Err (Syntax at)

unfoldable pub behind_is_not : ℕ → Column → Token → Read
behind_is_not at c token.Null = Ok (progress.Done (record { column = c; question = question.Present }))
behind_is_not at c _ = Err (Syntax at)

unfoldable pub behind_starts : ℕ → Column → Token → Read
behind_starts at c token.With = going (partial.With c)
behind_starts at c _ = Err (Syntax at)

unfoldable pub begun : ℕ → Column → Option Literal → Read
begun at c None = Err (Syntax at)
begun at c (Some l) = Ok (progress.Done (record { column = c; question = question.Begins l }))

-- what a token makes of a predicate that isn't whole
unfoldable pub predicate_step : ℕ → ℕ → Partial → Token → Read
predicate_step most at (partial.Column c) t = behind_column at c t
predicate_step most at (partial.Dot c) t = behind_dot at c t
predicate_step most at (partial.Sign c sign) t = compared at c sign (literal_of t)
predicate_step most at (partial.Not c) t = behind_not at c t
predicate_step most at (partial.In c negated) t = behind_in at c negated t
predicate_step most at (partial.Open c negated) t = chosen at c negated (literal_of t)
predicate_step most at (partial.Listed c negated ls) t = behind_listed at c negated ls t
predicate_step most at (partial.Comma c negated ls) t = chosen_too most at c negated ls (literal_of t)
predicate_step most at (partial.Is c) t = behind_is at c t
predicate_step most at (partial.IsNot c) t = behind_is_not at c t
predicate_step most at (partial.Starts c) t = behind_starts at c t
predicate_step most at (partial.With c) t = begun at c (literal_of t)

-- ---- a filter

-- What is read of a filter, operands before their operator: true or false, a predicate, that parentheses stand round
-- the
-- operand before, `and` of the two before, `or` of the two before.
pub data Act : Type 0 where
  truth : Bool → Act
  predicate : Predicate → Act
  group : Act
  both : Act
  either : Act

-- What was read so far: where the reading stands; whether the innermost open filter has an operand of `or` and of `and`
-- before this place; the same of those around it, the innermost first; what was made of it; how many predicates were
-- begun.
pub record State (R : Type 0) : Type 0 where
  pub place : Place
  pub now : Pending
  pub outer : List Pending
  pub read : R
  pub predicates : ℕ

abbrev pub none : Pending
none = record { either = false; both = false }

-- the last operand ends the operands of `and`
unfoldable pub joined_and : {R : Type 0} → (R → Act → R) → Pending → R → R
joined_and add p r = if p.both then add r both else r

-- the same of `or`
unfoldable pub joined : {R : Type 0} → (R → Act → R) → Pending → R → R
joined add p r = if p.either then add (joined_and add p r) either else joined_and add p r

unfoldable pub opened : {R : Type 0} → Limits → State R → Result (State R) FilterFault
opened m s = if nat_lt (length s.outer) m.groups
    then Ok (record { place = Wants; now = none; outer = s.now ∷ s.outer; read = s.read; predicates = s.predicates })
    else Err TooBig

unfoldable pub began : {R : Type 0} → Limits → State R → List ℕ → Result (State R) FilterFault
began m s n = if nat_lt s.predicates m.predicates
    then Ok (record s {
      place = Inside
          (partial.Column (record { first = n; more = [] }));
      predicates = s.predicates + 1;
    })
    else Err TooBig

-- a whole operand
unfoldable pub held : {R : Type 0} → (R → Act → R) → State R → Act → Result (State R) FilterFault
held add s a = Ok (record s { place = After; read = add s.read a })

unfoldable pub at_unit : {R : Type 0} → (R → Act → R) → Limits → ℕ → State R → Token → Result (State R) FilterFault
at_unit add m at s token.Open = opened m s
at_unit add m at s (token.Truth b) = held add s (truth b)
at_unit add m at s (token.Name n) = began m s n
at_unit add m at s _ = Err (Syntax at)

unfoldable pub closed : {R : Type 0} → (R → Act → R) → ℕ → State R → List Pending → Result (State R) FilterFault
closed add at s [] = Err (Syntax at)
closed add at s (p ∷ ps) =
    Ok (record {
      place = After;
      now = p;
      outer = ps;
      read = add
          (joined add s.now s.read) group;
      predicates = s.predicates;
    })

-- an operand of `and`, of `or`
unfoldable pub anded : {R : Type 0} → (R → Act → R) → State R → Result (State R) FilterFault
anded add s = Ok (record s {
  place = Wants;
  now = record { either = s.now.either; both = true };
  read = joined_and add s.now s.read;
})

unfoldable pub ored : {R : Type 0} → (R → Act → R) → State R → Result (State R) FilterFault
ored add s = Ok (record s {
  place = Wants;
  now = record { either = true; both = false };
  read = joined add s.now s.read;
})

unfoldable pub after_unit : {R : Type 0} → (R → Act → R) → ℕ → State R → Token → Result (State R) FilterFault
after_unit add at s token.And = anded add s
after_unit add at s token.Or = ored add s
after_unit add at s token.Close = closed add at s s.outer
after_unit add at s _ = Err (Syntax at)

unfoldable pub moved : {R : Type 0} → (R → Act → R) → State R → Read → Result (State R) FilterFault
moved add s (Ok (progress.Going p)) = Ok (record s { place = Inside p })
moved add s (Ok (progress.Done l)) = held add s (predicate l)
moved add s (Err e) = Err e

unfoldable pub step_at : {R : Type 0} → (R → Act → R) → Limits → ℕ → State R → Place → Token →
    Result (State R) FilterFault
step_at add m at s Wants t = at_unit add m at s t
step_at add m at s After t = after_unit add at s t
step_at add m at s (Inside p) t = moved add (record s { place = Wants }) (predicate_step m.literals at p t)

-- what the token at an offset makes of a state
unfoldable pub step : {R : Type 0} → (R → Act → R) → Limits → ℕ → State R → Token → Result (State R) FilterFault
step add m at s t = step_at add m at s s.place t

unfoldable pub ended : {R : Type 0} → (R → Act → R) → ℕ → State R → Place → List Pending → Result R FilterFault
ended add end s After [] = Ok (joined add s.now s.read)
ended add end s _ _ = Err (Syntax end)

-- what was made of the whole, where the tokens end
unfoldable pub finish : {R : Type 0} → (R → Act → R) → ℕ → State R → Result R FilterFault
finish add end s = ended add end s s.place s.outer

-- what the tokens that follow make of the state, or the first fault
unfoldable pub outcome : {R : Type 0} → (R → Act → R) → Limits → ℕ → State R → List (ℕ × Token) → Result R FilterFault
outcome add m end s [] = finish add end s
outcome add m end s (t ∷ ts) = step add m t.0 s t.1 >>= λ next. outcome add m end next ts

abbrev pub start : {R : Type 0} → R → State R
start empty = record { place = Wants; now = none; outer = []; read = empty; predicates = 0 }

-- the parts of a filter, without its parentheses
abbrev pub add_part : List (Part Predicate) → Act → List (Part Predicate)
add_part ps (truth b) = ps ++ truth_part b ∷ []
add_part ps (predicate l) = ps ++ part.Predicate l ∷ []
add_part ps group = ps
add_part ps both = ps ++ part.And ∷ []
add_part ps either = ps ++ part.Or ∷ []

-- the parts of the filter of a text, or the first fault
abbrev pub parsed : List ℕ → Result (List (Part Predicate)) FilterFault
parsed text = outcome add_part limits (length text) (start []) (tokens_of text)

-- the same fault, or what f makes of the value
abbrev pub mapped : {A B : Type 0} → (A → B) → Result A FilterFault → Result B FilterFault
mapped f (Ok x) = Ok (f x)
mapped f (Err e) = Err e

-- the filter of a text, or the first fault
abbrev pub filter_of : List ℕ → Result (Tree Predicate) FilterFault
filter_of text = mapped tree_of (parsed text)

-- what a text is, in the words of the grammar
abbrev pub IsReadAs : List ℕ → Result (Tree Predicate) FilterFault → Type 0
IsReadAs text r = Reads limits (length text) (tokens_of text) r
