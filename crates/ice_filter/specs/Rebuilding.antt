-- What was read up to a state, in tokens and in the words of the grammar.
use Rattle.std.specs.Prelude.{◌≡◌, ℕ, ◌+◌, ◌<◌, ◌≤◌, length, Bool, true, false, cond, List, [], ◌∷◌, ◌++◌}
use Rattle.ice_filter.specs.declared.token.Token.{Token}
use Rattle.ice_filter.specs.declared.token.Token.TheVariants as token
use Rattle.ice_filter.specs.declared.predicate.Partial.{Partial}
use Rattle.ice_filter.specs.declared.predicate.Partial.TheVariants as partial
use Rattle.ice_filter.specs.declared.parser.Pending.{Pending}
use Rattle.ice_filter.specs.declared.parser.Place.{Place}
use Rattle.ice_filter.specs.declared.parser.Place.TheVariants.{Wants, After, Inside}
use Rattle.ice_filter.specs.Grammar.{Written, truth, predicate, group, both, either, Level, unit, conj, filter, Stands}
use Rattle.ice_filter.specs.Grammar.{
  IsShallow,
  predicates_in,
  Limits,
  tokens_in,
  column_tokens,
  choices_tokens,
  in_tokens,
}
use Rattle.ice_filter.specs.Parsing.{State, Act}
use Rattle.ice_filter.specs.Parsing as parsing

abbrev pub top : List Written → Written
top [] = truth true
top (t ∷ ts) = t

abbrev pub below : List Written → List Written
below [] = []
below (t ∷ ts) = ts

-- the operands after one more part, the last one first
abbrev pub put : List Written → Act → List Written
put ts (parsing.truth b) = truth b ∷ ts
put ts (parsing.predicate l) = predicate l ∷ ts
put [] parsing.group = []
put (t ∷ ts) parsing.group = group t ∷ ts
put ts parsing.both = both (top (below ts)) (top ts) ∷ below (below ts)
put ts parsing.either = either (top (below ts)) (top ts) ∷ below (below ts)

-- a state with the operands so far, as they are written
abbrev pub Reading : Type 0
Reading = State (List Written)

abbrev pub partial_tokens : Partial → List Token
partial_tokens (partial.Column c) = column_tokens c
partial_tokens (partial.Dot c) = column_tokens c ++ token.Dot ∷ []
partial_tokens (partial.Sign c sign) = column_tokens c ++ token.Sign sign ∷ []
partial_tokens (partial.Not c) = column_tokens c ++ token.Not ∷ []
partial_tokens (partial.In c negated) = column_tokens c ++ in_tokens negated
partial_tokens (partial.Open c negated) = column_tokens c ++ (in_tokens negated ++ token.Open ∷ [])
partial_tokens (partial.Listed c negated ls) = column_tokens c ++ (in_tokens negated ++ token.Open ∷ choices_tokens ls)
partial_tokens (partial.Comma c negated ls) = column_tokens c ++
    (in_tokens negated ++ token.Open ∷ (choices_tokens ls ++ token.Comma ∷ []))
partial_tokens (partial.Is c) = column_tokens c ++ token.Is ∷ []
partial_tokens (partial.IsNot c) = column_tokens c ++ token.Is ∷ token.Not ∷ []
partial_tokens (partial.Starts c) = column_tokens c ++ token.Starts ∷ []
partial_tokens (partial.With c) = column_tokens c ++ token.Starts ∷ token.With ∷ []

-- the operands below those of an open filter
abbrev pub past : Bool → List Written → List Written
past b ts = cond b (below ts) ts

abbrev pub operand : Bool → List Written → Token → List Token
operand b ts t = cond b (tokens_in (top ts) ++ t ∷ []) []

-- an open filter's tokens before the operand that is wanted
abbrev pub front : Pending → List Written → List Token
front p ts = operand p.either (past p.both ts) token.Or ++ operand p.both ts token.And

-- what the operands of an open filter leave
abbrev pub rest : Pending → List Written → List Written
rest p ts = past p.either (past p.both ts)

-- the tokens of the open filters round the innermost
abbrev pub outside : List Pending → List Written → List Token
outside [] ts = []
outside (q ∷ qs) ts = (outside qs (rest q ts) ++ front q ts) ++ token.Open ∷ []

-- those of all open filters
abbrev pub fronts : Pending → List Pending → List Written → List Token
fronts p ps ts = outside ps (rest p ts) ++ front p ts

abbrev pub place_tokens : Place → Pending → List Pending → List Written → List Token
place_tokens Wants p ps ts = fronts p ps ts
place_tokens After p ps ts = fronts p ps (below ts) ++ tokens_in (top ts)
place_tokens (Inside l) p ps ts = fronts p ps ts ++ partial_tokens l

-- the tokens that led to a state
abbrev pub read_tokens : Reading → List Token
read_tokens s = place_tokens s.place s.now s.outer s.read

-- the written filter may stand there, and is within the limits where so many parentheses may still be opened
abbrev pub Fits : ℕ → ℕ → Level → Written → Type 0
Fits most g l t = Stands l t × IsShallow g most t

-- each operand of an open filter fits where it stands
abbrev pub OperandFits : ℕ → ℕ → Bool → List Written → Level → Type 0
OperandFits most g true ts l = Fits most g l (top ts)
OperandFits most g false ts l = Unit {0}

abbrev pub OperandsFit : ℕ → ℕ → Pending → List Written → Type 0
OperandsFit most g p ts = OperandFits most g p.either (past p.both ts) filter × OperandFits most g p.both ts conj

-- so do those of the filters around it
abbrev pub AroundFits : ℕ → ℕ → List Pending → List Written → Type 0
AroundFits most g [] ts = Unit {0}
AroundFits most g (q ∷ qs) ts = AroundFits most (g + 1) qs (rest q ts) × OperandsFit most (g + 1) q ts

abbrev pub FrontsFit : ℕ → ℕ → Pending → List Pending → List Written → Type 0
FrontsFit most g p ps ts = AroundFits most g ps (rest p ts) × OperandsFit most g p ts

-- the list of a predicate that isn't whole has no more literals than it may
abbrev pub IsShortSoFar : ℕ → Partial → Type 0
IsShortSoFar most (partial.Listed c negated ls) = length ls.more < most
IsShortSoFar most (partial.Comma c negated ls) = length ls.more < most
IsShortSoFar most _ = Unit {0}

-- there is an operand
abbrev pub HasTop : List Written → Type 0
HasTop [] = ⊥
HasTop (t ∷ ts) = Unit {0}

abbrev pub Placed : ℕ → ℕ → Place → Pending → List Pending → List Written → Type 0
Placed most g Wants p ps ts = FrontsFit most g p ps ts
Placed most g After p ps ts = FrontsFit most g p ps (below ts) × Fits most g unit (top ts) × HasTop ts
Placed most g (Inside l) p ps ts = FrontsFit most g p ps ts × IsShortSoFar most l

abbrev pub predicates_at : Place → ℕ
predicates_at (Inside l) = 1
predicates_at _ = 0

abbrev pub predicates_of : List Written → ℕ
predicates_of [] = 0
predicates_of (t ∷ ts) = predicates_in t + predicates_of ts

-- A state that reading within the limits may lead to; g more parentheses may be opened.
pub record Good (m : Limits) (s : Reading) : Type 0 where
  pub g : ℕ
  pub open_left : g + length s.outer ≡ m.groups
  pub placed : Placed m.literals g s.place s.now s.outer s.read
  pub counted : predicates_at s.place + predicates_of s.read ≡ s.predicates
  pub few : s.predicates ≤ m.predicates
