-- The grammar of filters over tokens, and what a text is: a filter, or where it stops being one.
use Rattle.std.specs.Prelude.{◌≡◌, ℕ, ◌+◌, ◌-◌, ◌<◌, ◌≤◌, Bool, true, false, List, [], ◌∷◌, ◌++◌, length, map, flat_map}
use Rattle.std.specs.Prelude.{◌⊎◌, Result, Ok, Err}
use Rattle.ice_filter.specs.declared.fault.FilterFault.{FilterFault}
use Rattle.ice_filter.specs.declared.fault.FilterFault.TheVariants.{Syntax, TooBig}
use Rattle.ice_filter.specs.declared.token.Token.{Token}
use Rattle.ice_filter.specs.declared.token.Token.TheVariants as token
use Rattle.ice_filter.specs.declared.predicate.Predicate.{Predicate}
use Rattle.ice_filter.specs.declared.predicate.Column.{Column}
use Rattle.ice_filter.specs.declared.predicate.Choices.{Choices}
use Rattle.ice_filter.specs.declared.predicate.Literal.{Literal}
use Rattle.ice_filter.specs.declared.predicate.Literal.TheVariants as literal
use Rattle.ice_filter.specs.declared.predicate.Question.{Question}
use Rattle.ice_filter.specs.declared.predicate.Question.TheVariants as question
use Rattle.ice_filter.specs.Trees.{Tree, truth as always, predicate as single, both as all_of, either as one_of}

-- A filter as it is written, with its parentheses. `and` and `or` take the left operand first.
pub data Written : Type 0 where
  truth : Bool → Written
  predicate : Predicate → Written
  group : Written → Written
  both : Written → Written → Written
  either : Written → Written → Written

-- the filter without its parentheses
abbrev pub bare : Written → Tree Predicate
bare (truth b) = always b
bare (predicate l) = single l
bare (group w) = bare w
bare (both v w) = all_of (bare v) (bare w)
bare (either v w) = one_of (bare v) (bare w)

abbrev pub dotted : List ℕ → List Token
dotted n = token.Dot ∷ token.Name n ∷ []

-- column = name {"." name}
abbrev pub column_tokens : Column → List Token
column_tokens c = token.Name c.first ∷ flat_map dotted c.more

abbrev pub literal_token : Literal → Token
literal_token (literal.Truth b) = token.Truth b
literal_token (literal.Number n) = token.Number n
literal_token (literal.Text t) = token.Text t
literal_token (literal.Bytes b) = token.Bytes b

abbrev pub listed : Literal → List Token
listed l = token.Comma ∷ literal_token l ∷ []

-- literal {"," literal}
abbrev pub choices_tokens : Choices → List Token
choices_tokens c = literal_token c.first ∷ flat_map listed c.more

-- ["not"] "in"
abbrev pub in_tokens : Bool → List Token
in_tokens false = token.In ∷ []
in_tokens true = token.Not ∷ token.In ∷ []

abbrev pub question_tokens : Question → List Token
question_tokens (question.Compare sign l) = token.Sign sign ∷ literal_token l ∷ []
question_tokens (question.Among negated c) = in_tokens negated ++ token.Open ∷ (choices_tokens c ++ token.Close ∷ [])
question_tokens question.Missing = token.Is ∷ token.Null ∷ []
question_tokens question.Present = token.Is ∷ token.Not ∷ token.Null ∷ []
question_tokens (question.Begins l) = token.Starts ∷ token.With ∷ literal_token l ∷ []

abbrev pub predicate_tokens : Predicate → List Token
predicate_tokens l = column_tokens l.column ++ question_tokens l.question

-- the tokens of a filter
abbrev pub tokens_in : Written → List Token
tokens_in (truth b) = token.Truth b ∷ []
tokens_in (predicate l) = predicate_tokens l
tokens_in (group t) = token.Open ∷ (tokens_in t ++ token.Close ∷ [])
tokens_in (both s t) = tokens_in s ++ token.And ∷ tokens_in t
tokens_in (either s t) = tokens_in s ++ token.Or ∷ tokens_in t

-- Where a written filter may stand.
pub data Level : Type 0 where
  unit : Level
  conj : Level
  filter : Level

-- filter = conj {"or" conj}; conj = unit {"and" unit}; unit = "(" filter ")" | "true" | "false" | predicate
abbrev pub Stands : Level → Written → Type 0
Stands l (truth b) = Unit {0}
Stands l (predicate x) = Unit {0}
Stands l (group t) = Stands filter t
Stands unit (both s t) = ⊥
Stands conj (both s t) = Stands conj s × Stands unit t
Stands filter (both s t) = Stands conj s × Stands unit t
Stands unit (either s t) = ⊥
Stands conj (either s t) = ⊥
Stands filter (either s t) = Stands filter s × Stands conj t

-- the tokens are those of the filter
pub record Says (tokens : List Token) (t : Written) : Type 0 where
  pub stands : Stands filter t
  pub spelled : tokens ≡ tokens_in t

-- How much a filter may have: predicates, parentheses that are open at once, literals in one list.
pub record Limits : Type 0 where
  pub predicates : ℕ
  pub groups : ℕ
  pub literals : ℕ

abbrev pub limits : Limits
limits = record { predicates = 1000; groups = 32; literals = 1000 }

abbrev pub predicates_in : Written → ℕ
predicates_in (truth b) = 0
predicates_in (predicate l) = 1
predicates_in (group t) = predicates_in t
predicates_in (both s t) = predicates_in s + predicates_in t
predicates_in (either s t) = predicates_in s + predicates_in t

abbrev pub IsShort : ℕ → Question → Type 0
IsShort most (question.Among negated c) = length c.more < most
IsShort most _ = Unit {0}

-- so many parentheses may be open at once, and so many literals stand in one list
abbrev pub IsShallow : ℕ → ℕ → Written → Type 0
IsShallow deep most (truth b) = Unit {0}
IsShallow deep most (predicate l) = IsShort most l.question
IsShallow deep most (group t) = (0 < deep) × IsShallow (deep - 1) most t
IsShallow deep most (both s t) = IsShallow deep most s × IsShallow deep most t
IsShallow deep most (either s t) = IsShallow deep most s × IsShallow deep most t

-- the filter is within the limits
pub record IsWithin (m : Limits) (t : Written) : Type 0 where
  pub few : predicates_in t ≤ m.predicates
  pub shallow : IsShallow m.groups m.literals t

-- the tokens begin a filter
abbrev pub Begins : List Token → Type 0
Begins front = (rest : List Token) × (t : Written) × Says (front ++ rest) t

-- the tokens begin a filter within the limits
abbrev pub BeginsWithin : Limits → List Token → Type 0
BeginsWithin m front = (rest : List Token) × (t : Written) × (Says (front ++ rest) t × IsWithin m t)

-- no predicate, parenthesis or literal of the tokens passes a limit; a comma that asks for one literal too many does
-- not yet
abbrev pub IsInLimits : Limits → List Token → Type 0
IsInLimits m front = BeginsWithin m front ⊎
    ((before : List Token) × ((front ≡ before ++ token.Comma ∷ []) × BeginsWithin m before))

-- tokens without their offsets
abbrev pub words : List (ℕ × Token) → List Token
words ts = map (λ x. x.1) ts

-- The token at the offset is the first that cannot stand where it stands: the tokens before it begin a filter, with it
-- they begin none. None before it passes a limit.
pub record IsMisplaced (m : Limits) (tokens : List (ℕ × Token)) (at : ℕ) : Type 0 where
  pub front : List (ℕ × Token)
  pub next : Token
  pub rest : List (ℕ × Token)
  pub split : tokens ≡ front ++ (at, next) ∷ rest
  pub fits : IsInLimits m (words front)
  pub begins : Begins (words front)
  pub misplaced : Begins (words front ++ next ∷ []) → ⊥

-- the tokens end too early: they begin a filter, and are none
pub record EndsEarly (m : Limits) (tokens : List (ℕ × Token)) : Type 0 where
  pub fits : IsInLimits m (words tokens)
  pub begins : Begins (words tokens)
  pub unfinished : (t : Written) → Says (words tokens) t → ⊥

-- a predicate, parenthesis or literal is the first over its limit, and the tokens up to it begin a filter
pub record PassesLimit (m : Limits) (tokens : List (ℕ × Token)) : Type 0 where
  pub front : List (ℕ × Token)
  pub at : ℕ
  pub next : Token
  pub rest : List (ℕ × Token)
  pub split : tokens ≡ front ++ (at, next) ∷ rest
  pub fits : IsInLimits m (words front)
  pub begins : Begins (words front ++ next ∷ [])
  pub over : IsInLimits m (words front ++ next ∷ []) → ⊥

-- What a text of this length with these tokens is: the filter that they say, without its parentheses; or the offset of
-- the token that cannot stand, the length where they end too early; or too big.
abbrev pub Reads : Limits → ℕ → List (ℕ × Token) → Result (Tree Predicate) FilterFault → Type 0
Reads m end tokens (Ok f) = (t : Written) × (Says (words tokens) t × IsWithin m t × (f ≡ bare t))
Reads m end tokens (Err (Syntax at)) = IsMisplaced m tokens at ⊎ ((at ≡ end) × EndsEarly m tokens)
Reads m end tokens (Err TooBig) = PassesLimit m tokens
Reads m end tokens (Err _) = ⊥
