-- What a text is, from its bytes alone: a filter, or where it stops being one.
use Rattle.std.specs.Prelude.{◌≡◌, ◌⊎◌, ◌↔◌, ℕ, List, [], ◌∷◌, ◌++◌, length, Ok, Err}
use Rattle.ice_filter.specs.declared.fault.FilterFault.{FilterFault}
use Rattle.ice_filter.specs.declared.fault.FilterFault.TheVariants.{Syntax, TooBig}
use Rattle.ice_filter.specs.declared.predicate.Predicate.{Predicate}
use Rattle.ice_filter.specs.declared.token.Token.{Token}
use Rattle.ice_filter.specs.Grammar.{Written, Says, IsWithin, IsInLimits, Begins, limits, bare, words}
use Rattle.ice_filter.specs.Parsing.{filter_of, mapped, parsed}
use Rattle.ice_filter.specs.Trees.{Tree, parts_of}
use Rattle.ice_filter_laws.specs.Lying.{Stands, Lie, NoneBegins}

-- the text is blanks and the spellings of tokens that say the filter, which is within the limits
abbrev pub Writes : List ℕ → Tree Predicate → Type 0
Writes text f = (tokens : List (ℕ × Token)) × (w : Written) × Lie tokens 0 text (length text) []
    × Says (words tokens) w × IsWithin limits w × (f ≡ bare w)

-- Up to the offset the text is blanks and the spellings of tokens that begin a filter, and none passes a limit; the
-- rest stands there.
pub record BeginsTo (text : List ℕ) (before : List (ℕ × Token)) (at : ℕ) (rest : List ℕ) : Type 0 where
  pub lie : Lie before 0 text at rest
  pub begins : Begins (words before)
  pub fits : IsInLimits limits (words before)

-- the token stands in front of the bytes
abbrev pub IsNext : Token → List ℕ → Type 0
IsNext t bytes = (spelling rest : List ℕ) × (bytes ≡ spelling ++ rest) × Stands spelling t rest

-- Behind these tokens no filter goes on: the text ends, and they are none; or no token's spelling begins; or a token
-- stands there with which they begin none.
abbrev pub IsStuck : List Token → List ℕ → Type 0
IsStuck before rest = ((rest ≡ []) × ((w : Written) → Says before w → ⊥)) ⊎ NoneBegins rest
    ⊎ ((t : Token) × IsNext t rest × (Begins (before ++ t ∷ []) → ⊥))

abbrev pub StopsAt : List ℕ → ℕ → Type 0
StopsAt text at = (before : List (ℕ × Token)) × (rest : List ℕ) × BeginsTo text before at rest
    × IsStuck (words before) rest

-- a token with which they still begin a filter passes a limit
abbrev pub Overflows : List ℕ → Type 0
Overflows text = (before : List (ℕ × Token)) × (at : ℕ) × (rest : List ℕ) × (t : Token) × BeginsTo text before at rest
    × IsNext t rest × Begins (words before ++ t ∷ []) × (IsInLimits limits (words before ++ t ∷ []) → ⊥)

-- A text is read as the filter that it writes,
abbrev pub ReadsWhatIsWritten : Type 0
ReadsWhatIsWritten = (text : List ℕ) (f : Tree Predicate) → (filter_of text ≡ Ok f) ↔ Writes text f

-- it is refused at the offset where no filter goes on,
abbrev pub RefusesWhereItStops : Type 0
RefusesWhereItStops = (text : List ℕ) (at : ℕ) → (filter_of text ≡ Err (Syntax at)) ↔ StopsAt text at

-- as too big where a token passes a limit first,
abbrev pub RefusesTooMuch : Type 0
RefusesTooMuch = (text : List ℕ) → (filter_of text ≡ Err TooBig) ↔ Overflows text

-- and for no other reason.
abbrev pub RefusesNothingElse : Type 0
RefusesNothingElse = (text : List ℕ) (e : FilterFault) → filter_of text ≡ Err e
    → ((at : ℕ) × (e ≡ Syntax at)) ⊎ (e ≡ TooBig)

-- The parts that are kept are those of the filter, operands before operators.
abbrev pub KeepsTheParts : Type 0
KeepsTheParts = (text : List ℕ) → parsed text ≡ mapped parts_of (filter_of text)
