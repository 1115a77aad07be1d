-- How tokens lie in a text.
use Rattle.std.specs.Prelude.{◌≡◌, ◌≢◌, ◌⊎◌, ◌↔◌, ◌+◌, ℕ, List, [], ◌∷◌, ◌++◌, length, All}
use Rattle.ice_filter.specs.declared.token.Token.{Token}
use Rattle.ice_filter.specs.declared.token.Token.TheVariants.{Bad}
use Rattle.ice_filter.specs.Lexing.{tokens_of}
use Rattle.ice_filter_laws.specs.Spelling.{Spells, Fits}

-- a space, a tab or a line end
abbrev pub IsBlank : ℕ → Type 0
IsBlank b = (b ≡ 32) ⊎ (b ≡ 9) ⊎ (b ≡ 10) ⊎ (b ≡ 13)

-- with the byte behind it the spelling could be read longer: some spelling begins so
abbrev pub GoesOn : List ℕ → List ℕ → Type 0
GoesOn spelling [] = ⊥
GoesOn spelling (next ∷ rest) = (back : List ℕ) × (t : Token) × Spells (spelling ++ next ∷ back) t

-- the token is spelled in front of the rest, and could not be read longer
pub record Stands (spelling : List ℕ) (t : Token) (rest : List ℕ) : Type 0 where
  pub spelled : Spells spelling t
  pub fits : Fits t
  pub whole : GoesOn spelling rest → ⊥

-- from one offset on the bytes are blanks, and from the other on the rest
abbrev pub AreBlanksTo : ℕ → List ℕ → ℕ → List ℕ → Type 0
AreBlanksTo at bytes end rest = (blanks : List ℕ) × All IsBlank blanks × (bytes ≡ blanks ++ rest)
    × (end ≡ at + length blanks)

-- From one offset on the bytes are blanks and the tokens' spellings in turn, each at the token's offset; and from the
-- other on they are the rest.
abbrev pub Lie : List (ℕ × Token) → ℕ → List ℕ → ℕ → List ℕ → Type 0
Lie [] at bytes end rest = AreBlanksTo at bytes end rest
Lie (x ∷ xs) at bytes end rest = (spelling behind : List ℕ) × AreBlanksTo at bytes x.0 (spelling ++ behind)
    × Stands spelling x.1 behind × Lie xs (x.0 + length spelling) behind end rest

-- no token is bad
abbrev pub AreGood : List (ℕ × Token) → Type 0
AreGood tokens = All (λ x. x.1 ≢ Bad) tokens

-- behind blanks the bytes go on, and no token's spelling begins there
pub record NoneBegins (bytes : List ℕ) : Type 0 where
  pub first : ℕ
  pub more : List ℕ
  pub split : bytes ≡ first ∷ more
  pub no_blank : IsBlank first → ⊥
  pub none : (spelling : List ℕ) (t : Token) (rest : List ℕ) → bytes ≡ spelling ++ rest → Stands spelling t rest → ⊥

-- the text's tokens are these, up to its first bad one, which is at the offset
abbrev pub IsBadAt : ℕ → List (ℕ × Token) → List ℕ → Type 0
IsBadAt at before text = (behind : List (ℕ × Token)) × (tokens_of text ≡ before ++ (at, Bad) ∷ behind) × AreGood before

-- A text has these tokens, all good, exactly where it is blanks and their spellings in turn,
abbrev pub AreSpelled : Type 0
AreSpelled = (text : List ℕ) (tokens : List (ℕ × Token))
    → ((tokens_of text ≡ tokens) × AreGood tokens) ↔ Lie tokens 0 text (length text) []

-- and its first bad token is at an offset exactly where before it are blanks and spellings in turn, and none
-- begins there.
abbrev pub BadIsNoSpelling : Type 0
BadIsNoSpelling = (text : List ℕ) (before : List (ℕ × Token)) (at : ℕ)
    → IsBadAt at before text ↔ ((rest : List ℕ) × Lie before 0 text at rest × NoneBegins rest)
