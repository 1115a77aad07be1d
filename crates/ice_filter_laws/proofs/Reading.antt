-- How a spelling is read, and what is read of bytes.
use Rattle.std.proofs.Common.{◌≡◌, ℕ, Bool, true, false, List, [], ◌∷◌, ◌++◌, length}
use Rattle.ice_filter.specs.declared.token.Token.{Token}
use Rattle.ice_filter.specs.declared.token.Token.TheVariants.{Bad}
use Rattle.ice_filter.specs.Lexing.{Sized, is_separator, front_at}
use Rattle.ice_filter_laws.specs.Spelling.{Spells, Fits}
use Rattle.ice_filter_laws.specs.Lying.{GoesOn}
use Rattle.ice_filter_laws.proofs.Passing.{Stops}

-- in front of the rest the spelling is read whole, as the token where this fits
abbrev pub IsRead : List ℕ → Token → List ℕ → Type 0
IsRead [] t rest = ⊥
IsRead (b ∷ bs) t rest = (is_separator b ≡ false) × ((front_at b (b ∷ (bs ++ rest))).1 ≡ length (b ∷ bs))
    × (Fits t → (front_at b (b ∷ (bs ++ rest))).0 ≡ t)

-- The spelling is read where no byte follows that goes on with it, and could be longer where one does.
pub record Reading (on : ℕ → Bool) (spelling : List ℕ) (t : Token) : Type 0 where
  pub read : (rest : List ℕ) → Stops on rest → IsRead spelling t rest
  pub longer : (next : ℕ) (rest : List ℕ) → on next ≡ true → GoesOn spelling (next ∷ rest)

-- the token of this size is spelled in front of the bytes, and nothing goes on with it
pub record IsFound (bytes : List ℕ) (x : Sized) : Type 0 where
  pub spelling : List ℕ
  pub rest : List ℕ
  pub split : bytes ≡ spelling ++ rest
  pub size : x.1 ≡ length spelling
  pub spelled : Spells spelling x.0
  pub fits : Fits x.0
  pub on : ℕ → Bool
  pub reading : Reading on spelling x.0
  pub stops : Stops on rest

abbrev pub IsFoundIfGood : List ℕ → Sized → Type 0
IsFoundIfGood bytes x = (x.0 ≡ Bad → ⊥) → IsFound bytes x
