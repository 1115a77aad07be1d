-- How the tokens of the filter language are spelled.
use Rattle.std.specs.Prelude.{◌≡◌, ◌≢◌, ◌⊎◌, ◌<◌, ◌^◌, ◌≤ℤ◌, ◌<ℤ◌, ℕ, ℤ, pos, neg_ℤ, true, false, List, [], ◌∷◌, ◌++◌}
use Rattle.std.specs.Prelude.{length, slice_index, codes, All, Option, None, Some}
use Rattle.std.specs.Char.{is_ascii_alphanumeric, is_ascii_digit}
use Rattle.std.specs.Str.{IsUtf8}
use Rattle.std.specs.Str.Parse.{IsNumeral, digits_value}
use Rattle.ice_filter.specs.declared.token.Comparison.TheVariants.{Less, AtMost, Greater, AtLeast, Equal, NotEqual}
use Rattle.ice_filter.specs.declared.token.Token.{Token}
use Rattle.ice_filter.specs.declared.token.Token.TheVariants.{Open, Close, Comma, Dot, Sign, And, Or, Not, In, Is, Null}
use Rattle.ice_filter.specs.declared.token.Token.TheVariants.{Starts, With, Truth, Number, Text, Bytes, Name}
use Rattle.ice_filter.specs.Texts.{in_quotes}

-- the spelling of a mark or a word of the language, which has but one
abbrev pub spelling_of : Token → Option (List ℕ)
spelling_of Open = Some (codes "(")
spelling_of Close = Some (codes ")")
spelling_of Comma = Some (codes ",")
spelling_of Dot = Some (codes ".")
spelling_of (Sign Less) = Some (codes "<")
spelling_of (Sign AtMost) = Some (codes "<=")
spelling_of (Sign Greater) = Some (codes ">")
spelling_of (Sign AtLeast) = Some (codes ">=")
spelling_of (Sign Equal) = Some (codes "=")
spelling_of (Sign NotEqual) = Some (codes "!=")
spelling_of And = Some (codes "and")
spelling_of Or = Some (codes "or")
spelling_of Not = Some (codes "not")
spelling_of In = Some (codes "in")
spelling_of Is = Some (codes "is")
spelling_of Null = Some (codes "null")
spelling_of Starts = Some (codes "starts")
spelling_of With = Some (codes "with")
spelling_of (Truth true) = Some (codes "true")
spelling_of (Truth false) = Some (codes "false")
spelling_of _ = None

-- an ASCII letter, a digit or _
abbrev pub IsNameByte : ℕ → Type 0
IsNameByte b = (is_ascii_alphanumeric b ≡ true) ⊎ (b ≡ 95)

-- a name that needs no quotes: no digit stands first, and it is no word of the language
pub record IsPlain (name : List ℕ) : Type 0 where
  pub some : 0 < length name
  pub letters : All IsNameByte name
  pub first : is_ascii_digit (slice_index name 0) ≡ false
  pub free : (t : Token) → spelling_of t ≢ Some name

-- decimal digits write the number, or what it is below 0 behind a minus
abbrev pub WritesNumber : List ℕ → ℤ → Type 0
WritesNumber bytes z = (digits : List ℕ) × IsNumeral 10 digits
    × (((bytes ≡ digits) × (z ≡ pos (digits_value 10 digits)))
    ⊎ ((bytes ≡ codes "-" ++ digits) × (z ≡ neg_ℤ (pos (digits_value 10 digits)))))

-- two hexadecimal digits for each of the bytes
abbrev pub WritesBytes : List ℕ → List ℕ → Type 0
WritesBytes [] [] = Unit {0}
WritesBytes (high ∷ low ∷ digits) (b ∷ bs) =
    IsNumeral 16 (high ∷ low ∷ []) × (b ≡ digits_value 16 (high ∷ low ∷ [])) × WritesBytes digits bs
WritesBytes _ _ = ⊥

-- the bytes spell the token, whatever stands around them
abbrev pub Spells : List ℕ → Token → Type 0
Spells bytes (Number z) = WritesNumber bytes z
Spells bytes (Text text) = IsUtf8 text × (bytes ≡ in_quotes 39 text)
Spells bytes (Bytes bs) = (digits : List ℕ) × WritesBytes digits bs × (bytes ≡ codes "x'" ++ (digits ++ codes "'"))
Spells bytes (Name name) = (IsPlain name × (bytes ≡ name)) ⊎ (IsUtf8 name × (bytes ≡ in_quotes 34 name))
Spells bytes t = spelling_of t ≡ Some bytes

-- a number is of 64 bits; other tokens hold anything
abbrev pub Fits : Token → Type 0
Fits (Number z) = (neg_ℤ (pos (2 ^ 63)) ≤ℤ z) × (z <ℤ pos (2 ^ 63))
Fits _ = Unit {0}
