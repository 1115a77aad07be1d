-- The tokens of a text.
use Rattle.std.specs.Prelude.{ℕ, zero, suc, ◌+◌, ◌-◌, ◌*◌, pos, ◌-ℤ◌, ◌==◌, ◌&&◌, ◌||◌, Bool, true, false, List, []}
use Rattle.std.specs.Prelude.{◌∷◌, ◌++◌, take, drop, codes, Option, None, Some, if◌then◌else◌, nat_lt}
use Rattle.std.specs.Str.{bytes_eq, is_utf8}
use Rattle.ice_filter.specs.declared.token.Token.{Token}
use Rattle.ice_filter.specs.declared.token.Token.TheVariants.{Open, Close, Comma, Dot, Sign, And, Or, Not, In, Is, Null}
use Rattle.ice_filter.specs.declared.token.Token.TheVariants.{Starts, With, Truth, Number, Text, Bytes, Name, Bad}
use Rattle.ice_filter.specs.declared.token.Comparison.TheVariants.{Less, AtMost, Greater, AtLeast, Equal, NotEqual}

-- spaces, tabs and line ends
abbrev pub is_separator : ℕ → Bool
is_separator b = b == 32 || b == 9 || b == 10 || b == 13

abbrev pub is_digit : ℕ → Bool
is_digit b = nat_lt 47 b && nat_lt b 58

-- an ASCII letter or _
abbrev pub is_letter : ℕ → Bool
is_letter b = nat_lt 96 b && nat_lt b 123 || nat_lt 64 b && nat_lt b 91 || b == 95

abbrev pub is_name_byte : ℕ → Bool
is_name_byte b = is_letter b || is_digit b

-- n more than the bytes in front that pass the test
unfoldable pub run_from : (ℕ → Bool) → ℕ → List ℕ → ℕ
run_from p n [] = n
run_from p n (b ∷ bs) = if p b then run_from p (n + 1) bs else n

-- the bytes, where they are a text
abbrev pub text_in : List ℕ → Option (List ℕ)
text_in bytes = if is_utf8 bytes then Some bytes else None

abbrev pub named : Option (List ℕ) → Token
named None = Bad
named (Some n) = Name n

-- the word that the bytes are, or the name
unfoldable pub word_of : List ℕ → Token
word_of name =
    if bytes_eq name (codes "and") then And else if bytes_eq name (codes "or") then Or
    else if bytes_eq name (codes "not") then Not
    else if bytes_eq name (codes "in") then In else if bytes_eq name (codes "is") then Is
    else if bytes_eq name (codes "null") then Null
    else if bytes_eq name (codes "starts") then Starts else if bytes_eq name (codes "with") then With
    else if bytes_eq name (codes "true") then Truth true else if bytes_eq name (codes "false") then Truth false
    else named (text_in name)

-- the number that the digits write after those of n, where it is at most 2 ^ 63
unfoldable pub magnitude_from : ℕ → List ℕ → Option ℕ
magnitude_from n [] = Some n
magnitude_from n (d ∷ ds) = if nat_lt 0x8000_0000_0000_0000 (n * 10 + (d - 48)) then None
    else magnitude_from (n * 10 + (d - 48)) ds

-- a number of 64 bits
abbrev pub number_of : Bool → Option ℕ → Token
number_of minus None = Bad
number_of true (Some n) = if nat_lt 0x8000_0000_0000_0000 n then Bad else Number (pos 0 -ℤ pos n)
number_of false (Some n) = if nat_lt n 0x8000_0000_0000_0000 then Number (pos n) else Bad

-- a token, and how many bytes it takes
abbrev pub Sized : Type 0
Sized = Token × ℕ

-- n bytes, and then digits
abbrev pub digits_at : Bool → ℕ → List ℕ → Sized
digits_at minus n bytes =
    (number_of minus (magnitude_from 0 (take (run_from is_digit 0 bytes) bytes)), n + run_from is_digit 0 bytes)

-- what stands before the closing quote, where a quote is written twice, and how many bytes were read with it
unfoldable pub quoted_from : ℕ → List ℕ → ℕ → List ℕ → Option (List ℕ × ℕ)
quoted_from q text n [] = None
quoted_from q text n (b ∷ []) = if b == q then Some (text, n + 1) else None
quoted_from q text n (b ∷ c ∷ bs) =
    if b == q then (if c == q then quoted_from q (text ++ q ∷ []) (n + 2) bs else Some (text, n + 1))
    else quoted_from q (text ++ b ∷ []) (n + 1) (c ∷ bs)

abbrev pub is_hex : ℕ → Bool
is_hex b = is_digit b || nat_lt 96 b && nat_lt b 103 || nat_lt 64 b && nat_lt b 71

-- the value of a hexadecimal digit
abbrev pub nibble : ℕ → ℕ
nibble b = if nat_lt b 58 then b - 48 else if nat_lt b 71 then b - 55 else b - 87

-- the bytes that pairs of digits write before the closing quote, and how many bytes were read with it
unfoldable pub hex_from : List ℕ → ℕ → List ℕ → Option (List ℕ × ℕ)
hex_from found n [] = None
hex_from found n (b ∷ []) = if b == 39 then Some (found, n + 1) else None
hex_from found n (b ∷ c ∷ bs) =
    if b == 39 then Some (found, n + 1)
    else if is_hex b && is_hex c then hex_from (found ++ (nibble b * 16 + nibble c) ∷ []) (n + 2) bs else None

-- what was read between quotes, where it is a text
abbrev pub sized_text : ℕ → Option (List ℕ) → Option (List ℕ × ℕ)
sized_text n None = None
sized_text n (Some text) = Some (text, n)

abbrev pub text_of : Option (List ℕ × ℕ) → Option (List ℕ × ℕ)
text_of None = None
text_of (Some x) = sized_text x.1 (text_in x.0)

-- the text between the quotes
abbrev pub quoted : ℕ → List ℕ → Option (List ℕ × ℕ)
quoted q bytes = text_of (quoted_from q [] 1 bytes)

-- what was read between quotes, as a token
abbrev pub as_text : Option (List ℕ × ℕ) → Sized
as_text None = (Bad, 1)
as_text (Some x) = (Text x.0, x.1)

abbrev pub as_name : Option (List ℕ × ℕ) → Sized
as_name None = (Bad, 1)
as_name (Some x) = (Name x.0, x.1)

abbrev pub as_bytes : Option (List ℕ × ℕ) → Sized
as_bytes None = (Bad, 1)
as_bytes (Some x) = (Bytes x.0, x.1)

-- a name or a word
abbrev pub word_at : List ℕ → Sized
word_at bytes = (word_of (take (run_from is_name_byte 0 bytes) bytes), run_from is_name_byte 0 bytes)

-- the byte after the first, if it is there
abbrev pub second_is : (ℕ → Bool) → List ℕ → Bool
second_is p [] = false
second_is p (b ∷ []) = false
second_is p (b ∷ c ∷ bs) = p c

abbrev pub is_quote : ℕ → Bool
is_quote b = b == 39

abbrev pub is_equals : ℕ → Bool
is_equals b = b == 61

-- the token of one or two bytes
unfoldable pub mark_at : ℕ → List ℕ → Sized
mark_at b bytes =
    if b == 40 then (Open, 1) else if b == 41 then (Close, 1) else if b == 44 then (Comma, 1)
    else if b == 46 then (Dot, 1)
    else if b == 61 then (Sign Equal, 1)
    else if b == 60 then (if second_is is_equals bytes then (Sign AtMost, 2) else (Sign Less, 1))
    else if b == 62 then (if second_is is_equals bytes then (Sign AtLeast, 2) else (Sign Greater, 1))
    else if b == 33 && second_is is_equals bytes then (Sign NotEqual, 2)
    else (Bad, 1)

abbrev pub begins_hex : ℕ → List ℕ → Bool
begins_hex b bytes = b == 120 && second_is is_quote bytes

abbrev pub begins_minus : ℕ → List ℕ → Bool
begins_minus b bytes = b == 45 && second_is is_digit bytes

-- the token in front of bytes that begin with b, which is no separator
unfoldable pub front_at : ℕ → List ℕ → Sized
front_at b bytes =
    if begins_hex b bytes then as_bytes (hex_from [] 2 (drop 2 bytes))
    else if is_letter b then word_at bytes
    else if is_digit b then digits_at false 0 bytes
    else if begins_minus b bytes then digits_at true 1 (drop 1 bytes)
    else if b == 39 then as_text (quoted 39 (drop 1 bytes))
    else if b == 34 then as_name (quoted 34 (drop 1 bytes))
    else mark_at b bytes

-- The tokens of the bytes, each with its offset, where at is the offset of the first byte and so many bytes belong to
-- the token before. After a token the next one begins at the first byte behind it that is no separator.
unfoldable pub tokens_from : ℕ → ℕ → List ℕ → List (ℕ × Token)
tokens_from at skip [] = []
tokens_from at (suc n) (b ∷ bs) = tokens_from (at + 1) n bs
tokens_from at zero (b ∷ bs) =
    if is_separator b then tokens_from (at + 1) 0 bs
    else (at, (front_at b (b ∷ bs)).0) ∷ tokens_from (at + 1) ((front_at b (b ∷ bs)).1 - 1) bs

abbrev pub tokens_of : List ℕ → List (ℕ × Token)
tokens_of text = tokens_from 0 0 text
