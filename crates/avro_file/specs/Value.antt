-- Values, without where they lie in memory.
-- Avro 1.11.1 specification, 'Primitive Types' and 'Complex Types': one constructor for each of their values.
-- Tree has the standard's names, for the types; above each constructor stands the type of its values.
use Rattle.std.specs.Prelude.{ℕ, ℤ, Bool, List, [], ◌∷◌}

mutual
  pub data Value : Type 0 where
    -- null
    nothing : Value
    -- boolean
    truth : Bool → Value
    -- int
    small : ℤ → Value
    -- long
    whole : ℤ → Value
    -- float: the four bytes that spell it
    single : List ℕ → Value
    -- double: the eight bytes that spell it
    twice : List ℕ → Value
    -- string: the bytes of its text
    text : List ℕ → Value
    -- bytes
    run : List ℕ → Value
    -- fixed
    raw : List ℕ → Value
    -- enum: the position of its symbol
    symbol : ℕ → Value
    -- record
    fields : Values → Value
    -- array
    items : Values → Value
    -- map
    entries : Entries → Value
    -- union: the position of the branch, and its value
    chosen : ℕ → Value → Value

  pub data Values : Type 0 where
    no_values : Values
    value : Value → Values → Values

  pub data Entries : Type 0 where
    no_entries : Entries
    entry : List ℕ → Value → Entries → Entries

abbrev pub values_of : List Value → Values
values_of [] = no_values
values_of (v ∷ vs) = value v (values_of vs)

-- a map's key and value
abbrev pub Pair : Type 0
Pair = List ℕ × Value

abbrev pub entries_of : List Pair → Entries
entries_of [] = no_entries
entries_of (e ∷ es) = entry e.0 e.1 (entries_of es)
