-- Values that stand at the front of bytes, and the items of a list that are still to come, where they lie in a file.
-- Avro 1.11.1 specification, 'Binary Encoding': arrays are blocks of items, each behind its count.
use Rattle.std.specs.Prelude.{◌≡◌, ◌≤◌, ◌<◌, ◌+◌, ℕ, List, [], ◌∷◌, ◌++◌, Option, Some, None, Ok}
use denote.Ref.{Bor}
use Rattle.contract_words.specs.Outcome.{◌>>=◌}
use Rattle.avro_schema.specs.declared.schema.Field.{Field}
use Rattle.avro_schema.specs.Tree.{Tree, structure}
use Rattle.avro_schema.specs.View.{tree}
use Rattle.avro_file_parts.specs.Place.{position_of}
use Rattle.avro_file_parts.specs.Parts.{Position, Read}
use Rattle.avro_file.specs.Value.{Value, values_of}
use Rattle.avro_file.specs.Reading.{values_at, blocks_at, datum_at}
use Rattle.avro_file.specs.Blocks.{max_items, StandsAt}
use Rattle.avro_file.specs.Picking.{Typed}
use Rattle.avro_file_picked.specs.Finding.{items_in}
use Rattle.ice_manifest_fields.specs.Fields.{items_of, items_as}
use Rattle.ice_manifest_fields.specs.Seen.{fields_seen}
use Rattle.ice_manifest_values.specs.declared.standing.Standing.{Standing}
use Rattle.ice_manifest_values.specs.declared.items.ItemsAhead.{ItemsAhead}

-- the value stands there
abbrev pub Stands : Standing → Value → Type 0
Stands s v = StandsAt (tree s.schema.now) s.bytes.now v

-- what was found is what is there, if anything is
abbrev pub IsThere : Option Standing → Option Typed → Type 0
IsThere (Some s) x = (v : Value) × Stands s v × (x ≡ Some (tree s.schema.now, v))
IsThere None x = x ≡ None

-- a record of these fields stands there
abbrev pub RecordStands : Bor (List Field) → Bor (List ℕ) → Value → Type 0
RecordStands fs bytes v = StandsAt (structure (fields_seen fs.now)) bytes.now v

-- what was found is the record that is there, if one is
abbrev pub IsRecord : Option (Bor (List Field) × Bor (List ℕ)) → Option Typed → Type 0
IsRecord (Some r) x = (v : Value) × RecordStands r.0 r.1 v × (x ≡ Some (structure (fields_seen r.0.now), v))
IsRecord None x = x ≡ None

-- so many items of a block, and those of the blocks behind it
abbrev pub rest_at : Tree → ℕ → ℕ → Position → Read (List Value)
rest_at t count turns p = do
  here ← values_at (datum_at t) count p
  after ← blocks_at (datum_at t) turns here.1
  Ok (here.0 ++ after.0, after.1)

-- these items are still to come
abbrev pub AreAhead : ItemsAhead → List Value → Type 0
AreAhead i vs = (i.place.left ≤ max_items) × (turns : ℕ) × (end : Position)
    × (rest_at (tree i.schema.now) i.in_block turns (position_of i.place) ≡ Ok (vs, end))

-- how many items there can be still
abbrev pub still : ItemsAhead → ℕ
still i = i.in_block + i.place.left

-- a block with an item is at hand; or no item is left
abbrev pub AtItem : ItemsAhead → List Value → Option ItemsAhead → Type 0
AtItem old vs (Some i) = (0 < i.in_block) × AreAhead i vs × (i.schema.now ≡ old.schema.now)
AtItem old vs None = vs ≡ []

-- the first of the items, before which the others are to come
abbrev pub NextItem : ItemsAhead → List Value → Option Standing → ItemsAhead → Type 0
NextItem old vs (Some s) new = (v : Value) × (ws : List Value) × (vs ≡ v ∷ ws) × Stands s v × AreAhead new ws
    × (s.schema.now ≡ old.schema.now) × (new.schema.now ≡ old.schema.now)
NextItem old vs None new = vs ≡ []

-- the type of the items of what is there
abbrev pub type_listed : Option Typed → Option Tree
type_listed (Some x) = items_in x.0
type_listed None = None

-- the items of what is there are to come, and have that type; or nothing with items is there
abbrev pub ListAhead : Option ItemsAhead → Option Typed → Type 0
ListAhead (Some i) x = (vs : List Value) × AreAhead i vs × (items_of x ≡ items_as (tree i.schema.now) (values_of vs))
    × (type_listed x ≡ Some (tree i.schema.now))
ListAhead None x = items_of x ≡ []
