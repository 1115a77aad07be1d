-- Values whose arrays and maps have no more items than a number counts, as all have that lie in memory.
-- Avro 1.11.1 specification, 'Complex Types': a block's count is a long.
use Rattle.std.specs.Prelude.{◌<◌, ◌^◌}
use Rattle.avro_file.specs.Value.{Value, nothing, truth, small, whole, single, twice, symbol, text, run, raw, fields}
use Rattle.avro_file.specs.Value.{items, entries, chosen, Values, no_values, value, Entries, no_entries, entry}
use Rattle.avro_file.specs.Spelling.{values_len, entries_len}

abbrev mutual
  pub IsCounted : Value → Type 0
  IsCounted nothing = Unit {0}
  IsCounted (truth b) = Unit {0}
  IsCounted (small z) = Unit {0}
  IsCounted (whole z) = Unit {0}
  IsCounted (single s) = Unit {0}
  IsCounted (twice s) = Unit {0}
  IsCounted (symbol k) = Unit {0}
  IsCounted (text s) = Unit {0}
  IsCounted (run s) = Unit {0}
  IsCounted (raw s) = Unit {0}
  IsCounted (fields vs) = AreCounted vs
  IsCounted (items vs) = (values_len vs < 2 ^ 63) × AreCounted vs
  IsCounted (entries es) = (entries_len es < 2 ^ 63) × EntriesAreCounted es
  IsCounted (chosen n v) = IsCounted v

  pub AreCounted : Values → Type 0
  AreCounted no_values = Unit {0}
  AreCounted (value v vs) = IsCounted v × AreCounted vs

  pub EntriesAreCounted : Entries → Type 0
  EntriesAreCounted no_entries = Unit {0}
  EntriesAreCounted (entry k v es) = IsCounted v × EntriesAreCounted es
