-- The value that a `Datum` is.
-- Avro 1.11.1 specification, 'Primitive Types' and 'Complex Types'.
use Rattle.std.specs.Prelude.{ℕ, ℤ, List, map, replicate}
use denote.Ref.{Bor}
use Rattle.avro_file.specs.declared.datum.Datum.{Datum, fold-Datum}
use Rattle.avro_file.specs.declared.datum.Datum.TheOpen.{Datum-F}
use Rattle.avro_file.specs.Value.{Value, nothing, truth, small, whole, single, twice, symbol, text, run, raw, fields}
use Rattle.avro_file.specs.Value.{items, entries, chosen, no_values, value, values_of, Pair, entries_of}

-- a record of an int and another value
abbrev pub pair_with : ℤ → Value → Value
pair_with key v = fields (value (small key) (value v no_values))

abbrev pub long_pairs : List (ℤ × ℤ) → List Value
long_pairs ps = map (λ p. pair_with p.0 (whole p.1)) ps

abbrev pub bytes_pairs : List (ℤ × Bor (List ℕ)) → List Value
bytes_pairs ps = map (λ p. pair_with p.0 (run p.1.now)) ps

abbrev pub value_step : Datum-F Value → Value
value_step Datum-F.Null = nothing
value_step (Datum-F.Boolean b) = truth b
value_step (Datum-F.Int z) = small z
value_step (Datum-F.Long z) = whole z
value_step (Datum-F.Float s) = single s.now
value_step (Datum-F.Double s) = twice s.now
value_step (Datum-F.Enum n) = symbol n
value_step (Datum-F.String s) = text s.now
value_step (Datum-F.Bytes s) = run s.now
value_step (Datum-F.Fixed s) = raw s.now
value_step (Datum-F.Record v) = fields (values_of v.items)
value_step (Datum-F.Array v) = items (values_of v.items)
value_step (Datum-F.LongPairs v) = items (values_of (long_pairs v.items))
value_step (Datum-F.BytesPairs v) = items (values_of (bytes_pairs v.items))
value_step (Datum-F.Repeated n b) = items (values_of (replicate n.number b.value))
value_step (Datum-F.Map v) = entries (entries_of (map (λ e. (e.0.now, e.1)) v.items))
value_step (Datum-F.Union n b) = chosen n b.value
value_step (Datum-F.NullBranch n) = chosen n nothing

abbrev pub view : Datum → Value
view = fold-Datum Value value_step

abbrev pub views : List Datum → List Value
views ds = map view ds

abbrev pub entry_views : List (Bor (List ℕ) × Datum) → List Pair
entry_views es = map (λ e. (e.0.now, view e.1)) es
