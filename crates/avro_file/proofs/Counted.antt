-- Whatever lies in memory is counted by numbers.
use Rattle.std.proofs.Common.{◌≡◌, ℕ, zero, suc, ℤ, List, [], ◌∷◌, map, length, replicate, subst, sym, refl, ap, arith}
use denote.Ref.{Bor}
use Rattle.avro_file.specs.declared.datum.Datum.{Datum}
use Rattle.avro_file.specs.declared.datum.Datum.TheOpen.{Datum-F}
use Rattle.avro_file.specs.declared.datum.Datum.TheFolds.{fold-roll-Datum, ind-Datum, map-Datum}
use Rattle.avro_file.specs.Value.{Value, values_of, Pair, entries_of}
use Rattle.avro_file.specs.Spelling.{values_len, entries_len}
use Rattle.avro_file.specs.View.{view, value_step, long_pairs, bytes_pairs}
use Rattle.avro_file.specs.Counted.{IsCounted, AreCounted, EntriesAreCounted}

-- a datum whose value is known to be counted
abbrev Known : Type 0
Known = (d : Datum) × IsCounted (view d)

abbrev known_values : List Known → List Value
known_values ds = map view (map (λ e. e.0) ds)

values_many : (ds : List Known) → values_len (values_of (known_values ds)) ≡ length ds
values_many [] = refl
values_many (d ∷ ds) = ap suc (values_many ds)

values_counted : (ds : List Known) → AreCounted (values_of (known_values ds))
values_counted [] = tt
values_counted (d ∷ ds) = (d.1, values_counted ds)

long_pairs_many : (ps : List (ℤ × ℤ)) → values_len (values_of (long_pairs ps)) ≡ length ps
long_pairs_many [] = refl
long_pairs_many (p ∷ ps) = ap suc (long_pairs_many ps)

long_pairs_counted : (ps : List (ℤ × ℤ)) → AreCounted (values_of (long_pairs ps))
long_pairs_counted [] = tt
long_pairs_counted (p ∷ ps) = ((tt, (tt, tt)), long_pairs_counted ps)

bytes_pairs_many : (ps : List (ℤ × Bor (List ℕ))) → values_len (values_of (bytes_pairs ps)) ≡ length ps
bytes_pairs_many [] = refl
bytes_pairs_many (p ∷ ps) = ap suc (bytes_pairs_many ps)

bytes_pairs_counted : (ps : List (ℤ × Bor (List ℕ))) → AreCounted (values_of (bytes_pairs ps))
bytes_pairs_counted [] = tt
bytes_pairs_counted (p ∷ ps) = ((tt, (tt, tt)), bytes_pairs_counted ps)

repeated_many : (n : ℕ) (v : Value) → values_len (values_of (replicate n v)) ≡ n
repeated_many zero v = refl
repeated_many (suc n) v = ap suc (repeated_many n v)

repeated_counted : (n : ℕ) (v : Value) → IsCounted v → AreCounted (values_of (replicate n v))
repeated_counted zero v is = tt
repeated_counted (suc n) v is = (is, repeated_counted n v is)

abbrev known_entries : List (Bor (List ℕ) × Known) → List Pair
known_entries es = map (λ (e : Bor (List ℕ) × Value). (e.0.now, e.1)) (map (λ (e : Bor (List ℕ) × Datum). (
  e.0,
  view e.1,
)) (map (λ (e : Bor (List ℕ) × Known). (e.0, e.1.0)) es))

entries_many : (es : List (Bor (List ℕ) × Known)) → entries_len (entries_of (known_entries es)) ≡ length es
entries_many [] = refl
entries_many (e ∷ es) = ap suc (entries_many es)

entries_counted : (es : List (Bor (List ℕ) × Known)) → EntriesAreCounted (entries_of (known_entries es))
entries_counted [] = tt
entries_counted (e ∷ es) = (e.1.1, entries_counted es)

layer_counted : (y : Datum-F Known)
    → IsCounted (value_step (map-Datum Datum Value view (map-Datum Known Datum (λ e. e.0) y)))
layer_counted Datum-F.Null = tt
layer_counted (Datum-F.Boolean b) = tt
layer_counted (Datum-F.Int z) = tt
layer_counted (Datum-F.Long z) = tt
layer_counted (Datum-F.Float s) = tt
layer_counted (Datum-F.Double s) = tt
layer_counted (Datum-F.Enum n) = tt
layer_counted (Datum-F.String s) = tt
layer_counted (Datum-F.Bytes s) = tt
layer_counted (Datum-F.Fixed s) = tt
layer_counted (Datum-F.Record v) = values_counted v.items
layer_counted (Datum-F.Array v) = (omega (arith, v.ok, v.small, values_many v.items), values_counted v.items)
layer_counted (Datum-F.LongPairs v) = (
  omega (arith, v.ok, v.small, long_pairs_many v.items),
  long_pairs_counted v.items,
)
layer_counted (Datum-F.BytesPairs v) = (
  omega (arith, v.ok, v.small, bytes_pairs_many v.items),
  bytes_pairs_counted v.items,
)
layer_counted (Datum-F.Repeated n b) = (
  omega (arith, n.fits_long, repeated_many n.number (view b.value.0)),
  repeated_counted n.number (view b.value.0) b.value.1,
)
layer_counted (Datum-F.Map v) = (omega (arith, v.ok, v.small, entries_many v.items), entries_counted v.items)
layer_counted (Datum-F.Union n b) = b.value.1
layer_counted (Datum-F.NullBranch n) = tt

pub counted : (d : Datum) → IsCounted (view d)
counted = ind-Datum (λ d. IsCounted (view d)) (λ x y is. subst IsCounted (sym (fold-roll-Datum Value value_step x))
    (subst (λ z. IsCounted (value_step (map-Datum Datum Value view z))) is (layer_counted y)))
