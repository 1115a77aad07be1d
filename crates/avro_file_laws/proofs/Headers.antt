-- Where the header of a file is at fault.
use Rattle.std.proofs.Common.{◌≡◌, ◌≢◌, ℕ, zero, suc, ◌+◌, ◌-◌, ◌/◌, ◌%◌, ◌^◌, ◌<◌, ◌≤◌, ◌==◌, ℤ, pos, negsuc, Bool}
use Rattle.std.proofs.Common.{true, false, cond, List, [], ◌∷◌, ◌++◌, length, Ok, Err, inl, inr, refl, ap, subst}
use Rattle.std.proofs.Common.{length-append, arith}
use Rattle.avro_file_parts.specs.declared.refusal.Refusal.{Refusal}
use Rattle.avro_file_parts.specs.declared.refusal.Refusal.TheVariants as refusal
use Rattle.avro_file_parts.specs.Number.{IsLong}
use Rattle.avro_file_parts.specs.Parts.{Position, run_at, magnitude}
use Rattle.avro_file.specs.Reading.{blocks_at}
use Rattle.avro_file.specs.Spelling.{IsCount, AreBlocks}
use Rattle.avro_file.specs.Header.{Property, Wanted, wanted_with, none_wanted, property_at, properties_at, wanted_at}
use Rattle.avro_file.specs.Header.{metadata_at, header_at, IsProperty, AreProperties}
use Rattle.avro_file.proofs.Steps.{bind_ok, ok_is}
use Rattle.avro_file.proofs.Taken.{blocks_take, counts, counts-append}
use Rattle.avro_file.proofs.Again.{blocks_again, few_blocks}
use Rattle.avro_file.proofs.Properties.{no_items, property_takes, properties_read, properties_fail}
use Rattle.avro_file.proofs.Metadata.{property_again, properties_cost}
use Rattle.avro_file_laws.specs.Parts.{Part, a_long, some_bytes, a_text}
use Rattle.avro_file_laws.specs.Coming.{ComesInRun, ComesInCount, ComesInBlocks}
use Rattle.avro_file_laws.specs.Faults.{ComesInProperty, ComesInHeader}
use Rattle.avro_file_laws.proofs.Numbers.{bind_err}
use Rattle.avro_file_laws.proofs.Bad.{Bad, run_err, run_fails, Found}
use Rattle.avro_file_laws.proofs.Stopped.{ComesInSome, metadata_count_found, blocks_stop, property_stops}
use Rattle.avro_file_laws.proofs.Failing.{metadata_count_fails, some_block_fails, property_fails}
use Rattle.avro_file_laws.proofs.Heads.{Place}

abbrev most : ℕ
most = 2 ^ 64 - 1

abbrev from_start : List ℕ → Position
from_start bytes = record { bytes = bytes; left = most }

held_in : (ps : List Property) → 0 ≡ counts no_items ps
held_in [] = refl
held_in (p ∷ ps) = omega (arith, held_in ps)

-- ---- a header that is refused

metadata_takes : (bytes : List ℕ) (x : Wanted × List ℕ) → metadata_at bytes ≡ Ok x
    → (ps : List Property) × (front : List ℕ) × AreProperties ps front × (bytes ≡ front ++ x.1)
unfolding metadata_at properties_at
metadata_takes bytes x e =
    let a = bind_ok (wanted_at none_wanted (properties_at bytes)) (λ y. Ok (y.0, y.1.bytes)) x e in
    let r = properties_read none_wanted a.0.0 (properties_at bytes) a.0.1 a.1 in
    let t = blocks_take property_at IsProperty no_items property_takes (suc (length bytes)) (from_start bytes)
    (r.0, a.0.1) r.1 in
    let made : Wanted × List ℕ = (a.0.0, a.0.1.bytes) in
    subst (λ (y : Wanted × List ℕ). (ps : List Property) × (front : List ℕ) × AreProperties ps front ×
    (bytes ≡ front ++ y.1)) (ok_is made x a.2) (r.0, t.front, (t.spelled.0, t.spelled.1), t.parts)

metadata_err : (bytes : List ℕ) (e : Refusal) → metadata_at bytes ≡ Err e → properties_at bytes ≡ Err e
unfolding metadata_at
metadata_err bytes e h =
    elim (bind_err (wanted_at none_wanted (properties_at bytes)) (λ x. Ok (x.0, x.1.bytes)) e h) [
      | inl g ↦ properties_fail e none_wanted (properties_at bytes) g
      | inr g ↦ absurd (let m = g.2 in cc)
    ]

properties_stop : (bytes : List ℕ) (e : Refusal) → e ≢ refusal.TooManyItems → properties_at bytes ≡ Err e
    → Place ComesInHeader bytes e
unfolding properties_at
properties_stop bytes e unlimited h =
    let f = blocks_stop Property property_at IsProperty no_items (λ ps. 0) ComesInProperty most e property_takes held_in
    (property_stops most e) a_long (λ b q. metadata_count_found b most q e unlimited) (suc (length bytes)) 0
    (from_start bytes) (omega arith) (omega arith) h in
    let none : 0 + f.items ≡ f.items = omega arith in
    record {
      items = f.items;
      part = f.part;
      front = f.front;
      rest = f.rest;
      comes = inl f.comes;
      bad = subst (λ (k : ℕ). Bad k f.part f.rest e) none f.bad;
      parts = f.parts;
    }

pub header_err : (bytes : List ℕ) (e : Refusal) → e ≢ refusal.TooManyItems → header_at bytes ≡ Err e
    → Place ComesInHeader bytes e
unfolding header_at
header_err bytes e unlimited h =
    elim (bind_err (metadata_at bytes) _ e h) [
      | inl g ↦ properties_stop bytes e unlimited (metadata_err bytes e g)
      | inr g ↦
          let t = metadata_takes bytes g.0 g.1 in
          elim (bind_err (run_at 16 g.0.1) _ e g.2) [
            | inl k ↦
                let r = run_err 0 16 g.0.1 e k in
                record {
                  items = 0;
                  part = some_bytes 16;
                  front = t.1;
                  rest = g.0.1;
                  comes = inr (t.0, t.2, refl);
                  bad = inl (r.0, r.1);
                  parts = t.3;
                }
            | inr k ↦ absurd (let m = k.2 in cc)
          ]
    ]

-- ---- there are fewer properties than the reader's own bound

half_small : (b : Bool) (n : ℕ) → n < 2 ^ 64 → magnitude (cond b (pos (n / 2)) (negsuc (n / 2))) ≤ 2 ^ 63
half_small true n lt = omega arith
half_small false n lt = omega arith

small_magnitude : (bytes : List ℕ) (z : ℤ) → IsLong bytes z → magnitude z ≤ 2 ^ 63
small_magnitude bytes z is = rw is.2 (half_small (is.0 % 2 == 0) is.0 is.1.2)

small_count : (n : ℕ) (bytes : List ℕ) → IsCount n bytes → n ≤ 2 ^ 63
small_count n bytes (inl is) = small_magnitude bytes (pos n) is
small_count n bytes (inr is) = omega (arith, is.1, small_magnitude is.3 (negsuc is.0) is.5)

few_in_count : (items : ℕ) (bytes : List ℕ) (part : Part) → ComesInCount a_long items bytes part → items ≤ 2 ^ 63
few_in_count items bytes part (inl is) = omega (arith, is.0)
few_in_count items bytes part (inr is) = omega (arith, is.1, small_magnitude bytes (negsuc is.0) is.2)

none_in_run : (content : ℕ → Part) (items : ℕ) (bytes : List ℕ) (part : Part) → ComesInRun content items bytes part
    → items ≡ 0
none_in_run content items bytes part (inl is) = is.0
none_in_run content items bytes part (inr is) = is.1

none_in_property : (items : ℕ) (bytes : List ℕ) (part : Part) → ComesInProperty items bytes part → items ≡ 0
none_in_property items bytes part (inl is) = none_in_run a_text items bytes part is
none_in_property items bytes part (inr is) = none_in_run some_bytes items is.2 part is.5

few_in_metadata : (blocks items : ℕ) (bytes : List ℕ) (part : Part)
    → ComesInBlocks a_long IsProperty (λ ps. 0) ComesInProperty blocks items bytes part
    → items ≤ length bytes + 2 ^ 63
few_in_metadata zero items bytes part (inl is) = omega (arith, few_in_count items bytes part is)
few_in_metadata zero items bytes part (inr is) =
    let c = is.5 in
    omega (arith, is.6, c.7, none_in_property c.1 c.3 part c.6, small_count is.0 is.2 is.4)
few_in_metadata (suc blocks) items bytes part is = omega (
  arith,
  few_in_metadata blocks is.1 is.4 part is.8,
  is.9,
  properties_cost is.0 is.3 is.7,
  ap length is.10,
  length-append is.2 (is.3 ++ is.4),
  length-append is.3 is.4,
)

-- ---- and so it is refused

properties_stops : (bytes : List ℕ) (e : Refusal) → properties_at bytes ≡ Err e → header_at bytes ≡ Err e
unfolding header_at metadata_at
properties_stops bytes e h = rw h refl

marker_stops : (bytes rest : List ℕ) (w : Wanted) (e : Refusal) → metadata_at bytes ≡ Ok (w, rest)
    → run_at 16 rest ≡ Err e → header_at bytes ≡ Err e
unfolding header_at
marker_stops bytes rest w e h k = rw (h, k) refl

few_properties : (blocks : ℕ) (ps : List Property) (spelt : List ℕ) → AreBlocks IsProperty blocks ps spelt
    → length ps + counts no_items ps ≤ length spelt
few_properties zero ps spelt is = rw is.0 (omega arith)
few_properties (suc blocks) ps spelt is =
    let first = properties_cost is.0 is.3 is.7 in
    let others = few_properties blocks is.1 is.4 is.8 in
    rw is.9 (omega (
      arith,
      first,
      others,
      length-append is.0 is.1,
      counts-append no_items is.0 is.1,
      ap length is.10,
      length-append is.2 (is.3 ++ is.4),
      length-append is.3 is.4,
    ))

metadata_again : (ps : List Property) (front rest : List ℕ) → length front < 2 ^ 64 → AreProperties ps front
    → metadata_at (front ++ rest) ≡ Ok (wanted_with none_wanted ps, rest)
unfolding metadata_at properties_at
metadata_again ps front rest short is =
    let items = length ps + counts no_items ps in
    let few : items ≤ length front = few_properties is.0 ps front is.1 in
    let q : Position = record { bytes = rest; left = 2 ^ 64 - 1 - items } in
    let p : Position = record { bytes = front ++ rest; left = 2 ^ 64 - 1 } in
    let turns : is.0 < suc (length (front ++ rest)) = omega (
      arith,
      few_blocks IsProperty is.0 ps front is.1,
      length-append front rest,
    ) in
    let read : blocks_at property_at (suc (length (front ++ rest))) p ≡ Ok (ps, q) = blocks_again property_at IsProperty
    no_items property_again is.0 (suc (length (front ++ rest))) ps front p q turns is.1 refl
    (omega (arith, few, short)) in
    rw read refl

properties_fails : (bytes : List ℕ) (e : Refusal) → length bytes < 2 ^ 63 → (items : ℕ) (part : Part)
    (front rest : List ℕ) (blocks : ℕ)
    → ComesInBlocks a_long IsProperty (λ ps. 0) ComesInProperty blocks items front part → Bad items part rest e
    → bytes ≡ front ++ rest → properties_at bytes ≡ Err e
unfolding properties_at
properties_fails bytes e short items part front rest blocks is bad parts =
    let none : items ≡ 0 + items = omega arith in
    let found : Found (ComesInSome a_long IsProperty (λ ps. 0) ComesInProperty) 0 most bytes e = record {
      items = items;
      part = part;
      front = front;
      rest = rest;
      comes = (blocks, is);
      few = omega (
        arith,
        few_in_metadata blocks items front part is,
        ap length parts,
        length-append front rest,
        short,
      );
      bad = subst (λ (k : ℕ). Bad k part rest e) none bad;
      parts = parts;
    } in
    some_block_fails Property property_at IsProperty no_items (λ ps. 0) ComesInProperty most e property_again held_in
    (property_fails most e) a_long (metadata_count_fails most e) (suc (length bytes)) 0 (from_start bytes) (omega arith)
    (omega arith) found

in_header_fails : (bytes : List ℕ) (e : Refusal) → length bytes < 2 ^ 63 → (items : ℕ) (part : Part)
    (front rest : List ℕ) → ComesInHeader items front part → Bad items part rest e → bytes ≡ front ++ rest
    → header_at bytes ≡ Err e
in_header_fails bytes e short items part front rest (inl is) bad parts =
    properties_stops bytes e (properties_fails bytes e short items part front rest is.0 is.1 bad parts)
in_header_fails bytes e short items part front rest (inr is) bad parts =
    let few : length front < 2 ^ 64 = omega (arith, short, ap length parts, length-append front rest) in
    let read : metadata_at bytes ≡ Ok (wanted_with none_wanted is.0, rest) = rw parts (metadata_again is.0 front rest
    few is.1) in
    marker_stops bytes rest (wanted_with none_wanted is.0) e read (run_fails items 16 rest e
    (subst (λ (p : Part). Bad items p rest e) is.2 bad))

pub header_fails : (bytes : List ℕ) (e : Refusal) → length bytes < 2 ^ 63 → Place ComesInHeader bytes e
    → header_at bytes ≡ Err e
header_fails bytes e short p = in_header_fails bytes e short p.items p.part p.front p.rest p.comes p.bad p.parts
