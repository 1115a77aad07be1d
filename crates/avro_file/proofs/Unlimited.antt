-- The metadata of a header have no limit of items.
use Rattle.std.proofs.Common.{◌≡◌, ◌≢◌, ℕ, zero, suc, ◌+◌, ◌-◌, ◌*◌, ◌/◌, ◌%◌, ◌^◌, ◌<◌, ◌≤◌, ℤ, pos, negsuc, ltb, Bool}
use Rattle.std.proofs.Common.{true, false, cond, List, [], ◌∷◌, ◌++◌, length, take, drop, Option, Some, None, Result}
use Rattle.std.proofs.Common.{Ok, Err, refl, ap, arith, ◌==◌}
use Rattle.std.specs.Str.{is_utf8, bytes_eq}
use Rattle.std.proofs.lemmas.Bool.{le-ltb}
use Rattle.std.proofs.lemmas.List.{length-append, length-drop}
use Rattle.avro_schema.specs.declared.fault.SchemaFault.{SchemaFault}
use Rattle.contract_words.specs.Outcome.{◌>>=◌}
use Rattle.avro_schema.specs.Tree.{Tree}
use Rattle.avro_schema.specs.Texts.{schema_of}
use Rattle.avro_file_parts.specs.declared.refusal.Refusal.{Refusal}
use Rattle.avro_file_parts.specs.declared.refusal.Refusal.TheVariants as refusal
use Rattle.avro_file.specs.declared.fault.AvroFault.TheVariants as fault
use Rattle.avro_file_parts.specs.Number.{IsLong, signed_of, groups_at, from_start, number_at, long_at}
use Rattle.avro_file_parts.specs.Parts.{Position, Read, run_at, run_of, bytes_at, string_at, magnitude, counted}
use Rattle.avro_file_parts.specs.Parts.{count_at}
use Rattle.avro_file.specs.Reading.{values_at, block_then, blocks_at}
use Rattle.avro_file.specs.Blocks.{fault_of, refused}
use Rattle.avro_file.specs.Header.{Property, property_at, properties_at, metadata_at, header_at, IsProperty}
use Rattle.avro_file.specs.Files.{magic, null_codec, begun_at, schema_text, uncompressed, opened_at}
use Rattle.avro_file.proofs.Taken.{long_takes, count_takes, values_take}
use Rattle.avro_file.proofs.Properties.{no_items, property_takes}
use Rattle.avro_file.proofs.Metadata.{properties_cost}

-- this is not how reading fails
abbrev pub Never : {A E : Type 0} → E → Result A E → Type 0
Never e r = r ≢ Err e

pub bind_never : {A B E : Type 0} (e : E) (r : Result A E) (f : A → Result B E) → Never e r
    → ((x : A) → r ≡ Ok x → Never e (f x)) → Never e (r >>= f)
bind_never e (Ok x) f p q = q x refl
bind_never {A} e (Err d) f p q = λ h. let same : d ≡ e = cc in p (ap (λ y. Err y) same)

pub cond_never : {A E : Type 0} (e : E) (b : Bool) (x y : Result A E) → Never e x → Never e y → Never e (cond b x y)
cond_never e true x y p q = p
cond_never e false x y p q = q

-- ---- bytes outside the objects

abbrev Passes : {A : Type 0} → Result A Refusal → Type 0
Passes r = Never refusal.TooManyItems r

groups_pass : (turns : ℕ) (bytes : List ℕ) → Passes (groups_at turns bytes)
unfolding groups_at
groups_pass zero bytes = λ h. cc
groups_pass (suc turns) [] = λ h. cc
groups_pass (suc turns) (b ∷ bytes) =
    cond_never refusal.TooManyItems (ltb b 128) (Ok (b, bytes)) (groups_at turns bytes >>= λ x. Ok
    (b - 128 + 128 * x.0, x.1)) (λ h. cc) (bind_never refusal.TooManyItems (groups_at turns bytes)
    (λ x. Ok (b - 128 + 128 * x.0, x.1)) (groups_pass turns bytes) (λ x e h. cc))

start_passes : (bytes : List ℕ) (r : Result (ℕ × List ℕ) Refusal) → Passes r → Passes (from_start bytes r)
start_passes bytes (Ok x) p = λ h. cc
start_passes bytes (Err (refusal.Short n)) p = λ h. cc
start_passes bytes (Err refusal.BadNumber) p = p
start_passes bytes (Err refusal.BadUnion) p = p
start_passes bytes (Err refusal.BadUtf8) p = p
start_passes bytes (Err refusal.BadBoolean) p = p
start_passes bytes (Err refusal.TooManyItems) p = p
start_passes bytes (Err refusal.BadSync) p = p
start_passes bytes (Err refusal.BlockSize) p = p
start_passes bytes (Err refusal.Memory) p = p

number_passes : (limit : ℕ) (bytes : List ℕ) → Passes (number_at limit bytes)
unfolding number_at
number_passes limit bytes = bind_never refusal.TooManyItems (from_start bytes (groups_at 10 bytes))
    (λ x. cond (ltb x.0 limit) (Ok x) (Err refusal.BadNumber)) (start_passes bytes (groups_at 10 bytes)
    (groups_pass 10 bytes)) (λ x e. cond_never refusal.TooManyItems (ltb x.0 limit) (Ok x) (Err refusal.BadNumber)
    (λ h. cc) (λ h. cc))

long_passes : (bytes : List ℕ) → Passes (long_at bytes)
unfolding long_at
long_passes bytes = bind_never refusal.TooManyItems (number_at (2 ^ 64) bytes) (λ x. Ok (signed_of x.0, x.1))
    (number_passes (2 ^ 64) bytes) (λ x e h. cc)

run_passes : (n : ℕ) (bytes : List ℕ) → Passes (run_at n bytes)
unfolding run_at
run_passes n bytes = cond_never refusal.TooManyItems (ltb (length bytes) n) (Err (refusal.Short (length bytes)))
    (Ok (take n bytes, drop n bytes)) (λ h. cc) (λ h. cc)

run_of_passes : (z : ℤ) (bytes : List ℕ) → Passes (run_of z bytes)
run_of_passes (pos n) bytes = run_passes n bytes
run_of_passes (negsuc n) bytes = λ h. cc

bytes_pass : (bytes : List ℕ) → Passes (bytes_at bytes)
unfolding bytes_at
bytes_pass bytes = bind_never refusal.TooManyItems (long_at bytes) (λ n. run_of n.0 n.1) (long_passes bytes)
    (λ n e. run_of_passes n.0 n.1)

string_passes : (bytes : List ℕ) → Passes (string_at bytes)
unfolding string_at
string_passes bytes = bind_never refusal.TooManyItems (bytes_at bytes) (λ found. cond (is_utf8 found.0) (Ok found)
    (Err refusal.BadUtf8)) (bytes_pass bytes) (λ x e. cond_never refusal.TooManyItems (is_utf8 x.0) (Ok x)
    (Err refusal.BadUtf8) (λ h. cc) (λ h. cc))

property_passes : (p : Position) → Passes (property_at p)
unfolding property_at
property_passes p =
    bind_never refusal.TooManyItems (string_at p.bytes) (λ key. bytes_at key.1 >>= λ v. Ok
    ((key.0, v.0), record { bytes = v.1; left = p.left })) (string_passes p.bytes) (λ key e.
    bind_never refusal.TooManyItems (bytes_at key.1) (λ v. Ok ((key.0, v.0), record { bytes = v.1; left = p.left }))
    (bytes_pass key.1) (λ v f h. cc))

-- ---- counts

half_small : (b : Bool) (n : ℕ) → n < 2 ^ 64 → magnitude (cond b (pos (n / 2)) (negsuc (n / 2))) ≤ 2 ^ 63
half_small true n lt = omega arith
half_small false n lt = omega arith

small_magnitude : (bytes : List ℕ) (z : ℤ) → IsLong bytes z → magnitude z ≤ 2 ^ 63
small_magnitude bytes z is = rw is.2 (half_small (is.0 % 2 == 0) is.0 is.1.2)

counted_passes : (z : ℤ) (p : Position) → Passes (counted z p)
counted_passes (pos n) p = λ h. cc
counted_passes (negsuc n) p = bind_never refusal.TooManyItems (long_at p.bytes)
    (λ size. Ok (suc n, record { bytes = size.1; left = p.left - suc n })) (long_passes p.bytes) (λ x e h. cc)

few_pass : (limit n : ℕ) (r : Read ℕ) → n ≤ limit → Passes r → Passes (cond (ltb limit n) (Err refusal.TooManyItems) r)
few_pass limit n r le p = let few : ltb limit n ≡ false = le-ltb _ _ le in rw few p

count_passes : (p : Position) → 2 ^ 63 ≤ p.left → Passes (count_at p)
unfolding count_at
count_passes p le =
    bind_never refusal.TooManyItems (long_at p.bytes) (λ n. cond (ltb p.left (magnitude n.0)) (Err refusal.TooManyItems)
    (counted n.0 (record { bytes = n.1; left = p.left }))) (long_passes p.bytes) (λ n e.
    let t = long_takes p.bytes n e in
    few_pass p.left (magnitude n.0) (counted n.0 (record { bytes = n.1; left = p.left }))
    (omega (arith, small_magnitude t.front n.0 t.spelled)) (counted_passes n.0 (record {
      bytes = n.1;
      left = p.left;
    })))

values_pass : (n : ℕ) (p : Position) → Passes (values_at property_at n p)
unfolding values_at
values_pass zero p = λ h. cc
values_pass (suc n) p =
    bind_never refusal.TooManyItems (property_at p) (λ first. values_at property_at n first.1 >>= λ others. Ok
    (first.0 ∷ others.0, others.1)) (property_passes p) (λ first e.
    bind_never refusal.TooManyItems (values_at property_at n first.1) (λ others. Ok (first.0 ∷ others.0, others.1))
    (values_pass n first.1) (λ others f h. cc))

-- As long as there are more items left than bytes, no count passes the limit.
block_passes : (others : Position → Read (List Property)) (p : Position) → 2 ^ 63 + length p.bytes ≤ p.left
    → ((q : Position) → 2 ^ 63 + length q.bytes ≤ q.left → Passes (others q)) → (n : ℕ) (q : Position)
    → count_at p ≡ Ok (n, q) → Passes (block_then property_at others n q)
block_passes others p le rest zero q e = λ h. cc
block_passes others p le rest (suc n) q e =
    let c = count_takes p (suc n, q) e in
    bind_never refusal.TooManyItems (values_at property_at (suc n) q) (λ here. others here.1 >>= λ after. Ok
    (here.0 ++ after.0, after.1)) (values_pass (suc n) q) (λ here f.
    let v = values_take property_at IsProperty no_items property_takes (suc n) q here f in
    let cost = properties_cost here.0 v.0.front v.0.spelled in
    let enough : 2 ^ 63 + length here.1.bytes ≤ here.1.left = omega (
      arith,
      c.left,
      v.0.left,
      v.1,
      cost,
      ap length
          c.parts,
      length-append c.front q.bytes,
      ap length v.0.parts,
      length-append v.0.front here.1.bytes,
    ) in
    bind_never refusal.TooManyItems (others here.1) (λ after. Ok (here.0 ++ after.0, after.1)) (rest here.1 enough)
    (λ after g h. cc))

blocks_pass : (turns : ℕ) (p : Position) → 2 ^ 63 + length p.bytes ≤ p.left → Passes (blocks_at property_at turns p)
unfolding blocks_at
blocks_pass zero p le = λ h. cc
blocks_pass (suc turns) p le =
    bind_never refusal.TooManyItems (count_at p) (λ n. block_then property_at (blocks_at property_at turns) n.0 n.1)
    (count_passes p (omega arith)) (λ n e.
    block_passes (blocks_at property_at turns) p le (λ q fits. blocks_pass turns q fits) n.0 n.1 e)

header_passes : (bytes : List ℕ) → length bytes < 2 ^ 63 → Passes (header_at bytes)
unfolding header_at metadata_at properties_at
header_passes bytes short =
    bind_never refusal.TooManyItems (metadata_at bytes) (λ x. run_at 16 x.1 >>= λ marker. Ok (record {
      wanted = x.0;
      sync = marker.0;
      rest = marker.1;
    }))
    (bind_never refusal.TooManyItems (properties_at bytes >>= λ x. Ok (_, x.1)) (λ x. Ok (x.0, x.1.bytes))
    (bind_never refusal.TooManyItems (properties_at bytes) (λ x. Ok (_, x.1)) (blocks_pass (suc (length bytes))
    (record { bytes = bytes; left = 2 ^ 64 - 1 }) (omega arith)) (λ x e h. cc)) (λ x e h. cc))
    (λ x e. bind_never refusal.TooManyItems (run_at 16 x.1) (λ marker. Ok (record {
      wanted = x.0;
      sync = marker.0;
      rest = marker.1;
    })) (run_passes 16 x.1) (λ m f h. cc))

-- ---- whole files

named_never : {A : Type 0} (total : ℕ) (r : Result A Refusal) → Passes r
    → Never fault.TooManyItems (refused (fault_of total) r)
named_never total (Ok x) p = λ h. cc
named_never total (Err (refusal.Short n)) p = λ h. cc
named_never total (Err refusal.BadNumber) p = λ h. cc
named_never total (Err refusal.BadUnion) p = λ h. cc
named_never total (Err refusal.BadUtf8) p = λ h. cc
named_never total (Err refusal.BadBoolean) p = λ h. cc
named_never total (Err refusal.TooManyItems) p = λ h. p refl
named_never total (Err refusal.BadSync) p = λ h. cc
named_never total (Err refusal.BlockSize) p = λ h. cc
named_never total (Err refusal.Memory) p = λ h. cc

text_never : (found : Option (List ℕ)) → Never fault.TooManyItems (schema_text found)
text_never (Some text) = λ h. cc
text_never None = λ h. cc

codec_never : (found : Option (List ℕ)) → Never fault.TooManyItems (uncompressed found)
codec_never None = λ h. cc
codec_never (Some name) = cond_never {A = Unit {0}} fault.TooManyItems (bytes_eq name null_codec) (Ok tt)
    (Err (fault.Codec name)) (λ h. cc) (λ h. cc)

schema_never : (r : Result Tree SchemaFault) → Never fault.TooManyItems (refused fault.Schema r)
schema_never (Ok s) = λ h. cc
schema_never (Err e) = λ h. cc

pub no_item_limit : (bytes : List ℕ) → length bytes < 2 ^ 63 → opened_at bytes ≢ Err fault.TooManyItems
unfolding opened_at begun_at
no_item_limit bytes short =
    let inside : Never fault.TooManyItems (refused (fault_of (length bytes)) (header_at (drop 4 bytes))) =
    named_never (length bytes) (header_at (drop 4 bytes)) (header_passes (drop 4 bytes)
    (omega (arith, length-drop 4 bytes))) in
    bind_never fault.TooManyItems (begun_at bytes) _ (cond_never fault.TooManyItems (ltb (length bytes) 4)
    (Err fault.NotAvro) (cond (bytes_eq (take 4 bytes) magic) (refused (fault_of (length bytes))
    (header_at (drop 4 bytes))) (Err fault.NotAvro)) (λ h. cc) (cond_never fault.TooManyItems
    (bytes_eq (take 4 bytes) magic) (refused (fault_of (length bytes)) (header_at (drop 4 bytes)))
    (Err fault.NotAvro) inside (λ h. cc))) (λ header e.
    bind_never fault.TooManyItems (schema_text header.wanted.schema) _ (text_never header.wanted.schema) (λ text f.
    bind_never fault.TooManyItems (uncompressed header.wanted.codec) _ (codec_never header.wanted.codec) (λ codec g.
    bind_never fault.TooManyItems (refused fault.Schema (schema_of text)) _ (schema_never (schema_of text))
    (λ s i h. cc))))
