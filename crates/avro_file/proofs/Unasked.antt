-- Reading asks for no memory: no fault of a file is want of it.
use Rattle.std.proofs.Common.{◌≡◌, ◌≢◌, ℕ, zero, suc, ◌+◌, ◌-◌, ◌*◌, ◌^◌, ℤ, pos, negsuc, ltb, cond, List, [], ◌∷◌}
use Rattle.std.proofs.Common.{◌++◌, length, take, drop, Option, Some, None, Result, Ok, Err, refl, ap, ◌∙◌}
use Rattle.std.specs.Str.{is_utf8, bytes_eq}
use Rattle.contract_words.specs.Outcome.{◌>>=◌}
use Rattle.avro_file_parts.specs.declared.refusal.Refusal.{Refusal}
use Rattle.avro_file_parts.specs.declared.refusal.Refusal.TheVariants as refusal
use Rattle.avro_file.specs.declared.fault.AvroFault.{AvroFault}
use Rattle.avro_file.specs.declared.fault.AvroFault.TheVariants as fault
use Rattle.avro_schema.specs.declared.fault.SchemaFault.{SchemaFault}
use Rattle.avro_schema.specs.Tree.{Tree, null, boolean, int, long, float, double, symbols, octets, string, fixed}
use Rattle.avro_schema.specs.Tree.{structure, array, map, union, Fields, no_fields, field, Branches, no_branches}
use Rattle.avro_schema.specs.Tree.{branch}
use Rattle.avro_schema.specs.Texts.{schema_of}
use Rattle.avro_file_parts.specs.Number.{signed_of, groups_at, from_start, number_at, long_at, int_at}
use Rattle.avro_file.specs.Value.{Value, truth, small, whole, single, twice, symbol, text, run, raw, fields, items}
use Rattle.avro_file.specs.Value.{entries, chosen, values_of, entries_of}
use Rattle.avro_file_parts.specs.Parts.{Position, Read, boolean_at, run_at, run_of, bytes_at, string_at, symbol_of}
use Rattle.avro_file.specs.Reading.{leaf}
use Rattle.avro_file_parts.specs.Parts.{symbol_at, magnitude, counted, count_at}
use Rattle.avro_file.specs.Reading.{values_at, block_then, blocks_at}
use Rattle.avro_file.specs.Reading.{chosen_by, entry_at, datum_at, fields_at, branch_at}
use Rattle.avro_file_parts.specs.Heads.{BlockHead, natural_of, head_at}
use Rattle.avro_file.specs.Blocks.{fault_of, inside, refused, max_items, object_at, Run}
use Rattle.avro_file.specs.Blocks.{stopped, object_then, objects_run, head_then, blocks_run, FilePosition, run_from}
use Rattle.avro_file.specs.Header.{property_at, properties_at, metadata_at, header_at}
use Rattle.avro_file.specs.Ahead.{running}
use Rattle.avro_file.specs.Files.{magic, null_codec, ahead_of, Opened, begun_at, schema_text, uncompressed, opened_at}
use Rattle.avro_file.proofs.Steps.{bind_ok, ok_is}
use Rattle.avro_file.proofs.Unlimited.{Never, bind_never, cond_never}

-- ---- bytes outside the objects

abbrev Passes : {A : Type 0} → Result A Refusal → Type 0
Passes r = Never refusal.Memory r

groups_pass : (turns : ℕ) (bytes : List ℕ) → Passes (groups_at turns bytes)
unfolding groups_at
groups_pass zero bytes = λ h. cc
groups_pass (suc turns) [] = λ h. cc
groups_pass (suc turns) (b ∷ bytes) =
    cond_never refusal.Memory (ltb b 128) (Ok (b, bytes)) (groups_at turns bytes >>= λ x. Ok (b - 128 + 128 * x.0, x.1))
    (λ h. cc) (bind_never refusal.Memory (groups_at turns bytes) (λ x. Ok (b - 128 + 128 * x.0, x.1))
    (groups_pass turns bytes) (λ x e h. cc))

start_passes : (bytes : List ℕ) (r : Result (ℕ × List ℕ) Refusal) → Passes r → Passes (from_start bytes r)
start_passes bytes (Ok x) p = λ h. cc
start_passes bytes (Err (refusal.Short n)) p = λ h. cc
start_passes bytes (Err refusal.BadNumber) p = p
start_passes bytes (Err refusal.BadUnion) p = p
start_passes bytes (Err refusal.BadUtf8) p = p
start_passes bytes (Err refusal.BadBoolean) p = p
start_passes bytes (Err refusal.TooManyItems) p = p
start_passes bytes (Err refusal.BadSync) p = p
start_passes bytes (Err refusal.BlockSize) p = p
start_passes bytes (Err refusal.Memory) p = p

number_passes : (limit : ℕ) (bytes : List ℕ) → Passes (number_at limit bytes)
unfolding number_at
number_passes limit bytes = bind_never refusal.Memory (from_start bytes (groups_at 10 bytes)) (λ x. cond (ltb x.0 limit)
    (Ok x) (Err refusal.BadNumber)) (start_passes bytes (groups_at 10 bytes) (groups_pass 10 bytes))
    (λ x e. cond_never refusal.Memory (ltb x.0 limit) (Ok x) (Err refusal.BadNumber) (λ h. cc) (λ h. cc))

long_passes : (bytes : List ℕ) → Passes (long_at bytes)
unfolding long_at
long_passes bytes = bind_never refusal.Memory (number_at (2 ^ 64) bytes) (λ x. Ok (signed_of x.0, x.1))
    (number_passes (2 ^ 64) bytes) (λ x e h. cc)

run_passes : (n : ℕ) (bytes : List ℕ) → Passes (run_at n bytes)
unfolding run_at
run_passes n bytes = cond_never refusal.Memory (ltb (length bytes) n) (Err (refusal.Short (length bytes)))
    (Ok (take n bytes, drop n bytes)) (λ h. cc) (λ h. cc)

run_of_passes : (z : ℤ) (bytes : List ℕ) → Passes (run_of z bytes)
run_of_passes (pos n) bytes = run_passes n bytes
run_of_passes (negsuc n) bytes = λ h. cc

bytes_pass : (bytes : List ℕ) → Passes (bytes_at bytes)
unfolding bytes_at
bytes_pass bytes = bind_never refusal.Memory (long_at bytes) (λ n. run_of n.0 n.1) (long_passes bytes)
    (λ n e. run_of_passes n.0 n.1)

string_passes : (bytes : List ℕ) → Passes (string_at bytes)
unfolding string_at
string_passes bytes = bind_never refusal.Memory (bytes_at bytes) (λ found. cond (is_utf8 found.0) (Ok found)
    (Err refusal.BadUtf8)) (bytes_pass bytes) (λ x e. cond_never refusal.Memory (is_utf8 x.0) (Ok x)
    (Err refusal.BadUtf8) (λ h. cc) (λ h. cc))

property_passes : (p : Position) → Passes (property_at p)
unfolding property_at
property_passes p =
    bind_never refusal.Memory (string_at p.bytes) (λ key. bytes_at key.1 >>= λ v. Ok
    ((key.0, v.0), record { bytes = v.1; left = p.left })) (string_passes p.bytes) (λ key e.
    bind_never refusal.Memory (bytes_at key.1) (λ v. Ok ((key.0, v.0), record { bytes = v.1; left = p.left }))
    (bytes_pass key.1) (λ v f h. cc))

-- ---- counts

counted_passes : (z : ℤ) (p : Position) → Passes (counted z p)
counted_passes (pos n) p = λ h. cc
counted_passes (negsuc n) p = bind_never refusal.Memory (long_at p.bytes) (λ size. Ok (
  suc n,
  record {
    bytes = size.1;
    left = p.left - suc n;
  },
)) (long_passes p.bytes) (λ x e h. cc)

count_passes : (p : Position) → Passes (count_at p)
unfolding count_at
count_passes p =
    bind_never refusal.Memory (long_at p.bytes) (λ n. cond (ltb p.left (magnitude n.0)) (Err refusal.TooManyItems)
    (counted n.0 (record { bytes = n.1; left = p.left }))) (long_passes p.bytes) (λ n e.
    cond_never refusal.Memory (ltb p.left (magnitude n.0)) (Err refusal.TooManyItems)
    (counted n.0 (record { bytes = n.1; left = p.left })) (λ h. cc) (counted_passes n.0 (record {
      bytes = n.1;
      left = p.left;
    })))

values_pass : {A : Type 0} (read : Position → Read A) → ((p : Position) → Passes (read p)) → (n : ℕ) (p : Position)
    → Passes (values_at read n p)
unfolding values_at
values_pass read each zero p = λ h. cc
values_pass read each (suc n) p =
    bind_never refusal.Memory (read p) (λ first. values_at read n first.1 >>= λ others. Ok
    (first.0 ∷ others.0, others.1)) (each p) (λ first e.
    bind_never refusal.Memory (values_at read n first.1) (λ others. Ok (first.0 ∷ others.0, others.1))
    (values_pass read each n first.1) (λ others f h. cc))

block_passes : {A : Type 0} (read : Position → Read A) → ((p : Position) → Passes (read p))
    → (others : Position → Read (List A)) → ((q : Position) → Passes (others q)) → (n : ℕ) (q : Position)
    → Passes (block_then read others n q)
block_passes read each others rest zero q = λ h. cc
block_passes read each others rest (suc n) q =
    bind_never refusal.Memory (values_at read (suc n) q) (λ here. others here.1 >>= λ after. Ok
    (here.0 ++ after.0, after.1)) (values_pass read each (suc n) q) (λ here f.
    bind_never refusal.Memory (others here.1) (λ after. Ok (here.0 ++ after.0, after.1)) (rest here.1)
    (λ after g h. cc))

blocks_pass : {A : Type 0} (read : Position → Read A) → ((p : Position) → Passes (read p)) → (turns : ℕ) (p : Position)
    → Passes (blocks_at read turns p)
unfolding blocks_at
blocks_pass read each zero p = λ h. cc
blocks_pass read each (suc turns) p =
    bind_never refusal.Memory (count_at p) (λ n. block_then read (blocks_at read turns) n.0 n.1) (count_passes p)
    (λ n e.
    block_passes read each (blocks_at read turns) (λ q. blocks_pass read each turns q) n.0 n.1)

header_passes : (bytes : List ℕ) → Passes (header_at bytes)
unfolding header_at metadata_at properties_at
header_passes bytes =
    bind_never refusal.Memory (metadata_at bytes) (λ x. run_at 16 x.1 >>= λ marker. Ok (record {
      wanted = x.0;
      sync = marker.0;
      rest = marker.1;
    }))
    (bind_never refusal.Memory (properties_at bytes >>= λ x. Ok (_, x.1)) (λ x. Ok (x.0, x.1.bytes))
    (bind_never refusal.Memory (properties_at bytes) (λ x. Ok (_, x.1)) (blocks_pass property_at property_passes
    (suc (length bytes)) (record { bytes = bytes; left = 2 ^ 64 - 1 })) (λ x e h. cc)) (λ x e h. cc))
    (λ x e. bind_never refusal.Memory (run_at 16 x.1) (λ marker. Ok (record {
      wanted = x.0;
      sync = marker.0;
      rest = marker.1;
    })) (run_passes 16 x.1) (λ m f h. cc))

named_never : {A : Type 0} (total : ℕ) (r : Result A Refusal) → Passes r
    → Never fault.Memory (refused (fault_of total) r)
named_never total (Ok x) p = λ h. cc
named_never total (Err (refusal.Short n)) p = λ h. cc
named_never total (Err refusal.BadNumber) p = λ h. cc
named_never total (Err refusal.BadUnion) p = λ h. cc
named_never total (Err refusal.BadUtf8) p = λ h. cc
named_never total (Err refusal.BadBoolean) p = λ h. cc
named_never total (Err refusal.TooManyItems) p = λ h. cc
named_never total (Err refusal.BadSync) p = λ h. cc
named_never total (Err refusal.BlockSize) p = λ h. cc
named_never total (Err refusal.Memory) p = λ h. p refl

pub begun_never : (bytes : List ℕ) → begun_at bytes ≢ Err fault.Memory
unfolding begun_at
begun_never bytes =
    let inside : Never fault.Memory (refused (fault_of (length bytes)) (header_at (drop 4 bytes))) =
    named_never (length bytes) (header_at (drop 4 bytes)) (header_passes (drop 4 bytes)) in
    cond_never fault.Memory (ltb (length bytes) 4) (Err fault.NotAvro) (cond (bytes_eq (take 4 bytes) magic)
    (refused (fault_of (length bytes)) (header_at (drop 4 bytes))) (Err fault.NotAvro)) (λ h. cc)
    (cond_never fault.Memory (bytes_eq (take 4 bytes) magic) (refused (fault_of (length bytes))
    (header_at (drop 4 bytes))) (Err fault.NotAvro) inside (λ h. cc))

abbrev pub as_fault : {A : Type 0} → AvroFault → Result A AvroFault
as_fault e = Err e

-- ---- values

boolean_passes : (bytes : List ℕ) → Passes (boolean_at bytes)
unfolding boolean_at
boolean_passes [] = λ h. cc
boolean_passes (zero ∷ bytes) = λ h. cc
boolean_passes (suc zero ∷ bytes) = λ h. cc
boolean_passes (suc (suc b) ∷ bytes) = λ h. cc

int_passes : (bytes : List ℕ) → Passes (int_at bytes)
unfolding int_at
int_passes bytes = bind_never refusal.Memory (number_at (2 ^ 32) bytes) (λ x. Ok (signed_of x.0, x.1))
    (number_passes (2 ^ 32) bytes) (λ x e h. cc)

symbol_of_passes : (n : ℕ) (z : ℤ) (rest : List ℕ) → Passes (symbol_of n (z, rest))
symbol_of_passes n (pos k) rest = cond_never {A = ℕ × List ℕ} refusal.Memory (ltb k n) (Ok (k, rest))
    (Err refusal.BadNumber) (λ h. cc) (λ h. cc)
symbol_of_passes n (negsuc k) rest = λ h. cc

symbol_passes : (n : ℕ) (bytes : List ℕ) → Passes (symbol_at n bytes)
unfolding symbol_at
symbol_passes n bytes = bind_never refusal.Memory (int_at bytes) (symbol_of n) (int_passes bytes)
    (λ x e. symbol_of_passes n x.0 x.1)

leaf_passes : {A : Type 0} (make : A → Value) (left : ℕ) (read : Result (A × List ℕ) Refusal) → Passes read
    → Passes (leaf make left read)
leaf_passes make left read passes = bind_never refusal.Memory read (λ x. Ok (
  make x.0,
  record {
    bytes = x.1;
    left = left;
  },
)) passes (λ x e h. cc)

entry_passes : (read : Position → Read Value) → ((p : Position) → Passes (read p)) → (p : Position)
    → Passes (entry_at read p)
unfolding entry_at
entry_passes read each p =
    bind_never refusal.Memory (string_at p.bytes) (λ key. read (record { bytes = key.1; left = p.left }) >>= λ x. Ok
    ((key.0, x.0), x.1)) (string_passes p.bytes) (λ key e.
    bind_never refusal.Memory (read (record { bytes = key.1; left = p.left })) (λ x. Ok ((key.0, x.0), x.1))
    (each (record { bytes = key.1; left = p.left })) (λ x f h. cc))

chosen_passes : (read : ℕ → Position → Read Value) → ((n : ℕ) (p : Position) → Passes (read n p))
    → (z : ℤ) (p : Position) → Passes (chosen_by read z p)
chosen_passes read each (pos n) p = bind_never refusal.Memory (read n p) (λ x. Ok (chosen n x.0, x.1)) (each n p)
    (λ x e h. cc)
chosen_passes read each (negsuc n) p = λ h. cc

mutual
  unfolding datum_at fields_at branch_at

  datum_passes : (s : Tree) (p : Position) → Passes (datum_at s p)
  datum_passes null p = λ h. cc
  datum_passes boolean p = leaf_passes truth p.left (boolean_at p.bytes) (boolean_passes p.bytes)
  datum_passes int p = leaf_passes small p.left (int_at p.bytes) (int_passes p.bytes)
  datum_passes float p = leaf_passes single p.left (run_at 4 p.bytes) (run_passes 4 p.bytes)
  datum_passes double p = leaf_passes twice p.left (run_at 8 p.bytes) (run_passes 8 p.bytes)
  datum_passes (symbols n) p = leaf_passes symbol p.left (symbol_at n p.bytes) (symbol_passes n p.bytes)
  datum_passes long p = leaf_passes whole p.left (long_at p.bytes) (long_passes p.bytes)
  datum_passes (octets kind) p = leaf_passes run p.left (bytes_at p.bytes) (bytes_pass p.bytes)
  datum_passes string p = leaf_passes text p.left (string_at p.bytes) (string_passes p.bytes)
  datum_passes (fixed n kind) p = leaf_passes raw p.left (run_at n p.bytes) (run_passes n p.bytes)
  datum_passes (structure fs) p = bind_never refusal.Memory (fields_at fs p) (λ x. Ok (fields (values_of x.0), x.1))
      (fields_pass fs p) (λ x e h. cc)
  datum_passes (array s id kind) p = bind_never refusal.Memory (blocks_at (datum_at s) (suc (length p.bytes)) p)
      (λ x. Ok (items (values_of x.0), x.1)) (blocks_pass (datum_at s) (datum_passes s) (suc (length p.bytes)) p)
      (λ x e h. cc)
  datum_passes (map s) p = bind_never refusal.Memory (blocks_at (entry_at (datum_at s)) (suc (length p.bytes)) p)
      (λ x. Ok (entries (entries_of x.0), x.1)) (blocks_pass (entry_at (datum_at s)) (entry_passes (datum_at s)
      (datum_passes s)) (suc (length p.bytes)) p) (λ x e h. cc)
  datum_passes (union bs) p = bind_never refusal.Memory (long_at p.bytes) (λ n. chosen_by (branch_at bs) n.0
      (record { bytes = n.1; left = p.left })) (long_passes p.bytes) (λ n e. chosen_passes (branch_at bs)
      (branch_passes bs) n.0 (record { bytes = n.1; left = p.left }))

  fields_pass : (fs : Fields) (p : Position) → Passes (fields_at fs p)
  fields_pass no_fields p = λ h. cc
  fields_pass (field id s fs) p =
      bind_never refusal.Memory (datum_at s p) (λ first. fields_at fs first.1 >>= λ others. Ok
      (first.0 ∷ others.0, others.1)) (datum_passes s p) (λ first e.
      bind_never refusal.Memory (fields_at fs first.1) (λ others. Ok (first.0 ∷ others.0, others.1))
      (fields_pass fs first.1) (λ others f h. cc))

  branch_passes : (bs : Branches) (n : ℕ) (p : Position) → Passes (branch_at bs n p)
  branch_passes no_branches n p = λ h. cc
  branch_passes (branch s bs) zero p = datum_passes s p
  branch_passes (branch s bs) (suc n) p = branch_passes bs n p

inside_never : {A : Type 0} (r : Result A Refusal) → Passes r → Passes (refused inside r)
inside_never (Ok x) p = λ h. cc
inside_never (Err (refusal.Short n)) p = λ h. cc
inside_never (Err refusal.BadNumber) p = λ h. cc
inside_never (Err refusal.BadUnion) p = λ h. cc
inside_never (Err refusal.BadUtf8) p = λ h. cc
inside_never (Err refusal.BadBoolean) p = λ h. cc
inside_never (Err refusal.TooManyItems) p = λ h. cc
inside_never (Err refusal.BadSync) p = λ h. cc
inside_never (Err refusal.BlockSize) p = λ h. cc
inside_never (Err refusal.Memory) p = p

object_passes : (s : Tree) (block : List ℕ) → Passes (object_at s block)
unfolding object_at
object_passes s block =
    let p : Position = record { bytes = block; left = max_items } in
    bind_never refusal.Memory (refused inside (datum_at s p)) (λ x. Ok (x.0, x.1.bytes)) (inside_never (datum_at s p)
    (datum_passes s p)) (λ x e h. cc)

natural_passes : (z : ℤ) → Passes (natural_of z)
natural_passes (pos n) = λ h. cc
natural_passes (negsuc n) = λ h. cc

head_passes : (sync bytes : List ℕ) → Passes (head_at sync bytes)
unfolding head_at
head_passes sync bytes =
    bind_never refusal.Memory (long_at bytes) _ (long_passes bytes) (λ count e.
    bind_never refusal.Memory (natural_of count.0) _ (natural_passes count.0) (λ n f.
    bind_never refusal.Memory (long_at count.1) _ (long_passes count.1) (λ size g.
    bind_never refusal.Memory (natural_of size.0) _ (natural_passes size.0) (λ len h.
    bind_never refusal.Memory (run_at len size.1) _ (run_passes len size.1) (λ content i.
    bind_never refusal.Memory (run_at 16 content.1) _ (run_passes 16 content.1) (λ marker j.
    cond_never {A = BlockHead} refusal.Memory (bytes_eq marker.0 sync) (Ok (record {
      count = n;
      content = content.0;
      rest = marker.1;
    })) (Err refusal.BadSync) (λ k. cc) (λ k. cc)))))))

-- ---- the objects of a file

abbrev Ends : Run → Type 0
Ends r = r.ending ≢ Some fault.Memory

fault_never : {A : Type 0} (total : ℕ) (e : Refusal) → Never {A = A} refusal.Memory (Err e)
    → fault_of total e ≢ fault.Memory
fault_never {A} total e p = λ h. named_never {A = A} total (Err e) p (ap (λ (f : AvroFault). as_fault {A = A} f) h)

stopped_ends : (f : AvroFault) → f ≢ fault.Memory → Ends (stopped f)
stopped_ends f p = λ h. let same : f ≡ fault.Memory = cc in p same

object_ends : (s : Tree) (total : ℕ) (after : Run) (n : ℕ) (r : Result (Value × List ℕ) Refusal) → Passes r
    → ((rest : List ℕ) → Ends (objects_run s total after n rest))
    → Ends (object_then total (objects_run s total after n) r)
object_ends s total after n (Ok x) p more = more x.1
object_ends s total after n (Err e) p more = stopped_ends (fault_of total e) (fault_never total e p)

objects_end : (s : Tree) (total : ℕ) (after : Run) → Ends after → (n : ℕ) (block : List ℕ)
    → Ends (objects_run s total after n block)
unfolding objects_run
objects_end s total after ends zero [] = ends
objects_end s total after ends zero (b ∷ block) = stopped_ends fault.BlockSize (λ h. cc)
objects_end s total after ends (suc n) block = object_ends s total after n (object_at s block) (object_passes s block)
    (λ rest. objects_end s total after ends n rest)

head_ends : (s : Tree) (total : ℕ) (others : List ℕ → Run) (r : Result BlockHead Refusal) → Passes r
    → ((rest : List ℕ) → Ends (others rest)) → Ends (head_then s total others r)
head_ends s total others (Ok h) p more = objects_end s total (others h.rest) (more h.rest) h.count h.content
head_ends s total others (Err e) p more = stopped_ends (fault_of total e) (fault_never total e p)

blocks_end : (s : Tree) (sync : List ℕ) (total turns : ℕ) (bytes : List ℕ) → Ends (blocks_run s sync total turns bytes)
unfolding blocks_run
blocks_end s sync total turns [] = λ h. cc
blocks_end s sync total zero (b ∷ bytes) = stopped_ends fault.BlockSize (λ h. cc)
blocks_end s sync total (suc turns) (b ∷ bytes) = head_ends s total (blocks_run s sync total turns)
    (head_at sync (b ∷ bytes)) (head_passes sync (b ∷ bytes)) (λ rest. blocks_end s sync total turns rest)

run_ends : (s : Tree) (sync : List ℕ) (total : ℕ) (p : FilePosition) → Ends (run_from s sync total p)
unfolding run_from
run_ends s sync total p = objects_end s total (blocks_run s sync total (length p.bytes) p.bytes)
    (blocks_end s sync total (length p.bytes) p.bytes) p.count p.block

-- ---- whole files

text_never : (found : Option (List ℕ)) → Never fault.Memory (schema_text found)
text_never (Some bytes) = λ h. cc
text_never None = λ h. cc

codec_never : (found : Option (List ℕ)) → Never fault.Memory (uncompressed found)
codec_never None = λ h. cc
codec_never (Some name) = cond_never {A = Unit {0}} fault.Memory (bytes_eq name null_codec) (Ok tt)
    (Err (fault.Codec name)) (λ h. cc) (λ h. cc)

schema_never : (r : Result Tree SchemaFault) → Never fault.Memory (refused fault.Schema r)
schema_never (Ok s) = λ h. cc
schema_never (Err e) = λ h. cc

pub opened_never : (bytes : List ℕ) → opened_at bytes ≢ Err fault.Memory
unfolding opened_at
opened_never bytes =
    bind_never fault.Memory (begun_at bytes) _ (begun_never bytes) (λ header e.
    bind_never fault.Memory (schema_text header.wanted.schema) _ (text_never header.wanted.schema) (λ named f.
    bind_never fault.Memory (uncompressed header.wanted.codec) _ (codec_never header.wanted.codec) (λ plain g.
    bind_never fault.Memory (refused fault.Schema (schema_of named)) _ (schema_never (schema_of named)) (λ s i h. cc))))

ends_are : (r : Run) (vs : List Value) → ahead_of 0 None r ≡ running vs (Some fault.Memory) → Ends r → ⊥
ends_are r vs e ends = let same : r.ending ≡ Some fault.Memory = cc in ends same

pub objects_never : (bytes : List ℕ) (o : Opened) (vs : List Value) → opened_at bytes ≡ Ok o
    → o.ahead ≢ running vs (Some fault.Memory)
unfolding opened_at
objects_never bytes o vs e g =
    let a = bind_ok (begun_at bytes) _ o e in
    let b = bind_ok (schema_text a.0.wanted.schema) _ o a.2 in
    let d = bind_ok (uncompressed a.0.wanted.codec) _ o b.2 in
    let f = bind_ok (refused fault.Schema (schema_of b.0)) _ o d.2 in
    let p : FilePosition = record { count = 0; block = []; bytes = a.0.rest } in
    let run = run_from f.0 a.0.sync (length bytes) p in
    let made : Opened = record { schema = f.0; ahead = ahead_of (length bytes) None run } in
    let same : made ≡ o = ok_is made o f.2 in
    ends_are run vs (ap (λ (x : Opened). x.ahead) same ∙ g) (run_ends f.0 a.0.sync (length bytes) p)
