-- A file whose values each take a byte gives no more of them than it has bytes.
use Rattle.std.proofs.Common.{◌≡◌, ℕ, zero, suc, ◌+◌, ◌<◌, ◌≤◌, ℤ, pos, Bool, true, false, cond, ltb, List, [], ◌∷◌}
use Rattle.std.proofs.Common.{◌++◌, length, take, drop, None, Result, Ok, Err, refl, sym, ap, subst, ◌||◌, arith}
use Rattle.std.specs.Str.{bytes_eq}
use Rattle.std.proofs.lemmas.Bool.{ltb-true}
use Rattle.std.proofs.lemmas.List.{length-append, length-drop}
use Rattle.avro_schema.specs.Tree.{Tree, null, boolean, int, long, float, double, symbols, octets, string, fixed}
use Rattle.avro_schema.specs.Tree.{structure, array, map, union, Fields, no_fields, field}
use Rattle.avro_schema.specs.Texts.{schema_of}
use Rattle.avro_file_parts.specs.declared.refusal.Refusal.{Refusal}
use Rattle.avro_file.specs.declared.fault.AvroFault.TheVariants.{NotAvro, Schema}
use Rattle.avro_file_parts.specs.Number.{IsInt}
use Rattle.avro_file.specs.Value.{Value}
use Rattle.avro_file.specs.Reading.{datum_at}
use Rattle.avro_file.specs.Spelling.{IsRun, AreBlocks, IsEntry, Spells, SpellsFields, takes_bytes, some_takes_bytes}
use Rattle.avro_file.specs.Header.{FileHeader, header_at}
use Rattle.avro_file_parts.specs.Heads.{BlockHead, head_at}
use Rattle.avro_file.specs.Blocks.{fault_of, inside, refused, max_items, object_at, Run}
use Rattle.avro_file.specs.Blocks.{object_then, objects_run, head_then, blocks_run, run_from}
use Rattle.avro_file.specs.Ahead.{still_ahead}
use Rattle.avro_file.specs.Files.{magic, ahead_of, Opened, begun_at, schema_text, uncompressed, opened_at}
use Rattle.avro_file.proofs.Steps.{bind_ok, guard_ok, passed, ok_is}
use Rattle.avro_file.proofs.Taken.{datum_takes}
use Rattle.avro_file.proofs.Loop.{long_len, count_len}
use Rattle.avro_file.proofs.Heads.{refused_ok, head_takes}
use Rattle.avro_file.proofs.Metadata.{header_takes}

-- ---- a value of such a schema takes a byte

int_len : (bytes : List ℕ) (z : ℤ) → IsInt bytes z → 0 < length bytes
int_len [] z is = absurd (is.1.0)
int_len (b ∷ bytes) z is = omega arith

run_len : (s bytes : List ℕ) → IsRun s bytes → 0 < length bytes
run_len s bytes is = let h = long_len is.0 (pos (length s)) is.1 in omega (
  arith,
  h,
  ap length is.2,
  length-append is.0
      s,
)

blocks_len : {A : Type 0} (spells : A → List ℕ → Type 0) (blocks : ℕ) (vs : List A) (bytes : List ℕ)
    → AreBlocks spells blocks vs bytes → 0 < length bytes
blocks_len {A} spells zero vs bytes is = long_len bytes (pos 0) is.1
blocks_len {A} spells (suc blocks) vs bytes is =
    let h = count_len (length is.0) is.2 is.6 in
    omega (arith, h, ap length is.10, length-append is.2 (is.3 ++ is.4))

mutual
  unfolding takes_bytes some_takes_bytes

  value_len : (s : Tree) (v : Value) (bytes : List ℕ) → takes_bytes s ≡ true → Spells s v bytes → 0 < length bytes
  value_len null v bytes takes is = absurd cc
  value_len boolean v bytes takes is = omega (arith, ap length is.2)
  value_len int v bytes takes is = int_len bytes is.0 is.2
  value_len long v bytes takes is = long_len bytes is.0 is.2
  value_len float v bytes takes is = omega (arith, is.1)
  value_len double v bytes takes is = omega (arith, is.1)
  value_len (octets k) v bytes takes is = run_len is.0 bytes is.2
  value_len string v bytes takes is = run_len is.0 bytes is.3
  value_len (fixed n k) v bytes takes is = let some = ltb-true 0 n takes in omega (arith, some, is.1)
  value_len (symbols n) v bytes takes is = int_len bytes (pos is.0) is.3
  value_len (structure fs) v bytes takes is = fields_len fs is.0 bytes takes is.2
  value_len (array t id k) v bytes takes is = blocks_len (Spells t) is.2 is.0 bytes is.3
  value_len (map t) v bytes takes is = blocks_len (IsEntry (Spells t)) is.2 is.0 bytes is.3
  value_len (union bs) v bytes takes is = let h = long_len is.2 (pos is.0) is.5 in
      omega (arith, h, ap length is.7, length-append is.2 is.3)

  fields_len : (fs : Fields) (vs : List Value) (bytes : List ℕ) → some_takes_bytes fs ≡ true → SpellsFields fs vs bytes
      → 0 < length bytes
  fields_len no_fields vs bytes takes is = absurd cc
  fields_len (field id s fs) vs bytes takes is =
      let step : (b : Bool) → takes_bytes s ≡ b → (b || some_takes_bytes fs) ≡ true → 0 < length bytes =
      λ b. elim b as (λ x. takes_bytes s ≡ x → (x || some_takes_bytes fs) ≡ true → 0 < length bytes) [
        | true ↦ λ here any.
            let first = value_len s is.0 is.2 here is.5 in
            omega (arith, first, ap length is.7, length-append is.2 is.3)
        | false ↦ λ here any.
            let others = fields_len fs is.1 is.3 any is.6 in
            omega (arith, others, ap length is.7, length-append is.2 is.3)
      ] in
      step (takes_bytes s) refl takes

-- ---- a file of such values has no more of them than bytes

object_shorter : (s : Tree) → takes_bytes s ≡ true → (block : List ℕ) (x : Value × List ℕ) → object_at s block ≡ Ok x
    → length x.1 < length block
unfolding object_at
object_shorter s takes block x e =
    let a = bind_ok (refused inside (datum_at s (record { bytes = block; left = max_items })))
    (λ y. Ok (y.0, y.1.bytes)) x e in
    let t = datum_takes s (record { bytes = block; left = max_items }) a.0
    (refused_ok inside (datum_at s (record { bytes = block; left = max_items })) a.0 a.1) in
    let made : Value × List ℕ = (a.0.0, a.0.1.bytes) in
    let same : made ≡ x = ok_is made x a.2 in
    let some = value_len s a.0.0 t.front takes t.spelled in
    omega (
      arith,
      some,
      ap length t.parts,
      length-append t.front a.0.1.bytes,
      ap (λ (y : Value × List ℕ). length y.1)
          same,
    )

objects_few : (s : Tree) → takes_bytes s ≡ true → (total : ℕ) (after : Run) (n : ℕ) (block : List ℕ)
    → length (objects_run s total after n block).found ≤ length block + length after.found
unfolding objects_run
objects_few s takes total after zero [] = omega arith
objects_few s takes total after zero (b ∷ block) = omega arith
objects_few s takes total after (suc n) block =
    let step : (r : Result (Value × List ℕ) Refusal) → object_at s block ≡ r
    → length (object_then total (objects_run s total after n) r).found ≤ length block + length after.found =
    λ r. elim r as (λ q. object_at s block ≡ q → length (object_then total (objects_run s total after n) q).found ≤
    length block + length after.found) [
      | Ok x ↦ λ e.
          let less = object_shorter s takes block x e in
          let others = objects_few s takes total after n x.1 in
          omega (arith, less, others)
      | Err f ↦ λ e. omega arith
    ] in
    step (object_at s block) refl

blocks_few : (s : Tree) → takes_bytes s ≡ true → (sync : List ℕ) (total turns : ℕ) (bytes : List ℕ)
    → length (blocks_run s sync total turns bytes).found ≤ length bytes
unfolding blocks_run
blocks_few s takes sync total turns [] = omega arith
blocks_few s takes sync total zero (b ∷ bytes) = omega arith
blocks_few s takes sync total (suc turns) (b ∷ bytes) =
    let step : (r : Result BlockHead Refusal) → head_at sync (b ∷ bytes) ≡ r
    → length (head_then s total (blocks_run s sync total turns) r).found ≤ length (b ∷ bytes) =
    λ r. elim r as (λ q. head_at sync (b ∷ bytes) ≡ q → length (head_then s total (blocks_run s sync total turns)
    q).found ≤ length (b ∷ bytes)) [
      | Ok h ↦ λ e.
          let t = head_takes sync (b ∷ bytes) h e in
          let here = objects_few s takes total (blocks_run s sync total turns h.rest) h.count h.content in
          let others = blocks_few s takes sync total turns h.rest in
          omega (
            arith,
            here,
            others,
            ap length t.parts,
            length-append t.count
                (t.size ++ (h.content ++ (sync ++ h.rest))),
            length-append t.size (h.content ++ (sync ++ h.rest)),
            length-append h.content (sync ++ h.rest),
            length-append sync h.rest,
          )
      | Err f ↦ λ e. omega arith
    ] in
    step (head_at sync (b ∷ bytes)) refl

rest_shorter : (bytes : List ℕ) (h : FileHeader) → begun_at bytes ≡ Ok h → length h.rest ≤ length bytes
unfolding begun_at
rest_shorter bytes h e =
    let a = guard_ok (ltb (length bytes) 4) NotAvro (cond (bytes_eq (take 4 bytes) magic)
    (refused (fault_of (length bytes)) (header_at (drop 4 bytes))) (Err NotAvro)) h e in
    let b = passed (bytes_eq (take 4 bytes) magic) NotAvro (refused (fault_of (length bytes))
    (header_at (drop 4 bytes))) h a.1 in
    let t = header_takes (drop 4 bytes) h (refused_ok (fault_of (length bytes)) (header_at (drop 4 bytes)) h b.1) in
    omega (
      arith,
      length-drop 4 bytes,
      ap length t.parts,
      length-append t.front (h.sync ++ h.rest),
      length-append h.sync
          h.rest,
    )

pub few_ahead : (bytes : List ℕ) (o : Opened) → opened_at bytes ≡ Ok o → takes_bytes o.schema ≡ true
    → still_ahead o.ahead ≤ length bytes
unfolding opened_at run_from objects_run still_ahead
few_ahead bytes o e takes =
    let a = bind_ok (begun_at bytes) _ o e in
    let b = bind_ok (schema_text a.0.wanted.schema) _ o a.2 in
    let d = bind_ok (uncompressed a.0.wanted.codec) _ o b.2 in
    let f = bind_ok (refused Schema (schema_of b.0)) _ o d.2 in
    let run = run_from f.0 a.0.sync (length bytes) (record { count = 0; block = []; bytes = a.0.rest }) in
    let made : Opened = record { schema = f.0; ahead = ahead_of (length bytes) None run } in
    let same : made ≡ o = ok_is made o f.2 in
    let short = rest_shorter bytes a.0 a.1 in
    let few = blocks_few f.0 (subst (λ (x : Opened). takes_bytes x.schema ≡ true) (sym same) takes) a.0.sync
    (length bytes) (length a.0.rest) a.0.rest in
    let all : still_ahead made.ahead ≤ length bytes = omega (arith, short, few) in
    subst (λ (x : Opened). still_ahead x.ahead ≤ length bytes) same all
