-- Values that have a spelling.
use Rattle.std.proofs.Common.{◌≡◌, ℕ, suc, ◌+◌, ◌*◌, ◌/◌, ◌%◌, ◌^◌, ◌<◌, ℤ, pos, negsuc, Bool, true, false}
use Rattle.std.proofs.Common.{cond, eqb, List, [], ◌∷◌, ◌++◌, length, Option, Some, None, inl, refl, sym, ap}
use Rattle.std.proofs.Common.{arith}
use Rattle.std.specs.Prelude.{IfSome}
use Rattle.std.specs.List.{AllByRecursion}
use Rattle.std.proofs.lemmas.Bool.{eqb-true}
use Rattle.std.proofs.lemmas.List.{append-nil}
use Rattle.avro_schema.specs.declared.schema.ArrayKind.{ArrayKind}
use Rattle.avro_schema.specs.declared.schema.BytesKind.{BytesKind}
use Rattle.avro_schema.specs.Tree as tree_of
use Rattle.avro_schema.specs.Tree.{Tree, Fields, no_fields, field, structure}
use Rattle.avro_file_parts.specs.Number.{IsLong as SpellsLong, IsInt as SpellsInt}
use Rattle.avro_file.specs.Value.{Value, nothing, truth, small, whole, text, run, raw, fields, items, chosen, values_of}
use Rattle.avro_file.specs.Spelling.{AreJoined, Spells, SpellsFields, bit}
use Rattle.avro_file.specs.Writing.{long_bytes, run_bytes}
use Rattle.avro_file.proofs.Written.{number_written, signed_either, count_written, zero_written}
use Rattle.ice_meta.specs.Committing.{IsLong}
use Rattle.ice_manifest.specs.Adding.{IsId}
use Rattle.ice_manifest.specs.Fitting.{IsShort, IsText}
use Rattle.ice_manifest.specs.WrittenTypes.{null_or}
use Rattle.ice_manifest.specs.WrittenValues.{no_value, if_some}

-- the value has a spelling
pub record HasSpelling (t : Tree) (v : Value) : Type 0 where
  pub bytes : List ℕ
  pub spells : Spells t v bytes

-- ---- numbers

signed_odd : (n : ℕ) (b : Bool) → eqb ((2 * n + 1) % 2) 0 ≡ b
    → cond b (pos ((2 * n + 1) / 2)) (negsuc ((2 * n + 1) / 2)) ≡ negsuc n
signed_odd n true e = absurd (omega (arith, eqb-true _ _ e))
signed_odd n false e = ap negsuc (omega arith)

spells_long : (z : ℤ) → IsLong z → SpellsLong (long_bytes z) z
spells_long (pos n) lt = count_written n lt
spells_long (negsuc n) lt = (
  2 * n + 1,
  number_written (2 ^ 64) (2 * n + 1) (omega arith) (omega arith),
  sym
      (signed_odd n (eqb ((2 * n + 1) % 2) 0) refl),
)

spells_int : (z : ℤ) → IsId z → SpellsInt (long_bytes z) z
spells_int (pos n) lt = (
  2 * n,
  number_written (2 ^ 32) (2 * n) (omega arith) (omega arith),
  sym
      (signed_either n (eqb ((2 * n) % 2) 0) refl),
)
spells_int (negsuc n) lt = (
  2 * n + 1,
  number_written (2 ^ 32) (2 * n + 1) (omega arith) (omega arith),
  sym
      (signed_odd n (eqb ((2 * n + 1) % 2) 0) refl),
)

-- ---- values without parts

pub a_long : (z : ℤ) → IsLong z → HasSpelling tree_of.long (whole z)
a_long z h = record { bytes = long_bytes z; spells = (z, refl, spells_long z h) }

pub an_int : (z : ℤ) → IsId z → HasSpelling tree_of.int (small z)
an_int z h = record { bytes = long_bytes z; spells = (z, refl, spells_int z h) }

pub a_truth : (b : Bool) → HasSpelling tree_of.boolean (truth b)
a_truth b = record { bytes = bit b ∷ []; spells = (b, refl, refl) }

pub a_text : (s : List ℕ) → IsText s → HasSpelling tree_of.string (text s)
a_text s h = record {
  bytes = run_bytes s;
  spells = (s, refl, h.utf8, (long_bytes (pos (length s)), count_written (length s) h.short, refl));
}

pub a_run : (kind : BytesKind) (s : List ℕ) → IsShort s → HasSpelling (tree_of.octets kind) (run s)
a_run kind s h = record {
  bytes = run_bytes s;
  spells = (s, refl, (long_bytes (pos (length s)), count_written (length s) h, refl));
}

pub a_raw : (n : ℕ) (kind : BytesKind) (s : List ℕ) → length s ≡ n → HasSpelling (tree_of.fixed n kind) (raw s)
a_raw n kind s h = record { bytes = s; spells = (refl, h) }

-- ---- values that may be null

pub a_null : (t : Tree) → HasSpelling (null_or t) no_value
a_null t = record {
  bytes = long_bytes (pos 0) ++ [];
  spells = (
    0,
    nothing,
    long_bytes (pos 0),
    [],
    refl,
    count_written
        0 (omega arith),
    (refl, refl),
    refl,
  );
}

pub a_some : (t : Tree) (v : Value) → HasSpelling t v → HasSpelling (null_or t) (chosen 1 v)
a_some t v h = record {
  bytes = long_bytes (pos 1) ++ h.bytes;
  spells = (1, v, long_bytes (pos 1), h.bytes, refl, count_written 1 (omega arith), h.spells, refl);
}

pub an_option : {A : Type 0} (t : Tree) (value : A → Value) (P : A → Type 0) (o : Option A)
    → ((x : A) → P x → HasSpelling t (value x)) → IfSome o P → HasSpelling (null_or t) (if_some value o)
an_option t value P None spell h = a_null t
an_option t value P (Some x) spell h = a_some t (value x) (spell x h)

-- ---- records

pub record HasSpellings (fs : Fields) (vs : List Value) : Type 0 where
  pub bytes : List ℕ
  pub spells : SpellsFields fs vs bytes

pub no_spelling : HasSpellings no_fields []
no_spelling = record { bytes = []; spells = (refl, refl) }

pub and_then : (id : Option ℤ) (t : Tree) (v : Value) (fs : Fields) (vs : List Value) → HasSpelling t v
    → HasSpellings fs vs → HasSpellings (field id t fs) (v ∷ vs)
and_then id t v fs vs h k = record {
  bytes = h.bytes ++ k.bytes;
  spells = (v, vs, h.bytes, k.bytes, refl, h.spells, k.spells, refl);
}

pub a_record : (fs : Fields) (vs : List Value) → HasSpellings fs vs → HasSpelling (structure fs) (fields (values_of vs))
a_record fs vs h = record { bytes = h.bytes; spells = (vs, refl, h.spells) }

-- ---- arrays

record Joined (t : Tree) (vs : List Value) : Type 0 where
  pub bytes : List ℕ
  pub joined : AreJoined (Spells t) vs bytes

join : (t : Tree) (vs : List Value) → AllByRecursion (HasSpelling t) vs → Joined t vs
join t [] all = record { bytes = []; joined = refl }
join t (v ∷ vs) all =
    let rest = join t vs all.1 in
    record { bytes = all.0.bytes ++ rest.bytes; joined = (all.0.bytes, rest.bytes, all.0.spells, rest.joined, refl) }

pub an_array : (t : Tree) (id : Option ℤ) (kind : ArrayKind) (vs : List Value) → length vs < 2 ^ 63
    → AllByRecursion (HasSpelling t) vs → HasSpelling (tree_of.array t id kind) (items (values_of vs))
an_array t id kind [] few all = record { bytes = 0 ∷ []; spells = ([], refl, 0, (refl, zero_written)) }
an_array t id kind (v ∷ vs) few all =
    let count = long_bytes (pos (suc (length vs))) in
    let body = join t (v ∷ vs) all in record {
      bytes = count ++ (body.bytes ++ 0 ∷ []);
      spells = (
        v ∷ vs,
        refl,
        1,
        (
          v ∷ vs,
          [],
          count,
          body.bytes,
          0 ∷ [],
          omega arith,
          inl
              (count_written (suc (length vs)) few),
          body.joined,
          (refl, zero_written),
          sym (append-nil (v ∷ vs)),
          refl,
        ),
      );
    }
