-- Writers that were begun with a schema's text, and what is pushed to them one by one.
use Rattle.std.proofs.Common.{codes, Bool, true, false, ◌&&◌, ◌≡◌, ℕ, zero, suc, ◌+◌, ◌<◌, List, [], ◌∷◌, ◌++◌, length}
use Rattle.std.proofs.Common.{get_or, take, map, Ok, Err, refl, sym, ap, subst, ◌∙◌, add-one, arith}
use Rattle.avro_file.proofs.Steps.{ok_is}
use Rattle.std.specs.List.{AllByRecursion}
use Rattle.std.specs.Fmt.{signed_decimal}
use Rattle.std.specs.Str.{IsUtf8, IsAscii}
use Rattle.std.proofs.lemmas.Str.{IsUtf8-from_ascii}
use Rattle.std.proofs.lemmas.Bool.{ltb-true}
use Rattle.std.specs.Prelude.{nat_lt}
use Rattle.ice_manifest.specs.declared.heading.Heading.{Heading}
use Rattle.ice_manifest_reading.specs.declared.row.ManifestContent.{ManifestContent}
use Rattle.ice_manifest.specs.Writing.{properties_with, manifest_properties, spec_text}
use Rattle.avro_schema.specs.Tree.{Tree}
use Rattle.avro_schema.specs.Texts.{schema_of}
use Rattle.avro_file.specs.declared.fault.AvroFault.{AvroFault}
use Rattle.avro_file.specs.declared.fault.AvroFault.TheVariants.{Schema}
use Rattle.avro_file.specs.Blocks.{refused}
use Rattle.avro_file.specs.declared.writer.Writer.{Writer}
use Rattle.avro_file.specs.Header.{Property}
use Rattle.avro_file.specs.Writing.{in_order}
use Rattle.avro_file.specs.Writers.{WasGiven}

one_tree : (text : List ℕ) (s t : Tree) → schema_of text ≡ Ok s → schema_of text ≡ Ok t → s ≡ t
one_tree text s t e f = ok_is s t (sym e ∙ f)

-- the tree that a text names is the one that it is read as
pub of_tree : (w : Writer) (text known : List ℕ) (ms : List Property) (s t : Tree) → schema_of text ≡ Ok s
    → schema_of text ≡ Ok t → text ≡ known → WasGiven w (in_order text ms) s [] → WasGiven w (in_order known ms) t []
of_tree w text known ms s t e f g h =
    subst (λ (u : Tree). WasGiven w (in_order known ms) u []) (one_tree text s t e f)
    (subst (λ (x : List ℕ). WasGiven w (in_order x ms) s []) g h)

next_mapped : {A B : Type 0} (f : A → B) (xs : List A) (i : ℕ) (x : A) → i < length xs → x ≡ get_or xs i x
    → map f (take i xs) ++ f x ∷ [] ≡ map f (take (suc i) xs)
next_mapped f [] i x lt is = absurd (omega arith)
next_mapped {A} {B} f (y ∷ xs) zero x lt is = ap (λ (z : A). f z ∷ []) is
next_mapped f (y ∷ xs) (suc i) x lt is = ap (λ t. f y ∷ t) (next_mapped f xs i x (omega arith) is)

-- one more is mapped
pub map_on : {A B : Type 0} (f : A → B) (xs : List A) (i : ℕ) (x : A) (y : B) → i < length xs → x ≡ get_or xs i x
    → y ≡ f x → map f (take i xs) ++ y ∷ [] ≡ map f (take (i + 1) xs)
map_on {A} {B} f xs i x y lt is e = ap (λ (z : B). map f (take i xs) ++ z ∷ []) e ∙ next_mapped f xs i x lt is ∙ ap
    (λ (n : ℕ). map f (take n xs)) (sym (add-one i))

-- a text that is read as a tree is not refused
pub never_refused : (text : List ℕ) (t : Tree) (e : AvroFault) → schema_of text ≡ Ok t
    → refused Schema (schema_of text) ≡ Err e → ⊥
never_refused text t e named h =
    let both : refused Schema (Ok t) ≡ Err e = sym (ap (refused Schema) named) ∙ h in
    absurd cc

-- ---- the metadata of a manifest

pub same_properties : (h : Heading) (schema schema_id spec spec_id : List ℕ) → schema ≡ h.schema
    → schema_id ≡ signed_decimal h.schema_id → spec ≡ spec_text h.spec → spec_id ≡ signed_decimal h.spec.id
    → properties_with schema schema_id spec spec_id h.content ≡ manifest_properties h
same_properties h schema schema_id spec spec_id one two three four =
    ap (λ (s : List ℕ). properties_with s schema_id spec spec_id h.content) one
    ∙ ap (λ (s : List ℕ). properties_with h.schema s spec spec_id h.content) two
    ∙ ap (λ (s : List ℕ). properties_with h.schema (signed_decimal h.schema_id) s spec_id h.content) three
    ∙ ap (λ (s : List ℕ). properties_with h.schema (signed_decimal h.schema_id) (spec_text h.spec) s h.content) four

abbrev HaveTexts : List Property → Type 0
HaveTexts ps = AllByRecursion (λ (p : Property). IsUtf8 p.0) ps

abbrev is_ascii : List ℕ → Bool
is_ascii [] = true
is_ascii (b ∷ bs) = nat_lt b 128 && is_ascii bs

both : (a b : Bool) → (a && b) ≡ true → (a ≡ true) × (b ≡ true)
both true true h = (refl, refl)
both true false h = absurd cc
both false b h = absurd cc

each_ascii : (bs : List ℕ) → is_ascii bs ≡ true → IsAscii bs
each_ascii [] h i = omega arith
each_ascii (b ∷ bs) h zero = ltb-true b 128 (both (nat_lt b 128) (is_ascii bs) h).0
each_ascii (b ∷ bs) h (suc i) = each_ascii bs (both (nat_lt b 128) (is_ascii bs) h).1 i

ascii : (bs : List ℕ) → is_ascii bs ≡ true → IsUtf8 bs
ascii bs h = IsUtf8-from_ascii bs (each_ascii bs h)

keys_are_texts : (schema schema_id spec spec_id : List ℕ) (content : ManifestContent)
    → HaveTexts (properties_with schema schema_id spec spec_id content)
keys_are_texts schema schema_id spec spec_id content = (
  ascii (codes "schema") refl,
  (
    ascii (codes "schema-id") refl,
    (
      ascii (codes "partition-spec") refl,
      (
        ascii (codes "partition-spec-id") refl,
        (
          ascii (codes "format-version") refl,
          (
            ascii (codes "content") refl,
            tt,
          ),
        ),
      ),
    ),
  ),
)

pub texts_as : (ps : List Property) (schema schema_id spec spec_id : List ℕ) (content : ManifestContent)
    → ps ≡ properties_with schema schema_id spec spec_id content → AllByRecursion (λ (p : Property). IsUtf8 p.0) ps
texts_as ps schema schema_id spec spec_id content e = subst HaveTexts (sym e) (keys_are_texts schema schema_id spec
    spec_id content)
