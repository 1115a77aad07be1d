-- What was met where a value was found.
use Rattle.std.proofs.Common.{◌≡◌, ℤ, ℕ, Bool, List, Option, Some, None, Result, Ok, Err, refl, sym, ap, subst, ◌∙◌}
use Rattle.avro_schema.specs.Tree.{Tree, boolean, int, long, string, octets}
use Rattle.avro_schema.specs.declared.schema.BytesKind.{BytesKind}
use Rattle.avro_schema.specs.View.{tree}
use Rattle.avro_file_parts.specs.declared.refusal.Refusal.{Refusal}
use Rattle.avro_file_parts.specs.Parts.{boolean_at, string_at, bytes_at}
use Rattle.avro_file_parts.specs.Number.{long_at, int_at}
use Rattle.avro_file.specs.Value.{Value, truth, small, whole, text, run}
use Rattle.avro_file.specs.Blocks.{StandsAt}
use Rattle.avro_file.specs.Picking.{Typed, Picked, absent, null_met, present}
use Rattle.avro_file.proofs.Steps.{ok_is}
use Rattle.avro_file_picked.specs.declared.found.Found.{Found}
use Rattle.avro_file_picked.specs.Finding.{IsMet}
use Rattle.avro_file_picked.specs.Picked.{value_met}
use Rattle.ice_manifest_fields.specs.Fields.{there, whole_of, truth_of, text_of, binary_of}
use Rattle.ice_manifest_values.proofs.Leaves.{Makes, stands_seen, boolean_stands, int_stands, long_stands}
use Rattle.ice_manifest_values.proofs.Leaves.{string_stands}
use Rattle.ice_manifest_values.proofs.Leaves.{octets_stand}

-- how a leaf of the type is read
abbrev Reads : {A : Type 0} → Tree → (List ℕ → Result (A × List ℕ) Refusal) → (A → Value) → Type 0
Reads {A} t read make = (bytes : List ℕ) (v : Value) → StandsAt t bytes v
    → (x : A × List ℕ) × (read bytes ≡ Ok x) × (v ≡ make x.0)

-- what was read is what is seen of what was met
leaf_there : {A : Type 0} (see : Option Typed → Option A) (make : A → Value) (t : Tree)
    (read : List ℕ → Result (A × List ℕ) Refusal) → Reads t read make
    → ((u : Tree) (a : A) → see (Some (u, make a)) ≡ Some a) → (f : Found) (met : Picked) (bytes : List ℕ)
    (x : A × List ℕ) → tree f.schema.now ≡ t → bytes ≡ f.bytes.now → read bytes ≡ Ok x → IsMet (Some f) met
    → Some x.0 ≡ see (there met)
leaf_there {A} see make t read reads seen f met bytes x of same got is =
    let r = reads f.bytes.now is.0 (subst (λ (s : Tree). StandsAt s f.bytes.now is.0) of is.1) in
    let one : r.0 ≡ x = ok_is r.0 x (sym r.1 ∙ ap read (sym same) ∙ got) in
    let here : is.0 ≡ make x.0 = r.2 ∙ ap (λ (y : A × List ℕ). make y.0) one in
    sym (ap (λ (m : Picked). see (there m)) is.2 ∙ ap (λ (v : Value). see (Some (tree f.schema.now, v))) here
    ∙ seen (tree f.schema.now) x.0)

-- reading never fails there
leaf_never : {A : Type 0} (make : A → Value) (t : Tree) (read : List ℕ → Result (A × List ℕ) Refusal)
    → Reads t read make → (f : Found) (met : Picked) (bytes : List ℕ) (e : Refusal) → tree f.schema.now ≡ t
    → bytes ≡ f.bytes.now → read bytes ≡ Err e → IsMet (Some f) met → ⊥
leaf_never {A} make t read reads f met bytes e of same failed is =
    let r = reads f.bytes.now is.0 (subst (λ (s : Tree). StandsAt s f.bytes.now is.0) of is.1) in
    let both : Err e ≡ Ok r.0 = sym failed ∙ ap read same ∙ r.1 in
    absurd cc

pub whole_int : (f : Found) (met : Picked) (bytes : List ℕ) (x : ℤ × List ℕ) → tree f.schema.now ≡ int
    → bytes ≡ f.bytes.now → int_at bytes ≡ Ok x → IsMet (Some f) met → Some x.0 ≡ whole_of (there met)
whole_int = leaf_there whole_of small int int_at int_stands (λ u a. refl)

pub int_never : (f : Found) (met : Picked) (bytes : List ℕ) (e : Refusal) → tree f.schema.now ≡ int
    → bytes ≡ f.bytes.now → int_at bytes ≡ Err e → IsMet (Some f) met → ⊥
int_never = leaf_never small int int_at int_stands

pub whole_long : (f : Found) (met : Picked) (bytes : List ℕ) (x : ℤ × List ℕ) → tree f.schema.now ≡ long
    → bytes ≡ f.bytes.now → long_at bytes ≡ Ok x → IsMet (Some f) met → Some x.0 ≡ whole_of (there met)
whole_long = leaf_there whole_of whole long long_at long_stands (λ u a. refl)

pub long_never : (f : Found) (met : Picked) (bytes : List ℕ) (e : Refusal) → tree f.schema.now ≡ long
    → bytes ≡ f.bytes.now → long_at bytes ≡ Err e → IsMet (Some f) met → ⊥
long_never = leaf_never whole long long_at long_stands

pub truth_met : (f : Found) (met : Picked) (bytes : List ℕ) (x : Bool × List ℕ) → tree f.schema.now ≡ boolean
    → bytes ≡ f.bytes.now → boolean_at bytes ≡ Ok x → IsMet (Some f) met → Some x.0 ≡ truth_of (there met)
truth_met = leaf_there truth_of truth boolean boolean_at boolean_stands (λ u a. refl)

pub truth_never : (f : Found) (met : Picked) (bytes : List ℕ) (e : Refusal) → tree f.schema.now ≡ boolean
    → bytes ≡ f.bytes.now → boolean_at bytes ≡ Err e → IsMet (Some f) met → ⊥
truth_never = leaf_never truth boolean boolean_at boolean_stands

pub text_there : (f : Found) (met : Picked) (bytes : List ℕ) (x : List ℕ × List ℕ) → tree f.schema.now ≡ string
    → bytes ≡ f.bytes.now → string_at bytes ≡ Ok x → IsMet (Some f) met → Some x.0 ≡ text_of (there met)
text_there = leaf_there text_of text string string_at string_stands (λ u a. refl)

pub text_never : (f : Found) (met : Picked) (bytes : List ℕ) (e : Refusal) → tree f.schema.now ≡ string
    → bytes ≡ f.bytes.now → string_at bytes ≡ Err e → IsMet (Some f) met → ⊥
text_never = leaf_never text string string_at string_stands

pub bytes_met : (f : Found) (met : Picked) (bytes : List ℕ) (x : List ℕ × List ℕ) (kind : BytesKind)
    → tree f.schema.now ≡ octets kind → bytes ≡ f.bytes.now → bytes_at bytes ≡ Ok x → IsMet (Some f) met
    → Some x.0 ≡ binary_of (there met)
bytes_met f met bytes x kind =
    leaf_there binary_of run (octets kind) bytes_at (octets_stand kind) (λ u a. refl) f met bytes x

pub bytes_never : (f : Found) (met : Picked) (bytes : List ℕ) (e : Refusal) (kind : BytesKind)
    → tree f.schema.now ≡ octets kind → bytes ≡ f.bytes.now → bytes_at bytes ≡ Err e → IsMet (Some f) met → ⊥
bytes_never f met bytes e kind = leaf_never run (octets kind) bytes_at (octets_stand kind) f met bytes e

-- whatever the type's values are, this is what is seen of what was met
pub seen_there : {B : Type 0} (see : Option Typed → B) (b : B) (t : Tree) (f : Found) (met : Picked)
    → t ≡ tree f.schema.now → Makes (λ v. see (Some (t, v))) b t → IsMet (Some f) met → b ≡ see (there met)
seen_there {B} see b t f met same makes is =
    let stands : StandsAt t f.bytes.now is.0 = subst (λ (s : Tree). StandsAt s f.bytes.now is.0) (sym same) is.1 in
    sym (ap (λ (m : Picked). see (there m)) is.2 ∙ ap (λ (s : Tree). see (Some (s, is.0))) (sym same)
    ∙ stands_seen (λ v. see (Some (t, v))) b t f.bytes.now is.0 makes stands)

-- what was found by its type and its value
pub tree_there : (f : Found) (met : Picked) (s : Tree) (v : Value) (is : IsMet (Some f) met) → s ≡ tree f.schema.now
    → v ≡ is.0 → Some (s, v) ≡ there met
tree_there f met s v is same here =
    ap (λ (t : Tree). Some (t, v)) same ∙ ap (λ (w : Value). Some (tree f.schema.now, w)) here ∙ sym (ap there is.2)

-- where no value was met, nothing is there
pub none_there : (met : Picked) → value_met met ≡ None → there met ≡ None
none_there absent is = refl
none_there null_met is = refl
none_there (present x) is = absurd cc
