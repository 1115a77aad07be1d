-- Going through lists, as the loops do.
use Rattle.std.proofs.Common.{◌≡◌, ℕ, ◌+◌, ◌≤◌, ◌<◌, Bool, true, false, ◌||◌, ◌&&◌, List, [], ◌∷◌}
use Rattle.std.proofs.Common.{length, get_or, drop, Option, Some, None, Ok, Err, ℤ, cond, refl, sym, ◌∙◌}
use Rattle.std.proofs.Common.{add-one, drop-cons, arith, rules}
use Rattle.std.proofs.Math.ListN.{drop_of_length-le}
use Rattle.std.proofs.Common.{Global}
use Rattle.std.specs.declared.sync.Arc.{Arc}
use Rattle.contract_words.specs.Outcome.{◌>>=◌}
use Rattle.avro_schema.specs.declared.schema.Schema.{Schema, the_lemmas}
use Rattle.avro_schema.specs.declared.schema.Schema.TheVariants.{Array}
use Rattle.avro_schema.specs.declared.schema.ArrayKind.{ArrayKind}
use Rattle.avro_schema.specs.declared.schema.Field.{Field}
use Rattle.avro_schema.specs.Tree.{Tree, array, Fields, no_fields, field}
use Rattle.avro_schema.specs.View.{tree, trees, parts, fields_of, branches_of}
use Rattle.ice_manifest_fields.specs.declared.fault.FieldFault.{FieldFault}
use Rattle.ice_manifest_fields.specs.Types.{is_null, each_is, some_is}
use Rattle.ice_manifest_fields.specs.Schemas.{type_at, each_branch, Fault}
use Rattle.ice_manifest_fields.specs.Places.{place_from}
use Rattle.std.specs.Ordering.{int_eq}
use Rattle.std.specs.Option.{option_eq}

pub step_of : {A : Type 0} (xs : List A) (i : ℕ) (x : A) → i < length xs → x ≡ get_or xs i x
    → drop i xs ≡ x ∷ drop (i + 1) xs
step_of xs i x lt is = drop-cons xs i x lt ∙ rw (← is, add-one) refl

pub end_of : {A : Type 0} (xs : List A) (i : ℕ) → length xs ≤ i → drop i xs ≡ []
end_of xs i le = drop_of_length-le xs le

-- ---- a union's branches

pub each_here : (wanted : Tree → Bool) (ss : List Schema) (i : ℕ) (s : Schema) → i < length ss → s ≡ get_or ss i s
    → each_is wanted (branches_of (trees (drop i ss))) ≡ ((is_null (tree s) || wanted (tree s)) && each_is wanted
    (branches_of (trees (drop (i + 1) ss))))
unfolding each_is
each_here wanted ss i s lt is = rw (step_of ss i s lt is) refl

pub each_end : (wanted : Tree → Bool) (ss : List Schema) (i : ℕ) → length ss ≤ i
    → each_is wanted (branches_of (trees (drop i ss))) ≡ true
unfolding each_is
each_end wanted ss i le = rw (end_of ss i le) refl

pub some_here : (wanted : Tree → Bool) (ss : List Schema) (i : ℕ) (s : Schema) → i < length ss → s ≡ get_or ss i s
    → some_is wanted (branches_of (trees (drop i ss))) ≡ (wanted (tree s) || some_is wanted
    (branches_of (trees (drop (i + 1) ss))))
unfolding some_is
some_here wanted ss i s lt is = rw (step_of ss i s lt is) refl

pub some_end : (wanted : Tree → Bool) (ss : List Schema) (i : ℕ) → length ss ≤ i
    → some_is wanted (branches_of (trees (drop i ss))) ≡ false
unfolding some_is
some_end wanted ss i le = rw (end_of ss i le) refl

pub branch_here : (check : Tree → Fault) (ss : List Schema) (i : ℕ) (s : Schema) → i < length ss → s ≡ get_or ss i s
    → each_branch check (branches_of (trees (drop i ss))) ≡ (check (tree s) >>= λ ok. each_branch check
    (branches_of (trees (drop (i + 1) ss))))
unfolding each_branch
branch_here check ss i s lt is = rw (step_of ss i s lt is) refl

pub branches_end : (check : Tree → Fault) (ss : List Schema) (i : ℕ) → length ss ≤ i
    → each_branch check (branches_of (trees (drop i ss))) ≡ Ok tt
unfolding each_branch
branches_end check ss i le = rw (end_of ss i le) refl

pub branch_fails : (check : Tree → Fault) (ss : List Schema) (i : ℕ) (s : Schema) (f : FieldFault) → i < length ss
    → s ≡ get_or ss i s → Err f ≡ check (tree s) → each_branch check (branches_of (trees (drop i ss))) ≡ Err f
branch_fails check ss i s f lt is h = branch_here check ss i s lt is ∙ rw (sym h) refl

pub branch_passes : (check : Tree → Fault) (ss : List Schema) (i : ℕ) (s : Schema) (u : Unit {0}) → i < length ss
    → s ≡ get_or ss i s → Ok u ≡ check (tree s) → each_branch check (branches_of (trees (drop i ss))) ≡ each_branch
    check (branches_of (trees (drop (i + 1) ss)))
branch_passes check ss i s u lt is h = branch_here check ss i s lt is ∙ rw (sym h) refl

-- ---- a record's fields

pub type_here : (id : ℤ) (fs : List Field) (i : ℕ) (f : Field) → i < length fs → f ≡ get_or fs i f
    → type_at id (fields_of (parts (drop i fs))) ≡ cond (option_eq int_eq f.id (Some id)) (Some (tree f.schema))
    (type_at id (fields_of (parts (drop (i + 1) fs))))
unfolding type_at
type_here id fs i f lt is = rw (step_of fs i f lt is) refl

pub type_end : (id : ℤ) (fs : List Field) (i : ℕ) → length fs ≤ i → type_at id (fields_of (parts (drop i fs))) ≡ None
unfolding type_at
type_end id fs i le = rw (end_of fs i le) refl

-- ---- a field's value stands where the field does

pub beyond : (n : ℕ) (id : ℤ) (fs : Fields) (m : ℕ) → place_from n id fs ≡ Some m → n ≤ m
unfolding place_from
beyond n id no_fields m h = absurd cc
beyond n id (field own t fs) m h =
    let P : (b : Bool) → cond b (Some n) (place_from (n + 1) id fs) ≡ Some m → n ≤ m =
    λ b. elim b as (λ v. cond v (Some n) (place_from (n + 1) id fs) ≡ Some m → n ≤ m) [
      | true ↦ λ g. let same : n ≡ m = cc in omega (arith, same)
      | false ↦ λ g. let more = beyond (n + 1) id fs m g in omega (arith, more)
    ] in
    P (option_eq int_eq own (Some id)) h

-- ---- one level of a schema

pub tree-Array : (a : Arc Schema Global) (id : Option ℤ) (kind : ArrayKind)
    → tree (Array a id kind) ≡ array (tree a.value) id kind
tree-Array a id kind = search (rules, the_lemmas)
