-- One level of a schema, as a tree.
use Rattle.std.proofs.Common.{◌≡◌, ℕ, zero, suc, ◌<◌, ◌≤◌, List, [], ◌∷◌, length, get_or, ℤ, pos, negsuc, ◌<ℤ◌, Ok, Err}
use Rattle.std.proofs.Common.{refl, arith, rules, Vec, Box, Global, map, ap, ◌∙◌}
use Rattle.std.proofs.lemmas.Int.{ints}
use denote.Ref.{Bor}
use Rattle.std.specs.declared.sync.Arc.{Arc}
use Rattle.avro_file_parts.specs.declared.refusal.Refusal.{Refusal}
use Rattle.avro_file_parts.specs.declared.refusal.Refusal.TheVariants.{BadUnion}
use Rattle.avro_schema.specs.declared.schema.Schema.{Schema, Record, Map, Union, the_lemmas}
use Rattle.avro_schema.specs.declared.schema.Field.{Field}
use Rattle.avro_file.specs.declared.datum.Datum as datum
use Rattle.avro_schema.specs.Tree as Tree
use Rattle.avro_schema.specs.Tree.{structure, union, Fields, Branches}
use Rattle.avro_schema.specs.View.{tree, trees, parts, fields_of, branches_of}
use Rattle.avro_file.specs.Value.{Value, values_of, fields, chosen, entries, Pair, entries_of}
use Rattle.avro_file.specs.View.{view, views, entry_views}
use Rattle.avro_file_parts.specs.Parts.{Position, Read, string_at}
use Rattle.avro_file.specs.Reading.{blocks_at, entry_at, datum_at, fields_at, branch_at}
use Rattle.avro_file.specs.Reading.{chosen_by}

abbrev pub field_trees : List Field → Fields
field_trees fs = fields_of (parts fs)

abbrev pub branch_trees : List Schema → Branches
branch_trees ss = branches_of (trees ss)

pub tree-Record : (a : Arc (Vec Field Global) Global) → tree (Record a) ≡ structure (field_trees a.value.items)
tree-Record a = search (rules, the_lemmas)

pub tree-Union : (a : Arc (Vec Schema Global) Global) → tree (Union a) ≡ union (branch_trees a.value.items)
tree-Union a = search (rules, the_lemmas)

pub branch_there : (ss : List Schema) (n : ℕ) (d : Schema) (p : Position) → n < length ss
    → branch_at (branch_trees ss) n p ≡ datum_at (tree (get_or ss n d)) p
unfolding branch_at
branch_there [] n d p lt = absurd (omega arith)
branch_there (s ∷ ss) zero d p lt = refl
branch_there (s ∷ ss) (suc n) d p lt = branch_there ss n d p (omega arith)

pub no_branch : (ss : List Schema) (n : ℕ) (p : Position) → length ss ≤ n
    → branch_at (branch_trees ss) n p ≡ Err BadUnion
unfolding branch_at
no_branch [] n p le = refl
no_branch (s ∷ ss) zero p le = absurd (omega arith)
no_branch (s ∷ ss) (suc n) p le = no_branch ss n p (omega arith)

pub structure_fails : (e : Refusal) (fs : Fields) (p : Position) → fields_at fs p ≡ Err e
    → datum_at (structure fs) p ≡ Err e
unfolding datum_at
structure_fails f fs p h = rw h refl

pub structure_read : (fs : Fields) (p : Position) (vs : List Value) (q : Position) → fields_at fs p ≡ Ok (vs, q)
    → datum_at (structure fs) p ≡ Ok (fields (values_of vs), q)
unfolding datum_at
structure_read fs p vs q h = rw h refl

pub not_chosen : (read : ℕ → Position → Read Value) (z : ℤ) (p : Position) → z <ℤ pos 0
    → chosen_by read z p ≡ Err BadUnion
not_chosen read (pos n) p lt = absurd (omega (arith, ints))
not_chosen read (negsuc n) p lt = refl

pub chosen_fails : (e : Refusal) (read : ℕ → Position → Read Value) (n : ℕ) (p : Position) → read n p ≡ Err e
    → chosen_by read (pos n) p ≡ Err e
chosen_fails f read n p h = rw h refl

pub is_chosen : (read : ℕ → Position → Read Value) (n : ℕ) (p : Position) (v : Value) (q : Position)
    → read n p ≡ Ok (v, q) → chosen_by read (pos n) p ≡ Ok (chosen n v, q)
is_chosen read n p v q h = rw h refl

pub view-Record : (v : Vec datum.Datum Global) → view (datum.Record v) ≡ fields (values_of (views v.items))
view-Record v = search (rules, datum.the_lemmas)

pub view-Union : (n : ℕ) (b : Box datum.Datum Global) → view (datum.Union n b) ≡ chosen n (view b.value)
view-Union n b = search (rules, datum.the_lemmas)

pub map_read : (s : Tree.Tree) (p : Position) (es : List Pair) (q : Position)
    → blocks_at (entry_at (datum_at s)) (suc (length p.bytes)) p ≡ Ok (es, q)
    → datum_at (Tree.map s) p ≡ Ok (entries (entries_of es), q)
unfolding datum_at
map_read s p es q h = rw h refl

pub tree-Map : (a : Arc Schema Global) → tree (Map a) ≡ Tree.map (tree a.value)
tree-Map a = search (rules, the_lemmas)

view-Map_inside : (v : Vec (Bor (List ℕ) × datum.Datum) Global)
    → view (datum.Map v) ≡ entries (entries_of (map (λ (e : Bor (List ℕ) × Value). (e.0.now, e.1))
    (map (λ (e : Bor (List ℕ) × datum.Datum). (e.0, view e.1)) v.items)))
view-Map_inside v = search (rules, datum.the_lemmas)

twice : (es : List (Bor (List ℕ) × datum.Datum))
    → map (λ (e : Bor (List ℕ) × Value). (e.0.now, e.1)) (map (λ (e : Bor (List ℕ) × datum.Datum). (e.0, view e.1)) es)
    ≡ entry_views es
twice [] = refl
twice (e ∷ es) = ap (λ (more : List Pair). (e.0.now, view e.1) ∷ more) (twice es)

pub view-Map : (v : Vec (Bor (List ℕ) × datum.Datum) Global)
    → view (datum.Map v) ≡ entries (entries_of (entry_views v.items))
view-Map v = view-Map_inside v ∙ ap (λ (es : List Pair). entries (entries_of es)) (twice v.items)

pub entry_read : (read : Position → Read Value) (p : Position) (k rest : List ℕ) (v : Value) (q : Position)
    → string_at p.bytes ≡ Ok (k, rest) → read (record { bytes = rest; left = p.left }) ≡ Ok (v, q)
    → entry_at read p ≡ Ok ((k, v), q)
unfolding entry_at
entry_read read p k rest v q e f = rw (e, f) refl

pub key_fails : (e : Refusal) (read : Position → Read Value) (p : Position) → string_at p.bytes ≡ Err e
    → entry_at read p ≡ Err e
unfolding entry_at
key_fails f read p h = rw h refl

pub value_fails : (e : Refusal) (read : Position → Read Value) (p : Position) (k rest : List ℕ)
    → string_at p.bytes ≡ Ok (k, rest) → read (record { bytes = rest; left = p.left }) ≡ Err e → entry_at read p ≡ Err e
unfolding entry_at
value_fails f read p k rest e h = rw (e, h) refl
