-- Values of schemas that end alike.
use Rattle.std.proofs.Common.{◌≡◌, ℕ, zero, suc, ◌+◌, ◌<◌, ◌≤◌, ℤ, pos, negsuc, false, List, [], ◌∷◌, ◌++◌}
use Rattle.std.proofs.Common.{length, get_or, drop, Option, Result, Ok, Err, refl, sym, ap, subst, ◌∙◌, add-one}
use Rattle.std.proofs.Common.{drop-cons, append_assoc}
use Rattle.std.proofs.Math.ListN.{drop_of_length-le}
use Rattle.std.proofs.lemmas.List.{append-nil}
use Rattle.contract_words.specs.Outcome.{◌>>=◌}
use Rattle.avro_file_parts.specs.declared.refusal.Refusal.{Refusal}
use Rattle.avro_file_parts.specs.Number.{long_at}
use Rattle.avro_file_parts.specs.Parts.{Position, Read, behind, string_at, count_at}
use Rattle.avro_schema.specs.declared.schema.Field.{Field}
use Rattle.avro_schema.specs.declared.schema.Schema.{Schema}
use Rattle.avro_schema.specs.Tree.{Tree, structure, array, map, union, Fields, field, Branches}
use Rattle.avro_schema.specs.Tree.{branch}
use Rattle.avro_schema.specs.View.{tree}
use Rattle.avro_file.specs.Value.{Value}
use Rattle.avro_file.specs.Reading.{values_at, block_then, blocks_at, entry_at, datum_at, fields_at, branch_at}
use Rattle.avro_file.specs.Reading.{chosen_by}
use Rattle.avro_file.specs.Spelling.{takes_bytes}
use Rattle.avro_file.specs.Blocks.{inside, refused, max_items, object_at}
use Rattle.avro_file.proofs.Steps.{ok_is}
use Rattle.avro_file.specs.Alike.{EndAlike, FieldsEndAlike, BranchesEndAlike}
use Rattle.avro_file.proofs.Views.{field_trees, branch_trees}
use Rattle.avro_file.proofs.Behind.{behind_made, structure_ends, array_ends, map_ends, chosen_ends, empty_value}

-- readers that go on at the same places, or meet the same faults
abbrev pub Alike : {A B : Type 0} → (Position → Read A) → (Position → Read B) → Type 0
Alike f g = (p : Position) → behind (f p) ≡ behind (g p)

pub itself : (s : Tree) → EndAlike s s
itself s = λ p. refl

-- where reading one thing and then others goes on
front_then : {A B C Q : Type 0} (make : A → B → C) (next : Q → Read B) (read : Result (A × Q) Refusal)
    → behind (read >>= λ x. next x.1 >>= λ others. Ok (make x.0 others.0, others.1)) ≡ (behind read >>= λ q. behind
    (next q))
front_then make next (Ok x) = behind_made (make x.0) (next x.1)
front_then make next (Err f) = refl

-- one position for another, and others then
same_then : {B E Q : Type 0} (f : Q → Read B) (g : Q → Read E) (b : Result Q Refusal)
    → ((q : Q) → behind (f q) ≡ behind (g q)) → (b >>= λ q. behind (f q)) ≡ (b >>= λ q. behind (g q))
same_then f g (Ok q) then = then q
same_then f g (Err e) then = refl

-- another reader first, and others then
both_alike : {A B C D E F Q : Type 0} (make : A → B → C) (form : D → E → F) (f : Q → Read B) (g : Q → Read E)
    (r : Result (A × Q) Refusal) (s : Result (D × Q) Refusal) → behind r ≡ behind s
    → ((q : Q) → behind (f q) ≡ behind (g q))
    → behind (r >>= λ x. f x.1 >>= λ others. Ok (make x.0 others.0, others.1))
    ≡ behind (s >>= λ x. g x.1 >>= λ others. Ok (form x.0 others.0, others.1))
both_alike {Q = Q} make form f g r s first then =
    front_then make f r ∙ ap (λ (b : Result Q Refusal). b >>= λ q. behind (f q)) first
    ∙ same_then f g (behind s) then ∙ sym (front_then form g s)

-- ---- several values

values_alike : {A B : Type 0} (f : Position → Read A) (g : Position → Read B) → Alike f g → (n : ℕ) (p : Position)
    → behind (values_at f n p) ≡ behind (values_at g n p)
unfolding values_at
values_alike f g alike zero p = refl
values_alike f g alike (suc n) p =
    both_alike (λ a b. a ∷ b) (λ a b. a ∷ b) (values_at f n) (values_at g n) (f p) (g p) (alike p)
    (values_alike f g alike n)

block_alike : {A B : Type 0} (f : Position → Read A) (g : Position → Read B) (more : Position → Read (List A))
    (others : Position → Read (List B)) → Alike f g → Alike more others → (n : ℕ) (p : Position)
    → behind (block_then f more n p) ≡ behind (block_then g others n p)
block_alike f g more others alike then zero p = refl
block_alike f g more others alike then (suc n) p =
    both_alike (λ a b. a ++ b) (λ a b. a ++ b) more others (values_at f (suc n) p) (values_at g (suc n) p)
    (values_alike f g alike (suc n) p) then

counted_alike : {A B : Type 0} (f : ℕ → Position → Read A) (g : ℕ → Position → Read B) (r : Read ℕ)
    → ((n : ℕ) → Alike (f n) (g n)) → behind (r >>= λ n. f n.0 n.1) ≡ behind (r >>= λ n. g n.0 n.1)
counted_alike f g (Ok n) alike = alike n.0 n.1
counted_alike f g (Err e) alike = refl

blocks_alike : {A B : Type 0} (f : Position → Read A) (g : Position → Read B) → Alike f g → (turns : ℕ) (p : Position)
    → behind (blocks_at f turns p) ≡ behind (blocks_at g turns p)
unfolding blocks_at
blocks_alike f g alike zero p = refl
blocks_alike f g alike (suc turns) p =
    counted_alike (block_then f (blocks_at f turns)) (block_then g (blocks_at g turns)) (count_at p)
    (block_alike f g (blocks_at f turns) (blocks_at g turns) alike (blocks_alike f g alike turns))

entry_alike : (f g : Position → Read Value) → Alike f g → Alike (entry_at f) (entry_at g)
unfolding entry_at
entry_alike f g alike = λ p.
    both_alike (λ k v. (k, v)) (λ k v. (k, v)) (λ bytes. f (record { bytes = bytes; left = p.left }))
    (λ bytes. g (record { bytes = bytes; left = p.left })) (string_at p.bytes) (string_at p.bytes) refl
    (λ bytes. alike (record { bytes = bytes; left = p.left }))

-- ---- types that hold others

pub structure_alike : (fs gs : Fields) → FieldsEndAlike fs gs → EndAlike (structure fs) (structure gs)
structure_alike fs gs alike = λ p. structure_ends fs p ∙ alike p ∙ sym (structure_ends gs p)

pub array_alike : (s t : Tree) (id : Option ℤ) (kind : _) → EndAlike s t → EndAlike (array s id kind) (array t id kind)
array_alike s t id kind alike = λ p. array_ends s id kind p
    ∙ blocks_alike (datum_at s) (datum_at t) alike (suc (length p.bytes)) p ∙ sym (array_ends t id kind p)

pub map_alike : (s t : Tree) → EndAlike s t → EndAlike (map s) (map t)
map_alike s t alike = λ p. map_ends s p ∙ blocks_alike (entry_at (datum_at s)) (entry_at (datum_at t))
    (entry_alike (datum_at s) (datum_at t) alike) (suc (length p.bytes)) p ∙ sym (map_ends t p)

chosen_alike : (f g : ℕ → Position → Read Value) → ((n : ℕ) → Alike (f n) (g n)) → (z : ℤ) (p : Position)
    → behind (chosen_by f z p) ≡ behind (chosen_by g z p)
chosen_alike f g alike (pos n) p = chosen_ends f n p ∙ alike n p ∙ sym (chosen_ends g n p)
chosen_alike f g alike (negsuc n) p = refl

number_alike : (f g : ℤ → Position → Read Value) (left : ℕ) (r : Result (ℤ × List ℕ) Refusal)
    → ((z : ℤ) → Alike (f z) (g z)) → behind (r >>= λ n. f n.0 (record { bytes = n.1; left = left }))
    ≡ behind (r >>= λ n. g n.0 (record { bytes = n.1; left = left }))
number_alike f g left (Ok n) alike = alike n.0 (record { bytes = n.1; left = left })
number_alike f g left (Err e) alike = refl

pub union_alike : (bs cs : Branches) → BranchesEndAlike bs cs → EndAlike (union bs) (union cs)
unfolding datum_at
union_alike bs cs alike = λ p. number_alike (chosen_by (branch_at bs)) (chosen_by (branch_at cs)) p.left
    (long_at p.bytes) (chosen_alike (branch_at bs) (branch_at cs) alike)

-- ---- fields and branches behind others

field_alike : (id own : Option ℤ) (s t : Tree) (fs gs : Fields) → EndAlike s t → FieldsEndAlike fs gs
    → FieldsEndAlike (field id s fs) (field own t gs)
unfolding fields_at
field_alike id own s t fs gs alike others = λ p.
    both_alike (λ a b. a ∷ b) (λ a b. a ∷ b) (fields_at fs) (fields_at gs) (datum_at s p) (datum_at t p)
    (alike p) others

empty_field : (id : Option ℤ) (s : Tree) (fs : Fields) → takes_bytes s ≡ false → FieldsEndAlike fs (field id s fs)
unfolding fields_at
empty_field id s fs none = λ p.
    let e = empty_value s p none in
    rw e.1 (sym (behind_made (λ (others : List Value). e.0 ∷ others) (fields_at fs p)))

behind_fields : (front : List Field) (fs gs : List Field) → FieldsEndAlike (field_trees fs) (field_trees gs)
    → FieldsEndAlike (field_trees (front ++ fs)) (field_trees (front ++ gs))
behind_fields [] fs gs alike = alike
behind_fields (f ∷ front) fs gs alike =
    field_alike f.id f.id (tree f.schema) (tree f.schema) (field_trees (front ++ fs)) (field_trees (front ++ gs))
    (itself (tree f.schema)) (behind_fields front fs gs alike)

next_of : {A : Type 0} (xs : List A) (i : ℕ) (x : A) → i < length xs → x ≡ get_or xs i x
    → drop i xs ≡ x ∷ drop (i + 1) xs
next_of xs i x lt is = drop-cons xs i x lt ∙ rw (← is, add-one) refl

-- a field that takes bytes is kept with a lean type
pub field_kept : (kept fs all : List Field) (i : ℕ) (f lean : Field) → i < length fs → f ≡ get_or fs i f
    → EndAlike (tree lean.schema) (tree f.schema)
    → FieldsEndAlike (field_trees (kept ++ drop i fs)) (field_trees all)
    → FieldsEndAlike (field_trees ((kept ++ lean ∷ []) ++ drop (i + 1) fs)) (field_trees all)
field_kept kept fs all i f lean lt is same alike = λ p.
    rw (append_assoc kept (lean ∷ []) (drop (i + 1) fs)) (behind_fields kept (lean ∷ drop (i + 1) fs) (drop i fs)
    (rw (next_of fs i f lt is) (field_alike lean.id f.id (tree lean.schema) (tree f.schema)
    (field_trees (drop (i + 1) fs)) (field_trees (drop (i + 1) fs)) same (λ q. refl))) p) ∙ alike p

-- and one that takes none is left out
pub field_left : (kept fs all : List Field) (i : ℕ) (f : Field) → i < length fs → f ≡ get_or fs i f
    → takes_bytes (tree f.schema) ≡ false → FieldsEndAlike (field_trees (kept ++ drop i fs)) (field_trees all)
    → FieldsEndAlike (field_trees (kept ++ drop (i + 1) fs)) (field_trees all)
field_left kept fs all i f lt is none alike = λ p.
    behind_fields kept (drop (i + 1) fs) (drop i fs) (rw (next_of fs i f lt is) (empty_field f.id (tree f.schema)
    (field_trees (drop (i + 1) fs)) none)) p ∙ alike p

pub fields_kept : (kept fs all : List Field) (i : ℕ) → length fs ≤ i
    → FieldsEndAlike (field_trees (kept ++ drop i fs)) (field_trees all)
    → FieldsEndAlike (field_trees kept) (field_trees all)
fields_kept kept fs all i le alike =
    let k : drop i fs ≡ [] = drop_of_length-le fs le in
    let same : kept ++ drop i fs ≡ kept = rw k (append-nil kept) in
    subst (λ (hs : List Field). FieldsEndAlike (field_trees hs) (field_trees all)) same alike

branch_alike : (s t : Tree) (bs cs : Branches) → EndAlike s t → BranchesEndAlike bs cs → (n : ℕ) (p : Position)
    → behind (branch_at (branch s bs) n p) ≡ behind (branch_at (branch t cs) n p)
unfolding branch_at
branch_alike s t bs cs alike others zero p = alike p
branch_alike s t bs cs alike others (suc n) p = others n p

behind_branches : (front : List Schema) (ss ts : List Schema) → BranchesEndAlike (branch_trees ss) (branch_trees ts)
    → BranchesEndAlike (branch_trees (front ++ ss)) (branch_trees (front ++ ts))
behind_branches [] ss ts alike = alike
behind_branches (s ∷ front) ss ts alike = branch_alike (tree s) (tree s) (branch_trees (front ++ ss))
    (branch_trees (front ++ ts)) (itself (tree s)) (behind_branches front ss ts alike)

pub branch_kept : (kept ss all : List Schema) (i : ℕ) (s lean : Schema) → i < length ss → s ≡ get_or ss i s
    → EndAlike (tree lean) (tree s) → BranchesEndAlike (branch_trees (kept ++ drop i ss)) (branch_trees all)
    → BranchesEndAlike (branch_trees ((kept ++ lean ∷ []) ++ drop (i + 1) ss)) (branch_trees all)
branch_kept kept ss all i s lean lt is same alike = λ n p.
    rw (append_assoc kept (lean ∷ []) (drop (i + 1) ss)) (behind_branches kept (lean ∷ drop (i + 1) ss) (drop i ss)
    (rw (next_of ss i s lt is) (branch_alike (tree lean) (tree s) (branch_trees (drop (i + 1) ss))
    (branch_trees (drop (i + 1) ss)) same (λ m q. refl))) n p) ∙ alike n p

pub branches_kept : (kept ss all : List Schema) (i : ℕ) → length ss ≤ i
    → BranchesEndAlike (branch_trees (kept ++ drop i ss)) (branch_trees all)
    → BranchesEndAlike (branch_trees kept) (branch_trees all)
branches_kept kept ss all i le alike =
    let k : drop i ss ≡ [] = drop_of_length-le ss le in
    let same : kept ++ drop i ss ≡ kept = rw k (append-nil kept) in
    subst (λ (hs : List Schema). BranchesEndAlike (branch_trees hs) (branch_trees all)) same alike

-- ---- objects

refused_alike : (r s : Read Value) → behind r ≡ behind s
    → behind (refused inside r >>= λ x. Ok (x.0, x.1.bytes)) ≡ behind (refused inside s >>= λ x. Ok (x.0, x.1.bytes))
refused_alike (Ok x) (Ok y) e = ap (λ (q : Position). Ok q.bytes) (ok_is x.1 y.1 e)
refused_alike (Ok x) (Err f) e = absurd cc
refused_alike (Err f) (Ok y) e = absurd cc
refused_alike (Err f) (Err g) e = ap (λ (b : Result Position Refusal). again b) e
  where
    again : Result Position Refusal → Result (List ℕ) Refusal
    again (Ok q) = Ok q.bytes
    again (Err h) = Err (inside h)

pub object_alike : (s t : Tree) (block : List ℕ) → EndAlike s t
    → behind (object_at s block) ≡ behind (object_at t block)
unfolding object_at
object_alike s t block alike =
    let p : Position = record { bytes = block; left = max_items } in
    refused_alike (datum_at s p) (datum_at t p) (alike p)
