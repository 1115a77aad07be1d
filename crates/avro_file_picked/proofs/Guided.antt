-- Guides of types, and where field paths lead by them.
use Rattle.std.proofs.Common.{◌≡◌, ◌≤◌, ◌<◌, ◌+◌, ℕ, zero, suc, ℤ, Bool, true, false, ◌||◌, cond, List, [], ◌∷◌, ◌++◌}
use Rattle.std.proofs.Common.{length, get_or, drop, map, IfOk, Option, Some, None, Result, Ok, Err, refl, sym, ap}
use Rattle.std.proofs.Common.{subst, ◌∙◌}
use Rattle.std.proofs.Common.{add-one, drop-cons, arith, rules, Vec, Global}
use Rattle.std.proofs.Math.ListN.{drop_of_length-le}
use Rattle.std.proofs.lemmas.List.{append-nil}
use Rattle.std.proofs.lemmas.Bool.Decides.{Decides-int_eq}
use Rattle.std.specs.Ordering.{int_eq}
use Rattle.std.specs.Option.{option_eq}
use Rattle.avro_schema.specs.declared.schema.Field.{Field}
use Rattle.avro_schema.specs.declared.schema.Schema.{Schema}
use Rattle.std.specs.Prelude.{if◌then◌else◌}
use Rattle.avro_schema.specs.Tree as tree_of
use Rattle.avro_schema.specs.Tree.{Tree, null, boolean, int, long, float, double, symbols, octets, string, fixed}
use Rattle.avro_schema.specs.Tree.{structure, array, union, Fields, no_fields, field}
use Rattle.avro_schema.specs.View.{tree}
use denote.Ref.{Bor}
use Rattle.avro_schema.specs.declared.schema.ArrayKind.{ArrayKind}
use Rattle.avro_file_parts.specs.declared.place.Place.{Place}
use Rattle.avro_file_parts.specs.Place.{position_of}
use Rattle.avro_file_parts.specs.declared.refusal.Refusal.{Refusal}
use Rattle.avro_file.specs.Blocks.{max_items, StandsAt}
use Rattle.avro_file_picked.specs.Picked.{value_met}
use Rattle.avro_file_parts.specs.Parts.{Position, behind}
use Rattle.avro_file.specs.Alike.{EndAlike}
use Rattle.avro_file.specs.Spelling.{takes_bytes}
use Rattle.avro_file.specs.Value.{Value, values_of}
use Rattle.avro_file.specs.Reading.{datum_at, fields_at}
use Rattle.avro_file.specs.Picking.{Picked, absent, null_met, present, field_value}
use Rattle.avro_file.proofs.Views.{field_trees, branch_trees}
use Rattle.avro_file.proofs.Behind.{behind_ok, behind_err, empty_value}
use Rattle.avro_file_picked.specs.declared.guide.Guide.{Guide, out-Guide, the_lemmas}
use Rattle.avro_file_picked.specs.Finding.{fields_in, is_structure, branches_in, items_in, items_type}
use Rattle.avro_file_picked.specs.Guides.{Guided, guided, Guides, no_guides, guide, guides_of, seen, all_seen, is_on}
use Rattle.avro_file_picked.specs.Guides.{asks}
use Rattle.avro_file_picked.specs.Guides.{ids_in, AreAsked, kept, as_fields, inner, type_guided, id_guided, IsGuide}
use Rattle.avro_file_picked.specs.Guides.{AreParts}
use Rattle.avro_file_picked.specs.Guides.{GuidesTo, HasItems, GuidesItems}
use Rattle.avro_file_picked.specs.Placing.{nth_field_path}
use Rattle.avro_file_picked.proofs.Values.{First, first_read, stands}
use Rattle.avro_file_picked.proofs.FieldPaths.{one_end, taken_or_not, union_of_branches, not_both as both_read}
use Rattle.avro_file_picked.proofs.FieldPaths.{Settles}

-- ---- one level of a guide

pub seen_is : (g : Guide) → seen g ≡ guided (out-Guide g).id (tree (out-Guide g).schema.now)
    (tree (out-Guide g).passing) (all_seen (out-Guide g).parts.items)
seen_is g = search (rules, the_lemmas)

pub type_is : (g : Guide) → type_guided (seen g) ≡ tree (out-Guide g).schema.now
type_is g = ap type_guided (seen_is g)

pub id_is : (g : Guide) → id_guided (seen g) ≡ (out-Guide g).id
id_is g = ap id_guided (seen_is g)

pub passing_alike : (field_paths : List (List ℤ)) (g : Guide) → IsGuide field_paths (seen g)
    → EndAlike (tree (out-Guide g).passing) (type_guided (seen g))
passing_alike field_paths g is = rw (type_is g) ((rw (seen_is g) at is).0)

pub parts_guide : (field_paths : List (List ℤ)) (g : Guide) → IsGuide field_paths (seen g)
    → AreParts field_paths (all_seen (out-Guide g).parts.items) (inner field_paths (tree (out-Guide g).schema.now))
parts_guide field_paths g is = (rw (seen_is g) at is).1

pub guides_whole : (field_paths : List (List ℤ)) (id : Option ℤ) (t : Tree) (parts : Guides) (s : Guided)
    → (passing : Tree) × EndAlike passing t × (s ≡ guided id t passing parts)
    → AreParts field_paths parts (inner field_paths t)
    → IsGuide field_paths s
guides_whole field_paths id t parts s h are = rw h.2 (h.1, are)

pub id_whole : (id : Option ℤ) (t : Tree) (parts : Guides) (s : Guided)
    → (passing : Tree) × EndAlike passing t × (s ≡ guided id t passing parts) → id_guided s ≡ id
id_whole id t parts s h = ap id_guided h.2

pub type_whole : (id : Option ℤ) (t : Tree) (parts : Guides) (s : Guided)
    → (passing : Tree) × EndAlike passing t × (s ≡ guided id t passing parts) → type_guided s ≡ t
type_whole id t parts s h = ap type_guided h.2

-- ---- what field paths ask for

item_there : {A : Type 0} (xs : List A) (i : ℕ) (x : A) → i < length xs → x ≡ get_or xs i x
    → drop i xs ≡ x ∷ drop (i + 1) xs
item_there xs i x lt is = drop-cons xs i x lt ∙ rw (← is, add-one) refl

pub on_here : (field_path : List ℤ) (id : Option ℤ) (i : ℕ) (x : ℤ) → i < length field_path → x ≡ get_or field_path i x
    → is_on (drop i field_path) id ≡ (option_eq int_eq id (Some x) || is_on (drop (i + 1) field_path) id)
on_here field_path id i x lt is = ap (λ (w : List ℤ). is_on w id) (item_there field_path i x lt is)

pub asked_here : (field_paths : List (Vec ℤ Global)) (id : Option ℤ) (i : ℕ) (field_path : Vec ℤ Global)
    → i < length field_paths
    → field_path ≡ get_or field_paths i field_path
    → asks (ids_in (drop i field_paths)) id ≡ (is_on field_path.items id || asks (ids_in (drop (i + 1) field_paths)) id)
asked_here field_paths id i field_path lt is = ap (λ (ws : List (Vec ℤ Global)). asks (ids_in ws) id)
    (item_there field_paths i field_path lt is)

pub none_on : (field_path : List ℤ) (id : Option ℤ) (i : ℕ) → length field_path ≤ i
    → is_on (drop i field_path) id ≡ false
none_on field_path id i le = ap (λ (w : List ℤ). is_on w id) (drop_of_length-le field_path le)

pub none_asked : (field_paths : List (Vec ℤ Global)) (id : Option ℤ) (i : ℕ) → length field_paths ≤ i
    → asks (ids_in (drop i field_paths)) id ≡ false
none_asked field_paths id i le = ap (λ (ws : List (Vec ℤ Global)). asks (ids_in ws) id)
    (drop_of_length-le field_paths le)

-- a field without an id is none that a field path asks for
nothing_on : (field_path : List ℤ) → is_on field_path None ≡ false
nothing_on [] = refl
nothing_on (passed ∷ field_path) = nothing_on field_path

pub nothing_asked : (field_paths : List (List ℤ)) → asks field_paths None ≡ false
nothing_asked [] = refl
nothing_asked (field_path ∷ field_paths) = rw (nothing_on field_path) (nothing_asked field_paths)

-- ---- the loops that make guides

pub parts_done : (field_paths : List (List ℤ)) (gs : List Guide) (fs : List Field) (i : ℕ) (all : Fields)
    → length fs ≤ i
    → ((more : List Guided) → AreParts field_paths (guides_of more) (kept field_paths (field_trees (drop i fs)))
    → AreParts field_paths (guides_of (map seen gs ++ more)) all) → AreParts field_paths (all_seen gs) all
parts_done field_paths gs fs i all le on =
    let k : drop i fs ≡ [] = drop_of_length-le fs le in
    let none : AreParts field_paths (guides_of []) (kept field_paths (field_trees (drop i fs))) = rw k tt in
    subst (λ (ss : List Guided). AreParts field_paths (guides_of ss) all) (append-nil (map seen gs)) (on [] none)

pub branches_done : (field_paths : List (List ℤ)) (gs : List Guide) (ss : List Schema) (i : ℕ) (all : Fields)
    → length ss ≤ i
    → ((more : List Guided) → AreParts field_paths (guides_of more) (as_fields (branch_trees (drop i ss)))
    → AreParts field_paths (guides_of (map seen gs ++ more)) all) → AreParts field_paths (all_seen gs) all
branches_done field_paths gs ss i all le on =
    let k : drop i ss ≡ [] = drop_of_length-le ss le in
    let none : AreParts field_paths (guides_of []) (as_fields (branch_trees (drop i ss))) = rw k tt in
    subst (λ (hs : List Guided). AreParts field_paths (guides_of hs) all) (append-nil (map seen gs)) (on [] none)

pub guides_made : {E : Type 0} (field_paths : List (List ℤ)) (id : Option ℤ) (t : Tree) (parts : Guides)
    (r : Result Guide E)
    → IfOk r (λ g. (passing : Tree) × EndAlike passing t × (seen g ≡ guided id t passing parts))
    → AreParts field_paths parts (inner field_paths t) → IfOk r (λ g. IsGuide field_paths (seen g))
guides_made field_paths id t parts (Ok g) h are = guides_whole field_paths id t parts (seen g) h are
guides_made field_paths id t parts (Err e) h are = tt

-- ---- the fields that are kept

neither : (a b : Bool) → (a || b) ≡ false → (a ≡ false) × (b ≡ false)
neither true b e = absurd cc
neither false b e = (refl, e)

not_both : (b : Bool) → b ≡ true → b ≡ false → ⊥
not_both true is isnt = absurd cc
not_both false is isnt = absurd cc

-- a field that no field path asks for is none that one asks for
other_field : (field_paths : List (List ℤ)) (own : Option ℤ) (id : ℤ) → asks field_paths own ≡ false
    → asks field_paths (Some id) ≡ true
    → (b : Bool) → option_eq int_eq own (Some id) ≡ b → b ≡ false
other_field field_paths own id unasked asked false is = refl
other_field field_paths None id unasked asked true is = absurd cc
other_field field_paths (Some j) id unasked asked true is =
    let same : j ≡ id = (Decides-int_eq j id).0 is in
    absurd (not_both (asks field_paths (Some j)) (ap (λ (x : ℤ). asks field_paths (Some x)) same ∙ asked) unasked)

-- what is read of the fields that are kept, among which picking is picking among all
pub record Kept (field_paths : List (List ℤ)) (fs : Fields) (vs : List Value) (p q : Position) : Type 0 where
  pub values : List Value
  pub read : fields_at (kept field_paths fs) p ≡ Ok (values, q)
  pub same : (id : ℤ) → asks field_paths (Some id) ≡ true
      → field_value id fs (values_of vs) ≡ field_value id (kept field_paths fs) (values_of values)

one_more : (own : Option ℤ) (t : Tree) (fs : Fields) (p between q : Position) (v : Value) (vs : List Value)
    → datum_at t p ≡ Ok (v, between) → fields_at fs between ≡ Ok (vs, q) → fields_at (field own t fs) p ≡ Ok (v ∷ vs, q)
unfolding fields_at
one_more own t fs p between q v vs e g = rw (e, g) refl

kept_or_not : (field_paths : List (List ℤ)) (own : Option ℤ) (t : Tree) (fs : Fields) (p : Position) (vs : List Value)
    (q : Position) (f : First own t fs p vs q) → Kept field_paths fs f.others f.between q → (b : Bool)
    → (takes_bytes t || asks field_paths own) ≡ b → Kept field_paths (field own t fs) vs p q
kept_or_not field_paths own t fs p vs q f others true is =
    let k : kept field_paths (field own t fs) ≡ field own t (kept field_paths fs) =
    ap (λ (b : Bool). if b then field own t (kept field_paths fs) else kept field_paths fs) is in
    record {
      values = f.first ∷ others.values;
      read = rw k (one_more own t (kept field_paths fs) p f.between q f.first others.values f.read others.read);
      same = λ id asked. rw k (taken_or_not id own t fs f.first f.others vs f.is
          ∙ ap (λ (o : Option (Tree × Value)). cond (option_eq int_eq own (Some id)) (Some (t, f.first)) o)
          (others.same id asked));
    }
kept_or_not field_paths own t fs p vs q f others false is =
    let k : kept field_paths (field own t fs) ≡ kept field_paths fs =
    ap (λ (b : Bool). if b then field own t (kept field_paths fs) else kept field_paths fs) is in
    let none = neither (takes_bytes t) (asks field_paths own) is in
    let e = empty_value t p none.0 in
    let here : f.between ≡ p = one_end (datum_at t p) f.first e.0 f.between p f.read e.1 in
    record {
      values = others.values;
      read = rw (k, ← here) others.read;
      same = λ id asked. rw k (taken_or_not id own t fs f.first f.others vs f.is
          ∙ rw (other_field field_paths own id none.1 asked (option_eq int_eq own (Some id)) refl)
          (others.same id asked));
    }

pub kept_read : (field_paths : List (List ℤ)) (fs : Fields) (p : Position) (vs : List Value) (q : Position)
    → fields_at fs p ≡ Ok (vs, q) → Kept field_paths fs vs p q
kept_read field_paths no_fields p vs q e = record { values = vs; read = e; same = λ id asked. refl }
kept_read field_paths (field own t fs) p vs q e =
    let f = first_read own t fs p vs q e in
    kept_or_not field_paths own t fs p vs q f (kept_read field_paths fs f.between f.others q f.more)
    (takes_bytes t || asks field_paths own)
    refl

-- ---- a walk over the fields of a record

-- the guides from here on are those of what is still to come, among which picking is picking among all
pub record Led (field_paths : List (List ℤ)) (id : ℤ) (fs : Fields) (vs : List Value) (gs : Guides)
    (p q : Position) : Type 0
  where
    pub rest : Fields
    pub values : List Value
    pub are : AreParts field_paths gs rest
    pub read : fields_at rest p ≡ Ok (values, q)
    pub same : field_value id fs (values_of vs) ≡ field_value id rest (values_of values)

pub led_begun : (field_paths : List (List ℤ)) (id : ℤ) (fs : Fields) (vs : List Value) (gs : Guides) (p q : Position)
    → AreParts field_paths gs fs → fields_at fs p ≡ Ok (vs, q) → Led field_paths id fs vs gs p q
led_begun field_paths id fs vs gs p q are read = record { rest = fs; values = vs; are = are; read = read; same = refl }

-- the field of the first guide, and the others
pub record Front (field_paths : List (List ℤ)) (id : ℤ) (fs : Fields) (vs : List Value) (s : Guided) (gs : Guides)
    (p q : Position) : Type 0 where
  pub rest : Fields
  pub values : List Value
  pub is : IsGuide field_paths s
  pub are : AreParts field_paths gs rest
  pub first : First (id_guided s) (type_guided s) rest p values q
  pub same : field_value id fs (values_of vs) ≡ field_value id (field (id_guided s) (type_guided s) rest)
      (values_of values)

front_of : (field_paths : List (List ℤ)) (id : ℤ) (fs : Fields) (vs : List Value) (s : Guided) (gs : Guides)
    (p q : Position)
    (rest : Fields) (values : List Value) → AreParts field_paths (guide s gs) rest → fields_at rest p ≡ Ok (values, q)
    → field_value id fs (values_of vs) ≡ field_value id rest (values_of values) → Front field_paths id fs vs s gs p q
front_of field_paths id fs vs s gs p q no_fields values are read same = absurd are
front_of field_paths id fs vs s gs p q (field own t rest) values are read same = record {
  rest = rest;
  values = values;
  is = are.2;
  are = are.3;
  first = first_read (id_guided s) (type_guided s) rest p values q (rw (are.0, are.1) read);
  same = rw (are.0, are.1) same;
}

pub front_led : (field_paths : List (List ℤ)) (id : ℤ) (fs : Fields) (vs : List Value) (gs : List Guide) (i : ℕ)
    (g : Guide)
    (p q : Position) → i < length gs → g ≡ get_or gs i g → Led field_paths id fs vs (all_seen (drop i gs)) p q
    → Front field_paths id fs vs (seen g) (all_seen (drop (i + 1) gs)) p q
front_led field_paths id fs vs gs i g p q lt is l =
    let here : all_seen (drop i gs) ≡ guide (seen g) (all_seen (drop (i + 1) gs)) = ap all_seen
    (item_there gs i g lt is) in
    front_of field_paths id fs vs (seen g) (all_seen (drop (i + 1) gs)) p q l.rest l.values
    (subst (λ (hs : Guides). AreParts field_paths hs l.rest) here l.are) l.read l.same

pub led_on : (field_paths : List (List ℤ)) (id : ℤ) (fs : Fields) (vs : List Value) (s : Guided) (gs : Guides)
    (p q between : Position) → (f : Front field_paths id fs vs s gs p q) → f.first.between ≡ between
    → option_eq int_eq (id_guided s) (Some id) ≡ false → Led field_paths id fs vs gs between q
led_on field_paths id fs vs s gs p q between f here other = record {
  rest = f.rest;
  values = f.first.others;
  are = f.are;
  read = ap (λ (r : Position). fields_at f.rest r) (sym here) ∙ f.first.more;
  same = f.same ∙ taken_or_not id (id_guided s) (type_guided s) f.rest f.first.first f.first.others f.values f.first.is
      ∙ rw other refl;
}

pub led_to : (field_paths : List (List ℤ)) (id : ℤ) (fs : Fields) (vs : List Value) (s : Guided) (gs : Guides)
    (p q : Position) → (f : Front field_paths id fs vs s gs p q) → option_eq int_eq (id_guided s) (Some id) ≡ true
    → field_value id fs (values_of vs) ≡ Some (type_guided s, f.first.first)
led_to field_paths id fs vs s gs p q f same = f.same
    ∙ taken_or_not id (id_guided s) (type_guided s) f.rest f.first.first
    f.first.others f.values f.first.is ∙ rw same refl

none_left : (field_paths : List (List ℤ)) (id : ℤ) (rest : Fields) (values : List Value)
    → AreParts field_paths no_guides rest
    → field_value id rest (values_of values) ≡ None
none_left field_paths id no_fields values are = refl
none_left field_paths id (field own t rest) values are = absurd are

pub led_nowhere : (field_paths : List (List ℤ)) (id : ℤ) (fs : Fields) (vs : List Value) (gs : List Guide) (i : ℕ)
    (p q : Position) → length gs ≤ i → Led field_paths id fs vs (all_seen (drop i gs)) p q
    → field_value id fs (values_of vs) ≡ None
led_nowhere field_paths id fs vs gs i p q le l =
    let k : drop i gs ≡ [] = drop_of_length-le gs le in
    l.same ∙ none_left field_paths id l.rest l.values
    (subst (λ (hs : List Guide). AreParts field_paths (all_seen hs) l.rest) k l.are)

-- ---- passing a field

pub passed_to : (field_paths : List (List ℤ)) (g : Guide) (p q r : Position) (v : Value) → IsGuide field_paths (seen g)
    → datum_at (type_guided (seen g)) p ≡ Ok (v, q) → behind (datum_at (tree (out-Guide g).passing) p) ≡ Ok r → q ≡ r
passed_to field_paths g p q r v is read passed =
    let w = behind_ok (datum_at (type_guided (seen g)) p) r (sym (passing_alike field_paths g is p) ∙ passed) in
    one_end (datum_at (type_guided (seen g)) p) v w.0 q r read w.1

pub passing_reads : (field_paths : List (List ℤ)) (g : Guide) (p q : Position) (v : Value) (f : Refusal)
    → IsGuide field_paths (seen g) → datum_at (type_guided (seen g)) p ≡ Ok (v, q)
    → behind (datum_at (tree (out-Guide g).passing) p) ≡ Err f → ⊥
passing_reads field_paths g p q v f is read failed =
    let e = behind_err (datum_at (type_guided (seen g)) p) f (sym (passing_alike field_paths g is p) ∙ failed) in
    both_read (datum_at (type_guided (seen g)) p) (v, q) f read e

-- ---- unions and records

pub parts_many : (field_paths : List (List ℤ)) (gs : List Guide) (ss : List Schema)
    → AreParts field_paths (all_seen gs) (as_fields (branch_trees ss)) → length gs ≡ length ss
parts_many field_paths [] [] are = refl
parts_many field_paths [] (s ∷ ss) are = absurd are
parts_many field_paths (g ∷ gs) [] are = absurd are
parts_many field_paths (g ∷ gs) (s ∷ ss) are = ap suc (parts_many field_paths gs ss are.3)

pub nth_part : (field_paths : List (List ℤ)) (gs : List Guide) (ss : List Schema) (n : ℕ) (g : Guide) (d : Schema)
    → AreParts field_paths (all_seen gs) (as_fields (branch_trees ss)) → n < length gs
    → (type_guided (seen (get_or gs n g)) ≡ tree (get_or ss n d)) × IsGuide field_paths (seen (get_or gs n g))
nth_part field_paths [] ss n g d are lt = absurd (omega (arith, lt))
nth_part field_paths (h ∷ gs) [] n g d are lt = absurd are
nth_part field_paths (h ∷ gs) (s ∷ ss) zero g d are lt = (are.1, are.2)
nth_part field_paths (h ∷ gs) (s ∷ ss) (suc n) g d are lt = nth_part field_paths gs ss n g d are.3 (omega (arith, lt))

pub branch_parts : (field_paths : List (List ℤ)) (g : Guide) (ss : List Schema) → IsGuide field_paths (seen g)
    → branches_in (tree (out-Guide g).schema.now) ≡ Some (branch_trees ss)
    → AreParts field_paths (all_seen (out-Guide g).parts.items) (as_fields (branch_trees ss))
branch_parts field_paths g ss is union_there = rw
    (union_of_branches (tree (out-Guide g).schema.now) (branch_trees ss) union_there) at (parts_guide field_paths g is)

pub structure_of : (t : Tree) → is_structure t ≡ true → t ≡ structure (fields_in t)
structure_of null is = absurd cc
structure_of boolean is = absurd cc
structure_of int is = absurd cc
structure_of long is = absurd cc
structure_of float is = absurd cc
structure_of double is = absurd cc
structure_of (octets kind) is = absurd cc
structure_of string is = absurd cc
structure_of (fixed n kind) is = absurd cc
structure_of (symbols n) is = absurd cc
structure_of (array s own kind) is = absurd cc
structure_of (tree_of.map s) is = absurd cc
structure_of (union bs) is = absurd cc
structure_of (structure fs) is = refl

pub no_structure : (t : Tree) → is_structure t ≡ false → no_fields ≡ fields_in t
no_structure null is = refl
no_structure boolean is = refl
no_structure int is = refl
no_structure long is = refl
no_structure float is = refl
no_structure double is = refl
no_structure (octets kind) is = refl
no_structure string is = refl
no_structure (fixed n kind) is = refl
no_structure (symbols n) is = refl
no_structure (array s own kind) is = refl
no_structure (tree_of.map s) is = refl
no_structure (union bs) is = refl
no_structure (structure fs) is = absurd cc

pub field_parts : (field_paths : List (List ℤ)) (g : Guide) → IsGuide field_paths (seen g)
    → is_structure (tree (out-Guide g).schema.now) ≡ true
    → AreParts field_paths (all_seen (out-Guide g).parts.items)
    (kept field_paths (fields_in (tree (out-Guide g).schema.now)))
field_parts field_paths g is structured = subst
    (λ (t : Tree). AreParts field_paths (all_seen (out-Guide g).parts.items) (inner field_paths t))
    (structure_of (tree (out-Guide g).schema.now) structured) (parts_guide field_paths g is)

-- ---- where guides lead

pub guides_settle : (field_paths : List (List ℤ)) (left : ℕ) (r : Result (Option (Bor Guide × Place)) Refusal)
    → Settles (λ met. GuidesTo field_paths left met r)
guides_settle field_paths left (Ok (Some x)) = λ met none h.
    let k : absent ≡ present (type_guided (seen x.0.now), h.0) = h.2 in absurd cc
guides_settle field_paths left (Ok None) = λ met none h. none
guides_settle field_paths left (Err f) = λ met none h. h

pub guides_more : (field_paths : List (List ℤ)) (few many : ℕ) (met : Picked)
    (r : Result (Option (Bor Guide × Place)) Refusal) → few ≤ many → GuidesTo field_paths few met r
    → GuidesTo field_paths many met r
guides_more field_paths few many met (Ok (Some x)) le h =
    (h.0, (omega (arith, le, h.1.0), h.1.1, h.1.2), h.2, h.3)
guides_more field_paths few many met (Ok None) le h = h
guides_more field_paths few many met (Err e) le h = h

-- what was found by a guide in an object that was checked
pub guided_there : (field_paths : List (List ℤ)) (met : Picked) (g : Bor Guide) (place : Place)
    → GuidesTo field_paths max_items met (Ok (Some (g, place)))
    → (v : Value) × StandsAt (tree (out-Guide g.now).schema.now) place.bytes.now v
    × (met ≡ present (tree (out-Guide g.now).schema.now, v))
guided_there field_paths met g place h =
    let read = rw (type_is g.now) at h.1.2 in (
      h.0,
      stands (tree (out-Guide g.now).schema.now) (position_of place) h.0 h.1.1 (omega (arith, h.1.0)) read,
      rw (type_is g.now) at h.2,
    )

-- ---- the items of arrays

pub array_of : (t s : Tree) → items_in t ≡ Some s → (id : Option ℤ) × (kind : ArrayKind) × (t ≡ array s id kind)
array_of null s is = absurd cc
array_of boolean s is = absurd cc
array_of int s is = absurd cc
array_of long s is = absurd cc
array_of float s is = absurd cc
array_of double s is = absurd cc
array_of (octets kind) s is = absurd cc
array_of string s is = absurd cc
array_of (fixed n kind) s is = absurd cc
array_of (symbols n) s is = absurd cc
array_of (structure fs) s is = absurd cc
array_of (tree_of.map u) s is = absurd cc
array_of (union bs) s is = absurd cc
array_of (array u own kind) s is = (own, kind, ap (λ (x : Tree). array x own kind) cc)

only_part : (field_paths : List (List ℤ)) (gs : List Guide) (s : Tree)
    → AreParts field_paths (all_seen gs) (field None s no_fields)
    → (g : Guide) × (gs ≡ g ∷ []) × (type_guided (seen g) ≡ s) × IsGuide field_paths (seen g)
only_part field_paths [] s are = absurd are
only_part field_paths (g ∷ []) s are = (g, refl, are.1, are.2)
only_part field_paths (g ∷ h ∷ gs) s are = absurd are.3

-- the one part of an array's guide is of its items
pub item_part : (field_paths : List (List ℤ)) (g : Guide) (s : Tree) → IsGuide field_paths (seen g)
    → items_in (tree (out-Guide g).schema.now) ≡ Some s
    → (h : Guide) × ((out-Guide g).parts.items ≡ h ∷ []) × (type_guided (seen h) ≡ s) × IsGuide field_paths (seen h)
item_part field_paths g s is listed =
    let a = array_of (tree (out-Guide g).schema.now) s listed in
    only_part field_paths (out-Guide g).parts.items s
    (subst (λ (t : Tree). AreParts field_paths (all_seen (out-Guide g).parts.items)
    (inner field_paths t)) a.2 (parts_guide field_paths g is))

-- the guide of the items of a list that is led to
pub items_guided : (field_paths : List (List ℤ)) (met : Picked) (t : Tree) (v : Value) (r : Option (Bor Guide))
    → met ≡ present (t, v) → HasItems field_paths t r → GuidesItems field_paths r met
items_guided field_paths met t v (Some g) is h = (type_guided (seen g.now), rw is h.0, (refl, h.1))
items_guided field_paths met t v None is h = rw is h

pub nothing_listed : (met : Picked) → value_met met ≡ None → items_type met ≡ None
nothing_listed absent is = refl
nothing_listed null_met is = refl
nothing_listed (present x) is = absurd cc

-- ---- ids that field paths ask for

either_first : (a b : Bool) → a ≡ true → (a || b) ≡ true
either_first true b is = refl
either_first false b is = absurd cc

either_second : (a b : Bool) → b ≡ true → (a || b) ≡ true
either_second true b is = refl
either_second false b is = is

all_on : (all field_path : List ℤ) (field_paths : List (List ℤ))
    → ((id : ℤ) → is_on field_path (Some id) ≡ true → is_on all (Some id) ≡ true)
    → AreAsked (all ∷ field_paths) field_path
all_on all [] field_paths on = tt
all_on all (i ∷ field_path) field_paths on = (
  either_first (is_on all (Some i)) (asks field_paths (Some i))
      (on i (either_first (int_eq i i) (is_on field_path (Some i)) ((Decides-int_eq i i).1 refl))),
  all_on all field_path field_paths
      (λ id is. on id (either_second (option_eq int_eq (Some id) (Some i)) (is_on field_path (Some id)) is)),
)

asked_more : (other : List ℤ) (field_paths : List (List ℤ)) (field_path : List ℤ) → AreAsked field_paths field_path
    → AreAsked (other ∷ field_paths) field_path
asked_more other field_paths [] asked = tt
asked_more other field_paths (i ∷ field_path) asked = (
  either_second (is_on other (Some i))
      (asks field_paths (Some i)) asked.0,
  asked_more other field_paths field_path asked.1,
)

-- each field path asks for its own ids
pub nth_asked : (field_paths : List (List ℤ)) (k : ℕ) → k < length field_paths
    → AreAsked field_paths (nth_field_path field_paths k)
nth_asked [] k lt = absurd (omega (arith, lt))
nth_asked (field_path ∷ field_paths) zero lt = all_on field_path field_path field_paths (λ id on. on)
nth_asked (field_path ∷ field_paths) (suc k) lt = asked_more field_path field_paths (nth_field_path field_paths k)
    (nth_asked field_paths k (omega (arith, lt)))
