-- Where field paths lead.
use Rattle.std.proofs.Common.{◌≡◌, ℕ, zero, suc, ◌+◌, ◌<◌, ◌≤◌, ℤ, pos, negsuc, ◌<ℤ◌, true, false, cond, List, [], ◌∷◌}
use Rattle.std.proofs.Common.{length, get_or}
use Rattle.std.proofs.Common.{drop, Option, Some, None, Result, Ok, Err, refl, sym, ap, subst, ◌∙◌, add-one, drop-cons}
use Rattle.std.proofs.Common.{arith, ◌⊎◌, inl, inr, ◌%◌, ◌/◌}
use Rattle.std.proofs.lemmas.Bool.{eq-eqb}
use Rattle.std.proofs.lemmas.Int.{ints}
use Rattle.std.proofs.Math.ListN.{drop_of_length-le}
use Rattle.std.specs.Ordering.{int_eq}
use Rattle.std.specs.Option.{option_eq}
use denote.Ref.{Bor}
use Rattle.avro_schema.specs.declared.schema.Schema.{Schema}
use Rattle.avro_schema.specs.declared.schema.Field.{Field}
use Rattle.avro_schema.specs.Tree.{Tree, null, boolean, int, long, float, double, symbols, octets, string, fixed}
use Rattle.avro_schema.specs.Tree.{structure, array, map, union, Fields, no_fields, field, Branches}
use Rattle.avro_schema.specs.View.{tree}
use Rattle.avro_file_parts.specs.declared.place.Place.{Place}
use Rattle.avro_file_parts.specs.declared.refusal.Refusal.{Refusal}
use Rattle.avro_file_parts.specs.Place.{position_of}
use Rattle.avro_file_parts.specs.Parts.{Position, Read}
use Rattle.avro_file_parts.specs.Number.{long_at, signed_of}
use Rattle.avro_file_parts.proofs.NumberPlaces.{one_group}
use Rattle.avro_file_picked.specs.declared.found.Found.{Found}
use Rattle.avro_file_parts.specs.declared.refusal.Refusal.TheVariants.{BadUnion}
use Rattle.avro_file.specs.Value.{Value, nothing, truth, small, whole, single, twice, symbol, text, run, raw, fields}
use Rattle.avro_file.specs.Value.{items, entries, chosen, no_values, values_of}
use Rattle.avro_file.specs.Reading.{datum_at, fields_at, branch_at, chosen_by}
use Rattle.avro_file.specs.Blocks.{max_items, StandsAt}
use Rattle.avro_file.specs.Picking.{Typed, Picked, absent, present, of_branch, bare, field_value, field_with}
use Rattle.avro_file.specs.Picking.{unless_null, unless_absent, pick}
use Rattle.avro_file.proofs.Steps.{ok_is}
use Rattle.avro_file.proofs.Views.{field_trees, branch_trees, branch_there, no_branch}
use Rattle.avro_file_picked.specs.Picked.{value_met}
use Rattle.avro_file_picked.specs.Finding.{within, fields_in, branches_in, has_null_only, LeadsTo, IsMet}
use Rattle.avro_file_picked.proofs.Values.{is_something, datum_something, First, first_read, structure_taken}
use Rattle.avro_file_picked.proofs.Values.{union_taken, union_fails, chosen_taken, stands, stood}

pub pick_within : (field_path : List ℤ) (x : Typed) → pick field_path x ≡ unless_absent (within field_path) (bare x)
pick_within [] x = refl
pick_within (id ∷ ids) x = refl

pub something_met : (next : Typed → Picked) (t : Tree) (v : Value) → is_something v ≡ true
    → unless_null next (t, v) ≡ next (t, v)
something_met next t nothing is = absurd cc
something_met next t (truth b) is = refl
something_met next t (small z) is = refl
something_met next t (whole z) is = refl
something_met next t (single s) is = refl
something_met next t (twice s) is = refl
something_met next t (symbol n) is = refl
something_met next t (text s) is = refl
something_met next t (run s) is = refl
something_met next t (raw s) is = refl
something_met next t (fields vs) is = refl
something_met next t (items vs) is = refl
something_met next t (entries es) is = refl
something_met next t (chosen n v) is = refl

pub none_met : (next : Typed → Picked) (t : Tree) (v : Value) → value_met (next (t, v)) ≡ None
    → value_met (unless_null next (t, v)) ≡ None
none_met next t nothing is = refl
none_met next t (truth b) is = is
none_met next t (small z) is = is
none_met next t (whole z) is = is
none_met next t (single s) is = is
none_met next t (twice s) is = is
none_met next t (symbol n) is = is
none_met next t (text s) is = is
none_met next t (run s) is = is
none_met next t (raw s) is = is
none_met next t (fields vs) is = is
none_met next t (items vs) is = is
none_met next t (entries es) is = is
none_met next t (chosen n v) is = is

bare_itself : (t : Tree) (v : Value) → branches_in t ≡ None → bare (t, v) ≡ Some (t, v)
bare_itself null v is = refl
bare_itself boolean v is = refl
bare_itself int v is = refl
bare_itself long v is = refl
bare_itself float v is = refl
bare_itself double v is = refl
bare_itself (octets kind) v is = refl
bare_itself string v is = refl
bare_itself (fixed n kind) v is = refl
bare_itself (symbols n) v is = refl
bare_itself (structure fs) v is = refl
bare_itself (array s id kind) v is = refl
bare_itself (map s) v is = refl
bare_itself (union bs) v is = absurd cc

pub pick_itself : (field_path : List ℤ) (t : Tree) (v : Value) → branches_in t ≡ None
    → pick field_path (t, v) ≡ within field_path (t, v)
pick_itself field_path t v is = pick_within field_path (t, v)
    ∙ ap (unless_absent (within field_path)) (bare_itself t v is)

pub pick_chosen : (field_path : List ℤ) (bs : Branches) (n : ℕ) (v : Value) (t : Tree) (w : Value) → v ≡ chosen n w
    → of_branch bs n w ≡ Some (t, w) → pick field_path (union bs, v) ≡ within field_path (t, w)
pick_chosen field_path bs n v t w is there = rw is
    (pick_within field_path (union bs, chosen n w) ∙ ap (unless_absent (within field_path))
    there)

either_way : {A B C : Type 0} → A ⊎ B → (A → C) → (B → C) → C
either_way (inl a) f g = f a
either_way (inr b) f g = g b

-- The fields of the type stand where its value does; where it has none, there are no values.
pub record Below (id : ℤ) (t : Tree) (p : Position) (v : Value) : Type 0 where
  pub values : List Value
  pub after : Position
  pub read : fields_at (fields_in t) p ≡ Ok (values, after)
  pub something : is_something v ≡ true ⊎ (values ≡ [])
  pub same : field_with id (t, v) ≡ field_value id (fields_in t) (values_of values)

nothing_below : (id : ℤ) (t : Tree) (p : Position) (v : Value) → fields_in t ≡ no_fields → field_with id (t, v) ≡ None
    → Below id t p v
unfolding fields_at
nothing_below id t p v is none = record {
  values = [];
  after = p;
  read = rw is refl;
  something = inr refl;
  same = none ∙ rw is refl;
}

pub below : (id : ℤ) (t : Tree) (p q : Position) (v : Value) → datum_at t p ≡ Ok (v, q) → Below id t p v
below id null p q v e = nothing_below id null p v refl refl
below id boolean p q v e = nothing_below id boolean p v refl refl
below id int p q v e = nothing_below id int p v refl refl
below id long p q v e = nothing_below id long p v refl refl
below id float p q v e = nothing_below id float p v refl refl
below id double p q v e = nothing_below id double p v refl refl
below id (octets kind) p q v e = nothing_below id (octets kind) p v refl refl
below id string p q v e = nothing_below id string p v refl refl
below id (fixed n kind) p q v e = nothing_below id (fixed n kind) p v refl refl
below id (symbols n) p q v e = nothing_below id (symbols n) p v refl refl
below id (array s own kind) p q v e = nothing_below id (array s own kind) p v refl refl
below id (map s) p q v e = nothing_below id (map s) p v refl refl
below id (union bs) p q v e = nothing_below id (union bs) p v refl refl
below id (structure fs) p q v e = let taken = structure_taken fs p v q e in record {
  values = taken.0;
  after = q;
  read = taken.1;
  something = inl (datum_something (structure fs) p v q refl e);
  same = ap (λ (w : Value). field_with id (structure fs, w)) taken.2;
}

none_of_none : (id : ℤ) (fs : Fields) → field_value id fs no_values ≡ None
none_of_none id no_fields = refl
none_of_none id (field own t fs) = refl

-- where nothing is met leads nowhere, as a field that is absent
abbrev pub Settles : (Picked → Type 0) → Type 0
Settles P = (met : Picked) → value_met met ≡ None → P absent → P met

pub leads_settle : (left : ℕ) (r : Result (Option (Bor Schema × Place)) Refusal) → Settles (λ met. LeadsTo left met r)
leads_settle left (Ok (Some x)) = λ met none h. let k : absent ≡ present (tree x.0.now, h.0) = h.2 in absurd cc
leads_settle left (Ok None) = λ met none h. none
leads_settle left (Err f) = λ met none h. h

absent_met : (P : Picked → Type 0) → Settles P → (field_path : List ℤ) (met : Picked) (o : Option Typed) → o ≡ None
    → value_met met ≡ None → P (unless_absent (pick field_path) o) → P met
absent_met P settle field_path met o none is h =
    settle met is (subst P (ap (unless_absent (pick field_path)) none) h)

-- what is found below the field is found from the value
met_below : (P : Picked → Type 0) → Settles P → (id : ℤ) (ids : List ℤ) (t : Tree) (p : Position) (v : Value)
    (b : Below id t p v) → P (unless_absent (pick ids) (field_value id (fields_in t) (values_of b.values)))
    → P (within (id ∷ ids) (t, v))
met_below P settle id ids t p v b h =
    let next : Typed → Picked = λ y. unless_absent (pick ids) (field_with id y) in
    either_way b.something (λ some. subst P
    (ap (unless_absent (pick ids)) (sym b.same) ∙ sym (something_met next t v some)) h)
    (λ none. let lacks : field_value id (fields_in t) (values_of b.values) ≡ None =
    ap (λ (vs : List Value). field_value id (fields_in t) (values_of vs)) none ∙ none_of_none id (fields_in t) in
    absent_met P settle ids (within (id ∷ ids) (t, v)) (field_value id (fields_in t) (values_of b.values)) lacks
    (none_met next t v (ap (λ (o : Option Typed). value_met (unless_absent (pick ids) o)) (b.same ∙ lacks))) h)

pub null_at_end : (t : Tree) (p q : Position) (v : Value) → has_null_only t ≡ true → datum_at t p ≡ Ok (v, q)
    → value_met (within [] (t, v)) ≡ None
unfolding datum_at
null_at_end null p q v is e = let same = ap (λ (y : Value × Position). y.0) (ok_is (nothing, p) (v, q) e) in
    rw (← same) refl
null_at_end boolean p q v is e = absurd cc
null_at_end int p q v is e = absurd cc
null_at_end long p q v is e = absurd cc
null_at_end float p q v is e = absurd cc
null_at_end double p q v is e = absurd cc
null_at_end (octets kind) p q v is e = absurd cc
null_at_end string p q v is e = absurd cc
null_at_end (fixed n kind) p q v is e = absurd cc
null_at_end (symbols n) p q v is e = absurd cc
null_at_end (structure fs) p q v is e = absurd cc
null_at_end (array s own kind) p q v is e = absurd cc
null_at_end (map s) p q v is e = absurd cc
null_at_end (union bs) p q v is e = absurd cc

pub present_at_end : (t : Tree) (p q : Position) (v : Value) → has_null_only t ≡ false → datum_at t p ≡ Ok (v, q)
    → within [] (t, v) ≡ present (t, v)
present_at_end t p q v is e = something_met present t v (datum_something t p v q is e)

pub leads_more : (few many : ℕ) (met : Picked) (r : Result (Option (Bor Schema × Place)) Refusal) → few ≤ many
    → LeadsTo few met r → LeadsTo many met r
leads_more few many met (Ok (Some x)) le h = (h.0, (omega (arith, le, h.1.0), h.1.1, h.1.2), h.2)
leads_more few many met (Ok None) le h = h
leads_more few many met (Err e) le h = h

-- ---- the fields of a record

-- Picking among the fields from here on is picking among all.
pub record Onward (id : ℤ) (fs : Fields) (vs : List Value) (rest : Fields) (p q : Position) : Type 0 where
  pub values : List Value
  pub read : fields_at rest p ≡ Ok (values, q)
  pub same : field_value id fs (values_of vs) ≡ field_value id rest (values_of values)

pub next_field : (fs : List Field) (i : ℕ) (f : Field) → i < length fs → f ≡ get_or fs i f
    → field_trees (drop i fs) ≡ field f.id (tree f.schema) (field_trees (drop (i + 1) fs))
next_field fs i f lt is = let k : drop i fs ≡ f ∷ drop (i + 1) fs = drop-cons fs i f lt ∙ rw (← is, add-one) refl in
    rw k refl

pub onward_first : (id : ℤ) (all : Fields) (vs : List Value) (fs : List Field) (i : ℕ) (f : Field) (p q : Position)
    → i < length fs → f ≡ get_or fs i f → (o : Onward id all vs (field_trees (drop i fs)) p q)
    → First f.id (tree f.schema) (field_trees (drop (i + 1) fs)) p o.values q
onward_first id all vs fs i f p q lt is o =
    first_read f.id (tree f.schema) (field_trees (drop (i + 1) fs)) p o.values q
    (ap (λ (r : Fields). fields_at r p) (sym (next_field fs i f lt is)) ∙ o.read)

pub taken_or_not : (id : ℤ) (own : Option ℤ) (t : Tree) (fs : Fields) (v : Value) (vs ws : List Value) → ws ≡ v ∷ vs
    → field_value id (field own t fs) (values_of ws) ≡ cond (option_eq int_eq own (Some id)) (Some (t, v))
    (field_value id fs (values_of vs))
taken_or_not id own t fs v vs ws is = rw is refl

pub passed_field : (id : ℤ) (all : Fields) (vs : List Value) (fs : List Field) (i : ℕ) (f : Field) (p q : Position)
    → i < length fs → f ≡ get_or fs i f → (o : Onward id all vs (field_trees (drop i fs)) p q) → (between : Position)
    → (first : First f.id (tree f.schema) (field_trees (drop (i + 1) fs)) p o.values q) → first.between ≡ between
    → option_eq int_eq f.id (Some id) ≡ false → Onward id all vs (field_trees (drop (i + 1) fs)) between q
passed_field id all vs fs i f p q lt is o between first here other = record {
  values = first.others;
  read = ap (λ (r : Position). fields_at (field_trees (drop (i + 1) fs)) r) (sym here) ∙ first.more;
  same = o.same ∙ ap (λ (r : Fields). field_value id r (values_of o.values)) (next_field fs i f lt is) ∙ taken_or_not id
      f.id (tree f.schema) (field_trees (drop (i + 1) fs)) first.first first.others o.values first.is ∙ rw other refl;
}

pub found_field : (id : ℤ) (all : Fields) (vs : List Value) (fs : List Field) (i : ℕ) (f : Field) (p q : Position)
    → i < length fs → f ≡ get_or fs i f → (o : Onward id all vs (field_trees (drop i fs)) p q)
    → (first : First f.id (tree f.schema) (field_trees (drop (i + 1) fs)) p o.values q)
    → option_eq int_eq f.id (Some id) ≡ true
    → field_value id all (values_of vs) ≡ Some (tree f.schema, first.first)
found_field id all vs fs i f p q lt is o first same =
    o.same ∙ ap (λ (r : Fields). field_value id r (values_of o.values)) (next_field fs i f lt is) ∙ taken_or_not id f.id
    (tree f.schema) (field_trees (drop (i + 1) fs)) first.first first.others o.values first.is ∙ rw same refl

pub no_field : (id : ℤ) (all : Fields) (vs : List Value) (fs : List Field) (i : ℕ) (p q : Position) → length fs ≤ i
    → (o : Onward id all vs (field_trees (drop i fs)) p q) → field_value id all (values_of vs) ≡ None
no_field id all vs fs i p q le o =
    let k : drop i fs ≡ [] = drop_of_length-le fs le in
    o.same ∙ ap (λ (l : List Field). field_value id (field_trees l) (values_of o.values)) k

-- ---- branches

pub branch_chosen : (ss : List Schema) (n : ℕ) (d : Schema) (v : Value) → n < length ss
    → of_branch (branch_trees ss) n v ≡ Some (tree (get_or ss n d), v)
branch_chosen [] n d v lt = absurd (omega arith)
branch_chosen (s ∷ ss) zero d v lt = refl
branch_chosen (s ∷ ss) (suc n) d v lt = branch_chosen ss n d v (omega arith)

pub met_into : (P : Picked → Type 0) → Settles P → (id : ℤ) (ids : List ℤ) (t : Tree) (fs : Fields) (p q : Position)
    (v : Value) → fs ≡ fields_in t → datum_at t p ≡ Ok (v, q)
    → ((vs : List Value) (after : Position) → fields_at fs p ≡ Ok (vs, after)
    → P (unless_absent (pick ids) (field_value id fs (values_of vs)))) → P (within (id ∷ ids) (t, v))
met_into P settle id ids t fs p q v is e on =
    let b = below id t p q v e in
    met_below P settle id ids t p v b (subst (λ (gs : Fields). (vs : List Value) (after : Position)
    → fields_at gs p ≡ Ok (vs, after) → P (unless_absent (pick ids) (field_value id gs (values_of vs)))) is
    on b.values b.after b.read)

pub leads_into : (left : ℕ) (id : ℤ) (ids : List ℤ) (t : Tree) (fs : Fields) (p q : Position) (v : Value)
    (r : Result (Option (Bor Schema × Place)) Refusal) → fs ≡ fields_in t → datum_at t p ≡ Ok (v, q)
    → ((vs : List Value) (after : Position) → fields_at fs p ≡ Ok (vs, after)
    → LeadsTo left (unless_absent (pick ids) (field_value id fs (values_of vs))) r)
    → LeadsTo left (within (id ∷ ids) (t, v)) r
leads_into left id ids t fs p q v r is e on =
    met_into (λ met. LeadsTo left met r) (leads_settle left r) id ids t fs p q v is e on

pub not_both : {A : Type 0} (r : Result A Refusal) (x : A) (f : Refusal) → r ≡ Ok x → r ≡ Err f → ⊥
not_both r x f e g = let k : Ok x ≡ Err f = sym e ∙ g in absurd cc

pub one_end : (r : Result (Value × Position) Refusal) (v w : Value) (p q : Position) → r ≡ Ok (v, p) → r ≡ Ok (w, q)
    → p ≡ q
one_end r v w p q e g = ap (λ (y : Value × Position). y.1) (ok_is (v, p) (w, q) (sym e ∙ g))

pub union_of_branches : (t : Tree) (bs : Branches) → branches_in t ≡ Some bs → t ≡ union bs
union_of_branches null bs e = absurd cc
union_of_branches boolean bs e = absurd cc
union_of_branches int bs e = absurd cc
union_of_branches long bs e = absurd cc
union_of_branches float bs e = absurd cc
union_of_branches double bs e = absurd cc
union_of_branches (octets kind) bs e = absurd cc
union_of_branches string bs e = absurd cc
union_of_branches (fixed n kind) bs e = absurd cc
union_of_branches (symbols n) bs e = absurd cc
union_of_branches (structure fs) bs e = absurd cc
union_of_branches (array s own kind) bs e = absurd cc
union_of_branches (map s) bs e = absurd cc
union_of_branches (union cs) bs e = cc

-- what is read by a union's type, where its branch is at this position
pub chosen_read : (t : Tree) (bs : Branches) (p q : Position) (v : Value) (z : ℤ) (rest : List ℕ)
    → branches_in t ≡ Some bs → long_at p.bytes ≡ Ok (z, rest) → datum_at t p ≡ Ok (v, q)
    → chosen_by (branch_at bs) z (record { bytes = rest; left = p.left }) ≡ Ok (v, q)
chosen_read t bs p q v z rest is e f = union_taken bs p v q z rest e (rw (union_of_branches t bs is) at f)

pub number_fails : (t : Tree) (bs : Branches) (p q : Position) (v : Value) (f : Refusal) → branches_in t ≡ Some bs
    → long_at p.bytes ≡ Err f → datum_at t p ≡ Ok (v, q) → ⊥
number_fails t bs p q v f is e g = union_fails bs p v q f e (rw (union_of_branches t bs is) at g)

pub negative_fails : (read : ℕ → Position → Read Value) (z : ℤ) (p q : Position) (v : Value) → z <ℤ pos 0
    → chosen_by read z p ≡ Ok (v, q) → ⊥
negative_fails read (pos n) p q v lt e = absurd (omega (arith, ints))
negative_fails read (negsuc n) p q v lt e = absurd cc

pub past_fails : (ss : List Schema) (n : ℕ) (p q : Position) (v : Value) → length ss ≤ n
    → chosen_by (branch_at (branch_trees ss)) (pos n) p ≡ Ok (v, q) → ⊥
past_fails ss n p q v le e =
    let fails : chosen_by (branch_at (branch_trees ss)) (pos n) p ≡ Err BadUnion = rw (no_branch ss n p le) refl in
    absurd cc

-- picking goes on in the branch that was chosen
pub met_chosen : (P : Picked → Type 0) (field_path : List ℤ) (t : Tree) (ss : List Schema) (n : ℕ) (d : Schema)
    (p q : Position) (v : Value) → branches_in t ≡ Some (branch_trees ss) → n < length ss
    → chosen_by (branch_at (branch_trees ss)) (pos n) p ≡ Ok (v, q)
    → ((w : Value) (after : Position) → datum_at (tree (get_or ss n d)) p ≡ Ok (w, after)
    → P (within field_path (tree (get_or ss n d), w))) → P (pick field_path (t, v))
met_chosen P field_path t ss n d p q v is lt e on =
    let taken = chosen_taken (branch_at (branch_trees ss)) n p v q e in
    let read : datum_at (tree (get_or ss n d)) p ≡ Ok (taken.0, q) = sym (branch_there ss n d p lt) ∙ taken.1 in
    let there = pick_chosen field_path (branch_trees ss) n v (tree (get_or ss n d)) taken.0 taken.2
    (branch_chosen ss n d taken.0 lt) in
    rw (union_of_branches t (branch_trees ss) is, there) (on taken.0 q read)

pub leads_chosen : (left : ℕ) (field_path : List ℤ) (t : Tree) (ss : List Schema) (n : ℕ) (d : Schema) (p q : Position)
    (v : Value) (r : Result (Option (Bor Schema × Place)) Refusal) → branches_in t ≡ Some (branch_trees ss)
    → n < length ss → chosen_by (branch_at (branch_trees ss)) (pos n) p ≡ Ok (v, q)
    → ((w : Value) (after : Position) → datum_at (tree (get_or ss n d)) p ≡ Ok (w, after)
    → LeadsTo left (within field_path (tree (get_or ss n d), w)) r) → LeadsTo left (pick field_path (t, v)) r
leads_chosen left field_path t ss n d p q v r is lt e on =
    met_chosen (λ met. LeadsTo left met r) field_path t ss n d p q v is lt e on

-- ---- objects

-- what was found in an object that was checked
pub as_found : (met : Picked) (schema : Bor Schema) (place : Place)
    → LeadsTo max_items met (Ok (Some (schema, place))) → (v : Value) × StandsAt (tree schema.now) place.bytes.now v
    × (met ≡ present (tree schema.now, v))
as_found met schema place h =
    (h.0, stands (tree schema.now) (position_of place) h.0 h.1.1 (omega (arith, h.1.0)) h.1.2, h.2)

-- ---- at once

even : (n : ℕ) → n % 2 ≡ 0 → signed_of n ≡ pos (n / 2)
even n e = rw (eq-eqb (n % 2) 0 e) refl

pub short_number : (bytes : List ℕ) → 0 < length bytes → get_or bytes 0 0 < 128 → get_or bytes 0 0 % 2 ≡ 0
    → long_at bytes ≡ Ok (pos (get_or bytes 0 0 / 2), drop 1 bytes)
unfolding long_at
short_number bytes some low is = rw (one_group bytes 0 some low, even (get_or bytes 0 0) is) refl

-- what is met in the branch that was chosen is met from the union
pub met_in_branch : (t : Tree) (ss : List Schema) (n : ℕ) (d : Schema) (bytes rest : List ℕ) (v : Value)
    (r : Option Found) → branches_in t ≡ Some (branch_trees ss) → n < length ss → d ≡ get_or ss n d
    → long_at bytes ≡ Ok (pos n, rest)
    → ((w : Value) → StandsAt (tree d) rest w → IsMet r (within [] (tree d, w)))
    → StandsAt t bytes v → IsMet r (pick [] (t, v))
met_in_branch t ss n d bytes rest v r is lt same e on stand =
    let before : Position = record { bytes = bytes; left = max_items } in
    let behind_it : Position = record { bytes = rest; left = max_items } in
    let read = stood t bytes v stand in
    let made = chosen_read t (branch_trees ss) before read.0 v (pos n) rest is e read.1 in
    let taken = chosen_taken (branch_at (branch_trees ss)) n behind_it v read.0 made in
    let inner : datum_at (tree (get_or ss n d)) behind_it ≡ Ok (taken.0, read.0) =
    sym (branch_there ss n d behind_it lt) ∙ taken.1 in
    let there = pick_chosen [] (branch_trees ss) n v (tree (get_or ss n d)) taken.0 taken.2
    (branch_chosen ss n d taken.0 lt) in
    let on_there : (w : Value) → StandsAt (tree (get_or ss n d)) rest w
    → IsMet r (within [] (tree (get_or ss n d), w)) =
    subst (λ (s : Schema). (w : Value) → StandsAt (tree s) rest w → IsMet r (within [] (tree s, w))) same on in
    rw (union_of_branches t (branch_trees ss) is, there) (on_there taken.0 (stands (tree (get_or ss n d)) behind_it
    taken.0 read.0 (omega arith) inner))

pub found_in : (field_path : List ℤ) (s t : Schema) (bytes there : List ℕ) (v : Value)
    (r : Result (Option (Bor Schema × Place)) Refusal) → t ≡ s → there ≡ bytes → StandsAt (tree s) bytes v
    → ((w : Value) (after : Position) → datum_at (tree t) (record { bytes = there; left = max_items }) ≡ Ok (w, after)
    → LeadsTo max_items (pick field_path (tree t, w)) r) → LeadsTo max_items (pick field_path (tree s, v)) r
found_in field_path s t bytes there v r same here is on =
    let read = stood (tree s) bytes v is in
    rw (← same) (on v read.0 (rw (same, here) read.1))
