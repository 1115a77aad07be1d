-- Values that stand one after the other in a row are the value of the type that was opened.
use Rattle.std.proofs.Common.{◌≡◌, ◌≤◌, ◌<◌, ◌+◌, ◌-◌, ℕ, zero, suc, ℤ, Bool, List, [], ◌∷◌, ◌++◌, length, take}
use Rattle.std.proofs.Common.{drop}
use Rattle.std.proofs.Common.{append_assoc, get_or, set, map, Option, Some, None, Ok, refl, sym, ap, subst, ◌∙◌}
use Rattle.std.proofs.Common.{add-one, arith, length-append, true, false, cond, IfSome, ◌/◌, ◌%◌, ◌^◌}
use denote.Ref.{Bor}
use Rattle.std.proofs.Math.Seq.{take-suc, take_all}
use Rattle.std.proofs.lemmas.List.{map-append, append-nil, length-drop}
use Rattle.std.proofs.Math.Seq.{drop-append_seam}
use Rattle.std.specs.Prelude.{nat_lt, if◌then◌else◌}
use Rattle.avro_file_parts.proofs.NumberPlaces.{drop_drop, to_end}
use Rattle.avro_file.specs.Alike.{EndAlike}
use Rattle.avro_file.specs.Spelling.{takes_bytes}
use Rattle.avro_file.proofs.Taken.{datum_takes}
use Rattle.std.proofs.Math.ListN.{drop_of_length-le}
use Rattle.std.specs.Ordering.{int_eq}
use Rattle.std.specs.Option.{option_eq}
use Rattle.avro_schema.specs.declared.schema.Field.{Field}
use Rattle.avro_schema.specs.declared.schema.Schema.{Schema}
use Rattle.avro_schema.specs.Tree as tree_of
use Rattle.avro_schema.specs.Tree.{Tree, null, boolean, int, long, float, double, symbols, octets, string, fixed}
use Rattle.avro_schema.specs.Tree.{structure, array, union, Fields, no_fields, field}
use Rattle.avro_schema.specs.View.{tree}
use Rattle.avro_file_parts.specs.Parts.{Position, behind}
use Rattle.avro_file_parts.specs.Number.{number_at}
use Rattle.avro_file_parts.proofs.NumberPlaces.{one_group}
use Rattle.avro_file.specs.Value.{Value, values_of}
use Rattle.avro_file.specs.Reading.{datum_at, fields_at}
use Rattle.avro_file.specs.Ending.{standing, EndsWith, EndsCounted}
use Rattle.avro_file.specs.Blocks.{max_items}
use Rattle.avro_file.specs.Picking.{Typed, pick, unless_absent, field_value}
use Rattle.avro_file.proofs.Views.{field_trees, branch_trees}
use Rattle.avro_file.proofs.Places.{union_ends_there}
use Rattle.avro_file.proofs.Behind.{behind_ok, behind_is, empty_value, structure_ends}
use Rattle.avro_file_picked.specs.declared.row.Lead.{Lead}
use Rattle.avro_file_picked.specs.declared.row.Step.{Step}
use Rattle.avro_file_picked.specs.Picked.{value_met}
use Rattle.avro_file_picked.specs.Finding.{is_structure, fields_in, branches_in}
use Rattle.avro_file_picked.specs.Rows.{row, row_of, trees_of, AreAlike, Stand, place_at, IsLedTo, IsLead, IsLeadBelow}
use Rattle.avro_file_picked.proofs.Values.{first_read, structure_taken, fewer_left, stands}
use Rattle.avro_file_picked.proofs.FieldPaths.{one_end, next_field, union_of_branches}

-- one more value behind those that stand
pub stand_on : (ts : List Tree) (places : List ℕ) (t : Tree) (bytes : List ℕ) (at left mid next end after : ℕ)
    → Stand ts places bytes at left mid next → EndsCounted (datum_at t) bytes mid next end after
    → Stand (ts ++ t ∷ []) (places ++ mid ∷ []) bytes at left end after
stand_on [] [] t bytes at left mid next end after h e = (end, after, sym h.0, rw (h.0, h.1) e, (refl, refl))
stand_on [] (a ∷ places) t bytes at left mid next end after h e = absurd h
stand_on (u ∷ ts) [] t bytes at left mid next end after h e = absurd h
stand_on (u ∷ ts) (a ∷ places) t bytes at left mid next end after h e =
    (h.0, h.1, h.2, h.3, stand_on ts places t bytes h.0 h.1 mid next end after h.4 e)

-- a row of two parts, taken apart
pub record Cut (xs ys : List Tree) (places : List ℕ) (bytes : List ℕ) (at left end after : ℕ) : Type 0 where
  pub front : List ℕ
  pub back : List ℕ
  pub mid : ℕ
  pub next : ℕ
  pub parts : places ≡ front ++ back
  pub first : Stand xs front bytes at left mid next
  pub others : Stand ys back bytes mid next end after

pub cut : (xs ys : List Tree) (places : List ℕ) (bytes : List ℕ) (at left end after : ℕ)
    → Stand (xs ++ ys) places bytes at left end after → Cut xs ys places bytes at left end after
cut [] ys places bytes at left end after h =
    record { front = []; back = places; mid = at; next = left; parts = refl; first = (refl, refl); others = h }
cut (x ∷ xs) ys [] bytes at left end after h = absurd h
cut (x ∷ xs) ys (a ∷ places) bytes at left end after h =
    let c = cut xs ys places bytes h.0 h.1 end after h.4 in
    record {
      front = a ∷ c.front;
      back = c.back;
      mid = c.mid;
      next = c.next;
      parts = ap (λ (l : List ℕ). a ∷ l) c.parts;
      first = (h.0, h.1, h.2, h.3, c.first);
      others = c.others;
    }

one : (t : Tree) (places : List ℕ) (bytes : List ℕ) (at left end after : ℕ)
    → Stand (t ∷ []) places bytes at left end after → EndsCounted (datum_at t) bytes at left end after
one t [] bytes at left end after h = absurd h
one t (a ∷ []) bytes at left end after h = rw (← h.4.0, ← h.4.1) h.3
one t (a ∷ b ∷ places) bytes at left end after h = absurd h.4

-- a value without bytes ends where it begins
nothing_there : (t : Tree) (places bytes : List ℕ) (at left end after : ℕ) → at ≤ length bytes → takes_bytes t ≡ false
    → Stand [] places bytes at left end after → EndsCounted (datum_at t) bytes at left end after
nothing_there t [] bytes at left end after le none h =
    let e = empty_value t (standing bytes at left) none in
    rw (← h.0, ← h.1) (le, behind_is (datum_at t (standing bytes at left)) e.0 (standing bytes at left) e.1)
nothing_there t (a ∷ places) bytes at left end after le none h = absurd h

null_empty : takes_bytes null ≡ false
unfolding takes_bytes
null_empty = refl

fixed_empty : (n : ℕ) (kind : _) → nat_lt 0 n ≡ false → takes_bytes (fixed n kind) ≡ false
unfolding takes_bytes
fixed_empty n kind e = e

fixed_there : (n : ℕ) (kind : _) (places bytes : List ℕ) (at left end after : ℕ) → at ≤ length bytes → (some : Bool)
    → nat_lt 0 n ≡ some → Stand (if some then fixed n kind ∷ [] else []) places bytes at left end after
    → EndsCounted (datum_at (fixed n kind)) bytes at left end after
fixed_there n kind places bytes at left end after le true is h = one (fixed n kind) places bytes at left end after h
fixed_there n kind places bytes at left end after le false is h =
    nothing_there (fixed n kind) places bytes at left end after le (fixed_empty n kind is) h

field_read : (id : Option ℤ) (t : Tree) (fs : Fields) (p q r : Position) → behind (datum_at t p) ≡ Ok q
    → behind (fields_at fs q) ≡ Ok r → behind (fields_at (field id t fs) p) ≡ Ok r
unfolding fields_at
field_read id t fs p q r e g =
    let v = behind_ok (datum_at t p) q e in
    let vs = behind_ok (fields_at fs q) r g in
    rw (v.1, vs.1) refl

no_field_read : (p : Position) → behind (fields_at no_fields p) ≡ Ok p
unfolding fields_at
no_field_read p = refl

-- where the row ends the value ends
mutual
  pub joined : (t : Tree) (places : List ℕ) (bytes : List ℕ) (at left end after : ℕ) → at ≤ length bytes
      → Stand (row t) places bytes at left end after → EndsCounted (datum_at t) bytes at left end after
  joined (structure fs) places bytes at left end after le h =
      let e = joined_fields fs places bytes at left end after le h in
      (e.0, structure_ends fs (standing bytes at left) ∙ e.1)
  joined null places bytes at left end after le h = nothing_there null places bytes at left end after le null_empty h
  joined (fixed n kind) places bytes at left end after le h =
      fixed_there n kind places bytes at left end after le (nat_lt 0 n) refl h
  joined t places bytes at left end after le h = one t places bytes at left end after h

  pub joined_fields : (fs : Fields) (places : List ℕ) (bytes : List ℕ) (at left end after : ℕ) → at ≤ length bytes
      → Stand (row_of fs) places bytes at left end after → EndsCounted (fields_at fs) bytes at left end after
  joined_fields no_fields [] bytes at left end after le h =
      rw (← h.0, ← h.1) (le, no_field_read (standing bytes at left))
  joined_fields no_fields (a ∷ places) bytes at left end after le h = absurd h
  joined_fields (field id t fs) places bytes at left end after le h =
      let c = cut (row t) (row_of fs) places bytes at left end after h in
      let e = joined t c.front bytes at left c.mid c.next le c.first in
      let g = joined_fields fs c.back bytes c.mid c.next end after e.0 c.others in (
        g.0,
        field_read id t fs (standing bytes at left) (standing bytes c.mid c.next) (standing bytes end after) e.1 g.1,
      )

-- ---- types that end alike

-- what stands as one row stands as the other
pub stand_alike : (ss ts : List Tree) (places bytes : List ℕ) (at left end after : ℕ) → AreAlike ss ts
    → Stand ss places bytes at left end after → Stand ts places bytes at left end after
stand_alike [] [] places bytes at left end after alike h = h
stand_alike [] (t ∷ ts) places bytes at left end after alike h = absurd alike
stand_alike (s ∷ ss) [] places bytes at left end after alike h = absurd alike
stand_alike (s ∷ ss) (t ∷ ts) [] bytes at left end after alike h = absurd h
stand_alike (s ∷ ss) (t ∷ ts) (a ∷ places) bytes at left end after alike h = (
  h.0,
  h.1,
  h.2,
  (h.3.0, sym (alike.0 (standing bytes at left)) ∙ h.3.1),
  stand_alike ss ts places bytes h.0 h.1 end after alike.1 h.4,
)

pub alike_many : (ss ts : List Tree) → AreAlike ss ts → length ss ≡ length ts
alike_many [] [] alike = refl
alike_many [] (t ∷ ts) alike = absurd alike
alike_many (s ∷ ss) [] alike = absurd alike
alike_many (s ∷ ss) (t ∷ ts) alike = ap suc (alike_many ss ts alike.1)

pub steps_on : (steps : List Step) (step : Step) (ts : List Tree) (t : Tree) → AreAlike (trees_of steps) ts
    → EndAlike (tree step.schema) t → AreAlike (trees_of (steps ++ step ∷ [])) (ts ++ t ∷ [])
steps_on [] step [] t alike same = (same, tt)
steps_on [] step (u ∷ ts) t alike same = absurd alike
steps_on (s ∷ steps) step [] t alike same = absurd alike
steps_on (s ∷ steps) step (u ∷ ts) t alike same = (alike.0, steps_on steps step ts t alike.1 same)

-- where the exact reader ends, by what is left behind the value
pub value_ends : (t : Tree) (bytes : List ℕ) (at left : ℕ) (q : Position) → at ≤ length bytes
    → behind (datum_at t (record { bytes = take (length bytes - at) (drop at bytes); left = left })) ≡ Ok q
    → EndsCounted (datum_at t) bytes at left (length bytes - length q.bytes) q.left
value_ends t bytes at left q le h =
    let e : behind (datum_at t (standing bytes at left)) ≡ Ok q = rw (to_end bytes at) at h in
    let v = behind_ok (datum_at t (standing bytes at left)) q e in
    let k = datum_takes t (standing bytes at left) (v.0, q) v.1 in
    let rest : q.bytes ≡ drop (at + length k.front) bytes = sym (drop-append_seam k.front q.bytes)
    ∙ ap (drop (length k.front)) (sym k.parts) ∙ drop_drop (length k.front) at bytes in
    let all : length bytes - at ≡ length k.front + length q.bytes = sym (length-drop at bytes) ∙ ap length k.parts
    ∙ length-append k.front q.bytes in
    let end : length bytes - length q.bytes ≡ at + length k.front = omega (arith, all, le) in (
      omega arith,
      rw end (e ∙ ap (λ (r : List ℕ). Ok (record { bytes = r; left = q.left })) rest),
    )

pub value_fits : (t : Tree) (bytes : List ℕ) (at left : ℕ) (q : Position)
    → behind (datum_at t (record { bytes = take (length bytes - at) (drop at bytes); left = left })) ≡ Ok q
    → length q.bytes ≤ length bytes
value_fits t bytes at left q h =
    let e : behind (datum_at t (standing bytes at left)) ≡ Ok q = rw (to_end bytes at) at h in
    let v = behind_ok (datum_at t (standing bytes at left)) q e in
    let k = datum_takes t (standing bytes at left) (v.0, q) v.1 in
    let all : length bytes - at ≡ length k.front + length q.bytes = sym (length-drop at bytes) ∙ ap length k.parts
    ∙ length-append k.front q.bytes in
    omega (arith, all)

-- ---- the loop over the row

taken_more : {S : Type 0} (steps : List S) (i : ℕ) (s : S) → i < length steps → s ≡ get_or steps i s
    → take (i + 1) steps ≡ take i steps ++ s ∷ []
taken_more {S} steps i s lt is = ap (λ (n : ℕ). take n steps) (add-one i) ∙ take-suc steps i s lt
    ∙ ap (λ (x : S). take i steps ++ x ∷ []) (sym is)

set_then : (places : List ℕ) (i here : ℕ) → i < length places
    → take (suc i) (set places i here) ≡ take i places ++ here ∷ []
set_then [] i here lt = absurd (omega arith)
set_then (a ∷ places) zero here lt = refl
set_then (a ∷ places) (suc i) here lt = ap (λ (l : List ℕ). a ∷ l) (set_then places i here (omega (arith, lt)))

pub row_on : {S : Type 0} (type : S → Tree) (steps : List S) (i : ℕ) (s : S) (places : List ℕ) (bytes : List ℕ)
    (left mid next end after : ℕ) → i < length steps → s ≡ get_or steps i s → i < length places
    → Stand (map type (take i steps)) (take i places) bytes 0 left mid next
    → EndsCounted (datum_at (type s)) bytes mid next end after
    → Stand (map type (take (i + 1) steps)) (take (i + 1) (set places i mid)) bytes 0 left end after
row_on {S} type steps i s places bytes left mid next end after lt is there h e =
    let all : map type (take (i + 1) steps) ≡ map type (take i steps) ++ type s ∷ [] =
    ap (λ (l : List S). map type l) (taken_more steps i s lt is) ∙ map-append type (take i steps) (s ∷ []) in
    let placed : take (i + 1) (set places i mid) ≡ take i places ++ mid ∷ [] =
    ap (λ (n : ℕ). take n (set places i mid)) (add-one i) ∙ set_then places i mid there in
    rw (all, placed) (stand_on (map type (take i steps)) (take i places) (type s) bytes 0 left mid
    next end after h e)

pub row_done : {S : Type 0} (type : S → Tree) (steps : List S) (i : ℕ) (places : List ℕ) (bytes : List ℕ)
    (left end after : ℕ) → length steps ≤ i → length places ≡ length steps
    → Stand (map type (take i steps)) (take i places) bytes 0 left end after
    → Stand (map type steps) places bytes 0 left end after
row_done {S} type steps i places bytes left end after le same h =
    let all : take i steps ≡ steps = take_all i steps le in
    let whole : take i places ≡ places = take_all i places (omega (arith, le, same)) in
    subst (λ (l : List S). Stand (map type l) places bytes 0 left end after) all
    (subst (λ (l : List ℕ). Stand (map type (take i steps)) l bytes 0 left end after) whole h)

-- ---- the loops that make rows

pub rows_on : (fs : List Field) (i : ℕ) (f : Field) (xs total : List Tree) → i < length fs → f ≡ get_or fs i f
    → xs ++ row_of (field_trees (drop i fs)) ≡ total
    → (xs ++ row (tree f.schema)) ++ row_of (field_trees (drop (i + 1) fs)) ≡ total
rows_on fs i f xs total lt is h =
    let k = next_field fs i f lt is in
    let same : xs ++ row_of (field_trees (drop i fs)) ≡ (xs ++ row (tree f.schema)) ++ row_of
    (field_trees (drop (i + 1) fs)) = rw k (simp append_assoc) in
    sym same ∙ h

pub rows_done : (fs : List Field) (i : ℕ) (xs total : List Tree) → length fs ≤ i
    → xs ++ row_of (field_trees (drop i fs)) ≡ total → xs ≡ total
rows_done fs i xs total le h =
    let k : drop i fs ≡ [] = drop_of_length-le fs le in
    let same : xs ++ row_of (field_trees (drop i fs)) ≡ xs = rw k (append-nil xs) in
    sym same ∙ h

pub lens_on : (fs : List Field) (i : ℕ) (f : Field) → i < length fs → f ≡ get_or fs i f
    → length (row_of (field_trees (drop i fs))) ≡ length (row (tree f.schema)) + length (row_of
    (field_trees (drop (i + 1) fs)))
lens_on fs i f lt is = ap (λ (r : Fields). length (row_of r)) (next_field fs i f lt is)
    ∙ length-append (row (tree f.schema)) (row_of (field_trees (drop (i + 1) fs)))

pub lens_done : (fs : List Field) (i : ℕ) → length fs ≤ i → length (row_of (field_trees (drop i fs))) ≡ 0
lens_done fs i le = let k : drop i fs ≡ [] = drop_of_length-le fs le in rw k refl

-- ---- places

pub first_place : (ts : List Tree) (places : List ℕ) (bytes : List ℕ) (at left end after : ℕ)
    → Stand ts places bytes at left end after → place_at places end 0 ≡ at
first_place [] [] bytes at left end after h = sym h.0
first_place [] (a ∷ places) bytes at left end after h = absurd h
first_place (t ∷ ts) [] bytes at left end after h = absurd h
first_place (t ∷ ts) (a ∷ places) bytes at left end after h = h.2

pub as_many : (ts : List Tree) (places : List ℕ) (bytes : List ℕ) (at left end after : ℕ)
    → Stand ts places bytes at left end after → length places ≡ length ts
as_many [] [] bytes at left end after h = refl
as_many [] (a ∷ places) bytes at left end after h = absurd h
as_many (t ∷ ts) [] bytes at left end after h = absurd h
as_many (t ∷ ts) (a ∷ places) bytes at left end after h = ap suc (as_many ts places bytes h.0 h.1 end after h.4)

place_cut : (front back : List ℕ) (mid end k : ℕ) → place_at back end 0 ≡ mid → k ≤ length front
    → place_at (front ++ back) end k ≡ place_at front mid k
place_cut [] back mid end zero is le = is
place_cut [] back mid end (suc k) is le = absurd (omega (arith, le))
place_cut (a ∷ front) back mid end zero is le = refl
place_cut (a ∷ front) back mid end (suc k) is le = place_cut front back mid end k is (omega (arith, le))

place_past : (front back : List ℕ) (end k : ℕ) → place_at (front ++ back) end (length front + k) ≡ place_at back end k
place_past [] back end k = ap (λ (n : ℕ). place_at back end n) (omega arith)
place_past (a ∷ front) back end k =
    let n : length (a ∷ front) + k ≡ suc (length front + k) = omega arith in
    ap (λ (m : ℕ). place_at (a ∷ (front ++ back)) end m) n ∙ place_past front back end k

-- ---- leads

-- the fields from here on stand behind so many places, and picking among them is picking among all
pub record Reached (id : ℤ) (fs : Fields) (vs : List Value) (rest : Fields) (places bytes : List ℕ)
    (end after count : ℕ) :
    Type 0 where
  pub values : List Value
  pub front : List ℕ
  pub back : List ℕ
  pub mid : ℕ
  pub next : ℕ
  pub parts : places ≡ front ++ back
  pub passed : length front ≡ count
  pub inside : mid ≤ length bytes
  pub few : next ≤ max_items
  pub stand : Stand (row_of rest) back bytes mid next end after
  pub read : fields_at rest (standing bytes mid next) ≡ Ok (values, standing bytes end after)
  pub same : field_value id fs (values_of vs) ≡ field_value id rest (values_of values)

pub reached_first : (id : ℤ) (fs : Fields) (vs : List Value) (places bytes : List ℕ) (at left end after : ℕ)
    → at ≤ length bytes → left ≤ max_items → Stand (row_of fs) places bytes at left end after
    → fields_at fs (standing bytes at left) ≡ Ok (vs, standing bytes end after)
    → Reached id fs vs fs places bytes end after 0
reached_first id fs vs places bytes at left end after inside few stand read = record {
  values = vs;
  front = [];
  back = places;
  mid = at;
  next = left;
  parts = refl;
  passed = refl;
  inside = inside;
  few = few;
  stand = stand;
  read = read;
  same = refl;
}

-- the first field's row and value, and the others
record Front (t : Tree) (rest : Fields) (back bytes : List ℕ) (mid next end after : ℕ) (values : List Value) : Type 0
  where
    here : List ℕ
    others : List ℕ
    past : ℕ
    left : ℕ
    parts : back ≡ here ++ others
    stand : Stand (row t) here bytes mid next past left
    more : Stand (row_of rest) others bytes past left end after
    inside : past ≤ length bytes
    fewer : left ≤ next
    first : Value
    firsts : List Value
    is : values ≡ first ∷ firsts
    read : datum_at t (standing bytes mid next) ≡ Ok (first, standing bytes past left)
    reads : fields_at rest (standing bytes past left) ≡ Ok (firsts, standing bytes end after)

front_taken : (own : Option ℤ) (t : Tree) (rest : Fields) (back bytes : List ℕ) (mid next end after : ℕ)
    (values : List Value) → mid ≤ length bytes → Stand (row t ++ row_of rest) back bytes mid next end after
    → fields_at (field own t rest) (standing bytes mid next) ≡ Ok (values, standing bytes end after)
    → Front t rest back bytes mid next end after values
front_taken own t rest back bytes mid next end after values inside stand read =
    let c = cut (row t) (row_of rest) back bytes mid next end after stand in
    let e = joined t c.front bytes mid next c.mid c.next inside c.first in
    let f = first_read own t rest (standing bytes mid next) values (standing bytes end after) read in
    let v = behind_ok (datum_at t (standing bytes mid next)) (standing bytes c.mid c.next) e.1 in
    let here : f.between ≡ standing bytes c.mid c.next = one_end (datum_at t (standing bytes mid next)) f.first v.0
    f.between (standing bytes c.mid c.next) f.read v.1 in
    let first : datum_at t (standing bytes mid next) ≡ Ok (f.first, standing bytes c.mid c.next) = f.read
    ∙ ap (λ (p : Position). Ok (f.first, p)) here in
    record {
      here = c.front;
      others = c.back;
      past = c.mid;
      left = c.next;
      parts = c.parts;
      stand = c.first;
      more = c.others;
      inside = e.0;
      fewer = fewer_left t (standing bytes mid next) f.first (standing bytes c.mid c.next) first;
      first = f.first;
      firsts = f.others;
      is = f.is;
      read = first;
      reads = ap (λ (p : Position). fields_at rest p) (sym here) ∙ f.more;
    }

chosen_field : (id : ℤ) (own : Option ℤ) (t : Tree) (rest : Fields) (v : Value) (vs values : List Value)
    → values ≡ v ∷ vs → field_value id (field own t rest) (values_of values) ≡ cond (option_eq int_eq own (Some id))
    (Some (t, v)) (field_value id rest (values_of vs))
chosen_field id own t rest v vs values is = rw is refl

pub reached_next : (id : ℤ) (fs : Fields) (vs : List Value) (own : Option ℤ) (t : Tree) (rest : Fields)
    (places bytes : List ℕ) (end after count len : ℕ) → Reached id fs vs (field own t rest) places bytes end after count
    → len ≡ length (row t) → option_eq int_eq own (Some id) ≡ false
    → Reached id fs vs rest places bytes end after (count + len)
reached_next id fs vs own t rest places bytes end after count len r is other =
    let f = front_taken own t rest r.back bytes r.mid r.next end after r.values r.inside r.stand r.read in
    record {
      values = f.firsts;
      front = r.front ++ f.here;
      back = f.others;
      mid = f.past;
      next = f.left;
      parts = r.parts ∙ ap (λ (l : List ℕ). r.front ++ l) f.parts ∙ sym (append_assoc r.front f.here f.others);
      passed = length-append r.front f.here ∙ omega (
        arith,
        r.passed,
        is,
        as_many (row t) f.here bytes r.mid r.next f.past
            f.left f.stand,
      );
      inside = f.inside;
      few = omega (arith, f.fewer, r.few);
      stand = f.more;
      read = f.reads;
      same = r.same ∙ chosen_field id own t rest f.first f.firsts r.values f.is ∙ rw other refl;
    }

pub reached_none : (id : ℤ) (fs : Fields) (vs : List Value) (rest : List Field) (i : ℕ) (places bytes : List ℕ)
    (end after count : ℕ) (field_path : List ℤ) → length rest ≤ i
    → Reached id fs vs (field_trees (drop i rest)) places bytes end after count
    → value_met (unless_absent (pick field_path) (field_value id fs (values_of vs))) ≡ None
reached_none id fs vs rest i places bytes end after count field_path le r =
    let k : drop i rest ≡ [] = drop_of_length-le rest le in
    ap (λ (o : Option Typed). value_met (unless_absent (pick field_path) o)) (r.same
    ∙ ap (λ (l : List Field). field_value id (field_trees l) (values_of r.values)) k)

abbrev behind_lead : Lead → ℕ → Lead
behind_lead lead count = record { schema = lead.schema; step = count + lead.step; passed = lead.passed + 1 }

-- the first field is the one, and the field path goes on in its row
pub reached_there : (id : ℤ) (fs : Fields) (vs : List Value) (own : Option ℤ) (t : Tree) (rest : Fields)
    (places bytes : List ℕ) (end after count : ℕ) (field_path : List ℤ) (lead : Lead)
    → Reached id fs vs (field own t rest) places bytes end after count → option_eq int_eq own (Some id) ≡ true
    → IsLead t field_path (Some lead) → lead.step ≤ length (row t)
    → IsLedTo (Some (behind_lead lead count)) (id ∷ field_path) places end bytes
    (unless_absent (pick field_path) (field_value id fs (values_of vs)))
reached_there id fs vs own t rest places bytes end after count field_path lead r same leads le =
    let f = front_taken own t rest r.back bytes r.mid r.next end after r.values r.inside r.stand r.read in
    let led = leads bytes r.mid r.next f.past f.left f.here f.first r.inside r.few f.stand f.read in
    let there : field_value id fs (values_of vs) ≡ Some (t, f.first) = r.same
    ∙ chosen_field id own t rest f.first f.firsts r.values f.is ∙ rw same refl in
    let met = ap (unless_absent (pick field_path)) there in
    let close : lead.step ≤ length f.here = omega (
      arith,
      le,
      as_many (row t) f.here bytes r.mid r.next f.past f.left
          f.stand,
    ) in
    let place : place_at places end (count + lead.step) ≡ place_at f.here f.past lead.step =
    ap (λ (l : List ℕ). place_at l end (count + lead.step)) r.parts
    ∙ ap (λ (n : ℕ). place_at (r.front ++ r.back) end (n + lead.step)) (sym r.passed)
    ∙ place_past r.front r.back end lead.step ∙ ap (λ (l : List ℕ). place_at l end lead.step) f.parts
    ∙ place_cut f.here f.others f.past end lead.step (first_place (row_of rest) f.others bytes f.past f.left end after
    f.more) close in
    let ids : drop (lead.passed + 1) (id ∷ field_path) ≡ drop lead.passed field_path =
    ap (λ (n : ℕ). drop n (id ∷ field_path)) (add-one lead.passed) in (
      led.0,
      rw place led.1,
      rw place led.2,
      met ∙ led.3 ∙ ap (λ (l : List ℤ). pick l (tree lead.schema.now, led.0)) (sym ids),
    )

pub reached_nowhere : (id : ℤ) (fs : Fields) (vs : List Value) (own : Option ℤ) (t : Tree) (rest : Fields)
    (places bytes : List ℕ) (end after count : ℕ) (field_path : List ℤ)
    → Reached id fs vs (field own t rest) places bytes end after count → option_eq int_eq own (Some id) ≡ true
    → IsLead t field_path None → value_met (unless_absent (pick field_path) (field_value id fs (values_of vs))) ≡ None
reached_nowhere id fs vs own t rest places bytes end after count field_path r same leads =
    let f = front_taken own t rest r.back bytes r.mid r.next end after r.values r.inside r.stand r.read in
    let led = leads bytes r.mid r.next f.past f.left f.here f.first r.inside r.few f.stand f.read in
    let there : field_value id fs (values_of vs) ≡ Some (t, f.first) = r.same
    ∙ chosen_field id own t rest f.first f.firsts r.values f.is ∙ rw same refl in
    ap (λ (o : Option Typed). value_met (unless_absent (pick field_path) o)) there ∙ led

pub lead_within : (t : Tree) (fs : Fields) (id : ℤ) (ids : List ℤ) (lead : Option Lead) → is_structure t ≡ true
    → fs ≡ fields_in t → IsLeadBelow fs id ids lead → IsLead t (id ∷ ids) lead
lead_within null fs id ids lead is same below = absurd cc
lead_within boolean fs id ids lead is same below = absurd cc
lead_within int fs id ids lead is same below = absurd cc
lead_within long fs id ids lead is same below = absurd cc
lead_within float fs id ids lead is same below = absurd cc
lead_within double fs id ids lead is same below = absurd cc
lead_within (octets kind) fs id ids lead is same below = absurd cc
lead_within string fs id ids lead is same below = absurd cc
lead_within (fixed n kind) fs id ids lead is same below = absurd cc
lead_within (symbols n) fs id ids lead is same below = absurd cc
lead_within (array s own kind) fs id ids lead is same below = absurd cc
lead_within (tree_of.map s) fs id ids lead is same below = absurd cc
lead_within (union bs) fs id ids lead is same below = absurd cc
lead_within (structure gs) fs id ids lead is same below = λ bytes at left end after places v inside few stand read.
    let taken = structure_taken gs (standing bytes at left) v (standing bytes end after) read in
    let led = subst (λ (hs : Fields). IsLeadBelow hs id ids lead) same below bytes at left end after places taken.0
    inside few stand taken.1 in
    subst (λ (w : Value). IsLedTo lead (id ∷ ids) places end bytes (pick (id ∷ ids) (structure gs, w)))
    (sym taken.2) led

pub lead_here : (schema : Bor Schema) (field_path : List ℤ)
    → IsLead (tree schema.now) field_path (Some (record { schema = schema; step = 0; passed = 0 }))
lead_here schema field_path = λ bytes at left end after places v inside few stand read.
    let place = first_place (row (tree schema.now)) places bytes at left end after stand in
    let stood = stands (tree schema.now) (standing bytes at left) v (standing bytes end after) few read in
    (v, rw place inside, rw place stood, refl)

pub row_of_structure : (t : Tree) → is_structure t ≡ true → row t ≡ row_of (fields_in t)
row_of_structure null is = absurd cc
row_of_structure boolean is = absurd cc
row_of_structure int is = absurd cc
row_of_structure long is = absurd cc
row_of_structure float is = absurd cc
row_of_structure double is = absurd cc
row_of_structure (octets kind) is = absurd cc
row_of_structure string is = absurd cc
row_of_structure (fixed n kind) is = absurd cc
row_of_structure (symbols n) is = absurd cc
row_of_structure (array s own kind) is = absurd cc
row_of_structure (tree_of.map s) is = absurd cc
row_of_structure (union bs) is = absurd cc
row_of_structure (structure fs) is = refl

pub reached_at : (id : ℤ) (all : Fields) (vs : List Value) (fs : List Field) (i : ℕ) (f : Field) (places bytes : List ℕ)
    (end after count : ℕ) → i < length fs → f ≡ get_or fs i f
    → Reached id all vs (field_trees (drop i fs)) places bytes end after count
    → Reached id all vs (field f.id (tree f.schema) (field_trees (drop (i + 1) fs))) places bytes end after count
reached_at id all vs fs i f places bytes end after count lt is r =
    subst (λ (rest : Fields). Reached id all vs rest places bytes end after count) (next_field fs i f lt is) r

-- ---- the value of a step

-- a union's value ends where that of its branch does, where its position has one group
pub union_step : (t : Tree) (ss : List Schema) (d : Schema) (bytes : List ℕ) (at n left after : ℕ) (o : Option ℕ)
    → branches_in t ≡ Some (branch_trees ss) → at < length bytes → get_or bytes at 0 < 128
    → get_or bytes at 0 % 2 ≡ 0 → n ≡ get_or bytes at 0 / 2 → n < length ss → d ≡ get_or ss n d
    → IfSome o (λ end. EndsCounted (datum_at (tree d)) bytes (at + 1) left end after)
    → IfSome o (λ end. EndsCounted (datum_at t) bytes at left end after)
union_step t ss d bytes at n left after o is lt low even same fits here h =
    let number : EndsWith (number_at (2 ^ 64)) bytes at (get_or bytes at 0) (at + 1) =
    (omega arith, omega (arith, lt), one_group bytes at lt low) in
    let there : d ≡ get_or ss (get_or bytes at 0 / 2) d = here ∙ ap (λ (k : ℕ). get_or ss k d) same in
    let on = subst (λ (s : Schema). IfSome o (λ end. EndsCounted (datum_at (tree s)) bytes (at + 1) left end after))
    there h in
    rw (union_of_branches t (branch_trees ss) is) (union_ends_there ss bytes at (get_or bytes at 0) (at + 1) left after
    d o number even (omega (arith, same, fits)) on)
