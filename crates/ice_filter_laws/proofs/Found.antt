-- From names to the field in the JSON and to the column, side by side.
use Rattle.std.proofs.Common.{◌≡◌, ◌≢◌, ◌⊎◌, inl, inr, ℕ, suc, ◌<◌, ◌≤◌, Bool, true, false, ◌&&◌, List, []}
use Rattle.std.proofs.Common.{◌∷◌, ◌++◌, length, Option, None, Some, Result, Ok, refl, sym, ap, ◌∙◌, arith, codes}
use Rattle.std.proofs.Common.{append_assoc, append-nil, length-append, bytes_eq, subst, slice_get, ltb}
use Rattle.std.proofs.Common.{ltb-true, ltb-false, map}
use Rattle.std.specs.Prelude.{ℤ, nat_eq}
use Rattle.std.specs.Option.{option_eq, option_and_then}
use Rattle.std.proofs.lemmas.Slice.Eq.{bytes_eq-Decides}
use Rattle.std.proofs.lemmas.List.{append_cancel_left}
use Rattle.std.proofs.lemmas.Bool.Decides.{nat_tests}
use Rattle.serde_json.specs.Data as json
use Rattle.serde_json.specs.Data.{Data, Items, Members, Num}
use Rattle.serde_json.specs.Find.{get, get_item, as_integer}
use Rattle.ice_value.specs.declared.column_type.ColumnType.{ColumnType}
use Rattle.ice_meta.specs.declared.fault.Member.TheVariants as member
use Rattle.ice_meta.specs.declared.fault.MetaFault.{MetaFault}
use Rattle.ice_meta.specs.declared.fault.MetaFault.TheVariants.{Missing}
use Rattle.ice_meta.specs.declared.schema.Column.{Column}
use Rattle.ice_meta.specs.declared.schema.Schema.{Schema}
use Rattle.ice_meta.specs.Columns.{is_field, field_place, place_on, column_on}
use Rattle.ice_meta.specs.Members.{int_in, text_in}
use Rattle.ice_meta.specs.Reading.{again, or_twice, once}
use Rattle.ice_meta.specs.Schemas.{type_in, within, fields_at, inside, most_levels, column_id, if_struct}
use Rattle.ice_meta.specs.Schemas.{schema_of}
use Rattle.ice_meta.specs.Types.{primitive}
use Rattle.ice_filter_laws.specs.Columns.{IsNamed, IsStruct, IsFirstField, LeadsTo, HasId, HasType, FindsTheField}
use Rattle.ice_filter_laws.specs.Columns.{FindsNoOther}
use Rattle.ice_filter_laws.proofs.Grown.{take, Each, each_as, each_both, up, Under, elsewhere, one, fields_so, Kinds}
use Rattle.ice_filter_laws.proofs.Grown.{one_level, type_so, inside_grows, Free, list_free, map_free}
use Rattle.ice_filter_laws.proofs.Fields.{asked_is, text_there, objects_there, id_there, type_there, Clear, nowhere}
use Rattle.ice_filter_laws.proofs.Fields.{is_place, at_place, Low, First, Lacking, search_for}

-- ---- the column that is found, and the field

-- the column has the id and the type of the field
abbrev IsOf : Column → Data → Type 0
IsOf column field = HasId field column.id × HasType field column.column_type

-- there is a column where the names lead to a field, and it is that field's
abbrev pub Agrees : Option Column → Data → List (List ℕ) → Type 0
Agrees None d names = (field : Data) → LeadsTo d names field → ⊥
Agrees (Some column) d names = (field : Data) × LeadsTo d names field × IsOf column field

-- the column to which names lead from this one
abbrev found_from : List Column → Option ℕ → List (List ℕ) → Option Column
found_from columns around names = option_and_then (slice_get columns) (place_on columns around names)

-- ---- what stands behind

-- it stands neither in this one nor in the places from low up to high
abbrev Outside : Option ℕ → ℕ → ℕ → Column → Type 0
Outside around low high c = (up c.around ≢ up around) × (low < up c.around → up c.around ≤ high → ⊥)

back_outside : (around : Option ℕ) (at mid high : ℕ) (c : Column) → up around ≤ at → at < mid
    → Under around mid high c → Outside (Some at) (suc at) mid c
back_outside around at mid high c fits lt (inl e) = (λ k. absurd (omega arith), λ p q. omega arith)
back_outside around at mid high c fits lt (inr u) = (λ k. absurd (omega arith), λ p q. omega arith)

rest_outside : (around : Option ℕ) (low at mid high : ℕ) (c : Column) → low ≤ at → at < mid → mid ≤ high
    → Outside around low high c → Outside (Some at) (suc at) mid c
rest_outside around low at mid high c p q r o =
    (λ k. o.1 (omega arith) (omega arith), λ s t. o.1 (omega arith) (omega arith))

outside_clear : (around : Option ℕ) (low high : ℕ) (name : List ℕ) (cs : List Column)
    → Each (Outside around low high) cs → Clear around name cs
outside_clear around low high name cs all =
    each_as (Outside around low high) (λ c. is_field around name c ≡ false)
    (λ c o. elsewhere around name c o.0) cs all

-- what stands lower is no field of a later column
low_clear : (at : ℕ) (name : List ℕ) (cs : List Column) → Each (Low at) cs → Clear (Some at) name cs
low_clear at name cs all = each_as (Low at) (λ c. is_field (Some at) name c ≡ false)
    (λ c l. elsewhere (Some at) name c (λ k. absurd (omega (arith, l)))) cs all

-- ---- one field of a name

once_at : (name : List ℕ) (ds : Items) (i j : ℕ) (a b : Data) → get_item i ds ≡ Some a → get_item j ds ≡ Some b
    → IsNamed name a → IsNamed name b
    → ((k : ℕ) (other : Data) → k < i → get_item k ds ≡ Some other → IsNamed name other → ⊥)
    → ((k : ℕ) (other : Data) → k < j → get_item k ds ≡ Some other → IsNamed name other → ⊥)
    → (x y : Bool) → ltb i j ≡ x → ltb j i ≡ y → a ≡ b
once_at name ds i j a b at bt na nb before later true y p q = absurd (later i a (ltb-true i j p) at na)
once_at name ds i j a b at bt na nb before later false true p q = absurd (before j b (ltb-true j i q) bt nb)
once_at name ds i j a b at bt na nb before later false false p q =
    let le : j ≤ i = ltb-false i j p in
    let ge : i ≤ j = ltb-false j i q in
    let same : i ≡ j = omega arith in
    let e : get_item i ds ≡ get_item j ds = ap (λ k. get_item k ds) same in
    cc

pub first_once : (d : Data) (name : List ℕ) (a b : Data) → IsFirstField d name a → IsFirstField d name b → a ≡ b
first_once d name a b x y =
    let e : json.array y.0 ≡ json.array x.0 = cc in
    let same : y.0 ≡ x.0 = cc in
    let at : get_item y.1 x.0 ≡ Some b = ap (get_item y.1) (sym same) ∙ y.3 in
    let before : (k : ℕ) (other : Data) → k < y.1 → get_item k x.0 ≡ Some other → IsNamed name other → ⊥ =
    λ k other lt h n. y.5 k other lt (ap (get_item k) same ∙ h) n in
    once_at name x.0 x.1 y.1 a b x.3 at x.4 y.4 x.5 before (ltb x.1 y.1) (ltb y.1 x.1) refl refl

pub leads_once : (names : List (List ℕ)) (d a b : Data) → LeadsTo d names a → LeadsTo d names b → a ≡ b
leads_once [] d a b x y = absurd x
leads_once (name ∷ []) d a b x y = first_once d name a b x y
leads_once (name ∷ next ∷ names) d a b x y =
    let outer : x.0 ≡ y.0 = first_once d name x.0 y.0 x.2 y.2 in
    let e : get (codes "type") x.0 ≡ get (codes "type") y.0 = ap (get (codes "type")) outer in
    let inner : y.1 ≡ x.1 = cc in
    let P : Data → Type 0 = λ v. LeadsTo v (next ∷ names) b in
    leads_once (next ∷ names) x.1 a b x.5 (subst P inner y.5)

-- where there is no first field, names lead nowhere
no_first : (names : List (List ℕ)) (name : List ℕ) (d : Data) → ((a : Data) → IsFirstField d name a → ⊥)
    → (field : Data)
    → LeadsTo d (name ∷ names) field → ⊥
no_first [] name d none field l = none field l
no_first (next ∷ names) name d none field l = none l.0 l.2

-- ---- what stands in a field

-- the first field of a name, its column, and the columns before and behind it
record Here (d : Data) (name : List ℕ) (around : Option ℕ) (n : ℕ) (all : List Column) : Type 0 where
  field : Data
  whole : Data
  id : ℤ
  type : Option ColumnType
  front : List Column
  mid : List Column
  ins : List Column
  rest : List Column
  is_first : IsFirstField d name field
  is_type : get (codes "type") field ≡ Some whole
  has_id : HasId field id
  has_type : type_in member.Type whole ≡ Ok type
  inner : within (inside n) type (length front) whole (front ++ one around (Some name) id type ∷ []) ≡ Ok mid
  mid_is : mid ≡ (front ++ one around (Some name) id type ∷ []) ++ ins
  all_is : all ≡ mid ++ rest
  fits : up around ≤ length front
  low : Each (Low (length front)) front
  clear : Clear around name front
  outside : Each (Outside (Some (length front)) (suc (length front)) (length mid)) rest

regroup : (front : List Column) (c : Column) (ins rest : List Column)
    → ((front ++ c ∷ []) ++ ins) ++ rest ≡ front ++ c ∷ (ins ++ rest)
regroup front c ins rest = simp append_assoc

same_name : (name : List ℕ) (around : Option ℕ) → (bytes_eq name name && option_eq nat_eq around around) ≡ true
same_name name around = rw ((bytes_eq-Decides name name).1 refl) (here around)
  where
    here : (o : Option ℕ) → option_eq nat_eq o o ≡ true
    here None = refl
    here (Some p) = grind (arith, nat_tests)

-- the first name leads to the place of the column
placed : (d : Data) (name : List ℕ) (around : Option ℕ) (n : ℕ) (all : List Column) (h : Here d name around n all)
    → field_place around name all ≡ Some (length h.front)
placed d name around n all h =
    let c = one around (Some name) h.id h.type in
    let is : all ≡ h.front ++ c ∷ (h.ins ++ h.rest) =
    h.all_is ∙ ap (λ v. v ++ h.rest) h.mid_is ∙ regroup h.front c h.ins h.rest in
    ap (field_place around name) is
    ∙ is_place around name h.front c (h.ins ++ h.rest) h.clear (same_name name around)

stands : (d : Data) (name : List ℕ) (around : Option ℕ) (n : ℕ) (all : List Column) (h : Here d name around n all)
    → slice_get all (length h.front) ≡ Some (one around (Some name) h.id h.type)
stands d name around n all h =
    let c = one around (Some name) h.id h.type in
    let is : all ≡ h.front ++ c ∷ (h.ins ++ h.rest) =
    h.all_is ∙ ap (λ v. v ++ h.rest) h.mid_is ∙ regroup h.front c h.ins h.rest in
    ap (λ v. slice_get v (length h.front)) is ∙ at_place h.front c (h.ins ++ h.rest)

-- where what is added has no field in the column, it has none at all
none_in : (d : Data) (name : List ℕ) (around : Option ℕ) (n : ℕ) (all : List Column) (h : Here d name around n all)
    (next : List ℕ) → Clear (Some (length h.front)) next h.ins → field_place (Some (length h.front)) next all ≡ None
none_in d name around n all h next clear =
    let at = length h.front in
    let c = one around (Some name) h.id h.type in
    let is : all ≡ h.front ++ c ∷ (h.ins ++ h.rest) =
    h.all_is ∙ ap (λ v. v ++ h.rest) h.mid_is ∙ regroup h.front c h.ins h.rest in
    let fits : up around ≤ at = h.fits in
    let P : List Column → Type 0 = λ v. Clear (Some at) next v in
    nowhere (Some at) next 0 all (subst P (sym is) (each_both (λ x. is_field (Some at) next x ≡ false) h.front
    (c ∷ (h.ins ++ h.rest)) (low_clear at next h.front h.low) (
      elsewhere (Some at) next c (λ k. absurd (omega arith)),
      each_both (λ x. is_field (Some at) next x ≡ false) h.ins h.rest clear
          (outside_clear (Some at) (suc at) (length h.mid) next h.rest h.outside),
    )))

-- nothing is found where the column has no field
none_agrees : (d : Data) (name : List ℕ) (around : Option ℕ) (n : ℕ) (all : List Column) (h : Here d name around n all)
    (next : List ℕ) (names : List (List ℕ)) → Clear (Some (length h.front)) next h.ins → (IsStruct h.whole → ⊥)
    → Agrees (found_from all around (name ∷ next ∷ names)) d (name ∷ next ∷ names)
none_agrees d name around n all h next names clear other =
    rw (placed d name around n all h, none_in d name around n all h next clear) (λ field l.
    let outer : l.0 ≡ h.field = first_once d name l.0 h.field l.2 h.is_first in
    let e : get (codes "type") l.0 ≡ get (codes "type") h.field = ap (get (codes "type")) outer in
    let f : Some l.1 ≡ Some h.whole = sym l.3 ∙ e ∙ h.is_type in
    let inner : l.1 ≡ h.whole = cc in
    let P : Data → Type 0 = λ v. IsStruct v in
    other (subst P inner l.4))

-- what is found within the struct is found
lifts : (d : Data) (name : List ℕ) (around : Option ℕ) (n : ℕ) (all : List Column) (h : Here d name around n all)
    (next : List ℕ) (names : List (List ℕ)) → IsStruct h.whole → (o : Option Column) → Agrees o h.whole (next ∷ names)
    → Agrees o d (name ∷ next ∷ names)
lifts d name around n all h next names struct None a = λ field l.
    let outer : l.0 ≡ h.field = first_once d name l.0 h.field l.2 h.is_first in
    let e : get (codes "type") l.0 ≡ get (codes "type") h.field = ap (get (codes "type")) outer in
    let f : Some l.1 ≡ Some h.whole = sym l.3 ∙ e ∙ h.is_type in
    let inner : l.1 ≡ h.whole = cc in
    let P : Data → Type 0 = λ v. LeadsTo v (next ∷ names) field in
    a field (subst P inner l.5)
lifts d name around n all h next names struct (Some column) a =
    (a.0, (h.field, h.whole, h.is_first, h.is_type, struct, a.1), a.2)

some_agrees : (d : Data) (name : List ℕ) (around : Option ℕ) (n : ℕ) (all : List Column) (h : Here d name around n all)
    → Agrees (found_from all around (name ∷ [])) d (name ∷ [])
some_agrees d name around n all h =
    rw (placed d name around n all h, stands d name around n all h)
    (h.field, h.is_first, (h.has_id, type_there h.field h.whole h.type h.is_type h.has_type))

-- ---- the first field, from reading

-- what a type adds behind its own column
within_ins : (n : ℕ) (around : Option ℕ) (type : Option ColumnType) (whole : Data) (front mid : List Column)
    (c : Column)
    → within (inside n) type (length front) whole (front ++ c ∷ []) ≡ Ok mid
    → (ins : List Column) × (mid ≡ (front ++ c ∷ []) ++ ins)
within_ins n around (Some t) whole front mid c e =
    let is : front ++ c ∷ [] ≡ mid = cc in
    ([], sym is ∙ sym (append-nil (front ++ c ∷ [])))
within_ins n around None whole front mid c e =
    let lt : length front < length (front ++ c ∷ []) = simp length-append (omega arith) in
    let g = inside_grows n (length front) whole (front ++ c ∷ []) mid lt e in
    (g.more, g.is)

here_from : (d : Data) (name : List ℕ) (around : Option ℕ) (n : ℕ) (cs out back all : List Column) (fields : Items)
    → get (codes "fields") d ≡ Some (json.array fields) → up around ≤ length cs
    → First (inside n) around name fields cs out → all ≡ out ++ back
    → Each (Outside around (length cs) (length out)) back → Here d name around n all
here_from d name around n cs out back all fields are fits f is outside =
    let r = f.is_read in
    let at = length f.front in
    let starts : length cs ≤ at = f.starts in
    let c = one around (Some r.name) r.id r.adds.type in
    let named : get (codes "name") f.field ≡ Some (json.string name) =
    text_there member.Name f.field r.name r.named ∙ ap (λ s. Some (json.string s)) f.same in
    let g = within_ins n around r.adds.type r.adds.whole f.front f.mid c r.adds.inner in
    let P : List ℕ → Type 0 =
    λ s. within (inside n) r.adds.type at r.adds.whole (f.front ++ one around (Some s) r.id r.adds.type ∷ [])
    ≡ Ok f.mid in
    let Q : List ℕ → Type 0 = λ s. f.mid ≡ (f.front ++ one around (Some s) r.id r.adds.type ∷ []) ++ g.0 in
    let le : at < length f.mid = omega (arith, simp length-append at (ap length g.1)) in
    let end : length f.mid ≤ length out = omega (arith, simp length-append at (ap length f.is)) in
    record {
      field = f.field;
      whole = r.adds.whole;
      id = r.id;
      type = r.adds.type;
      front = f.front;
      mid = f.mid;
      ins = g.0;
      rest = f.back ++ back;
      is_first = (fields, f.place, are, f.at, named, f.before);
      is_type = asked_is (Missing member.Type) (get (codes "type") f.field) r.adds.whole r.adds.is_there;
      has_id = id_there f.field r.id r.of_id;
      has_type = r.adds.typed;
      inner = subst P f.same r.adds.inner;
      mid_is = subst Q f.same g.1;
      all_is = is ∙ ap (λ v. v ++ back) f.is ∙ append_assoc f.mid f.back back;
      fits = omega arith;
      low = f.low;
      clear = f.clear;
      outside = each_both (Outside (Some at) (suc at) (length f.mid)) f.back back
          (each_as (Under around (length f.mid) (length out)) (Outside (Some at) (suc at) (length f.mid))
          (λ x u. back_outside around at (length f.mid) (length out) x (omega arith) le u) f.back f.under)
          (each_as (Outside around (length cs) (length out)) (Outside (Some at) (suc at) (length f.mid))
          (λ x o. rest_outside around (length cs) at (length f.mid) (length out) x starts le end o) back outside);
    }

-- ---- one name after the other

single : (whole : Data) (t : ColumnType) → type_in member.Type whole ≡ Ok (Some t) → IsStruct whole → ⊥
single json.null t e struct = absurd cc
single (json.boolean b) t e struct = absurd cc
single (json.number n) t e struct = absurd cc
single (json.string s) t e struct = absurd cc
single (json.array ds) t e struct = absurd cc
single (json.object ms) t e struct = absurd cc

other_kind : (whole : Data) (s other : List ℕ) → text_in member.Type whole ≡ Ok s → s ≡ other
    → bytes_eq other (codes "struct") ≡ false → IsStruct whole → ⊥
other_kind whole s other e is differs struct =
    let t = text_there member.Type whole s e in
    let same : s ≡ codes "struct" = cc in
    let b = (bytes_eq-Decides other (codes "struct")).1 (sym is ∙ same) in
    absurd cc

free_clear : (at : ℕ) (next : List ℕ) (cs mid ins : List Column) → Free at next cs mid → mid ≡ cs ++ ins
    → Clear (Some at) next ins
free_clear at next cs mid ins f is =
    let same : f.more ≡ ins = append_cancel_left cs f.more ins (sym f.is ∙ is) in
    let P : List Column → Type 0 = λ v. Clear (Some at) next v in
    subst P same f.free

-- what is read of a struct leads on
abbrev LeadsOn : (n : ℕ) (at : ℕ) (whole : Data) (cs mid all : List Column) (next : List ℕ) (names : List (List ℕ))
    → Type 0
LeadsOn n at whole cs mid all next names = (m : ℕ) → fields_at (inside m) (Some at) whole cs ≡ Ok mid
    → Agrees (found_from all (Some at) (next ∷ names)) whole (next ∷ names)

of_kind : (d : Data) (name : List ℕ) (around : Option ℕ) (n m : ℕ) (all : List Column) (h : Here d name around n all)
    (next : List ℕ) (names : List (List ℕ)) (s : List ℕ) → text_in member.Type h.whole ≡ Ok s
    → Kinds (inside m) s (length h.front) h.whole (h.front ++ one around (Some name) h.id h.type ∷ []) h.mid
    → LeadsOn n (length h.front) h.whole (h.front ++ one around (Some name) h.id h.type ∷ []) h.mid all next names
    → Agrees (found_from all around (name ∷ next ∷ names)) d (name ∷ next ∷ names)
of_kind d name around n m all h next names s is (inl k) on =
    rw (placed d name around n all h) (lifts d name around n all h next names
    (text_there member.Type h.whole s is ∙ ap (λ v. Some (json.string v)) k.0)
    (found_from all (Some (length h.front)) (next ∷ names)) (on m k.1))
of_kind d name around n m all h next names s is (inr (inl k)) on =
    let cs = h.front ++ one around (Some name) h.id h.type ∷ [] in
    let lt : length h.front < length cs = simp length-append (omega arith) in
    let f = list_free (inside m) (length h.front) next h.whole cs h.mid (inside_grows m) lt k.1 in
    none_agrees d name around n all h next names (free_clear (length h.front) next cs h.mid h.ins f h.mid_is)
    (other_kind h.whole s (codes "list") is k.0 refl)
of_kind d name around n m all h next names s is (inr (inr k)) on =
    let cs = h.front ++ one around (Some name) h.id h.type ∷ [] in
    let lt : length h.front < length cs = simp length-append (omega arith) in
    let f = map_free (inside m) (length h.front) next h.whole cs h.mid (inside_grows m) lt k.1 in
    none_agrees d name around n all h next names (free_clear (length h.front) next cs h.mid h.ins f h.mid_is)
    (other_kind h.whole s (codes "map") is k.0 refl)

of_type : (d : Data) (name : List ℕ) (around : Option ℕ) (n : ℕ) (all : List Column) (h : Here d name around n all)
    (next : List ℕ) (names : List (List ℕ)) (type : Option ColumnType) → type_in member.Type h.whole ≡ Ok type
    → within (inside n) type (length h.front) h.whole (h.front ++ one around (Some name) h.id h.type ∷ []) ≡ Ok h.mid
    → LeadsOn n (length h.front) h.whole (h.front ++ one around (Some name) h.id h.type ∷ []) h.mid all next names
    → Agrees (found_from all around (name ∷ next ∷ names)) d (name ∷ next ∷ names)
of_type d name around n all h next names (Some t) e inner on =
    let cs = h.front ++ one around (Some name) h.id h.type ∷ [] in
    let is : cs ≡ h.mid = cc in
    let f : Free (length h.front) next cs h.mid = record { more = []; is = sym is ∙ sym (append-nil cs); free = tt } in
    none_agrees d name around n all h next names (free_clear (length h.front) next cs h.mid h.ins f h.mid_is)
    (single h.whole t e)
of_type d name around n all h next names None e inner on =
    let cs = h.front ++ one around (Some name) h.id h.type ∷ [] in
    let l = one_level n (length h.front) h.whole cs h.mid inner in
    let t = type_so (inside l.0) (length h.front) h.whole cs h.mid l.2 in
    of_kind d name around n l.0 all h next names t.kind t.is t.kinds on

none_there : (names : List (List ℕ)) (d : Data) (name : List ℕ) (around : Option ℕ) (cs out back all : List Column)
    (fields : Items) → get (codes "fields") d ≡ Some (json.array fields) → Lacking around name fields out
    → all ≡ out ++ back → Each (Outside around (length cs) (length out)) back
    → Agrees (found_from all around (name ∷ names)) d (name ∷ names)
none_there names d name around cs out back all fields are l is outside =
    let P : List Column → Type 0 = λ v. Clear around name v in
    let all_clear = subst P (sym is) (each_both (λ c. is_field around name c ≡ false) out back l.clear
    (outside_clear around (length cs) (length out) name back outside)) in
    rw (nowhere around name 0 all all_clear) (no_first names name d (λ a x.
    let same : x.0 ≡ fields = cc in
    l.none x.1 a (ap (get_item x.1) (sym same) ∙ x.3) x.4))

-- the columns that are read of a struct, and what its names lead to
search_of : (n : ℕ) (around : Option ℕ) (name : List ℕ) (d : Data) (cs out back all : List Column)
    → up around ≤ length cs → Each (Low (length cs)) cs → Clear around name cs
    → fields_at (inside n) around d cs ≡ Ok out → all ≡ out ++ back
    → Each (Outside around (length cs) (length out)) back → (names : List (List ℕ))
    → Here d name around n all ⊎ Agrees (found_from all around (name ∷ names)) d (name ∷ names)
search_of n around name d cs out back all fits low clear e is outside names =
    let r = fields_so (inside n) around d cs out e in
    let are = objects_there member.Fields d r.fields r.are in
    elim (search_for (inside n) around name r.fields cs out (inside_grows n) fits low clear r.read_so)
    as (λ _. Here d name around n all ⊎ Agrees (found_from all around (name ∷ names)) d (name ∷ names)) [
      | inl f ↦ inl (here_from d name around n cs out back all r.fields are fits f is outside)
      | inr l ↦ inr (none_there names d name around cs out back all r.fields are l is outside)
    ]

-- what a struct's columns stand in is not the struct that comes behind them
aside : (around : Option ℕ) (cs : List Column) (name : List ℕ) → Each (λ c. up c.around ≢ up around) cs
    → Clear around name cs
aside around cs name all = each_as (λ c. up c.around ≢ up around) (λ c. is_field around name c ≡ false)
    (λ c ne. elsewhere around name c ne) cs all

lead : (names : List (List ℕ)) (name : List ℕ) (n : ℕ) (around : Option ℕ) (d : Data) (cs out back all : List Column)
    → up around ≤ length cs → Each (Low (length cs)) cs → Each (λ c. up c.around ≢ up around) cs
    → fields_at (inside n) around d cs ≡ Ok out → all ≡ out ++ back
    → Each (Outside around (length cs) (length out)) back
    → Agrees (found_from all around (name ∷ names)) d (name ∷ names)
lead [] name n around d cs out back all fits low own e is outside =
    elim (search_of n around name d cs out back all fits low (aside around cs name own) e is outside [])
    as (λ _. Agrees (found_from all around (name ∷ [])) d (name ∷ []))
    [ inl h ↦ some_agrees d name around n all h | inr a ↦ a ]
lead (next ∷ names) name n around d cs out back all fits low own e is outside =
    elim (search_of n around name d cs out back all fits low (aside around cs name own) e is outside (next ∷ names))
    as (λ _. Agrees (found_from all around (name ∷ next ∷ names)) d (name ∷ next ∷ names)) [
      | inl h ↦
          let at = length h.front in
          let c = one around (Some name) h.id h.type in
          let more : suc at ≤ length (h.front ++ c ∷ []) = simp length-append (omega arith) in
          let high : at ≤ length (h.front ++ c ∷ []) = omega arith in
          let below : up around ≤ at = h.fits in
          let size : length (h.front ++ c ∷ []) ≡ suc at = simp length-append (omega arith) in
          let P : ℕ → Type 0 = λ k. Each (Outside (Some at) k (length h.mid)) h.rest in
          of_type d name around n all h next names h.type h.has_type h.inner (λ m f.
          lead names next m (Some at) h.whole (h.front ++ c ∷ []) h.mid h.rest all more
          (each_both (Low (length (h.front ++ c ∷ []))) h.front (c ∷ [])
          (each_as (Low at) (Low (length (h.front ++ c ∷ []))) (λ x l. omega (arith, l, high)) h.front h.low)
          (omega arith, tt))
          (each_both (λ x. up x.around ≢ suc at) h.front (c ∷ [])
          (each_as (Low at) (λ x. up x.around ≢ suc at) (λ x l k. absurd (omega (arith, l, k))) h.front h.low)
          ((λ k. absurd (omega arith)), tt))
          f h.all_is (subst P (sym size) h.outside))
      | inr a ↦ a
    ]

-- ---- a schema

from_once : (o : Option ℤ) (cs ds : List Column) → or_twice o cs ≡ Ok ds → cs ≡ ds
from_once None cs ds e = cc
from_once (Some id) cs ds e = absurd cc

pub record SchemaRead (d : Data) (schema : Schema) : Type 0 where
  pub of_id : int_in member.SchemaId d ≡ Ok schema.id
  pub columns : fields_at (inside most_levels) None d [] ≡ Ok schema.columns

-- the end of a schema: its columns have different ids
schema_end : (d : Data) (schema : Schema) (id : ℤ) (columns different : List Column) → int_in member.SchemaId d ≡ Ok id
    → fields_at (inside most_levels) None d [] ≡ Ok columns → columns ≡ different
    → record { id = id; columns = different } ≡ schema → SchemaRead d schema
schema_end d schema id columns different of_id read same made = record {
  of_id = of_id ∙ ap Ok (ap (λ (s : Schema). s.id) made);
  columns = read ∙ ap Ok (same ∙ ap (λ (s : Schema). s.columns) made);
}

ok_is : (x y : Schema) → (let one : Result Schema MetaFault = Ok x in one ≡ Ok y) → x ≡ y
ok_is x y e = cc

pub schema_so : (d : Data) (schema : Schema) → schema_of d ≡ Ok schema → SchemaRead d schema
unfolding schema_of
schema_so d schema e =
    take _ (text_in member.Type d) _ schema e (λ type was_type e1. take _ (if_struct type) _ schema e1
    (λ struct was_struct e2. take _ (int_in member.SchemaId d) _ schema e2 (λ id was_id e3. take _
    (fields_at (inside most_levels) None d []) _ schema e3 (λ columns were_columns e4. take _ (once column_id columns) _
    schema e4 (λ different were_different e5. schema_end d schema id columns different was_id were_columns
    (from_once (again (map column_id columns)) columns different were_different) (ok_is _ schema e5))))))

pub agrees : (d : Data) (schema : Schema) (names : List (List ℕ)) → schema_of d ≡ Ok schema
    → Agrees (column_on names schema) d names
agrees d schema [] e = λ field l. l
agrees d schema (name ∷ names) e =
    let r = schema_so d schema e in
    lead names name most_levels None d [] schema.columns [] schema.columns (omega arith) tt tt r.columns
    (sym (append-nil schema.columns)) tt

-- ---- the laws

same_number : (field : Data) (y z : ℤ) → HasId field y → HasId field z → y ≡ z
same_number field y z a b =
    let same : a.0 ≡ b.0 = cc in
    let e : as_integer a.0 ≡ as_integer b.0 = ap as_integer same in
    cc

same_type : (field : Data) (t u : Option ColumnType) → HasType field t → HasType field u → t ≡ u
same_type field None None a b = refl
same_type field None (Some u) a b = absurd cc
same_type field (Some t) None a b = absurd cc
same_type field (Some t) (Some u) a b =
    let same : a.0 ≡ b.0 = cc in
    let e : primitive a.0 ≡ primitive b.0 = ap primitive same in
    cc

-- a field with an id and a type, to which the names lead
abbrev Field : Data → List (List ℕ) → ℤ → Option ColumnType → Type 0
Field d names id type = (field : Data) × LeadsTo d names field × HasId field id × HasType field type

abbrev Finding : Option Column → ℤ → Option ColumnType → Type 0
Finding o id type = (column : Column) × (o ≡ Some column) × (column.id ≡ id) × (column.column_type ≡ type)

to_field : (d : Data) (names : List (List ℕ)) (o : Option Column) (id : ℤ) (type : Option ColumnType) → Agrees o d names
    → Finding o id type → Field d names id type
to_field d names None id type a f = absurd (let e = f.1 in cc)
to_field d names (Some column) id type a f =
    let same : column ≡ f.0 = cc in
    let P : ℤ → Type 0 = λ i. HasId a.0 i in
    let Q : Option ColumnType → Type 0 = λ t. HasType a.0 t in (
      a.0,
      a.1,
      subst P (ap (λ (c : Column). c.id) same ∙ f.2) a.2.0,
      subst Q (ap (λ (c : Column). c.column_type) same ∙ f.3) a.2.1,
    )

to_column : (d : Data) (names : List (List ℕ)) (o : Option Column) (id : ℤ) (type : Option ColumnType)
    → Agrees o d names
    → Field d names id type → Finding o id type
to_column d names None id type a f = absurd (a f.0 f.1)
to_column d names (Some column) id type a f =
    let same : a.0 ≡ f.0 = leads_once names d a.0 f.0 a.1 f.1 in
    let P : Data → Type 0 = λ v. HasId v column.id in
    let Q : Data → Type 0 = λ v. HasType v column.column_type in (
      column,
      refl,
      same_number f.0 column.id id (subst P same a.2.0) f.2,
      same_type f.0 column.column_type type (subst Q same a.2.1) f.3,
    )

pub finds_the_field : FindsTheField
finds_the_field d schema names id type e = (
  to_field d names (column_on names schema) id type (agrees d schema names e),
  to_column d names (column_on names schema) id type (agrees d schema names e),
)

to_nowhere : (d : Data) (names : List (List ℕ)) (o : Option Column) → Agrees o d names → o ≡ None → (field : Data)
    → LeadsTo d names field → ⊥
to_nowhere d names None a e = a
to_nowhere d names (Some column) a e = absurd cc

to_none : (d : Data) (names : List (List ℕ)) (o : Option Column) → Agrees o d names
    → ((field : Data) → LeadsTo d names field → ⊥) → o ≡ None
to_none d names None a none = refl
to_none d names (Some column) a none = absurd (none a.0 a.1)

pub finds_no_other : FindsNoOther
finds_no_other d schema names e = (
  to_nowhere d names (column_on names schema) (agrees d schema names e),
  to_none d names (column_on names schema) (agrees d schema names e),
)
