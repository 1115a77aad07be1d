-- What the JSON of a type adds to the columns: each new column stands in the one that the type is of, or in a new one.
use Rattle.std.proofs.Common.{◌≡◌, ◌≢◌, ◌⊎◌, inl, inr, ℕ, zero, suc, ◌<◌, ◌≤◌, Bool, true, false, ◌&&◌, cond, List, []}
use Rattle.std.proofs.Common.{◌∷◌, ◌++◌, length, Option, None, Some, Result, Ok, Err, refl, sym, ap, ◌∙◌, arith, codes}
use Rattle.std.proofs.Common.{append_assoc, append-nil, length-append, bytes_eq, subst}
use Rattle.std.proofs.lemmas.Slice.Eq.{bytes_eq-Decides}
use Rattle.std.specs.Prelude.{ℤ, nat_eq}
use Rattle.std.specs.List.{AllByRecursion}
use Rattle.std.specs.Option.{option_eq}
use Rattle.std.proofs.lemmas.Bool.Decides.{nat_tests}
use Rattle.contract_words.specs.Outcome.{◌>>=◌}
use Rattle.serde_json.specs.Data as json
use Rattle.serde_json.specs.Data.{Data, Items}
use Rattle.ice_value.specs.declared.column_type.ColumnType.{ColumnType}
use Rattle.ice_meta.specs.declared.fault.Member.{Member}
use Rattle.ice_meta.specs.declared.fault.Member.TheVariants as member
use Rattle.ice_meta.specs.declared.fault.MetaFault.{MetaFault}
use Rattle.ice_meta.specs.declared.fault.MetaFault.TheVariants.{UnknownType}
use Rattle.ice_meta.specs.declared.schema.Column.{Column}
use Rattle.ice_meta.specs.Columns.{is_name, is_field}
use Rattle.ice_meta.specs.Members.{there, int_in, text_in, flag_in, objects_in}
use Rattle.ice_meta.specs.Reading.{each_into}
use Rattle.ice_meta.specs.Schemas.{Reader, type_in, within, added, field_at, fields_at, list_at, map_at, of_name}
use Rattle.ice_meta.specs.Schemas.{object_at, inside}

-- ---- reading from left to right

-- the first gave this, and what followed gave the outcome
pub record Went {A B E : Type 0} (r : Result A E) (f : A → Result B E) (y : B) : Type 0 where
  pub first : A
  pub gave : r ≡ Ok first
  pub next : f first ≡ Ok y

pub went : {A B E : Type 0} (r : Result A E) (f : A → Result B E) (y : B) → (r >>= f) ≡ Ok y → Went r f y
went (Ok x) f y e = record { first = x; gave = refl; next = e }
went (Err g) f y e = absurd cc

-- the same, for what follows from it
pub take : {A B E : Type 0} (G : Type 0) (r : Result A E) (f : A → Result B E) (y : B) → (r >>= f) ≡ Ok y
    → ((x : A) → r ≡ Ok x → f x ≡ Ok y → G) → G
take G (Ok x) f y e h = h x refl e
take G (Err g) f y e h = absurd cc

-- ---- columns

abbrev pub Each : (Column → Type 0) → List Column → Type 0
Each P cs = AllByRecursion P cs

pub each_as : (P Q : Column → Type 0) → ((c : Column) → P c → Q c) → (cs : List Column) → Each P cs → Each Q cs
each_as P Q f [] all = tt
each_as P Q f (c ∷ cs) all = (f c all.0, each_as P Q f cs all.1)

pub each_both : (P : Column → Type 0) (cs ds : List Column) → Each P cs → Each P ds → Each P (cs ++ ds)
each_both P [] ds p q = q
each_both P (c ∷ cs) ds p q = (p.0, each_both P cs ds p.1 q)

-- 0 for the row, and one more than its place for a column
abbrev pub up : Option ℕ → ℕ
up None = 0
up (Some place) = suc place

-- it stands in this one, or in one of the places from low up to high
abbrev pub Under : Option ℕ → ℕ → ℕ → Column → Type 0
Under around low high c = (up c.around ≡ up around) ⊎ ((low < up c.around) × (up c.around ≤ high))

pub widen : (a : Option ℕ) (low high lower higher : ℕ) (c : Column) → lower ≤ low → high ≤ higher → Under a low high c
    → Under a lower higher c
widen a low high lower higher c p q (inl e) = inl e
widen a low high lower higher c p q (inr u) = inr (omega arith, omega arith)

-- what stands in the column at a place is among those from this place on
further : (a : Option ℕ) (at low high : ℕ) (c : Column) → at < low → at < high → Under (Some at) low high c
    → Under a at high c
further a at low high c p q (inl e) = inr (omega arith, omega arith)
further a at low high c p q (inr u) = inr (omega arith, omega arith)

apart : (a b : Option ℕ) → up a ≢ up b → option_eq nat_eq a b ≡ false
apart None None ne = absurd (ne refl)
apart None (Some q) ne = refl
apart (Some p) None ne = refl
apart (Some p) (Some q) ne = grind (arith, nat_tests)

and_false : (a b : Bool) → b ≡ false → (a && b) ≡ false
and_false true b e = e
and_false false b e = refl

-- a column that stands elsewhere is no field of this one
pub elsewhere : (around : Option ℕ) (name : List ℕ) (c : Column) → up c.around ≢ up around
    → is_field around name c ≡ false
elsewhere around name c ne =
    and_false (is_name name c.name) (option_eq nat_eq c.around around) (apart c.around around ne)

-- ---- what is added

pub record Grew (around : Option ℕ) (cs out : List Column) : Type 0 where
  pub more : List Column
  pub is : out ≡ cs ++ more
  pub under : Each (Under around (length cs) (length out)) more

pub longer : (around : Option ℕ) (cs out : List Column) → Grew around cs out → length cs ≤ length out
longer around cs out g = omega (arith, simp length-append at (ap length g.is))

grew_none : (around : Option ℕ) (cs : List Column) → Grew around cs cs
grew_none around cs = record { more = []; is = sym (append-nil cs); under = tt }

grew_then : (around : Option ℕ) (cs mid out : List Column) → Grew around cs mid → Grew around mid out
    → Grew around cs out
grew_then around cs mid out g h =
    let p : length cs ≤ length mid = longer around cs mid g in
    let q : length mid ≤ length out = longer around mid out h in
    let nil : length cs ≤ length cs = omega arith in
    let end : length out ≤ length out = omega arith in
    record {
      more = g.more ++ h.more;
      is = h.is ∙ ap (λ v. v ++ h.more) g.is ∙ append_assoc cs g.more h.more;
      under = each_both (Under around (length cs) (length out)) g.more h.more
          (each_as (Under around (length cs) (length mid)) (Under around (length cs) (length out))
          (λ c u. widen around (length cs) (length mid) (length cs) (length out) c nil q u) g.more g.under)
          (each_as (Under around (length mid) (length out)) (Under around (length cs) (length out))
          (λ c u. widen around (length mid) (length out) (length cs) (length out) c p end u) h.more h.under);
    }

-- what a reader of types does
abbrev pub Grows : Reader → Type 0
Grows read = (at : ℕ) (d : Data) (cs out : List Column) → at < length cs → read at d cs ≡ Ok out
    → Grew (Some at) cs out

abbrev pub one : Option ℕ → Option (List ℕ) → ℤ → Option ColumnType → Column
one around name id type = record { id = id; around = around; name = name; column_type = type }

more_than : (cs : List Column) (c : Column) → length cs < length (cs ++ c ∷ [])
more_than cs c = simp length-append (omega arith)

within_grows : (read : Reader) (around : Option ℕ) (type : Option ColumnType) (whole : Data) (cs out : List Column)
    (c : Column) → Grows read → c.around ≡ around
    → within read type (length cs) whole (cs ++ c ∷ []) ≡ Ok out → Grew around cs out
within_grows read around (Some t) whole cs out c grows same e =
    let is : cs ++ c ∷ [] ≡ out = cc in
    record { more = c ∷ []; is = sym is; under = (inl (ap up same), tt) }
within_grows read around None whole cs out c grows same e =
    let g = grows (length cs) whole (cs ++ c ∷ []) out (more_than cs c) e in
    let low : length cs < length (cs ++ c ∷ []) = more_than cs c in
    let high : length (cs ++ c ∷ []) ≤ length out = longer (Some (length cs)) (cs ++ c ∷ []) out g in
    let top : length cs < length out = omega arith in
    record {
      more = c ∷ g.more;
      is = g.is ∙ append_assoc cs (c ∷ []) g.more;
      under = (
        inl (ap up same),
        each_as (Under (Some (length cs)) (length (cs ++ c ∷ [])) (length out))
            (Under around (length cs) (length out))
            (λ x u. further around (length cs) (length (cs ++ c ∷ [])) (length out) x low top u) g.more g.under,
      );
    }

-- how a column is added
pub record Added (read : Reader) (around : Option ℕ) (name : Option (List ℕ)) (id : ℤ) (m : Member) (d : Data)
    (cs out : List Column) : Type 0 where
  pub whole : Data
  pub type : Option ColumnType
  pub is_there : there m d ≡ Ok whole
  pub typed : type_in m whole ≡ Ok type
  pub inner : within read type (length cs) whole (cs ++ one around name id type ∷ []) ≡ Ok out

pub added_so : (read : Reader) (around : Option ℕ) (name : Option (List ℕ)) (id : ℤ) (m : Member) (d : Data)
    (cs out : List Column) → added read around name id m d cs ≡ Ok out → Added read around name id m d cs out
unfolding added
added_so read around name id m d cs out e =
    let rest : Data → Option ColumnType → Result (List Column) MetaFault =
    λ whole type. within read type (length cs) whole (cs ++ one around name id type ∷ []) in
    let a = went (there m d) (λ whole. type_in m whole >>= λ type. rest whole type) out e in
    let b = went (type_in m a.first) (λ type. rest a.first type) out a.next in
    record { whole = a.first; type = b.first; is_there = a.gave; typed = b.gave; inner = b.next }

added_grows : (read : Reader) (around : Option ℕ) (name : Option (List ℕ)) (id : ℤ) (m : Member) (d : Data)
    (cs out : List Column) → Grows read → added read around name id m d cs ≡ Ok out → Grew around cs out
added_grows read around name id m d cs out grows e =
    let a = added_so read around name id m d cs out e in
    within_grows read around a.type a.whole cs out (one around name id a.type) grows refl a.inner

-- how a field is read
pub record FieldRead (read : Reader) (around : Option ℕ) (d : Data) (cs out : List Column) : Type 0 where
  pub id : ℤ
  pub name : List ℕ
  pub of_id : int_in member.Id d ≡ Ok id
  pub named : text_in member.Name d ≡ Ok name
  pub adds : Added read around (Some name) id member.Type d cs out

pub field_so : (read : Reader) (around : Option ℕ) (d : Data) (cs out : List Column)
    → field_at read around d cs ≡ Ok out → FieldRead read around d cs out
unfolding field_at
field_so read around d cs out e =
    let a = went (int_in member.Id d) (λ id. text_in member.Name d >>= λ name. flag_in member.Required d
    >>= λ required. added read around (Some name) id member.Type d cs) out e in
    let b = went (text_in member.Name d) (λ name. flag_in member.Required d
    >>= λ required. added read around (Some name) a.first member.Type d cs) out a.next in
    let c = went (flag_in member.Required d) (λ required. added read around (Some b.first) a.first member.Type d cs) out
    b.next in
    record {
      id = a.first;
      name = b.first;
      of_id = a.gave;
      named = b.gave;
      adds = added_so read around (Some b.first) a.first member.Type d cs out c.next;
    }

pub field_grows : (read : Reader) (around : Option ℕ) (d : Data) (cs out : List Column) → Grows read
    → field_at read around d cs ≡ Ok out → Grew around cs out
field_grows read around d cs out grows e =
    let f = field_so read around d cs out e in
    within_grows read around f.adds.type f.adds.whole cs out (one around (Some f.name) f.id f.adds.type) grows refl
    f.adds.inner

pub each_grows : (read : Reader) (around : Option ℕ) (ds : Items) (cs out : List Column) → Grows read
    → each_into (field_at read around) ds cs ≡ Ok out → Grew around cs out
each_grows read around json.no_items cs out grows e =
    let is : cs ≡ out = cc in
    record { more = []; is = sym is ∙ sym (append-nil cs); under = tt }
each_grows read around (json.item d ds) cs out grows e =
    let a = went (field_at read around d cs) (each_into (field_at read around) ds) out e in
    grew_then around cs a.first out (field_grows read around d cs a.first grows a.gave)
    (each_grows read around ds a.first out grows a.next)

pub record FieldsRead (read : Reader) (around : Option ℕ) (d : Data) (cs out : List Column) : Type 0 where
  pub fields : Items
  pub are : objects_in member.Fields d ≡ Ok fields
  pub read_so : each_into (field_at read around) fields cs ≡ Ok out

pub fields_so : (read : Reader) (around : Option ℕ) (d : Data) (cs out : List Column)
    → fields_at read around d cs ≡ Ok out → FieldsRead read around d cs out
unfolding fields_at
fields_so read around d cs out e =
    let a = went (objects_in member.Fields d) (λ items. each_into (field_at read around) items cs) out e in
    record { fields = a.first; are = a.gave; read_so = a.next }

fields_grow : (read : Reader) (around : Option ℕ) (d : Data) (cs out : List Column) → Grows read
    → fields_at read around d cs ≡ Ok out → Grew around cs out
fields_grow read around d cs out grows e =
    let a = fields_so read around d cs out e in
    each_grows read around a.fields cs out grows a.read_so

list_grows : (read : Reader) (at : ℕ) (d : Data) (cs out : List Column) → Grows read
    → list_at read at d cs ≡ Ok out → Grew (Some at) cs out
unfolding list_at
list_grows read at d cs out grows e =
    let a = went (int_in member.ElementId d) (λ id. added read (Some at) None id member.Element d cs) out e in
    added_grows read (Some at) None a.first member.Element d cs out grows a.next

-- how a map is read
record MapRead (read : Reader) (at : ℕ) (d : Data) (cs out : List Column) : Type 0 where
  key : ℤ
  value : ℤ
  mid : List Column
  before : added read (Some at) None key member.Key d cs ≡ Ok mid
  after : added read (Some at) None value member.Value d mid ≡ Ok out

map_so : (read : Reader) (at : ℕ) (d : Data) (cs out : List Column) → map_at read at d cs ≡ Ok out
    → MapRead read at d cs out
unfolding map_at
map_so read at d cs out e =
    let a = went (int_in member.KeyId d) (λ key. added read (Some at) None key member.Key d cs >>= λ mid.
    int_in member.ValueId d >>= λ value. added read (Some at) None value member.Value d mid) out e in
    let b = went (added read (Some at) None a.first member.Key d cs) (λ mid. int_in member.ValueId d >>= λ value.
    added read (Some at) None value member.Value d mid) out a.next in
    let c = went (int_in member.ValueId d) (λ value. added read (Some at) None value member.Value d b.first) out
    b.next in
    record { key = a.first; value = c.first; mid = b.first; before = b.gave; after = c.next }

map_grows : (read : Reader) (at : ℕ) (d : Data) (cs out : List Column) → Grows read
    → map_at read at d cs ≡ Ok out → Grew (Some at) cs out
map_grows read at d cs out grows e =
    let m = map_so read at d cs out e in
    grew_then (Some at) cs m.mid out (added_grows read (Some at) None m.key member.Key d cs m.mid grows m.before)
    (added_grows read (Some at) None m.value member.Value d m.mid out grows m.after)

-- the kind of a type that has columns inside it
abbrev pub Kinds : Reader → List ℕ → ℕ → Data → List Column → List Column → Type 0
Kinds read s at d cs out = ((s ≡ codes "struct") × (fields_at read (Some at) d cs ≡ Ok out))
    ⊎ (((s ≡ codes "list") × (list_at read at d cs ≡ Ok out)) ⊎ ((s ≡ codes "map") × (map_at read at d cs ≡ Ok out)))

kind_of : (read : Reader) (s : List ℕ) (at : ℕ) (d : Data) (cs out : List Column) (a b c : Bool)
    → bytes_eq s (codes "struct") ≡ a → bytes_eq s (codes "list") ≡ b → bytes_eq s (codes "map") ≡ c
    → cond a (fields_at read (Some at) d cs) (cond b (list_at read at d cs) (cond c (map_at read at d cs)
    (Err (UnknownType s)))) ≡ Ok out → Kinds read s at d cs out
kind_of read s at d cs out true b c p q r e = inl ((bytes_eq-Decides s (codes "struct")).0 p, e)
kind_of read s at d cs out false true c p q r e = inr (inl ((bytes_eq-Decides s (codes "list")).0 q, e))
kind_of read s at d cs out false false true p q r e = inr (inr ((bytes_eq-Decides s (codes "map")).0 r, e))
kind_of read s at d cs out false false false p q r e = absurd cc

-- how a struct, a list or a map is read
pub record TypeRead (read : Reader) (at : ℕ) (d : Data) (cs out : List Column) : Type 0 where
  pub kind : List ℕ
  pub is : text_in member.Type d ≡ Ok kind
  pub kinds : Kinds read kind at d cs out

pub type_so : (read : Reader) (at : ℕ) (d : Data) (cs out : List Column) → object_at read at d cs ≡ Ok out
    → TypeRead read at d cs out
unfolding object_at
type_so read at d cs out e =
    let a = went (text_in member.Type d) (λ s. of_name read s at d cs) out e in
    record {
      kind = a.first;
      is = a.gave;
      kinds = kind_of read a.first at d cs out (bytes_eq a.first (codes "struct")) (bytes_eq a.first (codes "list"))
          (bytes_eq a.first (codes "map")) refl refl refl a.next;
    }

type_grows : (read : Reader) (at : ℕ) (d : Data) (cs out : List Column) → Grows read → (s : List ℕ)
    → Kinds read s at d cs out → Grew (Some at) cs out
type_grows read at d cs out grows s (inl k) = fields_grow read (Some at) d cs out grows k.1
type_grows read at d cs out grows s (inr (inl k)) = list_grows read at d cs out grows k.1
type_grows read at d cs out grows s (inr (inr k)) = map_grows read at d cs out grows k.1

-- a type that is read has a level at least
pub one_level : (n at : ℕ) (d : Data) (cs out : List Column) → inside n at d cs ≡ Ok out
    → (m : ℕ) × (n ≡ suc m) × (object_at (inside m) at d cs ≡ Ok out)
unfolding inside
one_level zero at d cs out e = absurd cc
one_level (suc m) at d cs out e = (m, refl, e)

pub inside_grows : (n : ℕ) → Grows (inside n)
inside_grows zero at d cs out lt e = let l = one_level zero at d cs out e in absurd (omega (arith, l.1))
inside_grows (suc n) at d cs out lt e =
    let l = one_level (suc n) at d cs out e in
    let same : l.0 ≡ n = omega (arith, l.1) in
    let P : ℕ → Type 0 = λ m. object_at (inside m) at d cs ≡ Ok out in
    let t = type_so (inside n) at d cs out (subst P same l.2) in
    type_grows (inside n) at d cs out (inside_grows n) t.kind t.kinds

-- ---- elements, keys and values have no name

-- none of what is added is a field in the column at this place
pub record Free (at : ℕ) (name : List ℕ) (cs out : List Column) : Type 0 where
  pub more : List Column
  pub is : out ≡ cs ++ more
  pub free : Each (λ c. is_field (Some at) name c ≡ false) more

free_then : (at : ℕ) (name : List ℕ) (cs mid out : List Column) → Free at name cs mid → Free at name mid out
    → Free at name cs out
free_then at name cs mid out g h = record {
  more = g.more ++ h.more;
  is = h.is ∙ ap (λ v. v ++ h.more) g.is ∙ append_assoc cs g.more h.more;
  free = each_both (λ c. is_field (Some at) name c ≡ false) g.more h.more g.free h.free;
}

later_place : (at low high : ℕ) (name : List ℕ) (c : Column) → at < low → Under (Some low) (suc low) high c
    → is_field (Some at) name c ≡ false
later_place at low high name c lt (inl e) = elsewhere (Some at) name c (λ k. absurd (omega arith))
later_place at low high name c lt (inr u) = elsewhere (Some at) name c (λ k. absurd (omega arith))

within_free : (read : Reader) (at : ℕ) (name : List ℕ) (type : Option ColumnType) (whole : Data)
    (cs out : List Column) (c : Column) → Grows read → at < length cs → c.name ≡ None
    → within read type (length cs) whole (cs ++ c ∷ []) ≡ Ok out → Free at name cs out
within_free read at name (Some t) whole cs out c grows lt bare e =
    let is : cs ++ c ∷ [] ≡ out = cc in
    record { more = c ∷ []; is = sym is; free = (rw bare refl, tt) }
within_free read at name None whole cs out c grows lt bare e =
    let g = grows (length cs) whole (cs ++ c ∷ []) out (more_than cs c) e in
    let low : suc (length cs) ≤ length (cs ++ c ∷ []) = more_than cs c in
    let end : length out ≤ length out = omega arith in
    record {
      more = c ∷ g.more;
      is = g.is ∙ append_assoc cs (c ∷ []) g.more;
      free = (
        rw bare refl,
        each_as (Under (Some (length cs)) (length (cs ++ c ∷ [])) (length out))
            (λ x. is_field (Some at) name x ≡ false)
            (λ x u. later_place at (length cs) (length out) name x lt (widen (Some (length cs)) (length (cs ++ c ∷ []))
            (length out) (suc (length cs)) (length out) x low end u)) g.more g.under,
      );
    }

added_free : (read : Reader) (at : ℕ) (name : List ℕ) (id : ℤ) (m : Member) (d : Data) (cs out : List Column)
    → Grows read → at < length cs → added read (Some at) None id m d cs ≡ Ok out → Free at name cs out
added_free read at name id m d cs out grows lt e =
    let a = added_so read (Some at) None id m d cs out e in
    within_free read at name a.type a.whole cs out (one (Some at) None id a.type) grows lt refl a.inner

pub list_free : (read : Reader) (at : ℕ) (name : List ℕ) (d : Data) (cs out : List Column) → Grows read
    → at < length cs → list_at read at d cs ≡ Ok out → Free at name cs out
unfolding list_at
list_free read at name d cs out grows lt e =
    let a = went (int_in member.ElementId d) (λ id. added read (Some at) None id member.Element d cs) out e in
    added_free read at name a.first member.Element d cs out grows lt a.next

pub map_free : (read : Reader) (at : ℕ) (name : List ℕ) (d : Data) (cs out : List Column) → Grows read
    → at < length cs → map_at read at d cs ≡ Ok out → Free at name cs out
map_free read at name d cs out grows lt e =
    let m = map_so read at d cs out e in
    let f = added_free read at name m.key member.Key d cs m.mid grows lt m.before in
    let g = added_grows read (Some at) None m.key member.Key d cs m.mid grows m.before in
    let le : length cs ≤ length m.mid = longer (Some at) cs m.mid g in
    let more : at < length m.mid = omega arith in
    free_then at name cs m.mid out f (added_free read at name m.value member.Value d m.mid out grows more m.after)
