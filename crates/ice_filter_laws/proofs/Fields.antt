-- The first field of a name in the JSON, and the column that it becomes.
use Rattle.std.proofs.Common.{◌≡◌, ◌⊎◌, inl, inr, ℕ, zero, suc, ◌+◌, ◌<◌, ◌≤◌, Bool, true, false, cond, List}
use Rattle.std.proofs.Common.{[], ◌∷◌, ◌++◌, length, Option, None, Some, Ok, refl, sym, ap, ◌∙◌, arith, codes}
use Rattle.std.proofs.Common.{length-append, bytes_eq, subst, slice_get}
use Rattle.std.specs.Prelude.{ℤ, pos, negsuc, nat_lt, ◌^◌}
use Rattle.std.proofs.lemmas.Slice.Eq.{bytes_eq-Decides}
use Rattle.serde_json.specs.Data as json
use Rattle.serde_json.specs.Data.{Data, Items, Members, Num}
use Rattle.serde_json.specs.Find.{get, get_item, as_i64, as_integer}
use Rattle.ice_value.specs.declared.column_type.ColumnType.{ColumnType}
use Rattle.ice_meta.specs.declared.fault.Member.{Member}
use Rattle.ice_meta.specs.declared.fault.Member.TheVariants as member
use Rattle.ice_meta.specs.declared.fault.MetaFault.{MetaFault}
use Rattle.ice_meta.specs.declared.fault.MetaFault.TheVariants.{UnknownType, WrongKind, Missing}
use Rattle.ice_meta.specs.declared.schema.Column.{Column}
use Rattle.ice_meta.specs.Columns.{is_field, first_place, field_place}
use Rattle.ice_meta.specs.Members.{asked, there, int_of, int_in, if_int, text_of, text_in, objects_of, objects_in}
use Rattle.ice_meta.specs.Members.{member_name, if_objects, all_objects}
use Rattle.ice_meta.specs.Reading.{each_into}
use Rattle.ice_meta.specs.Schemas.{Reader, type_in, within, field_at}
use Rattle.ice_meta.specs.Types.{primitive}
use Rattle.ice_filter_laws.specs.Columns.{IsNamed, HasId, HasType}
use Rattle.ice_filter_laws.proofs.Grown.{went, Each, each_as, each_both, up, Under, widen, elsewhere, Grew, longer, one}
use Rattle.ice_filter_laws.proofs.Grown.{Grows, each_grows, FieldRead, field_so, field_grows}

-- ---- what a member says

pub asked_is : {A : Type 0} (f : MetaFault) (o : Option A) (x : A) → asked f o ≡ Ok x → o ≡ Some x
asked_is f None x e = absurd cc
asked_is f (Some y) x e = cc

pub kept : {A : Type 0} (b : Bool) (x y : A) → cond b (Some x) None ≡ Some y → x ≡ y
kept true x y e = cc
kept false x y e = absurd cc

text_is : (m : Member) (v : Data) (s : List ℕ) → text_of m v ≡ Ok s → v ≡ json.string s
text_is m json.null s e = absurd cc
text_is m (json.boolean b) s e = absurd cc
text_is m (json.number n) s e = absurd cc
text_is m (json.string t) s e = cc
text_is m (json.array ds) s e = absurd cc
text_is m (json.object ms) s e = absurd cc

pub text_there : (m : Member) (d : Data) (s : List ℕ) → text_in m d ≡ Ok s
    → get (member_name m) d ≡ Some (json.string s)
text_there m d s e =
    let a = went (there m d) (text_of m) s e in
    asked_is (Missing m) (get (member_name m) d) a.first a.gave ∙ ap Some (text_is m a.first s a.next)

objects_are : (m : Member) (v : Data) (ds : Items) → objects_of m v ≡ Ok ds → v ≡ json.array ds
objects_are m json.null ds e = absurd cc
objects_are m (json.boolean b) ds e = absurd cc
objects_are m (json.number n) ds e = absurd cc
objects_are m (json.string t) ds e = absurd cc
objects_are m (json.array es) ds e =
    ap json.array (kept (all_objects es) es ds (asked_is (WrongKind m) (if_objects es) ds e))
objects_are m (json.object ms) ds e = absurd cc

pub objects_there : (m : Member) (d : Data) (ds : Items) → objects_in m d ≡ Ok ds
    → get (member_name m) d ≡ Some (json.array ds)
objects_there m d ds e =
    let a = went (there m d) (objects_of m) ds e in
    asked_is (Missing m) (get (member_name m) d) a.first a.gave ∙ ap Some (objects_are m a.first ds a.next)

whole_number : (n : Num) (z : ℤ) → as_i64 n ≡ Some z → as_integer n ≡ Some z
whole_number (json.unsigned n) z e = ap Some (kept (nat_lt n (2 ^ 63)) (pos n) z e)
whole_number (json.negative y) z e = e
whole_number (json.float x) z e = absurd cc

same_int : (y z : ℤ) → if_int y ≡ Some z → y ≡ z
same_int (pos n) z e = kept (nat_lt n (2 ^ 31)) (pos n) z e
same_int (negsuc n) z e = kept (nat_lt n (2 ^ 31)) (negsuc n) z e

number_is : (m : Member) (v : Data) (z : ℤ) → int_of m v ≡ Ok z
    → (n : Num) × (v ≡ json.number n) × (as_integer n ≡ Some z)
number_is m json.null z e = absurd cc
number_is m (json.boolean b) z e = absurd cc
number_is m (json.number n) z e =
    let a = went (asked (WrongKind m) (as_i64 n)) (λ y. asked (WrongKind m) (if_int y)) z e in
    let i : as_i64 n ≡ Some a.first = asked_is (WrongKind m) (as_i64 n) a.first a.gave in
    let j : a.first ≡ z = same_int a.first z (asked_is (WrongKind m) (if_int a.first) z a.next) in
    (n, refl, whole_number n z (i ∙ ap Some j))
number_is m (json.string t) z e = absurd cc
number_is m (json.array ds) z e = absurd cc
number_is m (json.object ms) z e = absurd cc

pub number_there : (m : Member) (d : Data) (z : ℤ) → int_in m d ≡ Ok z
    → (n : Num) × (get (member_name m) d ≡ Some (json.number n)) × (as_integer n ≡ Some z)
number_there m d z e =
    let a = went (there m d) (int_of m) z e in
    let n = number_is m a.first z a.next in
    (n.0, asked_is (Missing m) (get (member_name m) d) a.first a.gave ∙ ap Some n.1, n.2)

pub id_there : (d : Data) (id : ℤ) → int_in member.Id d ≡ Ok id → HasId d id
id_there d id e = number_there member.Id d id e

-- ---- the type of a field

pub type_there : (field whole : Data) (type : Option ColumnType) → get (codes "type") field ≡ Some whole
    → type_in member.Type whole ≡ Ok type → HasType field type
type_there field json.null type is e = absurd cc
type_there field (json.boolean b) type is e = absurd cc
type_there field (json.number n) type is e = absurd cc
type_there field (json.string s) type is e =
    let a = went (asked (UnknownType s) (primitive s)) (λ t. Ok (Some t)) type e in
    let same : Some a.first ≡ type = cc in
    let P : Option ColumnType → Type 0 = λ t. HasType field t in
    subst P same (s, is, asked_is (UnknownType s) (primitive s) a.first a.gave)
type_there field (json.array ds) type is e = absurd cc
type_there field (json.object ms) type is e =
    let same : None ≡ type = cc in
    let P : Option ColumnType → Type 0 = λ t. HasType field t in
    subst P same (ms, is)

-- ---- the first place

-- none of them is such a field
abbrev pub Clear : Option ℕ → List ℕ → List Column → Type 0
Clear around name cs = Each (λ c. is_field around name c ≡ false) cs

past : (around : Option ℕ) (name : List ℕ) (n : ℕ) (cs ds : List Column) → Clear around name cs
    → first_place (is_field around name) n (cs ++ ds) ≡ first_place (is_field around name) (n + length cs) ds
past around name n [] ds clear =
    let e : n ≡ n + 0 = omega arith in
    ap (λ k. first_place (is_field around name) k ds) e
past around name n (c ∷ cs) ds clear =
    let e : suc n + length cs ≡ n + suc (length cs) = omega arith in
    rw clear.0 (past around name (suc n) cs ds clear.1
    ∙ ap (λ k. first_place (is_field around name) k ds) e)

pub nowhere : (around : Option ℕ) (name : List ℕ) (n : ℕ) (cs : List Column) → Clear around name cs
    → first_place (is_field around name) n cs ≡ None
nowhere around name n [] clear = refl
nowhere around name n (c ∷ cs) clear = rw clear.0 (nowhere around name (suc n) cs clear.1)

pub is_place : (around : Option ℕ) (name : List ℕ) (cs : List Column) (c : Column) (ds : List Column)
    → Clear around name cs → is_field around name c ≡ true → field_place around name (cs ++ c ∷ ds) ≡ Some (length cs)
is_place around name cs c ds clear is =
    let e : 0 + length cs ≡ length cs = omega arith in
    past around name 0 cs (c ∷ ds) clear ∙ rw is (ap Some e)

pub at_place : (cs : List Column) (c : Column) (ds : List Column) → slice_get (cs ++ c ∷ ds) (length cs) ≡ Some c
at_place [] c ds = refl
at_place (b ∷ cs) c ds = at_place cs c ds

-- ---- the first field of a name

-- it stands in the row, or in a column before this place
abbrev pub Low : ℕ → Column → Type 0
Low high c = up c.around ≤ high

-- The field is the first of its name. The columns before it have none, and it is read behind these; what comes behind
-- it stands elsewhere.
pub record First (read : Reader) (around : Option ℕ) (name : List ℕ) (fields : Items) (cs out : List Column) : Type 0
  where
    pub field : Data
    pub place : ℕ
    pub at : get_item place fields ≡ Some field
    pub before : (k : ℕ) (other : Data) → k < place → get_item k fields ≡ Some other → IsNamed name other → ⊥
    pub front : List Column
    pub mid : List Column
    pub back : List Column
    pub starts : length cs ≤ length front
    pub low : Each (Low (length front)) front
    pub clear : Clear around name front
    pub is_read : FieldRead read around field front mid
    pub same : is_read.name ≡ name
    pub is : out ≡ mid ++ back
    pub under : Each (Under around (length mid) (length out)) back

-- no field has the name
pub record Lacking (around : Option ℕ) (name : List ℕ) (fields : Items) (out : List Column) : Type 0 where
  pub none : (k : ℕ) (other : Data) → get_item k fields ≡ Some other → IsNamed name other → ⊥
  pub clear : Clear around name out

unnamed : (name own : List ℕ) (d other : Data) → bytes_eq own name ≡ false
    → get (codes "name") d ≡ Some (json.string own) → Some d ≡ Some other → IsNamed name other → ⊥
unnamed name own d other differs is same named =
    let e : d ≡ other = cc in
    let f : get (codes "name") d ≡ Some (json.string name) = ap (get (codes "name")) e ∙ named in
    let g : own ≡ name = cc in
    let h : bytes_eq own name ≡ true = (bytes_eq-Decides own name).1 g in
    absurd cc

none_before : (name : List ℕ) (d : Data) (ds : Items) (place : ℕ)
    → ((other : Data) → Some d ≡ Some other → IsNamed name other → ⊥)
    → ((k : ℕ) (other : Data) → k < place → get_item k ds ≡ Some other → IsNamed name other → ⊥)
    → (k : ℕ) (other : Data) → k < suc place → get_item k (json.item d ds) ≡ Some other → IsNamed name other → ⊥
none_before name d ds place first more zero other lt at named = first other at named
none_before name d ds place first more (suc k) other lt at named = more k other (omega (arith, lt)) at named

none_at : (name : List ℕ) (d : Data) (ds : Items)
    → ((other : Data) → Some d ≡ Some other → IsNamed name other → ⊥)
    → ((k : ℕ) (other : Data) → get_item k ds ≡ Some other → IsNamed name other → ⊥)
    → (k : ℕ) (other : Data) → get_item k (json.item d ds) ≡ Some other → IsNamed name other → ⊥
none_at name d ds first more zero other at named = first other at named
none_at name d ds first more (suc k) other at named = more k other at named

raised : (around : Option ℕ) (low high : ℕ) (c : Column) → up around ≤ low → low ≤ high → Under around low high c
    → Low high c
raised around low high c p q (inl e) = omega arith
raised around low high c p q (inr u) = u.1

-- new columns are no later than the end
pub lower : (around : Option ℕ) (cs out : List Column) → up around ≤ length cs → Each (Low (length cs)) cs
    → Grew around cs out → Each (Low (length out)) out
lower around cs out fits low g =
    let le : length cs ≤ length out = longer around cs out g in
    let P : List Column → Type 0 = λ v. Each (Low (length out)) v in
    subst P (sym g.is) (each_both (Low (length out)) cs g.more
    (each_as (Low (length cs)) (Low (length out)) (λ c p. omega (arith, p)) cs low)
    (each_as (Under around (length cs) (length out)) (Low (length out))
    (λ c u. raised around (length cs) (length out) c fits le u) g.more g.under))

grown_clear : (around : Option ℕ) (name : List ℕ) (low high : ℕ) (c : Column) → up around ≤ low
    → Under (Some low) (suc low) high c → is_field around name c ≡ false
grown_clear around name low high c fits (inl e) = elsewhere around name c (λ k. absurd (omega arith))
grown_clear around name low high c fits (inr u) = elsewhere around name c (λ k. absurd (omega arith))

within_clear : (read : Reader) (around : Option ℕ) (name : List ℕ) (type : Option ColumnType) (whole : Data)
    (cs out : List Column) (c : Column) → Grows read → up around ≤ length cs → Clear around name cs
    → is_field around name c ≡ false → within read type (length cs) whole (cs ++ c ∷ []) ≡ Ok out
    → Clear around name out
within_clear read around name (Some t) whole cs out c grows fits clear other e =
    let is : cs ++ c ∷ [] ≡ out = cc in
    let P : List Column → Type 0 = λ v. Clear around name v in
    subst P is (each_both (λ x. is_field around name x ≡ false) cs (c ∷ []) clear (other, tt))
within_clear read around name None whole cs out c grows fits clear other e =
    let lt : length cs < length (cs ++ c ∷ []) = simp length-append (omega arith) in
    let g = grows (length cs) whole (cs ++ c ∷ []) out lt e in
    let end : length out ≤ length out = omega arith in
    let P : List Column → Type 0 = λ v. Clear around name v in
    subst P (sym g.is) (each_both (λ x. is_field around name x ≡ false) (cs ++ c ∷ []) g.more
    (each_both (λ x. is_field around name x ≡ false) cs (c ∷ []) clear (other, tt))
    (each_as (Under (Some (length cs)) (length (cs ++ c ∷ [])) (length out)) (λ x. is_field around name x ≡ false)
    (λ x u. grown_clear around name (length cs) (length out) x fits (widen (Some (length cs)) (length (cs ++ c ∷ []))
    (length out) (suc (length cs)) (length out) x lt end u)) g.more g.under))

-- what a field adds, where its name is another one
named_else : (read : Reader) (around : Option ℕ) (name : List ℕ) (d : Data) (cs mid : List Column) → Grows read
    → up around ≤ length cs → Clear around name cs → (f : FieldRead read around d cs mid)
    → bytes_eq f.name name ≡ false → Clear around name mid
named_else read around name d cs mid grows fits clear f other =
    within_clear read around name f.adds.type f.adds.whole cs mid (one around (Some f.name) f.id f.adds.type) grows fits
    clear (rw other refl) f.adds.inner

-- one more field before the first, or before none
abbrev pub Search : Reader → Option ℕ → List ℕ → Items → List Column → List Column → Type 0
Search read around name fields cs out = First read around name fields cs out ⊎ Lacking around name fields out

behind : (read : Reader) (around : Option ℕ) (name : List ℕ) (d : Data) (ds : Items) (cs mid out : List Column)
    → length cs ≤ length mid → ((other : Data) → Some d ≡ Some other → IsNamed name other → ⊥)
    → Search read around name ds mid out → Search read around name (json.item d ds) cs out
behind read around name d ds cs mid out le none (inl f) = inl (record {
  field = f.field;
  place = suc f.place;
  at = f.at;
  before = none_before name d ds f.place none f.before;
  front = f.front;
  mid = f.mid;
  back = f.back;
  starts = (let s : length mid ≤ length f.front = f.starts in omega arith);
  low = f.low;
  clear = f.clear;
  is_read = f.is_read;
  same = f.same;
  is = f.is;
  under = f.under;
})
behind read around name d ds cs mid out le none (inr l) = inr (record {
  none = none_at name d ds none l.none;
  clear = l.clear;
})

here : (read : Reader) (around : Option ℕ) (name : List ℕ) (d : Data) (ds : Items) (cs mid out : List Column)
    → Each (Low (length cs)) cs → Clear around name cs → (f : FieldRead read around d cs mid) → f.name ≡ name
    → Grew around mid out → First read around name (json.item d ds) cs out
here read around name d ds cs mid out low clear f same g = record {
  field = d;
  place = 0;
  at = refl;
  before = λ k other lt at named. absurd (omega (arith, lt));
  front = cs;
  mid = mid;
  back = g.more;
  starts = omega arith;
  low = low;
  clear = clear;
  is_read = f;
  same = same;
  is = g.is;
  under = g.under;
}

step : (read : Reader) (around : Option ℕ) (name : List ℕ) (d : Data) (ds : Items) (cs mid out : List Column)
    → Grows read → up around ≤ length cs → Each (Low (length cs)) cs → Clear around name cs
    → (f : FieldRead read around d cs mid) → Grew around cs mid → Grew around mid out → (b : Bool)
    → bytes_eq f.name name ≡ b
    → (Clear around name mid → Search read around name ds mid out) → Search read around name (json.item d ds) cs out
step read around name d ds cs mid out grows fits low clear f g h true e more =
    inl (here read around name d ds cs mid out low clear f ((bytes_eq-Decides f.name name).0 e) h)
step read around name d ds cs mid out grows fits low clear f g h false e more =
    behind read around name d ds cs mid out (longer around cs mid g)
    (λ other. unnamed name f.name d other e (text_there member.Name d f.name f.named))
    (more (named_else read around name d cs mid grows fits clear f e))

pub search_for : (read : Reader) (around : Option ℕ) (name : List ℕ) (fields : Items) (cs out : List Column)
    → Grows read → up around ≤ length cs → Each (Low (length cs)) cs → Clear around name cs
    → each_into (field_at read around) fields cs ≡ Ok out → Search read around name fields cs out
search_for read around name json.no_items cs out grows fits low clear e =
    let same : cs ≡ out = cc in
    let P : List Column → Type 0 = λ v. Clear around name v in
    inr (record { none = λ k other at named. absurd cc; clear = subst P same clear })
search_for read around name (json.item d ds) cs out grows fits low clear e =
    let a = went (field_at read around d cs) (each_into (field_at read around) ds) out e in
    let f = field_so read around d cs a.first a.gave in
    let g = field_grows read around d cs a.first grows a.gave in
    let h = each_grows read around ds a.first out grows a.next in
    let le : length cs ≤ length a.first = longer around cs a.first g in
    let more : up around ≤ length a.first = omega arith in
    step read around name d ds cs a.first out grows fits low clear f g h (bytes_eq f.name name) refl
    (λ now. search_for read around name ds a.first out grows more (lower around cs a.first fits low g) now a.next)
