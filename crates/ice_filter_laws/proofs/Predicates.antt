-- What is at fault with one predicate.
use Rattle.std.proofs.Common.{◌≡◌, ◌≢◌, ◌⊎◌, inl, inr, ℕ, ◌≤◌, Bool, true}
use Rattle.std.proofs.Common.{false, ◌&&◌, not, cond, List, [], ◌∷◌, length, Option, None, Some, Result, Ok, Err, refl}
use Rattle.std.proofs.Common.{sym, ap, ◌∙◌, arith, subst, ◌==◌, ltb-true, ltb-false, eqb-true, eq-eqb}
use Rattle.std.specs.Prelude.{ℤ, pos, negsuc, option_map}
use Rattle.std.specs.List.{Contains}
use Rattle.std.proofs.lemmas.Int.{ints}
use Rattle.std.proofs.lemmas.List.Elements.{Contains-append_left, Contains-append_right, Contains-push}
use Rattle.std.proofs.lemmas.List.Elements.{Contains-push_cases, Contains-append_cases}
use Rattle.contract_words.specs.Outcome.{◌>>=◌}
use Rattle.uuid.specs.Text.{parsed as uuid_in}
use Rattle.ice_value.specs.declared.cell.Cell.{Cell}
use Rattle.ice_value.specs.declared.cell.Cell.TheVariants as cells
use Rattle.ice_value.specs.declared.column_type.ColumnType.{ColumnType}
use Rattle.ice_value.specs.declared.column_type.ColumnType.TheVariants.{Boolean, Int, Long, Float, Double, Date, Time}
use Rattle.ice_value.specs.declared.column_type.ColumnType.TheVariants.{Timestamp, Timestamptz, String, Uuid, Fixed}
use Rattle.ice_value.specs.declared.column_type.ColumnType.TheVariants.{Binary, Decimal}
use Rattle.ice_value.specs.Bounds.{fits_int}
use Rattle.ice_meta.specs.declared.schema.Schema.{Schema}
use Rattle.ice_meta.specs.declared.schema.Column as meta
use Rattle.ice_meta.specs.Columns.{column_on}
use Rattle.ice_filter.specs.declared.bound.BoundPredicate.{BoundPredicate}
use Rattle.ice_filter.specs.declared.bound.Test.{Test}
use Rattle.ice_filter.specs.declared.fault.FilterFault.{FilterFault}
use Rattle.ice_filter.specs.declared.fault.FilterFault.TheVariants.{NoSuchColumn, NotComparable, WrongLiteral}
use Rattle.ice_filter.specs.declared.predicate.Predicate.{Predicate}
use Rattle.ice_filter.specs.declared.predicate.Literal.{Literal}
use Rattle.ice_filter.specs.declared.predicate.Literal.TheVariants as literal
use Rattle.ice_filter.specs.declared.predicate.Question.{Question}
use Rattle.ice_filter.specs.declared.predicate.Question.TheVariants as question
use Rattle.ice_filter.specs.declared.token.Comparison.{Comparison}
use Rattle.ice_filter.specs.declared.token.Comparison.TheVariants.{Less, AtMost, Greater, AtLeast, Equal, NotEqual}
use Rattle.ice_filter.specs.Binding.{cell_of, cells_of, with_cell, is_order, is_comparable, is_uuid, is_string, may_ask}
use Rattle.ice_filter.specs.Binding.{compared_to, among, starts, test_of, path, or_fault, asked, bound_predicate}
use Rattle.ice_filter_laws.specs.Faults.{AnswersNothing, AsksOrder, CannotBeAsked, literals, IsOf32Bits, Takes}
use Rattle.ice_filter_laws.specs.Faults.{IsOfType, HasFault, rank, IsFaultOf, IsSound}

-- ---- elements

pub here : {X : Type 0} (x : X) (xs : List X) (z : X) → x ≡ z → Contains (x ∷ xs) z
here {X} x xs z e = let P : X → Type 0 = λ v. Contains (x ∷ xs) v in subst P e (Contains-append_left (x ∷ []) xs x
    (Contains-push [] x))

pub later : {X : Type 0} (x : X) (xs : List X) (z : X) → Contains xs z → Contains (x ∷ xs) z
later {X} x xs z h = Contains-append_right (x ∷ []) xs z h

pub nowhere : {X : Type 0} (z : X) → Contains {X = X} [] z → ⊥
nowhere {X} z h = let lt = h.1 in omega arith

pub cases_of : {X : Type 0} (x : X) (xs : List X) (z : X) → Contains (x ∷ xs) z → (x ≡ z) ⊎ Contains xs z
cases_of {X} x xs z h = elim (Contains-append_cases (x ∷ []) xs z h) as (λ _. (x ≡ z) ⊎ Contains xs z) [
  | inl one ↦ elim (Contains-push_cases [] x z one) as (λ _. (x ≡ z) ⊎ Contains xs z)
      [ inl none ↦ absurd (nowhere z none) | inr e ↦ inl e ]
  | inr more ↦ inr more
]

-- ---- what a column can be asked

comparable : (t : ColumnType) → is_comparable t ≡ true → AnswersNothing (Some t) → ⊥
comparable Float e a = absurd cc
comparable Double e a = absurd cc
comparable (Decimal precision scale) e a = absurd cc
comparable _ e a = a

incomparable : (t : ColumnType) → is_comparable t ≡ false → AnswersNothing (Some t)
incomparable Float e = tt
incomparable Double e = tt
incomparable (Decimal precision scale) e = tt
incomparable _ e = absurd cc

uuid_is : (t : ColumnType) → is_uuid t ≡ true → t ≡ Uuid
uuid_is Uuid e = refl
uuid_is _ e = absurd cc

string_is : (t : ColumnType) → is_string t ≡ true → t ≡ String
string_is String e = refl
string_is _ e = absurd cc

no_string : (t : ColumnType) → is_string t ≡ false → Some t ≢ Some String
no_string t e same =
    let other : t ≡ String = cc in
    let f : is_string t ≡ true = ap is_string other in
    cc

order_asked : (sign : Comparison) (l : Literal) → is_order sign ≡ true → AsksOrder (question.Compare sign l)
order_asked Less l e = tt
order_asked AtMost l e = tt
order_asked Greater l e = tt
order_asked AtLeast l e = tt
order_asked Equal l e = absurd cc
order_asked NotEqual l e = absurd cc

is_asked : (sign : Comparison) (l : Literal) → AsksOrder (question.Compare sign l) → is_order sign ≡ true
is_asked Less l a = refl
is_asked AtMost l a = refl
is_asked Greater l a = refl
is_asked AtLeast l a = refl
is_asked Equal l a = absurd a
is_asked NotEqual l a = absurd a

-- a comparison that may be asked
compare_can : (t : ColumnType) (sign : Comparison) (l : Literal) (a b c : Bool) → is_comparable t ≡ a → is_uuid t ≡ b
    → is_order sign ≡ c → (a && not (b && c)) ≡ true → CannotBeAsked (Some t) (question.Compare sign l) → ⊥
compare_can t sign l false b c p q r e k = absurd cc
compare_can t sign l true true true p q r e k = absurd cc
compare_can t sign l true b c p q r e (inl n) = comparable t p n
compare_can t sign l true true false p q r e (inr (inl u)) = let o = is_asked sign l u.1 in absurd cc
compare_can t sign l true false c p q r e (inr (inl u)) =
    let same : t ≡ Uuid = (let s = u.0 in cc) in
    let o : is_uuid t ≡ true = ap is_uuid same in
    absurd cc
compare_can t sign l true b c p q r e (inr (inr s)) = s.1

compare_cannot : (t : ColumnType) (sign : Comparison) (l : Literal) (a b c : Bool) → is_comparable t ≡ a → is_uuid t ≡ b
    → is_order sign ≡ c → (a && not (b && c)) ≡ false → CannotBeAsked (Some t) (question.Compare sign l)
compare_cannot t sign l false b c p q r e = inl (incomparable t p)
compare_cannot t sign l true true true p q r e = inr (inl (ap Some (uuid_is t q), order_asked sign l r))
compare_cannot t sign l true true false p q r e = absurd cc
compare_cannot t sign l true false c p q r e = absurd cc

pub can : (t : ColumnType) (q : Question) → may_ask t q ≡ true → CannotBeAsked (Some t) q → ⊥
can t (question.Compare sign l) e k =
    compare_can t sign l (is_comparable t) (is_uuid t) (is_order sign) refl refl refl e k
can t (question.Among negated ls) e (inl n) = comparable t e n
can t (question.Among negated ls) e (inr (inl u)) = u.1
can t (question.Among negated ls) e (inr (inr s)) = s.1
can t question.Missing e (inl n) = comparable t e n
can t question.Missing e (inr (inl u)) = u.1
can t question.Missing e (inr (inr s)) = s.1
can t question.Present e (inl n) = comparable t e n
can t question.Present e (inr (inl u)) = u.1
can t question.Present e (inr (inr s)) = s.1
can t (question.Begins l) e (inl n) =
    let P : ColumnType → Type 0 = λ v. AnswersNothing (Some v) in
    subst P (string_is t e) n
can t (question.Begins l) e (inr (inl u)) = u.1
can t (question.Begins l) e (inr (inr s)) = s.0 (ap Some (string_is t e))

pub cannot : (t : ColumnType) (q : Question) → may_ask t q ≡ false → CannotBeAsked (Some t) q
cannot t (question.Compare sign l) e =
    compare_cannot t sign l (is_comparable t) (is_uuid t) (is_order sign) refl refl refl e
cannot t (question.Among negated ls) e = inl (incomparable t e)
cannot t question.Missing e = inl (incomparable t e)
cannot t question.Present e = inl (incomparable t e)
cannot t (question.Begins l) e = inr (inr (no_string t e, tt))

-- ---- which literals a column takes

of_32_bits : (n : ℤ) → fits_int n ≡ true → IsOf32Bits n
of_32_bits (pos n) e = (omega (arith, ints, ltb-true n 0x8000_0000 e), omega (arith, ints, ltb-true n 0x8000_0000 e))
of_32_bits (negsuc n) e = (omega (arith, ints, ltb-true n 0x8000_0000 e), omega (arith, ints))

no_32_bits : (n : ℤ) → fits_int n ≡ false → IsOf32Bits n → ⊥
no_32_bits (pos n) e i = omega (arith, ints, ltb-false n 0x8000_0000 e, i)
no_32_bits (negsuc n) e i = omega (arith, ints, ltb-false n 0x8000_0000 e, i)

small : (n : ℤ) (b : Bool) (c : Cell) → fits_int n ≡ b → cond b (Some (cells.Whole n)) None ≡ Some c → IsOf32Bits n
small n true c e is = of_32_bits n e
small n false c e is = absurd cc

large : (n : ℤ) (b : Bool) → fits_int n ≡ b → cond b (Some (cells.Whole n)) None ≡ None → IsOf32Bits n → ⊥
large n true e is i = absurd cc
large n false e is i = no_32_bits n e i

sized : (bytes : List ℕ) (size : ℕ) (b : Bool) (c : Cell) → (length bytes == size) ≡ b
    → cond b (Some (cells.Bytes bytes)) None ≡ Some c → length bytes ≡ size
sized bytes size true c e is = eqb-true (length bytes) size e
sized bytes size false c e is = absurd cc

unsized : (bytes : List ℕ) (size : ℕ) (b : Bool) → (length bytes == size) ≡ b
    → cond b (Some (cells.Bytes bytes)) None ≡ None → length bytes ≡ size → ⊥
unsized bytes size true e is same = absurd cc
unsized bytes size false e is same = let k = eq-eqb (length bytes) size same in absurd cc

some_uuid : (o : Option (List ℕ)) (c : Cell) → option_map cells.Bytes o ≡ Some c → (uuid : List ℕ) × (o ≡ Some uuid)
some_uuid None c e = absurd cc
some_uuid (Some u) c e = (u, refl)

no_uuid : (o : Option (List ℕ)) → option_map cells.Bytes o ≡ None → (uuid : List ℕ) → o ≡ Some uuid → ⊥
no_uuid None e uuid is = cc
no_uuid (Some u) e uuid is = absurd cc

pub takes : (t : ColumnType) (l : Literal) (c : Cell) → cell_of t l ≡ Some c → Takes t l
takes Boolean (literal.Truth b) c e = tt
takes Int (literal.Number n) c e = small n (fits_int n) c refl e
takes Date (literal.Number n) c e = small n (fits_int n) c refl e
takes Long (literal.Number n) c e = tt
takes Time (literal.Number n) c e = tt
takes Timestamp (literal.Number n) c e = tt
takes Timestamptz (literal.Number n) c e = tt
takes String (literal.Text t) c e = tt
takes Uuid (literal.Text t) c e = some_uuid (uuid_in t) c e
takes (Fixed size) (literal.Bytes bytes) c e = sized bytes size (length bytes == size) c refl e
takes Binary (literal.Bytes bytes) c e = tt
takes _ _ c e = absurd cc

pub takes_not : (t : ColumnType) (l : Literal) → cell_of t l ≡ None → Takes t l → ⊥
takes_not Boolean (literal.Truth b) e k = cc
takes_not Int (literal.Number n) e k = large n (fits_int n) refl e k
takes_not Date (literal.Number n) e k = large n (fits_int n) refl e k
takes_not Long (literal.Number n) e k = cc
takes_not Time (literal.Number n) e k = cc
takes_not Timestamp (literal.Number n) e k = cc
takes_not Timestamptz (literal.Number n) e k = cc
takes_not String (literal.Text t) e k = cc
takes_not Uuid (literal.Text t) e k = no_uuid (uuid_in t) e k.0 k.1
takes_not (Fixed size) (literal.Bytes bytes) e k = unsized bytes size (length bytes == size) refl e k
takes_not Binary (literal.Bytes bytes) e k = cc
takes_not _ _ e k = k

-- one of the literals is not taken
abbrev pub IsWrong : ColumnType → List Literal → Type 0
IsWrong t ls = (wrong : Literal) × Contains ls wrong × (Takes t wrong → ⊥)

abbrev pub AllTaken : ColumnType → List Literal → Type 0
AllTaken t ls = (l : Literal) → Contains ls l → Takes t l

one_taken : (t : ColumnType) (l : Literal) → Takes t l → AllTaken t (l ∷ [])
one_taken t l k m in_it = elim (cases_of l [] m in_it) as (λ _. Takes t m)
    [ inl same ↦ (let P : Literal → Type 0 = λ v. Takes t v in subst P same k) | inr none ↦ absurd (nowhere m none) ]

more_taken : (t : ColumnType) (l : Literal) (ls : List Literal) → Takes t l → AllTaken t ls → AllTaken t (l ∷ ls)
more_taken t l ls k all m in_it = elim (cases_of l ls m in_it) as (λ _. Takes t m)
    [ inl same ↦ (let P : Literal → Type 0 = λ v. Takes t v in subst P same k) | inr more ↦ all m more ]

one_wrong : (t : ColumnType) (l : Literal) (ls : List Literal) → (Takes t l → ⊥) → IsWrong t (l ∷ ls)
one_wrong t l ls no_cell = (l, here l ls l refl, no_cell)

more_wrong : (t : ColumnType) (l : Literal) (ls : List Literal) → IsWrong t ls → IsWrong t (l ∷ ls)
more_wrong t l ls w = (w.0, later l ls w.0 w.1, w.2)

list_step : (t : ColumnType) (l : Literal) (ls : List Literal) (o : Option Cell) (r : Option (List Cell))
    → cell_of t l ≡ o → ((cs : List Cell) → r ≡ Some cs → AllTaken t ls) → (cs : List Cell)
    → with_cell o r ≡ Some cs → AllTaken t (l ∷ ls)
list_step t l ls None r e all cs is = absurd cc
list_step t l ls (Some c) None e all cs is = absurd cc
list_step t l ls (Some c) (Some ds) e all cs is = more_taken t l ls (takes t l c e) (all ds refl)

list_taken : (t : ColumnType) (ls : List Literal) (cs : List Cell) → cells_of t ls ≡ Some cs → AllTaken t ls
list_taken t [] cs e = λ l in_it. absurd (nowhere l in_it)
list_taken t (l ∷ ls) cs e = list_step t l ls (cell_of t l) (cells_of t ls) refl (list_taken t ls) cs e

wrong_step : (t : ColumnType) (l : Literal) (ls : List Literal) (o : Option Cell) (r : Option (List Cell))
    → cell_of t l ≡ o → (r ≡ None → IsWrong t ls) → with_cell o r ≡ None → IsWrong t (l ∷ ls)
wrong_step t l ls None r e more is = one_wrong t l ls (takes_not t l e)
wrong_step t l ls (Some c) None e more is = more_wrong t l ls (more refl)
wrong_step t l ls (Some c) (Some ds) e more is = absurd cc

list_wrong : (t : ColumnType) (ls : List Literal) → cells_of t ls ≡ None → IsWrong t ls
list_wrong t [] e = absurd cc
list_wrong t (l ∷ ls) e = wrong_step t l ls (cell_of t l) (cells_of t ls) refl (list_wrong t ls) e

some_mapped : {A B : Type 0} (f : A → B) (o : Option A) (b : B) → option_map f o ≡ Some b → (a : A) × (o ≡ Some a)
some_mapped f None b e = absurd cc
some_mapped f (Some a) b e = (a, refl)

none_mapped : {A B : Type 0} (f : A → B) (o : Option A) → option_map f o ≡ None → o ≡ None
none_mapped f None e = refl
none_mapped f (Some a) e = absurd cc

start_taken : (l : Literal) (b : Test) → starts l ≡ Some b → Takes String l
start_taken (literal.Text t) b e = tt
start_taken (literal.Truth x) b e = absurd cc
start_taken (literal.Number n) b e = absurd cc
start_taken (literal.Bytes bytes) b e = absurd cc

start_wrong : (l : Literal) → starts l ≡ None → Takes String l → ⊥
start_wrong (literal.Text t) e k = cc
start_wrong (literal.Truth x) e k = k
start_wrong (literal.Number n) e k = k
start_wrong (literal.Bytes bytes) e k = k

-- where it may be asked, all literals are taken or one is wrong
taken : (t : ColumnType) (q : Question) (b : Test) → may_ask t q ≡ true → test_of t q ≡ Some b → AllTaken t (literals q)
taken t (question.Compare sign l) b can_ask e =
    let c = some_mapped (compared_to sign) (cell_of t l) b e in
    one_taken t l (takes t l c.0 c.1)
taken t (question.Among negated ls) b can_ask e =
    let c = some_mapped (among negated) (cells_of t (ls.first ∷ ls.more)) b e in
    list_taken t (ls.first ∷ ls.more) c.0 c.1
taken t question.Missing b can_ask e = λ l in_it. absurd (nowhere l in_it)
taken t question.Present b can_ask e = λ l in_it. absurd (nowhere l in_it)
taken t (question.Begins l) b can_ask e =
    let P : ColumnType → Type 0 = λ v. AllTaken v (l ∷ []) in
    subst P (sym (string_is t can_ask)) (one_taken String l (start_taken l b e))

wrong_one : (t : ColumnType) (q : Question) → may_ask t q ≡ true → test_of t q ≡ None → IsWrong t (literals q)
wrong_one t (question.Compare sign l) can_ask e =
    one_wrong t l [] (takes_not t l (none_mapped (compared_to sign) (cell_of t l) e))
wrong_one t (question.Among negated ls) can_ask e =
    list_wrong t (ls.first ∷ ls.more) (none_mapped (among negated) (cells_of t (ls.first ∷ ls.more)) e)
wrong_one t question.Missing can_ask e = absurd cc
wrong_one t question.Present can_ask e = absurd cc
wrong_one t (question.Begins l) can_ask e =
    let P : ColumnType → Type 0 = λ v. IsWrong v (l ∷ []) in
    subst P (sym (string_is t can_ask)) (one_wrong String l [] (start_wrong l e))

-- ---- a column that is asked

-- what comes of asking a column of this type
abbrev pub Comes : Option ColumnType → Question → Result BoundPredicate FilterFault → Type 0
Comes type q (Ok b) = (CannotBeAsked type q → ⊥) × ((t : ColumnType) → type ≡ Some t → AllTaken t (literals q))
Comes type q (Err f) = ((f ≡ NotComparable) × CannotBeAsked type q)
    ⊎ ((f ≡ WrongLiteral) × ((CannotBeAsked type q → ⊥)
    × ((t : ColumnType) × (type ≡ Some t) × IsWrong t (literals q))))

tested : (id : ℤ) (t : ColumnType) (q : Question) (o : Option Test) → may_ask t q ≡ true → test_of t q ≡ o
    → Comes (Some t) q (or_fault WrongLiteral o >>= λ test. Ok (record { column = id; column_type = t; test = test }))
tested id t q None can_ask e = inr (refl, (can t q can_ask, (t, refl, wrong_one t q can_ask e)))
tested id t q (Some b) can_ask e = (
  can t q can_ask,
  λ u same. let other : t ≡ u = cc in let P : ColumnType → Type 0 = λ v. AllTaken v (literals q) in
      subst P other (taken t q b can_ask e),
)

typed : (id : ℤ) (t : ColumnType) (q : Question) (b : Bool) → may_ask t q ≡ b
    → Comes (Some t) q (or_fault NotComparable (cond b (Some t) None) >>= λ u. or_fault WrongLiteral (test_of u q)
    >>= λ test. Ok (record { column = id; column_type = u; test = test }))
typed id t q false e = inl (refl, cannot t q e)
typed id t q true e = tested id t q (test_of t q) e refl

comes : (id : ℤ) (type : Option ColumnType) (q : Question) → Comes type q (asked id type q)
unfolding asked
comes id None q = inl (refl, inl tt)
comes id (Some t) q = typed id t q (may_ask t q) refl

-- ---- a predicate

-- what comes of a predicate: a bound one where nothing is at fault, or its fault
abbrev pub PredicateComes : Schema → Predicate → Result BoundPredicate FilterFault → Type 0
PredicateComes schema l (Ok b) = IsSound schema l
PredicateComes schema l (Err f) = IsFaultOf schema l f

same_type : (schema : Schema) (l : Predicate) (column : meta.Column) (type : Option ColumnType)
    → column_on (path l.column) schema ≡ Some column → IsOfType schema l type → column.column_type ≡ type
same_type schema l column type on t =
    let f = t.1 in
    let same : column ≡ f.0 = cc in
    ap (λ (c : meta.Column). c.column_type) same ∙ f.3

of_type : (schema : Schema) (l : Predicate) (column : meta.Column) → column_on (path l.column) schema ≡ Some column
    → IsOfType schema l column.column_type
of_type schema l column on = (column.id, (column, on, refl, refl))

sound : (schema : Schema) (l : Predicate) (column : meta.Column) → column_on (path l.column) schema ≡ Some column
    → (CannotBeAsked column.column_type l.question → ⊥)
    → ((t : ColumnType) → column.column_type ≡ Some t → AllTaken t (literals l.question)) → IsSound schema l
sound schema l column on asks all NoSuchColumn h = h column.column_type (of_type schema l column on)
sound schema l column on asks all NotComparable h =
    let P : Option ColumnType → Type 0 = λ v. CannotBeAsked v l.question in
    asks (subst P (sym (same_type schema l column h.0 on h.1)) h.2)
sound schema l column on asks all WrongLiteral h =
    h.4 (all h.0 (same_type schema l column (Some h.0) on h.2) h.1 h.3)
sound schema l column on asks all _ h = h

not_before : (schema : Schema) (l : Predicate) (column : meta.Column) → column_on (path l.column) schema ≡ Some column
    → (g : FilterFault) → HasFault schema l g → 1 ≤ rank g
not_before schema l column on NoSuchColumn h = absurd (h column.column_type (of_type schema l column on))
not_before schema l column on NotComparable h = omega arith
not_before schema l column on WrongLiteral h = omega arith
not_before schema l column on _ h = absurd h

not_before_literals : (schema : Schema) (l : Predicate) (column : meta.Column)
    → column_on (path l.column) schema ≡ Some column → (CannotBeAsked column.column_type l.question → ⊥)
    → (g : FilterFault) → HasFault schema l g → 2 ≤ rank g
not_before_literals schema l column on asks NoSuchColumn h =
    absurd (h column.column_type (of_type schema l column on))
not_before_literals schema l column on asks NotComparable h =
    let P : Option ColumnType → Type 0 = λ v. CannotBeAsked v l.question in
    absurd (asks (subst P (sym (same_type schema l column h.0 on h.1)) h.2))
not_before_literals schema l column on asks WrongLiteral h = omega arith
not_before_literals schema l column on asks _ h = absurd h

asked_comes : (schema : Schema) (l : Predicate) (column : meta.Column) → column_on (path l.column) schema ≡ Some column
    → (r : Result BoundPredicate FilterFault) → Comes column.column_type l.question r → PredicateComes schema l r
asked_comes schema l column on (Ok b) c = sound schema l column on c.0 c.1
asked_comes schema l column on (Err f) (inl c) =
    let P : FilterFault → Type 0 = λ v. IsFaultOf schema l v in
    subst P (sym c.0) (
      (column.column_type, of_type schema l column on, c.1),
      not_before schema l column on,
    )
asked_comes schema l column on (Err f) (inr c) =
    let P : FilterFault → Type 0 = λ v. IsFaultOf schema l v in
    let w = c.1.1 in
    let Q : Option ColumnType → Type 0 = λ v. IsOfType schema l v in
    subst P (sym c.0) (
      (w.0, w.2.0, subst Q w.1 (of_type schema l column on), w.2.1, w.2.2),
      not_before_literals schema l column on c.1.0,
    )

column_comes : (schema : Schema) (l : Predicate) (o : Option meta.Column) → column_on (path l.column) schema ≡ o
    → PredicateComes schema l (or_fault NoSuchColumn o >>= λ column. asked column.id column.column_type l.question)
column_comes schema l None on = (
  λ type t. let f = t.1 in let e = f.1 in cc,
  λ g h. omega arith,
)
column_comes schema l (Some column) on =
    asked_comes schema l column on (asked column.id column.column_type l.question)
    (comes column.id column.column_type l.question)

pub predicate_comes : (schema : Schema) (l : Predicate) → PredicateComes schema l (bound_predicate schema l)
unfolding bound_predicate
predicate_comes schema l = column_comes schema l (column_on (path l.column) schema) refl

-- a predicate has one fault that is told
same_rank : (schema : Schema) (l : Predicate) (f g : FilterFault) → HasFault schema l f → HasFault schema l g
    → rank f ≡ rank g → f ≡ g
same_rank schema l NoSuchColumn NoSuchColumn h k e = refl
same_rank schema l NotComparable NotComparable h k e = refl
same_rank schema l WrongLiteral WrongLiteral h k e = refl
same_rank schema l NoSuchColumn NotComparable h k e = absurd (omega (arith, e))
same_rank schema l NoSuchColumn WrongLiteral h k e = absurd (omega (arith, e))
same_rank schema l NotComparable NoSuchColumn h k e = absurd (omega (arith, e))
same_rank schema l NotComparable WrongLiteral h k e = absurd (omega (arith, e))
same_rank schema l WrongLiteral NoSuchColumn h k e = absurd (omega (arith, e))
same_rank schema l WrongLiteral NotComparable h k e = absurd (omega (arith, e))
same_rank schema l NoSuchColumn _ h k e = absurd k
same_rank schema l NotComparable _ h k e = absurd k
same_rank schema l WrongLiteral _ h k e = absurd k
same_rank schema l _ g h k e = absurd h

pub fault_once : (schema : Schema) (l : Predicate) (f g : FilterFault) → IsFaultOf schema l f → IsFaultOf schema l g
    → f ≡ g
fault_once schema l f g h k =
    let le : rank f ≤ rank g = h.1 g k.0 in
    let ge : rank g ≤ rank f = k.1 f h.0 in
    same_rank schema l f g h.0 k.0 (omega arith)
