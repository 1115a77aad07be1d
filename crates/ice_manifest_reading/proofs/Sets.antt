-- The rows that a list gives are the set of its rows.
use Rattle.std.proofs.Common.{◌≡◌, ◌≢◌, ◌⊎◌, ◌↔◌, inl, inr, ℕ, Bool, true, false, cond, nat_le, List, []}
use Rattle.std.proofs.Common.{◌∷◌, length, Option, Some, None, Ok, Err, refl, sym, ap, subst, ◌∙◌, arith}
use Rattle.std.specs.Ordering.{nat_cmp, is_lt}
use Rattle.std.specs.Str.{bytes_eq}
use Rattle.std.specs.List.{Contains, AllByRecursion, dedup, dedup_from}
use Rattle.std.proofs.lemmas.List.Elements.{Contains-append_left, Contains-append_right, Contains-push}
use Rattle.std.proofs.lemmas.List.Elements.{Contains-push_cases, Contains-append_cases}
use Rattle.std.proofs.lemmas.List.Kept.{Contains-dedup, Contains-from_dedup}
use Rattle.std.proofs.lemmas.Slice.Eq.{bytes_eq-Decides}
use Rattle.contract_words.specs.Sorting.{put, sorted}
use Rattle.ice_manifest_fields.specs.declared.fault.ListFault.TheVariants.{ManifestTwice, TooManyRows}
use Rattle.ice_manifest_reading.specs.declared.row.Row.{Row}
use Rattle.ice_manifest_reading.specs.Lists.{path_before, same_row}
use Rattle.ice_manifest_reading.specs.Lists.{twice_after, path_twice, unless_twice, in_order}
use Rattle.ice_manifest_reading.specs.Laws.{GivesTheRows, HasTwo, RefusesTwo, RefusesTheLeast}
use Rattle.ice_manifest_reading.proofs.Rising.{order, given, less_from, in_order_rises}
use Rattle.contract_words.proofs.Sorted.{Rises}
use Rattle.std.specs.declared.cmp.Ordering.TheVariants.{Less}
use Rattle.std.specs.Cmp.Lexicographic.{slice_cmp}
use Rattle.std.proofs.lemmas.Cmp.{nat_list_cmp_total, tied_itself}
pub use Rattle.ice_manifest_reading.specs.Equality.{same_is, same_equal, equality}

-- ---- elements

pub here : {X : Type 0} (x : X) (xs : List X) (z : X) → x ≡ z → Contains (x ∷ xs) z
here {X} x xs z e = let P : X → Type 0 = λ v. Contains (x ∷ xs) v in subst P e (Contains-append_left (x ∷ []) xs x
    (Contains-push [] x))

pub later : {X : Type 0} (x : X) (xs : List X) (z : X) → Contains xs z → Contains (x ∷ xs) z
later {X} x xs z h = Contains-append_right (x ∷ []) xs z h

pub nowhere : {X : Type 0} (z : X) → Contains {X = X} [] z → ⊥
nowhere {X} z h = let lt = h.1 in omega arith

pub cases_of : {X : Type 0} (x : X) (xs : List X) (z : X) → Contains (x ∷ xs) z → (x ≡ z) ⊎ Contains xs z
cases_of {X} x xs z h = elim (Contains-append_cases (x ∷ []) xs z h) as (λ _. (x ≡ z) ⊎ Contains xs z) [
  | inl one ↦ elim (Contains-push_cases [] x z one) as (λ _. (x ≡ z) ⊎ Contains xs z)
      [ inl none ↦ absurd (nowhere z none) | inr e ↦ inl e ]
  | inr more ↦ inr more
]

module _ {X : Type 0} (lt : X → X → Bool) where
  in_put : (x : X) (ys : List X) (z : X) → Contains (put lt x ys) z → Contains (x ∷ ys) z
  in_put x [] z h = h
  in_put x (y ∷ ys) z h =
      let P : (b : Bool) → Contains (cond b (y ∷ put lt x ys) (x ∷ y ∷ ys)) z → Contains (x ∷ y ∷ ys) z =
      λ b. elim b as (λ v. Contains (cond v (y ∷ put lt x ys) (x ∷ y ∷ ys)) z → Contains (x ∷ y ∷ ys) z) [
        | true ↦ λ g. elim (cases_of y (put lt x ys) z g) as (λ _. Contains (x ∷ y ∷ ys) z) [
          | inl e ↦ later x (y ∷ ys) z (here y ys z e)
          | inr i ↦ elim (cases_of x ys z (in_put x ys z i)) as (λ _. Contains (x ∷ y ∷ ys) z) [
            | inl e ↦ here x (y ∷ ys)
                z e
            | inr j ↦ later x (y ∷ ys) z (later y ys z j)
          ]
        ]
        | false ↦ λ g. g
      ] in
      P (lt y x) h

  to_put : (x : X) (ys : List X) (z : X) → Contains (x ∷ ys) z → Contains (put lt x ys) z
  to_put x [] z h = h
  to_put x (y ∷ ys) z h =
      elim (lt y x) as (λ v. Contains (cond v (y ∷ put lt x ys) (x ∷ y ∷ ys)) z) [
        | true ↦ elim (cases_of x (y ∷ ys) z h) as (λ _. Contains (y ∷ put lt x ys) z) [
          | inl e ↦ later y (put lt x ys) z (to_put x ys z (here x ys z e))
          | inr i ↦ elim (cases_of y ys z i) as (λ _. Contains (y ∷ put lt x ys) z) [
            | inl e ↦ here y (put lt x ys) z e
            | inr j ↦ later y (put lt x ys) z (to_put x ys z (later x ys z j))
          ]
        ]
        | false ↦ h
      ]

  pub in_sorted : (xs : List X) (z : X) → Contains (sorted lt xs) z → Contains xs z
  in_sorted [] z h = h
  in_sorted (x ∷ xs) z h = elim (cases_of x (sorted lt xs) z (in_put x (sorted lt xs) z h)) as
      (λ _. Contains (x ∷ xs) z) [ inl e ↦ here x xs z e | inr i ↦ later x xs z (in_sorted xs z i) ]

  pub to_sorted : (xs : List X) (z : X) → Contains xs z → Contains (sorted lt xs) z
  to_sorted [] z h = h
  to_sorted (x ∷ xs) z h = to_put x (sorted lt xs) z (elim (cases_of x xs z h) as (λ _. Contains (x ∷ sorted lt xs) z)
      [ inl e ↦ here x (sorted lt xs) z e | inr i ↦ later x (sorted lt xs) z (to_sorted xs z i) ])

-- ---- the rows in their order

pub from_order : (rows : List Row) (r : Row) → Contains (in_order rows) r → Contains rows r
from_order rows r h = in_sorted path_before rows r (Contains-from_dedup same_row (sorted path_before rows) r h)

pub to_order : (rows : List Row) (r : Row) → Contains rows r → Contains (in_order rows) r
to_order rows r h = Contains-dedup equality same_is (sorted path_before rows) r (to_sorted path_before rows r h)

pub gives_the_rows : GivesTheRows
gives_the_rows rows found h r =
    let g = given (in_order rows) found h in
    let P : List Row → Type 0 = λ xs. Contains xs r ↔ Contains rows r in
    subst P g.2 (from_order rows r, to_order rows r)

-- ---- a path that is refused

-- no element is equal to the one before it
abbrev Apart : Row → List Row → Type 0
Apart r [] = Unit {0}
Apart r (s ∷ rows) = (same_row s r ≡ false) × Apart s rows

apart_from : (k : Row) (rows : List Row) → (others : List Row) × (dedup_from same_row k rows ≡ k ∷ others) × Apart k
    others
apart_from k [] = ([], refl, tt)
apart_from k (r ∷ rows) =
    let G : Bool → Type 0 = λ v. (others : List Row) × (cond v (dedup_from same_row k rows) (k ∷ dedup_from same_row r
    rows) ≡ k ∷ others) × Apart k others in
    let P : (b : Bool) → same_row r k ≡ b → G b =
    λ b. elim b as (λ v. same_row r k ≡ v → G v) [
      | true ↦ λ e. apart_from k rows
      | false ↦ λ e. let a = apart_from r rows in (r ∷ a.0, ap (λ (rest : List Row). k ∷ rest) a.1, (e, a.2))
    ] in
    P (same_row r k) refl

two_after : (r : Row) (rows : List Row) (path : List ℕ) → Apart r rows → twice_after r rows ≡ Some path
    → HasTwo (r ∷ rows) path
unfolding twice_after
two_after r [] path apart h = absurd (cc)
two_after r (s ∷ rows) path apart h =
    let P : (b : Bool) → bytes_eq s.path r.path ≡ b → cond b (Some s.path) (twice_after s rows) ≡ Some path
    → HasTwo (r ∷ s ∷ rows) path =
    λ b. elim b as (λ v. bytes_eq s.path r.path ≡ v → cond v (Some s.path) (twice_after s rows) ≡ Some path
    → HasTwo (r ∷ s ∷ rows) path) [
      | true ↦ λ e g.
          let same : s.path ≡ r.path = (bytes_eq-Decides s.path r.path).0 e in
          let is : s.path ≡ path = cc in (
            r,
            s,
            here r (s ∷ rows) r refl,
            later r (s ∷ rows) s (here s rows s refl),
            λ q. let t : true ≡ false =
                sym (same_equal s r (sym q)) ∙ apart.0 in absurd (cc),
            sym same ∙ is,
            is,
          )
      | false ↦ λ e g. let t = two_after s rows path apart.1 g in (
        t.0,
        t.1,
        later r (s ∷ rows) t.0 t.2,
        later r
            (s ∷ rows) t.1 t.3,
        t.4,
        t.5,
        t.6,
      )
    ] in
    P (bytes_eq s.path r.path) refl h

two_of : (rows : List Row) (path : List ℕ) → path_twice (dedup same_row rows) ≡ Some path
    → HasTwo (dedup same_row rows) path
two_of [] path h = absurd (cc)
two_of (r ∷ rows) path h =
    let a = apart_from r rows in
    let P : List Row → Type 0 = λ xs. path_twice xs ≡ Some path → HasTwo xs path in
    let all : P (dedup_from same_row r rows) = subst P (sym a.1) (λ g. two_after r a.0 path a.2 g) in
    all h

refused_is : (b : Bool) (rows : List Row) (path : List ℕ)
    → cond b (Ok rows) (Err TooManyRows) ≡ Err (ManifestTwice path) → ⊥
refused_is true rows path h = cc
refused_is false rows path h = cc

twice_is : (found : Option (List ℕ)) (rows : List Row) (path : List ℕ)
    → unless_twice found rows ≡ Err (ManifestTwice path) → found ≡ Some path
twice_is (Some p) rows path h = cc
twice_is None rows path h = absurd (refused_is (nat_le (length rows) 65536) rows path h)

pub refuses_two : RefusesTwo
refuses_two rows path h =
    let t = two_of (sorted path_before rows) path (twice_is (path_twice (in_order rows)) (in_order rows) path h) in
    (t.0, t.1, from_order rows t.0 t.2, from_order rows t.1 t.3, t.4, t.5, t.6)

-- ---- the least of such paths

pub among : (P : Row → Type 0) (rows : List Row) (a : Row) → AllByRecursion P rows → Contains rows a → P a
among P [] a all h = absurd (nowhere a h)
among P (r ∷ rows) a all h = elim (cases_of r rows a h) as (λ _. P a) [
  | inl e ↦ subst P e all.0
  | inr i ↦ among P rows a
      all.1 i
]

not_before : (r : Row) (rows : List Row) (a : Row) → AllByRecursion (λ s. path_before s r ≡ false) rows
    → Contains (r ∷ rows) a → path_before a r ≡ false
not_before r rows a all h =
    let P : Row → Type 0 = λ s. path_before s r ≡ false in
    elim (cases_of r rows a h) as (λ _. path_before a r ≡ false)
    [ inl e ↦ subst P e (ap is_lt (tied_itself nat_list_cmp_total r.path)) | inr i ↦ among P rows a all i ]

least_after : (r : Row) (rows : List Row) (path : List ℕ) → AllByRecursion (λ s. path_before s r ≡ false) rows
    → Rises path_before order rows → twice_after r rows ≡ Some path
    → (a b : Row) → Contains (r ∷ rows) a → Contains (r ∷ rows) b → a ≢ b → a.path ≡ b.path
    → is_lt (slice_cmp nat_cmp a.path path) ≡ false
unfolding twice_after
least_after r [] path all rises h a b ia ib other same = absurd (cc)
least_after r (s ∷ rows) path all rises h a b ia ib other same =
    let G : Type 0 = is_lt (slice_cmp nat_cmp a.path path) ≡ false in
    let P : (c : Bool) → bytes_eq s.path r.path ≡ c → cond c (Some s.path) (twice_after s rows) ≡ Some path → G =
    λ c. elim c as (λ v. bytes_eq s.path r.path ≡ v → cond v (Some s.path) (twice_after s rows) ≡ Some path → G) [
      | true ↦ λ e g.
          let first : s.path ≡ r.path = (bytes_eq-Decides s.path r.path).0 e in
          let is : s.path ≡ path = cc in
          let Q : List ℕ → Type 0 = λ p. is_lt (slice_cmp nat_cmp a.path p) ≡ false in
          subst Q (sym first ∙ is) (not_before r (s ∷ rows) a all ia)
      | false ↦ λ e g.
          let less : slice_cmp nat_cmp r.path s.path ≡ Less = less_from r.path s.path all.0 e in
          let far : (x : Row) → Contains (s ∷ rows) x → x.path ≡ r.path → ⊥ =
          λ x i q.
          let Q : List ℕ → Type 0 = λ p. is_lt (slice_cmp nat_cmp p s.path) ≡ false in
          let t : true ≡ false = sym (ap is_lt less) ∙ subst Q q (not_before s rows x rises.0 i) in
          cc in
          elim (cases_of r (s ∷ rows) a ia) as (λ _. G) [
            | inl ea ↦ elim (cases_of r (s ∷ rows) b ib) as (λ _. G) [
              | inl eb ↦ absurd (other (sym ea ∙ eb))
              | inr jb ↦ absurd (far b jb (sym same ∙ sym (ap (λ (x : Row). x.path) ea)))
            ]
            | inr ja ↦ elim (cases_of r (s ∷ rows) b ib) as (λ _. G) [
              | inl eb ↦ absurd (far a ja (same ∙ sym (ap (λ (x : Row). x.path) eb)))
              | inr jb ↦ least_after s rows path rises.0 rises.1 g a b ja jb other same
            ]
          ]
    ] in
    P (bytes_eq s.path r.path) refl h

least_of : (rows : List Row) (path : List ℕ) → Rises path_before order rows → path_twice rows ≡ Some path
    → (a b : Row) → Contains rows a → Contains rows b → a ≢ b → a.path ≡ b.path
    → is_lt (slice_cmp nat_cmp a.path path) ≡ false
least_of [] path rises h a b ia ib other same = absurd (cc)
least_of (r ∷ rows) path rises h a b ia ib other same = least_after r rows path rises.0 rises.1 h a b ia ib other same

pub refuses_the_least : RefusesTheLeast
refuses_the_least rows path h a b ia ib other same = least_of (in_order rows) path (in_order_rises rows)
    (twice_is (path_twice (in_order rows)) (in_order rows) path h) a b (to_order rows a ia) (to_order rows b ib) other
    same
