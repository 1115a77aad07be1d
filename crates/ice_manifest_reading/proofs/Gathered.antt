-- Lists of the same rows come to the same, however often each row is there.
use Rattle.std.proofs.Common.{◌≡◌, inl, inr, ℕ, Bool, true, false, List, [], ◌∷◌, ◌++◌, Option, Some, None}
use Rattle.std.proofs.Common.{Err, refl, sym, ap, subst, ◌∙◌}
use Rattle.std.specs.Ordering.{nat_cmp, is_lt}
use Rattle.std.specs.Str.{bytes_eq}
use Rattle.std.specs.List.{Contains, AllByRecursion}
use Rattle.std.specs.List.Sorted.{IsStrictlySortedBy}
use Rattle.std.specs.declared.cmp.Ordering.TheVariants.{Less, Equal}
use Rattle.std.specs.Cmp.Lexicographic.{slice_cmp}
use Rattle.std.proofs.lemmas.Cmp.{nat_list_cmp_total, tied_itself}
use Rattle.std.proofs.lemmas.List.Elements.{Contains-append_left, Contains-push, Contains-push_cases}
use Rattle.std.proofs.lemmas.Slice.Eq.{bytes_eq-Decides}
use Rattle.ice_manifest_fields.specs.declared.fault.ListFault.TheVariants.{ManifestTwice}
use Rattle.ice_manifest_reading.specs.declared.row.Row.{Row}
use Rattle.ice_manifest_reading.specs.Lists.{path_order, path_twice, unless_twice, checked, in_order}
use Rattle.ice_manifest_reading.specs.Laws.{HasTwo}
use Rattle.ice_manifest_reading.specs.Gathering.{AreSame}
use Rattle.ice_manifest_reading.proofs.Rising.{less_from, in_order_rises, strict_of}
use Rattle.ice_manifest_reading.proofs.Sets.{here, later, nowhere, cases_of, among, from_order, to_order}
use Rattle.ice_manifest_reading.proofs.Sets.{refuses_two, refuses_the_least}

-- ---- one list behind the other

pub in_order_same : (rows : List Row) → AreSame rows (in_order rows)
in_order_same rows r = (to_order rows r, from_order rows r)

pub itself_same : (rows : List Row) → AreSame rows rows
itself_same rows r = (λ h. h, λ h. h)

pub chain_same : (a b c : List Row) → AreSame a b → AreSame b c → AreSame a c
chain_same a b c h k r = (λ i. (k r).0 ((h r).0 i), λ i. (h r).1 ((k r).1 i))

push_one : (a b : List Row) (x r : Row) → (Contains a r → Contains b r) → Contains (a ++ x ∷ []) r
    → Contains (b ++ x ∷ []) r
push_one a b x r h i = elim (Contains-push_cases a x r i) as (λ _. Contains (b ++ x ∷ []) r) [
  | inl old ↦ Contains-append_left b (x ∷ []) r (h old)
  | inr e ↦ subst (λ (v : Row). Contains (b ++ x ∷ []) v) e (Contains-push b x)
]

-- one row more
pub push_same : (a b c : List Row) (x : Row) → AreSame a b → AreSame (b ++ x ∷ []) c → AreSame (a ++ x ∷ []) c
push_same a b c x h k = chain_same (a ++ x ∷ []) (b ++ x ∷ []) c
    (λ r. (push_one a b x r (h r).0, push_one b a x r (h r).1)) k

-- ---- rows that rise strictly

not_less : (p : List ℕ) → slice_cmp nat_cmp p p ≡ Less → ⊥
not_less p h = let e : Equal ≡ Less = sym (tied_itself nat_list_cmp_total p) ∙ h in cc

-- a row is not among those that are above it
not_above : (x r : Row) (rows : List Row) → AllByRecursion (λ t. path_order x t ≡ Less) rows → x.path ≡ r.path
    → Contains rows r → ⊥
not_above x r rows all same i =
    let less : path_order x r ≡ Less = among (λ t. path_order x t ≡ Less) rows r all i in
    let P : List ℕ → Type 0 = λ p. slice_cmp nat_cmp x.path p ≡ Less in
    not_less x.path (subst P (sym same) less)

one_of_path : (rows : List Row) (a b : Row) → IsStrictlySortedBy path_order rows → Contains rows a → Contains rows b
    → a.path ≡ b.path → a ≡ b
unfolding IsStrictlySortedBy
one_of_path [] a b up ia ib same = absurd (nowhere a ia)
one_of_path (x ∷ rows) a b up ia ib same = elim (cases_of x rows a ia) as (λ _. a ≡ b) [
  | inl ea ↦ elim (cases_of x rows b ib) as (λ _. a ≡ b) [
    | inl eb ↦ sym ea ∙ eb
    | inr jb ↦ absurd (not_above x b rows up.0 (ap (λ (r : Row). r.path) ea ∙ same) jb)
  ]
  | inr ja ↦ elim (cases_of x rows b ib) as (λ _. a ≡ b) [
    | inl eb ↦ absurd (not_above x a rows up.0 (ap (λ (r : Row). r.path) eb ∙ sym same) ja)
    | inr jb ↦ one_of_path rows a b up.1 ja jb same
  ]
]

heads_same : (x y : Row) (xs ys : List Row) → AllByRecursion (λ t. path_order x t ≡ Less) xs
    → AllByRecursion (λ t. path_order y t ≡ Less) ys → AreSame (x ∷ xs) (y ∷ ys) → x ≡ y
heads_same x y xs ys above behind same = elim (cases_of y ys x ((same x).0 (here x xs x refl))) as (λ _. x ≡ y) [
  | inl e ↦ sym e
  | inr i ↦ elim (cases_of x xs y ((same y).1 (here y ys y refl))) as (λ _. x ≡ y) [
    | inl e ↦ e
    | inr j ↦
        let up : path_order x y ≡ Less = among (λ t. path_order x t ≡ Less) xs y above j in
        let down : path_order y x ≡ Less = among (λ t. path_order y t ≡ Less) ys x behind i in
        absurd (not_less x.path (nat_list_cmp_total.trans x.path y.path x.path up down))
  ]
]

-- what is in one of two lists with one head, and not the head, is in the other
tail_in : (x y : Row) (xs ys : List Row) (r : Row) → x ≡ y → AllByRecursion (λ t. path_order x t ≡ Less) xs
    → (Contains (x ∷ xs) r → Contains (y ∷ ys) r) → Contains xs r → Contains ys r
tail_in x y xs ys r e above h i = elim (cases_of y ys r (h (later x xs r i))) as (λ _. Contains ys r) [
  | inl f ↦ absurd (not_above x r xs above (ap (λ (v : Row). v.path) (e ∙ f)) i)
  | inr j ↦ j
]

strictly_same : (xs ys : List Row) → IsStrictlySortedBy path_order xs → IsStrictlySortedBy path_order ys
    → AreSame xs ys → xs ≡ ys
unfolding IsStrictlySortedBy
strictly_same [] [] up down same = refl
strictly_same [] (y ∷ ys) up down same = absurd (nowhere y ((same y).1 (here y ys y refl)))
strictly_same (x ∷ xs) [] up down same = absurd (nowhere x ((same x).0 (here x xs x refl)))
strictly_same (x ∷ xs) (y ∷ ys) up down same =
    let e = heads_same x y xs ys up.0 down.0 same in
    let rest = strictly_same xs ys up.1 down.1 (λ r. (
      tail_in x y xs ys r e up.0 (same r).0,
      tail_in y x ys xs r (sym e) down.0 (same r).1,
    )) in
    rw (e, rest) refl

-- ---- what is checked

refused : (rows : List Row) (path : List ℕ) → path_twice rows ≡ Some path → checked rows ≡ Err (ManifestTwice path)
refused rows path h = ap (λ (o : Option (List ℕ)). unless_twice o rows) h

two_among : (rows others : List Row) (path : List ℕ) → AreSame rows others → HasTwo rows path → HasTwo others path
two_among rows others path same t = (t.0, t.1, (same t.0).0 t.2, (same t.1).0 t.3, t.4, t.5, t.6)

-- no path is there twice where it is not there twice in rows that are the same
none_twice : (rows : List Row) (path : List ℕ) → path_twice (in_order rows) ≡ None → HasTwo rows path → ⊥
none_twice rows path none t = t.4 (one_of_path (in_order rows) t.0 t.1
    (strict_of (in_order rows) (in_order_rises rows) none) (to_order rows t.0 t.2) (to_order rows t.1 t.3)
    (t.5 ∙ sym t.6))

not_below : (rows others : List Row) (p q : List ℕ) → AreSame rows others
    → checked (in_order rows) ≡ Err (ManifestTwice p) → checked (in_order others) ≡ Err (ManifestTwice q)
    → is_lt (slice_cmp nat_cmp p q) ≡ false
not_below rows others p q same h k =
    let t = refuses_two rows p h in
    let u = two_among rows others p same t in
    let P : List ℕ → Type 0 = λ v. is_lt (slice_cmp nat_cmp v q) ≡ false in
    subst P u.5 (refuses_the_least others q k u.0 u.1 u.2 u.3 u.4 (u.5 ∙ sym u.6))

one_path : (p q : List ℕ) → is_lt (slice_cmp nat_cmp p q) ≡ false → is_lt (slice_cmp nat_cmp q p) ≡ false → p ≡ q
one_path p q h k =
    let P : (b : Bool) → bytes_eq q p ≡ b → p ≡ q =
    λ b. elim b as (λ v. bytes_eq q p ≡ v → p ≡ q) [
      | true ↦ λ e. sym ((bytes_eq-Decides q p).0 e)
      | false ↦ λ e.
          let less = less_from p q k e in
          let f : true ≡ false = sym (ap is_lt less) ∙ h in
          absurd cc
    ] in
    P (bytes_eq q p) refl

pub checked_same : (rows others : List Row) → AreSame rows others
    → checked (in_order rows) ≡ checked (in_order others)
checked_same rows others same =
    let back : AreSame others rows = λ r. ((same r).1, (same r).0) in
    let G : Type 0 = checked (in_order rows) ≡ checked (in_order others) in
    let P : (a b : Option (List ℕ)) → path_twice (in_order rows) ≡ a → path_twice (in_order others) ≡ b → G =
    λ a b. elim a as (λ v. path_twice (in_order rows) ≡ v → path_twice (in_order others) ≡ b → G) [
      | None ↦ elim b as (λ w. path_twice (in_order rows) ≡ None → path_twice (in_order others) ≡ w → G) [
        | None ↦ λ h k. ap checked (strictly_same (in_order rows) (in_order others)
            (strict_of (in_order rows) (in_order_rises rows) h) (strict_of (in_order others) (in_order_rises others) k)
            (chain_same (in_order rows) rows (in_order others) (λ r. (from_order rows r, to_order rows r))
            (chain_same rows others (in_order others) same (in_order_same others))))
        | Some q ↦ λ h k. absurd (none_twice rows q h (two_among others rows q back
            (refuses_two others q (refused (in_order others) q k))))
      ]
      | Some p ↦ elim b as (λ w. path_twice (in_order rows) ≡ Some p → path_twice (in_order others) ≡ w → G) [
        | None ↦ λ h k. absurd (none_twice others p k (two_among rows others p same
            (refuses_two rows p (refused (in_order rows) p h))))
        | Some q ↦ λ h k.
            let first = refused (in_order rows) p h in
            let second = refused (in_order others) q k in
            first ∙ ap (λ (v : List ℕ). Err (ManifestTwice v))
            (one_path p q (not_below rows others p q same first second)
            (not_below others rows q p back second first)) ∙ sym second
      ]
    ] in
    P (path_twice (in_order rows)) (path_twice (in_order others)) refl refl
