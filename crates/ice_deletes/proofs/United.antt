-- The files of two indexes as those of one.
use Rattle.std.proofs.Common.{◌≡◌, ℕ, zero, suc, ◌+◌, ◌<◌, ◌≤◌, ◌≢◌, ◌==◌, Bool, true, false, not, List, [], ◌∷◌}
use Rattle.std.proofs.Common.{◌++◌, length, map, filter, get_or, cond, refl, sym, ap, subst, ◌∙◌, arith, append_assoc}
use Rattle.std.proofs.Common.{eq-eqb, eqb-true, slice_index, ◌⊎◌, inl, inr, ◌||◌}
use Rattle.std.specs.List.{AllByRecursion, AllPairs, Contains, count_by, list_any}
use Rattle.std.specs.List.Sorted.{IsPermutation}
use Rattle.std.proofs.lemmas.List.{map-append}
use Rattle.std.proofs.lemmas.List.Elements.{recursion_from_All, filter-append}
use Rattle.std.proofs.lemmas.List.Elements.{Contains-append_left, Contains-append_right, Contains-append_cases}
use Rattle.std.proofs.lemmas.List.Sorted.{Contains-permutation, IsPermutation-append, IsPermutation-append_comm}
use Rattle.std.proofs.lemmas.List.Sorted.{IsPermutation-refl, IsPermutation-sym, IsPermutation-trans}
use Rattle.std.proofs.lemmas.List.Sorted.{list_any-IsPermutation, sum_by-IsPermutation}
use Rattle.std.proofs.lemmas.List.Sums.{sum_by-append, sum_by-cons}
use Rattle.ice_value.specs.Applying.{DeleteKey}
use Rattle.ice_deletes.specs.Indexes.{AreDistinct}
use Rattle.ice_deletes.specs.Unions.{renumbered, unheld, AreBelow, Agree, IsUnion}

-- two lists, each with what was put behind it
interleaved : {X : Type 0} (x y u v : List X) → IsPermutation ((x ++ y) ++ (u ++ v)) ((x ++ u) ++ (y ++ v))
interleaved {X} x y u v =
    let moved : IsPermutation (x ++ ((y ++ u) ++ v)) (x ++ ((u ++ y) ++ v)) =
    IsPermutation-append x x ((y ++ u) ++ v) ((u ++ y) ++ v) (IsPermutation-refl x)
    (IsPermutation-append (y ++ u) (u ++ y) v v (IsPermutation-append_comm y u) (IsPermutation-refl v)) in
    let front : x ++ ((y ++ u) ++ v) ≡ (x ++ y) ++ (u ++ v) =
    ap (λ l. x ++ l) (append_assoc y u v) ∙ sym (append_assoc x y (u ++ v)) in
    let back : x ++ ((u ++ y) ++ v) ≡ (x ++ u) ++ (y ++ v) =
    ap (λ l. x ++ l) (append_assoc u y v) ∙ sym (append_assoc x u (y ++ v)) in
    let P : List X → Type 0 = λ l. IsPermutation l (x ++ ((u ++ y) ++ v)) in
    let Q : List X → Type 0 = λ l. IsPermutation ((x ++ y) ++ (u ++ v)) l in
    subst Q back (subst P front moved)

pub both_grown : {X : Type 0} (x y u v all more : List X) → IsPermutation (x ++ u) all → IsPermutation (y ++ v) more
    → IsPermutation ((x ++ y) ++ (u ++ v)) (all ++ more)
both_grown x y u v all more p q = IsPermutation-trans ((x ++ y) ++ (u ++ v)) ((x ++ u) ++ (y ++ v)) (all ++ more)
    (interleaved x y u v) (IsPermutation-append (x ++ u) all (y ++ v) more p q)

abbrev here : List ℕ → ℕ × DeleteKey → ℕ × DeleteKey
here to e = (slice_index to e.0, e.1)

pub unheld-append : (held to : List ℕ) (es fs : List (ℕ × DeleteKey))
    → unheld held (renumbered to (es ++ fs)) ≡ unheld held (renumbered to es) ++ unheld held (renumbered to fs)
unheld-append held to es fs = ap (unheld held) (map-append (here to) es fs)
    ∙ filter-append (λ e. not (list_any (λ n. n == e.0) held)) (renumbered to es) (renumbered to fs)

-- the files of four shelves
pub all_grown : (held to : List ℕ) (a b c d e f g h k l m n : List (ℕ × DeleteKey))
    → IsPermutation (a ++ unheld held (renumbered to e)) k → IsPermutation (b ++ unheld held (renumbered to f)) l
    → IsPermutation (c ++ unheld held (renumbered to g)) m → IsPermutation (d ++ unheld held (renumbered to h)) n
    → IsPermutation ((a ++ b ++ c ++ d) ++ unheld held (renumbered to (e ++ f ++ g ++ h))) (k ++ l ++ m ++ n)
all_grown held to a b c d e f g h k l m n p q r s =
    let new : List (ℕ × DeleteKey) → List (ℕ × DeleteKey) = λ es. unheld held (renumbered to es) in
    let parts : new (e ++ f ++ g ++ h) ≡ new e ++ new f ++ new g ++ new h =
    unheld-append held to (e ++ f ++ g) h
    ∙ ap (λ es. es ++ new h) (unheld-append held to (e ++ f) g ∙ ap (λ es. es ++ new g) (unheld-append held to e f)) in
    let P : List (ℕ × DeleteKey) → Type 0 = λ es. IsPermutation ((a ++ b ++ c ++ d) ++ es) (k ++ l ++ m ++ n) in
    subst P (sym parts) (both_grown (a ++ b ++ c) d (new e ++ new f ++ new g) (new h) (k ++ l ++ m) n
    (both_grown (a ++ b) c (new e ++ new f) (new g) (k ++ l) m (both_grown a b (new e) (new f) k l p q) r) s)

further : {X : Type 0} (x : X) (xs : List X) (y : X) → Contains xs y → Contains (x ∷ xs) y
further x xs y h = (suc h.0, omega arith, h.2)

head_or_tail : {X : Type 0} (x : X) (xs : List X) (y : X) → Contains (x ∷ xs) y → (x ≡ y) ⊎ Contains xs y
head_or_tail x xs y (zero, low, e) = inl e
head_or_tail x xs y (suc k, low, e) = inr (k, omega arith, e)

-- what a test leaves
pub passing : {X : Type 0} (p : X → Bool) (xs : List X) (x : X) → Contains xs x → p x ≡ true → Contains (filter p xs) x
passing p [] x (k, low, e) h = absurd (omega arith)
passing {X} p (y ∷ ys) x c h =
    let P : Bool → Type 0 = λ v. Contains (cond v (y ∷ filter p ys) (filter p ys)) x in
    elim (head_or_tail y ys x c) [
      | inl at ↦ let first : p y ≡ true = ap p at ∙ h in subst P (sym first) (0, omega arith, at)
      | inr tail ↦ let rest = passing p ys x tail h in
          elim (p y) as (λ v. P v) [ true ↦ further y (filter p ys) x rest | false ↦ rest ]
    ]

passed_if : {X : Type 0} (p : X → Bool) (y : X) (ys : List X) (x : X) (b : Bool) → p y ≡ b
    → (Contains (filter p ys) x → Contains ys x × (p x ≡ true)) → Contains (cond b (y ∷ filter p ys) (filter p ys)) x
    → Contains (y ∷ ys) x × (p x ≡ true)
passed_if p y ys x true e rest c = elim (head_or_tail y (filter p ys) x c) [
  | inl at ↦ ((0, omega arith, at), ap p (sym at) ∙ e)
  | inr tail ↦ let r = rest tail in (further y ys x r.0, r.1)
]
passed_if p y ys x false e rest c = let r = rest c in (further y ys x r.0, r.1)

pub passed : {X : Type 0} (p : X → Bool) (xs : List X) (x : X) → Contains (filter p xs) x → Contains xs x × (p x ≡ true)
passed p [] x (k, low, e) = absurd (omega arith)
passed p (y ∷ ys) x c = passed_if p y ys x (p y) refl (λ d. passed p ys x d) c

-- how often a number is given
abbrev pub times : ℕ → List (ℕ × DeleteKey) → ℕ
times n es = count_by (λ e. e.0 == n) es

any_number : (n : ℕ) (es : List (ℕ × DeleteKey)) → list_any (λ m. m == n) (map (λ e. e.0) es) ≡ true
    → (d : DeleteKey) × Contains es (n, d)
any_number n [] h = absurd cc
any_number n (e ∷ es) h = go (e.0 == n) refl (λ r. any_number n es r) h where
  go : (b : Bool) → (e.0 == n) ≡ b
      → (list_any (λ m. m == n) (map (λ (e : ℕ × DeleteKey). e.0) es) ≡ true → (d : DeleteKey) × Contains es (n, d))
      → (b || list_any (λ m. m == n) (map (λ (e : ℕ × DeleteKey). e.0) es)) ≡ true
      → (d : DeleteKey) × Contains (e ∷ es) (n, d)
  go true at rest h = (e.1, (0, omega arith, ap (λ (m : ℕ). (m, e.1)) (eqb-true e.0 n at)))
  go false at rest h = let r = rest h in (r.0, further e es (n, r.0) r.1)

no_number : (n : ℕ) (es : List (ℕ × DeleteKey)) → list_any (λ m. m == n) (map (λ e. e.0) es) ≡ false → times n es ≡ 0
no_number n [] h = refl
no_number n (e ∷ es) h = sum_by-cons (λ (e : ℕ × DeleteKey). cond (e.0 == n) 1 0) e es
    ∙ go (e.0 == n) (λ r. no_number n es r) h where
      go : (b : Bool) → (list_any (λ m. m == n) (map (λ (e : ℕ × DeleteKey). e.0) es) ≡ false → times n es ≡ 0)
          → (b || list_any (λ m. m == n) (map (λ (e : ℕ × DeleteKey). e.0) es)) ≡ false → cond b 1 0 + times n es ≡ 0
      go true rest h = absurd cc
      go false rest h = let r = rest h in omega arith

-- a test never gives a number more often
fewer_times : (p : ℕ × DeleteKey → Bool) (es : List (ℕ × DeleteKey)) (n : ℕ) → times n (filter p es) ≤ times n es
fewer_times p [] n = omega arith
fewer_times p (e ∷ es) n =
    let rest = fewer_times p es n in
    let all : times n (e ∷ es) ≡ cond (e.0 == n) 1 0 + times n es = sum_by-cons
    (λ (e : ℕ × DeleteKey). cond (e.0 == n) 1 0) e es in
    elim (p e) as (λ v. times n (cond v (e ∷ filter p es) (filter p es)) ≤ times n (e ∷ es)) [
      | true ↦ let one : times n (e ∷ filter p es) ≡ cond (e.0 == n) 1 0 + times n (filter p es) =
          sum_by-cons (λ (e : ℕ × DeleteKey). cond (e.0 == n) 1 0) e (filter p es) in omega arith
      | false ↦ omega arith
    ]

abbrev one_if : Bool → ℕ
one_if b = cond b 1 0

-- a number that is held is not given
held_never : (held : List ℕ) (n : ℕ) → list_any (λ m. m == n) held ≡ true → (es : List (ℕ × DeleteKey))
    → times n (unheld held es) ≡ 0
held_never held n h [] = refl
held_never held n h (e ∷ es) =
    go (list_any (λ m. m == e.0) held) refl (held_never held n h es)
  where
    other : (b : Bool) → (e.0 == n) ≡ b → list_any (λ m. m == e.0) held ≡ false → one_if b ≡ 0
    other true at free =
        let P : ℕ → Type 0 = λ m. list_any (λ k. k == m) held ≡ false in
        let none : list_any (λ k. k == n) held ≡ false = subst P (eqb-true e.0 n at) free in
        absurd cc
    other false at free = refl

    go : (b : Bool) → list_any (λ m. m == e.0) held ≡ b → times n (unheld held es) ≡ 0
        → times n (cond (not b) (e ∷ unheld held es) (unheld held es)) ≡ 0
    go true at rest = rest
    go false at rest =
        let one = sum_by-cons (λ (e : ℕ × DeleteKey). cond (e.0 == n) 1 0) e (unheld held es) in
        let none = other (e.0 == n) refl at in
        omega (arith, one, none, rest)

-- a number is given once under new numbers that are all different
injective : (to : List ℕ) → AllPairs (λ n m. n ≢ m) to → (i j : ℕ) → i < length to → j < length to
    → get_or to i 0 ≡ get_or to j 0 → i ≡ j
injective to once i j low lower same = elim (order i j) [
  | inl less ↦ absurd (once i j 0 less lower same)
  | inr rest ↦ elim rest [ inl more ↦ absurd (once j i 0 more low (sym same)) | inr e ↦ e ]
] where
  order : (i j : ℕ) → (i < j) ⊎ ((j < i) ⊎ (i ≡ j))
  order i j = grind arith

module _ (to : List ℕ) (once : AllPairs (λ n m. n ≢ m) to) (n : ℕ) where
  abbrev given : List (ℕ × DeleteKey) → ℕ
  given es = times n (renumbered to es)

  -- among files that are all of one number where they get this one
  at_most_of : (k : ℕ) → k < length to → get_or to k 0 ≡ n → (es : List (ℕ × DeleteKey))
      → AllByRecursion (λ e. e.0 < length to) es → given es ≤ times k es
  at_most_of k low at [] below = omega arith
  at_most_of k low at (e ∷ es) below =
      let rest = at_most_of k low at es below.1 in
      let one : given (e ∷ es) ≡ one_if (get_or to e.0 0 == n) + given es = sum_by-cons
      (λ (e : ℕ × DeleteKey). cond (e.0 == n) 1 0) (here to e) (renumbered to es) in
      let other : times k (e ∷ es) ≡ one_if (e.0 == k) + times k es = sum_by-cons
      (λ (e : ℕ × DeleteKey). cond (e.0 == k) 1 0) e es in
      let first = go (get_or to e.0 0 == n) refl in
      omega arith
    where
      go : (b : Bool) → (get_or to e.0 0 == n) ≡ b → one_if b ≤ one_if (e.0 == k)
      go true h =
          let same : e.0 ≡ k = injective to once e.0 k below.0 low (eqb-true (get_or to e.0 0) n h ∙ sym at) in
          let hit : (e.0 == k) ≡ true = eq-eqb e.0 k same in
          let P : Bool → Type 0 = λ v. 1 ≤ one_if v in
          subst P (sym hit) (omega arith)
      go false h = omega arith

  pub given_once : (es : List (ℕ × DeleteKey)) → AllByRecursion (λ e. e.0 < length to) es
      → ((k : ℕ) → times k es ≤ 1) → given es ≤ 1
  given_once [] below distinct = omega arith
  given_once (e ∷ es) below distinct =
      go (get_or to e.0 0 == n) refl (given_once es below.1 (λ k. fewer_behind k))
    where
      fewer_behind : (k : ℕ) → times k es ≤ 1
      fewer_behind k =
          let all : times k (e ∷ es) ≡ one_if (e.0 == k) + times k es = sum_by-cons
          (λ (e : ℕ × DeleteKey). cond (e.0 == k) 1 0) e es in
          let most = distinct k in
          omega arith

      go : (b : Bool) → (get_or to e.0 0 == n) ≡ b → given es ≤ 1 → given (e ∷ es) ≤ 1
      go true h rest =
          let some = at_most_of e.0 below.0 (eqb-true (get_or to e.0 0) n h) (e ∷ es) below in
          let most = distinct e.0 in
          omega arith
      go false h rest =
          let one : given (e ∷ es) ≡ one_if (get_or to e.0 0 == n) + given es = sum_by-cons
          (λ (e : ℕ × DeleteKey). cond (e.0 == n) 1 0) (here to e) (renumbered to es) in
          let none : one_if (get_or to e.0 0 == n) ≡ 0 = ap one_if h in
          omega arith

pub renumbered_once : (to : List ℕ) (es : List (ℕ × DeleteKey)) → AllPairs (λ n m. n ≢ m) to
    → AreBelow (length to) es → AreDistinct es → AreDistinct (renumbered to es)
renumbered_once to es once below distinct n =
    given_once to once n es (recursion_from_All (λ e. e.0 < length to) es below) distinct

-- this index's files and those of the other one that it lacks are the union
module _ (files more all : List (ℕ × DeleteKey)) (held : List ℕ) (numbers : IsPermutation (map (λ e. e.0) files) held)
    (grown : IsPermutation (files ++ unheld held more) all) (agree : Agree files more) where
  here_or_free : (n : ℕ) (d : DeleteKey) → Contains more (n, d) → (b : Bool) → list_any (λ m. m == n) held ≡ b
      → Contains files (n, d) ⊎ Contains (unheld held more) (n, d)
  here_or_free n d c true h =
      let there = any_number n files (list_any-IsPermutation (λ m. m == n) (map (λ (e : ℕ × DeleteKey). e.0) files) held
      numbers ∙ h) in
      let same : there.0 ≡ d = agree n there.0 d there.1 c in
      let P : DeleteKey → Type 0 = λ k. Contains files (n, k) in
      inl (subst P same there.1)
  here_or_free n d c false h = inr (passing (λ e. not (list_any (λ m. m == e.0) held)) more (n, d) c (ap not h))

  into : (n : ℕ) (d : DeleteKey) → Contains all (n, d) → Contains files (n, d) ⊎ Contains more (n, d)
  into n d c =
      let both : Contains (files ++ unheld held more) (n, d) = Contains-permutation all (files ++ unheld held more)
      (n, d) (IsPermutation-sym (files ++ unheld held more) all grown) c in
      elim (Contains-append_cases files (unheld held more) (n, d) both) [
        | inl there ↦ inl there
        | inr fresh ↦ inr ((passed (λ e. not (list_any (λ m. m == e.0) held)) more (n, d) fresh).0)
      ]

  out_of : (n : ℕ) (d : DeleteKey) → Contains files (n, d) ⊎ Contains more (n, d) → Contains all (n, d)
  out_of n d (inl there) = Contains-permutation (files ++ unheld held more) all (n, d) grown
      (Contains-append_left files (unheld held more) (n, d) there)
  out_of n d (inr other) =
      let both : Contains (files ++ unheld held more) (n, d) =
      elim (here_or_free n d other (list_any (λ m. m == n) held) refl) [
        | inl there ↦ Contains-append_left files (unheld held more) (n, d) there
        | inr fresh ↦ Contains-append_right files (unheld held more) (n, d) fresh
      ] in
      Contains-permutation (files ++ unheld held more) all (n, d) grown both

  all_times : (n : ℕ) → times n all ≡ times n files + times n (unheld held more)
  all_times n = let one : ℕ × DeleteKey → ℕ = λ e. cond (e.0 == n) 1 0 in
      sum_by-IsPermutation one (files ++ unheld held more) all grown ∙ sum_by-append one files (unheld held more)

  each_once : AreDistinct files → AreDistinct more → (n : ℕ) → (b : Bool) → list_any (λ m. m == n) held ≡ b
      → times n all ≤ 1
  each_once first second n true h =
      let none = held_never held n h more in
      let most = first n in
      let sum = all_times n in
      omega arith
  each_once first second n false h =
      let none : times n files ≡ 0 = no_number n files (list_any-IsPermutation (λ m. m == n)
      (map (λ (e : ℕ × DeleteKey). e.0) files) held numbers ∙ h) in
      let most = second n in
      let some = fewer_times (λ e. not (list_any (λ m. m == e.0) held)) more n in
      let sum = all_times n in
      omega arith

  pub united : AreDistinct files → AreDistinct more → IsUnion files more all
  united first second = record {
    same = λ n d. (into n d, out_of n d);
    once = λ n. each_once first second n (list_any (λ m. m == n) held) refl;
  }

-- nothing is taken in where there is nothing
pub united_with_none : (files more : List (ℕ × DeleteKey)) → more ≡ [] → AreDistinct files → IsUnion files more files
united_with_none files more none distinct = record {
  same = λ n d. (λ c. inl c, λ both. elim both [ inl c ↦ c | inr c ↦ absurd (nowhere n d c) ]);
  once = distinct;
} where
  nowhere : (n : ℕ) (d : DeleteKey) → Contains more (n, d) → ⊥
  nowhere n d (k, low, at) = let e : length more ≡ 0 = ap length none in omega arith
