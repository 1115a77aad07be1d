-- The delete files that an index finds for a data file, by their numbers.
use Rattle.std.proofs.Common.{◌≡◌, ◌<◌, ◌≤◌, ℕ, zero, suc, ◌+◌, ◌==◌, Bool, true, false, not, ◌&&◌, ◌||◌, List, [], ◌∷◌}
use Rattle.std.proofs.Common.{◌++◌, map, take, drop, append-nil}
use Rattle.std.proofs.Common.{◌↔◌, length, filter, get_or, cond, refl, sym, ap, ◌∙◌, arith, subst}
use Rattle.std.specs.List.{AllByRecursion, Contains, enumerate_from, list_any}
use Rattle.std.specs.List.Sorted.{IsPermutation}
use Rattle.std.proofs.lemmas.Bool.{eq-eqb, eqb-true, ne_eqb}
use Rattle.std.proofs.lemmas.List.{get_or-map, length-map}
use Rattle.std.proofs.lemmas.List.Elements.{All-contains, All-from_recursion, filter_map-append}
use Rattle.std.proofs.Math.Bool.{or_assoc}
use Rattle.std.proofs.Math.ListN.{drop_of_length-le}
use Rattle.std.proofs.Math.Seq.{take-length}
use Rattle.std.proofs.lemmas.List.Folds.{list_any-append, list_any_at}
use Rattle.std.proofs.lemmas.List.Sorted.{Contains-permutation, IsPermutation-sym, list_any-IsPermutation}
use Rattle.ice_value.specs.Applying.{DataKey, DeleteKey, applies, applies_as}
use Rattle.ice_value.specs.declared.file_content.FileContent.{FileContent}
use Rattle.ice_value.specs.declared.file_content.FileContent.TheVariants.{Data, PositionDeletes, EqualityDeletes}
use Rattle.ice_value.proofs.Deletes.{applies-decides}
use Rattle.ice_deletes.specs.Found.{AppliesAt, holds, is_content, lent, numbered_deletes}
use Rattle.ice_deletes.specs.Unions.{AreBelow}
use Rattle.ice_deletes.specs.declared.index.Hits.{Hits}
use Rattle.icescan_audit_findings.specs.Dangling.{data_files, data_of, delete_key, is_reaching}
use Rattle.icescan_audit_findings.specs.Lookups.{AreMarks, delete_lent, is_hit}
use Rattle.icescan_audit_findings.specs.declared.deletes.DeleteFile.{DeleteFile}
use Rattle.icescan_audit_findings.specs.declared.repeats.LiveFile.{LiveFile}

-- ---- elements that pass a test

any_first : {X : Type 0} (p : X → Bool) (x : X) (xs : List X) (b : Bool) → p x ≡ b → (b || list_any p xs) ≡ true
    → (list_any p xs ≡ true → (y : X) × Contains xs y × (p y ≡ true)) → (y : X) × Contains (x ∷ xs) y × (p y ≡ true)
any_first p x xs true e h rest = (x, (0, omega arith, refl), e)
any_first p x xs false e h rest =
    let r = rest h in
    (r.0, (suc r.1.0, omega arith, r.1.2), r.2)

pub passing : {X : Type 0} (p : X → Bool) (xs : List X) → list_any p xs ≡ true
    → (y : X) × Contains xs y × (p y ≡ true)
passing p [] h = absurd cc
passing p (x ∷ xs) h = any_first p x xs (p x) refl h (passing p xs)

pub passes : {X : Type 0} (p : X → Bool) (xs : List X) (x : X) → Contains xs x → p x ≡ true → list_any p xs ≡ true
passes p xs x c h = list_any_at p xs c.0 x c.1 (ap p c.2 ∙ h)

same_answer : (a b : Bool) → (a ≡ true → b ≡ true) → (b ≡ true → a ≡ true) → a ≡ b
same_answer true b to back = sym (to refl)
same_answer false true to back = back refl
same_answer false false to back = refl

pub both : (a b : Bool) → (a && b) ≡ true → (a ≡ true) × (b ≡ true)
both true b h = (refl, h)
both false b h = absurd cc

-- ---- what is found for a data file

abbrev hit : DataKey → ℕ → ℕ × DeleteKey → Bool
hit x k e = (e.0 == k) && applies x e.1

-- a number is among those that are found just where its delete file applies
pub found_is : (index : List (ℕ × DeleteKey)) (x : DataKey) (numbers : List ℕ) (k : ℕ)
    → ((n : ℕ) → Contains numbers n ↔ AppliesAt index x n) → list_any (λ n. n == k) numbers ≡ is_hit index x k
found_is index x numbers k exact = same_answer (list_any (λ n. n == k) numbers) (is_hit index x k) to back where
  to : list_any (λ n. n == k) numbers ≡ true → is_hit index x k ≡ true
  to h =
      let p = passing (λ n. n == k) numbers h in
      let same : p.0 ≡ k = eqb-true p.0 k p.2 in
      let at = (exact p.0).0 p.1 in
      passes (hit x k) index (p.0, at.0) at.1
      (ap (λ b. b && applies x at.0) (eq-eqb p.0 k same) ∙ (applies-decides x at.0).1 at.2)

  back : is_hit index x k ≡ true → list_any (λ n. n == k) numbers ≡ true
  back h =
      let p = passing (hit x k) index h in
      let parts = both (p.0.0 == k) (applies x p.0.1) p.2 in
      passes (λ n. n == k) numbers p.0.0
      ((exact p.0.0).1 (p.0.1, p.1, (applies-decides x p.0.1).0 parts.1)) parts.0

-- each number that is found is one of the index
pub found_below : (index : List (ℕ × DeleteKey)) (x : DataKey) (numbers : List ℕ) (m : ℕ)
    → ((n : ℕ) → Contains numbers n ↔ AppliesAt index x n) → AreBelow m index → (n : ℕ) → Contains numbers n → n < m
found_below index x numbers m exact below n c =
    let at = (exact n).0 c in
    All-contains (λ (e : ℕ × DeleteKey). e.0 < m) index (n, at.0) below at.1

-- ---- the delete files of an index, numbered by their places

abbrev kept : List (ℕ × DeleteKey) → List (ℕ × DeleteKey)
kept es = filter (λ e. not (holds Data e.1)) es

never : (c : FileContent) (x : DataKey) (d : DeleteKey) → is_content Data c ≡ true → applies_as c x d ≡ false
never Data x d h = refl
never PositionDeletes x d h = absurd cc
never EqualityDeletes x d h = absurd cc

and_false : (b : Bool) → (b && false) ≡ false
and_false true = refl
and_false false = refl

or_false : (b : Bool) → (b || false) ≡ b
or_false true = refl
or_false false = refl

-- data files, which are left out, would not be hits
hits_more : (x : DataKey) (k n : ℕ) (d : DeleteKey) (es : List (ℕ × DeleteKey))
    → list_any (hit x k) (kept ((n, d) ∷ es)) ≡ (hit x k (n, d) || list_any (hit x k) (kept es))
hits_more x k n d es = go (holds Data d) refl where
  go : (b : Bool) → holds Data d ≡ b → list_any (hit x k) (cond (not b) ((n, d) ∷ kept es) (kept es))
      ≡ (hit x k (n, d) || list_any (hit x k) (kept es))
  go true e = sym (ap (λ v. v || list_any (hit x k) (kept es))
      (ap (λ v. (n == k) && v) (never d.content x d e) ∙ and_false (n == k)))
  go false e = refl

no_hit : (x : DataKey) (k n : ℕ) (ds : List DeleteKey) → k < n
    → list_any (hit x k) (kept (enumerate_from n ds)) ≡ false
no_hit x k n [] h = refl
no_hit x k n (d ∷ ds) h =
    hits_more x k n d (enumerate_from (n + 1) ds)
    ∙ ap (λ v. (v && applies x d) || list_any (hit x k) (kept (enumerate_from (n + 1) ds)))
    (ne_eqb n k (λ e. omega (arith, h, e)))
    ∙ no_hit x k (n + 1) ds (omega arith)

hit_at : (x : DataKey) (k n : ℕ) (ds : List DeleteKey) (j : ℕ) (d : DeleteKey) → j < length ds → get_or ds j d ≡ d
    → k ≡ n + j → list_any (hit x k) (kept (enumerate_from n ds)) ≡ applies x d
hit_at x k n [] j d low at is = absurd (omega (arith, low))
hit_at x k n (y ∷ ys) zero d low at is =
    hits_more x k n y (enumerate_from (n + 1) ys)
    ∙ ap (λ v. (v && applies x y) || list_any (hit x k) (kept (enumerate_from (n + 1) ys)))
    (eq-eqb n k (omega (arith, is)))
    ∙ ap (λ v. applies x y || v) (no_hit x k (n + 1) ys (omega (arith, is)))
    ∙ or_false (applies x y)
    ∙ ap (applies x) at
hit_at x k n (y ∷ ys) (suc j) d low at is =
    hits_more x k n y (enumerate_from (n + 1) ys)
    ∙ ap (λ v. (v && applies x y) || list_any (hit x k) (kept (enumerate_from (n + 1) ys)))
    (ne_eqb n k (λ e. omega (arith, is, e)))
    ∙ hit_at x k (n + 1) ys j d (omega arith) at (omega (arith, is))

-- of the index of some files one is hit just where it applies
pub hit_is : (keys : List DeleteKey) (index : List (ℕ × DeleteKey)) → IsPermutation (numbered_deletes keys) index
    → (x : DataKey) (k : ℕ) (d : DeleteKey) → k < length keys → get_or keys k d ≡ d → is_hit index x k ≡ applies x d
hit_is keys index same x k d low at =
    sym (list_any-IsPermutation (hit x k) (numbered_deletes keys) index same)
    ∙ hit_at x k 0 keys k d low at (omega arith)

numbers_below : (keys : List DeleteKey) (m n : ℕ) → m + length keys ≤ n
    → AllByRecursion (λ (e : ℕ × DeleteKey). e.0 < n) (kept (enumerate_from m keys))
numbers_below [] m n h = tt
numbers_below (d ∷ ds) m n h = go (holds Data d) (numbers_below ds (m + 1) n (omega arith)) where
  go : (b : Bool) → AllByRecursion (λ (e : ℕ × DeleteKey). e.0 < n) (kept (enumerate_from (m + 1) ds))
      → AllByRecursion (λ (e : ℕ × DeleteKey). e.0 < n)
      (cond (not b) ((m, d) ∷ kept (enumerate_from (m + 1) ds)) (kept (enumerate_from (m + 1) ds)))
  go true rest = rest
  go false rest = (omega arith, rest)

pub index_below : (keys : List DeleteKey) (index : List (ℕ × DeleteKey)) → IsPermutation (numbered_deletes keys) index
    → AreBelow (length keys) index
index_below keys index same =
    let P : ℕ × DeleteKey → Type 0 = λ e. e.0 < length keys in
    let all = All-from_recursion P (numbered_deletes keys) (numbers_below keys 0 (length keys) (omega arith)) in
    λ i e low. All-contains P (numbered_deletes keys) (get_or index i e) all
    (Contains-permutation index (numbered_deletes keys) (get_or index i e)
    (IsPermutation-sym (numbered_deletes keys) index same) (
      i,
      low,
      let same : get_or index i (get_or index i e)
          ≡ get_or index i e = get_or_default index i e low in same,
    ))
  where
    get_or_default : {X : Type 0} (xs : List X) (i : ℕ) (d : X) → i < length xs
        → get_or xs i (get_or xs i d) ≡ get_or xs i d
    get_or_default [] i d low = absurd (omega (arith, low))
    get_or_default (x ∷ xs) zero d low = refl
    get_or_default (x ∷ xs) (suc i) d low = get_or_default xs i d (omega arith)

-- what is found in the finder is found in its index
pub in_index : (finder index : List (ℕ × DeleteKey)) (x : DataKey) (hits : Hits) → finder ≡ index
    → ((n : ℕ) → Contains (lent hits) n ↔ AppliesAt finder x n)
    → (n : ℕ) → Contains (lent hits) n ↔ AppliesAt index x n
in_index finder index x hits same exact =
    subst (λ (i : List (ℕ × DeleteKey)). (n : ℕ) → Contains (lent hits) n ↔ AppliesAt i x n) same exact

-- ---- marks

-- the marks of one data file more
pub marks_more : (index : List (ℕ × DeleteKey)) (xs : List DataKey) (x : DataKey) (numbers : List ℕ) (k : ℕ)
    (old before after : Bool) → ((n : ℕ) → Contains numbers n ↔ AppliesAt index x n)
    → before ≡ (old || list_any (λ y. is_hit index y k) xs) → after ≡ (before || list_any (λ n. n == k) numbers)
    → after ≡ (old || list_any (λ y. is_hit index y k) (xs ++ x ∷ []))
marks_more index xs x numbers k old before after exact h marked =
    let p : DataKey → Bool = λ y. is_hit index y k in
    marked
    ∙ ap (λ b. b || list_any (λ n. n == k) numbers) h
    ∙ ap (λ b. (old || list_any p xs) || b) (found_is index x numbers k exact)
    ∙ or_assoc old (list_any p xs) (p x)
    ∙ ap (λ b. old || b) (sym (list_any-append p xs (x ∷ []) ∙ ap (λ b. list_any p xs || b) (or_false (p x))))

any_alike : {X : Type 0} (p q : X → Bool) (xs : List X) → ((x : X) → p x ≡ q x) → list_any p xs ≡ list_any q xs
any_alike p q [] h = refl
any_alike p q (x ∷ xs) h = ap (λ b. b || list_any p xs) (h x) ∙ ap (λ b. q x || b) (any_alike p q xs h)

-- the mark of a delete file tells whether it applies to a data file
pub mark_tells : (keys : List DeleteKey) (index : List (ℕ × DeleteKey)) → IsPermutation (numbered_deletes keys) index
    → (xs : List DataKey) (k : ℕ) (d : DeleteKey) (old after : Bool) → k < length keys → get_or keys k d ≡ d
    → old ≡ false → after ≡ (old || list_any (λ x. is_hit index x k) xs) → after ≡ list_any (λ x. applies x d) xs
mark_tells keys index same xs k d old after low at none h =
    h
    ∙ ap (λ b. b || list_any (λ x. is_hit index x k) xs) none
    ∙ any_alike (λ x. is_hit index x k) (λ x. applies x d) xs (λ x. hit_is keys index same x k d low at)

-- a list that has at each place what a test says of the element there
pub all_at : {X : Type 0} (p : X → Bool) (xs : List X) (marks : List Bool) → length marks ≡ length xs
    → ((k : ℕ) (x : X) → k < length xs → get_or xs k x ≡ x → get_or marks k false ≡ p x) → marks ≡ map p xs
all_at p [] [] many h = refl
all_at p [] (m ∷ ms) many h = absurd (omega (arith, many))
all_at p (x ∷ xs) [] many h = absurd (omega (arith, many))
all_at p (x ∷ xs) (m ∷ ms) many h =
    ap (λ v. v ∷ ms) (h 0 x (omega arith) refl)
    ∙ ap (λ vs. p x ∷ vs) (all_at p xs ms (omega (arith, many)) (λ k y low at. h (suc k) y (omega arith) at))

-- a list that was written over as a whole
pub written : {X : Type 0} (n : ℕ) (new old : List X) → n ≡ length old → length new ≡ length old
    → take n (new ++ drop (length new) old) ≡ new
written n new old many same =
    let none : drop (length new) old ≡ [] = drop_of_length-le old (omega (arith, same)) in
    let all : n ≡ length new = omega (arith, many, same) in
    ap (λ rest. take n (new ++ rest)) none ∙ ap (take n) (append-nil new) ∙ ap (λ k. take k new) all ∙ take-length new

-- ---- the marks of parts of the files

pub both_marks : (files front back : List LiveFile) (index : List (ℕ × DeleteKey)) (deletes : ℕ)
    (first others new : List Bool) → files ≡ front ++ back → AreMarks deletes index (data_files front) first
    → AreMarks deletes index (data_files back) others → length new ≡ length first
    → ((k : ℕ) → k < length first → get_or new k false ≡ (get_or first k false || get_or others k false))
    → AreMarks deletes index (data_files files) new
both_marks files front back index deletes first others new parts h o many marked = (
  many ∙ h.0,
  λ k low.
      let p : DataKey → Bool = λ x. is_hit index x k in
      let all : data_files files ≡ data_files front ++ data_files back = ap data_files parts
      ∙ filter_map-append data_of front back in
      marked k (omega (arith, low, h.0))
      ∙ ap (λ b. b || get_or others k false) (h.1 k low)
      ∙ ap (λ b. list_any p (data_files front) || b) (o.1 k low)
      ∙ sym (ap (list_any p) all ∙ list_any-append p (data_files front) (data_files back)),
)

-- ---- the marks of all delete files

abbrev key_at : DeleteFile → DeleteKey
key_at d = delete_key (delete_lent d).1

pub marks_below : (deletes : List DeleteFile) (index : List (ℕ × DeleteKey))
    → IsPermutation (numbered_deletes (map key_at deletes)) index → AreBelow (length deletes) index
marks_below deletes index same =
    subst (λ n. AreBelow n index) (length-map deletes key_at) (index_below (map key_at deletes) index same)

pub marks_tell : (deletes : List DeleteFile) (index : List (ℕ × DeleteKey)) (xs : List DataKey) (marks : List Bool)
    → IsPermutation (numbered_deletes (map key_at deletes)) index → AreMarks (length deletes) index xs marks
    → marks ≡ map (λ d. is_reaching xs (delete_lent d).1) deletes
marks_tell deletes index xs marks same h =
    let keys = map key_at deletes in
    all_at (λ d. is_reaching xs (delete_lent d).1) deletes marks h.0 (λ k d low at.
    mark_tells keys index same xs k (key_at d) false (get_or marks k false)
    (omega (arith, low, length-map deletes key_at))
    (get_or-map key_at deletes k d (key_at d) low ∙ ap key_at at) refl (h.1 k low))
