-- Data files that need not be looked up, since one that was looked up covers them.
use Rattle.std.proofs.Common.{◌≡◌, ◌<◌, ◌∙◌, ℕ, zero, suc, ◌+◌, Bool, true, false, ◌==◌, ◌&&◌, ◌||◌, List, [], ◌∷◌, ◌++◌, ap, sym}
use Rattle.std.proofs.Common.{◌⊎◌, inl, inr, Option, Some, None, arith, get_or, is_some, length, refl, take, slice_set, unwrap_or}
use Rattle.std.specs.List.{Contains, list_any}
use Rattle.std.proofs.lemmas.List.Elements.{Contains-append_cases, Contains-append_left, Contains-append_right}
use Rattle.std.proofs.lemmas.List.Folds.{list_any-append}
use Rattle.ice_value.specs.Applying.{AppliesAs, DataKey, DeleteKey, Names, SamePartition, applies}
use Rattle.ice_value.specs.declared.file_content.FileContent.{FileContent}
use Rattle.ice_value.specs.declared.file_content.FileContent.TheVariants.{Data, PositionDeletes, EqualityDeletes}
use Rattle.ice_value.proofs.Deletes.{applies-decides}
use Rattle.ice_deletes.specs.Found.{is_content}
use Rattle.ice_deletes.specs.Groups.{is_in}
use Rattle.ice_deletes.specs.declared.group.Group.TheVariants.{Referenced}
use Rattle.icescan_audit_findings.specs.Dangling.{data_files, data_of}
use Rattle.icescan_audit_findings.specs.Lookups.{AreSeen, Covers, data_lent, is_hit}
use Rattle.icescan_audit_findings.specs.declared.reaching.DataFile.{DataFile}
use Rattle.icescan_audit_findings.specs.declared.repeats.LiveFile.{LiveFile}
use Rattle.icescan_audit_findings.proofs.Hitting.{both, passes, passing}
use Rattle.icescan_audit_findings.proofs.Stepwise.{none_more, some_more}

-- ---- what applies to a data file applies to one that covers it

same_partition : (y x : DataKey) (d : DeleteKey) → Covers y x → SamePartition x d → SamePartition y d
same_partition y x d over same = (over.0 ∙ same.0, over.1 ∙ same.1)

names_too : (y x : DataKey) (d : DeleteKey) (o : Option (List ℕ)) → d.referenced ≡ o → is_some o ≡ false → Names y d
names_too y x d None e none = inl e
names_too y x d (Some path) e none = absurd cc

applies_too : (K : FileContent) (y x : DataKey) (d : DeleteKey) → Covers y x
    → (is_content PositionDeletes K && is_some d.referenced) ≡ false → AppliesAs K x d → AppliesAs K y d
applies_too Data y x d over none h = h
applies_too PositionDeletes y x d over none h =
    (omega (arith, over.2, h.0), same_partition y x d over h.1, names_too y x d d.referenced refl none)
applies_too EqualityDeletes y x d over none h = (
  omega (arith, over.2, h.0),
  elim h.1 as (λ _. SamePartition y d ⊎ (d.unpartitioned ≡ true)) [
    | inl same ↦ inl (same_partition y x d over same)
    | inr everywhere ↦ inr everywhere
  ],
)

-- a test that no element passes
fails : {X : Type 0} (p : X → Bool) (xs : List X) (x : X) → list_any p xs ≡ false → Contains xs x → p x ≡ false
fails p xs x none c = by_answer (p x) refl where
  by_answer : (b : Bool) → p x ≡ b → p x ≡ false
  by_answer true e = let yes : true ≡ false = sym (passes p xs x c e) ∙ none in absurd cc
  by_answer false e = e

pub hit_too : (index : List (ℕ × DeleteKey)) (y x : DataKey) (k : ℕ)
    → list_any (λ (e : ℕ × DeleteKey). is_in Referenced e.1) index ≡ false → Covers y x → is_hit index x k ≡ true
    → is_hit index y k ≡ true
hit_too index y x k unnamed over h =
    let p = passing (λ (e : ℕ × DeleteKey). (e.0 == k) && applies x e.1) index h in
    let parts = both (p.0.0 == k) (applies x p.0.1) p.2 in
    let d = p.0.1 in
    let none = fails (λ (e : ℕ × DeleteKey). is_in Referenced e.1) index p.0 unnamed p.1 in
    let there = applies_too d.content y x d over none ((applies-decides x d).0 parts.1) in
    passes (λ (e : ℕ × DeleteKey). (e.0 == k) && applies y e.1) index p.0 p.1
    (ap (λ b. b && applies y d) parts.0 ∙ (applies-decides y d).1 there)

-- ---- the data files among the files so far, with one that is covered

absorbed : (a b : Bool) → (b ≡ true → a ≡ true) → (a || (b || false)) ≡ a
absorbed true b h = refl
absorbed false true h = absurd (let no : false ≡ true = h refl in cc)
absorbed false false h = refl

covered_by : (o : Option DataKey) (index : List (ℕ × DeleteKey)) (files : List LiveFile) (i : ℕ) (file : LiveFile)
    (slots : List (Option DataFile)) (k : ℕ)
    → list_any (λ (e : ℕ × DeleteKey). is_in Referenced e.1) index ≡ false
    → i < length files → file ≡ get_or files i file → AreSeen (data_files (take i files)) slots → data_of file ≡ o
    → ((x : DataKey) → data_of file ≡ Some x → (y : DataFile) × Contains slots (Some y) × Covers (data_lent y) x)
    → list_any (λ x. is_hit index x k) (data_files (take (i + 1) files))
    ≡ list_any (λ x. is_hit index x k) (data_files (take i files))
covered_by None index files i file slots k unnamed low at seen e covered =
    ap (list_any (λ x. is_hit index x k)) (none_more data_of files i file low at e)
covered_by (Some x) index files i file slots k unnamed low at seen e covered =
    let p : DataKey → Bool = λ x. is_hit index x k in
    let xs = data_files (take i files) in
    let over = covered x e in
    ap (list_any p) (some_more data_of files i file x low at e)
    ∙ list_any-append p xs (x ∷ [])
    ∙ absorbed (list_any p xs) (p x) (λ h.
    passes p xs (data_lent over.0) (seen over.0 over.1) (hit_too index (data_lent over.0) x k unnamed over.2 h))

pub covered_more : (index : List (ℕ × DeleteKey)) (files : List LiveFile) (i : ℕ) (file : LiveFile)
    (slots : List (Option DataFile)) (k : ℕ)
    → list_any (λ (e : ℕ × DeleteKey). is_in Referenced e.1) index ≡ false
    → i < length files → file ≡ get_or files i file → AreSeen (data_files (take i files)) slots
    → ((x : DataKey) → data_of file ≡ Some x → (y : DataFile) × Contains slots (Some y) × Covers (data_lent y) x)
    → list_any (λ x. is_hit index x k) (data_files (take (i + 1) files))
    ≡ list_any (λ x. is_hit index x k) (data_files (take i files))
covered_more index files i file slots k unnamed low at seen covered =
    covered_by (data_of file) index files i file slots k unnamed low at seen refl covered

seen_by : (o : Option DataKey) (files : List LiveFile) (i : ℕ) (file : LiveFile) (slots : List (Option DataFile))
    → i < length files → file ≡ get_or files i file → data_of file ≡ o → AreSeen (data_files (take i files)) slots
    → AreSeen (data_files (take (i + 1) files)) slots
seen_by None files i file slots low at e seen =
    rw (none_more data_of files i file low at e) seen
seen_by (Some x) files i file slots low at e seen =
    rw (some_more data_of files i file x low at e)
    (λ y c. Contains-append_left (data_files (take i files)) (x ∷ []) (data_lent y) (seen y c))

pub seen_more : (files : List LiveFile) (i : ℕ) (file : LiveFile) (slots : List (Option DataFile))
    → i < length files → file ≡ get_or files i file → AreSeen (data_files (take i files)) slots
    → AreSeen (data_files (take (i + 1) files)) slots
seen_more files i file slots low at seen = seen_by (data_of file) files i file slots low at refl seen

-- ---- slots

one_at : {X : Type 0} (v x : X) (k : ℕ) → k < 1 → get_or (v ∷ []) k x ≡ x → x ≡ v
one_at v x zero low at = sym at
one_at v x (suc k) low at = absurd (omega (arith, low))

pub one_only : {X : Type 0} (v x : X) → Contains (v ∷ []) x → x ≡ v
one_only v x c = one_at v x c.0 c.1 c.2

set_contains : {X : Type 0} (xs : List X) (i : ℕ) (v x : X) → Contains (slice_set xs i v) x → Contains xs x ⊎ (x ≡ v)
set_contains [] i v x c = inl c
set_contains (y ∷ ys) zero v x c = elim (Contains-append_cases (v ∷ []) ys x c) as (λ _. Contains (y ∷ ys) x ⊎ (x ≡ v)) [
  | inl one ↦ inr (one_only v x one)
  | inr later ↦ inl (Contains-append_right (y ∷ []) ys x later)
]
set_contains (y ∷ ys) (suc i) v x c =
    elim (Contains-append_cases (y ∷ []) (slice_set ys i v) x c) as (λ _. Contains (y ∷ ys) x ⊎ (x ≡ v)) [
      | inl first ↦ inl (Contains-append_left (y ∷ []) ys x first)
      | inr later ↦ elim (set_contains ys i v x later) as (λ _. Contains (y ∷ ys) x ⊎ (x ≡ v)) [
        | inl there ↦ inl (Contains-append_right (y ∷ []) ys x there)
        | inr new ↦ inr new
      ]
    ]

pub seen_in_slot : (xs : List DataKey) (slots : List (Option DataFile)) (i : ℕ) (found : DataFile) → AreSeen xs slots
    → AreSeen (xs ++ data_lent found ∷ []) (slice_set slots i (Some found))
seen_in_slot xs slots i found seen y c =
    elim (set_contains slots i (Some found) (Some y) c) as (λ _. Contains (xs ++ data_lent found ∷ []) (data_lent y)) [
      | inl old ↦ Contains-append_left xs (data_lent found ∷ []) (data_lent y) (seen y old)
      | inr new ↦
          let same : y ≡ found = ap (λ o. unwrap_or o y) new in
          Contains-append_right xs (data_lent found ∷ []) (data_lent y) (0, omega arith, ap data_lent (sym same))
    ]

pub empty_more : (slots : List (Option DataFile)) → AreSeen [] slots → AreSeen [] (slots ++ None ∷ [])
empty_more slots empty y c =
    elim (Contains-append_cases slots (None ∷ []) (Some y) c) as (λ _. Contains [] (data_lent y)) [
      | inl old ↦ empty y old
      | inr new ↦ let no : Some y ≡ None = one_only None (Some y) new in absurd cc
    ]
