-- An orphan is unknown, and old enough.
use Rattle.std.proofs.Common.{◌≡◌, ◌<◌, ◌||◌, ℕ, Bool, true, false, List, [], ◌∷◌, Some, None, Option, map}
use Rattle.std.proofs.Common.{if◌then◌else◌, arith, ap, inl, inr, refl, subst, sym, tests, ◌∙◌}
use Rattle.std.specs.Prelude.{nat_le}
use Rattle.std.specs.List.{Contains}
use Rattle.std.specs.Str.{bytes_eq}
use Rattle.std.proofs.lemmas.List.Elements.{Contains-append_cases}
use Rattle.std.proofs.lemmas.Slice.Eq.{bytes_eq-Decides}
use Rattle.icescan_paths.specs.Paths.{has}
use Rattle.icescan_paths.specs.Spelling.{plain}
use Rattle.icescan_paths.specs.Strays.{AreNoKnownOrphans, AreOldOrphans, kind_of, stray_where, strays_beside}
use Rattle.icescan_paths.specs.declared.aged.AgedFile.{AgedFile}
use Rattle.icescan_paths.specs.declared.aged.Stray.{Stray}
use Rattle.icescan_paths.specs.declared.aged.StrayKind.{StrayKind}
use Rattle.icescan_paths.specs.declared.aged.StrayKind.TheVariants as kind
use Rattle.icescan_paths.proofs.Members.{cases_of, here, later, nowhere}

pub has_known : (paths : List (List ℕ)) (path : List ℕ) → Contains paths path → has paths path ≡ true
has_known [] path h = absurd (nowhere path h)
has_known (p ∷ paths) path h = elim (cases_of p paths path h) as (λ _. has (p ∷ paths) path ≡ true) [
  | inl e ↦ ap (λ b. b || has paths path) ((bytes_eq-Decides p path).1 e)
  | inr i ↦ let rest = has_known paths path i in rw rest (or_true (bytes_eq p path))
]
  where
    or_true : (b : Bool) → (b || true) ≡ true
    or_true true = refl
    or_true false = refl

pub mapped : {X Y : Type 0} (f : X → Y) (xs : List X) (x : X) → Contains xs x → Contains (map f xs) (f x)
mapped f [] x h = absurd (nowhere x h)
mapped f (first ∷ xs) x h = elim (cases_of first xs x h) as (λ _. Contains (map f (first ∷ xs)) (f x)) [
  | inl e ↦ here (f first) (map f xs) (f x) (ap f e)
  | inr i ↦ later (f first) (map f xs) (f x) (mapped f xs x i)
]

-- the tests that an orphan fails
unknown_and_old : (known spelled young : Bool)
    → (if known then None else if spelled || young then Some kind.Doubtful else Some kind.Orphan) ≡ Some kind.Orphan
    → (spelled ≡ false) × (young ≡ false)
unknown_and_old true spelled young h = absurd cc
unknown_and_old false true young h = absurd cc
unknown_and_old false false true h = absurd cc
unknown_and_old false false false h = (refl, refl)

where_is : (found : Option StrayKind) (path wanted : List ℕ)
    → Contains (stray_where found path) (record { kind = kind.Orphan; path = wanted })
    → (found ≡ Some kind.Orphan) × (path ≡ wanted)
where_is None path wanted h = absurd (nowhere _ h)
where_is (Some k) path wanted h =
    elim (cases_of (record { kind = k; path = path }) [] (record { kind = kind.Orphan; path = wanted }) h)
    as (λ _. (Some k ≡ Some kind.Orphan) × (path ≡ wanted)) [
      | inl e ↦ (ap (λ (s : Stray). Some s.kind) e, ap (λ (s : Stray). s.path) e)
      | inr i ↦ absurd (nowhere _ i)
    ]

-- the file that an orphan is
file_of : (paths plains : List (List ℕ)) (older : ℕ) (files : List AgedFile) (path : List ℕ)
    → Contains (strays_beside paths plains older files) (record { kind = kind.Orphan; path = path })
    → (file : AgedFile) × Contains files file × (kind_of paths plains older file ≡ Some kind.Orphan)
    × (file.path ≡ path)
file_of paths plains older [] path h = absurd (nowhere _ h)
file_of paths plains older (first ∷ files) path h =
    elim (Contains-append_cases (stray_where (kind_of paths plains older first) first.path)
    (strays_beside paths plains older files) (record { kind = kind.Orphan; path = path }) h)
    as (λ _. (file : AgedFile) × Contains (first ∷ files) file
    × (kind_of paths plains older file ≡ Some kind.Orphan) × (file.path ≡ path)) [
      | inl i ↦
          let is = where_is (kind_of paths plains older first) first.path path i in
          (first, here first files first refl, is.0, is.1)
      | inr i ↦
          let w = file_of paths plains older files path i in (w.0, later first files w.0 w.1, w.2, w.3)
    ]

older_than : (age older : ℕ) → nat_le age older ≡ false → older < age
older_than age older h = grind (arith, tests)

pub no_known : AreNoKnownOrphans
no_known known older files path other h i e =
    let w = file_of known (map plain known) older files path h in
    let tests = unknown_and_old (has known w.0.path) (has (map plain known) (plain w.0.path))
    (nat_le w.0.age_ms older) w.2 in
    let found = has_known (map plain known) (plain other) (mapped plain known other i) in
    let not_found : has (map plain known) (plain path) ≡ false =
    subst (λ (p : List ℕ). has (map plain known) (plain p) ≡ false) w.3 tests.0 in
    let both : true ≡ false = sym found ∙ ap (has (map plain known)) e ∙ not_found in cc

pub all_old : AreOldOrphans
all_old known older files path h =
    let w = file_of known (map plain known) older files path h in
    let tests = unknown_and_old (has known w.0.path) (has (map plain known) (plain w.0.path))
    (nat_le w.0.age_ms older) w.2 in
    (w.0, w.1, w.3, older_than w.0.age_ms older tests.1)
