-- Where there is no least one, there is none at all.
use Rattle.std.proofs.Common.{◌≡◌, ℕ, ℤ, Bool, true, false, cond, List, [], ◌∷◌, ◌++◌, map, filter, fold, refl, ap, ◌∙◌}
use Rattle.std.specs.Prelude.{Option, None, Some, option_map}
use Rattle.std.specs.List.{AllByRecursion}
use Rattle.std.specs.Ordering.{int_cmp, is_lt}
use Rattle.ice_manifest.specs.declared.new_file.NewFile.{NewFile}
use Rattle.ice_catalog_changes.specs.declared.fault.PrepareFault.{PrepareFault}
use Rattle.ice_catalog_versions.specs.Refusals.{path_before, lesser_path, least_path, lesser_id, least_id, path_of}
use Rattle.ice_catalog_versions.specs.Refusals.{paths_where}

pub unmapped : {A : Type 0} (f : A → PrepareFault) (o : Option A) → option_map f o ≡ None → o ≡ None
unmapped f None h = refl
unmapped f (Some x) h = absurd cc

kept_path : (b : Bool) (p q : List ℕ) → (r : List ℕ) × (cond b (Some p) (Some q) ≡ Some r)
kept_path true p q = (p, refl)
kept_path false p q = (q, refl)

some_path : (ps : List (List ℕ)) (o : Option (List ℕ)) (b : List ℕ) → o ≡ Some b
    → (r : List ℕ) × (fold lesser_path o ps ≡ Some r)
some_path [] o b e = (b, e)
some_path (p ∷ ps) o b e =
    let k = kept_path (path_before p b) p b in
    some_path ps (lesser_path o p) k.0 (ap (λ v. lesser_path v p) e ∙ k.1)

pub no_path : (ps : List (List ℕ)) → least_path ps ≡ None → ps ≡ []
no_path [] h = refl
no_path (p ∷ ps) h = let s = some_path ps (Some p) p refl in absurd cc

kept_id : (b : Bool) (p q : ℤ) → (r : ℤ) × (cond b (Some p) (Some q) ≡ Some r)
kept_id true p q = (p, refl)
kept_id false p q = (q, refl)

some_id : (ps : List ℤ) (o : Option ℤ) (b : ℤ) → o ≡ Some b → (r : ℤ) × (fold lesser_id o ps ≡ Some r)
some_id [] o b e = (b, e)
some_id (p ∷ ps) o b e =
    let k = kept_id (is_lt (int_cmp p b)) p b in
    some_id ps (lesser_id o p) k.0 (ap (λ v. lesser_id v p) e ∙ k.1)

pub no_id : (ps : List ℤ) → least_id ps ≡ None → ps ≡ []
no_id [] h = refl
no_id (p ∷ ps) h = let s = some_id ps (Some p) p refl in absurd cc

pub both_empty : {A : Type 0} (xs ys : List A) → xs ++ ys ≡ [] → (xs ≡ []) × (ys ≡ [])
both_empty [] ys h = (refl, h)
both_empty (x ∷ xs) ys h = absurd cc

-- none passes a test that keeps nothing
pub none_passes : {A : Type 0} (test : A → Bool) (xs : List A) → filter test xs ≡ []
    → AllByRecursion (λ x. test x ≡ false) xs
none_passes test [] h = tt
none_passes {A = A} test (x ∷ xs) h =
    let P : (b : Bool) → test x ≡ b → cond b (x ∷ filter test xs) (filter test xs) ≡ []
    → AllByRecursion (λ x. test x ≡ false) (x ∷ xs) =
    λ b. elim b as (λ b. test x ≡ b → cond b (x ∷ filter test xs) (filter test xs) ≡ []
    → AllByRecursion (λ x. test x ≡ false) (x ∷ xs)) [
      | true ↦ λ e k. absurd cc
      | false ↦ λ e k. (e, none_passes test xs k)
    ] in
    P (test x) refl h

pub unnamed : (so : NewFile → Bool) (files : List NewFile) → paths_where so files ≡ [] → filter so files ≡ []
unnamed so files h = empty_map (filter so files) h where
  empty_map : (fs : List NewFile) → map path_of fs ≡ [] → fs ≡ []
  empty_map [] e = refl
  empty_map (f ∷ fs) e = absurd cc
