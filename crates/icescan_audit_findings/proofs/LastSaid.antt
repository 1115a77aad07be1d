-- What pairs say last.
use Rattle.std.proofs.Common.{◌≡◌, ℕ, ◌+◌, ◌<◌, ℤ, Bool, true, false, List, [], ◌∷◌, ◌++◌, length, get_or}
use Rattle.std.proofs.Common.{set, take, pos, refl, sym, ap, ◌∙◌, cond, subst, Option, None, Some, reverse}
use Rattle.std.specs.Prelude.{option_map, find}
use Rattle.std.specs.Ordering.{int_eq}
use Rattle.std.proofs.lemmas.List.{reverse-append, take_more, get_or-set_same, get_or-set_other}
use Rattle.std.proofs.lemmas.Bool.Decides.{Decides-int_eq}
use Rattle.ice_value.specs.Pairs.{last_of}
use Rattle.icescan_audit_findings.specs.Ids.{Rises}
use Rattle.icescan_audit_findings.proofs.Rising.{one_place}

abbrev at : List ℤ → ℕ → ℤ
at ids k = get_or ids k (pos 0)

module _ {T : Type 0} where
  abbrev said_of : ℤ × T → T
  said_of p = p.1

  last_first : (id : ℤ) (p : ℤ × T) (xs : List (ℤ × T)) (b : Bool) → int_eq p.0 id ≡ b
      → option_map said_of (find (λ (q : ℤ × T). int_eq q.0 id) (p ∷ xs))
      ≡ cond b (Some p.1) (option_map said_of (find (λ (q : ℤ × T). int_eq q.0 id) xs))
  last_first id p xs true h = rw h refl
  last_first id p xs false h = rw h refl

  -- one more pair
  pub last_more : (id : ℤ) (pairs : List (ℤ × T)) (i : ℕ) (p : ℤ × T) (b : Bool) → i < length pairs
      → p ≡ get_or pairs i p
      → int_eq p.0 id ≡ b → last_of id (take (i + 1) pairs) ≡ cond b (Some p.1) (last_of id (take i pairs))
  last_more id pairs i p b low is test =
      ap (last_of id) (take_more pairs i p low ∙ ap (λ (q : ℤ × T). take i pairs ++ q ∷ []) (sym is))
      ∙ ap (λ xs. option_map said_of (find (λ (q : ℤ × T). int_eq q.0 id) xs)) (reverse-append (take i pairs) (p ∷ []))
      ∙ last_first id p (reverse (take i pairs)) b test

  abbrev IsTold : List ℤ → List (Option T) → List (ℤ × T) → Type 0
  IsTold ids said pairs = (k : ℕ) → k < length ids → get_or said k None ≡ last_of (at ids k) pairs

  module _ (ids : List ℤ) (pairs : List (ℤ × T)) (said : List (Option T)) (i : ℕ) (p : ℤ × T) (low : i < length pairs)
      (is : p ≡ get_or pairs i p) (told : IsTold ids said (take i pairs)) where
    -- a pair of another id
    other : (k : ℕ) → k < length ids → int_eq p.0 (at ids k) ≡ false
        → get_or said k None ≡ last_of (at ids k) (take (i + 1) pairs)
    other k in_range test = told k in_range ∙ sym (last_more (at ids k) pairs i p false low is test)

    apart : (k : ℕ) → (p.0 ≡ at ids k → ⊥) → int_eq p.0 (at ids k) ≡ false
    apart k h = go (int_eq p.0 (at ids k)) refl where
      go : (b : Bool) → int_eq p.0 (at ids k) ≡ b → b ≡ false
      go true e = absurd (h ((Decides-int_eq p.0 (at ids k)).0 e))
      go false e = refl

    pub told_absent : ((k : ℕ) → k < length ids → at ids k ≡ p.0 → ⊥) → IsTold ids said (take (i + 1) pairs)
    told_absent none = λ k in_range. other k in_range (apart k (λ e. none k in_range (sym e)))

    module _ (place : ℕ) (rises : Rises ids) (there : place < length ids) (same : at ids place ≡ p.0)
        (each : length said ≡ length ids) where
      abbrev new : List (Option T)
      new = set said place (Some p.1)

      here : (k : ℕ) → k < length ids → p.0 ≡ at ids k → get_or new k None ≡ last_of (at ids k) (take (i + 1) pairs)
      here k in_range e =
          let one : place ≡ k = one_place ids place k rises there in_range (same ∙ e) in
          subst (λ n. get_or new n None ≡ Some p.1) one
          (get_or-set_same said place (Some p.1) None (subst (λ n. place < n) (sym each) there))
          ∙ sym (last_more (at ids k) pairs i p true low is ((Decides-int_eq p.0 (at ids k)).1 e))

      elsewhere : (k : ℕ) → k < length ids → (p.0 ≡ at ids k → ⊥)
          → get_or new k None ≡ last_of (at ids k) (take (i + 1) pairs)
      elsewhere k in_range h =
          get_or-set_other said place k (Some p.1) None (λ e. h (sym same ∙ ap (at ids) (sym e)))
          ∙ other k in_range (apart k h)

      pub told_there : IsTold ids new (take (i + 1) pairs)
      told_there = λ k in_range. go (int_eq p.0 (at ids k)) k refl in_range where
        go : (b : Bool) (k : ℕ) → int_eq p.0 (at ids k) ≡ b → k < length ids
            → get_or new k None ≡ last_of (at ids k) (take (i + 1) pairs)
        go true k e in_range = here k in_range ((Decides-int_eq p.0 (at ids k)).0 e)
        go false k e in_range = elsewhere k in_range (λ h. let t = (Decides-int_eq p.0 (at ids k)).1 h in absurd cc)
