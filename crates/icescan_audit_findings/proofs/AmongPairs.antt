-- What pairs whose ids rise say of an id.
use Rattle.std.proofs.Common.{◌≡◌, ℕ, zero, suc, ◌+◌, ◌-◌, ◌<◌, ◌≤◌, ℤ, Bool, true, false, List, [], ◌∷◌, length}
use Rattle.std.proofs.Common.{get_or, take}
use Rattle.std.proofs.Common.{refl, sym, ap, ◌∙◌, None, Some, arith}
use Rattle.std.specs.Ordering.{int_eq}
use Rattle.std.proofs.lemmas.Bool.Decides.{Decides-int_eq}
use Rattle.std.proofs.lemmas.List.{get_or_default, take_all}
use Rattle.ice_value.specs.Pairs.{last_of}
use Rattle.icescan_audit_findings.specs.Ids.{AreRising, HasNone}
use Rattle.icescan_audit_findings.proofs.LastSaid.{last_more}
use Rattle.icescan_audit_findings.proofs.Rising.{unlike}

some_pair : {X : Type 0} (xs : List X) (i : ℕ) → i < length xs → X
some_pair [] i low = absurd (omega (arith, low))
some_pair (x ∷ xs) i low = x

other : (a id : ℤ) → (a ≡ id → ⊥) → int_eq a id ≡ false
other a id h = go (int_eq a id) refl where
  go : (b : Bool) → int_eq a id ≡ b → b ≡ false
  go true e = absurd (h ((Decides-int_eq a id).0 e))
  go false e = refl

module _ {T : Type 0} (pairs : List (ℤ × T)) (id : ℤ) where
  abbrev id_at : ℕ → ℤ × T → ℤ
  id_at k d = (get_or pairs k d).0

  -- a pair of another id says nothing of this one
  passed : (i : ℕ) → i < length pairs → ((d : ℤ × T) → id_at i d ≡ id → ⊥)
      → last_of id (take (i + 1) pairs) ≡ last_of id (take i pairs)
  passed i low h =
      let d = some_pair pairs i low in
      let p = get_or pairs i d in
      last_more id pairs i p false low (get_or_default pairs i d p low) (other p.0 id (h d))

  -- nor do many
  all_passed : (n i : ℕ) → i + n ≤ length pairs
      → ((k : ℕ) (d : ℤ × T) → i ≤ k → k < i + n → id_at k d ≡ id → ⊥)
      → last_of id (take (i + n) pairs) ≡ last_of id (take i pairs)
  all_passed zero i low h = let same : i + zero ≡ i = omega arith in ap (λ k. last_of id (take k pairs)) same
  all_passed (suc n) i low h =
      let more : i + suc n ≡ i + n + 1 = omega arith in
      ap (λ k. last_of id (take k pairs)) more
      ∙ passed (i + n) (omega arith) (λ d. h (i + n) d (omega arith) (omega arith))
      ∙ all_passed n i (omega arith) (λ k d from to. h k d from (omega arith))

  pub said_nowhere : HasNone pairs id → last_of id pairs ≡ None
  said_nowhere h =
      ap (last_of id) (sym (take_all (zero + length pairs) pairs (omega arith)))
      ∙ all_passed (length pairs) zero (omega arith) (λ k d from to. h k d (omega arith))

  pub said_at : AreRising pairs → (k : ℕ) (d : ℤ × T) → k < length pairs → id_at k d ≡ id
      → last_of id pairs ≡ Some (get_or pairs k d).1
  said_at rising k d low is =
      let p = get_or pairs k d in
      let n = length pairs - (k + 1) in
      let above : (j : ℕ) (e : ℤ × T) → k + 1 ≤ j → j < k + 1 + n → id_at j e ≡ id → ⊥ = λ j e from to same. unlike
      (id_at k e) (id_at j e) (ap (λ (q : ℤ × T). q.0) (get_or_default pairs k e d low) ∙ is ∙ sym same)
      (rising k j e (omega arith) (omega arith)) in
      ap (last_of id) (sym (take_all (k + 1 + n) pairs (omega arith)))
      ∙ all_passed n (k + 1) (omega arith) above
      ∙ last_more id pairs k p true low (get_or_default pairs k d p low) ((Decides-int_eq p.0 id).1 is)
