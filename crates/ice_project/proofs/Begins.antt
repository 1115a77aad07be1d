-- Texts that begin with s, and the bounds.
use Rattle.std.proofs.Common.{◌≡◌, ℕ, ◌<◌, Bool, true, false, ◌&&◌, List, [], ◌∷◌, refl, arith, sym, ◌∙◌, nat_eq}
use Rattle.std.specs.List.{starts_with}
use Rattle.std.specs.declared.cmp.Ordering.{Ordering}
use Rattle.std.specs.declared.cmp.Ordering.TheVariants.{Less as Below, Equal, Greater}
use Rattle.std.specs.Ordering.{is_le, is_gt, nat_cmp, ordering_then, MatchOrdering}
use Rattle.std.specs.Cmp.Lexicographic.{slice_cmp}
use Rattle.std.proofs.lemmas.Cmp.{ranked}
use Rattle.std.proofs.lemmas.Bool.Decides.{Decides-eqb, nat_tests}

nat_same : (a b : ℕ) (o : Ordering) → MatchOrdering o (a < b) (a ≡ b) (b < a) → o ≡ Equal → a ≡ b
nat_same a b Equal m h = m
nat_same a b Below m h = absurd cc
nat_same a b Greater m h = absurd cc

and_parts : (a b : Bool) → (a && b) ≡ true → (a ≡ true) × (b ≡ true)
and_parts true b h = (refl, h)
and_parts false b h = absurd cc

self_equal : (x : ℕ) → nat_cmp x x ≡ Equal
self_equal x = grind (arith, nat_tests)

-- a text that begins with s is not below s
pub begins_above : (s a : List ℕ) → starts_with nat_eq a s ≡ true → is_le (slice_cmp nat_cmp s a) ≡ true
begins_above [] [] h = refl
begins_above [] (x ∷ a) h = refl
begins_above (y ∷ s) [] h = absurd cc
begins_above (y ∷ s) (x ∷ a) h =
    let p = and_parts (nat_eq y x) _ h in
    let e : y ≡ x = (Decides-eqb y x).0 p.0 in
    rw (e, self_equal x) (begins_above s a p.1)

after_equal : (y : ℕ) (q : Ordering) → ordering_then (nat_cmp y y) q ≡ q
after_equal y q = let e = self_equal y in rw e refl

pinch : (o q r : Ordering) → is_le (ordering_then o q) ≡ true → is_gt (ordering_then o r) ≡ true
    → (o ≡ Equal) × (is_le q ≡ true) × (is_gt r ≡ true)
pinch Below q r h k = absurd cc
pinch Equal q r h k = (refl, h, k)
pinch Greater q r h k = absurd cc

-- a bound b above s and not above a text that begins with s begins with s
pub between : (s b a : List ℕ) → starts_with nat_eq a s ≡ true → is_gt (slice_cmp nat_cmp b s) ≡ true
    → is_le (slice_cmp nat_cmp b a) ≡ true → starts_with nat_eq b s ≡ true
between [] b a h g l = refl
between (y ∷ s) [] a h g l = absurd cc
between (y ∷ s) (z ∷ b) [] h g l = absurd cc
between (y ∷ s) (z ∷ b) (x ∷ a) h g l =
    let p = and_parts (nat_eq y x) _ h in
    let e : y ≡ x = (Decides-eqb y x).0 p.0 in
    let m = pinch (nat_cmp z x) (slice_cmp nat_cmp b a) (slice_cmp nat_cmp b s) l (rw e at g) in
    let same : z ≡ x = nat_same z x (nat_cmp z x) (ranked z x (nat_cmp z x) refl) m.0 in
    let yz : nat_eq y z ≡ true = (Decides-eqb y z).1 (e ∙ sym same) in
    rw yz (between s b a p.1 m.2 m.1)
