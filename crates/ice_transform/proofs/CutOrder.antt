-- Cut texts and bytes keep their order, and their beginnings.
use Rattle.std.proofs.Common.{◌≡◌, ℕ, zero, suc, ◌<◌, Bool, true, false, ◌&&◌, List, [], ◌∷◌, refl, sym, ◌∙◌, take}
use Rattle.std.proofs.Common.{nat_eq, eq-eqb}
use Rattle.std.specs.List.{starts_with}
use Rattle.std.specs.declared.cmp.Ordering.{Ordering}
use Rattle.std.specs.declared.cmp.Ordering.TheVariants.{Less as Below, Equal, Greater}
use Rattle.std.specs.Ordering.{is_le, nat_cmp, ordering_then, MatchOrdering}
use Rattle.std.specs.Cmp.Lexicographic.{slice_cmp}
use Rattle.std.proofs.lemmas.Cmp.{ranked}
use Rattle.std.specs.Str.{continuation_len}
use Rattle.std.proofs.lemmas.Bool.Decides.{Decides-eqb}
use Rattle.ice_transform.specs.Cuts.{points_from, ends_points}

then_le : (o q r : Ordering) → (o ≡ Equal → is_le q ≡ true → is_le r ≡ true) → is_le (ordering_then o q) ≡ true
    → is_le (ordering_then o r) ≡ true
then_le Below q r f h = refl
then_le Equal q r f h = f refl h
then_le Greater q r f h = absurd cc

nil_least : (b : List ℕ) → is_le (slice_cmp nat_cmp [] b) ≡ true
nil_least [] = refl
nil_least (y ∷ b) = refl

nat_same : (a b : ℕ) (o : Ordering) → MatchOrdering o (a < b) (a ≡ b) (b < a) → o ≡ Equal → a ≡ b
nat_same a b Equal m h = m
nat_same a b Below m h = cc
nat_same a b Greater m h = cc

equal_is : (x y : ℕ) → nat_cmp x y ≡ Equal → x ≡ y
equal_is x y e = nat_same x y (nat_cmp x y) (ranked x y (nat_cmp x y) refl) e

-- a smaller text has no greater cut
pub points_mono : (w k : ℕ) (a b : List ℕ) → is_le (slice_cmp nat_cmp a b) ≡ true
    → is_le (slice_cmp nat_cmp (points_from w k a) (points_from w k b)) ≡ true
points_mono w k [] b h = nil_least (points_from w k b)
points_mono w k (x ∷ a) [] h = absurd cc
points_mono w (suc k) (x ∷ a) (y ∷ b) h = then_le (nat_cmp x y) (slice_cmp nat_cmp a b) _ (λ e. points_mono w k a b) h
points_mono zero zero (x ∷ a) (y ∷ b) h = refl
points_mono (suc w) zero (x ∷ a) (y ∷ b) h =
    then_le (nat_cmp x y) (slice_cmp nat_cmp a b) _ (λ e q. let same = equal_is x y e in
    rw same (points_mono w (continuation_len y) a b q)) h

pub take_mono : (w : ℕ) (a b : List ℕ) → is_le (slice_cmp nat_cmp a b) ≡ true
    → is_le (slice_cmp nat_cmp (take w a) (take w b)) ≡ true
take_mono zero a b h = refl
take_mono (suc w) [] b h = nil_least (take (suc w) b)
take_mono (suc w) (x ∷ a) [] h = absurd cc
take_mono (suc w) (x ∷ a) (y ∷ b) h = then_le (nat_cmp x y) (slice_cmp nat_cmp a b) _ (λ e. take_mono w a b) h

and_parts : (a b : Bool) → (a && b) ≡ true → (a ≡ true) × (b ≡ true)
and_parts true b h = (refl, h)
and_parts false b h = absurd cc

none_left : (s : List ℕ) → points_from 0 0 s ≡ []
none_left [] = refl
none_left (b ∷ s) = refl

head_same : (x y : ℕ) (b : Bool) → (nat_eq y x && b) ≡ true → (x ≡ y) × (b ≡ true)
head_same x y b h = let p = and_parts (nat_eq y x) b h in (sym ((Decides-eqb y x).0 p.0), p.1)

-- a text that begins with s is cut as s is, where s has that many code points
pub keeps : (w k : ℕ) (s xs : List ℕ) → starts_with nat_eq xs s ≡ true → ends_points w k s ≡ true
    → points_from w k xs ≡ points_from w k s
keeps zero zero s xs h e = none_left xs ∙ sym (none_left s)
keeps (suc w) zero [] xs h e = absurd cc
keeps (suc w) zero (y ∷ s) [] h e = absurd cc
keeps (suc w) zero (y ∷ s) (x ∷ xs) h e =
    let p = head_same x y _ h in
    let r = keeps w (continuation_len y) s xs p.1 e in
    rw (p.0, r) refl
keeps zero (suc k) [] xs h e = absurd cc
keeps zero (suc k) (y ∷ s) [] h e = absurd cc
keeps zero (suc k) (y ∷ s) (x ∷ xs) h e = let p = head_same x y _ h in let r = keeps zero k s xs p.1 e in
    rw (p.0, r) refl
keeps (suc w) (suc k) [] xs h e = absurd cc
keeps (suc w) (suc k) (y ∷ s) [] h e = absurd cc
keeps (suc w) (suc k) (y ∷ s) (x ∷ xs) h e = let p = head_same x y _ h in let r = keeps (suc w) k s xs p.1 e in
    rw (p.0, r) refl

same_head : (y : ℕ) (b : Bool) → b ≡ true → (nat_eq y y && b) ≡ true
same_head y b h = rw (h, eq-eqb y y refl) refl

-- and otherwise its cut begins with s
pub begun : (w k : ℕ) (s xs : List ℕ) → starts_with nat_eq xs s ≡ true → ends_points w k s ≡ false
    → starts_with nat_eq (points_from w k xs) s ≡ true
begun w k [] xs h e = refl
begun zero zero (y ∷ s) xs h e = absurd cc
begun zero (suc k) (y ∷ s) [] h e = absurd cc
begun (suc w) k (y ∷ s) [] h e = absurd cc
begun (suc w) zero (y ∷ s) (x ∷ xs) h e =
    let p = head_same x y _ h in
    rw p.0 (same_head y _ (begun w (continuation_len y) s xs p.1 e))
begun zero (suc k) (y ∷ s) (x ∷ xs) h e = let p = head_same x y _ h in rw p.0 (same_head y _ (begun zero k s xs p.1 e))
begun (suc w) (suc k) (y ∷ s) (x ∷ xs) h e = let p = head_same x y _ h in
    rw p.0 (same_head y _ (begun (suc w) k s xs p.1 e))
