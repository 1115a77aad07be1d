-- Where no hint is given, the newest file has the highest number.
use Rattle.std.proofs.Common.{◌≡◌, ◌≤◌, ◌<◌, ℕ, Bool, true, false, List, [], ◌∷◌, Option, Some, None, refl, subst}
use Rattle.std.proofs.Common.{sym, arith}
use Rattle.std.proofs.Common.{◌==◌, ap, filter, nat_lt}
use Rattle.std.specs.Prelude.{Result, Ok, Err, if◌then◌else◌}
use Rattle.std.specs.List.{All}
use Rattle.std.proofs.lemmas.Bool.Decides.{nat_tests}
use Rattle.std.proofs.lemmas.List.Elements.{All-cons, All-head, All-nil, filter_passes}
use Rattle.ice_meta_files.specs.MetadataNames.{metadata_name}
use Rattle.ice_meta_files.specs.Newest.{AtMost, IsHighest, IsHighestIf, has_number, highest}
use Rattle.ice_meta_files.specs.Newest.{highest_from, is_compressed}
use Rattle.ice_meta_files.specs.Newest.{is_number, larger, newest, number_in, of_number, only_name, readable}
use Rattle.ice_meta_files.specs.declared.newest_fault.NewestFault.{NewestFault}
use Rattle.ice_meta_files.specs.declared.newest_fault.NewestFault.TheVariants as fault

chosen : (m n h : ℕ) (b : Bool) → nat_lt m n ≡ b → AtMost h (if b then Some n else Some m) → (m ≤ h) × (n ≤ h)
chosen m n h true e low = (grind (arith, nat_tests), grind (arith, nat_tests))
chosen m n h false e low = (grind (arith, nat_tests), grind (arith, nat_tests))

larger_both : (a b : Option ℕ) (h : ℕ) → AtMost h (larger a b) → AtMost h a × AtMost h b
larger_both None b h low = (tt, low)
larger_both (Some m) None h low = (low, tt)
larger_both (Some m) (Some n) h low = chosen m n h (nat_lt m n) refl low

-- no number is higher than the highest
below : (best : Option ℕ) (names : List (List ℕ)) (h : ℕ) → highest_from best names ≡ Some h
    → AtMost h best × All (λ other. AtMost h (number_in other)) names
below best [] h e = (subst (AtMost h) (sym e) (omega arith), All-nil (λ other. AtMost h (number_in other)))
below best (x ∷ xs) h e =
    let r = below (larger best (number_in x)) xs h e in
    let b = larger_both best (number_in x) h r.0 in
    (b.0, All-cons (λ other. AtMost h (number_in other)) x xs b.1 r.1)

same_name : (b : Bool) (x name : List ℕ)
    → ◌≡◌ {A = Result (List ℕ) NewestFault} (if b then Err (fault.Compressed x) else Ok x) (Ok name) → x ≡ name
same_name true x name e = absurd cc
same_name false x name e = cc

-- the one name
pub one : (found : List (List ℕ)) (name : List ℕ) → only_name found ≡ Ok name → found ≡ name ∷ []
one [] name e = absurd cc
one (x ∷ []) name e = ap (λ y. y ∷ []) (same_name (is_compressed (metadata_name x)) x name e)
one (x ∷ y ∷ zs) name e = absurd cc

pub numbered : (number : ℕ) (n : Option ℕ) → is_number number n ≡ true → n ≡ Some number
numbered number None e = absurd cc
numbered number (Some n) e = let same : n ≡ number = grind (arith, nat_tests) in ap Some same

pub by_number : (names : List (List ℕ)) (name : List ℕ) (n : Option ℕ) → highest names ≡ n → of_number names n ≡ Ok name
    → IsHighest names name
by_number names name None is e = absurd cc
by_number names name (Some number) is e =
    let alone = one (filter (has_number number) names) name e in
    let passes = subst (All (λ x. has_number number x ≡ true)) alone (filter_passes (has_number number) names) in
    record {
      number = number;
      has = numbered number (number_in name) (All-head (λ x. has_number number x ≡ true) name [] passes);
      alone = alone;
      highest = (below None names number is).1;
    }

pub newest_is_highest : (names : List (List ℕ)) (hint : Option ℕ) (name : List ℕ) → newest names hint ≡ Ok name
    → IsHighestIf names hint name
newest_is_highest names None name e = by_number names name (highest names) refl e
newest_is_highest names (Some hint) name e = tt
