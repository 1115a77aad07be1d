-- Where a hint is given whose number is there, the newest file is the last of those that follow it one by one.
use Rattle.std.proofs.Common.{◌≡◌, ◌⊎◌, ◌≤◌, ◌<◌, ◌+◌, ◌==◌, ℕ, zero, suc, Bool, true, false, List, [], ◌∷◌, Option}
use Rattle.std.proofs.Common.{Some, None, refl, sym, subst, inl, inr, filter, length, nat_lt, ap, arith, ◌∙◌, ◌||◌}
use Rattle.std.specs.Prelude.{Ok, if◌then◌else◌}
use Rattle.std.specs.List.{All, list_any}
use Rattle.std.proofs.lemmas.Bool.Decides.{nat_tests}
use Rattle.std.proofs.lemmas.List.Elements.{All-head, filter_passes}
use Rattle.ice_meta_files.specs.Newest.{IsByHint, IsLastFrom, climbed, has_number, highest, is_number}
use Rattle.ice_meta_files.specs.Newest.{newest, next_number, number_in, only_name}
use Rattle.ice_meta_files.proofs.Highest.{by_number, numbered, one}

-- ---- how many names have a number of a range

one_if : Bool → ℕ
one_if true = 1
one_if false = 0

has_in : ℕ → ℕ → Option ℕ → ℕ
has_in low m None = 0
has_in low m (Some n) = if nat_lt n low then 0 else if nat_lt n (low + m) then 1 else 0

in_range : ℕ → ℕ → List (List ℕ) → ℕ
in_range low m [] = 0
in_range low m (x ∷ xs) = has_in low m (number_in x) + in_range low m xs

of_one : ℕ → List (List ℕ) → ℕ
of_one k [] = 0
of_one k (x ∷ xs) = one_if (has_number k x) + of_one k xs

at_most_one : (low m : ℕ) (n : Option ℕ) → has_in low m n ≤ 1
unfolding has_in
at_most_one low m None = omega arith
at_most_one low m (Some n) = elim (nat_lt n low) as (λ b. (if b then 0 else if nat_lt n (low + m) then 1 else 0) ≤ 1) [
  | true ↦ omega arith
  | false ↦ elim (nat_lt n (low + m)) as (λ b. (if b then 1 else 0) ≤ 1) [ true ↦ omega arith | false ↦ omega arith ]
]

no_more : (low m : ℕ) (names : List (List ℕ)) → in_range low m names ≤ length names
unfolding in_range
no_more low m [] = omega arith
no_more low m (x ∷ xs) =
    let rest = no_more low m xs in
    let this = at_most_one low m (number_in x) in
    omega (arith, rest, this)

in_first : (low m n : ℕ) (b c d e : Bool) → nat_lt n low ≡ b → nat_lt n (low + m) ≡ c → (n == (low + m)) ≡ d
    → nat_lt n (low + (m + 1)) ≡ e
    → ((if b then 0 else if c then 1 else 0) + one_if d) ≤ (if b then 0 else if e then 1 else 0)
unfolding one_if
in_first low m n true true true e p q r s = absurd (grind (arith, nat_tests))
in_first low m n true false true e p q r s = absurd (grind (arith, nat_tests))
in_first low m n true true false e p q r s = omega arith
in_first low m n true false false e p q r s = omega arith
in_first low m n false true true e p q r s = absurd (grind (arith, nat_tests))
in_first low m n false true false true p q r s = omega arith
in_first low m n false true false false p q r s = absurd (grind (arith, nat_tests))
in_first low m n false false true true p q r s = omega arith
in_first low m n false false true false p q r s = absurd (grind (arith, nat_tests))
in_first low m n false false false true p q r s = omega arith
in_first low m n false false false false p q r s = omega arith

one_step : (low m : ℕ) (n : Option ℕ) → (has_in low m n + one_if (is_number (low + m) n)) ≤ has_in low (m + 1) n
unfolding has_in one_if
one_step low m None = omega arith
one_step low m (Some n) = in_first low m n _ _ _ _ refl refl refl refl

more : (low m : ℕ) (names : List (List ℕ))
    → (in_range low m names + of_one (low + m) names) ≤ in_range low (m + 1) names
unfolding in_range of_one
more low m [] = omega arith
more low m (x ∷ xs) =
    let rest = more low m xs in
    let this = one_step low m (number_in x) in
    omega (arith, rest, this)

by_first : (b : Bool) (rest : Bool) (n : ℕ) → (b || rest) ≡ true → (rest ≡ true → 1 ≤ n) → 1 ≤ (one_if b + n)
unfolding one_if
by_first true rest n e h = omega arith
by_first false rest n e h = let k = h e in omega (arith, k)

some_has : (k : ℕ) (names : List (List ℕ)) → list_any (has_number k) names ≡ true → 1 ≤ of_one k names
unfolding of_one
some_has k [] e = absurd cc
some_has k (x ∷ xs) e =
    by_first (has_number k x) (list_any (has_number k) xs) (of_one k xs) e (λ rest. some_has k xs rest)

-- at least as many names as there are numbers
fills : (low : ℕ) (names : List (List ℕ)) (m : ℕ)
    → ((k : ℕ) → low ≤ k → k < low + m → list_any (has_number k) names ≡ true) → m ≤ in_range low m names
fills low names zero each = omega arith
fills low names (suc m) each =
    let rest = fills low names m (λ k from to. each k from (omega (arith, to))) in
    let this = some_has (low + m) names (each (low + m) (omega arith) (omega arith)) in
    let step = more low m names in
    let same : m + 1 ≡ suc m = omega arith in
    subst (λ (n : ℕ). suc m ≤ in_range low n names) same (omega (arith, rest, this, step))

-- ---- the climb

record Climbs (names : List (List ℕ)) (turns number last : ℕ) : Type 0 where
  reached : number ≤ last
  each : (k : ℕ) → number < k → k ≤ last → list_any (has_number k) names ≡ true
  end : (list_any (has_number (last + 1)) names ≡ false) ⊎ (last ≡ number + turns)

stays : (names turns : List (List ℕ)) (number : ℕ) → list_any (has_number (number + 1)) names ≡ false
    → climbed names turns number ≡ number
stays names [] number none = refl
stays names (turn ∷ turns) number none =
    let same : next_number names number ≡ number = rw none refl in
    ap (climbed names turns) same ∙ stays names turns number none

-- a number is the first one, or a later one
from_first : (names : List (List ℕ)) (first k : ℕ) (b : Bool) → nat_lt first k ≡ b
    → list_any (has_number first) names ≡ true → first ≤ k
    → (first < k → list_any (has_number k) names ≡ true) → list_any (has_number k) names ≡ true
from_first names first k true is there from later = later (grind (arith, nat_tests))
from_first names first k false is there from later =
    let same : first ≡ k = grind (arith, nat_tests) in
    subst (λ (n : ℕ). list_any (has_number n) names ≡ true) same there

one_turn : (names : List (List ℕ)) (number turns last : ℕ)
    → (list_any (has_number (last + 1)) names ≡ false) ⊎ (last ≡ number + 1 + turns)
    → (list_any (has_number (last + 1)) names ≡ false) ⊎ (last ≡ number + suc turns)
one_turn names number turns last (inl none) = inl none
one_turn names number turns last (inr is) = inr (omega (arith, is))

step : (names turns : List (List ℕ)) (number : ℕ) (b : Bool) → list_any (has_number (number + 1)) names ≡ b
    → Climbs names (length turns) (if b then number + 1 else number)
    (climbed names turns (if b then number + 1 else number))
    → Climbs names (suc (length turns)) number (climbed names turns (if b then number + 1 else number))
step names turns number true there rest = record {
  reached = let up = rest.reached in omega (arith, up);
  each = λ k from to. from_first names (number + 1) k (nat_lt (number + 1) k) refl there (omega (arith, from))
      (λ later. rest.each k later to);
  end = one_turn names number (length turns) _ rest.end;
}
step names turns number false none rest = record {
  reached = rest.reached;
  each = rest.each;
  end = inl (subst (λ (n : ℕ). list_any (has_number (n + 1)) names ≡ false) (sym (stays names turns number none)) none);
}

climbs : (names turns : List (List ℕ)) (number : ℕ) → Climbs names (length turns) number (climbed names turns number)
climbs names [] number = record {
  reached = omega arith;
  each = λ k from to. absurd (omega (arith, from, to));
  end = inr (omega arith);
}
climbs names (turn ∷ turns) number =
    step names turns number (list_any (has_number (number + 1)) names) refl
    (climbs names turns (next_number names number))

-- there are fewer names than numbers from the hint's to the last of so many turns
ends : (names : List (List ℕ)) (hint last : ℕ)
    → ((k : ℕ) → hint ≤ k → k ≤ last → list_any (has_number k) names ≡ true)
    → (list_any (has_number (last + 1)) names ≡ false) ⊎ (last ≡ hint + length names)
    → list_any (has_number (last + 1)) names ≡ false
ends names hint last each (inl none) = none
ends names hint last each (inr is) =
    let full = fills hint names (suc (length names)) (λ k from to. each k from (omega (arith, is, to))) in
    let few = no_more hint (suc (length names)) names in
    absurd (omega (arith, full, few))

last_from : (names : List (List ℕ)) (hint : ℕ) (name : List ℕ) → list_any (has_number hint) names ≡ true
    → only_name (filter (has_number (climbed names names hint)) names) ≡ Ok name → IsLastFrom hint names name
last_from names hint name there e =
    let last = climbed names names hint in
    let way = climbs names names hint in
    let alone = one (filter (has_number last) names) name e in
    let passes = subst (All (λ x. has_number last x ≡ true)) alone (filter_passes (has_number last) names) in
    let each : (k : ℕ) → hint ≤ k → k ≤ last → list_any (has_number k) names ≡ true =
    λ k from to. from_first names hint k (nat_lt hint k) refl there from (λ later. way.each k later to) in
    record {
      number = last;
      has = numbered last (number_in name) (All-head (λ x. has_number last x ≡ true) name [] passes);
      alone = alone;
      reached = way.reached;
      each = each;
      no_next = ends names hint last each way.end;
    }

pub newest_by_hint : (names : List (List ℕ)) (hint : Option ℕ) (name : List ℕ) → newest names hint ≡ Ok name
    → IsByHint names hint name
newest_by_hint names None name e = by_number names name (highest names) refl e
newest_by_hint names (Some hint) name e = (
  (λ there. last_from names hint name there (rw there at e)),
  (λ none. by_number names name (highest names) refl (rw none at e)),
)
