-- The predicates of a filter stand in its text from left to right.
use Rattle.std.proofs.Common.{◌≡◌, List, [], ◌∷◌, ◌++◌, sym, ap, ◌∙◌, subst, append_assoc, append-nil}
use Rattle.std.specs.List.{AllByRecursion}
use Rattle.ice_filter.specs.declared.predicate.Predicate.{Predicate}
use Rattle.ice_filter.specs.declared.token.Token.{Token}
use Rattle.ice_filter.specs.declared.token.Token.TheVariants as token
use Rattle.ice_filter.specs.Grammar.{Written, truth, predicate, group, both, either, bare, predicate_tokens, tokens_in}
use Rattle.ice_filter.specs.Trees.{Tree}
use Rattle.ice_filter_laws.specs.Faults.{predicates, IsBetween, AreOf, HasItsPredicatesInOrder}

all_both : (xs ys : List Token) → AllByRecursion IsBetween xs → AllByRecursion IsBetween ys
    → AllByRecursion IsBetween (xs ++ ys)
all_both [] ys p q = q
all_both (x ∷ xs) ys p q = (p.0, all_both xs ys p.1 q)

-- with tokens in front that belong to no predicate
behind : (ls : List Predicate) (front tokens : List Token) → AllByRecursion IsBetween front → AreOf ls tokens
    → AreOf ls (front ++ tokens)
behind [] front tokens p a = all_both front tokens p a
behind (l ∷ ls) front tokens p a = (
  front ++ a.0,
  a.1,
  ap (λ v. front ++ v) a.2 ∙ sym (append_assoc front a.0 (predicate_tokens l ++ a.1)),
  all_both front a.0 p a.3,
  a.4,
)

regroup : (before own after tokens : List Token)
    → (before ++ (own ++ after)) ++ tokens ≡ before ++ (own ++ (after ++ tokens))
regroup before own after tokens = simp append_assoc

-- one list of predicates behind the other
joined : (ls ms : List Predicate) (xs ys : List Token) → AreOf ls xs → AreOf ms ys → AreOf (ls ++ ms) (xs ++ ys)
joined [] ms xs ys a b = behind ms xs ys a b
joined (l ∷ ls) ms xs ys a b = (
  a.0,
  a.1 ++ ys,
  ap (λ v. v ++ ys) a.2 ∙ regroup a.0 (predicate_tokens l) a.1 ys,
  a.3,
  joined ls ms a.1 ys a.4 b,
)

written : (w : Written) → AreOf (predicates (bare w)) (tokens_in w)
written (truth b) = (tt, tt)
written (predicate l) = ([], [], sym (append-nil (predicate_tokens l)), tt, tt)
written (group w) =
    let P : List Predicate → Type 0 = λ v. AreOf v (token.Open ∷ (tokens_in w ++ token.Close ∷ [])) in
    subst P (append-nil (predicates (bare w))) (behind (predicates (bare w) ++ []) (token.Open ∷ [])
    (tokens_in w ++ token.Close ∷ []) (tt, tt)
    (joined (predicates (bare w)) [] (tokens_in w) (token.Close ∷ []) (written w)
    (tt, tt)))
written (both v w) =
    joined (predicates (bare v)) (predicates (bare w)) (tokens_in v) (token.And ∷ tokens_in w) (written v)
    (behind (predicates (bare w)) (token.And ∷ []) (tokens_in w) (tt, tt) (written w))
written (either v w) =
    joined (predicates (bare v)) (predicates (bare w)) (tokens_in v) (token.Or ∷ tokens_in w) (written v)
    (behind (predicates (bare w)) (token.Or ∷ []) (tokens_in w) (tt, tt) (written w))

pub has_its_predicates_in_order : HasItsPredicatesInOrder
has_its_predicates_in_order text filter r =
    let w = r.0 in
    let says = r.1.0 in
    let P : Tree Predicate → Type 0 = λ v. AreOf (predicates v) (tokens_in w) in
    let Q : List Token → Type 0 = λ v. AreOf (predicates filter) v in
    subst Q (sym says.spelled) (subst P (sym r.1.2) (written w))
