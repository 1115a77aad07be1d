-- Filters all of whose predicates say each.
use Rattle.std.proofs.Common.{◌≡◌, Bool, true, false, List, [], ◌∷◌, refl}
use Rattle.std.specs.List.{AllByRecursion}
use Rattle.ice_filter.specs.declared.parts.Part.{Part}
use Rattle.ice_filter.specs.declared.parts.Part.TheVariants.{True, False, Predicate, And, Or}
use Rattle.ice_filter.specs.Trees.{Tree, truth, predicate, both, either, meaning, read_parts, rest, top, tree_of}
use Rattle.icescan_explain.specs.Alone.{predicates}

module _ {L : Type 0} (met : L → Bool) where
  -- the tree means what it means where all predicates are met
  abbrev IsYes : Tree L → Type 0
  IsYes t = meaning met t ≡ meaning (λ (l : L). true) t

  top_is : (ts : List (Tree L)) → AllByRecursion IsYes ts → IsYes (top ts)
  top_is [] all = refl
  top_is (t ∷ ts) all = all.0

  rest_are : (ts : List (Tree L)) → AllByRecursion IsYes ts → AllByRecursion IsYes (rest ts)
  rest_are [] all = tt
  rest_are (t ∷ ts) all = all.1

  both_is : (s t : Tree L) → IsYes s → IsYes t → IsYes (both s t)
  both_is s t a b = rw (a, b) refl

  either_is : (s t : Tree L) → IsYes s → IsYes t → IsYes (either s t)
  either_is s t a b = rw (a, b) refl

  read_are : (ts : List (Tree L)) (ps : List (Part L)) → AllByRecursion IsYes ts
      → AllByRecursion (λ l. met l ≡ true) (predicates ps) → AllByRecursion IsYes (read_parts ts ps)
  read_are ts [] all each = all
  read_are ts (True ∷ ps) all each = read_are (truth true ∷ ts) ps (refl, all) each
  read_are ts (False ∷ ps) all each = read_are (truth false ∷ ts) ps (refl, all) each
  read_are ts (Predicate l ∷ ps) all each = read_are (predicate l ∷ ts) ps (each.0, all) each.1
  read_are ts (And ∷ ps) all each = read_are (both (top (rest ts)) (top ts) ∷ rest (rest ts)) ps (
    both_is (top (rest ts)) (top ts) (top_is (rest ts) (rest_are ts all)) (top_is ts all),
    rest_are (rest ts) (rest_are ts all),
  ) each
  read_are ts (Or ∷ ps) all each = read_are (either (top (rest ts)) (top ts) ∷ rest (rest ts)) ps (
    either_is (top (rest ts)) (top ts) (top_is (rest ts) (rest_are ts all)) (top_is ts all),
    rest_are (rest ts) (rest_are ts all),
  ) each

  pub all_yes : (ps : List (Part L)) → AllByRecursion (λ l. met l ≡ true) (predicates ps)
      → meaning met (tree_of ps) ≡ meaning (λ (l : L). true) (tree_of ps)
  all_yes ps each = top_is (read_parts [] ps) (read_are [] ps tt each)
