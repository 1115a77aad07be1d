-- The statistics that stay have their lines.
use Rattle.std.proofs.Common.{◌≡◌, ◌⊎◌, ℕ, ℤ, Bool, true, false, List, [], ◌∷◌, ◌++◌, Option, None, Some, ap, inl}
use Rattle.std.proofs.Common.{if◌then◌else◌, inr, refl, subst, sym, ◌∙◌}
use Rattle.std.specs.Prelude.{codes, option_map}
use Rattle.std.specs.List.{Contains}
use Rattle.std.proofs.lemmas.List.Elements.{Contains-append_left, Contains-push, Contains-push_cases}
use Rattle.std.proofs.lemmas.Option.{option_and_then_some, same_Some}
use Rattle.serde_json.specs.Data as json
use Rattle.serde_json.specs.Data.{Data, Items}
use Rattle.serde_json.specs.Find.{get}
use Rattle.icescan_parts.specs.Gone.{array_kept, item_behind, items_kept, names_gone, statistics_kept}
use Rattle.icescan_parts.specs.Stays.{IsKept, NamesKept}
use Rattle.icescan_reachable.specs.Lines.{line}
use Rattle.icescan_reachable.specs.Named.{path_in}
use Rattle.icescan_reachable.specs.declared.kind.FileKind.TheVariants as kind

-- lines, with that of a path behind them where there is one
abbrev behind : List (List ℕ) → Bool → Option (List ℕ) → Option (List (List ℕ))
behind lines goes path =
    if goes then Some lines else option_map (λ p. lines ++ line kind.Statistics p ∷ []) path

item_keep : (lines next : List (List ℕ)) (text : List ℕ) (goes : Bool) (path : Option (List ℕ))
    → behind lines goes path ≡ Some next → Contains lines text → Contains next text
item_keep lines next text true path is h = subst (λ (x : List (List ℕ)). Contains x text) (same_Some lines next is) h
item_keep lines next text false None is h = absurd cc
item_keep lines next text false (Some p) is h = subst (λ (x : List (List ℕ)). Contains x text)
    (same_Some (lines ++ line kind.Statistics p ∷ []) next is)
    (Contains-append_left lines (line kind.Statistics p ∷ []) text h)

item_tells : (lines next : List (List ℕ)) (file : List ℕ) (goes : Bool) (path : Option (List ℕ))
    → behind lines goes path ≡ Some next → goes ≡ false → path ≡ Some file
    → Contains next (line kind.Statistics file)
item_tells lines next file true path is stays at = absurd cc
item_tells lines next file false None is stays at = absurd cc
item_tells lines next file false (Some p) is stays at =
    subst (λ (x : List (List ℕ)). Contains x (line kind.Statistics file))
    (same_Some (lines ++ line kind.Statistics p ∷ []) next is)
    (subst (λ (q : List ℕ). Contains (lines ++ line kind.Statistics q ∷ []) (line kind.Statistics file))
    (sym (same_Some p file at)) (Contains-push lines (line kind.Statistics file)))

item_only : (lines next : List (List ℕ)) (text : List ℕ) (goes : Bool) (path : Option (List ℕ))
    → behind lines goes path ≡ Some next → Contains next text
    → Contains lines text
    ⊎ ((goes ≡ false) × (file : List ℕ) × (path ≡ Some file) × (text ≡ line kind.Statistics file))
item_only lines next text true path is h =
    inl (subst (λ (x : List (List ℕ)). Contains x text) (sym (same_Some lines next is)) h)
item_only lines next text false None is h = absurd cc
item_only lines next text false (Some p) is h =
    elim (Contains-push_cases lines (line kind.Statistics p) text (subst (λ (x : List (List ℕ)). Contains x text)
    (sym (same_Some (lines ++ line kind.Statistics p ∷ []) next is)) h))
    as (λ _. Contains lines text
    ⊎ ((false ≡ false) × (file : List ℕ) × (Some p ≡ Some file) × (text ≡ line kind.Statistics file)))
    [ inl i ↦ inl i | inr e ↦ inr (refl, p, refl, sym e) ]

module _ (gone : List ℤ) where
  -- a line is one of those before, or that of statistics that are named and stay
  abbrev OfItems : Items → List (List ℕ) → List ℕ → Type 0
  OfItems items lines text = Contains lines text
      ⊎ ((file : List ℕ) × NamesKept gone items file × (text ≡ line kind.Statistics file))

  of_item : (item : Data) (items : Items) (lines next : List (List ℕ)) (text : List ℕ)
      → item_behind gone lines item ≡ Some next → OfItems items next text → OfItems (json.item item items) lines text
  of_item item items lines next text at (inl h) =
      elim (item_only lines next text (names_gone gone item) (path_in (codes "statistics-path") item) at h)
      as (λ _. OfItems (json.item item items) lines text)
      [ inl i ↦ inl i | inr w ↦ inr (w.1, inl (w.0, w.2), w.3) ]
  of_item item items lines next text at (inr w) = inr (w.0, inr w.1, w.2)

  items_only : (items : Items) (lines out : List (List ℕ)) (text : List ℕ)
      → items_kept gone lines items ≡ Some out → Contains out text → OfItems items lines text
  items_only json.no_items lines out text is h =
      inl (subst (λ (x : List (List ℕ)). Contains x text) (sym (same_Some lines out is)) h)
  items_only (json.item item items) lines out text is h =
      option_and_then_some (λ more. items_kept gone more items) (item_behind gone lines item) out is
      (λ next at rest. of_item item items lines next text at (items_only items next out text rest h))

  abbrev OfArray : Option Data → List (List ℕ) → List ℕ → Type 0
  OfArray found lines text = Contains lines text ⊎ ((file : List ℕ)
      × ((items : Items) × (found ≡ Some (json.array items)) × NamesKept gone items file)
      × (text ≡ line kind.Statistics file))

  array_only : (found : Option Data) (lines out : List (List ℕ)) (text : List ℕ)
      → array_kept gone lines found ≡ Some out → Contains out text → OfArray found lines text
  array_only None lines out text is h =
      inl (subst (λ (x : List (List ℕ)). Contains x text) (sym (same_Some lines out is)) h)
  array_only (Some json.null) lines out text is h =
      inl (subst (λ (x : List (List ℕ)). Contains x text) (sym (same_Some lines out is)) h)
  array_only (Some (json.array items)) lines out text is h =
      elim (items_only items lines out text is h) as (λ _. OfArray (Some (json.array items)) lines text)
      [ inl i ↦ inl i | inr w ↦ inr (w.0, (items, refl, w.1), w.2) ]
  array_only (Some (json.boolean b)) lines out text is h = absurd cc
  array_only (Some (json.number n)) lines out text is h = absurd cc
  array_only (Some (json.string s)) lines out text is h = absurd cc
  array_only (Some (json.object m)) lines out text is h = absurd cc

  pub statistics_only : (array : List ℕ) (metadata : Data) (lines out : List (List ℕ)) (text : List ℕ)
      → statistics_kept gone array metadata lines ≡ Some out → Contains out text
      → Contains lines text
      ⊎ ((file : List ℕ) × IsKept gone array metadata file × (text ≡ line kind.Statistics file))
  statistics_only array metadata lines out text is h = array_only (get array metadata) lines out text is h

  items_keep : (items : Items) (lines out : List (List ℕ)) (text : List ℕ)
      → items_kept gone lines items ≡ Some out → Contains lines text → Contains out text
  items_keep json.no_items lines out text is h =
      subst (λ (x : List (List ℕ)). Contains x text) (same_Some lines out is) h
  items_keep (json.item item items) lines out text is h =
      option_and_then_some (λ more. items_kept gone more items) (item_behind gone lines item) out is
      (λ next at rest. items_keep items next out text rest (item_keep lines next text (names_gone gone item)
      (path_in (codes "statistics-path") item) at h))

  items_all : (items : Items) (lines out : List (List ℕ)) (file : List ℕ)
      → items_kept gone lines items ≡ Some out → NamesKept gone items file → Contains out (line kind.Statistics file)
  items_all json.no_items lines out file is n = absurd n
  items_all (json.item item items) lines out file is n =
      option_and_then_some (λ more. items_kept gone more items) (item_behind gone lines item) out is
      (λ next at rest. elim n as (λ _. Contains out (line kind.Statistics file)) [
        | inl h ↦ items_keep items next out (line kind.Statistics file) rest
            (item_tells lines next file (names_gone gone item) (path_in (codes "statistics-path") item) at h.0 h.1)
        | inr m ↦ items_all items next out file rest m
      ])

  array_keep : (found : Option Data) (lines out : List (List ℕ)) (text : List ℕ)
      → array_kept gone lines found ≡ Some out → Contains lines text → Contains out text
  array_keep None lines out text is h = subst (λ (x : List (List ℕ)). Contains x text) (same_Some lines out is) h
  array_keep (Some json.null) lines out text is h =
      subst (λ (x : List (List ℕ)). Contains x text) (same_Some lines out is) h
  array_keep (Some (json.array items)) lines out text is h = items_keep items lines out text is h
  array_keep (Some (json.boolean b)) lines out text is h = absurd cc
  array_keep (Some (json.number n)) lines out text is h = absurd cc
  array_keep (Some (json.string s)) lines out text is h = absurd cc
  array_keep (Some (json.object m)) lines out text is h = absurd cc

  pub statistics_keep : (array : List ℕ) (metadata : Data) (lines out : List (List ℕ)) (text : List ℕ)
      → statistics_kept gone array metadata lines ≡ Some out → Contains lines text → Contains out text
  statistics_keep array metadata lines out text is h = array_keep (get array metadata) lines out text is h

  pub statistics_all : (array : List ℕ) (metadata : Data) (lines out : List (List ℕ)) (file : List ℕ)
      → statistics_kept gone array metadata lines ≡ Some out → IsKept gone array metadata file
      → Contains out (line kind.Statistics file)
  statistics_all array metadata lines out file is (items, at, n) =
      items_all items lines out file (sym (ap (array_kept gone lines) at) ∙ is) n
