-- The lines of the files that the metadata names itself are those, and no others.
use Rattle.std.proofs.Common.{◌≡◌, ◌⊎◌, ℕ, List, [], ◌∷◌, ◌++◌, Option, None, Some, ap, inl, inr, refl, subst, sym, ◌∙◌}
use Rattle.std.specs.List.{Contains}
use Rattle.std.proofs.lemmas.List.Elements.{Contains-append_left, Contains-push, Contains-push_cases}
use Rattle.std.proofs.lemmas.Option.{option_and_then_some, same_Some}
use Rattle.serde_json.specs.Data as json
use Rattle.serde_json.specs.Data.{Data, Items}
use Rattle.serde_json.specs.Find.{get}
use Rattle.icescan_reachable.specs.Lines.{line}
use Rattle.icescan_reachable.specs.Named.{array_behind, items_behind, named_behind, path_in}
use Rattle.icescan_reachable.specs.Reaches.{IsNamed, Names}
use Rattle.icescan_reachable.specs.declared.kind.FileKind.{FileKind}

module _ (kind : FileKind) (member : List ℕ) where
  -- a line is one of those before, or that of a file that is named
  abbrev OfItems : Items → List (List ℕ) → List ℕ → Type 0
  OfItems items lines text =
      Contains lines text ⊎ ((file : List ℕ) × Names member items file × (text ≡ line kind file))

  of_item : (item : Data) (items : Items) (lines : List (List ℕ)) (text path : List ℕ) → path_in member item ≡ Some path
      → OfItems items (lines ++ line kind path ∷ []) text → OfItems (json.item item items) lines text
  of_item item items lines text path at (inl h) =
      elim (Contains-push_cases lines (line kind path) text h) as (λ _. OfItems (json.item item items) lines text)
      [ inl i ↦ inl i | inr e ↦ inr (path, inl at, sym e) ]
  of_item item items lines text path at (inr h) = inr (h.0, inr h.1, h.2)

  items_only : (items : Items) (lines out : List (List ℕ)) (text : List ℕ)
      → items_behind kind member lines items ≡ Some out → Contains out text → OfItems items lines text
  items_only json.no_items lines out text is h =
      inl (subst (λ (x : List (List ℕ)). Contains x text) (sym (same_Some lines out is)) h)
  items_only (json.item item items) lines out text is h =
      option_and_then_some (λ path. items_behind kind member (lines ++ line kind path ∷ []) items) (path_in member item)
      out is (λ path at rest. of_item item items lines text path at
      (items_only items (lines ++ line kind path ∷ []) out text rest h))

  items_keep : (items : Items) (lines out : List (List ℕ)) (text : List ℕ)
      → items_behind kind member lines items ≡ Some out → Contains lines text → Contains out text
  items_keep json.no_items lines out text is h =
      subst (λ (x : List (List ℕ)). Contains x text) (same_Some lines out is) h
  items_keep (json.item item items) lines out text is h =
      option_and_then_some (λ path. items_behind kind member (lines ++ line kind path ∷ []) items) (path_in member item)
      out is (λ path at rest. items_keep items (lines ++ line kind path ∷ []) out text rest
      (Contains-append_left lines (line kind path ∷ []) text h))

  put_first : (lines : List (List ℕ)) (file path : List ℕ) → file ≡ path
      → Contains (lines ++ line kind path ∷ []) (line kind file)
  put_first lines file path same =
      subst (λ (p : List ℕ). Contains (lines ++ line kind p ∷ []) (line kind file)) same
      (Contains-push lines (line kind file))

  items_all : (items : Items) (lines out : List (List ℕ)) (file : List ℕ)
      → items_behind kind member lines items ≡ Some out → Names member items file → Contains out (line kind file)
  items_all json.no_items lines out file is n = absurd n
  items_all (json.item item items) lines out file is n =
      option_and_then_some (λ path. items_behind kind member (lines ++ line kind path ∷ []) items) (path_in member item)
      out is (λ path at rest. elim n as (λ _. Contains out (line kind file)) [
        | inl e ↦ items_keep items (lines ++ line kind path ∷ []) out (line kind file) rest
            (put_first lines file path (same_Some file path (sym e ∙ at)))
        | inr m ↦ items_all items (lines ++ line kind path ∷ []) out file rest m
      ])

  abbrev OfArray : Option Data → List (List ℕ) → List ℕ → Type 0
  OfArray found lines text = Contains lines text ⊎ ((file : List ℕ)
      × ((items : Items) × (found ≡ Some (json.array items)) × Names member items file) × (text ≡ line kind file))

  array_only : (found : Option Data) (lines out : List (List ℕ)) (text : List ℕ)
      → array_behind kind member lines found ≡ Some out → Contains out text → OfArray found lines text
  array_only None lines out text is h =
      inl (subst (λ (x : List (List ℕ)). Contains x text) (sym (same_Some lines out is)) h)
  array_only (Some json.null) lines out text is h =
      inl (subst (λ (x : List (List ℕ)). Contains x text) (sym (same_Some lines out is)) h)
  array_only (Some (json.array items)) lines out text is h =
      elim (items_only items lines out text is h) as (λ _. OfArray (Some (json.array items)) lines text)
      [ inl i ↦ inl i | inr w ↦ inr (w.0, (items, refl, w.1), w.2) ]
  array_only (Some (json.boolean b)) lines out text is h = absurd cc
  array_only (Some (json.number n)) lines out text is h = absurd cc
  array_only (Some (json.string s)) lines out text is h = absurd cc
  array_only (Some (json.object m)) lines out text is h = absurd cc

  array_keep : (found : Option Data) (lines out : List (List ℕ)) (text : List ℕ)
      → array_behind kind member lines found ≡ Some out → Contains lines text → Contains out text
  array_keep None lines out text is h = subst (λ (x : List (List ℕ)). Contains x text) (same_Some lines out is) h
  array_keep (Some json.null) lines out text is h =
      subst (λ (x : List (List ℕ)). Contains x text) (same_Some lines out is) h
  array_keep (Some (json.array items)) lines out text is h = items_keep items lines out text is h
  array_keep (Some (json.boolean b)) lines out text is h = absurd cc
  array_keep (Some (json.number n)) lines out text is h = absurd cc
  array_keep (Some (json.string s)) lines out text is h = absurd cc
  array_keep (Some (json.object m)) lines out text is h = absurd cc

  pub named_only : (array : List ℕ) (metadata : Data) (lines out : List (List ℕ)) (text : List ℕ)
      → named_behind array member kind metadata lines ≡ Some out → Contains out text
      → Contains lines text ⊎ ((file : List ℕ) × IsNamed array member metadata file × (text ≡ line kind file))
  named_only array metadata lines out text is h = array_only (get array metadata) lines out text is h

  pub named_keep : (array : List ℕ) (metadata : Data) (lines out : List (List ℕ)) (text : List ℕ)
      → named_behind array member kind metadata lines ≡ Some out → Contains lines text → Contains out text
  named_keep array metadata lines out text is h = array_keep (get array metadata) lines out text is h

  pub named_all : (array : List ℕ) (metadata : Data) (lines out : List (List ℕ)) (file : List ℕ)
      → named_behind array member kind metadata lines ≡ Some out → IsNamed array member metadata file
      → Contains out (line kind file)
  named_all array metadata lines out file is (items, at, n) =
      items_all items lines out file (sym (ap (array_behind kind member lines) at) ∙ is) n
