-- The lines that are left alone, and the rest.
use Rattle.std.proofs.Common.{◌≡◌, ◌⊎◌, ◌||◌, ℕ, Bool, true, false, List, [], ◌∷◌, ◌++◌, ap, inl, inr, map}
use Rattle.std.proofs.Common.{refl, subst, sym, ◌∙◌}
use Rattle.std.specs.List.{Contains}
use Rattle.std.specs.Str.{bytes_eq}
use Rattle.std.proofs.lemmas.List.Elements.{Contains-append_cases, Contains-append_right}
use Rattle.std.proofs.lemmas.Slice.Eq.{bytes_eq-Decides}
use Rattle.icescan_parts.specs.Alone.{alone, path_of, without_paths}
use Rattle.icescan_parts.specs.Gone.{unless}
use Rattle.icescan_parts.specs.Parts.{AreApart, AreNoMore, AreTogether, HasPathOf}
use Rattle.icescan_paths.proofs.Members.{cases_of, here, later, nowhere}
use Rattle.icescan_paths.proofs.Unknown.{has_known, mapped}
use Rattle.icescan_paths.specs.Paths.{has}
use Rattle.icescan_print.specs.Escaping.{escaped}
use Rattle.icescan_reachable.specs.Lines.{line}
use Rattle.icescan_reachable.specs.declared.kind.FileKind.{FileKind}
use Rattle.icescan_reachable.specs.declared.kind.FileKind.TheVariants as kind

-- the path in a line does not depend on what the file is to the table
path_in : (kind : FileKind) (file : List ℕ) → path_of (line kind file) ≡ escaped file ++ 10 ∷ []
path_in kind.Metadata file = refl
path_in kind.List file = refl
path_in kind.Manifest file = refl
path_in kind.Data file = refl
path_in kind.Delete file = refl
path_in kind.Statistics file = refl

left_where : (found : Bool) (line text : List ℕ) → Contains (unless found line) text
    → (found ≡ false) × (line ≡ text)
left_where true line text h = absurd (nowhere text h)
left_where false line text h = elim (cases_of line [] text h) as (λ _. (false ≡ false) × (line ≡ text))
    [ inl e ↦ (refl, e) | inr i ↦ absurd (nowhere text i) ]

-- a line that is left was there, and its path is none of these
left_is : (paths lines : List (List ℕ)) (text : List ℕ) → Contains (without_paths paths lines) text
    → Contains lines text × (has paths (path_of text) ≡ false)
left_is paths [] text h = absurd (nowhere text h)
left_is paths (line ∷ lines) text h =
    elim (Contains-append_cases (unless (has paths (path_of line)) line) (without_paths paths lines) text h)
    as (λ _. Contains (line ∷ lines) text × (has paths (path_of text) ≡ false)) [
      | inl i ↦
          let is = left_where (has paths (path_of line)) line text i in
          (here line lines text is.1, sym (ap (λ t. has paths (path_of t)) is.1) ∙ is.0)
      | inr i ↦ let w = left_is paths lines text i in (later line lines text w.0, w.1)
    ]

pub no_more : AreNoMore
no_more all rest text h = (left_is (map path_of rest) all text h).0

pub apart : AreApart
apart all rest file (kind, i) (other, j) =
    let unknown = (left_is (map path_of rest) all (line kind file) i).1 in
    let known = has_known (map path_of rest) (path_of (line other file)) (mapped path_of rest (line other file) j) in
    let both : true ≡ false = sym known
    ∙ ap (has (map path_of rest)) (path_in other file ∙ sym (path_in kind file)) ∙ unknown in cc

-- a path that is one of those in lines
found_in : (rest : List (List ℕ)) (text : List ℕ) → has (map path_of rest) (path_of text) ≡ true → HasPathOf rest text
found_in [] text h = absurd cc
found_in (first ∷ rest) text h =
    let P : (v : Bool) → bytes_eq (path_of first) (path_of text) ≡ v
    → (v || has (map path_of rest) (path_of text)) ≡ true → HasPathOf (first ∷ rest) text =
    λ v. elim v as (λ v. bytes_eq (path_of first) (path_of text) ≡ v
    → (v || has (map path_of rest) (path_of text)) ≡ true → HasPathOf (first ∷ rest) text) [
      | true ↦ λ e k. (first, here first rest first refl, (bytes_eq-Decides (path_of first) (path_of text)).0 e)
      | false ↦ λ e k. let w = found_in rest text k in (w.0, later first rest w.0 w.1, w.2)
    ] in
    P (bytes_eq (path_of first) (path_of text)) refl h

either : (rest : List (List ℕ)) (first : List ℕ) (lines : List (List ℕ)) (found : Bool)
    → has (map path_of rest) (path_of first) ≡ found
    → Contains (unless found first ++ lines) first ⊎ HasPathOf rest first
either rest first lines true h = inr (found_in rest first h)
either rest first lines false h = inl (here first lines first refl)

pub together : AreTogether
together [] rest text h = absurd (nowhere text h)
together (first ∷ all) rest text h =
    elim (cases_of first all text h) as (λ _. Contains (alone (first ∷ all) rest) text ⊎ HasPathOf rest text) [
      | inl e ↦ subst (λ (t : List ℕ). Contains (alone (first ∷ all) rest) t ⊎ HasPathOf rest t) e
          (either rest first (alone all rest) (has (map path_of rest) (path_of first)) refl)
      | inr i ↦ elim (together all rest text i)
          as (λ _. Contains (alone (first ∷ all) rest) text ⊎ HasPathOf rest text) [
            | inl j ↦ inl (Contains-append_right (unless (has (map path_of rest) (path_of first)) first)
                (alone all rest) text j)
            | inr w ↦ inr w
          ]
    ]
