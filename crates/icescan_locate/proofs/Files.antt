-- The metadata files among names, with one name more.
use Rattle.std.proofs.Common.{◌≡◌, ℕ, ◌+◌, ◌<◌, true, false, List, [], ◌∷◌, ◌++◌, length, take, map, filter}
use Rattle.std.proofs.Common.{get_or, cond, sym, ap, ◌∙◌, append-nil}
use Rattle.std.proofs.lemmas.List.{map-append}
use Rattle.std.proofs.lemmas.List.Elements.{filter_more}
use Rattle.icescan_locate.specs.Dated.{is_metadata}
use Rattle.icescan_locate.specs.declared.dated.DatedFile.{DatedFile}

pub file_more : (names : List (List ℕ)) (i : ℕ) (name : List ℕ) (found : List DatedFile) (file : DatedFile)
    → i < length names → name ≡ get_or names i name
    → map (λ (f : DatedFile). f.name) found ≡ filter is_metadata (take i names)
    → file.name ≡ name → is_metadata name ≡ true
    → map (λ (f : DatedFile). f.name) (found ++ file ∷ []) ≡ filter is_metadata (take (i + 1) names)
file_more names i name found file low at h named is =
    map-append (λ (f : DatedFile). f.name) found (file ∷ [])
    ∙ ap (λ ns. ns ++ file.name ∷ []) h
    ∙ ap (λ n. filter is_metadata (take i names) ++ n ∷ []) named
    ∙ ap (λ b. filter is_metadata (take i names) ++ cond b (name ∷ []) []) (sym is)
    ∙ ap (λ n. filter is_metadata (take i names) ++ cond (is_metadata n) (n ∷ []) []) at
    ∙ sym (filter_more is_metadata names i name low)

pub other_more : (names : List (List ℕ)) (i : ℕ) (name : List ℕ) (found : List DatedFile)
    → i < length names → name ≡ get_or names i name
    → map (λ (f : DatedFile). f.name) found ≡ filter is_metadata (take i names) → is_metadata name ≡ false
    → map (λ (f : DatedFile). f.name) found ≡ filter is_metadata (take (i + 1) names)
other_more names i name found low at h is =
    h
    ∙ sym (append-nil _)
    ∙ ap (λ b. filter is_metadata (take i names) ++ cond b (name ∷ []) []) (sym is)
    ∙ ap (λ n. filter is_metadata (take i names) ++ cond (is_metadata n) (n ∷ []) []) at
    ∙ sym (filter_more is_metadata names i name low)
