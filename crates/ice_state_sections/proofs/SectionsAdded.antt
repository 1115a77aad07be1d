-- Sections that are put read back.
use Rattle.std.proofs.Common.{◌≡◌, ℕ, List, [], ◌++◌, Result, Ok, Err, refl, ap, sym, ◌∙◌}
use Rattle.std.proofs.lemmas.List.{append-nil}
use Rattle.contract_words.specs.Outcome.{◌>>=◌}
use Rattle.ice_meta.specs.declared.spec.Spec.{Spec}
use Rattle.ice_manifest_fields.specs.declared.fault.ManifestFault.{ManifestFault}
use Rattle.ice_manifest_reading.specs.declared.row.Row.{Row}
use Rattle.ice_manifest_reading.specs.declared.entry.Entry.{Entry}
use Rattle.ice_state_sections.specs.Parts.{Read, number}
use Rattle.ice_state_sections.specs.Faults.{fault}
use Rattle.ice_state_sections.specs.Entries.{entries}
use Rattle.ice_state_sections.specs.Sections.{alone, given, section_at}
use Rattle.ice_state_sections.specs.Written.{Adds}
use Rattle.ice_state_sections.proofs.Added.{kind_with}

abbrev Given : Type 0
Given = Result (List Entry) ManifestFault

-- a kind, and what is given of it
abbrev whole : Row → Spec → List ℕ → Read Given
whole row spec bytes = number bytes >>= λ k. given row spec k.0 k.1

alone_over : {A B : Type 0} (r : Read A) (f : A × List ℕ → Read B) → (r >>= λ k. alone (f k)) ≡ alone (r >>= f)
alone_over (Ok x) f = refl
alone_over (Err e) f = refl

section_is : (row : Row) (spec : Spec) (x : Given) (b : List ℕ) → Adds (whole row spec) x [] b
    → section_at row spec b ≡ Ok x
unfolding section_at
section_is row spec x b p =
    let ends : b ≡ p.puts.0 ++ [] = p.puts.1 ∙ sym (append-nil p.puts.0) in
    let read : whole row spec b ≡ Ok (x, []) = ap (whole row spec) ends ∙ p.puts.2 [] in
    alone_over (number b) (λ k. given row spec k.0 k.1) ∙ ap alone read

pub good_is : (row : Row) (spec : Spec) (es : List Entry) (a b : List ℕ) → Adds number 0 [] a
    → Adds (entries row spec) es a b
    → section_at row spec b ≡ Ok (Ok es)
good_is row spec es a b p q = section_is row spec (Ok es) b
    (kind_with (whole row spec) (given row spec) 0 (entries row spec) es (Ok es) [] a b (λ s. refl)
    (λ s rest h. rw h refl) p q)

pub bad_is : (row : Row) (spec : Spec) (f : ManifestFault) (a b : List ℕ) → Adds number 1 [] a → Adds fault f a b
    → section_at row spec b ≡ Ok (Err f)
bad_is row spec f a b p q = section_is row spec (Err f) b
    (kind_with (whole row spec) (given row spec) 1 fault f (Err f) [] a b (λ s. refl) (λ s rest h. rw h refl) p q)
