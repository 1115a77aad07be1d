-- What is under a key of the properties of a header, as the loops find it.
use Rattle.std.proofs.Common.{◌≡◌, ℕ, List, [], ◌∷◌, ◌++◌, Option, Some, None, cond, Ok, Err, refl, sym, ap, ◌∙◌}
use Rattle.std.specs.Str.{bytes_eq}
use Rattle.avro_file_parts.specs.Parts.{Position, Read}
use Rattle.avro_file_parts.specs.declared.refusal.Refusal.{Refusal}
use Rattle.avro_file.specs.Header.{Property, last_under, properties_at}
use Rattle.avro_file.specs.Reading.{with_front}
use Rattle.avro_file.proofs.Loop.{front_of_err, front_of_ok}
use Rattle.avro_file.proofs.Steps.{bind_ok, ok_is}
use Rattle.icescan_audit_findings.specs.RowFlaws.{found_at, property_under}

under_both : (key : List ℕ) (found : Option (List ℕ)) (ps qs : List Property)
    → last_under key found (ps ++ qs) ≡ last_under key (last_under key found ps) qs
under_both key found [] qs = refl
under_both key found (p ∷ ps) qs = under_both key (cond (bytes_eq p.0 key) (Some p.1) found) ps qs

-- more properties, behind those that were seen
pub under_on : (key : List ℕ) (first so_far found : Option (List ℕ)) (ps qs : List Property)
    → so_far ≡ last_under key first ps → found ≡ last_under key so_far qs → found ≡ last_under key first (ps ++ qs)
under_on key first so_far found ps qs e f =
    f ∙ ap (λ (v : Option (List ℕ)). last_under key v qs) e ∙ sym (under_both key first ps qs)

pub found_fails : (e : Refusal) (key : List ℕ) (first : Option (List ℕ)) (read : Read (List Property))
    → with_front [] read ≡ Err e → found_at key first read ≡ Err e
found_fails e key first read h = rw (front_of_err [] read e h) refl

pub found_is : (key : List ℕ) (first found : Option (List ℕ)) (front : List Property) (read : Read (List Property))
    (q : Position) → with_front [] read ≡ Ok (front, q) → found ≡ last_under key first front
    → found_at key first read ≡ Ok (found, q)
found_is key first found front read q h g =
    let f = front_of_ok [] read front q h in
    rw (f.1, g) (ap (λ (ps : List Property). Ok (last_under key first ps, q)) (sym f.2))

-- the properties that were read
pub found_read : (key : List ℕ) (first found : Option (List ℕ)) (read : Read (List Property)) (q : Position)
    → found_at key first read ≡ Ok (found, q)
    → (here : List Property) × (read ≡ Ok (here, q)) × (found ≡ last_under key first here)
found_read key first found read q e =
    let a = bind_ok read (λ x. Ok (last_under key first x.0, x.1)) (found, q) e in
    let same = ok_is (last_under key first a.0.0, a.0.1) (found, q) a.2 in (
      a.0.0,
      a.1 ∙ ap (λ (y : Option (List ℕ) × Position). Ok (a.0.0, y.1)) same,
      sym (ap (λ (y : Option (List ℕ) × Position). y.0) same),
    )

pub read_fails : (e : Refusal) (key : List ℕ) (first : Option (List ℕ)) (read : Read (List Property))
    → found_at key first read ≡ Err e → read ≡ Err e
read_fails e key first (Ok x) h = absurd cc
read_fails e key first (Err f) h = let same : f ≡ e = cc in ap (λ (d : Refusal). Err d) same

pub under_fails : (e : Refusal) (key bytes : List ℕ) → with_front [] (properties_at bytes) ≡ Err e
    → property_under key bytes ≡ Err e
under_fails e key bytes h = rw (front_of_err [] (properties_at bytes) e h) refl

pub under_is : (key bytes : List ℕ) (found : Option (List ℕ)) (front : List Property) (q : Position)
    → with_front [] (properties_at bytes) ≡ Ok (front, q) → found ≡ last_under key None front
    → property_under key bytes ≡ Ok found
under_is key bytes found front q h g =
    let f = front_of_ok [] (properties_at bytes) front q h in
    rw (f.1, g) (ap (λ (ps : List Property). Ok (last_under key None ps)) (sym f.2))
