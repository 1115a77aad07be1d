-- Reading the metadata property by property, as the loops do.
use Rattle.std.proofs.Common.{◌≡◌, ℕ, List, [], ◌∷◌, ◌++◌, Option, Some, cond, Ok, Err, refl, sym, ap, subst, ◌∙◌}
use Rattle.std.proofs.Common.{arith}
use Rattle.std.specs.Str.{bytes_eq}
use Rattle.contract_words.specs.Outcome.{◌>>=◌}
use Rattle.avro_file_parts.specs.declared.refusal.Refusal.{Refusal}
use Rattle.avro_file_parts.specs.Parts.{Position, Read, string_at, bytes_at}
use Rattle.avro_file.specs.Reading.{with_front}
use Rattle.avro_file.specs.Header.{Property, schema_key, codec_key, last_under, Wanted, wanted_with, none_wanted}
use Rattle.avro_file.specs.Header.{property_at, properties_at, wanted_at, metadata_at, IsProperty}
use Rattle.avro_file.proofs.Steps.{bind_ok, ok_is, joined}
use Rattle.avro_file.proofs.Taken.{Takes, Each, string_takes, bytes_take}
use Rattle.avro_file.proofs.Loop.{front_of_err, front_of_ok}

-- ---- what is wanted of several properties

last_under-append : (key : List ℕ) (found : Option (List ℕ)) (ps qs : List Property)
    → last_under key found (ps ++ qs) ≡ last_under key (last_under key found ps) qs
last_under-append key found [] qs = refl
last_under-append key found (p ∷ ps) qs = last_under-append key (cond (bytes_eq p.0 key) (Some p.1) found) ps qs

pub wanted_with-append : (w : Wanted) (ps qs : List Property)
    → wanted_with w (ps ++ qs) ≡ wanted_with (wanted_with w ps) qs
wanted_with-append w ps qs = rw (last_under-append schema_key w.schema ps qs, last_under-append codec_key w.codec ps qs)
    refl

-- more properties, behind those that were seen
pub wanted_on : (w so_far found : Wanted) (ps qs : List Property) → so_far ≡ wanted_with w ps
    → found ≡ wanted_with so_far qs → found ≡ wanted_with w (ps ++ qs)
wanted_on w so_far found ps qs e f = f ∙ ap (λ (v : Wanted). wanted_with v qs) e ∙ sym (wanted_with-append w ps qs)

-- ---- one property

pub key_fails : (e : Refusal) (p : Position) → string_at p.bytes ≡ Err e → property_at p ≡ Err e
unfolding property_at
key_fails e p h = rw h refl

pub bytes_fail : (e : Refusal) (p : Position) (key rest : List ℕ) → string_at p.bytes ≡ Ok (key, rest)
    → bytes_at rest ≡ Err e → property_at p ≡ Err e
unfolding property_at
bytes_fail e p key rest h g = rw (h, g) refl

pub property_read : (p : Position) (key rest content after : List ℕ) → string_at p.bytes ≡ Ok (key, rest)
    → bytes_at rest ≡ Ok (content, after) → property_at p ≡ Ok ((key, content), record { bytes = after; left = p.left })
unfolding property_at
property_read p key rest content after h g = rw (h, g) refl

-- properties hold no items
abbrev pub no_items : Property → ℕ
no_items p = 0

pub property_takes : Each property_at IsProperty no_items
unfolding property_at
property_takes p x e =
    let a = bind_ok (string_at p.bytes) (λ key. bytes_at key.1 >>= λ v. Ok (
      (key.0, v.0),
      record {
        bytes = v.1;
        left = p.left;
      },
    )) x e in
    let b = bind_ok (bytes_at a.0.1) (λ v. Ok ((a.0.0, v.0), record { bytes = v.1; left = p.left })) x a.2 in
    let k = string_takes p.bytes a.0 a.1 in
    let v = bytes_take a.0.1 b.0 b.1 in
    let made : Property × Position = ((a.0.0, b.0.0), record { bytes = b.0.1; left = p.left }) in
    subst (Takes IsProperty no_items p) (ok_is made x b.2) (record {
      front = k.front ++ v.front;
      spelled = (k.front, v.front, k.spelled.0, k.spelled.1, v.spelled, refl);
      parts = joined p.bytes k.front a.0.1 v.front b.0.1 k.parts v.parts;
      left = omega arith;
    })

-- ---- several properties

pub wanted_fails : (e : Refusal) (w : Wanted) (read : Read (List Property)) → with_front [] read ≡ Err e
    → wanted_at w read ≡ Err e
wanted_fails e w read h = rw (front_of_err [] read e h) refl

pub wanted_found : (w found : Wanted) (front : List Property) (read : Read (List Property)) (q : Position)
    → with_front [] read ≡ Ok (front, q) → found ≡ wanted_with w front → wanted_at w read ≡ Ok (found, q)
wanted_found w found front read q h g =
    let f = front_of_ok [] read front q h in
    rw (f.1, g) (ap (λ (ps : List Property). Ok (wanted_with w ps, q)) (sym f.2))

-- the properties that were read
pub properties_read : (w found : Wanted) (read : Read (List Property)) (q : Position) → wanted_at w read ≡ Ok (found, q)
    → (here : List Property) × (read ≡ Ok (here, q)) × (found ≡ wanted_with w here)
properties_read w found read q e =
    let a = bind_ok read (λ x. Ok (wanted_with w x.0, x.1)) (found, q) e in
    let same = ok_is (wanted_with w a.0.0, a.0.1) (found, q) a.2 in
    (a.0.0, a.1 ∙ ap (λ (y : Wanted × Position). Ok (a.0.0, y.1)) same, sym (ap (λ (y : Wanted × Position). y.0) same))

pub properties_fail : (e : Refusal) (w : Wanted) (read : Read (List Property)) → wanted_at w read ≡ Err e → read ≡ Err e
properties_fail e w (Ok x) h = absurd cc
properties_fail e w (Err f) h = let same : f ≡ e = cc in ap (λ (d : Refusal). Err d) same

pub metadata_fails : (e : Refusal) (bytes : List ℕ) → with_front [] (properties_at bytes) ≡ Err e
    → metadata_at bytes ≡ Err e
unfolding metadata_at
metadata_fails e bytes h = rw (front_of_err [] (properties_at bytes) e h) refl

pub metadata_found : (bytes : List ℕ) (found : Wanted) (front : List Property) (q : Position)
    → with_front [] (properties_at bytes) ≡ Ok (front, q) → found ≡ wanted_with none_wanted front
    → metadata_at bytes ≡ Ok (found, q.bytes)
unfolding metadata_at
metadata_found bytes found front q h g =
    let f = front_of_ok [] (properties_at bytes) front q h in
    rw (f.1, g) (ap (λ (ps : List Property). Ok (wanted_with none_wanted ps, q.bytes)) (sym f.2))

pub none_in_front : (front : List Property) (read : Read (List Property)) (e : Refusal) → read ≡ Err e
    → with_front front read ≡ Err e
none_in_front front read e h = rw h refl

pub some_in_front : (front : List Property) (read : Read (List Property)) (here : List Property) (q : Position)
    → read ≡ Ok (here, q) → with_front front read ≡ Ok (front ++ here, q)
some_in_front front read here q h = rw h refl
