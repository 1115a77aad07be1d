-- Which metadata a header has.
use Rattle.std.proofs.Common.{◌≡◌, ℕ, zero, suc, ◌+◌, ◌-◌, ◌^◌, ◌<◌, ◌≤◌, pos, List, [], ◌∷◌, ◌++◌, length, Ok, refl}
use Rattle.std.proofs.Common.{sym, ap, subst, ◌∙◌, append_assoc, arith}
use Rattle.std.proofs.lemmas.List.{length-append}
use Rattle.contract_words.specs.Outcome.{◌>>=◌}
use Rattle.avro_file_parts.specs.Parts.{Position, run_at}
use Rattle.avro_file.specs.Reading.{blocks_at}
use Rattle.avro_file.specs.Spelling.{AreJoined, AreBlocks}
use Rattle.avro_file.specs.Header.{Property, Wanted, wanted_with, none_wanted, property_at, properties_at, wanted_at}
use Rattle.avro_file.specs.Header.{metadata_at, FileHeader, header_at, IsProperty, AreProperties}
use Rattle.avro_file.proofs.Steps.{bind_ok, ok_is}
use Rattle.avro_file.proofs.Taken.{run_takes, blocks_take, counts, counts-append}
use Rattle.avro_file.proofs.Loop.{long_len}
use Rattle.avro_file.proofs.Again.{ReadsAll, string_again, bytes_again, run_again, blocks_again, few_blocks, ends_at}
use Rattle.avro_file.proofs.Properties.{no_items, property_takes, properties_read}

-- ---- what is read is there

-- what stands in front of the rest
pub record HeaderTakes (bytes : List ℕ) (h : FileHeader) : Type 0 where
  pub properties : List Property
  pub front : List ℕ
  pub spelled : AreProperties properties front
  pub wanted : h.wanted ≡ wanted_with none_wanted properties
  pub sixteen : length h.sync ≡ 16
  pub parts : bytes ≡ front ++ (h.sync ++ h.rest)

metadata_takes : (bytes : List ℕ) (x : Wanted × List ℕ) → metadata_at bytes ≡ Ok x
    → (ps : List Property) × (front : List ℕ) × AreProperties ps front × (bytes ≡ front ++ x.1) ×
    (x.0 ≡ wanted_with none_wanted ps)
unfolding metadata_at properties_at
metadata_takes bytes x e =
    let p : Position = record { bytes = bytes; left = 2 ^ 64 - 1 } in
    let a = bind_ok (wanted_at none_wanted (properties_at bytes)) (λ y. Ok (y.0, y.1.bytes)) x e in
    let r = properties_read none_wanted a.0.0 (properties_at bytes) a.0.1 a.1 in
    let t = blocks_take property_at IsProperty no_items property_takes (suc (length bytes)) p (r.0, a.0.1) r.1 in
    let made : Wanted × List ℕ = (a.0.0, a.0.1.bytes) in
    subst (λ (y : Wanted × List ℕ). (ps : List Property) × (front : List ℕ) × AreProperties ps front ×
    (bytes ≡ front ++ y.1) × (y.0 ≡ wanted_with none_wanted ps)) (ok_is made x a.2)
    (r.0, t.front, (t.spelled.0, t.spelled.1), t.parts, r.2)

pub header_takes : (bytes : List ℕ) (h : FileHeader) → header_at bytes ≡ Ok h → HeaderTakes bytes h
unfolding header_at
header_takes bytes h e =
    let a = bind_ok (metadata_at bytes) (λ x. run_at 16 x.1 >>= λ marker. Ok (record {
      wanted = x.0;
      sync = marker.0;
      rest = marker.1;
    })) h e in
    let b = bind_ok (run_at 16 a.0.1) (λ marker. Ok (record { wanted = a.0.0; sync = marker.0; rest = marker.1 })) h
    a.2 in
    let meta = metadata_takes bytes a.0 a.1 in
    let marker = run_takes 16 a.0.1 b.0 b.1 in
    let made : FileHeader = record { wanted = a.0.0; sync = b.0.0; rest = b.0.1 } in
    subst (HeaderTakes bytes) (ok_is made h b.2) (record {
      properties = meta.0;
      front = meta.1;
      spelled = meta.2;
      wanted = meta.4;
      sixteen = ap length marker.spelled.0 ∙ marker.spelled.1;
      parts = meta.3 ∙ ap (λ (t : List ℕ). meta.1 ++ t) (marker.parts ∙ ap (λ (t : List ℕ). t ++ b.0.1)
          (sym marker.spelled.0));
    })

-- ---- what is there is read

pub property_again : ReadsAll property_at IsProperty no_items
unfolding property_at
property_again v spelt p q is e f =
    let mid : List ℕ = is.1 ++ q.bytes in
    let regrouped : p.bytes ≡ is.0 ++ mid = e ∙ ap (λ (t : List ℕ). t ++ q.bytes) is.5 ∙ append_assoc is.0 is.1
    q.bytes in
    rw (regrouped, string_again v.0 is.0 mid is.2 is.3, bytes_again v.1 is.1 q.bytes is.4)
    (ends_at v (record { bytes = q.bytes; left = p.left }) q refl (omega (arith, f)))

-- properties take more bytes than they are
pub properties_cost : (ps : List Property) (spelt : List ℕ) → AreJoined IsProperty ps spelt
    → length ps + counts no_items ps ≤ length spelt
properties_cost [] spelt is = omega arith
properties_cost (p ∷ ps) spelt is =
    let one = is.2 in
    let long = long_len one.3.0 (pos (length p.0)) one.3.1 in
    omega (
      arith,
      properties_cost ps is.1 is.3,
      ap length is.4,
      length-append is.0 is.1,
      ap length one.5,
      length-append
          one.0 one.1,
      ap length one.3.2,
      length-append one.3.0 p.0,
      long,
    )

few_properties : (blocks : ℕ) (ps : List Property) (spelt : List ℕ) → AreBlocks IsProperty blocks ps spelt
    → length ps + counts no_items ps ≤ length spelt
few_properties zero ps spelt is = rw is.0 (omega arith)
few_properties (suc blocks) ps spelt is =
    let first = properties_cost is.0 is.3 is.7 in
    let others = few_properties blocks is.1 is.4 is.8 in
    rw is.9 (omega (
      arith,
      first,
      others,
      length-append is.0 is.1,
      counts-append no_items is.0 is.1,
      ap length is.10,
      length-append is.2 (is.3 ++ is.4),
      length-append is.3 is.4,
    ))

metadata_again : (ps : List Property) (front rest : List ℕ) → length front < 2 ^ 64 → AreProperties ps front
    → metadata_at (front ++ rest) ≡ Ok (wanted_with none_wanted ps, rest)
unfolding metadata_at properties_at
metadata_again ps front rest short is =
    let items = length ps + counts no_items ps in
    let few : items ≤ length front = few_properties is.0 ps front is.1 in
    let q : Position = record { bytes = rest; left = 2 ^ 64 - 1 - items } in
    let p : Position = record { bytes = front ++ rest; left = 2 ^ 64 - 1 } in
    let turns : is.0 < suc (length (front ++ rest)) = omega (
      arith,
      few_blocks IsProperty is.0 ps front is.1,
      length-append front rest,
    ) in
    let read : blocks_at property_at (suc (length (front ++ rest))) p ≡ Ok (ps, q) = blocks_again property_at IsProperty
    no_items property_again is.0 (suc (length (front ++ rest))) ps front p q turns is.1 refl
    (omega (arith, few, short)) in
    rw read refl

pub header_again : (ps : List Property) (front sync rest : List ℕ) → length front < 2 ^ 64 → AreProperties ps front
    → length sync ≡ 16 → header_at (front ++ (sync ++ rest)) ≡ Ok (record {
      wanted = wanted_with none_wanted ps;
      sync = sync;
      rest = rest;
    })
unfolding header_at
header_again ps front sync rest short is sixteen =
    let marker : run_at 16 (sync ++ rest) ≡ Ok (sync, rest) = ap (λ (k : ℕ). run_at k (sync ++ rest)) (sym sixteen) ∙
    run_again sync rest in
    rw (metadata_again ps front (sync ++ rest) short is, marker) refl
