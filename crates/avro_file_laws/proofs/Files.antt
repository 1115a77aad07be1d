-- Where a file is at fault.
use Rattle.std.proofs.Common.{◌≡◌, ◌≢◌, ℕ, ◌+◌, ◌^◌, ◌<◌, true, false, cond, ltb, List, [], ◌++◌, length, take, drop}
use Rattle.std.proofs.Common.{Option, Some, None, Ok, Err, ◌⊎◌, inl, inr, ◌↔◌, refl, sym, ap, subst, ◌∙◌, length-append}
use Rattle.std.proofs.Common.{arith}
use Rattle.std.specs.Str.{bytes_eq}
use Rattle.std.proofs.lemmas.Bool.{le-ltb, ltb-true}
use Rattle.std.proofs.lemmas.List.{take-append-drop}
use Rattle.std.proofs.lemmas.Slice.Eq.{bytes_eq-Decides}
use Rattle.avro_schema.specs.Tree.{Tree}
use Rattle.avro_schema.specs.Texts.{schema_of}
use Rattle.avro_file_parts.specs.declared.refusal.Refusal.{Refusal}
use Rattle.avro_file_parts.specs.declared.refusal.Refusal.TheVariants as refusal
use Rattle.avro_file.specs.declared.fault.AvroFault.{AvroFault}
use Rattle.avro_file.specs.declared.fault.AvroFault.TheVariants as fault
use Rattle.avro_file.specs.Value.{Value}
use Rattle.avro_file.specs.Blocks.{fault_of, refused, Run, blocks_run}
use Rattle.avro_file.specs.Holding.{Holds}
use Rattle.avro_file.specs.Header.{Property, Wanted, schema_key, codec_key, last_under, AreProperties, FileHeader}
use Rattle.avro_file.specs.Header.{header_at}
use Rattle.avro_file.specs.Ahead.{running}
use Rattle.avro_file.specs.Files.{magic, null_codec, Opened, begun_at, schema_text, uncompressed, opened_at}
use Rattle.avro_file.specs.Files.{IsUncompressed}
use Rattle.avro_file.proofs.Steps.{either}
use Rattle.avro_file.proofs.Heads.{same_bytes}
use Rattle.avro_file.proofs.Held.{same_test}
use Rattle.avro_file.proofs.Metadata.{HeaderTakes}
use Rattle.avro_file.proofs.Opened.{begun_takes, begun_again, text_is, codec_is, codec_again}
use Rattle.avro_file.proofs.Unlimited.{no_item_limit}
use Rattle.avro_file_laws.specs.Faults.{IsAtFault, ComesInHeader, ComesInHead, AreRefused, IsNoFile, IsBlockAtFault}
use Rattle.avro_file_laws.specs.Faults.{FaultFollows}
use Rattle.avro_file_laws.proofs.Once.{header_once}
use Rattle.avro_file_laws.proofs.Begun.{opened_begins}
use Rattle.avro_file_laws.proofs.Numbers.{err_is, bind_err, which_way}
use Rattle.avro_file_laws.proofs.Objects.{refused_err, ends_so}
use Rattle.avro_file_laws.proofs.Heads.{place_told, place_of, head_err, head_fails}
use Rattle.avro_file_laws.proofs.Headers.{header_err, header_fails}
use Rattle.avro_file_laws.proofs.Runs.{Follows, RunStops, run_stops, run_ends}

-- ---- how a file begins

no_front : (bytes : List ℕ) → length bytes < 4 → (rest : List ℕ) → bytes ≢ magic ++ rest
no_front bytes lt rest = λ e. omega (arith, lt, ap length e)

other_front : (bytes : List ℕ) → bytes_eq (take 4 bytes) magic ≡ false → (rest : List ℕ) → bytes ≢ magic ++ rest
other_front bytes other rest = λ e.
    let first : take 4 bytes ≡ magic = rw e refl in
    let test : bytes_eq (take 4 bytes) magic ≡ true = rw first (same_test magic) in
    cc

begun_parts : (bytes : List ℕ) → bytes_eq (take 4 bytes) magic ≡ true → bytes ≡ magic ++ drop 4 bytes
begun_parts bytes same = sym (take-append-drop 4 bytes) ∙ ap (λ (t : List ℕ). t ++ drop 4 bytes)
    (same_bytes (take 4 bytes) magic same)

abbrev BegunErr : List ℕ → AvroFault → Type 0
BegunErr bytes f = (((rest : List ℕ) → bytes ≢ magic ++ rest) × (f ≡ fault.NotAvro))
    ⊎ ((e : Refusal) × (header_at (drop 4 bytes) ≡ Err e) × (f ≡ fault_of (length bytes) e) ×
    (bytes ≡ magic ++ drop 4 bytes))

begun_err : (bytes : List ℕ) (f : AvroFault) → begun_at bytes ≡ Err f → BegunErr bytes f
unfolding begun_at
begun_err bytes f h =
    let inner = refused (fault_of (length bytes)) (header_at (drop 4 bytes)) in
    elim (either (ltb (length bytes) 4) (Err fault.NotAvro) (cond (bytes_eq (take 4 bytes) magic) inner
    (Err fault.NotAvro)) (Err f) h) [
      | inl g ↦ inl (no_front bytes (ltb-true _ _ g.0), sym (err_is {A = FileHeader} fault.NotAvro f g.1))
      | inr g ↦
          elim (either (bytes_eq (take 4 bytes) magic) inner (Err fault.NotAvro) (Err f) g.1) [
            | inl k ↦
                let r = refused_err (fault_of (length bytes)) (header_at (drop 4 bytes)) f k.1 in
                inr (r.0, r.1, r.2, begun_parts bytes k.0)
            | inr k ↦ inl (other_front bytes k.0, sym (err_is {A = FileHeader} fault.NotAvro f k.1))
          ]
    ]

-- ---- a file that does not open

text_err : (found : Option (List ℕ)) (f : AvroFault) → schema_text found ≡ Err f
    → (found ≡ None) × (f ≡ fault.NotAvro)
text_err None f h = (refl, sym (err_is {A = List ℕ} fault.NotAvro f h))
text_err (Some text) f h = absurd (let m = h in cc)

other_codec : (name : List ℕ) → bytes_eq name null_codec ≡ false → name ≢ null_codec
other_codec name e = λ h. let t = (bytes_eq-Decides name null_codec).1 h in cc

codec_err : (found : Option (List ℕ)) (f : AvroFault) → uncompressed found ≡ Err f
    → (name : List ℕ) × (found ≡ Some name) × (name ≢ null_codec) × (f ≡ fault.Codec name)
codec_err None f h = absurd (let m = h in cc)
codec_err (Some name) f h =
    elim (either (bytes_eq name null_codec) (Ok tt) (Err (fault.Codec name)) (Err f) h) [
      | inl g ↦ absurd (let m = g.1 in cc)
      | inr g ↦ (name, refl, other_codec name g.0, sym (err_is {A = Unit {0}} (fault.Codec name) f g.1))
    ]

refused_header : (bytes : List ℕ) (h : FileHeader) (f : AvroFault) → begun_at bytes ≡ Ok h
    → ((t : HeaderTakes (drop 4 bytes) h) → AreRefused t.properties f) → IsNoFile bytes f
refused_header bytes h f e refusing =
    let begun = begun_takes bytes h e in
    let t = begun.0 in
    inr (inr (
      t.properties,
      t.front,
      h.sync,
      h.rest,
      t.spelled,
      t.sixteen,
      refusing t,
      begun.1 ∙ ap (λ (x : List ℕ). magic ++ x) t.parts,
    ))

under_schema : (bytes : List ℕ) (h : FileHeader) (found : Option (List ℕ)) (t : HeaderTakes bytes h)
    → h.wanted.schema ≡ found → last_under schema_key None t.properties ≡ found
under_schema bytes h found t e = ap (λ (w : Wanted). w.schema) (sym t.wanted) ∙ e

under_codec : (bytes : List ℕ) (h : FileHeader) (found : Option (List ℕ)) (t : HeaderTakes bytes h)
    → h.wanted.codec ≡ found → last_under codec_key None t.properties ≡ found
under_codec bytes h found t e = ap (λ (w : Wanted). w.codec) (sym t.wanted) ∙ e

behind_magic : (bytes : List ℕ) → bytes ≡ magic ++ drop 4 bytes → length bytes ≡ 4 + length (drop 4 bytes)
behind_magic bytes e = omega (arith, ap length e)

pub no_file : (bytes : List ℕ) (f : AvroFault) → length bytes < 2 ^ 63 → opened_at bytes ≡ Err f → IsNoFile bytes f
unfolding opened_at
no_file bytes f short h =
    elim (bind_err (begun_at bytes) _ f h) [
      | inl g ↦
          elim (begun_err bytes f g) [
            | inl k ↦ inl k
            | inr k ↦
                let unlimited : k.0 ≢ refusal.TooManyItems = λ same. no_item_limit bytes short (h ∙ ap
                (λ (y : AvroFault). Err y) (k.2 ∙ ap (fault_of (length bytes)) same)) in
                let there = place_told ComesInHeader (length bytes) 4 (drop 4 bytes) k.0 (behind_magic bytes k.3)
                (header_err (drop 4 bytes) k.0 unlimited k.1) in
                inr (inl (
                  drop 4 bytes,
                  subst (IsAtFault ComesInHeader 4 (drop 4 bytes)) (sym k.2) there,
                  k.3,
                ))
          ]
      | inr g ↦
          elim (bind_err (schema_text g.0.wanted.schema) _ f g.2) [
            | inl k ↦
                let n = text_err g.0.wanted.schema f k in
                refused_header bytes g.0 f g.1 (λ t. inl (under_schema (drop 4 bytes) g.0 None t n.0, n.1))
            | inr k ↦
                let named = text_is g.0.wanted.schema k.0 k.1 in
                elim (bind_err (uncompressed g.0.wanted.codec) _ f k.2) [
                  | inl m ↦
                      let n = codec_err g.0.wanted.codec f m in
                      refused_header bytes g.0 f g.1 (λ t. inr (
                        k.0,
                        under_schema (drop 4 bytes) g.0 (Some k.0) t named,
                        inl (n.0, under_codec (drop 4 bytes) g.0 (Some n.0) t n.1, n.2, n.3),
                      ))
                  | inr m ↦
                      elim (bind_err (refused fault.Schema (schema_of k.0)) _ f m.2) [
                        | inl o ↦
                            let r = refused_err fault.Schema (schema_of k.0) f o in
                            refused_header bytes g.0 f g.1 (λ t. inr (
                              k.0,
                              under_schema (drop 4 bytes) g.0 (Some k.0) t named,
                              inr (
                                r.0,
                                subst IsUncompressed (sym (under_codec (drop 4 bytes) g.0 g.0.wanted.codec t refl))
                                    (codec_is g.0.wanted.codec m.0 m.1),
                                r.1,
                                r.2,
                              ),
                            ))
                        | inr o ↦ absurd (let w = o.2 in cc)
                      ]
                ]
          ]
    ]

-- ---- and so it does not

begun_stops : (bytes : List ℕ) (f : AvroFault) → begun_at bytes ≡ Err f → opened_at bytes ≡ Err f
unfolding opened_at
begun_stops bytes f h = rw h refl

not_begun : (bytes : List ℕ) → ((rest : List ℕ) → bytes ≢ magic ++ rest) → begun_at bytes ≡ Err fault.NotAvro
unfolding begun_at
not_begun bytes not =
    elim (which_way (ltb (length bytes) 4)) [
      | inl g ↦ rw g refl
      | inr g ↦
          elim (which_way (bytes_eq (take 4 bytes) magic)) [
            | inl k ↦ absurd (not (drop 4 bytes) (begun_parts bytes k))
            | inr k ↦ rw (g, k) refl
          ]
    ]

header_stops : (rest bytes : List ℕ) (e : Refusal) → bytes ≡ magic ++ rest → header_at rest ≡ Err e
    → begun_at bytes ≡ Err (fault_of (length bytes) e)
unfolding begun_at
header_stops rest bytes e parts h =
    let long : ltb (length bytes) 4 ≡ false = le-ltb _ _ (omega (arith, ap length parts)) in
    let first : bytes_eq (take 4 bytes) magic ≡ true = rw parts (same_test magic) in
    let others : drop 4 bytes ≡ rest = rw parts refl in
    rw (long, first, others, h) refl

codec_stops : (found : Option (List ℕ)) (name : List ℕ) → found ≡ Some name → name ≢ null_codec
    → uncompressed found ≡ Err (fault.Codec name)
codec_stops found name e not =
    elim (which_way (bytes_eq name null_codec)) [
      | inl g ↦ absurd (not (same_bytes name null_codec g))
      | inr g ↦ rw (e, g) refl
    ]

refused_metadata : (bytes : List ℕ) (ps : List Property) (front sync rest : List ℕ) (f : AvroFault)
    → length bytes < 2 ^ 64 → AreProperties ps front → length sync ≡ 16
    → bytes ≡ magic ++ (front ++ (sync ++ rest)) → AreRefused ps f → opened_at bytes ≡ Err f
unfolding opened_at
refused_metadata bytes ps front sync rest f short is sixteen parts (inl h) =
    let begun = begun_again ps front sync rest bytes short is sixteen parts in
    rw (begun, h.0) (ap (λ (y : AvroFault). Err y) (sym h.1))
refused_metadata bytes ps front sync rest f short is sixteen parts (inr h) =
    let begun = begun_again ps front sync rest bytes short is sixteen parts in
    elim h.2 [
      | inl k ↦
          let codec = codec_stops (last_under codec_key None ps) k.0 k.1 k.2 in
          rw (begun, h.1, codec) (ap (λ (y : AvroFault). Err y) (sym k.3))
      | inr k ↦
          let codec = codec_again (last_under codec_key None ps) k.1 in
          rw (begun, h.1, codec, k.2) (ap (λ (y : AvroFault). Err y) (sym k.3))
    ]

pub no_file_opens : (bytes : List ℕ) (f : AvroFault) → length bytes < 2 ^ 63 → IsNoFile bytes f
    → opened_at bytes ≡ Err f
no_file_opens bytes f short (inl h) =
    begun_stops bytes f (not_begun bytes h.0 ∙ ap (λ (y : AvroFault). Err y) (sym h.1))
no_file_opens bytes f short (inr (inl h)) =
    let size : length bytes ≡ 4 + length h.0 = omega (arith, ap length h.2) in
    let p = place_of ComesInHeader (length bytes) 4 h.0 f size h.1 in
    let header = header_fails h.0 p.0 (omega (arith, short, size)) p.1 in
    begun_stops bytes f (header_stops h.0 bytes p.0 h.2 header ∙ ap (λ (y : AvroFault). Err y) p.2)
no_file_opens bytes f short (inr (inr h)) = refused_metadata bytes h.0 h.1 h.2 h.3 f (omega (arith, short)) h.4 h.5 h.7
    h.6

pub opening : (bytes : List ℕ) (f : AvroFault) → length bytes < 2 ^ 63 → (opened_at bytes ≡ Err f) ↔ IsNoFile bytes f
opening bytes f short = (no_file bytes f short, no_file_opens bytes f short)

-- ---- the objects of a file

abbrev There : Tree → List ℕ → ℕ → List Value → List ℕ → AvroFault → Type 0
There s sync offset after rest f = ((after ≡ []) × (rest ≢ []) × IsAtFault (ComesInHead sync) offset rest f)
    ⊎ IsBlockAtFault s sync after rest f

to_there : (s : Tree) (sync : List ℕ) (total offset : ℕ) (after : List Value) (rest : List ℕ) (f : AvroFault)
    → total ≡ offset + length rest → Follows s sync total after rest f → There s sync offset after rest f
to_there s sync total offset after rest f size (inl h) =
    let told = place_told (ComesInHead sync) total offset rest h.2.0 size (head_err sync rest h.2.0 h.2.1) in
    inl (h.0, h.1, subst (IsAtFault (ComesInHead sync) offset rest) h.2.2 told)
to_there s sync total offset after rest f size (inr h) = inr h

from_there : (s : Tree) (sync : List ℕ) (total offset : ℕ) (after : List Value) (rest : List ℕ) (f : AvroFault)
    → total ≡ offset + length rest → There s sync offset after rest f → Follows s sync total after rest f
from_there s sync total offset after rest f size (inl h) =
    let p = place_of (ComesInHead sync) total offset rest f size h.2 in
    inl (h.0, h.1, (p.0, head_fails sync rest p.0 p.1, p.2))
from_there s sync total offset after rest f size (inr h) = inr h

whole_size : (bytes header front rest behind : List ℕ) → bytes ≡ header ++ behind → behind ≡ front ++ rest
    → length bytes ≡ (length header + length front) + length rest
whole_size bytes header front rest behind e f = omega (
  arith,
  ap length e,
  ap length f,
  length-append header behind,
  length-append front rest,
)

found_are : (vs ws : List Value) (e f : Option AvroFault) → running vs e ≡ running ws f → vs ≡ ws
found_are vs ws e f h = cc

ending_is : (vs ws : List Value) (e f : Option AvroFault) → running vs e ≡ running ws f → e ≡ f
ending_is vs ws e f h = cc

pub fault_stands : (bytes : List ℕ) (o : Opened) (vs : List Value) (f : AvroFault) → opened_at bytes ≡ Ok o
    → o.ahead ≡ running vs (Some f) → FaultFollows o.schema vs bytes f
fault_stands bytes o vs f e g =
    let b = opened_begins bytes o e in
    let run = blocks_run o.schema b.sync (length bytes) (length b.rest) b.rest in
    let same : running run.found run.ending ≡ running vs (Some f) = sym b.ahead ∙ g in
    let ends : run ≡ ends_so vs f = ap (λ (us : List Value). record { found = us; ending = run.ending })
    (found_are run.found vs run.ending (Some f) same) ∙ ap (λ (d : Option AvroFault). record { found = vs; ending = d })
    (ending_is run.found vs run.ending (Some f) same) in
    let r = run_stops o.schema b.sync (length bytes) (length b.rest) vs b.rest f (omega arith) ends in
    let size = whole_size bytes b.header r.front r.rest b.rest b.parts r.parts in (
      b.properties,
      b.sync,
      b.header,
      r.here,
      r.after,
      r.front,
      r.rest,
      b.is_header,
      r.held,
      r.limits,
      r.all,
      to_there o.schema b.sync (length bytes) (length b.header + length r.front) r.after r.rest f size r.follows,
      b.parts ∙ ap (λ (t : List ℕ). b.header ++ t) r.parts,
    )

pub stands_fault : (bytes : List ℕ) (o : Opened) (vs : List Value) (f : AvroFault) → opened_at bytes ≡ Ok o
    → FaultFollows o.schema vs bytes f → o.ahead ≡ running vs (Some f)
stands_fault bytes o vs f e is =
    let b = opened_begins bytes o e in
    let front = is.5 in
    let rest = is.6 in
    let once = header_once is.0 b.properties o.schema o.schema is.1 b.sync is.2 b.header (front ++ rest) b.rest is.7
    b.is_header (sym is.12 ∙ b.parts) in
    let size = whole_size bytes is.2 front rest (front ++ rest) is.12 refl in
    let held : Holds o.schema b.sync is.3 front = subst (λ (x : List ℕ). Holds o.schema x is.3 front) once.1 is.8 in
    let follows : Follows o.schema b.sync (length bytes) is.4 rest f = subst (λ (x : List ℕ). Follows o.schema x
    (length bytes) is.4 rest f) once.1 (from_there o.schema is.1 (length bytes) (length is.2 + length front) is.4 rest f
    size is.11) in
    let stops : RunStops o.schema b.sync (length bytes) vs b.rest f = record {
      here = is.3;
      after = is.4;
      front = front;
      rest = rest;
      held = held;
      limits = is.9;
      all = is.10;
      follows = follows;
      parts = sym once.2;
    } in
    let ends = run_ends o.schema b.sync (length bytes) (length b.rest) vs b.rest f b.is_header.6 (omega arith) stops in
    b.ahead ∙ ap (λ (r : Run). running r.found r.ending) ends

pub objects : (bytes : List ℕ) (o : Opened) (vs : List Value) (f : AvroFault) → opened_at bytes ≡ Ok o
    → (o.ahead ≡ running vs (Some f)) ↔ FaultFollows o.schema vs bytes f
objects bytes o vs f e = (fault_stands bytes o vs f e, stands_fault bytes o vs f e)
