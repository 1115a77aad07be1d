-- Where the blocks of a file that opens begin.
use Rattle.std.proofs.Common.{◌≡◌, ℕ, ◌^◌, ◌<◌, List, [], ◌++◌, length, drop, Some, None, Ok, refl, sym, ap, subst, ◌∙◌}
use Rattle.avro_schema.specs.Tree.{Tree}
use Rattle.avro_schema.specs.Texts.{schema_of}
use Rattle.avro_file.specs.declared.fault.AvroFault.TheVariants.{Schema}
use Rattle.avro_file.specs.Blocks.{refused, Run, run_from, blocks_run}
use Rattle.avro_file.specs.Header.{Property, Wanted, last_under, schema_key, codec_key}
use Rattle.avro_file.specs.Ahead.{running}
use Rattle.avro_file.specs.Files.{magic, ahead_of, Opened, begun_at, schema_text, uncompressed, opened_at}
use Rattle.avro_file.specs.Files.{IsUncompressed}
use Rattle.avro_file.specs.Writers.{IsHeader}
use Rattle.avro_file.proofs.Steps.{bind_ok, ok_is}
use Rattle.avro_file.proofs.Heads.{refused_ok}
use Rattle.avro_file.proofs.Opened.{begun_takes, begun_again, starts, text_is, codec_is, codec_again}
use Rattle.avro_file_laws.proofs.Once.{header_parts}

-- the header of a file that opens, and the run over its blocks
pub record Begun (bytes : List ℕ) (o : Opened) : Type 0 where
  pub properties : List Property
  pub sync : List ℕ
  pub header : List ℕ
  pub rest : List ℕ
  pub is_header : IsHeader properties o.schema sync header
  pub parts : bytes ≡ header ++ rest
  pub ahead : o.ahead ≡ running (blocks_run o.schema sync (length bytes) (length rest) rest).found
      (blocks_run o.schema sync (length bytes) (length rest) rest).ending

joined_header : (bytes tail front sync rest : List ℕ) → bytes ≡ magic ++ tail → tail ≡ front ++ (sync ++ rest)
    → bytes ≡ (magic ++ (front ++ sync)) ++ rest
joined_header bytes tail front sync rest e f = e ∙ ap (λ (t : List ℕ). magic ++ t) f ∙ sym
    (header_parts (magic ++ (front ++ sync)) front sync rest refl)

run_ahead : (total : ℕ) (r q : Run) → r ≡ q → ahead_of total None r ≡ running q.found q.ending
run_ahead total r q e = rw e refl

pub opened_begins : (bytes : List ℕ) (o : Opened) → opened_at bytes ≡ Ok o → Begun bytes o
unfolding opened_at
opened_begins bytes o e =
    let a = bind_ok (begun_at bytes) _ o e in
    let b = bind_ok (schema_text a.0.wanted.schema) _ o a.2 in
    let d = bind_ok (uncompressed a.0.wanted.codec) _ o b.2 in
    let f = bind_ok (refused Schema (schema_of b.0)) _ o d.2 in
    let begun = begun_takes bytes a.0 a.1 in
    let t = begun.0 in
    let run = run_from f.0 a.0.sync (length bytes) (record { count = 0; block = []; bytes = a.0.rest }) in
    let made : Opened = record { schema = f.0; ahead = ahead_of (length bytes) None run } in
    let same : made ≡ o = ok_is made o f.2 in
    let text : last_under schema_key None t.properties ≡ Some b.0 = ap (λ (w : Wanted). w.schema) (sym t.wanted) ∙
    text_is a.0.wanted.schema b.0 b.1 in
    let codec : IsUncompressed (last_under codec_key None t.properties) = subst (λ (w : Wanted). IsUncompressed w.codec)
    t.wanted (codec_is a.0.wanted.codec d.0 d.1) in
    let named : schema_of b.0 ≡ Ok f.0 = refused_ok Schema (schema_of b.0) f.0 f.1 in
    subst (Begun bytes) same (record {
      properties = t.properties;
      sync = a.0.sync;
      header = magic ++ (t.front ++ a.0.sync);
      rest = a.0.rest;
      is_header = (b.0, t.front, t.spelled, text, named, codec, t.sixteen, refl);
      parts = joined_header bytes (drop 4 bytes) t.front a.0.sync a.0.rest begun.1 t.parts;
      ahead = run_ahead (length bytes) run (blocks_run f.0 a.0.sync (length bytes) (length a.0.rest) a.0.rest)
          (starts f.0 a.0.sync (length bytes) a.0.rest);
    })

pub begins_opened : (ps : List Property) (s : Tree) (sync header rest bytes : List ℕ) → length bytes < 2 ^ 64
    → IsHeader ps s sync header → bytes ≡ header ++ rest → (o : Opened) × (opened_at bytes ≡ Ok o) × (o.schema ≡ s)
unfolding opened_at
begins_opened ps s sync header rest bytes short is e =
    let begun = begun_again ps is.1 sync rest bytes short is.2 is.6 (e ∙ header_parts header is.1 sync rest is.7) in
    let run = run_from s sync (length bytes) (record { count = 0; block = []; bytes = rest }) in
    let o : Opened = record { schema = s; ahead = ahead_of (length bytes) None run } in
    (o, rw (begun, is.3, codec_again (last_under codec_key None ps) is.5, is.4) refl, refl)
