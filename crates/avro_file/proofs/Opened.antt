-- What opening a file has read, and which files it opens.
use Rattle.std.proofs.Common.{◌≡◌, ℕ, ◌+◌, ◌^◌, ◌<◌, ltb, true, false, cond, List, [], ◌++◌, length, take, drop, Option}
use Rattle.std.proofs.Common.{Some, None, Result, Ok, Err, refl, sym, ap, subst, ◌∙◌, arith}
use Rattle.std.specs.Prelude.{IfOk}
use Rattle.std.specs.Str.{bytes_eq}
use Rattle.std.proofs.lemmas.Bool.{le-ltb}
use Rattle.std.proofs.lemmas.List.{length-append, take-append-drop}
use Rattle.contract_words.specs.Outcome.{Gives}
use Rattle.avro_schema.specs.Tree.{Tree}
use Rattle.avro_schema.specs.Texts.{schema_of}
use Rattle.avro_file.specs.declared.fault.AvroFault.{AvroFault}
use Rattle.avro_file.specs.declared.fault.AvroFault.TheVariants.{NotAvro, Codec, Schema, Memory}
use Rattle.avro_file.specs.declared.container.Container.{Container}
use Rattle.avro_file.specs.Value.{Value}
use Rattle.avro_file.specs.Blocks.{fault_of, refused, Run, run_from, objects_run, blocks_run}
use Rattle.avro_file.specs.Holding.{AreWithinLimits}
use Rattle.avro_file.specs.Header.{Property, Wanted, wanted_with, none_wanted, AreProperties, FileHeader, header_at}
use Rattle.avro_file.specs.Header.{last_under, schema_key, codec_key}
use Rattle.avro_file.specs.Ahead.{running}
use Rattle.avro_file.specs.Files.{magic, null_codec, at_start, ahead_of, tree_of, Opened, opened, reader_of, begun_at}
use Rattle.avro_file.specs.Files.{schema_text, uncompressed, opened_at, IsUncompressed, HoldsFile}
use Rattle.avro_file.proofs.Steps.{bind_ok, guard_ok, passed, ok_is}
use Rattle.avro_file.proofs.Heads.{refused_ok, same_bytes}
use Rattle.avro_file.proofs.Held.{same_test, blocks_again, blocks_held}
use Rattle.avro_file.proofs.Metadata.{HeaderTakes, header_takes, header_again}

-- ---- the header

begun_parts : (bytes first rest tail : List ℕ) → bytes ≡ first ++ rest → first ≡ magic → rest ≡ tail
    → bytes ≡ magic ++ tail
begun_parts bytes first rest tail e f g = e ∙ rw (f, g) refl

pub begun_takes : (bytes : List ℕ) (h : FileHeader) → begun_at bytes ≡ Ok h
    → HeaderTakes (drop 4 bytes) h × (bytes ≡ magic ++ drop 4 bytes)
unfolding begun_at
begun_takes bytes h e =
    let inner : Result FileHeader AvroFault = refused (fault_of (length bytes)) (header_at (drop 4 bytes)) in
    let a = guard_ok (ltb (length bytes) 4) NotAvro (cond (bytes_eq (take 4 bytes) magic) inner (Err NotAvro)) h e in
    let b = passed (bytes_eq (take 4 bytes) magic) NotAvro inner h a.1 in
    let taken =
    header_takes (drop 4 bytes) h (refused_ok (fault_of (length bytes)) (header_at (drop 4 bytes)) h b.1) in (
      taken,
      begun_parts bytes (take 4 bytes) (drop 4 bytes) (drop 4 bytes) (sym (take-append-drop 4 bytes))
          (same_bytes (take 4 bytes) magic b.0) refl,
    )

pub begun_again : (ps : List Property) (front sync rest bytes : List ℕ) → length bytes < 2 ^ 64 → AreProperties ps front
    → length sync ≡ 16 → bytes ≡ magic ++ (front ++ (sync ++ rest))
    → begun_at bytes ≡ Ok (record { wanted = wanted_with none_wanted ps; sync = sync; rest = rest })
unfolding begun_at
begun_again ps front sync rest bytes short is sixteen e =
    let tail = front ++ (sync ++ rest) in
    let lengths : length bytes ≡ 4 + length tail = omega (arith, ap length e) in
    let long : ltb (length bytes) 4 ≡ false = le-ltb _ _ (omega (arith, lengths)) in
    let first : bytes_eq (take 4 bytes) magic ≡ true = rw e (same_test magic) in
    let others : drop 4 bytes ≡ tail = rw e refl in
    let header = header_again ps front sync rest (omega (arith, lengths, length-append front (sync ++ rest), short)) is
    sixteen in
    rw (long, first, others, header) refl

-- ---- the schema's text and the codec

pub text_is : (found : Option (List ℕ)) (text : List ℕ) → schema_text found ≡ Ok text → found ≡ Some text
text_is (Some t) text e = ap (λ (x : List ℕ). Some x) (ok_is t text e)
text_is None text e = absurd cc

pub codec_is : (found : Option (List ℕ)) (u : Unit {0}) → uncompressed found ≡ Ok u → IsUncompressed found
codec_is None u e = tt
codec_is (Some name) u e = let p = passed (bytes_eq name null_codec) (Codec name) (Ok tt) u e in
    same_bytes name null_codec p.0

pub codec_again : (found : Option (List ℕ)) → IsUncompressed found → uncompressed found ≡ Ok tt
codec_again None is = refl
codec_again (Some name) is = let same : bytes_eq name null_codec ≡ true = rw is (same_test null_codec) in rw same refl

-- ---- whole files

pub starts : (s : Tree) (sync : List ℕ) (total : ℕ) (bytes : List ℕ)
    → run_from s sync total (record { count = 0; block = []; bytes = bytes }) ≡ blocks_run s sync total (length bytes)
    bytes
unfolding run_from objects_run
starts s sync total bytes = refl

pub file_read : (s : Tree) (vs : List Value) (bytes : List ℕ) → length bytes < 2 ^ 64 → HoldsFile s vs bytes
    → AreWithinLimits vs → opened_at bytes ≡ Ok (reader_of s vs)
unfolding opened_at
file_read s vs bytes short is few =
    let sync = is.3 in
    let rest = is.4 in
    let header = begun_again is.0 is.2 sync rest bytes short is.5 is.9 is.11 in
    let read : run_from s sync (length bytes) (record { count = 0; block = []; bytes = rest }) ≡ record {
      found = vs;
      ending = None;
    } = starts s sync (length bytes) rest ∙ blocks_again s sync (length bytes) is.9 is.10.0
    (length rest) vs rest is.10.1 few (omega arith) in
    rw (header, is.6, codec_again (last_under codec_key None is.0) is.8, is.7, read) refl

running_is : (r : Run) (vs : List Value) → ahead_of 0 None r ≡ running vs None
    → r ≡ record { found = vs; ending = None }
running_is r vs e =
    let found : r.found ≡ vs = cc in
    let ending : r.ending ≡ None = cc in
    ap (λ (ws : List Value). record { found = ws; ending = r.ending }) found ∙ ap (λ (o : Option AvroFault). record
    { found = vs; ending = o }) ending

pub file_held : (bytes : List ℕ) (o : Opened) (vs : List Value) → opened_at bytes ≡ Ok o → o.ahead ≡ running vs None
    → HoldsFile o.schema vs bytes × AreWithinLimits vs
unfolding opened_at
file_held bytes o vs e g =
    let a = bind_ok (begun_at bytes) _ o e in
    let b = bind_ok (schema_text a.0.wanted.schema) _ o a.2 in
    let d = bind_ok (uncompressed a.0.wanted.codec) _ o b.2 in
    let f = bind_ok (refused Schema (schema_of b.0)) _ o d.2 in
    let begun = begun_takes bytes a.0 a.1 in
    let t = begun.0 in
    let run = run_from f.0 a.0.sync (length bytes) (record { count = 0; block = []; bytes = a.0.rest }) in
    let made : Opened = record { schema = f.0; ahead = ahead_of (length bytes) None run } in
    let same : made ≡ o = ok_is made o f.2 in
    let read = running_is run vs (ap (λ (x : Opened). x.ahead) same ∙ g) in
    let h = blocks_held f.0 a.0.sync (length bytes) (length a.0.rest) a.0.rest vs
    (sym (starts f.0 a.0.sync (length bytes) a.0.rest) ∙ read) in
    let text : last_under schema_key None t.properties ≡ Some b.0 = ap (λ (w : Wanted). w.schema) (sym t.wanted) ∙
    text_is a.0.wanted.schema b.0 b.1 in
    let codec : IsUncompressed (last_under codec_key None t.properties) = subst (λ (w : Wanted). IsUncompressed w.codec)
    t.wanted (codec_is a.0.wanted.codec d.0 d.1) in
    let named : schema_of b.0 ≡ Ok f.0 = refused_ok Schema (schema_of b.0) f.0 f.1 in
    let held : HoldsFile f.0 vs bytes = (
      t.properties,
      b.0,
      t.front,
      a.0.sync,
      a.0.rest,
      t.spelled,
      text,
      named,
      codec,
      t.sixteen,
      h.held,
      begun.1 ∙ ap (λ (x : List ℕ). magic ++ x) t.parts,
    ) in
    (subst (λ (x : Opened). HoldsFile x.schema vs bytes) same held, h.limits)

-- ---- the clauses of opening

pub opens : (bytes : List ℕ) (r : Result Container AvroFault) → Gives Memory (λ c. opened c) r (opened_at bytes)
    → length bytes < 2 ^ 64 → (s : Tree) (vs : List Value) → HoldsFile s vs bytes → AreWithinLimits vs
    → Gives Memory (λ c. opened c) r (Ok (reader_of s vs))
opens bytes r given short s vs is few = subst (λ (o : Result Opened AvroFault). Gives Memory (λ c. opened c) r o)
    (file_read s vs bytes short is few) given

pub opens_only : (bytes : List ℕ) (r : Result Container AvroFault) → Gives Memory (λ c. opened c) r (opened_at bytes)
    → IfOk r (λ c. (vs : List Value) → at_start c ≡ running vs None → HoldsFile (tree_of c) vs bytes × AreWithinLimits
    vs)
opens_only bytes (Ok c) given = λ vs e. file_held bytes (opened c) vs given e
opens_only bytes (Err e) given = tt
