-- What a run gives before it ends is held by a front of the blocks.
use Rattle.std.proofs.Common.{◌≡◌, ℕ, zero, suc, ◌≤◌, pos, List, [], ◌∷◌, ◌++◌, length, drop, Option, Some, None}
use Rattle.std.proofs.Common.{Result, Ok, Err, ◌⊎◌, inl, inr, refl, sym, ap, subst, ◌∙◌, append_assoc, arith}
use Rattle.avro_schema.specs.Tree.{Tree}
use Rattle.avro_schema.specs.Texts.{schema_of}
use Rattle.avro_file_parts.specs.declared.refusal.Refusal.{Refusal}
use Rattle.avro_file.specs.declared.fault.AvroFault.{AvroFault}
use Rattle.avro_file.specs.declared.fault.AvroFault.TheVariants.{Schema}
use Rattle.avro_file_parts.specs.Number.{IsLong}
use Rattle.avro_file.specs.Value.{Value}
use Rattle.avro_file.specs.Spelling.{AreJoined, Spells}
use Rattle.avro_file_parts.specs.Heads.{BlockHead, head_at}
use Rattle.avro_file.specs.Blocks.{refused, object_at, Run, object_then, objects_run, head_then}
use Rattle.avro_file.specs.Blocks.{blocks_run, run_from}
use Rattle.avro_file.specs.Holding.{AreWithinLimits}
use Rattle.avro_file.specs.Header.{Wanted, last_under, schema_key, codec_key}
use Rattle.avro_file.specs.Ahead.{running}
use Rattle.avro_file.specs.Files.{magic, ahead_of, Opened, begun_at, schema_text, uncompressed, opened_at}
use Rattle.avro_file.specs.Files.{IsUncompressed}
use Rattle.avro_file.specs.Writers.{IsHeader}
use Rattle.avro_file.specs.Fronts.{FrontHolds, FrontHoldsFile}
use Rattle.avro_file.proofs.Steps.{bind_ok, ok_is}
use Rattle.avro_file.proofs.Heads.{refused_ok, head_takes}
use Rattle.avro_file.proofs.Held.{object_held, limits-both}
use Rattle.avro_file.proofs.Opened.{begun_takes, starts, text_is, codec_is}

-- ---- the objects of a block

-- all objects of a block, which fill it, and what comes behind it
pub record AllOf (s : Tree) (after : Run) (n : ℕ) (block : List ℕ) (vs : List Value) : Type 0 where
  pub here : List Value
  pub as_many : length here ≡ n
  pub spelled : AreJoined (Spells s) here block
  pub limits : AreWithinLimits here
  pub all : vs ≡ here ++ after.found

-- the first objects of a block
pub record FirstOf (s : Tree) (n : ℕ) (block : List ℕ) (vs : List Value) : Type 0 where
  pub no_more : length vs ≤ n
  pub body : List ℕ
  pub others : List ℕ
  pub spelled : AreJoined (Spells s) vs body
  pub limits : AreWithinLimits vs
  pub parts : block ≡ body ++ others

none_of : (s : Tree) (n : ℕ) (block : List ℕ) → FirstOf s n block []
none_of s n block = record {
  no_more = omega arith;
  body = [];
  others = block;
  spelled = refl;
  limits = tt;
  parts = refl;
}

one_more : (s : Tree) (after : Run) (n : ℕ) (block rest : List ℕ) (v : Value) (vs : List Value)
    → ((front : List ℕ) × Spells s v front × (block ≡ front ++ rest) × AreWithinLimits (v ∷ []))
    → AllOf s after n rest vs ⊎ FirstOf s n rest vs → AllOf s after (suc n) block (v ∷ vs) ⊎ FirstOf s (suc n) block
    (v ∷ vs)
one_more s after n block rest v vs o (inl all) = inl (record {
  here = v ∷ all.here;
  as_many = ap suc all.as_many;
  spelled = (o.0, rest, o.1, all.spelled, o.2);
  limits = (o.3.0, all.limits);
  all = ap (λ (ws : List Value). v ∷ ws) all.all;
})
one_more s after n block rest v vs o (inr first) = inr (record {
  no_more = omega (arith, first.no_more);
  body = o.0 ++ first.body;
  others = first.others;
  spelled = (o.0, first.body, o.1, first.spelled, refl);
  limits = (o.3.0, first.limits);
  parts = o.2 ∙ ap (λ (t : List ℕ). o.0 ++ t) first.parts ∙ sym (append_assoc o.0 first.body first.others);
})

object_front : (s : Tree) (total : ℕ) (after : Run) (n : ℕ) (block : List ℕ) (r : Result (Value × List ℕ) Refusal)
    → object_at s block ≡ r → ((rest : List ℕ) → AllOf s after n rest (objects_run s total after n rest).found ⊎ FirstOf
    s n rest (objects_run s total after n rest).found)
    → AllOf s after (suc n) block (object_then total (objects_run s total after n) r).found ⊎ FirstOf s (suc n) block
    (object_then total (objects_run s total after n) r).found
object_front s total after n block (Err f) e more = inr (none_of s (suc n) block)
object_front s total after n block (Ok x) e more =
    let o = object_held s block x e in
    one_more s after n block x.1 x.0 (objects_run s total after n x.1).found (o.0, o.1, o.2, (o.3, tt)) (more x.1)

objects_front : (s : Tree) (total : ℕ) (after : Run) (n : ℕ) (block : List ℕ)
    → AllOf s after n block (objects_run s total after n block).found ⊎ FirstOf s n block (objects_run s total after n
    block).found
unfolding objects_run
objects_front s total after zero [] = inl (record {
  here = [];
  as_many = refl;
  spelled = refl;
  limits = tt;
  all = refl;
})
objects_front s total after zero (b ∷ block) = inr (none_of s zero (b ∷ block))
objects_front s total after (suc n) block = object_front s total after n block (object_at s block) refl
    (λ rest. objects_front s total after n rest)

-- ---- blocks

abbrev Fronted : Tree → List ℕ → List Value → List ℕ → Type 0
Fronted s sync vs bytes = FrontHolds s sync vs bytes × AreWithinLimits vs

nothing_yet : (s : Tree) (sync bytes : List ℕ) → Fronted s sync [] bytes
nothing_yet s sync bytes = (([], [], [], bytes, (0, (refl, refl)), inl refl, refl, refl), tt)

six_parts : (bytes count size content sync front rest behind : List ℕ)
    → bytes ≡ count ++ (size ++ (content ++ (sync ++ behind))) → behind ≡ front ++ rest
    → bytes ≡ (count ++ (size ++ (content ++ (sync ++ front)))) ++ rest
six_parts bytes count size content sync front rest behind e f = rw (e, f) (simp append_assoc)

block_front : (s : Tree) (sync : List ℕ) (bytes : List ℕ) (h : BlockHead) (after : Run) (vs : List Value)
    → head_at sync bytes ≡ Ok h → AllOf s after h.count h.content vs ⊎ FirstOf s h.count h.content vs
    → Fronted s sync after.found h.rest → Fronted s sync vs bytes
block_front s sync bytes h after vs e (inl all) more =
    let t = head_takes sync bytes h e in
    let m = more.0 in
    let count : IsLong t.count (pos (length all.here)) = subst (λ (k : ℕ). IsLong t.count (pos k)) (sym all.as_many)
    t.count_is in
    let front = t.count ++ (t.size ++ (h.content ++ (sync ++ m.2))) in
    let joined : vs ≡ (all.here ++ m.0) ++ m.1 = all.all ∙ ap (λ (ws : List Value). all.here ++ ws) m.6 ∙ sym
    (append_assoc all.here m.0 m.1) in (
      (
        all.here ++ m.0,
        m.1,
        front,
        m.3,
        (
          suc m.4.0,
          (
            all.here,
            m.0,
            t.count,
            t.size,
            h.content,
            m.2,
            count,
            t.size_is,
            all.spelled,
            m.4.1,
            refl,
            refl,
          ),
        ),
        m.5,
        joined,
        six_parts bytes t.count t.size h.content sync m.2 m.3 h.rest
            t.parts m.7,
      ),
      subst AreWithinLimits (sym all.all) (limits-both all.here after.found all.limits more.1),
    )
block_front s sync bytes h after vs e (inr first) more =
    let t = head_takes sync bytes h e in
    let size : IsLong t.size (pos (length (first.body ++ first.others))) = subst (λ (c : List ℕ). IsLong t.size
    (pos (length c))) first.parts t.size_is in
    let parts : bytes ≡ t.count ++ (t.size ++ ((first.body ++ first.others) ++ (sync ++ h.rest))) = t.parts ∙ ap
    (λ (c : List ℕ). t.count ++ (t.size ++ (c ++ (sync ++ h.rest)))) first.parts in (
      (
        [],
        vs,
        [],
        bytes,
        (0, (refl, refl)),
        inr (
          h.count,
          t.count,
          t.size,
          first.body,
          first.others,
          h.rest,
          t.count_is,
          first.no_more,
          size,
          first.spelled,
          parts,
        ),
        refl,
        refl,
      ),
      first.limits,
    )

head_front : (s : Tree) (sync : List ℕ) (total : ℕ) (bytes : List ℕ) (others : List ℕ
    → Run) (r : Result BlockHead Refusal) → head_at sync bytes ≡ r → ((rest : List ℕ)
    → Fronted s sync (others rest).found rest) → Fronted s sync (head_then s total others r).found bytes
head_front s sync total bytes others (Err f) e more = nothing_yet s sync bytes
head_front s sync total bytes others (Ok h) e more =
    let after = others h.rest in
    block_front s sync bytes h after (objects_run s total after h.count h.content).found e (objects_front s total after
    h.count h.content) (more h.rest)

blocks_front : (s : Tree) (sync : List ℕ) (total turns : ℕ) (bytes : List ℕ)
    → Fronted s sync (blocks_run s sync total turns bytes).found bytes
unfolding blocks_run
blocks_front s sync total turns [] = nothing_yet s sync []
blocks_front s sync total zero (b ∷ bytes) = nothing_yet s sync (b ∷ bytes)
blocks_front s sync total (suc turns) (b ∷ bytes) = head_front s sync total (b ∷ bytes) (blocks_run s sync total turns)
    (head_at sync (b ∷ bytes)) refl (λ rest. blocks_front s sync total turns rest)

-- ---- whole files

found_is : (r : Run) (vs : List Value) (ending : Option AvroFault) → ahead_of 0 None r ≡ running vs ending
    → r.found ≡ vs
found_is r vs ending e = cc

header_parts : (bytes tail front sync rest : List ℕ) → bytes ≡ magic ++ tail → tail ≡ front ++ (sync ++ rest)
    → bytes ≡ (magic ++ (front ++ sync)) ++ rest
header_parts bytes tail front sync rest e f = rw (e, f) (simp append_assoc)

pub file_front : (bytes : List ℕ) (o : Opened) (vs : List Value) (ending : Option AvroFault) → opened_at bytes ≡ Ok o
    → o.ahead ≡ running vs ending → FrontHoldsFile o.schema vs bytes × AreWithinLimits vs
unfolding opened_at
file_front bytes o vs ending e g =
    let a = bind_ok (begun_at bytes) _ o e in
    let b = bind_ok (schema_text a.0.wanted.schema) _ o a.2 in
    let d = bind_ok (uncompressed a.0.wanted.codec) _ o b.2 in
    let f = bind_ok (refused Schema (schema_of b.0)) _ o d.2 in
    let begun = begun_takes bytes a.0 a.1 in
    let t = begun.0 in
    let run = run_from f.0 a.0.sync (length bytes) (record { count = 0; block = []; bytes = a.0.rest }) in
    let made : Opened = record { schema = f.0; ahead = ahead_of (length bytes) None run } in
    let same : made ≡ o = ok_is made o f.2 in
    let found : run.found ≡ vs = found_is run vs ending (ap (λ (x : Opened). x.ahead) same ∙ g) in
    let read = ap (λ (r : Run). r.found) (sym (starts f.0 a.0.sync (length bytes) a.0.rest)) ∙ found in
    let held : Fronted f.0 a.0.sync vs a.0.rest = subst (λ (ws : List Value). Fronted f.0 a.0.sync ws a.0.rest) read
    (blocks_front f.0 a.0.sync (length bytes) (length a.0.rest) a.0.rest) in
    let text : last_under schema_key None t.properties ≡ Some b.0 = ap (λ (w : Wanted). w.schema) (sym t.wanted) ∙
    text_is a.0.wanted.schema b.0 b.1 in
    let codec : IsUncompressed (last_under codec_key None t.properties) = subst (λ (w : Wanted). IsUncompressed w.codec)
    t.wanted (codec_is a.0.wanted.codec d.0 d.1) in
    let named : schema_of b.0 ≡ Ok f.0 = refused_ok Schema (schema_of b.0) f.0 f.1 in
    let header : List ℕ = magic ++ (t.front ++ a.0.sync) in
    let is_header : IsHeader t.properties f.0 a.0.sync header = (
      b.0,
      t.front,
      t.spelled,
      text,
      named,
      codec,
      t.sixteen,
      refl,
    ) in
    let all : FrontHoldsFile f.0 vs bytes = (
      t.properties,
      a.0.sync,
      header,
      a.0.rest,
      is_header,
      held.0,
      header_parts
          bytes (drop 4 bytes) t.front a.0.sync a.0.rest begun.1 t.parts,
    ) in
    (subst (λ (x : Opened). FrontHoldsFile x.schema vs bytes) same all, held.1)
