-- What is left of a file whose end was cut off.
use Rattle.std.proofs.Common.{◌≡◌, ℕ, zero, suc, ◌-◌, ◌^◌, ◌<◌, ◌≤◌, true, false, cond, ltb, List, [], ◌∷◌, ◌++◌}
use Rattle.std.proofs.Common.{length, take, drop, Option, Some, None, Result, Ok, Err, ◌⊎◌, inl, inr, refl, sym, ap}
use Rattle.std.proofs.Common.{◌∙◌, append_assoc, arith}
use Rattle.std.specs.Str.{bytes_eq}
use Rattle.std.proofs.lemmas.Bool.{ltb-true, ltb-false}
use Rattle.std.proofs.lemmas.List.{take-append-le, drop-append-le}
use Rattle.avro_schema.specs.Tree.{Tree}
use Rattle.avro_schema.specs.Texts.{schema_of}
use Rattle.avro_file_parts.specs.declared.refusal.Refusal.{Refusal}
use Rattle.avro_file.specs.declared.fault.AvroFault.{AvroFault}
use Rattle.avro_file.specs.declared.fault.AvroFault.TheVariants.{NotAvro, Truncated}
use Rattle.avro_file.specs.Value.{Value}
use Rattle.avro_file.specs.Spelling.{AreJoined, Spells}
use Rattle.avro_file_parts.specs.Heads.{BlockHead, head_at}
use Rattle.avro_file.specs.Blocks.{fault_of, refused, Run, head_then, objects_run, blocks_run}
use Rattle.avro_file.specs.Holding.{HoldsBlocks, AreWithinLimits}
use Rattle.avro_file.specs.Header.{Property, wanted_with, none_wanted, last_under, schema_key, codec_key, FileHeader}
use Rattle.avro_file.specs.Header.{header_at}
use Rattle.avro_file.specs.Ahead.{running}
use Rattle.avro_file.specs.Files.{magic, ahead_of, Opened, begun_at, opened_at, IsUncompressed, HoldsFile}
use Rattle.avro_file.specs.Fronts.{BlockEnds, IsCutFile}
use Rattle.avro_file.proofs.Steps.{guard_ok, passed}
use Rattle.avro_file.proofs.Heads.{refused_ok, head_shorter}
use Rattle.avro_file.proofs.Held.{head_again, joined_run, objects_again, limits-left}
use Rattle.avro_file.proofs.Opened.{begun_again, starts, codec_again, file_held}
use Rattle.avro_file.proofs.Cuts.{Cut, which, HeadCut, head_cut, HeaderCut, header_cut}

-- ---- blocks

abbrev gives : List Value → Option AvroFault → Run
gives vs ending = record { found = vs; ending = ending }

-- a run over what is left: a front of the data, and then the end, or a block that is cut
abbrev IsCutRun : ℕ → List Value → Run → Type 0
IsCutRun total vs r = (here : List Value) × (after : List Value) × (vs ≡ here ++ after) × ((r ≡ gives here None) ⊎
    ((n : ℕ) × (r ≡ gives here (Some (Truncated (total - n))))))

behind : (total : ℕ) (here after vs : List Value) (run all : Run) → vs ≡ here ++ after → all ≡ joined_run here run
    → IsCutRun total after run → IsCutRun total vs all
behind total here after vs run all e f more =
    let parts : vs ≡ (here ++ more.0) ++ more.1 = e ∙ ap (λ (ws : List Value). here ++ ws) more.2 ∙ sym
    (append_assoc here more.0 more.1) in (
      here ++ more.0,
      more.1,
      parts,
      elim more.3 [
        | inl h ↦ inl (f ∙ ap (joined_run here) h)
        | inr h ↦ inr (h.0, f ∙ ap (joined_run here) h.1)
      ],
    )

block_cut : (s : Tree) (total : ℕ) (others : List ℕ → Run) (here after vs : List Value) (body rest back : List ℕ)
    (r : Result BlockHead Refusal) → AreJoined (Spells s) here body → AreWithinLimits here → vs ≡ here ++ after
    → Cut (HeadCut back (record { count = length here; content = body; rest = rest })) r
    → ((k : BlockHead) → r ≡ Ok k → rest ≡ k.rest ++ back → IsCutRun total after (others k.rest))
    → IsCutRun total vs (head_then s total others r)
block_cut s total others here after vs body rest back r is few e (inl h) more =
    let run = others h.0.rest in
    let read : objects_run s total run h.0.count h.0.content ≡ joined_run here run = rw (h.2.0, h.2.1)
    (objects_again s total run here body is few) in
    rw h.1 (behind total here after vs run (objects_run s total run h.0.count h.0.content) e read (more h.0 h.1 h.2.2))
block_cut s total others here after vs body rest back r is few e (inr h) more = rw h.1 ([], vs, refl, inr (h.0, refl))

no_block : (b : ℕ) (bytes front back : List ℕ) → bytes ≡ [] → bytes ≡ (b ∷ front) ++ back → ⊥
no_block b bytes front back e f = cc

blocks_cut : (s : Tree) (sync : List ℕ) (total : ℕ) → length sync ≡ 16
    → (blocks turns : ℕ) (vs : List Value) (bytes front back : List ℕ) → HoldsBlocks s sync blocks vs bytes
    → AreWithinLimits vs → bytes ≡ front ++ back → length front ≤ turns
    → IsCutRun total vs (blocks_run s sync total turns front)
unfolding blocks_run
blocks_cut s sync total sixteen blocks turns vs bytes [] back is few e le = ([], vs, refl, inl refl)
blocks_cut s sync total sixteen zero turns vs bytes (b ∷ front) back is few e le =
    absurd (no_block b bytes front back is.1 e)
blocks_cut s sync total sixteen (suc blocks) zero vs bytes (b ∷ front) back is few e le = absurd (omega arith)
blocks_cut s sync total sixteen (suc blocks) (suc turns) vs bytes (b ∷ front) back is few e le =
    let limits = limits-left is.0 is.1 (rw is.10 at few) in
    let h : BlockHead = record { count = length is.0; content = is.4; rest = is.5 } in
    let head : head_at sync bytes ≡ Ok h = head_again sync is.2 is.3 is.4 is.5 bytes (length is.0) sixteen is.6 is.7
    is.11 in
    block_cut s total (blocks_run s sync total turns) is.0 is.1 vs is.4 is.5 back (head_at sync (b ∷ front)) is.8
    limits.0 is.10 (head_cut sync (b ∷ front) back h (ap (head_at sync) (sym e) ∙ head)) (λ k read rest.
    let less = head_shorter sync (b ∷ front) k read in
    blocks_cut s sync total sixteen blocks turns is.1 is.5 k.rest back is.9 limits.1 rest (omega (arith, less, le)))

-- ---- the header

abbrev IsCutHeader : List ℕ → FileHeader → List ℕ → Type 0
IsCutHeader back h front =
    ((length front < 4) × (begun_at front ≡ Err NotAvro)) ⊎
    (((n : ℕ) × (begun_at front ≡ Err (Truncated (length front - n)))) ⊎ ((k : FileHeader) × (begun_at front ≡ Ok k)
    × HeaderCut back h k))

begun_short : (front back : List ℕ) (h : FileHeader) → ltb (length front) 4 ≡ true → IsCutHeader back h front
unfolding begun_at
begun_short front back h short = inl (ltb-true _ _ short, rw short refl)

begun_long : (front back : List ℕ) (h : FileHeader) → ltb (length front) 4 ≡ false → begun_at (front ++ back) ≡ Ok h
    → IsCutHeader back h front
unfolding begun_at
begun_long front back h long e =
    let bytes = front ++ back in
    let le : 4 ≤ length front = ltb-false _ _ long in
    let inner : Result FileHeader AvroFault = refused (fault_of (length bytes)) (header_at (drop 4 bytes)) in
    let a = guard_ok (ltb (length bytes) 4) NotAvro (cond (bytes_eq (take 4 bytes) magic) inner (Err NotAvro)) h e in
    let b = passed (bytes_eq (take 4 bytes) magic) NotAvro inner h a.1 in
    let first : bytes_eq (take 4 front) magic ≡ true = ap (λ (t : List ℕ). bytes_eq t magic)
    (sym (take-append-le 4 front back le)) ∙ b.0 in
    let read : header_at (drop 4 front ++ back) ≡ Ok h = ap header_at (sym (drop-append-le 4 front back le)) ∙
    refused_ok (fault_of (length bytes)) (header_at (drop 4 bytes)) h b.1 in
    elim (header_cut (drop 4 front) back h read) [
      | inl k ↦ inr (inr (k.0, rw (long, first, k.1) refl, k.2))
      | inr n ↦ inr (inl (n.0, rw (long, first, n.1) refl))
    ]

begun_cut : (front back : List ℕ) (h : FileHeader) → begun_at (front ++ back) ≡ Ok h → IsCutHeader back h front
begun_cut front back h e =
    elim (which (ltb (length front) 4)) [
      | inl short ↦ begun_short front back h short
      | inr long ↦ begun_long front back h long e
    ]

-- ---- whole files

not_opened : (bytes : List ℕ) (f : AvroFault) → begun_at bytes ≡ Err f → opened_at bytes ≡ Err f
unfolding opened_at
not_opened bytes f e = rw e refl

abbrev opened_of : Tree → List ℕ → List ℕ → ℕ → Opened
opened_of s sync rest total = record {
  schema = s;
  ahead = ahead_of total None (blocks_run s sync total (length rest)
      rest);
}

is_opened : (bytes text : List ℕ) (s : Tree) (ps : List Property) (k : FileHeader) → begun_at bytes ≡ Ok k
    → k.wanted ≡ wanted_with none_wanted ps → last_under schema_key None ps ≡ Some text
    → IsUncompressed (last_under codec_key None ps) → schema_of text ≡ Ok s
    → opened_at bytes ≡ Ok (opened_of s k.sync k.rest (length bytes))
unfolding opened_at
is_opened bytes text s ps k begun wanted named codec is =
    rw (begun, wanted, named, codec_again (last_under codec_key None ps) codec, is)
    (ap (λ (r : Run). Ok (record { schema = s; ahead = ahead_of (length bytes) None r }))
    (starts s k.sync (length bytes) k.rest))

abbrev GivesFront : Tree → List Value → List ℕ → Type 0
GivesFront s vs bytes = (front : List Value) × (back : List Value) × (vs ≡ front ++ back) × (BlockEnds s front bytes ⊎
    HoldsFile s front bytes)

ends_so : (s : Tree) (vs : List Value) (bytes : List ℕ) (run : Run)
    → opened_at bytes ≡ Ok (record { schema = s; ahead = ahead_of (length bytes) None run })
    → IsCutRun (length bytes) vs run → GivesFront s vs bytes
ends_so s vs bytes run e cut =
    let seen : (r : Run) → run ≡ r → opened_at bytes ≡ Ok (record {
      schema = s;
      ahead = ahead_of (length bytes) None r;
    }) = λ r f. e ∙ ap (λ (x : Run). Ok (record { schema = s; ahead = ahead_of (length bytes) None x })) f in (
      cut.0,
      cut.1,
      cut.2,
      elim cut.3 [
        | inl h ↦ inr ((file_held bytes (record { schema = s; ahead = running cut.0 None }) cut.0
            (seen (gives cut.0 None) h) refl).0)
        | inr h ↦ inl (length bytes - h.0, omega arith, seen (gives cut.0 (Some (Truncated (length bytes - h.0)))) h.1)
      ],
    )

pub file_cut : (s : Tree) (vs : List Value) (bytes front back : List ℕ) → length bytes < 2 ^ 64 → HoldsFile s vs bytes
    → AreWithinLimits vs → bytes ≡ front ++ back → IsCutFile s vs front
file_cut s vs bytes front back short is few e =
    let ps = is.0 in
    let sync = is.3 in
    let rest = is.4 in
    let h : FileHeader = record { wanted = wanted_with none_wanted ps; sync = sync; rest = rest } in
    let begun : begun_at bytes ≡ Ok h = begun_again ps is.2 sync rest bytes short is.5 is.9 is.11 in
    elim (begun_cut front back h (ap begun_at (sym e) ∙ begun)) [
      | inl n ↦ inl (n.0, not_opened front NotAvro n.1)
      | inr (inl n) ↦ inr (inl (length front - n.0, omega arith, not_opened front (Truncated (length front - n.0)) n.1))
      | inr (inr k) ↦
          let run = blocks_run s sync (length front) (length k.0.rest) k.0.rest in
          let opened : opened_at front ≡ Ok (record { schema = s; ahead = ahead_of (length front) None run }) =
          is_opened front is.1 s ps k.0 k.1 k.2.0 is.6 is.8 is.7 ∙ ap
          (λ (t : List ℕ). Ok (opened_of s t k.0.rest (length front))) k.2.1 in
          inr (inr (ends_so s vs front run opened (blocks_cut s sync (length front) is.9 is.10.0 (length k.0.rest) vs
          rest k.0.rest back is.10.1 few k.2.2 (omega arith))))
    ]
