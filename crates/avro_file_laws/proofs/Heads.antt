-- Where a block's head is at fault.
use Rattle.std.proofs.Common.{◌≡◌, ◌≢◌, ℕ, ◌+◌, ◌-◌, ◌^◌, ℤ, pos, negsuc, false, cond, List, [], ◌++◌, length, Result}
use Rattle.std.proofs.Common.{Ok, Err, ◌⊎◌, inl, inr, refl, sym, ap, subst, ◌∙◌, append_assoc, length-append, arith}
use Rattle.std.specs.Str.{bytes_eq}
use Rattle.std.proofs.lemmas.Slice.Eq.{bytes_eq-Decides}
use Rattle.contract_words.specs.Outcome.{◌>>=◌}
use Rattle.avro_file_parts.specs.declared.refusal.Refusal.{Refusal}
use Rattle.avro_file_parts.specs.declared.refusal.Refusal.TheVariants as refusal
use Rattle.avro_file_parts.specs.Number.{IsLong, long_at}
use Rattle.avro_file_parts.specs.Parts.{run_at}
use Rattle.avro_file_parts.specs.Heads.{BlockHead, natural_of, head_at}
use Rattle.avro_file.specs.declared.fault.AvroFault.{AvroFault}
use Rattle.avro_file.specs.declared.fault.AvroFault.TheVariants as fault
use Rattle.avro_file.specs.Blocks.{fault_of}
use Rattle.avro_file.proofs.Steps.{either}
use Rattle.avro_file.proofs.Taken.{long_takes, run_takes}
use Rattle.avro_file.proofs.Again.{long_again, run_again}
use Rattle.avro_file_laws.specs.Parts.{Part, a_block_number, some_bytes, the_marker, EndsIn, IsWrong, StandsWrong}
use Rattle.avro_file_laws.specs.Parts.{IsNatural}
use Rattle.avro_file_laws.specs.Coming.{Coming}
use Rattle.avro_file_laws.specs.Faults.{IsAtFault, ComesInHead}
use Rattle.avro_file_laws.proofs.Numbers.{err_is, bind_err, which_way, NumberErr, long_err, long_fails}
use Rattle.avro_file_laws.proofs.Bad.{Bad, refusal_of, refusal_is, wrong_named, run_err, run_short}

-- ---- a place in the file, whatever the items

-- behind some bytes comes a part that the others do not hold
pub record Place (Comes : Coming) (bytes : List ℕ) (e : Refusal) : Type 0 where
  pub items : ℕ
  pub part : Part
  pub front : List ℕ
  pub rest : List ℕ
  pub comes : Comes items front part
  pub bad : Bad items part rest e
  pub parts : bytes ≡ front ++ rest

abbrev How : ℕ → ℕ → Part → List ℕ → AvroFault → Type 0
How offset items part rest f = (EndsIn part rest × (f ≡ fault.Truncated offset)) ⊎ IsWrong items part rest f

told : (total offset items : ℕ) (part : Part) (rest : List ℕ) (e : Refusal) → total ≡ offset + length rest
    → Bad items part rest e → How offset items part rest (fault_of total e)
told total offset items part rest e size (inl h) =
    let there : total - length rest ≡ offset = omega (arith, size) in
    inl (h.0, ap (fault_of total) h.1 ∙ ap (λ (n : ℕ). fault.Truncated n) there)
told total offset items part rest e size (inr h) =
    let same : h.0 ≡ fault_of total e = sym (ap (fault_of total) h.1 ∙ (wrong_named items part rest h.0 h.2 total).0) in
    inr (subst (IsWrong items part rest) same h.2)

how_told : (total offset items : ℕ) (part : Part) (rest : List ℕ) (f : AvroFault) → total ≡ offset + length rest
    → How offset items part rest f → (e : Refusal) × Bad items part rest e × (fault_of total e ≡ f)
how_told total offset items part rest f size (inl h) =
    let there : total - length rest ≡ offset = omega (arith, size) in
    (refusal.Short (length rest), inl (h.0, refl), ap (λ (n : ℕ). fault.Truncated n) there ∙ sym h.1)
how_told total offset items part rest f size (inr h) =
    (refusal_of f, inr (f, refl, h), (wrong_named items part rest f h total).0)

-- with its offset in the file
pub place_told : (Comes : Coming) (total offset : ℕ) (bytes : List ℕ) (e : Refusal) → total ≡ offset + length bytes
    → Place Comes bytes e → IsAtFault Comes offset bytes (fault_of total e)
place_told Comes total offset bytes e size p = (
  p.items,
  p.part,
  p.front,
  p.rest,
  p.comes,
  told total (offset + length p.front) p.items p.part p.rest e
      (omega (arith, size, ap length p.parts, length-append p.front p.rest)) p.bad,
  p.parts,
)

pub place_of : (Comes : Coming) (total offset : ℕ) (bytes : List ℕ) (f : AvroFault) → total ≡ offset + length bytes
    → IsAtFault Comes offset bytes f → (e : Refusal) × Place Comes bytes e × (fault_of total e ≡ f)
place_of Comes total offset bytes f size is =
    let t = how_told total (offset + length is.2) is.0 is.1 is.3 f
    (omega (arith, size, ap length is.6, length-append is.2 is.3)) is.5 in
    let place : Place Comes bytes t.0 = record {
      items = is.0;
      part = is.1;
      front = is.2;
      rest = is.3;
      comes = is.4;
      bad = t.1;
      parts = is.6;
    } in
    (t.0, place, t.2)

-- ---- a head that is refused

natural_err : (z : ℤ) (e : Refusal) → natural_of z ≡ Err e → (e ≡ refusal.BlockSize) × (IsNatural z → ⊥)
natural_err (pos n) e h = absurd (let m = h in cc)
natural_err (negsuc n) e h = (sym (err_is {A = ℕ} refusal.BlockSize e h), λ g. let m = g.1 in cc)

natural_is : (z : ℤ) (n : ℕ) → natural_of z ≡ Ok n → z ≡ pos n
natural_is (pos m) n e = let same : m ≡ n = cc in ap pos same
natural_is (negsuc m) n e = absurd (let m = e in cc)

no_number : (bytes : List ℕ) (e : Refusal) → NumberErr (2 ^ 64) bytes e → Bad 0 a_block_number bytes e
no_number bytes e (inl h) = inl h
no_number bytes e (inr h) = inr (fault.BadNumber, h.0, inl (refl, h.1))

negative : (bytes front rest : List ℕ) (z : ℤ) (e : Refusal) → IsLong front z → bytes ≡ front ++ rest
    → natural_of z ≡ Err e → Bad 0 a_block_number bytes e
negative bytes front rest z e is parts h =
    let n = natural_err z e h in
    inr (fault.BlockSize, n.0, inr (refl, (z, front, rest, is, n.1, parts)))

three_parts : (bytes a b r1 r2 : List ℕ) → bytes ≡ a ++ r1 → r1 ≡ b ++ r2 → bytes ≡ (a ++ b) ++ r2
three_parts bytes a b r1 r2 e f = e ∙ ap (λ (t : List ℕ). a ++ t) f ∙ sym (append_assoc a b r2)

four_parts : (bytes a b c r1 r2 r3 : List ℕ) → bytes ≡ a ++ r1 → r1 ≡ b ++ r2 → r2 ≡ c ++ r3
    → bytes ≡ (a ++ (b ++ c)) ++ r3
four_parts bytes a b c r1 r2 r3 e f g = rw (e, f, g) (simp append_assoc)

not_marker : (marker sync : List ℕ) → bytes_eq marker sync ≡ false → marker ≢ sync
not_marker marker sync e = λ h. let t = (bytes_eq-Decides marker sync).1 h in cc

abbrev whole_head : ℕ → List ℕ → List ℕ → Result BlockHead Refusal
whole_head n content rest = Ok (record { count = n; content = content; rest = rest })

pub head_err : (sync bytes : List ℕ) (e : Refusal) → head_at sync bytes ≡ Err e → Place (ComesInHead sync) bytes e
unfolding head_at
head_err sync bytes e h =
    elim (bind_err (long_at bytes) _ e h) [
      | inl g ↦ record {
        items = 0;
        part = a_block_number;
        front = [];
        rest = bytes;
        comes = inl (refl, refl);
        bad = no_number bytes e (long_err bytes e g);
        parts = refl;
      }
      | inr g ↦
          let a = long_takes bytes g.0 g.1 in
          elim (bind_err (natural_of g.0.0) _ e g.2) [
            | inl k ↦ record {
              items = 0;
              part = a_block_number;
              front = [];
              rest = bytes;
              comes = inl (refl, refl);
              bad = negative bytes a.front g.0.1 g.0.0 e a.spelled a.parts k;
              parts = refl;
            }
            | inr k ↦ size_err sync bytes a.front g.0.1 k.0 e (subst (IsLong a.front) (natural_is g.0.0 k.0 k.1)
                a.spelled) a.parts k.2
          ]
    ]
  where
    marker_err : (sync bytes count size content r1 r2 r3 : List ℕ) (n len : ℕ) (e : Refusal) → IsLong count (pos n)
        → IsLong size (pos len) → length content ≡ len → bytes ≡ count ++ r1 → r1 ≡ size ++ r2 → r2 ≡ content ++ r3
        → (front rest : List ℕ) → length front ≡ 16 → front ≢ sync → r3 ≡ front ++ rest → e ≡ refusal.BadSync
        → Place (ComesInHead sync) bytes e
    marker_err sync bytes count size content r1 r2 r3 n len e c s l p1 p2 p3 front rest sixteen not p4 same = record {
      items = 0;
      part = the_marker sync;
      front = count ++ (size ++ content);
      rest = r3;
      comes = inr (inr (n, len, count, size, c, s, inr (content, l, refl, refl)));
      bad = inr (fault.BadSync, same, (refl, front, rest, sixteen, not, p4));
      parts = four_parts bytes count size content r1 r2 r3 p1 p2 p3;
    }

    size_err : (sync bytes count r1 : List ℕ) (n : ℕ) (e : Refusal) → IsLong count (pos n) → bytes ≡ count ++ r1
        → (long_at r1 >>= λ size. natural_of size.0 >>= λ len. run_at len size.1 >>= λ content. run_at 16 content.1 >>=
        λ marker. cond (bytes_eq marker.0 sync) (whole_head n content.0 marker.1) (Err refusal.BadSync)) ≡ Err e
        → Place (ComesInHead sync) bytes e
    size_err sync bytes count r1 n e c p1 h =
        elim (bind_err (long_at r1) _ e h) [
          | inl g ↦ record {
            items = 0;
            part = a_block_number;
            front = count;
            rest = r1;
            comes = inr (inl (n, c, refl));
            bad = no_number r1 e (long_err r1 e g);
            parts = p1;
          }
          | inr g ↦
              let b = long_takes r1 g.0 g.1 in
              elim (bind_err (natural_of g.0.0) _ e g.2) [
                | inl k ↦ record {
                  items = 0;
                  part = a_block_number;
                  front = count;
                  rest = r1;
                  comes = inr (inl (n, c, refl));
                  bad = negative r1 b.front g.0.1 g.0.0 e b.spelled b.parts k;
                  parts = p1;
                }
                | inr k ↦
                    let s : IsLong b.front (pos k.0) = subst (IsLong b.front) (natural_is g.0.0 k.0 k.1) b.spelled in
                    elim (bind_err (run_at k.0 g.0.1) _ e k.2) [
                      | inl m ↦
                          let r = run_err 0 k.0 g.0.1 e m in
                          record {
                            items = 0;
                            part = some_bytes k.0;
                            front = count ++ b.front;
                            rest = g.0.1;
                            comes = inr (inr (n, k.0, count, b.front, c, s, inl (refl, refl)));
                            bad = inl (r.0, r.1);
                            parts = three_parts bytes count b.front r1 g.0.1 p1 b.parts;
                          }
                      | inr m ↦
                          let t = run_takes k.0 g.0.1 m.0 m.1 in
                          let l : length t.front ≡ k.0 = t.spelled.1 in
                          elim (bind_err (run_at 16 m.0.1) _ e m.2) [
                            | inl o ↦
                                let r = run_err 0 16 m.0.1 e o in
                                record {
                                  items = 0;
                                  part = the_marker sync;
                                  front = count ++ (b.front ++ t.front);
                                  rest = m.0.1;
                                  comes = inr (inr (n, k.0, count, b.front, c, s, inr (t.front, l, refl, refl)));
                                  bad = inl (r.0, r.1);
                                  parts = four_parts bytes count b.front t.front r1 g.0.1 m.0.1 p1 b.parts t.parts;
                                }
                            | inr o ↦
                                let u = run_takes 16 m.0.1 o.0 o.1 in
                                elim (either (bytes_eq o.0.0 sync) _ (Err refusal.BadSync) (Err e) o.2) [
                                  | inl q ↦ absurd (let w = q.1 in cc)
                                  | inr q ↦ marker_err sync bytes count b.front t.front r1 g.0.1 m.0.1 n k.0 e c s l p1
                                      b.parts t.parts u.front o.0.1 u.spelled.1
                                      (subst (λ (x : List ℕ). x ≢ sync) u.spelled.0 (not_marker o.0.0 sync q.0)) u.parts
                                      (sym (err_is {A = BlockHead} refusal.BadSync e q.1))
                                ]
                          ]
                    ]
              ]
        ]

-- ---- and so it is refused

count_stops : (sync bytes : List ℕ) (e : Refusal) → long_at bytes ≡ Err e → head_at sync bytes ≡ Err e
unfolding head_at
count_stops sync bytes e h = rw h refl

count_negative : (sync bytes : List ℕ) → StandsWrong IsLong IsNatural bytes
    → head_at sync bytes ≡ Err refusal.BlockSize
unfolding head_at
count_negative sync bytes h =
    let none : natural_of h.0 ≡ Err refusal.BlockSize = not_natural h.0 h.4 in
    rw (h.5, long_again h.1 h.0 h.2 h.3, none) refl
  where
    not_natural : (z : ℤ) → (IsNatural z → ⊥) → natural_of z ≡ Err refusal.BlockSize
    not_natural (pos n) not = absurd (not (n, refl))
    not_natural (negsuc n) not = refl

count_fails : (items : ℕ) (sync bytes : List ℕ) (e : Refusal) → Bad items a_block_number bytes e
    → head_at sync bytes ≡ Err e
count_fails items sync bytes e (inl h) = count_stops sync bytes e (long_fails bytes e (inl h))
count_fails items sync bytes e (inr h) =
    elim h.2 [
      | inl k ↦ count_stops sync bytes e (long_fails bytes e (inr (
        refusal_is e refusal.BadNumber h.0 fault.BadNumber h.1 k.0 refl,
        k.1,
      )))
      | inr k ↦ count_negative sync bytes k.1 ∙ ap (λ (y : Refusal). Err y)
          (sym (refusal_is e refusal.BlockSize h.0 fault.BlockSize h.1 k.0 refl))
    ]

size_stops : (sync count rest : List ℕ) (n : ℕ) (e : Refusal) → IsLong count (pos n) → long_at rest ≡ Err e
    → head_at sync (count ++ rest) ≡ Err e
unfolding head_at
size_stops sync count rest n e is h = rw (long_again count (pos n) rest is, h) refl

size_negative : (sync count rest : List ℕ) (n : ℕ) → IsLong count (pos n) → StandsWrong IsLong IsNatural rest
    → head_at sync (count ++ rest) ≡ Err refusal.BlockSize
unfolding head_at
size_negative sync count rest n is h =
    let none : natural_of h.0 ≡ Err refusal.BlockSize = not_natural h.0 h.4 in
    rw (long_again count (pos n) rest is, h.5, long_again h.1 h.0 h.2 h.3, none) refl
  where
    not_natural : (z : ℤ) → (IsNatural z → ⊥) → natural_of z ≡ Err refusal.BlockSize
    not_natural (pos n) not = absurd (not (n, refl))
    not_natural (negsuc n) not = refl

size_fails : (items : ℕ) (sync count rest : List ℕ) (n : ℕ) (e : Refusal) → IsLong count (pos n)
    → Bad items a_block_number rest e → head_at sync (count ++ rest) ≡ Err e
size_fails items sync count rest n e is (inl h) = size_stops sync count rest n e is (long_fails rest e (inl h))
size_fails items sync count rest n e is (inr h) =
    elim h.2 [
      | inl k ↦ size_stops sync count rest n e is (long_fails rest e (inr (
        refusal_is e refusal.BadNumber h.0 fault.BadNumber h.1 k.0 refl,
        k.1,
      )))
      | inr k ↦ size_negative sync count rest n is k.1 ∙ ap (λ (y : Refusal). Err y)
          (sym (refusal_is e refusal.BlockSize h.0 fault.BlockSize h.1 k.0 refl))
    ]

content_stops : (sync count size rest : List ℕ) (n len : ℕ) (e : Refusal) → IsLong count (pos n)
    → IsLong size (pos len) → run_at len rest ≡ Err e → head_at sync (count ++ (size ++ rest)) ≡ Err e
unfolding head_at
content_stops sync count size rest n len e c s h =
    rw (long_again count (pos n) (size ++ rest) c, long_again size (pos len) rest s, h) refl

content_fails : (items : ℕ) (sync count size rest : List ℕ) (n len : ℕ) (e : Refusal) → IsLong count (pos n)
    → IsLong size (pos len) → Bad items (some_bytes len) rest e → head_at sync (count ++ (size ++ rest)) ≡ Err e
content_fails items sync count size rest n len e c s (inl h) = content_stops sync count size rest n len e c s
    (run_short len rest h.0 ∙ ap (λ (y : Refusal). Err y) (sym h.1))
content_fails items sync count size rest n len e c s (inr h) = absurd h.2

marker_stops : (sync count size content rest : List ℕ) (n : ℕ) (e : Refusal) → IsLong count (pos n)
    → IsLong size (pos (length content)) → run_at 16 rest ≡ Err e
    → head_at sync (count ++ (size ++ (content ++ rest))) ≡ Err e
unfolding head_at
marker_stops sync count size content rest n e c s h = rw (
  long_again count (pos n) (size ++ (content ++ rest)) c,
  long_again size (pos (length content)) (content ++ rest) s,
  run_again content rest,
  h,
) refl

marker_wrong : (sync count size content marker rest : List ℕ) (n : ℕ) → IsLong count (pos n)
    → IsLong size (pos (length content)) → length marker ≡ 16 → marker ≢ sync
    → head_at sync (count ++ (size ++ (content ++ (marker ++ rest)))) ≡ Err refusal.BadSync
unfolding head_at
marker_wrong sync count size content marker rest n c s sixteen not =
    let read : run_at 16 (marker ++ rest) ≡ Ok (marker, rest) = ap (λ (k : ℕ). run_at k (marker ++ rest)) (sym sixteen)
    ∙ run_again marker rest in
    elim (which_way (bytes_eq marker sync)) [
      | inl g ↦ absurd (not ((bytes_eq-Decides marker sync).0 g))
      | inr g ↦ rw (
        long_again count (pos n) (size ++ (content ++ (marker ++ rest))) c,
        long_again size (pos (length content)) (content ++ (marker ++ rest)) s,
        run_again content (marker ++ rest),
        read,
        g,
      ) refl
    ]

marker_fails : (items : ℕ) (sync count size content rest : List ℕ) (n : ℕ) (e : Refusal) → IsLong count (pos n)
    → IsLong size (pos (length content)) → Bad items (the_marker sync) rest e
    → head_at sync (count ++ (size ++ (content ++ rest))) ≡ Err e
marker_fails items sync count size content rest n e c s (inl h) = marker_stops sync count size content rest n e c s
    (run_short 16 rest h.0 ∙ ap (λ (y : Refusal). Err y) (sym h.1))
marker_fails items sync count size content rest n e c s (inr h) =
    let w = h.2 in
    rw w.5 (marker_wrong sync count size content w.1 w.2 n c s w.3 w.4 ∙ ap (λ (y : Refusal). Err y)
    (sym (refusal_is e refusal.BadSync h.0 fault.BadSync h.1 w.0 refl)))

in_head_fails : (items : ℕ) (sync front rest bytes : List ℕ) (part : Part) (e : Refusal)
    → ComesInHead sync items front part → Bad items part rest e → bytes ≡ front ++ rest → head_at sync bytes ≡ Err e
in_head_fails items sync front rest bytes part e (inl is) bad parts =
    let same : bytes ≡ rest = parts ∙ ap (λ (t : List ℕ). t ++ rest) is.0 in
    rw same (count_fails items sync rest e (subst (λ (p : Part). Bad items p rest e) is.1 bad))
in_head_fails items sync front rest bytes part e (inr (inl is)) bad parts =
    rw parts (size_fails items sync front rest is.0 e is.1 (subst (λ (p : Part). Bad items p rest e) is.2 bad))
in_head_fails items sync front rest bytes part e (inr (inr is)) bad parts =
    elim is.6 [
      | inl k ↦
          let all : bytes ≡ is.2 ++ (is.3 ++ rest) = parts ∙ ap (λ (t : List ℕ). t ++ rest) k.0 ∙ append_assoc is.2 is.3
          rest in
          rw all (content_fails items sync is.2 is.3 rest is.0 is.1 e is.4 is.5
          (subst (λ (p : Part). Bad items p rest e) k.1 bad))
      | inr k ↦
          let all : bytes ≡ is.2 ++ (is.3 ++ (k.0 ++ rest)) = parts ∙ ap (λ (t : List ℕ). t ++ rest) k.2 ∙ append_assoc
          is.2 (is.3 ++ k.0) rest ∙ ap (λ (t : List ℕ). is.2 ++ t) (append_assoc is.3 k.0 rest) in
          rw all (marker_fails items sync is.2 is.3 k.0 rest is.0 e is.4 (subst (λ (m : ℕ). IsLong is.3 (pos m))
          (sym k.1) is.5) (subst (λ (p : Part). Bad items p rest e) k.3 bad))
    ]

pub head_fails : (sync bytes : List ℕ) (e : Refusal) → Place (ComesInHead sync) bytes e → head_at sync bytes ≡ Err e
head_fails sync bytes e p = in_head_fails p.items sync p.front p.rest bytes p.part e p.comes p.bad p.parts
