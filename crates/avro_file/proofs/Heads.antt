-- A block's head, and how far a run reads.
use Rattle.std.proofs.Common.{◌≡◌, ◌≢◌, ℕ, zero, suc, ◌-◌, ◌<◌, ◌≤◌, ℤ, pos, negsuc, eqb, true, false, List, [], ◌∷◌}
use Rattle.std.proofs.Common.{◌++◌, length, Result, Ok, Err, refl, sym, ap, subst, ◌∙◌, sub-one, arith}
use Rattle.std.specs.Str.{bytes_eq}
use Rattle.std.proofs.lemmas.List.{length-append}
use Rattle.std.proofs.lemmas.Bool.{eqb-true}
use Rattle.std.proofs.lemmas.Slice.Eq.{bytes_eq-Decides}
use Rattle.avro_file_parts.specs.declared.refusal.Refusal.{Refusal}
use Rattle.avro_file_parts.specs.declared.refusal.Refusal.TheVariants.{BadSync}
use Rattle.avro_file.specs.declared.fault.AvroFault.TheVariants.{BlockSize}
use Rattle.avro_file_parts.specs.Number.{IsLong, long_at}
use Rattle.avro_schema.specs.Tree.{Tree}
use Rattle.avro_file.specs.Value.{Value}
use Rattle.avro_file_parts.specs.Parts.{run_at}
use Rattle.avro_file_parts.specs.Heads.{BlockHead, natural_of, head_at}
use Rattle.avro_file.specs.Blocks.{fault_of, refused, object_at, Run, at_end, stopped}
use Rattle.avro_file.specs.Blocks.{preceded, objects_run, head_then, blocks_run, FilePosition, run_from}
use Rattle.avro_file.proofs.Steps.{bind_ok, passed, ok_is}
use Rattle.avro_file.proofs.Taken.{long_takes, run_takes}
use Rattle.avro_file.proofs.Loop.{long_len}

pub refused_ok : {A E F : Type 0} (f : E → F) (r : Result A E) (x : A) → refused f r ≡ Ok x → r ≡ Ok x
refused_ok f (Ok y) x e = cc
refused_ok f (Err g) x e = absurd cc

natural_ok : (z : ℤ) (n : ℕ) → natural_of z ≡ Ok n → z ≡ pos n
natural_ok (pos m) n e = ap pos (ok_is m n e)
natural_ok (negsuc m) n e = absurd cc

pub same_bytes : (xs ys : List ℕ) → bytes_eq xs ys ≡ true → xs ≡ ys
same_bytes xs ys e = (bytes_eq-Decides xs ys).0 e

four_parts : (all a b c d sync r1 r2 r3 rest content marker : List ℕ) → all ≡ a ++ r1 → r1 ≡ b ++ r2 → r2 ≡ c ++ r3
    → r3 ≡ d ++ rest → content ≡ c → marker ≡ d → marker ≡ sync → all ≡ a ++ (b ++ (content ++ (sync ++ rest)))
four_parts all a b c d sync r1 r2 r3 rest content marker e f g h i j k = rw (e, f, g, h, i, ← j, k) refl

-- tests for an empty list
pub nil_when_empty : (xs : List ℕ) → eqb (length xs) 0 ≡ true → xs ≡ []
nil_when_empty [] e = refl
nil_when_empty (x ∷ xs) e = absurd (omega (arith, eqb-true _ _ e))

pub not_nil : (xs : List ℕ) → eqb (length xs) 0 ≡ false → xs ≢ []
not_nil [] e = absurd cc
not_nil (x ∷ xs) e = λ h. cc

-- what stands in front of the rest
pub record HeadTakes (sync bytes : List ℕ) (h : BlockHead) : Type 0 where
  pub count : List ℕ
  pub size : List ℕ
  pub count_is : IsLong count (pos h.count)
  pub size_is : IsLong size (pos (length h.content))
  pub parts : bytes ≡ count ++ (size ++ (h.content ++ (sync ++ h.rest)))

pub head_takes : (sync bytes : List ℕ) (h : BlockHead) → head_at sync bytes ≡ Ok h → HeadTakes sync bytes h
unfolding head_at
head_takes sync bytes h e =
    let a = bind_ok (long_at bytes) _ h e in
    let b = bind_ok (natural_of a.0.0) _ h a.2 in
    let c = bind_ok (long_at a.0.1) _ h b.2 in
    let d = bind_ok (natural_of c.0.0) _ h c.2 in
    let f = bind_ok (run_at d.0 c.0.1) _ h d.2 in
    let g = bind_ok (run_at 16 f.0.1) _ h f.2 in
    let k = passed (bytes_eq g.0.0 sync) BadSync _ h g.2 in
    let count = long_takes bytes a.0 a.1 in
    let size = long_takes a.0.1 c.0 c.1 in
    let content = run_takes d.0 c.0.1 f.0 f.1 in
    let marker = run_takes 16 f.0.1 g.0 g.1 in
    let same : g.0.0 ≡ sync = same_bytes g.0.0 sync k.0 in
    let made : BlockHead = record { count = b.0; content = f.0.0; rest = g.0.1 } in
    let len : d.0 ≡ length f.0.0 = sym content.spelled.1 ∙ ap length (sym content.spelled.0) in
    subst (HeadTakes sync bytes) (ok_is made h k.1) (record {
      count = count.front;
      size = size.front;
      count_is = subst (IsLong count.front) (natural_ok a.0.0 b.0 b.1) count.spelled;
      size_is = subst (IsLong size.front) (natural_ok c.0.0 d.0 d.1 ∙ ap pos len) size.spelled;
      parts = four_parts bytes count.front size.front content.front marker.front sync a.0.1 c.0.1 f.0.1 g.0.1 f.0.0
          g.0.0 count.parts size.parts content.parts marker.parts content.spelled.0 marker.spelled.0 same;
    })

pub head_shorter : (sync bytes : List ℕ) (h : BlockHead) → head_at sync bytes ≡ Ok h → length h.rest < length bytes
head_shorter sync bytes h e =
    let t = head_takes sync bytes h e in
    omega (
      arith,
      ap length t.parts,
      long_len t.count (pos h.count) t.count_is,
      length-append t.count
          (t.size ++ (h.content ++ (sync ++ h.rest))),
      length-append t.size (h.content ++ (sync ++ h.rest)),
      length-append
          h.content (sync ++ h.rest),
      length-append sync h.rest,
    )

then_same : (s : Tree) (total : ℕ) (f g : List ℕ → Run) (r : Result BlockHead Refusal)
    → ((h : BlockHead) → r ≡ Ok h → f h.rest ≡ g h.rest) → head_then s total f r ≡ head_then s total g r
then_same s total f g (Ok h) same = ap (λ (after : Run). objects_run s total after h.count h.content) (same h refl)
then_same s total f g (Err e) same = refl

-- any bound that is enough gives the same run
pub enough : (s : Tree) (sync : List ℕ) (total t u : ℕ) (bytes : List ℕ) → length bytes ≤ t → length bytes ≤ u
    → blocks_run s sync total t bytes ≡ blocks_run s sync total u bytes
unfolding blocks_run
enough s sync total t u [] p q = refl
enough s sync total zero u (b ∷ bytes) p q = absurd (omega arith)
enough s sync total (suc t) zero (b ∷ bytes) p q = absurd (omega arith)
enough s sync total (suc t) (suc u) (b ∷ bytes) p q =
    then_same s total (blocks_run s sync total t) (blocks_run s sync total u) (head_at sync (b ∷ bytes)) (λ h e.
    let less = head_shorter sync (b ∷ bytes) h e in
    enough s sync total t u h.rest (omega arith) (omega arith))

-- ---- the steps of a run

entered : (s : Tree) (sync : List ℕ) (total : ℕ) (bytes : List ℕ) (h : BlockHead) → bytes ≢ []
    → head_at sync bytes ≡ Ok h
    → objects_run s total (blocks_run s sync total (length bytes) bytes) 0 [] ≡ objects_run s total
    (blocks_run s sync total (length h.rest) h.rest) h.count h.content
unfolding objects_run blocks_run
entered s sync total [] h some e = absurd (some refl)
entered s sync total (b ∷ bytes) h some e =
    let less = head_shorter sync (b ∷ bytes) h e in
    rw e (ap (λ (after : Run). objects_run s total after h.count h.content) (enough s sync total (length bytes)
    (length h.rest) h.rest (omega arith) (omega arith)))

pub enters : (s : Tree) (sync : List ℕ) (total : ℕ) (p : FilePosition) (h : BlockHead) → p.count ≡ 0 → p.block ≡ []
    → p.bytes ≢ [] → head_at sync p.bytes ≡ Ok h
    → run_from s sync total p ≡ run_from s sync total (record { count = h.count; block = h.content; bytes = h.rest })
unfolding run_from
enters s sync total p h none empty some e = rw (none, empty) (entered s sync total p.bytes h some e)

pub ends : (s : Tree) (sync : List ℕ) (total : ℕ) (p : FilePosition) → p.count ≡ 0 → p.block ≡ [] → p.bytes ≡ []
    → run_from s sync total p ≡ at_end
unfolding run_from objects_run blocks_run
ends s sync total p none empty over = rw (none, empty, over) refl

bytes_left : (s : Tree) (total : ℕ) (after : Run) (block : List ℕ) → block ≢ []
    → objects_run s total after 0 block ≡ stopped BlockSize
unfolding objects_run
bytes_left s total after [] some = absurd (some refl)
bytes_left s total after (b ∷ block) some = refl

pub left_over : (s : Tree) (sync : List ℕ) (total : ℕ) (p : FilePosition) → p.count ≡ 0 → p.block ≢ []
    → run_from s sync total p ≡ stopped BlockSize
unfolding run_from
left_over s sync total p none some = rw none (bytes_left s total (blocks_run s sync total (length p.bytes) p.bytes)
    p.block some)

head_refused : (s : Tree) (sync : List ℕ) (total : ℕ) (bytes : List ℕ) (e : Refusal) → bytes ≢ []
    → head_at sync bytes ≡ Err e → objects_run s total (blocks_run s sync total (length bytes) bytes) 0 [] ≡ stopped
    (fault_of total e)
unfolding objects_run blocks_run
head_refused s sync total [] e some h = absurd (some refl)
head_refused s sync total (b ∷ bytes) e some h = rw h refl

pub head_stops : (s : Tree) (sync : List ℕ) (total : ℕ) (p : FilePosition) (e : Refusal) → p.count ≡ 0 → p.block ≡ []
    → p.bytes ≢ [] → head_at sync p.bytes ≡ Err e → run_from s sync total p ≡ stopped (fault_of total e)
unfolding run_from
head_stops s sync total p e none empty some h = rw (none, empty) (head_refused s sync total p.bytes e some h)

object_refused : (s : Tree) (total : ℕ) (after : Run) (n : ℕ) (block : List ℕ) (e : Refusal) → n ≢ 0
    → object_at s block ≡ Err e → objects_run s total after n block ≡ stopped (fault_of total e)
unfolding objects_run
object_refused s total after zero block e some h = absurd (some refl)
object_refused s total after (suc n) block e some h = rw h refl

pub object_stops : (s : Tree) (sync : List ℕ) (total : ℕ) (p : FilePosition) (e : Refusal) → p.count ≢ 0
    → object_at s p.block ≡ Err e → run_from s sync total p ≡ stopped (fault_of total e)
unfolding run_from
object_stops s sync total p e some h = object_refused s total (blocks_run s sync total (length p.bytes) p.bytes) p.count
    p.block e some h

object_first : (s : Tree) (total : ℕ) (after : Run) (n : ℕ) (block : List ℕ) (v : Value) (rest : List ℕ) → n ≢ 0
    → object_at s block ≡ Ok (v, rest) → objects_run s total after n block ≡ preceded v (objects_run s total after
    (n - 1) rest)
unfolding objects_run
object_first s total after zero block v rest some e = absurd (some refl)
object_first s total after (suc n) block v rest some e = rw (e, sub-one) refl

pub object_comes : (s : Tree) (sync : List ℕ) (total : ℕ) (p : FilePosition) (v : Value) (rest : List ℕ) → p.count ≢ 0
    → object_at s p.block ≡ Ok (v, rest) → run_from s sync total p ≡ preceded v
    (run_from s sync total (record { count = p.count - 1; block = rest; bytes = p.bytes }))
unfolding run_from
object_comes s sync total p v rest some e = object_first s total (blocks_run s sync total (length p.bytes) p.bytes)
    p.count p.block v rest some e
