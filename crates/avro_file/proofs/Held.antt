-- A run gives the data that are held, and no others are.
use Rattle.std.proofs.Common.{◌≡◌, ◌≢◌, ℕ, zero, suc, ◌-◌, ◌<◌, ◌≤◌, pos, true, List, [], ◌∷◌, ◌++◌, length, Option}
use Rattle.std.proofs.Common.{Some, None, Result, Ok, Err, refl, sym, ap, subst, ◌∙◌, arith}
use Rattle.std.specs.Str.{bytes_eq}
use Rattle.std.proofs.lemmas.Slice.Eq.{bytes_eq-Decides}
use Rattle.avro_file_parts.specs.declared.refusal.Refusal.{Refusal}
use Rattle.avro_file.specs.declared.fault.AvroFault.{AvroFault}
use Rattle.avro_file.specs.declared.fault.AvroFault.TheVariants.{BlockSize}
use Rattle.avro_file_parts.specs.Number.{IsLong}
use Rattle.avro_schema.specs.Tree.{Tree}
use Rattle.avro_file.specs.Value.{Value}
use Rattle.avro_file_parts.specs.Parts.{Position, run_at}
use Rattle.avro_file.specs.Reading.{datum_at}
use Rattle.avro_file.specs.Spelling.{AreJoined, Spells, item_count}
use Rattle.avro_file_parts.specs.Heads.{BlockHead, head_at}
use Rattle.avro_file.specs.Blocks.{fault_of, inside, refused, max_items, object_at, Run, at_end}
use Rattle.avro_file.specs.Blocks.{stopped, preceded, object_then, objects_run, head_then, blocks_run}
use Rattle.avro_file.specs.Holding.{HoldsBlocks, Holds, AreWithinLimits}
use Rattle.avro_file.proofs.Steps.{bind_ok, ok_is}
use Rattle.avro_file.proofs.Taken.{datum_takes}
use Rattle.avro_file.proofs.Again.{long_again, run_again, datum_again}
use Rattle.avro_file.proofs.Loop.{long_len}
use Rattle.avro_file.proofs.Heads.{refused_ok, head_takes, head_shorter}

-- ---- what is held is read

pub same_test : (xs : List ℕ) → bytes_eq xs xs ≡ true
same_test xs = (bytes_eq-Decides xs xs).1 refl

pub head_again : (sync count size body rest bytes : List ℕ) (n : ℕ) → length sync ≡ 16 → IsLong count (pos n)
    → IsLong size (pos (length body)) → bytes ≡ count ++ (size ++ (body ++ (sync ++ rest)))
    → head_at sync bytes ≡ Ok (record { count = n; content = body; rest = rest })
unfolding head_at
head_again sync count size body rest bytes n sixteen c s e =
    let marker : run_at 16 (sync ++ rest) ≡ Ok (sync, rest) = ap (λ (k : ℕ). run_at k (sync ++ rest)) (sym sixteen) ∙
    run_again sync rest in
    rw (
      e,
      long_again count (pos n) (size ++ (body ++ (sync ++ rest))) c,
      long_again size (pos (length body))
          (body ++ (sync ++ rest)) s,
      run_again body (sync ++ rest),
      marker,
      same_test sync,
    ) refl

object_again : (s : Tree) (v : Value) (front rest : List ℕ) → Spells s v front → item_count v ≤ max_items
    → object_at s (front ++ rest) ≡ Ok (v, rest)
unfolding object_at
object_again s v front rest is few =
    let q : Position = record { bytes = rest; left = max_items - item_count v } in
    let p : Position = record { bytes = front ++ rest; left = max_items } in
    let found : datum_at s p ≡ Ok (v, q) = datum_again s v front p q is refl (omega arith) in
    rw found refl

abbrev pub joined_run : List Value → Run → Run
joined_run vs r = record { found = vs ++ r.found; ending = r.ending }

pub objects_again : (s : Tree) (total : ℕ) (after : Run) (here : List Value) (body : List ℕ)
    → AreJoined (Spells s) here body → AreWithinLimits here
    → objects_run s total after (length here) body ≡ joined_run here after
unfolding objects_run
objects_again s total after [] body is few = rw is refl
objects_again s total after (v ∷ here) body is few =
    rw (is.4, object_again s v is.0 is.1 is.2 few.0) (ap (preceded v) (objects_again s total after here is.1 is.3
    few.1))

pub limits-left : (vs ws : List Value) → AreWithinLimits (vs ++ ws) → AreWithinLimits vs × AreWithinLimits ws
limits-left [] ws h = (tt, h)
limits-left (v ∷ vs) ws h = let more = limits-left vs ws h.1 in ((h.0, more.0), more.1)

pub limits-both : (vs ws : List Value) → AreWithinLimits vs → AreWithinLimits ws → AreWithinLimits (vs ++ ws)
limits-both [] ws h k = k
limits-both (v ∷ vs) ws h k = (h.0, limits-both vs ws h.1 k)

abbrev whole : List Value → Run
whole vs = record { found = vs; ending = None }

pub some_bytes : (count more : List ℕ) → 0 < length count → count ++ more ≢ []
some_bytes [] more lt = absurd (omega arith)
some_bytes (b ∷ count) more lt = λ h. cc

one_block : (s : Tree) (sync : List ℕ) (total turns : ℕ) (bytes : List ℕ) (h : BlockHead) → bytes ≢ []
    → length bytes ≤ suc turns → head_at sync bytes ≡ Ok h
    → blocks_run s sync total (suc turns) bytes ≡ objects_run s total (blocks_run s sync total turns h.rest) h.count
    h.content
unfolding blocks_run
one_block s sync total turns [] h some le e = absurd (some refl)
one_block s sync total turns (b ∷ bytes) h some le e = rw e refl

block_again : (s : Tree) (sync : List ℕ) (total : ℕ) → length sync ≡ 16
    → (blocks turns : ℕ) (here after : List Value) (body rest bytes : List ℕ) (vs : List Value) → bytes ≢ []
    → length bytes ≤ turns → length rest < length bytes
    → head_at sync bytes ≡ Ok (record { count = length here; content = body; rest = rest })
    → AreJoined (Spells s) here body → AreWithinLimits here → vs ≡ here ++ after
    → ((u : ℕ) → length rest ≤ u → blocks_run s sync total u rest ≡ whole after)
    → blocks_run s sync total turns bytes ≡ whole vs
block_again s sync total sixteen blocks zero here after body rest bytes vs some le less head is few e others =
    absurd (omega arith)
block_again s sync total sixteen blocks (suc turns) here after body rest bytes vs some le less head is few e others =
    one_block s sync total turns bytes (record { count = length here; content = body; rest = rest }) some le head
    ∙ rw (others turns (omega arith), e) (objects_again s total (whole after) here body is few)

pub blocks_again : (s : Tree) (sync : List ℕ) (total : ℕ) → length sync ≡ 16
    → (blocks turns : ℕ) (vs : List Value) (bytes : List ℕ) → HoldsBlocks s sync blocks vs bytes → AreWithinLimits vs
    → length bytes ≤ turns → blocks_run s sync total turns bytes ≡ whole vs
unfolding blocks_run
blocks_again s sync total sixteen zero turns vs bytes is few le = rw (is.0, is.1) refl
blocks_again s sync total sixteen (suc blocks) turns vs bytes is few le =
    let tail = is.3 ++ (is.4 ++ (sync ++ is.5)) in
    let long = long_len is.2 (pos (length is.0)) is.6 in
    let some : bytes ≢ [] = rw is.11 (some_bytes is.2 tail long) in
    let limits = limits-left is.0 is.1 (rw is.10 at few) in
    let head = head_again sync is.2 is.3 is.4 is.5 bytes (length is.0) sixteen is.6 is.7 is.11 in
    let less = head_shorter sync bytes (record { count = length is.0; content = is.4; rest = is.5 }) head in
    block_again s sync total sixteen blocks turns is.0 is.1 is.4 is.5 bytes vs some le less head is.8 limits.0 is.10
    (λ u fits. blocks_again s sync total sixteen blocks u is.1 is.5 is.9 limits.1 fits)

-- ---- what is read is held

pub object_held : (s : Tree) (block : List ℕ) (x : Value × List ℕ) → object_at s block ≡ Ok x
    → (front : List ℕ) × Spells s x.0 front × (block ≡ front ++ x.1) × (item_count x.0 ≤ max_items)
unfolding object_at
object_held s block x e =
    let p : Position = record { bytes = block; left = max_items } in
    let a = bind_ok (refused inside (datum_at s p)) (λ y. Ok (y.0, y.1.bytes)) x e in
    let t = datum_takes s p a.0 (refused_ok inside (datum_at s p) a.0 a.1) in
    let made : Value × List ℕ = (a.0.0, a.0.1.bytes) in
    subst (λ (y : Value × List ℕ). (front : List ℕ) × Spells s y.0 front × (block ≡ front ++ y.1) ×
    (item_count y.0 ≤ max_items)) (ok_is made x a.2) (t.front, t.spelled, t.parts, omega (arith, t.left))

-- the objects of a block, and the data after it
pub record Objects (s : Tree) (total : ℕ) (after : Run) (n : ℕ) (block : List ℕ) (vs : List Value) : Type 0 where
  pub here : List Value
  pub as_many : length here ≡ n
  pub spelled : AreJoined (Spells s) here block
  pub limits : AreWithinLimits here
  pub others : after ≡ whole after.found
  pub all : vs ≡ here ++ after.found

pub found_is : (r : Run) (vs : List Value) → r ≡ whole vs → r.found ≡ vs
found_is r vs e = ap (λ (x : Run). x.found) e

abbrev some_fault : AvroFault → Option AvroFault
some_fault f = Some f

some_none : (f : AvroFault) → some_fault f ≡ None → ⊥
some_none f h = cc

not_whole : (f : AvroFault) (vs : List Value) → stopped f ≡ whole vs → ⊥
not_whole f vs h = some_none f (ap (λ (y : Run). y.ending) h)

object_found : (s : Tree) (total : ℕ) (after : Run) (n : ℕ) (block : List ℕ) (vs : List Value)
    (r : Result (Value × List ℕ) Refusal) → object_at s block ≡ r
    → object_then total (objects_run s total after n) r ≡ whole vs
    → ((rest : List ℕ) (ws : List Value) → objects_run s total after n rest ≡ whole ws
    → Objects s total after n rest ws) → Objects s total after (suc n) block vs
object_found s total after n block vs (Err f) e h again = absurd (not_whole (fault_of total f) vs h)
object_found s total after n block vs (Ok x) e h again =
    let o = object_held s block x e in
    let ending : (objects_run s total after n x.1).ending ≡ None = ap (λ (y : Run). y.ending) h in
    let tail : objects_run s total after n x.1 ≡ whole (objects_run s total after n x.1).found =
    ap (λ (y : Option AvroFault). record { found = (objects_run s total after n x.1).found; ending = y }) ending in
    let more = again x.1 (objects_run s total after n x.1).found tail in
    let found : x.0 ∷ (objects_run s total after n x.1).found ≡ vs = ap (λ (y : Run). y.found) h in
    record {
      here = x.0 ∷ more.here;
      as_many = ap suc more.as_many;
      spelled = (o.0, x.1, o.1, more.spelled, o.2);
      limits = (o.3, more.limits);
      others = more.others;
      all = sym found ∙ ap (λ (ws : List Value). x.0 ∷ ws) more.all;
    }

objects_held : (s : Tree) (total : ℕ) (after : Run) (n : ℕ) (block : List ℕ) (vs : List Value)
    → objects_run s total after n block ≡ whole vs → Objects s total after n block vs
unfolding objects_run
objects_held s total after zero [] vs h = record {
  here = [];
  as_many = refl;
  spelled = refl;
  limits = tt;
  others = h ∙ ap whole (sym (found_is after vs h));
  all = sym (found_is after vs h);
}
objects_held s total after zero (b ∷ block) vs h = absurd (not_whole BlockSize vs h)
objects_held s total after (suc n) block vs h = object_found s total after n block vs (object_at s block) refl h
    (λ rest ws e. objects_held s total after n rest ws e)

-- what a run to the end has read
pub record Held (s : Tree) (sync : List ℕ) (vs : List Value) (bytes : List ℕ) : Type 0 where
  pub held : Holds s sync vs bytes
  pub limits : AreWithinLimits vs

head_found : (s : Tree) (sync : List ℕ) (total turns : ℕ) (bytes : List ℕ) (vs : List Value)
    (r : Result BlockHead Refusal) → head_at sync bytes ≡ r
    → head_then s total (blocks_run s sync total turns) r ≡ whole vs
    → ((rest : List ℕ) (ws : List Value) → blocks_run s sync total turns rest ≡ whole ws → Held s sync ws rest)
    → Held s sync vs bytes
head_found s sync total turns bytes vs (Err f) e h again = absurd (not_whole (fault_of total f) vs h)
head_found s sync total turns bytes vs (Ok b) e h again =
    let t = head_takes sync bytes b e in
    let after = blocks_run s sync total turns b.rest in
    let o = objects_held s total after b.count b.content vs h in
    let more = again b.rest after.found o.others in
    record {
      held = (
        suc more.held.0,
        (
          o.here,
          after.found,
          t.count,
          t.size,
          b.content,
          b.rest,
          subst
              (λ (k : ℕ). IsLong t.count (pos k)) (sym o.as_many) t.count_is,
          t.size_is,
          o.spelled,
          more.held.1,
          o.all,
          t.parts,
        ),
      );
      limits = subst AreWithinLimits (sym o.all) (limits-both o.here after.found o.limits more.limits);
    }

pub blocks_held : (s : Tree) (sync : List ℕ) (total turns : ℕ) (bytes : List ℕ) (vs : List Value)
    → blocks_run s sync total turns bytes ≡ whole vs → Held s sync vs bytes
unfolding blocks_run
blocks_held s sync total turns [] vs h = let none = found_is at_end vs h in record {
  held = (0, (sym none, refl));
  limits = subst AreWithinLimits none tt;
}
blocks_held s sync total zero (b ∷ bytes) vs h = absurd (not_whole BlockSize vs h)
blocks_held s sync total (suc turns) (b ∷ bytes) vs h = head_found s sync total turns (b ∷ bytes) vs
    (head_at sync (b ∷ bytes)) refl h (λ rest ws e. blocks_held s sync total turns rest ws e)
