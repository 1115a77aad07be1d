-- What reading gives where the end of the bytes was cut off: the same, or a refusal for want of bytes.
use Rattle.std.proofs.Common.{◌≡◌, ℕ, zero, suc, ◌+◌, ◌-◌, ◌*◌, ◌^◌, ◌<◌, ◌≤◌, ℤ, pos, negsuc, Bool, true, false, cond}
use Rattle.std.proofs.Common.{ltb, List, [], ◌∷◌, ◌++◌, length, take, drop, Result, Ok, Err, ◌⊎◌, inl, inr, refl, sym}
use Rattle.std.proofs.Common.{ap, subst, ◌∙◌, arith}
use Rattle.std.specs.Str.{is_utf8, bytes_eq}
use Rattle.std.proofs.lemmas.Bool.{ltb-false, le-ltb}
use Rattle.std.proofs.lemmas.List.{length-append, take-append-le, drop-append-le}
use Rattle.contract_words.specs.Outcome.{◌>>=◌}
use Rattle.avro_file_parts.specs.declared.refusal.Refusal.{Refusal}
use Rattle.avro_file_parts.specs.declared.refusal.Refusal.TheVariants.{Short, BadNumber, BadUtf8, TooManyItems, BadSync}
use Rattle.avro_file_parts.specs.Number.{groups_at, from_start, number_at, long_at, signed_of}
use Rattle.avro_file_parts.specs.Parts.{Position, Read, run_at, run_of, bytes_at, string_at, counted, magnitude}
use Rattle.avro_file_parts.specs.Parts.{count_at}
use Rattle.avro_file.specs.Reading.{values_at, block_then, blocks_at}
use Rattle.avro_file.specs.Header.{Property, Wanted, none_wanted, wanted_with, property_at, properties_at, wanted_at}
use Rattle.avro_file.specs.Header.{metadata_at, FileHeader, header_at, IsProperty}
use Rattle.avro_file_parts.specs.Heads.{BlockHead, natural_of, head_at}
use Rattle.avro_file.proofs.Steps.{bind_ok, guard_ok, passed, ok_is, either}
use Rattle.avro_file.proofs.Taken.{begins_ok}
use Rattle.avro_file.proofs.Loop.{shorter}
use Rattle.avro_file.proofs.Properties.{no_items, property_takes}

-- reading ends for want of bytes, or gives something that is as it would be with the end
abbrev pub Cut : {S : Type 0} → (S → Type 0) → Result S Refusal → Type 0
Cut {S} Same read = ((y : S) × (read ≡ Ok y) × Same y) ⊎ ((n : ℕ) × (read ≡ Err (Short n)))

pub cut_then : {S T : Type 0} (Same : S → Type 0) (More : T → Type 0) (read : Result S Refusal) (next : S
    → Result T Refusal) → Cut Same read → ((y : S) → read ≡ Ok y → Same y → Cut More (next y))
    → Cut More (read >>= next)
cut_then Same More read next (inl h) more = rw h.1 (more h.0 h.1 h.2)
cut_then Same More read next (inr h) more = rw h.1 (inr (h.0, refl))

-- the same value, and a rest that lacks the end
abbrev pub Behind : {A : Type 0} → List ℕ → A × List ℕ → A × List ℕ → Type 0
Behind back x y = (y.0 ≡ x.0) × (x.1 ≡ y.1 ++ back)

-- ---- numbers and runs of bytes

groups_cut : (turns : ℕ) (front back : List ℕ) (x : ℕ × List ℕ) → groups_at turns (front ++ back) ≡ Ok x
    → Cut (Behind back x) (groups_at turns front)
unfolding groups_at
groups_cut zero front back x e = absurd cc
groups_cut (suc turns) [] back x e = inr (0, refl)
groups_cut (suc turns) (b ∷ front) back x e =
    elim (either (ltb b 128) (Ok (b, front ++ back)) (groups_at turns (front ++ back) >>= λ y. Ok
    (b - 128 + 128 * y.0, y.1)) (Ok x) e) [
      | inl h ↦ subst (λ (z : ℕ × List ℕ). Cut (Behind back z) (groups_at (suc turns) (b ∷ front)))
          (ok_is (b, front ++ back) x h.1) (rw h.0 (inl ((b, front), refl, (refl, refl))))
      | inr h ↦
          let a = bind_ok (groups_at turns (front ++ back)) (λ y. Ok (b - 128 + 128 * y.0, y.1)) x h.1 in
          let made : ℕ × List ℕ = (b - 128 + 128 * a.0.0, a.0.1) in
          subst (λ (z : ℕ × List ℕ). Cut (Behind back z) (groups_at (suc turns) (b ∷ front))) (ok_is made x a.2)
          (rw h.0 (cut_then (Behind back a.0) (Behind back made) (groups_at turns front)
          (λ y. Ok (b - 128 + 128 * y.0, y.1)) (groups_cut turns front back a.0 a.1)
          (λ y _ same. inl ((b - 128 + 128 * y.0, y.1), refl, (ap (λ (n : ℕ). b - 128 + 128 * n) same.0, same.1)))))
    ]

start_cut : (front : List ℕ) (Same : ℕ × List ℕ → Type 0) (read : Result (ℕ × List ℕ) Refusal) → Cut Same read
    → Cut Same (from_start front read)
start_cut front Same read (inl h) = rw h.1 (inl (h.0, refl, h.2))
start_cut front Same read (inr h) = rw h.1 (inr (length front, refl))

number_cut : (limit : ℕ) (front back : List ℕ) (x : ℕ × List ℕ) → number_at limit (front ++ back) ≡ Ok x
    → Cut (Behind back x) (number_at limit front)
unfolding number_at
number_cut limit front back x e =
    let a = bind_ok (from_start (front ++ back) (groups_at 10 (front ++ back))) (λ y. cond (ltb y.0 limit) (Ok y)
    (Err BadNumber)) x e in
    let b = passed (ltb a.0.0 limit) BadNumber (Ok a.0) x a.2 in
    let groups = groups_cut 10 front back a.0 (begins_ok (front ++ back) (groups_at 10 (front ++ back)) a.0 a.1) in
    subst (λ (z : ℕ × List ℕ). Cut (Behind back z) (number_at limit front)) (ok_is a.0 x b.1)
    (cut_then (Behind back a.0) (Behind back a.0) (from_start front (groups_at 10 front)) (λ y. cond (ltb y.0 limit)
    (Ok y) (Err BadNumber)) (start_cut front (Behind back a.0) (groups_at 10 front) groups) (λ y _ same.
    let small : ltb y.0 limit ≡ true = ap (λ (n : ℕ). ltb n limit) same.0 ∙ b.0 in
    rw small (inl (y, refl, same))))

pub long_cut : (front back : List ℕ) (x : ℤ × List ℕ) → long_at (front ++ back) ≡ Ok x
    → Cut (Behind back x) (long_at front)
unfolding long_at
long_cut front back x e =
    let a = bind_ok (number_at (2 ^ 64) (front ++ back)) (λ y. Ok (signed_of y.0, y.1)) x e in
    let made : ℤ × List ℕ = (signed_of a.0.0, a.0.1) in
    subst (λ (z : ℤ × List ℕ). Cut (Behind back z) (long_at front)) (ok_is made x a.2)
    (cut_then (Behind back a.0) (Behind back made) (number_at (2 ^ 64) front) (λ y. Ok (signed_of y.0, y.1))
    (number_cut (2 ^ 64) front back a.0 a.1)
    (λ y _ same. inl ((signed_of y.0, y.1), refl, (ap signed_of same.0, same.1))))

run_fits : (n : ℕ) (front back : List ℕ) (x : List ℕ × List ℕ) → n ≤ length front → run_at n (front ++ back) ≡ Ok x
    → Cut (Behind back x) (run_at n front)
unfolding run_at
run_fits n front back x le e =
    let whole : ltb (length (front ++ back)) n ≡ false = le-ltb _ _ (omega (arith, length-append front back)) in
    let fits : ltb (length front) n ≡ false = le-ltb _ _ le in
    let made : List ℕ × List ℕ = (take n (front ++ back), drop n (front ++ back)) in
    let same : made ≡ x = ok_is made x (rw whole at e) in
    subst (λ (z : List ℕ × List ℕ). Cut (Behind back z) (run_at n front)) same
    (rw fits (inl (
      (take n front, drop n front),
      refl,
      (
        sym (take-append-le n front back le),
        drop-append-le n front
            back le,
      ),
    )))

run_short : (n : ℕ) (front : List ℕ) (Same : List ℕ × List ℕ → Type 0) → ltb (length front) n ≡ true
    → Cut Same (run_at n front)
unfolding run_at
run_short n front Same short = rw short (inr (length front, refl))

pub which : (b : Bool) → (b ≡ true) ⊎ (b ≡ false)
which true = inl refl
which false = inr refl

pub run_cut : (n : ℕ) (front back : List ℕ) (x : List ℕ × List ℕ) → run_at n (front ++ back) ≡ Ok x
    → Cut (Behind back x) (run_at n front)
run_cut n front back x e =
    elim (which (ltb (length front) n)) [
      | inl h ↦ run_short n front (Behind back x) h
      | inr h ↦ run_fits n front back x (ltb-false _ _ h) e
    ]

run_of_cut : (z : ℤ) (front back : List ℕ) (x : List ℕ × List ℕ) → run_of z (front ++ back) ≡ Ok x
    → Cut (Behind back x) (run_of z front)
run_of_cut (pos n) front back x e = run_cut n front back x e
run_of_cut (negsuc n) front back x e = absurd cc

pub bytes_cut : (front back : List ℕ) (x : List ℕ × List ℕ) → bytes_at (front ++ back) ≡ Ok x
    → Cut (Behind back x) (bytes_at front)
unfolding bytes_at
bytes_cut front back x e =
    let a = bind_ok (long_at (front ++ back)) (λ n. run_of n.0 n.1) x e in
    cut_then (Behind back a.0) (Behind back x) (long_at front) (λ n. run_of n.0 n.1) (long_cut front back a.0 a.1)
    (λ y _ same.
    run_of_cut y.0 y.1 back x (ap (λ (z : ℤ). run_of z (y.1 ++ back)) same.0 ∙ ap (λ (t : List ℕ). run_of a.0.0 t)
    (sym same.1) ∙ a.2))

pub string_cut : (front back : List ℕ) (x : List ℕ × List ℕ) → string_at (front ++ back) ≡ Ok x
    → Cut (Behind back x) (string_at front)
unfolding string_at
string_cut front back x e =
    let a = bind_ok (bytes_at (front ++ back)) (λ found. cond (is_utf8 found.0) (Ok found) (Err BadUtf8)) x e in
    let b = passed (is_utf8 a.0.0) BadUtf8 (Ok a.0) x a.2 in
    subst (λ (z : List ℕ × List ℕ). Cut (Behind back z) (string_at front)) (ok_is a.0 x b.1)
    (cut_then (Behind back a.0) (Behind back a.0) (bytes_at front) (λ found. cond (is_utf8 found.0) (Ok found)
    (Err BadUtf8)) (bytes_cut front back a.0 a.1) (λ y _ same.
    let text : is_utf8 y.0 ≡ true = ap is_utf8 same.0 ∙ b.0 in
    rw text (inl (y, refl, same))))

-- ---- the metadata

-- the same value, as many items left, and a rest that lacks the end
abbrev pub BehindAt : {A : Type 0} → List ℕ → A × Position → A × Position → Type 0
BehindAt back x y = (y.0 ≡ x.0) × (x.1.bytes ≡ y.1.bytes ++ back) × (y.1.left ≡ x.1.left)

abbrev at : List ℕ → ℕ → Position
at bytes left = record { bytes = bytes; left = left }

-- where reading went on, seen from where it goes on without the end
with_end : (back : List ℕ) (p q : Position) → p.bytes ≡ q.bytes ++ back → q.left ≡ p.left
    → at (q.bytes ++ back) q.left ≡ p
with_end back p q e f = ap (λ (t : List ℕ). at t q.left) (sym e) ∙ ap (λ (n : ℕ). at p.bytes n) f

abbrev pub EachCut : {A : Type 0} → (Position → Read A) → Type 0
EachCut {A} read = (left : ℕ) (front back : List ℕ) (x : A × Position) → read (at (front ++ back) left) ≡ Ok x
    → Cut (BehindAt back x) (read (at front left))

property_cut : EachCut property_at
unfolding property_at
property_cut left front back x e =
    let a = bind_ok (string_at (front ++ back)) (λ key. bytes_at key.1 >>= λ v. Ok ((key.0, v.0), at v.1 left)) x e in
    let b = bind_ok (bytes_at a.0.1) (λ v. Ok ((a.0.0, v.0), at v.1 left)) x a.2 in
    let made : Property × Position = ((a.0.0, b.0.0), at b.0.1 left) in
    subst (λ (z : Property × Position). Cut (BehindAt back z) (property_at (at front left))) (ok_is made x b.2)
    (cut_then (Behind back a.0) (BehindAt back made) (string_at front) (λ key. bytes_at key.1 >>= λ v. Ok
    ((key.0, v.0), at v.1 left)) (string_cut front back a.0 a.1) (λ key _ same.
    cut_then (Behind back b.0) (BehindAt back made) (bytes_at key.1) (λ v. Ok ((key.0, v.0), at v.1 left))
    (bytes_cut key.1 back b.0 (ap bytes_at (sym same.1) ∙ b.1)) (λ v _ alike.
    inl (
      ((key.0, v.0), at v.1 left),
      refl,
      (
        ap (λ (k : List ℕ). (k, v.0)) same.0 ∙ ap (λ (t : List ℕ). (a.0.0, t))
            alike.0,
        alike.1,
        refl,
      ),
    ))))

values_cut : {A : Type 0} (read : Position → Read A) → EachCut read → (n : ℕ) → EachCut (values_at read n)
unfolding values_at
values_cut {A} read each zero left front back x e =
    let made : List A × Position = ([], at (front ++ back) left) in
    subst (λ (z : List A × Position). Cut (BehindAt back z) (values_at read zero (at front left))) (ok_is made x e)
    (inl (([], at front left), refl, (refl, refl, refl)))
values_cut {A} read each (suc n) left front back x e =
    let a = bind_ok (read (at (front ++ back) left)) (λ first. values_at read n first.1 >>= λ others. Ok
    (first.0 ∷ others.0, others.1)) x e in
    let b = bind_ok (values_at read n a.0.1) (λ others. Ok (a.0.0 ∷ others.0, others.1)) x a.2 in
    let made : List A × Position = (a.0.0 ∷ b.0.0, b.0.1) in
    subst (λ (z : List A × Position). Cut (BehindAt back z) (values_at read (suc n) (at front left))) (ok_is made x b.2)
    (cut_then (BehindAt back a.0) (BehindAt back made) (read (at front left)) (λ first. values_at read n first.1 >>=
    λ others. Ok (first.0 ∷ others.0, others.1)) (each left front back a.0 a.1) (λ first _ same.
    cut_then (BehindAt back b.0) (BehindAt back made) (values_at read n first.1)
    (λ others. Ok (first.0 ∷ others.0, others.1)) (values_cut read each n first.1.left first.1.bytes back b.0
    (ap (values_at read n) (with_end back a.0.1 first.1 same.1 same.2) ∙ b.1)) (λ others _ alike.
    inl (
      (first.0 ∷ others.0, others.1),
      refl,
      (
        ap (λ (v : A). v ∷ others.0) same.0 ∙ ap (λ (vs : List A). a.0.0 ∷ vs)
            alike.0,
        alike.1,
        alike.2,
      ),
    ))))

counted_cut : (z : ℤ) → EachCut (counted z)
counted_cut (pos n) left front back x e =
    let made : ℕ × Position = (n, at (front ++ back) (left - n)) in
    subst (λ (y : ℕ × Position). Cut (BehindAt back y) (counted (pos n) (at front left))) (ok_is made x e)
    (inl ((n, at front (left - n)), refl, (refl, refl, refl)))
counted_cut (negsuc n) left front back x e =
    let a = bind_ok (long_at (front ++ back)) (λ size. Ok (suc n, at size.1 (left - suc n))) x e in
    let made : ℕ × Position = (suc n, at a.0.1 (left - suc n)) in
    subst (λ (y : ℕ × Position). Cut (BehindAt back y) (counted (negsuc n) (at front left))) (ok_is made x a.2)
    (cut_then (Behind back a.0) (BehindAt back made) (long_at front) (λ size. Ok (suc n, at size.1 (left - suc n)))
    (long_cut front back a.0 a.1) (λ size _ same. inl (
      (suc n, at size.1 (left - suc n)),
      refl,
      (refl, same.1, refl),
    )))

count_cut : EachCut count_at
unfolding count_at
count_cut left front back x e =
    let a = bind_ok (long_at (front ++ back)) (λ n. cond (ltb left (magnitude n.0)) (Err TooManyItems)
    (counted n.0 (at n.1 left))) x e in
    let g = guard_ok (ltb left (magnitude a.0.0)) TooManyItems (counted a.0.0 (at a.0.1 left)) x a.2 in
    cut_then (Behind back a.0) (BehindAt back x) (long_at front) (λ n. cond (ltb left (magnitude n.0))
    (Err TooManyItems) (counted n.0 (at n.1 left))) (long_cut front back a.0 a.1) (λ n _ same.
    let few : ltb left (magnitude n.0) ≡ false = ap (λ (z : ℤ). ltb left (magnitude z)) same.0 ∙ g.0 in
    rw few (counted_cut n.0 left n.1 back x (ap (λ (z : ℤ). counted z (at (n.1 ++ back) left)) same.0 ∙ ap
    (λ (t : List ℕ). counted a.0.0 (at t left)) (sym same.1) ∙ g.1)))

abbrev FewTurns : {A : Type 0} → (Position → Read A) → ℕ → Type 0
FewTurns {A} read more = (turns left : ℕ) (front back : List ℕ) (x : List A × Position) → length front < turns
    → blocks_at read more (at (front ++ back) left) ≡ Ok x
    → Cut (BehindAt back x) (blocks_at read turns (at front left))

block_cut : (more turns : ℕ) → FewTurns property_at more
    → (n left : ℕ) (front back : List ℕ) (p : Position) (x : List Property × Position)
    → count_at p ≡ Ok (n, at front left) → length p.bytes ≤ turns
    → block_then property_at (blocks_at property_at more) n (at (front ++ back) left) ≡ Ok x
    → Cut (BehindAt back x) (block_then property_at (blocks_at property_at turns) n (at front left))
block_cut more turns others zero left front back p x counts le e =
    let made : List Property × Position = ([], at (front ++ back) left) in
    subst (λ (z : List Property × Position). Cut (BehindAt back z) (block_then property_at (blocks_at property_at turns)
    zero (at front left))) (ok_is made x e) (inl (([], at front left), refl, (refl, refl, refl)))
block_cut more turns others (suc n) left front back p x counts le e =
    let a = bind_ok (values_at property_at (suc n) (at (front ++ back) left)) (λ here. blocks_at property_at more here.1
    >>= λ after. Ok (here.0 ++ after.0, after.1)) x e in
    let b = bind_ok (blocks_at property_at more a.0.1) (λ after. Ok (a.0.0 ++ after.0, after.1)) x a.2 in
    let made : List Property × Position = (a.0.0 ++ b.0.0, b.0.1) in
    subst (λ (z : List Property × Position). Cut (BehindAt back z) (block_then property_at (blocks_at property_at turns)
    (suc n) (at front left))) (ok_is made x b.2)
    (cut_then (BehindAt back a.0) (BehindAt back made) (values_at property_at (suc n) (at front left))
    (λ here. blocks_at property_at turns here.1 >>= λ after. Ok (here.0 ++ after.0, after.1))
    (values_cut property_at property_cut (suc n) left front back a.0 a.1) (λ here is same.
    let less = shorter property_at IsProperty no_items property_takes [] p (at front left) (suc n) here.0 here.1 counts
    (rw is refl) in
    cut_then (BehindAt back b.0) (BehindAt back made) (blocks_at property_at turns here.1)
    (λ after. Ok (here.0 ++ after.0, after.1)) (others turns here.1.left here.1.bytes back b.0
    (omega (arith, less, le)) (ap (blocks_at property_at more) (with_end back a.0.1 here.1 same.1 same.2) ∙ b.1))
    (λ after _ alike.
    inl (
      (here.0 ++ after.0, after.1),
      refl,
      (
        ap (λ (vs : List Property). vs ++ after.0) same.0 ∙ ap
            (λ (vs : List Property). a.0.0 ++ vs) alike.0,
        alike.1,
        alike.2,
      ),
    ))))

blocks_cut : (more : ℕ) → FewTurns property_at more
unfolding blocks_at
blocks_cut zero turns left front back x lt e = absurd cc
blocks_cut (suc more) zero left front back x lt e = absurd (omega arith)
blocks_cut (suc more) (suc turns) left front back x lt e =
    let a = bind_ok (count_at (at (front ++ back) left)) (λ n. block_then property_at (blocks_at property_at more) n.0
    n.1) x e in
    cut_then (BehindAt back a.0) (BehindAt back x) (count_at (at front left)) (λ n. block_then property_at
    (blocks_at property_at turns) n.0 n.1) (count_cut left front back a.0 a.1) (λ n is same.
    block_cut more turns (blocks_cut more) n.0 n.1.left n.1.bytes back (at front left) x is (omega arith)
    (ap (λ (k : ℕ). block_then property_at (blocks_at property_at more) k (at (n.1.bytes ++ back) n.1.left)) same.0
    ∙ ap (block_then property_at (blocks_at property_at more) a.0.0) (with_end back a.0.1 n.1 same.1 same.2) ∙ a.2))

metadata_cut : (front back : List ℕ) (x : Wanted × List ℕ) → metadata_at (front ++ back) ≡ Ok x
    → Cut (Behind back x) (metadata_at front)
unfolding metadata_at properties_at
metadata_cut front back x e =
    let left : ℕ = 2 ^ 64 - 1 in
    let a = bind_ok (wanted_at none_wanted (properties_at (front ++ back))) (λ y. Ok (y.0, y.1.bytes)) x e in
    let b = bind_ok (properties_at (front ++ back)) (λ y. Ok (wanted_with none_wanted y.0, y.1)) a.0 a.1 in
    let made : Wanted × List ℕ = (wanted_with none_wanted b.0.0, b.0.1.bytes) in
    let seen : Wanted × Position = (wanted_with none_wanted b.0.0, b.0.1) in
    let same_as : made ≡ x = ap (λ (y : Wanted × Position). (y.0, y.1.bytes)) (ok_is seen a.0 b.2) ∙ ok_is
    (a.0.0, a.0.1.bytes) x a.2 in
    subst (λ (z : Wanted × List ℕ). Cut (Behind back z) (metadata_at front)) same_as
    (cut_then (BehindAt back seen) (Behind back made) (wanted_at none_wanted (properties_at front))
    (λ y. Ok (y.0, y.1.bytes))
    (cut_then (BehindAt back b.0) (BehindAt back seen) (properties_at front)
    (λ y. Ok (wanted_with none_wanted y.0, y.1)) (blocks_cut (suc (length (front ++ back))) (suc (length front))
    left front back b.0 (omega arith) b.1) (λ y _ same.
    inl ((wanted_with none_wanted y.0, y.1), refl, (ap (wanted_with none_wanted) same.0, same.1, same.2))))
    (λ y _ same. inl ((y.0, y.1.bytes), refl, (same.0, same.1))))

-- ---- headers and heads

abbrev pub HeaderCut : List ℕ → FileHeader → FileHeader → Type 0
HeaderCut back h k = (k.wanted ≡ h.wanted) × (k.sync ≡ h.sync) × (h.rest ≡ k.rest ++ back)

pub header_cut : (front back : List ℕ) (h : FileHeader) → header_at (front ++ back) ≡ Ok h
    → Cut (HeaderCut back h) (header_at front)
unfolding header_at
header_cut front back h e =
    let a = bind_ok (metadata_at (front ++ back)) (λ x. run_at 16 x.1 >>= λ marker. Ok (record {
      wanted = x.0;
      sync = marker.0;
      rest = marker.1;
    })) h e in
    let b = bind_ok (run_at 16 a.0.1) (λ marker. Ok (record { wanted = a.0.0; sync = marker.0; rest = marker.1 })) h
    a.2 in
    let made : FileHeader = record { wanted = a.0.0; sync = b.0.0; rest = b.0.1 } in
    subst (λ (z : FileHeader). Cut (HeaderCut back z) (header_at front)) (ok_is made h b.2)
    (cut_then (Behind back a.0) (HeaderCut back made) (metadata_at front) (λ x. run_at 16 x.1 >>= λ marker. Ok
    (record { wanted = x.0; sync = marker.0; rest = marker.1 })) (metadata_cut front back a.0 a.1) (λ x _ same.
    cut_then (Behind back b.0) (HeaderCut back made) (run_at 16 x.1)
    (λ marker. Ok (record { wanted = x.0; sync = marker.0; rest = marker.1 })) (run_cut 16 x.1 back b.0
    (ap (run_at 16) (sym same.1) ∙ b.1)) (λ marker _ alike.
    inl (record { wanted = x.0; sync = marker.0; rest = marker.1 }, refl, (same.0, alike.0, alike.1)))))

abbrev pub HeadCut : List ℕ → BlockHead → BlockHead → Type 0
HeadCut back h k = (k.count ≡ h.count) × (k.content ≡ h.content) × (h.rest ≡ k.rest ++ back)

-- the marker behind a block's content, and the content before it
abbrev marked : List ℕ → ℕ → List ℕ → List ℕ × List ℕ → Result BlockHead Refusal
marked sync n content marker = cond (bytes_eq marker.0 sync) (Ok (record {
  count = n;
  content = content;
  rest = marker.1;
})) (Err BadSync)

abbrev filled : List ℕ → ℕ → List ℕ × List ℕ → Result BlockHead Refusal
filled sync n content = run_at 16 content.1 >>= marked sync n content.0

body_cut : (sync : List ℕ) (n len : ℕ) (front back : List ℕ) (h : BlockHead)
    → (run_at len (front ++ back) >>= filled sync n) ≡ Ok h → Cut (HeadCut back h) (run_at len front >>= filled sync n)
body_cut sync n len front back h e =
    let a = bind_ok (run_at len (front ++ back)) (filled sync n) h e in
    let b = bind_ok (run_at 16 a.0.1) (marked sync n a.0.0) h a.2 in
    let c = passed (bytes_eq b.0.0 sync) BadSync (Ok (record { count = n; content = a.0.0; rest = b.0.1 })) h b.2 in
    let made : BlockHead = record { count = n; content = a.0.0; rest = b.0.1 } in
    subst (λ (z : BlockHead). Cut (HeadCut back z) (run_at len front >>= filled sync n)) (ok_is made h c.1)
    (cut_then (Behind back a.0) (HeadCut back made) (run_at len front) (filled sync n) (run_cut len front back a.0 a.1)
    (λ content _ same.
    cut_then (Behind back b.0) (HeadCut back made) (run_at 16 content.1) (marked sync n content.0)
    (run_cut 16 content.1 back b.0 (ap (run_at 16) (sym same.1) ∙ b.1)) (λ marker _ alike.
    let right : bytes_eq marker.0 sync ≡ true = ap (λ (t : List ℕ). bytes_eq t sync) alike.0 ∙ c.0 in
    rw right (inl (record { count = n; content = content.0; rest = marker.1 }, refl, (refl, same.0, alike.1))))))

pub head_cut : (sync front back : List ℕ) (h : BlockHead) → head_at sync (front ++ back) ≡ Ok h
    → Cut (HeadCut back h) (head_at sync front)
unfolding head_at
head_cut sync front back h e =
    let a = bind_ok (long_at (front ++ back)) _ h e in
    let b = bind_ok (natural_of a.0.0) _ h a.2 in
    let c = bind_ok (long_at a.0.1) _ h b.2 in
    let d = bind_ok (natural_of c.0.0) _ h c.2 in
    cut_then (Behind back a.0) (HeadCut back h) (long_at front) _ (long_cut front back a.0 a.1) (λ count _ same.
    let counted : natural_of count.0 ≡ Ok b.0 = ap natural_of same.0 ∙ b.1 in
    rw counted (cut_then (Behind back c.0) (HeadCut back h) (long_at count.1) _ (long_cut count.1 back c.0
    (ap long_at (sym same.1) ∙ c.1)) (λ size _ alike.
    let sized : natural_of size.0 ≡ Ok d.0 = ap natural_of alike.0 ∙ d.1 in
    rw sized (body_cut sync b.0 d.0 size.1 back h (rw (← alike.1) d.2)))))
