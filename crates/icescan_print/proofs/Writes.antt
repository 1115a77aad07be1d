-- Lemmas on what was written.
use Rattle.std.proofs.Common.{◌≡◌, ℕ, ◌+◌, ◌-◌, List, [], ◌∷◌, ◌++◌, length, take, drop, Option, Some, None, Result, Ok}
use Rattle.std.proofs.Common.{Err, refl, arith, length-append, append_assoc}
use Rattle.std.proofs.lemmas.List.{take_rest, take-append-le, take-append-drop}
use Rattle.std.proofs.Math.Seq.{take-add, take-append-add}
use Rattle.icescan_print.specs.declared.sink.SinkFault.{SinkFault}
use Rattle.std.specs.Result.{IsErr, IfErr}
use Rattle.icescan_print.specs.Escaping.{escaped}
use Rattle.icescan_print.specs.Written.{Appends, AppendsFront, Wrote}

-- a further front of the rest
pub appends_more : (o a b : Option (List ℕ)) (bytes : List ℕ) (at n : ℕ) → Appends o a (take at bytes)
    → Appends a b (take n (take (length bytes - at) (drop at bytes))) → Appends o b (take (at + n) bytes)
appends_more None a b bytes at n h k = tt
appends_more (Some x) None b bytes at n h k = cc
appends_more (Some x) (Some y) b bytes at n h k =
    let e : y ≡ x ++ take at bytes = cc in
    let k' = rw (e, take_rest bytes at) at k in
    rw (take-add at n bytes, ← append_assoc) k'

-- one text after another
pub appends_both : (o a b : Option (List ℕ)) (xs ys : List ℕ) → Appends o a xs → Appends a b ys → Appends o b (xs ++ ys)
appends_both None a b xs ys h k = tt
appends_both (Some x) None b xs ys h k = cc
appends_both (Some x) (Some y) b xs ys h k =
    let e : y ≡ x ++ xs = cc in
    let k' = rw e at k in
    rw (← append_assoc) k'

-- a front of what was written after another text
pub front_after : (o a b : Option (List ℕ)) (xs ys : List ℕ) → Appends o a xs → AppendsFront a b ys
    → AppendsFront o b (xs ++ ys)
front_after o a b xs ys h k = (
  length xs + k.0,
  omega (arith, k.1, length-append xs ys),
  rw (take-append-add xs ys k.0) (appends_both o a b xs (take k.0 ys) h k.2),
)

-- a front of the first text is one of both
pub front_before : (o a : Option (List ℕ)) (xs ys : List ℕ) → AppendsFront o a xs → AppendsFront o a (xs ++ ys)
front_before o a xs ys k = (
  k.0,
  omega (arith, k.1, length-append xs ys),
  rw (take-append-le k.0 xs ys k.1) k.2,
)

module _ {X : Type 0} (taken : X → Option (List ℕ)) (may_fail : X → Type 0) where
  -- a text after one that was written whole
  pub wrote_more : (a b c : X) (u : Unit) (r : Result Unit SinkFault) (xs ys : List ℕ)
      → Wrote taken may_fail a (Ok u) b xs → Wrote taken may_fail b r c ys → Wrote taken may_fail a r c (xs ++ ys)
  wrote_more a b c u (Ok v) xs ys h k =
      record { all = appends_both _ _ _ xs ys h.all k.all; front = tt; cause = tt; still = λ m. h.still (k.still m) }
  wrote_more a b c u (Err e) xs ys h k =
      record {
        all = tt;
        front = front_after _ _ _ xs ys h.all k.front;
        cause = h.still k.cause;
        still = λ m. h.still (k.still m);
      }

  -- a failure in the first of two texts
  pub wrote_less : (a b : X) (e : SinkFault) (r : Result Unit SinkFault) (xs ys : List ℕ) → IsErr r
      → Wrote taken may_fail a (Err e) b xs → Wrote taken may_fail a r b (xs ++ ys)
  wrote_less a b e (Ok u) xs ys f h = cc
  wrote_less a b e (Err d) xs ys f h = record {
    all = tt;
    front = front_before _ _ xs ys h.front;
    cause = h.cause;
    still = h.still;
  }

  -- one failure is as good as another
  pub wrote_fails : (a b : X) (e : SinkFault) (r : Result Unit SinkFault) (xs : List ℕ) → IsErr r
      → Wrote taken may_fail a (Err e) b xs → Wrote taken may_fail a r b xs
  wrote_fails a b e (Ok u) xs f h = cc
  wrote_fails a b e (Err d) xs f h = record { all = tt; front = h.front; cause = h.cause; still = h.still }

pub escaped_append : (xs ys : List ℕ) → escaped (xs ++ ys) ≡ escaped xs ++ escaped ys
escaped_append [] ys = refl
escaped_append (x ∷ xs) ys = rw (escaped_append xs ys, append_assoc) refl

-- the bytes before a place, and those behind it
pub escaped_split : (bytes : List ℕ) (i : ℕ) → escaped bytes ≡ escaped (take i bytes) ++ escaped (drop i bytes)
escaped_split bytes i = rw (← escaped_append, take-append-drop) refl

-- some bytes more
pub escaped_more : (bytes : List ℕ) (i n : ℕ) → escaped (take (i + n) bytes) ≡ escaped (take i bytes) ++ escaped
    (take n (drop i bytes))
escaped_more bytes i n = rw (take-add i n bytes) (escaped_append (take i bytes) (take n (drop i bytes)))

pub if_err : (r : Result ℕ SinkFault) (Q : SinkFault → Type 0) → IsErr r → ((e : SinkFault) → Q e) → IfErr r Q
if_err (Ok n) Q f h = cc
if_err (Err e) Q f h = h e
