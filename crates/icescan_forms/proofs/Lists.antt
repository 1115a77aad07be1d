-- What was sent of lists, thing by thing.
use Rattle.std.proofs.Common.{◌≡◌, ℕ, zero, suc, ◌+◌, ◌<◌, List, [], ◌∷◌, ◌++◌, length, take, slice_get, Some}
use Rattle.std.proofs.Common.{Option, Result, Ok, Err, add-one, arith, get_or, refl}
use Rattle.std.specs.Prelude.{nat_lt}
use Rattle.std.specs.Result.{IsErr}
use Rattle.serde_json.specs.Written.{comma_if}
use Rattle.icescan_print.specs.declared.sink.SinkFault.{SinkFault}
use Rattle.icescan_print.specs.Written.{Sent}
use Rattle.icescan_print.proofs.Sends.{sent_more, sent_less}
use Rattle.icescan_forms.specs.Pieces.{each_from}
use Rattle.icescan_forms.proofs.Each.{each_next, each_cut}

pub there : {Y : Type 0} (xs : List Y) (i : ℕ) (d : Y) → i < length xs → slice_get xs i ≡ Some (get_or xs i d)
there [] i d l = absurd (omega arith)
there (y ∷ ys) zero d l = refl
there (y ∷ ys) (suc i) d l = there ys i d (omega arith)

pub from_zero : (i : ℕ) → 0 + i ≡ i
from_zero i = omega arith

module _ {X Y : Type 0} (taken : X → Option (List ℕ)) (may_fail : X → Type 0) (f : ℕ → Y → List ℕ) where
  -- one thing more, where it is the one at its place
  pub sent_one : (n : ℕ) (xs : List Y) (i : ℕ) (x : Y) → slice_get xs i ≡ Some x
      → (a b c : X) (p q r : List ℕ) (u : Unit) (e : Result Unit SinkFault)
      → Sent taken may_fail a p (Ok u) b q (each_from f n (take i xs))
      → Sent taken may_fail b q e c r (comma_if (nat_lt 0 (n + i)) ++ f (n + i) x)
      → Sent taken may_fail a p e c r (each_from f n (take (i + 1) xs))
  sent_one n xs i x is a b c p q r u e h k =
      rw (add-one, each_next f n xs i x is) (sent_more taken may_fail a b c p q r u e _ _ h k)

  -- a failure in one
  pub sent_failed : (n : ℕ) (xs : List Y) (i : ℕ) (x : Y) → slice_get xs i ≡ Some x
      → (a b c : X) (p q r : List ℕ) (u : Unit) (e : SinkFault) (t : Result Unit SinkFault) → IsErr t
      → Sent taken may_fail a p (Ok u) b q (each_from f n (take i xs))
      → Sent taken may_fail b q (Err e) c r (comma_if (nat_lt 0 (n + i)) ++ f (n + i) x)
      → Sent taken may_fail a p t c r (each_from f n xs)
  sent_failed n xs i x is a b c p q r u e t failed h k =
      rw (each_cut f n xs i x is)
      (sent_more taken may_fail a b c p q r u t _ _ h (sent_less taken may_fail b c q r r e t _ _ failed k))

  -- the same from the first place on
  pub sent_next : (xs : List Y) (i : ℕ) (x : Y) → slice_get xs i ≡ Some x
      → (a b c : X) (p q r : List ℕ) (u : Unit) (e : Result Unit SinkFault)
      → Sent taken may_fail a p (Ok u) b q (each_from f 0 (take i xs))
      → Sent taken may_fail b q e c r (comma_if (nat_lt 0 i) ++ f i x)
      → Sent taken may_fail a p e c r (each_from f 0 (take (i + 1) xs))
  sent_next xs i x is a b c p q r u e h k =
      sent_one 0 xs i x is a b c p q r u e h (rw (from_zero i) k)

  pub sent_stops : (xs : List Y) (i : ℕ) (x : Y) → slice_get xs i ≡ Some x
      → (a b c : X) (p q r : List ℕ) (u : Unit) (e : SinkFault) (t : Result Unit SinkFault) → IsErr t
      → Sent taken may_fail a p (Ok u) b q (each_from f 0 (take i xs))
      → Sent taken may_fail b q (Err e) c r (comma_if (nat_lt 0 i) ++ f i x)
      → Sent taken may_fail a p t c r (each_from f 0 xs)
  sent_stops xs i x is a b c p q r u e t failed h k =
      sent_failed 0 xs i x is a b c p q r u e t failed h (rw (from_zero i) k)

  -- a failure in the comma before it
  pub comma_failed : (xs : List Y) (i : ℕ) (x : Y) → slice_get xs i ≡ Some x
      → (a b c : X) (p q r : List ℕ) (u : Unit) (e : SinkFault) (t : Result Unit SinkFault) → IsErr t
      → Sent taken may_fail a p (Ok u) b q (each_from f 0 (take i xs))
      → Sent taken may_fail b q (Err e) c r (comma_if (nat_lt 0 i))
      → Sent taken may_fail a p t c r (each_from f 0 xs)
  comma_failed xs i x is a b c p q r u e t failed h k =
      sent_stops xs i x is a b c p q r u e t failed h (sent_less taken may_fail b c q r r e (Err e) _ (f i x) refl k)

pub some_there : {Y : Type 0} (xs : List Y) (i : ℕ) → i < length xs → (y : Y) × (slice_get xs i ≡ Some y)
some_there [] i l = absurd (omega arith)
some_there (y ∷ ys) zero l = (y, refl)
some_there (y ∷ ys) (suc i) l = some_there ys i (omega arith)
