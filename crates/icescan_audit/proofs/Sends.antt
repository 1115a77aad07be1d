-- Nothing that is sent, and lines of lists.
use Rattle.std.proofs.Common.{◌≡◌, ◌<◌, ◌+◌, ℕ, zero, suc, List, [], ◌∷◌, ◌++◌, length, take, drop, get_or, Option, Some}
use Rattle.std.proofs.Common.{Ok, refl, arith, add-one}
use Rattle.std.specs.Prelude.{slice_get}
use Rattle.std.specs.List.{flat_map}
use Rattle.icescan_print.specs.Written.{Sent}
use Rattle.icescan_print.proofs.Sends.{flat_cut, flat_next, sent_none}

pub nothing_sent : {X : Type 0} (taken : X → Option (List ℕ)) (may_fail : X → Type 0) (sink : X) (waits : List ℕ)
    (u : Unit {0}) → Sent taken may_fail sink waits (Ok u) sink waits []
nothing_sent taken may_fail sink waits u = sent_none taken may_fail sink waits u

stands_in : {X : Type 0} (xs : List X) (i : ℕ) (d : X) → i < length xs → slice_get xs i ≡ Some (get_or xs i d)
stands_in [] i d l = absurd (omega arith)
stands_in (x ∷ xs) zero d l = refl
stands_in (x ∷ xs) (suc i) d l = stands_in xs i d (omega arith)

-- the texts of one more, and of all, cut at one of them
pub next_at : {X : Type 0} (f : X → List ℕ) (xs : List X) (i : ℕ) (d : X) → i < length xs
    → flat_map f (take (i + 1) xs) ≡ flat_map f (take i xs) ++ f (get_or xs i d)
next_at f xs i d l = rw add-one (flat_next f xs i (get_or xs i d) (stands_in xs i d l))

pub cut_at : {X : Type 0} (f : X → List ℕ) (xs : List X) (i : ℕ) (d : X) → i < length xs
    → flat_map f xs ≡ flat_map f (take i xs) ++ (f (get_or xs i d) ++ flat_map f (drop (suc i) xs))
cut_at f xs i d l = flat_cut f xs i (get_or xs i d) (stands_in xs i d l)
