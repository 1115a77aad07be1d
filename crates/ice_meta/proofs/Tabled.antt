-- A commit, in words of tables.
use Rattle.std.proofs.Common.{◌≡◌, ◌≢◌, ℕ, Bool, true, false, List, [], ◌∷◌, ◌++◌, codes, None, Some, Ok, Ordering}
use Rattle.std.proofs.Common.{Less, Equal, Greater, refl, sym, ap, ◌∙◌, true≢false, bytes_eq}
use Rattle.std.specs.Prelude.{ℤ, find, option_map, if◌then◌else◌}
use Rattle.std.specs.Ordering.{nat_cmp, is_eq, int_eq, match_ordering}
use Rattle.std.specs.Cmp.Lexicographic.{slice_cmp}
use Rattle.std.proofs.lemmas.Map.Text.{is_eq-slice_cmp}
use Rattle.std.proofs.lemmas.Bool.Decides.{Decides-int_eq}
use Rattle.std.proofs.lemmas.Slice.Eq.{bytes_eq-Decides}
use Rattle.contract_words.specs.Outcome.{◌>>=◌}
use Rattle.ice_meta.specs.declared.commit.NewSnapshot.{NewSnapshot}
use Rattle.ice_meta.specs.declared.fault.MetaFault.TheVariants.{NoSuchRef, NoSuchSnapshot}
use Rattle.ice_meta.specs.declared.snapshot.Ref.{Ref}
use Rattle.ice_meta.specs.declared.snapshot.Snapshot.{Snapshot}
use Rattle.ice_meta.specs.declared.table.Table.{Table}
use Rattle.ice_meta.specs.Members.{asked}
use Rattle.ice_meta.specs.Targets.{snapshot_with, named_id, checked_id, resolved}
use Rattle.ice_meta.specs.Committing.{new_snapshot, main_at, placed, next_table}
use Rattle.ice_meta.specs.Laws.{HasTheNew, MakesItCurrent, MovesMain, KeepsOtherSnapshots, KeepsOtherRefs}
use Rattle.ice_meta.specs.Laws.{KeepsOtherTargets, KeepsHistory}
use Rattle.ice_meta.proofs.Following.{take, asked_is}

same_id : (z : ℤ) → int_eq z z ≡ true
same_id z = (Decides-int_eq z z).1 refl

other_id : (y z : ℤ) → z ≢ y → int_eq y z ≡ false
other_id y z other = here (int_eq y z) refl
  where
    here : (b : Bool) → int_eq y z ≡ b → b ≡ false
    here true is = absurd (other (sym ((Decides-int_eq y z).0 is)))
    here false is = refl

-- ---- snapshots

at_the_end : {A : Type 0} (p : A → Bool) (xs : List A) (y : A) → p y ≡ true → find p xs ≡ None
    → find p (xs ++ y ∷ []) ≡ Some y
at_the_end p [] y is none = rw is refl
at_the_end p (x ∷ xs) y is none = here (p x) refl (at_the_end p xs y is)
  where
    here : (b : Bool) → p x ≡ b → (find p xs ≡ None → find p (xs ++ y ∷ []) ≡ Some y)
        → (if p x then Some x else find p (xs ++ y ∷ [])) ≡ Some y
    here true e later = let some : Some x ≡ None = rw e at none in absurd cc
    here false e later = rw e (later (rw e at none))

not_the_end : {A : Type 0} (p : A → Bool) (xs : List A) (y : A) → p y ≡ false → find p (xs ++ y ∷ []) ≡ find p xs
not_the_end p [] y is = rw is refl
not_the_end p (x ∷ xs) y is = ap (λ o. if p x then Some x else o) (not_the_end p xs y is)

still : {A : Type 0} (p : A → Bool) (xs : List A) (x y : A) → find p xs ≡ Some x → find p (xs ++ y ∷ []) ≡ Some x
still p [] x y e = absurd cc
still p (z ∷ xs) x y e = here (p z) refl (still p xs x y)
  where
    here : (b : Bool) → p z ≡ b → (find p xs ≡ Some x → find p (xs ++ y ∷ []) ≡ Some x)
        → (if p z then Some z else find p (xs ++ y ∷ [])) ≡ Some x
    here true b later = let is : Some z ≡ Some x = rw b at e in rw b is
    here false b later = rw b (later (rw b at e))

pub new_is_there : HasTheNew
new_is_there t s can = at_the_end (λ (x : Snapshot). int_eq x.id s.id) t.snapshots (new_snapshot t s) (same_id s.id)
    can.id_is_new

pub new_is_current : MakesItCurrent
unfolding resolved
new_is_current t s can = rw (new_is_there t s can) refl

pub others_stay : KeepsOtherSnapshots
others_stay t s id other = not_the_end (λ (x : Snapshot). int_eq x.id id) t.snapshots (new_snapshot t s)
    (other_id s.id id other)

checked_still : (t : Table) (s : NewSnapshot) (id z : ℤ) → checked_id id t ≡ Ok z
    → checked_id id (next_table t s) ≡ Ok z
checked_still t s id z e =
    take _ (asked NoSuchSnapshot (snapshot_with id t)) _ z e (λ x was e1.
    let is : snapshot_with id (next_table t s) ≡ Some x = still (λ (y : Snapshot). int_eq y.id id) t.snapshots x
    (new_snapshot t s) (asked_is NoSuchSnapshot (snapshot_with id t) x was) in
    rw is e1)

pub history_stays : KeepsHistory
unfolding resolved
history_stays t s id e = checked_still t s id id e

-- ---- refs

turned : (a b : List ℕ) → bytes_eq a b ≡ false → bytes_eq b a ≡ false
turned a b e = here (bytes_eq b a) refl
  where
    here : (c : Bool) → bytes_eq b a ≡ c → c ≡ false
    here true is = absurd (true≢false (sym ((bytes_eq-Decides a b).1 (sym ((bytes_eq-Decides b a).0 is))) ∙ e))
    here false is = refl

differ : (a b : List ℕ) → (a ≢ b) → bytes_eq a b ≡ false
differ a b other = here (bytes_eq a b) refl
  where
    here : (c : Bool) → bytes_eq a b ≡ c → c ≡ false
    here true is = absurd (other ((bytes_eq-Decides a b).0 is))
    here false is = refl

placed_there : (r : Ref) (rs : List Ref) → find (λ (q : Ref). bytes_eq q.name r.name) (placed r rs) ≡ Some r
placed_there r [] = rw ((bytes_eq-Decides r.name r.name).1 refl) refl
placed_there r (q ∷ qs) = here (slice_cmp nat_cmp r.name q.name) refl (placed_there r qs)
  where
    self : bytes_eq r.name r.name ≡ true
    self = (bytes_eq-Decides r.name r.name).1 refl

    here : (o : Ordering) → slice_cmp nat_cmp r.name q.name ≡ o
        → find (λ (x : Ref). bytes_eq x.name r.name) (placed r qs) ≡ Some r
        → find (λ (x : Ref). bytes_eq x.name r.name) (match_ordering (slice_cmp nat_cmp r.name q.name) (r ∷ q ∷ qs)
        (r ∷ qs) (q ∷ placed r qs)) ≡ Some r
    here Less cmp later = rw (cmp, self) refl
    here Equal cmp later = rw (cmp, self) refl
    here Greater cmp later =
        let other : bytes_eq q.name r.name ≡ false = turned r.name q.name (sym (is_eq-slice_cmp r.name q.name) ∙ ap
        is_eq cmp) in
        rw (cmp, other) later

placed_other : (r : Ref) (name : List ℕ) → bytes_eq r.name name ≡ false → (rs : List Ref)
    → find (λ (q : Ref). bytes_eq q.name name) (placed r rs) ≡ find (λ (q : Ref). bytes_eq q.name name) rs
placed_other r name other [] = rw other refl
placed_other r name other (q ∷ qs) = here (slice_cmp nat_cmp r.name q.name) refl (placed_other r name other qs)
  where
    here : (o : Ordering) → slice_cmp nat_cmp r.name q.name ≡ o → find (λ (x : Ref). bytes_eq x.name name) (placed r qs)
        ≡ find (λ (x : Ref). bytes_eq x.name name) qs
        → find (λ (x : Ref). bytes_eq x.name name) (match_ordering (slice_cmp nat_cmp r.name q.name) (r ∷ q ∷ qs)
        (r ∷ qs) (q ∷ placed r qs)) ≡ find (λ (x : Ref). bytes_eq x.name name) (q ∷ qs)
    here Less cmp later = rw (cmp, other) refl
    here Equal cmp later =
        let same : r.name ≡ q.name = (bytes_eq-Decides r.name q.name).0 (sym (is_eq-slice_cmp r.name q.name) ∙ ap is_eq
        cmp) in
        let gone : bytes_eq q.name name ≡ false = ap (λ n. bytes_eq n name) (sym same) ∙ other in
        rw (cmp, other, gone) refl
    here Greater cmp later = rw cmp (ap (λ o. if bytes_eq q.name name then Some q else o) later)

pub main_moves : MovesMain
main_moves t s = placed_there (main_at s) t.refs

pub other_refs_stay : KeepsOtherRefs
other_refs_stay t s name other = placed_other (main_at s) name (differ (codes "main") name (λ same. other (sym same)))
    t.refs

pub other_targets_stay : KeepsOtherTargets
unfolding resolved
other_targets_stay t s name id other e = rw (differ name (codes "main") other)
    (moved (rw (differ name (codes "main") other) at e))
  where
    moved : (named_id name t >>= λ x. checked_id x t) ≡ Ok id
        → (named_id name (next_table t s) >>= λ x. checked_id x (next_table t s)) ≡ Ok id
    moved was = take _ (named_id name t) _ id was (λ x is e1.
        let same : named_id name (next_table t s) ≡ Ok x =
        ap (λ o. asked NoSuchRef (option_map (λ (r : Ref). r.snapshot_id) o)) (other_refs_stay t s name other) ∙
        is in
        rw same (checked_still t s x id e1))
