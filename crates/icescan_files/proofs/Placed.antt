-- The calls by which a disk has new files, as they follow one another.
use Rattle.std.proofs.Common.{◌≡◌, ◌⊎◌, ℕ, zero, suc, Bool, true, false, ◌||◌, List, [], ◌∷◌, ◌++◌, take, drop, Option}
use Rattle.std.proofs.Common.{Some, None}
use Rattle.std.proofs.Common.{inl, inr, refl, sym, ap, subst, ◌∙◌, append_assoc, lit<}
use Rattle.std.specs.Prelude.{Result, Ok, Err, IfErr, OnErr, OnOk, slice_get}
use Rattle.std.specs.List.{AllByRecursion, list_any}
use Rattle.std.specs.declared.io.Error.{Error}
use Rattle.std.specs.declared.io.ErrorKind.{ErrorKind}
use Rattle.std.specs.declared.io.ErrorKind.TheVariants.{AlreadyExists}
use Rattle.std.proofs.lemmas.List.{append-nil}
use Rattle.std.proofs.lemmas.List.Elements.{Contains-append_left, Contains-append_right}
use Rattle.std.proofs.lemmas.List.Folds.{list_any-append}
use Rattle.ice_catalog_changes.specs.NewFiles.{Added}
use Rattle.icescan_files.specs.Disks.{ArePlaced, Event, Extends, IsFolderKept, IsFolderLost, IsFolderOf, IsMade}
use Rattle.icescan_files.specs.Disks.{IsPlaced}
use Rattle.icescan_files.specs.Disks.{IsPlacedAt, IsPutAt, IsTaken, IsWholeAt, Names, NotLinked, NotMade, NotPlaced}
use Rattle.icescan_files.specs.Disks.{NotPlacedAt, NothingLinked, StopsPlacing, Tells, event_of, links}
use Rattle.icescan_files.specs.Disks.Call.{Compare, Create, Link, Remove}
use Rattle.icescan_files.specs.Disks.Event.{Done, Refused}
use Rattle.icescan_files.specs.declared.store.StoreFault.{StoreFault}
use Rattle.icescan_files.specs.declared.store.StoreFault.TheVariants as store

-- some calls, and then some
pub extends_then : (a b c : Option (List Event)) (P Q R : List Event → Type 0) → Extends a b P → Extends b c Q
    → ((m n : List Event) → P m → Q n → R (m ++ n)) → Extends a c R
extends_then None b c P Q R p q f = tt
extends_then (Some old) b c P Q R p q f =
    let rest : Extends (Some (old ++ p.0)) c Q = subst (λ x. Extends x c Q) p.1 q in
    (p.0 ++ rest.0, rest.1 ∙ ap Some (append_assoc old p.0 rest.0), f p.0 rest.0 p.2 rest.2)

pub extends_as : (a b : Option (List Event)) (P Q : List Event → Type 0) → Extends a b P
    → ((m : List Event) → P m → Q m) → Extends a b Q
extends_as None b P Q p f = tt
extends_as (Some old) b P Q p f = (p.0, p.1, f p.0 p.2)

-- no call
pub extends_by_none : (a : Option (List Event)) (P : List Event → Type 0) → P [] → Extends a a P
extends_by_none None P p = tt
extends_by_none (Some old) P p = ([], ap Some (sym (append-nil old)), p)

-- one call
pub extends_by : (a b : Option (List Event)) (event : Event) (P : List Event → Type 0) → Tells a b event
    → P (event ∷ []) → Extends a b P
extends_by None b event P told p = tt
extends_by (Some old) b event P told p = (event ∷ [], told, p)

-- ---- calls that give no name

pub nothing_then : (m n : List Event) → NothingLinked m → NothingLinked n → NothingLinked (m ++ n)
nothing_then m n h k =
    let P : Bool → Bool → Type 0 = λ a b. (a || b) ≡ false in
    list_any-append links m n ∙ subst (λ a. P a (list_any links n)) (sym h) k

pub tries_link_nothing : (tries : List Event) → AllByRecursion IsTaken tries → NothingLinked tries
tries_link_nothing [] h = refl
tries_link_nothing (e ∷ tries) h =
    let first : links e ≡ false = subst (λ e'. links e' ≡ false) (sym h.0.1) refl in
    subst (λ a. (a || list_any links tries) ≡ false) (sym first) (tries_link_nothing tries h.1)

pub taken_then : (m n : List Event) → AllByRecursion IsTaken m → AllByRecursion IsTaken n
    → AllByRecursion IsTaken (m ++ n)
taken_then [] n h k = k
taken_then (e ∷ m) n h k = (h.0, taken_then m n h.1 k)

-- ---- a file that is made, or not

pub not_made : (fault : StoreFault) (m : List Event) → (fault ≡ store.Failed) ⊎ (fault ≡ store.Memory)
    → NothingLinked m → NotMade fault m
not_made fault m (inl e) h = subst (λ f. NotMade f m) (sym e) h
not_made fault m (inr e) h = subst (λ f. NotMade f m) (sym e) h

pub not_linked : (aside name : List ℕ) (fault : StoreFault) (m : List Event)
    → (fault ≡ store.Failed) ⊎ (fault ≡ store.Memory) → NothingLinked m → NotLinked aside name fault m
not_linked aside name fault m (inl e) h = subst (λ f. NotLinked aside name f m) (sym e) h
not_linked aside name fault m (inr e) h = subst (λ f. NotLinked aside name f m) (sym e) h

-- the name of this file was free
pub made_after : (own : List ℕ → Type 0) (aside : List ℕ) (m n : List Event) → own aside → AllByRecursion IsTaken m
    → n ≡ Done (Create aside) ∷ [] → IsMade own aside (m ++ n)
made_after own aside m n is_own tries last =
    record { is_own = is_own; tries = m; were_taken = tries; in_order = ap (λ x. m ++ x) last }

-- a file that is not made gets no name
pub not_made_is_not_linked : (aside name : List ℕ) (fault : StoreFault) (m : List Event) → NotMade fault m
    → NotLinked aside name fault m
not_made_is_not_linked aside name store.There m h = absurd h
not_made_is_not_linked aside name store.Failed m h = h
not_made_is_not_linked aside name store.Memory m h = h

pub not_made_is_not_placed : (own : List ℕ → Type 0) (name bytes : List ℕ) (fault : StoreFault) (m : List Event)
    → NotMade fault m → NotPlaced own name bytes fault m
not_made_is_not_placed own name bytes store.There m h = absurd h
not_made_is_not_placed own name bytes store.Failed m h = inl h
not_made_is_not_placed own name bytes store.Memory m h = h

pub not_linked_after : (aside name : List ℕ) (fault : StoreFault) (m n : List Event) → NothingLinked m
    → NotLinked aside name fault n → NotLinked aside name fault (m ++ n)
not_linked_after aside name store.There m n h k = (nothing_then m n h k.0, Contains-append_right m n _ k.1)
not_linked_after aside name store.Failed m n h k = nothing_then m n h k
not_linked_after aside name store.Memory m n h k = nothing_then m n h k

pub not_linked_before : (aside name : List ℕ) (fault : StoreFault) (m n : List Event) → NotLinked aside name fault m
    → NothingLinked n → NotLinked aside name fault (m ++ n)
not_linked_before aside name store.There m n h k = (nothing_then m n h.0 k, Contains-append_left m n _ h.1)
not_linked_before aside name store.Failed m n h k = nothing_then m n h k
not_linked_before aside name store.Memory m n h k = nothing_then m n h k

made_links_nothing : (own : List ℕ → Type 0) (aside : List ℕ) (m : List Event) → IsMade own aside m → NothingLinked m
made_links_nothing own aside m h =
    subst NothingLinked (sym h.in_order) (nothing_then h.tries _ (tries_link_nothing h.tries h.were_taken) refl)

pub removing_links_nothing : {A : Type 0} (aside : List ℕ) (answer : Result A Error)
    → NothingLinked (event_of (Remove aside) answer ∷ [])
removing_links_nothing aside (Ok done) = refl
removing_links_nothing aside (Err e) = refl

-- a file that was made and did not get its name is not placed
pub made_not_placed : (own : List ℕ → Type 0) (aside name bytes : List ℕ) (fault : StoreFault) (m n : List Event)
    → IsMade own aside m → NotLinked aside name fault n → NotPlaced own name bytes fault (m ++ n)
made_not_placed own aside name bytes store.There m n made not =
    let all = not_linked_after aside name store.There m n (made_links_nothing own aside m made) not in
    (all.0, (aside, made.is_own, all.1))
made_not_placed own aside name bytes store.Failed m n made not =
    inl (not_linked_after aside name store.Failed m n (made_links_nothing own aside m made) not)
made_not_placed own aside name bytes store.Memory m n made not =
    not_linked_after aside name store.Memory m n (made_links_nothing own aside m made) not

-- the calls that put a file, as a disk tells them
pub extends_put : (a b c d e : Option (List Event)) (own : List ℕ → Type 0) (name bytes aside aside' folder : List ℕ)
    (removed : Result (Unit {0}) Error) (IsSynced : List ℕ → List Event → Type 0) → Extends a b (IsMade own aside)
    → Extends b c (IsWholeAt aside name bytes) → Tells c d (event_of (Remove aside') removed) → aside' ≡ aside
    → IsFolderOf name folder → Extends d e (IsSynced folder) → Extends a e (IsPutAt own name bytes IsSynced)
extends_put a b c d e own name bytes aside aside' folder removed IsSynced made whole told same is_folder synced =
    let told' : Tells c d (event_of (Remove aside) removed) =
    subst (λ x. Tells c d (event_of (Remove x) removed)) same told in
    let removes = extends_by c d _ (λ m. m ≡ event_of (Remove aside) removed ∷ []) told' refl in
    let IsLast : List Event → Type 0 =
    λ m. (sync : List Event) × IsSynced folder sync × (m ≡ event_of (Remove aside) removed ∷ sync) in
    let last : Extends c e IsLast =
    extends_then c d e _ _ _ removes synced (λ m n p q. (n, q, ap (λ x. x ++ n) p)) in
    let IsRest : List Event → Type 0 = λ m. (whole : List Event) × (sync : List Event)
    × IsWholeAt aside name bytes whole
    × IsSynced folder sync × (m ≡ whole ++ event_of (Remove aside) removed ∷ sync) in
    let rest : Extends b e IsRest =
    extends_then b c e _ _ _ whole last (λ m n p q. (m, q.0, p, q.1, ap (λ x. m ++ x) q.2)) in
    extends_then a b e _ _ _ made rest (λ m n p q. record {
      aside = aside;
      made = m;
      is_made = p;
      whole = q.0;
      is_whole = q.2;
      removed = removed;
      folder = folder;
      is_folder = is_folder;
      sync = q.1;
      is_synced = q.3;
      in_order = ap (λ x. m ++ x) q.4;
    })

-- the name is another file's
pub occupied : (aside name : List ℕ) (kind : ErrorKind) (same : Bool) → kind ≡ AlreadyExists → same ≡ false
    → NotLinked aside name store.There (Refused kind (Link aside name) ∷ Done (Compare aside name same) ∷ [])
occupied aside name kind same is other =
    let events : ErrorKind → Bool → List Event =
    λ k s. Refused k (Link aside name) ∷ Done (Compare aside name s) ∷ [] in
    let there : NotLinked aside name store.There (events AlreadyExists false) = (refl, (0, lit< tt, refl)) in
    subst (λ k. NotLinked aside name store.There (events k same)) (sym is)
    (subst (λ s. NotLinked aside name store.There (events AlreadyExists s)) (sym other) there)

-- ---- outcomes

-- where the folder's sync failed, that is told
pub failed_with : {T : Type 0} (r : Result T StoreFault) (P : Type 0) (Q : StoreFault → Type 0)
    → IfErr r (λ fault. fault ≡ store.Failed) → OnErr r P → (P → Q store.Failed) → IfErr r Q
failed_with (Ok x) P Q is p f = tt
failed_with (Err fault) P Q is p f = subst Q (sym is) (f p)

pub done_with : {T E : Type 0} (r : Result T E) (P Q : Type 0) → OnOk r P → (P → Q) → OnOk r Q
done_with (Ok x) P Q p f = f p
done_with (Err fault) P Q p f = tt

pub refused_with : {T E : Type 0} (r : Result T E) (P Q : E → Type 0) → IfErr r P → ((fault : E) → P fault → Q fault)
    → IfErr r Q
refused_with (Ok x) P Q p f = tt
refused_with (Err fault) P Q p f = f fault p

-- ---- names of one's own

module _ (own named : List ℕ → Type 0) (is : (aside : List ℕ) → own aside → named aside) where
  pub put_as : (name bytes : List ℕ) (IsSynced : List ℕ → List Event → Type 0) (m : List Event)
      → IsPutAt own name bytes IsSynced m → IsPutAt named name bytes IsSynced m
  put_as name bytes IsSynced m p =
      record {
        aside = p.aside;
        made = p.made;
        is_made = record {
          is_own = is p.aside p.is_made.is_own;
          tries = p.is_made.tries;
          were_taken = p.is_made.were_taken;
          in_order = p.is_made.in_order;
        };
        whole = p.whole;
        is_whole = p.is_whole;
        removed = p.removed;
        folder = p.folder;
        is_folder = p.is_folder;
        sync = p.sync;
        is_synced = p.is_synced;
        in_order = p.in_order;
      }

  pub not_placed_as : (name bytes : List ℕ) (fault : StoreFault) (m : List Event) → NotPlaced own name bytes fault m
      → NotPlaced named name bytes fault m
  not_placed_as name bytes store.There m p = (p.0, (p.1.0, is p.1.0 p.1.1, p.1.2))
  not_placed_as name bytes store.Failed m (inl p) = inl p
  not_placed_as name bytes store.Failed m (inr p) = inr (put_as name bytes IsFolderLost m p)
  not_placed_as name bytes store.Memory m p = p

-- ---- several files

module _ (names : Names) where
  -- one more
  pub placed_last : (added : Added) (f : List ℕ × List ℕ) (m n : List Event) → ArePlaced names added m
      → IsPlacedAt names f.0 f.1 n → ArePlaced names (added ++ f ∷ []) (m ++ n)
  placed_last [] f m n p q = (n, [], q, refl, ap (λ x. x ++ n) p ∙ sym (append-nil n))
  placed_last (g ∷ added) f m n p q =
      let both = p.1 ++ n in
      (p.0, both, p.2, placed_last added f p.1 n p.3 q, ap (λ x. x ++ n) p.4 ∙ append_assoc p.0 p.1 n)

  -- one more, which is not placed
  pub stops_next : (added : Added) (f : List ℕ × List ℕ) (more : Added) (fault : StoreFault) (m n : List Event)
      → ArePlaced names added m → NotPlacedAt names f.0 f.1 fault n
      → StopsPlacing names (added ++ f ∷ more) fault (m ++ n)
  stops_next [] f more fault m n p q = inl (subst (λ x. NotPlacedAt names f.0 f.1 fault (x ++ n)) (sym p) q)
  stops_next (g ∷ added) f more fault m n p q =
      let both = p.1 ++ n in
      let all = ap (λ x. x ++ n) p.4 ∙ append_assoc p.0 p.1 n in
      inr (p.0, both, p.2, stops_next added f more fault p.1 n p.3 q, all)

  -- more files, for which nothing is done
  pub stops_before : (added more : Added) (fault : StoreFault) (m : List Event) → StopsPlacing names added fault m
      → StopsPlacing names (added ++ more) fault m
  stops_before [] more fault m h = absurd h
  stops_before (f ∷ added) more fault m (inl h) = inl h
  stops_before (f ∷ added) more fault m (inr h) =
      inr (h.0, h.1, h.2, stops_before added more fault h.1 h.3, h.4)

-- the same by other names
module _ (names names' : Names)
    (is : (path name aside : List ℕ) → names' path name aside → names path name aside) where
  pub placed_at_as : (path bytes : List ℕ) (m : List Event) → IsPlacedAt names' path bytes m
      → IsPlacedAt names path bytes m
  placed_at_as path bytes m h =
      (h.0, put_as (names' path h.0) (names path h.0) (is path h.0) h.0 bytes IsFolderKept m h.1)

  pub not_placed_at_as : (path bytes : List ℕ) (fault : StoreFault) (m : List Event)
      → NotPlacedAt names' path bytes fault m → NotPlacedAt names path bytes fault m
  not_placed_at_as path bytes fault m h =
      (h.0, not_placed_as (names' path h.0) (names path h.0) (is path h.0) h.0 bytes fault m h.1)

-- a file, those before it and those after it
pub parted : (added : Added) (n : ℕ) (f : List ℕ × List ℕ) → slice_get added n ≡ Some f
    → (rest : Added) × (take n added ++ f ∷ rest ≡ added)
parted [] n f at = absurd cc
parted (g ∷ added) zero f at = let same : g ≡ f = cc in (added, ap (λ x. x ∷ added) (sym same))
parted (g ∷ added) (suc n) f at = let r = parted added n f at in (r.0, ap (λ l. g ∷ l) r.1)

-- none of them was placed, and nothing was done
pub stops_at_once : (names : Names) (added : Added) (f : List ℕ × List ℕ)
    → StopsPlacing names (added ++ f ∷ []) store.Failed []
stops_at_once names [] f = inl ([], inl refl)
stops_at_once names (g ∷ added) f = inl ([], inl refl)
