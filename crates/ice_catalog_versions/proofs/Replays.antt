-- One more commit, and one commit less.
use Rattle.std.proofs.Common.{◌≡◌, ℕ, true, ◌-◌, List, [], ◌∷◌, ◌++◌, length, take, refl, sym, ◌∙◌, ap, arith}
use Rattle.std.proofs.Common.{length-append, map}
use Rattle.std.proofs.lemmas.List.{length-map}
use Rattle.std.specs.List.{take-map}
use Rattle.std.specs.Prelude.{Option, Some, None, Ok, Err, ◌↔◌}
use Rattle.std.specs.Option.{option_map, is_some}
use Rattle.std.specs.Result.{result_ok}
use Rattle.std.proofs.Math.Seq.{take-append_seam}
use Rattle.contract_words.specs.Outcome.{◌>>=◌}
use Rattle.ice_meta.specs.Targets.{Described}
use Rattle.ice_catalog_changes.specs.declared.change.Commit.{Commit}
use Rattle.ice_catalog_changes.specs.declared.fault.PrepareFault.{PrepareFault}
use Rattle.ice_catalog_versions.specs.declared.opening.Opening.{Opening}
use Rattle.ice_catalog_versions.specs.Adding.{added, next}
use Rattle.ice_catalog_versions.specs.Applying.{apply, unless}
use Rattle.ice_catalog_versions.specs.Histories.{History, Step, openable, start, step, replay, state_of, after, before}
use Rattle.ice_catalog_versions.specs.Histories.{prepared_on, prepared_from, added_on}
use Rattle.ice_catalog_versions.specs.Refusals.{refusal}
use Rattle.ice_catalog_versions.specs.Replaying.{IsInParts, HasEarlier}
use Rattle.ice_catalog_versions.specs.States.{State}

pub replay_last : (s : Option State) (cs : List Commit) (c : Commit) → replay s (cs ++ c ∷ []) ≡ step (replay s cs) c
replay_last s [] c = refl
replay_last s (x ∷ cs) c = replay_last (step s x) cs c

pub in_parts : IsInParts
in_parts s [] ds = refl
in_parts s (c ∷ cs) ds = in_parts (step s c) cs ds

-- one more commit is one more step
pub state_after : (h : History) (c : Commit) → state_of (after h c) ≡ step (state_of h) c
unfolding state_of
state_after h c = replay_last (start h.opening) h.journal c

has_before : (s : Option State) (c : Commit) → is_some (step s c) ≡ true → is_some s ≡ true
has_before None c e = e
has_before (Some s) c e = refl

pub has_earlier : HasEarlier
has_earlier h c e = has_before (state_of h) c (rw (state_after h c) at e)

pub front : (cs : List Commit) (c : Commit) → take (length (cs ++ c ∷ []) - 1) (cs ++ c ∷ []) ≡ cs
front cs c =
    let n : length (cs ++ c ∷ []) - 1 ≡ length cs = omega (arith, length-append cs (c ∷ [])) in
    ap (λ k. take k (cs ++ c ∷ [])) n ∙ take-append_seam cs (c ∷ [])

-- the base of one more commit is what it was made on
pub before_after : (h : History) (c : Commit) → before (after h c) ≡ h
before_after h c = λ i. record { opening = h.opening; journal = front h.journal c i }

-- a version with no commits is in the state in which it was opened
pub state_at_start : (o : Opening) (m : Described) → openable o.bytes ≡ Ok m
    → state_of (record { opening = o; journal = [] }) ≡ Some (record { metadata = m; world = o.world })
unfolding state_of
state_at_start o m is = ap (λ r. option_map (λ (m : Described). let s : State = record {
  metadata = m;
  world = o.world;
} in s) (result_ok r)) is

module _ (h : History) (s : State) (is : state_of h ≡ Some s) (c : Commit) where
  -- a commit that is not refused leaves the next state
  pub step_done : refusal s c ≡ None → step (state_of h) c ≡ Some (next s c)
  unfolding apply
  step_done none = ap (λ o. step o c) is ∙ ap (λ r. result_ok (unless r (next s c))) none

  pub prepared_done : refusal s c ≡ None → prepared_on h c ≡ Ok (record { base = h; commit = c })
  unfolding apply
  prepared_done none = ap (λ o. prepared_from o h c) is ∙ ap (λ r. unless r (next s c) >>= λ (_ : State). let p : Step =
      record { base = h; commit = c } in Ok p) none

  pub prepared_refused : (f : PrepareFault) → refusal s c ≡ Some f → prepared_on h c ≡ Err f
  unfolding apply
  prepared_refused f some = ap (λ o. prepared_from o h c) is ∙ ap (λ r. unless r (next s c) >>= λ (_ : State). let p :
      Step = record { base = h; commit = c } in Ok p) some

  pub added_done : added_on h c ≡ Some (added s c)
  added_done = ap (option_map (λ (s : State). added s c)) is

-- what is prepared was not refused
not_refused : (h : History) (s : State) (is : state_of h ≡ Some s) (c : Commit) (p : Step) (r : Option PrepareFault)
    → refusal s c ≡ r → prepared_on h c ≡ Ok p → r ≡ None
not_refused h s is c p None e prepared = refl
not_refused h s is c p (Some f) e prepared = let both : Err f ≡ Ok p = sym (prepared_refused h s is c f e) ∙ prepared in
    cc

pub accepted : (h : History) (s : State) (is : state_of h ≡ Some s) (c : Commit) (p : Step) → prepared_on h c ≡ Ok p
    → refusal s c ≡ None
accepted h s is c p prepared = not_refused h s is c p (refusal s c) refl prepared

-- a journal as the code compares it: the items are seen by v, and the last of the later ones is left out
pub is_base : {A : Type 0} (v : A → Commit) (o p : Opening) (xs ys : List A) (k : ℕ) → k ≡ length ys - 1 → o ≡ p
    → (map v xs ≡ map v (take k ys)) ↔ (◌≡◌ {A = History} (record { opening = o; journal = map v xs })
    (before (record { opening = p; journal = map v ys })))
is_base v o p xs ys k n same =
    let j : take (length (map v ys) - 1) (map v ys) ≡ map v (take k ys) =
    ap (λ m. take m (map v ys)) (ap (λ m. m - 1) (length-map ys v) ∙ sym n) ∙ take-map v k ys in
    (λ e i. record { opening = same i; journal = (e ∙ sym j) i }, λ e. ap (λ h. h.journal) e ∙ j)
