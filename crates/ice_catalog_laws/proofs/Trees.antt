-- Trees of takes and merges, played by workers of a scan.
use Rattle.std.proofs.Common.{◌≡◌, ◌⊎◌, inl, inr, ℕ, zero, suc, ◌+◌, true, List, [], ◌∷◌, ◌++◌}
use Rattle.std.proofs.Common.{refl, sym, ◌∙◌, ap, subst, arith, Some}
use Rattle.std.specs.Prelude.{◌<◌, ◌≤◌, slice_get, slice_set}
use Rattle.std.specs.List.{AllByRecursion}
use Rattle.std.proofs.lemmas.List.{set-set}
use Rattle.ice_catalog.specs.Machines.{Machine, PinnedScan, event, machine_after, replies_to, world_of}
use Rattle.ice_catalog.specs.declared.event.Event.{Event}
use Rattle.ice_catalog.specs.declared.event.Event.TheVariants as on
use Rattle.ice_catalog.specs.declared.event.Reply.{Reply}
use Rattle.ice_state.specs.Contents.{Content, took}
use Rattle.ice_state.specs.Joins.{join}
use Rattle.ice_state.specs.Runs.{Run, empty, take, merge, IsIn, after}
use Rattle.ice_state.specs.Scans.{Scanned}
use Rattle.ice_catalog_versions.specs.Histories.{History}
use Rattle.ice_catalog_laws.proofs.Squares.{merge_state, merged_where, set_same, take_state, taken_where}
use Rattle.ice_catalog_laws.proofs.Turns.{get_here, manifest}
use Rattle.ice_catalog_laws.specs.Playing.{AreFresh, IsPlayed, events_of, is_done, states}
use Rattle.ice_catalog_laws.specs.Workers.{HasManifest, HasState, IsPut, nothing_taken, states_of}

pub get_apart : {A : Type 0} (i j : ℕ) (xs : List A) (x : A) → (i ≡ j → ⊥)
    → slice_get (slice_set xs i x) j ≡ slice_get xs j
get_apart zero j [] x n = refl
get_apart (suc i) j [] x n = refl
get_apart zero zero (z ∷ zs) x n = absurd (n refl)
get_apart zero (suc j) (z ∷ zs) x n = refl
get_apart (suc i) zero (z ∷ zs) x n = refl
get_apart (suc i) (suc j) (z ∷ zs) x n = get_apart i j zs x (λ e. n (ap suc e))

-- ---- events one behind the other

pub after_on : (m : Machine) (es fs : List Event) → machine_after m (es ++ fs) ≡ machine_after (machine_after m es) fs
after_on m [] fs = refl
after_on m (e ∷ es) fs = after_on (event m e).1 es fs

replies_on : (P : Reply → Type 0) (m : Machine) (es fs : List Event) → AllByRecursion P (replies_to m es)
    → AllByRecursion P (replies_to (machine_after m es) fs) → AllByRecursion P (replies_to m (es ++ fs))
replies_on P m [] fs all more = more
replies_on P m (e ∷ es) fs all more = (all.0, replies_on P (event m e).1 es fs all.1 more)

-- ---- one thing changed after the other

pub some_state : (run : Run) → 0 < states run
some_state empty = omega arith
some_state (take run i bytes) = some_state run
some_state (merge run other) = let a = some_state run in omega (arith, a)

module _ (k : ℕ) where
  played_none : (m : Machine) (w : ℕ) (p : PinnedScan) (c : Content) → HasState m k w p c → IsPlayed m m k w 1 p c
  played_none m w p c has = record {
    now = p;
    newest = refl;
    pins = sym (set_same k m.pins (Some p) has.pinned);
    version = refl;
    scan = refl;
    state = has.state;
    others = λ v o. refl;
  }

  has_played : (m n : Machine) (w s : ℕ) (p : PinnedScan) (c : Content) → slice_get m.pins k ≡ Some (Some p)
      → (played : IsPlayed m n k w s p c) → HasState n k w played.now c
  has_played m n w s p c at played = record {
    pinned = ap (λ ps. slice_get ps k) played.pins ∙ get_here k m.pins (Some played.now) (Some p) at;
    state = played.state;
  }

  pub apart : (v w s : ℕ) → 0 < s → (v < w) ⊎ (w + s ≤ v) → w ≡ v → ⊥
  apart v w s some (inl less) same = omega (arith, less, same)
  apart v w s some (inr more) same = omega (arith, some, more, same)

  played_put : (m n o : Machine) (w s : ℕ) (p : PinnedScan) (c d : Content) → 0 < s
      → (played : IsPlayed m n k w s p c) → IsPut n o k w played.now d → IsPlayed m o k w s p d
  played_put m n o w s p c d some played put = record {
    now = put.now;
    newest = put.newest ∙ played.newest;
    pins = put.pins ∙ (ap (λ ps. slice_set ps k (Some put.now)) played.pins ∙ set-set m.pins k (Some played.now)
        (Some put.now));
    version = put.version ∙ played.version;
    scan = put.scan ∙ played.scan;
    state = ap (λ ss. slice_get ss w) put.states ∙ get_here w (states_of played.now) d c played.state;
    others = λ v away. ap (λ ss. slice_get ss v) put.states ∙ (get_apart w v (states_of played.now) d
        (apart v w s some away) ∙ played.others v away);
  }

  pub first_away : (v w s t : ℕ) → (v < w) ⊎ (w + (s + t) ≤ v) → (v < w) ⊎ (w + s ≤ v)
  first_away v w s t (inl less) = inl less
  first_away v w s t (inr more) = inr (omega (arith, more))

  pub then_away : (v w s t : ℕ) → (v < w) ⊎ (w + (s + t) ≤ v) → (v < w + s) ⊎ (w + s + t ≤ v)
  then_away v w s t (inl less) = inl (omega (arith, less))
  then_away v w s t (inr more) = inr (omega (arith, more))

  -- one tree after the other, on the states behind
  abbrev played_on : (m n o : Machine) (w s t : ℕ) (p : PinnedScan) (c d : Content) → 0 < s
      → (first : IsPlayed m n k w s p c) → IsPlayed n o k (w + s) t first.now d → IsPlayed m o k w (s + t) p c
  played_on m n o w s t p c d some first then = record {
    now = then.now;
    newest = then.newest ∙ first.newest;
    pins = then.pins ∙ (ap (λ ps. slice_set ps k (Some then.now)) first.pins ∙ set-set m.pins k (Some first.now)
        (Some then.now));
    version = then.version ∙ first.version;
    scan = then.scan ∙ first.scan;
    state = then.others w (inl (omega (arith, some))) ∙ first.state;
    others = λ v away. then.others v (then_away v w s t away) ∙ first.others v (first_away v w s t away);
  }

-- ---- trees

abbrev IsDone : Reply → Type 0
IsDone r = is_done r ≡ true

module _ (h : History) (scan : Scanned) (k : ℕ) where
  abbrev Plays : Machine → ℕ → PinnedScan → Run → Type 0
  Plays m w p run = AllByRecursion IsDone (replies_to m (events_of k w run)) × IsPlayed m
      (machine_after m (events_of k w run)) k w (states run) p (after scan run)

  pub plays_tree : (run : Run) (m : Machine) (w : ℕ) (p : PinnedScan) → slice_get m.pins k ≡ Some (Some p)
      → p.history ≡ h → p.scan ≡ scan → AreFresh p w (states run) → IsIn (world_of h) scan run → Plays m w p run
  plays_tree empty m w p at version same fresh there =
      let state = fresh w (omega arith) (omega arith) ∙ ap (λ s. Some (nothing_taken s)) same in
      (tt, played_none k m w p (nothing_taken scan) (record { pinned = at; state = state }))
  plays_tree (take run i bytes) m w p at version same fresh there =
      let es = events_of k w run in
      let n = machine_after m es in
      let first = plays_tree run m w p at version same fresh there.0 in
      let played = first.1 in
      let q = played.now in
      let c = after scan run in
      let has = has_played k m n w (states run) p c at played in
      let own : HasManifest q i bytes = manifest h scan k w q i bytes (played.version ∙ version) (played.scan ∙ same)
      there.1 in
      let e = on.Take k w i in
      let put : IsPut n (event n e).1 k w q (took scan c i bytes) = subst (λ (s : Scanned). IsPut n (event n e).1 k w q
      (took s c i bytes)) (played.scan ∙ same) (take_state n k w i q c bytes has own) in
      let done : IsDone (event n e).0 = ap is_done ((taken_where n k w i).1 (q, c, bytes, has, own)) in (
        replies_on IsDone m es (e ∷ []) first.0 (done, tt),
        subst (λ (o : Machine). IsPlayed m o k w (states run) p (took scan c i bytes)) (sym (after_on m es (e ∷ [])))
            (played_put k m n (event n e).1 w (states run) p c (took scan c i bytes) (some_state run) played put),
      )
  plays_tree (merge run other) m w p at version same fresh there =
      let s = states run in
      let t = states other in
      let es = events_of k w run in
      let fs = events_of k (w + s) other in
      let n = machine_after m es in
      let o = machine_after n fs in
      let c = after scan run in
      let d = after scan other in
      let first = plays_tree run m w p at version same (λ v least less. fresh v least (omega (arith, less))) there.0 in
      let q = first.1.now in
      let has = has_played k m n w s p c at first.1 in
      let alike : q.scan ≡ p.scan = first.1.scan in
      let then = plays_tree other n (w + s) q has.pinned (first.1.version ∙ version) (alike ∙ same)
      (λ v least less. first.1.others v (inr least) ∙ (fresh v (omega (arith, least)) (omega (arith, less)) ∙ ap
      (λ x. Some (nothing_taken x)) (sym alike))) there.1 in
      let both = played_on k m n o w s t p c d (some_state run) first.1 then.1 in
      let left : HasState o k w then.1.now c = has_played k m o w (s + t) p c at both in
      let right : HasState o k (w + s) then.1.now d = has_played k n o (w + s) t q d has.pinned then.1 in
      let e = on.Merge k w (w + s) in
      let r = then.1.now in
      let put : IsPut o (event o e).1 k w r (join c d) = merge_state o k w (w + s) r c d left right in
      let done : IsDone (event o e).0 = ap is_done ((merged_where o k w (w + s)).1 (r, c, d, left, right)) in
      let some : 0 < s + t = let a = some_state run in omega (arith, a) in
      let last = played_put k m o (event o e).1 w (s + t) p c (join c d) some both put in
      let same_end : machine_after m (es ++ (fs ++ e ∷ [])) ≡ (event o e).1 = after_on m es (fs ++ e ∷ []) ∙ after_on n
      fs (e ∷ []) in (
        replies_on IsDone m es (fs ++ e ∷ []) first.0 (replies_on IsDone n fs (e ∷ []) then.0 (done, tt)),
        subst (λ (x : Machine). IsPlayed m x k w (s + t) p (join c d)) (sym same_end) last,
      )
