-- Trees of takes and merges, and the sets of the rows that workers have.
use Rattle.std.proofs.Common.{◌≡◌, ◌⊎◌, inl, inr, ℕ, zero, suc, ◌+◌, Bool, true, false, List, [], ◌∷◌, ◌++◌, length}
use Rattle.std.proofs.Common.{refl, replicate, sym, ◌∙◌, ap, subst, arith, get_or, Some}
use Rattle.std.specs.Prelude.{◌<◌, ◌≤◌, slice_get, slice_set}
use Rattle.std.proofs.lemmas.List.{ext_get_or, length-replicate, set-set}
use Rattle.ice_catalog.proofs.Steps.{merges, takes}
use Rattle.ice_catalog.specs.Apart.{TookEvery}
use Rattle.ice_catalog.specs.Machines.{Machine, PinnedScan, event, machine_after, merge as merge_step}
use Rattle.ice_catalog.specs.Machines.{take as take_step, with_worker, world_of}
use Rattle.ice_catalog.specs.declared.event.Event.TheVariants as on
use Rattle.ice_catalog.specs.declared.event.Reply.{Reply}
use Rattle.ice_catalog.specs.declared.event.Reply.TheVariants as reply
use Rattle.ice_state.proofs.Runs.{length-taken, taken-at}
use Rattle.ice_state.specs.Contents.{add, every_row, no_row}
use Rattle.ice_state.specs.Joins.{either}
use Rattle.ice_state.specs.Runs.{Run, empty, take, merge, IsIn, taken}
use Rattle.ice_state.specs.Scans.{Scanned}
use Rattle.ice_catalog_versions.specs.Histories.{History}
use Rattle.ice_catalog_laws.proofs.Squares.{row_of, set_same, steps, with_pin}
use Rattle.ice_catalog_laws.proofs.Trees.{after_on, apart, first_away, get_apart, some_state, then_away}
use Rattle.ice_catalog_laws.proofs.Turns.{get_here, manifest}
use Rattle.ice_catalog_laws.specs.Playing.{HaveNoRow, TakesEvery, events_of, states}
use Rattle.ice_catalog_laws.specs.Workers.{HasManifest}

record Played (m after : Machine) (k w n : ℕ) (p : PinnedScan) (set : List Bool) : Type 0 where
  pub now : PinnedScan
  pub pins : after.pins ≡ slice_set m.pins k (Some now)
  pub version : now.history ≡ p.history
  pub scan : now.scan ≡ p.scan
  pub state : slice_get now.workers w ≡ Some set
  pub others : (v : ℕ) → (v < w) ⊎ (w + n ≤ v) → slice_get now.workers v ≡ slice_get p.workers v

module _ (k : ℕ) where
  pinned_now : (m n : Machine) (w s : ℕ) (p : PinnedScan) (set : List Bool) → slice_get m.pins k ≡ Some (Some p)
      → (played : Played m n k w s p set) → slice_get n.pins k ≡ Some (Some played.now)
  pinned_now m n w s p set at played = ap (λ ps. slice_get ps k) played.pins ∙ get_here k m.pins (Some played.now)
      (Some p) at

  nothing_yet : (m : Machine) (w : ℕ) (p : PinnedScan) (set : List Bool) → slice_get m.pins k ≡ Some (Some p)
      → slice_get p.workers w ≡ Some set → Played m m k w 1 p set
  nothing_yet m w p set at is = record {
    now = p;
    pins = sym (set_same k m.pins (Some p) at);
    version = refl;
    scan = refl;
    state = is;
    others = λ v away. refl;
  }

  one_step : (m n : Machine) (w s : ℕ) (p : PinnedScan) (set more : List Bool) (r : Reply) (e : Reply × Machine) → 0 < s
      → (played : Played m n k w s p set) → e ≡ with_pin n k (r, with_worker played.now w more)
      → Played m e.1 k w s p more
  one_step m n w s p set more r e some played is = record {
    now = with_worker played.now w more;
    pins = ap (λ (x : Reply × Machine). x.1.pins) is ∙ (ap (λ ps. slice_set ps k (Some (with_worker played.now w more)))
        played.pins ∙ set-set m.pins k (Some played.now) (Some (with_worker played.now w more)));
    version = played.version;
    scan = played.scan;
    state = get_here w played.now.workers more set played.state;
    others = λ v away. get_apart w v played.now.workers more (apart k v w s some away) ∙ played.others v away;
  }

  abbrev one_more : (m n o : Machine) (w s t : ℕ) (p : PinnedScan) (set other : List Bool) → 0 < s
      → (first : Played m n k w s p set) → Played n o k (w + s) t first.now other → Played m o k w (s + t) p set
  one_more m n o w s t p set other some first then = record {
    now = then.now;
    pins = then.pins ∙ (ap (λ ps. slice_set ps k (Some then.now)) first.pins ∙ set-set m.pins k (Some first.now)
        (Some then.now));
    version = then.version ∙ first.version;
    scan = then.scan ∙ first.scan;
    state = then.others w (inl (omega (arith, some))) ∙ first.state;
    others = λ v away. then.others v (then_away k v w s t away) ∙ first.others v (first_away k v w s t away);
  }

module _ (h : History) (scan : Scanned) (k : ℕ) where
  takes_rows : (run : Run) (m : Machine) (w : ℕ) (p : PinnedScan) → slice_get m.pins k ≡ Some (Some p)
      → p.history ≡ h → p.scan ≡ scan → HaveNoRow p w (states run) → IsIn (world_of h) scan run
      → Played m (machine_after m (events_of k w run)) k w (states run) p (taken scan run)
  takes_rows empty m w p at version same fresh there = nothing_yet k m w p (no_row scan) at
      (fresh w (omega arith) (omega arith) ∙ ap (λ (s : Scanned). Some (no_row s)) same)
  takes_rows (take run i bytes) m w p at version same fresh there =
      let es = events_of k w run in
      let n = machine_after m es in
      let s = states run in
      let set = taken scan run in
      let played = takes_rows run m w p at version same fresh there.0 in
      let q = played.now in
      let own : HasManifest q i bytes = manifest h scan k w q i bytes (played.version ∙ version) (played.scan ∙ same)
      there.1 in
      let row = row_of (world_of q.history) q.scan.wanted i bytes own in
      let e = on.Take k w i in
      let step = steps n k q (λ x. take_step x w i) (reply.Taken, with_worker q w (add set i))
      (pinned_now k m n w s p set at played) (takes q w i set row.0 bytes played.state row.1 row.2) in
      subst (λ (o : Machine). Played m o k w s p (add set i)) (sym (after_on m es (e ∷ [])))
      (one_step k m n w s p set (add set i) reply.Taken (event n e) (some_state run) played step)
  takes_rows (merge run other) m w p at version same fresh there =
      let s = states run in
      let t = states other in
      let es = events_of k w run in
      let fs = events_of k (w + s) other in
      let n = machine_after m es in
      let o = machine_after n fs in
      let set = taken scan run in
      let set_too = taken scan other in
      let first = takes_rows run m w p at version same (λ v least less. fresh v least (omega (arith, less))) there.0 in
      let alike : first.now.scan ≡ p.scan = first.scan in
      let then = takes_rows other n (w + s) first.now (pinned_now k m n w s p set at first) (first.version ∙ version)
      (alike ∙ same) (λ v least less. first.others v (inr least) ∙ (fresh v (omega (arith, least)) (omega (arith, less))
      ∙ ap (λ (x : Scanned). Some (no_row x)) (sym alike))) there.1 in
      let both = one_more k m n o w s t p set set_too (some_state run) first then in
      let q = then.now in
      let e = on.Merge k w (w + s) in
      let step = steps o k q (λ x. merge_step x w (w + s)) (reply.Merged, with_worker q w (either set set_too))
      (pinned_now k m o w (s + t) p set at both) (merges q w (w + s) set set_too both.state then.state) in
      let some : 0 < s + t = let a = some_state run in omega (arith, a) in
      let end = after_on m es (fs ++ e ∷ []) ∙ after_on n fs (e ∷ []) in
      subst (λ (x : Machine). Played m x k w (s + t) p (either set set_too)) (sym end)
      (one_step k m o w (s + t) p set (either set set_too) reply.Merged (event o e) some both step)

-- ---- every row

all_true : (n i : ℕ) → i < n → get_or (replicate n true) i false ≡ true
all_true zero i less = absurd (omega (arith, less))
all_true (suc n) zero less = refl
all_true (suc n) (suc i) less = all_true n i (omega (arith, less))

every_taken : (scan : Scanned) (run : Run) → TakesEvery scan run → taken scan run ≡ every_row scan
every_taken scan run every =
    let n = length scan.wanted in
    let many = length-taken scan run in
    ext_get_or false (taken scan run) (every_row scan) (many ∙ sym (length-replicate n true)) (λ i less.
    let near : i < n = omega (arith, less, many) in
    taken-at scan run i near ∙ (every i near ∙ sym (all_true n i near)))

pub took_every : (m : Machine) (k w : ℕ) (p : PinnedScan) (run : Run) → slice_get m.pins k ≡ Some (Some p)
    → HaveNoRow p w (states run) → IsIn (world_of p.history) p.scan run → TakesEvery p.scan run
    → TookEvery (machine_after m (events_of k w run)) k w
took_every m k w p run at fresh there every =
    let n = machine_after m (events_of k w run) in
    let played = takes_rows p.history p.scan k run m w p at refl refl fresh there in (
      played.now,
      pinned_now k m n w (states run) p (taken p.scan run) at played,
      played.state ∙ (ap (λ ts. Some ts) (every_taken p.scan run every) ∙ ap (λ (s : Scanned). Some (every_row s))
          (sym played.scan)),
    )
