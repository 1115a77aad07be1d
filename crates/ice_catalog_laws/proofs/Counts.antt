-- The commits that a machine makes, and their counts.
use Rattle.std.proofs.Common.{◌≡◌, ◌≢◌, ◌==◌, ℕ, zero, suc, ◌+◌, ◌<◌, ◌≤◌, Bool, true, false, List, [], ◌∷◌, ◌++◌}
use Rattle.std.proofs.Common.{length, refl, sym, ◌∙◌, ap, arith, append_assoc, length-append, Option, Some, None}
use Rattle.std.specs.Prelude.{cond, slice_get, Result, Ok, Err}
use Rattle.std.specs.List.{AllByRecursion}
use Rattle.std.proofs.lemmas.Bool.Decides.{Decides-eqb}
use Rattle.std.proofs.lemmas.List.{append-nil}
use Rattle.contract_words.specs.Outcome.{◌>>=◌}
use Rattle.ice_catalog.specs.Machines.{Machine, PinnedScan, at_pin, commit, committed, event, finish_at, finish_by}
use Rattle.ice_catalog.specs.Machines.{finished, machine_after, merge, merge_by, pinned, pinned_on, receipt_of}
use Rattle.ice_catalog.specs.Machines.{replies_to, take, take_by, took_row, world_of}
use Rattle.ice_catalog.specs.declared.event.Event.{Event}
use Rattle.ice_catalog.specs.declared.event.Event.TheVariants as on
use Rattle.ice_catalog.specs.declared.event.Reply.{Reply}
use Rattle.ice_catalog.specs.declared.event.Reply.TheVariants as reply
use Rattle.ice_manifest_reading.specs.declared.row.Row.{Row}
use Rattle.ice_state.specs.Contents.{content}
use Rattle.ice_state.specs.Lines.{OwnedLine}
use Rattle.ice_state.specs.Outcomes.{outcome}
use Rattle.ice_state.specs.declared.fault.FinishFault.{FinishFault}
use Rattle.ice_catalog_versions.specs.Applying.{apply}
use Rattle.ice_catalog_versions.specs.Histories.{History, Step, after, prepared_from, prepared_on, state_of}
use Rattle.ice_catalog_versions.specs.States.{State}
use Rattle.ice_catalog_changes.specs.declared.change.Commit.{Commit}
use Rattle.ice_catalog_changes.specs.declared.fault.PrepareFault.{PrepareFault}
use Rattle.ice_catalog_versions.specs.declared.receipt.Receipt.{Receipt}
use Rattle.ice_catalog_laws.specs.Counts.{commit_of, count_of, followed_by, made, sum_of_seats}

-- ---- one event

pub same_journal : (h : History) → h ≡ followed_by h []
same_journal h = ap (λ cs. record { opening = h.opening; journal = cs }) (sym (append-nil h.journal))

module _ (m : Machine) where
  committed_on : (base : ℕ) (c : Commit) (r : Result Step PrepareFault) → (committed m c r).1.history ≡ followed_by
      m.history (commit_of (on.Commit base c.change c.ids) (committed m c r).0)
  committed_on base c (Ok s) = refl
  committed_on base c (Err fault) = same_journal m.history

  commit_on : (base : ℕ) (c : Commit) → (commit m base c).1.history ≡ followed_by m.history
      (commit_of (on.Commit base c.change c.ids) (commit m base c).0)
  commit_on base c = elim (base == length m.history.journal) as (λ b.
      let e = cond b (committed m c (prepared_on m.history c)) (reply.Conflict (length m.history.journal), m) in
      e.1.history ≡ followed_by m.history (commit_of (on.Commit base c.change c.ids) e.0)) [
        | true ↦ committed_on base c (prepared_on m.history c)
        | false ↦ same_journal m.history
      ]

  step_on : (k : ℕ) (f : PinnedScan → Reply × PinnedScan) (o : Option (Option PinnedScan))
      → (at_pin m k f o).1.history ≡ m.history
  step_on k f None = refl
  step_on k f (Some s) = refl

  event_on : (e : Event) → (event m e).1.history ≡ followed_by m.history (commit_of e (event m e).0)
  event_on (on.Pin filter) = same_journal m.history
  event_on (on.Commit base change ids) = commit_on base (record { change = change; ids = ids })
  event_on (on.Take k w i) = step_on k (λ p. take p w i) (slice_get m.pins k) ∙ same_journal m.history
  event_on (on.Merge k into from) = step_on k (λ p. merge p into from) (slice_get m.pins k) ∙ same_journal m.history
  event_on (on.Finish k w) = same_journal m.history

-- ---- events in order

pub events_on : (m : Machine) (events : List Event)
    → (machine_after m events).history ≡ followed_by m.history (made events (replies_to m events))
events_on m [] = same_journal m.history
events_on m (e ∷ es) =
    let n = (event m e).1 in
    let one = commit_of e (event m e).0 in
    let rest = made es (replies_to n es) in
    events_on n es ∙ (ap (λ h. followed_by h rest) (event_on m e) ∙ ap (λ cs. record {
      opening = m.history.opening;
      journal = cs;
    }) (append_assoc m.history.journal one rest))

-- ---- counts

past : (n x many : ℕ) (f : ℕ → ℕ) → n ≤ x → sum_of_seats n (λ s. cond (x == s) many 0 + f s) ≡ sum_of_seats n f
past zero x many f far = refl
past (suc n) x many f far =
    let before = sum_of_seats n (λ s. cond (x == s) many 0 + f s) in
    let rest : before ≡ sum_of_seats n f = past n x many f (omega (arith, far)) in
    elim (x == n) as (λ b. (x == n) ≡ b → before + (cond b many 0 + f n) ≡ sum_of_seats n f + f n) [
      | true ↦ λ is. let same : x ≡ n = (Decides-eqb x n).0 is in absurd (omega (arith, far, same))
      | false ↦ λ is. omega (arith, rest)
    ] refl

within : (n x many : ℕ) (f : ℕ → ℕ) → x < n
    → sum_of_seats n (λ s. cond (x == s) many 0 + f s) ≡ many + sum_of_seats n f
within zero x many f near = absurd (omega (arith, near))
within (suc n) x many f near =
    let before = sum_of_seats n (λ s. cond (x == s) many 0 + f s) in
    elim (x == n) as (λ b. (x == n) ≡ b → before + (cond b many 0 + f n) ≡ many + (sum_of_seats n f + f n)) [
      | true ↦ λ is.
          let same : x ≡ n = (Decides-eqb x n).0 is in
          let rest : before ≡ sum_of_seats n f = past n x many f (omega (arith, same)) in omega (arith, rest)
      | false ↦ λ is.
          let apart : x ≢ n = λ same. let yes = (Decides-eqb x n).1 same in cc in
          let rest : before ≡ many + sum_of_seats n f = within n x many f (omega (arith, near, apart)) in
          omega (arith, rest)
    ] refl

sum_none : (n : ℕ) → sum_of_seats n (λ s. 0) ≡ 0
sum_none zero = refl
sum_none (suc n) = let rest = sum_none n in omega (arith, rest)

pub seats_add_up : (n : ℕ) (who : List ℕ) (es : List Event) (rs : List Reply) → AllByRecursion (λ s. s < n) who
    → length who ≡ length es → sum_of_seats n (λ s. count_of s who es rs) ≡ length (made es rs)
seats_add_up n [] [] rs all same = sum_none n
seats_add_up n [] (e ∷ es) rs all same = absurd (omega (arith, same))
seats_add_up n (x ∷ who) [] rs all same = absurd (omega (arith, same))
seats_add_up n (x ∷ who) (e ∷ es) [] all same = sum_none n
seats_add_up n (x ∷ who) (e ∷ es) (r ∷ rs) all same =
    let many = length (commit_of e r) in
    within n x many (λ s. count_of s who es rs) all.0 ∙ (ap (λ a. many + a) (seats_add_up n who es rs all.1
    (omega (arith, same))) ∙ sym (length-append (commit_of e r) (made es rs)))

pub seat_at_most : (s : ℕ) (who : List ℕ) (es : List Event) (rs : List Reply)
    → count_of s who es rs ≤ length (made es rs)
seat_at_most s [] es rs = omega arith
seat_at_most s (x ∷ who) [] rs = omega arith
seat_at_most s (x ∷ who) (e ∷ es) [] = omega arith
seat_at_most s (x ∷ who) (e ∷ es) (r ∷ rs) =
    let many = length (commit_of e r) in
    let rest = seat_at_most s who es rs in
    let all : length (commit_of e r ++ made es rs) ≡ many + length (made es rs) = length-append (commit_of e r)
    (made es rs) in
    elim (x == s) as (λ b. cond b many 0 + count_of s who es rs ≤ length (commit_of e r ++ made es rs)) [
      | true ↦ omega (arith, rest, all)
      | false ↦ omega (arith, rest, all)
    ]

journal_of : (h : History) (cs : List Commit) → length (followed_by h cs).journal ≡ length h.journal + length cs
journal_of h cs = length-append h.journal cs

pub counts_add_up : (m : Machine) (events : List Event) (n : ℕ) (who : List ℕ) → AllByRecursion (λ s. s < n) who
    → length who ≡ length events → length (machine_after m events).history.journal
    ≡ length m.history.journal + sum_of_seats n (λ s. count_of s who events (replies_to m events))
counts_add_up m events n who all same =
    let cs = made events (replies_to m events) in
    ap (λ (h : History). length h.journal) (events_on m events) ∙ (journal_of m.history cs ∙ ap
    (λ a. length m.history.journal + a) (sym (seats_add_up n who events (replies_to m events) all same)))

pub seat_is_seen : (m : Machine) (events : List Event) (s : ℕ) (who : List ℕ)
    → count_of s who events (replies_to m events) ≤ length (machine_after m events).history.journal
seat_is_seen m events s who =
    let cs = made events (replies_to m events) in
    let all : length (machine_after m events).history.journal ≡ length m.history.journal + length cs = ap
    (λ (h : History). length h.journal) (events_on m events) ∙ journal_of m.history cs in
    let least = seat_at_most s who events (replies_to m events) in omega (arith, all, least)

-- ---- receipts

no_receipt : (m : Machine) (k : ℕ) (f : PinnedScan → Reply × PinnedScan) (o : Option (Option PinnedScan))
    (receipt : Receipt) → ((p : PinnedScan) → (f p).0 ≡ reply.Committed receipt → ⊥)
    → (at_pin m k f o).0 ≡ reply.Committed receipt → ⊥
no_receipt m k f None receipt none is = cc
no_receipt m k f (Some None) receipt none is = cc
no_receipt m k f (Some (Some p)) receipt none is = none p is

not_by_row : (p : PinnedScan) (w i : ℕ) (set : List Bool) (row : Row) (o : Option (List ℕ)) (receipt : Receipt)
    → (took_row p w i set row o).0 ≡ reply.Committed receipt → ⊥
not_by_row p w i set row None receipt is = cc
not_by_row p w i set row (Some bytes) receipt is = cc

not_by_take : (p : PinnedScan) (w i : ℕ) (o : Option (List Bool)) (row : Option Row) (receipt : Receipt)
    → (take_by p w i o row).0 ≡ reply.Committed receipt → ⊥
not_by_take p w i None row receipt is = cc
not_by_take p w i (Some set) None receipt is = cc
not_by_take p w i (Some set) (Some row) receipt is = not_by_row p w i set row (world_of p.history row.path) receipt is

not_by_merge : (p : PinnedScan) (into : ℕ) (o other : Option (List Bool)) (receipt : Receipt)
    → (merge_by p into o other).0 ≡ reply.Committed receipt → ⊥
not_by_merge p into None other receipt is = cc
not_by_merge p into (Some set) None receipt is = cc
not_by_merge p into (Some set) (Some other) receipt is = cc

not_finished : (r : Result (List OwnedLine) FinishFault) (receipt : Receipt) → finished r ≡ reply.Committed receipt → ⊥
not_finished (Ok plan) receipt is = cc
not_finished (Err fault) receipt is = cc

not_by_set : (p : PinnedScan) (o : Option (List Bool)) (receipt : Receipt) → finish_by p o ≡ reply.Committed receipt → ⊥
not_by_set p None receipt is = cc
not_by_set p (Some set) receipt is =
    not_finished (outcome p.scan (content (world_of p.history) p.scan set)) receipt is

not_by_finish : (o : Option (Option PinnedScan)) (w : ℕ) (receipt : Receipt)
    → finish_at o w ≡ reply.Committed receipt → ⊥
not_by_finish None w receipt is = cc
not_by_finish (Some None) w receipt is = cc
not_by_finish (Some (Some p)) w receipt is = not_by_set p (slice_get p.workers w) receipt is

not_by_pin : (k : ℕ) (o : Option PinnedScan) (receipt : Receipt) → pinned k o ≡ reply.Committed receipt → ⊥
not_by_pin k None receipt is = cc
not_by_pin k (Some p) receipt is = cc

applied : (r : Result State PrepareFault) (h : History) (c : Commit) (step : Step)
    → (r >>= λ _. Ok (record { base = h; commit = c })) ≡ Ok step → step ≡ record { base = h; commit = c }
applied (Ok t) h c step is = cc
applied (Err fault) h c step is = absurd cc

-- a step that is prepared on a history is on this one
prepared_here : (s : Option State) (h : History) (c : Commit) (step : Step) → prepared_from s h c ≡ Ok step
    → step ≡ record { base = h; commit = c }
prepared_here None h c step is = absurd cc
prepared_here (Some s) h c step is = applied (apply s c) h c step is

committed_number : (m : Machine) (c : Commit) (r : Result Step PrepareFault) (receipt : Receipt)
    → prepared_on m.history c ≡ r → (committed m c r).0 ≡ reply.Committed receipt
    → receipt.number ≡ length (committed m c r).1.history.journal
committed_number m c (Err fault) receipt prepared is = absurd cc
committed_number m c (Ok step) receipt prepared is =
    let same : receipt_of step ≡ receipt = cc in
    ap (λ (r : Receipt). r.number) (sym same) ∙ ap (λ (s : Step). length (after s.base s.commit).journal)
    (prepared_here (state_of m.history) m.history c step prepared)

commit_number : (m : Machine) (base : ℕ) (c : Commit) (receipt : Receipt)
    → (commit m base c).0 ≡ reply.Committed receipt → receipt.number ≡ length (commit m base c).1.history.journal
commit_number m base c receipt =
    elim (base == length m.history.journal) as (λ b.
    let e = cond b (committed m c (prepared_on m.history c)) (reply.Conflict (length m.history.journal), m) in
    e.0 ≡ reply.Committed receipt → receipt.number ≡ length e.1.history.journal) [
      | true ↦ committed_number m c (prepared_on m.history c) receipt refl
      | false ↦ λ is. absurd cc
    ]

pub receipt_has_number : (m : Machine) (e : Event) (receipt : Receipt) → (event m e).0 ≡ reply.Committed receipt
    → receipt.number ≡ length (event m e).1.history.journal
receipt_has_number m (on.Pin filter) receipt is = absurd (not_by_pin (length m.pins) (pinned_on m.history filter)
    receipt is)
receipt_has_number m (on.Commit base change ids) receipt is = commit_number m base (record {
  change = change;
  ids = ids;
}) receipt is
receipt_has_number m (on.Take k w i) receipt is = absurd (no_receipt m k (λ p. take p w i) (slice_get m.pins k) receipt
    (λ p h. not_by_take p w i (slice_get p.workers w) (slice_get p.scan.wanted i) receipt h) is)
receipt_has_number m (on.Merge k into from) receipt is = absurd (no_receipt m k (λ p. merge p into from)
    (slice_get m.pins k) receipt (λ p h. not_by_merge p into (slice_get p.workers into) (slice_get p.workers from)
    receipt h) is)
receipt_has_number m (on.Finish k w) receipt is = absurd (not_by_finish (slice_get m.pins k) w receipt is)
