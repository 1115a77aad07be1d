-- What calls come to, as events of a machine.
use Rattle.std.proofs.Common.{◌≡◌, ◌≢◌, ◌==◌, ℕ, zero, suc, ◌+◌, ◌<◌, Bool, true, false, List, [], ◌∷◌, length}
use Rattle.std.proofs.Common.{refl, replicate, sym, ◌∙◌, ap, subst, arith, length-append, Option, Some, None}
use Rattle.std.specs.Prelude.{cond, slice_get, unwrap_or, IfErr, IfOk, OnErr, OnOk, Result, Ok, Err}
use Rattle.std.specs.Result.{result_ok}
use Rattle.std.proofs.lemmas.Bool.Decides.{Decides-eqb}
use Rattle.contract_words.specs.Outcome.{◌>>=◌, Gives}
use Rattle.ice_catalog_book.specs.declared.book.Conflict.{Conflict}
use Rattle.ice_catalog.proofs.Apart.{get_last}
use Rattle.ice_catalog.specs.Machines.{Machine, PinnedScan, committed, event, finished, receipt_of, scan_of}
use Rattle.ice_catalog.specs.Machines.{world_of}
use Rattle.ice_catalog.specs.declared.event.Event.TheVariants as on
use Rattle.ice_catalog.specs.declared.event.Reply.{Reply}
use Rattle.ice_catalog.specs.declared.event.Reply.TheVariants as reply
use Rattle.ice_desk.specs.Plans.{GivesPlan}
use Rattle.ice_desk.specs.declared.fault.PlanFault.{PlanFault}
use Rattle.ice_desk.specs.declared.fault.PlanFault.TheVariants as plan
use Rattle.ice_filter.specs.declared.predicate.Predicate.{Predicate}
use Rattle.ice_filter.specs.declared.parts.Part.{Part}
use Rattle.ice_state.specs.Contents.{Content, content, every_row, took}
use Rattle.ice_state.specs.Joins.{join}
use Rattle.ice_state.specs.Lines.{OwnedLine}
use Rattle.ice_state.specs.Outcomes.{outcome}
use Rattle.ice_state.specs.Scans.{Scanned}
use Rattle.ice_state.specs.declared.fault.FinishFault.{FinishFault}
use Rattle.ice_state.specs.declared.fault.FinishFault.TheVariants as fault
use Rattle.ice_catalog_versions.specs.Applying.{apply}
use Rattle.ice_catalog_versions.specs.Histories.{History, IsReceiptOf, Step, after, prepared_from, prepared_on}
use Rattle.ice_catalog_versions.specs.Histories.{state_of, step}
use Rattle.ice_catalog_versions.specs.Replaying.{AddsAStep}
use Rattle.ice_catalog_versions.specs.States.{State}
use Rattle.ice_catalog_changes.specs.declared.change.Commit.{Commit}
use Rattle.ice_catalog_changes.specs.declared.fault.PrepareFault.{PrepareFault}
use Rattle.ice_catalog_versions.specs.declared.receipt.Receipt.{Receipt}
use Rattle.ice_catalog_laws.proofs.Counts.{same_journal}
use Rattle.ice_catalog_laws.proofs.Squares.{begins, finish_outcome, merge_state, merged_where, take_state}
use Rattle.ice_catalog_laws.proofs.Squares.{taken_where}
use Rattle.ice_catalog_laws.specs.Calls.{GoesOnFrom, IsOfReply, reply_to}
use Rattle.ice_catalog_laws.specs.Counts.{followed_by}
use Rattle.ice_catalog_laws.specs.Workers.{HasManifest, HasState, IsPut, nothing_taken}

-- ---- outcomes of calls

pub if_ok : {A E : Type 0} (r : Result A E) (P Q : A → Type 0) → ((x : A) → P x → Q x) → IfOk r P → IfOk r Q
if_ok (Ok x) P Q f p = f x p
if_ok (Err e) P Q f p = tt

pub on_ok : {A E : Type 0} (r : Result A E) (P Q : Type 0) → (P → Q) → OnOk r P → OnOk r Q
on_ok (Ok x) P Q f p = f p
on_ok (Err e) P Q f p = tt

-- ---- states

get_replicate : {A : Type 0} (n w : ℕ) (x : A) → w < n → slice_get (replicate n x) w ≡ Some x
get_replicate zero w x near = absurd (omega (arith, near))
get_replicate (suc n) zero x near = refl
get_replicate (suc n) (suc w) x near = get_replicate n w x (omega (arith, near))

pub begun_state : (m : Machine) (filter : List (Part Predicate)) (scan : Scanned) (w : ℕ) (c : Content)
    → scan_of m.history filter ≡ Some scan → w < 64 → c ≡ nothing_taken scan
    → (p : PinnedScan) × (p.scan ≡ scan) × HasState (event m (on.Pin filter)).1 (length m.pins) w p c
begun_state m filter scan w c is near none =
    let b = begins m filter scan is in (
      b.now,
      b.reads,
      record {
        pinned = ap (λ ps. slice_get ps (length m.pins)) b.pins ∙ get_last m.pins (Some b.now);
        state = ap (λ ss. slice_get ss w) b.states ∙ (get_replicate 64 w (nothing_taken scan) near ∙ ap (λ d. Some d)
            (sym none));
      },
    )

pub take_call : (m : Machine) (k w i : ℕ) (p : PinnedScan) (scan : Scanned) (old new : Content) (bytes : List ℕ)
    → p.scan ≡ scan → HasState m k w p old → HasManifest p i bytes → new ≡ took scan old i bytes
    → ((event m (on.Take k w i)).0 ≡ reply.Taken) × IsPut m (event m (on.Take k w i)).1 k w p new
take_call m k w i p scan old new bytes same has there is = (
  (taken_where m k w i).1 (p, old, bytes, has, there),
  subst (IsPut m (event m (on.Take k w i)).1 k w p) (ap (λ (s : Scanned). took s old i bytes) same ∙ sym is)
      (take_state m k w i p old bytes has there),
)

pub merge_call : (m : Machine) (k into from : ℕ) (p : PinnedScan) (old other new : Content) → HasState m k into p old
    → HasState m k from p other → new ≡ join old other
    → ((event m (on.Merge k into from)).0 ≡ reply.Merged) × IsPut m (event m (on.Merge k into from)).1 k into p new
merge_call m k into from p old other new has also is = (
  (merged_where m k into from).1 (p, old, other, has, also),
  subst (IsPut m (event m (on.Merge k into from)).1 k into p) (sym is) (merge_state m k into from p old other has also),
)

module _ (m : Machine) (k w : ℕ) (p : PinnedScan) (scan : Scanned) (c : Content) (same : p.scan ≡ scan)
    (has : HasState m k w p c) where
  reply_is : (event m (on.Finish k w)).0 ≡ finished (outcome scan c)
  reply_is = ap (λ (x : Reply × Machine). x.0) (finish_outcome m k w p c has) ∙ ap
      (λ (s : Scanned). finished (outcome s c)) same

  pub finish_plan : (r : Result (List OwnedLine) FinishFault) → Gives fault.Memory (λ lines. lines) r (outcome scan c)
      → IfOk r (λ lines. (event m (on.Finish k w)).0 ≡ reply.Planned lines)
  finish_plan (Ok lines) gives = reply_is ∙ ap finished gives
  finish_plan (Err e) gives = tt

  pub finish_fault : (r : Result (List OwnedLine) FinishFault) → Gives fault.Memory (λ lines. lines) r (outcome scan c)
      → IfErr r (λ e. e ≢ fault.Memory → (event m (on.Finish k w)).0 ≡ reply.Unfinished e)
  finish_fault (Ok lines) gives = tt
  finish_fault (Err e) gives = λ other. reply_is ∙ ap finished (gives other)

  plan_by : (r : Result (List OwnedLine) PlanFault) → GivesPlan (λ lines. lines) r (outcome scan c)
      → IsOfReply r (event m (on.Finish k w)).0
  plan_by (Ok lines) gives = reply_is ∙ ap finished gives
  plan_by (Err (plan.Finish e)) gives = reply_is ∙ ap finished gives
  plan_by (Err (plan.Absent path)) gives = tt
  plan_by (Err (plan.Device path)) gives = tt
  plan_by (Err plan.Memory) gives = tt
  plan_by (Err plan.Workers) gives = tt

pub plan_call : (m : Machine) (k w : ℕ) (p : PinnedScan) (scan : Scanned) (r : Result (List OwnedLine) PlanFault)
    → p.scan ≡ scan → HasState m k w p (content (world_of p.history) scan (every_row scan))
    → GivesPlan (λ lines. lines) r (outcome scan (content (world_of p.history) scan (every_row scan)))
    → IsOfReply r (event m (on.Finish k w)).0
plan_call m k w p scan r same has gives =
    plan_by m k w p scan (content (world_of p.history) scan (every_row scan)) same has r gives

-- ---- commits

applied : (r : Result State PrepareFault) (s : State) (p : Step) → result_ok r ≡ Some s → (r >>= λ _. Ok p) ≡ Ok p
applied (Ok t) s p is = refl
applied (Err e) s p is = absurd cc

prepared_there : (o : Option State) (h : History) (c : Commit) (s : State) → step o c ≡ Some s
    → prepared_from o h c ≡ Ok (record { base = h; commit = c })
prepared_there None h c s is = absurd cc
prepared_there (Some t) h c s is = applied (apply t c) s (record { base = h; commit = c }) is

receipt_is : (x y : Receipt) → x.number ≡ y.number → x.snapshot ≡ y.snapshot → x.sequence ≡ y.sequence → x ≡ y
receipt_is x y a b c = λ i. record { number = a i; snapshot = b i; sequence = c i }

the_receipt : (r : Receipt) (s : Step) → IsReceiptOf r s → receipt_of s ≡ r
the_receipt r s is = receipt_is (receipt_of s) r (sym is.number) (sym is.snapshot)
    (ap (λ o. unwrap_or o 0) is.sequence)

same_number : (a b : ℕ) → a ≡ b → (a == b) ≡ true
same_number a b is = (Decides-eqb a b).1 is

other_number : (a b : ℕ) → a < b → (a == b) ≡ false
other_number a b less = elim (a == b) as (λ t. (a == b) ≡ t → t ≡ false) [
  | true ↦ λ is. let same : a ≡ b = (Decides-eqb a b).0 is in absurd (omega (arith, less, same))
  | false ↦ λ is. refl
] refl

module _ (m : Machine) (h base new : History) (c : Commit) (own : m.history ≡ h) where
  abbrev commit_by : Bool → Reply × Machine
  commit_by b = cond b (committed m c (prepared_on m.history c)) (reply.Conflict (length m.history.journal), m)

  commit_made : (receipt : Receipt) (s : State) → AddsAStep → state_of (after base c) ≡ Some s → base ≡ h
      → new ≡ after h c → IsReceiptOf receipt (record { base = base; commit = c })
      → event m (on.Commit (length base.journal) c.change c.ids)
      ≡ (reply.Committed receipt, record { history = new; pins = m.pins })
  commit_made receipt s adds leaves same then is =
      let one : Step = record { base = m.history; commit = c } in
      let here : base ≡ m.history = same ∙ sym own in
      let number : (length base.journal == length m.history.journal) ≡ true = same_number (length base.journal)
      (length m.history.journal) (ap (λ (x : History). length x.journal) here) in
      let prepared : prepared_on m.history c ≡ Ok one = prepared_there (state_of m.history) m.history c s
      (ap (λ (x : History). step (state_of x) c) (sym here) ∙ (sym (adds base c) ∙ leaves)) in
      let receipted : receipt_of one ≡ receipt = the_receipt receipt one
      (subst (λ (x : History). IsReceiptOf receipt (record { base = x; commit = c })) here is) in
      ap commit_by number
      ∙ (ap (committed m c) prepared
      ∙ (ap (λ r. (reply.Committed r, record { history = after m.history c; pins = m.pins })) receipted
      ∙ ap (λ (x : History). (reply.Committed receipt, record { history = x; pins = m.pins }))
      (ap (λ (x : History). after x c) own ∙ sym then)))

  number_past : (more : List Commit) → h ≡ followed_by base more → base ≢ h
      → length base.journal < length m.history.journal
  number_past [] goes other = absurd (other (same_journal base ∙ sym goes))
  number_past (x ∷ more) goes other =
      let all : length m.history.journal ≡ length base.journal + suc (length more) = ap
      (λ (y : History). length y.journal) (own ∙ goes) ∙ length-append base.journal (x ∷ more) in omega (arith, all)

  commit_refused : GoesOnFrom base h → base ≢ h → new ≡ h → event m (on.Commit (length base.journal) c.change c.ids)
      ≡ (reply.Conflict (length h.journal), record { history = new; pins = m.pins })
  commit_refused goes other then =
      let number = other_number (length base.journal) (length m.history.journal) (number_past goes.0 goes.1 other) in
      ap commit_by number
      ∙ (ap (λ (x : History). (reply.Conflict (length x.journal), m)) own
      ∙ ap (λ (x : History). (reply.Conflict (length h.journal), record { history = x; pins = m.pins }))
      (own ∙ sym then))

  pub swap_call : (r : Result Receipt Conflict) (s : State) → AddsAStep → state_of (after base c) ≡ Some s
      → GoesOnFrom base h → IfOk r (λ _. base ≡ h) → IfOk r (λ _. new ≡ after h c)
      → IfOk r (λ receipt. IsReceiptOf receipt (record { base = base; commit = c })) → IfErr r (λ _. base ≢ h)
      → OnErr r (new ≡ h) → event m (on.Commit (length base.journal) c.change c.ids)
      ≡ (reply_to h r, record { history = new; pins = m.pins })
  swap_call (Ok receipt) s adds leaves goes same then is other unchanged =
      commit_made receipt s adds leaves same then is
  swap_call (Err conflict) s adds leaves goes same then is other unchanged = commit_refused goes other unchanged
