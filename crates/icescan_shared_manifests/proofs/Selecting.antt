-- The rows of two lists, and why reading them may end the run.
use Rattle.std.proofs.Common.{◌≡◌, ◌≤◌, ℕ, List, [], ◌∷◌, ◌++◌, filter, length, refl, sym, subst}
use Rattle.std.proofs.Common.{Bool, true, false, not, arith, cond, inl, inr}
use Rattle.std.specs.Prelude.{Ok}
use Rattle.ice_desk.specs.Worlds.{EndsAt}
use Rattle.ice_manifest_reading.specs.declared.row.Row.{Row}
use Rattle.ice_state.specs.Contents.{World}
use Rattle.icescan_requests.proofs.Plans.{list_there}
use Rattle.icescan_requests.specs.Plans.{list_of, selected_rows}
use Rattle.icescan_requests.specs.Selections.{selected}
use Rattle.icescan_requests.specs.declared.selected_rows.SelectedRows.{SelectedRows}
use Rattle.icescan_shared_manifests.specs.Both.{both_lists, both_rows, leaves_out, planned_of}
use Rattle.icescan_shared_manifests.specs.Shared.{is_shared}
use Rattle.icescan_shared_manifests.specs.declared.both_rows.BothRows.{BothRows}
use Rattle.icescan_text.proofs.Steps.{fails_later, first_ends, step, then_ends}
use Rattle.icescan_text.specs.Reads.{MayEnd, rows_at}
use Rattle.icescan_text.specs.declared.fault.RunFault.{RunFault}
use Rattle.icescan_text.specs.declared.request.ChangesRequest.{ChangesRequest}
use Rattle.icescan_text.specs.declared.request.Request.{Request}

-- ---- both

pub ends_first : (world : World) (f : List ℕ → Type 0) (xs ys : List (List ℕ)) (p : List ℕ) → EndsAt world f xs p
    → EndsAt world f (xs ++ ys) p
ends_first world f [] ys p h = absurd h
ends_first world f (x ∷ xs) ys p (inl h) = inl h
ends_first world f (x ∷ xs) ys p (inr h) = inr (h.0, ends_first world f xs ys p h.1)

-- where a list's rows were selected, the list was there
pub behind_list : (world : World) (f : List ℕ → Type 0) (rest : List (List ℕ)) (p : List ℕ) → EndsAt world f rest p
    → (metadata : List ℕ) (request : Request) (found : SelectedRows)
    → selected_rows world metadata request ≡ Ok found → EndsAt world f (list_of (selected metadata request) ++ rest) p
unfolding selected_rows
behind_list world f rest p ends metadata request found h =
    let asked = step (selected metadata request) _ found h in
    let rows = step (rows_at world asked.0.list) _ found asked.2 in
    let bytes = list_there world asked.0.list rows.0 rows.1 in
    subst (λ s. EndsAt world f (list_of s ++ rest) p) (sym asked.1)
    (fails_later world f asked.0.list bytes.0 rest p bytes.1 ends)

module _ (f : List ℕ → Type 0) (world : World) (metadata : List ℕ) (request : ChangesRequest) where
  abbrev both_stop : List ℕ → Type 0
  both_stop = EndsAt world f (both_lists metadata request)

  pub no_earlier : (e : RunFault)
      → MayEnd (selected_rows world metadata request.earlier)
      (EndsAt world f (list_of (selected metadata request.earlier))) ⊥ e
      → MayEnd (both_rows world metadata request) both_stop ⊥ e
  unfolding both_rows
  no_earlier e h =
      let mine = list_of (selected metadata request.earlier) in
      first_ends both_stop ⊥ (EndsAt world f mine) (selected_rows world metadata request.earlier) _ e
      (λ p m. ends_first world f mine (list_of (selected metadata request.later)) p m) h

  module _ (earlier : SelectedRows) (was : selected_rows world metadata request.earlier ≡ Ok earlier) where
    pub no_later : (e : RunFault)
        → MayEnd (selected_rows world metadata request.later)
        (EndsAt world f (list_of (selected metadata request.later))) ⊥ e
        → MayEnd (both_rows world metadata request) both_stop ⊥ e
    unfolding both_rows
    no_later e h =
        then_ends both_stop ⊥ (selected_rows world metadata request.earlier) _ earlier e was
        (first_ends both_stop ⊥ (EndsAt world f (list_of (selected metadata request.later)))
        (selected_rows world metadata request.later) _ e
        (λ p ends. behind_list world f (list_of (selected metadata request.later)) p ends metadata request.earlier earlier
        was) h)

    pub both_there : (later : SelectedRows) → selected_rows world metadata request.later ≡ Ok later
        → both_rows world metadata request ≡ Ok (planned_of (leaves_out request earlier later) earlier later)
    unfolding both_rows
    both_there later is = rw (was, is) refl

-- ---- no more rows than were selected

fewer : (p : Row → Bool) (rows : List Row) → length (filter p rows) ≤ length rows
fewer p [] = omega arith
fewer p (row ∷ rows) =
    let rest = fewer p rows in
    elim (p row) as (λ b. length (cond b (row ∷ filter p rows) (filter p rows)) ≤ length (row ∷ rows))
    [ true ↦ omega (arith, rest) | false ↦ omega (arith, rest) ]

pub few_planned : (out : Bool) (earlier later : SelectedRows) (both : BothRows) → both ≡ planned_of out earlier later
    → length earlier.rows ≤ 65536 → length later.rows ≤ 65536
    → (length both.earlier.rows ≤ 65536) × (length both.later.rows ≤ 65536)
few_planned true earlier later both is few its =
    let a = fewer (λ row. not (is_shared later.rows row)) earlier.rows in
    let b = fewer (λ row. not (is_shared earlier.rows row)) later.rows in
    subst (λ (x : BothRows). (length x.earlier.rows ≤ 65536) × (length x.later.rows ≤ 65536)) (sym is)
    (omega (arith, few, a), omega (arith, its, b))
few_planned false earlier later both is few its =
    subst (λ (x : BothRows). (length x.earlier.rows ≤ 65536) × (length x.later.rows ≤ 65536)) (sym is) (few, its)
