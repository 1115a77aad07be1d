-- What is told of bytes that reads gave.
use Rattle.std.proofs.Common.{◌≡◌, ◌+◌, ◌<◌, ◌≤◌, ℕ, zero, suc, Bool, true, false, List, [], ◌∷◌, Option, Some, None}
use Rattle.std.proofs.Common.{length}
use Rattle.std.proofs.Common.{arith, drop, refl, subst, sym, ⊎_elim, ap, ◌∙◌}
use Rattle.std.specs.Prelude.{if◌then◌else◌, slice_get}
use Rattle.ice_desk.proofs.Taking.{below_or_at, taken_before, taken_here}
use Rattle.ice_desk.specs.Given.{AreSlotsGiven, Giving}
use Rattle.ice_manifest_reading.specs.declared.row.Row.{Row}
use Rattle.ice_state.specs.Contents.{Content, IsOf, is_row_taken, took, took_at}
use Rattle.ice_state.specs.Scans.{Scanned, by_row_path}
use Rattle.icescan_requests.proofs.GivenPlans.{more_rows, more_rows_plans}
use Rattle.icescan_text.specs.declared.request.Request.{Request}
use Rattle.icescan_explain.specs.AnyFiles.{IsAnExplanation}
use Rattle.icescan_explain.specs.Explanations.{tests_for}
use Rattle.icescan_explain.specs.RowsTold.{AreToldOf}
use Rattle.icescan_explain.specs.declared.manifests.Explanation.{Explanation}
use Rattle.icescan_explain.specs.declared.tests.FilterTests.{FilterTests}
use Rattle.icescan_explain.specs.declared.verdict.Verdict.{Verdict}

-- one more manifest, from the bytes that a read of its path gave
pub took_row : (gives : Giving) (scan : Scanned) (c : Content) (rows : List Row) (i : ℕ) (row : Row) (bytes : List ℕ)
    → slice_get rows i ≡ Some row → gives row.path (Some bytes) → AreSlotsGiven gives scan rows c
    → AreSlotsGiven gives scan rows (took_at scan c rows i bytes)
took_row gives scan [] [] i row bytes is g h = tt
took_row gives scan [] (r ∷ rs) i row bytes is g h = tt
took_row gives scan (s ∷ ss) [] i row bytes is g h = tt
took_row gives scan (Some x ∷ ss) (r ∷ rs) zero row bytes is g h = h
took_row gives scan (None ∷ ss) (r ∷ rs) zero row bytes is g h =
    let same : r ≡ row = cc in ((bytes, subst (λ (q : Row). gives q.path (Some bytes)) (sym same) g, refl), h.1)
took_row gives scan (s ∷ ss) (r ∷ rs) (suc i) row bytes is g h = (h.0, took_row gives scan ss rs i row bytes is g h.1)

-- the rows before the next one are taken
pub taken_so_far : (scan : Scanned) (c : Content) (n : ℕ) (bytes : List ℕ) (b : Bool) → IsOf scan c
    → (b ≡ true → n < length scan.wanted) → ((j : ℕ) → j < n → is_row_taken c j ≡ true)
    → (j : ℕ) → j < (if b then n + 1 else n) → is_row_taken (if b then took scan c n bytes else c) j ≡ true
taken_so_far scan c n bytes false of_scan within so_far j l = so_far j l
taken_so_far scan c n bytes true of_scan within so_far j l = ⊎_elim
    (λ below. taken_before scan c scan.wanted n j bytes (so_far j below))
    (λ e. ap (is_row_taken (took scan c n bytes)) e
    ∙ taken_here scan c scan.wanted n bytes of_scan (omega (arith, within refl, of_scan)))
    (below_or_at j n l)

-- nothing stands behind the last row
pub none_after : (rows : List Row) (n : ℕ) → drop n rows ≡ [] → length rows ≤ n
none_after [] n h = omega arith
none_after (row ∷ rows) zero h = absurd cc
none_after (row ∷ rows) (suc n) h = let later = none_after rows n h in omega (arith, later)

-- reads that may give more
module _ (gives more : Giving) (wider : (path : List ℕ) (found : Option (List ℕ)) → gives path found → more path found)
  where
    more_told : (tests : FilterTests) (rows : List Row) (told : List Verdict) → AreToldOf gives tests rows told
        → AreToldOf more tests rows told
    more_told tests [] told h = h
    more_told tests (row ∷ rows) told h = (
      h.0,
      h.1,
      (h.2.0, λ wanted. wider row.path _ (h.2.1 wanted), h.2.2),
      more_told tests rows h.1 h.3,
      h.4,
    )

    pub more_explanations : (metadata : List ℕ) (request : Request) (x : Explanation)
        → IsAnExplanation gives metadata request x → IsAnExplanation more metadata request x
    more_explanations metadata request x h = record {
      selection = h.selection;
      rows = h.rows;
      asked = h.asked;
      listed = more_rows gives more wider h.selection.list h.rows h.listed;
      planned = more_rows_plans gives more wider h.selection.specs h.selection.filter.parts h.rows x.plan h.planned;
      told = more_told (tests_for h.selection request) (by_row_path h.rows) x.verdicts h.told;
      kept = h.kept;
    }
