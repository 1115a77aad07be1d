-- How a state comes about on many machines, which hand states on as bytes.
use Rattle.std.specs.Prelude.{◌≡◌, ◌<◌, ℕ, true, List, length, Ok}
use Rattle.ice_state.specs.Contents.{Content, took}
use Rattle.ice_state.specs.Joins.{join}
use Rattle.ice_state.specs.Runs.{Run, empty, take, merge, takes}
use Rattle.ice_state.specs.Scans.{Scanned}
use Rattle.ice_state_bytes.specs.States.{Joins, nothing, state_at}

-- the empty state; a state that takes row i, whose manifest has these bytes; a state that another is merged into; one
-- that is written as bytes and read again; two that are written as bytes, which are joined and read
pub data Journey : Type 0 where
  begun : Journey
  taking : Journey → ℕ → List ℕ → Journey
  merging : Journey → Journey → Journey
  carried : Journey → Journey
  joined : Journey → Journey → Journey

-- the bytes are a state of this content
abbrev pub AreState : Scanned → List ℕ → List ℕ → Content → Type 0
AreState scan name bytes c = state_at scan name bytes ≡ Ok c

-- the content can be that of the journey's end
abbrev pub Ends : Scanned → List ℕ → Journey → Content → Type 0
Ends scan name begun c = c ≡ nothing scan
Ends scan name (taking j i bytes) c = (d : Content) × Ends scan name j d × (c ≡ took scan d i bytes)
Ends scan name (merging j k) c =
    (d : Content) × (e : Content) × Ends scan name j d × Ends scan name k e × (c ≡ join d e)
Ends scan name (carried j) c =
    (d : Content) × (bytes : List ℕ) × Ends scan name j d × AreState scan name bytes d × AreState scan name bytes c
Ends scan name (joined j k) c =
    (d : Content) × (e : Content) × (one : List ℕ) × (other : List ℕ) × (both : List ℕ)
    × Ends scan name j d × Ends scan name k e × AreState scan name one d × AreState scan name other e
    × Joins one other both × AreState scan name both c

-- what is taken and merged on the way
abbrev pub run_of : Journey → Run
run_of begun = empty
run_of (taking j i bytes) = take (run_of j) i bytes
run_of (merging j k) = merge (run_of j) (run_of k)
run_of (carried j) = run_of j
run_of (joined j k) = merge (run_of j) (run_of k)

-- each wanted row is taken, on whichever branch, by one machine or by many
abbrev pub TakesAll : Scanned → Run → Type 0
TakesAll scan run = (i : ℕ) → i < length scan.wanted → takes run i ≡ true
