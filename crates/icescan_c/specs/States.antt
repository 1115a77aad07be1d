-- What calls do to a state.
use Rattle.std.specs.Prelude.{◌≡◌, ◌≤◌, ◌⊎◌, ◌↔◌, ℕ, List, length, replicate, None}
use Rattle.std.specs.Prelude.{Result, Err, OnOk, OnErr, IsErrOf, IsOk, IsTrue}
use Rattle.ice_state.specs.Contents.{is_row_taken, took}
use Rattle.ice_state.specs.Joins.{join}
use Rattle.icescan_c.specs.Kept.{AreOfOneScan, AskedScan, Kept}
use Rattle.icescan_c_requests.specs.declared.endings.Refusal.{Refusal}
use Rattle.icescan_c_requests.specs.declared.endings.Refusal.TheVariants as refusal

-- the state of a scan in which no row is taken
abbrev pub untaken : AskedScan → Kept
untaken asked =
    record { question = asked.question; scan = asked.scan; content = replicate (length asked.scan.wanted) None }

-- a state takes the row i, whose manifest has these bytes
pub record TakesRow (before : Kept) (i : ℕ) (manifest : List ℕ) (ended : Result Unit Refusal) (after : Kept) : Type 0
  where
    pub scan : AreOfOneScan after before
    pub ok : OnOk ended (after.content ≡ took before.scan before.content i manifest)
    pub err : OnErr ended (after.content ≡ before.content)
    pub again : IsTrue (is_row_taken before.content i) → IsOk ended
    pub past : IsErrOf ended refusal.PastEnd ↔ (length before.scan.wanted ≤ i)
    pub causes : OnErr ended ((ended ≡ Err refusal.PastEnd) ⊎ (ended ≡ Err refusal.Memory))

-- a state takes over what another of the same scan took
pub record TakesOver (before other : Kept) (ended : Result Unit Refusal) (after : Kept) : Type 0 where
  pub scan : AreOfOneScan after before
  pub one_scan : OnOk ended (AreOfOneScan before other)
  pub ok : OnOk ended (after.content ≡ join before.content other.content)
  pub err : OnErr ended (after.content ≡ before.content)
  pub other_scan : IsErrOf ended refusal.OtherScan ↔ (AreOfOneScan before other → ⊥)
  pub causes : OnErr ended ((ended ≡ Err refusal.OtherScan) ⊎ (ended ≡ Err refusal.Memory))
