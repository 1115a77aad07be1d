-- Which commits a machine makes, and how many of them each of those who commit.
use Rattle.std.specs.Prelude.{◌==◌, ℕ, zero, suc, ◌+◌, cond, List, [], ◌∷◌, ◌++◌, length}
use Rattle.ice_catalog.specs.declared.event.Event.{Event}
use Rattle.ice_catalog.specs.declared.event.Event.TheVariants as on
use Rattle.ice_catalog.specs.declared.event.Reply.{Reply}
use Rattle.ice_catalog.specs.declared.event.Reply.TheVariants as reply
use Rattle.ice_catalog_versions.specs.Histories.{History}
use Rattle.ice_catalog_changes.specs.declared.change.Commit.{Commit}

-- the commit of an event, where the reply says that it is made
abbrev pub commit_of : Event → Reply → List Commit
commit_of (on.Commit base change ids) (reply.Committed receipt) = record { change = change; ids = ids } ∷ []
commit_of e r = []

-- the commits that are made, in the order of the events
abbrev pub made : List Event → List Reply → List Commit
made [] rs = []
made (e ∷ es) [] = []
made (e ∷ es) (r ∷ rs) = commit_of e r ++ made es rs

-- a history with these commits behind its own
abbrev pub followed_by : History → List Commit → History
followed_by h commits = record { opening = h.opening; journal = h.journal ++ commits }

-- how many commits the seat s made, where `who` has the seat of each event
abbrev pub count_of : ℕ → List ℕ → List Event → List Reply → ℕ
count_of s [] es rs = 0
count_of s (x ∷ who) [] rs = 0
count_of s (x ∷ who) (e ∷ es) [] = 0
count_of s (x ∷ who) (e ∷ es) (r ∷ rs) = cond (x == s) (length (commit_of e r)) 0 + count_of s who es rs

-- what the first n seats have together
abbrev pub sum_of_seats : ℕ → (ℕ → ℕ) → ℕ
sum_of_seats zero count = 0
sum_of_seats (suc n) count = sum_of_seats n count + count n
