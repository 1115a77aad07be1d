-- Entries that are kept, and the plan of them.
use Rattle.std.proofs.Common.{◌≡◌, List, [], ◌∷◌, ap, filter, inl, inr, map, refl, true}
use Rattle.std.proofs.Common.{Ok}
use Rattle.std.specs.List.{Contains}
use Rattle.ice_manifest_reading.proofs.Sets.{cases_of, here, later, nowhere}
use Rattle.ice_manifest_reading.specs.Manifests.{entries}
use Rattle.ice_manifest_reading.specs.declared.entry.Entry.{Entry}
use Rattle.ice_manifest_reading.specs.declared.entry.Live.{Live}
use Rattle.ice_state.proofs.Elements.{filtered}
use Rattle.ice_state.specs.Lines.{OwnedLine}
use Rattle.ice_state.specs.Outcomes.{first_or}
use Rattle.ice_state.specs.Pruning.{Pruner, holds, keeps, kept, same_content}
use Rattle.ice_state.specs.declared.fault.FinishFault.{FinishFault}
use Rattle.ice_value.specs.declared.file_content.FileContent.{FileContent}
use Rattle.ice_value.specs.declared.file_content.FileContent.TheVariants.{Data, EqualityDeletes, PositionDeletes}

pub in_map : {X Y : Type 0} (f : X → Y) (xs : List X) (x : X) → Contains xs x → Contains (map f xs) (f x)
in_map f [] x i = absurd (nowhere x i)
in_map f (y ∷ ys) x i = elim (cases_of y ys x i) as (λ _. Contains (f y ∷ map f ys) (f x)) [
  | inl e ↦ here (f y) (map f ys) (f x) (ap f e)
  | inr j ↦ later (f y) (map f ys) (f x) (in_map f ys x j)
]

from_entries : (found : List Live) (x : Entry) → Contains (entries found) x
    → (l : Live) × Contains found l × (l.entry ≡ x)
from_entries [] x i = absurd (nowhere x i)
from_entries (l ∷ found) x i =
    elim (cases_of l.entry (entries found) x i) as (λ _. (m : Live) × Contains (l ∷ found) m × (m.entry ≡ x)) [
      | inl e ↦ (l, here l found l refl, e)
      | inr j ↦ let w = from_entries found x j in (w.0, later l found w.0 w.1, w.2)
    ]

-- what is kept was live
pub from_kept : (p : Pruner) (found : List Live) (x : Entry) → Contains (kept p found) x
    → (l : Live) × Contains found l × (l.entry ≡ x)
from_kept p found x i =
    let w = from_entries (filter (keeps p) found) x i in
    (w.0, (filtered (keeps p) found w.0 w.1).0, w.2)

is_data : (content : FileContent) → same_content content Data ≡ true → content ≡ Data
is_data Data h = refl
is_data PositionDeletes h = cc
is_data EqualityDeletes h = cc

pub holds_data : (x : Entry) → holds Data x ≡ true → x.file.content ≡ Data
holds_data x h = is_data x.file.content h

-- a plan is what was made where there is no fault
pub made_is : (faults : List FinishFault) (made plan : List OwnedLine) → first_or faults made ≡ Ok plan → made ≡ plan
made_is [] made plan h = cc
made_is (fault ∷ faults) made plan h = absurd cc
