-- What a filled document is.
use Rattle.std.proofs.Common.{◌≡◌, Bool, true, false, refl}
use Rattle.std.proofs.Common.{cond}
use Rattle.serde_json.specs.Data as json
use Rattle.serde_json.specs.Data.{Data, Items}
use Rattle.serde_json.specs.Find.{get}
use Rattle.ice_meta_json.specs.Objects.{natural, set}
use Rattle.ice_meta_json.specs.Upgraded.{snapshots, sequence_number, lacks_number, some_lacks, numbered, each_numbered}
use Rattle.ice_meta_json.specs.Upgraded.{snapshot_items, filled, IsFilled}
use Rattle.ice_meta_json.specs.Laws.{FillsAll, FillsOnce, KeepsFilled, KeepsOtherMembers, KeepsOfSnapshots}
use Rattle.ice_meta_json.proofs.Members.{set_same, set_apart}

-- ---- snapshots

pub has_number : (d : Data) → lacks_number (numbered d) ≡ false
has_number d = here (lacks_number d) refl
  where
    here : (b : Bool) → lacks_number d ≡ b → lacks_number (numbered d) ≡ false
    here true e = rw e (rw (set_same sequence_number (natural 0) d) refl)
    here false e = rw e e

pub all_have : (ds : Items) → some_lacks (each_numbered ds) ≡ false
all_have json.no_items = refl
all_have (json.item d ds) = rw (has_number d) (all_have ds)

-- ---- documents

-- either nothing is left out, or the snapshots are set
pub either_filled : (P : Data → Type 0) (d : Data) → (some_lacks (snapshot_items d) ≡ false → P d)
    → (some_lacks (snapshot_items d) ≡ true → P (set snapshots (json.array (each_numbered (snapshot_items d))) d))
    → P (filled d)
unfolding filled
either_filled P d same other = here (some_lacks (snapshot_items d)) refl
  where
    here : (b : Bool) → some_lacks (snapshot_items d) ≡ b
        → P (cond b (set snapshots (json.array (each_numbered (snapshot_items d))) d) d)
    here true e = other e
    here false e = same e

set_is_filled : (ds : Items) (d : Data) → IsFilled (set snapshots (json.array (each_numbered ds)) d)
set_is_filled ds d = rw (set_same snapshots (json.array (each_numbered ds)) d) (all_have ds)

pub fills_all : FillsAll
fills_all d = either_filled IsFilled d (λ e. e) (λ e. set_is_filled (snapshot_items d) d)

pub keeps_filled : KeepsFilled
unfolding filled
keeps_filled d e = rw e refl

pub fills_once : FillsOnce
fills_once d = keeps_filled (filled d) (fills_all d)

pub others_stay : KeepsOtherMembers
others_stay d name other = either_filled (λ e. get name e ≡ get name d) d (λ e. refl)
    (λ e. set_apart name snapshots (json.array (each_numbered (snapshot_items d))) d other)

pub of_snapshots_stay : KeepsOfSnapshots
of_snapshots_stay d name other = here (lacks_number d) refl
  where
    here : (b : Bool) → lacks_number d ≡ b → get name (numbered d) ≡ get name d
    here true e = rw e (set_apart name sequence_number (natural 0) d other)
    here false e = rw e refl
