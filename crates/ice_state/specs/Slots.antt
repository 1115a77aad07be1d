-- How a state keeps what its manifests gave: by a segment and the numbers of entries there. No public contract cites
-- these words.
use Rattle.std.specs.Prelude.{◌<◌, List, length, map, Option, option_map, IfSome}
use Rattle.std.specs.List.{AllByRecursion}
use Rattle.ice_state_entries.specs.Kept.{entries_at}
use Rattle.ice_state.specs.declared.kept.ordered.Ordered.{Ordered}
use Rattle.ice_state.specs.declared.kept.taken.Taken.{Taken}
use Rattle.ice_state.specs.declared.kept.taken.Taken.TheVariants as taken
use Rattle.ice_state.specs.Contents.{Content}
use Rattle.ice_state.specs.Orders.{AreOrdered}
use Rattle.ice_state.specs.Readings.{Reading, Good, Bad}
use Rattle.ice_state.specs.Segments.{Segmented, segment_at}

-- what a manifest gave that was taken
abbrev pub given : Segmented → Taken → Reading
given kept (taken.Good ordered) = Good (entries_at (segment_at kept ordered.segment) ordered.numbers)
given kept (taken.Bad fault) = Bad fault

-- its segment is there, each of its numbers stands for an entry of it, and the entries are in order
abbrev pub IsIn : Segmented → Ordered → Type 0
IsIn kept ordered = (ordered.segment < length kept) × AreOrdered (segment_at kept ordered.segment) ordered

abbrev pub HasNumbers : Segmented → Taken → Type 0
HasNumbers kept (taken.Good ordered) = IsIn kept ordered
HasNumbers kept (taken.Bad fault) = Unit {0}

-- the content of slots
abbrev pub contents : Segmented → List (Option Taken) → Content
contents kept slots = map (option_map (given kept)) slots

abbrev pub HaveNumbers : Segmented → List (Option Taken) → Type 0
HaveNumbers kept slots = AllByRecursion (λ slot. IfSome slot (HasNumbers kept)) slots
