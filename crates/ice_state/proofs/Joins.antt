-- The laws of the union.
use Rattle.std.proofs.Common.{◌≡◌, ◌||◌, List, [], ◌∷◌, refl, ap, Bool, true, false, Option, Some, None}
use Rattle.ice_manifest_reading.specs.declared.row.Row.{Row}
use Rattle.ice_state.specs.Readings.{Reading}
use Rattle.ice_state.specs.Contents.{Content, World, slot_of, slots_of, or_else}
use Rattle.ice_state.specs.Joins.{join, either, Agree, AgreeAt}
use Rattle.ice_state.specs.Scans.{Scanned}

or_else-idem : (s : Option Reading) → or_else s s ≡ s
or_else-idem None = refl
or_else-idem (Some r) = refl

or_else-none : (s : Option Reading) → or_else s None ≡ s
or_else-none None = refl
or_else-none (Some r) = refl

-- one slot of a union
join_slot : (world : World) (scan : Scanned) (t u : Bool) (row : Row)
    → or_else (slot_of world scan t row) (slot_of world scan u row) ≡ slot_of world scan (t || u) row
join_slot world scan true true row = or_else-idem (slot_of world scan true row)
join_slot world scan true false row = or_else-none (slot_of world scan true row)
join_slot world scan false u row = refl

-- in a world, a union is that of the sets
pub join-content : (world : World) (scan : Scanned) (ts us : List Bool) (rows : List Row)
    → join (slots_of world scan ts rows) (slots_of world scan us rows) ≡ slots_of world scan (either ts us) rows
join-content world scan [] us rows = refl
join-content world scan (t ∷ ts) [] [] = refl
join-content world scan (t ∷ ts) (u ∷ us) [] = refl
join-content world scan (t ∷ ts) [] (row ∷ rows) = refl
join-content world scan (t ∷ ts) (u ∷ us) (row ∷ rows) = rw (
  join_slot world scan t u row,
  join-content world scan ts us
      rows,
) refl

or_else-assoc : (a b c : Option Reading) → or_else (or_else a b) c ≡ or_else a (or_else b c)
or_else-assoc (Some r) b c = refl
or_else-assoc None b c = refl

pub join-assoc : (a b c : Content) → join (join a b) c ≡ join a (join b c)
join-assoc [] b c = refl
join-assoc (x ∷ a) [] c = refl
join-assoc (x ∷ a) (y ∷ b) [] = refl
join-assoc (x ∷ a) (y ∷ b) (z ∷ c) = rw (or_else-assoc x y z, join-assoc a b c) refl

pub join-idem : (a : Content) → join a a ≡ a
join-idem [] = refl
join-idem (None ∷ a) = ap (λ x. None ∷ x) (join-idem a)
join-idem (Some r ∷ a) = ap (λ x. Some r ∷ x) (join-idem a)

pub join-comm : (a b : Content) → Agree a b → join a b ≡ join b a
join-comm [] [] h = refl
join-comm [] (y ∷ b) h = refl
join-comm (x ∷ a) [] h = refl
join-comm (None ∷ a) (None ∷ b) h = ap (λ x. None ∷ x) (join-comm a b h.1)
join-comm (None ∷ a) (Some q ∷ b) h = ap (λ x. Some q ∷ x) (join-comm a b h.1)
join-comm (Some r ∷ a) (None ∷ b) h = ap (λ x. Some r ∷ x) (join-comm a b h.1)
join-comm (Some r ∷ a) (Some q ∷ b) h = rw (join-comm a b h.1, h.0) refl

agree_none : (s : Option Reading) → AgreeAt s None
agree_none None = tt
agree_none (Some r) = tt

agree_self : (s : Option Reading) → AgreeAt s s
agree_self None = tt
agree_self (Some r) = refl

-- contents of one world agree
pub content-agree : (world : World) (scan : Scanned) (ts us : List Bool) (rows : List Row)
    → Agree (slots_of world scan ts rows) (slots_of world scan us rows)
content-agree world scan [] us rows = tt
content-agree world scan (t ∷ ts) us [] = tt
content-agree world scan (t ∷ ts) [] (row ∷ rows) = tt
content-agree world scan (false ∷ ts) (u ∷ us) (row ∷ rows) = (tt, content-agree world scan ts us rows)
content-agree world scan (true ∷ ts) (false ∷ us) (row ∷ rows) = (
  agree_none (slot_of world scan true row),
  content-agree world scan ts us rows,
)
content-agree world scan (true ∷ ts) (true ∷ us) (row ∷ rows) = (
  agree_self (slot_of world scan true row),
  content-agree
      world scan ts us rows,
)
