-- What interning a path leaves.
use Rattle.std.proofs.Common.{◌≡◌, ℕ, ◌≤◌, List, [], ◌∷◌, ◌++◌, length, inl, inr, sym, subst}
use Rattle.path_arena.specs.Arena.{HasNot, Interned}
use Rattle.ice_state_entries.specs.Short.{AreShort}
use Rattle.ice_state_entries.proofs.Lists.{all_push}

pub interned_new : (ss : List (List ℕ)) (s : List ℕ) (ts : List (List ℕ)) → Interned ss s ts → HasNot ss s →
    ts ≡ ss ++ s ∷ []
interned_new ss s ts interned none =
    elim interned [ inl known ↦ absurd (none known.0.0 known.0.1 known.0.2) | inr new ↦ new.1 ]

pub interned_known : (ss : List (List ℕ)) (s : List ℕ) (ts : List (List ℕ)) → Interned ss s ts → (HasNot ss s → ⊥) →
    ts ≡ ss
interned_known ss s ts interned known =
    elim interned [ inl same ↦ same.1 | inr new ↦ absurd (known new.0) ]

pub short_interned : (ss : List (List ℕ)) (s : List ℕ) (ts : List (List ℕ)) → Interned ss s ts → AreShort ss →
    length s ≤ 65535 → AreShort ts
short_interned ss s ts interned short fits =
    elim interned [
      | inl same ↦ subst AreShort (sym same.1) short
      | inr new ↦ subst AreShort (sym new.1) (all_push (λ path. length path ≤ 65535) ss s short fits)
    ]
