-- The way from a snapshot to its ancestors, step by step.
use Rattle.std.proofs.Common.{◌≡◌, ◌<◌, ◌-◌, ℕ, zero, suc, ℤ, Bool, true, false, arith, refl}
use Rattle.std.proofs.Common.{Option, Some, None}
use Rattle.std.specs.Prelude.{Result, Ok, Err, if◌then◌else◌}
use Rattle.std.specs.Ordering.{int_eq}
use Rattle.contract_words.specs.Outcome.{◌>>=◌}
use Rattle.ice_meta.specs.declared.table.Table.{Table}
use Rattle.icescan_changes.specs.Lineage.{by_parent, came_from, followed, follows}
use Rattle.icescan_text.specs.declared.lineage_fault.LineageFault.{LineageFault}
use Rattle.icescan_text.specs.declared.lineage_fault.LineageFault.TheVariants as lineage

-- at first no snapshot is none that is an append
pub none_yet : (x : Result Unit LineageFault) → (x >>= λ _. followed None) ≡ x
none_yet (Ok tt) = refl
none_yet (Err e) = refl

module _ (table : Table) (earlier : ℤ) (steps : ℕ) (id : ℤ) (other : Option ℤ) (some : 0 < steps) where
  a_step : follows steps table earlier id
      ≡ (if int_eq id earlier then Ok tt else by_parent (follows (steps - 1) table earlier) id (came_from id table))
  a_step = by_steps steps some
    where
      by_steps : (n : ℕ) → 0 < n → follows n table earlier id
          ≡ (if int_eq id earlier then Ok tt else by_parent (follows (n - 1) table earlier) id (came_from id table))
      by_steps zero low = absurd (omega (arith, low))
      by_steps (suc n) low = let e : suc n - 1 ≡ n = omega arith in rw e refl

  -- the earlier snapshot is reached
  pub reached : int_eq id earlier ≡ true → (follows steps table earlier id >>= λ _. followed other) ≡ followed other
  reached is = rw (a_step, is) refl

  -- there is no way on
  pub no_way : int_eq id earlier ≡ false → came_from id table ≡ None
      → (follows steps table earlier id >>= λ _. followed other) ≡ Err lineage.NotAncestor
  no_way is none = rw (a_step, is, none) refl

  further : (x : Result Unit LineageFault) (appends : Bool)
      → ((x >>= λ _. followed (if appends then None else Some id)) >>= λ _. followed other)
      ≡ (x >>= λ _. followed (if appends then other else Some id))
  further (Ok tt) true = refl
  further (Ok tt) false = refl
  further (Err e) appends = refl

  -- one step to the parent
  pub back_to : (parent : ℤ) (appends : Bool) → int_eq id earlier ≡ false
      → came_from id table ≡ Some (parent, appends)
      → (follows steps table earlier id >>= λ _. followed other)
      ≡ (follows (steps - 1) table earlier parent >>= λ _. followed (if appends then other else Some id))
  back_to parent appends is from = rw (a_step, is, from) (further (follows (steps - 1) table earlier parent) appends)

-- no step is left
pub no_steps : (table : Table) (earlier : ℤ) (steps : ℕ) (id : ℤ) (other : Option ℤ) → steps ≡ 0
    → (follows steps table earlier id >>= λ _. followed other) ≡ Err lineage.NotAncestor
no_steps table earlier steps id other none = rw none refl
