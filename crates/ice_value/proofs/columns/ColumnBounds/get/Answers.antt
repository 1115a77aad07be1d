use Rattle.std.proofs.Common.{ap, w32, rules, List, ℕ, Option, Bor}
use Rattle.std.specs.Prelude.{option_map}
use Rattle.std.proofs.lemmas.Int.{to_z-of_z}
use Rattle.ice_value.proofs.Pairs.{last_bound}
use Rattle.ice_value.specs.Pairs.{pairs_in}
use Rattle.ice_value.proofs.columns.ColumnBounds.get.Goals as goal

pub returns-in-Some : goal.returns-in-Some
returns-in-Some c =
    rw (← c.self.view_is, ← last_bound c.args.column (pairs_in c.self.inside.pairs))
    (ap (λ (o : Option (Bor (List ℕ))). option_map (λ (b : Bor (List ℕ)). b.now) o)
    (rw (to_z-of_z w32 c.args.column (search rules), c.as_slice.ensures, c.in-Some.is) at c.find_last.ensures))

pub returns-in-None : goal.returns-in-None
returns-in-None c =
    rw (← c.self.view_is, ← last_bound c.args.column (pairs_in c.self.inside.pairs))
    (ap (λ (o : Option (Bor (List ℕ))). option_map (λ (b : Bor (List ℕ)). b.now) o)
    (rw (to_z-of_z w32 c.args.column (search rules), c.as_slice.ensures, c.in-None.is) at c.find_last.ensures))
