-- What follows objects that were let go.
use Rattle.std.proofs.Common.{◌≡◌, ℕ, zero, suc, ◌≤◌, List, [], ◌∷◌, length, drop, Option, Some, Ok, refl, sym, subst}
use Rattle.std.proofs.Common.{◌↔◌, arith}
use Rattle.avro_file.specs.declared.fault.AvroFault.{AvroFault}
use Rattle.avro_file.specs.declared.object.Object.{Object}
use Rattle.avro_file.specs.Value.{Value}
use Rattle.avro_file.specs.Ahead.{Ahead, running, refusing}
use Rattle.avro_file.specs.Files.{Next, Shows}
use Rattle.avro_file.specs.Passing.{Passes, PassesAll}

pub built_or_not : (old new : Ahead) (object : Object) → Next Shows old (Ok (Some object)) new → Passes old new
built_or_not (refusing f) new object is = absurd cc
built_or_not (running vs ending) new object is = (is.0, is.1, tt, is.3, is.4)

abbrev Behind : ℕ → List Value → Option AvroFault → Ahead → Type 0
Behind n vs ending new = (n ≤ length vs) × (new ≡ running (drop n vs) ending)

passed : (n : ℕ) (vs : List Value) (ending : Option AvroFault) (new : Ahead) → PassesAll n (running vs ending) new
    → Behind n vs ending new
passed zero vs ending new all = (omega arith, all)
passed (suc n) vs ending new all =
    let v = all.1.0 in
    let ws = all.1.1 in
    let rest = passed n ws ending new (subst (λ (a : Ahead). PassesAll n a new) all.1.4 all.2) in
    subst (λ (us : List Value). Behind (suc n) us ending new) (sym all.1.3) (omega (arith, rest.0), rest.1)

passing : (n : ℕ) (vs : List Value) (ending : Option AvroFault) (new : Ahead) → Behind n vs ending new
    → PassesAll n (running vs ending) new
passing zero vs ending new is = is.1
passing (suc n) [] ending new is = absurd (omega (arith, is.0))
passing (suc n) (v ∷ vs) ending new is = (
  running vs ending,
  (v, vs, tt, refl, refl),
  passing n vs ending new (omega (arith, is.0), is.1),
)

pub what_follows : (n : ℕ) (vs : List Value) (ending : Option AvroFault) (new : Ahead)
    → PassesAll n (running vs ending) new ↔ ((n ≤ length vs) × (new ≡ running (drop n vs) ending))
what_follows n vs ending new = (passed n vs ending new, passing n vs ending new)
