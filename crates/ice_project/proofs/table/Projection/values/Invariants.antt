use Rattle.std.proofs.Common.{◌≡◌, ◌++◌, drop}
use Rattle.std.specs.Option.{option_map}
use Rattle.ice_transform.specs.Values.{value_of}
use Rattle.ice_project.specs.Projection.{values}
use Rattle.ice_project.proofs.table.Projection.values.Given as goal

abbrev pub invariant-literals : goal.invariant-literals
invariant-literals l =
    option_map (λ more. l.found ++ more) (values (value_of l.self.transform.now l.self.source.now)
    (drop l.literal-index l.literals))
    ≡ values (value_of l.self.transform.now l.self.source.now) l.literals
