-- What a parser stands for.
use Rattle.std.specs.Prelude.{List, reverse}
use Rattle.ice_filter.specs.declared.predicate.Predicate.{Predicate}
use Rattle.ice_filter.specs.declared.parts.Part.{Part}
use Rattle.ice_filter.specs.declared.parser.Parser.{Parser}
use Rattle.ice_filter.specs.Parsing.{State}

-- the parts so far, and the open filters with the innermost first
abbrev pub state_of : Parser → State (List (Part Predicate))
state_of p = record {
  place = p.place;
  now = p.now;
  outer = reverse p.outer.items;
  read = p.parts;
  predicates =
      p.predicates;
}
