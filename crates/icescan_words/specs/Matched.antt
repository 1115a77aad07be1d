-- What the parser found.
use Rattle.std.specs.Prelude.{ℕ, List, Option}
use Rattle.clap.specs.Words.{first_value, found_of}
use Rattle.clap.specs.declared.parser.matches.ArgMatches.{ArgMatches}

-- the value that the parser found for the option or path of this name
abbrev pub value_at : ArgMatches → List ℕ → Option (List ℕ)
value_at matches name = first_value (found_of matches) name
