use Rattle.std.proofs.Common.{◌≡◌, drop}
use Rattle.ice_meta_files.specs.MetadataNames.{digits_from}
use Rattle.ice_meta_files.proofs.names.number_of.Given as goal

-- the number so far, and what is left
abbrev pub invariant-digits : goal.invariant-digits
invariant-digits l = digits_from l.number (drop l.digit-index l.digits) ≡ digits_from 0 l.digits
