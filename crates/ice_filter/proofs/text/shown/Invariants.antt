use Rattle.std.proofs.Common.{◌≡◌, [], drop}
use Rattle.ice_filter.specs.Pieces.{put_all}
use Rattle.ice_filter.proofs.text.shown.Given as goal

-- the texts so far after the other parts
abbrev pub invariant-parts : goal.invariant-parts
invariant-parts l = put_all l.pieces (drop l.part-index l.parts) ≡ put_all [] l.parts
