use Rattle.std.proofs.Common.{subst, sym}
use Rattle.ice_state.specs.Segments.{Keeps, Segmented}
use Rattle.ice_state.proofs.kept.segments.Segments.make_room.Goals as goal

pub returns : goal.returns
returns c = subst (λ (s : Segmented). Keeps c.args.self.now s) (sym c.reserve.ensures) c.begin.ensures.keeps
