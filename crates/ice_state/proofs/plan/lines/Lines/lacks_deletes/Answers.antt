use Rattle.std.proofs.Common.{◌≡◌, [], List, subst, sym, arith}
use Rattle.std.specs.List.{AllByRecursion}
use Rattle.std.proofs.lemmas.Grind.{common_steps}
use Rattle.ice_state.specs.declared.kept.segments.FileNumber.{FileNumber}
use Rattle.ice_state.specs.Lines.{entries_of, lines_at, OwnedLine, LacksDeletes}
use Rattle.ice_state.specs.Segments.{entries_at as kept_at}
use Rattle.ice_state.proofs.LinesAt.{lines_lack}
use Rattle.ice_state.proofs.plan.lines.Lines.lacks_deletes.Goals as goal

pub returns : goal.returns
returns c = λ t.
    let deletes = c.self.inside.deletes in
    let files = entries_of c.self.inside.files in
    let places = c.self.inside.places.now in
    let none : deletes.numbers.now ≡ [] = grind (arith, common_steps) in
    subst (λ (ls : List OwnedLine). AllByRecursion LacksDeletes ls) c.self.view_is
    (subst (λ (ns : List FileNumber). AllByRecursion LacksDeletes
    (lines_at (kept_at deletes.entries.now ns) files places))
    (sym none) (lines_lack files places))
