use Rattle.std.proofs.Common.{sym, ap, ◌∙◌, subst}
use Rattle.path_arena.specs.Trees.{Trees, LieOnWalks}
use Rattle.path_arena.proofs.Walks.{walks_same}
use Rattle.path_arena.proofs.index.Index.reserve.Goals as goal

pub returns-then-len-places-clause-walks : goal.returns-then-len-places-clause-walks
returns-then-len-places-clause-walks c _ =
    subst (λ (t : Trees). LieOnWalks t c.args.strings.now.strings) (sym c.drop.view_is)
    c.in_ok-self-inside-in-Some.ensures.1

pub returns-else-len-places-clause-walks : goal.returns-else-len-places-clause-walks
returns-else-len-places-clause-walks c =
    walks_same c.args.self.now
    (record { tops = c.self.inside.tops.items; nodes = c.reserve.new.self.items; ids = 0 }) c.args.strings.now.strings
    (ap (λ (t : Trees). t.tops) c.self.view_is)
    (c.reserve.ensures.items ∙ ap (λ (t : Trees). t.nodes) c.self.view_is)
