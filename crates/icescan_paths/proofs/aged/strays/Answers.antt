use Rattle.std.proofs.Common.{◌∙◌, Bor, ℕ, List, ap, map}
use Rattle.std.proofs.lemmas.Result.{IfOk-weaker}
use Rattle.icescan_paths.specs.Paths.{has, lent}
use Rattle.icescan_paths.specs.Spelling.{plain}
use Rattle.icescan_paths.proofs.Alike.{beside_same}
use Rattle.icescan_paths.proofs.aged.strays.Goals as goal

pub returns : goal.returns
returns c =
    let paths = lent c.args.paths.items in
    let spelled = c.in_ok-plain.ensures ∙ c.deref-2.ensures.value ∙ c.in_ok-spelled.ensures
    ∙ ap (λ (ps : List (Bor (List ℕ))). map plain (lent ps)) c.deref.ensures.value in
    IfOk-weaker c.strays_beside.result _ _ (λ found is. is
    ∙ beside_same (lent c.new-exact.result.paths.items) paths (lent c.new-alike.result.paths.items) (map plain paths)
    c.new-exact.ensures (λ path. c.new-alike.ensures path ∙ ap (λ (ps : List (List ℕ)). has ps path) spelled)
    c.args.older_than_ms c.args.files.now) c.strays_beside.ensures
