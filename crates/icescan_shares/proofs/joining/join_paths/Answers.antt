use Rattle.std.proofs.Common.{◌≡◌, ◌-◌, ◌∷◌, IfOk, drop, length, subst, sym, take}
use Rattle.std.proofs.lemmas.Result.{IfOk-weaker}
use Rattle.icescan_shares.specs.Given.{IsJoinOfGiven}
use Rattle.icescan_shares.proofs.Together.{all_joined, first_path}
use Rattle.icescan_shares.proofs.joining.join_paths.Goals as goal

pub returns : goal.returns
returns g c =
    let rest = take (length c.args.paths.now - 1) (drop 1 c.args.paths.now) in
    let split : c.args.paths.now ≡ c.index-paths-0.result ∷ rest =
    first_path c.args.paths.now c.index-paths-0.result c.requires c.index-paths-0.is in
    let given = rw c.as_str-path.ensures at c.in_ok-bytes.ensures.given in
    let is = rw c.deref.ensures.value at c.in_ok-first.ensures in
    subst (λ paths. IfOk c.join_rest.result (λ bytes. IsJoinOfGiven (g.K.Files.gives c.args.kept.now) paths bytes.items))
    (sym split) (IfOk-weaker c.join_rest.result _ _ (λ bytes. all_joined (g.K.Files.gives c.args.kept.now)
    c.in_ok-first.first c.index-paths-0.result rest c.in_ok-bytes.bytes.items bytes.items given is)
    c.join_rest.ensures)
