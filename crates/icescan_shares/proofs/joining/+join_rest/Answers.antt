use Rattle.std.proofs.Common.{rules, ◌≡◌, ◌<◌, ◌-◌, ◌∷◌, IfOk, drop, length, subst, sym, take}
use Rattle.std.proofs.lemmas.Result.{IfOk-weaker}
use Rattle.icescan_shares.specs.Together.{HasAlsoGiven}
use Rattle.icescan_shares.proofs.Together.{first_path, next_left, none_left}
use Rattle.icescan_shares.proofs.joining.+join_rest.Goals as goal

pub returns-then-is_empty : goal.returns-then-is_empty
returns-then-is_empty g t c =
    let none : length c.args.paths.now ≡ 0 = search rules in
    none_left (g.K.Files.gives c.args.kept.now) c.args.before.now c.args.paths.now c.in_ok-to_bytes.field-0.items none
    c.in_ok-to_bytes.ensures

pub returns : goal.returns
returns g t c =
    let some : 0 < length c.args.paths.now = search rules in
    let rest = take (length c.args.paths.now - 1) (drop 1 c.args.paths.now) in
    let split : c.args.paths.now ≡ c.index-paths-0.result ∷ rest =
    first_path c.args.paths.now c.index-paths-0.result some c.index-paths-0.is in
    let given = rw c.as_str-path.ensures at c.in_ok-bytes.ensures.given in
    let is = rw c.deref.ensures.value at c.in_ok-next.ensures in
    subst (λ paths. IfOk c.join_rest.result (λ bytes. HasAlsoGiven (g.K.Files.gives c.args.kept.now) c.args.before.now
    paths bytes.items)) (sym split) (IfOk-weaker c.join_rest.result _ _
    (λ bytes. next_left (g.K.Files.gives c.args.kept.now) c.args.before.now c.in_ok-next.next c.in_ok-both.both
    c.index-paths-0.result rest c.in_ok-bytes.bytes.items bytes.items c.requires given is c.in_ok-both.ensures)
    c.join_rest.ensures)
