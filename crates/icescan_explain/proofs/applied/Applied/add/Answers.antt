use Rattle.std.proofs.Common.{◌≡◌, ◌+◌, ◌∙◌, arith, cond, Some, None, ap, refl, subst, sym}
use Rattle.std.specs.Prelude.{IsSome, unwrap_or}
use Rattle.std.specs.HashMap as hash
use Rattle.std.specs.Str.{bytes_eq}
use Rattle.icescan_explain.specs.Applying.{times_in}
use Rattle.icescan_explain.specs.declared.applied.Applied.{Applied}
use Rattle.icescan_explain.proofs.Times.{at_bytes, more, same as same_key}
use Rattle.icescan_explain.proofs.applied.Applied.add.Goals as goal

pub returns-in-Some : goal.returns-in-Some
returns-in-Some c = λ q.
    let path = c.args.path.now in
    let old = c.args.self.now in
    let count = c.in-Some.count.now in
    let new : Applied = record { counts = c.get_mut.follows.lender (count + c.args.times) } in
    let there : Some count ≡ at_bytes old.counts path = c.in-Some.ensures.value in
    let same : count + c.args.times ≡ times_in old path + c.args.times =
    ap (λ o. unwrap_or o 0 + c.args.times) there in
    let written = (c.get_mut.follows.holds (count + c.args.times)).3 (subst IsSome there refl) in
    more path c.args.times old new
    (subst (λ n. hash.UpdatesBy same_key (λ k. bytes_eq path k.items) old.counts new.counts
    (Some n)) same written) q

pub returns : goal.returns
returns c = λ q.
    let key = c.in_ok-to_vec.field-0 in
    let old = c.args.self.now in
    let new : Applied = record { counts = c.insert.new.self } in
    let same : key.items ≡ c.args.path.now = c.in_ok-to_vec.ensures.items_if_clones_equal (λ y h e. e) in
    let none : None ≡ at_bytes old.counts c.args.path.now = c.in_default.ensures.value in
    let first : c.args.times ≡ times_in old key.items + c.args.times =
    (omega arith) ∙ ap (λ o. unwrap_or o 0 + c.args.times) none ∙ ap (λ bs. times_in old bs + c.args.times) (sym same) in
    subst (λ bs. times_in new q ≡ times_in old q + cond (bytes_eq q bs) c.args.times 0) same
    (more key.items c.args.times old new
    (subst (λ n. hash.UpdatesBy same_key (λ k. bytes_eq key.items k.items) old.counts new.counts (Some n)) first
    (subst (λ m. hash.UpdatesBy same_key (λ k. bytes_eq key.items k.items) m new.counts (Some c.args.times))
    c.get_mut.follows.holds-at-none c.in_ok-insert.ensures.updates)) q)
