use Rattle.std.proofs.Common.{◌≡◌, ◌∷◌, [], ◌++◌, ◌∙◌, true, false, rules, refl, sym}
use Rattle.std.proofs.lemmas.List.{append-nil}
use Rattle.ice_filter.specs.Texts.{predicate_text}
use Rattle.ice_filter_relaxed.specs.Relaxing.{is_unasked}
use Rattle.ice_filter_relaxed.proofs.Alone.{refused_alone}
use Rattle.ice_filter_relaxed.proofs.relaxing.relax_predicate.Goals as goal

pub returns-then-branch-clause-part : goal.returns-then-branch-clause-part
returns-then-branch-clause-part c =
    let asked : is_unasked c.args.schema.now c.args.predicate.now ≡ true =
    sym (refused_alone c.args.schema.now c.args.predicate.now)
    ∙ sym (rw c.in_ok-filter.ensures at c.in_ok-is_refused.ensures) ∙ c.if-branch.true in
    rw asked refl

pub returns-then-branch-clause-texts : goal.returns-then-branch-clause-texts
returns-then-branch-clause-texts c =
    let asked : is_unasked c.args.schema.now c.args.predicate.now ≡ true =
    sym (refused_alone c.args.schema.now c.args.predicate.now)
    ∙ sym (rw c.in_ok-filter.ensures at c.in_ok-is_refused.ensures) ∙ c.if-branch.true in
    let text = rw c.in_ok-filter.ensures at c.as_str.ensures in
    let told : c.push.new.self ≡ c.args.unasked.now ++ predicate_text c.args.predicate.now ∷ [] = search rules in
    rw asked told

pub returns-clause-part : goal.returns-clause-part
returns-clause-part c =
    let asked : is_unasked c.args.schema.now c.args.predicate.now ≡ false =
    sym (refused_alone c.args.schema.now c.args.predicate.now)
    ∙ sym (rw c.in_ok-filter.ensures at c.in_ok-is_refused.ensures) ∙ c.if-branch.false in
    rw (asked, c.in_ok-copied_predicate.ensures) refl

pub returns-clause-texts : goal.returns-clause-texts
returns-clause-texts c =
    let asked : is_unasked c.args.schema.now c.args.predicate.now ≡ false =
    sym (refused_alone c.args.schema.now c.args.predicate.now)
    ∙ sym (rw c.in_ok-filter.ensures at c.in_ok-is_refused.ensures) ∙ c.if-branch.false in
    rw asked (sym (append-nil c.args.unasked.now))
