use Rattle.std.proofs.Common.{◌≡◌, ◌<◌, arith, ap, get_or, length, subst, sym, slice_get, Some}
use Rattle.std.proofs.lemmas.List.{length-map}
use Rattle.icescan_explain.specs.JsonLines.{verdict_told}
use Rattle.icescan_explain.proofs.LineTexts.{line_at}
use Rattle.icescan_explain.proofs.verdict_lines.VerdictLines.put_line.Goals as goal

pub returns-in-Text : goal.returns-in-Text
returns-in-Text g c = λ text at.
    let l = c.self.inside in
    let plan = l.explanation.now.plan in
    let vs = l.explanation.now.verdicts in
    let i = c.args.i in
    let v = c.index-as_slice-i.result in
    let lt : i < length vs =
    omega (arith, c.requires, ap length c.self.view_is, length-map vs (verdict_told l.format plan)) in
    let here : v ≡ get_or vs i v = rw c.as_slice.ensures at c.index-as_slice-i.is in
    let there = subst (λ ts. slice_get ts i ≡ Some text) (sym c.self.view_is) at in
    rw (line_at (verdict_told l.format plan) vs i v text lt here there, c.in-Text.is)
    (c.put_verdict.ensures plan c.self.invariant)

pub returns-in-Json : goal.returns-in-Json
returns-in-Json g c = λ text at.
    let l = c.self.inside in
    let plan = l.explanation.now.plan in
    let vs = l.explanation.now.verdicts in
    let i = c.args.i in
    let v = c.index-as_slice-i.result in
    let lt : i < length vs =
    omega (arith, c.requires, ap length c.self.view_is, length-map vs (verdict_told l.format plan)) in
    let here : v ≡ get_or vs i v = rw c.as_slice.ensures at c.index-as_slice-i.is in
    let there = subst (λ ts. slice_get ts i ≡ Some text) (sym c.self.view_is) at in
    rw (line_at (verdict_told l.format plan) vs i v text lt here there, c.in-Json.is)
    (c.put_verdict-in-Json.ensures plan c.self.invariant)
