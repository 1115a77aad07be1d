use Rattle.std.proofs.Common.{◌≡◌, ◌<◌, ◌+◌, ◌==◌, ℕ, false, true, arith, length, refl, sym}
use Rattle.std.proofs.lemmas.Result.{err_from_is_err_and}
use borrow.Author.Tests.{eqb-false, eqb-true}
use Rattle.icescan_files.specs.Bundles.{with_lines}
use Rattle.icescan_files.proofs.Lines.{last, no_line}
use Rattle.icescan_files.proofs.bundle_text.Front.finish.Goals as goal

some : (n : ℕ) → false ≡ (n == 0) → 0 < n
some n h = let k : n ≡ 0 → ⊥ = eqb-false n 0 (sym h) in omega arith

none : (n : ℕ) → true ≡ (n == 0) → n ≡ 0
none n h = eqb-true n 0 (sym h)

pub returns-then-is_empty : goal.returns-then-is_empty
returns-then-is_empty c =
    no_line (c.args.self.lines + 1) c.args.self.bundle c.args.self.begun.items
    (none (length c.args.self.begun.items) (rw c.as_slice-line.ensures.value at c.if-is_empty.ensures))

pub returns-in_err-add_line : goal.returns-in_err-add_line
unfolding with_lines
returns-in_err-add_line c =
    let p = err_from_is_err_and c.from_residual.result c.from_residual.ensures.1 in
    let l = some (length c.args.self.begun.items) (rw c.as_slice-line.ensures.value at c.if-is_empty.ensures) in
    rw (p.1, p.2) (λ m.
    let bad = rw c.as_slice-line.ensures.value at (c.in_err-add_line.ensures.err m) in
    rw (last c.args.self.begun.items c.requires.unbroken l, bad) refl)

pub returns : goal.returns
unfolding with_lines
returns c =
    let l = some (length c.args.self.begun.items) (rw c.as_slice-line.ensures.value at c.if-is_empty.ensures) in
    let line = rw c.as_slice-line.ensures.value at c.in_ok-add_line.ensures.ok in
    rw (last c.args.self.begun.items c.requires.unbroken l, line) refl
