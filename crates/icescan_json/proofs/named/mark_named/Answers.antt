use Rattle.std.proofs.Common.{◌≡◌, ◌∙◌, add-one, ap, sym, suc, drop, length}
use Rattle.icescan_json.specs.Named.{with_lines, with_marks}
use Rattle.icescan_json.proofs.Marks.{drop_at, length_marks, line_at}
use Rattle.icescan_json.proofs.named.mark_named.Goals as goal

pub files-preserved : goal.files-preserved
files-preserved c =
    let places = c.args.plan.now.places in
    let i = c.files.i in
    let ps = c.positions.result.now in
    let es = c.equalities.result.now in
    let old = c.files.marks in
    let new = c.mark-in-files.new.marks in
    let both : new ≡ with_marks es (with_marks ps old) = c.mark-in-files.ensures ∙ ap (with_marks es) c.mark.ensures in
    let line = line_at places i ps es c.positions.ensures c.equalities.ensures in
    record {
      many = ap length both ∙ length_marks es (with_marks ps old) ∙ length_marks ps old ∙ c.files.invariant.many;
      left = ap (λ n. with_lines (drop n places) new) (add-one i) ∙ ap (with_lines (drop (suc i) places)) both
          ∙ sym (ap (λ lines. with_lines lines old) (drop_at places i _ line)) ∙ c.files.invariant.left;
    }
