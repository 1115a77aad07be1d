use Rattle.std.proofs.Common.{◌≡◌, ◌==◌, ◌&&◌, ◌∙◌, false, ap, length, not, sym}
use Rattle.std.specs.Str.{bytes_eq}
use Rattle.std.proofs.lemmas.Result.{err_from_is_err_and}
use Rattle.ice_state_bytes.specs.Faults.{of_envelope}
use Rattle.ice_state_bytes.proofs.States.{first_other, other_at, refused_at, same_at, same_both, second_other}
use Rattle.ice_state_bytes.proofs.reading.state_of_bytes.Goals.{then-ne-via-then-ne}
use Rattle.ice_state_bytes.proofs.reading.state_of_bytes.Goals.{then-ne-via-else-ne+then-rows-wanted}
use Rattle.ice_state_bytes.proofs.reading.state_of_bytes.Goals as goal

pub returns-in_err-envelope-clause-exact : goal.returns-in_err-envelope-clause-exact
returns-in_err-envelope-clause-exact c =
    let p = err_from_is_err_and c.from_residual.result c.from_residual.ensures.1 in
    rw (p.1, p.2) (λ other. refused_at c.args.scan.now c.args.name.now c.args.bytes.now c.in_err-envelope.field-0.0
    (c.in_err-envelope.ensures (λ is. other (ap of_envelope is))))

pub returns-then-ne-clause-exact : goal.returns-then-ne-clause-exact
returns-then-ne-clause-exact c =
    let p = c.in_ok-envelope.envelope in
    let scan = c.args.scan.now in
    let name = c.args.name.now in
    let names = c.ne.ensures ∙ ap not ((λ k. bytes_eq ((c.as_slice.ensures ∙ c.scan.ensures.scan) k)
    (c.as_slice-2.ensures k))) in
    λ _. other_at scan name c.args.bytes.now p c.in_ok-envelope.ensures (elim c.then-ne.branch as
    (λ _. (bytes_eq p.scan name && (p.rows == length scan.wanted)) ≡ false) [
      | then-ne-via-then-ne w ↦ first_other (bytes_eq p.scan name) (p.rows == length scan.wanted)
          (sym names ∙ w.if-ne.true)
      | then-ne-via-else-ne+then-rows-wanted w ↦
          second_other (bytes_eq p.scan name) p.rows (length scan.wanted)
          (λ is. w.if-rows-wanted.true (w.rows.ensures ∙ is ∙ sym (ap length w.wanted.ensures)))
    ])

pub returns-clause-exact : goal.returns-clause-exact
returns-clause-exact c =
    let p = c.in_ok-envelope.envelope in
    let scan = c.args.scan.now in
    let name = c.args.name.now in
    let names = c.ne.ensures ∙ ap not ((λ k. bytes_eq ((c.as_slice.ensures ∙ c.scan.ensures.scan) k)
    (c.as_slice-2.ensures k))) in
    let test = same_both (bytes_eq p.scan name) p.rows (length scan.wanted) (sym names ∙ c.if-ne.false)
    (sym c.rows.ensures ∙ c.if-rows-wanted.false ∙ ap length c.wanted.ensures) in
    rw (same_at scan name c.args.bytes.now p c.in_ok-envelope.ensures test, ← c.sections.ensures.sections)
    c.state_of_sections.ensures.exact
