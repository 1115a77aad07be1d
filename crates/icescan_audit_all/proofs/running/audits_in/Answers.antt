use Rattle.std.proofs.Common.{◌∙◌, List, map, ap}
use Rattle.std.proofs.lemmas.Result.{err_from_is_err_and}
use Rattle.icescan_audit_all.specs.declared.listed.Listed.{Listed}
use Rattle.icescan_audit_all.proofs.running.audits_in.Goals as goal

pub returns-in_err-listed-clause-stops : goal.returns-in_err-listed-clause-stops
returns-in_err-listed-clause-stops g c =
    let p = err_from_is_err_and c.from_residual.result c.from_residual.ensures.1 in
    rw (p.1, p.2) c.in_err-listed.ensures.stops

pub returns-in_err-kept-clause-stops : goal.returns-in_err-kept-clause-stops
returns-in_err-kept-clause-stops g c =
    let p = err_from_is_err_and c.from_residual-in_err-kept.result c.from_residual-in_err-kept.ensures.1 in
    rw (p.1, p.2) c.in_err-kept.ensures.stops

pub returns-in_err-audits-clause-stops : goal.returns-in_err-audits-clause-stops
returns-in_err-audits-clause-stops g c =
    let p = err_from_is_err_and c.from_residual-in_err-audits.result c.from_residual-in_err-audits.ensures.1 in
    rw (p.1, p.2) c.in_err-audits.ensures.stops

pub returns-clause-found : goal.returns-clause-found
returns-clause-found g c =
    let same = ap (λ (ls : List Listed). map (λ (l : Listed). l.snapshot) ls) c.as_slice-lent.ensures.value in
    record {
      each = c.in_ok-audits.ensures.read;
      all = c.in_ok-audits.ensures.each ∙ same ∙ c.in_ok-listed.ensures.each;
    }
