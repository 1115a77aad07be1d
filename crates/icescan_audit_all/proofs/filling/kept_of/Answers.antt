use Rattle.std.proofs.Common.{rules, refl, Some}
use Rattle.icescan_audit.proofs.AnyFiles.{given}
use Rattle.icescan_audit.proofs.Steps.{row_there}
use Rattle.icescan_audit_all.proofs.filling.kept_of.Goals as goal

pub returns-clause-read : goal.returns-clause-read
returns-clause-read c =
    let row = c.args.shared.now in
    let bytes = c.args.bytes.now in
    let known = rw (c.as_slice.ensures, c.get-row.ensures) at c.in_ok-spec.ensures.ok in
    let found = rw c.get-row.ensures at c.in_ok-entries.ensures.found in
    let is = row_there (λ path. ⊥) (λ path. Some bytes) c.args.class.now.basis row c.in_ok-spec.spec.now known bytes
    (given row.path bytes) found.0 found.1 in
    record {
      schema = search rules;
      deletes = refl;
      row_is = c.in_ok-same.ensures;
      read = rw (c.from_vec.ensures, found.2, found.3, found.4, c.new-findings.ensures, c.new-live.ensures.items) is;
    }
