use Rattle.std.proofs.Common.{◌≡◌, rules}
use Rattle.icescan_forms.specs.declared.format.Format.TheVariants as format
use Rattle.icescan_commands.proofs.forms.write_audit.Goals as goal

pub returns-in-Text-clause-written : goal.returns-in-Text-clause-written
returns-in-Text-clause-written g c =
    let asked : c.args.format ≡ format.Text = search rules in
    rw asked c.audit_file.ensures.written

pub returns-in-Json-clause-written : goal.returns-in-Json-clause-written
returns-in-Json-clause-written g c =
    let asked : c.args.format ≡ format.Json = search rules in
    rw asked c.audit_file_json.ensures.written

pub returns-in-Text-clause-front : goal.returns-in-Text-clause-front
returns-in-Text-clause-front g c =
    let asked : c.args.format ≡ format.Text = search rules in
    rw asked c.audit_file.ensures.front

pub returns-in-Json-clause-front : goal.returns-in-Json-clause-front
returns-in-Json-clause-front g c =
    let asked : c.args.format ≡ format.Json = search rules in
    rw asked c.audit_file_json.ensures.front

pub returns-in-Text-clause-given : goal.returns-in-Text-clause-given
returns-in-Text-clause-given g c =
    let asked : c.args.format ≡ format.Text = search rules in
    rw asked c.audit_file.ensures.given

pub returns-in-Json-clause-given : goal.returns-in-Json-clause-given
returns-in-Json-clause-given g c =
    let asked : c.args.format ≡ format.Json = search rules in
    rw asked c.audit_file_json.ensures.given
