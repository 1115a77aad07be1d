use Rattle.std.proofs.Common.{pos, Option, Result, sym, ap, subst}
use Rattle.contract_words.specs.Outcome.{Gives, ◌>>=◌}
use Rattle.avro_schema.specs.View.{tree}
use Rattle.avro_file.specs.Picking.{Typed}
use Rattle.ice_value.specs.declared.file_bounds.Summary.{Summary}
use Rattle.ice_manifest_fields.specs.declared.fault.FieldFault.{FieldFault}
use Rattle.ice_manifest_fields.specs.declared.fault.ListFault.TheVariants.{Memory}
use Rattle.ice_manifest_fields.specs.Fields.{asked}
use Rattle.ice_manifest_fields.specs.Naming.{in_list, told}
use Rattle.ice_manifest_reading.specs.Lists.{summary_in, summary_of}
use Rattle.ice_manifest_reading.proofs.SummariesSaid.{summary_itself}
use Rattle.ice_manifest_reading.proofs.summaries.summary_of.Goals as goal

pub returns-in-Some : goal.returns-in-Some
returns-in-Some c = λ v is.
    let t = tree c.args.item.now.schema.now in
    let r = c.in-Some.ensures v is in
    subst (λ (said : Result Summary FieldFault). Gives Memory (λ x. x) c.summary_in.result (told in_list said))
    (sym (summary_itself (t, v) _ r.2)) (c.summary_in.ensures t v c.requires is)

pub returns-in-None : goal.returns-in-None
unfolding summary_of
returns-in-None c = λ v is other.
    ap (λ (o : Option Typed). told in_list (asked (pos 508) o >>= summary_in)) (c.in-None.ensures v is)
