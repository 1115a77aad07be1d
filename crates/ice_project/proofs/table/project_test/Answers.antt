use Rattle.std.proofs.Common.{◌≡◌, ◌∙◌}
use Rattle.std.proofs.lemmas.Result.{IfOk-weaker}
use Rattle.ice_transform.specs.declared.transform.Transform.TheVariants.{Bucket, Truncate, Year, Month, Day, Hour}
use Rattle.ice_project.proofs.TableLines.{bucket_line, truncate_line, year_line, month_line, day_line, hour_line}
use Rattle.ice_project.proofs.table.project_test.Goals as goal

pub returns-in-Bucket : goal.returns-in-Bucket
returns-in-Bucket c =
    let is : c.args.transform.now ≡ Bucket c.in-Bucket.field-0 = cc in
    IfOk-weaker c.scattered.result _ _ (λ q h. h ∙ bucket_line c.args.transform.now c.in-Bucket.field-0
    c.args.source.now c.args.test.now is) c.scattered.ensures

pub returns-in-Truncate : goal.returns-in-Truncate
returns-in-Truncate c =
    let is : c.args.transform.now ≡ Truncate c.in-Truncate.width = cc in
    IfOk-weaker c.truncated.result _ _ (λ q h. h ∙ truncate_line c.args.transform.now c.in-Truncate.width
    c.args.source.now c.args.test.now is) c.truncated.ensures

pub returns-in-Year : goal.returns-in-Year
returns-in-Year c =
    let is : c.args.transform.now ≡ Year = cc in
    IfOk-weaker c.stepped.result _ _ (λ q h. h ∙ year_line c.args.transform.now c.args.source.now c.args.test.now is)
    c.stepped.ensures

pub returns-in-Month : goal.returns-in-Month
returns-in-Month c =
    let is : c.args.transform.now ≡ Month = cc in
    IfOk-weaker c.stepped-in-Month.result _ _ (λ q h. h ∙ month_line c.args.transform.now c.args.source.now
    c.args.test.now is) c.stepped-in-Month.ensures

pub returns-in-Day : goal.returns-in-Day
returns-in-Day c =
    let is : c.args.transform.now ≡ Day = cc in
    IfOk-weaker c.stepped-in-Day.result _ _ (λ q h. h ∙ day_line c.args.transform.now c.args.source.now c.args.test.now
    is) c.stepped-in-Day.ensures

pub returns-in-Hour : goal.returns-in-Hour
returns-in-Hour c =
    let is : c.args.transform.now ≡ Hour = cc in
    IfOk-weaker c.stepped-in-Hour.result _ _ (λ q h. h ∙ hour_line c.args.transform.now c.args.source.now
    c.args.test.now is) c.stepped-in-Hour.ensures
