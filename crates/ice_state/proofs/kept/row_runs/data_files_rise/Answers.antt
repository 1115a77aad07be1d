use Rattle.std.proofs.Common.{◌∙◌, ap, filter, subst}
use Rattle.ice_value.specs.declared.file_content.FileContent.TheVariants.{Data}
use Rattle.ice_state.specs.Orders.{runs_at}
use Rattle.ice_state.specs.Pruning.{holds}
use Rattle.ice_state.specs.Rising.{HaveRisingPaths}
use Rattle.ice_state.specs.Slots.{contents}
use Rattle.ice_state.proofs.ByKind.{data_rise}
use Rattle.ice_state.proofs.kept.row_runs.data_files_rise.Goals as goal

pub returns : goal.returns
returns c = λ t.
    let cs = contents c.args.entries.now c.args.slots.now in
    let rise = c.rows_rise.ensures in
    subst HaveRisingPaths (ap (λ rows. filter (holds Data) (runs_at cs rows)) c.deref.ensures.value
    ∙ c.in_ok-found.ensures.same)
    (data_rise (runs_at cs c.deref.result.now) (rise.sorted t) (rise.once t))
