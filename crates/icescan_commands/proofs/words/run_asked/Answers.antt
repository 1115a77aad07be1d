use Rattle.std.proofs.Common.{refl, rules, ◌≡◌, ◌∙◌}
use Rattle.icescan_words.specs.declared.command.Command.TheVariants as command
use Rattle.icescan_commands.proofs.Beside.{none_beside, on_err_as, still_same}
use Rattle.icescan_commands.proofs.Refusals.{is_left, left_of, on_ok_as, ran_as}
use Rattle.icescan_commands.proofs.Reading.{any_count, counted_as}
use Rattle.icescan_commands.specs.Runs.{ended}
use Rattle.icescan_commands.proofs.words.run_asked.Goals as goal

pub returns-in-ListPlan-clause-ran : goal.returns-in-ListPlan-clause-ran
returns-in-ListPlan-clause-ran g c =
    let asked : c.args.asked.now ≡ command.ListPlan c.in-ListPlan.lists c.in-ListPlan.format = search rules in
    let told = c.list_plan.ensures.ran in
    rw asked (
      told.0,
      told.1,
      ran_as _ _ c.list_plan.result c.no_findings.result _ _
          c.no_findings.ensures.same told.2,
      c.no_findings.ensures.none,
    )

pub returns-in-Plan-clause-ran : goal.returns-in-Plan-clause-ran
returns-in-Plan-clause-ran g c =
    let asked : c.args.asked.now ≡
    command.Plan c.in-Plan.source c.in-Plan.request c.in-Plan.format c.in-Plan.workers c.in-Plan.path =
    search rules in
    let told = c.plan.ensures.ran in
    rw asked (
      told.0,
      told.1,
      ran_as _ _ c.plan.result c.no_findings-in-Plan.result _ _
          c.no_findings-in-Plan.ensures.same told.2,
      c.no_findings-in-Plan.ensures.none,
    )

pub returns-in-Commit-clause-ran : goal.returns-in-Commit-clause-ran
returns-in-Commit-clause-ran g c =
    let asked : c.args.asked.now ≡ command.Commit c.in-Commit.source c.in-Commit.request = search rules in
    let told = c.commit.ensures.ran in
    rw asked (
      told.0,
      told.1,
      ran_as _ _ c.commit.result c.no_findings-in-Commit.result _ _
          c.no_findings-in-Commit.ensures.same told.2,
      c.no_findings-in-Commit.ensures.none,
    )

pub returns-in-Show-clause-ran : goal.returns-in-Show-clause-ran
returns-in-Show-clause-ran g c =
    let asked : c.args.asked.now ≡ command.Show c.in-Show.source c.in-Show.format c.in-Show.path = search rules in
    let told = c.show.ensures.ran in
    rw asked (
      told.0,
      told.1,
      ran_as _ _ c.show.result c.no_findings-in-Show.result _ _
          c.no_findings-in-Show.ensures.same told.2,
      c.no_findings-in-Show.ensures.none,
    )

pub returns-in-Columns-clause-ran : goal.returns-in-Columns-clause-ran
returns-in-Columns-clause-ran g c =
    let asked : c.args.asked.now ≡
    command.Columns c.in-Columns.source c.in-Columns.target c.in-Columns.format c.in-Columns.path = search rules in
    let told = c.columns.ensures.ran in
    rw asked (
      told.0,
      told.1,
      ran_as _ _ c.columns.result c.no_findings-in-Columns.result _ _
          c.no_findings-in-Columns.ensures.same told.2,
      c.no_findings-in-Columns.ensures.none,
    )

pub returns-in-Explain-clause-ran : goal.returns-in-Explain-clause-ran
returns-in-Explain-clause-ran g c =
    let asked : c.args.asked.now ≡
    command.Explain c.in-Explain.source c.in-Explain.request c.in-Explain.format c.in-Explain.workers
    c.in-Explain.path = search rules in
    let told = c.explain.ensures.ran in
    rw asked (
      told.0,
      told.1,
      ran_as _ _ c.explain.result c.no_findings-in-Explain.result _ _
          c.no_findings-in-Explain.ensures.same told.2,
      c.no_findings-in-Explain.ensures.none,
    )

pub returns-in-Changes-clause-ran : goal.returns-in-Changes-clause-ran
returns-in-Changes-clause-ran g c =
    let asked : c.args.asked.now ≡
    command.Changes c.in-Changes.source c.in-Changes.request c.in-Changes.format c.in-Changes.workers
    c.in-Changes.path = search rules in
    let told = c.changes.ensures.ran in
    rw asked (
      told.0,
      told.1,
      ran_as _ _ c.changes.result c.no_findings-in-Changes.result _ _
          c.no_findings-in-Changes.ensures.same told.2,
      c.no_findings-in-Changes.ensures.none,
    )

pub returns-in-Drill-clause-ran : goal.returns-in-Drill-clause-ran
returns-in-Drill-clause-ran g c =
    let left = g.R.Read.remaining c.args.input.now in
    let asked : c.args.asked.now ≡ command.Drill c.in-Drill.asked = search rules in
    let none = c.no_findings-in-Drill in
    rw asked (
      left_of left,
      is_left left,
      ran_as _ _ c.drill.result none.result _ _ none.ensures.same
          c.drill.ensures.ran,
      none.ensures.none,
    )

pub returns-in-Locate-clause-ran : goal.returns-in-Locate-clause-ran
returns-in-Locate-clause-ran g c =
    let left = g.R.Read.remaining c.args.input.now in
    let asked : c.args.asked.now ≡ command.Locate c.in-Locate.folder c.in-Locate.located = search rules in
    let none = c.no_findings-in-Locate in
    rw asked (
      left_of left,
      is_left left,
      ran_as _ _ c.locate.result none.result _ _ none.ensures.same
          c.locate.ensures.ran,
      none.ensures.none,
    )

pub returns-in-Reachable-clause-ran : goal.returns-in-Reachable-clause-ran
returns-in-Reachable-clause-ran g c =
    let left = g.R.Read.remaining c.args.input.now in
    let asked : c.args.asked.now ≡
    command.Reachable c.in-Reachable.source c.in-Reachable.part c.in-Reachable.format c.in-Reachable.path =
    search rules in
    let none = c.no_findings-in-Reachable in
    rw asked (
      left_of left,
      is_left left,
      ran_as _ _ c.reachable.result none.result _ _ none.ensures.same
          c.reachable.ensures.ran,
      none.ensures.none,
    )

pub returns-in-Reachable-clause-stored : goal.returns-in-Reachable-clause-stored
returns-in-Reachable-clause-stored g c =
    let asked : c.args.asked.now ≡
    command.Reachable c.in-Reachable.source c.in-Reachable.part c.in-Reachable.format c.in-Reachable.path =
    search rules in
    rw asked refl

pub returns-in-Reachable-clause-given : goal.returns-in-Reachable-clause-given
returns-in-Reachable-clause-given g c =
    let asked : c.args.asked.now ≡
    command.Reachable c.in-Reachable.source c.in-Reachable.part c.in-Reachable.format c.in-Reachable.path =
    search rules in
    rw asked (counted_as _ c.reachable.result c.no_findings-in-Reachable.result
    c.no_findings-in-Reachable.ensures.same c.no_findings-in-Reachable.ensures.none c.reachable.ensures.given)

pub returns-in-Reachable-clause-stored_of_given : goal.returns-in-Reachable-clause-stored_of_given
returns-in-Reachable-clause-stored_of_given g c =
    let asked : c.args.asked.now ≡
    command.Reachable c.in-Reachable.source c.in-Reachable.part c.in-Reachable.format c.in-Reachable.path =
    search rules in
    rw asked tt

pub returns-in-Orphans-clause-ran : goal.returns-in-Orphans-clause-ran
returns-in-Orphans-clause-ran g c =
    let left = g.R.Read.remaining c.args.input.now in
    let asked : c.args.asked.now ≡
    command.Orphans c.in-Orphans.place c.in-Orphans.older_than_ms c.in-Orphans.format c.in-Orphans.path =
    search rules in
    let none = c.no_findings-in-Orphans in
    rw asked (
      left_of left,
      is_left left,
      ran_as _ _ c.orphans.result none.result _ _ none.ensures.same
          c.orphans.ensures.ran,
      none.ensures.none,
    )

pub returns-in-Orphans-clause-stored : goal.returns-in-Orphans-clause-stored
returns-in-Orphans-clause-stored g c =
    let asked : c.args.asked.now ≡
    command.Orphans c.in-Orphans.place c.in-Orphans.older_than_ms c.in-Orphans.format c.in-Orphans.path =
    search rules in
    rw asked refl

pub returns-in-Orphans-clause-given : goal.returns-in-Orphans-clause-given
returns-in-Orphans-clause-given g c =
    let asked : c.args.asked.now ≡
    command.Orphans c.in-Orphans.place c.in-Orphans.older_than_ms c.in-Orphans.format c.in-Orphans.path =
    search rules in
    rw asked (counted_as _ c.orphans.result c.no_findings-in-Orphans.result
    c.no_findings-in-Orphans.ensures.same c.no_findings-in-Orphans.ensures.none c.orphans.ensures.given)

pub returns-in-Orphans-clause-stored_of_given : goal.returns-in-Orphans-clause-stored_of_given
returns-in-Orphans-clause-stored_of_given g c =
    let asked : c.args.asked.now ≡
    command.Orphans c.in-Orphans.place c.in-Orphans.older_than_ms c.in-Orphans.format c.in-Orphans.path =
    search rules in
    rw asked tt

pub returns-in-Drill-clause-drilled : goal.returns-in-Drill-clause-drilled
returns-in-Drill-clause-drilled g c =
    let asked : c.args.asked.now ≡ command.Drill c.in-Drill.asked = search rules in
    let none = c.no_findings-in-Drill in
    rw asked (on_ok_as _ c.drill.result none.result none.ensures.same c.drill.ensures.drilled)

pub returns-in-Text-clause-ran : goal.returns-in-Text-clause-ran
returns-in-Text-clause-ran g c =
    let left = g.R.Read.remaining c.args.input.now in
    let asked : c.args.asked.now ≡ command.Text c.in-Text.text = search rules in
    let none = c.no_findings-in-Text in
    rw asked (
      left_of left,
      is_left left,
      ran_as _ _ c.tell.result none.result _ _ none.ensures.same c.tell.ensures,
      none.ensures.none,
    )

pub returns-in-ListPlan-clause-stored : goal.returns-in-ListPlan-clause-stored
returns-in-ListPlan-clause-stored g c =
    let asked : c.args.asked.now ≡ command.ListPlan c.in-ListPlan.lists c.in-ListPlan.format = search rules in
    rw asked refl

pub returns-in-Plan-clause-stored : goal.returns-in-Plan-clause-stored
returns-in-Plan-clause-stored g c =
    let asked : c.args.asked.now ≡
    command.Plan c.in-Plan.source c.in-Plan.request c.in-Plan.format c.in-Plan.workers c.in-Plan.path =
    search rules in
    rw asked refl

pub returns-in-Show-clause-stored : goal.returns-in-Show-clause-stored
returns-in-Show-clause-stored g c =
    let asked : c.args.asked.now ≡ command.Show c.in-Show.source c.in-Show.format c.in-Show.path = search rules in
    rw asked refl

pub returns-in-Columns-clause-stored : goal.returns-in-Columns-clause-stored
returns-in-Columns-clause-stored g c =
    let asked : c.args.asked.now ≡
    command.Columns c.in-Columns.source c.in-Columns.target c.in-Columns.format c.in-Columns.path = search rules in
    rw asked refl

pub returns-in-Explain-clause-stored : goal.returns-in-Explain-clause-stored
returns-in-Explain-clause-stored g c =
    let asked : c.args.asked.now ≡
    command.Explain c.in-Explain.source c.in-Explain.request c.in-Explain.format c.in-Explain.workers
    c.in-Explain.path = search rules in
    rw asked refl

pub returns-in-Changes-clause-stored : goal.returns-in-Changes-clause-stored
returns-in-Changes-clause-stored g c =
    let asked : c.args.asked.now ≡
    command.Changes c.in-Changes.source c.in-Changes.request c.in-Changes.format c.in-Changes.workers
    c.in-Changes.path = search rules in
    rw asked refl

pub returns-in-Locate-clause-stored : goal.returns-in-Locate-clause-stored
returns-in-Locate-clause-stored g c =
    let asked : c.args.asked.now ≡ command.Locate c.in-Locate.folder c.in-Locate.located = search rules in
    rw asked refl

pub returns-in-Drill-clause-stored : goal.returns-in-Drill-clause-stored
returns-in-Drill-clause-stored g c =
    let asked : c.args.asked.now ≡ command.Drill c.in-Drill.asked = search rules in
    rw asked refl

pub returns-in-Text-clause-stored : goal.returns-in-Text-clause-stored
returns-in-Text-clause-stored g c =
    let asked : c.args.asked.now ≡ command.Text c.in-Text.text = search rules in
    rw asked refl

pub returns-in-Audit-clause-stored : goal.returns-in-Audit-clause-stored
returns-in-Audit-clause-stored g c =
    let asked : c.args.asked.now ≡
    command.Audit c.in-Audit.source c.in-Audit.target c.in-Audit.format c.in-Audit.workers c.in-Audit.path =
    search rules in
    rw asked refl

pub returns-in-Commit-clause-stored : goal.returns-in-Commit-clause-stored
returns-in-Commit-clause-stored g c =
    let asked : c.args.asked.now ≡ command.Commit c.in-Commit.source c.in-Commit.request = search rules in
    rw (asked, c.no_findings-in-Commit.ensures.same) c.commit.ensures.stored

pub returns-in-Audit-clause-ran : goal.returns-in-Audit-clause-ran
returns-in-Audit-clause-ran g c =
    let asked : c.args.asked.now ≡
    command.Audit c.in-Audit.source c.in-Audit.target c.in-Audit.format c.in-Audit.workers c.in-Audit.path =
    search rules in
    rw asked (c.audit.ensures.ran)

pub returns-in-ListPlan-clause-given : goal.returns-in-ListPlan-clause-given
returns-in-ListPlan-clause-given g c =
    let asked : c.args.asked.now ≡ command.ListPlan c.in-ListPlan.lists c.in-ListPlan.format = search rules in
    rw asked (counted_as _ c.list_plan.result c.no_findings.result c.no_findings.ensures.same
    c.no_findings.ensures.none c.list_plan.ensures.given)

pub returns-in-Plan-clause-given : goal.returns-in-Plan-clause-given
returns-in-Plan-clause-given g c =
    let asked : c.args.asked.now ≡
    command.Plan c.in-Plan.source c.in-Plan.request c.in-Plan.format c.in-Plan.workers c.in-Plan.path =
    search rules in
    rw asked (counted_as _ c.plan.result c.no_findings-in-Plan.result c.no_findings-in-Plan.ensures.same
    c.no_findings-in-Plan.ensures.none c.plan.ensures.given)

pub returns-in-Show-clause-given : goal.returns-in-Show-clause-given
returns-in-Show-clause-given g c =
    let asked : c.args.asked.now ≡ command.Show c.in-Show.source c.in-Show.format c.in-Show.path = search rules in
    rw asked (counted_as _ c.show.result c.no_findings-in-Show.result c.no_findings-in-Show.ensures.same
    c.no_findings-in-Show.ensures.none c.show.ensures.given)

pub returns-in-Columns-clause-given : goal.returns-in-Columns-clause-given
returns-in-Columns-clause-given g c =
    let asked : c.args.asked.now ≡
    command.Columns c.in-Columns.source c.in-Columns.target c.in-Columns.format c.in-Columns.path = search rules in
    rw asked (counted_as _ c.columns.result c.no_findings-in-Columns.result c.no_findings-in-Columns.ensures.same
    c.no_findings-in-Columns.ensures.none c.columns.ensures.given)

pub returns-in-Explain-clause-given : goal.returns-in-Explain-clause-given
returns-in-Explain-clause-given g c =
    let asked : c.args.asked.now ≡
    command.Explain c.in-Explain.source c.in-Explain.request c.in-Explain.format c.in-Explain.workers
    c.in-Explain.path = search rules in
    rw asked (counted_as _ c.explain.result c.no_findings-in-Explain.result c.no_findings-in-Explain.ensures.same
    c.no_findings-in-Explain.ensures.none c.explain.ensures.given)

pub returns-in-Changes-clause-given : goal.returns-in-Changes-clause-given
returns-in-Changes-clause-given g c =
    let asked : c.args.asked.now ≡
    command.Changes c.in-Changes.source c.in-Changes.request c.in-Changes.format c.in-Changes.workers
    c.in-Changes.path = search rules in
    rw asked (counted_as _ c.changes.result c.no_findings-in-Changes.result c.no_findings-in-Changes.ensures.same
    c.no_findings-in-Changes.ensures.none c.changes.ensures.given)

pub returns-in-Audit-clause-given : goal.returns-in-Audit-clause-given
returns-in-Audit-clause-given g c =
    let asked : c.args.asked.now ≡
    command.Audit c.in-Audit.source c.in-Audit.target c.in-Audit.format c.in-Audit.workers c.in-Audit.path =
    search rules in
    rw asked (c.audit.ensures.given)

pub returns-in-Commit-clause-given : goal.returns-in-Commit-clause-given
returns-in-Commit-clause-given g c =
    let asked : c.args.asked.now ≡ command.Commit c.in-Commit.source c.in-Commit.request = search rules in
    rw asked (any_count c.no_findings-in-Commit.result)

pub returns-in-Locate-clause-given : goal.returns-in-Locate-clause-given
returns-in-Locate-clause-given g c =
    let asked : c.args.asked.now ≡ command.Locate c.in-Locate.folder c.in-Locate.located = search rules in
    rw asked (any_count c.no_findings-in-Locate.result)

pub returns-in-Drill-clause-given : goal.returns-in-Drill-clause-given
returns-in-Drill-clause-given g c =
    let asked : c.args.asked.now ≡ command.Drill c.in-Drill.asked = search rules in
    rw asked (any_count c.no_findings-in-Drill.result)

pub returns-in-Text-clause-given : goal.returns-in-Text-clause-given
returns-in-Text-clause-given g c =
    let asked : c.args.asked.now ≡ command.Text c.in-Text.text = search rules in
    rw asked (any_count c.no_findings-in-Text.result)

pub returns-in-ListPlan-clause-stored_of_given : goal.returns-in-ListPlan-clause-stored_of_given
returns-in-ListPlan-clause-stored_of_given g c =
    let asked : c.args.asked.now ≡ command.ListPlan c.in-ListPlan.lists c.in-ListPlan.format = search rules in
    rw asked tt

pub returns-in-Plan-clause-stored_of_given : goal.returns-in-Plan-clause-stored_of_given
returns-in-Plan-clause-stored_of_given g c =
    let asked : c.args.asked.now ≡
    command.Plan c.in-Plan.source c.in-Plan.request c.in-Plan.format c.in-Plan.workers c.in-Plan.path =
    search rules in
    rw asked tt

pub returns-in-Show-clause-stored_of_given : goal.returns-in-Show-clause-stored_of_given
returns-in-Show-clause-stored_of_given g c =
    let asked : c.args.asked.now ≡ command.Show c.in-Show.source c.in-Show.format c.in-Show.path = search rules in
    rw asked tt

pub returns-in-Columns-clause-stored_of_given : goal.returns-in-Columns-clause-stored_of_given
returns-in-Columns-clause-stored_of_given g c =
    let asked : c.args.asked.now ≡
    command.Columns c.in-Columns.source c.in-Columns.target c.in-Columns.format c.in-Columns.path = search rules in
    rw asked tt

pub returns-in-Explain-clause-stored_of_given : goal.returns-in-Explain-clause-stored_of_given
returns-in-Explain-clause-stored_of_given g c =
    let asked : c.args.asked.now ≡
    command.Explain c.in-Explain.source c.in-Explain.request c.in-Explain.format c.in-Explain.workers
    c.in-Explain.path = search rules in
    rw asked tt

pub returns-in-Changes-clause-stored_of_given : goal.returns-in-Changes-clause-stored_of_given
returns-in-Changes-clause-stored_of_given g c =
    let asked : c.args.asked.now ≡
    command.Changes c.in-Changes.source c.in-Changes.request c.in-Changes.format c.in-Changes.workers
    c.in-Changes.path = search rules in
    rw asked tt

pub returns-in-Drill-clause-stored_of_given : goal.returns-in-Drill-clause-stored_of_given
returns-in-Drill-clause-stored_of_given g c =
    let asked : c.args.asked.now ≡ command.Drill c.in-Drill.asked = search rules in
    rw asked tt

pub returns-in-Text-clause-stored_of_given : goal.returns-in-Text-clause-stored_of_given
returns-in-Text-clause-stored_of_given g c =
    let asked : c.args.asked.now ≡ command.Text c.in-Text.text = search rules in
    rw asked tt

pub returns-in-Audit-clause-stored_of_given : goal.returns-in-Audit-clause-stored_of_given
returns-in-Audit-clause-stored_of_given g c =
    let asked : c.args.asked.now ≡
    command.Audit c.in-Audit.source c.in-Audit.target c.in-Audit.format c.in-Audit.workers c.in-Audit.path =
    search rules in
    rw asked tt

pub returns-in-Commit-clause-stored_of_given : goal.returns-in-Commit-clause-stored_of_given
returns-in-Commit-clause-stored_of_given g c =
    let asked : c.args.asked.now ≡ command.Commit c.in-Commit.source c.in-Commit.request = search rules in
    rw (asked, c.no_findings-in-Commit.ensures.same) c.commit.ensures.stored_of_given

pub returns-in-Locate-clause-stored_of_given : goal.returns-in-Locate-clause-stored_of_given
returns-in-Locate-clause-stored_of_given g c =
    let asked : c.args.asked.now ≡ command.Locate c.in-Locate.folder c.in-Locate.located = search rules in
    rw asked tt

pub returns-in-ListPlan-clause-beside : goal.returns-in-ListPlan-clause-beside
returns-in-ListPlan-clause-beside g c =
    let asked : c.args.asked.now ≡ command.ListPlan c.in-ListPlan.lists c.in-ListPlan.format = search rules in
    rw asked (none_beside c.no_findings.result (g.E.Sink.taken c.args.errors.now))

pub returns-in-ListPlan-clause-untold : goal.returns-in-ListPlan-clause-untold
returns-in-ListPlan-clause-untold g c = still_same c.no_findings.result c.args.errors.now

pub returns-in-Plan-clause-beside : goal.returns-in-Plan-clause-beside
returns-in-Plan-clause-beside g c =
    let asked : c.args.asked.now ≡
    command.Plan c.in-Plan.source c.in-Plan.request c.in-Plan.format c.in-Plan.workers c.in-Plan.path =
    search rules in
    rw asked (none_beside c.no_findings-in-Plan.result (g.E.Sink.taken c.args.errors.now))

pub returns-in-Plan-clause-untold : goal.returns-in-Plan-clause-untold
returns-in-Plan-clause-untold g c = still_same c.no_findings-in-Plan.result c.args.errors.now

pub returns-in-Commit-clause-beside : goal.returns-in-Commit-clause-beside
returns-in-Commit-clause-beside g c =
    let asked : c.args.asked.now ≡ command.Commit c.in-Commit.source c.in-Commit.request = search rules in
    rw asked (none_beside c.no_findings-in-Commit.result (g.E.Sink.taken c.args.errors.now))

pub returns-in-Commit-clause-untold : goal.returns-in-Commit-clause-untold
returns-in-Commit-clause-untold g c = still_same c.no_findings-in-Commit.result c.args.errors.now

pub returns-in-Show-clause-beside : goal.returns-in-Show-clause-beside
returns-in-Show-clause-beside g c =
    let asked : c.args.asked.now ≡ command.Show c.in-Show.source c.in-Show.format c.in-Show.path = search rules in
    rw asked (none_beside c.no_findings-in-Show.result (g.E.Sink.taken c.args.errors.now))

pub returns-in-Show-clause-untold : goal.returns-in-Show-clause-untold
returns-in-Show-clause-untold g c = still_same c.no_findings-in-Show.result c.args.errors.now

pub returns-in-Columns-clause-beside : goal.returns-in-Columns-clause-beside
returns-in-Columns-clause-beside g c =
    let asked : c.args.asked.now ≡
    command.Columns c.in-Columns.source c.in-Columns.target c.in-Columns.format c.in-Columns.path =
    search rules in
    rw asked (none_beside c.no_findings-in-Columns.result (g.E.Sink.taken c.args.errors.now))

pub returns-in-Columns-clause-untold : goal.returns-in-Columns-clause-untold
returns-in-Columns-clause-untold g c = still_same c.no_findings-in-Columns.result c.args.errors.now

pub returns-in-Audit-clause-beside : goal.returns-in-Audit-clause-beside
returns-in-Audit-clause-beside g c =
    let asked : c.args.asked.now ≡
    command.Audit c.in-Audit.source c.in-Audit.target c.in-Audit.format c.in-Audit.workers c.in-Audit.path =
    search rules in
    rw asked (none_beside c.audit.result (g.E.Sink.taken c.args.errors.now))

pub returns-in-Audit-clause-untold : goal.returns-in-Audit-clause-untold
returns-in-Audit-clause-untold g c = still_same c.audit.result c.args.errors.now

pub returns-in-Explain-clause-beside : goal.returns-in-Explain-clause-beside
returns-in-Explain-clause-beside g c =
    let asked : c.args.asked.now ≡
    command.Explain c.in-Explain.source c.in-Explain.request c.in-Explain.format c.in-Explain.workers c.in-Explain.path =
    search rules in
    rw asked (none_beside c.no_findings-in-Explain.result (g.E.Sink.taken c.args.errors.now))

pub returns-in-Explain-clause-untold : goal.returns-in-Explain-clause-untold
returns-in-Explain-clause-untold g c = still_same c.no_findings-in-Explain.result c.args.errors.now

pub returns-in-Changes-clause-beside : goal.returns-in-Changes-clause-beside
returns-in-Changes-clause-beside g c =
    let asked : c.args.asked.now ≡
    command.Changes c.in-Changes.source c.in-Changes.request c.in-Changes.format c.in-Changes.workers c.in-Changes.path =
    search rules in
    rw asked (none_beside c.no_findings-in-Changes.result (g.E.Sink.taken c.args.errors.now))

pub returns-in-Changes-clause-untold : goal.returns-in-Changes-clause-untold
returns-in-Changes-clause-untold g c = still_same c.no_findings-in-Changes.result c.args.errors.now

pub returns-in-Reachable-clause-beside : goal.returns-in-Reachable-clause-beside
returns-in-Reachable-clause-beside g c =
    let asked : c.args.asked.now ≡
    command.Reachable c.in-Reachable.source c.in-Reachable.part c.in-Reachable.format c.in-Reachable.path =
    search rules in
    rw asked (none_beside c.no_findings-in-Reachable.result (g.E.Sink.taken c.args.errors.now))

pub returns-in-Reachable-clause-untold : goal.returns-in-Reachable-clause-untold
returns-in-Reachable-clause-untold g c = still_same c.no_findings-in-Reachable.result c.args.errors.now

pub returns-in-Orphans-clause-beside : goal.returns-in-Orphans-clause-beside
returns-in-Orphans-clause-beside g c =
    let asked : c.args.asked.now ≡
    command.Orphans c.in-Orphans.place c.in-Orphans.older_than_ms c.in-Orphans.format c.in-Orphans.path =
    search rules in
    rw asked (none_beside c.no_findings-in-Orphans.result (g.E.Sink.taken c.args.errors.now))

pub returns-in-Orphans-clause-untold : goal.returns-in-Orphans-clause-untold
returns-in-Orphans-clause-untold g c = still_same c.no_findings-in-Orphans.result c.args.errors.now

pub returns-in-Locate-clause-beside : goal.returns-in-Locate-clause-beside
returns-in-Locate-clause-beside g c =
    let asked : c.args.asked.now ≡ command.Locate c.in-Locate.folder c.in-Locate.located = search rules in
    rw asked (none_beside c.no_findings-in-Locate.result (g.E.Sink.taken c.args.errors.now))

pub returns-in-Locate-clause-untold : goal.returns-in-Locate-clause-untold
returns-in-Locate-clause-untold g c = still_same c.no_findings-in-Locate.result c.args.errors.now

pub returns-in-Drill-clause-beside : goal.returns-in-Drill-clause-beside
returns-in-Drill-clause-beside g c =
    let asked : c.args.asked.now ≡ command.Drill c.in-Drill.asked = search rules in
    rw asked (none_beside c.no_findings-in-Drill.result (g.E.Sink.taken c.args.errors.now))

pub returns-in-Drill-clause-untold : goal.returns-in-Drill-clause-untold
returns-in-Drill-clause-untold g c = still_same c.no_findings-in-Drill.result c.args.errors.now

pub returns-in-Text-clause-beside : goal.returns-in-Text-clause-beside
returns-in-Text-clause-beside g c =
    let asked : c.args.asked.now ≡ command.Text c.in-Text.text = search rules in
    rw asked (none_beside c.no_findings-in-Text.result (g.E.Sink.taken c.args.errors.now))

pub returns-in-Text-clause-untold : goal.returns-in-Text-clause-untold
returns-in-Text-clause-untold g c = still_same c.no_findings-in-Text.result c.args.errors.now

pub returns-in-Relaxed-clause-ran : goal.returns-in-Relaxed-clause-ran
returns-in-Relaxed-clause-ran g c =
    let asked : c.args.asked.now ≡
    command.Relaxed c.in-Relaxed.what c.in-Relaxed.source c.in-Relaxed.request c.in-Relaxed.format
    c.in-Relaxed.workers c.in-Relaxed.path = search rules in
    let told = c.relaxed-answer.ensures.ran in
    rw asked (
      told.0,
      told.1,
      ran_as _ _ (ended c.relaxed-answer.result) c.no_findings-in-Relaxed.result _ _
          (c.no_findings-in-Relaxed.ensures.same ∙ c.tell_unasked.ensures.same) told.2,
      c.no_findings-in-Relaxed.ensures.none,
    )

pub returns-in-Relaxed-clause-stored : goal.returns-in-Relaxed-clause-stored
returns-in-Relaxed-clause-stored g c =
    let asked : c.args.asked.now ≡
    command.Relaxed c.in-Relaxed.what c.in-Relaxed.source c.in-Relaxed.request c.in-Relaxed.format
    c.in-Relaxed.workers c.in-Relaxed.path = search rules in
    rw asked refl

pub returns-in-Relaxed-clause-given : goal.returns-in-Relaxed-clause-given
returns-in-Relaxed-clause-given g c =
    let asked : c.args.asked.now ≡
    command.Relaxed c.in-Relaxed.what c.in-Relaxed.source c.in-Relaxed.request c.in-Relaxed.format
    c.in-Relaxed.workers c.in-Relaxed.path = search rules in
    rw asked (counted_as _ (ended c.relaxed-answer.result) c.no_findings-in-Relaxed.result
    (c.no_findings-in-Relaxed.ensures.same ∙ c.tell_unasked.ensures.same) c.no_findings-in-Relaxed.ensures.none
    c.relaxed-answer.ensures.given)

pub returns-in-Relaxed-clause-stored_of_given : goal.returns-in-Relaxed-clause-stored_of_given
returns-in-Relaxed-clause-stored_of_given g c =
    let asked : c.args.asked.now ≡
    command.Relaxed c.in-Relaxed.what c.in-Relaxed.source c.in-Relaxed.request c.in-Relaxed.format
    c.in-Relaxed.workers c.in-Relaxed.path = search rules in
    rw asked tt

pub returns-in-Relaxed-clause-beside : goal.returns-in-Relaxed-clause-beside
returns-in-Relaxed-clause-beside g c =
    let asked : c.args.asked.now ≡
    command.Relaxed c.in-Relaxed.what c.in-Relaxed.source c.in-Relaxed.request c.in-Relaxed.format
    c.in-Relaxed.workers c.in-Relaxed.path = search rules in
    rw asked (on_ok_as _ c.tell_unasked.result c.no_findings-in-Relaxed.result c.no_findings-in-Relaxed.ensures.same
    c.tell_unasked.ensures.beside)

pub returns-in-Relaxed-clause-untold : goal.returns-in-Relaxed-clause-untold
returns-in-Relaxed-clause-untold g c = on_err_as _ c.tell_unasked.result c.no_findings-in-Relaxed.result
    c.no_findings-in-Relaxed.ensures.same c.tell_unasked.ensures.untold

pub returns-in-AuditAll-clause-ran : goal.returns-in-AuditAll-clause-ran
returns-in-AuditAll-clause-ran g c =
    let left = g.R.Read.remaining c.args.input.now in
    let asked : c.args.asked.now ≡
    command.AuditAll c.in-AuditAll.source c.in-AuditAll.format c.in-AuditAll.workers c.in-AuditAll.path =
    search rules in
    rw asked (left_of left, is_left left, c.audit_all.ensures.ran, any_count c.audit_all.result)

pub returns-in-AuditAll-clause-stored : goal.returns-in-AuditAll-clause-stored
returns-in-AuditAll-clause-stored g c =
    let asked : c.args.asked.now ≡
    command.AuditAll c.in-AuditAll.source c.in-AuditAll.format c.in-AuditAll.workers c.in-AuditAll.path =
    search rules in
    rw asked refl

pub returns-in-AuditAll-clause-given : goal.returns-in-AuditAll-clause-given
returns-in-AuditAll-clause-given g c =
    let asked : c.args.asked.now ≡
    command.AuditAll c.in-AuditAll.source c.in-AuditAll.format c.in-AuditAll.workers c.in-AuditAll.path =
    search rules in
    rw asked c.audit_all.ensures.given

pub returns-in-AuditAll-clause-stored_of_given : goal.returns-in-AuditAll-clause-stored_of_given
returns-in-AuditAll-clause-stored_of_given g c =
    let asked : c.args.asked.now ≡
    command.AuditAll c.in-AuditAll.source c.in-AuditAll.format c.in-AuditAll.workers c.in-AuditAll.path =
    search rules in
    rw asked tt

pub returns-in-AuditAll-clause-beside : goal.returns-in-AuditAll-clause-beside
returns-in-AuditAll-clause-beside g c =
    let asked : c.args.asked.now ≡
    command.AuditAll c.in-AuditAll.source c.in-AuditAll.format c.in-AuditAll.workers c.in-AuditAll.path =
    search rules in
    rw asked (none_beside c.audit_all.result (g.E.Sink.taken c.args.errors.now))

pub returns-in-AuditAll-clause-untold : goal.returns-in-AuditAll-clause-untold
returns-in-AuditAll-clause-untold g c = still_same c.audit_all.result c.args.errors.now

pub returns-in-Take-clause-ran : goal.returns-in-Take-clause-ran
returns-in-Take-clause-ran g c =
    let left = g.R.Read.remaining c.args.input.now in
    let asked : c.args.asked.now ≡
    command.Take c.in-Take.source c.in-Take.asked c.in-Take.share c.in-Take.workers c.in-Take.path =
    search rules in
    let none = c.no_findings-in-Take in
    rw asked (
      left_of left,
      is_left left,
      ran_as _ _ (ended c.take-answer.result) none.result _ _
          (none.ensures.same ∙ c.tell_unasked-in-Take.ensures.same) c.take-answer.ensures.ran,
      none.ensures.none,
    )

pub returns-in-Take-clause-stored : goal.returns-in-Take-clause-stored
returns-in-Take-clause-stored g c =
    let asked : c.args.asked.now ≡
    command.Take c.in-Take.source c.in-Take.asked c.in-Take.share c.in-Take.workers c.in-Take.path =
    search rules in
    rw asked refl

pub returns-in-Take-clause-given : goal.returns-in-Take-clause-given
returns-in-Take-clause-given g c =
    let asked : c.args.asked.now ≡
    command.Take c.in-Take.source c.in-Take.asked c.in-Take.share c.in-Take.workers c.in-Take.path =
    search rules in
    rw asked (counted_as _ (ended c.take-answer.result) c.no_findings-in-Take.result
    (c.no_findings-in-Take.ensures.same ∙ c.tell_unasked-in-Take.ensures.same) c.no_findings-in-Take.ensures.none
    c.take-answer.ensures.given)

pub returns-in-Take-clause-stored_of_given : goal.returns-in-Take-clause-stored_of_given
returns-in-Take-clause-stored_of_given g c =
    let asked : c.args.asked.now ≡
    command.Take c.in-Take.source c.in-Take.asked c.in-Take.share c.in-Take.workers c.in-Take.path =
    search rules in
    rw asked tt

pub returns-in-Take-clause-beside : goal.returns-in-Take-clause-beside
returns-in-Take-clause-beside g c =
    let asked : c.args.asked.now ≡
    command.Take c.in-Take.source c.in-Take.asked c.in-Take.share c.in-Take.workers c.in-Take.path =
    search rules in
    rw asked (on_ok_as _ c.tell_unasked-in-Take.result c.no_findings-in-Take.result
    c.no_findings-in-Take.ensures.same c.tell_unasked-in-Take.ensures.beside)

pub returns-in-Take-clause-untold : goal.returns-in-Take-clause-untold
returns-in-Take-clause-untold g c =
    on_err_as _ c.tell_unasked-in-Take.result
    c.no_findings-in-Take.result c.no_findings-in-Take.ensures.same c.tell_unasked-in-Take.ensures.untold

pub returns-in-Finish-clause-ran : goal.returns-in-Finish-clause-ran
returns-in-Finish-clause-ran g c =
    let left = g.R.Read.remaining c.args.input.now in
    let asked : c.args.asked.now ≡
    command.Finish c.in-Finish.source c.in-Finish.asked c.in-Finish.states c.in-Finish.format c.in-Finish.workers
    c.in-Finish.path =
    search rules in
    let none = c.no_findings-in-Finish in
    rw asked (
      left_of left,
      is_left left,
      ran_as _ _ (ended c.finish-answer.result) none.result _ _
          (none.ensures.same ∙ c.tell_unasked-in-Finish.ensures.same) c.finish-answer.ensures.ran,
      none.ensures.none,
    )

pub returns-in-Finish-clause-stored : goal.returns-in-Finish-clause-stored
returns-in-Finish-clause-stored g c =
    let asked : c.args.asked.now ≡
    command.Finish c.in-Finish.source c.in-Finish.asked c.in-Finish.states c.in-Finish.format c.in-Finish.workers
    c.in-Finish.path =
    search rules in
    rw asked refl

pub returns-in-Finish-clause-given : goal.returns-in-Finish-clause-given
returns-in-Finish-clause-given g c =
    let asked : c.args.asked.now ≡
    command.Finish c.in-Finish.source c.in-Finish.asked c.in-Finish.states c.in-Finish.format c.in-Finish.workers
    c.in-Finish.path =
    search rules in
    rw asked (counted_as _ (ended c.finish-answer.result) c.no_findings-in-Finish.result
    (c.no_findings-in-Finish.ensures.same ∙ c.tell_unasked-in-Finish.ensures.same) c.no_findings-in-Finish.ensures.none
    c.finish-answer.ensures.given)

pub returns-in-Finish-clause-stored_of_given : goal.returns-in-Finish-clause-stored_of_given
returns-in-Finish-clause-stored_of_given g c =
    let asked : c.args.asked.now ≡
    command.Finish c.in-Finish.source c.in-Finish.asked c.in-Finish.states c.in-Finish.format c.in-Finish.workers
    c.in-Finish.path =
    search rules in
    rw asked tt

pub returns-in-Finish-clause-beside : goal.returns-in-Finish-clause-beside
returns-in-Finish-clause-beside g c =
    let asked : c.args.asked.now ≡
    command.Finish c.in-Finish.source c.in-Finish.asked c.in-Finish.states c.in-Finish.format c.in-Finish.workers
    c.in-Finish.path =
    search rules in
    rw asked (on_ok_as _ c.tell_unasked-in-Finish.result c.no_findings-in-Finish.result
    c.no_findings-in-Finish.ensures.same c.tell_unasked-in-Finish.ensures.beside)

pub returns-in-Finish-clause-untold : goal.returns-in-Finish-clause-untold
returns-in-Finish-clause-untold g c =
    on_err_as _ c.tell_unasked-in-Finish.result
    c.no_findings-in-Finish.result c.no_findings-in-Finish.ensures.same c.tell_unasked-in-Finish.ensures.untold

pub returns-in-Join-clause-ran : goal.returns-in-Join-clause-ran
returns-in-Join-clause-ran g c =
    let left = g.R.Read.remaining c.args.input.now in
    let asked : c.args.asked.now ≡
    command.Join c.in-Join.states =
    search rules in
    let none = c.no_findings-in-Join in
    rw asked (
      left_of left,
      is_left left,
      ran_as _ _ c.join.result none.result _ _ none.ensures.same c.join.ensures.ran,
      none.ensures.none,
    )

pub returns-in-Join-clause-stored : goal.returns-in-Join-clause-stored
returns-in-Join-clause-stored g c =
    let asked : c.args.asked.now ≡
    command.Join c.in-Join.states =
    search rules in
    rw asked refl

pub returns-in-Join-clause-given : goal.returns-in-Join-clause-given
returns-in-Join-clause-given g c =
    let asked : c.args.asked.now ≡
    command.Join c.in-Join.states =
    search rules in
    rw asked (counted_as _ c.join.result c.no_findings-in-Join.result
    c.no_findings-in-Join.ensures.same c.no_findings-in-Join.ensures.none c.join.ensures.given)

pub returns-in-Join-clause-stored_of_given : goal.returns-in-Join-clause-stored_of_given
returns-in-Join-clause-stored_of_given g c =
    let asked : c.args.asked.now ≡
    command.Join c.in-Join.states =
    search rules in
    rw asked tt
