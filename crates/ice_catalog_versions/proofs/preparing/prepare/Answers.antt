use Rattle.std.proofs.Common.{sym, subst}
use Rattle.std.specs.Arc.{arc_value}
use Rattle.ice_catalog_versions.specs.Histories.{History}
use Rattle.ice_catalog_versions.specs.Live.{AddsToBase}
use Rattle.ice_catalog_versions.proofs.preparing.prepare.Goals as goal

pub over-requires-clause-adds : goal.over-requires-clause-adds
over-requires-clause-adds c =
    subst (λ (h : History). AddsToBase h (arc_value c.in_ok-commit.field-0.commit)) (sym c.in_ok-copy.ensures)
    c.in_ok-commit.ensures.adds

pub returns-clause-live : goal.returns-clause-live
returns-clause-live c =
    subst (AddsToBase c.args.base.now) c.in_ok-commit.ensures.commit c.in_ok-commit.ensures.adds
