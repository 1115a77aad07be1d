use Rattle.ice_catalog_laws.proofs.Turns.{comes_by_takes}
use Rattle.ice_catalog_laws.proofs.steps.work.Goals as goal

pub returns : goal.returns
returns g c = λ m k w p tells same has.
    let worked = c.work.ensures.worked in (
      worked.tickets,
      worked.drawn,
      comes_by_takes m k w p _ _ _ _ _ _ _ _ _ tells same has c.requires.state worked,
    )
