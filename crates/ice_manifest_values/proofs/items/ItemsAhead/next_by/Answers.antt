use Rattle.ice_manifest_values.proofs.items.ItemsAhead.next_by.Goals as goal

pub returns-clause-items : goal.returns-clause-items
returns-clause-items c = c.next_passed.ensures.items c.requires
