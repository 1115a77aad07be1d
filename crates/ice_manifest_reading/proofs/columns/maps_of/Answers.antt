use Rattle.ice_manifest_reading.proofs.Guided.{leads_to_maps}
use Rattle.ice_manifest_reading.proofs.columns.maps_of.Goals as goal

pub returns : goal.returns
returns c = record {
  guided = leads_to_maps c.args.file.now c.args.guided.now c.requires.guided;
  values = c.found.ensures;
  nulls = c.found-2.ensures;
  lower = c.found-3.ensures;
  upper = c.found-4.ensures;
}
