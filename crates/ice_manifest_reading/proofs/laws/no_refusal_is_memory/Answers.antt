use Rattle.ice_manifest_reading.proofs.NoMemory.{list_never, manifest_never}
use Rattle.ice_manifest_reading.proofs.laws.no_refusal_is_memory.Goals as goal

pub returns : goal.returns
returns c = record {
  list = list_never c.no_fault_is_memory.ensures.opening c.no_fault_is_memory.ensures.objects;
  manifest = manifest_never c.no_fault_is_memory.ensures.opening c.no_fault_is_memory.ensures.objects;
}
