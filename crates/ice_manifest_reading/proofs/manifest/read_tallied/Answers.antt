use Rattle.std.proofs.Common.{List, Result, subst}
use Rattle.contract_words.specs.Outcome.{Gives}
use Rattle.ice_manifest_fields.specs.declared.fault.ManifestFault.{ManifestFault}
use Rattle.ice_manifest_fields.specs.declared.fault.ManifestFault.TheVariants.{Memory}
use Rattle.ice_manifest_reading.specs.Manifests.{live_of}
use Rattle.ice_manifest_reading.proofs.Collected.{told_given}
use Rattle.ice_manifest_reading.proofs.manifest.read_tallied.Goals as goal

pub returns-clause-told : goal.returns-clause-told
returns-clause-told g c =
    subst (λ (read : Result (List _) ManifestFault). Gives Memory (λ read. read.told.items) c.read_given.result read)
    (told_given (g.T.Tell.told c.args.tell.now) (live_of c.args.row.now c.args.spec.now c.args.bytes.now))
    c.read_given.ensures.told
