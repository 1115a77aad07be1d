use Rattle.ice_catalog_versions.specs.States.{seen}
use Rattle.icescan_c_commits.proofs.files.next_metadata.Goals as goal

pub returns : goal.returns
returns c = record {
  metadata = seen c.metadata.result.now;
  is = rw c.version.ensures at c.metadata.ensures;
  reads = rw c.from_vec.ensures c.in_ok-bytes.ensures.read_back;
  compact = λ whole. rw c.from_vec.ensures (c.in_ok-bytes.ensures.text whole);
}
