use Rattle.std.proofs.Common.{map}
use Rattle.std.specs.List.{enumerate_from}
use Rattle.ice_deletes.specs.Keys.{key_of}
use Rattle.ice_deletes.proofs.Parts.{filed, numbered_once}
use Rattle.ice_deletes.proofs.index.DeleteIndex.build.Goals as goal

pub returns : goal.returns
returns c = filed (enumerate_from 0 (map key_of c.args.records.now)) _ _ _ _ c.in_ok-build.ensures.filed
    c.in_ok-build-2.ensures.filed c.in_ok-build-3.ensures.filed c.in_ok-build-4.ensures.filed

pub invariant_of-result : goal.invariant_of-result
invariant_of-result c = record {
  positions = c.in_ok-build.ensures.kept;
  referenced = c.in_ok-build-2.ensures.kept;
  equalities = c.in_ok-build-3.ensures.kept;
  everywhere = c.in_ok-build-4.ensures.kept;
  distinct = numbered_once (map key_of c.args.records.now) _
      (filed (enumerate_from 0 (map key_of c.args.records.now)) _ _ _ _ c.in_ok-build.ensures.filed
      c.in_ok-build-2.ensures.filed c.in_ok-build-3.ensures.filed c.in_ok-build-4.ensures.filed);
}
