use Rattle.std.proofs.Common.{}
use Rattle.std.proofs.lemmas.Result.{IfOk-weaker}
use Rattle.ice_meta.specs.Targets.{described}
use Rattle.icescan_parts.proofs.running.lines_by.Goals as goal

pub returns-then-is_alone-clause-given : goal.returns-then-is_alone-clause-given
returns-then-is_alone-clause-given g c =
    let says = rw c.deref.ensures.value at c.in_ok-metadata.ensures.read in
    let stay = rw c.as_slice-gone.ensures.value at c.in_ok-rest.ensures.given in
    let are = rw (c.deref-then-is_alone.ensures.value, c.deref-then-is_alone-2.ensures.value) at c.in_ok-alone.ensures in
    rw c.if-is_alone.true (
      c.in_ok-ids.ids.items,
      c.in_ok-ids.ensures.listed,
      record {
        bytes = c.in_ok-bytes.bytes.items;
        metadata = described c.in_ok-metadata.metadata.json c.in_ok-metadata.metadata.table;
        given = c.in_ok-bytes.ensures.given;
        says = says;
        are = record {
          all = c.in_ok-all.all.items;
          rest = c.in_ok-rest.rest.items;
          reached = c.in_ok-all.ensures.given;
          stay = stay;
          are = are;
        };
      },
    )

pub returns-clause-given : goal.returns-clause-given
returns-clause-given g c =
    let says = rw c.deref.ensures.value at c.in_ok-metadata.ensures.read in
    let given = rw c.as_slice-gone.ensures.value at c.lines_kept-else-is_alone.ensures.given in
    rw c.if-is_alone.false
    (IfOk-weaker c.lines_kept-else-is_alone.result _ _ (λ lines are. (
      c.in_ok-ids.ids.items,
      c.in_ok-ids.ensures.listed,
      record {
        bytes = c.in_ok-bytes.bytes.items;
        metadata = described c.in_ok-metadata.metadata.json c.in_ok-metadata.metadata.table;
        given = c.in_ok-bytes.ensures.given;
        says = says;
        are = are;
      },
    )) given)
