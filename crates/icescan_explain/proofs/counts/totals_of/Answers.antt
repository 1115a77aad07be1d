use Rattle.icescan_explain.specs.declared.verdict.Subject.TheVariants.{Manifest, Data, Deletes}
use Rattle.icescan_explain.proofs.Counted.{counted_all, counted_more}
use Rattle.icescan_explain.proofs.counts.totals_of.Goals as goal

pub returns-clause-manifests : goal.returns-clause-manifests
returns-clause-manifests c =
    counted_all Manifest c.args.verdicts.now c.verdicts.verdict-index c.verdicts.manifests c.verdicts-test.false
    c.verdicts.invariant.manifests

pub returns-clause-files : goal.returns-clause-files
returns-clause-files c =
    counted_all Data c.args.verdicts.now c.verdicts.verdict-index c.verdicts.files c.verdicts-test.false
    c.verdicts.invariant.files

pub returns-clause-deletes : goal.returns-clause-deletes
returns-clause-deletes c =
    counted_all Deletes c.args.verdicts.now c.verdicts.verdict-index c.verdicts.deletes c.verdicts-test.false
    c.verdicts.invariant.deletes

pub verdicts-preserved : goal.verdicts-preserved
verdicts-preserved c =
    let vs = c.args.verdicts.now in
    let i = c.verdicts.verdict-index in
    let v = c.verdict-item.result in
    let lt = c.verdicts-test.true in
    let is = c.verdict-item.is in
    let so = c.verdicts.invariant in
    let manifests = c.with_verdict-manifests.ensures in
    let files = c.with_verdict-files.ensures in
    let deletes = c.with_verdict-deletes.ensures in
    record {
      manifests = counted_more Manifest vs i v _ _ lt is so.manifests manifests.same manifests.least manifests.most;
      files = counted_more Data vs i v _ _ lt is so.files files.same files.least files.most;
      deletes = counted_more Deletes vs i v _ _ lt is so.deletes deletes.same deletes.least deletes.most;
    }
