use Rattle.icescan_explain.specs.declared.verdict.Subject.TheVariants.{Manifest, Data, Deletes}
use Rattle.icescan_explain.proofs.Counted.{AreCounts}
use Rattle.icescan_explain.proofs.counts.totals_of.Given as goal

-- the counts so far
abbrev pub invariant-verdicts : goal.invariant-verdicts
invariant-verdicts l = record {
  manifests : AreCounts Manifest l.verdicts l.verdict-index l.manifests;
  files : AreCounts Data l.verdicts l.verdict-index l.files;
  deletes : AreCounts Deletes l.verdicts l.verdict-index l.deletes;
}
