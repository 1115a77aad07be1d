-- Audits of reads that may give more.
use Rattle.std.proofs.Common.{ℕ, List, Option}
use Rattle.ice_desk.specs.Given.{Giving}
use Rattle.ice_manifest_reading.specs.declared.row.Row.{Row}
use Rattle.ice_meta.specs.declared.metadata.Target.{Target}
use Rattle.icescan_audit.proofs.AnyFiles.{more_audits}
use Rattle.icescan_forms.specs.declared.format.Format.{Format}
use Rattle.icescan_audit_all.specs.Snapshots.{HasRows}
use Rattle.icescan_audit_all.specs.Texts.{WroteAuditsAt}

more_rows : (gives more : Giving)
    → ((path : List ℕ) (found : Option (List ℕ)) → gives path found → more path found) → (metadata : List ℕ)
    (of : Target) (rows : List Row) → HasRows gives metadata of rows → HasRows more metadata of rows
more_rows gives more wider metadata of rows h = (h.0, h.1, (h.2.0, wider h.0.list _ h.2.1, h.2.2))

pub audits_more : (gives more : Giving)
    → ((path : List ℕ) (found : Option (List ℕ)) → gives path found → more path found) → (form : Format)
    (path : List ℕ) (count : ℕ) (o o' : Option (List ℕ)) → WroteAuditsAt form gives path count o o'
    → WroteAuditsAt form more path count o o'
audits_more gives more wider form path count o o' h = record {
  metadata = h.metadata;
  audits = h.audits;
  given = wider path _ h.given;
  are = record {
    d = h.are.d;
    asked = h.are.asked;
    all = h.are.all;
    each = λ k d l. more_audits gives more wider _ _ _ (h.are.each k d l);
    listed = λ k d l. more_rows gives more wider _ _ _ (h.are.listed k d l);
  };
  counted = h.counted;
  wrote = h.wrote;
}
