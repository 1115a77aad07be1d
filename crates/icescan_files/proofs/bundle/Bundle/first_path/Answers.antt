use Rattle.icescan_files.proofs.Lookups.{first_seen}
use Rattle.icescan_files.proofs.bundle.Bundle.first_path.Goals as goal

pub returns : goal.returns
returns c = rw (c.as_str.ensures.value, ← c.self.view_is) (first_seen c.self.inside.files.entries _ _
    c.in_ok-path.ensures.entry)
