use Rattle.std.proofs.Common.{sym, ◌∙◌, ap, refl, Some}
use Rattle.std.proofs.lemmas.Result.{on_ok_weaker}
use Rattle.icescan_files.proofs.Lookups.{bytes_seen}
use Rattle.icescan_files.proofs.bundle.BundleFiles.read_into.Goals as goal

pub returns-in-Some-clause-found : goal.returns-in-Some-clause-found
returns-in-Some-clause-found c =
    on_ok_weaker c.copy_into.result (λ same. rw (
      ← c.self.view_is,
      bytes_seen c.args.path.now
          c.self.inside.files.entries,
      ← c.in-Some.ensures.value,
    ) (ap Some (sym (same ∙ c.deref.ensures.value))))
    c.copy_into.ensures.ok

pub returns-in-None-clause-absent : goal.returns-in-None-clause-absent
returns-in-None-clause-absent c = λ _. rw (
  ← c.self.view_is,
  bytes_seen c.args.path.now c.self.inside.files.entries,
  ←
      c.in-None.ensures.value,
) refl

pub returns-in-Some-clause-given : goal.returns-in-Some-clause-given
returns-in-Some-clause-given c = returns-in-Some-clause-found c

pub returns-in-None-clause-none_given : goal.returns-in-None-clause-none_given
returns-in-None-clause-none_given c = returns-in-None-clause-absent c
