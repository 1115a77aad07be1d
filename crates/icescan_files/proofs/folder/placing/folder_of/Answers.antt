use Rattle.std.proofs.Common.{inl, inr, refl}
use Rattle.icescan_files.proofs.LastSlash.{last_slash, no_slash_at_all}
use Rattle.icescan_files.proofs.folder.placing.folder_of.Goals as goal

pub returns-in-Some : goal.returns-in-Some
returns-in-Some c =
    let parts = last_slash c.args.name.now c.in-Some.folder.now c.in-Some.field-0-1.now c.in-Some.ensures.cases in
    inl (c.in-Some.field-0-1.now, parts.0, parts.1)

pub returns-in-None : goal.returns-in-None
returns-in-None c = inr (no_slash_at_all c.args.name.now c.in-None.ensures.cases, refl)
