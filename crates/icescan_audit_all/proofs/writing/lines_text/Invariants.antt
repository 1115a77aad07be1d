use Rattle.std.proofs.Common.{◌≡◌, ◌++◌, None, drop}
use Rattle.std.specs.Prelude.{option_map}
use Rattle.icescan_audit_all.specs.Texts.{lines_text}
use Rattle.icescan_audit_all.proofs.writing.lines_text.Given as goal

-- what is left to write comes behind what was written
abbrev pub invariant-lines : goal.invariant-lines
invariant-lines l = lines_text l.form None l.lines
    ≡ l.text.items ++ lines_text l.form (option_map (λ b. b.now) l.before) (drop l.line-index l.lines)
