use Rattle.std.proofs.Common.{◌≡◌, map, string_bytes}
use Rattle.icescan_commands.specs.Runs.{meant}
use Rattle.icescan_commands.proofs.Hinted.{meant_help, meant_piped, meant_words, with_hint}
use Rattle.icescan_commands.proofs.explaining.run_program.Goals as goal
use Rattle.icescan_commands.proofs.explaining.run_program.Goals.{else-terminals-via-then-terminals+else-is_empty}
use Rattle.icescan_commands.proofs.explaining.run_program.Goals.{else-terminals-via-else-terminals}

pub returns-then-is_empty-clause-line : goal.returns-then-is_empty-clause-line
returns-then-is_empty-clause-line g c =
    let helped = meant_help string_bytes c.args.terminals.input c.is_empty.result c.args.words.now c.if-terminals.true
    c.is_empty.ensures c.if-is_empty.true in
    let ran = rw c.silently-silent.ensures at c.run_help.ensures in
    λ _. rw helped ran

pub returns-then-is_empty-clause-run : goal.returns-then-is_empty-clause-run
returns-then-is_empty-clause-run g c =
    let helped = meant_help string_bytes c.args.terminals.input c.is_empty.result c.args.words.now c.if-terminals.true
    c.is_empty.ensures c.if-is_empty.true in
    let ran = rw c.silently-silent.ensures at c.run_help.ensures in
    rw helped (with_hint _ _ _ ran)

pub returns-then-shows_hints-clause-run : goal.returns-then-shows_hints-clause-run
returns-then-shows_hints-clause-run g c =
    let words = c.args.words.now in
    let input = c.args.terminals.input in
    let same : meant input (map string_bytes words) ≡ map string_bytes words = elim c.else-terminals.branch [
      | else-terminals-via-then-terminals+else-is_empty w ↦
          meant_words string_bytes input w.is_empty.result words w.is_empty.ensures w.if-is_empty.false
      | else-terminals-via-else-terminals w ↦ meant_piped string_bytes input words w.if-terminals.false
    ] in
    rw same c.run_shown.ensures

pub returns-else-shows_hints-clause-line : goal.returns-else-shows_hints-clause-line
returns-else-shows_hints-clause-line g c =
    let words = c.args.words.now in
    let input = c.args.terminals.input in
    let same : meant input (map string_bytes words) ≡ map string_bytes words = elim c.else-terminals.branch [
      | else-terminals-via-then-terminals+else-is_empty w ↦
          meant_words string_bytes input w.is_empty.result words w.is_empty.ensures w.if-is_empty.false
      | else-terminals-via-else-terminals w ↦ meant_piped string_bytes input words w.if-terminals.false
    ] in
    let ran = rw c.silently-silent.ensures at c.run_words.ensures.run in
    λ _. rw same ran

pub returns-else-shows_hints-clause-run : goal.returns-else-shows_hints-clause-run
returns-else-shows_hints-clause-run g c =
    let words = c.args.words.now in
    let input = c.args.terminals.input in
    let same : meant input (map string_bytes words) ≡ map string_bytes words = elim c.else-terminals.branch [
      | else-terminals-via-then-terminals+else-is_empty w ↦
          meant_words string_bytes input w.is_empty.result words w.is_empty.ensures w.if-is_empty.false
      | else-terminals-via-else-terminals w ↦ meant_piped string_bytes input words w.if-terminals.false
    ] in
    let ran = rw c.silently-silent.ensures at c.run_words.ensures.run in
    rw same (with_hint _ _ _ ran)
