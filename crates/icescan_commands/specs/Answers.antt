-- What commands answer, and what is written of an answer.
use Rattle.std.specs.Prelude.{◌≡◌, ℕ, List, Option, Result, Ok, Err, OnOk, IfErr, IsErrOf}
use Rattle.icescan_json.specs.JsonAnswers.{IsJsonOfPlan}
use Rattle.icescan_json.specs.declared.typed.TypedPlan.{TypedPlan}
use Rattle.icescan_text.specs.Reads.{MayEnd}
use Rattle.icescan_print.specs.Written.{Appends, AppendsFront}
use Rattle.icescan_text.specs.declared.fault.RunFault.{RunFault}
use Rattle.icescan_text.specs.declared.fault.RunFault.TheVariants as run

-- a text, or the JSON of a plan
pub data Answer : Type 0 where
  plain : List ℕ → Answer
  json : TypedPlan → Answer

-- the text says the answer: it is that text, or it is JSON of that plan, in which delete files may stand in any order
abbrev pub Says : Answer → List ℕ → Type 0
Says (plain told) text = text ≡ told
Says (json typed) text = IsJsonOfPlan typed text

-- a text as an answer, and a plan that is told in JSON
abbrev pub as_answer : Result (List ℕ) RunFault → Result Answer RunFault
as_answer (Ok text) = Ok (plain text)
as_answer (Err fault) = Err fault

abbrev pub as_json : Result TypedPlan RunFault → Result Answer RunFault
as_json (Ok typed) = Ok (json typed)
as_json (Err fault) = Err fault

-- what was written says the answer, or is a front of a text that does
abbrev pub WroteAnswer : Result Answer RunFault → Option (List ℕ) → Option (List ℕ) → Type 0
WroteAnswer read output output' = (answer : Answer) × (read ≡ Ok answer) × (text : List ℕ) × Says answer text
    × Appends output output' text

abbrev pub WroteAnswerFront : Result Answer RunFault → Option (List ℕ) → Option (List ℕ) → Type 0
WroteAnswerFront read output output' = (answer : Answer) × (read ≡ Ok answer) × (text : List ℕ) × Says answer text
    × AppendsFront output output' text

-- What a run gives, where this is the answer over files that tell their world: a text that says it is written, or the
-- fault is the answer's, or one of reading at these paths in turn, of writing or of memory.
pub record GivesAnswer (read : Result Answer RunFault) (may_fail_at : List ℕ → Type 0) (write_may_fail : Type 0)
    (result : Result Unit RunFault) (output output' : Option (List ℕ)) : Type 0 where
  pub written : OnOk result (WroteAnswer read output output')
  pub refused : IfErr result (MayEnd read may_fail_at write_may_fail)
  pub front : IsErrOf result run.Write → WroteAnswerFront read output output'
