-- What scans and states are.
use Rattle.std.specs.Prelude.{◌≡◌, Ok}
use Rattle.icescan_requests.specs.Selections.{selected}
use Rattle.icescan_requests.specs.declared.selection.Selection.{Selection}
use Rattle.ice_state.specs.Contents.{Content}
use Rattle.ice_state.specs.Scans.{Scanned}
use Rattle.ice_state.specs.Specs.{by_id}
use Rattle.icescan_c.specs.declared.questions.Question.{Question}

-- a question, and what it selects
pub record Answered : Type 0 where
  pub question : Question
  pub selection : Selection

abbrev pub IsAnswer : Question → Selection → Type 0
IsAnswer question selection = selected question.metadata question.request ≡ Ok selection

-- the scan of a question
pub record AskedScan : Type 0 where
  pub question : Question
  pub scan : Scanned

-- the specs and the filter of a scan are those that the question selects
pub record IsOfQuestion (question : Question) (scan : Scanned) : Type 0 where
  pub selection : Selection
  pub answer : IsAnswer question selection
  pub specs : scan.specs ≡ by_id selection.specs
  pub filter : scan.filter ≡ selection.filter.parts

-- a state: the scan that it is of, that scan's question, and what was taken
pub record Kept : Type 0 where
  pub question : Question
  pub scan : Scanned
  pub content : Content

-- two states are of one scan: of the same question and the same rows
abbrev pub AreOfOneScan : Kept → Kept → Type 0
AreOfOneScan a b = (a.question ≡ b.question) × (a.scan ≡ b.scan)
