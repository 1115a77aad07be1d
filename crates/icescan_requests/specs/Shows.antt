-- What `show` makes of the bytes of a table's metadata: the table's text, or the metadata's first fault; and what is
-- written of such an answer.
use Rattle.std.specs.Prelude.{◌≡◌, ℕ, List, Option, Result, Ok}
use Rattle.contract_words.specs.Outcome.{◌>>=◌}
use Rattle.ice_meta.specs.Targets.{metadata_of}
use Rattle.icescan_text.specs.Faults.{of_meta}
use Rattle.ice_state.specs.Contents.{World}
use Rattle.icescan_text.specs.Reads.{as_run, file_in}
use Rattle.icescan_print.specs.TableTexts.{table_text}
use Rattle.icescan_print.specs.Written.{Appends, AppendsFront}
use Rattle.icescan_text.specs.declared.fault.RunFault.{RunFault}

unfoldable pub show_of : List ℕ → Result (List ℕ) RunFault
show_of bytes = as_run of_meta (metadata_of bytes) >>= λ metadata. Ok (table_text metadata.table)

-- the text of the metadata in the file at a path, or the first fault: there is no such file, or what it says is refused
unfoldable pub shown_at : World → List ℕ → Result (List ℕ) RunFault
shown_at world path = file_in world path >>= λ bytes. show_of bytes

-- what was written is the text that is asked for, or a front of it
abbrev pub WroteText : Result (List ℕ) RunFault → Option (List ℕ) → Option (List ℕ) → Type 0
WroteText read output output' = (text : List ℕ) × (read ≡ Ok text) × Appends output output' text

abbrev pub WroteFront : Result (List ℕ) RunFault → Option (List ℕ) → Option (List ℕ) → Type 0
WroteFront read output output' = (text : List ℕ) × (read ≡ Ok text) × AppendsFront output output' text
