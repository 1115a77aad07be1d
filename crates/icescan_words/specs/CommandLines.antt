-- What the words of a command line are read as.
use Rattle.std.specs.Prelude.{◌≡◌, ◌⊎◌, ℕ, Bool, true, false, ◌&&◌, List, [], ◌∷◌, codes, None, Result, Ok, IfErr, IfOk}
use Rattle.std.specs.Str.{bytes_eq}
use Rattle.icescan_words.specs.Heard.{AsksFor}
use Rattle.icescan_forms.specs.declared.format.Format.TheVariants as format
use Rattle.icescan_words.specs.declared.command.Lists.TheVariants as lists
use Rattle.icescan_words.specs.declared.command.Command.{Command}
use Rattle.icescan_words.specs.declared.command.Command.TheVariants as command
use Rattle.icescan_text.specs.declared.fault.RunFault.{RunFault}
use Rattle.icescan_text.specs.declared.fault.RunFault.TheVariants as run

-- the words that ask for the text of the plan of a bundle's first file, before any others are read: none, or these two
abbrev pub asks_first_list : List (List ℕ) → Bool
asks_first_list [] = true
asks_first_list (command ∷ []) = false
asks_first_list (command ∷ way ∷ []) = bytes_eq command (codes "list-plan") && bytes_eq way (codes "--bundle")
asks_first_list (command ∷ way ∷ word ∷ words) = false

abbrev pub first_list : Command
first_list = command.ListPlan (lists.Bundle None) format.Text

-- why words are refused
abbrev pub IsWordsFault : RunFault → Type 0
IsWordsFault fault = (fault ≡ run.Memory) ⊎ ((text : List ℕ) × (fault ≡ run.Words text))

-- what the words were read as: the command that they ask for, or a refusal of the words
pub record ReadAs (texts : List (List ℕ)) (asked : Result Command RunFault) : Type 0 where
  pub first : asks_first_list texts ≡ true → asked ≡ Ok first_list
  pub heard : asks_first_list texts ≡ false → IfOk asked (AsksFor texts)
  pub causes : IfErr asked IsWordsFault
