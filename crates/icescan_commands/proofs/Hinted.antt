-- Runs of the program with hints and without.
use Rattle.std.proofs.Common.{◌≡◌, ◌⊎◌, ℕ, Bool, true, false, List, [], ◌∷◌, Option, refl, inl, inr, map, length, codes}
use Rattle.std.proofs.Common.{arith}
use Rattle.std.specs.Prelude.{◌==◌, Result}
use Rattle.std.proofs.lemmas.Bool.Decides.{nat_tests}
use Rattle.icescan_progress.proofs.Plain.{nothing_plain}
use Rattle.icescan_text.specs.declared.fault.RunFault.{RunFault}
use Rattle.icescan_commands.specs.Runs.{Explained, Given, Left, RanWithHint, RanWithoutHint, Refused, Told}
use Rattle.icescan_commands.specs.Runs.{ToldWithHint, Wrote, WroteWithNotes, meant}
use Rattle.icescan_commands.proofs.Beside.{beside_nothing, beside_plain}
use Rattle.icescan_words.specs.declared.command.Command.{Command}

-- a fault that is told without a hint
pub plainly : (w : Type 0) (e e' : Option (List ℕ)) (fault : RunFault) → Told w e e' fault → ToldWithHint w e e' fault
plainly w e e' fault told = record { between = e'; line = told; hint = nothing_plain e' }

hinted : (given : Given) (asked : Result Command RunFault) (text : List ℕ) (left : Left) → Refused given asked text left
    → Explained given asked text left
hinted given asked text left r = record {
  fault = r.fault;
  cause = r.cause;
  status_is = r.status_is;
  nothing = r.nothing;
  front = r.front;
  stored = r.stored;
  stored_of_given = r.stored_of_given;
  before = given.errors;
  note = nothing_plain given.errors;
  told = plainly given.tell_may_fail given.errors left.errors r.fault r.told;
}

noted : (given : Given) (asked : Result Command RunFault) (text : List ℕ) (left : Left) → Wrote given asked text left
    → WroteWithNotes given asked text left
noted given asked text left w = record {
  wrote = record {
    written = w.written;
    beside = beside_nothing asked given.errors;
    ends = w.ends;
    drilled = w.drilled;
    of_given = w.of_given;
    stored = w.stored;
    stored_of_given = w.stored_of_given;
  };
  noted = record {
    between = given.errors;
    before = nothing_plain given.errors;
    after = beside_plain asked given.errors left.errors w.beside;
  };
}

or_hinted : (given : Given) (asked : Result Command RunFault) (text : List ℕ) (left : Left)
    → Wrote given asked text left ⊎ Refused given asked text left
    → WroteWithNotes given asked text left ⊎ Explained given asked text left
or_hinted given asked text left (inl w) = inl (noted given asked text left w)
or_hinted given asked text left (inr r) = inr (hinted given asked text left r)

-- a fault is told the same to errors of which fewer writes may fail
pub tell_more : (w v : Type 0) (e e' : Option (List ℕ)) (fault : RunFault) → (w → v) → ToldWithHint w e e' fault
    → ToldWithHint v e e' fault
tell_more w v e e' fault still told = record {
  between = told.between;
  line = record { front = told.line.front; all = λ no. told.line.all (λ yes. no (still yes)) };
  hint = told.hint;
}

-- no hint is a hint without lines, and no notes are notes without any
pub with_hint : (given : Given) (texts : List (List ℕ)) (left : Left) → RanWithoutHint given texts left
    → RanWithHint given texts left
with_hint given texts left r = (r.0, r.1, r.2, r.3, or_hinted given r.0 r.2 left r.4)

-- no words on a terminal are those of the help
pub meant_help : {X : Type 0} (f : X → List ℕ) (input none : Bool) (words : List X) → input ≡ true
    → none ≡ (length words == 0) → none ≡ true → meant input (map f words) ≡ codes "--help" ∷ []
meant_help f true none [] typed is empty = refl
meant_help f true none (word ∷ words) typed is empty = absurd (grind (arith, nat_tests))
meant_help f false none words typed is empty = absurd cc

-- all others mean what they are
pub meant_words : {X : Type 0} (f : X → List ℕ) (input none : Bool) (words : List X) → none ≡ (length words == 0)
    → none ≡ false → meant input (map f words) ≡ map f words
meant_words f true none [] is some = absurd (grind (arith, nat_tests))
meant_words f true none (word ∷ words) is some = refl
meant_words f false none [] is some = refl
meant_words f false none (word ∷ words) is some = refl

-- where standard input is no terminal, all words do
pub meant_piped : {X : Type 0} (f : X → List ℕ) (input : Bool) (words : List X) → input ≡ false
    → meant input (map f words) ≡ map f words
meant_piped f true words piped = absurd cc
meant_piped f false [] piped = refl
meant_piped f false (word ∷ words) piped = refl
