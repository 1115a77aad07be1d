-- What stands before the last slash of a name.
use Rattle.std.proofs.Common.{◌≡◌, ◌∷◌, ◌++◌, ◌<◌, ◌==◌, ℕ, List, None, take, drop, ap, sym, subst, ◌∙◌, lit<}
use Rattle.std.specs.Str.{NoCharPasses}
use Rattle.std.specs.Str.Pattern.{RFindsChar, SplitsAroundMatch}
use Rattle.std.proofs.lemmas.List.{take-append-drop}
use Rattle.std.proofs.lemmas.Str.Pattern.{NoCharPasses-char, drop_at_char}
use Rattle.icescan_files.specs.Disks.{HasNoSlash}

low : 47 < 128
low = lit< tt

-- a name is split at its last slash
pub last_slash : (name folder last : List ℕ) → SplitsAroundMatch (RFindsChar 47) name folder last
    → HasNoSlash last × (name ≡ folder ++ 47 ∷ last)
last_slash name folder last h = (
  λ i. NoCharPasses-char 47 last i (subst (NoCharPasses (λ d. d == 47)) (sym h.4) h.2.0) low,
  sym (take-append-drop h.0 name) ∙ ap (λ l. l ++ drop h.0 name) (sym h.3)
      ∙ ap (λ l. folder ++ l) (drop_at_char 47 name h.0 h.1 h.2.1 low ∙ ap (λ l. 47 ∷ l) (sym h.4)),
)

pub no_slash_at_all : (name : List ℕ) → RFindsChar 47 name None → HasNoSlash name
no_slash_at_all name h = λ i. NoCharPasses-char 47 name i h low
