-- The states at several paths, one after the other.
use Rattle.std.proofs.Common.{◌≡◌, ◌<◌, ℕ, ◌+◌, List, ◌∷◌, length, drop, get_or, add-one, drop-cons, subst, sym, ◌∙◌}
use Rattle.std.proofs.Common.{refl}
use Rattle.ice_desk.specs.Given.{Giving}
use Rattle.ice_state.specs.Contents.{Content}
use Rattle.ice_state.specs.Joins.{join}
use Rattle.ice_state.specs.Scans.{Scanned}
use Rattle.icescan_shares.specs.Given.{AreStatesGiven, IsStateGiven}

path_step : (paths : List (List ℕ)) (i : ℕ) (path : List ℕ) → i < length paths → path ≡ get_or paths i path
    → drop i paths ≡ path ∷ drop (i + 1) paths
path_step paths i path l is = drop-cons paths i path l ∙ rw (← is, add-one) refl

pub one_more : (kept : Giving) (scan : Scanned) (name : List ℕ) (paths : List (List ℕ)) (i : ℕ) (path : List ℕ)
    (before other after : Content) → i < length paths → path ≡ get_or paths i path
    → IsStateGiven kept scan name path other
    → AreStatesGiven kept scan name (drop (i + 1) paths) (join before other) after
    → AreStatesGiven kept scan name (drop i paths) before after
one_more kept scan name paths i path before other after l is given rest =
    subst (λ ps. AreStatesGiven kept scan name ps before after) (sym (path_step paths i path l is))
    (other, given, rest)
