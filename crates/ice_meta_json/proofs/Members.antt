-- Members after one was set.
use Rattle.std.proofs.Common.{◌≡◌, ℕ, List, false, Some, refl, sym, ◌∙◌, true≢false, bytes_eq}
use Rattle.std.proofs.lemmas.Slice.Eq.{bytes_eq-Decides}
use Rattle.serde_json.specs.Data as json
use Rattle.serde_json.specs.Data.{Data}
use Rattle.serde_json.specs.Find.{get, get_member}
use Rattle.serde_json.proofs.Views.{get_member-put, get_member-put_other}
use Rattle.ice_meta_json.specs.Objects.{members_of, set}

get_members : (q : List ℕ) (d : Data) → get_member q (members_of d) ≡ get q d
get_members q json.null = refl
get_members q (json.boolean b) = refl
get_members q (json.number x) = refl
get_members q (json.string s) = refl
get_members q (json.array ds) = refl
get_members q (json.object ms) = refl

pub set_same : (k : List ℕ) (x d : Data) → get k (set k x d) ≡ Some x
set_same k x d = get_member-put k x (members_of d)

pub set_other : (q k : List ℕ) (x d : Data) → bytes_eq q k ≡ false → get q (set k x d) ≡ get q d
set_other q k x d other =
    get_member-put_other q k x (members_of d) (λ same. true≢false (sym ((bytes_eq-Decides q k).1 same) ∙ other)) ∙
    get_members q d

pub set_apart : (q k : List ℕ) (x d : Data) → (q ≡ k → ⊥) → get q (set k x d) ≡ get q d
set_apart q k x d other = get_member-put_other q k x (members_of d) other ∙ get_members q d
