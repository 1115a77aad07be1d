-- Shares of the rows that a scan wants, by the bytes of their manifests.
use Rattle.std.specs.Prelude.{◌+◌, ◌*◌, ◌/◌, ◌==◌, ℕ, suc, ℤ, pos, negsuc, Bool, List, [], ◌∷◌, map}
use Rattle.std.specs.Prelude.{if◌then◌else◌, nat_lt}
use Rattle.ice_manifest_reading.specs.declared.row.Row.{Row}
use Rattle.icescan_text.specs.declared.share.Share.{Share}

-- what a manifest weighs: its bytes, at least 1 and at most 2,147,483,648
abbrev pub weight_of : ℤ → ℕ
weight_of (pos n) = if nat_lt n 1 then 1 else if nat_lt 2147483648 n then 2147483648 else n
weight_of (negsuc n) = 1

abbrev pub weight : Row → ℕ
weight row = weight_of row.length

-- what the manifests of these rows weigh together
abbrev pub total_weight : List Row → ℕ
total_weight [] = 0
total_weight (row ∷ rows) = weight row + total_weight rows

-- the number of the share, of so many, that a manifest is in before which this much of the total weight stands
abbrev pub share_of : ℕ → ℕ → ℕ → ℕ
share_of count total before = suc (count * before / total)

-- of each row the share that it is in, where so much stands before the first
abbrev pub shares_from : ℕ → ℕ → ℕ → List Row → List ℕ
shares_from count total before [] = []
shares_from count total before (row ∷ rows) =
    share_of count total before ∷ shares_from count total (before + weight row) rows

abbrev pub shares_of : ℕ → List Row → List ℕ
shares_of count rows = shares_from count (total_weight rows) 0 rows

-- which of the rows are in a share
abbrev pub are_in_share : Share → List Row → List Bool
are_in_share share rows = map (λ number. number == share.number) (shares_of share.count rows)
