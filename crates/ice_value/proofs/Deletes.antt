-- The test of applying says what the rules say.
use Rattle.std.proofs.Common.{◌≡◌, ◌<◌, ◌≤◌, ℕ, nat_le, nat_lt, arith, ◌||◌, ◌&&◌, List, Option, Some, None, is_none}
use Rattle.std.proofs.Common.{refl, ap}
use Rattle.std.specs.Bool.{Decides}
use Rattle.std.specs.Option.{option_eq}
use Rattle.std.specs.Str.{bytes_eq}
use Rattle.std.specs.Ordering.{int_eq}
use Rattle.std.proofs.lemmas.Bool.Decides.{Decides-int_eq, Decides-and, Decides-or, Decides-like, nat_tests}
use Rattle.std.proofs.lemmas.Slice.Eq.{bytes_eq-Decides}
use Rattle.ice_value.specs.declared.file_content.FileContent.{FileContent}
use Rattle.ice_value.specs.declared.file_content.FileContent.TheVariants.{Data, PositionDeletes, EqualityDeletes}
use Rattle.ice_value.specs.Applying.{DataKey, DeleteKey, Applies, AppliesAs, SamePartition, Names, applies, applies_as}
use Rattle.ice_value.specs.Applying.{same_partition, names}
use Rattle.ice_value.specs.Cells.{same_tuple}
use Rattle.ice_value.specs.Equality.{tuple_decides}

le_decides : (a b : ℕ) → Decides (nat_le a b) (a ≤ b)
le_decides a b = (λ h. grind (arith, nat_tests), λ h. grind (arith, nat_tests))

lt_decides : (a b : ℕ) → Decides (nat_lt a b) (a < b)
lt_decides a b = (λ h. grind (arith, nat_tests), λ h. grind (arith, nat_tests))

partition_decides : (x : DataKey) (d : DeleteKey) → Decides (same_partition x d) (SamePartition x d)
partition_decides x d = Decides-and (int_eq x.spec_id d.spec_id) (same_tuple x.tuple d.tuple) (Decides-int_eq x.spec_id
    d.spec_id) (tuple_decides x.tuple d.tuple)

none_decides : (o : Option (List ℕ)) → Decides (is_none o) (o ≡ None)
none_decides None = (λ h. refl, λ h. refl)
none_decides (Some named) = (λ h. cc, λ h. cc)

some_decides : (o : Option (List ℕ)) (path : List ℕ) → Decides (option_eq bytes_eq o (Some path)) (o ≡ Some path)
some_decides None path = (λ h. cc, λ h. cc)
some_decides (Some named) path = Decides-like _ (λ h. ap Some h) (λ h. cc) (bytes_eq-Decides named path)

names_decides : (x : DataKey) (d : DeleteKey) → Decides (names x d) (Names x d)
names_decides x d = Decides-or (is_none d.referenced) (option_eq bytes_eq d.referenced (Some x.path))
    (none_decides d.referenced) (some_decides d.referenced x.path)

as_decides : (K : FileContent) (x : DataKey) (d : DeleteKey) → Decides (applies_as K x d) (AppliesAs K x d)
as_decides Data x d = (λ h. cc, λ h. absurd h)
as_decides PositionDeletes x d =
    let newer = nat_le x.sequence_number d.sequence_number in
    let here = Decides-and newer (same_partition x d) (le_decides x.sequence_number d.sequence_number)
    (partition_decides x d) in
    Decides-like _ (λ h. (h.0.0, h.0.1, h.1)) (λ h. ((h.0, h.1), h.2))
    (Decides-and (newer && same_partition x d) (names x d) here (names_decides x d))
as_decides EqualityDeletes x d =
    Decides-and (nat_lt x.sequence_number d.sequence_number) (same_partition x d || d.unpartitioned)
    (lt_decides x.sequence_number d.sequence_number)
    (Decides-or (same_partition x d) d.unpartitioned (partition_decides x d) (λ h. h, λ h. h))

pub applies-decides : (x : DataKey) (d : DeleteKey) → Decides (applies x d) (Applies x d)
applies-decides x d = as_decides d.content x d
