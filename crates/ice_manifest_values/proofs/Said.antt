-- A field of an object says what was met where its id leads.
use Rattle.std.proofs.Common.{◌≡◌, ℤ, refl}
use Rattle.avro_file.specs.Picking.{Typed}
use Rattle.ice_manifest_fields.specs.ColumnMaps.{value_counts, null_value_counts, lower_bounds, upper_bounds}
use Rattle.ice_manifest_fields.specs.Fields.{at, int_at, number_at, path_at, optional_int, optional_number}
use Rattle.ice_manifest_fields.specs.Fields.{optional_path, ints_at}
use Rattle.ice_manifest_fields.specs.Maps.{counts_at, bounds_at, columns_of}
use Rattle.ice_manifest_values.specs.Met.{int_met, number_met, path_met, optional_int_met, optional_number_met}
use Rattle.ice_manifest_values.specs.Met.{optional_path_met, ints_met, columns_met}

pub int_said : (id : ℤ) (x : Typed) → int_at id x ≡ int_met id (at id x)
unfolding int_at
int_said id x = refl

pub number_said : (id : ℤ) (x : Typed) → number_at id x ≡ number_met id (at id x)
unfolding number_at
number_said id x = refl

pub path_said : (id : ℤ) (x : Typed) → path_at id x ≡ path_met id (at id x)
unfolding path_at
path_said id x = refl

pub optional_int_said : (id : ℤ) (x : Typed) → optional_int id x ≡ optional_int_met id (at id x)
unfolding optional_int
optional_int_said id x = refl

pub optional_number_said : (id : ℤ) (x : Typed) → optional_number id x ≡ optional_number_met id (at id x)
unfolding optional_number
optional_number_said id x = refl

pub optional_path_said : (id : ℤ) (x : Typed) → optional_path id x ≡ optional_path_met id (at id x)
unfolding optional_path
optional_path_said id x = refl

pub ints_said : (id item : ℤ) (x : Typed) → ints_at id item x ≡ ints_met item (at id x)
unfolding ints_at
ints_said id item x = refl

pub columns_said : (x : Typed) → columns_of x ≡ columns_met (record {
  values = at value_counts.id x;
  nulls = at null_value_counts.id x;
  lower = at lower_bounds.id x;
  upper = at upper_bounds.id x;
})
unfolding columns_of columns_met counts_at bounds_at
columns_said x = refl
