-- The line of the projection that a transform has.
use Rattle.std.proofs.Common.{◌≡◌, refl, cond}
use Rattle.ice_value.specs.declared.column_type.ColumnType.{ColumnType}
use Rattle.ice_transform.specs.Values.{value_of}
use Rattle.ice_transform.specs.declared.parameter.Parameter.{Parameter}
use Rattle.ice_transform.specs.declared.transform.Transform.{Transform}
use Rattle.ice_transform.specs.declared.transform.Transform.TheVariants.{Bucket, Truncate, Year, Month, Day, Hour}
use Rattle.ice_filter.specs.declared.bound.Test.{Test}
use Rattle.ice_project.specs.Projection.{scattered, stepped, cut, is_cut, projected_test}

pub bucket_line : (f : Transform) (n : Parameter) (t : ColumnType) (test : Test) → f ≡ Bucket n
    → scattered (value_of f t) test ≡ projected_test f t test
bucket_line f n t test e = rw e refl

pub truncate_line : (f : Transform) (w : Parameter) (t : ColumnType) (test : Test) → f ≡ Truncate w →
    cond (is_cut t) (cut (value_of f t) w.number test) (stepped (value_of f t) t test) ≡ projected_test f t test
truncate_line f w t test e = rw e refl

pub year_line : (f : Transform) (t : ColumnType) (test : Test) → f ≡ Year
    → stepped (value_of f t) t test ≡ projected_test f t test
year_line f t test e = rw e refl

pub month_line : (f : Transform) (t : ColumnType) (test : Test) → f ≡ Month
    → stepped (value_of f t) t test ≡ projected_test f t test
month_line f t test e = rw e refl

pub day_line : (f : Transform) (t : ColumnType) (test : Test) → f ≡ Day
    → stepped (value_of f t) t test ≡ projected_test f t test
day_line f t test e = rw e refl

pub hour_line : (f : Transform) (t : ColumnType) (test : Test) → f ≡ Hour
    → stepped (value_of f t) t test ≡ projected_test f t test
hour_line f t test e = rw e refl
