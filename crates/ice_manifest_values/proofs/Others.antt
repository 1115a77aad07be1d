-- Values that are none of a kind, by their types.
use Rattle.std.proofs.Common.{◌≡◌, false, Some, None, refl}
use Rattle.avro_schema.specs.Tree.{Tree, null, boolean, int, long, float, double, symbols, octets, string, fixed}
use Rattle.avro_schema.specs.Tree.{structure, array, map, union}
use Rattle.ice_manifest_fields.specs.Fields.{whole_of, truth_of, text_of, binary_of}
use Rattle.ice_manifest_fields.specs.Types.{is_whole, is_truth, is_text, is_binary}
use Rattle.ice_manifest_values.proofs.Leaves.{Makes}

pub no_whole : (t : Tree) → is_whole t ≡ false → Makes (λ v. whole_of (Some (t, v))) None t
no_whole null is = refl
no_whole boolean is = λ x. refl
no_whole int is = absurd cc
no_whole long is = absurd cc
no_whole float is = λ x. refl
no_whole double is = λ x. refl
no_whole (symbols n) is = λ x. refl
no_whole (octets kind) is = λ x. refl
no_whole string is = λ x. refl
no_whole (fixed n kind) is = λ x. refl
no_whole (structure fs) is = λ x. refl
no_whole (array t id kind) is = λ x. refl
no_whole (map t) is = λ x. refl
no_whole (union bs) is = λ n x. refl

pub no_text : (t : Tree) → is_text t ≡ false → Makes (λ v. text_of (Some (t, v))) None t
no_text null is = refl
no_text boolean is = λ x. refl
no_text int is = λ x. refl
no_text long is = λ x. refl
no_text float is = λ x. refl
no_text double is = λ x. refl
no_text (symbols n) is = λ x. refl
no_text (octets kind) is = λ x. refl
no_text string is = absurd cc
no_text (fixed n kind) is = λ x. refl
no_text (structure fs) is = λ x. refl
no_text (array t id kind) is = λ x. refl
no_text (map t) is = λ x. refl
no_text (union bs) is = λ n x. refl

pub no_binary : (t : Tree) → is_binary t ≡ false → Makes (λ v. binary_of (Some (t, v))) None t
no_binary null is = refl
no_binary boolean is = λ x. refl
no_binary int is = λ x. refl
no_binary long is = λ x. refl
no_binary float is = λ x. refl
no_binary double is = λ x. refl
no_binary (symbols n) is = λ x. refl
no_binary (octets kind) is = absurd cc
no_binary string is = λ x. refl
no_binary (fixed n kind) is = λ x. refl
no_binary (structure fs) is = λ x. refl
no_binary (array t id kind) is = λ x. refl
no_binary (map t) is = λ x. refl
no_binary (union bs) is = λ n x. refl

pub no_truth : (t : Tree) → is_truth t ≡ false → Makes (λ v. truth_of (Some (t, v))) None t
no_truth null is = refl
no_truth boolean is = absurd cc
no_truth int is = λ x. refl
no_truth long is = λ x. refl
no_truth float is = λ x. refl
no_truth double is = λ x. refl
no_truth (symbols n) is = λ x. refl
no_truth (octets kind) is = λ x. refl
no_truth string is = λ x. refl
no_truth (fixed n kind) is = λ x. refl
no_truth (structure fs) is = λ x. refl
no_truth (array t id kind) is = λ x. refl
no_truth (map t) is = λ x. refl
no_truth (union bs) is = λ n x. refl
