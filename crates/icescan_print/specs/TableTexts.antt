-- The program's own text of a table's metadata. (10 is the line feed.)
use Rattle.std.specs.Prelude.{ℕ, ℤ, Bool, not, List, [], ◌∷◌, ◌++◌, length, filter, codes, Option, Some, None}
use Rattle.std.specs.Prelude.{option_map, option_to_list}
use Rattle.std.specs.Fmt.{signed_decimal}
use Rattle.std.specs.List.{flat_map}
use Rattle.std.specs.Ordering.{is_lt, int_cmp, nat_cmp, ordering_then}
use Rattle.std.specs.declared.cmp.Ordering.{Ordering}
use Rattle.std.specs.Cmp.Lexicographic.{slice_cmp}
use Rattle.uuid.specs.Text.{hyphenated_text, lower}
use Rattle.contract_words.specs.Sorting.{sorted}
use Rattle.ice_meta.specs.declared.schema.Schema.{Schema}
use Rattle.ice_meta.specs.declared.spec.Spec.{Spec}
use Rattle.ice_meta.specs.declared.snapshot.Ref.{Ref}
use Rattle.ice_meta.specs.declared.snapshot.RefKind.{RefKind}
use Rattle.ice_meta.specs.declared.snapshot.RefKind.TheVariants as kind
use Rattle.ice_meta.specs.declared.snapshot.Snapshot.{Snapshot}
use Rattle.ice_meta.specs.declared.table.Table.{Table}
use Rattle.ice_meta.specs.Targets.{is_main}
use Rattle.icescan_print.specs.Escaping.{escaped}
use Rattle.icescan_print.specs.Pieces.{named_path, named_signed, named_number}

-- what is absent is shown as `-`
abbrev pub or_dash : Option (List ℕ) → List ℕ
or_dash None = codes "-"
or_dash (Some text) = text

abbrev pub named_id : List ℕ → Option ℤ → List ℕ
named_id name id = name ++ or_dash (option_map signed_decimal id)

abbrev pub named_text : List ℕ → Option (List ℕ) → List ℕ
named_text name text = name ++ or_dash (option_map escaped text)

-- the things in their order, a line each
abbrev pub lines_in : {X : Type 0} → (X → X → Ordering) → (X → List ℕ) → List X → List ℕ
lines_in order line xs = flat_map line (sorted (λ a b. is_lt (order a b)) xs)

-- ---- schemas and specs, by id

-- a thing by its id, and how many things are in it
abbrev pub counted_line : List ℕ → ℤ → List ℕ → ℕ → List ℕ
counted_line name id inside n = named_signed name id ++ (named_number inside n ++ 10 ∷ [])

unfoldable pub schema_line : Schema → List ℕ
schema_line schema = counted_line (codes "schema ") schema.id (codes " columns ") (length schema.columns)

abbrev pub schema_order : Schema → Schema → Ordering
schema_order a b = int_cmp a.id b.id

unfoldable pub spec_line : Spec → List ℕ
spec_line spec = counted_line (codes "spec ") spec.id (codes " fields ") (length spec.fields)

abbrev pub spec_order : Spec → Spec → Ordering
spec_order a b = int_cmp a.id b.id

-- ---- snapshots, by sequence number, and by id where two have one number

-- its numbers
unfoldable pub change_text : Snapshot → List ℕ
change_text s = named_signed (codes "snapshot ") s.id
    ++ (named_number (codes " seq ") s.sequence_number ++ named_signed (codes " at ") s.timestamp_ms)

-- what may be absent
unfoldable pub origin_text : Snapshot → List ℕ
origin_text s = named_id (codes " parent ") s.parent_id
    ++ (named_text (codes " operation ") s.operation ++ named_text (codes " list ") s.manifest_list)

unfoldable pub snapshot_line : Snapshot → List ℕ
snapshot_line s = change_text s ++ (origin_text s ++ 10 ∷ [])

abbrev pub snapshot_order : Snapshot → Snapshot → Ordering
snapshot_order a b = ordering_then (nat_cmp a.sequence_number b.sequence_number) (int_cmp a.id b.id)

-- ---- branches and tags, by name

abbrev pub kind_name : RefKind → List ℕ
kind_name kind.Branch = codes " branch "
kind_name kind.Tag = codes " tag "

unfoldable pub ref_line : Ref → List ℕ
ref_line r = named_path (codes "ref ") r.name ++ (named_signed (kind_name r.kind) r.snapshot_id ++ 10 ∷ [])

abbrev pub ref_order : Ref → Ref → Ordering
ref_order a b = slice_cmp nat_cmp a.name b.name

abbrev pub is_other : Ref → Bool
is_other r = not (is_main r.name)

-- the branch `main` of a table with a current snapshot
abbrev pub main_ref : ℤ → Ref
main_ref id = record { name = codes "main"; snapshot_id = id; kind = kind.Branch }

-- `main` is the current snapshot, whatever the refs say of it; the others are as they stand
abbrev pub shown_refs : Table → List Ref
shown_refs t = filter is_other t.refs ++ option_to_list (option_map main_ref t.current_snapshot_id)

-- ---- the table

abbrev pub uuid_text : List ℕ → List ℕ
uuid_text uuid = codes "table-uuid " ++ hyphenated_text lower uuid

-- what a table has one of
unfoldable pub head_text : Table → List ℕ
head_text t =
    uuid_text t.uuid ++ (named_path (codes "\nlocation ") t.location
    ++ (named_number (codes "\nlast-sequence-number ") t.last_sequence_number
    ++ (named_id (codes "\ncurrent-snapshot ") t.current_snapshot_id ++ 10 ∷ [])))

unfoldable pub table_text : Table → List ℕ
table_text t =
    head_text t ++ (lines_in schema_order schema_line t.schemas ++ (lines_in spec_order spec_line t.specs
    ++ (lines_in snapshot_order snapshot_line t.snapshots ++ lines_in ref_order ref_line (shown_refs t))))
