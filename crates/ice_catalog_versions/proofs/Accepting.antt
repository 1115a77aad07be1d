-- What follows where a commit isn't refused.
use Rattle.std.proofs.Common.{subst, ◌≡◌, ◌≤◌, ◌<◌, ◌+◌, Bool, true, false, cond, ◌||◌, List, [], ◌∷◌, ◌++◌, length}
use Rattle.std.proofs.Common.{map, refl, ap, arith, length-append}
use Rattle.std.specs.Prelude.{negsuc, Option, None, Some, is_some, Ok}
use Rattle.std.specs.List.{AllByRecursion}
use Rattle.std.specs.Ordering.{int_eq}
use Rattle.std.proofs.lemmas.Bool.{ltb-true, ltb-false}
use Rattle.ice_meta.specs.Committing.{CanFollow}
use Rattle.ice_meta.specs.Tables.{table_of}
use Rattle.ice_meta.specs.Targets.{snapshot_with}
use Rattle.ice_manifest_reading.specs.declared.row.ManifestContent.TheVariants.{Data as OfData, Deletes}
use Rattle.ice_catalog_changes.specs.declared.change.Commit.{Commit}
use Rattle.ice_catalog_changes.specs.declared.fault.PrepareFault.{PrepareFault}
use Rattle.ice_catalog_changes.specs.declared.fault.PrepareFault.TheVariants as fault
use Rattle.ice_catalog_versions.specs.Adding.{CanWrite, snapshot_of}
use Rattle.ice_catalog_versions.specs.Bases.{base_rows, table_specs}
use Rattle.ice_catalog_versions.specs.Groups.{groups_of, groups}
use Rattle.ice_catalog_versions.specs.Refusals.{all_files, spec_id_of, paths_where, is_bad, is_unknown, is_wrong}
use Rattle.ice_catalog_versions.specs.Refusals.{refusal}
use Rattle.ice_catalog_versions.specs.States.{State}
use Rattle.ice_catalog_versions.proofs.Leasts.{unmapped, no_path, no_id, both_empty, none_passes, unnamed}
use Rattle.ice_catalog_versions.proofs.Reasons.{none_stand}
use Rattle.ice_catalog_versions.proofs.Specs.{read_small}
use Rattle.ice_catalog_versions.proofs.Writable.{all_append, all_split, all_both, all_groups}

pub if_none : (b : Bool) (f : PrepareFault) → cond b (Some f) None ≡ None → b ≡ false
if_none true f h = absurd cc
if_none false f h = refl

pub unless_none : (b : Bool) (f : PrepareFault) → cond b None (Some f) ≡ None → b ≡ true
unless_none true f h = refl
unless_none false f h = absurd cc

pub or_false : (a b : Bool) → (a || b) ≡ false → (a ≡ false) × (b ≡ false)
or_false true b h = absurd cc
or_false false b h = (refl, h)

pub is_none_of : {A : Type 0} (o : Option A) → is_some o ≡ false → o ≡ None
is_none_of None h = refl
is_none_of (Some x) h = absurd cc

map_append : {A B : Type 0} (f : A → B) (xs ys : List A) → map f (xs ++ ys) ≡ map f xs ++ map f ys
map_append f [] ys = refl
map_append f (x ∷ xs) ys = ap (λ zs. f x ∷ zs) (map_append f xs ys)

module _ (s : State) (c : Commit) (none : refusal s c ≡ None) where
  -- there is a sequence number after the last one
  pub last_below : s.metadata.table.last_sequence_number < 0x7fff_ffff_ffff_ffff
  last_below = ltb-true s.metadata.table.last_sequence_number 0x7fff_ffff_ffff_ffff (unless_none _ fault.SequenceEnd
      (none_stand s c none).1.1.0)

  -- the table can have the snapshot
  pub can_follow : CanFollow s.metadata.table (snapshot_of s.metadata.table c)
  can_follow =
      let taken = or_false (int_eq c.ids.snapshot (negsuc 0)) _ (if_none _ fault.SnapshotTaken
      (none_stand s c none).1.0) in
      let below = last_below in
      record {
        id_is_new = is_none_of (snapshot_with c.ids.snapshot s.metadata.table) taken.1;
        id_is_one = taken.0;
        number_fits = omega arith;
      }

  few : length (all_files c.change) ≤ 1_000_000
  few = ltb-false 1_000_000 (length (all_files c.change))
      (or_false _ _ (if_none _ fault.TooManyRows (none_stand s c none).1.1.1.1.1.1.1.1.1.0)).1

  -- the new list has few rows
  pub few_rows : length (base_rows s.world s.metadata.table) + length (groups c.change) ≤ 65_536
  few_rows = ltb-false 65_536 (length (base_rows s.world s.metadata.table) + length (groups c.change))
      (or_false _ _ (if_none _ fault.TooManyRows (none_stand s c none).1.1.1.1.1.1.1.1.1.0)).0

  -- its groups can be written
  pub can_write : table_of s.metadata.json ≡ Ok s.metadata.table
      → AllByRecursion (CanWrite s.metadata c.ids) (groups c.change)
  can_write said =
      let t = s.metadata.table in
      let specs = table_specs t in
      let stands = none_stand s c none in
      let bad = both_empty (paths_where (is_bad OfData) c.change.files) (paths_where (is_bad Deletes) c.change.deletes)
      (no_path _ (unmapped fault.BadFile _ stands.1.1.1.1.0)) in
      let known = none_passes (is_unknown specs) (map spec_id_of (all_files c.change))
      (no_id _ (unmapped fault.NoSuchSpec _ stands.1.1.1.1.1.0)) in
      let ids : AllByRecursion (λ id. is_unknown specs id ≡ false) (map spec_id_of c.change.files ++ map spec_id_of
      c.change.deletes) =
      subst (AllByRecursion (λ id. is_unknown specs id ≡ false)) (map_append spec_id_of c.change.files c.change.deletes)
      known in
      let each = all_split (λ id. is_unknown specs id ≡ false) (map spec_id_of c.change.files)
      (map spec_id_of c.change.deletes) ids in
      let right = all_split (λ f. is_wrong specs f ≡ false) c.change.files c.change.deletes
      (none_passes (is_wrong specs) (all_files c.change) (unnamed (is_wrong specs) (all_files c.change)
      (no_path _ (unmapped fault.WrongTuple _ stands.1.1.1.1.1.1.0)))) in
      let of_data = all_both (λ f. is_bad OfData f ≡ false) (λ f. is_wrong specs f ≡ false) c.change.files
      (none_passes (is_bad OfData) c.change.files (unnamed (is_bad OfData) c.change.files bad.0)) right.0 in
      let deletes = all_both (λ f. is_bad Deletes f ≡ false) (λ f. is_wrong specs f ≡ false) c.change.deletes
      (none_passes (is_bad Deletes) c.change.deletes (unnamed (is_bad Deletes) c.change.deletes bad.1)) right.1 in
      let small = read_small s.metadata said in
      let n = length-append c.change.files c.change.deletes in
      let m = few in
      all_append (CanWrite s.metadata c.ids) (groups_of OfData c.change.files) (groups_of Deletes c.change.deletes)
      (all_groups s.metadata c.ids OfData c.change.files small each.0 of_data (omega arith))
      (all_groups s.metadata c.ids Deletes c.change.deletes small each.1 deletes (omega arith))
