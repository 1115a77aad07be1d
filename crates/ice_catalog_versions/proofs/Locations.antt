-- The location of a table that was read is short.
use Rattle.std.proofs.Common.{◌≡◌, ◌≤◌, ℕ, Bool, true, false, cond, List, length, refl, subst}
use Rattle.std.specs.Prelude.{Result, Ok, Err, nat_lt}
use Rattle.std.proofs.lemmas.Bool.{ltb-false}
use Rattle.ice_meta.specs.declared.fault.Member.TheVariants as member
use Rattle.ice_meta.specs.declared.fault.MetaFault.{MetaFault}
use Rattle.ice_meta.specs.declared.fault.MetaFault.TheVariants.{WrongKind}
use Rattle.ice_meta.specs.declared.table.Table.{Table}
use Rattle.ice_meta.specs.Members.{int_in, long_in, sequence_number_in, text_in}
use Rattle.ice_meta.specs.Tables.{current_schema_in, current_snapshot_in, default_spec_in, if_short, location_in}
use Rattle.ice_meta.specs.Tables.{refs_in, schemas_in, snapshots_in, specs_in, table_of, uuid_in, version_in}
use Rattle.ice_meta.specs.Targets.{Described}
use Rattle.ice_meta.proofs.Following.{ok_is, take}

not_long : (s x : List ℕ) (b : Bool) → nat_lt 65000 (length s) ≡ b
    → (let r : Result (List ℕ) MetaFault = cond b (Err (WrongKind member.Location)) (Ok s) in r ≡ Ok x)
    → length x ≤ 65000
not_long s x true is e = absurd cc
not_long s x false is e = let same : s ≡ x = cc in subst (λ (y : List ℕ). length y ≤ 65000) same
    (ltb-false 65000 (length s) is)

short_text : (m : Described) (x : List ℕ) → location_in m.json ≡ Ok x → length x ≤ 65000
unfolding location_in
short_text m x e = take _ (text_in member.Location m.json) if_short x e (λ s was is. not_long s x
    (nat_lt 65000 (length s)) refl is)

pub short_location : (m : Described) → table_of m.json ≡ Ok m.table → length m.table.location ≤ 65000
unfolding table_of
short_location m e =
    let d = m.json in
    let t = m.table in
    take _ (version_in d) _ t e (λ version was_version e1. take _ (uuid_in d) _ t e1 (λ uuid was_uuid e2. take _
    (location_in d) _ t e2 (λ location was_location e3.
    take _ (sequence_number_in member.LastSequenceNumber d) _ t e3 (λ number was_number e4. take _
    (long_in member.LastUpdatedMs d) _ t e4 (λ updated was_updated e5.
    take _ (int_in member.LastColumnId d) _ t e5 (λ column was_column e6. take _ (schemas_in d) _ t e6
    (λ schemas were_schemas e7.
    take _ (current_schema_in schemas d) _ t e7 (λ schema was_schema e8. take _ (specs_in d) _ t e8
    (λ specs were_specs e9.
    take _ (default_spec_in specs d) _ t e9 (λ spec was_spec e10. take _ (int_in member.LastPartitionId d) _ t e10
    (λ partition was_partition e11.
    take _ (current_snapshot_in d) _ t e11 (λ snapshot was_snapshot e12. take _ (snapshots_in d) _ t e12
    (λ snapshots were_snapshots e13.
    take _ (refs_in d) _ t e13 (λ refs were_refs e14.
    subst (λ (x : Table). length x.location ≤ 65000) (ok_is _ t e14) (short_text m location was_location)))))))))))))))
