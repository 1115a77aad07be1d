-- A commit nests no deeper than what it is made from, or than the little that it adds; nor do sequence numbers that are
-- filled in.
use Rattle.std.proofs.Common.{◌≤◌, ℕ, suc, List, Option, None, Some, Ordering, Less, Equal, Greater, arith}
use Rattle.std.proofs.Common.{Bool, true, false, cond}
use Rattle.std.specs.Ordering.{match_ordering, nat_cmp}
use Rattle.std.specs.Prelude.{ℤ, unwrap_or, codes}
use Rattle.std.specs.Cmp.Lexicographic.{slice_cmp}
use Rattle.serde_json.specs.Data as json
use Rattle.serde_json.specs.Data.{Data, Items, Members, put, depth, items_depth, members_depth}
use Rattle.serde_json.specs.Find.{get_member, of_integer}
use Rattle.serde_json.specs.Read.{max_depth}
use Rattle.ice_meta.specs.declared.commit.NewSnapshot.{NewSnapshot}
use Rattle.ice_meta.specs.declared.fault.Member.TheVariants as member
use Rattle.ice_meta.specs.declared.table.Table.{Table}
use Rattle.ice_meta.specs.Members.{member_name}
use Rattle.ice_meta_json.specs.Objects.{inside, members_of, natural, set, items_of, at_end, one_more, no_object}
use Rattle.ice_meta_json.specs.Upgraded.{snapshots, sequence_number, lacks_number, numbered, each_numbered}
use Rattle.ice_meta_json.specs.Upgraded.{snapshot_items, filled}
use Rattle.ice_meta_json.proofs.Filling.{either_filled}
use Rattle.uuid.specs.Text.{hyphenated_text, lower}
use Rattle.ice_meta.specs.Committing.{operation_name, with_parent, summary_json, snapshot_json, log_json, branch_to}
use Rattle.ice_meta.specs.Committing.{refs_json, with_refs, with_log, with_snapshots, next_json}

either : (o : Ordering) (a b c : Members) (n : ℕ) → members_depth a ≤ n → members_depth b ≤ n → members_depth c ≤ n
    → members_depth (match_ordering o a b c) ≤ n
either Less a b c n p q r = p
either Equal a b c n p q r = q
either Greater a b c n p q r = r

under_put : (k : List ℕ) (x : Data) (ms : Members) (n : ℕ) → depth x ≤ n → members_depth ms ≤ n
    → members_depth (put k x ms) ≤ n
under_put k x json.no_members n p q = omega arith
under_put k x (json.member l e ms) n p q =
    either _ (json.member k x (json.member l e ms)) (json.member l x ms) (json.member l e (put k x ms)) n (omega arith)
    (omega arith) (omega (arith, under_put k x ms n p (omega arith)))

under_members : (d : Data) (n : ℕ) → depth d ≤ suc n → members_depth (members_of d) ≤ n
under_members json.null n h = omega arith
under_members (json.boolean b) n h = omega arith
under_members (json.number x) n h = omega arith
under_members (json.string s) n h = omega arith
under_members (json.array ds) n h = omega arith
under_members (json.object ms) n h = omega arith

under_items : (d : Data) (n : ℕ) → depth d ≤ suc n → items_depth (items_of d) ≤ n
under_items json.null n h = omega arith
under_items (json.boolean b) n h = omega arith
under_items (json.number x) n h = omega arith
under_items (json.string s) n h = omega arith
under_items (json.array ds) n h = omega arith
under_items (json.object ms) n h = omega arith

under_end : (x : Data) (ds : Items) (n : ℕ) → depth x ≤ n → items_depth ds ≤ n → items_depth (at_end x ds) ≤ n
under_end x json.no_items n p q = omega arith
under_end x (json.item d ds) n p q = omega (arith, under_end x ds n p (omega arith))

-- the value of a member, where there is one
abbrev at_most : ℕ → Option Data → Type 0
at_most n None = 0 ≤ n
at_most n (Some d) = depth d ≤ n

found : (o : Ordering) (n : ℕ) (e : Data) (later : Option Data) → depth e ≤ n → at_most n later
    → at_most n (match_ordering o later (Some e) later)
found Less n e later p q = q
found Equal n e later p q = p
found Greater n e later p q = q

under_get : (k : List ℕ) (ms : Members) (n : ℕ) → members_depth ms ≤ n → at_most n (get_member k ms)
under_get k json.no_members n h = omega arith
under_get k (json.member l e ms) n h = found (slice_cmp nat_cmp k l) n e (get_member k ms) (omega arith)
    (under_get k ms n (omega arith))

or_null : (o : Option Data) (n : ℕ) → at_most n o → depth (unwrap_or o json.null) ≤ n
or_null None n h = omega arith
or_null (Some d) n h = h

-- a value with so many levels at most
Nests : ℕ → Data → Type 0
Nests n d = depth d ≤ n

no_levels : (n : ℕ) → Nests (suc n) no_object
unfolding Nests
no_levels n = omega arith

wider : (m n : ℕ) (d : Data) → m ≤ n → Nests m d → Nests n d
unfolding Nests
wider m n d le h = omega arith

under_inside : (k : List ℕ) (d : Data) (n : ℕ) → Nests (suc n) d → Nests n (inside k d)
unfolding Nests
under_inside k json.null n h = omega arith
under_inside k (json.boolean b) n h = omega arith
under_inside k (json.number x) n h = omega arith
under_inside k (json.string s) n h = omega arith
under_inside k (json.array ds) n h = omega arith
under_inside k (json.object ms) n h = or_null (get_member k ms) n (under_get k ms n (omega arith))

under_set : (k : List ℕ) (x d : Data) (n : ℕ) → Nests n x → Nests (suc n) d → Nests (suc n) (set k x d)
unfolding Nests
under_set k x d n p q = omega (arith, under_put k x (members_of d) n p (under_members d n q))

under_one_more : (x d : Data) (n : ℕ) → Nests n x → Nests (suc n) d → Nests (suc n) (one_more x d)
unfolding one_more Nests
under_one_more x d n p q = omega (arith, under_end x (items_of d) n p (under_items d n q))

under_number : (k : List ℕ) (x : json.Num) (d : Data) (n : ℕ) → Nests (suc n) d
    → Nests (suc n) (set k (json.number x) d)
unfolding Nests
under_number k x d n h = under_set k (json.number x) d n (omega arith) h

under_text : (k text : List ℕ) (d : Data) (n : ℕ) → Nests (suc n) d → Nests (suc n) (set k (json.string text) d)
unfolding Nests
under_text k text d n h = under_set k (json.string text) d n (omega arith) h

under_parent : (o : Option ℤ) (d : Data) (n : ℕ) → Nests (suc n) d → Nests (suc n) (with_parent o d)
under_parent None d n h = h
under_parent (Some id) d n h = under_number (member_name member.ParentSnapshotId) (of_integer id) d n h

under_summary : (s : NewSnapshot) → Nests 1 (summary_json s)
under_summary s = under_text (member_name member.Operation) (operation_name s.operation) no_object 0 (no_levels 0)

under_snapshot : (t : Table) (s : NewSnapshot) → Nests 2 (snapshot_json t s)
unfolding snapshot_json
under_snapshot t s =
    under_parent t.current_snapshot_id _ 1
    (under_set (member_name member.Summary) (summary_json s) _ 1 (under_summary s)
    (under_number (member_name member.SchemaId) (of_integer t.current_schema_id) _ 1
    (under_text (member_name member.ManifestList) s.manifest_list _ 1
    (under_number (member_name member.TimestampMs) (of_integer s.timestamp_ms) _ 1
    (under_number (member_name member.SequenceNumber) (json.unsigned (suc t.last_sequence_number)) _ 1
    (under_number (member_name member.SnapshotId) (of_integer s.id) no_object 1 (no_levels 1)))))))

under_log : (s : NewSnapshot) → Nests 1 (log_json s)
unfolding log_json
under_log s =
    under_number (member_name member.SnapshotId) (of_integer s.id) _ 0
    (under_number (member_name member.TimestampMs) (of_integer s.timestamp_ms) no_object 0 (no_levels 0))

under_branch : (id : ℤ) (d : Data) (n : ℕ) → Nests (suc n) d → Nests (suc n) (branch_to id d)
under_branch id d n h = under_text (member_name member.Type) (codes "branch") _ n
    (under_number (member_name member.SnapshotId) (of_integer id) d n h)

under_refs : (s : NewSnapshot) (d : Data) (n : ℕ) → Nests (suc (suc n)) d → Nests (suc (suc n)) (refs_json s d)
unfolding refs_json
under_refs s d n h =
    under_set (codes "main") (branch_to s.id (inside (codes "main") d)) d (suc n)
    (under_branch s.id (inside (codes "main") d) n (under_inside (codes "main") d (suc n) h)) h

with_refs_nests : (s : NewSnapshot) (d : Data) → Nests max_depth d → Nests max_depth (with_refs s d)
with_refs_nests s d h =
    let refs = inside (member_name member.Refs) d in
    under_set (member_name member.Refs) (refs_json s refs) d 126
    (under_refs s refs 124 (under_inside (member_name member.Refs) d 126 h)) h

with_log_nests : (s : NewSnapshot) (d : Data) → Nests max_depth d → Nests max_depth (with_log s d)
with_log_nests s d h =
    let log = inside (codes "snapshot-log") d in
    under_set (codes "snapshot-log") (one_more (log_json s) log) d 126
    (under_one_more (log_json s) log 125 (wider 1 125 (log_json s) (omega arith) (under_log s))
    (under_inside (codes "snapshot-log") d 126 h)) h

with_snapshots_nests : (t : Table) (s : NewSnapshot) (d : Data) → Nests max_depth d
    → Nests max_depth (with_snapshots t s d)
with_snapshots_nests t s d h =
    let snapshots = inside (member_name member.Snapshots) d in
    under_set (member_name member.Snapshots) (one_more (snapshot_json t s) snapshots) d 126
    (under_one_more (snapshot_json t s) snapshots 125 (wider 2 125 (snapshot_json t s) (omega arith)
    (under_snapshot t s)) (under_inside (member_name member.Snapshots) d 126 h)) h

next_nests : (t : Table) (s : NewSnapshot) (d : Data) → Nests max_depth d → Nests max_depth (next_json t s d)
unfolding next_json
next_nests t s d h =
    under_text (member_name member.TableUuid) (hyphenated_text lower t.uuid) _ 126
    (under_number (member_name member.LastSequenceNumber) (json.unsigned (suc t.last_sequence_number)) _ 126
    (under_number (member_name member.LastUpdatedMs) (of_integer s.timestamp_ms) _ 126
    (under_number (member_name member.CurrentSnapshotId) (of_integer s.id) _ 126
    (with_snapshots_nests t s _ (with_log_nests s _ (with_refs_nests s d h))))))

pub under_next : (t : Table) (s : NewSnapshot) (d : Data) → depth d ≤ max_depth → depth (next_json t s d) ≤ max_depth
unfolding Nests
under_next t s d h = next_nests t s d h

-- ---- sequence numbers that are filled in

numbered_nests : (d : Data) (n : ℕ) → Nests (suc n) d → Nests (suc n) (numbered d)
numbered_nests d n h = here (lacks_number d)
  where
    here : (b : Bool) → Nests (suc n) (cond b (set sequence_number (natural 0) d) d)
    here true = under_number sequence_number (json.unsigned 0) d n h
    here false = h

items_nest : (ds : Items) (n : ℕ) → items_depth ds ≤ suc n → items_depth (each_numbered ds) ≤ suc n
unfolding Nests
items_nest json.no_items n h = h
items_nest (json.item d ds) n h =
    omega (arith, numbered_nests d n (omega arith), items_nest ds n (omega arith))

array_nests : (ds : Items) (n : ℕ) → items_depth ds ≤ n → Nests (suc n) (json.array ds)
unfolding Nests
array_nests ds n h = omega arith

under_snapshots : (d : Data) (n : ℕ) → Nests (suc n) d → items_depth (items_of d) ≤ n
unfolding Nests
under_snapshots d n h = under_items d n h

filled_nests : (d : Data) → Nests max_depth d → Nests max_depth (filled d)
filled_nests d h =
    either_filled (Nests max_depth) d (λ _. h) (λ _.
    under_set snapshots (json.array (each_numbered (snapshot_items d))) d 126 (array_nests _ 125
    (items_nest (snapshot_items d) 124 (under_snapshots (inside snapshots d) 125 (under_inside snapshots d 126 h)))) h)

pub under_filled : (d : Data) → depth d ≤ max_depth → depth (filled d) ≤ max_depth
unfolding Nests
under_filled d h = filled_nests d h
