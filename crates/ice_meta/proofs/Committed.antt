-- Metadata that was written reads as what it was, and nests no deeper after a commit.
use Rattle.std.proofs.Common.{◌≡◌, ◌≤◌, ℕ, List, Some, Ok, Err, true, refl, sym, subst}
use Rattle.std.specs.Option.{is_some}
use Rattle.std.specs.Str.{IsUtf8}
use Rattle.std.proofs.lemmas.Str.{is_utf8-from_IsUtf8}
use Rattle.serde_json.specs.Data.{Data, depth}
use Rattle.serde_json.specs.Find.{as_object}
use Rattle.serde_json.specs.Read.{read, max_depth}
use Rattle.ice_meta_json.specs.Upgraded.{IsFilled}
use Rattle.ice_meta_json.proofs.Filling.{keeps_filled}
use Rattle.ice_meta.specs.declared.table.Table.{Table}
use Rattle.ice_meta.specs.Tables.{text_json, table_of}
use Rattle.ice_meta.specs.Targets.{Described, metadata_of}
use Rattle.ice_meta.specs.Committing.{next_json, next_metadata, committed, CanFollow, HasTime, AreLongs}
use Rattle.ice_meta.proofs.Following.{says_next, has_time}
use Rattle.ice_meta.specs.declared.commit.NewSnapshot.{NewSnapshot}
use Rattle.ice_meta.specs.declared.fault.MetaFault.{MetaFault}
use Rattle.ice_meta.proofs.Nesting.{under_next}
use Rattle.ice_meta.proofs.Upgraded.{next_is_filled}

pub reads_as : (bytes : List ℕ) (d : Data) (t : Table) → IsUtf8 bytes → read bytes ≡ Some d
    → is_some (as_object d) ≡ true → IsFilled d → table_of d ≡ Ok t
    → metadata_of bytes ≡ Ok (record { json = d; table = t })
unfolding metadata_of text_json
reads_as bytes d t utf8 is object full says =
    rw (is_utf8-from_IsUtf8 bytes utf8, is, object, says, keeps_filled d full) refl

pub committed_gives : (m : Described) (s : NewSnapshot) (d : Data) (t : Table) → d ≡ next_json m.table s m.json
    → table_of d ≡ Ok t
    → committed m s ≡ Ok (record { json = d; table = t })
unfolding committed
committed_gives m s d t is says =
    let said : table_of (next_json m.table s m.json) ≡ Ok t = rw (← is) says in
    rw (said, is) refl

pub committed_fails : (m : Described) (s : NewSnapshot) (d : Data) (e : MetaFault) → d ≡ next_json m.table s m.json
    → table_of d ≡ Err e
    → committed m s ≡ Err e
unfolding committed
committed_fails m s d e is says =
    let said : table_of (next_json m.table s m.json) ≡ Err e = rw (← is) says in
    rw said refl

pub is_object : (d e : Data) (t : Table) (s : NewSnapshot) → e ≡ next_json t s d → is_some (as_object e) ≡ true
unfolding next_json
is_object d e t s is = rw is refl

pub is_filled : (d e : Data) (t : Table) (s : NewSnapshot) → e ≡ next_json t s d → IsFilled d → IsFilled e
is_filled d e t s is full = rw is (next_is_filled d t s full)

pub nests : (d e : Data) (t : Table) (s : NewSnapshot) → e ≡ next_json t s d → depth d ≤ max_depth → depth e ≤ max_depth
nests d e t s is h = subst (λ f. depth f ≤ max_depth) (sym is) (under_next t s d h)

pub committed_follows : (m : Described) (s : NewSnapshot) → table_of m.json ≡ Ok m.table → CanFollow m.table s
    → AreLongs m.table s → committed m s ≡ Ok (next_metadata m s)
unfolding committed
committed_follows m s says can longs = rw (says_next m.json m.table s says can longs) refl

pub tells_time : (m : Described) (s : NewSnapshot) (d : Data) (t : Table) → d ≡ next_json m.table s m.json
    → table_of d ≡ Ok t → AreLongs m.table s → HasTime s.timestamp_ms (record { json = d; table = t })
tells_time m s d t is says longs =
    let said : table_of (next_json m.table s m.json) ≡ Ok t = rw (← is) says in
    rw is (has_time m.json m.table t s longs.timestamp_ms said)
