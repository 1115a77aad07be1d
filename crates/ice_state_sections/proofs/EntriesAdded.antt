-- Entries that are put read back, what their file says among them.
use Rattle.std.proofs.Common.{◌≡◌, ◌<◌, ◌^◌, ℕ, ℤ, Bool, true, false, ◌&&◌, List, [], length, refl, ap, subst, ◌∙◌, ltb}
use Rattle.std.proofs.Math.Bool.{beq}
use Rattle.std.proofs.lemmas.Bool.{lt-ltb, eqb-true}
use Rattle.std.proofs.lemmas.Bool.Decides.{Decides-int_eq}
use Rattle.ice_meta.specs.declared.spec.Spec.{Spec}
use Rattle.ice_meta.specs.Partitioning.{is_unpartitioned}
use Rattle.ice_manifest_reading.specs.declared.row.Row.{Row}
use Rattle.ice_manifest_reading.specs.declared.data_file.DataFile.{DataFile}
use Rattle.ice_manifest_reading.specs.declared.entry.Entry.{Entry}
use Rattle.ice_state_sections.specs.Parts.{number, long, truth, optional, behind}
use Rattle.ice_state_sections.specs.Values.{content, format, path, cells, ids}
use Rattle.ice_state_sections.specs.Files.{file}
use Rattle.ice_state_sections.specs.Entries.{Known, known, fits, snapshot, sequence, checked, entry_behind, entry}
use Rattle.ice_state_sections.specs.Entries.{entries}
use Rattle.ice_state_sections.specs.Written.{Adds}
use Rattle.ice_state_sections.proofs.Added.{then, done, same}

pub snapshot_same : (z : ℤ) (a b : List ℕ) → Adds truth false a b → Adds (snapshot z) z a b
unfolding snapshot
snapshot_same z a b p = then _ p done

pub snapshot_other : (same z : ℤ) (a b c : List ℕ) → Adds truth true a b → Adds long z b c → Adds (snapshot same) z a c
unfolding snapshot
snapshot_other same z a b c p q = then _ p q

pub sequence_added : (n : ℕ) (a b : List ℕ) → n < 2 ^ 63 → Adds number n a b → Adds sequence n a b
unfolding sequence
sequence_added n a b lt p =
    let fit : ltb n (2 ^ 63) ≡ true = lt-ltb _ _ lt in
    record { puts = (p.puts.0, p.puts.1, λ rest. rw (p.puts.2 rest, fit) refl) }

-- what is read last, where it fits
checked_added : (row : Row) (spec : Spec) (before : Known) (e : Entry) (a : List ℕ) → fits row spec before e ≡ true
    → Adds (checked row spec before e) e a a
checked_added row spec before e a h = same (λ s. rw h refl) done

-- an entry
pub entry_added : (row : Row) (spec : Spec) (before : Known) (e : Entry) (a b c d f g : List ℕ)
    → fits row spec before e ≡ true → e.spec_id ≡ row.spec_id → e.unpartitioned ≡ is_unpartitioned spec
    → Adds number e.position a b → Adds (snapshot before.snapshot_id) e.snapshot_id b c
    → Adds sequence e.sequence_number c d → Adds (optional sequence) e.file_sequence_number d f
    → Adds (file (length spec.fields) before.path) e.file f g
    → Adds (entry_behind row spec before) e a g
unfolding entry_behind
entry_added row spec before e a b c d f g h id un p1 p2 p3 p4 p5 =
    let made : Entry = record {
      position = e.position;
      spec_id = row.spec_id;
      unpartitioned = is_unpartitioned spec;
      snapshot_id = e.snapshot_id;
      sequence_number = e.sequence_number;
      file_sequence_number = e.file_sequence_number;
      file = e.file;
    } in
    let is_made : made ≡ e = rw (← id, ← un) refl in
    let last : Adds (checked row spec before made) made g g =
    checked_added row spec before made g (ap (fits row spec before) is_made ∙ h) in
    let whole : Adds (entry_behind row spec before) made a g =
    then _ p1 (then _ p2 (then _ p3 (then _ p4 (then _ p5 last)))) in
    subst (λ (x : Entry). Adds (entry_behind row spec before) x a g) is_made whole

-- a file
pub file_added : (known : List ℕ) (f : DataFile) (a b c d e g h i j : List ℕ)
    → Adds content f.content a b → Adds format f.format b c → Adds (path known) f.path c d
    → Adds (cells (length f.tuple)) f.tuple d e → Adds long f.record_count e g → Adds long f.file_size g h
    → Adds ids f.equality_ids h i → Adds (optional (path f.path)) f.referenced i j
    → Adds (file (length f.tuple) known) f a j
unfolding file
file_added known f a b c d e g h i j p1 p2 p3 p4 p5 p6 p7 p8 =
    then _ p1 (then _ p2 (then _ p3 (then _ p4 (then _ p5 (then _ p6 (then _ p7 (then _ p8 done)))))))

-- so many entries
pub entries_added : (row : Row) (spec : Spec) (es : List Entry) (n : ℕ) (a b c : List ℕ) → Adds number n a b
    → Adds (behind (entry row spec) n []) es b c → Adds (entries row spec) es a c
unfolding entries
entries_added row spec es n a b c p q = then (λ count. behind (entry row spec) count.0 [] count.1) p q

-- by their number
pub same_number : (row : Row) (spec : Spec) (es : List Entry) (n m : ℕ) (a b : List ℕ) → n ≡ m
    → Adds (behind (entry row spec) n []) es a b → Adds (behind (entry row spec) m []) es a b
same_number row spec es n m a b e p = subst (λ (k : ℕ). Adds (behind (entry row spec) k []) es a b) e p

-- ---- what an entry that fits says

pub both : (a b : Bool) → (a && b) ≡ true → (a ≡ true) × (b ≡ true)
both true b h = (refl, h)
both false b h = absurd cc

same_truth : (a b : Bool) → beq a b ≡ true → a ≡ b
same_truth true true h = refl
same_truth true false h = absurd cc
same_truth false true h = absurd cc
same_truth false false h = refl

-- what is not written
pub record Known_of (row : Row) (spec : Spec) (e : Entry) : Type 0 where
  pub spec_id : e.spec_id ≡ row.spec_id
  pub unpartitioned : e.unpartitioned ≡ is_unpartitioned spec
  pub values : length e.file.tuple ≡ length spec.fields

pub known_of : (row : Row) (spec : Spec) (before : Known) (e : Entry) → fits row spec before e ≡ true
    → Known_of row spec e
unfolding fits
known_of row spec before e h =
    let a = both _ _ h in
    let b = both _ _ a.0 in
    let c = both _ _ b.0 in
    let f = both _ _ a.1 in
    let g = both _ _ f.0 in
    record {
      spec_id = (Decides-int_eq e.spec_id row.spec_id).0 c.1;
      unpartitioned = same_truth e.unpartitioned (is_unpartitioned spec) b.1;
      values = eqb-true _ _ g.1;
    }
