use Rattle.std.proofs.Common.{◌≡◌, ◌∙◌, ◌↔◌, IsTrue, List, ℕ, ap, subst, sym}
use Rattle.ice_manifest_reading.specs.declared.entry.Entry.{Entry}
use Rattle.ice_state_entries.specs.declared.entries.EntryNumber.{EntryNumber}
use Rattle.ice_state_entries.specs.Alike.{AreAlike}
use Rattle.ice_state_entries.specs.Kept.{IsKept, Kept, entry_at}
use Rattle.ice_state_entries.specs.Own.{Own}
use Rattle.ice_state_entries.specs.Sharing.{entry_in}
use Rattle.ice_state_entries.specs.Tables.{row_at}
use Rattle.ice_state_entries.proofs.Keeping.{entry_at-row, in_rows}
use Rattle.ice_state_entries.proofs.entries.Entries.are_alike.Goals as goal

pub returns : goal.returns
returns c =
    let s = c.self.inside.shared in
    let rows = c.self.inside.table in
    let path : EntryNumber → List ℕ = λ n. (row_at rows n).0 in
    let is_entry : (n : EntryNumber) (own : Own) → IsKept c.args.self.now n → own ≡ (row_at rows n).1
    → entry_in s (path n, own) ≡ entry_at c.args.self.now n = λ n own kept is.
    ap (λ (o : Own). entry_in s (path n, o)) is
    ∙ sym (entry_at-row s rows n (in_rows s rows n (subst (λ (k : Kept). IsKept k n) (sym c.self.view_is) kept)))
    ∙ ap (λ (k : Kept). entry_at k n) c.self.view_is in
    let first = is_entry c.args.a c.record.result.now c.requires.first c.record.ensures in
    let second = is_entry c.args.b c.record-2.result.now c.requires.second c.record-2.ensures in
    let P : Entry → Entry → Type 0 = λ x y. IsTrue c.are_alike.result ↔ AreAlike x y in
    subst (λ x. P x (entry_at c.args.self.now c.args.b)) first
    (subst (P (entry_in s (path c.args.a, c.record.result.now))) second
    (c.are_alike.ensures (path c.args.a) (path c.args.b)))
