use Rattle.std.proofs.Common.{◌≡◌, ◌≤◌, ◌<◌, ℤ, List, length, get_or, Some, None, sym, ap, subst, ◌∙◌, arith}
use Rattle.avro_file.specs.Blocks.{max_items}
use Rattle.avro_file_picked.specs.Rows.{row}
use Rattle.avro_file_picked.specs.Finding.{layout_tree, field_paths_of}
use Rattle.avro_file_picked.specs.Guides.{IsGuideOf, AreAsked}
use Rattle.avro_file_picked.specs.Placing.{field_path_of}
use Rattle.avro_file_picked.proofs.Placed.{
  field_paths_many,
  leads_many,
  nth_lead,
  nth_is,
  place_inside,
  led_to,
  found_there,
}
use Rattle.avro_file_picked.proofs.Guided.{nth_asked}
use Rattle.avro_file_picked.proofs.layout.Layout.found.Goals as goal

pub returns-in_default : goal.returns-in_default
returns-in_default c = λ v is.
    let l = c.args.self.now in
    let lt : c.args.field_path < length l.field_paths.items = omega
    (arith, c.requires.field_path, field_paths_many l.field_paths.items) in
    let there : field_path_of l c.args.field_path ≡ c.deref.result.now =
    nth_is l.field_paths.items c.args.field_path c.index.result.now lt
    ∙ ap (λ w. w.items) (sym c.index.ensures) ∙ sym c.deref.ensures.value in
    rw (there, ← c.requires.placed.1) (c.on_field_path.ensures v is)

pub index-requires-2 : goal.index-requires-2
index-requires-2 c =
    let l = c.args.self.now in
    omega (
      arith,
      c.requires.field_path,
      field_paths_many l.field_paths.items,
      leads_many (layout_tree l) l.field_paths.items l.leads.items
          c.requires.placed.0.1,
      l.leads.ok,
    )

pub returns-in_default-index : goal.returns-in_default-index
returns-in_default-index c = λ v is.
    let l = c.args.self.now in
    let lt : c.args.field_path < length l.field_paths.items = omega
    (arith, c.requires.field_path, field_paths_many l.field_paths.items) in
    let lead = nth_lead (layout_tree l) l.field_paths.items l.leads.items c.args.field_path c.index-2.result.now
    c.requires.placed.0.1 lt in
    let none : get_or l.leads.items c.args.field_path c.index-2.result.now ≡ None = sym c.index-2.ensures
    ∙ c.in_default-index.is in
    let stand = rw c.in-Some.is at c.requires.placed.2 in
    led_to (layout_tree l)
    (field_path_of l c.args.field_path) None c.args.places.now.starts.items c.args.object.bytes.now
    c.in-Some.end stand.1 v (rw none at lead.0) stand.2 (rw c.requires.placed.1 at is)

pub found_at-requires : goal.found_at-requires
found_at-requires c =
    let l = c.args.self.now in
    let lt : c.args.field_path < length l.field_paths.items = omega
    (arith, c.requires.field_path, field_paths_many l.field_paths.items) in
    let lead = nth_lead (layout_tree l) l.field_paths.items l.leads.items c.args.field_path c.index-2.result.now
    c.requires.placed.0.1 lt in
    let some : get_or l.leads.items c.args.field_path c.index-2.result.now ≡ Some c.in-Some-index.lead =
    sym c.index-2.ensures
    ∙ c.in-Some-index.is in
    let there : field_path_of l c.args.field_path ≡ c.deref-in_default-guide.result.now =
    nth_is l.field_paths.items c.args.field_path c.index-field_path.result.now lt
    ∙ ap (λ w. w.items) (sym c.index-field_path.ensures) ∙ sym c.deref-in_default-guide.ensures.value in
    let fits : c.in-Some-index.lead.passed ≤ length (field_path_of l c.args.field_path) = rw some at lead.1 in
    let stand = rw c.in-Some.is at c.requires.placed.2 in
    let inside = place_inside (row (layout_tree l)) c.args.places.now.starts.items c.args.object.bytes.now 0 max_items
    c.in-Some.end stand.1 c.in-Some-index.lead.step (omega arith) stand.2 in
    record {
      passed = omega (arith, fits, ap length there);
      start = omega (arith, inside, c.start_of-start.ensures, ap length c.bytes-in_default-guide.ensures);
    }

pub returns-in_default-guide : goal.returns-in_default-guide
returns-in_default-guide c = λ v is.
    let l = c.args.self.now in
    let lt : c.args.field_path < length l.field_paths.items = omega
    (arith, c.requires.field_path, field_paths_many l.field_paths.items) in
    let lead = nth_lead (layout_tree l) l.field_paths.items l.leads.items c.args.field_path c.index-2.result.now
    c.requires.placed.0.1 lt in
    let some : get_or l.leads.items c.args.field_path c.index-2.result.now ≡ Some c.in-Some-index.lead =
    sym c.index-2.ensures
    ∙ c.in-Some-index.is in
    let there : field_path_of l c.args.field_path ≡ c.deref-in_default-guide.result.now =
    nth_is l.field_paths.items c.args.field_path c.index-field_path.result.now lt
    ∙ ap (λ w. w.items) (sym c.index-field_path.ensures) ∙ sym c.deref-in_default-guide.ensures.value in
    let stand = rw c.in-Some.is at c.requires.placed.2 in
    found_there (layout_tree l)
    (field_path_of l c.args.field_path) c.deref-in_default-guide.result.now c.in-Some-index.lead
    c.args.places.now.starts.items c.args.object.bytes.now c.bytes-in_default-guide.result.now c.in-Some.end stand.1
    c.start_of-start.result v c.found_at.result (rw some at lead.0) stand.2 (rw c.requires.placed.1 at is) (sym there)
    c.bytes-in_default-guide.ensures c.start_of-start.ensures c.found_at.ensures

pub returns-in-Some-guide : goal.returns-in-Some-guide
returns-in-Some-guide c = λ v is.
    let l = c.args.self.now in
    let lt : c.args.field_path < length l.field_paths.items = omega
    (arith, c.requires.field_path, field_paths_many l.field_paths.items) in
    let there : field_path_of l c.args.field_path ≡ c.deref-in-Some-guide.result.now =
    nth_is l.field_paths.items c.args.field_path
    c.index-field_path.result.now lt ∙ ap (λ w. w.items) (sym c.index-field_path.ensures)
    ∙ sym c.deref-in-Some-guide.ensures.value in
    let guides : IsGuideOf (field_paths_of l) (layout_tree l) c.in-Some-guide.guide = rw c.in-Some-guide.is at
    c.requires.placed.0.3 in
    let asked : AreAsked (field_paths_of l) c.deref-in-Some-guide.result.now = subst
    (λ (w : List ℤ). AreAsked (field_paths_of l) w)
    there (nth_asked (field_paths_of l) c.args.field_path c.requires.field_path) in
    rw (there, ← guides.0) (c.found_by.ensures (field_paths_of l) v guides.1 asked
    (rw (guides.0, c.bytes.ensures, ← c.requires.placed.1) is))
