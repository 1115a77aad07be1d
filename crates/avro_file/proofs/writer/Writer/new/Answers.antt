use Rattle.std.proofs.Common.{◌≡◌, ◌<◌, ◌^◌, ◌++◌, List, ℕ, length, refl, sym, ap, ◌∙◌, arith}
use Rattle.avro_file.specs.Files.{magic}
use Rattle.avro_file.specs.Writing.{block_bytes, properties_written, in_order}
use Rattle.avro_file.specs.Property.{shown_properties}
use Rattle.avro_file.specs.Writers.{WasGiven, WillWrite}
use Rattle.avro_file.proofs.Filed.{header_made, header_again, none_written}
use Rattle.avro_file.proofs.writer.Writer.new.Goals as goal

pub returns-clause-begun : goal.returns-clause-begun
unfolding WasGiven WillWrite
returns-clause-begun c =
    let s = c.in_ok-check_schema.ensures.named in
    let header = c.in_ok-header.header in
    let properties = c.deref.result.now in
    let front = block_bytes (length properties) (properties_written (shown_properties properties)) in
    let made : header.items ≡ magic ++ (front ++ c.args.sync) =
    c.in_ok-header.ensures ∙ ap (λ (t : List ℕ). t ++ (magic ++ (front ++ c.marker_bytes.result.now)))
    c.new.ensures.items ∙ ap (λ (t : List ℕ). magic ++ (front ++ t)) c.marker_bytes.ensures.same in
    let few : length properties < 2 ^ 63 = omega (
      arith,
      ap (λ (t : List _). length t) c.deref.ensures.value,
      c.in_ok-properties.properties.ok,
      c.in_ok-properties.properties.small,
    ) in (
      s.0,
      s.1,
      (
        header_made s.0 c.args.schema.now c.args.sync (shown_properties c.args.metadata.now) properties
            header.items (ap shown_properties c.deref.ensures.value ∙ c.in_ok-properties.ensures) c.requires few
            (omega (arith, header.ok, header.small)) c.marker_bytes.ensures.sixteen s.1 made,
        refl,
        omega arith,
        c.new-2.ensures.items ∙ sym none_written,
        tt,
      ),
    )

pub returns-clause-exact : goal.returns-clause-exact
unfolding WasGiven WillWrite
returns-clause-exact c =
    let header = c.in_ok-header.header in
    let properties = c.deref.result.now in
    let shown : shown_properties properties ≡ in_order c.args.schema.now (shown_properties c.args.metadata.now) =
    ap shown_properties c.deref.ensures.value ∙ c.in_ok-properties.ensures in
    let front = block_bytes (length properties) (properties_written (shown_properties properties)) in
    let made : header.items ≡ magic ++ (front ++ c.args.sync) =
    c.in_ok-header.ensures ∙ ap (λ (t : List ℕ). t ++ (magic ++ (front ++ c.marker_bytes.result.now)))
    c.new.ensures.items ∙ ap (λ (t : List ℕ). magic ++ (front ++ t)) c.marker_bytes.ensures.same in (
      header_again properties (in_order c.args.schema.now (shown_properties c.args.metadata.now)) c.args.sync
          header.items shown made,
      refl,
      refl,
      c.new-2.ensures.items ∙ sym none_written,
    )
