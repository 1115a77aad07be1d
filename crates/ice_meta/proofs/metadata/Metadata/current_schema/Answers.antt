use Rattle.std.proofs.Common.{◌≡◌, ◌∙◌, sym, ap, rules, w32, None}
use Rattle.std.specs.Ordering.{int_eq}
use Rattle.std.specs.Option.{option_copied}
use mir.Val.{to_z, of_z}
use Rattle.std.proofs.lemmas.Int.{to_z-of_z}
use Rattle.ice_meta.specs.declared.schema.Schema.{Schema}
use Rattle.ice_meta.specs.Targets.{schema_with}
use Rattle.ice_meta.proofs.Steps.{is_found}
use Rattle.ice_meta.proofs.metadata.Metadata.current_schema.Goals as goal

pub unreachable-requires : goal.unreachable-requires
unreachable-requires c =
    let t = c.args.self.now.table in
    let same : to_z w32 (of_z w32 t.current_schema_id) ≡ t.current_schema_id = to_z-of_z w32 t.current_schema_id
    (search rules) in
    let none : schema_with (to_z w32 (of_z w32 t.current_schema_id)) t ≡ None = sym c.schema.ensures ∙ ap option_copied
    c.in-None.is in
    is_found (λ (s : Schema). int_eq s.id t.current_schema_id) t.schemas c.args.self.now.named (rw same at none)
