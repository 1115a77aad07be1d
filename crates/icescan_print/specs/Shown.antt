-- What a table has many of, as its text shows them: in their order.
use Rattle.std.specs.Prelude.{◌≡◌, map}
use Rattle.std.specs.Ordering.{is_lt}
use Rattle.contract_words.specs.Sorting.{sorted}
use Rattle.ice_meta.specs.declared.table.Table.{Table}
use Rattle.icescan_print.specs.declared.table_text.Shown.{Shown}
use Rattle.icescan_print.specs.TableTexts.{schema_order, spec_order, snapshot_order, ref_order, shown_refs}

pub record IsShown (t : Table) (s : Shown) : Type 0 where
  pub schemas : map (λ x. x.now) s.schemas.items ≡ sorted (λ a b. is_lt (schema_order a b)) t.schemas
  pub specs : map (λ x. x.now) s.specs.items ≡ sorted (λ a b. is_lt (spec_order a b)) t.specs
  pub snapshots : map (λ x. x.now) s.snapshots.items ≡ sorted (λ a b. is_lt (snapshot_order a b)) t.snapshots
  pub refs : map (λ x. x.now) s.refs.items ≡ sorted (λ a b. is_lt (ref_order a b)) (shown_refs t)
