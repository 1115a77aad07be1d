use Rattle.std.proofs.Common.{List, filter, subst, sym}
use Rattle.std.specs.List.Sorted.{IsPermutation}
use Rattle.ice_manifest_reading.specs.declared.entry.Entry.{Entry}
use Rattle.ice_state.specs.Parts.{holds_deletes}
use Rattle.ice_state.proofs.kept.deletes.KeptDeletes.behind.Goals as goal

pub returns : goal.returns
returns c = λ firsts kept xs before are. record {
  first = are.first;
  others = are.others;
  parts = are.parts;
  index = c.behind.ensures.index firsts kept are.first before are.index;
  files = c.put_files_behind.ensures.kept firsts kept before are.files;
  waiting = subst (λ (es : List Entry). IsPermutation (filter holds_deletes are.others) es)
      (sym (c.put_files_behind.ensures.same firsts kept before are.files)) are.waiting;
}
