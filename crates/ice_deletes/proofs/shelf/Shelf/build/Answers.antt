use Rattle.std.proofs.Common.{◌≡◌, true, map, refl, ap, ◌∙◌}
use Rattle.std.specs.List.{enumerate_from}
use Rattle.std.proofs.lemmas.List.Sorted.{All-permutation, IsPermutation-map, IsPermutation-trans}
use Rattle.ice_deletes.specs.declared.delete.Delete.{Delete}
use Rattle.ice_deletes.specs.Keys.{key_of, key_in, entry_of}
use Rattle.ice_deletes.specs.Groups.{is_in}
use Rattle.ice_deletes.proofs.Numbered.{all_grouped}
use Rattle.ice_deletes.proofs.shelf.Shelf.build.Goals as goal

pub returns-clause-kept : goal.returns-clause-kept
returns-clause-kept c = record {
  of_group = refl;
  rising = c.in_ok-sort.ensures.rising;
  grouped = All-permutation (λ (d : Delete). is_in c.args.group (key_in d) ≡ true) c.in_ok-deletes.deletes.items
      c.sort.new.deletes.items c.in_ok-sort.ensures.same (all_grouped (is_in c.args.group)
      c.in_ok-deletes.deletes.items (enumerate_from 0 (map key_of c.args.records.now)) c.in_ok-deletes.ensures);
  numbered = c.in_ok-numbers.ensures ∙ ap (map (λ (d : Delete). d.number)) c.deref.ensures.value;
}

pub returns-clause-filed : goal.returns-clause-filed
returns-clause-filed c =
    IsPermutation-trans _ (map entry_of c.in_ok-deletes.deletes.items) (map entry_of c.sort.new.deletes.items)
    c.in_ok-deletes.ensures (IsPermutation-map entry_of c.in_ok-deletes.deletes.items c.sort.new.deletes.items
    c.in_ok-sort.ensures.same)
