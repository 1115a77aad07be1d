use Rattle.std.proofs.Common.{rules, ◌≡◌, ◌∙◌, not, map, filter, take, drop}
use Rattle.ice_deletes.specs.declared.delete.Delete.{Delete}
use Rattle.ice_deletes.specs.Keys.{key_in, sought}
use Rattle.ice_deletes.specs.Groups.{is_up_to, is_older, is_within}
use Rattle.ice_deletes.proofs.Lists.{suffix_is}
use Rattle.ice_deletes.proofs.Within.{within_tests}
use Rattle.ice_deletes.proofs.shelf.Shelf.suffix.Goals as goal

pub returns : goal.returns
returns c =
    let g = c.args.self.now.group in
    let k = sought c.args.key.now in
    let number = λ (d : Delete). d.number in
    let near = λ (d : Delete). is_up_to g k (key_in d) in
    let old = λ (d : Delete). is_older g k (key_in d) in
    let xs = c.args.self.now.deletes.items in
    let end = c.end-end.result in
    let start = c.start-start.result in
    let front : take end xs ≡ filter near xs = search rules in
    let back : drop start (take end xs) ≡ filter (λ (d : Delete). not (old d)) (take end xs) = search rules in
    let numbers : c.deref.result.now ≡ map number xs = c.deref.ensures.value ∙ c.requires.numbered in
    suffix_is number near old (λ (d : Delete). is_within g k (key_in d)) (λ d. within_tests g k (key_in d)) start end xs
    c.deref.result.now c.start-start.ensures.within numbers front back
