use Rattle.std.proofs.Common.{◌≡◌, ℤ, map, ◌∙◌, ap}
use Rattle.std.specs.Cmp.{IsStrictWeakOrder}
use Rattle.std.specs.List.{dedup}
use Rattle.std.specs.Ordering.{int_eq}
use Rattle.std.proofs.lemmas.List.{take_all}
use Rattle.std.proofs.lemmas.Cmp.{int_cmp_total}
use Rattle.std.proofs.lemmas.List.Filters.{dedup_is}
use Rattle.std.proofs.lemmas.List.Sorted.{ranks_by}
use Rattle.contract_words.specs.Sorting.{sorted}
use Rattle.contract_words.proofs.Sorted.{sorted_from_sort}
use Rattle.ice_manifest.specs.declared.new_file.NewFile.{NewFile}
use Rattle.ice_catalog_versions.specs.Groups.{id_before}
use Rattle.ice_catalog_versions.proofs.groups.spec_ids.Goals as goal

pub returns : goal.returns
returns c =
    let order : IsStrictWeakOrder id_before = ranks_by int_cmp_total (λ (id : ℤ). id) in
    let sort = sorted_from_sort id_before order c.files.ids.items c.sort.new.self.items c.in_ok-sort.ensures.sorted
    c.in_ok-sort.ensures.stable in
    let all : c.files.ids.items ≡ map (λ (file : NewFile). file.spec_id) c.args.files.now =
    c.files.invariant ∙ ap (map (λ (file : NewFile). file.spec_id)) (take_all c.files.file-index c.args.files.now
    c.files-test.false) in
    dedup_is int_eq c.sort.new.self.items c.dedup.new.self.items c.dedup.ensures.filtered ∙ ap (dedup int_eq)
    (sort ∙ ap (sorted id_before) all)
