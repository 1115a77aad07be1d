-- Whether an index has files that name a data file: those of one group do, and no others.
use Rattle.std.proofs.Common.{◌≡◌, ◌∙◌, ◌==◌, ◌&&◌, ◌||◌, ℕ, Bool, true, false, not, List, [], ◌∷◌, ◌++◌, map, length}
use Rattle.std.proofs.Common.{ap, refl}
use Rattle.std.proofs.Common.{Option, Some, None, is_none, is_some, sym}
use Rattle.std.proofs.Math.Dec.{eqb-suc-zero}
use Rattle.std.specs.List.{AllByRecursion, list_any}
use Rattle.std.proofs.lemmas.List.Elements.{recursion_from_All}
use Rattle.std.proofs.lemmas.List.Folds.{list_any-append}
use Rattle.ice_value.specs.declared.file_content.FileContent.{FileContent}
use Rattle.ice_value.specs.declared.file_content.FileContent.TheVariants.{Data, PositionDeletes, EqualityDeletes}
use Rattle.ice_value.specs.Applying.{DeleteKey}
use Rattle.ice_deletes.specs.declared.delete.Delete.{Delete}
use Rattle.ice_deletes.specs.declared.group.Group.{Group}
use Rattle.ice_deletes.specs.declared.group.Group.TheVariants.{Positions, Referenced, Equalities, Everywhere}
use Rattle.ice_deletes.specs.declared.index.DeleteIndex.TheInside.{Inside}
use Rattle.ice_deletes.specs.Found.{is_content}
use Rattle.ice_deletes.specs.Groups.{is_in}
use Rattle.ice_deletes.specs.Indexes.{IsIndex, entries_in}
use Rattle.ice_deletes.specs.Keys.{key_in, entry_of}

abbrev is_named : ℕ × DeleteKey → Bool
is_named e = is_in Referenced e.1

of_positions : (d : DeleteKey) → is_in Positions d ≡ true → is_in Referenced d ≡ false
of_positions d h = go d.content d.referenced h where
  go : (K : FileContent) (r : Option (List ℕ)) → (is_content PositionDeletes K && is_none r) ≡ true
      → (is_content PositionDeletes K && is_some r) ≡ false
  go Data r h = refl
  go PositionDeletes None h = refl
  go PositionDeletes (Some p) h = cc
  go EqualityDeletes r h = refl

of_equality : (b : Bool) (d : DeleteKey) → (is_content EqualityDeletes d.content && b) ≡ true
    → is_in Referenced d ≡ false
of_equality b d h = go d.content h where
  go : (K : FileContent) → (is_content EqualityDeletes K && b) ≡ true
      → (is_content PositionDeletes K && is_some d.referenced) ≡ false
  go Data h = refl
  go PositionDeletes h = cc
  go EqualityDeletes h = refl

none_named : (g : Group) → ((d : DeleteKey) → is_in g d ≡ true → is_in Referenced d ≡ false) → (ds : List Delete)
    → AllByRecursion (λ d. is_in g (key_in d) ≡ true) ds → list_any is_named (map entry_of ds) ≡ false
none_named g h [] all = refl
none_named g h (d ∷ ds) all =
    ap (λ b. b || list_any is_named (map entry_of ds)) (h (key_in d) all.0) ∙ none_named g h ds all.1

each_named : (ds : List Delete) → AllByRecursion (λ d. is_in Referenced (key_in d) ≡ true) ds
    → list_any is_named (map entry_of ds) ≡ not (length ds == 0)
each_named [] all = refl
each_named (d ∷ ds) all =
    ap (λ b. b || list_any is_named (map entry_of ds)) all.0 ∙ sym (ap not (eqb-suc-zero (length ds)))

one_left : (x a c d : Bool) → a ≡ false → c ≡ false → d ≡ false → (((a || x) || c) || d) ≡ x
one_left true false false false h k l = refl
one_left false false false false h k l = refl
one_left x true c d h k l = cc
one_left x false true d h k l = cc
one_left x false false true h k l = cc

pub names_if_any : (i : Inside) → IsIndex i
    → list_any is_named (entries_in i) ≡ not (length i.referenced.deletes.items == 0)
names_if_any i is =
    let a = map entry_of i.positions.deletes.items in
    let b = map entry_of i.referenced.deletes.items in
    let c = map entry_of i.equalities.deletes.items in
    let d = map entry_of i.everywhere.deletes.items in
    list_any-append is_named (a ++ b ++ c) d
    ∙ ap (λ t. t || list_any is_named d) (list_any-append is_named (a ++ b) c
    ∙ ap (λ t. t || list_any is_named c) (list_any-append is_named a b))
    ∙ one_left (list_any is_named b) (list_any is_named a) (list_any is_named c) (list_any is_named d)
    (none_named Positions of_positions _ (recursion_from_All _ _ is.positions.grouped))
    (none_named Equalities (λ d. of_equality (not d.unpartitioned) d) _ (recursion_from_All _ _ is.equalities.grouped))
    (none_named Everywhere (λ d. of_equality d.unpartitioned d) _ (recursion_from_All _ _ is.everywhere.grouped))
    ∙ each_named i.referenced.deletes.items (recursion_from_All _ _ is.referenced.grouped)
