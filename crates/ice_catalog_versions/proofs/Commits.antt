-- Where the tests of two commits, and of two journals, answer true.
use Rattle.std.proofs.Common.{◌≡◌, Bool, int_eq, ℕ, List, [], ◌∷◌, map, Option, None, Some, refl, ap}
use Rattle.std.specs.Bool.{Decides}
use Rattle.std.specs.Cmp.Lexicographic.{pointwise}
use Rattle.std.specs.Option.{option_eq}
use Rattle.std.specs.Str.{bytes_eq}
use Rattle.std.proofs.lemmas.Bool.Decides.{Decides-and, Decides-int_eq}
use Rattle.std.proofs.lemmas.Slice.Eq.{slice_eq-Decides, bytes_eq-Decides}
use Rattle.ice_value.specs.Equality.{tuple_decides}
use Rattle.ice_value.specs.declared.file_content.FileContent.{FileContent}
use Rattle.ice_value.specs.declared.file_content.FileContent.TheVariants.{Data, PositionDeletes, EqualityDeletes}
use Rattle.ice_value.specs.contracts.file_content.FileContentPartialEq.TheImpl as content_test
use Rattle.ice_manifest.specs.declared.new_file.NewFile.{NewFile}
use Rattle.ice_manifest.specs.contracts.new_file.NewFilePartialEq.TheImpl as file_test
use Rattle.ice_catalog_changes.specs.declared.change.Change.{Change}
use Rattle.ice_catalog_changes.specs.declared.change.Commit.{Commit}
use Rattle.ice_catalog_changes.specs.declared.change.Ids.{Ids}
use Rattle.ice_catalog_changes.specs.contracts.change.ChangePartialEq.TheImpl as change_test
use Rattle.ice_catalog_changes.specs.contracts.change.IdsPartialEq.TheImpl as ids_test
use Rattle.ice_catalog_changes.specs.contracts.change.CommitPartialEq.TheImpl as commit_test

-- lists whose items are seen by v, and compared as v sees them
pub seen_same : {A B : Type 0} (E : B → B → Bool) (exact : (a b : B) → Decides (E a b) (a ≡ b)) (v : A
    → B) (xs ys : List A) → Decides (pointwise (λ x y. E (v x) (v y)) xs ys) (map v xs ≡ map v ys)
seen_same E exact v [] [] = (λ _. refl, λ _. refl)
seen_same E exact v [] (y ∷ ys) = (λ e. cc, λ e. cc)
seen_same E exact v (x ∷ xs) [] = (λ e. cc, λ e. cc)
seen_same E exact v (x ∷ xs) (y ∷ ys) =
    let all = Decides-and (E (v x) (v y)) (pointwise (λ x y. E (v x) (v y)) xs ys) (exact (v x) (v y))
    (seen_same E exact v xs ys) in
    (λ e. let h = all.0 e in λ i. h.0 i ∷ h.1 i, λ e. all.1 (cc, cc))

-- ---- files

content_exact : (a b : FileContent) → Decides (content_test.ghosts.eq a b) (a ≡ b)
content_exact Data Data = (λ _. refl, λ _. refl)
content_exact Data PositionDeletes = (λ e. cc, λ e. cc)
content_exact Data EqualityDeletes = (λ e. cc, λ e. cc)
content_exact PositionDeletes Data = (λ e. cc, λ e. cc)
content_exact PositionDeletes PositionDeletes = (λ _. refl, λ _. refl)
content_exact PositionDeletes EqualityDeletes = (λ e. cc, λ e. cc)
content_exact EqualityDeletes Data = (λ e. cc, λ e. cc)
content_exact EqualityDeletes PositionDeletes = (λ e. cc, λ e. cc)
content_exact EqualityDeletes EqualityDeletes = (λ _. refl, λ _. refl)

name_exact : (a b : Option (List ℕ)) → Decides (option_eq bytes_eq a b) (a ≡ b)
name_exact None None = (λ _. refl, λ _. refl)
name_exact None (Some q) = (λ e. cc, λ e. cc)
name_exact (Some p) None = (λ e. cc, λ e. cc)
name_exact (Some p) (Some q) = let same = bytes_eq-Decides p q in (λ e. ap Some (same.0 e), λ e. same.1 cc)

file_exact : (a b : NewFile) → Decides (file_test.ghosts.eq a b) (a ≡ b)
file_exact a b =
    let name = name_exact a.referenced b.referenced in
    let own = slice_eq-Decides Decides-int_eq a.equality_ids b.equality_ids (pointwise int_eq a.equality_ids
    b.equality_ids) refl in
    let ids = Decides-and _ _ own name in
    let size = Decides-and _ _ (Decides-int_eq a.file_size b.file_size) ids in
    let count = Decides-and _ _ (Decides-int_eq a.record_count b.record_count) size in
    let tuple = Decides-and _ _ (tuple_decides a.tuple b.tuple) count in
    let spec = Decides-and _ _ (Decides-int_eq a.spec_id b.spec_id) tuple in
    let format = Decides-and _ _ (bytes_eq-Decides a.format b.format) spec in
    let path = Decides-and _ _ (bytes_eq-Decides a.path b.path) format in
    let all = Decides-and _ _ (content_exact a.content b.content) path in (
      λ e.
          let h = all.0 e in
          λ i. record {
            content = h.0 i;
            path = h.1.0 i;
            format = h.1.1.0 i;
            spec_id = h.1.1.1.0 i;
            tuple = h.1.1.1.1.0 i;
            record_count = h.1.1.1.1.1.0 i;
            file_size = h.1.1.1.1.1.1.0 i;
            equality_ids = h.1.1.1.1.1.1.1.0 i;
            referenced = h.1.1.1.1.1.1.1.1 i;
          },
      λ e.
          all.1 (
            ap (λ (f : NewFile). f.content) e,
            (
              ap (λ (f : NewFile). f.path) e,
              (
                ap (λ (f : NewFile). f.format) e,
                (
                  ap (λ (f : NewFile). f.spec_id) e,
                  (
                    ap (λ (f : NewFile). f.tuple) e,
                    (
                      ap (λ (f : NewFile). f.record_count) e,
                      (
                        ap (λ (f : NewFile). f.file_size) e,
                        (ap (λ (f : NewFile). f.equality_ids) e, ap (λ (f : NewFile). f.referenced) e),
                      ),
                    ),
                  ),
                ),
              ),
            ),
          ),
    )

-- ---- commits

change_exact : (a b : Change) → Decides (change_test.ghosts.eq a b) (a ≡ b)
change_exact a b =
    let files = slice_eq-Decides file_exact a.files b.files (pointwise file_test.ghosts.eq a.files b.files) refl in
    let deletes = slice_eq-Decides file_exact a.deletes b.deletes (pointwise file_test.ghosts.eq a.deletes b.deletes)
    refl in
    let all = Decides-and _ _ files deletes in (
      λ e. let h = all.0 e in λ i. record { files = h.0 i; deletes = h.1 i },
      λ e. all.1 (
        ap (λ (c : Change). c.files) e,
        ap (λ (c : Change). c.deletes) e,
      ),
    )

ids_exact : (a b : Ids) → Decides (ids_test.ghosts.eq a b) (a ≡ b)
ids_exact a b =
    let uuid = Decides-and _ _ (bytes_eq-Decides a.uuid b.uuid) (Decides-int_eq a.now_ms b.now_ms) in
    let all = Decides-and _ _ (Decides-int_eq a.snapshot b.snapshot) uuid in (
      λ e. let h = all.0 e in λ i. record { snapshot = h.0 i; uuid = h.1.0 i; now_ms = h.1.1 i },
      λ e. all.1 (ap (λ (i : Ids). i.snapshot) e, (ap (λ (i : Ids). i.uuid) e, ap (λ (i : Ids). i.now_ms) e)),
    )

-- the test of two commits
pub commit_exact : (a b : Commit) → Decides (commit_test.ghosts.eq a b) (a ≡ b)
commit_exact a b =
    let all = Decides-and _ _ (change_exact a.change b.change) (ids_exact a.ids b.ids) in (
      λ e. let h = all.0 e in λ i. record { change = h.0 i; ids = h.1 i },
      λ e. all.1 (
        ap (λ (c : Commit). c.change) e,
        ap (λ (c : Commit). c.ids) e,
      ),
    )
