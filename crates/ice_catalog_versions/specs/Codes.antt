-- How commits, histories and steps are told apart.
use Rattle.std.proofs.Common.{inl, inr}
use Rattle.std.specs.Prelude.{◌≡◌, ◌⊎◌, ℕ, ℤ, Bool, true, false, List, Option, Some, None, refl}
use Rattle.std.specs.Coded.{Coded, code_by, coded×, coded⊎, coded_list, coded_option, coded_bool, coded_ℕ, coded_ℤ}
use Rattle.std.specs.FinMap as map
use Rattle.ice_value.specs.declared.cell.Cell.{Cell}
use Rattle.ice_value.specs.declared.cell.Cell.TheVariants as cells
use Rattle.ice_value.specs.declared.file_content.FileContent.{FileContent}
use Rattle.ice_value.specs.declared.file_content.FileContent.TheVariants as contents
use Rattle.ice_manifest.specs.declared.new_file.NewFile.{NewFile}
use Rattle.ice_catalog_changes.specs.declared.change.Commit.{Commit}
use Rattle.ice_catalog_versions.specs.declared.opening.Opening.{Opening}
use Rattle.ice_catalog_versions.specs.declared.world.World.{World}
use Rattle.ice_catalog_versions.specs.Histories.{History, Step}

-- byte strings, texts and paths
abbrev bytes : Coded (List ℕ)
bytes = coded_list coded_ℕ

-- ---- cells

abbrev KindOfCell : Type 0
KindOfCell = Option (Bool ⊎ (ℤ ⊎ (List ℕ ⊎ List ℕ)))

abbrev from_cell : Cell → KindOfCell
from_cell cells.Null = None
from_cell (cells.Bool b) = Some (inl b)
from_cell (cells.Whole z) = Some (inr (inl z))
from_cell (cells.Text t) = Some (inr (inr (inl t)))
from_cell (cells.Bytes t) = Some (inr (inr (inr t)))

abbrev to_cell : KindOfCell → Cell
to_cell None = cells.Null
to_cell (Some (inl b)) = cells.Bool b
to_cell (Some (inr (inl z))) = cells.Whole z
to_cell (Some (inr (inr (inl t)))) = cells.Text t
to_cell (Some (inr (inr (inr t)))) = cells.Bytes t

pub same_cell : (c : Cell) → to_cell (from_cell c) ≡ c
same_cell cells.Null = refl
same_cell (cells.Bool b) = refl
same_cell (cells.Whole z) = refl
same_cell (cells.Text t) = refl
same_cell (cells.Bytes t) = refl

abbrev cell_code : Coded Cell
cell_code = code_by KindOfCell (coded_option (coded⊎ coded_bool (coded⊎ coded_ℤ (coded⊎ bytes bytes))))
    from_cell to_cell same_cell

-- ---- files

abbrev from_content : FileContent → Option Bool
from_content contents.Data = None
from_content contents.PositionDeletes = Some true
from_content contents.EqualityDeletes = Some false

abbrev to_content : Option Bool → FileContent
to_content None = contents.Data
to_content (Some true) = contents.PositionDeletes
to_content (Some false) = contents.EqualityDeletes

pub same_content : (c : FileContent) → to_content (from_content c) ≡ c
same_content contents.Data = refl
same_content contents.PositionDeletes = refl
same_content contents.EqualityDeletes = refl

abbrev content_code : Coded FileContent
content_code = code_by (Option Bool) (coded_option coded_bool) from_content to_content same_content

abbrev file_code : Coded NewFile
file_code = code_by
    (FileContent × (List ℕ × (List ℕ × (ℤ × (List Cell × (ℤ × (ℤ × (List ℤ × Option (List ℕ)))))))))
    (coded× content_code (coded× bytes (coded× bytes (coded× coded_ℤ (coded× (coded_list cell_code)
    (coded× coded_ℤ (coded× coded_ℤ (coded× (coded_list coded_ℤ) (coded_option bytes)))))))))
    (λ f. (
      f.content,
      (
        f.path,
        (
          f.format,
          (
            f.spec_id,
            (
              f.tuple,
              (f.record_count, (f.file_size, (f.equality_ids, f.referenced))),
            ),
          ),
        ),
      ),
    ))
    (λ p. record {
      content = p.0;
      path = p.1.0;
      format = p.1.1.0;
      spec_id = p.1.1.1.0;
      tuple = p.1.1.1.1.0;
      record_count = p.1.1.1.1.1.0;
      file_size = p.1.1.1.1.1.1.0;
      equality_ids = p.1.1.1.1.1.1.1.0;
      referenced = p.1.1.1.1.1.1.1.1;
    })
    (λ _. refl)

-- ---- commits and histories

abbrev pub commit_code : Coded Commit
commit_code = code_by ((List NewFile × List NewFile) × (ℤ × (List ℕ × ℤ)))
    (coded× (coded× (coded_list file_code) (coded_list file_code)) (coded× coded_ℤ (coded× bytes coded_ℤ)))
    (λ c. ((c.change.files, c.change.deletes), (c.ids.snapshot, (c.ids.uuid, c.ids.now_ms))))
    (λ p. record {
      change = record { files = p.0.0; deletes = p.0.1 };
      ids = record { snapshot = p.1.0; uuid = p.1.1.0; now_ms = p.1.1.1 };
    })
    (λ _. refl)

abbrev pub opening_code : Coded Opening
opening_code = code_by (List ℕ × World) (coded× bytes (map.code bytes bytes))
    (λ o. (o.bytes, o.world)) (λ p. record { bytes = p.0; world = p.1 }) (λ _. refl)

abbrev pub history_code : Coded History
history_code = code_by (Opening × List Commit) (coded× opening_code (coded_list commit_code))
    (λ h. (h.opening, h.journal)) (λ p. record { opening = p.0; journal = p.1 }) (λ _. refl)

abbrev pub step_code : Coded Step
step_code = code_by (History × Commit) (coded× history_code commit_code)
    (λ s. (s.base, s.commit)) (λ p. record { base = p.0; commit = p.1 }) (λ _. refl)
