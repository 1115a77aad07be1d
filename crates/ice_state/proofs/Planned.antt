-- The test of applying says what the rules say, and a plan's lines have exactly the delete files that apply.
use Rattle.std.proofs.Common.{◌≡◌, ◌↔◌, List, [], ◌∷◌, refl, ap, true, false, map, filter, cond, ◌&&◌, subst}
use Rattle.std.specs.Bool.{Decides}
use Rattle.std.specs.List.{Contains}
use Rattle.std.proofs.lemmas.Bool.Decides.{Decides-and}
use Rattle.ice_manifest_reading.specs.declared.entry.Entry.{Entry}
use Rattle.ice_value.specs.declared.file_content.FileContent.{FileContent}
use Rattle.ice_value.specs.declared.file_content.FileContent.TheVariants.{Data, PositionDeletes, EqualityDeletes}
use Rattle.ice_state.specs.Lines.{OwnedLine}
use Rattle.ice_value.proofs.Deletes.{applies-decides as key_decides}
use Rattle.ice_state.specs.Applying.{Applies, applies, data_key_of, delete_key_of}
use Rattle.ice_state.specs.Outcomes.{line_of, plan_over}
use Rattle.ice_state.specs.Pruning.{holds, same_content}
use Rattle.ice_state.proofs.Elements.{filtered, refiltered, mapped}
use Rattle.ice_state.proofs.Filters.{and_true, filter_twice}

pub applies-decides : (x d : Entry) → Decides (applies x d) (Applies x d)
applies-decides x d = key_decides (data_key_of x) (delete_key_of d)

content_decides : (a b : FileContent) → Decides (same_content a b) (a ≡ b)
content_decides Data Data = (λ h. refl, λ h. refl)
content_decides Data PositionDeletes = (λ h. cc, λ h. cc)
content_decides Data EqualityDeletes = (λ h. cc, λ h. cc)
content_decides PositionDeletes Data = (λ h. cc, λ h. cc)
content_decides PositionDeletes PositionDeletes = (λ h. refl, λ h. refl)
content_decides PositionDeletes EqualityDeletes = (λ h. cc, λ h. cc)
content_decides EqualityDeletes Data = (λ h. cc, λ h. cc)
content_decides EqualityDeletes PositionDeletes = (λ h. cc, λ h. cc)
content_decides EqualityDeletes EqualityDeletes = (λ h. refl, λ h. refl)

pub files_of : (deletes xs : List Entry) → map (λ line. line.file) (plan_over deletes xs) ≡ filter (holds Data) xs
files_of deletes [] = refl
files_of deletes (x ∷ xs) =
    elim (holds Data x) as (λ v. map (λ (line : OwnedLine). line.file)
    (map (line_of deletes) (cond v (x ∷ filter (holds Data) xs) (filter (holds Data) xs))) ≡ cond v
    (x ∷ filter (holds Data) xs) (filter (holds Data) xs)) [
      | true ↦ ap (λ ys. x ∷ ys) (files_of deletes xs)
      | false ↦ files_of deletes xs
    ]

chosen : (K : FileContent) (deletes : List Entry) (x d : Entry)
    → Contains (filter (λ (e : Entry). holds K e && applies x e) deletes) d ↔
    (Contains deletes d × ((d.file.content ≡ K) × Applies x d))
chosen K deletes x d = (
  λ c.
      let f = filtered (λ (e : Entry). holds K e && applies x e) deletes d c in
      let b = and_true (holds K d) (applies x d) f.1 in
      (f.0, ((content_decides d.file.content K).0 b.0, (applies-decides x d).0 b.1)),
  λ h.
      let t = (Decides-and (holds K d) (applies x d) (content_decides d.file.content K) (applies-decides x d)).1 h.1 in
      refiltered (λ (e : Entry). holds K e && applies x e) deletes d h.0 t,
)

pub positions_of : (deletes xs : List Entry) (line : OwnedLine) (d : Entry) → Contains (plan_over deletes xs) line
    → Contains line.positions d ↔ (Contains deletes d × ((d.file.content ≡ PositionDeletes) × Applies line.file d))
positions_of deletes xs line d c =
    let m = mapped (line_of deletes) (filter (holds Data) xs) line c in
    let Q : OwnedLine → Type 0 = λ l. Contains l.positions d ↔ (Contains deletes d × ((d.file.content ≡ PositionDeletes)
    × Applies l.file d)) in
    subst Q m.1 (chosen PositionDeletes deletes m.0 d)

pub equalities_of : (deletes xs : List Entry) (line : OwnedLine) (d : Entry) → Contains (plan_over deletes xs) line
    → Contains line.equalities d ↔ (Contains deletes d × ((d.file.content ≡ EqualityDeletes) × Applies line.file d))
equalities_of deletes xs line d c =
    let m = mapped (line_of deletes) (filter (holds Data) xs) line c in
    let Q : OwnedLine → Type 0 = λ l. Contains l.equalities d ↔
    (Contains deletes d × ((d.file.content ≡ EqualityDeletes) × Applies l.file d)) in
    subst Q m.1 (chosen EqualityDeletes deletes m.0 d)

-- the delete files of each kind that apply, taken from the delete files of that kind alone
pub line_with : (all ps es : List Entry) (x : Entry)
    → ps ≡ filter (λ d. applies x d) (filter (holds PositionDeletes) all)
    → es ≡ filter (λ d. applies x d) (filter (holds EqualityDeletes) all) →
    record { file = x; positions = ps; equalities = es } ≡ line_of all x
line_with all ps es x h k = rw (
  h,
  k,
  filter_twice (holds PositionDeletes) (λ (d : Entry). applies x d) all,
  filter_twice (holds EqualityDeletes) (λ (d : Entry). applies x d) all,
) refl
