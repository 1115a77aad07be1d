-- What isn't kept has no row that meets the filter, where it is honest about its rows.
use Rattle.std.proofs.Common.{◌≡◌, ◌⊎◌, inl, inr, List, [], refl, sym, ap, ◌∙◌, Bool, true, false, not, ◌&&◌}
use Rattle.std.proofs.Common.{◌||◌, subst, Option, Some, None, option_map}
use Rattle.std.specs.List.{Contains, AllByRecursion, list_any}
use Rattle.ice_value.specs.declared.cell.Cell.{Cell}
use Rattle.ice_value.specs.declared.file_bounds.FileBounds.{FileBounds}
use Rattle.ice_value.specs.declared.file_content.FileContent.TheVariants.{Data}
use Rattle.ice_meta.specs.declared.spec.Spec.{Spec}
use Rattle.ice_filter.specs.Rows as table
use Rattle.ice_filter.specs.Rows.{row_meets}
use Rattle.ice_filter.specs.declared.bound.BoundPredicate.{BoundPredicate}
use Rattle.ice_filter.specs.declared.parts.Part.{Part}
use Rattle.ice_project.specs.Files.{file_may, AreCounted}
use Rattle.ice_project.specs.Honesty.{IsSound, NoneMeets}
use Rattle.ice_project.specs.Tuples.{part_meets}
use Rattle.ice_manifest_reading.specs.declared.entry.Live.{Live}
use Rattle.ice_manifest_reading.specs.declared.row.Row.{Row}
use Rattle.ice_state.specs.Contents.{World, live_by, manifest_of}
use Rattle.ice_state.specs.Covering.{RowCovers, HasSoundSummaries}
use Rattle.ice_state.specs.Lines.{OwnedLine}
use Rattle.ice_state.specs.Pruning.{Pruner, by_projection, pruner_of, holds, keeps}
use Rattle.ice_state.specs.Snapshots.{live, live_or_none}
use Rattle.ice_state.specs.Specs.{spec_of}
use Rattle.ice_state.proofs.Elements.{all_at}
use Rattle.ice_state.proofs.Filters.{or_false, and_true}
use Rattle.ice_state_laws.specs.Honesty.{IsHonest}
use Rattle.ice_state_laws.specs.Plans.{IsLive, HasLine, IsPlan}
use Rattle.ice_state_laws.proofs.Entries.{kept_data}
use Rattle.ice_state_laws.proofs.Lists.{in_none}

-- what the laws of soundness say
abbrev pub SoundTuples : Type 0
SoundTuples = (filter : List (Part BoundPredicate)) (spec : Spec) (tuple : List Cell) → IsSound filter spec tuple

abbrev pub SoundBounds : Type 0
SoundBounds = (filter : List (Part BoundPredicate)) (file : FileBounds) (rows : List table.Row)
    → file_may filter file ≡ false
    → AreCounted file filter rows → NoneMeets filter rows

-- what is live has the spec id of its row
abbrev pub SameSpecs : Type 0
SameSpecs = (world : World) (specs : List Spec) (row : Row)
    → AllByRecursion (λ (l : Live). l.entry.spec_id ≡ row.spec_id) (live world specs row)

and_false : (a b : Bool) → (a && b) ≡ false → (a ≡ false) ⊎ (b ≡ false)
and_false true b h = inr h
and_false false b h = inl refl

either_is : (b : Bool) → (b ≡ true) ⊎ (b ≡ false)
either_is true = inl refl
either_is false = inr refl

pub none_where : (filter : List (Part BoundPredicate)) (file : List table.Row)
    → (list_any (row_meets filter) file ≡ true → ⊥)
    → NoneMeets filter file
none_where filter file h = elim (either_is (list_any (row_meets filter) file)) as (λ _. NoneMeets filter file)
    [ inl m ↦ absurd (h m) | inr n ↦ n ]

-- of a spec that is missing nothing is live
none_live : (world : World) (specs : List Spec) (row : Row) → spec_of specs row.spec_id ≡ None
    → live world specs row ≡ []
none_live world specs row h = elim (world row.path) as (λ o. live_or_none (option_map (manifest_of specs row) o) ≡ []) [
  | None ↦ refl
  | Some bytes ↦ ap (λ o. live_or_none (Some (live_by o row bytes))) h
]

module _ (tuples : SoundTuples) (bounds : SoundBounds) (of_row : SameSpecs) (world : World) (specs : List Spec)
    (filter : List (Part BoundPredicate)) where
  abbrev p : Pruner
  p = pruner_of filter specs

  id_is : (row : Row) (l : Live) → Contains (live world specs row) l → l.entry.spec_id ≡ row.spec_id
  id_is row l c = all_at (λ (m : Live). m.entry.spec_id ≡ row.spec_id) (live world specs row) l
      (of_row world specs row) c

  known : (rows : List Row) (l : Live) → IsLive world specs rows l → spec_of specs l.entry.spec_id ≡ None → ⊥
  known rows l (row, c, d) h =
      in_none l (subst (λ (ls : List Live). Contains ls l) (none_live world specs row
      (ap (spec_of specs) (sym (id_is row l d)) ∙ h)) d)

  -- its partition values aren't kept
  by_values : (rows : List Row) (l : Live) (file : List table.Row) → IsLive world specs rows l
      → IsHonest specs filter l file → (o : Option Spec) → spec_of specs l.entry.spec_id ≡ o
      → by_projection filter (λ part. part_meets part l.entry.file.tuple) o ≡ false → NoneMeets filter file
  by_values rows l file lives honest None e h = absurd (known rows l lives e)
  by_values rows l file lives honest (Some spec) e h = tuples filter spec l.entry.file.tuple file h
      (honest.values spec e)

  not_kept : (rows : List Row) (l : Live) (file : List table.Row) → IsLive world specs rows l
      → IsHonest specs filter l file → keeps p l ≡ false → NoneMeets filter file
  not_kept rows l file lives honest h =
      elim (and_false (p.meets l.entry.spec_id l.entry.file.tuple) (not (holds Data l.entry) || p.bounds l.bounds) h) as
      (λ _. NoneMeets filter file) [
        | inl m ↦ by_values rows l file lives honest (spec_of specs l.entry.spec_id) refl m
        | inr b ↦ bounds filter l.bounds file (or_false (not (holds Data l.entry)) (p.bounds l.bounds) b).1
            honest.columns
      ]

  -- of what has a match
  kept_where : (rows : List Row) (l : Live) (file : List table.Row) → IsLive world specs rows l
      → IsHonest specs filter l file → list_any (row_meets filter) file ≡ true → keeps p l ≡ true
  kept_where rows l file lives honest m = elim (either_is (keeps p l)) as (λ _. keeps p l ≡ true) [
    | inl k ↦ k
    | inr n ↦ (let no : true ≡ false = sym m ∙ not_kept rows l file lives honest n in cc)
  ]

  line_where : (rows : List Row) (plan : List OwnedLine) (l : Live) → IsPlan p world specs rows plan
      → IsLive world specs rows l → l.entry.file.content ≡ Data → keeps p l ≡ true → HasLine plan l.entry
  line_where rows plan l is lives of_data k = (is.files l.entry).1 (let b = kept_data p l of_data k in (
    l,
    lives,
    refl,
    of_data,
    b.0,
    b.1,
  ))

  pub is_planned : (rows : List Row) (plan : List OwnedLine) (l : Live) (file : List table.Row)
      → IsPlan p world specs rows plan → IsLive world specs rows l → l.entry.file.content ≡ Data
      → IsHonest specs filter l file → list_any (row_meets filter) file ≡ true → HasLine plan l.entry
  is_planned rows plan l file is lives of_data honest m = line_where rows plan l is lives of_data
      (kept_where rows l file lives honest m)

  -- where the wanted rows alone were taken, and the summaries of its row cover its partition values
  pub wanted_where : HasSoundSummaries specs p → (rows wanted : List Row)
      → ((row : Row) → Contains rows row → p.wants row ≡ true → Contains wanted row)
      → (row : Row) (l : Live) (file : List table.Row) → Contains rows row → Contains (live world specs row) l
      → RowCovers specs row l.entry.file.tuple → IsHonest specs filter l file
      → list_any (row_meets filter) file ≡ true → IsLive world specs wanted l
  wanted_where sound rows wanted among row l file c d covers honest m =
      let k = kept_where rows l file (row, c, d) honest m in
      let met : p.meets l.entry.spec_id l.entry.file.tuple ≡ true = (and_true (p.meets l.entry.spec_id
      l.entry.file.tuple) (not (holds Data l.entry) || p.bounds l.bounds) k).0 in
      let met' : p.meets row.spec_id l.entry.file.tuple ≡ true = ap (λ id. p.meets id l.entry.file.tuple)
      (sym (id_is row l d)) ∙ met in
      (row, among row c (sound row l.entry.file.tuple covers met'), d)
