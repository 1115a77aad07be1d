-- Histories whose commits add in turn.
use Rattle.std.proofs.Common.{List, [], ◌∷◌, ◌++◌, sym, subst, append_assoc}
use Rattle.std.proofs.lemmas.List.{append-nil}
use Rattle.ice_catalog_changes.specs.declared.change.Commit.{Commit}
use Rattle.ice_catalog_versions.specs.Histories.{History, after}
use Rattle.ice_catalog_versions.specs.Live.{AddInTurn, AddsToBase, IsGrown}

-- ---- one commit more

-- a history, and some commits more
abbrev with_commits : History → List Commit → History
with_commits h cs = record { opening = h.opening; journal = h.journal ++ cs }

one_more : (h : History) (cs : List Commit) (c : Commit) → AddInTurn h cs → AddsToBase (with_commits h cs) c
    → AddInTurn h (cs ++ c ∷ [])
one_more h [] c all one = (
  subst (λ j. AddsToBase (record { opening = h.opening; journal = j }) c)
      (append-nil h.journal) one,
  tt,
)
one_more h (x ∷ cs) c all one = (
  all.0,
  one_more (after h x) cs c all.1 (subst (λ j. AddsToBase (record { opening = h.opening; journal = j }) c)
      (sym (append_assoc h.journal (x ∷ []) cs)) one),
)

pub grown_after : (h : History) (c : Commit) → IsGrown h → AddsToBase h c → IsGrown (after h c)
grown_after h c all one = one_more (record { opening = h.opening; journal = [] }) h.journal c all one

-- ---- one commit less

front_adds : (h : History) (cs ds : List Commit) → AddInTurn h (cs ++ ds) → AddInTurn h cs
front_adds h [] ds all = tt
front_adds h (c ∷ cs) ds all = (all.0, front_adds (after h c) cs ds all.1)

pub grown_before : (h : History) (c : Commit) → IsGrown (after h c) → IsGrown h
grown_before h c all = front_adds (record { opening = h.opening; journal = [] }) h.journal (c ∷ []) all
