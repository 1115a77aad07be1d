-- Commits to tables in folders.
use Rattle.std.proofs.Common.{◌≡◌, ℕ, List, Option, Some, None, refl, inl, inr}
use Rattle.std.specs.Prelude.{Result, Ok, Err, IfErr, IfSome, OnErr, OnOk}
use Rattle.ice_state.specs.Contents.{World}
use Rattle.icescan_files.specs.Bundles.{File}
use Rattle.icescan_commits.specs.Commits.{Commitment, IsLeft, Made, MayEndCommit, MayNotPut, MayNotTell, commitment}
use Rattle.icescan_commands.specs.Storing.{Commits}
use Rattle.icescan_text.specs.declared.request.CommitRequest.{CommitRequest}
use Rattle.icescan_text.specs.declared.fault.RunFault.{RunFault}
use Rattle.icescan_text.specs.declared.fault.RunFault.TheVariants as run

-- what is so of a world that is told
pub if_told : (P : World → Type 0) (k : Option World) → ((v : World) → k ≡ Some v → P v) → IfSome k P
if_told P None h = tt
if_told P (Some v) h = h v refl

-- a store that fails no more than another
module _ (read : Result Commitment RunFault) (at : List ℕ → Type 0) (out : List ℕ) (o n : Option (List File))
    (s t w : Type 0) (more : s → t) where
  not_put : (c : Commitment) → MayNotPut c out o n s run.Write → MayNotPut c out o n t run.Write
  not_put c (inl fails) = inl (more fails)
  not_put c (inr stops) = inr (record {
    count = stops.count;
    file = stops.file;
    next = stops.next;
    puts = stops.puts;
    cause = stops.cause;
  })

  not_told : (c : Commitment) → MayNotTell c out o n s w → MayNotTell c out o n t w
  not_told c (inl h) = inl (not_put c h)
  not_told c (inr h) = inr h

  ends_commit : (e : RunFault) → MayEndCommit read at out o n s w e → MayEndCommit read at out o n t w e
  ends_commit run.Write h = (h.0, h.1, not_told h.0 h.2)
  ends_commit (run.Conflict path) h = h
  ends_commit run.Memory h = h
  ends_commit (run.Device path) h = h
  ends_commit run.Input h = h
  ends_commit (run.Words text) h = h
  ends_commit (run.Bundle n) h = h
  ends_commit (run.Absent path) h = h
  ends_commit (run.List f) h = h
  ends_commit (run.Scan f) h = h
  ends_commit (run.Finish f) h = h
  ends_commit (run.Metadata f) h = h
  ends_commit (run.Filter f) h = h
  ends_commit (run.Drill f) h = h
  ends_commit (run.Locate f) h = h
  ends_commit (run.State path flaw) h = h
  ends_commit (run.Lineage f) h = h
  ends_commit (run.Change f) h = h
  ends_commit (run.Prepare f) h = h
  ends_commit run.Workers h = h

-- a commit to a store that fails no more than another
module _ (world : World) (at : List ℕ → Type 0) (request : CommitRequest) (s t w : Type 0) (more : s → t) where
  refused_weaker : (result : Result Unit RunFault) (o n : Option (List File))
      → IfErr result (MayEndCommit (commitment world request) at request.out o n s w)
      → IfErr result (MayEndCommit (commitment world request) at request.out o n t w)
  refused_weaker (Ok x) o n h = tt
  refused_weaker (Err e) o n h = ends_commit (commitment world request) at request.out o n s t w more e h

  pub commits : (result : Result Unit RunFault) (o n : Option (List File)) (output output' : Option (List ℕ))
      → OnOk result ((c : Commitment) × (commitment world request ≡ Ok c) × Made c request o n output output')
      → IfErr result (MayEndCommit (commitment world request) at request.out o n s w)
      → ((fault : RunFault) → commitment world request ≡ Err fault → n ≡ o)
      → ((c : Commitment) → commitment world request ≡ Ok c → OnErr result (IsLeft c request.out o n))
      → Commits world at request t w result o n output output'
  commits result o n output output' made refused unchanged left = record {
    made = made;
    refused = refused_weaker result o n refused;
    unchanged = unchanged;
    left = left;
  }
