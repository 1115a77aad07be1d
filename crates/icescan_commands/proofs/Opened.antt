-- What a command gives whose files were opened: those of a bundle, or those below a folder.
use Rattle.std.proofs.Common.{◌≡◌, ◌≢◌, ℕ, List, [], ◌∷◌, Option, Some, None, refl, subst, sym, inl, inr, ◌∙◌}
use Rattle.std.specs.Prelude.{Result, Ok, Err, IfErr, IfOk, IfSome, option_map}
use Rattle.contract_words.specs.Outcome.{◌>>=◌}
use Rattle.ice_desk.specs.Worlds.{EndsAt}
use Rattle.ice_state.specs.Contents.{World}
use Rattle.icescan_files.specs.Bundles.{File, bundle_of, bytes_at}
use Rattle.icescan_text.proofs.Steps.{never_fails}
use Rattle.icescan_text.specs.Reads.{MayEnd}
use Rattle.icescan_text.specs.declared.fault.RunFault.{RunFault}
use Rattle.icescan_text.specs.declared.fault.RunFault.TheVariants as run
use Rattle.icescan_words.specs.declared.command.Source.{Source}
use Rattle.icescan_words.specs.declared.command.Source.TheVariants as source
use Rattle.icescan_commands.specs.Answers.{Answer, GivesAnswer}
use Rattle.icescan_commands.specs.Runs.{MayRefuse, Ran}
use Rattle.icescan_commands.specs.Sources.{AreOf, Below, Failing, IsNoBundle, MayFailBelow, failing_bundle}
use Rattle.icescan_commands.specs.Sources.{failing_over, over, world_at}
use Rattle.icescan_commands.proofs.Refusals.{no_bundle_ran, untold_ran}

-- why a call ends, as why a run does
may_refuse : (read : Result Answer RunFault) (at : List ℕ → Type 0) (failing : Failing) (e : RunFault)
    → ((path : List ℕ) → at path → failing.read path) → MayEnd read at failing.write e → MayRefuse read failing e
may_refuse read at failing run.Memory reads h = tt
may_refuse read at failing run.Write reads h = h
may_refuse read at failing (run.Device path) reads h = reads path h
may_refuse read at failing run.Input reads h = inr h
may_refuse read at failing (run.Words t) reads h = h
may_refuse read at failing (run.Bundle n) reads h = h
may_refuse read at failing (run.Absent path) reads h = h
may_refuse read at failing (run.List f) reads h = h
may_refuse read at failing (run.Scan f) reads h = h
may_refuse read at failing (run.Finish f) reads h = h
may_refuse read at failing (run.Metadata f) reads h = h
may_refuse read at failing (run.Filter f) reads h = h
may_refuse read at failing (run.Drill f) reads h = h
may_refuse read at failing (run.Locate f) reads h = h
may_refuse read at failing (run.State path flaw) reads h = h
may_refuse read at failing (run.Lineage f) reads h = h
may_refuse read at failing (run.Change f) reads h = h
may_refuse read at failing (run.Prepare f) reads h = h
may_refuse read at failing (run.Conflict path) reads h = h
may_refuse read at failing run.Workers reads h = h

pub gives_ran : (read : Result Answer RunFault) (at : List ℕ → Type 0) (failing : Failing)
    (result : Result Unit RunFault) (o o' : Option (List ℕ)) → ((path : List ℕ) → at path → failing.read path)
    → GivesAnswer read at failing.write result o o' → IfErr result (λ fault. fault ≢ run.Write → o' ≡ o)
    → Ran (Some read) failing result o o'
gives_ran read at failing (Ok x) o o' reads h nothing =
    record { written = h.written; refused = tt; nothing = tt; front = λ is. absurd cc }
gives_ran read at failing (Err e) o o' reads h nothing = record {
  written = tt;
  refused = may_refuse read at failing e reads h.refused;
  nothing = nothing;
  front = h.front;
}

-- reading ends where it may at fewer paths
ends_weaker : (world : World) (so all : List ℕ → Type 0) (paths : List (List ℕ)) (path : List ℕ)
    → ((p : List ℕ) → so p → all p) → EndsAt world so paths path → EndsAt world all paths path
ends_weaker world so all [] path more h = absurd h
ends_weaker world so all (next ∷ paths) path more (inl h) = inl (h.0, more path h.1)
ends_weaker world so all (next ∷ paths) path more (inr h) = inr (h.0, ends_weaker world so all paths path more h.1)

-- ---- over a folder

module _ (known : Option World) (world : Option World) (is : world ≡ known) where
  module _ (at may_fail : List ℕ → Type 0) (more : (path : List ℕ) → at path → may_fail path)
      (asked : World → Result Answer RunFault) (reads : World → List (List ℕ)) (w : Type 0)
      (result : Result Unit RunFault) (o o' : Option (List ℕ)) where
    abbrev failing_known : Option World → Failing
    failing_known k = record {
      input = ⊥;
      read = λ path. IfSome k (λ v. EndsAt v may_fail (reads v) path);
      write = w;
    }

    by_known : (k : Option World)
        → ((v : World) → k ≡ Some v → GivesAnswer (asked v) (EndsAt v at (reads v)) w result o o')
        → IfErr result (λ fault. fault ≢ run.Write → o' ≡ o)
        → Ran (option_map asked k) (failing_known k) result o o'
    by_known None gives nothing = untold_ran (failing_known None) result o o' nothing
    by_known (Some v) gives nothing = gives_ran (asked v) (EndsAt v at (reads v)) (failing_known (Some v)) result o o'
        (λ path h. ends_weaker v at may_fail (reads v) path more h) (gives v refl) nothing

    pub folder_ran : ((v : World) → world ≡ Some v → GivesAnswer (asked v) (EndsAt v at (reads v)) w result o o')
        → IfErr result (λ fault. fault ≢ run.Write → o' ≡ o)
        → Ran (option_map asked known) (failing_known known) result o o'
    folder_ran gives nothing = by_known known (λ v told. gives v (is ∙ told)) nothing

  fact_by : {A : Type 0} (P : Result A RunFault → Type 0) (asked : World → Result A RunFault) (k : Option World)
      → ((v : World) → k ≡ Some v → P (asked v)) → IfSome (option_map asked k) P
  fact_by P asked None facts = tt
  fact_by P asked (Some v) facts = facts v refl

  pub folder_fact : {A : Type 0} (P : Result A RunFault → Type 0) (asked : World → Result A RunFault)
      → ((v : World) → world ≡ Some v → P (asked v)) → IfSome (option_map asked known) P
  folder_fact P asked facts = fact_by P asked known (λ v told. facts v (is ∙ told))

-- ---- over a source

module _ (below : Below) (may_fail : MayFailBelow) (text : List ℕ) where
  -- there is no bundle
  pub unopened_ran : (asked : World → Result Answer RunFault) (reads : World → List (List ℕ)) (at : Source) (w : Type 0)
      (o : Option (List ℕ)) (e : RunFault) → IsNoBundle at text e
      → Ran (over below at asked text) (failing_over below may_fail at reads w) (Err e) o o
  unopened_ran asked reads source.Bundle w o e h =
      no_bundle_ran (Some (bundle_of text >>= λ files. asked (λ path. bytes_at files path))) text w o
      (λ f is. rw is refl) e h
  unopened_ran asked reads (source.Folder place) w o e h = absurd h

  bundle_known : {A : Type 0} (asked : World → Result A RunFault) (files : List File) → bundle_of text ≡ Ok files
      → over below source.Bundle asked text ≡ Some (asked (λ path. bytes_at files path))
  bundle_known asked files is = rw is refl

  -- the files that were opened give the answer
  pub opened_ran : (from : Source) (world : Option World) (at : List ℕ → Type 0)
      → AreOf below may_fail from text world at → (asked : World → Result Answer RunFault)
      (reads : World → List (List ℕ)) (w : Type 0) (result : Result Unit RunFault) (o o' : Option (List ℕ))
      → ((v : World) → world ≡ Some v → GivesAnswer (asked v) (EndsAt v at (reads v)) w result o o')
      → IfErr result (λ fault. fault ≢ run.Write → o' ≡ o)
      → Ran (over below from asked text) (failing_over below may_fail from reads w) result o o'
  opened_ran source.Bundle world at are asked reads w result o o' gives nothing =
      let b = are.bundle refl in
      let v : World = λ path. bytes_at b.0 path in
      let ran = gives_ran (asked v) (EndsAt v at (reads v)) (failing_bundle w) result o o'
      (λ path h. never_fails v (reads v) path (ends_weaker v at (λ _. ⊥) (reads v) path b.3 h)) (gives v b.2) nothing in
      subst (λ k. Ran k (failing_bundle w) result o o') (sym (bundle_known asked b.0 b.1)) ran
  opened_ran (source.Folder place) world at are asked reads w result o o' gives nothing =
      let f = are.folder place refl in
      folder_ran (world_at below place) world f.0 at (may_fail place.folder place.prefix) f.1 asked reads w result o o'
      gives nothing

  -- what is so of what they are asked
  opened_fact : {A : Type 0} (P : Result A RunFault → Type 0) (from : Source) (world : Option World)
      (at : List ℕ → Type 0) → AreOf below may_fail from text world at → (asked : World → Result A RunFault)
      → ((v : World) → world ≡ Some v → P (asked v)) → IfSome (over below from asked text) P
  opened_fact P source.Bundle world at are asked facts =
      let b = are.bundle refl in
      subst (λ k. IfSome k P) (sym (bundle_known asked b.0 b.1)) (facts (λ path. bytes_at b.0 path) b.2)
  opened_fact P (source.Folder place) world at are asked facts =
      folder_fact (world_at below place) world (are.folder place refl).0 P asked facts

  -- what a count is so of
  pub opened_count : {A : Type 0} (P : ℕ → Result A RunFault → Type 0) (from : Source) (world : Option World)
      (at : List ℕ → Type 0) → AreOf below may_fail from text world at → (asked : World → Result A RunFault)
      (result : Result ℕ RunFault) → ((v : World) → world ≡ Some v → IfOk result (λ n. P n (asked v)))
      → IfOk result (λ n. IfSome (over below from asked text) (P n))
  opened_count P from world at are asked (Ok n) facts = opened_fact (P n) from world at are asked facts
  opened_count P from world at are asked (Err e) facts = tt
