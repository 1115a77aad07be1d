-- What is written of a commit in a bundle.
use Rattle.std.proofs.Common.{◌≡◌, ℕ, List, Bool, true, false, Option, Some, None, refl, sym, ap, subst, ◌∙◌}
use Rattle.std.proofs.Common.{inl}
use Rattle.std.specs.Prelude.{Result, Ok, Err, IfSome, if◌then◌else◌, option_map}
use Rattle.serde_json.specs.Written.{compact_text, has_float}
use Rattle.icescan_files.specs.Bundles.{File, bundle_of, bytes_at}
use Rattle.icescan_commits.specs.Commits.{Commitment, IsTextOf, bundle_lines, commitment, committed_text, in_order}
use Rattle.icescan_commits.specs.Commits.{told_text}
use Rattle.icescan_text.specs.Reads.{MayEnd}
use Rattle.icescan_commands.specs.Answers.{Answer, WroteAnswer, as_answer, plain}
use Rattle.icescan_commands.specs.Runs.{MayRefuse, Ran}
use Rattle.icescan_commands.specs.Sources.{Failing, failing_bundle}
use Rattle.icescan_print.specs.Written.{Appends, AppendsFront}
use Rattle.icescan_text.specs.declared.request.CommitRequest.{CommitRequest}
use Rattle.icescan_text.specs.declared.fault.RunFault.{RunFault}
use Rattle.icescan_text.specs.declared.fault.RunFault.TheVariants as run

-- ---- refusals

-- the fault of the answer, or of memory
cause_of : (known : Option (Result Answer RunFault)) (failing : Failing) (e : RunFault) → known ≡ Some (Err e)
    → MayRefuse (Err e) failing e → IfSome known (λ read. MayRefuse read failing e)
cause_of known failing e is h = subst (λ k. IfSome k (λ read. MayRefuse read failing e)) (sym is) h

any_cause : (known : Option (Result Answer RunFault)) (failing : Failing)
    → IfSome known (λ read. MayRefuse read failing run.Memory)
any_cause None failing = tt
any_cause (Some read) failing = tt

module _ (request : CommitRequest) (text : List ℕ) where
  abbrev known : Option (Result Answer RunFault)
  known = option_map as_answer (committed_text request text)

  pub no_files : (e : RunFault) → bundle_of text ≡ Err e → known ≡ Some (Err e)
  unfolding committed_text
  no_files e h = rw h refl

  module _ (files : List File) (is : bundle_of text ≡ Ok files) where
    abbrev read : Result Commitment RunFault
    read = commitment (λ path. bytes_at files path) request

    told_is : committed_text request text ≡ told_text request.out read
    unfolding committed_text
    told_is = rw is refl

    refused_commit : (e : RunFault) → read ≡ Err e → known ≡ Some (Err e)
    refused_commit e h = ap (option_map as_answer) (told_is ∙ ap (told_text request.out) h)

    commit_refuses : (w : Type 0) (e : RunFault) → MayEnd read (λ path. ⊥) ⊥ e
        → IfSome known (λ r. MayRefuse r (failing_bundle w) e)
    commit_refuses w run.Memory h = any_cause known (failing_bundle w)
    commit_refuses w run.Write h = absurd h
    commit_refuses w (run.Device path) h = absurd h
    commit_refuses w run.Input h =
        cause_of known (failing_bundle w) run.Input (refused_commit run.Input h) (inl tt)
    commit_refuses w (run.Words t) h =
        cause_of known (failing_bundle w) (run.Words t) (refused_commit (run.Words t) h) refl
    commit_refuses w (run.Bundle n) h =
        cause_of known (failing_bundle w) (run.Bundle n) (refused_commit (run.Bundle n) h) refl
    commit_refuses w (run.Absent path) h =
        cause_of known (failing_bundle w) (run.Absent path) (refused_commit (run.Absent path) h) refl
    commit_refuses w (run.List f) h =
        cause_of known (failing_bundle w) (run.List f) (refused_commit (run.List f) h) refl
    commit_refuses w (run.Scan f) h =
        cause_of known (failing_bundle w) (run.Scan f) (refused_commit (run.Scan f) h) refl
    commit_refuses w (run.Finish f) h =
        cause_of known (failing_bundle w) (run.Finish f) (refused_commit (run.Finish f) h) refl
    commit_refuses w (run.Metadata f) h =
        cause_of known (failing_bundle w) (run.Metadata f) (refused_commit (run.Metadata f) h) refl
    commit_refuses w (run.Filter f) h =
        cause_of known (failing_bundle w) (run.Filter f) (refused_commit (run.Filter f) h) refl
    commit_refuses w (run.Drill f) h =
        cause_of known (failing_bundle w) (run.Drill f) (refused_commit (run.Drill f) h) refl
    commit_refuses w (run.Locate f) h =
        cause_of known (failing_bundle w) (run.Locate f) (refused_commit (run.Locate f) h) refl
    commit_refuses w (run.State path flaw) h =
        cause_of known (failing_bundle w) (run.State path flaw) (refused_commit (run.State path flaw) h) refl
    commit_refuses w (run.Lineage f) h =
        cause_of known (failing_bundle w) (run.Lineage f) (refused_commit (run.Lineage f) h) refl
    commit_refuses w (run.Change f) h =
        cause_of known (failing_bundle w) (run.Change f) (refused_commit (run.Change f) h) refl
    commit_refuses w (run.Prepare f) h =
        cause_of known (failing_bundle w) (run.Prepare f) (refused_commit (run.Prepare f) h) refl
    commit_refuses w (run.Conflict path) h =
        cause_of known (failing_bundle w) (run.Conflict path) (refused_commit (run.Conflict path) h) refl
    commit_refuses w run.Workers h =
        cause_of known (failing_bundle w) run.Workers (refused_commit run.Workers h) refl

    pub commit_ran : (w : Type 0) (o : Option (List ℕ)) (e : RunFault) → MayEnd read (λ path. ⊥) ⊥ e
        → Ran known (failing_bundle w) (Err e) o o
    commit_ran w o e h = record {
      written = tt;
      refused = commit_refuses w e h;
      nothing = λ _. refl;
      front = λ is. let failed : e ≡ run.Write = cc in absurd (subst (λ f. MayEnd read (λ path. ⊥) ⊥ f) failed h);
    }

    -- ---- the text

    module _ (c : Commitment) (made : read ≡ Ok c) (bytes : List ℕ) (says : IsTextOf c.metadata bytes) where
      abbrev lines : List ℕ
      lines = bundle_lines (in_order c.added request.out bytes)

      text_by : (b : Bool) → has_float c.metadata.json ≡ b
          → IfSome {T = Result (List ℕ) RunFault}
          (if b then None else Some (Ok (bundle_lines (in_order c.added request.out (compact_text c.metadata.json)))))
          (λ r. r ≡ Ok lines)
      text_by true h = tt
      text_by false h = rw (says.compact h) refl

      answer_by : (k : Option (Result (List ℕ) RunFault)) → IfSome k (λ r. r ≡ Ok lines)
          → IfSome (option_map as_answer k) (λ r. r ≡ Ok (plain lines))
      answer_by None h = tt
      answer_by (Some r) h = ap as_answer h

      text_is : IfSome known (λ r. r ≡ Ok (plain lines))
      text_is =
          let told = text_by (has_float c.metadata.json) refl in
          answer_by (committed_text request text)
          (subst (λ k. IfSome k (λ r. r ≡ Ok lines)) (sym (told_is ∙ ap (told_text request.out) made)) told)

      wrote : (k : Option (Result Answer RunFault)) (o o' : Option (List ℕ)) → IfSome k (λ r. r ≡ Ok (plain lines))
          → Appends o o' lines
          → IfSome k (λ r. WroteAnswer r o o')
      wrote None o o' h all = tt
      wrote (Some r) o o' h all = (plain lines, h, lines, refl, all)

      pub wrote_ran : (w : Type 0) (o o' : Option (List ℕ)) → Appends o o' lines
          → Ran known (failing_bundle w) (Ok tt) o o'
      wrote_ran w o o' all = record {
        written = wrote known o o' text_is all;
        refused = tt;
        nothing = tt;
        front = λ is. absurd cc;
      }

      failed : (k : Option (Result Answer RunFault)) (w : Type 0) (o o' : Option (List ℕ))
          → IfSome k (λ r. r ≡ Ok (plain lines)) → w
          → AppendsFront o o' lines → Ran k (failing_bundle w) (Err run.Write) o o'
      failed None w o o' h may front = record {
        written = tt;
        refused = tt;
        nothing = λ other. absurd (other refl);
        front = λ is. tt;
      }
      failed (Some r) w o o' h may front = record {
        written = tt;
        refused = may;
        nothing = λ other. absurd (other refl);
        front = λ is. (plain lines, h, lines, refl, front);
      }

      pub failed_ran : (w : Type 0) (o o' : Option (List ℕ)) → w → AppendsFront o o' lines
          → Ran known (failing_bundle w) (Err run.Write) o o'
      failed_ran w o o' may front = failed known w o o' text_is may front
