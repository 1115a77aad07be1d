-- What is answered under a relaxed filter.
use Rattle.std.proofs.Common.{◌≡◌, ℕ, List, [], ◌∷◌, Option, refl, sym, subst}
use Rattle.std.specs.Prelude.{Result, Ok, Err}
use Rattle.contract_words.specs.Outcome.{◌>>=◌}
use Rattle.ice_desk.specs.Worlds.{EndsAt}
use Rattle.ice_state.specs.Contents.{World}
use Rattle.icescan_relaxed.specs.Requests.{relaxed_request, relaxed_request_at}
use Rattle.icescan_relaxed.specs.declared.requests.RelaxedRequest.{RelaxedRequest}
use Rattle.icescan_requests.specs.Plans.{reads_at}
use Rattle.icescan_forms.specs.declared.format.Format.{Format}
use Rattle.icescan_text.specs.Reads.{MayEnd, file_in}
use Rattle.icescan_text.specs.declared.fault.RunFault.{RunFault}
use Rattle.icescan_text.specs.declared.fault.RunFault.TheVariants as run
use Rattle.icescan_text.specs.declared.request.Request.{Request}
use Rattle.icescan_text.proofs.Steps.{fails_later, first_ends, more_reads, only_first}
use Rattle.icescan_words.specs.declared.command.Relaxed.{Relaxed}
use Rattle.icescan_commands.specs.Answers.{Answer, GivesAnswer}
use Rattle.icescan_commands.specs.Runs.{asked_in, reads_of_made, relaxed_in, relaxed_reads_at}

module _ (may_fail : List ℕ → Type 0) (world : World) (path : List ℕ) (request : Request) where
  -- where the metadata alone is read
  first_read : (made : Result RelaxedRequest RunFault) (p : List ℕ) → EndsAt world may_fail (path ∷ []) p
      → EndsAt world may_fail (reads_of_made world path made) p
  first_read (Ok made) p h = only_first world may_fail path (reads_at world path made.request) p h
  first_read (Err fault) p h = h

  pub not_relaxed : (what : Relaxed) (form : Format) (workers : ℕ) (w : Type 0) (o : Option (List ℕ)) (e : RunFault)
      → MayEnd (relaxed_request_at world path request) (EndsAt world may_fail (path ∷ [])) ⊥ e
      → GivesAnswer (relaxed_in what form world path request workers)
      (EndsAt world may_fail (relaxed_reads_at world path request)) w (Err e) o o
  not_relaxed what form workers w o e h = record {
    written = tt;
    refused = first_ends (EndsAt world may_fail (relaxed_reads_at world path request)) w
        (EndsAt world may_fail (path ∷ [])) (relaxed_request_at world path request)
        (λ made. asked_in what form world path made.request workers) e
        (λ p m. first_read (relaxed_request_at world path request) p m) h;
    front = λ is. let failed : e ≡ run.Write = cc in absurd (subst (λ (f : RunFault).
        MayEnd (relaxed_request_at world path request) (EndsAt world may_fail (path ∷ [])) ⊥ f) failed h);
  }

  -- the metadata is there
  found_first : (read : Result (List ℕ) RunFault) (made : RelaxedRequest)
      → (read >>= λ metadata. relaxed_request metadata request) ≡ Ok made → (bytes : List ℕ) × (read ≡ Ok bytes)
  found_first (Ok bytes) made h = (bytes, refl)
  found_first (Err e) made h = cc

  is_there : (made : RelaxedRequest) → relaxed_request_at world path request ≡ Ok made
      → (bytes : List ℕ) × (file_in world path ≡ Ok bytes)
  unfolding relaxed_request_at
  is_there made h = found_first (file_in world path) made h

  then_reads : (made : RelaxedRequest) → relaxed_request_at world path request ≡ Ok made → (p : List ℕ)
      → EndsAt world may_fail (reads_at world path made.request) p
      → EndsAt world may_fail (relaxed_reads_at world path request) p
  then_reads made h p ends =
      let there = is_there made h in
      rw h (fails_later world may_fail path there.0 (reads_at world path made.request) p there.1 ends)

  relaxed_is : (what : Relaxed) (form : Format) (workers : ℕ) (made : RelaxedRequest)
      → relaxed_request_at world path request ≡ Ok made
      → relaxed_in what form world path request workers ≡ asked_in what form world path made.request workers
  relaxed_is what form workers made h = rw h refl

  pub as_relaxed : (what : Relaxed) (form : Format) (workers : ℕ) (made : RelaxedRequest)
      → relaxed_request_at world path request ≡ Ok made → (w : Type 0) (result : Result Unit RunFault)
      (o o' : Option (List ℕ))
      → GivesAnswer (asked_in what form world path made.request workers)
      (EndsAt world may_fail (reads_at world path made.request)) w result o o'
      → GivesAnswer (relaxed_in what form world path request workers)
      (EndsAt world may_fail (relaxed_reads_at world path request)) w result o o'
  as_relaxed what form workers made h w (Ok x) o o' gives =
      subst (λ (a : Result Answer RunFault). GivesAnswer a
      (EndsAt world may_fail (relaxed_reads_at world path request)) w (Ok x) o o')
      (sym (relaxed_is what form workers made h))
      (record { written = gives.written; refused = tt; front = λ is. absurd cc })
  as_relaxed what form workers made h w (Err e) o o' gives =
      subst (λ (a : Result Answer RunFault). GivesAnswer a
      (EndsAt world may_fail (relaxed_reads_at world path request)) w (Err e) o o')
      (sym (relaxed_is what form workers made h))
      (record {
        written = tt;
        refused = more_reads (asked_in what form world path made.request workers)
            (EndsAt world may_fail (reads_at world path made.request))
            (EndsAt world may_fail (relaxed_reads_at world path request)) w e (then_reads made h) gives.refused;
        front = gives.front;
      })
