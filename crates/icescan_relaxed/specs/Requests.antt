-- Requests whose filters are relaxed.
use Rattle.std.specs.Prelude.{◌≡◌, ℕ, List, [], ◌∷◌, Option, Some, None, Result, Ok, IfErr, IfOk}
use Rattle.contract_words.specs.Outcome.{◌>>=◌}
use Rattle.ice_desk.specs.Worlds.{EndsAt}
use Rattle.ice_filter.specs.Parsing.{parsed}
use Rattle.ice_filter.specs.Texts.{shown}
use Rattle.ice_filter.specs.Trees.{tree_of}
use Rattle.ice_filter.specs.declared.parts.Part.{Part}
use Rattle.ice_filter.specs.declared.predicate.Predicate.{Predicate}
use Rattle.ice_filter_relaxed.specs.Relaxing.{relaxed, unasked}
use Rattle.ice_meta.specs.Targets.{metadata_of}
use Rattle.ice_meta.specs.declared.metadata.Target.{Target}
use Rattle.ice_meta.specs.declared.schema.Schema.{Schema}
use Rattle.ice_state.specs.Contents.{World}
use Rattle.icescan_text.specs.Faults.{of_filter, of_meta}
use Rattle.icescan_text.specs.Reads.{MayEnd, as_run, file_in, schema_of}
use Rattle.icescan_text.specs.declared.fault.RunFault.{RunFault}
use Rattle.icescan_text.specs.declared.fault.RunFault.TheVariants as run
use Rattle.icescan_text.specs.declared.request.Request.{Request}
use Rattle.icescan_relaxed.specs.declared.requests.RelaxedRequest.{RelaxedRequest}

-- the request for the text of the relaxed filter, with the predicates that it does not ask
abbrev pub relaxed_under : Schema → Target → List (Part Predicate) → RelaxedRequest
relaxed_under schema target parts = record {
  request = record { target = target; filter = Some (shown (tree_of (relaxed schema parts))) };
  unasked = unasked schema parts;
}

-- The request that is made of a filter's text, by the schema that counts for its snapshot; or the first refusal, of the
-- metadata or of the text.
unfoldable pub relaxed_text : List ℕ → Target → List ℕ → Result RelaxedRequest RunFault
relaxed_text metadata target text = do
  described ← as_run of_meta (metadata_of metadata)
  parts ← as_run of_filter (parsed text)
  schema ← as_run of_meta (schema_of target described.table)
  Ok (relaxed_under schema target parts)

abbrev pub relaxed_filter : List ℕ → Target → Option (List ℕ) → Result RelaxedRequest RunFault
relaxed_filter metadata target None = Ok (record { request = record { target = target; filter = None }; unasked = [] })
relaxed_filter metadata target (Some text) = relaxed_text metadata target text

-- The request whose filter is relaxed; one without a filter stays as it is.
unfoldable pub relaxed_request : List ℕ → Request → Result RelaxedRequest RunFault
relaxed_request metadata request = relaxed_filter metadata request.target request.filter

-- the faults of metadata and of a filter's text
abbrev pub IsOfFilter : RunFault → Type 0
IsOfFilter (run.Metadata fault) = Unit {0}
IsOfFilter (run.Filter fault) = Unit {0}
IsOfFilter run.Memory = Unit {0}
IsOfFilter _ = ⊥

-- the same of the table whose metadata is in the file at a path
unfoldable pub relaxed_request_at : World → List ℕ → Request → Result RelaxedRequest RunFault
relaxed_request_at world path request = file_in world path >>= λ metadata. relaxed_request metadata request

-- What relaxing gives where the world is told: that request, or its refusal; or another fault, where memory ran out or
-- the read failed that may.
abbrev pub Relaxes : Option World → (List ℕ → Type 0) → List ℕ → Request → Result RelaxedRequest RunFault → Type 0
Relaxes told may_fail path request result = (world : World) → told ≡ Some world →
    IfOk result (λ made. relaxed_request_at world path request ≡ Ok made)
    × IfErr result (MayEnd (relaxed_request_at world path request) (EndsAt world may_fail (path ∷ [])) ⊥)
