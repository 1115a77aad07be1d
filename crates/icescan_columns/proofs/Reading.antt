-- Why a run ends, and what it makes of a file that was read.
use Rattle.std.proofs.Common.{◌≡◌, ◌≢◌, ℕ, List, refl, subst, sym}
use Rattle.std.specs.Prelude.{Result, Ok, Err}
use Rattle.contract_words.specs.Outcome.{◌>>=◌}
use Rattle.ice_meta.specs.declared.table.Table.{Table}
use Rattle.ice_state.specs.Contents.{World}
use Rattle.icescan_columns.specs.Columns.{IsOfMetadata, made_at, made_of}
use Rattle.serde_json.specs.Data.{Data}
use Rattle.icescan_text.proofs.Steps.{first_ends, more_reads}
use Rattle.icescan_text.specs.Reads.{MayEnd, file_in}
use Rattle.icescan_text.specs.declared.fault.RunFault.{RunFault}
use Rattle.icescan_text.specs.declared.fault.RunFault.TheVariants as run

-- a refusal of the metadata
pub metadata_ends : (read : Result (List ℕ) RunFault) (w : Type 0) (e : RunFault) → IsOfMetadata e
    → (e ≢ run.Memory → read ≡ Err e) → MayEnd read (λ _. ⊥) w e
metadata_ends read w (run.Metadata f) is h = h (λ m. cc)
metadata_ends read w run.Memory is h = tt
metadata_ends read w (run.Words t) is h = absurd is
metadata_ends read w run.Input is h = absurd is
metadata_ends read w (run.Bundle n) is h = absurd is
metadata_ends read w (run.Absent path) is h = absurd is
metadata_ends read w (run.Device path) is h = absurd is
metadata_ends read w (run.List f) is h = absurd is
metadata_ends read w (run.Scan f) is h = absurd is
metadata_ends read w (run.Finish f) is h = absurd is
metadata_ends read w (run.Filter f) is h = absurd is
metadata_ends read w (run.Drill f) is h = absurd is
metadata_ends read w (run.Locate f) is h = absurd is
metadata_ends read w (run.State path flaw) is h = absurd is
metadata_ends read w (run.Lineage f) is h = absurd is
metadata_ends read w (run.Change f) is h = absurd is
metadata_ends read w (run.Prepare f) is h = absurd is
metadata_ends read w (run.Conflict path) is h = absurd is
metadata_ends read w run.Workers is h = absurd is
metadata_ends read w run.Write is h = absurd is

module _ (make : Data → Table → Result (List ℕ) RunFault) (world : World) (path : List ℕ) where
  -- a refusal of reading the file
  pub file_ends : (r : List ℕ → Type 0) (w : Type 0) (e : RunFault) → MayEnd (file_in world path) r ⊥ e
      → MayEnd (made_at make world path) r w e
  unfolding made_at
  file_ends r w e h = first_ends r w r (file_in world path) (λ metadata. made_of make metadata) e (λ p m. m) h

  module _ (bytes : List ℕ) (has : file_in world path ≡ Ok bytes) where
    pub made_there : made_at make world path ≡ made_of make bytes
    unfolding made_at
    made_there = rw has refl

    pub bytes_end : (r : List ℕ → Type 0) (w : Type 0) (e : RunFault)
        → MayEnd (made_of make bytes) (λ _. ⊥) w e → MayEnd (made_at make world path) r w e
    bytes_end r w e h = subst (λ read. MayEnd read r w e) (sym made_there)
        (more_reads (made_of make bytes) (λ _. ⊥) r w e (λ p m. absurd m) h)
