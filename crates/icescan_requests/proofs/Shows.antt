-- What `show` makes of metadata that was read, and of metadata that was refused.
use Rattle.std.proofs.Common.{◌≡◌, ◌≢◌, ℕ, List, ap, refl, subst, sym}
use Rattle.std.specs.Prelude.{Result, Ok, Err}
use Rattle.contract_words.specs.Outcome.{◌>>=◌}
use Rattle.ice_meta.specs.declared.fault.MetaFault.{MetaFault}
use Rattle.ice_meta.specs.declared.fault.MetaFault.TheVariants as meta
use Rattle.ice_meta.specs.Targets.{Described, metadata_of}
use Rattle.ice_state.specs.Contents.{World}
use Rattle.icescan_text.specs.declared.fault.RunFault.{RunFault}
use Rattle.icescan_text.specs.Faults.{of_meta}
use Rattle.icescan_text.specs.Reads.{MayEnd, as_run, file_in}
use Rattle.icescan_requests.specs.Shows.{show_of, shown_at}
use Rattle.icescan_print.specs.TableTexts.{table_text}
use Rattle.icescan_text.proofs.Steps.{first_ends, more_reads}

abbrev text_in : Result Described MetaFault → Result (List ℕ) RunFault
text_in read = as_run of_meta read >>= λ metadata. Ok (table_text metadata.table)

pub shown : (bytes : List ℕ) (metadata : Described) → metadata_of bytes ≡ Ok metadata
    → show_of bytes ≡ Ok (table_text metadata.table)
unfolding show_of
shown bytes metadata h = ap text_in h

module _ (r : List ℕ → Type 0) (w : Type 0) where
  ends : (read : Result Described MetaFault) (f : MetaFault) → (f ≢ meta.Memory → read ≡ Err f)
      → MayEnd (text_in read) r w (of_meta f)
  ends read meta.Memory h = tt
  ends read meta.NotJson h = ap text_in (h (λ m. cc))
  ends read (meta.Version n) h = ap text_in (h (λ m. cc))
  ends read (meta.Missing member) h = ap text_in (h (λ m. cc))
  ends read (meta.WrongKind member) h = ap text_in (h (λ m. cc))
  ends read (meta.UnknownType text) h = ap text_in (h (λ m. cc))
  ends read meta.NoSuchRef h = ap text_in (h (λ m. cc))
  ends read meta.NoSuchSnapshot h = ap text_in (h (λ m. cc))
  ends read meta.NoSnapshot h = ap text_in (h (λ m. cc))
  ends read (meta.IdTwice id) h = ap text_in (h (λ m. cc))
  ends read (meta.Dangling member) h = ap text_in (h (λ m. cc))
  ends read meta.TooBig h = ap text_in (h (λ m. cc))

  pub refused : (bytes : List ℕ) (f : MetaFault) → (f ≢ meta.Memory → metadata_of bytes ≡ Err f)
      → MayEnd (show_of bytes) r w (of_meta f)
  unfolding show_of
  refused bytes f h = ends (metadata_of bytes) f h

module _ (world : World) (path : List ℕ) where
  pub file_ends : (r : List ℕ → Type 0) (w : Type 0) (e : RunFault) → MayEnd (file_in world path) r ⊥ e
      → MayEnd (shown_at world path) r w e
  unfolding shown_at
  file_ends r w e h = first_ends r w r (file_in world path) show_of e (λ p m. m) h

  module _ (bytes : List ℕ) (has : file_in world path ≡ Ok bytes) where
    pub shown_there : shown_at world path ≡ show_of bytes
    unfolding shown_at
    shown_there = rw has refl

    pub bytes_end : (r : List ℕ → Type 0) (w : Type 0) (e : RunFault) → MayEnd (show_of bytes) (λ _. ⊥) w e
        → MayEnd (shown_at world path) r w e
    bytes_end r w e h = subst (λ read. MayEnd read r w e) (sym shown_there)
        (more_reads (show_of bytes) (λ _. ⊥) r w e (λ p m. absurd m) h)
