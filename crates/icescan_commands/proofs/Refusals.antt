-- Why the program refuses its words and its input.
use Rattle.std.proofs.Common.{◌≡◌, ◌≢◌, ℕ, ◌+◌, Bool, true, false, List, [], ◌∷◌, refl, sym, ap, subst, ◌∙◌, inl}
use Rattle.std.proofs.Common.{inr, Option, Some, None, is_some}
use Rattle.std.specs.Prelude.{Result, Ok, Err, IfErr, IfSome, OnOk, if◌then◌else◌}
use Rattle.contract_words.specs.Outcome.{◌>>=◌}
use Rattle.icescan_text.specs.declared.fault.RunFault.{RunFault}
use Rattle.icescan_text.specs.declared.fault.RunFault.TheVariants as run
use Rattle.icescan_files.specs.Bundles.{File, IsInput, NoBundle, added, bundle_of, bytes_at, file_of, first_path}
use Rattle.icescan_files.specs.Bundles.{with_lines}
use Rattle.icescan_commands.specs.Answers.{Answer}
use Rattle.icescan_commands.specs.Runs.{MayRefuse, Ran, ended, list_in, list_plan_in, list_planned, or_first_line}
use Rattle.icescan_commands.specs.Sources.{Below, Failing, failing_bundle, failing_unread}
use Rattle.icescan_words.specs.CommandLines.{IsWordsFault}
use Rattle.icescan_forms.specs.declared.format.Format.{Format}
use Rattle.icescan_words.specs.declared.command.Lists.TheVariants as lists

-- a bundle is refused for a line of it
there : (n : ℕ) (b : Bool) (files : List File) (e : RunFault)
    → ◌≡◌ {A = Result (List File) RunFault} (if b then Err (run.Bundle n) else Ok files) (Err e) → e ≡ run.Bundle n
there n true files e h = cc
there n false files e h = absurd cc

added_fault : (n : ℕ) (files : List File) (file : Option File) (e : RunFault) → added n files file ≡ Err e → e
    ≡ run.Bundle n
added_fault n files None e h = cc
added_fault n files (Some file) e h = there n (is_some (bytes_at files file.path)) _ e h

lines_step : (n : ℕ) (read : Result (List File) RunFault) (next : List File → Result (List File) RunFault)
    (e : RunFault)
    → ((f : RunFault) → read ≡ Err f → f ≡ run.Bundle n)
    → ((files : List File) → next files ≡ Err e → (m : ℕ) × (e ≡ run.Bundle m))
    → (read >>= next) ≡ Err e → (m : ℕ) × (e ≡ run.Bundle m)
lines_step n (Ok files) next e first rest h = rest files h
lines_step n (Err f) next e first rest h = (n, first e h)

lines_fault : (n : ℕ) (files : List File) (lines : List (List ℕ)) (e : RunFault) → with_lines n files lines ≡ Err e
    → (m : ℕ) × (e ≡ run.Bundle m)
unfolding with_lines
lines_fault n files [] e h = absurd cc
lines_fault n files (line ∷ lines) e h =
    lines_step n (added n files (file_of line)) (λ more. with_lines (n + 1) more lines) e
    (λ f is. added_fault n files (file_of line) f is) (λ more is. lines_fault (n + 1) more lines e is) h

first_fault : (first : Option (List ℕ)) (e : RunFault) → or_first_line first ≡ Err e → e ≡ run.Bundle 1
first_fault None e h = cc
first_fault (Some path) e h = absurd cc

list_fault : (files : List File) (list : Option (List ℕ)) (e : RunFault) → list_in files list ≡ Err e → e ≡ run.Bundle 1
list_fault files None e h = first_fault (first_path files) e h
list_fault files (Some path) e h = absurd cc

-- ---- no bundle

any_known : {A : Type 0} (known : Option A) → IfSome known (λ x. Unit {0})
any_known None = tt
any_known (Some x) = tt

pub memory_ran : (known : Option (Result Answer RunFault)) (failing : Failing) (o : Option (List ℕ))
    → Ran known failing (Err run.Memory) o o
memory_ran known failing o = record {
  written = tt;
  refused = any_known known;
  nothing = λ _. refl;
  front = λ is. absurd cc;
}

input_failed : (known : Option (Result Answer RunFault)) (w : Type 0)
    → IfSome known (λ read. MayRefuse read (failing_bundle w) run.Input)
input_failed None w = tt
input_failed (Some read) w = inl tt

input_ran : (known : Option (Result Answer RunFault)) (w : Type 0) (o : Option (List ℕ))
    → Ran known (failing_bundle w) (Err run.Input) o o
input_ran known w o = record {
  written = tt;
  refused = input_failed known w;
  nothing = λ _. refl;
  front = λ is. absurd cc;
}

line_ran : (known : Option (Result Answer RunFault)) (w : Type 0) (o : Option (List ℕ)) (n : ℕ)
    → known ≡ Some (Err (run.Bundle n)) → Ran known (failing_bundle w) (Err (run.Bundle n)) o o
line_ran known w o n is = subst (λ k. Ran k (failing_bundle w) (Err (run.Bundle n)) o o) (sym is)
    (record { written = tt; refused = refl; nothing = λ _. refl; front = λ is. absurd cc })

-- where standard input gives no bundle, its fault is the answer's
pub no_bundle_ran : (known : Option (Result Answer RunFault)) (text : List ℕ) (w : Type 0) (o : Option (List ℕ))
    → ((e : RunFault) → bundle_of text ≡ Err e → known ≡ Some (Err e))
    → (e : RunFault) → NoBundle text e → Ran known (failing_bundle w) (Err e) o o
no_bundle_ran known text w o passed e (inl h) =
    subst (λ f. Ran known (failing_bundle w) (Err f) o o) (sym h) (input_ran known w o)
no_bundle_ran known text w o passed e (inr (inl h)) =
    subst (λ f. Ran known (failing_bundle w) (Err f) o o) (sym h) (memory_ran known (failing_bundle w) o)
no_bundle_ran known text w o passed e (inr (inr h)) =
    let at = lines_fault 1 [] _ e h in
    subst (λ f. Ran known (failing_bundle w) (Err f) o o) (sym at.1)
    (line_ran known w o at.0 (passed e h ∙ ap (λ (f : RunFault). Some (Err f)) at.1))

pub no_plan : (below : Below) (form : Format) (list : Option (List ℕ)) (text : List ℕ) (e : RunFault)
    → bundle_of text ≡ Err e → list_planned below (lists.Bundle list) form text ≡ Some (Err e)
no_plan below form list text e h = rw h refl

module _ (below : Below) (text : List ℕ) (files : List File) (is : bundle_of text ≡ Ok files) (form : Format)
    (list : Option (List ℕ)) where
  no_list : (e : RunFault) → list_in files list ≡ Err e
      → list_planned below (lists.Bundle list) form text ≡ Some (Err e)
  no_list e h = rw (is, h) refl

  pub list_ran : (w : Type 0) (o : Option (List ℕ)) (e : RunFault) → list_in files list ≡ Err e
      → Ran (list_planned below (lists.Bundle list) form text) (failing_bundle w) (Err e) o o
  list_ran w o e h =
      let first = list_fault files list e h in
      let none : list_planned below (lists.Bundle list) form text ≡ Some (Err (run.Bundle 1))
      = no_list e h ∙ ap (λ (f : RunFault). Some (Err f)) first in
      subst (λ f. Ran (list_planned below (lists.Bundle list) form text) (failing_bundle w) (Err f) o o) (sym first)
      (line_ran (list_planned below (lists.Bundle list) form text) w o 1 none)

  pub plan_from : (path : List ℕ) → list_in files list ≡ Ok path
      → list_planned below (lists.Bundle list) form text ≡ Some (list_plan_in form (λ p. bytes_at files p) path)
  plan_from path h = rw (is, h) refl

-- before anything was read: any text may be what was left
abbrev pub left_of : Option (List ℕ) → List ℕ
left_of None = []
left_of (Some text) = text

pub is_left : (known : Option (List ℕ)) → IsInput known (left_of known)
is_left None = tt
is_left (Some text) = refl

-- the words are refused
pub words_ran : (w : Type 0) (o : Option (List ℕ)) (e : RunFault) → IsWordsFault e
    → Ran (Some (Err e)) (failing_unread w) (Err e) o o
words_ran w o e (inl h) = subst (λ f. Ran (Some (Err f)) (failing_unread w) (Err f) o o) (sym h)
    (record { written = tt; refused = tt; nothing = λ _. refl; front = λ is. absurd cc })
words_ran w o e (inr h) = subst (λ f. Ran (Some (Err f)) (failing_unread w) (Err f) o o) (sym h.1)
    (record { written = tt; refused = refl; nothing = λ _. refl; front = λ is. absurd cc })

-- where no answer is known
pub untold_ran : (failing : Failing) (r : Result Unit RunFault) (o o' : Option (List ℕ))
    → IfErr r (λ fault. fault ≢ run.Write → o' ≡ o) → Ran None failing r o o'
untold_ran failing (Ok x) o o' h = record { written = tt; refused = tt; nothing = tt; front = λ is. tt }
untold_ran failing (Err e) o o' h = record { written = tt; refused = tt; nothing = h; front = λ is. tt }

pub untold_count_ran : (failing : Failing) (r : Result ℕ RunFault) (o o' : Option (List ℕ))
    → IfErr r (λ fault. fault ≢ run.Write → o' ≡ o) → Ran None failing (ended r) o o'
untold_count_ran failing (Ok x) o o' h = record { written = tt; refused = tt; nothing = tt; front = λ is. tt }
untold_count_ran failing (Err e) o o' h = record { written = tt; refused = tt; nothing = h; front = λ is. tt }

-- an answer that is the same
pub known_ran : (known told : Option (Result Answer RunFault)) (failing : Failing) (r : Result Unit RunFault)
    (o o' : Option (List ℕ)) → known ≡ told → Ran told failing r o o' → Ran known failing r o o'
known_ran known told failing r o o' is h = subst (λ k. Ran k failing r o o') (sym is) h

-- ---- a number of findings

-- a command that tells of no findings ran as it ran
pub ran_as : (known : Option (Result Answer RunFault)) (failing : Failing) (r : Result Unit RunFault)
    (counted : Result ℕ RunFault) (o o' : Option (List ℕ)) → ended counted ≡ r → Ran known failing r o o'
    → Ran known failing (ended counted) o o'
ran_as known failing r counted o o' is h = subst (λ x. Ran known failing x o o') (sym is) h

pub on_ok_as : (P : Type 0) (r : Result Unit RunFault) (counted : Result ℕ RunFault) → ended counted ≡ r → OnOk r P
    → OnOk counted P
on_ok_as P r (Ok n) is h = subst (λ x. OnOk x P) (sym is) h
on_ok_as P r (Err e) is h = tt
