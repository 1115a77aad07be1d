-- Reading the objects of a file one after the other, after those that were read before.
use Rattle.std.proofs.Common.{◌≡◌, ℕ, ◌+◌, ◌<◌, List, [], ◌∷◌, ◌++◌, Option, Some, None, Result, Ok, Err, refl, sym}
use Rattle.std.proofs.Common.{arith}
use Rattle.std.specs.List.{enumerate_from}
use Rattle.std.proofs.lemmas.List.{append-nil}
use Rattle.contract_words.specs.Outcome.{◌>>=◌}
use Rattle.avro_schema.specs.Tree.{Fields}
use Rattle.avro_file.specs.declared.fault.AvroFault.{AvroFault}
use Rattle.avro_file.specs.declared.object.Object.{Object}
use Rattle.avro_file.specs.Value.{Value}
use Rattle.avro_file.specs.Ahead.{Ahead, running, refusing, still_ahead}
use Rattle.avro_file.specs.Files.{Next, Shows}
use Rattle.ice_meta.specs.declared.spec.Spec.{Spec}
use Rattle.ice_manifest_fields.specs.declared.fault.ListFault.{ListFault}
use Rattle.ice_manifest_fields.specs.declared.fault.ManifestFault.{ManifestFault}
use Rattle.ice_manifest_reading.specs.declared.row.Row.{Row}
use Rattle.ice_manifest_reading.specs.declared.entry.Live.{Live}
use Rattle.ice_manifest_fields.specs.Each.{each}
use Rattle.ice_manifest_fields.specs.Naming.{in_list, in_manifest, ended}
use Rattle.ice_manifest_fields.proofs.Joining.{joined, joined_push, joined_err, joined_end}
use Rattle.ice_manifest_reading.specs.Lists.{says_row, rows_ahead}
use Rattle.ice_manifest_reading.specs.Manifests.{says_entry, kept, entries_ahead}

-- ---- the objects of a file

-- the one value that an object shows
abbrev pub Is : Object → Value → Type 0
Is o x = (v : Value) → Shows o v → x ≡ v

pub fewer : (now new : Ahead) (o : Object) → Next Shows now (Ok (Some o)) new → still_ahead new < still_ahead now
unfolding still_ahead
fewer (running vs ending) new o h = rw (h.3, h.4) (omega arith)
fewer (refusing f) new o h = absurd (cc (h.0))

row_more : (front : List Row) (x : Row) (r : Result (List Row) ListFault) (ending : Option AvroFault)
    → joined front ((r >>= λ xs. Ok (x ∷ xs)) >>= ended in_list ending) ≡ joined (front ++ x ∷ [])
    (r >>= ended in_list ending)
row_more front x (Ok xs) None = sym (joined_push front x (Ok xs))
row_more front x (Ok xs) (Some f) = sym (joined_push front x (Err (in_list.of_container f)))
row_more front x (Err e) ending = sym (joined_push front x (Err e))

pub next_row : (fs : Fields) (front : List Row) (now new : Ahead) (o : Object) (x : Value) (row : Row)
    → Next Shows now (Ok (Some o)) new → Is o x → says_row fs x ≡ Ok row
    → joined front (rows_ahead fs now) ≡ joined (front ++ row ∷ []) (rows_ahead fs new)
unfolding rows_ahead each
next_row fs front (running vs ending) new o x row h shown is = rw (h.3, h.4, sym (shown h.0 h.2), is)
    (row_more front row (each (says_row fs) h.1) ending)
next_row fs front (refusing f) new o x row h shown is = absurd (cc (h.0))

pub row_fails : (fs : Fields) (front : List Row) (now new : Ahead) (o : Object) (x : Value) (f : ListFault)
    → Next Shows now (Ok (Some o)) new → Is o x → says_row fs x ≡ Err f → joined front (rows_ahead fs now) ≡ Err f
unfolding rows_ahead each
row_fails fs front (running vs ending) new o x f h shown is = rw (h.3, sym (shown h.0 h.2), is) (joined_err front f)
row_fails fs front (refusing g) new o x f h shown is = absurd (cc (h.0))

pub no_row : (fs : Fields) (front : List Row) (now new : Ahead) (x : Option Object) → Next Shows now (Ok x) new
    → ((o : Object) → x ≡ Some o → ⊥) → joined front (rows_ahead fs now) ≡ Ok front
unfolding rows_ahead each
no_row fs front (running vs ending) new None h none = rw (h.0, h.1) (joined_end front)
no_row fs front (running vs ending) new (Some o) h none = absurd (none o refl)
no_row fs front (refusing f) new x h none = absurd (cc (h.0))

pub rows_end : (fs : Fields) (front : List Row) (now new : Ahead) (f : AvroFault) → Next Shows now (Err f) new
    → joined front (rows_ahead fs now) ≡ Err (in_list.of_container f)
unfolding rows_ahead each
rows_end fs front (running vs ending) new f h = rw (h.0, h.1) (joined_err front (in_list.of_container f))
rows_end fs front (refusing g) new f h = let e : g ≡ f = cc (h.0) in rw e (joined_err front (in_list.of_container f))

entry_more : (front : List Live) (x : Option Live) (r : Result (List (Option Live)) ManifestFault)
    (ending : Option AvroFault)
    → joined front ((r >>= λ xs. Ok (x ∷ xs)) >>= λ read. ended in_manifest ending (kept read)) ≡ joined
    (front ++ kept (x ∷ [])) (r >>= λ read. ended in_manifest ending (kept read))
entry_more front None (Ok xs) ending = rw (append-nil front) refl
entry_more front None (Err e) ending = rw (append-nil front) refl
entry_more front (Some l) (Ok xs) None = sym (joined_push front l (Ok (kept xs)))
entry_more front (Some l) (Ok xs) (Some f) = sym (joined_push front l (Err (in_manifest.of_container f)))
entry_more front (Some l) (Err e) ending = sym (joined_push front l (Err e))

pub next_entry : (row : Row) (spec : Spec) (fs : Fields) (k : ℕ) (front : List Live) (now new : Ahead) (o : Object)
    (v : Value) (x : Option Live) → Next Shows now (Ok (Some o)) new → Is o v → says_entry row spec fs (k, v) ≡ Ok x
    → joined front (entries_ahead row spec fs k now) ≡ joined (front ++ kept (x ∷ [])) (entries_ahead row spec fs
    (k + 1) new)
unfolding entries_ahead each
next_entry row spec fs k front (running vs ending) new o v x h shown is = rw (h.3, h.4, sym (shown h.0 h.2), is)
    (entry_more front x (each (says_entry row spec fs) (enumerate_from (k + 1) h.1)) ending)
next_entry row spec fs k front (refusing f) new o v x h shown is = absurd (cc (h.0))

pub entry_fails : (row : Row) (spec : Spec) (fs : Fields) (k : ℕ) (front : List Live) (now new : Ahead) (o : Object)
    (v : Value) (f : ManifestFault) → Next Shows now (Ok (Some o)) new → Is o v → says_entry row spec fs (k, v) ≡ Err f
    → joined front (entries_ahead row spec fs k now) ≡ Err f
unfolding entries_ahead each
entry_fails row spec fs k front (running vs ending) new o v f h shown is = rw (h.3, sym (shown h.0 h.2), is)
    (joined_err front f)
entry_fails row spec fs k front (refusing g) new o v f h shown is = absurd (cc (h.0))

pub no_entry : (row : Row) (spec : Spec) (fs : Fields) (k : ℕ) (front : List Live) (now new : Ahead) (x : Option Object)
    → Next Shows now (Ok x) new → ((o : Object) → x ≡ Some o → ⊥)
    → joined front (entries_ahead row spec fs k now) ≡ Ok front
unfolding entries_ahead each
no_entry row spec fs k front (running vs ending) new None h none = rw (h.0, h.1) (joined_end front)
no_entry row spec fs k front (running vs ending) new (Some o) h none = absurd (none o refl)
no_entry row spec fs k front (refusing f) new x h none = absurd (cc (h.0))

pub entries_end : (row : Row) (spec : Spec) (fs : Fields) (k : ℕ) (front : List Live) (now new : Ahead) (f : AvroFault)
    → Next Shows now (Err f) new → joined front (entries_ahead row spec fs k now) ≡ Err (in_manifest.of_container f)
unfolding entries_ahead each
entries_end row spec fs k front (running vs ending) new f h = rw (h.0, h.1)
    (joined_err front (in_manifest.of_container f))
entries_end row spec fs k front (refusing g) new f h = let e : g ≡ f = cc (h.0) in
    rw e (joined_err front (in_manifest.of_container f))
