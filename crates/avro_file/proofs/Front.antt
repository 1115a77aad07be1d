-- An object whose end was found is passed as next passes it.
use Rattle.std.proofs.Common.{◌≡◌, ◌≢◌, ℕ, ◌-◌, List, length, take, drop, Option, Some, None, Ok, refl}
use Rattle.avro_file_parts.specs.declared.refusal.Refusal.{Refusal}
use Rattle.avro_schema.specs.Tree.{Tree}
use Rattle.avro_file.specs.Value.{Value}
use Rattle.avro_file.specs.Reading.{datum_at}
use Rattle.avro_file.specs.Ending.{EndsCounted}
use Rattle.avro_file.specs.Blocks.{max_items, object_at, Run, preceded, FilePosition, run_from, StandsAt}
use Rattle.avro_file.specs.Files.{ahead_of, Next}
use Rattle.avro_file.proofs.Behind.{behind_ok}
use Rattle.avro_file.proofs.Heads.{object_comes}
use Rattle.avro_file.proofs.Places.{object_passed}

pub passed_front : (s : Tree) (sync : List ℕ) (total : ℕ) (p : FilePosition) (bytes : List ℕ) (end left : ℕ)
    → p.count ≢ 0 → p.block ≡ bytes → EndsCounted (datum_at s) bytes 0 max_items end left
    → (v : Value) × StandsAt s p.block v × (run_from s sync total p ≡ preceded v (run_from s sync total (record {
      count = p.count - 1;
      block = take (length p.block - end) (drop end p.block);
      bytes = p.bytes;
    })))
passed_front s sync total p bytes end left some is e =
    let ends : EndsCounted (datum_at s) p.block 0 max_items end left = rw is e in
    let rest = take (length p.block - end) (drop end p.block) in
    let v = behind_ok (object_at s p.block) rest (object_passed s p.block end left ends) in
    (v.0, (rest, v.1), object_comes s sync total p v.0 rest some v.1)

pub comes_next : {X : Type 0} (P : X → Value → Type 0) (total : ℕ) (refused : Option Refusal) (r more : Run) (v : Value)
    (x : X) → refused ≡ None → r ≡ preceded v more → P x v
    → Next P (ahead_of total refused r) (Ok (Some x)) (ahead_of total refused more)
comes_next P total refused r more v x is e shows = rw (is, e) (v, more.found, shows, refl, refl)
