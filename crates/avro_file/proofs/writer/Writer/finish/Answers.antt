use Rattle.std.proofs.Common.{◌≡◌, ◌<◌, ◌^◌, ◌++◌, List, ℕ, Vec, Global, length, Ok, sym, ap, ◌∙◌, arith}
use Rattle.avro_file.specs.Files.{HoldsFile, opened_at, reader_of}
use Rattle.avro_file.specs.Writing.{file_bytes}
use Rattle.avro_file.specs.Writers.{HasMetadata, WasGiven, WillWrite}
use Rattle.avro_file.proofs.Opened.{file_read}
use Rattle.avro_file.proofs.Filed.{empty_file, header_alone, file_written, chained, whole_file}
use Rattle.avro_file.proofs.Filed.{behind_header, has_metadata, if_ok}
use Rattle.avro_file.proofs.writer.Writer.finish.Goals as goal

fits : (v : Vec ℕ Global) → length v.items < 2 ^ 63
fits v = omega (arith, v.ok, v.small)

pub returns-then-count-eq0-clause-holds : goal.returns-then-count-eq0-clause-holds
unfolding WasGiven WillWrite
returns-then-count-eq0-clause-holds c = λ ps s vs was are. empty_file ps s c.args.self.sync c.args.self.header.items vs
    was.0 (sym was.1 ∙ c.if-count-eq0.true)

pub returns-then-count-eq0-clause-read_back : goal.returns-then-count-eq0-clause-read_back
unfolding WasGiven WillWrite
returns-then-count-eq0-clause-read_back c = λ ps s vs was are few. file_read s vs c.args.self.header.items
    (omega (arith, fits c.args.self.header)) (returns-then-count-eq0-clause-holds c ps s vs was are)
    few

pub returns-clause-holds : goal.returns-clause-holds
unfolding WasGiven WillWrite
returns-clause-holds c = λ ps s vs was are.
    if_ok _ (λ (all : Vec ℕ Global). HoldsFile s vs all.items) c.push_raw-2.result (λ all e.
    whole_file ps s c.args.self.sync c.args.self.header.items c.args.self.content.items all.items c.args.self.count _ vs
    was.0 was.1 was.2 (omega (arith, c.len.ensures, c.args.self.content.ok))
    (omega (arith, c.len.ensures, c.args.self.content.ok, c.args.self.content.small)) was.3 was.4 are
    (chained c.args.self.header.items _ _ c.args.self.content.items c.args.self.sync c.in_ok-bytes.bytes.items
    c.in_ok-bytes-2.bytes.items c.in_ok-bytes-3.bytes.items all.items c.in_ok-bytes.ensures c.in_ok-bytes-2.ensures
    (c.in_ok-bytes-3.ensures ∙ ap (λ (t : List ℕ). c.in_ok-bytes-2.bytes.items ++ t) c.deref.ensures.value) e))
    c.push_raw-2.ensures

pub returns-clause-metadata : goal.returns-clause-metadata
unfolding WasGiven WillWrite
returns-clause-metadata c = λ ps s vs was.
    if_ok _ (λ (all : Vec ℕ Global). HasMetadata ps all.items) c.push_raw-2.result (λ all e.
    has_metadata ps s c.args.self.sync c.args.self.header.items _ all.items was.0
    (behind_header c.args.self.header.items _ _ c.args.self.content.items c.args.self.sync all.items
    (chained c.args.self.header.items _ _ c.args.self.content.items c.args.self.sync c.in_ok-bytes.bytes.items
    c.in_ok-bytes-2.bytes.items c.in_ok-bytes-3.bytes.items all.items c.in_ok-bytes.ensures c.in_ok-bytes-2.ensures
    (c.in_ok-bytes-3.ensures ∙ ap (λ (t : List ℕ). c.in_ok-bytes-2.bytes.items ++ t) c.deref.ensures.value) e)))
    c.push_raw-2.ensures

pub returns-clause-read_back : goal.returns-clause-read_back
unfolding WasGiven WillWrite
returns-clause-read_back c = λ ps s vs was are few.
    if_ok (λ (all : Vec ℕ Global). HoldsFile s vs all.items) (λ (all : Vec ℕ Global). opened_at all.items ≡ Ok
    (reader_of s vs)) c.push_raw-2.result (λ all held.
    file_read s vs all.items (omega (arith, fits all)) held few) (returns-clause-holds c ps s vs
    was are)

pub returns-then-count-eq0-clause-exact : goal.returns-then-count-eq0-clause-exact
unfolding WasGiven WillWrite
returns-then-count-eq0-clause-exact c = λ ps sync vs was. header_alone ps sync vs c.args.self.header.items was.0
    (sym was.2 ∙ c.if-count-eq0.true)

pub returns-clause-exact : goal.returns-clause-exact
unfolding WasGiven WillWrite
returns-clause-exact c = λ ps sync vs was.
    if_ok _ (λ (all : Vec ℕ Global). all.items ≡ file_bytes ps sync vs) c.push_raw-2.result (λ all e.
    file_written ps sync vs c.args.self.header.items c.args.self.sync c.args.self.content.items all.items
    c.args.self.count _ was.0 was.1 was.2 was.3 (omega (arith, c.if-count-eq0.false)) (omega (arith, c.len.ensures))
    (chained c.args.self.header.items _ _ c.args.self.content.items c.args.self.sync c.in_ok-bytes.bytes.items
    c.in_ok-bytes-2.bytes.items c.in_ok-bytes-3.bytes.items all.items c.in_ok-bytes.ensures c.in_ok-bytes-2.ensures
    (c.in_ok-bytes-3.ensures ∙ ap (λ (t : List ℕ). c.in_ok-bytes-2.bytes.items ++ t) c.deref.ensures.value) e))
    c.push_raw-2.ensures
