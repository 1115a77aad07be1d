-- The lines of a plan, read back.
use Rattle.std.proofs.Common.{rules, ◌≡◌, ℕ, List, [], ◌∷◌, ◌++◌, length, map, refl, sym, ap, ◌∙◌, append_assoc}
use Rattle.std.proofs.Common.{append-nil}
use Rattle.std.specs.Prelude.{codes, sum_by}
use Rattle.std.specs.List.{AllByRecursion, join_with_byte, flat_map}
use Rattle.std.specs.Fmt.{decimal, signed_decimal}
use Rattle.ice_manifest_reading.specs.declared.entry.Entry.{Entry}
use Rattle.ice_state.specs.Lines.{OwnedLine}
use Rattle.icescan_print.specs.Escaping.{escaped}
use Rattle.icescan_print.specs.PlanTexts.{ids_text, file_text, position_text, equality_text, line_text, deletes_of}
use Rattle.icescan_print.specs.PlanTexts.{totals_text}
use Rattle.icescan_print.specs.PlanTexts.{plan_text}
use Rattle.icescan_print.proofs.Escapes.{back}
use Rattle.icescan_print_laws.specs.PlanTold.{Told, ToldLine, parts, path_told, told_before, told_of, told, file_of}
use Rattle.icescan_print_laws.specs.PlanTold.{position_of, equality_of}
use Rattle.icescan_print_laws.specs.PlanTold.{line_of, FitsEntry, FitsLine}
use Rattle.icescan_print_laws.proofs.Words.{IsWord, words_joined, line_first}
use Rattle.icescan_print_laws.proofs.Numbers.{path_word, decimal_word, signed_word, number_back, signed_back, ids_back}
use Rattle.icescan_print_laws.proofs.Numbers.{ids_word}

-- a first line of these words
first_line : (w : List ℕ) (ws : List (List ℕ)) (rest : List ℕ) → AllByRecursion IsWord (w ∷ ws)
    → told_of (parts 10 (join_with_byte 32 (w ∷ ws) ++ 10 ∷ rest)) ≡ told_before (w ∷ ws) (told_of (parts 10 rest))
first_line w ws rest h =
    ap told_of (line_first w ws rest h)
    ∙ ap (λ l. told_before l (told_of (parts 10 rest))) (words_joined w ws h)

path_back : (path : List ℕ) → path_told (escaped path) ≡ path
path_back path = rw (back path) refl

-- ---- data files

abbrev file_words : Entry → List (List ℕ)
file_words x =
    escaped x.file.path ∷ codes "seq" ∷ decimal x.sequence_number ∷ codes "spec" ∷ signed_decimal x.spec_id
    ∷ codes "rows" ∷ signed_decimal x.file.record_count ∷ codes "size" ∷ signed_decimal x.file.file_size ∷ []

are_file_words : (x : Entry) → AllByRecursion IsWord (codes "data" ∷ file_words x)
are_file_words x = search (rules, path_word, decimal_word, signed_word) depth 40

-- texts and joined words, each grouped to the right
file_grouped : (a p b q c r d s e t rest : List ℕ)
    → (((a ++ p) ++ (b ++ q)) ++ ((c ++ r) ++ (((d ++ s) ++ (e ++ t)) ++ 10 ∷ []))) ++ rest
    ≡ a ++ (p ++ (b ++ (q ++ (c ++ (r ++ (d ++ (s ++ (e ++ (t ++ 10 ∷ rest)))))))))
file_grouped a p b q c r d s e t rest = simp append_assoc

joined_grouped : (a p b q c r d s e t rest : List ℕ)
    → join_with_byte 32 (a ∷ p ∷ b ∷ q ∷ c ∷ r ∷ d ∷ s ∷ e ∷ t ∷ []) ++ 10 ∷ rest
    ≡ a ++ 32 ∷ (p ++ 32 ∷ (b ++ 32 ∷ (q ++ 32 ∷ (c ++ 32 ∷ (r ++ 32 ∷ (d ++ 32 ∷ (s ++ 32 ∷ (e
    ++ 32 ∷ (t ++ 10 ∷ rest)))))))))
joined_grouped a p b q c r d s e t rest = simp append_assoc

file_joined : (x : Entry) (rest : List ℕ) → file_text x ++ rest
    ≡ join_with_byte 32 (codes "data" ∷ file_words x) ++ 10 ∷ rest
unfolding file_text
file_joined x rest =
    file_grouped (codes "data ") (escaped x.file.path) (codes " seq ") (decimal x.sequence_number) (codes " spec ")
    (signed_decimal x.spec_id) (codes " rows ") (signed_decimal x.file.record_count) (codes " size ")
    (signed_decimal x.file.file_size) rest
    ∙ sym (joined_grouped (codes "data") (escaped x.file.path) (codes "seq") (decimal x.sequence_number) (codes "spec")
    (signed_decimal x.spec_id) (codes "rows") (signed_decimal x.file.record_count) (codes "size")
    (signed_decimal x.file.file_size) rest)

pub file_first : (x : Entry) (rest : List ℕ) → FitsEntry x → told_of (parts 10 (file_text x ++ rest))
    ≡ (let below = told_of (parts 10 rest) in record {
      positions = [];
      equalities = [];
      lines = record { file = file_of x; positions = below.positions; equalities = below.equalities } ∷ below.lines;
    })
file_first x rest h =
    ap (λ t. told_of (parts 10 t)) (file_joined x rest)
    ∙ first_line (codes "data") (file_words x) rest (are_file_words x)
    ∙ rw (
      path_back x.file.path,
      number_back x.sequence_number h.number,
      signed_back x.spec_id h.spec,
      signed_back x.file.record_count h.rows,
      signed_back x.file.file_size h.size,
    ) refl

-- ---- position delete files

position_grouped : (a p b q rest : List ℕ) → (((a ++ p) ++ (b ++ q)) ++ 10 ∷ []) ++ rest
    ≡ a ++ (p ++ (b ++ (q ++ 10 ∷ rest)))
position_grouped a p b q rest = simp append_assoc

position_words_grouped : (a p b q rest : List ℕ)
    → join_with_byte 32 ([] ∷ [] ∷ a ∷ p ∷ b ∷ q ∷ []) ++ 10 ∷ rest
    ≡ 32 ∷ 32 ∷ (a ++ 32 ∷ (p ++ 32 ∷ (b ++ 32 ∷ (q ++ 10 ∷ rest))))
position_words_grouped a p b q rest = simp append_assoc

abbrev position_words : Entry → List (List ℕ)
position_words d = [] ∷ codes "pos" ∷ escaped d.file.path ∷ codes "seq" ∷ decimal d.sequence_number ∷ []

position_joined : (d : Entry) (rest : List ℕ) → position_text d ++ rest
    ≡ join_with_byte 32 ([] ∷ position_words d) ++ 10 ∷ rest
unfolding position_text
position_joined d rest =
    position_grouped (codes "  pos ") (escaped d.file.path) (codes " seq ") (decimal d.sequence_number) rest
    ∙ sym (position_words_grouped (codes "pos") (escaped d.file.path) (codes "seq") (decimal d.sequence_number) rest)

position_first : (d : Entry) (rest : List ℕ) → FitsEntry d → told_of (parts 10 (position_text d ++ rest))
    ≡ (let below = told_of (parts 10 rest) in record below { positions = position_of d ∷ below.positions })
position_first d rest h =
    ap (λ t. told_of (parts 10 t)) (position_joined d rest)
    ∙ first_line [] (position_words d) rest (search (rules, path_word, decimal_word) depth 40)
    ∙ rw (path_back d.file.path, number_back d.sequence_number h.number) refl

positions_first : (ds : List Entry) (rest : List ℕ) → AllByRecursion FitsEntry ds
    → told_of (parts 10 (flat_map position_text ds ++ rest))
    ≡ (let below = told_of (parts 10 rest) in record below { positions = map position_of ds ++ below.positions })
positions_first [] rest h = refl
positions_first (d ∷ ds) rest h =
    rw (append_assoc, position_first d (flat_map position_text ds ++ rest) h.0, positions_first ds rest h.1) refl

-- ---- equality delete files

equality_grouped : (a p b q c i rest : List ℕ) → (((a ++ p) ++ (b ++ q)) ++ (c ++ (i ++ 10 ∷ []))) ++ rest
    ≡ a ++ (p ++ (b ++ (q ++ (c ++ (i ++ 10 ∷ rest)))))
equality_grouped a p b q c i rest = simp append_assoc

equality_words_grouped : (a p b q c i rest : List ℕ)
    → join_with_byte 32 ([] ∷ [] ∷ a ∷ p ∷ b ∷ q ∷ c ∷ i ∷ []) ++ 10 ∷ rest
    ≡ 32 ∷ 32 ∷ (a ++ 32 ∷ (p ++ 32 ∷ (b ++ 32 ∷ (q ++ 32 ∷ (c ++ 32 ∷ (i ++ 10 ∷ rest))))))
equality_words_grouped a p b q c i rest = simp append_assoc

abbrev equality_words : Entry → List (List ℕ)
equality_words d =
    [] ∷ codes "eq" ∷ escaped d.file.path ∷ codes "seq" ∷ decimal d.sequence_number ∷ codes "ids"
    ∷ ids_text d.file.equality_ids ∷ []

equality_joined : (d : Entry) (rest : List ℕ) → equality_text d ++ rest
    ≡ join_with_byte 32 ([] ∷ equality_words d) ++ 10 ∷ rest
unfolding equality_text
equality_joined d rest =
    equality_grouped (codes "  eq ") (escaped d.file.path) (codes " seq ") (decimal d.sequence_number) (codes " ids ")
    (ids_text d.file.equality_ids) rest
    ∙ sym (equality_words_grouped (codes "eq") (escaped d.file.path) (codes "seq") (decimal d.sequence_number)
    (codes "ids") (ids_text d.file.equality_ids) rest)

equality_first : (d : Entry) (rest : List ℕ) → FitsEntry d → told_of (parts 10 (equality_text d ++ rest))
    ≡ (let below = told_of (parts 10 rest) in record below { equalities = equality_of d ∷ below.equalities })
equality_first d rest h =
    ap (λ t. told_of (parts 10 t)) (equality_joined d rest)
    ∙ first_line [] (equality_words d) rest (search (rules, path_word, decimal_word, ids_word) depth 40)
    ∙ rw (path_back d.file.path, number_back d.sequence_number h.number, ids_back d.file.equality_ids h.ids) refl

equalities_first : (ds : List Entry) (rest : List ℕ) → AllByRecursion FitsEntry ds
    → told_of (parts 10 (flat_map equality_text ds ++ rest))
    ≡ (let below = told_of (parts 10 rest) in record below { equalities = map equality_of ds ++ below.equalities })
equalities_first [] rest h = refl
equalities_first (d ∷ ds) rest h =
    rw (append_assoc, equality_first d (flat_map equality_text ds ++ rest) h.0, equalities_first ds rest h.1) refl

-- ---- whole plans

abbrev nothing_told : Told
nothing_told = record { positions = []; equalities = []; lines = [] }

line_first_told : (l : OwnedLine) (rest : List ℕ) (lines : List ToldLine) → FitsLine l
    → told_of (parts 10 rest) ≡ record { positions = []; equalities = []; lines = lines }
    → told_of (parts 10 (line_text l ++ rest)) ≡ record { positions = []; equalities = []; lines = line_of l ∷ lines }
unfolding line_text
line_first_told l rest lines h below =
    let eqs = flat_map equality_text l.equalities in
    let poss = flat_map position_text l.positions in
    ap (λ t. told_of (parts 10 t)) (grouped (file_text l.file) poss eqs rest)
    ∙ file_first l.file (poss ++ (eqs ++ rest)) h.file
    ∙ rw (
      positions_first l.positions (eqs ++ rest) h.positions,
      equalities_first l.equalities rest h.equalities,
      below,
      append-nil (map position_of l.positions),
      append-nil (map equality_of l.equalities),
    ) refl
  where
    grouped : (a b c d : List ℕ) → (a ++ (b ++ c)) ++ d ≡ a ++ (b ++ (c ++ d))
    grouped a b c d = simp append_assoc

-- the last line tells nothing
totals_grouped : (a n b m : List ℕ) → (a ++ n) ++ ((b ++ m) ++ 10 ∷ []) ≡ a ++ (n ++ (b ++ (m ++ 10 ∷ [])))
totals_grouped a n b m = simp append_assoc

totals_words_grouped : (a n b m : List ℕ) → join_with_byte 32 (a ∷ n ∷ b ∷ m ∷ []) ++ 10 ∷ []
    ≡ a ++ 32 ∷ (n ++ 32 ∷ (b ++ 32 ∷ (m ++ 10 ∷ [])))
totals_words_grouped a n b m = simp append_assoc

totals_told : (plan : List OwnedLine) → told_of (parts 10 (totals_text plan)) ≡ nothing_told
unfolding totals_text
totals_told plan =
    let n = length plan in
    let m = sum_by deletes_of plan in
    ap (λ t. told_of (parts 10 t)) (totals_grouped (codes "files ") (decimal n) (codes " deletes ") (decimal m)
    ∙ sym (totals_words_grouped (codes "files") (decimal n) (codes "deletes") (decimal m)))
    ∙ first_line (codes "files") (decimal n ∷ codes "deletes" ∷ decimal m ∷ []) []
    (search (rules, decimal_word) depth 40)

lines_told : (plan : List OwnedLine) (last : List ℕ) → AllByRecursion FitsLine plan
    → told_of (parts 10 last) ≡ nothing_told
    → told_of (parts 10 (flat_map line_text plan ++ last))
    ≡ record { positions = []; equalities = []; lines = map line_of plan }
lines_told [] last h e = e
lines_told (l ∷ plan) last h e =
    let below = lines_told plan last h.1 e in
    rw append_assoc (line_first_told l (flat_map line_text plan ++ last) (map line_of plan) h.0 below)

-- what the text of a plan tells is the plan
pub plan_told : (plan : List OwnedLine) → AllByRecursion FitsLine plan → told (plan_text plan) ≡ map line_of plan
unfolding plan_text
plan_told plan h = ap (λ (t : Told). t.lines) (lines_told plan (totals_text plan) h (totals_told plan))
