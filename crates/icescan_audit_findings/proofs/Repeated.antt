-- Files whose path the one before has, file by file.
use Rattle.std.proofs.Common.{◌≡◌, ℕ, ◌+◌, ◌-◌, ◌<◌, ◌≤◌, List, [], ◌∷◌, ◌++◌, length, drop, get_or, ap, sym, refl, ◌∙◌}
use Rattle.std.proofs.Common.{append_assoc, arith, length-drop}
use Rattle.ice_manifest_fields.proofs.Steps.{step_of}
use Rattle.icescan_audit_findings.specs.Repeats.{has_path_of, repeat_where, repeats_behind, repeats_in}
use Rattle.icescan_audit_findings.specs.declared.finding.Finding.{Finding}
use Rattle.icescan_audit_findings.specs.declared.repeats.LiveFile.{LiveFile}

-- a file, the next one, and those behind
repeats_more : (files : List LiveFile) (i : ℕ) (x y : LiveFile) → i + 1 < length files → x ≡ get_or files i x
    → y ≡ get_or files (i + 1) y → repeats_in (drop i files)
    ≡ repeat_where (has_path_of x y) y ++ repeats_in (drop (i + 1) files)
repeats_more files i x y lt is next_is =
    let here = step_of files i x (omega arith) is in
    let next = step_of files (i + 1) y lt next_is in
    ap repeats_in here ∙ ap (λ ys. repeats_behind x ys) next
    ∙ ap (λ zs. repeat_where (has_path_of x y) y ++ zs) (sym (ap repeats_in next))

-- one more file was looked at
pub repeats_kept : (files : List LiveFile) (i : ℕ) (x y : LiveFile) (found more all : List Finding) → 1 ≤ i
    → i < length files → x ≡ get_or files (i - 1) x → y ≡ get_or files i y
    → more ≡ found ++ repeat_where (has_path_of x y) y → found ++ repeats_in (drop (i - 1) files) ≡ all
    → more ++ repeats_in (drop ((i + 1) - 1) files) ≡ all
repeats_kept files i x y found more all low lt is next_is put h =
    let one : i ≡ (i - 1) + 1 = omega arith in
    let back : (i + 1) - 1 ≡ (i - 1) + 1 = omega arith in
    let there = repeats_more files (i - 1) x y (omega arith) is (next_is ∙ ap (λ n. get_or files n y) one) in
    rw (put, back, append_assoc, ← there) h

-- of one file at most none has the path of the one before
short : (files : List LiveFile) → length files ≤ 1 → repeats_in files ≡ []
short [] h = refl
short (x ∷ []) h = refl
short (x ∷ y ∷ files) h = absurd (omega (arith, h))

pub repeats_end : (files : List LiveFile) (i : ℕ) → length files ≤ i → repeats_in (drop (i - 1) files) ≡ []
repeats_end files i past = short (drop (i - 1) files) (omega (arith, length-drop (i - 1) files))
