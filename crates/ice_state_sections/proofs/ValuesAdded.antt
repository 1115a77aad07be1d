-- What is said of data files reads back where it was put.
use Rattle.std.proofs.Common.{◌≡◌, ◌≤◌, ℕ, ℤ, List, [], ◌++◌, length, take, drop, append_assoc, Ok, Option, refl, ap}
use Rattle.std.proofs.Common.{◌∙◌, true, leb}
use Rattle.std.proofs.Common.{◌<◌, ◌+◌, ◌-◌, suc, ◌∷◌, get_or, arith, sym}
use Rattle.std.proofs.Math.Seq.{drop-cons}
use Rattle.std.proofs.lemmas.List.{take-append-drop, drop-drop, length-drop}
use Rattle.std.proofs.lemmas.Bool.{le-leb}
use Rattle.ice_value.specs.declared.cell.Cell.{Cell}
use Rattle.ice_value.specs.declared.file_content.FileContent.{FileContent}
use Rattle.ice_value.specs.declared.file_format.FileFormat.{FileFormat}
use Rattle.ice_state_sections.specs.Parts.{Read, number, run, int, behind}
use Rattle.ice_state_sections.specs.Values.{content, content_of, format, format_of, path, cell, cell_of, ids}
use Rattle.ice_state_sections.specs.Written.{Adds}
use Rattle.ice_state_sections.proofs.Added.{kind_alone, kind_with, then}

pub content_added : (code : ℕ) (x : FileContent) (a b : List ℕ) → ((s : List ℕ) → content_of code s ≡ Ok (x, s))
    → Adds number code a b → Adds content x a b
unfolding content
content_added code x a b k p = kind_alone content content_of code x a b (λ s. refl) k p

pub format_added : (code : ℕ) (x : Option FileFormat) (a b : List ℕ) → ((s : List ℕ) → format_of code s ≡ Ok (x, s))
    → Adds number code a b → Adds format x a b
unfolding format
format_added code x a b k p = kind_alone format format_of code x a b (λ s. refl) k p

pub cell_alone : (code : ℕ) (x : Cell) (a b : List ℕ) → ((s : List ℕ) → cell_of code s ≡ Ok (x, s))
    → Adds number code a b → Adds cell x a b
unfolding cell
cell_alone code x a b k p = kind_alone cell cell_of code x a b (λ s. refl) k p

pub cell_with : {A : Type 0} (code : ℕ) (read : List ℕ → Read A) (x : A) (y : Cell) (a b c : List ℕ)
    → ((s rest : List ℕ) → read s ≡ Ok (x, rest) → cell_of code s ≡ Ok (y, rest))
    → Adds number code a b → Adds read x b c → Adds cell y a c
unfolding cell
cell_with code read x y a b c k p q = kind_with cell cell_of code read x y a b c (λ s. refl) k p q

-- one byte more that both end in
pub back_more : (xs ys : List ℕ) (i : ℕ) (d : ℕ) → i < length xs → i < length ys
    → drop (length xs - i) xs ≡ drop (length ys - i) ys
    → get_or xs (length xs - 1 - i) d ≡ get_or ys (length ys - 1 - i) d
    → drop (length xs - (i + 1)) xs ≡ drop (length ys - (i + 1)) ys
back_more xs ys i d lx ly so_far here =
    let x = drop-cons xs (length xs - 1 - i) d (omega arith) in
    let y = drop-cons ys (length ys - 1 - i) d (omega arith) in
    let x_on : length xs - (i + 1) ≡ length xs - 1 - i = omega arith in
    let y_on : length ys - (i + 1) ≡ length ys - 1 - i = omega arith in
    let x_next : suc (length xs - 1 - i) ≡ length xs - i = omega arith in
    let y_next : suc (length ys - 1 - i) ≡ length ys - i = omega arith in
    let both : drop (suc (length xs - 1 - i)) xs ≡ drop (suc (length ys - 1 - i)) ys =
    ap (λ (k : ℕ). drop k xs) x_next ∙ so_far ∙ ap (λ (k : ℕ). drop k ys) (sym y_next) in
    ap (λ (k : ℕ). drop k xs) x_on ∙ x ∙ ap (λ (b : ℕ). b ∷ drop (suc (length xs - 1 - i)) xs) here
    ∙ ap (λ (l : List ℕ). get_or ys (length ys - 1 - i) d ∷ l) both ∙ sym y ∙ ap (λ (k : ℕ). drop k ys) (sym y_on)

pub path_added : (known p : List ℕ) (n m : ℕ) (a b c d : List ℕ) → n ≤ length known → take n known ≡ take n p
    → m ≤ length (drop n known)
    → drop (length (drop n known) - m) (drop n known) ≡ drop (length (drop n p) - m) (drop n p)
    → Adds number n a b → Adds number m b c → Adds run (take (length (drop n p) - m) (drop n p)) c d
    → Adds (path known) p a d
unfolding path
path_added known p n m a b c d le front lm back h g k =
    let s = h.puts.0 in
    let t = g.puts.0 in
    let u = k.puts.0 in
    let j = length (drop n known) - m in
    let rest = drop n p in
    let own = take (length rest - m) rest in
    let at : n + j ≡ length known - m = omega (arith, length-drop n known) in
    let tail : drop (length known - m) known ≡ drop (length rest - m) rest =
    ap (λ (i : ℕ). drop i known) (sym at) ∙ sym (drop-drop j n known) ∙ back in
    let whole : take n known ++ own ++ drop (length known - m) known ≡ p =
    ap (λ (w : List ℕ). w ++ own ++ drop (length known - m) known) front
    ∙ ap (λ (w : List ℕ). take n p ++ own ++ w) tail
    ∙ append_assoc (take n p) own (drop (length rest - m) rest)
    ∙ ap (λ (w : List ℕ). take n p ++ w) (take-append-drop (length rest - m) rest) ∙ take-append-drop n p in
    let front_fits : leb n (length known) ≡ true = le-leb _ _ le in
    let back_fits : leb m (length known) ≡ true = le-leb _ _ (omega (arith, length-drop n known)) in
    let regroup : ((a ++ s) ++ t) ++ u ≡ a ++ (s ++ (t ++ u)) = simp append_assoc in
    let last : d ≡ a ++ (s ++ (t ++ u)) = k.puts.1
    ∙ ap (λ (w : List ℕ). w ++ u) (g.puts.1 ∙ ap (λ (w : List ℕ). w ++ t) h.puts.1) ∙ regroup in
    let in_order : (more : List ℕ) → (s ++ (t ++ u)) ++ more ≡ s ++ (t ++ (u ++ more)) = λ more. simp append_assoc in
    record {
      puts = (
        s ++ (t ++ u),
        last,
        λ more. ap (path known) (in_order more)
            ∙ rw (h.puts.2 (t ++ (u ++ more)), g.puts.2 (u ++ more), k.puts.2 more, front_fits, back_fits, whole) refl,
      );
    }

pub ids_added : (xs : List ℤ) (a b c : List ℕ) → Adds number (length xs) a b
    → Adds (behind (λ _. int) (length xs) []) xs b c
    → Adds ids xs a c
unfolding ids
ids_added xs a b c p q = then (λ count. behind (λ _. int) count.0 [] count.1) p q
