-- Reading so many values one behind the other, as a loop does.
use Rattle.std.proofs.Common.{◌≡◌, ℕ, suc, ◌-◌, ◌+◌, ◌≤◌, ◌<◌, List, [], ◌∷◌, ◌++◌, Ok, Err, refl, sym, ◌∙◌, arith}
use Rattle.ice_state_sections.specs.declared.section_fault.SectionFault.{SectionFault}
use Rattle.ice_state_sections.specs.Parts.{Read, behind}

pub goes_on : {A : Type 0} (read : List A → List ℕ → Read A) (front : List A) (count i : ℕ) (bytes : List ℕ) (x : A)
    (after : List ℕ) (total : Read (List A)) → i < count → read front bytes ≡ Ok (x, after)
    → behind read (count - i) front bytes ≡ total → behind read (count - (i + 1)) (front ++ x ∷ []) after ≡ total
unfolding behind
goes_on read front count i bytes x after total lt h so_far =
    let k : count - i ≡ suc (count - (i + 1)) = omega arith in
    let one : behind read (count - i) front bytes ≡ behind read (count - (i + 1)) (front ++ x ∷ []) after =
    rw (k, h) refl in
    sym one ∙ so_far

pub ends : {A : Type 0} (read : List A → List ℕ → Read A) (front : List A) (count i : ℕ) (bytes : List ℕ)
    (e : SectionFault) (total : Read (List A)) → i < count → read front bytes ≡ Err e
    → behind read (count - i) front bytes ≡ total → total ≡ Err e
unfolding behind
ends read front count i bytes e total lt h so_far =
    let k : count - i ≡ suc (count - (i + 1)) = omega arith in
    let one : behind read (count - i) front bytes ≡ Err e = rw (k, h) refl in
    sym so_far ∙ one

pub is_done : {A : Type 0} (read : List A → List ℕ → Read A) (front : List A) (count i : ℕ) (bytes : List ℕ)
    (total : Read (List A)) → count ≤ i → behind read (count - i) front bytes ≡ total → total ≡ Ok (front, bytes)
unfolding behind
is_done read front count i bytes total le so_far =
    let k : count - i ≡ 0 = omega arith in
    let one : behind read (count - i) front bytes ≡ Ok (front, bytes) = rw k refl in
    sym so_far ∙ one
