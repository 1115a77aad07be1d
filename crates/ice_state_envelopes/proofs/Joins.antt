-- The laws of joined envelopes, and what opens.
use Rattle.std.proofs.Common.{◌≡◌, ℕ, ◌^◌, Bool, true, false, ◌&&◌, eqb, cond, ◌⊎◌, inl}
use Rattle.std.proofs.Common.{inr, List, [], ◌∷◌, ◌++◌, length}
use Rattle.std.proofs.Common.{Result, Ok, Err, refl, sym, ap, subst, ◌∙◌}
use Rattle.std.specs.Str.{bytes_eq}
use Rattle.std.proofs.lemmas.Bool.{eq-eqb, eqb-true, and_parts, and_from}
use Rattle.std.proofs.lemmas.Slice.Eq.{bytes_eq-Decides}
use Rattle.contract_words.specs.Outcome.{◌>>=◌}
use Rattle.avro_file_parts.specs.declared.refusal.Refusal.{Refusal}
use Rattle.avro_file_parts.specs.Number.{number_at}
use Rattle.avro_file_parts.specs.Parts.{run_at}
use Rattle.ice_state_envelopes.specs.declared.fault.EnvelopeFault.{EnvelopeFault}
use Rattle.ice_state_envelopes.specs.declared.fault.EnvelopeFault.TheVariants.{NotAState, OtherVersion, Damaged}
use Rattle.ice_state_envelopes.specs.declared.fault.EnvelopeFault.TheVariants.{OtherScan}
use Rattle.ice_state_envelopes.specs.Envelopes.{Part, Parts, Rise, AreParts, rises, whole, sections_at, sealed_at}
use Rattle.ice_state_envelopes.specs.Envelopes.{contents_at, opened_at, parts_at, begins, any_version, this_version}
use Rattle.ice_state_envelopes.specs.Joins.{union, joined, body_at, or_else, Agree}
use Rattle.ice_state_envelopes.specs.Trees.{Tree, given, made, bytes_of, leaves, body_of, first_body, IsMade}
use Rattle.ice_state_envelopes.proofs.Loop.{run_at_len}
use Rattle.ice_state_envelopes.proofs.Rising.{rise_of}
use Rattle.ice_state_envelopes.proofs.Bodies.{or_else-none, or_else-assoc, body_union, union-assoc, union-idem}
use Rattle.ice_state_envelopes.proofs.Bodies.{union-comm}

-- ---- envelopes of one scan

abbrev Same : Parts → Parts → Type 0
Same p q = (p.scan ≡ q.scan) × (p.rows ≡ q.rows)

abbrev both : Parts → Parts → Parts
both p q = record { scan = p.scan; rows = p.rows; sections = union p.sections q.sections }

abbrev done : Parts → Result Parts EnvelopeFault
done p = Ok p

abbrev refused : Result Parts EnvelopeFault
refused = Err OtherScan

abbrev are_same : Parts → Parts → Bool
are_same p q = bytes_eq p.scan q.scan && eqb p.rows q.rows

differ : (b : Bool) → b ≡ true → b ≡ false → ⊥
differ b e f = absurd cc

cases_same : (p q : Parts) → Same p q ⊎ ((Same p q → ⊥) × (joined p q ≡ refused))
cases_same p q = by (are_same p q) refl where
  by : (b : Bool) → are_same p q ≡ b → Same p q ⊎ ((Same p q → ⊥) × (joined p q ≡ refused))
  by true e =
      let h = and_parts (bytes_eq p.scan q.scan) (eqb p.rows q.rows) e in
      inl ((bytes_eq-Decides p.scan q.scan).0 h.0, eqb-true p.rows q.rows h.1)
  by false e = inr (
    λ same. absurd (differ (are_same p q) (and_from (bytes_eq p.scan q.scan) (eqb p.rows q.rows)
        ((bytes_eq-Decides p.scan q.scan).1 same.0) (eq-eqb p.rows q.rows same.1)) e),
    rw e refl,
  )

joined_same : (p q : Parts) → Same p q → joined p q ≡ done (both p q)
joined_same p q same =
    let e : are_same p q ≡ true = and_from (bytes_eq p.scan q.scan) (eqb p.rows q.rows)
    ((bytes_eq-Decides p.scan q.scan).1 same.0) (eq-eqb p.rows q.rows same.1) in
    rw e refl

joined_other : (p q : Parts) → (Same p q → ⊥) → joined p q ≡ refused
joined_other p q not = elim (cases_same p q) [
  | inl same ↦ absurd (not same)
  | inr other ↦ other.1
]

rise_same : (p q : Parts) → p.rows ≡ q.rows → Rise 0 q.rows q.sections → Rise 0 p.rows q.sections
rise_same p q e rise = subst (λ (n : ℕ). Rise 0 n q.sections) (sym e) rise

sections_same : (p : Parts) (ps qs : List Part) → ps ≡ qs
    → done (record { scan = p.scan; rows = p.rows; sections = ps }) ≡ Ok (record {
      scan = p.scan;
      rows = p.rows;
      sections = qs;
    })
sections_same p ps qs e = ap (λ (xs : List Part). done (record { scan = p.scan; rows = p.rows; sections = xs })) e

pub joined-assoc : (a b c : Parts) → AreParts a → AreParts b → AreParts c
    → (joined a b >>= λ ab. joined ab c) ≡ (joined b c >>= λ bc. joined a bc)
joined-assoc a b c pa pb pc = by (cases_same a b) (cases_same b c) where
  all : Same a b → Same b c → (joined a b >>= λ ab. joined ab c) ≡ (joined b c >>= λ bc. joined a bc)
  all ab bc =
      let rb = rise_same a b ab.1 pb.1 in
      let rc = rise_same a c (ab.1 ∙ bc.1) pc.1 in
      ap (λ r. r >>= λ x. joined x c) (joined_same a b ab) ∙
      joined_same (both a b) c (ab.0 ∙ bc.0, ab.1 ∙ bc.1) ∙
      sections_same a (union (union a.sections b.sections) c.sections) (union a.sections (union b.sections c.sections))
      (union-assoc a.rows a.sections b.sections c.sections pa.1 rb rc) ∙
      sym (ap (λ r. r >>= λ x. joined a x) (joined_same b c bc) ∙ joined_same a (both b c) ab)

  by : (Same a b ⊎ ((Same a b → ⊥) × (joined a b ≡ refused))) → (Same b c ⊎ ((Same b c → ⊥) × (joined b c ≡ refused)))
      → (joined a b >>= λ ab. joined ab c) ≡ (joined b c >>= λ bc. joined a bc)
  by (inl ab) (inl bc) = all ab bc
  by (inl ab) (inr bc) =
      ap (λ r. r >>= λ x. joined x c) (joined_same a b ab) ∙
      joined_other (both a b) c (λ ac. bc.0 (sym ab.0 ∙ ac.0, sym ab.1 ∙ ac.1)) ∙
      sym (ap (λ r. r >>= λ x. joined a x) bc.1)
  by (inr ab) (inl bc) =
      ap (λ r. r >>= λ x. joined x c) ab.1 ∙
      sym (ap (λ r. r >>= λ x. joined a x) (joined_same b c bc) ∙ joined_other a (both b c) ab.0)
  by (inr ab) (inr bc) =
      ap (λ r. r >>= λ x. joined x c) ab.1 ∙ sym (ap (λ r. r >>= λ x. joined a x) bc.1)

pub joined-idem : (a : Parts) → AreParts a → joined a a ≡ Ok a
joined-idem a pa = joined_same a a (refl, refl) ∙
    sections_same a (union a.sections a.sections) a.sections (union-idem a.rows a.sections pa.1)

pub joined-comm : (a b : Parts) → AreParts a → AreParts b → Agree a b → joined a b ≡ joined b a
joined-comm a b pa pb agree = elim (cases_same a b) [
  | inl same ↦ together same
  | inr other ↦ other.1 ∙ sym (joined_other b a (λ ba. other.0 (sym ba.0, sym ba.1)))
] where
  together : Same a b → joined a b ≡ joined b a
  together same =
      let rb = rise_same a b same.1 pb.1 in
      joined_same a b same ∙
      ap (λ (s : List ℕ). done (record { scan = s; rows = a.rows; sections = union a.sections b.sections })) same.0 ∙
      ap (λ (n : ℕ). done (record { scan = b.scan; rows = n; sections = union a.sections b.sections })) same.1 ∙
      sections_same b (union a.sections b.sections) (union b.sections a.sections)
      (union-comm a.rows a.sections b.sections pa.1 rb agree) ∙
      sym (joined_same b a (sym same.0, sym same.1))

-- ---- what opens

bind_ok : {A B : Type 0} (r : Result A EnvelopeFault) (f : A → Result B EnvelopeFault) (y : B) → (r >>= f) ≡ Ok y
    → (x : A) × (r ≡ Ok x) × (f x ≡ Ok y)
bind_ok (Ok x) f y e = (x, refl, e)
bind_ok (Err d) f y e = absurd cc

whole_ok : {A : Type 0} (r : Result A Refusal) (x : A) → whole r ≡ Ok x → r ≡ Ok x
whole_ok (Ok y) x e = let is : y ≡ x = cc in ap (λ z. Ok z) is
whole_ok (Err d) x e = absurd cc

guard_ok : (b : Bool) (x y : Parts) → cond b (Ok x) (Err Damaged) ≡ done y → (b ≡ true) × (x ≡ y)
guard_ok true x y e = (refl, cc)
guard_ok false x y e = absurd cc

abbrev pub held : List ℕ → ℕ → List Part → Parts
held scan rows ps = record { scan = scan; rows = rows; sections = ps }

-- the steps of reading
abbrev pub end_of : List ℕ → ℕ → List Part × List ℕ → Result Parts EnvelopeFault
end_of scan rows x = cond (eqb (length x.1) 0 && rises 0 rows x.0) (Ok (held scan rows x.0)) (Err Damaged)

abbrev pub counted : List ℕ → ℕ → ℕ × List ℕ → Result Parts EnvelopeFault
counted scan rows x = whole (sections_at x.0 x.1) >>= end_of scan rows

abbrev pub behind_rows : List ℕ → ℕ × List ℕ → Result Parts EnvelopeFault
behind_rows scan x = whole (number_at (2 ^ 64) x.1) >>= counted scan x.0

abbrev pub behind_scan : List ℕ × List ℕ → Result Parts EnvelopeFault
behind_scan x = whole (number_at (2 ^ 64) x.1) >>= behind_rows x.0

pub contents_steps : (bytes : List ℕ) → contents_at bytes ≡ (whole (run_at 32 bytes) >>= behind_scan)
unfolding contents_at
contents_steps bytes = refl

are_still : (p q : Parts) → p ≡ q → AreParts p → AreParts q
are_still p q e are = subst AreParts e are

contents_are : (bytes : List ℕ) (p : Parts) → contents_at bytes ≡ Ok p → AreParts p
contents_are bytes p e =
    let a = bind_ok (whole (run_at 32 bytes)) behind_scan p (sym (contents_steps bytes) ∙ e) in
    let b = bind_ok (whole (number_at (2 ^ 64) a.0.1)) (behind_rows a.0.0) p a.2 in
    let c = bind_ok (whole (number_at (2 ^ 64) b.0.1)) (counted a.0.0 b.0.0) p b.2 in
    let d = bind_ok (whole (sections_at c.0.0 c.0.1)) (end_of a.0.0 b.0.0) p c.2 in
    let g = guard_ok (eqb (length d.0.1) 0 && rises 0 b.0.0 d.0.0) (held a.0.0 b.0.0 d.0.0) p d.2 in
    let rise = rise_of 0 b.0.0 d.0.0 (and_parts (eqb (length d.0.1) 0) (rises 0 b.0.0 d.0.0) g.0).1 in
    are_still (held a.0.0 b.0.0 d.0.0) p g.1 (run_at_len 32 bytes a.0 (whole_ok (run_at 32 bytes) a.0 a.1), rise)

abbrev pub behind_line : List ℕ × List ℕ → Result Parts EnvelopeFault
behind_line x = contents_at x.1

abbrev pub behind_seal : List ℕ → Result Parts EnvelopeFault
behind_seal sealed = whole (run_at (length this_version) sealed) >>= behind_line

pub opened_steps : (bytes : List ℕ) → opened_at bytes ≡ (sealed_at bytes >>= behind_seal)
unfolding opened_at
opened_steps bytes = refl

opened_are : (bytes : List ℕ) (p : Parts) → opened_at bytes ≡ Ok p → AreParts p
opened_are bytes p e =
    let a = bind_ok (sealed_at bytes) behind_seal p (sym (opened_steps bytes) ∙ e) in
    let b = bind_ok (whole (run_at (length this_version) a.0)) behind_line p a.2 in
    contents_are b.0.1 p b.2

versions : (any this : Bool) (r : Result Parts EnvelopeFault) (p : Parts)
    → cond any (cond this r (Err OtherVersion)) (Err NotAState) ≡ Ok p → r ≡ Ok p
versions true true r p e = e
versions true false r p e = absurd cc
versions false this r p e = absurd cc

pub parts_are : (bytes : List ℕ) (p : Parts) → parts_at bytes ≡ Ok p → AreParts p
unfolding parts_at
parts_are bytes p e =
    opened_are bytes p (versions (begins any_version bytes) (begins this_version bytes) (opened_at bytes) p e)

-- ---- trees

first_append : (row : ℕ) (xs ys : List (List ℕ))
    → or_else (first_body row xs) (first_body row ys) ≡ first_body row (xs ++ ys)
first_append row [] ys = refl
first_append row (x ∷ xs) ys =
    or_else-assoc (body_of row (parts_at x)) (first_body row xs) (first_body row ys) ∙
    ap (or_else (body_of row (parts_at x))) (first_append row xs ys)

not_both : (r : Result Parts EnvelopeFault) (p : Parts) → r ≡ refused → r ≡ done p → ⊥
not_both r p f g = absurd cc

joined_body : (row : ℕ) (a b p : Parts) → AreParts a → AreParts b → joined a b ≡ Ok p
    → body_at row p.sections ≡ or_else (body_at row a.sections) (body_at row b.sections)
joined_body row a b p pa pb e = elim (cases_same a b) [
  | inl same ↦ of_same same
  | inr other ↦ absurd (not_both (joined a b) p other.1 e)
] where
  of_same : Same a b → body_at row p.sections ≡ or_else (body_at row a.sections) (body_at row b.sections)
  of_same same =
      let is : done (both a b) ≡ done p = sym (joined_same a b same) ∙ e in
      let here : both a b ≡ p = cc in
      ap (λ (q : Parts). body_at row q.sections) (sym here) ∙
      body_union 0 a.rows row a.sections b.sections pa.1 (rise_same a b same.1 pb.1)

pub tree_bodies : (tree : Tree) (p : Parts) (row : ℕ) → IsMade tree → parts_at (bytes_of tree) ≡ Ok p
    → body_at row p.sections ≡ first_body row (leaves tree)
tree_bodies (given bytes) p row is h = rw h (sym (or_else-none (body_at row p.sections)))
tree_bodies (made left right bytes) p row is h =
    let a = is.2.0 in
    let b = is.2.1 in
    let ha = is.2.2 in
    let hb = is.2.3 in
    joined_body row a b p (parts_are (bytes_of left) a ha) (parts_are (bytes_of right) b hb) (sym is.2.4 ∙ h) ∙
    ap (λ o. or_else o (body_at row b.sections)) (tree_bodies left a row is.0 ha) ∙
    ap (or_else (first_body row (leaves left))) (tree_bodies right b row is.1 hb) ∙
    first_append row (leaves left) (leaves right)
