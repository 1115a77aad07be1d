-- One event after the other: what a worker takes in turn.
use Rattle.std.proofs.Common.{◌≡◌, ◌⊎◌, inl, inr, ℕ, zero, suc, Bool, true, false, List, [], ◌∷◌, length, map}
use Rattle.std.proofs.Common.{refl, sym, ◌∙◌, ap, subst, arith, replicate, Option, Some, None, is_some}
use Rattle.std.specs.Prelude.{IsTrue, option_map, slice_get, slice_set}
use Rattle.std.specs.List.{AllByRecursion}
use Rattle.std.proofs.lemmas.List.{length-replicate, set-set}
use Rattle.ice_catalog.specs.Machines.{Machine, PinnedScan, event, machine_after, replies_to, world_of}
use Rattle.ice_catalog.specs.declared.event.Event.TheVariants as on
use Rattle.ice_catalog.specs.declared.event.Reply.TheVariants as reply
use Rattle.ice_desk.specs.Wanted.{IsContentOf}
use Rattle.ice_desk.specs.Works.{Worked}
use Rattle.ice_desk.specs.declared.desk.Desk.{Desk}
use Rattle.ice_desk.specs.declared.desk.Seat.{Seat}
use Rattle.ice_desk.specs.declared.left.Left.{Left}
use Rattle.ice_manifest_reading.specs.declared.row.Row.{Row}
use Rattle.ice_state.proofs.Contents.{took-content}
use Rattle.ice_state.specs.Contents.{Content, HasBytes, HasBytesAt, IsOf, World, add, content, is_row_taken, reading_of}
use Rattle.ice_state.specs.Contents.{slot_of, slots_of, took}
use Rattle.ice_state.specs.Scans.{Scanned}
use Rattle.ice_state.specs.Readings.{Reading}
use Rattle.ice_catalog_versions.specs.Histories.{History}
use Rattle.ice_catalog_laws.proofs.Squares.{set_of_state, set_same, take_state, taken_where}
use Rattle.ice_catalog_laws.specs.Playing.{ComesByTakes, IsOfTicket, takes}
use Rattle.ice_catalog_laws.specs.Workers.{HasManifest, HasState, IsPut, nothing_taken, states_of}

-- ---- one thing changed after the other

pub get_here : {A : Type 0} (i : ℕ) (xs : List A) (x y : A) → slice_get xs i ≡ Some y
    → slice_get (slice_set xs i x) i ≡ Some x
get_here i [] x y e = absurd cc
get_here zero (z ∷ zs) x y e = refl
get_here (suc i) (z ∷ zs) x y e = get_here i zs x y e

pub has_put : (m n : Machine) (k w : ℕ) (p : PinnedScan) (b c : Content) → HasState m k w p b
    → (put : IsPut m n k w p c) → HasState n k w put.now c
has_put m n k w p b c has put = record {
  pinned = ap (λ ps. slice_get ps k) put.pins ∙ get_here k m.pins (Some put.now) (Some p) has.pinned;
  state = ap (λ ss. slice_get ss w) put.states ∙ get_here w (states_of p) c b has.state;
}

pub puts_on : (m n o : Machine) (k w : ℕ) (p : PinnedScan) (c d : Content) → (first : IsPut m n k w p c)
    → IsPut n o k w first.now d → IsPut m o k w p d
puts_on m n o k w p c d first then = record {
  now = then.now;
  newest = then.newest ∙ first.newest;
  pins = then.pins ∙ (ap (λ ps. slice_set ps k (Some then.now)) first.pins ∙ set-set m.pins k (Some first.now)
      (Some then.now));
  version = then.version ∙ first.version;
  scan = then.scan ∙ first.scan;
  states = then.states ∙ (ap (λ ss. slice_set ss w d) first.states ∙ set-set (states_of p) w c d);
}

pub puts_none : (m : Machine) (k w : ℕ) (p : PinnedScan) (c : Content) → HasState m k w p c → IsPut m m k w p c
puts_none m k w p c has = record {
  now = p;
  newest = refl;
  pins = sym (set_same k m.pins (Some p) has.pinned);
  version = refl;
  scan = refl;
  states = sym (set_same w (states_of p) c has.state);
}

-- ---- takes in turn

abbrev adds : List Bool → List ℕ → List Bool
adds ts [] = ts
adds ts (i ∷ is) = adds (add ts i) is

module _ (h : History) (scan : Scanned) (k w : ℕ) where
  abbrev There : ℕ → Type 0
  There i = (bytes : List ℕ) × HasBytes (world_of h) scan i bytes

  pub manifest : (p : PinnedScan) (i : ℕ) (bytes : List ℕ) → p.history ≡ h → p.scan ≡ scan
      → HasBytes (world_of h) scan i bytes → HasManifest p i bytes
  manifest p i bytes version same has =
      subst (λ (q : History). HasBytes (world_of q) p.scan i bytes) (sym version)
      (subst (λ (s : Scanned). HasBytes (world_of h) s i bytes) (sym same) has)

  pub plays : (rows : List ℕ) (m : Machine) (p : PinnedScan) (ts : List Bool) → p.history ≡ h → p.scan ≡ scan
      → HasState m k w p (content (world_of h) scan ts) → AllByRecursion There rows
      → AllByRecursion (λ r. r ≡ reply.Taken) (replies_to m (takes k w rows))
      × IsPut m (machine_after m (takes k w rows)) k w p (content (world_of h) scan (adds ts rows))
  plays [] m p ts version same has there = (tt, puts_none m k w p (content (world_of h) scan ts) has)
  plays (i ∷ rows) m p ts version same has there =
      let world = world_of h in
      let bytes = there.0.0 in
      let own : HasManifest p i bytes = manifest p i bytes version same there.0.1 in
      let c = content world scan ts in
      let d = content world scan (add ts i) in
      let n = (event m (on.Take k w i)).1 in
      let is : took p.scan c i bytes ≡ d = ap (λ (s : Scanned). took s c i bytes) same ∙ took-content world scan ts
      scan.wanted i bytes there.0.1 in
      let put : IsPut m n k w p d = subst (λ x. IsPut m n k w p x) is (take_state m k w i p c bytes has own) in
      let rest = plays rows n put.now (add ts i) (put.version ∙ version) (put.scan ∙ same) (has_put m n k w p c d has
      put) there.1 in
      let end = content world scan (adds (add ts i) rows) in (
        ((taken_where m k w i).1 (p, c, bytes, has, own), rest.0),
        puts_on m n (machine_after n (takes k w rows)) k w p d end put rest.1,
      )

-- ---- what a state gained

abbrev gains : Content → Content → List ℕ
gains [] ds = []
gains (c ∷ cs) [] = []
gains (None ∷ cs) (None ∷ ds) = map suc (gains cs ds)
gains (None ∷ cs) (Some r ∷ ds) = 0 ∷ map suc (gains cs ds)
gains (Some q ∷ cs) (d ∷ ds) = map suc (gains cs ds)

adds_suc : (t : Bool) (ts : List Bool) (is : List ℕ) → adds (t ∷ ts) (map suc is) ≡ t ∷ adds ts is
adds_suc t ts [] = refl
adds_suc t ts (i ∷ is) = adds_suc t (add ts i) is

-- each row that was taken before is taken still
abbrev AreKept : Content → Content → Type 0
AreKept [] ds = Unit {0}
AreKept (c ∷ cs) [] = Unit {0}
AreKept (c ∷ cs) (d ∷ ds) = (is_some c ≡ true → is_some d ≡ true) × AreKept cs ds

kept_from : (cs ds : Content) → ((i : ℕ) → IsTrue (is_row_taken cs i) → IsTrue (is_row_taken ds i)) → AreKept cs ds
kept_from [] ds kept = tt
kept_from (c ∷ cs) [] kept = tt
kept_from (c ∷ cs) (d ∷ ds) kept = (kept 0, kept_from cs ds (λ i. kept (suc i)))

module _ (world : World) (scan : Scanned) where
  true_slot : (t : Bool) (row : Row) (r : Reading) → slot_of world scan t row ≡ Some r
      → slot_of world scan true row ≡ Some r
  true_slot true row r is = is
  true_slot false row r is = absurd cc

  one_more : (row : Row) (rows : List Row) (t u : Bool) (ts us : List Bool) (c d : Option Reading) (cs : Content)
      → slot_of world scan t row ≡ c → slot_of world scan u row ≡ d → (is_some c ≡ true → is_some d ≡ true)
      → slots_of world scan (adds ts (gains cs (slots_of world scan us rows))) rows ≡ slots_of world scan us rows
      → slots_of world scan (adds (t ∷ ts) (gains (c ∷ cs) (d ∷ slots_of world scan us rows))) (row ∷ rows)
      ≡ d ∷ slots_of world scan us rows
  one_more row rows t u ts us None None cs one other kept rest =
      let ds = slots_of world scan us rows in
      ap (λ xs. slots_of world scan xs (row ∷ rows)) (adds_suc t ts (gains cs ds)) ∙ (ap (λ x. x ∷ slots_of world scan
      (adds ts (gains cs ds)) rows) one ∙ ap (λ xs. None ∷ xs) rest)
  one_more row rows t u ts us None (Some r) cs one other kept rest =
      let ds = slots_of world scan us rows in
      ap (λ xs. slots_of world scan xs (row ∷ rows)) (adds_suc true ts (gains cs ds)) ∙ (ap (λ x. x ∷ slots_of world
      scan (adds ts (gains cs ds)) rows) (true_slot u row r other) ∙ ap (λ xs. Some r ∷ xs) rest)
  one_more row rows t u ts us (Some q) None cs one other kept rest = let h = kept refl in absurd cc
  one_more row rows t u ts us (Some q) (Some r) cs one other kept rest =
      let ds = slots_of world scan us rows in
      let same : slot_of world scan t row ≡ Some r = one ∙ (sym (true_slot t row q one) ∙ true_slot u row r other) in
      ap (λ xs. slots_of world scan xs (row ∷ rows)) (adds_suc t ts (gains cs ds)) ∙ (ap (λ x. x ∷ slots_of world scan
      (adds ts (gains cs ds)) rows) same ∙ ap (λ xs. Some r ∷ xs) rest)

  -- with what it gained a state is the one after it
  pub gained_all : (rows : List Row) (ts us : List Bool) → length ts ≡ length rows → length us ≡ length rows
      → AreKept (slots_of world scan ts rows) (slots_of world scan us rows) → slots_of world scan
      (adds ts (gains (slots_of world scan ts rows) (slots_of world scan us rows))) rows ≡ slots_of world scan us rows
  gained_all [] [] [] a b kept = refl
  gained_all [] (t ∷ ts) us a b kept = absurd (omega (arith, a))
  gained_all [] [] (u ∷ us) a b kept = absurd (omega (arith, b))
  gained_all (row ∷ rows) [] us a b kept = absurd (omega (arith, a))
  gained_all (row ∷ rows) (t ∷ ts) [] a b kept = absurd (omega (arith, b))
  gained_all (row ∷ rows) (t ∷ ts) (u ∷ us) a b kept =
      one_more row rows t u ts us (slot_of world scan t row) (slot_of world scan u row) (slots_of world scan ts rows)
      refl refl kept.0 (gained_all rows ts us (omega (arith, a)) (omega (arith, b)) kept.1)

  -- what a content has the world has
  has_file : (o : Option (List ℕ)) (row : Row) → world row.path ≡ o
      → is_some (option_map (reading_of scan row) o) ≡ true → (bytes : List ℕ) × (world row.path ≡ Some bytes)
  has_file None row is some = absurd cc
  has_file (Some bytes) row is some = (bytes, is)

  has_slot : (t : Bool) (row : Row) → is_some (slot_of world scan t row) ≡ true
      → (bytes : List ℕ) × (world row.path ≡ Some bytes)
  has_slot true row some = has_file (world row.path) row refl some
  has_slot false row some = absurd cc

  pub has_manifest : (rows : List Row) (us : List Bool) (i : ℕ) → is_row_taken (slots_of world scan us rows) i ≡ true
      → (bytes : List ℕ) × HasBytesAt world rows i bytes
  has_manifest rows [] zero some = absurd cc
  has_manifest rows [] (suc i) some = absurd cc
  has_manifest [] (u ∷ us) zero some = absurd cc
  has_manifest [] (u ∷ us) (suc i) some = absurd cc
  has_manifest (row ∷ rows) (u ∷ us) zero some = has_slot u row some
  has_manifest (row ∷ rows) (u ∷ us) (suc i) some = has_manifest rows us i some

  trimmed_none : (ts : List Bool) → slots_of world scan [] [] ≡ slots_of world scan ts []
  trimmed_none [] = refl
  trimmed_none (t ∷ ts) = refl

  -- a content has as many flags as it has rows
  pub trimmed : (rows : List Row) (ts : List Bool) → length (slots_of world scan ts rows) ≡ length rows
      → (us : List Bool) × (length us ≡ length rows) × (slots_of world scan us rows ≡ slots_of world scan ts rows)
  trimmed [] ts same = ([], refl, trimmed_none ts)
  trimmed (row ∷ rows) [] same = absurd (omega (arith, same))
  trimmed (row ∷ rows) (t ∷ ts) same =
      let rest = trimmed rows ts (omega (arith, same)) in (
        t ∷ rest.0,
        ap suc rest.1,
        ap (λ xs. slot_of world scan t row ∷ xs) rest.2,
      )

-- all that was gained is so
all_suc : (P : ℕ → Type 0) (is : List ℕ) → AllByRecursion (λ i. P (suc i)) is → AllByRecursion P (map suc is)
all_suc P [] all = tt
all_suc P (i ∷ is) all = (all.0, all_suc P is all.1)

pub gained_each : (P : ℕ → Type 0) (cs ds : Content)
    → ((i : ℕ) → is_row_taken ds i ≡ true → is_row_taken cs i ≡ false → P i) → AllByRecursion P (gains cs ds)
gained_each P [] ds so = tt
gained_each P (c ∷ cs) [] so = tt
gained_each P (None ∷ cs) (None ∷ ds) so = all_suc P (gains cs ds) (gained_each (λ i. P (suc i)) cs ds
    (λ i. so (suc i)))
gained_each P (None ∷ cs) (Some r ∷ ds) so = (
  so 0 refl refl,
  all_suc P (gains cs ds) (gained_each (λ i. P (suc i)) cs ds (λ i. so (suc i))),
)
gained_each P (Some q ∷ cs) (d ∷ ds) so = all_suc P (gains cs ds) (gained_each (λ i. P (suc i)) cs ds
    (λ i. so (suc i)))

-- ---- the run of a worker

not_taken : {X : Type 0} (b : Bool) → b ≡ false → IsTrue b ⊎ X → X
not_taken b not_yet (inl taken) = absurd cc
not_taken b not_yet (inr x) = x

-- of two contents of the scanned version's files, what the second has more can be taken in turn
pub comes_by : (m : Machine) (k w : ℕ) (p : PinnedScan) (scan : Scanned) (before after : Content) (ts us : List Bool)
    (so : ℕ → Type 0) → p.scan ≡ scan → HasState m k w p before → IsContentOf (world_of p.history) scan before ts
    → IsContentOf (world_of p.history) scan after us
    → ((i : ℕ) → IsTrue (is_row_taken before i) → IsTrue (is_row_taken after i))
    → ((i : ℕ) → IsTrue (is_row_taken after i) → is_row_taken before i ≡ false → so i)
    → ComesByTakes m k w p so after
comes_by m k w p scan before after ts us so same has first then kept each =
    let world = world_of p.history in
    let rows = scan.wanted in
    let cs = content world scan ts in
    let ds = content world scan us in
    let still = kept_from cs ds (λ i taken. subst (λ (c : Content). IsTrue (is_row_taken c i)) then.is (kept i
    (subst (λ (c : Content). IsTrue (is_row_taken c i)) (sym first.is) taken))) in
    let gained = gains cs ds in
    let played = plays p.history scan k w gained m p ts refl same (subst (HasState m k w p) first.is has)
    (gained_each (There p.history scan k w) cs ds (λ i taken before. has_manifest world scan rows us i taken)) in
    record {
      rows = gained;
      each = gained_each so cs ds (λ i taken not_yet. each i (subst (λ (c : Content). IsTrue (is_row_taken c i))
          (sym then.is) taken) (ap (λ (c : Content). is_row_taken c i) first.is ∙ not_yet));
      taken = played.0;
      put = subst (IsPut m (machine_after m (takes k w gained)) k w p) (gained_all world scan rows ts us first.flags
          then.flags still ∙ sym then.is) played.1;
    }

-- a state of a worker is the content of a set
set_of_worker : (m : Machine) (k w : ℕ) (p : PinnedScan) (scan : Scanned) (c : Content) → p.scan ≡ scan
    → HasState m k w p c → IsOf scan c → (ts : List Bool) × IsContentOf (world_of p.history) scan c ts
set_of_worker m k w p scan c same has of =
    let world = world_of p.history in
    let set = set_of_state p w c has.state in
    let is : content world scan set.0 ≡ c = ap (λ (s : Scanned). content world s set.0) (sym same) ∙ set.2 in
    let flags = trimmed world scan scan.wanted set.0 (ap length is ∙ of) in
    (flags.0, record { flags = flags.1; is = sym (flags.2 ∙ is) })

pub comes_by_takes : (m : Machine) (k w : ℕ) (p : PinnedScan) (world : Option World) (may_fail : List ℕ → Type 0)
    (desk : Desk) (scan : Scanned) (old new : Seat) (before after : Content) (left : Left)
    → world ≡ Some (world_of p.history) → p.scan ≡ scan → HasState m k w p before → IsOf scan before
    → (worked : Worked world may_fail desk scan old new before after left)
    → ComesByTakes m k w p (IsOfTicket desk worked.tickets) after
comes_by_takes m k w p told may_fail desk scan old new before after left tells same has of worked =
    let first = set_of_worker m k w p scan before same has of in
    let then = worked.content (world_of p.history) first.0 tells first.1 in
    comes_by m k w p scan before after first.0 then.0 (IsOfTicket desk worked.tickets) same has first.1 then.1
    worked.kept (λ i taken not_yet. not_taken (is_row_taken before i) not_yet (worked.gained i taken))

none_taken : (n i : ℕ) → IsTrue (is_row_taken (replicate n None) i) → ⊥
none_taken zero zero taken = cc
none_taken zero (suc i) taken = cc
none_taken (suc n) zero taken = cc
none_taken (suc n) (suc i) taken = none_taken n i taken

-- so each content of the scanned version's files can be taken by a worker that took nothing
pub comes_from_nothing : (m : Machine) (k w : ℕ) (p : PinnedScan) (scan : Scanned) (after : Content)
    → p.scan ≡ scan → HasState m k w p (nothing_taken scan)
    → ((us : List Bool) × IsContentOf (world_of p.history) scan after us)
    → ComesByTakes m k w p (λ i. IsTrue (is_row_taken after i)) after
comes_from_nothing m k w p scan after same has then =
    let n = length scan.wanted in
    let none = nothing_taken scan in
    let first = set_of_worker m k w p scan none same has (length-replicate n None) in
    comes_by m k w p scan none after first.0 then.0 (λ i. IsTrue (is_row_taken after i)) same has first.1 then.1
    (λ i taken. absurd (none_taken n i taken)) (λ i taken not_yet. taken)
