-- A digital search tree for each bucket of hashes, and the walks of strings through it.
use Rattle.std.specs.Prelude.{◌≡◌, ℕ, zero, suc, ◌+◌, ◌-◌, ◌/◌, ◌%◌, ◌<◌, ◌≤◌, ◌==◌, Bool, if◌then◌else◌, List}
use Rattle.std.specs.Prelude.{[], ◌∷◌, length, slice_index_or, nat_lt}
use Rattle.std.specs.Coded.{Coded, code_by, coded×, coded_ℕ, coded_list}
use Rattle.std.specs.Int.{bit_at}
use Rattle.std.specs.Int.Bits.{bit_and}
use Rattle.std.proofs.Common.{refl}
use Rattle.path_arena.specs.declared.index.Node.{Node}
use Rattle.path_arena.specs.declared.index.Link.{Link}
use Rattle.path_arena.specs.declared.index.Link.TheVariants.{Top, Below}
use Rattle.path_arena.specs.Hashing.{hash_of}

abbrev pub hashes_of : List Node → List ℕ
hashes_of [] = []
hashes_of (n ∷ ns) = n.hash ∷ hashes_of ns

-- what no place holds
abbrev pub no_node : Node
no_node = record { hash = 0; left = 0; right = 0 }

-- the tops of the trees by bucket, the nodes by number, and for how many more numbers there are places; what leads to a
-- number is one more than it, or 0 where there is none
pub record Trees : Type 0 where
  pub tops : List ℕ
  pub nodes : List Node
  pub ids : ℕ

abbrev pub coded_node : Coded Node
coded_node =
    code_by (ℕ × (ℕ × ℕ)) (coded× coded_ℕ (coded× coded_ℕ coded_ℕ)) (λ n. (n.hash, (n.left, n.right)))
    (λ p. record { hash = p.0; left = p.1.0; right = p.1.1 }) (λ _. refl)

abbrev pub coded_trees : Coded Trees
coded_trees =
    code_by (List ℕ × (List Node × ℕ)) (coded× (coded_list coded_ℕ) (coded× (coded_list coded_node) coded_ℕ))
    (λ t. (t.tops, (t.nodes, t.ids))) (λ p. record { tops = p.0; nodes = p.1.0; ids = p.1.1 }) (λ _. refl)

-- the bits that a string's walk asks for, by its depth: those of the hash from the highest on, of the length, and its
-- own
unfoldable pub turns_right : List ℕ → ℕ → Bool
turns_right s depth =
    if nat_lt depth 32 then bit_at (hash_of s) (31 - depth) == 1
    else if nat_lt depth 48 then bit_at (length s) (depth - 32) == 1
    else bit_at (slice_index_or s ((depth - 48) / 8) 0) ((depth - 48) % 8) == 1

-- the bucket of a hash, by its lowest bits: the buckets are a power of 2 in number
abbrev pub bucket : ℕ → ℕ → ℕ
bucket buckets hash = bit_and hash (buckets - 1)

-- at the top of a hash's bucket
abbrev pub top_link : Trees → ℕ → ℕ
top_link t hash = slice_index_or t.tops (bucket (length t.tops) hash) 0

abbrev pub side : Bool → Node → ℕ
side right n = if right then n.right else n.left

-- below a number, on one side
abbrev pub link_below : Trees → ℕ → Bool → ℕ
link_below t i right = side right (slice_index_or t.nodes i no_node)

abbrev pub onward : Trees → Bool → ℕ → ℕ
onward t right zero = 0
onward t right (suc i) = link_below t i right

-- where the walk of a string is at a depth
abbrev pub walk : Trees → List ℕ → ℕ → ℕ
walk t s zero = top_link t (hash_of s)
walk t s (suc depth) = onward t (turns_right s depth) (walk t s depth)

-- the walk of a string comes to a number
abbrev pub Reaches : Trees → List ℕ → ℕ → Type 0
Reaches t s i = (depth : ℕ) × (walk t s depth ≡ i + 1)

-- each string's number is on the string's own walk
abbrev pub LieOnWalks : Trees → List (List ℕ) → Type 0
LieOnWalks t ss = (i : ℕ) → i < length ss → Reaches t (slice_index_or ss i []) i

-- each link that leads to a number stays
pub record KeepsLinks (t u : Trees) : Type 0 where
  pub tops : (hash : ℕ) → 0 < top_link t hash → top_link u hash ≡ top_link t hash
  pub below : (i : ℕ) (right : Bool) → 0 < link_below t i right → link_below u i right ≡ link_below t i right

-- what a link leads to
abbrev pub led_to : Trees → ℕ → Link → ℕ
led_to t hash Top = top_link t hash
led_to t hash (Below i right) = link_below t i right

-- the number that the link is below is there
abbrev pub Stands : Trees → Link → Type 0
Stands t Top = Unit {0}
Stands t (Below i right) = i < length t.nodes

-- the walk of a string takes this link
abbrev pub Takes : Trees → List ℕ → Link → Type 0
Takes t s Top = Unit {0}
Takes t s (Below i right) = (depth : ℕ) × (walk t s depth ≡ i + 1) × (turns_right s depth ≡ right)

-- the walk of a string ends at this link
pub record EndsAt (t : Trees) (s : List ℕ) (link : Link) : Type 0 where
  pub stands : Stands t link
  pub empty : led_to t (hash_of s) link ≡ 0
  pub taken : Takes t s link

-- links lead to later numbers
pub record IsIndex (tops : List ℕ) (nodes : List Node) : Type 0 where
  pub tops_lead : (b : ℕ) → slice_index_or tops b 0 ≤ length nodes
  pub nodes_lead : (i : ℕ) (right : Bool) → side right (slice_index_or nodes i no_node) ≤ length nodes
  pub later : (i : ℕ) (right : Bool) → let link = side right (slice_index_or nodes i no_node) in 0 < link → i + 1 < link
