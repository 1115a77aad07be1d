-- Murmur3, x86, 32 bits, seed 0 (Apache Iceberg table spec v2, "Appendix B: 32-bit Hash Requirements"): a fold over
-- words of four bytes, the lowest first.
use Rattle.std.specs.Prelude.{ℕ, ◌+◌, ◌*◌, ◌%◌, ◌^◌, ◌/◌, List, [], ◌∷◌, length, bit_and, bit_xor}
use Rattle.std.specs.Int.{w32, rotate_left, from_le_bytes}

-- the number of four bytes
abbrev pub word_of : ℕ → ℕ → ℕ → ℕ → ℕ
word_of a b c d = from_le_bytes w32 (a ∷ b ∷ c ∷ d ∷ [])

-- a word before it is mixed in
abbrev pub scrambled : ℕ → ℕ
scrambled k = (rotate_left w32 ((k * 0xcc9e_2d51) % 2 ^ 32) 15 * 0x1b87_3593) % 2 ^ 32

-- the hash after one more word
abbrev pub mixed : ℕ → ℕ → ℕ
mixed h k = ((rotate_left w32 (bit_xor h (scrambled k)) 13 * 5) % 2 ^ 32 + 0xe654_6b64) % 2 ^ 32

-- the hash after whole words and the up to three bytes that are left
abbrev pub hash_after : ℕ → List ℕ → ℕ
hash_after h [] = h
hash_after h (a ∷ []) = bit_xor h (scrambled (word_of a 0 0 0))
hash_after h (a ∷ b ∷ []) = bit_xor h (scrambled (word_of a b 0 0))
hash_after h (a ∷ b ∷ c ∷ []) = bit_xor h (scrambled (word_of a b c 0))
hash_after h (a ∷ b ∷ c ∷ d ∷ rest) = hash_after (mixed h (word_of a b c d)) rest

-- the last mixing
abbrev pub finished : ℕ → ℕ
finished h =
    let a = (bit_xor h (h / 2 ^ 16) * 0x85eb_ca6b) % 2 ^ 32 in
    let b = (bit_xor a (a / 2 ^ 13) * 0xc2b2_ae35) % 2 ^ 32 in
    bit_xor b (b / 2 ^ 16)

-- the hash of the bytes, as 32 bits
abbrev pub hash_of : List ℕ → ℕ
hash_of bs = finished (bit_xor (hash_after 0 bs) (length bs % 2 ^ 32))

-- the bucket of the bytes: the hash without its sign, modulo the number of buckets
abbrev pub bucket_of : ℕ → List ℕ → ℕ
bucket_of n bs = bit_and (hash_of bs) 0x7fff_ffff % n
