-- The key of the values of a packet, and the number of the key's shard.
use Rattle.std.specs.Prelude.{ℕ, ◌*◌, ◌%◌, ◌^◌, List, map, slice_index, bit_xor}
use Rattle.std.specs.List.{fold, flat_map}
use Rattle.std.specs.Int.{bytes_high_first}

-- the values of the variables of the key
abbrev pub key_of : (key vals : List ℕ) → List ℕ
key_of key vals = map (slice_index vals) key

-- one step of FNV-1a of 64 bits, the hash of Fowler, Noll and Vo
abbrev pub fnv_step : (hash byte : ℕ) → ℕ
fnv_step hash byte = bit_xor hash byte * 1099511628211 % 2 ^ 64

-- the hash of bytes
abbrev pub fnv : List ℕ → ℕ
fnv bytes = fold fnv_step 14695981039346656037 bytes

-- the numbers of a key, each as its 16 bytes, of which the highest comes first
abbrev pub key_bytes : List ℕ → List ℕ
key_bytes key = flat_map (bytes_high_first 16) key

-- the shard of a key among so many
abbrev pub shard_of : (key : List ℕ) → (shards : ℕ) → ℕ
shard_of key shards = fnv (key_bytes key) % shards
