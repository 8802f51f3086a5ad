-- lists in chunks of 4,096 entries
use Rattle.std.specs.Prelude.{◌≡◌, ℕ, ◌*◌, ◌/◌, ◌≤◌, List, length, take, drop, flat_map, slice_get, Option, IfSome}

-- chunk k of a list: its entries from number 4096 k on, of which it has at most 4,096
abbrev pub chunk_of : {A : Type 0} → List A → ℕ → List A
chunk_of xs k = take 4096 (drop (4096 * k) xs)

-- how many chunks are full, and what stands behind these
abbrev pub full_chunks : {A : Type 0} → List A → ℕ
full_chunks xs = length xs / 4096

abbrev pub behind_full : {A : Type 0} → List A → List A
behind_full xs = drop (4096 * full_chunks xs) xs

-- P of each entry and its number
abbrev pub Each : {C : Type 0} → (ℕ → C → Type 0) → List C → Type 0
Each P cs = (k : ℕ) → IfSome (slice_get cs k) (P k)

-- the chunks are those of the list in front, as many as there are
pub record AreFront {A C : Type 0} (entries : C → List A) (xs : List A) (chunks : List C) : Type 0 where
  pub joined : flat_map entries chunks ≡ take (4096 * length chunks) xs
  pub each : Each (λ k c. entries c ≡ chunk_of xs k) chunks

-- they are all chunks of the list
pub record AreChunks {A C : Type 0} (entries : C → List A) (xs : List A) (chunks : List C) : Type 0 where
  pub front : AreFront entries xs chunks
  pub all : length xs ≤ 4096 * length chunks

-- where something is kept, P holds of it
abbrev pub Kept : {C : Type 0} → (ℕ → C → Type 0) → ℕ → Option C → Type 0
Kept P k o = IfSome o (P k)
