-- faces in ascending order, and others beside them
use Rattle.std.specs.Prelude.{◌≡◌, ◌⊎◌, ℕ, ◌+◌, ◌*◌, ◌^◌, ◌<◌, ◌≤◌, true, false, length, slice_index_or, None}
use Rattle.std.specs.Map.{lookup}
use Rattle.mesh_base.specs.Mesh.{Face, face_eq}
use Rattle.face_table.specs.Tally.{Counts}

-- the order of faces: by the least number, then by the middle one, then by the greatest
abbrev pub rank_of : Face → ℕ
rank_of f = f.0 * 2 ^ 64 + f.1 * 2 ^ 32 + f.2

-- each face comes before those after it
abbrev pub IsAscending : Counts → Type 0
IsAscending es = (j k : ℕ) (d e : Face × ℕ) → j < k → k < length es
    → rank_of (slice_index_or es j d).0 < rank_of (slice_index_or es k e).0

-- no face is in both
abbrev pub AreApart : Counts → Counts → Type 0
AreApart es fs = (f : Face) → (lookup (face_eq f) es ≡ None) ⊎ (lookup (face_eq f) fs ≡ None)

-- faces in ascending order, and others that are none of these
pub record AreHomes (known more : Counts) : Type 0 where
  pub ascending : IsAscending known
  pub apart : AreApart known more

-- the face, if it is there, stands at low or after it, and before high
pub record IsBetween (es : Counts) (low high : ℕ) (f : Face) : Type 0 where
  pub order : low ≤ high
  pub within : high ≤ length es
  pub before : (k : ℕ) (d : Face × ℕ) → k < low → rank_of (slice_index_or es k d).0 < rank_of f
  pub after : (k : ℕ) (d : Face × ℕ) → high ≤ k → k < length es → rank_of f < rank_of (slice_index_or es k d).0

-- the face stands at place i, and at none before it
pub record IsFirstAt (es : Counts) (f : Face) (i : ℕ) : Type 0 where
  pub within : i < length es
  pub here : (d : Face × ℕ) → face_eq f (slice_index_or es i d).0 ≡ true
  pub others : (k : ℕ) (d : Face × ℕ) → k < i → face_eq f (slice_index_or es k d).0 ≡ false
