-- where each kernel puts a point, over the places and the topology that it reads
use Rattle.std.specs.Prelude.{ℕ, ℤ, pos, ◌<ℤ◌, List, map}
use Rattle.std.specs.List.{range_with_len}
use Rattle.mesh_base.specs.Place.{Place}
use Rattle.mesh_base.specs.Mesh.{MeshView}
use Rattle.mesh_base.specs.Kernel.{held_place, place_by}
use Rattle.mesh_base.specs.declared.edit.Kernel.{Kernel}
use Rattle.mesh_base.specs.declared.edit.Kernel.TheVariants.{Stay, Shift, Pull, Shake, Relax, Turn}

-- a pull divides by a positive number
abbrev pub HasDivisor : Kernel → Type 0
HasDivisor (Pull to num den) = pos 0 <ℤ den
HasDivisor Stay = Unit {0}
HasDivisor (Shift dx dy dz) = Unit {0}
HasDivisor (Shake seed amp) = Unit {0}
HasDivisor Relax = Unit {0}
HasDivisor (Turn axis) = Unit {0}

-- the places that a function gives to the points, in the order of their numbers
abbrev pub listed : ℕ → (ℕ → Place) → List Place
listed count place = map place (range_with_len 0 count)
