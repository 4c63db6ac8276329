-- Vectors of three numbers over binary64, each operation rounded once, in the order of the source (t1.rs). Assumes nothing.
use Rattle.std.specs.Prelude.{Float}
use Rattle.std.specs.Float.{binary64}
use Rattle.laws.specs.Floats.{◌⊕◌, ◌⊖◌, ◌⊗◌}
use Rattle.root.specs.Root.{sqrt}
use Rattle.vectors.specs.declared.Vector.{Vector}

unfoldable pub plus : Vector → Vector → Vector
plus a b = record { x = a.x ⊕ b.x; y = a.y ⊕ b.y; z = a.z ⊕ b.z }

unfoldable pub minus : Vector → Vector → Vector
minus a b = record { x = a.x ⊖ b.x; y = a.y ⊖ b.y; z = a.z ⊖ b.z }

unfoldable pub times : Vector → Float → Vector
times a k = record { x = a.x ⊗ k; y = a.y ⊗ k; z = a.z ⊗ k }

-- three products, added from the left
unfoldable pub inner : Vector → Vector → Float
inner a b = a.x ⊗ b.x ⊕ a.y ⊗ b.y ⊕ a.z ⊗ b.z

unfoldable pub norm : Vector → Float
norm a = sqrt binary64 (inner a a)

unfoldable pub cross : Vector → Vector → Vector
cross a b = record {
  x = a.y ⊗ b.z ⊖ a.z ⊗ b.y;
  y = a.z ⊗ b.x ⊖ a.x ⊗ b.z;
  z = a.x ⊗ b.y ⊖ a.y ⊗ b.x;
}
