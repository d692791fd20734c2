-- `kerb_reader::shapes::empty_vertices` meets its contract.
use mathlib.Core.Path.{refl}
use lib.Ieee.{of_bits}
use Rattle.kerb_reader.specs.Geometry.{no_vertices}
use Rattle.kerb_reader.proofs.shapes.empty_vertices.Goals as goal

pub returns : goal.returns
unfolding no_vertices of_bits
returns c = refl
