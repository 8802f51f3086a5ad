-- The corners of a box as a key.
use Rattle.std.specs.Prelude.{Bool, ◌&&◌}
use Rattle.std.specs.Ordering.{int_eq}
use Rattle.mesh_base.specs.Place.{Area}
use Rattle.box_watch.specs.declared.corners.Corners.{Corners}

abbrev pub corners_of : Area → Corners
corners_of area = record {
  low_x = area.lo.0;
  low_y = area.lo.1;
  low_z = area.lo.2;
  high_x = area.hi.0;
  high_y = area.hi.1;
  high_z = area.hi.2;
}

abbrev pub same_corners : Corners → Corners → Bool
same_corners a b =
    int_eq a.low_x b.low_x
    && (int_eq a.low_y b.low_y
    && (int_eq a.low_z b.low_z && (int_eq a.high_x b.high_x && (int_eq a.high_y b.high_y && int_eq a.high_z b.high_z))))
