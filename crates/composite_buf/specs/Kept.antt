-- How a composite keeps its parts: beside where each of them ends. No public clause cites this.
use Rattle.std.specs.Prelude.{◌≡◌, ◌≤◌, length, All, vec_capacity}
use Rattle.pool_law.specs.Composites.{size_of, most_bytes}
use Rattle.composite_buf.specs.Maps.{Fits}
use Rattle.composite_buf.specs.Ends.{ends_from}
use Rattle.composite_buf.specs.declared.composite.Composite.TheInside.{Inside}

pub record IsComposite (c : Inside) : Type 0 where
  pub ends : c.ends.items ≡ ends_from 0 c.parts.items
  pub count : length c.parts.items ≤ 25
  pub size : size_of c.parts.items ≤ most_bytes
  pub fits : All Fits c.parts.items
  pub parts_room : 25 ≤ vec_capacity c.parts
  pub ends_room : 25 ≤ vec_capacity c.ends
