-- A view and a range of the program in the law's words.
use Rattle.std.specs.Prelude.{map}
use Rattle.pool_law.specs.declared.id.ViewData.{ViewData}
use Rattle.pool_law.specs.declared.id.Part.{Part}
use Rattle.pool_law.specs.Names.{Plain, Composed}
use Rattle.lane_reader.specs.declared.view.View.{View}
use Rattle.lane_reader.specs.declared.view.Range.{Range}
use Rattle.lane_reader.specs.declared.composite.Composite.{Composite}
use Rattle.lane_reader.specs.declared.bound.Bound.{Bound}
use Rattle.lane_reader.specs.declared.bound.Update.{Update}

-- its data
abbrev pub data_of : View → ViewData
data_of v =
    record { root = v.root; offset = v.offset; len = v.len; reader = v.reader; writer = v.writer }

-- the part of a root
abbrev pub part_of : Range → Part
part_of r = record { root = r.root; offset = r.offset; len = r.len }

-- a composite, in the law's words
abbrev pub composite_in : Composite → Rattle.pool_law.specs.Composites.Composite
composite_in c = record {
  parts = map part_of c.parts.items;
  count = c.count;
  reader = c.reader;
  writer = c.writer;
}

-- what a name is bound to, in the law's words
abbrev pub bound_of : Bound → Rattle.pool_law.specs.Names.Bound
bound_of (Bound.Plain view) = Plain (data_of view)
bound_of (Bound.Composed composite) = Composed (composite_in composite)

-- what is bound, after a change
abbrev pub updated : Update → Rattle.pool_law.specs.Names.Bound → Rattle.pool_law.specs.Names.Bound
updated (Update.Reader reader) (Plain v) = Plain (record v { reader = reader })
updated (Update.Reader reader) (Composed c) = Composed (record c { reader = reader })
updated (Update.Writer writer) (Plain v) = Plain (record v { writer = writer })
updated (Update.Writer writer) (Composed c) = Composed (record c { writer = writer })
updated (Update.Count count) (Plain v) = Plain v
updated (Update.Count count) (Composed c) = Composed (record c { count = count })
