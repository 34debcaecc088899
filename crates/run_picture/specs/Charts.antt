-- Where the takings of an arena are drawn.
use Rattle.std.specs.Prelude.{◌≡◌, ℕ, ◌+◌, ◌-◌, ◌*◌, ◌/◌, ◌==◌, Bool, true, min, nat_le, if◌then◌else◌, List, [], ◌∷◌, ◌++◌, length, map, filter, decimal, codes, slice_get, Option, Some, None, option_map, unwrap_or}
use Rattle.pool_law.specs.declared.id.RegionId.{RegionId}
use Rattle.pool_law.specs.declared.run.Run.{Run}
use Rattle.pool_law.specs.declared.note.Object.{Object}
use Rattle.pool_law.specs.Logs.{history_of}
use Rattle.pool_law.specs.Legal.{logs_of}
use Rattle.pool_law.specs.Text.{Text, shown_place}
use Rattle.run_picture.specs.declared.blocks.Return.{Return}
use Rattle.run_picture.specs.declared.blocks.Block.{Block}
use Rattle.run_picture.specs.declared.chart.Chart.{Chart}
use Rattle.run_picture.specs.declared.chart.Cut.{Cut}
use Rattle.run_picture.specs.declared.chart.TheConstants.{LEFT, WIDTH}
use Rattle.run_picture.specs.declared.marks.Area.{Area}
use Rattle.run_picture.specs.declared.marks.Style.{Style}
use Rattle.run_picture.specs.declared.marks.Mark.{Mark}
use Rattle.run_picture.specs.Rising.{Rise}
use Rattle.run_picture.specs.Blocks.{arena_blocks}

-- what a part of a whole comes to, of something of this size
abbrev pub share : ℕ → ℕ → ℕ → ℕ
share part whole size = if whole == 0 then 0 else min ((part * size) / whole) size

-- where a moment is drawn, from the left
abbrev pub x_of : Chart → ℕ → ℕ
x_of chart moment = LEFT + share moment chart.last WIDTH

-- the moment of a note, and the end of the picture where there is none
abbrev pub moment_of : Chart → ℕ → ℕ
moment_of chart number = unwrap_or (slice_get chart.moments (number - 1)) chart.last

-- the moment of a return, and the end of the picture while the taking is out
abbrev pub return_moment : Chart → Option Return → ℕ
return_moment chart None = chart.last
return_moment chart (Some back) = moment_of chart back.number

abbrev pub end_of : Chart → Block → ℕ
end_of chart b = return_moment chart b.back

-- where the last of these cuts at or before a byte is drawn, from above
abbrev pub y_in : ℕ → List Cut → ℕ → ℕ
y_in y [] offset = y
y_in y (cut ∷ cuts) offset = if nat_le cut.offset offset then y_in cut.y cuts offset else y

-- where a byte of a chunk is drawn
abbrev pub y_of : Chart → ℕ → ℕ → ℕ
y_of chart chunk offset =
    unwrap_or (option_map (λ s. y_in 0 s.cuts offset) (slice_get chart.strips chunk)) 0

-- a taking is drawn from its note to its return, and from its first byte to behind its last
abbrev pub block_area : Chart → Block → Area
block_area chart b =
    let place = b.region.place in
    let x = x_of chart (moment_of chart b.number) in
    let y = y_of chart place.chunk place.offset in
    record {
      x = x;
      y = y;
      width = x_of chart (end_of chart b) - x;
      height = y_of chart place.chunk (place.offset + place.len) - y;
    }

-- what is said of a return
abbrev pub return_title : Option Return → Text
return_title None = codes "; still out"
return_title (Some back) =
    (codes "; given back by note " ++ decimal back.number) ++ (codes " by lane " ++ decimal back.lane)

-- which taking it is, and where it lies
abbrev pub region_title : RegionId → Text
region_title r = (codes "taking " ++ decimal r.taking) ++ codes " at " ++ shown_place r.place

-- how many bytes it has, and their class
abbrev pub size_title : RegionId → Text
size_title r = (codes ", bytes " ++ decimal r.place.len) ++ (codes ", class " ++ decimal r.class)

-- the note that took it, and its lane
abbrev pub taken_title : Block → Text
taken_title b = (codes "; taken by note " ++ decimal b.number) ++ (codes " by lane " ++ decimal b.lane)

-- what is said of a taking where it is pointed at
abbrev pub block_title : Block → Text
block_title b =
    region_title b.region ++ size_title b.region ++ taken_title b ++ return_title b.back

-- a taking as a mark
abbrev pub block_mark : Chart → Block → Mark
block_mark chart b = Mark.Rect Style.Block (block_area chart b) (block_title b)

-- a taking is out at the end, or was for so many moments
abbrev pub lasts : Chart → ℕ → ℕ → Option Return → Bool
lasts chart least from None = true
lasts chart least from (Some back) = nat_le least (moment_of chart back.number - from)

abbrev pub is_kept : Chart → ℕ → Block → Bool
is_kept chart least b = lasts chart least (moment_of chart b.number) b.back

-- the takings of these arenas, without those that were out for fewer moments
abbrev pub block_marks : ℕ → Run → List Chart → List Mark
block_marks least run [] = []
block_marks least run (chart ∷ charts) =
    map (block_mark chart) (filter (is_kept chart least) (arena_blocks run chart.arena))
    ++ block_marks least run charts

-- a chart has a moment for each note of its arena, each later than the one before
pub record IsChart (run : Run) (chart : Chart) : Type 0 where
  pub rise : Rise chart.moments
  pub each : length chart.moments
      ≡ length (history_of (Object.Arena chart.arena) (logs_of run))

abbrev pub AreCharts : Run → List Chart → Type 0
AreCharts run [] = Unit {0}
AreCharts run (chart ∷ charts) = IsChart run chart × AreCharts run charts

-- how many takings there are in these arenas
abbrev pub all_takings : Run → List Chart → ℕ
all_takings run [] = 0
all_takings run (chart ∷ charts) =
    length (arena_blocks run chart.arena) + all_takings run charts
