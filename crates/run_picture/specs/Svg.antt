-- The text of a picture.
use Rattle.std.specs.Prelude.{ℕ, ◌/◌, ◌==◌, if◌then◌else◌, List, [], ◌∷◌, ◌++◌, decimal, codes}
use Rattle.pool_law.specs.Text.{Text}
use Rattle.run_picture.specs.declared.marks.Style.{Style}
use Rattle.run_picture.specs.declared.marks.Area.{Area}
use Rattle.run_picture.specs.declared.marks.Mark.{Mark}
use Rattle.run_picture.specs.declared.marks.Drawing.{Drawing}
use Rattle.run_picture.specs.declared.svg.TheConstants.{LOOKS}

-- a byte of text, as XML has it
abbrev pub escaped_byte : ℕ → Text
escaped_byte b =
    if b == 60
    then codes "&lt;"
    else if b == 62 then codes "&gt;" else if b == 38 then codes "&amp;" else b ∷ []

-- text with what would end it or begin an element escaped
abbrev pub escaped : Text → Text
escaped [] = []
escaped (b ∷ bs) = escaped_byte b ++ escaped bs

-- an attribute of an element, after a space
abbrev pub attribute : Text → ℕ → Text
attribute name n = codes " " ++ name ++ (codes "='" ++ decimal n) ++ codes "'"

-- the class of a style
abbrev pub style_word : Style → Text
style_word Style.Block = codes "block"
style_word Style.InHand = codes "hand"
style_word Style.Rooted = codes "root"
style_word Style.Cached = codes "cache"
style_word Style.Subpage = codes "subpage"
style_word Style.Open = codes "open"
style_word Style.Absent = codes "absent"
style_word Style.Allocates = codes "alloc"
style_word Style.Accesses = codes "access"
style_word Style.Counts = codes "count"
style_word Style.HandsOver = codes "send"
style_word Style.Names = codes "name"
style_word Style.Refused = codes "refused"
style_word Style.Closing = codes "closing"
style_word Style.Busy = codes "busy"
style_word Style.Life = codes "life"
style_word Style.Writes = codes "writes"
style_word Style.Reads = codes "reads"
style_word Style.Count = codes "line"
style_word Style.Axis = codes "axis"
style_word Style.Grid = codes "grid"
style_word Style.Heading = codes "heading"
style_word Style.Label = codes "label"
style_word Style.Small = codes "small"
style_word Style.Number = codes "number"
style_word Style.Middle = codes "middle"
style_word Style.Within = codes "within"
style_word Style.Faint = codes "faint"
style_word Style.Warning = codes "warning"

-- where a rectangle lies
abbrev pub area_text : Area → Text
area_text area =
    attribute (codes "x") area.x
    ++ attribute (codes "y") area.y
    ++ attribute (codes "width") area.width
    ++ attribute (codes "height") area.height

-- the end of a rectangle, with its title
abbrev pub title_text : Text → Text
title_text title = codes "><title>" ++ escaped title ++ codes "</title></rect>\n"

-- a rectangle
abbrev pub rect_text : Style → Area → Text → Text
rect_text style area title =
    (codes "<rect class='" ++ style_word style ++ codes "'") ++ area_text area ++ title_text title

-- words at a point
abbrev pub words_text : Style → ℕ → ℕ → Text → Text
words_text style x y words =
    (codes "<text class='" ++ style_word style ++ codes "'")
    ++ attribute (codes "x") x
    ++ attribute (codes "y") y
    ++ codes ">"
    ++ escaped words
    ++ codes "</text>\n"

abbrev pub mark_text : Mark → Text
mark_text (Mark.Rect style area title) = rect_text style area title
mark_text (Mark.Words style x y words) = words_text style x y words

-- the marks of a layer, one after another
abbrev pub layer_text : List Mark → Text
layer_text [] = []
layer_text (m ∷ ms) = mark_text m ++ layer_text ms

-- the part that is shown: all of this size
abbrev pub view_text : ℕ → ℕ → Text
view_text width height =
    (codes " viewBox='0 0 " ++ decimal width) ++ (codes " " ++ decimal height) ++ codes "'>\n"

-- the beginning of a picture of this size
abbrev pub open_text : ℕ → ℕ → Text
open_text width height =
    codes "<svg xmlns='http://www.w3.org/2000/svg'"
    ++ attribute (codes "width") (width / 10)
    ++ attribute (codes "height") (height / 10)
    ++ view_text width height

-- what stands before the layers of a picture of this size
abbrev pub head_text : ℕ → ℕ → Text
head_text width height =
    open_text width height
    ++ LOOKS.now
    ++ codes "<rect class='page' width='100%' height='100%'/>\n"

-- layers, the lowest first
abbrev pub layers_text : Drawing → Text
layers_text d =
    layer_text d.grid ++ layer_text d.ground ++ layer_text d.blocks ++ layer_text d.frame

-- the text of a picture: its head, its layers, and the end of the element
abbrev pub svg_of : Drawing → Text
svg_of d = head_text d.width d.height ++ layers_text d ++ codes "</svg>\n"
