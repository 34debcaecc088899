-- That the line of a note tells what the note says of roots and regions.
use Rattle.std.proofs.Common.{◌≡◌, ℕ, ◌≢◌, ◌<◌, ◌+◌, List, [], ◌∷◌, ◌++◌, length, get_or, map, take, Option, Some, None, refl, sym, ap, ◌∙◌, arith, subst, ◌≤◌}
use Rattle.std.specs.List.{All}
use Rattle.std.proofs.lemmas.List.{get_or-map, length-map, take_all, take_more}
use Rattle.std.proofs.lemmas.List.Elements.{All-cons}
use Rattle.std.specs.Option.{option_map}
use Rattle.pool_law.specs.declared.id.RegionId.{RegionId}
use Rattle.pool_law.specs.declared.note.Did.{Did}
use Rattle.pool_law.specs.declared.note.Note.{Note}
use Rattle.pool_law.specs.declared.note.Object.{Object}
use Rattle.run_text.specs.Told.{FitsNote, Kind, did_told, kind_done, kind_of}
use Rattle.run_text.specs.Lines.{AreTold, IsDidTold, IsTold, Line, begun_by, born_by, formed, place_of, said, taken_by}
use Rattle.run_text.specs.Knowing.{Tells, TellsTaking, TellsUse, begin_at, birth_at, line_told}
use Rattle.run_text.proofs.KnownLemmas.{told_of}

-- what is done to other objects takes no region, bears no root and begins no use
takes_none : (did : Did) (kind : Kind) → kind_done did ≡ kind → kind ≢ Kind.OfArena → taken_by (said did) ≡ None
takes_none (Did.Take class region) kind is apart = absurd (apart (sym is))
takes_none did kind is apart = refl

bears_none : (did : Did) (kind : Kind) → kind_done did ≡ kind → kind ≢ Kind.OfRoot → born_by (said did) ≡ None
bears_none (Did.Birth root region) kind is apart = absurd (apart (sym is))
bears_none did kind is apart = refl

begins_none : (did : Did) (kind : Kind) → kind_done did ≡ kind → kind ≢ Kind.OfRoot → begun_by (said did) ≡ None
begins_none (Did.Birth root region) kind is apart = absurd (apart (sym is))
begins_none (Did.Grow capacity region) kind is apart = absurd (apart (sym is))
begins_none did kind is apart = refl

no_use : (object : Object) (number : ℕ) (did : Did) → kind_done did ≡ kind_of object
    → birth_at object (did_told did) ≡ None → begin_at object number (did_told did) ≡ None
    → kind_of object ≢ Kind.OfRoot → TellsUse (Note.At object number did)
no_use object number did kind birth begin apart = (
  birth ∙ sym (bears_none did (kind_of object) kind apart),
  begin ∙ sym (ap (λ (o : Option RegionId). option_map told_of (option_map (λ r. ((place_of object, number), r)) o))
      (begins_none did (kind_of object) kind apart)),
)

module _ (arenas : ℕ) (all before : List Line) (lane : ℕ) where
  taking_done : (object : Object) (number : ℕ) (did : Did) → kind_done did ≡ kind_of object
      → IsDidTold arenas all before lane object did → TellsTaking lane (Note.At object number did)
  taking_done (Object.Arena arena) number (Did.Take class region) kind told =
      let same : arena ≡ region.place.arena = let is = told.1 in cc in
      (told.0, ap Some (told.2 ∙ (λ k. formed lane (sym same k) class region)))
  taking_done (Object.Arena arena) number did kind told = refl
  taking_done (Object.Cache owner class) number did kind told = takes_none did Kind.OfCache kind (λ e. cc)
  taking_done (Object.Bin owner) number did kind told = takes_none did Kind.OfBin kind (λ e. cc)
  taking_done (Object.Mail from to) number did kind told = takes_none did Kind.OfMail kind (λ e. cc)
  taking_done (Object.Root place) number did kind told = takes_none did Kind.OfRoot kind (λ e. cc)

  use_done : (object : Object) (number : ℕ) (did : Did) → kind_done did ≡ kind_of object
      → IsDidTold arenas all before lane object did → TellsUse (Note.At object number did)
  use_done (Object.Root place) number (Did.Birth root region) kind told =
      let same : place ≡ root.place = let is = told.0 in cc in
      (λ k. Some (record { place = same k; generation = root.generation; capacity = root.capacity }), refl)
  use_done (Object.Root place) number did kind told = (refl, refl)
  use_done (Object.Arena arena) number did kind told = no_use (Object.Arena arena) number did kind refl refl (λ e. cc)
  use_done (Object.Cache owner class) number did kind told = no_use (Object.Cache owner class) number did kind refl
      refl (λ e. cc)
  use_done (Object.Bin owner) number did kind told = no_use (Object.Bin owner) number did kind refl refl (λ e. cc)
  use_done (Object.Mail from to) number did kind told = no_use (Object.Mail from to) number did kind refl refl
      (λ e. cc)

  -- a note that is told so tells what it says
  pub tells : (note : Note) → FitsNote note → IsTold arenas all before lane note → Tells (lane, note)
  tells (Note.At object number did) fits told =
      (taking_done object number did fits.3 told, use_done object number did fits.3 told)
  tells (Note.Ref root did) fits told = (refl, (refl, refl))
  tells (Note.Busy held) fits told = (refl, (refl, refl))

-- lines that are told so tell what they say
pub all_tell : (arenas : ℕ) (all before lines : List Line) → AreTold arenas all before lines → All Tells lines
all_tell arenas all before [] told = λ k d low. absurd (omega (arith, low))
all_tell arenas all before (line ∷ lines) told =
    All-cons Tells line lines (tells arenas all before line.0 line.1 told.0 told.1)
    (all_tell arenas all (before ++ line ∷ []) lines told.2)

-- what stands at a place of them
module _ (arenas : ℕ) (lines told : List Line) (is : told ≡ map line_told lines) (are : AreTold arenas lines [] lines)
    (i : ℕ) where
  same_length : length told ≡ length lines
  same_length = ap length is ∙ length-map lines line_told

  pub all_taken : length told ≤ i → take i lines ≡ lines
  all_taken high = take_all i lines (omega (arith, high, same_length))

  module _ (low : i < length told) (e x : Line) (item : x ≡ get_or told i e) where
    below : i < length lines
    below = omega (arith, low, same_length)

    pub line_at : x ≡ line_told (get_or lines i x)
    line_at = item ∙ ap (λ (t : List Line). get_or t i e) is ∙ get_or-map line_told lines i x e below

    pub taking_at_line : TellsTaking x.0 (get_or lines i x).1
    taking_at_line =
        subst (λ (lane : ℕ). TellsTaking lane (get_or lines i x).1) (sym (ap (λ (l : Line). l.0) line_at))
        (all_tell arenas lines [] lines are i x below).0

    pub use_at_line : TellsUse (get_or lines i x).1
    use_at_line = (all_tell arenas lines [] lines are i x below).1

    pub one_more : take i lines ++ (x.0, (get_or lines i x).1) ∷ [] ≡ take (i + 1) lines
    one_more =
        (λ k. take i lines ++ ((line_at k).0, (get_or lines i x).1) ∷ []) ∙ sym (take_more lines i x below)
