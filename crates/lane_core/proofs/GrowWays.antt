-- Wherever a root is asked for capacity there are entries that the law reads.
use Rattle.std.proofs.Common.{◌≡◌, ℕ, [], ◌∷◌, ◌++◌, refl, ap, ◌∙◌, append_assoc, Option, Some, None, Ok, Err}
use Rattle.std.specs.Prelude.{Result}
use Rattle.size_classes.specs.Sizes.{class_of}
use Rattle.pool_law.specs.declared.id.RegionId.{RegionId}
use Rattle.pool_law.specs.declared.id.RootId.{RootId}
use Rattle.pool_law.specs.declared.note.Did.{Did}
use Rattle.pool_law.specs.declared.note.Note.{Note}
use Rattle.pool_law.specs.declared.note.Object.TheVariants.{Root}
use Rattle.pool_law.specs.declared.run.Reply.{Reply}
use Rattle.pool_law.specs.declared.run.Shape.{Shape}
use Rattle.pool_law.specs.Limits.{geometry_of}
use Rattle.pool_law.specs.Logs.{ToldNote}
use Rattle.pool_law.specs.Patterns.{ask_arena, give_back, grow_with, obtain, one_more, put_away, regrow}
use Rattle.pool_law.specs.Readers.{ToldNotes, Reader, ◌>>◌, give}
use Rattle.pool_law.proofs.PatternLemmas.{same_root-refl}
use Rattle.lane_stages.specs.declared.growing.Growing.{Growing}
use Rattle.lane_stages.specs.declared.growing.Growing.TheVariants.{Ask, Cache, Arena, Grow, Put, Give}
use Rattle.lane_stages.specs.Growings as growing
use Rattle.seat_work.specs.Readings.{ReadsOn}
use Rattle.lane_stages.specs.Readings.{none_asked}
use Rattle.lane_stages.proofs.GrowReads.{read_extended, read_grown}
use Rattle.lane_context.proofs.Ways.{HasWay, Taken, arena_way, give_back_way, give_way, obtain_way, put_away_way, then_way}

-- over these entries it goes on as one that can be read
on_way : {A : Type 0} (r q : Reader A) (es : ToldNotes) → ReadsOn r es none_asked q → HasWay q → HasWay r
on_way {A} r q es on way seen asked =
    let y : Taken A q (seen ++ es) asked = way (seen ++ es) asked in
    record {
      taken = es ++ y.taken;
      got = y.got;
      seen_then = y.seen_then;
      asked_then = y.asked_then;
      read = λ rest.
          ap (λ (left : ToldNotes). r (record { seen = seen; asked = asked; left = left }))
          (append_assoc es y.taken rest)
          ∙ on (record { seen = seen; asked = asked; left = y.taken ++ rest })
          ∙ y.read rest;
    }

module _ (root : RootId) (size : ℕ) where
  -- the root is extended
  regrow_way : (shape : Shape) (lane class : ℕ) → class_of (geometry_of shape) size ≡ Some class
      → HasWay (regrow shape lane root size)
  regrow_way shape lane class is =
      let did = Did.Extend size in
      let e : ToldNote = record { note = Note.At (Root root.place) 0 did; root = Some root; region = None } in
      let all : Result ℕ Reply = Ok size in
      on_way (regrow shape lane root size) (give all) (e ∷ [])
      (read_extended shape lane class size 0 root e (same_root-refl root) is refl) (give_way all)

  -- or it grows into the region
  grow_with_way : (region : Option RegionId) → HasWay (grow_with root size region)
  grow_with_way None = give_way (Err Reply.Full)
  grow_with_way (Some r) =
      let e : ToldNote = record {
        note = Note.At (Root root.place) 0 (Did.Grow size (one_more r));
        root = Some root;
        region = Some r;
      } in
      let all : Result ℕ Reply = Ok size in
      on_way (grow_with root size (Some r)) (put_away r >> give all) (e ∷ [])
      (read_grown size 0 root r e (same_root-refl root) r refl refl)
      (then_way (put_away r) (λ _. give all) (put_away_way r) (λ u. give_way all))

  -- from each stage on
  pub grow_from : (shape : Shape) (lane class : ℕ) → class_of (geometry_of shape) size ≡ Some class → (stage : Growing)
      → HasWay (growing.rest_of shape lane root size class stage)
  grow_from shape lane class is Ask = regrow_way shape lane class is
  grow_from shape lane class is Cache =
      then_way (obtain shape lane class) (grow_with root size) (obtain_way shape lane class) grow_with_way
  grow_from shape lane class is Arena =
      then_way (ask_arena shape lane class) (grow_with root size) (arena_way shape lane class) grow_with_way
  grow_from shape lane class is (Grow region) = grow_with_way (Some region.id)
  grow_from shape lane class is (Put capacity region) =
      then_way (put_away region.id) _ (put_away_way region.id) (λ u. give_way (Ok capacity))
  grow_from shape lane class is (Give capacity region) =
      then_way (give_back region.id) _ (give_back_way region.id) (λ u. give_way (Ok capacity))
