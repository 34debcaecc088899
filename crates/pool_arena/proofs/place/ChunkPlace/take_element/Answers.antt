use Rattle.std.proofs.Common.{◌≡◌, subst, refl, Bool, true, false, None, Some}
use Rattle.pool_chunk.specs.ChunkStates.{ChunkState, HasSubpage}
use Rattle.pool_arena.proofs.PlaceLaws.{run-used, place-chunk}
use Rattle.std.specs.Prelude.{◌↔◌, IsNone, Option}
use Rattle.size_classes.specs.Elements.{is_full}
use Rattle.pool_arena.proofs.place.ChunkPlace.take_element.Goals as goal

-- a subpage that is not full gives an element
none-left : {X : Type 0} (o : Option X) {b : Bool} → ((x : X) → o ≡ Some x → ⊥) → IsNone o ↔ (b ≡ true) → b ≡ false → ⊥
none-left None none full room = absurd (cc (full.0 refl, room))
none-left (Some x) none full room = none x refl

pub unreachable-requires : goal.unreachable-requires
unreachable-requires c =
    let p = c.self.inside in
    let v = c.args.self.now in
    let used = run-used p v c.args.page _ c.self.view_is c.requires.0.run in
    let full =
    subst (λ (s : ChunkState). (sub : HasSubpage s c.args.page)
    → IsNone c.take_element.result ↔ (is_full sub.elements ≡ true))
    (place-chunk p v c.self.view_is used) c.take_element.ensures.full in
    none-left c.take_element.result c.in_default.not-Some (full c.requires.0) c.requires.1
