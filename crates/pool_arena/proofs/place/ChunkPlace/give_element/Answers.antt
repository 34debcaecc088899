use Rattle.std.proofs.Common.{◌≡◌, ◌∙◌, ap, refl, sym, subst, ℕ, Bool, true, false, Some}
use Rattle.std.specs.Prelude.{if◌then◌else◌}
use Rattle.ground.specs.Ground.{Segment}
use Rattle.size_classes.specs.Elements.{Elements, with_back, is_idle}
use Rattle.pool_chunk.specs.declared.chunk.Freed.{Freed}
use Rattle.pool_chunk.specs.Outcomes.{freed_by}
use Rattle.pool_chunk.specs.ChunkStates.{ChunkState, IsElementOut, with_elements}
use Rattle.pool_arena.specs.Places.{PlaceState, state_of, runs_of, with_chunk, place_in}
use Rattle.pool_arena.specs.declared.place.ChunkPlace.TheInside.{Inside}
use Rattle.pool_arena.proofs.PlaceLaws.{run-used, place-chunk, place-changed, place-held}
use Rattle.pool_arena.proofs.place.ChunkPlace.give_element.Goals as goal
use Rattle.pool_arena.proofs.place.ChunkPlace.give_element.Goals.{in-Idle, in-Element}

-- the element is out of the place's chunk
given : (p : Inside) (v : PlaceState) (page index : ℕ) (piece : Segment) → place_in p ≡ v
    → IsElementOut (state_of v) page index piece → IsElementOut p.chunk page index piece
given p v page index piece seen out =
    subst (λ (s : ChunkState). IsElementOut s page index piece)
    (sym (place-chunk p v seen (run-used p v page _ seen out.subpage.run))) out

pub give_element-requires : goal.give_element-requires
give_element-requires c =
    given c.self.inside c.args.self.now c.args.page c.args.index c.args.piece c.self.view_is c.requires

pub invariant_of-self : goal.invariant_of-self
invariant_of-self c =
    let p = c.self.inside in
    let v = c.args.self.now in
    let out = given p v c.args.page c.args.index c.args.piece c.self.view_is c.requires in
    place-held _ (c.self.invariant.deed ∙ ap (λ (s : ChunkState). s.origin) (sym (c.give_element.ensures.chunk out)))
    (run-used p v c.args.page _ c.self.view_is c.requires.subpage.run)

-- no element that comes back is told as a run
no_run : (e : Elements) (k : ℕ) (f : Freed) → f ≡ freed_by e k → f ≡ Freed.Run → ⊥
no_run e k f is run = by (is_idle (with_back e k)) refl
  where
    by : (idle : Bool) → is_idle (with_back e k) ≡ idle → ⊥
    by true e' = absurd (cc (is ∙ ap (λ (x : Bool). if x then Freed.Idle else Freed.Element) e', run))
    by false e' = absurd (cc (is ∙ ap (λ (x : Bool). if x then Freed.Idle else Freed.Element) e', run))

pub unreachable-requires : goal.unreachable-requires
unreachable-requires c =
    let out = given c.self.inside c.args.self.now c.args.page c.args.index c.args.piece c.self.view_is c.requires in
    no_run out.subpage.elements c.args.index c.give_element.result (c.give_element.ensures.freed out) c.in-Run.is

-- an element of a subpage that is back leaves it idle, or with others out
idle-or : (e : Elements) (k : ℕ) (f : Freed) (b : Bool) → f ≡ freed_by e k → (f ≡ Freed.Idle → b ≡ true)
    → (f ≡ Freed.Element → b ≡ false) → b ≡ is_idle (with_back e k)
idle-or e k f b is when_idle when_not = by (is_idle (with_back e k)) refl
  where
    by : (idle : Bool) → is_idle (with_back e k) ≡ idle → b ≡ is_idle (with_back e k)
    by true e' = when_idle (is ∙ ap (λ (x : Bool). if x then Freed.Idle else Freed.Element) e') ∙ sym e'
    by false e' = when_not (is ∙ ap (λ (x : Bool). if x then Freed.Idle else Freed.Element) e') ∙ sym e'

module _ (c : goal.Joined-give_element) where
  used : c.self.inside.used ≡ true
  used = run-used c.self.inside c.args.self.now c.args.page _ c.self.view_is c.requires.subpage.run

  seen : c.self.inside.chunk ≡ state_of c.args.self.now
  seen = place-chunk c.self.inside c.args.self.now c.self.view_is used

  -- what the chunk answers
  idle-of : (e : Elements) → c.give_element.result ≡ freed_by e c.args.index
      → c.match-give_element.result ≡ is_idle (with_back e c.args.index)
  idle-of e is =
      let idle = idle-or e c.args.index c.give_element.result c.match-give_element.result is in
      elim c.match-give_element.branch [
        | in-Idle w ↦ idle (λ _. w.result-is) (λ h. absurd (cc (w.in-Idle.is, h)))
        | in-Element w ↦ idle (λ h. absurd (cc (w.in-Element.is, h))) (λ _. w.result-is)
      ]

pub returns-clause-idle : goal.returns-clause-idle
returns-clause-idle c =
    subst (λ (s : ChunkState). (out : IsElementOut s c.args.page c.args.index c.args.piece)
    → c.match-give_element.result ≡ is_idle (with_back out.subpage.elements c.args.index))
    (seen c) (λ o. idle-of c o.subpage.elements (c.give_element.ensures.freed o))

pub returns-clause-chunk : goal.returns-clause-chunk
returns-clause-chunk c =
    let v = c.args.self.now in
    subst (λ (s : ChunkState). (out : IsElementOut s c.args.page c.args.index c.args.piece)
    → place_in (record { chunk = c.give_element.new.self; deed = c.self.inside.deed; used = c.self.inside.used })
    ≡ with_chunk v (Some (with_elements c.args.page out.subpage.class (with_back out.subpage.elements c.args.index)
    (runs_of v))))
    (seen c)
    (λ o. place-changed c.self.inside v c.give_element.new.self
    (λ runs. with_elements c.args.page o.subpage.class (with_back o.subpage.elements c.args.index) runs) c.self.view_is
    (used c)
    (c.give_element.ensures.chunk o))
