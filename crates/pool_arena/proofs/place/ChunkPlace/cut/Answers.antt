use Rattle.std.proofs.Common.{◌≡◌, ℕ, sym, subst, true, Option}
use Rattle.std.specs.Prelude.{IfSome}
use Rattle.ground.specs.Ground.{Segment}
use Rattle.size_classes.specs.Pages.{taken_at}
use Rattle.pool_law.specs.Chunks.{Whole}
use Rattle.pool_chunk.specs.ChunkStates.{ChunkState, IsBytesAt, page_start}
use Rattle.pool_chunk.specs.Outcomes.{IsChosen, TakesRun}
use Rattle.pool_arena.specs.Places.{PlaceState, place_in, Cuts}
use Rattle.pool_arena.specs.declared.place.Wanted.{Wanted}
use Rattle.pool_arena.specs.declared.place.Cut.{Cut}
use Rattle.pool_arena.specs.declared.place.ChunkPlace.TheInside.{Inside}
use Rattle.pool_arena.proofs.PlaceLaws.{place-used, place-chunk, place-changed}
use Rattle.pool_arena.proofs.place.ChunkPlace.cut.Goals as goal
use Rattle.pool_arena.proofs.place.ChunkPlace.cut.Goals.{in-Some, in-None}

-- the run that the chunk gives is cut off the place
run-cut : (p : Inside) (v : PlaceState) (new : ChunkState) (pages word : ℕ) (piece : Segment) → place_in p ≡ v
    → p.used ≡ true
    → TakesRun p.chunk new pages piece word
    → Cuts v (Wanted.Run pages) (place_in (record { chunk = new; deed = p.deed; used = p.used })) (Cut.Run piece)
run-cut p v new pages word piece seen used takes =
    let same = place-chunk p v seen used in
    record {
      page = takes.page;
      long = takes.long;
      run = subst (λ (s : ChunkState). IsChosen s pages (takes.page, takes.long)) same takes.run;
      rest = place-changed p v new (taken_at takes.page pages Whole) seen used takes.rest;
      given =
          subst (λ (s : ChunkState). IsBytesAt s (page_start s takes.page) (page_start s pages) piece) same takes.piece;
    }

pub returns-after-take_run-clause-some : goal.returns-after-take_run-clause-some
returns-after-take_run-clause-some c =
    let p = c.self.inside in
    let v = c.args.self.now in
    let new = place_in (record { chunk = c.take_run.new.self; deed = p.deed; used = p.used }) in
    let used = place-used p v c.self.view_is c.requires.used in
    elim c.match-take_run.branch [
      | in-Some w ↦
          subst (λ (o : Option Cut). IfSome o (λ cut. Cuts v c.args.wanted new cut)) (sym w.result-is)
          (subst (λ (x : Wanted). Cuts v x new (Cut.Run w.in-Some.piece)) (sym c.in-Run.is)
          (run-cut p v c.take_run.new.self c.in-Run.pages _ w.in-Some.piece c.self.view_is used
          (w.in-Some.ensures {u = tt}).some))
      | in-None w ↦ subst (λ (o : Option Cut). IfSome o (λ cut. Cuts v c.args.wanted new cut)) (sym w.result-is) tt
    ]
