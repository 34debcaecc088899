use Rattle.std.proofs.Common.{◌≡◌, ℕ, ◌<◌, ◌≤◌, sym, subst, arith}
use Rattle.size_classes.specs.Pages.{run_start}
use Rattle.pool_law.specs.Chunks.{IsChunk}
use Rattle.pool_chunk.specs.ChunkStates.{ChunkState, IsInUse}
use Rattle.pool_chunk.specs.Held.{state_in}
use Rattle.pool_chunk.specs.declared.chunk.Chunk.TheInside.{Inside}
use Rattle.pool_chunk.proofs.StartLaws.{start-room, start-behind, start-found}
use Rattle.pool_chunk.proofs.chunk.Chunk.start_of.Goals as goal

-- the run, by the fields of the chunk
asked : (s : Inside) (v : ChunkState) (page : ℕ) → state_in s ≡ v → IsInUse v page → IsInUse (state_in s) page
asked s v page same h = subst (λ (x : ChunkState). IsInUse x page) (sym same) h

pub loop-self-init : goal.loop-self-init
loop-self-init c = λ h. record { from = h.from; within = omega arith }

pub index-requires : goal.index-requires
index-requires c =
    let h = asked c.self.inside c.args.self.now c.args.page c.self.view_is c.requires in
    start-room c.self.inside c.self.invariant c.args.page h c.loop-self.at (c.loop-self.invariant c.requires).within

-- a page at which nothing begins is behind the start of the run
behind : (c : goal.In-loop-self) (h : IsInUse c.args.self.now c.args.page) → h.start < c.loop-self.at
behind c =
    let P : ChunkState → Type 0 = λ v. (h : IsInUse v c.args.page) → h.start ≤ c.loop-self.at
    → h.start < c.loop-self.at in
    let all =
    subst P c.self.view_is (λ h from.
    start-behind c.self.inside c.self.invariant c.args.page h c.loop-self.at c.index.result.now from c.index.ensures
    (c.is_nothing.ensures.0 c.loop-self-test.true)) in
    λ h. all h (c.loop-self.invariant h).from

pub overflow_sub-at : goal.overflow_sub-at
overflow_sub-at c = omega (arith, behind c c.requires)

pub loop-self-smaller : goal.loop-self-smaller
loop-self-smaller c = omega (arith, behind c c.requires)

pub loop-self-preserved : goal.loop-self-preserved
loop-self-preserved c = λ h.
    record { from = omega (arith, behind c h); within = omega (arith, (c.loop-self.invariant h).within) }

pub returns-clause-start : goal.returns-clause-start
returns-clause-start c =
    let P : ChunkState → Type 0 =
    λ v. (h : IsInUse v c.args.page) → h.start ≤ c.loop-self.at → c.loop-self.at ≡ run_start c.args.page v.runs in
    let all =
    subst P c.self.view_is (λ h from.
    start-found c.self.inside c.self.invariant c.args.page h c.loop-self.at c.index.result.now from
    (c.loop-self.invariant c.requires).within c.index.ensures
    (λ nothing. absurd (cc (c.loop-self-test.false, c.is_nothing.ensures.1 nothing)))) in
    all c.requires (c.loop-self.invariant c.requires).from

pub returns-clause-before : goal.returns-clause-before
returns-clause-before c = (c.loop-self.invariant c.requires).within

pub returns-clause-chunk : goal.returns-clause-chunk
returns-clause-chunk c =
    let P : ChunkState → Type 0 = λ v. IsChunk v.geometry v.runs in
    subst P c.self.view_is c.self.invariant.runs.chunk
