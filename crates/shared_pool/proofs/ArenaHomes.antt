-- The home value of an arena: which it is, and what it stands for after a call.
use Rattle.std.proofs.Common.{◌≡◌, ℕ, ◌+◌, ◌≤◌, ◌<◌, List, [], ◌∷◌, ◌++◌, length, sym, ap, ◌∙◌, subst, refl, arith, true}
use Rattle.std.specs.Prelude.{Some, is_some, IsTrue}
use Rattle.step_law.specs.Settings.{Setting}
use Rattle.pool_law.specs.declared.run.Shape.{Shape}
use Rattle.pool_law.specs.declared.id.RegionId.{RegionId}
use Rattle.pool_law.specs.declared.note.Did.{Did}
use Rattle.pool_law.specs.declared.note.Did.TheVariants.{Take, Give}
use Rattle.pool_law.specs.declared.note.Noted.{Noted}
use Rattle.pool_law.specs.declared.note.Object.TheVariants.{Arena as ArenaOf}
use Rattle.pool_law.specs.Arenas.{Arena as ArenaLaw, new_arena, is_out_of}
use Rattle.pool_law.specs.Histories.{after}
use Rattle.pool_law.specs.NotedHistories.{noted_dids, IsRightAt, IsRightWatch}
use Rattle.pool_law.specs.Naming.{noted_by}
use Rattle.history_laws.specs.Histories.{IsLawful, IsArenaAfter}
use Rattle.history_laws.specs.Measures.{measures_of}
use Rattle.history_laws.proofs.Runs.{right_push}
use Rattle.ground.specs.Ground.{Segment}
use Rattle.size_classes.specs.Sizes.{IsPage, of_pages}
use Rattle.pool_law.specs.Places.{IsInPlace}
use Rattle.pool_law.proofs.PatternLemmas.{same_taking-refl}
use Rattle.std.proofs.lemmas.List.{length-map}
use Rattle.arena_laws.specs.Slots.{ArenaHolds}
use Rattle.arena_laws.specs.Takings.{TakenInOrder}
use Rattle.arena_laws.proofs.ArenaLaw.{new-holds, after-holds}
use Rattle.arena_laws.proofs.OutSlots.{out-slot}
use Rattle.arena_laws.proofs.TakingLaw.{after-numbers}
use Rattle.history_laws.specs.NoteCounts.{one_if_so}
use Rattle.pool_table.specs.Hands.{HasTaking, IsPutDown}
use Rattle.pool_table.specs.Learned.{did_take_up}
use Rattle.pool_arena.specs.ArenaStates.{ArenaState, law_of, IsOutOf, IsInPlaceAt, IsSameArena, Gives}
use Rattle.pool_arena.specs.Standing.{arena_told, IsOutIfGiven, StandsMore as ArenaStandsMore}
use Rattle.pool_arena.proofs.StandingLaws.{gives-stands}
use Rattle.step_law.specs.declared.Told.{Ghosts}
use Rattle.pool_table.specs.declared.views.Layout.{Layout}
use Rattle.pool_table.specs.declared.table.PoolSeat.{PoolSeat}
use Rattle.pool_table.specs.declared.table.Section.{Section}
use Rattle.pool_table.specs.Seats.{view_of}
use Rattle.pool_table.specs.Sections.{GotSection}
use Rattle.shared_pool.specs.declared.home.Home.{Home}
use Rattle.shared_pool.specs.declared.home.Home.TheVariants.{Arena, Cache, Bin, Root}
use Rattle.shared_pool.specs.Standing.{HomeStands, IsArenaAt, IsArena, IfArena, StandsMore}
use Rattle.shared_pool.specs.Notes.{plain}
use Rattle.shared_pool.proofs.Endings.{stood, IsNext, plain_watch}

-- an arena that stands for one note more is where it was
pub stood_more : (measures : List ℕ) (setting : Setting) (h : List Noted) (n : Noted) (d : Did) (old new : ArenaState)
    → n.did ≡ d → IsSameArena old new → ArenaStandsMore old d new →
    (at : IsArenaAt measures setting h old) → IsOutIfGiven (law_of old at.stands.out) d
    → IsArenaAt measures setting (h ++ n ∷ []) new
stood_more measures setting h n d old new is same more at out =
    record {
      measured =
          at.measured
          ∙ (λ i. 0 ∷ sym same.number i ∷ (sym same.geometry i).order ∷ (sym same.geometry i).page ∷ sym same.places i
          ∷ []);
      stands = more setting.grounds h n is at.stands out;
    }

-- takings are at most as many as the notes
takings-most : (number n : ℕ) (ds : List Did) (m : ℕ) → TakenInOrder number n ds m → m ≤ n + length ds
takings-most number n [] m is = omega (arith, is)
takings-most number n (Take class r ∷ ds) m is = let a = takings-most number (n + 1) ds m is.1 in omega (arith, a)
takings-most number n (d ∷ ds) m is = let a = takings-most number n ds m is in omega (arith, a)

pub is_arena : (setting : Setting) (h : List Noted) (number order page chunks : ℕ) (home : Home)
    → HomeStands (0 ∷ number ∷ order ∷ page ∷ chunks ∷ []) setting h home → IsArena home
is_arena setting h number order page chunks (Arena a) at = tt
is_arena setting h number order page chunks (Cache q) at = absurd (cc at.measured)
is_arena setting h number order page chunks (Bin b) at = absurd (cc at.measured)
is_arena setting h number order page chunks (Root s) at = absurd (cc at.measured)

-- the law's arena of the object is the one for which the value stands
pub as_told : (s : Shape) (setting : Setting) (number : ℕ) (h : List Noted) (a : ArenaState)
    → (at : IsArenaAt (measures_of s (ArenaOf number)) setting h a) → IsArenaAfter s number h (law_of a at.stands.out)
as_told s setting number h a at =
    subst (λ (x : ℕ × ℕ × ℕ × ℕ). arena_told (of_pages x.1 x.2) x.0 x.3 h ≡ Some (law_of a at.stands.out))
    (λ i. (sym number_is i, sym order_is i, sym page_is i, sym chunks_is i)) at.stands.told
  where
    number_is : number ≡ a.number
    number_is = cc at.measured

    order_is : s.order ≡ a.geometry.order
    order_is = cc at.measured

    page_is : s.page ≡ a.geometry.page
    page_is = cc at.measured

    chunks_is : s.chunks ≡ length a.chunks
    chunks_is = cc at.measured

pub arena_follows : (s : Shape) (setting : Setting) (number : ℕ) (h : List Noted) (n : Noted) (home : Home)
    → IsLawful s (ArenaOf number) h → IsArena home →
    HomeStands (measures_of s (ArenaOf number)) setting (h ++ n ∷ []) home → IsRightAt (ArenaOf number) h n
    → IsLawful s (ArenaOf number) (h ++ n ∷ [])
arena_follows s setting number h n (Arena a) t is at right =
    record {
      accepted = subst (λ o. IsTrue (is_some o)) (sym (as_told s setting number (h ++ n ∷ []) a.value at)) refl;
      right = right_push (ArenaOf number) h n t.right right;
    }
arena_follows s setting number h n (Cache q) t is at right = absurd is
arena_follows s setting number h n (Bin b) t is at right = absurd is
arena_follows s setting number h n (Root r) t is at right = absurd is

-- after a call on the arena its note follows, and the home value stands for it
module _ {G : Ghosts Home Noted} (l : Layout) (number : ℕ) (old new : PoolSeat Home G) (section : Section Home)
    (got : GotSection HomeStands l (ArenaOf number) old new section) (setting : Setting)
    (known : (view_of old).setting ≡ Some setting) where
  abbrev longer : Noted → List Noted
  longer n = got.history ++ noted_by (view_of old).own.number n ∷ []

  pub next : (after : Section Home) (did : Did) → after.object ≡ section.object → after.slot ≡ section.slot
      → IsArena after.home → (n : Noted) → n ≡ plain did
      → HomeStands (measures_of l.shape (ArenaOf number)) setting (longer n) after.home
      → IsNext l (ArenaOf number) old new section got setting known after n
  next after did same_object same_slot arena n is stands =
      record {
        same_object = same_object;
        same_slot = same_slot;
        follows =
            arena_follows l.shape setting number got.history (noted_by (view_of old).own.number n) after.home
            got.learned.accepted arena stands (
              ap (λ (x : Noted). x.root) is,
              ap (λ (x : Noted). x.region) is,
              subst
                  (λ (x : Noted). IsRightWatch x.did x.watch) (sym is) (plain_watch did),
            );
        stands = stands;
      }

  at_history : HomeStands (measures_of l.shape (ArenaOf number)) setting got.history section.home
  at_history = stood l (ArenaOf number) old new section got setting known

  -- a take follows
  pub next_take : (after : Section Home) (did : Did) → after.object ≡ section.object → after.slot ≡ section.slot
      → IsArena after.home → StandsMore section.home did after.home → (n : Noted) → n ≡ plain did
      → IsNext l (ArenaOf number) old new section got setting known after n
  next_take after did same_object same_slot arena more n is =
      next after did same_object same_slot arena n is
      (more (measures_of l.shape (ArenaOf number)) setting got.history (noted_by (view_of old).own.number n)
      (ap (λ (x : Noted). x.did) is) at_history)

  -- a region in hand is out of its arena
  is_out : (r : RegionId) → r.place.arena ≡ number → HasTaking r (view_of old) → (a : ArenaState)
      → (at : IsArenaAt (measures_of l.shape (ArenaOf number)) setting got.history a)
      → is_out_of (law_of a at.stands.out) r ≡ true
  is_out r here hand a at =
      got.learned.arena number (law_of a at.stands.out) refl (as_told l.shape setting number got.history a at) r here
      hand

  -- so a give of it follows
  pub next_give : (after : Section Home) (r : RegionId) → after.object ≡ section.object → after.slot ≡ section.slot
      → IsArena section.home → IsArena after.home → IfArena section.home (λ a. IfArena after.home (Gives a r))
      → r.place.arena ≡ number → HasTaking r (view_of old) → (n : Noted) → n ≡ plain (Give r)
      → IsNext l (ArenaOf number) old new section got setting known after n
  next_give after r same_object same_slot was arena gives here hand n is =
      next after (Give r) same_object same_slot arena n is (go section.home after.home was arena gives at_history)
    where
      go : (x y : Home) → IsArena x → IsArena y → IfArena x (λ a. IfArena y (Gives a r))
          → HomeStands (measures_of l.shape (ArenaOf number)) setting got.history x
          → HomeStands (measures_of l.shape (ArenaOf number)) setting (longer n) y
      go (Arena a) (Arena b) was arena gives at =
          stood_more (measures_of l.shape (ArenaOf number)) setting got.history (noted_by (view_of old).own.number n)
          (Give r) a.value b.value (ap (λ (x : Noted). x.did) is) gives.same (gives-stands a.value b.value r gives)
          at (is_out r here hand a.value at)
      go (Arena a) (Cache y) was arena gives at = absurd arena
      go (Arena a) (Bin y) was arena gives at = absurd arena
      go (Arena a) (Root y) was arena gives at = absurd arena
      go (Cache x) y was arena gives at = absurd was
      go (Bin x) y was arena gives at = absurd was
      go (Root x) y was arena gives at = absurd was

  -- and it is a run or an element in use there
  pub out_of : IsPage l.shape.page → (r : RegionId) → r.place.arena ≡ number → HasTaking r (view_of old)
      → IfArena section.home (λ a. IsOutOf a r)
  out_of page r here hand = go section.home at_history
    where
      go : (x : Home) → HomeStands (measures_of l.shape (ArenaOf number)) setting got.history x
          → IfArena x (λ a. IsOutOf a r)
      go (Arena a) at =
          let s : ArenaState = a.value in let x : ArenaLaw = law_of s at.stands.out in
          let number_is : number ≡ s.number = cc at.measured in
          let page_is : l.shape.page ≡ s.geometry.page = cc at.measured in
          let first : ArenaLaw = new_arena s.geometry (length s.chunks) in
          let new : ArenaHolds s.geometry s.number first =
          new-holds s.geometry s.number (subst IsPage page_is page) (length s.chunks) in
          let holds : ArenaHolds s.geometry s.number x =
          after-holds s.geometry s.number (noted_dids got.history) first x new at.stands.told in
          (here ∙ number_is, out-slot s.geometry s.number x r holds (is_out r here hand s at))
      go (Cache x) at = tt
      go (Bin x) at = tt
      go (Root x) at = tt

  -- an arena has made fewer takings than may ever be noted
  pub few_takings : IfArena section.home (λ a. a.takings < 9223372036854775808)
  few_takings = go section.home at_history
    where
      go : (x : Home) → HomeStands (measures_of l.shape (ArenaOf number)) setting got.history x
          → IfArena x (λ a. a.takings < 9223372036854775808)
      go (Arena a) at =
          let s : ArenaState = a.value in
          let order = after-numbers s.geometry s.number (noted_dids got.history)
          (new_arena s.geometry (length s.chunks)) (law_of s at.stands.out) at.stands.told in
          let most = takings-most s.number 0 (noted_dids got.history) s.takings order in
          let many = length-map got.history (λ (n : Noted). n.did) in
          let short = got.learned.short in omega (arith, most, many, short)
      go (Cache x) at = tt
      go (Bin x) at = tt
      go (Root x) at = tt

  -- a region in place on the arena's grounds is in place on those of the setting
  pub on_ground : (r : RegionId) (piece : Segment) → IsArena section.home
      → IfArena section.home (λ a. IsInPlaceAt a r piece) → IsInPlace setting.grounds r.place piece
  on_ground r piece was place = go section.home was place at_history
    where
      go : (x : Home) → IsArena x → IfArena x (λ a. IsInPlaceAt a r piece)
          → HomeStands (measures_of l.shape (ArenaOf number)) setting got.history x
          → IsInPlace setting.grounds r.place piece
      go (Arena a) was place at = place setting.grounds at.stands.on
      go (Cache x) was place at = absurd was
      go (Bin x) was place at = absurd was
      go (Root x) was place at = absurd was

  -- a taking that may come next isn't in hand
  pub not_yet : (after : Section Home) (n : Noted) (class : ℕ) (r : RegionId) → n ≡ plain (Take class r)
      → IsNext l (ArenaOf number) old new section got setting known after n → IsPutDown r (view_of old)
  not_yet after n class r is follows =
      got.learned.free r (noted_by (view_of old).own.number n) follows.follows
      (subst (λ (x : Noted). 0 < did_take_up r (noted_by (view_of old).own.number x)) (sym is)
      (subst (λ b. 0 < one_if_so b + (0 + 0)) (sym (same_taking-refl r)) (omega arith)))
