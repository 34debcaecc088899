-- How often a region was used, as the lines tell it: before a hit those of its lane, and at a shed all.
use Rattle.std.proofs.Common.{⊎_elim, inl, inr, ◌≡◌, ℕ, ◌+◌, ◌<◌, ◌≤◌, List, ◌∷◌, ◌++◌, length, Option, Some, None, true, refl, sym, ap, subst, arith, ◌∙◌}
use Rattle.std.specs.Prelude.{◌⊎◌, slice_get}
use Rattle.std.specs.Option.{option_map}
use Rattle.std.proofs.lemmas.Bool.{cases_lt}
use Rattle.pool_law.specs.declared.id.RegionId.{RegionId}
use Rattle.pool_law.specs.declared.id.RootId.{RootId}
use Rattle.pool_law.specs.declared.note.Note.{Note}
use Rattle.pool_law.specs.declared.note.Note.TheVariants.{At}
use Rattle.pool_law.specs.declared.run.Shape.{Shape}
use Rattle.pool_law.specs.Lives.{Event, Happening, Happens, Life, Begins, Sheds, Takes, Got, IsAmong, RegionsLive, StandsAt, region_of}
use Rattle.pool_law.specs.Logs.{Logs}
use Rattle.pool_law.specs.Same.{same_taking}
use Rattle.pool_law.proofs.PatternLemmas.{same_taking-refl}
use Rattle.arena_laws.proofs.SlotLemmas.{three}
use Rattle.run_laws.proofs.Doings.{Does, told}
use Rattle.run_laws.proofs.LifeLaw.{Uses}
use Rattle.run_laws.proofs.LogEntries.{LanesAct}
use Rattle.run_laws.proofs.OverlapLaw.{Reaches}
use Rattle.run_laws.proofs.PagedHistories.{HistoriesPaged}
use Rattle.run_order.specs.Order.{InOneOrder}
use Rattle.run_order.proofs.Positions.{later-in_log, place}
use Rattle.order_laws.proofs.Events.{reaches-later, when}
use Rattle.run_text.specs.Lines.{Begun, Line, begun, keyed, last, place_of, taking_key, told_from, uses_in, with_uses}
use Rattle.text_laws.proofs.BegunTold.{begun-note, begun_at, uses-begun}
use Rattle.text_laws.proofs.LastSays.{LastOf, keyed-own, keyed-some, last-or}
use Rattle.text_laws.proofs.LifeOrder.{Ahead, UseOf, among-happens, compare, shed-last, use-of, uses_of}
use Rattle.text_laws.proofs.OwnersTold.{use-happens, use-owner}
use Rattle.text_laws.proofs.TakingsTold.{one-taken}
use Rattle.text_laws.proofs.TextPlaces.{Placed, ahead, front-below, front-there, here, placed-at, there-at, there-front}

-- what the lines say of the uses of a taking
abbrev pub says_use : ℕ × ℕ → Line → Option Begun
says_use key line = keyed (λ b. taking_key b.1) key (begun line.1)

module _ (logs : Logs) (order : InOneOrder logs) where
  -- of two notes of a log the earlier stands earlier
  at-less : (lane a b : ℕ) (n : Note) → StandsAt logs lane a n → place logs order lane a < place logs order lane b
      → a < b
  at-less lane a b n s less =
      ⊎_elim (λ low. low)
      (λ rest. ⊎_elim (λ equal. absurd (omega (arith, less, ap (place logs order lane) equal)))
      (λ high. absurd (omega (arith, less, later-in_log logs order lane b a n s high))) rest)
      (three a b)

module _ (shape : Shape) (logs : Logs) (holds : HistoriesPaged shape logs) (acts : LanesAct logs)
    (lives : RegionsLive logs) (order : InOneOrder logs) (t : Happening) (h : Happens logs t)
    (no_take : (c : ℕ) (x : RegionId) → t.move ≡ Takes c x → ⊥)
    (no_use : (q : RootId) (x : RegionId) → t.move ≡ Begins q x → ⊥) where
  abbrev r : RegionId
  r = region_of t.move

  -- a line that tells of a use of its taking
  pub record UseLine (j : ℕ) (l : Line) (b : Begun) : Type 0 where
    pub event : Event
    pub root : RootId
    pub lane : event.lane ≡ l.0
    pub index : j ≡ ahead l.0 logs + event.at
    pub owner : b.1.owner ≡ l.0
    pub happened : Happens logs (record { event = event; move = Begins root b.1 })
    pub one : with_uses 0 b.1 ≡ with_uses 0 r

  pub use-line : (j : ℕ) (l : Line) (b : Begun) → slice_get (told_from 0 logs) j ≡ Some l
      → says_use (taking_key r) l ≡ Some b → UseLine j l b
  use-line j l b there says =
      let k = keyed-some (λ (x : Begun). taking_key x.1) (taking_key r) (begun l.1) b says in
      let m = begun-note l.1 b k.0 in
      let p : Placed logs j l = placed-at logs j l there in
      let stands : StandsAt logs l.0 p.at (At m.0 m.1 m.2) = p.stands ∙ ap (λ x. Some x) m.3 in
      let u = use-happens shape logs holds acts
      (record { object = m.0; did = m.2; lane = l.0; at = p.at; number = m.1 }) b.1 stands m.5 in
      record {
        event = record { object = m.0; did = m.2; lane = l.0; at = p.at; number = m.1 };
        root = u.0;
        lane = refl;
        index = p.place;
        owner = use-owner shape logs holds acts l.0 p.at m.1 m.0 m.2 b.1 stands m.5;
        happened = u.1;
        one =
            one-taken shape logs holds acts lives
            (record {
              event = record { object = m.0; did = m.2; lane = l.0; at = p.at; number = m.1 };
              move = Begins u.0 b.1;
            })
            t u.1 h k.1;
      }

  -- ---- All of it is of one life.

  life : Life logs (with_uses 0 r)
  life = lives t h

  later : (u : Happening) → Happens logs u → same_taking (with_uses 0 r) (region_of u.move) ≡ true
      → ((c : ℕ) (x : RegionId) → u.move ≡ Takes c x → ⊥) → IsAmong u life.later
  later u g taking other =
      ⊎_elim
      (λ (same : u ≡ life.take).
      absurd (other (with_uses 0 r).class (with_uses 0 r) (ap (λ (z : Happening). z.move) same ∙ life.taken)))
      (λ among. among)
      (life.all u g taking)

  at_t : IsAmong t life.later
  at_t = later t h (same_taking-refl r) no_take

  abbrev as_use : (j : ℕ) (l : Line) (b : Begun) → UseLine j l b → Happening
  as_use j l b u = record { event = u.event; move = Begins u.root b.1 }

  at_use : (j : ℕ) (l : Line) (b : Begun) (u : UseLine j l b) → IsAmong (as_use j l b u) life.later
  at_use j l b u =
      later (as_use j l b u) u.happened
      (ap (same_taking (with_uses 0 r)) u.one ∙ same_taking-refl (with_uses 0 r)) (λ c x e. cc e)

  before : (u v : Happening) → Happens logs u → Happens logs v → Reaches logs u.event v.event
      → when logs order u.event < when logs order v.event
  before u v g f reaches = reaches-later logs order u.event v.event g.stands f.stands reaches

  -- what was used before it has no more uses
  pub use-or : (j : ℕ) (l : Line) (b : Begun) (u : UseLine j l b)
      → (b.1.uses ≤ r.uses) ⊎ (when logs order t.event < when logs order u.event)
  use-or j l b u =
      ⊎_elim
      (λ same. absurd (no_use u.root b.1 (ap (λ (z : Happening). z.move) (sym same))))
      (λ rest. ⊎_elim (λ (a : Ahead logs (as_use j l b u) t). inl a.least)
      (λ (a : Ahead logs t (as_use j l b u)). inr (before t (as_use j l b u) h u.happened a.order)) rest)
      (compare logs Got (with_uses 0 r) life.take life.later (as_use j l b u) t life.lives life.order
      (at_use j l b u) at_t)

  -- each use comes before a shed
  pub use-shed : (x : RegionId) → t.move ≡ Sheds x → (j : ℕ) (l : Line) (b : Begun) (u : UseLine j l b)
      → b.1.uses ≤ r.uses
  use-shed x sheds j l b u =
      ⊎_elim (λ low. low)
      (λ high. absurd (omega (
        arith,
        high,
        before (as_use j l b u) t u.happened h
            (shed-last logs Got (with_uses 0 r) life.take life.later t (as_use j l b u) x u.root b.1 life.lives
            life.order at_t (at_use j l b u) sheds refl),
      )))
      (use-or j l b u)

  -- lines tell of uses in their order
  uses-rise : (j k : ℕ) (l m : Line) (b d : Begun) → UseLine j l b → UseLine k m d → b.1.uses < d.1.uses → j < k
  uses-rise j k l m b d u v less =
      ⊎_elim
      (λ same. absurd (omega (arith, less, ap uses_of same)))
      (λ rest. ⊎_elim
      (λ (a : Ahead logs (as_use j l b u) (as_use k m d v)).
      rise (before (as_use j l b u) (as_use k m d v) u.happened v.happened a.order))
      (λ (a : Ahead logs (as_use k m d v) (as_use j l b u)). absurd (omega (arith, less, a.least))) rest)
      (compare logs Got (with_uses 0 r) life.take life.later (as_use j l b u) (as_use k m d v) life.lives life.order
      (at_use j l b u) (at_use k m d v))
    where
      lanes : l.0 ≡ m.0
      lanes =
          sym u.owner ∙ ap (λ (x : RegionId). x.owner) u.one ∙ sym (ap (λ (x : RegionId). x.owner) v.one) ∙ v.owner

      rise : when logs order u.event < when logs order v.event → j < k
      rise first =
          let own : u.event.lane ≡ v.event.lane = u.lane ∙ lanes ∙ sym v.lane in
          let moment : place logs order u.event.lane v.event.at ≡ when logs order v.event =
          ap (λ (x : ℕ). place logs order x v.event.at) own in
          let low : u.event.at < v.event.at =
          at-less logs order u.event.lane u.event.at v.event.at
          (At u.event.object u.event.number u.event.did) u.happened.stands (omega (arith, first, moment)) in
          omega (arith, u.index, v.index, low, ap (λ (x : ℕ). ahead x logs) lanes)

  -- the line of the use that gave the region its uses
  pub record LineOf : Type 0 where
    pub lane : ℕ
    pub at : ℕ
    pub note : Note
    pub begun_is : Begun
    pub stands : StandsAt logs lane at note
    pub says : says_use (taking_key r) (lane, note) ≡ Some begun_is
    pub uses : begun_is.1.uses ≡ r.uses
    pub first : place logs order lane at < when logs order t.event

  as-uses : (q : RootId) (x : RegionId) (e : Event) → Does logs (Begins q x) e → Uses x e.did
  as-uses q x e (inl is) = inl (q, is)
  as-uses q x e (inr g) = inr (g.0, g.1)

  use-before : 0 < r.uses → LineOf
  use-before more =
      let u : UseOf logs (with_uses 0 r) life.later t =
      use-of logs Got (with_uses 0 r) life.take life.later t life.lives life.order at_t more in
      let g : Happens logs u.begin = among-happens logs life.take life.later u.begin life.order u.among in
      let does : Does logs (Begins u.root u.region) u.begin.event =
      subst (λ m. Does logs m u.begin.event) u.is (told logs u.begin g) in
      record {
        lane = u.begin.event.lane;
        at = u.begin.event.at;
        note = At u.begin.event.object u.begin.event.number u.begin.event.did;
        begun_is = begun_at (place_of u.begin.event.object) u.begin.event.number u.region;
        stands = g.stands;
        says =
            keyed-own (λ (x : Begun). taking_key x.1) (taking_key r)
            (begun (At u.begin.event.object u.begin.event.number u.begin.event.did))
            (begun_at (place_of u.begin.event.object) u.begin.event.number u.region)
            (ap (λ (o : Option RegionId). option_map (begun_at (place_of u.begin.event.object) u.begin.event.number) o)
            (uses-begun u.begin.event.did u.region (as-uses u.root u.region u.begin.event does)))
            (ap taking_key u.taking);
        uses = u.uses;
        first =
            ⊎_elim
            (λ same. absurd (no_use u.root u.region (ap (λ (z : Happening). z.move) (sym same) ∙ u.is)))
            (λ reaches. before u.begin t g h reaches)
            u.order;
      }

  line-of : (f : LineOf) → UseLine (ahead f.lane logs + f.at) (f.lane, f.note) f.begun_is
  line-of f =
      use-line (ahead f.lane logs + f.at) (f.lane, f.note) f.begun_is (there-at logs f.lane f.at f.note f.stands) f.says

  -- ---- What lines tell that have this line, and none of a use with more.

  told-uses : (lines : List Line)
      → ((j : ℕ) (l : Line) → slice_get lines j ≡ Some l → slice_get (told_from 0 logs) j ≡ Some l)
      → ((j : ℕ) (l : Line) (b : Begun) → UseLine j l b → slice_get lines j ≡ Some l → b.1.uses ≤ r.uses)
      → ((f : LineOf) → slice_get lines (ahead f.lane logs + f.at) ≡ Some (f.lane, f.note))
      → uses_in (last (says_use (taking_key r)) lines) ≡ r.uses
  told-uses lines there most inside =
      ⊎_elim
      (λ still. ⊎_elim
      (λ more.
      let f : LineOf = use-before more in
      let both : ◌≡◌ {A = Option Begun} None (Some f.begun_is) =
      sym (still.1 (ahead f.lane logs + f.at) (f.lane, f.note) (inside f)) ∙ f.says in
      absurd (cc both))
      (λ none. let zero_uses : 0 ≡ r.uses = omega (arith, none) in ap uses_in still.0 ∙ zero_uses)
      (cases_lt 0 r.uses))
      (λ found. ap uses_in found.1 ∙ by found.0 found.2)
      (last-or (says_use (taking_key r)) lines)
    where
      by : (b : Begun) → LastOf (says_use (taking_key r)) lines b → b.1.uses ≡ r.uses
      by b a =
          let u : UseLine a.at a.line b = use-line a.at a.line b (there a.at a.line a.there) a.is in
          ⊎_elim
          (λ less.
          let f : LineOf = use-before (omega (arith, less)) in
          let low : a.at < ahead f.lane logs + f.at =
          uses-rise a.at (ahead f.lane logs + f.at) a.line (f.lane, f.note) b f.begun_is u (line-of f)
          (omega (arith, less, f.uses)) in
          let both : ◌≡◌ {A = Option Begun} None (Some f.begun_is) =
          sym (a.none (ahead f.lane logs + f.at) (f.lane, f.note) low (inside f)) ∙ f.says in
          absurd (cc both))
          (λ high. omega (arith, high, most a.at a.line b u a.there))
          (cases_lt b.1.uses r.uses)

  -- at a shed all lines
  pub shed-uses : (x : RegionId) → t.move ≡ Sheds x
      → uses_in (last (says_use (taking_key r)) (told_from 0 logs)) ≡ r.uses
  shed-uses x sheds =
      told-uses (told_from 0 logs) (λ j l e. e) (λ j l b u e. use-shed x sheds j l b u)
      (λ f. there-at logs f.lane f.at f.note f.stands)

  -- at a hit those before it
  module _ (front back : List Line) (line : Line) (is : told_from 0 logs ≡ front ++ line ∷ back)
      (lane_is : t.event.lane ≡ line.0) (at_is : t.event.at ≡ (here logs front back line is).at)
      (owner_is : r.owner ≡ line.0) where
    own-lane : (j : ℕ) (l : Line) (b : Begun) → UseLine j l b → l.0 ≡ line.0
    own-lane j l b u = sym u.owner ∙ ap (λ (x : RegionId). x.owner) u.one ∙ owner_is

    front-most : (j : ℕ) (l : Line) (b : Begun) → UseLine j l b → slice_get front j ≡ Some l → b.1.uses ≤ r.uses
    front-most j l b u e =
        ⊎_elim (λ low. low)
        (λ high.
        let own : l.0 ≡ line.0 = own-lane j l b u in
        let lanes : u.event.lane ≡ t.event.lane = u.lane ∙ own ∙ sym lane_is in
        let below : j < length front = front-below logs front back line is j l e in
        let place_is : length front ≡ ahead line.0 logs + (here logs front back line is).at =
        (here logs front back line is).place in
        let low : u.event.at < t.event.at =
        omega (arith, below, place_is, u.index, at_is, ap (λ (x : ℕ). ahead x logs) own) in
        let earlier : place logs order t.event.lane u.event.at < when logs order t.event =
        later-in_log logs order t.event.lane u.event.at t.event.at (At t.event.object t.event.number t.event.did)
        h.stands low in
        absurd (omega (arith, high, earlier, ap (λ (x : ℕ). place logs order x u.event.at) lanes)))
        (use-or j l b u)

    front-inside : (f : LineOf) → slice_get front (ahead f.lane logs + f.at) ≡ Some (f.lane, f.note)
    front-inside f =
        let own : f.lane ≡ line.0 =
        own-lane (ahead f.lane logs + f.at) (f.lane, f.note) f.begun_is (line-of f) in
        let lanes : f.lane ≡ t.event.lane = own ∙ sym lane_is in
        let moment : place logs order f.lane t.event.at ≡ when logs order t.event =
        ap (λ (x : ℕ). place logs order x t.event.at) lanes in
        let low : f.at < t.event.at =
        at-less logs order f.lane f.at t.event.at f.note f.stands (omega (arith, f.first, moment)) in
        let place_is : length front ≡ ahead line.0 logs + (here logs front back line is).at =
        (here logs front back line is).place in
        there-front logs front back line is (ahead f.lane logs + f.at) (f.lane, f.note)
        (there-at logs f.lane f.at f.note f.stands)
        (omega (arith, low, at_is, place_is, ap (λ (x : ℕ). ahead x logs) own))

    pub hit-uses : uses_in (last (says_use (taking_key r)) front) ≡ r.uses
    hit-uses = told-uses front (front-there logs front back line is) front-most front-inside
