-- A region returns after the end of its use, and before another use begins on its bytes.
use Rattle.std.proofs.Common.{⊎_elim, inl, inr, ◌≡◌, ℕ, ◌≤◌, true, List, ◌∷◌, ◌++◌, length, take, refl, sym, ap, subst, arith, Some, ◌∙◌}
use Rattle.std.specs.Prelude.{◌<◌, ◌⊎◌, slice_get, IsTrue}
use Rattle.pool_law.specs.declared.id.RootId.{RootId}
use Rattle.pool_law.specs.declared.id.RegionId.{RegionId}
use Rattle.pool_law.specs.declared.note.Object.{Object}
use Rattle.pool_law.specs.declared.note.Did.{Did}
use Rattle.pool_law.specs.declared.note.Did.TheVariants.{Give, Kept, Birth, Grow}
use Rattle.pool_law.specs.declared.note.Note.{Note}
use Rattle.pool_law.specs.declared.note.Note.TheVariants.{At}
use Rattle.pool_law.specs.declared.run.Run.{Run}
use Rattle.pool_law.specs.Places.{Overlap}
use Rattle.pool_law.specs.Same.{same_taking}
use Rattle.pool_law.specs.Logs.{Logs}
use Rattle.pool_law.specs.Counts.{ends_root}
use Rattle.pool_law.specs.Legal.{IsLegal, logs_of}
use Rattle.pool_law.specs.Lives.{with_uses, Event, Stands, Happening, Happens, Move, Takes, Gives, Keeps, Begins, Leaves, Got, IsAmong, IsUse, Life, region_of}
use Rattle.pool_law.specs.Apart.{Before}
use Rattle.pool_law.proofs.SameLemmas.{same_region-is}
use Rattle.pool_law.proofs.PatternLemmas.{same_region-refl, same_taking-refl}
use Rattle.pool_law.proofs.ListLemmas.{get-behind, front-is}
use Rattle.run_laws.proofs.Doings.{Does, told, happens}
use Rattle.run_laws.proofs.EventLaw.{the}
use Rattle.run_laws.proofs.HandMoves.{growth-finds}
use Rattle.run_laws.proofs.PlaceMoves.{LeftBy}
use Rattle.run_laws.proofs.OverlapLaw.{Reaches, among-after, no-take, the_use, use-happens}
use Rattle.run_laws.proofs.PagedHistories.{paged}
use Rattle.run_laws.proofs.UseEndings.{left-ends, left-same, ends-how}
use Rattle.run_laws.proofs.TakingUses.{begins-use}
use Rattle.run_laws.proofs.Births.{use_event, end_event}
use Rattle.run_laws.proofs.RunLaws.{acts-of, parts-of, regions-live, regions-apart}
use Rattle.run_order.specs.Order.{Step, made, InOneOrder}
use Rattle.run_order.proofs.Positions.{place, noted}
use Rattle.order_laws.specs.Moments.{is_noted, is_return, HasGrownOut, ReturnsAfterEnd, HaveReturned, FindsReturned}
use Rattle.order_laws.proofs.Events.{when, one-later, reaches-later, stands-made, made-stands, noted-itself, use-when, use-same, begun_when, uses-apart, ended-first}
use Rattle.order_laws.proofs.LifeWalk.{IsReturn, ReturnThen, returns-or, give-last}

-- what is kept or given returns
abbrev pub Returns : RegionId → Did → Type 0
Returns region d = (d ≡ Kept region) ⊎ (d ≡ Give region)

pub return-is : (region : RegionId) (n : Note) → is_return region n ≡ true
    → (object : Object) × (number : ℕ) × (d : Did) × (n ≡ At object number d) × Returns region d
return-is region (At object number (Kept r)) e =
    (object, number, Kept r, refl, inl (ap Kept (same_region-is r region e)))
return-is region (At object number (Give r)) e =
    (object, number, Give r, refl, inr (ap Give (same_region-is r region e)))
return-is region _ e = absurd (cc e)

pub is-return : (region : RegionId) (object : Object) (number : ℕ) (d : Did) → Returns region d
    → is_return region (At object number d) ≡ true
is-return region object number d (inl is) =
    ap (λ x. is_return region (At object number x)) is ∙ same_region-refl region
is-return region object number d (inr is) =
    ap (λ x. is_return region (At object number x)) is ∙ same_region-refl region

-- a return begins no use and ends none
return-begin : (region : RegionId) (m : Move) (p : RootId) (x : RegionId) → IsReturn region m → m ≡ Begins p x → ⊥
return-begin region m p x (inl is) e = let same : Keeps region ≡ Begins p x = sym is ∙ e in absurd (cc same)
return-begin region m p x (inr is) e = let same : Gives region ≡ Begins p x = sym is ∙ e in absurd (cc same)

return-leave : (region : RegionId) (m : Move) (p : RootId) (x : RegionId) → IsReturn region m → m ≡ Leaves p x → ⊥
return-leave region m p x (inl is) e = let same : Keeps region ≡ Leaves p x = sym is ∙ e in absurd (cc same)
return-leave region m p x (inr is) e = let same : Gives region ≡ Leaves p x = sym is ∙ e in absurd (cc same)

return-does : (logs : Logs) (region : RegionId) (m : Move) (e : Event) → IsReturn region m → Does logs m e
    → Returns region e.did
return-does logs region m e (inl is) does = inl (subst (λ x. Does logs x e) is does)
return-does logs region m e (inr is) does = inr (subst (λ x. Does logs x e) is does)

return-taking : (region : RegionId) (m : Move) → IsReturn region m → IsTrue (same_taking region (region_of m))
return-taking region m (inl is) = ap (λ x. same_taking region (region_of x)) is ∙ same_taking-refl region
return-taking region m (inr is) = ap (λ x. same_taking region (region_of x)) is ∙ same_taking-refl region

module _ (run : Run) (legal : IsLegal run) (o : InOneOrder (logs_of run)) where
  abbrev logs : Logs
  logs = logs_of run

  life-of : (root : RootId) (r : RegionId) → IsUse logs root r → Life logs (with_uses r 0)
  life-of root r u = regions-live run legal (the_use logs u) (use-happens logs root r u)

  -- what happens to a taking comes behind its Take
  later-of : (r : RegionId) (l : Life logs (with_uses r 0)) (f : Happening) → Happens logs f
      → IsTrue (same_taking r (region_of f.move))
      → (f.move ≡ Takes r.class (with_uses r 0) → ⊥) → IsAmong f l.later
  later-of r l f happened same other =
      ⊎_elim (λ first. absurd (other (ap (λ z. z.move) first ∙ l.taken))) (λ among. among) (l.all f happened same)

  uses-later : (r : RegionId) (l : Life logs (with_uses r 0)) (root : RootId) (x : RegionId) (u : IsUse logs root x)
      → IsTrue (same_taking r x) → IsAmong (the_use logs u) l.later
  uses-later r l root x u same =
      later-of r l (the_use logs u) (use-happens logs root x u) same (λ e. absurd (cc e))

  returns-later : (r : RegionId) (l : Life logs (with_uses r 0)) (f : Happening) → Happens logs f → IsReturn r f.move
      → IsAmong f l.later
  returns-later r l f happened is =
      later-of r l f happened (return-taking r f.move is)
      (λ e. ⊎_elim
      (λ k. absurd (let same : Keeps r ≡ Takes r.class (with_uses r 0) = sym k ∙ e in cc same))
      (λ g. absurd (let same : Gives r ≡ Takes r.class (with_uses r 0) = sym g ∙ e in cc same)) is)

  -- behind a happening comes what its order says
  no-later : (r : RegionId) (f : Happening) (root : RootId) (t : ReturnThen logs root r f) → Stands logs f.event
      → when logs o t.back.event ≤ when logs o f.event
  no-later r f root t stands =
      ⊎_elim
      (λ same. let e : when logs o t.back.event ≡ when logs o f.event = ap (λ z. when logs o z.event) same in
      omega (arith, e))
      (λ reach. let less : when logs o t.back.event < when logs o f.event =
      reaches-later logs o t.back.event f.event t.back_happens.stands stands reach in omega (arith, less)) t.order

  -- the end of a use is in a front by its root's end or its growth
  ended-in : (root : RootId) (region : RegionId) (e : Event)
      → Happens logs (record { event = e; move = Leaves root region }) → (k : ℕ) → when logs o e < k
      → (0 < made (ends_root root) (take k o.steps)) ⊎ HasGrownOut logs (take k o.steps) root region
  ended-in root region e h k low =
      ⊎_elim
      (λ d.
      let at_end : when logs o (the d.0) ≡ when logs o e =
      (λ i. place logs o ((d.1 ∙ ap (λ z. z.lane) same) i) ((d.2 ∙ ap (λ z. z.at) same) i)) in
      inl (ended-first run legal o root (the d.0) k d.0.stands refl (omega (arith, at_end, low))))
      (λ g.
      let at_end : place logs o g.0.lane g.0.at ≡ when logs o e =
      (λ i. place logs o ((g.1 ∙ ap (λ z. z.lane) same) i) ((g.2 ∙ ap (λ z. z.at) same) i)) in
      inr (
        g.0,
        stands-made logs o (is_noted (Object.Root root.place) g.0.number) g.0.lane g.0.at k
            (At (Object.Root root.place) g.0.number (Grow g.0.capacity g.0.next)) g.0.stands
            (noted-itself (Object.Root root.place) g.0.number (Grow g.0.capacity g.0.next))
            (omega (arith, at_end, low)),
      ))
      (ends-how run.shape logs (paged run legal) (acts-of run legal) (parts-of run legal) legal.counts root region
      (left-ends run.shape logs (paged run legal) (acts-of run legal) root region left))
    where
      left : LeftBy run.shape logs (paged run legal) (acts-of run legal) root region
      left =
          record {
            event = e;
            stands = h.stands;
            does = told logs (record { event = e; move = Leaves root region }) h;
          }

      same : end_event (left-ends run.shape logs (paged run legal) (acts-of run legal) root region left) ≡ e
      same = left-same run.shape logs (paged run legal) (acts-of run legal) root region left

  -- a region that has returned has the end of its use before it
  pub after_end-at : (k : ℕ) → ReturnsAfterEnd logs (take k o.steps)
  after_end-at k root region u more =
      let f = made-stands logs o (is_return region) k more in
      let e = return-is region f.2 f.4 in
      let event : Event = record { object = e.0; did = e.2; lane = f.0; at = f.1; number = e.1 } in
      let stands : Stands logs event = f.3 ∙ ap Some e.3 in
      ⊎_elim (λ kept. by event stands (Keeps region) (inl refl) kept f.5)
      (λ given. by event stands (Gives region) (inr refl) given f.5) e.4
    where
      by : (e : Event) → Stands logs e → (m : Move) → IsReturn region m → Does logs m e → when logs o e < k
          → (0 < made (ends_root root) (take k o.steps)) ⊎ HasGrownOut logs (take k o.steps) root region
      by e stands m back does low =
          let h : Happens logs (record { event = e; move = m }) = happens logs e m stands does in
          let l : Life logs (with_uses region 0) = life-of root region u in
          ⊎_elim (λ same. absurd (return-begin region m root region back (ap (λ z. z.move) (sym same))))
          (⊎_elim
          (λ sooner. let less : region.uses < region.uses = sooner.fewer region back in absurd (omega (arith, less)))
          (λ t. let first : when logs o t.end < when logs o t.back.event =
          reaches-later logs o t.end t.back.event t.ended.stands t.back_happens.stands t.ends in
          ended-in root region t.end t.ended k
          (omega (arith, first, no-later region (record { event = e; move = m }) root t stands, low))))
          (returns-or logs Got (with_uses region 0) l.take l.later (the_use logs u) (record { event = e; move = m })
          root region l.lives l.order (uses-later region l root region u (same_taking-refl region))
          (returns-later region l (record { event = e; move = m }) h back) refl
          (return-leave region m root region back))

  -- a return that stands in a front was made there
  return-made : (r : RegionId) (f : Happening) (k : ℕ) → Happens logs f → IsReturn r f.move → when logs o f.event < k
      → 0 < made (is_return r) (take k o.steps)
  return-made r f k h is low =
      stands-made logs o (is_return r) f.event.lane f.event.at k (At f.event.object f.event.number f.event.did) h.stands
      (is-return r f.event.object f.event.number f.event.did
      (return-does logs r f.move f.event is (told logs f h))) low

  abbrev given_at : {a b : RegionId} → Before logs a b → Happening
  given_at {a = a} before = record { event = the before.given; move = Gives (with_uses a before.uses) }

  given-happens : (a b : RegionId) (before : Before logs a b) → Happens logs (given_at before)
  given-happens a b before =
      happens logs (the before.given) (Gives (with_uses a before.uses)) before.given.stands refl

  -- a taking comes back behind each use of it
  begun-given : (a b : RegionId) (root : RootId) (u : IsUse logs root a) (before : Before logs a b)
      → begun_when run legal o u < when logs o (the before.given)
  begun-given a b root u before =
      let l : Life logs (with_uses a 0) = life-of root a u in
      ⊎_elim
      (λ same. absurd (let e : Begins root a ≡ Gives (with_uses a before.uses) = ap (λ z. z.move) same in cc e))
      (λ reach. reaches-later logs o (use_event u) (the before.given) u.stands before.given.stands reach)
      (give-last logs Got (with_uses a 0) l.take l.later (the_use logs u) (given_at before) (with_uses a before.uses)
      l.lives l.order (uses-later a l root a u (same_taking-refl a))
      (later-of a l (given_at before) (given-happens a b before) (same_taking-refl a) (λ e. absurd (cc e))) refl)

  -- and before each use of the one that was taken later
  given-begun : (a b : RegionId) (other : RootId) (v : IsUse logs other b) → a.place.arena ≡ b.place.arena
      → (before : Before logs a b) → when logs o (the before.given) < begun_when run legal o v
  given-begun a b other v arena before =
      let l : Life logs (with_uses b 0) = life-of other b v in
      let h : Happens logs (record { event = the before.taken; move = Takes b.class (with_uses b 0) }) =
      happens logs (the before.taken) (Takes b.class (with_uses b 0)) before.taken.stands refl in
      let taken : record { event = the before.taken; move = Takes b.class (with_uses b 0) } ≡ l.take =
      ⊎_elim (λ same. same)
      (λ among. absurd (no-take logs Got (with_uses b 0) l.later
      (record { event = the before.taken; move = Takes b.class (with_uses b 0) }) b.class (with_uses b 0) l.lives among
      refl))
      (l.all (record { event = the before.taken; move = Takes b.class (with_uses b 0) }) h (same_taking-refl b)) in
      let reach : Reaches logs (the before.taken) (use_event v) =
      subst (λ t. Reaches logs t.event (use_event v)) (sym taken)
      (among-after logs l.take l.later (the_use logs v) l.order (uses-later b l other b v (same_taking-refl b))) in
      let begun : when logs o (the before.taken) < begun_when run legal o v =
      reaches-later logs o (the before.taken) (use_event v) before.taken.stands v.stands reach in
      let given : when logs o (the before.given) < when logs o (the before.taken) =
      one-later logs o (the before.given) (the before.taken) before.given.stands before.taken.stands
      (inr (ap Object.Arena arena, (before.order, refl))) in
      omega (arith, begun, given)

  -- what happens to a taking behind a use of it comes no sooner than the region's return
  behind : (a : RegionId) (root : RootId) (u : IsUse logs root a) (f : Happening) → Happens logs f
      → IsAmong f (life-of root a u).later → begun_when run legal o u < when logs o f.event
      → (f.move ≡ Leaves root a → ⊥) → ReturnThen logs root a f
  behind a root u f h among less other =
      let l : Life logs (with_uses a 0) = life-of root a u in
      ⊎_elim
      (λ same. absurd (let e : begun_when run legal o u
      ≡ when logs o f.event = ap (λ z. when logs o z.event) same in omega (arith, e, less)))
      (⊎_elim
      (λ sooner. absurd (let first : when logs o f.event < begun_when run legal o u =
      reaches-later logs o f.event (use_event u) h.stands u.stands sooner.order in omega (arith, first, less)))
      (λ t. t))
      (returns-or logs Got (with_uses a 0) l.take l.later (the_use logs u) f root a l.lives l.order
      (uses-later a l root a u (same_taking-refl a)) among refl other)

  -- the region of a use that began before another on its bytes returned before that
  back-first : (root other : RootId) (a b : RegionId) (u : IsUse logs root a) (v : IsUse logs other b) →
      Overlap a.place b.place → begun_when run legal o u < begun_when run legal o v →
      0 < made (is_return a) (take (begun_when run legal o v) o.steps)
  back-first root other a b u v over less =
      ⊎_elim alike (⊎_elim given (λ before. absurd (later before)))
      (regions-apart run legal root other a b u v (uses-apart run legal o root other a b u v less) over)
    where
      alike : IsTrue (same_taking a b) → 0 < made (is_return a) (take (begun_when run legal o v) o.steps)
      alike same =
          let t : ReturnThen logs root a (the_use logs v) =
          behind a root u (the_use logs v) (use-happens logs other b v)
          (uses-later a (life-of root a u) other b v same) less
          (λ e. absurd (let both : Begins other b ≡ Leaves root a = e in cc both)) in
          return-made a t.back (begun_when run legal o v) t.back_happens t.back_is
          (⊎_elim (λ here. absurd (return-begin a t.back.move other b t.back_is (ap (λ z. z.move) here)))
          (reaches-later logs o t.back.event (use_event v) t.back_happens.stands v.stands) t.order)

      given : Before logs a b → 0 < made (is_return a) (take (begun_when run legal o v) o.steps)
      given before =
          let t : ReturnThen logs root a (given_at before) =
          behind a root u (given_at before) (given-happens a b before)
          (later-of a (life-of root a u) (given_at before) (given-happens a b before) (same_taking-refl a)
          (λ e. absurd (cc e))) (begun-given a b root u before)
          (λ e. absurd (let both : Gives (with_uses a before.uses) ≡ Leaves root a = e in cc both)) in
          return-made a t.back (begun_when run legal o v) t.back_happens t.back_is
          (omega (
            arith,
            no-later a (given_at before) root t before.given.stands,
            given-begun a b other v over.arena before,
          ))

      later : Before logs b a → ⊥
      later before =
          omega (
            arith,
            less,
            begun-given b a other v before,
            given-begun b a root u (sym over.arena) before,
          )

  -- where a use begins, all that were on its bytes have returned
  have-returned : (before after : List Step) (x : Step) → o.steps ≡ before ++ x ∷ after → (e : Event) → Stands logs e
      → when logs o e ≡ length before → (other : RootId) (b : RegionId) → Does logs (Begins other b) e
      → HaveReturned logs before b
  have-returned before after x is e stands moment other b does root a used more over =
      let v : IsUse logs other b =
      begins-use run.shape logs (paged run legal) (acts-of run legal) other b e stands does in
      let at : begun_when run legal o v ≡ length before =
      sym (use-same run legal o other b e stands does v) ∙ moment in
      let first : begun_when run legal o used < length before =
      use-when run legal o root a used (length before)
      (subst (λ xs. 0 < made (is_noted (Object.Root root.place) used.number) xs) (sym front) more) in
      subst (λ xs. 0 < made (is_return a) xs) (ap (λ k. take k o.steps) at ∙ front)
      (back-first root other a b used v over (omega (arith, at, first)))
    where
      front : take (length before) o.steps ≡ before
      front = ap (take (length before)) is ∙ front-is before (x ∷ after)

  pub finds-returned : (before after : List Step) (x : Step) (n : Note) → o.steps ≡ before ++ x ∷ after → x.note ≡ n
      → FindsReturned logs before n
  finds-returned before after x (At object number (Birth other b)) is note =
      let r = noted logs o (length before) x (ap (λ xs. slice_get xs (length before)) is ∙ get-behind before x after) in
      have-returned before after x is
      (record { object = object; did = Birth other b; lane = x.lane; at = r.0; number = number })
      (r.1 ∙ ap Some note) r.2 other b (inl refl)
  finds-returned before after x (At object number (Grow c b)) is note =
      let r = noted logs o (length before) x (ap (λ xs. slice_get xs (length before)) is ∙ get-behind before x after) in
      let p = growth-finds logs (acts-of run legal) x.lane r.0 number c object b (r.1 ∙ ap Some note) in
      have-returned before after x is
      (record { object = object; did = Grow c b; lane = x.lane; at = r.0; number = number })
      (r.1 ∙ ap Some note) r.2 p.0.root b (inr (c, refl, (p.0, p.1, refl)))
  finds-returned before after x n is note = tt
