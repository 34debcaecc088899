-- What each happening does: the note that moves its region, and what is present there.
use Rattle.std.proofs.Common.{inl, inr, ◌≡◌, ℕ, refl, sym, ap, subst, Some, None, ◌∙◌}
use Rattle.std.specs.Prelude.{◌⊎◌, ◌++◌, Option, option_map}
use Rattle.pool_law.specs.declared.id.RootId.{RootId}
use Rattle.pool_law.specs.declared.id.RegionId.{RegionId}
use Rattle.pool_law.specs.declared.note.Object.{Object}
use Rattle.pool_law.specs.declared.note.Did.{Did}
use Rattle.pool_law.specs.declared.note.Did.TheVariants.{Take, Give, Hit, Kept, Shed, Birth, Grow, End}
use Rattle.pool_law.specs.declared.note.Note.TheVariants.{At}
use Rattle.pool_law.specs.Roots.{Present}
use Rattle.pool_law.specs.Logs.{Logs, entry_of, present_before}
use Rattle.pool_law.specs.Lives.{Event, Stands, Happening, Happens, Move, Takes, Gives, Keeps, Hits, Sheds, Begins, Leaves, IsAmong, leaves, grows_into, moves_by, present_at}
use Rattle.run_laws.proofs.HandSteps.{EndsUse}
use Rattle.run_laws.proofs.Readings.{map-some}

module _ (logs : Logs) where
  -- this is present at the event's place as it comes
  abbrev pub Here : Event → Present → Type 0
  Here e p = present_at logs e.object e.number ≡ Some p

  -- what an event must be to do this to a region: a use begins with a birth, or as the root that is
  -- present grows, and ends as the root that is present leaves its region
  abbrev pub Does : Move → Event → Type 0
  Does (Takes c r) e = e.did ≡ Take c r
  Does (Gives r) e = e.did ≡ Give r
  Does (Keeps r) e = e.did ≡ Kept r
  Does (Hits r) e = e.did ≡ Hit r
  Does (Sheds r) e = e.did ≡ Shed r
  Does (Begins root r) e =
      (e.did ≡ Birth root r)
      ⊎ ((c : ℕ) × (e.did ≡ Grow c r) × ((p : Present) × Here e p × (p.root ≡ root)))
  Does (Leaves root r) e = EndsUse e.did × ((p : Present) × Here e p × (p.root ≡ root) × (p.region ≡ r))

  pub told : (t : Happening) → Happens logs t → Does t.move t.event
  told t h = go t.event.did refl t.move h.moves
    where
      ending : (m : Move) → EndsUse t.event.did → (o : Option Present)
          → present_at logs t.event.object t.event.number ≡ o → IsAmong m (leaves o) → Does m t.event
      ending m ends None here among = absurd among
      ending m ends (Some p) here (inl same) =
          subst (λ x. Does x t.event) (sym same) (ends, (p, here, refl, refl))
      ending m ends (Some p) here (inr none) = absurd none

      growing : (m : Move) (c : ℕ) (x : RegionId) → t.event.did ≡ Grow c x → (o : Option Present)
          → present_at logs t.event.object t.event.number ≡ o → IsAmong m (leaves o ++ grows_into o x)
          → Does m t.event
      growing m c x is None here among = absurd among
      growing m c x is (Some p) here (inl same) =
          subst (λ y. Does y t.event) (sym same) (inr (c, x, is), (p, here, refl, refl))
      growing m c x is (Some p) here (inr (inl same)) =
          subst (λ y. Does y t.event) (sym same) (inr (c, is, (p, here, refl)))
      growing m c x is (Some p) here (inr (inr none)) = absurd none

      go : (d : Did) → t.event.did ≡ d → (m : Move)
          → IsAmong m (moves_by (present_at logs t.event.object t.event.number) d) → Does m t.event
      go (Take c x) is m (inl same) = subst (λ y. Does y t.event) (sym same) is
      go (Take c x) is m (inr none) = absurd none
      go (Give x) is m (inl same) = subst (λ y. Does y t.event) (sym same) is
      go (Give x) is m (inr none) = absurd none
      go (Kept x) is m (inl same) = subst (λ y. Does y t.event) (sym same) is
      go (Kept x) is m (inr none) = absurd none
      go (Hit x) is m (inl same) = subst (λ y. Does y t.event) (sym same) is
      go (Hit x) is m (inr none) = absurd none
      go (Shed x) is m (inl same) = subst (λ y. Does y t.event) (sym same) is
      go (Shed x) is m (inr none) = absurd none
      go (Birth root x) is m (inl same) = subst (λ y. Does y t.event) (sym same) (inl is)
      go (Birth root x) is m (inr none) = absurd none
      go (End root) is m among =
          ending m (inl (root, is)) (present_at logs t.event.object t.event.number) refl among
      go (Grow c x) is m among = growing m c x is (present_at logs t.event.object t.event.number) refl among
      go _ is m among = absurd among

  -- the moves of an event that is this
  moved : (e : Event) (m : Move) (d : Did) → e.did ≡ d → IsAmong m (moves_by (present_at logs e.object e.number) d)
      → IsAmong m (moves_by (present_at logs e.object e.number) e.did)
  moved e m d is among = subst (λ x. IsAmong m (moves_by (present_at logs e.object e.number) x)) (sym is) among

  pub does-so : (e : Event) (m : Move) → Does m e → IsAmong m (moves_by (present_at logs e.object e.number) e.did)
  does-so e (Takes c r) is = moved e (Takes c r) (Take c r) is (inl refl)
  does-so e (Gives r) is = moved e (Gives r) (Give r) is (inl refl)
  does-so e (Keeps r) is = moved e (Keeps r) (Kept r) is (inl refl)
  does-so e (Hits r) is = moved e (Hits r) (Hit r) is (inl refl)
  does-so e (Sheds r) is = moved e (Sheds r) (Shed r) is (inl refl)
  does-so e (Begins root r) (inl is) = moved e (Begins root r) (Birth root r) is (inl refl)
  does-so e (Begins root r) (inr g) =
      moved e (Begins root r) (Grow g.0 r) g.1
      (subst (λ o. IsAmong (Begins root r) (leaves o ++ grows_into o r)) (sym g.2.1)
      (inr (inl (ap (λ q. Begins q r) (sym g.2.2)))))
  does-so e (Leaves root r) (inl end, p) =
      moved e (Leaves root r) (End end.0) end.1
      (subst (λ o. IsAmong (Leaves root r) (leaves o)) (sym p.1)
      (inl (λ i. Leaves (sym p.2 i) (sym p.3 i))))
  does-so e (Leaves root r) (inr g, p) =
      moved e (Leaves root r) (Grow g.0 g.1) g.2
      (subst (λ o. IsAmong (Leaves root r) (leaves o ++ grows_into o g.1)) (sym p.1)
      (inl (λ i. Leaves (sym p.2 i) (sym p.3 i))))

  pub happens : (e : Event) (m : Move) → Stands logs e → Does m e → Happens logs (record { event = e; move = m })
  happens e m s does = record { stands = s; moves = does-so e m does }

  -- one event begins one use and ends one, whoever asks
  one-present : (e : Event) (p q : Present) → Here e p → Here e q → p ≡ q
  one-present e p q a b = let same : Some p ≡ Some q = sym a ∙ b in cc same

  pub one-user : (e : Event) (p q : RootId) (r s : RegionId) → Does (Begins p r) e → Does (Begins q s) e
      → (p ≡ q) × (r ≡ s)
  one-user e p q r s (inl a) (inl b) = let same : Birth p r ≡ Birth q s = sym a ∙ b in (cc same, cc same)
  one-user e p q r s (inl a) (inr b) = let same : Birth p r ≡ Grow b.0 s = sym a ∙ b.1 in absurd (cc same)
  one-user e p q r s (inr a) (inl b) = let same : Grow a.0 r ≡ Birth q s = sym a.1 ∙ b in absurd (cc same)
  one-user e p q r s (inr a) (inr b) =
      let same : Grow a.0 r ≡ Grow b.0 s = sym a.1 ∙ b.1 in (
        sym a.2.2 ∙ ap (λ x. x.root) (one-present e a.2.0 b.2.0 a.2.1 b.2.1) ∙ b.2.2,
        cc same,
      )

  -- the region that a note leaves is that of what is present
  pub left-region : (o : Object) (k : ℕ) (d : Did) (p : Present) → EndsUse d → present_at logs o k ≡ Some p
      → (entry_of logs (At o k d)).region ≡ Some p.region
  left-region (Object.Root place) k d p (inl end) here =
      ap (λ x. (entry_of logs (At (Object.Root place) k x)).region) end.1 ∙ ap (option_map (λ q. q.region)) here
  left-region (Object.Root place) k d p (inr g) here =
      ap (λ x. (entry_of logs (At (Object.Root place) k x)).region) g.2 ∙ ap (option_map (λ q. q.region)) here
  left-region _ k d p ends here = absurd (cc here)

  pub left-present : (o : Object) (k : ℕ) (d : Did) (r : RegionId) → EndsUse d
      → (entry_of logs (At o k d)).region ≡ Some r
      → (p : Present) × (present_at logs o k ≡ Some p) × (p.region ≡ r)
  left-present (Object.Root place) k d r (inl end) is =
      map-some (present_before logs place k) (λ q. q.region) r
      (ap (λ x. (entry_of logs (At (Object.Root place) k x)).region) (sym end.1) ∙ is)
  left-present (Object.Root place) k d r (inr g) is =
      map-some (present_before logs place k) (λ q. q.region) r
      (ap (λ x. (entry_of logs (At (Object.Root place) k x)).region) (sym g.2) ∙ is)
  left-present _ k d r ends is = absurd (cc is)
