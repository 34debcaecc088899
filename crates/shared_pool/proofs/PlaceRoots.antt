-- Which root a place has behind a history.
use Rattle.std.proofs.Common.{◌≡◌, ℕ, zero, suc, ◌<◌, ◌≤◌, List, [], ◌∷◌, refl, sym, ap, ◌∙◌, subst, arith, inl, inr, ⊎_elim}
use Rattle.std.specs.Prelude.{◌⊎◌, Option, Some, None, option_and_then, slice_get}
use Rattle.pool_law.specs.declared.id.RootId.{RootId}
use Rattle.pool_law.specs.declared.id.RegionId.{RegionId}
use Rattle.pool_law.specs.declared.note.Did.{Did}
use Rattle.pool_law.specs.declared.note.Did.TheVariants.{Birth, End}
use Rattle.pool_law.specs.declared.note.Noted.{Noted}
use Rattle.pool_law.specs.declared.report.Watch.{Watch}
use Rattle.pool_law.specs.Roots.{RootPlace, Present, born, place_step}
use Rattle.pool_law.specs.Histories.{after}
use Rattle.pool_law.specs.NotedHistories.{noted_dids}
use Rattle.shared_pool.specs.RootPlaces.{watch_after}
use Rattle.shared_pool.proofs.PlaceLives.{Stepped, Born, Kept, Ended, stepped, first_watch, first_born, WasBorn, HasEnd, Has, later_born, later_end}

module _ (p : ℕ) where
  abbrev Run : RootPlace → List Noted → RootPlace → Type 0
  Run x h y = after (place_step p) x (noted_dids h) ≡ Some y

  -- a first note and the rest
  parted : {R : Type 0} (x y : RootPlace) (n : Noted) (h : List Noted) → Run x (n ∷ h) y
      → ((z : RootPlace) → Stepped p x z n.did → Run z h y → R) → R
  parted {R} x y n h e f = go (place_step p x n.did) (λ z is. f z (stepped p x z n.did is)) e
    where
      go : (o : Option RootPlace) → ((z : RootPlace) → o ≡ Some z → Run z h y → R)
          → option_and_then (λ t. after (place_step p) t (noted_dids h)) o ≡ Some y → R
      go None g e = absurd (cc e)
      go (Some z) g e = g z refl e

  -- the root that is present was born in the history, or was present before
  pub root_from : (h : List Noted) (x y : RootPlace) (w : Option Watch) (root : RootId) → Run x h y → Has y root →
      WasBorn p h root (watch_after w h) ⊎ (Has x root × (watch_after w h ≡ w))
  root_from [] x y w root e has =
      let same : x ≡ y = cc e in inr (subst (λ (z : RootPlace). Has z root) (sym same) has, refl)
  root_from (n ∷ h) x y w root e has = parted x y n h e (λ z s rest. by z s (λ v. root_from h z y v root rest has))
    where
      by : (z : RootPlace) → Stepped p x z n.did
          → ((v : Option Watch) → WasBorn p h root (watch_after v h) ⊎ (Has z root × (watch_after v h ≡ v))) →
          WasBorn p (n ∷ h) root (watch_after w (n ∷ h)) ⊎ (Has x root × (watch_after w (n ∷ h) ≡ w))
      by z (Born b) ih =
          let given = first_born w n h b.root b.region b.did in
          ⊎_elim
          (λ (t : WasBorn p h root (watch_after n.watch h)). inl
          (later_born p n h root (watch_after w (n ∷ h)) (watch_after n.watch h) given t))
          (λ (t : Has z root × (watch_after n.watch h ≡ n.watch)).
          let one : Some t.0.present ≡ (born b.root b.region).present = sym t.0.here
          ∙ ap (λ (q : RootPlace). q.present) b.is in
          let same : b.root ≡ root = (let a : b.root ≡ t.0.present.root = cc one in a) ∙ t.0.root_is in
          inl (record {
            at = zero;
            note = n;
            region = b.region;
            there = refl;
            did =
                subst (λ (r : RootId). n.did ≡ Birth r b.region) same b.did;
            place =
                subst (λ (r : RootId). r.place ≡ p) same b.place;
            given = given ∙ t.1;
          }))
          (ih n.watch)
      by z (Kept k) ih =
          let given = first_watch w n h k.watch in
          ⊎_elim
          (λ (t : WasBorn p h root (watch_after w h)). inl
          (later_born p n h root (watch_after w (n ∷ h)) (watch_after w h) given t))
          (λ (t : Has z root × (watch_after w h ≡ w)).
          let one : Some t.0.present ≡ Some k.new = sym t.0.here ∙ k.is in let two : t.0.present ≡ k.new = cc one in
          inr (
            record {
              present = k.old;
              here = k.was;
              root_is = sym k.same ∙ ap (λ (q : Present). q.root) (sym two)
                  ∙ t.0.root_is;
            },
            given ∙ t.1,
          ))
          (ih w)
      by z (Ended k) ih =
          let given = first_watch w n h k.watch in
          ⊎_elim
          (λ (t : WasBorn p h root (watch_after w h)). inl
          (later_born p n h root (watch_after w (n ∷ h)) (watch_after w h) given t))
          (λ (t : Has z root × (watch_after w h ≡ w)). let one : Some t.0.present ≡ None = sym t.0.here
          ∙ k.gone in absurd (cc one))
          (ih w)

  -- a root that is present ends in the history, or is present after it
  root_stays : (h : List Noted) (x y : RootPlace) (w : Option Watch) (root : RootId) → Run x h y → Has x root →
      HasEnd h root ⊎ (Has y root × (watch_after w h ≡ w))
  root_stays [] x y w root e has = let same : x ≡ y = cc e in inr (subst (λ (z : RootPlace). Has z root) same has, refl)
  root_stays (n ∷ h) x y w root e has =
      parted x y n h e (λ z s rest. by z s (λ here. root_stays h z y w root rest here))
    where
      by : (z : RootPlace) → Stepped p x z n.did → (Has z root → HasEnd h root ⊎ (Has y root × (watch_after w h ≡ w))) →
          HasEnd (n ∷ h) root ⊎ (Has y root × (watch_after w (n ∷ h) ≡ w))
      by z (Born b) ih = let one : Some has.present ≡ None = sym has.here ∙ b.vacant in absurd (cc one)
      by z (Kept k) ih =
          let one : Some has.present ≡ Some k.old = sym has.here ∙ k.was in let two : has.present ≡ k.old = cc one in
          ⊎_elim
          (λ (t : HasEnd h root). inl (later_end n h root t))
          (λ (t : Has y root × (watch_after w h ≡ w)). inr (t.0, first_watch w n h k.watch ∙ t.1))
          (ih (record {
            present = k.new;
            here = k.is;
            root_is = k.same ∙ ap (λ (q : Present). q.root) (sym two)
                ∙ has.root_is;
          }))
      by z (Ended k) ih =
          let one : Some has.present ≡ Some k.old = sym has.here ∙ k.was in let two : has.present ≡ k.old = cc one in
          let same : k.old.root ≡ root = ap (λ (q : Present). q.root) (sym two) ∙ has.root_is in
          inl (record { at = zero; note = n; there = refl; did = k.did ∙ ap (λ (r : RootId). End r) same })

  -- so does one that is born in it
  pub root_to : (h : List Noted) (x y : RootPlace) (w : Option Watch) (at : ℕ) (note : Noted) (root : RootId)
      (region : RegionId) → Run x h y → slice_get h at ≡ Some note → note.did ≡ Birth root region →
      HasEnd h root ⊎ (Has y root × (watch_after w h ≡ note.watch))
  root_to [] x y w at note root region e is did = absurd (cc is)
  root_to (n ∷ h) x y w zero note root region e is did = parted x y n h e by
    where
      same : n ≡ note
      same = cc is

      mine : n.did ≡ Birth root region
      mine = ap (λ (m : Noted). m.did) same ∙ did

      by : (z : RootPlace) → Stepped p x z n.did → Run z h y
          → HasEnd (n ∷ h) root ⊎ (Has y root × (watch_after w (n ∷ h) ≡ note.watch))
      by z (Born b) rest =
          let one : Birth b.root b.region ≡ Birth root region = sym b.did
          ∙ mine in let root_is : b.root ≡ root = cc one in
          ⊎_elim
          (λ (t : HasEnd h root). inl (later_end n h root t))
          (λ (t : Has y root × (watch_after n.watch h ≡ n.watch)). inr
          (t.0, first_born w n h root region mine ∙ t.1 ∙ ap (λ (m : Noted). m.watch) same))
          (root_stays h z y n.watch root rest
          (record {
            present = record { root = b.root; region = b.region; bytes = _ };
            here =
                ap (λ (q : RootPlace). q.present) b.is;
            root_is = root_is;
          }))
      by z (Kept k) rest = absurd (k.no_birth root region mine)
      by z (Ended k) rest = let one : End k.old.root ≡ Birth root region = sym k.did ∙ mine in absurd (cc one)
  root_to (n ∷ h) x y w (suc at) note root region e is did =
      parted x y n h e (λ z s rest. by z s (λ v. root_to h z y v at note root region rest is did))
    where
      by : (z : RootPlace) → Stepped p x z n.did
          → ((v : Option Watch) → HasEnd h root ⊎ (Has y root × (watch_after v h ≡ note.watch))) →
          HasEnd (n ∷ h) root ⊎ (Has y root × (watch_after w (n ∷ h) ≡ note.watch))
      by z (Born b) ih = ⊎_elim
          (λ (t : HasEnd h root). inl (later_end n h root t))
          (λ (t : Has y root × (watch_after n.watch h ≡ note.watch)). inr
          (t.0, first_born w n h b.root b.region b.did ∙ t.1))
          (ih n.watch)
      by z (Kept k) ih = ⊎_elim
          (λ (t : HasEnd h root). inl (later_end n h root t))
          (λ (t : Has y root × (watch_after w h ≡ note.watch)). inr (t.0, first_watch w n h k.watch ∙ t.1))
          (ih w)
      by z (Ended k) ih = ⊎_elim
          (λ (t : HasEnd h root). inl (later_end n h root t))
          (λ (t : Has y root × (watch_after w h ≡ note.watch)). inr (t.0, first_watch w n h k.watch ∙ t.1))
          (ih w)

  -- ---- Generations.

  -- the root that is present is of the last generation
  abbrev IsLast : RootPlace → Type 0
  IsLast x = (q : Present) → x.present ≡ Some q → q.root.generation ≡ x.generation

  -- a generation is over
  pub record IsPast (g : ℕ) (x : RootPlace) : Type 0 where
    pub reached : g ≤ x.generation
    pub above : (q : Present) → x.present ≡ Some q → g < q.root.generation

  last_step : (x z : RootPlace) (d : Did) → Stepped p x z d → IsLast x → IsLast z
  last_step x z d (Born b) last q is =
      let one : Some q ≡ (born b.root b.region).present = sym is ∙ ap (λ (y : RootPlace). y.present) b.is in
      let same : q.root ≡ b.root = cc one in
      ap (λ (r : RootId). r.generation) same ∙ sym (ap (λ (y : RootPlace). y.generation) b.is)
  last_step x z d (Kept k) last q is =
      let one : Some q ≡ Some k.new = sym is ∙ k.is in let two : q ≡ k.new = cc one in
      ap (λ (y : Present). y.root.generation) two ∙ ap (λ (r : RootId). r.generation) k.same ∙ last k.old k.was
      ∙ sym k.generation
  last_step x z d (Ended k) last q is = let one : Some q ≡ None = sym is ∙ k.gone in absurd (cc one)

  past_step : (g : ℕ) (x z : RootPlace) (d : Did) → Stepped p x z d → IsPast g x → IsPast g z
  past_step g x z d (Born b) past =
      let made : z.generation ≡ b.root.generation = ap (λ (y : RootPlace). y.generation) b.is in let next = b.next in
      let le = past.reached in
      record {
        reached = omega (arith, made, next, le);
        above = λ q is.
            let one : Some q ≡ (born b.root b.region).present = sym is ∙ ap (λ (y : RootPlace). y.present) b.is in
            let same : q.root ≡ b.root = cc one in let gen = ap (λ (r : RootId). r.generation) same in
            omega (arith, gen, next, le);
      }
  past_step g x z d (Kept k) past =
      record {
        reached = (let a = past.reached in let b = k.generation in omega (arith, a, b));
        above = λ q is.
            let one : Some q ≡ Some k.new = sym is ∙ k.is in let two : q ≡ k.new = cc one in
            let a = ap (λ (y : Present). y.root.generation) two in let b = ap (λ (r : RootId). r.generation) k.same in
            let c = past.above k.old k.was in
            omega (arith, a, b, c);
      }
  past_step g x z d (Ended k) past =
      record {
        reached = (let a = past.reached in let b = k.generation in omega (arith, a, b));
        above = λ q is. let one : Some q ≡ None = sym is ∙ k.gone in absurd (cc one);
      }

  past_run : (g : ℕ) (h : List Noted) (x y : RootPlace) → Run x h y → IsPast g x → IsPast g y
  past_run g [] x y e past = let same : x ≡ y = cc e in subst (IsPast g) same past
  past_run g (n ∷ h) x y e past = parted x y n h e (λ z s rest. past_run g h z y rest (past_step g x z n.did s past))

  -- a root that is present is of a later generation than one that ended
  pub after_end : (h : List Noted) (x y : RootPlace) (at : ℕ) (note : Noted) (root : RootId) → Run x h y → IsLast x
      → slice_get h at ≡ Some note → note.did ≡ End root → IsPast root.generation y
  after_end [] x y at note root e last is did = absurd (cc is)
  after_end (n ∷ h) x y zero note root e last is did = parted x y n h e by
    where
      same : n ≡ note
      same = cc is

      mine : n.did ≡ End root
      mine = ap (λ (m : Noted). m.did) same ∙ did

      by : (z : RootPlace) → Stepped p x z n.did → Run z h y → IsPast root.generation y
      by z (Born b) rest = let one : Birth b.root b.region ≡ End root = sym b.did ∙ mine in absurd (cc one)
      by z (Kept k) rest = absurd (k.no_end root mine)
      by z (Ended k) rest =
          let one : End k.old.root ≡ End root = sym k.did ∙ mine in let root_is : k.old.root ≡ root = cc one in
          let a = ap (λ (r : RootId). r.generation) root_is in let b = last k.old k.was in let c = k.generation in
          past_run root.generation h z y rest
          (record {
            reached = omega (arith, a, b, c);
            above = λ q is. let two : Some q ≡ None = sym is
                ∙ k.gone in absurd (cc two);
          })
  after_end (n ∷ h) x y (suc at) note root e last is did =
      parted x y n h e (λ z s rest. after_end h z y at note root rest (last_step x z n.did s last) is did)
