-- What a view counts, holds and owes after a step on a count.
use Rattle.step_law.specs.Settings.{Setting}
use Rattle.std.proofs.Common.{◌≡◌, ◌⊎◌, ℕ, ◌<◌, ◌≤◌, List, Bool, true, false, cond, eqb, refl, ap, ◌∙◌, subst, inl, inr, ⊎_elim, arith, le_refl, ne_eqb}
use Rattle.std.specs.Prelude.{◌&&◌}
use mathlib.Core.Logic.{dite}
use native.Mathlib.Decide.{ℕ_discrete}
use Rattle.pool_law.specs.declared.note.Noted.{Noted}
use Rattle.pool_law.specs.declared.id.RootId.{RootId}
use Rattle.pool_law.specs.declared.note.RefDid.{RefDid}
use Rattle.pool_law.specs.declared.note.RefDid.TheVariants.{Born, Vacated}
use Rattle.pool_table.specs.declared.views.Entry.TheVariants.{Ref}
use Rattle.pool_table.specs.declared.views.Layout.{Layout}
use Rattle.pool_table.specs.declared.views.SeatView.{SeatView}
use Rattle.pool_table.specs.Counts.{on_root, ref_gain, ref_loss, ref_ended, ref_vacated, ref_born, on_place, weigh, at_gain, at_loss, gained, lost, with_ref, on_exact}
use Rattle.pool_table.specs.Hands.{at_in, at_out, taken, put_down, InHand, at_birth, at_end, IsOrderly, IsBearing, at_birth_of, at_birth_as}
use Rattle.history_laws.specs.NoteCounts.{is_root}
use Rattle.pool_table.specs.Steps.{vacates}
use Rattle.pool_table.proofs.AtPlace.{CountsAt, EndedAt, TokenAt}
use Rattle.pool_table.proofs.Counts.{weigh_ref, elsewhere, other_place, place_elsewhere}
use Rattle.pool_table.proofs.Holdings.{held_more}

module _ {H : Type 0} (stands : List ℕ → Setting → List Noted → H → Type 0) (l : Layout) where
  loss_at_most : (p g : ℕ) (r : RootId) (d : RefDid) → on_root ref_loss p g (Ref r d) ≤ ref_loss d
  loss_at_most p g r d = at_most (is_root p g r) (ref_loss d)
    where
      at_most : (b : Bool) (n : ℕ) → cond {A = ℕ} b n 0 ≤ n
      at_most true n = le_refl n
      at_most false n = omega arith

  -- a step that loses nothing, and one that loses a count that the view has
  pub counted_more : (v : SeatView) (r : RootId) (d : RefDid) (m : ℕ) → ((p g : ℕ) → lost p g v ≤ gained p g v)
      → ref_loss d ≡ 0 → (p g : ℕ) → lost p g (with_ref v r d m) ≤ gained p g (with_ref v r d m)
  counted_more v r d m counted free p g =
      let a = weigh_ref (on_root ref_loss p g) v r d m in let b = weigh_ref (at_loss p g) v r d m in let c =
      weigh_ref (on_root ref_gain p g) v r d m in let e = weigh_ref (at_gain p g) v r d m in
      let f = loss_at_most p g r d in let h = counted p g in let z : at_loss p g (Ref r d) ≡ 0 = refl in
      omega (arith, a, b, c, e, f, h, free, z)

  pub counted_less : (v : SeatView) (r : RootId) (d : RefDid) (m : ℕ) → ((p g : ℕ) → lost p g v ≤ gained p g v)
      → ref_loss d ≡ 1 → CountsAt r.place r.generation v → (p g : ℕ)
      → lost p g (with_ref v r d m) ≤ gained p g (with_ref v r d m)
  counted_less v r d m counted one has p g =
      let a = weigh_ref (on_root ref_loss p g) v r d m in let b = weigh_ref (at_loss p g) v r d m in let c =
      weigh_ref (on_root ref_gain p g) v r d m in let e = weigh_ref (at_gain p g) v r d m in
      let z : at_loss p g (Ref r d) ≡ 0 = refl in
      dite (ℕ_discrete r.place p)
      (λ rp. dite (ℕ_discrete r.generation g)
      (λ rg. let f = loss_at_most p g r d in let h : lost p g v < gained p g v =
      subst (λ (y : ℕ × ℕ). lost y.0 y.1 v < gained y.0 y.1 v) (λ q. (rp q, rg q)) has in
      omega (arith, a, b, c, e, f, h, one, z))
      (λ ne. let f = elsewhere ref_loss p g r d ne in let h = counted p g in omega (arith, a, b, c, e, f, h, z)))
      (λ ne. let f = other_place ref_loss p g r d ne in let h = counted p g in omega (arith, a, b, c, e, f, h, z))

  at_most_weight : (w : RefDid → ℕ) (p g : ℕ) (r : RootId) (d : RefDid) → on_root w p g (Ref r d) ≤ w d
  at_most_weight w p g r d = at_most (is_root p g r) (w d)
    where
      at_most : (b : Bool) (n : ℕ) → cond {A = ℕ} b n 0 ≤ n
      at_most true n = le_refl n
      at_most false n = omega arith

  at_most_place : (w : RefDid → ℕ) (p : ℕ) (r : RootId) (d : RefDid) → on_place w p (Ref r d) ≤ w d
  at_most_place w p r d = at_most (eqb r.place p) (w d)
    where
      at_most : (b : Bool) (n : ℕ) → cond {A = ℕ} b n 0 ≤ n
      at_most true n = le_refl n
      at_most false n = omega arith

  -- a step that vacates nothing, and one by the view with the token
  pub settled_more : (v : SeatView) (r : RootId) (d : RefDid) (m : ℕ)
      → ((p g : ℕ) → weigh (on_root ref_vacated p g) v ≤ weigh (on_root ref_ended p g) v) → ref_vacated d ≡ 0
      → (p g : ℕ) → weigh (on_root ref_vacated p g) (with_ref v r d m) ≤ weigh (on_root ref_ended p g)
      (with_ref v r d m)
  settled_more v r d m settled free p g =
      let a = weigh_ref (on_root ref_vacated p g) v r d m in let b = weigh_ref (on_root ref_ended p g) v r d m in
      let f = at_most_weight ref_vacated p g r d in let h = settled p g in
      omega (arith, a, b, f, h, free)

  pub settled_less : (v : SeatView) (r : RootId) (m : ℕ)
      → ((p g : ℕ) → weigh (on_root ref_vacated p g) v ≤ weigh (on_root ref_ended p g) v)
      → TokenAt r.place r.generation v → (p g : ℕ)
      → weigh (on_root ref_vacated p g) (with_ref v r Vacated m) ≤ weigh (on_root ref_ended p g)
      (with_ref v r Vacated m)
  settled_less v r m settled has p g =
      let a = weigh_ref (on_root ref_vacated p g) v r Vacated m in let b =
      weigh_ref (on_root ref_ended p g) v r Vacated m in
      dite (ℕ_discrete r.place p)
      (λ rp. dite (ℕ_discrete r.generation g)
      (λ rg. let f = at_most_weight ref_vacated p g r Vacated in let h : TokenAt p g v =
      subst (λ (y : ℕ × ℕ). TokenAt y.0 y.1 v) (λ q. (rp q, rg q)) has in omega (arith, a, b, f, h))
      (λ ne. let f = elsewhere ref_vacated p g r Vacated ne in let h = settled p g in omega (arith, a, b, f, h)))
      (λ ne. let f = other_place ref_vacated p g r Vacated ne in let h = settled p g in omega (arith, a, b, f, h))

  -- one step more
  orderly_ref : (v : SeatView) (r : RootId) (d : RefDid) (m : ℕ)
      → ((p : ℕ) → (on_place ref_born p (Ref r d) ≡ 0) ⊎ ((on_place ref_born p (Ref r d) ≤ 1) × IsBearing p v))
      → ((p g : ℕ) → (on_root ref_vacated p g (Ref r d) ≡ 0)
      ⊎ ((on_root ref_vacated p g (Ref r d) ≤ 1) × EndedAt p g v))
      → ((p g : ℕ) → (on_root ref_born p g (Ref r d) ≡ 0)
      ⊎ ((on_root ref_born p g (Ref r d) ≤ 1) × (weigh (on_root ref_born p g) v < weigh (at_birth_of p g) v)))
      → ((p g c : ℕ) → (on_exact ref_born p g c (Ref r d) ≡ 0)
      ⊎ ((on_exact ref_born p g c (Ref r d) ≤ 1) × (weigh (on_exact ref_born p g c) v < weigh (at_birth_as p g c) v)))
      → IsOrderly v → IsOrderly (with_ref v r d m)
  orderly_ref v r d m births vacates ofs exacts k = record {
    borne_of =
        λ p g. let a =
        weigh_ref (on_root ref_born p g) v r d m in let b =
        weigh_ref (at_birth_of p g) v r d m in let z : at_birth_of p g (Ref r d)
        ≡ 0 = refl in let c = k.borne_of p g in ⊎_elim
        (λ (y : on_root ref_born p g (Ref r d) ≡ 0). omega (arith, a, b, z, c, y))
        (λ (y : (on_root ref_born p g (Ref r d) ≤ 1) × (weigh (on_root ref_born p g) v < weigh (at_birth_of p g) v)).
        let y0 = y.0 in let y1 = y.1 in omega (arith, a, b, z, y0, y1))
        (ofs p g);
    borne_as =
        λ p g x. let a =
        weigh_ref (on_exact ref_born p g x) v r d m in let b =
        weigh_ref (at_birth_as p g x) v r d m in let z : at_birth_as p g x (Ref r d)
        ≡ 0 = refl in let c = k.borne_as p g x in ⊎_elim
        (λ (y : on_exact ref_born p g x (Ref r d) ≡ 0). omega (arith, a, b, z, c, y))
        (λ (y : (on_exact ref_born p g x (Ref r d) ≤ 1)
        × (weigh (on_exact ref_born p g x) v < weigh (at_birth_as p g x) v)). let y0 = y.0 in let y1 = y.1 in
        omega (arith, a, b, z, y0, y1))
        (exacts p g x);
    borne =
        λ p. let a =
        weigh_ref (on_place ref_born p) v r d m in let b =
        weigh_ref (at_birth p) v r d m in let z : at_birth p (Ref r d) ≡ 0 = refl in let c = k.borne p in ⊎_elim
        (λ (y : on_place ref_born p (Ref r d) ≡ 0). omega (arith, a, b, z, c, y))
        (λ (y : (on_place ref_born p (Ref r d) ≤ 1) × IsBearing p v). let y0 = y.0 in let y1 = y.1 in
        omega (arith, a, b, z, y0, y1))
        (births p);
    bears =
        λ p. let a =
        weigh_ref (on_place ref_born p) v r d m in let b =
        weigh_ref (at_birth p) v r d m in let c =
        weigh_ref (at_in p) v r d m in let e =
        weigh_ref (at_out p) v r d m in let f = weigh_ref (on_place ref_vacated p) v r d m in
        let z : at_birth p (Ref r d) ≡ 0 = refl in let y : at_in p (Ref r d) ≡ 0 = refl in let x : at_out p (Ref r d)
        ≡ 0 = refl in let h = k.bears p in
        omega (arith, a, b, c, e, f, z, y, x, h);
    held =
        λ q. held_more q v (with_ref v r d m) (Ref r d) (λ f. weigh_ref f v r d m)
        (inl (record { none = refl; unused = refl; light = λ _. refl })) (k.held q);
    ending =
        λ p g. let a =
        weigh_ref (at_end p g) v r d m in let b =
        weigh_ref (on_root ref_ended p g) v r d m in let z : at_end p g (Ref r d)
        ≡ 0 = refl in let c = k.ending p g in omega (arith, a, b, z, c);
    over =
        λ p g. let a =
        weigh_ref (at_end p g) v r d m in let b =
        weigh_ref (on_root ref_vacated p g) v r d m in let z : at_end p g (Ref r d)
        ≡ 0 = refl in let c = k.over p g in ⊎_elim
        (λ (y : on_root ref_vacated p g (Ref r d) ≡ 0). omega (arith, a, b, z, c, y))
        (λ (y : (on_root ref_vacated p g (Ref r d) ≤ 1) × EndedAt p g v). let y0 = y.0 in let y1 = y.1 in
        omega (arith, a, b, z, y0, y1))
        (vacates p g);
  }

  -- a step that isn't a birth puts nothing down
  pub handy_more : (v : SeatView) (r : RootId) (d : RefDid) (m : ℕ) → ((p : ℕ) → put_down p v ≤ taken p v)
      → ref_born d ≡ 0
      → (p : ℕ) → put_down p (with_ref v r d m) ≤ taken p (with_ref v r d m)
  handy_more v r d m handy free p =
      let a = weigh_ref (at_out p) v r d m in let b = weigh_ref (on_place ref_born p) v r d m in let c =
      weigh_ref (at_in p) v r d m in let e = weigh_ref (on_place ref_vacated p) v r d m in
      let z : at_out p (Ref r d) ≡ 0 = refl in let y : at_in p (Ref r d)
      ≡ 0 = refl in let f = at_most_place ref_born p r d in let h = handy p in
      omega (arith, a, b, c, e, z, y, f, h, free)

  -- a birth puts down the place, which is in hand
  pub handy_less : (v : SeatView) (r : RootId) (m : ℕ) → ((p : ℕ) → put_down p v ≤ taken p v) → InHand r.place v
      → (p : ℕ) → put_down p (with_ref v r Born m) ≤ taken p (with_ref v r Born m)
  handy_less v r m handy has p =
      let a = weigh_ref (at_out p) v r Born m in let b = weigh_ref (on_place ref_born p) v r Born m in let c =
      weigh_ref (at_in p) v r Born m in let e = weigh_ref (on_place ref_vacated p) v r Born m in
      let z : at_out p (Ref r Born) ≡ 0 = refl in let y : at_in p (Ref r Born) ≡ 0 = refl in
      dite (ℕ_discrete r.place p)
      (λ rp. let f = at_most_place ref_born p r Born in let h : InHand p v = subst (λ (q : ℕ). InHand q v) rp has in
      omega (arith, a, b, c, e, z, y, f, h))
      (λ ne. let f = place_elsewhere ref_born p r Born ne in let h = handy p in omega (arith, a, b, c, e, z, y, f, h))

  and_off : (x : Bool) → cond {A = ℕ} (x && false) 1 0 ≡ 0
  and_off true = refl
  and_off false = refl

  at_most_exact : (w : RefDid → ℕ) (p g c : ℕ) (r : RootId) (d : RefDid) → on_exact w p g c (Ref r d) ≤ w d
  at_most_exact w p g c r d = at_most (is_root p g r && eqb r.capacity c) (w d)
    where
      at_most : (b : Bool) (n : ℕ) → cond {A = ℕ} b n 0 ≤ n
      at_most true n = le_refl n
      at_most false n = omega arith

  pub exact_le : (w : RefDid → ℕ) (p g c : ℕ) (r : RootId) (d : RefDid)
      → on_exact w p g c (Ref r d) ≤ on_root w p g (Ref r d)
  exact_le w p g c r d = at_most (is_root p g r) (eqb r.capacity c) (w d)
    where
      at_most : (b e : Bool) (n : ℕ) → cond {A = ℕ} (b && e) n 0 ≤ cond {A = ℕ} b n 0
      at_most true true n = le_refl n
      at_most true false n = omega arith
      at_most false e n = omega arith

  -- a step that is no birth and vacates nothing
  pub orderly_more : (v : SeatView) (r : RootId) (d : RefDid) (m : ℕ) → IsOrderly v → ref_born d ≡ 0 → ref_vacated d ≡ 0
      → IsOrderly (with_ref v r d m)
  orderly_more v r d m k unborn kept =
      orderly_ref v r d m (λ p. let f = at_most_place ref_born p r d in inl (omega (arith, f, unborn)))
      (λ p g. let f = at_most_weight ref_vacated p g r d in inl (omega (arith, f, kept)))
      (λ p g. let f = at_most_weight ref_born p g r d in inl (omega (arith, f, unborn)))
      (λ p g c. let f = at_most_exact ref_born p g c r d in inl (omega (arith, f, unborn))) k

  -- a birth that the view noted
  pub orderly_born : (v : SeatView) (r : RootId) (m : ℕ) → IsOrderly v → IsBearing r.place v
      → weigh (on_root ref_born r.place r.generation) v < weigh (at_birth_of r.place r.generation) v
      → weigh (on_exact ref_born r.place r.generation r.capacity) v < weigh
      (at_birth_as r.place r.generation r.capacity) v → IsOrderly (with_ref v r Born m)
  orderly_born v r m k bearing this exact = orderly_ref v r Born m
      (λ p. dite (ℕ_discrete r.place p)
      (λ e. inr (at_most_place ref_born p r Born, subst (λ (q : ℕ). IsBearing q v) e bearing))
      (λ ne. inl (place_elsewhere ref_born p r Born ne)))
      (λ p g. let f = at_most_weight ref_vacated p g r Born in inl (omega (arith, f)))
      (λ p g. dite (ℕ_discrete r.place p)
      (λ e. dite (ℕ_discrete r.generation g)
      (λ f. inr (
        at_most_weight ref_born p g r Born,
        subst
            (λ (y : ℕ × ℕ). weigh (on_root ref_born y.0 y.1) v < weigh (at_birth_of y.0 y.1) v) (λ q. (e q, f q)) this,
      ))
      (λ ne. inl (elsewhere ref_born p g r Born ne)))
      (λ ne. inl (other_place ref_born p g r Born ne)))
      (λ p g c. dite (ℕ_discrete r.place p)
      (λ e. dite (ℕ_discrete r.generation g)
      (λ f. dite (ℕ_discrete r.capacity c)
      (λ h. inr (
        at_most_exact ref_born p g c r Born,
        subst
            (λ (y : ℕ × ℕ × ℕ). weigh (on_exact ref_born y.0 y.1 y.2) v < weigh (at_birth_as y.0 y.1 y.2) v)
            (λ q. (e q, f q, h q)) exact,
      ))
      (λ ne. inl (ap (λ (x : Bool). cond {A = ℕ} (is_root p g r && x) 1 0) (ne_eqb r.capacity c ne)
      ∙ and_off (is_root p g r))))
      (λ ne. let z = elsewhere ref_born p g r Born ne in let f = exact_le ref_born p g c r Born in
      inl (omega (arith, z, f))))
      (λ ne. let z = other_place ref_born p g r Born ne in let f = exact_le ref_born p g c r Born in
      inl (omega (arith, z, f)))) k

  -- the place is vacated by the view that noted the end
  pub orderly_vacated : (v : SeatView) (r : RootId) (m : ℕ) → IsOrderly v → EndedAt r.place r.generation v
      → IsOrderly (with_ref v r Vacated m)
  orderly_vacated v r m k ended = orderly_ref v r Vacated m
      (λ p. let f = at_most_place ref_born p r Vacated in inl (omega (arith, f)))
      (λ p g. dite (ℕ_discrete r.place p)
      (λ e. dite (ℕ_discrete r.generation g)
      (λ f. inr (
        at_most_weight ref_vacated p g r Vacated,
        subst (λ (y : ℕ × ℕ). EndedAt y.0 y.1 v) (λ q. (e q, f q))
            ended,
      ))
      (λ ne. inl (elsewhere ref_vacated p g r Vacated ne)))
      (λ ne. inl (other_place ref_vacated p g r Vacated ne)))
      (λ p g. let f = at_most_weight ref_born p g r Vacated in inl (omega (arith, f)))
      (λ p g c. let f = at_most_exact ref_born p g c r Vacated in inl (omega (arith, f))) k
