-- The entries of a part, as a longer history tells them.
use Rattle.std.proofs.Common.{◌≡◌, ◌≢◌, ℕ, zero, suc, ◌+◌, ◌-◌, ◌<◌, ◌≤◌, List, [], ◌∷◌, ◌++◌, length, get_or, Bool, true, false, cond, eqb, true≢false, sym, refl, ap, ◌∙◌, subst, ⊎_elim, arith, append-nil, eq-eqb, ne_eqb}
use Rattle.std.specs.Prelude.{Option, Some, None, All, sum_by, count_by, filter, filter_map, slice_get}
use Rattle.std.proofs.lemmas.List.Elements.{All-push, All-weaker, All-nil, filter-append, filter_map-append}
use Rattle.std.proofs.lemmas.List.{append_assoc}
use Rattle.std.proofs.lemmas.List.Quantifiers.{all_pairs_push}
use Rattle.std.proofs.lemmas.List.Sums.{sum_by-cons, sum_by_push}
use Rattle.std.proofs.lemmas.Option.{slice_get_within}
use Rattle.std.proofs.lemmas.Bool.Decides.{eqb_tells}
use Rattle.step_law.proofs.Changes.{sum_none}
use Rattle.pool_law.specs.declared.note.Held.{Held}
use Rattle.pool_law.specs.declared.note.Noted.{Noted}
use Rattle.pool_law.specs.declared.note.Object.{Object}
use Rattle.pool_law.specs.declared.note.Object.TheVariants.{Arena, Cache, Bin, Mail, Root}
use Rattle.pool_table.specs.declared.views.Entry.{Entry}
use Rattle.pool_table.specs.declared.views.Entry.TheVariants.{At, Ref, Busy}
use Rattle.pool_table.specs.declared.views.Part.{Part}
use Rattle.pool_table.specs.Views.{ObjectView, is_numbered, noted_of, is_lane, in_object_view, total, noted_weight, empty_part}
use Rattle.pool_table.specs.Sound.{Before, Tells, IsTold, IsMarked, WasPresent}

-- what was present once was present then, whatever notes come later
present_longer : (o : Object) (h more : List Noted) (n : ℕ) → WasPresent o h n → WasPresent o (h ++ more) n
present_longer (Root p) h more n (early, late, is, many, there) =
    (early, late ++ more, ap (λ (x : List Noted). x ++ more) is ∙ append_assoc early late more, many, there)
present_longer (Arena a) h more n w = tt
present_longer (Cache m c) h more n w = tt
present_longer (Bin b) h more n w = tt
present_longer (Mail f t) h more n w = tt

module _ (o : Object) where
  tells_looser : (h : List Noted) (limit limit' : ℕ) (lane : Option ℕ) → limit ≤ limit' → (e : Entry)
      → Tells o h limit lane e → Tells o h limit' lane e
  tells_looser h limit limit' lane le (At p k n) t = t
  tells_looser h limit limit' lane le (Busy b) t = let a : b.number < limit = t.0 in (omega (arith, a), t.1, t.2)
  tells_looser h limit limit' lane le (Ref r d) t = t

  pub looser : (h : List Noted) (limit limit' : ℕ) → limit ≤ limit' → (p : Part) → IsTold o h limit p
      → IsTold o h limit' p
  looser h limit limit' le p t =
      record {
        ordered = t.ordered;
        told = All-weaker (Tells o h limit p.number) (Tells o h limit' p.number)
            (tells_looser h limit limit' p.number le) p.notes t.told;
        own = t.own;
      }

  pub looser_all : (h : List Noted) (limit limit' : ℕ) (ps : List Part) → limit ≤ limit' → All (IsTold o h limit) ps
      → All (IsTold o h limit') ps
  looser_all h limit limit' ps le all =
      All-weaker (IsTold o h limit) (IsTold o h limit') (looser h limit limit' le) ps all

  pub slice_get_front : (xs ys : List Noted) (k : ℕ) (x : Noted) → slice_get xs k ≡ Some x
      → slice_get (xs ++ ys) k ≡ Some x
  slice_get_front [] ys k x e = absurd (cc)
  slice_get_front (y ∷ xs) ys zero x e = e
  slice_get_front (y ∷ xs) ys (suc k) x e = slice_get_front xs ys k x e

  pub slice_get_last : (xs : List Noted) (x : Noted) → slice_get (xs ++ x ∷ []) (length xs) ≡ Some x
  slice_get_last [] x = refl
  slice_get_last (y ∷ xs) x = slice_get_last xs x

  tells_longer : (h : List Noted) (more : List Noted) (limit limit' : ℕ) (lane : Option ℕ) → limit ≤ limit'
      → (e : Entry) → Tells o h limit lane e → Tells o (h ++ more) limit' lane e
  tells_longer h more limit limit' lane le (At p k n) t = (t.0, slice_get_front h more (k - 1) n t.1, t.2)
  tells_longer h more limit limit' lane le (Busy b) t =
      let a : b.number < limit = t.0 in (omega (arith, a), t.1, present_longer o h more b.number t.2)
  tells_longer h more limit limit' lane le (Ref r d) t = t

  filter_skips : (test : Noted → Bool) (h : List Noted) (x : Noted) → test x ≡ false
      → filter test (h ++ x ∷ []) ≡ filter test h
  filter_skips test h x e =
      filter-append test h (x ∷ []) ∙ (ap (λ (b : Bool). filter test h ++ cond b (x ∷ []) []) e
      ∙ append-nil (filter test h))

  filter_takes : (test : Noted → Bool) (h : List Noted) (x : Noted) → test x ≡ true
      → filter test (h ++ x ∷ []) ≡ filter test h ++ x ∷ []
  filter_takes test h x e = filter-append test h (x ∷ []) ∙ ap (λ (b : Bool). filter test h ++ cond b (x ∷ []) []) e

  -- another part, when the history gets one note more
  pub longer : (h : List Noted) (x : Noted) (limit limit' : ℕ) → limit ≤ limit' → (p : Part)
      → ((m : ℕ) → p.number ≡ Some m → is_lane m x.lane ≡ false) → IsTold o h limit p → IsTold o (h ++ x ∷ []) limit' p
  longer h x limit limit' le p apart t = record {
    ordered = t.ordered;
    told =
        All-weaker (Tells o h limit p.number) (Tells o (h ++ x ∷ []) limit' p.number)
        (tells_longer h (x ∷ []) limit limit' p.number le) p.notes t.told;
    own = λ m e. t.own m e ∙ sym (filter_skips (λ (n : Noted). is_lane m n.lane) h x (apart m e));
  }

  before_note : (h : List Noted) (lane : Option ℕ) (q : Object) (x : Noted) (e : Entry) → Tells o h (length h) lane e
      → Before e (At q (length h + 1) x)
  before_note h lane q x (At p k n) t =
      let a = slice_get_within h (k - 1) n t.1 in let z : 0 < k = t.0 in let l : ℕ = length h in let a' : k - 1 < l =
      a in let g : k < l + 1 = omega (arith, a', z) in
      g
  before_note h lane q x (Busy b) t =
      let a : b.number < length h = t.0 in let l : ℕ = length h in let a' : b.number < l = a in
      let g : b.number + 1 < l + 1 = omega (arith, a') in
      g
  before_note h lane q x (Ref r d) t = tt

  before_mark : (h : List Noted) (lane : Option ℕ) (limit : ℕ) (b : Held) → b.number ≡ length h → limit ≤ length h + 1
      → (e : Entry) → Tells o h limit lane e → Before e (Busy b)
  before_mark h lane limit b is le (At p k n) t =
      let a = slice_get_within h (k - 1) n t.1 in let z : 0 < k = t.0 in let l : ℕ = length h in let a' : k - 1 < l =
      a in let is' : b.number ≡ l = is in let g : k ≤ b.number = omega (arith, a', z, is') in
      g
  before_mark h lane limit b is le (Busy c) t =
      let a : c.number < limit = t.0 in let l : ℕ = length h in let is' : b.number
      ≡ l = is in let le' : limit ≤ l + 1 = le in let g : c.number ≤ b.number = omega (arith, a, is', le') in
      g
  before_mark h lane limit b is le (Ref r d) t = tt

  some_lane : (m : ℕ) (l : Option ℕ) → l ≡ Some m → is_lane m l ≡ true
  some_lane m l e = subst (λ (x : Option ℕ). is_lane m x ≡ true) (sym e) (eq-eqb m m refl)

  -- the part that makes the note
  pub noted_here : (h : List Noted) (x : Noted) (q : Object) (limit : ℕ) (p : Part) → length h ≤ limit
      → x.lane ≡ p.number → IsTold o h (length h) p
      → IsTold o (h ++ x ∷ []) limit (record { number = p.number; notes = p.notes ++ At q (length h + 1) x ∷ [] })
  noted_here h x q limit p le lane t = record {
    ordered =
        all_pairs_push Before p.notes (At q (length h + 1) x) t.ordered
        (λ k d lt. before_note h p.number q x (get_or p.notes k d) (t.told k d lt));
    told = All-push (Tells o (h ++ x ∷ []) limit p.number) p.notes (At q (length h + 1) x)
        (All-weaker (Tells o h (length h) p.number) (Tells o (h ++ x ∷ []) limit p.number)
        (tells_longer h (x ∷ []) (length h) limit p.number le) p.notes t.told) (
          (let l : ℕ = length h in let g : 0 < l + 1 = omega arith in g),
          (let l : ℕ = length h in let same : l ≡ l + 1 - 1 = omega arith in
              subst (λ (k : ℕ). slice_get (h ++ x ∷ []) k ≡ Some x) same (slice_get_last h x)),
          lane,
        );
    own =
        λ m e. filter_map-append noted_of p.notes (At q (length h + 1) x ∷ [])
        ∙ (ap (λ (l : List Noted). l ++ x ∷ []) (t.own m e)
        ∙ sym (filter_takes (λ (n : Noted). is_lane m n.lane) h x (some_lane m x.lane (lane ∙ e))));
  }

  -- the part that keeps the mark
  pub marked_here : (h : List Noted) (b : Held) (limit : ℕ) (p : Part) → b.number ≡ length h → limit ≡ length h + 1
      → IsMarked o → WasPresent o h b.number → IsTold o h limit p
      → IsTold o h limit (record { number = p.number; notes = p.notes ++ Busy b ∷ [] })
  marked_here h b limit p is top mark present t = record {
    ordered =
        all_pairs_push Before p.notes (Busy b) t.ordered
        (λ k d lt. before_mark h p.number limit b is
        (let l : ℕ = length h in let e : limit ≡ l + 1 = top in omega (arith, e)) (get_or p.notes k d)
        (t.told k d lt));
    told =
        All-push (Tells o h limit p.number) p.notes (Busy b) t.told (
          (let l : ℕ = length h in let e : limit ≡ l + 1 = top in let f : b.number ≡ l = is in omega (arith, e, f)),
          mark,
          present,
        );
    own =
        λ m e. filter_map-append noted_of p.notes (Busy b ∷ [])
        ∙ (append-nil (filter_map noted_of p.notes) ∙ t.own m e);
  }

  pub count_skips : (test : Entry → Bool) (es : List Entry) (e : Entry) → test e ≡ false
      → count_by test (es ++ e ∷ []) ≡ count_by test es
  count_skips test es e fails =
      let a = sum_by_push (λ (x : Entry). cond {A = ℕ} (test x) 1 0) es e in let b =
      ap (λ (c : Bool). cond {A = ℕ} c 1 0) fails in
      omega (arith, a, b)

  pub count_takes : (test : Entry → Bool) (es : List Entry) (e : Entry)
      → count_by test (es ++ e ∷ []) ≡ count_by test es + cond {A = ℕ} (test e) 1 0
  count_takes test es e = sum_by_push (λ (x : Entry). cond {A = ℕ} (test x) 1 0) es e

  -- one entry more at the front part
  pub grown : (f : Noted → ℕ) (p : Part) (ps : List Part) (e : Entry)
      → sum_by (λ (q : Part). sum_by (noted_weight f) q.notes)
      (record { number = p.number; notes = p.notes ++ e ∷ [] } ∷ ps)
      ≡ sum_by (λ (q : Part). sum_by (noted_weight f) q.notes) (p ∷ ps) + noted_weight f e
  grown f p ps e =
      let g : Part → ℕ = λ (q : Part). sum_by (noted_weight f) q.notes in let p' : Part =
      record { number = p.number; notes = p.notes ++ e ∷ [] } in
      let a : sum_by g (p' ∷ ps) ≡ g p' + sum_by g ps = sum_by-cons g p' ps in let b : sum_by g (p ∷ ps)
      ≡ g p + sum_by g ps = sum_by-cons g p ps in
      let c : g p' ≡ g p + noted_weight f e = sum_by_push (noted_weight f) p.notes e in omega (arith, a, b, c)

  pub told_empty : (h : List Noted) (limit : ℕ) → IsTold o h limit (empty_part None)
  told_empty h limit =
      record {
        ordered = λ i j d lt below. absurd (omega (arith, below));
        told = All-nil (Tells o h limit None);
        own =
            λ m e. absurd (cc);
      }

  -- no note has a number above the history's length
  beyond : (h : List Noted) (limit : ℕ) (lane : Option ℕ) (e : Entry) → Tells o h limit lane e
      → cond {A = ℕ} (is_numbered (length h + 1) e) 1 0 ≡ 0
  beyond h limit lane (At p k n) t =
      let a = slice_get_within h (k - 1) n t.1 in let l : ℕ = length h in let a' : k - 1 < l = a in let z : 0 < k =
      t.0 in let ne : k ≢ l + 1 = (λ e. omega (arith, a', z, e)) in
      ap (λ (b : Bool). cond {A = ℕ} b 1 0) (ne_eqb k (l + 1) ne)
  beyond h limit lane (Busy b) t = refl
  beyond h limit lane (Ref r d) t = refl

  beyond_part : (h : List Noted) (limit : ℕ) (p : Part) → IsTold o h limit p
      → count_by (is_numbered (length h + 1)) p.notes ≡ 0
  beyond_part h limit p t =
      sum_none (λ (e : Entry). cond {A = ℕ} (is_numbered (length h + 1) e) 1 0) p.notes
      (All-weaker (Tells o h limit p.number) (λ (e : Entry). cond {A = ℕ} (is_numbered (length h + 1) e) 1 0 ≡ 0)
      (beyond h limit p.number) p.notes t.told)

  pub beyond_all : (h : List Noted) (limit : ObjectView → ℕ) (object_views : List ObjectView)
      → All (λ (f : ObjectView). All (IsTold o h (limit f)) f.parts) object_views
      → total (is_numbered (length h + 1)) object_views ≡ 0
  beyond_all h limit object_views all =
      sum_none (in_object_view (is_numbered (length h + 1))) object_views
      (All-weaker (λ (f : ObjectView). All (IsTold o h (limit f)) f.parts)
      (λ (f : ObjectView). in_object_view (is_numbered (length h + 1)) f ≡ 0)
      (λ f t. sum_none (λ (p : Part). count_by (is_numbered (length h + 1)) p.notes) f.parts
      (All-weaker (IsTold o h (limit f)) (λ (p : Part). count_by (is_numbered (length h + 1)) p.notes ≡ 0)
      (beyond_part h (limit f)) f.parts t)) object_views all)

  -- where no mark may be the history's length, each is below it
  tells_calm : (h : List Noted) (limit limit' : ℕ) → ((n : ℕ) → IsMarked o → WasPresent o h n → n ≢ length h)
      → limit ≤ length h + 1 → length h ≤ limit' → (lane : Option ℕ) (e : Entry) → Tells o h limit lane e
      → Tells o h limit' lane e
  tells_calm h limit limit' calm le more lane (At p k n) t = t
  tells_calm h limit limit' calm le more lane (Busy b) t =
      let l : ℕ = length h in let a : b.number < limit = t.0 in let le' : limit ≤ l + 1 = le in let more' : l ≤ limit' =
      more in let ne : b.number ≢ l = calm b.number t.1 t.2 in
      (omega (arith, a, le', more', ne), t.1, t.2)
  tells_calm h limit limit' calm le more lane (Ref r d) t = t

  pub calm_all : (h : List Noted) (limit limit' : ℕ) → ((n : ℕ) → IsMarked o → WasPresent o h n → n ≢ length h)
      → limit ≤ length h + 1 → length h ≤ limit' → (ps : List Part) → All (IsTold o h limit) ps
      → All (IsTold o h limit') ps
  calm_all h limit limit' calm le more ps all = All-weaker (IsTold o h limit) (IsTold o h limit')
      (λ p t. record {
        ordered = t.ordered;
        told =
            All-weaker (Tells o h limit p.number) (Tells o h limit' p.number)
            (tells_calm h limit limit' calm le more p.number) p.notes t.told;
        own = t.own;
      }) ps all

  lane_apart : (m : ℕ) (l r : Option ℕ) → (l ≡ Some m → is_lane m r ≡ false) → r ≡ Some m → is_lane m l ≡ false
  lane_apart m None r apart e = refl
  lane_apart m (Some k) r apart e = ⊎_elim
      (λ (t : (eqb k m ≡ true) × (k ≡ m)). absurd (true≢false (sym (some_lane m r e) ∙ apart (ap Some t.1))))
      (λ (t : (eqb k m ≡ false) × (k ≢ m)). t.0)
      (eqb_tells k m)

  -- the other parts, when a note is made by one with another number
  pub longer_all : (h : List Noted) (limit limit' : ℕ) (nd : Noted) (ps : List Part) → limit ≤ limit'
      → ((m : ℕ) → nd.lane ≡ Some m → All (λ (r : Part). is_lane m r.number ≡ false) ps) → All (IsTold o h limit) ps
      → All (IsTold o (h ++ nd ∷ []) limit') ps
  longer_all h limit limit' nd ps le apart all =
      λ k d lt. longer h nd limit limit' le (get_or ps k d)
      (λ m e. lane_apart m nd.lane (get_or ps k d).number (λ l. apart m l k d lt) e) (all k d lt)

  -- a note with the next number, and then each number stands once
  pub each_once : (h : List Noted) (object_views : List ObjectView)
      → ((k : ℕ) → k < length h → total (is_numbered (k + 1)) object_views ≡ 1)
      → total (is_numbered (length h + 1)) object_views ≡ 0
      → (q : Object) (nd : Noted) (j : ℕ) → j < length h + 1
      → total (is_numbered (j + 1)) object_views + cond {A = ℕ} (is_numbered (j + 1) (At q (length h + 1) nd)) 1 0 ≡ 1
  each_once h object_views once fresh q nd j lt = ⊎_elim
      (λ (t : (eqb (length h + 1) (j + 1) ≡ true) × (length h + 1 ≡ j + 1)).
      let l : ℕ = length h in let e : l + 1 ≡ j + 1 = t.1 in let same : l ≡ j = omega (arith, e) in
      let z : total (is_numbered (j + 1)) object_views ≡ 0 =
      subst (λ (k : ℕ). total (is_numbered (k + 1)) object_views ≡ 0) same fresh in
      let c : cond {A = ℕ} (eqb (length h + 1) (j + 1)) 1 0 ≡ 1 = ap (λ (b : Bool). cond {A = ℕ} b 1 0) t.0 in
      omega (arith, z, c))
      (λ (t : (eqb (length h + 1) (j + 1) ≡ false) × (length h + 1 ≢ j + 1)).
      let l : ℕ = length h in let ne : l + 1 ≢ j + 1 = t.1 in let lt' : j < l + 1 = lt in let below : j < l =
      omega (arith, ne, lt') in
      let z : total (is_numbered (j + 1)) object_views ≡ 1 = once j below in
      let c : cond {A = ℕ} (eqb (length h + 1) (j + 1)) 1 0 ≡ 0 = ap (λ (b : Bool). cond {A = ℕ} b 1 0) t.0 in
      omega (arith, z, c))
      (eqb_tells (length h + 1) (j + 1))
