-- Each kind of step keeps what the rule says of one object.
use Rattle.step_law.specs.Settings.{Setting}
use Rattle.std.proofs.Common.{◌≡◌, ◌≢◌, ℕ, ◌+◌, ◌-◌, ◌*◌, ◌<◌, ◌≤◌, List, [], ◌∷◌, ◌++◌, length, set, Bool, false, cond, sym, refl, ap, ◌∙◌, subst, arith, length-append}
use Rattle.std.specs.Prelude.{Option, Some, None, IfSome, All, sum_by, count_by}
use Rattle.std.proofs.lemmas.List.Elements.{All-cons, All-head, All-tail, All-push, All-set}
use Rattle.std.proofs.lemmas.List.Sums.{sum_by-cons, sum_by_push}
use mathlib.Core.Option.{some}
use mathlib.Core.Option as maybe
use lib.ListN.{get_elem?}
use Rattle.atomic_table.proofs.Lists.{set_else}
use Rattle.step_law.proofs.Changes.{each_at, each_from, each_set, sum_set, sum_same, sum_at}
use Rattle.pool_law.specs.declared.run.Shape.{Shape}
use Rattle.pool_law.specs.declared.note.Held.{Held}
use Rattle.pool_law.specs.declared.note.Noted.{Noted}
use Rattle.pool_law.specs.declared.note.Object.{Object}
use Rattle.history_laws.specs.Histories.{IsLawful}
use Rattle.history_laws.specs.Measures.{measures_of}
use Rattle.pool_table.specs.declared.views.Entry.{Entry}
use Rattle.pool_table.specs.declared.views.Entry.TheVariants.{At, Busy}
use Rattle.pool_table.specs.declared.views.Part.{Part}
use Rattle.pool_table.specs.declared.views.Inside.{Inside}
use Rattle.pool_table.specs.Views.{ObjectView, is_at, is_numbered, is_lane, is_in, inside_total, in_object_view, total, noted_in, noted_total, empty_part, one_if}
use Rattle.pool_table.specs.Sound.{IsTold, Knows, IsKept, IsMarked, WasPresent}
use Rattle.pool_table.proofs.Tellings.{looser_all, marked_here, count_skips, grown, noted_here, count_takes, beyond_all, longer_all, each_once, calm_all, told_empty}

module _ {H : Type 0} (stands : List ℕ → Setting → List Noted → H → Type 0) (shape : Shape) (setting : Setting)
    (o : Object) where
  abbrev K : List ObjectView → ℕ → maybe.Option (maybe.Option (Option H)) → Type 0
  K object_views word home = IsKept stands shape setting o object_views word home

  pub claimed_kept : (object_views : List ObjectView) (word : ℕ) (home home' : maybe.Option (maybe.Option (Option H)))
      (id : ℕ)
      (f : ObjectView) (x : Inside) (k : K object_views word home) → get_elem? object_views id ≡ some f
      → inside_total object_views ≡ 0
      → x.history ≡ k.history → x.number ≡ length k.history
      → K (set object_views id (record { parts = f.parts; inside = Some x })) (word + 1) home'
  claimed_kept object_views word home home' id f x k at nobody hx nx =
      let f' : ObjectView = record { parts = f.parts; inside = Some x } in
      let t : ℕ = inside_total object_views in let t' : ℕ = inside_total (set object_views id f') in let i : ℕ =
      is_in f in
      let n : ℕ = length k.history in
      let z : t ≡ 0 = nobody in
      let s : t' + i ≡ t + 1 = sum_set is_in object_views id f f' at in let le : i ≤ t =
      sum_at is_in object_views id f at in
      let one : t' ≡ 1 = omega (arith, s, le, z) in
      let wi : word ≡ 2 * n + t = k.word_is in record {
        history = k.history;
        accepted = k.accepted;
        word_is = (let g : word + 1 ≡ 2 * n + t' = omega (arith, one, wi, z) in g);
        alone = (let g : t' ≤ 1 = omega (arith, one) in g);
        knows = All-set (Knows k.history) object_views id f' (hx, nx) k.knows;
        told =
            each_set (λ (g : ObjectView). All (IsTold o k.history (n + (t - is_in g))) g.parts)
            (λ (g : ObjectView). All (IsTold o k.history (n + (t' - is_in g))) g.parts) object_views id f' k.told
            (λ j g ne e all. looser_all o k.history (n + (t - is_in g)) (n + (t' - is_in g)) g.parts
            (let ig : ℕ = is_in g in let r : n + (t - ig) ≤ n + (t' - ig) = omega (arith, z, one) in r) all)
            (looser_all o k.history (n + (t - i)) (n + (t' - 1)) f.parts
            (let r : n + (t - i) ≤ n + (t' - 1) = omega (arith, z, one) in r)
            (each_at (λ (g : ObjectView). All (IsTold o k.history (n + (t - is_in g))) g.parts) object_views id f k.told
            at));
        once = λ j lt. sum_same (in_object_view (is_numbered (j + 1))) object_views id f f' at refl ∙ k.once j lt;
        as_many = sum_same (in_object_view is_at) object_views id f f' at refl ∙ k.as_many;
        weights = λ w. sum_same (noted_in w) object_views id f f' at refl ∙ k.weights w;
        home_is = λ e. let e' : t' ≡ 0 = e in absurd (omega (arith, e', one));
      }

  -- another view was found in the section, and the mark is kept
  pub marked_kept : (object_views : List ObjectView) (word : ℕ) (home : maybe.Option (maybe.Option (Option H))) (id : ℕ)
      (p : Part)
      (ps : List Part) (b : Held) (k : K object_views word home)
      → get_elem? object_views id ≡ some (record { parts = p ∷ ps; inside = None }) → inside_total object_views ≡ 1
      → b.number ≡ length k.history → IsMarked o → WasPresent o k.history b.number
      → K (set object_views id (record {
        parts = record { number = p.number; notes = p.notes ++ Busy b ∷ [] } ∷ ps;
        inside =
            None;
      })) word home
  marked_kept object_views word home id p ps b k at busy bn mark present =
      let f : ObjectView = record { parts = p ∷ ps; inside = None } in
      let p' : Part = record { number = p.number; notes = p.notes ++ Busy b ∷ [] } in
      let f' : ObjectView = record { parts = p' ∷ ps; inside = None } in
      let t : ℕ = inside_total object_views in let t' : ℕ = inside_total (set object_views id f') in let n : ℕ =
      length k.history in
      let s : t' ≡ t = sum_same is_in object_views id f f' at refl in let one : t ≡ 1 = busy in
      let mine : All (IsTold o k.history (n + (t - 0))) (p ∷ ps) =
      each_at (λ (g : ObjectView). All (IsTold o k.history (n + (t - is_in g))) g.parts) object_views id f k.told at in
      let wi : word ≡ 2 * n + t = k.word_is in let al : t ≤ 1 = k.alone in
      let lim : n + (t - 0) ≡ n + 1 = omega (arith, one) in
      let same : (test : Entry → Bool) → test (Busy b) ≡ false
      → in_object_view test f' ≡ in_object_view test f =
      (λ test fails. sum_by-cons (λ (q : Part). count_by test q.notes) p' ps
      ∙ (ap (λ (c : ℕ). c + sum_by (λ (q : Part). count_by test q.notes) ps)
      (count_skips o test p.notes (Busy b) fails)
      ∙ sym (sum_by-cons (λ (q : Part). count_by test q.notes) p ps))) in
      record {
        history = k.history;
        accepted = k.accepted;
        word_is = (let g : word ≡ 2 * n + t' = omega (arith, wi, s) in g);
        alone = (let g : t' ≤ 1 = omega (arith, al, s) in g);
        knows = All-set (Knows k.history) object_views id f' tt k.knows;
        told =
            each_set (λ (g : ObjectView). All (IsTold o k.history (n + (t - is_in g))) g.parts)
            (λ (g : ObjectView). All (IsTold o k.history (n + (t' - is_in g))) g.parts) object_views id f' k.told
            (λ j g ne e all. looser_all o k.history (n + (t - is_in g)) (n + (t' - is_in g)) g.parts
            (let ig : ℕ = is_in g in let r : n + (t - ig) ≤ n + (t' - ig) = omega (arith, s) in r) all)
            (looser_all o k.history (n + (t - 0)) (n + (t' - 0)) (p' ∷ ps)
            (let r : n + (t - 0) ≤ n + (t' - 0) = omega (arith, s) in r)
            (All-cons (IsTold o k.history (n + (t - 0))) p' ps
            (marked_here o k.history b (n + (t - 0)) p bn lim mark present
            (All-head (IsTold o k.history (n + (t - 0))) p ps mine))
            (All-tail (IsTold o k.history (n + (t - 0))) p ps mine)));
        once =
            λ j lt. sum_same (in_object_view (is_numbered (j + 1))) object_views id f f' at
            (same (is_numbered (j + 1)) refl)
            ∙ k.once j lt;
        as_many = sum_same (in_object_view is_at) object_views id f f' at (same is_at refl) ∙ k.as_many;
        weights =
            λ w. sum_same (noted_in w) object_views id f f' at
            (grown o w p ps (Busy b) ∙ (let a : noted_in w f + 0 ≡ noted_in w f = omega arith in a)) ∙ k.weights w;
        home_is = λ e. let e' : t' ≡ 0 = e in absurd (omega (arith, e', one, s));
      }

  pub knows_outside : (h : List Noted) (f : ObjectView) → is_in f ≡ 0 → Knows h f
  knows_outside h f e = outside f.inside e
    where
      outside : (x : Option Inside) → one_if x ≡ 0 → IfSome x (λ (y : Inside). (y.history ≡ h) × (y.number ≡ length h))
      outside (Some x) e = absurd (omega (arith, e))
      outside None e = tt

  -- nobody is in the section
  nobody_in : (h : List Noted) (object_views : List ObjectView) → inside_total object_views ≡ 0
      → All (Knows h) object_views
  nobody_in h object_views nobody =
      each_from (Knows h) object_views (λ j f e. knows_outside h f
      (let a : is_in f ≤ inside_total object_views = sum_at is_in object_views j f e in let i : ℕ = is_in f in
      let t : ℕ =
      inside_total object_views in let a' : i ≤ t = a in let z : t ≡ 0 = nobody in let g : i
      ≡ 0 = omega (arith, a', z) in g))

  -- the part at the front of the view makes the note, and the section ends
  pub done_kept : (object_views : List ObjectView) (word : ℕ) (home : maybe.Option (maybe.Option (Option H))) (id : ℕ)
      (p : Part)
      (ps : List Part) (x : Inside) (q : Object) (nd : Noted) (y : H) (k : K object_views word home)
      → get_elem? object_views id ≡ some (record { parts = p ∷ ps; inside = Some x }) → nd.lane ≡ p.number
      → ((m : ℕ) → nd.lane ≡ Some m → All (λ (r : Part). is_lane m r.number ≡ false) ps
      × ((j : ℕ) (f : ObjectView) → j ≢ id → get_elem? object_views j ≡ some f
      → All (λ (r : Part). is_lane m r.number ≡ false) f.parts))
      → IsLawful shape o (k.history ++ nd ∷ []) → stands (measures_of shape o) setting (k.history ++ nd ∷ []) y
      → K (set object_views id (record {
        parts = record
            { number = p.number; notes = p.notes ++ At q (length k.history + 1) nd ∷ [] } ∷ ps;
        inside =
            None;
      })) (word + 1) (some (some (Some y)))
  done_kept object_views word home id p ps x q nd y k at lane apart accepted told_by =
      let f : ObjectView = record { parts = p ∷ ps; inside = Some x } in
      let h : List Noted = k.history in let n : ℕ = length h in
      let e : Entry = At q (n + 1) nd in
      let p' : Part = record { number = p.number; notes = p.notes ++ e ∷ [] } in
      let f' : ObjectView = record { parts = p' ∷ ps; inside = None } in
      let h' : List Noted = h ++ nd ∷ [] in let n' : ℕ = length h' in
      let t : ℕ = inside_total object_views in let t' : ℕ = inside_total (set object_views id f') in
      let s : t' + 1 ≡ t + 0 = sum_set is_in object_views id f f' at in
      let al : t ≤ 1 = k.alone in let one : t ≡ 1 = omega (arith, s, al) in let zero' : t' ≡ 0 = omega (arith, s, al) in
      let mine : All (IsTold o h (n + (t - 1))) (p ∷ ps) =
      each_at (λ (g : ObjectView). All (IsTold o h (n + (t - is_in g))) g.parts) object_views id f k.told at in
      let wi : word ≡ 2 * n + t = k.word_is in
      let more : n' ≡ n + 1 = length-append h (nd ∷ []) in
      let lim : n + (t - 1) ≡ n = omega (arith, one) in
      let grows : (test : Entry → Bool) → in_object_view test f'
      ≡ in_object_view test f + cond {A = ℕ} (test e) 1 0 = (λ test.
      let g : Part → ℕ = λ (r : Part). count_by test r.notes in
      let a : in_object_view test f' ≡ g p' + sum_by g ps = sum_by-cons g p' ps in
      let b : in_object_view test f ≡ g p + sum_by g ps = sum_by-cons g p ps in
      let c : g p' ≡ g p + cond {A = ℕ} (test e) 1 0 = count_takes o test p.notes e in omega (arith, a, b, c)) in
      let adds : (test : Entry → Bool) → total test (set object_views id f')
      ≡ total test object_views + cond {A = ℕ} (test e) 1 0 = (λ test.
      let a : total test (set object_views id f') + in_object_view test f
      ≡ total test object_views + in_object_view test f' =
      sum_set (in_object_view test) object_views id f f' at in let b = grows test in
      omega (arith, a, b)) in record {
        history = h';
        accepted = accepted;
        word_is = (let g : word + 1 ≡ 2 * n' + t' = omega (arith, wi, one, zero', more) in g);
        alone = (let g : t' ≤ 1 = omega (arith, zero') in g);
        knows = nobody_in h' (set object_views id f') zero';
        told =
            each_set (λ (g : ObjectView). All (IsTold o h (n + (t - is_in g))) g.parts)
            (λ (g : ObjectView). All (IsTold o h' (n' + (t' - is_in g))) g.parts) object_views id f' k.told
            (λ j g ne e all. longer_all o h (n + (t - is_in g)) (n' + (t' - is_in g)) nd g.parts
            (let ig : ℕ = is_in g in let r : n + (t - ig) ≤ n' + (t' - ig) = omega (arith, one, zero', more) in r)
            (λ m em. (apart m em).1 j g ne e) all)
            (All-cons (IsTold o h' (n' + (t' - 0))) p' ps
            (noted_here o h nd q (n' + (t' - 0)) p (let r : n ≤ n' + (t' - 0) = omega (arith, more) in r) lane
            (subst (λ (l : ℕ). IsTold o h l p) lim (All-head (IsTold o h (n + (t - 1))) p ps mine)))
            (longer_all o h (n + (t - 1)) (n' + (t' - 0)) nd ps
            (let r : n + (t - 1) ≤ n' + (t' - 0) = omega (arith, lim, more) in r) (λ m em. (apart m em).0)
            (All-tail (IsTold o h (n + (t - 1))) p ps mine)));
        once =
            λ j lt. adds (is_numbered (j + 1)) ∙ each_once o h object_views k.once
            (beyond_all o h (λ (g : ObjectView). n + (t - is_in g)) object_views k.told) q nd j
            (let lt' : j < n' = lt in let r : j < n + 1 = omega (arith, lt', more) in r);
        weights =
            λ w. (let a : noted_total w (set object_views id f') + noted_in w f
            ≡ noted_total w object_views + noted_in w f' =
            sum_set (noted_in w) object_views id f f' at in let b : noted_in w f'
            ≡ noted_in w f + w nd =
            grown o w p ps e in let c =
            k.weights w in let d : sum_by w h'
            ≡ sum_by w h + w nd = sum_by_push w h nd in omega (arith, a, b, c, d));
        as_many =
            adds is_at ∙ (let a : total is_at object_views ≡ n = k.as_many in let r : total is_at object_views + 1
            ≡ n' = omega (arith, a, more) in r);
        home_is = λ _. (y, refl, told_by);
      }

  -- a section ends with no note, and its home value still stands
  pub idled_kept : (object_views : List ObjectView) (found word : ℕ) (home : maybe.Option (maybe.Option (Option H)))
      (id : ℕ)
      (ps : List Part) (x : Inside) (y : H) (k : K object_views found home)
      → found ≡ word + 1 → get_elem? object_views id ≡ some (record { parts = ps; inside = Some x })
      → ((n : ℕ) → IsMarked o → WasPresent o k.history n → n ≢ length k.history)
      → stands (measures_of shape o) setting k.history y
      → K (set object_views id (record { parts = ps; inside = None })) word (some (some (Some y)))
  idled_kept object_views found word home id ps x y k more at calm told_by =
      let f : ObjectView = record { parts = ps; inside = Some x } in
      let f' : ObjectView = record { parts = ps; inside = None } in
      let h : List Noted = k.history in let n : ℕ = length h in
      let t : ℕ = inside_total object_views in let t' : ℕ = inside_total (set object_views id f') in
      let s : t' + 1 ≡ t + 0 = sum_set is_in object_views id f f' at in
      let al : t ≤ 1 = k.alone in let one : t ≡ 1 = omega (arith, s, al) in let zero' : t' ≡ 0 = omega (arith, s, al) in
      let wi : found ≡ 2 * n + t = k.word_is in record {
        history = h;
        accepted = k.accepted;
        word_is = (let g : word ≡ 2 * n + t' = omega (arith, wi, one, zero', more) in g);
        alone = (let g : t' ≤ 1 = omega (arith, zero') in g);
        knows = nobody_in h (set object_views id f') zero';
        told =
            each_set (λ (g : ObjectView). All (IsTold o h (n + (t - is_in g))) g.parts)
            (λ (g : ObjectView). All (IsTold o h (n + (t' - is_in g))) g.parts) object_views id f' k.told
            (λ j g ne e all. calm_all o h (n + (t - is_in g)) (n + (t' - is_in g)) calm
            (let i : ℕ = is_in g in let q : n + (t - i) ≤ n + 1 = omega (arith, one) in q)
            (let i : ℕ = is_in g in let q : n ≤ n + (t' - i) = omega arith in q) g.parts all)
            (calm_all o h (n + (t - 1)) (n + (t' - 0)) calm (let q : n + (t - 1) ≤ n + 1 = omega (arith, one) in q)
            (let q : n ≤ n + (t' - 0) = omega arith in q) ps
            (each_at (λ (g : ObjectView). All (IsTold o h (n + (t - is_in g))) g.parts) object_views id f k.told at));
        once = λ j lt. sum_same (in_object_view (is_numbered (j + 1))) object_views id f f' at refl ∙ k.once j lt;
        as_many = sum_same (in_object_view is_at) object_views id f f' at refl ∙ k.as_many;
        weights = λ w. sum_same (noted_in w) object_views id f f' at refl ∙ k.weights w;
        home_is = λ _. (y, refl, told_by);
      }

  -- a view that is in no section is cut in two
  pub split_kept : (object_views : List ObjectView) (word : ℕ) (home : maybe.Option (maybe.Option (Option H))) (id : ℕ)
      (f l r : ObjectView) (k : K object_views word home) → get_elem? object_views id ≡ some f → is_in f ≡ 0
      → is_in l ≡ 0 → is_in r ≡ 0
      → ((test : Entry → Bool) → in_object_view test l + in_object_view test r ≡ in_object_view test f)
      → ((w : Noted → ℕ) → noted_in w l + noted_in w r ≡ noted_in w f)
      → ((P : Part → Type 0) → P (empty_part None) → All P f.parts → All P l.parts × All P r.parts)
      → K (set object_views id l ++ r ∷ []) word home
  split_kept object_views word home id f l r k at fz lz rz adds weighs shares =
      let h : List Noted = k.history in let n : ℕ = length h in let now : List ObjectView =
      set object_views id l ++ r ∷ [] in
      let t : ℕ = inside_total object_views in let t' : ℕ = inside_total now in
      let same : (g : ObjectView → ℕ) → g l + g r ≡ g f → sum_by g now ≡ sum_by g object_views = (λ g e.
      let a : sum_by g now ≡ sum_by g (set object_views id l) + g r = sum_by_push g (set object_views id l) r in
      let b : sum_by g (set object_views id l) + g f ≡ sum_by g object_views + g l = sum_set g object_views id f l at in
      omega (arith, a, b, e)) in
      let s : t' ≡ t = same is_in (let a : is_in f ≡ 0 = fz in let b : is_in l ≡ 0 = lz in let c : is_in r
      ≡ 0 = rz in omega (arith, a, b, c)) in
      let both = shares (IsTold o h (n + (t - 0))) (told_empty o h (n + (t - 0)))
      (subst (λ (i : ℕ). All (IsTold o h (n + (t - i))) f.parts) fz
      (each_at (λ (g : ObjectView). All (IsTold o h (n + (t - is_in g))) g.parts) object_views id f k.told at)) in
      let wi : word ≡ 2 * n + t = k.word_is in let al : t ≤ 1 = k.alone in
      let cut : (g : ObjectView) → is_in g ≡ 0 → All (IsTold o h (n + (t - 0))) g.parts
      → All (IsTold o h (n + (t' - is_in g))) g.parts = (λ g z all.
      looser_all o h (n + (t - 0)) (n + (t' - is_in g)) g.parts
      (let i : ℕ = is_in g in let z' : i ≡ 0 = z in let q : n + (t - 0) ≤ n + (t' - i) = omega (arith, z', s) in q)
      all) in record {
        history = h;
        accepted = k.accepted;
        word_is = (let g : word ≡ 2 * n + t' = omega (arith, wi, s) in g);
        alone = (let g : t' ≤ 1 = omega (arith, al, s) in g);
        knows =
            All-push (Knows h) (set object_views id l) r
            (All-set (Knows h) object_views id l (knows_outside h l lz) k.knows)
            (knows_outside h r rz);
        told = All-push (λ (g : ObjectView). All (IsTold o h (n + (t' - is_in g))) g.parts) (set object_views id l) r
            (each_set (λ (g : ObjectView). All (IsTold o h (n + (t - is_in g))) g.parts)
            (λ (g : ObjectView). All (IsTold o h (n + (t' - is_in g))) g.parts) object_views id l k.told
            (λ j g ne e all. looser_all o h (n + (t - is_in g)) (n + (t' - is_in g)) g.parts
            (let ig : ℕ = is_in g in let q : n + (t - ig) ≤ n + (t' - ig) = omega (arith, s) in q) all)
            (cut l lz both.0))
            (cut r rz both.1);
        once = λ j lt. same (in_object_view (is_numbered (j + 1))) (adds (is_numbered (j + 1))) ∙ k.once j lt;
        as_many = same (in_object_view is_at) (adds is_at) ∙ k.as_many;
        weights = λ q. same (noted_in q) (weighs q) ∙ k.weights q;
        home_is = λ e. k.home_is (sym s ∙ e);
      }

  -- two views that are in no section become one
  pub joined_kept : (object_views : List ObjectView) (word : ℕ) (home : maybe.Option (maybe.Option (Option H)))
      (id other : ℕ)
      (v w b z : ObjectView) (k : K object_views word home) → get_elem? object_views id ≡ some v → other ≢ id
      → get_elem? (set object_views id b) other ≡ some w
      → is_in v ≡ 0 → is_in w ≡ 0 → is_in b ≡ 0 → is_in z ≡ 0
      → ((test : Entry → Bool) → in_object_view test b + in_object_view test z
      ≡ in_object_view test v + in_object_view test w)
      → ((f : Noted → ℕ) → noted_in f b + noted_in f z ≡ noted_in f v + noted_in f w)
      → ((P : Part → Type 0) → P (empty_part None) → All P v.parts → All P w.parts → All P b.parts × All P z.parts)
      → K (set (set object_views id b) other z) word home
  joined_kept object_views word home id other v w b z k at ne at' vz wz bz zz adds weighs shares =
      let h : List Noted = k.history in let n : ℕ = length h in let mid : List ObjectView = set object_views id b in
      let now : List ObjectView = set mid other z in
      let t : ℕ = inside_total object_views in let t' : ℕ = inside_total now in
      let same : (g : ObjectView → ℕ) → g b + g z ≡ g v + g w → sum_by g now ≡ sum_by g object_views = (λ g e.
      let a : sum_by g now + g w ≡ sum_by g mid + g z = sum_set g mid other w z at' in
      let c : sum_by g mid + g v ≡ sum_by g object_views + g b = sum_set g object_views id v b at in
      omega (arith, a, c, e)) in
      let s : t' ≡ t = same is_in (let p : is_in v ≡ 0 = vz in let q : is_in w ≡ 0 = wz in let r : is_in b
      ≡ 0 = bz in let u : is_in z ≡ 0 = zz in omega (arith, p, q, r, u)) in
      let before : get_elem? object_views other ≡ some w = sym (set_else object_views id other b ne) ∙ at' in
      let P : ObjectView → Type 0 = λ g. All (IsTold o h (n + (t - is_in g))) g.parts in
      let both = shares (IsTold o h (n + (t - 0))) (told_empty o h (n + (t - 0)))
      (subst (λ (i : ℕ). All (IsTold o h (n + (t - i))) v.parts) vz (each_at P object_views id v k.told at))
      (subst (λ (i : ℕ). All (IsTold o h (n + (t - i))) w.parts) wz (each_at P object_views other w k.told before)) in
      let wi : word ≡ 2 * n + t = k.word_is in let al : t ≤ 1 = k.alone in
      let back : (g : ObjectView) → is_in g ≡ 0 → All (IsTold o h (n + (t - 0))) g.parts
      → P g = (λ g e all. subst (λ (i : ℕ). All (IsTold o h (n + (t - i))) g.parts) (sym e) all) in
      record {
        history = h;
        accepted = k.accepted;
        word_is = (let g : word ≡ 2 * n + t' = omega (arith, wi, s) in g);
        alone = (let g : t' ≤ 1 = omega (arith, al, s) in g);
        knows =
            All-set (Knows h) mid other z (knows_outside h z zz)
            (All-set (Knows h) object_views id b (knows_outside h b bz) k.knows);
        told =
            subst (λ (u : ℕ). All (λ (g : ObjectView). All (IsTold o h (n + (u - is_in g))) g.parts) now) (sym s)
            (All-set P mid other z (back z zz both.1) (All-set P object_views id b (back b bz both.0) k.told));
        once = λ j lt. same (in_object_view (is_numbered (j + 1))) (adds (is_numbered (j + 1))) ∙ k.once j lt;
        as_many = same (in_object_view is_at) (adds is_at) ∙ k.as_many;
        weights = λ q. same (noted_in q) (weighs q) ∙ k.weights q;
        home_is = λ e. k.home_is (sym s ∙ e);
      }
