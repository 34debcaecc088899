-- Sending and receiving a letter keeps the rule.
use Rattle.step_law.specs.Settings.{Setting}
use Rattle.std.proofs.Common.{◌≡◌, ◌≢◌, ℕ, ◌+◌, ◌*◌, ◌<◌, ◌≤◌, List, [], ◌∷◌, ◌++◌, map, length, set, Bool, false, cond, sym, refl, ap, ◌∙◌, subst, inl, inr, arith, ne_eqb, eq-eqb, true≢false, length-set, lt_of_not-le}
use Rattle.std.specs.Prelude.{Option, Some, None, IfSome, IsTrue, option_map, All, sum_by, count_by, slice_index}
use Rattle.std.proofs.lemmas.List.Elements.{All-cons, All-head, All-set, All-nil}
use Rattle.std.proofs.lemmas.List.Sums.{sum_by-cons, sum_by-le-sum_by}
use lib.Seq.{set-append_left, set-append_seam}
use mathlib.Core.Logic.{dite}
use native.Mathlib.Decide.{dec_le}
use mathlib.Core.Option.{some}
use lib.ListN.{get_elem?}
use Rattle.atomic_table.specs.Table.{State, Splits, Joins}
use Rattle.atomic_table.proofs.Lists.{set_here, set_else, set_again, at_longer, at_last}
use Rattle.step_law.proofs.Changes.{within, each_at, sum_at, sum_set, sum_same, map_same}
use Rattle.pool_law.specs.declared.id.Parcel.{Parcel}
use Rattle.pool_law.specs.declared.id.ViewData.{ViewData}
use Rattle.pool_law.specs.declared.id.RootId.{RootId}
use Rattle.history_laws.specs.NoteCounts.{view_of_root}
use Rattle.pool_law.specs.declared.note.Did.TheVariants.{Post, Fetch}
use Rattle.pool_law.specs.declared.note.Noted.{Noted}
use Rattle.pool_law.specs.declared.note.Object.{Object}
use Rattle.pool_law.specs.declared.note.Object.TheVariants.{Mail}
use Rattle.pool_law.specs.Homes.{home_of, objects_of}
use Rattle.pool_law.specs.Logs.{has_history}
use Rattle.history_laws.specs.Standing.{IsInPlace}
use Rattle.pool_table.specs.Words.{word_of, count_word_of}
use Rattle.pool_table.specs.Slots.{slot_of}
use Rattle.pool_table.specs.declared.views.Entry.{Entry}
use Rattle.pool_table.specs.declared.views.Entry.TheVariants.{At, Ref, Busy}
use Rattle.pool_table.specs.declared.views.Layout.{Layout}
use Rattle.pool_table.specs.declared.views.Letter.{Letter}
use Rattle.pool_table.specs.declared.views.Part.{Part}
use Rattle.pool_table.specs.declared.views.SeatView.{SeatView}
use Rattle.pool_table.specs.Views.{ObjectView, parts_of, is_lane, took_turn, object_view, object_part, numbered, spent, empty_part, blank, with_entry}
use Rattle.pool_table.specs.Counts.{weigh, weigh_in, on_root, on_place, posts, reached, returned, HasCount}
use Rattle.pool_table.specs.Hands.{PutsDown}
use Rattle.pool_table.specs.Births.{IsBorn, NamesBorn}
use Rattle.pool_table.specs.Capacities.{TellsGiven, knows_of}
use Rattle.pool_table.specs.Letters.{sent_as, received_as, is_on_way, sent_on, received_on, AreMailed, post_of, fetch_of, sends, receives, letter_view, by_lane}
use Rattle.pool_table.specs.Order.{IsBelow}
use Rattle.pool_table.specs.Sequence.{Fits}
use Rattle.pool_table.specs.Sound.{IsKept, IsSound, IsView, OnceBelow, Stands}
use Rattle.pool_table.proofs.Births.{born_same, born_entry}
use Rattle.pool_table.proofs.Capacities.{post_tells}
use Rattle.pool_table.proofs.Tidings.{known_same, known_more, fetch_tells}
use Rattle.pool_table.specs.Lone.{names}
use Rattle.pool_table.proofs.Lone.{lone_same, lone_entry, count_names, weigh_le, MayName}
use Rattle.pool_table.proofs.RootEntries.{named_this}
use Rattle.pool_table.proofs.LoneLaws.{post_weighs}
use Rattle.pool_table.proofs.Counts.{other_kept}
use Rattle.pool_table.proofs.Known.{no_home}
use Rattle.pool_table.proofs.Posts.{other_sends_none, other_receives_none, only_own, is_letter, is_itself}
use Rattle.pool_table.proofs.Looks.{looks_same, looks_entry}
use Rattle.pool_table.proofs.Mails.{lying, IsNext, turns_same, turns_entry}
use Rattle.pool_table.proofs.Entries.{entry_view, entry_elsewhere, outside_object_view, same_numbered, spent_entry}
use Rattle.pool_table.proofs.Noting.{one_parcel}
use Rattle.pool_table.proofs.Exact.{count_born}
use Rattle.pool_table.specs.Steps.{blank_beside}
use Rattle.pool_table.proofs.Order.{longer, newest, order_same, order_entry}
use Rattle.pool_table.proofs.Putting.{puts_at}
use Rattle.pool_table.proofs.Seatings.{splits_allowed}
use Rattle.pool_table.proofs.Senders.{was_sent}
use Rattle.pool_table.proofs.Sequence.{one_same, one_more, weigh_longer}
use Rattle.pool_table.proofs.Tables.{alone_among}
use Rattle.pool_table.proofs.Weights.{IsWeighedSame, same_entry, same_parts, reached_same, returned_same, counted_entry, handy_entry, orderly_entry, counted_none, settled_none, handy_none, orderly_none, enters_none}

-- a note at a mail is above every note that has a history
mail_above : (a b k : ℕ) (n : Noted) (y : Entry) → IsBelow y (At (Mail a b) k n)
mail_above a b k n (At o j m) = λ has same. absurd (true≢false (sym (subst (λ (o : Object). IsTrue (has_history o)) same
    has)))
mail_above a b k n (Ref r d) = tt
mail_above a b k n (Busy h) = tt

-- a view with one empty part and nothing else but letters
pub bare_view : (l : Layout) (gs : Setting) (setting : Option Setting) (letters : List Letter)
    → IfSome setting (λ (g : Setting). g ≡ gs) → IsView l.shape gs (record (blank setting) { letters = letters })
bare_view l gs setting letters is =
    let v : SeatView = record (blank setting) { letters = letters } in
    let none = All-cons (λ (p : Part). p.notes ≡ []) (empty_part None) [] refl (All-nil (λ (p : Part). p.notes ≡ [])) in
    record {
      setting_is = is;
      unnumbered = λ _. record { notes = none; inside = refl; turns = refl };
      inside = tt;
      notes =
          All-cons (λ (p : Part). All (Stands l.shape p.number) p.notes) (empty_part None) []
          (All-nil (Stands l.shape None)) (All-nil (λ (p : Part). All (Stands l.shape p.number) p.notes));
      counted = counted_none v none;
      beside = λ p g. omega arith;
      handy = handy_none v none;
      settled = settled_none v none;
      roots = orderly_none v none;
      enters = enters_none v refl;
    }

module _ {H : Type 0} (stands : List ℕ → Setting → List Noted → H → Type 0) (l : Layout) where
  abbrev St : Type 0
  St = State (Option H) SeatView

  -- one view notes something at a mail, and another gets or loses letters
  mail_step : (s : St) (r : IsSound stands l s) (id other : ℕ) (v u z : SeatView) (a b k : ℕ) (n : Noted)
      → get_elem? s.views id ≡ some v → other ≢ id → get_elem? s.views other ≡ some u
      → v.inside ≡ None → u.inside ≡ None → z.inside ≡ None
      → parts_of z ≡ parts_of u → z.moves ≡ u.moves → z.turns ≡ u.turns
      → took_turn (At (Mail a b) k n) ≡ false
      → IsView l.shape r.setting (with_entry v (At (Mail a b) k n) v.turns) → IsView l.shape r.setting z
      → Fits l.shape r.one_order.made (At (Mail a b) k n) → NamesBorn s.views (At (Mail a b) k n)
      → TellsGiven s.views (At (Mail a b) k n) → MayName s.views v (At (Mail a b) k n)
      → AreMailed (set (set s.views id (with_entry v (At (Mail a b) k n) v.turns)) other z)
      → IsSound stands l (record {
        words = s.words;
        homes = s.homes;
        views =
            set (set s.views id (with_entry v (At (Mail a b) k n) v.turns)) other z;
      })
  mail_step s r id other v u z a b k n at ne at' vo uo zo parts moves turns free fw fz fit born tells may mailed =
      let e : Entry = At (Mail a b) k n in let w : SeatView = with_entry v e v.turns in
      let mid : List SeatView = set s.views id w in
      let there : get_elem? mid other ≡ some u = set_else s.views id other w ne ∙ at' in
      let light : IsWeighedSame v w = same_entry v e v.turns (λ f p g. refl) (λ f p. refl) (λ f. refl) in
      let plain : IsWeighedSame u z = same_parts u z parts moves in
      let same : (f : SeatView → ℕ) → f w ≡ f v → f z ≡ f u → sum_by f (set mid other z) ≡ sum_by f s.views = (λ f x y.
      sum_same f mid other u z there y ∙ sum_same f s.views id v w at x) in
      let still : sum_by spent (set mid other z) ≡ sum_by spent s.views = same spent
      (let c = spent_entry stands l v e v.turns in let t : ℕ = v.turns in let x : ℕ = spent w in let y : ℕ = spent v in
      let none : cond {A = ℕ} (took_turn e) 1 0 ≡ 0 = ap (λ (t : Bool). cond {A = ℕ} t 1 0) free in
      let o : ℕ = cond {A = ℕ} (took_turn e) 1 0 in let none' : o ≡ 0 = none in
      let c' : x + t ≡ y + o + t = c in let g : x ≡ y = omega (arith, c', none') in g)
      (λ i. sum_by (λ (p : Part). count_by took_turn p.notes) (parts i) + turns i) in
      record {
        setting = r.setting;
        words = r.words;
        homes = r.homes;
        between = r.between;
        views =
            All-set (IsView l.shape r.setting) mid other z fz
            (All-set (IsView l.shape r.setting) s.views id w fw r.views);
        lanes =
            λ m. subst (OnceBelow l.shape.lanes m)
            (sym (same (numbered m) (same_numbered stands l v e v.turns m)
            (ap (λ (ps : List Part). count_by (λ (p : Part). is_lane m p.number) ps) parts))) (r.lanes m);
        objects = λ o fits. let j : ℕ = home_of l.shape o in
            let here : object_view l.shape j w ≡ object_view l.shape j v =
            entry_elsewhere stands l v e v.turns j (ne_eqb (objects_of l.shape) j (no_home l.shape a b o fits))
            ∙ sym (outside_object_view stands l j v vo) in
            let yon : object_view l.shape j z ≡ object_view l.shape j u = outside_object_view stands l j z zo
            ∙ (ap (λ (ps : List Part). record { parts = map (object_part l.shape j) ps; inside = None }) parts
            ∙ sym (outside_object_view stands l j u uo)) in
            subst (λ (x : List ObjectView). IsKept stands l.shape r.setting o x
            (slice_index s.words (word_of l.shape o))
            (get_elem? s.homes (slot_of l.shape o)))
            (sym (map_same (object_view l.shape j) mid other u z there yon
            ∙ map_same (object_view l.shape j) s.views id v w at here))
            (r.objects o fits);
        born = born_same mid other u z there parts (born_entry s.views id v w e at refl born r.born);
        known = known_same mid other u z there parts (known_more s.views id v w e at refl tells r.known);
        lone = lone_same mid other u z there parts (lone_entry s.views id v w e at refl may r.lone);
        looks =
            looks_same mid other u z there parts
            (looks_entry s.views id v w e at refl (λ q k is. absurd (cc is)) r.looks);
        order =
            order_same mid other u z there parts
            (order_entry s.views id v w e at refl (newest e (mail_above a b k n) s.views) r.order);
        one_order =
            one_same l.shape mid other u z there parts
            (one_more l.shape s.views id v w e at refl (alone_among stands l s r id v at) r.one_order fit);
        mailed = mailed;
        room = r.room;
        budget = subst (λ (x : ℕ). x ≤ l.shape.lanes * l.turns) (sym still) r.budget;
        few = r.few;
        moved =
            subst (λ (x : ℕ × ℕ). x.0 ≤ l.shape.lanes * l.moves + x.1)
            (λ i. (
              sym (same reached (reached_same v w light) (reached_same u z plain)) i,
              sym
                  (same returned (returned_same v w light) (returned_same u z plain)) i,
            )) r.moved;
        counts =
            λ p lt. other_kept p s.views (set mid other z) (slice_index s.words (count_word_of l.shape p))
            (λ f g. same (weigh (on_root f p g)) (light.refs f p g) (plain.refs f p g))
            (λ f. same (weigh (on_place f p)) (light.places f p) (plain.places f p)) (r.counts p lt);
      }

  -- the lane of a view's own part is one of the shape's
  lane_within : (s : St) (r : IsSound stands l s) (id m : ℕ) (v : SeatView) → get_elem? s.views id ≡ some v
      → v.own.number ≡ Some m → m < l.shape.lanes
  lane_within s r id m v at own = dite (dec_le l.shape.lanes m)
      (λ le. let z = (r.lanes m).1 le in let a = sum_at (numbered m) s.views id v at in
      let b = sum_by-cons (λ (p : Part). cond {A = ℕ} (is_lane m p.number) 1 0) v.own v.others in
      let one : cond {A = ℕ} (is_lane m v.own.number) 1 0 ≡ 1 =
      subst (λ (x : Option ℕ). cond {A = ℕ} (is_lane m x) 1 0 ≡ 1) (sym own)
      (ap (λ (b : Bool). cond {A = ℕ} b 1 0) (eq-eqb m m refl)) in
      absurd (omega (arith, z, a, b, one)))
      (λ gt. lt_of_not-le gt)

  numbered_one : (v : SeatView) (m : ℕ) → v.own.number ≡ Some m
      → All (λ (p : Part). p.number ≡ None) (parts_of v) → ⊥
  numbered_one v m own all =
      let none : v.own.number ≡ None = All-head (λ (p : Part). p.number ≡ None) v.own v.others all in
      let g : Some m ≡ None = sym own ∙ none in absurd (cc g)

  -- what a letter's notes are to their mail
  note_in_place : (a b lane : ℕ) (q : Parcel) → IsInPlace l.shape (Mail a b) (by_lane lane (Post q))
      × IsInPlace l.shape (Mail a b) (by_lane lane (Fetch q))
  note_in_place a b lane q = (
    record {
      placed = λ p. inl refl;
      mailed = λ p g. inr (a, b, refl);
      rooted = λ p. inl (refl, λ g. refl);
      regioned = λ t. record { arena = inl refl; cache = inl refl; place = inl refl };
      of_class = tt;
    },
    record {
      placed = λ p. inl refl;
      mailed = λ p g. inr (a, b, refl);
      rooted = λ p. inl (refl, λ g. refl);
      regioned = λ t. record { arena = inl refl; cache = inl refl; place = inl refl };
      of_class = tt;
    },
  )

  -- letters after both views changed
  mailed_step : (views : List SeatView) (id other : ℕ) (v u w z : SeatView) (e : Entry) → get_elem? views id ≡ some v
      → get_elem? (set views id w) other ≡ some u → parts_of w ≡ longer v.own e ∷ v.others → w.letters ≡ v.letters
      → parts_of z ≡ parts_of u → IsNext v.own e
      → ((f : Letter → ℕ) → sent_as f e + lying f u ≡ received_as f e + lying f z) → AreMailed views
      → AreMailed (set (set views id w) other z)
  mailed_step views id other v u w z e at there grows letters parts next even m =
      let mid : List SeatView = set views id w in record {
        kept = λ f.
            let up : (g : Entry → ℕ) → sum_by (weigh g) (set mid other z) ≡ sum_by (weigh g) views + g e = (λ g.
            let a = sum_same (weigh g) mid other u z there (ap (λ (ps : List Part). weigh_in g ps) parts) in
            let b = sum_set (weigh g) views id v w at in let c = weigh_longer g v w e grows in
            omega (arith, a, b, c)) in
            let s = up (sent_as f) in let t = up (received_as f) in
            let c = sum_set (lying f) mid other u z there in
            let d = sum_same (lying f) views id v w at (ap (λ (xs : List Letter). sum_by f xs) letters) in
            let k = m.kept f in let o = even f in omega (arith, s, t, c, d, k, o);
        in_turn = turns_same mid other u z there parts (turns_entry views id v w e at grows next m.in_turn);
      }

  -- ---- A letter is sent.
  module _ (v : SeatView) (x : Letter) (vo : v.inside ≡ None) (own : v.own.number ≡ Some x.from)
      (to : x.to < l.shape.lanes) (counts : PutsDown v (Post x.parcel))
      (reaches : IfSome x.parcel.view (λ (w : ViewData). w.offset + w.len ≤ knows_of w.root v))
      (number : x.number ≡ sent_on x.from x.to v.own.notes + 1) where
    abbrev post : Entry
    post = post_of x

    post_fits : (s : St) (r : IsSound stands l s) (id : ℕ) → get_elem? s.views id ≡ some v
        → Fits l.shape r.one_order.made post
    post_fits s r id at =
        let f : Entry → ℕ = sent_as (is_on_way x.from x.to) in
        let only : sum_by (weigh f) s.views ≡ sum_by f v.own.notes = only_own l.shape r.setting s.views id x.from v f
        (other_sends_none l.shape x.from x.to) r.views at (alone_among stands l s r id v at) own in
        number ∙ ap (λ (n : ℕ). n + 1) (sym only ∙ r.one_order.each f)

    post_born : (s : St) (r : IsSound stands l s) (id : ℕ) → get_elem? s.views id ≡ some v → NamesBorn s.views post
    post_born s r id at t names = by x.parcel.view counts names
      where
        by : (o : Option ViewData) → IfSome o (λ (w : ViewData). HasCount w.root v)
            → option_map (λ (w : ViewData). w.root) o ≡ Some t → IsBorn s.views t
        by None puts names = absurd (cc names)
        by (Some w) puts names =
            let e : w.root ≡ t = cc names in subst (IsBorn s.views) e (count_born stands l s r id v at w.root puts)

    post_may : (views : List SeatView) → MayName views v post
    post_may views = record {
      fresh = λ q lt. absurd (omega (arith, lt));
      known = λ q none lt. inl (by q x.parcel.view counts (omega (arith, lt)));
    }
      where
        by : (q : RootId) (o : Option ViewData) → IfSome o (λ (w : ViewData). HasCount w.root v)
            → 0 < view_of_root q o → 0 < weigh (names q) v
        by q None puts lt = absurd (omega (arith, lt))
        by q (Some w) puts lt =
            subst (λ (t : RootId). 0 < weigh (names t) v) (named_this w.root q 1 lt) (count_names w.root v puts)

    post_view : (s : St) (r : IsSound stands l s) (id : ℕ) → get_elem? s.views id ≡ some v
        → IsView l.shape r.setting (sends v x)
    post_view s r id at =
        let fine : IsView l.shape r.setting v = each_at (IsView l.shape r.setting) s.views id v r.views at in
        let puts = puts_at stands l s r id v at (Post x.parcel) counts in
        entry_view stands l r.setting v post v.turns
        (same_entry v post v.turns (λ f p g. refl) (λ f p. refl) (λ f. refl))
        (counted_entry v post v.turns (λ f p g. refl) (λ p g. one_parcel stands l p g (Post x.parcel)) puts.posted
        fine.counted)
        (handy_entry v post v.turns (λ f p. refl) (λ p. omega arith) (λ p lt. absurd (omega (arith, lt))) fine.handy)
        (orderly_entry v post v.turns (λ f p g c. refl) (λ f p g. refl) (λ f p. refl) (λ p. inl refl)
        (λ p g. inl refl) (λ q. inl (record { none = refl; unused = refl; light = λ _. refl })) fine.roots) fine
        (numbered_one v x.from own)
        (subst (λ (lane : Option ℕ). Stands l.shape lane post) (sym own)
        (record {
          object = (lane_within s r id x.from v at own, to);
          plain = (refl, refl);
          lane_may = eq-eqb x.from x.from refl;
          in_place = (note_in_place x.from x.to x.from x.parcel).0;
        }))

    pub sends_allowed : (id : ℕ) → Splits (IsSound stands l) id v (sends v x) (letter_view v.setting x)
    sends_allowed id s r at =
        let b : SeatView = blank_beside v in let w : SeatView = sends v x in
        let z : SeatView = letter_view v.setting x in
        let vs : List SeatView = set s.views id v in let n : ℕ = length s.views in
        let near : id < n = within s.views id v at in
        let long : length vs ≡ n = length-set s.views id v in
        let s' : St = record { words = s.words; homes = s.homes; views = vs ++ b ∷ [] } in
        let r' : IsSound stands l s' = splits_allowed stands l id v vo s r at in
        let at' : get_elem? (vs ++ b ∷ []) id ≡ some v = at_longer vs (b ∷ []) id v (set_here s.views id v near) in
        let last : get_elem? (vs ++ b ∷ []) n ≡ some b = at_last vs b n long in
        let ne : n ≢ id = (λ e. omega (arith, near, e)) in
        let fine : IsView l.shape r'.setting v = each_at (IsView l.shape r'.setting) s'.views id v r'.views at' in
        let got = mail_step s' r' id n v b z x.from x.to x.number (by_lane x.from (Post x.parcel)) at' ne last vo refl
        refl refl refl refl refl (post_view s' r' id at') (bare_view l r'.setting v.setting (x ∷ []) fine.setting_is)
        (post_fits s' r' id at') (post_born s' r' id at') (post_tells stands l s' r' id v at' x counts reaches)
        (post_may s'.views)
        (mailed_step s'.views id n v b w z post at' (set_else s'.views id n w ne ∙ last) refl refl refl
        (record {
          sent = λ y is. let same : x ≡ y = cc is in
              subst (λ (y : Letter). y.number ≡ sent_on y.from y.to v.own.notes + 1) same number;
          received = λ y is. absurd (cc is);
        })
        (λ f. let c = sum_by-cons f x [] in let d : sum_by f [] ≡ 0 = refl in omega (arith, c, d)) r'.mailed) in
        subst (λ (views : List SeatView). IsSound stands l (record { words = s.words; homes = s.homes; views = views }))
        (placed s.views id n v w b z at near refl) got
      where
        placed : (views : List SeatView) (id n : ℕ) (v w b z : SeatView) → get_elem? views id ≡ some v
            → id < length views → n ≡ length views
            → set (set (set views id v ++ b ∷ []) id w) n z ≡ set views id w ++ z ∷ []
        placed views id n v w b z at near is =
            let again : set views id v ≡ views = set_again views id v at in
            ap (λ (l : List SeatView). set (set (l ++ b ∷ []) id w) n z) again
            ∙ (ap (λ (l : List SeatView). set l n z) (set-append_left views (b ∷ []) id w near)
            ∙ (ap (λ (k : ℕ). set (set views id w ++ b ∷ []) k z) (is ∙ sym (length-set views id w))
            ∙ set-append_seam (set views id w) b [] z))

  -- ---- A letter is received.
  module _ (v : SeatView) (setting : Option Setting) (x : Letter) (vo : v.inside ≡ None)
      (own : v.own.number ≡ Some x.to) (number : x.number ≡ received_on x.from x.to v.own.notes + 1) where
    abbrev fetch : Entry
    fetch = fetch_of x

    -- a view of the root that comes was posted
    fetch_may : (s : St) (r : IsSound stands l s) (other : ℕ) (u : SeatView) → get_elem? s.views other ≡ some u
        → ((f : Letter → ℕ) → f x ≤ lying f u) → MayName s.views v fetch
    fetch_may s r other u at lies = record {
      fresh = λ q lt. absurd (omega (arith, lt));
      known =
          λ q none lt.
          let f : Letter → ℕ = λ y. view_of_root q y.parcel.view in
          let a = r.mailed.kept f in let b = sum_at (lying f) s.views other u at in let c = lies f in
          let le = sum_by-le-sum_by (weigh (sent_as f)) (weigh (posts q)) s.views
          (weigh_le (sent_as f) (posts q) (post_weighs q)) in
          let sent : ℕ = sum_by (weigh (sent_as f)) s.views in
          let got : ℕ = sum_by (weigh (received_as f)) s.views in
          let there : ℕ = sum_by (lying f) s.views in let here : ℕ = lying f u in
          let posted : ℕ = sum_by (weigh (posts q)) s.views in
          let a' : sent ≡ got + there = a in let b' : here ≤ there = b in let c' : f x ≤ here = c in
          let le' : sent ≤ posted = le in let some_view : 0 < f x = omega (arith, lt) in
          inr (let g : 0 < posted = omega (arith, a', b', c', le', some_view) in g);
    }

    pub receives_allowed : (id other : ℕ)
        → Joins (IsSound stands l) id v other (letter_view setting x) (receives v x) (blank None)
    receives_allowed id other s r at ne there =
        let u : SeatView = letter_view setting x in let w : SeatView = receives v x in let z : SeatView = blank None in
        let at' : get_elem? s.views other ≡ some u = sym (set_else s.views id other w ne) ∙ there in
        let fine : IsView l.shape r.setting v = each_at (IsView l.shape r.setting) s.views id v r.views at in
        let c = sum_by-cons (is_letter x) x [] in let d = is_itself x in
        let z0 : sum_by (is_letter x) [] ≡ 0 = refl in
        let sent = was_sent stands l s r other u x at' (omega (arith, c, d, z0)) in
        let f : Entry → ℕ = sent_as (is_on_way x.from x.to) in
        let g : Entry → ℕ = received_as (is_on_way x.from x.to) in
        let only : sum_by (weigh g) s.views ≡ sum_by g v.own.notes = only_own l.shape r.setting s.views id x.to v g
        (other_receives_none l.shape x.from x.to) r.views at (alone_among stands l s r id v at) own in
        let low = sent.within in let all = r.one_order.each f in
        mail_step s r id other v u z x.from x.to x.number (by_lane x.to (Fetch x.parcel)) at ne at' vo refl refl refl
        refl refl refl
        (entry_view stands l r.setting v fetch v.turns
        (same_entry v fetch v.turns (λ f p g. refl) (λ f p. refl) (λ f. refl))
        (counted_entry v fetch v.turns (λ f p g. refl) (λ p g. omega arith) (λ p g lt. absurd (omega (arith, lt)))
        fine.counted)
        (handy_entry v fetch v.turns (λ f p. refl) (λ p. omega arith) (λ p lt. absurd (omega (arith, lt))) fine.handy)
        (orderly_entry v fetch v.turns (λ f p g c. refl) (λ f p g. refl) (λ f p. refl) (λ p. inl refl)
        (λ p g. inl refl) (λ q. inl (record { none = refl; unused = refl; light = λ _. refl })) fine.roots) fine
        (numbered_one v x.to own)
        (subst (λ (lane : Option ℕ). Stands l.shape lane fetch) (sym own)
        (record {
          object = (sent.from, sent.to);
          plain = (refl, refl);
          lane_may = eq-eqb x.to x.to refl;
          in_place = (note_in_place x.from x.to x.to x.parcel).1;
        })))
        (bare_view l r.setting None [] tt)
        ((number ∙ ap (λ (n : ℕ). n + 1) (sym only ∙ r.one_order.each g)), omega (arith, low, all))
        sent.born (fetch_tells s.views x sent.reaches)
        (fetch_may s r other u at' (λ f. let c = sum_by-cons f x [] in omega (arith, c)))
        (mailed_step s.views id other v u w z fetch at there refl refl refl
        (record {
          sent = λ y is. absurd (cc is);
          received = λ y is. let same : x ≡ y = cc is in
              subst (λ (y : Letter). y.number ≡ received_on y.from y.to v.own.notes + 1) same number;
        })
        (λ f. let c = sum_by-cons f x [] in let d : sum_by f [] ≡ 0 = refl in omega (arith, c, d)) r.mailed)
