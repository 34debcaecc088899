-- What one lane writes to a root before it sends it is what another reads of it.
use Rattle.std.proofs.Common.{◌≡◌, ℕ, zero, suc, ◌+◌, ◌-◌, ◌<◌, ◌≤◌, List, [], ◌∷◌, ◌++◌, length, take, drop, refl, sym, ap, arith, Some, None, append_assoc, ◌∙◌}
use Rattle.std.specs.Prelude.{Option, nat_le, option_and_then, option_map, if◌then◌else◌, slice_get}
use Rattle.std.proofs.lemmas.List.{take-append-le, drop-append-le}
use Rattle.pool_law.specs.declared.id.Parcel.{Parcel}
use Rattle.pool_law.specs.declared.id.RootId.{RootId}
use Rattle.pool_law.specs.declared.note.Did.{Did}
use Rattle.pool_law.specs.declared.note.Did.TheVariants.{Set, Get, Post, Fetch}
use Rattle.pool_law.specs.declared.note.Note.{Note}
use Rattle.pool_law.specs.declared.note.Note.TheVariants.{At}
use Rattle.pool_law.specs.declared.note.Object.{Object}
use Rattle.pool_law.specs.declared.note.Object.TheVariants.{Mail}
use Rattle.pool_law.specs.declared.run.Shape.{Shape}
use Rattle.pool_law.specs.Histories.{after, place_after}
use Rattle.pool_law.specs.Legal.{HistoriesHold}
use Rattle.pool_law.specs.Lives.{StandsAt}
use Rattle.pool_law.specs.Logs.{Logs, dids, entry_of, history_of, of_lane, present_in}
use Rattle.pool_law.specs.Mails.{posted, fetched}
use Rattle.pool_law.proofs.PatternLemmas.{same_object-refl}
use Rattle.pool_law.proofs.ListLemmas.{get-behind, slice_get-below}
use Rattle.pool_law.proofs.LogLemmas.{dids-at}
use Rattle.pool_law.specs.Roots.{RootPlace, Present, new_place, bytes_at, laid_over, place_step, place_step_by, with_bytes}
use Rattle.run_laws.proofs.CacheLaw.{if_so-is}
use Rattle.run_laws.proofs.Numbered.{in-history, in-log}
use Rattle.run_laws.proofs.Placed.{step-at, is-some}
use Rattle.run_laws.proofs.Totals.{dids-there}
use Rattle.run_laws.proofs.Written.{got-there}
use Rattle.run_order.specs.Order.{InOneOrder}
use Rattle.run_order.proofs.Fronts.{split-at}
use Rattle.run_order.proofs.MailLists.{posted-append, fetched-append}
use Rattle.run_order.proofs.HandOver.{handed_over}
use Rattle.handed_bytes.specs.Handed.{at_root, Accesses, WritesOnce, FetchesWhatIsPosted, ReadsWhatIsWritten}
use Rattle.handed_bytes.proofs.PlaceSpans.{IsLast, new-last, after-last, Unset, bytes-stay}

-- what is present, where its root is known
root-present : (o : Option Present) (root : RootId) → option_map (λ p. p.root) o ≡ Some root
    → (p : Present) × (o ≡ Some p) × (p.root ≡ root)
root-present None root e = absurd (cc e)
root-present (Some p) root e = (p, refl, cc e)

-- the state of a place before an access, and the history up to there
record Found (logs : Logs) (root : RootId) (number : ℕ) (did : Did) : Type 0 where
  j : ℕ
  next : number ≡ 1 + j
  is : slice_get (dids (history_of (Object.Root root.place) logs)) j ≡ Some did
  before : RootPlace
  behind : RootPlace
  comes : after (place_step root.place) new_place (take j (dids (history_of (Object.Root root.place) logs)))
      ≡ Some before
  step : place_step root.place before did ≡ Some behind

found : (shape : Shape) (logs : Logs) → HistoriesHold shape logs
    → (lane at : ℕ) (root : RootId) (number : ℕ) (did : Did)
    → StandsAt logs lane at (at_root root number did) → Found logs root number did
found shape logs holds lane at root number did stands =
    let o = Object.Root root.place in
    let h = history_of o logs in
    let i = in-history o logs h (holds.whole o refl) lane at number did stands in
    let t = is-some (place_after root.place (dids h)) (holds.accepted o refl) in
    let is = dids-at h i.0 lane did i.2 in
    let s = step-at (place_step root.place) (dids h) new_place t.0 i.0 did t.1 is in
    record { j = i.0; next = i.1; is = is; before = s.0; behind = s.1; comes = s.2; step = s.3 }

-- the root that an access names is present before it
set-present : (logs : Logs) (root : RootId) (number offset : ℕ) (bytes : List ℕ)
    → (entry_of logs (at_root root number (Set offset bytes))).root ≡ Some root
    → (s : RootPlace) → place_after root.place (take (number - 1) (dids (history_of
    (Object.Root root.place) logs))) ≡ Some s
    → (p : Present) × (s.present ≡ Some p) × (p.root ≡ root)
set-present logs root number offset bytes own s comes =
    root-present s.present root (ap (λ o. option_map (λ p. p.root) (present_in o)) (sym comes) ∙ own)

get-present : (logs : Logs) (root : RootId) (number offset : ℕ) (bytes : List ℕ)
    → (entry_of logs (at_root root number (Get offset bytes))).root ≡ Some root
    → (s : RootPlace) → place_after root.place (take (number - 1) (dids (history_of
    (Object.Root root.place) logs))) ≡ Some s
    → (p : Present) × (s.present ≡ Some p) × (p.root ≡ root)
get-present logs root number offset bytes own s comes =
    root-present s.present root (ap (λ o. option_map (λ p. p.root) (present_in o)) (sym comes) ∙ own)

-- and the other way round
set-names : (logs : Logs) (root : RootId) (number offset : ℕ) (bytes : List ℕ) (s : RootPlace) (p : Present)
    → place_after root.place (take (number - 1) (dids (history_of (Object.Root root.place) logs))) ≡ Some s
    → s.present ≡ Some p → p.root ≡ root
    → (entry_of logs (at_root root number (Set offset bytes))).root ≡ Some root
set-names logs root number offset bytes s p comes here own =
    ap (λ o. option_map (λ p. p.root) (present_in o)) comes
    ∙ ap (option_map (λ p. p.root)) here
    ∙ ap Some own

-- what is present once bytes are set
set-behind : (place offset : ℕ) (bytes : List ℕ) (s t : RootPlace) (p : Present)
    → place_step place s (Set offset bytes) ≡ Some t
    → s.present ≡ Some p → t.present ≡ Some (record p { bytes = laid_over p.bytes offset bytes })
set-behind place offset bytes s t p step here =
    let by : place_step_by place s (Some p) (Set offset bytes) ≡ Some t =
    ap (λ o. place_step_by place s o (Set offset bytes)) (sym here) ∙ step in
    ap (λ x. x.present)
    (sym (if_so-is (nat_le (offset + length bytes) (length p.bytes)) (with_bytes s p
    (laid_over p.bytes offset bytes)) t by))

-- bytes of what lies over the front
front-bytes : (bytes rest : List ℕ) (offset n : ℕ) → offset + n ≤ length bytes
    → bytes_at (bytes ++ rest) offset n ≡ bytes_at bytes offset n
front-bytes bytes rest offset n fits =
    ap (take n) (drop-append-le offset bytes rest (omega (arith, fits)))
    ∙ take-append-le n (drop offset bytes) rest (room bytes offset n fits)
  where
    room : (xs : List ℕ) (k n : ℕ) → k + n ≤ length xs → n ≤ length (drop k xs)
    room xs zero n fits = omega (arith, fits)
    room [] (suc k) n fits = absurd (omega (arith, fits))
    room (x ∷ xs) (suc k) n fits = room xs k n (omega (arith, fits))

-- ---- Two places of a list.

-- an item of a front, and what stands before it
taken-get : (ds : List Did) (j k : ℕ) (z : Did) → slice_get (take j ds) k ≡ Some z
    → (slice_get ds k ≡ Some z) × (take k (take j ds) ≡ take k ds)
taken-get ds zero k z e = absurd (cc e)
taken-get [] (suc j) k z e = absurd (cc e)
taken-get (d ∷ ds) (suc j) zero z e = (e, refl)
taken-get (d ∷ ds) (suc j) (suc k) z e =
    let r = taken-get ds j k z e in (r.0, ap (λ xs. d ∷ xs) r.1)

-- what stands between an earlier item and a later one
record Between (ds : List Did) (i j : ℕ) (x : Did) : Type 0 where
  rest : List Did
  front : take j ds ≡ take i ds ++ x ∷ rest
  each : (k n : ℕ) (z : Did) → slice_get rest k ≡ Some z → n ≡ i + suc k
      → (slice_get ds n ≡ Some z) × (take n ds ≡ take i ds ++ x ∷ take k rest)

between : (ds : List Did) (i j : ℕ) (x : Did) → slice_get ds i ≡ Some x → i < j → j ≤ length ds → Between ds i j x
between ds i zero x e low fits = absurd (omega (arith, low))
between [] i (suc j) x e low fits = absurd (cc e)
between (d ∷ ds) zero (suc j) x e low fits =
    let same : d ≡ x = cc e in
    record {
      rest = take j ds;
      front = ap (λ z. z ∷ take j ds) same;
      each = λ k n z is number. let r = taken-get ds j k z is in
          let number_is : n ≡ suc k = omega (arith, number) in (
            ap (slice_get (d ∷ ds)) number_is ∙ r.0,
            ap (λ m. take m (d ∷ ds)) number_is ∙ (λ i. same i ∷ sym r.1 i),
          );
    }
between (d ∷ ds) (suc i) (suc j) x e low fits =
    let b = between ds i j x e (omega (arith, low)) (omega (arith, fits)) in
    record {
      rest = b.rest;
      front = ap (λ xs. d ∷ xs) b.front;
      each = λ k n z is number. later b k n z is number;
    }
  where
    later : (b : Between ds i j x) (k n : ℕ) (z : Did) → slice_get b.rest k ≡ Some z → n ≡ suc i + suc k
        → (slice_get (d ∷ ds) n ≡ Some z) × (take n (d ∷ ds) ≡ take (suc i) (d ∷ ds) ++ x ∷ take k b.rest)
    later b k zero z is number = absurd (omega (arith, number))
    later b k (suc n) z is number =
        let r = b.each k n z is (omega (arith, number)) in (r.0, ap (λ xs. d ∷ xs) r.1)

get-low : (ds : List Did) (j : ℕ) (z : Did) → slice_get ds j ≡ Some z → j < length ds
get-low [] j z e = absurd (cc e)
get-low (d ∷ ds) zero z e = omega arith
get-low (d ∷ ds) (suc j) z e = omega (arith, get-low ds j z e)

-- one history after another
after-join : {S : Type 0} (step : S → Did → Option S) (xs ys : List Did) (s m : S) → after step s xs ≡ Some m
    → after step s (xs ++ ys) ≡ after step m ys
after-join step [] ys s m e = let same : s ≡ m = cc e in ap (λ x. after step x ys) same
after-join {S = S} step (x ∷ xs) ys s m e = go (step s x) e (λ n is. after-join step xs ys n m is)
  where
    go : (o : Option S) → option_and_then (λ n. after step n xs) o ≡ Some m
        → ((n : S) → after step n xs ≡ Some m → after step n (xs ++ ys) ≡ after step m ys)
        → option_and_then (λ n. after step n (xs ++ ys)) o ≡ after step m ys
    go None is rest = absurd (cc is)
    go (Some n) is rest = rest n is

-- ---- Items of lists.

get-take : {X : Type 0} (xs : List X) (n i : ℕ) (x : X) → i < n → slice_get xs i ≡ Some x
    → slice_get (take n xs) i ≡ Some x
get-take xs zero i x low e = absurd (omega (arith, low))
get-take [] (suc n) i x low e = absurd (cc e)
get-take (y ∷ xs) (suc n) zero x low e = e
get-take (y ∷ xs) (suc n) (suc i) x low e = get-take xs n i x (omega (arith, low)) e

get-drop : {X : Type 0} (xs : List X) (n i : ℕ) (x : X) → n ≤ i → slice_get xs i ≡ Some x
    → slice_get (drop n xs) (i - n) ≡ Some x
get-drop xs zero i x low e = ap (slice_get xs) (omega arith) ∙ e
get-drop [] (suc n) i x low e = absurd (cc e)
get-drop (y ∷ xs) (suc n) zero x low e = absurd (omega (arith, low))
get-drop (y ∷ xs) (suc n) (suc i) x low e =
    let number : i - n ≡ suc i - suc n = omega arith in
    ap (slice_get (drop n xs)) (sym number) ∙ get-drop xs n i x (omega (arith, low)) e

get-taken : {X : Type 0} (xs : List X) (n i : ℕ) → i < n → slice_get (take n xs) i ≡ slice_get xs i
get-taken xs zero i low = absurd (omega (arith, low))
get-taken [] (suc n) i low = refl
get-taken (y ∷ xs) (suc n) zero low = refl
get-taken (y ∷ xs) (suc n) (suc i) low = get-taken xs n i (omega (arith, low))

-- ---- Where a parcel stands among those of its mail.

posted-at : (mail : Object) (log : List Note) (at number : ℕ) (parcel : Parcel)
    → slice_get log at ≡ Some (At mail number (Post parcel))
    → slice_get (posted mail log) (length (posted mail (take at log))) ≡ Some (number, parcel)
posted-at mail log at number parcel e =
    ap (λ xs. slice_get (posted mail xs) (length (posted mail (take at log)))) (split-at log at (At mail number
    (Post parcel)) e)
    ∙ ap (λ xs. slice_get xs (length (posted mail (take at log))))
    (posted-append mail (take at log) (At mail number (Post parcel) ∷ drop (suc at) log)
    ∙ ap (λ z. posted mail (take at log) ++ ((if z then (number, parcel) ∷ [] else []) ++ posted mail (drop
    (suc at) log)))
    (same_object-refl mail))
    ∙ get-behind (posted mail (take at log)) (number, parcel) (posted mail (drop (suc at) log))

fetched-at : (mail : Object) (log : List Note) (at number : ℕ) (parcel : Parcel)
    → slice_get log at ≡ Some (At mail number (Fetch parcel))
    → slice_get (fetched mail log) (length (fetched mail (take at log))) ≡ Some (number, parcel)
fetched-at mail log at number parcel e =
    ap (λ xs. slice_get (fetched mail xs) (length (fetched mail (take at log)))) (split-at log at (At mail number
    (Fetch parcel)) e)
    ∙ ap (λ xs. slice_get xs (length (fetched mail (take at log))))
    (fetched-append mail (take at log) (At mail number (Fetch parcel) ∷ drop (suc at) log)
    ∙ ap (λ z. fetched mail (take at log) ++ ((if z then (number, parcel) ∷ [] else []) ++ fetched mail (drop
    (suc at) log)))
    (same_object-refl mail))
    ∙ get-behind (fetched mail (take at log)) (number, parcel) (fetched mail (drop (suc at) log))

-- ---- The law.

module _ (shape : Shape) (logs : Logs) (holds : HistoriesHold shape logs) where
  -- nothing else is set on a root that is written once
  unset : (root : RootId) (bytes : List ℕ) (sender : ℕ) (w : WritesOnce logs sender root bytes)
      (f : Found logs root w.write.number (Set 0 bytes)) (j : ℕ)
      (b : Between (dids (history_of (Object.Root root.place) logs)) f.j j (Set 0 bytes)) (p : Present) → p.root ≡ root
      → Unset root.place p.root f.behind b.rest
  unset root bytes sender w f j b p own k offset more m x comes is here same =
      let o = Object.Root root.place in
      let h = history_of o logs in
      let step = place_step root.place in
      let at : ℕ = f.j + suc k in
      let e = b.each k at (Set offset more) is refl in
      let whole : after step new_place (take at (dids h)) ≡ Some m =
      ap (after step new_place) e.1
      ∙ after-join step (take f.j (dids h)) (Set 0 bytes ∷ take k b.rest) new_place f.before f.comes
      ∙ ap (λ z. option_and_then (λ n. after step n (take k b.rest)) z) f.step
      ∙ comes in
      let there = dids-there h at (Set offset more) e.0 in
      let noted = in-log o logs h (holds.whole o refl) there.0 at (Set offset more) there.1 in
      let number : 1 + at - 1 ≡ at = omega arith in
      let other : Accesses logs there.0 root (Set offset more) =
      record {
        at = noted.0;
        number = 1 + at;
        stands = noted.1;
        root_is = set-names logs root (1 + at) offset more m x
            (ap (λ n. after step new_place (take n (dids h))) number ∙ whole) here (same ∙ own);
      } in
      absurd (omega (arith, w.only there.0 offset more other, f.next))

  -- from a write, the only one to its root, to a read of that root
  pub read-is : (root : RootId) (bytes shown : List ℕ) (offset sender receiver : ℕ)
      (w : WritesOnce logs sender root bytes)
      (r : Accesses logs receiver root (Get offset shown)) → w.write.number < r.number
      → offset + length shown ≤ length bytes → shown ≡ bytes_at bytes offset (length shown)
  read-is root bytes shown offset sender receiver w r less fits =
      let ds = dids (history_of (Object.Root root.place) logs) in
      let step = place_step root.place in
      let f : Found logs root w.write.number (Set 0 bytes) =
      found shape logs holds sender w.write.at root w.write.number (Set 0 bytes) w.write.stands in
      let g : Found logs root r.number (Get offset shown) =
      found shape logs holds receiver r.at root r.number (Get offset shown) r.stands in
      let f_number : w.write.number - 1 ≡ f.j = omega (arith, f.next) in
      let g_number : r.number - 1 ≡ g.j = omega (arith, g.next) in
      let p = set-present logs root w.write.number 0 bytes w.write.root_is f.before
      (ap (λ n. place_after root.place (take n ds)) f_number ∙ f.comes) in
      let q = get-present logs root r.number offset shown r.root_is g.before
      (ap (λ n. place_after root.place (take n ds)) g_number ∙ g.comes) in
      let b : Between ds f.j g.j (Set 0 bytes) =
      between ds f.j g.j (Set 0 bytes) f.is (omega (arith, less, f.next, g.next))
      (omega (arith, get-low ds g.j (Get offset shown) g.is)) in
      let rest : after step f.behind b.rest ≡ Some g.before =
      sym (ap (λ o. option_and_then (λ m. after step m b.rest) o) f.step)
      ∙ sym (after-join step (take f.j ds) (Set 0 bytes ∷ b.rest) new_place f.before f.comes)
      ∙ ap (after step new_place) (sym b.front)
      ∙ g.comes in
      let last : IsLast f.behind =
      after-last root.place (Set 0 bytes ∷ []) f.before f.behind
      (ap (λ o. option_and_then (λ m. Some m) o) f.step)
      (after-last root.place (take f.j ds) new_place f.before f.comes new-last) in
      let laid = record p.0 { bytes = laid_over p.0.bytes 0 bytes } in
      let stays =
      bytes-stay root.place b.rest f.behind g.before laid q.0 rest
      (set-behind root.place 0 bytes f.before f.behind p.0 f.step p.1) q.1 last (q.2 ∙ sym p.2)
      (unset root bytes sender w f g.j b p.0 p.2) in
      let got = got-there root.place g.before g.behind offset shown g.step in
      let got_is : got.0 ≡ q.0 = cc (sym got.1 ∙ q.1) in
      got.2
      ∙ ap (λ x. bytes_at x.bytes offset (length shown)) got_is
      ∙ ap (λ xs. bytes_at xs offset (length shown))
      (stays.1 ∙ append_assoc bytes (drop (0 + length bytes) p.0.bytes) stays.0)
      ∙ front-bytes bytes (drop (0 + length bytes) p.0.bytes ++ stays.0) offset (length shown) fits

  pub handed : InOneOrder logs → ReadsWhatIsWritten logs
  handed order sender receiver k offset parcel got root bytes shown w p f r before behind fits =
      let mail = Mail sender receiver in
      let early = take p.at (of_lane logs sender) in
      let after_fetch = drop (suc f.at) (of_lane logs receiver) in
      read-is root bytes shown offset sender receiver w r
      (handed_over shape logs holds order sender receiver early (drop (suc p.at) (of_lane logs sender))
      (take f.at (of_lane logs receiver)) after_fetch p.number f.number parcel got
      (split-at (of_lane logs sender) p.at (At mail p.number (Post parcel)) p.stands)
      (split-at (of_lane logs receiver) f.at (At mail f.number (Fetch got)) f.stands)
      (p.earlier ∙ sym f.earlier)
      (Object.Root root.place) w.write.at (r.at - suc f.at) w.write.number r.number (Set 0 bytes) (Get offset shown)
      (get-take (of_lane logs sender) p.at w.write.at (at_root root w.write.number (Set 0 bytes)) before w.write.stands)
      (get-drop (of_lane logs receiver) (suc f.at) r.at (at_root root r.number (Get offset shown)) behind r.stands))
      fits

  pub fetched-is : FetchesWhatIsPosted logs
  fetched-is sender receiver k parcel got p f =
      let mail = Mail sender receiver in
      let sent = posted-at mail (of_lane logs sender) p.at p.number parcel p.stands in
      let came = fetched-at mail (of_lane logs receiver) f.at f.number got f.stands in
      let holds_there = holds.mails sender receiver in
      let front = ap (λ xs. slice_get xs k) holds_there.in_order in
      let one : ◌≡◌ {A = Option (ℕ × Parcel)} (Some (f.number, got)) (Some (p.number, parcel)) =
      sym (ap (slice_get (fetched mail (of_lane logs receiver))) (sym f.earlier) ∙ came)
      ∙ front
      ∙ get-taken (posted mail (of_lane logs sender)) (length (fetched mail (of_lane logs receiver))) k
      (slice_get-below (fetched mail (of_lane logs receiver)) k (f.number, got)
      (ap (slice_get (fetched mail (of_lane logs receiver))) (sym f.earlier) ∙ came))
      ∙ ap (slice_get (posted mail (of_lane logs sender))) (sym p.earlier)
      ∙ sent in
      let pair : ◌≡◌ {A = ℕ × Parcel} (f.number, got) (p.number, parcel) = cc one in
      ap (λ z. z.1) pair
