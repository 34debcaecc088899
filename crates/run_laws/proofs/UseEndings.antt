-- A use ends with its root, or as its root grows out of the region.
use Rattle.std.proofs.Common.{⊎_elim, inl, inr, ◌≡◌, ℕ, zero, suc, ◌+◌, ◌≤◌, List, [], ◌∷◌, ◌++◌, length, take, drop, refl, sym, ap, subst, arith, Some, None, ◌∙◌}
use Rattle.std.specs.Prelude.{◌⊎◌, ◌<◌, ◌-◌, map, Option, option_and_then, slice_get}
use Rattle.pool_law.specs.declared.id.RootId.{RootId}
use Rattle.pool_law.specs.declared.id.RegionId.{RegionId}
use Rattle.pool_law.specs.declared.note.Object.{Object}
use Rattle.pool_law.specs.declared.note.Did.{Did}
use Rattle.pool_law.specs.declared.note.Did.TheVariants.{Birth, Grow, End}
use Rattle.pool_law.specs.declared.note.Note.TheVariants.{At}
use Rattle.pool_law.specs.declared.run.Shape.{Shape}
use Rattle.pool_law.specs.Same.{same_region, same_root}
use Rattle.pool_law.specs.Roots.{RootPlace, Present, new_place, place_step, place_step_by}
use Rattle.pool_law.specs.Histories.{after, place_after}
use Rattle.pool_law.specs.Logs.{Logs, dids, of_lane, history_of, entry_of, entries_of, present_in, present_before, region_for}
use Rattle.pool_law.specs.Legal.{CountsAgree}
use Rattle.pool_law.specs.Lives.{Done, Event, Move, IsUse, UseEnds, GrowsOut, Begins, Leaves, IsAmong, leaves, grows_into, moves_by, present_at}
use Rattle.run_laws.specs.OneLog.{IsBirth, StandInOneLog}
use Rattle.run_laws.specs.CacheCounts.{one_of}
use Rattle.run_laws.specs.HandCounts.{ended_by}
use Rattle.pool_law.proofs.SameLemmas.{same_region-is}
use Rattle.pool_law.proofs.PatternLemmas.{same_region-refl}
use Rattle.pool_law.proofs.HistoryLemmas.{after-push}
use Rattle.arena_laws.proofs.ReturnLaw.{after-append}
use Rattle.run_laws.proofs.PagedHistories.{HistoriesPaged}
use Rattle.run_laws.proofs.LogEntries.{LanesAct}
use Rattle.run_laws.proofs.LogParts.{Parts}
use Rattle.run_laws.proofs.Readings.{take-drop}
use Rattle.run_laws.proofs.CacheLaw.{if_so-is}
use Rattle.run_laws.proofs.Sums.{over-at}
use Rattle.run_laws.proofs.PlaceLaw.{present-origin, end-present}
use Rattle.run_laws.proofs.Placed.{step-at, is-some, one-of-true, born-at, end-birth}
use Rattle.run_laws.proofs.PlaceUses.{take-next, Begun, begun}
use Rattle.run_laws.proofs.Numbered.{total-plain, total_from}
use Rattle.run_laws.proofs.Totals.{note_tally, ends_in}
use Rattle.run_laws.proofs.PlaceTotals.{here_is, births_of, ends_of}
use Rattle.run_laws.proofs.PlaceEven.{from-found, history-even}
use Rattle.run_laws.proofs.CacheRanks.{total-inside}
use Rattle.run_laws.proofs.Doings.{Does, told, does-so, one-user}
use Rattle.run_laws.proofs.EventLaw.{the, one-note, noted, done-at, same-begins, same-leaves}
use Rattle.run_laws.proofs.PlaceMoves.{LeftBy, left-own}
use Rattle.run_laws.proofs.OneLogLaw.{stand-in_one_log}
use Rattle.run_laws.proofs.Births.{use_event, end_event, use-does, end-does}
use Rattle.run_laws.proofs.LifeChain.{is-done_at}

module _ (shape : Shape) (logs : Logs) (holds : HistoriesPaged shape logs) (acts : LanesAct logs) where
  -- an event that leaves a region, as the end of its use
  pub left-ends : (root : RootId) (r : RegionId) → LeftBy shape logs holds acts root r → UseEnds logs root r
  left-ends root r l =
      let among = does-so logs l.event (Leaves root r) l.does in
      let here : l.event.object ≡ Object.Root root.place =
      is-done_at shape logs holds acts (record { event = l.event; move = Leaves root r })
      (record { stands = l.stands; moves = among }) in
      record {
        lane = l.event.lane;
        at = l.event.at;
        number = l.event.number;
        did = l.event.did;
        stands = l.stands ∙ ap (λ o. Some (At o l.event.number l.event.did)) here;
        moves =
            subst (λ o. IsAmong (Leaves root r) (moves_by (present_at logs o l.event.number) l.event.did)) here among;
      }

  pub left-same : (root : RootId) (r : RegionId) (l : LeftBy shape logs holds acts root r)
      → end_event (left-ends root r l) ≡ l.event
  left-same root r l =
      let u : UseEnds logs root r = left-ends root r l in
      same-leaves shape logs holds acts r root root (end_event (left-ends root r l)) l.event u.stands l.stands
      (end-does logs root r (left-ends root r l)) l.does

  -- a growth out of the region ends its use
  abbrev pub growth_event : {root : RootId} {r : RegionId} → GrowsOut logs root r → Event
  growth_event {root = root} g =
      record {
        object = Object.Root root.place;
        did = Grow g.capacity g.next;
        lane = g.lane;
        at = g.at;
        number = g.number;
      }

  pub growth-does : (root : RootId) (r : RegionId) (g : GrowsOut logs root r)
      → Does logs (Leaves root r) (growth_event g)
  growth-does root r g =
      told logs (record { event = growth_event g; move = Leaves root r })
      (record {
        stands = g.stands;
        moves =
            first (Leaves root r) (leaves (present_before logs root.place g.number))
            (grows_into (present_before logs root.place g.number) g.next) g.moves;
      })
    where
      first : (m : Move) (xs ys : List Move) → IsAmong m xs → IsAmong m (xs ++ ys)
      first m [] ys among = absurd among
      first m (y ∷ xs) ys (inl same) = inl same
      first m (y ∷ xs) ys (inr among) = inr (first m xs ys among)

-- ---- A root that ended has ended all its uses.

pub take-all : {X : Type 0} (xs : List X) → take (length xs) xs ≡ xs
take-all [] = refl
take-all (x ∷ xs) = ap (λ ys. x ∷ ys) (take-all xs)

pub get-drop : {X : Type 0} (n : ℕ) (xs : List X) (i : ℕ) (x : X) → slice_get (drop n xs) i ≡ Some x
    → slice_get xs (n + i) ≡ Some x
get-drop zero xs i x e = let number : i ≡ 0 + i = omega arith in subst (λ k. slice_get xs k ≡ Some x) number e
get-drop (suc n) [] i x e = absurd (cc e)
get-drop (suc n) (y ∷ ys) i x e =
    let number : suc (n + i) ≡ suc n + i = omega arith in
    subst (λ k. slice_get (y ∷ ys) k ≡ Some x) number (get-drop n ys i x e)

-- an end leaves its place vacant
pub end-vacates : (place : ℕ) (s t : RootPlace) (root : RootId) → place_step place s (End root) ≡ Some t
    → t.present ≡ None
end-vacates place s t root e = go s.present e
  where
    go : (o : Option Present) → place_step_by place s o (End root) ≡ Some t → t.present ≡ None
    go None is = absurd (cc is)
    go (Some p) is =
        let same : record s { present = None } ≡ t =
        if_so-is (same_root root p.root) (record s { present = None }) t is in
        subst (λ y. y.present ≡ None) same refl

module _ (place : ℕ) (ds : List Did) (t : RootPlace) (whole : place_after place ds ≡ Some t) where
  -- what is present at the end, though a root ended, was born after that
  pub born-after : (l : ℕ) (root : RootId) (p : Present) → slice_get ds l ≡ Some (End root) → t.present ≡ Some p
      → (i : ℕ) × (x : RegionId) × (slice_get ds i ≡ Some (Birth p.root x)) × (l < i)
  born-after l root p is there =
      let a : (a : RootPlace) × (b : RootPlace) × (after (place_step place) new_place (take l ds) ≡ Some a)
      × (place_step place a (End root) ≡ Some b) = step-at (place_step place) ds new_place t l (End root) whole is in
      let longer : place_after place (take (suc l) ds) ≡ Some a.1 =
      ap (place_after place) (take-next ds l (End root) is)
      ∙ after-push (place_step place) new_place (take l ds) (End root)
      ∙ ap (option_and_then (λ y. place_step place y (End root))) a.2 ∙ a.3 in
      let s : (m : RootPlace) × (place_after place (take (suc l) ds) ≡ Some m)
      × (after (place_step place) m (drop (suc l) ds) ≡ Some t) =
      after-append (place_step place) (take (suc l) ds) (drop (suc l) ds) new_place t
      (ap (place_after place) (take-drop (suc l) ds) ∙ whole) in
      let both : Some a.1 ≡ Some s.0 = sym longer ∙ s.1 in
      let same : a.1 ≡ s.0 = cc both in
      let none : s.0.present ≡ None = ap (λ y. y.present) (sym same) ∙ end-vacates place a.0 a.1 root a.3 in
      ⊎_elim
      (λ o. let empty : None ≡ Some o.0 = sym none ∙ o.1 in absurd (cc empty))
      (λ was.
      let b = born-at p.root p.region (drop (suc l) ds) was in
      (suc l + b.0, b.1, get-drop (suc l) ds b.0 (Birth p.root b.1) b.2, omega arith))
      (present-origin place (drop (suc l) ds) s.0 t p s.2 there)

module _ (shape : Shape) (logs : Logs) (holds : HistoriesPaged shape logs) (acts : LanesAct logs) where
  begins-births : (root : RootId) (r : RegionId) (e : Event) → Does logs (Begins root r) e → 1 ≤ births_of r e.did
  begins-births root r e (inl is) =
      subst (λ d. 1 ≤ births_of r d) (sym is) (omega (arith, ap one_of (same_region-refl r)))
  begins-births root r e (inr g) =
      subst (λ d. 1 ≤ births_of r d) (sym g.1) (omega (arith, ap one_of (same_region-refl r)))

  -- the root of a use that nothing ends is present at the end
  pub never-left : (root : RootId) (r : RegionId) → IsUse logs root r → ends_in logs r ≡ 0 → (t : RootPlace)
      → place_after root.place (dids (history_of (Object.Root root.place) logs)) ≡ Some t
      → (p : Present) × (t.present ≡ Some p) × (p.root ≡ root) × (p.region ≡ r)
  never-left root r u none t whole =
      let e : Event = use_event u in
      let does : Does logs (Begins root r) (use_event u) = use-does logs root r u in
      let n = noted shape logs holds acts (use_event u) u.stands refl in
      let even = history-even logs root.place r [] (dids (history_of (Object.Root root.place) logs)) new_place t refl
      refl whole in
      let here : 1 ≤ here_is r t.present =
      omega (
        arith,
        even,
        total-plain (births_of r) 1 (dids (history_of (Object.Root root.place) logs)),
        total-inside (births_of r) (dids (history_of (Object.Root root.place) logs)) n.index u.did n.there,
        begins-births root r (use_event u) does,
        no_ends (total_from (ends_of logs root.place r) 1 (dids (history_of (Object.Root root.place) logs))) refl,
      ) in
      present t.present refl here
    where
      -- no note of the place ends a use of the region
      no_ends : (n : ℕ) → total_from (ends_of logs root.place r) 1 (dids (history_of (Object.Root root.place) logs)) ≡ n
          → total_from (ends_of logs root.place r) 1 (dids (history_of (Object.Root root.place) logs)) ≡ 0
      no_ends zero is = is
      no_ends (suc n) is =
          let f = from-found (ends_of logs root.place r) 1 (dids (history_of (Object.Root root.place) logs))
          (omega (arith, is)) in
          let d = done-at shape logs holds acts (Object.Root root.place) refl f.0 f.1 f.2 in
          let weight : 1 ≤ note_tally logs (ended_by r) (At (Object.Root root.place) d.0.number f.1) =
          subst (λ k. 1 ≤ ended_by r (region_for f.1 (present_before logs root.place k)) f.1) (sym d.1) f.3 in
          absurd (omega (
            arith,
            none,
            weight,
            over-at (note_tally logs (ended_by r)) logs d.0.lane d.0.at (At (Object.Root root.place) d.0.number f.1)
                d.0.stands,
          ))

      present : (o : Option Present) → t.present ≡ o → 1 ≤ here_is r o
          → (p : Present) × (t.present ≡ Some p) × (p.root ≡ root) × (p.region ≡ r)
      present None is h = absurd (omega (arith, h))
      present (Some p) is h =
          let region : p.region ≡ r = sym (same_region-is r p.region (one-of-true (same_region r p.region) h)) in
          let b : Begun root.place (dids (history_of (Object.Root root.place) logs))
          (length (dids (history_of (Object.Root root.place) logs))) p.root p.region =
          begun root.place (dids (history_of (Object.Root root.place) logs)) t whole
          (length (dids (history_of (Object.Root root.place) logs))) t p
          (ap (place_after root.place) (take-all (dids (history_of (Object.Root root.place) logs))) ∙ whole) is in
          let d = done-at shape logs holds acts (Object.Root root.place) refl b.at b.did b.there in
          let number : d.0.number - 1 ≡ b.at = omega (arith, d.1) in
          let does : Does logs (Begins p.root r) (the d.0) =
          ⊎_elim
          (λ x. inl (x ∙ ap (Birth p.root) region))
          (λ g. inr (
            g.0,
            g.1 ∙ ap (Grow g.0) region,
            (
              g.2.0,
              ap (λ k. present_in (place_after root.place
                  (take k (dids (history_of (Object.Root root.place) logs))))) number ∙ g.2.1,
              g.2.2,
            ),
          ))
          b.begins in
          let mine : Does logs (Begins root r) (use_event u) = use-does logs root r u in
          let same : the d.0 ≡ use_event u =
          same-begins shape logs holds acts r p.root root (the d.0) (use_event u) d.0.stands u.stands does mine in (
            p,
            is,
            (one-user logs (use_event u) p.root root r r (subst (Does logs (Begins p.root r)) same does) mine).0,
            region,
          )

  module _ (parts : (lane : ℕ) → lane < length logs → Parts lane (map (entry_of logs) (of_lane logs lane)))
      (counts : CountsAgree (entries_of logs)) where
    notes : StandInOneLog logs
    notes = stand-in_one_log shape logs holds acts parts counts

    -- one number for two births of a root
    one-birth : (root : RootId) (x y : RegionId) (a : IsBirth logs root x) (b : IsBirth logs root y)
        → a.number ≡ b.number
    one-birth root x y a b =
        let at = (notes.born root x a).birth_once x y a b in
        let there : slice_get (of_lane logs a.lane) a.at ≡ Some (At (Object.Root root.place) b.number (Birth root y)) =
        (λ i. slice_get (of_lane logs (at.0 i)) (at.1 i)) ∙ b.stands in
        let same : At (Object.Root root.place) a.number (Birth root x)
        ≡ At (Object.Root root.place) b.number (Birth root y) =
        one-note logs a.lane a.at (At (Object.Root root.place) a.number (Birth root x))
        (At (Object.Root root.place) b.number (Birth root y)) a.stands there in
        cc same

    -- a root that ended is not present at the end
    gone : (root : RootId) → Done logs (Object.Root root.place) (End root) → (t : RootPlace) (p : Present)
        → place_after root.place (dids (history_of (Object.Root root.place) logs)) ≡ Some t → t.present ≡ Some p
        → p.root ≡ root → ⊥
    gone root d t p whole there same =
        let n = noted shape logs holds acts (the d) d.stands refl in
        let later = born-after root.place (dids (history_of (Object.Root root.place) logs)) t whole n.index root p
        n.there there in
        let first = end-birth root.place (dids (history_of (Object.Root root.place) logs)) t n.index root whole
        n.there in
        let b = done-at shape logs holds acts (Object.Root root.place) refl later.0 (Birth root later.1)
        (later.2 ∙ ap (λ q. Some (Birth q later.1)) same) in
        let a = done-at shape logs holds acts (Object.Root root.place) refl first.0 (Birth root first.1) first.2 in
        absurd (omega (arith, one-birth root first.1 later.1 a.0 b.0, a.1, b.1, later.3, first.3))

    pub ended-left : (root : RootId) (r : RegionId) → IsUse logs root r
        → Done logs (Object.Root root.place) (End root) → LeftBy shape logs holds acts root r
    ended-left root r u d = go (ends_in logs r) refl
      where
        go : (n : ℕ) → ends_in logs r ≡ n → LeftBy shape logs holds acts root r
        go zero none =
            let t : (t : RootPlace) × (place_after root.place (dids (history_of (Object.Root root.place) logs))
            ≡ Some t) =
            is-some (place_after root.place (dids (history_of (Object.Root root.place) logs)))
            (holds.accepted (Object.Root root.place) refl) in
            let p = never-left root r u none t.0 t.1 in absurd (gone root d t.0 p.0 t.1 p.1 p.2)
        go (suc n) some =
            (left-own shape logs holds acts root r (use_event u) u.stands (use-does logs root r u)
            (omega (arith, some))).0

    -- an end names the root that is present
    end-names : (root q : RootId) (d : Done logs (Object.Root root.place) (End q)) (p : Present)
        → present_before logs root.place d.number ≡ Some p → p.root ≡ q
    end-names root q d p here =
        let n = noted shape logs holds acts (the d) d.stands refl in
        let t : (t : RootPlace) × (place_after root.place (dids (history_of (Object.Root root.place) logs)) ≡ Some t) =
        is-some (place_after root.place (dids (history_of (Object.Root root.place) logs)))
        (holds.accepted (Object.Root root.place) refl) in
        let a = step-at (place_step root.place) (dids (history_of (Object.Root root.place) logs)) new_place t.0 n.index
        (End q) t.1 n.there in
        let e = end-present root.place a.0 a.1 q a.3 in
        let number : d.number - 1 ≡ n.index = omega (arith, n.number) in
        let found : present_before logs root.place d.number ≡ Some e.0 =
        ap (λ k. present_in (place_after root.place
        (take k (dids (history_of (Object.Root root.place) logs))))) number
        ∙ ap present_in a.2 ∙ e.1 in
        let both : Some p ≡ Some e.0 = sym here ∙ found in
        let same : p ≡ e.0 = cc both in
        ap (λ x. x.root) same ∙ e.2

    -- a use ends where its root ends in the region, or grows out of it
    pub ends-how : (root : RootId) (r : RegionId) (u : UseEnds logs root r)
        → ((d : Done logs (Object.Root root.place) (End root)) × (d.lane ≡ u.lane) × (d.at ≡ u.at))
        ⊎ ((g : GrowsOut logs root r) × (g.lane ≡ u.lane) × (g.at ≡ u.at))
    ends-how root r u =
        let does : Does logs (Leaves root r) (end_event u) = end-does logs root r u in
        ⊎_elim
        (λ end.
        let d : Done logs (Object.Root root.place) (End end.0) =
        record {
          lane = u.lane;
          at = u.at;
          number = u.number;
          stands = u.stands ∙ ap (λ x. Some (At (Object.Root root.place) u.number x)) end.1;
        } in
        let mine : end.0 ≡ root = sym (end-names root end.0 d does.1.0 does.1.1) ∙ does.1.2 in
        inl (
          record {
            lane = u.lane;
            at = u.at;
            number = u.number;
            stands = d.stands ∙ ap (λ z. Some (At (Object.Root root.place) u.number (End z))) mine;
          },
          refl,
          refl,
        ))
        (λ g. inr (
          record {
            lane = u.lane;
            at = u.at;
            number = u.number;
            capacity = g.0;
            next = g.1;
            stands = u.stands ∙ ap (λ x. Some (At (Object.Root root.place) u.number x)) g.2;
            moves =
                subst (λ o. IsAmong (Leaves root r) (leaves o)) (sym does.1.1)
                (inl (λ i. Leaves (sym does.1.2 i) (sym does.1.3 i)));
          },
          refl,
          refl,
        ))
        does.0
