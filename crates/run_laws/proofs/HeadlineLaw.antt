-- What a legal run gives: the headline, from the laws.
use Rattle.std.proofs.Common.{⊎_elim, inl, ◌≡◌, ℕ, zero, suc, List, [], ◌∷◌, length, refl, sym, ap, subst, arith, true, Some, ◌∙◌, ne_eqb}
use Rattle.std.specs.Prelude.{◌≢◌, ◌<◌, ◌==◌, not, map, unwrap_or, IsTrue, slice_get}
use Rattle.pool_law.specs.declared.id.RootId.{RootId}
use Rattle.pool_law.specs.declared.id.RegionId.{RegionId}
use Rattle.pool_law.specs.declared.note.Object.{Object}
use Rattle.pool_law.specs.declared.note.Did.TheVariants.{Birth}
use Rattle.pool_law.specs.declared.note.RefDid.{RefDid}
use Rattle.pool_law.specs.declared.note.Note.TheVariants.{At}
use Rattle.pool_law.specs.declared.report.Leak.{Leak}
use Rattle.pool_law.specs.declared.run.Shape.{Shape}
use Rattle.pool_law.specs.declared.run.Run.{Run}
use Rattle.pool_law.specs.Logs.{Logs, of_lane, entry_of, entries_of}
use Rattle.pool_law.specs.Legal.{CountsAgree, IsLegal, logs_of}
use Rattle.run_laws.proofs.PagedHistories.{HistoriesPaged, paged}
use Rattle.pool_law.specs.Leaks.{births, is_live, is_sampled, leak_of}
use Rattle.pool_law.specs.Lives.{IsUse, UseEnds, Leaves, IsAmong, moves_by, present_at}
use Rattle.pool_law.specs.Apart.{EndsBefore, NeverOverlap}
use Rattle.run_laws.specs.Conserved.{total_in}
use Rattle.run_laws.specs.OneLog.{Counted, StandInOneLog}
use Rattle.run_laws.specs.Reported.{NeverFreed, IsLeak, ListsLeaks}
use Rattle.run_laws.specs.Headline.{LiveLieApart, LiveIsNeverFreed, Headline}
use Rattle.run_laws.proofs.LogEntries.{LanesAct}
use Rattle.run_laws.proofs.LogParts.{Parts}
use Rattle.run_laws.proofs.Births.{used-born}
use Rattle.run_laws.proofs.LifeChain.{is-done_at}
use Rattle.run_laws.proofs.TakingUses.{begins-use}
use Rattle.run_laws.proofs.Lasting.{live-lasts}
use Rattle.run_laws.proofs.EndLaw.{dead-ended, ended-dead}
use Rattle.run_laws.proofs.OneLogLaw.{stand-in_one_log}
use Rattle.run_laws.proofs.LeakLaw.{birth-there, Listed, leaks-only, leaks-all, leaks-order}
use Rattle.run_laws.proofs.ReadLaw.{reads-give_written}
use Rattle.run_laws.proofs.RunLaws.{acts-of, parts-of, regions-live, regions-apart, roots-never_overlap, caches-end_empty}
use Rattle.run_laws.proofs.RunEnds.{regions-return, arenas-end}

-- a log that has a note is one of the logs
pub log-there : {X : Type 0} (logs : List (List X)) (lane i : ℕ) (x : X) → slice_get (of_lane logs lane) i ≡ Some x
    → slice_get logs lane ≡ Some (of_lane logs lane)
log-there [] lane i x e = absurd (cc e)
log-there (log ∷ logs) zero i x e = refl
log-there (log ∷ logs) (suc lane) i x e = log-there logs lane i x e

pub not-zero : (n : ℕ) → not (n == 0) ≡ true → n ≢ 0
not-zero zero e none = absurd (cc e)
not-zero (suc n) e none = absurd (omega (arith, none))

module _ (shape : Shape) (logs : Logs) (holds : HistoriesPaged shape logs) (acts : LanesAct logs)
    (parts : (lane : ℕ) → lane < length logs → Parts lane (map (entry_of logs) (of_lane logs lane)))
    (counts : CountsAgree (entries_of logs)) where
  notes : StandInOneLog logs
  notes = stand-in_one_log shape logs holds acts parts counts

  -- a release ended the count of a root exactly where its total is 0
  pub freed-dead : (root : RootId) (r : RegionId) → IsUse logs root r → Counted logs root RefDid.Ended
      → total_in logs root ≡ 0
  freed-dead root r u c =
      let b = used-born shape logs holds acts root r u in
      ended-dead shape logs holds acts parts counts root b.0 b.1 (notes.ended root c).end

  pub dead-freed : (root : RootId) (r : RegionId) → IsUse logs root r → total_in logs root ≡ 0
      → Counted logs root RefDid.Ended
  dead-freed root r u dead =
      let b = used-born shape logs holds acts root r u in
      (notes.end root (dead-ended shape logs holds acts parts counts root b.0 b.1 dead)).ended

  pub live-never_freed : LiveIsNeverFreed logs
  live-never_freed root r u = (λ live c. live (freed-dead root r u c), λ never dead. never (dead-freed root r u dead))

  -- what ended before another use began ended
  pub before-ends : (first second : RootId) (a b : RegionId) → EndsBefore logs first a second b → UseEnds logs first a
  before-ends first second a b before =
      let here : before.end.object ≡ Object.Root first.place =
      is-done_at shape logs holds acts (record { event = before.end; move = Leaves first a })
      before.ended in
      record {
        lane = before.end.lane;
        at = before.end.at;
        number = before.end.number;
        did = before.end.did;
        stands = before.ended.stands ∙ ap (λ o. Some (At o before.end.number before.end.did)) here;
        moves = subst (λ o. IsAmong (Leaves first a) (moves_by (present_at logs o before.end.number) before.end.did))
            here before.ended.moves;
      }

  pub live-lie_apart : NeverOverlap logs → LiveLieApart logs
  live-lie_apart never first second a b u v alive living differ over =
      ⊎_elim (λ before. alive (before-ends first second a b before))
      (λ before. living (before-ends second first b a before))
      (never first second a b u v differ over)

  -- a root that is born in a log is used
  pub birth-used : (lane n : ℕ) (root : RootId) → slice_get (births (of_lane logs lane)) n ≡ Some root
      → (r : RegionId) × IsUse logs root r
  birth-used lane n root e =
      let f = birth-there (of_lane logs lane) n root e in (
        f.3,
        begins-use shape logs holds acts root f.3
            (record { object = f.1; did = Birth root f.3; lane = lane; at = f.0; number = f.2 }) f.4 (inl refl),
      )

  pub live-is : (lane n : ℕ) (root : RootId) → slice_get (births (of_lane logs lane)) n ≡ Some root
      → is_live logs root ≡ true → NeverFreed logs root
  live-is lane n root e live =
      let u = birth-used lane n root e in (live-never_freed root u.0 u.1).0 (not-zero (total_in logs root) live)

  pub is-live : (lane n : ℕ) (root : RootId) → slice_get (births (of_lane logs lane)) n ≡ Some root
      → NeverFreed logs root → is_live logs root ≡ true
  is-live lane n root e never =
      let u = birth-used lane n root e in
      ap not (ne_eqb (total_in logs root) 0 ((live-never_freed root u.0 u.1).1 never))

pub lists-leaks : (run : Run) → IsLegal run → ListsLeaks run
lists-leaks run legal =
    record {
      only =
          λ i leak e. only leak (leaks-only run.shape (logs_of run) 0 (logs_of run) i leak
          (ap (λ xs. slice_get xs i) (sym legal.leaks) ∙ e));
      all =
          λ leak is. let r =
          leaks-all run.shape (logs_of run) 0 (logs_of run) leak (listed leak is) in
          (r.0, ap (λ xs. slice_get xs r.0) legal.leaks ∙ r.1);
      order =
          λ i j a b e d. leaks-order run.shape (logs_of run) 0 (logs_of run) i j a b
          (ap (λ xs. slice_get xs i) (sym legal.leaks) ∙ e) (ap (λ xs. slice_get xs j) (sym legal.leaks) ∙ d);
    }
  where
    only : (leak : Leak) → Listed run.shape (logs_of run) 0 (logs_of run) leak → IsLeak run leak
    only leak l =
        let r = l.reported in
        let lane : leak.lane ≡ l.lane = ap (λ x. x.lane) r.told in
        let serial : leak.serial ≡ r.serial = ap (λ x. x.serial) r.told in
        let order : l.order ≡ leak.lane = omega (arith, lane, l.lane_is) in
        let log : l.log ≡ of_lane (logs_of run) leak.lane =
        sym (ap (λ o. unwrap_or o []) (ap (slice_get (logs_of run)) (sym order) ∙ l.there)) in
        let born : slice_get (births (of_lane (logs_of run) leak.lane)) r.order
        ≡ Some r.root = ap (λ x. slice_get (births x) r.order) (sym log) ∙ r.there in
        record {
          root = r.root;
          earlier = r.order;
          born = born;
          serial = omega (arith, serial, r.serial_is);
          sampled = subst (λ n. IsTrue (is_sampled run.shape.level run.shape.interval n)) (sym serial) r.sampled;
          never_freed =
              live-is run.shape (logs_of run) (paged run legal) (acts-of run legal) (parts-of run legal) legal.counts
              leak.lane r.order r.root born r.live;
          told = r.told ∙ (λ k. leak_of run.shape.level (logs_of run) (sym lane k) (sym serial k) r.root);
        }

    listed : (leak : Leak) → IsLeak run leak → Listed run.shape (logs_of run) 0 (logs_of run) leak
    listed leak is =
        let f = birth-there (of_lane (logs_of run) leak.lane) is.earlier is.root is.born in
        record {
          order = leak.lane;
          log = of_lane (logs_of run) leak.lane;
          there = log-there (logs_of run) leak.lane f.0 (At f.1 f.2 (Birth is.root f.3)) f.4;
          lane = leak.lane;
          lane_is = omega arith;
          reported = record {
            root = is.root;
            order = is.earlier;
            there = is.born;
            serial = leak.serial;
            serial_is = omega (arith, is.serial);
            live =
                is-live run.shape (logs_of run) (paged run legal) (acts-of run legal) (parts-of run legal) legal.counts
                leak.lane is.earlier is.root is.born is.never_freed;
            sampled = is.sampled;
            told = is.told;
          };
        }

pub headline-holds : (run : Run) → IsLegal run → Headline run
headline-holds run legal =
    record {
      legal = legal;
      never_overlap = roots-never_overlap run legal;
      one_after_another = regions-live run legal;
      lie_apart = regions-apart run legal;
      live_apart =
          live-lie_apart run.shape (logs_of run) (paged run legal) (acts-of run legal) (parts-of run legal) legal.counts
          (roots-never_overlap run legal);
      live_lasts =
          live-lasts run.shape (logs_of run) (paged run legal) (acts-of run legal) (parts-of run legal) legal.counts;
      reads = reads-give_written run legal;
      returns = regions-return run legal;
      live =
          live-never_freed run.shape (logs_of run) (paged run legal) (acts-of run legal) (parts-of run legal)
          legal.counts;
      out = arenas-end run legal;
      caches = caches-end_empty run legal;
      leaks = lists-leaks run legal;
    }
