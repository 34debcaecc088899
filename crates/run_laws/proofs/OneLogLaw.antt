-- In a legal run the notes of a birth, and those of an end, stand in one log, each once.
use Rattle.std.proofs.Common.{◌≡◌, ℕ, ◌≤◌, length, refl, ap, arith, Some, ◌∙◌}
use Rattle.std.specs.Prelude.{◌<◌, map}
use Rattle.pool_law.specs.declared.id.RootId.{RootId}
use Rattle.pool_law.specs.declared.id.RegionId.{RegionId}
use Rattle.pool_law.specs.declared.note.Object.{Object}
use Rattle.pool_law.specs.declared.note.Did.TheVariants.{Birth, End}
use Rattle.pool_law.specs.declared.note.RefDid.{RefDid}
use Rattle.pool_law.specs.declared.note.Note.{Note}
use Rattle.pool_law.specs.declared.note.Note.TheVariants.{At, Ref}
use Rattle.pool_law.specs.declared.run.Shape.{Shape}
use Rattle.pool_law.specs.Logs.{Logs, of_lane, entry_of, entries_of}
use Rattle.pool_law.specs.Legal.{CountsAgree}
use Rattle.run_laws.proofs.PagedHistories.{HistoriesPaged}
use Rattle.pool_law.specs.Lives.{StandsAt, Done}
use Rattle.run_laws.specs.OneLog.{IsBirth, IsBorn, HasEnded, StandInOneLog}
use Rattle.pool_law.specs.Same.{same_root}
use Rattle.pool_law.proofs.PatternLemmas.{same_root-refl}
use Rattle.run_laws.proofs.LogEntries.{LanesAct}
use Rattle.run_laws.proofs.Births.{ended-born, used-born}
use Rattle.run_laws.proofs.Sums.{sum_over, over-place}
use Rattle.run_laws.proofs.LogParts.{Parts}
use Rattle.run_laws.proofs.Together.{BirthHere, EndHere, Together, note-together}
use Rattle.run_laws.proofs.HandTotals.{note-placed}
use Rattle.run_laws.proofs.EndLaw.{one, birth_weight, born_weight, ended_weight, end_weight, vacated_weight, birth-alike, ended-alike, vacated-alike, sums-alike, ends-most, births-most}

module _ (shape : Shape) (logs : Logs) (holds : HistoriesPaged shape logs) (acts : LanesAct logs)
    (parts : (lane : ℕ) → lane < length logs → Parts lane (map (entry_of logs) (of_lane logs lane)))
    (counts : CountsAgree (entries_of logs)) where
  pub together : (lane i : ℕ) (n : Note) → StandsAt logs lane i n → Together logs lane i n
  together lane i n is = note-together logs lane (acts lane) i n is

  pub is-born : (root : RootId) (lane : ℕ) → BirthHere logs lane root → IsBorn logs root
  is-born root lane h =
      let birth : IsBirth logs root h.region =
      record {
        lane = lane;
        at = h.birth;
        number = h.number;
        stands = h.birth_is
            ∙ ap (λ o. Some (At o h.number (Birth root h.region)))
            (note-placed shape logs holds acts lane h.birth h.number h.object (Birth root h.region) h.birth_is);
      } in
      let one_birth : sum_over (birth_weight root) logs ≤ 1 =
      births-most shape logs holds acts parts counts root h.region birth in
      let one_set : sum_over (birth_weight root) logs
      ≡ sum_over (born_weight root) logs =
      sums-alike logs acts (birth_weight root) (born_weight root) (birth-alike root) in
      record {
        region = h.region;
        birth = birth;
        set = record { lane = lane; at = h.set; stands = h.set_is };
        same_log = refl;
        order = h.order;
        birth_once =
            λ r q a b. over-place (birth_weight root) logs a.lane b.lane a.at b.at
            (At (Object.Root root.place) a.number (Birth root r))
            (At (Object.Root root.place) b.number (Birth root q)) a.stands b.stands one_birth itself itself;
        set_once =
            λ a b. over-place (born_weight root) logs a.lane b.lane a.at b.at (Ref root RefDid.Born)
            (Ref root RefDid.Born) a.stands b.stands (omega (arith, one_birth, one_set)) itself itself;
      }
    where
      itself : 1 ≤ one (same_root root root)
      itself = omega (arith, ap one (same_root-refl root))

  pub has-ended : (root : RootId) (lane : ℕ) → EndHere logs lane root → HasEnded logs root
  has-ended root lane h =
      let placed : h.object ≡ Object.Root root.place =
      note-placed shape logs holds acts lane h.end h.number h.object (End root) h.end_is in
      let end : Done logs (Object.Root root.place) (End root) =
      record {
        lane = lane;
        at = h.end;
        number = h.number;
        stands = h.end_is ∙ ap (λ o. Some (At o h.number (End root))) placed;
      } in
      let born : (r : RegionId) × IsBirth logs root r = ended-born shape logs holds acts root end in
      let most : sum_over (end_weight root) logs ≤ 1 =
      ends-most shape logs holds acts parts counts root born.0 born.1 in
      let ended : sum_over (ended_weight root) logs
      ≡ sum_over (end_weight root) logs =
      sums-alike logs acts (ended_weight root) (end_weight root) (ended-alike root) in
      let vacated : sum_over (vacated_weight root) logs
      ≡ sum_over (end_weight root) logs =
      sums-alike logs acts (vacated_weight root) (end_weight root) (vacated-alike root) in
      record {
        ended = record { lane = lane; at = h.ended; stands = h.ended_is };
        end = end;
        vacated = record { lane = lane; at = h.vacated; stands = h.vacated_is };
        same_log = (refl, refl);
        order = (h.after_ended, h.after_end);
        ended_once =
            λ a b. over-place (ended_weight root) logs a.lane b.lane a.at b.at (Ref root RefDid.Ended)
            (Ref root RefDid.Ended) a.stands b.stands (omega (arith, most, ended)) itself itself;
        end_once =
            λ a b. over-place (end_weight root) logs a.lane b.lane a.at b.at
            (At (Object.Root root.place) a.number (End root)) (At (Object.Root root.place) b.number (End root))
            a.stands b.stands most itself itself;
        vacated_once =
            λ a b. over-place (vacated_weight root) logs a.lane b.lane a.at b.at (Ref root RefDid.Vacated)
            (Ref root RefDid.Vacated) a.stands b.stands (omega (arith, most, vacated)) itself itself;
      }
    where
      itself : 1 ≤ one (same_root root root)
      itself = omega (arith, ap one (same_root-refl root))

  pub stand-in_one_log : StandInOneLog logs
  stand-in_one_log =
      record {
        used =
            λ root r u. let b = used-born shape logs holds acts root r u in is-born root b.1.lane
            (together b.1.lane b.1.at (At (Object.Root root.place) b.1.number (Birth root b.0)) b.1.stands).0;
        born =
            λ root r u. is-born root u.lane
            (together u.lane u.at (At (Object.Root root.place) u.number (Birth root r)) u.stands).0;
        set = λ root c. is-born root c.lane (together c.lane c.at (Ref root RefDid.Born) c.stands);
        ended = λ root c. has-ended root c.lane (together c.lane c.at (Ref root RefDid.Ended) c.stands);
        end =
            λ root d. has-ended root d.lane
            (together d.lane d.at (At (Object.Root root.place) d.number (End root)) d.stands);
        vacated = λ root c. has-ended root c.lane (together c.lane c.at (Ref root RefDid.Vacated) c.stands);
      }
