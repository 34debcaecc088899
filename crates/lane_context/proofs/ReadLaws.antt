-- How a reading goes on behind an answer, where a sweep is due and where none is.
use Rattle.std.proofs.Common.{◌≡◌, ℕ, ◌<◌, Bool, true, false, refl, Some}
use Rattle.std.specs.Prelude.{if◌then◌else◌, nat_le}
use Rattle.std.proofs.lemmas.Bool.{lt-leb}
use Rattle.pool_law.specs.LaneLaw.{sweep_period}
use Rattle.pool_law.specs.Lanes.{Answer}
use Rattle.pool_law.specs.Patterns.{sweep}
use Rattle.pool_law.specs.Readers.{Log, Reader, ◌>>◌, give, nothing, asks_anew}
use Rattle.lane_context.specs.Readings.{swept}

-- where none is due, there is none
pub unswept : (lane : ℕ) (a : Answer) (log : Log) → log.asked < sweep_period → swept lane a log ≡ Some (a, log)
unswept lane a log low = go (sweep lane) (nat_le sweep_period log.asked) (lt-leb sweep_period log.asked low)
  where
    go : (s : Reader (Unit {0})) (test : Bool) → test ≡ false
        → ((if test then (asks_anew >> s) else nothing) >> give a) log ≡ Some (a, log)
    go s true is = absurd (cc is)
    go s false is = refl

-- where one is due, the caches are asked from the first on
pub sweeps_on : (lane : ℕ) (a : Answer) (log : Log) → nat_le sweep_period log.asked ≡ true
    → swept lane a log ≡ (sweep lane >> give a) (record log { asked = 0 })
sweeps_on lane a log due = go (sweep lane) (nat_le sweep_period log.asked) due
  where
    go : (s : Reader (Unit {0})) (test : Bool) → test ≡ true
        → ((if test then (asks_anew >> s) else nothing) >> give a) log ≡ (s >> give a) (record log { asked = 0 })
    go s true is = refl
    go s false is = absurd (cc is)
