-- The report of leaks: what is told of the live roots, by lane and serial.
use Rattle.std.specs.Prelude.{◌≡◌, ◌<◌, ◌≤◌, ◌⊎◌, List, map, AllPairs, IsPermutation}
use Rattle.pool_law.specs.declared.report.Leak.{Leak}
use Rattle.leak_records.specs.declared.live.LiveRoot.{LiveRoot}

-- what is reported of a live root
abbrev pub leak_of : LiveRoot → Leak
leak_of r =
    record {
      lane = r.watch.lane;
      serial = r.watch.serial;
      capacity = r.capacity;
      count = r.count;
      records = r.records;
      dropped = r.dropped;
    }

-- a leak of a lower lane, or of the same lane and not of a higher serial
abbrev pub IsNotAfter : Leak → Leak → Type 0
IsNotAfter a b = (a.lane < b.lane) ⊎ ((a.lane ≡ b.lane) × (a.serial ≤ b.serial))

-- each live root is reported once, by lane and serial
pub record IsReport (live : List LiveRoot) (leaks : List Leak) : Type 0 where
  pub same : IsPermutation (map leak_of live) leaks
  pub sorted : AllPairs IsNotAfter leaks
