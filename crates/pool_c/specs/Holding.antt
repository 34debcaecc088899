-- What lies behind a handle.
use Rattle.pool_member.specs.declared.member.Member.{Member}
use Rattle.pool_c.specs.declared.held.Common.{Common}

-- a thread of a pool, and what its threads have in common
pub record Holding : Type 0 where
  pub common : Common
  pub member : Member

abbrev pub behind : Common → Member → Holding
behind common member = record { common = common; member = member }
