-- Of which pool a share is.
use Rattle.pool_table.specs.Seats.{IsSeatOf}
use Rattle.shared_pool.specs.declared.pool.SharedPool.{SharedPool}
use Rattle.shared_pool.specs.declared.share.Share.{Share}

-- the share is of this pool
abbrev pub IsShareOf : SharedPool → Share → Type 0
IsShareOf pool s = IsSeatOf pool.table s.seat
