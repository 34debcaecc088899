-- How a pool is opened for C.
use Rattle.std.specs.Prelude.{◌≡◌, ◌≢◌, ℕ, ◌-◌, ◌/◌, ◌^◌, max, ℤ, ◌==◌, if◌then◌else◌, ⊤, All, List, length, map, Some, Result, Ok, Err, slice_get}
use Rattle.pool_law.specs.declared.run.Level.{Level}
use Rattle.pool_law.specs.declared.run.Level.TheVariants.{Disabled, Simple}
use Rattle.pool_law.specs.declared.run.Shape.{Shape}
use Rattle.pool_law.specs.Limits.{IsShape}
use Rattle.pool_table.specs.declared.views.Layout.{Layout}
use Rattle.pool_member.specs.declared.member.Member.{Member}
use Rattle.pool_member.specs.Opening.{IsNew}
use Rattle.pool_member.specs.Threads.{IsSettled, IsThread}
use Rattle.pool_c.specs.declared.codes.Refusal.{Refusal}
use Rattle.pool_c.specs.declared.codes.Refusal.TheVariants as no
use Rattle.pool_c.specs.declared.config.PoolConfig.{PoolConfig}
use Rattle.pool_c.specs.declared.held.Common.{Common}
use Rattle.pool_c.specs.declared.handle.PoolThread.{PoolThread}
use Rattle.pool_c.specs.Codes.{answer_code}
use Rattle.pool_c.specs.Handles.{HasThread}
use Rattle.pool_c.specs.Holding.{Holding}

-- the measures that a config means, where one allocation of so many is watched, or none
abbrev pub level_of : ℕ → Level
level_of interval = if interval == 0 then Disabled else Simple

abbrev pub shape_of : PoolConfig → Shape
shape_of c = record {
  page = c.page;
  order = c.order;
  arenas = c.arenas;
  chunks = c.chunks;
  handles = c.handles;
  lanes = c.threads;
  level = level_of c.interval;
  interval = max c.interval 1;
}

-- with as many moves and turns for each thread as a pool can count for all
abbrev pub layout_of : PoolConfig → Layout
layout_of c = record {
  shape = shape_of c;
  moves = (2 ^ 30 - 1) / max c.threads 1;
  turns = (2 ^ 62 - 1) / max c.threads 1;
}

-- the thread of this number, which did nothing yet, is behind the handle
pub record HasNew (common : Common) (number : ℕ) (t : PoolThread) : Type 0 where
  pub member : Member
  pub has : HasThread t common member
  pub thread : IsThread common.shared member
  pub new : IsNew common.shared.table.layout number member.account
  pub settled : IsSettled member

-- the threads of one new pool are behind the handles, by number
pub record AreOpened (c : PoolConfig) (threads : List PoolThread) : Type 0 where
  pub common : Common
  pub name : common.name ≡ c.name
  pub layout : common.shared.table.layout ≡ layout_of c
  pub each : (k : ℕ) (t : PoolThread) → slice_get threads k ≡ Some t → HasNew common k t

-- these handles are those for the threads of a pool: so many, and nothing is behind them
abbrev pub AreFree : List PoolThread → Type 0
AreFree threads = All (λ t. t.state ≡ 0) threads

pub record AreFor (c : PoolConfig) (threads : List PoolThread) : Type 0 where
  pub shape : IsShape (shape_of c)
  pub many : length threads ≡ c.threads
  pub free : AreFree threads

-- these are behind the handles, one behind each
pub record ArePut (all : List Holding) (threads : List PoolThread) : Type 0 where
  pub ready : All (λ t. t.state ≡ 1) threads
  pub held : map (λ t. t.slot.held) threads ≡ map Some all

-- the cause of a refusal, in the order of the tests; want of memory has none. No other comes
abbrev pub MayRefuse : PoolConfig → List PoolThread → Refusal → Type 0
MayRefuse c threads no.Shape = ¬ IsShape (shape_of c)
MayRefuse c threads no.Threads = IsShape (shape_of c) × (length threads ≢ c.threads)
MayRefuse c threads no.Occupied =
    IsShape (shape_of c) × (length threads ≡ c.threads) × (¬ AreFree threads)
MayRefuse c threads no.NoMemory = AreFor c threads
MayRefuse c threads why = ⊥

-- a pool was opened behind such handles, or refused, and then they are as they were
abbrev pub OpensAs : PoolConfig → List PoolThread → List PoolThread → Result ⊤ Refusal → Type 0
OpensAs c old new (Ok done) = AreFor c old × AreOpened c new × (length new ≡ length old)
OpensAs c old new (Err why) = MayRefuse c old why × (new ≡ old)

pub record Opens (c : PoolConfig) (old new : List PoolThread) (code : ℤ) : Type 0 where
  pub answer : Result ⊤ Refusal
  pub told : code ≡ answer_code answer
  pub opens : OpensAs c old new answer
