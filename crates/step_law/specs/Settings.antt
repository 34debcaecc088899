-- What is settled once, as a pool opens.
use Rattle.std.specs.Prelude.{[]}
use Rattle.ground.specs.Grounds.{Grounds}

-- the grounds of the chunk places
pub record Setting : Type 0 where
  pub grounds : Grounds

-- where nothing is settled
abbrev pub no_setting : Setting
no_setting = record { grounds = [] }
