use Rattle.pool_table.specs.Opened.{IsFirstSeat}
use Rattle.pool_table.proofs.Lists.{two_last}
use Rattle.section_cases.specs.declared.diary.TheConstants.{LAYOUT}
use Rattle.std.proofs.Common.{[], ◌≡◌}
use Rattle.step_law.specs.Settings.{no_setting}
use Rattle.section_cases.proofs.Trials.{each_stands}
use Rattle.section_cases.proofs.diary.open_table.Goals as goal

pub new-requires-clause-stand : goal.new-requires-clause-stand
new-requires-clause-stand c =
    each_stands LAYOUT.shape c.in_ok-homes.homes.items (λ d. d.notes.items ≡ []) c.in_ok-homes.ensures.many
    c.in_ok-homes.ensures.empty

pub returns-clause-first : goal.returns-clause-first
returns-clause-first c = let s = c.in-Ok.ensures.seats in (
  no_setting,
  (two_last (λ k. IsFirstSeat LAYOUT no_setting k c.in-Ok.table) c.in-Ok.seats.items c.pop.new.self.items
      c.pop-2.new.self.items c.in-Some-pop.first c.in-Some.second s.many c.in-Some.ensures.items
      c.in-Some-pop.ensures.items s.each).0,
)

pub returns-clause-second : goal.returns-clause-second
returns-clause-second c = let s = c.in-Ok.ensures.seats in (
  no_setting,
  (two_last (λ k. IsFirstSeat LAYOUT no_setting k c.in-Ok.table) c.in-Ok.seats.items c.pop.new.self.items
      c.pop-2.new.self.items c.in-Some-pop.first c.in-Some.second s.many c.in-Some.ensures.items
      c.in-Some-pop.ensures.items s.each).1,
)
