use Rattle.std.proofs.Common.{refl, ◌∙◌}
use Rattle.board_table.proofs.Stakes.{may_enter}
use Rattle.shared_composite.specs.Homes.{core_of}
use Rattle.shared_composite.specs.Boards.{view_of}
use Rattle.shared_composite.proofs.BoardCalls.{section_ends, made_section, number_is}
use Rattle.shared_composite.proofs.board.Board.read.Goals as goal

pub done-number-requires-clause-end : goal.done-number-requires-clause-end
done-number-requires-clause-end c =
    let got = c.in-Ok.ensures.got in let read = c.read_home-read in
    section_ends c.args.self.now c.args.k c.args.seat.now.seat c.claim.new.seat c.in-Ok.section got c.args.pool.now
    c.requires.pool (may_enter c.args.k (view_of c.args.seat.now) c.requires.counts) read.new.section
    read.ensures.composite read.ensures.core read.ensures.kept read.ensures.turns c.requires.turn

pub returns-in-Ok-read-clause-read : goal.returns-in-Ok-read-clause-read
returns-in-Ok-read-clause-read c =
    let got = c.in-Ok.ensures.got in let read = c.read_home-read in let done = c.done-number in
    record {
      before = core_of c.in-Ok.section;
      after = core_of read.new.section;
      earlier = got.number;
      number_is = number_is c.args.self.now c.args.k c.args.seat.now.seat c.claim.new.seat c.in-Ok.section got
          done.result done.ensures.number;
      section = made_section c.args.self.now c.args.k c.args.seat.now.seat c.claim.new.seat c.in-Ok.section got
          c.args.pool.now c.requires.pool done.new.seat read.new.section.composite (core_of read.new.section)
          (read.ensures.composite ∙ got.composite) read.ensures.core read.ensures.kept done.ensures.done
          (record { seat = done.new.seat }) c.args.seat.now refl refl;
      read = c.in-Ok-read.ensures.read;
    }

pub returns-in-Err-read-clause-busy : goal.returns-in-Err-read-clause-busy
returns-in-Err-read-clause-busy c =
    let got = c.in-Ok.ensures.got in let read = c.read_home-read in let done = c.done-number in
    record {
      before = core_of c.in-Ok.section;
      after = core_of read.new.section;
      earlier = got.number;
      section = made_section c.args.self.now c.args.k c.args.seat.now.seat c.claim.new.seat c.in-Ok.section got
          c.args.pool.now c.requires.pool done.new.seat read.new.section.composite (core_of read.new.section)
          (read.ensures.composite ∙ got.composite) read.ensures.core read.ensures.kept done.ensures.done
          (record { seat = done.new.seat }) c.args.seat.now refl refl;
      found = c.in-Err-read.ensures.held;
    }
