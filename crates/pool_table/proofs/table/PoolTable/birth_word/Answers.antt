use mathlib.Core.Option.{none}
use Rattle.atomic_table.specs.Table.{step}
use Rattle.pool_table.specs.Slots.{slots_of}
use Rattle.pool_table.specs.Words.{count_word_of}
use Rattle.pool_table.proofs.Calls.{within, births_as, births_told}
use Rattle.pool_table.proofs.table.PoolTable.birth_word.Goals as goal

pub fetch_add-requires : goal.fetch_add-requires
fetch_add-requires g c = (
  c.requires.own,
  within g.H.Told.stands c.args.self.now.layout _ _ c.root_index-word.ensures.within c.args.self.now.words,
  births_as g.H.Told.stands c.args.self.now.layout _ _ _ _ _ c.args.root _ c.args.self.now.key c.args.self.now.slots
      c.requires.named c.root_index-word.ensures.there c.requires.outside c.args.self.now.shape.some_handle
      c.requires.hand c.requires.waits,
)

pub returns-clause-told : goal.returns-clause-told
returns-clause-told g c = let shape = c.args.self.now.layout.shape in
    births_told g.R.Rooted.root c.args.root
    (step (slots_of shape) (count_word_of shape c.args.root.place) 4294967297 0 none) c.args.seat.now.me
    c.fetch_add.result c.fetch_add.new.seat.me c.requires.named c.fetch_add.ensures.2.0
