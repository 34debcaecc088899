use Rattle.pool_law.specs.declared.note.Object.TheVariants.{Root}
use Rattle.pool_table.proofs.table.PoolTable.claim_place.Given as goal

abbrev pub ghosts-claim_place_word : goal.ghosts-claim_place_word
ghosts-claim_place_word g a = record { object = Root a.place; layout = a.self.now.layout }
