use Rattle.std.proofs.Common.{◌<◌, ℕ, sym, subst}
use Rattle.pool_table.proofs.RootCalls.{claims_place, marks_place}
use Rattle.pool_table.proofs.table.PoolTable.claim_place_word.Goals as goal

pub fetch_or-requires : goal.fetch_or-requires
fetch_or-requires g c = (
  c.requires.own,
  subst (λ (n : ℕ). c.args.slot.word < n) (sym c.args.self.now.words) c.requires.within,
  marks_place g.H.Told.stands c.args.self.now.layout _ _ c.args.place _ _ _ _ _ c.args.self.now.key
      c.args.self.now.slots c.requires.named.0 c.requires.named.1 c.args.self.now.shape.some_handle c.requires.word
      c.requires.outside c.requires.turn c.requires.enters,
)

pub fetch_or-requires-else-mark : goal.fetch_or-requires-else-mark
fetch_or-requires-else-mark g c = (
  c.requires.own,
  subst (λ (n : ℕ). c.args.slot.word < n) (sym c.args.self.now.words) c.requires.within,
  claims_place g.H.Told.stands c.args.self.now.layout _ _ c.args.place _ _ _ _ _ c.args.self.now.key
      c.args.self.now.slots c.requires.named.0 c.requires.named.1 c.args.self.now.shape.some_handle c.requires.word
      c.requires.outside c.requires.turn c.requires.enters,
)
