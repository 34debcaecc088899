use Rattle.std.proofs.Common.{rules, ◌≡◌, ◌≤◌, ℕ, length, sym, ap, ◌∙◌, subst, arith}
use Rattle.std.specs.Prelude.{filter_map, vec_len, vec_capacity}
use Rattle.atomic_table.specs.Table.{opening}
use Rattle.step_law.specs.Settings.{Setting}
use Rattle.pool_law.specs.Homes.{objects_of}
use Rattle.pool_table.specs.Slots.{laid_out}
use Rattle.pool_table.specs.Words.{IsOpening}
use Rattle.pool_table.specs.Sound.{IsSound}
use Rattle.pool_table.specs.Steps.{first_view}
use Rattle.pool_table.proofs.Slots.{gathered_all, laid_many}
use Rattle.pool_table.proofs.Starts.{opens_as}
use Rattle.pool_table.proofs.table.PoolTable.new.Goals as goal

pub new-requires : goal.new-requires
new-requires g c =
    let gs : Setting = g.H.Told.settles c.args.homes.items in
    subst (λ (y : Setting). IsSound g.H.Told.stands c.args.layout
    (opening c.as_slice.result.now c.wrapped-slots.result.items (first_view c.args.layout y)))
    (ap (λ v. g.H.Told.settles v.items) (sym c.of.ensures))
    (opens_as g.H.Told.stands c.args.layout gs _ _ c.args.homes.items c.requires.shape c.requires.turns c.requires.moves
    (subst (IsOpening c.args.layout.shape) (sym c.as_slice.ensures.value) c.in-Ok.ensures.words)
    c.wrapped-slots.ensures.slots c.requires.homes c.requires.stand)

pub invariant_of-table : goal.invariant_of-table
invariant_of-table g c =
    let s = c.args.layout.shape in record {
      room_for_homes = c.in-Ok.ensures.spare_homes;
      room_for_words = c.in-Ok.ensures.spare_words;
      key = search (rules);
      words = search (rules);
      slots =
          c.in-Ok-new.ensures.ok.1 ∙ (ap length c.wrapped-slots.ensures.slots
          ∙ laid_many s c.args.homes.items c.requires.homes);
      shape = c.requires.shape;
      places = c.of-firsts.ensures;
    }

pub unwrapped-requires-clause-laid : goal.unwrapped-requires-clause-laid
unwrapped-requires-clause-laid g c =
    let s = c.args.layout.shape in let is = c.in-Err.ensures.err ∙ c.wrapped-slots.ensures.slots in
    is ∙ ap (laid_out s 0)
    (sym (ap (λ l. filter_map (λ x. x) l) is ∙ gathered_all s 0 c.args.homes.items))

pub unwrapped-requires-clause-many : goal.unwrapped-requires-clause-many
unwrapped-requires-clause-many g c =
    ap length
    (ap (λ l. filter_map (λ x. x) l) (c.in-Err.ensures.err ∙ c.wrapped-slots.ensures.slots)
    ∙ gathered_all c.args.layout.shape 0 c.args.homes.items)
    ∙ c.requires.homes

pub unwrapped-requires-clause-room : goal.unwrapped-requires-clause-room
unwrapped-requires-clause-room g c =
    let n : ℕ = objects_of c.args.layout.shape in let a = c.wrapped-slots.ensures.homes.1 in
    let long : length c.args.homes.items ≡ vec_len c.args.homes = search (rules) in
    let all : length c.args.homes.items ≡ n = c.requires.homes in
    let out : n ≤ vec_capacity c.wrapped-slots.new.homes = omega (arith, long, a, all) in out

pub returns-clause-err : goal.returns-clause-err
returns-clause-err g c =
    c.unwrapped.ensures ∙ (ap (λ l. filter_map (λ x. x) l) (c.in-Err.ensures.err ∙ c.wrapped-slots.ensures.slots)
    ∙ gathered_all c.args.layout.shape 0 c.args.homes.items)
