use Rattle.std.proofs.Common.{sym, subst, ◌++◌}
use Rattle.std.specs.Prelude.{Option}
use Rattle.shared_pool.specs.Emptying.{MayGive, GivesAt, left_of}
use Rattle.shared_pool.specs.declared.home.Home.{Home}
use Rattle.shared_pool.proofs.Emptyings.{may_give, there_at, handed}
use Rattle.shared_pool.proofs.emptying.give_to.Goals as goal

pub bounds-homes-region : goal.bounds-homes-region
bounds-homes-region c =
    let homes = c.args.homes.now in let r = c.args.region in let t =
    may_give c.requires.0 homes r.id r.piece (c.requires.1 ++ left_of homes) c.requires.2 in
    (there_at homes r.id.place.arena t.0 t.0 t.1).0

pub give_home-requires : goal.give_home-requires
give_home-requires c =
    let homes = c.args.homes.now in let r = c.args.region in let t =
    may_give c.requires.0 homes r.id r.piece (c.requires.1 ++ left_of homes) c.requires.2 in
    subst (λ (y : Option Home). MayGive y r.id r.piece)
    (sym (there_at homes r.id.place.arena t.0 c.index-homes-region.result t.1).1) t.2

pub returns-clause-out : goal.returns-clause-out
returns-clause-out c = λ n left o.
    let homes = c.args.homes.now in let r = c.args.region in let t =
    may_give n homes r.id r.piece (left ++ left_of homes) o in
    handed n homes r.id r.piece left t.0 c.give_home.new.home o t.1
    (subst (λ (y : Option Home). GivesAt y r.id c.give_home.new.home)
    (there_at homes r.id.place.arena t.0 c.index-homes-region.result t.1).1 c.give_home.ensures)
