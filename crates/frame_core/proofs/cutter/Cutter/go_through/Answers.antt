use Rattle.std.proofs.Common.{◌+◌, ◌-◌, [], ◌++◌, refl, sym, ap, subst, arith}
use Rattle.std.proofs.lemmas.List.{take_all}
use Rattle.std.proofs.lemmas.Result.{err_from_is_err_and}
use Rattle.frame_core.specs.declared.frame.FrameNo.TheVariants.{Length}
use Rattle.frame_core.specs.Standing.{Standing}
use Rattle.frame_core.specs.Feeding.{GoesOn, IsRefused}
use Rattle.frame_core.proofs.InsideLaws.{within-is, frames-is, place-is}
use Rattle.frame_core.proofs.PhaseLaws.{HasHead-from, HasMore, refuses_first, goes_first, all_first, refuses_head, refuses_second, goes_second, all_second, ends_second}
use Rattle.frame_core.proofs.cutter.Cutter.go_through.Goals as goal

pub returns-in_err-head-clause-refused : goal.returns-in_err-head-clause-refused
returns-in_err-head-clause-refused c =
    let p = err_from_is_err_and c.from_residual.result c.from_residual.ensures.1 in
    let met = c.in_err-head.ensures.err in
    rw (p.1, p.2) (λ bytes at. refuses_first c.args.self.now bytes c.args.rest.now _ at met)

pub returns-then-self-lt-HEAD-clause-read : goal.returns-then-self-lt-HEAD-clause-read
returns-then-self-lt-HEAD-clause-read c = λ bytes at.
    let mid = c.go_on.new.self in
    let w = within-is c.self.inside mid c.self.view_is in
    let below = c.if-self-lt-HEAD.true in
    let told = c.in_ok-head.ensures in
    (goes_first c.args.self.now mid bytes c.args.rest.now c.in_ok-head.head at told.ok told.fits told.number
    (omega arith)).0

pub returns-then-self-lt-HEAD-clause-no_cut : goal.returns-then-self-lt-HEAD-clause-no_cut
returns-then-self-lt-HEAD-clause-no_cut c =
    let s = c.args.self.now in
    let mid = c.go_on.new.self in
    let rest = c.args.rest.now in
    let n = c.in_ok-head.head in
    let w = within-is c.self.inside mid c.self.view_is in
    let below = c.if-self-lt-HEAD.true in
    let told = c.in_ok-head.ensures in
    let all = all_first s mid rest n told.gone told.ok (omega arith) in (
      all,
      λ bytes at.
          subst (λ more. GoesOn bytes (bytes ++ more)) (take_all n rest (omega arith))
          (goes_first s mid bytes rest n at told.ok told.fits told.number (omega arith)).1,
    )

pub returns-then-len-gt-MAX_LENGTH-clause-refused :
    goal.returns-then-len-gt-MAX_LENGTH-clause-refused
returns-then-len-gt-MAX_LENGTH-clause-refused c = λ bytes at.
    let s = c.args.self.now in
    let mid = c.go_on.new.self in
    let rest = c.args.rest.now in
    let e = c.self.view_is in
    let told = c.in_ok-head.ensures in
    let head =
    HasHead-from c.self.inside s mid rest c.in_ok-head.head c.from_be_bytes-len.result e c.self.told
    c.if-self-lt-HEAD.false
    c.from_be_bytes-len.ensures told.gone told.ok told.fits told.number in
    subst (λ k. IsRefused bytes (bytes ++ rest) (Length k)) (frames-is c.self.inside mid e)
    (refuses_head s mid bytes rest c.in_ok-head.head c.from_be_bytes-len.result at head c.if-len-gt-MAX_LENGTH.true)

pub returns-in_err-body-clause-refused : goal.returns-in_err-body-clause-refused
returns-in_err-body-clause-refused c =
    let p = err_from_is_err_and c.from_residual-in_err-body.result c.from_residual-in_err-body.ensures.1 in
    let met = c.in_err-body.ensures.err in
    let s = c.args.self.now in
    let mid = c.go_on.new.self in
    let rest = c.args.rest.now in
    let e = c.self.view_is in
    let told = c.in_ok-head.ensures in
    let head =
    HasHead-from c.self.inside s mid rest c.in_ok-head.head c.from_be_bytes-len.result e c.self.told
    c.if-self-lt-HEAD.false
    c.from_be_bytes-len.ensures told.gone told.ok told.fits told.number in
    rw (p.1, p.2) (λ bytes at. refuses_second s mid bytes rest c.in_ok-head.head c.from_be_bytes-len.result _ at
    head c.if-len-gt-MAX_LENGTH.false met)

pub returns-then-self-len-clause-read : goal.returns-then-self-len-clause-read
returns-then-self-len-clause-read c = λ bytes at.
    let s = c.args.self.now in
    let mid = c.go_on.new.self in
    let new = c.go_on-2.new.self in
    let rest = c.args.rest.now in
    let n = c.in_ok-head.head in
    let m = c.in_ok-body.body in
    let len = c.from_be_bytes-len.result in
    let e = c.self.view_is in
    let told = c.in_ok-head.ensures in
    let head =
    HasHead-from c.self.inside s mid rest n len e c.self.told c.if-self-lt-HEAD.false
    c.from_be_bytes-len.ensures told.gone told.ok told.fits told.number in
    let later = c.in_ok-body.ensures in
    let more : HasMore mid new rest n m len =
    record { gone = later.gone; second = later.ok; fits = later.fits; number = later.number } in
    let below = c.if-self-len.true in
    let w2 = within-is c.self-2.inside new c.self-2.view_is in
    (goes_second s mid new bytes rest n m len at head c.if-len-gt-MAX_LENGTH.false more (omega arith)).0

pub returns-then-self-len-clause-no_cut : goal.returns-then-self-len-clause-no_cut
returns-then-self-len-clause-no_cut c =
    let s = c.args.self.now in
    let mid = c.go_on.new.self in
    let new = c.go_on-2.new.self in
    let rest = c.args.rest.now in
    let n = c.in_ok-head.head in
    let m = c.in_ok-body.body in
    let len = c.from_be_bytes-len.result in
    let e = c.self.view_is in
    let told = c.in_ok-head.ensures in
    let head =
    HasHead-from c.self.inside s mid rest n len e c.self.told c.if-self-lt-HEAD.false
    c.from_be_bytes-len.ensures told.gone told.ok told.fits told.number in
    let later = c.in_ok-body.ensures in
    let more : HasMore mid new rest n m len =
    record { gone = later.gone; second = later.ok; fits = later.fits; number = later.number } in
    let below = c.if-self-len.true in
    let w2 = within-is c.self-2.inside new c.self-2.view_is in
    let whole = all_second s mid new rest n m len head more (omega arith) in (
      whole,
      λ bytes at.
          subst (λ xs. GoesOn bytes (bytes ++ xs)) (take_all (n + m) rest (omega arith))
          (goes_second s mid new bytes rest n m len at head c.if-len-gt-MAX_LENGTH.false more (omega arith)).1,
    )

pub returns-clause-read : goal.returns-clause-read
returns-clause-read c = λ bytes at.
    let s = c.args.self.now in
    let mid = c.go_on.new.self in
    let new = c.go_on-2.new.self in
    let rest = c.args.rest.now in
    let n = c.in_ok-head.head in
    let m = c.in_ok-body.body in
    let len = c.from_be_bytes-len.result in
    let e = c.self.view_is in
    let told = c.in_ok-head.ensures in
    let head =
    HasHead-from c.self.inside s mid rest n len e c.self.told c.if-self-lt-HEAD.false
    c.from_be_bytes-len.ensures told.gone told.ok told.fits told.number in
    let later = c.in_ok-body.ensures in
    let more : HasMore mid new rest n m len =
    record { gone = later.gone; second = later.ok; fits = later.fits; number = later.number } in
    let long = c.if-self-len.false in
    let e2 = c.self-2.view_is in
    let w2 = within-is c.self-2.inside new e2 in
    let p2 = place-is c.self-2.inside new e2 in
    let f2 = frames-is c.self-2.inside new e2 in
    let inside = c.self-2.invariant.1 in
    (ends_second s mid new _ bytes rest n m len
    (record { start = c.self-2.inside.place - len; len = len }) at head c.if-len-gt-MAX_LENGTH.false more
    (omega arith)
    (sym p2) (ap (λ k. k + 1) (sym f2)) refl refl refl (omega arith)).0

pub returns-clause-cut : goal.returns-clause-cut
returns-clause-cut c = λ bytes at.
    let s = c.args.self.now in
    let mid = c.go_on.new.self in
    let new = c.go_on-2.new.self in
    let rest = c.args.rest.now in
    let n = c.in_ok-head.head in
    let m = c.in_ok-body.body in
    let len = c.from_be_bytes-len.result in
    let e = c.self.view_is in
    let told = c.in_ok-head.ensures in
    let head =
    HasHead-from c.self.inside s mid rest n len e c.self.told c.if-self-lt-HEAD.false
    c.from_be_bytes-len.ensures told.gone told.ok told.fits told.number in
    let later = c.in_ok-body.ensures in
    let more : HasMore mid new rest n m len =
    record { gone = later.gone; second = later.ok; fits = later.fits; number = later.number } in
    let long = c.if-self-len.false in
    let e2 = c.self-2.view_is in
    let w2 = within-is c.self-2.inside new e2 in
    let p2 = place-is c.self-2.inside new e2 in
    let f2 = frames-is c.self-2.inside new e2 in
    let inside = c.self-2.invariant.1 in
    let after : Standing = record {
      place = new.place;
      frames = new.frames + 1;
      within = 0;
      head = [];
      refusal =
          new.refusal;
    } in
    (ends_second s mid new after bytes rest n m len _ at head c.if-len-gt-MAX_LENGTH.false more (omega arith)
    refl refl refl refl refl (omega arith)).1
