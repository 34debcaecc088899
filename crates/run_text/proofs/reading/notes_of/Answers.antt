use Rattle.std.proofs.Common.{◌≢◌, [], List, sym, ap, subst, ◌∙◌, arith}
use Rattle.std.specs.Prelude.{Vec}
use Rattle.std.specs.List.{All}
use Rattle.std.specs.declared.alloc.Global.{Global}
use Rattle.pool_law.specs.declared.note.Note.{Note}
use Rattle.run_text.specs.Lines.{told_from}
use Rattle.run_text.specs.Knowing.{notes_in}
use Rattle.run_text.proofs.KnownLemmas.{not_none, same_some}
use Rattle.run_text.proofs.LineLemmas.{refused_on}
use Rattle.run_text.proofs.MakeLemmas.{told-below, whole_logs}
use Rattle.run_text.proofs.reading.notes_of.Goals as goal

pub returns-in_err-making : goal.returns-in_err-making
returns-in_err-making c front back logs is long ends fit told some count full =
    let read = c.in_ok-told.ensures front back (told_from 0 logs) is long ends fit in
    refused_on _ _ _ c.from_residual-in_err-making.ensures.1
    (c.in_err-making.ensures (told_from 0 logs) read told some
    (told-below logs 0 c.args.lanes (omega (arith, count))))

pub returns-in-Some : goal.returns-in-Some
returns-in-Some c front back logs is long ends fit told some count full =
    let read = c.in_ok-told.ensures front back (told_from 0 logs) is long ends fit in
    let made = c.in_ok-making.ensures (told_from 0 logs) read told some
    (told-below logs 0 c.args.lanes (omega (arith, count))) in
    let whole = whole_logs c.args.arenas c.args.lanes (told_from 0 logs) c.in_ok-making.making logs made count in
    let given = c.whole.ensures (subst (λ (l : List (List Note)). All (λ (log : List Note). log ≢ []) l)
    (sym whole) full) in
    ap (λ (v : Vec (Vec Note Global) Global). notes_in v.items) (same_some _ _ _ c.in-Some.is given) ∙ whole

pub returns-in-None : goal.returns-in-None
returns-in-None c front back logs is long ends fit told some count full =
    let read = c.in_ok-told.ensures front back (told_from 0 logs) is long ends fit in
    let made = c.in_ok-making.ensures (told_from 0 logs) read told some
    (told-below logs 0 c.args.lanes (omega (arith, count))) in
    let whole = whole_logs c.args.arenas c.args.lanes (told_from 0 logs) c.in_ok-making.making logs made count in
    let given = c.whole.ensures (subst (λ (l : List (List Note)). All (λ (log : List Note). log ≢ []) l)
    (sym whole) full) in
    absurd (not_none _ _ c.in-None.is given)
