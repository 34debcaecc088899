use Rattle.std.proofs.Common.{◌≡◌, true, false}
use Rattle.lane_reader.proofs.log.Log.carried_out.Goals as goal

pub returns-in-Set-default-default-default-true-clause-row : goal.returns-in-Set-default-default-default-true-clause-row
returns-in-Set-default-default-default-true-clause-row c s is candidate =
    let tries : c.in-Set-default-default-default-true.tries ≡ true = cc in
    rw (c.in-Set-default-default-default-true.is, tries) (c.try_set_row.ensures.row c.args.setting.now s is)

pub returns-in-Set-default-default-default-false-clause-row :
    goal.returns-in-Set-default-default-default-false-clause-row
returns-in-Set-default-default-default-false-clause-row c s is candidate =
    let tries : c.in-Set-default-default-default-false.tries ≡ false = cc in
    rw (c.in-Set-default-default-default-false.is, tries) (c.set_row.ensures.row c.args.setting.now s is)

pub returns-in-Get-default-default-default-true-clause-row : goal.returns-in-Get-default-default-default-true-clause-row
returns-in-Get-default-default-default-true-clause-row c s is candidate =
    let tries : c.in-Get-default-default-default-true.tries ≡ true = cc in
    rw (c.in-Get-default-default-default-true.is, tries) (c.try_get_row.ensures.row c.args.setting.now s is)

pub returns-in-Get-default-default-default-false-clause-row :
    goal.returns-in-Get-default-default-default-false-clause-row
returns-in-Get-default-default-default-false-clause-row c s is candidate =
    let tries : c.in-Get-default-default-default-false.tries ≡ false = cc in
    rw (c.in-Get-default-default-default-false.is, tries) (c.get_row.ensures.row c.args.setting.now s is)

pub returns-in-Write-clause-row : goal.returns-in-Write-clause-row
returns-in-Write-clause-row c s is candidate =
    rw c.in-Write.is (c.write_row.ensures.row c.args.setting.now s is)

pub returns-in-Read-clause-row : goal.returns-in-Read-clause-row
returns-in-Read-clause-row c s is candidate =
    rw c.in-Read.is (c.read_row.ensures.row c.args.setting.now s is)

pub returns-in-Slice-clause-row : goal.returns-in-Slice-clause-row
returns-in-Slice-clause-row c s is candidate =
    rw c.in-Slice.is (c.slice_row.ensures.row c.args.setting.now s is)

pub returns-in-Dup-clause-row : goal.returns-in-Dup-clause-row
returns-in-Dup-clause-row c s is candidate =
    rw c.in-Dup.is (c.dup_row.ensures.row c.args.setting.now s is)

pub returns-in-Touch-clause-row : goal.returns-in-Touch-clause-row
returns-in-Touch-clause-row c s is candidate =
    rw c.in-Touch.is (c.touch_row.ensures.row c.args.setting.now s is)

pub returns-in-Forget-clause-row : goal.returns-in-Forget-clause-row
returns-in-Forget-clause-row c s is candidate =
    rw c.in-Forget.is (c.forget_row.ensures.row c.args.setting.now s is)
