use Rattle.pref_core.proofs.Common.{◌≤◌, length, ap, arith}
use Rattle.pref_core.proofs.ChangesLaws.{begun_few, commit_length}
use Rattle.pref_core.proofs.call.lent.LentCall.begun.Goals as goal

pub returns-in-Commit-clause-few : goal.returns-in-Commit-clause-few
returns-in-Commit-clause-few c =
    let long = c.begun_by.ensures 0 in
    let most = begun_few 0 c.as_slice.result.now in
    let few : length c.in-Commit.commit.now ≤ 8 = commit_length c.in-Commit.commit.now c.as_slice.ensures.commit in
    let same = ap length c.as_slice.ensures.same in
    omega arith
