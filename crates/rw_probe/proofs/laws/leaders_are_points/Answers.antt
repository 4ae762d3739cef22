use Rattle.std.proofs.Common.{sym, ◌∙◌}
use Rattle.rw_probe.proofs.LeaderFacts.{contains-one-of, leaders-are, leaders-few, leaders-points, leaders-rise, one-of-contains, rising-increases}
use Rattle.rw_probe.specs.Leaders.{leaders_of}
use Rattle.rw_probe.proofs.laws.leaders_are_points.Goals as goal

pub returns-clause-elements : goal.returns-clause-elements
returns-clause-elements c bytes mode a file found tables = (
  (λ h. sym (leaders-are bytes mode a file found tables) ∙ one-of-contains (leaders_of bytes mode) a h),
  (λ h. contains-one-of (leaders_of bytes mode) a (leaders-are bytes mode a file found tables ∙ h)),
)

pub returns-clause-points : goal.returns-clause-points
returns-clause-points c bytes mode = leaders-points bytes mode

pub returns-clause-ascend : goal.returns-clause-ascend
returns-clause-ascend c bytes mode file found = rising-increases 0 (leaders_of bytes mode) (leaders-rise bytes mode file found)

pub returns-clause-few : goal.returns-clause-few
returns-clause-few c bytes mode file found = leaders-few bytes mode file found
