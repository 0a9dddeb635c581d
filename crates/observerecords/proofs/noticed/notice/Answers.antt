-- `noticed::notice` meets its contract, by what `filed::went` says.
use Rattle.observerecords.proofs.noticed.notice.Goals as goal

pub returns : goal.returns
returns c = rw c.went.ensures
