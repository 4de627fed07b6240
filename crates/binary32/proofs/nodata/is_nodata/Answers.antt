-- `nodata::is_nodata` meets its contract. Assumes nothing.
use Rattle.binary32.proofs.NotANumber.{differs_from_itself_is_nan}
use Rattle.binary32.proofs.nodata.is_nodata.Goals as goal

pub returns : goal.returns
returns c = differs_from_itself_is_nan c.args.x
