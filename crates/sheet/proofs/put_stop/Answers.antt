-- `put_stop` writes a text for which there is room.
use Rattle.sheet.proofs.StepLaws.{stop_put}
use Rattle.sheet.proofs.put_stop.Goals as goal

pub returns : goal.returns
returns c = search (stop_put)
