use Rattle.cubes.proofs.Proved.{on_rows_lawful}
use Rattle.cubes.proofs.laws.on_rows_are_lawful.Goals as goal

pub returns : goal.returns
returns c = on_rows_lawful
