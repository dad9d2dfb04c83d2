use Rattle.recovered_laws.proofs.Settling.{calm-is_quiet}
use Rattle.recovered_laws.proofs.calm_is_quiet.Goals as goal

pub returns : goal.returns
returns c = calm-is_quiet
