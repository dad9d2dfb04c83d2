use Rattle.noting_laws.proofs.Forgetting.{notes_are_more}
use Rattle.noting_laws.proofs.notes_are_more.Goals as goal

pub returns : goal.returns
returns g c credits_in profile = notes_are_more credits_in profile
