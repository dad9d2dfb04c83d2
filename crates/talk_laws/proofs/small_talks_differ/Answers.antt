use Rattle.talk_laws.proofs.Differences.{channels_differ, silences_differ}
use Rattle.talk_laws.proofs.small_talks_differ.Goals as goal

pub returns : goal.returns
returns c = record { channels = channels_differ; silences = silences_differ }
