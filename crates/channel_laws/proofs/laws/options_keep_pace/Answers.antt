use Rattle.own_channel_laws.proofs.Timekeeping.{options-keep_pace}
use Rattle.channel_laws.proofs.laws.options_keep_pace.Goals as goal

pub returns : goal.returns
returns c = options-keep_pace
