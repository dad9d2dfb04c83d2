use Rattle.std.proofs.Common.{refl}
use Rattle.check_words.specs.Division.{added, reduced, divided}
use Rattle.check_words.specs.CheckWords.{low_bits}
use Rattle.check_words.proofs.RfcommChanges.{rfcomm_bursts-seen, rfcomm_changed-seen}
use Rattle.check_words.proofs.laws.rfcomm_changes_are_seen.Goals as goal

pub returns : goal.returns
unfolding added reduced divided low_bits
returns c = record { bursts = rfcomm_bursts-seen; octets = rfcomm_changed-seen; not_all = refl }
