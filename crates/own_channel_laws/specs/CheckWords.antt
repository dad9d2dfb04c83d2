-- Check words: which frames that come in for an own endpoint have one (Core 5.1, Volume 3 Part A, 3.3.5 and 5.5).
use Rattle.std.specs.Prelude.{ℕ, ◌≡◌, List, true, Some}
use Rattle.talk_laws.specs.l2cap_config.specs.declared.wish.Mode.TheVariants.{Enhanced}
use Rattle.talk_laws.specs.link_talk.specs.Channels.{Entry, reading}
use Rattle.talk_laws.specs.link_talk.specs.Waits.{has_check_word}
use Rattle.channel_model.specs.Policies.{Policy}
use Rattle.channel_model.specs.Calls.{has_fcs}
use Rattle.own_channel_laws.specs.Runs.{Occurrence, Run, run_of}
use Rattle.own_channel_laws.specs.Views.{read_at}

-- Whatever happens: a host looks for a check word at an own endpoint exactly where its own talk says that there is one. So it is
-- until the answer to its request for the end came, also where it had closed the channel before.
abbrev pub CheckWordsAreRead : Type 0
CheckWordsAreRead = (policy : Policy) (list : List Occurrence) (own : ℕ)
    → has_fcs own (run_of policy list).value ≡ has_check_word (run_of policy list).said own

-- the endpoint is that of a channel in the host's own talk, and the host wishes enhanced retransmission mode of its PSM
pub record IsEnhancedAt (policy : Policy) (run : Run) (own : ℕ) : Type 0 where
  pub entry : Entry
  pub found : read_at own (reading run.said).entries ≡ Some entry
  pub enhanced : (policy.wish entry.channel.psm).mode ≡ Enhanced

-- So is each endpoint at which it looks for a check word, also where it had closed the channel before.
abbrev pub CheckWordsAreWished : Type 0
CheckWordsAreWished = (policy : Policy) (list : List Occurrence) (own : ℕ) → has_fcs own (run_of policy list).value ≡ true → IsEnhancedAt policy (run_of policy list) own
