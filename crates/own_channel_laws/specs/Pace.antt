-- How often a host asks for the options of a channel that it leaves (Core 5.1, Volume 3 Part A, 4.4, 4.6 and 6.2.1).
use Rattle.std.specs.Prelude.{ℕ, ◌≡◌, ◌≤◌, min, false, List, [], Some}
use Rattle.channel_model.specs.declared.errand.Errand.TheVariants.{Configuration, Disconnection}
use Rattle.channel_model.specs.Value.{Request}
use Rattle.channel_model.specs.Policies.{Policy}
use Rattle.own_channel_laws.specs.Runs.{Occurrence, run_of}
use Rattle.own_channel_laws.specs.Tries.{request_of}

-- no channel of the host is one that its peer asked for
abbrev pub OffersNothing : Policy → Type 0
OffersNothing policy = (psm : ℕ) → policy.offers psm ≡ false

-- Whatever happens: where nothing waits on the signalling channel, a host that offers nothing has asked for the options of a channel at least
-- as often as for its end, if it waits for both responses. Nothing is counted beyond 255.
abbrev pub OptionsKeepPace : Type 0
OptionsKeepPace = (policy : Policy) (list : List Occurrence) → OffersNothing policy → (run_of policy list).value.queue ≡ []
    → (own : ℕ) (options end : Request) → request_of (Configuration own) (run_of policy list).value ≡ Some options → request_of (Disconnection own) (run_of policy list).value ≡ Some end → min end.given 255 ≤ options.given
