-- That what one end of a link accepts is within what the other receives by (Core 5.1, Volume 3 Part A, 5.1, 5.4 and 7.1).
use Rattle.std.specs.Prelude.{ℕ, ◌≡◌, List, ◌++◌, Some}
use Rattle.own_channel_laws.specs.talk_laws.specs.l2cap_config.specs.declared.options.Options.{Options}
use Rattle.own_channel_laws.specs.talk_laws.specs.l2cap_config.specs.declared.wish.Agreed.{Agreed}
use Rattle.own_channel_laws.specs.talk_laws.specs.l2cap_config.specs.declared.wish.Mode.TheVariants.{Enhanced}
use Rattle.own_channel_laws.specs.talk_laws.specs.l2cap_config.specs.declared.wish.Wish.{Wish}
use Rattle.own_channel_laws.specs.talk_laws.specs.l2cap_config.specs.Agreement.{agreed_on}
use Rattle.own_channel_laws.specs.talk_laws.specs.link_talk.specs.Channels.{Entry, reading}
use Rattle.own_channel_laws.specs.channel_model.specs.ertm_model.specs.Value.{Ertm}
use Rattle.own_channel_laws.specs.channel_model.specs.Value.{Retransmitting}
use Rattle.own_channel_laws.specs.channel_model.specs.Policies.{Policy}
use Rattle.own_channel_laws.specs.channel_model.specs.Calls.{carrier_at}
use Rattle.own_channel_laws.specs.channel_model.specs.Configuring.{bounded_agreement}
use Rattle.own_channel_laws.specs.Runs.{Occurrence, run_of}
use Rattle.own_channel_laws.specs.Views.{read_at}
use Rattle.own_channel_laws.specs.Agreements.{IsOnHeard}
use Rattle.channel_laws.specs.Pairs.{Side, Turn, pair_of}
use Rattle.channel_laws.specs.Belonging.{AreRead, said_at}
use Rattle.channel_laws.specs.Modes.{policy_of}
use Rattle.channel_laws.specs.Pipes.{Suits, CanState}

-- Whatever the link loses, repeats and damages: where options that one end heard of a channel, in one request or in parts, are
-- acceptable to it, in enhanced mode, its agreement on them suits every agreement that the other end may have of the PSM.
abbrev pub OptionsSuit : Type 0
OptionsSuit = (near far : Policy) (turns : List Turn) → AreRead near far turns → (side : Side) (own : ℕ) (entry : Entry) (agreed : Agreed) (others : Options)
    → read_at own (reading (said_at side (pair_of near far turns))).entries ≡ Some entry → IsOnHeard (policy_of side near far) entry.channel.psm own (said_at side (pair_of near far turns)) agreed
    → (let mine : Wish = (policy_of side near far).wish entry.channel.psm in let theirs : Wish = (policy_of side far near).wish entry.channel.psm in
    mine.mode ≡ Enhanced → CanState mine → CanState theirs → Suits agreed (bounded_agreement (agreed_on theirs others)))

-- Whatever happens to a host: while an enhanced channel of it is open its agreement stays the one by which it opened.
abbrev pub AgreementsStay : Type 0
AgreementsStay = (policy : Policy) (list later : List Occurrence) (own : ℕ) (machine again : Ertm) → carrier_at own (run_of policy list).value ≡ Some (Retransmitting machine) → carrier_at own (run_of policy (list ++ later)).value ≡ Some (Retransmitting again)
    → again.agreed ≡ machine.agreed
