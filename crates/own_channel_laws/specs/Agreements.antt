-- By what options a host has a channel open (Core 5.1, Volume 3 Part A, 4.4, 5 and 7.1).
use Rattle.std.specs.Prelude.{ℕ, ◌≡◌, ◌==◌, ◌%◌, Bool, true, false, List, ◌++◌, Some, Ok}
use Rattle.std.specs.List.{AllByRecursion, flat_map}
use Rattle.talk_laws.specs.capture.specs.declared.flow.Flow.TheVariants.{Into}
use Rattle.talk_laws.specs.l2cap_signal.specs.Commands.{configuration_request}
use Rattle.talk_laws.specs.l2cap_config.specs.declared.options.Options.{Options}
use Rattle.talk_laws.specs.l2cap_config.specs.declared.agreement.ConfigAnswer.TheVariants.{Accept}
use Rattle.talk_laws.specs.l2cap_config.specs.declared.wish.Agreed.{Agreed}
use Rattle.talk_laws.specs.l2cap_config.specs.Reading.{options_read}
use Rattle.talk_laws.specs.l2cap_config.specs.Agreement.{answered, agreed_on}
use Rattle.talk_laws.specs.link_talk.specs.declared.channel.Channel.{Channel}
use Rattle.talk_laws.specs.link_talk.specs.Sayings.{Saying}
use Rattle.talk_laws.specs.link_talk.specs.Sayings as sayings
use Rattle.talk_laws.specs.link_talk.specs.Channels.{reading}
use Rattle.channel_model.specs.Value.{Carrier, Plain, Retransmitting}
use Rattle.channel_model.specs.Policies.{Policy}
use Rattle.channel_model.specs.Configuring.{bounded_agreement}
use Rattle.channel_model.specs.Calls.{carrier_at}
use Rattle.own_channel_laws.specs.OwnTalk.{command_with}
use Rattle.own_channel_laws.specs.Runs.{Occurrence, run_of}
use Rattle.own_channel_laws.specs.Views.{carrier_mode, read_at}
use Rattle.own_channel_laws.specs.Signals.{StandsIn}
use Rattle.own_channel_laws.specs.Endpoints.{IsOf}

-- ---- options that were heard

-- the host heard a request with these options, of the channel of its own endpoint; bit 0 of its flags says whether more of them
-- follow in a request behind it
pub record IsHeard (own : ℕ) (more : Bool) (said : List Saying) (octets : List ℕ) : Type 0 where
  pub identifier : ℕ
  pub flags : ℕ
  pub heard : StandsIn (sayings.Command Into (Ok (command_with identifier (configuration_request own flags octets)))) said
  pub more_is : (flags % 2 == 1) ≡ more

-- parts of options, one behind the other
abbrev pub joined_parts : List (List ℕ) → List ℕ
joined_parts parts = flat_map (λ part. part) parts

-- it is what a host agrees on where it finds options acceptable that it heard of the channel: in one request, or in parts, of which the
-- last says that no more follow
pub record IsOnHeard (policy : Policy) (psm own : ℕ) (said : List Saying) (agreed : Agreed) : Type 0 where
  pub parts : List (List ℕ)
  pub last : List ℕ
  pub options : Options
  pub given : Options
  pub parts_heard : AllByRecursion (IsHeard own true said) parts
  pub last_heard : IsHeard own false said last
  pub read_is : options_read (joined_parts parts ++ last) ≡ Ok options
  pub accepts : answered (policy.wish psm) options ≡ Accept given
  pub agreed_is : agreed ≡ bounded_agreement (agreed_on (policy.wish psm) options)

-- ---- the law

-- by what a host has a channel
abbrev pub agreed_of : Carrier → Agreed
agreed_of (Plain agreed waiting) = agreed
agreed_of (Retransmitting machine) = machine.agreed

-- Whatever happens to a host: while a channel of it is open, its talk has the channel; it has it in the mode that it wishes, by its
-- agreement on options that it heard of it and found acceptable.
abbrev pub AgreementsAreOnHeard : Type 0
AgreementsAreOnHeard = (policy : Policy) (list : List Occurrence) (own : ℕ) (carrier : Carrier) → carrier_at own (run_of policy list).value ≡ Some carrier → (channel : Channel)
    × IsOf channel (read_at own (reading (run_of policy list).said).entries) × (carrier_mode carrier ≡ (policy.wish channel.psm).mode) × IsOnHeard policy channel.psm own (run_of policy list).said (agreed_of carrier)
