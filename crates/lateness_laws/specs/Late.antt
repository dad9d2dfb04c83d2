-- That a request for the options of a channel does not come to a host behind a later one, nor anew where the channel is open (Core 5.1, Volume 3 Part A, 4, 4.4 and 7.1).
use Rattle.std.specs.Prelude.{ℕ, ◌≡◌, ◌≤◌, ◌==◌, true, false, List, [], ◌∷◌, drop, Some, Ok, ◌⊎◌}
use Rattle.channel_laws.specs.acl_fragments.specs.Pieces.{channel_of}
use Rattle.channel_laws.specs.capture.specs.Histories.{EachAfter}
use Rattle.channel_laws.specs.capture.specs.declared.flow.Flow.TheVariants.{Into}
use Rattle.channel_laws.specs.l2cap_config.specs.Items.{no_options}
use Rattle.channel_laws.specs.l2cap_signal.specs.Commands.{configuration_request}
use Rattle.channel_laws.specs.l2cap_signal.specs.Reading.{answers}
use Rattle.channel_laws.specs.link_talk.specs.Sayings.{Saying}
use Rattle.channel_laws.specs.link_talk.specs.Sayings as sayings
use Rattle.channel_laws.specs.channel_model.specs.declared.errand.Errand.TheVariants.{Configuration}
use Rattle.channel_laws.specs.channel_model.specs.Changing.{held_at, setup_of, is_open}
use Rattle.channel_laws.specs.channel_model.specs.Policies.{Policy}
use Rattle.channel_laws.specs.channel_model.specs.Value.{Request, Setup, Held, Remembered, Channels}
use Rattle.channel_laws.specs.Belonging.{AreRead}
use Rattle.channel_laws.specs.Ends.{end_at}
use Rattle.channel_laws.specs.OwnTalk.{command_with}
use Rattle.channel_laws.specs.Pairs.{End, Side, turned, Turn, pair_of}
use Rattle.channel_laws.specs.Signals.{StandsIn}
use Rattle.channel_laws.specs.Tries.{request_of}
use Rattle.configuration_laws.specs.Met.{IdentifiersRise}

-- ---- the host that asks

-- it waits for the response to one request for options at a time
abbrev pub AsksOptionsOnce : Channels → Type 0
AsksOptionsOnce v = (own other : ℕ) (first second : Request) → request_of (Configuration own) v ≡ Some first → request_of (Configuration other) v ≡ Some second → own ≡ other

-- at each moment
abbrev pub AskOptionsSingly : Side → (near far : Policy) → List Turn → Type 0
AskOptionsSingly side near far turns = EachAfter (λ past turn. AsksOptionsOnce (end_at side (pair_of near far past)).run.value) [] turns

-- ---- the host that hears

-- it heard a request for the options of its channel with this endpoint
abbrev pub HasHeardOptions : (identifier own : ℕ) → List Saying → Type 0
HasHeardOptions identifier own said = (flags : ℕ) × (options : List ℕ) × StandsIn (sayings.Command Into (Ok (command_with identifier (configuration_request own flags options)))) said

-- a copy of one is under way to it
abbrev pub AreUnderWay : (identifier own : ℕ) → List (List ℕ) → Type 0
AreUnderWay identifier own coming = (pdu : List ℕ) × (flags : ℕ) × (options : List ℕ) × StandsIn pdu coming × ((channel_of pdu == 0x0001) ≡ true) × (answers (drop 4 pdu) ≡ Ok (command_with identifier (configuration_request own flags options)) ∷ [])

-- such a request with this identifier is the last one that it remembers, so it gets the same response again (4)
abbrev pub IsLast : (identifier : ℕ) → Channels → Type 0
IsLast identifier v = (last : Remembered) × (v.memory.configuration ≡ Some last) × (last.identifier ≡ identifier)

-- a channel with this endpoint is not open, if there is one
abbrev pub IsNotOpen : (own : ℕ) → Channels → Type 0
IsNotOpen own v = (held : Held) (setup : Setup) → held_at own v ≡ Some held → setup_of held.stage ≡ Some setup → is_open setup ≡ false

-- each request for its options that was heard is the one that is under way
abbrev pub IsAskedOnce : (own : ℕ) → End → Type 0
IsAskedOnce own end' = (earlier identifier : ℕ) → HasHeardOptions earlier own end'.run.said → AreUnderWay identifier own end'.coming → earlier ≡ identifier

-- ---- the laws

-- what is known of a request that is under way to a host: it is no older than each that the host heard, of whatever channel, and one that it heard is the last
pub record IsInOrder (identifier : ℕ) (end' : End) : Type 0 where
  pub latest : (earlier own : ℕ) → HasHeardOptions earlier own end'.run.said → earlier ≤ identifier
  pub again : (own : ℕ) → HasHeardOptions identifier own end'.run.said → IsLast identifier end'.run.value

-- A host asks so while no two of its channels count.
abbrev pub OneChannelAsksOnce : Type 0
OneChannelAsksOnce = (v : Channels) → ((own other : ℕ) (held also : Held) → held_at own v ≡ Some held → held_at other v ≡ Some also → own ≡ other) → AsksOptionsOnce v

-- Whatever the link loses, repeats and damages.
abbrev pub HeardOptionsAreLast : Type 0
HeardOptionsAreLast = (near far : Policy) (turns : List Turn) → AreRead near far turns → (side : Side) → IdentifiersRise side near far turns → AskOptionsSingly side near far turns
    → (identifier own : ℕ) → AreUnderWay identifier own (end_at side (turned (pair_of near far turns))).coming → IsInOrder identifier (end_at side (turned (pair_of near far turns)))

-- So a copy of the one request for the options of a channel finds the channel not open, or is the last one that is remembered.
abbrev pub NoOptionsComeLate : Type 0
NoOptionsComeLate = (near far : Policy) (turns : List Turn) → AreRead near far turns → (side : Side) → IdentifiersRise side near far turns → AskOptionsSingly side near far turns
    → (identifier own : ℕ) → IsAskedOnce own (end_at side (turned (pair_of near far turns))) → AreUnderWay identifier own (end_at side (turned (pair_of near far turns))).coming
    → (let it : Channels = (end_at side (turned (pair_of near far turns))).run.value in IsNotOpen own it ⊎ IsLast identifier it)

-- And whatever the link loses, repeats and damages: on no channel of either host a part of a request for options waits for its rest.
abbrev pub NoPartWaits : Type 0
NoPartWaits = (near far : Policy) (turns : List Turn) → AreRead near far turns → (side : Side)
    → (own : ℕ) (held : Held) (setup : Setup) → held_at own (end_at side (pair_of near far turns)).run.value ≡ Some held → setup_of held.stage ≡ Some setup → setup.parts ≡ no_options
