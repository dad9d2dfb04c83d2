-- What a host makes of the responses of its peer (Core 5.1, Volume 3 Part A, 4.1, 4.3, 4.5, 4.7 and 4.11). A response that it
-- does not wait for changes nothing.
use Rattle.std.specs.Prelude.{ℕ, ◌+◌, ◌*◌, ◌==◌, ◌&&◌, ◌||◌, not, nat_le, Bool, false, List, length, slice_index, Option, Some, None, Result, Ok, Err, if◌then◌else◌}
use Rattle.std.specs.List.{list_any}
use Rattle.l2cap_config.specs.declared.options.Options.{Options}
use Rattle.l2cap_config.specs.declared.options.ConfigRefusal.{ConfigRefusal}
use Rattle.l2cap_config.specs.declared.agreement.Settled.{Settled}
use Rattle.l2cap_config.specs.declared.agreement.Settled.TheVariants.{Accepted, Again, Wait, Never}
use Rattle.l2cap_config.specs.declared.wish.Wish.{Wish}
use Rattle.l2cap_config.specs.Reading.{options_read}
use Rattle.l2cap_config.specs.Agreement.{settled}
use Rattle.channel_model.specs.declared.errand.Errand.TheVariants as errands
use Rattle.channel_model.specs.declared.event.ChannelEvent.TheVariants.{Features}
use Rattle.channel_model.specs.declared.event.CloseReason.TheVariants.{Refused, NoAgreement, OwnClosed}
use Rattle.channel_model.specs.Value.{Request, Own, Unasked, Asking, Granted, Setup, no_setup, Stage, Requested, Connected, Leaving, Closing, Crossed, Held, Channels}
use Rattle.channel_model.specs.Policies.{Policy}
use Rattle.channel_model.specs.Changing.{has_live_peer, is_peer, is_leaving, setup_of, with_setup, to_setup, forgets, tells}
use Rattle.channel_model.specs.Asking.{first_options, asks_options}
use Rattle.channel_model.specs.Closing.{closes, ends}
use Rattle.channel_model.specs.Configuring.{grants}

-- ---- the channel that the host asked for

-- the peer's endpoint is one that a channel can have, and that no other live channel has
abbrev pub is_fresh_endpoint : ℕ → Channels → Bool
is_fresh_endpoint endpoint v = nat_le 0x0040 endpoint && not (list_any (has_live_peer endpoint) v.held)

-- the channel is there, and the host asks for its options
abbrev pub connects : Wish → (peer : ℕ) → Held → Channels → Channels
connects wish peer held v =
    asks_options (record held { stage = Connected peer no_setup }) no_setup (first_options wish) (forgets (errands.Connection held.own) v)

-- result 0 grants the channel, 1 says that another response follows, any other refuses it
abbrev pub hears_connected : Policy → (endpoint result : ℕ) → Held → Channels → Channels
hears_connected policy endpoint result held v =
    if result == 0 then (if is_fresh_endpoint endpoint v then connects (policy.wish held.psm) endpoint held v else v) else
    if result == 1 then v else
    closes (Refused result) held v

abbrev pub hears_grant_at : Stage → Policy → (identifier endpoint result : ℕ) → Held → Channels → Channels
hears_grant_at (Requested request) policy identifier endpoint result held v =
    if request.identifier == identifier then hears_connected policy endpoint result held v else v
hears_grant_at (Connected peer setup) policy identifier endpoint result held v = v
hears_grant_at (Leaving peer setup request) policy identifier endpoint result held v = v
hears_grant_at (Closing peer request checked) policy identifier endpoint result held v = v
hears_grant_at (Crossed peer request) policy identifier endpoint result held v = v

abbrev pub hears_grant : Option Held → Policy → (identifier endpoint result : ℕ) → Channels → Channels
hears_grant None policy identifier endpoint result v = v
hears_grant (Some held) policy identifier endpoint result v = hears_grant_at held.stage policy identifier endpoint result held v

-- ---- the options that the host asked for

-- the third time that other options are suggested closes; and a channel whose end the host asked for is not bargained over, so there the
-- first time does (this project's own)
abbrev pub renews : Options → Held → Setup → Channels → Channels
renews options held setup v =
    if is_leaving held.stage || nat_le 3 setup.renewed then closes NoAgreement (with_setup held setup) (to_setup held setup v) else asks_options held setup options v

abbrev pub renewed_setup : Setup → Setup
renewed_setup setup = record setup { renewed = setup.renewed + 1 }

abbrev pub hears_settled : Settled → Held → Setup → Channels → Channels
hears_settled Accepted held setup v = grants held setup v
hears_settled (Again options) held setup v = renews options held (renewed_setup setup) v
hears_settled Wait held setup v = v
hears_settled Never held setup v = closes NoAgreement held v

-- a response with malformed options is none
abbrev pub hears_options : Result Options ConfigRefusal → Policy → (result : ℕ) → Held → Setup → Channels → Channels
hears_options (Ok options) policy result held setup v = hears_settled (settled (policy.wish held.psm) result options) held setup v
hears_options (Err refusal) policy result held setup v = v

abbrev pub is_asked : (identifier : ℕ) → Own → Bool
is_asked identifier Unasked = false
is_asked identifier (Asking request options) = request.identifier == identifier
is_asked identifier Granted = false

abbrev pub hears_response_on : Option Setup → Policy → (identifier result : ℕ) → List ℕ → Held → Channels → Channels
hears_response_on None policy identifier result octets held v = v
hears_response_on (Some setup) policy identifier result octets held v =
    if is_asked identifier setup.own then hears_options (options_read octets) policy result held setup v else v

abbrev pub hears_response : Option Held → Policy → (identifier result : ℕ) → List ℕ → Channels → Channels
hears_response None policy identifier result octets v = v
hears_response (Some held) policy identifier result octets v = hears_response_on (setup_of held.stage) policy identifier result octets held v

-- ---- the end that the host asked for: the response is known by both endpoints

abbrev pub hears_end : Option Held → (peer : ℕ) → Channels → Channels
hears_end None peer v = v
hears_end (Some held) peer v = if is_peer peer held.stage then ends OwnClosed held v else v

-- ---- the features that the host asked for

-- the number in the first four octets
abbrev pub number_at_front : List ℕ → ℕ
number_at_front octets =
    slice_index octets 0 + (256 * slice_index octets 1 + (65536 * slice_index octets 2 + 16777216 * slice_index octets 3))

abbrev pub features_in : (kind result : ℕ) → List ℕ → Option ℕ
features_in kind result octets = if ((kind == 2) && (result == 0)) && nat_le 4 (length octets) then Some (number_at_front octets) else None

abbrev pub has_identifier : ℕ → Option Request → Bool
has_identifier identifier None = false
has_identifier identifier (Some request) = request.identifier == identifier

-- any information response with the identifier answers, and so does a reject
abbrev pub hears_features : (identifier : ℕ) → Option ℕ → Channels → Channels
hears_features identifier features v =
    if has_identifier identifier v.features
    then tells (Features features) (forgets errands.Features (record v { features = None }))
    else v
