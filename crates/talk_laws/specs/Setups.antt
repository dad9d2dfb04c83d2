-- How the mode of a channel is agreed on, looking back over all that both sides said of it (Core 5.1, Volume 3 Part A, 4.4,
-- 4.5, 5.4 and 7.1).
use Rattle.std.specs.Prelude.{ℕ, ◌≡◌, ◌&&◌, not, Bool, List, [], ◌∷◌, ◌++◌, Option, Some, None, option_map, option_to_list, unwrap_or, if◌then◌else◌}
use Rattle.std.specs.List.{filter_map, flat_map}
use Rattle.link_talk.specs.capture.specs.Histories.{last_of, given_by}
use Rattle.link_talk.specs.l2cap_config.specs.declared.wish.Mode.{Mode}
use Rattle.link_talk.specs.l2cap_config.specs.declared.wish.Mode.TheVariants.{Basic}
use Rattle.link_talk.specs.declared.channel.Channel.{Channel}
use Rattle.link_talk.specs.Meanings.{Part, Meaning}
use Rattle.link_talk.specs.Setups.{Setup, Term, Wished, Answered, term, mode_in, is_set}
use Rattle.link_talk.specs.Channels.{Birth, since, word, is_gone, setup_of}
use Rattle.talk_laws.specs.Lists.{behind_last}

-- ---- what counts

-- what is said of a channel counts until it is no more
abbrev pub term_while_there : Channel → List Meaning → Meaning → List Term
term_while_there channel past more = if is_gone (filter_map (word channel) past) then [] else option_to_list (term channel more)

abbrev pub terms : Channel → List Meaning → List Term
terms channel meant = given_by (term_while_there channel) meant

abbrev pub wish : Term → Option (List ℕ)
wish (Wished options) = Some options
wish (Answered part) = None

abbrev pub answer : Term → Option Part
answer (Wished options) = None
answer (Answered part) = Some part

-- ---- what the host asks for: the last mode option of its requests, basic mode where none has one

abbrev pub mode_asked : List (List ℕ) → Option Mode
mode_asked [] = None
mode_asked (first ∷ rest) = Some (unwrap_or (last_of (filter_map mode_in (first ∷ rest))) Basic)

-- ---- what the host accepts

-- a part that is accepted, and more follow
abbrev pub goes_on : Part → Bool
goes_on part = part.accepted && part.more

abbrev pub ends_run : Part → Bool
ends_run part = not (goes_on part)

-- the last part of a request, accepted
abbrev pub is_last : Part → Bool
is_last part = part.accepted && not part.more

-- the options of the parts of a request that is not whole yet: those behind the last answer of another kind
abbrev pub parts_so_far : List Part → List ℕ
parts_so_far parts = flat_map (λ (part : Part). part.options) (behind_last ends_run parts)

-- the options of the requests that are accepted whole: those of all their parts
abbrev pub request_with : List Part → Part → List (List ℕ)
request_with past more = if is_last more then (parts_so_far past ++ more.options) ∷ [] else []

abbrev pub requests_accepted : List Part → List (List ℕ)
requests_accepted parts = given_by request_with parts

abbrev pub mode_accepted : List Part → Option Mode
mode_accepted parts = option_map (λ options. unwrap_or (mode_in options) Basic) (last_of (requests_accepted parts))

-- ---- up to the opening

-- all that these terms say
abbrev pub setup_by : List Term → Setup
setup_by said = record { asked = mode_asked (filter_map wish said); parts = parts_so_far (filter_map answer said); accepted = mode_accepted (filter_map answer said) }

-- a term counts where those before it have not opened the channel
abbrev pub term_before_opening : List Term → Term → List Term
term_before_opening past more = if is_set (setup_by past) then [] else more ∷ []

abbrev pub until_opening : List Term → List Term
until_opening said = given_by term_before_opening said

abbrev pub setup_agreed : Channel → List Meaning → Setup
setup_agreed channel meant = setup_by (until_opening (terms channel meant))

-- what one pass holds of a channel is this, for every talk
abbrev pub SetupsLookBack : Type 0
SetupsLookBack = (meant : List Meaning) (birth : Birth) → setup_of meant birth ≡ setup_agreed birth.channel (since meant birth)
