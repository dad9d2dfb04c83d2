-- The mode that a host accepts of a channel is the one that its peer wishes.
use Rattle.std.proofs.Common.{◌≡◌, ℕ, List, [], ◌++◌, Bool, true, false, cond, Option, Some, None, Ok, refl, sym, ap, subst, ◌∙◌, ◌⊎◌, inl, inr}
use Rattle.std.specs.Prelude.{option_map, unwrap_or, is_some}
use Rattle.std.specs.Option.{option_or}
use Rattle.own_channel_laws.specs.talk_laws.specs.l2cap_config.specs.declared.options.ModeOption.{ModeOption}
use Rattle.own_channel_laws.specs.talk_laws.specs.l2cap_config.specs.declared.options.Options.{Options}
use Rattle.own_channel_laws.specs.talk_laws.specs.l2cap_config.specs.declared.wish.Mode.{Mode}
use Rattle.own_channel_laws.specs.talk_laws.specs.l2cap_config.specs.declared.wish.Mode.TheVariants.{Basic, Enhanced}
use Rattle.own_channel_laws.specs.talk_laws.specs.l2cap_config.specs.declared.wish.Wish.{Wish}
use Rattle.own_channel_laws.specs.talk_laws.specs.l2cap_config.specs.Agreement.{requested}
use Rattle.own_channel_laws.specs.talk_laws.specs.l2cap_config.specs.Items.{options_in}
use Rattle.own_channel_laws.specs.talk_laws.specs.l2cap_config.specs.Reading.{items_of, items_within, options_read}
use Rattle.own_channel_laws.specs.talk_laws.specs.l2cap_config.specs.Writing.{items_for, written}
use Rattle.own_channel_laws.specs.talk_laws.specs.link_talk.specs.declared.channel.Channel.{Channel}
use Rattle.own_channel_laws.specs.talk_laws.specs.link_talk.specs.Sayings.{Saying}
use Rattle.own_channel_laws.specs.talk_laws.specs.link_talk.specs.Meanings.{Part}
use Rattle.own_channel_laws.specs.talk_laws.specs.link_talk.specs.Setups.{Setup, mode_numbered, mode_stated, mode_in, with_answer}
use Rattle.own_channel_laws.specs.talk_laws.specs.link_talk.specs.Channels.{Entry, reading}
use Rattle.own_channel_laws.specs.channel_model.specs.Policies.{Policy}
use Rattle.own_channel_laws.specs.Views.{read_at}
use Rattle.own_channel_laws.specs.Endpoints.{IsOf}
use Rattle.channel_laws.specs.Pairs.{Side, Near, Far, turned, Turn, pair_of, IsRunOf}
use Rattle.channel_laws.specs.Belonging.{AreRead, said_at}
use Rattle.channel_laws.specs.Common.{mirrored}
use Rattle.own_channel_laws.specs.Runs.{Run}
use Rattle.channel_laws.specs.Modes.{policy_of, ModesAreWished, ModesAreCommon}
use Rattle.own_channel_laws.proofs.Sound.{PartsAre, states_mode}
use Rattle.own_channel_laws.proofs.Agreeing.{parts-more, requested-states}
use Rattle.own_channel_laws.proofs.Granting.{no_parts}
use Rattle.channel_laws.proofs.Belonging.{IsWished, wishes-wished}
use Rattle.own_channel_laws.proofs.Petitions.{IsAskedOf, asked-before, Survives, all-survive}
use Rattle.channel_laws.proofs.Sharing.{psms-same, channels-are_common}
use Rattle.channel_laws.proofs.Pairing.{each-end_runs}
use Rattle.channel_laws.proofs.OwnModes.{modes-are_own}

-- ---- what requests state

abbrev numbered : Option ModeOption → Option Mode
numbered mode = option_map (λ (one : ModeOption). mode_numbered one.mode) mode

-- whole options that ask for the mode
record States (mode : Mode) (octets : List ℕ) : Type 0 where
  stated : Options
  read_is : options_read octets ≡ Ok stated
  mode_is : numbered stated.mode ≡ states_mode mode

pub requested-read : (wish : Wish) (suggested : Options) (mode : Mode) → wish.mode ≡ mode → options_read (written (requested wish suggested)) ≡ Ok (options_in (items_for (requested wish suggested)))
unfolding items_of items_within
requested-read wish suggested Basic is = rw is refl
requested-read wish suggested Enhanced is = rw is refl

requested_states : (wish : Wish) (suggested : Options) → States wish.mode (written (requested wish suggested))
requested_states wish suggested =
    let read : options_read (written (requested wish suggested)) ≡ Ok (options_in (items_for (requested wish suggested))) = requested-read wish suggested wish.mode refl in
    record { stated = options_in (items_for (requested wish suggested)); read_is = read; mode_is = sym (ap mode_stated read) ∙ requested-states wish suggested wish.mode refl }

-- all that were heard of a channel
abbrev AllState : (mode : Mode) (own : ℕ) → List Saying → Type 0
AllState mode own said = (options : List ℕ) → IsAskedOf own options said → States mode options

-- ---- what is accepted of them

-- parts so far, of requests for the mode
record PartsState (mode : Mode) (parts : List ℕ) : Type 0 where
  found : Option ModeOption
  are : PartsAre found parts
  is : (numbered found ≡ None) ⊎ (numbered found ≡ states_mode mode)

record Accepts (mode : Mode) (setup : Setup) : Type 0 where
  accepted : (one : Mode) → setup.accepted ≡ Some one → mode ≡ one
  parts : PartsState mode setup.parts

no_parts_state : (mode : Mode) → PartsState mode []
no_parts_state mode = record { found = None; are = no_parts; is = inl refl }

joined_mode : (mode : Mode) (new old : Option ModeOption) → numbered new ≡ states_mode mode → (numbered old ≡ None) ⊎ (numbered old ≡ states_mode mode) → numbered (option_or new old) ≡ states_mode mode
joined_mode mode (Some new) old is was = is
joined_mode Basic None old is (inl none) = none
joined_mode Basic None old is (inr same) = same
joined_mode Enhanced None old is was = cc

unwrapped : (mode : Mode) → unwrap_or (states_mode mode) Basic ≡ mode
unwrapped Basic = refl
unwrapped Enhanced = refl

some_mode : (a b : Mode) → Some a ≡ Some b → a ≡ b
some_mode a b is = cc

parts_state : (mode : Mode) (parts options : List ℕ) → PartsState mode parts → States mode options → PartsState mode (parts ++ options)
parts_state mode parts options before new = record {
  found = option_or new.stated.mode before.found;
  are = parts-more before.found parts options new.stated before.are new.read_is;
  is = inr (joined_mode mode new.stated.mode before.found new.mode_is before.is);
}

whole_mode : (mode : Mode) (parts options : List ℕ) → PartsState mode parts → States mode options → mode_in (parts ++ options) ≡ states_mode mode
whole_mode mode parts options before new =
    let all : PartsAre (option_or new.stated.mode before.found) (parts ++ options) = parts-more before.found parts options new.stated before.are new.read_is in
    ap mode_stated all.read_is ∙ (ap numbered all.mode_is ∙ joined_mode mode new.stated.mode before.found new.mode_is before.is)

answer_accepts : (mode : Mode) (setup : Setup) (part : Part) → States mode part.options → Accepts mode setup → Accepts mode (with_answer setup part)
answer_accepts mode setup part new before = by part.accepted part.more
  where
    by : (accepted more : Bool)
        → Accepts mode (cond accepted (cond more (record setup { parts = setup.parts ++ part.options }) (record setup { parts = []; accepted = Some (unwrap_or (mode_in (setup.parts ++ part.options)) Basic) })) (record setup { parts = [] }))
    by false more = record { accepted = before.accepted; parts = no_parts_state mode }
    by true true = record { accepted = before.accepted; parts = parts_state mode setup.parts part.options before.parts new }
    by true false = record {
      accepted = λ one is. sym (unwrapped mode) ∙ (ap (λ m. unwrap_or m Basic) (sym (whole_mode mode setup.parts part.options before.parts new)) ∙ some_mode (unwrap_or (mode_in (setup.parts ++ part.options)) Basic) one is);
      parts = no_parts_state mode;
    }

abbrev AcceptsStated : (mode : Mode) → List Saying → (own : ℕ) → Setup → Type 0
AcceptsStated mode said own setup = AllState mode own said → Accepts mode setup

accepts_survive : (mode : Mode) → Survives (AcceptsStated mode)
accepts_survive mode = record {
  older = λ own past s setup holds all. holds (λ options asked. all options (asked-before own options past s asked));
  first = λ said own all. record { accepted = λ one is. cc; parts = no_parts_state mode };
  wished = λ said own setup options holds all. let before : Accepts mode setup = holds all in record { accepted = before.accepted; parts = before.parts };
  answered = λ said own setup part asked holds all. answer_accepts mode setup part (all part.options asked) (holds all);
}

-- ---- two ends

-- a request for options that was heard of a channel asks for what the other end wishes of it
pub asked-wished : (near far : Policy) (turns : List Turn) → AreRead near far turns → (side : Side) (own : ℕ) (entry : Entry) → read_at own (reading (said_at side (pair_of near far turns))).entries ≡ Some entry
    → (options : List ℕ) → IsAskedOf own options (said_at side (pair_of near far turns)) → (suggested : Options) × (options ≡ written (requested ((policy_of side far near).wish entry.channel.psm) suggested))
asked-wished near far turns read side own entry found options (identifier, flags, stands) =
    (wished.suggested, wished.octets_are ∙ ap (λ psm. written (requested ((policy_of side far near).wish psm) wished.suggested)) (by (read_at wished.own (reading (said_at side (turned (pair_of near far turns)))).entries) refl wished.has))
  where
    wished : IsWished (policy_of side far near) (said_at side (turned (pair_of near far turns))) own flags options
    wished = wishes-wished near far turns read side identifier own flags options stands

    by : (x : Option Entry) → read_at wished.own (reading (said_at side (turned (pair_of near far turns)))).entries ≡ x → IsOf wished.channel x → wished.channel.psm ≡ entry.channel.psm
    by None at has = elim has [ ]
    by (Some x) at has = ap (λ (c : Channel). c.psm) (sym has) ∙ psms-same near far turns read side own wished.own entry x found at (ap (λ (c : Channel). c.peer) has ∙ wished.peer_is)

pub modes-are_wished : ModesAreWished
modes-are_wished near far turns read side own entry mode found accepted = accepts.accepted mode accepted
  where
    wish : Wish
    wish = (policy_of side far near).wish entry.channel.psm

    all : AllState wish.mode own (said_at side (pair_of near far turns))
    all options asked = let (suggested, same) = asked-wished near far turns read side own entry found options asked in subst (States wish.mode) (sym same) (requested_states wish suggested)

    accepts : Accepts wish.mode entry.setup
    accepts = all-survive (AcceptsStated wish.mode) (accepts_survive wish.mode) (said_at side (pair_of near far turns)) own entry found all

-- ---- the own mode

own_of_run : (policy : Policy) (run : Run) (own : ℕ) (entry : Entry) (mode : Mode) → IsRunOf policy run → read_at own (reading run.said).entries ≡ Some entry → entry.setup.accepted ≡ Some mode → (policy.wish entry.channel.psm).mode ≡ mode
own_of_run policy run own entry mode (list, is) found accepted = modes-are_own policy list own entry mode (subst (λ (r : Run). read_at own (reading r.said).entries ≡ Some entry) is found) accepted

-- at either end
own_at : (near far : Policy) (turns : List Turn) (side : Side) (own : ℕ) (entry : Entry) (mode : Mode) → read_at own (reading (said_at side (pair_of near far turns))).entries ≡ Some entry → entry.setup.accepted ≡ Some mode
    → ((policy_of side near far).wish entry.channel.psm).mode ≡ mode
own_at near far turns Near own entry mode found accepted = own_of_run near (pair_of near far turns).near.run own entry mode (each-end_runs near far turns).0 found accepted
own_at near far turns Far own entry mode found accepted = own_of_run far (pair_of near far turns).far.run own entry mode (each-end_runs near far turns).1 found accepted

-- what the other end accepted this one wishes
wished_here : (near far : Policy) (turns : List Turn) → AreRead near far turns → (side : Side) (own : ℕ) (entry : Entry) (mode : Mode) → read_at own (reading (said_at side (turned (pair_of near far turns)))).entries ≡ Some entry → entry.setup.accepted ≡ Some mode
    → ((policy_of side near far).wish entry.channel.psm).mode ≡ mode
wished_here near far turns read Near own entry mode found accepted = modes-are_wished near far turns read Far own entry mode found accepted
wished_here near far turns read Far own entry mode found accepted = modes-are_wished near far turns read Near own entry mode found accepted

pub modes-are_common : ModesAreCommon
modes-are_common near far turns read side own one other mode again found also accepted answered =
    sym (own_at near far turns side own one mode found accepted)
    ∙ (ap (λ psm. ((policy_of side near far).wish psm).mode) (sym same) ∙ wished_here near far turns read side one.channel.peer other again also answered)
  where
    common : IsOf (mirrored one.channel) (Some other)
    common = subst (IsOf (mirrored one.channel)) also (channels-are_common near far turns read side own one found (ap (λ (m : Option Mode). is_some m) accepted))

    same : other.channel.psm ≡ one.channel.psm
    same = ap (λ (c : Channel). c.psm) common
