-- What follows from each verdict on the peer's options.
use Rattle.std.proofs.Common.{◌≡◌, ℕ, List, ◌++◌, fold, Bool, true, false, ◌&&◌, eqb, Option, Some, None, Ok, refl, sym, ap, subst, ◌∙◌}
use Rattle.std.specs.Prelude.{find, option_map, is_some}
use Rattle.std.specs.Option.{option_or}
use Rattle.talk_laws.specs.l2cap_signal.specs.Commands.{Content, configuration_response}
use Rattle.talk_laws.specs.l2cap_signal.specs.Reading.{Answer as Read}
use Rattle.talk_laws.specs.l2cap_config.specs.declared.options.ModeOption.{ModeOption}
use Rattle.talk_laws.specs.l2cap_config.specs.declared.options.Options.{Options}
use Rattle.talk_laws.specs.l2cap_config.specs.declared.agreement.ConfigAnswer.TheVariants.{Accept}
use Rattle.talk_laws.specs.l2cap_config.specs.declared.wish.Wish.{Wish}
use Rattle.talk_laws.specs.l2cap_config.specs.Items.{joined}
use Rattle.talk_laws.specs.l2cap_config.specs.Reading.{options_read}
use Rattle.talk_laws.specs.l2cap_config.specs.Agreement.{answered as answer_on}
use Rattle.talk_laws.specs.link_talk.specs.Requests.{Terms, has_identifier, last_run, query_terms, answered_query}
use Rattle.talk_laws.specs.link_talk.specs.Meanings.{Part}
use Rattle.talk_laws.specs.link_talk.specs.Setups as read
use Rattle.talk_laws.specs.link_talk.specs.Setups.{is_set, setup_after, Answered}
use Rattle.talk_laws.specs.link_talk.specs.Channels.{Reading, read_on}
use Rattle.channel_model.specs.declared.request_kind.RequestKind.TheVariants as kinds
use Rattle.channel_model.specs.Value.{Own, Unasked, Asking, Granted, Carrier, Setup, Held, Channels}
use Rattle.channel_model.specs.Policies.{Policy}
use Rattle.channel_model.specs.Changing.{has_own, stage_with, to_setup, with_setup, is_open, is_granted}
use Rattle.channel_model.specs.Configuring.{accepted_setup, refuses}
use Rattle.channel_model.specs.Following.{remembers, says}
use Rattle.own_channel_laws.specs.OwnTalk.{command_with, asked_between}
use Rattle.own_channel_laws.specs.Views.{asked_mode, carrier_mode, Agreeing, standing}
use Rattle.channel_model.proofs.Lookups.{found-placed}
use Rattle.own_channel_laws.proofs.Both.{and-left, and-right}
use Rattle.own_channel_laws.proofs.Sound.{Agrees, AgreesIf, standing-is, CarrierIs, IsAgain, RepeatsIn, part_of, Sound}
use Rattle.own_channel_laws.proofs.Agreeing.{answer-agrees, refused-answers, part-answers, whole-answers, carrier-is}
use Rattle.own_channel_laws.proofs.Questions.{heard, exchange, asked-none, IsNew}
use Rattle.own_channel_laws.proofs.Configuring.{Queries, query-new}
use Rattle.own_channel_laws.proofs.Consenting.{Talks, answers-first, repeats-now, remembers-sound, silent_memory, with_memory, spoken-queries}

-- ---- which channels are set up

some_asked : (wish : Wish) (own : Own) → is_granted own ≡ true → is_some (asked_mode wish own) ≡ true
some_asked wish Unasked is = cc
some_asked wish (Asking request options) is = refl
some_asked wish Granted is = refl

some_mapped : (carrier : Option Carrier) → is_some carrier ≡ true → is_some (option_map carrier_mode carrier) ≡ true
some_mapped None is = is
some_mapped (Some carrier) is = refl

both_true : (a b : Bool) → a ≡ true → b ≡ true → (a && b) ≡ true
both_true a b one two = ap (λ t. t && b) one ∙ two

pub asked-set : (wish : Wish) (setup : Setup) (said : read.Setup) → Agrees wish setup said → is_some (asked_mode wish setup.own) ≡ true → is_some setup.carrier ≡ true → is_set said ≡ true
asked-set wish setup said agrees own carrier =
    both_true (is_some said.asked) (is_some said.accepted) (ap is_some agrees.set_up.asked_is ∙ own) (ap is_some agrees.set_up.accepted_is ∙ some_mapped setup.carrier carrier)

pub open-set : (wish : Wish) (setup : Setup) (said : read.Setup) → Agrees wish setup said → is_open setup ≡ true → is_set said ≡ true
open-set wish setup said agrees open' = asked-set wish setup said agrees (some_asked wish setup.own (and-right (is_some setup.carrier) (is_granted setup.own) open')) (and-left (is_some setup.carrier) (is_granted setup.own) open')

-- ---- what all verdicts share

-- the request, and the channel that it is for
pub record Asked (policy : Policy) (r : Reading) (v : Channels) (one : Read) (identifier : ℕ) (held : Held) (peer : ℕ) (setup : Setup) (octets : List ℕ) : Type 0 where
  pub queries : (let terms : Terms = record { own = held.own; options = octets } in Queries one identifier (Some terms))
  pub new : IsNew v.memory.configuration identifier
  pub talks : Talks v held peer setup
  pub sound : Sound policy r v

abbrev pub terms_of : Held → List ℕ → Terms
terms_of held octets = record { own = held.own; options = octets }

abbrev pub answering : (identifier : ℕ) → Content → Channels → Channels
answering identifier content v = says identifier (Some content) (remembers kinds.Configuration identifier (Some content) v)

pub exchange-queries : (policy : Policy) (r : Reading) (v : Channels) (one : Read) (identifier : ℕ) (held : Held) (peer : ℕ) (setup : Setup) (octets : List ℕ) (content : Content) → Asked policy r v one identifier held peer setup octets
    → answered_query (fold read_on r (exchange one identifier (Some content))).requests identifier ≡ Some (terms_of held octets)
exchange-queries policy r v one identifier held peer setup octets content asked =
    ap (λ qs. query_terms (last_run (has_identifier identifier) qs)) (spoken-queries (read_on r (heard one)) (command_with identifier content) ∙ ap (λ (x : Reading). x.requests.queries) (asked.queries r))
    ∙ query-new r identifier (Some (terms_of held octets)) v.held v.memory.configuration asked.sound.kept.queries asked.new

-- what an answer does to what is agreed on, and what it does when it is said again
pub record Fits (policy : Policy) (held : Held) (peer flags answer : ℕ) (octets : List ℕ) (setup after : Setup) : Type 0 where
  pub agrees : (said : read.Setup) → Agrees (policy.wish held.psm) setup said → Agrees (policy.wish held.psm) after (setup_after said (Some (Answered (part_of (terms_of held octets) peer flags answer))))

pub plainly : (policy : Policy) (r : Reading) (v w : Channels) (one : Read) (identifier : ℕ) (held : Held) (peer : ℕ) (setup after : Setup) (octets : List ℕ) (flags answer : ℕ) (given : List ℕ) → Asked policy r v one identifier held peer setup octets
    → Fits policy held peer flags answer octets setup after
    → ((said : read.Setup) → Agrees (policy.wish held.psm) after said → RepeatsIn (Agreeing after) said (part_of (terms_of held octets) peer flags answer))
    → w.held ≡ (to_setup held after v).held → w.next ≡ v.next → w.identifier ≡ v.identifier → w.memory ≡ (answering identifier (configuration_response peer flags answer given) v).memory
    → Sound policy (fold read_on r (exchange one identifier (Some (configuration_response peer flags answer given)) ++ asked_between v w)) w
plainly policy r v w one identifier held peer setup after octets flags answer given asked fits repeats held_is next_is identifier_is memory_is =
    let content : Content = configuration_response peer flags answer given in
    let u : Channels = with_memory (silent_memory identifier v.memory) w in
    let first : Sound policy (fold read_on r (exchange one identifier (Some content))) u =
    answers-first policy r v u one identifier held peer setup after octets flags answer given asked.queries asked.new asked.talks held_is next_is refl fits.agrees asked.sound in
    let here : find (has_own held.own) u.held ≡ Some (with_setup held after) = ap (find (has_own held.own)) held_is ∙ found-placed (with_setup held after) held v.held asked.talks.found in
    let stands : standing (stage_with after held.stage) ≡ Agreeing after = standing-is (stage_with after held.stage) after (asked.talks.setup_with after) in
    let repeated = repeats-now policy (fold read_on r (exchange one identifier (Some content))) u held.own peer flags answer octets (with_setup held after) identifier
    (exchange-queries policy r v one identifier held peer setup octets content asked) here refl (asked.talks.peer_with after)
    (λ said agrees. subst (λ s. RepeatsIn s said (part_of (terms_of held octets) peer flags answer)) (sym stands) (repeats said (subst (λ s. AgreesIf (policy.wish held.psm) s said) stands agrees)))
    first given in
    subst (λ rest. Sound policy (fold read_on r (exchange one identifier (Some content) ++ rest)) w) (sym (asked-none v w identifier_is))
    (remembers-sound policy (fold read_on r (exchange one identifier (Some content))) u w identifier content v.memory refl refl refl memory_is repeated first)

-- ---- an answer that refuses

pub refused-fits : (policy : Policy) (held : Held) (peer answer : ℕ) (octets : List ℕ) (setup after : Setup) → eqb answer 0 ≡ false → after.own ≡ setup.own → after.carrier ≡ setup.carrier → after.parts.mode ≡ None → Fits policy held peer 0 answer octets setup after
refused-fits policy held peer answer octets setup after refuses own carrier none = record {
  agrees = λ said agrees. subst (λ a. let part : Part = record { own = held.own; peer = peer; accepted = a; more = false; options = octets } in Agrees (policy.wish held.psm) after (setup_after said (Some (Answered part)))) (sym refuses)
      (let part : Part = record { own = held.own; peer = peer; accepted = false; more = false; options = octets } in
      answer-agrees (policy.wish held.psm) setup after said part agrees own (subst (CarrierIs (policy.wish held.psm)) (sym carrier) agrees.carrier_is)
      (λ some. ap is_some carrier ∙ some) (λ unset. refused-answers (policy.wish held.psm) setup after said held.own peer false octets agrees carrier none));
}

pub refused-repeats : (held : Held) (peer answer : ℕ) (octets : List ℕ) (after : Setup) (said : read.Setup) → eqb answer 0 ≡ false → after.parts.mode ≡ None → RepeatsIn (Agreeing after) said (part_of (terms_of held octets) peer 0 answer)
refused-repeats held peer answer octets after said refuses none =
    λ unset. subst (λ a. IsAgain a false after.parts.mode octets) (sym refuses) none

-- ---- one part of several

pub or_again : (mode before : Option ModeOption) → option_or mode (option_or mode before) ≡ option_or mode before
or_again None before = refl
or_again (Some mode) before = refl

pub part-fits : (policy : Policy) (held : Held) (peer : ℕ) (octets : List ℕ) (setup : Setup) (more : Options) → options_read octets ≡ Ok more
    → (let after : Setup = record setup { parts = joined setup.parts more } in Fits policy held peer 1 0 octets setup after)
part-fits policy held peer octets setup more is =
    let after : Setup = record setup { parts = joined setup.parts more } in
    record {
      agrees = λ said agrees.
          answer-agrees (policy.wish held.psm) setup after said (part_of (terms_of held octets) peer 1 0) agrees refl agrees.carrier_is (λ some. some)
          (λ unset. part-answers (policy.wish held.psm) setup after said held.own peer octets more agrees unset refl is refl);
    }

-- ---- all options, accepted

pub whole-fits : (policy : Policy) (held : Held) (peer : ℕ) (octets : List ℕ) (setup : Setup) (more given : Options) → options_read octets ≡ Ok more → answer_on (policy.wish held.psm) (joined setup.parts more) ≡ Accept given
    → Fits policy held peer 0 0 octets setup (accepted_setup (policy.wish held.psm) (joined setup.parts more) setup)
whole-fits policy held peer octets setup more given is accepts =
    let wish : Wish = policy.wish held.psm in
    let after : Setup = accepted_setup wish (joined setup.parts more) setup in
    record {
      agrees = λ said agrees.
          answer-agrees wish setup after said (part_of (terms_of held octets) peer 0 0) agrees refl (carrier-is wish (joined setup.parts more)) (λ some. refl)
          (λ unset. whole-answers wish setup after said held.own peer octets more given agrees unset is accepts refl refl);
    }

-- a channel that is set up has its answers for good
pub set-repeats : (wish : Wish) (after : Setup) (said : read.Setup) (part : Part) → is_some (asked_mode wish after.own) ≡ true → is_some after.carrier ≡ true → Agrees wish after said → RepeatsIn (Agreeing after) said part
set-repeats wish after said part own carrier agrees = λ unset. let never : true ≡ false = sym (asked-set wish after said agrees own carrier) ∙ unset in absurd cc
