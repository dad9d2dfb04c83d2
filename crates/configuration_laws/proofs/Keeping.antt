-- What is kept between a host that asks for options and its peer.
use Rattle.std.proofs.Common.{◌≡◌, ◌<◌, ◌≤◌, arith, ℕ, List, [], ◌∷◌, ◌++◌, drop, ◌%◌, Bool, true, false, cond, eqb, Option, Some, None, Result, Ok, Err, refl, sym, ap, subst, ◌∙◌, ◌⊎◌, inl, inr}
use Rattle.std.specs.Prelude.{is_some, option_map}
use Rattle.std.proofs.lemmas.Bool.{eqb-true}
use Rattle.channel_laws.specs.acl_fragments.specs.Pieces.{channel_of}
use Rattle.channel_laws.specs.l2cap_signal.specs.Commands.{Command}
use Rattle.channel_laws.specs.l2cap_signal.specs.Reading.{answers}
use Rattle.channel_laws.specs.l2cap_config.specs.declared.agreement.ConfigAnswer.{ConfigAnswer}
use Rattle.channel_laws.specs.l2cap_config.specs.declared.agreement.ConfigAnswer.TheVariants.{Accept, Unacceptable, Unknown}
use Rattle.channel_laws.specs.l2cap_config.specs.declared.options.ConfigRefusal.{ConfigRefusal}
use Rattle.channel_laws.specs.l2cap_config.specs.declared.options.Options.{Options}
use Rattle.channel_laws.specs.l2cap_config.specs.declared.wish.Wish.{Wish}
use Rattle.channel_laws.specs.l2cap_config.specs.Agreement.{answered}
use Rattle.channel_laws.specs.l2cap_config.specs.Items.{joined}
use Rattle.channel_laws.specs.l2cap_config.specs.Reading.{options_read}
use Rattle.channel_laws.specs.l2cap_config.specs.declared.wish.Mode.{Mode}
use Rattle.channel_laws.specs.capture.specs.declared.flow.Flow.TheVariants.{Out}
use Rattle.channel_laws.specs.link_talk.specs.declared.channel.Channel.{Channel}
use Rattle.channel_laws.specs.link_talk.specs.Channels.{Reading, reading}
use Rattle.channel_laws.specs.link_talk.specs.Sayings.{Saying}
use Rattle.channel_laws.specs.channel_model.specs.declared.errand.Errand.TheVariants as errands
use Rattle.channel_laws.specs.channel_model.specs.Answers.{judged_answer, configuration_answer}
use Rattle.channel_laws.specs.channel_model.specs.Changing.{held_at, setup_of, is_peer, is_open}
use Rattle.channel_laws.specs.channel_model.specs.Configuring.{TooLate, judged_part, judged_read, judged_setup, judged_stage, verdict_on}
use Rattle.channel_laws.specs.channel_model.specs.Hearing.{hears_command}
use Rattle.channel_laws.specs.channel_model.specs.Policies.{Policy}
use Rattle.channel_laws.specs.channel_model.specs.Value.{Request, Carrier, Setup, Stage, Requested, Connected, Leaving, Closing, Crossed, Held, Remembered, Channels}
use Rattle.channel_laws.specs.channel_model.proofs.Lookups.{own_of, eqb-same, found-has}
use Rattle.channel_laws.specs.Adverse.{responds_with}
use Rattle.channel_laws.specs.Belonging.{HasAsked}
use Rattle.channel_laws.specs.Granted.{IsFor}
use Rattle.channel_laws.specs.Responding.{HasPeer, Recalls}
use Rattle.channel_laws.specs.Signals.{StandsIn}
use Rattle.channel_laws.specs.Views.{carrier_mode, read_at}
use Rattle.channel_laws.proofs.Assents.{Took, took-more}
use Rattle.channel_laws.proofs.Demanding.{asked_on}
use Rattle.channel_laws.proofs.Entries.{read-own}
use Rattle.channel_laws.proofs.Holding.{is-read}
use Rattle.channel_laws.proofs.Origins.{answered-asked}
use Rattle.channel_laws.proofs.Saying.{stands-left, stands-either}
use Rattle.channel_laws.proofs.Sound.{Wants, WantsAt, wanted_by, Sound}
use Rattle.configuration_laws.proofs.Hearing.{answer_now, answered_so, Heard, Quiet, Other, Again, Anew, heard}
use Rattle.configuration_laws.proofs.Concluding.{IsConclusive, Concluded, hears-concluded}
use Rattle.configuration_laws.proofs.Going.{Cause, Accepts, Makes, Renews, Goes}
use Rattle.configuration_laws.proofs.Asking.{IsWish, Brings, HaveNames, AsksOn, goes-on, goes-names, Good, good-on}

-- ---- the answer to a request for the options of a channel that is there

setup_recalls : (own peer destination flags : ℕ) (wish : Wish) (setup : Setup) (octets : List ℕ) → eqb own peer ≡ true → responds_with (errands.Configuration own) (configuration_answer (judged_setup peer flags wish setup octets) destination) ≡ true
setup_recalls own peer destination flags wish setup octets is = by (is_open setup) (options_read octets)
  where
    same : eqb peer own ≡ true
    same = ap (λ n. eqb n own) (sym (eqb-true own peer is)) ∙ eqb-same own

    judged : (answer : ConfigAnswer) (options : Options) → responds_with (errands.Configuration own) (judged_answer answer peer options) ≡ true
    judged (Accept given) options = same
    judged (Unacceptable refusal given) options = same
    judged Unknown options = same

    part : (more : Bool) (options : Options) → responds_with (errands.Configuration own) (configuration_answer (judged_part more peer wish options) destination) ≡ true
    part true options = same
    part false options = judged (answered wish options) options

    by : (opened : Bool) (found : Result Options ConfigRefusal) → responds_with (errands.Configuration own) (configuration_answer (cond opened (TooLate peer) (judged_read peer flags wish setup found)) destination) ≡ true
    by true found = same
    by false (Ok options) = part (eqb (flags % 2) 1) (joined setup.parts options)
    by false (Err refusal) = same

recalls_fresh : (found : Option Held) (policy : Policy) (own destination flags : ℕ) (octets : List ℕ) → HasPeer own found → Recalls (errands.Configuration own) (Some (configuration_answer (verdict_on found policy flags octets) destination))
recalls_fresh None policy own destination flags octets has = elim has [ ]
recalls_fresh (Some held) policy own destination flags octets has = by held.stage has
  where
    same : (peer : ℕ) → eqb own peer ≡ true → eqb peer own ≡ true
    same peer is = ap (λ n. eqb n own) (sym (eqb-true own peer is)) ∙ eqb-same own

    by : (stage : Stage) → is_peer own stage ≡ true → Recalls (errands.Configuration own) (Some (configuration_answer (judged_stage stage (policy.wish held.psm) flags octets) destination))
    by (Requested request) is = cc
    by (Connected peer setup) is = setup_recalls own peer destination flags (policy.wish held.psm) setup octets is
    by (Leaving peer setup request) is = setup_recalls own peer destination flags (policy.wish held.psm) setup octets is
    by (Closing peer request checked) is = same peer is
    by (Crossed peer request) is = same peer is

-- ---- why options are asked for

-- the host accepted options of the channel, or had asked for it
abbrev pub IsBehind : (own : ℕ) → List Saying → Type 0
IsBehind own said = ((channel : Channel) × (channel.own ≡ own) × Took channel said) ⊎ ((identifier : ℕ) × (psm : ℕ) × HasAsked identifier psm own said)

behind_more : (own : ℕ) (said more : List Saying) → IsBehind own said → IsBehind own (said ++ more)
behind_more own said more (inl (channel, own_is, took)) = inl (channel, own_is, took-more channel said more took)
behind_more own said more (inr (identifier, psm, asked)) = inr (identifier, psm, stands-left _ said more asked)

some_mode : (carrier : Option Carrier) → is_some (option_map carrier_mode carrier) ≡ is_some carrier
some_mode None = refl
some_mode (Some carrier) = refl

-- options that are held as accepted are read so
takes_options : (policy : Policy) (said : List Saying) (v : Channels) (own : ℕ) (held : Held) (setup : Setup) → Sound policy (reading said) v → held_at own v ≡ Some held → setup_of held.stage ≡ Some setup → is_some setup.carrier ≡ true → IsBehind own said
takes_options policy said v own held setup sound found has carries =
    let r = is-read policy said v own held setup found has sound in
    inl (
      r.entry.channel,
      read-own own (reading said).entries r.entry r.found,
      record {
        entry = r.entry;
        found = ap (λ n. read_at n (reading said).entries) (read-own own (reading said).entries r.entry r.found) ∙ r.found;
        channel_is = refl;
        accepted = ap (λ (m : Option Mode). is_some m) r.agrees.set_up.accepted_is ∙ (some_mode setup.carrier ∙ carries);
      },
    )

-- a channel that is only asked for was asked for
called : (policy : Policy) (said : List Saying) (v : Channels) (own : ℕ) (held : Held) (request : Request) → Sound policy (reading said) v → held_at own v ≡ Some held → held.stage ≡ Requested request → IsBehind own said
called policy said v own held request sound found is =
    let want : WantsAt (reading said).requests held held.stage = subst (Wants (reading said).requests) found (sound.kept.wants own) in
    let awaits = subst (WantsAt (reading said).requests held) is want in
    inr (request.identifier, held.psm, subst (λ n. HasAsked request.identifier held.psm n said) (found-has own_of own v.held held found) (answered-asked said Out request.identifier held.own (wanted_by held.psm held.own) awaits.0))

behind_on : (policy : Policy) (said more : List Saying) (v w : Channels) (own : ℕ) → Goes v w → Sound policy (reading said) v → Sound policy (reading (said ++ more)) w → ((n : ℕ) → asked_on (held_at own v) ≡ Some (Some n) → IsBehind own said)
    → (n : ℕ) → asked_on (held_at own w) ≡ Some (Some n) → IsBehind own (said ++ more)
behind_on policy said more v w own (inl less) sound after before n is = behind_more own said more (before n (less own n is))
behind_on policy said more v w own (inr (asked, new)) sound after before n is = by (new.others own n is)
  where
    caused : Cause own v w → IsBehind own (said ++ more)
    caused (Accepts held setup found has carries) = takes_options policy (said ++ more) w own held setup after found has carries
    caused (Makes held request found stage_is) = behind_more own said more (called policy said v own held request sound found stage_is)
    caused (Renews m waits) = behind_more own said more (before m waits)

    by : (asked_on (held_at own v) ≡ Some (Some n)) ⊎ ((own ≡ asked) × (n ≡ v.identifier)) → IsBehind own (said ++ more)
    by (inl was) = behind_more own said more (before n was)
    by (inr (it, now)) = caused (subst (λ m. Cause m v w) (sym it) new.cause)

-- ---- both hosts, and what is under way to each

abbrev pub IsPlain : List ℕ → Type 0
IsPlain pdu = eqb (channel_of pdu) 0x0001 ≡ true → (command : Command) × (answers (drop 4 pdu) ≡ Ok command ∷ [])

-- Each PDU that is under way is one command, and each request for options to the peer is a good one. What the peer answers concludes, and so do the responses
-- that are under way. What it remembers of options has an identifier that was given before, and where a request with it waits, it is a response to that.
pub record Inv (own : ℕ) (said : List Saying) (v u : Channels) (to_peer to_host : List (List ℕ)) : Type 0 where
  pub plain : (pdu : List ℕ) → StandsIn pdu to_peer → IsPlain pdu
  pub told : (pdu : List ℕ) → StandsIn pdu to_host → IsPlain pdu
  pub good : (pdu : List ℕ) → StandsIn pdu to_peer → (command : Command) → Brings pdu command → IsWish command → Good own said v command
  pub concluded : Concluded u
  pub responses : (pdu : List ℕ) → StandsIn pdu to_host → (command : Command) → Brings pdu command → IsConclusive command.content
  pub below : (last : Remembered) → u.memory.configuration ≡ Some last → last.identifier < v.identifier
  pub kept : (last : Remembered) → u.memory.configuration ≡ Some last → asked_on (held_at own v) ≡ Some (Some last.identifier) → Recalls (errands.Configuration own) last.response
  pub names : HaveNames v
  pub behind : (n : ℕ) → asked_on (held_at own v) ≡ Some (Some n) → IsBehind own said

-- the host that asks goes on
pub owner-on : (policy : Policy) (own : ℕ) (said more : List Saying) (v w u : Channels) (to_peer to_host : List (List ℕ)) → Goes v w → v.identifier ≤ w.identifier → Sound policy (reading said) v → Sound policy (reading (said ++ more)) w
    → Inv own said v u to_peer to_host → Inv own (said ++ more) w u to_peer to_host
owner-on policy own said more v w u to_peer to_host goes rises sound after inv = record {
  plain = inv.plain;
  told = inv.told;
  good = λ pdu stands command brings wish. good-on own said more v w command on (inv.good pdu stands command brings wish);
  concluded = inv.concluded;
  responses = inv.responses;
  below = λ last at. let under = inv.below last at in omega (arith, rises, under);
  kept = λ last at asked. by last at (on.anew own last.identifier asked);
  names = goes-names v w goes rises inv.names;
  behind = behind_on policy said more v w own goes sound after inv.behind;
}
  where
    on : AsksOn v w
    on = goes-on v w goes rises

    by : (last : Remembered) → u.memory.configuration ≡ Some last → (asked_on (held_at own v) ≡ Some (Some last.identifier)) ⊎ (v.identifier ≤ last.identifier) → Recalls (errands.Configuration own) last.response
    by last at (inl was) = inv.kept last at was
    by last at (inr high) = let under = inv.below last at in absurd (omega (arith, high, under))

-- one PDU more
pub one-more : (P : List ℕ → Type 0) (list : List (List ℕ)) (pdu : List ℕ) → P pdu → ((other : List ℕ) → StandsIn other list → P other) → (other : List ℕ) → StandsIn other (list ++ pdu ∷ []) → P other
one-more P list pdu now all other stands = by (stands-either other list (pdu ∷ []) stands)
  where
    by : StandsIn other list ⊎ StandsIn other (pdu ∷ []) → P other
    by (inl old) = all other old
    by (inr (inl same)) = subst P same now
    by (inr (inr none)) = elim none [ ]

-- it gives a PDU
pub more-asked : (own : ℕ) (said : List Saying) (v u : Channels) (to_peer to_host : List (List ℕ)) (pdu : List ℕ) → IsPlain pdu → ((command : Command) → Brings pdu command → IsWish command → Good own said v command)
    → Inv own said v u to_peer to_host → Inv own said v u (to_peer ++ pdu ∷ []) to_host
more-asked own said v u to_peer to_host pdu plain good inv = record {
  plain = one-more IsPlain to_peer pdu plain inv.plain;
  told = inv.told;
  good = one-more (λ p. (command : Command) → Brings p command → IsWish command → Good own said v command) to_peer pdu good inv.good;
  concluded = inv.concluded;
  responses = inv.responses;
  below = inv.below;
  kept = inv.kept;
  names = inv.names;
  behind = inv.behind;
}

-- its peer gives one
pub more-responses : (own : ℕ) (said : List Saying) (v u : Channels) (to_peer to_host : List (List ℕ)) (pdu : List ℕ) → IsPlain pdu → ((command : Command) → Brings pdu command → IsConclusive command.content)
    → Inv own said v u to_peer to_host → Inv own said v u to_peer (to_host ++ pdu ∷ [])
more-responses own said v u to_peer to_host pdu plain concludes inv = record {
  plain = inv.plain;
  told = one-more IsPlain to_host pdu plain inv.told;
  good = inv.good;
  concluded = inv.concluded;
  responses = one-more (λ p. (command : Command) → Brings p command → IsConclusive command.content) to_host pdu concludes inv.responses;
  below = inv.below;
  kept = inv.kept;
  names = inv.names;
  behind = inv.behind;
}

-- less is under way
pub fewer-come : (own : ℕ) (said : List Saying) (v u : Channels) (to_peer to_host left rest : List (List ℕ)) → ((pdu : List ℕ) → StandsIn pdu left → StandsIn pdu to_peer) → ((pdu : List ℕ) → StandsIn pdu rest → StandsIn pdu to_host) → Inv own said v u to_peer to_host
    → Inv own said v u left rest
fewer-come own said v u to_peer to_host left rest fewer less inv = record {
  plain = λ pdu stands. inv.plain pdu (fewer pdu stands);
  told = λ pdu stands. inv.told pdu (less pdu stands);
  good = λ pdu stands. inv.good pdu (fewer pdu stands);
  concluded = inv.concluded;
  responses = λ pdu stands. inv.responses pdu (less pdu stands);
  below = inv.below;
  kept = inv.kept;
  names = inv.names;
  behind = inv.behind;
}

-- the peer goes on, and remembers nothing new of options
pub peer-on : (own : ℕ) (said : List Saying) (v u w : Channels) (to_peer to_host : List (List ℕ)) → w.memory.configuration ≡ u.memory.configuration → Concluded w → Inv own said v u to_peer to_host → Inv own said v w to_peer to_host
peer-on own said v u w to_peer to_host same concluded inv = record {
  plain = inv.plain;
  told = inv.told;
  good = inv.good;
  concluded = concluded;
  responses = inv.responses;
  below = λ last at. inv.below last (sym same ∙ at);
  kept = λ last at. inv.kept last (sym same ∙ at);
  names = inv.names;
  behind = inv.behind;
}

-- the peer has the channel of which options are asked for
abbrev pub HasIt : (own : ℕ) → List Saying → (v u : Channels) → Type 0
HasIt own said v u = (n destination : ℕ) → asked_on (held_at own v) ≡ Some (Some n) → IsFor destination (read_at own (reading said).entries) → HasPeer own (held_at destination u)

-- a command comes in to it
pub hears-on : (policy : Policy) (r : Reading) (own : ℕ) (said : List Saying) (v u : Channels) (to_peer to_host : List (List ℕ)) (command : Command) → Sound policy r u → (IsWish command → Good own said v command) → HasIt own said v u → Inv own said v u to_peer to_host
    → Inv own said v (hears_command policy (Ok command) u) to_peer to_host
hears-on policy r own said v u to_peer to_host command sound good has inv = by (heard policy r u sound command.identifier command.content)
  where
    w : Channels
    w = hears_command policy (Ok command) u

    concluded : Concluded w
    concluded = hears-concluded policy r u sound command (λ destination flags options is. (good (destination, flags, options, is)).read destination flags options is) inv.concluded

    by : Heard policy u w command.identifier command.content → Inv own said v w to_peer to_host
    by (Quiet same queue) = peer-on own said v u w to_peer to_host same concluded inv
    by (Other same answer none queue) = peer-on own said v u w to_peer to_host same concluded inv
    by (Again same last at answer is queue) = peer-on own said v u w to_peer to_host same concluded inv
    by (Anew destination flags options asks memory queue) = record {
      plain = inv.plain;
      told = inv.told;
      good = inv.good;
      concluded = concluded;
      responses = inv.responses;
      below = λ last at. let named = ap (λ (l : Remembered). l.identifier) (it_is last at) in let under = it.below in omega (arith, named, under);
      kept = λ last at asked.
          let now_asked = subst (λ n. asked_on (held_at own v) ≡ Some (Some n)) (sym (ap (λ (l : Remembered). l.identifier) (it_is last at))) asked in
          let there : HasPeer own (held_at destination u) = has command.identifier destination now_asked (it.same now_asked destination flags options asks) in
          subst (λ (l : Remembered). Recalls (errands.Configuration own) l.response) (it_is last at) (recalls_fresh (held_at destination u) policy own destination flags options there);
      names = inv.names;
      behind = inv.behind;
    }
      where
        it : Good own said v command
        it = good (destination, flags, options, asks)

        now : Remembered
        now = answered_so command.identifier (answer_now policy destination flags options u)

        it_is : (last : Remembered) → w.memory.configuration ≡ Some last → now ≡ last
        it_is last at = let both : Some now ≡ Some last = sym memory ∙ at in cc
