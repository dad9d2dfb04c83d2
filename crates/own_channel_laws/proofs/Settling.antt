-- The peer responds to a request for options, or for an end.
use Rattle.std.proofs.Common.{◌≡◌, ℕ, List, [], ◌∷◌, fold, Bool, true, false, cond, ◌&&◌, eqb, Option, Some, None, Result, Ok, Err, refl, sym, ap, subst, ◌∙◌, ◌||◌}
use Rattle.std.specs.Prelude.{find, option_map, nat_le}
use Rattle.std.proofs.lemmas.Bool.{eqb-true}
use Rattle.talk_laws.specs.capture.specs.declared.flow.Flow.TheVariants.{Into}
use Rattle.talk_laws.specs.l2cap_signal.specs.Commands.{Command, configuration_request}
use Rattle.talk_laws.specs.l2cap_config.specs.declared.options.Options.{Options}
use Rattle.talk_laws.specs.l2cap_config.specs.declared.options.ConfigRefusal.{ConfigRefusal}
use Rattle.talk_laws.specs.l2cap_config.specs.declared.agreement.Settled.{Settled}
use Rattle.talk_laws.specs.l2cap_config.specs.declared.agreement.Settled.TheVariants.{Accepted, Again, Wait, Never}
use Rattle.talk_laws.specs.l2cap_config.specs.declared.wish.Wish.{Wish}
use Rattle.talk_laws.specs.l2cap_config.specs.Reading.{options_read}
use Rattle.talk_laws.specs.l2cap_config.specs.Agreement.{settled, requested, keeps_mode}
use Rattle.talk_laws.specs.l2cap_config.specs.Writing.{written}
use Rattle.talk_laws.specs.link_talk.specs.declared.life.Life.{Life}
use Rattle.talk_laws.specs.link_talk.specs.declared.life.Life.TheVariants as lives
use Rattle.talk_laws.specs.link_talk.specs.declared.word.Word.{Word}
use Rattle.talk_laws.specs.link_talk.specs.declared.word.Word.TheVariants.{EndAnswered}
use Rattle.talk_laws.specs.link_talk.specs.Sayings.{Saying}
use Rattle.talk_laws.specs.link_talk.specs.Senses.{Ends, Opens, OnOptions, sense}
use Rattle.talk_laws.specs.link_talk.specs.Requests.{requests_after}
use Rattle.talk_laws.specs.link_talk.specs.Meanings.{Parts, meant}
use Rattle.talk_laws.specs.link_talk.specs.Setups.{setup_after}
use Rattle.talk_laws.specs.link_talk.specs.Channels.{life_after, is_there, Entry, entry_after, entries_after, Reading, read_on}
use Rattle.channel_model.specs.declared.errand.Errand.TheVariants.{Configuration}
use Rattle.channel_model.specs.declared.event.CloseReason.TheVariants.{NoAgreement, OwnClosed}
use Rattle.channel_model.specs.Value.{Asking, Setup, Stage, Requested, Connected, Leaving, Closing, Crossed, Held, Channels}
use Rattle.channel_model.specs.Policies.{Policy}
use Rattle.channel_model.specs.Changing.{has_own, held_at, is_peer, setup_of, to_setup, stage_with, with_setup, is_leaving}
use Rattle.channel_model.specs.Asking.{new_request, asks_options}
use Rattle.channel_model.specs.Closing.{closes_at, ends_at}
use Rattle.channel_model.specs.Configuring.{grants, granted_setup}
use Rattle.channel_model.specs.Responses.{hears_response, hears_response_on, hears_options, hears_settled, renews, renewed_setup, is_asked, hears_end}
use Rattle.channel_model.specs.Giving.{on_held, configuration_at}
use Rattle.own_channel_laws.specs.OwnTalk.{spoken, command_with, asked_between}
use Rattle.own_channel_laws.specs.Views.{peer_of, read_at, asked_mode}
use Rattle.channel_model.proofs.Lookups.{own_of, found-has, found-placed, find-placed, placed-again, and_off}
use Rattle.own_channel_laws.proofs.Entries.{entry-is, entry-same, either_same}
use Rattle.own_channel_laws.proofs.Sound.{Agrees, IsRequested, Reads, Sound, moved, at_each, requested-unread}
use Rattle.own_channel_laws.proofs.Moves.{Found, found-there, parts-others}
use Rattle.own_channel_laws.proofs.Ending.{leads-said, ends-leads, same-reads}
use Rattle.own_channel_laws.proofs.Answering.{Alters, wishes-said}
use Rattle.own_channel_laws.proofs.Silent.{turns-sound}
use Rattle.own_channel_laws.proofs.Asking.{asked-one, newest-asks, closes-sound}
use Rattle.own_channel_laws.proofs.Questions.{asked-none}
use Rattle.own_channel_laws.proofs.Consenting.{Talks}
use Rattle.own_channel_laws.proofs.Hearing.{talks-connected, talks-leaving}
use Rattle.own_channel_laws.proofs.Responses.{settled-sound, turns-to, asked_is, grants-turns, grants-identifier}

-- ---- other options are asked for

-- a request for options goes out, for a channel whose own state changes besides
pub asks-sound : (policy : Policy) (r : Reading) (v : Channels) (held : Held) (peer : ℕ) (setup after : Setup) (options : Options) → Talks v held peer setup → after.parts ≡ setup.parts
    → ((said : _) → Agrees (policy.wish held.psm) setup said → Agrees (policy.wish held.psm) after said) → IsRequested (policy.wish held.psm) options → Sound policy r v
    → (let w : Channels = asks_options held after options v in Sound policy (fold read_on r (asked_between v w)) w)
asks-sound policy r v held peer setup after options talks parts agrees states sound =
    let w : Channels = asks_options held after options v in
    let last_setup : Setup = record after { own = Asking (new_request v) options } in
    let u : Channels = to_setup held after v in
    let first : Sound policy r u = turns-sound policy r v u held (with_setup held after) peer (turns-to policy v u held peer setup after talks refl refl refl parts agrees) sound in
    let alters : Alters u.held w.held (with_setup held after) (with_setup held last_setup) peer after last_setup = record {
      found = found-placed (with_setup held after) held v.held talks.found;
      peer_is = talks.peer_with after;
      setup_is = talks.setup_with after;
      there = ap is_there (talks.life_with after) ∙ talks.there;
      found_after = found-placed (with_setup held last_setup) held v.held talks.found;
      psm_after = refl;
      own_after = refl;
      peer_after = talks.peer_with last_setup;
      life_after_is = talks.life_with last_setup ∙ sym (talks.life_with after);
      setup_after_is = talks.setup_with last_setup;
      others = λ own apart. find-placed (with_setup held last_setup) v.held own apart ∙ sym (find-placed (with_setup held after) v.held own apart);
      lone = placed-again (with_setup held after) (with_setup held last_setup) v.held;
    } in
    let command : Command = command_with v.identifier (configuration_request peer 0 (written options)) in
    let said : asked_between v w ≡ spoken command ∷ [] =
    asked-one v w (Configuration held.own) command refl (newest-asks (Configuration held.own) (to_setup held last_setup v))
    (ap (on_held (λ h. configuration_at h.stage)) (found-placed (with_setup held last_setup) held v.held talks.found) ∙ talks.request_with last_setup) in
    subst (λ rest. Sound policy (fold read_on r rest) w) (sym said)
    (wishes-said policy r u w (with_setup held after) (with_setup held last_setup) peer after (new_request v) options v.identifier (spoken command) refl alters refl refl states first)

same-agrees : (wish : Wish) (setup : Setup) (said : _) → Agrees wish setup said → Agrees wish (renewed_setup setup) said
same-agrees wish setup said agrees = record { set_up = record { asked_is = agrees.set_up.asked_is; accepted_is = agrees.set_up.accepted_is }; states = agrees.states; carrier_is = agrees.carrier_is; parts_are = agrees.parts_are }

-- closing a channel whose options were changed first
closes-after : (policy : Policy) (r : Reading) (v : Channels) (held : Held) (peer : ℕ) (setup after : Setup) → Talks v held peer setup → after.parts ≡ setup.parts → ((said : _) → Agrees (policy.wish held.psm) setup said → Agrees (policy.wish held.psm) after said) → Sound policy r v
    → (let w : Channels = closes_at (stage_with after held.stage) NoAgreement (with_setup held after) (to_setup held after v) in Sound policy (fold read_on r (asked_between v w)) w)
closes-after policy r v held peer setup after talks parts agrees sound =
    let u : Channels = to_setup held after v in
    closes-sound policy r u (with_setup held after) peer NoAgreement (stage_with after held.stage) refl (talks.peer_with after) (found-placed (with_setup held after) held v.held talks.found)
    (turns-sound policy r v u held (with_setup held after) peer (turns-to policy v u held peer setup after talks refl refl refl parts agrees) sound)

renews-sound : (policy : Policy) (r : Reading) (v : Channels) (held : Held) (peer : ℕ) (setup : Setup) (options : Options) → Talks v held peer setup → IsRequested (policy.wish held.psm) options → Sound policy r v
    → (let w : Channels = renews options held (renewed_setup setup) v in Sound policy (fold read_on r (asked_between v w)) w)
renews-sound policy r v held peer setup options talks states sound = by (is_leaving held.stage || nat_le 3 (renewed_setup setup).renewed)
  where
    by : (third : Bool) → (let w : Channels = cond third (closes_at (stage_with (renewed_setup setup) held.stage) NoAgreement (with_setup held (renewed_setup setup)) (to_setup held (renewed_setup setup) v)) (asks_options held (renewed_setup setup) options v) in
        Sound policy (fold read_on r (asked_between v w)) w)
    by true = closes-after policy r v held peer setup (renewed_setup setup) talks refl (λ said agrees. same-agrees (policy.wish held.psm) setup said agrees) sound
    by false = asks-sound policy r v held peer setup (renewed_setup setup) options talks refl (λ said agrees. same-agrees (policy.wish held.psm) setup said agrees) states sound

-- what a response comes to
abbrev SettlesTo : Wish → Settled → Type 0
SettlesTo wish Accepted = Unit {0}
SettlesTo wish (Again options) = IsRequested wish options
SettlesTo wish Wait = Unit {0}
SettlesTo wish Never = Unit {0}

settles_by : (wish : Wish) (options : Options) (a b c : Bool) → SettlesTo wish (cond a Accepted (cond b Wait (cond c (Again (requested wish options)) Never)))
settles_by wish options true b c = tt
settles_by wish options false true c = tt
settles_by wish options false false true = (options, refl)
settles_by wish options false false false = tt

settled-sounds : (policy : Policy) (r : Reading) (v : Channels) (held : Held) (peer : ℕ) (setup : Setup) (now : Settled) → SettlesTo (policy.wish held.psm) now → Talks v held peer setup → asked_mode (policy.wish held.psm) setup.own ≡ Some (policy.wish held.psm).mode → Sound policy r v
    → (let w : Channels = hears_settled now held setup v in Sound policy (fold read_on r (asked_between v w)) w)
settled-sounds policy r v held peer setup Accepted to talks is sound =
    let w : Channels = grants held setup v in
    subst (λ rest. Sound policy (fold read_on r rest) w) (sym (asked-none v w (grants-identifier v held setup))) (turns-sound policy r v w held (with_setup held (granted_setup setup)) peer (grants-turns policy v held peer setup talks is) sound)
settled-sounds policy r v held peer setup (Again options) to talks is sound = renews-sound policy r v held peer setup options talks to sound
settled-sounds policy r v held peer setup Wait to talks is sound = subst (λ rest. Sound policy (fold read_on r rest) v) (sym (asked-none v v refl)) sound
settled-sounds policy r v held peer setup Never to talks is sound = closes-sound policy r v held peer NoAgreement held.stage refl talks.peer_is talks.found sound

pub nothing-follows : (policy : Policy) (r : Reading) (v : Channels) → Sound policy r v → Sound policy (fold read_on r (asked_between v v)) v
nothing-follows policy r v sound = subst (λ rest. Sound policy (fold read_on r rest) v) (sym (asked-none v v refl)) sound

options-sound : (policy : Policy) (r : Reading) (v : Channels) (identifier answer : ℕ) (held : Held) (peer : ℕ) (setup : Setup) (found : Result Options ConfigRefusal) → Talks v held peer setup → (asked_now : Bool) → is_asked identifier setup.own ≡ asked_now → Sound policy r v
    → (let w : Channels = cond asked_now (hears_options found policy answer held setup v) v in Sound policy (fold read_on r (asked_between v w)) w)
options-sound policy r v identifier answer held peer setup (Ok options) talks true is sound =
    settled-sounds policy r v held peer setup (settled (policy.wish held.psm) answer options) (settles_by (policy.wish held.psm) options (eqb answer 0) (eqb answer 4) (eqb answer 1 && keeps_mode (policy.wish held.psm) options)) talks
    (asked_is identifier setup.own (policy.wish held.psm) is) sound
options-sound policy r v identifier answer held peer setup (Err refusal) talks true is sound = nothing-follows policy r v sound
options-sound policy r v identifier answer held peer setup (Ok options) talks false is sound = nothing-follows policy r v sound
options-sound policy r v identifier answer held peer setup (Err refusal) talks false is sound = nothing-follows policy r v sound

-- a channel whose options are not agreed on any more hears nothing
abbrev pub TalksOr : Channels → Held → Option Setup → Type 0
TalksOr v held None = Unit {0}
TalksOr v held (Some setup) = (peer : ℕ) × Talks v held peer setup

pub talks-at : (v : Channels) (held : Held) (stage : Stage) → held.stage ≡ stage → find (has_own held.own) v.held ≡ Some held → TalksOr v held (setup_of stage)
talks-at v held (Requested request) is at = tt
talks-at v held (Connected peer setup) is at = (peer, talks-connected v held peer setup is at)
talks-at v held (Leaving peer setup request) is at = (peer, talks-leaving v held peer setup request is at)
talks-at v held (Closing peer request checked) is at = tt
talks-at v held (Crossed peer request) is at = tt

response-on : (policy : Policy) (r : Reading) (v : Channels) (identifier answer : ℕ) (octets : List ℕ) (held : Held) (setup : Option Setup) → TalksOr v held setup → Sound policy r v
    → (let w : Channels = hears_response_on setup policy identifier answer octets held v in Sound policy (fold read_on r (asked_between v w)) w)
response-on policy r v identifier answer octets held None talks sound = nothing-follows policy r v sound
response-on policy r v identifier answer octets held (Some setup) (peer, talks) sound = options-sound policy r v identifier answer held peer setup (options_read octets) talks (is_asked identifier setup.own) refl sound

response-of : (policy : Policy) (r : Reading) (v : Channels) (identifier own answer : ℕ) (octets : List ℕ) (found : Option Held) → find (has_own own) v.held ≡ found → Sound policy r v
    → (let w : Channels = hears_response found policy identifier answer octets v in Sound policy (fold read_on r (asked_between v w)) w)
response-of policy r v identifier own answer octets None is sound = nothing-follows policy r v sound
response-of policy r v identifier own answer octets (Some held) is sound =
    let same : held.own ≡ own = found-has own_of own v.held held is in
    response-on policy r v identifier answer octets held (setup_of held.stage) (talks-at v held held.stage refl (ap (λ n. find (has_own n) v.held) same ∙ is)) sound

pub hears-settling : (policy : Policy) (r : Reading) (v : Channels) (said : Saying) (identifier source flags answer : ℕ) (options : List ℕ) → sense said ≡ Opens Into identifier (OnOptions source flags answer options) → Sound policy r v
    → (let w : Channels = hears_response (held_at source v) policy identifier answer options v in Sound policy (fold read_on r (said ∷ asked_between v w)) w)
hears-settling policy r v said identifier source flags answer options is sound =
    response-of policy (read_on r said) v identifier source answer options (held_at source v) refl (settled-sound policy r v said identifier source flags answer options is sound)

-- ---- the end that the host asked for

over_same : (life : Life) (said : Option Word) → life ≡ lives.Over → life_after life said ≡ life
over_same life None is = refl
over_same life (Some said) is = ap (λ l. life_after l (Some said)) is ∙ sym is

-- a channel that is over hears of its end no more
over_entry : (policy : Policy) (own peer : ℕ) (found : Option Entry) → Reads policy None found → option_map (entry_after (Parts EndAnswered own peer)) found ≡ found
over_entry policy own peer None reads = refl
over_entry policy own peer (Some entry) reads =
    ap Some (entry-is entry (life_after entry.life (cond (eqb own entry.channel.own && eqb peer entry.channel.peer) (Some EndAnswered) None)) (cond (is_there entry.life) (setup_after entry.setup None) entry.setup)
    (over_same entry.life (cond (eqb own entry.channel.own && eqb peer entry.channel.peer) (Some EndAnswered) None) reads) (either_same (is_there entry.life) (setup_after entry.setup None) entry.setup refl))

-- another endpoint of the peer is named
other_peer : (own peer endpoint : ℕ) (entry : Entry) → entry.channel.peer ≡ peer → eqb endpoint peer ≡ false → entry_after (Parts EndAnswered own endpoint) entry ≡ entry
other_peer own peer endpoint entry is apart =
    entry-same (Parts EndAnswered own endpoint) entry
    (ap (λ t. cond t (Some EndAnswered) None) (ap (λ t. eqb own entry.channel.own && t) (ap (eqb endpoint) is ∙ apart) ∙ and_off (eqb own entry.channel.own))) refl

unnamed : (policy : Policy) (r : Reading) (v : Channels) (said : Saying) (own endpoint : ℕ) → sense said ≡ Ends EndAnswered own endpoint → option_map (entry_after (Parts EndAnswered own endpoint)) (read_at own r.entries) ≡ read_at own r.entries
    → Sound policy r v → Sound policy (read_on r said) v
unnamed policy r v said own endpoint is same sound =
    let all : (n : ℕ) → moved (Parts EndAnswered own endpoint) n r.entries ≡ read_at n r.entries =
    λ n. at_each (λ m. Unit {0}) (λ m. moved (Parts EndAnswered own endpoint) m r.entries ≡ read_at m r.entries) own (λ m apart any. parts-others EndAnswered own endpoint r.entries m apart) same (λ m. tt) n in
    let on = same-reads policy r.requests r.entries v.held v.next v.memory (Parts EndAnswered own endpoint) refl all sound.core sound.kept in
    subst (λ q. let past : Reading = record { requests = requests_after r.requests q; entries = entries_after r.entries (meant r.requests q) } in Sound policy past v) (sym is) (record { core = on.0; kept = on.1; uncalled = sound.uncalled })

ends-identifier : (stage : Stage) (held : Held) (v : Channels) → (ends_at stage OwnClosed held v).identifier ≡ v.identifier
ends-identifier (Requested request) held v = refl
ends-identifier (Connected peer setup) held v = refl
ends-identifier (Leaving peer setup request) held v = refl
ends-identifier (Closing peer request checked) held v = refl
ends-identifier (Crossed peer request) held v = refl

ended-by : (policy : Policy) (r : Reading) (v : Channels) (said : Saying) (held : Held) (peer endpoint : ℕ) (same : Bool) → eqb endpoint peer ≡ same → sense said ≡ Ends EndAnswered held.own endpoint → find (has_own held.own) v.held ≡ Some held → peer_of held.stage ≡ Some peer
    → Sound policy r v → (let w : Channels = cond same (ends_at held.stage OwnClosed held v) v in Sound policy (fold read_on r (said ∷ asked_between v w)) w)
ended-by policy r v said held peer endpoint true is says at peer_is sound =
    let w : Channels = ends_at held.stage OwnClosed held v in
    let names : endpoint ≡ peer = eqb-true endpoint peer is in
    subst (λ rest. Sound policy (fold read_on r (said ∷ rest)) w) (sym (asked-none v w (ends-identifier held.stage held v)))
    (leads-said policy r v w held peer EndAnswered said (says ∙ ap (Ends EndAnswered held.own) names) at peer_is (ends-leads v held peer OwnClosed EndAnswered held.stage refl peer_is at refl refl refl) sound)
ended-by policy r v said held peer endpoint false is says at peer_is sound =
    let found : Found policy held peer (read_at held.own r.entries) = found-there policy r.entries v.held v.next held peer sound.core at peer_is in
    let same : option_map (entry_after (Parts EndAnswered held.own endpoint)) (read_at held.own r.entries) ≡ read_at held.own r.entries =
    ap (option_map (entry_after (Parts EndAnswered held.own endpoint))) found.found_is
    ∙ (ap Some (other_peer held.own peer endpoint found.entry (ap (λ (c : _). c.peer) found.there.channel_is) is) ∙ sym found.found_is) in
    nothing-follows policy (read_on r said) v (unnamed policy r v said held.own endpoint says same sound)

ended-at : (policy : Policy) (r : Reading) (v : Channels) (said : Saying) (held : Held) (endpoint : ℕ) (stage : Stage) → held.stage ≡ stage → sense said ≡ Ends EndAnswered held.own endpoint → find (has_own held.own) v.held ≡ Some held → Sound policy r v
    → (let w : Channels = cond (is_peer endpoint stage) (ends_at held.stage OwnClosed held v) v in Sound policy (fold read_on r (said ∷ asked_between v w)) w)
ended-at policy r v said held endpoint (Requested request) is says at sound =
    let reads : Reads policy (Some held) (read_at held.own r.entries) = subst (λ h. Reads policy h (read_at held.own r.entries)) at (sound.core.reads held.own) in
    let unread : read_at held.own r.entries ≡ None = requested-unread policy held request (read_at held.own r.entries) is reads in
    nothing-follows policy (read_on r said) v (unnamed policy r v said held.own endpoint says (ap (option_map (entry_after (Parts EndAnswered held.own endpoint))) unread ∙ sym unread) sound)
ended-at policy r v said held endpoint (Connected peer setup) is says at sound = ended-by policy r v said held peer endpoint (eqb endpoint peer) refl says at (ap peer_of is) sound
ended-at policy r v said held endpoint (Leaving peer setup request) is says at sound = ended-by policy r v said held peer endpoint (eqb endpoint peer) refl says at (ap peer_of is) sound
ended-at policy r v said held endpoint (Closing peer request checked) is says at sound = ended-by policy r v said held peer endpoint (eqb endpoint peer) refl says at (ap peer_of is) sound
ended-at policy r v said held endpoint (Crossed peer request) is says at sound = ended-by policy r v said held peer endpoint (eqb endpoint peer) refl says at (ap peer_of is) sound

ended-of : (policy : Policy) (r : Reading) (v : Channels) (said : Saying) (own endpoint : ℕ) (found : Option Held) → find (has_own own) v.held ≡ found → sense said ≡ Ends EndAnswered own endpoint → Sound policy r v
    → (let w : Channels = hears_end found endpoint v in Sound policy (fold read_on r (said ∷ asked_between v w)) w)
ended-of policy r v said own endpoint None is says sound =
    nothing-follows policy (read_on r said) v (unnamed policy r v said own endpoint says (over_entry policy own endpoint (read_at own r.entries) (subst (λ h. Reads policy h (read_at own r.entries)) is (sound.core.reads own))) sound)
ended-of policy r v said own endpoint (Some held) is says sound =
    let same : held.own ≡ own = found-has own_of own v.held held is in
    ended-at policy r v said held endpoint held.stage refl (says ∙ ap (λ n. Ends EndAnswered n endpoint) (sym same)) (ap (λ n. find (has_own n) v.held) same ∙ is) sound

pub hears-ended : (policy : Policy) (r : Reading) (v : Channels) (said : Saying) (own endpoint : ℕ) → sense said ≡ Ends EndAnswered own endpoint → Sound policy r v
    → (let w : Channels = hears_end (held_at own v) endpoint v in Sound policy (fold read_on r (said ∷ asked_between v w)) w)
hears-ended policy r v said own endpoint says sound = ended-of policy r v said own endpoint (held_at own v) refl says sound
