-- The timer fires.
use Rattle.std.proofs.Common.{◌≡◌, ℕ, List, [], ◌∷◌, ◌++◌, fold, map, Bool, true, false, cond, ◌&&◌, ◌||◌, eqb, not, Option, Some, None, refl, sym, ap, subst, ◌∙◌}
use Rattle.std.specs.Prelude.{find, filter, option_to_list, nat_le}
use Rattle.std.specs.List.{list_any}
use Rattle.std.proofs.lemmas.List.Sums.{fold-append}
use Rattle.talk_laws.specs.l2cap_signal.specs.Commands.{Command, configuration_request, disconnection_request, information_request, connection_request}
use Rattle.talk_laws.specs.l2cap_config.specs.declared.options.Options.{Options}
use Rattle.talk_laws.specs.l2cap_config.specs.Writing.{written}
use Rattle.channel_model.specs.ertm_model.specs.declared.reason.ErtmReason.{ErtmReason}
use Rattle.channel_model.specs.ertm_model.specs.Value.{Ertm}
use Rattle.channel_model.specs.ertm_model.specs.Giving.{timed}
use Rattle.talk_laws.specs.link_talk.specs.declared.word.Word.TheVariants.{AsksEnd, EndForgone}
use Rattle.talk_laws.specs.link_talk.specs.Sayings.{Saying, GaveUp}
use Rattle.talk_laws.specs.link_talk.specs.Sayings as sayings
use Rattle.talk_laws.specs.link_talk.specs.Channels.{life_after, Reading, read_on}
use Rattle.channel_model.specs.declared.errand.Errand.{Errand}
use Rattle.channel_model.specs.declared.errand.Errand.TheVariants.{Connection, Configuration, Disconnection, Features}
use Rattle.channel_model.specs.declared.event.CloseReason.{CloseReason}
use Rattle.channel_model.specs.declared.event.CloseReason.TheVariants.{RetryLimit}
use Rattle.channel_model.specs.Value.{Request, Queued, Ask, Own, Unasked, Asking, Granted, Carrier, Plain, Retransmitting, Setup, Stage, Requested, Connected, Leaving, Closing, Crossed, Held, Channels}
use Rattle.channel_model.specs.Policies.{Policy}
use Rattle.channel_model.specs.Changing.{has_own, held_at, has_fcs_by, same_errand, is_copy, is_due, queued, is_copy_about, with_setup}
use Rattle.channel_model.specs.Asking.{StillDue, OnceMore, Spent, new_request, next_identifier}
use Rattle.channel_model.specs.Carrying.{reason_of, settles_machine}
use Rattle.channel_model.specs.Closing.{closes_at, closes, ends_at, ends}
use Rattle.channel_model.specs.Timing.{fires, times, times_carrier, times_setup, times_stage, times_held, loses_end, times_end_at, times_end, loses_features, times_features, times_channels}
use Rattle.channel_model.specs.Giving.{on_held, features_command, command_of, configuration_by, configuration_at, disconnection_at, connection_at}
use Rattle.own_channel_laws.specs.OwnTalk.{spoken, command_with, said_of, asked_between}
use Rattle.own_channel_laws.specs.Runs.{forgone_at, forgone_between, given_up, features_given_up, said_again, said_on_firing, said_by_channel, fired_channel, said_by_channels}
use Rattle.own_channel_laws.specs.Views.{peer_of, life_of, standing, read_at}
use Rattle.channel_model.proofs.Lookups.{own_of, find-gone, found-placed, found-has, eqb-same, or_on, and_off}
use Rattle.own_channel_laws.proofs.Sound.{IsRequested, OwnStates, Sound}
use Rattle.own_channel_laws.proofs.Moves.{quiet, SetupsTo, PartsTo, Found, found-there}
use Rattle.own_channel_laws.proofs.Ending.{Leads, leads-said, ends-leads}
use Rattle.own_channel_laws.proofs.Answering.{Alters, found-agrees, wishes-said}
use Rattle.own_channel_laws.proofs.Asking.{next-apart, closes-sound}
use Rattle.own_channel_laws.proofs.Questions.{asked-none}
use Rattle.own_channel_laws.proofs.Consenting.{Talks}
use Rattle.own_channel_laws.proofs.Hearing.{talks-connected, talks-leaving}
use Rattle.own_channel_laws.proofs.Carrying.{carried-by}
use Rattle.own_channel_laws.proofs.Giving.{forgone_none, still_held}
use Rattle.own_channel_laws.proofs.Calling.{call-again, forgone-on}

-- ---- what waits to be given

due_kept : (errand : Errand) (passes : Queued → Bool) (queue : List Queued) → list_any (is_copy errand) (filter passes queue) ≡ true → list_any (is_copy errand) queue ≡ true
due_kept errand passes [] is = is
due_kept errand passes (x ∷ queue) is = by (passes x) (due_kept errand passes queue) is
  where
    either : (b : Bool) → (list_any (is_copy errand) (filter passes queue) ≡ true → list_any (is_copy errand) queue ≡ true) → (b || list_any (is_copy errand) (filter passes queue)) ≡ true → (b || list_any (is_copy errand) queue) ≡ true
    either true later now = refl
    either false later now = later now

    by : (t : Bool) → (list_any (is_copy errand) (filter passes queue) ≡ true → list_any (is_copy errand) queue ≡ true) → list_any (is_copy errand) (cond t (x ∷ filter passes queue) (filter passes queue)) ≡ true
        → (is_copy errand x || list_any (is_copy errand) queue) ≡ true
    by true later now = either (is_copy errand x) later now
    by false later now = ap (λ t. is_copy errand x || t) (later now) ∙ or_on (is_copy errand x)

due_other : (errand other : Errand) (queue : List Queued) → same_errand errand other ≡ false → list_any (is_copy errand) (queue ++ Ask other ∷ []) ≡ list_any (is_copy errand) queue
due_other errand other [] apart = ap (λ t. t || false) apart
due_other errand other (x ∷ queue) apart = ap (λ t. is_copy errand x || t) (due_other errand other queue apart)

due_now : (errand : Errand) (queue : List Queued) → same_errand errand errand ≡ true → list_any (is_copy errand) (queue ++ Ask errand ∷ []) ≡ true
due_now errand [] same = ap (λ t. t || false) same
due_now errand (x ∷ queue) same = ap (λ t. is_copy errand x || t) (due_now errand queue same) ∙ or_on (is_copy errand x)

-- ---- what is said once more

-- no copy waits that did not wait before
abbrev NoneNew : (before after : Channels) → Type 0
NoneNew before after = (errand : Errand) → is_due errand after ≡ true → is_due errand before ≡ true

unsaid : (errand : Errand) (before after : Channels) (due : Bool) → is_due errand after ≡ due → (due ≡ true → is_due errand before ≡ true) → said_again errand before after ≡ []
unsaid errand before after false is old =
    ap (λ t. cond (eqb after.identifier before.identifier && (t && not (is_due errand before))) (said_of (Some errand) after) []) is
    ∙ ap (λ t. cond t (said_of (Some errand) after) []) (and_off (eqb after.identifier before.identifier))
unsaid errand before after true is old =
    ap (λ t. cond (eqb after.identifier before.identifier && (is_due errand after && not t)) (said_of (Some errand) after) []) (old refl)
    ∙ (ap (λ t. cond (eqb after.identifier before.identifier && t) (said_of (Some errand) after) []) (and_off (is_due errand after))
    ∙ ap (λ t. cond t (said_of (Some errand) after) []) (and_off (eqb after.identifier before.identifier)))

none_said : (before after : Channels) → NoneNew before after → (errand : Errand) → said_again errand before after ≡ []
none_said before after old errand = unsaid errand before after (is_due errand after) refl (old errand)

anew_said : (before after : Channels) → after.identifier ≡ next_identifier before.identifier → (errand : Errand) → said_again errand before after ≡ []
anew_said before after is errand =
    ap (λ n. cond (eqb n before.identifier && (is_due errand after && not (is_due errand before))) (said_of (Some errand) after) []) is
    ∙ ap (λ t. cond (t && (is_due errand after && not (is_due errand before))) (said_of (Some errand) after) []) (next-apart before.identifier)

again_said : (errand : Errand) (v : Channels) → same_errand errand errand ≡ true → is_due errand v ≡ false → said_again errand v (queued (Ask errand) v) ≡ said_of (Some errand) (queued (Ask errand) v)
again_said errand v same new =
    let w : Channels = queued (Ask errand) v in
    ap (λ t. cond (t && (is_due errand w && not (is_due errand v))) (said_of (Some errand) w) []) (eqb-same v.identifier)
    ∙ (ap (λ t. cond (t && not (is_due errand v)) (said_of (Some errand) w) []) (due_now errand v.queue same)
    ∙ ap (λ t. cond (not t) (said_of (Some errand) w) []) new)

others_said : (errand other : Errand) (v : Channels) → same_errand errand other ≡ false → said_again errand v (queued (Ask other) v) ≡ []
others_said errand other v apart = unsaid errand v (queued (Ask other) v) (is_due errand (queued (Ask other) v)) refl (λ is. sym (due_other errand other v.queue apart) ∙ is)

firing_is : (own : ℕ) (v w : Channels) (a b c d e : List Saying) → said_again (Connection own) v w ≡ a → said_again (Configuration own) v w ≡ b → said_again (Disconnection own) v w ≡ c → asked_between v w ≡ d → given_up own v w ≡ e
    → said_on_firing own v w ≡ a ++ (b ++ (c ++ (d ++ e)))
firing_is own v w a b c d e is_a is_b is_c is_d is_e =
    ap (λ x. x ++ (said_again (Configuration own) v w ++ (said_again (Disconnection own) v w ++ (asked_between v w ++ given_up own v w)))) is_a
    ∙ (ap (λ x. a ++ (x ++ (said_again (Disconnection own) v w ++ (asked_between v w ++ given_up own v w)))) is_b
    ∙ (ap (λ x. a ++ (b ++ (x ++ (asked_between v w ++ given_up own v w)))) is_c
    ∙ (ap (λ x. a ++ (b ++ (c ++ (x ++ given_up own v w)))) is_d
    ∙ ap (λ x. a ++ (b ++ (c ++ (d ++ x)))) is_e)))

-- nothing is asked again
plain_is : (own : ℕ) (v w : Channels) (d e : List Saying) → ((errand : Errand) → said_again errand v w ≡ []) → asked_between v w ≡ d → given_up own v w ≡ e → said_on_firing own v w ≡ d ++ e
plain_is own v w d e none is_d is_e = firing_is own v w [] [] [] d e (none (Connection own)) (none (Configuration own)) (none (Disconnection own)) is_d is_e

silent_is : (own : ℕ) (v : Channels) → said_on_firing own v v ≡ []
silent_is own v = plain_is own v v [] [] (none_said v v (λ errand is. is)) (asked-none v v refl) (still_held (held_at own v))

silent : (policy : Policy) (r : Reading) (v : Channels) (own : ℕ) → Sound policy r v → Sound policy (fold read_on r (said_on_firing own v v)) v
silent policy r v own sound = subst (λ said. Sound policy (fold read_on r said) v) (sym (silent_is own v)) sound

-- the channel is still held: of what is said there is at most a request with a new identifier
append_none : (said : List Saying) → said ++ [] ≡ said
append_none [] = refl
append_none (x ∷ said) = ap (λ xs. x ∷ xs) (append_none said)

held_is : (own : ℕ) (v w : Channels) (after : Held) → ((errand : Errand) → said_again errand v w ≡ []) → held_at own w ≡ Some after → said_on_firing own v w ≡ asked_between v w
held_is own v w after none here =
    plain_is own v w (asked_between v w) [] none refl (ap (forgone_between (held_at own v)) here ∙ forgone_none (held_at own v) after)
    ∙ append_none (asked_between v w)

-- ---- a request that waits

by_times : (policy : Policy) (r : Reading) (v : Channels) (own tries : ℕ) (errand : Errand) (request : Request) (spent : Channels → Channels)
    → (is_due errand v ≡ false → (let w : Channels = queued (Ask errand) v in Sound policy (fold read_on r (said_on_firing own v w)) w))
    → Sound policy (fold read_on r (said_on_firing own v (spent v))) (spent v) → Sound policy r v
    → (let w : Channels = times tries errand request spent v in Sound policy (fold read_on r (said_on_firing own v w)) w)
by_times policy r v own tries errand request spent once_more given_up_on sound = by (is_due errand v) refl
  where
    choice : (most : Bool) → is_due errand v ≡ false → (let w : Channels = fires (cond most Spent OnceMore) errand spent v in Sound policy (fold read_on r (said_on_firing own v w)) w)
    choice true new = given_up_on
    choice false new = once_more new

    by : (due : Bool) → is_due errand v ≡ due → (let w : Channels = fires (cond due StillDue (cond (nat_le tries request.given) Spent OnceMore)) errand spent v in Sound policy (fold read_on r (said_on_firing own v w)) w)
    by true is = silent policy r v own sound
    by false is = choice (nat_le tries request.given) is

-- ---- a channel is closed

closing_is : (v : Channels) (held : Held) (peer : ℕ) (reason : CloseReason) (stage : Stage) → held.stage ≡ stage → peer_of stage ≡ Some peer → find (has_own held.own) v.held ≡ Some held
    → (let w : Channels = closes_at stage reason held v in said_on_firing held.own v w ≡ asked_between v w)
closing_is v held peer reason (Requested request) is peer_is at = cc
closing_is v held peer reason (Connected at_peer setup) is peer_is at =
    let w : Channels = closes_at (Connected at_peer setup) reason held v in
    let after : Held = record held { stage = Closing at_peer (new_request v) (has_fcs_by setup) } in
    held_is held.own v w after (anew_said v w refl) (found-placed after held v.held at)
closing_is v held peer reason (Leaving at_peer setup request) is peer_is at =
    let w : Channels = closes_at (Leaving at_peer setup request) reason held v in
    let after : Held = record held { stage = Closing at_peer request (has_fcs_by setup) } in
    held_is held.own v w after (none_said v w (λ errand due. due_kept errand (λ waiting. not (is_copy (Configuration held.own) waiting)) v.queue due)) (found-placed after held v.held at)
closing_is v held peer reason (Closing at_peer request checked) is peer_is at = silent_is held.own v ∙ sym (asked-none v v refl)
closing_is v held peer reason (Crossed at_peer request) is peer_is at = silent_is held.own v ∙ sym (asked-none v v refl)

closed-fires : (policy : Policy) (r : Reading) (v : Channels) (held : Held) (peer : ℕ) (reason : CloseReason) → peer_of held.stage ≡ Some peer → find (has_own held.own) v.held ≡ Some held → Sound policy r v
    → (let w : Channels = closes reason held v in Sound policy (fold read_on r (said_on_firing held.own v w)) w)
closed-fires policy r v held peer reason peer_is at sound =
    let w : Channels = closes reason held v in
    subst (λ said. Sound policy (fold read_on r said) w) (sym (closing_is v held peer reason held.stage refl peer_is at)) (closes-sound policy r v held peer reason held.stage refl peer_is at sound)

-- ---- the options of a channel, and then what it carries

machine-fires : (policy : Policy) (r : Reading) (v : Channels) (held : Held) (peer : ℕ) (setup : Setup) (machine : Ertm) (closed : Option ErtmReason) (before : Ertm) → setup.carrier ≡ Some (Retransmitting before) → Talks v held peer setup → Sound policy r v
    → (let w : Channels = settles_machine closed machine held setup v in Sound policy (fold read_on r (said_on_firing held.own v w)) w)
machine-fires policy r v held peer setup machine None before is talks sound =
    let w : Channels = settles_machine None machine held setup v in
    let now : Setup = record setup { carrier = Some (Retransmitting machine) } in
    let after : Held = with_setup held now in
    subst (λ said. Sound policy (fold read_on r said) w) (sym (held_is held.own v w after (none_said v w (λ errand due. due)) (found-placed after held v.held talks.found)))
    (carried-by policy r v held peer setup machine None before is talks sound)
machine-fires policy r v held peer setup machine (Some reason) before is talks sound = closed-fires policy r v held peer (reason_of reason) talks.peer_is talks.found sound

carrier-fires : (policy : Policy) (r : Reading) (v : Channels) (held : Held) (peer : ℕ) (setup : Setup) (carrier : Option Carrier) → setup.carrier ≡ carrier → Talks v held peer setup → Sound policy r v
    → (let w : Channels = times_carrier carrier held setup v in Sound policy (fold read_on r (said_on_firing held.own v w)) w)
carrier-fires policy r v held peer setup None is talks sound = silent policy r v held.own sound
carrier-fires policy r v held peer setup (Some (Plain agreed waiting)) is talks sound = silent policy r v held.own sound
carrier-fires policy r v held peer setup (Some (Retransmitting machine)) is talks sound = machine-fires policy r v held peer setup (timed machine) (timed machine).closed machine is talks sound

-- the request for options is said once more: it states what it stated
wish-fires : (policy : Policy) (r : Reading) (v : Channels) (held : Held) (peer : ℕ) (setup : Setup) (request : Request) (options : Options) → setup.own ≡ Asking request options → configuration_at held.stage ≡ configuration_by setup.own peer
    → Talks v held peer setup → Sound policy r v → is_due (Configuration held.own) v ≡ false
    → (let w : Channels = queued (Ask (Configuration held.own)) v in Sound policy (fold read_on r (said_on_firing held.own v w)) w)
wish-fires policy r v held peer setup request options is asks talks sound new =
    let errand : Errand = Configuration held.own in
    let w : Channels = queued (Ask errand) v in
    let command : Command = command_with request.identifier (configuration_request peer 0 (written options)) in
    let command_is : command_of errand w ≡ Some command = ap (on_held (λ h. configuration_at h.stage)) talks.found ∙ (asks ∙ ap (λ o. configuration_by o peer) is) in
    let now : Setup = record setup { own = Asking request options } in
    let same : Some setup ≡ Some now = ap (λ (o : Own). let s : Setup = record setup { own = o } in Some s) is in
    let found : Found policy held peer (read_at held.own r.entries) = found-there policy r.entries v.held v.next held peer sound.core talks.found talks.peer_is in
    let states : IsRequested (policy.wish held.psm) options = subst (OwnStates (policy.wish held.psm)) is (found-agrees policy held peer setup (read_at held.own r.entries) talks.setup_is found).states in
    let alters : Alters v.held w.held held held peer setup now = record {
      found = talks.found;
      peer_is = talks.peer_is;
      setup_is = talks.setup_is;
      there = talks.there;
      found_after = talks.found;
      psm_after = refl;
      own_after = refl;
      peer_after = talks.peer_is;
      life_after_is = refl;
      setup_after_is = talks.setup_is ∙ same;
      others = λ own apart. refl;
      lone = λ distinct. distinct;
    } in
    let said : said_on_firing held.own v w ≡ spoken command ∷ [] =
    firing_is held.own v w [] (spoken command ∷ []) [] [] [] (others_said (Connection held.own) errand v refl)
    (again_said errand v (eqb-same held.own) new ∙ ap (λ c. map spoken (option_to_list c)) command_is) (others_said (Disconnection held.own) errand v refl) (asked-none v w refl) (still_held (held_at held.own v)) in
    subst (λ more. Sound policy (fold read_on r more) w) (sym said) (wishes-said policy r v w held held peer setup request options request.identifier (spoken command) refl alters refl refl states sound)

setup-fires : (policy : Policy) (r : Reading) (v : Channels) (held : Held) (peer tries : ℕ) (setup : Setup) (own : Own) → setup.own ≡ own → configuration_at held.stage ≡ configuration_by setup.own peer → Talks v held peer setup → Sound policy r v
    → (let w : Channels = times_setup own tries held setup v in Sound policy (fold read_on r (said_on_firing held.own v w)) w)
setup-fires policy r v held peer tries setup Unasked is asks talks sound = carrier-fires policy r v held peer setup setup.carrier refl talks sound
setup-fires policy r v held peer tries setup (Asking request options) is asks talks sound =
    by_times policy r v held.own tries (Configuration held.own) request (closes RetryLimit held) (wish-fires policy r v held peer setup request options is asks talks sound)
    (closed-fires policy r v held peer RetryLimit talks.peer_is talks.found sound) sound
setup-fires policy r v held peer tries setup Granted is asks talks sound = carrier-fires policy r v held peer setup setup.carrier refl talks sound

-- the request for the channel is said once more, or given up
call-fires : (policy : Policy) (r : Reading) (v : Channels) (held : Held) (request : Request) → held.stage ≡ Requested request → find (has_own held.own) v.held ≡ Some held → Sound policy r v → is_due (Connection held.own) v ≡ false
    → (let w : Channels = queued (Ask (Connection held.own)) v in Sound policy (fold read_on r (said_on_firing held.own v w)) w)
call-fires policy r v held request is at sound new =
    let errand : Errand = Connection held.own in
    let w : Channels = queued (Ask errand) v in
    let command : Command = command_with request.identifier (connection_request held.psm held.own) in
    let command_is : command_of errand w ≡ Some command = ap (on_held (λ h. connection_at h.stage h)) at ∙ ap (λ s. connection_at s held) is in
    let said : said_on_firing held.own v w ≡ spoken command ∷ [] =
    firing_is held.own v w (spoken command ∷ []) [] [] [] [] (again_said errand v (eqb-same held.own) new ∙ ap (λ c. map spoken (option_to_list c)) command_is)
    (others_said (Configuration held.own) errand v refl) (others_said (Disconnection held.own) errand v refl) (asked-none v w refl) (still_held (held_at held.own v)) in
    let now : Sound policy (read_on r (spoken command)) v = call-again policy r v held request is at sound in
    subst (λ more. Sound policy (fold read_on r more) w) (sym said) (record { core = now.core; kept = now.kept; uncalled = now.uncalled })

forgone-call : (policy : Policy) (r : Reading) (v : Channels) (held : Held) (request : Request) (stage : Stage) → stage ≡ Requested request → held.stage ≡ Requested request → find (has_own held.own) v.held ≡ Some held → Sound policy r v
    → (let w : Channels = closes_at stage RetryLimit held v in Sound policy (fold read_on r (said_on_firing held.own v w)) w)
forgone-call policy r v held request (Requested other) same is at sound =
    let w : Channels = closes_at (Requested other) RetryLimit held v in
    let said : said_on_firing held.own v w ≡ asked_between v w ++ given_up held.own v w =
    plain_is held.own v w (asked_between v w) (given_up held.own v w) (none_said v w (λ errand due. due_kept errand (λ waiting. not (is_copy_about held.own waiting)) v.queue due)) refl refl in
    subst (λ more. Sound policy (fold read_on r more) w) (sym said) (forgone-on policy r v held request RetryLimit (Requested other) same is at sound)
forgone-call policy r v held request (Connected peer setup) same is at sound = cc
forgone-call policy r v held request (Leaving peer setup waiting) same is at sound = cc
forgone-call policy r v held request (Closing peer waiting checked) same is at sound = cc
forgone-call policy r v held request (Crossed peer waiting) same is at sound = cc

stage-fires : (policy : Policy) (r : Reading) (v : Channels) (held : Held) (tries : ℕ) (stage : Stage) → held.stage ≡ stage → find (has_own held.own) v.held ≡ Some held → Sound policy r v
    → (let w : Channels = times_stage stage tries held v in Sound policy (fold read_on r (said_on_firing held.own v w)) w)
stage-fires policy r v held tries (Requested request) is at sound =
    by_times policy r v held.own tries (Connection held.own) request (closes RetryLimit held) (call-fires policy r v held request is at sound) (forgone-call policy r v held request held.stage is is at sound) sound
stage-fires policy r v held tries (Connected peer setup) is at sound = setup-fires policy r v held peer tries setup setup.own refl (ap configuration_at is) (talks-connected v held peer setup is at) sound
stage-fires policy r v held tries (Leaving peer setup request) is at sound = setup-fires policy r v held peer tries setup setup.own refl (ap configuration_at is) (talks-leaving v held peer setup request is at) sound
stage-fires policy r v held tries (Closing peer request checked) is at sound = silent policy r v held.own sound
stage-fires policy r v held tries (Crossed peer request) is at sound = silent policy r v held.own sound

pub held-fires : (policy : Policy) (r : Reading) (v : Channels) (tries own : ℕ) (found : Option Held) → find (has_own own) v.held ≡ found → Sound policy r v
    → (let w : Channels = times_held found tries v in Sound policy (fold read_on r (said_on_firing own v w)) w)
held-fires policy r v tries own None is sound = silent policy r v own sound
held-fires policy r v tries own (Some held) is sound =
    let same : held.own ≡ own = found-has own_of own v.held held is in
    subst (λ n. let w : Channels = times_held (Some held) tries v in Sound policy (fold read_on r (said_on_firing n v w)) w) same
    (stage-fires policy r v held tries held.stage refl (ap (λ n. find (has_own n) v.held) same ∙ is) sound)

-- ---- the end of a channel

-- it was asked for
abbrev IsEnding : Stage → Type 0
IsEnding (Requested request) = ⊥
IsEnding (Connected peer setup) = ⊥
IsEnding (Leaving peer setup request) = Unit {0}
IsEnding (Closing peer request checked) = Unit {0}
IsEnding (Crossed peer request) = Unit {0}

-- its host waits
record Waits (held : Held) (stage : Stage) (peer : ℕ) (request : Request) : Type 0 where
  peer_is : peer_of stage ≡ Some peer
  asks : disconnection_at stage held ≡ Some (command_with request.identifier (disconnection_request peer held.own))
  life_stays : life_of stage ≡ life_after (life_of stage) (Some AsksEnd)
  setup_stays : SetupsTo (standing stage) (standing stage)
  forgone : forgone_at stage held.own ≡ GaveUp (sayings.Disconnection held.own peer) ∷ []
  ending : IsEnding stage

end-again : (policy : Policy) (r : Reading) (v : Channels) (held : Held) (peer : ℕ) (request : Request) → Waits held held.stage peer request → find (has_own held.own) v.held ≡ Some held → Sound policy r v → is_due (Disconnection held.own) v ≡ false
    → (let w : Channels = queued (Ask (Disconnection held.own)) v in Sound policy (fold read_on r (said_on_firing held.own v w)) w)
end-again policy r v held peer request waits at sound new =
    let errand : Errand = Disconnection held.own in
    let w : Channels = queued (Ask errand) v in
    let command : Command = command_with request.identifier (disconnection_request peer held.own) in
    let command_is : command_of errand w ≡ Some command = ap (on_held (λ h. disconnection_at h.stage h)) at ∙ waits.asks in
    let leads : Leads v w held peer AsksEnd = record {
      others = λ own apart. refl;
      lone = λ distinct. distinct;
      to = subst (PartsTo held peer AsksEnd) (sym at) (refl, refl, waits.peer_is, waits.life_stays, waits.setup_stays);
      next_is = refl;
      memory_is = refl;
    } in
    let said : said_on_firing held.own v w ≡ spoken command ∷ [] =
    firing_is held.own v w [] [] (spoken command ∷ []) [] [] (others_said (Connection held.own) errand v refl) (others_said (Configuration held.own) errand v refl)
    (again_said errand v (eqb-same held.own) new ∙ ap (λ c. map spoken (option_to_list c)) command_is) (asked-none v w refl) (still_held (held_at held.own v)) in
    subst (λ more. Sound policy (fold read_on r more) w) (sym said) (leads-said policy r v w held peer AsksEnd (spoken command) refl at waits.peer_is leads sound)

-- the request is given up
record Lost (v w : Channels) (held : Held) : Type 0 where
  identifier_is : w.identifier ≡ v.identifier
  old : NoneNew v w
  gone : find (has_own held.own) w.held ≡ None

lost-at : (v : Channels) (held : Held) (stage : Stage) → IsEnding stage → Lost v (ends_at stage RetryLimit held v) held
lost-at v held (Requested request) is = elim is [ ]
lost-at v held (Connected peer setup) is = elim is [ ]
lost-at v held (Leaving peer setup request) is = record { identifier_is = refl; old = λ errand due. due_kept errand (λ waiting. not (is_copy_about held.own waiting)) v.queue due; gone = find-gone own_of held.own v.held }
lost-at v held (Closing peer request checked) is = record { identifier_is = refl; old = λ errand due. due_kept errand (λ waiting. not (is_copy_about held.own waiting)) v.queue due; gone = find-gone own_of held.own v.held }
lost-at v held (Crossed peer request) is = record { identifier_is = refl; old = λ errand due. due_kept errand (λ waiting. not (is_copy_about held.own waiting)) v.queue due; gone = find-gone own_of held.own v.held }

forgone-fires : (policy : Policy) (r : Reading) (v w : Channels) (held : Held) (peer : ℕ) (request : Request) → Waits held held.stage peer request → find (has_own held.own) v.held ≡ Some held → Leads v w held peer EndForgone → Lost v w held → Sound policy r v
    → Sound policy (fold read_on r (said_on_firing held.own v w)) w
forgone-fires policy r v w held peer request waits at leads lost sound =
    let given_up_is : given_up held.own v w ≡ GaveUp (sayings.Disconnection held.own peer) ∷ [] =
    ap (λ h. forgone_between h (held_at held.own w)) at ∙ (ap (forgone_between (Some held)) lost.gone ∙ waits.forgone) in
    let said : said_on_firing held.own v w ≡ GaveUp (sayings.Disconnection held.own peer) ∷ [] =
    plain_is held.own v w [] (GaveUp (sayings.Disconnection held.own peer) ∷ []) (none_said v w lost.old) (asked-none v w lost.identifier_is) given_up_is in
    subst (λ more. Sound policy (fold read_on r more) w) (sym said) (leads-said policy r v w held peer EndForgone (GaveUp (sayings.Disconnection held.own peer)) refl at waits.peer_is leads sound)

-- one that was not closed is closed then
ends-fires : (policy : Policy) (r : Reading) (v : Channels) (held : Held) (peer : ℕ) (request : Request) → Waits held held.stage peer request → find (has_own held.own) v.held ≡ Some held → Sound policy r v
    → (let w : Channels = ends RetryLimit held v in Sound policy (fold read_on r (said_on_firing held.own v w)) w)
ends-fires policy r v held peer request waits at sound =
    forgone-fires policy r v (ends RetryLimit held v) held peer request waits at (ends-leads v held peer RetryLimit EndForgone held.stage refl waits.peer_is at refl refl refl) (lost-at v held held.stage waits.ending) sound

-- of one that was closed before it is told that its end is lost
loses-fires : (policy : Policy) (r : Reading) (v : Channels) (held : Held) (peer : ℕ) (request : Request) → Waits held held.stage peer request → find (has_own held.own) v.held ≡ Some held → Sound policy r v
    → (let w : Channels = loses_end held v in Sound policy (fold read_on r (said_on_firing held.own v w)) w)
loses-fires policy r v held peer request waits at sound =
    let w : Channels = loses_end held v in
    let leads : Leads v (ends RetryLimit held v) held peer EndForgone = ends-leads v held peer RetryLimit EndForgone held.stage refl waits.peer_is at refl refl refl in
    let lost : Lost v (ends RetryLimit held v) held = lost-at v held held.stage waits.ending in
    forgone-fires policy r v w held peer request waits at (record { others = leads.others; to = leads.to; lone = leads.lone; next_is = leads.next_is; memory_is = leads.memory_is })
    (record { identifier_is = lost.identifier_is; old = lost.old; gone = lost.gone }) sound

end-fires : (policy : Policy) (r : Reading) (v : Channels) (held : Held) (tries : ℕ) (stage : Stage) → held.stage ≡ stage → find (has_own held.own) v.held ≡ Some held → Sound policy r v
    → (let w : Channels = times_end_at stage tries held v in Sound policy (fold read_on r (said_on_firing held.own v w)) w)
end-fires policy r v held tries (Requested request) is at sound = silent policy r v held.own sound
end-fires policy r v held tries (Connected peer setup) is at sound = silent policy r v held.own sound
end-fires policy r v held tries (Leaving peer setup request) is at sound =
    let waits : Waits held held.stage peer request = subst (λ s. Waits held s peer request) (sym is) (record { peer_is = refl; asks = refl; life_stays = refl; setup_stays = refl; forgone = refl; ending = tt }) in
    by_times policy r v held.own tries (Disconnection held.own) request (ends RetryLimit held) (end-again policy r v held peer request waits at sound) (ends-fires policy r v held peer request waits at sound) sound
end-fires policy r v held tries (Closing peer request checked) is at sound =
    let waits : Waits held held.stage peer request = subst (λ s. Waits held s peer request) (sym is) (record { peer_is = refl; asks = refl; life_stays = refl; setup_stays = refl; forgone = refl; ending = tt }) in
    by_times policy r v held.own tries (Disconnection held.own) request (loses_end held) (end-again policy r v held peer request waits at sound) (loses-fires policy r v held peer request waits at sound) sound
end-fires policy r v held tries (Crossed peer request) is at sound =
    let waits : Waits held held.stage peer request = subst (λ s. Waits held s peer request) (sym is) (record { peer_is = refl; asks = refl; life_stays = refl; setup_stays = tt; forgone = refl; ending = tt }) in
    by_times policy r v held.own tries (Disconnection held.own) request (loses_end held) (end-again policy r v held peer request waits at sound) (loses-fires policy r v held peer request waits at sound) sound

pub ending-fires : (policy : Policy) (r : Reading) (v : Channels) (tries own : ℕ) (found : Option Held) → find (has_own own) v.held ≡ found → Sound policy r v
    → (let w : Channels = times_end found tries v in Sound policy (fold read_on r (said_on_firing own v w)) w)
ending-fires policy r v tries own None is sound = silent policy r v own sound
ending-fires policy r v tries own (Some held) is sound =
    let same : held.own ≡ own = found-has own_of own v.held held is in
    subst (λ n. let w : Channels = times_end (Some held) tries v in Sound policy (fold read_on r (said_on_firing n v w)) w) same
    (end-fires policy r v held tries held.stage refl (ap (λ n. find (has_own n) v.held) same ∙ is) sound)

-- ---- a channel

channel-fires : (policy : Policy) (r : Reading) (v : Channels) (tries own : ℕ) → Sound policy r v → Sound policy (fold read_on r (said_by_channel tries own v)) (fired_channel tries own v)
channel-fires policy r v tries own sound =
    let between : Channels = times_held (held_at own v) tries v in
    let after : Channels = times_end (held_at own between) tries between in
    subst (λ x. Sound policy x after) (sym (fold-append read_on r (said_on_firing own v between) (said_on_firing own between after)))
    (ending-fires policy (fold read_on r (said_on_firing own v between)) between tries own (held_at own between) refl (held-fires policy r v tries own (held_at own v) refl sound))

-- ---- the question for the peer's features

features_kept : (request : Request) (after : Option Request) → after ≡ Some request → features_given_up (Some request) after ≡ []
features_kept request after is = ap (features_given_up (Some request)) is

pub features-fires : (policy : Policy) (r : Reading) (v : Channels) (tries : ℕ) (features : Option Request) → v.features ≡ features → Sound policy r v
    → (let w : Channels = times_features features tries v in Sound policy (fold read_on r (said_again Features v w ++ features_given_up features w.features)) w)
features-fires policy r v tries None is sound = subst (λ said. Sound policy (fold read_on r (said ++ [])) v) (sym (none_said v v (λ errand due. due) Features)) sound
features-fires policy r v tries (Some request) is sound = by (is_due Features v) refl
  where
    choice : (most : Bool) → is_due Features v ≡ false
        → (let w : Channels = fires (cond most Spent OnceMore) Features loses_features v in Sound policy (fold read_on r (said_again Features v w ++ features_given_up (Some request) w.features)) w)
    choice true new =
        let w : Channels = loses_features v in
        subst (λ said. Sound policy (fold read_on r (said ++ (GaveUp (sayings.Information request.identifier) ∷ []))) w) (sym (none_said v w (λ errand due. due) Features))
        (quiet policy r w (GaveUp (sayings.Information request.identifier)) refl (record { core = sound.core; kept = sound.kept; uncalled = sound.uncalled }))
    choice false new =
        let w : Channels = queued (Ask Features) v in
        let command : Command = command_with request.identifier (information_request 2) in
        let command_is : command_of Features w ≡ Some command = ap features_command is in
        let said : said_again Features v w ≡ spoken command ∷ [] = again_said Features v refl new ∙ ap (λ c. map spoken (option_to_list c)) command_is in
        subst (λ rest. Sound policy (fold read_on r (said_again Features v w ++ rest)) w) (sym (features_kept request v.features is))
        (subst (λ more. Sound policy (fold read_on r (more ++ [])) w) (sym said) (quiet policy r w (spoken command) refl (record { core = sound.core; kept = sound.kept; uncalled = sound.uncalled })))

    by : (due : Bool) → is_due Features v ≡ due
        → (let w : Channels = fires (cond due StillDue (cond (nat_le tries request.given) Spent OnceMore)) Features loses_features v in Sound policy (fold read_on r (said_again Features v w ++ features_given_up (Some request) w.features)) w)
    by true due =
        subst (λ rest. Sound policy (fold read_on r (said_again Features v v ++ rest)) v) (sym (features_kept request v.features is))
        (subst (λ said. Sound policy (fold read_on r (said ++ [])) v) (sym (none_said v v (λ errand due. due) Features)) sound)
    by false new = choice (nat_le tries request.given) new

-- ---- all channels, and then the features

pub fires-sound : (policy : Policy) (r : Reading) (v : Channels) (tries : ℕ) (owns : List ℕ) → Sound policy r v
    → (let after : Channels = times_channels tries owns v in Sound policy (fold read_on r (said_by_channels tries owns v)) (times_features after.features tries after))
fires-sound policy r v tries [] sound = features-fires policy r v tries v.features refl sound
fires-sound policy r v tries (own ∷ owns) sound =
    let next : Channels = fired_channel tries own v in
    let after : Channels = times_channels tries owns next in
    subst (λ x. Sound policy x (times_features after.features tries after)) (sym (fold-append read_on r (said_by_channel tries own v) (said_by_channels tries owns next)))
    (fires-sound policy (fold read_on r (said_by_channel tries own v)) next tries owns (channel-fires policy r v tries own sound))
