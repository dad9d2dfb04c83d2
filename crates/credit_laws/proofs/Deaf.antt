-- A host to which nothing comes has no channel.
use Rattle.std.proofs.Common.{◌≡◌, ℕ, Bool, true, false, cond, eqb, ◌&&◌, not, List, [], ◌∷◌, map, fold, Option, Some, None, option_to_list, subst, inl, inr}
use Rattle.std.specs.List.{AllByRecursion}
use Rattle.inbox_laws.specs.capture.specs.declared.flow.Flow.TheVariants.{Into}
use Rattle.inbox_laws.specs.l2cap_signal.specs.Commands.{Command as Content}
use Rattle.inbox_laws.specs.l2cap_signal.specs.Reading.{Answer}
use Rattle.inbox_laws.specs.link_talk.specs.declared.channel.Channel.{Channel}
use Rattle.inbox_laws.specs.link_talk.specs.declared.party.Party.{Party}
use Rattle.inbox_laws.specs.link_talk.specs.Channels.{Entry, reading}
use Rattle.inbox_laws.specs.link_talk.specs.Sayings.{Saying, Command}
use Rattle.inbox_laws.specs.channel_model.specs.declared.errand.Errand.{Errand}
use Rattle.inbox_laws.specs.channel_model.specs.declared.errand.Errand.TheVariants as errands
use Rattle.inbox_laws.specs.channel_model.specs.Value.{Request, Carrier, Plain, Retransmitting, Stage, Requested, Connected, Leaving, Closing, Crossed, Held, Channels}
use Rattle.inbox_laws.specs.channel_model.specs.Policies.{Policy}
use Rattle.inbox_laws.specs.channel_model.specs.Changing.{held_at, is_due}
use Rattle.inbox_laws.specs.channel_model.specs.Calls.{carrier_at, connected, asks_features, disconnected}
use Rattle.inbox_laws.specs.channel_model.specs.Giving.{Given, Signal, Whole, Framed, next_given}
use Rattle.inbox_laws.specs.channel_model.specs.Timing.{times_held, times_end, times_features}
use Rattle.inbox_laws.specs.channel_laws.specs.OwnTalk.{spoken, newest, said_of, asked_between}
use Rattle.inbox_laws.specs.channel_laws.specs.Runs.{Occurrence, Comes, Connects, AsksFeatures, Disconnects, Sends, Gives, Fires, Tells, forgone_at, forgone_between, given_up, features_given_up, said_again, said_on_firing, said_by_channel, fired_channel, said_by_channels, peer_at, said_by_carrier, said_as, said_in, Run, run_on, run_of}
use Rattle.inbox_laws.specs.channel_laws.specs.Signals.{StandsIn}
use Rattle.inbox_laws.specs.channel_laws.proofs.Origins.{Origin}
use Rattle.inbox_laws.specs.host_laws.proofs.Seeking.{all-from}
use Rattle.request_laws.proofs.Feeding.{all_both}
use Rattle.request_laws.proofs.Timely.{HearsNothing}
use Rattle.credit_laws.specs.Seen.{IsCoveredOn, AreCovered, IsSaidOut}

abbrev AllOut : List Saying → Type 0
AllOut said = AllByRecursion IsSaidOut said

-- ---- what a host says of its own accord goes out, or nobody hears it

command_out : (command : Option Content) → AllOut (map spoken (option_to_list command))
command_out None = tt
command_out (Some command) = (tt, tt)

if_out : (b : Bool) (xs ys : List Saying) → AllOut xs → AllOut ys → AllOut (cond b xs ys)
if_out true xs ys one other = one
if_out false xs ys one other = other

asked_out : (v w : Channels) → AllOut (asked_between v w)
asked_out v w = if_out (eqb w.identifier v.identifier) [] (said_of (newest w.queue) w) tt (command_out _)

again_out : (errand : Errand) (v w : Channels) → AllOut (said_again errand v w)
again_out errand v w = if_out (eqb w.identifier v.identifier && (is_due errand w && not (is_due errand v))) (said_of (Some errand) w) [] (command_out _) tt

forgone_out : (stage : Stage) (own : ℕ) → AllOut (forgone_at stage own)
forgone_out (Requested request) own = (tt, tt)
forgone_out (Connected peer setup) own = tt
forgone_out (Leaving peer setup request) own = (tt, tt)
forgone_out (Closing peer request checked) own = (tt, tt)
forgone_out (Crossed peer request) own = (tt, tt)

between_out : (before after : Option Held) → AllOut (forgone_between before after)
between_out None after = tt
between_out (Some held) None = forgone_out held.stage held.own
between_out (Some held) (Some other) = tt

firing_out : (own : ℕ) (v w : Channels) → AllOut (said_on_firing own v w)
firing_out own v w =
    all_both IsSaidOut (said_again (errands.Connection own) v w) _ (again_out (errands.Connection own) v w)
    (all_both IsSaidOut (said_again (errands.Configuration own) v w) _ (again_out (errands.Configuration own) v w)
    (all_both IsSaidOut (said_again (errands.Disconnection own) v w) _ (again_out (errands.Disconnection own) v w)
    (all_both IsSaidOut (asked_between v w) (given_up own v w) (asked_out v w) (between_out (held_at own v) (held_at own w)))))

features_out : (before after : Option Request) → AllOut (features_given_up before after)
features_out None after = tt
features_out (Some request) None = (tt, tt)
features_out (Some request) (Some other) = tt

channels_out : (tries : ℕ) (owns : List ℕ) (v : Channels) → AllOut (said_by_channels tries owns v)
channels_out tries [] v =
    let after = times_features v.features tries v in all_both IsSaidOut (said_again errands.Features v after) (features_given_up v.features after.features) (again_out errands.Features v after) (features_out v.features after.features)
channels_out tries (own ∷ owns) v =
    let between = times_held (held_at own v) tries v in
    all_both IsSaidOut (said_by_channel tries own v) (said_by_channels tries owns (fired_channel tries own v))
    (all_both IsSaidOut (said_on_firing own v between) (said_on_firing own between (times_end (held_at own between) tries between)) (firing_out own v between) (firing_out own between (times_end (held_at own between) tries between)))
    (channels_out tries owns (fired_channel tries own v))

carrier_out : (carrier : Option Carrier) (peer : ℕ) (sdu : List ℕ) → AllOut (said_by_carrier carrier peer sdu)
carrier_out None peer sdu = tt
carrier_out (Some (Plain agreed None)) peer sdu = (tt, tt)
carrier_out (Some (Plain agreed (Some waiting))) peer sdu = tt
carrier_out (Some (Retransmitting machine)) peer sdu = tt

given_out : (given : Option Given) (pdu : List ℕ) → AllOut (said_as given pdu)
given_out None pdu = tt
given_out (Some (Signal command)) pdu = tt
given_out (Some (Whole peer sdu)) pdu = tt
given_out (Some (Framed peer frame)) pdu = (tt, tt)

deaf_out : (policy : Policy) (one : Occurrence) (v : Channels) → HearsNothing one → AllOut (said_in policy one v)
deaf_out policy (Comes pdu) v deaf = absurd deaf
deaf_out policy (Connects psm) v deaf = asked_out v (connected psm v)
deaf_out policy AsksFeatures v deaf = asked_out v (asks_features v)
deaf_out policy (Disconnects own) v deaf = all_both IsSaidOut (asked_between v (disconnected own v)) (given_up own v (disconnected own v)) (asked_out v (disconnected own v)) (between_out (held_at own v) (held_at own (disconnected own v)))
deaf_out policy (Sends own sdu) v deaf = carrier_out (carrier_at own v) (peer_at (held_at own v)) sdu
deaf_out policy (Gives pdu) v deaf = given_out (next_given v) pdu
deaf_out policy Fires v deaf = channels_out policy.tries (map (λ held. held.own) v.held) v
deaf_out policy Tells v deaf = tt

all_out : (policy : Policy) (list : List Occurrence) (run : Run) → AllByRecursion HearsNothing list → AllOut run.said → AllOut (fold (run_on policy) run list).said
all_out policy [] run deaf out = out
all_out policy (one ∷ list) run deaf out = all_out policy list (run_on policy run one) deaf.1 (all_both IsSaidOut run.said (said_in policy one run.value) out (deaf_out policy one run.value deaf.0))

-- ---- so it has none

none_heard : (said : List Saying) (answer : Answer) → AllOut said → StandsIn (Command Into answer) said → ⊥
none_heard [] answer out stands = stands
none_heard (x ∷ said) answer out (inl same) = subst IsSaidOut same out.0
none_heard (x ∷ said) answer out (inr there) = none_heard said answer out.1 there

none_from : (said : List Saying) (channel : Channel) → AllOut said → Origin said channel → ⊥
none_from said channel out (identifier, status, inl (granted, asked)) = none_heard said _ out asked
none_from said channel out (identifier, status, inr (granted, asked)) = none_heard said _ out granted

pub deaf-covered : (party : Party) (policy : Policy) (list : List Occurrence) → AllByRecursion HearsNothing list → AreCovered party (run_of policy list).said
deaf-covered party policy list deaf = each (reading said).entries (all-from said)
  where
    said : List Saying
    said = (run_of policy list).said

    each : (entries : List Entry) → AllByRecursion (λ (entry : Entry). Origin (run_of policy list).said entry.channel) entries → AllByRecursion (λ (entry : Entry). entry.channel.psm ≡ 0x0003 → IsCoveredOn party entry.channel (run_of policy list).said) entries
    each [] all = tt
    each (entry ∷ entries) all = absurd (none_from said entry.channel (all_out policy list _ deaf tt) all.0)
