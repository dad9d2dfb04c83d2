-- How many identifiers a host takes that offers no channel, and that those of its requests that wait are apart.
use Rattle.std.proofs.Common.{◌≡◌, ℕ, ◌+◌, ◌-◌, ◌<◌, ◌≤◌, ◌⊎◌, inl, inr, List, [], ◌∷◌, ◌++◌, map, Bool, true, false, cond, eqb, not, ◌||◌, Option, Some, None, Result, Ok, Err, refl, sym, ap, subst, ◌∙◌, arith}
use Rattle.std.specs.Prelude.{find, filter, is_some, nat_le}
use Rattle.std.proofs.lemmas.Bool.{eqb-true, leb-false}
use Rattle.own_channel_laws.specs.talk_laws.specs.l2cap_config.specs.declared.options.Options.{Options}
use Rattle.own_channel_laws.specs.talk_laws.specs.l2cap_config.specs.declared.options.ConfigRefusal.{ConfigRefusal}
use Rattle.own_channel_laws.specs.talk_laws.specs.l2cap_config.specs.declared.agreement.ConfigAnswer.{ConfigAnswer}
use Rattle.own_channel_laws.specs.talk_laws.specs.l2cap_config.specs.declared.agreement.ConfigAnswer.TheVariants.{Accept, Unacceptable, Unknown}
use Rattle.own_channel_laws.specs.talk_laws.specs.l2cap_config.specs.declared.agreement.Settled.{Settled}
use Rattle.own_channel_laws.specs.talk_laws.specs.l2cap_config.specs.declared.agreement.Settled.TheVariants.{Accepted, Again, Wait, Never}
use Rattle.own_channel_laws.specs.talk_laws.specs.l2cap_config.specs.declared.wish.Wish.{Wish}
use Rattle.own_channel_laws.specs.talk_laws.specs.l2cap_config.specs.Reading.{options_read}
use Rattle.own_channel_laws.specs.talk_laws.specs.l2cap_config.specs.Agreement.{settled}
use Rattle.own_channel_laws.specs.channel_model.specs.ertm_model.specs.declared.reason.ErtmReason.{ErtmReason}
use Rattle.own_channel_laws.specs.channel_model.specs.ertm_model.specs.Value.{Ertm}
use Rattle.own_channel_laws.specs.channel_model.specs.declared.errand.Errand.{Errand}
use Rattle.own_channel_laws.specs.channel_model.specs.declared.errand.Errand.TheVariants as errands
use Rattle.own_channel_laws.specs.talk_laws.specs.l2cap_signal.specs.Commands.{Content, Command}
use Rattle.own_channel_laws.specs.channel_model.specs.Giving.{asking, connection_at, configuration_by, configuration_at, disconnection_at, on_held, features_command, command_of}
use Rattle.own_channel_laws.specs.channel_model.specs.declared.event.CloseReason.{CloseReason}
use Rattle.own_channel_laws.specs.channel_model.specs.declared.event.ChannelEvent.TheVariants.{Features}
use Rattle.own_channel_laws.specs.channel_model.specs.declared.event.CloseReason.TheVariants.{NoAgreement, Refused, OwnClosed}
use Rattle.own_channel_laws.specs.channel_model.specs.Value.{Request, Own, Unasked, Asking, Granted, Carrier, Plain, Retransmitting, Setup, no_setup, Stage, Requested, Connected, Leaving, Closing, Crossed, Held, Channels}
use Rattle.own_channel_laws.specs.channel_model.specs.Policies.{Policy}
use Rattle.own_channel_laws.specs.channel_model.specs.Changing.{has_own, in_place_of, has_fcs_by, is_peer, setup_of, stage_with, with_setup, to_setup, forgets, is_leaving, tells}
use Rattle.own_channel_laws.specs.channel_model.specs.Asking.{next_identifier, new_request, first_options, asks_options}
use Rattle.own_channel_laws.specs.channel_model.specs.Closing.{closes, closes_at, peer_closes_at, ends_at, ends}
use Rattle.own_channel_laws.specs.channel_model.specs.Configuring.{Verdict, NoChannel, TooLate, Unreadable, Incomplete, Judged, verdict, accepted_setup, without_parts, accepts_with, refused_setup, follows_answer, follows_verdict, opens_if, granted_setup, grants}
use Rattle.own_channel_laws.specs.channel_model.specs.Following.{follows_setup, follows_configuration, follows_disconnection}
use Rattle.own_channel_laws.specs.channel_model.specs.Responses.{is_fresh_endpoint, connects, hears_connected, hears_grant_at, hears_grant, renewed_setup, hears_settled, hears_options, is_asked, hears_response_on, hears_response, hears_end, has_identifier, hears_features}
use Rattle.own_channel_laws.specs.channel_model.specs.Carrying.{reason_of, settles_machine, machine_heard, read_by, carries, is_taken_with, shows, opens_with, takes_with, takes_on, takes_held}
use Rattle.channel_laws.specs.Named.{HaveNames}
use Rattle.own_channel_laws.specs.channel_model.proofs.Lookups.{own_of, Distinct, not_found, found-placed, find-placed, find-others, find-gone, distinct-filter, placed-distinct}
use Rattle.own_channel_laws.specs.channel_model.proofs.Going.{staged}
use Rattle.own_channel_laws.specs.channel_model.proofs.Walking.{found-own, with-found, with-setup}
use Rattle.own_channel_laws.specs.channel_model.proofs.Calling.{granted-same}

-- ---- what may still be asked of a channel

-- other options twice at most
abbrev pub renewals : (renewed : ℕ) → ℕ
renewals renewed = 2 - renewed

abbrev pub first_left : Own → ℕ
first_left Unasked = 1
first_left (Asking request options) = 0
first_left Granted = 0

-- its options, and its end
abbrev pub left_of : Stage → ℕ
left_of (Requested request) = 4
left_of (Connected peer setup) = first_left setup.own + (renewals setup.renewed + 1)
left_of (Leaving peer setup request) = first_left setup.own
left_of (Closing peer request checked) = 0
left_of (Crossed peer request) = 0

abbrev pub all_left : List Held → ℕ
all_left [] = 0
all_left (held ∷ helds) = left_of held.stage + all_left helds

pub placed_none : (held : Held) (hs : List Held) → find (has_own held.own) hs ≡ None → all_left (map (in_place_of held) hs) ≡ all_left hs
placed_none held [] none = refl
placed_none held (h ∷ hs) none =
    let parts = not_found (eqb h.own held.own) h (find (has_own held.own) hs) none in
    let later = placed_none held hs parts.1 in
    ap (λ (t : Bool). left_of (cond t held h).stage + all_left (map (in_place_of held) hs)) parts.0 ∙ ap (λ n. left_of h.stage + n) later

pub placed_left : (held : Held) (stage : Stage) (hs : List Held) → Distinct own_of hs → find (has_own held.own) hs ≡ Some held → all_left (map (in_place_of (staged held stage)) hs) + left_of held.stage ≡ all_left hs + left_of stage
placed_left held stage [] lone found = cc
placed_left held stage (h ∷ hs) lone found = by (eqb h.own held.own) refl found (placed_left held stage hs lone.1)
  where
    by : (same : Bool) → eqb h.own held.own ≡ same → cond same (Some h) (find (has_own held.own) hs) ≡ Some held
        → (find (has_own held.own) hs ≡ Some held → all_left (map (in_place_of (staged held stage)) hs) + left_of held.stage ≡ all_left hs + left_of stage)
        → (left_of (cond same (staged held stage) h).stage + all_left (map (in_place_of (staged held stage)) hs)) + left_of held.stage ≡ (left_of h.stage + all_left hs) + left_of stage
    by true is some more =
        let it : h ≡ held = cc in
        let away : find (has_own held.own) hs ≡ None = ap (λ n. find (has_own n) hs) (sym (eqb-true h.own held.own is)) ∙ lone.0 in
        let rest = placed_none (staged held stage) hs away in
        let here : left_of h.stage ≡ left_of held.stage = ap (λ (x : Held). left_of x.stage) it in
        omega (arith, rest, here)
    by false is some more = let later = more some in omega (arith, later)

pub filter_left : (passes : Held → Bool) (hs : List Held) → all_left (filter passes hs) ≤ all_left hs
filter_left passes [] = omega arith
filter_left passes (h ∷ hs) = by (passes h) (filter_left passes hs)
  where
    by : (t : Bool) → all_left (filter passes hs) ≤ all_left hs → all_left (cond t (h ∷ filter passes hs) (filter passes hs)) ≤ left_of h.stage + all_left hs
    by true later = omega (arith, later)
    by false later = omega (arith, later)

pub append-left : (hs : List Held) (h : Held) → all_left (hs ++ h ∷ []) ≡ all_left hs + left_of h.stage
append-left [] h = omega arith
append-left (x ∷ hs) h = let later = append-left hs h in omega (arith, later)

pub found-left : (own : ℕ) (hs : List Held) (held : Held) → find (has_own own) hs ≡ Some held → left_of held.stage ≤ all_left hs
found-left own [] held found = cc
found-left own (h ∷ hs) held found = by (eqb h.own own) found (found-left own hs held)
  where
    by : (same : Bool) → cond same (Some h) (find (has_own own) hs) ≡ Some held → (find (has_own own) hs ≡ Some held → left_of held.stage ≤ all_left hs) → left_of held.stage ≤ left_of h.stage + all_left hs
    by true some more = let it : h ≡ held = cc in let here : left_of h.stage ≡ left_of held.stage = ap (λ (x : Held). left_of x.stage) it in omega (arith, here)
    by false some more = let later = more some in omega (arith, later)

-- ---- the requests that wait

pub some_is : {X : Type 0} (x y : X) → Some x ≡ Some y → x ≡ y
some_is x y is = cc

pub only : {A : Type 0} → A ⊎ ⊥ → A
only (inl a) = a
only (inr none) = absurd none

-- no other request waits
abbrev pub WaitsLess : Channels → Channels → Type 0
WaitsLess v w = (errand : Errand) (command : Command) → command_of errand w ≡ Some command → command_of errand v ≡ Some command

-- but for one, with the identifier that was the next
abbrev pub WaitsAnew : Errand → Channels → Channels → Type 0
WaitsAnew asked v w = (errand : Errand) (command : Command) → command_of errand w ≡ Some command → (command_of errand v ≡ Some command) ⊎ ((errand ≡ asked) × (command.identifier ≡ v.identifier))

pub less_named : (v w : Channels) → w.identifier ≡ v.identifier → WaitsLess v w → HaveNames v → HaveNames w
less_named v w same less named = record {
  below = λ errand command is. let under = named.below errand command (less errand command is) in omega (arith, under, same);
  apart = λ one other first second is also equal. named.apart one other first second (less one first is) (less other second also) equal;
}

pub anew-named : (asked : Errand) (v w : Channels) → w.identifier ≡ v.identifier + 1 → WaitsAnew asked v w → HaveNames v → HaveNames w
anew-named asked v w next anew named = record {
  below = λ errand command is. under errand command (anew errand command is);
  apart = λ one other first second is also equal. by one other first second (anew one first is) (anew other second also) equal;
}
  where
    under : (errand : Errand) (command : Command) → (command_of errand v ≡ Some command) ⊎ ((errand ≡ asked) × (command.identifier ≡ v.identifier)) → command.identifier < w.identifier
    under errand command (inl was) = let less = named.below errand command was in omega (arith, less, next)
    under errand command (inr (same, now)) = omega (arith, now, next)

    by : (one other : Errand) (first second : Command) → (command_of one v ≡ Some first) ⊎ ((one ≡ asked) × (first.identifier ≡ v.identifier)) → (command_of other v ≡ Some second) ⊎ ((other ≡ asked) × (second.identifier ≡ v.identifier)) → first.identifier ≡ second.identifier → one ≡ other
    by one other first second (inl was) (inl also) equal = named.apart one other first second was also equal
    by one other first second (inl was) (inr (same, now)) equal = let less = named.below one first was in absurd (omega (arith, less, now, equal))
    by one other first second (inr (same, now)) (inl also) equal = let less = named.below other second also in absurd (omega (arith, less, now, equal))
    by one other first second (inr (same, now)) (inr (too, then)) equal = same ∙ sym too

pub same_waits : (v w : Channels) → w.held ≡ v.held → (features_command w.features ≡ None) ⊎ (features_command w.features ≡ features_command v.features) → WaitsLess v w
same_waits v w held features (errands.Connection own) command is = sym (ap (λ hs. on_held (λ h. connection_at h.stage h) (find (has_own own) hs)) held) ∙ is
same_waits v w held features (errands.Configuration own) command is = sym (ap (λ hs. on_held (λ h. configuration_at h.stage) (find (has_own own) hs)) held) ∙ is
same_waits v w held features (errands.Disconnection own) command is = sym (ap (λ hs. on_held (λ h. disconnection_at h.stage h) (find (has_own own) hs)) held) ∙ is
same_waits v w held (inl none) errands.Features command is = let never : None ≡ Some command = sym none ∙ is in absurd cc
same_waits v w held (inr same) errands.Features command is = sym same ∙ is

-- a request that waits no more, or as it did
abbrev pub Rests : (now was : Option Command) → Type 0
Rests now was = (now ≡ None) ⊎ (now ≡ was)

-- of one channel, as it goes on to a stage
pub record RestsAt (held : Held) (stage : Stage) : Type 0 where
  pub channel : Rests (connection_at stage (staged held stage)) (connection_at held.stage held)
  pub options : Rests (configuration_at stage) (configuration_at held.stage)
  pub ending : Rests (disconnection_at stage (staged held stage)) (disconnection_at held.stage held)

pub rested : (now was : Option Command) → Rests now was → (command : Command) → now ≡ Some command → was ≡ Some command
rested now was (inl none) command is = let never : None ≡ Some command = sym none ∙ is in absurd cc
rested now was (inr same) command is = sym same ∙ is

pub at_place : (v w : Channels) (held : Held) (stage : Stage) (f : Held → Option Command) (P : ℕ → Command → Type 0) → find (has_own held.own) v.held ≡ Some held → w.held ≡ map (in_place_of (staged held stage)) v.held
    → ((command : Command) → f (staged held stage) ≡ Some command → (f held ≡ Some command) ⊎ P held.own command)
    → (own : ℕ) (command : Command) → on_held f (find (has_own own) w.held) ≡ Some command → (on_held f (find (has_own own) v.held) ≡ Some command) ⊎ P own command
at_place v w held stage f P found held_is here own command is = by (eqb held.own own) refl
  where
    at : held.own ≡ own → (f held ≡ Some command) ⊎ P held.own command → (on_held f (find (has_own own) v.held) ≡ Some command) ⊎ P own command
    at same (inl was) = inl (ap (λ n. on_held f (find (has_own n) v.held)) (sym same) ∙ (ap (on_held f) found ∙ was))
    at same (inr new) = inr (subst (λ n. P n command) same new)

    by : (same : Bool) → eqb held.own own ≡ same → (on_held f (find (has_own own) v.held) ≡ Some command) ⊎ P own command
    by true now =
        let same : held.own ≡ own = eqb-true held.own own now in
        let w_is : find (has_own held.own) w.held ≡ Some (staged held stage) = ap (find (has_own held.own)) held_is ∙ found-placed (staged held stage) held v.held found in
        at same (here command (sym (ap (on_held f) w_is) ∙ (ap (λ n. on_held f (find (has_own n) w.held)) same ∙ is)))
    by false now = inl (sym (ap (on_held f) (ap (find (has_own own)) held_is ∙ find-placed (staged held stage) v.held own now)) ∙ is)

-- in place of a request for one thing there may be a new one
pub new_waits : (v w : Channels) (held : Held) (stage : Stage) (asked : Errand) → find (has_own held.own) v.held ≡ Some held → w.held ≡ map (in_place_of (staged held stage)) v.held → w.features ≡ v.features
    → ((command : Command) → connection_at stage (staged held stage) ≡ Some command → (connection_at held.stage held ≡ Some command) ⊎ ((errands.Connection held.own ≡ asked) × (command.identifier ≡ v.identifier)))
    → ((command : Command) → configuration_at stage ≡ Some command → (configuration_at held.stage ≡ Some command) ⊎ ((errands.Configuration held.own ≡ asked) × (command.identifier ≡ v.identifier)))
    → ((command : Command) → disconnection_at stage (staged held stage) ≡ Some command → (disconnection_at held.stage held ≡ Some command) ⊎ ((errands.Disconnection held.own ≡ asked) × (command.identifier ≡ v.identifier)))
    → WaitsAnew asked v w
new_waits v w held stage asked found held_is features_is a b c (errands.Connection own) command is =
    at_place v w held stage (λ h. connection_at h.stage h) (λ n command. (errands.Connection n ≡ asked) × (command.identifier ≡ v.identifier)) found held_is a own command is
new_waits v w held stage asked found held_is features_is a b c (errands.Configuration own) command is =
    at_place v w held stage (λ h. configuration_at h.stage) (λ n command. (errands.Configuration n ≡ asked) × (command.identifier ≡ v.identifier)) found held_is b own command is
new_waits v w held stage asked found held_is features_is a b c (errands.Disconnection own) command is =
    at_place v w held stage (λ h. disconnection_at h.stage h) (λ n command. (errands.Disconnection n ≡ asked) × (command.identifier ≡ v.identifier)) found held_is c own command is
new_waits v w held stage asked found held_is features_is a b c errands.Features command is = inl (ap features_command (sym features_is) ∙ is)

pub stage_less : (v w : Channels) (held : Held) (stage : Stage) → find (has_own held.own) v.held ≡ Some held → w.held ≡ map (in_place_of (staged held stage)) v.held → w.features ≡ v.features → RestsAt held stage → WaitsLess v w
stage_less v w held stage found held_is features_is rests (errands.Connection own) command is =
    only (at_place v w held stage (λ h. connection_at h.stage h) (λ n command. ⊥) found held_is (λ one at. inl (rested _ _ rests.channel one at)) own command is)
stage_less v w held stage found held_is features_is rests (errands.Configuration own) command is =
    only (at_place v w held stage (λ h. configuration_at h.stage) (λ n command. ⊥) found held_is (λ one at. inl (rested _ _ rests.options one at)) own command is)
stage_less v w held stage found held_is features_is rests (errands.Disconnection own) command is =
    only (at_place v w held stage (λ h. disconnection_at h.stage h) (λ n command. ⊥) found held_is (λ one at. inl (rested _ _ rests.ending one at)) own command is)
stage_less v w held stage found held_is features_is rests errands.Features command is = ap features_command (sym features_is) ∙ is

-- a channel is gone
pub gone_less : (v w : Channels) (held : Held) → w.held ≡ filter (λ other. not (eqb other.own held.own)) v.held → w.features ≡ v.features → WaitsLess v w
gone_less v w held held_is features_is = by
  where
    at : (f : Held → Option Command) (own : ℕ) (command : Command) → on_held f (find (has_own own) w.held) ≡ Some command → on_held f (find (has_own own) v.held) ≡ Some command
    at f own command is = here (eqb held.own own) refl
      where
        here : (same : Bool) → eqb held.own own ≡ same → on_held f (find (has_own own) v.held) ≡ Some command
        here true now =
            let same : held.own ≡ own = eqb-true held.own own now in
            let none : find (has_own own) w.held ≡ None = ap (λ n. find (has_own n) w.held) (sym same) ∙ (ap (find (has_own held.own)) held_is ∙ find-gone own_of held.own v.held) in
            let never : None ≡ Some command = sym (ap (on_held f) none) ∙ is in absurd cc
        here false now = sym (ap (on_held f) (ap (find (has_own own)) held_is ∙ find-others own_of held.own own v.held now)) ∙ is

    by : WaitsLess v w
    by (errands.Connection own) command is = at (λ h. connection_at h.stage h) own command is
    by (errands.Configuration own) command is = at (λ h. configuration_at h.stage) own command is
    by (errands.Disconnection own) command is = at (λ h. disconnection_at h.stage h) own command is
    by errands.Features command is = ap features_command (sym features_is) ∙ is

-- ---- one step

-- The identifiers that were taken, with what may still be asked, are as many as before, or fewer by what is asked no more; and while all of them are at
-- most 255, none comes round.
pub record TakesFew (more : ℕ) (v w : Channels) : Type 0 where
  pub lone : Distinct own_of w.held
  pub less : w.identifier + all_left w.held ≤ more + (v.identifier + all_left v.held)
  pub rises : more + (v.identifier + all_left v.held) ≤ 255 → v.identifier ≤ w.identifier
  pub named : more + (v.identifier + all_left v.held) ≤ 255 → HaveNames v → HaveNames w

abbrev pub Spends : Channels → Channels → Type 0
Spends v w = Distinct own_of v.held → TakesFew 0 v w

pub both-spend : (v u w : Channels) → Spends v u → Spends u w → Spends v w
both-spend v u w first second lone =
    let one = first lone in
    let two = second one.lone in
    let one_less = one.less in
    let two_less = two.less in
    record {
      lone = two.lone;
      less = omega (arith, one_less, two_less);
      rises = λ few. let one_rises = one.rises few in let two_rises = two.rises (omega (arith, few, one_less)) in omega (arith, one_rises, two_rises);
      named = λ few named. two.named (omega (arith, few, one_less)) (one.named few named);
    }

pub stills-spend : (v w : Channels) → w.held ≡ v.held → w.identifier ≡ v.identifier → (features_command w.features ≡ None) ⊎ (features_command w.features ≡ features_command v.features) → Spends v w
stills-spend v w held_is identifier_is features lone =
    let same : all_left w.held ≡ all_left v.held = ap all_left held_is in
    record {
      lone = subst (Distinct own_of) (sym held_is) lone;
      less = omega (arith, same, identifier_is);
      rises = λ few. omega (arith, identifier_is);
      named = λ few named. less_named v w identifier_is (same_waits v w held_is features) named;
    }

pub still-spends : (v w : Channels) → w.held ≡ v.held → w.identifier ≡ v.identifier → w.features ≡ v.features → Spends v w
still-spends v w held_is identifier_is features_is = stills-spend v w held_is identifier_is (inr (ap features_command features_is))

pub same-spends : (v : Channels) → Spends v v
same-spends v = still-spends v v refl refl refl

pub either : (b : Bool) (v x y : Channels) → Spends v x → Spends v y → Spends v (cond b x y)
either true v x y one other = one
either false v x y one other = other

pub drops : (v w : Channels) (held : Held) → w.held ≡ filter (λ other. not (eqb other.own held.own)) v.held → w.identifier ≡ v.identifier → w.features ≡ v.features → Spends v w
drops v w held held_is identifier_is features_is lone =
    let same : all_left w.held ≡ all_left (filter (λ other. not (eqb other.own held.own)) v.held) = ap all_left held_is in
    let fewer = filter_left (λ other. not (eqb other.own held.own)) v.held in
    record {
      lone = subst (Distinct own_of) (sym held_is) (distinct-filter own_of (λ other. not (eqb other.own held.own)) v.held lone);
      less = omega (arith, same, fewer, identifier_is);
      rises = λ few. omega (arith, identifier_is);
      named = λ few named. less_named v w identifier_is (gone_less v w held held_is features_is) named;
    }

-- a channel goes on, and nothing is asked
pub goes-on : (v w : Channels) (held : Held) (stage : Stage) → find (has_own held.own) v.held ≡ Some held → w.held ≡ map (in_place_of (staged held stage)) v.held → w.identifier ≡ v.identifier → w.features ≡ v.features → left_of stage ≤ left_of held.stage → RestsAt held stage → Spends v w
goes-on v w held stage found held_is identifier_is features_is fewer rests lone =
    let same : all_left w.held ≡ all_left (map (in_place_of (staged held stage)) v.held) = ap all_left held_is in
    let moved = placed_left held stage v.held lone found in
    record {
      lone = subst (Distinct own_of) (sym held_is) (placed-distinct (staged held stage) v.held lone);
      less = omega (arith, same, moved, fewer, identifier_is);
      rises = λ few. omega (arith, identifier_is);
      named = λ few named. less_named v w identifier_is (stage_less v w held stage found held_is features_is rests) named;
    }

pub next-less : (n : ℕ) → next_identifier n ≤ n + 1
next-less n = by (eqb n 255) refl
  where
    by : (last : Bool) → eqb n 255 ≡ last → cond last 1 (n + 1) ≤ n + 1
    by true is = omega arith
    by false is = omega arith

pub next-more : (n : ℕ) → n ≤ 254 → next_identifier n ≡ n + 1
next-more n low = by (eqb n 255) refl
  where
    by : (last : Bool) → eqb n 255 ≡ last → cond last 1 (n + 1) ≡ n + 1
    by true is = let never = eqb-true n 255 is in absurd (omega (arith, never, low))
    by false is = refl

-- it goes on, and asks
pub asks-on : (v w : Channels) (held : Held) (stage : Stage) → find (has_own held.own) v.held ≡ Some held → w.held ≡ map (in_place_of (staged held stage)) v.held → w.identifier ≡ next_identifier v.identifier → 1 + left_of stage ≤ left_of held.stage → (asked : Errand) → WaitsAnew asked v w → Spends v w
asks-on v w held stage found held_is identifier_is fewer asked anew lone =
    let same : all_left w.held ≡ all_left (map (in_place_of (staged held stage)) v.held) = ap all_left held_is in
    let moved = placed_left held stage v.held lone found in
    let next = next-less v.identifier in
    let some = found-left held.own v.held held found in
    record {
      lone = subst (Distinct own_of) (sym held_is) (placed-distinct (staged held stage) v.held lone);
      less = omega (arith, same, moved, fewer, identifier_is, next);
      rises = λ few. let now = next-more v.identifier (omega (arith, few, some, fewer)) in omega (arith, identifier_is, now);
      named = λ few named. anew-named asked v w (identifier_is ∙ next-more v.identifier (omega (arith, few, some, fewer))) anew named;
    }

-- for options, or for its end
pub asks_options_on : (v w : Channels) (held : Held) (stage : Stage) → find (has_own held.own) v.held ≡ Some held → w.held ≡ map (in_place_of (staged held stage)) v.held → w.identifier ≡ next_identifier v.identifier → w.features ≡ v.features → 1 + left_of stage ≤ left_of held.stage
    → Rests (connection_at stage (staged held stage)) (connection_at held.stage held) → Rests (disconnection_at stage (staged held stage)) (disconnection_at held.stage held) → ((command : Command) → configuration_at stage ≡ Some command → command.identifier ≡ v.identifier) → Spends v w
asks_options_on v w held stage found held_is identifier_is features_is fewer a c new = asks-on v w held stage found held_is identifier_is fewer (errands.Configuration held.own)
    (new_waits v w held stage (errands.Configuration held.own) found held_is features_is (λ one at. inl (rested _ _ a one at)) (λ one at. inr (refl, new one at)) (λ one at. inl (rested _ _ c one at)))

pub asks-end_on : (v w : Channels) (held : Held) (stage : Stage) → find (has_own held.own) v.held ≡ Some held → w.held ≡ map (in_place_of (staged held stage)) v.held → w.identifier ≡ next_identifier v.identifier → w.features ≡ v.features → 1 + left_of stage ≤ left_of held.stage
    → Rests (connection_at stage (staged held stage)) (connection_at held.stage held) → Rests (configuration_at stage) (configuration_at held.stage) → ((command : Command) → disconnection_at stage (staged held stage) ≡ Some command → command.identifier ≡ v.identifier) → Spends v w
asks-end_on v w held stage found held_is identifier_is features_is fewer a b new = asks-on v w held stage found held_is identifier_is fewer (errands.Disconnection held.own)
    (new_waits v w held stage (errands.Disconnection held.own) found held_is features_is (λ one at. inl (rested _ _ a one at)) (λ one at. inl (rested _ _ b one at)) (λ one at. inr (refl, new one at)))

pub named-so : (request : Request) (content : Content) (command : Command) → asking request content ≡ Some command → command.identifier ≡ request.identifier
named-so request content command is = ap (λ (c : Command). c.identifier) (sym (some_is (record { identifier = request.identifier; content = content }) command is))

-- ---- a channel is closed

pub closes_spend : (v : Channels) (held : Held) (reason : CloseReason) (stage : Stage) → held.stage ≡ stage → find (has_own held.own) v.held ≡ Some held → Spends v (closes_at stage reason held v)
closes_spend v held reason (Requested request) is found = drops v (closes_at (Requested request) reason held v) held refl refl refl
closes_spend v held reason (Connected peer setup) is found =
    let now : left_of held.stage ≡ first_left setup.own + (renewals setup.renewed + 1) = ap left_of is in
    asks-end_on v (closes_at (Connected peer setup) reason held v) held (Closing peer (new_request v) (has_fcs_by setup)) found refl refl refl (omega (arith, now)) (inl refl) (inl refl) (λ command asked. named-so (new_request v) _ command asked)
closes_spend v held reason (Leaving peer setup request) is found = goes-on v (closes_at (Leaving peer setup request) reason held v) held (Closing peer request (has_fcs_by setup)) found refl refl refl (omega arith)
    (record { channel = inl refl; options = inl refl; ending = inr (sym (ap (λ s. disconnection_at s held) is)) })
closes_spend v held reason (Closing peer request checked) is found = same-spends v
closes_spend v held reason (Crossed peer request) is found = same-spends v

pub closed-spends : (v : Channels) (held : Held) (reason : CloseReason) → find (has_own held.own) v.held ≡ Some held → Spends v (closes reason held v)
closed-spends v held reason found = closes_spend v held reason held.stage refl found

pub peer_spends : (v : Channels) (held : Held) (stage : Stage) → held.stage ≡ stage → find (has_own held.own) v.held ≡ Some held → Spends v (peer_closes_at stage held v)
peer_spends v held (Requested request) is found = same-spends v
peer_spends v held (Connected peer setup) is found = drops v (peer_closes_at (Connected peer setup) held v) held refl refl refl
peer_spends v held (Leaving peer setup request) is found = goes-on v (peer_closes_at (Leaving peer setup request) held v) held (Crossed peer request) found refl refl refl (omega arith)
    (record { channel = inl refl; options = inl refl; ending = inr (sym (ap (λ s. disconnection_at s held) is)) })
peer_spends v held (Closing peer request checked) is found = goes-on v (peer_closes_at (Closing peer request checked) held v) held (Crossed peer request) found refl refl refl (omega arith)
    (record { channel = inl refl; options = inl refl; ending = inr (sym (ap (λ s. disconnection_at s held) is)) })
peer_spends v held (Crossed peer request) is found = same-spends v

pub ends-spend : (v : Channels) (held : Held) (reason : CloseReason) (stage : Stage) → Spends v (ends_at stage reason held v)
ends-spend v held reason (Requested request) = same-spends v
ends-spend v held reason (Connected peer setup) = same-spends v
ends-spend v held reason (Leaving peer setup request) = drops v (ends_at (Leaving peer setup request) reason held v) held refl refl refl
ends-spend v held reason (Closing peer request checked) = drops v (ends_at (Closing peer request checked) reason held v) held refl refl refl
ends-spend v held reason (Crossed peer request) = drops v (ends_at (Crossed peer request) reason held v) held refl refl refl

-- ---- options

pub with_left : (before after : Setup) (stage : Stage) → setup_of stage ≡ Some before → first_left after.own ≤ first_left before.own → after.renewed ≡ before.renewed → left_of (stage_with after stage) ≤ left_of stage
with_left before after (Requested request) is own renewed = cc
with_left before after (Connected peer setup) is own renewed =
    let it : setup ≡ before = cc in
    let one : first_left setup.own ≡ first_left before.own = ap (λ (s : Setup). first_left s.own) it in
    let two : renewals after.renewed ≡ renewals setup.renewed = ap renewals (renewed ∙ ap (λ (s : Setup). s.renewed) (sym it)) in
    omega (arith, own, one, two)
with_left before after (Leaving peer setup request) is own renewed =
    let it : setup ≡ before = cc in
    let one : first_left setup.own ≡ first_left before.own = ap (λ (s : Setup). first_left s.own) it in omega (arith, own, one)
with_left before after (Closing peer request checked) is own renewed = cc
with_left before after (Crossed peer request) is own renewed = cc

-- the requests of a channel whose options go on
pub rests_with : (held : Held) (stage : Stage) (setup after : Setup) → setup_of stage ≡ Some setup → ((peer : ℕ) → Rests (configuration_by after.own peer) (configuration_by setup.own peer))
    → Rests (connection_at (stage_with after stage) (staged held (stage_with after stage))) (connection_at stage held) × Rests (configuration_at (stage_with after stage)) (configuration_at stage)
    × Rests (disconnection_at (stage_with after stage) (staged held (stage_with after stage))) (disconnection_at stage held)
rests_with held (Requested request) setup after is own = cc
rests_with held (Connected peer s) setup after is own = let it : s ≡ setup = cc in (inl refl, subst (λ (x : Setup). Rests (configuration_by after.own peer) (configuration_by x.own peer)) (sym it) (own peer), inl refl)
rests_with held (Leaving peer s request) setup after is own = let it : s ≡ setup = cc in (inl refl, subst (λ (x : Setup). Rests (configuration_by after.own peer) (configuration_by x.own peer)) (sym it) (own peer), inr refl)
rests_with held (Closing peer request checked) setup after is own = cc
rests_with held (Crossed peer request) setup after is own = cc

pub rests_setup : (held : Held) (setup after : Setup) → setup_of held.stage ≡ Some setup → ((peer : ℕ) → Rests (configuration_by after.own peer) (configuration_by setup.own peer)) → RestsAt held (stage_with after held.stage)
rests_setup held setup after is own = let (a, b, c) = rests_with held held.stage setup after is own in record { channel = a; options = b; ending = c }

pub setup-spends : (v w : Channels) (held : Held) (setup after : Setup) → find (has_own held.own) v.held ≡ Some held → setup_of held.stage ≡ Some setup → w.held ≡ (to_setup held after v).held → w.identifier ≡ v.identifier → w.features ≡ v.features
    → first_left after.own ≤ first_left setup.own → after.renewed ≡ setup.renewed → ((peer : ℕ) → Rests (configuration_by after.own peer) (configuration_by setup.own peer)) → Spends v w
setup-spends v w held setup after found is held_is identifier_is features_is own renewed rests =
    goes-on v w held (stage_with after held.stage) found held_is identifier_is features_is (with_left setup after held.stage is own renewed) (rests_setup held setup after is rests)

-- the first request for options
pub first_less : (before after : Setup) (request : Request) (options : Options) (stage : Stage) → setup_of stage ≡ Some before → before.own ≡ Unasked → after.renewed ≡ before.renewed → (let asked : Setup = record after { own = Asking request options } in 1 + left_of (stage_with asked stage) ≤ left_of stage)
first_less before after request options (Requested r) is own renewed = cc
first_less before after request options (Connected peer setup) is own renewed =
    let it : setup ≡ before = cc in
    let one : first_left setup.own ≡ 1 = ap (λ (s : Setup). first_left s.own) it ∙ ap first_left own in
    let two : renewals after.renewed ≡ renewals setup.renewed = ap renewals (renewed ∙ ap (λ (s : Setup). s.renewed) (sym it)) in
    omega (arith, one, two)
first_less before after request options (Leaving peer setup r) is own renewed =
    let it : setup ≡ before = cc in
    let one : first_left setup.own ≡ 1 = ap (λ (s : Setup). first_left s.own) it ∙ ap first_left own in omega (arith, one)
first_less before after request options (Closing peer r checked) is own renewed = cc
first_less before after request options (Crossed peer r) is own renewed = cc

-- and each behind it
pub renewed_less : (n : ℕ) → nat_le 3 (n + 1) ≡ false → 1 + renewals (n + 1) ≤ renewals n
renewed_less n more = let few = leb-false 3 (n + 1) more in omega (arith, few)

pub again_less : (before : Setup) (request : Request) (options : Options) (stage : Stage) → setup_of stage ≡ Some before → is_leaving stage ≡ false → nat_le 3 (before.renewed + 1) ≡ false
    → (let asked : Setup = record (renewed_setup before) { own = Asking request options } in 1 + left_of (stage_with asked stage) ≤ left_of stage)
again_less before request options (Requested r) is leaving more = cc
again_less before request options (Connected peer setup) is leaving more =
    let it : setup ≡ before = cc in
    let two : renewals before.renewed ≡ renewals setup.renewed = ap (λ (s : Setup). renewals s.renewed) (sym it) in
    let few = renewed_less before.renewed more in
    omega (arith, two, few)
again_less before request options (Leaving peer setup r) is leaving more = let never : true ≡ false = leaving in absurd cc
again_less before request options (Closing peer r checked) is leaving more = cc
again_less before request options (Crossed peer r) is leaving more = cc

pub asked_spends : (v : Channels) (held : Held) (after : Setup) (options : Options) → find (has_own held.own) v.held ≡ Some held → (let asked : Setup = record after { own = Asking (new_request v) options } in 1 + left_of (stage_with asked held.stage) ≤ left_of held.stage) → Spends v (asks_options held after options v)
asked_spends v held after options found fewer =
    asks_options_on v (asks_options held after options v) held (stage_with asked held.stage) found refl refl refl fewer (rests_asked held.stage).0 (rests_asked held.stage).1 (named_asked held.stage)
  where
    asked : Setup
    asked = record after { own = Asking (new_request v) options }

    rests_asked : (stage : Stage) → Rests (connection_at (stage_with asked stage) (staged held (stage_with asked stage))) (connection_at stage held) × Rests (disconnection_at (stage_with asked stage) (staged held (stage_with asked stage))) (disconnection_at stage held)
    rests_asked (Requested request) = (inr refl, inl refl)
    rests_asked (Connected peer setup) = (inl refl, inl refl)
    rests_asked (Leaving peer setup request) = (inl refl, inr refl)
    rests_asked (Closing peer request checked) = (inl refl, inr refl)
    rests_asked (Crossed peer request) = (inl refl, inr refl)

    named_asked : (stage : Stage) (command : Command) → configuration_at (stage_with asked stage) ≡ Some command → command.identifier ≡ v.identifier
    named_asked (Requested request) command is = cc
    named_asked (Connected peer setup) command is = named-so (new_request v) _ command is
    named_asked (Leaving peer setup request) command is = named-so (new_request v) _ command is
    named_asked (Closing peer request checked) command is = cc
    named_asked (Crossed peer request) command is = cc

pub grants_spend : (v : Channels) (held : Held) (setup : Setup) → find (has_own held.own) v.held ≡ Some held → setup_of held.stage ≡ Some setup → Spends v (grants held setup v)
grants_spend v held setup found is = by (is_some setup.carrier)
  where
    by : (b : Bool) → Spends v (opens_if b held (to_setup held (granted_setup setup) (forgets (errands.Configuration held.own) v)))
    by true = setup-spends v (opens_if true held (to_setup held (granted_setup setup) (forgets (errands.Configuration held.own) v))) held setup (granted_setup setup) found is refl refl refl (omega arith) refl (λ peer. inl refl)
    by false = setup-spends v (to_setup held (granted_setup setup) (forgets (errands.Configuration held.own) v)) held setup (granted_setup setup) found is refl refl refl (omega arith) refl (λ peer. inl refl)

pub kept_own : (after setup : Setup) → after.own ≡ setup.own → first_left after.own ≤ first_left setup.own
kept_own after setup same = let it : first_left after.own ≡ first_left setup.own = ap first_left same in omega (arith, it)

pub accepts_spend : (v : Channels) (own : Own) (wish : Wish) (held : Held) (setup after : Setup) → setup.own ≡ own → after.own ≡ setup.own → after.renewed ≡ setup.renewed → find (has_own held.own) v.held ≡ Some held → setup_of held.stage ≡ Some setup → Spends v (accepts_with own wish held after v)
accepts_spend v Unasked wish held setup after own_is same renewed found is = asked_spends v held after (first_options wish) found (first_less setup after (new_request v) (first_options wish) held.stage is own_is renewed)
accepts_spend v (Asking request options) wish held setup after own_is same renewed found is = setup-spends v (to_setup held after v) held setup after found is refl refl refl (kept_own after setup same) renewed (λ peer. inr (ap (λ own. configuration_by own peer) same))
accepts_spend v Granted wish held setup after own_is same renewed found is = setup-spends v (accepts_with Granted wish held after v) held setup after found is refl refl refl (kept_own after setup same) renewed (λ peer. inr (ap (λ own. configuration_by own peer) same))

pub third_spends : (v : Channels) (held : Held) (setup after : Setup) → setup_of held.stage ≡ Some setup → after.own ≡ setup.own → left_of (stage_with after held.stage) ≤ left_of held.stage → find (has_own held.own) v.held ≡ Some held → Spends v (closes NoAgreement (with_setup held after) (to_setup held after v))
third_spends v held setup after is same fewer found =
    let u : Channels = to_setup held after v in
    both-spend v u (closes NoAgreement (with_setup held after) u) (goes-on v u held (stage_with after held.stage) found refl refl refl fewer (rests_setup held setup after is (λ peer. inr (ap (λ own. configuration_by own peer) same))))
    (closed-spends u (with_setup held after) NoAgreement (with-found v held after found))

pub answer_spends : (v : Channels) (answer : ConfigAnswer) (wish : Wish) (options : Options) (held : Held) (setup : Setup) → find (has_own held.own) v.held ≡ Some held → setup_of held.stage ≡ Some setup → Spends v (follows_answer answer wish options held setup v)
answer_spends v (Accept given) wish options held setup found is = accepts_spend v setup.own wish held setup (accepted_setup wish options setup) refl refl refl found is
answer_spends v (Unacceptable refusal given) wish options held setup found is =
    let after : Setup = refused_setup setup in
    either (nat_le 3 after.refused) v (closes NoAgreement (with_setup held after) (to_setup held after v)) (to_setup held after v) (third_spends v held setup after is refl (with_left setup after held.stage is (omega arith) refl) found)
    (setup-spends v (to_setup held after v) held setup after found is refl refl refl (omega arith) refl (λ peer. inr refl))
answer_spends v Unknown wish options held setup found is = setup-spends v (to_setup held (without_parts setup) v) held setup (without_parts setup) found is refl refl refl (omega arith) refl (λ peer. inr refl)

pub verdict_spends : (v : Channels) (now : Verdict) (wish : Wish) (held : Held) (setup : Setup) → find (has_own held.own) v.held ≡ Some held → setup_of held.stage ≡ Some setup → Spends v (follows_verdict now wish held setup v)
verdict_spends v NoChannel wish held setup found is = same-spends v
verdict_spends v (TooLate peer) wish held setup found is = same-spends v
verdict_spends v (Unreadable peer) wish held setup found is = setup-spends v (to_setup held (without_parts setup) v) held setup (without_parts setup) found is refl refl refl (omega arith) refl (λ peer. inr refl)
verdict_spends v (Incomplete peer options) wish held setup found is =
    let after : Setup = record setup { parts = options } in setup-spends v (to_setup held after v) held setup after found is refl refl refl (omega arith) refl (λ peer. inr refl)
verdict_spends v (Judged peer options answer) wish held setup found is = answer_spends v answer wish options held setup found is

pub setup_follows : (v : Channels) (setup : Option Setup) (policy : Policy) (held : Held) (flags : ℕ) (octets : List ℕ) → find (has_own held.own) v.held ≡ Some held → setup_of held.stage ≡ setup → Spends v (follows_setup setup policy held flags octets v)
setup_follows v None policy held flags octets found is = same-spends v
setup_follows v (Some setup) policy held flags octets found is = verdict_spends v (verdict policy held.own flags octets v) (policy.wish held.psm) held setup found is

pub configuration-spends : (v : Channels) (own : ℕ) (held : Option Held) (policy : Policy) (flags : ℕ) (octets : List ℕ) → find (has_own own) v.held ≡ held → Spends v (follows_configuration held policy flags octets v)
configuration-spends v own None policy flags octets is = same-spends v
configuration-spends v own (Some held) policy flags octets is = setup_follows v (setup_of held.stage) policy held flags octets (found-own own v held is) refl

pub disconnection-spends : (v : Channels) (own : ℕ) (held : Option Held) (peer : ℕ) → find (has_own own) v.held ≡ held → Spends v (follows_disconnection held peer v)
disconnection-spends v own None peer is = same-spends v
disconnection-spends v own (Some held) peer is = either (is_peer peer held.stage) v (peer_closes_at held.stage held v) v (peer_spends v held held.stage refl (found-own own v held is)) (same-spends v)

-- ---- what the peer responds about channels

pub connected_spends : (v : Channels) (policy : Policy) (endpoint result : ℕ) (held : Held) (request : Request) → held.stage ≡ Requested request → find (has_own held.own) v.held ≡ Some held → Spends v (hears_connected policy endpoint result held v)
connected_spends v policy endpoint result held request is found =
    let made : Channels = connects (policy.wish held.psm) endpoint held v in
    let refused : Channels = closes (Refused result) held v in
    let asked : Setup = record no_setup { own = Asking (new_request v) (first_options (policy.wish held.psm)) } in
    let before : left_of held.stage ≡ 4 = ap left_of is in
    let goes : Spends v made = asks_options_on v made held (Connected endpoint asked) found refl refl refl (omega (arith, before)) (inl refl) (inl refl) (λ command at. named-so (new_request v) _ command at) in
    either (eqb result 0) v (cond (is_fresh_endpoint endpoint v) made v) (cond (eqb result 1) v refused) (either (is_fresh_endpoint endpoint v) v made v goes (same-spends v))
    (either (eqb result 1) v v refused (same-spends v) (closed-spends v held (Refused result) found))

pub grant_at : (v : Channels) (stage : Stage) (policy : Policy) (identifier endpoint result : ℕ) (held : Held) → held.stage ≡ stage → find (has_own held.own) v.held ≡ Some held → Spends v (hears_grant_at stage policy identifier endpoint result held v)
grant_at v (Requested request) policy identifier endpoint result held is found =
    either (eqb request.identifier identifier) v (hears_connected policy endpoint result held v) v (connected_spends v policy endpoint result held request is found) (same-spends v)
grant_at v (Connected peer setup) policy identifier endpoint result held is found = same-spends v
grant_at v (Leaving peer setup request) policy identifier endpoint result held is found = same-spends v
grant_at v (Closing peer request checked) policy identifier endpoint result held is found = same-spends v
grant_at v (Crossed peer request) policy identifier endpoint result held is found = same-spends v

pub grant-spends : (v : Channels) (own : ℕ) (held : Option Held) (policy : Policy) (identifier endpoint result : ℕ) → find (has_own own) v.held ≡ held → Spends v (hears_grant held policy identifier endpoint result v)
grant-spends v own None policy identifier endpoint result is = same-spends v
grant-spends v own (Some held) policy identifier endpoint result is = grant_at v held.stage policy identifier endpoint result held refl (found-own own v held is)

pub settled_spends : (v : Channels) (now : Settled) (held : Held) (setup : Setup) → find (has_own held.own) v.held ≡ Some held → setup_of held.stage ≡ Some setup → Spends v (hears_settled now held setup v)
settled_spends v Accepted held setup found is = grants_spend v held setup found is
settled_spends v (Again options) held setup found is = by (is_leaving held.stage) refl (nat_le 3 (setup.renewed + 1)) refl
  where
    after : Setup
    after = renewed_setup setup

    fewer_by : (stage : Stage) → setup_of stage ≡ Some setup → left_of (stage_with after stage) ≤ left_of stage
    fewer_by (Requested request) is = cc
    fewer_by (Connected peer s) is = let it : s ≡ setup = cc in let one : first_left s.own ≡ first_left setup.own = ap (λ (x : Setup). first_left x.own) it in let two : renewals s.renewed ≡ renewals setup.renewed = ap (λ (x : Setup). renewals x.renewed) it in omega (arith, one, two)
    fewer_by (Leaving peer s request) is = let it : s ≡ setup = cc in let one : first_left s.own ≡ first_left setup.own = ap (λ (x : Setup). first_left x.own) it in omega (arith, one)
    fewer_by (Closing peer request checked) is = cc
    fewer_by (Crossed peer request) is = cc

    by : (leaving : Bool) → is_leaving held.stage ≡ leaving → (third : Bool) → nat_le 3 (setup.renewed + 1) ≡ third → Spends v (cond (leaving || third) (closes NoAgreement (with_setup held after) (to_setup held after v)) (asks_options held after options v))
    by true l third t = third_spends v held setup after is refl (fewer_by held.stage is) found
    by false l true t = third_spends v held setup after is refl (fewer_by held.stage is) found
    by false l false t = asked_spends v held after options found (again_less setup (new_request v) options held.stage is l t)
settled_spends v Wait held setup found is = same-spends v
settled_spends v Never held setup found is = closed-spends v held NoAgreement found

pub options_spend : (v : Channels) (given : Result Options ConfigRefusal) (policy : Policy) (result : ℕ) (held : Held) (setup : Setup) → find (has_own held.own) v.held ≡ Some held → setup_of held.stage ≡ Some setup → Spends v (hears_options given policy result held setup v)
options_spend v (Ok options) policy result held setup found is = settled_spends v (settled (policy.wish held.psm) result options) held setup found is
options_spend v (Err refusal) policy result held setup found is = same-spends v

pub response_on : (v : Channels) (setup : Option Setup) (policy : Policy) (identifier result : ℕ) (octets : List ℕ) (held : Held) → find (has_own held.own) v.held ≡ Some held → setup_of held.stage ≡ setup → Spends v (hears_response_on setup policy identifier result octets held v)
response_on v None policy identifier result octets held found is = same-spends v
response_on v (Some setup) policy identifier result octets held found is =
    either (is_asked identifier setup.own) v (hears_options (options_read octets) policy result held setup v) v (options_spend v (options_read octets) policy result held setup found is) (same-spends v)

pub response-spends : (v : Channels) (own : ℕ) (held : Option Held) (policy : Policy) (identifier result : ℕ) (octets : List ℕ) → find (has_own own) v.held ≡ held → Spends v (hears_response held policy identifier result octets v)
response-spends v own None policy identifier result octets is = same-spends v
response-spends v own (Some held) policy identifier result octets is = response_on v (setup_of held.stage) policy identifier result octets held (found-own own v held is) refl

pub end-spends : (v : Channels) (held : Option Held) (peer : ℕ) → Spends v (hears_end held peer v)
end-spends v None peer = same-spends v
end-spends v (Some held) peer = either (is_peer peer held.stage) v (ends OwnClosed held v) v (ends-spend v held OwnClosed held.stage) (same-spends v)

pub features-spend : (v : Channels) (identifier : ℕ) (given : Option ℕ) → Spends v (hears_features identifier given v)
features-spend v identifier given = by (has_identifier identifier v.features)
  where
    by : (same : Bool) → Spends v (cond same (tells (Features given) (forgets errands.Features (record v { features = None }))) v)
    by true = stills-spend v (tells (Features given) (forgets errands.Features (record v { features = None }))) refl refl (inl refl)
    by false = same-spends v

-- ---- a PDU on a channel

pub settles-spend : (v : Channels) (closed : Option ErtmReason) (machine : Ertm) (held : Held) (setup : Setup) → find (has_own held.own) v.held ≡ Some held → setup_of held.stage ≡ Some setup → Spends v (settles_machine closed machine held setup v)
settles-spend v None machine held setup found is =
    let after : Setup = record setup { carrier = Some (Retransmitting machine) } in setup-spends v (to_setup held after v) held setup after found is refl refl refl (omega arith) refl (λ peer. inr refl)
settles-spend v (Some reason) machine held setup found is = closed-spends v held (reason_of reason) found

pub carries_spend : (v : Channels) (carrier : Carrier) (pdu : List ℕ) (held : Held) (setup : Setup) → find (has_own held.own) v.held ≡ Some held → setup_of held.stage ≡ Some setup → Spends v (carries carrier pdu held setup v)
carries_spend v (Plain agreed waiting) pdu held setup found is = same-spends v
carries_spend v (Retransmitting machine) pdu held setup found is = let after : Ertm = machine_heard (read_by machine pdu) machine in settles-spend v after.closed after held setup found is

pub opened_spends : (v : Channels) (pdu : List ℕ) (held : Held) (setup : Setup) (carrier : Carrier) (own : Own) → setup.own ≡ own → find (has_own held.own) v.held ≡ Some held → setup_of held.stage ≡ Some setup
    → Spends v (cond (is_taken_with own carrier pdu) (carries carrier pdu (with_setup held (granted_setup setup)) (granted_setup setup) (opens_with own held setup v)) v)
opened_spends v pdu held setup carrier Unasked own_is found is = same-spends v
opened_spends v pdu held setup carrier (Asking request options) own_is found is =
    let u : Channels = grants held setup v in
    let w : Channels = carries carrier pdu (with_setup held (granted_setup setup)) (granted_setup setup) u in
    either (shows carrier pdu) v w v
    (both-spend v u w (grants_spend v held setup found is) (carries_spend u carrier pdu (with_setup held (granted_setup setup)) (granted_setup setup) (there (is_some setup.carrier)) (with-setup held.stage setup (granted_setup setup) is))) (same-spends v)
  where
    there : (b : Bool) → find (has_own held.own) (opens_if b held (to_setup held (granted_setup setup) (forgets (errands.Configuration held.own) v))).held ≡ Some (with_setup held (granted_setup setup))
    there true = with-found v held (granted_setup setup) found
    there false = with-found v held (granted_setup setup) found
opened_spends v pdu held setup carrier Granted own_is found is =
    let same : with_setup held (granted_setup setup) ≡ held = ap (λ (s : Stage). let h : Held = record held { stage = s } in h) (granted-same held.stage setup is own_is) in
    carries_spend v carrier pdu (with_setup held (granted_setup setup)) (granted_setup setup) (found ∙ ap Some (sym same)) (with-setup held.stage setup (granted_setup setup) is)

pub taken_with : (v : Channels) (carrier : Option Carrier) (pdu : List ℕ) (held : Held) (setup : Setup) → find (has_own held.own) v.held ≡ Some held → setup_of held.stage ≡ Some setup → Spends v (takes_with carrier pdu held setup v)
taken_with v None pdu held setup found is = same-spends v
taken_with v (Some carrier) pdu held setup found is = opened_spends v pdu held setup carrier setup.own refl found is

pub taken_on : (v : Channels) (setup : Option Setup) (pdu : List ℕ) (held : Held) → find (has_own held.own) v.held ≡ Some held → setup_of held.stage ≡ setup → Spends v (takes_on setup pdu held v)
taken_on v None pdu held found is = same-spends v
taken_on v (Some setup) pdu held found is = taken_with v setup.carrier pdu held setup found is

pub taken-held : (v : Channels) (own : ℕ) (held : Option Held) (pdu : List ℕ) → find (has_own own) v.held ≡ held → Spends v (takes_held held pdu v)
taken-held v own None pdu is = same-spends v
taken-held v own (Some held) pdu is = taken_on v (setup_of held.stage) pdu held (found-own own v held is) refl
