-- What a host does whose profile is seen as another, the host of that other does.
use Rattle.std.proofs.Common.{◌≡◌, ◌&&◌, ◌||◌, not, ℕ, zero, suc, Bool, true, false, List, [], ◌∷◌, Option, Some, None, is_some, refl, sym, ap, ◌∙◌, if◌then◌else◌}
use Rattle.pair_laws.specs.bt_base.specs.declared.settings.Settings.{Settings}
use Rattle.pair_laws.specs.acl_fragments.specs.Pieces.{channel_of}
use Rattle.pair_laws.specs.channel_model.specs.declared.event.ChannelEvent.{ChannelEvent}
use Rattle.pair_laws.specs.channel_model.specs.Value.{Channels}
use Rattle.pair_laws.specs.channel_model.specs.Calls.{link_down}
use Rattle.pair_laws.specs.channel_model.specs.Calls as channels
use Rattle.pair_laws.specs.channel_model.specs.Carrying.{Up as Handed, Nothing, Received}
use Rattle.pair_laws.specs.channel_model.specs.Giving.{Given, next_given, after_given}
use Rattle.pair_laws.specs.channel_model.specs.Hearing.{hears, up}
use Rattle.pair_laws.specs.channel_model.specs.Policies.{Policy}
use Rattle.pair_laws.specs.channel_model.specs.Timing.{timed_out}
use Rattle.pair_laws.specs.push_terms.specs.declared.outcome.Outcome.{Outcome}
use Rattle.pair_laws.specs.world_model.specs.Machines.{Upper, News, Linked, Up, Down, Failed, Heard, TimerFired, Cancelled, Opening}
use Rattle.pair_laws.specs.run_laws.specs.Embedding.{said_as, Embeds}
use Rattle.pair_laws.specs.host_model.specs.Circumstances.{Circumstance}
use Rattle.pair_laws.specs.host_model.specs.Hosts.{Host, with_channels, tells_each, tells_events, settles, strides, goes_on, drives, handed, told, hears_news, ready, hear, most_steps, steps_behind, has_more, after_said, says, next}
use Rattle.pair_laws.specs.host_model.specs.Machines.{upper}
use Rattle.pair_laws.specs.host_model.specs.Pdus.{pdu_of, is_frame}
use Rattle.pair_laws.specs.host_model.specs.Profiles.{Stride, Profile}
use Rattle.pair_laws.specs.host_model.specs.Settings.{SetHost, set_to, said_with, with_settings}

abbrev pub stride_seen : {P Q : Type 0} → (P → Q) → Stride P → Stride Q
stride_seen seen stride = record { channels = stride.channels; profile = seen stride.profile; more = stride.more }

abbrev pub host_seen : {P Q : Type 0} → (P → Q) → Host P → Host Q
host_seen seen host = record { channels = host.channels; profile = seen host.profile; may_say = host.may_say }

-- the one profile is the other, but for what is not seen of it
pub record IsSeen {P Q : Type 0} (seen : P → Q) (A : Profile P) (B : Profile Q) : Type 0 where
  pub policy : B.policy ≡ A.policy
  pub given : (circumstances : List Circumstance) (p : P) → B.given circumstances (seen p) ≡ seen (A.given circumstances p)
  pub told : (circumstances : List Circumstance) (news : News) (p : P) → B.told circumstances news (seen p) ≡ seen (A.told circumstances news p)
  pub received : (own psm : ℕ) (sdu : List ℕ) (p : P) → B.received own psm sdu (seen p) ≡ seen (A.received own psm sdu p)
  pub happened : (event : ChannelEvent) (v : Channels) (p : P) → B.happened event v (seen p) ≡ seen (A.happened event v p)
  pub sent : (v : Channels) (p : P) → B.sent v (seen p) ≡ seen (A.sent v p)
  pub steps : (v : Channels) (p : P) → B.steps v (seen p) ≡ stride_seen seen (A.steps v p)
  pub wants_link : (p : P) → B.wants_link (seen p) ≡ A.wants_link p
  pub leaves_link : (p : P) → B.leaves_link (seen p) ≡ A.leaves_link p
  pub is_idle : (p : P) → B.is_idle (seen p) ≡ A.is_idle p
  pub outcome : (p : P) → B.outcome (seen p) ≡ A.outcome p
  pub armed : (p : P) → B.armed (seen p) ≡ A.armed p
  pub may_cancel : (p : P) → B.may_cancel (seen p) ≡ A.may_cancel p

-- ---- a host

module _ {P Q : Type 0} (seen : P → Q) (A : Profile P) (B : Profile Q) (is : IsSeen seen A B) where
  abbrev on : Host P → Host Q
  on host = host_seen seen host

  each_seen : (events : List ChannelEvent) (v : Channels) (p : P) → tells_each B events v (seen p) ≡ seen (tells_each A events v p)
  each_seen [] v p = refl
  each_seen (event ∷ events) v p =
      let w : Channels = record v { events = events } in ap (tells_each B events w) (is.happened event w p) ∙ each_seen events w (A.happened event w p)

  events_seen : (host : Host P) → tells_events B (on host) ≡ on (tells_events A host)
  events_seen host =
      ap (λ (q : Q). let after : Host Q = record { channels = record host.channels { events = [] }; profile = q; may_say = host.may_say } in after) (each_seen host.channels.events host.channels host.profile)

  settles_seen : (host : Host P) → settles B (on host) ≡ on (settles A host)
  settles_seen host = ap (λ (q : Q). let after : Host Q = record { channels = host.channels; profile = q; may_say = host.may_say } in after) (is.sent host.channels host.profile)

  strides_seen : (stride : Stride P) (host : Host P) → strides B (stride_seen seen stride) (on host) ≡ on (strides A stride host)
  strides_seen stride host = events_seen (record host { channels = stride.channels; profile = stride.profile })

  -- whether it goes on or not
  either : (waits again : Bool) (stay go still : Host P) (go' still' : Host Q) → go' ≡ on go → still' ≡ on still
      → (if waits then on stay else (if again then go' else still')) ≡ on (if waits then stay else (if again then go else still))
  either true again stay go still go' still' one two = refl
  either false true stay go still go' still' one two = one
  either false false stay go still go' still' one two = two

  drives_seen : (count : ℕ) (host : Host P) → drives B count (on host) ≡ on (drives A count host)
  unfolding drives
  drives_seen zero host = settles_seen host
  drives_seen (suc count) host =
      let still = settles A host in
      let stride = A.steps still.channels still.profile in
      ap (goes_on B (λ next. drives B count next)) (settles_seen host)
      ∙ (ap (λ (s : Stride Q). if is_some (next_given still.channels) then on still else (if s.more then drives B count (strides B s (on still)) else strides B s (on still))) (is.steps still.channels still.profile)
      ∙ either (is_some (next_given still.channels)) stride.more still (drives A count (strides A stride still)) (strides A stride still) (drives B count (strides B (stride_seen seen stride) (on still))) (strides B (stride_seen seen stride) (on still))
      (ap (drives B count) (strides_seen stride still) ∙ drives_seen count (strides A stride still)) (strides_seen stride still))

  handed_seen : (handing : Handed) (p : P) → handed B handing (seen p) ≡ seen (handed A handing p)
  handed_seen Nothing p = refl
  handed_seen (Received own psm sdu) p = is.received own psm sdu p

  told_seen : (circumstances : List Circumstance) (news : News) (host : Host P) → told B circumstances news (on host) ≡ on (told A circumstances news host)
  told_seen circumstances news host =
      ap (λ (q : Q). let after : Host Q = record { channels = host.channels; profile = q; may_say = host.may_say } in after) (is.told circumstances news host.profile)

  -- it is told behind what happened to its channels
  told_behind : (circumstances : List Circumstance) (news : News) (host : Host P) → told B circumstances news (tells_events B (on host)) ≡ on (told A circumstances news (tells_events A host))
  told_behind circumstances news host = ap (told B circumstances news) (events_seen host) ∙ told_seen circumstances news (tells_events A host)

  news_seen : (circumstances : List Circumstance) (news : News) (host : Host P) → hears_news B circumstances news (on host) ≡ on (hears_news A circumstances news host)
  news_seen circumstances (Linked Up) host = told_seen circumstances (Linked Up) (with_channels (channels.link_up host.channels) host)
  news_seen circumstances (Linked (Down reason)) host = told_behind circumstances (Linked (Down reason)) (with_channels (link_down host.channels) host)
  news_seen circumstances (Failed status) host = told_seen circumstances (Failed status) host
  news_seen circumstances (Heard pdu) host =
      let handing = up (channel_of pdu) pdu host.channels in
      let heard = hears A.policy (channel_of pdu) pdu host.channels in
      ap (λ (one : Policy). let after : Host Q = record { channels = hears one (channel_of pdu) pdu host.channels; profile = handed B handing (seen host.profile); may_say = host.may_say } in tells_events B after) is.policy
      ∙ (ap (λ (q : Q). let after : Host Q = record { channels = heard; profile = q; may_say = host.may_say } in tells_events B after) (handed_seen handing host.profile)
      ∙ events_seen (record host { channels = heard; profile = handed A handing host.profile }))
  news_seen circumstances TimerFired host =
      ap (λ (one : Policy). told B circumstances TimerFired (tells_events B (with_channels (timed_out one host.channels) (on host)))) is.policy
      ∙ told_behind circumstances TimerFired (with_channels (timed_out A.policy host.channels) host)
  news_seen circumstances Cancelled host = told_seen circumstances Cancelled host
  news_seen circumstances (Opening name) host = told_seen circumstances (Opening name) host

  ready_seen : (circumstances : List Circumstance) (host : Host P) → ready B circumstances (on host) ≡ on (ready A circumstances host)
  ready_seen circumstances host = ap (λ (q : Q). let after : Host Q = record { channels = host.channels; profile = q; may_say = (ready A circumstances host).may_say } in after) (is.given circumstances host.profile)

  pub hear_seen : (circumstances : List Circumstance) (news : News) (host : Host P) → hear B circumstances news (on host) ≡ on (hear A circumstances news host)
  hear_seen circumstances news host =
      let now = ready A circumstances host in
      ap (λ (h : Host Q). drives B most_steps (hears_news B circumstances news h)) (ready_seen circumstances host)
      ∙ (ap (drives B most_steps) (news_seen circumstances news now) ∙ drives_seen most_steps (hears_news A circumstances news now))

  -- ---- what it says

  framed : (frame : Bool) (pdu : List ℕ) (after : Host P) (after' : Host Q) → after' ≡ on after → (if frame then Some (pdu, after') else None) ≡ said_as on (if frame then Some (pdu, after) else None)
  framed true pdu after after' same = ap (λ (h : Host Q). Some (pdu, h)) same
  framed false pdu after after' same = refl

  says_seen : (given : Option Given) (count : ℕ) (host : Host P) → says B given count (on host) ≡ said_as on (says A given count host)
  says_seen None count host = refl
  says_seen (Some given) zero host = refl
  says_seen (Some given) (suc count) host =
      framed (is_frame (pdu_of given)) (pdu_of given) (after_said A count host) (after_said B count (on host))
      (ap (λ (h : Host Q). let after : Host Q = record h { may_say = count } in after) (drives_seen (steps_behind count) (with_channels (after_given host.channels) host)))

  pub next_seen : (host : Host P) → next B (on host) ≡ said_as on (next A host)
  next_seen host = says_seen (next_given host.channels) host.may_say host

  pub host_embeds : Embeds on (upper A) (upper B)
  host_embeds = record {
    hear = λ answers news host. hear_seen answers news host;
    next = next_seen;
    wants_link = λ host. is.wants_link host.profile;
    leaves_link = λ host. ap (λ (leaves : Bool). not (has_more host) && leaves) (is.leaves_link host.profile);
    is_idle = λ host. is.is_idle host.profile;
    outcome = λ host. is.outcome host.profile;
    armed = λ host. ap (λ (its : Bool). channels.armed host.channels || its) (is.armed host.profile);
    may_cancel = λ host. is.may_cancel host.profile;
    has_check = λ host own. refl;
  }

-- ---- with its settings

abbrev pub set_seen : {P Q : Type 0} → (P → Q) → SetHost P → SetHost Q
set_seen seen set = set_to set.settings (host_seen seen set.host)

said_set : {P Q : Type 0} (seen : P → Q) (settings : Settings) (said : Option (List ℕ × Host P)) → said_with settings (said_as (host_seen seen) said) ≡ said_as (set_seen seen) (said_with settings said)
said_set seen settings None = refl
said_set seen settings (Some one) = refl

pub set_embeds : {P Q : Type 0} (seen : P → Q) (A : Settings → Profile P) (B : Settings → Profile Q) → ((settings : Settings) → IsSeen seen (A settings) (B settings)) → Embeds (set_seen seen) (with_settings A) (with_settings B)
set_embeds seen A B is = record {
  hear = λ answers news s. ap (set_to s.settings) (hear_seen seen (A s.settings) (B s.settings) (is s.settings) answers news s.host);
  next = λ s. ap (said_with s.settings) (next_seen seen (A s.settings) (B s.settings) (is s.settings) s.host) ∙ said_set seen s.settings (next (A s.settings) s.host);
  wants_link = λ s. (is s.settings).wants_link s.host.profile;
  leaves_link = λ s. ap (λ (leaves : Bool). not (has_more s.host) && leaves) ((is s.settings).leaves_link s.host.profile);
  is_idle = λ s. (is s.settings).is_idle s.host.profile;
  outcome = λ s. (is s.settings).outcome s.host.profile;
  armed = λ s. ap (λ (its : Bool). channels.armed s.host.channels || its) ((is s.settings).armed s.host.profile);
  may_cancel = λ s. (is s.settings).may_cancel s.host.profile;
  has_check = λ s own. refl;
}
