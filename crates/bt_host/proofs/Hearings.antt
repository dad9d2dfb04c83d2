-- What the half of a host above its line hears, by what its channels and its end hear.
use Rattle.std.proofs.Common.{◌≡◌, ◌∙◌, ℕ, ◌^◌, Bool, List, [], sym, ap, subst}
use Rattle.bt_base.specs.declared.settings.Settings.{Settings}
use Rattle.shelf_model.specs.acl_fragments.specs.Pieces.{channel_of}
use Rattle.channel_model.specs.Value.{Channels}
use Rattle.channel_model.specs.Policies.{Policy, policy}
use Rattle.channel_model.specs.Calls.{link_up, link_down}
use Rattle.channel_model.specs.Hearing as channels
use Rattle.channel_model.specs.Timing.{timed_out}
use Rattle.l2cap_channels.specs.Machine.{Machine, policy_of, with_channels}
use Rattle.shelf_model.specs.world_model.specs.Machines.{News, Linked, Up, Down, Failed, Heard, TimerFired}
use Rattle.shelf_model.specs.host_model.specs.Circumstances.{Circumstance}
use Rattle.shelf_model.specs.host_model.specs.Profiles.{Profile}
use Rattle.shelf_model.specs.host_model.specs.Hosts.{Host, tells_events, driven, handed, told, hears_news, hear}
use Rattle.bt_host.specs.Calls.{Does, JoinAnswers}
use Rattle.bt_host.specs.Uppers.{Upward, asking, IsAside}
use Rattle.bt_host.proofs.Calling.{does_none, does_then, does_map, does_from, does_to}

module _ {E S P : Type 0} (profile : Settings → Profile S) (server : Bool) (Answers : P → List Circumstance → P → Type 0) (join : JoinAnswers Answers) (pushing : E → P → List Circumstance → S)
    (is : (settings : Settings) → (profile settings).policy ≡ policy settings server)
    (alone : (settings : Settings) (all : List Circumstance) (news : News) (p : S) → IsAside news → (profile settings).told all news p ≡ (profile settings).told [] news p)
    (once : (end : E) (port : P) (settings : Settings) (rest : List Circumstance) → (profile settings).given rest (pushing end port rest) ≡ pushing end port rest) where
  abbrev pub at : Machine → E → Upward E
  at machine end = record { machine = machine; end = end; may_say = 2 ^ 32 }

  -- the channels and the profile of a host, of which the profile is told later
  abbrev of : Channels → S → Host S
  of v p = record { channels = v; profile = p; may_say = 2 ^ 32 }

  policy_same : (machine : Machine) → machine.server ≡ server → (profile machine.settings).policy ≡ policy_of machine
  policy_same machine party = is machine.settings ∙ ap (λ (b : Bool). policy machine.settings b) (sym party)

  -- what follows the news, and the drive
  pub hears_then : (machine : Machine) (end : E) (may_say : ℕ) (now mid new : Upward E) (news : News) (first second last : P) → record { machine = machine; end = end; may_say = may_say } ≡ now
      → mid.machine.settings ≡ machine.settings
      → Does Answers (λ rest. hears_news (profile machine.settings) rest news (asking pushing first (at machine end) rest)) (asking pushing second mid) first second
      → Does Answers (λ rest. driven (profile mid.machine.settings) (asking pushing second mid rest)) (asking pushing last new) second last
      → Does Answers (λ rest. hear (profile now.machine.settings) rest news (asking pushing first now rest)) (asking pushing last new) first last
  hears_then machine end may_say now mid new news first second last view same hears drives =
      subst (λ (n : Upward E). Does Answers (λ rest. hear (profile n.machine.settings) rest news (asking pushing first n rest)) (asking pushing last new) first last) view
      (does_from Answers _ (λ rest. driven (profile machine.settings) (hears_news (profile machine.settings) rest news (asking pushing first (at machine end) rest))) _ first last
      (λ rest. ap (λ (p : S). driven (profile machine.settings) (hears_news (profile machine.settings) rest news (of machine.channels p))) (once end first machine.settings rest))
      (does_then Answers join _ (λ rest. driven (profile machine.settings) (asking pushing second mid rest)) (asking pushing last new) first second last
      (does_map Answers (λ (h : Host S). driven (profile machine.settings) h) _ _ first second hears)
      (subst (λ (s : Settings). Does Answers (λ rest. driven (profile s) (asking pushing second mid rest)) (asking pushing last new) second last) same drives)))

  told_same : (settings : Settings) (all : List Circumstance) (news : News) (host : Host S) → IsAside news → told (profile settings) all news host ≡ told (profile settings) [] news host
  told_same settings all news host aside = ap (λ (p : S). record host { profile = p }) (alone settings all news host.profile aside)

  -- a PDU
  pub pdu_heard : (machine heard : Machine) (end one : E) (mid : Upward E) (cid : ℕ) (pdu : List ℕ) (first second third : P) → machine.server ≡ server → cid ≡ channel_of pdu
      → heard ≡ with_channels machine (channels.hears (policy_of machine) cid pdu machine.channels)
      → Does Answers (λ rest. handed (profile machine.settings) (channels.up cid pdu machine.channels) (pushing end first rest)) (pushing one second) first second
      → Does Answers (λ rest. tells_events (profile heard.settings) (asking pushing second (at heard one) rest)) (asking pushing third mid) second third
      → Does Answers (λ rest. hears_news (profile machine.settings) rest (Heard pdu) (asking pushing first (at machine end) rest)) (asking pushing third mid) first third
  pdu_heard machine heard end one mid cid pdu first second third party channel heard_is hands tells =
      does_then Answers join _ (λ rest. tells_events (profile machine.settings) (of (channels.hears (policy_of machine) cid pdu machine.channels) (pushing one second rest))) _ first second third
      (does_from Answers _ (λ rest. tells_events (profile machine.settings) (of (channels.hears (policy_of machine) cid pdu machine.channels) (handed (profile machine.settings) (channels.up cid pdu machine.channels) (pushing end first rest)))) _ first second
      (λ rest. ap (λ (c : ℕ). tells_events (profile machine.settings) (of (channels.hears (profile machine.settings).policy c pdu machine.channels) (handed (profile machine.settings) (channels.up c pdu machine.channels) (pushing end first rest)))) (sym channel)
      ∙ ap (λ (q : Policy). tells_events (profile machine.settings) (of (channels.hears q cid pdu machine.channels) (handed (profile machine.settings) (channels.up cid pdu machine.channels) (pushing end first rest)))) (policy_same machine party))
      (does_map Answers (λ (p : S). tells_events (profile machine.settings) (of (channels.hears (policy_of machine) cid pdu machine.channels) p)) _ _ first second hands))
      (subst (λ (m : Machine). Does Answers (λ rest. tells_events (profile m.settings) (asking pushing second (at m one) rest)) (asking pushing third mid) second third) heard_is tells)

  -- a link comes up
  pub up_heard : (machine heard : Machine) (end one : E) (port : P) → heard ≡ with_channels machine (link_up machine.channels)
      → ((settings : Settings) (rest : List Circumstance) → (profile settings).told [] (Linked Up) (pushing end port rest) ≡ pushing one port rest)
      → Does Answers (λ rest. hears_news (profile machine.settings) rest (Linked Up) (asking pushing port (at machine end) rest)) (asking pushing port (at heard one)) port port
  up_heard machine heard end one port heard_is tells =
      does_none Answers join _ _ port (λ rest. ap (λ (p : S). of (link_up machine.channels) p) (alone machine.settings rest (Linked Up) (pushing end port rest) tt ∙ tells machine.settings rest) ∙ ap (λ (m : Machine). of m.channels (pushing one port rest)) (sym heard_is))

  -- it goes down
  pub down_heard : (machine heard left : Machine) (end one two : E) (count : ℕ) (mid : Upward E) (reason : ℕ) (first second third : P) → heard ≡ with_channels machine (link_down machine.channels) → record { machine = left; end = one; may_say = count } ≡ mid
      → Does Answers (λ rest. tells_events (profile heard.settings) (asking pushing first (at heard end) rest)) (asking pushing second mid) first second
      → ((settings : Settings) → Does Answers (λ rest. (profile settings).told [] (Linked (Down reason)) (pushing one second rest)) (pushing two third) second third)
      → Does Answers (λ rest. hears_news (profile machine.settings) rest (Linked (Down reason)) (asking pushing first (at machine end) rest)) (asking pushing third (record { machine = left; end = two; may_say = count })) first third
  down_heard machine heard left end one two count mid reason first second third heard_is view tells goes =
      does_from Answers _ (λ rest. told (profile machine.settings) [] (Linked (Down reason)) (tells_events (profile machine.settings) (of (link_down machine.channels) (pushing end first rest)))) _ first third
      (λ rest. told_same machine.settings rest (Linked (Down reason)) (tells_events (profile machine.settings) (of (link_down machine.channels) (pushing end first rest))) tt)
      (does_then Answers join _ (λ rest. told (profile machine.settings) [] (Linked (Down reason)) (asking pushing second (record { machine = left; end = one; may_say = count }) rest)) _ first second third
      (does_map Answers (λ (h : Host S). told (profile machine.settings) [] (Linked (Down reason)) h) _ _ first second
      (subst (λ (u : Upward E). Does Answers (λ rest. tells_events (profile machine.settings) (of (link_down machine.channels) (pushing end first rest))) (asking pushing second u) first second) (sym view)
      (subst (λ (m : Machine). Does Answers (λ rest. tells_events (profile m.settings) (asking pushing first (at m end) rest)) (asking pushing second mid) first second) heard_is tells)))
      (does_map Answers (λ (p : S). record { channels = left.channels; profile = p; may_say = count }) _ _ second third (goes machine.settings)))

  -- a link was not made
  pub failure_heard : (machine : Machine) (end one : E) (status : ℕ) (port : P)
      → ((settings : Settings) (rest : List Circumstance) → (profile settings).told [] (Failed status) (pushing end port rest) ≡ pushing one port rest)
      → Does Answers (λ rest. hears_news (profile machine.settings) rest (Failed status) (asking pushing port (at machine end) rest)) (asking pushing port (at machine one)) port port
  failure_heard machine end one status port tells = does_none Answers join _ _ port (λ rest. ap (λ (p : S). of machine.channels p) (alone machine.settings rest (Failed status) (pushing end port rest) tt ∙ tells machine.settings rest))

  -- the timer fires
  pub firing_heard : (machine heard left : Machine) (end one two : E) (count : ℕ) (mid : Upward E) (first second : P) → machine.server ≡ server → heard ≡ with_channels machine (timed_out (policy_of machine) machine.channels)
      → record { machine = left; end = one; may_say = count } ≡ mid
      → Does Answers (λ rest. tells_events (profile heard.settings) (asking pushing first (at heard end) rest)) (asking pushing second mid) first second
      → ((settings : Settings) (rest : List Circumstance) → (profile settings).told [] TimerFired (pushing one second rest) ≡ pushing two second rest)
      → Does Answers (λ rest. hears_news (profile machine.settings) rest TimerFired (asking pushing first (at machine end) rest)) (asking pushing second (record { machine = left; end = two; may_say = count })) first second
  firing_heard machine heard left end one two count mid first second party heard_is view tells fires =
      does_from Answers _ (λ rest. told (profile machine.settings) [] TimerFired (tells_events (profile machine.settings) (of (timed_out (policy_of machine) machine.channels) (pushing end first rest)))) _ first second
      (λ rest. told_same machine.settings rest TimerFired (tells_events (profile machine.settings) (of (timed_out (profile machine.settings).policy machine.channels) (pushing end first rest))) tt
      ∙ ap (λ (q : Policy). told (profile machine.settings) [] TimerFired (tells_events (profile machine.settings) (of (timed_out q machine.channels) (pushing end first rest)))) (policy_same machine party))
      (does_to Answers _ (λ rest. told (profile machine.settings) [] TimerFired (asking pushing second (record { machine = left; end = one; may_say = count }) rest)) _ first second
      (λ rest. ap (λ (p : S). record { channels = left.channels; profile = p; may_say = count }) (fires machine.settings rest))
      (does_map Answers (λ (h : Host S). told (profile machine.settings) [] TimerFired h) _ _ first second
      (subst (λ (u : Upward E). Does Answers (λ rest. tells_events (profile machine.settings) (of (timed_out (policy_of machine) machine.channels) (pushing end first rest))) (asking pushing second u) first second) (sym view)
      (subst (λ (m : Machine). Does Answers (λ rest. tells_events (profile m.settings) (asking pushing first (at m end) rest)) (asking pushing second mid) first second) heard_is tells))))
