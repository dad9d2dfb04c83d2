-- Where SDUs that come to a server are octets, the octets of all that it lends are those that spell it.
use Rattle.std.proofs.Common.{Bool, true, false, cond, ◌≡◌, ℕ, List, [], ◌∷◌, Option, Some, None, refl}
use Rattle.std.specs.List.{AllByRecursion}
use Rattle.pair_laws.specs.bt_base.specs.declared.settings.Settings.{Settings}
use Rattle.pair_laws.specs.bt_base.specs.Objects.{Contents}
use Rattle.pair_laws.specs.channel_model.specs.declared.event.ChannelEvent.{ChannelEvent}
use Rattle.pair_laws.specs.channel_model.specs.declared.event.ChannelEvent.TheVariants as events
use Rattle.pair_laws.specs.channel_model.specs.Value.{Channels}
use Rattle.pair_laws.specs.push_model.specs.Server.{Lent, Server, lends, lent_sdu}
use Rattle.pair_laws.specs.push_laws.specs.Occurrences.{Came, Went, Closed, LinkDown, Asked}
use Rattle.pair_laws.specs.world_model.specs.Machines.{News, Linked, Up, Down, Failed, Heard, TimerFired, Cancelled, Opening}
use Rattle.pair_laws.specs.host_model.specs.Circumstances.{Circumstance}
use Rattle.pair_laws.specs.host_model.specs.Endpoints.{endpoint_of, takes_sdu}
use Rattle.pair_laws.specs.host_model.specs.Pdus.{sdu_of}
use Rattle.pair_laws.specs.host_model.specs.Servers.{ServerProfile, server_profile, told, happened, is_told, submits, takes, next_stride}
use Rattle.pair_laws.specs.host_laws.specs.Feeds.{Feed, Gifts, Learns, Receives, Happens, Sent, Steps, fed}
use Rattle.pair_laws.specs.host_laws.specs.Serving.{reacted}
use Rattle.request_laws.specs.MuxFed.{AllSaySo, SaysSo}
use Rattle.request_laws.specs.SpellableServers.{LendsSpellable}
use Rattle.request_laws.specs.TogetherHeard.{ReceivesOctets}
use Rattle.request_laws.proofs.SpellableServers.{server_frames_are_said}

-- ---- what happens to it

abbrev Lends : ServerProfile → Type 0
Lends p = LendsSpellable p.server

told_fit : (circumstances : List Circumstance) (news : News) (p : ServerProfile) → Lends p → Lends (told circumstances news p)
told_fit circumstances (Linked Up) p s = s
told_fit circumstances (Linked (Down reason)) p s = server_frames_are_said.doing LinkDown (reacted p) tt s
told_fit circumstances (Failed status) p s = s
told_fit circumstances (Heard pdu) p s = s
told_fit circumstances TimerFired p s = s
told_fit circumstances Cancelled p s = s
told_fit circumstances (Opening name) p s = s

either : (b : Bool) (x y : ServerProfile) → Lends x → Lends y → Lends (cond b x y)
either true x y s t = s
either false x y s t = t

happened_fit : (event : ChannelEvent) (v : Channels) (p : ServerProfile) → Lends p → Lends (happened event v p)
happened_fit (events.Opened own psm) v p s = s
happened_fit (events.Closed own psm reason) v p s = either (is_told reason) _ p (server_frames_are_said.doing (Closed psm) (reacted p) tt s) s
happened_fit (events.Features features) v p s = s
happened_fit events.FeaturesLost v p s = s
happened_fit (events.DisconnectLost own) v p s = s

taken_fit : (taken : Bool) (own : ℕ) (lent : Lent) (v : Channels) (server : Server) (p : ServerProfile) → takes_sdu own (sdu_of lent.payload) v ≡ taken → LendsSpellable server → Lends (submits (Some own) lent v server p).profile
taken_fit true own lent v server p is s = rw is (server_frames_are_said.doing (Went lent.psm (sdu_of lent.payload)) (record { server = server; gift = p.inbox }) tt s)
taken_fit false own lent v server p is s = rw is s

submits_fit : (own : Option ℕ) (lent : Lent) (v : Channels) (server : Server) (p : ServerProfile) → LendsSpellable server → Lends (submits own lent v server p).profile
submits_fit None lent v server p s = s
submits_fit (Some own) lent v server p s = taken_fit (takes_sdu own (sdu_of lent.payload) v) own lent v server p refl s

takes_fit : (o : Option Lent) (v : Channels) (server : Server) (p : ServerProfile) → LendsSpellable server → Lends (takes o v server p).profile
takes_fit None v server p s = s
takes_fit (Some lent) v server p s = submits_fit (endpoint_of lent.psm p.endpoints) lent v server p s

stride_fit : (v : Channels) (p : ServerProfile) → Lends p → Lends (next_stride v p).profile
stride_fit v p s = takes_fit (lent_sdu (lends p.server)) v (lends p.server) p (server_frames_are_said.doing Asked (reacted p) tt s)

fed_fit : (settings : Settings) (content : Option Contents) (feed : Feed) (p : ServerProfile) → ReceivesOctets feed → Lends p → Lends (fed (server_profile settings content) p feed)
fed_fit settings content (Gifts circumstances) p is s = s
fed_fit settings content (Learns circumstances news) p is s = told_fit circumstances news p s
fed_fit settings content (Receives own psm sdu) p is s = server_frames_are_said.doing (Came psm sdu) (reacted p) is s
fed_fit settings content (Happens event v) p is s = happened_fit event v p s
fed_fit settings content (Sent v) p is s = s
fed_fit settings content (Steps v) p is s = stride_fit v p s

says_so : (feed : Feed) (p : ServerProfile) → Lends p → SaysSo p feed
says_so (Gifts circumstances) p s = tt
says_so (Learns circumstances news) p s = tt
says_so (Receives own psm sdu) p s = tt
says_so (Happens event v) p s = tt
says_so (Sent v) p s = tt
says_so (Steps v) p s = server_frames_are_said.saying p.server s

pub all_say_so : (settings : Settings) (content : Option Contents) (feeds : List Feed) (p : ServerProfile) → Lends p → AllByRecursion ReceivesOctets feeds → AllSaySo settings content p feeds
all_say_so settings content [] p s all = tt
all_say_so settings content (feed ∷ feeds) p s all = (says_so feed p s, all_say_so settings content feeds (fed (server_profile settings content) p feed) (fed_fit settings content feed p all.0 s) all.1)
