-- What is so of each excerpt that a client is given of its shelf stays so of those that it has.
use Rattle.std.proofs.Common.{ℕ, zero, suc, ◌-◌, Bool, true, false, List, [], ◌∷◌, length, drop, Option, Some, None, if◌then◌else◌}
use Rattle.std.specs.List.{AllByRecursion}
use Rattle.shelf_model.specs.bt_base.specs.declared.settings.Settings.{Settings}
use Rattle.channel_laws.specs.channel_model.specs.Calls.{sends, waits}
use Rattle.channel_laws.specs.channel_model.specs.Value.{Channels}
use Rattle.push_laws.specs.push_model.specs.Client.{Client, begins}
use Rattle.push_laws.specs.push_model.specs.Payloads.{Payload}
use Rattle.push_laws.specs.push_model.specs.Steps.{Step, Wait, MakeLink, AskFeatures, OpenChannel, SendSdu, CloseChannel, BreakLink, Ended, NoMemory, steps}
use Rattle.shelf_model.specs.world_model.specs.Machines.{News, Linked, Up, Down, Failed, Heard, TimerFired, Cancelled, Opening}
use Rattle.shelf_model.specs.host_model.specs.Circumstances.{Circumstance, Excerpt, parts_in}
use Rattle.shelf_model.specs.host_model.specs.Clients as clients
use Rattle.shelf_model.specs.host_model.specs.Clients.{ClientProfile, NoBid, client_profile, after_call, ended, fitted, sent_on, submits, takes}
use Rattle.shelf_model.specs.host_model.specs.Endpoints.{endpoint_of, takes_sdu}
use Rattle.shelf_model.specs.host_model.specs.Pdus.{sdu_of}
use Rattle.shelf_model.specs.host_model.specs.Shelves.{size_for, name_for, unused}
use Rattle.host_laws.specs.Feeds.{Feed, Gifts, Learns, Receives, Happens, Sent, Steps, fed}

module _ (Is : Excerpt → Type 0) where
  -- those that it has are so
  abbrev pub HasAll : ClientProfile → Type 0
  HasAll pushing = AllByRecursion Is pushing.parts

  -- those that it is given are
  abbrev pub GivesAll : Feed → Type 0
  GivesAll (Gifts circumstances) = AllByRecursion Is (parts_in circumstances)
  GivesAll (Learns circumstances news) = Unit {0}
  GivesAll (Receives own psm sdu) = Unit {0}
  GivesAll (Happens event v) = Unit {0}
  GivesAll (Sent v) = Unit {0}
  GivesAll (Steps v) = Unit {0}

  behind_held : (count : ℕ) (excerpts : List Excerpt) → AllByRecursion Is excerpts → AllByRecursion Is (drop count excerpts)
  behind_held zero excerpts held = held
  behind_held (suc count) [] held = tt
  behind_held (suc count) (excerpt ∷ excerpts) held = behind_held count excerpts held.1

  called_held : (step : Step) (after : Client) (pushing : ClientProfile) → HasAll pushing → HasAll (after_call step after pushing)
  called_held Wait after pushing held = held
  called_held MakeLink after pushing held = held
  called_held AskFeatures after pushing held = held
  called_held (OpenChannel psm) after pushing held = held
  called_held (SendSdu psm payload) after pushing held = held
  called_held (CloseChannel psm) after pushing held = held
  called_held BreakLink after pushing held = held
  called_held (Ended outcome) after pushing held = held
  called_held NoMemory after pushing held = held

  told_held : (circumstances : List Circumstance) (news : News) (pushing : ClientProfile) → HasAll pushing → HasAll (clients.told circumstances news pushing)
  told_held circumstances (Linked Up) pushing held = held
  told_held circumstances (Linked (Down reason)) pushing held = held
  told_held circumstances (Failed status) pushing held = held
  told_held circumstances (Heard pdu) pushing held = held
  told_held circumstances TimerFired pushing held = held
  told_held circumstances Cancelled pushing held = held
  told_held circumstances (Opening name) pushing held =
      let over : ClientProfile = record pushing { client = ended (begins (size_for circumstances name) (name_for name) pushing.client); submitted = None; bid = NoBid } in
      let one = steps over.client [] in called_held one.step one.client over held

  sent_held : (own : Option ℕ) (v : Channels) (pushing : ClientProfile) → HasAll pushing → HasAll (sent_on own v pushing)
  sent_held None v pushing held = held
  sent_held (Some own) v pushing held = by (waits own v)
    where
      by : (waiting : Bool) → HasAll (if waiting then pushing else clients.done (record pushing { submitted = None }))
      by true = held
      by false = held

  submits_held : (own : Option ℕ) (payload : Payload) (v : Channels) (pushing : ClientProfile) → HasAll pushing → HasAll (submits own payload v pushing).profile
  submits_held None payload v pushing held = held
  submits_held (Some own) payload v pushing held = by (takes_sdu own (sdu_of payload) v)
    where
      by : (taken : Bool) → HasAll (if taken then clients.waiting (sends own (sdu_of payload) v) (record pushing { submitted = Some own }) else clients.waiting v pushing).profile
      by true = held
      by false = held

  takes_held : (step : Step) (v : Channels) (after before : ClientProfile) → HasAll after → HasAll before → HasAll (takes step v after before).profile
  takes_held Wait v after before held was = held
  takes_held MakeLink v after before held was = was
  takes_held AskFeatures v after before held was = held
  takes_held (OpenChannel psm) v after before held was = held
  takes_held (SendSdu psm payload) v after before held was = submits_held (endpoint_of psm after.endpoints) payload v after held
  takes_held (CloseChannel psm) v after before held was = held
  takes_held BreakLink v after before held was = held
  takes_held (Ended outcome) v after before held was = held
  takes_held NoMemory v after before held was = held

  pub feed_held : (settings : Settings) (pushing : ClientProfile) (feed : Feed) → GivesAll feed → HasAll pushing → HasAll (fed (client_profile settings) pushing feed)
  feed_held settings pushing (Gifts circumstances) answers held = answers
  feed_held settings pushing (Learns circumstances news) answers held = told_held circumstances news pushing held
  feed_held settings pushing (Receives own psm sdu) answers held = held
  feed_held settings pushing (Happens event v) answers held = held
  feed_held settings pushing (Sent v) answers held = sent_held pushing.submitted v pushing held
  feed_held settings pushing (Steps v) answers held =
      let one = steps pushing.client (fitted pushing) in
      takes_held one.step v (record pushing { client = one.client; parts = unused one.left pushing.parts }) pushing (behind_held (length pushing.parts - length one.left) pushing.parts held) held
