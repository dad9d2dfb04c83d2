-- Host b of a run answers each request for service records in the act in which it hears it, whatever else it does.
use Rattle.std.proofs.Common.{◌≡◌, inl, Bool, true, false, List, [], ◌∷◌, ◌++◌, map, Option, refl, sym, ap, subst, ◌∙◌, append-nil}
use Rattle.pair_laws.specs.bt_base.specs.Objects.{Contents}
use Rattle.pair_laws.specs.bt_base.specs.declared.settings.Settings.{Settings}
use Rattle.pair_laws.specs.channel_model.specs.Giving.{next_given}
use Rattle.pair_laws.specs.channel_model.specs.Value.{Channels}
use Rattle.pair_laws.specs.push_script.specs.declared.scenario.Scenario.{Scenario}
use Rattle.pair_laws.specs.world_model.specs.Machines.{Linked, Up, Down, Failed, Heard, TimerFired, Cancelled, Opening}
use Rattle.pair_laws.specs.world_model.specs.Worlds.{Happening, all_entries}
use Rattle.pair_laws.specs.host_model.specs.Circumstances.{Circumstance}
use Rattle.pair_laws.specs.host_model.specs.Hosts.{Host, first_host, driven, most_steps, ready, hears_news}
use Rattle.pair_laws.specs.host_model.specs.Machines.{upper}
use Rattle.pair_laws.specs.host_model.specs.Profiles.{Profile}
use Rattle.pair_laws.specs.host_model.specs.Servers.{ServerProfile, server_profile}
use Rattle.pair_laws.specs.host_laws.specs.Acts.{Act, Hears, Says, Does, Acting, StaysOnLink, from_act}
use Rattle.pair_laws.specs.host_laws.specs.Calls.{Asks}
use Rattle.pair_laws.specs.host_laws.specs.Calm.{IsCalmAct}
use Rattle.pair_laws.specs.host_laws.specs.Lives.{Mark, Occurred, Turned, act_marks}
use Rattle.pair_laws.specs.host_laws.specs.OverLinks.{is_up_behind, IsTimely, AreInTurn, IsGentleUp, AreGentleUp}
use Rattle.pair_laws.specs.host_laws.proofs.Asking.{hosts_ask}
use Rattle.pair_laws.specs.host_laws.proofs.Growing.{act_grows, readies, drives_grow}
use Rattle.pair_laws.specs.host_laws.proofs.Links.{act_told, drives_told}
use Rattle.pair_laws.specs.host_laws.proofs.OverLinks.{Calmly, first_calmly, goes_calmly, turns_calmly}
use Rattle.pair_laws.specs.host_laws.specs.Turning.{IsActInQuiet}
use Rattle.pair_laws.specs.host_laws.proofs.Steps.{Grows}
use Rattle.pair_laws.specs.host_laws.proofs.Talking.{act_calm}
use Rattle.pair_laws.proofs.Emptied.{calm-empty}
use Rattle.pair_laws.specs.scenario_laws.specs.Captures.{BothHosts, Happened, Ran}
use Rattle.pair_laws.specs.scenario_laws.proofs.Free.{free_runs_are_gentle}
use Rattle.pair_laws.specs.scenario_laws.proofs.Unlinked.{IsOff, act_off}
use Rattle.pair_laws.specs.scenario_laws.proofs.UnlinkedServers.{KnowsNone, servers_keep}
use Rattle.paying_laws.proofs.Answering.{Prompt, hears_other, hears_rise, hears_fall, hears_pdu, says_prompt}

module _ (settings : Settings) (content : Option Contents) where
  abbrev B : Profile ServerProfile
  B = server_profile settings content

  abbrev asks : Asks (server_profile settings content)
  asks = hosts_ask.servers settings content

  abbrev On : Type 0
  On = Host ServerProfile

  abbrev Off : On → Type 0
  Off host = IsOff KnowsNone host.channels host.profile

  -- ---- it lives calmly

  on_link : (marks : List Mark) (act : Act Circumstance) (old new : On) → StaysOnLink act → Calmly (server_profile settings content) asks marks old → IsCalmAct (server_profile settings content) act old → Does (upper (server_profile settings content)) act old new
      → Calmly (server_profile settings content) asks (marks ++ map Occurred (from_act act)) new
  on_link marks act old new stays so calm does = goes_calmly B asks marks (from_act act) old new so (act_grows B asks (Unit {0}) act old new stays (λ c. calm) does) (act_told B act old new does so.lives.all_told)

  act_calmly : (marks : List Mark) (act : Act Circumstance) (old new : On) → Calmly (server_profile settings content) asks marks old → IsCalmAct (server_profile settings content) act old → Does (upper (server_profile settings content)) act old new
      → Calmly (server_profile settings content) asks (marks ++ act_marks act) new
  act_calmly marks (Hears g (Linked event)) old new so calm does =
      let mid = ready B g old in
      let after = hears_news B g (Linked event) mid in
      let readied = still marks old mid so (readies B asks (Unit {0}) g old) so.lives.all_told in
      let turned = turns_calmly B asks marks event g mid readied in
      subst (λ (host : On). Calmly B asks (marks ++ Turned event ∷ []) host) (sym does) (still (marks ++ Turned event ∷ []) after (driven B after) turned (drives_grow B asks (Unit {0}) most_steps after) (drives_told B most_steps after turned.lives.all_told))
    where
      still : (marks : List Mark) (old new : On) → Calmly (server_profile settings content) asks marks old → Grows (server_profile settings content) asks (Unit {0}) [] old new → new.channels.events ≡ [] → Calmly (server_profile settings content) asks marks new
      still marks old new so grows told = subst (λ (m : List Mark). Calmly B asks m new) (append-nil marks) (goes_calmly B asks marks [] old new so grows told)
  act_calmly marks (Hears g (Failed status)) old new so calm does = on_link marks (Hears g (Failed status)) old new tt so calm does
  act_calmly marks (Hears g (Heard pdu)) old new so calm does = on_link marks (Hears g (Heard pdu)) old new tt so calm does
  act_calmly marks (Hears g TimerFired) old new so calm does = on_link marks (Hears g TimerFired) old new tt so calm does
  act_calmly marks (Hears g Cancelled) old new so calm does = on_link marks (Hears g Cancelled) old new tt so calm does
  act_calmly marks (Hears g (Opening name)) old new so calm does = on_link marks (Hears g (Opening name)) old new tt so calm does
  act_calmly marks (Says pdu) old new so calm does = on_link marks (Says pdu) old new tt so calm does

  calm_of : (up : Bool) (act : Act Circumstance) (old : On) → (up ≡ true → IsActInQuiet (upper (server_profile settings content)) act old) → IsGentleUp (server_profile settings content) up act old → IsCalmAct (server_profile settings content) act old
  calm_of true act old quiet gentle = act_calm B act old (quiet refl, λ mid does. tt) gentle
  calm_of false act old quiet gentle = gentle

  -- ---- it is prompt

  abbrev Good : On → Type 0
  Good host = Prompt settings content host

  -- as its link comes up it knows no channel
  act_prompt : (marks : List Mark) (up : Bool) (act : Act Circumstance) (old new : On) → Does (upper (server_profile settings content)) act old new → (act_up : (g : List Circumstance) → act ≡ Hears g (Linked Up) → up ≡ false) → (up ≡ false → Off old)
      → Calmly (server_profile settings content) asks marks old → IsCalmAct (server_profile settings content) act old → Good old → Good new
  act_prompt marks up (Hears g (Linked Up)) old new does rises off so calm good = subst Good (sym does) (hears_rise settings content g old (off (rises g refl)).profile_is good)
  act_prompt marks up (Hears g (Linked (Down reason))) old new does rises off so calm good = subst Good (sym does) (hears_fall settings content g reason old good)
  act_prompt marks up (Hears g (Failed status)) old new does rises off so calm good = subst Good (sym does) (hears_other settings content g (Failed status) old tt good)
  act_prompt marks up (Hears g (Heard pdu)) old new does rises off so calm good =
      let list = so.lives.now in
      let run = so.lives.channels_run in
      subst Good (sym does)
      (hears_pdu settings content g pdu old list run (ap (λ (v : Channels). v.queue) run ∙ calm-empty B.policy list so.now_calm (ap (λ (v : Channels). next_given v) (sym run) ∙ calm.0)) calm.0 good)
  act_prompt marks up (Hears g TimerFired) old new does rises off so calm good = subst Good (sym does) (hears_other settings content g TimerFired old tt good)
  act_prompt marks up (Hears g Cancelled) old new does rises off so calm good = subst Good (sym does) (hears_other settings content g Cancelled old tt good)
  act_prompt marks up (Hears g (Opening name)) old new does rises off so calm good = subst Good (sym does) (hears_other settings content g (Opening name) old tt good)
  act_prompt marks up (Says pdu) old new does rises off so calm good = says_prompt settings content old pdu new does good

  acts_prompt : (acts : List (Act Circumstance)) (marks : List Mark) (up : Bool) (old now : On) → Acting (upper (server_profile settings content)) acts old now → AreInTurn (upper (server_profile settings content)) up acts old → AreGentleUp (server_profile settings content) up acts old
      → (up ≡ false → Off old) → Calmly (server_profile settings content) asks marks old → Good old → Good now
  acts_prompt [] marks up old now same turn gentle off so good = subst Good (sym same) good
  acts_prompt (act ∷ acts) marks up old now (mid, does, rest) turn gentle off so good =
      let calm = calm_of up act old turn.0.in_quiet (gentle_up up act old gentle) in
      acts_prompt acts (marks ++ act_marks act) (is_up_behind up act) mid now rest (turn.1 mid does) (gentle_later up act acts old mid gentle does)
      (λ down. act_off B KnowsNone (servers_keep settings content) act up old mid does turn.0.timely off down)
      (act_calmly marks act old mid so calm does)
      (act_prompt marks up act old mid does (rises up act turn.0.timely) off so calm good)
    where
      gentle_up : (up : Bool) (act : Act Circumstance) (old : On) → AreGentleUp (server_profile settings content) up (act ∷ acts) old → IsGentleUp (server_profile settings content) up act old
      gentle_up up act old gentle = gentle.0

      gentle_later : (up : Bool) (act : Act Circumstance) (acts : List (Act Circumstance)) (old mid : On) → AreGentleUp (server_profile settings content) up (act ∷ acts) old → Does (upper (server_profile settings content)) act old mid → AreGentleUp (server_profile settings content) (is_up_behind up act) acts mid
      gentle_later up act acts old mid gentle does = gentle.1 mid does

      rises : (up : Bool) (act : Act Circumstance) → IsTimely up act → (g : List Circumstance) → act ≡ Hears g (Linked Up) → up ≡ false
      rises up act timely g is = subst (IsTimely up) is timely

  first_prompt : Good (first_host (server_profile settings content))
  first_prompt = (refl, λ well alone. (record { lent = inl refl; none_response = refl; none_answer = refl; none_frame = refl; unbroken = refl; silent = refl }, refl))

  pub over-prompt : (acts : List (Act Circumstance)) (now : On) → Acting (upper (server_profile settings content)) acts (first_host (server_profile settings content)) now → AreInTurn (upper (server_profile settings content)) false acts (first_host (server_profile settings content))
      → AreGentleUp (server_profile settings content) false acts (first_host (server_profile settings content)) → Good now
  over-prompt acts now acting turn gentle = acts_prompt acts [] false (first_host B) now acting turn gentle (λ down. record { channels_are = refl; profile_is = refl }) (first_calmly B asks) first_prompt

-- at each moment of a run
pub moments-prompt : (scenario : Scenario) (content : Option Contents) (happenings : List Happening) (world : BothHosts) → Happened scenario content happenings world → Prompt scenario.settings content world.b.upper
moments-prompt scenario content happenings world happened =
    let ran : Ran scenario content (all_entries happenings) = record { happenings = happenings; world = world; happened = happened; ends = []; last = tt; capture_is = sym (append-nil (all_entries happenings)) } in
    let b = (free_runs_are_gentle scenario content (all_entries happenings) ran).b in
    over-prompt scenario.settings content b.came.over.acts world.b.upper b.came.over.acting b.came.over.in_turn b.gently
