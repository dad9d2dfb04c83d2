-- A host that hears one thing at a time lives calmly through what it was told and said, with what its ports gave it.
use Rattle.std.proofs.Common.{◌≡◌, Bool, true, false, List, [], ◌∷◌, ◌++◌, map, refl, sym, ap, subst, ◌∙◌, append_assoc, append-nil}
use Rattle.std.specs.List.{AllByRecursion, flat_map}
use Rattle.scenario_laws.specs.channel_model.specs.Value.{no_channels}
use Rattle.scenario_laws.specs.channel_laws.specs.Runs.{Occurrence}
use Rattle.scenario_laws.specs.world_model.specs.Machines.{LinkEvent, Linked, Failed, Heard, TimerFired, Cancelled, Opening}
use Rattle.scenario_laws.specs.world_model.specs.Talks.{Talk}
use Rattle.scenario_laws.specs.host_model.specs.Circumstances.{Circumstance}
use Rattle.scenario_laws.specs.host_model.specs.Hosts.{Host, first_host, ready, driven, hears_news, most_steps}
use Rattle.scenario_laws.specs.host_model.specs.Machines.{upper}
use Rattle.scenario_laws.specs.host_model.specs.Profiles.{Profile}
use Rattle.scenario_laws.specs.host_laws.specs.Acts.{Act, Hears, Says, Does, Acting, StaysOnLink, from_act}
use Rattle.scenario_laws.specs.host_laws.specs.Calls.{Asks}
use Rattle.scenario_laws.specs.host_laws.specs.Calm.{IsCalmAct, AreCalm}
use Rattle.scenario_laws.specs.host_laws.specs.Fed.{TalksFed}
use Rattle.scenario_laws.specs.host_laws.specs.Gifts.{gifts_with, gifts_of}
use Rattle.scenario_laws.specs.host_laws.specs.Lives.{Mark, Occurred, Turned, act_marks, on_links}
use Rattle.scenario_laws.specs.host_laws.specs.OverLinks.{is_up_behind, AreInTurn, talk_marks, OverLinks, AreGentleUp}
use Rattle.scenario_laws.specs.host_laws.specs.Seen.{IsCalm}
use Rattle.scenario_laws.specs.host_laws.proofs.Gifts.{first-given, goes-given, turns-given}
use Rattle.scenario_laws.specs.host_laws.proofs.Growing.{Gifted, act_gifted, drives_plain, readies_plain}
use Rattle.scenario_laws.specs.host_laws.proofs.Links.{drives_told, act_told}
use Rattle.scenario_laws.specs.host_laws.proofs.OverLinks.{Calmly, first_calmly, goes_calmly, turns_calmly, calmly_fed, all_spans, acts_marks, talks_marks}
use Rattle.scenario_laws.specs.host_laws.proofs.Talking.{act_calm}

module _ {P : Type 0} (A : Profile P) (asks : Asks A) (G : List Circumstance → Type 0) where
  record IsGiven (marks : List Mark) (host : Host P) : Type 0 where
    so : Calmly A asks marks host
    given : AllByRecursion G (gifts_of so.lives.feeds)

  goes_given : (marks : List Mark) (acted : List Occurrence) (gifts : List (List Circumstance)) (old new : Host P) → IsGiven marks old → Gifted A asks (Unit {0}) acted gifts old new → new.channels.events ≡ [] → AllByRecursion G gifts → IsGiven (marks ++ map Occurred acted) new
  goes_given marks acted gifts old new has gifted told all = record {
    so = goes_calmly A asks marks acted old new has.so gifted.grows told;
    given = goes-given A asks G marks acted old new has.so gifted.grows told (subst (AllByRecursion G) (sym gifted.gifts_are) all) has.given;
  }

  stays_given : (marks : List Mark) (gifts : List (List Circumstance)) (old new : Host P) → IsGiven marks old → Gifted A asks (Unit {0}) [] gifts old new → new.channels.events ≡ [] → AllByRecursion G gifts → IsGiven marks new
  stays_given marks gifts old new has gifted told all = subst (λ (m : List Mark). IsGiven m new) (append-nil marks) (goes_given marks [] gifts old new has gifted told all)

  turns_given : (marks : List Mark) (event : LinkEvent) (circumstances : List Circumstance) (host : Host P) → IsGiven marks host → IsGiven (marks ++ Turned event ∷ []) (hears_news A circumstances (Linked event) host)
  turns_given marks event circumstances host has = record { so = turns_calmly A asks marks event circumstances host has.so; given = turns-given A asks G marks event circumstances host has.so has.given }

  on_link : (marks : List Mark) (act : Act Circumstance) (old new : Host P) → StaysOnLink act → IsGiven marks old → IsCalmAct A act old → Does (upper A) act old new → AllByRecursion G (gifts_with act) → IsGiven (marks ++ map Occurred (from_act act)) new
  on_link marks act old new stays has calm does all =
      goes_given marks (from_act act) (gifts_with act) old new has (act_gifted A asks (Unit {0}) act old new stays (λ c. calm) does) (act_told A act old new does has.so.lives.all_told) all

  act_given : (marks : List Mark) (act : Act Circumstance) (old new : Host P) → IsGiven marks old → IsCalmAct A act old → Does (upper A) act old new → AllByRecursion G (gifts_with act) → IsGiven (marks ++ act_marks act) new
  act_given marks (Hears circumstances (Linked event)) old new has calm does all =
      let mid = ready A circumstances old in
      let after = hears_news A circumstances (Linked event) mid in
      let one = readies_plain A asks (Unit {0}) circumstances old in
      let two = drives_plain A asks (Unit {0}) most_steps after in
      let readied = stays_given marks (circumstances ∷ []) old mid has (record { grows = one.grows; gifts_are = one.gifts_are }) has.so.lives.all_told all in
      let turned = turns_given marks event circumstances mid readied in
      subst (λ (host : Host P). IsGiven (marks ++ Turned event ∷ []) host) (sym does)
      (stays_given (marks ++ Turned event ∷ []) [] after (driven A after) turned (record { grows = two.grows; gifts_are = two.gifts_are }) (drives_told A most_steps after turned.so.lives.all_told) tt)
  act_given marks (Hears circumstances (Failed status)) old new has calm does all = on_link marks (Hears circumstances (Failed status)) old new tt has calm does all
  act_given marks (Hears circumstances (Heard pdu)) old new has calm does all = on_link marks (Hears circumstances (Heard pdu)) old new tt has calm does all
  act_given marks (Hears circumstances TimerFired) old new has calm does all = on_link marks (Hears circumstances TimerFired) old new tt has calm does all
  act_given marks (Hears circumstances Cancelled) old new has calm does all = on_link marks (Hears circumstances Cancelled) old new tt has calm does all
  act_given marks (Hears circumstances (Opening name)) old new has calm does all = on_link marks (Hears circumstances (Opening name)) old new tt has calm does all
  act_given marks (Says pdu) old new has calm does all = on_link marks (Says pdu) old new tt has calm does all

  abbrev pub AreGiven : List (Act Circumstance) → Type 0
  AreGiven acts = AllByRecursion (λ (act : Act Circumstance). AllByRecursion G (gifts_with act)) acts

  all_given : (marks : List Mark) (acts : List (Act Circumstance)) (old new : Host P) → IsGiven marks old → AreCalm A acts old → Acting (upper A) acts old new → AreGiven acts → IsGiven (marks ++ flat_map act_marks acts) new
  all_given marks [] old new has calm same all = subst (λ (host : Host P). IsGiven (marks ++ []) host) (sym same) (subst (λ (m : List Mark). IsGiven m old) (sym (append-nil marks)) has)
  all_given marks (act ∷ acts) old new has calm (mid, does, rest) all =
      subst (λ (m : List Mark). IsGiven m new) (append_assoc marks (act_marks act) (flat_map act_marks acts))
      (all_given (marks ++ act_marks act) acts mid new (act_given marks act old mid has calm.0 does all.0) (calm.1 mid does) rest all.1)

  calm_up : (up : Bool) (acts : List (Act Circumstance)) (host : Host P) → AreInTurn (upper A) up acts host → AreGentleUp A up acts host → AreCalm A acts host
  calm_up up [] host quiet gentle = tt
  calm_up true (act ∷ acts) host quiet gentle = (act_calm A act host (quiet.0.in_quiet refl, λ mid does. tt) gentle.0, λ mid does. calm_up (is_up_behind true act) acts mid (quiet.1 mid does) (gentle.1 mid does))
  calm_up false (act ∷ acts) host quiet gentle = (gentle.0, λ mid does. calm_up (is_up_behind false act) acts mid (quiet.1 mid does) (gentle.1 mid does))

  -- it lives through its talk, was calm on each link, and what its profile was given is so
  pub record LivesCalmly (talk : List Talk) (now : Host P) : Type 0 where
    pub fed : TalksFed A asks talk now
    pub calm : AllByRecursion (IsCalm A.policy no_channels) (on_links A asks (flat_map talk_marks talk) now fed.so.lives)
    pub given : AllByRecursion G (gifts_of fed.so.lives.feeds)

  lives_by : (talk : List Talk) (now : Host P) (over : OverLinks (upper A) talk now) → IsGiven (flat_map act_marks over.acts) now → flat_map act_marks over.acts ≡ flat_map talk_marks talk → LivesCalmly talk now
  unfolding calmly_fed
  lives_by talk now over has same = record {
    fed = calmly_fed A asks talk now over (flat_map act_marks over.acts) has.so same;
    calm = all_spans A.policy has.so.lives.spans has.so.lives.now has.so.spans_calm has.so.now_calm;
    given = has.given;
  }

  pub lives-calmly : (talk : List Talk) (now : Host P) (over : OverLinks (upper A) talk now) → AreGentleUp A false over.acts (first_host A) → AreGiven over.acts → LivesCalmly talk now
  lives-calmly talk now over gentle all =
      lives_by talk now over
      (all_given [] over.acts (first_host A) now (record { so = first_calmly A asks; given = first-given A asks G }) (calm_up false over.acts (first_host A) over.in_turn gentle) over.acting all)
      (acts_marks over.acts ∙ (ap (flat_map _) over.deeds_are ∙ talks_marks talk))
