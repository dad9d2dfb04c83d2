-- A host that hears one thing at a time was told all before each PDU came in, with what its ports gave it.
use Rattle.std.proofs.Common.{◌≡◌, Bool, true, false, List, [], ◌∷◌, ◌++◌, map, filter_map, drop, inl, inr, refl, sym, ap, subst, ◌∙◌, append_assoc, append-nil}
use Rattle.std.specs.Prelude.{◌⊎◌}
use Rattle.std.specs.List.{AllByRecursion, flat_map}
use Rattle.std.proofs.lemmas.List.Sums.{fold-append}
use Rattle.request_laws.specs.capture.proofs.HistoryLaws.{each_after-both}
use Rattle.request_laws.specs.capture.specs.Histories.{EachAfter}
use Rattle.request_laws.specs.channel_model.specs.Policies.{Policy}
use Rattle.request_laws.specs.channel_model.specs.Value.{Channels, no_channels}
use Rattle.request_laws.specs.channel_laws.specs.Runs.{Occurrence, Comes, Connects, AsksFeatures, Disconnects, Sends, Gives, Fires, Tells, value_after, Run, new_link, run_on, run_of}
use Rattle.request_laws.specs.world_model.specs.Machines.{LinkEvent, Linked, Failed, Heard, TimerFired, Cancelled, Opening}
use Rattle.request_laws.specs.world_model.specs.Talks.{Talk}
use Rattle.request_laws.specs.host_model.specs.Circumstances.{Circumstance}
use Rattle.request_laws.specs.host_model.specs.Hosts.{Host, first_host, ready, driven, hears_news, most_steps}
use Rattle.request_laws.specs.host_model.specs.Machines.{upper}
use Rattle.request_laws.specs.host_model.specs.Profiles.{Profile}
use Rattle.request_laws.specs.host_laws.specs.Acts.{Act, Hears, Says, Does, Acting, StaysOnLink, from_act}
use Rattle.request_laws.specs.host_laws.specs.Calls.{Asks, outer}
use Rattle.request_laws.specs.host_laws.specs.Calm.{IsCalmAct, AreCalm}
use Rattle.request_laws.specs.host_laws.specs.Fed.{TalksFed}
use Rattle.request_laws.specs.host_laws.specs.Gifts.{gifts_with, gifts_of}
use Rattle.request_laws.specs.host_laws.specs.Keeping.{AsksForNothing}
use Rattle.request_laws.specs.host_laws.specs.Lives.{Mark, Occurred, Turned, act_marks, Span, on_links}
use Rattle.request_laws.specs.host_laws.specs.OverLinks.{is_up_behind, AreInTurn, talk_marks, OverLinks, AreGentleUp}
use Rattle.request_laws.specs.host_laws.specs.Seen.{IsCalm}
use Rattle.request_laws.specs.host_laws.proofs.Gifts.{first-given, goes-given, turns-given}
use Rattle.request_laws.specs.host_laws.proofs.Growing.{Gifted, act_gifted, drives_plain, readies_plain}
use Rattle.request_laws.specs.host_laws.proofs.Links.{drives_told, act_told}
use Rattle.request_laws.specs.host_laws.proofs.Living.{first_lives, goes-on, turns-on}
use Rattle.request_laws.specs.host_laws.proofs.OverLinks.{Calmly, first_calmly, goes_calmly, turns_calmly, calmly_fed, all_spans, all_with, acts_marks, talks_marks}
use Rattle.request_laws.specs.host_laws.proofs.SearchingWeave.{all_split}
use Rattle.request_laws.specs.host_laws.proofs.Steps.{Grows}
use Rattle.request_laws.specs.host_laws.proofs.Talking.{act_calm}
use Rattle.following_laws.specs.OneAtATime.{IsToldBefore, AreToldBefore}
use Rattle.following_laws.proofs.Shedding.{sends-tell_none}

-- ---- what happens with one act

abbrev IsTold : Policy → List Occurrence → Occurrence → Type 0
IsTold policy front one = IsToldBefore one (run_of policy front).value

-- no PDU comes in
none_comes : (policy : Policy) (front rest : List Occurrence) → filter_map outer rest ≡ [] → EachAfter (IsTold policy) front rest
none_comes policy front [] none = tt
none_comes policy front (Comes pdu ∷ rest) none = cc
none_comes policy front (Connects psm ∷ rest) none = (tt, none_comes policy (front ++ Connects psm ∷ []) rest none)
none_comes policy front (AsksFeatures ∷ rest) none = (tt, none_comes policy (front ++ AsksFeatures ∷ []) rest none)
none_comes policy front (Disconnects own ∷ rest) none = (tt, none_comes policy (front ++ Disconnects own ∷ []) rest none)
none_comes policy front (Sends own sdu ∷ rest) none = (tt, none_comes policy (front ++ Sends own sdu ∷ []) rest none)
none_comes policy front (Gives pdu ∷ rest) none = cc
none_comes policy front (Fires ∷ rest) none = cc
none_comes policy front (Tells ∷ rest) none = (tt, none_comes policy (front ++ Tells ∷ []) rest none)

-- it heard or said one thing at most
abbrev IsShort : List Occurrence → Type 0
IsShort acted = (acted ≡ []) ⊎ ((one : Occurrence) × (acted ≡ one ∷ []))

none_behind : (one : Occurrence) (rest acted : List Occurrence) → one ∷ rest ≡ acted → IsShort acted → rest ≡ []
none_behind one rest acted is (inl none) = let never : one ∷ rest ≡ [] = is ∙ none in cc
none_behind one rest acted is (inr (other, single)) = let same : one ∷ rest ≡ other ∷ [] = is ∙ single in cc

value_next : (policy : Policy) (front : List Occurrence) (one : Occurrence) → (run_of policy (front ++ one ∷ [])).value ≡ value_after policy one (run_of policy front).value
value_next policy front one = ap (λ (r : Run). r.value) (fold-append (run_on policy) new_link front (one ∷ []))

short_told : (policy : Policy) (front rest acted : List Occurrence) → (run_of policy front).value.events ≡ [] → filter_map outer rest ≡ acted → IsShort acted → AllByRecursion AsksForNothing rest → EachAfter (IsTold policy) front rest
short_told policy front [] acted none is short nothing = tt
short_told policy front (Comes pdu ∷ rest) acted none is short nothing = (none, none_comes policy (front ++ Comes pdu ∷ []) rest (none_behind (Comes pdu) (filter_map outer rest) acted is short))
short_told policy front (Connects psm ∷ rest) acted none is short nothing = absurd nothing.0
short_told policy front (AsksFeatures ∷ rest) acted none is short nothing = absurd nothing.0
short_told policy front (Disconnects own ∷ rest) acted none is short nothing = absurd nothing.0
short_told policy front (Sends own sdu ∷ rest) acted none is short nothing =
    (tt, short_told policy (front ++ Sends own sdu ∷ []) rest acted (ap (λ (v : Channels). v.events) (value_next policy front (Sends own sdu)) ∙ (sends-tell_none own sdu (run_of policy front).value ∙ none)) is short nothing.1)
short_told policy front (Gives pdu ∷ rest) acted none is short nothing = (tt, none_comes policy (front ++ Gives pdu ∷ []) rest (none_behind (Gives pdu) (filter_map outer rest) acted is short))
short_told policy front (Fires ∷ rest) acted none is short nothing = (tt, none_comes policy (front ++ Fires ∷ []) rest (none_behind Fires (filter_map outer rest) acted is short))
short_told policy front (Tells ∷ rest) acted none is short nothing =
    (tt, short_told policy (front ++ Tells ∷ []) rest acted (ap (λ (v : Channels). v.events) (value_next policy front Tells) ∙ ap (drop 1) none) is short nothing.1)

act_short : (act : Act Circumstance) → IsShort (from_act act)
act_short (Hears circumstances (Linked event)) = inl refl
act_short (Hears circumstances (Failed status)) = inl refl
act_short (Hears circumstances (Heard pdu)) = inr (Comes pdu, refl)
act_short (Hears circumstances TimerFired) = inr (Fires, refl)
act_short (Hears circumstances Cancelled) = inl refl
act_short (Hears circumstances (Opening name)) = inl refl
act_short (Says pdu) = inr (Gives pdu, refl)

-- ---- over all links

-- where it asks for nothing
abbrev pub IsPrompt : Policy → List Occurrence → Type 0
IsPrompt policy list = AllByRecursion AsksForNothing list → AreToldBefore policy list

module _ {P : Type 0} (A : Profile P) (asks : Asks A) where
  abbrev ArePrompt : (marks : List Mark) (host : Host P) → Calmly A asks marks host → Type 0
  ArePrompt marks host so = AllByRecursion (λ (span : Span). IsPrompt A.policy span.list) so.lives.spans × IsPrompt A.policy so.lives.now

  first-prompt : ArePrompt [] (first_host A) (first_calmly A asks)
  unfolding first_calmly first_lives
  first-prompt = (tt, λ nothing. tt)

  goes-prompt : (marks : List Mark) (acted : List Occurrence) (old new : Host P) (so : Calmly A asks marks old) (grows : Grows A asks (Unit {0}) acted old new) (told : new.channels.events ≡ []) → IsShort acted → ArePrompt marks old so
      → ArePrompt (marks ++ map Occurred acted) new (goes_calmly A asks marks acted old new so grows told)
  unfolding goes_calmly goes-on
  goes-prompt marks acted old new so grows told short before = (
    before.0,
    λ nothing.
        let parts = all_split AsksForNothing so.lives.now grows.list nothing in
        each_after-both (IsTold A.policy) [] so.lives.now grows.list (before.1 parts.0)
        (short_told A.policy so.lives.now grows.list acted (ap (λ (v : Channels). v.events) (sym so.lives.channels_run) ∙ so.lives.all_told) grows.acted_is short parts.1),
  )

  turns-prompt : (marks : List Mark) (event : LinkEvent) (circumstances : List Circumstance) (host : Host P) (so : Calmly A asks marks host) → ArePrompt marks host so
      → ArePrompt (marks ++ Turned event ∷ []) (hears_news A circumstances (Linked event) host) (turns_calmly A asks marks event circumstances host so)
  unfolding turns_calmly turns-on
  turns-prompt marks event circumstances host so before = (
    all_with (λ (span : Span). IsPrompt A.policy span.list) so.lives.spans (let span : Span = record { list = so.lives.now; event = event } in span) before.0 before.1,
    λ nothing. tt,
  )

module _ {P : Type 0} (A : Profile P) (asks : Asks A) (G : List Circumstance → Type 0) where
  record IsGiven (marks : List Mark) (host : Host P) : Type 0 where
    so : Calmly A asks marks host
    given : AllByRecursion G (gifts_of so.lives.feeds)
    prompt : ArePrompt A asks marks host so

  goes_given : (marks : List Mark) (acted : List Occurrence) (gifts : List (List Circumstance)) (old new : Host P) → IsGiven marks old → Gifted A asks (Unit {0}) acted gifts old new → new.channels.events ≡ [] → IsShort acted → AllByRecursion G gifts → IsGiven (marks ++ map Occurred acted) new
  goes_given marks acted gifts old new has gifted told short all = record {
    so = goes_calmly A asks marks acted old new has.so gifted.grows told;
    given = goes-given A asks G marks acted old new has.so gifted.grows told (subst (AllByRecursion G) (sym gifted.gifts_are) all) has.given;
    prompt = goes-prompt A asks marks acted old new has.so gifted.grows told short has.prompt;
  }

  stays_given : (marks : List Mark) (gifts : List (List Circumstance)) (old new : Host P) → IsGiven marks old → Gifted A asks (Unit {0}) [] gifts old new → new.channels.events ≡ [] → AllByRecursion G gifts → IsGiven marks new
  stays_given marks gifts old new has gifted told all = subst (λ (m : List Mark). IsGiven m new) (append-nil marks) (goes_given marks [] gifts old new has gifted told (inl refl) all)

  turns_given : (marks : List Mark) (event : LinkEvent) (circumstances : List Circumstance) (host : Host P) → IsGiven marks host → IsGiven (marks ++ Turned event ∷ []) (hears_news A circumstances (Linked event) host)
  turns_given marks event circumstances host has = record {
    so = turns_calmly A asks marks event circumstances host has.so;
    given = turns-given A asks G marks event circumstances host has.so has.given;
    prompt = turns-prompt A asks marks event circumstances host has.so has.prompt;
  }

  on_link : (marks : List Mark) (act : Act Circumstance) (old new : Host P) → StaysOnLink act → IsGiven marks old → IsCalmAct A act old → Does (upper A) act old new → AllByRecursion G (gifts_with act) → IsGiven (marks ++ map Occurred (from_act act)) new
  on_link marks act old new stays has calm does all =
      goes_given marks (from_act act) (gifts_with act) old new has (act_gifted A asks (Unit {0}) act old new stays (λ c. calm) does) (act_told A act old new does has.so.lives.all_told) (act_short act) all

  act_given : (marks : List Mark) (act : Act Circumstance) (old new : Host P) → IsGiven marks old → IsCalmAct A act old → Does (upper A) act old new → AllByRecursion G (gifts_with act) → IsGiven (marks ++ act_marks act) new
  act_given marks (Hears circumstances (Linked event)) old new has calm does all =
      let mid = ready A circumstances old in
      let after = hears_news A circumstances (Linked event) mid in
      let one = readies_plain A asks (Unit {0}) circumstances old in
      let two = drives_plain A asks (Unit {0}) most_steps after in
      let readied = stays_given marks (circumstances ∷ []) old mid has (record { grows = one.grows; gifts_are = one.gifts_are }) has.so.lives.all_told all in
      let turned = turns_given marks event circumstances mid readied in
      subst (λ (host : Host P). IsGiven (marks ++ Turned event ∷ []) host) (sym does)
      (stays_given (marks ++ Turned event ∷ []) [] after (driven A after) turned (record { grows = two.grows; gifts_are = two.gifts_are }) (drives_told A most_steps after turned.so.lives.all_told) tt)
  act_given marks (Hears circumstances (Failed status)) old new has calm does all = on_link marks (Hears circumstances (Failed status)) old new tt has calm does all
  act_given marks (Hears circumstances (Heard pdu)) old new has calm does all = on_link marks (Hears circumstances (Heard pdu)) old new tt has calm does all
  act_given marks (Hears circumstances TimerFired) old new has calm does all = on_link marks (Hears circumstances TimerFired) old new tt has calm does all
  act_given marks (Hears circumstances Cancelled) old new has calm does all = on_link marks (Hears circumstances Cancelled) old new tt has calm does all
  act_given marks (Hears circumstances (Opening name)) old new has calm does all = on_link marks (Hears circumstances (Opening name)) old new tt has calm does all
  act_given marks (Says pdu) old new has calm does all = on_link marks (Says pdu) old new tt has calm does all

  abbrev pub AreGiven : List (Act Circumstance) → Type 0
  AreGiven acts = AllByRecursion (λ (act : Act Circumstance). AllByRecursion G (gifts_with act)) acts

  all_given : (marks : List Mark) (acts : List (Act Circumstance)) (old new : Host P) → IsGiven marks old → AreCalm A acts old → Acting (upper A) acts old new → AreGiven acts → IsGiven (marks ++ flat_map act_marks acts) new
  all_given marks [] old new has calm same all = subst (λ (host : Host P). IsGiven (marks ++ []) host) (sym same) (subst (λ (m : List Mark). IsGiven m old) (sym (append-nil marks)) has)
  all_given marks (act ∷ acts) old new has calm (mid, does, rest) all =
      subst (λ (m : List Mark). IsGiven m new) (append_assoc marks (act_marks act) (flat_map act_marks acts))
      (all_given (marks ++ act_marks act) acts mid new (act_given marks act old mid has calm.0 does all.0) (calm.1 mid does) rest all.1)

  calm_up : (up : Bool) (acts : List (Act Circumstance)) (host : Host P) → AreInTurn (upper A) up acts host → AreGentleUp A up acts host → AreCalm A acts host
  calm_up up [] host quiet gentle = tt
  calm_up true (act ∷ acts) host quiet gentle = (act_calm A act host (quiet.0.in_quiet refl, λ mid does. tt) gentle.0, λ mid does. calm_up (is_up_behind true act) acts mid (quiet.1 mid does) (gentle.1 mid does))
  calm_up false (act ∷ acts) host quiet gentle = (gentle.0, λ mid does. calm_up (is_up_behind false act) acts mid (quiet.1 mid does) (gentle.1 mid does))

  -- it lives through its talk, was calm and prompt on each link, and what its profile was given is so
  pub record LivesTold (talk : List Talk) (now : Host P) : Type 0 where
    pub fed : TalksFed A asks talk now
    pub calm : AllByRecursion (IsCalm A.policy no_channels) (on_links A asks (flat_map talk_marks talk) now fed.so.lives)
    pub prompt : AllByRecursion (IsPrompt A.policy) (on_links A asks (flat_map talk_marks talk) now fed.so.lives)
    pub given : AllByRecursion G (gifts_of fed.so.lives.feeds)

  all_prompt : (spans : List Span) (now : List Occurrence) → AllByRecursion (λ (span : Span). IsPrompt A.policy span.list) spans → IsPrompt A.policy now → AllByRecursion (IsPrompt A.policy) (map (λ (span : Span). span.list) spans ++ now ∷ [])
  all_prompt [] now before last = (last, tt)
  all_prompt (span ∷ spans) now before last = (before.0, all_prompt spans now before.1 last)

  lives_by : (talk : List Talk) (now : Host P) (over : OverLinks (upper A) talk now) → IsGiven (flat_map act_marks over.acts) now → flat_map act_marks over.acts ≡ flat_map talk_marks talk → LivesTold talk now
  unfolding calmly_fed
  lives_by talk now over has same = record {
    fed = calmly_fed A asks talk now over (flat_map act_marks over.acts) has.so same;
    calm = all_spans A.policy has.so.lives.spans has.so.lives.now has.so.spans_calm has.so.now_calm;
    prompt = all_prompt has.so.lives.spans has.so.lives.now has.prompt.0 has.prompt.1;
    given = has.given;
  }

  pub lives-told : (talk : List Talk) (now : Host P) (over : OverLinks (upper A) talk now) → AreGentleUp A false over.acts (first_host A) → AreGiven over.acts → LivesTold talk now
  lives-told talk now over gentle all =
      lives_by talk now over
      (all_given [] over.acts (first_host A) now (record { so = first_calmly A asks; given = first-given A asks G; prompt = first-prompt A asks }) (calm_up false over.acts (first_host A) over.in_turn gentle) over.acting all)
      (acts_marks over.acts ∙ (ap (flat_map _) over.deeds_are ∙ talks_marks talk))
