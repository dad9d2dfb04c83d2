-- What a client holds of its search stays so with each thing that it goes through on its link.
use Rattle.std.proofs.Common.{◌≡◌, ℕ, List, [], ◌∷◌, ◌++◌, drop, fold, Bool, true, false, cond, eqb, not, Option, Some, None, refl, sym, ap, subst, ◌∙◌, ◌⊎◌, inl, inr}
use Rattle.std.specs.Prelude.{find}
use Rattle.std.proofs.lemmas.List.Sums.{fold-append}
use Rattle.shelf_model.specs.acl_fragments.specs.Pieces.{channel_of}
use Rattle.shelf_model.specs.bt_base.specs.declared.settings.Settings.{Settings}
use Rattle.shelf_model.specs.l2cap_config.specs.declared.wish.Mode.TheVariants.{Basic, Enhanced}
use Rattle.push_laws.specs.link_talk.specs.declared.channel.Channel.{Channel}
use Rattle.push_laws.specs.link_talk.specs.Sdus.{spoken_as}
use Rattle.shelf_model.specs.capture.specs.declared.flow.Flow.TheVariants.{Into}
use Rattle.push_laws.specs.link_talk.specs.ServiceAnswers.{waiting_after}
use Rattle.shelf_model.specs.sdp_client.specs.Views.{is_awaiting}
use Rattle.channel_laws.specs.channel_model.specs.declared.event.ChannelEvent.TheVariants.{Closed}
use Rattle.channel_laws.specs.channel_model.specs.Value.{Carrier, Plain, Retransmitting, Setup, Stage as Held_stage, Requested, Connected, Leaving, Closing, Crossed, Held, Channels}
use Rattle.channel_laws.specs.channel_model.specs.Policies.{Policy, policy}
use Rattle.channel_laws.specs.channel_model.specs.Changing.{has_own, held_at, setup_of}
use Rattle.channel_laws.specs.channel_model.specs.Carrying.{Up, Nothing, Received, sdu_with, sdu_at, is_taken_with, up_by, up_on, up_at}
use Rattle.channel_laws.specs.channel_model.specs.Hearing.{up}
use Rattle.channel_laws.specs.channel_model.proofs.Lookups.{eqb-same}
use Rattle.channel_laws.specs.Frames.{IsUttered}
use Rattle.channel_laws.specs.Exchanged.{heard_in, exchanged_in}
use Rattle.channel_laws.specs.Runs.{Occurrence, Comes, Connects, AsksFeatures, Disconnects, Sends, Gives, Fires, Tells, value_after, Run, run_on, run_of}
use Rattle.channel_laws.proofs.Exchanged.{spoken_on, occurs_spoken}
use Rattle.channel_laws.proofs.Ferrying.{IsBasic}
use Rattle.channel_laws.proofs.Holding.{IsRead, is-read}
use Rattle.channel_laws.proofs.Ready.{SendsNone, alone-ready}
use Rattle.channel_laws.proofs.Running.{all-sound}
use Rattle.channel_laws.proofs.Sound.{CarrierIs}
use Rattle.push_laws.specs.push_model.specs.declared.course.Point.TheVariants.{Due, Asked}
use Rattle.push_laws.specs.push_model.specs.declared.course.Stage.{Stage}
use Rattle.push_laws.specs.push_model.specs.declared.course.Stage.TheVariants.{Rest, Link, SearchChannel, Search, SearchEnd, Features, ObjectChannel, Object, ObjectEnd, LinkEnd, Over}
use Rattle.push_laws.specs.push_model.specs.Client.{Client}
use Rattle.push_laws.specs.push_model.specs.Events.{is_asking_features}
use Rattle.shelf_model.specs.host_model.specs.Endpoints.{Endpoint}
use Rattle.shelf_model.specs.host_model.specs.Clients.{ClientProfile}
use Rattle.host_laws.specs.Leaving.{in_use, is_closing}
use Rattle.host_laws.proofs.Alone.{same_one}
use Rattle.host_laws.proofs.Changes.{kind, is_alive, Fine}
use Rattle.host_laws.proofs.OneChannel.{lives_by, alive_by, IsLive, IsBare, IsLost, LiveOn, live-fine, bare-fine}
use Rattle.host_laws.proofs.Querying.{awaited, IsAsking}
use Rattle.host_laws.proofs.Searching.{waiting_on, WaitsAt, OnSearch, Of, At, at_of, of_at}
use Rattle.host_laws.proofs.StandingClients.{Uses, Clean, Lives, Ends, Idle, Waits, Told as ToldThem}

-- ---- its one channel

-- where it asks for no features and has a channel, it is its one
pub record HasOne (c : Client) (v : Channels) (one : Held) : Type 0 where
  pub psm : ℕ
  pub asked : Bool
  pub leaving : Bool
  pub uses : Uses c psm asked leaving
  pub live : IsLive psm asked leaving v
  pub is : live.one ≡ one

pub has_one : (c : Client) (v : Channels) (one : Held) → is_asking_features c.stage ≡ false → v.held ≡ one ∷ [] → Clean c v → HasOne c v one
has_one c v one quiet is (Lives psm asked leaving uses live) =
    let lists : live.one ∷ [] ≡ one ∷ [] = sym live.held_is ∙ is in
    record { psm = psm; asked = asked; leaving = leaving; uses = uses; live = live; is = cc }
has_one c v one quiet is (Ends psm own used closes bare) = let never : [] ≡ one ∷ [] = sym bare.held_is ∙ is in absurd cc
has_one c v one quiet is (Idle bare) = let never : [] ≡ one ∷ [] = sym bare.held_is ∙ is in absurd cc
has_one c v one quiet is (Waits asks waits') = let never : true ≡ false = sym asks ∙ quiet in absurd cc
has_one c v one quiet is (ToldThem asks features bare) = let never : true ≡ false = sym asks ∙ quiet in absurd cc

pub one_alive : (c : Client) (v : Channels) (one : Held) → HasOne c v one → is_alive one.stage ≡ true
one_alive c v one has = alive_by has.asked has.leaving one.stage (subst (λ (h : Held). lives_by has.asked has.leaving (kind h.stage) ≡ true) has.is has.live.stage_is)

-- there is none where there was none
pub was_one : (c : Client) (v w : Channels) (next : Held) → ((K : Channels → Type 0) → Fine K → K v → K w) → is_asking_features c.stage ≡ false → w.held ≡ next ∷ [] → Clean c v → (one : Held) × (v.held ≡ one ∷ [])
was_one c v w next goes quiet is (Lives psm asked leaving uses live) = (live.one, live.held_is)
was_one c v w next goes quiet is (Ends psm own used closes bare) =
    let later = goes (IsBare _) (bare-fine _) bare in let never : [] ≡ next ∷ [] = sym later.held_is ∙ is in absurd cc
was_one c v w next goes quiet is (Idle bare) = let later = goes (IsBare []) (bare-fine []) bare in let never : [] ≡ next ∷ [] = sym later.held_is ∙ is in absurd cc
was_one c v w next goes quiet is (Waits asks waits') = let never : true ≡ false = sym asks ∙ quiet in absurd cc
was_one c v w next goes quiet is (ToldThem asks features bare) = let never : true ≡ false = sym asks ∙ quiet in absurd cc

-- ---- what is spoken

module _ (settings : Settings) where
  abbrev pub wanted : Policy
  wanted = policy settings false

  -- the channel of service discovery is basic
  pub one_basic : (list : List Occurrence) (one : Held) → (run_of wanted list).value.held ≡ one ∷ [] → one.psm ≡ 0x0001 → IsBasic one.own (run_of wanted list).value
  one_basic list one held_is psm_is held setup carrier at has carrier_is =
      let run = run_of wanted list in
      let same : one ≡ held = by held at in
      let r : IsRead wanted run.said one.own held setup = is-read wanted run.said run.value one.own held setup at has (all-sound wanted list) in
      subst (CarrierIs (wanted.wish held.psm)) carrier_is r.agrees.carrier_is ∙ ap (λ n. (wanted.wish n).mode) (ap (λ (h : Held). h.psm) (sym same) ∙ psm_is)
    where
      by : (h : Held) → held_at one.own (run_of wanted list).value ≡ Some h → one ≡ h
      by h at = let found : Some one ≡ Some h = sym (ap (find (has_own one.own)) held_is ∙ ap (λ b. cond b (Some one) None) (eqb-same one.own)) ∙ at in cc

  pub none_basic : (own : ℕ) (v : Channels) → v.held ≡ [] → IsBasic own v
  none_basic own v none held setup carrier at has carrier_is = let never : None ≡ Some held = ap (find (has_own own)) (sym none) ∙ at in absurd cc

  -- more waits, by what is spoken
  pub waits_more : (list : List Occurrence) (more : Occurrence) (channel : Channel) → IsUttered more (run_of wanted list).value → IsBasic channel.own (run_of wanted list).value
      → (let run = run_of wanted list in waiting_on channel (run_on wanted run more).said ≡ fold waiting_after (waiting_on channel run.said) (exchanged_in channel.own more run.value))
  waits_more list more channel uttered basic =
      let run = run_of wanted list in
      ap (fold waiting_after None) (occurs_spoken wanted channel run.said run.value (all-sound wanted list) basic more uttered)
      ∙ fold-append waiting_after None (spoken_on channel run.said) (exchanged_in channel.own more run.value)

  at_more : (list : List Occurrence) (more : Occurrence) (known : Bool) (one next : Held) (waiting : Option ℕ) → (let run = run_of wanted list in IsUttered more run.value → run.value.held ≡ one ∷ [] → one.psm ≡ 0x0001 → next.own ≡ one.own → WaitsAt known one.own run.said waiting
      → WaitsAt known next.own (run_on wanted run more).said (fold waiting_after waiting (exchanged_in one.own more run.value)))
  at_more list more known one next waiting uttered held_is psm_is same waits_so now channel own =
      let run = run_of wanted list in
      let mine : channel.own ≡ one.own = own ∙ same in
      waits_more list more channel uttered (subst (λ n. IsBasic n run.value) (sym mine) (one_basic list one held_is psm_is))
      ∙ (ap (λ w. fold waiting_after w (exchanged_in channel.own more run.value)) (waits_so now channel mine) ∙ ap (λ n. fold waiting_after waiting (exchanged_in n more run.value)) mine)

  -- its channel goes on
  pub search_more : (list : List Occurrence) (more : Occurrence) (c : Client) (endpoints : List Endpoint) (submitted : Option ℕ) (opens frees known : Bool) (waiting : Option ℕ) (one next : Held) → (let run = run_of wanted list in let then = run_on wanted run more in
      ((K : Channels → Type 0) → Fine K → K run.value → K then.value) → SendsNone frees more → IsUttered more run.value → in_use c.stage c.psm ≡ Some 0x0001 → is_asking_features c.stage ≡ false → Clean c run.value → Clean c then.value
      → run.value.held ≡ one ∷ [] → then.value.held ≡ next ∷ [] → OnSearch wanted endpoints submitted opens frees known waiting run one
      → OnSearch wanted endpoints submitted opens frees known (fold waiting_after waiting (exchanged_in one.own more run.value)) then next)
  search_more list more c endpoints submitted opens frees known waiting one next goes none uttered used quiet clean later held_is next_is so =
      let run = run_of wanted list in
      let then = run_on wanted run more in
      let has = has_one c run.value one quiet held_is clean in
      let now = has_one c then.value next quiet next_is later in
      let psm_is : one.psm ≡ 0x0001 = ap (λ (h : Held). h.psm) (sym has.is) ∙ (has.live.psm_is ∙ same_psm has.psm (sym has.uses.used ∙ used)) in
      let same : next.own ≡ one.own = (same_one one.own false run.value then.value one next goes held_is refl (one_alive c run.value one has) (λ is. cc) next_is now.live.none).0 in
      record {
        endpoint = so.endpoint ∙ ap Some (sym same);
        submits = λ own is. so.submits own is ∙ sym same;
        ready = alone-ready wanted list more opens frees one next held_is next_is same none so.ready;
        waits_so = at_more list more known one next waiting uttered held_is psm_is same so.waits_so;
        settled = so.settled;
      }
    where
      same_psm : (psm : ℕ) → Some psm ≡ Some 0x0001 → psm ≡ 0x0001
      same_psm psm is = cc

  -- nothing waits where nothing waited and none goes out
  pub heard_none : (own : ℕ) (u : Up) → fold waiting_after None (heard_in own u ++ []) ≡ None
  heard_none own Nothing = refl
  heard_none own (Received other psm sdu) = by (eqb other own)
    where
      by : (b : Bool) → fold waiting_after None (cond b (spoken_as Into sdu ∷ []) [] ++ []) ≡ None
      by true = refl
      by false = refl

  -- ---- what is heard of its one channel

  abbrev pub Hands : Held → List ℕ → Up → Type 0
  Hands one pdu u = (u ≡ Nothing) ⊎ (u ≡ Received one.own one.psm (drop 4 pdu))

  sdu_hands : (one : Held) (pdu : List ℕ) (sdu : Option (List ℕ)) → (sdu ≡ None) ⊎ (sdu ≡ Some (drop 4 pdu)) → Hands one pdu (up_by sdu one)
  sdu_hands one pdu sdu (inl none) = inl (ap (λ s. up_by s one) none)
  sdu_hands one pdu sdu (inr some) = inr (ap (λ s. up_by s one) some)

  setup_hands : (list : List Occurrence) (one : Held) (pdu : List ℕ) (setup : Setup) → held_at one.own (run_of wanted list).value ≡ Some one → setup_of one.stage ≡ Some setup → IsBasic one.own (run_of wanted list).value
      → (sdu_with setup.carrier setup.own pdu ≡ None) ⊎ (sdu_with setup.carrier setup.own pdu ≡ Some (drop 4 pdu))
  setup_hands list one pdu setup at has basic = by setup.carrier refl
    where
      taken : (carrier : Carrier) (b : Bool) → (cond b (Some (drop 4 pdu)) None ≡ None) ⊎ (cond b (Some (drop 4 pdu)) None ≡ Some (drop 4 pdu))
      taken carrier true = inr refl
      taken carrier false = inl refl

      by : (carrier : Option Carrier) → setup.carrier ≡ carrier → (sdu_with carrier setup.own pdu ≡ None) ⊎ (sdu_with carrier setup.own pdu ≡ Some (drop 4 pdu))
      by None is = inl refl
      by (Some (Plain agreed waiting)) is = taken (Plain agreed waiting) (is_taken_with setup.own (Plain agreed waiting) pdu)
      by (Some (Retransmitting machine)) is = let never : Enhanced ≡ Basic = basic one setup (Retransmitting machine) at has is in absurd cc

  stage_hands : (list : List Occurrence) (one : Held) (pdu : List ℕ) (stage : Held_stage) → one.stage ≡ stage → held_at one.own (run_of wanted list).value ≡ Some one → IsBasic one.own (run_of wanted list).value → (sdu_at stage pdu ≡ None) ⊎ (sdu_at stage pdu ≡ Some (drop 4 pdu))
  stage_hands list one pdu (Requested request) is at basic = inl refl
  stage_hands list one pdu (Connected peer setup) is at basic = setup_hands list one pdu setup at (ap setup_of is) basic
  stage_hands list one pdu (Leaving peer setup request) is at basic = inl refl
  stage_hands list one pdu (Closing peer request checked) is at basic = inl refl
  stage_hands list one pdu (Crossed peer request) is at basic = inl refl

  pub up_one : (list : List Occurrence) (one : Held) (pdu : List ℕ) → (run_of wanted list).value.held ≡ one ∷ [] → one.psm ≡ 0x0001 → Hands one pdu (up (channel_of pdu) pdu (run_of wanted list).value)
  up_one list one pdu held_is psm_is = by (eqb (channel_of pdu) 0x0001)
    where
      v : Channels
      v = (run_of wanted list).value

      here : held_at one.own v ≡ Some one
      here = ap (find (has_own one.own)) held_is ∙ ap (λ b. cond b (Some one) None) (eqb-same one.own)

      found : (b : Bool) → Hands one pdu (up_on (cond b (Some one) None) pdu)
      found false = inl refl
      found true = sdu_hands one pdu (sdu_at one.stage pdu) (stage_hands list one pdu one.stage refl here (one_basic list one held_is psm_is))

      by : (b : Bool) → Hands one pdu (cond b Nothing (up_at (channel_of pdu) pdu v))
      by true = inl refl
      by false = subst (λ h. Hands one pdu (up_on h pdu)) (sym (ap (find (has_own (channel_of pdu))) held_is)) (found (eqb one.own (channel_of pdu)))

  -- ---- something happens to its channels

  -- of the channel of its search there is one behind it
  pub search_next : (c : Client) (v w : Channels) (one : Held) → c.stage ≡ Search → v.held ≡ one ∷ [] → Clean c v → Clean c w → ((K : Channels → Type 0) → Fine K → K v → K w) → (next : Held) × (w.held ≡ next ∷ [])
  search_next c v w one at is clean now goes = on (goes (LiveOn has.psm has.asked has.leaving) (live-fine has.psm has.asked has.leaving) (inl has.live))
    where
      has : HasOne c v one
      has = has_one c v one (ap is_asking_features at) is clean

      open' : is_closing c.stage ≡ false
      open' = ap is_closing at

      quiet : is_asking_features c.stage ≡ false
      quiet = ap is_asking_features at

      lost : IsLost has.psm w → Clean c w → (next : Held) × (w.held ≡ next ∷ [])
      lost gone (Lives psm asked leaving uses live) = (live.one, live.held_is)
      lost gone (Ends psm own used closes bare) = let never : true ≡ false = sym closes ∙ open' in absurd cc
      lost gone (Idle bare) = let never : [] ≡ Closed gone.own has.psm gone.reason ∷ gone.more = sym bare.notes_are ∙ gone.notes_are in absurd cc
      lost gone (Waits asks waits') = let never : true ≡ false = sym asks ∙ quiet in absurd cc
      lost gone (ToldThem asks features bare) = let never : true ≡ false = sym asks ∙ quiet in absurd cc

      on : LiveOn has.psm has.asked has.leaving w → (next : Held) × (w.held ≡ next ∷ [])
      on (inl live) = (live.one, live.held_is)
      on (inr (inl ended)) = let never : true ≡ false = sym (has.uses.closes ended.leaves) ∙ open' in absurd cc
      on (inr (inr gone)) = lost gone now

  module _ (list : List Occurrence) (more : Occurrence) (p : ClientProfile) (goes : (K : Channels → Type 0) → Fine K → K (run_of wanted list).value → K (value_after wanted more (run_of wanted list).value)) (none : SendsNone true more) (uttered : IsUttered more (run_of wanted list).value) where
    abbrev run : Run
    run = run_of wanted list

    abbrev then : Run
    then = run_on wanted run more

    abbrev c : Client
    c = p.client

    less_sent : (frees : Bool) → SendsNone frees more
    less_sent frees = by more none
      where
        by : (m : Occurrence) → SendsNone true m → SendsNone frees m
        by (Sends own sdu) sent = cc
        by (Comes pdu) sent = tt
        by (Connects psm) sent = tt
        by AsksFeatures sent = tt
        by (Disconnects own) sent = tt
        by (Gives pdu) sent = tt
        by Fires sent = tt
        by Tells sent = tt

    -- what waits on the channel of its search behind it
    abbrev pub Searched : Option ℕ → Type 0
    Searched waiting = IsAsking c.query × (next : Held) × (then.value.held ≡ next ∷ []) × OnSearch wanted p.endpoints p.submitted true (not c.given) true waiting then next

    pub searched : c.stage ≡ Search → Clean c run.value → Clean c then.value → (so : At wanted p.endpoints p.submitted run Search c) → Searched (fold waiting_after (awaited c.query) (exchanged_in so.1.own more run.value))
    searched at clean now (asking, one, is, so) =
        let (next, next_is) = search_next c run.value then.value one at is clean now goes in
        (asking, next, next_is, search_more list more c p.endpoints p.submitted true (not c.given) true (awaited c.query) one next goes (less_sent (not c.given)) uttered (ap (λ s. in_use s c.psm) at) (ap is_asking_features at) clean now is next_is so)

    -- in the other stages, where nothing that waits comes up
    pub more_at : (stage : Stage) → c.stage ≡ stage → (stage ≡ Search → ⊥) → ((own : ℕ) → fold waiting_after None (exchanged_in own more run.value) ≡ None) → Clean c run.value → Clean c then.value → At wanted p.endpoints p.submitted run stage c → At wanted p.endpoints p.submitted then stage c
    more_at Search at apart silent clean now so = absurd (apart refl)
    more_at (SearchChannel Due) at apart silent clean now so = so
    more_at (SearchChannel Asked) at apart silent clean now (new, empty, free, so) = (
      new,
      empty,
      free,
      λ next next_is.
          let (one, one_is) = was_one c run.value then.value next goes (ap is_asking_features at) next_is clean in
          subst (λ w. OnSearch wanted p.endpoints p.submitted false true true w then next) (silent one.own)
          (search_more list more c p.endpoints p.submitted false true true None one next goes none uttered (ap (λ s. in_use s c.psm) at) (ap is_asking_features at) clean now one_is next_is (so one one_is)),
    )
    more_at (SearchEnd Due) at apart silent clean now (named, so) = (
      named,
      λ next next_is.
          let (one, one_is) = was_one c run.value then.value next goes (ap is_asking_features at) next_is clean in
          subst (λ w. OnSearch wanted p.endpoints p.submitted false false (not (is_awaiting c.query)) w then next) (silent one.own)
          (search_more list more c p.endpoints p.submitted false false (not (is_awaiting c.query)) None one next goes (less_sent false) uttered (ap (λ s. in_use s c.psm) at) (ap is_asking_features at) clean now one_is next_is (so one one_is)),
    )
    more_at (SearchEnd Asked) at apart silent clean now (named, so) = (
      named,
      λ next next_is.
          let (one, one_is) = was_one c run.value then.value next goes (ap is_asking_features at) next_is clean in
          let later = has_one c then.value next (ap is_asking_features at) next_is now in
          (same_one one.own true run.value then.value one next goes one_is refl (one_alive c run.value one (has_one c run.value one (ap is_asking_features at) one_is clean)) (λ is. so one one_is) next_is later.live.none).1 refl,
    )
    more_at (Features point) at apart silent clean now so = so
    more_at (ObjectChannel point) at apart silent clean now so = so
    more_at Object at apart silent clean now so = so
    more_at (ObjectEnd point) at apart silent clean now so = so
    more_at Rest at apart silent clean now so = so
    more_at (Link point) at apart silent clean now so = so
    more_at (LinkEnd point) at apart silent clean now so = so
    more_at Over at apart silent clean now so = so

    -- all stages, where nothing is spoken
    pub quiet_of : ((own : ℕ) → exchanged_in own more run.value ≡ []) → Clean c run.value → Clean c then.value → Of wanted p.endpoints p.submitted run c → Of wanted p.endpoints p.submitted then c
    quiet_of quiet clean now so = by c.stage refl
      where
        other : (stage : Stage) → c.stage ≡ stage → (stage ≡ Search → ⊥) → Of wanted p.endpoints p.submitted then c
        other stage at apart = at_of wanted p.endpoints p.submitted then stage c at (more_at stage at apart (λ own. ap (fold waiting_after None) (quiet own)) clean now (of_at wanted p.endpoints p.submitted run stage c at so))

        by : (stage : Stage) → c.stage ≡ stage → Of wanted p.endpoints p.submitted then c
        by Search at =
            let was = of_at wanted p.endpoints p.submitted run Search c at so in
            let (asking, next, next_is, is) = searched at clean now was in
            at_of wanted p.endpoints p.submitted then Search c at (asking, next, next_is, subst (λ l. OnSearch wanted p.endpoints p.submitted true (not c.given) true (fold waiting_after (awaited c.query) l) then next) (quiet was.1.own) is)
        by Rest at = other Rest at (λ is. cc)
        by (Link point) at = other (Link point) at (λ is. cc)
        by (SearchChannel point) at = other (SearchChannel point) at (λ is. cc)
        by (SearchEnd point) at = other (SearchEnd point) at (λ is. cc)
        by (Features point) at = other (Features point) at (λ is. cc)
        by (ObjectChannel point) at = other (ObjectChannel point) at (λ is. cc)
        by Object at = other Object at (λ is. cc)
        by (ObjectEnd point) at = other (ObjectEnd point) at (λ is. cc)
        by (LinkEnd point) at = other (LinkEnd point) at (λ is. cc)
        by Over at = other Over at (λ is. cc)
