-- Whatever a host hears and says, its channels have less to give than it may say: so it holds none of it back.
use Rattle.std.proofs.Common.{◌≡◌, ℕ, zero, suc, ◌+◌, ◌≤◌, List, [], ◌∷◌, ◌++◌, length, Bool, true, false, cond, eqb, Option, Some, None, refl, sym, ap, subst, ◌∙◌, arith, if◌then◌else◌}
use Rattle.std.specs.Prelude.{is_some, nat_le, min, ◌&&◌, not}
use Rattle.std.specs.List.{AllByRecursion}
use Rattle.std.proofs.lemmas.Bool.{and_parts, le-leb, leb-true, leb-false}
use Rattle.shelf_model.specs.bt_base.specs.Objects.{Contents}
use Rattle.shelf_model.specs.bt_base.specs.Octets.{IsOctets}
use Rattle.shelf_model.specs.bt_base.specs.declared.settings.Settings.{Settings}
use Rattle.shelf_model.specs.l2cap_config.specs.declared.wish.Mode.TheVariants.{Basic}
use Rattle.shelf_model.specs.l2cap_config.specs.declared.wish.Wish.{Wish}
use Rattle.channel_laws.specs.channel_model.specs.Value.{Request, Own, Unasked, Asking, Granted, Stage, Requested, Connected, Leaving, Closing, Crossed, Held, Channels}
use Rattle.channel_laws.specs.channel_model.specs.Changing.{has_own, held_at}
use Rattle.channel_laws.specs.channel_model.specs.Policies.{Policy, policy, wished, enhanced_wish}
use Rattle.channel_laws.specs.channel_model.specs.Giving.{Given, next_given, after_given}
use Rattle.channel_laws.specs.channel_model.specs.Calls.{peer_mtu, waits, sends}
use Rattle.channel_laws.specs.Pace.{OffersNothing}
use Rattle.channel_laws.specs.Runs.{Occurrence, run_of}
use Rattle.channel_laws.specs.Tries.{own_request, for_options, for_end, request_at, request_of, copies}
use Rattle.channel_laws.proofs.Numbering.{mtu-short}
use Rattle.channel_laws.proofs.Spending.{tries-are_kept}
use Rattle.channel_laws.proofs.Timekeeping.{options-keep_pace}
use Rattle.shelf_model.specs.world_model.specs.Machines.{Up, Down, News, Linked, Failed, Heard, TimerFired, Cancelled, Opening}
use Rattle.shelf_model.specs.host_model.specs.Circumstances.{Circumstance}
use Rattle.shelf_model.specs.host_model.specs.Clients.{ClientProfile, client_profile}
use Rattle.shelf_model.specs.host_model.specs.Endpoints.{fits, takes_sdu}
use Rattle.shelf_model.specs.host_model.specs.Hosts.{Host, most_said, half_said, first_host, with_channels, settles, strides, drives, most_steps, steps_behind, ready, hears_news, hear, says, after_said, next}
use Rattle.shelf_model.specs.host_model.specs.Machines.{upper}
use Rattle.shelf_model.specs.host_model.specs.Pdus.{are_octets, pdu_of, is_frame}
use Rattle.shelf_model.specs.host_model.specs.Profiles.{Stride, Profile}
use Rattle.shelf_model.specs.host_model.specs.Servers.{server_profile}
use Rattle.shelf_model.specs.host_model.proofs.Orderly.{octets_by}
use Rattle.host_laws.specs.Acts.{Act, Hears, Says, Does, Acting}
use Rattle.host_laws.specs.Calls.{Asks}
use Rattle.host_laws.specs.Free.{HoldsBackNothing, HostsHoldBackNothing, ServersFirePlainly, ClientsFirePlainly}
use Rattle.host_laws.specs.Read.{IsActSo, IsHeardSo}
use Rattle.host_laws.specs.Seen.{IsOneCommand, FiresPlainly}
use Rattle.host_laws.specs.Steady.{IsSteadyOwn, IsSteadyStage, IsSteadyAt, IsSteady}
use Rattle.host_laws.proofs.Answering.{told-signals, new-signals, comes-signals, connects-signals, asks-signals, disconnects-signals, sends-signals, timed-signals, gives-signals}
use Rattle.host_laws.proofs.Asking.{hosts_ask}
use Rattle.host_laws.proofs.Cargo.{new-laden, told-laden, comes-laden, timed-laden, gives-laden, connects-laden, asks-laden, disconnects-laden, sends-laden}
use Rattle.host_laws.proofs.Fitting.{HoldsOn, Heeds, IsProper, proper-holds, KeepsFit, FitHost, first-fits, hears-fit, said-fits, AnyServer, servers-keep_so, servers-keep_fit, IsLowClient, clients-keep_fit}
use Rattle.host_laws.proofs.Framed.{IsFlowing, given-is_frame}
use Rattle.host_laws.proofs.Living.{hosts_run}
use Rattle.host_laws.proofs.ReadSo.{acts-fit}
use Rattle.host_laws.proofs.Remaining.{channels_left, AreTried, AreApart, given-less, left-bound}
use Rattle.host_laws.proofs.Signals.{IsSmallWish, AreSmallWishes, FitsStage, FitsFound, fits-found}
use Rattle.host_laws.proofs.Steadying.{steady_fire_plainly}

-- ---- what stays so of the channels

-- an SDU that a channel takes is octets, and not too long
takes_cargo : (wanted : Policy) (own : ℕ) (sdu : List ℕ) (v : Channels) → takes_sdu own sdu v ≡ true → IsProper wanted v → IsOctets sdu × (length sdu ≤ 32767)
takes_cargo wanted own sdu v taken so =
    let both = and_parts (fits (length sdu) (peer_mtu own v) && not (waits own v)) (are_octets sdu) taken in
    (octets_by sdu both.1, by (peer_mtu own v) refl (and_parts (fits (length sdu) (peer_mtu own v)) (not (waits own v)) both.0).0)
  where
    by : (mtu : Option ℕ) → peer_mtu own v ≡ mtu → fits (length sdu) mtu ≡ true → length sdu ≤ 32767
    by None is fit = cc
    by (Some most) is fit = let short = mtu-short wanted own v most so.numbered is in let within = leb-true (length sdu) most fit in omega (arith, short, within)

module _ (Leaves : Type 0) (wanted : Policy) (wishes : AreSmallWishes wanted) where
  pub flowing-heeds : Heeds wanted IsOneCommand (IsFlowing Leaves wanted)
  flowing-heeds =
      let proper = proper-holds wanted in
      record {
        new = λ events. record { proper = proper.new events; signals = new-signals Leaves events; laden = new-laden wanted events };
        told = λ events v so. record { proper = proper.told events v so.proper; signals = told-signals Leaves events v so.signals; laden = told-laden wanted events v so.laden };
        comes = λ pdu v one so. record {
          proper = proper.comes pdu v (λ here. (one here).0) so.proper;
          signals = comes-signals Leaves wanted pdu v wishes one so.proper.fitted so.signals;
          laden = comes-laden wanted pdu v so.laden;
        };
        timed = λ v so. record { proper = proper.timed v so.proper; signals = timed-signals Leaves wanted v so.signals; laden = timed-laden wanted v so.laden };
        gives = λ v so. record { proper = proper.gives v so.proper; signals = gives-signals Leaves v so.signals; laden = gives-laden wanted v so.proper.numbered.lone so.laden };
      }

  pub flowing-sends : (own : ℕ) (sdu : List ℕ) (v : Channels) → takes_sdu own sdu v ≡ true → IsFlowing Leaves wanted v → IsFlowing Leaves wanted (sends own sdu v)
  flowing-sends own sdu v taken so =
      let cargo = takes_cargo wanted own sdu v taken so.proper in
      record { proper = (proper-holds wanted).sends own sdu v taken so.proper; signals = sends-signals Leaves own sdu v so.signals; laden = sends-laden wanted own sdu v cargo.0 cargo.1 so.laden }

  flowing_holds : Leaves → HoldsOn wanted IsOneCommand (IsFlowing Leaves wanted)
  flowing_holds may =
      let heeds = flowing-heeds in
      let proper = proper-holds wanted in
      record {
        new = heeds.new;
        told = heeds.told;
        comes = heeds.comes;
        timed = heeds.timed;
        gives = heeds.gives;
        connects = λ psm v low so. record { proper = proper.connects psm v low so.proper; signals = connects-signals Leaves psm v so.signals; laden = connects-laden wanted psm v so.laden };
        asks = λ v so. record { proper = proper.asks v so.proper; signals = asks-signals Leaves v so.signals; laden = asks-laden wanted v so.laden };
        disconnects = λ own v so. record { proper = proper.disconnects own v so.proper; signals = disconnects-signals Leaves own v may so.signals; laden = disconnects-laden wanted own v so.laden };
        sends = flowing-sends;
      }

-- ---- the bound

module _ {P : Type 0} (A : Profile P) where
  driven_may : (more : Host P → Host P) (stride : Stride P) (host : Host P) (has again : Bool) → (more (strides A stride (settles A host))).may_say ≡ host.may_say
      → (let now = settles A host in if has then now else (if again then more (strides A stride now) else strides A stride now)).may_say ≡ host.may_say
  driven_may more stride host true again goes = refl
  driven_may more stride host false true goes = goes
  driven_may more stride host false false goes = refl

  drives_may : (count : ℕ) (host : Host P) → (drives A count host).may_say ≡ host.may_say
  unfolding drives
  drives_may zero host = refl
  drives_may (suc count) host =
      let now = settles A host in
      let stride = A.steps now.channels now.profile in
      driven_may (λ next. drives A count next) stride host (is_some (next_given now.channels)) stride.more (drives_may count (strides A stride now))

  hears_may : (circumstances : List Circumstance) (news : News) (host : Host P) → (hears_news A circumstances news host).may_say ≡ host.may_say
  hears_may circumstances (Linked Up) host = refl
  hears_may circumstances (Linked (Down reason)) host = refl
  hears_may circumstances (Failed status) host = refl
  hears_may circumstances (Heard pdu) host = refl
  hears_may circumstances TimerFired host = refl
  hears_may circumstances Cancelled host = refl
  hears_may circumstances (Opening name) host = refl

  hear_may : (circumstances : List Circumstance) (news : News) (host : Host P) → (hear A circumstances news host).may_say ≡ most_said
  hear_may circumstances news host = let now = ready A circumstances host in drives_may most_steps (hears_news A circumstances news now) ∙ hears_may circumstances news now

  -- a PDU was said, and how many more may be
  record Counted (host : Host P) (after : Host P) : Type 0 where
    left : ℕ
    may_is : host.may_say ≡ suc left
    given : Given
    gave : next_given host.channels ≡ Some given
    after_is : after ≡ after_said A left host

  same_after : (a c : List ℕ) (b d : Host P) → (let one : List ℕ × Host P = (a, b) in let other : List ℕ × Host P = (c, d) in Some one ≡ Some other) → d ≡ b
  same_after a c b d is = ap (λ (p : List ℕ × Host P). p.1) (some_same _ _ (sym is))
    where
      some_same : (x y : List ℕ × Host P) → Some x ≡ Some y → x ≡ y
      some_same x y is = cc

  abbrev framed_by : Bool → List ℕ → Host P → Option (List ℕ × Host P)
  framed_by test pdu after = if test then Some (pdu, after) else None

  counted : (host : Host P) (pdu : List ℕ) (after : Host P) → next A host ≡ Some (pdu, after) → Counted host after
  counted host pdu after said = by (next_given host.channels) refl host.may_say refl said
    where
      nothing : {Z : Type 0} → (let one : List ℕ × Host P = (pdu, after) in None ≡ Some one) → Z
      nothing is = cc

      framed : (given : Given) (count : ℕ) (test : Bool) → next_given host.channels ≡ Some given → host.may_say ≡ suc count → framed_by test (pdu_of given) (after_said A count host) ≡ Some (pdu, after) → Counted host after
      framed given count true is may same = record { left = count; may_is = may; given = given; gave = is; after_is = same_after (pdu_of given) pdu (after_said A count host) after same }
      framed given count false is may same = nothing same

      by : (found : Option Given) → next_given host.channels ≡ found → (count : ℕ) → host.may_say ≡ count → says A found count host ≡ Some (pdu, after) → Counted host after
      by None is count may same = nothing same
      by (Some given) is zero may same = nothing same
      by (Some given) is (suc count) may same = framed given count (is_frame (pdu_of given)) is may same

  settled_channels : (count : ℕ) (host : Host P) → count ≡ 0 → (drives A count host).channels ≡ host.channels
  unfolding drives
  settled_channels zero host is = refl
  settled_channels (suc count) host is = absurd (omega (arith, is))

  pub acting-more : (acts : List (Act Circumstance)) (act : Act Circumstance) (old mid new : Host P) → Acting (upper A) acts old mid → Does (upper A) act mid new → Acting (upper A) (acts ++ act ∷ []) old new
  acting-more [] act old mid new same does = (new, subst (λ (h : Host P). Does (upper A) act h new) same does, refl)
  acting-more (one ∷ acts) act old mid new (next, first, rest) does = (next, first, acting-more acts act next mid new rest does)

module _ {P : Type 0} (A : Profile P) (asks : Asks A) (Q : P → Type 0) (keeps : KeepsFit A IsOneCommand (IsFlowing (Unit {0}) A.policy) Q) (some : 1 ≤ A.policy.tries) (few : A.policy.tries ≤ 255) (small : (psm : ℕ) → (A.policy.wish psm).window ≤ 63) where
  abbrev pub K : Channels → Type 0
  K v = IsFlowing (Unit {0}) A.policy v

  abbrev pub left : Host P → ℕ
  left host = channels_left A.policy.tries host.channels

  -- in the second half its channels have no more to give than it may say
  pub record IsFunded (host : Host P) : Type 0 where
    pub fit : FitHost K Q host
    pub funded : host.may_say ≤ half_said → left host ≤ host.may_say

  apart_of : (host : Host P) → FitHost K Q host → AreApart host.channels
  apart_of host fit = record { lone = fit.channels.proper.numbered.lone; below = fit.channels.laden.below }

  bound : (host : Host P) → FitHost K Q host → left host ≤ half_said
  bound host fit = left-bound A.policy A.policy.tries host.channels few small fit.channels.laden fit.channels.signals.few fit.channels.proper.fitted.core.high

  tried : (acts : List (Act Circumstance)) (host : Host P) → Acting (upper A) acts (first_host A) host → AreTried A.policy.tries host.channels
  tried acts host acting errand request =
      let lives = hosts_run A asks acts host acting in
      subst (λ (v : Channels). request_of errand v ≡ Some request → copies errand v.queue + request.given ≤ A.policy.tries) (sym lives.channels_run) (tries-are_kept A.policy lives.now A.policy.tries some (omega arith) errand request)

  hears_funded : (circumstances : List Circumstance) (news : News) (host : Host P) → IsHeardSo IsOneCommand news → IsFunded host → IsFunded (hear A circumstances news host)
  hears_funded circumstances news host one so = record {
    fit = hears-fit A IsOneCommand K Q keeps circumstances news host one so.fit;
    funded = λ low. absurd (let may = hear_may A circumstances news host in omega (arith, low, may));
  }

  says_funded : (host : Host P) (pdu : List ℕ) (after : Host P) → next A host ≡ Some (pdu, after) → AreTried A.policy.tries host.channels → IsFunded host → IsFunded after
  says_funded host pdu after said tries so =
      let c = counted A host pdu after said in
      let fit : FitHost K Q after = subst (FitHost K Q) (sym c.after_is) (said-fits A IsOneCommand K Q keeps c.left host so.fit) in
      record { fit = fit; funded = by c fit (nat_le half_said c.left) refl }
    where
      by : (c : Counted A host after) → FitHost K Q after → (half : Bool) → nat_le half_said c.left ≡ half → after.may_say ≤ half_said → left after ≤ after.may_say
      by c fit true is low =
          let may : after.may_say ≡ c.left = ap (λ (h : Host P). h.may_say) c.after_is in
          let high = leb-true half_said c.left is in
          let most = bound after fit in
          omega (arith, may, high, most)
      by c fit false is low =
          let may : after.may_say ≡ c.left = ap (λ (h : Host P). h.may_say) c.after_is in
          let below = leb-false half_said c.left is in
          let none : steps_behind c.left ≡ 0 = ap (λ (b : Bool). if b then most_steps else 0) is in
          let channels : after.channels ≡ after_given host.channels =
          ap (λ (h : Host P). h.channels) c.after_is ∙ settled_channels A (steps_behind c.left) (with_channels (after_given host.channels) host) none in
          let count : left after ≡ channels_left A.policy.tries (after_given host.channels) = ap (channels_left A.policy.tries) channels in
          let less = given-less A.policy.tries few host.channels (apart_of host so.fit) c.given tries c.gave in
          let before = so.funded (let was = c.may_is in omega (arith, was, below)) in
          let was = c.may_is in
          omega (arith, may, count, less, before, was)

  act_funded : (before : List (Act Circumstance)) (act : Act Circumstance) (host after : Host P) → Acting (upper A) before (first_host A) host → IsActSo IsOneCommand act → Does (upper A) act host after → IsFunded host → IsFunded after
  act_funded before (Hears circumstances news) host after acting one does so = subst IsFunded (sym does) (hears_funded circumstances news host one so)
  act_funded before (Says pdu) host after acting one does so = says_funded host pdu after does (tried before host acting) so

  funded_on : (before acts : List (Act Circumstance)) (host now : Host P) → Acting (upper A) before (first_host A) host → AllByRecursion (IsActSo IsOneCommand) acts → Acting (upper A) acts host now → IsFunded host → IsFunded now
  funded_on before [] host now acting one same so = subst IsFunded (sym same) so
  funded_on before (act ∷ acts) host now acting one (mid, does, rest) so =
      funded_on (before ++ act ∷ []) acts mid now (acting-more A before act (first_host A) host mid acting does) one.1 rest (act_funded before act host mid acting one.0 does so)

  first_funded : IsFunded (first_host A)
  first_funded = record { fit = first-fits A IsOneCommand K Q keeps; funded = λ low. omega arith }

  pub funded-so : (acts : List (Act Circumstance)) (now : Host P) → AllByRecursion (IsActSo IsOneCommand) acts → Acting (upper A) acts (first_host A) now → IsFunded now
  funded-so acts now one acting = funded_on [] acts (first_host A) now refl one acting first_funded

  pub holds-back_nothing : HoldsBackNothing A
  holds-back_nothing acts now one acting = by (next_given now.channels) refl now.may_say refl
    where
      so : IsFunded now
      so = funded-so acts now one acting

      framed : (given : Given) (count : ℕ) (test : Bool) → test ≡ true → framed_by A test (pdu_of given) (after_said A count now) ≡ None → Some given ≡ None
      framed given count true is none = cc
      framed given count false is none = cc

      by : (found : Option Given) → next_given now.channels ≡ found → (count : ℕ) → now.may_say ≡ count → says A found count now ≡ None → found ≡ None
      by None is count may none = refl
      by (Some given) is zero may none =
          let less = given-less A.policy.tries few now.channels (apart_of now so.fit) given (tried acts now acting) is in
          let most = so.funded (omega (arith, may)) in
          absurd (omega (arith, less, most, may))
      by (Some given) is (suc count) may none = framed given count (is_frame (pdu_of given)) (given-is_frame (Unit {0}) A.policy now.channels given so.fit.channels is) none

-- ---- both hosts

abbrev IsSmallOf : Wish → Type 0
IsSmallOf wish = IsSmallWish wish × (wish.window ≤ 63)

wish_small : (settings : Settings) (psm : ℕ) → IsSmallOf (wished settings psm)
wish_small settings psm = by (eqb psm 0x0001) (eqb psm 0x0003)
  where
    all : IsSmallWish (enhanced_wish settings) × (settings.window ≤ 63)
    all = let window = settings.window_high in let tries = settings.tries_high in ((omega (arith, window), omega (arith, tries)), window)

    by : (one three : Bool) → IsSmallOf (cond one (record (enhanced_wish settings) { mode = Basic; mtu = 672 }) (cond three (record (enhanced_wish settings) { mode = Basic }) (enhanced_wish settings)))
    by true three = all
    by false true = all
    by false false = all

pub clients-keep_flowing : (settings : Settings) → KeepsFit (client_profile settings) IsOneCommand (IsFlowing (Unit {0}) (policy settings false)) IsLowClient
clients-keep_flowing settings = clients-keep_fit settings IsOneCommand (IsFlowing (Unit {0}) (policy settings false)) (flowing_holds (Unit {0}) (policy settings false) (λ psm. (wish_small settings psm).0) tt)

pub servers-keep_flowing : (settings : Settings) (content : Option Contents) → KeepsFit (server_profile settings content) IsOneCommand (IsFlowing (Unit {0}) (policy settings true)) AnyServer
servers-keep_flowing settings content = servers-keep_fit settings content IsOneCommand (IsFlowing (Unit {0}) (policy settings true)) (flowing_holds (Unit {0}) (policy settings true) (λ psm. (wish_small settings psm).0) tt)

pub hosts_hold_back_nothing : HostsHoldBackNothing
hosts_hold_back_nothing = record {
  clients = λ settings.
      holds-back_nothing (client_profile settings) (hosts_ask.clients settings) IsLowClient (clients-keep_flowing settings) (let low = settings.tries_low in omega (arith, low)) (let high = settings.tries_high in omega (arith, high)) (λ psm. (wish_small settings psm).1);
  servers = λ settings content.
      holds-back_nothing (server_profile settings content) (hosts_ask.servers settings content) AnyServer (servers-keep_flowing settings content) (let low = settings.tries_low in omega (arith, low)) (let high = settings.tries_high in omega (arith, high)) (λ psm. (wish_small settings psm).1);
}

-- ---- a server ends no channel of its own

steady_stage : (tries : ℕ) (stage : Stage) → FitsStage ⊥ stage → IsSteadyStage tries stage
steady_stage tries (Requested request) so = tt
steady_stage tries (Connected peer setup) so = tt
steady_stage tries (Leaving peer setup request) so = absurd so.0
steady_stage tries (Closing peer request checked) so = tt
steady_stage tries (Crossed peer request) so = tt

steady_at : (tries : ℕ) (found : Option Held) → FitsFound ⊥ found → IsSteadyAt tries found
steady_at tries None so = tt
steady_at tries (Some held) so = steady_stage tries held.stage so

-- of any host whose channels are steady
pub steady_fires : {P : Type 0} (A : Profile P) → Asks A → (acts : List (Act Circumstance)) (now : Host P) → Acting (upper A) acts (first_host A) now → IsSteady A.policy.tries now.channels → FiresPlainly A.policy now.channels
steady_fires A asks acts now acting steady =
    let lives = hosts_run A asks acts now acting in
    subst (FiresPlainly A.policy) (sym lives.channels_run) (steady_fire_plainly A.policy lives.now (subst (IsSteady A.policy.tries) lives.channels_run steady))

pub servers_fire_plainly : ServersFirePlainly
servers_fire_plainly settings content acts now one acting =
    let wanted = policy settings true in
    let A = server_profile settings content in
    let wishes : AreSmallWishes wanted = λ psm. (wish_small settings psm).0 in
    let keeps : KeepsFit A IsOneCommand (IsFlowing ⊥ wanted) AnyServer = servers-keep_so settings content IsOneCommand (IsFlowing ⊥ wanted) (flowing-heeds ⊥ wanted wishes) (flowing-sends ⊥ wanted wishes) in
    let fit = acts-fit A IsOneCommand (IsFlowing ⊥ wanted) AnyServer keeps acts (first_host A) now one acting (first-fits A IsOneCommand (IsFlowing ⊥ wanted) AnyServer keeps) in
    steady_fires A (hosts_ask.servers settings content) acts now acting (λ own. steady_at wanted.tries (held_at own now.channels) (fits-found ⊥ (has_own own) now.channels fit.channels.signals.core))

-- ---- a client offers nothing

-- a channel whose end was asked for as often as may be, where its options were asked for as often
steady_by : (tries : ℕ) (end : Request) (own : Own) → tries ≤ 255 → ((options : Request) → own_request own ≡ Some options → min end.given 255 ≤ options.given) → IsSteadyOwn tries end own
steady_by tries end Unasked few paced = tt
steady_by tries end (Asking request options) few paced = λ spent.
    let most = leb-true tries end.given spent in let less = paced request refl in le-leb tries request.given (omega (arith, most, less, few))
steady_by tries end Granted few paced = tt

paced_stage : (tries : ℕ) (stage : Stage) → tries ≤ 255 → ((options end : Request) → for_options stage ≡ Some options → for_end stage ≡ Some end → min end.given 255 ≤ options.given) → IsSteadyStage tries stage
paced_stage tries (Requested request) few paced = tt
paced_stage tries (Connected peer setup) few paced = tt
paced_stage tries (Leaving peer setup request) few paced = steady_by tries request setup.own few (λ options asked. paced options request asked refl)
paced_stage tries (Closing peer request checked) few paced = tt
paced_stage tries (Crossed peer request) few paced = tt

-- where nothing waits
steady_run : (wanted : Policy) (list : List Occurrence) → OffersNothing wanted → wanted.tries ≤ 255 → (run_of wanted list).value.queue ≡ [] → IsSteady wanted.tries (run_of wanted list).value
steady_run wanted list none few empty own = by (held_at own (run_of wanted list).value) refl
  where
    by : (found : Option Held) → held_at own (run_of wanted list).value ≡ found → IsSteadyAt wanted.tries found
    by None is = tt
    by (Some held) is = paced_stage wanted.tries held.stage few (λ options end asked ended. options-keep_pace wanted list none empty own options end (ap (request_at for_options) is ∙ asked) (ap (request_at for_end) is ∙ ended))

clients_steady : (settings : Settings) (acts : List (Act Circumstance)) (now : Host ClientProfile) → Acting (upper (client_profile settings)) acts (first_host (client_profile settings)) now → now.channels.queue ≡ [] → IsSteady settings.tries now.channels
clients_steady settings acts now acting empty =
    let wanted = policy settings false in
    let lives = hosts_run (client_profile settings) (hosts_ask.clients settings) acts now acting in
    let few : wanted.tries ≤ 255 = let high = settings.tries_high in omega (arith, high) in
    subst (IsSteady settings.tries) (sym lives.channels_run) (steady_run wanted lives.now (λ psm. refl) few (ap (λ (v : Channels). v.queue) (sym lives.channels_run) ∙ empty))

pub clients_fire_plainly : ClientsFirePlainly
clients_fire_plainly = record {
  steady = clients_steady;
  fires = λ settings acts now acting empty. steady_fires (client_profile settings) (hosts_ask.clients settings) acts now acting (clients_steady settings acts now acting empty) empty;
}
