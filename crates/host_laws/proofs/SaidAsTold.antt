-- What a client says on its link is as it was told, where all that it asks for is.
use Rattle.std.proofs.Common.{◌≡◌, ℕ, List, [], ◌∷◌, ◌++◌, drop, map, filter, fold, Bool, true, false, cond, eqb, ◌&&◌, ◌||◌, not, Option, Some, None, refl, sym, ap, subst, ◌∙◌, inl, inr, append_assoc, append-nil}
use Rattle.std.specs.Prelude.{IfSome, option_to_list}
use Rattle.std.specs.List.{AllByRecursion, list_any}
use Rattle.std.proofs.lemmas.List.Sums.{fold-append}
use Rattle.shelf_model.specs.acl_fragments.specs.Pieces.{channel_of}
use Rattle.shelf_model.specs.bt_base.specs.declared.settings.Settings.{Settings}
use Rattle.shelf_model.specs.bt_base.specs.declared.settings.Transport.{Transport}
use Rattle.shelf_model.specs.bt_base.specs.declared.settings.Transport.TheVariants.{Rfcomm}
use Rattle.shelf_model.specs.capture.specs.Histories.{EachAfter}
use Rattle.shelf_model.specs.capture.proofs.HistoryLaws.{each_after-both}
use Rattle.shelf_model.specs.capture.specs.declared.flow.Flow.TheVariants.{Out, Into}
use Rattle.shelf_model.specs.ertm_frames.specs.Frames.{PlainFrame}
use Rattle.shelf_model.specs.l2cap_config.specs.declared.wish.Mode.TheVariants.{Basic}
use Rattle.shelf_model.specs.l2cap_signal.specs.Reading.{answers}
use Rattle.shelf_model.specs.sdp_elements.specs.declared.target.Target.{Target}
use Rattle.push_laws.specs.link_talk.specs.declared.call.Call.{Call}
use Rattle.push_laws.specs.link_talk.specs.declared.party.Party.{Party}
use Rattle.push_laws.specs.link_talk.specs.Requests.{call, went}
use Rattle.push_laws.specs.link_talk.specs.Sayings.{Saying, Command, Carried, GaveUp}
use Rattle.push_laws.specs.link_talk.specs.Senses.{sense}
use Rattle.channel_laws.specs.channel_model.specs.Value.{Carrier, Plain, Retransmitting, Setup, Held, Channels}
use Rattle.channel_laws.specs.channel_model.specs.Policies.{Policy, enhanced_wish, policy}
use Rattle.channel_laws.specs.channel_model.specs.Calls.{carrier_at, connected, asks_features, disconnected}
use Rattle.channel_laws.specs.channel_model.specs.Carrying.{takes}
use Rattle.channel_laws.specs.channel_model.specs.Changing.{held_at, setup_of}
use Rattle.channel_laws.specs.channel_model.specs.Giving.{Given, Signal, Whole, Framed, carrier_gives, next_given}
use Rattle.channel_laws.specs.OwnTalk.{asked_between, said_with_all}
use Rattle.channel_laws.specs.Runs.{Occurrence, Comes, Connects, AsksFeatures, Disconnects, Sends, Gives, Fires, Tells, peer_at, said_by_carrier, said_as, said_in, Run, new_link, run_on, run_of}
use Rattle.channel_laws.specs.Signals.{StandsIn}
use Rattle.channel_laws.specs.Singly.{calls_that_went, AreOneByOne, AsksSo}
use Rattle.channel_laws.specs.Views.{carrier_mode}
use Rattle.channel_laws.proofs.Holding.{IsRead, is-read}
use Rattle.channel_laws.proofs.OneByOne.{calls-are_one_by_one}
use Rattle.channel_laws.proofs.Running.{all-sound}
use Rattle.channel_laws.proofs.Signalling.{IsBare, bare-asked, bare-left, bare-with_all, bare-fired}
use Rattle.channel_laws.proofs.Singling.{calls-more}
use Rattle.channel_laws.proofs.Sound.{CarrierIs}
use Rattle.channel_laws.proofs.Trusting.{queue-out}
use Rattle.host_laws.specs.InOrder.{seeks_object, may_carry, may_ask, CallsInOrder}
use Rattle.host_laws.specs.Seen.{is_spoken, spoken_of}
use Rattle.host_laws.specs.Services.{targets_told, psm_wanted, psm_called, psm_asked, frame_sent, asks_as_told, goes_as_told, Follows, GoesAsTold}
use Rattle.host_laws.proofs.AskingOnce.{may_name}
use Rattle.host_laws.proofs.CalledHeld.{held_called}
use Rattle.host_laws.proofs.Knowing.{spoken_both}
use Rattle.host_laws.proofs.Refusing.{OffersNone}
use Rattle.host_laws.proofs.SearchingWeave.{all_split}
use Rattle.host_laws.proofs.ServicesTold.{asks-stay, goes-stay}
use Rattle.host_laws.proofs.StepsTold.{FrameGoes}

-- ---- what it asks for

abbrev pub told_by : Policy → Party → List Occurrence → List Target
told_by wanted party past = targets_told party (spoken_of (run_of wanted past).said)

-- as it was told
abbrev pub AsksAsTold : Transport → List Target → Occurrence → Type 0
AsksAsTold transport told (Comes pdu) = Unit {0}
AsksAsTold transport told (Connects psm) = asks_as_told transport told psm ≡ true
AsksAsTold transport told AsksFeatures = Unit {0}
AsksAsTold transport told (Disconnects own) = Unit {0}
AsksAsTold transport told (Sends own sdu) = transport ≡ Rfcomm → FrameGoes told sdu
AsksAsTold transport told (Gives pdu) = Unit {0}
AsksAsTold transport told Fires = Unit {0}
AsksAsTold transport told Tells = Unit {0}

-- ---- requests for channels

abbrev pub Fit : (ℕ → Bool) → Call → Type 0
Fit f one = IfSome (psm_wanted one.wanted) (λ psm. f psm ≡ true)

-- one that is the last again has the PSM of that
pub fits_all : (Fits : ℕ → List Call → Bool) (f : ℕ → Bool) → ((psm : ℕ) (before : List Call) → Fits psm before ≡ true → f psm ≡ true) → (calls : List Call) → AreOneByOne Fits calls → AllByRecursion (Fit f) calls
fits_all Fits f goes [] all = tt
fits_all Fits f goes (one ∷ []) (inl again, rest) = absurd again
fits_all Fits f goes (one ∷ last ∷ before) (inl again, rest) = let later = fits_all Fits f goes (last ∷ before) rest in (subst (Fit f) (sym again) later.0, later)
fits_all Fits f goes (one ∷ before) (inr fresh, rest) = (subst (λ w. IfSome (psm_wanted w) (λ psm. f psm ≡ true)) (sym fresh.wanted_is) (goes fresh.wanted.psm before fresh.fits), fits_all Fits f goes before rest)

-- what is said of them
pub one_said : (f : ℕ → Bool) (s : Saying) → AllByRecursion (Fit f) (calls_that_went Out (s ∷ [])) → IfSome (psm_asked s) (λ psm. f psm ≡ true)
one_said f s all = by (call (sense s)) all
  where
    on : (one : Call) (out : Bool) → AllByRecursion (Fit f) (cond out (one ∷ []) []) → IfSome (cond out (psm_wanted one.wanted) None) (λ psm. f psm ≡ true)
    on one true fits = fits.0
    on one false fits = tt

    by : (found : Option Call) → AllByRecursion (Fit f) (filter (went Out) (option_to_list found ++ [])) → IfSome (psm_called found) (λ psm. f psm ≡ true)
    by None fits = tt
    by (Some one) fits = on one (went Out one) fits

pub all_said : (f : ℕ → Bool) (said : List Saying) → AllByRecursion (Fit f) (calls_that_went Out said) → AllByRecursion (λ s. IfSome (psm_asked s) (λ psm. f psm ≡ true)) said
all_said f [] all = tt
all_said f (s ∷ said) all =
    let both = all_split (Fit f) (calls_that_went Out said) (calls_that_went Out (s ∷ [])) (subst (AllByRecursion (Fit f)) (calls-more Out (s ∷ []) said) all) in (one_said f s both.1, all_said f said both.0)

pub all_stands : {X : Type 0} (P : X → Type 0) (xs : List X) (x : X) → AllByRecursion P xs → StandsIn x xs → P x
all_stands P [] x all stands = absurd stands
all_stands P (y ∷ xs) x all (inl same) = subst P same all.0
all_stands P (y ∷ xs) x all (inr later) = all_stands P xs x all.1 later

-- ---- a link

module _ (settings : Settings) (party : Party) where
  abbrev wanted : Policy
  wanted = policy settings false

  abbrev T : Transport
  T = settings.transport

  abbrev told : List Occurrence → List Target
  told past = told_by (policy settings false) party past

  abbrev OrderAt : List Occurrence → Occurrence → Type 0
  OrderAt front one = AsksSo (may_ask settings.transport) one (run_of (policy settings false) front)

  abbrev ToldAt : List Occurrence → Occurrence → Type 0
  ToldAt front one = AsksAsTold settings.transport (told_by (policy settings false) party front) one

  offers_none : OffersNone wanted
  offers_none psm = refl

  -- more is said
  folds_said : (run : Run) (list : List Occurrence) → (more : List Saying) × ((fold (run_on wanted) run list).said ≡ run.said ++ more)
  folds_said run [] = ([], sym (append-nil run.said))
  folds_said run (one ∷ list) =
      let now = said_in wanted one run.value in
      let (more, is) = folds_said (run_on wanted run one) list in (now ++ more, is ∙ append_assoc run.said now more)

  asks_later : (past xs : List Occurrence) (psm : ℕ) → asks_as_told T (told past) psm ≡ true → asks_as_told T (told (past ++ xs)) psm ≡ true
  asks_later past xs psm is =
      let (more, said_is) = folds_said (run_of wanted past) xs in
      let all : spoken_of (run_of wanted (past ++ xs)).said ≡ spoken_of (run_of wanted past).said ++ spoken_of more =
      ap (λ (run : Run). spoken_of run.said) (fold-append (run_on wanted) new_link past xs) ∙ (ap spoken_of said_is ∙ spoken_both (run_of wanted past).said more) in
      subst (λ l. asks_as_told T (targets_told party l) psm ≡ true) (sym all) (asks-stay party T (spoken_of (run_of wanted past).said) (spoken_of more) psm is)

  -- of all that it asked for up to a moment, each was told by then
  abbrev FitAt : List Occurrence → List Occurrence → Occurrence → Type 0
  FitAt whole front one = AsksSo (λ psm before. asks_as_told settings.transport (told_by (policy settings false) party whole) psm) one (run_of (policy settings false) front)

  one_fits : (whole front behind : List Occurrence) (one : Occurrence) → whole ≡ front ++ behind → OrderAt front one → ToldAt front one → FitAt whole front one
  one_fits whole front behind (Connects psm) is order as_told = (order.0, subst (λ l. asks_as_told T (told l) psm ≡ true) (sym is) (asks_later front behind psm as_told))
  one_fits whole front behind (Comes pdu) is order as_told = tt
  one_fits whole front behind AsksFeatures is order as_told = tt
  one_fits whole front behind (Disconnects own) is order as_told = tt
  one_fits whole front behind (Sends own sdu) is order as_told = tt
  one_fits whole front behind (Gives pdu) is order as_told = tt
  one_fits whole front behind Fires is order as_told = tt
  one_fits whole front behind Tells is order as_told = tt

  fits_on : (whole front rest : List Occurrence) → whole ≡ front ++ rest → EachAfter OrderAt front rest → EachAfter ToldAt front rest → EachAfter (FitAt whole) front rest
  fits_on whole front [] is order as_told = tt
  fits_on whole front (one ∷ rest) is order as_told = (one_fits whole front (one ∷ rest) one is order.0 as_told.0, fits_on whole (front ++ one ∷ []) rest (is ∙ sym (append_assoc front (one ∷ []) rest)) order.1 as_told.1)

  -- ---- over RFCOMM its channels are basic

  name_of : (psm : ℕ) (before : List Call) → may_ask T psm before ≡ true → may_name T psm ≡ true
  name_of psm before is = by (eqb psm 0x0001) (may_carry T psm) (not (list_any seeks_object before)) is
    where
      by : (one two three : Bool) → (one || (two && three)) ≡ true → (one || two) ≡ true
      by true two three now = refl
      by false true three now = refl
      by false false three now = cc

  basic_wish : T ≡ Rfcomm → (psm : ℕ) → may_name T psm ≡ true → (wanted.wish psm).mode ≡ Basic
  basic_wish muxed psm is = by (eqb psm 0x0001) (eqb psm 0x0003) (sym (ap (λ t. may_name t psm) muxed) ∙ is)
    where
      by : (one three : Bool) → (one || three) ≡ true → (cond one (record (enhanced_wish settings) { mode = Basic; mtu = 672 }) (cond three (record (enhanced_wish settings) { mode = Basic }) (enhanced_wish settings))).mode ≡ Basic
      by true three now = refl
      by false true now = refl
      by false false now = cc

  basic_carrier : T ≡ Rfcomm → (list : List Occurrence) → CallsInOrder T wanted list → (own : ℕ) (held : Held) (setup : Setup) (carrier : Carrier) → held_at own (run_of wanted list).value ≡ Some held → setup_of held.stage ≡ Some setup → setup.carrier ≡ Some carrier → carrier_mode carrier ≡ Basic
  basic_carrier muxed list order own held setup carrier at has carrier_is =
      let run = run_of wanted list in
      let called = held_called wanted offers_none list own held at in
      let all = all_said (may_name T) run.said (fits_all (may_ask T) (may_name T) name_of (calls_that_went Out run.said) (calls-are_one_by_one wanted (may_ask T) list order)) in
      let named : may_name T called.psm ≡ true = all_stands (λ s. IfSome (psm_asked s) (λ psm. may_name T psm ≡ true)) run.said _ all called.asked in
      let r : IsRead wanted run.said own held setup = is-read wanted run.said run.value own held setup at has (all-sound wanted list) in
      subst (CarrierIs (wanted.wish held.psm)) carrier_is r.agrees.carrier_is ∙ (ap (λ psm. (wanted.wish psm).mode) called.psm_is ∙ basic_wish muxed called.psm named)

  none_framed : T ≡ Rfcomm → (list : List Occurrence) → CallsInOrder T wanted list → (peer : ℕ) (frame : PlainFrame) → next_given (run_of wanted list).value ≡ Some (Framed peer frame) → ⊥
  none_framed muxed list order peer frame is =
      let v = (run_of wanted list).value in
      let out = queue-out v v.queue peer (Framed peer frame) (all-sound wanted list).core.lone is refl in
      by out.carrier out.gives_it (basic_carrier muxed list order out.held.own out.held out.setup out.carrier out.found out.has out.is)
    where
      by : (carrier : Carrier) → carrier_gives carrier peer ≡ Some (Framed peer frame) → carrier_mode carrier ≡ Basic → ⊥
      by (Plain agreed None) gives mode = cc
      by (Plain agreed (Some sdu)) gives mode = cc
      by (Retransmitting machine) gives mode = cc

  -- ---- frames

  abbrev FramesGo : List Target → List Saying → Type 0
  FramesGo targets said = AllByRecursion (λ s. IfSome (frame_sent s) (λ frame. goes_as_told targets frame ≡ true)) said

  bare_goes : (targets : List Target) (said : List Saying) → IsBare said → FramesGo targets said
  bare_goes targets [] bare = tt
  bare_goes targets (Command flow answer ∷ said) bare = (tt, bare_goes targets said bare)
  bare_goes targets (Carried flow pdu ∷ said) bare = cc
  bare_goes targets (GaveUp forgone ∷ said) bare = (tt, bare_goes targets said bare)

  sent_goes : (targets : List Target) (carrier : Option Carrier) (peer : ℕ) (sdu : List ℕ) → FrameGoes targets sdu → FramesGo targets (said_by_carrier carrier peer sdu)
  sent_goes targets None peer sdu goes = tt
  sent_goes targets (Some (Plain agreed None)) peer sdu goes = (goes, tt)
  sent_goes targets (Some (Plain agreed (Some waiting))) peer sdu goes = tt
  sent_goes targets (Some (Retransmitting machine)) peer sdu goes = tt

  given_goes : (targets : List Target) (given : Option Given) (pdu : List ℕ) → ((peer : ℕ) (frame : PlainFrame) → given ≡ Some (Framed peer frame) → ⊥) → FramesGo targets (said_as given pdu)
  given_goes targets None pdu none = tt
  given_goes targets (Some (Signal command)) pdu none = tt
  given_goes targets (Some (Whole peer sdu)) pdu none = tt
  given_goes targets (Some (Framed peer frame)) pdu none = absurd (none peer frame refl)

  frames_go : T ≡ Rfcomm → (past : List Occurrence) → CallsInOrder T wanted past → (more : Occurrence) → ToldAt past more → FramesGo (told past) (said_in wanted more (run_of wanted past).value)
  frames_go muxed past order (Comes pdu) as_told = by (eqb (channel_of pdu) 0x0001)
    where
      v : Channels
      v = (run_of wanted past).value

      by : (signals : Bool) → FramesGo (told past) (cond signals (said_with_all wanted (answers (drop 4 pdu)) v) (Carried Into pdu ∷ asked_between v (takes (channel_of pdu) pdu v)))
      by true = bare_goes (told past) (said_with_all wanted (answers (drop 4 pdu)) v) (bare-with_all wanted (answers (drop 4 pdu)) v)
      by false = (tt, bare_goes (told past) (asked_between v (takes (channel_of pdu) pdu v)) (bare-asked v (takes (channel_of pdu) pdu v)))
  frames_go muxed past order (Connects psm) as_told = let v = (run_of wanted past).value in bare_goes (told past) (asked_between v (connected psm v)) (bare-asked v (connected psm v))
  frames_go muxed past order AsksFeatures as_told = let v = (run_of wanted past).value in bare_goes (told past) (asked_between v (asks_features v)) (bare-asked v (asks_features v))
  frames_go muxed past order (Disconnects own) as_told = let v = (run_of wanted past).value in bare_goes (told past) (said_in wanted (Disconnects own) v) (bare-left own v (disconnected own v))
  frames_go muxed past order (Sends own sdu) as_told = let v = (run_of wanted past).value in sent_goes (told past) (carrier_at own v) (peer_at (held_at own v)) sdu (as_told muxed)
  frames_go muxed past order (Gives pdu) as_told = given_goes (told past) (next_given (run_of wanted past).value) pdu (none_framed muxed past order)
  frames_go muxed past order Fires as_told = let v = (run_of wanted past).value in bare_goes (told past) (said_in wanted Fires v) (bare-fired wanted.tries (map (λ (held : Held). held.own) v.held) v)
  frames_go muxed past order Tells as_told = tt

  -- ---- what is said

  -- by what was told before all of it
  record SaysSo (targets : List Target) (s : Saying) : Type 0 where
    asks : IfSome (psm_asked s) (λ psm. asks_as_told settings.transport targets psm ≡ true)
    sends : settings.transport ≡ Rfcomm → IfSome (frame_sent s) (λ frame. goes_as_told targets frame ≡ true)

  both_so : (targets : List Target) (said : List Saying) → AllByRecursion (λ s. IfSome (psm_asked s) (λ psm. asks_as_told T targets psm ≡ true)) said → (T ≡ Rfcomm → FramesGo targets said) → AllByRecursion (SaysSo targets) said
  both_so targets [] asks sends = tt
  both_so targets (s ∷ said) asks sends = (record { asks = asks.0; sends = λ muxed. (sends muxed).0 }, both_so targets said asks.1 (λ muxed. (sends muxed).1))

  if_some : {X : Type 0} (found : Option X) (P Q : X → Type 0) → ((x : X) → P x → Q x) → IfSome found P → IfSome found Q
  if_some None P Q goes is = tt
  if_some (Some x) P Q goes is = goes x is

  -- so it is with all that was told by then
  spoken_follow : (past front said : List Saying) → AllByRecursion (SaysSo (targets_told party past)) said → EachAfter (Follows party T) (past ++ front) (spoken_of said)
  spoken_follow past front [] all = tt
  spoken_follow past front (s ∷ said) all = by (is_spoken s) (spoken_follow past (front ++ s ∷ []) said all.1) (spoken_follow past front said all.1)
    where
      follows : Follows party T (past ++ front) s
      follows = record {
        asks = if_some (psm_asked s) (λ psm. asks_as_told T (targets_told party past) psm ≡ true) (λ psm. asks_as_told T (targets_told party (past ++ front)) psm ≡ true) (λ psm is. asks-stay party T past front psm is) all.0.asks;
        sends = λ muxed.
            if_some (frame_sent s) (λ frame. goes_as_told (targets_told party past) frame ≡ true) (λ frame. goes_as_told (targets_told party (past ++ front)) frame ≡ true) (λ frame is. goes-stay party past front frame is) (all.0.sends muxed);
      }

      by : (spoken : Bool) → EachAfter (Follows party T) (past ++ (front ++ s ∷ [])) (spoken_of said) → EachAfter (Follows party T) (past ++ front) (spoken_of said) → EachAfter (Follows party T) (past ++ front) (cond spoken (s ∷ spoken_of said) (spoken_of said))
      by true with_it without = (follows, subst (λ l. EachAfter (Follows party T) l (spoken_of said)) (sym (append_assoc past front (s ∷ []))) with_it)
      by false with_it without = without

  more_follows : (past : List Occurrence) (more : Occurrence) → EachAfter OrderAt [] (past ++ more ∷ []) → EachAfter OrderAt [] past → OrderAt past more → EachAfter ToldAt [] past → ToldAt past more
      → EachAfter (Follows party T) (spoken_of (run_of wanted past).said) (spoken_of (said_in wanted more (run_of wanted past).value))
  more_follows past more all order now earlier as_told =
      let run = run_of wanted past in
      let said = said_in wanted more run.value in
      let f : ℕ → Bool = asks_as_told T (told past) in
      let each : EachAfter (FitAt past) [] (past ++ more ∷ []) = each_after-both (FitAt past) [] past (more ∷ []) (fits_on past [] past refl order earlier) (one_fits past past [] more (sym (append-nil past)) now as_told, tt) in
      let calls = fits_all (λ psm before. f psm) f (λ psm before is. is) _ (calls-are_one_by_one wanted (λ psm before. f psm) (past ++ more ∷ []) each) in
      let said_is : (run_of wanted (past ++ more ∷ [])).said ≡ run.said ++ said = ap (λ (r : Run). r.said) (fold-append (run_on wanted) new_link past (more ∷ [])) in
      let here = all_split (Fit f) (calls_that_went Out said) (calls_that_went Out run.said) (subst (AllByRecursion (Fit f)) (ap (calls_that_went Out) said_is ∙ calls-more Out run.said said) calls) in
      subst (λ l. EachAfter (Follows party T) l (spoken_of said)) (append-nil (spoken_of run.said)) (spoken_follow (spoken_of run.said) [] said (both_so (told past) said (all_said f said here.0) (λ muxed. frames_go muxed past order more as_told)))

  goes_on : (past rest : List Occurrence) → EachAfter OrderAt [] past → EachAfter ToldAt [] past → GoesAsTold party T (spoken_of (run_of wanted past).said) → EachAfter OrderAt past rest → EachAfter ToldAt past rest → GoesAsTold party T (spoken_of (run_of wanted (past ++ rest)).said)
  goes_on past [] order earlier goes later as_told = subst (λ l. GoesAsTold party T (spoken_of (run_of wanted l).said)) (sym (append-nil past)) goes
  goes_on past (more ∷ rest) order earlier goes (now, later) (here, as_told) =
      let run = run_of wanted past in
      let said = said_in wanted more run.value in
      let on = each_after-both OrderAt [] past (more ∷ []) order (now, tt) in
      let said_is : spoken_of (run_of wanted (past ++ more ∷ [])).said ≡ spoken_of run.said ++ spoken_of said = ap (λ (r : Run). spoken_of r.said) (fold-append (run_on wanted) new_link past (more ∷ [])) ∙ spoken_both run.said said in
      let grown : GoesAsTold party T (spoken_of (run_of wanted (past ++ more ∷ [])).said) = subst (GoesAsTold party T) (sym said_is) (each_after-both (Follows party T) [] (spoken_of run.said) (spoken_of said) goes (more_follows past more on order now earlier here)) in
      subst (λ l. GoesAsTold party T (spoken_of (run_of wanted l).said)) (append_assoc past (more ∷ []) rest) (goes_on (past ++ more ∷ []) rest on (each_after-both ToldAt [] past (more ∷ []) earlier (here, tt)) grown later as_told)

  pub said_as_told : (list : List Occurrence) → CallsInOrder T wanted list → EachAfter ToldAt [] list → GoesAsTold party T (spoken_of (run_of wanted list).said)
  said_as_told list order as_told = goes_on [] list tt tt tt order as_told
