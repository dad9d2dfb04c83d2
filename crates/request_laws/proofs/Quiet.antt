-- A client says nothing where no link is up.
use Rattle.std.proofs.Common.{◌≡◌, false, List, [], ◌∷◌, ◌++◌, fold, None, refl, sym, ap, subst, ◌∙◌, append-nil}
use Rattle.std.specs.List.{AllByRecursion}
use Rattle.std.proofs.lemmas.List.Sums.{fold-append}
use Rattle.pair_laws.specs.bt_base.specs.declared.settings.Settings.{Settings}
use Rattle.pair_laws.specs.channel_model.specs.Policies.{Policy, policy}
use Rattle.pair_laws.specs.channel_model.specs.Value.{Channels, no_channels}
use Rattle.pair_laws.specs.channel_laws.specs.Runs.{Occurrence, Gives, Fires, Tells, said_in, value_after, Run, new_link, run_on, run_of}
use Rattle.pair_laws.specs.push_model.specs.Steps.{Step, Wait, MakeLink, AskFeatures, OpenChannel, SendSdu, CloseChannel, BreakLink, Ended, NoMemory, steps}
use Rattle.pair_laws.specs.world_model.specs.Machines.{News, Linked, Failed, Heard, TimerFired, Cancelled, Opening}
use Rattle.pair_laws.specs.host_model.specs.Clients.{ClientProfile, client_profile, fitted}
use Rattle.pair_laws.specs.host_model.specs.Profiles.{Profile}
use Rattle.pair_laws.specs.host_model.specs.Shelves.{unused}
use Rattle.pair_laws.specs.host_laws.specs.Calls.{Asks, from_call, values_after}
use Rattle.pair_laws.specs.host_laws.specs.Feeds.{tidings_by}
use Rattle.pair_laws.specs.host_laws.specs.Searching.{step_call, AsksAsItSteps}
use Rattle.pair_laws.specs.host_laws.specs.Woven.{Strand, Hearing, Giving, Firing, Telling, Gifting, Learning, Checking, Stepping, IsOnLink, strand_list, strand_profile, woven_list, Woven}
use Rattle.pair_laws.specs.host_laws.proofs.Links.{value_run}
use Rattle.pair_laws.specs.host_laws.proofs.SearchingWeave.{all_split}
use Rattle.pair_laws.specs.scenario_laws.proofs.Acting.{IsAside}
use Rattle.pair_laws.specs.scenario_laws.proofs.UnlinkedClients.{IsAlone, steps_free, HasNoLink, clients_keep}
use Rattle.request_laws.proofs.Timely.{HearsNothing}

aside_of : (news : News) → tidings_by news ≡ [] → IsAside news
aside_of (Linked event) none = cc
aside_of (Failed status) none = tt
aside_of (Heard pdu) none = tt
aside_of TimerFired none = tt
aside_of Cancelled none = tt
aside_of (Opening name) none = tt

none_called : (step : Step) (v : Channels) (after : ClientProfile) → IsAlone step → step_call step v after ≡ None
none_called Wait v after alone = refl
none_called MakeLink v after alone = refl
none_called AskFeatures v after alone = absurd alone
none_called (OpenChannel psm) v after alone = absurd alone
none_called (SendSdu psm payload) v after alone = absurd alone
none_called (CloseChannel psm) v after alone = absurd alone
none_called BreakLink v after alone = absurd alone
none_called (Ended outcome) v after alone = refl
none_called NoMemory v after alone = refl

module _ (settings : Settings) (asks : Asks (client_profile settings)) (as_steps : AsksAsItSteps settings asks) where
  abbrev wanted : Policy
  wanted = policy settings false

  abbrev A : Profile ClientProfile
  A = client_profile settings

  -- ---- of channels of which there are none

  -- all of it says nothing, and none is there behind it
  abbrev IsStill : List Occurrence → Type 0
  IsStill list = (run : Run) → run.value ≡ no_channels → ((fold (run_on (policy settings false)) run list).said ≡ run.said) × ((fold (run_on (policy settings false)) run list).value ≡ no_channels)

  one_still : (one : Occurrence) → said_in wanted one no_channels ≡ [] → value_after wanted one no_channels ≡ no_channels → IsStill (one ∷ [])
  one_still one none same run is = (ap (λ v. run.said ++ said_in wanted one v) is ∙ (ap (λ l. run.said ++ l) none ∙ append-nil run.said), ap (value_after wanted one) is ∙ same)

  both_still : (xs ys : List Occurrence) → IsStill xs → IsStill ys → IsStill (xs ++ ys)
  both_still xs ys one other run is =
      let mid = fold (run_on wanted) run xs in
      let (first, value) = one run is in
      let (second, last) = other mid value in
      let all : fold (run_on wanted) run (xs ++ ys) ≡ fold (run_on wanted) mid ys = fold-append (run_on wanted) run xs ys in (ap (λ (r : Run). r.said) all ∙ (second ∙ first), ap (λ (r : Run). r.value) all ∙ last)

  -- ---- a client without a link

  strand_still : (strand : Strand) (p : ClientProfile) → IsOnLink strand → HasNoLink p → AllByRecursion HearsNothing (strand_list A asks strand no_channels p) → IsStill (strand_list A asks strand no_channels p) × HasNoLink (strand_profile A strand no_channels p)
  strand_still (Hearing pdu) p on free deaf = absurd deaf.0
  strand_still (Giving pdu) p on free deaf = (one_still (Gives pdu) refl refl, free)
  strand_still Firing p on free deaf = (one_still Fires refl refl, free)
  strand_still Telling p on free deaf = (one_still Tells refl refl, free)
  strand_still (Gifting circumstances) p on free deaf = (λ run is. (refl, is), (clients_keep settings).given circumstances p free)
  strand_still (Learning circumstances news) p on free deaf = (λ run is. (refl, is), (clients_keep settings).aside circumstances news p (aside_of news on) free)
  strand_still Checking p on free deaf = (λ run is. (refl, is), (clients_keep settings).sent p free)
  strand_still Stepping p on free deaf =
      let one = steps p.client (fitted p) in
      let none : asks.call no_channels p ≡ None = as_steps no_channels p ∙ none_called one.step no_channels (record p { client = one.client; parts = unused one.left p.parts }) (steps_free p.client (fitted p) free.free).0 in
      (subst (λ call. IsStill (from_call call)) (sym none) (λ run is. (refl, is)), ((clients_keep settings).steps p free).0)

  weave_still : (weave : List Strand) (p : ClientProfile) (v : Channels) → v ≡ no_channels → AllByRecursion IsOnLink weave → HasNoLink p → AllByRecursion HearsNothing (woven_list A asks weave v p) → IsStill (woven_list A asks weave v p)
  weave_still [] p v none on free deaf = λ run is. (refl, is)
  weave_still (strand ∷ weave) p v none on free deaf =
      let list = strand_list A asks strand v p in
      let q = strand_profile A strand v p in
      let u = values_after wanted v list in
      let rest = woven_list A asks weave u q in
      let both = all_split HearsNothing list rest deaf in
      let here = subst (λ w. AllByRecursion HearsNothing (strand_list A asks strand w p) → IsStill (strand_list A asks strand w p) × HasNoLink (strand_profile A strand w p)) (sym none) (strand_still strand p on.0 free) both.0 in
      let start : Run = record new_link { value = v } in
      let later : u ≡ no_channels = sym (value_run wanted list start) ∙ (here.0 start none).1 in
      both_still list rest here.0 (weave_still weave q u later on.1 here.1 both.1)

  pub says_nothing : (list : List Occurrence) (first last : ClientProfile) → Woven A asks list first last → HasNoLink first → AllByRecursion HearsNothing list → (run_of wanted list).said ≡ []
  says_nothing list first last woven free deaf =
      let all = weave_still woven.weave first no_channels refl woven.on_link free (subst (AllByRecursion HearsNothing) woven.list_is deaf) in ap (λ l. (run_of wanted l).said) woven.list_is ∙ (all new_link refl).0
