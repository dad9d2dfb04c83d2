-- What happens to the channels of a calm host, one thing after the other, as turns of a pair.
use Rattle.std.proofs.Common.{◌≡◌, ℕ, ◌^◌, ◌<◌, Bool, eqb, List, [], ◌∷◌, ◌++◌, map, drop, Some, Ok, refl, sym, ap, subst, ◌∙◌, append-nil, append_assoc, if◌then◌else◌}
use Rattle.std.specs.List.{AllByRecursion, flat_map, filter_map}
use Rattle.std.proofs.lemmas.List.Sums.{fold-append}
use Rattle.scenario_laws.specs.bt_base.proofs.OctetLemmas.{le16-number}
use Rattle.scenario_laws.specs.acl_fragments.specs.Pieces.{channel_of}
use Rattle.scenario_laws.specs.capture.specs.Histories.{EachAfter}
use Rattle.scenario_laws.specs.capture.specs.declared.flow.Flow.TheVariants.{Out}
use Rattle.scenario_laws.specs.capture.specs.Pdus.{Pdu}
use Rattle.scenario_laws.specs.l2cap_signal.specs.Commands.{Command}
use Rattle.scenario_laws.specs.l2cap_signal.specs.Reading.{answers}
use Rattle.scenario_laws.specs.link_talk.specs.Sayings.{Saying, Carried, said_by}
use Rattle.scenario_laws.specs.link_talk.specs.Sayings as sayings
use Rattle.channel_laws.specs.channel_model.specs.Value.{Channels, no_channels}
use Rattle.channel_laws.specs.channel_model.specs.Policies.{Policy}
use Rattle.channel_laws.specs.channel_model.specs.Giving.{Given, Signal, Whole, Framed, next_given}
use Rattle.channel_laws.specs.Belonging.{IsReadAs}
use Rattle.channel_laws.specs.Fit.{IsSoberFor}
use Rattle.channel_laws.specs.Frames.{IsSpelled, IsUttered}
use Rattle.channel_laws.specs.OwnTalk.{spoken}
use Rattle.channel_laws.specs.Pipes.{IsAddressed}
use Rattle.channel_laws.specs.Runs.{Occurrence, Comes, Connects, AsksFeatures, Disconnects, Sends, Gives, Fires, Tells, Run, new_link, run_on, run_of}
use Rattle.channel_laws.proofs.Fitted.{Fitted, IsForEndpoint, new-fitted, peer-low, given-endpoint, occurs-fitted}
use Rattle.channel_laws.proofs.Uttering.{uttered-is_read}
use Rattle.host_laws.specs.Calls.{outer}
use Rattle.host_laws.specs.Seen.{IsSaidAs, IsCalmAt, IsCalm}
use Rattle.pair_laws.proofs.Facing.{View, PairFrom, does-alone, puts-it}

-- ---- what each of them is

pub record IsGivenSo (v : Channels) (pdu : List ℕ) : Type 0 where
  pub given : Given
  pub is : next_given v ≡ Some given
  pub spelled : IsSpelled (Some given) pdu
  pub read : IsReadAs (Some given) pdu
  pub addressed : IsAddressed (Some given) pdu

-- what the host says is what it is, and what it gives is read so and goes to the endpoint that it is for
abbrev pub IsMeant : Occurrence → Channels → Type 0
IsMeant (Comes pdu) v = Unit {0}
IsMeant (Connects psm) v = Unit {0}
IsMeant AsksFeatures v = Unit {0}
IsMeant (Disconnects own) v = Unit {0}
IsMeant (Sends own sdu) v = IsUttered (Sends own sdu) v
IsMeant (Gives pdu) v = IsGivenSo v pdu
IsMeant Fires v = Unit {0}
IsMeant Tells v = Unit {0}

abbrev pub AreMeant : Policy → (past more : List Occurrence) → Type 0
AreMeant policy past more = EachAfter (λ front one. IsMeant one (run_of policy front).value) past more

-- whatever PSM a channel is asked for
abbrev AnyPsm : ℕ → Type 0
AnyPsm psm = Unit {0}

any_psm : (n : ℕ) → n < 2 ^ 16 → AnyPsm n
any_psm n low = tt

abbrev FittedAny : Channels → Type 0
FittedAny v = Fitted AnyPsm any_psm v

sober : (policy : Policy) (v : Channels) (one : Occurrence) → IsCalmAt policy one v → IsSoberFor AnyPsm one
sober policy v (Comes pdu) calm = λ here. (calm.1 here).0
sober policy v (Connects psm) calm = tt
sober policy v AsksFeatures calm = tt
sober policy v (Disconnects own) calm = tt
sober policy v (Sends own sdu) calm = tt
sober policy v (Gives pdu) calm = tt
sober policy v Fires calm = tt
sober policy v Tells calm = tt

abbrev out : List ℕ → Pdu
out pdu = record { flow = Out; octets = pdu }

one_command : (command : Command) (read : List _) → map (sayings.Command Out) read ≡ spoken command ∷ [] → read ≡ Ok command ∷ []
one_command command [] is = cc
one_command command (one ∷ []) is = cc
one_command command (one ∷ two ∷ read) is = cc

command_read : (command : Command) (pdu : List ℕ) → IsSaidAs (Signal command) pdu → answers (drop 4 pdu) ≡ Ok command ∷ []
command_read command pdu said =
    one_command command (answers (drop 4 pdu))
    (sym (ap (λ (b : Bool). if b then map (sayings.Command Out) (answers (drop 4 pdu)) else Carried Out pdu ∷ []) (ap (λ (p : List ℕ). eqb (channel_of p) 0x0001) said.spelled)) ∙ said.read)

given_so : (given : Given) (v : Channels) (pdu : List ℕ) → next_given v ≡ Some given → IsForEndpoint given → IsSaidAs given pdu → IsGivenSo v pdu
given_so (Signal command) v pdu is there said = record { given = Signal command; is = is; spelled = (said.spelled, said.octets); read = command_read command pdu said; addressed = tt }
given_so (Whole peer sdu) v pdu is there said =
    record { given = Whole peer sdu; is = is; spelled = (said.spelled, said.octets); read = uttered-is_read (Whole peer sdu) pdu there said.spelled; addressed = ap channel_of said.spelled ∙ le16-number peer sdu there.0 }
given_so (Framed peer frame) v pdu is there said = record { given = Framed peer frame; is = is; spelled = (said.spelled, said.octets); read = uttered-is_read (Framed peer frame) pdu there.1 said.spelled; addressed = tt }

means : (policy : Policy) (v : Channels) (one : Occurrence) → IsCalmAt policy one v → FittedAny v → IsMeant one v
means policy v (Comes pdu) calm fitted = tt
means policy v (Connects psm) calm fitted = tt
means policy v AsksFeatures calm fitted = tt
means policy v (Disconnects own) calm fitted = tt
means policy v (Sends own sdu) calm fitted = peer-low AnyPsm any_psm own v fitted
means policy v (Gives pdu) calm fitted = given_so calm.given v pdu calm.is (given-endpoint AnyPsm any_psm v calm.given fitted calm.is) calm.said_as
means policy v Fires calm fitted = tt
means policy v Tells calm fitted = tt

later_meant : (policy : Policy) (past later : List Occurrence) → IsCalm policy (run_of policy past).value later → FittedAny (run_of policy past).value → AreMeant policy past later
later_meant policy past [] calm fitted = tt
later_meant policy past (more ∷ later) calm fitted =
    let run : Run = run_of policy past in
    let further : run_of policy (past ++ more ∷ []) ≡ run_on policy run more = fold-append (run_on policy) new_link past (more ∷ []) in (
      means policy run.value more calm.0 fitted,
      later_meant policy (past ++ more ∷ []) later (subst (λ (r : Run). IsCalm policy r.value later) (sym further) calm.1)
          (subst (λ (r : Run). FittedAny r.value) (sym further) (occurs-fitted AnyPsm any_psm policy run.value more (sober policy run.value more calm.0) fitted)),
    )

pub calm-meant : (policy : Policy) (list : List Occurrence) → IsCalm policy no_channels list → AreMeant policy [] list
calm-meant policy list calm = later_meant policy [] list calm (new-fitted AnyPsm any_psm [])

-- ---- what comes in, and what is given

-- neither comes a PDU in, nor does the timer fire
abbrev pub ComesNot : Occurrence → Type 0
ComesNot (Comes pdu) = ⊥
ComesNot (Connects psm) = Unit {0}
ComesNot AsksFeatures = Unit {0}
ComesNot (Disconnects own) = Unit {0}
ComesNot (Sends own sdu) = Unit {0}
ComesNot (Gives pdu) = Unit {0}
ComesNot Fires = ⊥
ComesNot Tells = Unit {0}

abbrev pub gives_by : Occurrence → List (List ℕ)
gives_by (Comes pdu) = []
gives_by (Connects psm) = []
gives_by AsksFeatures = []
gives_by (Disconnects own) = []
gives_by (Sends own sdu) = []
gives_by (Gives pdu) = pdu ∷ []
gives_by Fires = []
gives_by Tells = []

abbrev pub gives_in : List Occurrence → List (List ℕ)
gives_in list = flat_map gives_by list

-- it is seen in what the host hears and says
pub outer-gives : (list : List Occurrence) → gives_in (filter_map outer list) ≡ gives_in list
outer-gives [] = refl
outer-gives (Comes pdu ∷ list) = outer-gives list
outer-gives (Connects psm ∷ list) = outer-gives list
outer-gives (AsksFeatures ∷ list) = outer-gives list
outer-gives (Disconnects own ∷ list) = outer-gives list
outer-gives (Sends own sdu ∷ list) = outer-gives list
outer-gives (Gives pdu ∷ list) = ap (λ (l : List (List ℕ)). pdu ∷ l) (outer-gives list)
outer-gives (Fires ∷ list) = outer-gives list
outer-gives (Tells ∷ list) = outer-gives list

pub outer-comes_not : (list : List Occurrence) → AllByRecursion ComesNot (filter_map outer list) → AllByRecursion ComesNot list
outer-comes_not [] all = tt
outer-comes_not (Comes pdu ∷ list) all = absurd all.0
outer-comes_not (Connects psm ∷ list) all = (tt, outer-comes_not list all)
outer-comes_not (AsksFeatures ∷ list) all = (tt, outer-comes_not list all)
outer-comes_not (Disconnects own ∷ list) all = (tt, outer-comes_not list all)
outer-comes_not (Sends own sdu ∷ list) all = (tt, outer-comes_not list all)
outer-comes_not (Gives pdu ∷ list) all = (tt, outer-comes_not list all.1)
outer-comes_not (Fires ∷ list) all = absurd all.0
outer-comes_not (Tells ∷ list) all = (tt, outer-comes_not list all)

pub fired-list : (now front behind : List Occurrence) → ((now ++ front) ++ Fires ∷ []) ++ behind ≡ now ++ (front ++ Fires ∷ behind)
fired-list now front behind = append_assoc (now ++ front) (Fires ∷ []) behind ∙ append_assoc now front (Fires ∷ behind)

-- ---- one after the other

module _ (side : View) (mine theirs : Policy) (other : List Occurrence) (rest far_coming : List (List ℕ)) where
  abbrev At : (list : List Occurrence) (far_rest : List (List ℕ)) → Type 0
  At list far_rest = PairFrom side mine theirs list other [] rest far_coming far_rest

  alone : (list : List Occurrence) (one : Occurrence) (far_rest : List (List ℕ)) → At (list ++ one ∷ []) far_rest → At (list ++ one ∷ []) (far_rest ++ [])
  alone list one far_rest p = subst (λ (l : List (List ℕ)). At (list ++ one ∷ []) l) (sym (append-nil far_rest)) p

  one_on : (list : List Occurrence) (one : Occurrence) (far_rest : List (List ℕ)) → ComesNot one → IsMeant one (run_of mine list).value → At list far_rest → At (list ++ one ∷ []) (far_rest ++ gives_by one)
  one_on list (Comes pdu) far_rest not meant p = absurd not
  one_on list (Connects psm) far_rest not meant p = alone list (Connects psm) far_rest (does-alone side mine theirs list other far_coming far_rest (Connects psm) rest refl refl tt p)
  one_on list AsksFeatures far_rest not meant p = alone list AsksFeatures far_rest (does-alone side mine theirs list other far_coming far_rest AsksFeatures rest refl refl tt p)
  one_on list (Disconnects own) far_rest not meant p = alone list (Disconnects own) far_rest (does-alone side mine theirs list other far_coming far_rest (Disconnects own) rest refl refl tt p)
  one_on list (Sends own sdu) far_rest not meant p = alone list (Sends own sdu) far_rest (does-alone side mine theirs list other far_coming far_rest (Sends own sdu) rest refl refl meant p)
  one_on list (Gives pdu) far_rest not meant p = puts-it side mine theirs list other far_coming far_rest pdu meant.given rest meant.is meant.spelled meant.read meant.addressed p
  one_on list Fires far_rest not meant p = absurd not
  one_on list Tells far_rest not meant p = alone list Tells far_rest (does-alone side mine theirs list other far_coming far_rest Tells rest refl refl tt p)

  pub all_on : (list more : List Occurrence) (far_rest : List (List ℕ)) → AllByRecursion ComesNot more → AreMeant mine list more → At list far_rest → At (list ++ more) (far_rest ++ gives_in more)
  all_on list [] far_rest not meant p = subst (λ (l : List (List ℕ)). At (list ++ []) l) (sym (append-nil far_rest)) (subst (λ (l : List Occurrence). At l far_rest) (sym (append-nil list)) p)
  all_on list (one ∷ more) far_rest not meant p =
      subst (λ (l : List (List ℕ)). At (list ++ one ∷ more) l) (append_assoc far_rest (gives_by one) (gives_in more))
      (subst (λ (l : List Occurrence). At l ((far_rest ++ gives_by one) ++ gives_in more)) (append_assoc list (one ∷ []) more)
      (all_on (list ++ one ∷ []) more (far_rest ++ gives_by one) not.1 meant.1 (one_on list one far_rest not.0 meant.0 p)))
