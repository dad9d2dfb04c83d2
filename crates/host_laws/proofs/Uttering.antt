-- What a calm host says goes out as its octets.
use Rattle.std.proofs.Common.{◌≡◌, ℕ, ◌^◌, ◌<◌, List, [], ◌∷◌, ◌++◌, Option, sym, subst}
use Rattle.std.proofs.lemmas.List.Sums.{fold-append}
use Rattle.shelf_model.specs.capture.specs.Histories.{EachAfter}
use Rattle.channel_laws.specs.channel_model.specs.Value.{Channels, no_channels}
use Rattle.channel_laws.specs.channel_model.specs.Policies.{Policy}
use Rattle.channel_laws.specs.channel_model.specs.Giving.{Given, next_given}
use Rattle.channel_laws.specs.Fit.{IsSoberFor}
use Rattle.channel_laws.specs.Frames.{IsSpelled, IsUttered, AreUttered}
use Rattle.channel_laws.specs.Runs.{Occurrence, Comes, Connects, AsksFeatures, Disconnects, Sends, Gives, Fires, Tells, Run, new_link, run_on, run_of}
use Rattle.channel_laws.proofs.Fitted.{Fitted, new-fitted, peer-low, occurs-fitted}
use Rattle.host_laws.specs.Seen.{IsGiven, IsCalmAt, IsCalm}

-- whatever PSM a channel is asked for
abbrev AnyPsm : ℕ → Type 0
AnyPsm psm = Unit {0}

any_psm : (n : ℕ) → n < 2 ^ 16 → AnyPsm n
any_psm n low = tt

abbrev FittedAny : Channels → Type 0
FittedAny v = Fitted AnyPsm any_psm v

sober : (policy : Policy) (v : Channels) (one : Occurrence) → IsCalmAt policy one v → IsSoberFor AnyPsm one
sober policy v (Comes pdu) calm = λ here. (calm.1 here).0
sober policy v (Connects psm) calm = tt
sober policy v AsksFeatures calm = tt
sober policy v (Disconnects own) calm = tt
sober policy v (Sends own sdu) calm = tt
sober policy v (Gives pdu) calm = tt
sober policy v Fires calm = tt
sober policy v Tells calm = tt

given_spelled : (v : Channels) (pdu : List ℕ) → IsGiven v pdu → IsSpelled (next_given v) pdu
given_spelled v pdu given = subst (λ (g : Option Given). IsSpelled g pdu) (sym given.is) (given.said_as.spelled, given.said_as.octets)

utters : (policy : Policy) (v : Channels) (one : Occurrence) → IsCalmAt policy one v → FittedAny v → IsUttered one v
utters policy v (Comes pdu) calm fitted = tt
utters policy v (Connects psm) calm fitted = tt
utters policy v AsksFeatures calm fitted = tt
utters policy v (Disconnects own) calm fitted = tt
utters policy v (Sends own sdu) calm fitted = peer-low AnyPsm any_psm own v fitted
utters policy v (Gives pdu) calm fitted = given_spelled v pdu calm
utters policy v Fires calm fitted = tt
utters policy v Tells calm fitted = tt

later_utter : (policy : Policy) (past later : List Occurrence) → IsCalm policy (run_of policy past).value later → FittedAny (run_of policy past).value → EachAfter (λ front more. IsUttered more (run_of policy front).value) past later
later_utter policy past [] calm fitted = tt
later_utter policy past (more ∷ later) calm fitted =
    let run : Run = run_of policy past in
    let further : run_of policy (past ++ more ∷ []) ≡ run_on policy run more = fold-append (run_on policy) new_link past (more ∷ []) in (
      utters policy run.value more calm.0 fitted,
      later_utter policy (past ++ more ∷ []) later (subst (λ (r : Run). IsCalm policy r.value later) (sym further) calm.1)
          (subst (λ (r : Run). FittedAny r.value) (sym further) (occurs-fitted AnyPsm any_psm policy run.value more (sober policy run.value more calm.0) fitted)),
    )

pub calm-utters : (policy : Policy) (list : List Occurrence) → IsCalm policy no_channels list → AreUttered policy list
calm-utters policy list calm = later_utter policy [] list calm (new-fitted AnyPsm any_psm [])
