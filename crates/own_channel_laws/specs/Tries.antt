-- How often a host gives its own requests (Core 5.1, Volume 3 Part A, 6.2.1).
use Rattle.std.specs.Prelude.{ℕ, ◌≡◌, ◌≤◌, ◌+◌, ◌⊎◌, Bool, true, false, List, [], ◌∷◌, ◌++◌, Option, Some, None}
use Rattle.channel_model.specs.declared.errand.Errand.{Errand}
use Rattle.channel_model.specs.declared.errand.Errand.TheVariants.{Connection, Configuration, Disconnection, Features}
use Rattle.channel_model.specs.Value.{Request, Queued, Own, Unasked, Asking, Granted, Stage, Requested, Connected, Leaving, Closing, Crossed, Held, Channels}
use Rattle.channel_model.specs.Policies.{Policy}
use Rattle.channel_model.specs.Changing.{held_at, is_copy}
use Rattle.own_channel_laws.specs.Runs.{Occurrence, Comes, Connects, AsksFeatures, Disconnects, Sends, Gives, Fires, Tells, value_after, run_of}

-- ---- the requests that wait for their answers

abbrev pub for_channel : Stage → Option Request
for_channel (Requested request) = Some request
for_channel (Connected peer setup) = None
for_channel (Leaving peer setup request) = None
for_channel (Closing peer request checked) = None
for_channel (Crossed peer request) = None

abbrev pub own_request : Own → Option Request
own_request Unasked = None
own_request (Asking request options) = Some request
own_request Granted = None

abbrev pub for_options : Stage → Option Request
for_options (Requested request) = None
for_options (Connected peer setup) = own_request setup.own
for_options (Leaving peer setup request) = own_request setup.own
for_options (Closing peer request checked) = None
for_options (Crossed peer request) = None

abbrev pub for_end : Stage → Option Request
for_end (Requested request) = None
for_end (Connected peer setup) = None
for_end (Leaving peer setup request) = Some request
for_end (Closing peer request checked) = Some request
for_end (Crossed peer request) = Some request

abbrev pub request_at : (Stage → Option Request) → Option Held → Option Request
request_at f None = None
request_at f (Some held) = f held.stage

abbrev pub request_of : Errand → Channels → Option Request
request_of (Connection own) v = request_at for_channel (held_at own v)
request_of (Configuration own) v = request_at for_options (held_at own v)
request_of (Disconnection own) v = request_at for_end (held_at own v)
request_of Features v = v.features

-- ---- the laws

abbrev pub one_if : Bool → ℕ
one_if true = 1
one_if false = 0

-- how many copies of a request wait to be given
abbrev pub copies : Errand → List Queued → ℕ
copies errand [] = 0
copies errand (waiting ∷ queue) = one_if (is_copy errand waiting) + copies errand queue

-- Whatever happens: a request that waits for its answer was given, with the copies of it that wait, at most as often as
-- the host tries, and once where it tries less.
abbrev pub TriesAreKept : Type 0
TriesAreKept = (policy : Policy) (list : List Occurrence) (most : ℕ) → 1 ≤ most → policy.tries ≤ most
    → (errand : Errand) (request : Request) → request_of errand (run_of policy list).value ≡ Some request → copies errand (run_of policy list).value.queue + request.given ≤ most

abbrev pub is_firing : Occurrence → Bool
is_firing (Comes pdu) = false
is_firing (Connects psm) = false
is_firing AsksFeatures = false
is_firing (Disconnects own) = false
is_firing (Sends own sdu) = false
is_firing (Gives pdu) = false
is_firing Fires = true
is_firing Tells = false

-- a request is new, with at most one copy, or it was there, with as many copies that were given or that wait
abbrev pub IsNotRepeated : (before after : Channels) → Errand → Request → Type 0
IsNotRepeated before after errand request =
    (copies errand after.queue + request.given ≤ 1)
    ⊎ ((was : Request) × (request_of errand before ≡ Some was) × (copies errand after.queue + request.given ≤ copies errand before.queue + was.given))

-- Whatever happens but a firing of the timer, no request is to be given once more.
abbrev pub FiringsAloneRepeat : Type 0
FiringsAloneRepeat = (policy : Policy) (list : List Occurrence) (more : Occurrence) → is_firing more ≡ false
    → (errand : Errand) (request : Request) → request_of errand (value_after policy more (run_of policy list).value) ≡ Some request → IsNotRepeated (run_of policy list).value (value_after policy more (run_of policy list).value) errand request

abbrev pub firings : List Occurrence → ℕ
firings [] = 0
firings (more ∷ list) = one_if (is_firing more) + firings list

-- Whatever happens: a request that waits for its answer was given, with the copies of it that wait, at most once more often
-- than the timer fired. So it is given for the t-th time only behind t - 1 firings.
abbrev pub FiringsAreCounted : Type 0
FiringsAreCounted = (policy : Policy) (list : List Occurrence) (errand : Errand) (request : Request) → request_of errand (run_of policy list).value ≡ Some request → copies errand (run_of policy list).value.queue + request.given ≤ 1 + firings list

-- Since it was new, or none waited: a request was given, with the copies of it that wait, at most once more often than the timer
-- fired from then on.
abbrev pub FiringsAreCountedSince : Type 0
FiringsAreCountedSince = (policy : Policy) (past list : List Occurrence) (errand : Errand) (request : Request)
    → ((was : Request) → request_of errand (run_of policy past).value ≡ Some was → copies errand (run_of policy past).value.queue + was.given ≤ 1)
    → request_of errand (run_of policy (past ++ list)).value ≡ Some request → copies errand (run_of policy (past ++ list)).value.queue + request.given ≤ 1 + firings list
