-- What becomes of the requests of a host that gives its next PDU.
use Rattle.std.proofs.Common.{◌≡◌, ℕ, ◌+◌, ◌≤◌, List, [], ◌∷◌, Option, Some, None, refl, sym, ap, subst, ◌∙◌, ◌⊎◌, inl, inr, arith}
use Rattle.std.specs.Prelude.{find, option_map, min}
use Rattle.channel_model.specs.declared.errand.Errand.{Errand}
use Rattle.channel_model.specs.declared.errand.Errand.TheVariants as errands
use Rattle.channel_model.specs.Value.{Request, Queued, Answer, Ask, Own, Unasked, Asking, Granted, Setup, Stage, Requested, Connected, Leaving, Closing, Crossed, Held, Channels}
use Rattle.channel_model.specs.Changing.{has_own, held_at, setup_of, to_setup, same_errand}
use Rattle.channel_model.specs.Giving.{gives, one_more, own_given, connection_given, configuration_given, disconnection_given, stage_given, counted, carrier_given, carrier_spent, held_given, queue_given}
use Rattle.channel_model.proofs.Lookups.{own_of, Distinct, found-has, found-distinct}
use Rattle.channel_model.proofs.Walking.{found-own}
use Rattle.own_channel_laws.specs.Tries.{for_channel, own_request, for_options, for_end, request_of, one_if, copies}
use Rattle.own_channel_laws.proofs.Trying.{same-self, By, Tame, still-tame, same-tame, same-requests, Spares, Here, rests-here, goes-so}
use Rattle.own_channel_laws.proofs.Sparing.{setup-tame}

-- ---- a request is given

-- a request that waits was there with the same identifier, and was given no more often, with its copies
abbrev pub Gave : (after before : ℕ) → Option Request → Request → Type 0
Gave after before was r = (r' : Request) × (was ≡ Some r') × (r.identifier ≡ r'.identifier) × (after + r.given ≤ before + r'.given)

pub same_gave : Spares Gave
same_gave after before was r is less = (r, is, refl, omega (arith, less))

-- one copy less waits, and it was given one time more
pub once_more : (errand : Errand) (behind : List Queued) (now was : Option Request) → now ≡ option_map one_more was → Here Gave (copies errand behind) (one_if (same_errand errand errand) + copies errand behind) now was
once_more errand behind now None same r is = let never : None ≡ Some r = sym same ∙ is in absurd cc
once_more errand behind now (Some was) same r is =
    let it : r ≡ one_more was = some_is r (one_more was) (sym is ∙ same) in
    let given : r.given ≡ min (was.given + 1) 255 = ap (λ (x : Request). x.given) it in
    let one : one_if (same_errand errand errand) ≡ 1 = ap one_if (same-self errand) in
    (was, refl, ap (λ (x : Request). x.identifier) it, omega (arith, given, one))
  where
    some_is : (x y : Request) → Some x ≡ Some y → x ≡ y
    some_is x y is = cc

pub own_once : (own : Own) → own_request (own_given own) ≡ option_map one_more (own_request own)
own_once Unasked = refl
own_once (Asking request options) = refl
own_once Granted = refl

-- what becomes of the three requests of a channel
pub connection_once : (stage : Stage) → (for_channel (connection_given stage) ≡ option_map one_more (for_channel stage)) × (for_options (connection_given stage) ≡ for_options stage) × (for_end (connection_given stage) ≡ for_end stage)
connection_once (Requested request) = (refl, refl, refl)
connection_once (Connected peer setup) = (refl, refl, refl)
connection_once (Leaving peer setup request) = (refl, refl, refl)
connection_once (Closing peer request checked) = (refl, refl, refl)
connection_once (Crossed peer request) = (refl, refl, refl)

pub configuration_once : (stage : Stage) → (for_channel (configuration_given stage) ≡ for_channel stage) × (for_options (configuration_given stage) ≡ option_map one_more (for_options stage)) × (for_end (configuration_given stage) ≡ for_end stage)
configuration_once (Requested request) = (refl, refl, refl)
configuration_once (Connected peer setup) = (refl, own_once setup.own, refl)
configuration_once (Leaving peer setup request) = (refl, own_once setup.own, refl)
configuration_once (Closing peer request checked) = (refl, refl, refl)
configuration_once (Crossed peer request) = (refl, refl, refl)

pub disconnection_once : (stage : Stage) → (for_channel (disconnection_given stage) ≡ for_channel stage) × (for_options (disconnection_given stage) ≡ for_options stage) × (for_end (disconnection_given stage) ≡ option_map one_more (for_end stage))
disconnection_once (Requested request) = (refl, refl, refl)
disconnection_once (Connected peer setup) = (refl, refl, refl)
disconnection_once (Leaving peer setup request) = (refl, refl, refl)
disconnection_once (Closing peer request checked) = (refl, refl, refl)
disconnection_once (Crossed peer request) = (refl, refl, refl)

pub fewer : (errand e : Errand) (behind : List Queued) → copies e behind ≤ copies e (Ask errand ∷ behind)
fewer errand e behind = omega arith

abbrev pub waiting : List Queued → Channels → Channels
waiting queue v = record v { queue = queue }

-- of the three requests of a channel one is given once more
abbrev pub GivenOnce : (errand : Errand) (behind : List Queued) (held : Held) (after : Stage) → Type 0
GivenOnce errand behind held after =
    Here Gave (copies (errands.Connection held.own) behind) (copies (errands.Connection held.own) (Ask errand ∷ behind)) (for_channel after) (for_channel held.stage)
    × Here Gave (copies (errands.Configuration held.own) behind) (copies (errands.Configuration held.own) (Ask errand ∷ behind)) (for_options after) (for_options held.stage)
    × Here Gave (copies (errands.Disconnection held.own) behind) (copies (errands.Disconnection held.own) (Ask errand ∷ behind)) (for_end after) (for_end held.stage)

pub connection_more : (behind : List Queued) (held : Held) → GivenOnce (errands.Connection held.own) behind held (connection_given held.stage)
connection_more behind held =
    let errand : Errand = errands.Connection held.own in
    let (one, two, three) = connection_once held.stage in (
      once_more errand behind (for_channel (connection_given held.stage)) (for_channel held.stage) one,
      rests-here Gave same_gave _ _ (for_options (connection_given held.stage)) (for_options held.stage) (fewer errand (errands.Configuration held.own) behind) (inr two),
      rests-here Gave same_gave _ _ (for_end (connection_given held.stage)) (for_end held.stage) (fewer errand (errands.Disconnection held.own) behind) (inr three),
    )

pub configuration_more : (behind : List Queued) (held : Held) → GivenOnce (errands.Configuration held.own) behind held (configuration_given held.stage)
configuration_more behind held =
    let errand : Errand = errands.Configuration held.own in
    let (one, two, three) = configuration_once held.stage in (
      rests-here Gave same_gave _ _ (for_channel (configuration_given held.stage)) (for_channel held.stage) (fewer errand (errands.Connection held.own) behind) (inr one),
      once_more errand behind (for_options (configuration_given held.stage)) (for_options held.stage) two,
      rests-here Gave same_gave _ _ (for_end (configuration_given held.stage)) (for_end held.stage) (fewer errand (errands.Disconnection held.own) behind) (inr three),
    )

pub disconnection_more : (behind : List Queued) (held : Held) → GivenOnce (errands.Disconnection held.own) behind held (disconnection_given held.stage)
disconnection_more behind held =
    let errand : Errand = errands.Disconnection held.own in
    let (one, two, three) = disconnection_once held.stage in (
      rests-here Gave same_gave _ _ (for_channel (disconnection_given held.stage)) (for_channel held.stage) (fewer errand (errands.Connection held.own) behind) (inr one),
      rests-here Gave same_gave _ _ (for_options (disconnection_given held.stage)) (for_options held.stage) (fewer errand (errands.Configuration held.own) behind) (inr two),
      once_more errand behind (for_end (disconnection_given held.stage)) (for_end held.stage) three,
    )

-- so are all
abbrev pub AllGave : Channels → Channels → Type 0
AllGave v w = (e : Errand) (r : Request) → request_of e w ≡ Some r → Gave (copies e w.queue) (copies e v.queue) (request_of e v) r

pub still_gave : (v w : Channels) → w.held ≡ v.held → w.features ≡ v.features → ((e : Errand) → copies e w.queue ≤ copies e v.queue) → AllGave v w
still_gave v w held features less e r is = same_gave (copies e w.queue) (copies e v.queue) (request_of e v) r (sym (same-requests v w held features e) ∙ is) (less e)

pub stage_counted : (v : Channels) (errand : ℕ → Errand) (given : Stage → Stage) (own : ℕ) (behind : List Queued) (held : Option Held) → ((h : Held) → GivenOnce (errand h.own) behind h (given h.stage)) → find (has_own own) v.held ≡ held
    → AllGave (waiting (Ask (errand own) ∷ behind) v) (stage_given given held (waiting behind v))
stage_counted v errand given own behind None more is = still_gave (waiting (Ask (errand own) ∷ behind) v) (waiting behind v) refl refl (λ e. fewer (errand own) e behind)
stage_counted v errand given own behind (Some held) more is =
    subst (λ n. AllGave (waiting (Ask (errand n) ∷ behind) v) (stage_given given (Some held) (waiting behind v))) (found-has own_of own v.held held is)
    (let (one, two, three) = more held in goes-so Gave same_gave (waiting (Ask (errand held.own) ∷ behind) v) (stage_given given (Some held) (waiting behind v)) held (given held.stage) (record {
      found = found-own own v held is;
      held_is = refl;
      features_is = refl;
      others = λ e apart. fewer (errand held.own) e behind;
      channel = one;
      options = two;
      ending = three;
    }))

pub counted_features : (v : Channels) (behind : List Queued) → AllGave (waiting (Ask errands.Features ∷ behind) v) (counted errands.Features (waiting behind v))
counted_features v behind e r is = by e r is
  where
    by : (e : Errand) (r : Request) → request_of e (counted errands.Features (waiting behind v)) ≡ Some r → Gave (copies e behind) (copies e (Ask errands.Features ∷ behind)) (request_of e (waiting (Ask errands.Features ∷ behind) v)) r
    by (errands.Connection own) r is = (r, is, refl, omega arith)
    by (errands.Configuration own) r is = (r, is, refl, omega arith)
    by (errands.Disconnection own) r is = (r, is, refl, omega arith)
    by errands.Features r is = once_more errands.Features behind (option_map one_more v.features) v.features refl r is

pub counted_gave : (v : Channels) (errand : Errand) (behind : List Queued) → AllGave (waiting (Ask errand ∷ behind) v) (counted errand (waiting behind v))
counted_gave v (errands.Connection own) behind = stage_counted v errands.Connection connection_given own behind (held_at own v) (connection_more behind) refl
counted_gave v (errands.Configuration own) behind = stage_counted v errands.Configuration configuration_given own behind (held_at own v) (configuration_more behind) refl
counted_gave v (errands.Disconnection own) behind = stage_counted v errands.Disconnection disconnection_given own behind (held_at own v) (disconnection_more behind) refl
counted_gave v errands.Features behind = counted_features v behind

pub held_tame : (v : Channels) (held : Option Held) → Distinct own_of v.held → find gives v.held ≡ held → Tame v (held_given held v)
held_tame v None lone is = same-tame v
held_tame v (Some held) lone is = by (setup_of held.stage) refl
  where
    by : (setup : Option Setup) → setup_of held.stage ≡ setup → Tame v (carrier_spent setup held v)
    by None none = same-tame v
    by (Some setup) some =
        let after : Setup = record setup { carrier = option_map carrier_given setup.carrier } in
        setup-tame v (to_setup held after v) held setup after (found-distinct own_of gives v.held held lone is) some refl refl (λ e. omega arith) (inr refl)

-- the one or the other
abbrev pub Passes : Channels → Channels → Type 0
Passes v w = (e : Errand) (r : Request) → request_of e w ≡ Some r → By (copies e w.queue) (copies e v.queue) (request_of e v) r ⊎ Gave (copies e w.queue) (copies e v.queue) (request_of e v) r

pub gives-pass : (v : Channels) (queue : List Queued) → v.queue ≡ queue → Distinct own_of v.held → Passes v (queue_given queue v)
gives-pass v [] is lone = λ e r at. inl (held_tame v (find gives v.held) lone refl e r at)
gives-pass v (Answer command ∷ behind) is lone = λ e r at. inl (still-tame v (waiting behind v) refl refl (λ x. let whole = ap (copies x) is in omega (arith, whole)) e r at)
gives-pass v (Ask errand ∷ behind) is lone = λ e r at. inr (subst (λ q. AllGave (waiting q v) (queue_given (Ask errand ∷ behind) v)) (sym is) (counted_gave v errand behind) e r at)
