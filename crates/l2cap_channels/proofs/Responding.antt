-- What follows from requests and responses for the options of a channel.
use Rattle.std.proofs.Common.{◌≡◌, ◌∙◌, ℕ, Bool, true, false, List, [], ◌∷◌, refl, sym, ap}
use Rattle.std.specs.Prelude.{◌==◌, if◌then◌else◌, Option, Some, None, option_map, is_some, Result, Ok, Err}
use Rattle.std.specs.List.{find}
use Rattle.std.proofs.lemmas.Bool.{eqb-true}
use Rattle.l2cap_config.specs.declared.options.Options.{Options}
use Rattle.l2cap_config.specs.declared.options.ConfigRefusal.{ConfigRefusal}
use Rattle.l2cap_config.specs.declared.wish.Wish.{Wish}
use Rattle.l2cap_config.specs.Agreement.{settled}
use Rattle.l2cap_config.specs.Reading.{options_read}
use Rattle.channel_model.specs.Value.{Request, Own, Unasked, Asking, Granted, Setup, Held, Channels}
use Rattle.channel_model.specs.Policies.{Policy}
use Rattle.channel_model.specs.Changing.{has_own, held_at, setup_of}
use Rattle.channel_model.specs.Configuring.{Verdict, judged_stage, verdict, verdict_on, follows_verdict}
use Rattle.channel_model.specs.Following.{follows_setup, follows_configuration}
use Rattle.channel_model.specs.Responses.{hears_settled, hears_options, hears_response, hears_response_on, is_asked}
use Rattle.l2cap_channels.specs.Finding.{on_place, place_setup}
use Rattle.l2cap_channels.specs.Timers.{asked_by, asked_on}
use Rattle.l2cap_channels.specs.Steps.{on_setup, with_setup_at}
use Rattle.l2cap_channels.proofs.Finding.{found, passed}

same_some : {X : Type 0} (x y : X) → Some x ≡ Some y → x ≡ y
same_some x y e = cc

-- ---- the channel of an own endpoint

found_by : (x h : Held) (xs : List Held) (own : ℕ) (b : Bool) → find (has_own own) (x ∷ xs) ≡ Some h → (find (has_own own) xs ≡ Some h → h.own ≡ own) → (x.own == own) ≡ b → h.own ≡ own
found_by x h xs own true is later hit =
    let same : x ≡ h = same_some x h (sym (found (has_own own) x (find (has_own own) xs) true hit refl) ∙ is) in
    ap (λ (k : Held). k.own) (sym same) ∙ eqb-true x.own own hit
found_by x h xs own false is later miss = later (sym (passed (has_own own) x (find (has_own own) xs) miss) ∙ is)

found_own : (xs : List Held) (own : ℕ) (h : Held) → find (has_own own) xs ≡ Some h → h.own ≡ own
found_own [] own h is = cc
found_own (x ∷ xs) own h is = found_by x h xs own (x.own == own) is (λ earlier. found_own xs own h earlier) refl

pub judged_by : (o : Option Held) (own flags : ℕ) (octets : List ℕ) (policy : Policy) (wish : Wish) (given : Verdict) (v : Channels) → o ≡ held_at own v → option_map (λ (h : Held). policy.wish h.psm) o ≡ Some wish
    → option_map (λ (h : Held). judged_stage h.stage wish flags octets) o ≡ Some given → given ≡ verdict policy own flags octets v
judged_by None own flags octets policy wish given v at wished judged = cc
judged_by (Some h) own flags octets policy wish given v at wished judged =
    sym (same_some (judged_stage h.stage wish flags octets) given judged)
    ∙ ap (λ (w : Wish). judged_stage h.stage w flags octets) (sym (same_some (policy.wish h.psm) wish wished))
    ∙ ap (λ (k : Option Held). verdict_on k policy flags octets) at

verdict_is : (h : Held) (own flags : ℕ) (octets : List ℕ) (policy : Policy) (wish : Wish) (given : Verdict) (v : Channels) → held_at own v ≡ Some h → policy.wish h.psm ≡ wish
    → judged_stage h.stage wish flags octets ≡ given → given ≡ verdict policy h.own flags octets v
verdict_is h own flags octets policy wish given v at wished judged =
    sym judged
    ∙ ap (λ (w : Wish). judged_stage h.stage w flags octets) (sym wished)
    ∙ ap (λ (o : Option Held). verdict_on o policy flags octets) (sym at)
    ∙ ap (λ (n : ℕ). verdict policy n flags octets v) (sym (found_own v.held own h at))

setup_follows : (setup : Option Setup) (h : Held) (flags : ℕ) (octets : List ℕ) (policy : Policy) (wish : Wish) (given : Verdict) (v : Channels) → policy.wish h.psm ≡ wish
    → given ≡ verdict policy h.own flags octets v → on_setup (follows_verdict given wish) setup h v ≡ follows_setup setup policy h flags octets v
setup_follows None h flags octets policy wish given v wished judged = refl
setup_follows (Some setup) h flags octets policy wish given v wished judged =
    ap (λ (x : Verdict). follows_verdict x wish h setup v) judged
    ∙ ap (λ (w : Wish). follows_verdict (verdict policy h.own flags octets v) w h setup v) (sym wished)

pub configured_by : (o : Option Held) (own flags : ℕ) (octets : List ℕ) (policy : Policy) (wish : Wish) (given : Verdict) (v : Channels) → o ≡ held_at own v → option_map (λ (h : Held). policy.wish h.psm) o ≡ Some wish
    → option_map (λ (h : Held). judged_stage h.stage wish flags octets) o ≡ Some given → on_place (with_setup_at (follows_verdict given wish)) o v ≡ follows_configuration (held_at own v) policy flags octets v
configured_by None own flags octets policy wish given v at wished judged = cc
configured_by (Some h) own flags octets policy wish given v at wished judged =
    let w = same_some (policy.wish h.psm) wish wished in
    setup_follows (setup_of h.stage) h flags octets policy wish given v w (verdict_is h own flags octets policy wish given v (sym at) w (same_some (judged_stage h.stage wish flags octets) given judged))
    ∙ ap (λ (k : Option Held). follows_configuration k policy flags octets v) at

pub unset_by : (o : Option Held) (own flags : ℕ) (octets : List ℕ) (policy : Policy) (v : Channels) → o ≡ held_at own v → is_some (place_setup o) ≡ false → v ≡ follows_configuration (held_at own v) policy flags octets v
unset_by None own flags octets policy v at none = ap (λ (k : Option Held). follows_configuration k policy flags octets v) at
unset_by (Some h) own flags octets policy v at none = without (setup_of h.stage) refl ∙ ap (λ (k : Option Held). follows_configuration k policy flags octets v) at
  where
    without : (s : Option Setup) → setup_of h.stage ≡ s → v ≡ follows_setup (setup_of h.stage) policy h flags octets v
    without None is = ap (λ (s : Option Setup). follows_setup s policy h flags octets v) (sym is)
    without (Some setup) is = let never : true ≡ false = ap is_some (sym is) ∙ none in cc

-- ---- a response

none_own : (own : Own) (identifier : ℕ) → asked_by own ≡ None → is_asked identifier own ≡ false
none_own Unasked identifier none = refl
none_own (Asking request options) identifier none = cc
none_own Granted identifier none = refl

some_own : (own : Own) (identifier : ℕ) (request : Request) (hit : Bool) → asked_by own ≡ Some request → (request.identifier == identifier) ≡ hit → is_asked identifier own ≡ hit
some_own Unasked identifier request hit some is = cc
some_own (Asking asked options) identifier request hit some is = ap (λ (r : Request). r.identifier == identifier) (same_some asked request some) ∙ is
some_own Granted identifier request hit some is = cc

not_asked : (setup : Option Setup) (h : Held) (policy : Policy) (identifier result : ℕ) (octets : List ℕ) (v : Channels)
    → ((s : Setup) → setup ≡ Some s → is_asked identifier s.own ≡ false) → hears_response_on setup policy identifier result octets h v ≡ v
not_asked None h policy identifier result octets v none = refl
not_asked (Some setup) h policy identifier result octets v none = rw (none setup refl) refl

pub unasked_by : (o : Option Held) (policy : Policy) (identifier result : ℕ) (octets : List ℕ) (v : Channels) → asked_on (place_setup o) ≡ None → v ≡ hears_response o policy identifier result octets v
unasked_by None policy identifier result octets v none = refl
unasked_by (Some h) policy identifier result octets v none =
    sym (not_asked (setup_of h.stage) h policy identifier result octets v (λ s is. none_own s.own identifier (ap asked_on (sym is) ∙ none)))

pub other_by : (o : Option Held) (policy : Policy) (identifier result : ℕ) (octets : List ℕ) (request : Request) (v : Channels) → asked_on (place_setup o) ≡ Some request → (request.identifier == identifier) ≡ false
    → v ≡ hears_response o policy identifier result octets v
other_by None policy identifier result octets request v some is = refl
other_by (Some h) policy identifier result octets request v some is =
    sym (not_asked (setup_of h.stage) h policy identifier result octets v (λ s at. some_own s.own identifier request false (ap asked_on (sym at) ∙ some) is))

read_by : (setup : Option Setup) (h : Held) (policy : Policy) (wish : Wish) (identifier result : ℕ) (octets : List ℕ) (request : Request) (options : Options) (v : Channels) → asked_on setup ≡ Some request
    → (request.identifier == identifier) ≡ true → options_read octets ≡ Ok options → policy.wish h.psm ≡ wish
    → on_setup (hears_settled (settled wish result options)) setup h v ≡ hears_response_on setup policy identifier result octets h v
read_by None h policy wish identifier result octets request options v some is read wished = cc
read_by (Some setup) h policy wish identifier result octets request options v some is read wished =
    rw (some_own setup.own identifier request true some is)
    (ap (λ (w : Wish). hears_settled (settled w result options) h setup v) (sym wished)
    ∙ ap (λ (r : Result Options ConfigRefusal). hears_options r policy result h setup v) (sym read))

pub response_by : (o : Option Held) (policy : Policy) (wish : Wish) (identifier result : ℕ) (octets : List ℕ) (request : Request) (options : Options) (v : Channels) → asked_on (place_setup o) ≡ Some request
    → (request.identifier == identifier) ≡ true → options_read octets ≡ Ok options → option_map (λ (h : Held). policy.wish h.psm) o ≡ Some wish
    → on_place (with_setup_at (hears_settled (settled wish result options))) o v ≡ hears_response o policy identifier result octets v
response_by None policy wish identifier result octets request options v some is read wished = cc
response_by (Some h) policy wish identifier result octets request options v some is read wished =
    read_by (setup_of h.stage) h policy wish identifier result octets request options v some is read (same_some (policy.wish h.psm) wish wished)

refused_read : (setup : Option Setup) (h : Held) (policy : Policy) (identifier result : ℕ) (octets : List ℕ) (refusal : ConfigRefusal) (v : Channels) → options_read octets ≡ Err refusal
    → v ≡ hears_response_on setup policy identifier result octets h v
refused_read None h policy identifier result octets refusal v read = refl
refused_read (Some setup) h policy identifier result octets refusal v read = either (is_asked identifier setup.own)
  where
    either : (b : Bool) → v ≡ (if b then hears_options (options_read octets) policy result h setup v else v)
    either true = ap (λ (r : Result Options ConfigRefusal). hears_options r policy result h setup v) (sym read)
    either false = refl

pub unread_by : (o : Option Held) (policy : Policy) (identifier result : ℕ) (octets : List ℕ) (refusal : ConfigRefusal) (v : Channels) → options_read octets ≡ Err refusal → v ≡ hears_response o policy identifier result octets v
unread_by None policy identifier result octets refusal v read = refl
unread_by (Some h) policy identifier result octets refusal v read = refused_read (setup_of h.stage) h policy identifier result octets refusal v read

pub asked_there : (setup : Option Setup) (request : Request) → asked_on setup ≡ Some request → is_some setup ≡ true
asked_there None request some = cc
asked_there (Some setup) request some = refl
