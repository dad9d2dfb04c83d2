-- A host that offers no channel asks for the options of a channel that it leaves as often as for its end: what each step keeps.
use Rattle.std.proofs.Common.{◌≡◌, ℕ, ◌+◌, ◌≤◌, List, [], ◌∷◌, ◌++◌, map, Bool, true, false, eqb, not, Option, Some, None, refl, sym, ap, subst, ◌∙◌, arith}
use Rattle.std.specs.Prelude.{find, filter, min}
use Rattle.std.proofs.lemmas.Bool.{eqb-true}
use Rattle.talk_laws.specs.l2cap_config.specs.declared.options.Options.{Options}
use Rattle.channel_model.specs.Value.{Request, Own, Unasked, Asking, Granted, Setup, Stage, Requested, Connected, Leaving, Closing, Crossed, Held, Channels}
use Rattle.channel_model.specs.Changing.{has_own, in_place_of, held_at, setup_of, stage_with}
use Rattle.channel_model.specs.Giving.{one_more, own_given, connection_given, configuration_given, disconnection_given}
use Rattle.channel_model.proofs.Lookups.{own_of, found-placed, find-placed, find-others, find-gone}
use Rattle.channel_model.proofs.Going.{staged}
use Rattle.own_channel_laws.proofs.Marking.{marks, ones, zeros, lag, ones-last, zeros-last, lag-last, lag-first, lag-most, lag-all}

-- ---- what holds of each channel

-- it is asked for options at least so often, with the copies that wait: once, or as often as for its end, and once more where that was
-- asked for last
abbrev pub lead : Option Request → List Bool → ℕ
lead None ms = 1
lead (Some end) ms = min (zeros ms + end.given) 255 + lag ms

abbrev pub Paced : Option Request → Own → List Bool → Type 0
Paced end Unasked ms = ⊥
Paced end (Asking request options) ms = lead end ms ≤ ones ms + request.given
Paced end Granted ms = Unit {0}

abbrev pub StagePaced : Stage → List Bool → Type 0
StagePaced (Requested request) ms = Unit {0}
StagePaced (Connected peer setup) ms = Paced None setup.own ms
StagePaced (Leaving peer setup request) ms = Paced (Some request) setup.own ms
StagePaced (Closing peer request checked) ms = Unit {0}
StagePaced (Crossed peer request) ms = Unit {0}

abbrev pub FoundPaced : Option Held → List Bool → Type 0
FoundPaced None ms = Unit {0}
FoundPaced (Some held) ms = StagePaced held.stage ms

abbrev pub KeepsPace : Channels → Type 0
KeepsPace v = (own : ℕ) → FoundPaced (held_at own v) (marks own v.queue)

abbrev pub At : Channels → Held → Type 0
At v held = find (has_own held.own) v.held ≡ Some held

pub paced-at : (v : Channels) (held : Held) → At v held → KeepsPace v → StagePaced held.stage (marks held.own v.queue)
paced-at v held found k = subst (λ (h : Option Held). FoundPaced h (marks held.own v.queue)) found (k held.own)

-- ---- steps

-- what waits of other channels
abbrev pub Others : ℕ → (v w : Channels) → Type 0
Others own v w = (n : ℕ) → eqb own n ≡ false → marks n w.queue ≡ marks n v.queue

pub still-paced : (v w : Channels) → w.held ≡ v.held → ((n : ℕ) → marks n w.queue ≡ marks n v.queue) → KeepsPace v → KeepsPace w
still-paced v w held_is same k n =
    subst (λ (hs : List Held). FoundPaced (find (has_own n) hs) (marks n w.queue)) (sym held_is) (subst (λ (ms : List Bool). FoundPaced (find (has_own n) v.held) ms) (sym (same n)) (k n))

-- with one channel apart
apart_paced : (own : ℕ) (v w : Channels) → ((n : ℕ) → eqb own n ≡ false → held_at n w ≡ held_at n v) → Others own v w → FoundPaced (held_at own w) (marks own w.queue) → KeepsPace v → KeepsPace w
apart_paced own v w held_are others now k n = by (eqb own n) refl
  where
    by : (b : Bool) → eqb own n ≡ b → FoundPaced (held_at n w) (marks n w.queue)
    by true is = subst (λ m. FoundPaced (held_at m w) (marks m w.queue)) (eqb-true own n is) now
    by false is =
        subst (λ (h : Option Held). FoundPaced h (marks n w.queue)) (sym (held_are n is)) (subst (λ (ms : List Bool). FoundPaced (held_at n v) ms) (sym (others n is)) (k n))

pub moves-paced : (v w : Channels) (held : Held) (stage : Stage) → At v held → w.held ≡ map (in_place_of (staged held stage)) v.held → Others held.own v w → StagePaced stage (marks held.own w.queue) → KeepsPace v → KeepsPace w
moves-paced v w held stage found held_is others now k =
    apart_paced held.own v w (λ n apart. ap (find (has_own n)) held_is ∙ find-placed (staged held stage) v.held n apart) others
    (subst (λ (h : Option Held). FoundPaced h (marks held.own w.queue)) (sym (ap (find (has_own held.own)) held_is ∙ found-placed (staged held stage) held v.held found)) now) k

-- more of it waits
pub waits-paced : (v w : Channels) (held : Held) → At v held → w.held ≡ v.held → Others held.own v w → StagePaced held.stage (marks held.own w.queue) → KeepsPace v → KeepsPace w
waits-paced v w held found held_is others now k =
    apart_paced held.own v w (λ n apart. ap (find (has_own n)) held_is) others
    (subst (λ (h : Option Held). FoundPaced h (marks held.own w.queue)) (sym (ap (find (has_own held.own)) held_is ∙ found)) now) k

pub drops-paced : (v w : Channels) (held : Held) → w.held ≡ filter (λ other. not (eqb other.own held.own)) v.held → Others held.own v w → KeepsPace v → KeepsPace w
drops-paced v w held held_is others k =
    apart_paced held.own v w (λ n apart. ap (find (has_own n)) held_is ∙ find-others own_of held.own n v.held apart) others
    (subst (λ (h : Option Held). FoundPaced h (marks held.own w.queue)) (sym (ap (find (has_own held.own)) held_is ∙ find-gone own_of held.own v.held)) tt) k

-- nothing is there to be asked
pub none-paced : (own : ℕ) (v w : Channels) → held_at own w ≡ None → w.held ≡ v.held → Others own v w → KeepsPace v → KeepsPace w
none-paced own v w none held_is others k =
    apart_paced own v w (λ n apart. ap (find (has_own n)) held_is) others (subst (λ (h : Option Held). FoundPaced h (marks own w.queue)) (sym none) tt) k

-- ---- options

-- other options, and the own request for them as it was
pub setup-paced : (stage : Stage) (before after : Setup) (ms : List Bool) → setup_of stage ≡ Some before → after.own ≡ before.own → StagePaced stage ms → StagePaced (stage_with after stage) ms
setup-paced (Requested request) before after ms is same now = tt
setup-paced (Connected peer setup) before after ms is same now = let one : setup ≡ before = cc in subst (λ (own : Own). Paced None own ms) (ap (λ (s : Setup). s.own) one ∙ sym same) now
setup-paced (Leaving peer setup request) before after ms is same now = let one : setup ≡ before = cc in subst (λ (own : Own). Paced (Some request) own ms) (ap (λ (s : Setup). s.own) one ∙ sym same) now
setup-paced (Closing peer request checked) before after ms is same now = tt
setup-paced (Crossed peer request) before after ms is same now = tt

-- it is accepted
pub granted-paced : (stage : Stage) (after : Setup) (ms : List Bool) → after.own ≡ Granted → StagePaced (stage_with after stage) ms
granted-paced (Requested request) after ms is = tt
granted-paced (Connected peer setup) after ms is = subst (λ (own : Own). Paced None own ms) (sym is) tt
granted-paced (Leaving peer setup request) after ms is = subst (λ (own : Own). Paced (Some request) own ms) (sym is) tt
granted-paced (Closing peer request checked) after ms is = tt
granted-paced (Crossed peer request) after ms is = tt

-- it is made already
pub never-unasked : (stage : Stage) (setup : Setup) (ms : List Bool) → setup_of stage ≡ Some setup → setup.own ≡ Unasked → StagePaced stage ms → ⊥
never-unasked (Requested request) setup ms is own now = cc
never-unasked (Connected peer s) setup ms is own now = let one : s ≡ setup = cc in subst (λ (o : Own). Paced None o ms) (ap (λ (x : Setup). x.own) one ∙ own) now
never-unasked (Leaving peer s request) setup ms is own now = let one : s ≡ setup = cc in subst (λ (o : Own). Paced (Some request) o ms) (ap (λ (x : Setup). x.own) one ∙ own) now
never-unasked (Closing peer request checked) setup ms is own now = cc
never-unasked (Crossed peer request) setup ms is own now = cc

-- ---- a copy waits more

pub more-options : (stage : Stage) (ms : List Bool) → StagePaced stage ms → StagePaced stage (ms ++ true ∷ [])
more-options (Requested request) ms now = tt
more-options (Connected peer setup) ms now = by setup.own now
  where
    by : (own : Own) → Paced None own ms → Paced None own (ms ++ true ∷ [])
    by Unasked never = never
    by (Asking request options) now = let more = ones-last ms true in omega (arith, more, now)
    by Granted now = tt
more-options (Leaving peer setup end) ms now = by setup.own now
  where
    by : (own : Own) → Paced (Some end) own ms → Paced (Some end) own (ms ++ true ∷ [])
    by Unasked never = never
    by (Asking request options) now = let more = ones-last ms true in let same = zeros-last ms true in let last = lag-last ms true in omega (arith, more, same, last, now)
    by Granted now = tt
more-options (Closing peer request checked) ms now = tt
more-options (Crossed peer request) ms now = tt

-- the end is asked for once more, behind the options
pub more-ends : (own : Own) (end : Request) (ms : List Bool) → zeros ms ≡ 0 → ((request : Request) (options : Options) → own ≡ Asking request options → 1 ≤ ones ms) → Paced (Some end) own ms → Paced (Some end) own (ms ++ false ∷ [])
more-ends Unasked end ms none due never = never
more-ends (Asking request options) end ms none due now =
    let more = ones-last ms false in
    let same = zeros-last ms false in
    let last = lag-last ms false in
    let all = lag-all ms none (due request options refl) in
    omega (arith, more, same, last, all, now)
more-ends Granted end ms none due now = tt

-- ---- a copy is given

given_most : (n : ℕ) → min (n + 1) 255 ≤ n + 1
given_most n = omega arith

own_options : (end : Option Request) (own : Own) (ms : List Bool) → Paced end own (true ∷ ms) → Paced end (own_given own) ms
own_options end Unasked ms never = never
own_options None (Asking request options) ms now = omega (arith, now)
own_options (Some end) (Asking request options) ms now = let first = lag-first true ms in let most = lag-most ms in omega (arith, first, most, now)
own_options end Granted ms now = tt

own_end : (end : Request) (own : Own) (ms : List Bool) → Paced (Some end) own (false ∷ ms) → Paced (Some (one_more end)) own ms
own_end end Unasked ms never = never
own_end end (Asking request options) ms now = let first = lag-first false ms in omega (arith, first, now)
own_end end Granted ms now = tt

own_other : (own : Own) (ms : List Bool) → Paced None own (false ∷ ms) → Paced None own ms
own_other Unasked ms never = never
own_other (Asking request options) ms now = omega (arith, now)
own_other Granted ms now = tt

pub options-given : (stage : Stage) (ms : List Bool) → StagePaced stage (true ∷ ms) → StagePaced (configuration_given stage) ms
options-given (Requested request) ms now = tt
options-given (Connected peer setup) ms now = own_options None setup.own ms now
options-given (Leaving peer setup request) ms now = own_options (Some request) setup.own ms now
options-given (Closing peer request checked) ms now = tt
options-given (Crossed peer request) ms now = tt

pub end-given : (stage : Stage) (ms : List Bool) → StagePaced stage (false ∷ ms) → StagePaced (disconnection_given stage) ms
end-given (Requested request) ms now = tt
end-given (Connected peer setup) ms now = own_other setup.own ms now
end-given (Leaving peer setup request) ms now = own_end request setup.own ms now
end-given (Closing peer request checked) ms now = tt
end-given (Crossed peer request) ms now = tt

pub call-given : (stage : Stage) (ms : List Bool) → StagePaced stage ms → StagePaced (connection_given stage) ms
call-given (Requested request) ms now = tt
call-given (Connected peer setup) ms now = now
call-given (Leaving peer setup request) ms now = now
call-given (Closing peer request checked) ms now = tt
call-given (Crossed peer request) ms now = tt
