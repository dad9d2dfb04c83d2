-- A listener hears the rest of a stream behind its front.
use Rattle.std.proofs.Common.{◌≡◌, ℕ, ◌-◌, ◌<◌, ◌≤◌, false, List, [], ◌++◌, length, take, drop, Option, Some, None, Ok, sym, subst, arith, length-append}
use Rattle.std.proofs.lemmas.List.{length-drop, take_rest}
use Rattle.bt_base.specs.Objects.{Contents}
use Rattle.obex_session.specs.Counting.{Counts}
use Rattle.push_model.specs.Streams.{front_of}
use Rattle.push_model.specs.Listening.{Listener, hears_front, hears_stream}
use Rattle.push_profile.proofs.StreamSteps.{IsLeft, more_of, left_ends, left_on}
use Rattle.push_profile.specs.Reactions.{Comes}
use Rattle.push_profile.specs.Hearing.{ended, longest, goes_on}

-- nothing more is to be heard
pub left_ends_by : (total held piece after : List ℕ) (old now new : Listener) (c0 c1 c2 : Option Contents) (s0 s1 s2 : Counts) (next : Option ℕ) (left : IsLeft total (held ++ piece) old now c0 c1 s0 s1) → next ≡ None
    → Comes (hears_front (more_of left.steps) (held ++ piece) (front_of (longest now) (held ++ piece)) now) (goes_on (more_of left.steps) piece after new (Ok next)) c1 c2 s1 s2 false
    → Comes (hears_stream (length total) total old) (ended new after) c0 c2 s0 s2 false
left_ends_by total held piece after old now new c0 c1 c2 s0 s1 s2 next left none comes =
    left_ends total (held ++ piece) after old now new c0 c1 c2 s0 s1 s2 false left
    (subst (λ (o : Option ℕ). Comes (hears_front (more_of left.steps) (held ++ piece) (front_of (longest now) (held ++ piece)) now) (goes_on (more_of left.steps) piece after new (Ok o)) c1 c2 s1 s2 false) none comes)

-- what follows so many octets of the piece is to be heard, and nothing is held
pub left_behind : (total held piece after : List ℕ) (used : ℕ) (old now new : Listener) (c0 c1 c2 : Option Contents) (s0 s1 s2 : Counts) (next : Option ℕ) (left : IsLeft total (held ++ piece) old now c0 c1 s0 s1) → next ≡ Some used
    → after ≡ [] → 0 < used → used ≤ length piece
    → Comes (hears_front (more_of left.steps) (held ++ piece) (front_of (longest now) (held ++ piece)) now) (goes_on (more_of left.steps) piece after new (Ok next)) c1 c2 s1 s2 false
    → IsLeft total (after ++ take (length piece - used) (drop used piece)) old new c0 c2 s0 s2
left_behind total held piece after used old now new c0 c1 c2 s0 s1 s2 next left is none some within comes =
    let fewer_octets : length (drop used piece) < length (held ++ piece) = omega (arith, length-drop used piece, length-append held piece, some, within) in
    let on : Comes (hears_front (more_of left.steps) (held ++ piece) (front_of (longest now) (held ++ piece)) now) (more_of left.steps (drop used piece) new) c1 c2 s1 s2 false =
    subst (λ (o : Option ℕ). Comes (hears_front (more_of left.steps) (held ++ piece) (front_of (longest now) (held ++ piece)) now) (goes_on (more_of left.steps) piece after new (Ok o)) c1 c2 s1 s2 false) is comes in
    subst (λ (x : List ℕ). IsLeft total (x ++ take (length piece - used) (drop used piece)) old new c0 c2 s0 s2) (sym none)
    (subst (λ (x : List ℕ). IsLeft total x old new c0 c2 s0 s2) (sym (take_rest piece used)) (left_on total (held ++ piece) (drop used piece) old now new c0 c1 c2 s0 s1 s2 left fewer_octets on))
