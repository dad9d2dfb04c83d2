-- What a server hears, lends and lets go of, put together.
use Rattle.std.proofs.Common.{arith, ◌≡◌, ◌≢◌, ℕ, ◌==◌, List, Bool, true, false, not, ◌&&◌, Option, Some, None, is_some, refl, sym, ap, subst, ◌∙◌, if◌then◌else◌}
use Rattle.bt_base.specs.Objects.{Contents}
use Rattle.bt_base.specs.declared.settings.Transport.TheVariants.{L2cap, Rfcomm}
use Rattle.push_model.specs.rfcomm_frames.specs.Frames.{PlainFrame}
use Rattle.push_model.specs.rfcomm_model.specs.Hearing.{up, hears}
use Rattle.push_model.specs.rfcomm_model.specs.Saying.{Said, next, after_said}
use Rattle.obex_session.specs.Counting.{Counts}
use Rattle.push_model.specs.Listening.{heeds}
use Rattle.push_model.specs.Sessions.{Gift}
use Rattle.push_model.specs.Server.{Server, Reacted, filled, said_on, breaks_now, left_by, leaves_with, framed_by, framed, remuxed, unanswered, unreplied, lets_go_on, lets_go_twice, link_down, closed_on, hears_search, hears_up, hears_on, search_psm, rfcomm_psm, object_psm, reacted_by}
use Rattle.push_rooms.specs.Frames.{said_frame}
use Rattle.push_profile.specs.Reactions.{Comes}
use Rattle.push_profile.specs.Serving.{reacted, has_failed, fails_now}
use Rattle.push_profile.proofs.StreamSteps.{comes_by, comes_as, comes_then, comes_at_once}

-- ---- the next frame

pub said_is : (said : Option Said) (s : Server) → record s { mux = after_said said s.mux; frame = said_frame said } ≡ said_on said s
said_is None s = refl
said_is (Some said) s = refl

stays_by : (frame : Option PlainFrame) (s : Server) → is_some frame ≡ true → framed_by frame s ≡ s
stays_by None s e = absurd (let f : false ≡ true = e in cc)
stays_by (Some frame) s e = refl

pub framed_stays : (s : Server) → is_some s.frame ≡ true → framed s ≡ s
framed_stays s e = stays_by s.frame s e

anew_by : (frame : Option PlainFrame) (s : Server) → is_some frame ≡ false → framed_by frame s ≡ leaves_with (next (filled s).mux) (filled s)
anew_by None s e = refl
anew_by (Some frame) s e = absurd (let f : true ≡ false = e in cc)

pub framed_anew : (s : Server) → is_some s.frame ≡ false → framed s ≡ leaves_with (next (filled s).mux) (filled s)
framed_anew s e = anew_by s.frame s e

pub says_one : (said : Option Said) (s : Server) → is_some (said_on said s).frame ≡ true → leaves_with said s ≡ said_on said s
says_one None s e = absurd (let f : false ≡ true = e in cc)
says_one (Some said) s e = refl

pub says_none : (said : Option Said) (s : Server) (breaks : Bool) → is_some (said_on said s).frame ≡ false → breaks_now (said_on said s) ≡ breaks
    → leaves_with said s ≡ (if breaks then left_by (said_on said s) else said_on said s)
says_none None s breaks e b = ap (λ (x : Bool). (if x then left_by (said_on None s) else said_on None s)) b
says_none (Some said) s breaks e b = absurd (let f : true ≡ false = e in cc)

-- ---- what is heard but for searches

abbrev hears_direct : ℕ → List ℕ → Server → Gift → Reacted
hears_direct psm sdu old gift = if psm == object_psm then reacted_by old (heeds L2cap sdu old.listener gift) else reacted old gift

abbrev hears_other : ℕ → List ℕ → Server → Gift → Reacted
hears_other psm sdu old gift = if psm == rfcomm_psm then hears_up (up sdu old.mux) (record old { mux = hears sdu old.mux }) gift else hears_direct psm sdu old gift

-- ---- the link

goes_twice : (mid : Server) (gift : Gift) → has_failed mid ≡ false → lets_go_twice (reacted mid gift) ≡ lets_go_on Rfcomm (remuxed (unreplied mid)) gift
goes_twice mid gift works = ap (λ (b : Bool). (if b then reacted mid gift else lets_go_on Rfcomm (remuxed (unreplied mid)) gift)) works

works_on : (old : Server) (gift : Gift) → has_failed old ≡ false → link_down old gift ≡ lets_go_twice (lets_go_on L2cap (unanswered old) gift)
works_on old gift works = ap (λ (b : Bool). (if b then (let r : Reacted = reacted old gift in r) else lets_go_twice (lets_go_on L2cap (unanswered old) gift))) works

pub fails_as : (old new : Server) (lacks : Bool) → has_failed old ≡ false → lacks ≡ has_failed new → fails_now old new ≡ lacks
fails_as old new lacks works fails = ap (λ (b : Bool). not b && has_failed new) works ∙ sym fails

-- the object over either transport is let go
pub link_parts : (old mid new : Server) (c0 c1 c2 : Option Contents) (s0 s1 s2 : Counts) (lacks : Bool) → has_failed old ≡ false → has_failed mid ≡ false → lacks ≡ has_failed new
    → Comes (lets_go_on L2cap (unanswered old)) (reacted mid) c0 c1 s0 s1 false → Comes (lets_go_on Rfcomm (remuxed (unreplied mid))) (reacted new) c1 c2 s1 s2 lacks
    → Comes (link_down old) (reacted new) c0 c2 s0 s2 (fails_now old new)
link_parts old mid new c0 c1 c2 s0 s1 s2 lacks works went fails first second =
    subst (λ (b : Bool). Comes (link_down old) (reacted new) c0 c2 s0 s2 b) (sym (fails_as old new lacks works fails))
    (comes_then _ _ _ c0 c1 c2 s0 s1 s2 false lacks
    (comes_as _ _ _ _ c0 c1 s0 s1 false (λ gift. works_on old gift works) (λ gift. goes_twice mid gift went) (comes_by lets_go_twice _ _ c0 c1 s0 s1 false first))
    second)

-- ---- an SDU

is_not : (n m : ℕ) → n ≢ m → (n == m) ≡ false
is_not n m differ = grind (arith, differ)

pub search_heard : (n psm : ℕ) (sdu : List ℕ) (old new : Server) (c : Option Contents) (s : Counts) → n ≡ psm → n ≡ search_psm → new ≡ hears_search sdu old
    → Comes (hears_on psm sdu old) (reacted new) c c s s false
search_heard n psm sdu old new c s is one done = comes_at_once _ _ c s (λ gift.
    ap (λ (b : Bool). (if b then reacted (hears_search sdu old) gift else hears_other psm sdu old gift)) (ap (λ (m : ℕ). m == search_psm) (sym is ∙ one))
    ∙ ap (λ (x : Server). reacted x gift) (sym done))

pub none_heard : (n psm : ℕ) (sdu : List ℕ) (old : Server) (c : Option Contents) (s : Counts) → n ≡ psm → n ≢ search_psm → n ≢ rfcomm_psm → n ≢ object_psm
    → Comes (hears_on psm sdu old) (reacted old) c c s s false
none_heard n psm sdu old c s is no_search no_rfcomm no_object = comes_at_once _ _ c s (λ gift.
    ap (λ (b : Bool). (if b then reacted (hears_search sdu old) gift else hears_other psm sdu old gift)) (ap (λ (m : ℕ). m == search_psm) (sym is) ∙ is_not n search_psm no_search)
    ∙ ap (λ (b : Bool). (if b then hears_up (up sdu old.mux) (record old { mux = hears sdu old.mux }) gift else hears_direct psm sdu old gift)) (ap (λ (m : ℕ). m == rfcomm_psm) (sym is) ∙ is_not n rfcomm_psm no_rfcomm)
    ∙ ap (λ (b : Bool). (if b then reacted_by old (heeds L2cap sdu old.listener gift) else reacted old gift)) (ap (λ (m : ℕ). m == object_psm) (sym is) ∙ is_not n object_psm no_object))

-- ---- a channel that was closed

abbrev closed_direct : ℕ → Server → Gift → Reacted
closed_direct psm old gift = if psm == object_psm then lets_go_on L2cap (unanswered old) gift else reacted old gift

abbrev closed_other : ℕ → Server → Gift → Reacted
closed_other psm old gift = if psm == rfcomm_psm then lets_go_on Rfcomm (remuxed old) gift else closed_direct psm old gift

pub none_closed : (n psm : ℕ) (old : Server) (c : Option Contents) (s : Counts) → n ≡ psm → n ≢ search_psm → n ≢ rfcomm_psm → n ≢ object_psm
    → Comes (closed_on psm old) (reacted old) c c s s false
none_closed n psm old c s is no_search no_rfcomm no_object = comes_at_once _ _ c s (λ gift.
    ap (λ (b : Bool). (if b then reacted (unreplied old) gift else closed_other psm old gift)) (ap (λ (m : ℕ). m == search_psm) (sym is) ∙ is_not n search_psm no_search)
    ∙ ap (λ (b : Bool). (if b then lets_go_on Rfcomm (remuxed old) gift else closed_direct psm old gift)) (ap (λ (m : ℕ). m == rfcomm_psm) (sym is) ∙ is_not n rfcomm_psm no_rfcomm)
    ∙ ap (λ (b : Bool). (if b then lets_go_on L2cap (unanswered old) gift else reacted old gift)) (ap (λ (m : ℕ). m == object_psm) (sym is) ∙ is_not n object_psm no_object))
