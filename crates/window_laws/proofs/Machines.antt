-- A machine stands for numbers that never wrap, whatever happens to it.
use Rattle.std.proofs.Common.{◌≡◌, ℕ, ◌+◌, ◌%◌, ◌≤◌, ◌<◌, max, List, [], ◌∷◌, ◌++◌, length, Bool, true, false, cond, Option, Some, None, Ok, Err, inl, inr, refl, sym, ap, subst, ◌∙◌, arith}
use Rattle.std.specs.Prelude.{◌==◌}
use Rattle.std.proofs.lemmas.Bool.{eqb-true, eq-eqb}
use Rattle.std.proofs.lemmas.Bool.Decides.{leb_tells}
use Rattle.own_channel_laws.specs.talk_laws.specs.l2cap_config.specs.declared.wish.Agreed.{Agreed}
use Rattle.own_channel_laws.specs.talk_laws.specs.ertm_frames.specs.Answers.{Answer}
use Rattle.own_channel_laws.specs.talk_laws.specs.ertm_frames.specs.Frames.{PlainFrame, information, supervisory}
use Rattle.own_channel_laws.specs.talk_laws.specs.ertm_frames.specs.Picking.{Out, In, req_of}
use Rattle.own_channel_laws.specs.talk_laws.specs.ertm_frames.specs.Reading.{answer_in}
use Rattle.own_channel_laws.specs.talk_laws.specs.ertm_frames.specs.Segments.{Segment}
use Rattle.own_channel_laws.specs.talk_laws.specs.link_talk.specs.Picks.{pick}
use Rattle.own_channel_laws.specs.channel_model.specs.ertm_model.specs.declared.reason.ErtmReason.{ErtmReason}
use Rattle.own_channel_laws.specs.channel_model.specs.ertm_model.specs.declared.reason.ErtmReason.TheVariants.{BadReqSeq}
use Rattle.own_channel_laws.specs.channel_model.specs.ertm_model.specs.Absolute.{StandsFor, GivesFrame, IsTaken, NumbersFit, accepted_after}
use Rattle.own_channel_laws.specs.channel_model.specs.ertm_model.specs.Giving.{Giving, giving, given_frame, frame_by, after_by, after_giving, next_frame, after_frame, closing, open_timed}
use Rattle.own_channel_laws.specs.channel_model.specs.ertm_model.specs.Hearing.{segment_of, fault, heard_by, open_heard, heard, refusal_fault, closed_by, refused}
use Rattle.own_channel_laws.specs.channel_model.specs.ertm_model.specs.Runs.{Event, Submits, Comes, Gives, Fires, Course, new_course, comes, given, happens, all_happen}
use Rattle.own_channel_laws.specs.channel_model.specs.ertm_model.specs.Submitting.{cut, is_busy, taking, submitted}
use Rattle.own_channel_laws.specs.channel_model.specs.ertm_model.specs.Value.{Ertm}
use Rattle.own_channel_laws.specs.channel_model.specs.ertm_model.proofs.Coursing.{answers_small, giving_keeps}
use Rattle.own_channel_laws.specs.channel_model.specs.ertm_model.proofs.Stepping.{gives-absolutely, hears-absolutely, others-stand}
use Rattle.own_channel_laws.proofs.Attending.{submits-aside, fires-aside}
use Rattle.own_channel_laws.proofs.HandedUp.{heard-agreed}
use Rattle.window_laws.specs.Numbers.{Numbers, numbers_after, numbers_of}
use Rattle.window_laws.specs.Windows.{number_from}
use Rattle.window_laws.specs.Machines.{MachinesAreNumbered}
use Rattle.window_laws.proofs.Numbers.{numbers-more, acknowledged-with}

-- ---- what holds while it is open

record Stood (agreed : Agreed) (m : Ertm) (numbers : Numbers) : Type 0 where
  same : m.agreed ≡ agreed
  put : List Segment
  stands : StandsFor m put numbers.acknowledged numbers.given numbers.accepted

abbrev Numbered : Agreed → Course → Type 0
Numbered agreed c = c.machine.closed ≡ None → Stood agreed c.machine (numbers_of c.passages)

-- ---- it takes an SDU, and its timer fires

submits_stood : (agreed : Agreed) (m : Ertm) (numbers : Numbers) (sdu : List ℕ) → Stood agreed m numbers → Stood agreed (submitted sdu m) numbers
submits_stood agreed m numbers sdu h = by (is_busy m) refl
  where
    by : (busy : Bool) → is_busy m ≡ busy → Stood agreed (submitted sdu m) numbers
    by true is = subst (λ (b : Bool). Stood agreed (cond b m (taking sdu m)) numbers) (sym is) h
    by false is = record {
      same = (submits-aside sdu m).agreed_same ∙ h.same;
      put = h.put ++ cut m.agreed.send_mps sdu;
      stands = others-stand.takes m h.put numbers.acknowledged numbers.given numbers.accepted sdu is h.stands;
    }

submits_closed : (m : Ertm) (sdu : List ℕ) (busy : Bool) → (cond busy m (taking sdu m)).closed ≡ m.closed
submits_closed m sdu true = refl
submits_closed m sdu false = refl

fires_open : (m : Ertm) (shut : Option ErtmReason) → m.closed ≡ shut → (open_timed shut m).closed ≡ None → m.closed ≡ None
fires_open m (Some reason) is still = still
fires_open m None is still = is

-- ---- it hears

-- a machine that is open once it heard a frame was open, and the frame did not close it
open_of : (frame : PlainFrame) (m : Ertm) (shut : Option ErtmReason) → m.closed ≡ shut → (open_heard shut frame m).closed ≡ None → (m.closed ≡ None) × (fault frame m ≡ None)
open_of frame m (Some reason) is still = cc
open_of frame m None is still = by (fault frame m) refl still
  where
    by : (cause : Option ErtmReason) → fault frame m ≡ cause → (heard_by cause frame m).closed ≡ None → (m.closed ≡ None) × (fault frame m ≡ None)
    by (Some cause) why still = cc
    by None why still = (is, why)

req_fits : (frame : PlainFrame) → NumbersFit frame → req_of frame < 64
req_fits (information tx final req sar total octets) fits = fits.1
req_fits (supervisory kind poll final req) fits = fits

-- the expected I-frame is accepted
accepted_more : (c : ℕ) (frame : PlainFrame) → accepted_after c frame ≡ c + length (pick c frame)
accepted_more c (information tx final req sar total octets) = by (tx == c % 64)
  where
    by : (next : Bool) → cond next (c + 1) c ≡ c + length (cond next (segment_of sar total octets ∷ []) [])
    by true = refl
    by false = omega arith
accepted_more c (supervisory kind poll final req) = omega arith

-- so its ReqSeq was that of a number
hears_stood : (agreed : Agreed) (m : Ertm) (numbers : Numbers) (frame : PlainFrame) → agreed.send_window ≤ 63 → NumbersFit frame → (heard frame m).closed ≡ None → (m.closed ≡ None → Stood agreed m numbers)
    → Stood agreed (heard frame m) (numbers_after numbers (In frame))
hears_stood agreed m numbers frame small fits still was =
    let (open_, harmless) = open_of frame m m.closed refl still in
    let h = was open_ in
    let few = ap (λ (g : Agreed). g.send_window) h.same in
    let hears = hears-absolutely m h.put a n numbers.accepted frame (omega (arith, few, small)) open_ fits h.stands in
    record {
      same = heard-agreed (Ok frame) m ∙ h.same;
      put = h.put;
      stands = acknowledged-with (λ (k : ℕ). StandsFor (heard frame m) h.put k n (numbers.accepted + length (pick numbers.accepted frame))) a n x
          (λ le. subst (λ (c : ℕ). StandsFor (heard frame m) h.put x n c) (accepted_more numbers.accepted frame) (hears.goes x (taken le) harmless))
          (λ lt. let shut : heard frame m ≡ closing BadReqSeq m = hears.none (λ y t. refused y t lt) in absurd (never (ap (λ (e : Ertm). e.closed) shut)));
    }
  where
    a : ℕ
    a = numbers.acknowledged

    n : ℕ
    n = numbers.given

    x : ℕ
    x = number_from a (req_of frame)

    taken : x ≤ n → IsTaken a n (req_of frame) x
    taken le = let low = req_fits frame fits in record { low = omega arith; high = le; is = omega (arith, low) }

    refused : (y : ℕ) → IsTaken a n (req_of frame) y → n < x → ⊥
    refused y t lt = let low = t.low in let high = t.high in let is = t.is in omega (arith, low, high, is, lt)

    never : (heard frame m).closed ≡ Some BadReqSeq → ⊥
    never is = cc

abbrev Fits : Answer → Type 0
Fits (Ok frame) = NumbersFit frame
Fits (Err refusal) = Unit {0}

-- a PDU that is no frame closes it or leaves it as it is
refused_same : (m : Ertm) (now cause : Option ErtmReason) → (closed_by now cause m).closed ≡ None → closed_by now cause m ≡ m
refused_same m (Some reason) cause still = refl
refused_same m None None still = refl
refused_same m None (Some cause) still = cc

comes_numbered : (agreed : Agreed) (found : Answer) (c : Course) → agreed.send_window ≤ 63 → Fits found → Numbered agreed c → Numbered agreed (comes found c)
comes_numbered agreed (Ok frame) c small fits was = λ still.
    subst (Stood agreed (heard frame c.machine)) (sym (numbers-more c.passages (In frame))) (hears_stood agreed c.machine (numbers_of c.passages) frame small fits still was)
comes_numbered agreed (Err refusal) c small fits was = λ still.
    let same : refused refusal c.machine ≡ c.machine = refused_same c.machine c.machine.closed (refusal_fault refusal) still in
    subst (λ (m : Ertm). Stood agreed m (numbers_of c.passages)) (sym same) (was (sym (ap (λ (m : Ertm). m.closed) same) ∙ still))

-- ---- it gives its next frame

-- the next new I-frame has the number that is next, and none that it gives once more has
gave : (m : Ertm) (put : List Segment) (a n c : ℕ) (frame : PlainFrame) → n ≤ a + 63 → GivesFrame m put a n c frame → StandsFor (after_frame m) put a (n + length (pick n frame)) c
gave m put a n c (information tx final req sar total octets) few (number, low, high, below, at, tx_is, stands) = by (tx == n % 64) refl
  where
    as_many : (k : ℕ) → max n (number + 1) ≡ k → StandsFor (after_frame m) put a k c
    as_many k is = subst (λ (i : ℕ). StandsFor (after_frame m) put a i c) is stands

    by : (new : Bool) → (tx == n % 64) ≡ new → StandsFor (after_frame m) put a (n + length (cond new (segment_of sar total octets ∷ []) [])) c
    by true is = let same = eqb-true tx (n % 64) is in as_many (n + 1) (omega (arith, same, tx_is, low, high, few))
    by false is =
        elim (leb_tells n number) [
          | inl (e, le) ↦ absurd (again (omega (arith, le, high)))
          | inr (e, lt) ↦ as_many (n + 0) (omega (arith, lt))
        ]
      where
        again : number ≡ n → ⊥
        again same = let yes : (tx == n % 64) ≡ true = eq-eqb tx (n % 64) (tx_is ∙ ap (λ (i : ℕ). i % 64) same) in let never : false ≡ true = sym is ∙ yes in cc
gave m put a n c (supervisory kind poll final req) few stands = let none : n ≡ n + 0 = omega arith in subst (λ (i : ℕ). StandsFor (after_frame m) put a i c) none stands

gives_numbered : (agreed : Agreed) (c : Course) (found : Option Giving) → agreed.send_window ≤ 63 → giving c.machine ≡ found → Numbered agreed c → Numbered agreed (given found c)
gives_numbered agreed c None small is was = was
gives_numbered agreed c (Some g) small is was = λ still.
    let keeps = giving_keeps m g in
    let h = was (sym keeps.1 ∙ still) in
    let window = ap (λ (x : Agreed). x.send_window) h.same in
    let held = h.stands.sends.in_window in
    let all = h.stands.n_is in
    let next : next_frame m ≡ Some frame = ap (λ (o : Option Giving). frame_by o m) is in
    let after : after_frame m ≡ after_giving g m = ap (λ (o : Option Giving). after_by o m) is in
    subst (Stood agreed (after_giving g m)) (sym (numbers-more c.passages (Out frame))) (record {
      same = keeps.0 ∙ h.same;
      put = h.put;
      stands = subst (λ (x : Ertm). StandsFor x h.put a (n + length (pick n frame)) c_now) after
          (gave m h.put a n c_now frame (omega (arith, window, held, all, small)) (gives-absolutely m h.put a n c_now frame h.stands next));
    })
  where
    m : Ertm
    m = c.machine

    frame : PlainFrame
    frame = given_frame g m

    a : ℕ
    a = (numbers_of c.passages).acknowledged

    n : ℕ
    n = (numbers_of c.passages).given

    c_now : ℕ
    c_now = (numbers_of c.passages).accepted

-- ---- whatever happens

happens_numbered : (agreed : Agreed) (event : Event) (c : Course) → agreed.send_window ≤ 63 → Numbered agreed c → Numbered agreed (happens event c)
happens_numbered agreed (Submits sdu) c small was = λ still. submits_stood agreed c.machine (numbers_of c.passages) sdu (was (sym (submits_closed c.machine sdu (is_busy c.machine)) ∙ still))
happens_numbered agreed (Comes pdu) c small was = comes_numbered agreed (answer_in c.machine.agreed.receive_mps pdu) c small (answers_small c.machine.agreed.receive_mps pdu) was
happens_numbered agreed Gives c small was = gives_numbered agreed c (giving c.machine) small refl was
happens_numbered agreed Fires c small was = λ still.
    let h = was (fires_open c.machine c.machine.closed refl still) in
    record {
      same = (fires-aside c.machine still).agreed_same ∙ h.same;
      put = h.put;
      stands = others-stand.fires c.machine h.put (numbers_of c.passages).acknowledged (numbers_of c.passages).given (numbers_of c.passages).accepted h.stands;
    }

all_numbered : (agreed : Agreed) (events : List Event) (c : Course) → agreed.send_window ≤ 63 → Numbered agreed c → Numbered agreed (all_happen events c)
all_numbered agreed [] c small was = was
all_numbered agreed (event ∷ events) c small was = all_numbered agreed events (happens event c) small (happens_numbered agreed event c small was)

pub machines-are_numbered : MachinesAreNumbered
machines-are_numbered agreed events small still =
    let h = all_numbered agreed events (new_course agreed) small (λ open_. record { same = refl; put = []; stands = others-stand.new agreed }) still in
    let window = ap (λ (x : Agreed). x.send_window) h.same in
    let held = h.stands.sends.in_window in
    record { used = h.stands.n_is; within = omega (arith, window, held); first_is = h.stands.sends.first_is; expected_is = h.stands.c_is }
