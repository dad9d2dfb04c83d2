-- Opening, frame by frame: one frame goes at a time, until the user channel is agreed to.
use Rattle.std.proofs.Common.{arith, ◌≡◌, ◌<◌, ◌≤◌, ℕ, ◌==◌, ◌+◌, ◌%◌, ◌^◌, Bool, true, false, ◌&&◌, cond, List, [], ◌∷◌, None, Ok, refl, sym, ap, subst, ◌∙◌}
use Rattle.std.specs.Prelude.{nat_lt, nat_le}
use Rattle.std.proofs.lemmas.Bool.{eq-eqb, ne_eqb, le-ltb, leb-true}
use Rattle.rfcomm_frames.specs.declared.frame.MuxKind.TheVariants.{Sabm, Ua}
use Rattle.rfcomm_frames.specs.declared.connection.Role.TheVariants.{Initiator, Responder}
use Rattle.rfcomm_frames.specs.declared.connection.Dlc.{Dlc}
use Rattle.rfcomm_frames.specs.declared.connection.Dlc.TheVariants.{Idle, Asked, Open}
use Rattle.rfcomm_frames.specs.Frames.{PlainFrame}
use Rattle.rfcomm_frames.specs.Controls.{PlainControl, pn}
use Rattle.rfcomm_frames.specs.FrameReading.{MessageAnswer}
use Rattle.rfcomm_model.specs.declared.state.Command.TheVariants.{OpenControl, Agree, OpenUser, Signal}
use Rattle.rfcomm_model.specs.declared.state.Asks.TheVariants.{Due, Awaited}
use Rattle.rfcomm_model.specs.declared.state.Readiness.TheVariants.{Neither}
use Rattle.rfcomm_model.specs.Machine.{Mux, new_mux, first_credits, is_ready}
use Rattle.rfcomm_model.specs.Written.{command_frame, response_frame, control_frame}
use Rattle.rfcomm_model.specs.Hearing.{lesser, hears_answer, hears_messages, hears_offer, hears_acceptance, hears_other_offer, opens_control, says_dm, news}
use Rattle.rfcomm_model.specs.Sides.{handed}
use Rattle.rfcomm_laws.specs.Pairs.{End, Speak, Give, Deliver, Pair, Turn, ByInitiator, ByResponder, turn, all_turns, Terms, new_pair, Pipes, PairsArePipes}
use Rattle.rfcomm_laws.proofs.Opening.{pn_read}
use Rattle.rfcomm_laws.proofs.Running.{Body, due}
use Rattle.rfcomm_laws.proofs.Joining.{Tally, Runs, runs_on, runs_pipe}

-- ---- the sides, stage by stage

abbrev first_i : Terms → Mux
first_i t = new_mux Initiator t.dlci t.own t.own t.cap

abbrev first_r : Terms → Mux
first_r t = new_mux Responder t.dlci t.own_peer t.own_peer t.cap_peer

abbrev frame_r : Terms → ℕ
frame_r t = lesser t.own_peer t.own

abbrev pub offer : Terms → PlainControl
offer t = pn true t.dlci 0xF0 0 0 t.own 0 (first_credits t.cap)

abbrev pub acceptance : Terms → PlainControl
acceptance t = pn false t.dlci 0xE0 0 0 (frame_r t) 0 (first_credits t.cap_peer)

abbrev i_asks : Terms → Mux
i_asks t = record (first_i t) { control = Asked; asks = Awaited OpenControl }

abbrev i_open : Terms → Mux
i_open t = record (first_i t) { control = Open; asks = Due Agree }

abbrev i_offers : Terms → Mux
i_offers t = record (i_open t) { asks = Awaited Agree; stated = true }

abbrev i_agreed : Terms → Mux
i_agreed t = record (i_offers t) { frame = lesser t.own (frame_r t); agreed = true; asks = Due OpenUser; account = record { cap = t.cap; held = 0 + first_credits t.cap_peer % 8; peer = first_credits t.cap } }

abbrev i_wants : Terms → Mux
i_wants t = record (i_agreed t) { user = Asked; asks = Awaited OpenUser }

abbrev r_asked : Terms → Mux
r_asked t = record (first_r t) { control = Asked; answers = response_frame Responder Ua 0 ∷ [] }

abbrev r_open : Terms → Mux
r_open t = record (first_r t) { control = Open }

abbrev r_agrees : Terms → Mux
r_agrees t = record (r_open t) { frame = frame_r t; agreed = true; stated = true; answers = control_frame Responder (acceptance t) ∷ []; account = record { cap = t.cap_peer; held = 0 + first_credits t.cap % 8; peer = first_credits t.cap_peer } }

abbrev r_agreed : Terms → Mux
r_agreed t = record (r_agrees t) { answers = [] }

abbrev r_wanted : Terms → Mux
r_wanted t = record (r_agreed t) { user = Asked; asks = Due Signal; answers = response_frame Responder Ua t.dlci ∷ [] }

pub data Stage : Type 0 where
  fresh : Stage
  asking_control : Stage
  control_asked : Stage
  control_agreed : Stage
  control_open : Stage
  offering : Stage
  offered : Stage
  accepting : Stage
  accepted : Stage
  asking_user : Stage
  user_asked : Stage

abbrev side : Mux → List PlainFrame → End
side m queue = record { mux = m; queue = queue; put = []; got = [] }

abbrev both : Mux → List PlainFrame → Mux → List PlainFrame → Pair
both i to_r r to_i = record { initiator = side i to_r; responder = side r to_i }

abbrev pub stage : Terms → Stage → Pair
stage t fresh = both (first_i t) [] (first_r t) []
stage t asking_control = both (i_asks t) (command_frame Initiator Sabm 0 ∷ []) (first_r t) []
stage t control_asked = both (i_asks t) [] (r_asked t) []
stage t control_agreed = both (i_asks t) [] (r_open t) (response_frame Responder Ua 0 ∷ [])
stage t control_open = both (i_open t) [] (r_open t) []
stage t offering = both (i_offers t) (control_frame Initiator (offer t) ∷ []) (r_open t) []
stage t offered = both (i_offers t) [] (r_agrees t) []
stage t accepting = both (i_offers t) [] (r_agreed t) (control_frame Responder (acceptance t) ∷ [])
stage t accepted = both (i_agreed t) [] (r_agreed t) []
stage t asking_user = both (i_wants t) (command_frame Initiator Sabm t.dlci ∷ []) (r_agreed t) []
stage t user_asked = both (i_wants t) [] (r_wanted t) []

-- where it has come to
pub data Good (t : Terms) (p : Pair) : Type 0 where
  opens : (s : Stage) → p ≡ stage t s → Good t p
  runs : Runs t.dlci p → Good t p

module _ (t : Terms) where
  zero_not : (0 == t.dlci) ≡ false
  zero_not = let some = t.some in ne_eqb 0 t.dlci (λ e. omega arith)

  not_zero : (t.dlci == 0) ≡ false
  not_zero = let some = t.some in ne_eqb t.dlci 0 (λ e. omega arith)

  same : (t.dlci == t.dlci) ≡ true
  same = eq-eqb t.dlci t.dlci refl

  low : (t.dlci % 64 == t.dlci) ≡ true
  low = let few = t.few in eq-eqb (t.dlci % 64) t.dlci (omega arith)

  open_pair : (p : Pair) (s : Stage) → p ≡ stage t s → Good t p
  open_pair p s is = opens s is

  -- an own frame on the control channel leaves the user channel, and the other way round
  asks_control : (c : Dlc) → cond (0 == t.dlci) c Idle ≡ Idle
  asks_control c = ap (λ (b : Bool). cond b c Idle) zero_not

  step_fresh : (m : Turn) → Good t (turn m (stage t fresh))
  step_fresh (ByInitiator Speak) =
      opens asking_control (ap (λ (dlc : Dlc). both (record (i_asks t) { user = dlc }) (command_frame Initiator Sabm 0 ∷ []) (first_r t) []) (asks_control Asked))
  step_fresh (ByInitiator (Give octets)) = opens fresh refl
  step_fresh (ByInitiator Deliver) = opens fresh refl
  step_fresh (ByResponder Speak) = opens fresh refl
  step_fresh (ByResponder (Give octets)) = opens fresh refl
  step_fresh (ByResponder Deliver) = opens fresh refl

  step_asking_control : (m : Turn) → Good t (turn m (stage t asking_control))
  step_asking_control (ByInitiator Speak) = opens asking_control refl
  step_asking_control (ByInitiator (Give octets)) = opens asking_control refl
  step_asking_control (ByInitiator Deliver) = opens control_asked refl
  step_asking_control (ByResponder Speak) = opens asking_control refl
  step_asking_control (ByResponder (Give octets)) = opens asking_control refl
  step_asking_control (ByResponder Deliver) = opens asking_control refl

  step_control_asked : (m : Turn) → Good t (turn m (stage t control_asked))
  step_control_asked (ByInitiator Speak) = opens control_asked refl
  step_control_asked (ByInitiator (Give octets)) = opens control_asked refl
  step_control_asked (ByInitiator Deliver) = opens control_asked refl
  step_control_asked (ByResponder Speak) =
      opens control_agreed (ap (λ (dlc : Dlc). both (i_asks t) [] (record (r_open t) { user = dlc }) (response_frame Responder Ua 0 ∷ [])) (asks_control Idle))
  step_control_asked (ByResponder (Give octets)) = opens control_asked refl
  step_control_asked (ByResponder Deliver) = opens control_asked refl

  step_control_agreed : (m : Turn) → Good t (turn m (stage t control_agreed))
  step_control_agreed (ByInitiator Speak) = opens control_agreed refl
  step_control_agreed (ByInitiator (Give octets)) = opens control_agreed refl
  step_control_agreed (ByInitiator Deliver) = opens control_agreed refl
  step_control_agreed (ByResponder Speak) = opens control_agreed refl
  step_control_agreed (ByResponder (Give octets)) = opens control_agreed refl
  step_control_agreed (ByResponder Deliver) = opens control_open refl

  step_control_open : (m : Turn) → Good t (turn m (stage t control_open))
  step_control_open (ByInitiator Speak) =
      opens offering (ap (λ (dlc : Dlc). both (record (i_offers t) { user = dlc }) (control_frame Initiator (offer t) ∷ []) (r_open t) []) (asks_control Idle))
  step_control_open (ByInitiator (Give octets)) = opens control_open refl
  step_control_open (ByInitiator Deliver) = opens control_open refl
  step_control_open (ByResponder Speak) = opens control_open refl
  step_control_open (ByResponder (Give octets)) = opens control_open refl
  step_control_open (ByResponder Deliver) = opens control_open refl

  -- ---- terms

  first_small : (cap : ℕ) → first_credits cap ≤ 7
  first_small cap = first_if cap (nat_le cap 7) refl
    where
      first_if : (c : ℕ) (b : Bool) → nat_le c 7 ≡ b → cond b c 7 ≤ 7
      first_if c true is = leb-true c 7 is
      first_if c false is = omega arith

  least_frame : 23 ≤ frame_r t
  least_frame = lesser_if t.own_peer t.own (nat_le t.own_peer t.own) t.least_peer t.least
    where
      lesser_if : (a b : ℕ) (c : Bool) → 23 ≤ a → 23 ≤ b → 23 ≤ cond c a b
      lesser_if a b true p q = p
      lesser_if a b false p q = q

  most_frame : frame_r t < 2 ^ 16
  most_frame = lesser_if t.own_peer t.own (nat_le t.own_peer t.own) t.most_peer t.most
    where
      lesser_if : (a b : ℕ) (c : Bool) → a < 2 ^ 16 → b < 2 ^ 16 → cond c a b < 2 ^ 16
      lesser_if a b true p q = p
      lesser_if a b false p q = q

  few_first : (cap : ℕ) → nat_lt 65535 (0 + first_credits cap % 8) ≡ false
  few_first cap = le-ltb 65535 (0 + first_credits cap % 8) (omega arith)

  offer_heard : hears_answer (Ok (control_frame Initiator (offer t))) (r_open t) ≡ r_agrees t
  offer_heard =
      ap (λ (list : List MessageAnswer). hears_messages list (r_open t)) (pn_read true t.dlci 0xF0 0 0 t.own 0 (first_credits t.cap) t.most)
      ∙ ap (λ (b : Bool). cond b (hears_offer 0xF0 0 t.own (first_credits t.cap) (r_open t)) (hears_other_offer true (t.dlci % 64) t.own (r_open t))) low
      ∙ rw (le-ltb t.own 23 t.least, few_first t.cap) refl

  acceptance_heard : hears_answer (Ok (control_frame Responder (acceptance t))) (i_offers t) ≡ i_agreed t
  acceptance_heard =
      ap (λ (list : List MessageAnswer). hears_messages list (i_offers t)) (pn_read false t.dlci 0xE0 0 0 (frame_r t) 0 (first_credits t.cap_peer) most_frame)
      ∙ ap (λ (b : Bool). cond b (hears_acceptance 0xE0 (frame_r t) (first_credits t.cap_peer) (i_offers t)) (hears_other_offer false (t.dlci % 64) (frame_r t) (i_offers t))) low
      ∙ rw (le-ltb (frame_r t) 23 least_frame, few_first t.cap_peer) refl

  -- a side that hears a message that hands nothing up
  abbrev heard : Mux → End
  heard x = record { mux = x; queue = []; put = []; got = handed (news None x.closed (is_ready x && true) []) }

  step_offering : (m : Turn) → Good t (turn m (stage t offering))
  step_offering (ByInitiator Speak) = opens offering refl
  step_offering (ByInitiator (Give octets)) = opens offering refl
  step_offering (ByInitiator Deliver) = opens offered (ap (λ (x : Mux). let p : Pair = record { initiator = side (i_offers t) []; responder = heard x } in p) offer_heard)
  step_offering (ByResponder Speak) = opens offering refl
  step_offering (ByResponder (Give octets)) = opens offering refl
  step_offering (ByResponder Deliver) = opens offering refl

  step_offered : (m : Turn) → Good t (turn m (stage t offered))
  step_offered (ByInitiator Speak) = opens offered refl
  step_offered (ByInitiator (Give octets)) = opens offered refl
  step_offered (ByInitiator Deliver) = opens offered refl
  step_offered (ByResponder Speak) =
      opens accepting (ap (λ (dlc : Dlc). both (i_offers t) [] (record (r_agreed t) { user = dlc }) (control_frame Responder (acceptance t) ∷ [])) (asks_control Idle))
  step_offered (ByResponder (Give octets)) = opens offered refl
  step_offered (ByResponder Deliver) = opens offered refl

  step_accepting : (m : Turn) → Good t (turn m (stage t accepting))
  step_accepting (ByInitiator Speak) = opens accepting refl
  step_accepting (ByInitiator (Give octets)) = opens accepting refl
  step_accepting (ByInitiator Deliver) = opens accepting refl
  step_accepting (ByResponder Speak) = opens accepting refl
  step_accepting (ByResponder (Give octets)) = opens accepting refl
  step_accepting (ByResponder Deliver) = opens accepted (ap (λ (x : Mux). let p : Pair = record { initiator = heard x; responder = side (r_agreed t) [] } in p) acceptance_heard)

  -- ---- the user channel

  step_accepted : (m : Turn) → Good t (turn m (stage t accepted))
  step_accepted (ByInitiator Speak) =
      opens asking_user
      (ap (λ (b : Bool). both (record (i_wants t) { control = cond b Open Open; user = cond (t.dlci == t.dlci) Asked Idle }) (command_frame Initiator Sabm t.dlci ∷ []) (r_agreed t) []) not_zero
      ∙ ap (λ (b : Bool). both (record (i_wants t) { user = cond b Asked Idle }) (command_frame Initiator Sabm t.dlci ∷ []) (r_agreed t) []) same)
  step_accepted (ByInitiator (Give octets)) = opens accepted refl
  step_accepted (ByInitiator Deliver) = opens accepted refl
  step_accepted (ByResponder Speak) = opens accepted refl
  step_accepted (ByResponder (Give octets)) = opens accepted refl
  step_accepted (ByResponder Deliver) = opens accepted refl

  user_heard : hears_answer (Ok (command_frame Initiator Sabm t.dlci)) (r_agreed t) ≡ r_wanted t
  user_heard =
      ap (λ (b : Bool). cond b (opens_control (r_agreed t)) (cond (t.dlci == t.dlci) (r_wanted t) (says_dm t.dlci (r_agreed t)))) not_zero
      ∙ ap (λ (b : Bool). cond b (r_wanted t) (says_dm t.dlci (r_agreed t))) same

  step_asking_user : (m : Turn) → Good t (turn m (stage t asking_user))
  step_asking_user (ByInitiator Speak) = opens asking_user refl
  step_asking_user (ByInitiator (Give octets)) = opens asking_user refl
  step_asking_user (ByInitiator Deliver) = opens user_asked (ap (λ (x : Mux). let p : Pair = record { initiator = side (i_wants t) []; responder = heard x } in p) user_heard)
  step_asking_user (ByResponder Speak) = opens asking_user refl
  step_asking_user (ByResponder (Give octets)) = opens asking_user refl
  step_asking_user (ByResponder Deliver) = opens asking_user refl

  abbrev body_i : Body
  body_i = record {
    largest = t.own;
    own = t.own;
    frame = lesser t.own (frame_r t);
    agreed = true;
    stated = true;
    wish = due;
    ready = Neither;
    cap = t.cap;
    held = 0 + first_credits t.cap_peer % 8;
    peer = first_credits t.cap;
    answers = 0;
    waiting = [];
  }

  abbrev body_r : Body
  body_r = record {
    largest = t.own_peer;
    own = t.own_peer;
    frame = frame_r t;
    agreed = true;
    stated = true;
    wish = due;
    ready = Neither;
    cap = t.cap_peer;
    held = 0 + first_credits t.cap % 8;
    peer = first_credits t.cap_peer;
    answers = 0;
    waiting = [];
  }

  at_first : Tally false body_i body_r [] []
  at_first =
      let one = first_small t.cap in
      let two = first_small t.cap_peer in
      record {
        forth = omega arith;
        back = omega arith;
        few = omega arith;
        few_peer = omega arith;
        cap = t.cap_most;
        cap_peer = t.cap_peer_most;
        some = t.cap_least;
        some_peer = t.cap_peer_least;
        asked_forth = refl;
        asked_back = refl;
        own_forth = refl;
        own_back = refl;
        peer_forth = refl;
        peer_back = refl;
        early = λ e. refl;
      }

  step_user_asked : (m : Turn) → Good t (turn m (stage t user_asked))
  step_user_asked (ByInitiator Speak) = opens user_asked refl
  step_user_asked (ByInitiator (Give octets)) = opens user_asked refl
  step_user_asked (ByInitiator Deliver) = opens user_asked refl
  step_user_asked (ByResponder Speak) =
      runs
      (record {
        is_open = false;
        bi = body_i;
        br = body_r;
        xs = [];
        ys = [];
        pi = [];
        gi = [];
        pr = [];
        gr = [];
        is = ap (λ (b : Bool). both (i_wants t) [] (record (r_agreed t) { asks = Due Signal; control = cond b Open Open; user = cond (t.dlci == t.dlci) Open Asked }) (response_frame Responder Ua t.dlci ∷ [])) not_zero
            ∙ ap (λ (b : Bool). both (i_wants t) [] (record (r_agreed t) { asks = Due Signal; user = cond b Open Asked }) (response_frame Responder Ua t.dlci ∷ [])) same;
        tally = at_first;
        forth = refl;
        back = refl;
      })
  step_user_asked (ByResponder (Give octets)) = opens user_asked refl
  step_user_asked (ByResponder Deliver) = opens user_asked refl

  step : (s : Stage) (m : Turn) → Good t (turn m (stage t s))
  step fresh m = step_fresh m
  step asking_control m = step_asking_control m
  step control_asked m = step_control_asked m
  step control_agreed m = step_control_agreed m
  step control_open m = step_control_open m
  step offering m = step_offering m
  step offered m = step_offered m
  step accepting m = step_accepting m
  step accepted m = step_accepted m
  step asking_user m = step_asking_user m
  step user_asked m = step_user_asked m

  goes_on : (m : Turn) (p : Pair) → Good t p → Good t (turn m p)
  goes_on m p (opens s is) = subst (λ (q : Pair). Good t (turn m q)) (sym is) (step s m)
  goes_on m p (runs r) = runs (runs_on t.dlci t.some m p r)

  all_go_on : (ms : List Turn) (p : Pair) → Good t p → Good t (all_turns ms p)
  all_go_on [] p good = good
  all_go_on (m ∷ ms) p good = all_go_on ms (turn m p) (goes_on m p good)

  stage_pipes : (s : Stage) → Pipes (stage t s)
  stage_pipes fresh = record { initiator_stands = refl; responder_stands = refl; forth = ([], refl); back = ([], refl) }
  stage_pipes asking_control = record { initiator_stands = refl; responder_stands = refl; forth = ([], refl); back = ([], refl) }
  stage_pipes control_asked = record { initiator_stands = refl; responder_stands = refl; forth = ([], refl); back = ([], refl) }
  stage_pipes control_agreed = record { initiator_stands = refl; responder_stands = refl; forth = ([], refl); back = ([], refl) }
  stage_pipes control_open = record { initiator_stands = refl; responder_stands = refl; forth = ([], refl); back = ([], refl) }
  stage_pipes offering = record { initiator_stands = refl; responder_stands = refl; forth = ([], refl); back = ([], refl) }
  stage_pipes offered = record { initiator_stands = refl; responder_stands = refl; forth = ([], refl); back = ([], refl) }
  stage_pipes accepting = record { initiator_stands = refl; responder_stands = refl; forth = ([], refl); back = ([], refl) }
  stage_pipes accepted = record { initiator_stands = refl; responder_stands = refl; forth = ([], refl); back = ([], refl) }
  stage_pipes asking_user = record { initiator_stands = refl; responder_stands = refl; forth = ([], refl); back = ([], refl) }
  stage_pipes user_asked = record { initiator_stands = refl; responder_stands = refl; forth = ([], refl); back = ([], refl) }

  good_pipes : (p : Pair) → Good t p → Pipes p
  good_pipes p (opens s is) = subst Pipes (sym is) (stage_pipes s)
  good_pipes p (runs r) = runs_pipe t.dlci p r

pub all_good : (t : Terms) (ms : List Turn) → Good t (all_turns ms (new_pair t))
all_good t ms = all_go_on t ms (new_pair t) (opens fresh refl)

pub pairs-are_pipes : PairsArePipes
pairs-are_pipes t ms = good_pipes t (all_turns ms (new_pair t)) (all_good t ms)
