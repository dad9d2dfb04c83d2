-- The multiplexers of a client and a server, with the frames that are under way between them: two sides that keep the rules.
use Rattle.std.proofs.Common.{Bool, true, false, cond, ◌≡◌, ◌&&◌, ℕ, List, [], ◌∷◌, ◌++◌, length, take, drop, Option, Some, None, Ok, refl, sym, ap, subst, ◌∙◌, append-nil, append_assoc}
use Rattle.std.specs.Prelude.{not}
use Rattle.std.proofs.lemmas.List.{take-append-drop}
use Rattle.push_model.specs.rfcomm_frames.specs.Answers.{Answer}
use Rattle.push_model.specs.rfcomm_frames.specs.FrameReading.{frame_answer}
use Rattle.push_model.specs.rfcomm_frames.specs.Frames.{PlainFrame}
use Rattle.push_model.specs.rfcomm_frames.specs.declared.connection.Role.TheVariants.{Initiator, Responder}
use Rattle.push_model.specs.rfcomm_model.specs.ClosedSides.{IsOrderly}
use Rattle.push_model.specs.rfcomm_model.specs.Hearing.{hears, hears_answer, up, news, read_data}
use Rattle.push_model.specs.rfcomm_model.specs.Machine.{Mux, is_both, may_pass, is_ready, taken_count, sends, leaves}
use Rattle.push_model.specs.rfcomm_model.specs.Saying.{Said, next}
use Rattle.push_model.specs.rfcomm_model.specs.Sides.{AnswerFindsRoom, handed}
use Rattle.rfcomm_laws.specs.Happenings.{Moves, Closes, closing}
use Rattle.rfcomm_laws.specs.Links.{AreFrames}
use Rattle.rfcomm_laws.specs.Pairs.{End, Speak, Give, Deliver, spoken, taking, without_first, handed_by, hearing, Pair, ByInitiator, ByResponder, IsFront}
use Rattle.rfcomm_laws.specs.Rooms.{FirstFindsRoom}
use Rattle.rfcomm_laws.proofs.Rooms.{Tidy, tidy_step, tidy_room}
use Rattle.rfcomm_laws.proofs.Running.{both_true}
use Rattle.rfcomm_laws.proofs.Ways.{way_front}
use Rattle.push_laws.specs.Premises.{may_overtake}
use Rattle.push_laws.proofs.Orders.{Order, order_asked, order_replied, order_leaves, order_asks, order_replies, order_came, order_told, may_pass_over}

abbrev pub waiting : Option PlainFrame → List PlainFrame
waiting None = []
waiting (Some frame) = frame ∷ []

abbrev pub frames_said : Option Said → List PlainFrame
frames_said None = []
frames_said (Some said) = said.frame ∷ []

abbrev pub mux_said : Option Said → Mux → Mux
mux_said None mux = mux
mux_said (Some said) mux = said.after

abbrev pub frame_said : Option Said → Option PlainFrame
frame_said None = None
frame_said (Some said) = Some said.frame

-- the octets that the client was to send, those that the server's multiplexer handed up, those that the server was to send, and those that
-- the client's multiplexer handed up; and whether the server is to close its multiplexer
pub record Sums : Type 0 where
  pub asked : List ℕ
  pub got : List ℕ
  pub replied : List ℕ
  pub told : List ℕ
  pub breaks : Bool

abbrev pub no_sums : Sums
no_sums = record { asked = []; got = []; replied = []; told = []; breaks = false }

-- The client's multiplexer `own` sent these frames, of which these came to the server's; of the SDUs that went from there the
-- client's has not heard these, and one frame may wait for its channel. Of what they were to send they have not taken these rests yet.
pub record Coupled (own : Mux) (sent : List PlainFrame) (come unheard : List (List ℕ)) (mux : Mux) (frame : Option PlainFrame) (rest answer : List ℕ) (sums : Sums) : Type 0 where
  pub pair : Pair
  pub tidy : Tidy 18 pair
  pub own_is : pair.initiator.mux ≡ own
  pub mux_is : pair.responder.mux ≡ mux
  pub front : List PlainFrame
  pub come_are : AreFrames come front
  pub sent_is : sent ≡ front ++ pair.initiator.queue
  pub frames : List PlainFrame
  pub unheard_are : AreFrames unheard frames
  pub queue_is : pair.responder.queue ≡ frames ++ waiting frame
  pub asked_is : pair.initiator.put ++ rest ≡ sums.asked
  pub got_is : pair.responder.got ≡ sums.got
  pub replied_is : pair.responder.put ++ answer ≡ sums.replied
  pub told_is : pair.initiator.got ≡ sums.told
  pub order : sums.breaks ≡ false → Order own pair.initiator.queue mux pair.responder.queue

taken_rest : (put octets : List ℕ) (n : ℕ) → (put ++ take n octets) ++ drop n octets ≡ put ++ octets
taken_rest put octets n = append_assoc put (take n octets) (drop n octets) ∙ ap (λ (xs : List ℕ). put ++ xs) (take-append-drop n octets)

ready_passes : (m n : Mux) → m ≡ n → is_ready n ≡ true → may_pass m ≡ true
ready_passes m n is ready = subst (λ (x : Mux). may_pass x ≡ true) (sym is) (both_true (is_both n.ready) (may_pass n) ready).1

abbrev two : End → End → Pair
two i r = record { initiator = i; responder = r }

frames_more : (sdus : List (List ℕ)) (fs : List PlainFrame) (sdu : List ℕ) (f : PlainFrame) → AreFrames sdus fs → frame_answer sdu ≡ Ok f → AreFrames (sdus ++ sdu ∷ []) (fs ++ f ∷ [])
frames_more [] [] sdu f are is = (is, tt)
frames_more [] (g ∷ fs) sdu f are is = absurd are
frames_more (s ∷ sdus) [] sdu f are is = absurd are
frames_more (s ∷ sdus) (g ∷ fs) sdu f are is = (are.0, frames_more sdus fs sdu f are.1 is)

module _ (own : Mux) (sent : List PlainFrame) (come unheard : List (List ℕ)) (mux : Mux) (rest answer : List ℕ) (sums : Sums) where
  -- ---- the server

  pub server_gives : (frame : Option PlainFrame) → is_ready mux ≡ true → Coupled own sent come unheard mux frame rest answer sums → Coupled own sent come unheard (sends answer mux) frame rest (drop (taken_count (length answer) mux) answer) sums
  server_gives frame ready c =
      let i : End = c.pair.initiator in
      let r : End = c.pair.responder in
      record {
        pair = two i (taking answer r);
        tidy = subst (λ (b : Bool). Tidy 18 (two i (cond b (taking answer r) r))) (ready_passes r.mux mux c.mux_is ready) (tidy_step 18 (Moves (ByResponder (Give answer))) c.pair c.tidy);
        own_is = c.own_is;
        mux_is = ap (sends answer) c.mux_is;
        front = c.front;
        come_are = c.come_are;
        sent_is = c.sent_is;
        frames = c.frames;
        unheard_are = c.unheard_are;
        queue_is = c.queue_is;
        asked_is = c.asked_is;
        got_is = c.got_is;
        replied_is = ap (λ (m : Mux). (r.put ++ take (taken_count (length answer) m) answer) ++ drop (taken_count (length answer) mux) answer) c.mux_is ∙ taken_rest r.put answer (taken_count (length answer) mux) ∙ c.replied_is;
        told_is = c.told_is;
        order = λ e. order_replied own i.queue mux r.queue (c.order e) answer;
      }

  pub server_leaves : (frame : Option PlainFrame) → sums.breaks ≡ true → Coupled own sent come unheard mux frame rest answer sums → Coupled own sent come unheard (leaves mux) frame rest answer sums
  server_leaves frame broken c = record {
    pair = two c.pair.initiator (closing c.pair.responder);
    tidy = tidy_step 18 (Closes Responder) c.pair c.tidy;
    own_is = c.own_is;
    mux_is = ap leaves c.mux_is;
    front = c.front;
    come_are = c.come_are;
    sent_is = c.sent_is;
    frames = c.frames;
    unheard_are = c.unheard_are;
    queue_is = c.queue_is;
    asked_is = c.asked_is;
    got_is = c.got_is;
    replied_is = c.replied_is;
    told_is = c.told_is;
    order = λ e. absurd (let never : true ≡ false = sym broken ∙ e in cc);
  }

  pub server_says : (o : Option Said) → next mux ≡ o → Coupled own sent come unheard mux None rest answer sums → Coupled own sent come unheard (mux_said o mux) (frame_said o) rest answer sums
  server_says None is c = c
  server_says (Some said) is c =
      let i : End = c.pair.initiator in
      let r : End = c.pair.responder in
      record {
        pair = two i (spoken (Some said) r);
        tidy = subst (λ (o : Option Said). Tidy 18 (two i (spoken o r))) (ap next c.mux_is ∙ is) (tidy_step 18 (Moves (ByResponder Speak)) c.pair c.tidy);
        own_is = c.own_is;
        mux_is = refl;
        front = c.front;
        come_are = c.come_are;
        sent_is = c.sent_is;
        frames = c.frames;
        unheard_are = c.unheard_are;
        queue_is = ap (λ (fs : List PlainFrame). fs ++ said.frame ∷ []) (c.queue_is ∙ append-nil c.frames);
        asked_is = c.asked_is;
        got_is = c.got_is;
        replied_is = c.replied_is;
        told_is = c.told_is;
        order = λ e. order_replies own i.queue mux r.queue (c.order e) said is;
      }

  -- its frame goes
  pub server_sends : (f : PlainFrame) (sdu : List ℕ) → frame_answer sdu ≡ Ok f → Coupled own sent come unheard mux (Some f) rest answer sums → Coupled own sent come (unheard ++ sdu ∷ []) mux None rest answer sums
  server_sends f sdu is c = record {
    pair = c.pair;
    tidy = c.tidy;
    own_is = c.own_is;
    mux_is = c.mux_is;
    front = c.front;
    come_are = c.come_are;
    sent_is = c.sent_is;
    frames = c.frames ++ f ∷ [];
    unheard_are = frames_more unheard c.frames sdu f c.unheard_are is;
    queue_is = c.queue_is ∙ sym (append-nil (c.frames ++ f ∷ []));
    asked_is = c.asked_is;
    got_is = c.got_is;
    replied_is = c.replied_is;
    told_is = c.told_is;
    order = c.order;
  }

  -- ---- the client

  pub client_gives : (frame : Option PlainFrame) → is_ready own ≡ true → Coupled own sent come unheard mux frame rest answer sums → Coupled (sends rest own) sent come unheard mux frame (drop (taken_count (length rest) own) rest) answer sums
  client_gives frame ready c =
      let i : End = c.pair.initiator in
      let r : End = c.pair.responder in
      record {
        pair = two (taking rest i) r;
        tidy = subst (λ (b : Bool). Tidy 18 (two (cond b (taking rest i) i) r)) (ready_passes i.mux own c.own_is ready) (tidy_step 18 (Moves (ByInitiator (Give rest))) c.pair c.tidy);
        own_is = ap (sends rest) c.own_is;
        mux_is = c.mux_is;
        front = c.front;
        come_are = c.come_are;
        sent_is = c.sent_is;
        frames = c.frames;
        unheard_are = c.unheard_are;
        queue_is = c.queue_is;
        asked_is = ap (λ (m : Mux). (i.put ++ take (taken_count (length rest) m) rest) ++ drop (taken_count (length rest) own) rest) c.own_is ∙ taken_rest i.put rest (taken_count (length rest) own) ∙ c.asked_is;
        got_is = c.got_is;
        replied_is = c.replied_is;
        told_is = c.told_is;
        order = λ e. order_asked own i.queue mux r.queue (c.order e) rest;
      }

  pub client_leaves : (frame : Option PlainFrame) → Coupled own sent come unheard mux frame rest answer sums → Coupled (leaves own) sent come unheard mux frame rest answer sums
  client_leaves frame c = record {
    pair = two (closing c.pair.initiator) c.pair.responder;
    tidy = tidy_step 18 (Closes Initiator) c.pair c.tidy;
    own_is = ap leaves c.own_is;
    mux_is = c.mux_is;
    front = c.front;
    come_are = c.come_are;
    sent_is = c.sent_is;
    frames = c.frames;
    unheard_are = c.unheard_are;
    queue_is = c.queue_is;
    asked_is = c.asked_is;
    got_is = c.got_is;
    replied_is = c.replied_is;
    told_is = c.told_is;
    order = λ e. order_leaves own c.pair.initiator.queue mux c.pair.responder.queue (c.order e);
  }

  pub client_says : (frame : Option PlainFrame) (o : Option Said) → next own ≡ o → Coupled own sent come unheard mux frame rest answer sums → Coupled (mux_said o own) (sent ++ frames_said o) come unheard mux frame rest answer sums
  client_says frame None is c = subst (λ (fs : List PlainFrame). Coupled own fs come unheard mux frame rest answer sums) (sym (append-nil sent)) c
  client_says frame (Some said) is c =
      let i : End = c.pair.initiator in
      let r : End = c.pair.responder in
      record {
        pair = two (spoken (Some said) i) r;
        tidy = subst (λ (o : Option Said). Tidy 18 (two (spoken o i) r)) (ap next c.own_is ∙ is) (tidy_step 18 (Moves (ByInitiator Speak)) c.pair c.tidy);
        own_is = refl;
        mux_is = c.mux_is;
        front = c.front;
        come_are = c.come_are;
        sent_is = ap (λ (fs : List PlainFrame). fs ++ said.frame ∷ []) c.sent_is ∙ append_assoc c.front i.queue (said.frame ∷ []);
        frames = c.frames;
        unheard_are = c.unheard_are;
        queue_is = c.queue_is;
        asked_is = c.asked_is;
        got_is = c.got_is;
        replied_is = c.replied_is;
        told_is = c.told_is;
        order = λ e. order_asks own i.queue mux r.queue (c.order e) said is;
      }

-- ---- an SDU comes

same_head : (x y : PlainFrame) (xs ys : List PlainFrame) → x ∷ xs ≡ y ∷ ys → xs ≡ ys
same_head x y xs ys is = cc

-- the SDU that comes next is the first frame under way
record ComesNext (come : List (List ℕ)) (sdu : List ℕ) (front queue : List PlainFrame) : Type 0 where
  f : PlainFrame
  fs : List PlainFrame
  queue_is : queue ≡ f ∷ fs
  answer : frame_answer sdu ≡ Ok f

comes_next : (come : List (List ℕ)) (sdu : List ℕ) (front front' queue behind : List PlainFrame) → AreFrames come front → AreFrames (come ++ sdu ∷ []) front' → front ++ queue ≡ front' ++ behind → ComesNext come sdu front queue
comes_next [] sdu [] [] queue behind are more is = absurd more
comes_next [] sdu [] (f ∷ []) queue behind are more is = record { f = f; fs = behind; queue_is = is; answer = more.0 }
comes_next [] sdu [] (f ∷ g ∷ fs) queue behind are more is = absurd more.1
comes_next [] sdu (f ∷ fs) front' queue behind are more is = absurd are
comes_next (s ∷ come) sdu [] front' queue behind are more is = absurd are
comes_next (s ∷ come) sdu (f ∷ front) [] queue behind are more is = absurd more
comes_next (s ∷ come) sdu (f ∷ front) (g ∷ front') queue behind are more is =
    let n = comes_next come sdu front front' queue behind are.1 more.1 (same_head f g (front ++ queue) (front' ++ behind) is) in
    record { f = n.f; fs = n.fs; queue_is = n.queue_is; answer = n.answer }

-- what an SDU hands up is what its frame does
same_handed : (sdu : List ℕ) (f : PlainFrame) (m : Mux) → frame_answer sdu ≡ Ok f → handed_by f m ≡ handed (up sdu m)
same_handed sdu f m is = sym (ap (λ (a : Answer). handed (let after = hears_answer a m in news m.closed after.closed (is_ready after && not (is_ready m)) (read_data a m))) is)

-- a frame comes to the server: it finds room
pub record Comes (own : Mux) (sent : List PlainFrame) (come unheard : List (List ℕ)) (mux : Mux) (frame : Option PlainFrame) (rest answer : List ℕ) (sums : Sums) (sdu : List ℕ) : Type 0 where
  pub room : AnswerFindsRoom (frame_answer sdu) mux
  pub coupled : Coupled own sent (come ++ sdu ∷ []) unheard (hears sdu mux) frame rest answer (record sums { got = sums.got ++ handed (up sdu mux) })

pub server_hears : (own : Mux) (sent : List PlainFrame) (come unheard : List (List ℕ)) (mux : Mux) (frame : Option PlainFrame) (rest answer : List ℕ) (sums : Sums) (sdu : List ℕ) (front' behind : List PlainFrame) → AreFrames (come ++ sdu ∷ []) front' → sent ≡ front' ++ behind
    → Coupled own sent come unheard mux frame rest answer sums → Comes own sent come unheard mux frame rest answer sums sdu
server_hears own sent come unheard mux frame rest answer sums sdu front' behind more sent_so c =
    let i : End = c.pair.initiator in
    let r : End = c.pair.responder in
    let n = comes_next come sdu c.front front' i.queue behind c.come_are more (sym c.sent_is ∙ sent_so) in
    let room : FirstFindsRoom (n.f ∷ n.fs) r.mux = subst (λ (q : List PlainFrame). FirstFindsRoom q r.mux) n.queue_is (tidy_room 18 c.pair c.tidy).forth in
    record {
      room = subst (λ (m : Mux). AnswerFindsRoom (frame_answer sdu) m) c.mux_is (subst (λ (a : Answer). AnswerFindsRoom a r.mux) (sym n.answer) room);
      coupled = record {
        pair = two (record { mux = i.mux; queue = n.fs; put = i.put; got = i.got }) (hearing (n.f ∷ n.fs) r);
        tidy = subst (λ (q : List PlainFrame). Tidy 18 (two (record { mux = i.mux; queue = without_first q; put = i.put; got = i.got }) (hearing q r))) n.queue_is (tidy_step 18 (Moves (ByInitiator Deliver)) c.pair c.tidy);
        own_is = c.own_is;
        mux_is = ap (hears_answer (Ok n.f)) c.mux_is ∙ ap (λ (a : Answer). hears_answer a mux) (sym n.answer);
        front = c.front ++ n.f ∷ [];
        come_are = frames_more come c.front sdu n.f c.come_are n.answer;
        sent_is = c.sent_is ∙ (ap (λ (q : List PlainFrame). c.front ++ q) n.queue_is ∙ sym (append_assoc c.front (n.f ∷ []) n.fs));
        frames = c.frames;
        unheard_are = c.unheard_are;
        queue_is = c.queue_is;
        asked_is = c.asked_is;
        got_is = ap (λ (xs : List ℕ). xs ++ handed_by n.f r.mux) c.got_is ∙ (ap (λ (m : Mux). sums.got ++ handed_by n.f m) c.mux_is ∙ ap (λ (xs : List ℕ). sums.got ++ xs) (same_handed sdu n.f mux n.answer));
        replied_is = c.replied_is;
        told_is = c.told_is;
        order = λ e. subst (λ (a : Answer). Order own n.fs (hears_answer a mux) r.queue) (sym n.answer) (order_came own n.f n.fs mux r.queue (subst (λ (q : List PlainFrame). Order own q mux r.queue) n.queue_is (c.order e)));
      };
    }

-- and one to the client
pub client_hears : (own : Mux) (sent : List PlainFrame) (come unheard : List (List ℕ)) (mux : Mux) (frame : Option PlainFrame) (rest answer : List ℕ) (sums : Sums) (sdu : List ℕ) → Coupled own sent come (sdu ∷ unheard) mux frame rest answer sums
    → Coupled (hears sdu own) sent come unheard mux frame rest answer (record sums { told = sums.told ++ handed (up sdu own) })
client_hears own sent come unheard mux frame rest answer sums sdu c = by c.frames c.unheard_are c.queue_is
  where
    by : (frames : List PlainFrame) → AreFrames (sdu ∷ unheard) frames → c.pair.responder.queue ≡ frames ++ waiting frame → Coupled (hears sdu own) sent come unheard mux frame rest answer (record sums { told = sums.told ++ handed (up sdu own) })
    by [] are is = absurd are
    by (f ∷ frames) are is = record {
      pair = two (hearing (f ∷ (frames ++ waiting frame)) c.pair.initiator) (record { mux = c.pair.responder.mux; queue = frames ++ waiting frame; put = c.pair.responder.put; got = c.pair.responder.got });
      tidy = subst (λ (q : List PlainFrame). Tidy 18 (two (hearing q c.pair.initiator) (record { mux = c.pair.responder.mux; queue = without_first q; put = c.pair.responder.put; got = c.pair.responder.got }))) is (tidy_step 18 (Moves (ByResponder Deliver)) c.pair c.tidy);
      own_is = ap (hears_answer (Ok f)) c.own_is ∙ ap (λ (a : Answer). hears_answer a own) (sym are.0);
      mux_is = c.mux_is;
      front = c.front;
      come_are = c.come_are;
      sent_is = c.sent_is;
      frames = frames;
      unheard_are = are.1;
      queue_is = refl;
      asked_is = c.asked_is;
      got_is = c.got_is;
      replied_is = c.replied_is;
      told_is = ap (λ (xs : List ℕ). xs ++ handed_by f c.pair.initiator.mux) c.told_is ∙ (ap (λ (m : Mux). sums.told ++ handed_by f m) c.own_is ∙ ap (λ (xs : List ℕ). sums.told ++ xs) (same_handed sdu f own are.0));
      order = λ e. subst (λ (a : Answer). Order (hears_answer a own) c.pair.initiator.queue mux (frames ++ waiting frame)) (sym are.0) (order_told own c.pair.initiator.queue mux f (frames ++ waiting frame) (subst (λ (q : List PlainFrame). Order own c.pair.initiator.queue mux q) is (c.order e)));
    }

-- a frame that comes says the same behind the one that waits, unless the server is to close its multiplexer
pub server_overtakes : (own : Mux) (sent : List PlainFrame) (come unheard : List (List ℕ)) (mux : Mux) (frame : Option PlainFrame) (rest answer : List ℕ) (sums : Sums) (sdu : List ℕ) (front' behind : List PlainFrame) → AreFrames (come ++ sdu ∷ []) front' → sent ≡ front' ++ behind
    → sums.breaks ≡ false → Coupled own sent come unheard mux frame rest answer sums → may_overtake (frame_answer sdu) frame ≡ true
server_overtakes own sent come unheard mux None rest answer sums sdu front' behind more sent_so sound c = refl
server_overtakes own sent come unheard mux (Some waits) rest answer sums sdu front' behind more sent_so sound c =
    let n = comes_next come sdu c.front front' c.pair.initiator.queue behind c.come_are more (sym c.sent_is ∙ sent_so) in
    subst (λ (a : Answer). may_overtake a (Some waits) ≡ true) (sym n.answer)
    (may_pass_over own n.f n.fs mux c.frames waits
    (subst (λ (q : List PlainFrame). Order own q mux (c.frames ++ waits ∷ [])) n.queue_is (subst (λ (q : List PlainFrame). Order own c.pair.initiator.queue mux q) c.queue_is (c.order sound))))

-- the server is to close its multiplexer where it was before
pub server_breaks : (own : Mux) (sent : List PlainFrame) (come unheard : List (List ℕ)) (mux : Mux) (frame : Option PlainFrame) (rest answer : List ℕ) (sums : Sums) (breaks : Bool) → (breaks ≡ false → sums.breaks ≡ false) → Coupled own sent come unheard mux frame rest answer sums
    → Coupled own sent come unheard mux frame rest answer (record sums { breaks = breaks })
server_breaks own sent come unheard mux frame rest answer sums breaks was c = record {
  pair = c.pair;
  tidy = c.tidy;
  own_is = c.own_is;
  mux_is = c.mux_is;
  front = c.front;
  come_are = c.come_are;
  sent_is = c.sent_is;
  frames = c.frames;
  unheard_are = c.unheard_are;
  queue_is = c.queue_is;
  asked_is = c.asked_is;
  got_is = c.got_is;
  replied_is = c.replied_is;
  told_is = c.told_is;
  order = λ e. c.order (was e);
}

-- ---- neither was refused

pub server_orderly : (own : Mux) (sent : List PlainFrame) (come unheard : List (List ℕ)) (mux : Mux) (frame : Option PlainFrame) (rest answer : List ℕ) (sums : Sums) → Coupled own sent come unheard mux frame rest answer sums → IsOrderly mux.closed
server_orderly own sent come unheard mux frame rest answer sums c = subst (λ (m : Mux). IsOrderly m.closed) c.mux_is c.tidy.crossing.back.orderly

pub client_orderly : (own : Mux) (sent : List PlainFrame) (come unheard : List (List ℕ)) (mux : Mux) (frame : Option PlainFrame) (rest answer : List ℕ) (sums : Sums) → Coupled own sent come unheard mux frame rest answer sums → IsOrderly own.closed
client_orderly own sent come unheard mux frame rest answer sums c = subst (λ (m : Mux). IsOrderly m.closed) c.own_is c.tidy.crossing.forth.orderly

-- what was handed up is a front of what was taken, both ways
pub fronts : (own : Mux) (sent : List PlainFrame) (come unheard : List (List ℕ)) (mux : Mux) (frame : Option PlainFrame) (rest answer : List ℕ) (sums : Sums) → Coupled own sent come unheard mux frame rest answer sums
    → IsFront sums.got sums.asked × IsFront sums.told sums.replied
fronts own sent come unheard mux frame rest answer sums c =
    let forth = way_front Initiator 18 c.pair.initiator c.pair.responder c.tidy.crossing.forth in
    let back = way_front Responder 18 c.pair.responder c.pair.initiator c.tidy.crossing.back in (
      (forth.0 ++ rest, sym c.asked_is ∙ (ap (λ (xs : List ℕ). xs ++ rest) forth.1 ∙ (append_assoc c.pair.responder.got forth.0 rest ∙ ap (λ (xs : List ℕ). xs ++ (forth.0 ++ rest)) c.got_is))),
      (back.0 ++ answer, sym c.replied_is ∙ (ap (λ (xs : List ℕ). xs ++ answer) back.1 ∙ (append_assoc c.pair.initiator.got back.0 answer ∙ ap (λ (xs : List ℕ). xs ++ (back.0 ++ answer)) c.told_is))),
    )

-- ---- other octets are to be sent

module _ (own : Mux) (sent : List PlainFrame) (come unheard : List (List ℕ)) (mux : Mux) (frame : Option PlainFrame) where
  -- by the client, and by the server; where all was taken before, they stand behind it
  pub client_asks : (rest next answer : List ℕ) (sums : Sums) → Coupled own sent come unheard mux frame rest answer sums
      → (asked : List ℕ) × Coupled own sent come unheard mux frame next answer (record sums { asked = asked }) × (rest ≡ [] → asked ≡ sums.asked ++ next)
  client_asks rest next answer sums c = (
    c.pair.initiator.put ++ next,
    record {
      pair = c.pair;
      tidy = c.tidy;
      own_is = c.own_is;
      mux_is = c.mux_is;
      front = c.front;
      come_are = c.come_are;
      sent_is = c.sent_is;
      frames = c.frames;
      unheard_are = c.unheard_are;
      queue_is = c.queue_is;
      asked_is = refl;
      got_is = c.got_is;
      replied_is = c.replied_is;
      told_is = c.told_is;
      order = c.order;
    },
    λ none. ap (λ (xs : List ℕ). xs ++ next) (sym (append-nil c.pair.initiator.put) ∙ ap (λ (xs : List ℕ). c.pair.initiator.put ++ xs) (sym none) ∙ c.asked_is),
  )

  pub server_replies : (rest answer next : List ℕ) (sums : Sums) → Coupled own sent come unheard mux frame rest answer sums
      → (replied : List ℕ) × Coupled own sent come unheard mux frame rest next (record sums { replied = replied }) × (answer ≡ [] → replied ≡ sums.replied ++ next) × (next ≡ answer → replied ≡ sums.replied)
  server_replies rest answer next sums c = (
    c.pair.responder.put ++ next,
    record {
      pair = c.pair;
      tidy = c.tidy;
      own_is = c.own_is;
      mux_is = c.mux_is;
      front = c.front;
      come_are = c.come_are;
      sent_is = c.sent_is;
      frames = c.frames;
      unheard_are = c.unheard_are;
      queue_is = c.queue_is;
      asked_is = c.asked_is;
      got_is = c.got_is;
      replied_is = refl;
      told_is = c.told_is;
      order = c.order;
    },
    λ none. ap (λ (xs : List ℕ). xs ++ next) (sym (append-nil c.pair.responder.put) ∙ ap (λ (xs : List ℕ). c.pair.responder.put ++ xs) (sym none) ∙ c.replied_is),
    λ e. ap (λ (xs : List ℕ). c.pair.responder.put ++ xs) e ∙ c.replied_is,
  )

  -- where all that the server was to send was told, no more of it waits
  pub none_waits : (rest answer : List ℕ) (sums : Sums) → Coupled own sent come unheard mux frame rest answer sums → sums.replied ≡ sums.told → answer ≡ []
  none_waits rest answer sums c all =
      let back = way_front Responder 18 c.pair.responder c.pair.initiator c.tidy.crossing.back in
      none_over c.pair.initiator.got (back.0 ++ answer) (sym (append_assoc c.pair.initiator.got back.0 answer) ∙ ap (λ (xs : List ℕ). xs ++ answer) (sym back.1) ∙ c.replied_is ∙ all ∙ sym c.told_is) back.0 refl
    where
      none_over : (xs ys : List ℕ) → xs ++ ys ≡ xs → (zs : List ℕ) → ys ≡ zs ++ answer → answer ≡ []
      none_over [] ys e zs is = last zs (sym is ∙ e)
        where
          last : (zs : List ℕ) → zs ++ answer ≡ [] → answer ≡ []
          last [] f = f
          last (z ∷ zs) f = absurd cc
      none_over (x ∷ xs) ys e zs is = none_over xs ys (tail e) zs is
        where
          tail : x ∷ (xs ++ ys) ≡ x ∷ xs → xs ++ ys ≡ xs
          tail f = cc
