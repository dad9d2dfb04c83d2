-- Sides that send SDUs do what sides that send frames do.
use Rattle.std.proofs.Common.{◌≡◌, ℕ, Bool, true, false, cond, List, [], ◌∷◌, ◌++◌, map, Option, Some, None, Ok, refl, sym, ap, subst, ◌∙◌}
use Rattle.std.specs.Prelude.{not, ◌&&◌}
use Rattle.rfcomm_frames.specs.declared.connection.Role.{Role}
use Rattle.rfcomm_frames.specs.declared.connection.Role.TheVariants.{Initiator, Responder}
use Rattle.rfcomm_frames.specs.Frames.{PlainFrame}
use Rattle.rfcomm_frames.specs.Answers.{Answer}
use Rattle.rfcomm_frames.specs.FrameReading.{frame_answer}
use Rattle.rfcomm_frames.proofs.FrameReading.{spelled_answered}
use Rattle.rfcomm_model.specs.Machine.{Mux, may_pass, is_ready}
use Rattle.rfcomm_model.specs.ClosedSides.{IsOrderly}
use Rattle.rfcomm_model.specs.Hearing.{hears_answer, news, read_data}
use Rattle.rfcomm_model.specs.Saying.{Said, next, after_said}
use Rattle.rfcomm_model.specs.Sides.{handed}
use Rattle.rfcomm_laws.specs.Pairs.{End, Move, Speak, Give, Deliver, spoken, taking, without_first, near, far, hearing, Pair, Turn, turn, all_turns, Terms, new_pair, Pipes}
use Rattle.rfcomm_laws.specs.Happenings.{closing, happens, all_happen}
use Rattle.rfcomm_laws.specs.Rests.{IsStill, IsDone}
use Rattle.rfcomm_laws.specs.Links.{LinkEnd, Link, Act, Sends, Gives, Delivers, Leaves, LinkDeed, first_away, gives, own_end, hears_first, other_end, done_by, all_done, IsOf, IsSent, side_of, IsRun, new_link, IsStaying, AllStay, move_of, by_role, happening_of, AreFrames, MirrorsEnd, Mirrors, SdusAreFrames, LinkPipes, LinksArePipes, LinkIsStill, LinkIsDone, StillLinksAreDone, LinkClosesInOrder, LinksCloseInOrder}
use Rattle.rfcomm_laws.specs.Closings.{ClosesInOrder}
use Rattle.rfcomm_laws.proofs.Crossings.{closings-are_orderly}
use Rattle.rfcomm_laws.proofs.Stages.{pairs-are_pipes}
use Rattle.rfcomm_laws.proofs.Resting.{still-is_done}

-- ---- queues

frames_more : (sdus : List (List ℕ)) (frames : List PlainFrame) (sdu : List ℕ) (frame : PlainFrame) → AreFrames sdus frames → frame_answer sdu ≡ Ok frame → AreFrames (sdus ++ sdu ∷ []) (frames ++ frame ∷ [])
frames_more [] [] sdu frame are is = (is, tt)
frames_more [] (f ∷ frames) sdu frame are is = absurd are
frames_more (s ∷ sdus) [] sdu frame are is = absurd are
frames_more (s ∷ sdus) (f ∷ frames) sdu frame are is = (are.0, frames_more sdus frames sdu frame are.1 is)

frames_away : (sdus : List (List ℕ)) (frames : List PlainFrame) → AreFrames sdus frames → AreFrames (first_away sdus) (without_first frames)
frames_away [] [] are = tt
frames_away [] (f ∷ frames) are = absurd are
frames_away (s ∷ sdus) [] are = absurd are
frames_away (s ∷ sdus) (f ∷ frames) are = are.1

-- ---- a side

-- a side over SDUs with these frames on the way
abbrev link_end : End → List (List ℕ) → LinkEnd
link_end e queue = record { mux = e.mux; queue = queue; put = e.put; got = e.got }

mirrored : (e : End) (queue : List (List ℕ)) → AreFrames queue e.queue → MirrorsEnd (link_end e queue) e
mirrored e queue are = record { mux = refl; queue = are; put = refl; got = refl }

sent_mirrors : (e : End) (queue : List (List ℕ)) (sdu : List ℕ) (o : Option Said) → AreFrames queue e.queue → IsOf sdu o → MirrorsEnd (record { mux = after_said o e.mux; queue = queue ++ sdu ∷ []; put = e.put; got = e.got }) (spoken o e)
sent_mirrors e queue sdu None are is = absurd is
sent_mirrors e queue sdu (Some said) are is =
    record { mux = refl; queue = frames_more queue e.queue sdu said.frame are (spelled_answered said.frame sdu is.0 is.1); put = refl; got = refl }

given_mirrors : (e : End) (queue : List (List ℕ)) (octets : List ℕ) (may : Bool) → AreFrames queue e.queue → MirrorsEnd (cond may (gives octets (link_end e queue)) (link_end e queue)) (cond may (taking octets e) e)
given_mirrors e queue octets true are = record { mux = refl; queue = are; put = refl; got = refl }
given_mirrors e queue octets false are = mirrored e queue are

heard_mirrors : (e : End) (queue mine : List (List ℕ)) (frames : List PlainFrame) → AreFrames mine e.queue → AreFrames queue frames → MirrorsEnd (hears_first queue (link_end e mine)) (hearing frames e)
heard_mirrors e [] mine [] are on = mirrored e mine are
heard_mirrors e [] mine (f ∷ frames) are on = absurd on
heard_mirrors e (s ∷ sdus) mine [] are on = absurd on
heard_mirrors e (s ∷ sdus) mine (f ∷ frames) are on = record {
  mux = ap (λ (a : Answer). hears_answer a e.mux) on.0;
  queue = are;
  put = refl;
  got = ap (λ (a : Answer). e.got ++ handed (news e.mux.closed (hears_answer a e.mux).closed (is_ready (hears_answer a e.mux) && not (is_ready e.mux)) (read_data a e.mux))) on.0;
}

-- ---- a deed

abbrev near_of : Option Move → End → End
near_of None e = closing e
near_of (Some move) e = near move e

abbrev far_of : Option Move → List PlainFrame → End → End
far_of None queue e = e
far_of (Some move) queue e = far move queue e

own_mirrors : (act : Act) (e : End) (queue : List (List ℕ)) → AreFrames queue e.queue → IsSent act e.mux → MirrorsEnd (own_end act (link_end e queue)) (near_of (move_of act) e)
own_mirrors (Sends sdu) e queue are is = sent_mirrors e queue sdu (next e.mux) are is
own_mirrors (Gives octets) e queue are is = given_mirrors e queue octets (may_pass e.mux) are
own_mirrors Delivers e queue are is = record { mux = refl; queue = frames_away queue e.queue are; put = refl; got = refl }
own_mirrors Leaves e queue are is = record { mux = refl; queue = are; put = refl; got = refl }

other_mirrors : (act : Act) (e : End) (mine queue : List (List ℕ)) (frames : List PlainFrame) → AreFrames mine e.queue → AreFrames queue frames → MirrorsEnd (other_end act queue (link_end e mine)) (far_of (move_of act) frames e)
other_mirrors (Sends sdu) e mine queue frames are on = mirrored e mine are
other_mirrors (Gives octets) e mine queue frames are on = mirrored e mine are
other_mirrors Delivers e mine queue frames are on = heard_mirrors e queue mine frames are on
other_mirrors Leaves e mine queue frames are on = mirrored e mine are

-- the mirrored sides are the same but for their queues
same_end : (l : LinkEnd) (e : End) → MirrorsEnd l e → l ≡ link_end e l.queue
same_end l e m =
    ap (λ (mux : Mux). let x : LinkEnd = record { mux = mux; queue = l.queue; put = l.put; got = l.got } in x) m.mux
    ∙ ap (λ (put : List ℕ). let x : LinkEnd = record { mux = e.mux; queue = l.queue; put = put; got = l.got } in x) m.put
    ∙ ap (λ (got : List ℕ). let x : LinkEnd = record { mux = e.mux; queue = l.queue; put = e.put; got = got } in x) m.got

own_step : (act : Act) (l : LinkEnd) (e : End) → MirrorsEnd l e → IsSent act l.mux → MirrorsEnd (own_end act l) (near_of (move_of act) e)
own_step act l e m is =
    subst (λ (x : LinkEnd). MirrorsEnd (own_end act x) (near_of (move_of act) e)) (sym (same_end l e m)) (own_mirrors act e l.queue m.queue (subst (IsSent act) m.mux is))

other_step : (act : Act) (l : LinkEnd) (e : End) (queue : List (List ℕ)) (frames : List PlainFrame) → MirrorsEnd l e → AreFrames queue frames → MirrorsEnd (other_end act queue l) (far_of (move_of act) frames e)
other_step act l e queue frames m on =
    subst (λ (x : LinkEnd). MirrorsEnd (other_end act queue x) (far_of (move_of act) frames e)) (sym (same_end l e m)) (other_mirrors act e l.queue queue frames m.queue on)

deed_mirrors : (by : Role) (act : Act) (l : Link) (p : Pair) → Mirrors l p → IsSent act (side_of by l).mux → Mirrors (done_by by act l) (happens (happening_of (record { by = by; act = act })) p)
deed_mirrors Initiator (Sends sdu) l p m is = record { initiator = own_step (Sends sdu) l.initiator p.initiator m.initiator is; responder = m.responder }
deed_mirrors Initiator (Gives octets) l p m is = record { initiator = own_step (Gives octets) l.initiator p.initiator m.initiator is; responder = m.responder }
deed_mirrors Initiator Delivers l p m is = record { initiator = own_step Delivers l.initiator p.initiator m.initiator is; responder = other_step Delivers l.responder p.responder l.initiator.queue p.initiator.queue m.responder m.initiator.queue }
deed_mirrors Initiator Leaves l p m is = record { initiator = own_step Leaves l.initiator p.initiator m.initiator is; responder = m.responder }
deed_mirrors Responder (Sends sdu) l p m is = record { initiator = m.initiator; responder = own_step (Sends sdu) l.responder p.responder m.responder is }
deed_mirrors Responder (Gives octets) l p m is = record { initiator = m.initiator; responder = own_step (Gives octets) l.responder p.responder m.responder is }
deed_mirrors Responder Delivers l p m is = record { initiator = other_step Delivers l.initiator p.initiator l.responder.queue p.responder.queue m.initiator m.responder.queue; responder = own_step Delivers l.responder p.responder m.responder is }
deed_mirrors Responder Leaves l p m is = record { initiator = m.initiator; responder = own_step Leaves l.responder p.responder m.responder is }

all_mirror : (deeds : List LinkDeed) (l : Link) (p : Pair) → Mirrors l p → IsRun deeds l → Mirrors (all_done deeds l) (all_happen (map happening_of deeds) p)
all_mirror [] l p m run = m
all_mirror (deed ∷ deeds) l p m run =
    all_mirror deeds (done_by deed.by deed.act l) (happens (happening_of deed) p) (deed_mirrors deed.by deed.act l p m run.0) run.1

pub sdus-are_frames : SdusAreFrames
sdus-are_frames t deeds run =
    all_mirror deeds (new_link t) (new_pair t) (record { initiator = record { mux = refl; queue = tt; put = refl; got = refl }; responder = record { mux = refl; queue = tt; put = refl; got = refl } }) run

-- ---- nobody is told to close

abbrev move_by : Role → Act → List Turn
move_by role (Sends sdu) = by_role role Speak ∷ []
move_by role (Gives octets) = by_role role (Give octets) ∷ []
move_by role Delivers = by_role role Deliver ∷ []
move_by role Leaves = []

abbrev turns_of : List LinkDeed → List Turn
turns_of [] = []
turns_of (deed ∷ deeds) = move_by deed.by deed.act ++ turns_of deeds

stays_turn : (by : Role) (act : Act) (deeds : List LinkDeed) (p : Pair) → IsStaying act → ((q : Pair) → all_happen (map happening_of deeds) q ≡ all_turns (turns_of deeds) q)
    → all_happen (map happening_of (record { by = by; act = act } ∷ deeds)) p ≡ all_turns (move_by by act ++ turns_of deeds) p
stays_turn by (Sends sdu) deeds p stays more = more (turn (by_role by Speak) p)
stays_turn by (Gives octets) deeds p stays more = more (turn (by_role by (Give octets)) p)
stays_turn by Delivers deeds p stays more = more (turn (by_role by Deliver) p)
stays_turn by Leaves deeds p stays more = absurd stays

all_turn : (deeds : List LinkDeed) (p : Pair) → AllStay deeds → all_happen (map happening_of deeds) p ≡ all_turns (turns_of deeds) p
all_turn [] p stay = refl
all_turn (deed ∷ deeds) p stay = stays_turn deed.by deed.act deeds p stay.0 (λ q. all_turn deeds q stay.1)

-- the pair of frames that a run of SDUs mirrors
turned : (t : Terms) (deeds : List LinkDeed) → AllStay deeds → IsRun deeds (new_link t) → Mirrors (all_done deeds (new_link t)) (all_turns (turns_of deeds) (new_pair t))
turned t deeds stay run = subst (Mirrors (all_done deeds (new_link t))) (all_turn deeds (new_pair t) stay) (sdus-are_frames t deeds run)

link_pipes : (l : Link) (p : Pair) → Mirrors l p → Pipes p → LinkPipes l
link_pipes l p m pipes =
    let i = m.initiator in
    let r = m.responder in
    record {
      initiator_stands = ap (λ (x : Mux). x.closed) i.mux ∙ pipes.initiator_stands;
      responder_stands = ap (λ (x : Mux). x.closed) r.mux ∙ pipes.responder_stands;
      forth = (pipes.forth.0, i.put ∙ pipes.forth.1 ∙ ap (λ (xs : List ℕ). xs ++ pipes.forth.0) (sym r.got));
      back = (pipes.back.0, r.put ∙ pipes.back.1 ∙ ap (λ (xs : List ℕ). xs ++ pipes.back.0) (sym i.got));
    }

pub links-are_pipes : LinksArePipes
links-are_pipes t deeds stay run =
    link_pipes (all_done deeds (new_link t)) (all_turns (turns_of deeds) (new_pair t)) (turned t deeds stay run) (pairs-are_pipes t (turns_of deeds))

none_framed : (sdus : List (List ℕ)) (frames : List PlainFrame) → AreFrames sdus frames → sdus ≡ [] → frames ≡ []
none_framed [] [] are is = refl
none_framed [] (f ∷ frames) are is = absurd are
none_framed (s ∷ sdus) frames are is = cc

link_done : (l : Link) (p : Pair) → Mirrors l p → (IsStill p → IsDone p) → LinkIsStill l → LinkIsDone l
link_done l p m done still =
    let i = m.initiator in
    let r = m.responder in
    let d = done (record {
      none_forth = none_framed l.initiator.queue p.initiator.queue i.queue still.none_forth;
      none_back = none_framed l.responder.queue p.responder.queue r.queue still.none_back;
      initiator_silent = ap next (sym i.mux) ∙ still.initiator_silent;
      responder_silent = ap next (sym r.mux) ∙ still.responder_silent;
    }) in
    record {
      initiator_ready = ap is_ready i.mux ∙ d.initiator_ready;
      responder_ready = ap is_ready r.mux ∙ d.responder_ready;
      forth = r.got ∙ d.forth ∙ sym i.put;
      back = i.got ∙ d.back ∙ sym r.put;
    }

pub still-links_are_done : StillLinksAreDone
still-links_are_done t deeds stay run still =
    link_done (all_done deeds (new_link t)) (all_turns (turns_of deeds) (new_pair t)) (turned t deeds stay run) (still-is_done t (turns_of deeds)) still

-- ---- whoever is told to close

link_closes : (l : Link) (p : Pair) → Mirrors l p → ClosesInOrder p → LinkClosesInOrder l
link_closes l p m c =
    let i = m.initiator in
    let r = m.responder in
    record {
      initiator_orderly = subst (λ (x : Mux). IsOrderly x.closed) (sym i.mux) c.initiator_orderly;
      responder_orderly = subst (λ (x : Mux). IsOrderly x.closed) (sym r.mux) c.responder_orderly;
      forth = (c.forth.0, i.put ∙ c.forth.1 ∙ ap (λ (xs : List ℕ). xs ++ c.forth.0) (sym r.got));
      back = (c.back.0, r.put ∙ c.back.1 ∙ ap (λ (xs : List ℕ). xs ++ c.back.0) (sym i.got));
    }

pub links-close_in_order : LinksCloseInOrder
links-close_in_order t deeds run =
    link_closes (all_done deeds (new_link t)) (all_happen (map happening_of deeds) (new_pair t)) (sdus-are_frames t deeds run) (closings-are_orderly t (map happening_of deeds))
