-- What the multiplexer of a server has still to give, against what stands by the frames that passed.
use Rattle.std.proofs.Common.{arith, inl, inr, ◌≡◌, ◌⊎◌, ◌≤◌, ◌<◌, ◌+◌, ◌-◌, ◌==◌, ◌&&◌, ◌||◌, ℕ, Bool, true, false, cond, eqb, List, [], ◌∷◌, length, take, Option, Some, None, Ok, refl, sym, subst, ◌∙◌}
use Rattle.std.specs.Prelude.{not, ◌^◌, nat_lt}
use Rattle.std.specs.List.{AllByRecursion, list_any}
use Rattle.std.proofs.lemmas.Bool.{cond_both, eqb-true}
use Rattle.push_laws.specs.push_model.specs.rfcomm_frames.specs.declared.connection.Role.TheVariants.{Responder}
use Rattle.push_laws.specs.push_model.specs.rfcomm_frames.specs.declared.frame.MuxKind.{MuxKind}
use Rattle.push_laws.specs.push_model.specs.rfcomm_frames.specs.declared.frame.MuxKind.TheVariants.{Sabm, Ua, Dm, Disc, Uih}
use Rattle.push_laws.specs.push_model.specs.rfcomm_frames.specs.Frames.{PlainFrame, carries}
use Rattle.push_laws.specs.push_model.specs.rfcomm_frames.specs.FrameReading.{MessageAnswer, messages, is_empty}
use Rattle.push_laws.specs.push_model.specs.rfcomm_model.specs.ClosedSides.{IsOrderly}
use Rattle.push_laws.specs.push_model.specs.rfcomm_model.specs.Hearing.{hears_answer, own_credits}
use Rattle.push_laws.specs.push_model.specs.rfcomm_model.specs.Machine.{Mux, new_mux, taken_count, sends}
use Rattle.push_laws.specs.push_model.specs.rfcomm_model.specs.Saying.{Said, next}
use Rattle.push_laws.specs.push_model.specs.rfcomm_model.specs.Sides.{asks_of, AnswerFindsRoom}
use Rattle.push_laws.specs.push_model.specs.rfcomm_model.proofs.Flooding.{waiting, answer_finds, SaysWaits, says_waits}
use Rattle.push_laws.specs.rfcomm_laws.specs.Messages.{IsAllowed, is_acceptance}
use Rattle.push_laws.specs.rfcomm_laws.specs.Totals.{bonus_of, cost_of}
use Rattle.push_laws.specs.rfcomm_laws.proofs.Answering.{frames-are_answered_once}
use Rattle.push_laws.specs.rfcomm_laws.proofs.Harm.{bonuses_of, rank, SoundMessages, AllWait, SoundAsks, Step}
use Rattle.push_laws.specs.rfcomm_laws.proofs.Turning.{Fit, still_fit}
use Rattle.push_laws.specs.rfcomm_laws.proofs.Harmless.{SoundIn, word_to, heard_step}
use Rattle.push_laws.specs.rfcomm_laws.proofs.Telling.{flow_in, Tells, SaysWell, says_well}
use Rattle.push_laws.specs.Premises.{is_answer, leaves_or_controls, may_overtake}
use Rattle.push_laws.proofs.Conceding.{R, SaysBack, SaidBack, back_answers}
use Rattle.push_laws.proofs.Frames.{mux_said, frame_said}
use Rattle.push_laws.proofs.Ordering.{answer_of, Back}
use Rattle.carried_laws.specs.Standing.{Standing, start, turns, agrees, accepts, informs, comes, goes}
use Rattle.carried_laws.specs.Orderly.{Keeps}
use Rattle.carried_laws.proofs.Heeding.{r_heard}

-- ---- the same counts

agrees_are : (kind : MuxKind) → agrees kind ≡ answer_of kind
agrees_are Sabm = refl
agrees_are Ua = refl
agrees_are Dm = refl
agrees_are Disc = refl
agrees_are Uih = refl

pub flow_is : (kind : MuxKind) (f : PlainFrame) → flow_in 18 kind f ≡ informs kind f
flow_is Sabm f = refl
flow_is Ua f = refl
flow_is Dm f = refl
flow_is Disc f = refl
flow_is Uih f = by (eqb f.dlci 18) refl (eqb f.dlci 0) refl
  where
    by : (here : Bool) → eqb f.dlci 18 ≡ here → (control : Bool) → eqb f.dlci 0 ≡ control → cond (not control && here) f.octets [] ≡ cond here f.octets []
    by true is true also = let one = eqb-true f.dlci 18 is in let two = eqb-true f.dlci 0 also in absurd (omega (arith, one, two))
    by true is false also = refl
    by false is true also = refl
    by false is false also = refl

-- ---- what keeps to the rules

all_sound : (list : List MessageAnswer) → AllByRecursion (IsAllowed 18) list → SoundMessages true 18 list
all_sound [] all = tt
all_sound (message ∷ rest) all = ((all.0, λ accepts. refl), all_sound rest all.1)

keeps_sound : (agreed own : Bool) (kind : MuxKind) (f : PlainFrame) → (agreed ≡ true → own ≡ true) → Keeps agreed kind f → SoundIn true own 18 kind f
keeps_sound agreed own Sabm f more k = λ here. more (k (eqb-true f.dlci 18 here))
keeps_sound agreed own Ua f more k = tt
keeps_sound agreed own Dm f more k = tt
keeps_sound agreed own Disc f more k = tt
keeps_sound agreed own Uih f more k = λ here. all_sound (messages f.octets) (k (eqb-true f.dlci 0 here))

or_parts : (a b : Bool) → (a || b) ≡ true → (a ≡ true) ⊎ (b ≡ true)
or_parts true b is = inl refl
or_parts false b is = inr is

-- a response to PN is said by a side that agreed
accepted_message : (own : Bool) (list : List MessageAnswer) → SoundMessages own 18 list → list_any is_acceptance list ≡ true → own ≡ true
accepted_message own [] sound is = let never : false ≡ true = is in cc
accepted_message own (message ∷ rest) sound is =
    elim (or_parts (is_acceptance message) (list_any is_acceptance rest) is) [ inl this ↦ sound.0.1 this | inr later ↦ accepted_message own rest sound.1 later ]

both_true : (a b : Bool) → (a && b) ≡ true → (a ≡ true) × (b ≡ true)
both_true true b is = (refl, is)
both_true false b is = let never : false ≡ true = is in cc

accepted_frame : (own : Bool) (kind : MuxKind) (f : PlainFrame) → SoundIn own true 18 kind f → accepts kind f ≡ true → own ≡ true
accepted_frame own Sabm f sound is = let never : false ≡ true = is in cc
accepted_frame own Ua f sound is = let never : false ≡ true = is in cc
accepted_frame own Dm f sound is = let never : false ≡ true = is in cc
accepted_frame own Disc f sound is = let never : false ≡ true = is in cc
accepted_frame own Uih f sound is = let both = both_true (f.dlci == 0) (list_any is_acceptance (messages f.octets)) is in accepted_message own (messages f.octets) (sound both.0) both.1

-- ---- the frame that waits

abbrev pub spare : Option PlainFrame → ℕ
spare None = 1
spare (Some f) = 0

abbrev pub agrees_with : Option PlainFrame → ℕ
agrees_with None = 0
agrees_with (Some f) = agrees f.kind

abbrev pub accepts_with : Option PlainFrame → Bool
accepts_with None = false
accepts_with (Some f) = accepts f.kind f

abbrev pub bonus_with : Option PlainFrame → ℕ
bonus_with None = 0
bonus_with (Some f) = bonus_of 18 f

abbrev pub cost_with : Option PlainFrame → ℕ
cost_with None = 0
cost_with (Some f) = cost_of f

abbrev pub IsBack : Option PlainFrame → Type 0
IsBack None = Unit {0}
IsBack (Some f) = Back f.kind f

-- ---- what is so at each moment

pub record Owes (s : Standing) (m : Mux) (frame : Option PlainFrame) : Type 0 where
  pub fit : Fit 18 m
  pub count : ℕ
  pub side : R count m
  pub asked : count + agrees_with frame ≤ s.asked
  pub back : IsBack frame
  pub room : waiting m ≤ s.owed + spare frame
  pub waits : AllWait m.agreed (rank m.user) 18 m.answers
  pub asks : SoundAsks true m.asks
  pub agreed : s.agreed ≡ true → m.agreed ≡ true
  pub accepted : accepts_with frame ≡ true → m.agreed ≡ true
  pub peer : s.client_granted + (bonus_with frame + (bonuses_of 18 m.answers + own_credits m)) ≤ s.client_spent + m.account.peer
  pub held : m.account.held + (cost_with frame + s.server_spent) ≤ s.server_granted
  pub orderly : IsOrderly m.closed

-- a new one
pub new_owes : (largest cap : ℕ) → 23 ≤ largest → largest < 2 ^ 16 → Owes start (new_mux Responder 18 largest largest cap) None
new_owes largest cap least most = record {
  fit = record { some = omega arith; dlci = refl; least = least; most = most };
  count = 0;
  side = record { role_is = refl; dlci_is = refl; answers = tt; few = omega arith; wish = tt };
  asked = omega arith;
  back = tt;
  room = omega arith;
  waits = tt;
  asks = tt;
  agreed = λ is. let never : false ≡ true = is in cc;
  accepted = λ is. let never : false ≡ true = is in cc;
  peer = omega arith;
  held = omega arith;
  orderly = tt;
}

-- ---- a frame of the client comes

-- behind UA or DM there come but DISC and messages on the control channel; where none is asked for, none waits
overtakes_kind : (kind : MuxKind) (f : PlainFrame) (apart : Bool) → Back kind f → (apart ≡ false → agrees kind ≤ 0) → (carries kind || (is_answer kind && apart)) ≡ true
overtakes_kind Sabm f apart back none = absurd back
overtakes_kind Ua f true back none = refl
overtakes_kind Ua f false back none = absurd (let few = none refl in omega (arith, few))
overtakes_kind Dm f true back none = refl
overtakes_kind Dm f false back none = absurd (let few = none refl in omega (arith, few))
overtakes_kind Disc f apart back none = absurd back
overtakes_kind Uih f apart back none = refl

pub record Heard (s : Standing) (m : Mux) (frame : Option PlainFrame) (f : PlainFrame) : Type 0 where
  pub room : AnswerFindsRoom (Ok f) m
  pub behind : may_overtake (Ok f) frame ≡ true
  pub owes : Owes (comes f s) (hears_answer (Ok f) m) frame
  pub step : Step (word_to true m f) (bonus_of 18 f) (cost_of f) m (hears_answer (Ok f) m)

pub heard_owes : (s : Standing) (m : Mux) (frame : Option PlainFrame) (f : PlainFrame) → Owes s m frame → Keeps s.agreed f.kind f → (leaves_or_controls f ≡ false → s.asked ≡ 0) → s.owed + asks_of f.kind f ≤ 15 → s.client_spent + cost_of f ≤ s.client_granted
    → s.server_granted + bonus_of 18 f ≤ 65535 + s.server_spent → Heard s m frame f
heard_owes s m frame f o keeps answered few paid fits =
    let x : Mux = hears_answer (Ok f) m in
    let on : m.dlci ≡ 18 = o.fit.dlci in
    let sound : SoundIn true m.agreed m.dlci f.kind f = subst (λ (d : ℕ). SoundIn true m.agreed d f.kind f) (sym on) (keeps_sound s.agreed m.agreed f.kind f o.agreed keeps) in
    let st : Step (word_to true m f) (bonus_of 18 f) (cost_of f) m x = heard_step true 18 f m o.fit sound in
    let more = frames-are_answered_once f m in
    let owed : bonuses_of 18 x.answers + own_credits x ≤ bonuses_of 18 m.answers + own_credits m = subst (λ (d : ℕ). bonuses_of d x.answers + own_credits x ≤ bonuses_of d m.answers + own_credits m) on st.owed in
    let room = o.room in
    let one = spare_few frame in
    let held = o.held in
    let peer = o.peer in
    let asked = o.asked in
    let grown = st.held in
    let less = st.peer in
    record {
      room = answer_finds (Ok f) m (omega (arith, room, one, few));
      behind = overtakes frame o.back (λ apart. let none = answered apart in omega (arith, asked, none));
      owes = record {
        fit = still_fit (word_to true m f) (bonus_of 18 f) (cost_of f) 18 m x st o.fit;
        count = o.count + turns f.kind f;
        side = r_heard o.count m.closed f m o.side;
        asked = omega (arith, asked);
        back = o.back;
        room = omega (arith, room, more);
        waits = subst (λ (d : ℕ). AllWait x.agreed (rank x.user) d x.answers) on (st.waits (subst (λ (d : ℕ). AllWait m.agreed (rank m.user) d m.answers) (sym on) o.waits));
        asks = st.asks o.asks;
        agreed = λ a. st.agrees (o.agreed a);
        accepted = λ a. st.agrees (o.accepted a);
        peer = omega (arith, peer, owed, less);
        held = omega (arith, held, grown);
        orderly = st.orderly (omega (arith, held, fits)) (omega (arith, peer, paid)) o.orderly;
      };
      step = st;
    }
  where
    spare_few : (frame : Option PlainFrame) → spare frame ≤ 1
    spare_few None = omega arith
    spare_few (Some g) = omega arith

    overtakes : (frame : Option PlainFrame) → IsBack frame → (leaves_or_controls f ≡ false → agrees_with frame ≤ 0) → may_overtake (Ok f) frame ≡ true
    overtakes None back none = refl
    overtakes (Some g) back none = overtakes_kind g.kind g (leaves_or_controls f) back none

-- ---- the next frame of the server waits

pub said_owes : (s : Standing) (m : Mux) (o : Option Said) → next m ≡ o → Owes s m None → Owes s (mux_said o m) (frame_said o)
said_owes s m None is o = o
said_owes s m (Some said) is o =
    let t : Tells true 18 m said.frame said.after = subst (SaysWell true 18 m) is (says_well true 18 m o.fit o.waits o.asks) in
    let b : SaidBack o.count said = subst (SaysBack o.count) is (back_answers o.count m.answers m refl o.side) in
    let few : waiting said.after ≤ (s.owed + 1) - 1 = subst (SaysWaits ((s.owed + 1) - 1) m) is (says_waits (s.owed + 1) m.answers m refl o.room) in
    let asked = o.asked in
    let sum = b.sum in
    let agree = agrees_are said.frame.kind in
    let own = t.own in
    let least = o.fit.least in
    let most = o.fit.most in
    let peer = o.peer in
    let owed = t.owed in
    let held = o.held in
    let paid = t.held in
    record {
      fit = record { some = omega arith; dlci = t.dlci ∙ o.fit.dlci; least = omega (arith, own, least); most = omega (arith, own, most) };
      count = b.rest;
      side = b.after;
      asked = omega (arith, asked, sum, agree);
      back = b.back;
      room = omega (arith, few);
      waits = t.waits;
      asks = t.asks;
      agreed = λ a. t.agreed_is ∙ o.agreed a;
      accepted = λ a. t.agreed_is ∙ accepted_frame m.agreed said.frame.kind said.frame t.sound a;
      peer = omega (arith, peer, owed);
      held = omega (arith, held, paid);
      orderly = subst IsOrderly (sym t.closed_is) o.orderly;
    }

-- ---- it goes

pub went_owes : (s : Standing) (m : Mux) (f : PlainFrame) → Owes s m (Some f) → Owes (goes f s) m None
went_owes s m f o =
    let asked = o.asked in
    let room = o.room in
    let peer = o.peer in
    let held = o.held in
    record {
      fit = o.fit;
      count = o.count;
      side = o.side;
      asked = omega (arith, asked);
      back = tt;
      room = omega (arith, room);
      waits = o.waits;
      asks = o.asks;
      agreed = λ a. elim (or_parts s.agreed (accepts f.kind f) a) [ inl was ↦ o.agreed was | inr now ↦ o.accepted now ];
      accepted = λ is. let never : false ≡ true = is in cc;
      peer = omega (arith, peer);
      held = omega (arith, held);
      orderly = o.orderly;
    }

-- ---- octets are given to it

pub sends_owe : (s : Standing) (m : Mux) (frame : Option PlainFrame) (octets : List ℕ) → Owes s m frame → Owes s (sends octets m) frame
sends_owe s m frame octets o =
    cond_both (is_empty m.waiting && nat_lt 0 m.account.held) (record m { waiting = take (taken_count (length octets) m) octets }) m (λ (x : Mux). Owes s x frame)
    (λ e. record {
      fit = record { some = o.fit.some; dlci = o.fit.dlci; least = o.fit.least; most = o.fit.most };
      count = o.count;
      side = record { role_is = o.side.role_is; dlci_is = o.side.dlci_is; answers = o.side.answers; few = o.side.few; wish = o.side.wish };
      asked = o.asked;
      back = o.back;
      room = o.room;
      waits = o.waits;
      asks = o.asks;
      agreed = o.agreed;
      accepted = o.accepted;
      peer = o.peer;
      held = o.held;
      orderly = o.orderly;
    })
    (λ e. o)

-- what the next frame is to it
pub tells_next : (s : Standing) (m : Mux) (o : Option Said) → next m ≡ o → Owes s m None → (said : Said) → o ≡ Some said → Tells true 18 m said.frame said.after
tells_next s m o is owes said e = subst (SaysWell true 18 m) (is ∙ e) (says_well true 18 m owes.fit owes.waits owes.asks)
