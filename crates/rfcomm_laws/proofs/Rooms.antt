-- No more than nine answers wait at a side, so each frame that comes finds room for its own.
use Rattle.std.proofs.Common.{arith, ◌≡◌, ◌<◌, ◌≤◌, ℕ, ◌==◌, ◌+◌, ◌-◌, ◌*◌, ◌/◌, ◌%◌, Bool, true, false, ◌&&◌, cond, List, [], ◌∷◌, ◌++◌, length, map, take, Option, Some, None, Ok, Err, refl, sym, ap, subst}
use Rattle.std.specs.Prelude.{not, nat_lt, nat_le, is_none}
use Rattle.std.proofs.lemmas.Bool.{lt-ltb, ne_eqb}
use Rattle.rfcomm_frames.specs.declared.frame.MuxKind.{MuxKind}
use Rattle.rfcomm_frames.specs.declared.frame.MuxKind.TheVariants.{Sabm, Ua, Dm, Disc, Uih}
use Rattle.rfcomm_frames.specs.declared.connection.Role.{Role}
use Rattle.rfcomm_frames.specs.declared.connection.Role.TheVariants.{Initiator, Responder}
use Rattle.rfcomm_frames.specs.declared.connection.Dlc.{Dlc}
use Rattle.rfcomm_frames.specs.declared.connection.Dlc.TheVariants.{Idle, Asked, Open, Ended}
use Rattle.rfcomm_frames.specs.Controls.{PlainControl, pn, msc, test, rpn, rls, nsc, other, written}
use Rattle.rfcomm_frames.specs.Frames.{PlainFrame, bit}
use Rattle.rfcomm_frames.specs.Answers.{Answer}
use Rattle.rfcomm_frames.specs.FrameReading.{MessageAnswer, messages, is_empty}
use Rattle.rfcomm_frames.specs.Connections.{turned, asked, agreed, left}
use Rattle.rfcomm_credits.specs.Accounts.{grant_of}
use Rattle.rfcomm_model.specs.declared.state.MuxReason.{MuxReason}
use Rattle.rfcomm_model.specs.declared.state.Command.{Command}
use Rattle.rfcomm_model.specs.declared.state.Command.TheVariants.{OpenControl, Agree, OpenUser, Signal, LeaveUser, LeaveControl}
use Rattle.rfcomm_model.specs.declared.state.Asks.{Asks}
use Rattle.rfcomm_model.specs.declared.state.Asks.TheVariants.{Nothing, Due, Awaited}
use Rattle.rfcomm_model.specs.Machine.{Mux, may_pass, is_ready, is_leaving, taken_count, leaves}
use Rattle.rfcomm_model.specs.Hearing.{has_room, own_credits, settings_of, if_stands, hears_message}
use Rattle.rfcomm_model.specs.Loads.{answered_once, answers_to, comes_of, weights}
use Rattle.rfcomm_model.specs.Saying.{Said, passed_on, passes, says, frame_of_command, commanded, says_data, says_grant, first_of, says_command, says_answer, next}
use Rattle.rfcomm_model.specs.Sides.{FindRoom, FindRoomOn, FindsRoom, AnswerFindsRoom}
use Rattle.rfcomm_model.specs.Written.{grant_frame, data_frame}
use Rattle.rfcomm_model.proofs.Loading.{pn_weight, msc_weight}
use Rattle.rfcomm_laws.specs.Happenings.{Happening, Moves, Closes, happens, all_happen}
use Rattle.rfcomm_laws.specs.Links.{Link, LinkEnd, new_link, all_done, happening_of, AreFrames, MirrorsEnd}
use Rattle.rfcomm_laws.specs.Pairs.{End, Move, Speak, Give, Deliver, spoken, taking, without_first, near, far, Pair, ByInitiator, ByResponder, Terms, new_pair}
use Rattle.rfcomm_laws.specs.SingleAnswers.{told_to, due_to, all_due, due_in}
use Rattle.rfcomm_laws.specs.Rooms.{FirstFindsRoom, BothHaveRoom, FramesFindRoom, FirstSduFindsRoom, SdusFindRoom}
use Rattle.rfcomm_laws.proofs.Crossings as crossings
use Rattle.rfcomm_laws.proofs.Crossings.{Crossing, offering, first_offering}
use Rattle.rfcomm_laws.proofs.Duties.{commands, signals, duty, dues, duty_if, one_message_duty, heard_duty}
use Rattle.rfcomm_laws.proofs.Spelling.{sdus-are_frames}

-- ---- what is said

asked_falls : (role : Role) (dlc : Dlc) → signals role (asked dlc) ≤ signals role dlc
asked_falls Initiator dlc = omega arith
asked_falls Responder Idle = omega arith
asked_falls Responder Asked = omega arith
asked_falls Responder Open = omega arith
asked_falls Responder Ended = omega arith

agreed_falls : (role : Role) (dlc : Dlc) → signals role (agreed dlc) ≤ signals role dlc
agreed_falls Initiator dlc = omega arith
agreed_falls Responder Idle = omega arith
agreed_falls Responder Asked = omega arith
agreed_falls Responder Open = omega arith
agreed_falls Responder Ended = omega arith

left_falls : (role from : Role) (dlc : Dlc) → signals role (left from dlc) ≤ signals role dlc
left_falls Initiator from dlc = omega arith
left_falls Responder from Idle = omega arith
left_falls Responder Initiator Asked = omega arith
left_falls Responder Responder Asked = omega arith
left_falls Responder from Open = omega arith
left_falls Responder from Ended = omega arith

turned_falls : (role from : Role) (kind : MuxKind) (dlc : Dlc) → signals role (turned from kind dlc) ≤ signals role dlc
turned_falls role Initiator Sabm dlc = asked_falls role dlc
turned_falls role Responder Sabm dlc = omega arith
turned_falls role Initiator Ua dlc = omega arith
turned_falls role Responder Ua dlc = agreed_falls role dlc
turned_falls role Initiator Dm dlc = omega arith
turned_falls role Responder Dm dlc = omega arith
turned_falls role Initiator Disc dlc = left_falls role Initiator dlc
turned_falls role Responder Disc dlc = left_falls role Responder dlc
turned_falls role Initiator Uih dlc = omega arith
turned_falls role Responder Uih dlc = omega arith

passed_falls : (role : Role) (kind : MuxKind) (here pf : Bool) (dlc : Dlc) → signals role (cond here (passed_on role kind pf dlc) dlc) ≤ signals role dlc
passed_falls role kind true true dlc = turned_falls role role kind dlc
passed_falls role kind true false dlc = omega arith
passed_falls role kind false pf dlc = omega arith

passes_duty : (n : ℕ) (kind : MuxKind) (pf : Bool) (m : Mux) → duty (passes n kind pf m) ≤ duty m
passes_duty n kind pf m = let less = passed_falls m.role kind (n == m.dlci) pf m.user in omega (arith, less)

-- a frame counts no less than what it asks for
told_light : (asked : Bool) (control : PlainControl) → told_to asked control ≤ bit asked
told_light true control = by (nat_le (length (written control)) 40)
  where
    by : (short : Bool) → cond short 1 0 ≤ 1
    by true = omega arith
    by false = omega arith
told_light false control = omega arith

message_light : (message : MessageAnswer) → due_to message ≤ answered_once message
message_light (Ok (pn command dlci flow priority timer frame retransmissions credits)) = omega arith
message_light (Ok (msc command address octet)) = omega arith
message_light (Ok (test command octets)) = told_light command (test false octets)
message_light (Ok (rpn command value)) = told_light command (rpn false (settings_of value))
message_light (Ok (rls command value)) = told_light command (rls false value)
message_light (Ok (nsc kind)) = omega arith
message_light (Ok (other kind value)) = told_light (kind / 2 % 2 == 1) (nsc kind)
message_light (Err refusal) = omega arith

messages_light : (list : List MessageAnswer) → all_due list ≤ answers_to list
messages_light [] = omega arith
messages_light (message ∷ rest) = let one = message_light message in let others = messages_light rest in omega (arith, one, others)

uih_light : (control : Bool) (n k l : ℕ) → n ≤ k → cond control n 0 ≤ cond control k l
uih_light true n k l less = less
uih_light false n k l less = omega arith

due_light : (kind : MuxKind) (f : PlainFrame) → due_in kind f ≤ comes_of kind f
due_light Sabm f = omega arith
due_light Ua f = omega arith
due_light Dm f = omega arith
due_light Disc f = omega arith
due_light Uih f = uih_light (f.dlci == 0) (all_due (messages f.octets)) (answers_to (messages f.octets)) (cond (is_empty f.octets) 0 1) (messages_light (messages f.octets))

-- what is said asks for no more than the side had to do
abbrev SaysDuty : ℕ → Option Said → Type 0
SaysDuty before None = Unit {0}
SaysDuty before (Some said) = due_in said.frame.kind said.frame + duty said.after ≤ before

said_duty : (before : ℕ) (f : PlainFrame) (after : Mux) → due_in f.kind f + duty after ≤ before → SaysDuty before (Some (says f after))
said_duty before f after less = let also = passes_duty f.dlci f.kind f.pf after in omega (arith, less, also)

command_duty : (command : Command) (m : Mux) → m.asks ≡ Due command → SaysDuty (duty m) (Some (says (frame_of_command command m) (commanded command m)))
command_duty OpenControl m is = let before = ap (commands m.closed) is in said_duty (duty m) (frame_of_command OpenControl m) (commanded OpenControl m) (omega (arith, before))
command_duty Agree m is =
    let before = ap (commands m.closed) is in
    let heavy = pn_weight m.role true m.dlci 0xF0 0 0 m.own 0 (own_credits m) in
    let light = due_light Uih (frame_of_command Agree m) in
    said_duty (duty m) (frame_of_command Agree m) (commanded Agree m) (omega (arith, before, heavy, light))
command_duty OpenUser m is = let before = ap (commands m.closed) is in said_duty (duty m) (frame_of_command OpenUser m) (commanded OpenUser m) (omega (arith, before))
command_duty Signal m is =
    let before = ap (commands m.closed) is in
    let heavy = msc_weight m.role true (4 * m.dlci + 3) 0x8D in
    let light = due_light Uih (frame_of_command Signal m) in
    said_duty (duty m) (frame_of_command Signal m) (commanded Signal m) (omega (arith, before, heavy, light))
command_duty LeaveUser m is = let before = ap (commands m.closed) is in said_duty (duty m) (frame_of_command LeaveUser m) (commanded LeaveUser m) (omega (arith, before))
command_duty LeaveControl m is = let before = ap (commands m.closed) is in said_duty (duty m) (frame_of_command LeaveControl m) (commanded LeaveControl m) (omega (arith, before))

if_duty : (before : ℕ) (b : Bool) (said : Said) → SaysDuty before (Some said) → SaysDuty before (cond b (Some said) None)
if_duty before true said s = s
if_duty before false said s = tt

first_duty : (before : ℕ) (x y : Option Said) → SaysDuty before x → SaysDuty before y → SaysDuty before (first_of x y)
first_duty before None y p q = q
first_duty before (Some said) y p q = p

-- no frame of the user channel is answered
no_dues : (d n : ℕ) → 0 < d → cond (d == 0) n 0 ≡ 0
no_dues d n some = ap (λ (b : Bool). cond b n 0) (ne_eqb d 0 (λ e. omega arith))

free_duty : (m : Mux) → 0 < m.dlci → SaysDuty (duty m) (first_of (says_grant m) (says_data m))
free_duty m some =
    let n : ℕ = grant_of m.account in
    let x : Mux = record m { account = record { cap = m.account.cap; held = m.account.held; peer = m.account.peer + n } } in
    let y : Mux = record m { waiting = []; account = record { cap = m.account.cap; held = m.account.held - 1; peer = m.account.peer } } in
    let none = no_dues m.dlci (all_due (messages [])) some in
    let also = no_dues m.dlci (all_due (messages m.waiting)) some in
    first_duty (duty m) (says_grant m) (says_data m)
    (if_duty (duty m) (may_pass m && nat_lt 0 n) (says (grant_frame m.role m.dlci n) x) (said_duty (duty m) (grant_frame m.role m.dlci n) x (omega (arith, none))))
    (if_duty (duty m) (is_ready m && (not (is_empty m.waiting) && nat_lt 0 m.account.held)) (says (data_frame m.role m.dlci m.waiting) y) (said_duty (duty m) (data_frame m.role m.dlci m.waiting) y (omega (arith, also))))

asks_duty : (asks : Asks) (m : Mux) → m.asks ≡ asks → 0 < m.dlci → SaysDuty (duty m) (says_command asks m)
asks_duty Nothing m is some = free_duty m some
asks_duty (Due command) m is some = command_duty command m is
asks_duty (Awaited command) m is some = free_duty m some

answers_duty : (answers : List PlainFrame) (m : Mux) → m.answers ≡ answers → 0 < m.dlci → SaysDuty (duty m) (says_answer answers m)
answers_duty [] m is some = asks_duty m.asks m refl some
answers_duty (answer ∷ rest) m is some =
    let before = ap weights is in
    let light = due_light answer.kind answer in
    said_duty (duty m) answer (record m { answers = rest }) (omega (arith, before, light))

-- ---- it is told to close

leaves_less : (closed : Option MuxReason) (asks : Asks) → (is_none closed && not (is_leaving asks)) ≡ true → commands closed (Due LeaveUser) ≤ commands closed asks
leaves_less (Some reason) asks may = let never : false ≡ true = may in cc
leaves_less None Nothing may = omega arith
leaves_less None (Due OpenControl) may = omega arith
leaves_less None (Due Agree) may = omega arith
leaves_less None (Due OpenUser) may = omega arith
leaves_less None (Due Signal) may = omega arith
leaves_less None (Due LeaveUser) may = omega arith
leaves_less None (Due LeaveControl) may = let never : false ≡ true = may in cc
leaves_less None (Awaited OpenControl) may = omega arith
leaves_less None (Awaited Agree) may = omega arith
leaves_less None (Awaited OpenUser) may = omega arith
leaves_less None (Awaited Signal) may = omega arith
leaves_less None (Awaited LeaveUser) may = let never : false ≡ true = may in cc
leaves_less None (Awaited LeaveControl) may = let never : false ≡ true = may in cc

leaves_duty : (m : Mux) → duty (leaves m) ≤ duty m
leaves_duty m = leaves_if (is_none m.closed && not (is_leaving m.asks)) refl
  where
    leaves_if : (test : Bool) → (is_none m.closed && not (is_leaving m.asks)) ≡ test → duty (cond test (record m { asks = Due LeaveUser }) m) ≤ duty m
    leaves_if true may = let less = leaves_less m.closed m.asks may in omega (arith, less)
    leaves_if false may = omega arith

-- ---- the pair

abbrev pub total : Pair → ℕ
total p = duty p.initiator.mux + (duty p.responder.mux + (dues p.initiator.queue + dues p.responder.queue))

abbrev end_duty : End → ℕ
end_duty e = duty e.mux + dues e.queue

dues_more : (fs : List PlainFrame) (f : PlainFrame) → dues (fs ++ f ∷ []) ≡ dues fs + due_in f.kind f
dues_more [] f = omega arith
dues_more (g ∷ fs) f = omega (arith, dues_more fs f)

spoken_less : (o : Option Said) (e : End) → SaysDuty (duty e.mux) o → end_duty (spoken o e) ≤ end_duty e
spoken_less None e s = omega arith
spoken_less (Some said) e s = let more = dues_more e.queue said.frame in omega (arith, s, more)

given_less : (octets : List ℕ) (may : Bool) (e : End) → end_duty (cond may (taking octets e) e) ≤ end_duty e
given_less octets true e =
    let less = duty_if (duty e.mux) (is_empty e.mux.waiting && nat_lt 0 e.mux.account.held) (record e.mux { waiting = take (taken_count (length octets) e.mux) octets }) e.mux (omega arith) (omega arith) in
    omega (arith, less)
given_less octets false e = omega arith

abbrev first_due : Move → List PlainFrame → ℕ
first_due Speak queue = 0
first_due (Give octets) queue = 0
first_due Deliver [] = 0
first_due Deliver (f ∷ queue) = due_in f.kind f

rest_due : (queue : List PlainFrame) → first_due Deliver queue + dues (without_first queue) ≡ dues queue
rest_due [] = refl
rest_due (f ∷ queue) = refl

near_less : (move : Move) (e : End) → 0 < e.mux.dlci → first_due move e.queue + end_duty (near move e) ≤ end_duty e
near_less Speak e some = let less = spoken_less (next e.mux) e (answers_duty e.mux.answers e.mux refl some) in omega (arith, less)
near_less (Give octets) e some = let less = given_less octets (may_pass e.mux) e in omega (arith, less)
near_less Deliver e some = let all = rest_due e.queue in omega (arith, all)

far_less : (move : Move) (queue : List PlainFrame) (e : End) → end_duty (far move queue e) ≤ end_duty e + first_due move queue
far_less Speak queue e = omega arith
far_less (Give octets) queue e = omega arith
far_less Deliver [] e = omega arith
far_less Deliver (f ∷ queue) e = let less = heard_duty f e.mux in omega (arith, less)

some_user : (d : ℕ) (m : Mux) → 0 < d → m.dlci ≡ d → 0 < m.dlci
some_user d m some is = omega (arith, is, some)

total_less : (d : ℕ) (h : Happening) (p : Pair) → Crossing d p → total (happens h p) ≤ total p
total_less d (Moves (ByInitiator move)) p c =
    let fit = c.forth.fit in
    let mine = near_less move p.initiator (some_user d p.initiator.mux fit.some fit.dlci) in
    let other = far_less move p.initiator.queue p.responder in
    omega (arith, mine, other)
total_less d (Moves (ByResponder move)) p c =
    let fit = c.back.fit in
    let mine = near_less move p.responder (some_user d p.responder.mux fit.some fit.dlci) in
    let other = far_less move p.responder.queue p.initiator in
    omega (arith, mine, other)
total_less d (Closes Initiator) p c = let less = leaves_duty p.initiator.mux in omega (arith, less)
total_less d (Closes Responder) p c = let less = leaves_duty p.responder.mux in omega (arith, less)

-- ---- room

answers_few : (fs : List PlainFrame) → length fs ≤ weights fs
answers_few [] = omega arith
answers_few (f ∷ fs) = let less = answers_few fs in omega (arith, less)

room_of : (m : Mux) → duty m ≤ 9 → has_room m ≡ true
room_of m few = let less = answers_few m.answers in lt-ltb (length m.answers) 16 (omega (arith, less, few))

messages_find : (list : List MessageAnswer) (m : Mux) → duty m + all_due list ≤ 9 → FindRoom list m
messages_find [] m few = tt
messages_find (message ∷ rest) m few =
    let one = one_message_duty message m in
    (room_of m (omega (arith, few)), messages_find rest (if_stands (hears_message message) m.closed m) (omega (arith, few, one)))

find_on : (control : Bool) (list : List MessageAnswer) (m : Mux) → duty m + cond control (all_due list) 0 ≤ 9 → FindRoomOn control list m
find_on true list m few = messages_find list m few
find_on false list m few = tt

finds : (kind : MuxKind) (f : PlainFrame) (m : Mux) → duty m + due_in kind f ≤ 9 → FindsRoom kind f m
finds Sabm f m few = room_of m (omega (arith, few))
finds Ua f m few = tt
finds Dm f m few = tt
finds Disc f m few = room_of m (omega (arith, few))
finds Uih f m few = find_on (f.dlci == 0) (messages f.octets) m few

first_finds : (queue : List PlainFrame) (m : Mux) → duty m + dues queue ≤ 9 → FirstFindsRoom queue m
first_finds [] m few = tt
first_finds (f ∷ queue) m few = finds f.kind f m (omega (arith, few))

-- a pair whose sides keep the rules and have little to do
pub record Tidy (d : ℕ) (p : Pair) : Type 0 where
  pub crossing : Crossing d p
  pub few : total p ≤ 9

pub tidy_step : (d : ℕ) (h : Happening) (p : Pair) → Tidy d p → Tidy d (happens h p)
tidy_step d h p t = let less = total_less d h p t.crossing in record { crossing = crossings.step d h p t.crossing; few = omega (arith, less, t.few) }

pub tidy_room : (d : ℕ) (p : Pair) → Tidy d p → BothHaveRoom p
tidy_room d p t =
    record { forth = first_finds p.initiator.queue p.responder.mux (omega (arith, t.few)); back = first_finds p.responder.queue p.initiator.mux (omega (arith, t.few)) }

tidy_all : (d : ℕ) (hs : List Happening) (p : Pair) → Tidy d p → Tidy d (all_happen hs p)
tidy_all d [] p t = t
tidy_all d (h ∷ hs) p t = tidy_all d hs (happens h p) (tidy_step d h p t)

pub tidy_first : (t : Terms) (largest : ℕ) → Tidy t.dlci (offering t largest)
tidy_first t largest = record { crossing = first_offering t largest; few = omega arith }

pub frames-find_room : FramesFindRoom
frames-find_room t hs = tidy_room t.dlci (all_happen hs (new_pair t)) (tidy_all t.dlci hs (new_pair t) (tidy_first t t.own))

-- ---- over SDUs

sdu_finds : (sdus : List (List ℕ)) (frames : List PlainFrame) (m : Mux) → AreFrames sdus frames → FirstFindsRoom frames m → FirstSduFindsRoom sdus m
sdu_finds [] frames m are room = tt
sdu_finds (sdu ∷ sdus) [] m are room = absurd are
sdu_finds (sdu ∷ sdus) (f ∷ frames) m are room = subst (λ (a : Answer). AnswerFindsRoom a m) (sym are.0) room

end_finds : (s h : LinkEnd) (e g : End) → MirrorsEnd s e → MirrorsEnd h g → FirstFindsRoom e.queue g.mux → FirstSduFindsRoom s.queue h.mux
end_finds s h e g m n room = subst (FirstSduFindsRoom s.queue) (sym n.mux) (sdu_finds s.queue e.queue g.mux m.queue room)

pub sdus-find_room : SdusFindRoom
sdus-find_room t deeds run =
    let l : Link = all_done deeds (new_link t) in
    let p : Pair = all_happen (map happening_of deeds) (new_pair t) in
    let m = sdus-are_frames t deeds run in
    let room = frames-find_room t (map happening_of deeds) in
    record { forth = end_finds l.initiator l.responder p.initiator p.responder m.initiator m.responder room.forth; back = end_finds l.responder l.initiator p.responder p.initiator m.responder m.initiator room.back }
