-- What a UIH frame leaves.
use Rattle.std.proofs.Common.{arith, ◌≡◌, ◌<◌, ℕ, ◌==◌, ◌+◌, ◌/◌, ◌%◌, Bool, true, false, ◌&&◌, ◌||◌, cond, if◌then◌else◌, List, [], ◌∷◌, Option, Some, None, Ok, Err, refl, sym, ap, subst, ◌∙◌, add-zero, add_assoc}
use Rattle.std.specs.Prelude.{not, nat_lt, nat_le, sum_by, is_none, length}
use Rattle.std.proofs.lemmas.List.Sums.{sum_by-cons}
use Rattle.std.proofs.lemmas.Bool.{ne_eqb}
use Rattle.rfcomm_frames.specs.declared.connection.Role.{Role}
use Rattle.rfcomm_frames.specs.declared.connection.Role.TheVariants.{Initiator, Responder}
use Rattle.rfcomm_frames.specs.declared.connection.Dlc.{Dlc}
use Rattle.rfcomm_frames.specs.Frames.{PlainFrame, carries}
use Rattle.rfcomm_frames.specs.Controls.{PlainControl, pn, msc, test, rpn, rls, nsc, other, written}
use Rattle.rfcomm_frames.specs.FrameReading.{MessageAnswer, messages}
use Rattle.rfcomm_frames.specs.Connections.{other_role, is_ended}
use Rattle.rfcomm_frames.specs.Multiplexing.{Connections, carries_on, is_over, is_role, is_data, stated_by, credit_octet, granted_by}
use Rattle.rfcomm_model.specs.declared.state.MuxReason.{MuxReason}
use Rattle.rfcomm_model.specs.declared.state.MuxReason.TheVariants as reasons
use Rattle.rfcomm_model.specs.declared.state.Command.TheVariants.{OpenControl, Agree, OpenUser, Signal, LeaveUser, LeaveControl}
use Rattle.rfcomm_model.specs.declared.state.Asks.{Asks}
use Rattle.rfcomm_model.specs.declared.state.Asks.TheVariants.{Nothing, Due, Awaited}
use Rattle.rfcomm_model.specs.Machine.{Mux, may_pass, closes}
use Rattle.rfcomm_model.specs.Written.{control_frame}
use Rattle.rfcomm_model.specs.Hearing.{has_room, answering, says_dm, tells, counts, lesser, own_credits, terms_agreed, peer_answered, settings_of, credited, charged, with_credits, hears_data, pn_credited, hears_offer, hears_acceptance, hears_other_offer, hears_pn, signals_answered, hears_msc, hears_message, hears_messages, if_stands, hears_uih}
use Rattle.rfcomm_model.specs.Sides.{FindRoom, FindRoomOn}
use Rattle.rfcomm_model.proofs.Keeping.{message_keeps}
use Rattle.rfcomm_model.proofs.Stepping.{Turns, AllQuiet, IsReply, cond_same, unless_closed, unchanged, answered, turns_cond, dm_turns}

-- ---- small laws

with_room : (P : Mux → Type 0) (b : Bool) (x y : Mux) → b ≡ true → (x.closed ≡ None → P x) → (cond b x y).closed ≡ None → P (cond b x y)
with_room P true x y is p stands = p stands
with_room P false x y is p stands = let never : false ≡ true = is in cc

no_more : (m x : Mux) (h : ℕ) (b : Bool) → Turns m m.control m.user h x → Turns m m.control m.user (h + cond b 0 0) x
no_more m x h b t = subst (λ (k : ℕ). Turns m m.control m.user k x) (sym (ap (λ (k : ℕ). h + k) (cond_same b 0) ∙ add-zero h)) t

message_quiet : (m : Mux) (control : PlainControl) → 0 < m.dlci → IsReply m.dlci (control_frame m.role control)
message_quiet m control some = (ap (λ (b : Bool). b && true) (ne_eqb 0 m.dlci (λ e. omega arith)), refl)

tells_turns : (m : Mux) (control : PlainControl) → 0 < m.dlci → Turns m m.control m.user m.account.held (tells control m)
tells_turns m control some =
    turns_cond m m.control m.user m.account.held (nat_le (length (written control)) 40 && has_room m) (answering (control_frame m.role control) m) m
    (answered m m (control_frame m.role control) m.control m.user m.account.held (message_quiet m control some) (unchanged m)) (unchanged m)

-- ---- credits

credited_turns : (m x : Mux) (n h : ℕ) → Turns m m.control m.user h x → (credited n x).closed ≡ None → Turns m m.control m.user (h + n) (credited n x)
credited_turns m x n h t stands =
    unless_closed (Turns m m.control m.user (h + n)) (nat_lt 65535 (x.account.held + n)) reasons.CreditOverflow x (record x { account = record { cap = x.account.cap; held = x.account.held + n; peer = x.account.peer } })
    (λ s. record { control_is = t.control_is; user_is = t.user_is; held_is = ap (λ (k : ℕ). k + n) t.held_is; quiet = t.quiet }) stands

counted : (m x : Mux) (n h : ℕ) (b : Bool) → Turns m m.control m.user h x → (cond b (credited n x) x).closed ≡ None → Turns m m.control m.user (h + cond b n 0) (cond b (credited n x) x)
counted m x n h true t stands = credited_turns m x n h t stands
counted m x n h false t stands = subst (λ (k : ℕ). Turns m m.control m.user k x) (sym (add-zero h)) t

-- ---- PN

offer_turns : (m : Mux) (flow priority frame credits : ℕ) → 0 < m.dlci → has_room m ≡ true → (hears_offer flow priority frame credits m).closed ≡ None
    → Turns m m.control m.user (m.account.held + cond (counts m) (credits % 8) 0) (hears_offer flow priority frame credits m)
offer_turns m flow priority frame credits some room stands =
    let P : Mux → Type 0 = Turns m m.control m.user (m.account.held + cond (counts m) (credits % 8) 0) in
    let agreed : Mux = answering (control_frame m.role (pn false m.dlci 0xE0 priority 0 (lesser m.own frame) 0 (own_credits m))) (record m { frame = lesser m.own frame; agreed = true; stated = true }) in
    let t : Turns m m.control m.user m.account.held agreed =
    answered m (record m { frame = lesser m.own frame; agreed = true; stated = true }) (control_frame m.role (pn false m.dlci 0xE0 priority 0 (lesser m.own frame) 0 (own_credits m))) m.control m.user m.account.held
    (message_quiet m (pn false m.dlci 0xE0 priority 0 (lesser m.own frame) 0 (own_credits m)) some) (record { control_is = refl; user_is = refl; held_is = refl; quiet = λ all. all }) in
    unless_closed P (not (flow / 16 == 0xF)) reasons.NoCreditFlow m (if nat_lt frame 23 then closes reasons.BadFrame m else if has_room m then pn_credited credits agreed else m)
    (unless_closed P (nat_lt frame 23) reasons.BadFrame m (if has_room m then pn_credited credits agreed else m)
    (with_room P (has_room m) (pn_credited credits agreed) m room (counted m agreed (credits % 8) m.account.held (counts m) t))) stands

acceptance_turns : (m : Mux) (flow frame credits : ℕ) → (hears_acceptance flow frame credits m).closed ≡ None
    → Turns m m.control m.user (m.account.held + cond (counts m) (credits % 8) 0) (hears_acceptance flow frame credits m)
acceptance_turns m flow frame credits stands =
    let P : Mux → Type 0 = Turns m m.control m.user (m.account.held + cond (counts m) (credits % 8) 0) in
    let agreed : Mux = record m { frame = lesser m.own frame; agreed = true; asks = terms_agreed m.asks } in
    unless_closed P (not (flow / 16 == 0xE)) reasons.NoCreditFlow m (if nat_lt frame 23 then closes reasons.BadFrame m else pn_credited credits agreed)
    (unless_closed P (nat_lt frame 23) reasons.BadFrame m (pn_credited credits agreed)
    (counted m agreed (credits % 8) m.account.held (counts m) (record { control_is = refl; user_is = refl; held_is = refl; quiet = λ all. all }))) stands

other_turns : (m : Mux) (command : Bool) (n frame : ℕ) → (hears_other_offer command n frame m).closed ≡ None → Turns m m.control m.user m.account.held (hears_other_offer command n frame m)
other_turns m command n frame stands =
    unless_closed (Turns m m.control m.user m.account.held) (nat_lt frame 23) reasons.BadFrame m (if command then says_dm n m else m)
    (λ s. turns_cond m m.control m.user m.account.held command (says_dm n m) m (dm_turns m n) (unchanged m)) stands

pn_by : (m : Mux) (b : Bool) (k : ℕ) (x y : Mux) → (x.closed ≡ None → Turns m m.control m.user (m.account.held + cond (counts m) k 0) x) → (y.closed ≡ None → Turns m m.control m.user m.account.held y)
    → (cond b x y).closed ≡ None → Turns m m.control m.user (m.account.held + cond (counts m) (cond b k 0) 0) (cond b x y)
pn_by m true k x y tx ty stands = tx stands
pn_by m false k x y tx ty stands = no_more m y m.account.held (counts m) (ty stands)

pn_turns : (m : Mux) (command : Bool) (n flow priority frame credits : ℕ) → 0 < m.dlci → has_room m ≡ true → (hears_pn command n flow priority frame credits m).closed ≡ None
    → Turns m m.control m.user (m.account.held + cond (counts m) (cond (n % 64 == m.dlci) (credits % 8) 0) 0) (hears_pn command n flow priority frame credits m)
pn_turns m true n flow priority frame credits some room stands =
    pn_by m (n % 64 == m.dlci) (credits % 8) (hears_offer flow priority frame credits m) (hears_other_offer true (n % 64) frame m)
    (offer_turns m flow priority frame credits some room) (other_turns m true (n % 64) frame) stands
pn_turns m false n flow priority frame credits some room stands =
    pn_by m (n % 64 == m.dlci) (credits % 8) (hears_acceptance flow frame credits m) (hears_other_offer false (n % 64) frame m)
    (acceptance_turns m flow frame credits) (other_turns m false (n % 64) frame) stands

-- ---- the other messages

signals_turns : (asks : Asks) (m : Mux) → Turns m m.control m.user m.account.held (signals_answered asks m)
signals_turns Nothing m = unchanged m
signals_turns (Due command) m = unchanged m
signals_turns (Awaited OpenControl) m = unchanged m
signals_turns (Awaited Agree) m = unchanged m
signals_turns (Awaited OpenUser) m = unchanged m
signals_turns (Awaited Signal) m = record { control_is = refl; user_is = refl; held_is = refl; quiet = λ all. all }
signals_turns (Awaited LeaveUser) m = unchanged m
signals_turns (Awaited LeaveControl) m = unchanged m

msc_turns : (m : Mux) (command : Bool) (address signals : ℕ) → 0 < m.dlci → Turns m m.control m.user m.account.held (hears_msc command address signals m)
msc_turns m true address signals some =
    let noted : Mux = if address / 4 == m.dlci then record m { ready = peer_answered m.ready } else m in
    turns_cond m m.control m.user m.account.held (has_room m) (answering (control_frame m.role (msc false address signals)) noted) m
    (answered m noted (control_frame m.role (msc false address signals)) m.control m.user m.account.held (message_quiet m (msc false address signals) some)
    (turns_cond m m.control m.user m.account.held (address / 4 == m.dlci) (record m { ready = peer_answered m.ready }) m (record { control_is = refl; user_is = refl; held_is = refl; quiet = λ all. all }) (unchanged m)))
    (unchanged m)
msc_turns m false address signals some = turns_cond m m.control m.user m.account.held (address / 4 == m.dlci) (signals_answered m.asks m) m (signals_turns m.asks m) (unchanged m)

message_turns : (m : Mux) (message : MessageAnswer) → 0 < m.dlci → has_room m ≡ true → (hears_message message m).closed ≡ None
    → Turns m m.control m.user (m.account.held + cond (counts m) (stated_by m.dlci message) 0) (hears_message message m)
message_turns m (Ok (pn command n flow priority timer frame retransmissions credits)) some room stands = pn_turns m command n flow priority frame credits some room stands
message_turns m (Ok (msc command address signals)) some room stands = no_more m (hears_msc command address signals m) m.account.held (counts m) (msc_turns m command address signals some)
message_turns m (Ok (test command octets)) some room stands =
    no_more m (if command then tells (test false octets) m else m) m.account.held (counts m)
    (turns_cond m m.control m.user m.account.held command (tells (test false octets) m) m (tells_turns m (test false octets) some) (unchanged m))
message_turns m (Ok (rpn command value)) some room stands =
    no_more m (if command then tells (rpn false (settings_of value)) m else m) m.account.held (counts m)
    (turns_cond m m.control m.user m.account.held command (tells (rpn false (settings_of value)) m) m (tells_turns m (rpn false (settings_of value)) some) (unchanged m))
message_turns m (Ok (rls command value)) some room stands =
    no_more m (if command then tells (rls false value) m else m) m.account.held (counts m)
    (turns_cond m m.control m.user m.account.held command (tells (rls false value) m) m (tells_turns m (rls false value) some) (unchanged m))
message_turns m (Ok (nsc kind)) some room stands = no_more m m m.account.held (counts m) (unchanged m)
message_turns m (Ok (other kind value)) some room stands =
    no_more m (if kind / 2 % 2 == 1 then tells (nsc kind) m else m) m.account.held (counts m)
    (turns_cond m m.control m.user m.account.held (kind / 2 % 2 == 1) (tells (nsc kind) m) m (tells_turns m (nsc kind) some) (unchanged m))
message_turns m (Err refusal) some room stands = cc

-- ---- messages, one after the other

closed_messages : (list : List MessageAnswer) (m : Mux) (reason : MuxReason) → m.closed ≡ Some reason → hears_messages list m ≡ m
closed_messages [] m reason is = refl
closed_messages (message ∷ rest) m reason is = ap (λ (closed : Option MuxReason). hears_messages rest (if_stands (hears_message message) closed m)) is ∙ closed_messages rest m reason is

stood : (list : List MessageAnswer) (m : Mux) (closed : Option MuxReason) → m.closed ≡ closed → (hears_messages list m).closed ≡ None → m.closed ≡ None
stood list m None is stands = is
stood list m (Some reason) is stands =
    let never : Some reason ≡ None = sym is ∙ sym (ap (λ (x : Mux). x.closed) (closed_messages list m reason is)) ∙ stands in
    cc

joined : (h a s : ℕ) (b : Bool) → (h + cond b a 0) + cond b s 0 ≡ h + cond b (a + s) 0
joined h a s true = add_assoc h a s
joined h a s false = omega arith

pub messages_turn : (list : List MessageAnswer) (m : Mux) → 0 < m.dlci → m.closed ≡ None → FindRoom list m → (hears_messages list m).closed ≡ None
    → Turns m m.control m.user (m.account.held + cond (counts m) (sum_by (stated_by m.dlci) list) 0) (hears_messages list m)
messages_turn [] m some standing room stands = no_more m m m.account.held (counts m) (unchanged m)
messages_turn (message ∷ rest) m some standing room stands =
    let next : Mux = if_stands (hears_message message) m.closed m in
    let next_is : next ≡ hears_message message m = ap (λ (closed : Option MuxReason). if_stands (hears_message message) closed m) standing in
    let next_stands : next.closed ≡ None = stood rest next next.closed refl stands in
    let one : Turns m m.control m.user (m.account.held + cond (counts m) (stated_by m.dlci message) 0) next =
    subst (λ (x : Mux). Turns m m.control m.user (m.account.held + cond (counts m) (stated_by m.dlci message) 0) x) (sym next_is)
    (message_turns m message some room.0 (ap (λ (x : Mux). x.closed) (sym next_is) ∙ next_stands)) in
    let kept = message_keeps m.role m.dlci m.largest m.account.cap message m (refl, refl, refl, refl) in
    let dlci_is : next.dlci ≡ m.dlci = ap (λ (x : Mux). x.dlci) next_is ∙ kept.1 in
    let more = messages_turn rest next (omega arith) next_stands room.1 stands in
    let counts_are : counts next ≡ counts m = ap (λ (dlc : Dlc). not (is_ended dlc) && not (is_ended next.control)) one.user_is ∙ ap (λ (dlc : Dlc). not (is_ended m.user) && not (is_ended dlc)) one.control_is in
    let a : ℕ = stated_by m.dlci message in
    let s : ℕ = sum_by (stated_by m.dlci) rest in
    record {
      control_is = more.control_is ∙ one.control_is;
      user_is = more.user_is ∙ one.user_is;
      held_is = more.held_is
          ∙ ap (λ (k : ℕ). k + cond (counts next) (sum_by (stated_by next.dlci) rest) 0) one.held_is
          ∙ ap (λ (b : Bool). (m.account.held + cond (counts m) a 0) + cond b (sum_by (stated_by next.dlci) rest) 0) counts_are
          ∙ ap (λ (d : ℕ). (m.account.held + cond (counts m) a 0) + cond (counts m) (sum_by (stated_by d) rest) 0) dlci_is
          ∙ joined m.account.held a s (counts m)
          ∙ ap (λ (n : ℕ). m.account.held + cond (counts m) n 0) (sym (sum_by-cons (stated_by m.dlci) message rest));
      quiet = λ all. subst (λ (d : ℕ). AllQuiet d (hears_messages rest next).answers) dlci_is (more.quiet (subst (λ (d : ℕ). AllQuiet d next.answers) (sym dlci_is) (one.quiet all)));
    }

-- ---- information

charged_turns : (m x : Mux) (octets : List ℕ) (h : ℕ) → Turns m m.control m.user h x → (charged octets x).closed ≡ None → Turns m m.control m.user h (charged octets x)
charged_turns m x [] h t stands = t
charged_turns m x (octet ∷ octets) h t stands =
    unless_closed (Turns m m.control m.user h) (x.account.peer == 0) reasons.Overdrawn x _
    (λ s. record { control_is = t.control_is; user_is = t.user_is; held_is = t.held_is; quiet = t.quiet }) stands

with_credits_turns : (m : Mux) (credits : Option ℕ) → (with_credits credits m).closed ≡ None → Turns m m.control m.user (m.account.held + credit_octet credits) (with_credits credits m)
with_credits_turns m None stands = subst (λ (k : ℕ). Turns m m.control m.user k m) (sym (add-zero m.account.held)) (unchanged m)
with_credits_turns m (Some n) stands = credited_turns m m n m.account.held (unchanged m) stands

data_if : (m x : Mux) (octets : List ℕ) (h : ℕ) (closed : Option MuxReason) → x.closed ≡ closed → (x.closed ≡ None → Turns m m.control m.user h x) → (if_stands (charged octets) closed x).closed ≡ None
    → Turns m m.control m.user h (if_stands (charged octets) closed x)
data_if m x octets h None is t stands = charged_turns m x octets h (t is) stands
data_if m x octets h (Some reason) is t stands = let never : Some reason ≡ None = sym is ∙ stands in cc

pub data_turns : (m : Mux) (f : PlainFrame) → (hears_data f m).closed ≡ None → Turns m m.control m.user (m.account.held + credit_octet f.credits) (hears_data f m)
data_turns m f stands =
    let x : Mux = with_credits f.credits m in
    data_if m x f.octets (m.account.held + credit_octet f.credits) x.closed refl (with_credits_turns m f.credits) stands

-- ---- a UIH frame

abbrev pub lines_of : Mux → Connections
lines_of m = record { control = m.control; user = m.user }

pub same_role : (role : Role) → is_role role role ≡ true
same_role Initiator = refl
same_role Responder = refl

not_or : (a b : Bool) → (not a && not b) ≡ not (a || b)
not_or true b = refl
not_or false b = refl

-- what is granted, by the channel of the frame
granted_is : (m : Mux) (f : PlainFrame) → carries f.kind ≡ true
    → granted_by m.dlci m.role (lines_of m) (record { from = other_role m.role; frame = f })
    ≡ cond ((f.dlci == 0) && counts m) (sum_by (stated_by m.dlci) (messages f.octets)) 0 + cond ((f.dlci == m.dlci) && carries_on (lines_of m)) (credit_octet f.credits) 0
granted_is m f carries_is =
    let here : (d : ℕ) → is_data d (other_role m.role) (record { from = other_role m.role; frame = f }) ≡ (f.dlci == d) = λ d.
    ap (λ (b : Bool). b && ((f.dlci == d) && carries f.kind)) (same_role (other_role m.role)) ∙ ap (λ (b : Bool). (f.dlci == d) && b) carries_is ∙ and_true (f.dlci == d) in
    ap (λ (b : Bool). cond (b && not (is_over (lines_of m))) (sum_by (stated_by m.dlci) (messages f.octets)) 0 + cond (is_data m.dlci (other_role m.role) (record { from = other_role m.role; frame = f }) && carries_on (lines_of m)) (credit_octet f.credits) 0) (here 0)
    ∙ ap (λ (b : Bool). cond ((f.dlci == 0) && not (is_over (lines_of m))) (sum_by (stated_by m.dlci) (messages f.octets)) 0 + cond (b && carries_on (lines_of m)) (credit_octet f.credits) 0) (here m.dlci)
    ∙ ap (λ (b : Bool). cond ((f.dlci == 0) && b) (sum_by (stated_by m.dlci) (messages f.octets)) 0 + cond ((f.dlci == m.dlci) && carries_on (lines_of m)) (credit_octet f.credits) 0) (sym (not_or (is_ended m.user) (is_ended m.control)))
  where
    and_true : (b : Bool) → (b && true) ≡ b
    and_true true = refl
    and_true false = refl

at_held : (m x : Mux) (h k : ℕ) → h ≡ k → Turns m m.control m.user h x → Turns m m.control m.user k x
at_held m x h k is t = subst (λ (n : ℕ). Turns m m.control m.user n x) is t

uih_by : (m : Mux) (a b pass : Bool) (s k : ℕ) (x y : Mux) → (a ≡ true → b ≡ false)
    → (a ≡ true → x.closed ≡ None → Turns m m.control m.user (m.account.held + cond (counts m) s 0) x)
    → (y.closed ≡ None → Turns m m.control m.user (m.account.held + k) y)
    → (cond a x (cond (b && pass) y m)).closed ≡ None
    → Turns m m.control m.user (m.account.held + (cond (a && counts m) s 0 + cond (b && pass) k 0)) (cond a x (cond (b && pass) y m))
uih_by m true true pass s k x y one tx ty stands = let never : true ≡ false = one refl in cc
uih_by m true false pass s k x y one tx ty stands = at_held m x (m.account.held + cond (counts m) s 0) (m.account.held + (cond (counts m) s 0 + 0)) (ap (λ (n : ℕ). m.account.held + n) (sym (add-zero (cond (counts m) s 0)))) (tx refl stands)
uih_by m false true true s k x y one tx ty stands = at_held m y (m.account.held + k) (m.account.held + (0 + k)) (omega arith) (ty stands)
uih_by m false true false s k x y one tx ty stands = at_held m m m.account.held (m.account.held + (0 + 0)) (omega arith) (unchanged m)
uih_by m false false pass s k x y one tx ty stands = at_held m m m.account.held (m.account.held + (0 + 0)) (omega arith) (unchanged m)

room_on : (list : List MessageAnswer) (m : Mux) (control : Bool) → control ≡ true → FindRoomOn control list m → FindRoom list m
room_on list m true is room = room
room_on list m false is room = let never : false ≡ true = is in cc

pub uih_turns : (m : Mux) (f : PlainFrame) → carries f.kind ≡ true → (apart : (f.dlci == 0) ≡ true → (f.dlci == m.dlci) ≡ false) → 0 < m.dlci → m.closed ≡ None → FindRoomOn (f.dlci == 0) (messages f.octets) m → (hears_uih f m).closed ≡ None
    → Turns m m.control m.user (m.account.held + granted_by m.dlci m.role (lines_of m) (record { from = other_role m.role; frame = f })) (hears_uih f m)
uih_turns m f carries_is apart some standing room stands =
    let pass_is : may_pass m ≡ carries_on (lines_of m) = ap (λ (closed : Option MuxReason). is_none closed && carries_on (lines_of m)) standing in
    let stated : ℕ = sum_by (stated_by m.dlci) (messages f.octets) in
    let moved = uih_by m (f.dlci == 0) (f.dlci == m.dlci) (may_pass m) stated (credit_octet f.credits) (hears_messages (messages f.octets) m) (hears_data f m) apart
    (λ is. messages_turn (messages f.octets) m some standing (room_on (messages f.octets) m (f.dlci == 0) is room)) (data_turns m f) stands in
    at_held m (hears_uih f m) (m.account.held + (cond ((f.dlci == 0) && counts m) stated 0 + cond ((f.dlci == m.dlci) && may_pass m) (credit_octet f.credits) 0))
    (m.account.held + granted_by m.dlci m.role (lines_of m) (record { from = other_role m.role; frame = f }))
    (ap (λ (n : ℕ). m.account.held + n)
    (ap (λ (b : Bool). cond ((f.dlci == 0) && counts m) stated 0 + cond ((f.dlci == m.dlci) && b) (credit_octet f.credits) 0) pass_is ∙ sym (granted_is m f carries_is)))
    moved
