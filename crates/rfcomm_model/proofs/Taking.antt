-- What a side sent is a front of what it took.
use Rattle.std.proofs.Common.{arith, ◌≡◌, ◌⊎◌, inl, inr, ◌<◌, ℕ, ◌==◌, Bool, true, false, ◌&&◌, cond, List, [], ◌∷◌, ◌++◌, Option, Some, None, Ok, Err, refl, sym, ap, subst, ◌∙◌, append_assoc}
use Rattle.std.specs.Prelude.{not, nat_lt, nat_le, is_none, length, take}
use Rattle.std.proofs.lemmas.List.{append-nil}
use Rattle.std.proofs.lemmas.Bool.{eq-eqb}
use Rattle.rfcomm_frames.specs.declared.connection.Role.{Role}
use Rattle.rfcomm_frames.specs.Frames.{PlainFrame, carries}
use Rattle.rfcomm_frames.specs.Answers.{Answer}
use Rattle.rfcomm_frames.specs.FrameReading.{frame_answer, is_empty}
use Rattle.rfcomm_frames.specs.Connections.{other_role, is_open, is_ended}
use Rattle.rfcomm_frames.specs.Multiplexing.{Framed, is_role, is_data, information, carries_on}
use Rattle.rfcomm_credits.specs.Accounts.{grant_of}
use Rattle.rfcomm_model.specs.declared.state.MuxReason.{MuxReason}
use Rattle.rfcomm_model.specs.declared.state.Command.{Command}
use Rattle.rfcomm_model.specs.declared.state.Command.TheVariants.{OpenControl, Agree, OpenUser, Signal, LeaveUser, LeaveControl}
use Rattle.rfcomm_model.specs.declared.state.Asks.{Asks}
use Rattle.rfcomm_model.specs.declared.state.Asks.TheVariants.{Nothing, Due, Awaited}
use Rattle.rfcomm_model.specs.Machine.{Mux, is_both, may_pass, is_ready, is_leaving, taken_count}
use Rattle.rfcomm_model.specs.Written.{data_frame}
use Rattle.rfcomm_model.specs.Hearing.{hears_answer}
use Rattle.rfcomm_model.specs.Saying.{Said, says, says_data, says_grant, first_of, frame_of_command, commanded, says_command, says_answer, next}
use Rattle.rfcomm_model.specs.Sides.{Deed, Hears, Says, Sends, Leaves, Side, heard_frame, said_by, done, all_done, new_side}
use Rattle.rfcomm_model.specs.Taken.{taken_of, all_taken, all_sent, SendsTaken, TakenIsSent}
use Rattle.rfcomm_model.proofs.Stepping.{AllQuiet, IsQuiet, IsReply, all_more, and_false, cond_same}
use Rattle.rfcomm_model.proofs.Talking.{lines_of, same_role}
use Rattle.rfcomm_model.proofs.Walking.{answer_walks}
use Rattle.rfcomm_model.proofs.Giving.{on_control}
use Rattle.rfcomm_model.proofs.Ended.{done_keeps}
use Rattle.rfcomm_model.proofs.Reading.{not_other}

-- ---- a frame is heard

-- it was open where it is, with the octets that wait
record Waits (d : ℕ) (closed : Option MuxReason) (waiting : List ℕ) (m : Mux) : Type 0 where
  quiet : AllQuiet d m.answers
  kept : m.closed ≡ None → (closed ≡ None) × (m.waiting ≡ waiting)

heard_waits : (d : ℕ) → 0 < d → (a : Answer) (m : Mux) → AllQuiet d m.answers → Waits d m.closed m.waiting (hears_answer a m)
heard_waits d some a m quiet =
    answer_walks d some (Waits d m.closed m.waiting)
    (λ reason x w. record { quiet = w.quiet; kept = λ e. let never : Some reason ≡ None = e in cc })
    (λ f x reply w. record { quiet = all_more (IsReply d) x.answers f w.quiet reply; kept = w.kept })
    (λ control user asks ready held peer frame agreed stated x w. record { quiet = w.quiet; kept = w.kept })
    a m (record { quiet = quiet; kept = λ e. (e, refl) })

pub sent_more : (d : ℕ) (role : Role) (fs : List Framed) (f : Framed) → all_sent d role (fs ++ f ∷ []) ≡ all_sent d role fs ++ information d role f
sent_more d role [] f = append-nil (information d role f)
sent_more d role (g ∷ fs) f = ap (λ (xs : List ℕ). information d role g ++ xs) (sent_more d role fs f) ∙ sym (append_assoc (information d role g) (all_sent d role fs) (information d role f))

quiet_sends : (d : ℕ) (role from : Role) (frame : PlainFrame) → IsQuiet d frame → information d role (record { from = from; frame = frame }) ≡ []
quiet_sends d role from frame quiet =
    ap (λ (b : Bool). cond (is_role role from && b) frame.octets []) quiet ∙ ap (λ (b : Bool). cond b frame.octets []) (and_false (is_role role from))

pub peer_sends : (d : ℕ) (role : Role) (f : PlainFrame) → information d role (record { from = other_role role; frame = f }) ≡ []
peer_sends d role f = ap (λ (b : Bool). cond (b && ((f.dlci == d) && carries f.kind)) f.octets []) (not_other role)

heard_sends : (d : ℕ) (role : Role) (a : Answer) (fs : List Framed) → all_sent d role (fs ++ heard_frame (other_role role) a) ≡ all_sent d role fs
heard_sends d role (Ok f) fs = sent_more d role fs (record { from = other_role role; frame = f }) ∙ ap (λ (xs : List ℕ). all_sent d role fs ++ xs) (peer_sends d role f) ∙ append-nil (all_sent d role fs)
heard_sends d role (Err refusal) fs = ap (all_sent d role) (append-nil fs)

-- ---- a frame is sent

-- it has none of the octets that wait, or all of them where octets pass
pub record Passes (m : Mux) (said : Said) : Type 0 where
  pub quiet : AllQuiet m.dlci said.after.answers
  pub closed_is : said.after.closed ≡ m.closed
  pub flow : ((information m.dlci m.role (record { from = m.role; frame = said.frame }) ≡ []) × (said.after.waiting ≡ m.waiting))
      ⊎ ((m.closed ≡ None) × (information m.dlci m.role (record { from = m.role; frame = said.frame }) ≡ m.waiting) × (said.after.waiting ≡ []) × (carries_on (lines_of m) ≡ true))

abbrev pub SaysPasses : Mux → Option Said → Type 0
SaysPasses m None = Unit {0}
SaysPasses m (Some said) = Passes m said

plain : (m : Mux) (said : Said) → IsQuiet m.dlci said.frame → AllQuiet m.dlci said.after.answers → said.after.closed ≡ m.closed → said.after.waiting ≡ m.waiting → Passes m said
plain m said quiet all closed waiting = record { quiet = all; closed_is = closed; flow = inl (quiet_sends m.dlci m.role m.role said.frame quiet, waiting) }

command_passes : (command : Command) (m : Mux) → 0 < m.dlci → AllQuiet m.dlci m.answers → Passes m (says (frame_of_command command m) (commanded command m))
command_passes OpenControl m some all = plain m (says (frame_of_command OpenControl m) (commanded OpenControl m)) (on_control m.dlci false some) all refl refl
command_passes Agree m some all = plain m (says (frame_of_command Agree m) (commanded Agree m)) (on_control m.dlci true some) all refl refl
command_passes OpenUser m some all = plain m (says (frame_of_command OpenUser m) (commanded OpenUser m)) (and_false (m.dlci == m.dlci)) all refl refl
command_passes Signal m some all = plain m (says (frame_of_command Signal m) (commanded Signal m)) (on_control m.dlci true some) all refl refl
command_passes LeaveUser m some all = plain m (says (frame_of_command LeaveUser m) (commanded LeaveUser m)) (and_false (m.dlci == m.dlci)) all refl refl
command_passes LeaveControl m some all = plain m (says (frame_of_command LeaveControl m) (commanded LeaveControl m)) (on_control m.dlci false some) all refl refl

first_passes : (m : Mux) (a b : Option Said) → SaysPasses m a → SaysPasses m b → SaysPasses m (first_of a b)
first_passes m None b p q = q
first_passes m (Some said) b p q = p

if_passes : (m : Mux) (b : Bool) (said : Said) → (b ≡ true → Passes m said) → SaysPasses m (cond b (Some said) None)
if_passes m true said p = p refl
if_passes m false said p = tt

was_ready : (a b x : Bool) (closed : Option MuxReason) → ((a && (is_none closed && b)) && x) ≡ true → closed ≡ None
was_ready a b x None is = refl
was_ready true b x (Some reason) is = let never : false ≡ true = is in cc
was_ready false b x (Some reason) is = let never : false ≡ true = is in cc

was_carrying : (a b x : Bool) (closed : Option MuxReason) → ((a && (is_none closed && b)) && x) ≡ true → b ≡ true
was_carrying true true x None is = refl
was_carrying true false x None is = let never : false ≡ true = is in cc
was_carrying false b x None is = let never : false ≡ true = is in cc
was_carrying true b x (Some reason) is = let never : false ≡ true = is in cc
was_carrying false b x (Some reason) is = let never : false ≡ true = is in cc

free_passes : (m : Mux) → AllQuiet m.dlci m.answers → SaysPasses m (first_of (says_grant m) (says_data m))
free_passes m all =
    let due : Bool = not (is_empty m.waiting) && nat_lt 0 m.account.held in
    let here : is_data m.dlci m.role (record { from = m.role; frame = data_frame m.role m.dlci m.waiting }) ≡ true =
    ap (λ (b : Bool). b && ((m.dlci == m.dlci) && true)) (same_role m.role) ∙ ap (λ (b : Bool). b && true) (eq-eqb m.dlci m.dlci refl) in
    first_passes m (says_grant m) (says_data m)
    (if_passes m (may_pass m && nat_lt 0 (grant_of m.account)) _ (λ t. record { quiet = all; closed_is = refl; flow = inl (cond_same _ [], refl) }))
    (if_passes m (is_ready m && due) _ (λ t. record {
      quiet = all;
      closed_is = refl;
      flow = inr (
        was_ready (is_both m.ready) (is_open m.user && not (is_ended m.control)) due m.closed t,
        ap (λ (b : Bool). cond b m.waiting []) here,
        refl,
        was_carrying (is_both m.ready) (is_open m.user && not (is_ended m.control)) due m.closed t,
      );
    }))

asks_passes : (asks : Asks) (m : Mux) → 0 < m.dlci → AllQuiet m.dlci m.answers → SaysPasses m (says_command asks m)
asks_passes Nothing m some all = free_passes m all
asks_passes (Due command) m some all = command_passes command m some all
asks_passes (Awaited command) m some all = free_passes m all

pub says_passes : (answers : List PlainFrame) (m : Mux) → 0 < m.dlci → AllQuiet m.dlci m.answers → AllQuiet m.dlci answers → SaysPasses m (says_answer answers m)
says_passes [] m some all these = asks_passes m.asks m some all
says_passes (answer ∷ rest) m some all these = plain m (says answer (record m { answers = rest })) these.0.0 these.1 refl refl

-- ---- a side

pub record Goes (d : ℕ) (role : Role) (side : Side) (taken : List ℕ) : Type 0 where
  pub quiet : AllQuiet d side.mux.answers
  pub sends : SendsTaken d role side taken

heard_goes : (sdu : List ℕ) (side : Side) (taken : List ℕ) → 0 < side.mux.dlci → Goes side.mux.dlci side.mux.role side taken → Goes side.mux.dlci side.mux.role (done (Hears sdu) side) taken
heard_goes sdu side taken some g =
    let m : Mux = side.mux in
    let w = heard_waits m.dlci some (frame_answer sdu) m g.quiet in
    let s = g.sends in
    record {
      quiet = w.quiet;
      sends = record {
        rest = s.rest;
        front = s.front ∙ ap (λ (xs : List ℕ). xs ++ s.rest) (sym (heard_sends m.dlci m.role (frame_answer sdu) side.talk));
        waits = λ e. let kept = w.kept e in s.waits kept.0 ∙ sym kept.1;
      };
    }

said_goes : (side : Side) (o : Option Said) (taken : List ℕ) → SaysPasses side.mux o → Goes side.mux.dlci side.mux.role side taken → Goes side.mux.dlci side.mux.role (said_by o side) taken
said_goes side None taken p g = g
said_goes side (Some said) taken p g =
    let m : Mux = side.mux in
    let s = g.sends in
    let sent : List ℕ = all_sent m.dlci m.role side.talk in
    let fr : Framed = record { from = m.role; frame = said.frame } in
    let more = sent_more m.dlci m.role side.talk fr in
    elim p.flow [
      | inl still ↦ record {
        quiet = p.quiet;
        sends = record {
          rest = s.rest;
          front = s.front ∙ ap (λ (xs : List ℕ). xs ++ s.rest) (sym (more ∙ ap (λ (xs : List ℕ). sent ++ xs) still.0 ∙ append-nil sent));
          waits = λ e. s.waits (sym p.closed_is ∙ e) ∙ sym still.1;
        };
      }
      | inr gone ↦ record {
        quiet = p.quiet;
        sends = record {
          rest = [];
          front = s.front ∙ ap (λ (xs : List ℕ). sent ++ xs) (s.waits gone.0 ∙ sym gone.1) ∙ sym more ∙ sym (append-nil (all_sent m.dlci m.role (side.talk ++ fr ∷ [])));
          waits = λ e. sym gone.2;
        };
      }
    ]

taken_waits : (m : Mux) (waiting octets : List ℕ) (here some : Bool) (n : ℕ)
    → (cond here (cond (is_empty waiting && some) (record m { waiting = take (cond (is_empty waiting && some) n 0) octets }) (record m { waiting = waiting })) (record m { waiting = waiting })).waiting
    ≡ waiting ++ cond here (take (cond (is_empty waiting && some) n 0) octets) []
taken_waits m [] octets true true n = refl
taken_waits m [] octets true false n = refl
taken_waits m [] octets false some n = refl
taken_waits m (octet ∷ waiting) octets true some n = sym (append-nil (octet ∷ waiting))
taken_waits m (octet ∷ waiting) octets false some n = sym (append-nil (octet ∷ waiting))

given_closed : (m x : Mux) (a b : Bool) → x.closed ≡ m.closed → (cond a (cond b x m) m).closed ≡ m.closed
given_closed m x true true is = is
given_closed m x true false is = refl
given_closed m x false b is = refl

given_goes : (octets : List ℕ) (side : Side) (taken : List ℕ) → Goes side.mux.dlci side.mux.role side taken → Goes side.mux.dlci side.mux.role (done (Sends octets) side) (taken ++ taken_of (Sends octets) side.mux)
given_goes octets side taken g =
    let m : Mux = side.mux in
    let s = g.sends in
    let t : List ℕ = taken_of (Sends octets) m in
    let free : Bool = is_empty m.waiting && nat_lt 0 m.account.held in
    let x : Mux = record m { waiting = take (taken_count (length octets) m) octets } in
    record {
      quiet = given_quiet m.dlci m x (may_pass m) free g.quiet;
      sends = record {
        rest = s.rest ++ t;
        front = ap (λ (xs : List ℕ). xs ++ t) s.front ∙ append_assoc (all_sent m.dlci m.role side.talk) s.rest t;
        waits = λ e. ap (λ (xs : List ℕ). xs ++ t) (s.waits (sym (given_closed m x (may_pass m) free refl) ∙ e))
            ∙ sym (taken_waits m m.waiting octets (may_pass m) (nat_lt 0 m.account.held) (cond (nat_le (length octets) m.frame) (length octets) m.frame));
      };
    }
  where
    given_quiet : (d : ℕ) (m x : Mux) (a b : Bool) → AllQuiet d m.answers → AllQuiet d (cond a (cond b (record m { waiting = x.waiting }) m) m).answers
    given_quiet d m x true true all = all
    given_quiet d m x true false all = all
    given_quiet d m x false b all = all

left_goes : (side : Side) (taken : List ℕ) → Goes side.mux.dlci side.mux.role side taken → Goes side.mux.dlci side.mux.role (done Leaves side) taken
left_goes side taken g = left_if (is_none side.mux.closed && not (is_leaving side.mux.asks))
  where
    left_if : (b : Bool) → Goes side.mux.dlci side.mux.role (record { mux = cond b (record side.mux { asks = Due LeaveUser }) side.mux; talk = side.talk; got = side.got }) taken
    left_if true = record { quiet = g.quiet; sends = let s = g.sends in record { rest = s.rest; front = s.front; waits = s.waits } }
    left_if false = g

-- nothing is taken
none_taken : (d : ℕ) (role : Role) (side : Side) (taken : List ℕ) → Goes d role side taken → Goes d role side (taken ++ [])
none_taken d role side taken g = subst (Goes d role side) (sym (append-nil taken)) g

pub next_goes : (deed : Deed) (side : Side) (taken : List ℕ) → 0 < side.mux.dlci → Goes side.mux.dlci side.mux.role side taken → Goes side.mux.dlci side.mux.role (done deed side) (taken ++ taken_of deed side.mux)
next_goes (Hears sdu) side taken some g = none_taken side.mux.dlci side.mux.role (done (Hears sdu) side) taken (heard_goes sdu side taken some g)
next_goes Says side taken some g =
    none_taken side.mux.dlci side.mux.role (done Says side) taken (said_goes side (next side.mux) taken (says_passes side.mux.answers side.mux some g.quiet g.quiet) g)
next_goes (Sends octets) side taken some g = given_goes octets side taken g
next_goes Leaves side taken some g = none_taken side.mux.dlci side.mux.role (done Leaves side) taken (left_goes side taken g)

all_go : (d : ℕ) (role : Role) (deeds : List Deed) (side : Side) (taken : List ℕ) → side.mux.dlci ≡ d → side.mux.role ≡ role → 0 < d → Goes d role side taken → SendsTaken d role (all_done deeds side) (taken ++ all_taken deeds side)
all_go d role [] side taken d_is r_is some g = subst (SendsTaken d role side) (sym (append-nil taken)) g.sends
all_go d role (deed ∷ deeds) side taken d_is r_is some g =
    let m : Mux = side.mux in
    let after : Side = done deed side in
    let more : List ℕ = taken ++ taken_of deed m in
    let kept = done_keeps deed side in
    let here : Goes m.dlci m.role side taken = subst (λ (k : ℕ). Goes k m.role side taken) (sym d_is) (subst (λ (x : Role). Goes d x side taken) (sym r_is) g) in
    let then = next_goes deed side taken (omega (arith, some, d_is)) here in
    subst (SendsTaken d role (all_done deeds after)) (append_assoc taken (taken_of deed m) (all_taken deeds after))
    (all_go d role deeds after more (kept.1 ∙ d_is) (kept.0 ∙ r_is) some (subst (λ (k : ℕ). Goes k role after more) d_is (subst (λ (x : Role). Goes m.dlci x after more) r_is then)))

pub taken-is_sent : TakenIsSent
taken-is_sent role dlci largest own cap deeds some =
    all_go dlci role deeds (new_side role dlci largest own cap) [] refl refl some (record { quiet = tt; sends = record { rest = []; front = refl; waits = λ e. refl } })
