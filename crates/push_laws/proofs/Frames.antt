-- The frames of a multiplexer, as the SDUs on its channel show them.
use Rattle.std.proofs.Common.{Bool, true, false, cond, eqb, ltb, ◌||◌, ◌&&◌, ◌+◌, ◌-◌, ◌≤◌, ◌≡◌, ℕ, List, [], ◌∷◌, ◌++◌, length, take, Option, Some, None, Ok, Err, inl, inr, refl, sym, ap, subst, ◌∙◌, arith, append_assoc, append-nil}
use Rattle.std.specs.Prelude.{pos, ◌-ℤ◌, not, is_none, is_some}
use Rattle.std.specs.List.{cons_option}
use Rattle.std.proofs.lemmas.Bool.{cases_Bool, cond-true, and_parts}
use Rattle.std.proofs.Math.IntN.{pos-+ℤ-pos, +ℤ-neg_ℤ_cancel}
use Rattle.std.proofs.lemmas.List.Sums.{sum_by-append, sum_by-cons}
use Rattle.std.proofs.lemmas.List.Elements.{filter_map-append}
use Rattle.link_talk.specs.bt_base.specs.Octets.{IsOctets}
use Rattle.push_model.specs.rfcomm_frames.specs.declared.connection.Dlc.{Dlc}
use Rattle.push_model.specs.rfcomm_frames.specs.declared.closing.Closing.{Closing}
use Rattle.push_model.specs.rfcomm_frames.specs.declared.connection.Role.{Role}
use Rattle.push_model.specs.rfcomm_frames.specs.declared.connection.Role.TheVariants.{Initiator, Responder}
use Rattle.push_model.specs.rfcomm_frames.specs.declared.frame.MuxKind.{MuxKind}
use Rattle.push_model.specs.rfcomm_frames.specs.declared.frame.MuxKind.TheVariants.{Sabm, Ua, Dm, Disc, Uih}
use Rattle.push_model.specs.rfcomm_frames.specs.Answers.{Answer}
use Rattle.push_model.specs.rfcomm_frames.specs.Frames.{PlainFrame, Spells, carries}
use Rattle.push_model.specs.rfcomm_frames.specs.FrameReading.{frame_answer, is_empty}
use Rattle.push_model.specs.rfcomm_frames.specs.Connections.{other_role, turned}
use Rattle.push_model.specs.rfcomm_frames.specs.Multiplexing.{Passed, Framed, Connections, framed, frames, no_connections, connections_after, carries_on, information, carried, granted_by, granted, spent_by, spent}
use Rattle.push_model.specs.rfcomm_frames.specs.Ending.{Course, no_course, closing_said, course_after, is_last, has_last, to_closing}
use Rattle.push_model.specs.rfcomm_frames.specs.LookingBack.{connections}
use Rattle.push_model.specs.rfcomm_frames.specs.UserChannel.{user_octets, credits_held}
use Rattle.push_model.specs.rfcomm_frames.proofs.Ending.{counting, to_closing-more}
use Rattle.push_model.specs.rfcomm_frames.proofs.LookingBack.{looks-back}
use Rattle.push_model.specs.rfcomm_frames.proofs.FrameReading.{spelled_answered}
use Rattle.push_model.specs.rfcomm_model.specs.declared.state.Asks.TheVariants.{Due}
use Rattle.push_model.specs.rfcomm_model.specs.declared.state.Command.TheVariants.{LeaveUser}
use Rattle.push_model.specs.rfcomm_model.specs.Machine.{Mux, Kept, may_pass, is_ready, is_leaving, taken_count, sends, leaves}
use Rattle.push_model.specs.rfcomm_model.specs.Hearing.{hears, up}
use Rattle.push_model.specs.rfcomm_model.specs.Saying.{Said, next, after_said}
use Rattle.push_model.specs.rfcomm_model.specs.Sides.{connections_of, Deed, Hears, Says, Sends, Leaves, Side, handed, heard_frame, said_by, given, done, all_done, new_side, DeedFindsRoom, AnswerFindsRoom, AlwaysRoom}
use Rattle.push_model.specs.rfcomm_model.specs.ClosedSides.{IsOrderly, ReadsToClosing}
use Rattle.push_model.specs.rfcomm_model.proofs.Ended.{closed-sides_read, to_all}
use Rattle.push_model.specs.rfcomm_model.proofs.Keeping.{answer_keeps, next_keeps}
use Rattle.push_model.specs.rfcomm_model.proofs.Reading.{own_grants, granted_more, spent_more, said_keeps}
use Rattle.push_model.specs.rfcomm_model.proofs.Stepping.{cond_same}
use Rattle.push_laws.specs.Premises.{is_answer, leaves_or_controls, is_apart, may_overtake}
use Rattle.push_laws.proofs.Overtaking.{his, swapped, under}

-- ---- the octets of the peer

abbrev pub reading_from : Connections → Course → List Framed → List ℕ
reading_from lines course fs = carried 18 Initiator lines (to_closing 18 Responder course fs)

abbrev pub reading : List Framed → List ℕ
reading fs = reading_from no_connections no_course fs

abbrev pub own : PlainFrame → Framed
own frame = record { from = Responder; frame = frame }

nothing_either : (b : Bool) → cond b [] [] ≡ (let none : List ℕ = [] in none)
nothing_either true = refl
nothing_either false = refl

-- an own frame brings none
own_ends : (closed : Bool) (fs : List Framed) (f : PlainFrame) → carried 18 Initiator no_connections (fs ++ cons_option (counting closed (Some (own f))) []) ≡ carried 18 Initiator no_connections fs
own_ends true fs f = ap (carried 18 Initiator no_connections) (append-nil fs)
own_ends false fs f =
    looks-back.brings 18 Initiator fs (own f) ∙ ap (λ (xs : List ℕ). carried 18 Initiator no_connections fs ++ xs) (nothing_either (carries_on (connections 18 fs))) ∙ append-nil (carried 18 Initiator no_connections fs)

own_end : (fs : List Framed) (f : PlainFrame) → reading (fs ++ own f ∷ []) ≡ reading fs
own_end fs f = ap (carried 18 Initiator no_connections) (to_closing-more 18 Responder no_course fs (Some (own f))) ∙ own_ends (has_last 18 Responder no_course fs) (to_closing 18 Responder no_course fs) f

turned_quiet : (kind : MuxKind) (dlc : Dlc) → carries kind ≡ true → turned Responder kind dlc ≡ dlc
turned_quiet Sabm dlc e = absurd (let f : false ≡ true = e in cc)
turned_quiet Ua dlc e = absurd (let f : false ≡ true = e in cc)
turned_quiet Dm dlc e = absurd (let f : false ≡ true = e in cc)
turned_quiet Disc dlc e = absurd (let f : false ≡ true = e in cc)
turned_quiet Uih dlc e = refl

said_quiet : (kind : MuxKind) (n : ℕ) (pf : Bool) (c : Closing) → carries kind ≡ true → closing_said 18 kind n pf c ≡ c
said_quiet Sabm n pf c e = refl
said_quiet Ua n pf c e = refl
said_quiet Dm n pf c e = refl
said_quiet Disc n pf c e = absurd (let f : false ≡ true = e in cc)
said_quiet Uih n pf c e = refl

line_quiet : (f : PlainFrame) (n : ℕ) (dlc : Dlc) → carries f.kind ≡ true → cond (eqb f.dlci n) (cond f.pf (turned Responder f.kind dlc) dlc) dlc ≡ dlc
line_quiet f n dlc e = ap (λ (d : Dlc). cond (eqb f.dlci n) (cond f.pf d dlc) dlc) (turned_quiet f.kind dlc e) ∙ ap (λ (d : Dlc). cond (eqb f.dlci n) d dlc) (cond_same f.pf dlc) ∙ cond_same (eqb f.dlci n) dlc

lines_quiet : (f : PlainFrame) (lines : Connections) → carries f.kind ≡ true → connections_after 18 lines (own f) ≡ lines
lines_quiet f lines e =
    ap (λ (d : Dlc). (let c : Connections = record { control = d; user = cond (eqb f.dlci 18) (cond f.pf (turned Responder f.kind lines.user) lines.user) lines.user } in c)) (line_quiet f 0 lines.control e)
    ∙ ap (λ (d : Dlc). (let c : Connections = record { control = lines.control; user = d } in c)) (line_quiet f 18 lines.user e)

course_quiet : (f : PlainFrame) (course : Course) → carries f.kind ≡ true → course_after 18 Responder course (own f) ≡ course
course_quiet f course e =
    ap (λ (l : Connections). (let c : Course = record { lines = l; closing = closing_said 18 f.kind f.dlci f.pf course.closing } in c)) (lines_quiet f course.lines e)
    ∙ ap (λ (l : Closing). (let c : Course = record { lines = course.lines; closing = l } in c)) (said_quiet f.kind f.dlci f.pf course.closing e)

on_alike : (last : Bool) (lines : Connections) (a b : List Framed) → carried 18 Initiator lines a ≡ carried 18 Initiator lines b → carried 18 Initiator lines (cond last [] a) ≡ carried 18 Initiator lines (cond last [] b)
on_alike true lines a b e = refl
on_alike false lines a b e = e

-- one with information changes nothing, wherever it stands
quiet_from : (lines : Connections) (course : Course) (before after : List Framed) (f : PlainFrame) → carries f.kind ≡ true → reading_from lines course (before ++ own f ∷ after) ≡ reading_from lines course (before ++ after)
quiet_from lines course [] after f e =
    ap (λ (xs : List ℕ). xs ++ carried 18 Initiator (connections_after 18 lines (own f)) (to_closing 18 Responder (course_after 18 Responder course (own f)) after)) (nothing_either (carries_on lines))
    ∙ ap (λ (l : Connections). carried 18 Initiator l (to_closing 18 Responder (course_after 18 Responder course (own f)) after)) (lines_quiet f lines e)
    ∙ ap (λ (c : Course). carried 18 Initiator lines (to_closing 18 Responder c after)) (course_quiet f course e)
quiet_from lines course (g ∷ before) after f e =
    ap (λ (xs : List ℕ). cond (carries_on lines) (information 18 Initiator g) [] ++ xs)
    (on_alike (is_last 18 Responder course g) (connections_after 18 lines g) _ _ (quiet_from (connections_after 18 lines g) (course_after 18 Responder course g) before after f e))

-- ---- what is granted and spent

abbrev pub granted_to : Connections → Course → List Framed → ℕ
granted_to lines course fs = granted 18 Responder lines (to_closing 18 Responder course fs)

abbrev pub spent_to : Course → List Framed → ℕ
spent_to course fs = spent 18 Responder (to_closing 18 Responder course fs)

abbrev pub is_over : Course → List Framed → Bool
is_over course fs = has_last 18 Responder course fs

abbrev pub cost : PlainFrame → ℕ
cost f = spent_by 18 Responder (own f)

spent_first : (f : Framed) (fs : List Framed) → spent 18 Responder (f ∷ fs) ≡ spent_by 18 Responder f + spent 18 Responder fs
spent_first f fs = sum_by-cons (spent_by 18 Responder) f fs

granted_alike : (last : Bool) (lines : Connections) (a b : List Framed) → granted 18 Responder lines a ≡ granted 18 Responder lines b → granted 18 Responder lines (cond last [] a) ≡ granted 18 Responder lines (cond last [] b)
granted_alike true lines a b e = refl
granted_alike false lines a b e = e

quiet_granted : (lines : Connections) (course : Course) (before after : List Framed) (f : PlainFrame) → carries f.kind ≡ true → granted_to lines course (before ++ own f ∷ after) ≡ granted_to lines course (before ++ after)
quiet_granted lines course [] after f e =
    ap (λ (n : ℕ). n + granted 18 Responder (connections_after 18 lines (own f)) (to_closing 18 Responder (course_after 18 Responder course (own f)) after)) (own_grants 18 Responder lines f)
    ∙ (let same : granted 18 Responder (connections_after 18 lines (own f)) (to_closing 18 Responder (course_after 18 Responder course (own f)) after) ≡ granted_to lines course after =
    ap (λ (l : Connections). granted 18 Responder l (to_closing 18 Responder (course_after 18 Responder course (own f)) after)) (lines_quiet f lines e) ∙ ap (λ (c : Course). granted_to lines c after) (course_quiet f course e)
    in omega (arith, same))
quiet_granted lines course (g ∷ before) after f e =
    ap (λ (n : ℕ). granted_by 18 Responder lines g + n)
    (granted_alike (is_last 18 Responder course g) (connections_after 18 lines g) _ _ (quiet_granted (connections_after 18 lines g) (course_after 18 Responder course g) before after f e))

quiet_over : (course : Course) (before after : List Framed) (f : PlainFrame) → carries f.kind ≡ true → is_over course (before ++ own f ∷ after) ≡ is_over course (before ++ after)
quiet_over course [] after f e = ap (λ (c : Course). is_over c after) (course_quiet f course e)
quiet_over course (g ∷ before) after f e = ap (λ (b : Bool). is_last 18 Responder course g || b) (quiet_over (course_after 18 Responder course g) before after f e)

-- one that stands behind the last frame costs nothing
abbrev unless_over : Bool → PlainFrame → ℕ
unless_over over f = cond over 0 (cost f)

quiet_spent_at : (last over : Bool) (g : Framed) (f : PlainFrame) (with_it without : List Framed) → spent 18 Responder with_it ≡ spent 18 Responder without + unless_over over f
    → spent 18 Responder (g ∷ cond last [] with_it) ≡ spent 18 Responder (g ∷ cond last [] without) + unless_over (last || over) f
quiet_spent_at true over g f with_it without e = omega arith
quiet_spent_at false over g f with_it without e = let one = spent_first g with_it in let two = spent_first g without in omega (arith, one, two, e)

quiet_spent : (course : Course) (before after : List Framed) (f : PlainFrame) → carries f.kind ≡ true → spent_to course (before ++ own f ∷ after) ≡ spent_to course (before ++ after) + unless_over (is_over course before) f
quiet_spent course [] after f e =
    let one = spent_first (own f) (to_closing 18 Responder (course_after 18 Responder course (own f)) after) in
    let same : spent_to (course_after 18 Responder course (own f)) after ≡ spent_to course after = ap (λ (c : Course). spent_to c after) (course_quiet f course e) in
    omega (arith, one, same)
quiet_spent course (g ∷ before) after f e =
    quiet_spent_at (is_last 18 Responder course g) (is_over (course_after 18 Responder course g) before) g f _ _ (quiet_spent (course_after 18 Responder course g) before after f e)

or_stays : (a x y : Bool) → (a || x) ≡ true → (x ≡ true → y ≡ true) → (a || y) ≡ true
or_stays true x y e f = refl
or_stays false x y e f = f e

over_stays : (course : Course) (fs more : List Framed) → is_over course fs ≡ true → is_over course (fs ++ more) ≡ true
over_stays course [] more e = absurd (let f : false ≡ true = e in cc)
over_stays course (g ∷ fs) more e = or_stays (is_last 18 Responder course g) (is_over (course_after 18 Responder course g) fs) (is_over (course_after 18 Responder course g) (fs ++ more)) e (over_stays (course_after 18 Responder course g) fs more)

-- ---- frames that say the same, in another order of the own ones

pub record Alike (a b : List Framed) : Type 0 where
  pub octets : reading a ≡ reading b
  pub grants : granted_to no_connections no_course a ≡ granted_to no_connections no_course b
  pub over : is_over no_course a ≡ is_over no_course b
  pub spends : spent_to no_course b ≤ spent_to no_course a
  pub total : spent 18 Responder a ≡ spent 18 Responder b

pub alike_same : (a b : List Framed) → a ≡ b → Alike a b
alike_same a b e = record {
  octets = ap reading e;
  grants = ap (granted_to no_connections no_course) e;
  over = ap (is_over no_course) e;
  spends = (let same = ap (spent_to no_course) e in omega (arith, same));
  total = ap (spent 18 Responder) e;
}

pub alike_then : (a b c : List Framed) → Alike a b → Alike b c → Alike a c
alike_then a b c x y = record { octets = x.octets ∙ y.octets; grants = x.grants ∙ y.grants; over = x.over ∙ y.over; spends = (let one = x.spends in let two = y.spends in omega (arith, one, two)); total = x.total ∙ y.total }

later_spends : (first second : Bool) (f : PlainFrame) (n : ℕ) → (first ≡ true → second ≡ true) → n + unless_over second f ≤ n + unless_over first f
later_spends true true f n e = omega arith
later_spends true false f n e = absurd (let g : false ≡ true = e refl in cc)
later_spends false true f n e = omega arith
later_spends false false f n e = omega arith

-- one with information that goes later
later : (fs new more : List Framed) (f : PlainFrame) → carries f.kind ≡ true → Alike (fs ++ own f ∷ (new ++ more)) ((fs ++ new) ++ own f ∷ more)
later fs new more f e =
    let same : (fs ++ new) ++ more ≡ fs ++ (new ++ more) = append_assoc fs new more in
    record {
      octets = quiet_from no_connections no_course fs (new ++ more) f e ∙ ap reading (sym same) ∙ sym (quiet_from no_connections no_course (fs ++ new) more f e);
      grants = quiet_granted no_connections no_course fs (new ++ more) f e ∙ ap (granted_to no_connections no_course) (sym same) ∙ sym (quiet_granted no_connections no_course (fs ++ new) more f e);
      over = quiet_over no_course fs (new ++ more) f e ∙ ap (is_over no_course) (sym same) ∙ sym (quiet_over no_course (fs ++ new) more f e);
      spends = (let one = quiet_spent no_course fs (new ++ more) f e in let two = quiet_spent no_course (fs ++ new) more f e in let rest = ap (spent_to no_course) same in
          let less = later_spends (is_over no_course fs) (is_over no_course (fs ++ new)) f (spent_to no_course (fs ++ (new ++ more))) (over_stays no_course fs new) in omega (arith, one, two, rest, less));
      total = (let one = sum_by-append (spent_by 18 Responder) fs (own f ∷ (new ++ more)) in let two = spent_first (own f) (new ++ more) in let three = sum_by-append (spent_by 18 Responder) new more in
          let four = sum_by-append (spent_by 18 Responder) (fs ++ new) (own f ∷ more) in let five = spent_first (own f) more in let six = sum_by-append (spent_by 18 Responder) fs new in omega (arith, one, two, three, four, five, six));
    }

-- ---- a side that was reached

pub record Reached (largest cap : ℕ) (side : Side) : Type 0 where
  pub deeds : List Deed
  pub is : all_done deeds (new_side Responder 18 largest largest cap) ≡ side
  pub room : AlwaysRoom deeds (new_side Responder 18 largest largest cap)

done_last : (deeds : List Deed) (deed : Deed) (side : Side) → all_done (deeds ++ deed ∷ []) side ≡ done deed (all_done deeds side)
done_last [] deed side = refl
done_last (first ∷ deeds) deed side = done_last deeds deed (done first side)

room_last : (deeds : List Deed) (deed : Deed) (side : Side) → AlwaysRoom deeds side → DeedFindsRoom deed (all_done deeds side).mux → AlwaysRoom (deeds ++ deed ∷ []) side
room_last [] deed side all now = (now, tt)
room_last (first ∷ deeds) deed side all now = (all.0, room_last deeds deed (done first side) all.1 now)

reached_by : (largest cap : ℕ) (side : Side) (deed : Deed) → Reached largest cap side → DeedFindsRoom deed side.mux → Reached largest cap (done deed side)
reached_by largest cap side deed r now = record {
  deeds = r.deeds ++ deed ∷ [];
  is = done_last r.deeds deed (new_side Responder 18 largest largest cap) ∙ ap (done deed) r.is;
  room = room_last r.deeds deed (new_side Responder 18 largest largest cap) r.room (subst (λ (s : Side). DeedFindsRoom deed s.mux) (sym r.is) now);
}

same_kept : (role : Role) (dlci largest cap : ℕ) (m m' : Mux) → Kept role dlci largest cap m → Kept m.role m.dlci m.largest m.account.cap m' → Kept role dlci largest cap m'
same_kept role dlci largest cap m m' k l = (l.0 ∙ k.0, l.1 ∙ k.1, l.2 ∙ k.2, l.3 ∙ k.3)

either_kept : (largest cap : ℕ) (b : Bool) (x y : Mux) → Kept Responder 18 largest cap x → Kept Responder 18 largest cap y → Kept Responder 18 largest cap (cond b x y)
either_kept largest cap true x y k l = k
either_kept largest cap false x y k l = l

sends_kept : (largest cap : ℕ) (octets : List ℕ) (m : Mux) → Kept Responder 18 largest cap m → Kept Responder 18 largest cap (sends octets m)
sends_kept largest cap octets m k = either_kept largest cap (is_empty m.waiting && ltb 0 m.account.held) (record m { waiting = take (taken_count (length octets) m) octets }) m k k

done_kept : (largest cap : ℕ) (deed : Deed) (side : Side) → Kept Responder 18 largest cap side.mux → Kept Responder 18 largest cap (done deed side).mux
done_kept largest cap (Hears sdu) side k = answer_keeps Responder 18 largest cap (frame_answer sdu) side.mux k
done_kept largest cap Says side k = subst (Kept Responder 18 largest cap) (sym (said_keeps side (next side.mux))) (same_kept Responder 18 largest cap side.mux (after_said (next side.mux) side.mux) k (next_keeps side.mux))
done_kept largest cap (Sends octets) side k = either_kept largest cap (may_pass side.mux) (sends octets side.mux) side.mux (sends_kept largest cap octets side.mux k) k
done_kept largest cap Leaves side k = either_kept largest cap (is_none side.mux.closed && not (is_leaving side.mux.asks)) (record (side.mux) { asks = Due LeaveUser }) side.mux k k

all_kept : (largest cap : ℕ) (deeds : List Deed) (side : Side) → Kept Responder 18 largest cap side.mux → Kept Responder 18 largest cap (all_done deeds side).mux
all_kept largest cap [] side k = k
all_kept largest cap (deed ∷ deeds) side k = all_kept largest cap deeds (done deed side) (done_kept largest cap deed side k)

pub reached_kept : (largest cap : ℕ) (side : Side) → Reached largest cap side → Kept Responder 18 largest cap side.mux
reached_kept largest cap side r = subst (λ (s : Side). Kept Responder 18 largest cap s.mux) r.is (all_kept largest cap r.deeds (new_side Responder 18 largest largest cap) (refl, refl, refl, refl))

-- ---- what passed on the channel

abbrev pub waiting : Option PlainFrame → List Framed
waiting None = []
waiting (Some frame) = own frame ∷ []

-- what a frame that waits has cost already
abbrev pub waiting_cost : Option PlainFrame → ℕ
waiting_cost None = 0
waiting_cost (Some frame) = cost frame

-- the multiplexer took up all that came; its frame that waits is not among what passed
pub record Carries (largest cap : ℕ) (passed : List Passed) (got : List ℕ) (mux : Mux) (frame : Option PlainFrame) : Type 0 where
  pub talk : List Framed
  pub reached : Reached largest cap (record { mux = mux; talk = talk; got = got })
  pub reads : (more : List Framed) → Alike (talk ++ more) (frames passed ++ (waiting frame ++ more))

waiting_ends : (fs : List Framed) (frame : Option PlainFrame) → reading (fs ++ (waiting frame ++ [])) ≡ reading fs
waiting_ends fs None = ap reading (append-nil fs)
waiting_ends fs (Some f) = own_end fs f

-- the SDUs that passed carry what it handed up
pub carries_read : (largest cap : ℕ) (passed : List Passed) (got : List ℕ) (mux : Mux) (frame : Option PlainFrame) → Carries largest cap passed got mux frame → IsOrderly mux.closed → user_octets 18 Responder Initiator passed ≡ got
carries_read largest cap passed got mux frame c orderly =
    let reads : ReadsToClosing 18 Responder (record { mux = mux; talk = c.talk; got = got }) =
    subst (ReadsToClosing 18 Responder) c.reached.is (closed-sides_read Responder 18 largest largest cap c.reached.deeds (omega arith) (subst (λ (s : Side). IsOrderly s.mux.closed) (sym c.reached.is) orderly) c.reached.room) in
    sym (waiting_ends (frames passed) frame) ∙ sym (c.reads []).octets ∙ ap reading (append-nil c.talk) ∙ sym reads.octets

pub carries_new : (largest cap : ℕ) → Carries largest cap [] [] (new_side Responder 18 largest largest cap).mux None
carries_new largest cap = record { talk = []; reached = record { deeds = []; is = refl; room = tt }; reads = λ more. alike_same more more refl }

heard_is : (from : Role) (a : Answer) → heard_frame from a ≡ cons_option (framed from a) []
heard_is from (Ok frame) = refl
heard_is from (Err refusal) = refl

frames_more : (passed : List Passed) (p : Passed) → frames (passed ++ p ∷ []) ≡ frames passed ++ cons_option (framed p.from (frame_answer p.sdu)) []
frames_more passed p = filter_map-append (λ (q : Passed). framed q.from (frame_answer q.sdu)) passed (p ∷ [])

-- UA or DM that DISC of the peer overtakes, or its messages on the control channel
overtaken : (fs more : List Framed) (f g : PlainFrame) → is_answer f.kind ≡ true → leaves_or_controls g ≡ true → Alike (fs ++ own f ∷ his g ∷ more) (fs ++ his g ∷ own f ∷ more)
overtaken fs more f g answer apart =
    let s = under (own f ∷ his g ∷ more) (his g ∷ own f ∷ more) (λ lines course. swapped f g answer apart lines course more) fs no_connections no_course in
    record {
      octets = s.octets;
      grants = s.grants;
      over = s.over;
      spends = (let same = s.spends in omega (arith, same));
      total = (let one = sum_by-append (spent_by 18 Responder) fs (own f ∷ his g ∷ more) in let two = spent_first (own f) (his g ∷ more) in let three = spent_first (his g) more in
          let four = sum_by-append (spent_by 18 Responder) fs (his g ∷ own f ∷ more) in let five = spent_first (his g) (own f ∷ more) in let six = spent_first (own f) more in omega (arith, one, two, three, four, five, six));
    }

same_place : (fs new more : List Framed) (x : Framed) → (fs ++ new) ++ x ∷ more ≡ fs ++ (new ++ x ∷ more)
same_place fs new more x = append_assoc fs new (x ∷ more)

passes_one : (fs more : List Framed) (read : Answer) (f : PlainFrame) (quiet : Bool) → carries f.kind ≡ quiet → (quiet || (is_answer f.kind && is_apart read)) ≡ true
    → Alike (fs ++ own f ∷ (heard_frame Initiator read ++ more)) ((fs ++ heard_frame Initiator read) ++ own f ∷ more)
passes_one fs more read f true is e = later fs (heard_frame Initiator read) more f is
passes_one fs more (Ok g) f false is e =
    let both = and_parts (is_answer f.kind) (leaves_or_controls g) e in
    alike_then _ _ _ (overtaken fs more f g both.0 both.1) (alike_same (fs ++ his g ∷ own f ∷ more) ((fs ++ his g ∷ []) ++ own f ∷ more) (sym (same_place fs (his g ∷ []) more (own f))))
passes_one fs more (Err refusal) f false is e = alike_same (fs ++ own f ∷ more) ((fs ++ []) ++ own f ∷ more) (sym (same_place fs [] more (own f)))

passes_waiting : (fs more : List Framed) (read : Answer) (frame : Option PlainFrame) → may_overtake read frame ≡ true → Alike (fs ++ (waiting frame ++ (heard_frame Initiator read ++ more))) ((fs ++ heard_frame Initiator read) ++ (waiting frame ++ more))
passes_waiting fs more read None e = alike_same (fs ++ (heard_frame Initiator read ++ more)) ((fs ++ heard_frame Initiator read) ++ more) (sym (append_assoc fs (heard_frame Initiator read) more))
passes_waiting fs more read (Some f) e = passes_one fs more read f (carries f.kind) refl e

-- a frame comes
pub carries_came : (largest cap : ℕ) (passed : List Passed) (got : List ℕ) (mux : Mux) (frame : Option PlainFrame) (sdu : List ℕ) → Carries largest cap passed got mux frame → AnswerFindsRoom (frame_answer sdu) mux → may_overtake (frame_answer sdu) frame ≡ true
    → Carries largest cap (passed ++ record { from = Initiator; sdu = sdu } ∷ []) (got ++ handed (up sdu mux)) (hears sdu mux) frame
carries_came largest cap passed got mux frame sdu c room quiet =
    let new : List Framed = heard_frame (other_role mux.role) (frame_answer sdu) in
    let role = (reached_kept largest cap (record { mux = mux; talk = c.talk; got = got }) c.reached).0 in
    let so : new ≡ heard_frame Initiator (frame_answer sdu) = ap (λ (r : Role). heard_frame (other_role r) (frame_answer sdu)) role in
    let new_is : new ≡ cons_option (framed Initiator (frame_answer sdu)) [] = so ∙ heard_is Initiator (frame_answer sdu) in
    let passed_by : (more : List Framed) → Alike (frames passed ++ (waiting frame ++ (new ++ more))) ((frames passed ++ new) ++ (waiting frame ++ more)) =
    λ more. subst (λ (fs : List Framed). Alike (frames passed ++ (waiting frame ++ (fs ++ more))) ((frames passed ++ fs) ++ (waiting frame ++ more))) (sym so) (passes_waiting (frames passed) more (frame_answer sdu) frame quiet) in
    record {
      talk = c.talk ++ new;
      reached = reached_by largest cap (record { mux = mux; talk = c.talk; got = got }) (Hears sdu) c.reached room;
      reads = λ more.
          alike_then _ _ _ (alike_same ((c.talk ++ new) ++ more) (c.talk ++ (new ++ more)) (append_assoc c.talk new more))
          (alike_then _ _ _ (c.reads (new ++ more)) (alike_then _ _ _ (passed_by more)
          (alike_same ((frames passed ++ new) ++ (waiting frame ++ more)) (frames (passed ++ record { from = Initiator; sdu = sdu } ∷ []) ++ (waiting frame ++ more))
          (ap (λ (fs : List Framed). fs ++ (waiting frame ++ more)) (ap (λ (xs : List Framed). frames passed ++ xs) new_is ∙ sym (frames_more passed (record { from = Initiator; sdu = sdu })))))));
    }

-- the frame that waits goes
pub carries_went : (largest cap : ℕ) (passed : List Passed) (got : List ℕ) (mux : Mux) (frame : PlainFrame) (sdu : List ℕ) → Carries largest cap passed got mux (Some frame) → IsOctets sdu → Spells frame sdu
    → Carries largest cap (passed ++ record { from = Responder; sdu = sdu } ∷ []) got mux None
carries_went largest cap passed got mux frame sdu c octets spells = record {
  talk = c.talk;
  reached = c.reached;
  reads = λ more.
      alike_then _ _ _ (c.reads more) (alike_same (frames passed ++ own frame ∷ more) (frames (passed ++ record { from = Responder; sdu = sdu } ∷ []) ++ more)
      (sym (append_assoc (frames passed) (own frame ∷ []) more)
      ∙ ap (λ (fs : List Framed). fs ++ more) (ap (λ (a : Answer). frames passed ++ cons_option (framed Responder a) []) (sym (spelled_answered frame sdu octets spells)) ∙ sym (frames_more passed (record { from = Responder; sdu = sdu })))));
}

-- ---- the next frame

-- what a multiplexer is after its next frame, and that frame
abbrev pub mux_said : Option Said → Mux → Mux
mux_said None mux = mux
mux_said (Some said) mux = said.after

abbrev pub frame_said : Option Said → Option PlainFrame
frame_said None = None
frame_said (Some said) = Some said.frame

pub carries_says : (largest cap : ℕ) (passed : List Passed) (got : List ℕ) (mux : Mux) (o : Option Said) → next mux ≡ o → Carries largest cap passed got mux None → Carries largest cap passed got (mux_said o mux) (frame_said o)
carries_says largest cap passed got mux None e c = c
carries_says largest cap passed got mux (Some said) e c =
    let side : Side = record { mux = mux; talk = c.talk; got = got } in
    let role = (reached_kept largest cap side c.reached).0 in
    let side_is : done Says side ≡ record { mux = said.after; talk = c.talk ++ own said.frame ∷ []; got = got } =
    ap (λ (o : Option Said). said_by o side) e ∙ ap (λ (r : Role). (let s : Side = record { mux = said.after; talk = c.talk ++ record { from = r; frame = said.frame } ∷ []; got = got } in s)) role in
    record {
      talk = c.talk ++ own said.frame ∷ [];
      reached = subst (Reached largest cap) side_is (reached_by largest cap side Says c.reached tt);
      reads = λ more. alike_then _ _ _ (alike_same ((c.talk ++ own said.frame ∷ []) ++ more) (c.talk ++ own said.frame ∷ more) (append_assoc c.talk (own said.frame ∷ []) more)) (c.reads (own said.frame ∷ more));
    }

-- octets are given to one that may send them
pub carries_sends : (largest cap : ℕ) (passed : List Passed) (got : List ℕ) (mux : Mux) (frame : Option PlainFrame) (octets : List ℕ) → is_ready mux ≡ true → Carries largest cap passed got mux frame → Carries largest cap passed got (sends octets mux) frame
carries_sends largest cap passed got mux frame octets ready c =
    let side : Side = record { mux = mux; talk = c.talk; got = got } in
    let given_is : given octets mux ≡ sends octets mux = cond-true _ _ _ (and_parts _ (may_pass mux) ready).1 in
    record {
      talk = c.talk;
      reached = subst (λ (m : Mux). Reached largest cap (record { mux = m; talk = c.talk; got = got })) given_is (reached_by largest cap side (Sends octets) c.reached tt);
      reads = c.reads;
    }

pub carries_leaves : (largest cap : ℕ) (passed : List Passed) (got : List ℕ) (mux : Mux) (frame : Option PlainFrame) → Carries largest cap passed got mux frame → Carries largest cap passed got (leaves mux) frame
carries_leaves largest cap passed got mux frame c = record { talk = c.talk; reached = reached_by largest cap (record { mux = mux; talk = c.talk; got = got }) Leaves c.reached tt; reads = c.reads }

-- ---- the account

own_grants_none : (closed : Bool) (fs : List Framed) (f : PlainFrame) → granted 18 Responder no_connections (fs ++ cons_option (counting closed (Some (own f))) []) ≡ granted 18 Responder no_connections fs
own_grants_none true fs f = ap (granted 18 Responder no_connections) (append-nil fs)
own_grants_none false fs f = let more = granted_more 18 Responder no_connections fs (own f) in let none = own_grants 18 Responder (connections_of 18 no_connections fs) f in omega (arith, more, none)

own_spends_some : (closed : Bool) (fs : List Framed) (f : PlainFrame) → spent 18 Responder fs ≤ spent 18 Responder (fs ++ cons_option (counting closed (Some (own f))) [])
own_spends_some true fs f = let same = ap (spent 18 Responder) (append-nil fs) in omega (arith, same)
own_spends_some false fs f = let more = spent_more 18 Responder fs (own f) in omega (arith, more)

waiting_grants : (fs : List Framed) (frame : Option PlainFrame) → granted_to no_connections no_course (fs ++ (waiting frame ++ [])) ≡ granted_to no_connections no_course fs
waiting_grants fs None = ap (granted_to no_connections no_course) (append-nil fs)
waiting_grants fs (Some f) = ap (granted 18 Responder no_connections) (to_closing-more 18 Responder no_course fs (Some (own f))) ∙ own_grants_none (has_last 18 Responder no_course fs) (to_closing 18 Responder no_course fs) f

waiting_spends : (fs : List Framed) (frame : Option PlainFrame) → spent_to no_course fs ≤ spent_to no_course (fs ++ (waiting frame ++ []))
waiting_spends fs None = let same = ap (spent_to no_course) (append-nil fs) in omega (arith, same)
waiting_spends fs (Some f) =
    let some = own_spends_some (has_last 18 Responder no_course fs) (to_closing 18 Responder no_course fs) f in
    let same = ap (spent 18 Responder) (to_closing-more 18 Responder no_course fs (Some (own f))) in
    omega (arith, some, same)

waiting_total : (fs : List Framed) (frame : Option PlainFrame) → spent 18 Responder (fs ++ (waiting frame ++ [])) ≡ spent 18 Responder fs + waiting_cost frame
waiting_total fs None = let same = ap (spent 18 Responder) (append-nil fs) in omega (arith, same)
waiting_total fs (Some f) = spent_more 18 Responder fs (own f)

left_over : (s h : ℕ) → pos (s + h) -ℤ pos s ≡ pos h
left_over s h = ap (λ n. pos n -ℤ pos s) (omega arith) ∙ (ap (λ m. m -ℤ pos s) (sym (pos-+ℤ-pos h s)) ∙ +ℤ-neg_ℤ_cancel (pos h) (pos s))

none_over : (course : Course) (fs more : List Framed) → is_over course (fs ++ more) ≡ false → is_over course fs ≡ false
none_over course fs more e = elim (cases_Bool (is_over course fs)) [ inl over ↦ absurd (let f : true ≡ false = sym (over_stays course fs more over) ∙ e in cc) | inr none ↦ none ]

-- what the SDUs granted less what they spent
pub record HasCredits (passed : List Passed) (mux : Mux) (frame : Option PlainFrame) : Type 0 where
  pub spare : ℕ
  pub credits : credits_held 18 Responder passed ≡ pos (mux.account.held + spare)
  pub exact : mux.closed ≡ None → spare ≡ waiting_cost frame

pub carries_credits : (largest cap : ℕ) (passed : List Passed) (got : List ℕ) (mux : Mux) (frame : Option PlainFrame) → Carries largest cap passed got mux frame → IsOrderly mux.closed → HasCredits passed mux frame
carries_credits largest cap passed got mux frame c orderly =
    let reads : ReadsToClosing 18 Responder (record { mux = mux; talk = c.talk; got = got }) =
    subst (ReadsToClosing 18 Responder) c.reached.is (closed-sides_read Responder 18 largest largest cap c.reached.deeds (omega arith) (subst (λ (s : Side). IsOrderly s.mux.closed) (sym c.reached.is) orderly) c.reached.room) in
    let fs : List Framed = frames passed in
    let alike : Alike c.talk (fs ++ (waiting frame ++ [])) = alike_then _ _ _ (alike_same c.talk (c.talk ++ []) (sym (append-nil c.talk))) (c.reads []) in
    let granted_is : granted_to no_connections no_course fs ≡ spent_to no_course c.talk + mux.account.held = sym (waiting_grants fs frame) ∙ sym alike.grants ∙ reads.credits in
    let some = alike.spends in
    let more = waiting_spends fs frame in
    let spare : ℕ = spent_to no_course c.talk - spent_to no_course fs in
    let sum : granted_to no_connections no_course fs ≡ spent_to no_course fs + (mux.account.held + spare) = omega (arith, granted_is, some, more) in
    record {
      spare = spare;
      credits = ap (λ (n : ℕ). pos n -ℤ pos (spent_to no_course fs)) sum ∙ left_over (spent_to no_course fs) (mux.account.held + spare);
      exact = λ open_.
          let none : is_over no_course c.talk ≡ false = sym reads.closed ∙ ap is_some open_ in
          let all = ap (spent 18 Responder) (to_all 18 Responder no_course c.talk none) in
          let rest = ap (spent 18 Responder) (to_all 18 Responder no_course fs (none_over no_course fs (waiting frame ++ []) (sym alike.over ∙ none))) in
          let total = alike.total in
          let last = waiting_total fs frame in
          omega (arith, all, rest, total, last);
    }
