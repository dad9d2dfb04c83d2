-- UA or DM of a side says the same behind DISC of its peer, or behind a frame on the control channel, as ahead of it.
use Rattle.std.proofs.Common.{Bool, true, false, cond, ◌||◌, ◌&&◌, ◌==◌, ◌+◌, ◌≡◌, ℕ, List, [], ◌∷◌, ◌++◌, refl, sym, ap, ◌∙◌, arith}
use Rattle.std.specs.Prelude.{not, sum_by}
use Rattle.std.proofs.lemmas.Bool.{eqb-true}
use Rattle.std.proofs.lemmas.List.Sums.{sum_by-cons}
use Rattle.push_model.specs.rfcomm_frames.specs.declared.closing.Closing.{Closing}
use Rattle.push_model.specs.rfcomm_frames.specs.declared.connection.Dlc.{Dlc}
use Rattle.push_model.specs.rfcomm_frames.specs.declared.connection.Dlc.TheVariants.{Idle, Asked, Open, Ended}
use Rattle.push_model.specs.rfcomm_frames.specs.declared.connection.Role.TheVariants.{Initiator, Responder}
use Rattle.push_model.specs.rfcomm_frames.specs.declared.frame.MuxKind.{MuxKind}
use Rattle.push_model.specs.rfcomm_frames.specs.declared.frame.MuxKind.TheVariants.{Sabm, Ua, Dm, Disc, Uih}
use Rattle.push_model.specs.rfcomm_frames.specs.Frames.{PlainFrame, carries}
use Rattle.push_model.specs.rfcomm_frames.specs.FrameReading.{is_empty, messages}
use Rattle.push_model.specs.rfcomm_frames.specs.Connections.{turned, is_left, is_ended}
use Rattle.push_model.specs.rfcomm_frames.specs.Multiplexing.{Framed, Connections, passing, connections_after, carries_on, is_over, information, carried, stated_by, credit_octet, granted_by, granted, spent_by, spent}
use Rattle.push_model.specs.rfcomm_frames.specs.Ending.{Course, closing_said, closing_heard, is_closed_by, course_after, is_last, has_last, to_closing}
use Rattle.push_model.specs.rfcomm_model.proofs.Reading.{own_grants}
use Rattle.push_laws.specs.Premises.{is_answer, leaves, leaves_or_controls}

abbrev own : PlainFrame → Framed
own frame = record { from = Responder; frame = frame }

abbrev pub his : PlainFrame → Framed
his frame = record { from = Initiator; frame = frame }

-- two lists of frames that say the same behind such connections and such a course
pub record Swapped (lines : Connections) (course : Course) (a b : List Framed) : Type 0 where
  pub octets : carried 18 Initiator lines (to_closing 18 Responder course a) ≡ carried 18 Initiator lines (to_closing 18 Responder course b)
  pub grants : granted 18 Responder lines (to_closing 18 Responder course a) ≡ granted 18 Responder lines (to_closing 18 Responder course b)
  pub over : has_last 18 Responder course a ≡ has_last 18 Responder course b
  pub spends : spent 18 Responder (to_closing 18 Responder course a) ≡ spent 18 Responder (to_closing 18 Responder course b)

-- ---- kinds

turned_swap : (a b : MuxKind) (dlc : Dlc) → is_answer a ≡ true → (leaves b || carries b) ≡ true → turned Responder a (turned Initiator b dlc) ≡ turned Initiator b (turned Responder a dlc)
turned_swap Sabm b dlc x y = absurd (let f : false ≡ true = x in cc)
turned_swap Disc b dlc x y = absurd (let f : false ≡ true = x in cc)
turned_swap Uih b dlc x y = absurd (let f : false ≡ true = x in cc)
turned_swap Dm b dlc x y = refl
turned_swap Ua Sabm dlc x y = absurd (let f : false ≡ true = y in cc)
turned_swap Ua Ua dlc x y = absurd (let f : false ≡ true = y in cc)
turned_swap Ua Dm dlc x y = absurd (let f : false ≡ true = y in cc)
turned_swap Ua Uih dlc x y = refl
turned_swap Ua Disc Idle x y = refl
turned_swap Ua Disc Asked x y = refl
turned_swap Ua Disc Open x y = refl
turned_swap Ua Disc Ended x y = refl

left_same : (a : MuxKind) (dlc : Dlc) → is_answer a ≡ true → is_left Initiator (turned Responder a dlc) ≡ is_left Initiator dlc
left_same Sabm dlc x = refl
left_same Dm dlc x = refl
left_same Uih dlc x = refl
left_same Disc dlc x = absurd (let f : false ≡ true = x in cc)
left_same Ua Idle x = refl
left_same Ua Asked x = refl
left_same Ua Open x = refl
left_same Ua Ended x = refl

ended_same : (a : MuxKind) (dlc : Dlc) → is_answer a ≡ true → is_ended (turned Responder a dlc) ≡ is_ended dlc
ended_same Sabm dlc x = refl
ended_same Dm dlc x = refl
ended_same Uih dlc x = refl
ended_same Disc dlc x = absurd (let f : false ≡ true = x in cc)
ended_same Ua Idle x = refl
ended_same Ua Asked x = refl
ended_same Ua Open x = refl
ended_same Ua Ended x = refl

said_same : (a : MuxKind) (n : ℕ) (pf : Bool) (c : Closing) → is_answer a ≡ true → closing_said 18 a n pf c ≡ c
said_same Sabm n pf c x = refl
said_same Ua n pf c x = refl
said_same Dm n pf c x = refl
said_same Uih n pf c x = refl
said_same Disc n pf c x = absurd (let f : false ≡ true = x in cc)

heard_same : (b : MuxKind) (n : ℕ) (pf : Bool) (c : Closing) → (leaves b || carries b) ≡ true → closing_heard 18 b n pf c ≡ c
heard_same Sabm n pf c y = refl
heard_same Ua n pf c y = absurd (let f : false ≡ true = y in cc)
heard_same Dm n pf c y = absurd (let f : false ≡ true = y in cc)
heard_same Disc n pf c y = refl
heard_same Uih n pf c y = refl

closed_same : (b : MuxKind) (lines lines' : Connections) (c c' : Closing) (n : ℕ) (pf : Bool) → (leaves b || carries b) ≡ true → is_left Initiator lines'.control ≡ is_left Initiator lines.control → is_left Initiator lines'.user ≡ is_left Initiator lines.user
    → is_closed_by 18 Initiator lines' c' b n pf ≡ is_closed_by 18 Initiator lines c b n pf
closed_same Sabm lines lines' c c' n pf y k u = refl
closed_same Ua lines lines' c c' n pf y k u = absurd (let f : false ≡ true = y in cc)
closed_same Dm lines lines' c c' n pf y k u = absurd (let f : false ≡ true = y in cc)
closed_same Uih lines lines' c c' n pf y k u = refl
closed_same Disc lines lines' c c' n pf y k u =
    ap (λ (b : Bool). pf && (((n == 0) && b) || ((n == 18) && is_left Initiator lines'.user))) k ∙ ap (λ (b : Bool). pf && (((n == 0) && is_left Initiator lines.control) || ((n == 18) && b))) u

not_data : (b : MuxKind) (n : ℕ) → (leaves b || (carries b && (n == 0))) ≡ true → ((n == 18) && carries b) ≡ false
not_data Sabm n y = absurd (let f : false ≡ true = y in cc)
not_data Ua n y = absurd (let f : false ≡ true = y in cc)
not_data Dm n y = absurd (let f : false ≡ true = y in cc)
not_data Disc n y = by (n == 18)
  where
    by : (b : Bool) → (b && false) ≡ false
    by true = refl
    by false = refl
not_data Uih n y = ap (λ (m : ℕ). (m == 18) && true) (eqb-true n 0 y)

not_carried : (a : MuxKind) (n : ℕ) → is_answer a ≡ true → ((n == 18) && carries a) ≡ false
not_carried Sabm n x = absurd (let f : false ≡ true = x in cc)
not_carried Disc n x = absurd (let f : false ≡ true = x in cc)
not_carried Uih n x = absurd (let f : false ≡ true = x in cc)
not_carried Ua n x = by (n == 18)
  where
    by : (b : Bool) → (b && false) ≡ false
    by true = refl
    by false = refl
not_carried Dm n x = by (n == 18)
  where
    by : (b : Bool) → (b && false) ≡ false
    by true = refl
    by false = refl

either_kind : (b : MuxKind) (n : ℕ) → (leaves b || (carries b && (n == 0))) ≡ true → (leaves b || carries b) ≡ true
either_kind Sabm n y = y
either_kind Ua n y = y
either_kind Dm n y = y
either_kind Disc n y = refl
either_kind Uih n y = refl

-- ---- one line

swap : (a c : Bool) (p q : Dlc → Dlc) → ((d : Dlc) → p (q d) ≡ q (p d)) → (d : Dlc) → cond a (p (cond c (q d) d)) (cond c (q d) d) ≡ cond c (q (cond a (p d) d)) (cond a (p d) d)
swap true true p q law d = law d
swap true false p q law d = refl
swap false true p q law d = refl
swap false false p q law d = refl

keeps : (P : Dlc → Bool) (a b : Bool) (p : Dlc → Dlc) → ((d : Dlc) → P (p d) ≡ P d) → (d : Dlc) → P (cond a (cond b (p d) d) d) ≡ P d
keeps P true true p law d = law d
keeps P true false p law d = refl
keeps P false b p law d = refl

either : {X : Type 0} (F : List Framed → X) (last : Bool) (x y : List Framed) → F x ≡ F y → F (cond last [] x) ≡ F (cond last [] y)
either F true x y e = refl
either F false x y e = e

nothing : (b : Bool) → cond b [] [] ≡ (let none : List ℕ = [] in none)
nothing true = refl
nothing false = refl

spent_first : (f : Framed) (fs : List Framed) → spent 18 Responder (f ∷ fs) ≡ spent_by 18 Responder f + spent 18 Responder fs
spent_first f fs = sum_by-cons (spent_by 18 Responder) f fs

module _ (f g : PlainFrame) (answer : is_answer f.kind ≡ true) (apart : leaves_or_controls g ≡ true) where
  kinds : (leaves g.kind || carries g.kind) ≡ true
  kinds = either_kind g.kind g.dlci apart

  line_swap : (n : ℕ) (dlc : Dlc) → passing n (own f) (passing n (his g) dlc) ≡ passing n (his g) (passing n (own f) dlc)
  line_swap n dlc =
      swap (f.dlci == n) (g.dlci == n) (λ (d : Dlc). cond f.pf (turned Responder f.kind d) d) (λ (d : Dlc). cond g.pf (turned Initiator g.kind d) d)
      (λ d. swap f.pf g.pf (turned Responder f.kind) (turned Initiator g.kind) (λ e. turned_swap f.kind g.kind e answer kinds) d) dlc

  module _ (lines : Connections) where
    abbrev Own : Connections
    Own = connections_after 18 lines (own f)

    lines_swap : connections_after 18 (connections_after 18 lines (his g)) (own f) ≡ connections_after 18 Own (his g)
    lines_swap =
        ap (λ (d : Dlc). (let c : Connections = record { control = d; user = passing 18 (own f) (passing 18 (his g) lines.user) } in c)) (line_swap 0 lines.control)
        ∙ ap (λ (d : Dlc). (let c : Connections = record { control = passing 0 (his g) (passing 0 (own f) lines.control); user = d } in c)) (line_swap 18 lines.user)

    left_kept : (n : ℕ) (dlc : Dlc) → is_left Initiator (passing n (own f) dlc) ≡ is_left Initiator dlc
    left_kept n dlc = keeps (is_left Initiator) (f.dlci == n) f.pf (turned Responder f.kind) (λ d. left_same f.kind d answer) dlc

    ended_kept : (n : ℕ) (dlc : Dlc) → is_ended (passing n (own f) dlc) ≡ is_ended dlc
    ended_kept n dlc = keeps is_ended (f.dlci == n) f.pf (turned Responder f.kind) (λ d. ended_same f.kind d answer) dlc

    over_kept : is_over Own ≡ is_over lines
    over_kept = ap (λ (b : Bool). b || is_ended Own.control) (ended_kept 18 lines.user) ∙ ap (λ (b : Bool). is_ended lines.user || b) (ended_kept 0 lines.control)

    none_carried : information 18 Initiator (his g) ≡ []
    none_carried = ap (λ (b : Bool). cond b g.octets []) (not_data g.kind g.dlci apart)

    same_granted : granted_by 18 Responder Own (his g) ≡ granted_by 18 Responder lines (his g)
    same_granted =
        ap (λ (b : Bool). cond (((g.dlci == 0) && carries g.kind) && not b) (sum_by (stated_by 18) (messages g.octets)) 0 + cond (((g.dlci == 18) && carries g.kind) && carries_on Own) (credit_octet g.credits) 0) over_kept
        ∙ ap (λ (b : Bool). cond (((g.dlci == 0) && carries g.kind) && not (is_over lines)) (sum_by (stated_by 18) (messages g.octets)) 0 + cond (b && carries_on Own) (credit_octet g.credits) 0) (not_data g.kind g.dlci apart)
        ∙ sym (ap (λ (b : Bool). cond (((g.dlci == 0) && carries g.kind) && not (is_over lines)) (sum_by (stated_by 18) (messages g.octets)) 0 + cond (b && carries_on lines) (credit_octet g.credits) 0) (not_data g.kind g.dlci apart))

    costs_none : spent_by 18 Responder (own f) ≡ 0
    costs_none = ap (λ (b : Bool). cond (is_empty (cond b f.octets [])) 0 1) (not_carried f.kind f.dlci answer)

  module _ (lines : Connections) (course : Course) (more : List Framed) where
    abbrev First : Course
    First = course_after 18 Responder course (own f)

    course_swap : course_after 18 Responder (course_after 18 Responder course (his g)) (own f) ≡ course_after 18 Responder First (his g)
    course_swap =
        ap (λ (l : Connections). (let c : Course = record { lines = l; closing = closing_said 18 f.kind f.dlci f.pf (closing_heard 18 g.kind g.dlci g.pf course.closing) } in c)) (lines_swap course.lines)
        ∙ ap (λ (c : Closing). (let x : Course = record { lines = connections_after 18 First.lines (his g); closing = c } in x))
        (said_same f.kind f.dlci f.pf _ answer ∙ heard_same g.kind g.dlci g.pf course.closing kinds ∙ sym (heard_same g.kind g.dlci g.pf First.closing kinds ∙ said_same f.kind f.dlci f.pf course.closing answer))

    last_same : is_last 18 Responder First (his g) ≡ is_last 18 Responder course (his g)
    last_same = closed_same g.kind course.lines First.lines course.closing First.closing g.dlci g.pf kinds (left_kept course.lines 0 course.lines.control) (left_kept course.lines 18 course.lines.user)

    abbrev Both : Connections
    Both = connections_after 18 (connections_after 18 lines (own f)) (his g)

    abbrev Last : Course
    Last = course_after 18 Responder First (his g)

    octets_at : (last : Bool) → carried 18 Initiator (connections_after 18 lines (his g)) (cond last [] (own f ∷ to_closing 18 Responder (course_after 18 Responder (course_after 18 Responder course (his g)) (own f)) more))
        ≡ carried 18 Initiator Both (cond last [] (to_closing 18 Responder Last more))
    octets_at true = refl
    octets_at false =
        ap (λ (xs : List ℕ). xs ++ carried 18 Initiator (connections_after 18 (connections_after 18 lines (his g)) (own f)) (to_closing 18 Responder (course_after 18 Responder (course_after 18 Responder course (his g)) (own f)) more)) (nothing (carries_on (connections_after 18 lines (his g))))
        ∙ ap (λ (l : Connections). carried 18 Initiator l (to_closing 18 Responder (course_after 18 Responder (course_after 18 Responder course (his g)) (own f)) more)) (lines_swap lines)
        ∙ ap (λ (c : Course). carried 18 Initiator Both (to_closing 18 Responder c more)) course_swap

    grants_at : (last : Bool) → granted 18 Responder (connections_after 18 lines (his g)) (cond last [] (own f ∷ to_closing 18 Responder (course_after 18 Responder (course_after 18 Responder course (his g)) (own f)) more))
        ≡ granted 18 Responder Both (cond last [] (to_closing 18 Responder Last more))
    grants_at true = refl
    grants_at false =
        ap (λ (n : ℕ). n + granted 18 Responder (connections_after 18 (connections_after 18 lines (his g)) (own f)) (to_closing 18 Responder (course_after 18 Responder (course_after 18 Responder course (his g)) (own f)) more)) (own_grants 18 Responder (connections_after 18 lines (his g)) f)
        ∙ ap (λ (l : Connections). 0 + granted 18 Responder l (to_closing 18 Responder (course_after 18 Responder (course_after 18 Responder course (his g)) (own f)) more)) (lines_swap lines)
        ∙ ap (λ (c : Course). 0 + granted 18 Responder Both (to_closing 18 Responder c more)) course_swap
        ∙ zero_plus (granted 18 Responder Both (to_closing 18 Responder Last more))
      where
        zero_plus : (n : ℕ) → 0 + n ≡ n
        zero_plus n = omega arith

    spends_at : (last : Bool) → spent 18 Responder (cond last [] (own f ∷ to_closing 18 Responder (course_after 18 Responder (course_after 18 Responder course (his g)) (own f)) more)) ≡ spent 18 Responder (cond last [] (to_closing 18 Responder Last more))
    spends_at true = refl
    spends_at false =
        let first = spent_first (own f) (to_closing 18 Responder (course_after 18 Responder (course_after 18 Responder course (his g)) (own f)) more) in
        let none = costs_none lines in
        let same : spent 18 Responder (to_closing 18 Responder (course_after 18 Responder (course_after 18 Responder course (his g)) (own f)) more) ≡ spent 18 Responder (to_closing 18 Responder Last more) =
        ap (λ (c : Course). spent 18 Responder (to_closing 18 Responder c more)) course_swap in
        omega (arith, first, none, same)

    pub swapped : Swapped lines course (own f ∷ his g ∷ more) (his g ∷ own f ∷ more)
    swapped = record {
      octets = ap (λ (xs : List ℕ). xs ++ (cond (carries_on (Own lines)) (information 18 Initiator (his g)) [] ++ carried 18 Initiator Both (cond (is_last 18 Responder First (his g)) [] (to_closing 18 Responder Last more)))) (nothing (carries_on lines))
          ∙ ap (λ (xs : List ℕ). cond (carries_on (Own lines)) xs [] ++ carried 18 Initiator Both (cond (is_last 18 Responder First (his g)) [] (to_closing 18 Responder Last more))) (none_carried lines)
          ∙ ap (λ (xs : List ℕ). xs ++ carried 18 Initiator Both (cond (is_last 18 Responder First (his g)) [] (to_closing 18 Responder Last more))) (nothing (carries_on (Own lines)))
          ∙ ap (λ (b : Bool). carried 18 Initiator Both (cond b [] (to_closing 18 Responder Last more))) last_same
          ∙ sym (ap (λ (xs : List ℕ). cond (carries_on lines) xs [] ++ carried 18 Initiator (connections_after 18 lines (his g)) (cond (is_last 18 Responder course (his g)) [] (own f ∷ to_closing 18 Responder (course_after 18 Responder (course_after 18 Responder course (his g)) (own f)) more))) (none_carried lines)
          ∙ ap (λ (xs : List ℕ). xs ++ carried 18 Initiator (connections_after 18 lines (his g)) (cond (is_last 18 Responder course (his g)) [] (own f ∷ to_closing 18 Responder (course_after 18 Responder (course_after 18 Responder course (his g)) (own f)) more))) (nothing (carries_on lines))
          ∙ octets_at (is_last 18 Responder course (his g)));
      grants = (let one = own_grants 18 Responder lines f in let two = same_granted lines in
          let three : granted 18 Responder Both (cond (is_last 18 Responder First (his g)) [] (to_closing 18 Responder Last more)) ≡ granted 18 Responder Both (cond (is_last 18 Responder course (his g)) [] (to_closing 18 Responder Last more)) =
          ap (λ (b : Bool). granted 18 Responder Both (cond b [] (to_closing 18 Responder Last more))) last_same in
          let four = grants_at (is_last 18 Responder course (his g)) in omega (arith, one, two, three, four));
      over = ap (λ (b : Bool). b || has_last 18 Responder Last more) last_same ∙ ap (λ (c : Course). is_last 18 Responder course (his g) || has_last 18 Responder c more) (sym course_swap);
      spends = (let one = spent_first (own f) (his g ∷ cond (is_last 18 Responder First (his g)) [] (to_closing 18 Responder Last more)) in let two = spent_first (his g) (cond (is_last 18 Responder First (his g)) [] (to_closing 18 Responder Last more)) in let none = costs_none lines in
          let three : spent 18 Responder (cond (is_last 18 Responder First (his g)) [] (to_closing 18 Responder Last more)) ≡ spent 18 Responder (cond (is_last 18 Responder course (his g)) [] (to_closing 18 Responder Last more)) =
          ap (λ (b : Bool). spent 18 Responder (cond b [] (to_closing 18 Responder Last more))) last_same in
          let four = spends_at (is_last 18 Responder course (his g)) in
          let five = spent_first (his g) (cond (is_last 18 Responder course (his g)) [] (own f ∷ to_closing 18 Responder (course_after 18 Responder (course_after 18 Responder course (his g)) (own f)) more)) in omega (arith, one, two, none, three, four, five));
    }

-- ---- behind any frames

pub under : (a b : List Framed) → ((lines : Connections) (course : Course) → Swapped lines course a b) → (fs : List Framed) (lines : Connections) (course : Course) → Swapped lines course (fs ++ a) (fs ++ b)
under a b all [] lines course = all lines course
under a b all (h ∷ fs) lines course =
    let s = under a b all fs (connections_after 18 lines h) (course_after 18 Responder course h) in
    let last : Bool = is_last 18 Responder course h in
    let x : List Framed = to_closing 18 Responder (course_after 18 Responder course h) (fs ++ a) in
    let y : List Framed = to_closing 18 Responder (course_after 18 Responder course h) (fs ++ b) in
    record {
      octets = ap (λ (xs : List ℕ). cond (carries_on lines) (information 18 Initiator h) [] ++ xs) (either (carried 18 Initiator (connections_after 18 lines h)) last x y s.octets);
      grants = ap (λ (n : ℕ). granted_by 18 Responder lines h + n) (either (granted 18 Responder (connections_after 18 lines h)) last x y s.grants);
      over = ap (λ (b : Bool). last || b) s.over;
      spends = spent_first h (cond last [] x) ∙ ap (λ (n : ℕ). spent_by 18 Responder h + n) (either (spent 18 Responder) last x y s.spends) ∙ sym (spent_first h (cond last [] y));
    }
