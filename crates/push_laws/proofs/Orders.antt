-- While UA or DM of a responder that does not leave is to come, its initiator has said nothing but DISC and messages on the control channel.
use Rattle.std.proofs.Common.{arith, Bool, true, false, cond, ◌&&◌, ◌||◌, ◌≡◌, ◌+◌, ℕ, List, [], ◌∷◌, ◌++◌, length, take, Option, Some, None, Ok, refl, ap, subst, ◌∙◌}
use Rattle.std.specs.Prelude.{not, nat_lt, is_none}
use Rattle.push_model.specs.rfcomm_frames.specs.declared.frame.MuxKind.{MuxKind}
use Rattle.push_model.specs.rfcomm_frames.specs.declared.frame.MuxKind.TheVariants.{Sabm, Ua, Dm, Disc, Uih}
use Rattle.push_model.specs.rfcomm_frames.specs.declared.connection.Role.{Role}
use Rattle.push_model.specs.rfcomm_frames.specs.declared.connection.Role.TheVariants.{Initiator, Responder}
use Rattle.push_model.specs.rfcomm_frames.specs.declared.connection.Dlc.{Dlc}
use Rattle.push_model.specs.rfcomm_frames.specs.Frames.{PlainFrame, carries}
use Rattle.push_model.specs.rfcomm_frames.specs.FrameReading.{is_empty}
use Rattle.push_model.specs.rfcomm_model.specs.declared.state.MuxReason.{MuxReason}
use Rattle.push_model.specs.rfcomm_model.specs.declared.state.Command.TheVariants.{LeaveUser}
use Rattle.push_model.specs.rfcomm_model.specs.declared.state.Asks.{Asks}
use Rattle.push_model.specs.rfcomm_model.specs.declared.state.Asks.TheVariants.{Due}
use Rattle.push_model.specs.rfcomm_model.specs.Machine.{Mux, new_mux, is_leaving, leaves, taken_count, sends}
use Rattle.push_model.specs.rfcomm_model.specs.Hearing.{hears_answer}
use Rattle.push_model.specs.rfcomm_model.specs.Saying.{Said, next}
use Rattle.push_laws.specs.Premises.{is_answer, leaves_or_controls}
use Rattle.push_laws.proofs.Ordering.{Back, Each, Forth, OfInitiator, OfResponder, Ordered, Side, Signals, Wishes, answer_of, answers_in, answers_more, command_of, commands, commands_more, each_more, ordered_later, ordered_more}
use Rattle.push_laws.proofs.Conceding.{R, SaidBack, SaysBack, back_answers, r_frame}
use Rattle.push_laws.proofs.Wishing.{I, SaidForth, SaysForth, fewer, i_frame, says_forth, standing_wish}

-- ---- both, with what is under way

pub record Order (own : Mux) (queue : List PlainFrame) (mux : Mux) (back : List PlainFrame) : Type 0 where
  pub most : ℕ
  pub asks : I (commands queue + (answers_in mux.answers + answers_in back)) most own
  pub answers : R (answers_in mux.answers) mux
  pub forth : Each Forth queue
  pub returns : Each Back back
  pub ordered : Ordered (answers_in mux.answers + answers_in back) queue

rebased : (t : ℕ) (m : Mux) → R t m → R (answers_in m.answers) m
rebased t m s = record { role_is = s.role_is; dlci_is = s.dlci_is; answers = s.answers; few = omega arith; wish = s.wish }

sends_side : (Q : MuxKind → PlainFrame → Type 0) (W : Option MuxReason → Asks → Dlc → Type 0) (role : Role) (t : ℕ) (octets : List ℕ) (m : Mux) (test : Bool) → Side Q W role t m → Side Q W role t (cond test (record m { waiting = take (taken_count (length octets) m) octets }) m)
sends_side Q W role t octets m true s = record { role_is = s.role_is; dlci_is = s.dlci_is; answers = s.answers; few = s.few; wish = s.wish }
sends_side Q W role t octets m false s = s

same_answers : (octets : List ℕ) (m : Mux) (test : Bool) → (cond test (record m { waiting = take (taken_count (length octets) m) octets }) m).answers ≡ m.answers
same_answers octets m true = refl
same_answers octets m false = refl

none_of : (c : Option MuxReason) (b : Bool) → (is_none c && b) ≡ true → c ≡ None
none_of None b e = refl
none_of (Some reason) b e = absurd (let f : false ≡ true = e in cc)

module _ (own : Mux) (queue : List PlainFrame) (mux : Mux) (back : List PlainFrame) (o : Order own queue mux back) where
  pub order_asked : (octets : List ℕ) → Order (sends octets own) queue mux back
  order_asked octets = record {
    most = o.most;
    asks = sends_side OfInitiator (Wishes (commands queue + (answers_in mux.answers + answers_in back))) Initiator o.most octets own (is_empty own.waiting && nat_lt 0 own.account.held) o.asks;
    answers = o.answers;
    forth = o.forth;
    returns = o.returns;
    ordered = o.ordered;
  }

  pub order_replied : (octets : List ℕ) → Order own queue (sends octets mux) back
  order_replied octets =
      let same = ap answers_in (same_answers octets mux (is_empty mux.waiting && nat_lt 0 mux.account.held)) in
      record {
        most = o.most;
        asks = fewer (commands queue + (answers_in mux.answers + answers_in back)) (commands queue + (answers_in (sends octets mux).answers + answers_in back)) o.most own (omega (arith, same)) o.asks;
        answers = rebased (answers_in mux.answers) (sends octets mux) (sends_side OfResponder Signals Responder (answers_in mux.answers) octets mux (is_empty mux.waiting && nat_lt 0 mux.account.held) o.answers);
        forth = o.forth;
        returns = o.returns;
        ordered = ordered_later (answers_in mux.answers + answers_in back) (answers_in (sends octets mux).answers + answers_in back) queue (omega (arith, same)) o.ordered;
      }

  pub order_leaves : Order (leaves own) queue mux back
  order_leaves = record { most = o.most; asks = by (is_none own.closed && not (is_leaving own.asks)) refl; answers = o.answers; forth = o.forth; returns = o.returns; ordered = o.ordered }
    where
      by : (test : Bool) → (is_none own.closed && not (is_leaving own.asks)) ≡ test → I (commands queue + (answers_in mux.answers + answers_in back)) o.most (cond test (record own { asks = Due LeaveUser }) own)
      by true is =
          let s = o.asks in
          record {
            role_is = s.role_is;
            dlci_is = s.dlci_is;
            answers = s.answers;
            few = s.few;
            wish = standing_wish (commands queue + (answers_in mux.answers + answers_in back)) own.closed (Due LeaveUser) own.user (none_of own.closed (not (is_leaving own.asks)) is) tt;
          }
      by false is = o.asks

  pub order_asks : (said : Said) → next own ≡ Some said → Order said.after (queue ++ said.frame ∷ []) mux back
  order_asks said is =
      let n : ℕ = commands queue + (answers_in mux.answers + answers_in back) in
      let f : SaidForth n o.most said = subst (SaysForth n o.most) is (says_forth n o.most own o.asks) in
      let more = commands_more queue said.frame in
      record {
        most = o.most;
        asks = fewer (n + command_of said.frame.kind) (commands (queue ++ said.frame ∷ []) + (answers_in mux.answers + answers_in back)) o.most said.after (omega (arith, more)) f.after;
        answers = o.answers;
        forth = each_more Forth queue said.frame o.forth f.forth;
        returns = o.returns;
        ordered = ordered_more (answers_in mux.answers + answers_in back) queue said.frame o.ordered (λ some. f.soft (omega (arith, some)));
      }

  pub order_replies : (said : Said) → next mux ≡ Some said → Order own queue said.after (back ++ said.frame ∷ [])
  order_replies said is =
      let b : SaidBack (answers_in mux.answers) said = subst (SaysBack (answers_in mux.answers)) is (back_answers (answers_in mux.answers) mux.answers mux refl o.answers) in
      let after : R b.rest said.after = b.after in
      let few = after.few in
      let sum = b.sum in
      let more = answers_more back said.frame in
      record {
        most = o.most;
        asks = fewer (commands queue + (answers_in mux.answers + answers_in back)) (commands queue + (answers_in said.after.answers + answers_in (back ++ said.frame ∷ []))) o.most own (omega (arith, few, sum, more)) o.asks;
        answers = rebased b.rest said.after after;
        forth = o.forth;
        returns = each_more Back back said.frame o.returns b.back;
        ordered = ordered_later (answers_in mux.answers + answers_in back) (answers_in said.after.answers + answers_in (back ++ said.frame ∷ [])) queue (omega (arith, few, sum, more)) o.ordered;
      }

pub order_came : (own : Mux) (f : PlainFrame) (queue : List PlainFrame) (mux : Mux) (back : List PlainFrame) → Order own (f ∷ queue) mux back → Order own queue (hears_answer (Ok f) mux) back
order_came own f queue mux back o =
    let forth = o.forth in
    let ordered = o.ordered in
    let after : R (answers_in mux.answers + command_of f.kind) (hears_answer (Ok f) mux) = r_frame (answers_in mux.answers) mux.closed f mux forth.0 o.answers in
    let few = after.few in
    record {
      most = o.most;
      asks = fewer (commands (f ∷ queue) + (answers_in mux.answers + answers_in back)) (commands queue + (answers_in (hears_answer (Ok f) mux).answers + answers_in back)) o.most own (omega (arith, few)) o.asks;
      answers = rebased (answers_in mux.answers + command_of f.kind) (hears_answer (Ok f) mux) after;
      forth = forth.1;
      returns = o.returns;
      ordered = ordered_later ((answers_in mux.answers + answers_in back) + command_of f.kind) (answers_in (hears_answer (Ok f) mux).answers + answers_in back) queue (omega (arith, few)) ordered.1;
    }

pub order_told : (own : Mux) (queue : List PlainFrame) (mux : Mux) (f : PlainFrame) (back : List PlainFrame) → Order own queue mux (f ∷ back) → Order (hears_answer (Ok f) own) queue mux back
order_told own queue mux f back o =
    let returns = o.returns in
    let n : ℕ = commands queue + (answers_in mux.answers + answers_in back) in
    record {
      most = o.most;
      asks = i_frame n o.most own.closed f own refl returns.0 (fewer (commands queue + (answers_in mux.answers + answers_in (f ∷ back))) (answer_of f.kind + n) o.most own (omega arith) o.asks);
      answers = o.answers;
      forth = o.forth;
      returns = returns.1;
      ordered = ordered_later (answers_in mux.answers + answers_in (f ∷ back)) (answers_in mux.answers + answers_in back) queue (omega arith) o.ordered;
    }

-- ---- what comes says the same behind what waits

pub may_pass_over : (own : Mux) (f : PlainFrame) (queue : List PlainFrame) (mux : Mux) (frames : List PlainFrame) (waiting : PlainFrame) → Order own (f ∷ queue) mux (frames ++ waiting ∷ []) → (carries waiting.kind || (is_answer waiting.kind && leaves_or_controls f)) ≡ true
may_pass_over own f queue mux frames waiting o = by waiting.kind refl (last frames o.returns)
  where
    last : (fs : List PlainFrame) → Each Back (fs ++ waiting ∷ []) → Back waiting.kind waiting
    last [] e = e.0
    last (g ∷ fs) e = last fs e.1

    soft : (kind : MuxKind) → waiting.kind ≡ kind → answer_of kind ≡ 1 → leaves_or_controls f ≡ true
    soft kind is one =
        let ordered = o.ordered in
        let more = answers_more frames waiting in
        let same = ap answer_of is in
        ordered.0 (omega (arith, more, same, one))

    by : (kind : MuxKind) → waiting.kind ≡ kind → Back kind waiting → (carries waiting.kind || (is_answer waiting.kind && leaves_or_controls f)) ≡ true
    by Sabm is b = absurd b
    by Ua is b = ap (λ (k : MuxKind). carries k || (is_answer k && leaves_or_controls f)) is ∙ soft Ua is refl
    by Dm is b = ap (λ (k : MuxKind). carries k || (is_answer k && leaves_or_controls f)) is ∙ soft Dm is refl
    by Disc is b = absurd b
    by Uih is b = ap (λ (k : MuxKind). carries k || (is_answer k && leaves_or_controls f)) is

pub order_first : (largest own largest' cap cap' : ℕ) → Order (new_mux Initiator 18 largest own cap) [] (new_mux Responder 18 largest' largest' cap') []
order_first largest own largest' cap cap' = record {
  most = 0;
  asks = record { role_is = refl; dlci_is = refl; answers = tt; few = omega arith; wish = (omega arith, refl) };
  answers = record { role_is = refl; dlci_is = refl; answers = tt; few = omega arith; wish = tt };
  forth = tt;
  returns = tt;
  ordered = tt;
}
