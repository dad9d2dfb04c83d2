-- Two sides that are still have done all.
use Rattle.std.proofs.Common.{arith, ◌≡◌, ◌≤◌, ℕ, zero, suc, ◌+◌, ◌-◌, ◌*◌, Bool, true, false, ◌&&◌, cond, List, [], ◌∷◌, ◌++◌, map, Option, Some, None, refl, sym, ap, subst, ◌∙◌}
use Rattle.std.specs.Prelude.{not, nat_lt, nat_le}
use Rattle.std.proofs.lemmas.Bool.{lt-ltb, le-leb}
use Rattle.std.proofs.lemmas.List.{append-nil}
use Rattle.rfcomm_frames.specs.declared.connection.Role.{Role}
use Rattle.rfcomm_frames.specs.declared.connection.Role.TheVariants.{Initiator, Responder}
use Rattle.rfcomm_frames.specs.FrameReading.{is_empty}
use Rattle.rfcomm_credits.specs.Accounts.{grant_of}
use Rattle.rfcomm_model.specs.declared.state.Readiness.{Readiness}
use Rattle.rfcomm_model.specs.declared.state.Readiness.TheVariants.{Neither, Own, Peer, Both}
use Rattle.rfcomm_model.specs.Machine.{Mux, is_both, is_ready}
use Rattle.rfcomm_model.specs.Saying.{Said, says_grant, says_data, says_command, says_answer, first_of, next}
use Rattle.rfcomm_laws.specs.Pairs.{Pair, all_turns, Terms, new_pair}
use Rattle.rfcomm_laws.specs.Rests.{IsStill, IsDone, StillIsDone}
use Rattle.rfcomm_laws.proofs.Running.{Item, frame_of, flows, Wish, none, due, awaited, is_due, own_bit, peer_bit, asks_of, answer_of, copies, Body, mux_at}
use Rattle.rfcomm_laws.proofs.Joining.{Tally, pair_at}
use Rattle.rfcomm_laws.proofs.Stages.{Stage, fresh, asking_control, control_asked, control_agreed, control_open, offering, offered, accepting, accepted, asking_user, user_asked, stage, Good, opens, runs, all_good}

-- ---- a side with an open channel that has nothing to send

-- no answer waits, nothing is due, there is nothing to grant, and no data may go
record Silent (role : Role) (d : ℕ) (b : Body) : Type 0 where
  pub no_answers : b.answers ≡ 0
  pub not_due : is_due b.wish ≡ 0
  pub no_grant : nat_lt 0 (grant_of (mux_at role d true b).account) ≡ false
  pub no_data : (is_both b.ready && (not (is_empty b.waiting) && nat_lt 0 b.held)) ≡ false

none_said : (b : Bool) (said : Said) → cond b (Some said) None ≡ None → b ≡ false
none_said true said is = let never : Some said ≡ None = is in cc
none_said false said is = refl

first_none : (x y : Option Said) → first_of x y ≡ None → (x ≡ None) × (y ≡ None)
first_none None y is = (refl, is)
first_none (Some said) y is = let never : Some said ≡ None = is in cc

pass_true : (a b c : Bool) → (a && true) ≡ b → ((a && true) && c) ≡ false → (b && c) ≡ false
pass_true a b c e is = subst (λ (x : Bool). (x && c) ≡ false) e is

and_true : (a : Bool) → (a && true) ≡ a
and_true true = refl
and_true false = refl

free_silent : (role : Role) (d : ℕ) (b : Body) → b.answers ≡ 0 → is_due b.wish ≡ 0 → first_of (says_grant (mux_at role d true b)) (says_data (mux_at role d true b)) ≡ None → Silent role d b
free_silent role d b no_answers not_due is =
    let m : Mux = mux_at role d true b in
    let both = first_none (says_grant m) (says_data m) is in
    record {
      no_answers = no_answers;
      not_due = not_due;
      no_grant = none_said (nat_lt 0 (grant_of m.account)) _ both.0;
      no_data = pass_true (is_both b.ready) (is_both b.ready) (not (is_empty b.waiting) && nat_lt 0 b.held) (and_true (is_both b.ready)) (none_said (is_ready m && (not (is_empty b.waiting) && nat_lt 0 b.held)) _ both.1);
    }

wish_silent : (role : Role) (d : ℕ) (b : Body) (wish : Wish) → b.answers ≡ 0 → b.wish ≡ wish → says_command (asks_of wish) (mux_at role d true b) ≡ None → Silent role d b
wish_silent role d b none no_answers is silent = free_silent role d b no_answers (ap is_due is) silent
wish_silent role d b awaited no_answers is silent = free_silent role d b no_answers (ap is_due is) silent
wish_silent role d b due no_answers is silent = cc

answers_silent : (role : Role) (d : ℕ) (b : Body) (n : ℕ) → b.answers ≡ n → says_answer (copies n (answer_of role d)) (mux_at role d true b) ≡ None → Silent role d b
answers_silent role d b zero is silent = wish_silent role d b b.wish is refl silent
answers_silent role d b (suc n) is silent = cc

silent_side : (role : Role) (d : ℕ) (b : Body) → next (mux_at role d true b) ≡ None → Silent role d b
silent_side role d b silent = answers_silent role d b b.answers refl silent

both_bits : (ready : Readiness) → own_bit ready ≡ 1 → peer_bit ready ≡ 1 → is_both ready ≡ true
both_bits Neither own peer = absurd (omega (arith, own))
both_bits Own own peer = absurd (omega (arith, peer))
both_bits Peer own peer = absurd (omega (arith, own))
both_bits Both own peer = refl

-- a peer without credits is granted some
grants_some : (most peer : ℕ) → peer ≡ 0 → 1 ≤ most → nat_lt 0 (cond (nat_le (2 * peer) most) (most - peer) 0) ≡ true
grants_some most peer is some =
    ap (λ (b : Bool). nat_lt 0 (cond b (most - peer) 0)) (le-leb (2 * peer) most (omega (arith, is, some))) ∙ lt-ltb 0 (most - peer) (omega (arith, is, some))

-- what may go and does not go is nothing
nothing_waits : (waiting : List ℕ) (held : ℕ) → (held ≡ 0 → ⊥) → (true && (not (is_empty waiting) && nat_lt 0 held)) ≡ false → waiting ≡ []
nothing_waits [] held some is = refl
nothing_waits (octet ∷ octets) zero some is = absurd (some refl)
nothing_waits (octet ∷ octets) (suc held) some is = absurd (let never : true ≡ false = sym (lt-ltb 0 (suc held) (omega arith)) ∙ is in cc)

-- a side that holds no credit has a peer that would grant some
waits_for_credit : (role : Role) (d : ℕ) (b other : Body) → Silent role d other → other.peer ≡ b.held + 0 → 1 ≤ other.cap → b.held ≡ 0 → ⊥
waits_for_credit role d b other silent is some zero_held =
    let never : true ≡ false = sym (grants_some other.cap other.peer (omega (arith, is, zero_held)) some) ∙ silent.no_grant in
    cc

-- ---- the pair

no_items : (role : Role) (d : ℕ) (xs : List Item) → map (frame_of role d) xs ≡ [] → xs ≡ []
no_items role d [] is = refl
no_items role d (x ∷ xs) is = cc

done_at : (d : ℕ) (bi br : Body) (pi gi pr gr : List ℕ) → Tally true bi br [] [] → pi ≡ gr ++ ([] ++ bi.waiting) → pr ≡ gi ++ ([] ++ br.waiting) → Silent Initiator d bi → Silent Responder d br
    → IsDone (pair_at d true bi br [] [] pi gi pr gr)
done_at d bi br pi gi pr gr tally forth back si sr =
    let ready_i : is_both bi.ready ≡ true = both_bits bi.ready (omega (arith, tally.own_forth, tally.asked_forth, sr.no_answers, si.not_due)) (omega (arith, tally.peer_back, sr.not_due)) in
    let ready_r : is_both br.ready ≡ true = both_bits br.ready (omega (arith, tally.own_back, tally.asked_back, si.no_answers, sr.not_due)) (omega (arith, tally.peer_forth, si.not_due)) in
    let none_i : bi.waiting ≡ [] = nothing_waits bi.waiting bi.held (waits_for_credit Responder d bi br sr tally.forth tally.some_peer) (ap (λ (b : Bool). b && (not (is_empty bi.waiting) && nat_lt 0 bi.held)) (sym ready_i) ∙ si.no_data) in
    let none_r : br.waiting ≡ [] = nothing_waits br.waiting br.held (waits_for_credit Initiator d br bi si tally.back tally.some) (ap (λ (b : Bool). b && (not (is_empty br.waiting) && nat_lt 0 br.held)) (sym ready_r) ∙ sr.no_data) in
    record {
      initiator_ready = ap (λ (b : Bool). b && true) ready_i;
      responder_ready = ap (λ (b : Bool). b && true) ready_r;
      forth = sym (forth ∙ ap (λ (w : List ℕ). gr ++ w) none_i ∙ append-nil gr);
      back = sym (back ∙ ap (λ (w : List ℕ). gi ++ w) none_r ∙ append-nil gi);
    }

-- UA is on the way until the channel is open
runs_done : (d : ℕ) (is_open : Bool) (bi br : Body) (xs ys : List Item) (pi gi pr gr : List ℕ) → Tally is_open bi br xs ys → pi ≡ gr ++ (flows xs ++ bi.waiting) → pr ≡ gi ++ (flows ys ++ br.waiting)
    → IsStill (pair_at d is_open bi br xs ys pi gi pr gr) → IsDone (pair_at d is_open bi br xs ys pi gi pr gr)
runs_done d false bi br xs ys pi gi pr gr tally forth back still = let never = still.none_back in cc
runs_done d true bi br (x ∷ xs) ys pi gi pr gr tally forth back still = let never = still.none_forth in cc
runs_done d true bi br [] (y ∷ ys) pi gi pr gr tally forth back still = let never = still.none_back in cc
runs_done d true bi br [] [] pi gi pr gr tally forth back still =
    done_at d bi br pi gi pr gr tally forth back (silent_side Initiator d bi still.initiator_silent) (silent_side Responder d br still.responder_silent)

-- while it opens one side has a frame to send, or one is on the way
stage_goes_on : (t : Terms) (s : Stage) → IsStill (stage t s) → ⊥
stage_goes_on t fresh still = let never = still.initiator_silent in cc
stage_goes_on t asking_control still = let never = still.none_forth in cc
stage_goes_on t control_asked still = let never = still.responder_silent in cc
stage_goes_on t control_agreed still = let never = still.none_back in cc
stage_goes_on t control_open still = let never = still.initiator_silent in cc
stage_goes_on t offering still = let never = still.none_forth in cc
stage_goes_on t offered still = let never = still.responder_silent in cc
stage_goes_on t accepting still = let never = still.none_back in cc
stage_goes_on t accepted still = let never = still.initiator_silent in cc
stage_goes_on t asking_user still = let never = still.none_forth in cc
stage_goes_on t user_asked still = let never = still.responder_silent in cc

good_done : (t : Terms) (p : Pair) → Good t p → IsStill p → IsDone p
good_done t p (opens s is) still = absurd (stage_goes_on t s (subst IsStill is still))
good_done t p (runs r) still =
    subst IsDone (sym r.is) (runs_done t.dlci r.is_open r.bi r.br r.xs r.ys r.pi r.gi r.pr r.gr r.tally r.forth r.back (subst IsStill r.is still))

pub still-is_done : StillIsDone
still-is_done t turns still = good_done t (all_turns turns (new_pair t)) (all_good t turns) still
