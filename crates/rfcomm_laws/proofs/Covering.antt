-- The credits that each side counts for its peer cover what the peer sent and may still send.
use Rattle.std.proofs.Common.{arith, ◌≡◌, ◌<◌, ℕ, ◌==◌, ◌+◌, ◌*◌, Bool, true, false, ◌&&◌, cond, List, [], ◌∷◌, ◌++◌, map, refl, sym, ap, subst, ◌∙◌}
use Rattle.std.proofs.lemmas.Bool.{eq-eqb, ne_eqb}
use Rattle.rfcomm_frames.specs.declared.frame.MuxKind.TheVariants.{Sabm, Ua}
use Rattle.rfcomm_frames.specs.declared.connection.Role.{Role}
use Rattle.rfcomm_frames.specs.declared.connection.Role.TheVariants.{Initiator, Responder}
use Rattle.rfcomm_frames.specs.Frames.{PlainFrame, carries}
use Rattle.rfcomm_frames.specs.Controls.{msc, written}
use Rattle.rfcomm_frames.specs.FrameReading.{is_empty}
use Rattle.rfcomm_frames.specs.Multiplexing.{credit_octet}
use Rattle.rfcomm_model.specs.Written.{command_frame, response_frame, control_frame}
use Rattle.rfcomm_model.proofs.Stepping.{and_false}
use Rattle.rfcomm_laws.specs.Pairs.{Pair, all_turns, Terms, new_pair}
use Rattle.rfcomm_laws.specs.Covers.{is_of, data_frames, grants, Covers, CreditsCover}
use Rattle.rfcomm_laws.proofs.Running.{Item, signal, grant, info, frame_of, cost, bonus, costs, bonuses}
use Rattle.rfcomm_laws.proofs.Joining.{ahead, Runs}
use Rattle.rfcomm_laws.proofs.Stages.{Stage, fresh, asking_control, control_asked, control_agreed, control_open, offering, offered, accepting, accepted, asking_user, user_asked, stage, offer, acceptance, Good, opens, runs, all_good}

-- ---- items

same : (d : ℕ) → (d == d) ≡ true
same d = eq-eqb d d refl

zero_apart : (d : ℕ) → 0 < d → (0 == d) ≡ false
zero_apart d some = ne_eqb 0 d (λ e. omega arith)

data_item : (d : ℕ) → 0 < d → (role : Role) (x : Item) (frames : List PlainFrame) → data_frames d (frame_of role d x ∷ frames) ≡ cost x + data_frames d frames
data_item d some role (signal command) frames =
    ap (λ (b : Bool). cond (b && true) (cond (is_empty (written (msc command (4 * d + 3) 0x8D))) 0 1) 0 + data_frames d frames) (zero_apart d some)
data_item d some role (grant n) frames = ap (λ (b : Bool). cond (b && true) 0 0 + data_frames d frames) (same d)
data_item d some role (info octet octets) frames = ap (λ (b : Bool). cond (b && true) 1 0 + data_frames d frames) (same d)

grant_item : (d : ℕ) → 0 < d → (role : Role) (x : Item) (frames : List PlainFrame) → grants d (frame_of role d x ∷ frames) ≡ bonus x + grants d frames
grant_item d some role (signal command) frames = ap (λ (b : Bool). cond (b && true) 0 0 + grants d frames) (zero_apart d some)
grant_item d some role (grant n) frames = ap (λ (b : Bool). cond (b && true) n 0 + grants d frames) (same d)
grant_item d some role (info octet octets) frames = ap (λ (b : Bool). cond (b && true) 0 0 + grants d frames) (same d)

data_items : (d : ℕ) → 0 < d → (role : Role) (xs : List Item) → data_frames d (map (frame_of role d) xs) ≡ costs xs
data_items d some role [] = refl
data_items d some role (x ∷ xs) = data_item d some role x (map (frame_of role d) xs) ∙ ap (λ (n : ℕ). cost x + n) (data_items d some role xs)

grant_items : (d : ℕ) → 0 < d → (role : Role) (xs : List Item) → grants d (map (frame_of role d) xs) ≡ bonuses xs
grant_items d some role [] = refl
grant_items d some role (x ∷ xs) = grant_item d some role x (map (frame_of role d) xs) ∙ ap (λ (n : ℕ). bonus x + n) (grant_items d some role xs)

data_ahead : (d : ℕ) (is_open : Bool) (frames : List PlainFrame) → data_frames d (ahead d is_open ++ frames) ≡ data_frames d frames
data_ahead d true frames = refl
data_ahead d false frames = ap (λ (b : Bool). cond b 0 0 + data_frames d frames) (and_false (d == d)) ∙ omega arith

grants_ahead : (d : ℕ) (is_open : Bool) (frames : List PlainFrame) → grants d (ahead d is_open ++ frames) ≡ grants d frames
grants_ahead d true frames = refl
grants_ahead d false frames = ap (λ (b : Bool). cond b 0 0 + grants d frames) (and_false (d == d)) ∙ omega arith

runs_cover : (d : ℕ) → 0 < d → (p : Pair) → Runs d p → Covers d p
runs_cover d some p r =
    let tally = r.tally in
    let one = data_items d some Initiator r.xs in
    let two = grant_items d some Initiator r.xs in
    let three = data_ahead d r.is_open (map (frame_of Responder d) r.ys) ∙ data_items d some Responder r.ys in
    let four = grants_ahead d r.is_open (map (frame_of Responder d) r.ys) ∙ grant_items d some Responder r.ys in
    subst (Covers d) (sym r.is) (record { forth = omega (arith, tally.forth, one, four); back = omega (arith, tally.back, two, three) })

-- ---- opening: no data and no grant is under way

pub record Quiet (d : ℕ) (frame : PlainFrame) : Type 0 where
  pub no_data : data_frames d (frame ∷ []) ≡ 0
  pub no_grant : grants d (frame ∷ []) ≡ 0

quiet : (d : ℕ) (frame : PlainFrame) → is_of d frame ≡ false → Quiet d frame
quiet d frame is = record {
  no_data = ap (λ (b : Bool). cond b (cond (is_empty frame.octets) 0 1) 0 + 0) is;
  no_grant = ap (λ (b : Bool). cond b (credit_octet frame.credits) 0 + 0) is;
}

control_quiet : (t : Terms) (frame : PlainFrame) → frame.dlci ≡ 0 → Quiet t.dlci frame
control_quiet t frame is =
    quiet t.dlci frame (ap (λ (n : ℕ). (n == t.dlci) && carries frame.kind) is ∙ ap (λ (b : Bool). b && carries frame.kind) (zero_apart t.dlci t.some))

stage_covers : (t : Terms) (s : Stage) → Covers t.dlci (stage t s)
stage_covers t fresh = record { forth = omega arith; back = omega arith }
stage_covers t asking_control = let q = control_quiet t (command_frame Initiator Sabm 0) refl in record { forth = omega (arith, q.no_data); back = omega (arith, q.no_grant) }
stage_covers t control_asked = record { forth = omega arith; back = omega arith }
stage_covers t control_agreed = let q = control_quiet t (response_frame Responder Ua 0) refl in record { forth = omega (arith, q.no_grant); back = omega (arith, q.no_data) }
stage_covers t control_open = record { forth = omega arith; back = omega arith }
stage_covers t offering = let q = control_quiet t (control_frame Initiator (offer t)) refl in record { forth = omega (arith, q.no_data); back = omega (arith, q.no_grant) }
stage_covers t offered = record { forth = omega arith; back = omega arith }
stage_covers t accepting =
    let q = control_quiet t (control_frame Responder (acceptance t)) refl in
    record { forth = omega (arith, q.no_grant); back = omega (arith, q.no_data) }
stage_covers t accepted = record { forth = omega arith; back = omega arith }
stage_covers t asking_user =
    let q = quiet t.dlci (command_frame Initiator Sabm t.dlci) (and_false (t.dlci == t.dlci)) in
    record { forth = omega (arith, q.no_data); back = omega (arith, q.no_grant) }
stage_covers t user_asked = record { forth = omega arith; back = omega arith }

good_covers : (t : Terms) (p : Pair) → Good t p → Covers t.dlci p
good_covers t p (opens s is) = subst (Covers t.dlci) (sym is) (stage_covers t s)
good_covers t p (runs r) = runs_cover t.dlci t.some p r

pub credits-cover : CreditsCover
credits-cover t ms = good_covers t (all_turns ms (new_pair t)) (all_good t ms)
