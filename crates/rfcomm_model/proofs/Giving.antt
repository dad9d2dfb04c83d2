-- What a frame that is sent leaves.
use Rattle.std.proofs.Common.{arith, ◌≡◌, ◌<◌, ℕ, ◌==◌, ◌+◌, ◌-◌, Bool, true, false, ◌&&◌, cond, List, [], ◌∷◌, Option, Some, None, refl, ap, ◌∙◌}
use Rattle.std.specs.Prelude.{not, nat_lt}
use Rattle.std.proofs.lemmas.Bool.{ne_eqb, eq-eqb, ltb-true}
use Rattle.rfcomm_frames.specs.declared.connection.Role.{Role}
use Rattle.rfcomm_frames.specs.Frames.{PlainFrame}
use Rattle.rfcomm_frames.specs.FrameReading.{is_empty}
use Rattle.rfcomm_frames.specs.Multiplexing.{Framed, passing, is_role, is_data, spent_by}
use Rattle.rfcomm_credits.specs.Accounts.{grant_of}
use Rattle.rfcomm_model.specs.declared.state.Command.{Command}
use Rattle.rfcomm_model.specs.declared.state.Command.TheVariants.{OpenControl, Agree, OpenUser, Signal, LeaveUser, LeaveControl}
use Rattle.rfcomm_model.specs.declared.state.Asks.{Asks}
use Rattle.rfcomm_model.specs.declared.state.Asks.TheVariants.{Nothing, Due, Awaited}
use Rattle.rfcomm_model.specs.Machine.{Mux, may_pass, is_ready}
use Rattle.rfcomm_model.specs.Written.{grant_frame, data_frame}
use Rattle.rfcomm_model.specs.Saying.{Said, says, says_data, says_grant, first_of, frame_of_command, commanded, says_command, says_answer, next}
use Rattle.rfcomm_model.proofs.Stepping.{IsQuiet, AllQuiet, and_false, cond_same}
use Rattle.rfcomm_model.proofs.Talking.{same_role}

abbrev own : Mux → PlainFrame → Framed
own m frame = record { from = m.role; frame = frame }

-- what is sent, and what is then
pub record Gives (m : Mux) (said : Said) : Type 0 where
  pub control_is : said.after.control ≡ passing 0 (record { from = m.role; frame = said.frame }) m.control
  pub user_is : said.after.user ≡ passing m.dlci (record { from = m.role; frame = said.frame }) m.user
  pub held_is : m.account.held ≡ spent_by m.dlci m.role (record { from = m.role; frame = said.frame }) + said.after.account.held
  pub quiet : AllQuiet m.dlci said.after.answers

abbrev pub SaysGives : Mux → Option Said → Type 0
SaysGives m None = Unit {0}
SaysGives m (Some said) = Gives m said

pub spent_none : (d : ℕ) (role from : Role) (frame : PlainFrame) → IsQuiet d frame → spent_by d role (record { from = from; frame = frame }) ≡ 0
spent_none d role from frame quiet =
    ap (λ (b : Bool). cond (is_empty (cond (is_role role from && b) frame.octets [])) 0 1) quiet
    ∙ ap (λ (b : Bool). cond (is_empty (cond b frame.octets [])) 0 1) (and_false (is_role role from))

free : (m : Mux) (frame : PlainFrame) → IsQuiet m.dlci frame → m.account.held ≡ spent_by m.dlci m.role (own m frame) + m.account.held
free m frame quiet = let none = spent_none m.dlci m.role m.role frame quiet in omega (arith, none)

pub on_control : (d : ℕ) (b : Bool) → 0 < d → ((0 == d) && b) ≡ false
on_control d b some = ap (λ (x : Bool). x && b) (ne_eqb 0 d (λ e. omega arith))

-- ---- own commands

command_gives : (m : Mux) (command : Command) → 0 < m.dlci → AllQuiet m.dlci m.answers → Gives m (says (frame_of_command command m) (commanded command m))
command_gives m OpenControl some all = record { control_is = refl; user_is = refl; held_is = free m (frame_of_command OpenControl m) (on_control m.dlci false some); quiet = all }
command_gives m Agree some all = record { control_is = refl; user_is = refl; held_is = free m (frame_of_command Agree m) (on_control m.dlci true some); quiet = all }
command_gives m OpenUser some all = record { control_is = refl; user_is = refl; held_is = free m (frame_of_command OpenUser m) (and_false (m.dlci == m.dlci)); quiet = all }
command_gives m Signal some all = record { control_is = refl; user_is = refl; held_is = free m (frame_of_command Signal m) (on_control m.dlci true some); quiet = all }
command_gives m LeaveUser some all = record { control_is = refl; user_is = refl; held_is = free m (frame_of_command LeaveUser m) (and_false (m.dlci == m.dlci)); quiet = all }
command_gives m LeaveControl some all = record { control_is = refl; user_is = refl; held_is = free m (frame_of_command LeaveControl m) (on_control m.dlci false some); quiet = all }

-- ---- grants and data

if_said : (m : Mux) (b : Bool) (said : Said) → (b ≡ true → Gives m said) → SaysGives m (cond b (Some said) None)
if_said m true said g = g refl
if_said m false said g = tt

grant_gives : (m : Mux) → AllQuiet m.dlci m.answers → SaysGives m (says_grant m)
grant_gives m all =
    let n : ℕ = grant_of m.account in
    let none : spent_by m.dlci m.role (own m (grant_frame m.role m.dlci n)) ≡ 0 = ap (λ (octets : List ℕ). cond (is_empty octets) 0 1) (cond_same (is_data m.dlci m.role (own m (grant_frame m.role m.dlci n))) []) in
    if_said m (may_pass m && nat_lt 0 n) (says (grant_frame m.role m.dlci n) (record m { account = record { cap = m.account.cap; held = m.account.held; peer = m.account.peer + n } }))
    (λ is. record { control_is = refl; user_is = refl; held_is = omega (arith, none); quiet = all })

both_true : (a b : Bool) → (a && b) ≡ true → (a ≡ true) × (b ≡ true)
both_true true b is = (refl, is)
both_true false b is = let never : false ≡ true = is in cc

not_true : (b : Bool) → not b ≡ true → b ≡ false
not_true true is = let never : false ≡ true = is in cc
not_true false is = refl

data_gives : (m : Mux) → AllQuiet m.dlci m.answers → SaysGives m (says_data m)
data_gives m all =
    if_said m (is_ready m && (not (is_empty m.waiting) && nat_lt 0 m.account.held))
    (says (data_frame m.role m.dlci m.waiting) (record m { waiting = []; account = record { cap = m.account.cap; held = m.account.held - 1; peer = m.account.peer } }))
    (λ is.
    let more = both_true (not (is_empty m.waiting)) (nat_lt 0 m.account.held) (both_true (is_ready m) (not (is_empty m.waiting) && nat_lt 0 m.account.held) is).1 in
    let frame : PlainFrame = data_frame m.role m.dlci m.waiting in
    let here : is_data m.dlci m.role (own m frame) ≡ true = ap (λ (b : Bool). b && ((m.dlci == m.dlci) && true)) (same_role m.role) ∙ ap (λ (b : Bool). b && true) (eq-eqb m.dlci m.dlci refl) in
    let one : spent_by m.dlci m.role (own m frame) ≡ 1 =
    ap (λ (b : Bool). cond (is_empty (cond b m.waiting [])) 0 1) here ∙ ap (λ (b : Bool). cond b 0 1) (not_true (is_empty m.waiting) more.0) in
    let some : 0 < m.account.held = ltb-true 0 m.account.held more.1 in
    record { control_is = refl; user_is = refl; held_is = omega (arith, one, some); quiet = all })

first_gives : (m : Mux) (a b : Option Said) → SaysGives m a → SaysGives m b → SaysGives m (first_of a b)
first_gives m None b p q = q
first_gives m (Some said) b p q = p

asks_gives : (m : Mux) (asks : Asks) → 0 < m.dlci → AllQuiet m.dlci m.answers → SaysGives m (says_command asks m)
asks_gives m Nothing some all = first_gives m (says_grant m) (says_data m) (grant_gives m all) (data_gives m all)
asks_gives m (Awaited command) some all = first_gives m (says_grant m) (says_data m) (grant_gives m all) (data_gives m all)
asks_gives m (Due command) some all = command_gives m command some all

answer_gives : (m : Mux) (answers : List PlainFrame) → 0 < m.dlci → AllQuiet m.dlci m.answers → AllQuiet m.dlci answers → SaysGives m (says_answer answers m)
answer_gives m [] some all these = asks_gives m m.asks some all
answer_gives m (answer ∷ rest) some all these = record { control_is = refl; user_is = refl; held_is = free m answer these.0.0; quiet = these.1 }

pub next_gives : (m : Mux) → 0 < m.dlci → AllQuiet m.dlci m.answers → SaysGives m (next m)
next_gives m some all = answer_gives m m.answers some all all
