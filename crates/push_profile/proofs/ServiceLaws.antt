-- What a server makes of a packet.
use Rattle.std.proofs.Common.{◌≡◌, ℕ, ◌≤◌, Bool, true, false, ◌||◌, List, ◌++◌, length, drop, Option, Result, sym, ap, subst, ◌∙◌, if◌then◌else◌, IsTrue, is_err, arith, length-append}
use Rattle.bt_base.specs.Objects.{Contents}
use Rattle.bt_base.specs.declared.no_memory.NoMemory.{NoMemory}
use Rattle.bt_base.specs.declared.settings.Transport.{Transport}
use Rattle.obex_session.specs.Counting.{Counts}
use Rattle.push_model.specs.Sessions.{Sessions, lets_go, hears}
use Rattle.push_model.specs.Service.{Service, Served, after_parted, after_heard, is_ignored, response_over}
use Rattle.push_profile.specs.Reactions.{given, LetsGo, HearsPacket, ServiceParts, ServiceHears}

-- the service with other sessions
abbrev pub moved : Sessions → Bool → Service → Service
moved sessions failed service = record service { sessions = sessions; failed = failed }

pub parts_from : (t : Transport) (old : Service) (mid : Sessions) (c c' : Option Contents) (s s' : Counts) (result other : Result (Unit {0}) NoMemory) (failed : Bool) → old.failed ≡ false → failed ≡ is_err result → is_err other ≡ is_err result
    → LetsGo t old.sessions mid c c' s s' result → ServiceParts t old (moved mid failed old) c c' s s' other
parts_from t old mid c c' s s' result other failed works fails same lets = record {
  used = lets.used;
  parted = λ rest. ap (after_parted old) (lets.parted rest)
      ∙ ap (λ (b : Bool). (let served : Served = record { service = moved mid (b || is_err result) old; gift = given c' rest } in served)) works
      ∙ ap (λ (b : Bool). (let served : Served = record { service = moved mid b old; gift = given c' rest } in served)) (sym fails);
  fails = same ∙ sym fails;
  short = λ e. lets.short (subst IsTrue same e);
  counted = lets.counted;
}

pub hears_from : (t : Transport) (old : Service) (mid : Sessions) (packet : List ℕ) (c c' : Option Contents) (s s' : Counts) (room room' : List ℕ) (result : Result ℕ NoMemory) (other : Result (Unit {0}) NoMemory) (failed : Bool) (new : Service) → old.failed ≡ false → failed ≡ is_err result → is_err other ≡ is_err result
    → is_ignored t packet old ≡ false → (hear : HearsPacket t old.sessions mid packet c c' s s' room room' result) → new ≡ response_over t hear.response (moved mid failed old) → new.failed ≡ failed → ServiceHears t old new packet c c' s s' other
hears_from t old mid packet c c' s s' room room' result other failed new works fails same heard hear new_is kept = record {
  used = hear.used;
  heard = λ rest.
      ap (λ (b : Bool). (if b then after_parted old (lets_go t old.sessions (given c (hear.used ++ rest))) else after_heard t old (hears t packet old.sessions (given c (hear.used ++ rest))))) heard
      ∙ ap (after_heard t old) (hear.heard rest)
      ∙ ap (λ (b : Bool). (let served : Served = record { service = response_over t hear.response (moved mid (b || is_err result) old); gift = given c' rest } in served)) works
      ∙ ap (λ (b : Bool). (let served : Served = record { service = response_over t hear.response (moved mid b old); gift = given c' rest } in served)) (sym fails)
      ∙ ap (λ (x : Service). (let served : Served = record { service = x; gift = given c' rest } in served)) (sym new_is);
  fails = same ∙ sym fails ∙ sym kept;
  short = λ e. hear.short (subst IsTrue same e);
  counted = hear.counted;
}

pub ignored_from : (t : Transport) (old new : Service) (packet : List ℕ) (c c' : Option Contents) (s s' : Counts) (result : Result (Unit {0}) NoMemory) → is_ignored t packet old ≡ true → ServiceParts t old new c c' s s' result → ServiceHears t old new packet c c' s s' result
ignored_from t old new packet c c' s s' result ignored done = record {
  used = done.used;
  heard = λ rest.
      ap (λ (b : Bool). (if b then after_parted old (lets_go t old.sessions (given c (done.used ++ rest))) else after_heard t old (hears t packet old.sessions (given c (done.used ++ rest))))) ignored ∙ done.parted rest;
  fails = done.fails;
  short = done.short;
  counted = done.counted;
}

-- a response lies within its room
pub within : (response room room' : List ℕ) (count : ℕ) → length room ≡ 7 → length room' ≡ 7 → count ≡ length response → room' ≡ response ++ drop count room → count ≤ 7
within response room room' count seven seven' counted written =
    let e : length (response ++ drop count room) ≡ 7 = ap length (sym written) ∙ seven' in
    let f = length-append response (drop count room) in
    omega (arith, e, f, counted)
