-- What every run of two ends keeps.
use Rattle.std.proofs.Common.{◌≡◌, ◌≢◌, ◌+◌, ◌%◌, ◌≤◌, All, false, ◌||◌, List, [], ◌∷◌, ◌++◌, length, Some, slice_get, inl, inr, refl, sym, ap, subst, ◌∙◌, arith}
use Rattle.std.proofs.lemmas.Bool.{cases_Bool}
use Rattle.std.proofs.lemmas.Option.{slice_get_within}
use Rattle.wire_packets.specs.Packets.{Packet}
use Rattle.wire_model.specs.declared.link.LinkMessage.{LinkMessage}
use Rattle.wire_model.specs.declared.link.LinkMessage.TheVariants.{Sync, SyncResponse, Config, ConfigResponse}
use Rattle.wire_model.specs.declared.link.Stage.{Stage}
use Rattle.wire_model.specs.declared.link.Stage.TheVariants.{Uninitialized, Initialized, Active, Reset}
use Rattle.wire_model.specs.Machine.{Unit, Wire, Heard, Said, hears, hears_message, hears_sync, hears_sync_response, hears_config, hears_config_response, quiet, is_active, link_packet, lesser}
use Rattle.wire_model.specs.Trace.{is_config_response, is_response, behind_response, picked}
use Rattle.wire_model.specs.Pair.{IsUnit}
use Rattle.wire_model.proofs.Saying.{Saying, message, unit, answer}
use Rattle.wire_model.proofs.Handshake.{Tame, IsWorking, IsOpened, IsResponse, NotSync, message_heard, tame_tail, tame_window, waits_stage}
use Rattle.wire_model.proofs.Hearing.{Keeps, message_keeps}
use Rattle.wire_model.proofs.Picking.{has_come, has_come-push, behind_push, behind_none, behind_first, picks_none}

-- the end that sends units, of which those in `done` are acknowledged
pub record Sending (w : Wire) (done : List Unit) : Type 0 where
  pub own : w.own ≤ 4
  pub some : 1 ≤ w.own
  pub window : w.window ≤ w.own
  pub wide : 1 ≤ w.window
  pub held : length w.unacked ≤ w.window
  pub given : w.given ≤ length w.unacked
  pub next : w.next ≤ length w.unacked
  pub first : w.first ≡ length done % 8
  pub idle : is_active w.stage ≡ false → w.unacked ≡ []
  pub units : All IsUnit w.unacked

-- Two ends, of which the first took units and the second accepted some, when these packets have come to it.
pub record Stands (a b : Wire) (took got : List Unit) (ps : List Packet) : Type 0 where
  pub there : Tame a.stage b.stage a.waiting
  pub back : Tame b.stage a.stage b.waiting
  pub done : List Unit
  pub left : List Unit
  pub took_is : took ≡ done ++ a.unacked
  pub got_is : took ≡ got ++ left
  pub sending : Sending a done
  pub none : b.unacked ≡ []
  pub nothing : b.given ≡ 0
  pub expected : b.expected ≡ length got % 8
  pub low : length done ≤ length got
  pub high : length got ≤ length done + a.given
  pub come : has_come ps ≡ is_active b.stage
  pub picks : picked 0 (behind_response ps) ≡ got

-- ---- what keeps the numbers keeps the end that sends

pub sending_keeps : (w w' : Wire) (done : List Unit) → Keeps w w' → Sending w done → Sending w' done
sending_keeps w w' done k s = record {
  own = omega (arith, k.own, s.own);
  some = omega (arith, k.own, s.some);
  window = elim k.window [ inl e ↦ omega (arith, e, k.own, s.window) | inr l ↦ omega (arith, l.0, k.own) ];
  wide = elim k.window [ inl e ↦ omega (arith, e, s.wide) | inr l ↦ l.1 s.some ];
  held = elim k.window [ inl e ↦ omega (arith, e, ap length k.unacked, s.held) | inr l ↦ omega (arith, ap length k.unacked, ap length (s.idle l.2)) ];
  given = omega (arith, k.given, ap length k.unacked, s.given);
  next = elim k.next [ inl e ↦ omega (arith, e, ap length k.unacked, s.next) | inr e ↦ omega (arith, e) ];
  first = k.first ∙ s.first;
  idle = λ e. k.unacked ∙ s.idle (k.stage e);
  units = subst (All IsUnit) (sym k.unacked) s.units;
}

-- ---- link control

-- a message as it is read: a window has three bits
abbrev pub read : LinkMessage → LinkMessage
read Sync = Sync
read SyncResponse = SyncResponse
read (Config w) = Config (w % 8)
read (ConfigResponse w) = ConfigResponse (w % 8)

pub link_heard : (m : LinkMessage) (w : Wire) → hears (link_packet m) w ≡ quiet (hears_message (Some (read m)) w)
link_heard Sync w = refl
link_heard SyncResponse w = refl
link_heard (Config x) w = refl
link_heard (ConfigResponse x) w = refl

pub read_tame : (own other : Stage) (m : LinkMessage) (rest : List LinkMessage) → Tame own other (m ∷ rest) → Tame own other (read m ∷ rest)
read_tame own other Sync rest t = t
read_tame own other SyncResponse rest t = t
read_tame own other (Config w) rest t = tame_window own other (Config w) (Config (w % 8)) rest (λ e. e) (λ r. r) (λ n. n) t
read_tame own other (ConfigResponse w) rest t = tame_window own other (ConfigResponse w) (ConfigResponse (w % 8)) rest (λ e. e) (λ r. r) (λ n. n) t

working : (s : Stage) → s ≡ Active → IsWorking s
working s e = subst IsWorking (sym e) tt

-- SYNC is not heard by an active end
pub safe_by : (m : LinkMessage) (own other : Stage) (rest : List LinkMessage) → Tame own other (m ∷ rest) → m ≡ Sync → other ≢ Active
safe_by m own other rest t is at = subst NotSync is (t.silent (working other at)).0

-- whether an end is active behind a message
active_by : (m : LinkMessage) (b : Wire) (s : Stage) → b.stage ≡ s → (IsResponse m → IsOpened s) → (IsWorking s → NotSync m) → (is_active s || is_response (Some m)) ≡ is_active (hears_message (Some m) b).stage
active_by Sync b Uninitialized at o n = sym (ap (λ (s : Stage). is_active (hears_sync s b).stage) at ∙ ap is_active (waits_stage SyncResponse b ∙ at))
active_by Sync b Initialized at o n = sym (ap (λ (s : Stage). is_active (hears_sync s b).stage) at ∙ ap is_active (waits_stage SyncResponse b ∙ at))
active_by Sync b Active at o n = absurd (n tt)
active_by Sync b Reset at o n = sym (ap (λ (s : Stage). is_active (hears_sync s b).stage) at ∙ ap is_active at)
active_by SyncResponse b Uninitialized at o n = sym (ap (λ (s : Stage). is_active (hears_sync_response s b).stage) at ∙ ap is_active (waits_stage (Config b.own) (record b { stage = Initialized })))
active_by SyncResponse b Initialized at o n = sym (ap (λ (s : Stage). is_active (hears_sync_response s b).stage) at ∙ ap is_active at)
active_by SyncResponse b Active at o n = sym (ap (λ (s : Stage). is_active (hears_sync_response s b).stage) at ∙ ap is_active at)
active_by SyncResponse b Reset at o n = sym (ap (λ (s : Stage). is_active (hears_sync_response s b).stage) at ∙ ap is_active at)
active_by (Config f) b Uninitialized at o n = sym (ap (λ (s : Stage). is_active (hears_config s f b).stage) at ∙ ap is_active at)
active_by (Config f) b Initialized at o n = sym (ap (λ (s : Stage). is_active (hears_config s f b).stage) at ∙ ap is_active (waits_stage (ConfigResponse (lesser b.own f)) b ∙ at))
active_by (Config f) b Active at o n = sym (ap (λ (s : Stage). is_active (hears_config s f b).stage) at ∙ ap is_active (waits_stage (ConfigResponse (lesser b.own f)) b ∙ at))
active_by (Config f) b Reset at o n = sym (ap (λ (s : Stage). is_active (hears_config s f b).stage) at ∙ ap is_active at)
active_by (ConfigResponse f) b Uninitialized at o n = absurd (o tt)
active_by (ConfigResponse f) b Initialized at o n = sym (ap (λ (s : Stage). is_active (hears_config_response s f b).stage) at)
active_by (ConfigResponse f) b Active at o n = sym (ap (λ (s : Stage). is_active (hears_config_response s f b).stage) at ∙ ap is_active at)
active_by (ConfigResponse f) b Reset at o n = absurd (o tt)

response_of : (m : LinkMessage) → is_config_response (link_packet m) ≡ is_response (Some (read m))
response_of Sync = refl
response_of SyncResponse = refl
response_of (Config w) = refl
response_of (ConfigResponse w) = refl

-- a packet that is not reliable picks nothing more
pub picks_same : (ps : List Packet) (p : Packet) (got : List Unit) → p.reliable ≡ false → picked 0 (behind_response ps) ≡ got → picked 0 (behind_response (ps ++ p ∷ [])) ≡ got
picks_same ps p got plain is = elim (cases_Bool (has_come ps)) [
  | inl e ↦ ap (picked 0) (behind_push ps p e) ∙ picks_none 0 (behind_response ps) p plain ∙ is
  | inr e ↦ ap (picked 0) (behind_first ps p e) ∙ sym (ap (picked 0) (behind_none ps e)) ∙ is
]

pub message_forth : (a b : Wire) (took got : List Unit) (ps : List Packet) (m : LinkMessage) (rest : List LinkMessage) → Stands a b took got ps → a.waiting ≡ m ∷ rest
    → Stands (record a { waiting = rest }) (hears (link_packet m) b).after took got (ps ++ link_packet m ∷ [])
message_forth a b took got ps m rest s at =
    let t : Tame a.stage b.stage (m ∷ rest) = subst (Tame a.stage b.stage) at s.there in
    let r = read_tame a.stage b.stage m rest t in
    let k = message_keeps (read m) b (safe_by (read m) a.stage b.stage rest r) in
    let both = message_heard a.stage (read m) rest b r s.back in
    let heard : (hears (link_packet m) b).after ≡ hears_message (Some (read m)) b = ap (λ (h : Heard). h.after) (link_heard m b) in
    subst (λ (x : Wire). Stands (record a { waiting = rest }) x took got (ps ++ link_packet m ∷ [])) (sym heard) (record {
      there = both.there;
      back = both.back;
      done = s.done;
      left = s.left;
      took_is = s.took_is;
      got_is = s.got_is;
      sending = record { own = s.sending.own; some = s.sending.some; window = s.sending.window; wide = s.sending.wide; held = s.sending.held; given = s.sending.given; next = s.sending.next; first = s.sending.first; idle = s.sending.idle; units = s.sending.units };
      none = k.unacked ∙ s.none;
      nothing = k.given ∙ s.nothing;
      expected = k.expected ∙ s.expected;
      low = s.low;
      high = s.high;
      come = has_come-push ps (link_packet m) ∙ ap (λ x. x || is_config_response (link_packet m)) s.come ∙ ap (λ x. is_active b.stage || x) (response_of m)
          ∙ active_by (read m) b b.stage refl r.answers.0 (λ w. (r.silent w).0);
      picks = picks_same ps (link_packet m) got refl s.picks;
    })

pub message_back : (a b : Wire) (took got : List Unit) (ps : List Packet) (m : LinkMessage) (rest : List LinkMessage) → Stands a b took got ps → b.waiting ≡ m ∷ rest
    → Stands (hears (link_packet m) a).after (record b { waiting = rest }) took got ps
message_back a b took got ps m rest s at =
    let t : Tame b.stage a.stage (m ∷ rest) = subst (Tame b.stage a.stage) at s.back in
    let r = read_tame b.stage a.stage m rest t in
    let k = message_keeps (read m) a (safe_by (read m) b.stage a.stage rest r) in
    let both = message_heard b.stage (read m) rest a r s.there in
    let heard : (hears (link_packet m) a).after ≡ hears_message (Some (read m)) a = ap (λ (h : Heard). h.after) (link_heard m a) in
    subst (λ (x : Wire). Stands x (record b { waiting = rest }) took got ps) (sym heard) (record {
      there = both.back;
      back = both.there;
      done = s.done;
      left = s.left;
      took_is = s.took_is ∙ ap (λ us. s.done ++ us) (sym k.unacked);
      got_is = s.got_is;
      sending = sending_keeps a (hears_message (Some (read m)) a) s.done k s.sending;
      none = s.none;
      nothing = s.nothing;
      expected = s.expected;
      low = s.low;
      high = omega (arith, s.high, k.given);
      come = s.come;
      picks = s.picks;
    })

-- ---- what is said, and lost

pub said_first : (a b : Wire) (took got : List Unit) (ps : List Packet) (said : Said) → Stands a b took got ps → Saying a said → Stands said.after b took got ps
said_first a b took got ps said s (message m rest sound at is) =
    let t = tame_tail a.stage b.stage m rest (subst (Tame a.stage b.stage) at s.there) in
    subst (λ (x : Said). Stands x.after b took got ps) (sym is) (record {
      there = t;
      back = s.back;
      done = s.done;
      left = s.left;
      took_is = s.took_is;
      got_is = s.got_is;
      sending = record { own = s.sending.own; some = s.sending.some; window = s.sending.window; wide = s.sending.wide; held = s.sending.held; given = s.sending.given; next = s.sending.next; first = s.sending.first; idle = s.sending.idle; units = s.sending.units };
      none = s.none;
      nothing = s.nothing;
      expected = s.expected;
      low = s.low;
      high = s.high;
      come = s.come;
      picks = s.picks;
    })
said_first a b took got ps said s (unit u active empty at is) =
    let lt = slice_get_within a.unacked a.next u at in
    subst (λ (x : Said). Stands x.after b took got ps) (sym is) (record {
      there = s.there;
      back = s.back;
      done = s.done;
      left = s.left;
      took_is = s.took_is;
      got_is = s.got_is;
      sending = record { own = s.sending.own; some = s.sending.some; window = s.sending.window; wide = s.sending.wide; held = s.sending.held; given = omega (arith, s.sending.given, lt); next = omega (arith, lt); first = s.sending.first; idle = s.sending.idle; units = s.sending.units };
      none = s.none;
      nothing = s.nothing;
      expected = s.expected;
      low = s.low;
      high = omega (arith, s.high);
      come = s.come;
      picks = s.picks;
    })
said_first a b took got ps said s (answer active empty at due is) =
    subst (λ (x : Said). Stands x.after b took got ps) (sym is) (record {
      there = s.there;
      back = s.back;
      done = s.done;
      left = s.left;
      took_is = s.took_is;
      got_is = s.got_is;
      sending = record { own = s.sending.own; some = s.sending.some; window = s.sending.window; wide = s.sending.wide; held = s.sending.held; given = s.sending.given; next = s.sending.next; first = s.sending.first; idle = s.sending.idle; units = s.sending.units };
      none = s.none;
      nothing = s.nothing;
      expected = s.expected;
      low = s.low;
      high = s.high;
      come = s.come;
      picks = s.picks;
    })

no_unit : (b : Wire) (u : Unit) → b.unacked ≡ [] → slice_get b.unacked b.next ≡ Some u → ⊥
no_unit b u none at = let x : slice_get [] b.next ≡ Some u = subst (λ (us : List Unit). slice_get us b.next ≡ Some u) none at in absurd cc

pub said_second : (a b : Wire) (took got : List Unit) (ps : List Packet) (said : Said) → Stands a b took got ps → Saying b said → Stands a said.after took got ps
said_second a b took got ps said s (message m rest sound at is) =
    let t = tame_tail b.stage a.stage m rest (subst (Tame b.stage a.stage) at s.back) in
    subst (λ (x : Said). Stands a x.after took got ps) (sym is) (record {
      there = s.there;
      back = t;
      done = s.done;
      left = s.left;
      took_is = s.took_is;
      got_is = s.got_is;
      sending = s.sending;
      none = s.none;
      nothing = s.nothing;
      expected = s.expected;
      low = s.low;
      high = s.high;
      come = s.come;
      picks = s.picks;
    })
said_second a b took got ps said s (unit u active empty at is) = absurd (no_unit b u s.none at)
said_second a b took got ps said s (answer active empty at due is) =
    subst (λ (x : Said). Stands a x.after took got ps) (sym is) (record {
      there = s.there;
      back = s.back;
      done = s.done;
      left = s.left;
      took_is = s.took_is;
      got_is = s.got_is;
      sending = s.sending;
      none = s.none;
      nothing = s.nothing;
      expected = s.expected;
      low = s.low;
      high = s.high;
      come = s.come;
      picks = s.picks;
    })
