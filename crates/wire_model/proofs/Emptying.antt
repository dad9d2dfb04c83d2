-- Where no packet is lost between two active ends, each unit is acknowledged by the end of a round.
use Rattle.std.proofs.Common.{◌≡◌, ◌⊎◌, ℕ, ◌+◌, ◌-◌, ◌%◌, ◌≤◌, Bool, true, false, cond, List, [], ◌∷◌, ◌++◌, length, drop, slice_get, eqb, Option, Some, inl, inr, refl, sym, ap, subst, ◌∙◌, arith, length-append}
use Rattle.std.specs.Prelude.{⊤}
use Rattle.std.specs.List.{list_any}
use Rattle.std.specs.Option.{option_to_list}
use Rattle.std.proofs.lemmas.Bool.{or_parts, eqb-false}
use Rattle.std.proofs.lemmas.List.{append-nil, length-drop, nil_from_length}
use Rattle.wire_packets.specs.Packets.{Packet}
use Rattle.wire_model.specs.declared.link.LinkMessage.{LinkMessage}
use Rattle.wire_model.specs.declared.link.Stage.{Stage}
use Rattle.wire_model.specs.declared.link.Stage.TheVariants.{Active}
use Rattle.wire_model.specs.declared.link.Way.{Way}
use Rattle.wire_model.specs.declared.link.Way.TheVariants.{Forth, Back}
use Rattle.wire_model.specs.Machine.{Unit, Wire, Heard, Said, hears, hears_message, hears_ack, takes_number, acknowledged, past, quiet, is_active, ack_packet}
use Rattle.wire_model.specs.Pair.{Pair, Event, Took, Crossed, Rang, Happens, Runs, CrossesBy, AllGoBy, is_lost}
use Rattle.wire_model.proofs.Saying.{Saying, message, unit, answer, saying_of, says_unit_of, says_ack_of}
use Rattle.wire_model.proofs.Handshake.{Tame}
use Rattle.wire_model.proofs.Hearing.{message_keeps, unit_heard, ack_heard, stage_cases, acks_nothing}
use Rattle.wire_model.proofs.Standing.{Stands, read, read_tame, link_heard, safe_by}
use Rattle.wire_model.proofs.Delivering.{unit_at, acked_all}
use Rattle.wire_model.proofs.Numbering.{Stood, stood_on, Silent, message_numbers, ack_answers}

-- a message that is said leaves an active end active
still_active : (own : Stage) (m : LinkMessage) (rest : List LinkMessage) (w : Wire) → Tame own w.stage (m ∷ rest) → w.stage ≡ Active → (hears_message (Some (read m)) w).stage ≡ Active
still_active own m rest w t at =
    let k = message_keeps (read m) w (safe_by (read m) own w.stage rest (read_tame own w.stage m rest t)) in
    elim (stage_cases (hears_message (Some (read m)) w).stage) [
      | inl on ↦ on
      | inr off ↦ let x : true ≡ false = sym (ap is_active at) ∙ k.stage off in absurd cc
    ]

-- ---- a packet of the first end, which is heard

record Forthed (took got : List Unit) (a' : Wire) (h : Heard) : Type 0 where
  pub first : a'.stage ≡ Active
  pub second : h.after.stage ≡ Active
  pub reach : length took + a'.next ≤ length got + length (option_to_list h.unit) + length a'.unacked
  pub due : (a'.next ≡ 0) ⊎ (h.after.answers ≡ true)

takes_forth : (test : Bool) (took got : List Unit) (u : Unit) (a' b : Wire) → a'.stage ≡ Active → b.stage ≡ Active → (test ≡ true → length took + a'.next ≤ length got + 1 + length a'.unacked) → (test ≡ false → length took + a'.next ≤ length got + length a'.unacked)
    → Forthed took got a' (takes_number test u b)
takes_forth true took got u a' b on on' more same = record { first = on; second = on'; reach = more refl; due = inr refl }
takes_forth false took got u a' b on on' more same = let r = same refl in record { first = on; second = on'; reach = omega (arith, r); due = inr refl }

forthed : (a b : Wire) (took got : List Unit) (come : List Packet) (said : Said) → Stands a b took got come → a.stage ≡ Active → b.stage ≡ Active → length took + a.next ≤ length got + length a.unacked → (a.next ≡ 0) ⊎ (b.answers ≡ true) → Saying a said
    → Forthed took got said.after (hears said.packet b)
forthed a b took got come said s on on' reach due (message m rest sound at is) =
    let t : Tame a.stage b.stage (m ∷ rest) = subst (Tame a.stage b.stage) at s.there in
    let n = message_numbers (read m) b in
    subst (λ (x : Said). Forthed took got x.after (hears x.packet b)) (sym is)
    (subst (λ (h : Heard). Forthed took got (record a { waiting = rest }) h) (sym (link_heard m b)) (record {
      first = on;
      second = still_active a.stage m rest b t on';
      reach = omega (arith, reach);
      due = elim due [ inl e ↦ inl e | inr e ↦ inr (n.2 ∙ e) ];
    }))
forthed a b took got come said s on on' reach due (unit u active none at is) =
    let seq = (a.first + a.next) % 8 in
    let k = acks_nothing a.expected b s.none s.nothing in
    let b' = hears_ack a.expected b in
    let total = ap length s.took_is ∙ length-append s.done a.unacked in
    subst (λ (x : Said). Forthed took got x.after (hears x.packet b)) (sym is)
    (subst (λ (h : Heard). Forthed took got (says_unit_of a u).after h) (sym (unit_heard b seq a.expected u (unit_at a a.next u s.sending.units at) on'))
    (takes_forth (eqb seq b'.expected) took got u (says_unit_of a u).after b' on (k.stage ∙ on') (λ e. omega (arith, reach))
    (λ e. let ne = eqb-false seq b'.expected e in omega (arith, reach, ne, k.expected, s.expected, s.sending.first, total))))
forthed a b took got come said s on on' reach due (answer active none past' due' is) =
    let k = acks_nothing a.expected b s.none s.nothing in
    subst (λ (x : Said). Forthed took got x.after (hears x.packet b)) (sym is)
    (subst (λ (h : Heard). Forthed took got (says_ack_of a).after h) (sym (ack_heard b a.expected on')) (record {
      first = on;
      second = k.stage ∙ on';
      reach = omega (arith, reach);
      due = elim due [ inl e ↦ inl e | inr e ↦ inr (ack_answers a.expected b ∙ e) ];
    }))

-- each unit that was said is acknowledged by now, or among those that the second end accepted
pub record Ahead (p : Pair) : Type 0 where
  pub stood : Stood p
  pub first : p.first.stage ≡ Active
  pub second : p.second.stage ≡ Active
  pub reach : length stood.took + p.first.next ≤ length stood.got + length p.first.unacked
  pub due : (p.first.next ≡ 0) ⊎ (p.second.answers ≡ true)

ahead_one : (p q : Pair) (packet : Packet) (g : Option Unit) (h : Happens p (Crossed (record { way = Forth; lost = false; packet = packet }) g) q) → Ahead p → Ahead q
ahead_one p q packet g h x =
    let f = forthed p.first p.second x.stood.took x.stood.got x.stood.come (record { packet = packet; after = q.first }) x.stood.stands x.first x.second x.reach x.due (saying_of p.first (record { packet = packet; after = q.first }) h.says) in
    let gain = ap (λ (o : Option Unit). length (option_to_list o)) h.gets in
    record {
      stood = stood_on p q (Crossed (record { way = Forth; lost = false; packet = packet }) g) x.stood h;
      first = f.first;
      second = ap (λ (w : Wire). w.stage) h.hears ∙ f.second;
      reach = omega (arith, f.reach, gain, length-append x.stood.got (option_to_list g), ap length (append-nil x.stood.took));
      due = elim f.due [ inl e ↦ inl e | inr e ↦ inr (ap (λ (w : Wire). w.answers) h.hears ∙ e) ];
    }

pub ahead_all : (p q : Pair) (events : List Event) → AllGoBy Forth events → Runs p events q → list_any is_lost events ≡ false → Ahead p → Ahead q
ahead_all p q [] go r e x = subst Ahead (sym r) x
ahead_all p q (Took u ∷ events) go r e x = absurd go.0
ahead_all p q (Rang ∷ events) go r e x = absurd go.0
ahead_all p q (Crossed c g ∷ events) go r e x =
    let b = or_parts c.lost (list_any is_lost events) e in
    ahead_all r.0 q events go.1 r.2 b.1 (by c.way c.lost go.0 b.0 r.1)
  where
    by : (way : Way) (lost : Bool) → way ≡ Forth → lost ≡ false → CrossesBy way p lost c.packet g r.0 → Ahead r.0
    by way lost is is' h = ahead_one p r.0 c.packet g (subst (λ (l : Bool). CrossesBy Forth p l c.packet g r.0) is' (subst (λ (w : Way). CrossesBy w p lost c.packet g r.0) is h)) x

-- ---- a packet of the second end, which is heard or lost

-- the first end has said all its units; and, where the second end accepted them all, they are acknowledged, or an
-- acknowledgement is due
abbrev Owed : Bool → List Unit → List Unit → Wire → Wire → Type 0
Owed false took got a b = ⊤
Owed true took got a b = (length took ≤ length got) × ((a.unacked ≡ []) ⊎ (b.answers ≡ true))

record Backed (whole : Bool) (took got : List Unit) (a' b b' : Wire) : Type 0 where
  pub first : a'.stage ≡ Active
  pub silent : Silent a'
  pub owed : Owed whole took got a' b'

owed_message : (whole : Bool) (took got : List Unit) (a a' b b' : Wire) → a'.unacked ≡ a.unacked → b'.answers ≡ b.answers → Owed whole took got a b → Owed whole took got a' b'
owed_message false took got a a' b b' e f o = tt
owed_message true took got a a' b b' e f (all, inl none) = (all, inl (e ∙ none))
owed_message true took got a a' b b' e f (all, inr due) = (all, inr (f ∙ due))

owed_answer : (whole : Bool) (took got done : List Unit) (k : ℕ) (a b a' b' : Wire) → a'.unacked ≡ drop k a.unacked → length took ≡ length done + length a.unacked → k ≡ length got - length done → Owed whole took got a b → Owed whole took got a' b'
owed_answer false took got done k a b a' b' e total steps o = tt
owed_answer true took got done k a b a' b' e total steps (all, due) = (all, inl (nil_from_length a'.unacked (omega (arith, ap length e, length-drop k a.unacked, total, steps, all))))

backed : (whole : Bool) (a b : Wire) (took got : List Unit) (come : List Packet) (said : Said) → Stands a b took got come → a.stage ≡ Active → Silent a → Owed whole took got a b → Saying b said → Backed whole took got (hears said.packet a).after b said.after
backed whole a b took got come said s on silent owed (message m rest sound at is) =
    let t : Tame b.stage a.stage (m ∷ rest) = subst (Tame b.stage a.stage) at s.back in
    let n = message_numbers (read m) a in
    subst (λ (x : Said). Backed whole took got (hears x.packet a).after b x.after) (sym is)
    (subst (λ (h : Heard). Backed whole took got h.after b (record b { waiting = rest })) (sym (link_heard m a)) (record {
      first = still_active b.stage m rest a t on;
      silent = record { all = omega (arith, ap length n.0, n.1, silent.all); none = n.2 ∙ silent.none };
      owed = owed_message whole took got a (hears_message (Some (read m)) a) b (record b { waiting = rest }) n.0 refl owed;
    }))
backed whole a b took got come said s on silent owed (unit u active none at is) = absurd (let x : slice_get [] b.next ≡ Some u = subst (λ (us : List Unit). slice_get us b.next ≡ Some u) s.none at in cc)
backed whole a b took got come said s on silent owed (answer active none past' due is) =
    let all = acked_all a b took got come s in
    let k = past a.first b.expected in
    let heard : hears (ack_packet b.expected) a ≡ quiet (acknowledged k a) = ack_heard a b.expected on ∙ ap (λ (t : Bool). quiet (cond t (acknowledged k a) a)) all.1 in
    let total = ap length s.took_is ∙ length-append s.done a.unacked in
    let shorter = length-drop k a.unacked in
    subst (λ (x : Said). Backed whole took got (hears x.packet a).after b x.after) (sym is)
    (subst (λ (h : Heard). Backed whole took got h.after b (says_ack_of b).after) (sym heard) (record {
      first = on;
      silent = record { all = omega (arith, shorter, silent.all); none = silent.none };
      owed = owed_answer whole took got s.done k a b (acknowledged k a) (says_ack_of b).after refl total all.0 owed;
    }))

pub record Behind (whole : Bool) (p : Pair) : Type 0 where
  pub stood : Stood p
  pub first : p.first.stage ≡ Active
  pub silent : Silent p.first
  pub owed : Owed whole stood.took stood.got p.first p.second

owed_more : (whole : Bool) (took got took' got' : List Unit) (a b : Wire) → length took' ≡ length took → length got' ≡ length got → Owed whole took got a b → Owed whole took' got' a b
owed_more false took got took' got' a b e f o = tt
owed_more true took got took' got' a b e f (all, due) = (omega (arith, e, f, all), due)

behind_one : (whole : Bool) (p q : Pair) (packet : Packet) (g : Option Unit) (h : Happens p (Crossed (record { way = Back; lost = false; packet = packet }) g) q) → Behind whole p → Behind whole q
behind_one whole p q packet g h x =
    let f = backed whole p.first p.second x.stood.took x.stood.got x.stood.come (record { packet = packet; after = q.second }) x.stood.stands x.first x.silent x.owed (saying_of p.second (record { packet = packet; after = q.second }) h.says) in
    let f' : Backed whole x.stood.took x.stood.got q.first p.second q.second = subst (λ (w : Wire). Backed whole x.stood.took x.stood.got w p.second q.second) (sym h.hears) f in
    record {
      stood = stood_on p q (Crossed (record { way = Back; lost = false; packet = packet }) g) x.stood h;
      first = f'.first;
      silent = f'.silent;
      owed = owed_more whole x.stood.took x.stood.got (x.stood.took ++ []) (x.stood.got ++ []) q.first q.second (ap length (append-nil x.stood.took)) (ap length (append-nil x.stood.got)) f'.owed;
    }

pub behind_all : (whole : Bool) (p q : Pair) (events : List Event) → AllGoBy Back events → Runs p events q → list_any is_lost events ≡ false → Behind whole p → Behind whole q
behind_all whole p q [] go r e x = subst (Behind whole) (sym r) x
behind_all whole p q (Took u ∷ events) go r e x = absurd go.0
behind_all whole p q (Rang ∷ events) go r e x = absurd go.0
behind_all whole p q (Crossed c g ∷ events) go r e x =
    let b = or_parts c.lost (list_any is_lost events) e in
    behind_all whole r.0 q events go.1 r.2 b.1 (by c.way c.lost go.0 b.0 r.1)
  where
    by : (way : Way) (lost : Bool) → way ≡ Back → lost ≡ false → CrossesBy way p lost c.packet g r.0 → Behind whole r.0
    by way lost is is' h = behind_one whole p r.0 c.packet g (subst (λ (l : Bool). CrossesBy Back p l c.packet g r.0) is' (subst (λ (w : Way). CrossesBy w p lost c.packet g r.0) is h)) x
