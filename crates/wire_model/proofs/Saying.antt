-- The four things that an end may say.
use Rattle.std.proofs.Common.{◌≡◌, ◌+◌, ◌%◌, ◌<◌, ◌≤◌, max, Bool, true, false, List, [], ◌∷◌, length, Option, Some, None, slice_get, refl, sym, ap, arith}
use Rattle.std.proofs.lemmas.Option.{slice_get_within}
use Rattle.wire_model.specs.declared.link.LinkMessage.{LinkMessage}
use Rattle.wire_model.specs.declared.link.Stage.{Stage}
use Rattle.wire_model.specs.declared.link.Stage.TheVariants.{Uninitialized, Initialized, Active, Reset}
use Rattle.wire_model.specs.Machine.{Unit, Wire, Said, says, says_link, says_active, says_unit, says_ack, is_reset, link_packet, unit_packet, ack_packet, debts, flag}

abbrev pub says_message_of : Wire → LinkMessage → List LinkMessage → Said
says_message_of w message rest = record { packet = link_packet message; after = record w { waiting = rest } }

abbrev pub says_unit_of : Wire → Unit → Said
says_unit_of w unit = record { packet = unit_packet ((w.first + w.next) % 8) w.expected unit; after = record w { given = max w.given (w.next + 1); next = w.next + 1; answers = false } }

abbrev pub says_ack_of : Wire → Said
says_ack_of w = record { packet = ack_packet w.expected; after = record w { answers = false } }

pub data Saying (w : Wire) (said : Said) : Type 0 where
  message : (m : LinkMessage) (rest : List LinkMessage) → is_reset w.stage ≡ false → w.waiting ≡ m ∷ rest → said ≡ says_message_of w m rest → Saying w said
  unit : (u : Unit) → w.stage ≡ Active → w.waiting ≡ [] → slice_get w.unacked w.next ≡ Some u → said ≡ says_unit_of w u → Saying w said
  answer : w.stage ≡ Active → w.waiting ≡ [] → slice_get w.unacked w.next ≡ None → w.answers ≡ true → said ≡ says_ack_of w → Saying w said

same_some : {A : Type 0} (a b : A) → (let o : Option A = Some a in o) ≡ Some b → a ≡ b
same_some a b e = cc

not_none : {A : Type 0} (a : A) → (let o : Option A = None in o) ≡ Some a → ⊥
not_none a e = cc

by_answer : (w : Wire) (said : Said) (due : Bool) → w.answers ≡ due → w.stage ≡ Active → w.waiting ≡ [] → slice_get w.unacked w.next ≡ None → says_ack due w ≡ Some said → Saying w said
by_answer w said true is active none past is' = answer active none past is (same_some said (says_ack_of w) (sym is'))
by_answer w said false is active none past is' = absurd (not_none said is')

by_unit : (w : Wire) (said : Said) (next : Option Unit) → slice_get w.unacked w.next ≡ next → w.stage ≡ Active → w.waiting ≡ [] → says_unit next w ≡ Some said → Saying w said
by_unit w said (Some u) at active none is = unit u active none at (same_some said (says_unit_of w u) (sym is))
by_unit w said None at active none is = by_answer w said w.answers refl active none at is

by_stage : (w : Wire) (said : Said) (stage : Stage) → w.stage ≡ stage → w.waiting ≡ [] → says_active stage w ≡ Some said → Saying w said
by_stage w said Uninitialized at none is = absurd (not_none said is)
by_stage w said Initialized at none is = absurd (not_none said is)
by_stage w said Active at none is = by_unit w said (slice_get w.unacked w.next) refl at none is
by_stage w said Reset at none is = absurd (not_none said is)

by_waiting : (w : Wire) (said : Said) (waiting : List LinkMessage) → is_reset w.stage ≡ false → w.waiting ≡ waiting → says_link waiting w ≡ Some said → Saying w said
by_waiting w said [] sound none is = by_stage w said w.stage refl none is
by_waiting w said (m ∷ rest) sound at is = message m rest sound at (same_some said (says_message_of w m rest) (sym is))

by_reset : (w : Wire) (said : Said) (reset : Bool) → is_reset w.stage ≡ reset → says w ≡ Some said → Saying w said
by_reset w said true at is = absurd (not_none said (rw at at is))
by_reset w said false at is = by_waiting w said w.waiting at refl (rw at at is)

-- what is said is one of them
pub saying_of : (w : Wire) (said : Said) → says w ≡ Some said → Saying w said
saying_of w said is = by_reset w said (is_reset w.stage) refl is

-- each packet makes what an end may say less
falls_by : (w : Wire) (said : Said) → Saying w said → debts said.after < debts w
falls_by w said (message m rest sound at is) = let a = ap length at in rw is (omega arith)
falls_by w said (unit u active none at is) = let lt = slice_get_within w.unacked w.next u at in let le : flag false ≤ flag w.answers = omega arith in rw is (omega arith)
falls_by w said (answer active none past due is) = let f = ap flag due in rw is (omega arith)

pub says_falls : (w : Wire) (said : Said) → says w ≡ Some said → debts said.after < debts w
says_falls w said is = falls_by w said (saying_of w said is)
