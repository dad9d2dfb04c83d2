use Rattle.std.proofs.Common.{◌≡◌, ℕ, List, take, refl, sym, ap, subst, ◌∙◌, Result, Ok, Err, inl, inr, arith}
use Rattle.std.specs.Result.{OnErr}
use Rattle.bt_base.specs.Streams.{gained}
use Rattle.capture.specs.declared.flow.Flow.TheVariants.{Into}
use Rattle.capture.specs.Entries.{Moved, entry_octets}
use Rattle.h4_framing.specs.Packets.{packet, spelling, IsPacket}
use Rattle.push_terms.specs.declared.word.Side.{Side}
use Rattle.radio_model.specs.Radio.{Radio, after_answer}
use Rattle.radio_world.specs.Hosts.{acl_limit, Coming, coming_packet, hears_coming, Reacts}
use Rattle.radio_world.specs.Leaving.{Medium, in_radio}
use Rattle.radio_world.specs.Halves.{IsStillIn, ComesFirst}
use Rattle.radio_world.proofs.Moving.{goes_none}
use Rattle.radio_world.proofs.Entering.{none_comes, stays_as_it_is, IsHanded, handed_first, reads_whole, reads_same, comes_less}
use Rattle.radio_world.specs.Counting.{GoesBy}
use Rattle.radio_world.proofs.Tallying.{goes_in_by}
use Rattle.radio_world.proofs.Hearing.{may_next}
use Rattle.radio_world.proofs.Breaking.{entering_broken}
use Rattle.radio_world.proofs.medium.Medium.move_into.Goals as goal

abbrev mk : Radio → ℕ → ℕ → Medium
mk radio a b = record { radio = radio; peak_a = a; peak_b = b }

-- the radio hands something over, and nothing else of what lies between changes
with_radio : (side : Side) (radio radio' : Radio) (a b : ℕ) (old : Medium) → radio' ≡ after_answer side radio → mk radio a b ≡ old → mk radio' a b ≡ in_radio (after_answer side old.radio) old
with_radio side radio radio' a b old handed same = ap (λ r. mk r a b) handed ∙ ap (λ m. in_radio (after_answer side m.radio) m) same

-- the host is the one of that side
at_side : (own side : Side) (coming : Coming) (octets : List ℕ) → own ≡ side → IsPacket acl_limit (coming_packet side coming) → octets ≡ spelling (coming_packet side coming)
    → IsPacket acl_limit (coming_packet own coming) × (octets ≡ spelling (coming_packet own coming))
at_side own side coming octets same is spelled = subst (λ (s : Side). IsPacket acl_limit (coming_packet s coming) × (octets ≡ spelling (coming_packet s coming))) (sym same) (is, spelled)

pub returns-in_default-clause-goes : goal.returns-in_default-clause-goes
returns-in_default-clause-goes g c =
    let host = g.H.Host in
    let still : IsStillIn c.args.side c.args.self.now = subst (λ (m : Medium). IsStillIn c.args.side m) c.self.view_is
    (none_comes c.args.side (mk c.self.inside.radio c.self.inside.peak_a c.self.inside.peak_b) c.hand.result _ c.hand.new.into c.hand.ensures.handed c.in_default.is) in
    let same = with_radio c.args.side c.self.inside.radio c.hand.new.self c.self.inside.peak_a c.self.inside.peak_b c.args.self.now c.hand.ensures.radio c.self.view_is ∙ stays_as_it_is c.args.side c.args.self.now still in
    subst (λ (m : Medium). GoesBy 0 host.machine c.args.side host.answers c.args.self.now m (host.station c.args.host.now c.args.port.now) (host.station c.args.host.now c.args.port.now) c.args.port.now c.args.port.now (g.T.Sink.content c.args.trace.now) (g.T.Sink.content c.args.trace.now)) (sym same)
    (record { goes = goes_none host.machine c.args.side host.answers c.args.self.now (host.station c.args.host.now c.args.port.now) c.args.port.now (g.T.Sink.content c.args.trace.now) g.met.H.Host.joins; many = omega arith })

pub returns-in_default-clause-still : goal.returns-in_default-clause-still
returns-in_default-clause-still g c = λ none.
    let still : IsStillIn c.args.side c.args.self.now = subst (λ (m : Medium). IsStillIn c.args.side m) c.self.view_is
    (none_comes c.args.side (mk c.self.inside.radio c.self.inside.peak_a c.self.inside.peak_b) c.hand.result _ c.hand.new.into c.hand.ensures.handed c.in_default.is) in
    let same = with_radio c.args.side c.self.inside.radio c.hand.new.self c.self.inside.peak_a c.self.inside.peak_b c.args.self.now c.hand.ensures.radio c.self.view_is ∙ stays_as_it_is c.args.side c.args.self.now still in
    (still, same, refl)

pub unreachable-requires : goal.unreachable-requires
unreachable-requires g c =
    let medium = mk c.self.inside.radio c.self.inside.peak_a c.self.inside.peak_b in
    reads_whole c.args.side c.self.inside.radio c.in-Some.n c.hand.new.into (take c.in-Some.n c.hand.new.into) c.first.result
    (handed_first c.args.side medium c.hand.result c.in-Some.n _ c.hand.new.into c.hand.ensures.handed c.in-Some.is) refl c.first.ensures c.in_default-first.not-Whole

pub hand_over-requires-clause-comes : goal.hand_over-requires-clause-comes
hand_over-requires-clause-comes g c =
    let host = g.H.Host in
    let medium = mk c.self.inside.radio c.self.inside.peak_a c.self.inside.peak_b in
    let handed : IsHanded c.args.side c.self.inside.radio c.in-Some.n c.hand.new.into = handed_first c.args.side medium c.hand.result c.in-Some.n _ c.hand.new.into c.hand.ensures.handed c.in-Some.is in
    let comes : ComesFirst c.args.side handed.coming c.args.self.now.radio = subst (λ (m : Medium). ComesFirst c.args.side handed.coming m.radio) c.self.view_is handed.comes in
    let heard = at_side host.side c.args.side handed.coming (take c.in-Some.n c.hand.new.into) c.requires.side handed.is handed.front in
    record { coming = handed.coming; may = may_next host.machine c.args.side c.args.self.now (host.station c.args.host.now c.args.port.now) c.requires.heard handed.coming comes; is = heard.0; spelled = heard.1 }

pub returns-clause-goes : goal.returns-clause-goes
returns-clause-goes g c =
    let host = g.H.Host in
    let medium = mk c.self.inside.radio c.self.inside.peak_a c.self.inside.peak_b in
    let handed : IsHanded c.args.side c.self.inside.radio c.in-Some.n c.hand.new.into = handed_first c.args.side medium c.hand.result c.in-Some.n _ c.hand.new.into c.hand.ensures.handed c.in-Some.is in
    let read = reads_same c.args.side c.self.inside.radio c.in-Some.n c.hand.new.into (take c.in-Some.n c.hand.new.into) c.in-Whole.unit c.in-Whole.field-1 handed refl c.in-Whole.ensures in
    let comes : ComesFirst c.args.side handed.coming c.args.self.now.radio = subst (λ (m : Medium). ComesFirst c.args.side handed.coming m.radio) c.self.view_is handed.comes in
    let after = with_radio c.args.side c.self.inside.radio c.hand.new.self c.self.inside.peak_a c.self.inside.peak_b c.args.self.now c.hand.ensures.radio c.self.view_is in
    let heard = at_side host.side c.args.side handed.coming (take c.in-Some.n c.hand.new.into) c.requires.side handed.is handed.front in
    let reaction = (c.in_ok-hand_over.ensures.hears handed.coming (may_next host.machine c.args.side c.args.self.now (host.station c.args.host.now c.args.port.now) c.requires.heard handed.coming comes) heard.0 heard.1).0 in
    goes_in_by host.machine c.args.side host.answers handed.coming (packet c.in-Whole.unit) c.args.self.now _ (host.station c.args.host.now c.args.port.now) (host.station c.hand_over.new.host c.hand_over.new.port) c.args.port.now c.hand_over.new.port
    (g.T.Sink.content c.args.trace.now) (g.T.Sink.content c.record.new.trace) comes after read
    (subst (λ (side : Side). Reacts host.machine side host.answers (hears_coming host.machine side handed.coming) (host.station c.args.host.now c.args.port.now) (host.station c.hand_over.new.host c.hand_over.new.port) c.args.port.now c.hand_over.new.port) c.requires.side reaction)
    c.in_ok-record.ensures.ok handed.is

pub returns-clause-none_held : goal.returns-clause-none_held
returns-clause-none_held g c =
    let medium = mk c.self.inside.radio c.self.inside.peak_a c.self.inside.peak_b in
    let handed : IsHanded c.args.side c.self.inside.radio c.in-Some.n c.hand.new.into = handed_first c.args.side medium c.hand.result c.in-Some.n _ c.hand.new.into c.hand.ensures.handed c.in-Some.is in
    let comes : ComesFirst c.args.side handed.coming c.args.self.now.radio = subst (λ (m : Medium). ComesFirst c.args.side handed.coming m.radio) c.self.view_is handed.comes in
    let heard = at_side g.H.Host.side c.args.side handed.coming (take c.in-Some.n c.hand.new.into) c.requires.side handed.is handed.front in
    (c.in_ok-hand_over.ensures.hears handed.coming (may_next g.H.Host.machine c.args.side c.args.self.now (g.H.Host.station c.args.host.now c.args.port.now) c.requires.heard handed.coming comes) heard.0 heard.1).1

pub returns-clause-shorter : goal.returns-clause-shorter
returns-clause-shorter g c = λ moved.
    let medium = mk c.self.inside.radio c.self.inside.peak_a c.self.inside.peak_b in
    let handed : IsHanded c.args.side c.self.inside.radio c.in-Some.n c.hand.new.into = handed_first c.args.side medium c.hand.result c.in-Some.n _ c.hand.new.into c.hand.ensures.handed c.in-Some.is in
    let comes : ComesFirst c.args.side handed.coming c.args.self.now.radio = subst (λ (m : Medium). ComesFirst c.args.side handed.coming m.radio) c.self.view_is handed.comes in
    let after = with_radio c.args.side c.self.inside.radio c.hand.new.self c.self.inside.peak_a c.self.inside.peak_b c.args.self.now c.hand.ensures.radio c.self.view_is in
    comes_less c.args.side handed.coming c.args.self.now _ comes after

any_err : {X E Y : Type 0} (result : Result X E) → Y → OnErr result Y
any_err (Ok x) y = tt
any_err (Err e) y = y

pub returns-in_err-record-clause-said : goal.returns-in_err-record-clause-said
returns-in_err-record-clause-said g c = any_err c.from_residual.result (inl (refl, refl))

pub returns-in_err-hand_over-clause-said : goal.returns-in_err-hand_over-clause-said
returns-in_err-hand_over-clause-said g c =
    let medium = mk c.self.inside.radio c.self.inside.peak_a c.self.inside.peak_b in
    let handed : IsHanded c.args.side c.self.inside.radio c.in-Some.n c.hand.new.into = handed_first c.args.side medium c.hand.result c.in-Some.n _ c.hand.new.into c.hand.ensures.handed c.in-Some.is in
    let read = reads_same c.args.side c.self.inside.radio c.in-Some.n c.hand.new.into (take c.in-Some.n c.hand.new.into) c.in-Whole.unit c.in-Whole.field-1 handed refl c.in-Whole.ensures in
    let comes : ComesFirst c.args.side handed.coming c.args.self.now.radio = subst (λ (m : Medium). ComesFirst c.args.side handed.coming m.radio) c.self.view_is handed.comes in
    any_err c.from_residual-in_err-hand_over.result
    (inr (handed.coming, comes, c.in_ok-record.ensures.ok ∙ ap (λ p. gained (g.T.Sink.content c.args.trace.now) (entry_octets (Moved c.args.side Into p))) read))

pub returns-clause-sound : goal.returns-clause-sound
returns-clause-sound g c =
    let medium = mk c.self.inside.radio c.self.inside.peak_a c.self.inside.peak_b in
    let handed : IsHanded c.args.side c.self.inside.radio c.in-Some.n c.hand.new.into = handed_first c.args.side medium c.hand.result c.in-Some.n _ c.hand.new.into c.hand.ensures.handed c.in-Some.is in
    let comes : ComesFirst c.args.side handed.coming c.args.self.now.radio = subst (λ (m : Medium). ComesFirst c.args.side handed.coming m.radio) c.self.view_is handed.comes in
    let heard = at_side g.H.Host.side c.args.side handed.coming (take c.in-Some.n c.hand.new.into) c.requires.side handed.is handed.front in
    (c.in_ok-hand_over.ensures.hears handed.coming (may_next g.H.Host.machine c.args.side c.args.self.now (g.H.Host.station c.args.host.now c.args.port.now) c.requires.heard handed.coming comes) heard.0 heard.1).2

pub returns-in_err-record-clause-breaks : goal.returns-in_err-record-clause-breaks
returns-in_err-record-clause-breaks g c =
    let host = g.H.Host in
    let content = g.T.Sink.content in
    let medium = mk c.self.inside.radio c.self.inside.peak_a c.self.inside.peak_b in
    let handed : IsHanded c.args.side c.self.inside.radio c.in-Some.n c.hand.new.into = handed_first c.args.side medium c.hand.result c.in-Some.n _ c.hand.new.into c.hand.ensures.handed c.in-Some.is in
    let read = reads_same c.args.side c.self.inside.radio c.in-Some.n c.hand.new.into (take c.in-Some.n c.hand.new.into) c.in-Whole.unit c.in-Whole.field-1 handed refl c.in-Whole.ensures in
    let comes : ComesFirst c.args.side handed.coming c.args.self.now.radio = subst (λ (m : Medium). ComesFirst c.args.side handed.coming m.radio) c.self.view_is handed.comes in
    any_err c.from_residual.result
    (entering_broken host.machine c.args.side host.answers host.lacked host.station g.met.H.Host.joins handed.coming (packet c.in-Whole.unit) c.args.self.now (host.station c.args.host.now c.args.port.now) c.args.port.now c.args.port.now
    (content c.args.trace.now) (content c.record.new.trace) (c.args.host.now, refl) comes read handed.is c.record.ensures.front (inl refl))

pub returns-in_err-hand_over-clause-breaks : goal.returns-in_err-hand_over-clause-breaks
returns-in_err-hand_over-clause-breaks g c =
    let host = g.H.Host in
    let content = g.T.Sink.content in
    let medium = mk c.self.inside.radio c.self.inside.peak_a c.self.inside.peak_b in
    let handed : IsHanded c.args.side c.self.inside.radio c.in-Some.n c.hand.new.into = handed_first c.args.side medium c.hand.result c.in-Some.n _ c.hand.new.into c.hand.ensures.handed c.in-Some.is in
    let read = reads_same c.args.side c.self.inside.radio c.in-Some.n c.hand.new.into (take c.in-Some.n c.hand.new.into) c.in-Whole.unit c.in-Whole.field-1 handed refl c.in-Whole.ensures in
    let comes : ComesFirst c.args.side handed.coming c.args.self.now.radio = subst (λ (m : Medium). ComesFirst c.args.side handed.coming m.radio) c.self.view_is handed.comes in
    any_err c.from_residual-in_err-hand_over.result
    (entering_broken host.machine c.args.side host.answers host.lacked host.station g.met.H.Host.joins handed.coming (packet c.in-Whole.unit) c.args.self.now (host.station c.args.host.now c.args.port.now) c.args.port.now c.hand_over.new.port
    (content c.args.trace.now) (content c.record.new.trace) (c.args.host.now, refl) comes read handed.is c.record.ensures.front (inr c.in_err-hand_over.ensures.lacked))
