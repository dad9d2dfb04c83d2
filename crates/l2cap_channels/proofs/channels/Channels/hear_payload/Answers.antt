use Rattle.std.proofs.Common.{◌≡◌, ◌∙◌, refl, sym, ap}
use Rattle.std.specs.Prelude.{Option, Some, None, slice_get, option_map, Ok, Err}
use Rattle.ertm_frames.specs.Answers.{answer}
use Rattle.ertm_frames.specs.Frames.{plain}
use Rattle.channel_model.specs.declared.event.CloseReason.{CloseReason}
use Rattle.channel_model.specs.Value.{Held}
use Rattle.channel_model.specs.Closing.{closes}
use Rattle.channel_model.specs.Carrying.{reason_of, takes_held}
use Rattle.l2cap_channels.specs.Arriving.{opened, opens, fault_on, frame_up}
use Rattle.l2cap_channels.specs.Finding.{on_place, place_setup}
use Rattle.l2cap_channels.specs.Machine.{Machine, with_channels}
use Rattle.l2cap_channels.specs.Readings.{Nothing, Basic, Framed, plain_reading, taken_at}
use Rattle.l2cap_channels.specs.Steps.{with_setup_at}
use Rattle.l2cap_channels.proofs.Arriving.{untaken_at, basic_at, refuses_at, stays_at, shuts_at, hears_in, up_untaken, up_basic, up_refused, up_stays, up_shuts, within_there}
use Rattle.l2cap_channels.proofs.channels.Channels.hear_payload.Goals as goal

pub returns-in-Nothing : goal.returns-in-Nothing
returns-in-Nothing c =
    let m = c.args.self.now in
    let o = slice_get m.channels.held c.args.at in
    let pdu = c.args.pdu.now in
    let e : taken_at o pdu ≡ Nothing = sym c.taken.ensures.reads ∙ ap plain_reading c.in-Nothing.is in
    ((refl, (λ w. tt), record { up = up_untaken o pdu e; after = ap (with_channels m) (untaken_at o pdu m.channels e) }), tt)

pub returns-in-Basic : goal.returns-in-Basic
returns-in-Basic c =
    let m = c.args.self.now in
    let o = slice_get m.channels.held c.args.at in
    let pdu = c.args.pdu.now in
    let sdu = c.in-Basic.sdu.now in
    let e : taken_at o pdu ≡ Basic sdu = sym c.taken.ensures.reads ∙ ap plain_reading c.in-Basic.is in
    ((refl, (λ w. tt), record { up = c.hand_up-up.ensures ∙ up_basic o pdu sdu e; after = c.open.ensures.after ∙ ap (with_channels m) (basic_at o pdu sdu m.channels e) }), tt)

pub returns-in-Framed-Err : goal.returns-in-Framed-Err
returns-in-Framed-Err c =
    let m = c.args.self.now in
    let o = slice_get m.channels.held c.args.at in
    let pdu = c.args.pdu.now in
    let refusal = c.in-Framed-Err.refusal in
    let e : taken_at o pdu ≡ Framed (Err refusal) = sym c.taken.ensures.reads ∙ ap plain_reading c.in-Framed-Err.is ∙ ap (λ found. Framed (answer found)) c.in-Framed-Err.field-0-is in (
      (
        refl,
        (λ w. tt),
        record {
          up = up_refused o pdu refusal e;
          after = c.refuse_frame.ensures ∙ ap (with_channels m) (refuses_at o pdu refusal m.channels e c.taken.ensures.open c.taken.ensures.same);
        },
      ),
      tt,
    )

pub returns-in-Some : goal.returns-in-Some
returns-in-Some c =
    let m = c.args.self.now in
    let v = m.channels in
    let o = slice_get v.held c.args.at in
    let pdu = c.args.pdu.now in
    let frame = plain c.in-Framed-Ok.frame in
    let w = c.open-in-Framed-Ok.new.self in
    let opening = c.open-in-Framed-Ok.ensures in
    let reason = c.in-Some.reason in
    let e : taken_at o pdu ≡ Framed (Ok frame) = sym c.taken.ensures.reads ∙ ap plain_reading c.in-Framed-Ok.is ∙ ap (λ found. Framed (answer found)) c.in-Framed-Ok.field-0-is in
    let f : fault_on (place_setup (option_map opened o)) frame ≡ Some reason =
    ap (λ (x : Option Held). fault_on (place_setup x) frame) (sym opening.there) ∙ sym c.fault.ensures ∙ c.in-Some.is in
    let w_is : w.channels ≡ on_place (with_setup_at opens) o v = ap (λ (x : Machine). x.channels) opening.after in
    let closed : c.close.new.self ≡ with_channels m (takes_held o pdu v) =
    c.close.ensures.closes
    ∙ ap (λ (r : CloseReason). with_channels w (on_place (closes r) (slice_get w.channels.held c.args.at) w.channels)) c.reason_of.ensures
    ∙ ap (λ (x : Option Held). with_channels w (on_place (closes (reason_of reason)) x w.channels)) opening.there
    ∙ ap (with_channels w) (shuts_at o pdu frame reason v w.channels e c.taken.ensures.open w_is f)
    ∙ ap (λ (x : Machine). with_channels x (takes_held o pdu v)) opening.after in
    ((refl, (λ w. tt), record { up = up_shuts o pdu frame reason e c.taken.ensures.open f; after = closed }), tt)

pub hear_frame-requires-clause-place : goal.hear_frame-requires-clause-place
hear_frame-requires-clause-place c =
    within_there c.args.self.now.channels.held c.open-in-Framed-Ok.new.self.channels.held c.args.at c.requires.place c.open-in-Framed-Ok.ensures.there

pub returns-in_default : goal.returns-in_default
returns-in_default c =
    let m = c.args.self.now in
    let v = m.channels in
    let o = slice_get v.held c.args.at in
    let pdu = c.args.pdu.now in
    let frame = plain c.in-Framed-Ok.frame in
    let w = c.open-in-Framed-Ok.new.self in
    let opening = c.open-in-Framed-Ok.ensures in
    let hears = c.hear_frame.follows.holds-at-none in
    let e : taken_at o pdu ≡ Framed (Ok frame) = sym c.taken.ensures.reads ∙ ap plain_reading c.in-Framed-Ok.is ∙ ap (λ found. Framed (answer found)) c.in-Framed-Ok.field-0-is in
    let f : fault_on (place_setup (option_map opened o)) frame ≡ None =
    ap (λ (x : Option Held). fault_on (place_setup x) frame) (sym opening.there) ∙ sym c.fault.ensures ∙ c.in_default.is in
    let w_is : w.channels ≡ on_place (with_setup_at opens) o v = ap (λ (x : Machine). x.channels) opening.after in
    let after : c.hear_frame.follows.lender-at-none ≡ with_channels m (takes_held o pdu v) =
    hears.after
    ∙ ap (λ (x : Option Held). with_channels w (on_place (hears_in frame) x w.channels)) opening.there
    ∙ ap (with_channels w) (stays_at o pdu frame v w.channels e c.taken.ensures.open w_is f)
    ∙ ap (λ (x : Machine). with_channels x (takes_held o pdu v)) opening.after in
    ((refl, (λ w. tt), record { up = hears.up ∙ ap (λ (x : Option Held). frame_up x frame) opening.there ∙ up_stays o pdu frame e; after = after }), tt)
