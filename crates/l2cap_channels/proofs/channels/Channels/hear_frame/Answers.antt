use Rattle.std.proofs.Common.{◌∙◌, ◌<◌, length, refl, sym, ap, subst}
use Rattle.std.specs.Prelude.{Option}
use Rattle.ertm_frames.specs.Frames.{plain}
use Rattle.channel_model.specs.Value.{Held}
use Rattle.l2cap_channels.specs.Arriving.{heard_setup, frame_up}
use Rattle.l2cap_channels.specs.Machine.{Machine}
use Rattle.l2cap_channels.specs.Steps.{with_change}
use Rattle.l2cap_channels.proofs.Changed.{sound_set, set_machine}
use Rattle.l2cap_channels.proofs.Giving.{place_read}
use Rattle.l2cap_channels.proofs.channels.Channels.hear_frame.Goals as goal

pub invariant_of-self : goal.invariant_of-self
invariant_of-self c =
    sound_set c.self.inside c.args.at c.index_mut-place.result.now c.hear.follows.lender-at-none c.self.invariant
    (subst (λ (x : Machine). c.args.at < length x.channels.held) (sym c.self.view_is) c.requires.place) c.index_mut-place.ensures.value (ap (λ (k : Held). k.own) c.hear.follows.holds-at-none.after)

pub returns : goal.returns
returns c =
    let frame = plain c.args.frame in
    let read = place_read c.self.inside c.args.self.now c.args.at c.index_mut-place.result.now c.self.view_is c.requires.place c.index_mut-place.ensures.value in (
      (
        refl,
        (λ w. tt),
        record {
          up = c.hear.follows.holds-at-none.up ∙ ap (λ (o : Option Held). frame_up o frame) (sym read);
          after = set_machine c.self.inside c.args.self.now c.args.at c.index_mut-place.result.now c.hear.follows.lender-at-none (λ k. with_change (heard_setup frame) k.stage) c.self.view_is c.self.invariant c.requires.place
              c.index_mut-place.ensures.value c.hear.follows.holds-at-none.after;
        },
      ),
      tt,
    )
