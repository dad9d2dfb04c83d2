use Rattle.std.proofs.Common.{◌≡◌, ◌∙◌, ◌==◌, List, length, true, refl, sym, ap, subst, rules}
use Rattle.std.specs.Prelude.{slice_get, Some}
use Rattle.std.specs.List.{find}
use Rattle.std.proofs.lemmas.Option.{slice_get_read}
use Rattle.channel_model.specs.Value.{Held}
use Rattle.channel_model.specs.Changing.{has_own}
use Rattle.l2cap_channels.specs.Machine.{Machine}
use Rattle.l2cap_channels.proofs.Finding.{found_at}
use Rattle.l2cap_channels.proofs.channels.Channels.place_of.Goals as goal

pub returns-then-get-own-clause-place : goal.returns-then-get-own-clause-place
returns-then-get-own-clause-place c =
    let held : List Held = c.deref-place-items.result.now in
    let same : held ≡ c.args.self.now.channels.held = c.deref-place-items.ensures.value ∙ ap (λ (m : Machine). m.channels.held) c.self.view_is in
    let read : slice_get held c.loop-at.at ≡ Some c.place-item.result = slice_get_read held (length held) c.loop-at.at c.place-item.result refl c.loop-at-test.true c.place-item.is in
    let own : (c.place-item.result.own == c.args.own) ≡ true = search rules in
    subst (λ (h : List Held). slice_get h c.loop-at.at ≡ find (has_own c.args.own) h) same (read ∙ sym (found_at (has_own c.args.own) held c.loop-at.at c.place-item.result c.loop-at.invariant read own))
