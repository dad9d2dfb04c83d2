use Rattle.std.proofs.Common.{Some, sym, ap, ◌∙◌}
use Rattle.std.specs.Option.{option_copied}
use Rattle.seen_channels.proofs.Places.{found_in}
use Rattle.seen_channels.proofs.Keeping.{copied_got}
use Rattle.seen_channels.proofs.channels.Channels.find.Goals as goal

pub returns-in_err-place : goal.returns-in_err-place
returns-in_err-place c learnt keeps =
    let side = c.side.ensures learnt keeps in
    c.from_residual.ensures ∙ found_in c.args.direction c.args.cid learnt.channels _ _ keeps.list (sym (ap option_copied c.in_err-place.was) ∙ c.get.ensures.value ∙ side.places c.args.cid)

pub returns : goal.returns
returns c learnt keeps =
    let side = c.side.ensures learnt keeps in
    let lookup = c.get-2.ensures.lookup in
    c.copied.ensures
    ∙ copied_got _ _ c.get-2.result lookup.0 lookup.1
    ∙ found_in c.args.direction c.args.cid learnt.channels _ (Some c.in_ok-place.field-0.now) (c.deref.ensures.value ∙ keeps.list) (sym (ap option_copied c.in_ok-place.was) ∙ c.get.ensures.value ∙ side.places c.args.cid)
