use Rattle.std.proofs.Common.{◌≡◌, Some, None, refl, sym, ◌∙◌}
use Rattle.std.proofs.lemmas.Option.{slice_get_read}
use Rattle.seen_channels.specs.Tables.{place_of}
use Rattle.seen_channels.proofs.Places.{found_in}
use Rattle.seen_channels.proofs.Keeping.{mode_kept, place_there}
use Rattle.seen_channels.proofs.channels.Channels.configure.Goals as goal

pub returns-in_default-copied : goal.returns-in_default-copied
returns-in_default-copied c learnt keeps =
    let side = c.side.ensures learnt keeps in
    let at : None ≡ place_of c.args.direction c.args.destination learnt.channels = sym c.in_default-copied.is ∙ c.copied.ensures ∙ c.get.ensures.value ∙ side.places c.args.destination in
    mode_kept c.args.direction c.args.destination c.in-Some.enhanced _ learnt _ _ None _ (sym c.in-Some.is ∙ c.mode_asked.ensures) keeps at refl refl refl refl

pub returns-in-Some-get_mut : goal.returns-in-Some-get_mut
returns-in-Some-get_mut c learnt keeps =
    let side = c.side.ensures learnt keeps in
    let at : Some c.in-Some-copied.place ≡ place_of c.args.direction c.args.destination learnt.channels = sym c.in-Some-copied.is ∙ c.copied.ensures ∙ c.get.ensures.value ∙ side.places c.args.destination in
    let there = place_there c.args.direction c.args.destination learnt.channels _ c.in-Some-copied.place keeps.list at in
    let value = rw c.in-Some-get_mut.is at c.get_mut.ensures.value in
    let found = sym (slice_get_read _ _ c.in-Some-copied.place c.in-Some-get_mut.channel.now refl there value) ∙ found_in c.args.direction c.args.destination learnt.channels _ (Some c.in-Some-copied.place) keeps.list at in
    mode_kept c.args.direction c.args.destination c.in-Some.enhanced _ learnt _ _ (Some c.in-Some-copied.place) (Some c.in-Some-get_mut.channel.now) (sym c.in-Some.is ∙ c.mode_asked.ensures) keeps at found refl refl refl

pub returns-in_default-get_mut : goal.returns-in_default-get_mut
returns-in_default-get_mut c learnt keeps =
    let side = c.side.ensures learnt keeps in
    let at : Some c.in-Some-copied.place ≡ place_of c.args.direction c.args.destination learnt.channels = sym c.in-Some-copied.is ∙ c.copied.ensures ∙ c.get.ensures.value ∙ side.places c.args.destination in
    let there = place_there c.args.direction c.args.destination learnt.channels _ c.in-Some-copied.place keeps.list at in
    let some = rw c.in_default-get_mut.is at c.get_mut.ensures.item in
    absurd (let none = some.2 there in cc)
