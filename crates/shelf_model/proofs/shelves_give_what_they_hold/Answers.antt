use Rattle.shelf_model.proofs.Sizes.{shelves-give_what_they_hold}
use Rattle.shelf_model.proofs.shelves_give_what_they_hold.Goals as goal

pub returns : goal.returns
returns c = shelves-give_what_they_hold
