use Rattle.shelf_model.proofs.Sizes.{sizes-are_of_objects}
use Rattle.shelf_model.proofs.sizes_are_of_objects.Goals as goal

pub returns : goal.returns
returns c = sizes-are_of_objects
