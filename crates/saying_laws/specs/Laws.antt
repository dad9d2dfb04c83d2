-- That what a host says and does by itself is one thing (this project's own).
use Rattle.std.specs.Prelude.{◌≡◌, ◌↔◌}
use Rattle.bt_host.specs.host_model.specs.Profiles.{Profile}
use Rattle.bt_host.specs.Stacks.{Standing, says_all, goes_out}
use Rattle.saying_laws.specs.Speaking.{SaysUntilNone, GoesUntilNone}

-- From each moment, saying PDUs until none may be said leads to one moment and to no other.
abbrev pub PdusAreSaidUntilNone : Type 0 → Type 0
PdusAreSaidUntilNone S = (A : Profile S) (old new : Standing S) → (SaysUntilNone A old new ↔ (new ≡ says_all A old))

-- So does all that it does by itself.
abbrev pub ItGoesUntilNone : Type 0 → Type 0
ItGoesUntilNone S = (A : Profile S) (old new : Standing S) → (GoesUntilNone A old new ↔ (new ≡ goes_out A old))
