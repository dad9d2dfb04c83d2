-- The options that a host asks for of its channels are its first ones, while its peer suggests no others.
use Rattle.std.proofs.Common.{◌≡◌, refl}
use Rattle.channel_laws.specs.channel_model.specs.Asking.{first_options}
use Rattle.channel_laws.specs.channel_model.specs.Policies.{Policy}
use Rattle.channel_laws.specs.channel_model.specs.Value.{Unasked, Asking, Granted}
use Rattle.accepting_laws.proofs.Owning.{OfSetup, Stays, OfOwn, OwnOf, own-stays}

-- those of a request that waits are the first ones
abbrev pub FirstOwn : Policy → OfOwn
FirstOwn policy psm own peer Unasked = Unit {0}
FirstOwn policy psm own peer (Asking request options) = options ≡ first_options (policy.wish psm)
FirstOwn policy psm own peer Granted = Unit {0}

abbrev pub IsFirst : Policy → OfSetup
IsFirst policy = OwnOf (FirstOwn policy)

pub first-stays : (policy : Policy) → Stays policy (IsFirst policy)
first-stays policy = own-stays policy (FirstOwn policy) (record { made = λ psm own peer request is. refl; given = λ psm own peer request options is. is; granted = λ psm own peer. tt })
