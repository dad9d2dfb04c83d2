use Rattle.endpoint_laws.proofs.Given.{endpoints-rise, given-are_below, endpoints-are_given_once, later-are_greater}
use Rattle.endpoint_laws.proofs.laws.endpoints_are_given_once.Goals as goal

pub returns : goal.returns
returns c = record { rise = endpoints-rise; below = given-are_below; once = endpoints-are_given_once; greater = later-are_greater }
