use Rattle.cost_laws.proofs.Runs.{runs-pay_requests}
use Rattle.cost_laws.proofs.laws.runs_pay_requests.Goals as goal

pub returns : goal.returns
returns c =
    runs-pay_requests c.tries_are_kept.ensures c.disturbances_are_counted.ensures c.features_are_heeded.ensures c.connections_are_met.ensures c.none_is_called.ensures c.options_of_left_are_counted.ensures c.few_words_go_on.ensures c.requests_cost_words.ensures
