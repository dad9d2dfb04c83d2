-- Where nothing is lost, each way keeps its order, also with a tape.
use Rattle.std.proofs.Common.{true, Option}
use Rattle.inbox_laws.specs.bt_base.specs.Objects.{Contents}
use Rattle.inbox_laws.specs.push_script.specs.declared.scenario.Scenario.{Scenario}
use Rattle.inbox_laws.specs.channel_laws.specs.Pairs.{Near, Far}
use Rattle.inbox_laws.specs.host_model.specs.Servers.{ServerProfile}
use Rattle.inbox_laws.specs.shelf_model.specs.Held.{held_by}
use Rattle.inbox_laws.specs.host_laws.specs.ShelfAnswers.{AnswersOf}
use Rattle.inbox_laws.specs.pair_laws.proofs.Pairing.{answers_allowed, ordered}
use Rattle.tape_laws.specs.Pairs.{TapedKeepOrder}
use Rattle.tape_laws.specs.Taped.{Tape}
use Rattle.tape_laws.proofs.Pairs.{takes_turns}

pub taped_keep_order : {T : Type 0} (scenario : Scenario) (content : Option Contents) (tape : Tape ServerProfile T) → TapedKeepOrder scenario content tape
taped_keep_order scenario content tape asks shelf capture ran world happened is gentle =
    let so = takes_turns true asks scenario content tape (held_by shelf) (AnswersOf shelf) (answers_allowed shelf) capture ran world happened is (λ on. gentle) in
    record {
      order = record { turns = so.turns; near = λ number. ordered Near (so.turns.pairs.pairs number).turns (so.kept number); far = λ number. ordered Far (so.turns.pairs.pairs number).turns (so.kept number) };
      told = so.told;
      given = so.given;
    }
