use Rattle.rfcomm_laws.proofs.Answering.{commands-are_answered_once, frames-are_answered_once}
use Rattle.rfcomm_laws.proofs.commands_are_answered_once.Goals as goal

pub returns-clause-messages : goal.returns-clause-messages
returns-clause-messages c = commands-are_answered_once

pub returns-clause-frames : goal.returns-clause-frames
returns-clause-frames c = frames-are_answered_once
