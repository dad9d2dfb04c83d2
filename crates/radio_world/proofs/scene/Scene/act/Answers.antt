use Rattle.std.proofs.Common.{ℕ, suc, ◌+◌, ◌≤◌, length, ap, subst, ◌∙◌, arith}
use Rattle.bt_base.specs.Streams.{gained, GainedFront}
use Rattle.push_terms.specs.Words.{word_text}
use Rattle.script_words.proofs.Lengths.{word_short}
use Rattle.capture.specs.Entries.{Acted, entry_octets}
use Rattle.radio_world.specs.Scenes.{Scene}
use Rattle.radio_world.proofs.scene.Scene.act.Goals as goal

-- a word's text is short beside a packet
fits : (n : ℕ) → n ≤ 24 → suc (suc (suc (suc (suc (suc (suc (suc (suc (suc (suc n)))))))))) ≤ 1029
fits n short = omega (arith, short)

pub record-requires-clause-short : goal.record-requires-clause-short
record-requires-clause-short g c = fits (length (word_text c.args.word)) (word_short c.args.word c.requires.word)

pub returns-clause-written : goal.returns-clause-written
returns-clause-written g c =
    c.in_ok-record.ensures.ok ∙ ap (λ (s : Scene). gained (g.T.Sink.content c.args.trace.now) (entry_octets (Acted (s.turned + 1) c.args.word))) c.self.view_is

pub returns-clause-front : goal.returns-clause-front
returns-clause-front g c =
    subst (λ (s : Scene). GainedFront (g.T.Sink.content c.args.trace.now) (g.T.Sink.content c.record.new.trace) (entry_octets (Acted (s.turned + 1) c.args.word))) c.self.view_is c.record.ensures.front
