use Rattle.std.proofs.Common.{◌≡◌, ◌+◌, ◌≤◌, Ok, length}
use denote.Shadow.{shadow}
use denote.Text.{Utf8}
use Rattle.push_script.specs.Reading.{no_draft, lines, lines_read}
use Rattle.push_script.proofs.reading.read_lines.Given as goal

abbrev pub invariant-loop-rest : goal.invariant-loop-rest
invariant-loop-rest l = record {
  so_far : lines_read l.number (Ok l.draft) (lines l.rest) ≡ lines_read 1 (Ok no_draft) (lines l.fn.text);
  few : l.number + length l.rest ≤ 1048577;
  utf8 : shadow (Utf8 l.rest);
}

abbrev pub decreases-loop-rest : goal.decreases-loop-rest
decreases-loop-rest l = length l.rest
