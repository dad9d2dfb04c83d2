use Rattle.push_script.proofs.FirstLines.{first_of, rest_shorter, lines_last}
use Rattle.push_script.proofs.finding.first_line.Goals as goal

pub returns-in-Some : goal.returns-in-Some
returns-in-Some c = let h = c.in-Some.ensures.found in record {
  lines = first_of c.args.text.now c.in-Some.line.now c.in-Some.rest.now h.0 h.1 h.2;
  shorter = rest_shorter c.args.text.now c.in-Some.rest.now h.1 h.2;
}

pub returns-in-None : goal.returns-in-None
returns-in-None c = record { lines = lines_last c.args.text.now c.requires c.in-None.ensures.none; shorter = c.requires }
