use Rattle.std.proofs.Common.{rules}
use Rattle.std.proofs.lemmas.Str.{is_utf8-from_IsUtf8}
use Rattle.push_script.proofs.lines.name_stated.Goals as goal

pub returns-clause-name : goal.returns-clause-name
returns-clause-name c = (record { text = is_utf8-from_IsUtf8 c.args.name.now c.utf8.name; some = search rules; few = search rules; line = search rules }, search rules)
