use Rattle.std.proofs.Common.{◌++◌, map, sym, ap, ◌∙◌}
use Rattle.object_lines.specs.Tallies.{plain_told}
use Rattle.object_lines.proofs.Heard.{heard_all, found_with}
use Rattle.object_lines.proofs.objects.Hearer.finish.Goals as goal

pub returns-in-None : goal.returns-in-None
returns-in-None c party past heard =
    let tells = found_with (map plain_told c.args.self.now.found.items) in
    heard_all party past c.args.self.now _ (sym (ap tells c.in-None.is) ∙ ap tells c.take-up.ensures.value) heard

pub returns-in_ok-append-in-Some : goal.returns-in_ok-append-in-Some
returns-in_ok-append-in-Some c party past heard =
    let tells = found_with (map plain_told c.args.self.now.found.items) in
    heard_all party past c.args.self.now _
    (c.in_ok-append-in-Some.ensures ∙ ap (λ more. map plain_told c.args.self.now.found.items ++ more) c.into_found.ensures ∙ sym (ap tells c.in-Some.is) ∙ ap tells c.take-up.ensures.value) heard
